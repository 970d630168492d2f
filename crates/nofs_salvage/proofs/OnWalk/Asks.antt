-- What a walk asks, step by step.
use Rattle.std.proofs.Common.{◌≡◌, ℕ, ◌<◌, inl, inr, ◌⊎◌, List, [], ◌∷◌, ◌++◌, Bool, true, false, if◌then◌else◌, Option}
use Rattle.std.proofs.Common.{Some}
use Rattle.std.proofs.Common.{refl, sym, ap, ◌∙◌, subst, append_assoc, length, get_or}
use Rattle.std.specs.Prelude.{All, Contains, IfOk, slice_get}
use Rattle.std.proofs.lemmas.List.{append-nil, append_cancel_left}
use Rattle.std.proofs.lemmas.List.Elements.{All-nil, All-cons, All-append, All-get_or, All-weaker, All-contains_itself}
use Rattle.std.proofs.lemmas.List.Elements.{Contains-append_left, Contains-push}
use Rattle.std.proofs.lemmas.Option.{get_or_from_slice_get, slice_get_within}
use Rattle.nofs_history.specs.Machine.{slots_in, is_refused}
use Rattle.nofs_history.specs.Steps.{Made, with_made, is_out_of_memory}
use Rattle.nofs_history.specs.declared.machine.steps.Step.{Step}
use Rattle.nofs_history.specs.declared.machine.steps.Step.TheVariants as step
use Rattle.nofs_history.specs.declared.machine.replies.Reply.{Reply}
use Rattle.nofs_history.specs.declared.machine.replies.Reply.TheVariants as reply
use Rattle.nofs_history.specs.declared.machine.replies.Refusal.{Refusal}
use Rattle.nofs_history.specs.declared.machine.replies.Refusal.TheVariants as refusal
use Rattle.nofs_history.specs.declared.machine.replies.NameLine.{NameLine}
use Rattle.nofs_salvage.specs.declared.report.answers.InodeHandle.{InodeHandle}
use Rattle.nofs_salvage.specs.declared.report.tree.Tree.{Tree}
use Rattle.nofs_salvage.specs.Walk.Steps.{MakesReads, IsAccepted, found_by, size_by, listed_by, got_by}
use Rattle.nofs_salvage.specs.Walk.Refusals.{MakesOne}
use Rattle.nofs_salvage.specs.Report.Inodes.{root_handle, label_handle, with_handle}
use Rattle.nofs_salvage.specs.Report.InHand.{handles_in}
use Rattle.nofs_salvage.specs.Walk.Asks.{IsGiven, IsReached, Root, Label, Looked, IsGotten, IsBelowSize, MayBeAsked}
use Rattle.nofs_salvage.specs.Walk.Asks.{Asks, HasReached, HasGiven, HasTold}
use Rattle.nofs_salvage.specs.Walk.Asks.{AreGiven, ListGives, has_slot, AreReached}

-- More steps

met-more : (before more : List Made) (i g : ℕ) → IsReached before i g → IsReached (before ++ more) i g
met-more before more i g (Root a b) = Root a b
met-more before more i g (Label a b) = Label a b
met-more before more i g (Looked d of name found has a b) =
    Looked d of name found (Contains-append_left before more (step.Look d of name, reply.Found found) has) a b

given-more : (before more : List Made) (d g : ℕ) (name : List ℕ) → IsGiven before d g name
    → IsGiven (before ++ more) d g name
given-more before more d g name h = record {
  from = h.from;
  slot = h.slot;
  lines = h.lines;
  line = h.line;
  list = Contains-append_left before more (step.List d g h.from, reply.Names h.slot h.lines) h.list;
  has = h.has;
  live = h.live;
  is = h.is;
}

further : (old mid new made more : List Made) → mid ≡ old ++ made → new ≡ mid ++ more → new ≡ old ++ (made ++ more)
further old mid new made more a b = b ∙ ap (λ l. l ++ more) a ∙ append_assoc old made more

pub met-on : (old mid new : List Made) (why : Option Refusal) (at : InodeHandle) → MakesReads mid new why
    → HasReached old mid at → HasReached old new at
met-on old mid new why at reads h = record {
  made = h.made ++ reads.made;
  more = further old mid new h.made reads.made h.more reads.more;
  met = met-more h.made reads.made at.inode at.generation h.met;
}

given-on : (old mid new : List Made) (why : Option Refusal) (at : InodeHandle) (name : List ℕ) → MakesReads mid new why
    → HasGiven old mid at name
    → HasGiven old new at name
given-on old mid new why at name reads h = record {
  made = h.made ++ reads.made;
  more = further old mid new h.made reads.made h.more reads.more;
  given = given-more h.made reads.made at.inode at.generation name h.given;
}

pub all-met-on : (old mid new : List Made) (why : Option Refusal) (tree : Tree) → MakesReads mid new why
    → AreReached old mid tree → AreReached old new tree
all-met-on old mid new why tree reads h =
    All-weaker (HasReached old mid) (HasReached old new) (λ at. met-on old mid new why at reads) (handles_in tree) h

-- One step

-- the last of some steps, or one before it
split-last : (made : List Made) (x : Made) (before after : List Made) (m : Made) → made ++ x ∷ [] ≡ before ++ m ∷ after
    → ((made ≡ before) × (x ≡ m)) ⊎ ((rest : List Made) × (made ≡ before ++ m ∷ rest))
split-last [] x [] after m h = inl (refl, cc h)
split-last [] x (b ∷ []) after m h = absurd (cc h)
split-last [] x (b ∷ c ∷ before) after m h = absurd (cc h)
split-last (y ∷ made) x [] after m h = let same : y ≡ m = cc h in inr (made, ap (λ z. z ∷ made) same)
split-last (y ∷ made) x (b ∷ before) after m h =
    let same : y ≡ b = cc h in
    let rest : made ++ x ∷ [] ≡ before ++ m ∷ after = cc h in elim (split-last made x before after m rest) [
      | inl last ↦ inl (ap (λ l. y ∷ l) last.0 ∙ ap (λ z. z ∷ before) same, last.1)
      | inr early ↦ inr (early.0, ap (λ l. y ∷ l) early.1 ∙ ap (λ z. z ∷ before ++ m ∷ early.0) same)
    ]

pub asks-none : (old : List Made) → Asks old old
asks-none old = record { made = []; more = sym (append-nil old); each = none }
  where
    none : (before after : List Made) (m : Made) → [] ≡ before ++ m ∷ after → MayBeAsked before m.0
    none [] after m h = absurd (cc h)
    none (b ∷ before) after m h = absurd (cc h)

asks-one : (old mid new : List Made) (s : Step) → Asks old mid → MakesOne mid new s
    → ((made : List Made) → mid ≡ old ++ made → MayBeAsked made s)
    → Asks old new
asks-one old mid new s asks one asked = go (is_out_of_memory one.reply) one.more
  where
    x : Made
    x = (s, one.reply)

    go : (b : Bool) → new ≡ (if b then mid else mid ++ x ∷ []) → Asks old new
    go true is = subst (Asks old) (sym is) asks
    go false is = record {
      made = asks.made ++ x ∷ [];
      more = further old mid new asks.made (x ∷ []) asks.more is;
      each = λ before after m h. elim (split-last asks.made x before after m h) [
        | inl last ↦ subst (λ (l : List Made). MayBeAsked l m.0) last.0
            (subst (λ (y : Made). MayBeAsked asks.made y.0) last.1 (asked asks.made asks.more))
        | inr early ↦ asks.each before early.0 m early.1
      ];
    }

-- what is known of the steps from old to mid
known : (old mid made also : List Made) (P : List Made → Type 0)
    → mid ≡ old ++ made → mid ≡ old ++ also → P made → P also
known old mid made also P a b h = subst P (append_cancel_left old made also (sym a ∙ b)) h

module _ (old mid new : List Made) (at : InodeHandle) (asks : Asks old mid) where
  pub asks-look : (name : List ℕ) → HasGiven old mid at name
      → MakesOne mid new (step.Look at.inode at.generation name) → Asks old new
  asks-look name h one = asks-one old mid new (step.Look at.inode at.generation name) asks one
      (λ made more. known old mid h.made made (λ l. IsGiven l at.inode at.generation name) h.more more h.given)

  pub asks-list : (k : ℕ) → HasReached old mid at → MakesOne mid new (step.List at.inode at.generation k) → Asks old new
  asks-list k h one = asks-one old mid new (step.List at.inode at.generation k) asks one
      (λ made more. known old mid h.made made (λ l. IsReached l at.inode at.generation) h.more more h.met)

  pub asks-stat : HasReached old mid at → MakesOne mid new (step.Stat at.inode at.generation) → Asks old new
  asks-stat h one = asks-one old mid new (step.Stat at.inode at.generation) asks one
      (λ made more. known old mid h.made made (λ l. IsReached l at.inode at.generation) h.more more h.met)

  pub asks-get : (k size : ℕ) → k < slots_in size → HasReached old mid at → HasTold old mid at size
      → MakesOne mid new (step.Get at.inode at.generation k)
      → Asks old new
  asks-get k size low h told one = asks-one old mid new (step.Get at.inode at.generation k) asks one (λ made more. (
    known old mid h.made made (λ l. IsReached l at.inode at.generation) h.more more h.met,
    known old mid told.made made (λ l. IsBelowSize l at.inode at.generation k) told.more more (told.below k low),
  ))

-- What a step tells

last-in : (made : List Made) (x : Made) → Contains (made ++ x ∷ []) x
last-in made x = Contains-push made x

pub look-met : (mid new : List Made) (d g : ℕ) (name : List ℕ) (r : Reply) → IsAccepted mid new (step.Look d g name) r
    → IfOk (found_by r) (λ at. (old : List Made) → Asks old mid → HasReached old new at)
look-met mid new d g name (reply.Found found) is = λ old asks.
    let x : Made = (step.Look d g name, reply.Found found) in record {
      made = asks.made ++ x ∷ [];
      more = further old mid new asks.made (x ∷ []) asks.more is.more;
      met = Looked d g name found (last-in asks.made x) refl refl;
    }
look-met mid new d g name _ is = tt

pub stat-told : (mid new : List Made) (at : InodeHandle) (r : Reply)
    → IsAccepted mid new (step.Stat at.inode at.generation) r
    → IfOk (size_by r) (λ size. (old : List Made) → Asks old mid → HasTold old new at size)
stat-told mid new at (reply.Stat told) is = λ old asks.
    let x : Made = (step.Stat at.inode at.generation, reply.Stat told) in record {
      made = asks.made ++ x ∷ [];
      more = further old mid new asks.made (x ∷ []) asks.more is.more;
      below = λ k low. record {
        first = asks.made;
        told = told;
        gets = [];
        steps = refl;
        gotten = All-nil (IsGotten at.inode at.generation);
        below = low;
      };
    }
stat-told mid new at _ is = tt

pub list-gives : (mid new : List Made) (at : InodeHandle) (k : ℕ) (r : Reply)
    → IsAccepted mid new (step.List at.inode at.generation k) r
    → IfOk (listed_by r) (λ listed. (old : List Made) → Asks old mid → ListGives old new at listed)
list-gives mid new at k (reply.Names l lines) is = λ old asks.
    let x : Made = (step.List at.inode at.generation k, reply.Names l lines) in
    All-weaker (Contains lines) (λ (line : NameLine). line.dead ≡ false → HasGiven old new at line.name)
    (λ line has live. record {
      made = asks.made ++ x ∷ [];
      more = further old mid new asks.made (x ∷ []) asks.more is.more;
      given = record {
        from = k;
        slot = l;
        lines = lines;
        line = line;
        list = last-in asks.made x;
        has = has;
        live = live;
        is = refl;
      };
    }) lines (All-contains_itself lines)
list-gives mid new at k (reply.LostNames l) is = λ old asks. tt
list-gives mid new at k reply.NoMore is = λ old asks. tt
list-gives mid new at k _ is = tt

-- a get that was not refused
told-on : (old mid new : List Made) (at : InodeHandle) (size k : ℕ) (r : Reply)
    → is_refused r ≡ false → new ≡ with_made mid (step.Get at.inode at.generation k) r
    → HasTold old mid at size → HasTold old new at size
told-on old mid new at size k r ok more h = go (is_out_of_memory r) refl more
  where
    x : Made
    x = (step.Get at.inode at.generation k, r)

    go : (b : Bool) → is_out_of_memory r ≡ b → new ≡ (if b then mid else mid ++ x ∷ []) → HasTold old new at size
    go true e is = subst (λ (l : List Made). HasTold old l at size) (sym is) h
    go false e is = record {
      made = h.made ++ x ∷ [];
      more = further old mid new h.made (x ∷ []) h.more is;
      below = λ j low. let b = h.below j low in record {
        first = b.first;
        told = b.told;
        gets = b.gets ++ x ∷ [];
        steps = ap (λ l. l ++ x ∷ []) b.steps
            ∙ append_assoc b.first ((step.Stat at.inode at.generation, reply.Stat b.told) ∷ b.gets) (x ∷ []);
        gotten = All-append (IsGotten at.inode at.generation) b.gets (x ∷ []) b.gotten
            (All-cons (IsGotten at.inode at.generation) x [] (refl, refl, ok)
            (All-nil (IsGotten at.inode at.generation)));
        below = b.below;
      };
    }

pub got-told : (mid : List Made) (at : InodeHandle) (k : ℕ) (r : Reply)
    → IfOk (got_by r) (λ got. (old : List Made) (size : ℕ) → has_slot got ≡ true
    → HasTold old mid at size → HasTold old (with_made mid (step.Get at.inode at.generation k) r) at size)
got-told mid at k (reply.Bytes b) = λ old size slot h. told-on old mid _ at size k (reply.Bytes b) refl refl h
got-told mid at k reply.Hole = λ old size slot h. told-on old mid _ at size k reply.Hole refl refl h
got-told mid at k reply.Lost = λ old size slot h. told-on old mid _ at size k reply.Lost refl refl h
got-told mid at k (reply.Refused refusal.TooLarge) = λ old size slot h. absurd (cc slot)
got-told mid at k (reply.Refused why) = tt
got-told mid at k _ = tt

-- The lines

-- those that were given stay so
pub given-at : (old mid new : List Made) (why : Option Refusal) (at : InodeHandle) (lines : List NameLine) (i : ℕ)
    (line : NameLine) → i < length lines
    → line ≡ get_or lines i line → MakesReads mid new why → AreGiven old mid at lines
    → line.dead ≡ false → HasGiven old new at line.name
given-at old mid new why at lines i line low is reads h =
    let here : (get_or lines i line).dead ≡ false → HasGiven old mid at (get_or lines i line).name =
    All-get_or (λ (l : NameLine). l.dead ≡ false → HasGiven old mid at l.name) lines i line low h in
    λ live. given-on old mid new why at line.name reads
    (subst (λ (l : NameLine). l.dead ≡ false → HasGiven old mid at l.name) (sym is) here live)

pub given-copied : (old now : List Made) (at : InodeHandle) (name copied : List ℕ)
    → copied ≡ name → HasGiven old now at name → HasGiven old now at copied
given-copied old now at name copied same h = subst (HasGiven old now at) (sym same) h

-- The directories

pub met-root : (old now : List Made) (tree : Tree) → Asks old now
    → handles_in tree ≡ root_handle ∷ [] → AreReached old now tree
met-root old now tree asks is = subst (All (HasReached old now)) (sym is)
    (All-cons (HasReached old now) root_handle [] (record { made = asks.made; more = asks.more; met = Root refl refl })
    (All-nil (HasReached old now)))

pub met-label : (old : List Made) → HasReached old old label_handle
met-label old = record { made = []; more = sym (append-nil old); met = Label refl refl }

with-met : (old now : List Made) (handles : List InodeHandle) (at : InodeHandle) (b : Bool)
    → All (HasReached old now) handles → HasReached old now at
    → All (HasReached old now) (if b then handles else handles ++ at ∷ [])
with-met old now handles at true h one = h
with-met old now handles at false h one = All-append (HasReached old now) handles (at ∷ []) h
    (All-cons (HasReached old now) at [] one (All-nil (HasReached old now)))

pub met-with : (old now : List Made) (at : InodeHandle) (before after : Tree)
    → handles_in after ≡ with_handle (handles_in before) at → HasReached old now at
    → AreReached old now before → AreReached old now after
met-with old now at before after is one h =
    subst (All (HasReached old now)) (sym is) (with-met old now (handles_in before) at _ h one)

pub met-at : (old now : List Made) (tree : Tree) (n : ℕ) (at : InodeHandle) → slice_get (handles_in tree) n ≡ Some at
    → AreReached old now tree
    → HasReached old now at
met-at old now tree n at is h = subst (HasReached old now) (get_or_from_slice_get (handles_in tree) n at at is)
    (All-get_or (HasReached old now) (handles_in tree) n at (slice_get_within (handles_in tree) n at is) h)
