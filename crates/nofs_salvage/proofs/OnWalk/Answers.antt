-- What the machine's answers to the steps of a walk say.
use Rattle.std.proofs.Common.{◌≡◌, ℕ, ◌<◌, ◌≤◌, inl, inr, List, [], ◌∷◌, Bool, true, false, nat_le, ◌==◌, if◌then◌else◌}
use Rattle.std.proofs.Common.{Option, Some, None, refl, sym, ap, ◌∙◌, subst, leb-true, arith}
use Rattle.std.specs.Prelude.{IfOk}
use Rattle.std.proofs.lemmas.Bool.Decides.{nat_tests}
use Rattle.nofs_dirent.specs.declared.entry.Entry.{Entry}
use Rattle.nofs_ptrs.specs.Paths.{slot_limit}
use Rattle.nofs_model.specs.Files.{FileState, Files, entry_at}
use Rattle.nofs_model.specs.declared.image.value.Value.{Value}
use Rattle.nofs_model.specs.declared.image.value.Value.TheVariants as value
use Rattle.nofs_history.specs.Search.{first_of}
use Rattle.nofs_history.specs.Machine.{value_of, size_of, found, is_lost, is_refused}
use Rattle.nofs_history.specs.World.{World}
use Rattle.nofs_history.specs.Refusals.{rows, row, slots, too_large, stale, is_directory}
use Rattle.nofs_history.specs.Answers.{reply_of, found_reply, found_entry, found_file, stat_reply, stat_file}
use Rattle.nofs_history.specs.Answers.{listed_reply, lines_in_slot, got_reply}
use Rattle.nofs_history.specs.Next.{Next, AfterFault, ByRow, Done, ByRead, ByWrite}
use Rattle.nofs_history.specs.Steps.{Made, with_made}
use Rattle.nofs_history.specs.declared.machine.history.Claims.{Claims}
use Rattle.nofs_history.specs.declared.machine.history.Entry1.{Entry1}
use Rattle.nofs_history.specs.declared.machine.replies.Found.{Found}
use Rattle.nofs_history.specs.declared.machine.replies.Stat.{Stat}
use Rattle.nofs_history.specs.declared.machine.steps.Step.{Step}
use Rattle.nofs_history.specs.declared.machine.steps.Step.TheVariants as step
use Rattle.nofs_history.specs.declared.machine.replies.Reply.{Reply}
use Rattle.nofs_history.specs.declared.machine.replies.Reply.TheVariants as reply
use Rattle.nofs_history.specs.declared.machine.replies.Refusal.{Refusal}
use Rattle.nofs_history.specs.declared.machine.replies.Refusal.TheVariants as refusal
use Rattle.nofs_salvage.specs.Walk.Steps.{IsAccepted, found_by, size_by, listed_by, got_by}
use Rattle.nofs_salvage.specs.Report.Losses.{inode_in, inode_at, inode_found}
use Rattle.nofs_salvage.specs.Walk.Answers.{IsAnswered, AreAnswered, first_data_slot, IsListedFrom, IsGot}
use Rattle.nofs_salvage.proofs.OnWalk.Steps.{answered-one}

pub clash : (b : Bool) → b ≡ true → b ≡ false → ⊥
clash b t f = cc (t, f)

-- a step that was done in a world with the files of W
pub record IsDone (W : World) (s : Step) (r : Reply) : Type 0 where
  pub before : World
  pub after : World
  pub claims : Claims
  pub version : before.version ≡ W.version
  pub files : before.files ≡ W.files
  pub no_row : first_of (rows before after s) ≡ None
  pub reply : r ≡ reply_of before s claims

done-by : (W U V : World) (e : Entry1)
    → U.version ≡ W.version → U.files ≡ W.files → is_refused e.reply ≡ false → Next U e V → IsDone W e.step e.reply
done-by W U V e version files ok (AfterFault s r c same) = absurd (clash (is_refused e.reply) (ap is_refused r) ok)
done-by W U V e version files ok (ByRow why s f (inl r) c k st l) =
    absurd (clash (is_refused e.reply) (ap is_refused r) ok)
done-by W U V e version files ok (ByRow why s f (inr (r, late)) c k st l) =
    absurd (clash (is_refused e.reply) (ap is_refused r) ok)
done-by W U V e version files ok (Done s f r c fs hs se vs l) = record
    { before = U; after = V; claims = e.claims; version = version; files = files; no_row = f; reply = r }
done-by W U V e version files ok (ByRead s f r c k st l) = absurd (clash (is_refused e.reply) (ap is_refused r) ok)
done-by W U V e version files ok (ByWrite s f w r c k st l) = absurd (clash (is_refused e.reply) (ap is_refused r) ok)

-- an answer that is no refusal
done : (W : World) (s : Step) (r : Reply) → is_refused r ≡ false → IsAnswered W (s, r) → IsDone W s r
done W s r ok a =
    let at : IsDone W a.entry.step a.entry.reply =
    done-by W a.before a.after a.entry a.version a.files (ap is_refused a.replied ∙ ok) a.next in
    subst (λ (x : Reply). IsDone W s x) a.replied (subst (λ (t : Step). IsDone W t a.entry.reply) a.asked at)

pub accepted-done : (W : World) (old new : List Made) (s : Step) (r : Reply) → IsAccepted old new s r
    → AreAnswered W old new → IsDone W s r
accepted-done W old new s r is a = done W s r is.accepted (answered-one W old new (s, r) is.more a)

-- Look

file-inode : (i : ℕ) (o : Option FileState) (x : Found) → reply.Found x ≡ found_file i o → i ≡ x.inode
file-inode i None x h = absurd (cc h)
file-inode i (Some f) x h = sym (ap (λ r. elim r [ reply.Found y ↦ y.inode | _ ↦ 0 ]) h)

entry-inode : (F : Files) (o : Option Entry) (x : Found) → reply.Found x ≡ found_entry F o → inode_in o ≡ x.inode
entry-inode F None x h = absurd (cc h)
entry-inode F (Some entry) x h = file-inode entry.inode (F entry.inode) x h

place-inode : (F : Files) (d : ℕ) (o : Option ℕ) (x : Found) → reply.Found x ≡ found_reply F d o
    → inode_at F d o ≡ x.inode
place-inode F d None x h = absurd (cc h)
place-inode F d (Some e) x h = entry-inode F (entry_at F d e) x h

found-is : (W : World) (d g : ℕ) (name : List ℕ) (x : Found) → IsDone W (step.Look d g name) (reply.Found x)
    → inode_found W.files d name ≡ x.inode
unfolding inode_found
found-is W d g name x a = place-inode W.files d (found W.files d name) x
    (subst (λ (F : Files). reply.Found x ≡ found_reply F d (found F d name)) a.files a.reply)

pub look-found : (old new : List Made) (d g : ℕ) (name : List ℕ) (r : Reply) → IsAccepted old new (step.Look d g name) r
    → IfOk (found_by r) (λ f. (W : World) → AreAnswered W old new → inode_found W.files d name ≡ f.inode)
look-found old new d g name (reply.Found x) is =
    λ W a. found-is W d g name x (accepted-done W old new (step.Look d g name) (reply.Found x) is a)
look-found old new d g name _ is = tt

-- Stat

stat-size : (F : Files) (i : ℕ) (o : Option FileState) (x : Stat) → reply.Stat x ≡ stat_file F i o
    → elim o [ None ↦ 0 | Some f ↦ f.size ] ≡ x.size
stat-size F i None x h = absurd (cc h)
stat-size F i (Some f) x h = sym (ap (λ r. elim r [ reply.Stat y ↦ y.size | _ ↦ 0 ]) h)

pub size-is : (old new : List Made) (i g : ℕ) (r : Reply) → IsAccepted old new (step.Stat i g) r
    → IfOk (size_by r) (λ size. (W : World) → AreAnswered W old new → size_of W.files i ≡ size)
size-is old new i g (reply.Stat x) is = λ W a.
    let d = accepted-done W old new (step.Stat i g) (reply.Stat x) is a in
    stat-size W.files i (W.files i) x (subst (λ (F : Files). reply.Stat x ≡ stat_reply F i) d.files d.reply)
size-is old new i g _ is = tt

-- List

names-are : (F : Files) (d k l : ℕ) (names : _) (o : Option ℕ)
    → first_data_slot F d k ≡ o → reply.Names l names ≡ listed_reply F d o
    → (first_data_slot F d k ≡ Some l) × (is_lost (value_of F d l) ≡ false) × (names ≡ lines_in_slot F d l)
names-are F d k l names None e h = absurd (cc h)
names-are F d k l names (Some j) e h = go (is_lost (value_of F d j)) refl h
  where
    go : (b : Bool) → is_lost (value_of F d j) ≡ b
        → reply.Names l names ≡ (if b then reply.LostNames j else reply.Names j (lines_in_slot F d j))
        → (first_data_slot F d k ≡ Some l) × (is_lost (value_of F d l) ≡ false) × (names ≡ lines_in_slot F d l)
    go true t h = absurd (cc h)
    go false t h = let same : l ≡ j = cc h in let lines : names ≡ lines_in_slot F d j = cc h in
        subst (λ (x : ℕ). (first_data_slot F d k ≡ Some x) × (is_lost (value_of F d x) ≡ false)
        × (names ≡ lines_in_slot F d x)) (sym same) (e, t, lines)

lost-are : (F : Files) (d k l : ℕ) (o : Option ℕ) → first_data_slot F d k ≡ o → reply.LostNames l ≡ listed_reply F d o
    → (first_data_slot F d k ≡ Some l) × (is_lost (value_of F d l) ≡ true)
lost-are F d k l None e h = absurd (cc h)
lost-are F d k l (Some j) e h = go (is_lost (value_of F d j)) refl h
  where
    go : (b : Bool) → is_lost (value_of F d j) ≡ b
        → reply.LostNames l ≡ (if b then reply.LostNames j else reply.Names j (lines_in_slot F d j))
        → (first_data_slot F d k ≡ Some l) × (is_lost (value_of F d l) ≡ true)
    go true t h = let same : l ≡ j = cc h in
        subst (λ (x : ℕ). (first_data_slot F d k ≡ Some x) × (is_lost (value_of F d x) ≡ true)) (sym same) (e, t)
    go false t h = absurd (cc h)

none-are : (F : Files) (d k : ℕ) (o : Option ℕ) → first_data_slot F d k ≡ o → reply.NoMore ≡ listed_reply F d o
    → first_data_slot F d k ≡ None
none-are F d k None e h = e
none-are F d k (Some j) e h = go (is_lost (value_of F d j)) h
  where
    go : (b : Bool) → reply.NoMore ≡ (if b then reply.LostNames j else reply.Names j (lines_in_slot F d j))
        → first_data_slot F d k ≡ None
    go true h = absurd (cc h)
    go false h = absurd (cc h)

listed-reply : (W : World) (old new : List Made) (d g k : ℕ) (r : Reply) → IsAccepted old new (step.List d g k) r
    → AreAnswered W old new
    → r ≡ listed_reply W.files d (first_data_slot W.files d k)
listed-reply W old new d g k r is a =
    let x = accepted-done W old new (step.List d g k) r is a in
    subst (λ (F : Files). r ≡ listed_reply F d (first_data_slot F d k)) x.files x.reply

pub listed-is : (old new : List Made) (d g k : ℕ) (r : Reply) → IsAccepted old new (step.List d g k) r
    → IfOk (listed_by r) (λ listed. (W : World) → AreAnswered W old new → IsListedFrom W.files d k listed)
listed-is old new d g k (reply.Names l names) is =
    λ W a. names-are W.files d k l names _ refl (listed-reply W old new d g k (reply.Names l names) is a)
listed-is old new d g k (reply.LostNames l) is =
    λ W a. lost-are W.files d k l _ refl (listed-reply W old new d g k (reply.LostNames l) is a)
listed-is old new d g k reply.NoMore is =
    λ W a. none-are W.files d k _ refl (listed-reply W old new d g k reply.NoMore is a)
listed-is old new d g k _ is = tt

-- Get

got-lost : (v : Value) → reply.Lost ≡ got_reply v → is_lost v ≡ true
got-lost value.Hole h = absurd (cc h)
got-lost (value.Bytes c) h = absurd (cc h)
got-lost value.Lost h = refl

abbrev is_lost_reply : Reply → Bool
is_lost_reply reply.Lost = true
is_lost_reply _ = false

got-kept : (r : Reply) (v : Value) → is_lost_reply r ≡ false → r ≡ got_reply v → is_lost v ≡ false
got-kept r value.Hole other h = refl
got-kept r (value.Bytes c) other h = refl
got-kept r value.Lost other h = absurd (clash (is_lost_reply r) (ap is_lost_reply h) other)

not-large : (a b c : Option Refusal) → first_of (a ∷ b ∷ c ∷ []) ≡ None → a ≡ None
not-large None b c h = refl
not-large (Some why) b c h = absurd (cc h)

row-none : (t : Bool) (why : Refusal) → row t why ≡ None → t ≡ false
row-none true why h = absurd (cc h)
row-none false why h = refl

slots-same : (U W : World) → U.version ≡ W.version → slots U ≡ slots W
slots-same U W e = ap (λ v. if v == 1 then 72 else slot_limit) e

got-done : (W : World) (i g k : ℕ) (r : Reply) → IsDone W (step.Get i g k) r
    → (k < slots W) × (r ≡ got_reply (value_of W.files i k))
got-done W i g k r a =
    let small : nat_le (slots a.before) k ≡ false = row-none _ refusal.TooLarge
    (not-large (too_large a.before k) (stale a.before i g) (is_directory a.before i) a.no_row) in
    let same = slots-same a.before W a.version in
    let here : nat_le (slots W) k ≡ false = subst (λ (n : ℕ). nat_le n k ≡ false) same small in
    (not-le (slots W) k here, subst (λ (F : Files). r ≡ got_reply (value_of F i k)) a.files a.reply)
  where
    not-le : (a b : ℕ) → nat_le a b ≡ false → b < a
    not-le a b h = grind (arith, nat_tests)

large-row : (t u v : Bool) → first_of (row t refusal.TooLarge ∷ row u refusal.Stale ∷ row v refusal.IsDirectory ∷ [])
    ≡ Some refusal.TooLarge → t ≡ true
large-row true u v h = refl
large-row false true v h = absurd (cc h)
large-row false false true h = absurd (cc h)
large-row false false false h = absurd (cc h)

pub no-value : (why : Refusal) (v : Value) → reply.Refused why ≡ got_reply v → ⊥
no-value why value.Hole h = cc h
no-value why (value.Bytes c) h = cc h
no-value why value.Lost h = cc h

not-this : (r : Reply) (why : Refusal) → r ≡ reply.Refused refusal.TooLarge → r ≡ reply.Refused why
    → why ≡ refusal.TooLarge
not-this r why a b = cc (a, b)

large-by : (U V : World) (e : Entry1) (i g k : ℕ) → e.step ≡ step.Get i g k → e.reply ≡ reply.Refused refusal.TooLarge
    → Next U e V → nat_le (slots U) k ≡ true
large-by U V e i g k at is (AfterFault s r c same) = absurd (cc (not-this e.reply refusal.Stopped is r))
large-by U V e i g k at is (ByRow why s f (inl r) c kept st l) =
    let large : why ≡ refusal.TooLarge = not-this e.reply why is r in
    large-row _ _ _ (subst (λ (w : Refusal). first_of (rows U V (step.Get i g k)) ≡ Some w) large
    (subst (λ (t : Step). first_of (rows U V t) ≡ Some why) at f))
large-by U V e i g k at is (ByRow why s f (inr (r, late)) c kept st l) =
    absurd (cc (not-this e.reply refusal.ReadFault is r))
large-by U V e i g k at is (Done s f r c fs hs se vs l) =
    absurd (no-value refusal.TooLarge (value_of U.files i k)
    (sym is ∙ subst (λ (t : Step). e.reply ≡ reply_of U t e.claims) at r))
large-by U V e i g k at is (ByRead s f r c kept st l) = absurd (cc (not-this e.reply refusal.ReadFault is r))
large-by U V e i g k at is (ByWrite s f w r c kept st l) = absurd (cc (not-this e.reply refusal.WriteFault is r))

large : (W : World) (i g k : ℕ) → IsAnswered W (step.Get i g k, reply.Refused refusal.TooLarge) → slots W ≤ k
large W i g k a =
    let here : nat_le (slots a.before) k ≡ true = large-by a.before a.after a.entry i g k a.asked a.replied a.next in
    leb-true (slots W) k (subst (λ (n : ℕ). nat_le n k ≡ true) (slots-same a.before W a.version) here)

-- what was read is not lost
kept : (W : World) (i g k : ℕ) (r : Reply) → is_refused r ≡ false → is_lost_reply r ≡ false
    → IsAnswered W (step.Get i g k, r) → (k < slots W) × (is_lost (value_of W.files i k) ≡ false)
kept W i g k r ok other a =
    let x = got-done W i g k r (done W (step.Get i g k) r ok a) in (x.0, got-kept r (value_of W.files i k) other x.1)

pub got-is : (old : List Made) (i g k : ℕ) (r : Reply)
    → IfOk (got_by r) (λ got. (W : World) → AreAnswered W old (with_made old (step.Get i g k) r) → IsGot W i k got)
got-is old i g k (reply.Bytes b) =
    λ W a. kept W i g k (reply.Bytes b) refl refl (answered-one W old _ (step.Get i g k, reply.Bytes b) refl a)
got-is old i g k reply.Hole =
    λ W a. kept W i g k reply.Hole refl refl (answered-one W old _ (step.Get i g k, reply.Hole) refl a)
got-is old i g k reply.Lost = λ W a.
    let x = got-done W i g k reply.Lost
    (done W (step.Get i g k) reply.Lost refl (answered-one W old _ (step.Get i g k, reply.Lost) refl a)) in
    (x.0, got-lost (value_of W.files i k) x.1)
got-is old i g k (reply.Refused refusal.TooLarge) =
    λ W a. large W i g k (answered-one W old _ (step.Get i g k, reply.Refused refusal.TooLarge) refl a)
got-is old i g k (reply.Refused why) = tt
got-is old i g k _ = tt
