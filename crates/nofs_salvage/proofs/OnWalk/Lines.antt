-- A line of a directory leads to what it says: the first pair of its name is its own.
use Rattle.std.proofs.Common.{◌≡◌, ℕ, zero, suc, ◌+◌, ◌*◌, ◌<◌, ◌≤◌, inl, inr, List, [], ◌∷◌, ◌++◌, Bool, true, false}
use Rattle.std.proofs.Common.{◌&&◌, ◌||◌, not, if◌then◌else◌}
use Rattle.std.proofs.Common.{Option, Some, None, is_some, refl, sym, ap, ◌∙◌, subst, append_assoc, bytes_eq, take}
use Rattle.std.proofs.Common.{arith}
use Rattle.std.specs.Prelude.{All, IsTrue, drop}
use Rattle.std.specs.List.{list_any}
use Rattle.std.proofs.lemmas.Bool.{cases_lt}
use Rattle.std.proofs.lemmas.List.{take-append-drop}
use Rattle.std.proofs.lemmas.List.Folds.{list_any-append}
use Rattle.std.proofs.lemmas.List.Elements.{All-head}
use Rattle.std.proofs.lemmas.Slice.Eq.{bytes_eq-Decides}
use Rattle.nofs_inode.specs.declared.inode.FileKind.TheVariants as kind
use Rattle.nofs_dirent.specs.declared.entry.Entry.{Entry}
use Rattle.nofs_dirent.specs.Names.{is_name}
use Rattle.nofs_dirent.specs.Entries.{entry_limit}
use Rattle.nofs_model.specs.Files.{Files, is_folder, entry_at}
use Rattle.nofs_history.specs.Search.{least_from}
use Rattle.nofs_history.specs.Machine.{found, is_folder_at, is_paired, entry_has_name, is_lost, value_of}
use Rattle.nofs_history.specs.World.{World}
use Rattle.nofs_history.specs.Answers.{kind_named, line_of, lines_from, lines_in_slot}
use Rattle.nofs_history.specs.Steps.{Made}
use Rattle.nofs_history.specs.declared.machine.replies.NameLine.{NameLine}
use Rattle.nofs_history.specs.declared.machine.replies.Refusal.{Refusal}
use Rattle.nofs_salvage.specs.Report.Losses.{inode_in, inode_at, inode_found, is_doubled, lines_below}
use Rattle.nofs_salvage.specs.Walk.Answers.{first_data_slot, AreAnswered, IsListedFrom}
use Rattle.nofs_salvage.specs.declared.report.findings.Findings.{Findings}
use Rattle.nofs_salvage.specs.declared.report.seen.SeenNames.{SeenNames}
use Rattle.nofs_salvage.specs.declared.report.answers.NextSlot.{NextSlot}
use Rattle.nofs_salvage.specs.declared.report.answers.NextSlot.TheVariants as list
use Rattle.nofs_salvage.specs.Report.Trees.{AreSeen, IsWalked}
use Rattle.nofs_salvage.specs.Walk.Refusals.{LeadsTo, AreFair}
use Rattle.nofs_salvage.specs.Walk.Steps.{MakesReads}
use Rattle.nofs_salvage.specs.Report.Lines.{IsTold, AreTold, IsFolderPart}
use Rattle.nofs_salvage.proofs.OnWalk.Steps.{all-last, answered-both}
use Rattle.nofs_salvage.proofs.OnWalk.Refusals.{right-on}
use Rattle.nofs_salvage.proofs.OnWalk.Directories.{walked-seen}

-- entry e is a pair of this name
abbrev is_named_pair : Files → ℕ → List ℕ → ℕ → Bool
is_named_pair F d name e = entry_has_name F d name e && is_paired F d e

-- Lines of entries

-- the lines of m entries and of n behind them
lines-join : (F : Files) (d e m n : ℕ) → lines_from F d e (m + n) ≡ lines_from F d e m ++ lines_from F d (e + m) n
lines-join F d e zero n =
    let count : 0 + n ≡ n = omega arith in
    let start : e ≡ e + 0 = omega arith in
    ap (lines_from F d e) count ∙ ap (λ k. lines_from F d k n) start
lines-join F d e (suc m) n =
    let first = line_of F d e (entry_at F d e) in
    let count : suc m + n ≡ suc (m + n) = omega arith in
    let same : suc e + m ≡ e + suc m = omega arith in
    ap (lines_from F d e) count
    ∙ ap (λ l. first ++ l) (lines-join F d (suc e) m n ∙ ap (λ k. lines_from F d (suc e) m ++ lines_from F d k n) same)
    ∙ sym (append_assoc first (lines_from F d (suc e) m) (lines_from F d (e + suc m) n))

lines-front : (F : Files) (d m n : ℕ) → lines_from F d 0 (m + n) ≡ lines_from F d 0 m ++ lines_from F d m n
lines-front F d m n =
    let start : 0 + m ≡ m = omega arith in
    lines-join F d 0 m n ∙ ap (λ k. lines_from F d 0 m ++ lines_from F d k n) start

-- the lines below a slot are those of the entries below it
lines-below : (F : Files) (d l : ℕ) → lines_below F d l ≡ lines_from F d 0 (16 * l)
unfolding lines_below lines_in_slot
lines-below F d zero = refl
lines-below F d (suc l) =
    let size : 16 * l + 16 ≡ 16 * suc l = omega arith in
    ap (λ x. x ++ lines_from F d (16 * l) 16) (lines-below F d l) ∙ sym (lines-front F d (16 * l) 16)
    ∙ ap (lines_from F d 0) size

-- a line among those of n entries is that of one of them, and behind the lines of those before
record IsLine (F : Files) (d e n : ℕ) (before : List NameLine) (line : NameLine) : Type 0 where
  at : ℕ
  within : at < n
  front : before ≡ lines_from F d e at
  own : line_of F d (e + at) (entry_at F d (e + at)) ≡ line ∷ []

line-in : (F : Files) (d e n : ℕ) (before after : List NameLine) (line : NameLine)
    → lines_from F d e n ≡ before ++ line ∷ after
    → IsLine F d e n before line
line-in F d e zero [] after line h = absurd (cc h)
line-in F d e zero (b ∷ before) after line h = absurd (cc h)
line-in F d e (suc n) before after line h =
    go (entry_at F d e) refl before h (λ b x. line-in F d (suc e) n b after line x)
  where
    later : (m : ℕ) → line_of F d (suc e + m) (entry_at F d (suc e + m)) ≡ line ∷ []
        → line_of F d (e + suc m) (entry_at F d (e + suc m)) ≡ line ∷ []
    later m own = let same : suc e + m ≡ e + suc m = omega arith in
        subst (λ (k : ℕ). line_of F d k (entry_at F d k) ≡ line ∷ []) same own

    first : (own : line_of F d e (entry_at F d e) ≡ line ∷ []) → line_of F d (e + 0) (entry_at F d (e + 0)) ≡ line ∷ []
    first own = let same : e ≡ e + 0 = omega arith in
        subst (λ (k : ℕ). line_of F d k (entry_at F d k) ≡ line ∷ []) same own

    go : (o : Option Entry) → entry_at F d e ≡ o → (before : List NameLine) → line_of F d e o
        ++ lines_from F d (suc e) n ≡ before ++ line ∷ after
        → ((b : List NameLine) → lines_from F d (suc e) n ≡ b ++ line ∷ after → IsLine F d (suc e) n b line)
        → IsLine F d e (suc n) before line
    go None is before h more =
        let r = more before h in record {
          at = suc r.at;
          within = omega (arith, r.within);
          front = r.front ∙ sym (ap (λ o. line_of F d e o ++ lines_from F d (suc e) r.at) is);
          own = later r.at r.own;
        }
    go (Some entry) is [] h more =
        let own : line_of F d e (Some entry) ≡ line ∷ [] = ap (take 1) h in record {
          at = 0;
          within = omega arith;
          front = refl;
          own = first (ap (line_of F d e) is ∙ own);
        }
    go (Some entry) is (b ∷ before) h more =
        let head : line_of F d e (Some entry) ≡ b ∷ [] = ap (take 1) h in
        let r = more before (ap (drop 1) h) in record {
          at = suc r.at;
          within = omega (arith, r.within);
          front = ap (λ l. b ∷ l) r.front
              ∙ sym (ap (λ l. l ++ lines_from F d (suc e) r.at) (ap (line_of F d e) is ∙ head));
          own = later r.at r.own;
        }

-- The first pair of a name

same-swap : (a b : List ℕ) → bytes_eq a b ≡ bytes_eq b a
same-swap a b = go (bytes_eq a b) refl (bytes_eq b a) refl
  where
    go : (x : Bool) → bytes_eq a b ≡ x → (y : Bool) → bytes_eq b a ≡ y → x ≡ y
    go true p true q = refl
    go false p false q = refl
    go true p false q = absurd (cc (q, (bytes_eq-Decides b a).1 (sym ((bytes_eq-Decides a b).0 p))))
    go false p true q = absurd (cc (p, (bytes_eq-Decides a b).1 (sym ((bytes_eq-Decides b a).0 q))))

-- a line's pair has the name exactly where its entry does
line-doubled : (F : Files) (d e : ℕ) (name : List ℕ)
    → list_any (λ line. not line.dead && bytes_eq name line.name) (line_of F d e (entry_at F d e)) ≡ false
    → is_named_pair F d name e ≡ false
line-doubled F d e name h = go (entry_at F d e) h
  where
    last : (p a b : Bool) → a ≡ b → ((not (not p) && a) || false) ≡ false → (b && p) ≡ false
    last true true b same h = absurd (cc h)
    last true false b same h = rw (sym same) refl
    last false a true same h = refl
    last false a false same h = refl

    go : (o : Option Entry)
        → list_any (λ (line : NameLine). not line.dead && bytes_eq name line.name) (line_of F d e o) ≡ false
        → ((elim o [ None ↦ false | Some entry ↦ bytes_eq entry.name name ]) && is_paired F d e) ≡ false
    go None h = refl
    go (Some entry) h =
        last (is_paired F d e) (bytes_eq name entry.name) (bytes_eq entry.name name) (same-swap name entry.name) h

both-false : (a b : Bool) → (a || b) ≡ false → (a ≡ false) × (b ≡ false)
both-false true b h = absurd (cc h)
both-false false b h = (refl, h)

none-named : (F : Files) (d e n : ℕ) (name : List ℕ) → is_doubled (lines_from F d e n) name ≡ false
    → (j : ℕ) → e ≤ j → j < e + n → is_named_pair F d name j ≡ false
none-named F d e zero name h j low high = absurd (omega arith)
none-named F d e (suc n) name h j low high =
    let parts = both-false _ _ (sym (list_any-append (λ (line : NameLine). not line.dead && bytes_eq name line.name)
    (line_of F d e (entry_at F d e)) (lines_from F d (suc e) n)) ∙ h) in
    let rest : is_doubled (lines_from F d (suc e) n) name ≡ false = parts.1 in
    let here : is_named_pair F d name e ≡ false = line-doubled F d e name parts.0 in elim (cases_lt e j) [
      | inl above ↦ none-named F d (suc e) n name rest j above (omega arith)
      | inr below ↦ let same : e ≡ j = omega arith in subst (λ (k : ℕ). is_named_pair F d name k ≡ false) same here
    ]

-- the first number that passes
least-is : (test : ℕ → Bool) (at n l : ℕ) → ((j : ℕ) → at ≤ j → j < l → test j ≡ false)
    → at ≤ l → l < at + n → test l ≡ true → least_from test at n ≡ Some l
unfolding least_from
least-is test at zero l before low high holds = absurd (omega arith)
least-is test at (suc n) l before low high holds = elim (cases_lt at l) [
  | inl above ↦
      let fails : test at ≡ false = before at (omega arith) above in
      ap (λ b. if b then Some at else least_from test (suc at) n) fails
      ∙ least-is test (suc at) n l (λ j h. before j (omega arith)) (omega arith) (omega arith) holds
  | inr below ↦
      let same : l ≡ at = omega arith in
      ap (λ b. if b then Some at else least_from test (suc at) n) (subst (λ (k : ℕ). test k ≡ true) same holds)
      ∙ ap Some (sym same)
]

-- What a line says

-- the entry of a line that isn't dead
record IsEntry (F : Files) (d e : ℕ) (line : NameLine) : Type 0 where
  entry : Entry
  is : entry_at F d e ≡ Some entry
  paired : is_paired F d e ≡ true
  name : entry.name ≡ line.name
  kind : is_folder_at F entry.inode ≡ is_folder line.kind

one-same : (x y : NameLine) → (x ∷ []) ≡ (y ∷ []) → x ≡ y
one-same x y h = cc h

entry-is : (F : Files) (d e : ℕ) (line : NameLine)
    → line_of F d e (entry_at F d e) ≡ line ∷ [] → line.dead ≡ false → IsEntry F d e line
entry-is F d e line h live = go (entry_at F d e) refl h
  where
    kinds : (p f : Bool) → p ≡ true → f ≡ is_folder (if p && f then kind.Directory else kind.File)
    kinds true true h = refl
    kinds true false h = refl
    kinds false f h = absurd (cc h)

    alive : (p b : Bool) → not p ≡ b → b ≡ false → p ≡ true
    alive true b same h = refl
    alive false b same h = absurd (cc (same, h))

    go : (o : Option Entry) → entry_at F d e ≡ o → line_of F d e o ≡ line ∷ [] → IsEntry F d e line
    go None is h = absurd (cc h)
    go (Some entry) is h =
        let same : record { name = entry.name; kind = kind_named F d e entry.inode; dead = not (is_paired F d e) }
        ≡ line = one-same _ line h in
        let yes : is_paired F d e ≡ true =
        alive (is_paired F d e) line.dead (ap (λ (x : NameLine). x.dead) same) live in record {
          entry = entry;
          is = is;
          paired = yes;
          name = ap (λ (x : NameLine). x.name) same;
          kind = kinds (is_paired F d e) (is_folder_at F entry.inode) yes
              ∙ ap (λ (x : NameLine). is_folder x.kind) same;
        }

-- the name of a line finds its own entry
finds-own : (F : Files) (d e : ℕ) (line : NameLine) → e < entry_limit → IsEntry F d e line
    → ((j : ℕ) → 0 ≤ j → j < e → is_named_pair F d line.name j ≡ false)
    → found F d line.name ≡ Some e
unfolding found
finds-own F d e line low own before =
    least-is (is_named_pair F d line.name) 0 entry_limit e before (omega arith) low passes
  where
    named : entry_has_name F d line.name e ≡ true
    named = ap (λ (o : Option Entry). elim o [ None ↦ false | Some entry ↦ bytes_eq entry.name line.name ]) own.is
        ∙ (bytes_eq-Decides own.entry.name line.name).1 own.name

    passes : is_named_pair F d line.name e ≡ true
    passes = ap (λ b. b && is_paired F d e) named ∙ own.paired

own-inode : (F : Files) (d e : ℕ) (line : NameLine) (own : IsEntry F d e line) → found F d line.name ≡ Some e
    → inode_found F d line.name ≡ own.entry.inode
unfolding inode_found
own-inode F d e line own is = ap (inode_at F d) is ∙ ap inode_in own.is

leads : (F : Files) (d e : ℕ) (line : NameLine) → e < entry_limit → IsEntry F d e line
    → ((j : ℕ) → 0 ≤ j → j < e → is_named_pair F d line.name j ≡ false)
    → IsTrue (is_name line.name) → LeadsTo F d line.name (is_folder line.kind)
leads F d e line low own before name =
    let is = finds-own F d e line low own before in record {
      name_ok = name;
      finds = ap is_some is;
      kind = ap (is_folder_at F) (own-inode F d e line own is) ∙ own.kind;
    }

slot-lines : (F : Files) (d l : ℕ) → lines_in_slot F d l ≡ lines_from F d (16 * l) 16
unfolding lines_in_slot
slot-lines F d l = refl

-- the lines of a slot, behind those below it
pub slot-told : (F : Files) (d l : ℕ) (lines : List NameLine) → l < 72 → lines ≡ lines_in_slot F d l
    → All (λ line. IsTrue (is_name line.name)) lines
    → AreTold F d (lines_below F d l) lines
slot-told F d l lines low are names before after line split = λ live fresh.
    let r = line-in F d (16 * l) 16 before after line (sym (slot-lines F d l) ∙ sym are ∙ split) in
    let e = 16 * l + r.at in
    let own = entry-is F d e line r.own live in
    let front : lines_below F d l ++ before ≡ lines_from F d 0 e = ap (λ x. x ++ before) (lines-below F d l)
    ∙ ap (λ x. lines_from F d 0 (16 * l) ++ x) r.front ∙ sym (lines-front F d (16 * l) r.at) in
    let new : is_doubled (lines_from F d 0 e) line.name ≡ false =
    sym (ap (λ x. is_doubled x line.name) front) ∙ fresh in
    let none : (j : ℕ) → 0 ≤ j → j < e → is_named_pair F d line.name j ≡ false =
    λ j low high. none-named F d 0 e line.name new j low (omega (arith, high)) in
    let name : IsTrue (is_name line.name) = All-head (λ (x : NameLine). IsTrue (is_name x.name)) line after
    (all-last (λ (x : NameLine). IsTrue (is_name x.name)) before (line ∷ after)
    (subst (All (λ (x : NameLine). IsTrue (is_name x.name))) split names)) in
    leads F d e line (omega (arith, low, r.within)) own none name

-- line by line
pub told-at : (F : Files) (d i : ℕ) (earlier lines : List NameLine) (line : NameLine)
    → take (i + 1) lines ≡ take i lines ++ line ∷ []
    → AreTold F d earlier lines → IsTold F d (earlier ++ take i lines) line
told-at F d i earlier lines line front told =
    let split : lines ≡ take i lines ++ line ∷ drop (i + 1) lines = sym (take-append-drop (i + 1) lines)
    ∙ ap (λ x. x ++ drop (i + 1) lines) front ∙ append_assoc (take i lines) (line ∷ []) (drop (i + 1) lines) in
    told (take i lines) (drop (i + 1) lines) line split

-- what a list gives of a directory that was walked up to a slot
pub listed-told : (W : World) (picks : List ℕ → Bool) (d : ℕ) (start : Findings) (k l : ℕ) (lines : List NameLine)
    (now : Findings) (seen : SeenNames)
    → l < 72 → All (λ line. IsTrue (is_name line.name)) lines
    → (first_data_slot W.files d k ≡ Some l) × (is_lost (value_of W.files d l) ≡ false)
    × (lines ≡ lines_in_slot W.files d l)
    → IsWalked W picks d k start now seen
    → AreSeen seen (lines_below W.files d l) × AreTold W.files d (lines_below W.files d l) lines
listed-told W picks d start k l lines now seen low names is w = (
  walked-seen W picks d start k l now seen is.0 w,
  slot-told W.files d l lines low is.2 names,
)

-- The lines that a list names: each is told, and to go through them is to ask what may be asked
module _ (W : World) (picks : List ℕ → Bool) (d : ℕ) (start : Findings) (k l : ℕ) (lines : List NameLine)
    (now : Findings) (seen : SeenNames)
    (listed : NextSlot) (is : listed ≡ list.Names l lines) (part : IsFolderPart listed)
    (walked : IsWalked W picks d k start now seen)
  where
    pub names-told : IsListedFrom W.files d k listed
        → AreSeen seen (lines_below W.files d l) × AreTold W.files d (lines_below W.files d l) lines
    names-told from = listed-told W picks d start k l lines now seen (rw is at part.below) (rw is at part.names)
        (rw is at from) walked

    pub names-right : (old mid new : List Made) (a b : Option Refusal) → MakesReads old mid a → MakesReads mid new b
        → AreAnswered W old new
        → (AreAnswered W old mid → IsListedFrom W.files d k listed) → (AreAnswered W old mid → AreFair W.files old mid)
        → (AreSeen seen (lines_below W.files d l) → AreTold W.files d (lines_below W.files d l) lines
        → AreAnswered W mid new → AreFair W.files mid new)
        → AreFair W.files old new
    names-right old mid new a b first last answered from list_right lines_right =
        let told = names-told (from (answered-both W old mid new a b first last answered).0) in
        right-on W old mid new a b first last answered list_right (lines_right told.0 told.1)
