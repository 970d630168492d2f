-- The list of directories grows, and ends.
use Rattle.std.proofs.Common.{◌≡◌, ℕ, zero, suc, ◌+◌, ◌^◌, ◌<◌, ◌≤◌, Bool, true, false, ◌++◌, List, [], ◌∷◌, length}
use Rattle.std.proofs.Common.{take, get_or, Option, Some}
use Rattle.std.proofs.Common.{None, if◌then◌else◌, ◌==◌, refl, sym, ap, ◌∙◌, subst, append_assoc, add-one, arith, inl}
use Rattle.std.proofs.Common.{inr}
use Rattle.std.specs.Prelude.{slice_get, option_map}
use Rattle.std.specs.List.{list_any}
use Rattle.std.proofs.lemmas.Bool.{cases_lt}
use Rattle.std.proofs.lemmas.List.{append-nil, take-append-le, take_more, take_all, length-append}
use Rattle.std.proofs.lemmas.Option.{slice_get_within, slice_get_past, get_or_from_slice_get, slice_get-get_or}
use Rattle.nofs_model.specs.Files.{Files}
use Rattle.nofs_history.specs.World.{World}
use Rattle.nofs_salvage.specs.declared.report.report.Loss.{Loss}
use Rattle.nofs_salvage.specs.declared.report.findings.Findings.{Findings}
use Rattle.nofs_salvage.specs.Report.Losses.{folder_slots, file_losses, report_of, losses_below, folders_below}
use Rattle.nofs_salvage.specs.Report.Losses.{with_one, with_directories, folders_of, tree_after, tree_of, tree_losses}
use Rattle.nofs_salvage.specs.Report.Trees.{inodes_in, AddsFindings}

-- a list that begins with ds
abbrev Begins : List ℕ → List ℕ → Type 0
Begins ds es = (rest : List ℕ) × (es ≡ ds ++ rest)

one-begins : (ds : List ℕ) (d : ℕ) → Begins ds (with_one ds d)
one-begins ds d = go (list_any (λ x. x == d) ds)
  where
    go : (b : Bool) → Begins ds (if b then ds else ds ++ d ∷ [])
    go true = ([], sym (append-nil ds))
    go false = (d ∷ [], refl)

all-begins : (ds f : List ℕ) → Begins ds (with_directories ds f)
all-begins ds [] = ([], sym (append-nil ds))
all-begins ds (d ∷ f) =
    let one = one-begins ds d in
    let rest = all-begins (with_one ds d) f in
    (one.0 ++ rest.0, rest.1 ∙ ap (λ x. x ++ rest.0) one.1 ∙ append_assoc ds one.0 rest.0)

losses-on : (W : World) (picks : List ℕ → Bool) (ds : List ℕ) (d : ℕ)
    → tree_losses W picks (ds ++ d ∷ []) ≡ tree_losses W picks ds ++ losses_below W picks d folder_slots
unfolding tree_losses
losses-on W picks [] d = append-nil (losses_below W picks d folder_slots)
losses-on W picks (x ∷ ds) d = ap (λ l. losses_below W picks x folder_slots ++ l) (losses-on W picks ds d)
    ∙ sym (append_assoc (losses_below W picks x folder_slots) (tree_losses W picks ds)
    (losses_below W picks d folder_slots))

-- where the walk stands: the directories at the first n places have been gone through
pub record IsGrown (W : World) (picks : List ℕ → Bool) (n : ℕ) (old : List Loss) (now : Findings) : Type 0 where
  pub tree : inodes_in now.tree ≡ tree_after W.files n
  pub report : now.report ≡ old ++ tree_losses W picks (take n (tree_after W.files n))
  pub within : n ≤ length (tree_after W.files n)

pub grown-none : (W : World) (picks : List ℕ → Bool) (now : Findings)
    → inodes_in now.tree ≡ 1 ∷ [] → IsGrown W picks 0 now.report now
unfolding tree_after tree_losses
grown-none W picks now root = record { tree = root; report = sym (append-nil now.report); within = omega arith }

-- the directory at place n is gone through
grown-one : (W : World) (picks : List ℕ → Bool) (n d : ℕ) (old : List Loss) (mid new : Findings) (T : List ℕ)
    → inodes_in mid.tree ≡ T
    → mid.report ≡ old ++ tree_losses W picks (take n T)
    → slice_get T n ≡ Some d
    → AddsFindings (losses_below W picks d folder_slots) (folders_below W.files d folder_slots) mid new
    → (inodes_in new.tree ≡ with_directories T (folders_below W.files d folder_slots))
    × (new.report ≡ old ++ tree_losses W picks
    (take (n + 1) (with_directories T (folders_below W.files d folder_slots))))
    × (n + 1 ≤ length (with_directories T (folders_below W.files d folder_slots)))
grown-one W picks n d old mid new T tree report at adds =
    let F = folders_below W.files d folder_slots in
    let L = losses_below W picks d folder_slots in
    let lt : n < length T = slice_get_within T n d at in
    let begins = all-begins T F in
    let size : length (with_directories T F) ≡ length T + length begins.0 = ap length begins.1
    ∙ length-append T begins.0 in
    let front : take (n + 1) (with_directories T F) ≡ take n T ++ d ∷ [] = ap (take (n + 1)) begins.1
    ∙ take-append-le (n + 1) T begins.0 (omega arith)
    ∙ take_more T n d lt ∙ ap (λ x. take n T ++ x ∷ []) (get_or_from_slice_get T n d d at) in (
      adds.tree ∙ ap (λ t. with_directories t F) tree,
      adds.report ∙ ap (λ l. l ++ L) report ∙ append_assoc old (tree_losses W picks (take n T)) L
          ∙ ap (λ l. old ++ l) (sym (losses-on W picks (take n T) d) ∙ ap (tree_losses W picks) (sym front)),
      omega arith,
    )

next-tree : (F : Files) (n d : ℕ) → slice_get (tree_after F n) n ≡ Some d
    → tree_after F (n + 1) ≡ with_directories (tree_after F n) (folders_below F d folder_slots)
unfolding tree_after
next-tree F n d at = rw add-one (ap (λ o. with_directories (tree_after F n) (folders_of F o)) at)

pub grown-on : (W : World) (picks : List ℕ → Bool) (n d : ℕ) (old : List Loss) (mid new : Findings)
    → IsGrown W picks n old mid
    → slice_get (inodes_in mid.tree) n ≡ Some d
    → AddsFindings (losses_below W picks d folder_slots) (folders_below W.files d folder_slots) mid new
    → IsGrown W picks (n + 1) old new
grown-on W picks n d old mid new g at adds =
    let here : slice_get (tree_after W.files n) n ≡ Some d = ap (λ t. slice_get t n) (sym g.tree) ∙ at in
    let next : tree_after W.files (n + 1) ≡ with_directories (tree_after W.files n)
    (folders_below W.files d folder_slots) = next-tree W.files n d here in
    let one = grown-one W picks n d old mid new (tree_after W.files n) g.tree g.report here adds in record {
      tree = one.0 ∙ sym next;
      report = one.1 ∙ ap (λ t. old ++ tree_losses W picks (take (n + 1) t)) (sym next);
      within = subst (λ (t : List ℕ). n + 1 ≤ length t) (sym next) one.2;
    }

-- The end

whole : (F : Files) (n m : ℕ) → n ≤ m → length (tree_after F n) ≤ n → tree_after F m ≡ tree_after F n
unfolding tree_after
whole F n zero le h = let same : n ≡ 0 = omega arith in ap (tree_after F) (sym same)
whole F n (suc m) le h = elim (cases_lt m n) [
  | inl low ↦ let same : n ≡ suc m = omega arith in ap (tree_after F) (sym same)
  | inr high ↦
      let ih = whole F n m high h in
      let past : length (tree_after F m) ≤ m = subst (λ (t : List ℕ). length t ≤ m) (sym ih) (omega arith) in
      ap (λ o. with_directories (tree_after F m) (folders_of F o)) (slice_get_past (tree_after F m) m past) ∙ ih
]

none-past : (T : List ℕ) (n : ℕ) → slice_get T n ≡ None → n ≤ length T → length T ≤ n
none-past T n none le = elim (cases_lt n (length T)) [
  | inl low ↦ absurd (some-none (slice_get T n) (get_or T n 0) (slice_get-get_or T n 0 low) none)
  | inr past ↦ past
]
  where
    some-none : (o : Option ℕ) (x : ℕ) → o ≡ Some x → o ≡ None → ⊥
    some-none o x a b = cc (a, b)

-- no directory stands at place n
pub grown-end : (W : World) (picks : List ℕ → Bool) (n : ℕ) (old : List Loss) (now : Findings)
    → n ≤ 2 ^ 64 → IsGrown W picks n old now
    → slice_get (inodes_in now.tree) n ≡ None
    → now.report ≡ old ++ tree_losses W picks (tree_of W.files)
unfolding tree_of
grown-end W picks n old now low g none =
    let T = tree_after W.files n in
    let past : length T ≤ n = none-past T n (ap (λ t. slice_get t n) (sym g.tree) ∙ none) g.within in
    let same : take n T ≡ tree_after W.files (2 ^ 64) = take_all n T past ∙ sym (whole W.files n (2 ^ 64) low past) in
    g.report ∙ ap (λ t. old ++ tree_losses W picks t) same

-- the label file, and all directories
pub report-is : (W : World) (picks : List ℕ → Bool) (first mid last : List Loss)
    → first ≡ [] → mid ≡ first ++ file_losses W 2
    → last ≡ mid ++ tree_losses W picks (tree_of W.files) → last ≡ report_of W picks
unfolding report_of
report-is W picks first mid last none label tree =
    tree ∙ ap (λ l. l ++ tree_losses W picks (tree_of W.files)) (label ∙ ap (λ l. l ++ file_losses W 2) none)

-- there is none where it is no other
pub none-left : {A : Type 0} (o : Option A) (f : A → ℕ) (p : Option ℕ) → option_map f o ≡ p → o ≡ None → p ≡ None
none-left o f p e none = sym e ∙ ap (option_map f) none
