-- The slots of a directory, one behind the other.
use Rattle.std.proofs.Common.{◌≡◌, ℕ, zero, suc, ◌+◌, ◌-◌, ◌*◌, ◌/◌, ◌<◌, ◌≤◌, Bool, true, false, ◌&&◌, not, ◌++◌, List}
use Rattle.std.proofs.Common.{[], ◌∷◌, Option, Some, None}
use Rattle.std.proofs.Common.{nat_lt, if◌then◌else◌, refl, sym, ap, ◌∙◌, subst, inl, inr, le_refl, arith}
use Rattle.std.proofs.lemmas.Bool.{cases_lt}
use Rattle.nofs_dirent.specs.Entries.{entry_limit}
use Rattle.nofs_model.specs.Files.{FileState, Files, is_folder, entry_held, entry_in_file, entry_at}
use Rattle.nofs_model.specs.declared.image.value.Value.{Value}
use Rattle.nofs_model.specs.declared.image.value.Value.TheVariants as value
use Rattle.nofs_history.specs.Meta.{is_bytes}
use Rattle.nofs_history.specs.Search.{least_from}
use Rattle.nofs_history.specs.Machine.{value_of, is_lost, is_hole}
use Rattle.nofs_history.specs.Answers.{line_of, lines_from, lines_in_slot}
use Rattle.nofs_history.specs.World.{World}
use Rattle.nofs_history.specs.declared.machine.replies.NameLine.{NameLine}
use Rattle.nofs_salvage.specs.declared.report.report.Loss.{Loss}
use Rattle.nofs_salvage.specs.declared.report.report.Loss.TheVariants as loss
use Rattle.nofs_salvage.specs.declared.report.findings.Findings.{Findings}
use Rattle.nofs_salvage.specs.declared.report.seen.SeenNames.{SeenNames}
use Rattle.nofs_salvage.specs.Report.Losses.{lines_losses, lines_folders, lines_below, slot_losses, losses_below}
use Rattle.nofs_salvage.specs.Report.Losses.{folders_below}
use Rattle.nofs_salvage.specs.Walk.Answers.{first_data_slot}
use Rattle.nofs_salvage.specs.Report.Trees.{inodes_in, is_seen, AreSeen, AddsFindings, IsWalked}
use Rattle.nofs_salvage.proofs.OnReport.Findings.{adds-none, adds-on, seen-none}

-- A slot without bytes has no lines

held-none : (v : Value) (e : ℕ) → is_bytes v ≡ false → entry_held v e ≡ None
held-none value.Hole e h = refl
held-none (value.Bytes c) e h = absurd (cc h)
held-none value.Lost e h = refl

entry-none : (o : Option FileState) (e : ℕ)
    → is_bytes (elim o [ None ↦ value.Hole | Some f ↦ f.values (e / 16) ]) ≡ false → entry_in_file o e ≡ None
entry-none None e h = refl
entry-none (Some f) e h = go (is_folder f.kind && nat_lt e entry_limit)
  where
    go : (b : Bool) → (if b then entry_held (f.values (e / 16)) e else None) ≡ None
    go true = held-none (f.values (e / 16)) e h
    go false = refl

lines-empty : (F : Files) (d k e n : ℕ)
    → 16 * k ≤ e → e + n ≤ 16 * k + 16 → is_bytes (value_of F d k) ≡ false → lines_from F d e n ≡ []
lines-empty F d k e zero low high h = refl
lines-empty F d k e (suc n) low high h =
    let slot : k ≡ e / 16 = omega arith in
    let here : is_bytes (value_of F d (e / 16)) ≡ false = subst (λ (j : ℕ). is_bytes (value_of F d j) ≡ false) slot h in
    let none : entry_at F d e ≡ None = entry-none (F d) e here in
    let rest : lines_from F d (suc e) n ≡ [] = lines-empty F d k (suc e) n (omega arith) (omega arith) h in
    ap (λ o. line_of F d e o ++ lines_from F d (suc e) n) none ∙ rest

slot-empty : (F : Files) (d k : ℕ) → is_bytes (value_of F d k) ≡ false → lines_in_slot F d k ≡ []
unfolding lines_in_slot
slot-empty F d k h = lines-empty F d k (16 * k) 16 (le_refl _) (le_refl _) h

hole-bytes : (v : Value) → is_hole v ≡ true → is_bytes v ≡ false
hole-bytes value.Hole h = refl
hole-bytes (value.Bytes c) h = absurd (cc h)
hole-bytes value.Lost h = absurd (cc h)

hole-lost : (v : Value) → is_hole v ≡ true → is_lost v ≡ false
hole-lost value.Hole h = refl
hole-lost (value.Bytes c) h = refl
hole-lost value.Lost h = absurd (cc h)

lost-bytes : (v : Value) → is_lost v ≡ true → is_bytes v ≡ false
lost-bytes value.Hole h = absurd (cc h)
lost-bytes (value.Bytes c) h = absurd (cc h)
lost-bytes value.Lost h = refl

-- The least slot that is no hole

-- all from `at` up to l fail, and l lies behind them
pub record IsLeast (test : ℕ → Bool) (at l : ℕ) : Type 0 where
  pub late : at ≤ l
  pub before : (j : ℕ) → at ≤ j → j < l → test j ≡ false

least-found : (test : ℕ → Bool) (at n l : ℕ) → least_from test at n ≡ Some l → IsLeast test at l
unfolding least_from
least-found test at zero l h = absurd (cc h)
least-found test at (suc n) l h = go (test at) refl h (least-found test (suc at) n l)
  where
    go : (b : Bool) → test at ≡ b → (if b then Some at else least_from test (suc at) n) ≡ Some l
        → (least_from test (suc at) n ≡ Some l → IsLeast test (suc at) l) → IsLeast test at l
    go true t s more = let same : at ≡ l = cc s in
        record { late = omega arith; before = λ j low high. absurd (omega arith) }
    go false t s more = let ih = more s in let later : suc at ≤ l = ih.late in record {
      late = omega arith;
      before = λ j low high. elim (cases_lt at j) [
        | inl above ↦ ih.before j (omega arith) high
        | inr below ↦ let same : j ≡ at = omega arith in ap test same ∙ t
      ];
    }

least-none : (test : ℕ → Bool) (at n : ℕ) → least_from test at n ≡ None → IsLeast test at (at + n)
unfolding least_from
least-none test at zero h = record { late = omega arith; before = λ j low high. absurd (omega arith) }
least-none test at (suc n) h = go (test at) refl h (least-none test (suc at) n)
  where
    go : (b : Bool) → test at ≡ b → (if b then Some at else least_from test (suc at) n) ≡ None
        → (least_from test (suc at) n ≡ None → IsLeast test (suc at) (suc at + n)) → IsLeast test at (at + suc n)
    go true t s more = absurd (cc s)
    go false t s more = let ih = more s in record {
      late = omega arith;
      before = λ j low high. elim (cases_lt at j) [
        | inl above ↦ ih.before j (omega arith) (omega arith)
        | inr below ↦ let same : j ≡ at = omega arith in ap test same ∙ t
      ];
    }

not-false : (b : Bool) → not b ≡ false → b ≡ true
not-false true h = refl
not-false false h = absurd (cc h)

no-folders : (F : Files) (d : ℕ) (earlier : List NameLine) → lines_folders F d earlier [] ≡ []
unfolding lines_folders
no-folders F d earlier = refl

no-losses : (W : World) (picks : List ℕ → Bool) (d : ℕ) (earlier : List NameLine)
    → lines_losses W picks d earlier [] ≡ []
unfolding lines_losses
no-losses W picks d earlier = refl

-- Slot by slot

module _ (W : World) (picks : List ℕ → Bool) (d : ℕ) (start : Findings) where
  walked-on : (k : ℕ) (mid new : Findings) (old seen : SeenNames) → IsWalked W picks d k start mid old
      → AddsFindings (slot_losses W picks d k)
      (lines_folders W.files d (lines_below W.files d k) (lines_in_slot W.files d k)) mid new
      → AreSeen seen (lines_below W.files d k ++ lines_in_slot W.files d k) → IsWalked W picks d (suc k) start new seen
  unfolding losses_below folders_below lines_below
  walked-on k mid new old seen w a s = record { adds = adds-on _ _ _ _ start mid new w.adds a; names = s }

  -- a slot without lines
  walked-empty : (k : ℕ) (mid new : Findings) (seen : SeenNames)
      → is_bytes (value_of W.files d k) ≡ false → IsWalked W picks d k start mid seen
      → AddsFindings (slot_losses W picks d k) [] mid new → IsWalked W picks d (suc k) start new seen
  walked-empty k mid new seen bare w a =
      let none : lines_in_slot W.files d k ≡ [] = slot-empty W.files d k bare in
      let folders : lines_folders W.files d (lines_below W.files d k) (lines_in_slot W.files d k) ≡ [] = ap
      (lines_folders W.files d (lines_below W.files d k)) none ∙ no-folders W.files d (lines_below W.files d k) in
      walked-on k mid new seen seen w
      (subst (λ (f : List ℕ). AddsFindings (slot_losses W picks d k) f mid new) (sym folders) a)
      (subst (λ (l : List NameLine). AreSeen seen (lines_below W.files d k ++ l)) (sym none)
      (seen-none seen (lines_below W.files d k) w.names))

  walked-hole : (k : ℕ) (now : Findings) (seen : SeenNames)
      → is_hole (value_of W.files d k) ≡ true → IsWalked W picks d k start now seen
      → IsWalked W picks d (suc k) start now seen
  walked-hole k now seen hole w =
      let kept : is_lost (value_of W.files d k) ≡ false = hole-lost (value_of W.files d k) hole in
      let bare = hole-bytes (value_of W.files d k) hole in
      let none : lines_in_slot W.files d k ≡ [] = slot-empty W.files d k bare in
      let losses : slot_losses W picks d k ≡ [] = rw (kept, none) (no-losses W picks d (lines_below W.files d k)) in
      walked-empty k now now seen bare w
      (subst (λ (l : List Loss). AddsFindings l [] now now) (sym losses) (adds-none now))

  -- several holes
  pub walked-holes : (k l : ℕ) (now : Findings) (seen : SeenNames)
      → IsLeast (λ j. not (is_hole (value_of W.files d j))) k l
      → IsWalked W picks d k start now seen → IsWalked W picks d l start now seen
  walked-holes k zero now seen h w = let late : k ≤ 0 = h.late in let same : k ≡ 0 = omega arith in
      subst (λ (j : ℕ). IsWalked W picks d j start now seen)
      same w
  walked-holes k (suc l) now seen h w = let late : k ≤ suc l = h.late in elim (cases_lt l k) [
    | inl above ↦ let same : k ≡ suc l = omega arith in subst (λ (j : ℕ). IsWalked W picks d j start now seen) same w
    | inr below ↦
        let hole : is_hole (value_of W.files d l) ≡ true = not-false _ (h.before l below (omega arith)) in
        walked-hole l now seen hole
        (walked-holes k l now seen (record { late = below; before = λ j low high. h.before j low (omega arith) }) w)
  ]

  -- the names that were seen below the slot that is listed
  pub walked-seen : (k l : ℕ) (now : Findings) (seen : SeenNames) → first_data_slot W.files d k ≡ Some l
      → IsWalked W picks d k start now seen
      → AreSeen seen (lines_below W.files d l)
  walked-seen k l now seen h w =
      (walked-holes k l now seen (least-found (λ j. not (is_hole (value_of W.files d j))) k (72 - k) l h) w).names

  -- a slot with names
  pub walked-names : (k l next : ℕ) (names : List NameLine) (mid new : Findings) (old seen : SeenNames)
      → (k ≤ l → next ≡ l + 1)
      → (first_data_slot W.files d k ≡ Some l) × (is_lost (value_of W.files d l) ≡ false)
      × (names ≡ lines_in_slot W.files d l) → IsWalked W picks d k start mid old
      → ((earlier : List NameLine) → AreSeen old earlier
      → AddsFindings (lines_losses W picks d earlier names) (lines_folders W.files d earlier names) mid new)
      → ((earlier : List NameLine) → AreSeen old earlier → AreSeen seen (earlier ++ names))
      → IsWalked W picks d next start new seen
  walked-names k l next names mid new old seen behind h w adds sees =
      let least = least-found (λ j. not (is_hole (value_of W.files d j))) k (72 - k) l h.0 in
      let here = walked-holes k l mid old least w in
      let earlier = lines_below W.files d l in
      let a : AddsFindings (lines_losses W picks d earlier (lines_in_slot W.files d l))
      (lines_folders W.files d earlier (lines_in_slot W.files d l)) mid new
      = subst (λ (n : List NameLine). AddsFindings (lines_losses W picks d earlier n)
      (lines_folders W.files d earlier n) mid new) h.2 (adds earlier here.names) in
      let s = subst (λ (n : List NameLine). AreSeen seen (earlier ++ n)) h.2 (sees earlier here.names) in
      let at : next ≡ l + 1 = behind least.late in
      let on : suc l ≡ next = omega arith in
      subst (λ (j : ℕ). IsWalked W picks d j start new seen) on (walked-on l mid new old seen here (rw h.1 a) s)

  -- a lost slot
  pub walked-lost : (k l next : ℕ) (mid new : Findings) (seen : SeenNames) → (k ≤ l → next ≡ l + 1)
      → (first_data_slot W.files d k ≡ Some l) × (is_lost (value_of W.files d l) ≡ true)
      → IsWalked W picks d k start mid seen
      → new.report ≡ mid.report ++ loss.Slot d l ∷ [] → inodes_in new.tree ≡ inodes_in mid.tree
      → IsWalked W picks d next start new seen
  walked-lost k l next mid new seen behind h w report tree =
      let least = least-found (λ j. not (is_hole (value_of W.files d j))) k (72 - k) l h.0 in
      let here = walked-holes k l mid seen least w in
      let at : next ≡ l + 1 = behind least.late in
      let on : suc l ≡ next = omega arith in
      subst (λ (j : ℕ). IsWalked W picks d j start new seen) on
      (walked-empty l mid new seen (lost-bytes (value_of W.files d l) h.1) here
      (record { report = rw h.1 report; tree = tree }))

  -- no more slots
  pub walked-end : (k : ℕ) (now : Findings) (seen : SeenNames)
      → k ≤ 72 → first_data_slot W.files d k ≡ None → IsWalked W picks d k start now seen
      → IsWalked W picks d 72 start now seen
  walked-end k now seen low h w =
      let all : k + (72 - k) ≡ 72 = omega arith in
      walked-holes k 72 now seen (subst (λ (l : ℕ). IsLeast (λ j. not (is_hole (value_of W.files d j))) k l) all
      (least-none (λ j. not (is_hole (value_of W.files d j))) k (72 - k) h)) w

  -- none of its slots
  pub walked-none : (seen : SeenNames) → ((name : List ℕ) → is_seen seen name ≡ false)
      → IsWalked W picks d 0 start start seen
  unfolding losses_below folders_below lines_below
  walked-none seen none = record { adds = adds-none start; names = none }
