-- Each step keeps fresh what a crash may leave.
use Rattle.nofs_super.specs.Geometry.{is_geometry-parts, is_geometry}
use Rattle.nofs_crashlaw.proofs.OnMaps.ClaimParts.{claim-count, claim-stamps, claim-inode, CountsUp}
use Rattle.std.proofs.Common.{◌≡◌, ◌≢◌, ℕ, zero, suc, ◌+◌, ◌-◌, ◌*◌, ◌/◌, ◌%◌, ◌^◌, ◌<◌, ◌≤◌, inl, inr, Bool, true}
use Rattle.std.proofs.Common.{false, cond, leb, ltb, List, [], ◌∷◌}
use Rattle.std.proofs.Common.{length, Option, Some, IfSome, Contains, refl, sym, ap, ◌∙◌, subst, arith, leb-true}
use Rattle.std.proofs.Common.{ltb-true}
use Rattle.std.proofs.lemmas.List.Elements.{Contains-append_cases}
use Rattle.nofs_model.specs.declared.image.path.PathAnswer.{PathAnswer}
use Rattle.nofs_crashlaw.specs.Maps.Fresh.{needed, Numbered, Old, Stamp, Generation, RecordNumbers, CellNumbers}
use Rattle.nofs_crashlaw.specs.Maps.Fresh.{InContent, InDirectory, InPointers}
use Rattle.nofs_crashlaw.specs.Maps.Fresh.{InTable, OnlyNumbered, AllBelow, LawFresh, LawOld}
use Rattle.nofs_model.proofs.OnSlots.Find.{and-both, find-held}
use Rattle.nofs_model.proofs.OnSound.Writes.{if-some, tag-below, record-below, ranges}
use Rattle.nofs_crashlaw.proofs.OnFiles.Given.{not-table}
use Rattle.nofs_model.specs.declared.image.path.PathAnswer.TheVariants as answer
use Rattle.nofs_history.specs.declared.machine.steps.Step.{Step}
use Rattle.nofs_history.specs.declared.machine.history.Claims.{Claims}
use Rattle.nofs_history.specs.Machine.{is_write_fault}
use Rattle.nofs_history.specs.World.{World, inodes_needed}
use Rattle.nofs_history.specs.Claims.{no_claims, claimed_blocks, IsClaim, next_stamp}
use Rattle.nofs_history.specs.Next.{Keeps, AfterFault, ByRow, Done, ByRead, ByWrite}
use Rattle.nofs_history.specs.Good.{IsFresh}
use Rattle.nofs_disk.specs.declared.tag.Cell.{Cell}
use Rattle.nofs_disk.specs.declared.tag.Kind.{Kind}
use Rattle.nofs_disk.specs.declared.tag.Kind.TheVariants.{Content, Directory, Leaf, Table}
use Rattle.nofs_disk.specs.declared.tag.Tag.{Tag}
use Rattle.nofs_disk.specs.declared.tag.Pointer.{Pointer}
use Rattle.nofs_inode.specs.declared.inode.Record.{Record}
use Rattle.nofs_dirent.specs.declared.entry.Entry.{Entry}
use Rattle.nofs_disk.specs.Tag.{tag_of}
use Rattle.nofs_disk.specs.Pointer.{null}
use Rattle.nofs_ptrs.specs.Cells.{pointer_at}
use Rattle.nofs_inode.specs.InodeRecords.{record_at, free_record, is_live}
use Rattle.nofs_dirent.specs.Entries.{entry_in}
use Rattle.nofs_super.specs.Super.{is_super}
use Rattle.nofs_model.specs.Geometry.{Image, super_at, is_mountable, is_inode, inode}
use Rattle.nofs_disk.specs.Disk.{cell_at}
use Rattle.nofs_ptrs.specs.Paths.{InRecord, Under}
use Rattle.nofs_model.specs.Slots.{tag_for, find, pointer}
use Rattle.nofs_model.specs.Sound.{TagBelow, RecordBelow, CellBelow, IsBelow}

-- What is claimed is below the next number

nothing-in : {A : Type 0} → (x : A) → Contains [] x → ⊥
nothing-in x (k, lt, e) = omega (arith, lt)

pub sole-is : {A : Type 0} → (x v : A) → Contains (x ∷ []) v → x ≡ v
sole-is x v (zero, lt, e) = e
sole-is x v (suc k, lt, e) = absurd (omega (arith, lt))

counted : (s : ℕ) (xs : List Pointer) → CountsUp s xs → (x : Pointer) → Contains xs x → x.stamp < s + length xs
counted s [] c x h = absurd (nothing-in x h)
counted s (y ∷ xs) c x h = elim (Contains-append_cases (y ∷ []) xs x h) [
  | inl here ↦
      let e : y.stamp ≡ x.stamp = ap (λ (p : Pointer). p.stamp) (sole-is y x here) in
      let f = c.0 in omega (arith, e, f)
  | inr there ↦ let ih = counted (suc s) xs c.1 x there in omega (arith, ih)
]

pub stamp-below : (W : World) (step : Step) (c : Claims) → IsClaim W step c
    → (x : Pointer) → Contains (claimed_blocks c) x
    → x.stamp < next_stamp W + needed W step
stamp-below W step c claim x h =
    let lt = counted (W.mount * 2 ^ 40 + W.serial + inodes_needed step) (claimed_blocks c)
    (claim-stamps W step c claim) x h in
    let n = (claim-count W step c claim) in
    omega (arith, lt, n)

pub generation-below : (W : World) (step : Step) (c : Claims) → IsClaim W step c
    → c.inode ≢ 0 → c.generation < next_stamp W + needed W step
generation-below W step c claim ne =
    let e = (claim-inode W step c claim ne).2 in
    let n = (claim-inode W step c claim ne).3 in
    omega (arith, e, n)

-- What holds of the written numbers holds of the cells

some-in : (o : Option Tag) (t : Tag) (P : Tag → Type 0) → o ≡ Some t → P t → IfSome o P
some-in o t P e p = subst (λ (q : Option Tag). IfSome q P) (sym e) p

no-kind : (a b : Kind) (t : Tag) → t.kind ≡ a → (a ≡ b → ⊥) → t.kind ≡ b → ⊥
no-kind a b t e ne f = ne (sym e ∙ f)

module _ (bound : ℕ) (P : ℕ → Type 0) (small : (n : ℕ) → P n → n < bound) where
  numbers-record : (r : Record) → RecordNumbers P r → RecordBelow bound r
  numbers-record r h = record {
    generation = small r.generation h.generation;
    links = λ k d lt. small _ (h.links k d lt);
    pointers = λ n lt. small _ (h.pointers n lt);
  }

  tag-numbers : (c : Cell) (t : Tag) → tag_of c.tag ≡ Some t → P t.generation → P t.stamp
      → (t.kind ≡ Directory → (j : ℕ) → j < 16 → IfSome (entry_in c.payload j) (λ e. e.generation < bound))
      → (t.kind ≡ Leaf → (j : ℕ) → j < 64 → (pointer_at c.payload j).stamp < bound) → TagBelow bound c
  tag-numbers c t e g s entries pointers = record {
    own = some-in (tag_of c.tag) t (λ t. (t.generation < bound) × (t.stamp < bound)) e
        (small t.generation g, small t.stamp s);
    entries = some-in (tag_of c.tag) t (λ t. t.kind ≡ Directory → (j : ℕ)
        → j < 16 → IfSome (entry_in c.payload j) (λ e. e.generation < bound)) e entries;
    pointers = some-in (tag_of c.tag) t
        (λ t. t.kind ≡ Leaf → (j : ℕ) → j < 64 → (pointer_at c.payload j).stamp < bound) e pointers;
  }

  pub numbers-below : (X : Image) (b : ℕ) (c : Cell) → (super_at X).inodes % 4 ≡ 0 → CellNumbers P X b c
      → CellBelow bound X b c
  numbers-below X b c q (InContent area t e k g s) = record {
    tag = tag-numbers c t e g s (λ d. absurd (no-kind Content Directory t k (λ z. cc z) d))
        (λ d. absurd (no-kind Content Leaf t k (λ z. cc z) d));
    records = λ i range eb live. absurd (not-table X b i q area range eb);
  }
  numbers-below X b c q (InDirectory area t e k g s f) = record {
    tag = tag-numbers c t e g s
        (λ d j lt. if-some (λ (n : Entry). P n.generation) (λ (n : Entry). n.generation < bound) (entry_in c.payload j)
        (λ n p. small n.generation p) (f j lt)) (λ d. absurd (no-kind Directory Leaf t k (λ z. cc z) d));
    records = λ i range eb live. absurd (not-table X b i q area range eb);
  }
  numbers-below X b c q (InPointers area t e k g s f) = record {
    tag = tag-numbers c t e g s (λ d. absurd (no-kind Leaf Directory t k (λ z. cc z) d)) (λ d j lt. small _ (f j lt));
    records = λ i range eb live. absurd (not-table X b i q area range eb);
  }
  numbers-below X b c q (InTable t e k g s f) = record {
    tag = tag-numbers c t e g s (λ d. absurd (no-kind Table Directory t k (λ z. cc z) d))
        (λ d. absurd (no-kind Table Leaf t k (λ z. cc z) d));
    records = λ i range eb live. numbers-record _ (f i range eb live);
  }

-- from one image and bound to another
pub move-cell : (a bound : ℕ) (X Y : Image) (b : ℕ) (c : Cell) → a ≤ bound → cell_at Y 0 ≡ cell_at X 0
    → CellBelow a X b c → CellBelow bound Y b c
move-cell a bound X Y b c le first h = record {
  tag = tag-below a bound c le h.tag;
  records = λ i range eb live. record-below a bound _ le (h.records i (ranges X Y i first range) eb live);
}

module _ (W : World) (c : Claims) (X Y : Image) (before after : ℕ → List Cell) (quarters : (super_at X).inodes % 4 ≡ 0)
    (first : cell_at Y 0 ≡ cell_at X 0)
    (fresh : IsFresh W X before) (only : OnlyNumbered W c X before after) where
  all-below : (bound : ℕ) → next_stamp W ≤ bound → ((x : Pointer) → Contains (claimed_blocks c) x → x.stamp < bound)
      → (c.inode ≢ 0 → c.generation < bound)
      → AllBelow bound W Y after
  all-below bound le stamps generation b lt d h = elim (only b lt d h) [
    | inl old ↦ move-cell (next_stamp W) bound X Y b d le first (fresh b lt d old)
    | inr new ↦ move-cell bound bound X Y b d (omega arith) first
        (numbers-below bound (Numbered W c) small X b d quarters new)
  ]
    where
      small : (n : ℕ) → Numbered W c n → n < bound
      small n (Old o) = omega (arith, o, le)
      small n (Stamp x h e) = let s = stamps x h in omega (arith, s, e)
      small n (Generation ne e) = let g = generation ne in omega (arith, g, e)

  pub by-none : c ≡ no_claims → (bound : ℕ) → next_stamp W ≤ bound → AllBelow bound W Y after
  by-none e bound le = all-below bound le
      (λ x h. absurd (nothing-in x (subst (λ (q : Claims). Contains (claimed_blocks q) x) e h)))
      (λ ne. absurd (ne (ap (λ (q : Claims). q.inode) e)))

  pub by-claim : (step : Step) → IsClaim W step c → AllBelow (next_stamp W + needed W step) W Y after
  by-claim step claim = all-below (next_stamp W + needed W step) (omega arith) (stamp-below W step c claim)
      (generation-below W step c claim)

to-world : (W V : World) (bound : ℕ) (Y : Image) (after : ℕ → List Cell)
    → V.blocks ≡ W.blocks → next_stamp V ≡ bound → AllBelow bound W Y after
    → IsFresh V Y after
to-world W V bound Y after eb en h =
    λ b lt c has. subst (λ (n : ℕ). CellBelow n Y b c) (sym en) (h b (subst (λ (n : ℕ). b < n) eb lt) c has)

keeps-number : (W V : World) → Keeps W V → next_stamp V ≡ next_stamp W
keeps-number W V k = let m = k.mount in let s = k.serial in omega (arith, m, s)

pub law-fresh : LawFresh
law-fresh W V e X Y before after (AfterFault s r c same) quarters first fresh only = (
  λ f. to-world W V (next_stamp W) Y after (ap (λ (q : World). q.blocks) same) (ap next_stamp same)
      (by-none W e.claims X Y before after quarters first fresh only c (next_stamp W) (omega arith)),
  by-none W e.claims X Y before after quarters first fresh only c (next_stamp W + needed W e.step) (omega arith),
)
law-fresh W V e X Y before after (ByRow why s rows r c k st l) quarters first fresh only = (
  λ f. to-world W V (next_stamp W) Y after k.blocks (keeps-number W V k)
      (by-none W e.claims X Y before after quarters first fresh only c (next_stamp W) (omega arith)),
  by-none W e.claims X Y before after quarters first fresh only c (next_stamp W + needed W e.step) (omega arith),
)
law-fresh W V e X Y before after (Done s rows r claim fs hs serial vs l) quarters first fresh only =
    let all = by-claim W e.claims X Y before after quarters first fresh only e.step claim in
    let m = vs.3 in
    let en : next_stamp V ≡ next_stamp W + needed W e.step = omega (arith, m, serial) in
    (λ f. to-world W V (next_stamp W + needed W e.step) Y after vs.1 en all, all)
law-fresh W V e X Y before after (ByRead s rows r c k st l) quarters first fresh only = (
  λ f. to-world W V (next_stamp W) Y after k.blocks (keeps-number W V k)
      (by-none W e.claims X Y before after quarters first fresh only c (next_stamp W) (omega arith)),
  by-none W e.claims X Y before after quarters first fresh only c (next_stamp W + needed W e.step) (omega arith),
)
law-fresh W V e X Y before after (ByWrite s rows m r claim k st l) quarters first fresh only = (
  λ f. absurd (let z : is_write_fault e.reply ≡ true = ap is_write_fault r in cc (f, z)),
  by-claim W e.claims X Y before after quarters first fresh only e.step claim,
)

-- Pointers of what is live are old

geometry-room : (device blocks inodes : ℕ) → is_geometry device blocks inodes ≡ true → 2 + inodes / 4 ≤ blocks
geometry-room device blocks inodes e = (is_geometry-parts device blocks inodes e).table

live-range : (X : Image) (i : ℕ) → is_live (inode X i) ≡ true → is_inode X i ≡ true
unfolding inode
live-range X i live = go (is_inode X i) live
  where
    go : (b : Bool)
        → is_live (cond b (record_at (cell_at X (1 + (i - 1) / 4)).payload ((i - 1) % 4)) free_record) ≡ true → b ≡ true
    go true e = refl
    go false e = cc

pub old-record : (s : ℕ) (X : Image) (i : ℕ) → is_mountable X ≡ true → IsBelow s X
    → is_live (inode X i) ≡ true → RecordBelow s (inode X i)
unfolding inode
old-record s X i mountable below live =
    let range = live-range X i live in
    let same : inode X i ≡ record_at (cell_at X (1 + (i - 1) / 4)).payload ((i - 1) % 4) = rw range refl in
    let both = and-both (leb 1 i) (leb i (super_at X).inodes) range in
    let high : i ≤ (super_at X).inodes = leb-true i (super_at X).inodes both.1 in
    let room = geometry-room (length X) (super_at X).blocks (super_at X).inodes
    (and-both (is_super (cell_at X 0).payload)
    (is_geometry (length X) (super_at X).blocks (super_at X).inodes) mountable).1 in
    let lt : 1 + (i - 1) / 4 < (super_at X).blocks = omega (arith, high, room) in
    subst (λ (r : Record). RecordBelow s r) (sym same)
    ((below (1 + (i - 1) / 4) lt).records i range refl (subst (λ (r : Record). is_live r ≡ true) same live))

pub law-old : LawOld
law-old s X i positive mountable below live (InRecord n) slot = (old-record s X i mountable below live).pointers n slot
law-old s X i positive mountable below live (Under a n) slot = go (find X i a) refl
  where
    by : (p : Pointer) → pointer X i (Under a n) ≡ p → p.stamp < s → (pointer X i (Under a n)).stamp < s
    by p e lt = subst (λ (q : Pointer). q.stamp < s) (sym e) lt

    go : (f : PathAnswer) → find X i a ≡ f → (pointer X i (Under a n)).stamp < s
    go answer.Hole e = by null (rw (e, pointer) refl) positive
    go answer.Lost e = by null (rw (e, pointer) refl) positive
    go (answer.Holds x) e =
        let h = find-held X i a x e in
        let area = and-both (leb (1 + (super_at X).inodes / 4) x.block)
        (ltb x.block (super_at X).blocks) h.agrees.area in
        let lt : x.block < (super_at X).blocks = ltb-true x.block (super_at X).blocks area.1 in
        let p = (below x.block lt).tag.pointers in
        let q = subst (λ (o : Option Tag). IfSome o
        (λ t. t.kind ≡ Leaf → (j : ℕ) → j < 64 → (pointer_at (cell_at X x.block).payload j).stamp < s))
        h.agrees.tag p in
        let isp = slot.0 in
        let k : (tag_for X i a x.stamp).kind ≡ Leaf = rw isp refl in
        by (pointer_at (cell_at X x.block).payload n) (rw (e, pointer) refl) (q k n slot.1)
