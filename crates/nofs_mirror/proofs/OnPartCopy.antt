-- A copy that was made in part.
use Rattle.std.proofs.Common.{◌≡◌, ◌⊎◌, ℕ, ◌+◌, ◌*◌, ◌<◌, ◌≤◌, List, length, set, arith, inl, inr, refl, sym, ap, subst}
use Rattle.std.proofs.Common.{◌∙◌}
use Rattle.std.proofs.Common.{Result, Ok, Err}
use Rattle.std.specs.Prelude.{Contains, IsTrue}
use Rattle.std.proofs.lemmas.Bool.{cases_eq, cases_lt}
use Rattle.std.proofs.lemmas.List.{get_or-set_other, get_or-set_same, length-set}
use Rattle.std.proofs.Math.ListN.{get_or-eq_default}
use Rattle.nofs_disk.specs.declared.Failed.{Failed}
use Rattle.nofs_disk.specs.declared.tag.Cell.{Cell}
use Rattle.nofs_disk.specs.Chains.{KeepsCells-refl, KeepsCells-trans, KeepsPast-refl}
use Rattle.nofs_disk.specs.Disk.{DiskState, Flushes, IsDisk, KeepsCells, KeepsPast, Picks, StaysButFaults, Writes}
use Rattle.nofs_disk.specs.Disk.{cell_at, no_cell}
use Rattle.nofs_mirror.specs.declared.copying.CopyFault.{CopyFault}
use Rattle.nofs_mirror.specs.declared.copying.CopyFault.TheVariants.{Read, Write}
use Rattle.nofs_mirror.specs.Copying.{EndsAtRead, EndsCopy, HasCopied, IsOwnOrLeads, IsPartCopy, IsUntouched}

-- what a block's own cell or the lead's is of more blocks
own_more : (m n : ℕ) (lead old : DiskState) (b : ℕ) (c : Cell) → m ≤ n → IsOwnOrLeads m lead old b c
    → IsOwnOrLeads n lead old b c
own_more m n lead old b c fewer (inl own) = inl own
own_more m n lead old b c fewer (inr (low, copy)) = inr (omega arith, copy)

-- .. after a part that was copied before
own_trans : (n : ℕ) (lead x y : DiskState) (b : ℕ) (c : Cell)
    → ((d : Cell) → Contains (y.may b) d → IsOwnOrLeads n lead x b d) → IsOwnOrLeads n lead y b c
    → IsOwnOrLeads n lead x b c
own_trans n lead x y b c before (inl own) = before c own
own_trans n lead x y b c before (inr copy) = inr copy

-- .. and of the lead as it was before it was read
own_lead : (n : ℕ) (a b old : DiskState) (k : ℕ) (c : Cell) → StaysButFaults a b → IsOwnOrLeads n b old k c
    → IsOwnOrLeads n a old k c
own_lead n a b old k c stays (inl own) = inl own
own_lead n a b old k c stays (inr (low, copy)) =
    inr (low, λ tells. copy (stays.disk.tells ∙ tells) ∙ ap (λ l. cell_at l k) stays.cells.now)

-- what a crash may leave at each moment of one call, which takes two
during_call : (n : ℕ) (lead x y : DiskState) → IsDisk x → IsDisk y → KeepsPast x y → y.blocks ≡ x.blocks
    → y.moment ≤ x.moment + 2
    → ((image : List Cell) → y.left (x.moment + 1) image → (b : ℕ) → b < x.blocks
    → IsOwnOrLeads n lead x b (cell_at image b))
    → ((b : ℕ) (c : Cell) → Contains (y.may b) c → IsOwnOrLeads n lead x b c)
    → (m : ℕ) (image : List Cell) → x.moment ≤ m → m ≤ y.moment → y.left m image
    → (b : ℕ) → b < x.blocks → IsOwnOrLeads n lead x b (cell_at image b)
during_call n lead x y is_x is_y past same moved between after m image low high left b inside =
    let F : ℕ → Type 0 = λ j. y.left j image in
    elim (cases_lt m y.moment) [
      | inl before ↦ elim (cases_lt m (x.moment + 1)) [
        | inl first ↦
            let at : m ≡ x.moment = omega arith in
            inl ((is_x.at_rest image (past.no_more x.moment image (omega arith) (subst F at left))).each b inside)
        | inr later ↦ let at : m ≡ x.moment + 1 = omega arith in between image (subst F at left) b inside
      ]
      | inr last ↦
          let at : m ≡ y.moment = omega arith in
          after b (cell_at image b) ((is_y.at_rest image (subst F at left)).each b (omega arith))
    ]

-- no cell was copied by a call
part_kept : (n : ℕ) (lead x y : DiskState) → IsDisk x → IsDisk y → KeepsPast x y → y.blocks ≡ x.blocks
    → y.moment ≤ x.moment + 2
    → ((image : List Cell) → y.left (x.moment + 1) image → Picks x.may x.blocks image) → y.now ≡ x.now
    → ((b : ℕ) (c : Cell) → Contains (y.may b) c → Contains (x.may b) c) → IsPartCopy n lead x y
part_kept n lead x y is_x is_y past same moved between now before = record {
  first = λ b tells low. inl (ap (λ l. cell_at l b) now);
  rest = λ b past_end. ap (λ l. cell_at l b) now;
  may = λ b c has. inl (before b c has);
  during = during_call n lead x y is_x is_y past same moved
      (λ image left b inside. inl ((between image left).each b inside)) (λ b c has. inl (before b c has));
}

pub part_none : (n : ℕ) (lead x y : DiskState) → IsDisk x → IsDisk y → KeepsPast x y → y.blocks ≡ x.blocks
    → KeepsCells x y → IsPartCopy n lead x y
part_none n lead x y is_x is_y past blocks same = record {
  first = λ b tells low. inl (ap (λ l. cell_at l b) same.now);
  rest = λ b past_end. ap (λ l. cell_at l b) same.now;
  may = λ b c has. inl (own b c has);
  during = λ m image low high left b inside.
      let F : ℕ → Type 0 = λ j. y.left j image in
      let moved = same.moment in
      let at : m ≡ y.moment = omega arith in
      inl (own b (cell_at image b) ((is_y.at_rest image (subst F at left)).each b (omega arith)));
}
  where
    own : (b : ℕ) (c : Cell) → Contains (y.may b) c → Contains (x.may b) c
    own b c has = let F : (ℕ → List Cell) → Type 0 = λ m. Contains (m b) c in subst F same.may has

-- some cells and then some more
pub part_trans : (n : ℕ) (lead x y z : DiskState) → KeepsPast y z → y.blocks ≡ x.blocks → IsPartCopy n lead x y
    → IsPartCopy n lead y z → IsPartCopy n lead x z
part_trans n lead x y z past blocks p q = record {
  first = λ b tells low. elim (q.first b tells low) [
    | inl stays ↦ elim (p.first b tells low) [ inl own ↦ inl (stays ∙ own) | inr copy ↦ inr (stays ∙ copy) ]
    | inr copy ↦ inr copy
  ];
  rest = λ b past_end. q.rest b past_end ∙ p.rest b past_end;
  may = λ b c has. own_trans n lead x y b c (p.may b) (q.may b c has);
  during = λ m image low high left b inside. elim (cases_lt m (y.moment + 1)) [
    | inl first ↦ p.during m image low (omega arith) (past.no_more m image (omega arith) left) b inside
    | inr later ↦ own_trans n lead x y b (cell_at image b) (p.may b)
        (q.during m image (omega arith) high left b (omega arith))
  ];
}

-- of more blocks
pub part_more : (m n : ℕ) (lead x y : DiskState) → m ≤ n → IsPartCopy m lead x y → IsPartCopy n lead x y
part_more m n lead x y fewer p = record {
  first = λ b tells low. elim (cases_lt b m)
      [ inl inside ↦ p.first b tells inside | inr past ↦ inl (p.rest b past) ];
  rest = λ b past. p.rest b (omega arith);
  may = λ b c has. own_more m n lead x b c fewer (p.may b c has);
  during = λ j image low high left b inside.
      own_more m n lead x b (cell_at image b) fewer (p.during j image low high left b inside);
}

-- the lead as it was before it was read
pub part_lead : (n : ℕ) (a b x y : DiskState) → StaysButFaults a b → IsPartCopy n b x y → IsPartCopy n a x y
part_lead n a b x y stays p = record {
  first = λ k tells low. elim (p.first k (stays.disk.tells ∙ tells) low)
      [ inl own ↦ inl own | inr copy ↦ inr (copy ∙ ap (λ l. cell_at l k) stays.cells.now) ];
  rest = p.rest;
  may = λ k c has. own_lead n a b x k c stays (p.may k c has);
  during = λ m image low high left k inside.
      own_lead n a b x k (cell_at image k) stays (p.during m image low high left k inside);
}

-- a cell that was set, and the others
set_cases : (cells : List Cell) (b k : ℕ) (cell : Cell)
    → (cell_at (set cells b cell) k ≡ cell_at cells k) ⊎ ((k ≡ b) × (cell_at (set cells b cell) k ≡ cell))
set_cases cells b k cell = elim (cases_eq k b) [
  | inl same ↦ elim (cases_lt k (length cells)) [
    | inl inside ↦
        let F : ℕ → Type 0 = λ j. cell_at (set cells j cell) k ≡ cell in
        inr (same, subst F same (get_or-set_same cells k cell no_cell inside))
    | inr past ↦
        let len = length-set cells b cell in
        inl (get_or-eq_default (set cells b cell) no_cell (omega arith)
        ∙ sym (get_or-eq_default cells no_cell (omega arith)))
  ]
  | inr other ↦ inl (get_or-set_other cells b k cell no_cell other)
]

-- a write of the lead's cell
module _ (b : ℕ) (lead x y : DiskState) (cell : Cell) (copy : IsTrue lead.tells → cell ≡ cell_at lead.now b) where
  written_now : (result : Result (Unit {0}) Failed) → Writes x y b cell result
      → (y.now ≡ x.now) ⊎ (y.now ≡ set x.now b cell)
  written_now (Ok done) w = inr w.ok
  written_now (Err failed) w = w.err

  copied_to : IsTrue lead.tells → (k : ℕ) (c : Cell) → k ≡ b → c ≡ cell → c ≡ cell_at lead.now k
  copied_to tells k c same is = is ∙ copy tells ∙ ap (cell_at lead.now) (sym same)

  cell_cases : (k : ℕ) (result : Result (Unit {0}) Failed) → Writes x y b cell result
      → (cell_at y.now k ≡ cell_at x.now k) ⊎ ((k ≡ b) × (cell_at y.now k ≡ cell))
  cell_cases k result w = elim (written_now result w) [
    | inl stays ↦ inl (ap (λ l. cell_at l k) stays)
    | inr puts ↦ elim (set_cases x.now b k cell) [
      | inl own ↦ inl (ap (λ l. cell_at l k) puts ∙ own)
      | inr (same, is) ↦ inr (same, ap (λ l. cell_at l k) puts ∙ is)
    ]
  ]

  may_cases : (k : ℕ) (c : Cell) (result : Result (Unit {0}) Failed) → Writes x y b cell result
      → Contains (y.may k) c → Contains (x.may k) c ⊎ ((k ≡ b) × (c ≡ cell))
  may_cases k c result w has = elim (cases_eq k b) [
    | inl same ↦
        let F : ℕ → Type 0 = λ j. Contains (y.may j) c in
        let G : ℕ → Type 0 = λ j. Contains (x.may j) c in
        elim (w.may c (subst F same has)) [ inl before ↦ inl (subst G (sym same) before) | inr is ↦ inr (same, is) ]
    | inr other ↦ let F : List Cell → Type 0 = λ l. Contains l c in inl (subst F (w.others k other) has)
  ]

  written_may : (result : Result (Unit {0}) Failed) → Writes x y b cell result → (k : ℕ) (c : Cell)
      → Contains (y.may k) c → IsOwnOrLeads (b + 1) lead x k c
  written_may result w k c has = elim (may_cases k c result w has)
      [ inl before ↦ inl before | inr (same, is) ↦ inr (omega arith, λ tells. copied_to tells k c same is) ]

  pub part_written : IsDisk x → IsDisk y → (result : Result (Unit {0}) Failed) → Writes x y b cell result
      → IsPartCopy (b + 1) lead x y
  part_written is_x is_y result w = record {
    first = λ k tells low. elim (cell_cases k result w)
        [ inl own ↦ inl own | inr (same, is) ↦ inr (copied_to tells k _ same is) ];
    rest = λ k past. elim (cell_cases k result w) [ inl own ↦ own | inr (same, is) ↦ absurd (omega arith) ];
    may = written_may result w;
    during = let moved = w.moment in let blocks = w.disk.blocks in
        during_call (b + 1) lead x y is_x is_y w.past blocks (omega arith)
        (λ image left k inside. written_may result w k (cell_at image k)
        ((w.during image left).each k (omega arith))) (written_may result w);
  }

-- a flush after the copy
pub part_flushed : (n : ℕ) (lead x y : DiskState) {result : Result (Unit {0}) Failed} → IsDisk x → IsDisk y
    → Flushes x y result → IsPartCopy n lead x y
part_flushed n lead x y is_x is_y f =
    let moved = f.moment in
    part_kept n lead x y is_x is_y f.past f.disk.blocks (omega arith) f.during f.now
    (λ b c has. elim (cases_lt b x.blocks) [
      | inl inside ↦ f.may b c inside has
      | inr past ↦ let same = f.disk.blocks in absurd (is_y.beyond b c (omega arith) has)
    ])

-- a copy onto a disk that was made ready first
pub part_ready : (n : ℕ) (lead x y z : DiskState) → IsDisk x → IsDisk y → KeepsPast x y → y.blocks ≡ x.blocks
    → KeepsCells x y → KeepsPast y z → IsPartCopy n lead y z → IsPartCopy n lead x z
part_ready n lead x y z is_x is_y past blocks same later p =
    part_trans n lead x y z later blocks (part_none n lead x y is_x is_y past blocks same) p

pub ends_ready : (n : ℕ) (lead x y z : DiskState) → IsDisk x → IsDisk y → KeepsPast x y → y.blocks ≡ x.blocks
    → KeepsCells x y → KeepsPast y z → EndsAtRead n lead y z → EndsAtRead n lead x z
ends_ready n lead x y z is_x is_y past blocks same later e = record {
  block = e.block;
  inside = e.inside;
  copied = e.copied;
  part = part_ready e.block lead x y z is_x is_y past blocks same later e.part;
  moment = (let m = e.moment in let s = same.moment in omega arith);
  none = λ first. KeepsCells-trans x y z same (e.none first);
}

-- a copy ends at the first call that fails
pub ends_at : {D : Type 0} (state : D → DiskState) (fault : CopyFault) (n : ℕ) (lead x : DiskState) (y z : D)
    → IsUntouched fault y z → EndsAtRead n lead x (state y) → EndsCopy fault n lead x (state z)
ends_at state Read n lead x y z same e = subst (λ d. EndsAtRead n lead x (state d)) (sym same) e
ends_at state Write n lead x y z same e = tt

-- one cell more, where so many were copied
pub part_next : (k : ℕ) (a b x y z : DiskState) → StaysButFaults a b → KeepsPast y z → y.blocks ≡ x.blocks
    → IsPartCopy k a x y → IsPartCopy (k + 1) b y z → IsPartCopy (k + 1) a x z
part_next k a b x y z stays past blocks p q =
    part_trans (k + 1) a x y z past blocks (part_more k (k + 1) a x y (omega arith) p)
    (part_lead (k + 1) a b y z stays q)

-- the cells of the first blocks were copied, one write a block
pub record IsCopiedTo (k : ℕ) (lead x y : DiskState) : Type 0 where
  pub part : IsPartCopy k lead x y
  pub moment : y.moment ≡ x.moment + 2 * k
  pub none : k ≡ 0 → KeepsCells x y

pub to_none : (lead x : DiskState) → IsDisk x → IsCopiedTo 0 lead x x
to_none lead x is_x = record {
  part = part_none 0 lead x x is_x is_x (KeepsPast-refl x) refl (KeepsCells-refl x);
  moment = omega arith;
  none = λ first. KeepsCells-refl x;
}

pub to_next : (k : ℕ) (a b x y z : DiskState) → StaysButFaults a b → KeepsPast y z → y.blocks ≡ x.blocks
    → IsCopiedTo k a x y → IsPartCopy (k + 1) b y z → z.moment ≡ y.moment + 2 → IsCopiedTo (k + 1) a x z
to_next k a b x y z stays past blocks p q moved = record {
  part = part_next k a b x y z stays past blocks p.part q;
  moment = (let e = p.moment in omega arith);
  none = λ first. absurd (omega arith);
}

pub to_ends : (k n : ℕ) (a x y : DiskState) → k < n → HasCopied a y k → IsCopiedTo k a x y → EndsAtRead n a x y
to_ends k n a x y inside copied p =
    record { block = k; inside = inside; copied = copied; part = p.part; moment = p.moment; none = p.none }
