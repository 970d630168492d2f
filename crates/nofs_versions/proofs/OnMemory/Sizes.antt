-- The cells of a disk in memory have the bytes of cells.
use Rattle.std.proofs.Common.{◌≡◌, ℕ, ◌<◌, Bool, true, false, List, [], ◌∷◌, ◌++◌, length, get_or, set, replicate}
use Rattle.std.proofs.Common.{arith, inl, inr, sym, ap, subst, ◌∙◌}
use Rattle.std.specs.Prelude.{Contains}
use Rattle.std.proofs.lemmas.Bool.{cases_eq}
use Rattle.std.proofs.lemmas.List.{get_or-replicate, length-replicate, length-set, get_or_default, get_or-set_same}
use Rattle.std.proofs.lemmas.List.{get_or-set_other}
use Rattle.nofs_disk.specs.declared.tag.Cell.{Cell}
use Rattle.nofs_disk.specs.Disk.{IsSizedCell, cell_at, no_cell}
use Rattle.nofs_disk.specs.Cells.{IsSizedCell-zero}
use Rattle.nofs_disk.specs.Tag.{zero_cell}
use Rattle.nofs_disk.specs.Held.{Held}
use Rattle.nofs_versions.specs.declared.call.Call.{Call}
use Rattle.nofs_versions.specs.declared.call.Call.TheVariants.{Write, Flush}
use Rattle.nofs_versions.specs.Memory.{after_flush, held_after}
use Rattle.nofs_versions.specs.Laws.{AreSized, held_after-held}
use Rattle.nofs_versions.proofs.OnMemory.Cells.{flush_of, may_cases, may_of, only_one, write_others}

-- the cells that a disk may hold have the bytes of cells, call by call
pub sized_write : (base : List Cell) (calls : List Call) (block : ℕ) (cell : Cell) (taken : Bool) → IsSizedCell cell
    → AreSized (length base) (held_after base calls).may
    → AreSized (length base) (held_after base (calls ++ Write block cell taken ∷ [])).may
sized_write base calls block cell taken size sized = record {
  each = λ b c low has. elim (cases_eq b block) [
    | inl same ↦
        let F : ℕ → Type 0 = λ k. Contains ((held_after base (calls ++ Write block cell taken ∷ [])).may k) c in
        elim (may_cases base calls block cell taken c (subst F same has)) [
          | inl before ↦ sized.each block c (omega arith) before
          | inr is ↦ subst (λ (x : Cell). IsSizedCell x) (sym is) size
        ]
    | inr other ↦ sized.each b c low (subst (λ (l : List Cell). Contains l c)
        (may_of base calls block b cell taken ∙ write_others taken (held_after base calls) block b cell other) has)
  ];
}

pub sized_now : (base : List Cell) (calls : List Call) → AreSized (length base) (held_after base calls).may → (b : ℕ)
    → b < length base
    → IsSizedCell (cell_at (held_after base calls).now b)
sized_now base calls sized b low = sized.each b _ low ((held_after-held base calls).has_now b low)

pub sized_flush : (base : List Cell) (calls : List Call) (settles : Bool)
    → AreSized (length base) (held_after base calls).may
    → AreSized (length base) (held_after base (calls ++ Flush settles ∷ [])).may
sized_flush base calls settles sized = record {
  each = λ b c low has. go settles b c low
      (subst (λ (h : Held). Contains (h.may b) c) (flush_of base calls settles) has);
}
  where
    go : (t : Bool) (b : ℕ) (c : Cell) → b < length base
        → Contains ((after_flush t (held_after base calls)).may b) c → IsSizedCell c
    go true b c low has =
        subst (λ (x : Cell). IsSizedCell x) (sym (only_one _ c has)) (sized_now base calls sized b low)
    go false b c low has = sized.each b c low has

pub sized_base : (base : List Cell) (calls : List Call)
    → calls ≡ [] → ((b : ℕ) → b < length base → IsSizedCell (cell_at base b))
    → AreSized (length base) (held_after base calls).may
unfolding held_after
sized_base base calls none each = record {
  each = λ b c low has.
      let F : List Call → Type 0 = λ l. Contains ((held_after base l).may b) c in
      subst (λ (x : Cell). IsSizedCell x) (sym (only_one (cell_at base b) c (subst F none has))) (each b low);
}

-- cells with one in its place have the bytes of cells
pub sized_set : (cells : List Cell) (block : ℕ) (cell : Cell) → IsSizedCell cell
    → ((b : ℕ) → b < length cells → IsSizedCell (cell_at cells b))
    → (b : ℕ) → b < length (set cells block cell) → IsSizedCell (cell_at (set cells block cell) b)
sized_set cells block cell size each b low =
    let len = length-set cells block cell in
    let S : Cell → Type 0 = λ x. IsSizedCell x in
    elim (cases_eq b block) [
      | inl same ↦ subst S (sym (ap (λ k. get_or (set cells block cell) k no_cell) same
          ∙ get_or-set_same cells block cell no_cell (omega arith))) size
      | inr other ↦ subst S (sym (get_or-set_other cells block b cell no_cell other)) (each b (omega arith))
    ]

-- zero cells have the bytes of cells
pub sized_zeros : (n b : ℕ) → b < length (replicate n zero_cell) → IsSizedCell (cell_at (replicate n zero_cell) b)
sized_zeros n b low =
    let len = length-replicate n zero_cell in
    subst (λ (x : Cell). IsSizedCell x) (sym (get_or-replicate n b zero_cell no_cell (omega arith))) IsSizedCell-zero

-- one of the cells that a block may hold has the bytes of a cell
pub sized_version : (n : ℕ) (may : ℕ → List Cell) → AreSized n may → (b v : ℕ) (x : Cell) → b < n → v < length (may b)
    → x ≡ get_or (may b) v no_cell
    → IsSizedCell x
sized_version n may sized b v x low has is =
    sized.each b x low (v, has, get_or_default (may b) v x no_cell has ∙ sym is)
