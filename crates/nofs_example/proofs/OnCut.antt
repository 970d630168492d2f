-- A power cut leaves an image that the disk may hold, and so one that the promise allows.
use Rattle.std.proofs.Common.{◌≡◌, ℕ, zero, suc, ◌<◌, Ok, Err, List, [], ◌∷◌, ◌++◌, length, arith, inl, inr, refl, sym}
use Rattle.std.proofs.Common.{ap, subst, ◌∙◌}
use Rattle.std.specs.Prelude.{All, Contains, IfOk, Result, slice_set}
use Rattle.std.proofs.Math.Logic.{∥∥₁_map}
use Rattle.std.specs.declared.alloc.AllocError.{AllocError}
use Rattle.std.proofs.lemmas.Bool.{cases_eq}
use Rattle.std.proofs.lemmas.List.{get_or-set_other, get_or-set_same, length-set}
use Rattle.std.proofs.lemmas.List.Elements.{All-append, Contains-get_or}
use Rattle.nofs_disk.specs.declared.tag.Cell.{Cell}
use Rattle.nofs_disk.specs.Disk.{DiskState, IsDisk, IsSettled, Picks, no_cell}
use Rattle.nofs_disk.specs.Chains.{settled_image}
use Rattle.nofs_versions.specs.declared.call.Pick.{Pick}
use Rattle.nofs_versions.specs.Laws.{state_of-is}
use Rattle.nofs_versions.specs.Memory.{PicksVersions, held_after, picked}
use Rattle.nofs_memdisk.specs.Parts.{Parts, fresh_parts, memory_state, parts_of}
use Rattle.nofs_memdisk.specs.declared.memory.MemDisk.{MemDisk}
use Rattle.nofs_model.specs.Sound.{IsSound}
use Rattle.nofs_history.specs.Allowed.{IsAllowed}
use Rattle.nofs_state.specs.declared.books.maps.Books.{Books}
use Rattle.nofs_shared.specs.Mount.Invariant.{IsMount, IsSoundDisk}
use Rattle.nofs_example.specs.Cut.{LeavesAllowed}

-- one cell of an image is taken from what its block may hold
set-picks : (may : ℕ → List Cell) (n : ℕ) (cells : List Cell) (block : ℕ) (c : Cell) → block < n
    → Contains (may block) c
    → Picks may n cells → Picks may n (slice_set cells block c)
set-picks may n cells block c low has picks = record {
  len = length-set cells block c ∙ picks.len;
  each = λ b within. elim (cases_eq b block) [
    | inl same ↦
        let inside : block < length cells = let len = picks.len in omega (arith, low, len) in
        rw (same, get_or-set_same cells block c no_cell inside) has
    | inr other ↦ rw (get_or-set_other cells block b c no_cell other) (picks.each b within)
  ];
}

-- and so are many
picked-picks : (d : DiskState) (cells : List Cell) (picks : List Pick) → All (PicksVersions d) picks
    → Picks d.may d.blocks cells
    → Picks d.may d.blocks (picked d.may cells picks)
picked-picks d cells [] all is = is
picked-picks d cells (pick ∷ picks) all is =
    let first : PicksVersions d pick = all 0 pick (omega arith) in
    picked-picks d _ picks (λ k e low. all (suc k) e (omega (arith, low)))
    (set-picks d.may d.blocks cells pick.block _ first.block
    (Contains-get_or (d.may pick.block) pick.version no_cell first.version) is)

pub memory-is : (d : MemDisk) → IsDisk (memory_state d)
memory-is d = state_of-is d.start d.base.items d.calls.items d.spare d.faults d.room d.counted d.sized

-- of one block more the first cell that it may hold is picked
pub one-more : (d : MemDisk) (picks : List Pick) (pick : Pick) → All (PicksVersions (memory_state d)) picks
    → pick.block < (memory_state d).blocks → pick.version ≡ 0
    → All (PicksVersions (memory_state d)) (picks ++ pick ∷ [])
one-more d picks pick all low first = All-append (PicksVersions (memory_state d)) picks (pick ∷ []) all only
  where
    one : PicksVersions (memory_state d) pick
    one = record {
      block = low;
      version =
          (let has = (memory-is d).has_now pick.block refl low in let within = has.1 in omega (arith, within, first));
    }

    only : All (PicksVersions (memory_state d)) (pick ∷ [])
    only zero e low = one
    only (suc k) e low = absurd (omega (arith, low))

-- a new disk in memory holds what it was made of
fresh-now : (d : MemDisk) (X : List Cell) → parts_of d ≡ fresh_parts X → (memory_state d).now ≡ X
unfolding held_after
fresh-now d X e = ap (λ (p : Parts). (held_after p.base p.calls).now) e

-- a disk that holds such an image alone is sound, and what it holds is allowed
pub cut-leaves : (found : DiskState) (last left : MemDisk) (first : ℕ) (k : Books) (picks : List Pick)
    → All (PicksVersions (memory_state last)) picks → IsSettled (memory_state left)
    → parts_of left ≡ fresh_parts (picked (memory_state last).may (memory_state last).now picks)
    → IsSoundDisk found
    → IsMount found (memory_state last) first k → LeavesAllowed (memory_state last) k.history (memory_state left)
cut-leaves found last left first k picks all settled parts sound mount =
    let d = memory_state last in
    let X = (memory_state left).now in
    let stands = mount.stands sound in
    let chosen : Picks d.may d.blocks X =
    subst (λ (Y : List Cell). Picks d.may d.blocks Y) (sym (fresh-now left _ parts))
    (picked-picks d d.now picks all
    (record { len = (memory-is last).whole refl; each = λ b low. (memory-is last).has_now b refl low })) in
    record {
      sound = record {
        tells = refl;
        sound = λ Y some.
            subst (λ (Z : List Cell). IsSound Z)
            (sym (settled_image (memory_state left) (memory-is left) settled refl Y some))
            (stands.sound.picks X chosen);
      };
      allowed = subst (λ (B : List Cell). IsAllowed B k.history.entries d.moment X) stands.base (stands.rests X chosen);
    }

pub cut-result : (found last : MemDisk) (first : ℕ) (k : Books) (picks : List Pick) (result : Result MemDisk AllocError)
    → All (PicksVersions (memory_state last)) picks
    → IfOk result (λ left. parts_of left ≡ fresh_parts (picked (memory_state last).may (memory_state last).now picks))
    → IfOk result (λ left. IsSettled (memory_state left))
    → ∥ IsMount (memory_state found) (memory_state last) first k ∥₁
    → IfOk result (λ left. IsSoundDisk (memory_state found)
    → ∥ LeavesAllowed (memory_state last) k.history (memory_state left) ∥₁)
cut-result found last first k picks (Ok left) all parts settled mount =
    λ sound. ∥∥₁_map mount (λ is. cut-leaves (memory_state found) last left first k picks all settled parts sound is)
cut-result found last first k picks (Err why) all parts settled mount = tt
