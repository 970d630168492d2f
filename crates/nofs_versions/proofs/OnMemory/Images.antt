-- The images that a disk in memory may leave: each that picks.
use Rattle.std.proofs.Common.{ℕ, ◌+◌, ◌*◌, Bool, false, List, [], ◌∷◌, ◌++◌, length, arith, inl, inr, refl, sym, ap}
use Rattle.std.proofs.Common.{subst}
use Rattle.std.proofs.lemmas.List.{length_push, take_all, take_at, get_or_at}
use Rattle.nofs_disk.specs.declared.tag.Cell.{Cell}
use Rattle.nofs_disk.specs.Disk.{Picks}
use Rattle.nofs_versions.specs.declared.call.Call.{Call}
use Rattle.nofs_versions.specs.declared.call.Call.TheVariants.{Write, Flush}
use Rattle.nofs_versions.specs.Memory.{within, MayLeave, call_at, held_after, may_during}
use Rattle.nofs_versions.specs.Laws.{picks_out}
use Rattle.nofs_versions.proofs.OnMemory.Cells.{held_after-push}

-- at rest the disk may leave every image that picks
pub leaves_rest : (start : ℕ) (base : List Cell) (calls : List Call) (image : List Cell)
    → Picks (within (length base) (held_after base calls).may) (length base) image
    → MayLeave start base calls (start + 2 * length calls) image
leaves_rest start base calls image picks =
    let F : List Call → Type 0 = λ l. Picks (held_after base l).may (length base) image in
    inl (record {
      k = length calls;
      at = refl;
      made = omega arith;
      picks =
          subst F (sym (take_all (length calls) calls (omega arith)))
          (picks_out (length base) (held_after base calls).may image picks);
    })

-- during the last call it may leave every image that picks
leaves_last : (start : ℕ) (base : List Cell) (calls : List Call) (call : Call) (image : List Cell)
    → Picks (may_during (held_after base calls) call) (length base) image
    → MayLeave start base (calls ++ call ∷ []) (start + 2 * length calls + 1) image
leaves_last start base calls call image picks =
    let F : List Call → Type 0 =
    λ l. Picks (may_during (held_after base l) (call_at (calls ++ call ∷ []) (length calls))) (length base) image in
    let G : Call → Type 0 = λ c. Picks (may_during (held_after base calls) c) (length base) image in
    inr (record {
      k = length calls;
      at = omega arith;
      made = (let e = length_push calls call in omega arith);
      picks = subst F (sym (take_at calls (call ∷ []) (length calls) refl))
          (subst G (sym (get_or_at calls call [] (Flush false) (length calls) refl)) picks);
    })

pub leaves_write : (start : ℕ) (base : List Cell) (calls : List Call) (block : ℕ) (cell : Cell) (taken : Bool)
    (image : List Cell)
    → Picks (within (length base) (held_after base (calls ++ Write block cell taken ∷ [])).may) (length base) image
    → MayLeave start base (calls ++ Write block cell taken ∷ []) (start + 2 * length calls + 1) image
leaves_write start base calls block cell taken image picks =
    let F : (ℕ → List Cell) → Type 0 = λ may. Picks may (length base) image in
    leaves_last start base calls (Write block cell taken) image
    (subst F (ap (λ h. h.may) (held_after-push base calls (Write block cell taken)))
    (picks_out (length base) (held_after base (calls ++ Write block cell taken ∷ [])).may image picks))

pub leaves_flush : (start : ℕ) (base : List Cell) (calls : List Call) (settles : Bool) (image : List Cell)
    → Picks (within (length base) (held_after base calls).may) (length base) image
    → MayLeave start base (calls ++ Flush settles ∷ []) (start + 2 * length calls + 1) image
leaves_flush start base calls settles image picks = leaves_last start base calls (Flush settles) image
    (picks_out (length base) (held_after base calls).may image picks)
