use Rattle.std.proofs.Common.{◌≡◌, inr, refl, sym, replicate, subst}
use Rattle.nofs_disk.specs.Tag.{zero_cell}
use Rattle.nofs_memdisk.specs.Parts.{fresh_parts, parts_of}
use Rattle.nofs.proofs.OnRuns.{runs-or-not}
use Rattle.nofs.proofs.run_in_memory.Goals as goal

pub returns-in-Ok : goal.returns-in-Ok
returns-in-Ok g c =
    runs-or-not _ _ _ _ _ _ _ (λ d. d.under ≡ c.in-Ok.disk)
    (λ d. parts_of d.under ≡ fresh_parts (replicate 4096 zero_cell)) _ _ _
    (λ d is. subst (λ m. parts_of m ≡ fresh_parts (replicate 4096 zero_cell)) (sym is) c.in-Ok.ensures.parts) (λ n. n)
    c.run_cached.ensures

pub returns-in-Err : goal.returns-in-Err
returns-in-Err g c = inr (refl, refl, refl)
