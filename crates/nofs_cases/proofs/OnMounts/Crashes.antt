-- A crash after the first mount, and the second one.
use Rattle.std.proofs.Math.Logic.{∥∥₁_map}
use Rattle.std.proofs.Common.{◌≡◌, ℕ, inl, refl, sym, ap, ◌∙◌, subst, arith}
use Rattle.std.specs.Prelude.{codes}
use Rattle.nofs_disk.specs.Disk.{IsDisk, IsSettled}
use Rattle.nofs_model.specs.Geometry.{Image}
use Rattle.nofs_versions.specs.Laws.{state_of-is}
use Rattle.nofs_memdisk.specs.Parts.{Parts, fresh_parts, memory_state, parts_of}
use Rattle.nofs_memdisk.specs.declared.memory.MemDisk.{MemDisk}
use Rattle.nofs_versions.proofs.OnMemory.Cells.{after_none}
use Rattle.nofs_versions.proofs.OnMemory.Images.{leaves_rest}
use Rattle.nofs_history.specs.HistoryState.{HistoryState}
use Rattle.nofs_shared.specs.Mount.End.{Ends}
use Rattle.nofs_shared.specs.Mount.Invariant.{IsSoundDisk}
use Rattle.nofs_shared.proofs.OnMount.Histories.{forms-later}
use Rattle.nofs_shared.specs.Laws.{IsBlankDisk, LawFoundSound, LawSettledAfter, Leaves, Mount}
use Rattle.nofs_cases.specs.Mounts.Replies.{SeesAndPuts}
use Rattle.nofs_cases.specs.Mounts.Two.{Crashed, TwoMounts}

memory-is : (d : MemDisk) → IsDisk (memory_state d)
memory-is d = state_of-is d.start d.base.items d.calls.items d.spare d.faults d.room d.counted d.sized

-- what a read gives is left by a crash at the end
now-left : (d : MemDisk) (X : Image) → X ≡ (memory_state d).now → (memory_state d).left (memory_state d).moment X
now-left d X e =
    let is = memory-is d in
    let F : Image → Type 0 = λ Y. (memory_state d).left (memory_state d).moment Y in
    subst F (sym e) (leaves_rest d.start d.base.items d.calls.items (memory_state d).now
    (record { len = is.whole refl; each = λ b low. is.has_now b refl low }))

fresh-now : (d : MemDisk) (X : Image) → parts_of d ≡ fresh_parts X → (memory_state d).now ≡ X
fresh-now d X e = after_none d.base.items d.calls.items (ap (λ (p : Parts). p.calls) e) ∙ ap (λ (p : Parts). p.base) e

module _ (found last left : MemDisk) (first : ℕ) (h : HistoryState) (q : IsSoundDisk (memory_state found))
    (blank : IsBlankDisk (memory_state found)) (steps : SeesAndPuts 5 (codes "ab") h.entries) where
  after-put : LawSettledAfter memory_state → IsSettled (memory_state left)
      → parts_of left ≡ fresh_parts (memory_state last).now
      → Ends (memory_state found) (memory_state last) first h → Crashed left
  after-put law settled parts e =
      (k, record { steps = steps; first = blank }, law k left (memory_state left).now refl settled leaves (inl refl))
    where
      k : Mount memory_state
      k = record { found = found; last = last; first = first; history = h; sound = ∣ q ∣₁; ends = ∣ e ∣₁ }

      leaves : Leaves k (memory_state left).now
      leaves =
          let later = forms-later h.entries h.start _ _ _ e.forms in
          let began = e.began in
          record {
            moment = (memory_state last).moment;
            from = omega (arith, later, began);
            to = omega arith;
            left = now-left last (memory_state left).now (fresh-now left (memory_state last).now parts);
            flushed = inl later;
          }

  pub crashed : LawSettledAfter memory_state → IsSettled (memory_state left)
      → parts_of left ≡ fresh_parts (memory_state last).now
      → ∥ Ends (memory_state found) (memory_state last) first h ∥₁ → ∥ Crashed left ∥₁
  crashed law settled parts ends = ∥∥₁_map ends (λ e. after-put law settled parts e)

pub both-mounts : LawFoundSound memory_state
    → (found last : MemDisk) (h : HistoryState) (first : ℕ) → ∥ Crashed found ∥₁
    → ∥ Ends (memory_state found) (memory_state last) first h ∥₁ → ∥ TwoMounts last h ∥₁
both-mounts law found last h first before ends = ∥∥₁_map before (λ c. (
  record { found = found; last = last; first = first; history = h; sound = law c.0 found refl c.2; ends = ends },
  c.0,
  refl,
  refl,
  c.1,
  (c.2, c.1.first),
))
