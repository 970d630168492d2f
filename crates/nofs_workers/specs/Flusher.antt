-- What a flusher has done.
use Rattle.std.specs.Prelude.{◌≡◌, ℕ, zero, suc, List, Option, OnOk, OnErr}
use Rattle.std.specs.declared.result.Result.{Result}
use Rattle.nofs_disk.specs.declared.OutFault.{OutFault}
use Rattle.nofs_history.specs.Steps.{Made}
use Rattle.nofs_workers.specs.declared.flusher.Flusher.{Flusher}

module _ {S : Type 0} where
  -- from old to new so many write-outs were made one after the other, and fewer where one failed
  abbrev pub WroteOut : (S → Result (Option ℕ) OutFault → S → Type 0) → ℕ → S → S → Type 0
  WroteOut wrote zero old new = new ≡ old
  WroteOut wrote (suc n) old new = (result : Result (Option ℕ) OutFault) × (next : S) × wrote old result next
      × OnOk result (WroteOut wrote n next new) × OnErr result (new ≡ next)

module _ {S T : Type 0} where
  -- it wrote out `turns` times, and made no step
  pub record Flushes (made : S → List Made) (wrote : S → Result (Option ℕ) OutFault → S → Type 0)
      (goes : S → S → Type 0) (old new : Flusher S T) : Type 0 where
    pub turns : new.turns ≡ old.turns
    pub none_made : made new.steps ≡ made old.steps
    pub wrote_out : WroteOut wrote old.turns old.steps new.steps
    pub goes_on : goes old.steps new.steps
