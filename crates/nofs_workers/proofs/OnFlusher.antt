-- Write-outs, one more at a time.
use Rattle.std.proofs.Common.{◌≡◌, ℕ, suc, ◌+◌, ◌-◌, ◌<◌, subst, arith, refl, true, false, Option, is_err}
use Rattle.std.specs.declared.result.Result.{Result}
use Rattle.nofs_disk.specs.declared.OutFault.{OutFault}
use Rattle.nofs_workers.specs.Flusher.{WroteOut}
use Rattle.nofs_workers.proofs.OnTasks.{on-ok, not-err, on-err, not-ok}

module _ {S : Type 0} (wrote : S → Result (Option ℕ) OutFault → S → Type 0) where
  -- what follows after `count` write-outs that were answered
  abbrev pub After : ℕ → S → S → Type 0
  After count old now = (n : ℕ) (new : S) → WroteOut wrote n now new → WroteOut wrote (count + n) old new

  pub after-none : (old : S) → After 0 old old
  after-none old n new w = subst (λ m. WroteOut wrote m old new) (let e : n ≡ 0 + n = omega arith in e) w

  pub after-more : (count : ℕ) (old now next : S) (result : Result (Option ℕ) OutFault) → After count old now
      → wrote now result next
      → is_err result ≡ false → After (count + 1) old next
  after-more count old now next result after w ok n new rest =
      subst (λ m. WroteOut wrote m old new) (let e : count + suc n ≡ count + 1 + n = omega arith in e)
      (after (suc n) new
      (result, next, w, on-ok result (WroteOut wrote n next new) ok rest, not-err result (new ≡ next) ok))

  pub after-fault : (count turns : ℕ) (old now next : S) (result : Result (Option ℕ) OutFault) → After count old now
      → wrote now result next
      → count < turns → is_err result ≡ true → WroteOut wrote turns old next
  after-fault count turns old now next result after w lt err =
      let n = turns - count - 1 in
      subst (λ m. WroteOut wrote m old next) (let e : count + suc n ≡ turns = omega arith in e)
      (after (suc n) next
      (result, next, w, not-ok result (WroteOut wrote n next next) err, on-err result (next ≡ next) err refl))

  pub after-all : (count : ℕ) (old now : S) → After count old now → WroteOut wrote count old now
  after-all count old now after =
      subst (λ m. WroteOut wrote m old now) (let e : count + 0 ≡ count = omega arith in e) (after 0 now refl)
