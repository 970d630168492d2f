-- What a result says where a test tells which one it is.
use Rattle.std.proofs.Common.{◌≡◌, true, false, OnOk, OnErr, is_err, Ok, Err}
use Rattle.std.specs.declared.result.Result.{Result}
use Rattle.std.proofs.lemmas.Bool.{true≢false, false≢true}

module _ {A E : Type 0} where
  pub on-ok : (r : Result A E) (P : Type 0) → is_err r ≡ false → P → OnOk r P
  on-ok (Ok x) P ok p = p
  on-ok (Err e) P ok p = tt

  pub from-ok : (r : Result A E) (P : Type 0) → is_err r ≡ false → OnOk r P → P
  from-ok (Ok x) P ok p = p
  from-ok (Err e) P ok p = absurd (true≢false ok)

  pub not-err : (r : Result A E) (P : Type 0) → is_err r ≡ false → OnErr r P
  not-err (Ok x) P ok = tt
  not-err (Err e) P ok = absurd (true≢false ok)

  pub on-err : (r : Result A E) (P : Type 0) → is_err r ≡ true → P → OnErr r P
  on-err (Ok x) P err p = tt
  on-err (Err e) P err p = p

  pub not-ok : (r : Result A E) (P : Type 0) → is_err r ≡ true → OnOk r P
  not-ok (Ok x) P err = absurd (false≢true err)
  not-ok (Err e) P err = tt
