-- A part is written in several calls.
use Rattle.std.proofs.Common.{◌≡◌, ℕ, ◌+◌, ◌-◌, ◌≤◌, List, length, take, drop, Result, Ok, Err, arith, refl, ◌∙◌, subst}
use Rattle.std.specs.Prelude.{IsTrue, OnErr}
use Rattle.std.proofs.lemmas.List.{length-drop, take_all}
use Rattle.nofs_disk.specs.declared.Failed.{Failed}
use Rattle.nofs_filedisk.specs.Bytes.{HostFileState, IsPartlyPut, IsPut, KeepsDurable, WritesSome}
use Rattle.nofs_filedisk.proofs.OnMoving.Bytes.{put-more, put-none}

-- the first bytes of a part are written
pub record HasPut (at : ℕ) (part : List ℕ) (done : ℕ) (old now : HostFileState) : Type 0 where
  pub keeps : KeepsDurable old now
  pub fits : done ≤ length part
  pub put : IsTrue old.tells → IsPut at (take done part) old.bytes now.bytes
  pub no_fault : now.faults ≡ old.faults

pub KeepsDurable-refl : (f : HostFileState) → KeepsDurable f f
KeepsDurable-refl f = record { tells = refl; durable = refl; faults = omega arith }

pub KeepsDurable-trans : (a b c : HostFileState) → KeepsDurable a b → KeepsDurable b c → KeepsDurable a c
KeepsDurable-trans a b c p q = record {
  tells = q.tells ∙ p.tells;
  durable =
      q.durable ∙ p.durable;
  faults = (let x = p.faults in let y = q.faults in omega arith);
}

pub begins : (at : ℕ) (part : List ℕ) (f : HostFileState) → HasPut at part 0 f f
begins at part f =
    record { keeps = KeepsDurable-refl f; fits = omega arith; put = λ tells. put-none at f.bytes; no_fault = refl }

-- what is left of a part
rest-is : (done : ℕ) (part : List ℕ) → take (length part - done) (drop done part) ≡ drop done part
rest-is done part = take_all (length part - done) (drop done part) (omega (arith, length-drop done part))

pub goes-on : (at : ℕ) (part : List ℕ) (done n : ℕ) (old mid new : HostFileState) → HasPut at part done old mid
    → WritesSome mid new (at + done) (take (length part - done) (drop done part)) (Ok n)
    → HasPut at part (done + n) old new
goes-on at part done n old mid new has writes =
    let w = subst (λ (l : List ℕ). WritesSome mid new (at + done) l (Ok n)) (rest-is done part) writes in
    let fits = w.fits in
    let size = length-drop done part in
    let within = has.fits in
    record {
      keeps = KeepsDurable-trans old mid new has.keeps w.keeps;
      fits = omega arith;
      put = λ tells. put-more at done n part old.bytes mid.bytes new.bytes (omega arith) (has.put tells)
          (w.put (has.keeps.tells ∙ tells));
      no_fault = w.no_fault ∙ has.no_fault;
    }

pub ends : (at : ℕ) (part : List ℕ) (done : ℕ) (old now : HostFileState) → HasPut at part done old now
    → length part ≤ done → IsTrue old.tells
    → IsPut at part old.bytes now.bytes
ends at part done old now has all tells =
    subst (λ (l : List ℕ). IsPut at l old.bytes now.bytes) (take_all done part all) (has.put tells)

pub fails : (at : ℕ) (part : List ℕ) (done : ℕ) (x : Failed) (old mid new : HostFileState) → HasPut at part done old mid
    → WritesSome mid new (at + done) (take (length part - done) (drop done part)) (Err x) → IsTrue old.tells
    → IsPartlyPut at part old.bytes new.bytes
fails at part done x old mid new has writes tells =
    let w = subst (λ (l : List ℕ). WritesSome mid new (at + done) l (Err x)) (rest-is done part) writes in
    let partly = w.err (has.keeps.tells ∙ tells) in
    let size = length-drop done part in
    let within = has.fits in
    let fits = partly.fits in
    record {
      count = done + partly.count;
      fits = omega arith;
      put = put-more at done partly.count part old.bytes mid.bytes new.bytes (omega arith) (has.put tells) partly.put;
    }

pub on-err : {E P : Type 0} (r : Result (Unit {0}) E) → P → OnErr r P
on-err (Ok u) p = tt
on-err (Err e) p = p
