-- A part is read in several calls.
use Rattle.std.proofs.Common.{◌≡◌, ℕ, zero, suc, ◌+◌, ◌-◌, ◌≤◌, List, [], ◌++◌, length, take, drop, get_or, arith, refl}
use Rattle.std.proofs.Common.{sym, ap, ◌∙◌, subst, inl, inr}
use Rattle.std.specs.Prelude.{IsTrue, slice_index}
use Rattle.std.proofs.Math.ListN.{get_or-eq_default}
use Rattle.std.proofs.Math.Seq.{get_or-append_right}
use Rattle.std.proofs.lemmas.Bool.{cases_lt}
use Rattle.std.proofs.lemmas.List.{append-nil, drop_all, get_or-drop, get_or-take, length-drop, length-take-le}
use Rattle.std.proofs.lemmas.List.{take_all}
use borrow.Rule.Slice.PartMut.{put_mid}
use Rattle.nofs_disk.specs.Number.{zeros}
use Rattle.nofs_filedisk.specs.Bytes.{HostFileState, IsPart, KeepsBytes}

pub KeepsBytes-refl : (f : HostFileState) → KeepsBytes f f
KeepsBytes-refl f = record { tells = refl; bytes = refl; durable = refl; faults = omega arith }

pub KeepsBytes-trans : (a b c : HostFileState) → KeepsBytes a b → KeepsBytes b c → KeepsBytes a c
KeepsBytes-trans a b c p q =
    let x = p.faults in
    let y = q.faults in
    record {
      tells = q.tells ∙ p.tells;
      bytes = q.bytes ∙ p.bytes;
      durable = q.durable ∙ p.durable;
      faults = omega (arith, x, y);
    }

-- the first bytes of a part are read
pub record HasRead (at size done : ℕ) (into : List ℕ) (old now : HostFileState) : Type 0 where
  pub keeps : KeepsBytes old now
  pub len : length into ≡ size
  pub fits : done ≤ size
  pub part : IsTrue old.tells → IsPart old.bytes at (take done into)
  pub no_fault : now.faults ≡ old.faults

pub begins : (at : ℕ) (into : List ℕ) (f : HostFileState) → HasRead at (length into) 0 into f f
begins at into f = record {
  keeps = KeepsBytes-refl f;
  len = refl;
  fits = omega arith;
  part = λ tells k low. absurd (omega (arith, low));
  no_fault = refl;
}

-- parts one behind the other
part-more : (bytes : List ℕ) (at done n : ℕ) (was into : List ℕ) → done + n ≤ length into
    → take done into ≡ take done was → IsPart bytes at (take done was)
    → IsPart bytes (at + done) (take n (drop done into))
    → IsPart bytes at (take (done + n) into)
part-more bytes at done n was into fits same first next k low =
    let whole : length (take (done + n) into) ≡ done + n = length-take-le (done + n) into fits in
    let size = length-drop done into in
    let some : length (take n (drop done into)) ≡ n = length-take-le n (drop done into) (omega arith) in
    let front : length (take done into) ≡ done = length-take-le done into (omega arith) in
    let back : length (take done was) ≡ done = sym (ap length same) ∙ front in
    get_or-take (done + n) into k 0 (omega arith)
    ∙ elim (cases_lt k done) [
      | inl early ↦ sym (get_or-take done into k 0 early) ∙ ap (λ l. get_or l k 0) same ∙ first k (omega arith)
      | inr late ↦
          let index : done + (k - done) ≡ k = omega arith in
          let place : at + done + (k - done) ≡ at + k = omega arith in
          sym (get_or-take n (drop done into) (k - done) 0 (omega arith) ∙ get_or-drop done into (k - done) 0
          ∙ ap (λ i. get_or into i 0) index)
          ∙ next (k - done) (omega arith) ∙ ap (slice_index bytes) place
    ]

pub goes-on : (at size done n : ℕ) (was into : List ℕ) (old mid new : HostFileState) → HasRead at size done was old mid
    → KeepsBytes mid new
    → length into ≡ length was → take done into ≡ take done was → done + n ≤ length was
    → (IsTrue mid.tells → IsPart mid.bytes (at + done) (take n (drop done into)))
    → new.faults ≡ mid.faults → HasRead at size (done + n) into old new
goes-on at size done n was into old mid new has keeps len same fits part no_fault =
    let size_was = has.len in
    record {
      keeps = KeepsBytes-trans old mid new has.keeps keeps;
      len = len ∙ has.len;
      fits = omega arith;
      part = λ tells.
          let next = subst (λ (l : List ℕ). IsPart l (at + done) (take n (drop done into))) has.keeps.bytes
          (part (has.keeps.tells ∙ tells)) in
          part-more old.bytes at done n was into (omega arith) same (has.part tells) next;
      no_fault = no_fault ∙ has.no_fault;
    }

-- all bytes are read
pub ends : (at size done : ℕ) (into : List ℕ) (old now : HostFileState) → HasRead at size done into old now
    → size ≤ done → IsTrue old.tells
    → IsPart old.bytes at into
ends at size done into old now has all tells =
    let size_is = has.len in
    subst (λ (l : List ℕ). IsPart old.bytes at l) (take_all done into (omega arith)) (has.part tells)

-- the file has ended, and what is left is cleared
pub ends-short : (at size done : ℕ) (was into : List ℕ) (old mid new : HostFileState) → HasRead at size done was old mid
    → KeepsBytes mid new
    → take done into ≡ take done was → length into ≡ length was
    → ((k : ℕ) → done ≤ k → slice_index into k ≡ 0) → (IsTrue mid.tells → length mid.bytes ≤ at + done)
    → IsTrue old.tells → IsPart old.bytes at into
ends-short at size done was into old mid new has keeps same len zero_from end tells k low =
    let ended : length old.bytes ≤ at + done =
    subst (λ (l : List ℕ). length l ≤ at + done) has.keeps.bytes (end (has.keeps.tells ∙ tells)) in
    let size_was = has.len in
    let fits = has.fits in
    let back : length (take done was) ≡ done = length-take-le done was (omega arith) in
    elim (cases_lt k done) [
      | inl early ↦ sym (get_or-take done into k 0 early) ∙ ap (λ l. get_or l k 0) same ∙ has.part tells k (omega arith)
      | inr late ↦ zero_from k late ∙ sym (get_or-eq_default old.bytes 0 (omega arith))
    ]

-- a slice whose end was cleared
zero-at : (n k : ℕ) → slice_index (zeros n) k ≡ 0
unfolding zeros
zero-at zero k = get_or-eq_default {A = ℕ} [] 0 {n = k} (omega arith)
zero-at (suc n) zero = refl
zero-at (suc n) (suc k) = zero-at n k

pub cleared : (done k : ℕ) (bytes new : List ℕ) → done ≤ length bytes → new ≡ zeros (length bytes - done) → done ≤ k
    → slice_index (put_mid done (length bytes - done) bytes new) k ≡ 0
cleared done k bytes new fits is behind =
    let front = length-take-le done bytes fits in
    let none : drop (length bytes - done) (drop done bytes) ≡ [] =
    drop_all (length bytes - done) (drop done bytes) (omega (arith, length-drop done bytes)) in
    let part : put_mid done (length bytes - done) bytes new ≡ take done bytes ++ zeros (length bytes - done) =
    ap (λ l. take done bytes ++ l) (ap (λ l. new ++ l) none ∙ append-nil new ∙ is) in
    ap (λ l. slice_index l k) part
    ∙ get_or-append_right (take done bytes) (zeros (length bytes - done)) k 0 (omega arith)
    ∙ zero-at (length bytes - done) (k - length (take done bytes))
