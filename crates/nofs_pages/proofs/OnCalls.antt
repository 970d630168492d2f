-- What the calls of a file of pages answer.
use Rattle.std.proofs.Common.{◌≡◌, ℕ, ◌+◌, ◌*◌, ◌/◌, ◌%◌, ◌<◌, ◌≤◌, List, [], length, take, Option, None, Some, Result}
use Rattle.std.proofs.Common.{Ok, Err}
use Rattle.std.proofs.Common.{arith, refl, sym, ap, ◌∙◌, subst}
use Rattle.std.specs.Prelude.{IfOk, IfSome, IsTrue, OnErr, OnOk, slice_index}
use Rattle.std.proofs.lemmas.List.{get_or-take, length-take-le, take-take}
use Rattle.nofs_disk.specs.Disk.{Rose}
use Rattle.nofs_disk.specs.declared.Failed.{Failed}
use Rattle.nofs_filedisk.specs.Bytes.{HostFileState, IsPart, IsPartlyPut, IsPut, KeepsBytes, KeepsDurable, ReadsSome}
use Rattle.nofs_filedisk.specs.Bytes.{Syncs, WritesSome}
use Rattle.nofs_filedisk.proofs.OnMoving.Bytes.{put-none}
use Rattle.nofs_pages.specs.Views.{HasTold, IsPlainRow, ReadsCells, StoreState, byte_over, paged_state}
use Rattle.nofs_pages.specs.declared.row.Row.{Row}
use Rattle.nofs_pages.proofs.OnViews.{at-view, length-view, rest-plain, view-synced}

-- Reads

part-read : (store synced : StoreState) (row : Row) (f at count : ℕ) (into : List ℕ)
    → count ≤ length into → at + count ≤ 1107296256 → ReadsCells (byte_over store.bytes row) at count into
    → IsTrue store.tells → IsPart (paged_state store synced row f).bytes at (take count into)
part-read store synced row f at count into fits place reads tells k low =
    let size = length-take-le count into fits in
    get_or-take count into k 0 (omega arith) ∙ reads k (omega arith)
    ∙ sym (at-view store synced row f (at + k) tells (omega arith))

pub part-pieces : (store synced : StoreState) (row : Row) (f at first offset count : ℕ) (from into : List ℕ)
    (r : Result (Option ℕ) Failed)
    → first ≡ at / 3168 → offset ≡ at % 3168 → count ≤ length from → length into ≡ length from
    → at + count ≤ 1107296256
    → IfOk r (λ told. IfSome told (λ n. n ≡ count))
    → IfOk r (λ told. IfSome told (λ n. IsTrue store.tells
    → ReadsCells (byte_over store.bytes row) (3168 * first + offset) count into))
    → IfOk r
    (λ told. IfSome told (λ n. IsTrue store.tells → IsPart (paged_state store synced row f).bytes at (take n into)))
part-pieces store synced row f at first offset count from into (Err e) page rest fits len place is reads = tt
part-pieces store synced row f at first offset count from into (Ok None) page rest fits len place is reads = tt
part-pieces store synced row f at first offset count from into (Ok (Some n)) page rest fits len place is reads =
    λ tells.
    let F : ℕ → Type 0 = λ k. IsPart (paged_state store synced row f).bytes at (take k into) in
    let G : ℕ → Type 0 = λ k. ReadsCells (byte_over store.bytes row) k count into in
    let whole : 3168 * first + offset ≡ at = omega arith in
    subst F (sym is)
    (part-read store synced row f at count into (omega arith) place (subst G whole (reads tells)) tells)

pub told-pieces : (told : ℕ → Type 0) (row : Row) (at first offset count : ℕ) (r : Result (Option ℕ) Failed)
    → first ≡ at / 3168 → offset ≡ at % 3168 → IfOk r (λ told. IfSome told (λ n. n ≡ count))
    → IfOk r (λ all. IfSome all (λ n. HasTold told row first ((offset + count + 3167) / 3168)))
    → IfOk r (λ all. IfSome all (λ n. 0 < n → HasTold told row (at / 3168) ((at % 3168 + n + 3167) / 3168)))
told-pieces told row at first offset count (Err e) page rest is has = tt
told-pieces told row at first offset count (Ok None) page rest is has = tt
told-pieces told row at first offset count (Ok (Some n)) page rest is has =
    λ some.
    let G : ℕ → Type 0 = λ p. HasTold told row p ((at % 3168 + n + 3167) / 3168) in
    let H : ℕ → Type 0 = λ c. HasTold told row first c in
    let size : (offset + count + 3167) / 3168 ≡ (at % 3168 + n + 3167) / 3168 = omega (arith, rest, is) in
    subst G page (subst H size has)

ends-at : (store synced : StoreState) (row : Row) (f at : ℕ) → 1107296256 ≤ at → IsTrue store.tells
    → length (paged_state store synced row f).bytes ≤ at
ends-at store synced row f at past tells =
    let size = length-view store synced row f tells in
    omega arith

-- a read of some bytes
pub reads-some : (store synced : StoreState) (row : Row) (f : ℕ) (new : HostFileState) (at : ℕ) (from into : List ℕ)
    (r : Result (Option ℕ) Failed) (count : ℕ) → r ≡ Ok (Some count)
    → KeepsBytes (paged_state store synced row f) new → length into ≡ length from
    → IfOk r (λ told. IfSome told (λ n. n ≤ length from))
    → IfOk r
    (λ told. IfSome told (λ n. IsTrue store.tells → IsPart (paged_state store synced row f).bytes at (take n into)))
    → IfOk r (λ told. IfSome told (λ n. n ≡ 0 → 0 < length from → 1107296256 ≤ at))
    → OnOk r (new.faults ≡ f) → ReadsSome (paged_state store synced row f) new at from into (Ok count)
reads-some store synced row f new at from into r count is keeps len fits part end no_fault =
    let F : Result (Option ℕ) Failed → Type 0 = λ x. IfOk x (λ told. IfSome told (λ n. n ≤ length from)) in
    let G : Result (Option ℕ) Failed → Type 0 = λ x. IfOk x (λ told. IfSome told (λ n. IsTrue store.tells
    → IsPart (paged_state store synced row f).bytes at (take n into))) in
    let H : Result (Option ℕ) Failed → Type 0 =
    λ x. IfOk x (λ told. IfSome told (λ n. n ≡ 0 → 0 < length from → 1107296256 ≤ at)) in
    let K : Result (Option ℕ) Failed → Type 0 = λ x. OnOk x (new.faults ≡ f) in
    record {
      keeps = keeps;
      len = len;
      fits = subst F is fits;
      part = subst G is part;
      end = λ none some tells. ends-at store synced row f at (subst H is end none some) tells;
      cause = tt;
      no_fault = subst K is no_fault;
    }

-- Writes

pub none-partly : (at : ℕ) (part a b : List ℕ) → b ≡ a → IsPartlyPut at part a b
none-partly at part a b same =
    let F : List ℕ → Type 0 = λ l. IsPut at (take 0 part) a l in
    record { count = 0; fits = omega arith; put = subst F (sym same) (put-none at a) }

-- Syncs

pub sync-all : (zero one two synced after last : StoreState) (before row next : Row) (f g h : ℕ)
    → KeepsBytes (paged_state zero synced before f) (paged_state one after row g)
    → KeepsBytes (paged_state one after row g) (paged_state two last next h)
    → (IsTrue one.tells → (k : ℕ) → slice_index two.bytes k ≡ slice_index one.bytes k)
    → (IsTrue one.tells → IsPlainRow one.bytes row) → next ≡ row → h ≡ g → g ≡ f
    → Syncs (paged_state zero synced before f) (paged_state two two next h) (Ok tt)
sync-all zero one two synced after last before row next f g h keeps then same plain row_is no_fault none = record {
  tells = then.tells ∙ keeps.tells;
  bytes = then.bytes ∙ keeps.bytes;
  faults = omega (arith, no_fault, none);
  durable = view-synced one two row g h then.tells (λ t k. same t k ∙ rest-plain one.bytes row (plain t) k) after
      ∙ keeps.bytes;
  err = tt;
  cause = tt;
  no_fault = no_fault ∙ none;
}
