-- Bytes that are taken behind others, and bytes that move to the front.
use Rattle.std.proofs.Common.{◌≡◌, ℕ, ◌+◌, ◌-◌, ◌<◌, ◌≤◌, List, [], ◌++◌, length, take, drop, length-drop, None, Some}
use Rattle.std.proofs.Common.{Result, Ok, Err, sym, ap, ◌∙◌, arith}
use Rattle.std.specs.declared.option.Option.{Option}
use Rattle.std.specs.Io.{ReadsAtMost}
use Rattle.std.specs.Io.KnownBytes.{Consumes, Keeps, ReadConsumes}
use lib.Seq.{paste, take-append-add}
use Rattle.std.proofs.lemmas.List.{drop-take, length-take-le, take-append-le, take_at}
use Rattle.std.proofs.lemmas.List.Edits.{take-paste}
use Rattle.nofs_wire.specs.Server.Buffers.{TakesInto}

-- nothing was taken of what is kept
pub consumes-nothing : (a b : Option (List ℕ)) → Keeps a b → Consumes a b []
consumes-nothing None b h = tt
consumes-nothing (Some x) None h = absurd h
consumes-nothing (Some x) (Some y) h = sym h

-- what was taken into the middle stands behind the front
pub takes-into : {E : Type 0} (r : Result ℕ E) (from to : ℕ) (old into rest : List ℕ) (left new_left : Option (List ℕ))
    → from ≤ length old → from < to
    → length into ≡ to - from → ReadsAtMost r into → ReadConsumes left new_left r into
    → TakesInto r from to old (take from old ++ (into ++ rest)) left new_left
takes-into (Ok count) from to old into rest left new_left fits some long within bytes =
    let front : length (take from old) ≡ from = length-take-le from old fits in
    let low = within.0 in
    let joined : take (length (take from old) + count) (take from old ++ (into ++ rest)) ≡ take from old
    ++ take count (into ++ rest) =
    take-append-add (take from old) (into ++ rest) count in (
      take count into,
      bytes.0,
      ap (λ n. take (n + count) (take from old ++ (into ++ rest))) (sym front)
          ∙ joined ∙ ap (λ l. take from old ++ l) (take-append-le count into rest low),
      length-take-le count into low,
      omega arith,
      λ none. bytes.1 none (omega arith),
    )
takes-into (Err e) from to old into rest left new_left fits some long within bytes =
    (consumes-nothing left new_left bytes, take_at (take from old) (into ++ rest) from (length-take-le from old fits))

-- what was pasted to the front is what stood from a place on
pub shifted : (from to : ℕ) (old : List ℕ) → from ≤ to → to ≤ length old
    → take (to - from) (paste old 0 (drop from old) (to - from)) ≡ drop from (take to old)
shifted from to old order within =
    let n = to - from in
    let same : n ≡ 0 + n = omega arith in
    let rest : n ≤ length (drop from old) = omega (arith, length-drop from old) in
    let whole : from + n ≡ to = omega arith in
    ap (λ k. take k (paste old 0 (drop from old) n)) same
    ∙ take-paste old 0 (drop from old) n (omega arith) rest
    ∙ sym (drop-take from n old)
    ∙ ap (λ k. drop from (take k old)) whole
