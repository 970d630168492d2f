-- The numbers of a drill, slot by slot.
use Rattle.std.proofs.Common.{◌≡◌, ℕ, suc, ◌+◌, ◌<◌, ◌≤◌, List, ◌∷◌, length, drop, get_or, sym, ap, ◌∙◌, arith}
use Rattle.std.specs.Prelude.{if◌then◌else◌}
use Rattle.std.proofs.Math.Seq.{drop-cons}
use Rattle.std.proofs.Math.ListN.{drop_of_length-le}
use Rattle.nofs_model.specs.declared.image.value.Value.{Value}
use Rattle.nofs_history.specs.Machine.{cut_of}
use Rattle.nofs_history.specs.declared.machine.replies.Reply.{Reply}
use Rattle.nofs_gen.specs.Replay.{slot_value}
use Rattle.nofs_gen.specs.Tally.{is_value_read, slot_sum, slots_sum, slots_wrong}

next-slot : (rs : List Reply) (k : ℕ) (r : Reply) → k < length rs → r ≡ get_or rs k r → drop k rs ≡ r ∷ drop (k + 1) rs
next-slot rs k r low is =
    let s : suc k ≡ k + 1 = omega arith in
    drop-cons rs k r low ∙ (ap (λ (x : Reply). x ∷ drop (suc k) rs) (sym is) ∙ ap (λ (n : ℕ). r ∷ drop n rs) s)

pub sum-next : (size k total new whole : ℕ) (rs : List Reply) (r : Reply) → k < length rs → r ≡ get_or rs k r
    → new ≡ total + slot_sum (cut_of size k) r
    → total + slots_sum size k (drop k rs) ≡ whole → new + slots_sum size (k + 1) (drop (k + 1) rs) ≡ whole
sum-next size k total new whole rs r low is new_is e =
    let here : slots_sum size k (drop k rs) ≡ slot_sum (cut_of size k) r + slots_sum size (k + 1) (drop (k + 1) rs) =
    ap (slots_sum size k) (next-slot rs k r low is) in
    omega (arith, new_is, e, here)

pub sum-end : (size k total whole : ℕ) (rs : List Reply)
    → length rs ≤ k → total + slots_sum size k (drop k rs) ≡ whole → total ≡ whole
sum-end size k total whole rs high e =
    let none : slots_sum size k (drop k rs) ≡ 0 = ap (slots_sum size k) (drop_of_length-le rs high) in
    omega (arith, e, none)

pub wrong-next : (values : List Value) (k total new whole one : ℕ) (rs : List Reply) (r : Reply) → k < length rs
    → r ≡ get_or rs k r
    → one ≡ (if is_value_read (slot_value values k) r then 0 else 1) → new ≡ total + one
    → total + slots_wrong values k (drop k rs) ≡ whole → new + slots_wrong values (k + 1) (drop (k + 1) rs) ≡ whole
wrong-next values k total new whole one rs r low is one_is new_is e =
    let here : slots_wrong values k (drop k rs) ≡ one + slots_wrong values (k + 1) (drop (k + 1) rs) =
    ap (slots_wrong values k) (next-slot rs k r low is)
    ∙ ap (λ (n : ℕ). n + slots_wrong values (k + 1) (drop (k + 1) rs)) (sym one_is) in
    omega (arith, new_is, e, here)

pub wrong-end : (values : List Value) (k total whole : ℕ) (rs : List Reply)
    → length rs ≤ k → total + slots_wrong values k (drop k rs) ≡ whole → total ≡ whole
wrong-end values k total whole rs high e =
    let none : slots_wrong values k (drop k rs) ≡ 0 = ap (slots_wrong values k) (drop_of_length-le rs high) in
    omega (arith, e, none)
