use Rattle.std.proofs.Common.{◌≡◌, ◌+◌, ◌*◌, ◌-◌, ◌==◌, ◌&&◌, arith, sym, ap, ap₂, ◌∙◌, take, drop}
use Rattle.std.proofs.Math.Bool.{and-true}
use Rattle.std.specs.List.{list_all}
use Rattle.std.proofs.lemmas.List.{drop-drop}
use Rattle.nofs_dirent.proofs.OnZeros.{zeros-last, zeros-on, zeros-whole}
use Rattle.nofs_dirent.proofs.entry.are_zero_from.Goals as goal

pub loop-word-init : goal.loop-word-init
loop-word-init c =
    ap (λ n. n == 0) c.read_u64_at-all.ensures ∙ zeros-last c.args.bytes.now c.requires.len
    ∙ sym (and-true (list_all (λ b. b == 0) (drop 56 c.args.bytes.now)))

pub loop-word-preserved : goal.loop-word-preserved
loop-word-preserved c =
    let len = c.requires.len in
    let low = c.loop-word-test.true in
    let from = c.args.from in
    let bytes = c.args.bytes.now in
    let last = list_all (λ b. b == 0) (drop 56 bytes) in
    let before = list_all (λ b. b == 0) (take (8 * c.loop-word.word) (drop from bytes)) in
    ap₂ (λ a n. a && (n == 0)) {x = c.loop-word.all} {y = last && before} c.loop-word.invariant c.read_u64_at.ensures
    ∙ zeros-on from c.loop-word.word bytes last (omega (arith, len, low))

pub returns : goal.returns
returns c =
    let from = c.args.from in
    let bytes = c.args.bytes.now in
    let word = c.loop-word.word in
    let late = c.loop-word-test.false in
    let low = c.if-from-gt56.false in
    let before = list_all (λ b. b == 0) (take (8 * word) (drop from bytes)) in
    let place : 56 ≡ from + (56 - from) = omega (arith, low) in
    let whole : drop 56 bytes ≡ drop (56 - from) (drop from bytes) =
    ap (λ n. drop n bytes) place ∙ sym (drop-drop (56 - from) from bytes) in
    c.loop-word.invariant
    ∙ ap (λ l. list_all (λ b. b == 0) l && before) whole
    ∙ zeros-whole (56 - from) (8 * word) (drop from bytes) (omega (arith, low, late))
