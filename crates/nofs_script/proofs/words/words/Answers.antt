use Rattle.std.proofs.Common.{arith}
use Rattle.std.proofs.lemmas.List.{length-map}
use Rattle.nofs_script.specs.Words.{piece_of, words_of}
use Rattle.nofs_script.proofs.OnWords.Spaces.{goes_on, ends, full, few}
use Rattle.nofs_script.proofs.words.words.Goals as goal

pub returns-in-None : goal.returns-in-None
returns-in-None c =
    let pushed = c.in_ok-push_word-in-None.ensures in
    let now = c.push_word.new.words.items in
    few _ _ (ends _ _ _ c.spaces.rest.now c.spaces.invariant.0 c.in-None.ensures.first pushed.words)
    (omega (arith, length-map now piece_of, pushed.one, c.len.ensures, c.spaces-test.true))

pub spaces-preserved : goal.spaces-preserved
spaces-preserved c =
    let pushed = c.in_ok-push_word-in-Some.ensures in
    let here = c.in-Some.ensures.first in (
      goes_on _ _ _ c.spaces.rest.now c.spaces.invariant.0 c.text_after-rest.result.now c.in-Some.end here.0 here.1
          pushed.words c.text_after-rest.ensures,
      omega (arith, pushed.one, c.len.ensures, c.spaces-test.true),
    )

pub returns : goal.returns
returns c =
    let words = c.spaces.words.items in
    full _ (words_of c.spaces.rest.now) _ c.spaces.invariant.0
    (omega (arith, length-map words piece_of, c.spaces.invariant.1, c.len.ensures, c.spaces-test.false))
