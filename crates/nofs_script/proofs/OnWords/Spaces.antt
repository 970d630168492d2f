-- The words of a line, as a loop takes them off.
use Rattle.std.proofs.Common.{◌≡◌, ℕ, ◌≤◌, ◌==◌, List, [], ◌∷◌, ◌++◌, Some, length, take, filter, sym, ap, ap₂, ◌∙◌}
use Rattle.std.proofs.Common.{append_assoc, take_all, take_at, slice_get}
use Rattle.std.proofs.lemmas.List.Elements.{filter-append}
use Rattle.std.specs.List.{slice_split}
use Rattle.nofs_script.specs.Words.{is_word, words_of}
use Rattle.nofs_script.proofs.OnWords.Cuts.{Lacks, after, one_part, first_part}

-- a piece, where it is a word
abbrev pub word_in : List ℕ → List (List ℕ)
word_in piece = filter is_word (piece ∷ [])

module _ (before now total : List (List ℕ)) (text : List ℕ) (so_far : before ++ words_of text ≡ total) where
  -- the piece before a space is taken off
  pub goes_on : (rest : List ℕ) (end : ℕ) → slice_get text end ≡ Some 32 → Lacks 32 (take end text)
      → now ≡ before ++ word_in (take end text) → rest ≡ after end text → now ++ words_of rest ≡ total
  goes_on rest end space none pushed is_rest =
      let first : words_of text ≡ word_in (take end text) ++ words_of (after end text) =
      ap (filter is_word) (first_part 32 text end space none)
      ∙ filter-append is_word (take end text ∷ []) (slice_split (λ other. other == 32) (after end text)) in
      ap₂ (λ front back. front ++ words_of back) pushed is_rest
      ∙ append_assoc before (word_in (take end text)) (words_of (after end text))
      ∙ ap (λ words. before ++ words) (sym first) ∙ so_far

  -- the piece after the last space is all that is left
  pub ends : Lacks 32 text → now ≡ before ++ word_in text → now ≡ total
  ends none pushed = pushed ∙ ap (λ parts. before ++ filter is_word parts) (sym (one_part 32 text none)) ∙ so_far

-- five words are the first five, whatever follows
pub full : (now rest total : List (List ℕ)) → now ++ rest ≡ total → length now ≡ 5 → now ≡ take 5 total
full now rest total e five = sym (ap (take 5) (sym e) ∙ take_at now rest 5 five)

-- where there are no more than five, they are all
pub few : (now total : List (List ℕ)) → now ≡ total → length now ≤ 5 → now ≡ take 5 total
few now total e five = sym (ap (take 5) (sym e) ∙ take_all 5 now five)
