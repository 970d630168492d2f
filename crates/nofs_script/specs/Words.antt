-- Lines, words and numbers of a text.
use Rattle.std.specs.Prelude.{ℕ, ◌+◌, ◌-◌, ◌*◌, ◌^◌, List, length, filter, fold, nat_lt, nat_le, ◌==◌, ◌&&◌, ◌||◌, not}
use Rattle.std.specs.Prelude.{Bool}
use Rattle.std.specs.Prelude.{if◌then◌else◌, None, Some, slice_index}
use Rattle.std.specs.Char.{is_ascii_digit}
use Rattle.std.specs.List.{slice_split, list_all}
use Rattle.std.specs.declared.option.Option.{Option}
use Rattle.std.specs.Borrow.{Bor}

-- what a piece of the text points to
abbrev pub piece_of : Bor (List ℕ) → List ℕ
piece_of p = p.now

-- the lines of a text, which stand between line feeds
abbrev pub text_lines : List ℕ → List (List ℕ)
text_lines text = slice_split (λ b. b == 10) text

abbrev pub is_word : List ℕ → Bool
is_word word = not (length word == 0)

-- the words of a line, separated by spaces
abbrev pub words_of : List ℕ → List (List ℕ)
words_of line = filter is_word (slice_split (λ b. b == 32) line)

-- the value of decimal digits
abbrev pub digits_value : List ℕ → ℕ
digits_value digits = fold (λ n b. n * 10 + (b - 48)) 0 digits

-- 1 to 20 digits without a leading zero, but 0 itself
abbrev pub is_number : List ℕ → Bool
is_number word = not (length word == 0) && nat_le (length word) 20
    && (length word == 1 || not (slice_index word 0 == 48)) && list_all is_ascii_digit word

-- the number that a word spells
abbrev pub number_of : List ℕ → Option ℕ
number_of word = if is_number word && nat_lt (digits_value word) (2 ^ 64) then Some (digits_value word) else None
