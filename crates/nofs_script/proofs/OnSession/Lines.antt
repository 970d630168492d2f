-- Reading line by line, as a text comes.
use Rattle.std.proofs.Common.{◌≡◌, ◌≢◌, ℕ, ◌+◌, ◌<◌, ◌==◌, List, [], ◌∷◌, ◌++◌, Some, length, take, Result, Ok, Err}
use Rattle.std.proofs.Common.{arith, refl, sym, ap, subst, ◌∙◌, append-nil, append_assoc, slice_get}
use Rattle.std.specs.Str.Lines.{strip_carriage_return}
use Rattle.std.proofs.lemmas.List.Elements.{All-append}
use Rattle.std.proofs.lemmas.List.Splits.{length-slice_split}
use Rattle.nofs_script.specs.declared.session.Reading.{Reading}
use Rattle.nofs_script.specs.declared.faults.ScriptFault.{ScriptFault}
use Rattle.nofs_script.specs.declared.faults.TextFault.{TextFault}
use Rattle.nofs_script.specs.declared.faults.TextFault.TheVariants.{Wrong, OutOfMemory}
use Rattle.nofs_script.specs.declared.pieces.LineReader.{LineReader}
use Rattle.nofs_script.specs.Words.{text_lines}
use Rattle.nofs_script.specs.Grammar.{◌>>=◌, MatchesFault, MatchesReading}
use Rattle.nofs_script.specs.Pieces.{ReadsOn}
use Rattle.nofs_script.specs.Session.{at_line, empty_reading, line_to_break, read_line, read_from, session_of}
use Rattle.nofs_script.proofs.OnWords.Cuts.{Lacks, after, cut_at, one_part, part_before}

-- a line with lines after it may end in a carriage return
ended : (line : List ℕ) (rest : List (List ℕ)) → 0 < length rest → line_to_break line rest ≡ strip_carriage_return line
ended line [] some = absurd (omega arith)
ended line (x ∷ xs) some = refl

-- one line is read
step : (n : ℕ) (r : Reading) (line rest : List ℕ) → Lacks 10 line
    → read_from n r (text_lines (line ++ 10 ∷ rest))
    ≡ (at_line n (read_line r (strip_carriage_return line)) >>= λ next. read_from (n + 1) next (text_lines rest))
unfolding read_from
step n r line rest none =
    ap (read_from n r) (part_before 10 line rest none)
    ∙ ap (λ line. at_line n (read_line r line) >>= λ next. read_from (n + 1) next (text_lines rest))
    (ended line (text_lines rest) (omega (arith, length-slice_split (λ other. other == 10) rest)))

module _ (old : LineReader) (end left text : List ℕ) (none : Lacks 10 end)
    (so_far : ReadsOn old (end ++ 10 ∷ left) text) where
  -- the line that ends here
  abbrev pub line : List ℕ
  line = old.line.items ++ end

  whole : (more : List ℕ) → old.line.items ++ ((end ++ 10 ∷ left) ++ more) ≡ line ++ 10 ∷ (left ++ more)
  whole more = ap (λ l. old.line.items ++ l) (append_assoc end (10 ∷ left) more)
      ∙ sym (append_assoc old.line.items end (10 ∷ (left ++ more)))

  on : (more : List ℕ)
      → (at_line old.number (read_line old.reading (strip_carriage_return line))
      >>= λ next. read_from (old.number + 1) next (text_lines (left ++ more)))
      ≡ read_from 1 empty_reading (text_lines (text ++ more))
  on more =
      sym (ap (λ t. read_from old.number old.reading (text_lines t)) (whole more)
      ∙ step old.number old.reading line (left ++ more)
      (All-append (λ other. other ≢ 10) old.line.items end so_far.line none))
      ∙ so_far.on more

  -- where it is read, what is left follows
  pub goes_on : (new : LineReader) → new.line.items ≡ [] → new.number ≡ old.number + 1
      → at_line old.number (read_line old.reading (strip_carriage_return line)) ≡ Ok new.reading
      → ReadsOn new left text
  goes_on new cleared next good = record {
    line = subst (Lacks 10) (sym cleared) (λ k d l. absurd (omega (arith, l)));
    on = λ more.
        ap (λ l. read_from new.number new.reading (text_lines (l ++ (left ++ more)))) cleared
        ∙ ap (λ n. read_from n new.reading (text_lines (left ++ more))) next
        ∙ sym (ap (λ x. x >>= λ it. read_from (old.number + 1) it (text_lines (left ++ more))) good) ∙ on more;
  }

  -- where it is bad, so is the text
  pub ends : (fault : TextFault ScriptFault)
      → MatchesFault fault (at_line old.number (read_line old.reading (strip_carriage_return line)))
      → (more : List ℕ) → MatchesFault fault (read_from 1 empty_reading (text_lines (text ++ more)))
  ends OutOfMemory bad more = tt
  ends (Wrong fault) bad more =
      sym (on more) ∙ ap (λ x. x >>= λ it. read_from (old.number + 1) it (text_lines (left ++ more))) bad

-- a piece follows
pub begins : (r : LineReader) (piece text : List ℕ) → ReadsOn r [] text → ReadsOn r piece (text ++ piece)
begins r piece text so_far = record {
  line = so_far.line;
  on = λ more. so_far.on (piece ++ more)
      ∙ ap (λ t. read_from 1 empty_reading (text_lines t)) (sym (append_assoc text piece more));
}

-- what is left ends with the next line feed in it
pub cuts : (r : LineReader) (left rest text : List ℕ) (end : ℕ) → slice_get left end ≡ Some 10 → rest ≡ after end left
    → ReadsOn r left text → ReadsOn r (take end left ++ 10 ∷ rest) text
cuts r left rest text end feed is so_far =
    subst (λ (l : List ℕ). ReadsOn r l text)
    (sym (cut_at 10 left end feed) ∙ ap (λ l. take end left ++ 10 ∷ l) (sym is)) so_far

-- the line goes on with all that is left
pub takes : (old new : LineReader) (part text : List ℕ) → Lacks 10 part → new.line.items ≡ old.line.items ++ part
    → new.number ≡ old.number → new.reading ≡ old.reading → ReadsOn old part text → ReadsOn new [] text
takes old new part text none is number reading so_far = record {
  line = subst (Lacks 10) (sym is) (All-append (λ other. other ≢ 10) old.line.items part so_far.line none);
  on = λ more.
      ap (λ l. read_from new.number new.reading (text_lines (l ++ more))) is
      ∙ ap (λ n. read_from n new.reading (text_lines ((old.line.items ++ part) ++ more))) number
      ∙ ap (λ r. read_from old.number r (text_lines ((old.line.items ++ part) ++ more))) reading
      ∙ ap (λ t. read_from old.number old.reading (text_lines t)) (append_assoc old.line.items part more)
      ∙ so_far.on more;
}

-- the last line is all that is left
last : (x : Result Reading ScriptFault) (n : ℕ) → (x >>= λ next. read_from n next []) ≡ x
unfolding read_from
last (Ok r) n = refl
last (Err e) n = refl

all_read : (n : ℕ) (r : Reading) (text : List ℕ) → Lacks 10 text
    → read_from n r (text_lines text) ≡ at_line n (read_line r text)
unfolding read_from
all_read n r text none = ap (read_from n r) (one_part 10 text none) ∙ last (at_line n (read_line r text)) (n + 1)

module _ (r : LineReader) (text line : List ℕ) (is : line ≡ r.line.items) (so_far : ReadsOn r [] text) where
  is_all : read_from 1 empty_reading (text_lines text) ≡ at_line r.number (read_line r.reading line)
  is_all =
      sym (so_far.on [] ∙ ap (λ t. read_from 1 empty_reading (text_lines t)) (append-nil text))
      ∙ ap (λ t. read_from r.number r.reading (text_lines t)) (append-nil r.line.items)
      ∙ all_read r.number r.reading r.line.items so_far.line
      ∙ ap (λ l. at_line r.number (read_line r.reading l)) (sym is)

  -- what it gives is what the text gives
  pub gives : (next : Reading) → at_line r.number (read_line r.reading line) ≡ Ok next
      → read_from 1 empty_reading (text_lines text) ≡ Ok next
  gives next good = is_all ∙ good

  pub spells : (next : Reading) → at_line r.number (read_line r.reading line) ≡ Ok next
      → session_of text ≡ Ok (next.done ++ next.current ∷ [])
  unfolding session_of
  spells next good = ap (λ x. x >>= λ it. Ok (it.done ++ it.current ∷ [])) (gives next good)

  -- its fault is the text's
  pub fails : (fault : TextFault ScriptFault) → MatchesFault fault (at_line r.number (read_line r.reading line))
      → MatchesFault fault (session_of text)
  unfolding session_of
  fails OutOfMemory bad = tt
  fails (Wrong fault) bad = ap (λ x. x >>= λ it. Ok (it.done ++ it.current ∷ [])) (is_all ∙ bad)

-- a text that has a fault whatever follows has it where nothing does
pub has_fault : (fault : TextFault ScriptFault) (text : List ℕ)
    → ((more : List ℕ) → MatchesFault fault (read_from 1 empty_reading (text_lines (text ++ more))))
    → MatchesFault fault (session_of text)
unfolding session_of
has_fault OutOfMemory text bad = tt
has_fault (Wrong fault) text bad =
    ap (λ x. x >>= λ it. Ok (it.done ++ it.current ∷ []))
    (ap (λ t. read_from 1 empty_reading (text_lines t)) (sym (append-nil text)) ∙ bad [])
