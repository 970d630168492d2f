-- A text that goes to a sink through a room.
use Rattle.std.proofs.Common.{◌≡◌, ◌∙◌, ℕ, ◌+◌, ◌<◌, ◌≤◌, List, [], ◌∷◌, ◌++◌, Result, Ok, Err, length, take, drop}
use Rattle.std.proofs.Common.{◌/◌, ◌%◌, slice_index, refl, get_or, sym, ap, subst, arith, append_assoc, append-nil}
use Rattle.std.proofs.Common.{length-append}
use Rattle.std.specs.Prelude.{IsErr, OnErr, OnOk, flat_map}
use Rattle.std.specs.Io.KnownBytes.{Appends}
use Rattle.std.proofs.Math.Seq.{take-append-add}
use Rattle.std.proofs.lemmas.Grind.{flat_map-append}
use Rattle.std.proofs.lemmas.List.{drop_more, take-append-drop, take-append-le}
use Rattle.std.proofs.KnownBytes.{Appends-nil, Appends-trans}
use Rattle.hex.specs.Hex.{encode_lower, encode_with, lower_digits}
use Rattle.nofs_io.specs.Calls.{CountRose, HasCause, SinkState}
use Rattle.nofs_io.specs.Texts.{AppendsAll, AppendsPart}
use Rattle.nofs_client.specs.declared.task.lines.Line.{Line}
use Rattle.nofs_script.specs.Text.{text_of, words_text}
use Rattle.nofs_script.specs.Telling.{GoesThrough, TellsThrough}
use Rattle.nofs_script.proofs.OnText.{one-more}

-- a count that rose since then rose before
pub rose-later : (a b c : ℕ) → a ≤ b → CountRose b c → CountRose a c
rose-later a b c later rose = omega (arith, later, rose)

-- a part of a piece behind a front, and in front of a rest, is a part of the whole
pub part-of-whole : (old mid new : SinkState) (front piece rest : List ℕ) → AppendsAll old mid front
    → AppendsPart mid new piece → AppendsPart old new (front ++ (piece ++ rest))
part-of-whole old mid new front piece rest all part =
    let (count, short, took) = part in
    let same : take (length front + count) (front ++ (piece ++ rest)) ≡ front ++ take count piece =
    take-append-add front (piece ++ rest) count
    ∙ ap (λ (l : List ℕ). front ++ l) (take-append-le count piece rest (omega (arith, short))) in (
      length front + count,
      omega (arith, length-append front (piece ++ rest), length-append piece rest, short),
      subst (λ (l : List ℕ). Appends old.given new.given l) (sym same)
          (Appends-trans old.given mid.given new.given front (take count piece) all took),
    )

-- the pieces before a place, the one that stands there, and those behind
pub pieces-at : {X : Type 0} (f : X → List ℕ) (xs : List X) (i : ℕ) (d : X) → i < length xs
    → flat_map f (take i xs) ++ (f (get_or xs i d) ++ flat_map f (drop (i + 1) xs)) ≡ flat_map f xs
pieces-at f xs i d below =
    sym (flat_map-append f (take i xs) (get_or xs i d ∷ drop (i + 1) xs))
    ∙ ap (flat_map f) (ap (λ l. take i xs ++ l) (sym (drop_more xs i d below)) ∙ take-append-drop i xs)

-- a text stays in the room
pub stays : (sink : SinkState) (before now text : List ℕ) → now ≡ before ++ text
    → GoesThrough sink sink before now text
stays sink before now text same = ([], Appends-nil sink.given, same)

-- the sink took all of it
pub goes-out : (old new : SinkState) (before text : List ℕ) → AppendsAll old new (before ++ text)
    → GoesThrough old new before [] text
goes-out old new before text all = (before ++ text, all, append-nil (before ++ text))

-- one text behind another
pub goes-on : (a b c : SinkState) (r s t one two : List ℕ) → GoesThrough a b r s one → GoesThrough b c s t two
    → GoesThrough a c r t (one ++ two)
goes-on a b c r s t one two first second =
    let (front, took, same) = first in
    let (back, took_too, same_too) = second in (
      front ++ back,
      Appends-trans a.given b.given c.given front back took took_too,
      append_assoc front back t
          ∙ ap (λ (l : List ℕ). front ++ l) same_too
          ∙ sym (append_assoc front s two)
          ∙ ap (λ (l : List ℕ). l ++ two) same
          ∙ append_assoc r one two,
    )

-- the second one was told in part, and what is behind it not at all
pub breaks-off : (a b c : SinkState) (r s one two rest : List ℕ) → GoesThrough a b r s one
    → AppendsPart b c (s ++ two) → AppendsPart a c (r ++ (one ++ (two ++ rest)))
breaks-off a b c r s one two rest first part =
    let (front, took, same) = first in
    let whole : front ++ ((s ++ two) ++ rest) ≡ r ++ (one ++ (two ++ rest)) =
    ap (λ (l : List ℕ). front ++ l) (append_assoc s two rest)
    ∙ sym (append_assoc front s (two ++ rest))
    ∙ ap (λ (l : List ℕ). l ++ (two ++ rest)) same
    ∙ append_assoc r one (two ++ rest) in
    subst (λ (l : List ℕ). AppendsPart a c l) whole (part-of-whole a b c front (s ++ two) rest took part)

-- .. where nothing is behind it
pub breaks-there : (a b c : SinkState) (r s one two : List ℕ) → GoesThrough a b r s one
    → AppendsPart b c (s ++ two) → AppendsPart a c (r ++ (one ++ two))
breaks-there a b c r s one two first part = subst (λ (l : List ℕ). AppendsPart a c (r ++ (one ++ l))) (append-nil two)
    (breaks-off a b c r s one two [] first part)

-- a telling that was stopped
pub stops : {T E : Type 0} (result : Result T E) (old new : SinkState) (before now text : List ℕ) → IsErr result
    → AppendsPart old new (before ++ text) → old.faults ≤ new.faults → CountRose old.faults new.faults
    → TellsThrough old new before now result text
stops (Ok x) old new before now text is part later rose = absurd (cc is)
stops (Err e) old new before now text is part later rose = record {
  whole = tt;
  part = part;
  cause = record { later = later; failed = rose };
}

-- a telling behind one that went well
pub then-tells : {T E : Type 0} (result : Result T E) (a b c : SinkState) (r s t one two : List ℕ)
    → GoesThrough a b r s one → a.faults ≤ b.faults → TellsThrough b c s t result two
    → TellsThrough a c r t result (one ++ two)
then-tells (Ok x) a b c r s t one two first later tells = record {
  whole = goes-on a b c r s t one two first tells.whole;
  part = tt;
  cause = record { later = let n = tells.cause.later in omega (arith, later, n); failed = tt };
}
then-tells (Err e) a b c r s t one two first later tells = record {
  whole = tt;
  part = breaks-there a b c r s one two first tells.part;
  cause = record {
    later = let n = tells.cause.later in omega (arith, later, n);
    failed = rose-later a.faults b.faults c.faults later tells.cause.failed;
  };
}

-- a telling behind one that went well, which was stopped before a rest
pub tells-stopped : {T E : Type 0} (result : Result T E) (a b c : SinkState) (r s t one two rest : List ℕ)
    → IsErr result → GoesThrough a b r s one → a.faults ≤ b.faults → AppendsPart b c (s ++ two) → b.faults ≤ c.faults
    → CountRose b.faults c.faults → TellsThrough a c r t result (one ++ (two ++ rest))
tells-stopped result a b c r s t one two rest is first later part on rose =
    stops result a c r t (one ++ (two ++ rest)) is (breaks-off a b c r s one two rest first part)
    (omega (arith, later, on)) (rose-later a.faults b.faults c.faults later rose)

-- nothing stood in the room, and the sink took the text by itself
pub tells-straight : {T E : Type 0} (result : Result T E) (old new : SinkState) (before now text : List ℕ)
    → before ≡ [] → now ≡ before → OnOk result (AppendsAll old new text) → OnErr result (AppendsPart old new text)
    → HasCause old.faults new.faults result → TellsThrough old new before now result text
tells-straight (Ok x) old new before now text none same whole part cause = record {
  whole = (text, whole, rw (same, none, append-nil text));
  part = tt;
  cause = cause;
}
tells-straight (Err e) old new before now text none same whole part cause = record {
  whole = tt;
  part = subst (λ (l : List ℕ). AppendsPart old new (l ++ text)) (sym none) part;
  cause = cause;
}

-- all of a text came out of the room
pub came-out : {T E : Type 0} (result : Result T E) (old new : SinkState) (before now text : List ℕ)
    → before ≡ [] → OnOk result (now ≡ []) → TellsThrough old new before now result text
    → OnOk result (AppendsAll old new text)
came-out (Ok x) old new before now text none empty tells =
    let (told, took, same) = tells.whole in
    let whole : told ≡ text =
    sym (append-nil told)
    ∙ ap (λ (l : List ℕ). told ++ l) (sym empty)
    ∙ same
    ∙ ap (λ (l : List ℕ). l ++ text) none in
    subst (λ (l : List ℕ). AppendsAll old new l) whole took
came-out (Err e) old new before now text none empty tells = tt

-- .. or a part of it
pub came-in-part : {T E : Type 0} (result : Result T E) (old new : SinkState) (before now text : List ℕ)
    → before ≡ [] → TellsThrough old new before now result text → OnErr result (AppendsPart old new text)
came-in-part (Ok x) old new before now text none tells = tt
came-in-part (Err e) old new before now text none tells =
    subst (λ (l : List ℕ). AppendsPart old new (l ++ text)) none tells.part

-- a line is its head, what it lists, and a line feed
pub line-text : (l : Line) (head middle : List ℕ) → head ++ middle ≡ words_text l
    → head ++ (middle ++ 10 ∷ []) ≡ text_of l
unfolding text_of
line-text l head middle same =
    sym (append_assoc head middle (10 ∷ [])) ∙ ap (λ (t : List ℕ). t ++ 10 ∷ []) same

-- the digits of bytes behind bytes
pub digits-append : (t xs ys : List ℕ) → encode_with t (xs ++ ys) ≡ encode_with t xs ++ encode_with t ys
unfolding encode_with
digits-append t [] ys = refl
digits-append t (b ∷ rest) ys =
    ap (λ (l : List ℕ). slice_index t (b / 16) ∷ slice_index t (b % 16) ∷ l) (digits-append t rest ys)

-- the digits of what was told, of a chunk and of what is left
pub digits-left : (done chunk rest left all : List ℕ) → left ≡ chunk ++ rest → done ++ encode_lower left ≡ all
    → done ++ (encode_lower chunk ++ encode_lower rest) ≡ all
digits-left done chunk rest left all parts same =
    ap (λ (l : List ℕ). done ++ l) (sym (digits-append lower_digits chunk rest) ∙ ap encode_lower (sym parts)) ∙ same

-- nothing is left
pub digits-done : (done left all : List ℕ) → length left ≡ 0 → done ++ encode_lower left ≡ all → done ≡ all
unfolding encode_with
digits-done done [] all none same = sym (append-nil done) ∙ same
digits-done done (b ∷ rest) all none same = absurd (omega (arith, none))

-- the same text by another name
pub tells-same : {T E : Type 0} (result : Result T E) (old new : SinkState) (before now one two : List ℕ) → one ≡ two
    → TellsThrough old new before now result one → TellsThrough old new before now result two
tells-same result old new before now one two same tells =
    subst (λ (l : List ℕ). TellsThrough old new before now result l) same tells

-- the piece at a place behind those before it
pub piece-goes : {X : Type 0} (f : X → List ℕ) (xs : List X) (i : ℕ) (d : X) (a b c : SinkState) (r s t : List ℕ)
    → i < length xs → GoesThrough a b r s (flat_map f (take i xs)) → GoesThrough b c s t (f (get_or xs i d))
    → GoesThrough a c r t (flat_map f (take (i + 1) xs))
piece-goes f xs i d a b c r s t below before goes =
    subst (λ (l : List ℕ). GoesThrough a c r t l) (one-more f xs i d below)
    (goes-on a b c r s t (flat_map f (take i xs)) (f (get_or xs i d)) before goes)

-- a text whose piece at a place was told in part
pub piece-stops : {T E X : Type 0} (result : Result T E) (f : X → List ℕ) (xs : List X) (i : ℕ) (d : X)
    (a b c : SinkState) (r s t : List ℕ) → i < length xs → IsErr result → GoesThrough a b r s (flat_map f (take i xs))
    → a.faults ≤ b.faults → AppendsPart b c (s ++ f (get_or xs i d)) → b.faults ≤ c.faults
    → CountRose b.faults c.faults → TellsThrough a c r t result (flat_map f xs)
piece-stops result f xs i d a b c r s t below is before later part on rose =
    stops result a c r t (flat_map f xs) is
    (subst (λ (l : List ℕ). AppendsPart a c (r ++ l)) (pieces-at f xs i d below)
    (breaks-off a b c r s (flat_map f (take i xs)) (f (get_or xs i d)) (flat_map f (drop (i + 1) xs)) before part))
    (omega (arith, later, on)) (rose-later a.faults b.faults c.faults later rose)

-- .. where the item of the place is known by another name
pub item-goes : {X : Type 0} (f : X → List ℕ) (xs : List X) (i : ℕ) (d : X) (a b c : SinkState) (r s t piece : List ℕ)
    → i < length xs → d ≡ get_or xs i d → piece ≡ f d → GoesThrough a b r s (flat_map f (take i xs))
    → GoesThrough b c s t piece → GoesThrough a c r t (flat_map f (take (i + 1) xs))
item-goes f xs i d a b c r s t piece below is same before goes = piece-goes f xs i d a b c r s t below before
    (subst (λ (l : List ℕ). GoesThrough b c s t l) (same ∙ ap f is) goes)

pub item-stops : {T E X : Type 0} (result : Result T E) (f : X → List ℕ) (xs : List X) (i : ℕ) (d : X)
    (a b c : SinkState) (r s t piece : List ℕ) → i < length xs → d ≡ get_or xs i d → piece ≡ f d → IsErr result
    → GoesThrough a b r s (flat_map f (take i xs)) → a.faults ≤ b.faults → AppendsPart b c (s ++ piece)
    → b.faults ≤ c.faults → CountRose b.faults c.faults → TellsThrough a c r t result (flat_map f xs)
item-stops result f xs i d a b c r s t piece below is same failed before later part on rose =
    piece-stops result f xs i d a b c r s t below failed before later
    (subst (λ (l : List ℕ). AppendsPart b c (s ++ l)) (same ∙ ap f is) part) on rose
