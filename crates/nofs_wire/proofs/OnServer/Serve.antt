-- What a server has done so far, from turn to turn up to its end.
use Rattle.std.proofs.Common.{◌≡◌, ℕ, ◌+◌, ◌≤◌, List, [], ◌++◌, length, take, map, append_assoc, append-nil}
use Rattle.std.proofs.Common.{length-append, Option, None, refl, sym, ap, ◌∙◌}
use Rattle.std.proofs.Common.{subst, arith}
use Rattle.std.specs.Io.KnownBytes.{Consumes, Appends}
use Rattle.std.proofs.KnownBytes.{Appends-nil, Appends-trans, Consumes-nil, Consumes-trans}
use lib.Seq.{take-append-add}
use Rattle.std.proofs.lemmas.Grind.{flat_map-append}
use Rattle.std.proofs.lemmas.List.{map-append, take_at, take-append-le}
use Rattle.std.specs.Prelude.{option_to_list}
use Rattle.nofs_history.specs.Steps.{Made}
use Rattle.nofs_history.specs.declared.machine.steps.Step.{Step}
use Rattle.nofs_history.specs.Callers.{made_step}
use Rattle.nofs_wire.specs.declared.frames.split.Front.{Front}
use Rattle.nofs_wire.specs.declared.frames.split.Front.TheVariants as front
use Rattle.nofs_wire.specs.declared.server.serve.WireEnd.{WireEnd}
use Rattle.nofs_wire.specs.declared.server.serve.WireEnd.TheVariants as ended
use Rattle.nofs_wire.specs.Frames.Split.{front_of, step_in, split_of, frames_of, rest_of, IsBad, IsBadBy, IsCut}
use Rattle.nofs_wire.specs.Frames.Split.{IsCutBy}
use Rattle.nofs_wire.specs.Server.Serve.{made_bytes, replies_of, IsServed, IsServedInPart, IsRestAt, EndsSo, Serves}
use Rattle.nofs_wire.specs.Server.Turns.{IsFramed, GoesOn, HasNone, IsInPart, IsNothing, StopsSo, Stops}
use Rattle.nofs_wire.specs.Server.Buffers.{BuffersState}
use Rattle.nofs_wire.proofs.OnFrames.Split.{framed-none, framed-more, none-split, first-split}

-- the frames so far are answered, and behind them stands what wasn't used yet
pub record Along (first left first_given given : Option (List ℕ)) (first_made made : List Made)
    (buffers : BuffersState) : Type 0 where
  pub done : List ℕ
  pub steps : List Made
  pub takes : Consumes first left (done ++ buffers.window)
  pub makes : made ≡ first_made ++ steps
  pub framed : IsFramed steps done
  pub written : List ℕ
  pub gives : Appends first_given given written
  pub keeps : written ++ buffers.kept ≡ replies_of steps
  pub counts : buffers.taken ≡ length (done ++ buffers.window)

pub along-begins : (left given : Option (List ℕ)) (made : List Made) (buffers : BuffersState)
    → buffers ≡ record { window = []; taken = 0; kept = [] } → Along left left given given made made buffers
along-begins left given made buffers is =
    subst (λ (b : BuffersState). Along left left given given made made b) (sym is) (record {
      done = [];
      steps = [];
      takes = Consumes-nil left;
      makes = sym (append-nil made);
      framed = framed-none;
      written = [];
      gives = Appends-nil given;
      keeps = refl;
      counts = refl;
    })

-- no more bytes stand behind the frames than were taken
pub along-order : (first left first_given given : Option (List ℕ)) (first_made made : List Made)
    (buffers : BuffersState)
    → Along first left first_given given first_made made buffers → length buffers.window ≤ buffers.taken
along-order first left first_given given first_made made buffers a =
    omega (arith, a.counts, length-append a.done buffers.window)

pub along-goes : (first left new_left first_given given new_given : Option (List ℕ))
    (first_made made new_made : List Made) (old new : BuffersState)
    → Along first left first_given given first_made made old
    → GoesOn old new left new_left given new_given made new_made
    → Along first new_left first_given new_given first_made new_made new
along-goes first left new_left first_given given new_given first_made made new_made old new a g =
    let f = g.frames in
    let r = g.replies in
    let moved : (a.done ++ old.window) ++ f.bytes ≡ (a.done ++ f.front) ++ new.window =
    append_assoc a.done old.window f.bytes ∙ ap (λ l. a.done ++ l) f.uses
    ∙ sym (append_assoc a.done f.front new.window) in
    record {
      done = a.done ++ f.front;
      steps = a.steps ++ f.steps;
      takes = subst (Consumes first new_left) moved
          (Consumes-trans first left new_left (a.done ++ old.window) f.bytes a.takes f.takes);
      makes = f.makes ∙ ap (λ l. l ++ f.steps) a.makes ∙ append_assoc first_made a.steps f.steps;
      framed = framed-more a.steps f.steps a.done f.front a.framed f.framed;
      written = a.written ++ r.written;
      gives = Appends-trans first_given given new_given a.written r.written a.gives r.gives;
      keeps = append_assoc a.written r.written new.kept ∙ ap (λ l. a.written ++ l) (sym r.keeps)
          ∙ sym (append_assoc a.written old.kept (replies_of f.steps)) ∙ ap (λ l. l ++ replies_of f.steps) a.keeps
          ∙ sym (flat_map-append made_bytes a.steps f.steps);
      counts = f.counts ∙ ap (λ n. n + length f.bytes) a.counts ∙ sym (length-append (a.done ++ old.window) f.bytes)
          ∙ ap length moved;
    }

-- Where nothing whole is in front

pub cut-none : (w : List ℕ) → IsCut w → HasNone w
cut-none w cut = go (front_of w) cut
  where
    go : (f : Front) → IsCutBy f w → step_in f w ≡ None
    go (front.Whole size) h = absurd h
    go front.Bad h = refl
    go (front.Short k) h = refl

pub bad-none : (w : List ℕ) → IsBad w → HasNone w
bad-none w bad = go (front_of w) bad
  where
    go : (f : Front) → IsBadBy f w → step_in f w ≡ None
    go (front.Whole size) h = h
    go front.Bad h = refl
    go (front.Short k) h = absurd h

pub nil-none : HasNone []
unfolding front_of
nil-none = refl

pub short-none : (w : List ℕ) (k : ℕ) → front_of w ≡ front.Short k → HasNone w
short-none w k short = ap (λ f. step_in f w) short

module _ (done w : List ℕ) (steps : List Made) (framed : IsFramed steps done) where
  quiet-split : HasNone w → split_of (done ++ w) ≡ (map made_step steps, w)
  quiet-split none =
      framed w ∙ ap (λ p. (map made_step steps ++ p.0, p.1)) (none-split w none)
      ∙ ap (λ l. (l, w)) (append-nil (map made_step steps))

  served : HasNone w → IsServed (done ++ w) steps (replies_of steps)
  served none = record { steps = sym (ap (λ p. p.0) (quiet-split none)); replies = refl }

  rest : HasNone w → rest_of (done ++ w) ≡ w
  rest none = ap (λ p. p.1) (quiet-split none)

  rest-at : (at : ℕ) → HasNone w → at + length w ≡ length (done ++ w) → IsRestAt at (done ++ w)
  rest-at at none place = ap (λ l. at + length l) (rest none) ∙ place

  part : (more : List Made) (left : List Step) → option_to_list (step_in (front_of w) w) ≡ map made_step more ++ left
      → (count : ℕ) (given : List ℕ) → given ≡ take count (replies_of (steps ++ more))
      → IsServedInPart (done ++ w) (steps ++ more) given
  part more left first count given is =
      let front = first-split w in
      let all = map made_step steps in
      record {
        left = left ++ front.0;
        steps = ap (λ p. p.0) (framed w)
            ∙ ap (λ l. all ++ l)
            (front.1 ∙ ap (λ l. l ++ front.0) first ∙ append_assoc (map made_step more) left front.0)
            ∙ sym (append_assoc all (map made_step more) (left ++ front.0))
            ∙ ap (λ l. l ++ (left ++ front.0)) (sym (map-append made_step steps more));
        count = count;
        replies = is;
      }

-- the first bytes of what was written and what is kept are those of all replies
written-part : (written kept more whole : List ℕ) (count : ℕ) → count ≤ length kept → written ++ kept ≡ whole
    → written ++ take count kept ≡ take (length written + count) (whole ++ more)
written-part written kept more whole count low is =
    ap (λ l. written ++ l) (sym (take-append-le count kept more low))
    ∙ sym (take-append-add written (kept ++ more) count)
    ∙ ap (take (length written + count)) (sym (append_assoc written kept more) ∙ ap (λ l. l ++ more) is)

module _ (most : ℕ) (first left new_left first_given given new_given : Option (List ℕ))
    (first_made made new_made : List Made) (buffers : BuffersState)
    (a : Along first left first_given given first_made made buffers) (few : buffers.taken ≤ most) (bytes : List ℕ)
    (steps : List Made) (written : List ℕ)
    (takes : Consumes left new_left bytes) (makes : new_made ≡ made ++ steps)
    (gives : Appends given new_given written) where
  end-so : (e : WireEnd) (taken : List ℕ) → (a.done ++ buffers.window) ++ bytes ≡ taken
      → EndsSo most e new_left taken (a.steps ++ steps) (a.written ++ written)
      → Serves most e first new_left first_given new_given first_made new_made
  end-so e taken same ends = record {
    taken = taken;
    steps = a.steps ++ steps;
    written = a.written ++ written;
    takes = subst (Consumes first new_left) same
        (Consumes-trans first left new_left (a.done ++ buffers.window) bytes a.takes takes);
    makes = makes ∙ ap (λ l. l ++ steps) a.makes ∙ append_assoc first_made a.steps steps;
    writes = Appends-trans first_given given new_given a.written written a.gives gives;
    ends = ends;
  }

  same-bytes : bytes ≡ [] → (a.done ++ buffers.window) ++ bytes ≡ a.done ++ buffers.window
  same-bytes none = ap (λ b. (a.done ++ buffers.window) ++ b) none ∙ append-nil (a.done ++ buffers.window)

  short : length (a.done ++ buffers.window) ≤ most
  short = omega (arith, a.counts, few)

  -- no step was made, and all replies were given
  whole-served : (b : List ℕ) → steps ≡ [] → written ≡ buffers.kept → IsServed b a.steps (replies_of a.steps)
      → IsServed b (a.steps ++ steps) (a.written ++ written)
  whole-served b no_steps is s =
      let same : a.steps ≡ a.steps ++ steps = sym (ap (λ s. a.steps ++ s) no_steps ∙ append-nil a.steps) in
      let all : replies_of a.steps ≡ a.written ++ written = sym (ap (λ l. a.written ++ l) is ∙ a.keeps) in
      subst (λ w. IsServed b (a.steps ++ steps) w) all (subst (λ m. IsServed b m (replies_of a.steps)) same s)

  quiet-served : IsNothing buffers bytes steps written → HasNone buffers.window
      → IsServed (a.done ++ buffers.window) (a.steps ++ steps) (a.written ++ written)
  quiet-served (no_bytes, no_steps, is) none =
      whole-served (a.done ++ buffers.window) no_steps is (served a.done buffers.window a.steps a.framed none)

  rest-is : HasNone buffers.window → rest_of (a.done ++ buffers.window) ≡ buffers.window
  rest-is = rest a.done buffers.window a.steps a.framed

  place : (at : ℕ) → HasNone buffers.window
      → at + length buffers.window ≡ buffers.taken → IsRestAt at (a.done ++ buffers.window)
  place at none is = rest-at a.done buffers.window a.steps a.framed at none (is ∙ a.counts)

  -- the steps and the replies are the first of those of the frames
  part-served : (p : IsInPart buffers bytes steps written)
      → IsServedInPart (a.done ++ buffers.window) (a.steps ++ steps) (a.written ++ written)
  part-served (no_bytes, others, count, made_first, low, is) =
      part a.done buffers.window a.steps a.framed steps others made_first (length a.written + count)
      (a.written ++ written)
      (ap (λ l. a.written ++ l) is
      ∙ written-part a.written buffers.kept (replies_of steps) (replies_of a.steps) count low a.keeps
      ∙ ap (take (length a.written + count)) (sym (flat_map-append made_bytes a.steps steps)))

  stops-so : (e : WireEnd) → StopsSo most e buffers new_left bytes steps written
      → Serves most e first new_left first_given new_given first_made new_made
  stops-so ended.End (nothing, none, at_end) =
      let quiet : HasNone buffers.window = subst HasNone (sym none) nil-none in
      end-so ended.End (a.done ++ buffers.window) (same-bytes nothing.0)
      (quiet-served nothing quiet, rest-is quiet ∙ none, at_end, short)
  stops-so (ended.Cut at) (nothing, cut, is, at_end) =
      let quiet : HasNone buffers.window = cut-none buffers.window cut in
      let behind : IsCut (rest_of (a.done ++ buffers.window)) = subst IsCut (sym (rest-is quiet)) cut in
      end-so (ended.Cut at) (a.done ++ buffers.window) (same-bytes nothing.0)
      (quiet-served nothing quiet, behind, place at quiet is, at_end, short)
  stops-so (ended.Bad at) (nothing, bad, is) =
      let quiet : HasNone buffers.window = bad-none buffers.window bad in
      end-so (ended.Bad at) (a.done ++ buffers.window) (same-bytes nothing.0)
      (quiet-served nothing quiet, subst IsBad (sym (rest-is quiet)) bad, place at quiet is, short)
  stops-so ended.TooLong (none, is, one, no_steps, given_all) =
      let long : length (a.done ++ buffers.window) ≡ most = sym a.counts ∙ is in
      let front : take most ((a.done ++ buffers.window) ++ bytes) ≡ a.done ++ buffers.window =
      take_at (a.done ++ buffers.window) bytes most long in
      end-so ended.TooLong ((a.done ++ buffers.window) ++ bytes) refl (
        whole-served _ no_steps given_all
            (subst (λ b. IsServed b a.steps (replies_of a.steps)) (sym front)
            (served a.done buffers.window a.steps a.framed none)),
        omega (arith, length-append (a.done ++ buffers.window) bytes),
      )
  stops-so ended.SourceFault (nothing, none) =
      end-so ended.SourceFault (a.done ++ buffers.window) (same-bytes nothing.0) (quiet-served nothing none, short)
  stops-so ended.SinkFault in_part =
      end-so ended.SinkFault (a.done ++ buffers.window) (same-bytes in_part.0) (part-served in_part, short)
  stops-so ended.OutOfMemory in_part =
      end-so ended.OutOfMemory (a.done ++ buffers.window) (same-bytes in_part.0) (part-served in_part, short)

-- where the server ends, it has served
pub along-stops : (most : ℕ) (e : WireEnd) (first left new_left first_given given new_given : Option (List ℕ))
    (first_made made new_made : List Made)
    (buffers : BuffersState)
    → Along first left first_given given first_made made buffers
    → buffers.taken ≤ most → Stops most e buffers left new_left given new_given made new_made
    → Serves most e first new_left first_given new_given first_made new_made
along-stops most e first left new_left first_given given new_given first_made made new_made buffers a few s =
    stops-so most first left new_left first_given given new_given first_made made new_made buffers a few
    s.bytes s.steps s.written s.takes s.makes s.gives e s.ends

-- nothing was served
pub serves-nothing : (most : ℕ) (left given : Option (List ℕ)) (made : List Made)
    → Serves most ended.OutOfMemory left left given given made made
serves-nothing most left given made = record {
  taken = [];
  steps = [];
  written = [];
  takes = Consumes-nil left;
  makes = sym (append-nil made);
  writes = Appends-nil given;
  ends = (record { left = frames_of []; steps = refl; count = 0; replies = refl }, omega arith);
}
