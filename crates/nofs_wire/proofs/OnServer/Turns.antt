-- What one turn comes to.
use Rattle.std.proofs.Common.{◌≡◌, ℕ, ◌+◌, ◌<◌, ◌≤◌, List, [], ◌∷◌, ◌++◌, length, take, append_assoc, append-nil}
use Rattle.std.proofs.Common.{length-append, length-take-le, take_all, take-append-drop}
use Rattle.std.proofs.Common.{Option, None, Some, refl, sym, ap, ◌∙◌, subst, arith}
use Rattle.std.specs.Prelude.{IfNone, IfSome}
use Rattle.std.specs.Io.KnownBytes.{Consumes, Appends, IsAtEnd}
use Rattle.std.proofs.KnownBytes.{Appends-nil, Appends-trans, Consumes-nil}
use lib.Seq.{take-append-add}
use Rattle.nofs_history.specs.Steps.{Made}
use Rattle.nofs_wire.specs.declared.frames.split.Front.TheVariants as front
use Rattle.nofs_wire.specs.declared.server.answers.Answered.TheVariants as answered
use Rattle.nofs_wire.specs.declared.server.serve.WireEnd.{WireEnd}
use Rattle.nofs_wire.specs.declared.server.serve.WireEnd.TheVariants as ended
use Rattle.nofs_wire.specs.Frames.Split.{front_of, step_in, body_of, behind, IsBad, IsBadBy, IsCutBy}
use Rattle.nofs_wire.specs.Frames.Requests.{step_of}
use Rattle.nofs_wire.specs.Frames.Replies.{reply_bytes}
use Rattle.nofs_wire.specs.Server.Serve.{replies_of}
use Rattle.nofs_wire.specs.Server.Turns.{AnswersInPart, AnswersWhole, GoesOn, IsInPart, IsNothing, KeepsAnswer, Stops}
use Rattle.nofs_wire.specs.Server.Turns.{StopsSo}
use Rattle.nofs_wire.specs.Server.Buffers.{BuffersState, Gave, GaveInPart, TakesCount}
use Rattle.nofs_wire.proofs.OnServer.Answers.{answers-nothing}
use Rattle.nofs_wire.proofs.OnServer.Serve.{short-none}
use Rattle.nofs_wire.proofs.OnFrames.Split.{framed-none, framed-one}

-- a bad frame in front, at its place
abbrev pub IsBadEnd : WireEnd → BuffersState → Type 0
IsBadEnd e buffers = (at : ℕ) × (e ≡ ended.Bad at) × (at + length buffers.window ≡ buffers.taken)

pub bad-front : (w : List ℕ) → front_of w ≡ front.Bad → IsBad w
bad-front w is = subst (λ f. IsBadBy f w) (sym is) tt

pub bad-body : (w : List ℕ) (size : ℕ) → front_of w ≡ front.Whole size → step_of (body_of size w) ≡ None → IsBad w
bad-body w size is none = subst (λ f. IsBadBy f w) (sym is) none

-- all replies were given
pub gave-all : (old new : BuffersState) (given new_given : Option (List ℕ)) → Gave old new given new_given
    → new.kept ≡ [] → Appends given new_given old.kept
gave-all old new given new_given (written, left, gives, is, same) none =
    let empty : left ≡ [] = sym (ap (λ (b : BuffersState). b.kept) same) ∙ none in
    subst (Appends given new_given) (sym (is ∙ ap (λ l. written ++ l) empty ∙ append-nil written)) gives

pub stops-bad : (most : ℕ) (e : WireEnd) (old new : BuffersState) (left given new_given : Option (List ℕ))
    (made new_made : List Made) → IsBad old.window → new_made ≡ made
    → Gave old new given new_given → new.kept ≡ [] → IsBadEnd e new
    → Stops most e old left left given new_given made new_made
stops-bad most e old new left given new_given made new_made bad same gave none place =
    let (written, after, gives, kept, is) = gave in
    let (at, e_is, here) = subst (λ (b : BuffersState). IsBadEnd e b) is place in
    subst (λ (d : WireEnd). Stops most d old left left given new_given made new_made) (sym e_is) (record {
      bytes = [];
      steps = [];
      written = old.kept;
      takes = Consumes-nil left;
      makes = same ∙ sym (append-nil made);
      gives = gave-all old new given new_given gave none;
      ends = ((refl, refl, refl), bad, here);
    })

-- an end at which not all steps are answered
module _ (most : ℕ) (old : BuffersState) (left given new_given : Option (List ℕ)) (made new_made : List Made)
    (p : AnswersInPart (step_in (front_of old.window) old.window) made new_made) where
  stops-part : (e : WireEnd) (count : ℕ) → Appends given new_given (take count old.kept)
      → StopsSo most e old left [] p.steps (take count old.kept)
      → Stops most e old left left given new_given made new_made
  stops-part e count gives ends = record {
    bytes = [];
    steps = p.steps;
    written = take count old.kept;
    takes = Consumes-nil left;
    makes = p.makes;
    gives = gives;
    ends = ends;
  }

  pub stops-fault : GaveInPart old.kept given new_given
      → Stops most ended.SinkFault old left left given new_given made new_made
  stops-fault (count, low, gives) =
      stops-part ended.SinkFault count gives (refl, p.left, count, p.first, low, refl)

  pub stops-memory : (new : BuffersState) → Gave old new given new_given → new.kept ≡ []
      → Stops most ended.OutOfMemory old left left given new_given made new_made
  stops-memory new gave none =
      let n = length old.kept in
      let whole : take n old.kept ≡ old.kept = take_all n old.kept (omega arith) in
      stops-part ended.OutOfMemory n
      (subst (Appends given new_given) (sym whole) (gave-all old new given new_given gave none))
      (refl, p.left, n, p.first, omega arith, refl)

-- nothing was made of the frame in front
pub none-made : (w : List ℕ) (made : List Made) → AnswersInPart (step_in (front_of w) w) made made
none-made w made = answers-nothing (step_in (front_of w) w) made made refl

-- the end at a frame in front that was not answered
module _ (most : ℕ) (old mid : BuffersState) (left given new_given : Option (List ℕ)) (made new_made : List Made) where
  pub bad-fault : KeepsAnswer answered.Bad old mid made new_made → GaveInPart mid.kept given new_given
      → Stops most ended.SinkFault old left left given new_given made new_made
  bad-fault (same, bad, no_step) gave =
      stops-fault most old left given new_given made new_made
      (answers-nothing (step_in (front_of old.window) old.window) made new_made no_step)
      (subst (λ (b : BuffersState). GaveInPart b.kept given new_given) same gave)

  pub bad-stops : (e : WireEnd) (new : BuffersState) → KeepsAnswer answered.Bad old mid made new_made
      → Gave mid new given new_given → new.kept ≡ [] → IsBadEnd e new
      → Stops most e old left left given new_given made new_made
  bad-stops e new (same, bad, no_step) gave none place =
      stops-bad most e old new left given new_given made new_made bad no_step
      (subst (λ (b : BuffersState). Gave b new given new_given) same gave) none place

  pub memory-fault : KeepsAnswer answered.OutOfMemory old mid made new_made → GaveInPart mid.kept given new_given
      → Stops most ended.SinkFault old left left given new_given made new_made
  memory-fault (same, part) gave =
      stops-fault most old left given new_given made new_made part
      (subst (λ (b : BuffersState). GaveInPart b.kept given new_given) same gave)

  pub memory-stops : (new : BuffersState) → KeepsAnswer answered.OutOfMemory old mid made new_made
      → Gave mid new given new_given → new.kept ≡ []
      → Stops most ended.OutOfMemory old left left given new_given made new_made
  memory-stops new (same, part) gave none =
      stops-memory most old left given new_given made new_made part new
      (subst (λ (b : BuffersState). Gave b new given new_given) same gave) none

-- what follows from what an end or none says
pub none-map : {T A B : Type 0} (o : Option T) → (A → B) → IfNone o A → IfNone o B
none-map None f h = f h
none-map (Some x) f h = h

pub some-map : {T : Type 0} {A B : T → Type 0} (o : Option T) → ((x : T) → A x → B x) → IfSome o A → IfSome o B
some-map None f h = h
some-map (Some x) f h = f x h

-- what comes after replies were given
module _ (old mid : BuffersState) (left new_left given mid_given new_given : Option (List ℕ))
    (made new_made : List Made) (gave : Gave old mid given mid_given) where
  abbrev first : List ℕ
  first = gave.0

  abbrev between : BuffersState
  between = record { window = old.window; taken = old.taken; kept = gave.1 }

  pub after-goes : (new : BuffersState) → GoesOn mid new left new_left mid_given new_given made new_made
      → GoesOn old new left new_left given new_given made new_made
  after-goes new on =
      let g : GoesOn between new left new_left mid_given new_given made new_made =
      subst (λ (b : BuffersState). GoesOn b new left new_left mid_given new_given made new_made) gave.4 on in
      let r = g.replies in
      let replies = replies_of g.frames.steps in
      record {
        frames = g.frames;
        replies = record {
          written = first ++ r.written;
          gives = Appends-trans given mid_given new_given first r.written gave.2 r.gives;
          keeps = ap (λ l. l ++ replies) gave.3 ∙ append_assoc first gave.1 replies ∙ ap (λ l. first ++ l) r.keeps
              ∙ sym (append_assoc first r.written new.kept);
        };
      }

  all-kept : (w : List ℕ) → w ≡ gave.1 → first ++ w ≡ old.kept
  all-kept w is = ap (λ l. first ++ l) is ∙ sym gave.3

  in-part : (bytes : List ℕ) (steps : List Made) (written : List ℕ) → IsInPart between bytes steps written
      → IsInPart old bytes steps (first ++ written)
  in-part bytes steps written (none, others, count, made_first, low, is) = (
    none,
    others,
    length first + count,
    made_first,
    omega (arith, low, ap length gave.3, length-append first gave.1),
    ap (λ l. first ++ l) is ∙ sym (take-append-add first gave.1 count)
        ∙ ap (take (length first + count)) (sym gave.3),
  )

  stops-so : (most : ℕ) (e : WireEnd) (bytes : List ℕ) (steps : List Made) (written : List ℕ)
      → StopsSo most e between new_left bytes steps written → StopsSo most e old new_left bytes steps (first ++ written)
  stops-so most ended.End bytes steps written ((a, b, c), d, e) = ((a, b, all-kept written c), d, e)
  stops-so most (ended.Cut at) bytes steps written ((a, b, c), d, e, f) = ((a, b, all-kept written c), d, e, f)
  stops-so most (ended.Bad at) bytes steps written ((a, b, c), d, e) = ((a, b, all-kept written c), d, e)
  stops-so most ended.TooLong bytes steps written (a, b, c, d, e) = (a, b, c, d, all-kept written e)
  stops-so most ended.SourceFault bytes steps written ((a, b, c), d) = ((a, b, all-kept written c), d)
  stops-so most ended.SinkFault bytes steps written part = in-part bytes steps written part
  stops-so most ended.OutOfMemory bytes steps written part = in-part bytes steps written part

  pub after-stops : (most : ℕ) (e : WireEnd) → Stops most e mid left new_left mid_given new_given made new_made
      → Stops most e old left new_left given new_given made new_made
  after-stops most e stops =
      let s : Stops most e between left new_left mid_given new_given made new_made =
      subst (λ (b : BuffersState). Stops most e b left new_left mid_given new_given made new_made) gave.4 stops in
      record {
        bytes = s.bytes;
        steps = s.steps;
        written = first ++ s.written;
        takes = s.takes;
        makes = s.makes;
        gives = Appends-trans given mid_given new_given first s.written gave.2 s.gives;
        ends = stops-so most e s.bytes s.steps s.written s.ends;
      }

-- the whole frame in front was answered
pub keeps-answer : (old new : BuffersState) (size : ℕ) (body frame : List ℕ) (made new_made : List Made)
    → front_of old.window ≡ front.Whole size → 4 + size ≤ length old.window → body ≡ body_of size old.window
    → (reply : List ℕ) → frame ≡ reply → AnswersWhole (step_of body) made new_made reply
    → new ≡ record { window = behind size old.window; taken = old.taken; kept = old.kept ++ frame }
    → KeepsAnswer answered.Whole old new made new_made
keeps-answer old new size body frame made new_made whole fits same reply frame_is p is =
    subst (λ (b : BuffersState). KeepsAnswer answered.Whole old b made new_made) (sym is) (
      p.one,
      take (4 + size) old.window,
      sym (take-append-drop (4 + size) old.window),
      omega (arith, length-take-le (4 + size) old.window fits),
      framed-one old.window size p.one whole (ap step_of (sym same) ∙ p.is),
      refl,
      ap (λ l. old.kept ++ l) (frame_is ∙ p.reply),
      p.makes,
    )

-- no memory was there for its step, in it or for its reply
pub unmade-in-part : (w body : List ℕ) (size : ℕ) (made new_made : List Made) → front_of w ≡ front.Whole size
    → body ≡ body_of size w → AnswersInPart (step_of body) made new_made
    → AnswersInPart (step_in (front_of w) w) made new_made
unmade-in-part w body size made new_made whole same p =
    subst (λ o. AnswersInPart o made new_made) (ap step_of same ∙ sym (ap (λ f. step_in f w) whole)) p

-- a frame whose reply is kept
pub goes-answered : (old new : BuffersState) (left given : Option (List ℕ)) (made new_made : List Made)
    → KeepsAnswer answered.Whole old new made new_made
    → GoesOn old new left left given given made new_made
goes-answered old new left given made new_made (one, front, uses, some, framed, taken, kept, makes) = record {
  frames = record {
    bytes = [];
    front = front;
    steps = one ∷ [];
    takes = Consumes-nil left;
    counts = omega (arith, taken);
    uses = append-nil old.window ∙ uses;
    framed = framed;
    makes = makes;
    nearer = omega (arith, some, ap length uses, length-append front new.window);
  };
  replies = record {
    written = [];
    gives = Appends-nil given;
    keeps = ap (λ l. old.kept ++ l) (append-nil (reply_bytes one.1)) ∙ sym kept;
  };
}

-- bytes that were taken
pub goes-taken : (old new : BuffersState) (left new_left given : Option (List ℕ)) (made : List Made) (bytes : List ℕ)
    → Consumes left new_left bytes
    → new.window ≡ old.window ++ bytes → new.taken ≡ old.taken + length bytes → new.kept ≡ old.kept → 0 < length bytes
    → GoesOn old new left new_left given given made made
goes-taken old new left new_left given made bytes takes is counts kept some = record {
  frames = record {
    bytes = bytes;
    front = [];
    steps = [];
    takes = takes;
    counts = counts;
    uses = sym is;
    framed = framed-none;
    makes = sym (append-nil made);
    nearer = omega (arith, ap length is, length-append old.window bytes);
  };
  replies = record { written = []; gives = Appends-nil given; keeps = append-nil old.kept ∙ sym kept };
}

-- nothing but bytes was taken
pub stops-taken : (most : ℕ) (e : WireEnd) (buffers : BuffersState) (left new_left given : Option (List ℕ))
    (made : List Made) (bytes : List ℕ)
    → Consumes left new_left bytes
    → StopsSo most e buffers new_left bytes [] [] → Stops most e buffers left new_left given given made made
stops-taken most e buffers left new_left given made bytes takes ends = record {
  bytes = bytes;
  steps = [];
  written = [];
  takes = takes;
  makes = sym (append-nil made);
  gives = Appends-nil given;
  ends = ends;
}

-- no reply is kept where the source is called
module _ (buffers : BuffersState) (none : buffers.kept ≡ []) (left : Option (List ℕ)) where
  nothing : IsNothing buffers [] [] []
  nothing = (refl, refl, sym none)

  pub fault-so : (most k : ℕ) → front_of buffers.window ≡ front.Short k
      → StopsSo most ended.SourceFault buffers left [] [] []
  fault-so most k short = (nothing, short-none buffers.window k short)

  pub long-so : (k : ℕ) (bytes : List ℕ) → front_of buffers.window ≡ front.Short k → length bytes ≡ 1
      → StopsSo buffers.taken ended.TooLong buffers left bytes [] []
  long-so k bytes short one = (short-none buffers.window k short, refl, one, refl, sym none)

  -- the end of the source
  pub end-so : (most : ℕ) → buffers.window ≡ [] → IsAtEnd left → StopsSo most ended.End buffers left [] [] []
  end-so most empty at_end = (nothing, empty, at_end)

  pub cut-so : (most at k : ℕ) → front_of buffers.window ≡ front.Short k → 0 < length buffers.window
      → at + length buffers.window ≡ buffers.taken → IsAtEnd left → StopsSo most (ended.Cut at) buffers left [] [] []
  cut-so most at k short some place at_end =
      (nothing, subst (λ f. IsCutBy f buffers.window) (sym short) some, place, at_end)

no-bytes : (bytes : List ℕ) → length bytes ≡ 0 → bytes ≡ []
no-bytes [] none = refl
no-bytes (x ∷ bytes) none = absurd (omega arith)

-- where none were taken, all stays
pub unmoved : (count most : ℕ) (old new : BuffersState) (left new_left : Option (List ℕ))
    → TakesCount count most old new left new_left → count ≡ 0 → new ≡ old
unmoved count most old new left new_left (part, takes, is, long, low, counts, kept, end) none =
    let empty : part ≡ [] = no-bytes part (long ∙ none) in
    let window : new.window ≡ old.window = is ∙ ap (λ b. old.window ++ b) empty ∙ append-nil old.window in
    let taken : new.taken ≡ old.taken = omega arith in
    λ k. record { window = window k; taken = taken k; kept = kept k }

-- the source has ended
pub stops-ended : (most : ℕ) (e : WireEnd) (count asked : ℕ) (old new : BuffersState)
    (left new_left given : Option (List ℕ)) (made : List Made)
    → TakesCount count asked old new left new_left
    → count ≡ 0 → ((m : ℕ) (l : Option (List ℕ)) → IsAtEnd l → StopsSo m e new l [] [] [])
    → Stops most e old left new_left given given made made
stops-ended most e count asked old new left new_left given made taken none ends =
    let (part, takes, is, long, low, counts, kept, end) = taken in
    let empty : part ≡ [] = no-bytes part (long ∙ none) in
    stops-taken most e old left new_left given made [] (subst (λ b. Consumes left new_left b) empty takes)
    (subst (λ (i : BuffersState). StopsSo most e i new_left [] [] [])
    (unmoved count asked old new left new_left taken none) (ends most new_left (end none)))

-- some bytes were taken
pub goes-on : (count asked : ℕ) (old new : BuffersState) (left new_left given : Option (List ℕ)) (made : List Made)
    → TakesCount count asked old new left new_left → 0 < count
    → GoesOn old new left new_left given given made made
goes-on count asked old new left new_left given made (part, takes, is, long, low, counts, kept, end) some =
    goes-taken old new left new_left given made part takes is (omega arith) kept (omega arith)
