-- Frames: what serving them leaves, put together.
use Rattle.std.proofs.Common.{◌≡◌, ◌≢◌, ◌⊎◌, inl, inr, ℕ, zero, suc, ◌∷◌, ◌+◌, ◌≤◌, Bool, true, false, List, [], ◌++◌}
use Rattle.std.proofs.Common.{append-nil, length, take, drop, map, Option, Some, None, refl, sym, ap, ◌∙◌, subst, arith}
use Rattle.std.specs.Prelude.{IfSome}
use Rattle.std.specs.Io.KnownBytes.{Consumes}
use Rattle.nofs_disk.specs.Disk.{DiskState, Rose}
use Rattle.nofs_io.specs.Calls.{SourceState, SinkState}
use Rattle.nofs_io.specs.Texts.{TakesAtMost, TakesJust}
use Rattle.nofs_history.specs.HistoryState.{HistoryState}
use Rattle.nofs_history.specs.Steps.{Made}
use Rattle.nofs_history.specs.Callers.{steps_by, made_step}
use Rattle.nofs_shared.specs.Mount.Invariant.{IsMount}
use Rattle.nofs_state.specs.declared.books.maps.Books.{Books}
use Rattle.nofs_history.specs.Faults.{has_fault}
use Rattle.nofs_tool.specs.Session.Serve.{IsClosed}
use Rattle.nofs_tool.specs.Session.Whole.{Finished}
use Rattle.nofs_wire.specs.Frames.Split.{front_of, rest_of, IsBad, IsCut}
use Rattle.nofs_wire.specs.Server.Serve.{Serves, EndsSo, IsServed, IsServedInPart}
use Rattle.nofs_wire.specs.declared.server.serve.WireEnd.{WireEnd}
use Rattle.nofs_wire.specs.declared.server.serve.WireEnd.TheVariants as ended
use Rattle.nofs_tool.specs.Runs.Complete.{CanBeMounted, HoldsFrames, NoneRose}
use Rattle.nofs_tool.specs.Begin.Mounts.{IsRaisedFrom}
use Rattle.nofs_tool.specs.Runs.Headline.{IsHeadlineOf}
use Rattle.nofs_tool.specs.Runs.Tool.{IsRefusedBy, IsStatus}
use Rattle.nofs_tool.specs.Visits.Visit.{FollowsVisit, IsVisitRun}
use Rattle.nofs_tool.specs.Visits.Wire.{IsWireRun, IsWired, WireEnds, wire_status}
use Rattle.nofs_tool.proofs.OnRuns.Complete.{completes, consumed, consumed-front, consumed-most, ready-not-refused}
use Rattle.nofs_tool.proofs.OnRuns.Faults.{faults-rose}
use Rattle.nofs_tool.proofs.OnRuns.Headline.{visit-of}

not-cut : IsCut [] → ⊥
unfolding front_of
not-cut h = absurd (omega (arith, h))

take-drop : {A : Type 0} (n : ℕ) (xs : List A) → take n xs ++ drop n xs ≡ xs
take-drop zero xs = refl
take-drop (suc n) [] = refl
take-drop (suc n) (x ∷ xs) = ap (λ l. x ∷ l) (take-drop n xs)

-- the frames have at most one byte more than the limit
pub serves-most : (most : ℕ) (e : WireEnd) (source_old source_new : SourceState) (given new_given : Option (List ℕ))
    (made : List Made) → Serves most e source_old.left source_new.left given new_given [] made
    → TakesAtMost source_old source_new (most + 1)
serves-most most e source_old source_new given new_given made s = (s.taken, s.takes, go e s.ends)
  where
    go : (e : WireEnd) → EndsSo most e source_new.left s.taken s.steps s.written → length s.taken ≤ most + 1
    go ended.End i = let n = i.3 in omega (arith, n)
    go (ended.Cut at) i = let n = i.4 in omega (arith, n)
    go (ended.Bad at) i = let n = i.3 in omega (arith, n)
    go ended.TooLong i = let n = i.1 in omega (arith, n)
    go ended.SourceFault i = let n = i.1 in omega (arith, n)
    go ended.SinkFault i = let n = i.1 in omega (arith, n)
    go ended.OutOfMemory i = let n = i.1 in omega (arith, n)

-- what was served are first steps of what was taken
pub serves-wired : (most : ℕ) (e : WireEnd) (left new_left given new_given : Option (List ℕ)) (made : List Made)
    → Serves most e left new_left given new_given [] made → IsWired left new_left made
serves-wired most e left new_left given new_given made s = subst (IsWired left new_left) (sym s.makes) (go e s.ends)
  where
    served : (taken : List ℕ) (back : List ℕ) → s.taken ≡ taken ++ back → IsServed taken s.steps s.written
        → IsWired left new_left s.steps
    served taken back whole i = (
      taken,
      back,
      [],
      subst (Consumes left new_left) whole s.takes,
      sym i.steps ∙ sym (append-nil (map made_step s.steps)),
    )

    whole : (i : IsServed s.taken s.steps s.written) → IsWired left new_left s.steps
    whole i = served s.taken [] (sym (append-nil s.taken)) i

    part : IsServedInPart s.taken s.steps s.written → IsWired left new_left s.steps
    part i = (s.taken, [], i.left, subst (Consumes left new_left) (sym (append-nil s.taken)) s.takes, i.steps)

    go : (e : WireEnd) → EndsSo most e new_left s.taken s.steps s.written → IsWired left new_left s.steps
    go ended.End i = whole i.0
    go (ended.Cut at) i = whole i.0
    go (ended.Bad at) i = whole i.0
    go ended.TooLong i = served (take most s.taken) (drop most s.taken) (sym (take-drop most s.taken)) i.0
    go ended.SourceFault i = whole i.0
    go ended.SinkFault i = part i.0
    go ended.OutOfMemory i = part i.0

-- The end, by the status

-- what a status says of the end, which holds of each end with this status
module _ (s : ℕ) (P : WireEnd → Bool → Type 0) where
  told : (7 ≡ s → ⊥) → (6 ≡ s → (f : Bool) → P ended.SourceFault f) → (8 ≡ s → (f : Bool) → P ended.TooLong f)
      → (2 ≡ s → (at : ℕ) (f : Bool) → P (ended.Cut at) f × P (ended.Bad at) f)
      → (3 ≡ s → P ended.SinkFault true × P ended.End true) → (5 ≡ s → P ended.SinkFault false)
      → (0 ≡ s → P ended.End false)
      → (b : Bool) (e : WireEnd) (f : Bool) → wire_status b e f ≡ s → P e f
  told wanting source long torn device sink end true e f h = absurd (wanting h)
  told wanting source long torn device sink end false ended.SourceFault f h = source h f
  told wanting source long torn device sink end false ended.TooLong f h = long h f
  told wanting source long torn device sink end false (ended.Cut at) f h = (torn h at f).0
  told wanting source long torn device sink end false (ended.Bad at) f h = (torn h at f).1
  told wanting source long torn device sink end false ended.OutOfMemory f h = absurd (wanting h)
  told wanting source long torn device sink end false ended.SinkFault true h = (device h).0
  told wanting source long torn device sink end false ended.SinkFault false h = sink h
  told wanting source long torn device sink end false ended.End true h = (device h).1
  told wanting source long torn device sink end false ended.End false h = end h

six : (b : Bool) (e : WireEnd) (f : Bool) → wire_status b e f ≡ 6 → e ≡ ended.SourceFault
six = told 6 (λ e f. e ≡ ended.SourceFault) (λ h. cc h) (λ h f. refl) (λ h. absurd (cc h)) (λ h. absurd (cc h))
    (λ h. absurd (cc h)) (λ h. absurd (cc h))
    (λ h. absurd (cc h))

eight : (b : Bool) (e : WireEnd) (f : Bool) → wire_status b e f ≡ 8 → e ≡ ended.TooLong
eight = told 8 (λ e f. e ≡ ended.TooLong) (λ h. cc h) (λ h. absurd (cc h)) (λ h f. refl) (λ h. absurd (cc h))
    (λ h. absurd (cc h)) (λ h. absurd (cc h))
    (λ h. absurd (cc h))

five : (b : Bool) (e : WireEnd) (f : Bool) → wire_status b e f ≡ 5 → (e ≡ ended.SinkFault) × (f ≡ false)
five = told 5 (λ e f. (e ≡ ended.SinkFault) × (f ≡ false)) (λ h. cc h) (λ h. absurd (cc h)) (λ h. absurd (cc h))
    (λ h. absurd (cc h)) (λ h. absurd (cc h))
    (λ h. (refl, refl)) (λ h. absurd (cc h))

three : (b : Bool) (e : WireEnd) (f : Bool) → wire_status b e f ≡ 3 → f ≡ true
three = told 3 (λ e f. f ≡ true) (λ h. cc h) (λ h. absurd (cc h)) (λ h. absurd (cc h)) (λ h. absurd (cc h))
    (λ h. (refl, refl)) (λ h. absurd (cc h))
    (λ h. absurd (cc h))

pub zero-end : (b : Bool) (e : WireEnd) (f : Bool) → wire_status b e f ≡ 0 → (e ≡ ended.End) × (f ≡ false)
zero-end = told 0 (λ e f. (e ≡ ended.End) × (f ≡ false)) (λ h. cc h) (λ h. absurd (cc h)) (λ h. absurd (cc h))
    (λ h. absurd (cc h)) (λ h. absurd (cc h))
    (λ h. absurd (cc h)) (λ h. (refl, refl))

-- a bad frame, or one that is cut
abbrev pub IsTorn : WireEnd → Type 0
IsTorn (ended.Cut at) = Unit {0}
IsTorn (ended.Bad at) = Unit {0}
IsTorn _ = ⊥

two : (b : Bool) (e : WireEnd) (f : Bool) → wire_status b e f ≡ 2 → IsTorn e
two = told 2 (λ e f. IsTorn e) (λ h. cc h) (λ h. absurd (cc h)) (λ h. absurd (cc h)) (λ h at f. (tt, tt))
    (λ h. absurd (cc h)) (λ h. absurd (cc h))
    (λ h. absurd (cc h))

-- a status of frames is none of these two
named : (b : Bool) (e : WireEnd) (f : Bool) → IsStatus (wire_status b e f) × (wire_status b e f ≢ 1)
    × (wire_status b e f ≢ 4)
named true e f = (inr (inr (inr (inr (inr (inr (inr (inl refl))))))), (λ h. cc h), (λ h. cc h))
named false ended.SourceFault f = (inr (inr (inr (inr (inr (inr (inl refl)))))), (λ h. cc h), (λ h. cc h))
named false ended.TooLong f = (inr (inr (inr (inr (inr (inr (inr (inr refl))))))), (λ h. cc h), (λ h. cc h))
named false (ended.Cut at) f = (inr (inr (inl refl)), (λ h. cc h), (λ h. cc h))
named false (ended.Bad at) f = (inr (inr (inl refl)), (λ h. cc h), (λ h. cc h))
named false ended.OutOfMemory f = (inr (inr (inr (inr (inr (inr (inr (inl refl))))))), (λ h. cc h), (λ h. cc h))
named false ended.SinkFault true = (inr (inr (inr (inl refl))), (λ h. cc h), (λ h. cc h))
named false ended.SinkFault false = (inr (inr (inr (inr (inr (inl refl))))), (λ h. cc h), (λ h. cc h))
named false ended.End true = (inr (inr (inr (inl refl))), (λ h. cc h), (λ h. cc h))
named false ended.End false = (inl refl, (λ h. cc h), (λ h. cc h))

-- a stream that was too long
too-long : (e : WireEnd) (old new : SourceState) (given new_given : Option (List ℕ)) (made : List Made)
    → Serves 16777216 e old.left new.left given new_given [] made → e ≡ ended.TooLong → TakesJust old new (16777216 + 1)
too-long e old new given new_given made s is =
    let ends = subst (λ (x : WireEnd). EndsSo 16777216 x new.left s.taken s.steps s.written) is s.ends in
    (s.taken, s.takes, ends.1)

-- what comes of frames at a mount
pub wire-ends : (found last : DiskState) (source_old source_new : SourceState) (sink_old sink_new : SinkState)
    (first status : ℕ) (short : Bool)
    (e : WireEnd) (ran : HistoryState)
    → status ≡ wire_status short e (has_fault ran.entries)
    → Serves 16777216 e source_old.left source_new.left sink_old.given sink_new.given [] (steps_by 1 ran.entries)
    → (e ≡ ended.SourceFault → Rose source_old.faults source_new.faults)
    → (e ≡ ended.SinkFault → Rose sink_old.faults sink_new.faults)
    → ∥ Finished found last first ran ∥₁ → WireEnds found last source_old source_new sink_old sink_new status (Some ran)
wire-ends found last source_old source_new sink_old sink_new first status short e ran is serves source sink ends =
    let f = has_fault ran.entries in
    let n = named short e f in
    record {
      named = (subst IsStatus (sym is) n.0, λ h. n.1 (sym is ∙ h));
      run = record { short = short; end = e; serves = serves; status_is = is };
      stood = λ s h. cc h;
      unread = λ h. absurd (cc h);
      source = λ h. source (six short e f (sym is ∙ h));
      too_long = λ h. too-long e source_old source_new _ _ _ serves (eight short e f (sym is ∙ h));
      device = λ h.
          (three short e f (sym is ∙ h), faults-rose found last first ran ends (three short e f (sym is ∙ h)));
      sink = λ h. (sink (five short e f (sym is ∙ h)).0, (five short e f (sym is ∙ h)).1);
      refused = λ h. absurd (n.2 (sym is ∙ h));
    }

-- and on a device that was not mounted
pub wire-refused : (old new : DiskState) (source : SourceState) (sink_old sink_new : SinkState) (status : ℕ)
    (h : Option HistoryState) → h ≡ None
    → (status ≡ 3) ⊎ (status ≡ 4) ⊎ (status ≡ 7) → (status ≡ 3 → Rose old.faults new.faults)
    → (status ≡ 4 → IsRefusedBy None old new)
    → WireEnds old new source source sink_old sink_new status h
wire-refused old new source sink_old sink_new status h none kinds device refused =
    subst (λ (o : Option HistoryState). WireEnds old new source source sink_old sink_new status o) (sym none) (record {
      named = (is-status kinds, λ e. absurd (let low = (between kinds).0 in omega (arith, low, e)));
      run = tt;
      stood = λ s. absurd (not-these s);
      unread = λ e. refl;
      source = λ e. absurd (not-these (inr (inr (inr (inl e)))));
      too_long = λ e. absurd (not-these (inr (inr (inr (inr e)))));
      device = λ e. (tt, device e);
      sink = λ e. absurd (not-these (inr (inr (inl e))));
      refused = λ e. (refl, refused e);
    })
  where
    is-status : (status ≡ 3) ⊎ (status ≡ 4) ⊎ (status ≡ 7) → IsStatus status
    is-status (inl e) = inr (inr (inr (inl e)))
    is-status (inr (inl e)) = inr (inr (inr (inr (inl e))))
    is-status (inr (inr e)) = inr (inr (inr (inr (inr (inr (inr (inl e)))))))

    -- of the statuses beside 4 they lie between 3 and 7, and none is 5 or 6
    between : (status ≡ 3) ⊎ (status ≡ 4) ⊎ (status ≡ 7) → (3 ≤ status) × (status ≤ 7) × (status ≢ 5) × (status ≢ 6)
    between (inl a) =
        (omega (arith, a), omega (arith, a), (λ e. absurd (omega (arith, a, e))), (λ e. absurd (omega (arith, a, e))))
    between (inr (inl a)) =
        (omega (arith, a), omega (arith, a), (λ e. absurd (omega (arith, a, e))), (λ e. absurd (omega (arith, a, e))))
    between (inr (inr a)) =
        (omega (arith, a), omega (arith, a), (λ e. absurd (omega (arith, a, e))), (λ e. absurd (omega (arith, a, e))))

    not-these : (status ≡ 0) ⊎ (status ≡ 2) ⊎ (status ≡ 5) ⊎ (status ≡ 6) ⊎ (status ≡ 8) → ⊥
    not-these (inl e) = let low = (between kinds).0 in omega (arith, low, e)
    not-these (inr (inl e)) = let low = (between kinds).0 in omega (arith, low, e)
    not-these (inr (inr (inl e))) = (between kinds).2 e
    not-these (inr (inr (inr (inl e)))) = (between kinds).3 e
    not-these (inr (inr (inr (inr e)))) = let high = (between kinds).1 in omega (arith, high, e)

-- whole frames come to their end: none is torn
torn-none : (e : WireEnd) (left new_left given new_given : Option (List ℕ)) (made : List Made) (text : List ℕ)
    → left ≡ Some text → rest_of text ≡ []
    → ((front back : List ℕ) → text ≡ front ++ back → IsBad (rest_of front) → ⊥)
    → Serves 16777216 e left new_left given new_given [] made → IsTorn e → ⊥
torn-none e left new_left given new_given made text told whole none_bad s torn = go e torn s.ends
  where
    go : (x : WireEnd) → IsTorn x → EndsSo 16777216 x new_left s.taken s.steps s.written → ⊥
    go (ended.Cut at) t ends =
        let same : s.taken ≡ text = consumed left new_left text s.taken told s.takes ends.3 in
        not-cut (subst IsCut (ap rest_of same ∙ whole) ends.1)
    go (ended.Bad at) t ends =
        let (back, is) = consumed-front left new_left text s.taken told s.takes in
        none_bad s.taken back is ends.1
    go ended.End t ends = t
    go ended.TooLong t ends = t
    go ended.SourceFault t ends = t
    go ended.SinkFault t ends = t
    go ended.OutOfMemory t ends = t

-- frames on a ready device, where no count of faults rose
pub wire-completes : (old new : DiskState) (source_old source_new : SourceState) (sink_old sink_new : SinkState) (s : ℕ)
    (h : Option HistoryState)
    → NoneRose source_old source_new old new sink_old sink_new → HoldsFrames source_old 16777216 → CanBeMounted old
    → WireEnds old new source_old source_new sink_old sink_new s h → (s ≡ 0) ⊎ (s ≡ 7)
wire-completes old new source_old source_new sink_old sink_new s h none held ready ends =
    completes s ends.named.0 ends.named.1 (λ e. torn h e (ends.stood (inr (inl e))) ends.run)
    (λ e. none.disk (ends.device e).1)
    (λ e. ready-not-refused None old new ready (ends.refused e).1) (λ e. none.sink (ends.sink e).0)
    (λ e. none.source (ends.source e)) long
  where
    torn : (o : Option HistoryState)
        → s ≡ 2 → o ≢ None → IfSome o (IsWireRun source_old source_new sink_old sink_new s) → ⊥
    torn None e some r = some refl
    torn (Some x) e some r =
        torn-none r.end source_old.left source_new.left _ _ _ held.text held.told held.whole held.none_bad r.serves
        (two r.short r.end (has_fault x.entries) (sym r.status_is ∙ e))

    long : s ≡ 8 → ⊥
    long e =
        let (bytes, taken, len) = ends.too_long e in
        let most = consumed-most source_old.left source_new.left held.text bytes held.told taken in
        let short = held.short in
        omega (arith, most, short, len)

-- the headline of frames at a mount
pub wire-headline : (P : List Made → Type 0) (found before last : DiskState) (first status : ℕ) (k : Books) (out : Bool)
    (ran : HistoryState) → first ≡ 0
    → ∥ IsMount found before first k ∥₁ → IsRaisedFrom found k.at → ∥ Finished found last first ran ∥₁
    → IsVisitRun P k.at.inodes k.at.blocks out ran.entries
    → (out ≡ false → IsClosed last ran.entries) → (out ≡ true → status ≡ 7)
    → (status ≡ 0 → has_fault ran.entries ≡ false)
    → ∥ IsHeadlineOf (FollowsVisit P) found last status ran ∥₁
wire-headline P found before last first status k out ran begins stands read ends run closed unsaid sound =
    go out run closed unsaid
  where
    go : (b : Bool) → IsVisitRun P k.at.inodes k.at.blocks b ran.entries → (b ≡ false → IsClosed last ran.entries)
        → (b ≡ true → status ≡ 7)
        → ∥ IsHeadlineOf (FollowsVisit P) found last status ran ∥₁
    go true run closed unsaid =
        visit-of P found before last first status k None ran (Some ran) begins refl stands read ends
        (record { short = true; early = λ e. refl; follows = run }) tt (λ e. unsaid refl) sound
    go false run closed unsaid =
        visit-of P found before last first status k (Some []) ran (Some ran) begins refl stands read ends
        (record { short = false; early = λ e. absurd (cc e); follows = run }) (closed refl) (λ e. absurd (cc e)) sound

pub short-seven : (b : Bool) (e : WireEnd) (f : Bool) → b ≡ true → wire_status b e f ≡ 7
short-seven true e f h = refl
short-seven false e f h = absurd (cc h)
