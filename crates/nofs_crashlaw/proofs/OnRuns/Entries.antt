-- The entries of a run by their place: the worlds around each, their order in time, the mark, and what may be read
-- since.
use Rattle.std.proofs.Common.{◌≡◌, ℕ, zero, suc, ◌+◌, ◌<◌, ◌≤◌, inl, inr, Bool, true, false, cond, ltb, leb, ltb-true}
use Rattle.std.proofs.Common.{leb-true, lt-ltb, le-leb, ◌&&◌, List}
use Rattle.std.proofs.Common.{[], ◌∷◌, length, take, drop, Option, Some, None, option_to_list, refl, sym, ap, ◌∙◌}
use Rattle.std.proofs.Common.{subst, arith, Contains}
use Rattle.std.specs.Prelude.{slice_get}
use Rattle.std.proofs.lemmas.List.Elements.{Contains-append_cases}
use Rattle.nofs_model.specs.Geometry.{Image}
use Rattle.nofs_model.specs.Files.{Files, FileState}
use Rattle.nofs_model.specs.declared.image.value.Value.{Value}
use Rattle.nofs_history.specs.Meta.{Meta, Is}
use Rattle.nofs_history.specs.Machine.{given_by, files_by, is_write_fault}
use Rattle.nofs_history.specs.Since.{agreed_files, files_along, values_given, metas_given, last_in}
use Rattle.nofs_history.specs.History.{NoWriteFault}
use Rattle.nofs_history.specs.Since.{is_flushed, begun, mark_from}
use Rattle.nofs_history.specs.Since.{mark, before_mark, since_mark, files_at_mark, accepted_of, accepted_meta_of}
use Rattle.nofs_history.specs.Since.{since, since_meta}
use Rattle.nofs_history.specs.World.{World}
use Rattle.nofs_history.specs.Answers.{reply_of}
use Rattle.nofs_history.specs.Next.{Next, AfterFault, ByRow, Done, ByRead, ByWrite, takes_time, Run}
use Rattle.nofs_history.specs.declared.machine.history.Entry1.{Entry1}
use Rattle.nofs_history.specs.declared.machine.replies.Reply.{Reply}
use Rattle.nofs_history.specs.declared.machine.replies.Reply.TheVariants as reply
use Rattle.nofs_history.specs.declared.machine.replies.Refusal.TheVariants as refusal
use Rattle.nofs_crashlaw.proofs.OnLives.Era.{current-accepted}
use Rattle.nofs_crashlaw.proofs.OnLives.Images.{along-append, begun-take}
use Rattle.nofs_model.proofs.OnSlots.Find.{and-both}
use Rattle.nofs_history.proofs.Faultless.{answer-free}
use Rattle.nofs_crashlaw.specs.Runs.Laws.{files_before}
use Rattle.nofs_crashlaw.proofs.OnRuns.Places.{take-more, part-get}
use Rattle.nofs_crashlaw.proofs.OnRuns.Acts.{faultless, row-faultless, files-next}

-- The worlds around an entry

-- the world before the entry at place p and the one after it, of which something holds that each step keeps
pub record Moment (Sane : World → Type 0) (F : Files) (es : List Entry1) (p : ℕ) (e : Entry1) : Type 0 where
  pub before : World
  pub after : World
  pub files : before.files ≡ files_along F (take p es)
  pub next : Next before e after
  pub sane : Sane before
  pub sane_after : Sane after

module _ (Sane : World → Type 0) (keeps : (W V : World) (e : Entry1) → Next W e V → Sane W → Sane V) where
  pub run-moment : (es : List Entry1) (start : ℕ) (W V : World) → Run start W es V → Sane W
      → (p : ℕ) (e : Entry1) → slice_get es p ≡ Some e
      → Moment Sane W.files es p e
  run-moment [] start W V r sane p e at = cc at
  run-moment (x ∷ es) start W V r sane zero e at =
      let s : x ≡ e = cc at in
      record {
        before = W;
        after = r.0;
        files = refl;
        next = subst (λ (y : Entry1). Next W y r.0) s r.4;
        sane = sane;
        sane_after = keeps W r.0 x r.4 sane;
      }
  run-moment (x ∷ es) start W V r sane (suc p) e at =
      let m = run-moment es x.to r.0 V r.5 (keeps W r.0 x r.4 sane) p e at in
      record {
        before = m.before;
        after = m.after;
        files = m.files ∙ ap (λ (F : Files). files_along F (take p es)) (files-next W r.0 x r.4);
        next =
            m.next;
        sane = m.sane;
        sane_after = m.sane_after;
      }

  -- the files after it are those before the next place
  pub files-after : (F : Files) (es : List Entry1) (p : ℕ) (e : Entry1) → slice_get es p ≡ Some e
      → (m : Moment Sane F es p e)
      → m.after.files ≡ files_along F (take (suc p) es)
  files-after F es p e at m =
      files-next m.before m.after e m.next
      ∙ ap (λ (G : Files). files_by G e) m.files
      ∙ sym (ap (files_along F) (take-more es p e at) ∙ along-append F (take p es) (e ∷ []))

-- Order in time

-- no entry begins before the run does
run-from : (es : List Entry1) (start : ℕ) (W V : World) → Run start W es V
    → (p : ℕ) (e : Entry1) → slice_get es p ≡ Some e → start ≤ e.from
run-from [] start W V r p e at = cc at
run-from (x ∷ es) start W V r zero e at = let s : x ≡ e = cc at in let f = r.1 in
    let g : x.from ≡ e.from = ap (λ (y : Entry1). y.from) s in omega (arith, f, g)
run-from (x ∷ es) start W V r (suc p) e at = let ih = run-from es x.to r.0 V r.5 p e at in let f = r.1 in let t = r.2 in
    omega (arith, ih, f, t)

-- an entry begins at the end of each one before it, or later
pub run-order : (es : List Entry1) (start : ℕ) (W V : World) → Run start W es V
    → (p q : ℕ) (e h : Entry1) → slice_get es p ≡ Some e
    → slice_get es q ≡ Some h → p < q → e.to ≤ h.from
run-order [] start W V r p q e h at there lt = cc at
run-order (x ∷ es) start W V r p zero e h at there lt = absurd (omega (arith, lt))
run-order (x ∷ es) start W V r zero (suc q) e h at there lt =
    let s : x ≡ e = cc at in
    let f = run-from es x.to r.0 V r.5 q h there in
    let g : x.to ≡ e.to = ap (λ (y : Entry1). y.to) s in
    omega (arith, f, g)
run-order (x ∷ es) start W V r (suc p) (suc q) e h at there lt =
    run-order es x.to r.0 V r.5 p q e h at there (omega (arith, lt))

-- a flush that succeeds takes time
pub run-time : (es : List Entry1) (start : ℕ) (W V : World) → Run start W es V
    → (p : ℕ) (e : Entry1) → slice_get es p ≡ Some e
    → (e.from ≤ e.to) × (is_flushed e.reply ≡ true → e.from < e.to)
run-time [] start W V r p e at = cc at
run-time (x ∷ es) start W V r zero e at =
    let s : x ≡ e = cc at in
    subst (λ (y : Entry1). (y.from ≤ y.to) × (is_flushed y.reply ≡ true → y.from < y.to)) s
    (r.2, λ f. r.3 (time x.reply f))
  where
    time : (q : Reply) → is_flushed q ≡ true → takes_time q ≡ true
    time reply.Flushed f = refl
    time _ f = cc f
run-time (x ∷ es) start W V r (suc p) e at = run-time es x.to r.0 V r.5 p e at

-- what has begun are the first entries, each of which begins before the moment
pub begun-before : (es : List Entry1) (m p : ℕ) (e : Entry1) → slice_get es p ≡ Some e
    → p < length (begun es m) → e.from < m
begun-before [] m p e at lt = cc at
begun-before (x ∷ es) m zero e at lt = go (ltb x.from m) refl lt
  where
    go : (b : Bool) → ltb x.from m ≡ b → 0 < length (cond b (x ∷ begun es m) []) → e.from < m
    go false eb lt = absurd (omega (arith, lt))
    go true eb lt = let s : x ≡ e = cc at in let l = ltb-true x.from m eb in
        let g : x.from ≡ e.from = ap (λ (y : Entry1). y.from) s in omega (arith, l, g)
begun-before (x ∷ es) m (suc p) e at lt = begun-before es m p e at (go (ltb x.from m) lt)
  where
    go : (b : Bool) → suc p < length (cond b (x ∷ begun es m) []) → p < length (begun es m)
    go false lt = absurd (omega (arith, lt))
    go true lt = omega (arith, lt)

pub begun-reaches : (es : List Entry1) (start : ℕ) (W V : World) → Run start W es V
    → (m p : ℕ) (e : Entry1) → slice_get es p ≡ Some e → e.from < m
    → p < length (begun es m)
begun-reaches [] start W V r m p e at lt = cc at
begun-reaches (x ∷ es) start W V r m zero e at lt = go (ltb x.from m) refl
  where
    go : (b : Bool) → ltb x.from m ≡ b → 0 < length (cond b (x ∷ begun es m) [])
    go false eb =
        absurd (let same : x ≡ e = cc at in let s : x.from ≡ e.from = ap (λ (y : Entry1). y.from) same in let z =
        lt-ltb x.from m (omega (arith, s, lt)) in cc (eb, z))
    go true eb = omega arith
begun-reaches (x ∷ es) start W V r m (suc p) e at lt =
    go (ltb x.from m) refl (begun-reaches es x.to r.0 V r.5 m p e at lt)
  where
    early : x.from < m
    early =
        let a = run-from es x.to r.0 V r.5 p e at in
        let t = r.2 in
        omega (arith, a, t, lt)

    go : (b : Bool) → ltb x.from m ≡ b → p < length (begun es m) → suc p < length (cond b (x ∷ begun es m) [])
    go false eb ih = absurd (let z = lt-ltb x.from m early in cc (eb, z))
    go true eb ih = omega (arith, ih)

-- The mark

-- the place so far stays, or grows
mark-grows : (es : List Entry1) (m at best : ℕ) → best ≤ at → best ≤ mark_from es m at best
mark-grows [] m at best le = omega arith
mark-grows (y ∷ ys) m at best le =
    go (is_flushed y.reply && leb y.to m) (mark-grows ys m (suc at) (suc at) (omega arith))
    (mark-grows ys m (suc at) best (omega (arith, le)))
  where
    go : (b : Bool) → suc at ≤ mark_from ys m (suc at) (suc at) → best ≤ mark_from ys m (suc at) best
        → best ≤ mark_from ys m (suc at) (cond b (suc at) best)
    go true g h = omega (arith, g, le)
    go false g h = h

-- the mark stands behind each entry that flushed by the moment
mark-least : (es : List Entry1) (m at best : ℕ) → best ≤ at → (p : ℕ) (e : Entry1) → slice_get es p ≡ Some e
    → is_flushed e.reply ≡ true → e.to ≤ m
    → at + suc p ≤ mark_from es m at best
mark-least [] m at best le p e there f by = cc there
mark-least (x ∷ es) m at best le zero e there f by =
    let s : x ≡ e = cc there in
    let t : leb x.to m ≡ true = le-leb x.to m (subst (λ (y : Entry1). y.to ≤ m) (sym s) by) in
    let u : is_flushed x.reply ≡ true = subst (λ (y : Entry1). is_flushed y.reply ≡ true) (sym s) f in
    let g = mark-grows es m (suc at) (suc at) (omega arith) in
    let same : mark_from (x ∷ es) m at best ≡ mark_from es m (suc at) (suc at) =
    λ j. mark_from es m (suc at) (cond (u j && t j) (suc at) best) in
    omega (arith, g, same)
mark-least (x ∷ es) m at best le (suc p) e there f by = go (is_flushed x.reply && leb x.to m)
    (mark-least es m (suc at) (suc at) (omega arith) p e there f by)
    (mark-least es m (suc at) best (omega (arith, le)) p e there f by)
  where
    go : (b : Bool) → suc at + suc p ≤ mark_from es m (suc at) (suc at) → suc at + suc p ≤ mark_from es m (suc at) best
        → at + suc (suc p) ≤ mark_from es m (suc at) (cond b (suc at) best)
    go true g h = omega (arith, g)
    go false g h = omega (arith, h)

pub mark-behind : (H : List Entry1) (m p : ℕ) (e : Entry1) → slice_get H p ≡ Some e
    → is_flushed e.reply ≡ true → e.to ≤ m → p < mark H m
mark-behind H m p e at f by = let r = mark-least H m 0 0 (omega arith) p e at f by in omega (arith, r)

-- it is at the start, or right behind one of them
pub data MarkAt (es : List Entry1) (m at best : ℕ) : Type 0 where
  Unmoved : mark_from es m at best ≡ best → MarkAt es m at best
  Behind : (p : ℕ) (e : Entry1) → slice_get es p ≡ Some e
      → is_flushed e.reply ≡ true → e.to ≤ m → mark_from es m at best ≡ at + suc p → MarkAt es m at best

pub mark-is : (es : List Entry1) (m at best : ℕ) → MarkAt es m at best
mark-is [] m at best = Unmoved refl
mark-is (x ∷ es) m at best = from (is_flushed x.reply && leb x.to m) refl
    (mark-is es m (suc at) (cond (is_flushed x.reply && leb x.to m) (suc at) best))
  where
    from : (b : Bool) → (is_flushed x.reply && leb x.to m) ≡ b → MarkAt es m (suc at) (cond b (suc at) best)
        → MarkAt (x ∷ es) m at best
    from b eb (Behind p e there f by is) = Behind (suc p) e there f
        by (ap (λ (t : Bool). mark_from es m (suc at) (cond t (suc at) best)) eb ∙ is ∙ omega arith)
    from true eb (Unmoved is) =
        let a = and-both (is_flushed x.reply) (leb x.to m) eb in
        Behind 0 x refl a.0 (leb-true x.to m a.1)
        (ap (λ (t : Bool). mark_from es m (suc at) (cond t (suc at) best)) eb ∙ is ∙ omega arith)
    from false eb (Unmoved is) = Unmoved (ap (λ (t : Bool). mark_from es m (suc at) (cond t (suc at) best)) eb ∙ is)

-- No write failed before a flush that succeeded

stopped-step : (W : World) (x : Entry1) (U : World) → W.stopped ≡ true → Next W x U
    → (x.reply ≡ reply.Refused refusal.Stopped) × (U.stopped ≡ true)
stopped-step W x U s (AfterFault t q c same) = (q, ap (λ (w : World). w.stopped) same ∙ s)
stopped-step W x U s (ByRow why t row q c k st l) = absurd (cc (s, t))
stopped-step W x U s (Done t row q claim fs hs se vs l) = absurd (cc (s, t))
stopped-step W x U s (ByRead t row q c k st l) = absurd (cc (s, t))
stopped-step W x U s (ByWrite t row w q claim k st l) = absurd (cc (s, t))

stopped-run : (es : List Entry1) (start : ℕ) (W V : World) → Run start W es V
    → W.stopped ≡ true → (p : ℕ) (e : Entry1) → slice_get es p ≡ Some e
    → e.reply ≡ reply.Refused refusal.Stopped
stopped-run [] start W V r s p e at = cc at
stopped-run (x ∷ es) start W V r s zero e at = let y : x ≡ e =
    cc at in subst (λ (z : Entry1). z.reply ≡ reply.Refused refusal.Stopped) y (stopped-step W x r.0 s r.4).0
stopped-run (x ∷ es) start W V r s (suc p) e at = stopped-run es x.to r.0 V r.5 (stopped-step W x r.0 s r.4).1 p e at

pub run-faultless : (es : List Entry1) (start : ℕ) (W V : World) → Run start W es V
    → (p : ℕ) (e : Entry1) → slice_get es p ≡ Some e
    → is_flushed e.reply ≡ true → NoWriteFault (take (suc p) es)
run-faultless [] start W V r p e at f = tt
run-faultless (x ∷ es) start W V r zero e at f =
    let s : x ≡ e = cc at in
    (flushed-fine x.reply (subst (λ (y : Entry1). is_flushed y.reply ≡ true) (sym s) f), tt)
  where
    flushed-fine : (q : Reply) → is_flushed q ≡ true → is_write_fault q ≡ false
    flushed-fine reply.Flushed h = refl
    flushed-fine _ h = cc
run-faultless (x ∷ es) start W V r (suc p) e at f = (fine r.4, run-faultless es x.to r.0 V r.5 p e at f)
  where
    fine : Next W x r.0 → is_write_fault x.reply ≡ false
    fine (AfterFault t q c same) = ap is_write_fault q
    fine (ByRow why t row (inl q) c k st l) = ap is_write_fault q ∙ row-faultless W r.0 x.step why row
    fine (ByRow why t row (inr q) c k st l) = ap is_write_fault q.0
    fine (Done t row q claim fs hs se vs l) = ap is_write_fault q
        ∙ faultless (reply_of W x.step x.claims) (answer-free W x.step x.claims)
    fine (ByRead t row q c k st l) = ap is_write_fault q
    fine (ByWrite t row w q claim k st l) = absurd (
        let z = stopped-run es x.to r.0 V r.5 st p e at in
        let y : is_flushed e.reply ≡ false = ap is_flushed z in cc (f, y))

-- What may be read since the mark

sole : {A : Type 0} → (x v : A) → Contains (x ∷ []) v → x ≡ v
sole x v (zero, lt, e) = e
sole x v (suc k, lt, e) = absurd (omega (arith, lt))

module _ (P : Value → Type 0) (i g k : ℕ) where
  values-pass : (es : List Entry1) (F : Files) → ((p : ℕ) (e : Entry1) → slice_get es p ≡ Some e → (v : Value)
      → (given_by (files_along F (take p es)) e).slots i g k ≡ Some v → P v)
      → (v : Value) → Contains (values_given F es i g k) v → P v
  values-pass [] F each v (n, lt, e) = absurd (omega (arith, lt))
  values-pass (x ∷ es) F each v c = elim
      (Contains-append_cases (option_to_list ((given_by F x).slots i g k)) (values_given (files_by F x) es i g k) v c) [
        | inl here ↦ first ((given_by F x).slots i g k) refl here
        | inr there ↦ values-pass es (files_by F x) (λ p e at. each (suc p) e at) v there
      ]
    where
      first : (o : Option Value) → (given_by F x).slots i g k ≡ o → Contains (option_to_list o) v → P v
      first None eo (n, lt, e) = absurd (omega (arith, lt))
      first (Some w) eo h = subst P (sole w v h) (each 0 x refl w eo)

module _ (P : Meta → Type 0) (i g : ℕ) where
  metas-pass : (es : List Entry1) (F : Files) → ((p : ℕ) (e : Entry1) → slice_get es p ≡ Some e → (v : Meta)
      → (given_by (files_along F (take p es)) e).metas i g ≡ Some v → P v)
      → (v : Meta) → Contains (metas_given F es i g) v → P v
  metas-pass [] F each v (n, lt, e) = absurd (omega (arith, lt))
  metas-pass (x ∷ es) F each v c =
      elim (Contains-append_cases (option_to_list ((given_by F x).metas i g)) (metas_given (files_by F x) es i g) v c) [
        | inl here ↦ first ((given_by F x).metas i g) refl here
        | inr there ↦ metas-pass es (files_by F x) (λ p e at. each (suc p) e at) v there
      ]
    where
      first : (o : Option Meta) → (given_by F x).metas i g ≡ o → Contains (option_to_list o) v → P v
      first None eo (n, lt, e) = absurd (omega (arith, lt))
      first (Some w) eo h = subst P (sole w v h) (each 0 x refl w eo)

module _ (B : Image) (H : List Entry1) (m i g : ℕ) (f : FileState) (ok : NoWriteFault (take (mark H m) H))
    (is : files_at_mark B H m i ≡ Some f)
    (gen : f.generation ≡ g) where
  -- an entry since the mark, by its place
  placed : (p : ℕ) (e : Entry1) → slice_get (since_mark H m) p ≡ Some e
      → (mark H m + p < length (begun H m)) × (slice_get H (mark H m + p) ≡ Some e) ×
      (files_along (files_at_mark B H m) (take p (since_mark H m)) ≡ files_before B H (mark H m + p))
  placed p e at =
      let front : since_mark H m ≡ drop (mark H m) (take (length (begun H m)) H) =
      ap (drop (mark H m)) (begun-take H m) in
      let r = part-get H (mark H m) (length (begun H m)) p e
      (subst (λ (es : List Entry1). slice_get es p ≡ Some e) front at) in (
        r.0,
        r.1,
        ap (λ (es : List Entry1). files_along (files_at_mark B H m) (take p es)) front
            ∙ sym (along-append (agreed_files B) (take (mark H m) H)
            (take p (drop (mark H m) (take (length (begun H m)) H))))
            ∙ ap (files_along (agreed_files B)) r.2,
      )

  pub since-passes : (P : Value → Type 0) (k : ℕ) → P (f.values k)
      → ((p : ℕ) (e : Entry1) → mark H m ≤ p → p < length (begun H m) → slice_get H p ≡ Some e → (v : Value)
      → (given_by (files_before B H p) e).slots i g k ≡ Some v → P v)
      → (v : Value) → Contains (since B H m i g k) v → P v
  since-passes P k now each v c = elim (Contains-append_cases (last_in (accepted_of B (before_mark H m) i g k))
      (values_given (files_at_mark B H m) (since_mark H m) i g k) v c) [
        | inl h ↦ (
            let last = (current-accepted B (before_mark H m) ok).values i f is k in
            let last' : last_in (accepted_of B (before_mark H m) i g k) ≡ f.values k ∷ [] =
            subst (λ (q : ℕ). last_in (accepted_of B (before_mark H m) i q k) ≡ f.values k ∷ []) gen last in
            subst P (sole (f.values k) v (subst (λ (vs : List Value). Contains vs v) last' h)) now)
        | inr h ↦ values-pass P i g k (since_mark H m) (files_at_mark B H m) (λ p e at w given.
            let q = placed p e at in
            each (mark H m + p) e (omega arith) q.0 q.1 w
            (subst (λ (G : Files). (given_by G e).slots i g k ≡ Some w) q.2 given)) v h
      ]

  pub given-passes : (P : Meta → Type 0)
      → ((p : ℕ) (e : Entry1) → mark H m ≤ p → p < length (begun H m) → slice_get H p ≡ Some e → (v : Meta)
      → (given_by (files_before B H p) e).metas i g ≡ Some v → P v)
      → (v : Meta) → Contains (metas_given (files_at_mark B H m) (since_mark H m) i g) v → P v
  given-passes P each v h = metas-pass P i g (since_mark H m) (files_at_mark B H m) (λ p e at w given.
      let q = placed p e at in
      each (mark H m + p) e (omega arith) q.0 q.1 w
      (subst (λ (G : Files). (given_by G e).metas i g ≡ Some w) q.2 given)) v h

  pub metas-since : (P : Meta → Type 0) → P (Is f.kind f.size f.links)
      → ((p : ℕ) (e : Entry1) → mark H m ≤ p → p < length (begun H m) → slice_get H p ≡ Some e → (v : Meta)
      → (given_by (files_before B H p) e).metas i g ≡ Some v → P v)
      → (v : Meta) → Contains (since_meta B H m i g) v → P v
  metas-since P now each v c = elim (Contains-append_cases (last_in (accepted_meta_of B (before_mark H m) i g))
      (metas_given (files_at_mark B H m) (since_mark H m) i g) v c) [
        | inl h ↦ (
            let last = (current-accepted B (before_mark H m) ok).meta i f is in
            let last' : last_in (accepted_meta_of B (before_mark H m) i g) ≡ Is f.kind f.size f.links ∷ [] =
            subst (λ (q : ℕ). last_in (accepted_meta_of B (before_mark H m) i q) ≡ Is f.kind f.size f.links
            ∷ []) gen last in
            subst P (sole (Is f.kind f.size f.links) v (subst (λ (vs : List Meta). Contains vs v) last' h)) now)
        | inr h ↦ given-passes P each v h
      ]
