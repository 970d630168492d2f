-- The durable move: one of the file's two names finds it.
use Rattle.std.proofs.Common.{◌≡◌, ◌≢◌, ℕ, zero, suc, ◌<◌, ◌≤◌, ◌⊎◌, inl, inr, Bool, true, false, cond, eqb, ltb, List}
use Rattle.std.proofs.Common.{[], ◌∷◌, length, take, Some, is_some, refl, sym, ap, ◌∙◌, subst, arith, eqb-true, eq-eqb}
use Rattle.std.specs.Prelude.{slice_get}
use Rattle.std.proofs.lemmas.Bool.{cases_lt}
use Rattle.nofs_dirent.specs.declared.entry.Entry.{Entry}
use Rattle.nofs_model.specs.Geometry.{Image}
use Rattle.nofs_model.specs.Files.{Files, Agreed, entry_at}
use Rattle.nofs_history.specs.Machine.{found, link_to, given_by}
use Rattle.nofs_history.specs.Since.{agreed_files, begun, mark, is_flushed}
use Rattle.nofs_history.specs.History.{NoWriteFault}
use Rattle.nofs_history.specs.Allowed.{IsAllowed}
use Rattle.nofs_history.specs.World.{World}
use Rattle.nofs_history.specs.Next.{Next}
use Rattle.nofs_history.specs.declared.machine.history.Entry1.{Entry1}
use Rattle.nofs_history.specs.declared.machine.steps.Step.{Step}
use Rattle.nofs_history.specs.declared.machine.steps.Step.TheVariants as step
use Rattle.nofs_history.specs.declared.machine.replies.Reply.TheVariants as reply
use Rattle.nofs_crashlaw.proofs.OnRuns.StepLinks.{directory-of, name-of}
use Rattle.nofs_crashlaw.specs.Runs.Laws.{files_before}
use Rattle.nofs_crashlaw.proofs.OnRuns.Entries.{Moment, files-after, run-order, run-time, begun-before, begun-reaches}
use Rattle.nofs_crashlaw.proofs.OnRuns.Entries.{mark-behind, MarkAt, Unmoved, Behind, mark-is, run-faultless}
use Rattle.nofs_crashlaw.proofs.OnRuns.Links.{IsSane, Linked, linked-range, linked-paired, linked-filled}
use Rattle.nofs_crashlaw.proofs.OnRuns.Chains.{Guard, SaneRun, moment-at, linked-along, stays-along}
use Rattle.nofs_crashlaw.proofs.OnRuns.Base.{sane-run}
use Rattle.nofs_crashlaw.specs.Paths.Names.{Finds}
use Rattle.nofs_crashlaw.specs.Paths.Moves.{HasStep, KeepsEntry, named_entry, IsMove, HasDrop, DropIsLate, LawMove}
use Rattle.nofs_crashlaw.specs.Paths.Moves.{LawMoved}
use Rattle.nofs_crashlaw.proofs.OnPaths.Finds.{law-sure-name}
use Rattle.nofs_crashlaw.proofs.OnPaths.Since.{MarkWithin, sure-name, chain-sure}
use Rattle.nofs_crashlaw.proofs.OnPaths.Looks.{Only, plain-guard, keeping-guard, found-name, name-finds, look-linked}
use Rattle.nofs_crashlaw.proofs.OnPaths.Links.{link-linked}

-- what has begun is in the history
begun-get : (es : List Entry1) (m p : ℕ) → p < length (begun es m) → (e : Entry1) × (slice_get es p ≡ Some e)
begun-get [] m p lt = absurd (omega (arith, lt))
begun-get (x ∷ es) m zero lt = (x, refl)
begun-get (x ∷ es) m (suc p) lt = begun-get es m p (go (ltb x.from m) lt)
  where
    go : (b : Bool) → suc p < length (cond b (x ∷ begun es m) []) → p < length (begun es m)
    go false lt = absurd (omega (arith, lt))
    go true lt = omega (arith, lt)

flushed-is : (e : Entry1) → e.reply ≡ reply.Flushed → is_flushed e.reply ≡ true
flushed-is e h = ap is_flushed h

-- the mark of a moment by which an entry flushed: it lies behind that entry, and among what has begun
module _ (B : Image) (H : List Entry1) (r : SaneRun B H) (m p : ℕ) (e : Entry1) (at : slice_get H p ≡ Some e)
    (flushed : is_flushed e.reply ≡ true)
    (by : e.to ≤ m) where
  behind : p < mark H m
  behind = mark-behind H m p e at flushed by

  pub within : (s : ℕ) → s ≤ suc p → MarkWithin B H m s (length (begun H m))
  within s le = go (mark-is H m 0 0)
    where
      low : s ≤ mark H m
      low = let b = behind in omega (arith, b, le)

      go : MarkAt H m 0 0 → MarkWithin B H m s (length (begun H m))
      go (Unmoved is) = absurd (let b = behind in omega (arith, b, is))
      go (Behind q x there f to is) =
          let same : suc q ≡ mark H m = omega (arith, is) in
          let t = (run-time H r.start r.first r.last r.run q x there).1 f in
          let lt = begun-reaches H r.start r.first r.last r.run m q x there (omega (arith, t, to)) in
          record {
            low = low;
            high = omega (arith, lt, same);
            begun = omega arith;
            faultless = subst (λ (n : ℕ). NoWriteFault (take n H)) same
                (run-faultless H r.start r.first r.last r.run q x there f);
          }

-- a name that stays from an entry on finds its file
module _ (B : Image) (H : List Entry1) (r : SaneRun B H) (m s : ℕ) (within : MarkWithin B H m s (length (begun H m)))
    (d dg i g b p : ℕ) (name : List ℕ)
    (l : Linked (λ x. Only (named_entry i g name) x) (files_before B H s) i g b (link_to d p dg))
    (agreed : Agreed (files_before B H s) d)
    (each : (q : ℕ) (e : Entry1) → s ≤ q → q < length (begun H m) → slice_get H q ≡ Some e
    → (W V : World) → W.files ≡ files_before B H q → IsSane W
    → Next W e V → Linked (λ x. Only (named_entry i g name) x) W.files i g b (link_to d p dg)
    → Guard (λ x. Only (named_entry i g name) x) W e (link_to d p dg)) where
  reach : (q : ℕ) → q < length (begun H m) → (e : Entry1) × (slice_get H q ≡ Some e)
  reach q lt = begun-get H m q lt

  only : (x : Entry) → Only (named_entry i g name) x → (x.inode ≡ i) × (x.generation ≡ g)
  only x e = (ap (λ (y : Entry). y.inode) e, ap (λ (y : Entry). y.generation) e)

  along : (q : ℕ) → s ≤ q → q ≤ length (begun H m)
      → Linked (λ x. Only (named_entry i g name) x) (files_before B H q) i g b (link_to d p dg)
  along = linked-along B H r s (length (begun H m)) reach (λ x. Only (named_entry i g name) x) i g b
      (link_to d p dg) only l each

  pub stays-found : (X : Image) → IsAllowed B H m X → Finds X d dg name i g
  stays-found X allowed = law-sure-name B H m X i g b (link_to d p dg) name allowed
      (chain-sure B H r m s (length (begun H m)) within reach d dg agreed (λ q low high. let k =
      along q low high in
      (k.parent, linked-filled (λ x. Only (named_entry i g name) x) (files_before B H q) i g b (link_to d p dg) k)))
      (sure-name B H m s (length (begun H m)) within (λ x. Only (named_entry i g name) x) i g b (link_to d p dg)
      (along (mark H m) within.low within.high)
      (stays-along B H r s (length (begun H m)) reach (λ x. Only (named_entry i g name) x) i g b
      (link_to d p dg) only l each) name (λ x e. e))

-- Two entries at one place

same-entry : (H : List Entry1) (p q : ℕ) (e h : Entry1) → p ≡ q → slice_get H p ≡ Some e
    → slice_get H q ≡ Some h → e ≡ h
same-entry H p q e h pq at there = let z : slice_get H p ≡ Some h = ap (slice_get H) pq ∙ there in cc (at, z)

get-before : (H : List Entry1) (p : ℕ) (e : Entry1) → slice_get H p ≡ Some e
    → (q : ℕ) → q < p → (h : Entry1) × (slice_get H q ≡ Some h)
get-before [] p e at q lt = cc at
get-before (x ∷ H) p e at zero lt = (x, refl)
get-before (x ∷ H) zero e at (suc q) lt = absurd (omega (arith, lt))
get-before (x ∷ H) (suc p) e at (suc q) lt = get-before H p e at q (omega (arith, lt))

-- Steps that are neither Rename nor Drop

abbrev is-plain : Step → Bool
is-plain (step.Rename d g old new) = false
is-plain (step.Drop d g name) = false
is-plain _ = true

no-rename : (s : Step) (d of : ℕ) (old new : List ℕ) → s ≡ step.Rename d of old new → is-plain s ≡ true → ⊥
no-rename s d of old new e plain = let z : is-plain s ≡ false = ap is-plain e in cc (z, plain)

no-drop : (s : Step) (d of : ℕ) (name : List ℕ) → s ≡ step.Drop d of name → is-plain s ≡ true → ⊥
no-drop s d of name e plain = let z : is-plain s ≡ false = ap is-plain e in cc (z, plain)

no-renaming : (s : Step) (d of : ℕ) (old new : List ℕ) (dir g : ℕ) (name : List ℕ) → s ≡ step.Rename d of old new
    → s ≡ step.Drop dir g name → ⊥
no-renaming s d of old new dir g name a b = cc (a, b)

module _ (B : Image) (H : List Entry1) (r : SaneRun B H) (d dg : ℕ) (name : List ℕ) (d2 dg2 : ℕ)
    (new : List ℕ) (i g : ℕ)
    (mv : IsMove B H d dg name d2 dg2 new i g) where
  at-look : Moment (λ W. IsSane W) (agreed_files B) H mv.look mv.looked.entry
  at-look = moment-at B H r mv.look mv.looked.entry mv.looked.there

  at-link : Moment (λ W. IsSane W) (agreed_files B) H mv.link mv.linking.entry
  at-link = moment-at B H r mv.link mv.linking.entry mv.linking.there

  -- the old name, before Look
  old : (b : ℕ)
      × Linked (λ x. Only (named_entry i g name) x) (files_before B H mv.look) i g b (link_to d mv.old_place dg) ×
      (mv.old_entry ≡ named_entry i g name)
  old =
      let m = at-look in
      let k = look-linked m.before m.after mv.looked.entry d dg i g mv.old_place name mv.kind mv.old_entry m.next
      mv.looked.is mv.finds
      (subst (λ (F : Files). found F d name ≡ Some mv.old_place) (sym m.files) mv.is_old)
      (subst (λ (F : Files). entry_at F d mv.old_place ≡ Some mv.old_entry) (sym m.files) mv.is_entry) in (
        k.0,
        subst (λ (F : Files). Linked (λ x. Only (named_entry i g name) x) F i g k.0
            (link_to d mv.old_place dg)) m.files k.1,
        k.2,
      )

  -- it stays over each entry before Drop
  old-guard : (b q : ℕ) (e : Entry1) → mv.look ≤ q → q ≤ mv.last → q < mv.drop → slice_get H q ≡ Some e
      → (W V : World) → W.files ≡ files_before B H q
      → IsSane W → Next W e V
      → Linked (λ x. Only (named_entry i g name) x) W.files i g b (link_to d mv.old_place dg)
      → Guard (λ x. Only (named_entry i g name) x) W e (link_to d mv.old_place dg)
  old-guard b q e low high nd at W V files sane next l = go (eqb q mv.look) refl (eqb q mv.link) refl
    where
      go : (x : Bool) → eqb q mv.look ≡ x → (y : Bool)
          → eqb q mv.link ≡ y → Guard (λ x. Only (named_entry i g name) x) W e (link_to d mv.old_place dg)
      go true ex y ey =
          let same = same-entry H q mv.look e mv.looked.entry (eqb-true q mv.look ex) at mv.looked.there in
          let es : e.step ≡ step.Look d dg name = ap (λ (z : Entry1). z.step) same ∙ mv.looked.is in
          plain-guard (named_entry i g name) W V e i g b (link_to d mv.old_place dg) sane next l
          (λ of o n h f. no-rename (e.step) d of o n h (ap is-plain es))
          (λ of n h f. no-drop (e.step) d of n h (ap is-plain es))
      go false ex true ey =
          let same = same-entry H q mv.link e mv.linking.entry (eqb-true q mv.link ey) at mv.linking.there in
          let es : e.step ≡ step.Link d2 dg2 new i g = ap (λ (z : Entry1). z.step) same ∙ mv.linking.is in
          plain-guard (named_entry i g name) W V e i g b (link_to d mv.old_place dg) sane next l
          (λ of o n h f. no-rename (e.step) d of o n h (ap is-plain es))
          (λ of n h f. no-drop (e.step) d of n h (ap is-plain es))
      go false ex false ey =
          let apart : q ≢ mv.look = λ h. let z = eq-eqb q mv.look h in cc (ex, z) in
          let elsewhere : q ≢ mv.link = λ h. let z = eq-eqb q mv.link h in cc (ey, z) in
          let kept = mv.old_stays q e (omega (arith, low, apart)) high elsewhere nd at in
          keeping-guard (named_entry i g name) W V e i g b (link_to d mv.old_place dg) sane l
          (subst (λ (F : Files). KeepsEntry (given_by F e) d dg mv.old_place (named_entry i g name)) (sym files)
          (subst (λ (x : Entry). KeepsEntry (given_by (files_before B H q) e) d dg mv.old_place x) old.2 kept))

  -- the new name, after Link
  fresh : (b : ℕ) × Linked (λ x. Only (named_entry i g new) x) (files_before B H (suc mv.link)) i g b
      (link_to d2 mv.new_place dg2) ×
      (is_some (found (files_before B H mv.link) d2 new) ≡ false)
  fresh =
      let m = at-link in
      let k = link-linked m.before m.after mv.linking.entry d2 dg2 i g mv.new_place new m.sane m.next
      mv.linking.is mv.linked
      (subst (λ (F : Files). Rattle.nofs_history.specs.Machine.place_for F d2 new ≡ Some mv.new_place)
      (sym m.files) mv.is_new) in (
        k.0,
        subst (λ (F : Files). Linked (λ x. Only (named_entry i g new) x) F i g k.0 (link_to d2 mv.new_place dg2))
            (files-after (λ W. IsSane W) r.keeps (agreed_files B) H mv.link mv.linking.entry mv.linking.there m) k.1,
        subst (λ (F : Files). is_some (found F d2 new) ≡ false) m.files k.2,
      )

  -- the two names differ, or their directories do
  differ : mv.link < mv.drop → d2 ≡ d → new ≡ name → ⊥
  differ before qd qn =
      let reach = λ (q : ℕ) (lt : q < mv.link). get-before H mv.link mv.linking.entry mv.linking.there q lt in
      let first = mv.flush_after in
      let second = mv.link_after in
      let by = mv.link_by_last in
      let l = linked-along B H r mv.look mv.link reach (λ x. Only (named_entry i g name) x) i g old.0
      (link_to d mv.old_place dg)
      (λ x e. (ap (λ (y : Entry). y.inode) e, ap (λ (y : Entry). y.generation) e)) old.1
      (λ q e low high at W V files sane next l. old-guard old.0 q e low (omega (arith, high, by))
      (omega (arith, high, before)) at W V files sane next l)
      mv.link (omega (arith, first, second)) (omega arith) in
      let paired = linked-paired (λ x. Only (named_entry i g name) x) (files_before B H mv.link) i g old.0
      (link_to d mv.old_place dg) l in
      let some = name-finds (files_before B H mv.link) d name mv.old_place l.entry l.there
      (ap (λ (x : Entry). x.name) l.passes) paired
      (linked-range (λ x. Only (named_entry i g name) x) (files_before B H mv.link) i g old.0
      (link_to d mv.old_place dg) l) in
      let none = fresh.2 in
      let none' : is_some (found (files_before B H mv.link) d name) ≡ false =
      subst (λ (x : ℕ). is_some (found (files_before B H mv.link) x name) ≡ false) qd
      (subst (λ (x : List ℕ). is_some (found (files_before B H mv.link) d2 x) ≡ false) qn none) in
      cc (some, none')

  -- the new name stays over each entry after Link
  new-guard : mv.link < mv.drop → (HasStep H mv.drop (step.Drop d dg name) ⊎ (mv.last < mv.drop))
      → (b q : ℕ) (e : Entry1) → suc mv.link ≤ q → q ≤ mv.last
      → slice_get H q ≡ Some e → (W V : World) → W.files ≡ files_before B H q → IsSane W → Next W e V
      → Linked (λ x. Only (named_entry i g new) x) W.files i g b (link_to d2 mv.new_place dg2)
      → Guard (λ x. Only (named_entry i g new) x) W e (link_to d2 mv.new_place dg2)
  new-guard before dropping b q e low high at W V files sane next l = go (eqb q mv.drop) refl
    where
      other : q ≢ mv.drop → Guard (λ x. Only (named_entry i g new) x) W e (link_to d2 mv.new_place dg2)
      other nd = keeping-guard (named_entry i g new) W V e i g b (link_to d2 mv.new_place dg2) sane l
          (subst (λ (F : Files). KeepsEntry (given_by F e) d2 dg2 mv.new_place (named_entry i g new)) (sym files)
          (mv.new_stays q e low high nd at))

      -- Drop is of the other name
      own : HasStep H mv.drop (step.Drop d dg name)
          → q ≡ mv.drop → Guard (λ x. Only (named_entry i g new) x) W e (link_to d2 mv.new_place dg2)
      own drop qd =
          let same = same-entry H q mv.drop e drop.entry qd at drop.there in
          let es : e.step ≡ step.Drop d dg name = ap (λ (z : Entry1). z.step) same ∙ drop.is in
          plain-guard (named_entry i g new) W V e i g b (link_to d2 mv.new_place dg2) sane next l
          (λ of o n h f. no-renaming e.step d2 of o n d dg name h es)
          (λ of n h f.
          let ed : d2 ≡ d = sym (ap directory-of h) ∙ ap directory-of es in
          let en : n ≡ name = sym (ap name-of h) ∙ ap name-of es in
          let nx = found-name W.files d2 n mv.new_place l.entry f l.there in
          differ before ed (sym (ap (λ (x : Entry). x.name) l.passes) ∙ nx ∙ en))

      go : (x : Bool) → eqb q mv.drop ≡ x → Guard (λ x. Only (named_entry i g new) x) W e (link_to d2 mv.new_place dg2)
      go false ex = other (λ h. let z = eq-eqb q mv.drop h in cc (ex, z))
      go true ex = elim dropping [
        | inl drop ↦ own drop (eqb-true q mv.drop ex)
        | inr late ↦ absurd (let h = eqb-true q mv.drop ex in omega (arith, h, late, high))
      ]

  -- no entry after the last has begun
  begun-last : (e : Entry1) → slice_get H mv.last ≡ Some e
      → (m : ℕ) → m ≤ e.to → (q : ℕ) → q < length (begun H m) → q ≤ mv.last
  begun-last e at m by q lt = elim (cases_lt mv.last q) [
    | inr le ↦ le
    | inl past ↦
        let x = begun-get H m q lt in
        let a = begun-before H m q x.0 x.1 lt in
        let c = run-order H r.start r.first r.last r.run mv.last q e x.0 at x.1 past in
        absurd (omega (arith, a, c, by))
  ]

  -- while Drop has not begun the old name finds the file
  find-old : (e : Entry1) → slice_get H mv.last ≡ Some e
      → (m : ℕ) → mv.flushed.entry.to ≤ m → m ≤ e.to → ((q : ℕ) → q < length (begun H m) → q < mv.drop)
      → (X : Image) → IsAllowed B H m X → Finds X d dg name i g
  find-old e at m from to undropped X allowed =
      let first = mv.flush_after in
      let w = within B H r m mv.flush mv.flushed.entry mv.flushed.there
      (flushed-is mv.flushed.entry mv.flushed.flushed) from mv.look (omega (arith, first)) in
      let x = at-look in
      let agreed : Agreed (files_before B H mv.look) d =
      subst (λ (F : Files). Agreed F d) x.files
      (x.sane.rooted d old.1.parent.file (ap (λ (F : Files). F d) x.files ∙ old.1.parent.is) old.1.parent.folder) in
      stays-found B H r m mv.look w d dg i g old.0 mv.old_place name old.1 agreed
      (λ q h low lt there W V files sane next l. old-guard old.0 q h low (begun-last e at m to q lt)
      (undropped q lt) there W V files sane next l) X allowed

  -- from the end of the second flush on the new one does
  find-new : (done : HasDrop H mv.link mv.drop d dg name) → (e : Entry1) → slice_get H mv.last ≡ Some e
      → (m : ℕ) → done.flushed.entry.to ≤ m → m ≤ e.to
      → (X : Image) → IsAllowed B H m X → Finds X d2 dg2 new i g
  find-new done e at m from to X allowed =
      let a = done.after_link in
      let c = done.before_drop in
      let w = within B H r m done.second done.flushed.entry done.flushed.there
      (flushed-is done.flushed.entry done.flushed.flushed) from (suc mv.link)
      (omega (arith, a)) in
      let x = at-link in
      let same = files-after (λ W. IsSane W) r.keeps (agreed_files B) H mv.link mv.linking.entry mv.linking.there x in
      let agreed : Agreed (files_before B H (suc mv.link)) d2 =
      subst (λ (F : Files). Agreed F d2) same
      (x.sane_after.rooted d2 fresh.1.parent.file (ap (λ (F : Files). F d2) same ∙ fresh.1.parent.is)
      fresh.1.parent.folder) in
      stays-found B H r m (suc mv.link) w d2 dg2 i g fresh.0 mv.new_place new fresh.1 agreed
      (λ q h low lt there W V files sane next l. new-guard (omega (arith, a, c)) (inl done.dropping) fresh.0 q h low
      (begun-last e at m to q lt)
      there W V files sane next l) X allowed

  find-one : DropIsLate H mv.link mv.drop mv.last d dg name → (e : Entry1) → slice_get H mv.last ≡ Some e
      → (m : ℕ) → mv.flushed.entry.to ≤ m → m ≤ e.to
      → (X : Image) → IsAllowed B H m X → Finds X d dg name i g ⊎ Finds X d2 dg2 new i g
  find-one (inl late) e at m from to X allowed =
      inl (find-old e at m from to (λ q lt. let le = begun-last e at m to q lt in omega (arith, le, late)) X allowed)
  find-one (inr done) e at m from to X allowed = elim (cases_lt m done.flushed.entry.to) [
    | inr le ↦ inr (find-new done e at m le to X allowed)
    | inl lt ↦ inl (find-old e at m from to (λ q begun. elim (cases_lt q mv.drop) [
      | inl before ↦ before
      | inr past ↦
          let x = begun-get H m q begun in
          let a = begun-before H m q x.0 x.1 begun in
          let c = done.before_drop in
          let o = run-order H r.start r.first r.last r.run done.second q done.flushed.entry x.0 done.flushed.there x.1
          (omega (arith, c, past)) in
          absurd (omega (arith, a, o, lt))
    ]) X allowed)
  ]

pub law-move : LawMove
law-move B H d dg name d2 dg2 new i g history mv late e at m from to X allowed =
    find-one B H.entries (sane-run B H history) d dg name d2 dg2 new i g mv late e at m from to X allowed

pub law-moved : LawMoved
law-moved B H d dg name d2 dg2 new i g history mv done e at m from to X allowed =
    find-new B H.entries (sane-run B H history) d dg name d2 dg2 new i g mv done e at m from to X allowed
