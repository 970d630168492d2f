-- Any step: where all that it puts on the disk is proper, every image at every moment is allowed.
use Rattle.std.proofs.Common.{◌≡◌, ℕ, suc, ◌+◌, ◌<◌, ◌≤◌, inl, inr, Bool, true, false, cond, ltb, ltb-true, leb, zero}
use Rattle.std.proofs.Common.{◌&&◌, List, [], ◌∷◌, ◌++◌, length}
use Rattle.std.proofs.Common.{IsTrue, refl, sym, ap, ◌∙◌, subst, subst₂, arith, Contains}
use Rattle.std.proofs.lemmas.Bool.{cases_lt}
use Rattle.nofs_disk.specs.Disk.{DiskState, IsDisk, Picks, cell_at}
use Rattle.nofs_disk.specs.Moments.{AtEach}
use Rattle.nofs_disk.specs.Adds.{Adds, WasOr, Adds-stays}
use Rattle.nofs_disk.specs.declared.tag.Cell.{Cell}
use Rattle.nofs_model.specs.Geometry.{Image, super_at}
use Rattle.nofs_model.specs.Files.{Files}
use Rattle.nofs_model.specs.Sound.{CellBelow}
use Rattle.nofs_crashlaw.specs.Images.Proper.{Proper}
use Rattle.nofs_crashlaw.specs.Images.Moments.{during, OnlyProper}
use Rattle.nofs_history.specs.Machine.{given_by, files_by}
use Rattle.nofs_history.specs.History.{FilesMatch}
use Rattle.nofs_history.specs.Since.{agreed_files, files_along, mark_from, begun, is_flushed}
use Rattle.nofs_history.specs.Marks.{mark_at, IsUnderWay}
use Rattle.nofs_history.specs.Allowed.{IsAllowed}
use Rattle.nofs_history.specs.declared.machine.history.Entry1.{Entry1}
use Rattle.nofs_crashlaw.proofs.OnLives.Images.{along-append}
use Rattle.nofs_crashlaw.proofs.OnUntouched.Matches.{matched-file}
use Rattle.nofs_crashlaw.proofs.OnHistories.Entries.{step-allowed, now-picks}
use Rattle.nofs_crashlaw.proofs.OnHistories.Later.{law-later, mark-within}
use Rattle.nofs_crashlaw.proofs.OnHistories.Marks.{stands-now}
use Rattle.nofs_crashlaw.specs.Histories.Laws.{StepKeeps}
use Rattle.nofs_crashlaw.specs.Histories.Stage.{AllBy, HasFiles, Lasts, Stage, CellsSurvive, LawLasts, LawStage}
use Rattle.nofs_crashlaw.specs.Histories.Stage.{LawIdleStage, LawTracked}

-- the cell of the image alone
abbrev these : Image → ℕ → ℕ → List Cell
these X n b = cond (ltb b n) (cell_at X b ∷ []) []

pub ltb-from : (a b : ℕ) → a < b → ltb a b ≡ true
ltb-from a b h = grind arith

pub all-begun : (H : List Entry1) (n m : ℕ) → n < m → AllBy H n → begun H m ≡ H
all-begun [] n m lt by = refl
all-begun (e ∷ es) n m lt by =
    let low : e.from < m = let a = by.0 in omega arith in
    let t : ltb e.from m ≡ true = lt-test e.from m low in
    rw t (ap (λ q. e ∷ q) (all-begun es n m lt by.2))
  where
    lt-test : (a b : ℕ) → a < b → ltb a b ≡ true
    lt-test a b h = grind arith

pub le-test : (a b : ℕ) → a ≤ b → leb a b ≡ true
le-test a b h = grind arith

pub same-marks : (H : List Entry1) (n l m at best : ℕ) → n ≤ l → n ≤ m → AllBy H n
    → mark_from H m at best ≡ mark_from H l at best
same-marks [] n l m at best hl hm by = refl
same-marks (e ∷ es) n l m at best hl hm by =
    let a : leb e.to m ≡ true = le-test e.to m (let x = by.1 in omega arith) in
    let b : leb e.to l ≡ true = le-test e.to l (let x = by.1 in omega arith) in
    rw (a, b) (same-marks es n l m (suc at) (cond (is_flushed e.reply && true) (suc at) best) hl hm by.2)

pub by-more : (H : List Entry1) (n m : ℕ) → n ≤ m → AllBy H n → AllBy H m
by-more [] n m le by = tt
by-more (e ∷ es) n m le by = ((let a = by.0 in omega arith), (let a = by.1 in omega arith), by-more es n m le by.2)

pub by-append : (H : List Entry1) (e : Entry1) (m : ℕ) → AllBy H m → e.from ≤ m → e.to ≤ m → AllBy (H ++ e ∷ []) m
by-append [] e m by from to = (from, to, tt)
by-append (h ∷ H) e m by from to = (by.0, by.1, by-append H e m by.2 from to)

pub begun-append : (H : List Entry1) (e : Entry1) (n m : ℕ) → n < m → AllBy H n
    → e.from < m → begun (H ++ e ∷ []) m ≡ H ++ e ∷ []
begun-append [] e n m lt by low = let t : ltb e.from m ≡ true = lt-test e.from m low in rw t refl
  where
    lt-test : (a b : ℕ) → a < b → ltb a b ≡ true
    lt-test a b h = grind arith
begun-append (h ∷ H) e n m lt by low =
    let t : ltb h.from m ≡ true = lt-test h.from m (let a = by.0 in omega arith) in
    rw t (ap (λ q. h ∷ q) (begun-append H e n m lt by.2 low))
  where
    lt-test : (a b : ℕ) → a < b → ltb a b ≡ true
    lt-test a b h = grind arith

pub mark-plain : (H : List Entry1) (e : Entry1) (m at best : ℕ) → (is_flushed e.reply && leb e.to m) ≡ false
    → mark_from (H ++ e ∷ []) m at best ≡ mark_from H m at best
mark-plain [] e m at best plain = rw plain refl
mark-plain (h ∷ H) e m at best plain =
    mark-plain H e m (suc at) (cond (is_flushed h.reply && leb h.to m) (suc at) best) plain

-- what a step keeps that begins from a stage, at a moment of it before any flush is done
pub stage-keeps : (B : Image) (H : List Entry1) (e : Entry1) (M : Image) (S start s : ℕ) (old : DiskState) → IsDisk old
    → IsTrue old.tells
    → Stage B H M S start s old → (m : ℕ)
    → old.moment < m → e.from ≡ old.moment → (is_flushed e.reply && leb e.to m) ≡ false → (after : ℕ → List Cell)
    → OnlyProper (during (mark_at B H (old.moment + 1) M S) (given_by (files_along (agreed_files B) H) e))
    old.now old.may after
    → StepKeeps B H e (old.moment + 1) m M S after
stage-keeps B H e M S start s old is_old tells st m lt from plain after proper =
    let under_way : IsUnderWay H e (old.moment + 1) m = record {
      all_begun = all-begun H old.moment (old.moment + 1) (omega arith) st.lasts.by;
      begun_now = begun-append H e old.moment m lt st.lasts.by (omega arith);
      same_mark = mark-plain H e m 0 0 plain
          ∙ same-marks H old.moment (old.moment + 1) m 0 0 (omega arith) (omega arith) st.lasts.by;
      mark_within = (let w = mark-within H (old.moment + 1) 0 0 (omega arith) in omega (arith, w));
    } in
    step-allowed B H e (old.moment + 1) m M S old.may after old.now (record {
      under_way = under_way;
      mark = st.ready.survives.mark;
      size = st.lasts.size;
      super = st.lasts.first;
      explained = st.ready.survives.explained;
      pick = now-picks old M is_old tells st.ready.survives.size;
      files = st.ready.files;
      proper = proper;
    })

module _ (B : Image) (H : List Entry1) (e : Entry1) (M : Image) (S start s : ℕ) (old new : DiskState)
    (is_old : IsDisk old) (tells : IsTrue old.tells)
    (st : Stage B H M S start s old)
    (from : e.from ≡ old.moment) (to : e.to ≡ new.moment) (plain : is_flushed e.reply ≡ false)
    (adds : Adds (Proper (during (mark_at B H (old.moment + 1) M S) (given_by (files_along (agreed_files B) H) e))
    old.now) old new) where
  keeps-at : (m : ℕ) → old.moment < m → (after : ℕ → List Cell)
      → OnlyProper (during (mark_at B H (old.moment + 1) M S) (given_by (files_along (agreed_files B) H) e))
      old.now old.may after
      → StepKeeps B H e (old.moment + 1) m M S after
  keeps-at m lt = stage-keeps B H e M S start s old is_old tells st m lt from (λ j. plain j && leb e.to m)

  pub survives-step : CellsSurvive new (mark_at B (H ++ e ∷ []) (new.moment + 1) M S)
  survives-step =
      let r = keeps-at (new.moment + 1) (let q = adds.later in omega arith) new.may adds.cells in
      record { mark = r.mark; size = st.ready.survives.size ∙ sym adds.disk.blocks; explained = r.explained }

  -- an image that is left during the step
  new-image : (m : ℕ) (X : Image) → old.moment < m → m ≤ new.moment → new.left m X → IsAllowed B (H ++ e ∷ []) m X
  new-image m X low high left = (keeps-at m low (these X old.blocks) only).allowed X picks
    where
      got : (length X ≡ old.blocks) × ((b : ℕ) → b < old.blocks
          → WasOr (Proper (during (mark_at B H (old.moment + 1) M S) (given_by (files_along (agreed_files B) H) e))
          old.now) old b (cell_at X b))
      got = adds.left m X low high left

      only-at : (b : ℕ) (c : Cell) (t : Bool) → ltb b old.blocks ≡ t → Contains (cond t (cell_at X b ∷ []) []) c
          → WasOr (Proper (during (mark_at B H (old.moment + 1) M S) (given_by (files_along (agreed_files B) H) e))
          old.now) old b c
      only-at b c false t has = absurd (none has)
        where
          none : Contains [] c → ⊥
          none (k, low, is) = omega arith
      only-at b c true t has =
          let lt : b < old.blocks = ltb-true b old.blocks t in
          let same : c ≡ cell_at X b = one has in
          subst (λ (q : Cell). WasOr (Proper
          (during (mark_at B H (old.moment + 1) M S) (given_by (files_along (agreed_files B) H) e)) old.now) old b q)
          (sym same) (got.1 b lt)
        where
          one : Contains (cell_at X b ∷ []) c → c ≡ cell_at X b
          one (suc k, low, is) = absurd (omega arith)
          one (zero, low, is) = sym is

      only : OnlyProper (during (mark_at B H (old.moment + 1) M S) (given_by (files_along (agreed_files B) H) e))
          old.now old.may (these X old.blocks)
      only b c has = only-at b c (ltb b old.blocks) refl has

      picks : Picks (these X old.blocks) (length M) X
      picks = record {
        len = got.0 ∙ sym st.ready.survives.size;
        each = λ b lt.
            let t : ltb b old.blocks ≡ true =
            ltb-from b old.blocks (let q = st.ready.survives.size in omega (arith, lt, q)) in
            subst (λ (v : Bool). Contains (cond v (cell_at X b ∷ []) []) (cell_at X b)) (sym t) (0, omega arith, refl);
      }

  pub images-step : AtEach (λ m X. IsAllowed B (H ++ e ∷ []) m X) start new
  images-step = record {
    begun = (let a = st.lasts.images.begun in let b = adds.later in omega arith);
    each = λ m X low high left. elim (cases_lt old.moment m) [
      | inl beyond ↦ new-image m X beyond high left
      | inr within ↦ law-later B H (e ∷ []) m X ((omega arith), (λ f. cc (f, plain)), tt)
          (st.lasts.images.each m X low within (adds.past.no_more m X within left))
    ];
  }

  -- whatever the step did, all that a crash may leave is allowed
  pub lasts-step : Lasts B (H ++ e ∷ []) M S start new
  lasts-step = record {
    size = st.lasts.size;
    first = st.lasts.first;
    by = by-append H e new.moment (by-more H old.moment new.moment adds.later st.lasts.by)
        (let q = adds.later in omega arith) (omega arith);
    survives = survives-step;
    images = images-step;
  }

  -- where the files are those after the step, the next step may begin
  pub stage-step : (t : ℕ) → HasFiles new (files_by (files_along (agreed_files B) H) e) t
      → Stage B (H ++ e ∷ []) M S start t new
  stage-step t has = record {
    lasts = lasts-step;
    ready = record {
      files = subst (λ (F : Files). FilesMatch F new.now) (sym (along-append (agreed_files B) H (e ∷ []))) has.files;
      survives = survives-step;
      positive = has.positive;
      fresh = has.fresh;
    };
  }

-- The laws

pub law-lasts : (old new : DiskState) → LawLasts old new
law-lasts old new B H e M S start s p adds =
    lasts-step B H e M S start s old new p.disk p.tells p.stage p.from p.to p.no_flush adds

pub law-stage : (old new : DiskState) → LawStage old new
law-stage old new B H e M S start s t p adds ready =
    stage-step B H e M S start s old new p.disk p.tells p.stage p.from p.to p.no_flush adds t ready

pub law-idle-stage : (old new : DiskState) → LawIdleStage old new
law-idle-stage old new B H e M S start s p stays files =
    law-stage old new B H e M S start s s p
    (Adds-stays (Proper (during (mark_at B H (old.moment + 1) M S) (given_by (files_along (agreed_files B) H) e))
    old.now) old new stays)
    (record {
      files = subst₂ (λ (F : Files) (X : Image). FilesMatch F X) (sym files) (sym stays.cells.now) p.stage.ready.files;
      positive = p.stage.ready.positive;
      fresh = λ b c lt has. subst (λ (X : Image). CellBelow s X b c) (sym stays.cells.now)
          (p.stage.ready.fresh b c (subst (λ (X : Image). b < (super_at X).blocks) stays.cells.now lt)
          (subst (λ (may : ℕ → List Cell). Contains (may b) c) stays.cells.may has));
    })

pub law-tracked : (d : DiskState) → LawTracked d
law-tracked old B H M S start s st i g stood = (matched-file (files_along (agreed_files B) H) old.now i st.ready.files
    (stands-now B H (old.moment + 1) i g
    (all-begun H old.moment (old.moment + 1) (omega arith) st.lasts.by) stood)).agreed
