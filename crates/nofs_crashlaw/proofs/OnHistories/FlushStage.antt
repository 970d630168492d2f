-- A flush that succeeds makes a new mark, from which the next step may begin.
use Rattle.nofs_super.specs.Geometry.{IsGeometry}
use Rattle.std.proofs.Common.{◌≡◌, ℕ, suc, ◌+◌, ◌%◌, ◌<◌, ◌≤◌, inl, inr, true, false, cond, is_some, append-nil, eqb}
use Rattle.std.proofs.Common.{if◌then◌else◌, leb, ◌&&◌, List, [], ◌∷◌}
use Rattle.std.proofs.Common.{◌++◌, length, Option, Some, None, IsTrue, Ok, refl, sym, ap, ◌∙◌, subst, arith, le_refl}
use Rattle.std.proofs.lemmas.Bool.{cases_lt}
use Rattle.nofs_disk.specs.Disk.{DiskState, IsDisk, IsSettled, Flushes, Picks, cell_at}
use Rattle.nofs_super.specs.declared.superblock.SuperBlock.{SuperBlock}
use Rattle.nofs_model.specs.Geometry.{Image, super_at, is_mountable, inode}
use Rattle.nofs_model.specs.Slots.{value}
use Rattle.nofs_model.specs.Files.{Files, FileState}
use Rattle.nofs_model.specs.Sound.{CellBelow}
use Rattle.nofs_model.proofs.OnSound.Writes.{supers, mountable-law}
use Rattle.nofs_crashlaw.specs.Images.Reasons.{IsMark}
use Rattle.nofs_crashlaw.specs.Images.Moments.{AllExplained}
use Rattle.nofs_crashlaw.proofs.OnImages.Moments.{law-images, law-flush}
use Rattle.nofs_history.specs.Meta.{meta_of}
use Rattle.nofs_history.specs.Marks.{Mark, mark_at, new_mark}
use Rattle.nofs_history.specs.Machine.{generation_of, nothing, gives, file_after, files_after}
use Rattle.nofs_history.specs.Since.{agreed_files, files_along, mark, mark_from, is_flushed, last_in, is_generation}
use Rattle.nofs_history.specs.Since.{values_given, metas_given}
use Rattle.nofs_history.specs.History.{FilesMatch, NoWriteFault}
use Rattle.nofs_history.specs.Allowed.{IsAllowed}
use Rattle.nofs_history.specs.Steady.{SteadyRest}
use Rattle.nofs_history.specs.declared.machine.history.Entry1.{Entry1}
use Rattle.nofs_crashlaw.proofs.OnLives.Images.{along-append, values-append, metas-append}
use Rattle.nofs_crashlaw.specs.Histories.Stage.{Stage, CellsSurvive, flush_entry, LawFlushStage}
use Rattle.nofs_crashlaw.proofs.OnImages.Below.{live-below, tag-below}
use Rattle.nofs_crashlaw.proofs.OnHistories.Flushes.{flushed}
use Rattle.nofs_crashlaw.proofs.OnHistories.Entries.{allowed-image, now-picks}
use Rattle.nofs_crashlaw.proofs.OnHistories.Later.{law-later}
use Rattle.nofs_crashlaw.proofs.OnHistories.NewMark.{mark-new}
use Rattle.nofs_crashlaw.proofs.OnHistories.Stages.{stage-keeps, by-more, by-append, begun-append, le-test}

not-le : (a b : ℕ) → b < a → leb a b ≡ false
not-le a b h = grind arith

mark-flushed : (H : List Entry1) (e : Entry1) (m at best : ℕ) → (is_flushed e.reply && leb e.to m) ≡ true
    → mark_from (H ++ e ∷ []) m at best ≡ at + length (H ++ e ∷ [])
mark-flushed [] e m at best t = rw t (omega arith)
mark-flushed (h ∷ H) e m at best t = mark-more (suc at) (length (H ++ e ∷ [])) at
    (mark-flushed H e m (suc at) (cond (is_flushed h.reply && leb h.to m) (suc at) best) t) refl
  where
    mark-more : {n : ℕ} (a l at : ℕ) → n ≡ a + l → a ≡ suc at → n ≡ at + suc l
    mark-more a l at e f = omega arith

-- nothing is given
pub files-stay : (F : Files) → files_after F nothing ≡ F
files-stay F = λ j i. same i (F i) j
  where
    same : (i : ℕ) (o : Option FileState) → file_after nothing i o ≡ o
    same i None = refl
    same i (Some f) = refl

module _ (B : Image) (H : List Entry1) (M : Image) (S start s caller i g : ℕ) (old new : DiskState)
    (is_old : IsDisk old) (is_new : IsDisk new)
    (tells : IsTrue old.tells)
    (st : Stage B H M S start s old) (f : Flushes old new (Ok tt)) (settled : IsSettled new)
    (mountable : is_mountable old.now ≡ true) (ok : NoWriteFault H)
    (rest : SteadyRest B H old.now) where
  F : Files
  F = files_along (agreed_files B) H

  pick : Picks old.may (length M) old.now
  pick = now-picks old M is_old tells st.ready.survives.size

  size : length old.now ≡ length B
  size = pick.len ∙ st.lasts.size

  first : cell_at old.now 0 ≡ cell_at B 0
  first = (law-images (mark_at B H (old.moment + 1) M S) old.may old.now st.ready.survives.mark
      st.ready.survives.explained pick).reads.super ∙ st.lasts.first

  geometry : IsGeometry (length old.now) (super_at old.now).blocks (super_at old.now).inodes
  geometry = let m = (mountable-law old.now).1 mountable in m.fits

  low : (b : ℕ) → b < (super_at old.now).blocks → b < old.blocks
  low b lt = let f = geometry in let w = is_old.whole tells in let g = f.fits in omega (arith, lt, w, g)

  now-below : (b : ℕ) → b < (super_at old.now).blocks → CellBelow s old.now b (cell_at old.now b)
  now-below b lt = st.ready.fresh b (cell_at old.now b) lt (is_old.has_now b tells (low b lt))

  quarters : (super_at old.now).inodes % 4 ≡ 0
  quarters =
      let same = supers M old.now (law-images (mark_at B H (old.moment + 1) M S)
      old.may old.now st.ready.survives.mark st.ready.survives.explained pick).reads.super in
      subst (λ (q : SuperBlock). q.inodes % 4 ≡ 0) (sym same) st.ready.survives.mark.quarters

  files-along : files_along (agreed_files B) (H ++ flush_entry caller old new i g ∷ []) ≡ files_along (agreed_files B) H
  unfolding gives
  files-along = along-append (agreed_files B) H (flush_entry caller old new i g ∷ [])
      ∙ files-stay (files_along (agreed_files B) H)

  no-values : (j h k : ℕ) → values_given (agreed_files B) (H ++ flush_entry caller old new i g ∷ []) j h k
      ≡ values_given (agreed_files B) H j h k
  unfolding gives
  no-values j h k = values-append (agreed_files B) H (flush_entry caller old new i g ∷ []) j h k
      ∙ append-nil (values_given (agreed_files B) H j h k)

  no-metas : (j h : ℕ)
      → metas_given (agreed_files B) (H ++ flush_entry caller old new i g ∷ []) j h ≡ metas_given (agreed_files B) H j h
  unfolding gives
  no-metas j h = metas-append (agreed_files B) H (flush_entry caller old new i g ∷ []) j h
      ∙ append-nil (metas_given (agreed_files B) H j h)

  new-same : new_mark B (H ++ flush_entry caller old new i g ∷ []) old.now s ≡ new_mark B H old.now s
  new-same = λ j. record {
    image = old.now;
    stamps = s;
    since = λ a h k. last_in ((if is_generation B a h then value B a k ∷ [] else []) ++ no-values a h k j);
    metas = λ a h. last_in ((if is_generation B a h then meta_of (inode B a) ∷ [] else []) ++ no-metas a h j);
    stands = λ a h. is_some (files-along j a) && (eqb (generation_of (files-along j) a) h);
  }

  all-through : (m : ℕ)
      → new.moment ≤ m → mark_at B (H ++ flush_entry caller old new i g ∷ []) m old.now s ≡ new_mark B H old.now s
  all-through m le =
      let t : leb new.moment m ≡ true = le-test new.moment m le in
      let place : mark (H ++ flush_entry caller old new i g ∷ []) m
      ≡ length (H ++ flush_entry caller old new i g ∷ []) = let r =
      mark-flushed H (flush_entry caller old new i g) m 0 0 t in omega (arith, r) in
      mark-new B (H ++ flush_entry caller old new i g ∷ []) m old.now s place
      (begun-append H (flush_entry caller old new i g) old.moment m
      (let q = f.moment in omega arith) st.lasts.by (let q = f.moment in omega arith))
      ∙ new-same

  fresh-mark : IsMark (new_mark B H old.now s)
  fresh-mark = flushed B H old.now s ok st.ready.files rest st.ready.positive quarters
      (live-below old.now s (super_at old.now).blocks now-below (le_refl (super_at old.now).blocks)
      (let g = geometry in g.table))
      (tag-below old.now s (super_at old.now).blocks now-below (le_refl (super_at old.now).blocks))

  mark-again : (m : ℕ) → new.moment ≤ m → IsMark (mark_at B (H ++ flush_entry caller old new i g ∷ []) m old.now s)
  mark-again m le = subst (λ (q : Mark). IsMark q) (sym (all-through m le)) fresh-mark

  explained-again : (m : ℕ)
      → new.moment ≤ m → AllExplained (mark_at B (H ++ flush_entry caller old new i g ∷ []) m old.now s) new.may
  explained-again m le =
      law-flush (mark_at B (H ++ flush_entry caller old new i g ∷ []) m old.now s) new.may (mark-again m le)
      (λ b c has. elim (cases_lt b new.blocks) [
        | inl lt ↦ settled b c lt has ∙ ap (λ (X : Image). cell_at X b) f.now
        | inr past ↦ absurd (is_new.beyond b c past has)
      ])

  pub flush-survives : CellsSurvive new
      (mark_at B (H ++ flush_entry caller old new i g ∷ []) (new.moment + 1) old.now s)
  flush-survives = record {
    mark = mark-again (new.moment + 1) (omega arith);
    size = is_old.whole tells ∙ sym f.disk.blocks;
    explained =
        explained-again (new.moment + 1) (omega arith);
  }

  images : (m : ℕ) (X : Image) → start ≤ m → m ≤ new.moment → new.left m X
      → IsAllowed B (H ++ flush_entry caller old new i g ∷ []) m X
  images m X low high left = elim (cases_lt m (old.moment + 1)) [
    | inl before ↦ law-later B H (flush_entry caller old new i g ∷ []) m X
        ((omega arith), (λ e. let q = f.moment in omega arith), tt)
        (st.lasts.images.each m X low (omega arith) (f.past.no_more m X (omega arith) left))
    | inr after ↦ elim (cases_lt m new.moment) [
      | inl mid ↦ during-image (let q = f.moment in omega arith)
      | inr top ↦ end-image (omega arith)
    ]
  ]
    where
      during-image : m ≡ old.moment + 1 → IsAllowed B (H ++ flush_entry caller old new i g ∷ []) m X
      during-image e =
          let L : ℕ → Type 0 = λ n. new.left n X in
          let p = f.during X (subst L e left) in
          let late : leb new.moment m ≡ false = not-le new.moment m (let q = f.moment in omega arith) in
          (stage-keeps B H (flush_entry caller old new i g) M S start s old is_old tells st m
          (omega arith) refl late old.may (λ b c has. inl has)).allowed X
          (record {
            len = p.len ∙ sym st.ready.survives.size;
            each = λ b lt. p.each b (let q = st.ready.survives.size in omega (arith, lt, q));
          })

      end-image : m ≡ new.moment → IsAllowed B (H ++ flush_entry caller old new i g ∷ []) m X
      end-image e =
          let L : ℕ → Type 0 = λ n. new.left n X in
          let p = is_new.at_rest X (subst L e left) in
          let w = is_old.whole tells in
          let same = f.disk.blocks in
          allowed-image B (H ++ flush_entry caller old new i g ∷ []) m old.now s new.may X
          (mark-again m (omega arith)) size first
          (explained-again m (omega arith))
          (record { len = p.len ∙ same ∙ sym w; each = λ b lt. p.each b (omega (arith, lt, w, same)) })

  -- after a flush the next step may begin, from the new mark
  pub flush-stage : Stage B (H ++ flush_entry caller old new i g ∷ []) old.now s start s new
  flush-stage = record {
    lasts = record {
      size = size;
      first = first;
      by = by-append H (flush_entry caller old new i g) new.moment
          (by-more H old.moment new.moment (let q = f.moment in omega arith) st.lasts.by) (let q =
          f.moment in omega arith) (omega arith);
      survives = flush-survives;
      images = record { begun = (let a = st.lasts.images.begun in let q = f.moment in omega arith); each = images };
    };
    ready = record {
      files = subst (λ (E : Files). FilesMatch E new.now) (sym files-along)
          (subst (λ (X : Image). FilesMatch (files_along (agreed_files B) H) X) (sym f.now) st.ready.files);
      survives = flush-survives;
      positive = st.ready.positive;
      fresh = λ b c lt has.
          let lt_old : b < (super_at old.now).blocks = subst (λ (X : Image). b < (super_at X).blocks) f.now lt in
          subst (λ (X : Image). CellBelow s X b c) (sym f.now)
          (st.ready.fresh b c lt_old (f.may b c (low b lt_old) has));
    };
  }

pub law-flush-stage : (old new : DiskState) → LawFlushStage old new
law-flush-stage old new B H M S start s caller i g p =
    flush-stage B H M S start s caller i g old new p.before p.after p.tells p.stage p.flushes
    p.flushes.settled p.mountable p.no_fault p.rest
