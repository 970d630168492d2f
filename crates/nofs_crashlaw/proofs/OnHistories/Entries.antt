-- The crash theorem over histories: what a step writes leaves each image allowed.
use Rattle.std.proofs.Common.{◌≡◌, ℕ, ◌+◌, true, List, [], ◌∷◌, ◌++◌, length, IsTrue, sym, ◌∙◌, subst, arith}
use Rattle.nofs_disk.specs.Disk.{DiskState, IsDisk, Picks, cell_at}
use Rattle.nofs_crashlaw.specs.Images.Reasons.{IsMark, IsKept}
use Rattle.nofs_crashlaw.specs.Histories.Laws.{LawStep}
use Rattle.nofs_crashlaw.specs.Histories.Stage.{LawSteady}
use Rattle.nofs_crashlaw.specs.Images.Moments.{during, AllExplained}
use Rattle.nofs_crashlaw.proofs.OnImages.Moments.{law-moment, law-images}
use Rattle.nofs_crashlaw.proofs.OnHistories.Marks.{since-grows, metas-grow, stands-shrinks, stands-now}
use Rattle.nofs_crashlaw.proofs.OnUntouched.Matches.{matched-file}
use Rattle.nofs_model.proofs.OnSlots.Find.{find-held}
use Rattle.nofs_crashlaw.proofs.OnImages.Steady.{kept-holds}
use Rattle.nofs_history.specs.Marks.{Mark, IsUnderWay, mark_at}
use Rattle.nofs_history.specs.declared.machine.history.Entry1.{Entry1}
use Rattle.nofs_history.specs.Machine.{given_by}
use Rattle.nofs_history.specs.Since.{agreed_files, files_along, stands}
use Rattle.nofs_history.specs.Allowed.{HasVersions, IsAllowed}
use Rattle.nofs_history.specs.Steady.{SteadyPointers}
use Rattle.nofs_history.proofs.Names.{names-stay}
use Rattle.nofs_disk.specs.declared.tag.Cell.{Cell}
use Rattle.nofs_model.specs.Geometry.{Image}
use Rattle.nofs_model.specs.Files.{files_in, agreed}

-- the mark with one more entry under way is the mark during what that entry gives
pub mark-during : (B : Image) (H : List Entry1) (e : Entry1) (l m : ℕ) (image : Image) (stamps : ℕ) → IsUnderWay H e l m
    → mark_at B (H ++ e ∷ []) m image stamps ≡ during (mark_at B H l image stamps)
    (given_by (files_along (agreed_files B) H) e)
mark-during B H e l m image stamps u = λ j. record {
  image = image;
  stamps = stamps;
  since = λ i g k. since-grows B H e l m u i g k j;
  metas = λ i g. metas-grow B H e l m u i g j;
  stands = λ i g. stands-shrinks B H e l m u i g j;
}

-- each image that picks from explained cells is allowed
pub allowed-image : (B : Image) (H : List Entry1) (m : ℕ) (image : Image) (stamps : ℕ) (may : ℕ → List Cell) (X : Image)
    → IsMark (mark_at B H m image stamps) → length image ≡ length B → cell_at image 0 ≡ cell_at B 0
    → AllExplained (mark_at B H m image stamps) may
    → Picks may (length image) X → IsAllowed B H m X
allowed-image B H m image stamps may X h size first all picks =
    let s = law-images (mark_at B H m image stamps) may X h all picks in
    let v : HasVersions B H m X = record {
      super = s.reads.super ∙ first;
      metas = s.reads.metas;
      values = s.reads.values;
      records = s.keeps.records;
      sure =
          s.keeps.values;
    } in
    record { len = picks.len ∙ size; versions = v; names = names-stay B H m X v }

-- the pointers of what is sure are the same in every image
pub steady-pointers : (B : Image) (H : List Entry1) (m : ℕ) (image : Image) (stamps : ℕ)
    (may : ℕ → List Cell) (X : Image)
    → IsMark (mark_at B H m image stamps) → AllExplained (mark_at B H m image stamps) may → Picks may (length image) X
    → SteadyPointers B H m may X
steady-pointers B H m image stamps may X h all px i g k path Y picks st lt sure above =
    let py : Picks may (length image) Y = subst (λ (n : ℕ). Picks may n Y) px.len picks in
    let kept : IsKept (mark_at B H m image stamps) i g path =
    record { stands = st; slot = k; range = lt; sure = sure; above = above } in
    let sx = (law-images (mark_at B H m image stamps) may X h all px).pointers i g path kept in
    let sy = (law-images (mark_at B H m image stamps) may Y h all py).pointers i g path kept in
    let held = kept-holds (mark_at B H m image stamps) h i g path kept in
    (find-held Y i path held.0 (sy ∙ held.1)).same ∙ sym (find-held X i path held.0 (sx ∙ held.1)).same

-- A step: where each cell that it may leave was there before it, or is a proper write, every image is allowed with the
-- step's entry under way, and steady.
pub step-allowed : LawStep
step-allowed B H e l m image stamps before after X p =
    let tracked : (i g : ℕ) → stands B H l i g ≡ true → agreed (files_in X) i ≡ true =
    λ i g s.
    (matched-file (files_along (agreed_files B) H) X i p.files (stands-now B H l i g p.under_way.all_begun s)).agreed in
    let r = law-moment (mark_at B H l image stamps)
    (given_by (files_along (agreed_files B) H) e) X before after p.mark p.pick tracked p.explained p.proper in
    let d = mark-during B H e l m image stamps p.under_way in
    let mark' : IsMark (mark_at B (H ++ e ∷ []) m image stamps) = subst IsMark (sym d) r.0 in
    let all' : AllExplained (mark_at B (H ++ e ∷ []) m image stamps) after =
    subst (λ (q : Mark). AllExplained q after) (sym d) r.1 in
    record {
      mark = mark';
      explained = all';
      allowed = λ Y picks. allowed-image B (H ++ e ∷ []) m image stamps after Y mark' p.size p.super all' picks;
      steady = λ Y picks. steady-pointers B (H ++ e ∷ []) m image stamps after Y mark' all' picks;
    }

-- what a read gives picks from what may be left
pub now-picks : (d : DiskState) (M : Image) → IsDisk d → IsTrue d.tells
    → length M ≡ d.blocks → Picks d.may (length M) d.now
now-picks d M is tells size =
    record { len = is.whole tells ∙ sym size; each = λ b lt. is.has_now b tells (omega (arith, lt, size)) }

pub law-steady : (d : DiskState) → LawSteady d
law-steady d B H M S start is tells l rest = record {
  pointers = steady-pointers B H (d.moment + 1) M S d.may d.now l.survives.mark l.survives.explained
      (now-picks d M is tells l.survives.size);
  rest = rest;
}
