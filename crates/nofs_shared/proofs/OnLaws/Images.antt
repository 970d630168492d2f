-- Each image that picks from what may be left is allowed now, where every entry began before now.
use Rattle.std.proofs.Common.{◌≡◌, ℕ, ◌+◌, ◌<◌, ◌⊎◌, inl, inr, eqb, ◌&&◌, not, is_some, List, [], ◌∷◌, ◌++◌, take, drop}
use Rattle.std.proofs.Common.{sym, ◌∙◌, subst, arith, le_refl}
use Rattle.std.specs.List.{list_any}
use Rattle.nofs_disk.specs.Disk.{DiskState, Picks}
use Rattle.nofs_model.specs.Geometry.{Image}
use Rattle.nofs_crashlaw.specs.Images.Moments.{AllExplained}
use Rattle.nofs_crashlaw.specs.Images.Reasons.{IsMark}
use Rattle.nofs_history.specs.Allowed.{IsAllowed}
use Rattle.nofs_history.specs.Since.{agreed_files, begun, files_along, mark, values_given, metas_given}
use Rattle.nofs_history.specs.Marks.{mark_at, Mark}
use Rattle.nofs_history.specs.Since.{accepted_of, accepted_meta_of, last_in}
use Rattle.nofs_history.specs.Machine.{generation_of}
use Rattle.nofs_history.specs.Meta.{is_gone}
use Rattle.nofs_history.specs.declared.machine.history.Entry1.{Entry1}
use Rattle.nofs_crashlaw.proofs.OnHistories.Entries.{allowed-image}
use Rattle.nofs_crashlaw.proofs.OnHistories.Stages.{all-begun, begun-append, same-marks}
use Rattle.nofs_crashlaw.specs.Histories.Stage.{AllBy, Lasts}
use Rattle.nofs_state.specs.Cores.Invariant.{IsOpen, IsStopped, Past}
use Rattle.nofs_state.specs.declared.books.maps.Books.{Books}

-- the mark of two moments at which the same entries have begun and the same flush was the last
same-mark : (B : Image) (H : List Entry1) (m n : ℕ) (image : Image) (stamps : ℕ) → begun H m ≡ begun H n
    → mark H m ≡ mark H n
    → mark_at B H m image stamps ≡ mark_at B H n image stamps
same-mark B H m n image stamps b e = λ j. record {
  image = image;
  stamps = stamps;
  since = λ i g k. last_in (accepted_of B (take (e j) H) i g k)
      ++ values_given (files_along (agreed_files B) (take (e j) H)) (drop (e j) (b j)) i g k;
  metas = λ i g. last_in (accepted_meta_of B (take (e j) H) i g)
      ++ metas_given (files_along (agreed_files B) (take (e j) H)) (drop (e j) (b j)) i g;
  stands = λ i g. is_some (files_along (agreed_files B) (take (e j) H) i)
      && (eqb (generation_of (files_along (agreed_files B) (take (e j) H)) i) g
      && not (list_any is_gone (metas_given (files_along (agreed_files B) (take (e j) H)) (drop (e j) (b j)) i g)));
}

-- what lasts now, as it was at this moment
pub rests-at : (B : Image) (H : List Entry1) (M : Image) (S start : ℕ) (d : DiskState)
    → begun H d.moment ≡ H → AllBy H d.moment → Lasts B H M S start d
    → (X : Image) → Picks d.may d.blocks X → IsAllowed B H d.moment X
rests-at B H M S start d all by l X picks =
    let now : begun H d.moment ≡ begun H (d.moment + 1) =
    all ∙ sym (all-begun H d.moment (d.moment + 1) (omega arith) by) in
    let marks : mark H d.moment ≡ mark H (d.moment + 1) =
    same-marks H d.moment (d.moment + 1) d.moment 0 0 (omega arith) (le_refl d.moment) by in
    let e = sym (same-mark B H d.moment (d.moment + 1) M S now marks) in
    allowed-image B H d.moment M S d.may X (subst IsMark e l.survives.mark) l.size l.first
    (subst (λ (q : Mark). AllExplained q d.may) e l.survives.explained)
    (subst (λ (n : ℕ). Picks d.may n X) (sym l.survives.size) picks)

-- after a step that took time
pub rests-later : (H : List Entry1) (e : Entry1) (n : ℕ) (d : DiskState) → AllBy H n
    → n < d.moment → e.from ≡ n → {l : Books} (q : Past)
    → IsOpen d l (H ++ e ∷ []) q ⊎ IsStopped d l (H ++ e ∷ []) q
    → (X : Image) → Picks d.may d.blocks X → IsAllowed q.base (H ++ e ∷ []) d.moment X
rests-later H e n d by later from q now = go now
  where
    all : begun (H ++ e ∷ []) d.moment ≡ H ++ e ∷ []
    all = begun-append H e n d.moment later by (omega (arith, from, later))

    go : {l : Books} → IsOpen d l (H ++ e ∷ []) q ⊎ IsStopped d l (H ++ e ∷ []) q → (X : Image) → Picks d.may d.blocks X
        → IsAllowed q.base (H ++ e ∷ []) d.moment X
    go {l = l} (inl o) =
        rests-at q.base (H ++ e ∷ []) q.mark q.stamps l.history.start d all o.stage.lasts.by o.stage.lasts
    go {l = l} (inr o) = rests-at q.base (H ++ e ∷ []) q.mark q.stamps l.history.start d all o.lasts.by o.lasts
