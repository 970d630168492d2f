-- Where the last entry that has begun flushed, the mark of the moment is the new mark.
use Rattle.std.proofs.Common.{◌≡◌, ℕ, Bool, true, false, eqb, ◌&&◌, not, List, [], ◌++◌, length, take, drop, is_some}
use Rattle.std.proofs.Common.{refl, ap, ◌∙◌, le_refl, append-nil, take_all, drop_of_length-le}
use Rattle.std.specs.List.{list_any}
use Rattle.nofs_history.specs.Meta.{is_gone}
use Rattle.nofs_history.specs.declared.machine.history.Entry1.{Entry1}
use Rattle.nofs_history.specs.Machine.{generation_of}
use Rattle.nofs_history.specs.Since.{agreed_files, files_along, values_given, metas_given, accepted_of}
use Rattle.nofs_history.specs.Since.{accepted_meta_of, last_in, begun, mark}
use Rattle.nofs_history.specs.Since.{before_mark, since_mark, since, since_meta, stands}
use Rattle.nofs_history.specs.Marks.{mark_at, new_mark}
use Rattle.nofs_model.specs.Geometry.{Image}

and-true : (a b : Bool) → (a && (b && true)) ≡ (a && b)
and-true true true = refl
and-true true false = refl
and-true false b = refl

pub mark-new : (B : Image) (H : List Entry1) (m : ℕ) (image : Image) (stamps : ℕ) → mark H m ≡ length H → begun H m ≡ H
    → mark_at B H m image stamps ≡ new_mark B H image stamps
mark-new B H m image stamps place all = λ j. record {
  image = image;
  stamps = stamps;
  since = λ i g k. values i g k j;
  metas = λ i g. metas i g j;
  stands =
      λ i g. still i g j;
}
  where
    before : before_mark H m ≡ H
    before = ap (λ (n : ℕ). take n H) place ∙ take_all (length H) H (le_refl (length H))

    after : since_mark H m ≡ []
    after = ap (λ (n : ℕ). drop n (begun H m)) place ∙ ap (λ (es : List Entry1). drop (length H) es) all
        ∙ drop_of_length-le H (le_refl (length H))

    values : (i g k : ℕ) → since B H m i g k ≡ last_in (accepted_of B H i g k)
    values i g k = (λ j. last_in (accepted_of B (before j) i g k)
        ++ values_given (files_along (agreed_files B) (before j)) (after j) i g k)
        ∙ append-nil (last_in (accepted_of B H i g k))

    metas : (i g : ℕ) → since_meta B H m i g ≡ last_in (accepted_meta_of B H i g)
    metas i g = (λ j. last_in (accepted_meta_of B (before j) i g)
        ++ metas_given (files_along (agreed_files B) (before j)) (after j) i g)
        ∙ append-nil (last_in (accepted_meta_of B H i g))

    still : (i g : ℕ) → stands B H m i g
        ≡ (is_some (files_along (agreed_files B) H i) && eqb (generation_of (files_along (agreed_files B) H) i) g)
    still i g = (λ j. is_some (files_along (agreed_files B) (before j) i)
        && (eqb (generation_of (files_along (agreed_files B) (before j)) i) g
        && not (list_any is_gone (metas_given (files_along (agreed_files B) (before j)) (after j) i g))))
        ∙ and-true (is_some (files_along (agreed_files B) H i))
        (eqb (generation_of (files_along (agreed_files B) H) i) g)
