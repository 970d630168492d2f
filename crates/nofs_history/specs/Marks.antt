-- The tools of the proof of what a crash may leave: the mark, as a record of what may be read since it, and a step
-- under way.
use Rattle.std.specs.Prelude.{◌≡◌, ℕ, ◌≤◌, Bool, ◌&&◌, List, [], ◌∷◌, ◌++◌, length, is_some, ◌==◌}
use Rattle.nofs_model.specs.Geometry.{Image}
use Rattle.nofs_model.specs.declared.image.value.Value.{Value}
use Rattle.nofs_history.specs.Meta.{Meta}
use Rattle.nofs_history.specs.Machine.{generation_of}
use Rattle.nofs_history.specs.Since.{agreed_files, files_along, accepted_of, accepted_meta_of, last_in, begun, mark}
use Rattle.nofs_history.specs.Since.{since, since_meta, stands}
use Rattle.nofs_history.specs.declared.machine.history.Entry1.{Entry1}

-- The mark: the image at it, a bound above its stamps, and what may be read since.
pub record Mark : Type 0 where
  pub image : Image
  pub stamps : ℕ
  pub since : ℕ → ℕ → ℕ → List Value
  pub metas : ℕ → ℕ → List Meta
  -- this generation was agreed at the mark, and nothing has removed it since
  pub stands : ℕ → ℕ → Bool

-- the mark of this moment, with the image at it and a bound above its stamps
abbrev pub mark_at : Image → List Entry1 → ℕ → Image → ℕ → Mark
mark_at B H m image stamps = record {
  image = image;
  stamps = stamps;
  since = λ i g k. since B H m i g k;
  metas = λ i g. since_meta B H m i g;
  stands = λ i g. stands B H m i g;
}

-- the mark that a flush makes now
abbrev pub new_mark : Image → List Entry1 → Image → ℕ → Mark
new_mark B H image stamps = record {
  image = image;
  stamps = stamps;
  since = λ i g k. last_in (accepted_of B H i g k);
  metas = λ i g. last_in (accepted_meta_of B H i g);
  stands = λ i g. is_some (files_along (agreed_files B) H i) && (generation_of (files_along (agreed_files B) H) i == g);
}

-- moment m lies in the step of e, and moment l before it: all that stands had begun, and the mark is the same
pub record IsUnderWay (H : List Entry1) (e : Entry1) (l m : ℕ) : Type 0 where
  pub all_begun : begun H l ≡ H
  pub begun_now : begun (H ++ e ∷ []) m ≡ H ++ e ∷ []
  pub same_mark : mark (H ++ e ∷ []) m ≡ mark H l
  pub mark_within : mark H l ≤ length H
