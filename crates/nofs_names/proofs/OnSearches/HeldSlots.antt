-- The entry that was found stands in a slot that holds.
use Rattle.std.proofs.Common.{◌≡◌, ℕ, ◌/◌, true, List, Some, refl, sym, ap, ◌∙◌, arith}
use Rattle.nofs_disk.specs.declared.tag.Pointer.{Pointer}
use Rattle.nofs_model.specs.Geometry.{Image}
use Rattle.nofs_ptrs.specs.Paths.{path_of}
use Rattle.nofs_model.specs.Slots.{find, value_in}
use Rattle.nofs_model.specs.Files.{files_in, agreed, Files, entry_held}
use Rattle.nofs_model.specs.declared.image.path.PathAnswer.{PathAnswer}
use Rattle.nofs_model.specs.declared.image.path.PathAnswer.TheVariants as answer
use Rattle.nofs_history.specs.History.{FilesMatch}
use Rattle.nofs_crashlaw.proofs.OnNames.Renames.{entry-parts}
use Rattle.nofs_crashlaw.proofs.OnUntouched.Matches.{matched-agreed}
use Rattle.nofs_state.proofs.OnBooks.Machine.{agreed-live}
use Rattle.nofs_names.specs.Searches.Slots.{IsFoundEntry}
use Rattle.nofs_names.specs.declared.searches.slots.Paired.{Paired}

pub slot-holds : (F : Files) (X : Image) (d : ℕ) (name : List ℕ) (q : Paired) → FilesMatch F X
    → agreed (files_in X) d ≡ true → IsFoundEntry F X d name q
    → (x : Pointer) × (find X d (path_of (q.entry / 16)) ≡ answer.Holds x)
slot-holds F X d name q match a f =
    let m = matched-agreed F X d match (agreed-live X d a) a in
    let parts = entry-parts (F d) m.file q.entry f.pair.entry m.is f.pair.at in
    let range = f.pair.range in
    let v : m.file.values (q.entry / 16) ≡ value_in X (find X d (path_of (q.entry / 16))) =
    m.values (q.entry / 16) (omega (arith, range)) in
    go (find X d (path_of (q.entry / 16))) refl (sym (ap (λ (w : _). entry_held w q.entry) v) ∙ parts.2)
  where
    go : (b : PathAnswer)
        → find X d (path_of (q.entry / 16)) ≡ b → entry_held (value_in X b) q.entry ≡ Some f.pair.entry
        → (x : Pointer) × (find X d (path_of (q.entry / 16)) ≡ answer.Holds x)
    go answer.Hole e h = cc h
    go answer.Lost e h = cc h
    go (answer.Holds x) e h = (x, e)
