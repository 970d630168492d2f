-- The list of values is cut, and its last one is trimmed.
use Rattle.std.proofs.Common.{◌≡◌, ℕ, ◌∙◌, ap, cond, ltb, Bool, true, false, refl, arith, min, Some, unwrap_or}
use Rattle.std.proofs.Common.{slice_get, List}
use Rattle.nofs_ptrs.specs.Paths.{slot_limit}
use Rattle.nofs_model.specs.Files.{Absent}
use Rattle.nofs_model.specs.declared.image.value.Value.{Value}
use Rattle.nofs_model.specs.declared.image.value.Value.TheVariants.{Hole}
use Rattle.nofs_history.specs.Machine.{slots_in}
use Rattle.nofs_history.specs.Accepted.Files.{value_at, end_value, resized_value}
use Rattle.nofs_history.specs.declared.accepted.files.file.ValueNow.{ValueNow}
use Rattle.nofs_history.proofs.OnAccepted.Padded.{value-take}
use Rattle.nofs_history.proofs.OnAccepted.Resized.{resized-at}
use Rattle.nofs_history.proofs.accepted.files.file.FileNow.resized.Goals as goal

pub returns : goal.returns
returns c =
    let old : ℕ = c.args.self.size in
    let size : ℕ = c.args.size in
    let slots : c.min-slots.result ≡ min (slots_in old) (slots_in size) = c.min-slots.ensures
    ∙ (let a = c.slots_in.ensures in let b = c.slots_in-2.ensures in λ j. min (a j) (b j)) in
    let xs : List ValueNow = c.args.self.values.items in
    let one = λ (k : ℕ). c.trim_end.ensures k
    ∙ ap (λ (ys : List ValueNow). end_value old size c.min-slots.result k (value_at (slice_get ys k)))
    c.truncate.ensures.items
    ∙ ap (λ (v : Value). end_value old size c.min-slots.result k v) (value-take xs c.min-slots.result k)
    ∙ ap (λ (m : ℕ). end_value old size m k (cond (ltb k m) (value_at (slice_get xs k)) Hole)) slots in
    let go = λ (k : ℕ) (b : Bool) (e : ltb k slot_limit ≡ b). below k b e (one k) in
    λ j. Some (record {
      generation = c.args.self.generation;
      kind = c.args.self.kind;
      size = size;
      links = c.args.self.links;
      values = λ k. go k (ltb k slot_limit) refl j;
      nodes = λ path. Absent;
    })
  where
    below : (k : ℕ) (b : Bool) → ltb k slot_limit ≡ b → {new : Value} → new ≡ end_value c.args.self.size c.args.size
        (min (slots_in c.args.self.size) (slots_in c.args.size)) k
        (cond (ltb k (min (slots_in c.args.self.size) (slots_in c.args.size)))
        (value_at (slice_get c.args.self.values.items k)) Hole)
        → cond b new Hole ≡ cond b
        (unwrap_or (resized_value c.args.self.size c.args.size (value_at (slice_get c.args.self.values.items k)) k)
        (value_at (slice_get c.args.self.values.items k))) Hole
    below k true e is = is ∙ resized-at c.args.self.size c.args.size k (value_at (slice_get c.args.self.values.items k))
        (grind (arith, e))
    below k false e is = refl
