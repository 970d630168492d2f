use Rattle.std.proofs.Common.{ℕ, ◌∙◌, ap, cond, eqb, arith}
use Rattle.nofs_model.specs.declared.image.value.Value.{Value}
use Rattle.nofs_history.specs.Accepted.Files.{value_now}
use Rattle.nofs_history.proofs.OnAccepted.Padded.{value-set}
use Rattle.nofs_history.proofs.accepted.files.file.FileNow.with_value.Goals as goal

pub returns : goal.returns
returns c =
    let set = λ (k : ℕ). value-set c.grow_values.new.values.items c.args.slot c.args.kept k
    (let long = c.in_ok-grow_values.ensures.long in
    omega (arith, long))
    ∙ ap (λ (v : Value). cond (eqb c.args.slot k) (value_now c.args.kept) v) (c.grow_values.ensures.same k) in
    λ j. record {
      generation = c.args.self.generation;
      kind = c.args.self.kind;
      size = c.args.self.size;
      links = c.args.self.links;
      values = λ k. set k j;
      nodes = λ path. Rattle.nofs_model.specs.Files.Absent;
    }
