use Rattle.std.proofs.Common.{refl, sym, ap, ◌∙◌, rules, length, get_or, [], ◌∷◌, ◌++◌, ◌≡◌}
use Rattle.std.specs.Option.{option_map_or}
use Rattle.std.proofs.lemmas.List.{get_or_at}
use Rattle.nofs_memdisk.specs.declared.memory.MemDisk.{MemDisk}
use Rattle.nofs_turn.specs.Turn.{view_of}
use Rattle.nofs_shared.specs.declared.mount.serves.Grounds.{Grounds}
use Rattle.nofs_example.proofs.run.Goals as goal

pub returns-in-Ok-close : goal.returns-in-Ok-close
returns-in-Ok-close g c =
    let last = length c.pop.new.self.items in
    let items : c.in-Ok.passes.items ≡ c.pop.new.self.items ++ c.in-Some.pass ∷ [] = search rules in
    let each = c.in-Ok.ensures.passes.1 last c.in-Some.pass (search rules) in
    let there = ap (λ l. get_or l last c.in-Some.pass) items
    ∙ get_or_at c.pop.new.self.items c.in-Some.pass [] c.in-Some.pass last refl in
    let is = ap (λ p. (view_of p).fixed) (sym there) ∙ ap (λ v. v.fixed) each.1 in
    let same = sym c.in-Ok-close.ensures.closed.0.same_part ∙ ap (λ p. (view_of p).fixed) c.back-pass.ensures.same
    ∙ ap (λ s. (view_of s.pass).fixed) c.into_inner.ensures ∙ c.run_all.ensures.goes.2.fixed
    ∙ ap (λ s. (view_of s.pass).fixed) c.new-user.ensures ∙ ap (λ p. (view_of p).fixed) c.pass.ensures.2 ∙ is in
    record { found = ap (λ o. option_map_or (λ (x : Grounds MemDisk). x.found) o c.args.mount.found.value) same }
