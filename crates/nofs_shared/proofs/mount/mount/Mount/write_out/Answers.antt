use Rattle.std.proofs.Common.{◌+◌, ◌^◌, ◌≤◌, ap, length, sym, subst}
use Rattle.std.proofs.Math.Logic.{∥∥₁_elim, ∥∥₁_prop}
use Rattle.nofs_state.specs.Books.Maps.{IsSafe}
use Rattle.nofs_state.specs.declared.books.maps.Books.{Books}
use Rattle.nofs_state.proofs.OnCores.WriteOuts.{safe-out}
use Rattle.nofs_shared.specs.Acts.Sees.{sweep_entries}
use Rattle.nofs_shared.proofs.OnIndex.Mounts.{index-same}
use Rattle.nofs_shared.proofs.OnMount.WriteOuts.{mount-out-of}
use Rattle.nofs_shared.proofs.OnMount.Calls.{made-on, rests-out}
use Rattle.nofs_shared.proofs.mount.mount.Mount.write_out.Goals as goal

pub invariant_of-self : goal.invariant_of-self
invariant_of-self g c =
    let S = g.D.Disk.state in
    let same = c.write_out.ensures.books in
    let out = c.write_out.ensures.out in
    record {
      asked = ∥∥₁_elim c.args.self.now.asked ∥∥₁_prop (λ a. ∣ made-on S c.args.self.now.core.books.history.start
          c.write_out.new.self.books.history.start c.args.self.now.core.books.history.entries
          c.write_out.new.self.books.history.entries c.args.self.now.core.disk c.write_out.new.self.disk
          (ap (λ (b : Books). b.history.start) same) (ap (λ (b : Books). b.history.entries) same)
          (rests-out (S c.args.self.now.core.disk) (S c.write_out.new.self.disk) _ out) a ∣₁);
      few = subst (λ (b : Books). length b.history.entries + c.args.self.now.kept ≤ 2 ^ 62)
          (sym same) c.args.self.now.few;
      room = subst (λ (b : Books). c.args.self.now.kept ≤ b.history.spare) (sym same) c.args.self.now.room;
      safe = subst (λ (b : Books). IsSafe (S c.write_out.new.self.disk) b) (sym same)
          (safe-out _ _ _ out c.args.self.now.core.books c.args.self.now.safe);
      stands = ∥∥₁_elim c.args.self.now.stands ∥∥₁_prop (λ m. ∣ mount-out-of (S c.args.self.now.found.value)
          _ _ c.args.self.now.first c.args.self.now.core.books _ out m c.write_out.new.self.books same ∣₁);
      indexed = ∥∥₁_elim c.args.self.now.stands ∥∥₁_prop (λ m. ∥∥₁_elim c.args.self.now.indexed ∥∥₁_prop (λ t.
          ∣ index-same (S c.args.self.now.found.value) (S c.args.self.now.core.disk) (S c.write_out.new.self.disk)
          c.args.self.now.first c.args.self.now.core.books c.write_out.new.self.books m
          (mount-out-of (S c.args.self.now.found.value)
          _ _ c.args.self.now.first c.args.self.now.core.books _ out m c.write_out.new.self.books same)
          c.args.self.now.index (ap (λ (b : Books). b.history.entries) same) t ∣₁));
      taken = subst (λ (b : Books).
          b.at.inodes + b.at.blocks ≤ c.args.self.now.kept + sweep_entries b.history.entries)
          (sym same) c.args.self.now.taken;
    }
