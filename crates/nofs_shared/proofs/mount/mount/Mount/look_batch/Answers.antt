use Rattle.std.proofs.Common.{◌+◌, ◌^◌, ◌≤◌, ap, length, sym, subst}
use Rattle.std.proofs.Math.Logic.{∥∥₁_elim, ∥∥₁_prop}
use Rattle.nofs_state.specs.declared.books.maps.Books.{Books}
use Rattle.nofs_shared.specs.Acts.Sees.{sweep_entries}
use Rattle.nofs_shared.proofs.OnIndex.Mounts.{index-same}
use Rattle.nofs_shared.proofs.OnMount.Looks.{looked-own, mount-looked, safe-looked}
use Rattle.nofs_shared.proofs.OnMount.Calls.{made-on, rests-reads}
use Rattle.nofs_shared.proofs.mount.mount.Mount.look_batch.Goals as goal

pub invariant_of-self : goal.invariant_of-self
invariant_of-self g c = record {
  asked = ∥∥₁_elim c.args.self.now.asked ∥∥₁_prop (λ a. ∣ made-on g.D.Disk.state
      c.args.self.now.core.books.history.start
      c.look_batch.new.core.books.history.start c.args.self.now.core.books.history.entries
      c.look_batch.new.core.books.history.entries c.args.self.now.core.disk c.look_batch.new.core.disk
      (ap (λ (b : Books). b.history.start) c.look_batch.ensures.only.books)
      (ap (λ (b : Books). b.history.entries) c.look_batch.ensures.only.books)
      (rests-reads (g.D.Disk.state c.args.self.now.core.disk) (g.D.Disk.state c.look_batch.new.core.disk)
      c.look_batch.ensures.only.stays) a ∣₁);
  few = subst (λ (b : Books). length b.history.entries + c.args.self.now.kept ≤ 2 ^ 62)
      (sym c.look_batch.ensures.only.books) c.args.self.now.few;
  room = subst (λ (b : Books). c.args.self.now.kept ≤ b.history.spare)
      (sym c.look_batch.ensures.only.books) c.args.self.now.room;
  safe = safe-looked (g.D.Disk.state c.args.self.now.core.disk) (g.D.Disk.state c.look_batch.new.core.disk)
      c.args.self.now.core.books c.look_batch.new.core.books c.look_batch.ensures.only.stays
      c.look_batch.ensures.only.books
      c.look_batch.ensures.only.learns c.args.self.now.safe;
  stands = ∥∥₁_elim c.args.self.now.stands ∥∥₁_prop (λ m.
      ∣ mount-looked (g.D.Disk.state c.args.self.now.found.value) (g.D.Disk.state c.args.self.now.core.disk)
      (g.D.Disk.state c.look_batch.new.core.disk)
      c.args.self.now.first c.args.self.now.core.books c.look_batch.new.core.books c.look_batch.ensures.only.stays
      c.look_batch.ensures.only.books
      c.look_batch.ensures.only.learns m ∣₁);
  indexed = ∥∥₁_elim c.args.self.now.stands ∥∥₁_prop (λ m. ∥∥₁_elim c.args.self.now.indexed ∥∥₁_prop (λ t.
      ∣ index-same (g.D.Disk.state c.args.self.now.found.value) (g.D.Disk.state c.args.self.now.core.disk)
      (g.D.Disk.state c.look_batch.new.core.disk) c.args.self.now.first c.args.self.now.core.books
      c.look_batch.new.core.books m
      (mount-looked (g.D.Disk.state c.args.self.now.found.value) (g.D.Disk.state c.args.self.now.core.disk)
      (g.D.Disk.state c.look_batch.new.core.disk)
      c.args.self.now.first c.args.self.now.core.books c.look_batch.new.core.books c.look_batch.ensures.only.stays
      c.look_batch.ensures.only.books
      c.look_batch.ensures.only.learns m) c.args.self.now.index
      (ap (λ (b : Books). b.history.entries) c.look_batch.ensures.only.books) t ∣₁));
  taken = subst (λ (b : Books).
      b.at.inodes + b.at.blocks ≤ c.args.self.now.kept + sweep_entries b.history.entries)
      (sym c.look_batch.ensures.only.books) c.args.self.now.taken;
}

pub returns-clause-own : goal.returns-clause-own
returns-clause-own g c = looked-own (λ e. e.core.value) (λ k. g.D.Disk.state k.disk) (λ k. k.books)
    c.args.self.now.core c.look_batch.result c.look_batch.ensures.core c.look_batch.ensures.going
    (g.D.Disk.state c.args.self.now.found.value) c.args.self.now.first c.args.self.now.stands
    c.look_batch.new.core.books c.look_batch.ensures.only.books
