-- The maps of an open core are right for the disk.
use Rattle.std.proofs.Common.{◌≡◌, ◌-◌, Bool, true, ◌&&◌, not, List, refl, sym, ap, ◌∙◌, subst, arith}
use Rattle.std.proofs.lemmas.Bool.{and_parts, leb-true}
use Rattle.std.specs.Prelude.{nat_le}
use Rattle.nofs_bits.specs.Bits.{is_set}
use Rattle.nofs_disk.specs.Disk.{DiskState}
use Rattle.nofs_super.specs.declared.superblock.SuperBlock.{SuperBlock}
use Rattle.nofs_model.specs.Files.{Files}
use Rattle.nofs_model.specs.Owners.{is_used_block, is_used_inode}
use Rattle.nofs_history.specs.History.{FilesMatch}
use Rattle.nofs_history.specs.World.{uses_block, uses_inode}
use Rattle.nofs_history.specs.Good.{MatchesSuper}
use Rattle.nofs_history.specs.declared.machine.history.Entry1.{Entry1}
use Rattle.nofs_crashlaw.specs.Maps.Homes.{GoodMaps, LawGood}
use Rattle.nofs_state.specs.Cores.Invariant.{IsOpen, Past}
use Rattle.nofs_state.specs.declared.books.maps.Books.{Books}
use Rattle.nofs_cases.specs.Mounts.Open.{MapsGood}

-- known, and not used
free-known : (free known uses used : Bool) → free ≡ (known && not uses) → known ≡ true → not uses ≡ not used
    → free ≡ not used
free-known free known uses used is e same = is ∙ (rw e refl) ∙ same

module _ (d : DiskState) (k : Books) (H : List Entry1) (p : Past) (o : IsOpen d k H p) where
  numbers : MatchesSuper p.world d.now
  numbers = record {
    version = o.says.version ∙ sym (ap (λ (s : SuperBlock). s.version) o.at);
    blocks = o.says.blocks ∙ sym (ap (λ (s : SuperBlock). s.blocks) o.at);
    inodes = o.says.inodes ∙ sym (ap (λ (s : SuperBlock). s.inodes) o.at);
    mount = o.says.mount ∙ sym (ap (λ (s : SuperBlock). s.mount) o.at);
  }

  files : FilesMatch p.world.files d.now
  files = subst (λ (F : Files). FilesMatch F d.now) (sym o.files) o.stage.ready.files

  pub maps-good : LawGood → MapsGood k p.world d.now
  maps-good law =
      let g : GoodMaps p.world d.now = law p.world d.now numbers files o.homes in
      record {
        numbers = numbers;
        files = files;
        homes = o.homes;
        inodes = λ i. sym (o.says.known_inodes i);
        blocks = λ b. sym (o.says.known_blocks b);
        inode_verdicts = λ i e.
            let known : p.world.known_inodes i ≡ true = o.says.known_inodes i ∙ e in
            let parts = and_parts (nat_le 1 i) (nat_le i k.at.inodes && not (is_set k.unknown_inodes (i - 1))) e in
            let low = leb-true 1 i parts.0 in
            let high = leb-true i k.at.inodes
            (and_parts (nat_le i k.at.inodes) (not (is_set k.unknown_inodes (i - 1))) parts.1).0 in
            free-known (is_set k.free_inodes (i - 1)) (p.world.known_inodes i) (uses_inode p.world i)
            (is_used_inode d.now i) (o.says.free_inodes i low high)
            known (g.inode_verdicts i known);
        block_verdicts = λ b low e.
            let known : p.world.known_blocks b ≡ true = o.says.known_blocks b ∙ e in
            let n = o.says.blocks in
            free-known (is_set k.free_blocks b) (p.world.known_blocks b) (uses_block p.world b) (is_used_block d.now b)
            (o.says.free_blocks b (omega (arith, low, n))) known (g.block_verdicts b low known);
      }
