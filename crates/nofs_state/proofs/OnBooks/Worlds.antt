-- What the books say of a world, with other maps.
use Rattle.std.proofs.Common.{◌≡◌, ℕ, ◌-◌, ◌<◌, ◌≤◌, Bool, Some, is_some, sym, ◌∙◌}
use Rattle.nofs_bits.specs.Bits.{is_set}
use Rattle.nofs_history.specs.World.{World, is_free_inode, is_free_block}
use Rattle.nofs_agree.specs.Chain.{known_agreement}
use Rattle.nofs_state.specs.Books.Maps.{Says, knows_inode, knows_block}
use Rattle.nofs_state.specs.declared.books.maps.Books.{Books}

-- the same numbers: the maps alone differ
pub record SameNumbers (k l : Books) : Type 0 where
  pub at : l.at ≡ k.at
  pub serial : l.serial ≡ k.serial
  pub stopped : l.stopped ≡ k.stopped

-- the world of which these elements are known
abbrev pub world_with : World → (ℕ → Bool) → (ℕ → Bool) → World
world_with W inodes blocks = record W { known_inodes = inodes; known_blocks = blocks }

-- books with the same numbers say what their maps say
pub says-maps : (k l : Books) (W : World) (inodes blocks : ℕ → Bool) → Says k W → SameNumbers k l
    → ((i : ℕ) → inodes i ≡ knows_inode l i) → ((p : ℕ) → blocks p ≡ knows_block l p)
    → ((i : ℕ) → 1 ≤ i → i ≤ l.at.inodes → is_set l.free_inodes (i - 1) ≡ is_free_inode (world_with W inodes blocks) i)
    → ((p : ℕ) → p < l.at.blocks → is_set l.free_blocks p ≡ is_free_block (world_with W inodes blocks) p)
    → ((i : ℕ) (agreed : Bool) → known_agreement l.agreement i ≡ Some agreed → is_some (W.files i) ≡ agreed)
    → Says l (world_with W inodes blocks)
says-maps k l W inodes blocks s same known_inodes known_blocks free_inodes free_blocks agreement = record {
  version = s.version ∙ (λ j. (sym same.at j).version);
  blocks = s.blocks ∙ (λ j. (sym same.at j).blocks);
  inodes = s.inodes ∙ (λ j. (sym same.at j).inodes);
  mount = s.mount ∙ (λ j. (sym same.at j).mount);
  serial = s.serial ∙ sym same.serial;
  stopped = s.stopped ∙ sym same.stopped;
  known_inodes = known_inodes;
  known_blocks = known_blocks;
  free_inodes = free_inodes;
  free_blocks = free_blocks;
  agreement = agreement;
}
