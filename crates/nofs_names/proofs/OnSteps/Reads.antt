-- What was found of a disk stands after more reads.
use Rattle.std.proofs.Common.{◌≡◌, ℕ, Bool, List, IsTrue, sym, subst}
use Rattle.nofs_disk.specs.Disk.{DiskState, StaysButFaults}
use Rattle.nofs_inode.specs.declared.inode.Record.{Record}
use Rattle.nofs_super.specs.declared.superblock.SuperBlock.{SuperBlock}
use Rattle.nofs_model.specs.Geometry.{Image}
use Rattle.nofs_model.specs.Files.{Files}
use Rattle.nofs_history.specs.History.{FilesMatch}
use Rattle.nofs_history.specs.declared.machine.steps.Step.{Step}
use Rattle.nofs_agree.specs.Reads.{KnowsDirectory}
use Rattle.nofs_agree.proofs.OnChain.{KnowsInode-on}
use Rattle.nofs_state.specs.declared.books.maps.Books.{Books}
use Rattle.nofs_names.specs.Searches.Slots.{IsFoundEntry, KnowsPaired}
use Rattle.nofs_state.specs.Writes.Premises.{RowsPass}
use Rattle.nofs_names.specs.declared.searches.slots.Paired.{Paired}
use Rattle.nofs_state.proofs.OnCores.Unchanged.{open-back, reads-keep}
use Rattle.nofs_names.specs.Searches.Refusals.{IsThere, KnownTrue}
use Rattle.nofs_names.specs.Renames.Parts.{FoundIn}
use Rattle.nofs_names.specs.Drops.Parts.{HasNoNames}

module _ (old new : DiskState) (stays : StaysButFaults old new) where
  back : IsTrue new.tells → IsTrue old.tells
  back t = subst (λ (b : Bool). IsTrue b) stays.disk.tells t

  now : old.now ≡ new.now
  now = sym stays.cells.now

  pub directory-on : (at : SuperBlock) (i g : ℕ) (r : Record) → KnowsDirectory old at i g r
      → KnowsDirectory new at i g r
  directory-on at i g r k =
      record { known = KnowsInode-on old new at i r stays k.known; kind = k.kind; generation = k.generation }

  pub there-on : (k : Books) (d : ℕ) → (IsTrue old.tells → KnownTrue k old.now → IsThere d old.now) → IsTrue new.tells
      → KnownTrue k new.now
      → IsThere d new.now
  there-on k d there t = subst (λ (X : Image). KnownTrue k X → IsThere d X) now (there (back t))

  pub paired-on : (at : SuperBlock) (q : Paired) → KnowsPaired old at q → KnowsPaired new at q
  paired-on at q k = (KnowsInode-on old new at q.inode q.record stays k.0, k.1, k.2, k.3, k.4)

  pub found-on : (d : ℕ) (name : List ℕ) (q : Paired) → FoundIn old d name q → FoundIn new d name q
  found-on d name q found t =
      subst (λ (X : Image). IsThere d X → (F : Files) → FilesMatch F X → IsFoundEntry F X d name q) now (found (back t))

  pub no-names-on : (i : ℕ) → HasNoNames old i → HasNoNames new i
  no-names-on i none t F m = none (back t) F (subst (λ (X : Image). FilesMatch F X) stays.cells.now m)

  pub rows-on : (k : Books) (s : Step) → RowsPass old k s → RowsPass new k s
  rows-on k s pass t H p o V = pass (back t) H p (open-back old new (reads-keep old new stays) k H p o) V
