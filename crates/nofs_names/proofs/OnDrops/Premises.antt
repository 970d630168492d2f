-- What a Drop stands on when it writes: it stays over reads, and with it the inode goes.
use Rattle.std.proofs.Common.{arith, ◌≡◌, ◌≤◌, ℕ, Bool, true, not, IsTrue, List, [], ◌∷◌, Result, Ok, Err, sym, ap, ◌∙◌}
use Rattle.std.proofs.Common.{subst}
use Rattle.nofs_disk.specs.Disk.{DiskState, IsDisk, StaysButFaults, cell_at}
use Rattle.nofs_disk.specs.declared.tag.Cell.{Cell}
use Rattle.nofs_inode.specs.declared.inode.Record.{Record}
use Rattle.nofs_inode.specs.InodeRecords.{free_record}
use Rattle.nofs_model.specs.Files.{Files}
use Rattle.nofs_history.specs.History.{FilesMatch}
use Rattle.nofs_history.specs.Machine.{drop_meta, link_to}
use Rattle.nofs_history.specs.Meta.{is_gone}
use Rattle.nofs_history.specs.declared.machine.replies.Refusal.{Refusal}
use Rattle.nofs_history.specs.declared.machine.replies.Reply.TheVariants as reply
use Rattle.nofs_agree.specs.declared.reads.LastRead.{LastRead}
use Rattle.nofs_state.specs.declared.books.maps.Books.{Books}
use Rattle.nofs_state.specs.Writes.Cells.{Stores}
use Rattle.nofs_names.specs.Drops.Parts.{relinked}
use Rattle.nofs_names.specs.Entries.Tables.{IsTable, table_block}
use Rattle.nofs_names.specs.Searches.Refusals.{KnownTrue}
use Rattle.nofs_names.specs.Drops.Removal.{BlocksOf, FreedAs, LosesName}
use Rattle.nofs_names.specs.Renames.Parts.{done_answer}
use Rattle.nofs_state.proofs.OnCores.Unchanged.{reads-keep, safe-keeps}
use Rattle.nofs_names.specs.Drops.Answers.{DropGoes, IsCleared}
use Rattle.nofs_names.specs.Drops.OtherNames.{TellsKept}
use Rattle.nofs_names.specs.declared.drops.steps.Cleared.{Cleared}
use Rattle.nofs_names.proofs.OnDrops.Contract.{drop-keeps}
use Rattle.nofs_names.proofs.OnDrops.Reads.{clears-on, gone-on, may-on}
use Rattle.nofs_names.proofs.OnDrops.InodeGoes.{remove-ends}

-- from the state before a read
pub cleared-on : (old new : DiskState) (stays : StaysButFaults old new) (k : Books) (it : Cleared) → IsCleared old k it
    → IsCleared new k it
cleared-on old new stays k it c = record {
  safe = safe-keeps old new (reads-keep old new stays) k c.safe;
  spare = subst (λ (n : ℕ). 2 ≤ n) (sym stays.spare) c.spare;
  going = c.going;
  finds = may-on old new stays k it.pair.at.directory it.pair.at.generation it.pair.at.name.now it.pair.it
      it.pair.found c.finds;
  clears = clears-on old new stays k it.pair.at.directory it.pair.found it.pointer it.cell c.clears;
}

-- so for whether another name is left
pub kept-on : (old new : DiskState) (k : Books) (it : Cleared) → IsDisk old → IsCleared old k it
    → StaysButFaults old new → (rest : Record)
    (last : LastRead) (res b : Bool)
    → rest ≡ relinked it.pair.found.record (link_to it.pair.at.directory it.pair.found.entry it.pair.at.generation)
    → TellsKept old new k.agreement it.pair.found.inode rest.links last (Ok res) → res ≡ b → IsTrue new.tells
    → KnownTrue k new.now → (F : Files)
    → FilesMatch F new.now
    → is_gone (drop_meta F it.pair.found.inode (link_to it.pair.at.directory it.pair.found.entry it.pair.at.generation))
    ≡ not b
kept-on old new k it is c stays rest last res b e tells eb =
    gone-on old new stays k it.pair.at.directory it.pair.at.generation it.pair.found (not b)
    (drop-keeps old new k it.pair.at.directory it.pair.at.generation it.pair.at.name.now it.pair.it it.pair.found is
    c.safe c.going c.finds
    rest.links last res b (ap (λ (z : Record). z.links) e) tells eb)

-- the cell without the entry and a free record were written, from the state before the table was read
pub removed-ends : (old mid new : DiskState) (k m l : Books) (it : Cleared) (before after : Cell)
    (freed : List Bool) (block : ℕ)
    (result : Result (Unit {0}) Refusal) → IsDisk mid → IsDisk new → StaysButFaults old mid → mid.faults ≡ old.faults
    → IsCleared old k it
    → LosesName old k it.pair.at.directory it.pair.at.generation it.pair.found → block ≡ table_block it.pair.found.inode
    → (IsTrue old.tells → before ≡ cell_at old.now block) → IsTable before it.pair.found.inode free_record after
    → BlocksOf old k.at it.pair.found.inode freed
    → Stores mid k new m ((it.pointer.block, it.cell) ∷ (block, after) ∷ []) result
    → (result ≡ Ok tt → FreedAs m l it.pair.found.inode freed)
    → ((why : Refusal) → result ≡ Err why → l ≡ m)
    → DropGoes old k new l it.pair.at (done_answer (reply.Dropped true) result)
removed-ends old mid new k m l it before after freed block result is_mid is_new stays same c loses at_block cell
    table blocks stores ok err =
    remove-ends old mid new k m l it.pair.at.directory it.pair.at.generation it.pair.at.name.now it.pair.it it.pointer
    it.cell before after it.pair.found
    freed result is_mid is_new stays same c.safe c.going c.finds.directory c.finds.generation
    c.finds.there c.finds.known.0
    c.finds.known.1 c.finds.found
    c.finds.no_names loses (let a = c.clears.area.0 in omega (arith, a)) c.clears.held c.clears.cleared
    (λ t. cell t ∙ ap (cell_at old.now) at_block)
    table.here table.tag blocks c.finds.rows
    (subst (λ (n : ℕ). Stores mid k new m ((it.pointer.block, it.cell) ∷ (n, after) ∷ []) result) at_block stores) ok
    err
