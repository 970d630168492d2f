-- How a Link goes where it is refused, and the blocks that it asks for.
use Rattle.std.proofs.Common.{◌≡◌, ◌/◌, ℕ, IsTrue, List, Err, sym, ◌∙◌, subst}
use Rattle.nofs_disk.specs.Disk.{DiskState}
use Rattle.nofs_history.specs.Claims.{no_claims}
use Rattle.nofs_history.specs.declared.machine.history.Entry1.{Entry1}
use Rattle.nofs_history.specs.declared.machine.replies.Refusal.{Refusal}
use Rattle.nofs_history.specs.declared.machine.replies.Reply.TheVariants as reply
use Rattle.nofs_history.specs.World.{blocks_needed}
use Rattle.nofs_state.specs.Books.Maps.{IsSafe}
use Rattle.nofs_state.specs.Cores.Invariant.{IsOpen, Past}
use Rattle.nofs_state.specs.Cores.Steps.{Goes}
use Rattle.nofs_state.specs.declared.books.maps.Books.{Books}
use Rattle.nofs_names.specs.Entries.Places.{FitsSlot, IsEntrySlot, slot_blocks}
use Rattle.nofs_state.specs.declared.writes.ends.Ended.{Ended}
use Rattle.nofs_names.specs.declared.entries.places.EntrySlot.{EntrySlot}
use Rattle.nofs_names.specs.Links.{HasPlaces, LinkGoes, StandsLink, link_step}
use Rattle.nofs_names.specs.declared.links.new_name.Both.{Both}
use Rattle.nofs_names.specs.declared.links.new_name.NewName.{NewName}
use Rattle.nofs_names.proofs.OnLinks.Rows.{link-needs}

-- a Link that was refused
pub link-refused : (old new : DiskState) (k : Books) (name : NewName) (ended : Ended) (why : Refusal)
    → ended ≡ record { claims = no_claims; result = Err why }
    → Goes old k new k (link_step name) no_claims (reply.Refused why)
    → LinkGoes old k new k name ended
link-refused old new k name ended why e goes = subst (λ (r : Ended). LinkGoes old k new k name r) (sym e) goes

-- how many blocks a Link asks for
pub link-needed : (old : DiskState) (k : Books) (new : NewName) (both : Both) (spot e : ℕ) → IsSafe old k
    → StandsLink old k new.at.directory new.at.generation new.at.name.now new.inode new.of both
    → HasPlaces old k new spot e → (s : EntrySlot)
    → FitsSlot k.at (e / 16) s → (IsTrue old.tells → IsEntrySlot old.now new.at.directory (e / 16) s)
    → (n : ℕ) → n ≡ slot_blocks s
    → IsTrue old.tells → (H : List Entry1) (p : Past) → IsOpen old k H p
    → blocks_needed p.world.files (link_step new) ≡ n
link-needed old k new both spot e safe stands places s fits found n few t H p o =
    link-needs old k new.at.directory new.at.generation new.at.name.now new.inode new.of safe stands.there e
    places.entry places.place s fits found t H p o
    ∙ sym few
