-- The contract of the writes of Link.
use Rattle.std.proofs.Common.{◌≡◌, ◌≢◌, ℕ, ◌/◌, ◌<◌, ◌≤◌, true, false, refl, sym, ap, subst, arith}
use Rattle.nofs_bits.specs.Bits.{is_set}
use Rattle.nofs_disk.specs.Disk.{DiskState, IsDisk}
use Rattle.nofs_dirent.specs.declared.entry.Entry.{Entry}
use Rattle.nofs_inode.specs.declared.inode.Record.{Record}
use Rattle.nofs_disk.specs.Pointer.{null}
use Rattle.nofs_model.specs.Geometry.{inode}
use Rattle.nofs_ptrs.specs.Paths.{leaf}
use Rattle.nofs_history.specs.Claims.{no_claims}
use Rattle.nofs_history.specs.declared.machine.history.Claims.{Claims}
use Rattle.nofs_history.specs.declared.machine.steps.Step.{Step}
use Rattle.nofs_history.specs.declared.machine.steps.Step.TheVariants as step
use Rattle.nofs_history.specs.declared.machine.replies.Reply.TheVariants as reply
use Rattle.nofs_state.specs.Books.Maps.{claimed_books, claimed_pointer}
use Rattle.nofs_state.specs.Cores.Steps.{Goes, entry}
use Rattle.nofs_state.specs.declared.books.maps.Books.{Books}
use Rattle.nofs_names.specs.Renames.Parts.{done_answer}
use Rattle.nofs_names.specs.Entries.Places.{FitsSlot, slot_blocks}
use Rattle.nofs_state.specs.declared.writes.ends.Ended.{Ended}
use Rattle.nofs_names.specs.declared.entries.places.EntrySlot.{EntrySlot}
use Rattle.nofs_names.specs.declared.entries.places.EntrySlot.TheVariants.{Direct as DirectHole, UnderLeaf as HoleUnder}
use Rattle.nofs_names.specs.declared.entries.places.EntrySlot.TheVariants.{WithLeaf as HoleWith, Held as HeldSlot}
use Rattle.nofs_state.proofs.OnBooks.Claims.{claimed-safe}
use Rattle.nofs_names.specs.Entries.Writes.{Enters}
use Rattle.nofs_names.specs.declared.entries.writes.EntryPlace.{EntryPlace}
use Rattle.nofs_names.specs.declared.entries.writes.Tables.{Tables}
use Rattle.nofs_names.specs.declared.links.new_name.Both.{Both}
use Rattle.nofs_names.proofs.OnEntries.Counts.{count-direct, count-under, count-with}
use Rattle.nofs_names.proofs.OnEntries.TableWrites.{tables-above}
use Rattle.nofs_names.proofs.OnLinks.Claims.{claims_of}
use Rattle.nofs_names.proofs.OnLinks.Claims.{taken-none, taken-cell, taken-both}
use Rattle.nofs_names.proofs.OnLinks.Comes.{LinkStands, linked-goes, linked_record}
use Rattle.nofs_names.proofs.OnLinks.Slots as slots
use Rattle.nofs_names.proofs.OnMakes.Places.{free-positive}

module _ (first b new : DiskState) (k l : Books) (d g : ℕ) (both : Both) (p : EntryPlace) (it : Entry) (spot : ℕ)
    (t : Tables) (ended : Ended) (old : Record) (on : LinkStands first b k d g both p it spot t old)
    (is_new : IsDisk new) (going : k.stopped ≡ false) where
  abbrev s : Step
  s = step.Link d g it.name it.inode it.generation

  far : (n : ℕ) → is_set k.free_blocks n ≡ true → 0 < n
  far n free = free-positive b k n on.safe free

  -- by what stands in the slot
  pub enters-goes : Enters b k new l d both.directory p it (linked_record d both p spot) t p.slot ended
      → Goes b k new l s ended.claims (done_answer reply.Linked ended.result)
  enters-goes = go p.slot refl
    where
      as-claims : (c : Claims) → ended.claims ≡ c → Goes b k new l s c (done_answer reply.Linked ended.result)
          → Goes b k new l s ended.claims (done_answer reply.Linked ended.result)
      as-claims c e h = subst (λ (z : Claims). Goes b k new l s z (done_answer reply.Linked ended.result)) (sym e) h

      fits : (z : EntrySlot) → p.slot ≡ z → FitsSlot k.at (p.entry / 16) z
      fits z e = subst (λ (q : EntrySlot). FitsSlot k.at (p.entry / 16) q) e on.enters.fits

      below : p.entry / 16 < 72
      below = let r = on.enters.range in omega (arith, r)

      apart-far : (n : ℕ) → 0 < n → 0 ≢ n
      apart-far n low e = omega (arith, low, e)

      go : (z : EntrySlot) → p.slot ≡ z → Enters b k new l d both.directory p it (linked_record d both p spot) t z ended
          → Goes b k new l s ended.claims (done_answer reply.Linked ended.result)
      go (HeldSlot x) eq w = as-claims no_claims w.claims
          (linked-goes b new k k l d g it.name it.inode it.generation p.entry spot no_claims 0 _ ended.result
          on.disk is_new on.safe going on.safe (
            (λ e. let a = (fits (HeldSlot x) eq).0 in omega (arith, a, e)),
            ((λ e. omega (arith, e)), tt),
          )
          (taken-none k)
          (λ tells H q o. slots.held-comes first b new k l d g both p it spot t ended old on tells H q o x eq w)
          on.may.rows w.stores refl)
      go DirectHole eq w =
          let c = on.enters.free.cell (subst (λ (z : EntrySlot). 1 ≤ slot_blocks z) (sym eq) (omega arith)) in
          let a = c.1 in let n = on.safe.free_blocks in let m = ap slot_blocks eq in let q = on.enters.stamps in
          as-claims (claims_of (claimed_pointer k p.blocks.cell) null) w.claims
          (linked-goes b new k (claimed_books k p.blocks.cell) l d g it.name it.inode it.generation p.entry spot
          (claims_of (claimed_pointer k p.blocks.cell) null) 1 _ ended.result on.disk is_new on.safe going
          (claimed-safe b k p.blocks.cell (omega (arith, a, n)) (omega (arith, q, m)) on.safe)
          (apart-far p.blocks.cell (far p.blocks.cell c.0), tables-above d it.inode w.after)
          (taken-cell k p.blocks.cell (far p.blocks.cell c.0) a)
          (λ tells H q o. slots.direct-comes first b new k l d g both p it spot t ended old on tells H q o eq w)
          on.may.rows w.stores
          (count-direct (claims_of (claimed_pointer k p.blocks.cell) null) (p.entry / 16) d it.inode refl
          (far p.blocks.cell c.0) p.blocks.cell w.cell w.after refl (fits DirectHole eq)))
      go (HoleUnder y) eq w =
          let c = on.enters.free.cell (subst (λ (z : EntrySlot). 1 ≤ slot_blocks z) (sym eq) (omega arith)) in
          let a = c.1 in let n = on.safe.free_blocks in let m = ap slot_blocks eq in let q = on.enters.stamps in
          as-claims (claims_of (claimed_pointer k p.blocks.cell) null) w.claims
          (linked-goes b new k (claimed_books k p.blocks.cell) l d g it.name it.inode it.generation p.entry spot
          (claims_of (claimed_pointer k p.blocks.cell) null) 1 _ ended.result on.disk is_new on.safe going
          (claimed-safe b k p.blocks.cell (omega (arith, a, n)) (omega (arith, q, m)) on.safe) (
            apart-far p.blocks.cell (far p.blocks.cell c.0),
            (
              (λ e. let f = (fits (HoleUnder y) eq).1.0 in omega (arith, f, e)),
              ((λ e. omega (arith, e)), tt),
            ),
          )
          (taken-cell k p.blocks.cell (far p.blocks.cell c.0) a)
          (λ tells H q o. slots.under-comes first b new k l d g both p it spot t ended old on tells H q o y eq w)
          on.may.rows w.stores
          (count-under (claims_of (claimed_pointer k p.blocks.cell) null) (p.entry / 16) d it.inode refl
          (far p.blocks.cell c.0) refl (fits (HoleUnder y) eq).0 below))
      go HoleWith eq w =
          let c = on.enters.free.cell (subst (λ (z : EntrySlot). 1 ≤ slot_blocks z) (sym eq) (omega arith)) in
          let f = on.enters.free.leaf (subst (λ (z : EntrySlot). 2 ≤ slot_blocks z) (sym eq) (omega arith)) in
          let a = c.1 in let a2 = f.1 in let n = on.safe.free_blocks in let m = ap slot_blocks eq in
          let q = on.enters.stamps in
          as-claims (claims_of (claimed_pointer k p.blocks.cell)
          (claimed_pointer (claimed_books k p.blocks.cell) p.blocks.leaf)) w.claims
          (linked-goes b new k (claimed_books (claimed_books k p.blocks.cell) p.blocks.leaf) l d g it.name it.inode
          it.generation p.entry spot
          (claims_of (claimed_pointer k p.blocks.cell) (claimed_pointer (claimed_books k p.blocks.cell) p.blocks.leaf))
          2 _ ended.result on.disk is_new on.safe
          going
          (claimed-safe b (claimed_books k p.blocks.cell) p.blocks.leaf (omega (arith, a2, n)) (omega (arith, q, m))
          (claimed-safe b k p.blocks.cell (omega (arith, a, n)) (omega (arith, q, m)) on.safe)) (
            apart-far p.blocks.cell (far p.blocks.cell c.0),
            (apart-far p.blocks.leaf (far p.blocks.leaf f.0), tables-above d it.inode w.after),
          )
          (taken-both k p.blocks.cell p.blocks.leaf (far p.blocks.cell c.0) (far p.blocks.leaf f.0) a a2)
          (λ tells H q o.
          slots.with-comes first b new k l d g both p it spot t ended old on tells H q o eq w)
          on.may.rows w.stores
          (count-with (claims_of (claimed_pointer k p.blocks.cell)
          (claimed_pointer (claimed_books k p.blocks.cell) p.blocks.leaf)) (p.entry / 16) d it.inode refl
          (far p.blocks.cell c.0) p.blocks.cell p.blocks.leaf w.cell w.leaf w.after (far p.blocks.leaf f.0)
          (fits HoleWith eq) below))
