-- The contract of a Put at any depth, from its cells.
use Rattle.std.proofs.Common.{◌≡◌, ℕ, ◌+◌, Bool, true, false, List, length}
use Rattle.std.proofs.Common.{IsTrue, Result, Ok, Err, refl, sym, ap, ◌∙◌, subst, subst₂}
use Rattle.nofs_disk.specs.Disk.{DiskState, IsDisk, StaysButFaults}
use Rattle.nofs_disk.specs.declared.tag.Cell.{Cell}
use Rattle.nofs_disk.specs.declared.tag.Pointer.{Pointer}
use Rattle.nofs_inode.specs.declared.inode.Record.{Record}
use Rattle.nofs_model.specs.Geometry.{Image}
use Rattle.nofs_ptrs.specs.Paths.{Path, path_of}
use Rattle.nofs_model.specs.Files.{agreed, files_in}
use Rattle.nofs_history.specs.Machine.{gives}
use Rattle.nofs_history.specs.World.{blocks_for}
use Rattle.nofs_history.specs.Claims.{IsClaim, claimed_blocks}
use Rattle.nofs_history.specs.declared.machine.history.Claims.{Claims}
use Rattle.nofs_history.specs.declared.machine.history.Entry1.{Entry1}
use Rattle.nofs_history.specs.declared.machine.steps.Step.TheVariants as step
use Rattle.nofs_history.specs.declared.machine.replies.Reply.TheVariants as reply
use Rattle.nofs_history.specs.declared.machine.replies.Refusal.{Refusal}
use Rattle.nofs_history.specs.declared.machine.replies.Refusal.TheVariants as refusal
use Rattle.nofs_state.specs.Books.Maps.{IsSafe}
use Rattle.nofs_state.specs.Cores.Invariant.{IsOpen, Past}
use Rattle.nofs_history.specs.Writes.{WritesSoMany, pointers_written}
use Rattle.nofs_state.specs.Cores.Steps.{Goes, IsRow, WritesAlone, entry}
use Rattle.nofs_state.specs.declared.books.maps.Books.{Books}
use Rattle.nofs_disk.specs.Order.{IsApart}
use Rattle.nofs_state.specs.Writes.Cells.{Stores, Stored, NotStored}
use Rattle.nofs_state.specs.Writes.Premises.{RowsPass}
use Rattle.nofs_state.proofs.OnCores.Done.{goes-done}
use Rattle.nofs_state.proofs.OnCores.Faults.{goes-fault, stopped_books, stopped_world}
use Rattle.nofs_state.proofs.OnCores.Unchanged.{Keeping, goes-after, open-back, reads-keep, safe-keeps}
use Rattle.nofs_state.proofs.OnBooks.Machine.{are-agreed}
use Rattle.nofs_state.proofs.OnWrites.Tables.{table_block}
use Rattle.nofs_state.proofs.OnWrites.TwoWrites.{safe-writes, writes-cells}
use Rattle.nofs_files.proofs.OnPuts.Image.{Climb, Climbs, climb-once, image-shown}
use Rattle.nofs_files.proofs.OnPuts.Slots.{slots-shown}
use Rattle.nofs_files.proofs.OnPuts.Proper.{ProperShown, proper-shown}
use Rattle.nofs_files.proofs.OnPuts.Mount.{climb-done, climb-proper, climb-numbered}
use Rattle.nofs_state.proofs.OnBooks.CurrentFiles.{current-agreed}
use Rattle.nofs_state.proofs.OnBooks.ClaimedBlocks.{Takes}
use Rattle.nofs_files.proofs.OnPuts.Ways.{way_writes, way-count}
use Rattle.nofs_files.specs.Puts.{HasRoom, put_answer, step_of_put}
use Rattle.nofs_files.specs.declared.puts.put.Put.{Put}
use Rattle.nofs_files.proofs.OnPuts.Rooms.{IsAsked, rows-pass}
use Rattle.nofs_files.proofs.OnPuts.Books.{IsTaking}

-- what a Put at any depth owes in an open world
pub record IsClimb (d : DiskState) (p : Past) (i g slot at : ℕ) (bytes : List ℕ) (r r' : Record) (m : ℕ) (way : Path)
    (places : Path → Pointer)
    (cells : Path → Cell) (c : Claims) (c2 : Cell) : Type 0 where
  pub climbs : Climbs d.now i g slot at bytes r r' m way places cells c c2
  pub needs : blocks_for p.world.files i slot ≡ m
  pub claim : IsClaim p.world (step.Put i g slot at bytes) c

-- such a Put on its way, and what is shown of it
abbrev climbing : (new : DiskState) {d : DiskState} {k l : Books} {H : List Entry1} {p : Past} {i g slot at : ℕ}
    {bytes : List ℕ} {r r' : Record} {m : ℕ} {way : Path} {places : Path → Pointer} {cells : Path → Cell}
    {c : Claims} {c2 : Cell}
    → IsDisk d → IsTrue d.tells → IsSafe d k → IsOpen d k H p
    → IsClimb d p i g slot at bytes r r' m way places cells c c2 → Takes k l c m → Climb
climbing new {d} {k} {l} {H} {p} {i} {g} {slot} {at} {bytes} {r} {r'} {m} {way} {places} {cells} {c} {c2}
    is_d tells safe o f takes = record {
      new = new;
      l = l;
      safe = safe;
      standing = record { old = d; k = k; H = H; p = p; is_old = is_d; tells = tells; o = o };
      asked = record { i = i; g = g; slot = slot; at = at; bytes = bytes };
      written = record { r = r; r' = r'; m = m; way = way; places = places; cells = cells; c = c; c2 = c2 };
      h = f.climbs;
      needs = f.needs;
      claim = f.claim;
      takes = takes;
    }

abbrev shown-of : Climb → ProperShown
shown-of climb = proper-shown (slots-shown (image-shown climb))

pub climb-goes : (d new : DiskState) (k l' l : Books) (i g slot at : ℕ) (bytes : List ℕ) (r r' : Record) (m : ℕ)
    (way : Path) (places : Path → Pointer)
    (cells : Path → Cell) (c : Claims) (c2 : Cell) (result : Result (Unit {0}) Refusal) → IsDisk d → IsDisk new
    → IsSafe d k → IsSafe d l' → k.stopped ≡ false → IsApart (way_writes places cells (table_block i, c2) m way) 0
    → Takes k l' c m → path_of slot ≡ way → length (claimed_blocks c) ≡ m
    → (IsTrue d.tells → (H : List Entry1) (p : Past) → IsOpen d k H p
    → IsClimb d p i g slot at bytes r r' m way places cells c c2)
    → RowsPass d k (step.Put i g slot at bytes)
    → Stores d l' new l (way_writes places cells (table_block i, c2) m way) result
    → Goes d k new l (step.Put i g slot at bytes) c (put_answer result)
unfolding gives
climb-goes d new k l' l i g slot at bytes r r' m way places cells c c2 result is_d is_new safe claimed going apart takes
    path number facts pass stores = go stores
  where
    l-at : l'.at ≡ k.at
    l-at = ap (λ (b : Books). b.at) takes.same

    l-history : l'.history ≡ k.history
    l-history = ap (λ (b : Books). b.history) takes.same

    l-going : l'.stopped ≡ false
    l-going = ap (λ (b : Books). b.stopped) takes.same ∙ going

    count : WritesSoMany (step.Put i g slot at bytes) c (length (way_writes places cells (table_block i, c2) m way))
    count = way-count places cells (table_block i, c2) m way ∙ sym (λ j. 2 + pointers_written (number j) (path j))

    owes : IsTrue d.tells → (H : List Entry1) (p : Past) → IsOpen d k H p
        → IsRow p.world.files (step.Put i g slot at bytes) c (way_writes places cells (table_block i, c2) m way)
    owes tells H p o = record {
      once = climb-once (climbing new is_d tells safe o (facts tells H p o) takes);
      exact = count;
    }

    go : Stores d l' new l (way_writes places cells (table_block i, c2) m way) result
        → Goes d k new l (step.Put i g slot at bytes) c (put_answer result)
    go (Stored writes same e) = subst₂
        (λ (b : Books) (q : Result (Unit {0}) Refusal). Goes d k new b (step.Put i g slot at bytes) c (put_answer q))
        (sym same) (sym e)
        (goes-done d new k l' (step.Put i g slot at bytes) c reply.Stored
        (way_writes places cells (table_block i, c2) m way) is_d is_new going l-at l-history
        l-going
        (safe-writes d new l' (way_writes places cells (table_block i, c2) m way)
        (Ok tt) l'.stopped writes apart claimed) refl writes.adds.disk
        writes.adds.past writes.later writes.no_fault
        (WritesAlone refl (writes-cells k (step.Put i g slot at bytes) c writes count owes)) safe
        (λ tells H p o. climb-done (shown-of (climbing new is_d tells safe o (facts tells H p o) takes)) writes
        (pass tells H p o)))
    go (NotStored x writes same e) = subst₂
        (λ (b : Books) (q : Result (Unit {0}) Refusal). Goes d k new b (step.Put i g slot at bytes) c (put_answer q))
        (sym same) (sym e)
        (goes-fault d new k (stopped_books l')
        (step.Put i g slot at bytes) c is_d going l-at l-history refl writes.adds.disk writes.adds.past writes.cause
        writes.later (WritesAlone refl (writes-cells k (step.Put i g slot at bytes) c writes count owes)) safe
        (safe-writes d new l' (way_writes places cells (table_block i, c2) m way) (Err x) true writes apart claimed)
        (λ tells H p o. climb-numbered (shown-of (climbing new is_d tells safe o (facts tells H p o) takes))
        writes.adds)
        (λ tells caller H p o. (
          climb-proper (shown-of (climbing new is_d tells safe o (facts tells H p o) takes))
              (entry caller d new (step.Put i g slot at bytes) c (reply.Refused refusal.WriteFault)) refl writes.adds,
          pass tells H p o (stopped_world p.world),
          refl,
          (facts tells H p o).claim,
        )))

-- the exit of each Put that writes, from the state before its last reads
pub ways-end : (old mid new : DiskState) (k l' l : Books) (i g slot at : ℕ) (bytes : List ℕ) (r r' : Record) (m : ℕ)
    (way : Path) (places : Path → Pointer)
    (cells : Path → Cell) (c : Claims) (c2 : Cell) (result : Result (Unit {0}) Refusal) → IsDisk mid → IsDisk new
    → StaysButFaults old mid → mid.faults ≡ old.faults
    → IsSafe old k → (IsSafe mid k → IsSafe mid l')
    → k.stopped ≡ false → IsApart (way_writes places cells (table_block i, c2) m way) 0 → Takes k l' c m
    → path_of slot ≡ way → length (claimed_blocks c) ≡ m
    → (IsTrue old.tells → (H : List Entry1) (p : Past) → IsOpen old k H p
    → IsClimb old p i g slot at bytes r r' m way places cells c c2)
    → RowsPass old k (step.Put i g slot at bytes)
    → Stores mid l' new l (way_writes places cells (table_block i, c2) m way) result
    → Goes old k new l (step.Put i g slot at bytes) c (put_answer result)
ways-end old mid new k l' l i g slot at bytes r r' m way places cells c c2 result is_mid is_new stays same
    safe claimed going
    apart takes path number facts pass
    stores =
    goes-after old mid keep same new k l (step.Put i g slot at bytes) c (put_answer result)
    (climb-goes mid new k l' l i g slot at bytes r r' m way places cells c c2 result is_mid is_new
    (safe-keeps old mid keep k safe)
    (claimed (safe-keeps old mid keep k safe)) going apart takes path number
    (λ t H p o. let f = facts (told t) H p (open-back old mid keep k H p o) in record {
      climbs = subst (λ (X : Image). Climbs X i g slot at bytes r r' m way places cells c c2)
          (sym stays.cells.now) f.climbs;
      needs = f.needs;
      claim = f.claim;
    })
    (λ t H p o V. pass (told t) H p (open-back old mid keep k H p o) V) stores)
  where
    keep : Keeping old mid
    keep = reads-keep old mid stays

    told : IsTrue mid.tells → IsTrue old.tells
    told t = subst (λ (q : Bool). IsTrue q) stays.disk.tells t

-- the same for a Put that claims
pub asked-ends : {old mid new : DiskState} {k l' l : Books} {p : Put} {r r' : Record} {m : ℕ} {c : Claims} {c2 : Cell}
    {result : Result (Unit {0}) Refusal}
    (way : Path) (places : Path → Pointer) (cells : Path → Cell) → IsAsked old k p r m → HasRoom k m
    → IsTaking old mid k l' p c m
    → IsDisk mid → IsDisk new → StaysButFaults old mid → mid.faults ≡ old.faults
    → path_of p.slot ≡ way → IsApart (way_writes places cells (table_block p.inode, c2) m way) 0
    → (IsTrue old.tells → agreed (files_in old.now) p.inode ≡ true
    → Climbs old.now p.inode p.generation p.slot p.at p.bytes.now r r' m way places cells c c2)
    → {t : ℕ} → t ≡ table_block p.inode → Stores mid l' new l (way_writes places cells (t, c2) m way) result
    → Goes old k new l (step_of_put p) c (put_answer result)
asked-ends {old} {mid} {new} {k} {l'} {l} {p} {r} {r'} {m} {c} {c2} {result} way places cells a room
    taking is_mid is_new
    stays same path apart climbs {t} at-table stores =
    ways-end old mid new k l' l p.inode p.generation p.slot p.at p.bytes.now r r' m way places cells c c2 result is_mid
    is_new stays same a.safe taking.safe
    a.going apart taking.takes path taking.number
    (λ t H q o. record {
      climbs = climbs t (current-agreed old.now p.inode p.generation (a.current t (are-agreed old k H q a.safe o)));
      needs = a.needs t H q o;
      claim = taking.claim H q o (a.needs t H q o);
    })
    (rows-pass a room)
    (subst (λ (n : ℕ). Stores mid l' new l (way_writes places cells (n, c2) m way) result) at-table stores)
