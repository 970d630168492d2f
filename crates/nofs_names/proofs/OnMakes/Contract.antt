-- The contract of Make, from what it writes.
use Rattle.std.proofs.Common.{◌≡◌, ℕ, ◌+◌, ◌/◌, false, List, length, Option, Result, Ok, Err, IsTrue, refl, sym, ap}
use Rattle.std.proofs.Common.{◌∙◌, subst}
use Rattle.nofs_disk.specs.Disk.{DiskState, IsDisk}
use Rattle.nofs_disk.specs.declared.tag.Cell.{Cell}
use Rattle.nofs_inode.specs.declared.inode.FileKind.{FileKind}
use Rattle.nofs_ptrs.specs.Paths.{path_of}
use Rattle.nofs_history.specs.World.{blocks_needed}
use Rattle.nofs_history.specs.Claims.{claimed_blocks}
use Rattle.nofs_history.specs.Writes.{name_cells, name_cells_at}
use Rattle.nofs_history.specs.declared.machine.history.Claims.{Claims}
use Rattle.nofs_history.specs.declared.machine.history.Entry1.{Entry1}
use Rattle.nofs_history.specs.declared.machine.steps.Step.TheVariants as step
use Rattle.nofs_history.specs.declared.machine.replies.Reply.TheVariants as reply
use Rattle.nofs_history.specs.declared.machine.replies.Refusal.{Refusal}
use Rattle.nofs_state.specs.Books.Maps.{IsSafe}
use Rattle.nofs_state.specs.Cores.Invariant.{IsOpen, Past}
use Rattle.nofs_state.specs.Cores.Steps.{Goes}
use Rattle.nofs_state.specs.declared.books.maps.Books.{Books}
use Rattle.nofs_disk.specs.Order.{IsApart, WritesOnce, image_after}
use Rattle.nofs_state.specs.Writes.Cells.{Stores}
use Rattle.nofs_state.specs.Writes.Premises.{RowsPass}
use Rattle.nofs_names.specs.Renames.Parts.{done_answer}
use Rattle.nofs_names.specs.Makes.{made_answer}
use Rattle.nofs_names.proofs.OnSteps.Claims.{TakenBoth, taken-same}
use Rattle.nofs_names.proofs.OnSteps.OpenMount.{WritesName, stores-goes}
use Rattle.nofs_names.proofs.OnMakes.Premises.{Makes}
use Rattle.nofs_names.proofs.OnMakes.Writes.{make-gives, make-follows}
use Rattle.nofs_history.specs.Machine.{make_given}

-- what the writes of a Make owe in an open world
pub record IsMade (b : DiskState) (H : List Entry1) (p : Past) (d g : ℕ) (name : List ℕ) (kind : FileKind) (e : ℕ)
    (c : Claims) (ws : List (ℕ × Cell)) (m : ℕ) :
    Type 0 where
  pub it : Makes b.now (image_after ws b.now) p.world d g name kind e c
  pub ends : WritesName b H p (step.Make d g name kind) c (make_given p.world.files d g name kind c e) d c.inode ws
  pub once : WritesOnce ws
  pub needs : blocks_needed p.world.files (step.Make d g name kind) ≡ m

-- the answer of a Make
answer-is : (c : Claims) (result : Result (Unit {0}) Refusal)
    → done_answer (reply.Made c.inode c.generation) result ≡ made_answer c result
answer-is c (Ok done) = refl
answer-is c (Err why) = refl

pub made-goes : (b new : DiskState) (k q l : Books) (d g : ℕ) (name : List ℕ) (kind : FileKind) (e : ℕ) (c : Claims)
    (ws : List (ℕ × Cell)) (m : ℕ)
    (result : Result (Unit {0}) Refusal) → IsDisk b → IsDisk new → IsSafe b k → IsSafe b q
    → k.stopped ≡ false → IsApart ws 0 → TakenBoth k q c m
    → ((tells : IsTrue b.tells) (H : List Entry1) (p : Past) → IsOpen b k H p → IsMade b H p d g name kind e c ws m)
    → RowsPass b k (step.Make d g name kind) → Stores b q new l ws result
    → length ws ≡ name_cells (length (claimed_blocks c)) d c.inode (path_of (e / 16))
    → Goes b k new l (step.Make d g name kind) c (made_answer c result)
made-goes b new k q l d g name kind e c ws m result is_b is_new safe claimed going apart taken made pass stores count =
    subst (Goes b k new l (step.Make d g name kind) c) (answer-is c result)
    (stores-goes b new k q l (step.Make d g name kind) c
    (reply.Made c.inode c.generation) ws result is_b is_new safe going claimed
    (taken-same k q c (1 + m) taken.all) apart refl (path_of (e / 16), count) refl refl refl
    (λ tells H p o. let f = made tells H p o in record {
      step = record {
        given = make_given p.world.files d g name kind c e;
        directory = d;
        file = c.inode;
        gives = make-gives b k H p d g name kind e c ws is_b tells o f.it;
        ends = f.ends;
        row = record {
          once = f.once;
          exact = count
              ∙ sym (ap (λ (at : Option ℕ). name_cells_at at (length (claimed_blocks c)) d c.inode) f.it.place);
        };
      };
      follows = make-follows b k H p d g name kind e c ws is_b tells o f.it q m taken f.needs;
      answer = refl;
    }) pass stores)
