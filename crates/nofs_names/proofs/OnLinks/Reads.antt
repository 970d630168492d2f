-- What was found for a Link lies in its directory, and stands after more reads.
use Rattle.std.proofs.Common.{◌≡◌, ℕ, zero, suc, ◌+◌, ◌<◌, Bool, true, false, cond, List, ◌++◌}
use Rattle.std.proofs.Common.{Option, Some, None, IsTrue, refl, sym, ◌∙◌, subst, arith}
use Rattle.std.specs.Prelude.{IfSome}
use Rattle.nofs_dirent.specs.Entries.{entry_limit}
use Rattle.nofs_disk.specs.Disk.{DiskState, StaysButFaults}
use Rattle.nofs_model.specs.Geometry.{Image}
use Rattle.nofs_model.specs.Files.{Files}
use Rattle.nofs_history.specs.Search.{first_of, least_from}
use Rattle.nofs_history.specs.World.{World}
use Rattle.nofs_history.specs.declared.machine.history.Entry1.{Entry1}
use Rattle.nofs_history.specs.declared.machine.steps.Step.{Step}
use Rattle.nofs_history.specs.declared.machine.replies.Refusal.{Refusal}
use Rattle.nofs_state.proofs.OnCores.Unchanged.{open-back, reads-keep}
use Rattle.nofs_names.proofs.OnSteps.Reads.{directory-on}
use Rattle.nofs_names.proofs.OnSteps.Parts.{first-right}
use Rattle.nofs_agree.proofs.OnChain.{KnowsInode-on}
use Rattle.nofs_state.specs.Cores.Invariant.{IsOpen, Past}
use Rattle.nofs_state.specs.declared.books.maps.Books.{Books}
use Rattle.nofs_names.specs.Searches.Slots.{Passed}
use Rattle.nofs_names.specs.Searches.Refusals.{IsThere, KnownTrue}
use Rattle.nofs_names.specs.Entries.Places.{LiesInside}
use Rattle.nofs_names.specs.declared.searches.slots.Unfound.{Unfound}
use Rattle.nofs_names.specs.Links.{AreBoth, Leads, PlaceIs, SpotIs, StandsLink}
use Rattle.nofs_names.specs.declared.links.new_name.Both.{Both}

-- What was seen of a directory lies in it

least-in : (test : ℕ → Bool) (at n e : ℕ) → least_from test at n ≡ Some e → e < at + n
unfolding least_from
least-in test at zero e h = cc h
least-in test at (suc n) e h = go (test at) (λ q. least-in test (suc at) n e q) h
  where
    go : (b : Bool) → (least_from test (suc at) n ≡ Some e → e < suc at + n)
        → cond b (Some at) (least_from test (suc at) n) ≡ Some e → e < at + suc n
    go true deep q = let s : at ≡ e = cc q in omega (arith, s)
    go false deep q = let l = deep q in omega (arith, l)

inside : (test : ℕ → Bool) (n : ℕ) (o : Option ℕ) → least_from test 0 n ≡ o → IfSome o (λ e. e < n)
inside test n None h = tt
inside test n (Some e) h = let l = least-in test 0 n e h in omega (arith, l)

pub passed-inside : (F : Files) (d : ℕ) (name : List ℕ) (u : Unfound) → Passed F d name true entry_limit 72 u
    → LiesInside u
passed-inside F d name u p = record {
  dead = inside _ entry_limit u.dead p.dead;
  empty = inside _ entry_limit u.empty (p.empty refl);
  hole =
      inside _ 72 u.hole p.hole;
}

-- the directory and the file are still there
pub both-on : (old new : DiskState) (k : Books) (d g i of : ℕ) (b : Both) → StaysButFaults old new
    → AreBoth old k.at d g i of b → AreBoth new k.at d g i of b
both-on old new k d g i of b stays a = record {
  directory = directory-on old new stays k.at d b.directory.generation b.directory a.directory;
  file = (KnowsInode-on old new k.at i b.file stays a.file.0, a.file.1);
  generation = a.generation;
  of_is = a.of_is;
}

pub there-both-on : (old new : DiskState) (k : Books) (d i : ℕ) → StaysButFaults old new
    → (IsTrue old.tells → KnownTrue k old.now → IsThere d old.now × IsThere i old.now) → IsTrue new.tells
    → KnownTrue k new.now
    → IsThere d new.now × IsThere i new.now
there-both-on old new k d i stays there t =
    subst (λ (X : Image). KnownTrue k X → IsThere d X × IsThere i X) (sym stays.cells.now)
    (there (subst (λ (b : Bool). IsTrue b) stays.disk.tells t))

pub stands-on : (old new : DiskState) (k : Books) (d g : ℕ) (name : List ℕ) (i of : ℕ) (b : Both)
    → StaysButFaults old new → StandsLink old k d g name i of b
    → StandsLink new k d g name i of b
stands-on old new k d g name i of b stays s = record {
  known = both-on old new k d g i of b stays s.known;
  there = there-both-on old new k d i stays s.there;
  name_is = s.name_is;
}

pub place-on : (old new : DiskState) (k : Books) (d : ℕ) (name : List ℕ) (e : ℕ) → StaysButFaults old new
    → PlaceIs old k d name e → PlaceIs new k d name e
place-on old new k d name e stays place t H p o = place (subst (λ (b : Bool). IsTrue b) stays.disk.tells t) H p
    (open-back old new (reads-keep old new stays) k H p o)

pub spot-on : (old new : DiskState) (k : Books) (i b : ℕ) → StaysButFaults old new → SpotIs old k i b → SpotIs new k i b
spot-on old new k i b stays spot t H p o =
    spot (subst (λ (b : Bool). IsTrue b) stays.disk.tells t) H p (open-back old new (reads-keep old new stays) k H p o)

pub leads-on : (old new : DiskState) (k : Books) (s : Step) (rest : World → World → List (Option Refusal))
    → StaysButFaults old new → Leads old k s rest
    → Leads new k s rest
leads-on old new k s rest stays lead t H p o V = lead (subst (λ (b : Bool). IsTrue b) stays.disk.tells t) H p
    (open-back old new (reads-keep old new stays) k H p o) V

-- a part of the rows passes
pub leads-next : (old : DiskState) (k : Books) (s : Step) (part : World → List (Option Refusal))
    (rest : World → World → List (Option Refusal))
    → Leads old k s (λ W V. part W ++ rest W V)
    → (IsTrue old.tells → (H : List Entry1) (p : Past) → IsOpen old k H p → first_of (part p.world) ≡ None)
    → Leads old k s rest
leads-next old k s part rest lead passes t H p o V = lead t H p o V
    ∙ first-right (part p.world) (rest p.world V) (passes t H p o)
