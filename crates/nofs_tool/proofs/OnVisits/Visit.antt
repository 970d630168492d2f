-- Visits: what they leave, put together.
use Rattle.std.proofs.Common.{◌≡◌, ◌⊎◌, inl, inr, ℕ, zero, suc, ◌<◌, Bool, true, false, ◌||◌, not, List, [], length}
use Rattle.std.proofs.Common.{drop, refl, sym, ap, ◌∙◌, subst, arith}
use Rattle.nofs_super.specs.declared.superblock.SuperBlock.{SuperBlock}
use Rattle.nofs_model.specs.Geometry.{Image}
use Rattle.nofs_history.specs.Next.{Run}
use Rattle.nofs_history.specs.Steps.{Made, is_out_of_memory}
use Rattle.nofs_history.specs.World.{World, world_of}
use Rattle.nofs_history.specs.declared.machine.history.Entry1.{Entry1}
use Rattle.nofs_history.specs.declared.machine.steps.Step.TheVariants as step
use Rattle.nofs_history.specs.declared.machine.replies.Reply.{Reply}
use Rattle.nofs_history.specs.Callers.{steps_by}
use Rattle.nofs_shared.specs.Passes.Entries.{TellsStep}
use Rattle.nofs_serve.specs.Visit.{VisitMade, VisitServed}
use Rattle.nofs_history.specs.Faults.{has_fault}
use Rattle.nofs_tool.specs.Session.Whole.{IsWholeScan, ShowsDisk}
use Rattle.nofs_serve.proofs.OnTeams.Gathered.{neither}
use Rattle.nofs_serve.proofs.OnSession.{team-unserved}
use Rattle.nofs_tool.specs.Session.Serve.{AreSwept}
use Rattle.nofs_tool.specs.Visits.Visit.{IsVisitRun}
use Rattle.nofs_tool.proofs.OnSession.Serve.{adds-others, sweeps-shorter, twice}
use Rattle.nofs_tool.proofs.OnSession.Whole.{whole-by}

anyone : (c : ℕ) → (c ≡ 0) ⊎ (0 < c)
anyone zero = inl refl
anyone (suc c) = inr (omega arith)

module _ (P Q : List Made → Type 0) (inodes blocks : ℕ) (short : Bool) where
  -- less is said of the visitor's steps
  pub visit-run-maps : (H : List Entry1) → ((m : List Made) → P m → Q m) → IsVisitRun P inodes blocks short H
      → IsVisitRun Q inodes blocks short H
  visit-run-maps H less r = record {
    served = r.served;
    flush = r.flush;
    closes = r.closes;
    closed = r.closed;
    made = record {
      visited = less (steps_by 1 r.served) r.made.visited;
      inodes_seen = r.made.inodes_seen;
      blocks_seen = r.made.blocks_seen;
      others = r.made.others;
    };
    swept = r.swept;
  }

module _ (P : List Made → Type 0) (inodes blocks : ℕ) where
  -- nobody visited
  pub visit-none : (short : Bool) (H K : List Entry1) → K ≡ H → short ≡ true → P []
      → VisitServed P inodes blocks short H K
  visit-none short H K is wants p =
      let t = team-unserved [] inodes blocks short [] H K is wants in
      let nobody : steps_by 1 (drop (length H) K) ≡ [] = t.made.others 1
      ((λ e. absurd (omega (arith, e))), (λ e. absurd (omega (arith, e))), inr (omega arith)) in
      record {
        grown = t.grown;
        made = record {
          visited = subst P (sym nobody) p;
          inodes_seen = t.made.inodes_seen;
          blocks_seen = t.made.blocks_seen;
          others = λ c own a b. t.made.others c (a, b, anyone c);
        };
      }

  -- a visit, and then the flush
  pub visit-closed : (out closed : Bool) (before served all : List Entry1) (flush : Reply)
      → before ≡ [] → VisitServed P inodes blocks out before served → AreSwept inodes blocks before served
      → TellsStep 0 (step.Flush 0 0) served all flush → closed ≡ not (is_out_of_memory flush)
      → IsVisitRun P inodes blocks (out || not closed) all
  visit-closed out closed before served all flush empty v swept adds is =
      let made : VisitMade P inodes blocks out (λ c. steps_by c served) = subst
      (λ (h : List Entry1). VisitMade P inodes blocks out (λ c. steps_by c (drop (length h) served))) empty v.made in
      record {
        served = served;
        flush = flush;
        closes = adds;
        closed = λ e. twice (is_out_of_memory flush) (ap not (sym is) ∙ (neither out (not closed) e).1);
        made = record {
          visited = made.visited;
          inodes_seen = sweeps-shorter _ _ inodes out (out || not closed) _
              (λ e. (neither out (not closed) e).0) made.inodes_seen;
          blocks_seen = sweeps-shorter _ _ blocks out (out || not closed) _
              (λ e. (neither out (not closed) e).0) made.blocks_seen;
          others = made.others;
        };
        swept = subst (λ (h : List Entry1). AreSwept inodes blocks h served) empty swept;
      }

  -- the visitor's steps are those of the whole history
  pub visit-steps : (short : Bool) (H : List Entry1) → IsVisitRun P inodes blocks short H → P (steps_by 1 H)
  visit-steps short H r =
      let same : steps_by 1 H ≡ steps_by 1 r.served =
      adds-others 0 1 (step.Flush 0 0) r.flush r.served H r.closes.adds (λ e. absurd (omega (arith, e))) in
      subst P (sym same) r.made.visited

-- the sweeps beside a visit saw all
pub whole-visit : (P : List Made → Type 0) (at : SuperBlock) (H : List Entry1) (start first : ℕ) (B : Image)
    (V : World) (X : Image)
    → IsVisitRun P at.inodes at.blocks false H → Run start (world_of B first) H V
    → has_fault H ≡ false → ShowsDisk at V X → IsWholeScan V X
whole-visit P at H start first B V X run =
    whole-by at run.served H run.flush run.closes.adds run.made.inodes_seen run.made.blocks_seen start first B V X
