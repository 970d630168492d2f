-- A whole visit: its sweepers, its flusher and its visitor, and what it leaves in a history.
use Rattle.std.proofs.Common.{◌≡◌, ◌≢◌, ℕ, ◌-◌, Bool, List, [], length, drop, Some, sym, ◌∙◌, subst, arith}
use mathlib.Core.List.{IsPrefix}
use Rattle.nofs_turn.specs.declared.rule.view.View.{View}
use Rattle.nofs_turn.specs.Lists.{numbered}
use Rattle.nofs_history.specs.declared.machine.callers.TheConstants.{BLOCK_SWEEPER, INODE_SWEEPER}
use Rattle.nofs_history.specs.Steps.{Made}
use Rattle.nofs_history.specs.declared.machine.history.Entry1.{Entry1}
use Rattle.nofs_history.specs.declared.machine.steps.ElementKind.TheVariants.{Inode, Block}
use Rattle.nofs_history.specs.Callers.{steps_by}
use Rattle.nofs_shared.specs.Passes.Entries.{own_steps}
use Rattle.nofs_shared.specs.Passes.Seats.{SameSeat}
use Rattle.nofs_workers.specs.Sweep.{Sweeps}
use Rattle.nofs_serve.specs.Teams.Beside.{BesideGathered, SweepsMade, SweepsServed}
use Rattle.nofs_serve.specs.Teams.Joins.{JoinsOwn, made_by}
use Rattle.nofs_serve.specs.Visit.{VisitMade, VisitGathered, VisitServed}
use Rattle.nofs_serve.proofs.OnTeams.Joins.{closes-grown, closes-made, joins-own, joins-other, gathers-more}
use Rattle.nofs_serve.proofs.OnTeams.Sweeps.{has-no-room, no-room-left, sweeps-served}

module _ {F : Type 0} (room : F → ℕ) (Visits : List Made → Type 0) (inodes blocks : ℕ) (short : Bool) where
  -- a visitor's pass is joined to those of the sweepers and the flusher
  pub visit-gathers : (v z g u : View Entry1 F)
      → v.stands ≡ 1 → BesideGathered room inodes blocks short v z → SameSeat v g
      → JoinsOwn 1 z g u → Visits (own_steps g.mine) → VisitGathered room Visits inodes blocks short v u
  visit-gathers v z g u one b same j visits =
      let nobody : made_by 1 z ≡ [] =
      b.others 1 (λ e. absurd (omega (arith, e))) (λ e. absurd (omega (arith, e))) in
      let own : made_by 1 u ≡ own_steps g.mine = joins-own 1 z g u j nobody in
      let apart : (c : ℕ) → c ≢ 1 → made_by c u ≡ made_by c z = λ c n. joins-other 1 c z g u j n in
      let four = gathers-more 1 3 v z g u one b.gathers j same in
      record {
        gathers = four;
        made = record {
          visited = subst Visits (sym own) visits;
          inodes_seen = subst (λ (m : List Made). Sweeps (λ place item. item ≡ place) Inode 0 inodes short [] m)
              (sym (apart INODE_SWEEPER (λ e. absurd (omega (arith, e))))) b.made.inodes_seen;
          blocks_seen =
              subst (λ (m : List Made). Sweeps (λ place item. item ≡ blocks - 1 - place) Block 0 blocks short [] m)
              (sym (apart BLOCK_SWEEPER (λ e. absurd (omega (arith, e))))) b.made.blocks_seen;
          others = λ c not_own not_inodes not_blocks. apart c not_own ∙ b.others c not_inodes not_blocks;
        };
        lacks = λ e. has-no-room room z u (b.lacks e) (four.fixed ∙ sym b.gathers.fixed) j.knew;
      }

  -- the passes in one are closed
  module _ (H K : List Entry1) (v u : View Entry1 F) (seen : v.seen ≡ H) (start : v.start ≡ length H)
      (g : VisitGathered room Visits inodes blocks short v u) (begins : IsPrefix u.seen K)
      (all : u.mine ≡ numbered u.start (drop u.start K)) where
    same : (c : ℕ) → made_by c u ≡ steps_by c (drop (length H) K)
    same = closes-made 4 H K v u start g.gathers all

    grown : IsPrefix H K
    grown = closes-grown 4 H K v u seen g.gathers begins

    pub visit-closed : VisitServed Visits inodes blocks short H K
    visit-closed = record {
      grown = grown;
      made = subst (λ (by : ℕ → List Made). VisitMade Visits inodes blocks short by) (λ i c. same c i) g.made;
    }

    pub visit-sweeps : (f : F) → v.fixed ≡ Some f → SweepsServed (room f) inodes blocks H K
    visit-sweeps f fixed = sweeps-served (room f) inodes blocks short H K grown
        (subst (λ (by : ℕ → List Made). SweepsMade inodes blocks short by) (λ i c. same c i)
        (record { inodes_seen = g.made.inodes_seen; blocks_seen = g.made.blocks_seen }))
        (λ e. no-room-left room u f K (g.lacks e) (g.gathers.fixed ∙ fixed) begins)
