-- A whole team: its users beside its sweepers and its flusher, and what it leaves in a history.
use Rattle.std.proofs.Common.{◌≡◌, inr, ℕ, ◌+◌, ◌-◌, ◌≤◌, Bool, true, List, [], ◌∷◌, length, Some}
use Rattle.std.proofs.Common.{drop, refl, sym, ap, ◌∙◌, subst, arith}
use mathlib.Core.List.{IsPrefix}
use Rattle.nofs_turn.specs.declared.rule.view.View.{View}
use Rattle.nofs_turn.specs.Lists.{numbered}
use Rattle.nofs_turn.proofs.OnLists.Words.{prefix_self}
use Rattle.nofs_history.specs.declared.machine.callers.TheConstants.{BLOCK_SWEEPER, INODE_SWEEPER, MOST_USERS}
use Rattle.nofs_history.specs.Steps.{Made}
use Rattle.nofs_history.specs.declared.machine.history.Entry1.{Entry1}
use Rattle.nofs_history.specs.declared.machine.steps.ElementKind.{ElementKind}
use Rattle.nofs_history.specs.declared.machine.steps.ElementKind.TheVariants.{Inode, Block}
use Rattle.nofs_history.specs.Callers.{steps_by}
use Rattle.nofs_client.specs.declared.task.commands.Command.{Command}
use Rattle.nofs_client.specs.declared.task.lines.Line.{Line}
use Rattle.nofs_client.specs.Driver.{IsBegun}
use Rattle.nofs_workers.specs.Sweep.{Sweeps}
use Rattle.nofs_serve.specs.Teams.Beside.{BesideGathered, SweepsMade}
use Rattle.nofs_serve.specs.Teams.Joins.{Gathers, made_by}
use Rattle.nofs_serve.specs.Teams.Users.{UsersBegun, UsersEnded}
use Rattle.nofs_serve.specs.Session.{TeamEnded, TeamMade, TeamGathered, TeamServed, UsersGathered}
use Rattle.nofs_serve.proofs.OnTeams.Joins.{closes-grown, closes-made}
use Rattle.nofs_serve.proofs.OnTeams.Sweeps.{has-no-room, no-room-left, sweeps-served, sweeps-told}

module _ {F : Type 0} (room : F → ℕ) (scripts : List (List Command)) (inodes blocks : ℕ) (out short : Bool)
    (early : List Bool) (lines : List (List Line)) (v z u : View Entry1 F) (few : length scripts ≤ MOST_USERS)
    (b : BesideGathered room inodes blocks out v z) where
  -- the users are joined to the sweepers and the flusher
  pub team-gathers : (((c : ℕ) → 1 ≤ c → c ≤ length scripts → made_by c z ≡ []) → Gathers v z 3
      → Gathers v u (3 + length scripts) × UsersGathered scripts out short early lines z u)
      → TeamGathered room scripts inodes blocks short early lines v u
  team-gathers users =
      let r = users (λ c low high. b.others c (λ e. absurd (omega (arith, few, high, e)))
      (λ e. absurd (omega (arith, few, high, e)))) b.gathers in
      let g = r.1 in
      let of_inodes : made_by INODE_SWEEPER u ≡ made_by INODE_SWEEPER z =
      g.others INODE_SWEEPER (inr (omega (arith, few))) in
      let of_blocks : made_by BLOCK_SWEEPER u ≡ made_by BLOCK_SWEEPER z =
      g.others BLOCK_SWEEPER (inr (omega (arith, few))) in
      record {
        gathers = subst (λ n. Gathers v u n) (omega arith) r.0;
        made = record {
          begun = g.begun;
          served = g.served;
          inodes_seen = sweeps-told (λ place item. item ≡ place) Inode inodes out short (made_by INODE_SWEEPER z)
              (made_by INODE_SWEEPER u) g.was_short of_inodes b.made.inodes_seen;
          blocks_seen = sweeps-told (λ place item. item ≡ blocks - 1 - place) Block blocks out short
              (made_by BLOCK_SWEEPER z) (made_by BLOCK_SWEEPER u) g.was_short of_blocks b.made.blocks_seen;
          others = λ c nobody. g.others c nobody.2 ∙ b.others c nobody.0 nobody.1;
        };
        users = g.each;
        swept = out;
        sweeps = record {
          inodes_seen = sweeps-told (λ place item. item ≡ place) Inode inodes out out (made_by INODE_SWEEPER z)
              (made_by INODE_SWEEPER u) (λ e. e) of_inodes b.made.inodes_seen;
          blocks_seen = sweeps-told (λ place item. item ≡ blocks - 1 - place) Block blocks out out
              (made_by BLOCK_SWEEPER z) (made_by BLOCK_SWEEPER u) (λ e. e) of_blocks b.made.blocks_seen;
        };
        lacks = λ e. has-no-room room z u (b.lacks e) (r.0.fixed ∙ sym b.gathers.fixed) g.knew;
      }

module _ (scripts : List (List Command)) (inodes blocks : ℕ) where
  begun-none : (c : ℕ) (done : List (List Command)) (by : ℕ → List Made) → ((d : ℕ) → by d ≡ []) → UsersBegun c done by
  begun-none c [] by none = tt
  begun-none c (s ∷ done) by none = (
    (
      [],
      record {
        run = [];
        left = s;
        front = [];
        back = [];
        commands_are = refl;
        made_are = none c;
        driven = (refl, refl);
        begun = nothing s;
      },
    ),
    begun-none (c + 1) done by none,
  )
    where
      nothing : (t : List Command) → IsBegun t []
      nothing [] = refl
      nothing (x ∷ t) = tt

  drop-whole : (H : List Entry1) → drop (length H) H ≡ []
  drop-whole [] = refl
  drop-whole (e ∷ H) = drop-whole H

  sweeps-none : (Item : ℕ → ℕ → Type 0) (kind : ElementKind) (count : ℕ) (short : Bool) (now : List Made)
      → short ≡ true → now ≡ []
      → Sweeps Item kind 0 count short [] now
  sweeps-none Item kind count short now is none = record {
    elements = [];
    at_most = omega arith;
    whole = λ e. absurd (cc);
    ordered = λ k h. absurd (omega (arith, h));
    makes = record { made = []; more = none; steps = refl };
  }

  -- nothing was served
  pub team-unserved : (short : Bool) (lines : List (List Line)) (H K : List Entry1)
      → K ≡ H → short ≡ true → TeamServed scripts inodes blocks short lines H K
  team-unserved short lines H K is wants =
      let none : (c : ℕ) → steps_by c (drop (length H) K) ≡ [] = λ c. ap (λ l. steps_by c (drop (length H) l)) is
      ∙ ap (steps_by c) (drop-whole H) in
      record {
        grown = subst (λ l. IsPrefix H l) (sym is) (prefix_self H);
        made = record {
          begun = begun-none 1 scripts (λ c. steps_by c (drop (length H) K)) none;
          served = λ e. absurd (cc);
          inodes_seen = sweeps-none (λ place item. item ≡ place) Inode inodes short
              (steps_by INODE_SWEEPER (drop (length H) K)) wants (none INODE_SWEEPER);
          blocks_seen = sweeps-none (λ place item. item ≡ blocks - 1 - place) Block blocks short
              (steps_by BLOCK_SWEEPER (drop (length H) K)) wants (none BLOCK_SWEEPER);
          others = λ c nobody. none c;
        };
      }

  -- the passes in one are closed
  module _ {F : Type 0} (room : F → ℕ) (short : Bool) (early : List Bool) (lines : List (List Line))
      (H K : List Entry1) (v u : View Entry1 F) (seen : v.seen ≡ H) (start : v.start ≡ length H)
      (g : TeamGathered room scripts inodes blocks short early lines v u) (begins : IsPrefix u.seen K)
      (all : u.mine ≡ numbered u.start (drop u.start K)) where
    same : (c : ℕ) → made_by c u ≡ steps_by c (drop (length H) K)
    same = closes-made (length scripts + 3) H K v u start g.gathers all

    pub team-closed : TeamServed scripts inodes blocks short lines H K
    team-closed = record {
      grown = closes-grown (length scripts + 3) H K v u seen g.gathers begins;
      made = subst (λ (by : ℕ → List Made). TeamMade scripts inodes blocks short lines by) (λ i c. same c i) g.made;
    }

    pub team-ended : (f : F) → v.fixed ≡ Some f → TeamEnded scripts (room f) inodes blocks early lines H K
    team-ended f fixed = record {
      users = subst (λ (by : ℕ → List Made). UsersEnded 1 scripts early lines by) (λ i c. same c i) g.users;
      sweeps = sweeps-served (room f) inodes blocks g.swept H K
          (closes-grown (length scripts + 3) H K v u seen g.gathers begins)
          (subst (λ (by : ℕ → List Made). SweepsMade inodes blocks g.swept by) (λ i c. same c i) g.sweeps)
          (λ e. no-room-left room u f K (g.lacks e) (g.gathers.fixed ∙ fixed) begins);
    }
