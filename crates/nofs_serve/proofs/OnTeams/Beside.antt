-- The sweepers and the flusher: their passes in one.
use Rattle.std.proofs.Common.{◌≡◌, ◌≢◌, ℕ, ◌-◌, eqb, eqb-true, eq-eqb, Bool, true, false, ◌||◌, List, []}
use Rattle.std.proofs.Common.{refl, sym, ap, ◌∙◌, subst, arith}
use Rattle.nofs_turn.specs.declared.rule.view.View.{View}
use Rattle.nofs_turn.proofs.OnLists.Words.{prefix_trans}
use Rattle.nofs_history.specs.declared.machine.callers.TheConstants.{BLOCK_SWEEPER, FLUSHER, INODE_SWEEPER}
use Rattle.nofs_history.specs.Steps.{Made}
use Rattle.nofs_history.specs.declared.machine.history.Entry1.{Entry1}
use Rattle.nofs_history.specs.declared.machine.steps.ElementKind.{ElementKind}
use Rattle.nofs_history.specs.declared.machine.steps.ElementKind.TheVariants.{Inode, Block}
use Rattle.nofs_shared.specs.Passes.Entries.{all_by, own_steps}
use Rattle.nofs_shared.specs.Passes.Rooms.{LacksRoom}
use Rattle.nofs_shared.specs.Passes.Seats.{SameSeat}
use Rattle.nofs_workers.specs.Sweep.{Sweeps}
use Rattle.nofs_serve.specs.Teams.Beside.{BesideGathered, HasIdled, HasNoRoom, HasSwept}
use Rattle.nofs_serve.specs.Teams.Joins.{Gathers, JoinsOwn, made_by}
use Rattle.nofs_serve.proofs.OnTeams.Joins.{made_by-own, made_by-other, joins-own, joins-other, gathers-one}
use Rattle.nofs_serve.proofs.OnTeams.Joins.{gathers-more}
use Rattle.nofs_serve.proofs.OnTeams.Sweeps.{has-no-room, sweeps-told}

-- a sweeper has worked, whose pass had no entries before
has-swept : {F : Type 0} (room : F → ℕ) (Item : ℕ → ℕ → ℕ → Type 0) (kind : ElementKind) (count given : ℕ)
    (short : Bool) (caller by : ℕ) (v before w : View Entry1 F) → before ≡ v → v.mine ≡ [] → given ≡ count → by ≡ caller
    → Sweeps (Item given) kind 0 given short (own_steps before.mine) (own_steps w.mine) → SameSeat before w
    → (short ≡ true → LacksRoom room by w) → HasSwept room (Item count) kind count short caller v w
has-swept room Item kind count given short caller by v before w is none count_is caller_is swept seat lacks = record {
  seat = subst (λ z. SameSeat z w) is seat;
  made = subst (λ (x : ℕ × List Made). Sweeps (Item x.0) kind 0 x.0 short x.1 (own_steps w.mine))
      (λ i. (count_is i, (ap (λ z. own_steps z.mine) is ∙ ap own_steps none) i)) swept;
  lacks = λ e. subst (λ n. LacksRoom room n w) caller_is (lacks e);
}

-- a worker that makes no step has worked, whose pass had no entries before
has-idled : {F : Type 0} (v before w : View Entry1 F) → before ≡ v → v.mine ≡ []
    → own_steps w.mine ≡ own_steps before.mine → SameSeat before w → HasIdled v w
has-idled v before w is none made seat = record {
  seat = subst (λ z. SameSeat z w) is seat;
  none = made ∙ (ap (λ z. own_steps z.mine) is ∙ ap own_steps none);
}

-- all three have worked, by what each has then done
pub all-worked : {F A B C T U : Type 0} (room : F → ℕ) (inodes blocks up_to down_from : ℕ) (short short_blocks : Bool)
    (caller caller_blocks by by_blocks : ℕ) (v i p b w f x : View Entry1 F)
    → (i ≡ v) × (b ≡ v) × (f ≡ v) → v.mine ≡ [] → (up_to ≡ inodes) × (down_from ≡ blocks)
    → (caller ≡ INODE_SWEEPER) × (caller_blocks ≡ BLOCK_SWEEPER) × C
    → A × Sweeps (λ place item. item ≡ place) Inode 0 up_to short (own_steps i.mine) (own_steps p.mine)
    × (T × (by ≡ caller) × SameSeat i p) × (short ≡ true → LacksRoom room by p)
    → B × Sweeps (λ place item. item ≡ down_from - 1 - place) Block 0 down_from short_blocks (own_steps b.mine)
    (own_steps w.mine) × (U × (by_blocks ≡ caller_blocks) × SameSeat b w)
    × (short_blocks ≡ true → LacksRoom room by_blocks w)
    → own_steps x.mine ≡ own_steps f.mine → SameSeat f x
    → HasSwept room (λ place item. item ≡ place) Inode inodes short INODE_SWEEPER v p
    × HasSwept room (λ place item. item ≡ blocks - 1 - place) Block blocks short_blocks BLOCK_SWEEPER v w × HasIdled v x
all-worked room inodes blocks up_to down_from short short_blocks caller caller_blocks by by_blocks v i p b w f x seen
    none counts callers up down idle same = (
      has-swept room (λ n place item. item ≡ place) Inode inodes up_to short INODE_SWEEPER by v i p seen.0 none counts.0
          (up.2.1 ∙ callers.0) up.1 up.2.2 up.3,
      has-swept room
          (λ n place item. item ≡ n - 1 - place) Block blocks down_from short_blocks BLOCK_SWEEPER by_blocks v b
          w seen.1 none counts.1 (down.2.1 ∙ callers.1) down.1 down.2.2 down.3,
      has-idled v f x seen.2 none idle same,
    )

module _ {F : Type 0} (room : F → ℕ) (inodes blocks : ℕ) (out_inodes out_blocks out : Bool)
    (v p w q f u : View Entry1 F) (one : v.stands ≡ 1)
    (up : HasSwept room (λ place item. item ≡ place) Inode inodes out_inodes INODE_SWEEPER v p)
    (own : all_by INODE_SWEEPER p.mine ≡ true)
    (down : HasSwept room (λ place item. item ≡ blocks - 1 - place) Block blocks out_blocks BLOCK_SWEEPER v w)
    (j : JoinsOwn BLOCK_SWEEPER p w q) (idle : HasIdled v f) (k : JoinsOwn FLUSHER q f u)
    (either : out ≡ (out_inodes || out_blocks)) where
  none_of_sweeps : (c : ℕ) → c ≢ INODE_SWEEPER → c ≢ BLOCK_SWEEPER → made_by c q ≡ []
  none_of_sweeps c not_inodes not_blocks =
      joins-other BLOCK_SWEEPER c p w q j not_blocks ∙ made_by-other c INODE_SWEEPER p own not_inodes

  -- the flusher adds nothing
  flusher-adds : (c : ℕ) → made_by c u ≡ made_by c q
  flusher-adds c = go (eqb c FLUSHER) refl
    where
      go : (b : Bool) → eqb c FLUSHER ≡ b → made_by c u ≡ made_by c q
      go true e =
          let is : c ≡ FLUSHER = eqb-true c FLUSHER e in
          let none : made_by FLUSHER q ≡ [] =
          none_of_sweeps FLUSHER (λ n. absurd (omega (arith, n))) (λ n. absurd (omega (arith, n))) in
          subst (λ (n : ℕ). made_by n u ≡ made_by n q) (sym is)
          (joins-own FLUSHER q f u k none ∙ idle.none ∙ sym none)
      go false e = joins-other FLUSHER c q f u k
          (λ n. absurd (let t : eqb c FLUSHER ≡ true = eq-eqb c FLUSHER n in cc (t, e)))

  of_inodes : made_by INODE_SWEEPER u ≡ own_steps p.mine
  of_inodes = flusher-adds INODE_SWEEPER
      ∙ (joins-other BLOCK_SWEEPER INODE_SWEEPER p w q j (λ e. absurd (omega (arith, e)))
      ∙ made_by-own INODE_SWEEPER p own)

  of_blocks : made_by BLOCK_SWEEPER u ≡ own_steps w.mine
  of_blocks = flusher-adds BLOCK_SWEEPER ∙ joins-own BLOCK_SWEEPER p w q j
      (made_by-other BLOCK_SWEEPER INODE_SWEEPER p own (λ e. absurd (omega (arith, e))))

  -- the flag of both is set by that of one
  one-is : (P : Type 0) (a b : Bool) → out ≡ (a || b) → (a ≡ true → P) → (b ≡ true → P) → out ≡ true → P
  one-is P true b e first second is = first refl
  one-is P false b e first second is = second (sym e ∙ is)

  all-three : Gathers v u 3
  all-three = gathers-more FLUSHER 2 v q f u one
      (gathers-more BLOCK_SWEEPER 1 v p w q one (gathers-one v p one up.seat) j down.seat) k idle.seat

  less : (a b : Bool) → out ≡ (a || b) → out ≡ false → (a ≡ false) × (b ≡ false)
  less true b e is = absurd (cc (e, is))
  less false b e is = (refl, sym e ∙ is)

  pub beside-gathers : BesideGathered room inodes blocks out v u
  beside-gathers = record {
    gathers = all-three;
    made = record {
      inodes_seen = sweeps-told (λ place item. item ≡ place) Inode inodes out_inodes out (own_steps p.mine)
          (made_by INODE_SWEEPER u) (λ e. (less out_inodes out_blocks either e).0) of_inodes up.made;
      blocks_seen = sweeps-told (λ place item. item ≡ blocks - 1 - place) Block blocks out_blocks out
          (own_steps w.mine) (made_by BLOCK_SWEEPER u) (λ e. (less out_inodes out_blocks either e).1) of_blocks
          down.made;
    };
    lacks = one-is (HasNoRoom room u) out_inodes out_blocks either
        (λ e. has-no-room room p u (up.lacks e refl) (all-three.fixed ∙ sym up.seat.fixed)
        (prefix_trans p.seen q.seen u.seen j.knew k.knew))
        (λ e. has-no-room room w u (down.lacks e refl) (all-three.fixed ∙ sym down.seat.fixed)
        (prefix_trans w.seen q.seen u.seen j.heard k.knew));
    others = λ c not_inodes not_blocks. flusher-adds c ∙ none_of_sweeps c not_inodes not_blocks;
  }
