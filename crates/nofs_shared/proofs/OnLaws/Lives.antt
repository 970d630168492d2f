-- Mounts with crashes between them are lives.
use Rattle.std.proofs.Math.Logic.{∥∥₁_elim, ∥∥₁_map, ∥∥₁_prop}
use mathlib.Core.HLevel.{×_prop, Unit-prop, Π_prop, ¬_prop}
use native.Mathlib.Bridge.{le_prop}
use Rattle.std.proofs.Common.{◌≡◌, ◌≢◌, ℕ, suc, ◌+◌, ◌<◌, ◌≤◌, true, inl, inr, List, [], ◌∷◌, ◌++◌, append-nil, length}
use Rattle.std.proofs.Common.{get_or, Contains, refl, sym, ap, ◌∙◌, subst, arith}
use Rattle.std.proofs.lemmas.Bool.{cases_lt}
use Rattle.nofs_disk.specs.Disk.{DiskState, IsDisk, Picks}
use Rattle.nofs_inode.specs.declared.inode.Record.{Record}
use Rattle.nofs_disk.specs.Pointer.{is_null}
use Rattle.nofs_model.specs.Geometry.{Image, inode}
use Rattle.nofs_model.specs.Slots.{record_pointer}
use Rattle.nofs_model.specs.declared.image.value.Value.{Value}
use Rattle.nofs_model.specs.declared.image.value.Value.TheVariants.{Bytes}
use Rattle.nofs_history.specs.Since.{agreed_files, values_given}
use Rattle.nofs_history.specs.World.{World, world_of}
use Rattle.nofs_history.specs.declared.machine.history.Entry1.{Entry1}
use Rattle.nofs_crashlaw.specs.Lives.{GivenIn, IsLife, IsNew, Life, Lives, Raised, Rising, SameOrUpgraded, claimed_by}
use Rattle.nofs_crashlaw.specs.Lives.{claimed_in}
use Rattle.nofs_crashlaw.proofs.OnLives.Begin.{law-given}
use Rattle.nofs_crashlaw.proofs.OnLives.Numbers.{law-once}
use Rattle.nofs_crashlaw.proofs.OnLives.OnlySuper.{same-inode}
use Rattle.nofs_crashlaw.proofs.OnLives.Values.{law-lives}
use Rattle.nofs_crashlaw.proofs.OnHistories.Unflushed.{law-unflushed}
use Rattle.nofs_shared.specs.Laws.{AreLives, GivenOver, IsBlank, IsOfRaise, LawMountContents, LawMountLives}
use Rattle.nofs_shared.specs.Laws.{LawMountOnce, Leaves, Mount, Mounts, claimed_over, base_of, life_in}
use Rattle.nofs_shared.proofs.OnLaws.After.{upgrade-again, upgraded-of}
use Rattle.nofs_shared.proofs.OnLaws.OneMount.{Says, base-raised, found-picks, is-allowed, is-life, of-raise, says}

-- a blank image with its number raised is the base of a first life
no-pointer : (X Y : Image) → inode Y ≡ inode X → IsBlank X
    → (i n : ℕ) → n < 10 → is_null (record_pointer (inode Y i) n) ≡ true
no-pointer X Y e blank i n lt =
    subst (λ (f : ℕ → Record). is_null (record_pointer (f i) n) ≡ true) (sym e) (blank.empty i n lt)

blank-upgraded : (X Y : Image) → SameOrUpgraded X Y → IsBlank X → IsBlank Y
blank-upgraded X Y (inl e) blank = subst IsBlank (sym e) blank
blank-upgraded X Y (inr up) blank =
    record { mount = up.mount ∙ blank.mount; empty = no-pointer X Y (λ j i. same-inode X Y up.only i j) blank }

blank-new : (X B : Image) → Raised X B → IsBlank X → IsNew B
blank-new X B r blank = record {
  mount = r.mount ∙ ap (λ (n : ℕ). n + 1) blank.mount;
  empty = no-pointer X B (λ j i. same-inode X B r.only i j) blank;
}

-- a mount that a crash ended inside its raise: a life without entries
abbrev early_life : Image → Life
early_life X = record { base = X; first = 0; start = 0; history = []; end = world_of X 0 }

-- each number is claimed once, which is a proposition
abbrev IsOnce : List ℕ → Type 0
IsOnce l = Rising 0 l × ((a b d : ℕ) → a < b → b < length l → get_or l a d ≢ get_or l b d)

rising-prop : (low : ℕ) (l : List ℕ) → IsProp (Rising low l)
rising-prop low [] = Unit-prop
rising-prop low (x ∷ l) = ×_prop le_prop (rising-prop (suc x) l)

once-prop : (l : List ℕ) → IsProp (IsOnce l)
once-prop l = ×_prop (rising-prop 0 l) (Π_prop (λ a. Π_prop (λ b. Π_prop (λ d. Π_prop (λ ab. Π_prop (λ lt. ¬_prop))))))

module _ {D : Type 0} (state : D → DiskState) (is : (d : D) → IsDisk (state d)) where
  -- The image comes after these mounts: a life that begins at it, or at an upgrade of it, comes after their lives
  record Comes (ms : List (Mount state)) (X : Image) : Type 0 where
    lives : List Life
    are : AreLives ms lives
    all : Lives lives
    next : (Y : Image) → SameOrUpgraded X Y → (l : Life) → Raised Y l.base → IsLife l → Lives (l ∷ lives)

  upgraded-comes : (ms : List (Mount state)) (X Y : Image) → SameOrUpgraded X Y → Comes ms X → Comes ms Y
  upgraded-comes ms X Y between c = record {
    lives = c.lives;
    are = c.are;
    all = c.all;
    next = λ Z again. c.next Z (upgrade-again X Y Z between again);
  }

  -- what a crash of a mount may leave comes after it, where what it found came after those before it
  module _ (ms : List (Mount state)) (k : Mount state) where
    late-comes : (s : Says state is k) (X : Image) (c : Leaves k X)
        → k.history.start ≤ c.moment → Comes ms (state k.found).now → Comes (k ∷ ms) X
    late-comes s X c late b =
        let l : Life = life_in k s.contents.world in
        let all : Lives (l ∷ b.lives) =
        b.next (state k.found).now (inl refl) l (base-raised state is k s) (is-life state is k s) in
        record {
          lives = l ∷ b.lives;
          are = (b.lives, b.are, inl (s.contents.world, refl));
          all = all;
          next = λ Y between l raised run. (
            record {
              moment = c.moment;
              left = X;
              found = Y;
              allowed = is-allowed state is k s X c late;
              between =
                  between;
              raised = raised;
            },
            run,
            all,
          );
        }

    without-comes : (X : Image) → k.history.entries ≡ [] → Comes ms X → Comes (k ∷ ms) X
    without-comes X none c =
        record { lives = c.lives; are = (c.lives, c.are, inr (none, inl refl)); all = c.all; next = c.next }

    early-comes : (X Y : Image) → k.history.entries ≡ [] → Raised Y X → Comes ms Y → Comes (k ∷ ms) X
    early-comes X Y none raised c =
        let all : Lives (early_life X ∷ c.lives) = c.next Y (inl refl) (early_life X) raised refl in
        record {
          lives = early_life X ∷ c.lives;
          are = (c.lives, c.are, inr (none, inr (early_life X, refl, refl)));
          all = all;
          next = λ Z between l again run. (
            record {
              moment = 0;
              left = X;
              found = Z;
              allowed = law-unflushed X [] 0 refl;
              between = between;
              raised =
                  again;
            },
            run,
            all,
          );
        }

    module _ (before : (Y : Image) → Picks (state k.found).may (state k.found).blocks Y → ∥ Comes ms Y ∥₁) where
      raise-comes : (X : Image) → k.history.entries ≡ [] → IsOfRaise (state k.found) X → ∥ Comes (k ∷ ms) X ∥₁
      raise-comes X none (inl p) = ∥∥₁_map (before X p) (λ c. without-comes X none c)
      raise-comes X none (inr r) = ∥∥₁_map (before r.0 r.1) (λ c. early-comes X r.0 none r.2 c)

      said-comes : (s : Says state is k) (X : Image) → Leaves k X → ∥ Comes (k ∷ ms) X ∥₁
      said-comes s X c = elim c.flushed [
        | inl late ↦ ∥∥₁_map (before (state k.found).now (found-picks state is k s)) (λ b. late-comes s X c late b)
        | inr none ↦ elim (cases_lt c.moment k.history.start) [
          | inl early ↦ raise-comes X none (of-raise state is k s c.moment X c.from (omega (arith, early)) c.left)
          | inr late ↦ ∥∥₁_map (before (state k.found).now (found-picks state is k s)) (λ b. late-comes s X c late b)
        ]
      ]

      left-comes : (X : Image) → Leaves k X → ∥ Comes (k ∷ ms) X ∥₁
      left-comes X c = ∥∥₁_elim (says state is k) ∥∥₁_prop (λ s. said-comes s X c)

  -- what a mount finds comes after those before it
  found-comes : (ms : List (Mount state)) (m : Mount state) → Mounts (m ∷ ms)
      → (Y : Image) → Picks (state m.found).may (state m.found).blocks Y
      → ∥ Comes ms Y ∥₁
  found-comes [] m h Y p = ∣ record {
    lives = [];
    are = refl;
    all = tt;
    next =
        λ Z between l raised run. (blank-new Z l.base raised (blank-upgraded Y Z between (h Y p)), run);
  } ∣₁
  found-comes (k ∷ ms) m h Y p =
      let f = h.0 Y p in
      ∥∥₁_map (left-comes ms k (found-comes ms k h.1) f.0 f.1)
      (λ c. upgraded-comes (k ∷ ms) f.0 Y (upgraded-of f.0 Y f.2) c)

  pub mount-lives : LawMountLives state
  mount-lives m ms h =
      ∥∥₁_elim (says state is m) ∥∥₁_prop
      (λ s. ∥∥₁_map (found-comes ms m h (state m.found).now (found-picks state is m s)) (λ b. (
        s.contents.world,
        b.lives,
        b.are,
        b.next (state m.found).now (inl refl) (life_in m s.contents.world) (base-raised state is m s)
            (is-life state is m s),
      )))

  -- what the lives of mounts claimed and gave, the mounts did
  claimed-same : (ms : List (Mount state)) (ls : List Life) → AreLives ms ls → claimed_by ls ≡ claimed_over ms
  claimed-same [] ls e = ap claimed_by e
  claimed-same (m ∷ ms) ls (rest, are, inl (W, e)) = ap claimed_by e
      ∙ ap (λ (l : List ℕ). l ++ claimed_in m.history.entries) (claimed-same ms rest are)
  claimed-same (m ∷ ms) ls (rest, are, inr (none, inl e)) =
      ap claimed_by e ∙ claimed-same ms rest are ∙ sym (append-nil (claimed_over ms))
      ∙ ap (λ (H : List Entry1). claimed_over ms ++ claimed_in H) (sym none)
  claimed-same (m ∷ ms) ls (rest, are, inr (none, inr (l, empty, e))) =
      ap claimed_by e ∙ ap (λ (H : List Entry1). claimed_by rest ++ claimed_in H) (empty ∙ sym none)
      ∙ ap (λ (c : List ℕ). c ++ claimed_in m.history.entries) (claimed-same ms rest are)

  once-of : (m : Mount state) (ms : List (Mount state)) (W : World) (ls : List Life) → AreLives ms ls
      → Lives (life_in m W ∷ ls)
      → IsOnce (claimed_over (m ∷ ms))
  once-of m ms W ls are all = subst IsOnce (ap (λ (l : List ℕ). l ++ claimed_in m.history.entries)
      (claimed-same ms ls are)) (law-once (life_in m W ∷ ls) all)

  pub mount-once : LawMountOnce state
  mount-once [] h = (tt, λ a b d ab lt. absurd (omega (arith, lt)))
  mount-once (m ∷ ms) h =
      ∥∥₁_elim (mount-lives m ms h) (once-prop (claimed_over (m ∷ ms))) (λ b. once-of m ms b.0 b.1 b.2 b.3)

  nothing-in : (v : Value) → Contains [] v → ⊥
  nothing-in v (n, lt, same) = omega (arith, lt)

  nothing-given : (B : Image) (H : List Entry1) (i g k : ℕ) (v : Value)
      → H ≡ [] → Contains (values_given (agreed_files B) H i g k) v → ⊥
  nothing-given B H i g k v e c =
      nothing-in v (subst (λ (K : List Entry1). Contains (values_given (agreed_files B) K i g k) v) e c)

  given-over : (ms : List (Mount state)) (ls : List Life) → AreLives ms ls
      → (i g k : ℕ) (content : List ℕ) → GivenIn ls i g k content
      → GivenOver ms i g k content
  given-over [] ls e i g k content given = subst (λ (l : List Life). GivenIn l i g k content) e given
  given-over (m ∷ ms) ls (rest, are, inl (W, e)) i g k content given =
      elim (subst (λ (l : List Life). GivenIn l i g k content) e given) [
        | inl here ↦ inl (law-given (agreed_files (base_of m)) m.history.entries i g k (Bytes content) here)
        | inr there ↦ inr (given-over ms rest are i g k content there)
      ]
  given-over (m ∷ ms) ls (rest, are, inr (none, inl e)) i g k content given =
      inr (given-over ms rest are i g k content (subst (λ (l : List Life). GivenIn l i g k content) e given))
  given-over (m ∷ ms) ls (rest, are, inr (none, inr (l, empty, e))) i g k content given =
      elim (subst (λ (l : List Life). GivenIn l i g k content) e given) [
        | inl here ↦ absurd (nothing-given l.base l.history i g k (Bytes content) empty here)
        | inr there ↦ inr (given-over ms rest are i g k content there)
      ]

  mounts-tail : (m : Mount state) (ms : List (Mount state)) → Mounts (m ∷ ms) → Mounts ms
  mounts-tail m [] h = tt
  mounts-tail m (k ∷ ms) h = h.1

  mounts-from : (later : List (Mount state)) (m : Mount state) (earlier : List (Mount state))
      → Mounts (later ++ m ∷ earlier) → Mounts (m ∷ earlier)
  mounts-from [] m earlier h = h
  mounts-from (x ∷ later) m earlier h = mounts-from later m earlier (mounts-tail x (later ++ m ∷ earlier) h)

  pub mount-contents : LawMountContents state
  mount-contents later m earlier h i g k content lt is_g is_v =
      ∥∥₁_map (mount-lives m earlier (mounts-from later m earlier h))
      (λ b. given-over earlier b.1 b.2 i g k content (law-lives [] (life_in m b.0) b.1 b.3 i g k content lt is_g is_v))
