-- Users that are taken apart one after another, the first one first.
use Rattle.std.proofs.Common.{◌≡◌, ◌≢◌, ◌⊎◌, inl, inr, ℕ, ◌+◌, ◌<◌, ◌≤◌, Bool, true, false, ◌||◌, List, [], ◌∷◌, ◌++◌}
use Rattle.std.proofs.Common.{length, map, drop, get_or, All, refl}
use Rattle.std.proofs.Common.{sym, ap, ◌∙◌, subst, arith, length-append}
use Rattle.std.specs.List.{AllByRecursion}
use Rattle.std.proofs.lemmas.List.Elements.{recursion_from_All, All-from_recursion}
use Rattle.nofs_turn.specs.declared.rule.view.View.{View}
use Rattle.nofs_turn.proofs.OnLists.Words.{prefix_self, prefix_trans}
use Rattle.nofs_history.specs.Steps.{Made}
use Rattle.nofs_history.specs.declared.machine.history.Entry1.{Entry1}
use Rattle.nofs_client.specs.declared.task.commands.Command.{Command}
use Rattle.nofs_client.specs.declared.task.lines.Line.{Line}
use Rattle.nofs_client.specs.Driver.{IsDriven, IsPartlyDriven}
use Rattle.nofs_shared.specs.Passes.Entries.{own_steps}
use Rattle.nofs_shared.specs.Passes.Seats.{SameSeat}
use Rattle.nofs_serve.specs.Teams.Joins.{JoinsOwn, Gathers, made_by}
use Rattle.nofs_serve.specs.Teams.Users.{Stand, StandInTurn, UsersBegun, UsersEnded, UsersServed}
use Rattle.nofs_serve.specs.Session.{UsersGathered}
use Rattle.nofs_serve.proofs.OnTeams.Joins.{joins-own, joins-other, gathers-more}

module _ {W : Type 0} where
  -- lists with the same end
  pub same-last : (xs ys : List W) (x y : W) → xs ++ x ∷ [] ≡ ys ++ y ∷ [] → (xs ≡ ys) × (x ≡ y)
  same-last [] [] x y e = (refl, ap (λ l. get_or l 0 x) e)
  same-last [] (b ∷ ys) x y e = absurd (let n = ap length e in omega (arith, n, length-append ys (y ∷ [])))
  same-last (a ∷ xs) [] x y e = absurd (let n = ap length e in omega (arith, n, length-append xs (x ∷ [])))
  same-last (a ∷ xs) (b ∷ ys) x y e =
      let r = same-last xs ys x y (ap (drop 1) e) in
      let h : a ≡ b = ap (λ l. get_or l 0 a) e in
      ((λ i. h i ∷ r.0 i), r.1)

  -- of a list all of whose items have P
  all-last : (P : W → Type 0) (xs : List W) (x : W) → AllByRecursion P (xs ++ x ∷ []) → P x
  all-last P [] x a = a.0
  all-last P (y ∷ xs) x a = all-last P xs x a.1

  all-front : (P : W → Type 0) (xs ys : List W) → AllByRecursion P (xs ++ ys) → AllByRecursion P xs
  all-front P [] ys a = tt
  all-front P (x ∷ xs) ys a = (a.0, all-front P xs ys a.1)

  pub all-end : (P : W → Type 0) (all front : List W) (x : W) → all ≡ front ++ x ∷ [] → All P all → All P front × P x
  all-end P all front x is a =
      let r = subst (AllByRecursion P) is (recursion_from_All P all a) in
      (All-from_recursion P front (all-front P front (x ∷ []) r), all-last P front x r)

  module _ {P : ℕ → List Command → W → Type 0} where
    pub stand-nil : (c : ℕ) (all : List W) → all ≡ [] → Stand P c [] all
    stand-nil c all is = record { in_turn = is }

    -- one more at the end is the first user's
    pub stand-more : (c d : ℕ) (script : List Command) (scripts : List (List Command)) (all front : List W) (w : W)
        → all ≡ front ++ w ∷ [] → d ≡ c + 1
        → P c script w → Stand P d scripts front → Stand P c (script ∷ scripts) all
    stand-more c d script scripts all front w is next p s =
        record { in_turn = (front, w, is, p, subst (λ k. StandInTurn P k scripts front) next s.in_turn) }

    -- the last worker is the first user's
    pub stand-pop : (c : ℕ) (scripts : List (List Command)) (all front : List W) (w : W)
        → all ≡ front ++ w ∷ [] → Stand P c scripts all
        → (script : List Command) × (rest : List (List Command)) × (scripts ≡ script ∷ rest) × P c script w
        × Stand P (c + 1) rest front
    stand-pop c [] all front w is s =
        absurd (let n = ap length (sym is ∙ s.in_turn) in omega (arith, n, length-append front (w ∷ [])))
    stand-pop c (script ∷ rest) all front w is s =
        let t = s.in_turn in
        let same = same-last front t.0 w t.1 (sym is ∙ t.2) in (
          script,
          rest,
          refl,
          subst (P c script) (sym same.1) t.3,
          record { in_turn = subst (StandInTurn P (c + 1) rest) (sym same.0) t.4 },
        )

    pub stand-none : (c : ℕ) (scripts : List (List Command)) (all : List W)
        → all ≡ [] → Stand P c scripts all → scripts ≡ []
    stand-none c [] all is s = refl
    stand-none c (script ∷ rest) all is s =
        absurd (let t = s.in_turn in let n = ap length (sym is ∙ t.2) in omega (arith, n, length-append t.0 (t.1 ∷ [])))

    pub stand-at : (c d : ℕ) (scripts : List (List Command)) (all : List W) → c ≡ d → Stand P c scripts all
        → Stand P d scripts all
    stand-at c d scripts all is s = subst (λ k. Stand P k scripts all) is s

    pub stand-of : (c : ℕ) (scripts others : List (List Command)) (all : List W)
        → scripts ≡ others → Stand P c scripts all → Stand P c others all
    stand-of c scripts others all is s = subst (λ l. Stand P c l all) is s

module _ (by : ℕ → List Made) where
  pub begun-snoc : (c d : ℕ) (done : List (List Command)) (s : List Command) (said : List Line) → d ≡ c + length done
      → UsersBegun c done by
      → IsPartlyDriven s (by d) said → UsersBegun c (done ++ s ∷ []) by
  begun-snoc c d [] s said is b p = let e : d ≡ c = omega (arith, is) in
      ((said, subst (λ k. IsPartlyDriven s (by k) said) e p), tt)
  begun-snoc c d (x ∷ done) s said is b p = (b.0, begun-snoc (c + 1) d done s said (omega (arith, is)) b.1 p)

  pub served-snoc : (c d : ℕ) (done : List (List Command)) (lines : List (List Line)) (s : List Command)
      (said : List Line) → d ≡ c + length done
      → UsersServed c done lines by → IsDriven s (by d) said → UsersServed c (done ++ s ∷ []) (lines ++ said ∷ []) by
  served-snoc c d [] lines s said is b p =
      let e : d ≡ c = omega (arith, is) in
      (said, [], ap (λ l. l ++ said ∷ []) b, subst (λ k. IsDriven s (by k) said) e p, refl)
  served-snoc c d (x ∷ done) lines s said is b p = (
    b.0,
    b.1 ++ said ∷ [],
    ap (λ l. l ++ said ∷ []) b.2,
    b.3,
    served-snoc (c + 1) d done b.1 s said (omega (arith, is)) b.4 p,
  )

  pub ended-snoc : (c d : ℕ) (done : List (List Command)) (early : List Bool) (lines : List (List Line))
      (s : List Command) (cut : Bool) (said : List Line) → d ≡ c + length done
      → UsersEnded c done early lines by → IsPartlyDriven s (by d) said → (cut ≡ false → IsDriven s (by d) said)
      → UsersEnded c (done ++ s ∷ []) (early ++ cut ∷ []) (lines ++ said ∷ []) by
  ended-snoc c d [] early lines s cut said is b some all =
      let e : d ≡ c = omega (arith, is) in (
        cut,
        [],
        said,
        [],
        ap (λ l. l ++ cut ∷ []) b.0,
        ap (λ l. l ++ said ∷ []) b.1,
        subst (λ k. IsPartlyDriven s (by k) said) e some,
        (λ whole. subst (λ k. IsDriven s (by k) said) e (all whole)),
        (refl, refl),
      )
  ended-snoc c d (x ∷ done) early lines s cut said is b some all =
      let (first, cuts, told, others, early_are, lines_are, part, whole, rest) = b in (
        first,
        cuts ++ cut ∷ [],
        told,
        others ++ said ∷ [],
        ap (λ l. l ++ cut ∷ []) early_are,
        ap (λ l. l ++ said ∷ []) lines_are,
        part,
        whole,
        ended-snoc (c + 1) d done cuts others s cut said (omega (arith, is)) rest some all,
      )

module _ (by now : ℕ → List Made) where
  pub ended-same : (c : ℕ) (done : List (List Command)) (early : List Bool) (lines : List (List Line))
      → ((d : ℕ) → c ≤ d → d < c + length done → now d ≡ by d)
      → UsersEnded c done early lines by → UsersEnded c done early lines now
  ended-same c [] early lines same b = b
  ended-same c (s ∷ done) early lines same b =
      let (first, cuts, told, others, early_are, lines_are, part, whole, rest) = b in
      let here = sym (same c (omega arith) (omega arith)) in (
        first,
        cuts,
        told,
        others,
        early_are,
        lines_are,
        subst (λ (m : List Made). IsPartlyDriven s m told) here part,
        (λ e. subst (λ (m : List Made). IsDriven s m told) here (whole e)),
        ended-same (c + 1) done cuts others (λ d low high. same d (omega (arith, low)) (omega (arith, high))) rest,
      )

  pub begun-same : (c : ℕ) (done : List (List Command)) → ((d : ℕ) → c ≤ d → d < c + length done → now d ≡ by d)
      → UsersBegun c done by → UsersBegun c done now
  begun-same c [] same b = tt
  begun-same c (s ∷ done) same b = (
    (b.0.0, subst (λ (m : List Made). IsPartlyDriven s m b.0.0) (sym (same c (omega arith) (omega arith))) b.0.1),
    begun-same (c + 1) done (λ d low high. same d (omega (arith, low)) (omega (arith, high))) b.1,
  )

  pub served-same : (c : ℕ) (done : List (List Command)) (lines : List (List Line))
      → ((d : ℕ) → c ≤ d → d < c + length done → now d ≡ by d)
      → UsersServed c done lines by → UsersServed c done lines now
  served-same c [] lines same b = b
  served-same c (s ∷ done) lines same b = (
    b.0,
    b.1,
    b.2,
    subst (λ (m : List Made). IsDriven s m b.0) (sym (same c (omega arith) (omega arith))) b.3,
    served-same (c + 1) done b.1 (λ d low high. same d (omega (arith, low)) (omega (arith, high))) b.4,
  )

pub length-scripts : {W : Type 0} (f : W → List Command) (ws : List W) → length (map f ws) ≡ length ws
length-scripts f [] = refl
length-scripts f (w ∷ ws) = let n = length-scripts f ws in omega (arith, n)

pub neither : (a b : Bool) → (a || b) ≡ false → (a ≡ false) × (b ≡ false)
neither true b e = cc
neither false b e = (refl, e)

module _ {F : Type 0} where
  -- before the first
  pub users-none : (was : Bool) (v : View Entry1 F) → UsersGathered [] was was [] [] v v
  users-none was v = record {
    knew = prefix_self v.seen;
    each = (refl, refl);
    begun = tt;
    served = λ e. refl;
    was_short = λ e. e;
    others = λ c none. refl;
  }

  -- one more
  pub users-more : (done : List (List Command)) (was short out : Bool) (early : List Bool) (lines : List (List Line))
      (said : List Line) (s : List Command) (c : ℕ)
      (v u w x : View Entry1 F)
      → UsersGathered done was short early lines v u → JoinsOwn c u w x → c ≡ 1 + length done → made_by c v ≡ []
      → IsPartlyDriven s (own_steps w.mine) said → (out ≡ false → IsDriven s (own_steps w.mine) said)
      → UsersGathered (done ++ s ∷ []) was (short || out) (early ++ out ∷ []) (lines ++ said ∷ []) v x
  users-more done was short out early lines said s c v u w x g j is none some all =
      let none_yet : made_by c u ≡ [] = g.others c (inr (omega (arith, is))) ∙ none in
      let own : made_by c x ≡ own_steps w.mine = joins-own c u w x j none_yet in
      let same : (d : ℕ) → d ≢ c → made_by d x ≡ made_by d u = λ d apart. joins-other c d u w x j apart in
      let before : (d : ℕ) → 1 ≤ d → d < 1 + length done → made_by d x ≡ made_by d u =
      λ d low high. same d (λ e. absurd (omega (arith, is, high, e))) in
      record {
        knew = prefix_trans v.seen u.seen x.seen g.knew j.knew;
        each = ended-snoc (λ d. made_by d x) 1 c done early lines s out said is
            (ended-same (λ d. made_by d u) (λ d. made_by d x) 1 done early lines before g.each)
            (subst (λ (m : List Made). IsPartlyDriven s m said) (sym own) some)
            (λ e. subst (λ (m : List Made). IsDriven s m said) (sym own) (all e));
        begun = begun-snoc (λ d. made_by d x) 1 c done s said is
            (begun-same (λ d. made_by d u) (λ d. made_by d x) 1 done before g.begun)
            (subst (λ (m : List Made). IsPartlyDriven s m said) (sym own) some);
        served = λ e.
            (let p = neither short out e in
            served-snoc (λ d. made_by d x) 1 c done lines s said is
            (served-same (λ d. made_by d u) (λ d. made_by d x) 1 done lines before (g.served p.0))
            (subst (λ (m : List Made). IsDriven s m said) (sym own) (all p.1)));
        was_short = λ e. (let p = neither short out e in g.was_short p.0);
        others = λ d nobody. same d (beyond d nobody) ∙ g.others d (older d nobody);
      }
    where
      beyond : (d : ℕ) → (d ≡ 0) ⊎ (length (done ++ s ∷ []) < d) → d ≢ c
      beyond d (inl e) = λ f. absurd (omega (arith, is, e, f))
      beyond d (inr e) = λ f. absurd (omega (arith, is, e, f, length-append done (s ∷ [])))

      older : (d : ℕ) → (d ≡ 0) ⊎ (length (done ++ s ∷ []) < d) → (d ≡ 0) ⊎ (length done < d)
      older d (inl e) = inl e
      older d (inr e) = inr (omega (arith, e, length-append done (s ∷ [])))

  -- one user is taken apart: w is what its pass knows, and `own` what its worker's pass knew
  pub gather-step : (done : List (List Command)) (was short out gone next : Bool) (early early2 : List Bool)
      (lines lines2 : List (List Line)) (said told : List Line)
      (s : List Command) (c k count : ℕ) (v b u w own x : View Entry1 F)
      → v.stands ≡ 1 → Gathers v u (count + length done) → UsersGathered done was short early lines b u
      → JoinsOwn k u w x → k ≡ c → c ≡ 1 + length done
      → made_by c b ≡ []
      → w ≡ own → said ≡ told → out ≡ gone → next ≡ (short || out) → early2 ≡ early ++ out ∷ []
      → lines2 ≡ lines ++ said ∷ []
      → SameSeat v own → IsPartlyDriven s (own_steps own.mine) told
      → (gone ≡ false → IsDriven s (own_steps own.mine) told)
      → Gathers v x (count + length (done ++ s ∷ [])) × UsersGathered (done ++ s ∷ []) was next early2 lines2 b x
  gather-step done was short out gone next early early2 lines lines2 said told s c k count v b u w own x one g ug j
      caller is none same_view same_lines same_out next_is
      early_are lines_are same some all =
      let j' : JoinsOwn c u w x = subst (λ n. JoinsOwn n u w x) caller j in
      let seat : SameSeat v w = subst (λ (z : View Entry1 F). SameSeat v z) (sym same_view) same in
      let some' : IsPartlyDriven s (own_steps w.mine) said =
      subst (λ (q : View Entry1 F × List Line). IsPartlyDriven s (own_steps q.0.mine) q.1)
      (λ i. (sym same_view i, sym same_lines i)) some in
      let all' : out ≡ false → IsDriven s (own_steps w.mine) said =
      λ e. subst (λ (q : View Entry1 F × List Line). IsDriven s (own_steps q.0.mine) q.1)
      (λ i. (sym same_view i, sym same_lines i))
      (all (sym same_out ∙ e)) in
      let long : count + length done + 1 ≡ count + length (done ++ s ∷ []) =
      omega (arith, length-append done (s ∷ [])) in (
        subst (λ n. Gathers v x n) long (gathers-more c (count + length done) v u w x one g j' seat),
        subst (λ (q : Bool × List Bool × List (List Line)). UsersGathered (done ++ s ∷ []) was q.0 q.1 q.2 b x)
            (λ i. (sym next_is i, sym early_are i, sym lines_are i))
            (users-more done was short out early lines said s c b u w x ug j' is none some' all'),
      )
