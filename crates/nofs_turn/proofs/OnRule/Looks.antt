-- A look at the turn, and the taking of one that is free, keep its rule.
use Rattle.std.proofs.Common.{◌≡◌, ◌≢◌, ℕ, zero, suc, ◌+◌, ◌*◌, ◌<◌, List, [], ◌∷◌, length, set, Option, Some, true}
use Rattle.std.proofs.Common.{false, true≢false}
use Rattle.std.proofs.Common.{refl, sym, ap, ◌∙◌, subst, ⊎_elim, inl, inr, arith}
use Rattle.std.specs.Prelude.{slice_index}
use mathlib.Core.Option.{some, none, some-injective, some-ne-none}
use mathlib.Core.Logic.{dite}
use native.Mathlib.Decide.{ℕ_discrete}
use lib.ListN.{get_elem?}
use Rattle.atomic_table.specs.Table.{State, Me, step, keeps, Allows}
use Rattle.atomic_table.proofs.Lists.{at_set, set_here, set_else}
use Rattle.nofs_turn.specs.declared.rule.view.View.{View}
use Rattle.nofs_turn.specs.Lists.{times, total}
use Rattle.nofs_turn.specs.Rule.Views.{spent, looked, took}
use Rattle.nofs_turn.specs.Rule.Steps.{SeatFits, Sits, CountHolds, TurnHolds, Looks}
use Rattle.nofs_turn.proofs.OnLists.Words.{prefix_self, prefix_length, total_set}

abbrev pub first_carried : {S : Type 0} → S → List (ℕ × S) → S
first_carried d [] = d
first_carried d (x ∷ xs) = x.1

-- what a list carries first is one thing
pub same_carried : {X : Type 0} (l : List (ℕ × Option X)) (x y : X) (k m : ℕ) (xs ys : List (ℕ × Option X))
    → l ≡ (k, Some x) ∷ xs → l ≡ (m, Some y) ∷ ys
    → x ≡ y
same_carried {X} l x y k m xs ys p q =
    let e : ◌≡◌ {A = Option X} (Some x) (Some y) = ap (λ l. first_carried (Some x) l) (sym p ∙ q) in cc

pub off : false ≡ true → ⊥
off e = true≢false (sym e)

pub at_below : {A : Type 0} (xs : List A) (j : ℕ) (v : A) → get_elem? xs j ≡ some v → j < length xs
at_below [] j v e = absurd (some-ne-none v (sym e))
at_below (x ∷ xs) zero v e = omega arith
at_below (x ∷ xs) (suc j) v e = let h = at_below xs j v e in omega arith

module _ {T E F : Type 0} (entries : T → List E) (fixed : T → F) (f : F) (start seats : ℕ) where
  abbrev pub V : Type 0
  V = View E F

  abbrev pub St : Type 0
  St = State (Option T) V

  abbrev pub M : Type 0
  M = Me (Option T) V

  abbrev pub Rule : St → Type 0
  Rule = TurnHolds entries fixed f start seats

  abbrev pub word : St → ℕ
  word s = slice_index s.words 0

  pub word_is : (s : St) (r : Rule s) → word s ≡ 2 * length r.log + r.taken
  word_is s r = ap (λ ws. slice_index ws 0) r.words

  -- what is known of a seat that has the turn
  pub holder_of : (s : St) (r : Rule s) (id : ℕ) (v : V) → get_elem? s.views id ≡ some v
      → v.has ≡ true → SeatFits f start seats r.log r.taken r.holder id v
  holder_of s r id v at has = ⊎_elim (λ (e : v ≡ spent). absurd (off (sym (ap (λ (u : V). u.has) e) ∙ has)))
      (λ (x : SeatFits f start seats r.log r.taken r.holder id v). x) (r.each id v at)

  pub live_of : (s : St) (r : Rule s) (id : ℕ) (v : V) → get_elem? s.views id ≡ some v
      → 0 < v.stands → SeatFits f start seats r.log r.taken r.holder id v
  live_of s r id v at some_pass =
      ⊎_elim (λ (e : v ≡ spent). let z : v.stands ≡ 0 = ap (λ (u : V). u.stands) e in absurd (omega arith))
      (λ (x : SeatFits f start seats r.log r.taken r.holder id v). x) (r.each id v at)

  pub seats_stay : (P : ℕ → V → Type 0) (vs : List V) (id : ℕ) (w : V) → P id w
      → ((j : ℕ) (u : V) → j ≢ id → get_elem? vs j ≡ some u → P j u)
      → (j : ℕ) (u : V) → get_elem? (set vs id w) j ≡ some u → P j u
  seats_stay P vs id w mine others j u e = ⊎_elim
      (λ (t : (j ≡ id) × (w ≡ u)). subst (λ (x : ℕ × V). P x.0 x.1) (λ i. (sym t.0 i, t.1 i)) mine)
      (λ (t : (j ≢ id) × (get_elem? vs j ≡ some u)). others j u t.0 t.1)
      (at_set vs id j w u e)

  pub same_places : (vs : List V) (id : ℕ) (v w : V) → get_elem? vs id ≡ some v → w.mine ≡ v.mine → (x : ℕ)
      → total (λ (u : V). times x u.mine) (set vs id w) ≡ total (λ (u : V). times x u.mine) vs
  same_places vs id v w at e x =
      let g : times x w.mine ≡ times x v.mine = ap (times x) e in
      let t = total_set (λ (u : V). times x u.mine) vs id v w at in
      omega arith

  pub same_passes : (vs : List V) (id : ℕ) (v w : V) → get_elem? vs id ≡ some v
      → w.stands + w.splits ≡ v.stands + v.splits
      → total (λ (u : V). u.stands + u.splits) (set vs id w) ≡ total (λ (u : V). u.stands + u.splits) vs
  same_passes vs id v w at e = let t = total_set (λ (u : V). u.stands + u.splits) vs id v w at in omega arith

  -- some view has the turn, at k
  abbrev pub Holds : List V → ℕ → Type 0
  Holds vs k = (h : V) × (get_elem? vs k ≡ some h) × (h.has ≡ true)

  pub holds_still : (vs : List V) (k id : ℕ) (v w : V) → get_elem? vs id ≡ some v → w.has ≡ v.has → Holds vs k
      → Holds (set vs id w) k
  holds_still vs k id v w at same h = dite (ℕ_discrete k id)
      (λ here. let is : v ≡ h.0 = some-injective v h.0 (sym at ∙ (ap (get_elem? vs) (sym here) ∙ h.1)) in (
        w,
        ap (get_elem? (set vs id w)) here ∙ set_here vs id w (at_below vs id v at),
        same ∙ (ap (λ (u : V). u.has) is ∙ h.2),
      ))
      (λ other. (h.0, set_else vs id k w other ∙ h.1, h.2))

  -- a seat of which nothing changes but its splits, its looks and who has the turn
  pub still_fits : (log : List E) (taken holder id : ℕ) (v : V) → SeatFits f start seats log taken holder id v
      → (taken' holder' splits looks last : ℕ)
      → (v.has ≡ true → (taken' ≡ 1) × (id ≡ holder') × (v.seen ≡ log))
      → SeatFits f start seats log taken' holder' id (record v { splits = splits; looks = looks; last = last })
  still_fits log taken holder id v x taken' holder' splits looks last turn =
      record {
        of_turn = x.of_turn;
        seen = x.seen;
        heard = x.heard;
        turn = turn;
        rising = x.rising;
        mine = x.mine;
        stands = x.stands;
      }

  -- the count stays where the words say the same
  abbrev pub counted : (s : St) (r : Rule s) (ws : List ℕ)
      → ws ≡ (2 * length r.log + r.taken) ∷ [] → CountHolds entries fixed f start ws s.homes
  counted s r ws same =
      record {
        log = r.log;
        taken = r.taken;
        holder = r.holder;
        bit = r.bit;
        home = r.home;
        words = same;
        small = r.small;
        grown = r.grown;
      }

  -- a step that changes one view in nothing but its looks
  pub unmoved : (s : St) (r : Rule s) (id n : ℕ) (v : V) → get_elem? s.views id ≡ some v
      → 0 < v.stands → (ws : List ℕ) → ws ≡ (2 * length r.log + r.taken) ∷ []
      → Rule record { words = ws; homes = s.homes; views = set s.views id (looked v n) }
  unmoved s r id n v at live ws same = record {
    count = counted s r ws same;
    holds = λ t. holds_still s.views r.holder id v (looked v n) at refl (r.holds t);
    each = let x = live_of s r id v at live in
        seats_stay (Sits f start seats r.log r.taken r.holder) s.views id (looked v n)
        (inr (still_fits r.log r.taken r.holder id v x r.taken r.holder v.splits (v.looks + 1) n x.turn))
        (λ j u _ e. r.each j u e);
    all_places = λ x. same_places s.views id v (looked v n) at refl x ∙ r.all_places x;
    passes = same_passes s.views id v (looked v n) at refl ∙ r.passes;
  }

  pub looks : (slots id : ℕ) (me : M)
      → 0 < me.0.stands → Allows Rule slots id me 0 (λ n. n) (Looks (step slots 0 0 0 none) me)
  looks slots id me live s r _ at _ =
      let n : ℕ = word s in
      let is = word_is s r in
      let long = prefix_length me.0.seen r.log (live_of s r id me.0 at live).seen in (
        looked me.0 n,
        keeps,
        tt,
        unmoved s r id n me.0 at live (set s.words 0 n)
            (rw is (ap (λ ws. set ws 0 (2 * length r.log + r.taken)) r.words)),
        (refl, omega arith),
      )

  -- the taking of a turn that was free
  pub taken_free : (s : St) (r : Rule s) (id n : ℕ) (v : V) → get_elem? s.views id ≡ some v → 0 < v.stands → r.taken ≡ 0
      → Rule record { words = (2 * length r.log + 1) ∷ []; homes = none ∷ []; views = set s.views id (took v n r.log) }
  taken_free s r id n v at live free =
      let x = live_of s r id v at live in
      let w = took v n r.log in record {
        count = record {
          log = r.log;
          taken = 1;
          holder = id;
          bit = omega arith;
          words = refl;
          small = r.small;
          grown = r.grown;
          home = λ z. absurd (omega arith);
        };
        holds = λ _. (w, set_here s.views id w (at_below s.views id v at), refl);
        each = seats_stay (Sits f start seats r.log 1 id) s.views id w
            (inr record {
              of_turn = x.of_turn;
              seen = prefix_self r.log;
              heard = x.heard;
              rising = x.rising;
              mine = x.mine;
              stands = x.stands;
              turn = λ _. (refl, refl, refl);
            })
            (λ j u _ e. waits j u (r.each j u e));
        all_places = λ y. same_places s.views id v w at refl y ∙ r.all_places y;
        passes = same_passes s.views id v w at refl ∙ r.passes;
      }
    where
      waits : (j : ℕ) (u : V) → Sits f start seats r.log r.taken r.holder j u → Sits f start seats r.log 1 id j u
      waits j u = ⊎_elim (λ (e : u ≡ spent). inl e)
          (λ (y : SeatFits f start seats r.log r.taken r.holder j u).
          inr (still_fits r.log r.taken r.holder j u y 1 id u.splits u.looks u.last
          (λ h. let t = (y.turn h).0 in absurd (omega arith))))
