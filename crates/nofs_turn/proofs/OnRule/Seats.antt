-- Seats that are split and joined keep the rule, and what stands at the end.
use Rattle.std.proofs.Common.{◌≡◌, ◌≢◌, ℕ, zero, suc, ◌+◌, ◌-◌, ◌*◌, ◌^◌, ◌<◌, List, [], ◌∷◌, length, set, Option, Some}
use Rattle.std.proofs.Common.{false, refl, sym, ap, ◌∙◌, subst}
use Rattle.std.proofs.Common.{⊎_elim, inl, inr, arith, drop}
use Rattle.std.proofs.lemmas.Bool.Decides.{nat_tests}
use mathlib.Core.Option.{some, some-injective, some-ne-none}
use mathlib.Core.List.{IsPrefix}
use lib.ListN.{get_elem?}
use Rattle.atomic_table.specs.Table.{State, Splits, Joins, Seen, Final, opening}
use Rattle.atomic_table.proofs.Lists.{at_snoc, at_longer, set_else}
use Rattle.nofs_turn.specs.declared.rule.view.View.{View}
use Rattle.nofs_turn.specs.Lists.{times, once, numbered}
use Rattle.nofs_turn.specs.Rule.Views.{spent, maker, dealt, newcomer, united, Deals}
use Rattle.nofs_turn.specs.Rule.Steps.{SeatFits, Sits, TurnHolds}
use Rattle.nofs_turn.specs.Passes.{Closes}
use Rattle.nofs_turn.proofs.OnLists.Words.{prefix_self, total_set, total_snoc, two_parts}
use Rattle.nofs_turn.proofs.OnLists.Places.{once_le, times_merge, rises_merge, stands_merge, total_alone}
use Rattle.nofs_turn.proofs.OnLists.Places.{all_numbered}
use Rattle.nofs_turn.proofs.OnRule.Looks.{off, live_of, seats_stay, still_fits, holds_still, same_places}
use Rattle.nofs_turn.proofs.OnRule.Steps.{not_all}

-- what the pass that stands for all finds at the end
abbrev pub Found : {T E F : Type 0} → (T → List E) → (T → F) → View E F → List (Option T) → Type 0
Found {T = T} entries fixed v xs = (value : T) × (get_elem? xs 0 ≡ some (Some value)) × Closes entries fixed v value

module _ {T E F : Type 0} (entries : T → List E) (fixed : T → F) (f : F) (start seats : ℕ) where
  abbrev V : Type 0
  V = View E F

  abbrev St : Type 0
  St = State (Option T) V

  abbrev Rule : St → Type 0
  Rule = TurnHolds entries fixed f start seats

  pub splits : (id : ℕ) (v : V) → 0 < v.stands → 0 < v.splits → v.has ≡ false → Splits Rule id v (dealt v) (newcomer v)
  splits id v live left rests s r at =
      let x = live_of entries fixed f start seats s r id v at live in
      let w = dealt v in
      let n = newcomer v in
      let cut = set s.views id w in record {
        count = r.count;
        holds = λ t. let h = holds_still entries fixed f start seats s.views r.holder id v w at refl (r.holds t) in
            (h.0, at_longer cut (n ∷ []) r.holder h.0 h.1, h.2);
        each = λ j u e. ⊎_elim
            (seats_stay entries fixed f start seats (Sits f start seats r.log r.taken r.holder) s.views id w
            (inr (still_fits entries fixed f start seats r.log r.taken r.holder id v x r.taken r.holder w.splits
            w.looks w.last x.turn))
            (λ i y _ k. r.each i y k) j u)
            (λ (t : n ≡ u). subst (Sits f start seats r.log r.taken r.holder j) t
            (inr record {
              of_turn = x.of_turn;
              seen = x.seen;
              heard = x.heard;
              rising = tt;
              mine = tt;
              stands = omega arith;
              turn = λ h. absurd (off h);
            }))
            (at_snoc cut n u j e);
        all_places = λ q.
            let t = total_snoc (λ (u : V). times q u.mine) cut n in
            let same = same_places entries fixed f start seats s.views id v w at refl q in
            let was = r.all_places q in
            omega arith;
        passes =
            let t = total_snoc (λ (u : V). u.stands + u.splits) cut n in
            let c = total_set (λ (u : V). u.stands + u.splits) s.views id v w at in
            let was = r.passes in
            omega arith;
      }

  pub joins : (id : ℕ) (v : V) (other : ℕ) (w : V)
      → 0 < v.stands → v.has ≡ false → 0 < w.stands → w.has ≡ false → w.splits ≡ 0
      → Joins Rule id v other w (united v w) spent
  joins id v other w live rests live' rests' whole s r at apart there =
      let both = united v w in
      let cut = set s.views id both in
      let was : get_elem? s.views other ≡ some w = sym (set_else s.views id other both apart) ∙ there in
      let x = live_of entries fixed f start seats s r id v at live in
      let y = live_of entries fixed f start seats s r other w was live' in
      let apart' : id ≢ other = λ e. apart (sym e) in
      let parts = two_parts (λ (u : V). u.stands + u.splits) s.views id other v w at was apart' in
      let sum = r.passes in
      let same : v.seats ≡ seats = x.same_seats in record {
        count = r.count;
        holds = λ t. let h = holds_still entries fixed f start seats s.views r.holder id v both at refl (r.holds t)
            in holds_still entries fixed f start seats cut r.holder other w spent there (sym rests') h;
        each = seats_stay entries fixed f start seats
            (Sits f start seats r.log r.taken r.holder) cut other spent (inl refl)
            (λ j u _ e. seats_stay entries fixed f start seats
            (Sits f start seats r.log r.taken r.holder) s.views id both
            (inr record {
              of_turn = x.of_turn;
              seen = x.seen;
              heard = y.seen;
              mine = stands_merge r.log v.mine w.mine x.mine y.mine;
              rising = rises_merge 0 (length r.log) v.mine w.mine x.rising y.rising (λ q. let p =
                  two_parts (λ (u : V). times q u.mine) s.views id other v w at was apart' in
                  let all = r.all_places q in let o =
                  once_le start (length r.log) q in omega arith);
              stands = omega arith;
              turn = λ h. absurd (off (sym rests ∙ h));
            })
            (λ i z _ k. r.each i z k) j u e);
        all_places = λ q.
            let m = times_merge q v.mine w.mine in
            let a = total_set (λ (u : V). times q u.mine) s.views id v both at in
            let b = total_set (λ (u : V). times q u.mine) cut other w spent there in
            let all = r.all_places q in
            omega arith;
        passes =
            let a = total_set (λ (u : V). u.stands + u.splits) s.views id v both at in
            let b = total_set (λ (u : V). u.stands + u.splits) cut other w spent there in
            let all = r.passes in
            omega arith;
      }

  -- a view that stands for all passes is the only one
  alone : (s : St) (r : Rule s) (id : ℕ) (v : V) → get_elem? s.views id ≡ some v
      → 0 < v.stands → v.stands ≡ v.seats → (j : ℕ) (u : V) → j ≢ id
      → get_elem? s.views j ≡ some u → u ≡ spent
  alone s r id v at live all j u apart e =
      let x = live_of entries fixed f start seats s r id v at live in
      let same = x.same_seats in
      let both = two_parts (λ (u : V). u.stands + u.splits) s.views j id u v e at apart in
      let sum = r.passes in
      ⊎_elim (λ (p : u ≡ spent). p) (λ (y : SeatFits f start seats r.log r.taken r.holder j u).
      let some_pass = y.stands in absurd (omega arith)) (r.each j u e)

  pub ends : (id : ℕ) (v : V) (ws : List ℕ) (xs : List (Option T))
      → 0 < v.stands → v.stands ≡ v.seats → v.has ≡ false → Final (Seen Rule id v) ws xs
      → Found entries fixed v xs
  ends id v ws xs live all rests z =
      let s = z.0 in
      let r = z.1.0 in
      let at = z.1.1 in
      let x = live_of entries fixed f start seats s r id v at live in
      let bit = r.bit in
      let free : r.taken ≡ 0 = free_at s r at bit in
      let h = r.home free in
      let grown = r.grown in
      let long : length (entries h.0) ≡ length r.log = ap length h.2 in
      let same : v.start ≡ start = x.same_start in
      let mine : (q : ℕ) → times q v.mine ≡ once start (start + (length r.log - start)) q = λ q.
      let t = total_alone (λ (u : V). times q u.mine) s.views id v at
      (λ i u n e. ap (λ (u : V). times q u.mine) (alone s r id v at live all i u n e)) in
      let p = r.all_places q in
      let o : once start (start + (length r.log - start)) q ≡ once start (length r.log) q =
      ap (λ m. once start m q) (omega arith) in
      omega arith in (
        h.0,
        z.4 0 (Some h.0) (ap (λ hs. get_elem? hs 0) h.1),
        record {
          same_part = x.same_fixed ∙ ap Some (sym h.3);
          begins = subst (λ l. IsPrefix v.seen l) (sym h.2) x.seen;
          grown = omega arith;
          all_mine = all_numbered (length r.log - start) start 0
              (length r.log) r.log v.mine x.rising x.mine mine (omega arith)
              ∙ (λ i. numbered (sym same i) (drop (sym same i) (sym h.2 i)));
        },
      )
    where
      free_at : (s : St) (r : Rule s) → get_elem? s.views id ≡ some v → r.taken < 2 → r.taken ≡ 0
      free_at s r at bit = let never : r.taken ≡ 1 → ⊥ = λ t. let lt =
          not_all entries fixed f start seats s r id v at live rests t in omega arith in omega arith

-- the maker's seat is as the others, once it has split them
pub last_is : {E F : Type 0} (v : View E F) (seats : ℕ) → Deals v 0 seats → v ≡ newcomer v
last_is v seats d =
    λ i. record v {
      mine = d.3 i;
      has = d.2 i;
      splits = d.0 i;
      stands = d.1 i;
      looks = d.4 i;
      last = d.5 i;
      runs = d.8 i;
    }

-- the rule holds at the start
pub starts : {T E F : Type 0} (entries : T → List E) (fixed : T → F) (x : T) (seats : ℕ)
    → 0 < seats → length (entries x) < 2 ^ 63
    → TurnHolds entries fixed (fixed x) (length (entries x)) seats
    (opening (2 * length (entries x) ∷ []) (Some x ∷ []) (maker (fixed x) (entries x) seats))
starts {T} {E} {F} entries fixed x seats some_seat small = record {
  count = record {
    log = entries x;
    taken = 0;
    holder = 0;
    bit = omega arith;
    words = ap (λ k. k ∷ []) (omega arith);
    small = small;
    grown = omega arith;
    home = λ _. (x, refl, refl, refl);
  };
  holds = λ z. absurd (omega arith);
  each = one;
  all_places = λ q. let o = once_nothing (length (entries x)) q in omega arith;
  passes = omega arith;
}
  where
    m : View E F
    m = maker (fixed x) (entries x) seats

    one : (j : ℕ) (v : View E F) → get_elem? (maker (fixed x) (entries x) seats ∷ []) j ≡ some v
        → Sits (fixed x) (length (entries x)) seats (entries x) 0 0 j v
    one zero v e = subst (Sits (fixed x) (length (entries x)) seats (entries x) 0 0 0) (some-injective _ _ e)
        (inr record {
          of_turn = record { same_fixed = refl; same_start = refl; same_seats = refl };
          seen = prefix_self (entries x);
          heard = (entries x, refl);
          rising = tt;
          mine = tt;
          stands = omega arith;
          turn = λ h. absurd (off h);
        })
    one (suc j) v e = absurd (some-ne-none v (sym e))

    once_nothing : (n q : ℕ) → once n n q ≡ 0
    once_nothing n q = grind (arith, nat_tests)

-- the same, at a value and a word that are known
pub starts_as : {T E F : Type 0} (entries : T → List E) (fixed : T → F) (x kept : T) (seats word : ℕ)
    (slots : List (Option T)) → kept ≡ x
    → word ≡ length (entries x) → slots ≡ Some x ∷ [] → word < 2 ^ 63 → 0 < seats
    → TurnHolds entries fixed (fixed kept) (length (entries kept)) seats
    (opening (2 * word ∷ []) slots (maker (fixed kept) (entries kept) seats))
starts_as {T} entries fixed x kept seats word slots same is only small some_seat =
    subst (λ (q : T × ℕ × List (Option T)). TurnHolds entries fixed (fixed q.0) (length (entries q.0)) seats
    (opening (2 * q.1 ∷ []) q.2 (maker (fixed q.0) (entries q.0) seats)))
    (λ i. (sym same i, sym is i, sym only i)) (starts entries fixed x seats some_seat (omega arith))
