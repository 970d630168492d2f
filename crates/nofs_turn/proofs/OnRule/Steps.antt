-- The turn is tried, given and settled: each step keeps its rule.
use Rattle.std.proofs.Common.{◌≡◌, ◌≢◌, ℕ, ◌+◌, ◌-◌, ◌*◌, ◌^◌, ◌<◌, List, [], ◌∷◌, ◌++◌, length, set, Option, Some}
use Rattle.std.proofs.Common.{Bool, true, false}
use Rattle.std.proofs.Common.{refl, sym, ap, ◌∙◌, subst, ⊎_elim, inl, inr, arith, drop, length-drop, ltb, ltb-true}
use Rattle.std.specs.Prelude.{bit_or, cond}
use mathlib.Core.Option.{Option as Home, some, none, some-injective}
use mathlib.Core.Logic.{dite}
use native.Mathlib.Decide.{ℕ_discrete}
use mathlib.Core.List.{IsPrefix}
use lib.ListN.{get_elem?}
use Rattle.atomic_table.specs.Table.{step, Act, keeps, takes, gives, Valid, stepped, carried_after, Allows}
use Rattle.nofs_turn.specs.Lists.{times, total, longer, Rises, rises, Stands, numbered}
use Rattle.nofs_turn.specs.Rule.Views.{spent, looked, took, gave, settled}
use Rattle.nofs_turn.specs.Rule.Steps.{SeatFits, Sits, CountHolds, Takes, Gives, Settles}
use Rattle.nofs_turn.proofs.OnLists.Words.{prefix_self, prefix_trans, prefix_length, total_set, part_le, two_parts}
use Rattle.nofs_turn.proofs.OnLists.Words.{or_one}
use Rattle.nofs_turn.proofs.OnLists.Places.{longer_begins, longer_both, places_more, rises_wider, rises_append}
use Rattle.nofs_turn.proofs.OnLists.Places.{rises_test, stands_more, stands_given}
use Rattle.nofs_turn.proofs.OnRule.Looks.{first_carried, off}
use Rattle.nofs_turn.proofs.OnRule.Looks as looks_part

module _ {T E F : Type 0} (entries : T → List E) (fixed : T → F) (f : F) (start seats : ℕ) where
  -- what was shown of them before
  abbrev V : Type 0
  V = looks_part.V entries fixed f start seats

  abbrev St : Type 0
  St = looks_part.St entries fixed f start seats

  abbrev M : Type 0
  M = looks_part.M entries fixed f start seats

  abbrev Rule : St → Type 0
  Rule = looks_part.Rule entries fixed f start seats

  abbrev word : St → ℕ
  word = looks_part.word entries fixed f start seats

  abbrev word_is : (s : St) (r : Rule s) → word s ≡ 2 * length r.log + r.taken
  word_is = looks_part.word_is entries fixed f start seats

  abbrev holder_of : (s : St) (r : Rule s) (id : ℕ) (v : V) → get_elem? s.views id ≡ some v
      → v.has ≡ true → SeatFits f start seats r.log r.taken r.holder id v
  holder_of = looks_part.holder_of entries fixed f start seats

  abbrev live_of : (s : St) (r : Rule s) (id : ℕ) (v : V) → get_elem? s.views id ≡ some v
      → 0 < v.stands → SeatFits f start seats r.log r.taken r.holder id v
  live_of = looks_part.live_of entries fixed f start seats

  abbrev seats_stay : (P : ℕ → V → Type 0) (vs : List V) (id : ℕ) (w : V) → P id w
      → ((j : ℕ) (u : V) → j ≢ id → get_elem? vs j ≡ some u → P j u)
      → (j : ℕ) (u : V) → get_elem? (set vs id w) j ≡ some u → P j u
  seats_stay = looks_part.seats_stay entries fixed f start seats

  abbrev same_places : (vs : List V) (id : ℕ) (v w : V) → get_elem? vs id ≡ some v → w.mine ≡ v.mine → (x : ℕ)
      → total (λ (u : V). times x u.mine) (set vs id w) ≡ total (λ (u : V). times x u.mine) vs
  same_places = looks_part.same_places entries fixed f start seats

  abbrev same_passes : (vs : List V) (id : ℕ) (v w : V) → get_elem? vs id ≡ some v
      → w.stands + w.splits ≡ v.stands + v.splits
      → total (λ (u : V). u.stands + u.splits) (set vs id w) ≡ total (λ (u : V). u.stands + u.splits) vs
  same_passes = looks_part.same_passes entries fixed f start seats

  abbrev Holds : List V → ℕ → Type 0
  Holds = looks_part.Holds entries fixed f start seats

  abbrev holds_still : (vs : List V) (k id : ℕ) (v w : V) → get_elem? vs id ≡ some v → w.has ≡ v.has → Holds vs k
      → Holds (set vs id w) k
  holds_still = looks_part.holds_still entries fixed f start seats

  abbrev counted : (s : St) (r : Rule s) (ws : List ℕ)
      → ws ≡ (2 * length r.log + r.taken) ∷ [] → CountHolds entries fixed f start ws s.homes
  counted = looks_part.counted entries fixed f start seats

  abbrev unmoved : (s : St) (r : Rule s) (id n : ℕ) (v : V) → get_elem? s.views id ≡ some v
      → 0 < v.stands → (ws : List ℕ) → ws ≡ (2 * length r.log + r.taken) ∷ []
      → Rule record { words = ws; homes = s.homes; views = set s.views id (looked v n) }
  unmoved = looks_part.unmoved entries fixed f start seats

  abbrev taken_free : (s : St) (r : Rule s) (id n : ℕ) (v : V) → get_elem? s.views id ≡ some v
      → 0 < v.stands → r.taken ≡ 0
      → Rule record { words = (2 * length r.log + 1) ∷ []; homes = none ∷ []; views = set s.views id (took v n r.log) }
  taken_free = looks_part.taken_free entries fixed f start seats

  -- where the turn is taken, the seat that takes it in vain does not stand for all
  pub not_all : (s : St) (r : Rule s) (id : ℕ) (v : V) → get_elem? s.views id ≡ some v
      → 0 < v.stands → v.has ≡ false → r.taken ≡ 1 → v.stands < v.seats
  not_all s r id v at live has taken =
      let x = live_of s r id v at live in
      let h = r.holds taken in
      let y = holder_of s r r.holder h.0 h.1 h.2 in
      let apart : id ≢ r.holder = λ e. let is : v ≡ h.0 =
      some-injective v h.0 (sym at ∙ (ap (get_elem? s.views) e ∙ h.1)) in off
      (sym has ∙ (ap (λ (u : V). u.has) is ∙ h.2)) in
      let both = two_parts (λ (u : V). u.stands + u.splits) s.views id r.holder v h.0 at h.1 apart in
      let all = r.passes in
      let some_other : 0 < h.0.stands = y.stands in
      let same : v.seats ≡ seats = x.same_seats in
      omega arith

  abbrev Tried : ℕ → ℕ → V → St → Type 0
  Tried slots id v s = (w : V) × (a : Act (Option T)) × Valid s.homes [] a
      × Rule (stepped s 0 (bit_or (word s) 1) id [] w a) × Takes entries fixed
      (step slots 0 1 0 none) (v, []) (word s) (w, carried_after [] a)

  tries_at : (slots id : ℕ) (v : V) → 0 < v.stands → v.has ≡ false
      → Allows Rule slots id (v, []) 0 (λ n. bit_or n 1) (Takes entries fixed (step slots 0 1 0 none) (v, []))
  tries_at slots id v live has s r _ at _ = dite (ℕ_discrete r.taken 0) free busy
    where
      n : ℕ
      n = word s

      word_after : bit_or n 1 ≡ 2 * length r.log + 1
      word_after = ap (λ m. bit_or m 1) (word_is s r) ∙ or_one (length r.log) r.taken r.bit

      words_after : set s.words 0 (bit_or n 1) ≡ (2 * length r.log + 1) ∷ []
      words_after = rw word_after (ap (λ ws. set ws 0 (2 * length r.log + 1)) r.words)

      free : r.taken ≡ 0 → Tried slots id v s
      free z =
          let x = r.home z in
          let w = took v n (entries x.0) in
          let live' = live_of s r id v at live in
          let after : Rule record { words = (2 * length r.log + 1) ∷ []; homes = none ∷ []; views = set s.views id w } =
          subst (λ xs. Rule record {
            words = (2 * length r.log + 1) ∷ [];
            homes = none ∷ [];
            views = set s.views id (took v n xs);
          }) (sym x.2)
          (taken_free s r id n v at live z) in
          let is = word_is s r in
          let small = r.small in
          let long : length (entries x.0) ≡ length r.log = ap length x.2 in (
            w,
            takes 0 (Some x.0),
            ap (λ hs. get_elem? hs 0) x.1,
            subst (λ (q : List ℕ × List (Home (Option T))).
                Rule record { words = q.0; homes = q.1; views = set s.views id w })
                (λ i. (sym words_after i, ap (λ hs. set hs 0 none) (sym x.1) i)) after,
            inl (
              x.0,
              omega arith,
              refl,
              subst (λ l. IsPrefix v.seen l) (sym x.2) live'.seen,
              live'.same_fixed ∙ ap Some (sym x.3),
              omega arith,
            ),
          )

      busy : r.taken ≢ 0 → Tried slots id v s
      busy nz =
          let bit = r.bit in
          let one : r.taken ≡ 1 = omega arith in
          let is = word_is s r in (
            looked v n,
            keeps,
            tt,
            unmoved s r id n v at live (set s.words 0 (bit_or n 1))
                (words_after ∙ ap (λ t. (2 * length r.log + t) ∷ []) (sym one)),
            inr (omega arith, refl, not_all s r id v at live has one),
          )

  pub tries : (slots id : ℕ) (me : M) → 0 < me.0.stands → me.0.has ≡ false → me.1 ≡ []
      → Allows Rule slots id me 0 (λ n. bit_or n 1) (Takes entries fixed (step slots 0 1 0 none) me)
  tries slots id me live has empty = subst
      (λ c. Allows Rule slots id (me.0, c) 0 (λ n. bit_or n 1) (Takes entries fixed (step slots 0 1 0 none) (me.0, c)))
      (sym empty) (tries_at slots id me.0 live has)

  given : (s : St) (r : Rule s) (id : ℕ) (v : V) (y : T) → get_elem? s.views id ≡ some v
      → v.has ≡ true → v.fixed ≡ Some (fixed y)
      → IsPrefix v.seen (entries y) → length (entries y) < 2 ^ 63
      → Rule record {
        words = (2 * length (entries y)) ∷ [];
        homes = some (Some y) ∷ [];
        views = set s.views id (gave v (entries y));
      } ×
      (rises 0 (gave v (entries y)).mine ≡ true)
  given s r id v y at has same pre small =
      let x = holder_of s r id v at has in
      let w = gave v (entries y) in
      let seen : v.seen ≡ r.log = (x.turn has).2 in
      let pre' : IsPrefix r.log (entries y) = subst (λ l. IsPrefix l (entries y)) seen pre in
      let longer = prefix_length r.log (entries y) pre' in
      let grown = r.grown in
      let here = (x.turn has).1 in
      let rest : length (drop (length r.log) (entries y)) ≡ length (entries y) - length r.log =
      length-drop (length r.log) (entries y) in
      let up' : Rises 0 (length (entries y)) (v.mine ++ numbered (length r.log) (drop (length r.log) (entries y))) =
      rises_append 0 (length r.log) (length (entries y)) v.mine (drop (length r.log) (entries y)) (omega arith)
      (omega arith) x.rising in
      let up : Rises 0 (length (entries y)) w.mine = subst (λ (l : List E). Rises 0 (length (entries y))
      (v.mine ++ numbered (length l) (drop (length l) (entries y)))) (sym seen) up' in (
        record {
          count = record {
            log = entries y;
            taken = 0;
            holder = id;
            bit = omega arith;
            words = ap (λ k. k ∷ []) (omega arith);
            small = small;
            grown = omega arith;
            home = λ _. (y, refl, refl, cc (same, x.of_turn.same_fixed));
          };
          holds = λ z. absurd (omega arith);
          each = seats_stay (Sits f start seats (entries y) 0 id) s.views id w
              (inr record {
                of_turn = x.of_turn;
                seen = prefix_self (entries y);
                heard = prefix_trans v.heard r.log (entries y) x.heard pre';
                rising = up;
                mine = subst (λ (l : List E). Stands (entries y)
                    (v.mine ++ numbered (length l) (drop (length l) (entries y)))) (sym seen)
                    (stands_given r.log (entries y) v.mine pre' x.mine);
                stands = x.stands;
                turn = λ h. absurd (off h);
              })
              (λ j u apart e. waits (λ l. pre') here j u apart (r.each j u e));
          all_places = λ q.
              let t = total_set (λ (u : V). times q u.mine) s.views id v w at in
              let g : times q w.mine ≡ times q (v.mine ++ numbered (length r.log) (drop (length r.log) (entries y))) =
              ap (λ (l : List E). times q (v.mine ++ numbered (length l) (drop (length l) (entries y)))) seen in
              let p = places_more q start v.mine r.log (entries y) pre' longer grown in
              let was = r.all_places q in
              omega arith;
          passes = same_passes s.views id v w at refl ∙ r.passes;
        },
        rises_test 0 (length (entries y)) w.mine up,
      )
    where
      waits : (ℕ → IsPrefix r.log (entries y))
          → id ≡ r.holder → (j : ℕ) (u : V) → j ≢ id → Sits f start seats r.log r.taken r.holder j u
          → Sits f start seats (entries y) 0 id j u
      waits pre' here j u apart = ⊎_elim (λ (e : u ≡ spent). inl e)
          (λ (z : SeatFits f start seats r.log r.taken r.holder j u). inr record {
            of_turn = z.of_turn;
            seen = prefix_trans u.seen r.log (entries y) z.seen (pre' 0);
            heard = prefix_trans u.heard r.log (entries y) z.heard (pre' 0);
            rising = rises_wider 0 (length r.log) (length (entries y)) u.mine
                (prefix_length r.log (entries y) (pre' 0)) z.rising;
            mine = stands_more r.log (entries y) u.mine (pre' 0) z.mine;
            stands = z.stands;
            turn = λ h. absurd (apart ((z.turn h).1 ∙ sym here));
          })

  gives_at : (slots id : ℕ) (v : V) (y : T) (new : ℕ) → slots ≡ 1 → v.has ≡ true → v.fixed ≡ Some (fixed y)
      → IsPrefix v.seen (entries y)
      → length (entries y) < 2 ^ 63 → new ≡ 2 * length (entries y)
      → Allows Rule slots id (v, (0, Some y) ∷ []) 0 (λ _. new)
      (λ _. Gives entries (step slots 0 new 0 none) (v, (0, Some y) ∷ []) new)
  gives_at slots id v y new one has same pre small is s r wide at _ =
      let done = given s r id v y at has same pre small in (
        gave v (entries y),
        gives,
        tt,
        subst (λ (q : List ℕ × List (Home (Option T))).
            Rule record { words = q.0; homes = q.1; views = set s.views id (gave v (entries y)) })
            (λ i. (sym words_after i, sym (only s.homes (wide ∙ one)) i)) done.0,
        λ y' e. (ap (λ (t : T). (gave v (entries t), nothing)) (same_one y y' e), done.1),
      )
    where
      words_after : set s.words 0 new ≡ (2 * length (entries y)) ∷ []
      words_after = rw is (ap (λ ws. set ws 0 (2 * length (entries y))) r.words)

      nothing : List (ℕ × Option T)
      nothing = []

      only : (hs : List (Home (Option T))) → length hs ≡ 1 → set hs 0 (some (Some y)) ≡ some (Some y) ∷ []
      only [] e = absurd (omega arith)
      only (h ∷ []) e = refl
      only (h ∷ h' ∷ hs) e = absurd (omega arith)

      same_one : (y y' : T) → ◌≡◌ {A = List (ℕ × Option T)} ((0, Some y) ∷ []) ((0, Some y') ∷ []) → y ≡ y'
      same_one y y' e = let p : ◌≡◌ {A = Option T} (Some y) (Some y') = ap (λ l. first_carried (Some y) l) e in cc

  pub gives_home : (slots id : ℕ) (me : M) (y : T) (new : ℕ)
      → slots ≡ 1 → me.1 ≡ (0, Some y) ∷ [] → me.0.has ≡ true → me.0.fixed ≡ Some (fixed y)
      → IsPrefix me.0.seen (entries y) → length (entries y) < 2 ^ 63 → new ≡ 2 * length (entries y)
      → Allows Rule slots id me 0 (λ _. new) (λ _. Gives entries (step slots 0 new 0 none) me new)
  gives_home slots id me y new one carries has same pre small is =
      subst (λ c. Allows Rule slots id (me.0, c) 0 (λ _. new)
      (λ _. Gives entries (step slots 0 new 0 none) (me.0, c) new)) (sym carries)
      (gives_at slots id me.0 y new one has same pre small is)

  -- what was heard counts as seen
  pub settles : (slots id : ℕ) (me : M)
      → 0 < me.0.stands → Allows Rule slots id me 0 (λ n. n) (Settles (step slots 0 0 0 none) me)
  settles slots id me live s r _ at _ =
      let v = me.0 in
      let w = settled v in
      let n : ℕ = word s in
      let is = word_is s r in
      let x = live_of s r id v at live in
      let both = longer_both v.seen v.heard r.log x.seen x.heard in
      let part = part_le (λ (u : V). u.stands + u.splits) s.views id v at in
      let all = r.passes in
      let same : v.seats ≡ seats = x.same_seats in (
        w,
        keeps,
        tt,
        record {
          count = counted s r (set s.words 0 n) (rw is (ap (λ ws. set ws 0 (2 * length r.log + r.taken)) r.words));
          holds = λ t. holds_still s.views r.holder id v w at refl (r.holds t);
          each = seats_stay (Sits f start seats r.log r.taken r.holder) s.views id w
              (inr record {
                of_turn = x.of_turn;
                seen = longer_begins v.seen v.heard r.log x.seen x.heard;
                heard = (r.log, refl);
                rising = x.rising;
                mine = x.mine;
                stands = x.stands;
                turn = λ h. let t = x.turn h in (t.0, t.1, whole v.seen v.heard r.log t.2 x.heard);
              })
              (λ j u _ e. r.each j u e);
          all_places = λ q. same_places s.views id v w at refl q ∙ r.all_places q;
          passes = same_passes s.views id v w at refl ∙ r.passes;
        },
        (refl, both.0, both.1, rises_test 0 (length r.log) v.mine x.rising, omega arith),
      )
    where
      whole : (xs ys zs : List E) → xs ≡ zs → IsPrefix ys zs → longer xs ys ≡ zs
      whole xs ys zs e p = by_test (ltb (length xs) (length ys)) refl
        where
          by_test : (b : Bool) → ltb (length xs) (length ys) ≡ b → cond b ys xs ≡ zs
          by_test true t = let l = ltb-true (length xs) (length ys) t in let m = prefix_length ys zs p in
              let n : length xs ≡ length zs =
              ap length e in absurd (omega arith)
          by_test false t = e
