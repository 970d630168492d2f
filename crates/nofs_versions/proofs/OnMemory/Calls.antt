-- What a write and a flush of a disk in memory do, as every disk says it.
use Rattle.std.proofs.Common.{◌≡◌, ◌≢◌, ◌⊎◌, ℕ, ◌+◌, ◌-◌, ◌*◌, ◌/◌, ◌<◌, ◌≤◌, if◌then◌else◌, nat_lt, eqb, Bool, true}
use Rattle.std.proofs.Common.{false, List, [], ◌∷◌, ◌++◌, length}
use Rattle.std.proofs.Common.{take, arith, inl, inr, refl, sym, ap, subst, ◌∙◌, eq-eqb, Result, Ok, Err}
use Rattle.std.proofs.lemmas.List.Elements.{Contains-append_left}
use Rattle.std.specs.Prelude.{Contains, OnErr, OnOk}
use Rattle.std.proofs.lemmas.List.{length_push, take-append-le, take_all, take_at, get_or_append_left, get_or_at}
use Rattle.nofs_disk.specs.declared.Failed.{Failed}
use Rattle.nofs_disk.specs.declared.tag.Cell.{Cell}
use Rattle.nofs_disk.specs.Disk.{Flushes, IsSameDisk, KeepsPast, Picks, Rose, Writes, cell_at}
use Rattle.nofs_disk.specs.Held.{Held}
use Rattle.nofs_versions.specs.declared.call.Call.{Call}
use Rattle.nofs_versions.specs.declared.call.Call.TheVariants.{Write, Flush}
use Rattle.nofs_versions.specs.Memory.{after_flush, after_write, within, MayLeave, call_at, held_after, may_during}
use Rattle.nofs_versions.specs.Memory.{state_of}
use Rattle.nofs_versions.specs.Faults.{next}
use Rattle.nofs_versions.specs.Laws.{picks-within, within_from, within_has, held_after-held}
use Rattle.nofs_versions.proofs.OnMemory.Cells.{flush_now, flush_of, held_after-push, may_cases, may_of, now_cases}
use Rattle.nofs_versions.proofs.OnMemory.Cells.{now_of, only_one, write_others}

-- what may be held during a call is as it was when one more call was made
during_same : (base : List Cell) (calls : List Call) (call : Call) (k : ℕ) → k < length calls
    → may_during (held_after base (take k (calls ++ call ∷ []))) (call_at (calls ++ call ∷ []) k)
    ≡ may_during (held_after base (take k calls)) (call_at calls k)
during_same base calls call k low =
    let p = take-append-le k calls (call ∷ []) (omega arith) in
    let q = get_or_append_left calls (call ∷ []) (Flush false) k low in
    λ i. may_during (held_after base (p i)) (q i)

-- the moments up to the one at which a call began are as they were
pub keeps_past : (start : ℕ) (base : List Cell) (calls : List Call) (call : Call) (s f t g : ℕ)
    → KeepsPast (state_of start base calls s f) (state_of start base (calls ++ call ∷ []) t g)
keeps_past start base calls call s f t g = record {
  was = λ m low. ap (λ l. (held_after base l).now) (take-append-le ((m - start) / 2) calls (call ∷ []) (omega arith));
  no_more = λ m image low left. elim left [
    | inl rest ↦
        let k_low : rest.k ≤ length calls = (let e = rest.at in omega arith) in
        let F : List Call → Type 0 = λ l. Picks (held_after base l).may (length base) image in
        inl (record {
          k = rest.k;
          at = rest.at;
          made = k_low;
          picks = subst F (take-append-le rest.k calls (call ∷ []) k_low) rest.picks;
        })
    | inr mid ↦
        let k_low : mid.k < length calls = (let e = mid.at in omega arith) in
        let F : (ℕ → List Cell) → Type 0 = λ may. Picks may (length base) image in
        inr (record {
          k = mid.k;
          at = mid.at;
          made = k_low;
          picks = subst F (during_same base calls call mid.k k_low) mid.picks;
        })
  ];
  no_less = λ m image low left. elim left [
    | inl rest ↦
        let k_low = rest.made in
        let F : List Call → Type 0 = λ l. Picks (held_after base l).may (length base) image in
        inl (record {
          k = rest.k;
          at = rest.at;
          made = (let e = length_push calls call in omega arith);
          picks = subst F
              (sym (take-append-le rest.k calls (call ∷ []) k_low)) rest.picks;
        })
    | inr mid ↦
        let F : (ℕ → List Cell) → Type 0 = λ may. Picks may (length base) image in
        inr (record {
          k = mid.k;
          at = mid.at;
          made = (let e = length_push calls call in omega arith);
          picks = subst F (sym (during_same base calls call mid.k mid.made)) mid.picks;
        })
  ];
}

-- the images of the moment during the last call
pub during_last : (start : ℕ) (base : List Cell) (calls : List Call) (call : Call) (image : List Cell)
    → MayLeave start base (calls ++ call ∷ []) (start + 2 * length calls + 1) image
    → Picks (may_during (held_after base calls) call) (length base) image
during_last start base calls call image (inl rest) = absurd (let e = rest.at in omega arith)
during_last start base calls call image (inr mid) =
    let k_is : mid.k ≡ length calls = (let e = mid.at in omega arith) in
    let F : List Call → Type 0 =
    λ l. Picks (may_during (held_after base l) (call_at (calls ++ call ∷ []) mid.k)) (length base) image in
    let G : Call → Type 0 = λ c. Picks (may_during (held_after base calls) c) (length base) image in
    subst G (get_or_at calls call [] (Flush false) mid.k (sym k_is))
    (subst F (take_at calls (call ∷ []) mid.k (sym k_is)) mid.picks)

-- the parts of the disk that stay
pub same_disk : (start : ℕ) (base : List Cell) (calls next : List Call) (s f t g : ℕ) → f ≤ g
    → IsSameDisk (state_of start base calls s f) (state_of start base next t g)
same_disk start base calls next s f t g le = record { blocks = refl; tells = refl; holds_back = refl; faults = le }

-- a list of calls that is one call longer is two moments later
two_later : (start : ℕ) (calls : List Call) (call : Call)
    → start + 2 * length (calls ++ call ∷ []) ≡ start + 2 * length calls + 2
two_later start calls call = let e = length_push calls call in omega arith

during_write : (start : ℕ) (base : List Cell) (calls : List Call) (block : ℕ) (cell : Cell) (taken : Bool)
    (image : List Cell)
    → MayLeave start base (calls ++ Write block cell taken ∷ []) (start + 2 * length calls + 1) image
    → Picks (held_after base (calls ++ Write block cell taken ∷ [])).may (length base) image
during_write start base calls block cell taken image left =
    let F : (ℕ → List Cell) → Type 0 = λ may. Picks may (length base) image in
    subst F (sym (ap (λ h. h.may) (held_after-push base calls (Write block cell taken))))
    (during_last start base calls (Write block cell taken) image left)

-- the same of the lists of the blocks that there are
within_cases : (base : List Cell) (calls : List Call) (block : ℕ) (cell : Cell) (taken : Bool) (c : Cell)
    → block < length base
    → Contains (within (length base) (held_after base (calls ++ Write block cell taken ∷ [])).may block) c
    → Contains (within (length base) (held_after base calls).may block) c ⊎ (c ≡ cell)
within_cases base calls block cell taken c low has =
    elim (may_cases base calls block cell taken c
    (within_has (length base) (held_after base (calls ++ Write block cell taken ∷ [])).may block c has).1) [
      | inl before ↦ inl (within_from (length base) (held_after base calls).may block c low before)
      | inr is ↦ inr is
    ]

within_stays : (base : List Cell) (calls : List Call) (block : ℕ) (cell : Cell) (taken : Bool) (c : Cell)
    → block < length base
    → Contains (within (length base) (held_after base calls).may block) c
    → Contains (within (length base) (held_after base (calls ++ Write block cell taken ∷ [])).may block) c
within_stays base calls block cell taken c low has =
    let before = (within_has (length base) (held_after base calls).may block c has).1 in
    let F : List Cell → Type 0 = λ l. Contains l c in
    within_from (length base) (held_after base (calls ++ Write block cell taken ∷ [])).may block c low
    (subst F (sym (may_of base calls block block cell taken)) (go taken (held_after base calls) before))
  where
    go : (t : Bool) (h : Held) → Contains (h.may block) c → Contains ((after_write t h block cell).may block) c
    go false h was = was
    go true h was = let e = eq-eqb block block refl in rw e (Contains-append_left (h.may block) (cell ∷ []) c was)

within_others : (base : List Cell) (calls : List Call) (block b : ℕ) (cell : Cell) (taken : Bool) → b ≢ block
    → within (length base) (held_after base (calls ++ Write block cell taken ∷ [])).may b ≡ within (length base)
    (held_after base calls).may b
within_others base calls block b cell taken other =
    ap (λ l. if nat_lt b (length base) then l else [])
    (may_of base calls block b cell taken ∙ write_others taken (held_after base calls) block b cell other)

within_during : (start : ℕ) (base : List Cell) (calls : List Call) (block : ℕ) (cell : Cell) (taken : Bool)
    (image : List Cell)
    → MayLeave start base (calls ++ Write block cell taken ∷ []) (start + 2 * length calls + 1) image
    → Picks (within (length base) (held_after base (calls ++ Write block cell taken ∷ [])).may) (length base) image
within_during start base calls block cell taken image left =
    picks-within (length base) (held_after base (calls ++ Write block cell taken ∷ [])).may image
    (during_write start base calls block cell taken image left)

not_held : (P : Type 0) → false ≡ true → P
not_held P e = cc

-- what follows where a call succeeded, and where it failed
on_ok : (result : Result (Unit {0}) Failed) {P Q : Type 0} → (P → Q) → OnOk result P → OnOk result Q
on_ok (Ok u) goes p = goes p
on_ok (Err failed) goes p = tt

on_err : (result : Result (Unit {0}) Failed) {P Q : Type 0} → (P → Q) → OnErr result P → OnErr result Q
on_err (Ok u) goes p = tt
on_err (Err failed) goes p = goes p

-- a write: one that succeeds is taken, and one that fails is counted
pub writes : (start : ℕ) (base : List Cell) (calls : List Call) (s t f g block : ℕ) (cell : Cell) (taken : Bool)
    (result : Result (Unit {0}) Failed)
    → block < length base → t + 1 ≡ s → f ≤ g → OnOk result (taken ≡ true) → OnErr result (Rose f g)
    → OnOk result (g ≡ f)
    → Writes (state_of start base calls s f)
    (state_of start base (calls ++ Write block cell taken ∷ []) t g) block cell result
writes start base calls s t f g block cell taken result low room later went failed no_fault = record {
  disk = same_disk start base calls (calls ++ Write block cell taken ∷ []) s f t g later;
  past = keeps_past start base calls (Write block cell taken) s f t g;
  moment = two_later start calls (Write block cell taken);
  spare = room;
  ok = on_ok result (λ is. now_of base calls block cell taken
      ∙ ap (λ t. (after_write t (held_after base calls) block cell).now) is) went;
  err = on_err result (λ rose. now_cases base calls block cell taken) failed;
  may = λ c has. within_cases base calls block cell taken c low has;
  stays = λ c has. within_stays base calls block cell taken c low has;
  others = λ b other. within_others base calls block b cell taken other;
  during = within_during start base calls block cell taken;
  cause = failed;
  no_fault = no_fault;
  dirty = λ b other. (λ has. has, λ has. has);
  held = not_held _;
}

during_flush : (start : ℕ) (base : List Cell) (calls : List Call) (settles : Bool) (image : List Cell)
    → MayLeave start base (calls ++ Flush settles ∷ []) (start + 2 * length calls + 1) image
    → Picks (held_after base calls).may (length base) image
during_flush start base calls settles image left = during_last start base calls (Flush settles) image left

-- a flush: one that succeeds settles all, and one that fails settles nothing and is counted
pub flushes : (start : ℕ) (base : List Cell) (calls : List Call) (s t f g : ℕ) (settles : Bool)
    (result : Result (Unit {0}) Failed) → t + 1 ≡ s → f ≤ g
    → OnOk result (settles ≡ true) → OnErr result ((settles ≡ false) × Rose f g) → OnOk result (g ≡ f)
    → Flushes (state_of start base calls s f) (state_of start base (calls ++ Flush settles ∷ []) t g) result
flushes start base calls s t f g settles result room later went failed no_fault = record {
  disk = same_disk start base calls (calls ++ Flush settles ∷ []) s f t g later;
  past = keeps_past start base calls (Flush settles) s f t g;
  moment = two_later start calls (Flush settles);
  spare = room;
  now = now;
  may = may settles refl;
  settled = on_ok result (λ is b c low has. one is b c (within_has (length base) after.may b c has).1
      ∙ ap (λ l. cell_at l b) (sym now)) went;
  was = on_ok result (λ is. was) went;
  clean = on_ok result (λ is. refl) went;
  err = on_err result (λ fails. same_may fails.0) failed;
  dirty = λ b has. has;
  during = λ image left. picks-within (length base) before.may image (during_flush start base calls settles image left);
  cause = on_err result (λ fails. fails.1) failed;
  no_fault = no_fault;
}
  where
    before : Held
    before = held_after base calls

    next_calls : List Call
    next_calls = calls ++ Flush settles ∷ []

    after : Held
    after = held_after base next_calls

    now : after.now ≡ before.now
    now = ap (λ h. h.now) (flush_of base calls settles) ∙ flush_now settles before

    one : settles ≡ true → (b : ℕ) (c : Cell) → Contains (after.may b) c → c ≡ cell_at before.now b
    one is b c has =
        let F : Held → Type 0 = λ h. Contains (h.may b) c in
        only_one (cell_at before.now b) c
        (subst F (flush_of base calls settles ∙ ap (λ t. after_flush t before) is) has)

    same_may : settles ≡ false → within (length base) after.may ≡ within (length base) before.may
    same_may is = ap (λ h. within (length base) h.may) (flush_of base calls settles ∙ ap (λ t. after_flush t before) is)

    may : (t : Bool) → settles ≡ t → (b : ℕ) (c : Cell) → b < length base
        → Contains (within (length base) after.may b) c
        → Contains (within (length base) before.may b) c
    may true is b c low has =
        let F : Cell → Type 0 = λ x. Contains (within (length base) before.may b) x in
        subst F (sym (one is b c (within_has (length base) after.may b c has).1))
        (within_from (length base) before.may b _ low ((held_after-held base calls).has_now b low))
    may false is b c low has = let F : (ℕ → List Cell) → Type 0 = λ m. Contains (m b) c in subst F (same_may is) has

    half : (start k : ℕ) → (start + 2 * k - start) / 2 ≡ k
    half start k = omega arith

    was : (held_after base (take ((start + 2 * length next_calls - start) / 2) next_calls)).now ≡ before.now
    was =
        ap (λ k. (held_after base (take k next_calls)).now) (half start (length next_calls))
        ∙ ap (λ l. (held_after base l).now) (take_all (length next_calls) next_calls (omega arith)) ∙ now
