-- What a disk in memory holds after one call more.
use Rattle.std.proofs.Common.{◌≡◌, ◌≢◌, ◌⊎◌, ℕ, Bool, true, false, zero, suc, List, [], ◌∷◌, ◌++◌, length, set, arith}
use Rattle.std.proofs.Common.{inl, inr, refl, sym, ap, subst, ◌∙◌}
use Rattle.std.specs.Prelude.{Contains}
use Rattle.std.proofs.lemmas.Grind.{fold-append}
use Rattle.std.proofs.lemmas.List.{length-set}
use Rattle.std.proofs.lemmas.List.Elements.{Contains-push_cases}
use Rattle.nofs_disk.specs.declared.tag.Cell.{Cell}
use Rattle.nofs_disk.specs.Disk.{IsSettled, cell_at}
use Rattle.nofs_disk.specs.Held.{Held, written_here, written_other}
use Rattle.nofs_versions.specs.declared.call.Call.{Call}
use Rattle.nofs_versions.specs.declared.call.Call.TheVariants.{Write, Flush}
use Rattle.nofs_versions.specs.Memory.{after_call, after_flush, after_write, held_after, put_if, settled, state_of}
use Rattle.nofs_versions.specs.Laws.{within_has}

-- one call more
pub held_after-push : (base : List Cell) (calls : List Call) (call : Call)
    → held_after base (calls ++ call ∷ []) ≡ after_call (held_after base calls) call
unfolding held_after
held_after-push base calls call = fold-append after_call (settled base) calls (call ∷ [])

-- what a block may hold after a write that is taken or not
write_may : (taken : Bool) (held : Held) (block : ℕ) (cell c : Cell)
    → Contains ((after_write taken held block cell).may block) c
    → Contains (held.may block) c ⊎ (c ≡ cell)
write_may true held block cell c has =
    let F : List Cell → Type 0 = λ l. Contains l c in
    elim (Contains-push_cases (held.may block) cell c (subst F (written_here held block cell) has))
    [ inl before ↦ inl before | inr is ↦ inr (sym is) ]
write_may false held block cell c has = inl has

pub write_others : (taken : Bool) (held : Held) (block b : ℕ) (cell : Cell)
    → b ≢ block → (after_write taken held block cell).may b ≡ held.may b
write_others true held block b cell other = written_other held block b cell other
write_others false held block b cell other = refl

write_now : (taken : Bool) (held : Held) (block : ℕ) (cell : Cell)
    → ((after_write taken held block cell).now ≡ held.now)
    ⊎ ((after_write taken held block cell).now ≡ set held.now block cell)
write_now true held block cell = inr refl
write_now false held block cell = inl refl

-- the parts of a write that its result doesn't change
pub may_of : (base : List Cell) (calls : List Call) (block b : ℕ) (cell : Cell) (taken : Bool)
    → (held_after base (calls ++ Write block cell taken ∷ [])).may b
    ≡ (after_write taken (held_after base calls) block cell).may b
may_of base calls block b cell taken = ap (λ h. h.may b) (held_after-push base calls (Write block cell taken))

pub now_of : (base : List Cell) (calls : List Call) (block : ℕ) (cell : Cell) (taken : Bool)
    → (held_after base (calls ++ Write block cell taken ∷ [])).now
    ≡ (after_write taken (held_after base calls) block cell).now
now_of base calls block cell taken = ap (λ h. h.now) (held_after-push base calls (Write block cell taken))

pub now_cases : (base : List Cell) (calls : List Call) (block : ℕ) (cell : Cell) (taken : Bool)
    → ((held_after base (calls ++ Write block cell taken ∷ [])).now ≡ (held_after base calls).now) ⊎
    ((held_after base (calls ++ Write block cell taken ∷ [])).now ≡ set (held_after base calls).now block cell)
now_cases base calls block cell taken = elim (write_now taken (held_after base calls) block cell) [
  | inl stays ↦ inl (now_of base calls block cell taken ∙ stays)
  | inr comes ↦ inr (now_of base calls block cell taken ∙ comes)
]

pub may_cases : (base : List Cell) (calls : List Call) (block : ℕ) (cell : Cell) (taken : Bool) (c : Cell)
    → Contains ((held_after base (calls ++ Write block cell taken ∷ [])).may block) c
    → Contains ((held_after base calls).may block) c ⊎ (c ≡ cell)
may_cases base calls block cell taken c has =
    let F : List Cell → Type 0 = λ l. Contains l c in
    write_may taken (held_after base calls) block cell c (subst F (may_of base calls block block cell taken) has)

pub flush_of : (base : List Cell) (calls : List Call) (settles : Bool)
    → held_after base (calls ++ Flush settles ∷ []) ≡ after_flush settles (held_after base calls)
flush_of base calls settles = held_after-push base calls (Flush settles)

pub flush_now : (settles : Bool) (held : Held) → (after_flush settles held).now ≡ held.now
flush_now true held = refl
flush_now false held = refl

pub only_one : (x c : Cell) → Contains (x ∷ []) c → c ≡ x
only_one x c (zero, low, is) = sym is
only_one x c (suc k, low, is) = absurd (omega arith)

-- the cells after a write are those that are kept
put_if_is : (taken : Bool) (held : Held) (block : ℕ) (cell : Cell)
    → put_if taken held.now block cell ≡ (after_write taken held block cell).now
put_if_is true held block cell = refl
put_if_is false held block cell = refl

pub length-put_if : (taken : Bool) (cells : List Cell) (block : ℕ) (cell : Cell)
    → length (put_if taken cells block cell) ≡ length cells
length-put_if true cells block cell = length-set cells block cell
length-put_if false cells block cell = refl

pub write_present : (base cells : List Cell) (calls : List Call) (block : ℕ) (cell : Cell) (taken : Bool)
    → cells ≡ (held_after base calls).now
    → put_if taken cells block cell ≡ (held_after base (calls ++ Write block cell taken ∷ [])).now
write_present base cells calls block cell taken is =
    ap (λ l. put_if taken l block cell) is ∙ put_if_is taken (held_after base calls) block cell
    ∙ sym (now_of base calls block cell taken)

pub flush_present : (base cells : List Cell) (calls : List Call) (settles : Bool) → cells ≡ (held_after base calls).now
    → cells ≡ (held_after base (calls ++ Flush settles ∷ [])).now
flush_present base cells calls settles is = is ∙ sym (flush_now settles (held_after base calls))
    ∙ sym (ap (λ h. h.now) (flush_of base calls settles))

-- no call was made
pub after_none : (base : List Cell) (calls : List Call) → calls ≡ [] → (held_after base calls).now ≡ base
unfolding held_after
after_none base calls is = ap (λ l. (held_after base l).now) is

-- a disk without calls is settled
pub settled_none : (start : ℕ) (base : List Cell) (calls : List Call) (spare faults : ℕ)
    → calls ≡ [] → IsSettled (state_of start base calls spare faults)
unfolding held_after
settled_none start base calls spare faults none block c low has =
    let F : List Call → Type 0 = λ l. Contains ((held_after base l).may block) c in
    let now : (held_after base calls).now ≡ base = after_none base calls none in
    only_one (cell_at base block) c (subst F none (within_has (length base) (held_after base calls).may block c has).1)
    ∙ ap (λ l. cell_at l block) (sym now)
