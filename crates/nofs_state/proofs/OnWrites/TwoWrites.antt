-- Two writes, one after the other.
use Rattle.std.proofs.Common.{◌≡◌, ◌≢◌, ℕ, ◌<◌, ◌⊎◌, Bool, true, false, inl, inr, List, [], ◌∷◌, length, Result, Ok}
use Rattle.std.proofs.Common.{eqb, eqb-true, Err, refl, sym, ap, ◌∙◌, subst, arith, le_refl, IsTrue, Contains}
use Rattle.std.specs.Prelude.{OnOk, OnErr, slice_set}
use Rattle.nofs_disk.specs.Disk.{DiskState, IsDisk, IsSettled, Writes, Rose, cell_at, no_cell}
use Rattle.std.proofs.lemmas.List.{get_or-set_other}
use Rattle.nofs_model.proofs.OnSound.Writes.{supers}
use Rattle.nofs_state.specs.Books.Maps.{IsSafe}
use Rattle.nofs_state.specs.declared.books.maps.Books.{Books}
use Rattle.nofs_disk.specs.Adds.{Adds, Adds-trans, Adds-writes}
use Rattle.nofs_disk.specs.Chains.{Rose-within}
use Rattle.nofs_disk.specs.declared.Failed.{Failed}
use Rattle.nofs_disk.specs.declared.tag.Cell.{Cell}
use Rattle.nofs_model.specs.Files.{Files}
use Rattle.nofs_model.specs.Geometry.{Image}
use Rattle.nofs_history.specs.declared.machine.replies.Refusal.{Refusal}
use Rattle.nofs_history.specs.declared.machine.replies.Refusal.TheVariants as refusal
use Rattle.nofs_disk.specs.Order.{OneOf, HasOneEach, IsApart, IsTried, OnlyWrites, WritesOnce, has_failed, image_after}
use Rattle.nofs_state.specs.Writes.Cells.{NotStored, Stored, Stores, stopped_books, WritesAll}
use Rattle.nofs_history.specs.declared.machine.history.Entry1.{Entry1}
use Rattle.nofs_state.specs.Cores.Invariant.{IsOpen, Past}
use Rattle.nofs_state.specs.Cores.Steps.{IsRow, MeetsOpen, WritesCells}
use Rattle.nofs_history.specs.Writes.{WritesSoMany}
use Rattle.nofs_history.specs.declared.machine.history.Claims.{Claims}
use Rattle.nofs_history.specs.declared.machine.steps.Step.{Step}
use Rattle.nofs_state.proofs.OnCores.Done.{Adds-map}
use Rattle.nofs_state.proofs.OnBooks.Safe.{safe-over}

-- other blocks stay, whatever comes of a write
pub write-other : (old new : DiskState) (block : ℕ) (cell : Cell) (r : Result (Unit {0}) Failed) (b : ℕ)
    → Writes old new block cell r → b ≢ block
    → cell_at new.now b ≡ cell_at old.now b
write-other old new block cell r b w ne = go r w.ok w.err
  where
    set : new.now ≡ slice_set old.now block cell → cell_at new.now b ≡ cell_at old.now b
    set e = ap (λ (X : Image). cell_at X b) e ∙ get_or-set_other old.now block b cell no_cell ne

    go : (q : Result (Unit {0}) Failed) → OnOk q (new.now ≡ slice_set old.now block cell)
        → OnErr q ((new.now ≡ old.now) ⊎ (new.now ≡ slice_set old.now block cell))
        → cell_at new.now b ≡ cell_at old.now b
    go (Ok u) ok err = set ok
    go (Err x) ok err = elim err [ inl same ↦ ap (λ (X : Image). cell_at X b) same | inr e ↦ set e ]

-- one call of write
only-one : (old new : DiskState) (b : ℕ) (c : Cell) (r : Result (Unit {0}) Failed) → IsDisk new → Writes old new b c r
    → OnlyWrites old new ((b, c) ∷ []) (has_failed r)
only-one old new b c r is w = record {
  moment = (let m = w.moment in omega (arith, m));
  others = λ n apart. w.others n apart.0;
  kept = λ n d has. kept n d (eqb n b) refl has;
  cells = (let a : Adds (OneOf ((b, c) ∷ [])) old new =
      Adds-writes (OneOf ((b, c) ∷ [])) old new b c is w (inl (refl, refl)) in a.cells);
  done = done r w.ok;
  tried = tried r w.err;
  dirty = λ n apart has. (w.dirty n apart.0).1 has;
  held = λ holds n d one. elim one
      [ inl here ↦ subst (λ (q : ℕ). Contains new.dirty q) (sym here.0) (w.held holds).1 | inr none ↦ absurd none ];
}
  where
    kept : (n : ℕ) (d : Cell) (t : Bool) → eqb n b ≡ t → Contains (old.may n) d → Contains (new.may n) d
    kept n d true e has =
        let at = eqb-true n b e in
        subst (λ (q : ℕ). Contains (new.may q) d) (sym at)
        (w.stays d (subst (λ (q : ℕ). Contains (old.may q) d) at has))
    kept n d false e has =
        let ne : n ≢ b = λ q. let t : eqb n b ≡ true = rw q (grind arith) in cc (e, t) in
        subst (λ (l : List Cell). Contains l d) (sym (w.others n ne)) has

    done : (q : Result (Unit {0}) Failed) → OnOk q (new.now ≡ slice_set old.now b c)
        → has_failed q ≡ false → new.now ≡ slice_set old.now b c
    done (Ok u) s e = s
    done (Err x) s e = absurd (cc e)

    tried : (q : Result (Unit {0}) Failed) → OnErr q ((new.now ≡ old.now) ⊎ (new.now ≡ slice_set old.now b c))
        → has_failed q ≡ true
        → (new.now ≡ old.now) ⊎ (new.now ≡ slice_set old.now b c)
    tried (Ok u) s e = absurd (cc e)
    tried (Err x) s e = s

-- a block is none of these, or one of them
apart-or-one : (ws : List (ℕ × Cell)) (b : ℕ) → IsApart ws b ⊎ ((c : Cell) × OneOf ws b c)
apart-or-one [] b = inl tt
apart-or-one (w ∷ ws) b = go (eqb b w.0) refl (apart-or-one ws b)
  where
    go : (t : Bool) → eqb b w.0 ≡ t → IsApart ws b ⊎ ((c : Cell) × OneOf ws b c)
        → IsApart (w ∷ ws) b ⊎ ((c : Cell) × OneOf (w ∷ ws) b c)
    go true e rest = inr (w.1, inl (eqb-true b w.0 e, refl))
    go false e (inr one) = inr (one.0, inr one.1)
    go false e (inl apart) = inl (λ q. let t : eqb b w.0 ≡ true = rw q (grind arith) in cc (e, t), apart)

-- and others after it
only-more : (old mid new : DiskState) (b : ℕ) (c : Cell) (calls : List (ℕ × Cell)) (failed : Bool) → IsDisk mid
    → Writes old mid b c (Ok tt)
    → OnlyWrites mid new calls failed → OnlyWrites old new ((b, c) ∷ calls) failed
only-more old mid new b c calls failed is w v = record {
  moment = (let m = w.moment in let n = v.moment in omega (arith, m, n));
  others = λ n apart. v.others n apart.1 ∙ w.others n apart.0;
  kept = λ n d has. v.kept n d (first.kept n d has);
  cells = λ n d has. back n d (v.cells n d has);
  done = λ e. v.done e ∙ ap (λ (X : Image). image_after calls X) w.ok;
  tried = λ e. tried calls (v.tried e);
  dirty = λ n apart has. v.dirty n apart.1 (first.dirty n (apart.0, tt) has);
  held = λ holds n d one. held (subst (λ (q : Bool). IsTrue q) (sym w.disk.holds_back) holds) (w.held holds).1 n d one;
}
  where
    first : OnlyWrites old mid ((b, c) ∷ []) false
    first = only-one old mid b c (Ok tt) is w

    one : Adds (OneOf ((b, c) ∷ [])) old mid
    one = Adds-writes (OneOf ((b, c) ∷ [])) old mid b c is w (inl (refl, refl))

    back : (n : ℕ) (d : Cell) → Contains (mid.may n) d ⊎ OneOf calls n d
        → Contains (old.may n) d ⊎ OneOf ((b, c) ∷ calls) n d
    back n d (inr later) = inr (inr later)
    back n d (inl has) = elim (one.cells n d has)
        [ inl was ↦ inl was | inr it ↦ elim it [ inl here ↦ inr (inl here) | inr none ↦ absurd none ] ]

    held : IsTrue mid.holds_back → Contains mid.dirty b → (n : ℕ) (d : Cell) → OneOf ((b, c) ∷ calls) n d
        → Contains new.dirty n
    held holds has n d (inr later) = v.held holds n d later
    held holds has n d (inl here) = subst (λ (q : ℕ). Contains new.dirty q) (sym here.0) (elim (apart-or-one calls b)
        [ inl apart ↦ v.dirty b apart has | inr one ↦ v.held holds b one.0 one.1 ])

    tried : (xs : List (ℕ × Cell)) → IsTried xs mid.now new.now → IsTried ((b, c) ∷ xs) old.now new.now
    tried [] none = absurd none
    tried (x ∷ xs) t = subst (λ (X : Image). IsTried (x ∷ xs) X new.now) w.ok t

-- what a step that wrote so did to the device
pub writes-cells : {old new : DiskState} {ws : List (ℕ × Cell)} {r : Result (Unit {0}) Failed} (k : Books) (s : Step)
    (c : Claims) → WritesAll old new ws r
    → WritesSoMany s c (length ws)
    → (IsTrue old.tells → (H : List Entry1) (p : Past) → IsOpen old k H p → IsRow p.world.files s c ws)
    → WritesCells old new (MeetsOpen old k) s c (has_failed r)
writes-cells {old} {new} {ws} {r} k s c w count owes = record {
  row = ws;
  count = count;
  told = λ F m. subst (λ (files : Files). IsRow files s c ws) m.4 (owes m.2 m.0 m.1 m.3);
  calls = w.calls;
  first = w.first;
  whole = whole r w.whole;
  only = w.only;
}
  where
    whole : (q : Result (Unit {0}) Failed) → OnOk q (w.calls ≡ ws) → has_failed q ≡ false → w.calls ≡ ws
    whole (Ok u) all e = all
    whole (Err x) all e = absurd (cc e)

-- nothing was made durable: a block that might hold two cells may hold both still, so the device is not settled
pub settles-nothing : {old new : DiskState} {calls : List (ℕ × Cell)} {failed : Bool} → OnlyWrites old new calls failed
    → (b : ℕ) (c d : Cell)
    → b < new.blocks → Contains (old.may b) c → Contains (old.may b) d → c ≢ d → IsSettled new → ⊥
settles-nothing w b c d low has also differ settled =
    differ (settled b c low (w.kept b c has) ∙ sym (settled b d low (w.kept b d also)))

-- none of the others is of this block
apart-other : (ws : List (ℕ × Cell)) (b n : ℕ) (d : Cell) → IsApart ws b → OneOf ws n d → n ≢ b
apart-other [] b n d apart one = absurd one
apart-other (w ∷ ws) b n d apart (inl here) = λ e. apart.0 (sym e ∙ here.0)
apart-other (w ∷ ws) b n d apart (inr later) = apart-other ws b n d apart.1 later

-- where no block is written twice each gets one cell
pub one-each : (ws : List (ℕ × Cell)) → WritesOnce ws → HasOneEach ws
one-each [] once b c d x y = absurd x
one-each (w ∷ ws) once b c d (inl x) (inl y) = x.1 ∙ sym y.1
one-each (w ∷ ws) once b c d (inl x) (inr y) = absurd (apart-other ws w.0 b d once.0 y x.0)
one-each (w ∷ ws) once b c d (inr x) (inl y) = absurd (apart-other ws w.0 b c once.0 x y.0)
one-each (w ∷ ws) once b c d (inr x) (inr y) = one-each ws once.1 b c d x y

-- the first failed
pub first-fails : (old new : DiskState) (b : ℕ) (c : Cell) (ws : List (ℕ × Cell)) (x : Failed) → IsDisk new
    → Writes old new b c (Err x)
    → WritesAll old new ((b, c) ∷ ws) (Err x)
first-fails old new b c ws x is w = record {
  calls = (b, c) ∷ [];
  only = only-one old new b c (Err x) is w;
  first = (ws, refl);
  whole = tt;
  adds = Adds-writes (OneOf ((b, c) ∷ ws)) old new b c is w (inl (refl, refl));
  later = (let m = w.moment in omega (arith, m));
  others = λ n apart. write-other old new b c (Err x) n w apart.0;
  now = tt;
  cause = w.cause;
  no_fault = tt;
}

-- one write, whatever comes of it
pub one-write : (old new : DiskState) (b : ℕ) (c : Cell) (r : Result (Unit {0}) Failed) → IsDisk new
    → Writes old new b c r → WritesAll old new ((b, c) ∷ []) r
one-write old new b c (Err x) is w = first-fails old new b c [] x is w
one-write old new b c (Ok done) is w = record {
  calls = (b, c) ∷ [];
  only = only-one old new b c (Ok done) is w;
  first = ([], refl);
  whole = refl;
  adds = Adds-writes (OneOf ((b, c) ∷ [])) old new b c is w (inl (refl, refl));
  later = (let m = w.moment in omega (arith, m));
  others = λ n apart. write-other old new b c (Ok done) n w apart.0;
  now = w.ok;
  cause = tt;
  no_fault = w.no_fault;
}

-- the first is done, and then the others, whatever comes of them
pub then-others : (old mid new : DiskState) (b : ℕ) (c : Cell) (ws : List (ℕ × Cell)) (r : Result (Unit {0}) Failed)
    → IsDisk mid → Writes old mid b c (Ok tt)
    → WritesAll mid new ws r → WritesAll old new ((b, c) ∷ ws) r
then-others old mid new b c ws r is_mid w v = record {
  calls = (b, c) ∷ v.calls;
  only = only-more old mid new b c v.calls (has_failed r) is_mid w v.only;
  first = (v.first.0, ap (λ (xs : List (ℕ × Cell)). (b, c) ∷ xs) v.first.1);
  whole = all r v.whole;
  adds = Adds-trans (OneOf ((b, c) ∷ ws)) old mid new
      (Adds-writes (OneOf ((b, c) ∷ ws)) old mid b c is_mid w (inl (refl, refl)))
      (Adds-map (OneOf ws) (OneOf ((b, c) ∷ ws)) mid new (λ n d one. inr one) v.adds);
  later = (let m = w.moment in let n = v.later in omega (arith, m, n));
  others = λ n apart. v.others n apart.1 ∙ write-other old mid b c (Ok tt) n w apart.0;
  now = ok r v.now;
  cause = err r v.cause;
  no_fault = quiet r v.no_fault;
}
  where
    all : (q : Result (Unit {0}) Failed) → OnOk q (v.calls ≡ ws) → OnOk q ((b, c) ∷ v.calls ≡ (b, c) ∷ ws)
    all (Ok u) s = ap (λ (xs : List (ℕ × Cell)). (b, c) ∷ xs) s
    all (Err x) s = tt

    ok : (q : Result (Unit {0}) Failed) → OnOk q (new.now ≡ image_after ws mid.now)
        → OnOk q (new.now ≡ image_after ws (slice_set old.now b c))
    ok (Ok u) s = s ∙ ap (λ (X : Image). image_after ws X) w.ok
    ok (Err x) s = tt

    quiet : (q : Result (Unit {0}) Failed) → OnOk q (new.faults ≡ mid.faults) → OnOk q (new.faults ≡ old.faults)
    quiet (Ok u) e = e ∙ w.no_fault
    quiet (Err x) e = tt

    err : (q : Result (Unit {0}) Failed) → OnErr q (Rose mid.faults new.faults) → OnErr q (Rose old.faults new.faults)
    err (Ok u) s = tt
    err (Err x) s = Rose-within old.faults mid.faults new.faults new.faults w.disk.faults s (le_refl new.faults)

-- so where the mount stops at a fault
pub stores-first : {old mid new : DiskState} {k l : Books} {b : ℕ} {c : Cell} {ws : List (ℕ × Cell)}
    {r : Result (Unit {0}) Refusal} → IsDisk mid
    → Writes old mid b c (Ok tt) → Stores mid k new l ws r → Stores old k new l ((b, c) ∷ ws) r
stores-first is w (Stored v same e) = Stored (then-others _ _ _ _ _ _ _ is w v) same e
stores-first is w (NotStored x v same e) = NotStored x (then-others _ _ _ _ _ _ _ is w v) same e

-- the first failed, and the mount is stopped
pub stores-none : {old new : DiskState} {k l : Books} {b : ℕ} {c : Cell} {ws : List (ℕ × Cell)} {x : Failed}
    {why : Refusal} → IsDisk new
    → Writes old new b c (Err x) → l ≡ stopped_books k
    → why ≡ refusal.WriteFault → Stores old k new l ((b, c) ∷ ws) (Err why)
stores-none is w stopped e = NotStored _ (first-fails _ _ _ _ _ _ is w) stopped (ap Err e)

-- the maps and numbers stay those of the disk, where no write is of the superblock
pub safe-writes : (old new : DiskState) (k : Books) (ws : List (ℕ × Cell)) (r : Result (Unit {0}) Failed) (stop : Bool)
    → WritesAll old new ws r
    → IsApart ws 0 → IsSafe old k → IsSafe new (record k { stopped = stop })
safe-writes old new k ws r stop w apart =
    safe-over old new k stop k.history w.adds.disk (supers old.now new.now (w.others 0 apart))
