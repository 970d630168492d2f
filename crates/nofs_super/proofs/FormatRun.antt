-- A format, call by call.
use Rattle.std.proofs.Common.{◌≡◌, ◌≢◌, ℕ, ◌+◌, ◌-◌, ◌*◌, ◌<◌, ◌≤◌, List, [], ◌∷◌, ◌++◌, length, drop, set, Some, None}
use Rattle.std.proofs.Common.{Result, Ok, Err, Bool, true, false, arith, ◌⊎◌, inl, inr}
use Rattle.std.proofs.Common.{refl, sym, ap, ◌∙◌, ltb, eqb, eqb-true, subst}
use Rattle.std.specs.Prelude.{Contains, IsErr, IsTrue, OnErr, OnOk, Option, is_err, if◌then◌else◌}
use Rattle.std.proofs.lemmas.Bool.{cases_lt}
use Rattle.std.proofs.lemmas.List.{append_assoc, drop_more, get_or_append_left, get_or-set_other, get_or-set_same}
use Rattle.std.proofs.lemmas.List.{get_or_past, length-set, set-append_right}
use Rattle.std.proofs.lemmas.List.FromFn.{map-range_with_len_more}
use Rattle.nofs_disk.specs.declared.Failed.{Failed}
use Rattle.nofs_disk.specs.declared.tag.Cell.{Cell}
use Rattle.nofs_disk.specs.Adds.{Adds, Adds-flushes, Adds-readies, Adds-trans, Adds-writes, WasOr}
use Rattle.nofs_disk.specs.Chains.{IsSameDisk-trans, StaysButFaults-refl}
use Rattle.nofs_disk.specs.Disk.{DiskState, Flushes, IsDisk, MakesReady, Rose, Writes, WritesOut, cell_at, no_cell}
use Rattle.nofs_super.specs.Format.{FormatEnds, IsFaulted, IsFreshCell, OldOrFresh, PutsFresh}
use Rattle.nofs_super.specs.Format.{cell_at-formatted, first_formatted, formatted}
use Rattle.nofs_super.specs.Format.{formatted_cell, length-first_formatted}
use Rattle.nofs_super.specs.Geometry.{bad_inodes, format_fault, least_blocks, most_blocks}
use Rattle.nofs_super.specs.declared.geometry.FormatFault.{FormatFault}
use Rattle.nofs_super.specs.declared.geometry.FormatFault.TheVariants.{TooSmall, TooLarge, NotMultiple, WriteFault}
use Rattle.nofs_super.specs.declared.geometry.FormatFault.TheVariants.{OutOfMemory}

-- what holds where a call succeeded
ok_part : {V E P : Type 0} (r : Result V E) → is_err r ≡ false → OnOk r P → P
ok_part (Ok u) e on = on
ok_part (Err x) e on = cc

-- what holds where a call failed
err_part : {V E P : Type 0} (r : Result V E) (error : E) → r ≡ Err error → OnErr r P → P
err_part (Ok u) error e on = cc
err_part (Err x) error e on = on

bad_part : {V E P : Type 0} (r : Result V E) → is_err r ≡ true → OnErr r P → P
bad_part (Ok u) e on = cc
bad_part (Err x) e on = on

-- Numbers that are refused

-- the numbers alone name neither a write that failed nor a want of memory
named : (device blocks inodes : ℕ) (fault : FormatFault) → format_fault device blocks inodes ≡ Some fault
    → (fault ≡ WriteFault → ⊥) × (fault ≡ OutOfMemory → ⊥)
unfolding format_fault
named device blocks inodes fault e =
    go (bad_inodes inodes) (ltb blocks (least_blocks inodes)) (ltb (most_blocks device) blocks) e
  where
    go : (a b c : Bool)
        → (if a then Some (NotMultiple inodes) else if b then Some (TooSmall (least_blocks inodes)) else if c then Some
        (TooLarge (most_blocks device)) else None) ≡ Some fault
        → (fault ≡ WriteFault → ⊥) × (fault ≡ OutOfMemory → ⊥)
    go true b c e = (λ f. cc, λ f. cc)
    go false true c e = (λ f. cc, λ f. cc)
    go false false true e = (λ f. cc, λ f. cc)
    go false false false e = cc

pub ends-refused : (blocks inodes : ℕ) (d : DiskState) (fault : FormatFault)
    → format_fault d.blocks blocks inodes ≡ Some fault
    → FormatEnds blocks inodes d d (Err fault)
ends-refused blocks inodes d (TooSmall least) e = record { why = e; stays = StaysButFaults-refl d; faults = refl }
ends-refused blocks inodes d (TooLarge most) e = record { why = e; stays = StaysButFaults-refl d; faults = refl }
ends-refused blocks inodes d (NotMultiple bad) e = record { why = e; stays = StaysButFaults-refl d; faults = refl }
ends-refused blocks inodes d WriteFault e = absurd ((named d.blocks blocks inodes WriteFault e).0 refl)
ends-refused blocks inodes d OutOfMemory e = absurd ((named d.blocks blocks inodes OutOfMemory e).1 refl)

-- The writes

-- a cell was written, and one was written out
adds-out : (ok : ℕ → Cell → Type 0) (old mid new : DiskState) (block : ℕ) (cell : Cell) {r : Result (Unit {0}) Failed}
    {out : Result (Option ℕ) Failed} → IsDisk mid → IsDisk new
    → Writes old mid block cell r → WritesOut mid new out
    → ok block cell → Adds ok old new
adds-out ok old mid new block cell was is w o good =
    let adds = Adds-writes ok old mid block cell was w good in
    let between = w.moment in
    let same = o.cells.moment in
    let back : (b : ℕ) (c : Cell) → Contains (new.may b) c → WasOr ok old b c =
    λ b c has. adds.cells b c (subst (λ (may : ℕ → List Cell). Contains (may b) c) o.cells.may has) in
    record {
      disk = IsSameDisk-trans old mid new w.disk o.disk;
      past = record {
        was = λ m le. o.was m ∙ w.past.was m le;
        no_more = λ m X le left. w.past.no_more m X le (o.no_more m X (omega arith) left);
        no_less = λ m X le left. o.no_less m X (omega arith) (w.past.no_less m X le left);
      };
      later = omega arith;
      cells = back;
      left = λ m X low high l. elim (cases_lt m mid.moment) [
        | inl before ↦ adds.left m X low (omega arith) (o.no_more m X before l)
        | inr rest ↦
            let e : m ≡ new.moment = omega arith in
            let p = is.at_rest X (subst (λ (k : ℕ). new.left k X) e l) in
            let blocks = w.disk.blocks in
            let others = o.disk.blocks in
            (p.len ∙ others ∙ blocks, λ b small. back b (cell_at X b) (p.each b (omega arith)))
      ];
    }

-- the write failed
pub puts-unwritten : (blocks inodes block : ℕ) (old new : DiskState) (cell : Cell) (r : Result (Unit {0}) Failed)
    (error : Failed) → r ≡ Err error → IsDisk new → block < blocks
    → cell ≡ formatted_cell blocks inodes block → Writes old new block cell r
    → (res : Result (Unit {0}) Failed) → IsErr res → PutsFresh blocks inodes block old new res
puts-unwritten blocks inodes block old new cell r error e is low same w (Ok u) f = cc
puts-unwritten blocks inodes block old new cell r error e is low same w (Err x) f = record {
  adds = Adds-writes (IsFreshCell blocks inodes) old new block cell is w (record { low = low; is = same });
  moment = w.moment;
  spare = (let s = w.spare in omega arith);
  ok = tt;
  err = subst (λ (c : Cell). (new.now ≡ old.now) ⊎ (new.now ≡ set old.now block c)) same (err_part r error e w.err);
  cause = err_part r error e w.cause;
  no_fault = tt;
}

-- what a write and a write-out leave
module _
    (blocks inodes block : ℕ)
    (old mid new : DiskState)
    (cell : Cell)
    (r : Result (Unit {0}) Failed)
    (out : Result (Option ℕ) Failed)
    (done : r ≡ Ok tt)
    (was : IsDisk mid)
    (is : IsDisk new)
    (low : block < blocks)
    (same : cell ≡ formatted_cell blocks inodes block)
    (w : Writes old mid block cell r)
    (o : WritesOut mid new out)
  where
    put-adds : Adds (IsFreshCell blocks inodes) old new
    put-adds = adds-out (IsFreshCell blocks inodes) old mid new block cell was is w o (record { low = low; is = same })

    put-spare : old.spare ≤ new.spare + 2
    put-spare = let a = w.spare in let b = o.spare in omega arith

    put-now : new.now ≡ set old.now block (formatted_cell blocks inodes block)
    put-now = o.cells.now ∙ ok_part r (ap is_err done) w.ok ∙ ap (λ c. set old.now block c) same

    pub puts-done : (value : Option ℕ) → out ≡ Ok value → PutsFresh blocks inodes block old new (Ok tt)
    puts-done value e = record {
      adds = put-adds;
      moment = o.cells.moment ∙ w.moment;
      spare = put-spare;
      ok = put-now;
      err = tt;
      cause = tt;
      no_fault = ok_part out (ap is_err e) o.no_fault ∙ ok_part r (ap is_err done) w.no_fault;
    }

    pub puts-kept : (error : Failed) → out ≡ Err error
        → (res : Result (Unit {0}) Failed) → IsErr res → PutsFresh blocks inodes block old new res
    puts-kept error e (Ok u) f = cc
    puts-kept error e (Err x) f = record {
      adds = put-adds;
      moment = o.cells.moment ∙ w.moment;
      spare = put-spare;
      ok = tt;
      err = inr put-now;
      cause = (let rose = err_part out error e o.cause in let f = ok_part r (ap is_err done) w.no_fault in
          subst (λ (k : ℕ). Rose k new.faults) f rose);
      no_fault = tt;
    }

-- the device after the first n writes
pub record HasWritten (blocks inodes n : ℕ) (old new : DiskState) : Type 0 where
  pub adds : Adds (IsFreshCell blocks inodes) old new
  pub room : 2 * blocks + 1 ≤ new.spare + 2 * n
  pub now : IsTrue old.tells → new.now ≡ first_formatted blocks inodes n ++ drop n old.now
  pub each : OldOrFresh blocks inodes old new
  pub moment : new.moment ≡ old.moment + 2 * n
  pub faults : new.faults ≡ old.faults

first-more : (blocks inodes n : ℕ) → first_formatted blocks inodes (n + 1) ≡ first_formatted blocks inodes n
    ++ formatted_cell blocks inodes n ∷ []
unfolding first_formatted
first-more blocks inodes n = map-range_with_len_more (formatted_cell blocks inodes) 0 n n (omega arith)

-- one cell more
formatted-more : (blocks inodes n : ℕ) (old : List Cell) → n < length old
    → set (first_formatted blocks inodes n ++ drop n old) n (formatted_cell blocks inodes n)
    ≡ first_formatted blocks inodes (n + 1) ++ drop (n + 1) old
formatted-more blocks inodes n old low =
    let cell = formatted_cell blocks inodes n in
    let cells = first_formatted blocks inodes n in
    let zero_is : n - n ≡ 0 = omega arith in
    let more : set (drop n old) 0 cell ≡ cell ∷ drop (n + 1) old =
    ap (λ l. set l 0 cell) (drop_more old n no_cell low) in
    set-append_right cells (drop n old) n n cell (length-first_formatted blocks inodes n) (omega arith)
    ∙ ap (λ k. cells ++ set (drop n old) k cell) zero_is
    ∙ ap (λ l. cells ++ l) more
    ∙ sym (append_assoc cells (cell ∷ []) (drop (n + 1) old))
    ∙ ap (λ l. l ++ drop (n + 1) old) (sym (first-more blocks inodes n))

-- each block still has its old cell or a fresh one
each-kept : (blocks inodes : ℕ) (old mid new : DiskState) → OldOrFresh blocks inodes old mid → new.now ≡ mid.now
    → OldOrFresh blocks inodes old new
each-kept blocks inodes old mid new each same =
    subst (λ (cells : List Cell). (b : ℕ) → (cell_at cells b ≡ cell_at old.now b)
    ⊎ IsFreshCell blocks inodes b (cell_at cells b)) (sym same) each

each-put : (blocks inodes n : ℕ) (old mid new : DiskState) → n < blocks → OldOrFresh blocks inodes old mid
    → new.now ≡ set mid.now n (formatted_cell blocks inodes n)
    → OldOrFresh blocks inodes old new
each-put blocks inodes n old mid new low each put b = go (eqb b n) refl
  where
    Is : Cell → Type 0
    Is c = (c ≡ cell_at old.now b) ⊎ IsFreshCell blocks inodes b c

    at : cell_at new.now b ≡ cell_at (set mid.now n (formatted_cell blocks inodes n)) b
    at = ap (λ cells. cell_at cells b) put

    go : (t : Bool) → eqb b n ≡ t → Is (cell_at new.now b)
    go true e =
        let here = eqb-true b n e in
        let cell = formatted_cell blocks inodes n in
        elim (cases_lt n (length mid.now)) [
          | inl inside ↦ inr (record {
            low = omega arith;
            is = at ∙ ap (λ k. cell_at (set mid.now n cell) k) here
                ∙ get_or-set_same mid.now n cell no_cell inside ∙ ap (formatted_cell blocks inodes) (sym here);
          })
          | inr past ↦
              let len = length-set mid.now n cell in
              let gone = get_or_past (set mid.now n cell) b no_cell (omega arith) in
              let same = get_or_past mid.now b no_cell (omega arith) in
              subst Is (sym (at ∙ gone ∙ sym same)) (each b)
        ]
    go false e =
        let ne : b ≢ n = λ q. let t : eqb b n ≡ true = rw q (grind arith) in cc (e, t) in
        let same = get_or-set_other mid.now n b (formatted_cell blocks inodes n) no_cell ne in
        subst Is (sym (at ∙ same)) (each b)

pub written-none : {E : Type 0} (blocks inodes : ℕ) (old new : DiskState) (result : Result (Unit {0}) E)
    → is_err result ≡ false
    → MakesReady old new (2 * blocks + 1) result
    → HasWritten blocks inodes 0 old new
unfolding first_formatted
written-none blocks inodes old new result ok ready = record {
  adds = Adds-readies (IsFreshCell blocks inodes) old new (2 * blocks + 1) ready;
  room = (let e = ok_part result ok ready.room in omega arith);
  now = λ tells. ready.cells.now;
  each = each-kept blocks inodes old old new (λ b. inl refl) ready.cells.now;
  moment = (let e = ready.cells.moment in omega arith);
  faults = ready.no_fault;
}

-- one block more
module _
    (blocks inodes n : ℕ)
    (old mid new : DiskState)
    (r : Result (Unit {0}) Failed)
    (low : n < blocks)
    (has : HasWritten blocks inodes n old mid)
    (p : PutsFresh blocks inodes n mid new r)
  where
    pub adds-more : Adds (IsFreshCell blocks inodes) old new
    adds-more = Adds-trans (IsFreshCell blocks inodes) old mid new has.adds p.adds

    pub written-more : is_err r ≡ false → IsDisk old → blocks ≤ old.blocks → HasWritten blocks inodes (n + 1) old new
    written-more ok was fits =
        let put = ok_part r ok p.ok in
        record {
          adds = adds-more;
          room = (let e = p.spare in let f = has.room in omega arith);
          now = λ tells. put ∙ ap (λ l. set l n (formatted_cell blocks inodes n)) (has.now tells)
              ∙ formatted-more blocks inodes n old.now (let e = was.whole tells in omega arith);
          each = each-put blocks inodes n old mid new low has.each put;
          moment = (let e = p.moment in let f = has.moment in omega arith);
          faults = ok_part r ok p.no_fault ∙ has.faults;
        }

    pub stopped-more : is_err r ≡ true → format_fault old.blocks blocks inodes ≡ None → IsFaulted blocks inodes old new
    stopped-more bad accepted = record {
      accepted = accepted;
      cause = subst (λ (k : ℕ). Rose k new.faults) has.faults (bad_part r bad p.cause);
      began = (let e = p.moment in let f = has.moment in omega arith);
      most = (let e = p.moment in let f = has.moment in omega arith);
      now = elim (bad_part r bad p.err) [
        | inl same ↦ each-kept blocks inodes old mid new has.each same
        | inr put ↦ each-put blocks inodes n old mid new low has.each put
      ];
    }

-- The flush

pub adds-flush : (blocks inodes n : ℕ) (old mid new : DiskState) {result : Result (Unit {0}) Failed} → IsDisk new
    → HasWritten blocks inodes n old mid
    → Flushes mid new result → Adds (IsFreshCell blocks inodes) old new
adds-flush blocks inodes n old mid new is has f =
    let ok = IsFreshCell blocks inodes in
    Adds-trans ok old mid new has.adds (Adds-flushes ok mid new is f)

-- the flush failed
pub stopped-flush : (blocks inodes n : ℕ) (old mid new : DiskState) (error : Failed) {r : Result (Unit {0}) Failed}
    → r ≡ Err error → format_fault old.blocks blocks inodes ≡ None
    → n ≡ blocks → HasWritten blocks inodes n old mid → Flushes mid new r → IsFaulted blocks inodes old new
stopped-flush blocks inodes n old mid new error {r} e accepted all has f = record {
  accepted = accepted;
  cause = subst (λ (k : ℕ). Rose k new.faults) has.faults (err_part r error e f.cause);
  began = (let a = f.moment in let b = has.moment in omega arith);
  most = (let a = f.moment in let b = has.moment in omega arith);
  now = each-kept blocks inodes old mid new has.each f.now;
}

-- cell by cell
pub cells-formatted : (blocks inodes n : ℕ) (old mid new : DiskState) → n ≡ blocks → HasWritten blocks inodes n old mid
    → new.now ≡ mid.now
    → IsTrue old.tells → (b : ℕ) → b < blocks → cell_at new.now b ≡ formatted_cell blocks inodes b
cells-formatted blocks inodes n old mid new all has same tells b low =
    let cells : new.now ≡ formatted blocks inodes ++ drop blocks old.now =
    same ∙ has.now tells ∙ ap (λ k. first_formatted blocks inodes k ++ drop k old.now) all in
    let inside = length-first_formatted blocks inodes blocks in
    ap (λ l. cell_at l b) cells
    ∙ get_or_append_left (formatted blocks inodes) (drop blocks old.now) no_cell b (omega arith)
    ∙ cell_at-formatted blocks inodes b low
