-- Calls that put only such cells on the disk, one after another.
use Rattle.std.specs.Prelude.{Contains, Result}
use Rattle.std.proofs.Common.{◌≡◌, ◌≢◌, ℕ, ◌+◌, ◌<◌, ◌≤◌, ◌⊎◌, inl, inr, Bool, true, false, eqb, eqb-true, List, length}
use Rattle.std.proofs.Common.{refl, sym, ◌∙◌, subst, subst₂, arith}
use Rattle.std.proofs.lemmas.Bool.{cases_lt}
use Rattle.nofs_disk.specs.Chains.{IsSameDisk-refl, IsSameDisk-trans, KeepsPast-refl, KeepsPast-trans}
use Rattle.nofs_disk.specs.Disk.{DiskState, Flushes, IsDisk, IsSameDisk, KeepsCells, KeepsPast, MakesReady, Picks}
use Rattle.nofs_disk.specs.Disk.{StaysButFaults, Writes, cell_at}
use Rattle.nofs_disk.specs.declared.Failed.{Failed}
use Rattle.nofs_disk.specs.declared.tag.Cell.{Cell}

-- the cell may have been there before, or is one of these
abbrev pub WasOr : (ℕ → Cell → Type 0) → DiskState → ℕ → Cell → Type 0
WasOr ok old b c = Contains (old.may b) c ⊎ ok b c

-- from one state to a later one each cell that a crash may leave, at any moment, was there before or is one of these
pub record Adds (ok : ℕ → Cell → Type 0) (old new : DiskState) : Type 0 where
  pub disk : IsSameDisk old new
  pub past : KeepsPast old new
  pub later : old.moment ≤ new.moment
  pub cells : (b : ℕ) (c : Cell) → Contains (new.may b) c → WasOr ok old b c
  pub left : (m : ℕ) (X : List Cell) → old.moment < m → m ≤ new.moment → new.left m X
      → (length X ≡ old.blocks) × ((b : ℕ) → b < old.blocks → WasOr ok old b (cell_at X b))

module _ (ok : ℕ → Cell → Type 0) where
  -- a call that makes no moment and leaves the cells
  pub Adds-keeps : (old new : DiskState) → IsSameDisk old new → KeepsPast old new → KeepsCells old new → Adds ok old new
  Adds-keeps old new disk past kept = record {
    disk = disk;
    past = past;
    later = (let e = kept.moment in omega arith);
    cells = λ b c has. inl (subst (λ (may : ℕ → List Cell). Contains (may b) c) kept.may has);
    left = λ m X low high l. absurd (let e = kept.moment in omega arith);
  }

  -- no call
  pub Adds-refl : (d : DiskState) → Adds ok d d
  Adds-refl d = Adds-keeps d d (IsSameDisk-refl d) (KeepsPast-refl d) (record { now = refl; may = refl; moment = refl })

  -- a read, or several
  pub Adds-stays : (old new : DiskState) → StaysButFaults old new → Adds ok old new
  Adds-stays old new stays = Adds-keeps old new stays.disk stays.past stays.cells

  -- a call that makes room
  pub Adds-readies : {E : Type 0} (old new : DiskState) (calls : ℕ) {result : Result (Unit {0}) E}
      → MakesReady old new calls result → Adds ok old new
  Adds-readies old new calls ready = Adds-keeps old new ready.disk ready.past ready.cells

  -- a write of one of these cells
  pub Adds-writes : (old new : DiskState) (block : ℕ) (cell : Cell) {result : Result (Unit {0}) Failed} → IsDisk new
      → Writes old new block cell result
      → ok block cell → Adds ok old new
  Adds-writes old new block cell is w good = record {
    disk = w.disk;
    past = w.past;
    later = (let e = w.moment in omega arith);
    cells = λ b c. go b c (eqb b block) refl;
    left = λ m X low high l. picked X (elim (cases_lt m (old.moment + 2)) [
      | inl mid ↦
          let e : m ≡ old.moment + 1 = omega arith in
          let F : ℕ → Type 0 = λ k. new.left k X in
          w.during X (subst F e l)
      | inr top ↦
          let e : m ≡ new.moment = let q = w.moment in omega arith in
          let F : ℕ → Type 0 = λ k. new.left k X in
          is.at_rest X (subst F e l)
    ]);
  }
    where
      go : (b : ℕ) (c : Cell) (t : Bool) → eqb b block ≡ t → Contains (new.may b) c → WasOr ok old b c
      go b c true e has =
          let eb = eqb-true b block e in
          let here : Contains (new.may block) c = subst (λ (q : ℕ). Contains (new.may q) c) eb has in
          elim (w.may c here) [
            | inl before ↦ inl (subst (λ (q : ℕ). Contains (old.may q) c) (sym eb) before)
            | inr new_one ↦ inr (subst₂ (λ (q : ℕ) (r : Cell). ok q r) (sym eb) (sym new_one) good)
          ]
      go b c false e has =
          let ne : b ≢ block = λ q. let t : eqb b block ≡ true = rw q (grind arith) in cc (e, t) in
          inl (subst (λ (l : List Cell). Contains l c) (w.others b ne) has)

      picked : (X : List Cell) → Picks new.may new.blocks X
          → (length X ≡ old.blocks) × ((b : ℕ) → b < old.blocks → WasOr ok old b (cell_at X b))
      picked X p = (
        p.len ∙ w.disk.blocks,
        λ b low. go b (cell_at X b) (eqb b block) refl (p.each b (let e = w.disk.blocks in omega arith)),
      )

  -- a flush
  pub Adds-flushes : (old new : DiskState) {result : Result (Unit {0}) Failed} → IsDisk new → Flushes old new result
      → Adds ok old new
  Adds-flushes old new is f = record {
    disk = f.disk;
    past = f.past;
    later = (let e = f.moment in omega arith);
    cells = λ b c has. inl (was b c has);
    left = λ m X low high l. elim (cases_lt m (old.moment + 2)) [
      | inl mid ↦
          let e : m ≡ old.moment + 1 = omega arith in
          let F : ℕ → Type 0 = λ k. new.left k X in
          let p = f.during X (subst F e l) in
          (p.len, λ b small. inl (p.each b small))
      | inr top ↦
          let e : m ≡ new.moment = let q = f.moment in omega arith in
          let F : ℕ → Type 0 = λ k. new.left k X in
          let p = is.at_rest X (subst F e l) in (
            p.len ∙ f.disk.blocks,
            λ b small. inl (was b (cell_at X b) (p.each b (let q = f.disk.blocks in omega arith))),
          )
    ];
  }
    where
      was : (b : ℕ) (c : Cell) → Contains (new.may b) c → Contains (old.may b) c
      was b c has = elim (cases_lt b old.blocks) [
        | inl inside ↦ f.may b c inside has
        | inr past ↦ absurd (is.beyond b c (let e = f.disk.blocks in omega arith) has)
      ]

  -- one run of calls after another
  pub Adds-trans : (a b c : DiskState) → Adds ok a b → Adds ok b c → Adds ok a c
  Adds-trans a b c p q = record {
    disk = IsSameDisk-trans a b c p.disk q.disk;
    past = KeepsPast-trans a b c p.later p.past q.past;
    later = (let x = p.later in let y = q.later in omega arith);
    cells = λ k x has. back k x (q.cells k x has);
    left = λ m X low high l. elim (cases_lt b.moment m) [
      | inl beyond ↦
          let two = q.left m X beyond high l in
          (two.0 ∙ p.disk.blocks, λ k lt. back k (cell_at X k) (two.1 k (let e = p.disk.blocks in omega arith)))
      | inr within ↦ p.left m X low within (q.past.no_more m X within l)
    ];
  }
    where
      back : (k : ℕ) (x : Cell) → WasOr ok b k x → WasOr ok a k x
      back k x (inl was) = p.cells k x was
      back k x (inr good) = inr good
