-- How many blocks a Put asks for, and what it claims.
use Rattle.std.proofs.Common.{◌≡◌, ◌≢◌, ℕ, zero, suc, ◌+◌, ◌<◌, ◌⊎◌, inl, inr, Bool, true, false, cond, ltb, List, []}
use Rattle.std.proofs.Common.{◌∷◌, ◌++◌, refl, sym, ap, ◌∙◌, subst, arith, Contains}
use Rattle.nofs_ptrs.specs.Paths.{slot_limit, Path, InRecord, Under, path_of, is_pointer_slot, IsSlot}
use Rattle.nofs_disk.specs.declared.tag.Pointer.{Pointer}
use Rattle.nofs_disk.specs.Pointer.{null}
use Rattle.nofs_model.specs.Geometry.{Image}
use Rattle.nofs_model.specs.Slots.{value, find}
use Rattle.nofs_model.specs.Files.{files_in, agreed, Files, NodeState, Absent, Present, Damaged, node_in}
use Rattle.nofs_model.specs.declared.image.path.PathAnswer.TheVariants as answer
use Rattle.nofs_model.proofs.OnSlots.Find.{find-held}
use Rattle.nofs_model.proofs.OnSlots.Paths.{above-refl}
use Rattle.nofs_ptrs.specs.PathLaws.{path_of-slot}
use Rattle.nofs_history.specs.Meta.{is_bytes}
use Rattle.nofs_history.specs.Machine.{value_of, node_of}
use Rattle.nofs_history.specs.World.{World, absent_above, blocks_for, is_free_block}
use Rattle.nofs_history.specs.Claims.{IsClaim, IsBlockClaim, Claimed, Unclaimed, NoInode, Apart, claimed_blocks}
use Rattle.nofs_history.specs.Claims.{is_claimed, next_stamp, no_claims}
use Rattle.nofs_history.specs.History.{FilesMatch}
use Rattle.nofs_history.specs.declared.machine.history.Claims.{Claims}
use Rattle.nofs_history.specs.declared.machine.steps.Step.TheVariants as step
use Rattle.nofs_crashlaw.proofs.OnUntouched.Matches.{matched-agreed}
use Rattle.nofs_crashlaw.proofs.OnUntouched.Agreement.{file-in}
use Rattle.nofs_files.proofs.OnReads.Rows.{value-is}
use Rattle.nofs_files.proofs.OnPuts.Ways.{IsNew, IsOld}
use Rattle.nofs_state.proofs.OnBooks.Machine.{agreed-live}

-- a way of the record has one slot
abbrev pub Fits : ℕ → Path → Type 0
Fits zero way = Unit {0}
Fits (suc m) (InRecord n) = m ≡ 0
Fits (suc m) (Under b n) = Fits m b

abbrev absent : NodeState → ℕ
absent Absent = 1
absent Present = 0
absent Damaged = 0

module _ (F : Files) (X : Image) (i : ℕ) (match : FilesMatch F X) (agrees : agreed (files_in X) i ≡ true) where
  -- the state of a block of pointers is what stands in its slot
  pub node-is : (a : Path) → IsSlot a → is_pointer_slot a ≡ true → node_of F i a ≡ node_in (find X i a)
  node-is a s t =
      let m = matched-agreed F X i match (agreed-live X i agrees) agrees in
      let q = (file-in F X i m.file match m.is).1 in
      rw (m.is, node_of) (q.nodes a s t)

  none-absent : (a : Path) (y : Pointer) → IsSlot a → find X i a ≡ answer.Holds y → absent_above F i a ≡ 0
  none-absent (InRecord n) y s held = refl
  none-absent (Under b n) y s held =
      let up = (find-held X i (Under b n) y held).above in
      let z = none-absent b up.0 s.2 up.1 in
      let q : node_of F i b ≡ Present = node-is b s.2 s.0 ∙ ap node_in up.1 in
      rw (z, q) refl

  -- so many are asked for as get a block
  pub asks : (m : ℕ) (way : Path) → IsSlot way → Fits (suc m) way
      → ((a : Path) → IsOld (suc m) way a → (y : Pointer) × (find X i a ≡ answer.Holds y))
      → ((a : Path) (n : ℕ) → IsNew (suc m) way (Under a n) → IsNew (suc m) way a → find X i a ≡ answer.Hole)
      → 1 + absent_above F i way ≡ suc m
  asks m (InRecord n) s fits old hole = let e = fits in omega (arith, e)
  asks zero (Under b n) s fits old hole =
      let up = old b (above-refl b) in
      let z = none-absent b up.0 s.2 up.1 in
      let q : node_of F i b ≡ Present = node-is b s.2 s.0 ∙ ap node_in up.1 in
      rw (z, q) refl
  asks (suc m) (Under b n) s fits old hole =
      let here : IsNew (suc m) b b = first m b in
      let q : node_of F i b ≡ Absent = node-is b s.2 s.0 ∙ ap node_in (hole b n (inl refl) (inr here)) in
      let deep : 1 + absent_above F i b ≡ suc m = asks m b s.2 fits old (λ a j x y. hole a j (inr x) (inr y)) in
      rw q (omega (arith, deep))
    where
      first : (m : ℕ) (b : Path) → IsNew (suc m) b b
      first m (InRecord n) = refl
      first m (Under d n) = inl refl

  pub needs-are : (m slot : ℕ) (way : Path)
      → path_of slot ≡ way → slot < slot_limit → is_bytes (value X i slot) ≡ false → Fits (suc m) way
      → ((a : Path) → IsOld (suc m) way a → (y : Pointer) × (find X i a ≡ answer.Holds y))
      → ((a : Path) (n : ℕ) → IsNew (suc m) way (Under a n) → IsNew (suc m) way a → find X i a ≡ answer.Hole)
      → blocks_for F i slot ≡ suc m
  needs-are m slot way path low empty fits old hole =
      let v : is_bytes (value_of F i slot) ≡ false = ap is_bytes (value-is F X i slot match agrees low) ∙ empty in
      rw (v, path) (asks m way (subst (λ (q : Path). IsSlot q) path (path_of-slot slot low)) fits old hole)

-- the claim of one block, of two and of three
abbrev pub claims_are : Pointer → Pointer → Pointer → Claims
claims_are x y z = record no_claims { cell = x; leaf = y; top = z }

-- it is known and free, and has this stamp
pub record IsTaken (W : World) (stamp : ℕ) (x : Pointer) : Type 0 where
  pub free : is_free_block W x.block ≡ true
  pub range : x.block < W.blocks
  pub stamp_is : x.stamp ≡ stamp
  pub named : is_claimed x ≡ true

-- a block that is taken is one that its step claims
taken : {W : World} {stamp : ℕ} {x : Pointer} {b : Bool} → IsTaken W stamp x → b ≡ true → IsBlockClaim W stamp x b
taken {W} {stamp} {x} h e =
    subst (λ (b : Bool). IsBlockClaim W stamp x b) (sym e) (Claimed h.free h.range h.stamp_is)

module _ (W : World) (i g slot at : ℕ) (bytes : List ℕ) (x : Pointer) (hx : IsTaken W (next_stamp W + 0) x) where
  apart-one : (t : Bool) → Apart ((cond t (x ∷ []) [] ++ []) ++ [])
  apart-one true = ((λ y has. absurd (none y has)), tt)
    where
      none : (y : Pointer) → Contains [] y → ⊥
      none y (n, lt, e) = omega arith
  apart-one false = tt

  pub claim-one : blocks_for W.files i slot ≡ 1 → IsClaim W (step.Put i g slot at bytes) (claims_are x null null)
  claim-one needs = record {
    inode = NoInode refl refl;
    cell = taken hx (ap (ltb 0) needs);
    leaf = subst (λ (n : ℕ). IsBlockClaim W (next_stamp W + 0 + 1) null (ltb 1 n)) (sym needs) (Unclaimed refl);
    top = subst (λ (n : ℕ). IsBlockClaim W (next_stamp W + 0 + 2) null (ltb 2 n)) (sym needs) (Unclaimed refl);
    apart = apart-one (is_claimed x);
  }

sole : (y q : Pointer) → Contains (y ∷ []) q → y ≡ q
sole y q (zero, lt, e) = e
sole y q (suc n, lt, e) = absurd (omega (arith, lt))

empty-list : (q : Pointer) → Contains [] q → ⊥
empty-list q (n, lt, e) = omega (arith, lt)

two-in : (y z q : Pointer) → Contains (y ∷ z ∷ []) q → (y ≡ q) ⊎ (z ≡ q)
two-in y z q (zero, lt, e) = inl e
two-in y z q (suc zero, lt, e) = inr e
two-in y z q (suc (suc n), lt, e) = absurd (omega (arith, lt))

module _ (W : World) (i g slot at : ℕ) (bytes : List ℕ) (x y : Pointer) (hx : IsTaken W (next_stamp W + 0) x)
    (hy : IsTaken W (next_stamp W + 0 + 1) y)
    (xy : x.block ≢ y.block) where
  apart-two : Apart (claimed_blocks (claims_are x y null))
  apart-two = let a = hx.named in let b = hy.named in rw (a, b) (
    (λ q has e. xy (e ∙ ap (λ (w : Pointer). w.block) (sym (sole y q has)))),
    ((λ q has. absurd (empty-list q has)), tt),
  )

  pub claim-two : blocks_for W.files i slot ≡ 2 → IsClaim W (step.Put i g slot at bytes) (claims_are x y null)
  claim-two needs = record {
    inode = NoInode refl refl;
    top = subst (λ (n : ℕ). IsBlockClaim W (next_stamp W + 0 + 2) null (ltb 2 n)) (sym needs) (Unclaimed refl);
    cell = taken hx (ap (ltb 0) needs);
    leaf = taken hy (ap (ltb 1) needs);
    apart = apart-two;
  }

  module _ (z : Pointer) (hz : IsTaken W (next_stamp W + 0 + 2) z) (xz : x.block ≢ z.block)
      (yz : y.block ≢ z.block) where
    apart-three : Apart (claimed_blocks (claims_are x y z))
    apart-three = let a = hx.named in let b = hy.named in let d = hz.named in rw (a, b, d) (
      (λ q has e. elim (two-in y z q has) [
        | inl s ↦ xy (e ∙ ap (λ (w : Pointer). w.block) (sym s))
        | inr s ↦ xz (e ∙ ap (λ (w : Pointer). w.block) (sym s))
      ]),
      (
        (λ q has e. yz (e ∙ ap (λ (w : Pointer). w.block) (sym (sole z q has)))),
        ((λ q has. absurd (empty-list q has)), tt),
      ),
    )

    pub claim-three : blocks_for W.files i slot ≡ 3 → IsClaim W (step.Put i g slot at bytes) (claims_are x y z)
    claim-three needs = record {
      inode = NoInode refl refl;
      cell = taken hx (ap (ltb 0) needs);
      leaf = taken hy (ap (ltb 1) needs);
      top = taken hz (ap (ltb 2) needs);
      apart = apart-three;
    }
