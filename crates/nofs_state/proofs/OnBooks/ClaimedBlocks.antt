-- The blocks that a step claims: their homes, what they were, and what the books have of them.
use Rattle.std.proofs.Common.{◌≡◌, ◌≢◌, ℕ, ◌+◌, ◌≤◌, ◌⊎◌, inl, inr, Bool, true, false, cond, eqb, eqb-true, eq-eqb}
use Rattle.std.proofs.Common.{◌&&◌, [], ◌∷◌, Option, Some, None, is_some, refl, sym, ap, ◌∙◌, subst, arith}
use Rattle.nofs_bits.specs.Bits.{is_set}
use Rattle.nofs_disk.specs.declared.tag.Pointer.{Pointer}
use Rattle.nofs_ptrs.specs.Paths.{path_of, slot_of}
use Rattle.nofs_model.specs.Files.{Files}
use Rattle.nofs_model.specs.Owners.{Home, home_at}
use Rattle.nofs_model.proofs.OnSlots.Find.{and-both}
use Rattle.nofs_history.specs.Search.{first_of}
use Rattle.nofs_history.specs.World.{World, is_free_block}
use Rattle.nofs_history.specs.Claims.{cell_slot, claimed_home, is_claimed, next_stamp, slot_above, IsClaim}
use Rattle.nofs_history.specs.Claims.{IsBlockClaim, Claimed, Unclaimed}
use Rattle.nofs_history.specs.declared.machine.history.Claims.{Claims}
use Rattle.nofs_history.specs.declared.machine.steps.Step.{Step}
use Rattle.nofs_crashlaw.specs.Maps.Moves.{IsClaimed}
use Rattle.nofs_state.specs.declared.books.maps.Books.{Books}

-- the books after so many claims of blocks
pub record Takes (k l : Books) (c : Claims) (m : ℕ) : Type 0 where
  pub same : l ≡ record k { free_blocks = l.free_blocks; serial = k.serial + m }
  pub here : (x : Pointer) → IsClaimed c x → is_set l.free_blocks x.block ≡ false
  pub other : (n : ℕ) → ((x : Pointer) → IsClaimed c x → n ≢ x.block) → is_set l.free_blocks n ≡ is_set k.free_blocks n

abbrev three : Bool → Bool → Bool → Home → Home → Home → Option Home
three a b d x y z = first_of ((cond a (Some x) None) ∷ (cond b (Some y) None) ∷ (cond d (Some z) None) ∷ [])

abbrev named : ℕ → Pointer → Bool
named n x = is_claimed x && eqb n x.block

-- a block is claimed and gets its home, or is none of those that are
pub home-claimed : (F : Files) (s : Step) (c : Claims) (at : Home) (n : ℕ) → cell_slot F s ≡ Some at
    → ((x : Pointer) × IsClaimed c x × (n ≡ x.block) × (is_some (claimed_home F s c n) ≡ true))
    ⊎ (((x : Pointer) → IsClaimed c x → n ≢ x.block) × (claimed_home F s c n ≡ None))
home-claimed F s c at n slot = go (named n c.cell) refl (named n c.leaf) refl (named n c.top) refl
  where
    is : claimed_home F s c n ≡ three (named n c.cell) (named n c.leaf) (named n c.top) at
        (home_at at.inode (slot_of (slot_above (path_of at.slot))))
        (home_at at.inode (slot_of (slot_above (slot_above (path_of at.slot)))))
    is = rw (slot, claimed_home) refl

    yes : (q : Pointer) → named n q ≡ true → (is_claimed q ≡ true) × (n ≡ q.block)
    yes q e = let b = and-both (is_claimed q) (eqb n q.block) e in (b.0, eqb-true n q.block b.1)

    other : (q w : Pointer) → named n q ≡ false → q ≡ w → is_claimed w ≡ true → n ≢ w.block
    other q w e s t en =
        let a : named n w ≡ false = subst (λ (v : Pointer). named n v ≡ false) s e in
        let b : eqb n w.block ≡ true = eq-eqb n w.block en in
        let d : named n w ≡ true = rw (t, b) refl in cc (a, d)

    go : (a : Bool) → named n c.cell ≡ a → (b : Bool) → named n c.leaf ≡ b → (d : Bool) → named n c.top ≡ d
        → ((q : Pointer) × IsClaimed c q × (n ≡ q.block) × (is_some (claimed_home F s c n) ≡ true))
        ⊎ (((q : Pointer) → IsClaimed c q → n ≢ q.block) × (claimed_home F s c n ≡ None))
    go true ea b eb d ed = inl (c.cell, ((yes c.cell ea).0, inl refl), (yes c.cell ea).1, ap is_some is ∙ rw ea refl)
    go false ea true eb d ed =
        inl (c.leaf, ((yes c.leaf eb).0, inr (inl refl)), (yes c.leaf eb).1, ap is_some is ∙ rw (ea, eb) refl)
    go false ea false eb true ed =
        inl (c.top, ((yes c.top ed).0, inr (inr refl)), (yes c.top ed).1, ap is_some is ∙ rw (ea, eb, ed) refl)
    go false ea false eb false ed = inr (
      (λ q h. elim h.1 [
        | inl e ↦ other c.cell q ea e h.0
        | inr r ↦ elim r [ inl e ↦ other c.leaf q eb e h.0 | inr e ↦ other c.top q ed e h.0 ]
      ]),
      is ∙ rw (ea, eb, ed) refl,
    )

-- a claimed block was known and free, and has a new stamp
pub claim-was : (W : World) (s : Step) (c : Claims) (x : Pointer) → IsClaim W s c → IsClaimed c x
    → (is_free_block W x.block ≡ true) × (next_stamp W ≤ x.stamp)
claim-was W s c x claim h = elim h.1 [
  | inl e ↦ part c.cell e _ _ claim.cell (omega arith)
  | inr r ↦ elim r
      [ inl e ↦ part c.leaf e _ _ claim.leaf (omega arith) | inr e ↦ part c.top e _ _ claim.top (omega arith) ]
]
  where
    part : (y : Pointer) → y ≡ x → (stamp : ℕ) (wanted : Bool) → IsBlockClaim W stamp y wanted → next_stamp W ≤ stamp
        → (is_free_block W x.block ≡ true) × (next_stamp W ≤ x.stamp)
    part y e stamp true (Claimed free range is) low = (
      subst (λ (z : Pointer). is_free_block W z.block ≡ true) e free,
      let q : y.stamp ≡ x.stamp = ap
          (λ (z : Pointer). z.stamp) e in omega (arith, q, is, low),
    )
    part y e stamp false (Unclaimed none) low =
        absurd (let z : is_claimed x ≡ false = ap is_claimed (sym e ∙ none) in let t = h.0 in cc (z, t))
