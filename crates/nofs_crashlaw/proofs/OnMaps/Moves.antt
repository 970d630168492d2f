-- What the frame lemmas say of the homes.
use Rattle.nofs_crashlaw.proofs.OnMaps.ClaimParts.{claim-count}
use Rattle.std.proofs.Common.{◌≡◌, ℕ, ◌/◌, ◌⊎◌, inl, inr, Bool, true, false, cond, eqb, ◌&&◌, [], ◌∷◌, ◌++◌, length}
use Rattle.std.proofs.Common.{Option, Some, None, is_some, option_map}
use Rattle.std.proofs.Common.{refl, sym, ap, ◌∙◌, subst, arith, eqb-true, eq-eqb}
use Rattle.nofs_crashlaw.specs.Maps.Homes.{Houses}
use Rattle.nofs_crashlaw.specs.Maps.Moves.{IsClaimed, ClaimsStand, LawHomesMove, LawGrow, LawShrink, LawBare}
use Rattle.nofs_model.proofs.OnSlots.Find.{and-both, find-held}
use Rattle.nofs_ptrs.specs.PathLaws.{path_of-slot, slot_of-path_of}
use Rattle.nofs_crashlaw.proofs.OnFiles.Growth.{above-or-not}
use Rattle.nofs_crashlaw.proofs.OnUntouched.Inodes.{same-find}
use Rattle.nofs_model.specs.declared.image.path.PathAnswer.TheVariants as answer
use Rattle.nofs_history.specs.declared.machine.steps.Step.{Step}
use Rattle.nofs_history.specs.declared.machine.history.Claims.{Claims}
use Rattle.nofs_history.specs.Search.{first_of}
use Rattle.nofs_history.specs.Machine.{place_for}
use Rattle.nofs_history.specs.World.{blocks_needed, blocks_at}
use Rattle.nofs_history.specs.Claims.{is_claimed, claimed_blocks, cell_slot, slot_above, claimed_home}
use Rattle.nofs_history.specs.declared.machine.steps.Step.TheVariants as step
use Rattle.nofs_disk.specs.declared.tag.Pointer.{Pointer}
use Rattle.nofs_inode.specs.declared.inode.Record.{Record}
use Rattle.nofs_inode.specs.InodeRecords.{is_live}
use Rattle.nofs_model.specs.Geometry.{Image, inode}
use Rattle.nofs_model.specs.Files.{files_in, agreed, Files}
use Rattle.nofs_ptrs.specs.Paths.{Path, InRecord, Under, path_of, slot_of, IsSlot}
use Rattle.nofs_model.specs.Slots.{find}
use Rattle.nofs_model.specs.Owners.{Home, home_at}

above-is-slot : (a : Path) → IsSlot a → IsSlot (slot_above a)
above-is-slot (InRecord n) s = s
above-is-slot (Under a n) s = s.2

-- the three homes of a claim, in order
abbrev three : Bool → Bool → Bool → Home → Home → Home → Option Home
three a b d x y z = first_of ((cond a (Some x) None) ∷ (cond b (Some y) None) ∷ (cond d (Some z) None) ∷ [])

three-cases : (a b d : Bool) (x y z home : Home) → three a b d x y z ≡ Some home
    → ((a ≡ true) × (x ≡ home)) ⊎ (((b ≡ true) × (y ≡ home)) ⊎ ((d ≡ true) × (z ≡ home)))
three-cases true b d x y z home e = inl (refl, cc e)
three-cases false true d x y z home e = inr (inl (refl, cc e))
three-cases false false true x y z home e = inr (inr (refl, cc e))
three-cases false false false x y z home e = cc e

three-some : (a b d : Bool) (x y z : Home) → (a ≡ true) ⊎ ((b ≡ true) ⊎ (d ≡ true)) → is_some (three a b d x y z) ≡ true
three-some true b d x y z h = refl
three-some false true d x y z h = refl
three-some false false true x y z h = refl
three-some false false false x y z h = elim h [ inl e ↦ cc e | inr r ↦ elim r [ inl e ↦ cc e | inr e ↦ cc e ] ]

abbrev pub home_by : Option Home → Claims → ℕ → Option Home
home_by None c p = None
home_by (Some at) c p = three (is_claimed c.cell && eqb p c.cell.block) (is_claimed c.leaf && eqb p c.leaf.block)
    (is_claimed c.top && eqb p c.top.block)
    at (home_at at.inode (slot_of (slot_above (path_of at.slot))))
    (home_at at.inode (slot_of (slot_above (slot_above (path_of at.slot)))))

pub home-is : (F : Files) (step : Step) (c : Claims) (p : ℕ) → claimed_home F step c p ≡ home_by (cell_slot F step) c p
home-is F step c p = go (cell_slot F step)
  where
    go : (o : Option Home) → elim o [
      | None ↦ None
      | Some at ↦ three (is_claimed c.cell && eqb p c.cell.block) (is_claimed c.leaf && eqb p c.leaf.block)
          (is_claimed c.top && eqb p c.top.block)
          at (home_at at.inode (slot_of (slot_above (path_of at.slot))))
          (home_at at.inode (slot_of (slot_above (slot_above (path_of at.slot)))))
    ] ≡ home_by o c p
    go None = refl
    go (Some at) = refl

-- a claimed block stands in its slot
stands-there : (c : Claims) (Y : Image) (p : ℕ) (home : Home) (o : Option Home)
    → ((at : Home) → o ≡ Some at → ClaimsStand c Y at)
    → home_by o c p ≡ Some home → Houses Y home p
stands-there c Y p home None h e = cc e
stands-there c Y p home (Some at) h e =
    let st = h at refl in
    let slot : IsSlot (path_of at.slot) = path_of-slot at.slot st.range in
    elim (three-cases (is_claimed c.cell && eqb p c.cell.block) (is_claimed c.leaf && eqb p c.leaf.block)
    (is_claimed c.top && eqb p c.top.block)
    at (home_at at.inode (slot_of (slot_above (path_of at.slot))))
    (home_at at.inode (slot_of (slot_above (slot_above (path_of at.slot))))) home e) [
      | inl r ↦ (let t = and-both (is_claimed c.cell) (eqb p c.cell.block) r.0 in
          subst (λ (q : Home). Houses Y q p) r.1 (record {
            path = path_of at.slot;
            pointer = c.cell;
            is_slot = slot;
            slot =
                sym (slot_of-path_of at.slot st.range);
            agreed = st.agreed;
            holds = st.cell t.0;
            block = sym (eqb-true p c.cell.block t.1);
          }))
      | inr q ↦ elim q [
        | inl r ↦ (let t = and-both (is_claimed c.leaf) (eqb p c.leaf.block) r.0 in
            subst (λ (q : Home). Houses Y q p) r.1 (record {
              path = slot_above (path_of at.slot);
              pointer = c.leaf;
              is_slot =
                  above-is-slot (path_of at.slot) slot;
              slot = refl;
              agreed = st.agreed;
              holds = st.leaf t.0;
              block = sym (eqb-true p c.leaf.block t.1);
            }))
        | inr r ↦ (let t = and-both (is_claimed c.top) (eqb p c.top.block) r.0 in
            subst (λ (q : Home). Houses Y q p) r.1 (record {
              path = slot_above (slot_above (path_of at.slot));
              pointer = c.top;
              is_slot =
                  above-is-slot (slot_above (path_of at.slot)) (above-is-slot (path_of at.slot) slot);
              slot = refl;
              agreed = st.agreed;
              holds =
                  st.top t.0;
              block = sym (eqb-true p c.top.block t.1);
            }))
      ]
    ]

-- a step that has no slot for a cell claims no block
slot-some : (o : Option ℕ) (F : Files) (d : ℕ) (f : ℕ → Home) → is_some (option_map f o) ≡ false → blocks_at F d o ≡ 0
slot-some None F d f e = refl
slot-some (Some n) F d f e = cc e

no-slot : (F : Files) (step : Step) → is_some (cell_slot F step) ≡ false → blocks_needed F step ≡ 0
no-slot F (step.Put i g k at bytes) e = cc e
no-slot F (step.Make d g name kind) e = slot-some (place_for F d name) F d (λ n. home_at d (n / 16)) e
no-slot F (step.Link d g name i of) e = slot-some (place_for F d name) F d (λ n. home_at d (n / 16)) e
no-slot F (step.Look d g name) e = refl
no-slot F (step.Drop d g name) e = refl
no-slot F (step.Rename d g old new) e = refl
no-slot F (step.List d g slot) e = refl
no-slot F (step.Get i g k) e = refl
no-slot F (step.Resize i g size) e = refl
no-slot F (step.Stat i g) e = refl
no-slot F (step.Flush i g) e = refl
no-slot F (step.SeeInode i) e = refl
no-slot F (step.SeeBlock p) e = refl

-- a claimed block is counted
counted : (c : Claims) (y : Pointer) → IsClaimed c y → length (claimed_blocks c) ≡ 0 → ⊥
counted c y h n = go (is_claimed c.cell) refl (is_claimed c.leaf) refl (is_claimed c.top) refl n
  where
    go : (a : Bool) → is_claimed c.cell ≡ a → (b : Bool) → is_claimed c.leaf ≡ b → (d : Bool) → is_claimed c.top ≡ d
        → length ((cond a (c.cell ∷ []) []) ++ (cond b (c.leaf ∷ []) []) ++ (cond d (c.top ∷ []) [])) ≡ 0 → ⊥
    go true ea b eb d ed n = omega (arith, n)
    go false ea true eb d ed n = omega (arith, n)
    go false ea false eb true ed n = omega (arith, n)
    go false ea false eb false ed n = elim h.1 [
      | inl e ↦
          (let t : is_claimed c.cell ≡ true = subst (λ (q : Pointer). is_claimed q ≡ true) (sym e) h.0 in cc (t, ea))
      | inr r ↦ elim r [
        | inl e ↦
            (let t : is_claimed c.leaf ≡ true = subst (λ (q : Pointer). is_claimed q ≡ true) (sym e) h.0 in cc (t, eb))
        | inr e ↦
            (let t : is_claimed c.top ≡ true = subst (λ (q : Pointer). is_claimed q ≡ true) (sym e) h.0 in cc (t, ed))
      ]
    ]

-- it has a home
has-home : (c : Claims) (y : Pointer) (o : Option Home) → IsClaimed c y
    → is_some o ≡ true → is_some (home_by o c y.block) ≡ true
has-home c y None h e = cc e
has-home c y (Some at) h e =
    three-some (is_claimed c.cell && eqb y.block c.cell.block) (is_claimed c.leaf && eqb y.block c.leaf.block)
    (is_claimed c.top && eqb y.block c.top.block)
    at (home_at at.inode (slot_of (slot_above (path_of at.slot))))
    (home_at at.inode (slot_of (slot_above (slot_above (path_of at.slot))))) by
  where
    one : (x : Pointer) → x ≡ y → (is_claimed x && eqb y.block x.block) ≡ true
    one x e =
        let t : is_claimed x ≡ true = subst (λ (q : Pointer). is_claimed q ≡ true) (sym e) h.0 in
        rw t (eq-eqb y.block x.block (ap (λ (q : Pointer). q.block) (sym e)))

    by : ((is_claimed c.cell && eqb y.block c.cell.block) ≡ true) ⊎
        (((is_claimed c.leaf && eqb y.block c.leaf.block) ≡ true)
        ⊎ ((is_claimed c.top && eqb y.block c.top.block) ≡ true))
    by = elim h.1 [
      | inl e ↦ inl (one c.cell e)
      | inr r ↦ elim r [ inl e ↦ inr (inl (one c.leaf e)) | inr e ↦ inr (inr (one c.top e)) ]
    ]

pub law-move : LawHomesMove
law-move W step c s touched X Y claim touch old stand stays moves = record {
  claimed = λ p home e. stands-there c Y p home (cell_slot W.files step) stand (sym (home-is W.files step c p) ∙ e);
  held = λ j a y slot ay ey. by-touch j a y slot ay ey (touched j) refl;
}
  where
    slot-there : (y : Pointer) → IsClaimed c y → is_some (cell_slot W.files step) ≡ true
    slot-there y h = go (is_some (cell_slot W.files step)) refl
      where
        go : (t : Bool) → is_some (cell_slot W.files step) ≡ t → is_some (cell_slot W.files step) ≡ true
        go true e = e
        go false e = absurd (counted c y h ((claim-count W step c claim) ∙ no-slot W.files step e))

    by-touch : (j : ℕ) (a : Path) (y : Pointer) → IsSlot a → agreed (files_in Y) j ≡ true → find Y j a ≡ answer.Holds y
        → (t : Bool) → touched j ≡ t
        → ((agreed (files_in X) j ≡ true) × (find X j a ≡ answer.Holds y)) ⊎
        ((is_some (claimed_home W.files step c y.block) ≡ true) × ((x : Pointer) → find X j a ≡ answer.Holds x → ⊥))
    by-touch j a y slot ay ey true t = elim (moves j t a y slot ay ey) [
      | inl m ↦ inl m
      | inr m ↦ inr (
        subst (λ (o : Option Home). is_some o ≡ true) (sym (home-is W.files step c y.block))
            (has-home c y (cell_slot W.files step) m.0 (slot-there y m.0)),
        m.1,
      )
    ]
    by-touch j a y slot ay ey false t =
        let ax = stays j t ay in
        let live : is_live (inode X j) ≡ true =
        subst (λ (r : Record). is_live r ≡ true) (touch.records j t) (find-held Y j a y ey).agrees.live in
        inl (ax, sym (same-find s touched X Y touch j t ax (old j ax) live a slot) ∙ ey)

pub law-grow : LawGrow
law-grow c X Y i p at ax on off was a y slot ay ey = elim (above-or-not a p) [
  | inl h ↦ (let e : answer.Holds (at a) ≡ answer.Holds y = sym (on a h) ∙ ey in
      let s : at a ≡ y = cc e in
      elim (was a h) [
        | inl x ↦ inl (ax, x ∙ e)
        | inr n ↦ inr (subst (λ (q : Pointer). IsClaimed c q) s n.0, n.1)
      ])
  | inr n ↦ inl (ax, sym (off a slot n) ∙ ey)
]

pub law-shrink : LawShrink
law-shrink c X Y i gone ax both a y slot ay ey = go (gone a) refl
  where
    go : (t : Bool) → gone a ≡ t → ((agreed (files_in X) i ≡ true) × (find X i a ≡ answer.Holds y)) ⊎
        (IsClaimed c y × ((x : Pointer) → find X i a ≡ answer.Holds x → ⊥))
    go true t = let z = (both a slot).0 t in absurd (cc (z, ey))
    go false t = inl (ax, sym ((both a slot).1 t) ∙ ey)

pub law-bare : LawBare
law-bare c X Y i null a y slot ay ey = let z = null a slot in absurd (cc (z, ey))
