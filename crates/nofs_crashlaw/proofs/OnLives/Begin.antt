-- What a mount finds, and which entry gave a value.
use Rattle.nofs_history.specs.Claims.{next_stamp}
use Rattle.std.proofs.Common.{◌≡◌, ◌≢◌, ℕ, ◌+◌, ◌*◌, ◌^◌, ◌<◌, ◌≤◌, inl, inr, Bool, true, false, eqb, leb, ◌&&◌, List}
use Rattle.std.proofs.Common.{[], ◌∷◌, length, option_to_list}
use Rattle.std.proofs.Common.{Option, Some, None, IfSome, Contains, refl, sym, ap, subst, subst₂, arith, eqb-true}
use Rattle.std.proofs.Common.{eq-eqb}
use Rattle.std.proofs.lemmas.List.Elements.{Contains-append_cases}
use Rattle.nofs_crashlaw.specs.Lives.{OnlySuper, GivenBy, LawGiven, LawBegin, LawUpgraded}
use Rattle.nofs_model.proofs.OnSlots.Find.{and-both}
use Rattle.nofs_model.proofs.OnSound.Writes.{tag-below, record-below}
use Rattle.nofs_crashlaw.proofs.OnMaps.Fresh.{sole-is}
use Rattle.nofs_history.specs.declared.machine.history.Entry1.{Entry1}
use Rattle.nofs_history.specs.Machine.{given_by, files_by}
use Rattle.nofs_history.specs.Since.{values_given}
use Rattle.nofs_history.specs.World.{world_of}
use Rattle.nofs_disk.specs.declared.tag.Cell.{Cell}
use Rattle.nofs_disk.specs.declared.tag.Kind.TheVariants.{Super, Directory, Leaf}
use Rattle.nofs_disk.specs.declared.tag.Tag.{Tag}
use Rattle.nofs_disk.specs.Tag.{tag_of}
use Rattle.nofs_ptrs.specs.Cells.{pointer_at}
use Rattle.nofs_dirent.specs.Entries.{entry_in}
use Rattle.nofs_super.specs.Super.{is_super}
use Rattle.nofs_super.specs.Geometry.{is_geometry}
use Rattle.nofs_model.specs.Geometry.{Image, super_at, is_mountable}
use Rattle.nofs_disk.specs.Disk.{cell_at}
use Rattle.nofs_model.specs.Sound.{CellBelow, IsBelow}
use Rattle.nofs_model.specs.declared.image.value.Value.{Value}

nothing-in : (v : Value) → Contains [] v → ⊥
nothing-in v (k, lt, e) = omega (arith, lt)

pub law-given : LawGiven
law-given F [] i g k v h = absurd (nothing-in v h)
law-given F (e ∷ es) i g k v h = elim
    (Contains-append_cases (option_to_list ((given_by F e).slots i g k)) (values_given (files_by F e) es i g k) v h) [
      | inl here ↦
          record { before = []; entry = e; after = es; parts = refl; gives = one ((given_by F e).slots i g k) here }
      | inr there ↦ more (law-given (files_by F e) es i g k v there)
    ]
  where
    one : (o : Option Value) → Contains (option_to_list o) v → o ≡ Some v
    one None c = absurd (nothing-in v c)
    one (Some w) c = ap Some (sole-is w v c)

    more : GivenBy (files_by F e) es i g k v → GivenBy F (e ∷ es) i g k v
    more b = record {
      before = e ∷ b.before;
      entry = b.entry;
      after = b.after;
      parts = ap (λ (r : List Entry1). e ∷ r) b.parts;
      gives = b.gives;
    }

-- the tag of a superblock
abbrev super_tag : Tag
super_tag = record { kind = Super; inode = 0; generation = 0; slot = 0; stamp = 0 }

-- block 0 names no generation and no stamp
first-below : (bound : ℕ) (Y : Image) → 0 < bound → tag_of (cell_at Y 0).tag ≡ Some super_tag
    → CellBelow bound Y 0 (cell_at Y 0)
first-below bound Y pos e = record {
  tag = record {
    own = subst (λ (o : Option Tag). IfSome o (λ t. (t.generation < bound) × (t.stamp < bound))) (sym e) (pos, pos);
    entries = subst (λ (o : Option Tag). IfSome o (λ t. t.kind ≡ Directory → (j : ℕ) → j < 16
        → IfSome (entry_in (cell_at Y 0).payload j) (λ e. e.generation < bound))) (sym e) (λ d. absurd (cc d));
    pointers = subst (λ (o : Option Tag). IfSome o
        (λ t. t.kind ≡ Leaf → (j : ℕ) → j < 64 → (pointer_at (cell_at Y 0).payload j).stamp < bound)) (sym e)
        (λ d. absurd (cc d));
  };
  records = λ i range eb live. absurd (omega (arith, eb));
}

other-below : (bound : ℕ) (X Y : Image) (b : ℕ)
    → (super_at Y).inodes ≡ (super_at X).inodes → CellBelow bound X b (cell_at X b)
    → CellBelow bound Y b (cell_at X b)
other-below bound X Y b e h = record {
  tag = h.tag;
  records = λ i range eb live. h.records i (subst (λ (n : ℕ). (leb 1 i && leb i n) ≡ true) e range) eb live;
}

only-below : (bound : ℕ) (X Y : Image) → 0 < bound → OnlySuper X Y → tag_of (cell_at Y 0).tag ≡ Some super_tag
    → IsBelow bound X → IsBelow bound Y
only-below bound X Y pos r super h b lt = go (eqb b 0) refl
  where
    ltx : b < (super_at X).blocks
    ltx = subst (λ (n : ℕ). b < n) r.blocks lt

    go : (t : Bool) → eqb b 0 ≡ t → CellBelow bound Y b (cell_at Y b)
    go true e =
        let z : b ≡ 0 = eqb-true b 0 e in
        subst (λ (n : ℕ). CellBelow bound Y n (cell_at Y n)) (sym z) (first-below bound Y pos super)
    go false e =
        let ne : b ≢ 0 = λ z. let t : eqb b 0 ≡ true = eq-eqb b 0 z in cc (t, e) in
        subst (λ (c : Cell). CellBelow bound Y b c) (sym (r.others b ne)) (other-below bound X Y b r.inodes (h b ltx))

only-mountable : (X Y : Image) → is_mountable X ≡ true → OnlySuper X Y
    → is_super (cell_at Y 0).payload ≡ true → is_mountable Y ≡ true
only-mountable X Y m r spelled =
    let geometry : is_geometry (length X) (super_at X).blocks (super_at X).inodes ≡ true =
    (and-both (is_super (cell_at X 0).payload) (is_geometry (length X) (super_at X).blocks (super_at X).inodes) m).1 in
    let same : is_geometry (length Y) (super_at Y).blocks (super_at Y).inodes ≡ true =
    subst₂ (λ (n b : ℕ). is_geometry n b (super_at Y).inodes ≡ true) (sym r.size) (sym r.blocks)
    (subst (λ (n : ℕ). is_geometry (length X) (super_at X).blocks n ≡ true) (sym r.inodes) geometry) in
    (λ j. spelled j && same j)

raise-bound : (a b : ℕ) (X : Image) (c : ℕ) (d : Cell) → a ≤ b → CellBelow a X c d → CellBelow b X c d
raise-bound a b X c d le h = record {
  tag = tag-below a b d le h.tag;
  records = λ i range eb live. record-below a b _ le (h.records i range eb live);
}

blocks-of : (Y : Image) (first : ℕ) → (world_of Y first).blocks ≡ (super_at Y).blocks
unfolding world_of
blocks-of Y first = refl

number-of : (Y : Image) (first : ℕ) → next_stamp (world_of Y first) ≡ (super_at Y).mount * 2 ^ 40 + first
unfolding world_of
number-of Y first = refl

pub law-begin : LawBegin
law-begin X Y first sound r first_cell mount = (
  record {
    mountable = only-mountable X Y sound.mountable r.only first_cell.payload;
    mount = mount;
    below = λ b lt. raise-bound ((super_at Y).mount * 2 ^ 40) (((super_at Y).mount + 1) * 2 ^ 40) Y b (cell_at Y b)
        (omega arith) (below b lt);
  },
  λ b lt c has.
      let lt' : b < (super_at Y).blocks = subst (λ (n : ℕ). b < n) (blocks-of Y first) lt in
      let n = number-of Y first in
      let e = sole-is (cell_at Y b) c has in
      subst (λ (d : Cell). CellBelow (next_stamp (world_of Y first)) Y b d) e
      (raise-bound ((super_at Y).mount * 2 ^ 40) (next_stamp (world_of Y first)) Y b (cell_at Y b)
      (omega (arith, n)) (below b lt')),
)
  where
    below : IsBelow ((super_at Y).mount * 2 ^ 40) Y
    below = subst (λ (n : ℕ). IsBelow (n * 2 ^ 40) Y) (sym r.mount)
        (only-below (((super_at X).mount + 1) * 2 ^ 40) X Y (omega arith) r.only first_cell.tag sound.below)

pub law-upgraded : LawUpgraded
law-upgraded X Y sound up first_cell = record {
  mountable = only-mountable X Y sound.mountable up.only first_cell.payload;
  mount = subst (λ (n : ℕ). n < 2 ^ 24) (sym up.mount) sound.mount;
  below = subst (λ (n : ℕ). IsBelow ((n + 1) * 2 ^ 40) Y) (sym up.mount)
      (only-below (((super_at X).mount + 1) * 2 ^ 40) X Y (omega arith) up.only first_cell.tag sound.below);
}
