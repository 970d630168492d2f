-- A mount that has just begun stands.
use Rattle.std.proofs.Common.{◌≡◌, ℕ, ◌+◌, ◌-◌, ◌*◌, ◌/◌, ◌^◌, ◌<◌, ◌≤◌, Bool, true, false, ◌&&◌, ◌||◌, not, leb, ltb}
use Rattle.std.proofs.Common.{eqb, [], Option, Some, None, is_some}
use Rattle.std.proofs.Common.{IsTrue, inl, inr, refl, sym, ap, ◌∙◌, subst, arith, le_refl}
use Rattle.std.proofs.lemmas.Bool.{ltb-true, cases_lt}
use Rattle.std.proofs.lemmas.Bool.Decides.{nat_tests}
use Rattle.nofs_bits.specs.Bits.{is_set}
use Rattle.nofs_disk.specs.Disk.{DiskState, IsDisk, IsSettled}
use Rattle.nofs_super.specs.declared.superblock.SuperBlock.{SuperBlock}
use Rattle.nofs_model.specs.Geometry.{Image, super_at, is_mountable}
use Rattle.nofs_model.specs.Files.{is_special}
use Rattle.nofs_model.specs.Sound.{IsBelow}
use Rattle.nofs_ptrs.specs.Paths.{path_of}
use Rattle.nofs_model.specs.Owners.{Home, owner}
use Rattle.nofs_model.proofs.OnSlots.Find.{and-both, find-held}
use Rattle.nofs_model.proofs.OnOwners.Slots.{owner-holds}
use Rattle.nofs_history.specs.World.{world_of}
use Rattle.nofs_history.specs.Since.{agreed_files}
use Rattle.nofs_history.specs.HistoryState.{HistoryState}
use Rattle.nofs_crashlaw.proofs.OnHistories.FirstStage.{law-first-stage}
use Rattle.nofs_agree.specs.Chain.{known_agreement}
use Rattle.nofs_agree.specs.Reads.{IsAt}
use Rattle.nofs_agree.proofs.OnKnown.{told-nothing}
use Rattle.nofs_state.specs.Books.Maps.{IsRoom, Says}
use Rattle.nofs_state.specs.Cores.Invariant.{IsOpen}
use Rattle.nofs_state.specs.Cores.Beginning.{KnowsFixed, first_past}
use Rattle.nofs_state.specs.declared.books.maps.Books.{Books}
use Rattle.nofs_state.specs.declared.books.maps.Room.{Room}
use Rattle.nofs_state.proofs.OnBooks.Bits.{set-none}

-- no block behind the last has an owner
pub owner-beyond : (X : Image) (b : ℕ) → (super_at X).blocks ≤ b → owner X b ≡ None
owner-beyond X b past = go (owner X b) refl
  where
    go : (o : Option Home) → owner X b ≡ o → owner X b ≡ None
    go None e = e
    go (Some h) e =
        let o = owner-holds X b h.inode h.slot e in
        let area = and-both (leb (1 + (super_at X).inodes / 4) o.0.block) (ltb o.0.block (super_at X).blocks)
        (find-held X h.inode (path_of h.slot) o.0 o.2).agrees.area in
        let low : o.0.block < (super_at X).blocks = ltb-true o.0.block (super_at X).blocks area.1 in
        let same = o.3 in
        absurd (omega (arith, low, past, same))

-- the books of a new mount
abbrev pub new_books : SuperBlock → ℕ → Room → ℕ → Books
new_books at first room start = record {
  at = at;
  unknown_inodes = room.unknown_inodes;
  free_inodes = room.free_inodes;
  agreement = room.agreement;
  serial = first;
  stopped = false;
  unknown_blocks = room.unknown_blocks;
  free_blocks = room.free_blocks;
  history = record { start = start; entries = []; spare = room.history.spare };
}

special-known : (i inodes : ℕ) (set : Bool) → 4 ≤ inodes → (1 ≤ i → i ≤ inodes → set ≡ leb 2 (i - 1))
    → (eqb i 1 || eqb i 2) ≡ (leb 1 i && (leb i inodes && not set))
special-known i inodes set some h = elim (cases_lt i 1) [
  | inl zero ↦ grind (arith, nat_tests)
  | inr low ↦ elim (cases_lt inodes i) [
    | inl past ↦ grind (arith, nat_tests)
    | inr high ↦ rw (h low high) (grind (arith, nat_tests))
  ]
]

fixed-known : (p blocks fixed : ℕ) (set : Bool) → fixed < blocks → (p < blocks → set ≡ leb (1 + fixed) p)
    → leb p fixed ≡ (ltb p blocks && not set)
fixed-known p blocks fixed set some h = elim (cases_lt p blocks) [
  | inl low ↦ rw (h low) (grind (arith, nat_tests))
  | inr past ↦ grind (arith, nat_tests)
]

-- only what is fixed is known
pub knows-fixed : (at : SuperBlock) (first : ℕ) (room : Room) (h : HistoryState) → 4 ≤ at.inodes
    → 2 + at.inodes / 4 ≤ at.blocks → IsRoom at room
    → KnowsFixed at (record (new_books at first room 0) { history = h })
knows-fixed at first room h some table r = record {
  inodes = λ i. sym (special-known i at.inodes (is_set room.unknown_inodes (i - 1)) some
      (λ low high. r.unknown_inodes.each (i - 1) (omega (arith, low, high))));
  blocks = λ p. sym (fixed-known p at.blocks (at.inodes / 4) (is_set room.unknown_blocks p) (omega (arith, table))
      (λ low. r.unknown_blocks.each p low));
  free_inodes = λ n. ap (λ (bits : _). is_set bits n) r.free_inodes ∙ set-none at.inodes n;
  free_blocks = λ b. ap (λ (bits : _). is_set bits b) r.free_blocks ∙ set-none at.blocks b;
}

not-both : (a b : Bool) → (a && not (a || b)) ≡ false
not-both true b = refl
not-both false b = refl

says-first : (X : Image) (at : SuperBlock) (first start : ℕ) (room : Room)
    → super_at X ≡ at → 4 ≤ at.inodes → 2 + at.inodes / 4 ≤ at.blocks → IsRoom at room
    → Says (new_books at first room start) (world_of X first)
unfolding world_of
says-first X at first start room same some table r = record {
  version = ap (λ (q : SuperBlock). q.version) same;
  blocks = ap (λ (q : SuperBlock). q.blocks) same;
  inodes = ap (λ (q : SuperBlock). q.inodes) same;
  mount = ap (λ (q : SuperBlock). q.mount) same;
  serial = refl;
  stopped = refl;
  known_inodes = λ i. special-known i at.inodes (is_set room.unknown_inodes (i - 1)) some
      (λ low high. r.unknown_inodes.each (i - 1) (omega (arith, low, high)));
  known_blocks = λ p. ap (λ (q : SuperBlock). leb p (q.inodes / 4)) same
      ∙ fixed-known p at.blocks (at.inodes / 4) (is_set room.unknown_blocks p) (omega (arith, table))
      (λ low. r.unknown_blocks.each p low);
  free_inodes = λ i low high. ap (λ (bits : _). is_set bits (i - 1)) r.free_inodes ∙ set-none at.inodes (i - 1)
      ∙ sym (not-both (is_special i) (is_some (agreed_files X i)));
  free_blocks = λ p low. ap (λ (bits : _). is_set bits p) r.free_blocks ∙ set-none at.blocks p
      ∙ sym (not-both (leb p ((super_at X).inodes / 4)) (is_some (owner X p)));
  agreement = λ i a t. absurd (let e : known_agreement room.agreement i ≡ None =
      ap (λ (known : _). known_agreement known i) r.agreement ∙ told-nothing at.inodes i in cc (t, e));
}

pub open-first : (d : DiskState) (at : SuperBlock) (first : ℕ) (room : Room) → IsDisk d → IsAt d at → IsRoom at room
    → IsTrue d.tells → IsSettled d
    → IsTrue (is_mountable d.now) → 0 < at.mount * 2 ^ 40 + first
    → IsBelow (at.mount * 2 ^ 40 + first) d.now → IsOpen d (new_books at first room d.moment) [] (first_past d first)
unfolding world_of
open-first d at first room is numbers r tells settled mountable positive below =
    let same : super_at d.now ≡ at = numbers.same tells in
    let m : (super_at d.now).mount * 2 ^ 40 + first ≡ at.mount * 2 ^ 40 + first =
    ap (λ (q : SuperBlock). q.mount * 2 ^ 40 + first) same in
    let go : is_mountable d.now ≡ true = mountable in
    let st = law-first-stage d ((super_at d.now).mount * 2 ^ 40 + first) (record {
      disk = is;
      tells = tells;
      settled = settled;
      mountable = go;
      below = subst (λ (s : ℕ). IsBelow s d.now) (sym m) below;
      positive = omega (arith, m, positive);
    }) in
    record {
      run = record { run = refl; ends = refl };
      going = refl;
      says = says-first d.now at first d.moment room same numbers.geometry.some_inodes numbers.geometry.table r;
      at = same;
      mountable = go;
      files = refl;
      homes = λ p low. refl;
      homes_past = λ b past. owner-beyond d.now b past;
      stage = st.0;
      older = le_refl ((super_at d.now).mount * 2 ^ 40 + first);
      rest = st.1;
      no_fault = tt;
    }

pub open-with : (d : DiskState) (at : SuperBlock) (first moment : ℕ) (room : Room) (h : HistoryState) → IsDisk d
    → IsAt d at → IsRoom at room
    → moment ≡ d.moment
    → h ≡ record { start = moment; entries = []; spare = room.history.spare } → IsTrue d.tells → IsSettled d
    → IsTrue (is_mountable d.now)
    → 0 < at.mount * 2 ^ 40 + first
    → IsBelow (at.mount * 2 ^ 40 + first) d.now
    → IsOpen d (record (new_books at first room moment) { history = h }) [] (first_past d first)
open-with d at first moment room h is numbers r same eh tells settled mountable positive below =
    let e : h ≡ record { start = d.moment; entries = []; spare = room.history.spare } =
    eh ∙ (λ j. record { start = same j; entries = []; spare = room.history.spare }) in
    subst (λ (q : HistoryState). IsOpen d (record (new_books at first room moment) { history = q }) []
    (first_past d first)) (sym e)
    (open-first d at first room is numbers r tells settled mountable positive below)
