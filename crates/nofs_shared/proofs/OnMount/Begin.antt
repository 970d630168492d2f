-- A mount begins: the superblock is raised, and all images stay sound.
use Rattle.std.proofs.Common.{◌≡◌, ◌≢◌, ℕ, ◌+◌, ◌-◌, ◌*◌, ◌^◌, ◌<◌, ◌≤◌, min, Bool, true, false, eqb, eqb-true, eq-eqb}
use Rattle.std.proofs.Common.{List, [], length, set}
use Rattle.std.proofs.Common.{IsTrue, Some, ◌⊎◌, inl, inr, refl, sym, ap, ◌∙◌, subst, subst₂, arith, Contains}
use Rattle.std.proofs.lemmas.Bool.{cases_lt}
use Rattle.std.proofs.lemmas.List.{get_or-set_same, get_or-set_other, length-set}
use Rattle.nofs_disk.specs.Disk.{DiskState, IsDisk, IsSameDisk, KeepsPast, KeepsCells, Picks, no_cell, IsSettled}
use Rattle.nofs_disk.specs.Chains.{IsSameDisk-trans}
use Rattle.nofs_disk.specs.Adds.{Adds, WasOr}
use Rattle.nofs_super.specs.Format.{super_cell, super_payload}
use Rattle.nofs_super.specs.Geometry.{IsGeometry}
use Rattle.nofs_super.specs.Raise.{IsRaised, IsSuperCell, raised}
use Rattle.nofs_super.specs.Spelling.{super_of-payload}
use Rattle.nofs_super.specs.Super.{CanMount, super_of, super_in, is_super}
use Rattle.nofs_disk.specs.declared.tag.Cell.{Cell}
use Rattle.nofs_super.specs.declared.superblock.SuperBlock.{SuperBlock}
use Rattle.nofs_disk.specs.Tag.{tag_of}
use Rattle.nofs_model.specs.Geometry.{Image, super_at, is_mountable}
use Rattle.nofs_disk.specs.Disk.{cell_at}
use Rattle.nofs_model.specs.Sound.{IsSound, IsBelow}
use Rattle.nofs_model.proofs.OnGeometry.Super.{Spells, spells, super-tag, version-small}
use Rattle.nofs_history.specs.Allowed.{IsAllowed}
use Rattle.nofs_history.specs.World.{world_of}
use Rattle.nofs_crashlaw.specs.Lives as lives
use Rattle.nofs_crashlaw.proofs.OnLives.Begin.{law-begin}
use Rattle.nofs_agree.specs.Reads.{IsAt}
use Rattle.nofs_state.specs.Books.Maps.{IsSafe}
use Rattle.nofs_state.specs.Cores.Invariant.{IsOpen, IsStopped, Sounds}
use Rattle.nofs_state.specs.declared.books.maps.Books.{Books}
use Rattle.nofs_state.specs.Cores.Beginning.{HasBegun, first_past}
use Rattle.nofs_history.specs.declared.machine.history.Entry1.{Entry1}
use Rattle.nofs_shared.proofs.OnLaws.Images.{rests-at}
use Rattle.nofs_shared.specs.Mount.Images.{ImagesAlong}
use Rattle.nofs_history.specs.Since.{agreed_files}
use Rattle.nofs_shared.specs.Mount.Forms.{ExactCalls, Forms, faults_in}
use Rattle.nofs_shared.specs.Mount.Invariant.{IsFound, IsMount, IsMounted, IsSoundDisk}
use Rattle.nofs_shared.proofs.OnMount.Images.{of-open}

-- What a superblock's cell spells

module _ (blocks : ℕ) (it : SuperBlock) (can : CanMount blocks it) where
  raised-spells : Spells (super_cell (raised it)).payload (raised it)
  unfolding super_cell
  raised-spells =
      let g = can.geometry in
      let b = g.most_blocks in
      let i = g.most_inodes in
      let m = can.mount in
      spells (super_payload (raised it)) (raised it)
      (super_of-payload (raised it) (version-small it.version can.version) (omega (arith, b))
      (omega (arith, i)) (omega (arith, m)) can.version)

  super-is : (X : Image) → cell_at X 0 ≡ super_cell (raised it) → super_at X ≡ raised it
  unfolding super_at
  super-is X e = ap (λ (c : Cell). super_in c.payload) e ∙ raised-spells.numbers

  cell-is : (X : Image) → cell_at X 0 ≡ super_cell (raised it) → lives.HasSuperCell X
  cell-is X e = record {
    payload = ap (λ (c : Cell). is_super c.payload) e ∙ raised-spells.spelled;
    tag = ap (λ (c : Cell). tag_of c.tag) e ∙ super-tag (raised it);
  }

  raised-of : (Z X : Image) → length X ≡ length Z → ((b : ℕ) → b ≢ 0 → cell_at X b ≡ cell_at Z b)
      → super_at Z ≡ it → cell_at X 0 ≡ super_cell (raised it)
      → lives.Raised Z X
  raised-of Z X size others ez ex =
      let sx = super-is X ex in
      record {
        only = record {
          size = size;
          others = others;
          blocks = ap (λ (q : SuperBlock). q.blocks) sx ∙ sym (ap (λ (q : SuperBlock). q.blocks) ez);
          inodes = ap (λ (q : SuperBlock). q.inodes) sx ∙ sym (ap (λ (q : SuperBlock). q.inodes) ez);
        };
        version = ap (λ (q : SuperBlock). q.version) sx ∙ sym (ap (λ (q : SuperBlock). q.version) ez);
        mount = ap (λ (q : SuperBlock). q.mount) sx ∙ sym (ap (λ (q : SuperBlock). q.mount + 1) ez);
      }

  mount-small : (X : Image) → cell_at X 0 ≡ super_cell (raised it) → (super_at X).mount < 2 ^ 24
  mount-small X e = let s : (super_at X).mount ≡ it.mount + 1 = ap (λ (q : SuperBlock). q.mount) (super-is X e) in
      let m = can.mount in omega (arith, s, m)

super-of : (X : Image) (c : Cell) (it : SuperBlock) → cell_at X 0 ≡ c → super_of c.payload ≡ Some it → super_at X ≡ it
unfolding super_at
super-of X c it e spelled = ap (λ (q : Cell). super_in q.payload) e ∙ (spells c.payload it spelled).numbers

each-of : (may : ℕ → List Cell) (X : Image) (n : ℕ) → Contains (may 0) (cell_at X 0)
    → ((b : ℕ) → b < n → b ≢ 0 → Contains (may b) (cell_at X b)) → (b : ℕ)
    → b < n → Contains (may b) (cell_at X b)
each-of may X n here rest b low = go (eqb b 0) refl
  where
    go : (t : Bool) → eqb b 0 ≡ t → Contains (may b) (cell_at X b)
    go true e = subst (λ (k : ℕ). Contains (may k) (cell_at X k)) (sym (eqb-true b 0 e)) here
    go false e = rest b low (λ z. let t : eqb b 0 ≡ true = eq-eqb b 0 z in cc (t, e))

-- Every image of the disk as it was found, but for a raised superblock, is sound
module _ (old : DiskState) (it : SuperBlock) (is : IsDisk old) (can : CanMount old.blocks it) (q : IsSoundDisk old)
    (spelled : super_of (cell_at old.now 0).payload ≡ Some it) where
  some : 0 < old.blocks
  some = let g = can.geometry in let a = g.some_blocks in let b = g.fits in omega (arith, a, b)

  pub sound-found : (X : Image) → IsFound (raised it) old X → IsSound X
  sound-found X found = go (found.1 0 some)
    where
      rest : (b : ℕ) → b < old.blocks → b ≢ 0 → Contains (old.may b) (cell_at X b)
      rest b low ne = elim (found.1 b low) [ inl h ↦ h | inr c ↦ absurd (ne c.first) ]

      Z : Image
      Z = set X 0 (cell_at old.now 0)

      first : cell_at Z 0 ≡ cell_at old.now 0
      first = get_or-set_same X 0 (cell_at old.now 0) no_cell (let e = found.0 in let s = some in omega (arith, e, s))

      others : (b : ℕ) → b ≢ 0 → cell_at Z b ≡ cell_at X b
      others b ne = get_or-set_other X 0 b (cell_at old.now 0) no_cell ne

      picks : Picks old.may old.blocks Z
      picks = record {
        len = length-set X 0 (cell_at old.now 0) ∙ found.0;
        each = each-of old.may Z old.blocks
            (subst (λ (c : Cell). Contains (old.may 0) c) (sym first) (is.has_now 0 q.tells some))
            (λ b low ne. subst (λ (c : Cell). Contains (old.may b) c) (sym (others b ne)) (rest b low ne));
      }

      go : WasOr (IsSuperCell (raised it)) old 0 (cell_at X 0) → IsSound X
      go (inl here) = q.sound X (record { len = found.0; each = each-of old.may X old.blocks here rest })
      go (inr c) = (law-begin Z X 0 (q.sound Z picks)
          (raised-of old.blocks it can Z X (sym (length-set X 0 (cell_at old.now 0))) (λ b ne. sym (others b ne))
          (super-of Z (cell_at old.now 0) it first spelled) c.is)
          (cell-is old.blocks it can X c.is) (mount-small old.blocks it can X c.is)).0

-- images at the moments of the raise
pub before-raised : (old new : DiskState) (it : SuperBlock) → IsDisk old → Adds (IsSuperCell it) old new
    → (m : ℕ) (X : Image) → old.moment ≤ m
    → m ≤ new.moment → new.left m X → IsFound it old X
before-raised old new it is adds m X from to left = elim (cases_lt old.moment m) [
  | inl beyond ↦ adds.left m X beyond to left
  | inr here ↦
      let e : m ≡ old.moment = omega (arith, from, here) in
      let F : ℕ → Type 0 = λ n. old.left n X in
      let p = is.at_rest X (subst F e (adds.past.no_more m X (omega (arith, e)) left)) in
      (p.len, λ b low. inl (p.each b low))
]

pub sounds-raised : (old new : DiskState) (it : SuperBlock) → IsDisk old → CanMount old.blocks it
    → Adds (IsSuperCell (raised it)) old new → IsSoundDisk old
    → super_of (cell_at old.now 0).payload ≡ Some it → Sounds old.moment new
sounds-raised old new it is can adds q spelled = record {
  picks = λ X p. sound-found old it is can q spelled X (
    p.len ∙ adds.disk.blocks,
    λ b low. adds.cells b (cell_at X b) (p.each b (let e = adds.disk.blocks in omega (arith, low, e))),
  );
  images = record {
    begun = adds.later;
    each = λ m X from to left. sound-found old it is can q spelled X
        (before-raised old new (raised it) is adds m X from to left);
  };
}

-- calls that write nothing
pub sounds-rest : (old new : DiskState) → IsDisk old → IsSameDisk old new → KeepsPast old new → KeepsCells old new
    → IsSoundDisk old → Sounds old.moment new
sounds-rest old new is disk past cells q = record {
  picks = λ X p. q.sound X (subst₂ (λ (may : ℕ → List Cell) (n : ℕ). Picks may n X) cells.may disk.blocks p);
  images = record {
    begun = (let e = cells.moment in omega (arith, e));
    each = λ m X from to left.
        let e : m ≡ old.moment = (let k = cells.moment in omega (arith, from, to, k)) in
        let F : ℕ → Type 0 = λ n. old.left n X in
        q.sound X (is.at_rest X (subst F e (past.no_more m X (omega (arith, e)) left)));
  };
}

pub sound-on : (old new : DiskState) → IsSameDisk old new → KeepsCells old new → IsSoundDisk old → IsSoundDisk new
sound-on old new disk cells q = record {
  tells = subst (λ (b : Bool). IsTrue b) (sym disk.tells) q.tells;
  sound = λ X p. q.sound X (subst₂ (λ (may : ℕ → List Cell) (n : ℕ). Picks may n X) cells.may disk.blocks p);
}

-- what the raise leaves on a disk that tells
module _ (old new : DiskState) (it : SuperBlock) (is_old : IsDisk old) (can : CanMount old.blocks it)
    (adds : Adds (IsSuperCell (raised it)) old new)
    (r : IsRaised (raised it) old new) where
  first-is : IsTrue old.tells → cell_at new.now 0 ≡ super_cell (raised it)
  first-is tells = ap (λ (X : Image). cell_at X 0) r.now ∙ get_or-set_same old.now 0 (super_cell (raised it)) no_cell
      (let e = is_old.whole tells in let g = can.geometry in let a = g.some_blocks in let b = g.fits in
      omega (arith, e, a, b))

  pub at-raised : IsAt new (raised it)
  at-raised = record {
    geometry = subst (λ (n : ℕ). IsGeometry n it.blocks it.inodes) (sym adds.disk.blocks) can.geometry;
    same = λ t. super-is old.blocks it can new.now (first-is (subst (λ (b : Bool). IsTrue b) adds.disk.tells t));
  }

  others-are : (b : ℕ) → b ≢ 0 → cell_at new.now b ≡ cell_at old.now b
  others-are b ne = ap (λ (X : Image). cell_at X b) r.now
      ∙ get_or-set_other old.now 0 b (super_cell (raised it)) no_cell ne

  below-raised : (first : ℕ) → IsSoundDisk old → super_of (cell_at old.now 0).payload ≡ Some it
      → IsSound new.now × IsBelow ((raised it).mount * 2 ^ 40 + first) new.now
  unfolding world_of
  below-raised first q spelled =
      let f = first-is q.tells in
      let old_sound : IsSound old.now =
      q.sound old.now (record { len = is_old.whole q.tells; each = λ b low. is_old.has_now b q.tells low }) in
      let law = law-begin old.now new.now first old_sound
      (raised-of old.blocks it can old.now new.now
      (ap (λ (X : Image). length X) r.now ∙ length-set old.now 0 (super_cell (raised it))) others-are
      (super-of old.now (cell_at old.now 0) it refl spelled) f)
      (cell-is old.blocks it can new.now f) (mount-small old.blocks it can new.now f) in
      let m : (super_at new.now).mount * 2 ^ 40 + first ≡ (raised it).mount * 2 ^ 40 + first =
      ap (λ (s : SuperBlock). s.mount * 2 ^ 40 + first) (super-is old.blocks it can new.now f) in
      (law.0, subst (λ (s : ℕ). IsBelow s new.now) m (λ b lt. law.1 b lt (cell_at new.now b) (0, omega arith, refl)))

pub begin-mount : (found old new : DiskState) (it at : SuperBlock) (first : ℕ) (k : Books) → IsDisk old → IsDisk new
    → IsSameDisk found old
    → KeepsPast found old → KeepsCells found old
    → CanMount old.blocks it → (IsTrue old.tells → super_of (cell_at old.now 0).payload ≡ Some it)
    → Adds (IsSuperCell (raised it)) old new
    → IsRaised (raised it) old new → at ≡ raised it
    → IsSafe new k → HasBegun new at k
    → (IsTrue new.tells → IsSettled new → IsTrue (is_mountable new.now)
    → 0 < at.mount * 2 ^ 40 + first → IsBelow (at.mount * 2 ^ 40 + first) new.now
    → IsOpen new k [] (first_past new first))
    → IsMount found new first k
begin-mount found old new it at first k is_old is_new disk past cells can spelled adds r same safe begun opens =
    record {
      safe = safe;
      disk = IsSameDisk-trans found old new disk adds.disk;
      mounted = subst₂ (λ (n : ℕ) (q : SuperBlock). IsMounted found new n q) (sym begun.start)
          (sym (begun.at ∙ same)) (record {
            begun = r.moment ∙ ap (λ (n : ℕ). n + 4) cells.moment;
            base = r.was ∙ r.now ∙ ap (λ (X : Image). set X 0 (super_cell (raised it))) cells.now;
            before = λ m X from to left. on X
                (before-raised old new (raised it) is_old adds m X
                (let e = cells.moment in omega (arith, from, e)) to left);
            resting = λ e X p. on X (
              p.len ∙ adds.disk.blocks,
              λ b low. adds.cells b (cell_at X b) (p.each b (let n = adds.disk.blocks in omega (arith, low, n))),
            );
          });
      forms = subst₂ (λ (n : ℕ) (H : List Entry1). Forms n false H new.moment k.stopped) (sym begun.start)
          (sym begun.empty)
          (refl, begun.going);
      counted = subst (λ (H : List Entry1). min (found.faults + faults_in H) (2 ^ 64 - 1) ≤ new.faults)
          (sym begun.empty)
          (let a = disk.faults in let b =
          adds.disk.faults in omega (arith, a, b));
      stands = λ q.
          let o : IsSoundDisk old = sound-on found old disk cells q in
          let sp = spelled o.tells in
          let t : IsTrue new.tells = subst (λ (b : Bool). IsTrue b) (sym adds.disk.tells) o.tells in
          let b = below-raised old new it is_old can adds r first o sp in
          let opened : IsOpen new k [] (first_past new first) =
          opens t r.settled b.0.mountable
          (let m : at.mount ≡ it.mount + 1 = ap (λ (s : SuperBlock). s.mount) same in omega (arith, m))
          (subst (λ (s : SuperBlock). IsBelow (s.mount * 2 ^ 40 + first) new.now) (sym same) b.1) in
          record {
            past = first_past new first;
            base = sym r.was ∙ ap new.was (sym begun.start);
            serial = refl;
            raised = begun.at ∙ same ∙ ap raised (sym (super-of old.now (cell_at old.now 0) it refl sp))
                ∙ ap (λ (X : Image). raised (super_at X)) cells.now;
            now = subst (λ (H : List Entry1). IsOpen new k H (first_past new first)
                ⊎ IsStopped new k H (first_past new first)) (sym begun.empty) (inl opened);
            calls = subst₂ (λ (n : ℕ) (H : List Entry1). ExactCalls (agreed_files new.now) n new.moment H)
                (sym begun.start) (sym begun.empty) (record { all = λ none. omega arith; most = omega arith });
            rests = subst (λ (H : List Entry1). (X : Image) → Picks new.may new.blocks X
                → IsAllowed new.now H new.moment X)
                (sym begun.empty)
                (rests-at new.now []
                (first_past new first).mark (first_past new first).stamps k.history.start new refl tt
                opened.stage.lasts);
            along = subst (λ (H : List Entry1). ImagesAlong [] (world_of new.now first) new.now H
                (world_of new.now first) new.now) (sym begun.empty) (refl, refl);
            machine = λ only. of-open new k [] (first_past new first) opened;
            sound = subst (λ (n : ℕ). Sounds n new) cells.moment (sounds-raised old new it is_old can adds o sp);
          };
    }
  where
    on : (X : Image) → IsFound (raised it) old X → IsFound (raised it) found X
    on X f = subst₂ (λ (may : ℕ → List Cell) (n : ℕ). (length X ≡ n) × ((b : ℕ) → b < n
        → Contains (may b) (cell_at X b) ⊎ IsSuperCell (raised it) b (cell_at X b))) cells.may disk.blocks f
