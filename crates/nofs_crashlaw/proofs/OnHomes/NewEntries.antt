-- Link and Make: each block has its home, and so have the claimed ones.
use Rattle.std.proofs.Common.{◌≡◌, ◌≢◌, ℕ, ◌-◌, ◌/◌, ◌<◌, ◌≤◌, true, List, Option, Some, option_map, refl, sym, ap, ◌∙◌}
use Rattle.std.proofs.Common.{subst, arith, ne_eqb}
use Rattle.nofs_inode.specs.declared.inode.FileKind.{FileKind}
use Rattle.nofs_disk.specs.declared.tag.Pointer.{Pointer}
use Rattle.nofs_dirent.specs.Entries.{spelled_entry}
use Rattle.nofs_ptrs.specs.Paths.{slot_limit}
use Rattle.nofs_model.specs.Geometry.{Image}
use Rattle.nofs_model.specs.Files.{files_in, agreed, FileState}
use Rattle.nofs_model.specs.Owners.{Home, home_at}
use Rattle.nofs_history.specs.Machine.{place_for, set_link, link_to, link_given, make_given, files_after}
use Rattle.nofs_history.specs.History.{FilesMatch}
use Rattle.nofs_history.specs.World.{World, blocks_for}
use Rattle.nofs_history.specs.Claims.{IsClaim}
use Rattle.nofs_history.specs.declared.machine.history.Claims.{Claims}
use Rattle.nofs_history.specs.declared.machine.steps.Step.TheVariants as step
use Rattle.nofs_crashlaw.proofs.OnUntouched.Frames.{some-is}
use Rattle.nofs_crashlaw.proofs.OnFiles.Given.{file-apart, none-apart}
use Rattle.nofs_crashlaw.specs.Maps.Homes.{HomesMove}
use Rattle.nofs_crashlaw.specs.Maps.Moves.{IsClaimed, ClaimsStand, HeldMove}
use Rattle.nofs_crashlaw.specs.Names.OldEntries.{NameWrites}
use Rattle.nofs_crashlaw.proofs.OnNames.InPlace.{in-place-writes}
use Rattle.nofs_crashlaw.specs.Names.NewEntries.{HoleWithLeaf, LinkLies, MakeLies, EntryInHole}
use Rattle.nofs_crashlaw.proofs.OnNames.NewEntries.{all-null}
use Rattle.nofs_crashlaw.proofs.OnNames.Holes.{hole-writes}
use Rattle.nofs_crashlaw.proofs.OnNames.NewLaws.{law-link-in-place, law-link-in-hole, law-make-in-place}
use Rattle.nofs_crashlaw.proofs.OnNames.NewLaws.{law-make-in-hole}
use Rattle.nofs_crashlaw.proofs.OnHomes.Steps.{law-name-homes}
use Rattle.nofs_crashlaw.proofs.OnMaps.Moves.{law-bare}
use Rattle.nofs_crashlaw.specs.Homes.Entries.{EntryClaims, LawLinkInPlaceHomes, LawLinkInHoleHomes}
use Rattle.nofs_crashlaw.specs.Homes.Entries.{LawMakeInPlaceHomes, LawMakeInHoleHomes}
use Rattle.nofs_crashlaw.proofs.OnHomes.Slots.{directory-kept, inode-kept, agreed-after, Counted, counted, needed-at}
use Rattle.nofs_crashlaw.proofs.OnHomes.Slots.{needed-held}
use Rattle.nofs_crashlaw.proofs.OnHomes.Holes.{hole-stands, cell-claimed, leaf-claimed}

-- the slot of a new entry's cell
slot-of-entry : (c : Claims) (Y : Image) (d e : ℕ) (o : Option ℕ) → o ≡ Some e
    → ClaimsStand c Y (home_at d (e / 16)) → (at : Home)
    → option_map (λ n. home_at d (n / 16)) o ≡ Some at → ClaimsStand c Y at
slot-of-entry c Y d e o place stand at q =
    let here : Some (home_at d (e / 16)) ≡ Some at =
    sym (ap (λ (t : Option ℕ). option_map (λ n. home_at d (n / 16)) t) place) ∙ q in
    let same : home_at d (e / 16) ≡ at = cc here in
    subst (λ (h : Home). ClaimsStand c Y h) same stand

-- where no block is claimed, each claimed block stands
nothing-stands : (c : Claims) (Y : Image) (d k : ℕ) → k < 72 → Counted c 0
    → agreed (files_in Y) d ≡ true → ClaimsStand c Y (home_at d k)
nothing-stands c Y d k lt none there = record {
  agreed = there;
  range = omega (arith, lt);
  cell = λ e. let n = none.0 in absurd (cc (n, e));
  leaf = λ e. let n = none.1 in absurd (cc (n, e));
  top = λ e. let n = none.2 in absurd (cc (n, e));
}

-- Link
module _ (W : World) (X Y : Image) (d g e i of b s : ℕ) (name : List ℕ) (f h : FileState) (c : Claims)
    (p : LinkLies W.files X Y d g e i of b s name f h) (place : place_for W.files d name ≡ Some e)
    (claim : IsClaim W (step.Link d g name i of) c) where
  -- a file is no directory
  pub link-apart : i ≢ d
  link-apart = file-apart W.files i d f h p.is_file p.is p.file p.folder

  link-slot : e / 16 < 72
  link-slot = let lt = p.range in omega (arith, lt)

  link-there : FilesMatch (files_after W.files (link_given W.files d g name i of e b)) Y → agreed (files_in Y) d ≡ true
  link-there after = agreed-after W.files (link_given W.files d g name i of e b) Y d f p.is refl
      (let z = ne_eqb i d link-apart in rw z refl) after

  link-homes : NameWrites s d i X Y → FilesMatch (files_after W.files (link_given W.files d g name i of e b)) Y
      → ClaimsStand c Y (home_at d (e / 16))
      → HeldMove c X Y d → HomesMove W.files (step.Link d g name i of) c X Y
  link-homes w after stand moved =
      law-name-homes W (step.Link d g name i of) c (link_given W.files d g name i of e b) s d i X Y (record {
        claim = claim;
        writes = w;
        before = p.files;
        after = after;
        old = p.old;
        born = λ j nd ni. refl;
        stand = slot-of-entry c Y d e (place_for W.files d name) place stand;
        directory = moved;
        inode = inode-kept c s W.files X Y d i h (set_link h.links b (link_to d e g)) p.files p.is_file link-apart
            (p.old i (some-is (W.files i) h p.is_file))
            w p.linked;
      })

pub law-link-in-place-homes : LawLinkInPlaceHomes
law-link-in-place-homes W X Y d g e i of b s name f h x c p q place claim =
    let after = (law-link-in-place W.files X Y d g e i of b s name f h x p q).2 in
    let lt = link-slot W X Y d g e i of b s name f h c p place claim in
    let k : e / 16 < slot_limit = omega (arith, lt) in
    link-homes W X Y d g e i of b s name f h c p place claim
    (in-place-writes s d i (e / 16) X Y x q.held q.writes) after
    (nothing-stands c Y d (e / 16) lt (counted W (step.Link d g name i of) c 0 claim
    (needed-at W.files d e 0 name place (needed-held W.files X d (e / 16) f x p.files p.is k q.held)))
    (link-there W X Y d g e i of b s name f h c p place claim after))
    (directory-kept c s W.files X Y d i (e / 16) f x p.files p.is
    (link-apart W X Y d g e i of b s name f h c p place claim) k
    (p.old d (some-is (W.files d) f p.is)) q.held q.writes)

-- the blocks that the entry got are claimed
pub link-claims : (W : World) (X Y : Image) (d g e i of b s : ℕ) (name : List ℕ) (f h : FileState)
    (x y : Pointer) (c : Claims)
    → LinkLies W.files X Y d g e i of b s name f h → EntryInHole s X Y d e i (spelled_entry i of name) x y
    → EntryClaims W.files c d e name x y
    → IsClaim W (step.Link d g name i of) c
    → IsClaimed c x × (8 ≤ e / 16 → HoleWithLeaf s X Y d i (e / 16 - 8) x y → IsClaimed c y)
link-claims W X Y d g e i of b s name f h x y c p q u claim =
    let apart = link-apart W X Y d g e i of b s name f h c p u.place claim in
    let range = link-slot W X Y d g e i of b s name f h c p u.place claim in
    let old = p.old d (some-is (W.files d) f p.is) in
    let count = counted W (step.Link d g name i of) c (blocks_for W.files d (e / 16)) claim
    (needed-at W.files d e (blocks_for W.files d (e / 16)) name u.place refl) in (
      cell-claimed s W.files c X Y d i
          (e / 16) f x y p.files p.is apart range old q.empty count u.cell u.leaf q.claimed,
      leaf-claimed s W.files c X Y d i (e / 16) f x y p.files p.is apart range old q.empty count u.cell u.leaf,
    )

pub law-link-in-hole-homes : LawLinkInHoleHomes
law-link-in-hole-homes W X Y d g e i of b s name f h x y c p q u claim =
    let after = (law-link-in-hole W.files X Y d g e i of b s name f h x y p q).2 in
    let there = link-there W X Y d g e i of b s name f h c p u.place claim after in
    let stands = hole-stands s W.files c X Y d i (e / 16) f x y p.files p.is
    (link-apart W X Y d g e i of b s name f h c p u.place claim)
    (link-slot W X Y d g e i of b s name f h c p u.place claim) (p.old d (some-is (W.files d) f p.is)) q.empty
    (counted W (step.Link d g name i of) c (blocks_for W.files d (e / 16)) claim
    (needed-at W.files d e (blocks_for W.files d (e / 16)) name u.place refl))
    u.cell u.leaf q.claimed in
    link-homes W X Y d g e i of b s name f h c p u.place claim (hole-writes s X Y d i (e / 16) x y q.claimed) after
    (stands.stand there) stands.moved

-- Make
module _ (W : World) (X Y : Image) (d g e s : ℕ) (name : List ℕ) (kind : FileKind) (claims : Claims) (f : FileState)
    (p : MakeLies W.files X Y d g e s name kind claims f) (place : place_for W.files d name ≡ Some e)
    (claim : IsClaim W (step.Make d g name kind) claims) where
  -- the new inode had no file
  pub make-apart : claims.inode ≢ d
  make-apart = none-apart W.files claims.inode d f p.none p.is

  make-slot : e / 16 < 72
  make-slot = let lt = p.range in omega (arith, lt)

  make-there : FilesMatch (files_after W.files (make_given W.files d g name kind claims e)) Y
      → agreed (files_in Y) d ≡ true
  make-there after =
      let z = ne_eqb d claims.inode (λ t. make-apart (sym t)) in
      agreed-after W.files (make_given W.files d g name kind claims e) Y d f p.is (rw z refl) (rw z refl) after

  make-homes : NameWrites s d claims.inode X Y
      → FilesMatch (files_after W.files (make_given W.files d g name kind claims e)) Y
      → ClaimsStand claims Y (home_at d (e / 16)) → HeldMove claims X Y d
      → HomesMove W.files (step.Make d g name kind) claims X Y
  make-homes w after stand moved = law-name-homes W (step.Make d g name kind) claims
      (make_given W.files d g name kind claims e) s d claims.inode X Y (record {
        claim = claim;
        writes = w;
        before = p.files;
        after = after;
        old = p.old;
        born = λ j nd ni. let z = ne_eqb j claims.inode ni in rw z refl;
        stand = slot-of-entry claims Y d e (place_for W.files d name) place stand;
        directory = moved;
        inode = law-bare claims X Y claims.inode (all-null Y claims.inode p.made.pointers);
      })

pub law-make-in-place-homes : LawMakeInPlaceHomes
law-make-in-place-homes W X Y d g e s name kind claims f x p q place claim =
    let after = (law-make-in-place W.files X Y d g e s name kind claims f x p q).2 in
    let lt = make-slot W X Y d g e s name kind claims f p place claim in
    let k : e / 16 < slot_limit = omega (arith, lt) in
    make-homes W X Y d g e s name kind claims f p place claim
    (in-place-writes s d claims.inode (e / 16) X Y x q.held q.writes) after
    (nothing-stands claims Y d (e / 16) lt (counted W (step.Make d g name kind) claims 0 claim
    (needed-at W.files d e 0 name place (needed-held W.files X d (e / 16) f x p.files p.is k q.held)))
    (make-there W X Y d g e s name kind claims f p place claim after))
    (directory-kept claims s W.files X Y d claims.inode (e / 16) f x p.files p.is
    (make-apart W X Y d g e s name kind claims f p place claim) k
    (p.old d (some-is (W.files d) f p.is)) q.held q.writes)

-- the blocks that the entry got are claimed
pub make-claims : (W : World) (X Y : Image) (d g e s : ℕ) (name : List ℕ) (kind : FileKind) (claims : Claims)
    (f : FileState) (y : Pointer)
    → MakeLies W.files X Y d g e s name kind claims f
    → EntryInHole s X Y d e claims.inode (spelled_entry claims.inode claims.generation name) claims.cell y
    → EntryClaims W.files claims d e name claims.cell y → IsClaim W (step.Make d g name kind) claims
    → IsClaimed claims claims.cell
    × (8 ≤ e / 16 → HoleWithLeaf s X Y d claims.inode (e / 16 - 8) claims.cell y → IsClaimed claims y)
make-claims W X Y d g e s name kind claims f y p q u claim =
    let apart = make-apart W X Y d g e s name kind claims f p u.place claim in
    let range = make-slot W X Y d g e s name kind claims f p u.place claim in
    let old = p.old d (some-is (W.files d) f p.is) in
    let count = counted W (step.Make d g name kind) claims (blocks_for W.files d (e / 16)) claim
    (needed-at W.files d e (blocks_for W.files d (e / 16)) name u.place refl) in (
      cell-claimed s W.files claims X Y d claims.inode
          (e / 16) f claims.cell y p.files p.is apart range old q.empty count u.cell u.leaf q.claimed,
      leaf-claimed s W.files claims X Y d claims.inode
          (e / 16) f claims.cell y p.files p.is apart range old q.empty count u.cell u.leaf,
    )

pub law-make-in-hole-homes : LawMakeInHoleHomes
law-make-in-hole-homes W X Y d g e s name kind claims f y p q u claim =
    let after = (law-make-in-hole W.files X Y d g e s name kind claims f y p q).2 in
    let there = make-there W X Y d g e s name kind claims f p u.place claim after in
    let stands = hole-stands s W.files claims X Y d claims.inode (e / 16) f claims.cell y p.files p.is
    (make-apart W X Y d g e s name kind claims f p u.place claim)
    (make-slot W X Y d g e s name kind claims f p u.place claim)
    (p.old d (some-is (W.files d) f p.is)) q.empty
    (counted W (step.Make d g name kind) claims (blocks_for W.files d (e / 16)) claim
    (needed-at W.files d e (blocks_for W.files d (e / 16)) name u.place refl)) u.cell u.leaf q.claimed in
    make-homes W X Y d g e s name kind claims f p u.place claim
    (hole-writes s X Y d claims.inode (e / 16) claims.cell y q.claimed) after
    (stands.stand there) stands.moved
