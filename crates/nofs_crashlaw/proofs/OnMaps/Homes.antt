-- The homes of the machine after a step are the owners of the image after it.
use Rattle.std.proofs.Common.{◌≡◌, ℕ, ◌+◌, ◌-◌, ◌^◌, ◌/◌, ◌<◌, ◌≤◌, ◌⊎◌, inl, inr, Bool, true, false, cond, leb, ltb}
use Rattle.std.proofs.Common.{◌||◌, not, Option, Some, None, is_some, refl, sym, ap, ◌∙◌, subst, arith, lt-ltb, le-ltb}
use Rattle.std.proofs.lemmas.Bool.{cases_lt}
use Rattle.std.proofs.lemmas.Bool.Decides.{nat_tests}
use Rattle.nofs_model.specs.declared.image.path.PathAnswer.{PathAnswer}
use Rattle.nofs_crashlaw.specs.Maps.Homes.{Houses, HomesMove, LawHomes, LawGood}
use Rattle.nofs_model.proofs.OnSlots.Find.{find-held}
use Rattle.nofs_ptrs.specs.PathLaws.{path_of-slot_of}
use Rattle.nofs_model.proofs.OnSlots.Paths.{path-record, path-child, path_of-number}
use Rattle.nofs_crashlaw.proofs.OnUntouched.Matches.{matched-file, matched-agreed}
use Rattle.nofs_model.proofs.OnOwners.Slots.{owner-of, owner-holds, owner-slot}
use Rattle.nofs_crashlaw.proofs.OnUntouched.Agreement.{same-of, live-some, agreed-some}
use Rattle.nofs_model.proofs.OnFiles.Chains.{agreed-holds}
use Rattle.nofs_crashlaw.proofs.OnUntouched.Frames.{some-is}
use Rattle.nofs_model.specs.declared.image.path.PathAnswer.TheVariants as answer
use Rattle.nofs_history.specs.Meta.{is_bytes}
use Rattle.nofs_history.specs.declared.machine.steps.Step.{Step}
use Rattle.nofs_history.specs.declared.machine.history.Claims.{Claims}
use Rattle.nofs_history.specs.History.{FilesMatch, SameFile}
use Rattle.nofs_history.specs.World.{World}
use Rattle.nofs_history.specs.Claims.{claimed_home, is_present, has_block, homes_after}
use Rattle.nofs_inode.specs.declared.inode.FileKind.{FileKind}
use Rattle.nofs_disk.specs.declared.tag.Pointer.{Pointer}
use Rattle.nofs_ptrs.specs.Paths.{slot_limit, Path, path_of, slot_of, is_pointer_slot, IsSlot}
use Rattle.nofs_model.specs.Geometry.{Image, super_at, inode}
use Rattle.nofs_disk.specs.Disk.{cell_at}
use Rattle.nofs_model.specs.Files.{file_from, files_in, agreed, NodeState, Absent, Present, node_in, FileState, Files}
use Rattle.nofs_model.specs.Slots.{value_in, find}
use Rattle.nofs_model.specs.Owners.{Home, home_at, owner}
use Rattle.nofs_model.specs.Files.{is_special}
use Rattle.nofs_model.specs.declared.image.value.Value.{Value}
use Rattle.nofs_model.specs.declared.image.value.Value.TheVariants.{Bytes, Hole}

eight-le : (n : ℕ) → leb 8 (8 + n) ≡ true
eight-le n = grind (arith, nat_tests)

far-pointers : (k : ℕ) → slot_limit ≤ k → IsSlot (path_of k) → is_pointer_slot (path_of k) ≡ true
far-pointers k le s = elim (cases_lt k (2 ^ 32 + 2)) [
  | inl lt ↦ subst (λ (q : Path). is_pointer_slot q ≡ true) (sym (path-record k le lt)) (eight-le (k - 2 ^ 32))
  | inr far ↦ subst (λ (q : Path). is_pointer_slot q ≡ true) (sym (path-child k far)) refl
]

-- an owner's slot holds the block
pub owner-houses : (X : Image) (p i k : ℕ) → owner X p ≡ Some (home_at i k) → Houses X (home_at i k) p
owner-houses X p i k e =
    let h = owner-holds X p i k e in
    let n = path_of-number k (owner-slot X p i k e) in
    record { path = path_of k; pointer = h.0; is_slot = n.0; slot = sym n.1; agreed = h.1; holds = h.2; block = h.3 }

-- and a slot that holds a block is its owner
pub houses-owner : (X : Image) (home : Home) (p : ℕ) → Houses X home p → owner X p ≡ Some home
houses-owner X home p h =
    let o = owner-of X home.inode h.path h.pointer h.is_slot h.agreed h.holds in
    let o' : owner X p ≡ Some (home_at home.inode (slot_of h.path)) =
    subst (λ (b : ℕ). owner X b ≡ Some (home_at home.inode (slot_of h.path))) h.block o in
    o' ∙ ap (λ (k : ℕ). Some (home_at home.inode k)) (sym h.slot)

-- What the machine says of a slot

bytes-held : (X : Image) (f : PathAnswer) → is_bytes (value_in X f) ≡ true → (y : Pointer) × (f ≡ answer.Holds y)
bytes-held X answer.Hole e = cc
bytes-held X (answer.Holds y) e = (y, refl)
bytes-held X answer.Lost e = cc

present-held : (f : PathAnswer) → is_present (node_in f) ≡ true → (y : Pointer) × (f ≡ answer.Holds y)
present-held answer.Hole e = cc
present-held (answer.Holds y) e = (y, refl)
present-held answer.Lost e = cc

-- the test by the file
abbrev block_in : Option FileState → ℕ → Bool → Bool
block_in o k t = cond t (is_bytes (elim o [ None ↦ Hole | Some f ↦ f.values k ]))
    (is_present (elim o [ None ↦ Absent | Some f ↦ f.nodes (path_of k) ]))

no-file : (k : ℕ) (t : Bool) → block_in None k t ≡ false
no-file k true = refl
no-file k false = refl

module _ (E : Files) (Y : Image) (match : FilesMatch E Y) (i k : ℕ) where
  some-of : (o : Option FileState) (t : Bool) → block_in o k t ≡ true → is_some o ≡ true
  some-of None t e = let z = no-file k t in cc (z, e)
  some-of (Some f) t e = refl

  same-here : agreed (files_in Y) i ≡ true → (f : FileState) → E i ≡ Some f
      → (kind : FileKind) × SameFile (Some f) (file_from Y i (Some kind))
  same-here a f is =
      go (inode Y i).kind refl (subst (λ (o : Option FileState). SameFile o (files_in Y i)) is (same-of E Y i match a))
    where
      go : (o : Option FileKind) → (inode Y i).kind ≡ o → SameFile (Some f) (file_from Y i o)
          → (kind : FileKind) × SameFile (Some f) (file_from Y i (Some kind))
      go None e h = absurd h
      go (Some kind) e h = (kind, h)

  -- a slot that has its block in the machine holds in the image
  pub has-holds : IsSlot (path_of k) → has_block E (home_at i k) ≡ true
      → (agreed (files_in Y) i ≡ true) × ((y : Pointer) × (find Y i (path_of k) ≡ answer.Holds y))
  has-holds slot h =
      let m = matched-file E Y i match (some-of (E i) (ltb k slot_limit) h) in
      let s = same-here m.agreed m.file m.is in (
        m.agreed,
        go (cases_lt k slot_limit) m.file
            (subst (λ (o : Option FileState). block_in o k (ltb k slot_limit) ≡ true) m.is h) s.0 s.1,
      )
    where
      go : (k < slot_limit) ⊎ (slot_limit ≤ k)
          → (f : FileState) → block_in (Some f) k (ltb k slot_limit) ≡ true → (kind : FileKind)
          → SameFile (Some f) (file_from Y i (Some kind)) → (y : Pointer) × (find Y i (path_of k) ≡ answer.Holds y)
      go (inl lt) f e kind s = bytes-held Y (find Y i (path_of k))
          (subst (λ (v : Value). is_bytes v ≡ true) (s.values k lt)
          (subst (λ (b : Bool). block_in (Some f) k b ≡ true) (lt-ltb k slot_limit lt) e))
      go (inr le) f e kind s = present-held (find Y i (path_of k))
          (subst (λ (v : NodeState). is_present v ≡ true) (s.nodes (path_of k) slot (far-pointers k le slot))
          (subst (λ (b : Bool). block_in (Some f) k b ≡ true) (le-ltb k slot_limit le) e))

  -- and the other way
  pub holds-has : (y : Pointer) → IsSlot (path_of k)
      → agreed (files_in Y) i ≡ true → find Y i (path_of k) ≡ answer.Holds y → has_block E (home_at i k) ≡ true
  holds-has y slot a e =
      let m = matched-agreed E Y i match (find-held Y i (path_of k) y e).agrees.live a in
      let s = same-here a m.file m.is in
      subst (λ (o : Option FileState). block_in o k (ltb k slot_limit) ≡ true) (sym m.is)
      (go (cases_lt k slot_limit) m.file s.0 s.1)
    where
      go : (k < slot_limit) ⊎ (slot_limit ≤ k)
          → (f : FileState) → (kind : FileKind) → SameFile (Some f) (file_from Y i (Some kind))
          → block_in (Some f) k (ltb k slot_limit) ≡ true
      go (inl lt) f kind s =
          let v : f.values k ≡ Bytes (cell_at Y y.block).payload = s.values k lt
          ∙ ap (λ (q : PathAnswer). value_in Y q) e in
          subst (λ (b : Bool). block_in (Some f) k b ≡ true) (sym (lt-ltb k slot_limit lt))
          (subst (λ (w : Value). is_bytes w ≡ true) (sym v) refl)
      go (inr le) f kind s =
          let v : f.nodes (path_of k) ≡ Present = s.nodes (path_of k) slot (far-pointers k le slot) ∙ ap node_in e in
          subst (λ (b : Bool). block_in (Some f) k b ≡ true) (sym (le-ltb k slot_limit le))
          (subst (λ (w : NodeState). is_present w ≡ true) (sym v) refl)

-- One step

abbrev next_home : Option Home → Option Home → (Home → Bool) → Option Home
next_home o q test =
    elim o [ None ↦ elim q [ None ↦ None | Some home ↦ cond (test home) (Some home) None ] | Some home ↦ Some home ]

same-block : (x y : Pointer) → answer.Holds x ≡ answer.Holds y → x.block ≡ y.block
same-block x y e = let s : x ≡ y = cc e in ap (λ (p : Pointer). p.block) s

some-none : {A : Type 0} → (o : Option A) (x : A) → o ≡ None → o ≡ Some x → ⊥
some-none o x n s = cc (n, s)

module _ (F E : Files) (step : Step) (c : Claims) (X Y : Image) (move : HomesMove F step c X Y)
    (match : FilesMatch E Y) (p : ℕ)
    (free : claimed_home F step c p ≡ None) where
  pub back : (home : Home) → owner Y p ≡ Some home → owner X p ≡ Some home
  back home e =
      let h = owner-houses Y p home.inode home.slot e in
      elim (move.held home.inode h.path h.pointer h.is_slot h.agreed h.holds) [
        | inl m ↦ houses-owner X home p
            (record {
              agreed = m.0;
              holds = m.1;
              path = h.path;
              pointer = h.pointer;
              is_slot = h.is_slot;
              slot = h.slot;
              block = h.block;
            })
        | inr m ↦ absurd (none (claimed_home F step c p) free
            (subst (λ (b : ℕ). is_some (claimed_home F step c b) ≡ true) h.block m.0))
      ]
    where
      none : (o : Option Home) → o ≡ None → is_some o ≡ true → ⊥
      none None n s = cc s
      none (Some x) n s = cc n

  slot-path : (home : Home) (h : Houses X home p) → path_of home.slot ≡ h.path
  slot-path home h = ap path_of h.slot ∙ path_of-slot_of h.path h.is_slot

  pub forth : (home : Home) → owner X p ≡ Some home → has_block E home ≡ true → owner Y p ≡ Some home
  forth home e has =
      let h = owner-houses X p home.inode home.slot e in
      let ep = slot-path home h in
      let r = has-holds E Y match home.inode home.slot (subst IsSlot (sym ep) h.is_slot) has in
      let held : find Y home.inode h.path ≡ answer.Holds r.1.0 =
      subst (λ (q : Path). find Y home.inode q ≡ answer.Holds r.1.0) ep r.1.1 in
      elim (move.held home.inode h.path r.1.0 h.is_slot r.0 held) [
        | inl m ↦ houses-owner Y home p (record {
          path = h.path;
          pointer = r.1.0;
          is_slot = h.is_slot;
          slot = h.slot;
          agreed = r.0;
          holds = held;
          block =
              same-block r.1.0 h.pointer (sym m.1 ∙ h.holds) ∙ h.block;
        })
        | inr m ↦ absurd (m.1 h.pointer h.holds)
      ]

  has-it : (home : Home) → owner Y p ≡ Some home → has_block E home ≡ true
  has-it home e =
      let h = owner-houses Y p home.inode home.slot e in
      let ep : path_of home.slot ≡ h.path = ap path_of h.slot ∙ path_of-slot_of h.path h.is_slot in
      holds-has E Y match home.inode home.slot h.pointer (subst IsSlot (sym ep) h.is_slot) h.agreed
      (subst (λ (q : Path). find Y home.inode q ≡ answer.Holds h.pointer) (sym ep) h.holds)

  kept : (q : Option Home) → q ≡ owner X p → next_home None q (has_block E) ≡ owner Y p
  kept None e = go (owner Y p) refl
    where
      go : (r : Option Home) → owner Y p ≡ r → None ≡ owner Y p
      go None er = sym er
      go (Some home) er = absurd (some-none (owner X p) home (sym e) (back home er))
  kept (Some home) e = by-test (has_block E home) refl
    where
      one : (other : Home) → owner Y p ≡ Some other → has_block E home ≡ true
      one other er =
          let s : Some other ≡ Some home = sym (back other er) ∙ sym e in
          let same : other ≡ home = cc s in
          subst (λ (q : Home). has_block E q ≡ true) same (has-it other er)

      by-test : (t : Bool) → has_block E home ≡ t → cond (has_block E home) (Some home) None ≡ owner Y p
      by-test true et = rw et (sym (forth home (sym e) et))
      by-test false et = rw et (go (owner Y p) refl)
        where
          go : (r : Option Home) → owner Y p ≡ r → None ≡ owner Y p
          go None er = sym er
          go (Some other) er = let z = one other er in absurd (cc (z, et))

step-homes : (W : World) (E : Files) (step : Step) (c : Claims) (X Y : Image) → HomesMove W.files step c X Y
    → FilesMatch E Y → (p : ℕ)
    → W.homes p ≡ owner X p → homes_after W step c E p ≡ owner Y p
step-homes W E step c X Y move match p eh = go (claimed_home W.files step c p) refl
  where
    go : (o : Option Home) → claimed_home W.files step c p ≡ o
        → next_home (claimed_home W.files step c p) (W.homes p) (has_block E) ≡ owner Y p
    go None e = ap (λ (o : Option Home). next_home o (W.homes p) (has_block E)) e
        ∙ kept W.files E step c X Y move match p e (W.homes p) eh
    go (Some home) e = ap (λ (o : Option Home). next_home o (W.homes p) (has_block E)) e
        ∙ sym (houses-owner Y home p (move.claimed p home e))

pub law-homes : LawHomes
law-homes W V step c X Y homes before move blocks eh match p lt =
    let ltw : p < W.blocks = subst (λ (n : ℕ). p < n) blocks lt in
    ap (λ (h : ℕ → Option Home). h p) eh ∙ step-homes W V.files step c X Y move match p (homes p ltw)

-- The verdicts of the machine are those of the scan

pub uses-inode : (F : Files) (Y : Image) → FilesMatch F Y → (i : ℕ) → is_some (F i) ≡ agreed (files_in Y) i
uses-inode F Y match i = go (is_some (F i)) refl (agreed (files_in Y) i) refl
  where
    go : (a : Bool) → is_some (F i) ≡ a → (b : Bool) → agreed (files_in Y) i ≡ b → is_some (F i) ≡ agreed (files_in Y) i
    go true ea b eb = let m = (matched-file F Y i match ea).agreed in ea ∙ sym m
    go false ea false eb = ea ∙ sym eb
    go false ea true eb =
        let m = matched-agreed F Y i match
        (live-some Y i (agreed-some (files_in Y) i (agreed-holds (files_in Y) i eb))) eb in
        let s = some-is (F i) m.file m.is in
        absurd (cc (ea, s))

pub law-good : LawGood
law-good V Y numbers match homes = record {
  numbers = numbers;
  files = match;
  homes = homes;
  inodes = λ i. refl;
  blocks = λ p. refl;
  inode_verdicts = λ i k. ap (λ (t : Bool). not (is_special i || t)) (uses-inode V.files Y match i);
  block_verdicts = λ p lt k.
      let a = ap (λ (n : ℕ). not (leb p (n / 4) || is_some (V.homes p))) numbers.inodes in
      let b = ap (λ (o : Option Home). not (leb p ((super_at Y).inodes / 4) || is_some o)) (homes p lt) in
      a ∙ b;
}
