-- The homes after a Resize: the blocks of what is cut have none, and all others keep theirs.
use Rattle.std.proofs.Common.{◌≡◌, ◌≢◌, ℕ, ◌+◌, ◌-◌, ◌/◌, ◌^◌, ◌<◌, ◌≤◌, ◌⊎◌, inl, inr, Bool, true, false, cond, leb}
use Rattle.std.proofs.Common.{ltb, leb-true, ltb-true, lt-ltb, ◌&&◌}
use Rattle.std.proofs.Common.{◌||◌, not, List, Option, Some, None, is_some, refl, sym, ap, ◌∙◌, subst, arith}
use Rattle.std.proofs.lemmas.Bool.{cases_eq, cases_lt, le-leb, and_parts}
use Rattle.std.proofs.lemmas.Bool.Decides.{nat_tests}
use Rattle.std.proofs.lemmas.List.{get_or_past}
use Rattle.nofs_ptrs.specs.Paths.{slot_limit, Path, path_of, is_pointer_slot, is_slot, IsSlot}
use Rattle.nofs_bits.specs.Bits.{is_set}
use Rattle.nofs_disk.specs.declared.tag.Pointer.{Pointer}
use Rattle.nofs_model.specs.Geometry.{Image}
use Rattle.nofs_model.specs.Slots.{find, value_in}
use Rattle.nofs_model.specs.Files.{node_in, FileState, Files, Absent}
use Rattle.nofs_model.specs.Owners.{Home, home_at, owner}
use Rattle.nofs_model.specs.declared.image.path.PathAnswer.{PathAnswer}
use Rattle.nofs_model.specs.declared.image.path.PathAnswer.TheVariants as answer
use Rattle.nofs_model.specs.declared.image.value.Value.TheVariants.{Hole}
use Rattle.nofs_model.proofs.OnOwners.Slots.{owner-of, owner-holds, owner-slot}
use Rattle.nofs_model.proofs.OnSlots.Paths.{path_of-number, path-record, path-child}
use Rattle.nofs_history.specs.Meta.{is_bytes}
use Rattle.nofs_history.specs.Machine.{resize_given, files_after}
use Rattle.nofs_history.specs.World.{is_fixed}
use Rattle.nofs_history.specs.Claims.{no_claims, next_stamp, has_block, homes_after, is_present}
use Rattle.nofs_history.specs.History.{FilesMatch}
use Rattle.nofs_history.specs.declared.machine.steps.Step.TheVariants as step
use Rattle.nofs_crashlaw.specs.Files.Resizes.{is_cut}
use Rattle.nofs_crashlaw.proofs.OnFiles.Resizes.{cut-slot, found, resize-made, resize-new, resize-gives}
use Rattle.nofs_crashlaw.proofs.OnFiles.Resizes.{law-resize-files}
use Rattle.nofs_crashlaw.proofs.OnUntouched.Agreement.{file-in}
use Rattle.nofs_state.proofs.OnCores.Replies.{home-has}
use Rattle.nofs_files.specs.Resizes.{IsCutMap, first_cut, kept_slots}
use Rattle.nofs_files.proofs.OnPuts.Unchanged.{file-stays}
use Rattle.nofs_files.proofs.OnResizes.Slots.{cut-from, from-cut, lt-leb}
use Rattle.nofs_files.proofs.OnResizes.Image.{Resizing, Y, match, own, file, generation, same-cut}
use Rattle.nofs_files.proofs.OnResizes.Pointers.{lies}

-- whether a slot has its block, by the file
abbrev block_in : Option FileState → ℕ → Bool
block_in o q = cond (ltb q slot_limit) (is_bytes (elim o [ None ↦ Hole | Some f ↦ f.values q ]))
    (is_present (elim o [ None ↦ Absent | Some f ↦ f.nodes (path_of q) ]))

has-block-in : (F : Files) (home : Home) → has_block F home ≡ block_in (F home.inode) home.slot
has-block-in F home = refl

-- the number of a slot is that of content, or of a block of pointers
slot-cases : (q : ℕ) → is_slot q ≡ true → (q < slot_limit) ⊎ ((2 ^ 32 ≤ q) × (q < 2 ^ 32 + 66))
slot-cases q s = go (ltb q slot_limit) refl s
  where
    go : (b : Bool) → ltb q slot_limit ≡ b → (b || (leb (2 ^ 32) q && ltb q (2 ^ 32 + 66))) ≡ true → (q < slot_limit)
        ⊎ ((2 ^ 32 ≤ q) × (q < 2 ^ 32 + 66))
    go true e t = inl (ltb-true q slot_limit e)
    go false e t = let p = and_parts (leb (2 ^ 32) q) (ltb q (2 ^ 32 + 66)) t in
        inr (leb-true (2 ^ 32) q p.0, ltb-true q (2 ^ 32 + 66) p.1)

low-slot : (q : ℕ) → q < slot_limit → is_slot q ≡ true
low-slot q low = let l = lt-ltb q slot_limit low in rw l refl

high-slot : (q : ℕ) → 2 ^ 32 ≤ q → q < 2 ^ 32 + 66 → is_slot q ≡ true
high-slot q low high = right (ltb q slot_limit) (leb (2 ^ 32) q && ltb q (2 ^ 32 + 66))
    (both (leb (2 ^ 32) q) (ltb q (2 ^ 32 + 66)) (le-leb (2 ^ 32) q low) (lt-ltb q (2 ^ 32 + 66) high))
  where
    both : (a b : Bool) → a ≡ true → b ≡ true → (a && b) ≡ true
    both true b ea eb = eb
    both false b ea eb = cc ea

    right : (a b : Bool) → b ≡ true → (a || b) ≡ true
    right true b e = refl
    right false b e = e

first-high : (m : ℕ) → 2 ^ 32 ≤ first_cut m
first-high m = go (leb m 8) (leb m 72)
  where
    go : (a b : Bool) → 2 ^ 32 ≤ cond a (2 ^ 32) (cond b (2 ^ 32 + 1) (2 ^ 32 + 2 + (m - 9) / 64))
    go true b = omega arith
    go false true = omega arith
    go false false = omega arith

module _ (resizing : Resizing) (freed : List Bool)
    (map : IsCutMap resizing.old resizing.k.at resizing.i (kept_slots resizing.r.size resizing.size) freed) where
  open resizing use {old, k, p, i, g, size, r, tells, o, h}

  abbrev F : Files
  F = p.world.files

  abbrev G : Files
  G = files_after p.world.files (resize_given p.world.files i g size)

  abbrev Z : Image
  Z = Y resizing

  f : FileState
  f = (own resizing).file

  pub files : FilesMatch G (Y resizing)
  files = law-resize-files F old.now Z i g size
      (own resizing).file (next_stamp p.world)
      (lies resizing)

  pub new : G i ≡ Some (resize-made F i g size (own resizing).file
      (own resizing).is
      (generation resizing)
      (file resizing))
  new = resize-new F i g size (own resizing).file
      (own resizing).is
      (generation resizing)
      (file resizing)

  -- what stands in a slot of the file after the step
  found-now : (a : Path) → IsSlot a → (is_cut (kept_slots r.size size) a ≡ true → find Z i a ≡ answer.Hole) ×
      (is_cut (kept_slots r.size size) a ≡ false → find Z i a ≡ find old.now i a)
  found-now a s = let b = found F old.now Z i g size
      (own resizing).file (next_stamp p.world)
      (lies resizing) a s in (
        λ t. b.0 (same-cut resizing a ∙ t),
        λ t. b.1
            (same-cut resizing a ∙ t),
      )

  -- a slot of the file has its block exactly where it isn't cut
  pub has-uncut : (q : ℕ) (x : Pointer) → is_slot q ≡ true → find old.now i (path_of q) ≡ answer.Holds x
      → has_block G (home_at i q) ≡ not (is_cut (kept_slots r.size size) (path_of q))
  has-uncut q x s held = ap (λ (w : Option FileState). block_in w q) new ∙ (elim (slot-cases q s) [
    | inl low ↦ in-content low
    | inr high ↦ in-pointers high.0
  ])
    where
      slot : IsSlot (path_of q)
      slot = (path_of-number q s).0

      made : FileState
      made = resize-made F i g size (own resizing).file
          (own resizing).is
          (generation resizing)
          (file resizing)

      by-cut : (P : PathAnswer → Bool) → P answer.Hole ≡ false → P (answer.Holds x) ≡ true → (t : Bool)
          → is_cut (kept_slots r.size size) (path_of q) ≡ t
          → P (find Z i (path_of q)) ≡ not t
      by-cut P hole holds true e = ap P ((found-now (path_of q) slot).0 e) ∙ hole
      by-cut P hole holds false e = ap P ((found-now (path_of q) slot).1 e ∙ held) ∙ holds

      in-content : q < slot_limit → block_in (Some made) q ≡ not (is_cut (kept_slots r.size size) (path_of q))
      in-content low =
          let t = lt-ltb q slot_limit low in
          ap (λ (b : Bool). cond b (is_bytes (made.values q)) (is_present (made.nodes (path_of q)))) t
          ∙ ap is_bytes ((file-in G Z i made files new).1.values q low)
          ∙ by-cut (λ (w : PathAnswer). is_bytes (value_in Z w)) refl refl
          (is_cut (kept_slots r.size size) (path_of q)) refl

      pointer-slot : 2 ^ 32 ≤ q → is_pointer_slot (path_of q) ≡ true
      pointer-slot high = elim (cases_lt q (2 ^ 32 + 2)) [
        | inl few ↦ ap is_pointer_slot (path-record q (omega (arith, high)) few)
            ∙ le-leb 8 (8 + (q - 2 ^ 32)) (omega arith)
        | inr many ↦ ap is_pointer_slot (path-child q many)
      ]

      in-pointers : 2 ^ 32 ≤ q → block_in (Some made) q ≡ not (is_cut (kept_slots r.size size) (path_of q))
      in-pointers high =
          let t : ltb q slot_limit ≡ false = not-low high in
          ap (λ (b : Bool). cond b (is_bytes (made.values q)) (is_present (made.nodes (path_of q)))) t
          ∙ ap is_present ((file-in G Z i made files new).1.nodes (path_of q) slot (pointer-slot high))
          ∙ by-cut (λ (w : PathAnswer). is_present (node_in w))
          refl refl (is_cut (kept_slots r.size size) (path_of q)) refl
        where
          not-low : 2 ^ 32 ≤ q → ltb q slot_limit ≡ false
          not-low e = lt-no q slot_limit (omega (arith, e))
            where
              lt-no : (a b : ℕ) → b ≤ a → ltb a b ≡ false
              lt-no a b l = grind (arith, nat_tests)

  -- another file keeps what it has
  has-other : (home : Home) → home.inode ≢ i → has_block G home ≡ has_block F home
  has-other home ne =
      ap (λ (w : Option FileState). block_in w home.slot) (file-stays F (resize_given F i g size) home.inode
      ((resize-gives F i g size (own resizing).file
      (own resizing).is
      (generation resizing)
      (file resizing)).elsewhere home.inode ne))

  -- a block that is freed is that of a slot that is cut
  freed-slot : (q : ℕ) → is_set freed q ≡ true → (n : ℕ) × (x : Pointer) × (is_slot n ≡ true)
      × (is_cut (kept_slots r.size size) (path_of n) ≡ true) ×
      (find old.now i (path_of n) ≡ answer.Holds x) × (x.block ≡ q)
  freed-slot q t = elim (map.sound tells q t) [
    | inl (n, x, from, low, held, e) ↦ (
      n,
      x,
      low-slot n low,
      cut-slot (kept_slots r.size size) n low ∙ le-leb (kept_slots r.size size) n from,
      held,
      e,
    )
    | inr (n, x, from, high, held, e) ↦
        let f = first-high (kept_slots r.size size) in
        let l : 2 ^ 32 ≤ n = omega (arith, f, from) in
        (n, x, high-slot n l high, cut-from (kept_slots r.size size) n l high from, held, e)
  ]

  pub freed-owner : (q : ℕ) → is_set freed q ≡ true → (n : ℕ) × (owner old.now q ≡ Some (home_at i n))
      × (is_slot n ≡ true) ×
      (is_cut (kept_slots r.size size) (path_of n) ≡ true)
  freed-owner q t =
      let (n, x, s, cut, held, e) = freed-slot q t in
      let z = path_of-number n s in (
        n,
        ap (owner old.now) (sym e) ∙ owner-of old.now i (path_of n) x z.0 h.agrees held
            ∙ ap (λ (w : ℕ). Some (home_at i w)) z.1,
        s,
        cut,
      )

  -- and each such block is freed
  cut-freed : (n : ℕ) (x : Pointer) → is_slot n ≡ true → is_cut (kept_slots r.size size) (path_of n) ≡ true
      → find old.now i (path_of n) ≡ answer.Holds x
      → is_set freed x.block ≡ true
  cut-freed n x s cut held = elim (slot-cases n s) [
    | inl low ↦ map.contents tells n x
        (leb-true (kept_slots r.size size) n (sym (cut-slot (kept_slots r.size size) n low) ∙ cut)) low held
    | inr high ↦ map.pointers tells n x (from-cut (kept_slots r.size size) n high.0 high.1 cut) high.1 held
  ]

  freed-low : (q : ℕ) → is_set freed q ≡ true → q < k.at.blocks
  freed-low q t = elim (cases_lt q k.at.blocks) [
    | inl low ↦ low
    | inr high ↦ absurd (let z : is_set freed q ≡ false =
        get_or_past freed q false (let s = map.size in omega (arith, s, high)) in cc (t, z))
  ]

  blocks-are : p.world.blocks ≡ k.at.blocks
  blocks-are = o.says.blocks

  home-owner : (q : ℕ) (home : Home) → p.world.homes q ≡ Some home → owner old.now q ≡ Some home
  home-owner q home e = elim (cases_lt q p.world.blocks) [
    | inl low ↦ sym (o.homes q low) ∙ e
    | inr past ↦ absurd (let z = o.homes_past q past in cc (z, e))
  ]

  pub freed-home : (q : ℕ) → is_set freed q ≡ true → (n : ℕ) × (p.world.homes q ≡ Some (home_at i n))
      × (is_slot n ≡ true) ×
      (is_cut (kept_slots r.size size) (path_of n) ≡ true)
  freed-home q t = let (n, e, s, c) = freed-owner q t in
      (n, o.homes q (subst (λ (b : ℕ). q < b) (sym blocks-are) (freed-low q t)) ∙ e, s, c)

  abbrev after : ℕ → Option Home
  after q = homes_after p.world (step.Resize i g size) no_claims G q

  after-is : (q : ℕ) → homes_after p.world (step.Resize i g size) no_claims G q ≡
      (elim (p.world.homes q) as
      (λ (_ : Option Home). Option Home) [ None ↦ None | Some home ↦ cond (has_block G home) (Some home) None ])
  after-is q = refl

  after-at : (q : ℕ) (home : Home) → p.world.homes q ≡ Some home
      → homes_after p.world (step.Resize i g size) no_claims G q ≡ cond (has_block G home) (Some home) None
  after-at q home e = after-is q ∙ ap (λ (w : Option Home). elim w as (λ (_ : Option Home). Option Home)
      [ None ↦ None | Some home ↦ cond (has_block G home) (Some home) None ]) e

  -- the block of what is cut has no home
  pub gone : (q : ℕ) → is_set freed q ≡ true → (homes_after p.world (step.Resize i g size) no_claims G q ≡ None)
      × (is_some (p.world.homes q) ≡ true)
  gone q t =
      let (n, e, s, cut) = freed-home q t in
      let (x, agreed-it, held, b) = owner-holds old.now q i n (home-owner q (home_at i n) e) in (
        after-at q (home_at i n) e
            ∙ ap (λ (z : Bool). cond z (Some (home_at i n)) None) (has-uncut n x s held ∙ ap not cut),
        ap is_some e,
      )

  -- and every other keeps its own
  pub kept : (q : ℕ)
      → is_set freed q ≡ false → homes_after p.world (step.Resize i g size) no_claims G q ≡ p.world.homes q
  kept q t = go (p.world.homes q) refl
    where
      at : (home : Home) → p.world.homes q ≡ Some home → (home.inode ≡ i) ⊎ (home.inode ≢ i) → has_block G home ≡ true
      at home e (inr other) = has-other home other
          ∙ home-has p.world old.now (match resizing) o.homes o.homes_past
          q home e
      at home e (inl here) =
          let w = owner-holds old.now q home.inode home.slot (home-owner q home e) in
          let s = owner-slot old.now q home.inode home.slot (home-owner q home e) in
          let held : find old.now i (path_of home.slot) ≡ answer.Holds w.0 =
          subst (λ (n : ℕ). find old.now n (path_of home.slot) ≡ answer.Holds w.0) here w.2
          in
          ap (λ (n : ℕ). has_block G (home_at n home.slot)) here ∙ has-uncut home.slot w.0 s held ∙ uncut
          (is_cut (kept_slots r.size size) (path_of home.slot)) refl w.0 s held w.3
        where
          uncut : (c : Bool) → is_cut (kept_slots r.size size) (path_of home.slot) ≡ c → (x : Pointer)
              → is_slot home.slot ≡ true
              → find old.now i (path_of home.slot) ≡ answer.Holds x
              → x.block ≡ q → not (is_cut (kept_slots r.size size) (path_of home.slot)) ≡ true
          uncut false ec x s held b = ap not ec
          uncut true ec x s held b = absurd (let z = cut-freed home.slot x s ec held in
              let y : is_set freed q ≡ true = ap (is_set freed) (sym b) ∙ z in cc
              (y, t))

      go : (w : Option Home)
          → p.world.homes q ≡ w → homes_after p.world (step.Resize i g size) no_claims G q ≡ p.world.homes q
      go None e = after-is q ∙ ap (λ (w : Option Home). elim w as (λ (_ : Option Home). Option Home)
          [ None ↦ None | Some home ↦ cond (has_block G home) (Some home) None ]) e ∙ sym e
      go (Some home) e = after-at q home e
          ∙ ap (λ (z : Bool). cond z (Some home) None) (at home e (cases_eq home.inode i)) ∙ sym e

  -- a block that is freed is not fixed
  pub moves : (q : ℕ) → is_set freed q ≡ true → is_fixed p.world q ≡ false
  moves q t = let a = map.in_area q t in lt-leb q (p.world.inodes / 4) (let e = o.says.inodes in omega (arith, a, e))
