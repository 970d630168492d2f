-- A step with which one inode goes: what it used is free, and known to be.
use Rattle.std.proofs.Common.{◌≡◌, ◌≢◌, ℕ, ◌-◌, ◌<◌, ◌≤◌, ◌⊎◌, Bool, true, false, cond, ltb, eqb, eq-eqb, ◌&&◌}
use Rattle.std.proofs.Common.{◌||◌, not, Option, Some, None, is_some, inl, inr, refl, sym, ap, ◌∙◌, subst, arith}
use Rattle.nofs_agree.specs.Chain.{known_agreement}
use Rattle.std.proofs.lemmas.Bool.{cases_eq, ne_eqb}
use Rattle.std.proofs.Math.Bool.{or-false, or-true}
use Rattle.nofs_ptrs.specs.Paths.{slot_limit}
use Rattle.nofs_bits.specs.Bits.{is_set}
use Rattle.nofs_super.specs.declared.superblock.SuperBlock.{SuperBlock}
use Rattle.nofs_model.specs.Geometry.{Image}
use Rattle.nofs_model.specs.Files.{is_special, FileState, Files}
use Rattle.nofs_model.specs.Owners.{Home}
use Rattle.nofs_history.specs.Machine.{gives, files_after}
use Rattle.nofs_history.specs.World.{World, is_fixed, blocks_needed, inodes_needed, uses_inode, uses_block}
use Rattle.nofs_history.specs.World.{is_free_block}
use Rattle.nofs_history.specs.Claims.{no_claims, has_block, homes_after, claimed_home, IsClaim}
use Rattle.nofs_history.specs.History.{FilesMatch}
use Rattle.nofs_history.specs.Next.{Learns, sees_inode, sees_block}
use Rattle.nofs_history.specs.declared.machine.steps.Step.{Step}
use Rattle.nofs_crashlaw.specs.Maps.Homes.{HomesMatch}
use Rattle.nofs_state.specs.Books.Maps.{Says, knows_inode, knows_block}
use Rattle.nofs_state.specs.declared.books.maps.Books.{Books}
use Rattle.nofs_state.proofs.OnCores.Done.{after_world}
use Rattle.nofs_state.proofs.OnCores.Replies.{home-has}
use Rattle.nofs_names.proofs.OnSteps.OpenMount.{Follows}
use Rattle.nofs_names.specs.Drops.Removal.{is_of}
use Rattle.nofs_names.proofs.OnSteps.NoClaims.{block_in, no-claim}

-- what a step owes with which inode i goes
pub record IsLeaving (W : World) (s : Step) (G : Files) (i : ℕ) : Type 0 where
  pub no_inode : inodes_needed s ≡ 0
  pub no_block : blocks_needed W.files s ≡ 0
  pub none_claimed : (q : ℕ) → claimed_home W.files s no_claims q ≡ None
  pub files : files_after W.files (gives W.files s no_claims) ≡ G
  pub gone : G i ≡ None
  pub was : is_some (W.files i) ≡ true
  pub plain : is_special i ≡ false
  pub used : (j : ℕ) → j ≢ i → is_some (G j) ≡ is_some (W.files j)
  pub blocks : (home : Home) → home.inode ≢ i → has_block W.files home ≡ true → has_block G home ≡ true
  -- a block that has a home is not fixed
  pub moving : (q : ℕ) → is_of i (W.homes q) ≡ true → is_fixed W q ≡ false
  pub sees_no_inode : (j : ℕ) → sees_inode s j ≡ false
  pub sees_no_block : (q : ℕ) → sees_block s q ≡ false

-- the maps after it: the inode and its blocks are known and free
pub record Freed (k l : Books) (i : ℕ) (owned : ℕ → Bool) : Type 0 where
  pub at : l.at ≡ k.at
  pub serial : l.serial ≡ k.serial
  pub stopped : l.stopped ≡ k.stopped
  pub known_inodes : (j : ℕ) → knows_inode l j ≡ (knows_inode k j || eqb j i)
  pub known_blocks : (q : ℕ) → knows_block l q ≡ (knows_block k q || owned q)
  pub free_inodes : (j : ℕ)
      → 1 ≤ j → j ≤ k.at.inodes → is_set l.free_inodes (j - 1) ≡ (is_set k.free_inodes (j - 1) || eqb j i)
  pub free_blocks : (q : ℕ) → q < k.at.blocks → is_set l.free_blocks q ≡ (is_set k.free_blocks q || owned q)
  pub agreement : (j : ℕ) (a : Bool) → known_agreement l.agreement j ≡ Some a
      → (j ≢ i) × (known_agreement k.agreement j ≡ Some a)

pub leaving-claim : (W : World) (s : Step) (G : Files) (i : ℕ) → IsLeaving W s G i → IsClaim W s no_claims
leaving-claim W s G i leaving = no-claim W s leaving.no_inode leaving.no_block

module _ (X : Image) (k l : Books) (W : World) (s : Step) (G : Files) (i : ℕ) (says : Says k W)
    (match : FilesMatch W.files X) (homes : HomesMatch W X)
    (past : (b : ℕ) → W.blocks ≤ b → W.homes b ≡ None)
    (leaving : IsLeaving W s G i) (freed : Freed k l i (λ q. is_of i (W.homes q))) where
  abbrev V : World
  V = after_world W s no_claims l

  -- the files and homes after it

  V-file : (j : ℕ) → is_some (V.files j) ≡ is_some (G j)
  V-file j = λ q. is_some (leaving.files q j)

  file-gone : is_some (V.files i) ≡ false
  file-gone = V-file i ∙ ap is_some leaving.gone

  no-block : (home : Home) → home.inode ≡ i → has_block V.files home ≡ false
  no-block home e = (λ q. has_block (leaving.files q) home)
      ∙ subst (λ (o : Option FileState). block_in o home.slot ≡ false) (sym (ap G e ∙ leaving.gone))
      (both (ltb home.slot slot_limit))
    where
      both : (b : Bool) → cond b false false ≡ false
      both true = refl
      both false = refl

  homes-go : (q : ℕ) → V.homes q ≡ cond (is_of i (W.homes q)) None (W.homes q)
  homes-go q = rw (leaving.none_claimed q, homes_after) (go (W.homes q) refl)
    where
      at : (home : Home) → W.homes q ≡ Some home → (home.inode ≡ i) ⊎ (home.inode ≢ i)
          → cond (has_block V.files home) (Some home) None ≡ cond (eqb home.inode i) None (Some home)
      at home e (inl own) = let b = no-block home own in let t = eq-eqb home.inode i own in rw (b, t) refl
      at home e (inr other) =
          let b : has_block V.files home ≡ true = subst (λ (F : Files). has_block F home ≡ true) (sym leaving.files)
          (leaving.blocks home other (home-has W X match homes past q home e)) in
          let t : eqb home.inode i ≡ false = ne_eqb home.inode i other in
          rw (b, t) refl

      go : (h : Option Home) → W.homes q ≡ h
          → (elim h as (λ (_ : Option Home). Option Home) [
            | None ↦ None
            | Some home ↦ cond (has_block V.files home) (Some home) None
          ]) ≡ cond (is_of i h)
          None h
      go None e = refl
      go (Some home) e = at home e (cases_eq home.inode i)

  -- what it used

  inode-gone : uses_inode V i ≡ false
  inode-gone = let a = file-gone in let p = leaving.plain in rw (p, a) refl

  inode-was : uses_inode W i ≡ true
  inode-was = let w = leaving.was in let p = leaving.plain in rw (p, w) refl

  inode-same : (j : ℕ) → j ≢ i → uses_inode V j ≡ uses_inode W j
  inode-same j ne = ap (λ (b : Bool). is_special j || b) (V-file j ∙ leaving.used j ne)

  block-gone : (q : ℕ) → is_of i (W.homes q) ≡ true → uses_block V q ≡ false
  block-gone q o = let h = homes-go q ∙ (λ j. cond (o j) None (W.homes q)) in
      let m = leaving.moving q o in rw (h, m) refl

  block-was : (q : ℕ) → is_of i (W.homes q) ≡ true → uses_block W q ≡ true
  block-was q o = let s = has-home (W.homes q) o in rw s (or-true (is_fixed W q))
    where
      has-home : (h : Option Home) → is_of i h ≡ true → is_some h ≡ true
      has-home None e = cc e
      has-home (Some home) e = refl

  block-same : (q : ℕ) → is_of i (W.homes q) ≡ false → uses_block V q ≡ uses_block W q
  block-same q o = ap (λ (h : Option Home). is_fixed W q || is_some h) (homes-go q ∙ (λ j. cond (o j) None (W.homes q)))

  differ : (a b : Bool) → a ≡ false → b ≡ true → a ≢ b
  differ a b ea eb e = cc (ea, eb, e)

  learns : Learns W s true V
  learns = record {
    inodes_stay = λ j kn. let a = sym (says.known_inodes j) ∙ kn in freed.known_inodes j ∙ (λ n. a n || eqb j i);
    blocks_stay = λ q kn. let a = sym (says.known_blocks q) ∙ kn in
        freed.known_blocks q ∙ (λ n. a n || is_of i (W.homes q));
    inodes_change = λ j ne. elim (cases_eq j i) [
      | inl here ↦ freed.known_inodes j ∙ (λ n. knows_inode k j || eq-eqb j i here n) ∙ or-true (knows_inode k j)
      | inr other ↦ absurd (ne (inode-same j other))
    ];
    blocks_change = λ q ne. block-case q (is_of i (W.homes q)) refl ne;
    inode_seen = λ t j e. absurd (let z = leaving.sees_no_inode j in cc (e, z));
    block_seen = λ t q e. absurd (let z = leaving.sees_no_block q in cc (e, z));
    inodes_why = λ j kn. elim (cases_eq j i) [
      | inl here ↦ inr (inr (inl (subst (λ (n : ℕ). uses_inode V n ≢ uses_inode W n) (sym here)
          (differ (uses_inode V i) (uses_inode W i) inode-gone inode-was))))
      | inr other ↦ inl (says.known_inodes j
          ∙ sym (freed.known_inodes j ∙ (λ n. knows_inode k j || ne_eqb j i other n) ∙ or-false (knows_inode k j)) ∙ kn)
    ];
    blocks_why = λ q kn. why-case q (is_of i (W.homes q)) refl kn;
  }
    where
      block-case : (q : ℕ) (b : Bool) → is_of i (W.homes q) ≡ b → uses_block V q ≢ uses_block W q
          → knows_block l q ≡ true
      block-case q true o ne = freed.known_blocks q ∙ (λ n. knows_block k q || o n) ∙ or-true (knows_block k q)
      block-case q false o ne = absurd (ne (block-same q o))

      why-case : (q : ℕ) (b : Bool) → is_of i (W.homes q) ≡ b → knows_block l q ≡ true
          → (W.known_blocks q ≡ true)
          ⊎ ((uses_block V q ≡ true) ⊎ ((uses_block V q ≢ uses_block W q) ⊎ ((true ≡ true) × (sees_block s q ≡ true))))
      why-case q true o kn = inr (inr (inl (differ (uses_block V q) (uses_block W q) (block-gone q o) (block-was q o))))
      why-case q false o kn = inl (says.known_blocks q
          ∙ sym (freed.known_blocks q ∙ (λ n. knows_block k q || o n) ∙ or-false (knows_block k q)) ∙ kn)

  said : Says l V
  said = record {
    version = says.version ∙ sym (ap (λ (q : SuperBlock). q.version) freed.at);
    blocks = says.blocks ∙ sym (ap (λ (q : SuperBlock). q.blocks) freed.at);
    inodes = says.inodes ∙ sym (ap (λ (q : SuperBlock). q.inodes) freed.at);
    mount = says.mount ∙ sym (ap (λ (q : SuperBlock). q.mount) freed.at);
    serial = (let a = leaving.no_inode in let n = leaving.no_block in let q = says.serial in let f = freed.serial in
        omega (arith, a, n, q, f));
    stopped = says.stopped ∙ sym freed.stopped;
    known_inodes = λ j. refl;
    known_blocks = λ q. refl;
    free_inodes = λ j a b. let top : j ≤ k.at.inodes =
        subst (λ (n : ℕ). j ≤ n) (ap (λ (q : SuperBlock). q.inodes) freed.at) b in elim (cases_eq j i) [
          | inl here ↦ freed.free_inodes j a top ∙ (λ n. is_set k.free_inodes (j - 1) || eq-eqb j i here n)
              ∙ or-true (is_set k.free_inodes (j - 1))
              ∙ sym
              ((λ n. (freed.known_inodes j ∙ (λ m. knows_inode k j || eq-eqb j i here m) ∙ or-true (knows_inode k j))
              n && not (uses_inode V (here n)))
              ∙ ap not inode-gone)
          | inr other ↦ freed.free_inodes j a top ∙ (λ n. is_set k.free_inodes (j - 1) || ne_eqb j i other n)
              ∙ or-false (is_set k.free_inodes (j - 1))
              ∙ says.free_inodes j a top
              ∙ (λ n. (says.known_inodes j
              ∙ sym (freed.known_inodes j ∙ (λ m. knows_inode k j || ne_eqb j i other m) ∙ or-false (knows_inode k j)))
              n
              && not (sym (inode-same j other) n))
        ];
    free_blocks = λ q lt. let low : q < k.at.blocks =
        subst (λ (n : ℕ). q < n) (ap (λ (q : SuperBlock). q.blocks) freed.at) lt in free-case q low
        (is_of i (W.homes q)) refl;
    agreement = λ j a t. let g = freed.agreement j a t in V-file j ∙ leaving.used j g.0 ∙ says.agreement j a g.1;
  }
    where
      free-case : (q : ℕ) → q < k.at.blocks → (b : Bool)
          → is_of i (W.homes q) ≡ b → is_set l.free_blocks q ≡ is_free_block V q
      free-case q low true o = freed.free_blocks q low ∙ (λ n. is_set k.free_blocks q || o n)
          ∙ or-true (is_set k.free_blocks q)
          ∙ sym ((λ n. (freed.known_blocks q ∙ (λ m. knows_block k q || o m) ∙ or-true (knows_block k q)) n
          && not (block-gone q o n)))
      free-case q low false o = freed.free_blocks q low ∙ (λ n. is_set k.free_blocks q || o n)
          ∙ or-false (is_set k.free_blocks q) ∙ says.free_blocks q low
          ∙ (λ n. (says.known_blocks q
          ∙ sym (freed.known_blocks q ∙ (λ m. knows_block k q || o m) ∙ or-false (knows_block k q))) n
          && not (sym (block-same q o) n))

  pub leaving-follows : Follows W s no_claims l
  leaving-follows = record { learns = learns; says = said }
