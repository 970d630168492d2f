-- A step that claims blocks for one slot, or none, and perhaps an inode: what was claimed is used, and known to be.
use Rattle.std.proofs.Common.{◌≡◌, ◌≢◌, ℕ, ◌+◌, ◌-◌, ◌<◌, ◌≤◌, Bool, true, false, cond, ltb, ◌&&◌, ◌||◌, not, List}
use Rattle.std.proofs.Common.{Option, Some, None, is_some, inl, inr, refl, sym, ap, ◌∙◌, subst, arith}
use Rattle.std.proofs.lemmas.Bool.{cases_eq}
use Rattle.std.proofs.Math.Bool.{and-false, or-true}
use Rattle.nofs_agree.specs.Chain.{known_agreement}
use Rattle.nofs_bits.specs.Bits.{is_set}
use Rattle.nofs_disk.specs.declared.tag.Pointer.{Pointer}
use Rattle.nofs_super.specs.declared.superblock.SuperBlock.{SuperBlock}
use Rattle.nofs_model.specs.Geometry.{Image}
use Rattle.nofs_model.specs.Files.{is_special, Files}
use Rattle.nofs_model.specs.Owners.{Home}
use Rattle.nofs_model.proofs.OnSlots.Find.{and-both}
use Rattle.nofs_history.specs.Machine.{gives, files_after}
use Rattle.nofs_history.specs.World.{World, is_fixed, is_free_inode, blocks_needed, inodes_needed, uses_inode}
use Rattle.nofs_history.specs.World.{uses_block}
use Rattle.nofs_history.specs.Claims.{cell_slot, has_block, homes_after, claimed_home, next_stamp, IsClaim}
use Rattle.nofs_history.specs.Claims.{IsInodeClaim, ClaimedInode}
use Rattle.nofs_history.specs.History.{FilesMatch}
use Rattle.nofs_history.specs.Next.{Learns, sees_inode, sees_block}
use Rattle.nofs_history.specs.declared.machine.history.Claims.{Claims}
use Rattle.nofs_history.specs.declared.machine.steps.Step.{Step}
use Rattle.nofs_crashlaw.specs.Maps.Homes.{HomesMatch}
use Rattle.nofs_crashlaw.specs.Maps.Moves.{IsClaimed}
use Rattle.nofs_state.specs.Books.Maps.{Says, knows_block, knows_inode}
use Rattle.nofs_state.specs.declared.books.maps.Books.{Books}
use Rattle.nofs_state.proofs.OnBooks.ClaimedBlocks.{Takes, claim-was, home-claimed}
use Rattle.nofs_state.proofs.OnCores.Replies.{home-has}
use Rattle.nofs_state.proofs.OnCores.Done.{after_world}
use Rattle.nofs_names.proofs.OnSteps.OpenMount.{Follows, SameMount}

-- a claimed inode was known and free, lies on the disk, and has the next stamp as its generation
pub record InodeWas (W : World) (c : Claims) : Type 0 where
  pub free : is_free_inode W c.inode ≡ true
  pub low : 1 ≤ c.inode
  pub high : c.inode ≤ W.inodes
  pub generation : c.generation ≡ next_stamp W

pub inode-was : (W : World) (s : Step) (c : Claims) → IsClaim W s c → inodes_needed s ≡ 1 → InodeWas W c
inode-was W s c claim one = go (subst (λ (n : ℕ). IsInodeClaim W (next_stamp W) c (ltb 0 n)) one claim.inode)
  where
    go : IsInodeClaim W (next_stamp W) c true → InodeWas W c
    go (ClaimedInode free low high is) = record { free = free; low = low; high = high; generation = is }

-- what a step owes that claims
pub record IsClaiming (W : World) (s : Step) (c : Claims) (G : Files) (at : Home) : Type 0 where
  pub slot : cell_slot W.files s ≡ Some at
  pub claim : IsClaim W s c
  pub files : files_after W.files (gives W.files s c) ≡ G
  pub blocks : (home : Home) → has_block W.files home ≡ true → has_block G home ≡ true
  pub sees_no_inode : (j : ℕ) → sees_inode s j ≡ false
  pub sees_no_block : (q : ℕ) → sees_block s q ≡ false

-- the books after it: the numbers and what is known stay, so many stamps are used, and the claimed blocks are not free
pub record Taken (k l : Books) (c : Claims) (n : ℕ) : Type 0 where
  pub same : l ≡ record k
      { free_inodes = l.free_inodes; agreement = l.agreement; free_blocks = l.free_blocks; serial = k.serial + n }
  pub here : (x : Pointer) → IsClaimed c x → is_set l.free_blocks x.block ≡ false
  pub other : (m : ℕ) → ((x : Pointer) → IsClaimed c x → m ≢ x.block) → is_set l.free_blocks m ≡ is_set k.free_blocks m

pub taken-same : (k l : Books) (c : Claims) (n : ℕ) → Taken k l c n → SameMount k l
taken-same k l c n taken = subst (SameMount k) (sym taken.same) (record { at = refl; history = refl; stopped = refl })

-- the claim of blocks alone
pub taken-by : (k l : Books) (c : Claims) (n : ℕ) → Takes k l c n → Taken k l c n
taken-by k l c n takes = record {
  same = takes.same ∙ (λ j. record k {
    free_inodes = inodes j;
    agreement = told-as j;
    free_blocks = l.free_blocks;
    serial = k.serial + n;
  });
  here = takes.here;
  other = takes.other;
}
  where
    inodes : k.free_inodes ≡ l.free_inodes
    inodes = sym (ap (λ (b : Books). b.free_inodes) takes.same)

    told-as : k.agreement ≡ l.agreement
    told-as = sym (ap (λ (b : Books). b.agreement) takes.same)

-- an inode after it, and what the books have of it: it was claimed and is a file now, or it stays
pub data InodeAfter (W : World) (k l : Books) (G : Files) (j : ℕ) : Type 0 where
  WasMade : W.known_inodes j ≡ true → is_some (G j) ≡ true → is_set l.free_inodes (j - 1) ≡ false
      → ((a : Bool) → known_agreement l.agreement j ≡ Some a → true ≡ a) → InodeAfter W k l G j
  WasLeft : is_some (G j) ≡ is_some (W.files j) → (1 ≤ j → is_set l.free_inodes (j - 1) ≡ is_set k.free_inodes (j - 1))
      → known_agreement l.agreement j ≡ known_agreement k.agreement j → InodeAfter W k l G j

module _ (X : Image) (k l : Books) (W : World) (s : Step) (c : Claims) (n : ℕ) (G : Files) (at : Home) (says : Says k W)
    (match : FilesMatch W.files X)
    (homes : HomesMatch W X) (past : (b : ℕ) → W.blocks ≤ b → W.homes b ≡ None)
    (claiming : IsClaiming W s c G at) (taken : Taken k l c n) (needs : inodes_needed s + blocks_needed W.files s ≡ n)
    (inode : (j : ℕ) → InodeAfter W k l G j) where
  abbrev V : World
  V = after_world W s c l

  -- the files and homes after it

  V-file : (j : ℕ) → is_some (V.files j) ≡ is_some (G j)
  V-file j = λ q. is_some (claiming.files q j)

  keeps : (home : Home) → has_block W.files home ≡ true → has_block V.files home ≡ true
  keeps home h = subst (λ (F : Files). has_block F home ≡ true) (sym claiming.files) (claiming.blocks home h)

  homes-other : (m : ℕ) → claimed_home W.files s c m ≡ None → V.homes m ≡ W.homes m
  homes-other m none = rw (none, homes_after) (go (W.homes m) refl)
    where
      go : (h : Option Home) → W.homes m ≡ h → (elim h as (λ (_ : Option Home). Option Home)
          [ None ↦ None | Some home ↦ cond (has_block V.files home) (Some home) None ]) ≡ h
      go None e = refl
      go (Some home) e = let b = keeps home (home-has W X match homes past m home e) in rw b refl

  homes-here : (m : ℕ) → is_some (claimed_home W.files s c m) ≡ true → is_some (V.homes m) ≡ true
  homes-here m some = go (claimed_home W.files s c m) refl some
    where
      go : (q : Option Home) → claimed_home W.files s c m ≡ q → is_some q ≡ true → is_some (V.homes m) ≡ true
      go None e t = cc t
      go (Some home) e t = rw (e, homes_after) refl

  -- what it used

  V-made : (j : ℕ) → is_some (G j) ≡ true → uses_inode V j ≡ true
  V-made j made = ap (λ (b : Bool). is_special j || b) (V-file j ∙ made) ∙ or-true (is_special j)

  V-left : (j : ℕ) → is_some (G j) ≡ is_some (W.files j) → uses_inode V j ≡ uses_inode W j
  V-left j left = ap (λ (b : Bool). is_special j || b) (V-file j ∙ left)

  V-other : (m : ℕ) → claimed_home W.files s c m ≡ None → uses_block V m ≡ uses_block W m
  V-other m none = ap (λ (h : Option Home). is_fixed W m || is_some h) (homes-other m none)

  V-here : (m : ℕ) → is_some (claimed_home W.files s c m) ≡ true → uses_block V m ≡ true
  V-here m some = ap (λ (b : Bool). is_fixed W m || b) (homes-here m some) ∙ or-true (is_fixed W m)

  -- what is known of it

  l-at : l.at ≡ k.at
  l-at = ap (λ (b : Books). b.at) taken.same

  inode-known : (j : ℕ) → W.known_inodes j ≡ knows_inode l j
  inode-known j = says.known_inodes j ∙ sym (ap (λ (b : Books). knows_inode b j) taken.same)

  block-known : (m : ℕ) → W.known_blocks m ≡ knows_block l m
  block-known m = says.known_blocks m ∙ sym (ap (λ (b : Books). knows_block b m) taken.same)

  known-here : (x : Pointer) → IsClaimed c x → W.known_blocks x.block ≡ true
  known-here x q =
      (and-both (W.known_blocks x.block) (not (uses_block W x.block)) (claim-was W s c x claiming.claim q).0).0

  learns : Learns W s true V
  learns = record {
    inodes_stay = λ j kn. sym (inode-known j) ∙ kn;
    blocks_stay = λ m kn. sym (block-known m) ∙ kn;
    inodes_change = λ j ne. changes j ne (inode j);
    blocks_change = λ m ne. elim (home-claimed W.files s c at m claiming.slot) [
      | inl (x, q, e, some) ↦ sym (block-known m) ∙ ap W.known_blocks e ∙ known-here x q
      | inr (none, home) ↦ absurd (ne (V-other m home))
    ];
    inode_seen = λ t j e. absurd (let z = claiming.sees_no_inode j in cc (e, z));
    block_seen = λ t q e. absurd (let z = claiming.sees_no_block q in cc (e, z));
    inodes_why = λ j kn. inl (inode-known j ∙ kn);
    blocks_why = λ m kn. inl (block-known m ∙ kn);
  }
    where
      changes : (j : ℕ) → uses_inode V j ≢ uses_inode W j → InodeAfter W k l G j → knows_inode l j ≡ true
      changes j ne (WasMade known made free known_agreement) = sym (inode-known j) ∙ known
      changes j ne (WasLeft used free known_agreement) = absurd (ne (V-left j used))

  said : Says l V
  said = record {
    version = says.version ∙ ap (λ (q : SuperBlock). q.version) (sym l-at);
    blocks = says.blocks ∙ ap (λ (q : SuperBlock). q.blocks) (sym l-at);
    inodes = says.inodes ∙ ap (λ (q : SuperBlock). q.inodes) (sym l-at);
    mount = says.mount ∙ ap (λ (q : SuperBlock). q.mount) (sym l-at);
    serial = (let m = needs in let q = says.serial in let e = ap (λ (b : Books). b.serial) taken.same in
        omega (arith, m, q, e));
    stopped = says.stopped ∙ ap (λ (b : Books). b.stopped) (sym taken.same);
    known_inodes = λ j. refl;
    known_blocks = λ m. refl;
    free_inodes = λ j a b. free-inode j a (subst (λ (q : SuperBlock). j ≤ q.inodes) l-at b) (inode j);
    free_blocks = λ m lt. elim (home-claimed W.files s c at m claiming.slot) [
      | inl (x, q, e, some) ↦ subst (λ (b : ℕ). is_set l.free_blocks b ≡ false) (sym e) (taken.here x q)
          ∙ sym (ap (λ (t : Bool). knows_block l m && not t) (V-here m some) ∙ and-false (knows_block l m))
      | inr (none, home) ↦ taken.other m none ∙ says.free_blocks m (subst (λ (q : SuperBlock). m < q.blocks) l-at lt)
          ∙ (λ q. block-known m q && not (sym (V-other m home) q))
    ];
    agreement = λ j a t. agrees j a t (inode j);
  }
    where
      free-inode : (j : ℕ) → 1 ≤ j → j ≤ k.at.inodes → InodeAfter W k l G j
          → is_set l.free_inodes (j - 1) ≡ is_free_inode V j
      free-inode j low high (WasMade known made free known_agreement) = free
          ∙ sym (ap (λ (t : Bool). knows_inode l j && not t) (V-made j made) ∙ and-false (knows_inode l j))
      free-inode j low high (WasLeft used free known_agreement) = free low ∙ says.free_inodes j low high
          ∙ (λ q. inode-known j q && not (sym (V-left j used) q))

      agrees : (j : ℕ) (a : Bool) → known_agreement l.agreement j ≡ Some a → InodeAfter W k l G j
          → is_some (V.files j) ≡ a
      agrees j a t (WasMade known made free is) = V-file j ∙ made ∙ is a t
      agrees j a t (WasLeft used free is) = V-file j ∙ used ∙ says.agreement j a (sym is ∙ t)

  pub claiming-follows : Follows W s c l
  claiming-follows = record { learns = learns; says = said }

-- A step that claims an inode, too

-- what the maps have of the claimed inode: it is not free, and agrees
pub record TakenInode (k : Books) (free : List Bool) (agreement : List (Option Bool)) (i : ℕ) : Type 0 where
  pub here : is_set free (i - 1) ≡ false
  pub others : (j : ℕ) → 1 ≤ j → j ≢ i → is_set free (j - 1) ≡ is_set k.free_inodes (j - 1)
  pub agreed : (a : Bool) → known_agreement agreement i ≡ Some a → Some true ≡ Some a
  pub told_as : (j : ℕ) → j ≢ i → known_agreement agreement j ≡ known_agreement k.agreement j

-- the books after it, with m blocks claimed
pub record TakenBoth (k l : Books) (c : Claims) (m : ℕ) : Type 0 where
  pub all : Taken k l c (1 + m)
  pub inode : TakenInode k l.free_inodes l.agreement c.inode

pub made-inode : (W : World) (k l : Books) (c : Claims) (G : Files) → InodeWas W c
    → TakenInode k l.free_inodes l.agreement c.inode → is_some (G c.inode) ≡ true
    → ((j : ℕ) → j ≢ c.inode → is_some (G j) ≡ is_some (W.files j)) → (j : ℕ) → InodeAfter W k l G j
made-inode W k l c G was taken made used j = elim (cases_eq j c.inode) [
  | inl here ↦ subst (InodeAfter W k l G) (sym here)
      (WasMade (and-both (W.known_inodes c.inode) (not (uses_inode W c.inode)) was.free).0 made taken.here
      (λ a t. is-true a (taken.agreed a t)))
  | inr other ↦ WasLeft (used j other) (λ low. taken.others j low other) (taken.told_as j other)
]
  where
    is-true : (a : Bool) → Some true ≡ Some a → true ≡ a
    is-true a e = cc e

-- A step that claims no inode

pub left-inode : (W : World) (k l : Books) (c : Claims) (n : ℕ) (G : Files) → Takes k l c n
    → ((j : ℕ) → is_some (G j) ≡ is_some (W.files j)) → (j : ℕ)
    → InodeAfter W k l G j
left-inode W k l c n G takes used j =
    WasLeft (used j) (λ low. ap (λ (b : Books). is_set b.free_inodes (j - 1)) takes.same)
    (ap (λ (b : Books). known_agreement b.agreement j) takes.same)
