-- A step that claims nothing and leaves used what was used: what the maps say stays.
use Rattle.std.proofs.Common.{◌≡◌, ℕ, ◌+◌, ◌≤◌, Bool, true, false, cond, ltb, ◌&&◌, ◌||◌, not, Option, Some, None}
use Rattle.std.proofs.Common.{is_some, unwrap_or, inl, refl, sym, ap, ◌∙◌, subst, arith}
use Rattle.nofs_ptrs.specs.Paths.{slot_limit, path_of}
use Rattle.nofs_disk.specs.Pointer.{null}
use Rattle.nofs_model.specs.Geometry.{Image}
use Rattle.nofs_model.specs.Files.{is_special, FileState, Files, NodeState, Present, Absent}
use Rattle.nofs_model.specs.Owners.{Home}
use Rattle.nofs_model.specs.declared.image.value.Value.{Value}
use Rattle.nofs_model.specs.declared.image.value.Value.TheVariants.{Hole}
use Rattle.nofs_history.specs.Meta.{is_bytes}
use Rattle.nofs_history.specs.Machine.{gives, cell_given, no_meta, files_after, filled}
use Rattle.nofs_history.specs.World.{World, is_fixed, blocks_needed, inodes_needed, uses_inode, uses_block}
use Rattle.nofs_history.specs.Claims.{no_claims, IsBlockClaim, next_stamp, has_block, homes_after, claimed_home}
use Rattle.nofs_history.specs.Claims.{IsClaim, IsInodeClaim, Unclaimed, NoInode, is_present}
use Rattle.nofs_history.specs.History.{FilesMatch}
use Rattle.nofs_history.specs.Next.{Learns, sees_inode, sees_block}
use Rattle.nofs_history.specs.declared.machine.steps.Step.{Step}
use Rattle.nofs_crashlaw.specs.Maps.Homes.{HomesMatch}
use Rattle.nofs_state.specs.Books.Maps.{Says}
use Rattle.nofs_state.specs.declared.books.maps.Books.{Books}
use Rattle.nofs_state.proofs.OnCores.Done.{after_world}
use Rattle.nofs_state.proofs.OnCores.Replies.{home-has}
use Rattle.nofs_names.proofs.OnSteps.OpenMount.{Follows}

-- what a step owes that changes no map
pub record IsQuiet (W : World) (s : Step) (G : Files) : Type 0 where
  pub no_inode : inodes_needed s ≡ 0
  pub no_block : blocks_needed W.files s ≡ 0
  pub none_claimed : (q : ℕ) → claimed_home W.files s no_claims q ≡ None
  pub files : files_after W.files (gives W.files s no_claims) ≡ G
  pub used : (j : ℕ) → is_some (G j) ≡ is_some (W.files j)
  pub blocks : (home : Home) → has_block W.files home ≡ true → has_block G home ≡ true
  pub sees_no_inode : (i : ℕ) → sees_inode s i ≡ false
  pub sees_no_block : (p : ℕ) → sees_block s p ≡ false

-- a step that asks for no inode and for no block claims nothing
pub no-claim : (W : World) (s : Step) → inodes_needed s ≡ 0 → blocks_needed W.files s ≡ 0 → IsClaim W s no_claims
no-claim W s no_inode no_block = record {
  inode = subst (λ (n : ℕ). IsInodeClaim W (next_stamp W) no_claims (ltb 0 n)) (sym no_inode) (NoInode refl refl);
  cell = subst (λ (n : ℕ). IsBlockClaim W (next_stamp W + inodes_needed s) null (ltb 0 n)) (sym no_block)
      (Unclaimed refl);
  leaf = subst (λ (n : ℕ). IsBlockClaim W (next_stamp W + inodes_needed s + 1) null (ltb 1 n)) (sym no_block)
      (Unclaimed refl);
  top = subst (λ (n : ℕ). IsBlockClaim W (next_stamp W + inodes_needed s + 2) null (ltb 2 n)) (sym no_block)
      (Unclaimed refl);
  apart = tt;
}

module _ (X : Image) (k : Books) (W : World) (s : Step) (G : Files) (says : Says k W) (match : FilesMatch W.files X)
    (homes : HomesMatch W X) (past : (b : ℕ)
    → W.blocks ≤ b → W.homes b ≡ None) (quiet : IsQuiet W s G) where
  abbrev V : World
  V = after_world W s no_claims k

  pub quiet-claim : IsClaim W s no_claims
  quiet-claim = no-claim W s quiet.no_inode quiet.no_block

  homes-same : (q : ℕ) → homes_after W s no_claims V.files q ≡ W.homes q
  homes-same q = rw (quiet.none_claimed q, homes_after) (go (W.homes q) refl)
    where
      go : (h : Option Home) → W.homes q ≡ h
          → (elim h as (λ (_ : Option Home). Option Home)
          [ None ↦ None | Some home ↦ cond (has_block V.files home) (Some home) None ]) ≡ h
      go None e = refl
      go (Some home) e = let b : has_block V.files home ≡ true =
          subst (λ (F : Files). has_block F home ≡ true) (sym quiet.files)
          (quiet.blocks home (home-has W X match homes past q home e)) in rw b refl

  V-file : (j : ℕ) → is_some (V.files j) ≡ is_some (W.files j)
  V-file j = (λ q. is_some (quiet.files q j)) ∙ quiet.used j

  V-inode : (j : ℕ) → uses_inode V j ≡ uses_inode W j
  V-inode j = ap (λ (b : Bool). is_special j || b) (V-file j)

  V-block : (q : ℕ) → uses_block V q ≡ uses_block W q
  V-block q = ap (λ (h : Option Home). is_fixed W q || is_some h) (homes-same q)

  learns : Learns W s true V
  learns = record {
    inodes_stay = λ j kn. sym (says.known_inodes j) ∙ kn;
    blocks_stay = λ q kn. sym (says.known_blocks q) ∙ kn;
    inodes_change = λ j ne. absurd (ne (V-inode j));
    blocks_change = λ q ne. absurd (ne (V-block q));
    inode_seen = λ t j e. absurd (let z = quiet.sees_no_inode j in cc (e, z));
    block_seen = λ t q e. absurd (let z = quiet.sees_no_block q in cc (e, z));
    inodes_why = λ j kn. inl (says.known_inodes j ∙ kn);
    blocks_why = λ q kn. inl (says.known_blocks q ∙ kn);
  }

  said : Says k V
  said = record {
    version = says.version;
    blocks = says.blocks;
    inodes = says.inodes;
    mount = says.mount;
    serial = (let a = quiet.no_inode in let n = quiet.no_block in let q = says.serial in omega (arith, a, n, q));
    stopped = says.stopped;
    known_inodes = λ j. refl;
    known_blocks = λ q. refl;
    free_inodes = λ j a b. says.free_inodes j a b ∙ (λ q. says.known_inodes j q && not (sym (V-inode j) q));
    free_blocks = λ q lt. says.free_blocks q lt ∙ (λ n. says.known_blocks q n && not (sym (V-block q) n));
    agreement = λ j a t. V-file j ∙ says.agreement j a t;
  }

  pub quiet-follows : Follows W s no_claims k
  quiet-follows = record { learns = learns; says = said }

-- A cell of a directory is given, and nothing else

pub kept-bytes : (b : Bool) (u v : Value)
    → is_bytes u ≡ true → is_bytes v ≡ true → is_bytes (unwrap_or (cond b (Some u) None) v) ≡ true
kept-bytes true u v eu e = eu
kept-bytes false u v eu e = e

pub kept-node : (b : Bool) (v : NodeState)
    → is_present v ≡ true → is_present (unwrap_or (cond b (Some Present) None) v) ≡ true
kept-node true v e = refl
kept-node false v e = e

abbrev pub block_in : Option FileState → ℕ → Bool
block_in o k = cond (ltb k slot_limit) (is_bytes (elim o [ None ↦ Hole | Some f ↦ f.values k ]))
    (is_present (elim o [ None ↦ Absent | Some f ↦ f.nodes (path_of k) ]))

pub cell-used : (F : Files) (d g k : ℕ) (v : Value) (j : ℕ)
    → is_some (files_after F (cell_given d g k v no_meta) j) ≡ is_some (F j)
cell-used F d g k v j = go (F j)
  where
    go : (o : Option FileState)
        → is_some (elim o as (λ (_ : Option FileState). Option FileState)
        [ None ↦ None | Some f ↦ Some (filled (cell_given d g k v no_meta) j f) ]) ≡ is_some o
    go None = refl
    go (Some f) = refl

pub cell-blocks : (F : Files) (d g k : ℕ) (v : Value) → is_bytes v ≡ true → (home : Home) → has_block F home ≡ true
    → has_block (files_after F (cell_given d g k v no_meta)) home ≡ true
cell-blocks F d g k v ev home h = go (F home.inode) refl h
  where
    inside : (f : FileState) (b : Bool)
        → cond b (is_bytes (f.values home.slot)) (is_present (f.nodes (path_of home.slot))) ≡ true
        → cond b (is_bytes ((filled (cell_given d g k v no_meta) home.inode f).values home.slot))
        (is_present ((filled (cell_given d g k v no_meta) home.inode f).nodes (path_of home.slot))) ≡ true
    inside f true e = kept-bytes _ v (f.values home.slot) ev e
    inside f false e = kept-node _ (f.nodes (path_of home.slot)) e

    go : (o : Option FileState) → F home.inode ≡ o → block_in o home.slot ≡ true
        → has_block (files_after F (cell_given d g k v no_meta)) home ≡ true
    go None eo e = rw eo e
    go (Some f) eo e = rw eo (inside f (ltb home.slot slot_limit) e)
