-- What the machine says of a file, in the words of the disk.
use Rattle.std.proofs.Common.{◌≡◌, ℕ, Bool, true, false, ◌&&◌, not, List, Option, Some, None, is_some, refl, sym, ap}
use Rattle.std.proofs.Common.{◌∙◌, subst}
use Rattle.nofs_disk.specs.Disk.{DiskState}
use Rattle.nofs_inode.specs.declared.inode.BackLink.{BackLink}
use Rattle.nofs_super.specs.declared.superblock.SuperBlock.{SuperBlock}
use Rattle.nofs_inode.specs.InodeRecords.{is_live}
use Rattle.nofs_model.specs.Geometry.{Image, inode}
use Rattle.nofs_model.specs.Files.{Files, FileState, files_in, agreed, is_pair, pairs}
use Rattle.nofs_history.specs.Machine.{generation_of}
use Rattle.nofs_history.specs.World.{World}
use Rattle.nofs_history.specs.Refusals.{row, stale}
use Rattle.nofs_history.specs.History.{FilesMatch, SameFile}
use Rattle.nofs_history.specs.Good.{MatchesSuper}
use Rattle.nofs_history.specs.declared.machine.history.Entry1.{Entry1}
use Rattle.nofs_history.specs.declared.machine.replies.Refusal.TheVariants as refusal
use Rattle.nofs_model.proofs.OnFiles.Chains.{agreed-holds}
use Rattle.nofs_crashlaw.proofs.OnUntouched.Matches.{agreed-files-is, matched-agreed, gen-of}
use Rattle.nofs_crashlaw.proofs.OnUntouched.Agreement.{same-of, same-alike, pairs-alike, agreed-some, live-some}
use Rattle.nofs_crashlaw.proofs.OnMaps.Homes.{uses-inode}
use Rattle.nofs_agree.specs.Chain.{AreTrue, is_agreed_link, known_agreement}
use Rattle.nofs_agree.proofs.OnKnown.{if-told}
use Rattle.nofs_state.specs.Books.Maps.{IsSafe}
use Rattle.nofs_state.specs.Cores.Invariant.{IsOpen, Past}
use Rattle.nofs_state.specs.Inodes.Opened.{is_current}
use Rattle.nofs_state.specs.declared.books.maps.Books.{Books}
use Rattle.nofs_state.proofs.OnBooks.Bits.{and-false, and-true}
use Rattle.nofs_state.proofs.OnCores.Replies.{open-files}

pub agreed-live : (X : Image) (i : ℕ) → agreed (files_in X) i ≡ true → is_live (inode X i) ≡ true
agreed-live X i a = live-some X i (agreed-some (files_in X) i (agreed-holds (files_in X) i a))

-- the world has the numbers of the disk
pub world-numbers : (d : DiskState) (k : Books) (H : List Entry1) (p : Past) → IsOpen d k H p
    → MatchesSuper p.world d.now
world-numbers d k H p o = record {
  version = o.says.version ∙ ap (λ (q : SuperBlock). q.version) (sym o.at);
  blocks = o.says.blocks ∙ ap (λ (q : SuperBlock). q.blocks) (sym o.at);
  inodes = o.says.inodes ∙ ap (λ (q : SuperBlock). q.inodes) (sym o.at);
  mount = o.says.mount ∙ ap (λ (q : SuperBlock). q.mount) (sym o.at);
}

no-pair : (o : Option FileState) (i : ℕ) (link : BackLink) → pairs o None i link ≡ false
no-pair None i link = refl
no-pair (Some f) i link = refl

same-none : (o : Option FileState) → SameFile o None → o ≡ None
same-none None s = refl
same-none (Some f) s = absurd s

-- a pair of the machine is one of the disk with an agreed directory
pub machine-pair : (F : Files) (X : Image) (i : ℕ) (link : BackLink) → FilesMatch F X → agreed (files_in X) i ≡ true
    → is_pair F i link ≡ is_agreed_link (files_in X) i link
machine-pair F X i link match a = go (agreed (files_in X) link.directory) refl
  where
    go : (b : Bool) → agreed (files_in X) link.directory ≡ b
        → is_pair F i link ≡ (is_pair (files_in X) i link && agreed (files_in X) link.directory)
    go true e =
        pairs-alike (F i) (files_in X i) (F link.directory) (files_in X link.directory) i link
        (same-alike (F i) (files_in X i) (same-of F X i match a))
        (same-alike (F link.directory) (files_in X link.directory) (same-of F X link.directory match e))
        ∙ and-true (is_pair (files_in X) i link) ∙ ap (λ (b : Bool). is_pair (files_in X) i link && b) (sym e)
    go false e =
        let none : F link.directory ≡ None = same-none (F link.directory)
        (subst (λ (o : Option FileState). SameFile (F link.directory) o) (agreed-files-is X link.directory ∙ rw e refl)
        (match link.directory)) in
        ap (λ (o : Option FileState). pairs (F i) o i link) none ∙ no-pair (F i) i link
        ∙ and-false (is_pair (files_in X) i link) ∙ ap (λ (b : Bool). is_pair (files_in X) i link && b) (sym e)

-- whether a file is stale
pub stale-is : (W : World) (X : Image) (i g : ℕ) → FilesMatch W.files X
    → stale W i g ≡ row (not (is_current X i g)) refusal.Stale
stale-is W X i g match = go (agreed (files_in X) i) refl
  where
    go : (b : Bool) → agreed (files_in X) i ≡ b → stale W i g ≡ row (not (is_current X i g)) refusal.Stale
    go false e = let s : is_some (W.files i) ≡ false = uses-inode W.files X match i ∙ e in rw (s, e) refl
    go true e =
        let s : is_some (W.files i) ≡ true = uses-inode W.files X match i ∙ e in
        let m = matched-agreed W.files X i match (agreed-live X i e) e in
        let h : generation_of W.files i ≡ (inode X i).generation = gen-of W.files i m.file m.is ∙ m.generation in
        rw (s, e, h) refl

pub stale-none : (W : World) (X : Image) (i g : ℕ) → FilesMatch W.files X → is_current X i g ≡ true → stale W i g ≡ None
stale-none W X i g match c = stale-is W X i g match ∙ rw c refl

pub stale-some : (W : World) (X : Image) (i g : ℕ) → FilesMatch W.files X
    → is_current X i g ≡ false → stale W i g ≡ Some refusal.Stale
stale-some W X i g match c = stale-is W X i g match ∙ rw c refl

-- what the books know of inodes is true
pub are-agreed : (d : DiskState) (k : Books) (H : List Entry1) (p : Past) → IsSafe d k → IsOpen d k H p
    → AreTrue d.now k.agreement
are-agreed d k H p safe o i =
    if-told (known_agreement k.agreement i) (λ a. agreed (files_in d.now) i ≡ a)
    (λ a known. sym (uses-inode p.world.files d.now (open-files d k H p o) i) ∙ o.says.agreement i a known)
