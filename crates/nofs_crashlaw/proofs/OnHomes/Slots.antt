-- What a step on names leaves in slots that get no block, and how many blocks it claims.
use Rattle.std.proofs.Common.{◌≡◌, ◌≢◌, ℕ, ◌+◌, ◌/◌, ◌<◌, inl, false, true, cond, ltb, List, Option, Some, None}
use Rattle.std.proofs.Common.{is_some, refl, sym, ap, ◌∙◌}
use Rattle.nofs_inode.specs.declared.inode.BackLink.{BackLink}
use Rattle.nofs_disk.specs.declared.tag.Pointer.{Pointer}
use Rattle.nofs_inode.specs.InodeRecords.{is_live}
use Rattle.nofs_ptrs.specs.Paths.{slot_limit, Path, path_of, IsSlot, is_pointer_slot}
use Rattle.nofs_model.specs.Geometry.{Image, inode}
use Rattle.nofs_model.specs.Files.{files_in, agreed, node_in, FileState, Files}
use Rattle.nofs_model.specs.Slots.{value_in, find}
use Rattle.nofs_model.specs.declared.image.path.PathAnswer.{PathAnswer}
use Rattle.nofs_model.specs.declared.image.path.PathAnswer.TheVariants as answer
use Rattle.nofs_model.specs.declared.image.value.Value.{Value}
use Rattle.nofs_model.proofs.OnSlots.Find.{find-held}
use Rattle.nofs_history.specs.Meta.{Meta, is_bytes}
use Rattle.nofs_history.specs.Machine.{Given, filled, after_meta, born_file, file_after, files_after, node_of}
use Rattle.nofs_history.specs.Machine.{place_for}
use Rattle.nofs_history.specs.History.{FilesMatch}
use Rattle.nofs_history.specs.World.{World, absent_above, blocks_for, blocks_at, blocks_needed, inodes_needed}
use Rattle.nofs_history.specs.Claims.{is_claimed, next_stamp, IsClaim}
use Rattle.nofs_history.specs.declared.machine.history.Claims.{Claims}
use Rattle.nofs_history.specs.declared.machine.steps.Step.{Step}
use Rattle.nofs_crashlaw.proofs.OnMaps.ClaimParts.{part}
use Rattle.nofs_crashlaw.specs.Untouched.Frames.{OldPointers}
use Rattle.nofs_crashlaw.proofs.OnUntouched.Matches.{matched-file}
use Rattle.nofs_crashlaw.proofs.OnUntouched.Frames.{some-is}
use Rattle.nofs_crashlaw.proofs.OnFiles.Given.{value-of}
use Rattle.nofs_crashlaw.specs.Maps.Moves.{HeldMove}
use Rattle.nofs_crashlaw.proofs.OnMaps.Homes.{uses-inode}
use Rattle.nofs_crashlaw.specs.Names.OldEntries.{InPlace, Relinked, NameWrites}
use Rattle.nofs_crashlaw.proofs.OnNames.Files.{file-of, find-stays}
use Rattle.nofs_crashlaw.proofs.OnNames.InPlace.{find-in-place}
use Rattle.nofs_crashlaw.proofs.OnNames.Renames.{value-held}

-- Slots

-- each is found as before
found-again : (c : Claims) (X Y : Image) (j : ℕ)
    → agreed (files_in X) j ≡ true → ((a : Path) → IsSlot a → find Y j a ≡ find X j a) → HeldMove c X Y j
found-again c X Y j there same a y slot ay ey = inl (there, sym (same a slot) ∙ ey)

-- none of a free record holds
pub nothing-held : (c : Claims) (X Y : Image) (j : ℕ) → (inode Y j).kind ≡ None → HeldMove c X Y j
nothing-held c X Y j free a y slot ay ey =
    let live = (find-held Y j a y ey).agrees.live in
    let dead : is_live (inode Y j) ≡ false = rw free refl in
    absurd (cc (live, dead))

-- the directory's, where a cell is written in place
pub directory-kept : (c : Claims) (s : ℕ) (F : Files) (X Y : Image) (d i k : ℕ) (f : FileState) (x : Pointer)
    → FilesMatch F X → F d ≡ Some f → i ≢ d
    → k < slot_limit → OldPointers s X d
    → find X d (path_of k) ≡ answer.Holds x → InPlace X Y x i → HeldMove c X Y d
directory-kept c s F X Y d i k f x match is apart range old held p =
    let own = matched-file F X d match (some-is (F d) f is) in
    found-again c X Y d own.agreed (find-in-place s X Y d i k x apart p range held own.live own.agreed old)

-- those of an inode whose links alone change
pub inode-kept : (c : Claims) (s : ℕ) (F : Files) (X Y : Image) (d i : ℕ) (h : FileState) (links : List BackLink)
    → FilesMatch F X → F i ≡ Some h → i ≢ d
    → OldPointers s X i
    → NameWrites s d i X Y → Relinked X Y i links → HeldMove c X Y i
inode-kept c s F X Y d i h links match is apart old w r =
    let own = matched-file F X i match (some-is (F i) h is) in
    found-again c X Y i own.agreed
    (find-stays s d i X Y w apart own.agreed old (record { live = own.live; kind = r.kind; generation = r.generation })
    r.pointers)

-- The directory after the step

-- a file that gets no meta stays
there-after : (F : Files) (given : Given) (d : ℕ) (f : FileState) → F d ≡ Some f
    → given.born d ≡ None → given.metas d f.generation ≡ None
    → is_some (files_after F given d) ≡ true
there-after F given d f is born metas =
    ap (λ (o : Option ℕ). is_some (file_after given d (born_file o (F d)))) born
    ∙ ap (λ (o : Option FileState). is_some (file_after given d o)) is
    ∙ ap (λ (o : Option Meta). is_some (after_meta o (filled given d f))) metas

pub agreed-after : (F : Files) (given : Given) (Y : Image) (d : ℕ) (f : FileState) → F d ≡ Some f
    → given.born d ≡ None → given.metas d f.generation ≡ None
    → FilesMatch (files_after F given) Y → agreed (files_in Y) d ≡ true
agreed-after F given Y d f is born metas match = sym (uses-inode (files_after F given) Y match d)
    ∙ there-after F given d f is born metas

-- How many blocks are claimed

abbrev pub Counted : Claims → ℕ → Type 0
Counted c n = (is_claimed c.cell ≡ ltb 0 n) × (is_claimed c.leaf ≡ ltb 1 n) × (is_claimed c.top ≡ ltb 2 n)

pub counted : (W : World) (step : Step) (c : Claims) (n : ℕ) → IsClaim W step c
    → blocks_needed W.files step ≡ n → Counted c n
counted W step c n claim e = (
  part W (next_stamp W + inodes_needed step) c.cell (ltb 0 (blocks_needed W.files step)) claim.cell ∙ ap (ltb 0) e,
  part W (next_stamp W + inodes_needed step + 1) c.leaf (ltb 1 (blocks_needed W.files step)) claim.leaf ∙ ap (ltb 1) e,
  part W (next_stamp W + inodes_needed step + 2) c.top (ltb 2 (blocks_needed W.files step)) claim.top ∙ ap (ltb 2) e,
)

pub needed-at : (F : Files) (d e n : ℕ) (name : List ℕ) → place_for F d name ≡ Some e
    → blocks_for F d (e / 16) ≡ n → blocks_at F d (place_for F d name) ≡ n
needed-at F d e n name place h = ap (λ (o : Option ℕ). blocks_at F d o) place ∙ h

-- for a slot that holds, none
pub needed-held : (F : Files) (X : Image) (d k : ℕ) (f : FileState) (x : Pointer) → FilesMatch F X → F d ≡ Some f
    → k < slot_limit
    → find X d (path_of k) ≡ answer.Holds x → blocks_for F d k ≡ 0
needed-held F X d k f x match is lt held = ap (λ (v : Value). cond (is_bytes v) 0 (1 + absent_above F d (path_of k)))
    (value-of F d f is k ∙ value-held F X d k f x match is lt held)

-- for a hole one, and one for each block of pointers that is absent above it
pub needed-hole : (F : Files) (X : Image) (d k : ℕ) (f : FileState) → FilesMatch F X → F d ≡ Some f
    → k < slot_limit → find X d (path_of k) ≡ answer.Hole
    → blocks_for F d k ≡ 1 + absent_above F d (path_of k)
needed-hole F X d k f match is lt empty = ap (λ (v : Value). cond (is_bytes v) 0 (1 + absent_above F d (path_of k)))
    (value-of F d f is k ∙ (file-of F X d f match is).1.values k lt ∙ ap (λ (q : PathAnswer). value_in X q) empty)

node-of : (F : Files) (i : ℕ) (f : FileState) → F i ≡ Some f → (a : Path) → node_of F i a ≡ f.nodes a
node-of F i f e a = rw (e, node_of) refl

pub node-here : (F : Files) (X : Image) (d : ℕ) (f : FileState) (a : Path) (q : PathAnswer) → FilesMatch F X
    → F d ≡ Some f → IsSlot a
    → is_pointer_slot a ≡ true → find X d a ≡ q → node_of F d a ≡ node_in q
node-here F X d f a q match is slot points e = node-of F d f is a
    ∙ (file-of F X d f match is).1.nodes a slot points ∙ ap node_in e
