-- The handles of a list of directories.
use Rattle.std.proofs.Common.{◌≡◌, ℕ, ◌+◌, inl, inr, List, [], ◌∷◌, ◌++◌, Bool, true, false, if◌then◌else◌, Some, None}
use Rattle.std.proofs.Common.{sym, subst}
use Rattle.std.specs.Prelude.{All, slice_get}
use Rattle.std.proofs.lemmas.List.Elements.{All-nil, All-cons, All-append, All-get_or}
use Rattle.std.proofs.lemmas.Option.{get_or_from_slice_get, slice_get_within}
use Rattle.nofs_model.specs.Files.{Files}
use Rattle.nofs_salvage.specs.declared.report.answers.InodeHandle.{InodeHandle}
use Rattle.nofs_salvage.specs.declared.report.tree.Tree.{Tree}
use Rattle.nofs_salvage.specs.Walk.Refusals.{is_there, HasRoots, MayAsk}
use Rattle.nofs_salvage.specs.Report.Inodes.{root_handle, with_handle}
use Rattle.nofs_salvage.specs.Report.Lines.{AreFolders, IsRooted}
use Rattle.nofs_salvage.specs.Report.InHand.{handles_in}
use Rattle.nofs_salvage.proofs.OnWalk.Refusals.{ask-root}

-- one more directory
with-folder : (F : Files) (handles : List InodeHandle) (at : InodeHandle) (b : Bool) → All (MayAsk F true) handles
    → MayAsk F true at
    → All (MayAsk F true) (if b then handles else handles ++ at ∷ [])
with-folder F handles at true h one = h
with-folder F handles at false h one =
    All-append (MayAsk F true) handles (at ∷ []) h (All-cons (MayAsk F true) at [] one (All-nil (MayAsk F true)))

pub folders-on : (F : Files) (at : InodeHandle) (old new : Tree) → handles_in new ≡ with_handle (handles_in old) at
    → MayAsk F true at → AreFolders F old
    → AreFolders F new
folders-on F at old new is one h = subst (All (MayAsk F true)) (sym is) (with-folder F (handles_in old) at _ h one)

-- the root alone
pub folders-root : (F : Files) (tree : Tree) → HasRoots F → handles_in tree ≡ root_handle ∷ [] → AreFolders F tree
folders-root F tree roots is = subst (All (MayAsk F true)) (sym is)
    (All-cons (MayAsk F true) root_handle [] (ask-root F roots) (All-nil (MayAsk F true)))

-- the directory at place n
pub folder-at : (F : Files) (tree : Tree) (n : ℕ) (at : InodeHandle) → slice_get (handles_in tree) n ≡ Some at
    → AreFolders F tree → MayAsk F true at
folder-at F tree n at is h = subst (MayAsk F true) (get_or_from_slice_get (handles_in tree) n at at is)
    (All-get_or (MayAsk F true) (handles_in tree) n at (slice_get_within (handles_in tree) n at is) h)

-- the directory at place n is gone through
pub rooted-on : (F : Files) (n : ℕ) (old new : Tree) (at : InodeHandle) → slice_get (handles_in old) n ≡ Some at
    → is_there F at.inode at.generation ≡ true
    → IsRooted F n old → IsRooted F (n + 1) new
rooted-on F n old new at is there (inl first) =
    let root : slice_get (root_handle ∷ []) 0 ≡ Some at =
    subst (λ (k : ℕ). slice_get (root_handle ∷ []) k ≡ Some at) first.0
    (subst (λ (l : List InodeHandle). slice_get l n ≡ Some at) first.1 is) in
    let same : root_handle ≡ at = some-same root_handle at root in
    inr (subst (λ (h : InodeHandle). is_there F h.inode h.generation ≡ true) (sym same) there)
  where
    some-same : (a b : InodeHandle) → Some a ≡ Some b → a ≡ b
    some-same a b h = cc h
rooted-on F n old new at is there (inr was) = inr was

-- no directory stands at place n
pub rooted-end : (F : Files) (n : ℕ) (tree : Tree) → slice_get (handles_in tree) n ≡ None → IsRooted F n tree
    → is_there F 1 1 ≡ true
rooted-end F n tree none (inl first) =
    absurd (some-none root_handle (subst (λ (k : ℕ). slice_get (root_handle ∷ []) k ≡ None) first.0
    (subst (λ (l : List InodeHandle). slice_get l n ≡ None) first.1 none)))
  where
    some-none : (a : InodeHandle) → Some a ≡ None → ⊥
    some-none a h = cc h
rooted-end F n tree none (inr was) = was
