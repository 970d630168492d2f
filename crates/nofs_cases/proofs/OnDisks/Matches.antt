-- The machine's files on these images are theirs.
use Rattle.std.proofs.Common.{◌≡◌, ℕ, zero, suc, ◌<◌, inl, inr, Bool, true, false, cond, eqb, Option, Some, None, refl}
use Rattle.std.proofs.Common.{sym, ap, ◌∙◌, subst, arith}
use Rattle.nofs_inode.specs.declared.inode.FileKind.TheVariants.{File, Directory}
use Rattle.nofs_inode.specs.declared.inode.FileKind.{FileKind}
use Rattle.nofs_disk.specs.declared.tag.Pointer.{Pointer}
use Rattle.nofs_inode.specs.declared.inode.Record.{Record}
use Rattle.nofs_disk.specs.Tag.{tag_of}
use Rattle.nofs_disk.specs.Pointer.{null, is_null}
use Rattle.nofs_inode.specs.InodeRecords.{is_live}
use Rattle.nofs_ptrs.specs.Paths.{slot_limit, Path, InRecord, path_of, slot_of, is_pointer_slot, IsSlot}
use Rattle.nofs_model.specs.Geometry.{Image, is_data_block, inode}
use Rattle.nofs_disk.specs.Disk.{cell_at}
use Rattle.nofs_model.specs.Slots.{kind_in, tag_for, record_pointer, find, value, value_in}
use Rattle.nofs_model.specs.Files.{node_in, Absent, FileState, files_in, file_from, agreed}
use Rattle.nofs_model.specs.Definitions.{the_root, the_label}
use Rattle.nofs_model.specs.declared.image.path.PathAnswer.{PathAnswer}
use Rattle.nofs_model.specs.declared.image.path.PathAnswer.TheVariants as answer
use Rattle.nofs_model.specs.declared.image.value.Value.{Value}
use Rattle.nofs_model.specs.declared.image.value.Value.TheVariants.{Hole, Bytes}
use Rattle.nofs_model.proofs.OnSlots.Find.{agrees-built, find-built}
use Rattle.nofs_model.proofs.OnFiles.Meanings.{fact-agreed}
use Rattle.nofs_ptrs.specs.PathLaws.{path_of-slot, slot_of-path_of}
use Rattle.nofs_history.specs.History.{SameFile, FilesMatch}
use Rattle.nofs_history.specs.Since.{agreed_files}
use Rattle.nofs_crashlaw.proofs.OnUntouched.Matches.{agreed-files-is}
use Rattle.nofs_crashlaw.specs.Machine.Worlds.{first_slot}
use Rattle.nofs_cases.specs.Disks.Worlds.{three_files}
use Rattle.nofs_cases.proofs.OnDisks.Slots.{IsPlain, slot-is, not-under, empty-value}

-- Agreement of the root and of the label file

pub root-agreed : (X : Image) → (inode X 1).kind ≡ Some Directory
    → (inode X 1).generation ≡ 1 → agreed (files_in X) 1 ≡ true
root-agreed X k g = fact-agreed X 1 (the_root k g)

pub label-agreed : (X : Image) → (inode X 2).kind ≡ Some File
    → (inode X 2).generation ≡ 2 → agreed (files_in X) 2 ≡ true
label-agreed X k g = fact-agreed X 2 (the_label k g)

-- Slot 0

-- the tag of a block in slot 0
pub first-tag : (X : Image) (i : ℕ) (r : Record) (stamp : ℕ) → inode X i ≡ r
    → tag_for X i (InRecord 0) stamp
    ≡ record { kind = kind_in r (InRecord 0); inode = i; generation = r.generation; slot = 0; stamp = stamp }
unfolding slot_of
first-tag X i r stamp e = ap (λ (q : Record).
    record { kind = kind_in q (InRecord 0); inode = i; generation = q.generation; slot = 0; stamp = stamp }) e

pub first-holds : (X : Image) (i : ℕ) (x : Pointer) → IsPlain (inode X i) x
    → is_live (inode X i) ≡ true → is_data_block X x.block ≡ true
    → tag_of (cell_at X x.block).tag ≡ Some (tag_for X i (InRecord 0) x.stamp) → is_null x ≡ false
    → find X i (InRecord 0) ≡ answer.Holds x
first-holds X i x is live area tag some =
    find-built X i (InRecord 0) x tt (ap (λ (r : Record). record_pointer r 0) is)
    (agrees-built X i (InRecord 0) x (record { live = live; area = area; tag = tag })) some

-- the first slot is slot 0 alone
first-alone : (k : ℕ) → k < slot_limit → path_of k ≡ InRecord 0 → k ≡ 0
unfolding slot_of
first-alone k lt e = sym (slot_of-path_of k lt) ∙ ap slot_of e

pub first-value : (X : Image) (i : ℕ) (x : Pointer) → IsPlain (inode X i) x → find X i (InRecord 0) ≡ answer.Holds x
    → (k : ℕ) → k < slot_limit
    → first_slot (Bytes (cell_at X x.block).payload) k ≡ value X i k
unfolding path_of
first-value X i x is holds zero lt = sym (ap (λ (f : PathAnswer). value_in X f) holds)
first-value X i x is holds (suc m) lt = elim (slot-is X i x is (path_of (suc m)) (path_of-slot (suc m) lt)) [
  | inl e ↦ absurd (let z = first-alone (suc m) lt e in omega (arith, z))
  | inr z ↦ rw (ne m) (sym (ap (λ (f : PathAnswer). value_in X f) z))
]
  where
    ne : (m : ℕ) → eqb (suc m) 0 ≡ false
    ne m = grind arith

hole-value : (X : Image) (i : ℕ) → IsPlain (inode X i) null → (k : ℕ) → k < slot_limit → first_slot Hole k ≡ value X i k
hole-value X i is k lt = go (eqb k 0) ∙ sym (empty-value X i is k lt)
  where
    go : (b : Bool) → cond {A = Value} b Hole Hole ≡ Hole
    go true = refl
    go false = refl

-- no block of pointers
no-node : (X : Image) (i : ℕ) (x : Pointer) → IsPlain (inode X i) x → (path : Path) → IsSlot path
    → is_pointer_slot path ≡ true
    → Absent ≡ node_in (find X i path)
no-node X i x is path slot points = elim (slot-is X i x is path slot) [
  | inl e ↦ absurd (not-under path points e)
  | inr z ↦ sym (ap node_in z)
]

-- Files

-- the file of a record
abbrev pub file_of : Record → FileKind → Value → FileState
file_of r kind v = record {
  generation = r.generation;
  kind = kind;
  size = r.size;
  links = r.links;
  values = first_slot v;
  nodes = λ path. Absent;
}

pub agreed-file : (X : Image) (i : ℕ) (kind : FileKind) → (inode X i).kind ≡ Some kind → agreed (files_in X) i ≡ true
    → agreed_files X i ≡ file_from X i (Some kind)
agreed-file X i kind e a = agreed-files-is X i ∙ ap (λ (b : Bool). cond b (files_in X i) None) a
    ∙ ap (λ (k : Option FileKind). file_from X i k) e

same-file : (X : Image) (i : ℕ) (r : Record) (kind : FileKind) (v : Value) (x : Pointer)
    → inode X i ≡ r → r.kind ≡ Some kind → IsPlain (inode X i) x
    → agreed (files_in X) i ≡ true
    → ((k : ℕ) → k < slot_limit → first_slot v k ≡ value X i k) → SameFile (Some (file_of r kind v)) (agreed_files X i)
same-file X i r kind v x e k is a values =
    subst (SameFile (Some (file_of r kind v)))
    (sym (agreed-file X i kind (ap (λ (q : Record). q.kind) e ∙ k) a)) (record {
      generation = sym (ap (λ (q : Record). q.generation) e);
      kind = refl;
      size = sym (ap (λ (q : Record). q.size) e);
      links = sym (ap (λ (q : Record). q.links) e);
      values = values;
      nodes = λ path slot points. no-node X i x is path slot points;
    })

-- a file without a block
pub same-empty : (X : Image) (i : ℕ) (r : Record) (kind : FileKind) → inode X i ≡ r → r.kind ≡ Some kind
    → IsPlain (inode X i) null
    → agreed (files_in X) i ≡ true → SameFile (Some (file_of r kind Hole)) (agreed_files X i)
same-empty X i r kind e k is a = same-file X i r kind Hole null e k is a (hole-value X i is)

-- a file with one block
pub same-first : (X : Image) (i : ℕ) (r : Record) (kind : FileKind) (x : Pointer) → inode X i ≡ r → r.kind ≡ Some kind
    → IsPlain (inode X i) x
    → agreed (files_in X) i ≡ true → find X i (InRecord 0) ≡ answer.Holds x
    → SameFile (Some (file_of r kind (Bytes (cell_at X x.block).payload))) (agreed_files X i)
same-first X i r kind x e k is a holds =
    same-file X i r kind (Bytes (cell_at X x.block).payload) x e k is a (first-value X i x is holds)

-- no file
pub none-is : (X : Image) (i : ℕ) → (inode X i).kind ≡ None → agreed_files X i ≡ None
none-is X i e = agreed-files-is X i
    ∙ ap (λ (k : Option FileKind). cond (agreed (files_in X) i) (file_from X i k) None) e ∙ go (agreed (files_in X) i)
  where
    go : (b : Bool) → cond {A = Option FileState} b None None ≡ None
    go true = refl
    go false = refl

pub same-none : (X : Image) (i : ℕ) → (inode X i).kind ≡ None → SameFile None (agreed_files X i)
same-none X i e = subst (SameFile None) (sym (none-is X i e)) tt

-- three files
pub files-match : (X : Image) (root label : FileState) (third : Option FileState)
    → (inode X 0).kind ≡ None → SameFile (Some root) (agreed_files X 1)
    → SameFile (Some label) (agreed_files X 2) → SameFile third (agreed_files X 3)
    → ((n : ℕ) → (inode X (suc (suc (suc (suc n))))).kind ≡ None) → FilesMatch (three_files root label third) X
files-match X root label third none a b c past zero = same-none X 0 none
files-match X root label third none a b c past (suc zero) = a
files-match X root label third none a b c past (suc (suc zero)) = b
files-match X root label third none a b c past (suc (suc (suc zero))) = c
files-match X root label third none a b c past (suc (suc (suc (suc n)))) =
    subst (λ (o : Option FileState). SameFile o (agreed_files X (suc (suc (suc (suc n)))))) (sym (beyond n))
    (same-none X (suc (suc (suc (suc n)))) (past n))
  where
    apart : (n k : ℕ) → k < 4 → eqb (suc (suc (suc (suc n)))) k ≡ false
    apart n k lt = grind (arith, lt)

    beyond : (n : ℕ) → three_files root label third (suc (suc (suc (suc n)))) ≡ None
    beyond n = rw (apart n 1 (omega arith), apart n 2 (omega arith), apart n 3 (omega arith)) refl
