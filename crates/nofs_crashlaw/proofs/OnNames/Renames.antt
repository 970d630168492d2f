-- Rename: the found entry's name is written in place.
use Rattle.std.proofs.Common.{◌≡◌, ◌≢◌, ℕ, ◌/◌, ◌%◌, ◌<◌, Bool, true, false, cond, eqb, ltb, ◌&&◌, List, length, Option}
use Rattle.std.proofs.Common.{Some, None, is_some, refl, sym, ap, ◌∙◌, subst, subst₂, arith, eqb-true, eq-eqb, ltb-true}
use Rattle.nofs_model.specs.declared.image.path.PathAnswer.{PathAnswer}
use Rattle.nofs_crashlaw.specs.Images.Proper.{Proper}
use Rattle.nofs_crashlaw.specs.Images.Moments.{during}
use Rattle.nofs_crashlaw.specs.Untouched.Frames.{OldPointers}
use Rattle.nofs_model.proofs.OnSlots.Find.{and-both}
use Rattle.nofs_crashlaw.proofs.OnUntouched.Frames.{some-is}
use Rattle.nofs_crashlaw.proofs.OnNames.Entries.{SameDirectory, match-entry}
use Rattle.nofs_crashlaw.proofs.OnFiles.Given.{value-of}
use Rattle.nofs_crashlaw.proofs.OnNames.EntryCells.{entry-here, entry-there}
use Rattle.nofs_crashlaw.proofs.OnNames.Files.{file-of}
use Rattle.nofs_crashlaw.proofs.OnNames.Steps.{pair-named, entry-range, file-lone, entry-new, directory-after}
use Rattle.nofs_crashlaw.proofs.OnNames.Steps.{kin-after, same-after, rest-after, folder-after}
use Rattle.nofs_crashlaw.proofs.OnNames.InPlace.{in-place-writes, cell-proper, directory-in-place, cell-gives}
use Rattle.nofs_crashlaw.proofs.OnNames.InPlace.{cell-elsewhere, no-zero, no-file-zero}
use Rattle.nofs_model.specs.declared.image.path.PathAnswer.TheVariants as answer
use Rattle.nofs_history.specs.Marks.{Mark}
use Rattle.nofs_history.specs.Machine.{Given, files_after, file_after, born_file, value_of, bytes_in, with_entry}
use Rattle.nofs_history.specs.Machine.{cell_given, entry_given, rename_given, nothing, no_meta}
use Rattle.nofs_history.specs.History.{FilesMatch, SameFile}
use Rattle.nofs_dirent.specs.declared.entry.Entry.{Entry}
use Rattle.nofs_disk.specs.declared.tag.Pointer.{Pointer}
use Rattle.nofs_inode.specs.declared.inode.Record.{Record}
use Rattle.nofs_dirent.specs.Entries.{spelled_entry, entry_limit}
use Rattle.nofs_ptrs.specs.Paths.{slot_limit, path_of}
use Rattle.nofs_dirent.specs.EntryLaws.{Spells}
use Rattle.nofs_model.specs.Geometry.{Image, is_data_block}
use Rattle.nofs_disk.specs.Disk.{cell_at}
use Rattle.nofs_model.specs.Files.{file_from, files_in, FileState, Files, is_folder}
use Rattle.nofs_model.specs.Slots.{value_in, find}
use Rattle.nofs_model.specs.Files.{entry_held, entry_in_file, entry_at, names}
use Rattle.nofs_model.specs.declared.image.value.Value.{Value}
use Rattle.nofs_model.specs.declared.image.value.Value.TheVariants.{Bytes}
use Rattle.nofs_history.specs.Gives.{GivesNothing, GivesCell}
use Rattle.nofs_crashlaw.specs.Names.OldEntries.{InPlace, NameWrites}

-- an entry stands in a directory, in one of its 1,152 places
pub entry-parts : (o : Option FileState) (f : FileState) (e : ℕ) (entry : Entry) → o ≡ Some f
    → entry_in_file o e ≡ Some entry
    → (is_folder f.kind ≡ true) × (e < entry_limit) × (entry_held (f.values (e / 16)) e ≡ Some entry)
entry-parts o f e entry is h = go (is_folder f.kind) refl (ltb e entry_limit) refl
    (subst (λ (p : Option FileState). entry_in_file p e ≡ Some entry) is h)
  where
    go : (a : Bool) → is_folder f.kind ≡ a → (b : Bool)
        → ltb e entry_limit ≡ b → cond (a && b) (entry_held (f.values (e / 16)) e) None ≡ Some entry
        → (is_folder f.kind ≡ true) × (e < entry_limit) × (entry_held (f.values (e / 16)) e ≡ Some entry)
    go true ea true eb h = (ea, ltb-true e entry_limit eb, h)
    go true ea false eb h = cc
    go false ea b eb h = cc

-- the machine's value of a slot that holds
pub value-held : (F : Files) (X : Image) (d k : ℕ) (f : FileState) (x : Pointer) → FilesMatch F X → F d ≡ Some f
    → k < slot_limit
    → find X d (path_of k) ≡ answer.Holds x → f.values k ≡ Bytes (cell_at X x.block).payload
value-held F X d k f x match is lt held = (file-of F X d f match is).1.values k lt
    ∙ ap (λ (q : PathAnswer). value_in X q) held

module _ (F : Files) (X Y : Image) (d g e s : ℕ) (new : List ℕ) (f : FileState) (x : Pointer) (entry : Entry)
    (match : FilesMatch F X) (is : F d ≡ Some f) (gen : f.generation ≡ g) (found : entry_at F d e ≡ Some entry)
    (held : find X d (path_of (e / 16)) ≡ answer.Holds x) (whole : length (cell_at X x.block).payload ≡ 1024)
    (spells : Spells (spelled_entry entry.inode entry.generation new)
    (record { inode = entry.inode; generation = entry.generation; name = new }))
    (content : Bytes (cell_at Y x.block).payload ≡ with_entry (Bytes (cell_at X x.block).payload) e
    (spelled_entry entry.inode entry.generation new))
    (writes : InPlace X Y x 0) (old : (j : ℕ) → is_some (F j) ≡ true → OldPointers s X j) where
  abbrev bytes : List ℕ
  bytes = spelled_entry entry.inode entry.generation new

  parts : (is_folder f.kind ≡ true) × (e < entry_limit) × (entry_held (f.values (e / 16)) e ≡ Some entry)
  parts = entry-parts (F d) f e entry is found

  range : e / 16 < slot_limit
  range = let lt = (entry-parts (F d) f e entry is found).1 in omega (arith, lt)

  was : f.values (e / 16) ≡ Bytes (cell_at X x.block).payload
  was = value-held F X d (e / 16) f x match is range held

  given-is : rename_given F d g new e ≡ cell_given d g (e / 16)
      (with_entry (value_of F d (e / 16)) e (spelled_entry entry.inode entry.generation new)) no_meta
  given-is = ap (λ (o : Option Entry).
      elim o [ None ↦ nothing | Some q ↦ entry_given F d g e (spelled_entry q.inode q.generation new) no_meta ]) found

  abbrev cell : Value
  cell = with_entry (f.values (e / 16)) e (spelled_entry entry.inode entry.generation new)

  given-at : rename_given F d g new e ≡ cell_given d g (e / 16)
      (with_entry (f.values (e / 16)) e (spelled_entry entry.inode entry.generation new)) no_meta
  given-at = given-is ∙ ap
      (λ (u : Value). cell_given d g (e / 16) (with_entry u e (spelled_entry entry.inode entry.generation new)) no_meta)
      (value-of F d f is (e / 16))

  content-at : Bytes (cell_at Y x.block).payload ≡ with_entry (f.values (e / 16)) e
      (spelled_entry entry.inode entry.generation new)
  content-at = content ∙ ap (λ (u : Value). with_entry u e (spelled_entry entry.inode entry.generation new)) (sym was)

  gives : GivesCell (rename_given F d g new e) d f.generation (e / 16)
      (with_entry (f.values (e / 16)) e (spelled_entry entry.inode entry.generation new))
  gives = subst₂ (λ (q : Given) (h : ℕ). GivesCell q d h (e / 16)
      (with_entry (f.values (e / 16)) e (spelled_entry entry.inode entry.generation new)))
      (sym given-at) (sym gen)
      (cell-gives d g (e / 16)
      (with_entry (f.values (e / 16)) e (spelled_entry entry.inode entry.generation new)) no_meta refl)

  else-nothing : (j : ℕ) → j ≢ d → j ≢ 0 → GivesNothing (rename_given F d g new e) j
  else-nothing j nd nz = subst (λ (q : Given). GivesNothing q j) (sym given-at)
      (cell-elsewhere d g (e / 16)
      (with_entry (f.values (e / 16)) e (spelled_entry entry.inode entry.generation new)) no_meta j nd (λ h. refl))

  -- the write is proper
  pub rename-proper : (m : Mark) → is_data_block m.image x.block ≡ true
      → Proper (during m (rename_given F d g new e)) X x.block (cell_at Y x.block)
  rename-proper m area = cell-proper F X d (e / 16) f x m (rename_given F d g new e)
      (cell_at Y x.block) match is range held area writes.tag slot
    where
      slot : (rename_given F d g new e).slots d f.generation (e / 16) ≡ Some (Bytes (cell_at Y x.block).payload)
      slot = gives.slots (e / 16) ∙ rw (eq-eqb (e / 16) (e / 16) refl) (ap Some (sym content-at))

  zero-none : F 0 ≡ None
  zero-none = no-file-zero F X match

  apart : 0 ≢ d
  apart z = let n : F d ≡ None = subst (λ (q : ℕ). F q ≡ None) z zero-none in cc (n, is)

  zero-after : files_after F (rename_given F d g new e) 0 ≡ None
  zero-after = ap (λ (o : Option ℕ). file_after (rename_given F d g new e) 0 (born_file o (F 0))) born
      ∙ ap (λ (o : Option FileState). file_after (rename_given F d g new e) 0 o) zero-none
    where
      born : (rename_given F d g new e).born 0 ≡ None
      born = ap (λ (q : Given). q.born 0) given-at

  whole-at : length (bytes_in (f.values (e / 16))) ≡ 1024
  whole-at = ap (λ (u : Value). length (bytes_in u)) was ∙ whole

  stay : (l : ℕ) → l % 16 ≢ e % 16 → l / 16 ≡ e / 16
      → entry_held (with_entry (f.values (e / 16)) e (spelled_entry entry.inode entry.generation new))
      l ≡ entry_held (f.values (e / 16)) l
  stay l ne same = entry-there (f.values (e / 16)) e l
      (spelled_entry entry.inode entry.generation new) whole-at spells.short (λ lost. cc (lost, was)) ne

  none-false : (o : Option FileState) → o ≡ None → is_some o ≡ true → ⊥
  none-false None a b = cc
  none-false (Some q) a b = cc

  w : NameWrites s d 0 X Y
  w = in-place-writes s d 0 (e / 16) X Y x held writes

  directory : SameFile (files_after F (rename_given F d g new e) d) (files_in Y d)
  directory = directory-in-place s F (rename_given F d g new e) X Y d 0 (e / 16) f x
      (with_entry (f.values (e / 16)) e (spelled_entry entry.inode entry.generation new)) match is apart range
      (old d (some-is (F d) f is))
      gives held writes content-at

  own : is_some (files_after F (rename_given F d g new e) 0) ≡ true
      → SameFile (files_after F (rename_given F d g new e) 0) (files_in Y 0)
  own some = absurd (none-false (files_after F (rename_given F d g new e) 0) zero-after some)

  same-names : SameDirectory (F d) (files_after F (rename_given F d g new e) d) e
  same-names = record {
    is = folder-after F
        (rename_given F d g new e) X Y d e 0 s f cell match is apart gives else-nothing stay w old directory own;
    names = λ i h. ap (λ (o : Option Entry). names o i h) found ∙ sym (ap (λ (o : Option Entry). names o i h)
        (entry-new F (rename_given F d g new e) X Y d e 0 s f cell match is apart gives else-nothing stay w old
        directory own parts.0 parts.1
        ∙ entry-here (f.values (e / 16)) e (spelled_entry entry.inode entry.generation new) whole-at spells.short
        ∙ spells.reads));
  }

  pub rename-matches : FilesMatch (files_after F (rename_given F d g new e)) Y
  rename-matches = match-entry F (files_after F (rename_given F d g new e)) X Y d entry_limit 0 match
      (kin-after F
      (rename_given F d g new e) X Y d e 0 s f cell match is apart gives else-nothing stay w old directory own)
      (λ j k fs es off. elsewhere j k fs)
      (λ j link ne has pair ed ee. let n = pair-named (F j) (F link.directory) j link pair in let lt =
      entry-range (F link.directory) link.entry j n.0 n.1 in omega (arith, lt, ee))
      (λ j link ne has pair. file-lone F 0 (λ h eh. cc (eh, zero-none)) j link pair)
      (λ j h ne. past (files_after F (rename_given F d g new e) d) j h)
      (λ none k j h. ap (λ (o : Option FileState). names (entry_in_file o k) j h) zero-after)
      (λ some. absurd (none-false (files_after F (rename_given F d g new e) 0) zero-after some))
      (same-after F
      (rename_given F d g new e) X Y d e 0 s f cell match is apart gives else-nothing stay w old directory own)
      (rest-after F
      (rename_given F d g new e) X Y d e 0 s f cell match is apart gives else-nothing stay w old directory own)
      (λ none. ap (λ (r : Record). file_from Y 0 r.kind) (no-zero Y))
    where
      past : (o : Option FileState) (j h : ℕ) → names (entry_in_file o entry_limit) j h ≡ false
      past None j h = refl
      past (Some q) j h = go (is_folder q.kind)
        where
          go : (b : Bool) → names (cond (b && false) (entry_held (q.values 72) entry_limit) None) j h ≡ false
          go true = refl
          go false = refl

      elsewhere : (j k : ℕ) → is_some (F j) ≡ true → SameDirectory (F j) (files_after F (rename_given F d g new e) j) k
      elsewhere j k fs = go (eqb j d && eqb k e) refl
        where
          nz : j ≢ 0
          nz z = none-false (F j) (subst (λ (q : ℕ). F q ≡ None) (sym z) zero-none) fs

          go : (b : Bool)
              → (eqb j d && eqb k e) ≡ b → SameDirectory (F j) (files_after F (rename_given F d g new e) j) k
          go true q =
              let a = and-both (eqb j d) (eqb k e) q in
              subst₂ (λ (u v : ℕ). SameDirectory (F u) (files_after F (rename_given F d g new e) u) v)
              (sym (eqb-true j d a.0)) (sym (eqb-true k e a.1))
              same-names
          go false q = directory-after F (rename_given F d g new e) X Y d e 0 s f cell match is apart gives else-nothing
              stay w old directory own j k nz
              (λ ej ek. let z : (eqb j d && eqb k e) ≡ true = rw (eq-eqb j d ej, eq-eqb k e ek) refl in cc (q, z))
