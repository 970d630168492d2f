-- A directory without a leaf has holes behind the slots of its record.
use Rattle.std.proofs.Common.{◌≡◌, ℕ, zero, suc, ◌+◌, ◌*◌, ◌-◌, ◌<◌, ◌≤◌, Bool, true, false, cond, List, Option, Some}
use Rattle.std.proofs.Common.{None, refl, ap, ◌∙◌, subst, arith}
use Rattle.nofs_disk.specs.Pointer.{is_null}
use Rattle.nofs_ptrs.specs.Paths.{Path, InRecord, Under}
use Rattle.nofs_ptrs.specs.PathLaws.{path-leaf}
use Rattle.nofs_dirent.specs.Entries.{entry_limit}
use Rattle.nofs_inode.specs.declared.inode.FileKind.TheVariants.{Directory as Folder}
use Rattle.nofs_inode.specs.declared.inode.Record.{Record}
use Rattle.nofs_disk.specs.Disk.{cell_at}
use Rattle.nofs_ptrs.specs.Cells.{pointer_at}
use Rattle.nofs_model.specs.Geometry.{Image, inode}
use Rattle.nofs_model.specs.Files.{files_in, agreed, Files}
use Rattle.nofs_model.specs.Slots.{agrees, find, judged, value, value_in}
use Rattle.nofs_model.specs.declared.image.path.PathAnswer.{PathAnswer}
use Rattle.nofs_model.specs.declared.image.path.PathAnswer.TheVariants as answer
use Rattle.nofs_model.specs.declared.image.value.Value.TheVariants.{Hole}
use Rattle.nofs_history.specs.History.{FilesMatch}
use Rattle.nofs_names.specs.Searches.Inodes.{slot_end}
use Rattle.nofs_names.specs.Searches.Slots.{first_or, with_holes, Passed}
use Rattle.nofs_names.specs.declared.searches.slots.Unfound.{Unfound}
use Rattle.nofs_names.proofs.OnSearches.Progress.{ends-hole}

-- the slots in the block of a leaf that is not there
pub no-leaf : (X : Image) (d : ℕ) (dr : Record) → inode X d ≡ dr → is_null dr.leaf ≡ true
    → (k : ℕ) → 8 ≤ k → k < 72 → value X d k ≡ Hole
no-leaf X d dr same e k low high =
    let leaf : find X d (InRecord 8) ≡ answer.Hole =
    ap (λ (r : Record). judged X d (InRecord 8) r.leaf) same
    ∙ (λ j. cond (e j) answer.Hole (cond (agrees X d (InRecord 8) dr.leaf) (answer.Holds dr.leaf) answer.Lost)) in
    ap (λ (path : Path). value_in X (find X d path)) (path-leaf k low high)
    ∙ ap (λ (f : PathAnswer). value_in X (elim f [
      | answer.Hole ↦ answer.Hole
      | answer.Holds x ↦ judged X d (Under (InRecord 8) (k - 8)) (pointer_at (cell_at X x.block).payload (k - 8))
      | answer.Lost ↦ answer.Lost
    ])) leaf

or-kept : (o : Option ℕ) (a b : ℕ) → first_or (first_or o (Some a)) (Some b) ≡ first_or o (Some a)
or-kept None a b = refl
or-kept (Some x) a b = refl

module _ (F : Files) (X : Image) (d : ℕ) (dr : Record) (match : FilesMatch F X) (a : agreed (files_in X) d ≡ true)
    (same : inode X d ≡ dr)
    (folder : dr.kind ≡ Some Folder) (name : List ℕ) (w : Bool) (v : Unfound) where
  abbrev held : Unfound
  held = record v { hole = first_or v.hole (Some 8) }

  ends-holes : is_null dr.leaf ≡ true → Passed F d name w (16 * 8) 8 v
      → (n : ℕ) → 9 + n ≤ 72 → Passed F d name w (16 * (9 + n)) (9 + n) held
  ends-holes e p zero fits = ends-hole F X d dr match a same folder 8 name w v (omega arith)
      (no-leaf X d dr same e 8 (omega arith) (omega arith)) p
  ends-holes e p (suc n) fits =
      let k : ℕ = 9 + n in
      let next : k + 1 ≡ 9 + suc n = omega arith in
      subst (λ (l : ℕ). Passed F d name w (16 * l) l held) next
      (subst (λ (o : Option ℕ). Passed F d name w (16 * (k + 1)) (k + 1) (record v { hole = o })) (or-kept v.hole 8 k)
      (ends-hole F X d dr match a same folder k name w held (omega (arith, fits))
      (no-leaf X d dr same e k (omega arith) (omega (arith, fits)))
      (ends-holes e p n (omega (arith, fits)))))

  -- the whole directory was passed
  pub ends-all : Passed F d name w (16 * slot_end dr) (slot_end dr) v
      → Passed F d name w entry_limit 72 (with_holes (slot_end dr) v)
  ends-all p = go (is_null dr.leaf) refl p
    where
      go : (b : Bool) → is_null dr.leaf ≡ b → Passed F d name w (16 * cond b 8 72) (cond b 8 72) v
          → Passed F d name w entry_limit 72 (with_holes (cond b 8 72) v)
      go true e p = ends-holes e p 63 (omega arith)
      go false e p = p
