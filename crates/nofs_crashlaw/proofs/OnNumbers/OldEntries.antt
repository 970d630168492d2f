-- Rename and Drop: the numbers in what they write.
use Rattle.std.proofs.Common.{◌≡◌, ◌≢◌, ℕ, ◌/◌, ◌%◌, ◌<◌, ◌⊎◌, inl, inr, Bool, true, false, cond, eqb, List, [], ◌∷◌}
use Rattle.std.proofs.Common.{length, Option, Some, IfSome, refl, sym}
use Rattle.std.proofs.Common.{ap, ◌∙◌, subst, arith, Contains, eqb-true, eq-eqb}
use Rattle.std.proofs.lemmas.List.Elements.{Contains-append_left, Contains-append_right, Contains-append_cases}
use Rattle.nofs_disk.specs.declared.tag.Pointer.{Pointer}
use Rattle.nofs_inode.specs.declared.inode.BackLink.{BackLink}
use Rattle.nofs_dirent.specs.declared.entry.Entry.{Entry}
use Rattle.nofs_disk.specs.Tag.{tag_of}
use Rattle.nofs_dirent.specs.Entries.{entry_of, entry_in, spelled_entry, entry_limit}
use Rattle.nofs_ptrs.specs.Paths.{slot_limit, path_of}
use Rattle.nofs_model.specs.Geometry.{Image, inode}
use Rattle.nofs_disk.specs.Disk.{cell_at}
use Rattle.nofs_model.specs.Slots.{find}
use Rattle.nofs_model.specs.Files.{FileState, is_folder, entry_held}
use Rattle.nofs_model.specs.declared.image.path.PathAnswer.TheVariants as answer
use Rattle.nofs_model.specs.declared.image.value.Value.{Value}
use Rattle.nofs_model.specs.declared.image.value.Value.TheVariants.{Bytes}
use Rattle.nofs_model.proofs.OnSlots.Find.{find-held}
use Rattle.nofs_ptrs.specs.PathLaws.{path_of-slot}
use Rattle.nofs_history.specs.Machine.{zero_bytes, with_entry, link_to, same_link, without_link}
use Rattle.nofs_history.specs.History.{FilesMatch}
use Rattle.nofs_history.specs.World.{World}
use Rattle.nofs_history.specs.declared.machine.history.Claims.{Claims}
use Rattle.nofs_crashlaw.proofs.OnUntouched.Matches.{matched-file}
use Rattle.nofs_crashlaw.proofs.OnUntouched.Frames.{some-is}
use Rattle.nofs_crashlaw.proofs.OnNames.EntryCells.{no-entry}
use Rattle.nofs_crashlaw.specs.Maps.Fresh.{Numbered, Old, CellNumbers}
use Rattle.nofs_crashlaw.specs.Maps.Pieces.{Before}
use Rattle.nofs_crashlaw.proofs.OnMaps.Fresh.{sole-is}
use Rattle.nofs_crashlaw.specs.Names.OldEntries.{Relinked}
use Rattle.nofs_crashlaw.proofs.OnNames.Files.{file-of}
use Rattle.nofs_crashlaw.proofs.OnNames.Renames.{entry-parts, value-held}
use Rattle.nofs_crashlaw.specs.Numbers.Cells.{OldNumbers, Held, RecordWritten, AsBefore, Changed, Freed}
use Rattle.nofs_crashlaw.specs.Numbers.Names.{LawRenameNumbers, LawDropNumbers}
use Rattle.nofs_crashlaw.proofs.OnNumbers.Files.{entries-here}
use Rattle.nofs_crashlaw.proofs.OnNumbers.Cells.{held-entries, old-generation, law-directory-numbers}

-- the bytes of an entry name a number where the entry does
pub entry-number : (W : World) (c : Claims) (bytes : List ℕ) (entry : Entry) → entry_of bytes ≡ Some entry
    → Numbered W c entry.generation
    → IfSome (entry_of bytes) (λ (n : Entry). Numbered W c n.generation)
entry-number W c bytes entry e number =
    subst (λ (q : Option Entry). IfSome q (λ (n : Entry). Numbered W c n.generation)) (sym e) number

-- the generation of a file is old
pub file-number : (W : World) (c : Claims) (X : Image) (j : ℕ) (f : FileState) → OldNumbers W X → FilesMatch W.files X
    → W.files j ≡ Some f
    → Numbered W c f.generation
file-number W c X j f o match is = subst (Numbered W c) (sym (file-of W.files X j f match is).1.generation)
    (old-generation W c X j o (matched-file W.files X j match (some-is (W.files j) f is)).live)

-- one entry is written in place
pub entry-in-place : (W : World) (c : Claims) (X Y : Image) (d e : ℕ) (bytes : List ℕ) (f : FileState) (x : Pointer)
    → OldNumbers W X → FilesMatch W.files X
    → W.files d ≡ Some f → is_folder f.kind ≡ true → e < entry_limit
    → find X d (path_of (e / 16)) ≡ answer.Holds x
    → length (cell_at X x.block).payload ≡ 1024 → tag_of (cell_at Y x.block).tag ≡ tag_of (cell_at X x.block).tag
    → length bytes ≡ 64 → Bytes (cell_at Y x.block).payload ≡ with_entry (Bytes (cell_at X x.block).payload) e bytes
    → IfSome (entry_of bytes) (λ (n : Entry). Numbered W c n.generation)
    → CellNumbers (Numbered W c) X x.block (cell_at Y x.block)
entry-in-place W c X Y d e bytes f x o match is folder lt held full tag whole content number =
    let range : e / 16 < slot_limit = omega (arith, lt) in
    let h = find-held X d (path_of (e / 16)) x held in
    law-directory-numbers W c X d (path_of (e / 16)) x (cell_at Y x.block) (Bytes (cell_at X x.block).payload) e bytes o
    (record {
      live = h.agrees.live;
      slot = path_of-slot (e / 16) range;
      area = h.agrees.area;
      tag = tag ∙ h.agrees.tag;
      from = Before h.same;
    })
    (entries-here X d (e / 16) f (file-of W.files X d f match is).0 folder range)
    (record { before = Held x held full refl; whole = whole; content = content; number = number })

pub law-rename-numbers : LawRenameNumbers
law-rename-numbers W X Y d g e s new f x entry c o p =
    entry-in-place W c X Y d e (spelled_entry entry.inode entry.generation new)
    f x o p.files p.is parts.0 parts.1 p.held p.whole p.writes.tag p.spells.short p.content
    (entry-number W c (spelled_entry entry.inode entry.generation new)
    (record { inode = entry.inode; generation = entry.generation; name = new })
    p.spells.reads was)
  where
    parts : (is_folder f.kind ≡ true) × (e < entry_limit) × (entry_held (f.values (e / 16)) e ≡ Some entry)
    parts = entry-parts (W.files d) f e entry p.is p.found

    range : e / 16 < slot_limit
    range = let lt = parts.1 in omega (arith, lt)

    -- the entry stood in the cell
    here : entry_in (cell_at X x.block).payload (e % 16) ≡ Some entry
    here = ap (λ (v : Value). entry_held v e)
        (sym (value-held W.files X d (e / 16) f x p.files p.is range p.held)) ∙ parts.2

    was : Numbered W c entry.generation
    was = subst (λ (q : Option Entry). IfSome q (λ (n : Entry). Numbered W c n.generation)) here
        (held-entries W c X d (path_of (e / 16)) x o
        (entries-here X d (e / 16) f (file-of W.files X d f p.files p.is).0 parts.0 range) p.held (e % 16)
        (omega arith))

-- Records

-- the links of a record, where one is cleared
without-cases : (link : BackLink) (ls : List BackLink) (l : BackLink) → Contains (without_link link ls) l
    → Contains ls l ⊎ (l ≡ link_to 0 0 0)
without-cases link [] l has = inl has
without-cases link (k ∷ ks) l has =
    elim (Contains-append_cases (cond (same_link k link) (link_to 0 0 0) k ∷ []) (without_link link ks) l has) [
      | inl here ↦ first (same_link k link) (sole-is (cond (same_link k link) (link_to 0 0 0) k) l here)
      | inr there ↦
          elim (without-cases link ks l there) [ inl t ↦ inl (Contains-append_right (k ∷ []) ks l t) | inr z ↦ inr z ]
    ]
  where
    first : (b : Bool) → cond b (link_to 0 0 0) k ≡ l → Contains (k ∷ ks) l ⊎ (l ≡ link_to 0 0 0)
    first true e = inr (sym e)
    first false e = inl (Contains-append_left (k ∷ []) ks l (0, omega arith, e))

-- the record whose links alone change
pub relinked-record : (W : World) (c : Claims) (X Y : Image) (i : ℕ) (h : FileState) (links : List BackLink)
    → FilesMatch W.files X → W.files i ≡ Some h
    → Relinked X Y i links
    → ((l : BackLink) → Contains links l → Contains h.links l ⊎ Numbered W c l.generation)
    → RecordWritten W c X i (inode Y i)
relinked-record W c X Y i h links match is r from = Changed (record {
  live = (matched-file W.files X i match (some-is (W.files i) h is)).live;
  generation = r.generation;
  links = λ l has. elim (from l (subst (λ (ls : List BackLink). Contains ls l) r.links has)) [
    | inl there ↦ inl (subst (λ (ls : List BackLink). Contains ls l) (file-of W.files X i h match is).1.links there)
    | inr new ↦ inr new
  ];
  pointers = λ n lt. Before (sym (r.pointers n lt));
})

-- and every other stays
pub one-record : (W : World) (c : Claims) (X Y : Image) (i : ℕ) → ((j : ℕ) → j ≢ i → inode Y j ≡ inode X j)
    → RecordWritten W c X i (inode Y i) → (j : ℕ)
    → RecordWritten W c X j (inode Y j)
one-record W c X Y i others own j = go (eqb j i) refl
  where
    go : (t : Bool) → eqb j i ≡ t → RecordWritten W c X j (inode Y j)
    go true e = subst (λ (q : ℕ). RecordWritten W c X q (inode Y q)) (sym (eqb-true j i e)) own
    go false e = AsBefore (others j (λ q. let t = eq-eqb j i q in cc (e, t)))

pub law-drop-numbers : LawDropNumbers
law-drop-numbers W X Y d g e s f h x entry c o p = (
  (let parts = entry-parts (W.files d) f e entry p.is p.found in
      entry-in-place W c X Y d e
      (zero_bytes 64) f x o p.files p.is parts.0 parts.1 p.held p.whole p.writes.tag refl p.content
      (subst (λ (q : Option Entry). IfSome q (λ (n : Entry). Numbered W c n.generation)) (sym no-entry) tt)),
  λ what. one-record W c X Y entry.inode p.writes.records (elim what [
    | inl r ↦ relinked-record W c X Y entry.inode h (without_link (link_to d e g) h.links) p.files p.named r
        (λ l has. elim (without-cases (link_to d e g) h.links l has) [
          | inl there ↦ inl there
          | inr z ↦ inr (subst (λ (q : BackLink). Numbered W c q.generation) (sym z) (Old o.positive))
        ])
    | inr free ↦ Freed (rw free refl)
  ]),
)
