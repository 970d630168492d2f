-- Where a new entry goes: its slot holds, or is a hole.
use Rattle.std.proofs.Common.{◌≡◌, ◌≢◌, ℕ, ◌*◌, ◌/◌, ◌<◌, ◌⊎◌, inl, inr, true, false, ◌&&◌, not, List, Option}
use Rattle.std.proofs.Common.{Some, None, is_some, refl, sym, ap, ◌∙◌, subst, arith}
use Rattle.nofs_dirent.specs.Entries.{entry_limit}
use Rattle.nofs_dirent.specs.declared.entry.Entry.{Entry}
use Rattle.nofs_disk.specs.declared.tag.Pointer.{Pointer}
use Rattle.nofs_ptrs.specs.Paths.{slot_limit, path_of}
use Rattle.nofs_model.specs.Slots.{value_in, find}
use Rattle.nofs_model.specs.Files.{FileState, Files, entry_held, entry_at}
use Rattle.nofs_model.specs.declared.image.path.PathAnswer.{PathAnswer}
use Rattle.nofs_model.specs.declared.image.path.PathAnswer.TheVariants as answer
use Rattle.nofs_model.specs.declared.image.value.Value.{Value}
use Rattle.nofs_model.specs.declared.image.value.Value.TheVariants.{Hole, Bytes, Lost}
use Rattle.nofs_model.proofs.OnSlots.Find.{and-both}
use Rattle.nofs_history.specs.Meta.{is_bytes}
use Rattle.nofs_history.specs.Search.{least_from}
use Rattle.nofs_history.specs.Machine.{value_of, entry_has_name, is_paired, is_hole, first_dead, place_for}
use Rattle.nofs_crashlaw.proofs.OnFiles.Given.{value-of}
use Rattle.nofs_crashlaw.proofs.OnNames.Files.{file-of}
use Rattle.nofs_crashlaw.proofs.OnNames.Renames.{entry-parts}
use Rattle.nofs_crashlaw.proofs.OnNames.Premises.{least-passes, place-unpaired, by-place}
use Rattle.nofs_crashlaw.specs.Names.Places.{LawEntryPlace}

-- a value that has an entry has bytes
not-lost-held : (v : Value) (e : ℕ) (entry : Entry) → entry_held v e ≡ Some entry → v ≢ Lost
not-lost-held (Bytes c) e entry h q = cc q
not-lost-held Hole e entry h q = cc q
not-lost-held Lost e entry h q = cc h

not-lost-bytes : (v : Value) → is_bytes v ≡ true → v ≢ Lost
not-lost-bytes (Bytes c) h q = cc q
not-lost-bytes Hole h q = cc q
not-lost-bytes Lost h q = cc h

not-lost-hole : (v : Value) → is_hole v ≡ true → v ≢ Lost
not-lost-hole Hole h q = cc q
not-lost-hole (Bytes c) h q = cc q
not-lost-hole Lost h q = cc h

module _ (F : Files) (d : ℕ) (name : List ℕ) (f : FileState) (is : F d ≡ Some f) where
  -- the place of an entry is in range, and its slot is not lost
  abbrev Fit : ℕ → Type 0
  Fit e = (e < entry_limit) × (value_of F d (e / 16) ≢ Lost)

  fit-dead : (e : ℕ) → first_dead F d name ≡ Some e → Fit e
  unfolding first_dead
  fit-dead e h =
      let p = least-passes (λ k. entry_has_name F d name k && not (is_paired F d k)) 0 entry_limit e h in
      let a = and-both (entry_has_name F d name e) (not (is_paired F d e)) p.0 in
      let lt = p.1 in
      (omega (arith, lt), there (entry_at F d e) refl a.0)
    where
      there : (o : Option Entry) → entry_at F d e ≡ o → entry_has_name F d name e ≡ true → value_of F d (e / 16) ≢ Lost
      there (Some entry) eo q lost = not-lost-held (f.values (e / 16)) e entry
          (entry-parts (F d) f e entry is eo).2 (sym (value-of F d f is (e / 16)) ∙ lost)
      there None eo q lost =
          absurd (let z : entry_has_name F d name e ≡ false = rw (eo, entry_has_name) refl in cc (q, z))

  fit-new : (e : ℕ) → least_from (λ k. is_bytes (value_of F d (k / 16)) && not (is_some (entry_at F d k))) 0 entry_limit
      ≡ Some e → Fit e
  fit-new e h =
      let p = least-passes (λ k. is_bytes (value_of F d (k / 16)) && not (is_some (entry_at F d k))) 0
      entry_limit e h in
      let lt = p.1 in (
        omega (arith, lt),
        not-lost-bytes (value_of F d (e / 16))
            (and-both (is_bytes (value_of F d (e / 16))) (not (is_some (entry_at F d e))) p.0).0,
      )

  fit-hole : (k e : ℕ) → 16 * k ≡ e → least_from (λ l. is_hole (value_of F d l)) 0 72 ≡ Some k → Fit e
  fit-hole k e s h =
      let p = least-passes (λ l. is_hole (value_of F d l)) 0 72 k h in
      let lt = p.1 in
      let slot : k ≡ e / 16 = omega (arith, s) in
      (omega (arith, lt, s), subst (λ (l : ℕ). value_of F d l ≢ Lost) slot (not-lost-hole (value_of F d k) p.0))

  fit : (e : ℕ) → place_for F d name ≡ Some e → Fit e
  fit e = by-place F d name e (Fit e) (fit-dead e) (fit-new e) (λ k. fit-hole k e)

pub law-entry-place : LawEntryPlace
law-entry-place F X d e name f match is place =
    (fits.0, place-unpaired F d name e place, go (find X d (path_of (e / 16))) refl)
  where
    fits : (e < entry_limit) × (value_of F d (e / 16) ≢ Lost)
    fits = fit F d name f is e place

    k : e / 16 < slot_limit
    k = let lt = fits.0 in omega (arith, lt)

    read : value_of F d (e / 16) ≡ value_in X (find X d (path_of (e / 16)))
    read = value-of F d f is (e / 16) ∙ (file-of F X d f match is).1.values (e / 16) k

    go : (q : PathAnswer) → find X d (path_of (e / 16)) ≡ q
        → ((x : Pointer) × (find X d (path_of (e / 16)) ≡ answer.Holds x)) ⊎ (find X d (path_of (e / 16)) ≡ answer.Hole)
    go (answer.Holds x) s = inl (x, s)
    go answer.Hole s = inr s
    go answer.Lost s = absurd (fits.1 (read ∙ ap (λ (q : PathAnswer). value_in X q) s))
