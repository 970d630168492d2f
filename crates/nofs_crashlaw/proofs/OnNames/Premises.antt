-- The premises of the steps on names, from what a search found and which record was written.
use Rattle.std.proofs.Common.{◌≡◌, ◌≢◌, ℕ, zero, suc, ◌+◌, ◌-◌, ◌*◌, ◌/◌, ◌%◌, ◌<◌, ◌≤◌, ◌⊎◌, Bool, true, false, cond}
use Rattle.std.proofs.Common.{eqb, ltb, leb, ◌&&◌, ◌||◌, not, List}
use Rattle.std.proofs.Common.{[], ◌∷◌, length, Option, Some, None, is_some, refl, sym, ap, ◌∙◌, subst, arith, eqb-true}
use Rattle.std.proofs.Common.{eq-eqb, leb-true}
use Rattle.std.specs.Prelude.{option_map}
use Rattle.nofs_inode.specs.declared.inode.FileKind.TheVariants.{Directory as Folder}
use Rattle.nofs_crashlaw.specs.Images.Proper.{Proper, RecordProper}
use Rattle.nofs_model.proofs.OnSlots.Find.{and-both}
use Rattle.nofs_model.proofs.OnFiles.Chains.{agreed-holds}
use Rattle.nofs_crashlaw.proofs.OnUntouched.Matches.{matched-file}
use Rattle.nofs_crashlaw.proofs.OnUntouched.Frames.{some-is}
use Rattle.nofs_crashlaw.proofs.OnUntouched.Agreement.{agreed-machine}
use Rattle.nofs_crashlaw.proofs.OnNames.HoleWrites.{mixed-table-proper, two-records}
use Rattle.nofs_history.specs.Meta.{is_bytes}
use Rattle.nofs_history.specs.Marks.{Mark}
use Rattle.nofs_history.specs.declared.machine.history.Claims.{Claims}
use Rattle.nofs_history.specs.Machine.{found, first_dead, place_for, link_place, entry_has_name, is_paired, is_hole}
use Rattle.nofs_history.specs.Machine.{value_of, gives, rename_given}
use Rattle.nofs_history.specs.Machine.{drop_given, link_given, make_given, place_for_link}
use Rattle.nofs_history.specs.Search.{first_of, least_from}
use Rattle.nofs_history.specs.History.{FilesMatch}
use Rattle.nofs_history.specs.declared.machine.steps.Step.TheVariants as step
use Rattle.nofs_disk.specs.declared.tag.Cell.{Cell}
use Rattle.nofs_dirent.specs.declared.entry.Entry.{Entry}
use Rattle.nofs_inode.specs.declared.inode.FileKind.{FileKind}
use Rattle.nofs_inode.specs.declared.inode.BackLink.{BackLink}
use Rattle.nofs_inode.specs.InodeRecords.{record_at, free_record, is_empty_link}
use Rattle.nofs_dirent.specs.Entries.{entry_limit}
use Rattle.nofs_model.specs.Geometry.{Image, super_at, is_inode, is_data_block, inode}
use Rattle.nofs_disk.specs.Disk.{cell_at}
use Rattle.nofs_model.specs.Files.{FileState, Files, entry_held, entry_in_file, entry_at}
use Rattle.nofs_model.specs.Files.{is_folder, files_in, Agreed, root, linked, is_a, is_pair, is_special, links_of}
use Rattle.nofs_model.specs.declared.image.value.Value.{Value}
use Rattle.nofs_model.specs.declared.image.value.Value.TheVariants.{Hole}
use Rattle.nofs_crashlaw.proofs.OnFiles.Claims.{super-same}

-- what a least number passes
pub least-passes : (test : ℕ → Bool) (at n e : ℕ) → least_from test at n ≡ Some e → (test e ≡ true) × (e < at + n)
unfolding least_from
least-passes test at zero e h = cc
least-passes test at (suc n) e h = go (test at) refl (λ q. least-passes test (suc at) n e q) h
  where
    go : (b : Bool) → test at ≡ b → (least_from test (suc at) n ≡ Some e → (test e ≡ true) × (e < suc at + n))
        → cond b (Some at) (least_from test (suc at) n) ≡ Some e → (test e ≡ true) × (e < at + suc n)
    go true eb ih q = let s : at ≡ e = cc q in (subst (λ (k : ℕ). test k ≡ true) s eb, omega (arith, s))
    go false eb ih q = let r = ih q in let lt = r.1 in (r.0, omega (arith, lt))

-- the entry that a name finds: Rename and Drop
pub found-parts : (F : Files) (d : ℕ) (name : List ℕ) (e : ℕ) → found F d name ≡ Some e
    → (entry : Entry) × (entry_at F d e ≡ Some entry) × (is_paired F d e ≡ true) × (e < entry_limit)
unfolding found
found-parts F d name e h =
    let p = least-passes (λ k. entry_has_name F d name k && is_paired F d k) 0 entry_limit e h in
    let a = and-both (entry_has_name F d name e) (is_paired F d e) p.0 in
    let n = named (entry_at F d e) refl a.0 in
    (n.0, n.1, a.1, p.1)
  where
    named : (o : Option Entry)
        → entry_at F d e ≡ o → entry_has_name F d name e ≡ true → (entry : Entry) × (entry_at F d e ≡ Some entry)
    named (Some entry) eo q = (entry, eo)
    named None eo q = absurd (let z : entry_has_name F d name e ≡ false = rw (eo, entry_has_name) refl in cc (q, z))

not-true : (b : Bool) → not b ≡ true → b ≡ false
not-true true e = cc
not-true false e = refl

-- where a new entry goes, no pair stands: Link and Make
pub dead-unpaired : (F : Files) (d : ℕ) (name : List ℕ) (e : ℕ) → first_dead F d name ≡ Some e → is_paired F d e ≡ false
unfolding first_dead
dead-unpaired F d name e h =
    let p = least-passes (λ k. entry_has_name F d name k && not (is_paired F d k)) 0 entry_limit e h in
    not-true (is_paired F d e) (and-both (entry_has_name F d name e) (not (is_paired F d e)) p.0).1

pub no-entry-unpaired : (F : Files) (d e : ℕ) → entry_at F d e ≡ None → is_paired F d e ≡ false
no-entry-unpaired F d e h = rw (h, is_paired) refl

-- records beside the one that is written stay
pub records-stay : (X Y : Image) (i : ℕ) → is_inode X i ≡ true → cell_at Y 0 ≡ cell_at X 0
    → ((b : ℕ) → is_data_block X b ≡ false → b ≢ 1 + (i - 1) / 4 → cell_at Y b ≡ cell_at X b)
    → ((q : ℕ) → q < 4 → q ≢ (i - 1) % 4
    → record_at (cell_at Y (1 + (i - 1) / 4)).payload q ≡ record_at (cell_at X (1 + (i - 1) / 4)).payload q)
    → (super_at X).inodes % 4 ≡ 0 → (j : ℕ) → j ≢ i → inode Y j ≡ inode X j
unfolding inode
records-stay X Y i range super blocks same quarters j ne =
    go (is_inode X j) refl (eqb (1 + (j - 1) / 4) (1 + (i - 1) / 4)) refl
  where
    go : (b : Bool) → is_inode X j ≡ b → (t : Bool) → eqb (1 + (j - 1) / 4) (1 + (i - 1) / 4) ≡ t
        → cond (is_inode Y j) (record_at (cell_at Y (1 + (j - 1) / 4)).payload ((j - 1) % 4)) free_record
        ≡ cond (is_inode X j)
        (record_at (cell_at X (1 + (j - 1) / 4)).payload ((j - 1) % 4)) free_record
    go false e t et = let z = super-same X Y super in let y : is_inode Y j ≡ false = rw z e in rw (y, e) refl
    go true e true et =
        let z = super-same X Y super in
        let y : is_inode Y j ≡ true = rw z e in
        let eb = eqb-true (1 + (j - 1) / 4) (1 + (i - 1) / 4) et in
        let lj = leb-true 1 j (and-both (leb 1 j) (leb j (super_at X).inodes) e).0 in
        let li = leb-true 1 i (and-both (leb 1 i) (leb i (super_at X).inodes) range).0 in
        let s = same ((j - 1) % 4) (omega arith) (λ q. ne (omega (arith, q, eb, lj, li))) in
        rw (y, e) (subst (λ (b : ℕ). record_at (cell_at Y b).payload ((j - 1) % 4)
        ≡ record_at (cell_at X b).payload ((j - 1) % 4)) (sym eb) s)
    go true e false et =
        let z = super-same X Y super in
        let y : is_inode Y j ≡ true = rw z e in
        let c : cell_at Y (1 + (j - 1) / 4) ≡ cell_at X (1 + (j - 1) / 4) =
        blocks (1 + (j - 1) / 4) (table e) (λ q. let t = eq-eqb (1 + (j - 1) / 4) (1 + (i - 1) / 4) q in cc (et, t)) in
        rw (y, e, c) refl
      where
        table : is_inode X j ≡ true → is_data_block X (1 + (j - 1) / 4) ≡ false
        table e =
            let both = and-both (leb 1 j) (leb j (super_at X).inodes) e in
            let low = leb-true 1 j both.0 in
            let high = leb-true j (super_at X).inodes both.1 in
            below (is_data_block X (1 + (j - 1) / 4)) refl low high
          where
            below : (b : Bool) → is_data_block X (1 + (j - 1) / 4) ≡ b → 1 ≤ j → j ≤ (super_at X).inodes
                → is_data_block X (1 + (j - 1) / 4) ≡ false
            below false q low high = q
            below true q low high =
                let first = leb-true (1 + (super_at X).inodes / 4) (1 + (j - 1) / 4)
                (and-both (leb (1 + (super_at X).inodes / 4) (1 + (j - 1) / 4))
                (ltb (1 + (j - 1) / 4) (super_at X).blocks) q).0 in
                absurd (omega (arith, first, low, high, quarters))

-- the table cells of Make and Link in a hole, at any moment: the records of d and i are each that of X or that of Y
pub step-table-proper : (m : Mark) (X Y : Image) (d i b : ℕ) (c : Cell) → 0 < b → is_data_block m.image b ≡ false
    → ((j : ℕ) → is_inode m.image j ≡ true → 1 + (j - 1) / 4 ≡ b
    → (record_at c.payload ((j - 1) % 4) ≡ inode X j) ⊎ (record_at c.payload ((j - 1) % 4) ≡ inode Y j))
    → ((j : ℕ) → j ≢ d → j ≢ i → inode Y j ≡ inode X j) → RecordProper m X d (inode Y d)
    → RecordProper m X i (inode Y i) → Proper m X b c
step-table-proper m X Y d i b c pos area each others at_d at_i =
    mixed-table-proper m X Y b c pos area each (two-records m X Y d i others at_d at_i)

-- what the steps give
pub rename-gives : (F : Files) (d g : ℕ) (old new : List ℕ) (claims : Claims) (e : ℕ) → found F d old ≡ Some e
    → gives F (step.Rename d g old new) claims ≡ rename_given F d g new e
unfolding gives
rename-gives F d g old new claims e h = rw h refl

pub drop-gives : (F : Files) (d g : ℕ) (name : List ℕ) (claims : Claims) (e : ℕ) → found F d name ≡ Some e
    → gives F (step.Drop d g name) claims ≡ drop_given F d g e
unfolding gives
drop-gives F d g name claims e h = rw h refl

pub link-gives : (F : Files) (d g : ℕ) (name : List ℕ) (i of : ℕ) (claims : Claims) (e b : ℕ)
    → place_for F d name ≡ Some e → link_place F i ≡ Some b
    → gives F (step.Link d g name i of) claims ≡ link_given F d g name i of e b
unfolding gives
link-gives F d g name i of claims e b h l = rw (h, l) refl

pub make-given-is : (F : Files) (d g : ℕ) (name : List ℕ) (kind : FileKind) (claims : Claims) (e : ℕ)
    → place_for F d name ≡ Some e
    → gives F (step.Make d g name kind) claims ≡ make_given F d g name kind claims e
unfolding gives
make-given-is F d g name kind claims e h = rw h refl

-- Where a new entry goes: no pair stands there, and the slot holds or is a hole
place-hole : (F : Files) (d k : ℕ) → value_of F d k ≡ Hole → (e : ℕ) → e ≡ 16 * k → entry_at F d e ≡ None
place-hole F d k h e eq = go (F d) refl
  where
    slot : e / 16 ≡ k
    slot = omega (arith, eq)

    go : (o : Option FileState) → F d ≡ o → entry_at F d e ≡ None
    go None eo = ap (λ (o : Option FileState). entry_in_file o e) eo
    go (Some f) eo =
        let v : f.values k ≡ Hole = sym (rw (eo, value_of) refl) ∙ h in
        ap (λ (o : Option FileState). entry_in_file o e) eo
        ∙ inside f (is_folder f.kind && ltb e entry_limit) (ap f.values slot ∙ v)
      where
        inside : (f : FileState) (b : Bool)
            → f.values (e / 16) ≡ Hole → cond b (entry_held (f.values (e / 16)) e) None ≡ None
        inside f true q = ap (λ (v : Value). entry_held v e) q
        inside f false q = refl

is-hole-true : (v : Value) → is_hole v ≡ true → v ≡ Hole
is-hole-true Hole e = refl
is-hole-true (Rattle.nofs_model.specs.declared.image.value.Value.TheVariants.Bytes c) e = cc
is-hole-true Rattle.nofs_model.specs.declared.image.value.Value.TheVariants.Lost e = cc

some-false : (o : Option Entry) → is_some o ≡ false → o ≡ None
some-false None e = refl
some-false (Some q) e = cc

-- the place is that of a dead entry of this name, of a free entry in a slot that holds, or the first of a hole
pub by-place : (F : Files) (d : ℕ) (name : List ℕ) (e : ℕ) (P : Type 0) → (first_dead F d name ≡ Some e → P)
    → (least_from (λ k. is_bytes (value_of F d (k / 16)) && not (is_some (entry_at F d k))) 0 entry_limit ≡ Some e → P)
    → ((k : ℕ) → 16 * k ≡ e → least_from (λ l. is_hole (value_of F d l)) 0 72 ≡ Some k → P)
    → place_for F d name ≡ Some e → P
unfolding place_for
by-place F d name e P dead new hole h = go (first_dead F d name) refl
    (least_from (λ k. is_bytes (value_of F d (k / 16)) && not (is_some (entry_at F d k))) 0 entry_limit) refl
    (least_from (λ k. is_hole (value_of F d k)) 0 72) refl h
  where
    go : (a : Option ℕ) → first_dead F d name ≡ a → (b : Option ℕ)
        → least_from (λ k. is_bytes (value_of F d (k / 16)) && not (is_some (entry_at F d k))) 0 entry_limit ≡ b
        → (c : Option ℕ)
        → least_from (λ k. is_hole (value_of F d k)) 0 72 ≡ c
        → first_of (a ∷ b ∷ option_map (λ k. 16 * k) c ∷ []) ≡ Some e → P
    go (Some n) ea b eb c ec q = let s : n ≡ e = cc q in dead (ea ∙ ap Some s)
    go None ea (Some n) eb c ec q = let s : n ≡ e = cc q in new (eb ∙ ap Some s)
    go None ea None eb (Some k) ec q = let s : 16 * k ≡ e = cc q in hole k s ec
    go None ea None eb None ec q = absurd (cc q)

pub place-unpaired : (F : Files) (d : ℕ) (name : List ℕ) (e : ℕ) → place_for F d name ≡ Some e → is_paired F d e ≡ false
place-unpaired F d name e =
    by-place F d name e (is_paired F d e ≡ false) (λ dead. dead-unpaired F d name e dead) new hole
  where
    new : least_from (λ k. is_bytes (value_of F d (k / 16)) && not (is_some (entry_at F d k))) 0 entry_limit ≡ Some e
        → is_paired F d e ≡ false
    new first =
        let p = least-passes (λ k. is_bytes (value_of F d (k / 16)) && not (is_some (entry_at F d k))) 0 entry_limit e
        first in
        let a = and-both (is_bytes (value_of F d (e / 16))) (not (is_some (entry_at F d e))) p.0 in
        no-entry-unpaired F d e (some-false (entry_at F d e) (not-true (is_some (entry_at F d e)) a.1))

    hole : (k : ℕ) → 16 * k ≡ e → least_from (λ l. is_hole (value_of F d l)) 0 72 ≡ Some k → is_paired F d e ≡ false
    hole k s first =
        let p = least-passes (λ l. is_hole (value_of F d l)) 0 72 k first in
        no-entry-unpaired F d e (place-hole F d k (is-hole-true (value_of F d k) p.0) e (sym s))

-- no number passes
pub least-none : (test : ℕ → Bool) (at n : ℕ) → is_some (least_from test at n) ≡ false → (k : ℕ)
    → at ≤ k → k < at + n → test k ≡ false
unfolding least_from
least-none test at zero h k le lt = absurd (omega (arith, le, lt))
least-none test at (suc n) h k le lt = go (test at) refl (λ q l. least-none test (suc at) n q k l (omega (arith, lt))) h
  where
    go : (b : Bool) → test at ≡ b → (is_some (least_from test (suc at) n) ≡ false → suc at ≤ k → test k ≡ false)
        → is_some (cond b (Some at) (least_from test (suc at) n)) ≡ false → test k ≡ false
    go true eb ih q = cc
    go false eb ih q = same (eqb at k) refl
      where
        same : (t : Bool) → eqb at k ≡ t → test k ≡ false
        same true et = subst (λ (j : ℕ). test j ≡ false) (eqb-true at k et) eb
        same false et = ih q (let ne : at ≢ k = λ s. let t = eq-eqb at k s in cc (et, t) in omega (arith, le, ne))

-- a directory that may go has no pairs: Drop
pub empty-names : (F : Files) (i : ℕ) → is_some (least_from (λ b. is_paired F i b) 0 entry_limit) ≡ false → (b : ℕ)
    → b < entry_limit → is_paired F i b ≡ false
empty-names F i h b lt = least-none (λ k. is_paired F i k) 0 entry_limit h b (omega arith) (omega (arith, lt))

-- Where a back link goes: Link
place-in-range : (test : BackLink → Bool) (links : List BackLink) (at b : ℕ) → place_for_link test links at ≡ Some b
    → b < at + length links
place-in-range test [] at b h = cc
place-in-range test (l ∷ ls) at b h = go (test l) (λ q. place-in-range test ls (suc at) b q) h
  where
    go : (t : Bool) → (place_for_link test ls (suc at) ≡ Some b → b < suc at + length ls)
        → cond t (Some at) (place_for_link test ls (suc at)) ≡ Some b
        → b < at + length (l ∷ ls)
    go true ih q = let s : at ≡ b = cc q in omega (arith, s)
    go false ih q = let lt = ih q in omega (arith, lt)

pub link-place-parts : (F : Files) (i b : ℕ) → link_place F i ≡ Some b → (i ≢ 2) × (b < length (links_of F i))
unfolding link_place
link-place-parts F i b h = go (eqb i 2) refl h
  where
    go : (t : Bool) → eqb i 2 ≡ t → cond t None
        (first_of (place_for_link is_empty_link (links_of F i) 0 ∷ place_for_link (λ link. not (is_pair F i link))
        (links_of F i) 0 ∷ [])) ≡ Some b → (i ≢ 2) × (b < length (links_of F i))
    go true e q = cc
    go false e q = (
      λ s. let t = eq-eqb i 2 s in cc (e, t),
      pick (place_for_link is_empty_link (links_of F i) 0) refl
          (place_for_link (λ link. not (is_pair F i link)) (links_of F i) 0) refl q,
    )
      where
        pick : (u : Option ℕ) → place_for_link is_empty_link (links_of F i) 0 ≡ u → (v : Option ℕ)
            → place_for_link (λ link. not (is_pair F i link)) (links_of F i) 0 ≡ v → first_of (u ∷ v ∷ []) ≡ Some b
            → b < length (links_of F i)
        pick (Some n) eu v ev q = let s : n ≡ b = cc q in
            let lt = place-in-range is_empty_link (links_of F i) 0 b (eu ∙ ap Some s) in omega (arith, lt)
        pick None eu (Some n) ev q = let s : n ≡ b = cc q in let lt =
            place-in-range (λ link. not (is_pair F i link)) (links_of F i) 0 b (ev ∙ ap Some s) in omega (arith, lt)
        pick None eu None ev q = cc

-- the file of inode 1, where there is one, is a directory
pub root-folder : (F : Files) (X : Image) (h : FileState) → FilesMatch F X → F 1 ≡ Some h → is_folder h.kind ≡ true
root-folder F X h match is =
    go (agreed-machine F X match 1 (agreed-holds (files_in X) 1 (matched-file F X 1 match (some-is (F 1) h is)).agreed))
  where
    folder : (h : FileState) → is_a Folder 1 (Some h) ≡ true → is_folder h.kind ≡ true
    folder h e = (and-both (is_folder h.kind) (eqb h.generation 1) e).0

    either : (b : Bool) → (b || false) ≡ true → b ≡ true
    either true e = refl
    either false e = cc

    go : Agreed F 1 → is_folder h.kind ≡ true
    go (root r) = folder h (sym (ap (λ (o : Option FileState). is_a Folder 1 o) is) ∙ either (is_a Folder 1 (F 1)) r)
    go (linked link plain has pair up) = cc plain

-- the file of a Link is neither inode 1 nor 2
pub link-plain : (F : Files) (X : Image) (i : ℕ) (h : FileState) → FilesMatch F X → F i ≡ Some h
    → is_folder h.kind ≡ false → i ≢ 2 → is_special i ≡ false
link-plain F X i h match is file ne = go (eqb i 1) refl (eqb i 2) refl
  where
    go : (a : Bool) → eqb i 1 ≡ a → (b : Bool) → eqb i 2 ≡ b → is_special i ≡ false
    go true ea b eb =
        absurd (let z = root-folder F X h match (subst (λ (j : ℕ). F j ≡ Some h) (eqb-true i 1 ea) is) in cc (z, file))
    go false ea true eb = absurd (ne (eqb-true i 2 eb))
    go false ea false eb = rw (ea, eb) refl
