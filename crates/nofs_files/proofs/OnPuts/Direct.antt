-- A Put in place, and one into a direct slot, are ways with no new slot and with one.
use Rattle.std.proofs.Common.{◌≡◌, ◌≢◌, ℕ, ◌+◌, ◌*◌, ◌<◌, max, inl, inr, Bool, true, false, cond, eqb, ltb, List, []}
use Rattle.std.proofs.Common.{◌∷◌, length, Some, IsTrue, Result, refl, sym, ap, ◌∙◌, subst, arith}
use Rattle.std.proofs.lemmas.Bool.Decides.{nat_tests}
use Rattle.std.proofs.lemmas.List.{get_or-set_same, get_or-set_other}
use Rattle.nofs_ptrs.specs.Paths.{slot_limit, Path, InRecord, Under, path_of}
use Rattle.nofs_disk.specs.Disk.{DiskState, IsDisk, StaysButFaults, cell_at}
use Rattle.nofs_disk.specs.declared.tag.Cell.{Cell}
use Rattle.nofs_disk.specs.declared.tag.Pointer.{Pointer}
use Rattle.nofs_inode.specs.declared.inode.Record.{Record}
use Rattle.nofs_disk.specs.Pointer.{null}
use Rattle.nofs_disk.specs.Tag.{tag_of}
use Rattle.nofs_model.specs.Geometry.{Image}
use Rattle.nofs_model.specs.Slots.{value_in, tag_for, find, pointer, record_pointer, IsAbove}
use Rattle.nofs_model.specs.declared.image.path.PathAnswer.{PathAnswer}
use Rattle.nofs_model.specs.declared.image.path.PathAnswer.TheVariants as answer
use Rattle.nofs_model.specs.declared.image.value.Value.{Value}
use Rattle.nofs_model.specs.declared.image.value.Value.TheVariants.{Bytes}
use Rattle.nofs_ptrs.specs.PathLaws.{path-direct}
use Rattle.nofs_history.specs.Machine.{put_content, same_path, value_of}
use Rattle.nofs_history.specs.Meta.{is_bytes}
use Rattle.nofs_history.specs.World.{World, blocks_for}
use Rattle.nofs_history.specs.Claims.{is_claimed, no_claims, next_stamp, IsBlockClaim, IsClaim, Unclaimed, NoInode}
use Rattle.nofs_history.specs.declared.machine.history.Claims.{Claims}
use Rattle.nofs_history.specs.declared.machine.steps.Step.TheVariants as step
use Rattle.nofs_history.specs.declared.machine.replies.Refusal.{Refusal}
use Rattle.nofs_crashlaw.proofs.OnFiles.Growth.{same_path-true, same_path-refl}
use Rattle.nofs_state.specs.Writes.Premises.{RowsPass}
use Rattle.nofs_state.specs.Cores.Steps.{Goes}
use Rattle.nofs_state.specs.declared.books.maps.Books.{Books}
use Rattle.nofs_disk.specs.Order.{IsApart}
use Rattle.nofs_state.specs.Writes.Cells.{Stores}
use Rattle.nofs_state.proofs.OnBooks.Machine.{are-agreed}
use Rattle.nofs_state.proofs.OnCores.Replies.{open-files}
use Rattle.nofs_state.proofs.OnWrites.Tables.{table_block}
use Rattle.nofs_files.proofs.OnPuts.Image.{Climbs, IsPutFile}
use Rattle.nofs_files.proofs.OnReads.Rows.{value-is}
use Rattle.nofs_state.proofs.OnBooks.CurrentFiles.{current-agreed}
use Rattle.nofs_crashlaw.proofs.OnFiles.PutHeld.{above-held}
use Rattle.nofs_state.proofs.OnBooks.ClaimedBlocks.{Takes}
use Rattle.nofs_files.proofs.OnPuts.Ways.{way_writes}
use Rattle.nofs_agree.specs.declared.reads.LastRead.{LastRead}
use Rattle.nofs_files.specs.Puts.{HasRoom, HeldAt, IsContent, IsRecordCell, MayPut, pointed, put_answer, size_after}
use Rattle.nofs_files.specs.Puts.{sized, step_of_put}
use Rattle.nofs_files.specs.declared.puts.put.Put.{Put}
use Rattle.nofs_files.proofs.OnPuts.Contract.{asked-ends, ways-end}
use Rattle.nofs_files.proofs.OnPuts.Cells.{ContentFacts, content-facts, holds-nothing, new-tag, put-file}
use Rattle.nofs_files.proofs.OnPuts.Rooms.{IsAsked}
use Rattle.nofs_files.proofs.OnPuts.Books.{IsTaking, NamesOne, claimed-not-zero}

low-not : (a b : ℕ) → a < b → eqb a b ≡ false
low-not a b h = grind (arith, nat_tests)

pointed-here : (r : Record) (n slot : ℕ) (x : Pointer)
    → slot < 8 → length r.direct ≡ 8 → record_pointer (pointed r n slot x) slot ≡ x
pointed-here r n slot x h len = rw (low-not slot 8 h, low-not slot 9 (omega (arith, h)))
    (get_or-set_same r.direct slot x null (omega (arith, h, len)))

pointed-other : (r : Record) (n slot : ℕ) (x : Pointer) (m : ℕ)
    → m ≢ slot → record_pointer (pointed r n slot x) m ≡ record_pointer r m
pointed-other r n slot x m ne = ap (λ (y : Pointer). cond (eqb m 8) r.leaf (cond (eqb m 9) r.top y))
    (get_or-set_other r.direct slot m x null ne)

no-claim : false ≡ true → ⊥
no-claim e = cc

abbrev pub place_at : Image → ℕ → Path → Pointer → Path → Pointer
place_at X i way x q = cond (same_path q way) x (pointer X i q)

place-here : (X : Image) (i : ℕ) (way : Path) (x : Pointer) → place_at X i way x way ≡ x
place-here X i way x = let e = same_path-refl way in rw e refl

pub place-climbs : (X : Image) (i g slot at : ℕ) (bytes : List ℕ) (r : Record) (x : Pointer) (c1 c2 : Cell)
    → IsPutFile X i g slot r (sized r (max r.size (1024 * slot + at + length bytes))) (path_of slot) c2
    → find X i (path_of slot) ≡ answer.Holds x
    → c1.payload ≡ put_content (Bytes (cell_at X x.block).payload) r.size slot at bytes
    → c1.tag ≡ (cell_at X x.block).tag
    → Climbs X i g slot at bytes r (sized r (max r.size (1024 * slot + at + length bytes))) 0 (path_of slot)
    (place_at X i (path_of slot) x) (λ q. c1)
    no_claims c2
place-climbs X i g slot at bytes r x c1 c2 file held payload tag = record {
  file = file;
  grew = record { kind = refl; generation = refl; links = refl; size = refl };
  old = λ q u. go q u (same_path q (path_of slot)) refl;
  empty = λ q u. absurd u;
  hole = λ q n u v. absurd u;
  claimed = λ q u. absurd u;
  distinct = λ q w u v e. absurd u;
  tag_new = λ q u. absurd u;
  tag_old = λ q u v.
      subst (λ (w : Path). tag_of c1.tag ≡ tag_of (cell_at X (place_at X i (path_of slot) x w).block).tag) (sym u)
      (ap tag_of tag ∙ ap (λ (w : Pointer). tag_of (cell_at X w.block).tag) (sym here));
  next = λ q n u. absurd u;
  beside_new = λ q n z u v ne lt. absurd u;
  beside_old = λ q n z u v ne lt. absurd u;
  content = payload ∙ ap (λ (v : Value). put_content v r.size slot at bytes) (sym (ap (value_in X) held));
  pointer_new = λ n u. absurd u;
  pointers_old = λ n off. refl;
  cell = λ t. absurd (no-claim t);
  leaf = λ t. absurd (no-claim t);
  top = λ t. absurd (no-claim t);
}
  where
    here : place_at X i (path_of slot) x (path_of slot) ≡ x
    here = place-here X i (path_of slot) x

    go : (q : Path) → IsAbove q (path_of slot)
        → (t : Bool) → same_path q (path_of slot) ≡ t → find X i q ≡ answer.Holds (place_at X i (path_of slot) x q)
    go q u true e = let s = same_path-true q (path_of slot) e in
        subst (λ (w : Path). find X i w ≡ answer.Holds (place_at X i (path_of slot) x w)) (sym s)
        (held ∙ ap answer.Holds (sym here))
    go q u false e = above-held X i q (path_of slot) x u held ∙ ap answer.Holds (sym (rw e refl))

pub direct-climbs : (X : Image) (i g slot at : ℕ) (bytes : List ℕ) (r : Record) (n : ℕ) (c : Claims) (c1 c2 : Cell)
    → n < 8 → length r.direct ≡ 8
    → ContentFacts X i g slot at bytes r (pointed r (max r.size (1024 * slot + at + length bytes)) n c.cell)
    (InRecord n) c.cell c1 c2 → NamesOne c
    → Climbs X i g slot at bytes r (pointed r (max r.size (1024 * slot + at + length bytes)) n c.cell) 1 (InRecord n)
    (λ q. c.cell) (λ q. c1) c c2
direct-climbs X i g slot at bytes r n c c1 c2 low eight f names = record {
  file = f.file;
  grew = record { kind = refl; generation = refl; links = refl; size = refl };
  old = λ q u. absurd u;
  empty = λ q u z e. holds-nothing f z (subst (λ (w : Path). find X i w ≡ answer.Holds z) u e);
  hole = λ q j u v. absurd (not-under q j u);
  claimed = λ q u. (names.cell, inl refl);
  distinct = λ q w u v e. u ∙ sym v;
  tag_new = λ q u. subst (λ (w : Path). tag_of c1.tag ≡ Some (tag_for X i w c.cell.stamp)) (sym u) (new-tag f);
  tag_old = λ q u v. absurd v;
  next = λ q j u. absurd (not-under q j u);
  beside_new = λ q j z u v ne lt. absurd (not-under q j u);
  beside_old = λ q j z u v ne lt. absurd v;
  content = f.payload;
  pointer_new = λ q u.
      (let s : q ≡ n = cc u in ap (record_pointer (pointed r (max r.size (1024 * slot + at + length bytes)) n c.cell)) s
      ∙ pointed-here r (max r.size (1024 * slot + at + length bytes)) n c.cell low eight);
  pointers_old =
      λ q off. pointed-other r (max r.size (1024 * slot + at + length bytes)) n c.cell q (λ e. off (ap InRecord e));
  cell = λ t. refl;
  leaf = λ t. absurd (let e = names.leaf in cc (e, t));
  top = λ t. absurd (let e = names.top in cc (e, t));
}
  where
    not-under : (q : Path) (j : ℕ) → Under q j ≡ InRecord n → ⊥
    not-under q j e = cc e

-- The contracts of both, from the state before the table was read

-- no claim, by the books
take-none : (k : Books) → Takes k k no_claims 0
take-none k = record {
  same = λ j. record k { serial = (let e : k.serial ≡ k.serial + 0 = omega arith in e) j };
  here = λ y q.
      absurd (elim q.1 [ inl s ↦ none y s q.0 | inr r ↦ elim r [ inl s ↦ none y s q.0 | inr s ↦ none y s q.0 ] ]);
  other = λ n off. refl;
}
  where
    none : (y : Pointer) → null ≡ y → is_claimed y ≡ true → ⊥
    none y s t = let z : is_claimed y ≡ false = ap is_claimed (sym s) in cc (z, t)

claim-none : (W : World) (i g slot at : ℕ) (bytes : List ℕ)
    → blocks_for W.files i slot ≡ 0 → IsClaim W (step.Put i g slot at bytes) no_claims
claim-none W i g slot at bytes needs = record {
  inode = NoInode refl refl;
  cell = subst (λ (n : ℕ). IsBlockClaim W (next_stamp W + 0) null (ltb 0 n)) (sym needs) (Unclaimed refl);
  leaf = subst (λ (n : ℕ). IsBlockClaim W (next_stamp W + 0 + 1) null (ltb 1 n)) (sym needs) (Unclaimed refl);
  top = subst (λ (n : ℕ). IsBlockClaim W (next_stamp W + 0 + 2) null (ltb 2 n)) (sym needs) (Unclaimed refl);
  apart = tt;
}

pub place-ends : {old mid new : DiskState} {k l : Books} {p : Put} {r : Record} {last : LastRead} {writes t : ℕ}
    {x : Pointer} {before c1 c20 c2 : Cell}
    {result : Result (Unit {0}) Refusal} → IsDisk mid → IsDisk new → StaysButFaults old mid
    → mid.faults ≡ old.faults → MayPut old k p r last writes → p.slot < slot_limit
    → HeldAt old k p.inode (path_of p.slot) x → (IsTrue old.tells → before ≡ cell_at old.now x.block)
    → c1.payload ≡ put_content (Bytes before.payload) r.size p.slot p.at p.bytes.now → c1.tag ≡ before.tag
    → (IsTrue old.tells → c20 ≡ cell_at old.now (table_block p.inode))
    → IsRecordCell c20 p.inode (sized r (size_after p r.size)) c2
    → RowsPass old k (step_of_put p) → t ≡ table_block p.inode
    → Stores mid k new l ((x.block, c1) ∷ (t, c2) ∷ []) result
    → Goes old k new l (step_of_put p) no_claims (put_answer result)
place-ends {old} {mid} {new} {k} {l} {p} {r} {last} {writes} {t} {x} {before} {c1} {c20} {c2} {result} is_mid is_new
    stays same may low held cell payload tag read
    table pass at-table stores =
    ways-end old mid new k k l p.inode p.generation p.slot p.at p.bytes.now r (sized r (size_after p r.size)) 0
    (path_of p.slot)
    (place_at old.now p.inode (path_of p.slot) x) (λ q. c1) no_claims c2 result is_mid is_new stays same may.safe
    (λ s. s) may.going
    (subst (λ (ws : List (ℕ × Cell)). IsApart ws 0) (sym same-writes)
    ((λ e. let q = held.positive in omega (arith, e, q)), ((λ e. omega (arith, e)), tt)))
    (take-none k) refl refl
    (λ t H q o.
    let agrees = current-agreed old.now p.inode p.generation (may.current t (are-agreed old k H q may.safe o)) in
    let v : is_bytes (value_of q.world.files p.inode p.slot) ≡ true = ap is_bytes
    (value-is q.world.files old.now p.inode p.slot (open-files old k H q o) agrees low)
    ∙ ap (λ (a : PathAnswer). is_bytes (value_in old.now a)) (held.held t) in
    let needs : blocks_for q.world.files p.inode p.slot ≡ 0 = rw v refl in
    record {
      climbs = place-climbs old.now p.inode p.generation p.slot p.at p.bytes.now r x c1 c2
          (put-file old k p r (sized r (size_after p r.size))
          (path_of p.slot) c20 c2 t may.file agrees low refl read table) (held.held t)
          (payload ∙ ap (λ (c : Cell). put_content (Bytes c.payload) r.size p.slot p.at p.bytes.now) (cell t))
          (tag ∙ ap (λ (c : Cell). c.tag) (cell t));
      needs = needs;
      claim = claim-none q.world p.inode p.generation p.slot p.at p.bytes.now needs;
    })
    pass
    (subst (λ (ws : List (ℕ × Cell)). Stores mid k new l ws result) (sym same-writes)
    (subst (λ (n : ℕ). Stores mid k new l ((x.block, c1) ∷ (n, c2) ∷ []) result) at-table stores))
  where
    same-writes : way_writes (place_at old.now p.inode (path_of p.slot) x) (λ q. c1) (table_block p.inode, c2) 0
        (path_of p.slot)
        ≡ (x.block, c1) ∷ (table_block p.inode, c2) ∷ []
    same-writes = ap (λ (w : Pointer). (w.block, c1) ∷ (table_block p.inode, c2) ∷ [])
        (place-here old.now p.inode (path_of p.slot) x)

pub direct-ends : {old mid new : DiskState} {k l' l : Books} {p : Put} {r : Record} {c : Claims} {t : ℕ}
    {c1 c20 c2 : Cell} {result : Result (Unit {0}) Refusal}
    → IsAsked old k p r 1 → HasRoom k 1 → IsTaking old mid k l' p c 1 × NamesOne c → IsDisk mid → IsDisk new
    → StaysButFaults old mid → mid.faults ≡ old.faults → p.slot < 8
    → length r.direct ≡ 8 → IsContent p r.size c.cell.stamp c1
    → (IsTrue old.tells → c20 ≡ cell_at old.now (table_block p.inode))
    → IsRecordCell c20 p.inode (pointed r (size_after p r.size) p.slot c.cell) c2 → t ≡ table_block p.inode
    → Stores mid l' new l ((c.cell.block, c1) ∷ (t, c2) ∷ []) result
    → Goes old k new l (step_of_put p) c (put_answer result)
direct-ends {old} {mid} {new} {k} {l'} {l} {p} {r} {c} {t} {c1} {c20} {c2} a room taking is_mid is_new stays same low
    eight content read table at-table stores =
    let names = taking.1 in
    asked-ends (InRecord p.slot) (λ q. c.cell) (λ q. c1) a room taking.0 is_mid is_new stays same
    (path-direct p.slot low)
    ((λ e. claimed-not-zero c.cell names.cell (sym e)), ((λ e. omega (arith, e)), tt))
    (λ t agrees. direct-climbs old.now p.inode p.generation p.slot p.at p.bytes.now r p.slot c c1 c2 low eight
    (content-facts a (path-direct p.slot low) content read table t agrees) names) at-table stores
