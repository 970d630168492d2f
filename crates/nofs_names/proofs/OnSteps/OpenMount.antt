-- A step on names: what an open mount gives to it, what its writes owe, and what follows from them.
use Rattle.std.proofs.Common.{◌≡◌, ◌≢◌, ℕ, ◌+◌, ◌-◌, ◌/◌, ◌%◌, ◌≤◌, Bool, true, false, eqb, eqb-true, leb, ltb, ◌&&◌}
use Rattle.std.proofs.Common.{◌||◌, List, [], ◌∷◌, ◌++◌, length, None}
use Rattle.std.proofs.Common.{Some, is_some, IsTrue, Result, Ok, Err, refl, sym, ap, ◌∙◌, subst, subst₂, arith}
use Rattle.std.proofs.lemmas.Bool.{eqb-false, lt-leb}
use Rattle.nofs_disk.specs.Disk.{DiskState, IsDisk, Picks, cell_at}
use Rattle.nofs_disk.specs.Adds.{Adds}
use Rattle.nofs_disk.specs.declared.Failed.{Failed}
use Rattle.nofs_super.specs.Geometry.{IsGeometry}
use Rattle.nofs_disk.specs.declared.tag.Cell.{Cell}
use Rattle.nofs_disk.specs.declared.tag.Pointer.{Pointer}
use Rattle.nofs_inode.specs.declared.inode.Record.{Record}
use Rattle.nofs_super.specs.declared.superblock.SuperBlock.{SuperBlock}
use Rattle.nofs_inode.specs.InodeRecords.{is_live, record_at}
use Rattle.nofs_disk.specs.Tag.{tag_of}
use Rattle.nofs_model.specs.Geometry.{Image, super_at, is_data_block, inode}
use Rattle.nofs_ptrs.specs.Paths.{leaf}
use Rattle.nofs_model.specs.Files.{Files}
use Rattle.nofs_model.specs.Sound.{IsBelow}
use Rattle.nofs_model.proofs.OnSlots.Find.{find-held}
use Rattle.nofs_model.proofs.OnSound.Writes.{mountable-law, supers}
use Rattle.nofs_history.specs.Search.{first_of}
use Rattle.nofs_history.specs.Machine.{Given, gives, given_by, files_after, is_refused}
use Rattle.nofs_history.specs.World.{World}
use Rattle.nofs_history.specs.Claims.{IsClaim, next_stamp}
use Rattle.nofs_history.specs.Refusals.{rows, may_write}
use Rattle.nofs_history.specs.Answers.{reply_of}
use Rattle.nofs_history.specs.Gives.{GivesNothing}
use Rattle.nofs_history.specs.History.{FilesMatch}
use Rattle.nofs_history.specs.Since.{agreed_files, files_along, is_flushed}
use Rattle.nofs_history.specs.Marks.{mark_at}
use Rattle.nofs_history.specs.Steady.{SteadyRest}
use Rattle.nofs_history.specs.Next.{Learns}
use Rattle.nofs_history.specs.declared.machine.history.Claims.{Claims}
use Rattle.nofs_history.specs.declared.machine.history.Entry1.{Entry1}
use Rattle.nofs_history.specs.declared.machine.steps.Step.{Step}
use Rattle.nofs_history.specs.declared.machine.replies.Reply.{Reply}
use Rattle.nofs_history.specs.declared.machine.replies.Reply.TheVariants as reply
use Rattle.nofs_history.specs.declared.machine.replies.Refusal.{Refusal}
use Rattle.nofs_history.specs.declared.machine.replies.Refusal.TheVariants as refusal
use Rattle.nofs_crashlaw.specs.Images.Proper.{Proper}
use Rattle.nofs_crashlaw.specs.Images.Moments.{during, Survives}
use Rattle.nofs_crashlaw.proofs.OnImages.Moments.{law-images}
use Rattle.nofs_crashlaw.specs.Untouched.Frames.{OldPointers}
use Rattle.nofs_crashlaw.specs.Maps.Homes.{HomesMove}
use Rattle.nofs_crashlaw.specs.Maps.Fresh.{Numbered, CellNumbers}
use Rattle.nofs_crashlaw.proofs.OnMaps.Fresh.{law-old}
use Rattle.nofs_crashlaw.specs.Names.OldEntries.{NameWrites}
use Rattle.nofs_crashlaw.proofs.OnNames.Files.{touches-of}
use Rattle.nofs_crashlaw.proofs.OnNames.Links.{record-in}
use Rattle.nofs_crashlaw.specs.Names.NewEntries.{HoleClaimed, Direct, UnderLeaf, WithLeaf}
use Rattle.nofs_crashlaw.specs.Numbers.Cells.{OldNumbers, RecordWritten, table_tag}
use Rattle.nofs_crashlaw.specs.Histories.Stage.{AddsProper}
use Rattle.nofs_state.specs.Books.Maps.{IsSafe, Says}
use Rattle.nofs_state.specs.Cores.Invariant.{IsOpen, Past}
use Rattle.nofs_history.specs.Writes.{WritesSoMany, makes_calls}
use Rattle.nofs_state.specs.Cores.Steps.{Goes, IsRow, MeetsOpen, WritesAlone, WritesCells, entry}
use Rattle.nofs_state.specs.declared.books.maps.Books.{Books}
use Rattle.nofs_state.specs.Writes.Premises.{RowsPass}
use Rattle.nofs_disk.specs.Order.{IsApart, OneOf, image_after}
use Rattle.nofs_state.specs.Writes.Cells.{Stores, Stored, NotStored, WritesAll}
use Rattle.nofs_crashlaw.proofs.OnNumbers.Tables.{law-table-numbers}
use Rattle.nofs_state.proofs.OnCores.Done.{IsDone, Adds-map, after_world, goes-done}
use Rattle.nofs_crashlaw.proofs.OnHistories.Entries.{now-picks}
use Rattle.nofs_crashlaw.proofs.OnHistories.Resting.{law-rest}
use Rattle.nofs_state.proofs.OnCores.Faults.{goes-fault, stopped_books, stopped_world}
use Rattle.nofs_state.proofs.OnCores.Replies.{open-files}
use Rattle.nofs_state.proofs.OnCores.SafeSteps.{accepted-fault}
use Rattle.nofs_state.proofs.OnWrites.Numbered.{AddsNumbered}
use Rattle.nofs_state.proofs.OnWrites.TwoWrites.{safe-writes, writes-cells}
use Rattle.nofs_names.specs.Renames.Parts.{done_answer}

-- The mount

-- what holds of an open mount's image, of its numbers and of its mark
pub record OpenImage (d : DiskState) (H : List Entry1) (p : Past) : Type 0 where
  pub geometry : IsGeometry (length d.now) (super_at d.now).blocks (super_at d.now).inodes
  pub match : FilesMatch p.world.files d.now
  pub numbers : OldNumbers p.world d.now
  pub pointers : (j : ℕ) → is_live (inode d.now j) ≡ true → OldPointers (next_stamp p.world) d.now j
  pub survives : Survives (mark_at p.base H (d.moment + 1) p.mark p.stamps) d.now
  pub super : super_at p.mark ≡ super_at d.now
  pub area : (b : ℕ) → is_data_block d.now b ≡ true → is_data_block p.mark b ≡ true
  pub table : (b : ℕ) → b ≤ (super_at d.now).inodes / 4 → is_data_block p.mark b ≡ false

pub open-image : (d : DiskState) (k : Books) (H : List Entry1) (p : Past) → IsDisk d → IsTrue d.tells → IsOpen d k H p
    → OpenImage d H p
open-image d k H p is tells o = record {
  geometry = geometry;
  match = open-files d k H p o;
  numbers = record { positive = o.stage.ready.positive; mountable = o.mountable; below = below };
  pointers = λ j live. law-old (next_stamp p.world) d.now j o.stage.ready.positive o.mountable below live;
  survives = survives;
  super = super;
  area = λ b. subst (λ (z : SuperBlock). (leb (1 + z.inodes / 4) b && ltb b z.blocks) ≡ true) (sym super);
  table = λ b low. ap (λ (z : SuperBlock). leb (1 + z.inodes / 4) b && ltb b z.blocks) super
      ∙ (let t : leb (1 + (super_at d.now).inodes / 4) b ≡ false =
      lt-leb (1 + (super_at d.now).inodes / 4) b (omega (arith, low)) in rw t refl);
}
  where
    geometry : IsGeometry (length d.now) (super_at d.now).blocks (super_at d.now).inodes
    geometry = let m = (mountable-law d.now).1 o.mountable in m.fits

    below : IsBelow (next_stamp p.world) d.now
    below b lt = o.stage.ready.fresh b (cell_at d.now b) lt
        (is.has_now b tells (let w = is.whole tells in let h = geometry.fits in omega (arith, lt, w, h)))

    pick : Picks d.may (length p.mark) d.now
    pick = now-picks d p.mark is tells o.stage.ready.survives.size

    survives : Survives (mark_at p.base H (d.moment + 1) p.mark p.stamps) d.now
    survives = law-images (mark_at p.base H (d.moment + 1) p.mark p.stamps) d.may d.now o.stage.ready.survives.mark
        o.stage.ready.survives.explained pick

    super : super_at p.mark ≡ super_at d.now
    super = supers d.now p.mark (sym survives.reads.super)

-- What the step gives, and what its writes owe

-- it gives something to the directory d and the file i alone, and both are there after it where their records are
pub record GivesName (W : World) (Y : Image) (s : Step) (c : Claims) (given : Given) (d i : ℕ) : Type 0 where
  pub is : gives W.files s c ≡ given
  pub claim : IsClaim W s c
  pub nothing : (j : ℕ) → j ≢ d → j ≢ i → GivesNothing given j
  pub there : is_some (W.files d) ≡ true
  pub used : (j : ℕ) → j ≢ i → is_some (files_after W.files given j) ≡ is_some (W.files j)
  pub owned : is_live (inode Y i) ≡ true → is_some (files_after W.files given i) ≡ true

pub record WritesName (old : DiskState) (H : List Entry1) (p : Past) (s : Step) (c : Claims) (given : Given) (d i : ℕ)
    (ws : List (ℕ × Cell)) : Type 0 where
  pub proper : (b : ℕ) (cell : Cell) → OneOf ws b cell
      → Proper (during (mark_at p.base H (old.moment + 1) p.mark p.stamps) given) old.now b cell
  pub numbers : (b : ℕ) (cell : Cell) → OneOf ws b cell → CellNumbers (Numbered p.world c) old.now b cell
  pub files : FilesMatch (files_after p.world.files given) (image_after ws old.now)
  pub move : HomesMove p.world.files s c old.now (image_after ws old.now)
  pub writes : NameWrites (next_stamp p.world) d i old.now (image_after ws old.now)

pub record NameStep (old : DiskState) (H : List Entry1) (p : Past) (s : Step) (c : Claims)
    (ws : List (ℕ × Cell)) : Type 0 where
  pub given : Given
  pub directory : ℕ
  pub file : ℕ
  pub gives : GivesName p.world (image_after ws old.now) s c given directory file
  pub ends : WritesName old H p s c given directory file ws
  pub row : IsRow p.world.files s c ws

-- the books stay but for their maps and their serial
pub record SameMount (k l : Books) : Type 0 where
  pub at : l.at ≡ k.at
  pub history : l.history ≡ k.history
  pub stopped : l.stopped ≡ k.stopped

-- what the books say after the step is the machine's
pub record Follows (W : World) (s : Step) (c : Claims) (l : Books) : Type 0 where
  pub learns : Learns W s true (after_world W s c l)
  pub says : Says l (after_world W s c l)

module _ (old new : DiskState) (k : Books) (H : List Entry1) (p : Past) (s : Step) (c : Claims) (ws : List (ℕ × Cell))
    (is_old : IsDisk old)
    (tells : IsTrue old.tells) (o : IsOpen old k H p) (it : NameStep old H p s c ws) where
  abbrev W : World
  W = p.world

  abbrev Y : Image
  Y = image_after ws old.now

  abbrev d : ℕ
  d = it.directory

  abbrev i : ℕ
  i = it.file

  given-is : gives (files_along (agreed_files p.base) H) s c ≡ it.given
  given-is = ap (λ (F : Files). gives F s c) (sym o.files) ∙ it.gives.is

  proper-one : (G : Given) → G ≡ it.given → (b : ℕ) (cell : Cell) → OneOf ws b cell
      → Proper (during (mark_at p.base H (old.moment + 1) p.mark p.stamps) G) old.now b cell
  proper-one G e b cell one = subst
      (λ (z : Given). Proper (during (mark_at p.base H (old.moment + 1) p.mark p.stamps) z) old.now b cell) (sym e)
      (it.ends.proper b cell one)

  or-parts : (a b : Bool) → (a || b) ≡ false → (a ≡ false) × (b ≡ false)
  or-parts true b e = cc
  or-parts false true e = cc
  or-parts false false e = (refl, refl)

  nothing-else : (j : ℕ) → (eqb j d || eqb j i) ≡ false → GivesNothing it.given j
  nothing-else j t = let a = or-parts (eqb j d) (eqb j i) t in
      it.gives.nothing j (eqb-false j d a.0) (eqb-false j i a.1)

  owned : (j : ℕ) (b : Bool) → eqb j i ≡ b → (eqb j d || eqb j i) ≡ true → is_live (inode Y j) ≡ true
      → is_some (files_after W.files it.given j) ≡ true
  owned j true e t live = let same = eqb-true j i e in
      subst (λ (n : ℕ). is_some (files_after W.files it.given n) ≡ true) (sym same)
      (it.gives.owned (subst (λ (n : ℕ). is_live (inode Y n) ≡ true) same live))
  owned j false e t live = it.gives.used j (eqb-false j i e)
      ∙ subst (λ (n : ℕ). is_some (W.files n) ≡ true) (sym (eqb-true j d (only (eqb j d) (eqb j i) e t))) it.gives.there
    where
      only : (a b : Bool) → b ≡ false → (a || b) ≡ true → a ≡ true
      only true b eb h = refl
      only false b eb h = cc (eb, h)

  rest : (e : Entry1) → given_by (files_along (agreed_files p.base) H) e ≡ it.given → SteadyRest p.base (H ++ e ∷ []) Y
  rest e ge = law-rest p.base H e (next_stamp W) (λ j. eqb j d || eqb j i) old.now Y
      (files_after W.files it.given) o.rest (record {
        before = o.stage.ready.files;
        after = it.ends.files;
        touches = touches-of (next_stamp W) d i old.now Y it.ends.writes;
        old = (open-image old k H p is_old tells o).pointers;
        owned = λ j t live. owned j (eqb j i) refl t live;
        stays = λ j t some. let a = or-parts (eqb j d) (eqb j i) t in
            it.gives.used j (eqb-false j i a.1) ∙ ap (λ (F : Files). is_some (F j)) o.files ∙ some;
        no_value = λ j h l t some. (λ z. (ge z).slots j h l) ∙ (nothing-else j t).slots h l;
        no_meta = λ j h t some. (λ z. (ge z).metas j h) ∙ (nothing-else j t).metas h;
      })

  pub name-numbered : Adds (OneOf ws) old new → AddsNumbered W c old new
  name-numbered = Adds-map (OneOf ws) (λ n cell. CellNumbers (Numbered W c) old.now n cell) old new it.ends.numbers

  pub name-proper : (e : Entry1)
      → given_by (files_along (agreed_files p.base) H) e ≡ gives (files_along (agreed_files p.base) H) s c
      → Adds (OneOf ws) old new → AddsProper p.base H e p.mark p.stamps old new
  name-proper e ge adds = Adds-map (OneOf ws)
      (Proper (during (mark_at p.base H (old.moment + 1) p.mark p.stamps)
      (given_by (files_along (agreed_files p.base) H) e)) old.now) old new
      (λ b cell one. proper-one (given_by (files_along (agreed_files p.base) H) e) (ge ∙ given-is) b cell one) adds

  -- the step is done, with these books after it
  pub name-done : (l : Books) (r : Reply) → SameMount k l → Follows W s c l → r ≡ reply_of W s c
      → is_refused r ≡ false → is_flushed r ≡ false
      → WritesAll old new ws (Ok tt) → ((U : World) → first_of (rows W U s) ≡ None) → IsDone old new k l H p s c r ws
  name-done l r same follows answer accepted no_flush writes none = record {
    adds = writes.adds;
    later = writes.later;
    proper = λ e es ec ge b cell one. proper-one (given_by (files_along (agreed_files p.base) H) e)
        (ge ∙ given-is) b cell one;
    numbers = it.ends.numbers;
    super = ap (λ (Z : Image). cell_at Z 0) writes.now ∙ it.ends.writes.super;
    size = writes.adds.disk.blocks;
    none = none (after_world W s c l);
    answer = answer;
    accepted = accepted;
    no_flush = no_flush;
    claim = it.gives.claim;
    learns = follows.learns;
    files = subst₂ (λ (F : Files) (Z : Image). FilesMatch F Z) (sym (ap (files_after W.files) it.gives.is))
        (sym writes.now) it.ends.files;
    move = subst (λ (Z : Image). HomesMove W.files s c old.now Z) (sym writes.now) it.ends.move;
    rest = λ e es ec ge. subst (λ (Z : Image). SteadyRest p.base (H ++ e ∷ []) Z) (sym writes.now)
        (rest e (ge ∙ given-is));
    says = follows.says;
    books_at = same.at;
    history = same.history;
    going = same.stopped ∙ o.going;
  }

-- What is written

-- the record of an inode in its cell of the table after the step
pub table-numbers : (W : World) (c : Claims) (X Y : Image) → OldNumbers W X
    → ((j : ℕ) → RecordWritten W c X j (inode Y j)) → cell_at Y 0 ≡ cell_at X 0
    → (b : ℕ) (cell : Cell) → cell ≡ cell_at Y b → tag_of cell.tag ≡ Some (table_tag b)
    → CellNumbers (Numbered W c) X b cell
table-numbers W c X Y old each super b cell is tag = law-table-numbers W c X b cell old tag (λ j range same.
    subst (λ (q : Record). RecordWritten W c X j q)
    (sym (ap (λ (z : Cell). record_at z.payload ((j - 1) % 4)) (is ∙ ap (cell_at Y) (sym same))
    ∙ record-in Y j (ap (λ (q : SuperBlock). leb 1 j && leb j q.inodes) (supers X Y super) ∙ range))) (each j))

module _ (s : ℕ) (X Y : Image) (d i k : ℕ) (x y : Pointer) where
  -- the leaf above a hole lies in the data area
  pub hole-area : HoleClaimed s X Y d i k x y → 8 ≤ k → is_data_block X y.block ≡ true
  hole-area (Direct lt h) far = absurd (omega (arith, far, lt))
  hole-area (UnderLeaf le lt h) far = (find-held X d leaf y h.held).agrees.area
  hole-area (WithLeaf le lt h) far = h.above.area

  -- and the directory keeps its generation
  pub hole-generation : d ≢ i → HoleClaimed s X Y d i k x y → (inode Y d).generation ≡ (inode X d).generation
  hole-generation apart (Direct lt h) = h.meta.generation
  hole-generation apart (UnderLeaf le lt h) = ap (λ (q : Record). q.generation) (h.records d apart)
  hole-generation apart (WithLeaf le lt h) = h.meta.generation

-- The step, from its writes

-- a write failed
pub fault-goes : (old new : DiskState) (k q : Books) (s : Step) (c : Claims) (ws : List (ℕ × Cell)) (x : Failed)
    → IsDisk old → IsSafe old k → k.stopped ≡ false
    → IsSafe old q → SameMount k q → IsApart ws 0 → may_write s ≡ true → WritesSoMany s c (length ws)
    → ((tells : IsTrue old.tells) (H : List Entry1) (p : Past) → IsOpen old k H p → NameStep old H p s c ws)
    → RowsPass old k s
    → WritesAll old new ws (Err x) → Goes old k new (stopped_books q) s c (reply.Refused refusal.WriteFault)
fault-goes old new k q s c ws x is safe going claimed same apart may count it pass writes =
    goes-fault old new k
    (stopped_books q) s c is going same.at same.history refl writes.adds.disk writes.adds.past writes.cause writes.later
    (WritesAlone refl (writes-cells k s c writes count (λ tells H p o. (it tells H p o).row))) safe
    (safe-writes old new q ws (Err x) true writes apart claimed)
    (λ tells H p o. name-numbered old new k H p s c ws is tells o (it tells H p o) writes.adds)
    (λ tells caller H p o. (
      name-proper old new k H p s c ws is tells o (it tells H p o)
          (entry caller old new s c (reply.Refused refusal.WriteFault)) refl writes.adds,
      pass tells H p o (stopped_world p.world),
      may,
      (it tells H p o).gives.claim,
    ))

-- what a step on names comes to where the mount is open: its writes, and the books after it
pub record NameComes (old : DiskState) (H : List Entry1) (p : Past) (q : Books) (s : Step) (c : Claims) (r : Reply)
    (ws : List (ℕ × Cell)) : Type 0 where
  pub step : NameStep old H p s c ws
  pub follows : Follows p.world s c q
  pub answer : r ≡ reply_of p.world s c

-- all is written: the books after it are l
pub done-goes : (old new : DiskState) (k l : Books) (s : Step) (c : Claims) (r : Reply) (ws : List (ℕ × Cell))
    → IsDisk old → IsDisk new → IsSafe old k
    → k.stopped ≡ false → IsSafe new l → SameMount k l → WritesSoMany s c (length ws)
    → is_refused r ≡ false → is_flushed r ≡ false
    → makes_calls r ≡ true
    → ((tells : IsTrue old.tells) (H : List Entry1) (p : Past) → IsOpen old k H p → NameComes old H p l s c r ws)
    → RowsPass old k s
    → WritesAll old new ws (Ok tt) → Goes old k new l s c r
done-goes old new k l s c r ws is is_new safe going after same count accepted no_flush made comes pass writes =
    goes-done old new k l s c r ws is is_new going same.at same.history
    (same.stopped ∙ going) after accepted writes.adds.disk writes.adds.past writes.later writes.no_fault
    (WritesAlone made (subst (WritesCells old new (MeetsOpen old k) s c) (sym (accepted-fault r accepted))
    (writes-cells k s c writes count (λ tells H p o. (comes tells H p o).step.row)))) safe
    (λ tells H p o. let f = comes tells H p o in
    name-done old new k H p s c ws is tells o f.step l r same f.follows f.answer accepted no_flush writes
    (pass tells H p o))

-- all is written, or a write failed: the books after the claims are q
pub stores-goes : (old new : DiskState) (k q l : Books) (s : Step) (c : Claims) (r : Reply) (ws : List (ℕ × Cell))
    (result : Result (Unit {0}) Refusal)
    → IsDisk old → IsDisk new → IsSafe old k → k.stopped ≡ false → IsSafe old q → SameMount k q → IsApart ws 0
    → may_write s ≡ true → WritesSoMany s c (length ws)
    → is_refused r ≡ false → is_flushed r ≡ false → makes_calls r ≡ true
    → ((tells : IsTrue old.tells) (H : List Entry1) (p : Past) → IsOpen old k H p → NameComes old H p q s c r ws)
    → RowsPass old k s
    → Stores old q new l ws result → Goes old k new l s c (done_answer r result)
stores-goes old new k q l s c r ws result is is_new safe going claimed same apart may count accepted no_flush made comes
    pass (Stored writes el er) =
    subst₂ (λ (b : Books) (z : Result (Unit {0}) Refusal). Goes old k new b s c (done_answer r z)) (sym el) (sym er)
    (done-goes old new k q s c r ws is is_new safe going
    (safe-writes old new q ws (Ok tt) q.stopped writes apart claimed) same count accepted no_flush made comes pass
    writes)
stores-goes old new k q l s c r ws result is is_new safe going claimed same apart may count accepted no_flush made comes
    pass (NotStored x writes el er) =
    subst₂ (λ (b : Books) (z : Result (Unit {0}) Refusal). Goes old k new b s c (done_answer r z)) (sym el) (sym er)
    (fault-goes old new k q s c ws x is safe going claimed same apart may count
    (λ tells H p o. (comes tells H p o).step) pass writes)
