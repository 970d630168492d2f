-- Drop: the mount stands after its writes, where the inode has another name and where it goes.
use Rattle.std.proofs.Common.{◌≡◌, ℕ, ◌+◌, ◌-◌, ◌/◌, inl, inr, Bool, true, false, cond, eqb, eq-eqb, leb, leb-true, ltb}
use Rattle.std.proofs.Common.{◌&&◌, not, List, [], ◌∷◌, Option, Some, None, is_some, IsTrue, refl, sym, ap, ◌∙◌, subst}
use Rattle.std.proofs.Common.{arith}
use Rattle.std.proofs.lemmas.Bool.{cases_lt, lt-leb}
use Rattle.std.specs.List.{list_any}
use Rattle.nofs_disk.specs.Disk.{DiskState, IsDisk, cell_at}
use Rattle.nofs_disk.specs.declared.tag.Cell.{Cell}
use Rattle.nofs_dirent.specs.declared.entry.Entry.{Entry}
use Rattle.nofs_disk.specs.declared.tag.Pointer.{Pointer}
use Rattle.nofs_inode.specs.declared.inode.Record.{Record}
use Rattle.nofs_super.specs.declared.superblock.SuperBlock.{SuperBlock}
use Rattle.nofs_inode.specs.InodeRecords.{is_live}
use Rattle.nofs_model.specs.Geometry.{Image, super_at, is_data_block, inode}
use Rattle.nofs_ptrs.specs.Paths.{path_of}
use Rattle.nofs_model.specs.Slots.{find, record_pointer}
use Rattle.nofs_model.specs.Files.{is_special, FileState, is_pair}
use Rattle.nofs_model.specs.Owners.{Home}
use Rattle.nofs_model.proofs.OnSlots.Find.{and-both, find-held}
use Rattle.nofs_model.proofs.OnOwners.Slots.{owner-holds}
use Rattle.nofs_crashlaw.specs.Images.Proper.{Proper}
use Rattle.nofs_crashlaw.specs.Images.Moments.{during}
use Rattle.nofs_history.specs.Meta.{Meta, Gone, Is, is_gone}
use Rattle.nofs_history.specs.Marks.{Mark, mark_at}
use Rattle.nofs_history.specs.Machine as machine
use Rattle.nofs_history.specs.Machine.{Given, gives, drop_given, drop_meta, meta_given, without_link, link_to}
use Rattle.nofs_history.specs.Machine.{zero_bytes, files_after, value_of, with_entry}
use Rattle.nofs_history.specs.World.{World, is_fixed}
use Rattle.nofs_history.specs.Claims.{no_claims, next_stamp, IsClaim, has_block}
use Rattle.nofs_history.specs.History.{FilesMatch}
use Rattle.nofs_history.specs.declared.machine.history.Entry1.{Entry1}
use Rattle.nofs_history.specs.declared.machine.steps.Step.TheVariants as step
use Rattle.nofs_history.specs.declared.machine.replies.Reply.TheVariants as reply
use Rattle.nofs_crashlaw.proofs.OnUntouched.Matches.{Matched}
use Rattle.nofs_crashlaw.specs.Names.OldEntries.{Relinked, DropLies}
use Rattle.nofs_crashlaw.proofs.OnNames.OldLaws.{law-drop-name, law-drop-file}
use Rattle.nofs_crashlaw.proofs.OnHomes.OldEntries.{law-drop-name-homes, law-drop-file-homes}
use Rattle.nofs_state.proofs.OnWrites.Tables.{table_block}
use Rattle.nofs_state.specs.Cores.Invariant.{IsOpen, Past}
use Rattle.nofs_state.specs.declared.books.maps.Books.{Books}
use Rattle.nofs_names.specs.declared.searches.slots.Paired.{Paired}
use Rattle.nofs_names.specs.Drops.Removal.{is_of}
use Rattle.nofs_names.proofs.OnSteps.CellAndRecord.{KeepsFile, file-used, file-blocks}
use Rattle.nofs_names.proofs.OnSteps.OpenMount.{NameComes, NameStep, OpenImage}
use Rattle.nofs_names.proofs.OnSteps.NoClaims.{IsQuiet, quiet-claim, quiet-follows}
use Rattle.nofs_names.proofs.OnDrops.Freed.{IsLeaving, Freed, leaving-claim, leaving-follows}
use Rattle.nofs_names.proofs.OnDrops.Writes.{entry-bytes, keeps-meta, keeps-else, Drops}
use Rattle.nofs_names.proofs.OnDrops.Writes as writes_part

module _ (old : DiskState) (k : Books) (H : List Entry1) (p : Past) (d g : ℕ) (name : List ℕ) (r : Record) (x : Pointer)
    (c1 c2 : Cell) (q : Paired)
    (r' : Record) (is_old : IsDisk old) (tells : IsTrue old.tells) (o : IsOpen old k H p)
    (drops : Drops old p d g name r x c1 c2 q r') where
  -- what was shown of them before
  abbrev W : World
  W = writes_part.W old k H p d g name r x c1 c2 q r' is_old tells o drops

  abbrev X : Image
  X = writes_part.X old k H p d g name r x c1 c2 q r' is_old tells o drops

  abbrev Y : Image
  Y = writes_part.Y old k H p d g name r x c1 c2 q r' is_old tells o drops

  abbrev it : Entry
  it = writes_part.it old k H p d g name r x c1 c2 q r' is_old tells o drops

  abbrev same : it.inode ≡ q.inode
  same = writes_part.same old k H p d g name r x c1 c2 q r' is_old tells o drops

  abbrev on : OpenImage old H p
  on = writes_part.on old k H p d g name r x c1 c2 q r' is_old tells o drops

  abbrev own : Matched W.files X d
  own = writes_part.own old k H p d g name r x c1 c2 q r' is_old tells o drops

  abbrev its : Matched W.files X q.inode
  its = writes_part.its old k H p d g name r x c1 c2 q r' is_old tells o drops

  abbrev named : W.files it.inode ≡ Some its.file
  named = writes_part.named old k H p d g name r x c1 c2 q r' is_old tells o drops

  abbrev here : inode Y q.inode ≡ r'
  here = writes_part.here old k H p d g name r x c1 c2 q r' is_old tells o drops

  abbrev in-table : cell_at Y (table_block q.inode) ≡ c2
  in-table = writes_part.in-table old k H p d g name r x c1 c2 q r' is_old tells o drops

  abbrev lies : DropLies W.files X Y d g q.entry (next_stamp W) own.file its.file x it
  lies = writes_part.lies old k H p d g name r x c1 c2 q r' is_old tells o drops

  abbrev after-files : files_after W.files (gives W.files (step.Drop d g name) no_claims) ≡ files_after W.files
      (drop_given W.files d g q.entry)
  after-files = writes_part.after-files old k H p d g name r x c1 c2 q r' is_old tells o drops

  abbrev cell-is : drop_given W.files d g q.entry ≡ machine.cell_given d g (q.entry / 16)
      (with_entry (value_of W.files d (q.entry / 16)) q.entry (zero_bytes 64))
      (meta_given it.inode it.generation (drop_meta W.files it.inode (link_to d q.entry g)))
  cell-is = writes_part.cell-is old k H p d g name r x c1 c2 q r' is_old tells o drops

  abbrev mark-table : is_data_block p.mark (table_block q.inode) ≡ false
  mark-table = writes_part.mark-table old k H p d g name r x c1 c2 q r' is_old tells o drops

  abbrev super-after : super_at p.mark ≡ super_at Y
  super-after = writes_part.super-after old k H p d g name r x c1 c2 q r' is_old tells o drops

  abbrev EndsWell : Type 0
  EndsWell = writes_part.EndsWell old k H p d g name r x c1 c2 q r' is_old tells o drops

  -- The inode drops.has another name

  to-table : (P : ℕ → Cell → Type 0) → P (1 + (it.inode - 1) / 4) (cell_at Y (1 + (it.inode - 1) / 4))
      → P (table_block q.inode) c2
  to-table P h = subst (λ (z : Cell). P (table_block q.inode) z) in-table
      (subst (λ (i : ℕ). P (1 + (i - 1) / 4) (cell_at Y (1 + (i - 1) / 4))) same h)

  after-as : (meta : Meta) → drop_meta W.files it.inode (link_to d q.entry g) ≡ meta
      → drop_given W.files d g q.entry ≡ machine.cell_given d g (q.entry / 16)
      (with_entry (value_of W.files d (q.entry / 16)) q.entry (zero_bytes 64))
      (meta_given it.inode it.generation meta)
  after-as meta e = cell-is ∙ (λ j. machine.cell_given d g (q.entry / 16)
      (with_entry (value_of W.files d (q.entry / 16)) q.entry (zero_bytes 64))
      (meta_given it.inode it.generation (e j)))

  used-as : (meta : Meta) → drop_meta W.files it.inode (link_to d q.entry g) ≡ meta → (j : ℕ)
      → ((h : ℕ) → KeepsFile (meta_given it.inode it.generation meta j h))
      → is_some (files_after W.files (drop_given W.files d g q.entry) j) ≡ is_some (W.files j)
  used-as meta e j keeps = (λ z. is_some (files_after W.files (after-as meta e z) j))
      ∙ file-used W.files d g (q.entry / 16) (with_entry (value_of W.files d (q.entry / 16)) q.entry (zero_bytes 64))
      (meta_given it.inode it.generation meta)
      j keeps

  blocks-as : (meta : Meta) → drop_meta W.files it.inode (link_to d q.entry g) ≡ meta → (home : Home)
      → ((h : ℕ) → KeepsFile (meta_given it.inode it.generation meta home.inode h)) → has_block W.files home ≡ true
      → has_block (files_after W.files (drop_given W.files d g q.entry)) home ≡ true
  blocks-as meta e home keeps h =
      subst (λ (z : Given). has_block (files_after W.files z) home ≡ true) (sym (after-as meta e))
      (file-blocks W.files d g (q.entry / 16) (with_entry (value_of W.files d (q.entry / 16)) q.entry (zero_bytes 64))
      (meta_given it.inode it.generation meta)
      home.inode keeps home.slot (entry-bytes (value_of W.files d (q.entry / 16)) q.entry (zero_bytes 64)) h)

  module _ (rec-q : inode old.now q.inode ≡ q.record) where
    module _ (keep : drop_meta W.files it.inode (link_to d q.entry g) ≡ Is its.file.kind its.file.size
        (without_link (link_to d q.entry g) its.file.links))
        (changed : r' ≡ record q.record { links = without_link (link_to d q.entry g) q.record.links }) where
      new-record : inode Y it.inode
          ≡ record (inode X it.inode) { links = without_link (link_to d q.entry g) its.file.links }
      new-record = ap (inode Y) same
          ∙ here ∙ changed ∙ (λ j. record (rec-i j) { links = without_link (link_to d q.entry g) (links-i j) })
        where
          rec-i : q.record ≡ inode X it.inode
          rec-i = sym rec-q ∙ ap (inode X) (sym same)

          links-i : q.record.links ≡ its.file.links
          links-i = ap (λ (z : Record). z.links) (sym rec-q) ∙ sym its.links

      relinked : Relinked X Y it.inode (without_link (link_to d q.entry g) its.file.links)
      relinked = record {
        kind = ap (λ (z : Record). z.kind) new-record;
        generation = ap (λ (z : Record). z.generation) new-record;
        size = ap (λ (z : Record). z.size) new-record;
        links = ap (λ (z : Record). z.links) new-record;
        pointers = λ n low. ap (λ (z : Record). record_pointer z n) new-record;
      }

      keeps : (j h : ℕ) → KeepsFile (meta_given it.inode it.generation
          (Is its.file.kind its.file.size (without_link (link_to d q.entry g) its.file.links)) j h)
      keeps j h = keeps-meta it.inode it.generation
          (Is its.file.kind its.file.size (without_link (link_to d q.entry g) its.file.links)) refl j h

      law-name : ((m : Mark) → super_at m.image ≡ super_at Y → is_data_block m.image (1 + (it.inode - 1) / 4) ≡ false
          → Proper (during m (drop_given W.files d g q.entry)) X (1 + (it.inode - 1) / 4)
          (cell_at Y (1 + (it.inode - 1) / 4)))
          × FilesMatch (files_after W.files (drop_given W.files d g q.entry)) Y
      law-name = law-drop-name W.files X Y d g q.entry (next_stamp W) own.file its.file x it lies keep relinked

      quiet : IsQuiet W (step.Drop d g name) (files_after W.files (drop_given W.files d g q.entry))
      quiet = record {
        no_inode = refl;
        no_block = refl;
        none_claimed = λ b. refl;
        files = after-files;
        used = λ j. used-as (Is its.file.kind its.file.size (without_link (link_to d q.entry g) its.file.links))
            keep j (keeps j);
        blocks = λ home h. blocks-as (Is its.file.kind its.file.size
            (without_link (link_to d q.entry g) its.file.links)) keep home (keeps home.inode) h;
        sees_no_inode = λ i. refl;
        sees_no_block = λ b. refl;
      }

      kept-claim : IsClaim W (step.Drop d g name) no_claims
      kept-claim = quiet-claim X k W (step.Drop d g name)
          (files_after W.files (drop_given W.files d g q.entry)) o.says on.match o.homes o.homes_past quiet

      kept-ends : EndsWell
      kept-ends = record {
        numbered = inl relinked;
        table = to-table (λ b z.
            Proper (during (mark_at p.base H (old.moment + 1) p.mark p.stamps) (drop_given W.files d g q.entry)) X b z)
            (law-name.0 (mark_at p.base H (old.moment + 1) p.mark p.stamps) super-after
            (ap (λ (i : ℕ). is_data_block p.mark (1 + (i - 1) / 4)) same ∙ mark-table));
        files = law-name.1;
        claim = kept-claim;
        move = law-drop-name-homes W X Y d g q.entry
            (next_stamp W) name own.file its.file x it no_claims lies keep relinked kept-claim;
        others = λ j ne. quiet.used j;
        owned = λ live. quiet.used it.inode ∙ ap is_some named;
      }

      pub kept-comes : NameComes old H p k (step.Drop d g name) no_claims (reply.Dropped false)
          ((x.block, c1) ∷ (table_block q.inode, c2) ∷ [])
      kept-comes = (writes_part.drop-comes old k H p d g name r x c1 c2 q r' is_old tells o drops) kept-ends k false (ap
          is_gone keep)
          (quiet-follows X k W (step.Drop d g name)
          (files_after W.files (drop_given W.files d g q.entry)) o.says on.match o.homes o.homes_past quiet)

    -- The inode goes

    module _ (goes : drop_meta W.files it.inode (link_to d q.entry g) ≡ Gone) (free : r'.kind ≡ None) where
      no-kind : (inode Y it.inode).kind ≡ None
      no-kind = ap (λ (z : Record). z.kind) (ap (inode Y) same ∙ here) ∙ free

      generation-is : it.generation ≡ its.file.generation
      generation-is = drops.pair.pair.generation ∙ sym (its.generation ∙ ap (λ (z : Record). z.generation) rec-q)

      -- what stands at the mark is this generation
      stood : (n : ℕ)
          → (mark_at p.base H (old.moment + 1) p.mark p.stamps).stands it.inode n ≡ true → its.file.generation ≡ n
      stood n st = its.generation ∙ ap (λ (i : ℕ). (inode X i).generation) (sym same)
          ∙ (on.survives.keeps.records it.inode n st).1

      law-file : ((m : Mark) → super_at m.image ≡ super_at Y → is_data_block m.image (1 + (it.inode - 1) / 4) ≡ false
          → ((n : ℕ) → m.stands it.inode n ≡ true → its.file.generation ≡ n)
          → Proper (during m (drop_given W.files d g q.entry)) X (1 + (it.inode - 1) / 4)
          (cell_at Y (1 + (it.inode - 1) / 4)))
          × FilesMatch (files_after W.files (drop_given W.files d g q.entry)) Y
      law-file = law-drop-file W.files X Y d g q.entry (next_stamp W) own.file its.file x it lies goes no-kind

      -- the root and the label file never go
      plain : is_special it.inode ≡ false
      plain = go (is_special it.inode) refl (sym (ap (λ (z : Option FileState). meta_of_file z) named) ∙ goes)
        where
          meta_of_file : Option FileState → Meta
          meta_of_file z = elim z [
            | None ↦ Gone
            | Some f ↦ (cond
                (not (is_special it.inode)
                && not (list_any (λ l. is_pair W.files it.inode l) (without_link (link_to d q.entry g) f.links))) Gone
                (Is f.kind f.size (without_link (link_to d q.entry g) f.links)))
          ]

          go : (b : Bool) → is_special it.inode ≡ b → meta_of_file (Some its.file) ≡ Gone → is_special it.inode ≡ false
          go false e h = e
          go true e h = absurd (let z : meta_of_file (Some its.file) ≡ Is its.file.kind its.file.size
              (without_link (link_to d q.entry g) its.file.links) =
              rw e refl in let w = ap is_gone (sym z ∙ h) in cc w)

      gone-file-is : files_after W.files (drop_given W.files d g q.entry) it.inode ≡ None
      gone-file-is = (λ z. files_after W.files (after-as Gone goes z) it.inode)
          ∙ ap (λ (z : Option FileState). machine.file_after
          (machine.cell_given d g (q.entry / 16)
          (with_entry (value_of W.files d (q.entry / 16)) q.entry (zero_bytes 64))
          (meta_given it.inode it.generation Gone)) it.inode z) named
          ∙ (let a = eq-eqb it.inode it.inode refl in
          let b = eq-eqb it.generation its.file.generation generation-is in rw (a, b) refl)

      leaving : IsLeaving W (step.Drop d g name) (files_after W.files (drop_given W.files d g q.entry)) it.inode
      leaving = record {
        no_inode = refl;
        no_block = refl;
        none_claimed = λ b. refl;
        files = after-files;
        gone = gone-file-is;
        was = ap is_some named;
        plain = plain;
        used = λ j ne. used-as Gone goes j (keeps-else it.inode it.generation Gone j ne);
        blocks = λ home ne h. blocks-as Gone goes home (keeps-else it.inode it.generation Gone home.inode ne) h;
        moving = λ b own-b. moving b (W.homes b) refl own-b;
        sees_no_inode = λ i. refl;
        sees_no_block = λ b. refl;
      }
        where
          inodes-are : W.inodes ≡ (super_at X).inodes
          inodes-are = o.says.inodes ∙ ap (λ (z : SuperBlock). z.inodes) (sym o.at)

          moving : (b : ℕ) (h : Option Home) → W.homes b ≡ h → is_of it.inode h ≡ true → is_fixed W b ≡ false
          moving b None e t = cc t
          moving b (Some home) e t = elim (cases_lt b W.blocks) [
            | inl low ↦
                let w = owner-holds X b home.inode home.slot (sym (o.homes b low) ∙ e) in
                let a = and-both (leb (1 + (super_at X).inodes / 4) w.0.block) (ltb w.0.block (super_at X).blocks)
                (find-held X home.inode (path_of home.slot) w.0 w.2).agrees.area in
                let above = leb-true (1 + (super_at X).inodes / 4) w.0.block a.0 in
                let s = w.3 in
                let i = inodes-are in
                lt-leb b (W.inodes / 4) (omega (arith, above, s, i))
            | inr high ↦ absurd (let n = o.homes_past b high in cc (n, e))
          ]

      gone-claim : IsClaim W (step.Drop d g name) no_claims
      gone-claim =
          leaving-claim W (step.Drop d g name) (files_after W.files (drop_given W.files d g q.entry)) it.inode leaving

      gone-ends : EndsWell
      gone-ends = record {
        numbered = inr no-kind;
        table = to-table (λ b z.
            Proper (during (mark_at p.base H (old.moment + 1) p.mark p.stamps) (drop_given W.files d g q.entry)) X b z)
            (law-file.0 (mark_at p.base H (old.moment + 1) p.mark p.stamps) super-after
            (ap (λ (i : ℕ). is_data_block p.mark (1 + (i - 1) / 4)) same ∙ mark-table) stood);
        files = law-file.1;
        claim = gone-claim;
        move = law-drop-file-homes W X Y d g q.entry
            (next_stamp W) name own.file its.file x it no_claims lies goes no-kind gone-claim;
        others = λ j ne. leaving.used j ne;
        owned = λ live.
            absurd (let z : is_live (inode Y it.inode) ≡ false = let n = no-kind in rw n refl in cc (z, live));
      }

      pub gone-step : NameStep old H p (step.Drop d g name) no_claims ((x.block, c1) ∷ (table_block q.inode, c2) ∷ [])
      gone-step = (writes_part.drop-step old k H p d g name r x c1 c2 q r' is_old tells o drops) gone-ends

      pub gone-comes : (l : Books) → Freed k l it.inode (λ b. is_of it.inode (W.homes b))
          → NameComes old H p l (step.Drop d g name) no_claims (reply.Dropped true)
          ((x.block, c1) ∷ (table_block q.inode, c2) ∷ [])
      gone-comes l freed =
          (writes_part.drop-comes old k H p d g name r x c1 c2 q r' is_old tells o drops) gone-ends l true
          (ap is_gone goes)
          (leaving-follows X k l W (step.Drop d g name) (files_after W.files (drop_given W.files d g q.entry))
          it.inode o.says on.match o.homes o.homes_past leaving freed)
