-- A Put at any depth: each of its writes is proper.
use Rattle.std.proofs.Common.{◌≡◌, ℕ, ◌+◌, ◌*◌, ◌/◌, ◌≤◌, max, inl, inr, true, false, eqb, eqb-true}
use Rattle.std.proofs.Common.{eq-eqb, leb, ltb, ◌&&◌, List, [], ◌∷◌, ◌++◌, length, Some, is_some}
use Rattle.std.proofs.Common.{refl, sym, ap, ◌∙◌, subst, subst₂, arith}
use Rattle.nofs_disk.specs.Disk.{Picks, cell_at}
use Rattle.nofs_inode.specs.declared.inode.FileKind.TheVariants.{File}
use Rattle.nofs_disk.specs.declared.tag.Cell.{Cell}
use Rattle.nofs_disk.specs.declared.tag.Pointer.{Pointer}
use Rattle.nofs_inode.specs.declared.inode.Record.{Record}
use Rattle.nofs_super.specs.declared.superblock.SuperBlock.{SuperBlock}
use Rattle.nofs_disk.specs.Tag.{tag_of}
use Rattle.nofs_model.specs.Geometry.{Image, super_at, is_data_block, inode}
use Rattle.nofs_model.specs.Slots.{tag_for, record_pointer, IsAbove}
use Rattle.nofs_ptrs.specs.Paths.{Path, InRecord, Under}
use Rattle.nofs_model.specs.Files.{Files}
use Rattle.nofs_model.specs.declared.image.value.Value.TheVariants.{Bytes}
use Rattle.nofs_model.proofs.OnSlots.Paths.{above-refl, above-up}
use Rattle.nofs_model.proofs.OnSound.Writes.{supers}
use Rattle.nofs_crashlaw.specs.Images.Proper.{Proper, OfTable, RecordProper, Unchanged}
use Rattle.nofs_crashlaw.specs.Images.Moments.{during}
use Rattle.nofs_crashlaw.specs.Images.Reasons.{ReadsSince}
use Rattle.nofs_crashlaw.proofs.OnImages.Moments.{law-images}
use Rattle.nofs_history.specs.Steady.{SteadyRest}
use Rattle.nofs_history.specs.Meta.{meta_of, Is}
use Rattle.nofs_history.specs.Marks.{Mark}
use Rattle.nofs_history.specs.Machine.{gives, given_by, put_given, put_content, files_after}
use Rattle.nofs_history.specs.Claims.{next_stamp}
use Rattle.nofs_history.specs.Since.{agreed_files, files_along}
use Rattle.nofs_history.specs.declared.machine.history.Entry1.{Entry1}
use Rattle.nofs_history.specs.Gives.{GivesNothing}
use Rattle.nofs_crashlaw.proofs.OnFiles.Growth.{above-or-not}
use Rattle.nofs_crashlaw.proofs.OnFiles.PutFile.{put-new, put-gives, put-slot, put-meta}
use Rattle.nofs_crashlaw.proofs.OnFiles.Writes.{law-content, law-pointer-block, law-record}
use Rattle.nofs_disk.specs.Order.{OneOf}
use Rattle.nofs_crashlaw.proofs.OnHistories.Entries.{now-picks}
use Rattle.nofs_crashlaw.proofs.OnHistories.Resting.{law-rest}
use Rattle.nofs_state.proofs.OnWrites.Tables.{table_block, table-records}
use Rattle.nofs_files.proofs.OnPuts.Unchanged.{file-stays, not-leb}
use Rattle.nofs_files.proofs.OnPuts.Ways.{IsNew, IsChanged, way_writes, new-or-old, new-above}
use Rattle.nofs_files.proofs.OnPuts.Ways.{step-down, old-up, changed-is, way-changed, one-is}
use Rattle.nofs_files.proofs.OnPuts.Image.{after, mark_of}
use Rattle.nofs_files.proofs.OnPuts.Slots.{SlotsShown}

-- what is shown of its writes and of the names after it
pub record ProperShown : Type 1 where
  pub slots : SlotsShown
  pub open slots use *
  pub same_given : put_given p.world.files i g slot at bytes
      ≡ put_given (files_along (agreed_files p.base) H) i g slot at bytes
  pub proper : (n : ℕ) (cell : Cell) → OneOf (way_writes places cells (table_block i, c2) m way) n cell
      → Proper (during (mark_of climb) (put_given p.world.files i g slot at bytes)) old.now n cell
  pub rest : (e : Entry1) → given_by (files_along (agreed_files p.base) H) e ≡ put_given
      (files_along (agreed_files p.base) H) i g slot at bytes → SteadyRest p.base (H ++ e ∷ []) (after climb)

module _ (shown : SlotsShown) where
  open shown use {climb, old, H, p, i, g, slot, at, bytes, r', m, way, places, cells, c2, is_old, tells, o, h}
  open shown use {own, file_kind, file, generation, size, value_here, slot_of_way, free, stamp, area, changed_above}
  open shown use {table_low, stays, cell_here, here, old_pointers, names, touches, not_both, grows, files}

  abbrev X : Image
  X = old.now

  abbrev Y : Image
  Y = after climb

  -- Why each write is proper

  abbrev M : Mark
  M = mark_of climb

  pick : Picks old.may (length p.mark) X
  pick = now-picks old p.mark is_old tells o.stage.ready.survives.size

  reads : ReadsSince M X
  reads = (law-images M old.may X o.stage.ready.survives.mark o.stage.ready.survives.explained pick).reads

  mark-super : super_at p.mark ≡ super_at X
  mark-super = supers X p.mark (sym reads.super)

  mark-area : (b : ℕ) → is_data_block X b ≡ true → is_data_block p.mark b ≡ true
  mark-area b d = subst (λ (q : SuperBlock). (leb (1 + q.inodes / 4) b && ltb b q.blocks) ≡ true) (sym mark-super) d

  pub same-given : put_given p.world.files i g slot at bytes
      ≡ put_given (files_along (agreed_files p.base) H) i g slot at bytes
  same-given = ap (λ (G : Files). put_given G i g slot at bytes) o.files

  newer-mark : (a : Path) → IsNew m way a → p.stamps ≤ (places a).stamp
  newer-mark a n = let q = o.older in let s = stamp a n in omega (arith, q, s)

  way-changed-is : IsChanged m way way
  way-changed-is = way-changed m way

  content-proper : Proper (during M (put_given p.world.files i g slot at bytes)) X (places way).block (cells way)
  content-proper =
      law-content M (put_given p.world.files i g slot at bytes) X Y i g slot (places way) (cells way) (record {
        area = mark-area (places way).block (area way (above-refl way));
        range = h.file.range;
        generation = ap (λ (q : Record). q.generation) here ∙ h.grew.generation ∙ h.file.generation;
        tag = subst (λ (q : Path). tag_of (cells way).tag ≡ Some (tag_for Y i q (places way).stamp)) (sym h.file.path)
            (ap (λ (q : Cell). tag_of q.tag) (sym (cell_here way way-changed-is)) ∙ grows.tag way (above-refl way));
        gives = put-slot p.world.files i g slot at bytes own.file own.is generation file
            ∙ ap (λ (v : List ℕ). Some (Bytes v))
            (sym (h.content ∙ (λ j. put_content (sym value_here j) (sym size j) slot at bytes)));
        place = elim (changed-is m way way way-changed-is)
            [ inl n ↦ inr (free way n) | inr d ↦ inl (h.tag_old way way-changed-is d) ];
      })

  pointers-proper : (a : Path) (n : ℕ) → IsAbove (Under a n) way
      → Proper (during M (put_given p.world.files i g slot at bytes)) X (places a).block
      (cell_at Y (places a).block)
  pointers-proper a n v =
      law-pointer-block (next_stamp p.world) M
      (put_given p.world.files i g slot at bytes) X Y i a n way places grows (record {
        area = mark-area (places a).block (area a (above-up a n way v));
        points = (slot_of_way (Under a n) v).0;
        slot = slot_of_way a (above-up a n way v);
        on = v;
        above = above-up a n way v;
        live = own.live;
        generation = names.generation;
        kind = names.kind;
        reads = reads;
        block = elim (new-or-old m way a (above-up a n way v)) [
          | inl w ↦ inr (
            elim (new-or-old m way (Under a n) v)
                [ inl z ↦ h.hole a n z w | inr d ↦ absurd (not_both a w (old-up m way a n d)) ],
            free a w,
          )
          | inr d ↦ inl (h.old a d)
        ];
        next = elim (new-or-old m way (Under a n) v) [
          | inl w ↦ inr (newer-mark (Under a n) w, h.empty (Under a n) w)
          | inr d ↦ inl (h.old (Under a n) d)
        ];
      })

  block-proper : (a : Path) → IsChanged m way a
      → Proper (during M (put_given p.world.files i g slot at bytes)) X (places a).block (cells a)
  block-proper a q = elim (step-down a way (changed_above a q)) [
    | inl e ↦
        subst (λ (b : Path). Proper (during M (put_given p.world.files i g slot at bytes)) X (places b).block (cells b))
        (sym e) content-proper
    | inr (n, v) ↦
        subst (λ (d : Cell). Proper (during M (put_given p.world.files i g slot at bytes)) X (places a).block d)
        (cell_here a q) (pointers-proper a n v)
  ]

  record-proper : RecordProper (during M (put_given p.world.files i g slot at bytes)) X i r'
  record-proper = law-record M (put_given p.world.files i g slot at bytes) X i r' (record {
    live = own.live;
    generation = h.grew.generation ∙ sym (ap (λ (q : Record). q.generation) h.file.rec);
    kind = h.grew.kind ∙ sym (ap (λ (q : Record). q.kind) h.file.rec);
    meta = inr (ap ((put_given p.world.files i g slot at bytes).metas i) (h.grew.generation ∙ h.file.generation)
        ∙ put-meta p.world.files i g slot at bytes own.file own.is generation file ∙ ap Some new-meta);
    reads = reads;
    pointers = λ n lt. elim (above-or-not (InRecord n) way) [
      | inl u ↦ elim (new-or-old m way (InRecord n) u) [
        | inl w ↦ inr (inl (
          subst (λ (q : Pointer). p.stamps ≤ q.stamp) (sym (h.pointer_new n w)) (newer-mark (InRecord n) w),
          h.empty (InRecord n) w,
        ))
        | inr d ↦ inl (kept n (λ w. not_both (InRecord n) w d))
      ]
      | inr off ↦ inl (kept n (λ w. off (new-above m way (InRecord n) w)))
    ];
  })
    where
      kept : (n : ℕ) → (IsNew m way (InRecord n) → ⊥) → record_pointer r' n ≡ record_pointer (inode X i) n
      kept n off = h.pointers_old n off ∙ ap (λ (q : Record). record_pointer q n) (sym h.file.rec)

      new-meta : Is own.file.kind (max own.file.size (1024 * slot + at + length bytes)) own.file.links ≡ meta_of r'
      new-meta = let e : r'.kind ≡ Some File = h.grew.kind ∙ h.file.kind in
          (λ j. Is (file_kind j) ((ap (λ (n : ℕ). max n (1024 * slot + at + length bytes)) size ∙ sym h.grew.size) j)
          ((own.links ∙ ap (λ (q : Record). q.links) h.file.rec ∙ sym h.grew.links) j)) ∙ sym (rw (e, meta_of) refl)

  table-proper : Proper (during M (put_given p.world.files i g slot at bytes)) X (table_block i) c2
  table-proper = OfTable (record {
    not_super = omega arith;
    area = ap (λ (q : SuperBlock). leb (1 + q.inodes / 4) (table_block i) && ltb (table_block i) q.blocks) mark-super
        ∙ (let t : leb (1 + (super_at X).inodes / 4) (table_block i) ≡ false =
        not-leb (1 + (super_at X).inodes / 4) (table_block i)
        (let l = table_low in omega (arith, l)) in rw t refl);
    records = λ j e s. elim (table-records X i r' c2 h.file.has j
        (subst (λ (q : SuperBlock). (leb 1 j && leb j q.inodes) ≡ true) mark-super e) s) [
          | inl new ↦
              subst₂ (λ (q : ℕ) (t : Record). RecordProper (during M (put_given p.world.files i g slot at bytes)) X q t)
              (sym new.0) (sym new.1) record-proper
          | inr was ↦ Unchanged was
        ];
  })

  pub proper : (n : ℕ) (cell : Cell) → OneOf (way_writes places cells (table_block i, c2) m way) n cell
      → Proper (during M (put_given p.world.files i g slot at bytes)) X n cell
  proper n cell one = elim (one-is places cells (table_block i, c2) m way n cell one) [
    | inl e ↦
        subst₂ (λ (q : ℕ) (d : Cell). Proper (during M (put_given p.world.files i g slot at bytes)) X q d) (sym e.0)
        (sym e.1) table-proper
    | inr (a, q, eb, ec) ↦
        subst₂ (λ (b : ℕ) (d : Cell). Proper (during M (put_given p.world.files i g slot at bytes)) X b d)
        (sym eb) (sym ec) (block-proper a q)
  ]

  pub rest : (e : Entry1) → given_by (files_along (agreed_files p.base) H) e
      ≡ put_given (files_along (agreed_files p.base) H) i g slot at bytes
      → SteadyRest p.base (H ++ e ∷ []) Y
  rest e gives-it = law-rest p.base H e (next_stamp p.world) (λ j. eqb j i) X Y
      (files_after p.world.files (put_given p.world.files i g slot at bytes)) o.rest (record {
        before = o.stage.ready.files;
        after = files;
        touches = touches;
        old = old_pointers;
        owned = λ j t live.
            subst (λ (q : ℕ). is_some (files_after p.world.files (put_given p.world.files i g slot at bytes) q) ≡ true)
            (sym (eqb-true j i t))
            (rw (put-new p.world.files i g slot at bytes own.file own.is generation file) refl);
        stays = λ j t some. ap is_some
            (file-stays p.world.files (put_given p.world.files i g slot at bytes) j (nothing j t))
            ∙ ap (λ (G : Files). is_some (G j)) o.files
            ∙ some;
        no_value = λ j h l t some. (λ q. (gives-it q).slots j h l) ∙ (λ q. (sym same-given q).slots j h l)
            ∙ (nothing j t).slots h l;
        no_meta = λ j h t some. (λ q. (gives-it q).metas j h) ∙ (λ q. (sym same-given q).metas j h)
            ∙ (nothing j t).metas h;
      })
    where
      nothing : (j : ℕ) → eqb j i ≡ false → GivesNothing (put_given p.world.files i g slot at bytes) j
      nothing j t = (put-gives p.world.files i g slot at bytes own.file own.is generation file).elsewhere j
          (λ e. let q = eq-eqb j i e in cc (q, t))

  abbrev pub proper-shown : ProperShown
  proper-shown = record {
    slots = shown;
    same_given = same-given;
    proper = proper;
    rest = rest;
  }
