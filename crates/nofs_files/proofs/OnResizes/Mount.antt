-- A Resize that is done, or that failed at a write: the mount stands.
use Rattle.std.proofs.Common.{◌≡◌, ℕ, ◌+◌, Bool, true, false, eqb, eqb-true, eq-eqb, List, [], ◌∷◌, ◌++◌}
use Rattle.std.proofs.Common.{Some, None, is_some, Ok, refl, sym, ap, ◌∙◌, subst, arith}
use Rattle.nofs_disk.specs.Disk.{DiskState, cell_at}
use Rattle.nofs_disk.specs.Adds.{Adds}
use Rattle.nofs_disk.specs.declared.tag.Cell.{Cell}
use Rattle.nofs_model.specs.Geometry.{Image}
use Rattle.nofs_model.specs.Files.{FileState, Files}
use Rattle.nofs_crashlaw.specs.Images.Proper.{Proper}
use Rattle.nofs_crashlaw.specs.Images.Moments.{during}
use Rattle.nofs_history.specs.Steady.{SteadyRest}
use Rattle.nofs_history.specs.Marks.{Mark, mark_at}
use Rattle.nofs_history.specs.Search.{first_of}
use Rattle.nofs_history.specs.Machine.{Given, gives, given_by, resize_given, files_after}
use Rattle.nofs_history.specs.World.{World}
use Rattle.nofs_history.specs.Claims.{no_claims, next_stamp, IsClaim}
use Rattle.nofs_history.specs.Refusals.{rows}
use Rattle.nofs_history.specs.History.{FilesMatch}
use Rattle.nofs_history.specs.Since.{agreed_files, files_along}
use Rattle.nofs_history.specs.Next.{Learns}
use Rattle.nofs_history.specs.declared.machine.history.Entry1.{Entry1}
use Rattle.nofs_history.specs.declared.machine.steps.Step.TheVariants as step
use Rattle.nofs_history.specs.declared.machine.replies.Reply.TheVariants as reply
use Rattle.nofs_history.specs.Gives.{GivesNothing}
use Rattle.nofs_crashlaw.specs.Maps.Homes.{HomesMove}
use Rattle.nofs_crashlaw.specs.Maps.Fresh.{Numbered, CellNumbers}
use Rattle.nofs_crashlaw.proofs.OnMaps.Homes.{uses-inode}
use Rattle.nofs_crashlaw.specs.Histories.Stage.{AddsProper}
use Rattle.nofs_state.specs.Books.Maps.{Says}
use Rattle.nofs_state.specs.Inodes.Blocks.{BlocksFreed}
use Rattle.nofs_state.specs.declared.books.maps.Books.{Books}
use Rattle.nofs_disk.specs.Order.{OneOf}
use Rattle.nofs_state.specs.Writes.Cells.{WritesAll}
use Rattle.nofs_crashlaw.proofs.OnFiles.Resizes.{law-resize-homes, as-before, resize-gives, resize-made}
use Rattle.nofs_crashlaw.proofs.OnFiles.OneFile.{GivesFile}
use Rattle.nofs_state.proofs.OnCores.Done.{IsDone, Adds-map, after_world}
use Rattle.nofs_crashlaw.proofs.OnHistories.Resting.{law-rest}
use Rattle.nofs_state.proofs.OnWrites.Numbered.{AddsNumbered}
use Rattle.nofs_state.proofs.OnWrites.Tables.{table_block}
use Rattle.nofs_files.specs.Resizes.{IsCutMap, kept_slots, cut_writes}
use Rattle.nofs_files.proofs.OnPuts.Unchanged.{file-stays}
use Rattle.nofs_files.proofs.OnResizes.Image as image
use Rattle.nofs_files.proofs.OnResizes.Pointers as pointers
use Rattle.nofs_files.proofs.OnResizes.Homes as homes
use Rattle.nofs_files.proofs.OnResizes.Maps.{cut-known}
use Rattle.nofs_files.proofs.OnResizes.Image.{Resizing}
use Rattle.nofs_files.proofs.OnResizes.Proper as proper_part

module _ (resizing : Resizing) where
  open resizing use {old, k, H, p, i, g, size, r, tail, edge, c2, o}

  abbrev Y : Image
  Y = proper_part.Y resizing

  abbrev f : FileState
  f = proper_part.f resizing

  abbrev is : p.world.files i ≡ Some (image.own resizing).file
  is = proper_part.is resizing

  abbrev gen : (image.own resizing).file.generation ≡ g
  gen = proper_part.gen resizing

  abbrev claim : IsClaim p.world (step.Resize i g size) no_claims
  claim = proper_part.claim resizing

  abbrev files : FilesMatch (files_after p.world.files (resize_given p.world.files i g size)) Y
  files = proper_part.files resizing

  abbrev numbers : (n : ℕ) (cell : Cell) → OneOf (cut_writes tail edge (table_block i) c2) n cell
      → CellNumbers (Numbered p.world no_claims) old.now n cell
  numbers = proper_part.numbers resizing

  abbrev given : Given
  given = proper_part.given resizing

  abbrev M : Mark
  M = proper_part.M resizing

  abbrev same-given : resize_given p.world.files i g size ≡ resize_given (files_along (agreed_files p.base) H) i g size
  same-given = proper_part.same-given resizing

  abbrev proper : (n : ℕ) (cell : Cell) → OneOf (cut_writes tail edge (table_block i) c2) n cell
      → Proper (during (mark_at p.base H (old.moment + 1) p.mark p.stamps)
      (resize_given p.world.files i g size)) old.now n cell
  proper = proper_part.proper resizing

  -- The rest stays

  gives-to : GivesFile p.world.files (resize_given p.world.files i g size) i
      (image.own resizing).file
      (resize-made p.world.files i g size (image.own resizing).file
      (image.own resizing).is
      (image.generation resizing)
      (image.file resizing))
  gives-to = resize-gives p.world.files i g size f is gen (image.file resizing)

  nothing : (j : ℕ) → eqb j i ≡ false → GivesNothing (resize_given p.world.files i g size) j
  nothing j t = gives-to.elsewhere j (λ e. let q = eq-eqb j i e in cc (q, t))

  rest : (e : Entry1)
      → given_by (files_along (agreed_files p.base) H) e ≡ resize_given (files_along (agreed_files p.base) H) i g size
      → SteadyRest p.base (H ++ e ∷ []) Y
  rest e gives-it = law-rest p.base H e (next_stamp p.world) (λ j. eqb j i) old.now Y
      (files_after p.world.files given) o.rest (record {
        before = o.stage.ready.files;
        after = files;
        touches = image.touches resizing;
        old = image.old-pointers resizing;
        owned = λ j t live. subst (λ (q : ℕ). is_some (files_after p.world.files given q) ≡ true) (sym (eqb-true j i t))
            (ap is_some gives-to.new);
        stays = λ j t some. ap is_some (file-stays p.world.files given j (nothing j t))
            ∙ ap (λ (G : Files). is_some (G j)) o.files ∙ some;
        no_value = λ j q l t some. (λ z. (gives-it z).slots j q l) ∙ (λ z. (sym same-given z).slots j q l)
            ∙ (nothing j t).slots q l;
        no_meta = λ j q t some. (λ z. (gives-it z).metas j q) ∙ (λ z. (sym same-given z).metas j q)
            ∙ (nothing j t).metas q;
      })

  -- The maps

  used : (j : ℕ)
      → is_some (files_after p.world.files (resize_given p.world.files i g size) j) ≡ is_some (p.world.files j)
  used j = uses-inode (files_after p.world.files given) Y files j
      ∙ as-before p.world.files old.now Y i g size f (next_stamp p.world) (pointers.lies resizing) j
      ∙ sym (uses-inode p.world.files old.now (image.match resizing) j)

  module _ (l : Books) (freed : List Bool) (map : IsCutMap old k.at i (kept_slots r.size size) freed)
      (a : BlocksFreed k l freed) where
    abbrev V : World
    V = after_world p.world (step.Resize i g size) no_claims l

    known : Learns p.world (step.Resize i g size) true V × Says l V
    unfolding gives
    known = cut-known k l p.world V (step.Resize i g size) freed o.says a map.size (λ j. refl) (λ q. refl)
        (refl, refl, refl, refl, omega arith, refl) (λ j. refl) (λ q. refl) used
        (homes.gone resizing freed map) (homes.kept resizing freed map) (homes.moves resizing freed map)

  pub resize-done : (new : DiskState) (l : Books) (freed : List Bool)
      → IsCutMap old k.at i (kept_slots r.size size) freed → BlocksFreed k l freed
      → WritesAll old new (cut_writes tail edge (table_block i) c2) (Ok tt)
      → ((U : World) → first_of (rows p.world U (step.Resize i g size)) ≡ None)
      → IsDone old new k l H p (step.Resize i g size) no_claims reply.Resized (cut_writes tail edge (table_block i) c2)
  unfolding gives
  resize-done new l freed map a writes none = record {
    adds = writes.adds;
    later = writes.later;
    proper = λ e es ec ge n cell one. subst (λ (G : Given). Proper (during M G) old.now n cell) (same-given ∙ sym ge)
        (proper n cell one);
    numbers = numbers;
    super = ap (λ (Z : Image). cell_at Z 0) writes.now
        ∙ image.super-stays resizing;
    size = writes.adds.disk.blocks;
    none = none (after_world p.world (step.Resize i g size) no_claims l);
    answer = refl;
    accepted = refl;
    no_flush = refl;
    claim = claim;
    learns = (known l freed map a).0;
    files = subst (λ (Z : Image). FilesMatch (files_after p.world.files given) Z) (sym writes.now) files;
    move = subst (λ (Z : Image). HomesMove p.world.files (step.Resize i g size) no_claims old.now Z) (sym writes.now)
        (law-resize-homes p.world old.now Y i g size f (next_stamp p.world) no_claims
        (pointers.lies resizing) claim);
    rest = λ e es ec ge. subst (λ (Z : Image). SteadyRest p.base (H ++ e ∷ []) Z) (sym writes.now) (rest e ge);
    says = (known l freed map a).1;
    books_at = ap (λ (b : Books). b.at) a.same;
    history = ap (λ (b : Books). b.history) a.same;
    going = ap (λ (b : Books). b.stopped) a.same ∙ o.going;
  }

  -- whichever write failed
  pub resize-numbered : (new : DiskState) → Adds (OneOf (cut_writes tail edge (table_block i) c2)) old new
      → AddsNumbered p.world no_claims old new
  resize-numbered new = Adds-map (OneOf (cut_writes tail edge (table_block i) c2))
      (λ n cell. CellNumbers (Numbered p.world no_claims) old.now n cell) old new numbers

  pub resize-proper : (new : DiskState) (e : Entry1)
      → given_by (files_along (agreed_files p.base) H) e ≡ resize_given (files_along (agreed_files p.base) H) i
      g size → Adds (OneOf (cut_writes tail edge (table_block i) c2)) old new
      → AddsProper p.base H e p.mark p.stamps old new
  resize-proper new e ge adds = Adds-map (OneOf (cut_writes tail edge (table_block i) c2))
      (Proper (during M (given_by (files_along (agreed_files p.base) H) e)) old.now) old new
      (λ n cell one. subst (λ (G : Given). Proper (during M G) old.now n cell) (same-given ∙ sym ge)
      (proper n cell one)) adds
