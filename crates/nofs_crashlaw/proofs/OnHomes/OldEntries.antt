-- Rename and Drop: each block has its home.
use Rattle.std.proofs.Common.{◌≡◌, ◌≢◌, ℕ, ◌/◌, ◌<◌, List, Option, Some, None, refl, sym, ap, ◌∙◌, subst, arith}
use Rattle.nofs_dirent.specs.Entries.{entry_limit, spelled_entry}
use Rattle.nofs_dirent.specs.declared.entry.Entry.{Entry}
use Rattle.nofs_disk.specs.declared.tag.Pointer.{Pointer}
use Rattle.nofs_inode.specs.declared.inode.Record.{Record}
use Rattle.nofs_model.specs.Geometry.{Image}
use Rattle.nofs_model.specs.Files.{FileState, Files, entry_at}
use Rattle.nofs_history.specs.Machine.{Given, zero_bytes, files_after, entry_given, no_meta, meta_given, nothing}
use Rattle.nofs_history.specs.Machine.{link_to, without_link, drop_meta, drop_given, rename_given}
use Rattle.nofs_history.specs.History.{FilesMatch}
use Rattle.nofs_history.specs.World.{World}
use Rattle.nofs_history.specs.Claims.{IsClaim}
use Rattle.nofs_history.specs.declared.machine.history.Claims.{Claims}
use Rattle.nofs_history.specs.declared.machine.steps.Step.TheVariants as step
use Rattle.nofs_crashlaw.proofs.OnUntouched.Frames.{some-is}
use Rattle.nofs_crashlaw.specs.Maps.Homes.{HomesMove}
use Rattle.nofs_crashlaw.specs.Maps.Moves.{HeldMove}
use Rattle.nofs_crashlaw.specs.Names.OldEntries.{DropLies, NameWrites}
use Rattle.nofs_crashlaw.proofs.OnNames.InPlace.{in-place-writes, no-zero, no-file-zero}
use Rattle.nofs_crashlaw.proofs.OnNames.Renames.{entry-parts}
use Rattle.nofs_crashlaw.proofs.OnNames.Links.{pair-apart}
use Rattle.nofs_crashlaw.proofs.OnNames.Drops.{paired-link}
use Rattle.nofs_crashlaw.proofs.OnNames.OldLaws.{law-rename, law-drop-name, law-drop-file}
use Rattle.nofs_crashlaw.proofs.OnHomes.Steps.{law-name-homes}
use Rattle.nofs_crashlaw.specs.Homes.Entries.{LawRenameHomes, LawDropNameHomes, LawDropFileHomes}
use Rattle.nofs_crashlaw.proofs.OnHomes.Slots.{nothing-held, directory-kept, inode-kept}

-- no inode is born
rename-born : (F : Files) (d g e : ℕ) (new : List ℕ) (j : ℕ) → (rename_given F d g new e).born j ≡ None
rename-born F d g e new j = go (entry_at F d e)
  where
    go : (o : Option Entry) → (elim o as (λ t. Given) [
      | None ↦ nothing
      | Some q ↦ entry_given F d g e (spelled_entry q.inode q.generation new)
          no_meta
    ]).born j ≡ None
    go None = refl
    go (Some q) = refl

drop-born : (F : Files) (d g e j : ℕ) → (drop_given F d g e).born j ≡ None
drop-born F d g e j = go (entry_at F d e)
  where
    go : (o : Option Entry) → (elim o as (λ t. Given) [
      | None ↦ nothing
      | Some q ↦ entry_given F d g e (zero_bytes 64)
          (meta_given q.inode q.generation (drop_meta F q.inode (link_to d e g)))
    ]).born j ≡ None
    go None = refl
    go (Some q) = refl

pub law-rename-homes : LawRenameHomes
law-rename-homes W X Y d g e s old new f x entry c p claim =
    law-name-homes W (step.Rename d g old new) c (rename_given W.files d g new e) s d 0 X Y (record {
      claim = claim;
      writes = in-place-writes s d 0 (e / 16) X Y x p.held p.writes;
      before = p.files;
      after = (law-rename W.files X Y d g e s new f x entry p).1;
      old = p.old;
      born = λ j nd nz. rename-born W.files d g e new j;
      stand = λ at q. cc q;
      directory = directory-kept c s W.files X Y d 0 (e / 16) f x p.files p.is apart (omega (arith, range))
          (p.old d (some-is (W.files d) f p.is))
          p.held p.writes;
      inode = nothing-held c X Y 0 (ap (λ (r : Record). r.kind) (no-zero Y));
    })
  where
    range : e < entry_limit
    range = (entry-parts (W.files d) f e entry p.is p.found).1

    apart : 0 ≢ d
    apart z = let a : W.files d ≡ None = subst (λ (q : ℕ). W.files q ≡ None) z (no-file-zero W.files X p.files) in
        let b = p.is in cc (a, b)

-- Drop, from what is left of the inode
module _ (W : World) (X Y : Image) (d g e s : ℕ) (name : List ℕ) (f h : FileState) (x : Pointer)
    (entry : Entry) (c : Claims)
    (p : DropLies W.files X Y d g e s f h x entry) (claim : IsClaim W (step.Drop d g name) c) where
  drop-range : e < entry_limit
  drop-range = (entry-parts (W.files d) f e entry p.is p.found).1

  -- the entry names another inode than its directory
  drop-apart : entry.inode ≢ d
  drop-apart z = let l = paired-link W.files d e entry p.found p.paired in
      pair-apart W.files entry.inode l.0 l.2 (l.3 ∙ sym z)

  drop-writes : NameWrites s d entry.inode X Y
  drop-writes = in-place-writes s d entry.inode (e / 16) X Y x p.held p.writes

  drop-homes : FilesMatch (files_after W.files (drop_given W.files d g e)) Y → HeldMove c X Y entry.inode
      → HomesMove W.files (step.Drop d g name) c X Y
  drop-homes after moved =
      law-name-homes W (step.Drop d g name) c (drop_given W.files d g e) s d entry.inode X Y (record {
        claim = claim;
        writes = drop-writes;
        before = p.files;
        after = after;
        old = p.old;
        born = λ j nd ni. drop-born W.files d g e j;
        stand = λ at q. cc q;
        directory = let lt = drop-range in
            directory-kept c s W.files X Y d entry.inode (e / 16) f x p.files p.is drop-apart (omega (arith, lt))
            (p.old d (some-is (W.files d) f p.is)) p.held p.writes;
        inode = moved;
      })

pub law-drop-name-homes : LawDropNameHomes
law-drop-name-homes W X Y d g e s name f h x entry c p stays r claim =
    drop-homes W X Y d g e s name f h x entry c p claim
    (law-drop-name W.files X Y d g e s f h x entry p stays r).1
    (inode-kept c s W.files X Y d entry.inode h (without_link (link_to d e g) h.links) p.files p.named
    (drop-apart W X Y d g e s name f h x entry c p claim)
    (p.old entry.inode (some-is (W.files entry.inode) h p.named))
    (drop-writes W X Y d g e s name f h x entry c p claim) r)

pub law-drop-file-homes : LawDropFileHomes
law-drop-file-homes W X Y d g e s name f h x entry c p goes free claim =
    drop-homes W X Y d g e s name f h x entry c p claim
    (law-drop-file W.files X Y d g e s f h x entry p goes free).1
    (nothing-held c X Y entry.inode free)
