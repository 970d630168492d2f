-- The laws of Rename and Drop.
use Rattle.std.proofs.Common.{◌≡◌, ℕ, Bool, true, false, cond, List, refl, sym, ◌∙◌}
use Rattle.nofs_inode.specs.declared.inode.FileKind.{FileKind}
use Rattle.nofs_inode.specs.declared.inode.BackLink.{BackLink}
use Rattle.nofs_history.specs.Meta.{Gone, Is}
use Rattle.nofs_history.specs.Machine.{link_to, without_link}
use Rattle.nofs_crashlaw.specs.Names.OldEntries.{LawRename, LawDropEntry, LawDropName, LawDropFile}
use Rattle.nofs_crashlaw.proofs.OnNames.Renames.{rename-proper, rename-matches}
use Rattle.nofs_crashlaw.proofs.OnNames.Drops.{goes, meta-is, drop-entry-proper, drop-record-proper, drop-matches}
use Rattle.nofs_crashlaw.proofs.OnNames.Drops.{remove-record-proper, remove-matches}

pub law-rename : LawRename
law-rename F X Y d g e s new f x entry p = (
  rename-proper F X Y d g e s new f x entry p.files p.is p.generation p.found p.held p.whole p.spells
      p.content p.writes p.old,
  rename-matches F X Y d g e s new f x entry p.files p.is p.generation p.found p.held p.whole p.spells
      p.content p.writes p.old,
)

pub law-drop-entry : LawDropEntry
law-drop-entry = drop-entry-proper

-- which of the two metas comes
kept : (b : Bool) (kind : FileKind) (size : ℕ) (links : List BackLink)
    → cond b Gone (Is kind size links) ≡ Is kind size links → b ≡ false
kept true kind size links e = cc e
kept false kind size links e = refl

gone : (b : Bool) (kind : FileKind) (size : ℕ) (links : List BackLink)
    → cond b Gone (Is kind size links) ≡ Gone → b ≡ true
gone true kind size links e = refl
gone false kind size links e = cc e

pub law-drop-name : LawDropName
law-drop-name F X Y d g e s f h x entry p stays linked =
    let k = kept (goes F X Y d g e s f h x entry p) h.kind h.size (without_link (link_to d e g) h.links)
    (sym (meta-is F X Y d g e s f h x entry p) ∙ stays) in
    (drop-record-proper F X Y d g e s f h x entry p k linked, drop-matches F X Y d g e s f h x entry p k linked)

pub law-drop-file : LawDropFile
law-drop-file F X Y d g e s f h x entry p goes_now free =
    let k = gone (goes F X Y d g e s f h x entry p) h.kind h.size (without_link (link_to d e g) h.links)
    (sym (meta-is F X Y d g e s f h x entry p) ∙ goes_now) in
    (remove-record-proper F X Y d g e s f h x entry p k free, remove-matches F X Y d g e s f h x entry p k free)
