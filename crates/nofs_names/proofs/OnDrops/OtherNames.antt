-- Whether an inode keeps a name, and what the machine says of it.
use Rattle.std.proofs.Common.{◌≡◌, ℕ, ◌≤◌, Bool, true, false, cond, ◌&&◌, ◌||◌, not, List, length, Option, Some, None}
use Rattle.std.proofs.Common.{Ok, refl, sym, ap, ◌∙◌, arith}
use Rattle.std.specs.List.{list_any}
use Rattle.std.proofs.lemmas.List.{get_or_default}
use Rattle.std.proofs.lemmas.List.Folds.{list_any_none}
use Rattle.nofs_disk.specs.Disk.{DiskState}
use Rattle.nofs_inode.specs.declared.inode.BackLink.{BackLink}
use Rattle.nofs_inode.specs.declared.inode.Record.{Record}
use Rattle.nofs_inode.specs.InodeRecords.{no_link}
use Rattle.nofs_model.specs.Geometry.{Image}
use Rattle.nofs_model.specs.Files.{files_in, agreed, is_special, is_pair, FileState, Files}
use Rattle.nofs_model.proofs.OnFiles.Chains.{any-same}
use Rattle.nofs_history.specs.Meta.{Gone, Is, is_gone}
use Rattle.nofs_history.specs.Machine.{drop_meta, without_link}
use Rattle.nofs_history.specs.History.{FilesMatch}
use Rattle.nofs_agree.specs.Chain.{TellsAgreed, is_agreed_link}
use Rattle.nofs_agree.specs.declared.reads.LastRead.{LastRead}
use Rattle.nofs_agree.proofs.OnChain.{Passed}
use Rattle.nofs_state.proofs.OnBooks.Machine.{machine-pair}

-- no link of four is one
pub none-left : (old now : DiskState) (known : List (Option Bool)) (i : ℕ) (r : Record) (last : LastRead) (place : ℕ)
    → length r.links ≡ 4
    → Passed old now known i r last place → 4 ≤ place
    → TellsAgreed old now known (λ X. list_any (is_agreed_link (files_in X) i) r.links) last (Ok false)
none-left old now known i r last place four p all = record {
  stays = p.stays;
  found = λ t a. sym (list_any_none (is_agreed_link (files_in old.now) i) r.links
      (λ k d low. ap (is_agreed_link (files_in old.now) i) (get_or_default r.links k d no_link low)
      ∙ p.none t a k (omega (arith, low, four, all))));
  kept = p.kept;
  no_fault = p.no_fault;
  cause = tt;
}

-- what the machine says of the inode after the link is gone
pub keeps-is : (F : Files) (X : Image) (i : ℕ) (f : FileState) (link : BackLink) (b : Bool) → FilesMatch F X
    → agreed (files_in X) i ≡ true → F i ≡ Some f
    → b ≡ (is_special i || list_any (is_agreed_link (files_in X) i) (without_link link f.links))
    → is_gone (drop_meta F i link) ≡ not b
keeps-is F X i f link b match a e eb =
    let same : list_any (is_agreed_link (files_in X) i) (without_link link f.links) ≡ list_any (λ l. is_pair F i l)
    (without_link link f.links) =
    any-same (λ l. is_agreed_link (files_in X) i l) (λ l. is_pair F i l) (without_link link f.links)
    (λ l. sym (machine-pair F X i l match a)) in
    let eb2 : b ≡ (is_special i || list_any (λ l. is_pair F i l) (without_link link f.links)) =
    eb ∙ (λ j. is_special i || same j) in
    ap (λ (o : Option FileState). is_gone (elim o [
      | None ↦ Gone
      | Some q ↦ cond
          (not (is_special i) && not (list_any (λ l. is_pair F i l) (without_link link q.links))) Gone
          (Is q.kind q.size (without_link link q.links))
    ])) e
    ∙ go (is_special i) (list_any (λ l. is_pair F i l) (without_link link f.links)) ∙ ap not (sym eb2)
  where
    go : (s p : Bool)
        → is_gone (cond (not s && not p) Gone (Is f.kind f.size (without_link link f.links))) ≡ not (s || p)
    go true true = refl
    go true false = refl
    go false true = refl
    go false false = refl
