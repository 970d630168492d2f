-- A record without a back link has a spelling, too.
use Rattle.std.proofs.Common.{◌≡◌, ℕ, ◌≤◌, Bool, true, false, cond, not, List, [], ◌∷◌, Option, Some, refl, sym, subst}
use Rattle.std.proofs.Common.{arith}
use Rattle.std.proofs.lemmas.List.Elements.{All-map, All-weaker}
use Rattle.std.proofs.lemmas.List.Sums.{sum_by-cons}
use Rattle.nofs_inode.specs.InodeRecords.{AllowsKind, AllowsRecord, HasRecordSpelling, IsTidyLink, is_empty_link}
use Rattle.nofs_inode.specs.InodeRecords.{link_count}
use Rattle.nofs_inode.specs.declared.inode.FileKind.TheVariants.{File, Directory}
use Rattle.nofs_inode.specs.declared.inode.BackLink.{BackLink}
use Rattle.nofs_inode.specs.declared.inode.FileKind.{FileKind}
use Rattle.nofs_inode.specs.declared.inode.Record.{Record}
use Rattle.nofs_history.specs.Machine.{link_to, same_link, without_link}
use Rattle.nofs_names.specs.Drops.Parts.{relinked}

abbrev kept : BackLink → BackLink → BackLink
kept gone l = cond (same_link l gone) (link_to 0 0 0) l

abbrev weight : BackLink → ℕ
weight l = cond (not (is_empty_link l)) 1 0

lighter : (gone l : BackLink) → weight (kept gone l) ≤ weight l
lighter gone l = go (same_link l gone)
  where
    go : (b : Bool) → weight (cond b (link_to 0 0 0) l) ≤ weight l
    go true = omega arith
    go false = omega arith

fewer : (gone : BackLink) (links : List BackLink) → link_count (without_link gone links) ≤ link_count links
fewer gone [] = omega arith
fewer gone (l ∷ links) =
    let a = sum_by-cons weight (kept gone l) (without_link gone links) in
    let b = sum_by-cons weight l links in
    let c = lighter gone l in
    let rest = fewer gone links in
    omega (arith, a, b, c, rest)

tidy : (gone l : BackLink) → IsTidyLink l → IsTidyLink (kept gone l)
tidy gone l h = go (same_link l gone)
  where
    go : (b : Bool) → IsTidyLink (cond b (link_to 0 0 0) l)
    go true = λ e. (refl, refl)
    go false = h

pub relinked-spells : (r : Record) (gone : BackLink) (kind : FileKind) → r.kind ≡ Some kind → HasRecordSpelling r
    → HasRecordSpelling (relinked r gone)
relinked-spells r gone kind e s = subst (λ (o : Option FileKind). AllowsRecord o (relinked r gone)) (sym e)
    (go kind (subst (λ (o : Option FileKind). AllowsRecord o r) e s))
  where
    allowed : (q : FileKind) → AllowsKind q r → AllowsKind q (relinked r gone)
    allowed File h = h
    allowed Directory h = (h.0, (let f = fewer gone r.links in let m = h.1 in omega (arith, f, m)), h.2)

    go : (q : FileKind) → AllowsRecord (Some q) r → AllowsRecord (Some q) (relinked r gone)
    go q live = record {
      generation = live.generation;
      tidy = All-map IsTidyLink (kept gone) r.links
          (All-weaker IsTidyLink (λ l. IsTidyLink (kept gone l)) (tidy gone) r.links live.tidy);
      allowed = allowed q live.allowed;
    }
