-- The machine's files are the agreed ones, and so their pairs and entries are those of the image.
use Rattle.std.proofs.Common.{◌≡◌, ℕ, Bool, true, false, ◌&&◌, Option, Some, None, refl, sym, ap, ◌∙◌}
use Rattle.std.specs.List.{count_by, list_any}
use Rattle.nofs_dirent.specs.declared.entry.Entry.{Entry}
use Rattle.nofs_inode.specs.declared.inode.BackLink.{BackLink}
use Rattle.nofs_inode.specs.declared.inode.FileKind.{FileKind}
use Rattle.nofs_model.specs.Files.{FileState, Files, agreed, entry_at, entry_in_file, file_from, files_in, is_pair}
use Rattle.nofs_model.specs.Files.{links_in_file, links_of, pairs}
use Rattle.nofs_model.specs.Geometry.{Image, inode}
use Rattle.nofs_agree.specs.Chain.{is_agreed_link}
use Rattle.nofs_history.specs.Machine.{generation_of, is_paired, link_to, same_link}
use Rattle.nofs_history.specs.Since.{agreed_files}
use Rattle.nofs_history.proofs.Links.{any_same}
use Rattle.nofs_reader.specs.Entries.{is_alive}
use Rattle.nofs_reader.specs.Laws.{LawEntries, LawNames}

and-true : (b : Bool) → (b && true) ≡ b
and-true true = refl
and-true false = refl

and-false : (b : Bool) → (b && false) ≡ false
and-false true = refl
and-false false = refl

-- the file of an agreed inode, and of one that is not
file-agreed : (X : Image) (i : ℕ) → agreed (files_in X) i ≡ true → agreed_files X i ≡ files_in X i
unfolding agreed_files
file-agreed X i a = rw a refl

file-none : (X : Image) (i : ℕ) → agreed (files_in X) i ≡ false → agreed_files X i ≡ None
unfolding agreed_files
file-none X i a = rw a refl

pairs-nothing : (o : Option FileState) (i : ℕ) (l : BackLink) → pairs o None i l ≡ false
pairs-nothing None i l = refl
pairs-nothing (Some f) i l = refl

-- a pair of an agreed inode with an agreed directory is one of the machine's
pair-is : (X : Image) (i : ℕ) (l : BackLink) → agreed (files_in X) i ≡ true
    → is_agreed_link (files_in X) i l ≡ is_pair (agreed_files X) i l
pair-is X i l a = go (agreed (files_in X) l.directory) refl
  where
    go : (b : Bool) → agreed (files_in X) l.directory ≡ b
        → (is_pair (files_in X) i l && b) ≡ is_pair (agreed_files X) i l
    go true e = and-true (is_pair (files_in X) i l)
        ∙ (λ j. pairs (sym (file-agreed X i a) j) (sym (file-agreed X l.directory e) j) i l)
    go false e = and-false (is_pair (files_in X) i l)
        ∙ sym (ap (λ o. pairs (agreed_files X i) o i l) (file-none X l.directory e)
        ∙ pairs-nothing (agreed_files X i) i l)

pub names-are : LawNames
names-are X i a =
    (λ j. count_by (λ link. pair-is X i link a j) (links_of (files_in X) i))
    ∙ ap (λ o. count_by (λ link. is_pair (agreed_files X) i link) (links_in_file o)) (sym (file-agreed X i a))

-- the generation of a directory that has an entry
generation-is : (X : Image) (d e : ℕ) (it : Entry) (kind : Option FileKind)
    → entry_in_file (file_from X d kind) e ≡ Some it
    → elim (file_from X d kind) [ None ↦ 0 | Some f ↦ f.generation ] ≡ (inode X d).generation
generation-is X d e it None h = cc
generation-is X d e it (Some kind) h = refl

abbrev paired_by : Files → ℕ → ℕ → Option Entry → Bool
paired_by F d e o = elim o [
  | None ↦ false
  | Some entry ↦ list_any (λ link. same_link link (link_to d e (generation_of F d)) && is_pair F entry.inode link)
      (links_of F entry.inode)
]

module _ (X : Image) (d e : ℕ) (it : Entry) (a : agreed (files_in X) d ≡ true)
    (at : entry_at (files_in X) d e ≡ Some it) where
  abbrev A : Files
  A = agreed_files X

  entry-there : entry_at A d e ≡ Some it
  entry-there = ap (λ o. entry_in_file o e) (file-agreed X d a) ∙ at

  generation-there : generation_of A d ≡ (inode X d).generation
  generation-there =
      ap (λ (o : Option FileState). elim o [ None ↦ 0 | Some f ↦ f.generation ]) (file-agreed X d a)
      ∙ generation-is X d e it (inode X d).kind at

  abbrev i : ℕ
  i = it.inode

  abbrev link : BackLink
  link = link_to d e (inode X d).generation

  tested : is_paired A d e ≡ (list_any (λ l. same_link l link) (links_of A i) && is_pair A i link)
  tested =
      ap (paired_by A d e) entry-there
      ∙ (λ j. list_any (λ l. same_link l (link_to d e (generation-there j)) && is_pair A i l) (links_of A i))
      ∙ any_same (λ l. is_pair A i l) link (links_of A i)

  abbrev F : Files
  F = files_in X

  -- the links of a free inode are no pairs
  by-kind : (kind : Option FileKind)
      → (list_any (λ l. same_link l link) (inode X i).links && pairs (file_from X i kind) (F d) i link)
      ≡ (list_any (λ l. same_link l link) (links_in_file (file_from X i kind))
      && pairs (file_from X i kind) (F d) i link)
  by-kind None = and-false (list_any (λ l. same_link l link) (inode X i).links)
  by-kind (Some kind) = refl

  by-agreed : (b : Bool) → agreed F i ≡ b
      → (list_any (λ l. same_link l link) (inode X i).links && (is_pair F i link && b)) ≡ is_paired A d e
  by-agreed true ai =
      ap (λ p. list_any (λ l. same_link l link) (inode X i).links && p) (and-true (is_pair F i link))
      ∙ by-kind (inode X i).kind
      ∙ (λ j. list_any (λ l. same_link l link) (links_in_file (sym (file-agreed X i ai) j))
      && pairs (sym (file-agreed X i ai) j) (sym (file-agreed X d a) j) i link)
      ∙ sym tested
  by-agreed false ai =
      ap (λ p. list_any (λ l. same_link l link) (inode X i).links && p) (and-false (is_pair F i link))
      ∙ and-false (list_any (λ l. same_link l link) (inode X i).links)
      ∙ sym (tested ∙ (λ j. list_any (λ l. same_link l link) (links_in_file (file-none X i ai j))
      && pairs (file-none X i ai j) (A d) i link))

  pub entry-alive : is_alive X d e it.inode ≡ is_paired A d e
  entry-alive = by-agreed (agreed F i) refl

pub entries-are : LawEntries
entries-are X d e it a at = entry-alive X d e it a at
