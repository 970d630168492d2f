-- What a mount answers of the same image: the machine's words over its files.
use Rattle.std.specs.Prelude.{◌≡◌, ℕ, true, Some, count_by}
use Rattle.nofs_dirent.specs.declared.entry.Entry.{Entry}
use Rattle.nofs_model.specs.Files.{agreed, entry_at, files_in, is_pair, links_of}
use Rattle.nofs_model.specs.Geometry.{Image}
use Rattle.nofs_agree.specs.Chain.{is_agreed_link}
use Rattle.nofs_history.specs.Machine.{is_paired}
use Rattle.nofs_history.specs.Since.{agreed_files}
use Rattle.nofs_reader.specs.Entries.{is_alive}

-- an entry of an agreed directory is dead exactly where a mount lists it as dead, and finds nothing by it
abbrev pub LawEntries : Type 0
LawEntries = (X : Image) (d e : ℕ) (it : Entry) → agreed (files_in X) d ≡ true
    → entry_at (files_in X) d e ≡ Some it → is_alive X d e it.inode ≡ is_paired (agreed_files X) d e

-- an agreed inode has as many names as a mount tells
abbrev pub LawNames : Type 0
LawNames = (X : Image) (i : ℕ) → agreed (files_in X) i ≡ true
    → count_by (λ link. is_agreed_link (files_in X) i link) (links_of (files_in X) i)
    ≡ count_by (λ link. is_pair (agreed_files X) i link) (links_of (agreed_files X) i)
