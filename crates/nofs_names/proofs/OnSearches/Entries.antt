-- The inode that an entry names.
use Rattle.std.proofs.Common.{◌≡◌, ℕ, ◌*◌, ◌<◌, arith, Bool, true, false, cond, ◌&&◌, List, length, take, drop}
use Rattle.std.proofs.Common.{Option, Some, None, is_some, refl, sym, subst}
use Rattle.std.proofs.lemmas.List.{length-drop, length-take-le}
use Rattle.nofs_disk.specs.Number.{number_at}
use Rattle.nofs_dirent.specs.Entries.{entry_bytes, entry_in, entry_fields, entry_of, has_entry_spelling, has_name}
use Rattle.nofs_dirent.specs.Entries.{has_zeros_after, is_named, name_of}
use Rattle.nofs_dirent.specs.OneEntry.{spelled}
use Rattle.nofs_dirent.specs.declared.entry.Entry.{Entry}
use Rattle.nofs_names.specs.declared.searches.entries.Named.{Named}
use Rattle.nofs_names.specs.Searches.Slots.{named_in, IsEntrySpelled}

-- bytes that spell an entry name what their first numbers do
pub named-some : (bytes : List ℕ) (i g : ℕ) → i ≡ number_at 4 0 bytes → g ≡ number_at 8 8 bytes
    → is_some (entry_of bytes) ≡ true
    → named_in (entry_of bytes) ≡ Some (record { inode = i; generation = g })
unfolding entry_of entry_fields
named-some bytes i g ei eg e =
    go (has_zeros_after bytes (number_at 4 4 bytes) && has_entry_spelling (entry_fields bytes)) e
  where
    go : (b : Bool) → is_some (cond b (Some (entry_fields bytes)) None) ≡ true
        → named_in (cond b (Some (entry_fields bytes)) None) ≡ Some (record { inode = i; generation = g })
    go true h = λ j. Some (record { inode = sym ei j; generation = sym eg j })
    go false h = cc h

pub named-spelled : (payload : List ℕ) (at : ℕ) (named : Named) → length payload ≡ 1024 → at < 16
    → named_in (entry_in payload at) ≡ Some named → IsEntrySpelled named
named-spelled payload at named whole low e = go (entry_of (entry_bytes payload at)) refl e
  where
    len : length (entry_bytes payload at) ≡ 64
    len = length-take-le 64 (drop (64 * at) payload)
        (let d = length-drop (64 * at) payload in omega (arith, d, whole, low))

    go : (o : Option Entry) → entry_of (entry_bytes payload at) ≡ o → named_in o ≡ Some named → IsEntrySpelled named
    go None eo h = cc h
    go (Some it) eo h =
        let s = spelled (entry_bytes payload at) it len eo in
        subst IsEntrySpelled (cc h) (s.has.inode, s.has.generation)

-- a place whose entry has a name has one
pub name-some : (payload name : List ℕ) (at : ℕ) → has_name payload name at ≡ true
    → is_some (entry_in payload at) ≡ true
unfolding has_name
name-some payload name at e = go (entry_in payload at) e
  where
    go : (o : Option Entry) → is_named name (name_of o) ≡ true → is_some o ≡ true
    go None h = cc h
    go (Some it) h = refl
