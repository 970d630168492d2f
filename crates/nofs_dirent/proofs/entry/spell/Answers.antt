use Rattle.std.proofs.Common.{◌≡◌, List, ℕ, length, sym, subst, ap, ◌∙◌}
use Rattle.nofs_disk.specs.Number.{put_bytes, put_number, zeros}
use Rattle.nofs_dirent.specs.Entries.{entry_with, spelled_entry}
use Rattle.nofs_dirent.specs.EntryLaws.{Spells, spelled_entry-spells}
use Rattle.nofs_dirent.proofs.entry.spell.Goals as goal

pub returns : goal.returns
unfolding spelled_entry
returns c =
    let inode = c.args.inode in
    let generation = c.args.generation in
    let name = c.args.name.now in
    let named = c.write_bytes_at.ensures ∙ ap (put_bytes 16 name) (c.clear.ensures ∙ ap zeros c.told-into) in
    let numbered = c.write_u64_at.ensures.put ∙ ap (put_number 8 8 generation) named in
    let sized = c.write_u32_at.ensures.put ∙ ap (put_number 4 4 (length name)) numbered in
    let bytes : c.write_u32_at-2.new.bytes ≡ spelled_entry inode generation name =
    c.write_u32_at-2.ensures.put ∙ ap (put_number 4 0 inode) sized in
    record {
      bytes = bytes;
      spells = subst (λ (l : List ℕ). Spells l (entry_with inode generation name)) (sym bytes)
          (spelled_entry-spells inode generation name c.requires.inode c.ranges.inode.fits c.requires.generation
          c.ranges.generation.fits c.requires.name);
    }
