use Rattle.std.proofs.Common.{◌≡◌, Some, ap, ◌∙◌, sym, is_some, true}
use Rattle.nofs_dirent.specs.Entries.{entry_in, entry_of}
use Rattle.nofs_names.specs.Searches.Slots.{named_in}
use Rattle.nofs_names.proofs.OnSearches.Entries.{named-some, named-spelled}
use Rattle.nofs_names.proofs.searches.entries.named_inode.Goals as goal

pub returns : goal.returns
returns c =
    let bytes = c.bytes_of-bytes.result.now in
    let same = ap entry_of c.bytes_of-bytes.ensures.bytes in
    let some : is_some (entry_of bytes) ≡ true = ap is_some same ∙ c.requires.entry in
    let value : named_in (entry_in c.args.payload.now c.args.at)
    ≡ Some (record { inode = c.read_u32_at.result; generation = c.read_u64_at.result }) =
    ap named_in (sym same)
    ∙ named-some bytes c.read_u32_at.result c.read_u64_at.result c.read_u32_at.ensures c.read_u64_at.ensures some in
    record {
      value = value;
      spelled = named-spelled c.args.payload.now c.args.at
          (record { inode = c.read_u32_at.result; generation = c.read_u64_at.result }) c.told-payload c.requires.place
          value;
    }
