use Rattle.std.proofs.Common.{◌≡◌, ◌*◌, ◌≤◌, arith, ap, ◌∙◌, length}
use Rattle.nofs_disk.specs.Number.{put_bytes, zeros, length-zeros}
use Rattle.nofs_dirent.specs.Entries.{entry_in, entry_of}
use Rattle.nofs_dirent.specs.EntryCells.{entry_bytes-beside, entry_bytes-put, entry_of-zeros}
use Rattle.nofs_dirent.proofs.entry.clear_entry.Goals as goal

pub returns : goal.returns
returns c =
    let at = c.args.at in
    let old = c.args.payload.now in
    let low = c.requires in
    let len = c.told-payload in
    let fits : 64 * at ≤ length old = omega arith in
    let put : c.write_bytes_at.new.bytes ≡ put_bytes (64 * at) (zeros 64) old =
    c.write_bytes_at.ensures ∙ ap (λ part. put_bytes (64 * at) part old) c.clear.ensures in
    record {
      put = put;
      empty = ap (λ l. entry_in l at) put ∙ ap entry_of (entry_bytes-put at (zeros 64) old (length-zeros 64) fits)
          ∙ entry_of-zeros;
      others = λ j other below. ap (λ l. entry_in l j) put
          ∙ ap entry_of (entry_bytes-beside at j (zeros 64) old (length-zeros 64) fits other);
    }
