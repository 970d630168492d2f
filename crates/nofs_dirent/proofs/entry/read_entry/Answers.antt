use Rattle.std.proofs.Common.{◌≡◌, ◌*◌, ◌-◌, arith, length, drop, ap, ◌∙◌}
use Rattle.std.proofs.lemmas.List.{length-drop, length-take-le}
use Rattle.nofs_disk.specs.Number.{IsBytes, drop-byte, take-byte}
use Rattle.nofs_dirent.specs.Entries.{entry_bytes}
use Rattle.nofs_dirent.specs.OneEntry.{IfOk-one, IfOk-spelling}
use Rattle.nofs_dirent.proofs.entry.read_entry.Goals as goal

pub returns : goal.returns
returns c =
    let payload = c.args.payload.now in
    let at = c.args.at in
    let low = c.requires in
    let len = c.told-payload in
    let rest : length (drop (64 * at) payload) ≡ 1024 - 64 * at = length-drop (64 * at) payload
    ∙ ap (λ n. n - 64 * at) len in
    let is : IsBytes 64 (entry_bytes payload at) = record {
      len = length-take-le 64 (drop (64 * at) payload) (omega arith);
      each = take-byte 64 (drop (64 * at) payload) (drop-byte (64 * at) payload c.fits-payload);
    } in
    record {
      value = c.spelled_entry.ensures;
      spelling = IfOk-spelling c.spelled_entry.result (entry_bytes payload at) is.len c.spelled_entry.ensures;
      one_spelling = IfOk-one c.spelled_entry.result (entry_bytes payload at) is c.spelled_entry.ensures;
    }
