-- The 64 bytes of an entry stand at its place.
use Rattle.std.proofs.Common.{◌≡◌, ◌*◌, ◌/◌, ◌%◌, sym, ap, ◌∙◌}
use Rattle.nofs_model.specs.declared.image.value.Value.TheVariants as value
use Rattle.nofs_disk.specs.Number.{put_bytes}
use Rattle.nofs_history.specs.Machine as machine
use Rattle.nofs_history.specs.Accepted.Files.{kept_files_of}
use Rattle.nofs_history.proofs.EntryPut.{with-entry-put}
use Rattle.nofs_history.proofs.accepted.files.file.FilesNow.with_entry.Goals as goal

pub returns : goal.returns
returns c =
    let put = with-entry-put (machine.value_of (kept_files_of c.args.self.now) c.args.directory (c.args.entry / 16))
    c.args.entry c.args.bytes.now c.requires in
    let old : c.deref_mut.result.now ≡ machine.bytes_in
    (machine.value_of (kept_files_of c.args.self.now) c.args.directory (c.args.entry / 16)) =
    c.deref_mut.ensures.value ∙ c.in_ok-cell.ensures
    ∙ ap (λ k. machine.bytes_in (machine.value_of (kept_files_of c.args.self.now) c.args.directory k)) c.from.ensures in
    ap value.Bytes (c.write_bytes_at.ensures ∙ ap (put_bytes (64 * (c.args.entry % 16)) c.args.bytes.now) old) ∙ sym put
