use Rattle.std.proofs.Common.{ℕ, List, sym, ap, ◌∙◌}
use Rattle.nofs_disk.specs.Number.{put_bytes}
use Rattle.nofs_files.proofs.OnPuts.Unchanged.{fresh-content}
use Rattle.nofs_files.proofs.puts.cells.fill_content.Goals as goal

pub returns : goal.returns
returns c = λ size. record {
  payload = c.write_bytes_at.ensures ∙ ap (λ (bytes : List ℕ). put_bytes c.args.put.now.at c.args.put.now.bytes.now
      bytes) c.requires.zeros
      ∙ sym (fresh-content size c.args.put.now.slot c.args.put.now.at c.args.put.now.bytes.now);
  tag = c.write_tag.ensures.read;
}
