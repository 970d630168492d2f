-- The directory's cell, by what it says of its bytes.
use Rattle.std.proofs.Common.{◌∙◌, ap, List, ℕ}
use Rattle.nofs_history.specs.Machine as machine
use Rattle.nofs_history.specs.Accepted.Files.{kept_files_of}
use Rattle.nofs_history.specs.Accepted.Given.{with_birth}
use Rattle.nofs_history.specs.declared.accepted.given.given.Birth.{Birth}
use Rattle.nofs_history.proofs.accepted.given.steps.make_given_at.Goals as goal

pub returns-clause-given : goal.returns-clause-given
returns-clause-given c =
    let birth : Birth = record {
      inode = c.args.said.now.inode;
      generation = c.args.said.now.generation;
      kind = c.args.kind;
      link = c.args.at;
    } in
    ap (λ (base : machine.Given). with_birth base birth)
    (c.in_ok-cell.ensures.given machine.no_meta
    ∙ ap (λ (bytes : List ℕ). machine.entry_given
    (kept_files_of c.args.files.now) c.args.at.directory c.args.at.generation c.args.at.entry bytes machine.no_meta)
    c.bytes.ensures)
