use Rattle.std.proofs.Common.{◌*◌, ◌≤◌, ◌∙◌, arith, sym, subst, length, List, ℕ}
use Rattle.nofs_pages.specs.Pages.{HasPages}
use Rattle.nofs_pages.proofs.OnSingles.{puts, writes}
use Rattle.nofs_pages.proofs.single.SinglePageStore.put.Goals as goal

pub returns-clause-puts : goal.returns-clause-puts
returns-clause-puts g c =
    let size = c.args.self.now.size in
    let most = c.requires.count in
    let made = c.seal_row.ensures.len in
    let same = c.as_slice.ensures.value in
    let did = c.write_pages.ensures in
    let F : List ℕ → Type 0 = λ l. HasPages c.args.areas.now c.args.first c.args.count l in
    puts (g.B.Positioned.state c.args.self.now.file) (g.B.Positioned.state c.write_pages.new.file) c.args.first
    c.args.count c.args.areas.now c.as_slice.result.now c.write_pages.result c.requires.place did.keeps did.put did.err
    (subst F (sym same) c.seal_row.ensures.pages) (omega (arith, size, most, made)) did.cause did.no_fault

pub returns-clause-writes : goal.returns-clause-writes
returns-clause-writes g c tells =
    let size = c.args.self.now.size in
    let most = c.requires.count in
    let made = c.seal_row.ensures.len in
    let same = c.as_slice.ensures.value in
    let did = c.write_pages.ensures in
    let F : List ℕ → Type 0 = λ l. HasPages c.args.areas.now c.args.first c.args.count l in
    writes (g.B.Positioned.state c.args.self.now.file) (g.B.Positioned.state c.write_pages.new.file) c.args.first
    c.args.count c.args.areas.now c.as_slice.result.now c.write_pages.result c.requires.place did.keeps did.put did.err
    (subst F (sym same) c.seal_row.ensures.pages) (omega (arith, size, most, made)) tells
