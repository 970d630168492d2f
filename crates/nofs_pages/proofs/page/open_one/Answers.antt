use Rattle.std.proofs.Common.{◌+◌, ◌∙◌, ap, sym}
use Rattle.std.specs.Prelude.{slice_range}
use Rattle.nofs_disk.specs.Number.{put_bytes}
use Rattle.nofs_pages.proofs.OnRows.{area_of-other, area_of-page}
use Rattle.nofs_pages.proofs.page.open_one.Goals as goal

pub returns-then-is_page-clause-area : goal.returns-then-is_page-clause-area
returns-then-is_page-clause-area c t =
    let page = slice_range c.args.raw.now c.args.from (c.args.from + 4096) in
    c.write_bytes_at.ensures
    ∙ ap (λ a. put_bytes c.args.to a c.args.into.now)
    (sym (area_of-page c.args.number page (sym c.is_page.ensures ∙ c.if-is_page.true)))

pub returns-then-fresh-clause-area : goal.returns-then-fresh-clause-area
returns-then-fresh-clause-area c t =
    let page = slice_range c.args.raw.now c.args.from (c.args.from + 4096) in
    c.clear_area.ensures
    ∙ ap (λ a. put_bytes c.args.to a c.args.into.now)
    (sym (area_of-other c.args.number page (sym c.is_page.ensures ∙ c.if-is_page.false)))

pub returns-else-fresh-clause-area : goal.returns-else-fresh-clause-area
returns-else-fresh-clause-area c t =
    let page = slice_range c.args.raw.now c.args.from (c.args.from + 4096) in
    c.clear_area.ensures
    ∙ ap (λ a. put_bytes c.args.to a c.args.into.now)
    (sym (area_of-other c.args.number page (sym c.is_page.ensures ∙ c.if-is_page.false)))
