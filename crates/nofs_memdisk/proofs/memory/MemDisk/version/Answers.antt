use Rattle.std.proofs.Common.{◌≡◌, ◌<◌, ◌∙◌, List, ap, get_or, length, ◌+◌, arith, subst, sym, take}
use Rattle.nofs_versions.specs.Memory.{IsSearch, held_after}
use Rattle.nofs_versions.specs.declared.search.Search.{Search}
use Rattle.nofs_versions.proofs.OnSearch.{search_begins, search_more}
use Rattle.nofs_versions.proofs.OnMemory.Sizes.{sized_version}
use Rattle.nofs_versions.specs.Laws.{held_after-held, within_is}
use Rattle.nofs_versions.specs.declared.call.Call.{Call}
use Rattle.nofs_disk.specs.Disk.{no_cell}
use Rattle.std.proofs.lemmas.List.{take_all}
use Rattle.nofs_memdisk.proofs.memory.MemDisk.version.Goals as goal

pub loop-call-init : goal.loop-call-init
loop-call-init c = (
  search_begins c.args.self.now.base.items c.args.block c.args.version c.index-first.result.now c.requires.block
      c.index-first.ensures,
  omega arith,
)

pub loop-call-preserved : goal.loop-call-preserved
loop-call-preserved c =
    let e = c.deref-call-items.ensures in
    let v = c.search_on-search.ensures in
    let m = c.loop-call.invariant.1 in
    let F : Search → Type 0 = λ s.
    IsSearch (held_after c.args.self.now.base.items (take (c.loop-call.call-index + 1) c.args.self.now.calls.items))
    c.args.block c.args.version s in (
      subst F (sym v.value) (search_more c.args.self.now.base.items _ c.args.self.now.calls.items c.loop-call.call-index
          c.args.block c.args.version
          c.loop-call.search _ e.value c.loop-call-test.true c.loop-call.invariant.0),
      omega arith,
    )

pub returns : goal.returns
returns c =
    let self = c.args.self.now in
    let held = held_after self.base.items self.calls.items in
    let search = c.loop-call.search in
    let whole : take c.loop-call.call-index self.calls.items ≡ self.calls.items =
    take_all c.loop-call.call-index self.calls.items (let e = ap length c.deref-call-items.ensures.value in let t =
    c.loop-call-test.false in omega arith) in
    let is : IsSearch held c.args.block c.args.version search =
    subst (λ (l : List Call). IsSearch (held_after self.base.items l) c.args.block c.args.version search) whole
    c.loop-call.invariant.0 in
    let list = within_is (length self.base.items) held.may c.args.block c.requires.block in
    let has : c.args.version < length (held.may c.args.block) = let e = ap length list in
    let r = c.requires.version in omega arith in
    let value = is.found (let e = (held_after-held self.base.items self.calls.items).len in let r = c.requires.block in
    omega arith) (let e =
    is.count in omega arith) in
    record {
      value = value ∙ ap (λ l. get_or l c.args.version no_cell) (sym list);
      sized = sized_version (length self.base.items) held.may self.sized c.args.block c.args.version search.found
          c.requires.block has value;
    }
