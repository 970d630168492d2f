use Rattle.std.proofs.Common.{◌≡◌, length}
use Rattle.nofs_tool.specs.Drill.{AddsOwn, gets_from}
use Rattle.nofs_tool.proofs.drill.reads.read_slots.Given as goal

abbrev pub invariant-loop-slot : goal.invariant-loop-slot
invariant-loop-slot g l = record {
  long : length l.replies.items ≡ l.slot;
  adds : AddsOwn (gets_from l.found 0 l.replies.items) l.initial.mount.core.books.history.entries
      l.mount.core.books.history.entries;
  found_same : l.mount.found ≡ l.initial.mount.found;
  first_same : l.mount.first ≡ l.initial.mount.first;
}
