use Rattle.std.proofs.Common.{◌≡◌, None}
use Rattle.std.specs.List.{AllWithin}
use Rattle.nofs_filedisk.specs.declared.windows.Window.{Window}
use Rattle.nofs_filedisk.proofs.windows.Windows.forget_all.Given as goal

abbrev pub invariant-loop-at : goal.invariant-loop-at
invariant-loop-at l = AllWithin (λ (w : Window). w.number ≡ None) l.self.windows.items 0 l.at
