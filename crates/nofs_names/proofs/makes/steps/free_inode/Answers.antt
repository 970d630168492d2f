use Rattle.std.proofs.Common.{inl, refl}
use Rattle.nofs_names.proofs.makes.steps.free_inode.Goals as goal

pub returns-in-None : goal.returns-in-None
returns-in-None c = record {
  above = tt;
  within = tt;
  free = tt;
  raised = tt;
  refused = inl (c.inodes_full.ensures, c.in-None.ensures.none refl);
}
