use Rattle.nofs.proofs.cached.tool_on.Goals as goal

pub returns : goal.returns
returns g c = let e = c.tool.ensures in record {
  headline = e.headline;
  usage = e.usage;
  causes = e.causes;
  kept = e.kept;
  done = e.done;
  said = e.said;
  unserved = e.unserved;
  taken = e.taken;
  further = e.further;
  complete = e.complete;
}
