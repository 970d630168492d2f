use Rattle.nofs_cases.proofs.OnSteps.Files.{put-case, put-held-case, resize-case, untouched-case, grown-case}
use Rattle.nofs_cases.proofs.OnSteps.Leaf.{leaf-case}
use Rattle.nofs_cases.proofs.steps.law_file_cases.Goals as goal

pub returns : goal.returns
returns c = record {
  put = put-case;
  leaf = leaf-case;
  put_held = put-held-case;
  resize = resize-case;
  untouched = untouched-case;
  grown = grown-case;
}
