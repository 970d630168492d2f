use Rattle.std.proofs.Common.{rules, ◌≡◌, ◌∙◌, sym, false, is_err}
use Rattle.nofs_workers.proofs.OnTasks.{from-ok}
use Rattle.nofs_workers.proofs.OnUser.{AreWellFormed-known}
use Rattle.nofs_workers.proofs.user.UserWorker.work.Goals as goal

pub run_out-ran-requires : goal.run_out-ran-requires
run_out-ran-requires g c = AreWellFormed-known _ c.replace-commands.result.formed

pub returns : goal.returns
returns g c = record {
  commands = search rules;
  ran = λ room. rw (sym c.replace-commands.ensures.value) (from-ok c.run_out-ran.result _
      (let e : is_err c.run_out-ran.result ≡ false = sym c.is_err-self.ensures.value ∙ room in e)
      c.run_out-ran.ensures.ran);
  some = rw (sym c.replace-commands.ensures.value) c.run_out-ran.ensures.some;
  goes_on = c.run_out-ran.ensures.goes;
  lines_follow = c.run_out-ran.ensures.lines_follow;
}
