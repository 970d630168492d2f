use denote.Param.{param}
use denote.Exit.{no}
use mir.Syntax.{of_param}
use denote.Param.Send.{Quiet-if}
use Rattle.nofs_shared.proofs.OnMount.Threads.{evidence-send, mount-send}
use Rattle.nofs_test_serving.proofs.tests.runs.run_of.Goals as goal

pub serve-served-requires-send-V : goal.serve-served-requires-send-V
serve-served-requires-send-V g c κs within =
    let m = mount-send (param 1 g.row.D) g.D.Disk c.type_bounds.send-D in
    record { owned = m.owned; leaving = λ k. Quiet-if (k (of_param 1)) _ _ (m.leaving no) (λ x w. tt) }

pub serve-served-requires-send-V-Evidence : goal.serve-served-requires-send-V-Evidence
serve-served-requires-send-V-Evidence g c κs within =
    let m = evidence-send (param 1 g.row.D) g.D.Disk in
    record { owned = m.owned; leaving = λ k. Quiet-if (k (of_param 3)) _ _ (m.leaving no) (λ x w. tt) }
