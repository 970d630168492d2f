-- A mount and what was found in it may cross threads. The kit makes no such proof of a struct with a snapshot.
use denote.RattleType.{RattleType}
use denote.Param.Send.{IsSend, sendable}
use denote.Param.SendFields.{declared_send, as_row_send, owner_send}
use Rattle.nofs_disk.specs.declared.disk.Disk as Disk
use Rattle.nofs_shared.specs.contracts.mount.mount.Mount.{the_row, the_type}
use Rattle.nofs_shared.specs.contracts.index.Index as index
use Rattle.nofs_shared.proofs.index.Index.TheSendSync as index_sends
use Rattle.nofs_state.specs.contracts.cores.mounted_disk.Core as core
use Rattle.nofs_state.proofs.cores.mounted_disk.Core.TheSendSync as core_sends
use Rattle.nofs_scan.specs.contracts.sights.evidence.Evidence as evidence
use Rattle.nofs_scan.specs.contracts.sights.evidence.Verdicts as verdicts
use Rattle.nofs_scan.proofs.sights.evidence.Verdicts.TheSendSync as verdicts_sends
use Rattle.std.specs.contracts.snapshot.Snapshot as snapshot

snapshot-send : (D : RattleType) → IsSend (snapshot.the_row D)
snapshot-send D = owner_send (snapshot.the_type D) (search sendable) (λ d. tt) (λ k x w. tt)

pub mount-send : (D : RattleType) (g : Disk.Ghosts D.Denot) → IsSend D → IsSend (the_row D g)
mount-send D g d = declared_send (the_type D g) (
  as_row_send (core.the_field D) (core_sends.the_field_send D d),
  (
    search sendable,
    (
      as_row_send (snapshot.the_field D) (snapshot-send D),
      (search sendable, (as_row_send index.the_field index_sends.the_field_send, tt)),
    ),
  ),
)

verdicts-send : IsSend verdicts.the_row
verdicts-send = verdicts_sends.the_send

pub evidence-send : (D : RattleType) (g : Disk.Ghosts D.Denot) → IsSend (evidence.the_row D g)
evidence-send D g = declared_send (evidence.the_type D g) (
  as_row_send (snapshot.the_field (core.the_row D)) (snapshot-send (core.the_row D)),
  (search sendable, (as_row_send verdicts.the_field verdicts-send, tt)),
)
