use Rattle.nofs_cases.proofs.OnMounts.Sound.{leaves-sound}
use Rattle.nofs_cases.proofs.mounts.files.note_sound.Goals as goal

pub returns : goal.returns
returns g c = leaves-sound (g.D.Disk.state c.args._disk.now) (g.met.D.Disk.is_disk c.args._disk.now)
