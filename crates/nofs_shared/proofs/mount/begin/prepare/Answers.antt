use Rattle.std.proofs.Common.{◌≡◌, ◌∙◌, sym, ap, Err}
use Rattle.nofs_super.specs.declared.superblock.MountFault.TheVariants as fault
use Rattle.nofs_shared.proofs.OnMount.Refusals.{read_no_write}
use Rattle.nofs_shared.proofs.mount.begin.prepare.Goals as goal

pub returns-in-Err : goal.returns-in-Err
returns-in-Err g c =
    let r = c.read_super.ensures in
    let not_read : (c.in-Err.why ≡ fault.ReadFault → ⊥) → c.read_super.result ≡ Err fault.ReadFault → ⊥ =
    λ n h. n (let q : Err c.in-Err.why ≡ Err fault.ReadFault = sym c.in-Err.is ∙ h in cc q) in
    record {
      disk = r.stays.disk;
      past = r.stays.past;
      cells = r.stays.cells;
      ok = tt;
      err = record {
        no_write = read_no_write _ c.read_super.result c.in-Err.why r.empty r.some c.in-Err.is;
        dirty = r.stays.dirty;
        empty = λ none. (let q : Err c.in-Err.why ≡ Err (fault.DeviceTooSmall 0) = sym c.in-Err.is ∙ r.empty none in
            cc q);
        read = λ e. r.cause (c.in-Err.is ∙ ap Err e);
        table = λ n memory some tells. sym c.in-Err.is ∙ r.told (not_read n) some tells;
        some = λ of low. (let p = r.some (not_read of.0) low in (p.0, p.1, sym p.2 ∙ c.in-Err.is));
        memory = λ e. absurd (r.reads.no_memory (c.in-Err.is ∙ ap Err e));
      };
    }
