-- The number of a cause.
use Rattle.std.proofs.Common.{◌≡◌, ℕ, ◌<◌, List, Option, Some, None, arith, sym, ap, ◌∙◌}
use Rattle.nofs_super.specs.declared.superblock.MountFault.{MountFault}
use Rattle.nofs_super.specs.declared.superblock.MountFault.TheVariants as fault
use Rattle.nofs_reader.specs.Answers.{IsRefused}
use Rattle.nofs_reader.specs.declared.opened.Unread.{Unread}
use Rattle.nofs_reader.specs.declared.opened.Unread.TheVariants as unread
use Rattle.nofs_reader_c.specs.Codes.{IsCode, code_of, fault_code, unread_code}

fault-low : (f : MountFault) → fault_code f < 15
fault-low (fault.BadMagic found) = omega arith
fault-low (fault.BadVersion found) = omega arith
fault-low (fault.BadRest at) = omega arith
fault-low (fault.BadGeometry blocks inodes) = omega arith
fault-low (fault.DeviceTooSmall has) = omega arith
fault-low (fault.MountsSpent found) = omega arith
fault-low fault.ReadFault = omega arith
fault-low fault.WriteFault = omega arith
fault-low fault.OutOfMemory = omega arith

-- an answer
pub coded_ok : (bytes : List ℕ) (why : Option Unread) → why ≡ None → IsCode bytes why 0
coded_ok bytes why is = record { same = λ other. sym (ap code_of is); bad = λ e. absurd (omega (arith, e)) }

plain : (bytes : List ℕ) (why : Option Unread) (it : Unread) (code : ℕ) → why ≡ Some it → code ≡ unread_code it
    → unread_code it < 15 → IsCode bytes why code
plain bytes why it code is e low = record {
  same = λ other. e ∙ sym (ap code_of is);
  bad = λ f. absurd (omega (arith, e, f, low));
}

-- a cause
pub coded : (bytes : List ℕ) (why : Option Unread) (it : Unread) (code : ℕ) → IsRefused bytes why it
    → code ≡ unread_code it → IsCode bytes why code
coded bytes why (unread.NoImage f) code r e = plain bytes why (unread.NoImage f) code r e (fault-low f)
coded bytes why unread.NoInode code r e = plain bytes why unread.NoInode code r e (omega arith)
coded bytes why unread.NotDirectory code r e = plain bytes why unread.NotDirectory code r e (omega arith)
coded bytes why unread.IsDirectory code r e = plain bytes why unread.IsDirectory code r e (omega arith)
coded bytes why unread.TooLarge code r e = plain bytes why unread.TooLarge code r e (omega arith)
coded bytes why unread.NoRoom code r e = plain bytes why unread.NoRoom code r e (omega arith)
coded bytes why (unread.BadPage page) code r e = record { same = λ other. absurd (other e); bad = λ f. (page, r) }
