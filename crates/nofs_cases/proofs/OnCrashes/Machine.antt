-- The Put of one byte as a step of the machine.
use Rattle.std.proofs.Common.{◌≡◌, ℕ, Bool, true, false, cond, eqb, Option, Some, None, refl, ap, ◌∙◌, arith}
use Rattle.nofs_inode.specs.declared.inode.FileKind.TheVariants.{File}
use Rattle.nofs_inode.specs.declared.inode.Record.{Record}
use Rattle.nofs_model.specs.Files.{FileState}
use Rattle.nofs_model.specs.declared.image.value.Value.{Value}
use Rattle.nofs_model.specs.declared.image.value.Value.TheVariants.{Hole}
use Rattle.nofs_history.specs.Machine.{value_of, files_by}
use Rattle.nofs_history.specs.Since.{agreed_files}
use Rattle.nofs_history.specs.History.{SameFile}
use Rattle.nofs_cases.specs.Disks.Images.{first_image, put_image}
use Rattle.nofs_cases.specs.Disks.Worlds.{root_file, label_file, first_files}
use Rattle.nofs_cases.specs.Steps.Maps.{put_entry}
use Rattle.nofs_cases.proofs.OnDisks.Matches.{agreed-file}
use Rattle.nofs_cases.proofs.OnSteps.Files.{put-inode, put-label}
use Rattle.nofs_cases.proofs.OnSteps.Maps.{good-case}
use Rattle.nofs_cases.specs.Crashes.Machine.{FitsCase, AcceptedCase}
use Rattle.nofs_cases.proofs.OnCrashes.Stages.{put-files}

-- the value of a slot of a file, where there is one
held : Option FileState → ℕ → Value
held None k = Hole
held (Some f) k = f.values k

no-value : (k : ℕ) (q : Bool) → cond {A = Value} q Hole Hole ≡ Hole
no-value k true = refl
no-value k false = refl

each-hole : (k : ℕ) (a b c : Bool)
    → held (cond a (Some (root_file Hole)) (cond b (Some (label_file 0 Hole)) (cond c None None))) k ≡ Hole
unfolding held
each-hole k true b c = no-value k (eqb k 0)
each-hole k false true c = no-value k (eqb k 0)
each-hole k false false true = refl
each-hole k false false false = refl

value-held : (o : Option FileState) (i k : ℕ) → first_files i ≡ o → value_of first_files i k ≡ held o k
unfolding held
value-held None i k e = rw (e, value_of) refl
value-held (Some f) i k e = rw (e, value_of) refl

all-holes : (i k : ℕ) → value_of first_files i k ≡ Hole
all-holes i k = value-held (first_files i) i k refl ∙ each-hole k (eqb i 1) (eqb i 2) (eqb i 3)

pub fits-case : FitsCase
fits-case = (
  record { blocks = omega arith; inodes = omega arith; values = λ i k content e. let h = all-holes i k in cc (h, e) },
  good-case.0,
)

there : (o p : Option FileState) (g : FileState) → SameFile o p → p ≡ Some g → (f : FileState) × (o ≡ Some f)
there None None g s e = cc e
there None (Some p) g s e = absurd s
there (Some f) p g s e = (f, refl)

pub accepted-case : AcceptedCase
accepted-case =
    let t = there (files_by (agreed_files first_image) put_entry 2) (agreed_files put_image 2) _ (put-files.files 2)
    (agreed-file put_image 2 File (ap (λ (r : Record). r.kind) (put-inode 7 2)) put-label) in
    ((refl, tt), t.0, t.1)
