-- An opening onto a disk that was made ready first.
use Rattle.std.proofs.Common.{ℕ, ◌≤◌, ◌&&◌, arith, inl, inr, ap, ◌∙◌, Result, Ok, Err}
use Rattle.std.specs.Prelude.{IfErr, IfOk}
use Rattle.nofs_disk.specs.Chains.{IsSameDisk-trans, KeepsPast-trans, Rose-within}
use Rattle.nofs_disk.specs.Disk.{DiskState, IsDisk, MakesReady}
use Rattle.nofs_mirror.specs.declared.sides.choices.MirrorCause.{MirrorCause}
use Rattle.nofs_mirror.specs.declared.sides.choices.MirrorCause.TheVariants.{TooSmall, ReadFault, OutOfMemory}
use Rattle.nofs_mirror.specs.declared.sides.log.Sides.{Sides}
use Rattle.nofs_mirror.specs.Mirror.{IsReadFault, OpensMirror, Refuses}
use Rattle.nofs_mirror.proofs.OnPartCopy.{ends_ready, part_ready}

-- what follows where a call succeeded, and where it failed
pub if_ok : {A E : Type 0} {P Q : A → Type 0} (r : Result A E) → ((a : A) → P a → Q a) → IfOk r P → IfOk r Q
if_ok (Ok a) goes p = goes a p
if_ok (Err e) goes p = tt

pub if_err : {A E : Type 0} {P R Q : E → Type 0} (r : Result A E) → ((e : E) → P e → R e → Q e) → IfErr r P → IfErr r R
    → IfErr r Q
if_err (Ok a) goes p s = tt
if_err (Err e) goes p s = goes e p s

module _ (lead other ready lead_new other_new : DiskState) (n calls : ℕ) {E : Type 0} {result : Result (Unit {0}) E}
    (is_other : IsDisk other) (is_ready : IsDisk ready) (r : MakesReady other ready calls result) where
  later : other.moment ≤ ready.moment
  later = let e = r.cells.moment in omega arith

  pub opens_ready : (mirror : DiskState) (sides : Sides) → OpensMirror lead ready lead_new other_new mirror n sides
      → OpensMirror lead other lead_new other_new mirror n sides
  opens_ready mirror sides p = record {
    fits = (p.fits.0, let f = p.fits.1 in let b = r.disk.blocks in omega arith);
    blocks = p.blocks;
    moment = p.moment;
    faults = p.faults;
    tells = p.tells ∙ ap (λ t. lead.tells && t) r.disk.tells;
    now = p.now;
    may = p.may;
    lead_in = p.lead_in;
    other_in = elim p.other_in [
      | inl both ↦ inl both
      | inr rose ↦ inr (Rose-within other.faults ready.faults other_new.faults other_new.faults r.disk.faults rose
          (omega arith))
    ];
    lead = p.lead;
    other = IsSameDisk-trans other ready other_new r.disk p.other;
    other_past = KeepsPast-trans other ready other_new later r.past p.other_past;
    other_cells = part_ready n lead other ready other_new is_other is_ready r.past r.disk.blocks r.cells p.other_past
        p.other_cells;
  }

  pub refuses_ready : (cause : MirrorCause) → IsReadFault cause → Refuses cause n lead ready lead_new other_new
      → Refuses cause n lead other lead_new other_new
  refuses_ready (TooSmall a b) is p = absurd is
  refuses_ready OutOfMemory is p = absurd is
  refuses_ready ReadFault is p = (
    p.0,
    let f = p.1 in let b = r.disk.blocks in omega arith,
    p.2,
    p.3,
    IsSameDisk-trans other ready other_new r.disk p.4,
    KeepsPast-trans other ready other_new later r.past p.5,
    ends_ready n lead other ready other_new is_other is_ready r.past r.disk.blocks r.cells p.5 p.6,
  )
