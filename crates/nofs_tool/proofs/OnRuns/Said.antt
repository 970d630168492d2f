-- What a sink was told of a run that was mounted.
use Rattle.std.proofs.Common.{◌≡◌, ◌⊎◌, inl, inr, ℕ, List, [], Option, Some, None, refl, sym, subst, arith}
use Rattle.std.specs.Prelude.{IfSome}
use Rattle.std.proofs.KnownBytes.{Appends-nil}
use Rattle.nofs_io.specs.Calls.{SinkState}
use Rattle.nofs_io.specs.Texts.{AppendsAll}
use Rattle.nofs_history.specs.HistoryState.{HistoryState}
use Rattle.nofs_super.specs.declared.superblock.MountFault.TheVariants as fault
use Rattle.nofs_upgrade.specs.declared.fault.UpgradeFault.{UpgradeFault}
use Rattle.nofs_upgrade.specs.declared.fault.UpgradeFault.TheVariants as upgrade
use Rattle.nofs_tool.specs.declared.begin.mounts.Cause.{Cause}
use Rattle.nofs_tool.specs.declared.begin.mounts.Cause.TheVariants as cause
use Rattle.nofs_tool.specs.Begin.Lines.{cause_line, upgrade_line}
use Rattle.nofs_tool.specs.Begin.Mounts.{status_of}
use Rattle.nofs_tool.specs.Runs.Said.{SaysCause}
use Rattle.nofs_tool.specs.Runs.Says.{Prints}
use Rattle.nofs_tool.specs.Upgrade.{upgrade_status}

-- a text was told at status 3 and 5, and it is this one of the history
pub told-text : (old new : SinkState) (P : List ℕ → Type 0) (T : HistoryState → Type 0) (text : Option (List ℕ))
    (ran : HistoryState)
    (h : Option HistoryState) (s : ℕ)
    → h ≡ Some ran → (text ≡ None → s ≡ 7) → IfSome text (Prints old new) → IfSome text P
    → ((t : List ℕ) → P t → Prints old new t → T ran)
    → (s ≡ 3) ⊎ (s ≡ 5) → IfSome h T
told-text old new P T text ran h s some unsaid says has told ended =
    subst (λ (o : Option HistoryState). IfSome o T) (sym some) (go text unsaid says has)
  where
    early : (s ≡ 3) ⊎ (s ≡ 5) → s ≡ 7 → ⊥
    early (inl e) z = omega (arith, e, z)
    early (inr e) z = omega (arith, e, z)

    go : (o : Option (List ℕ)) → (o ≡ None → s ≡ 7) → IfSome o (Prints old new) → IfSome o P → T ran
    go None u y p = absurd (early ended (u refl))
    go (Some t) u y p = told t p y

-- no call of the sink was made
pub says_nothing : (sink : SinkState) → AppendsAll sink sink []
says_nothing sink = Appends-nil sink.given

-- a text without bytes is nothing
pub prints-nothing : (old new : SinkState) → Prints old new [] → AppendsAll old new []
prints-nothing old new (inl all) = all
prints-nothing old new (inr (part, rose)) = absurd (let few = part.1 in omega (arith, few))

-- for want of memory nothing was told
pub silent-cause : (why : Cause) (old new : SinkState) (status told : ℕ) → status ≡ told → told ≡ status_of why
    → Prints old new (cause_line why) → status ≡ 7 → AppendsAll old new []
silent-cause cause.Device old new status told a b says e = absurd (omega (arith, a, b, e))
silent-cause cause.NoMemory old new status told a b says e = prints-nothing old new says
silent-cause (cause.Format fault) old new status told a b says e = absurd (omega (arith, a, b, e))
silent-cause (cause.Mount fault) old new status told a b says e = absurd (omega (arith, a, b, e))

-- the line of a cause that this is so of
pub says-cause : {D : Type 0} (Why : D → Cause → Type 0) (last ran : D) (why : Cause) (old new : SinkState)
    (status : ℕ) → last ≡ ran → status ≡ status_of why → Why ran why → Prints old new (cause_line why)
    → SaysCause (Why last) old new status
says-cause Why last ran why old new status same is so says =
    (why, subst (λ d. Why d why) (sym same) so, sym is, says)

-- an upgrade for which memory was wanting told nothing
pub silent-upgrade : (why : UpgradeFault) (old new : SinkState) (status told : ℕ) → status ≡ told
    → told ≡ upgrade_status why → Prints old new (upgrade_line why) → status ≡ 7 → AppendsAll old new []
silent-upgrade upgrade.Already old new status told a b says e = absurd (omega (arith, a, b, e))
silent-upgrade (upgrade.Mount fault.OutOfMemory) old new status told a b says e = prints-nothing old new says
silent-upgrade (upgrade.Mount fault.ReadFault) old new status told a b says e = absurd (omega (arith, a, b, e))
silent-upgrade (upgrade.Mount fault.WriteFault) old new status told a b says e = absurd (omega (arith, a, b, e))
silent-upgrade (upgrade.Mount (fault.BadMagic x)) old new status told a b says e = absurd (omega (arith, a, b, e))
silent-upgrade (upgrade.Mount (fault.BadVersion x)) old new status told a b says e = absurd (omega (arith, a, b, e))
silent-upgrade (upgrade.Mount (fault.BadGeometry x y)) old new status told a b says e = absurd (omega (arith, a, b, e))
silent-upgrade (upgrade.Mount (fault.DeviceTooSmall x)) old new status told a b says e = absurd (omega (arith, a, b, e))
silent-upgrade (upgrade.Mount (fault.MountsSpent x)) old new status told a b says e = absurd (omega (arith, a, b, e))
silent-upgrade (upgrade.Mount (fault.BadRest x)) old new status told a b says e = absurd (omega (arith, a, b, e))
