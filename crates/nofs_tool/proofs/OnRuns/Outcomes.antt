-- What a run ends with, by how it went.
use Rattle.std.proofs.Common.{◌≡◌, ◌⊎◌, inl, inr, ℕ, ◌≤◌, true, false, Some, None, sym, subst, arith}
use Rattle.std.specs.declared.option.Option.{Option}
use Rattle.nofs_disk.specs.Disk.{DiskState, Rose}
use Rattle.nofs_io.specs.Calls.{SinkState}
use Rattle.nofs_history.specs.HistoryState.{HistoryState}
use Rattle.nofs_tool.specs.declared.begin.words.Request.TheVariants.{Upgrade}
use Rattle.nofs_history.specs.Faults.{has_fault}
use Rattle.nofs_tool.specs.Session.Whole.{Finished}
use Rattle.nofs_tool.specs.Runs.Statuses.{KeepsDevice}
use Rattle.nofs_tool.specs.Runs.Tool.{MountEnds, SessionEnds}
use Rattle.nofs_tool.specs.Upgrade.{IsRefusedUpgrade, UpgradeEnds}
use Rattle.nofs_tool.proofs.OnRuns.Faults.{faults-rose}

-- a mount that served, and whose text was written
pub written-ends : (found new : DiskState) (sink_old sink_new : SinkState) (first status : ℕ) (ran : HistoryState)
    (h : Option HistoryState)
    → h ≡ Some ran
    → ∥ Finished found new first ran ∥₁
    → (status ≡ 0) ⊎ (status ≡ 3) ⊎ (status ≡ 5) ⊎ (status ≡ 7)
    → (status ≡ 3 → has_fault ran.entries ≡ true)
    → (has_fault ran.entries ≡ true → (status ≡ 3) ⊎ (status ≡ 7))
    → (status ≡ 5 → Rose sink_old.faults sink_new.faults × (has_fault ran.entries ≡ false))
    → MountEnds found new sink_old sink_new status h
written-ends found new sink_old sink_new first status ran h stood ends named device faulty sink =
    subst (λ x. MountEnds found new sink_old sink_new status x) (sym stood) (record {
      named = named;
      device = λ e. (device e, faults-rose found new first ran ends (device e));
      faulty = faulty;
      sink = sink;
      stood = λ e. cc e;
    })

-- one kind more
widened : {A B C D E : Type 0} → A ⊎ B ⊎ C ⊎ D → A ⊎ B ⊎ E ⊎ C ⊎ D
widened (inl a) = inl a
widened (inr (inl b)) = inr (inl b)
widened (inr (inr (inl c))) = inr (inr (inr (inl c)))
widened (inr (inr (inr d))) = inr (inr (inr (inr d)))

-- a mount that served refused nothing
not-refused : (status : ℕ) → (status ≡ 0) ⊎ (status ≡ 3) ⊎ (status ≡ 5) ⊎ (status ≡ 7) → status ≡ 4 → ⊥
not-refused status (inl a) e = omega (arith, a, e)
not-refused status (inr (inl a)) e = omega (arith, a, e)
not-refused status (inr (inr (inl a))) e = omega (arith, a, e)
not-refused status (inr (inr (inr a))) e = omega (arith, a, e)

-- a mount on a device whose faults were counted before
pub mounted-ends : {Refused : Type 0} (old found new : DiskState) (sink_old sink_new : SinkState) (status : ℕ)
    (h : Option HistoryState)
    → old.faults ≤ found.faults → MountEnds found new sink_old sink_new status h
    → SessionEnds Refused old new sink_old sink_new status h
mounted-ends old found new sink_old sink_new status h later m = record {
  named = widened m.named;
  device = λ e. ((m.device e).0, (let r = (m.device e).1 in omega (arith, later, r)));
  faulty = m.faulty;
  sink = m.sink;
  refused = λ e. absurd (not-refused status m.named e);
}

module _ {D : Type 0} (state : D → DiskState) where
  -- a run at a mount, whose disk was handed back when its text was written
  pub run-ends : (found ran last : D) (sink_old sink_new : SinkState) (first status : ℕ) (history : HistoryState)
      (h : Option HistoryState)
      → last ≡ ran → h ≡ Some history
      → ∥ Finished (state found) (state ran) first history ∥₁
      → (status ≡ 0) ⊎ (status ≡ 3) ⊎ (status ≡ 5) ⊎ (status ≡ 7)
      → (status ≡ 3 → has_fault history.entries ≡ true)
      → (has_fault history.entries ≡ true → (status ≡ 3) ⊎ (status ≡ 7))
      → (status ≡ 5 → Rose sink_old.faults sink_new.faults × (has_fault history.entries ≡ false))
      → MountEnds (state found) (state last) sink_old sink_new status h
  run-ends found ran last sink_old sink_new first status history h same stood ends named device faulty sink =
      subst (λ d. MountEnds (state found) (state d) sink_old sink_new status h) (sym same)
      (written-ends (state found)
      (state ran) sink_old sink_new first status history h stood ends named device faulty sink)

  -- the mount found the device as it was
  pub old-ends : {Refused : Type 0} (old found ran last : D) (sink_old sink_new : SinkState) (first status : ℕ)
      (history : HistoryState)
      (h : Option HistoryState) → found ≡ old → last ≡ ran → h ≡ Some history
      → ∥ Finished (state found) (state ran) first history ∥₁
      → (status ≡ 0) ⊎ (status ≡ 3) ⊎ (status ≡ 5) ⊎ (status ≡ 7)
      → (status ≡ 3 → has_fault history.entries ≡ true)
      → (has_fault history.entries ≡ true → (status ≡ 3) ⊎ (status ≡ 7))
      → (status ≡ 5 → Rose sink_old.faults sink_new.faults × (has_fault history.entries ≡ false))
      → SessionEnds Refused (state old) (state last) sink_old sink_new status h
  old-ends old found ran last sink_old sink_new first status history h was same stood ends named device faulty sink =
      mounted-ends (state old) (state old) (state last) sink_old sink_new status h (omega arith)
      (subst (λ f. MountEnds (state f) (state last) sink_old sink_new status h) was
      (run-ends found ran last sink_old sink_new first status history h same stood ends named device faulty sink))

-- an upgrade has no history, and one that was refused leaves the device as it says
pub upgrade-keeps : {D : Type 0} (state : D → DiskState) (disk last : D) (sink_old sink_new : SinkState) (status : ℕ)
    (h : Option HistoryState) → h ≡ None
    → UpgradeEnds (state disk) (state last) sink_old sink_new status
    → KeepsDevice (IsRefusedUpgrade (state disk) (state last)) (Some Upgrade) disk last status h
upgrade-keeps state disk last sink_old sink_new status h none ends = let named = ends.named in record {
  unmounted = λ e. absurd (omega (arith, e, named));
  untouched = λ e. absurd (omega (arith, e, named));
  refused = λ e. (none, ends.refused e);
}
