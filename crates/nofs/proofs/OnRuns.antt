-- A run that was made on a disk, and what it says of what made the disk.
use Rattle.std.proofs.Common.{◌≡◌, ◌⊎◌, ℕ, List, inl, inr, refl, sym, subst}
use Rattle.std.proofs.lemmas.Result.{IfErr-at_err}
use Rattle.std.specs.Prelude.{Result, Ok, Err, IfErr, IfOk}
use Rattle.std.specs.declared.option.Option.{Option}
use Rattle.nofs_disk.specs.Disk.{DiskState}
use Rattle.nofs_io.specs.Calls.{SourceState, SinkState}
use Rattle.nofs_history.specs.HistoryState.{HistoryState}
use Rattle.nofs_tool.specs.Runs.Call.{IsCall, RunsOn}
use Rattle.nofs.specs.Runs.{HasNoRoom, RunsOrNot}

module _ {D : Type 0} (state : D → DiskState) (words : List (List ℕ)) (source_old source_new : SourceState) (limit : ℕ)
    (sink_old sink_new : SinkState) where
  -- the status of a call on a disk that is so
  pub runs-on : (IsDevice : D → Type 0) (disk last : D) (made status : ℕ) (h : Option HistoryState) → IsDevice disk
      → status ≡ made → IsCall state words source_old source_new limit sink_old sink_new disk last made h
      → RunsOn state words source_old source_new limit sink_old sink_new IsDevice status
  runs-on IsDevice disk last made status h is same call = record {
    disk = disk;
    is = is;
    last = last;
    history = h;
    call = subst (λ (s : ℕ). IsCall state words source_old source_new limit sink_old sink_new disk last s h) (sym same)
        call;
  }

  -- what else is known of the disk, where there was room for it
  pub runs-or-not : (P Q : D → Type 0) (status : ℕ) (No More : Type 0) → ((d : D) → P d → Q d) → (No → More)
      → RunsOn state words source_old source_new limit sink_old sink_new P status ⊎ No
      → RunsOn state words source_old source_new limit sink_old sink_new Q status ⊎ More
  runs-or-not P Q status No More known more (inl run) = inl (record {
    disk = run.disk;
    is = known run.disk run.is;
    last = run.last;
    history = run.history;
    call = run.call;
  })
  runs-or-not P Q status No More known more (inr none) = inr (more none)

module _ {C G : Type 0} (cached : C → DiskState) (gathered : G → DiskState) (words : List (List ℕ))
    (source_old source_new : SourceState) (limit : ℕ) (sink_old sink_new : SinkState) where
  -- a run on a disk behind a cache, of which more is known
  pub cached-or-not : (P Q : C → Type 0) (R : G → Type 0) (status : ℕ)
      → RunsOn cached words source_old source_new limit sink_old sink_new P status
      ⊎ HasNoRoom source_old source_new sink_old sink_new status → ((d : C) → P d → Q d)
      → RunsOrNot cached gathered Q R words source_old source_new limit sink_old sink_new status
  cached-or-not P Q R status (inl run) known = inl (record {
    disk = run.disk;
    is = known run.disk run.is;
    last = run.last;
    history = run.history;
    call = run.call;
  })
  cached-or-not P Q R status (inr none) known = inr (inr (inl none))

  -- the same of one behind a cache that gathers
  pub gathered-or-not : (P Q : G → Type 0) (R : C → Type 0) (status : ℕ)
      → RunsOn gathered words source_old source_new limit sink_old sink_new P status
      ⊎ HasNoRoom source_old source_new sink_old sink_new status → ((d : G) → P d → Q d)
      → RunsOrNot cached gathered R Q words source_old source_new limit sink_old sink_new status
  gathered-or-not P Q R status (inl run) known = inr (inl (record {
    disk = run.disk;
    is = known run.disk run.is;
    last = run.last;
    history = run.history;
    call = run.call;
  }))
  gathered-or-not P Q R status (inr none) known = inr (inr (inl none))

-- what holds of an answer holds of it by the name that it has
pub ok-same : {A E : Type 0} (r : Result A E) (x : A) (P : A → Type 0) → r ≡ Ok x → P x → IfOk r P
ok-same {A} {E} r x P is holds = subst (λ (s : Result A E). IfOk s P) (sym is) holds

-- a cause has one name
pub err-same : {A E : Type 0} (r : Result A E) (x y : E) → r ≡ Err x → r ≡ Err y → x ≡ y
err-same {A} {E} r x y one other =
    IfErr-at_err (λ e. x ≡ e) other (subst (λ (s : Result A E). IfErr s (λ e. x ≡ e)) (sym one) refl)
