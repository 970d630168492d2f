-- A mount stands after a write-out, and its pass has what it had.
use Rattle.std.proofs.Common.{◌≡◌, ℕ, ◌≤◌, ◌⊎◌, inl, inr, false, Option, Result, sym, ◌∙◌, subst, arith}
use Rattle.std.proofs.lemmas.Bool.{cases_lt}
use Rattle.nofs_disk.specs.Disk.{DiskState, Picks}
use Rattle.nofs_disk.specs.Chains.{IsSameDisk-trans}
use Rattle.nofs_disk.specs.declared.OutFault.{OutFault}
use Rattle.nofs_model.specs.Geometry.{Image}
use Rattle.nofs_history.specs.Allowed.{IsAllowed}
use Rattle.nofs_state.specs.Cores.Invariant.{IsOpen, IsStopped, Past}
use Rattle.nofs_state.specs.declared.books.maps.Books.{Books}
use Rattle.nofs_state.specs.Cores.WriteOuts.{WroteOne}
use Rattle.nofs_state.proofs.OnCores.WriteOuts.{open-out, safe-out, sounds-out, stopped-out}
use Rattle.nofs_shared.specs.Mount.Forms.{Forms}
use Rattle.nofs_shared.specs.Mount.Invariant.{IsMount, IsMounted}
use Rattle.nofs_shared.proofs.OnMount.Histories.{forms-later}
use Rattle.nofs_shared.proofs.OnMount.Steps.{picks-back, stands-still}

module _ (found old new : DiskState) (first : ℕ) (k : Books) (result : Result (Option ℕ) OutFault)
    (out : WroteOne old new result)
    (m : IsMount found old first k) where
  began : k.history.start ≤ old.moment
  began = forms-later k.history.entries k.history.start false old.moment k.stopped m.forms

  mounted-out : IsMounted found new k.history.start k.at
  mounted-out = record {
    begun = m.mounted.begun;
    base = out.was k.history.start began ∙ m.mounted.base;
    before = λ n X from to left. elim (cases_lt n old.moment) [
      | inl past ↦ m.mounted.before n X from to (out.no_more n X past left)
      | inr now ↦
          let low = began in
          let e : n ≡ old.moment = omega (arith, now, to, low) in
          let s : old.moment ≡ k.history.start = omega (arith, now, to, low) in
          let F : ℕ → Type 0 = λ j. new.left j X in
          m.mounted.resting s X (out.added X (subst F e left))
    ];
    resting = λ e X p. m.mounted.resting (sym out.cells.moment ∙ e) X (picks-back old new out.disk out.cells X p);
  }

  pub mount-out : IsMount found new first k
  mount-out = record {
    safe = safe-out old new result out k m.safe;
    disk = IsSameDisk-trans found old new m.disk out.disk;
    mounted = mounted-out;
    forms = subst (λ (n : ℕ). Forms k.history.start false k.history.entries n k.stopped) (sym out.cells.moment) m.forms;
    counted = (let q = m.counted in let f = out.disk.faults in omega (arith, q, f));
    stands = λ q. let st = m.stands q in
        stands-still found old new first k out.disk out.cells (out.was k.history.start began) st
        (go st.past st.rests st.now) (sounds-out old new result out found.moment st.sound);
  }
    where
      go : (p : Past) → ((X : Image) → Picks old.may old.blocks X → IsAllowed p.base k.history.entries old.moment X)
          → IsOpen old k k.history.entries p ⊎ IsStopped old k k.history.entries p
          → IsOpen new k k.history.entries p ⊎ IsStopped new k k.history.entries p
      go p rest (inl o) = inl (open-out old new result out k k.history.entries p rest o)
      go p rest (inr o) = inr (stopped-out old new result out k k.history.entries p rest o)

  -- with the books that the call left
  pub mount-out-of : (l : Books) → l ≡ k → IsMount found new first l
  mount-out-of l same = subst (λ (b : Books). IsMount found new first b) (sym same) mount-out
