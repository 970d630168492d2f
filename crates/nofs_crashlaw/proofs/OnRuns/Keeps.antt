-- What holds over each entry of a history: directories, their chains, and back links.
use Rattle.std.proofs.Common.{◌≡◌, ℕ, zero, suc, ◌<◌, List, [], ◌∷◌, length, Some, refl, sym, subst, arith}
use Rattle.std.specs.Prelude.{slice_get}
use Rattle.nofs_inode.specs.declared.inode.BackLink.{BackLink}
use Rattle.nofs_model.specs.Geometry.{Image}
use Rattle.nofs_model.specs.Files.{Files, Agreed}
use Rattle.nofs_history.specs.Machine.{found}
use Rattle.nofs_history.specs.Since.{agreed_files}
use Rattle.nofs_history.specs.HistoryState.{HistoryState}
use Rattle.nofs_history.specs.declared.machine.history.Entry1.{Entry1}
use Rattle.nofs_history.specs.declared.machine.steps.Step.TheVariants as step
use Rattle.nofs_crashlaw.specs.Runs.Bases.{IsHistory}
use Rattle.nofs_crashlaw.specs.Runs.Pairs.{IsDirectory, Filled}
use Rattle.nofs_crashlaw.specs.Runs.Laws.{files_before, HasPair, LawDirectory, LawRooted, LawPair}
use Rattle.nofs_crashlaw.proofs.OnRuns.Entries.{Moment, files-after}
use Rattle.nofs_crashlaw.proofs.OnRuns.Links.{IsSane, Linked, linked-pair, pair-linked}
use Rattle.nofs_crashlaw.proofs.OnRuns.Chains.{SaneRun, moment-at, Names}
use Rattle.nofs_crashlaw.proofs.OnRuns.StepLinks.{directory-next, link-next}
use Rattle.nofs_crashlaw.proofs.OnRuns.Base.{sane-run}

module _ (B : Image) (H : HistoryState) (h : IsHistory B H) (p : ℕ) (e : Entry1)
    (at : slice_get H.entries p ≡ Some e) where
  run : SaneRun B H.entries
  run = sane-run B H h

  moment : Moment (λ W. IsSane W) (agreed_files B) H.entries p e
  moment = moment-at B H.entries run p e at

  after : moment.after.files ≡ files_before B H.entries (suc p)
  after = files-after (λ W. IsSane W) run.keeps (agreed_files B) H.entries p e at moment

pub law-directory : LawDirectory
law-directory B H p e h at d g dir safe =
    let m = moment B H h p e at in
    subst (λ (F : Files). IsDirectory F d g) (after B H h p e at) (directory-next m.before m.after e m.sane m.next d g
    (subst (λ (F : Files). IsDirectory F d g) (sym m.files) dir)
    (λ q. subst (λ (F : Files). Filled F d) (sym m.files) (safe q)))

entry-within : (es : List Entry1) (p : ℕ) → p < length es → (e : Entry1) × (slice_get es p ≡ Some e)
entry-within [] p lt = absurd (omega (arith, lt))
entry-within (x ∷ es) zero lt = (x, refl)
entry-within (x ∷ es) (suc p) lt = entry-within es p (omega (arith, lt))

pub law-rooted : LawRooted
law-rooted B H zero h le d g dir =
    let r = sane-run B H h in
    subst (λ (F : Files). Agreed F d) r.files
    (r.sane.rooted d dir.file (subst (λ (F : Files). F d ≡ Some dir.file) (sym r.files) dir.is) dir.folder)
law-rooted B H (suc p) h le d g dir =
    let x = entry-within H.entries p (omega (arith, le)) in
    let m = moment B H h p x.0 x.1 in
    let a = after B H h p x.0 x.1 in
    subst (λ (F : Files). Agreed F d) a
    (m.sane_after.rooted d dir.file (subst (λ (F : Files). F d ≡ Some dir.file) (sym a) dir.is) dir.folder)

pair-now : (F : Files) (i g b : ℕ) (link : BackLink) → Linked (λ x. Names i g x) F i g b link → HasPair F i g b link
pair-now F i g b link l = record {
  file = l.file;
  is = l.is;
  generation = l.generation;
  at = l.at;
  pair = linked-pair (λ x. Names i g x) F i g b link l;
}

pub law-pair : LawPair
law-pair B H p e h at i g b link has undropped =
    let m = moment B H h p e at in
    let here : HasPair m.before.files i g b link = subst (λ (F : Files). HasPair F i g b link) (sym m.files) has in
    let l = pair-linked m.before.files i g b here.file link here.is here.generation here.at here.pair in
    subst (λ (F : Files). HasPair F i g b link) (after B H h p e at)
    (pair-now m.after.files i g b link (link-next m.before m.after e m.sane m.next i g b link l
    (subst (λ (F : Files). (of : ℕ) (name : List ℕ) → e.step ≡ step.Drop link.directory of name
    → found F link.directory name ≡ Some link.entry → ⊥)
    (sym m.files) undropped)))
