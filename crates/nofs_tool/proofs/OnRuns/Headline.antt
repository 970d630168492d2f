-- What is promised of one history: from the parts of a run to the headline.
use Rattle.std.proofs.Common.{◌≡◌, ◌≢◌, ℕ, Bool, true, false, List, Option, Some, None, Ok, IsTrue, refl, sym, subst}
use Rattle.std.proofs.Common.{arith}
use Rattle.std.specs.Prelude.{IfSome}
use Rattle.std.proofs.Math.Logic.{∥∥₁_elim, ∥∥₁_prop}
use Rattle.nofs_disk.specs.Disk.{DiskState}
use Rattle.nofs_super.specs.Format.{IsFormatted}
use Rattle.nofs_super.specs.Raise.{raised}
use Rattle.nofs_super.specs.declared.superblock.SuperBlock.{SuperBlock}
use Rattle.nofs_model.specs.Geometry.{Image, super_at}
use Rattle.nofs_io.specs.Calls.{SourceState}
use Rattle.nofs_io.specs.Texts.{IsWhole}
use Rattle.nofs_history.specs.HistoryState.{HistoryState}
use Rattle.nofs_history.specs.Steps.{Made}
use Rattle.nofs_history.specs.declared.machine.history.Entry1.{Entry1}
use Rattle.nofs_client.specs.declared.task.commands.Command.{Command}
use Rattle.nofs_script.specs.Session.{session_of}
use Rattle.nofs_state.specs.declared.books.maps.Books.{Books}
use Rattle.nofs_shared.specs.Mount.Invariant.{IsMount}
use Rattle.nofs_tool.specs.declared.begin.mounts.Numbers.{Numbers}
use Rattle.nofs_tool.specs.Begin.Mounts.{IsRaisedFrom}
use Rattle.nofs_tool.specs.Drill.{IsDrillFollowed}
use Rattle.nofs_tool.specs.Session.Serve.{FollowsScripts, IsFollowed, IsClosed}
use Rattle.nofs_history.specs.Faults.{has_fault}
use Rattle.nofs_tool.specs.Session.Whole.{Finished, IsMet, IsWholeScan, ShowsDisk}
use Rattle.nofs_history.specs.Next.{Run}
use Rattle.nofs_history.specs.World.{World, world_of}
use Rattle.nofs_tool.specs.Runs.Headline.{FollowsDrill, HeadlineOf, IsDrillHeadline, IsHeadline, IsHeadlineOf}
use Rattle.nofs_tool.specs.Runs.Tool.{WithSession, WithText}
use Rattle.nofs_tool.specs.Visits.Visit.{FollowsVisit, IsVisitFollowed}
use Rattle.nofs_tool.proofs.OnVisits.Visit.{whole-visit}
use Rattle.nofs_tool.proofs.OnSession.Whole.{flushed-end, whole-scan}
use Rattle.nofs_tool.proofs.OnDrill.Ends.{whole-drill}

-- the headline of a mount, from its state before it served and what it gave at its end
headline-any : (Follows : SuperBlock → Bool → List Entry1 → Type 0) (found before last : DiskState) (first status : ℕ)
    (k : Books) (text : Option (List ℕ))
    (ran : HistoryState)
    (h : Option HistoryState) → first ≡ 0 → h ≡ Some ran → ∥ IsMount found before first k ∥₁
    → IsRaisedFrom found k.at → ∥ Finished found last first ran ∥₁
    → (short : Bool) → (short ≡ true → text ≡ None) → Follows k.at short ran.entries
    → IfSome text (λ _. IsClosed last ran.entries) → (text ≡ None → status ≡ 7)
    → (status ≡ 0 → has_fault ran.entries ≡ false)
    → ((at : SuperBlock) (B : Image) (V : World) → Follows at false ran.entries
    → Run ran.start (world_of B 0) ran.entries V → has_fault ran.entries ≡ false
    → ShowsDisk at V last.now → IsWholeScan V last.now) → IfSome h (λ x. ∥ IsHeadlineOf Follows found last status x ∥₁)
headline-any Follows found before last first status k text ran h zero some stands read ends short early follows closed
    unsaid sound scan =
    subst (λ (o : Option HistoryState). IfSome o (λ x. ∥ IsHeadlineOf Follows found last status x ∥₁)) (sym some)
    (∥∥₁_elim stands ∥∥₁_prop
    (λ m. ∥∥₁_elim ends ∥∥₁_prop (λ e. ∣ made m (subst (λ (n : ℕ). Finished found last n ran) zero e) ∣₁)))
  where
    not-short : (b : Bool) → short ≡ b → status ≡ 0 → short ≡ false
    not-short true e done = absurd (let s = unsaid (early e) in omega (arith, done, s))
    not-short false e done = e

    -- there is a text but at status 7
    is-closed : (o : Option (List ℕ)) → text ≡ o → IfSome o (λ _. IsClosed last ran.entries)
        → status ≢ 7 → IsClosed last ran.entries
    is-closed None e c other = absurd (other (unsaid e))
    is-closed (Some t) e c other = c

    made : IsMount found before first k → Finished found last 0 ran → IsHeadlineOf Follows found last status ran
    made m e = record {
      at = k.at;
      read = read;
      numbers = λ q. (m.stands q).raised;
      short = short;
      early = λ s. unsaid (early s);
      follows = follows;
      ends = e.ends;
      whole = λ q done.
          let same : k.at ≡ raised (super_at found.now) = (m.stands q).raised in
          let whole : Follows k.at false ran.entries =
          subst (λ (b : Bool). Follows k.at b ran.entries) (not-short short refl done) follows in
          let c = e.ends.contents q in
          scan (raised (super_at found.now)) c.base c.world
          (subst (λ (a : SuperBlock). Follows a false ran.entries) same whole) c.run (sound done)
          (e.shows q (sound done));
      faultless = sound;
      flushed = λ other ok.
          flushed-end last ran.entries ran.start last.moment e.ends.stopped e.ends.forms
          (is-closed text refl closed other) ok;
    }

-- of a session
pub headline-of : (scripts : List (List Command)) (found before last : DiskState) (first status : ℕ) (k : Books)
    (text : Option (List ℕ)) (ran : HistoryState)
    (h : Option HistoryState) → first ≡ 0 → h ≡ Some ran → ∥ IsMount found before first k ∥₁
    → IsRaisedFrom found k.at → ∥ Finished found last first ran ∥₁
    → IsFollowed scripts k.at text ran.entries → IfSome text (λ _. IsClosed last ran.entries)
    → (text ≡ None → status ≡ 7)
    → (status ≡ 0 → has_fault ran.entries ≡ false) → IfSome h (λ x. ∥ IsHeadline scripts found last status x ∥₁)
headline-of scripts found before last first status k text ran h zero some stands read ends f closed unsaid sound =
    headline-any (FollowsScripts scripts) found before last first status k text ran h zero some stands read ends f.short
    f.early f.follows closed unsaid sound
    (λ at B V follows run ok shows.
    whole-scan scripts at follows.0 ran.entries ran.start 0 B V last.now follows.1 run ok shows)

-- of a drill
pub drill-of : (start steps : ℕ) (found before last : DiskState) (first status : ℕ) (k : Books) (text : Option (List ℕ))
    (ran : HistoryState)
    (h : Option HistoryState) → first ≡ 0 → h ≡ Some ran → ∥ IsMount found before first k ∥₁
    → IsRaisedFrom found k.at → ∥ Finished found last first ran ∥₁
    → IsDrillFollowed start steps k.at text ran.entries → IfSome text (λ _. IsClosed last ran.entries)
    → (text ≡ None → status ≡ 7)
    → (status ≡ 0 → has_fault ran.entries ≡ false)
    → IfSome h (λ x. ∥ IsHeadlineOf (FollowsDrill start steps) found last status x ∥₁)
drill-of start steps found before last first status k text ran h zero some stands read ends f closed unsaid sound =
    headline-any (FollowsDrill start steps) found before last first status k text ran h zero some stands
    read ends f.short
    f.early f.follows closed unsaid sound
    (λ at B V follows run ok shows.
    whole-drill start steps at ran.entries ran.start 0 B V last.now follows run ok shows)

-- of a visit
pub visit-of : (P : List Made → Type 0) (found before last : DiskState) (first status : ℕ) (k : Books)
    (text : Option (List ℕ)) (ran : HistoryState)
    (h : Option HistoryState) → first ≡ 0 → h ≡ Some ran → ∥ IsMount found before first k ∥₁
    → IsRaisedFrom found k.at → ∥ Finished found last first ran ∥₁
    → IsVisitFollowed P k.at text ran.entries → IfSome text (λ _. IsClosed last ran.entries)
    → (text ≡ None → status ≡ 7)
    → (status ≡ 0 → has_fault ran.entries ≡ false)
    → IfSome h (λ x. ∥ IsHeadlineOf (FollowsVisit P) found last status x ∥₁)
visit-of P found before last first status k text ran h zero some stands read ends f closed unsaid sound =
    headline-any (FollowsVisit P) found before last first status k text ran h zero some stands read ends f.short f.early
    f.follows closed unsaid sound
    (λ at B V follows run ok shows. whole-visit P at ran.entries ran.start 0 B V last.now follows run ok shows)

module _ {D : Type 0} (state : D → DiskState) where
  pub new-headline : (numbers : Numbers) (scripts : List (List Command)) (old found : D) (last : DiskState) (status : ℕ)
      (h : Option HistoryState)
      → IsFormatted numbers.blocks numbers.inodes (state old) (state found)
      → (IsTrue (state old).tells → IsMet (state found))
      → IfSome h (λ x. ∥ IsHeadline scripts (state found) last status x ∥₁)
      → IfSome h (HeadlineOf state (Some numbers) scripts old last status)
  new-headline numbers scripts old found last status None formatted met i = tt
  new-headline numbers scripts old found last status (Some h) formatted met i =
      record { found = found; formatted = formatted; met = met; headline = i }

  pub old-headline : (scripts : List (List Command)) (old found : D) (last : DiskState) (status : ℕ)
      (h : Option HistoryState) → found ≡ old
      → IfSome h (λ x. ∥ IsHeadline scripts (state found) last status x ∥₁)
      → IfSome h (HeadlineOf state None scripts old last status)
  old-headline scripts old found last status h is i =
      subst (λ (d : D). IfSome h (λ x. ∥ IsHeadline scripts (state d) last status x ∥₁)) is i

module _ {D : Type 0} (state : D → DiskState) where
  pub drill-headline : (start steps : ℕ) (old found : D) (last : DiskState) (status : ℕ) (h : Option HistoryState)
      → IsFormatted 4096 256 (state old) (state found) → (IsTrue (state old).tells → IsMet (state found))
      → IfSome h (λ x. ∥ IsHeadlineOf (FollowsDrill start steps) (state found) last status x ∥₁)
      → IfSome h (IsDrillHeadline state start steps old last status)
  drill-headline start steps old found last status None formatted met i = tt
  drill-headline start steps old found last status (Some h) formatted met i =
      record { found = found; formatted = formatted; met = met; headline = i }

-- without a history nothing is owed
pub none-owed : (P : HistoryState → Type 0) (h : Option HistoryState) → h ≡ None → IfSome h P
none-owed P h e = subst (λ (o : Option HistoryState). IfSome o P) (sym e) tt

-- of the session that a text spells, and of the text that was read
pub in-session : (P : List (List Command) → HistoryState → Type 0) (text : List ℕ) (session : List (List Command))
    (h : Option HistoryState)
    → session_of text ≡ Ok session → IfSome h (P session) → IfSome h (λ x. WithSession text (λ s. P s x))
in-session P text session None e i = tt
in-session P text session (Some h) e i = (session, e, i)

pub in-text : (P : List ℕ → HistoryState → Type 0) (old new : SourceState) (limit : ℕ) (text : List ℕ)
    (h : Option HistoryState)
    → IsWhole old new text limit → IfSome h (P text) → IfSome h (λ x. WithText old new limit (λ t. P t x))
in-text P old new limit text None whole i = tt
in-text P old new limit text (Some h) whole i = (text, whole, i)
