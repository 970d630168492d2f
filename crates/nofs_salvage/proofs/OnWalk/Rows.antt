-- Why one step of a walk is refused, and that it is answered right where no row refuses it.
use Rattle.std.proofs.Common.{◌≡◌, ℕ, inl, inr, ◌⊎◌, List, [], ◌∷◌, Bool, true, false, ◌&&◌, not, nat_le, ◌==◌}
use Rattle.std.proofs.Common.{if◌then◌else◌, Option, Some, None, is_some, refl, sym, ap, ◌∙◌, subst}
use Rattle.std.specs.Prelude.{IfSome, zero, suc}
use Rattle.std.specs.List.{list_any}
use Rattle.nofs_dirent.specs.declared.entry.Entry.{Entry}
use Rattle.nofs_dirent.specs.Names.{is_name}
use Rattle.nofs_dirent.specs.Entries.{entry_limit}
use Rattle.nofs_model.specs.Files.{FileState, Files, entry_at, is_pair, links_in_file, links_of}
use Rattle.nofs_history.specs.Search.{first_of, least_from}
use Rattle.nofs_history.specs.Machine.{found, is_lost, is_folder_at, value_of, is_paired, entry_has_name, generation_of}
use Rattle.nofs_history.specs.Machine.{same_link, link_to}
use Rattle.nofs_history.specs.World.{World}
use Rattle.nofs_history.specs.Refusals.{rows, row, may_write, slots}
use Rattle.nofs_history.specs.Answers.{reply_of, found_reply, found_entry, found_file, stat_file, stat_reply}
use Rattle.nofs_history.specs.Answers.{listed_reply, lines_in_slot}
use Rattle.nofs_history.specs.Next.{Next, AfterFault, ByRow, Done, ByRead, ByWrite}
use Rattle.nofs_history.specs.declared.machine.history.Claims.{Claims}
use Rattle.nofs_history.specs.declared.machine.history.Entry1.{Entry1}
use Rattle.nofs_history.specs.declared.machine.steps.Step.{Step}
use Rattle.nofs_history.specs.declared.machine.steps.Step.TheVariants as step
use Rattle.nofs_history.specs.declared.machine.replies.Reply.{Reply}
use Rattle.nofs_history.specs.declared.machine.replies.Reply.TheVariants as reply
use Rattle.nofs_history.specs.declared.machine.replies.Refusal.{Refusal}
use Rattle.nofs_history.specs.declared.machine.replies.Refusal.TheVariants as refusal
use Rattle.nofs_salvage.specs.Walk.Steps.{is_too_large}
use Rattle.nofs_salvage.specs.Walk.Answers.{IsAnswered}
use Rattle.nofs_salvage.specs.Walk.Refusals.{is_there, LacksRoot, MayRefuse, IsFair, MayAsk, LeadsTo}
use Rattle.nofs_salvage.proofs.OnWalk.Answers.{clash, no-value}

-- The cause of a refusal

-- a read failed, the mount has stopped, a row came, or the step was answered so
pub data Cause (U V : World) (s : Step) (why : Refusal) : Type 0 where
  Fault : why ≡ refusal.ReadFault → Cause U V s why
  Halt : why ≡ refusal.Stopped → Cause U V s why
  Row : first_of (rows U V s) ≡ Some why → Cause U V s why
  Answer : (claims : Claims) → first_of (rows U V s) ≡ None → reply.Refused why ≡ reply_of U s claims → Cause U V s why

refused-is : (r : Reply) (why other : Refusal) → r ≡ reply.Refused other → r ≡ reply.Refused why → why ≡ other
refused-is r why other a b = cc (a, b)

cause : (U V : World) (e : Entry1) (s : Step) (why : Refusal)
    → may_write s ≡ false → e.step ≡ s → e.reply ≡ reply.Refused why → Next U e V → Cause U V s why
cause U V e s why reads at is (AfterFault x r c same) = Halt (refused-is e.reply why refusal.Stopped r is)
cause U V e s why reads at is (ByRow other x f (inl r) c k st l) =
    Row (subst (λ (t : Step). first_of (rows U V t) ≡ Some other) at f
    ∙ ap Some (sym (refused-is e.reply why other r is)))
cause U V e s why reads at is (ByRow other x f (inr (r, late)) c k st l) =
    Fault (refused-is e.reply why refusal.ReadFault r is)
cause U V e s why reads at is (Done x f r c fs hs se vs l) =
    Answer e.claims (subst (λ (t : Step). first_of (rows U V t) ≡ None) at f)
    (sym is ∙ subst (λ (t : Step). e.reply ≡ reply_of U t e.claims) at r)
cause U V e s why reads at is (ByRead x f r c k st l) = Fault (refused-is e.reply why refusal.ReadFault r is)
cause U V e s why reads at is (ByWrite x f w r c k st l) =
    absurd (clash (may_write s) (subst (λ (t : Step). may_write t ≡ true) at w) reads)

-- The rows

module _ (F : Files) where
  fault : (why : Refusal) → why ≡ refusal.ReadFault → MayRefuse F why
  fault why e = subst (λ (w : Refusal). MayRefuse F w) (sym e) tt

  halt : (why : Refusal) → why ≡ refusal.Stopped → MayRefuse F why
  halt why e = subst (λ (w : Refusal). MayRefuse F w) (sym e) tt

  lacks : (why : Refusal) → refusal.Stale ≡ why → LacksRoot F → MayRefuse F why
  lacks why e h = subst (λ (w : Refusal). MayRefuse F w) e h

  stat-row : (t : Bool) (why : Refusal) → (t ≡ false → LacksRoot F)
      → first_of (row (not t) refusal.Stale ∷ []) ≡ Some why → MayRefuse F why
  stat-row true why lack h = absurd (cc h)
  stat-row false why lack h = let is : refusal.Stale ≡ why = cc h in lacks why is (lack refl)

  list-row : (t v : Bool) (why : Refusal) → (t ≡ false → LacksRoot F) → (t ≡ true → v ≡ true)
      → first_of (row (not t) refusal.Stale ∷ row (not v) refusal.NotDirectory ∷ []) ≡ Some why → MayRefuse F why
  list-row true true why lack kind h = absurd (cc h)
  list-row true false why lack kind h = absurd (cc (kind refl))
  list-row false v why lack kind h = let is : refusal.Stale ≡ why = cc h in lacks why is (lack refl)

  get-row : (z t v : Bool) (why : Refusal) → (t ≡ false → LacksRoot F) → (t ≡ true → v ≡ false)
      → first_of (row z refusal.TooLarge ∷ row (not t) refusal.Stale ∷ row v refusal.IsDirectory ∷ []) ≡ Some why
      → (refusal.TooLarge ≡ why) ⊎ MayRefuse F why
  get-row true t v why lack kind h = inl (cc h)
  get-row false true true why lack kind h = absurd (cc (kind refl))
  get-row false true false why lack kind h = absurd (cc h)
  get-row false false v why lack kind h = let is : refusal.Stale ≡ why = cc h in inr (lacks why is (lack refl))

  look-row : (n t v w : Bool) (x : Option Refusal) (why : Refusal) → n ≡ true → w ≡ true → (t ≡ false → LacksRoot F)
      → (t ≡ true → v ≡ true)
      → first_of (row (not n) refusal.BadName ∷ row (not t) refusal.Stale ∷ row (not v) refusal.NotDirectory
      ∷ (if w then None else x) ∷ []) ≡ Some why
      → MayRefuse F why
  look-row true true true true x why name finds lack kind h = absurd (cc h)
  look-row true true true false x why name finds lack kind h = absurd (cc finds)
  look-row true true false w x why name finds lack kind h = absurd (cc (kind refl))
  look-row true false v w x why name finds lack kind h = let is : refusal.Stale ≡ why = cc h in lacks why is (lack refl)
  look-row false t v w x why name finds lack kind h = absurd (cc name)

  pub get-right : (why : Refusal) → (refusal.TooLarge ≡ why) ⊎ MayRefuse F why
      → IfSome (if is_too_large why then None else Some why) (MayRefuse F)
  get-right why (inl large) =
      subst (λ (w : Refusal). IfSome (if is_too_large w then None else Some w) (MayRefuse F)) large tt
  get-right why (inr may) = go (is_too_large why)
    where
      go : (b : Bool) → IfSome (if b then None else Some why) (MayRefuse F)
      go true = tt
      go false = may

-- The answers where no row comes

pub there-none : (t : Bool) (rest : List (Option Refusal))
    → first_of (row (not t) refusal.Stale ∷ rest) ≡ None → t ≡ true
there-none true rest h = refl
there-none false rest h = absurd (cc h)

no-stat : (F : Files) (i g : ℕ) (why : Refusal) → is_there F i g ≡ true → reply.Refused why ≡ stat_reply F i → ⊥
no-stat F i g why there h = go (F i) there h
  where
    go : (o : Option FileState) → (is_some o && ((elim o [ None ↦ 0 | Some f ↦ f.generation ]) == g)) ≡ true
        → reply.Refused why ≡ stat_file F i o → ⊥
    go None t r = cc t
    go (Some f) t r = cc r

no-list : (F : Files) (d : ℕ) (o : Option ℕ) (why : Refusal) → reply.Refused why ≡ listed_reply F d o → ⊥
no-list F d None why h = cc h
no-list F d (Some k) why h = go (is_lost (value_of F d k)) h
  where
    go : (b : Bool) → reply.Refused why ≡ (if b then reply.LostNames k else reply.Names k (lines_in_slot F d k)) → ⊥
    go true r = cc r
    go false r = cc r

-- what is found passes the test
least-holds : (test : ℕ → Bool) (at n l : ℕ) → least_from test at n ≡ Some l → test l ≡ true
unfolding least_from
least-holds test at zero l h = absurd (cc h)
least-holds test at (suc n) l h = go (test at) refl h (least-holds test (suc at) n l)
  where
    go : (b : Bool) → test at ≡ b → (if b then Some at else least_from test (suc at) n) ≡ Some l
        → (least_from test (suc at) n ≡ Some l → test l ≡ true) → test l ≡ true
    go true t s more = let same : at ≡ l = cc s in ap test (sym same) ∙ t
    go false t s more = more s

right-of : (a b : Bool) → (a && b) ≡ true → b ≡ true
right-of true b h = h
right-of false b h = absurd (cc h)

-- a name finds an entry that is the half of a pair
found-paired : (F : Files) (d : ℕ) (name : List ℕ) (e : ℕ) → found F d name ≡ Some e → is_paired F d e ≡ true
unfolding found
found-paired F d name e h = right-of (entry_has_name F d name e) (is_paired F d e)
    (least-holds (λ e. entry_has_name F d name e && is_paired F d e) 0 entry_limit e h)

no-file : (F : Files) (i : ℕ) (why : Refusal) (test : _ → Bool) (o : Option FileState)
    → list_any test (links_in_file o) ≡ true
    → reply.Refused why ≡ found_file i o → ⊥
no-file F i why test None h r = cc h
no-file F i why test (Some f) h r = cc r

no-entry : (F : Files) (d e : ℕ) (why : Refusal)
    → is_paired F d e ≡ true → reply.Refused why ≡ found_entry F (entry_at F d e) → ⊥
no-entry F d e why pair h = go (entry_at F d e) pair h
  where
    go : (o : Option Entry)
        → elim o [
          | None ↦ false
          | Some entry ↦ list_any (λ link. same_link link (link_to d e (generation_of F d))
              && is_pair F entry.inode link) (links_of F entry.inode)
        ] ≡ true
        → reply.Refused why ≡ found_entry F o → ⊥
    go None p r = cc p
    go (Some entry) p r = no-file F entry.inode why _ (F entry.inode) p r

no-look : (F : Files) (d : ℕ) (name : List ℕ) (o : Option ℕ) (why : Refusal) → found F d name ≡ o → is_some o ≡ true
    → reply.Refused why ≡ found_reply F d o → ⊥
no-look F d name None why is finds h = cc finds
no-look F d name (Some e) why is finds h = no-entry F d e why (found-paired F d name e is) h

-- One step

module _ (U V : World) (i g : ℕ) (why : Refusal) where
  pub stat-cause : MayAsk U.files true (record { inode = i; generation = g })
      ⊎ MayAsk U.files false (record { inode = i; generation = g })
      → Cause U V (step.Stat i g) why → MayRefuse U.files why
  stat-cause ask (Fault e) = fault U.files why e
  stat-cause ask (Halt e) = halt U.files why e
  stat-cause (inl ask) (Row h) = stat-row U.files (is_there U.files i g) why ask.lacking h
  stat-cause (inr ask) (Row h) = stat-row U.files (is_there U.files i g) why ask.lacking h
  stat-cause ask (Answer claims none h) = absurd (no-stat U.files i g why (there-none (is_there U.files i g) [] none) h)

  pub list-cause : (k : ℕ) → MayAsk U.files true (record { inode = i; generation = g })
      → Cause U V (step.List i g k) why → MayRefuse U.files why
  list-cause k ask (Fault e) = fault U.files why e
  list-cause k ask (Halt e) = halt U.files why e
  list-cause k ask (Row h) = list-row U.files (is_there U.files i g) (is_folder_at U.files i) why ask.lacking ask.kind h
  list-cause k ask (Answer claims none h) = absurd (no-list U.files i _ why h)

  pub get-cause : (k : ℕ) → MayAsk U.files false (record { inode = i; generation = g }) → Cause U V (step.Get i g k) why
      → (refusal.TooLarge ≡ why) ⊎ MayRefuse U.files why
  get-cause k ask (Fault e) = inr (fault U.files why e)
  get-cause k ask (Halt e) = inr (halt U.files why e)
  get-cause k ask (Row h) =
      get-row U.files (nat_le (slots U) k) (is_there U.files i g) (is_folder_at U.files i) why ask.lacking ask.kind h
  get-cause k ask (Answer claims none h) = absurd (no-value why (value_of U.files i k) h)

  pub look-cause : (name : List ℕ) (folder : Bool) → MayAsk U.files true (record { inode = i; generation = g })
      → LeadsTo U.files i name folder
      → Cause U V (step.Look i g name) why → MayRefuse U.files why
  look-cause name folder ask leads (Fault e) = fault U.files why e
  look-cause name folder ask leads (Halt e) = halt U.files why e
  look-cause name folder ask leads (Row h) =
      look-row U.files (is_name name) (is_there U.files i g) (is_folder_at U.files i)
      (is_some (found U.files i name)) _ why leads.name_ok leads.finds ask.lacking ask.kind h
  look-cause name folder ask leads (Answer claims none h) =
      absurd (no-look U.files i name (found U.files i name) why refl leads.finds h)

-- a step that was answered in W
pub answered-right : (W : World) (s : Step) (r : Reply) → may_write s ≡ false
    → ((U V : World) (why : Refusal) → U.files ≡ W.files → Cause U V s why → IsFair U.files (s, reply.Refused why))
    → IsAnswered W (s, r) → IsFair W.files (s, r)
answered-right W s (reply.Refused why) reads right a =
    subst (λ (F : Files). IsFair F (s, reply.Refused why)) a.files
    (right a.before a.after why a.files (cause a.before a.after a.entry s why reads a.asked a.replied a.next))
answered-right W s _ reads right a = tt
