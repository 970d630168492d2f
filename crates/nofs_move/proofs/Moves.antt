-- A run of a move keeps the promise of a durable move.
use Rattle.std.proofs.Common.{◌≡◌, ◌≢◌, ℕ, suc, ◌+◌, ◌<◌, ◌≤◌, ◌⊎◌, inl, inr, Bool, true, false, eqb, List, length}
use Rattle.std.proofs.Common.{Some, refl, sym, ap, ◌∙◌, subst, arith, eqb-true, eq-eqb}
use Rattle.std.specs.Prelude.{slice_get}
use Rattle.std.proofs.lemmas.Bool.{cases_lt}
use Rattle.std.proofs.lemmas.Option.{slice_get_within}
use Rattle.nofs_model.specs.Geometry.{Image}
use Rattle.nofs_model.specs.Files.{Files}
use Rattle.nofs_history.specs.Machine.{place_for, given_by}
use Rattle.nofs_history.specs.Steps.{Made}
use Rattle.nofs_history.specs.declared.machine.history.Entry1.{Entry1}
use Rattle.nofs_history.specs.declared.machine.steps.Step.TheVariants as step
use Rattle.nofs_history.specs.declared.machine.replies.Reply.TheVariants as reply
use Rattle.nofs_history.specs.Callers.{done_of}
use Rattle.nofs_client.specs.declared.task.commands.Command.TheVariants as command
use Rattle.nofs_client.specs.declared.task.commands.Path.{Path}
use Rattle.nofs_client.specs.Task.Places.{last_name}
use Rattle.nofs_crashlaw.specs.Runs.Laws.{files_before}
use Rattle.nofs_crashlaw.specs.Paths.Moves.{KeepsEntry, named_entry, IsMove, HasDrop}
use Rattle.nofs_crashlaw.proofs.OnRuns.Chains.{SaneRun, moment-at}
use Rattle.nofs_crashlaw.proofs.OnRuns.Base.{sane-run}
use Rattle.nofs_crashlaw.proofs.OnPaths.Alone.{Places, look-places, link-place-is}
use Rattle.nofs_crashlaw.proofs.OnPaths.Moves.{law-move, law-moved}
use Rattle.nofs_move.specs.Own.{RunBy, place_in, end_in}
use Rattle.nofs_move.specs.Linked.{is_idle, DropMade, LinkedSteps}
use Rattle.nofs_move.specs.Laws.{OthersKeepNames, MoveAt, LawIsMove, LawOneName, LawNewName}
use Rattle.nofs_move.proofs.Own.{OwnEntry}
use Rattle.nofs_move.proofs.Replies.{idle-keeps}
use Rattle.nofs_move.proofs.Entries.{own, rises, by-end, between}

module _ (B : Image) (H : List Entry1) (r : SaneRun B H) (c : ℕ) (from to : Path) (made : List Made)
    (run : RunBy c (command.Move from to) made H)
    (s : LinkedSteps from to made) where
  -- the place of a step in the history
  abbrev spot : ℕ → ℕ
  spot k = place_in c (command.Move from to) made H run k

  the-look : OwnEntry c H (length run.front + s.look) (
    step.Look s.d s.dg (last_name from),
    reply.Found (record { inode = s.i; generation = s.g; kind = s.kind }),
  )
  the-look = own c (command.Move from to) made H run s.look _ s.looked

  the-flush : OwnEntry c H (length run.front + s.flush) (step.Flush s.i s.g, reply.Flushed)
  the-flush = own c (command.Move from to) made H run s.flush _ s.flushed

  the-link : OwnEntry c H (length run.front + s.link) (step.Link s.d2 s.dg2 (last_name to) s.i s.g, reply.Linked)
  the-link = own c (command.Move from to) made H run s.link _ s.linked

  -- the found entry, and where the new one goes
  old : Places (files_before B H (spot s.look)) s.d (last_name from)
  old =
      let m = moment-at B H r (spot s.look) the-look.entry the-look.there in
      subst (λ (F : Files). Places F s.d (last_name from)) m.files
      (look-places m.before m.after the-look.entry s.d s.dg s.i s.g (last_name from) s.kind m.next
      (ap (λ (x : Made). x.0) the-look.is)
      (ap (λ (x : Made). x.1) the-look.is))

  fresh : (p : ℕ) × (place_for (files_before B H (spot s.link)) s.d2 (last_name to) ≡ Some p)
  fresh =
      let m = moment-at B H r (spot s.link) the-link.entry the-link.there in
      let k = link-place-is m.before m.after the-link.entry s.d2 s.dg2 s.i s.g (last_name to) m.next
      (ap (λ (x : Made). x.0) the-link.is)
      (ap (λ (x : Made). x.1) the-link.is) in
      (k.0, subst (λ (F : Files). place_for F s.d2 (last_name to) ≡ Some k.0) m.files k.1)

  -- each other entry of the run gives nothing. `drop` is the place of Drop, or past the run's end
  own-idle : (drop : ℕ) → ((k : ℕ) (m : Made) → slice_get made k ≡ Some m → k ≡ s.drop → spot k ≡ drop)
      → (p : ℕ) (e : Entry1) → spot s.look < p
      → p ≤ end_in c (command.Move from to) made H run → p ≢ spot s.link → p ≢ drop → slice_get H p ≡ Some e
      → e.caller ≡ c → is_idle (done_of e) ≡ true
  own-idle drop is_drop p e low high nl nd there mine =
      let b = between c (command.Move from to) made H run s.look p _ e s.looked low high there mine in
      s.others b.number (done_of e) b.above b.there (λ h. nl (sym b.place ∙ ap spot h))
      (λ h. nd (sym b.place ∙ is_drop b.number (done_of e) b.there h))

  module _ (last : ℕ) (by : end_in c (command.Move from to) made H run ≤ last)
      (stay : OthersKeepNames B H c from to made run s last) where
    old-stays : (drop : ℕ) → ((k : ℕ) (m : Made) → slice_get made k ≡ Some m → k ≡ s.drop → spot k ≡ drop)
        → (DropMade made s.link s.second s.drop s.d s.dg (last_name from) s.i s.g → drop ≤ spot s.drop)
        → (p : ℕ) (e : Entry1) → spot s.look < p → p ≤ last → p ≢ spot s.link → p < drop → slice_get H p ≡ Some e
        → KeepsEntry (given_by (files_before B H p) e) s.d s.dg old.place old.entry
    old-stays drop is_drop late p e low high nl before there =
        go (eqb e.caller c) refl (cases_lt (end_in c (command.Move from to) made H run) p)
      where
        go : (b : Bool) → eqb e.caller c ≡ b → (end_in c (command.Move from to) made H run < p)
            ⊎ (p ≤ end_in c (command.Move from to) made H run)
            → KeepsEntry (given_by (files_before B H p) e) s.d s.dg old.place old.entry
        go false q w = stay.old old.place old.entry old.finds old.there p e low high
            (λ done. let l = late done in omega (arith, l, before)) there
            (inl (λ h. let z = eq-eqb e.caller c h in cc (q, z)))
        go true q (inl past) = stay.old old.place old.entry old.finds old.there p e low high
            (λ done. let l = late done in omega (arith, l, before)) there
            (inr past)
        go true q (inr within) = idle-keeps (files_before B H p) e
            (own-idle drop is_drop p e low within nl (λ h. omega (arith, h, before)) there (eqb-true e.caller c q)) s.d
            s.dg old.place old.entry

    look-link : spot s.look < spot s.link
    look-link = let f = s.flush_after in let l = s.link_after in
        rises c (command.Move from to) made H run s.look s.link _ s.linked (omega (arith, f, l))

    new-stays : (drop : ℕ) → ((k : ℕ) (m : Made) → slice_get made k ≡ Some m → k ≡ s.drop → spot k ≡ drop)
        → (p : ℕ) (e : Entry1) → spot s.link < p
        → p ≤ last → p ≢ drop → slice_get H p ≡ Some e
        → KeepsEntry (given_by (files_before B H p) e) s.d2 s.dg2 fresh.0 (named_entry s.i s.g (last_name to))
    new-stays drop is_drop p e low high nd there =
        go (eqb e.caller c) refl (cases_lt (end_in c (command.Move from to) made H run) p)
      where
        go : (b : Bool) → eqb e.caller c ≡ b → (end_in c (command.Move from to) made H run < p)
            ⊎ (p ≤ end_in c (command.Move from to) made H run)
            → KeepsEntry (given_by (files_before B H p) e) s.d2 s.dg2 fresh.0 (named_entry s.i s.g (last_name to))
        go false q w = stay.new fresh.0 fresh.1 p e low high there (inl (λ h. let z = eq-eqb e.caller c h in cc (q, z)))
        go true q (inl past) = stay.new fresh.0 fresh.1 p e low high there (inr past)
        go true q (inr within) =
            let first = look-link in
            idle-keeps (files_before B H p) e
            (own-idle drop is_drop p e (omega (arith, first, low)) within (λ h. omega (arith, h, low)) nd there
            (eqb-true e.caller c q)) s.d2 s.dg2 fresh.0 (named_entry s.i s.g (last_name to))

    -- the move, with the place of Drop
    abbrev move-with : (drop : ℕ) → ((k : ℕ) (m : Made) → slice_get made k ≡ Some m → k ≡ s.drop → spot k ≡ drop)
        → (DropMade made s.link s.second s.drop s.d s.dg (last_name from) s.i s.g → drop ≤ spot s.drop)
        → IsMove B H s.d s.dg (last_name from) s.d2 s.dg2 (last_name to) s.i s.g
    move-with drop is_drop late = record {
      look = spot s.look;
      flush = spot s.flush;
      link = spot s.link;
      drop = drop;
      last = last;
      flush_after = rises c (command.Move from to) made H run s.look s.flush _ s.flushed s.flush_after;
      link_after = rises c (command.Move from to) made H run s.flush s.link _ s.linked s.link_after;
      link_by_last = let e = by-end c (command.Move from to) made H run s.link _ s.linked in omega (arith, e, by);
      looked = record { entry = the-look.entry; there = the-look.there; is = ap (λ (x : Made). x.0) the-look.is };
      kind = s.kind;
      finds = ap (λ (x : Made). x.1) the-look.is;
      flushed =
          record { entry = the-flush.entry; there = the-flush.there; flushed = ap (λ (x : Made). x.1) the-flush.is };
      linking = record { entry = the-link.entry; there = the-link.there; is = ap (λ (x : Made). x.0) the-link.is };
      linked = ap (λ (x : Made). x.1) the-link.is;
      old_place = old.place;
      old_entry = old.entry;
      is_old = old.finds;
      is_entry = old.there;
      old_stays = old-stays drop is_drop late;
      new_place = fresh.0;
      is_new = fresh.1;
      new_stays = new-stays drop is_drop;
    }

    -- Drop has not come
    late-drop : s.drop ≡ length made → (k : ℕ) (m : Made) → slice_get made k ≡ Some m → k ≡ s.drop → spot k ≡ suc last
    late-drop none k m h e = absurd (let w = slice_get_within made k m h in omega (arith, w, e, none))

    its-drop : (k : ℕ) (m : Made) → slice_get made k ≡ Some m → k ≡ s.drop → spot k ≡ spot s.drop
    its-drop k m h e = ap spot e

    abbrev has-drop : DropMade made s.link s.second s.drop s.d s.dg (last_name from) s.i s.g
        → HasDrop H (spot s.link) (spot s.drop) s.d s.dg (last_name from)
    has-drop done =
        let second = own c (command.Move from to) made H run s.second _ done.flushed in
        let drop = own c (command.Move from to) made H run s.drop _ done.dropped in
        record {
          second = spot s.second;
          after_link = rises c (command.Move from to) made H run s.link s.second _ done.flushed done.after_link;
          before_drop = rises c (command.Move from to) made H run s.second s.drop _ done.dropped done.before_drop;
          flushed = record { entry = second.entry; there = second.there; flushed = ap (λ (x : Made). x.1) second.is };
          dropping = record { entry = drop.entry; there = drop.there; is = ap (λ (x : Made). x.0) drop.is };
        }

    pub move-at : MoveAt B H c from to made run s last
    move-at = go s.ends
      where
        go : (s.drop ≡ length made) ⊎ DropMade made s.link s.second s.drop s.d s.dg (last_name from) s.i s.g
            → MoveAt B H c from to made run s last
        go (inl none) = record {
          move = move-with (suc last) (late-drop none)
              (λ done. absurd (let w = slice_get_within made s.drop _ done.dropped in omega (arith, w, none)));
          look_is = refl;
          flush_is = refl;
          link_is =
              refl;
          last_is = refl;
          late = inl (omega arith);
        }
        go (inr done) = record {
          move = move-with (spot s.drop) its-drop (λ done. omega arith);
          look_is = refl;
          flush_is = refl;
          link_is = refl;
          last_is =
              refl;
          late = inr (has-drop done);
        }

pub law-is-move : LawIsMove
law-is-move B H c from to made history run s last by within stay =
    move-at B H.entries (sane-run B H history) c from to made run s last by stay

same-entry : (H : List Entry1) (p q : ℕ) (e h : Entry1) → p ≡ q → slice_get H p ≡ Some e
    → slice_get H q ≡ Some h → e ≡ h
same-entry H p q e h pq at there = let z : slice_get H p ≡ Some h = ap (slice_get H) pq ∙ there in cc (at, z)

pub law-one-name : LawOneName
law-one-name B H c from to made history run s last by stay flush e flush_at last_at m low high X allowed =
    let k = move-at B H.entries (sane-run B H history) c from to made run s last by stay in
    let f : k.move.flushed.entry ≡ flush =
    same-entry H.entries k.move.flush (place_in c (command.Move from to) made H.entries run s.flush)
    k.move.flushed.entry flush k.flush_is k.move.flushed.there flush_at in
    law-move B H s.d s.dg (last_name from) s.d2 s.dg2 (last_name to) s.i s.g history k.move k.late e
    (ap (slice_get H.entries) k.last_is ∙ last_at)
    m (let q = ap (λ (x : Entry1). x.to) f in omega (arith, q, low)) high X allowed

pub law-new-name : LawNewName
law-new-name B H c from to made history run s done last by stay flush e flush_at last_at m low high X allowed =
    let r = sane-run B H history in
    let drop = has-drop B H.entries r c from to made run s last by stay done in
    let second = own c (command.Move from to) made H.entries run s.second _ done.flushed in
    let f : second.entry ≡ flush = same-entry H.entries _ _ second.entry flush refl second.there flush_at in
    law-moved B H s.d s.dg (last_name from) s.d2 s.dg2 (last_name to) s.i s.g history
    (move-with B H.entries r c from to made run s last by stay
    (place_in c (command.Move from to) made H.entries run s.drop)
    (its-drop B H.entries r c from to made run s last by stay) (λ done. omega arith)) drop e last_at
    m (let q = ap (λ (x : Entry1). x.to) f in omega (arith, q, low)) high X allowed
