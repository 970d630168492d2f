-- Names that nobody takes away stay.
use Rattle.std.proofs.Common.{◌≡◌, ◌≢◌, ℕ, zero, suc, ◌+◌, ◌<◌, ◌≤◌, ◌⊎◌, inl, inr, Bool, true, false, eqb, List, []}
use Rattle.std.proofs.Common.{◌∷◌, length, Some, is_some, refl, sym, ap, ◌∙◌, subst, arith, eqb-true, eq-eqb}
use Rattle.std.specs.Prelude.{slice_get}
use Rattle.std.proofs.lemmas.Bool.{cases_lt}
use Rattle.std.proofs.lemmas.Option.{slice_get_within}
use Rattle.nofs_dirent.specs.declared.entry.Entry.{Entry}
use Rattle.nofs_model.specs.Geometry.{Image}
use Rattle.nofs_model.specs.Files.{Files, entry_at}
use Rattle.nofs_history.specs.Machine.{found, place_for, link_to, given_by}
use Rattle.nofs_history.specs.Since.{agreed_files}
use Rattle.nofs_history.specs.Steps.{Made}
use Rattle.nofs_history.specs.World.{World}
use Rattle.nofs_history.specs.Next.{Next}
use Rattle.nofs_history.specs.declared.machine.history.Entry1.{Entry1}
use Rattle.nofs_history.specs.declared.machine.steps.Step.{Step}
use Rattle.nofs_history.specs.declared.machine.steps.Step.TheVariants as step
use Rattle.nofs_history.specs.declared.machine.replies.Reply.TheVariants as reply
use Rattle.nofs_history.specs.Callers.{done_of}
use Rattle.nofs_client.specs.declared.task.commands.Command.TheVariants as command
use Rattle.nofs_client.specs.declared.task.commands.Path.{Path}
use Rattle.nofs_client.specs.Task.Places.{last_name}
use Rattle.nofs_crashlaw.specs.Runs.Laws.{files_before}
use Rattle.nofs_crashlaw.specs.Paths.Moves.{KeepsEntry, named_entry}
use Rattle.nofs_crashlaw.proofs.OnRuns.Entries.{files-after}
use Rattle.nofs_crashlaw.proofs.OnRuns.Links.{IsSane, Linked, linked-range, linked-paired}
use Rattle.nofs_crashlaw.proofs.OnRuns.Chains.{Guard, SaneRun, moment-at, linked-along}
use Rattle.nofs_crashlaw.proofs.OnRuns.Base.{sane-run}
use Rattle.nofs_crashlaw.proofs.OnPaths.Alone.{Places, look-places, link-place-is}
use Rattle.nofs_crashlaw.proofs.OnPaths.Looks.{Only, plain-guard, keeping-guard, found-name, name-finds, look-linked}
use Rattle.nofs_crashlaw.proofs.OnPaths.Links.{link-linked}
use Rattle.nofs_move.specs.Own.{RunBy, place_in, end_in, own_place}
use Rattle.nofs_move.specs.Linked.{is_idle, DropMade, LinkedSteps}
use Rattle.nofs_move.specs.Laws.{OthersKeepNames, LeavesName, NamesLeft, LawNamesLeft}
use Rattle.nofs_move.proofs.Own.{OwnEntry}
use Rattle.nofs_move.proofs.Replies.{idle-keeps}
use Rattle.nofs_move.proofs.Entries.{own, rises, by-end, Between, between}

-- An entry whose step leaves a name keeps its link

leaves-rename : (s : Step) (d of : ℕ) (old new : List ℕ) (name : List ℕ) → LeavesName s d name
    → s ≡ step.Rename d of old new → old ≡ name → ⊥
leaves-rename s d of old new name leaves e same = (subst (λ (x : Step). LeavesName x d name) e leaves) refl same

leaves-drop : (s : Step) (d of : ℕ) (old : List ℕ) (name : List ℕ) → LeavesName s d name → s ≡ step.Drop d of old
    → old ≡ name → ⊥
leaves-drop s d of old name leaves e same = (subst (λ (x : Step). LeavesName x d name) e leaves) refl same

leaving-guard : (W V : World) (e : Entry1) (d dg i g b place : ℕ) (name : List ℕ) → IsSane W → Next W e V
    → Linked (λ x. Only (named_entry i g name) x) W.files i g b (link_to d place dg) → LeavesName e.step d name
    → Guard (λ x. Only (named_entry i g name) x) W e (link_to d place dg)
leaving-guard W V e d dg i g b place name sane next l leaves =
    plain-guard (named_entry i g name) W V e i g b (link_to d place dg) sane next l
    (λ of old new es ef. leaves-rename e.step d of old new name leaves es
    (sym (found-name W.files d old place l.entry ef l.there) ∙ ap (λ (x : Entry). x.name) l.passes))
    (λ of old es ef. leaves-drop e.step d of old name leaves es
    (sym (found-name W.files d old place l.entry ef l.there) ∙ ap (λ (x : Entry). x.name) l.passes))

-- and so a cell that it gives has the entry
guard-keeps : (W : World) (e : Entry1) (d dg i g place : ℕ) (name : List ℕ)
    → Guard (λ x. Only (named_entry i g name) x) W e (link_to d place dg)
    → KeepsEntry (given_by W.files e) d dg place (named_entry i g name)
guard-keeps W e d dg i g place name guard v h = let k = guard.keeps v h in k.1 ∙ ap Some k.2

module _ (B : Image) (H : List Entry1) (r : SaneRun B H) where
  reach : (n : ℕ) (e : Entry1) → slice_get H n ≡ Some e → (q : ℕ) → q < suc n → (x : Entry1) × (slice_get H q ≡ Some x)
  reach n e at q lt = get H q (let w = slice_get_within H n e at in omega (arith, w, lt))
    where
      get : (es : List Entry1) (q : ℕ) → q < length es → (x : Entry1) × (slice_get es q ≡ Some x)
      get [] q lt = absurd (omega (arith, lt))
      get (x ∷ es) zero lt = (x, refl)
      get (x ∷ es) (suc q) lt = get es q (omega (arith, lt))

  -- a link that each entry leaves, or keeps, is there up to an entry; what that entry gives keeps it too, where it
  -- leaves the name
  module _ (s p : ℕ) (e : Entry1) (at : slice_get H p ≡ Some e) (low : s ≤ p) (d dg i g b place : ℕ) (name : List ℕ)
      (l : Linked (λ x. Only (named_entry i g name) x) (files_before B H s) i g b (link_to d place dg))
      (each : (q : ℕ) (x : Entry1) → s ≤ q → q < p → slice_get H q ≡ Some x
      → LeavesName x.step d name ⊎ KeepsEntry (given_by (files_before B H q) x) d dg place (named_entry i g name)) where
    only : (x : Entry) → Only (named_entry i g name) x → (x.inode ≡ i) × (x.generation ≡ g)
    only x e = (ap (λ (y : Entry). y.inode) e, ap (λ (y : Entry). y.generation) e)

    guarded : (q : ℕ) (x : Entry1) → s ≤ q → q < p → slice_get H q ≡ Some x
        → (W V : World) → W.files ≡ files_before B H q → IsSane W → Next W x V
        → Linked (λ x. Only (named_entry i g name) x) W.files i g b (link_to d place dg)
        → Guard (λ x. Only (named_entry i g name) x) W x (link_to d place dg)
    guarded q x below lt there W V files sane next here = go (each q x below lt there)
      where
        go : LeavesName x.step d name ⊎ KeepsEntry (given_by (files_before B H q) x) d dg place (named_entry i g name)
            → Guard (λ x. Only (named_entry i g name) x) W x (link_to d place dg)
        go (inl leaves) = leaving-guard W V x d dg i g b place name sane next here leaves
        go (inr keeps) =
            keeping-guard (named_entry i g name) W V x i g b (link_to d place dg) sane here
            (subst (λ (F : Files). KeepsEntry (given_by F x) d dg place (named_entry i g name)) (sym files) keeps)

    pub stays : Linked (λ x. Only (named_entry i g name) x) (files_before B H p) i g b (link_to d place dg)
    stays =
        linked-along B H r s p (λ q lt. reach p e at q (omega (arith, lt))) (λ x. Only (named_entry i g name) x) i g b
        (link_to d place dg)
        only l guarded p low (omega arith)

    pub keeps-it : LeavesName e.step d name
        → KeepsEntry (given_by (files_before B H p) e) d dg place (named_entry i g name)
    keeps-it leaves =
        let m = moment-at B H r p e at in
        let here : Linked (λ x. Only (named_entry i g name) x) m.before.files i g b (link_to d place dg) =
        subst (λ (F : Files). Linked (λ x. Only (named_entry i g name) x) F i g b (link_to d place dg))
        (sym m.files) stays in
        subst (λ (F : Files). KeepsEntry (given_by F e) d dg place (named_entry i g name)) m.files
        (guard-keeps m.before e d dg i g place name
        (leaving-guard m.before m.after e d dg i g b place name m.sane m.next here leaves))

same-entry : (H : List Entry1) (p q : ℕ) (e h : Entry1) → p ≡ q → slice_get H p ≡ Some e
    → slice_get H q ≡ Some h → e ≡ h
same-entry H p q e h pq at there = let z : slice_get H p ≡ Some h = ap (slice_get H) pq ∙ there in cc (at, z)

module _ (B : Image) (H : List Entry1) (r : SaneRun B H) (c : ℕ) (from to : Path) (made : List Made)
    (run : RunBy c (command.Move from to) made H)
    (s : LinkedSteps from to made) (last : ℕ)
    (by : end_in c (command.Move from to) made H run ≤ last) (left : NamesLeft H c from to made run s last) where
  abbrev spot : ℕ → ℕ
  spot k = place_in c (command.Move from to) made H run k

  abbrev Done : Type 0
  Done = DropMade made s.link s.second s.drop s.d s.dg (last_name from) s.i s.g

  the-look : OwnEntry c H (length run.front + s.look) (
    step.Look s.d s.dg (last_name from),
    reply.Found (record { inode = s.i; generation = s.g; kind = s.kind }),
  )
  the-look = own c (command.Move from to) made H run s.look _ s.looked

  the-link : OwnEntry c H (length run.front + s.link) (step.Link s.d2 s.dg2 (last_name to) s.i s.g, reply.Linked)
  the-link = own c (command.Move from to) made H run s.link _ s.linked

  look-link : spot s.look < spot s.link
  look-link = let f = s.flush_after in let l = s.link_after in
      rises c (command.Move from to) made H run s.look s.link _ s.linked (omega (arith, f, l))

  link-last : spot s.link ≤ last
  link-last = let e = by-end c (command.Move from to) made H run s.link _ s.linked in omega (arith, e, by)

  link-drop : Done → spot s.link < spot s.drop
  link-drop done = let a = done.after_link in let b = done.before_drop in
      rises c (command.Move from to) made H run s.link s.drop _ done.dropped
      (omega (arith, a, b))

  -- an entry of the caller that takes no name
  own-leaves : (k : ℕ) (m : Made) (its : OwnEntry c H k m) (x : Entry1) (q d : ℕ) (name : List ℕ)
      → LeavesName m.0 d name → q ≡ own_place c H k → slice_get H q ≡ Some x → LeavesName x.step d name
  own-leaves k m its x q d name leaves e there =
      let same : x ≡ its.entry = same-entry H q (own_place c H k) x its.entry e there its.there in
      subst (λ (t : Step). LeavesName t d name)
      (sym (ap (λ (y : Entry1). y.step) same ∙ ap (λ (y : Made). y.0) its.is)) leaves

  -- Look and Link take no name
  look-leaves : (x : Entry1) (q d : ℕ) (name : List ℕ) → q ≡ spot s.look → slice_get H q ≡ Some x
      → LeavesName x.step d name
  look-leaves x q d name e there = own-leaves (length run.front + s.look) _ the-look x q d name tt e there

  link-leaves : (x : Entry1) (q d : ℕ) (name : List ℕ) → q ≡ spot s.link → slice_get H q ≡ Some x
      → LeavesName x.step d name
  link-leaves x q d name e there = own-leaves (length run.front + s.link) _ the-link x q d name tt e there

  -- each entry before Drop leaves the old name, or what it gives keeps the entry
  module _ (place : ℕ) where
    each-old : (p : ℕ) → p ≤ suc last → (Done → p ≤ spot s.drop)
        → (q : ℕ) (x : Entry1) → spot s.look ≤ q → q < p → slice_get H q ≡ Some x
        → LeavesName x.step s.d (last_name from)
        ⊎ KeepsEntry (given_by (files_before B H q) x) s.d s.dg place (named_entry s.i s.g (last_name from))
    each-old p high undropped q x low lt there =
        go (eqb q (spot s.look)) refl (eqb q (spot s.link)) refl (eqb x.caller c) refl
        (cases_lt (end_in c (command.Move from to) made H run) q)
      where
        past : q ≢ spot s.look → (x.caller ≢ c) ⊎ (end_in c (command.Move from to) made H run < q)
            → LeavesName x.step s.d (last_name from)
        past apart who = left.old q x (omega (arith, low, apart)) (omega (arith, lt, high))
            (λ done. let u = undropped done in omega (arith, u, lt)) there who

        idle : q ≢ spot s.look → q ≢ spot s.link → x.caller ≡ c → q ≤ end_in c (command.Move from to) made H run
            → is_idle (done_of x) ≡ true
        idle apart unlinked mine within = at (between c (command.Move from to) made H run s.look q _ x s.looked
            (omega (arith, low, apart)) within there mine)
          where
            unlike : (k : ℕ) → slice_get made k ≡ Some (done_of x)
                → spot k ≡ q → s.drop ≡ length made ⊎ Done → k ≢ s.drop
            unlike k h e (inl none) same = let w = slice_get_within made k (done_of x) h in omega (arith, w, same, none)
            unlike k h e (inr done) same = let u = undropped done in let z : spot s.drop ≡ q = ap spot (sym same) ∙ e in
                omega (arith, z, u, lt)

            at : Between c (command.Move from to) made H run s.look q x → is_idle (done_of x) ≡ true
            at b = s.others b.number (done_of x) b.above b.there (λ h. unlinked (sym b.place ∙ ap spot h))
                (unlike b.number b.there b.place s.ends)

        go : (a : Bool) → eqb q (spot s.look) ≡ a → (b : Bool) → eqb q (spot s.link) ≡ b → (d : Bool)
            → eqb x.caller c ≡ d
            → (end_in c (command.Move from to) made H run < q) ⊎ (q ≤ end_in c (command.Move from to) made H run)
            → LeavesName x.step s.d (last_name from)
            ⊎ KeepsEntry (given_by (files_before B H q) x) s.d s.dg place (named_entry s.i s.g (last_name from))
        go true qa b qb d qd w = inl (look-leaves x q s.d (last_name from) (eqb-true q (spot s.look) qa) there)
        go false qa true qb d qd w = inl (link-leaves x q s.d (last_name from) (eqb-true q (spot s.link) qb) there)
        go false qa false qb false qd w = inl (past (λ h. let z = eq-eqb q (spot s.look) h in cc (qa, z))
            (inl (λ h. let z = eq-eqb x.caller c h in cc (qd, z))))
        go false qa false qb true qd (inl beyond) =
            inl (past (λ h. let z = eq-eqb q (spot s.look) h in cc (qa, z)) (inr beyond))
        go false qa false qb true qd (inr within) =
            inr (idle-keeps (files_before B H q) x
            (idle (λ h. let z = eq-eqb q (spot s.look) h in cc (qa, z)) (λ h. let z =
            eq-eqb q (spot s.link) h in cc (qb, z)) (eqb-true x.caller c qd) within) s.d s.dg place
            (named_entry s.i s.g (last_name from)))

  -- the old name, before Look
  record Old (place : ℕ) (entry : Entry) : Type 0 where
    b : ℕ
    linked : Linked (λ x. Only (named_entry s.i s.g (last_name from)) x) (files_before B H (spot s.look)) s.i s.g b
        (link_to s.d place s.dg)
    named : entry ≡ named_entry s.i s.g (last_name from)

  old-at : (place : ℕ) (entry : Entry) → found (files_before B H (spot s.look)) s.d (last_name from) ≡ Some place
      → entry_at (files_before B H (spot s.look)) s.d place ≡ Some entry → Old place entry
  old-at place entry ef ex =
      let m = moment-at B H r (spot s.look) the-look.entry the-look.there in
      let k = look-linked m.before m.after the-look.entry s.d s.dg s.i s.g place (last_name from) s.kind entry m.next
      (ap (λ (x : Made). x.0) the-look.is)
      (ap (λ (x : Made). x.1) the-look.is)
      (subst (λ (F : Files). found F s.d (last_name from) ≡ Some place) (sym m.files) ef)
      (subst (λ (F : Files). entry_at F s.d place ≡ Some entry) (sym m.files) ex) in
      record {
        b = k.0;
        linked = subst (λ (F : Files). Linked (λ x. Only (named_entry s.i s.g (last_name from)) x) F s.i s.g k.0
            (link_to s.d place s.dg))
            m.files k.1;
        named = k.2;
      }

  old-stays : (place : ℕ) (entry : Entry) → found (files_before B H (spot s.look)) s.d (last_name from) ≡ Some place
      → entry_at (files_before B H (spot s.look)) s.d place ≡ Some entry
      → (p : ℕ) (e : Entry1) → spot s.look < p → p ≤ last → (Done → p < spot s.drop) → slice_get H p ≡ Some e
      → (e.caller ≢ c) ⊎ (end_in c (command.Move from to) made H run < p)
      → KeepsEntry (given_by (files_before B H p) e) s.d s.dg place entry
  old-stays place entry ef ex p e low high undropped there who =
      let o = old-at place entry ef ex in
      subst (λ (x : Entry). KeepsEntry (given_by (files_before B H p) e) s.d s.dg place x) (sym o.named)
      (keeps-it B H r (spot s.look) p e there (omega (arith, low)) s.d s.dg s.i s.g o.b place (last_name from) o.linked
      (each-old place p (omega (arith, high)) (λ done. let u = undropped done in omega (arith, u)))
      (left.old p e low high undropped there who))

  -- the two names differ, or their directories do: Link was accepted while the old name stood
  differ : s.d ≡ s.d2 → last_name from ≡ last_name to → ⊥
  differ qd qn =
      let look = moment-at B H r (spot s.look) the-look.entry the-look.there in
      let p = subst (λ (F : Files). Places F s.d (last_name from)) look.files
      (look-places look.before look.after the-look.entry s.d s.dg s.i s.g (last_name from) s.kind look.next
      (ap (λ (x : Made). x.0) the-look.is)
      (ap (λ (x : Made). x.1) the-look.is)) in
      let o = old-at p.place p.entry p.finds p.there in
      let first = look-link in
      let high = link-last in
      let l = stays B H r (spot s.look) (spot s.link) the-link.entry the-link.there
      (omega (arith, first)) s.d s.dg s.i s.g o.b p.place (last_name from)
      o.linked
      (each-old p.place (spot s.link) (omega (arith, high)) (λ done. let u = link-drop done in omega (arith, u))) in
      let E : Entry → Type 0 = λ x. Only (named_entry s.i s.g (last_name from)) x in
      let some = name-finds (files_before B H (spot s.link)) s.d (last_name from) p.place l.entry l.there
      (ap (λ (x : Entry). x.name) l.passes)
      (linked-paired E (files_before B H (spot s.link)) s.i s.g o.b (link_to s.d p.place s.dg) l)
      (linked-range E (files_before B H (spot s.link)) s.i s.g o.b (link_to s.d p.place s.dg) l) in
      let m = moment-at B H r (spot s.link) the-link.entry the-link.there in
      let n = link-place-is m.before m.after the-link.entry s.d2 s.dg2 s.i s.g (last_name to) m.next
      (ap (λ (x : Made). x.0) the-link.is)
      (ap (λ (x : Made). x.1) the-link.is) in
      let k = link-linked m.before m.after the-link.entry s.d2 s.dg2 s.i s.g n.0 (last_name to) m.sane m.next
      (ap (λ (x : Made). x.0) the-link.is)
      (ap (λ (x : Made). x.1) the-link.is) n.1 in
      let none : is_some (found (files_before B H (spot s.link)) s.d2 (last_name to)) ≡ false =
      subst (λ (F : Files). is_some (found F s.d2 (last_name to)) ≡ false) m.files k.2 in
      let none' : is_some (found (files_before B H (spot s.link)) s.d (last_name from)) ≡ false =
      subst (λ (x : ℕ). is_some (found (files_before B H (spot s.link)) x (last_name from)) ≡ false) (sym qd)
      (subst (λ (x : List ℕ). is_some (found (files_before B H (spot s.link)) s.d2 x) ≡ false) (sym qn) none) in
      cc (some, none')

  each-new : (place p : ℕ) → p ≤ last → (q : ℕ) (x : Entry1) → suc (spot s.link) ≤ q → q < p → slice_get H q ≡ Some x
      → LeavesName x.step s.d2 (last_name to)
      ⊎ KeepsEntry (given_by (files_before B H q) x) s.d2 s.dg2 place (named_entry s.i s.g (last_name to))
  each-new place p high q x low lt there =
      go (eqb x.caller c) refl (cases_lt (end_in c (command.Move from to) made H run) q)
    where
      past : (x.caller ≢ c) ⊎ (end_in c (command.Move from to) made H run < q) → LeavesName x.step s.d2 (last_name to)
      past who = left.new q x (omega (arith, low)) (omega (arith, lt, high)) there who

      drops : (k : ℕ) → slice_get made k ≡ Some (done_of x)
          → k ≡ s.drop → s.drop ≡ length made ⊎ Done → LeavesName x.step s.d2 (last_name to)
      drops k h same (inl none) = absurd (let w = slice_get_within made k (done_of x) h in omega (arith, w, same, none))
      drops k h same (inr done) =
          let z : Some (done_of x) ≡ Some (step.Drop s.d s.dg (last_name from), done.answer) = sym h
          ∙ ap (slice_get made) same ∙ done.dropped in
          let pair : done_of x ≡ (step.Drop s.d s.dg (last_name from), done.answer) = cc z in
          let es : x.step ≡ step.Drop s.d s.dg (last_name from) = ap (λ (m : Made). m.0) pair in
          subst (λ (t : Step). LeavesName t s.d2 (last_name to)) (sym es) (λ qd qn. differ qd qn)

      own-one : Between c (command.Move from to) made H run s.look q x
          → (b : Bool) → (k : ℕ) → eqb k s.drop ≡ b → spot k ≡ q → s.look < k
          → slice_get made k ≡ Some (done_of x)
          → LeavesName x.step s.d2 (last_name to)
          ⊎ KeepsEntry (given_by (files_before B H q) x) s.d2 s.dg2 place (named_entry s.i s.g (last_name to))
      own-one w true k e at above h = inl (drops k h (eqb-true k s.drop e) s.ends)
      own-one w false k e at above h =
          inr (idle-keeps (files_before B H q) x (s.others k (done_of x) above h (λ same. let z : spot s.link ≡ q =
          ap spot (sym same) ∙ at in omega (arith, z, low)) (λ same. let z = eq-eqb k s.drop same in cc (e, z)))
          s.d2 s.dg2 place (named_entry s.i s.g (last_name to)))

      go : (d : Bool) → eqb x.caller c ≡ d → (end_in c (command.Move from to) made H run < q)
          ⊎ (q ≤ end_in c (command.Move from to) made H run)
          → LeavesName x.step s.d2 (last_name to)
          ⊎ KeepsEntry (given_by (files_before B H q) x) s.d2 s.dg2 place (named_entry s.i s.g (last_name to))
      go false qd w = inl (past (inl (λ h. let z = eq-eqb x.caller c h in cc (qd, z))))
      go true qd (inl beyond) = inl (past (inr beyond))
      go true qd (inr within) =
          let first = look-link in
          let b = between c (command.Move from to) made H run s.look q _ x s.looked
          (omega (arith, first, low)) within there (eqb-true x.caller c qd) in
          own-one b (eqb b.number s.drop) b.number refl b.place b.above b.there

  new-stays : (place : ℕ) → place_for (files_before B H (spot s.link)) s.d2 (last_name to) ≡ Some place
      → (p : ℕ) (e : Entry1) → spot s.link < p → p ≤ last → slice_get H p ≡ Some e
      → (e.caller ≢ c) ⊎ (end_in c (command.Move from to) made H run < p)
      → KeepsEntry (given_by (files_before B H p) e) s.d2 s.dg2 place (named_entry s.i s.g (last_name to))
  new-stays place ep p e low high there who =
      let m = moment-at B H r (spot s.link) the-link.entry the-link.there in
      let k = link-linked m.before m.after the-link.entry s.d2 s.dg2 s.i s.g place (last_name to) m.sane m.next
      (ap (λ (x : Made). x.0) the-link.is)
      (ap (λ (x : Made). x.1) the-link.is)
      (subst (λ (F : Files). place_for F s.d2 (last_name to) ≡ Some place) (sym m.files) ep) in
      let l = subst (λ (F : Files). Linked (λ x. Only (named_entry s.i s.g (last_name to)) x) F s.i s.g k.0
      (link_to s.d2 place s.dg2))
      (files-after (λ W. IsSane W) r.keeps (agreed_files B) H (spot s.link) the-link.entry the-link.there m) k.1 in
      keeps-it B H r (suc (spot s.link)) p e there low s.d2 s.dg2 s.i s.g k.0 place (last_name to) l
      (each-new place p high) (left.new p e low high there who)

  pub names-stay : OthersKeepNames B H c from to made run s last
  names-stay = record { old = old-stays; new = new-stays }

pub law-names-left : LawNamesLeft
law-names-left B H c from to made history run s last by left =
    names-stay B H.entries (sane-run B H history) c from to made run s last by left
