-- A mount stands after each step.
use Rattle.std.proofs.Common.{◌≡◌, ℕ, ◌+◌, ◌-◌, ◌^◌, ◌<◌, ◌≤◌, min, Bool, true, false, ◌||◌, cond, List, [], ◌∷◌, ◌++◌}
use Rattle.std.proofs.Common.{IsTrue, ◌⊎◌, inl, inr, refl, sym, ap, ◌∙◌, subst, subst₂, arith, le_refl}
use Rattle.std.proofs.lemmas.Bool.{cases_lt}
use Rattle.nofs_disk.specs.Disk.{DiskState, IsSameDisk, KeepsCells, KeepsPast, Picks, Rose}
use Rattle.nofs_disk.specs.Chains.{IsSameDisk-trans}
use Rattle.nofs_disk.specs.declared.tag.Cell.{Cell}
use Rattle.nofs_super.specs.declared.superblock.SuperBlock.{SuperBlock}
use Rattle.nofs_model.specs.Geometry.{Image}
use Rattle.nofs_history.specs.Allowed.{IsAllowed}
use Rattle.nofs_history.specs.Since.{is_flushed, agreed_files, files_along}
use Rattle.nofs_history.specs.Machine.{is_write_fault}
use Rattle.nofs_history.specs.Faults.{is_fault}
use Rattle.nofs_history.specs.Next.{takes_time}
use Rattle.nofs_history.specs.Steps.{is_out_of_memory}
use Rattle.nofs_history.specs.HistoryState.{HistoryState}
use Rattle.nofs_history.specs.World.{world_of}
use Rattle.nofs_history.specs.declared.machine.history.Claims.{Claims}
use Rattle.nofs_history.specs.declared.machine.history.Entry1.{Entry1}
use Rattle.nofs_history.specs.declared.machine.steps.Step.{Step}
use Rattle.nofs_history.specs.declared.machine.replies.Reply.{Reply}
use Rattle.nofs_history.specs.declared.machine.replies.Reply.TheVariants as reply
use Rattle.nofs_history.specs.declared.machine.replies.Refusal.TheVariants as refusal
use Rattle.nofs_crashlaw.specs.Histories.Stage.{AllBy}
use Rattle.nofs_state.specs.Books.Maps.{IsSafe}
use Rattle.nofs_state.specs.Cores.Invariant.{IsOpen, IsStopped, Past, Sounds}
use Rattle.nofs_state.specs.Cores.Steps.{Follows, Goes, IsSafeStep, MeetsOpen, Moves, NoOrder, entry, goes-safely}
use Rattle.nofs_state.specs.declared.books.maps.Books.{Books}
use Rattle.nofs_crashlaw.proofs.OnHistories.Later.{law-later}
use Rattle.nofs_state.proofs.OnCores.Unchanged.{Level, open-level, stopped-level}
use Rattle.nofs_state.proofs.OnCores.Rows.{open-with, stopped-with}
use Rattle.nofs_state.proofs.OnWrites.NoWrites.{sounds-keep}
use Rattle.nofs_shared.proofs.OnLaws.Images.{rests-later}
use Rattle.nofs_shared.specs.Mount.Images.{ImagesAlong, IsOfImage, OnlyFlushesFailed}
use Rattle.nofs_shared.specs.Mount.Forms.{ExactCalls, Forms, faults_in}
use Rattle.nofs_shared.specs.Mount.Invariant.{IsMount, IsMounted, IsSoundDisk, MountStands}
use Rattle.nofs_shared.proofs.OnMount.Images.{claims-unowned, images-append, of-more, reads-after}
use Rattle.nofs_shared.proofs.OnMount.Histories.{safe-history, forms-later, forms-append, faults-more, fault-is}
use Rattle.nofs_shared.proofs.OnMount.Histories.{takes-when}
use Rattle.nofs_shared.proofs.OnMount.Histories.{flushed-is, memory-refused, faulty, calls-by, calls-more, entry-calls}

-- what the machine says of a step that is made where this past stands
abbrev pub Leads : DiskState → Books → Entry1 → List Entry1 → Past → Type 0
Leads new l e H p = (q : Past) × Moves p e q × (IsOpen new l (H ++ e ∷ []) q ⊎ IsStopped new l (H ++ e ∷ []) q)

-- where the cells stay, an image picks from what was there
pub picks-back : (old new : DiskState) → IsSameDisk old new → KeepsCells old new
    → (X : Image) → Picks new.may new.blocks X → Picks old.may old.blocks X
picks-back old new disk cells X p = subst₂ (λ (may : ℕ → List Cell) (n : ℕ). Picks may n X) cells.may disk.blocks p

module _ (old new : DiskState) (k l : Books) (r : Reply) (g : IsSafeStep old k new l r) where
  stopped-is : l.stopped ≡ (k.stopped || is_write_fault r)
  stopped-is = go k.stopped refl (is_write_fault r) refl l.stopped refl
    where
      go : (a : Bool) → k.stopped ≡ a → (b : Bool) → is_write_fault r ≡ b → (t : Bool) → l.stopped ≡ t → t ≡ (a || b)
      go true ea b eb t et = sym et ∙ g.cause.keeps ea
      go false ea true eb t et = sym et ∙ g.cause.fault (fault-is r eb)
      go false ea false eb true et =
          absurd (let e = g.cause.stops ea et in let z : is_write_fault r ≡ true = ap is_write_fault e in cc (z, eb))
      go false ea false eb false et = refl

  took : takes_time r ≡ true → old.moment < new.moment
  took t = elim (takes-when r t) [ inl e ↦ g.cause.flush e | inr e ↦ (g.cause.write e).1 ]

  rose : (f n : ℕ)
      → min (f + n) (2 ^ 64 - 1) ≤ old.faults → min (f + (n + cond (is_fault r) 1 0)) (2 ^ 64 - 1) ≤ new.faults
  rose f n le = go (is_fault r) refl
    where
      go : (b : Bool) → is_fault r ≡ b → min (f + (n + cond b 1 0)) (2 ^ 64 - 1) ≤ new.faults
      go false e = let q = g.disk.faults in omega (arith, le, q)
      go true e =
          let up : Rose old.faults new.faults =
          elim (faulty r e) [ inl a ↦ g.cause.read a | inr b ↦ (g.cause.write b).0 ] in
          omega (arith, le, up)

  mounted-on : (found : DiskState) (start : ℕ) (at : SuperBlock) → start ≤ old.moment → IsMounted found old start at
      → IsMounted found new start at
  mounted-on found start at low m = record {
    begun = m.begun;
    base = g.past.was start low ∙ m.base;
    before = λ n X from to left. m.before n X from to (g.past.no_more n X (omega (arith, low, to)) left);
    resting = λ e X p.
        let up = g.later in
        m.resting (omega (arith, e, low, up)) X
        (picks-back old new g.disk (g.cause.still (omega (arith, e, low, up))) X p);
  }

  -- each image that picks from what a step may leave is allowed at its end
  module _ (caller : ℕ) (s : Step) (c : Claims) (H : List Entry1) (p q : Past) (base : q.base ≡ p.base) where
    abbrev here : Entry1
    here = entry caller old new s c r

    rests-more : IsOpen old k H p ⊎ IsStopped old k H p
        → IsOpen new l (H ++ here ∷ []) q ⊎ IsStopped new l (H ++ here ∷ []) q
        → ((X : Image) → Picks old.may old.blocks X → IsAllowed p.base H old.moment X)
        → (X : Image) → Picks new.may new.blocks X
        → IsAllowed q.base (H ++ here ∷ []) new.moment X
    rests-more was now rest X picks = elim (cases_lt old.moment new.moment) [
      | inl later ↦ rests-later H here old.moment new (all-by was) later refl q now X picks
      | inr none ↦
          let up = g.later in
          let same : new.moment ≡ old.moment = omega (arith, none, up) in
          let a : IsAllowed p.base H old.moment X = rest X (picks-back old new g.disk (g.cause.still same) X picks) in
          subst₂ (λ (B : Image) (n : ℕ). IsAllowed B (H ++ here ∷ []) n X) (sym base) (sym same)
          (law-later p.base H (here ∷ []) old.moment X (le_refl old.moment, flushed, tt) a)
    ]
      where
        all-by : IsOpen old k H p ⊎ IsStopped old k H p → AllBy H old.moment
        all-by (inl o) = o.stage.lasts.by
        all-by (inr o) = o.lasts.by

        flushed : is_flushed r ≡ true → old.moment < new.moment
        flushed f = g.cause.flush (flushed-is r f)

-- where the cells and the moment stay, so does what stands, given how the machine goes on and that images stay sound
pub stands-still : (found old new : DiskState) (first : ℕ) (k : Books) → IsSameDisk old new → KeepsCells old new
    → new.was k.history.start ≡ old.was k.history.start → (st : MountStands found old first k)
    → IsOpen new k k.history.entries st.past ⊎ IsStopped new k k.history.entries st.past
    → Sounds found.moment new → MountStands found new first k
stands-still found old new first k disk cells was st now sound = record {
  past = st.past;
  base = st.base ∙ sym was;
  serial = st.serial;
  raised = st.raised;
  now = now;
  sound = sound;
  along = subst (λ (X : Image). ImagesAlong [] (world_of st.past.base st.past.first) st.past.base k.history.entries
      st.past.world X) (sym cells.now) st.along;
  machine = λ only. subst (λ (X : Image). IsOfImage st.past.world X) (sym cells.now) (st.machine only);
  calls = subst (λ (n : ℕ). ExactCalls (agreed_files st.past.base) k.history.start n k.history.entries)
      (sym cells.moment) st.calls;
  rests = λ X p. subst (λ (n : ℕ). IsAllowed st.past.base k.history.entries n X) (sym cells.moment)
      (st.rests X (picks-back old new disk cells X p));
}

module _ (found old new : DiskState) (first : ℕ) (k l : Books) (m : IsMount found old first k) where
  low : k.history.start ≤ old.moment
  low = forms-later k.history.entries k.history.start false old.moment k.stopped m.forms

  told : IsSoundDisk found → IsTrue old.tells
  told q = subst (λ (b : Bool). IsTrue b) (sym m.disk.tells) q.tells

  -- where cells and moment stay
  pub mount-still : IsSameDisk old new → KeepsPast old new → KeepsCells old new → IsSafe new k
      → IsMount found new first k
  mount-still disk past cells safe = record {
    safe = safe;
    disk = IsSameDisk-trans found old new m.disk disk;
    mounted = record {
      begun = m.mounted.begun;
      base = past.was k.history.start low ∙ m.mounted.base;
      before = λ n X from to left. m.mounted.before n X from to (past.no_more n X (omega (arith, low, to)) left);
      resting = λ e X p. m.mounted.resting (sym cells.moment ∙ e) X (picks-back old new disk cells X p);
    };
    forms = subst (λ (n : ℕ). Forms k.history.start false k.history.entries n k.stopped)
        (sym cells.moment) m.forms;
    counted = (let q = m.counted in let f = disk.faults in omega (arith, q, f));
    stands = λ q. let st = m.stands q in
        stands-still found old new first k disk cells (past.was k.history.start low) st
        (go st.past st.now) (sounds-keep found.moment old new disk past cells st.sound);
  }
    where
      level : Level old new
      level = record { blocks = disk.blocks; past = past; cells = cells }

      go : (p : Past) → IsOpen old k k.history.entries p ⊎ IsStopped old k k.history.entries p
          → IsOpen new k k.history.entries p ⊎ IsStopped new k k.history.entries p
      go p (inl o) = inl (open-level old new level k k.history.entries p o)
      go p (inr o) = inr (stopped-level old new level k k.history.entries p o)

  -- where memory was wanting
  pub mount-none : (r : Reply) → IsSafeStep old k new l r → is_out_of_memory r ≡ true → IsMount found new first l
  mount-none r g mem = subst (λ (b : Books). IsMount found new first b) (sym (g.cause.memory mem))
      (mount-still g.disk g.past cells
      (subst (λ (b : Books). IsSafe new b) (g.cause.memory mem) g.safe))
    where
      cells : KeepsCells old new
      cells = let q = memory-refused r mem in g.cause.refused q.0 q.1

  -- what a step that goes as the machine's leads to
  module _ (s : Step) (c : Claims) (r : Reply) (caller : ℕ) (g : Goes old k new l s c r)
      (mem : is_out_of_memory r ≡ false) where
    abbrev this : Entry1
    this = entry caller old new s c r

    pub goes-leads : IsSoundDisk found
        → (p : Past) → IsOpen old k k.history.entries p ⊎ IsStopped old k k.history.entries p
        → Leads new l this k.history.entries p
    goes-leads q p (inr o) = (
      p,
      record { base = refl; first = refl; next = (g.from_stopped (told q) caller k.history.entries p o).next mem },
      inr ((g.from_stopped (told q) caller k.history.entries p o).done mem),
    )
    goes-leads q p (inl o) = go (is_write_fault r) refl
      where
        f : Follows old new l k.history.entries p this
        f = g.from_open (told q) caller k.history.entries p o

        go : (b : Bool) → is_write_fault r ≡ b → Leads new l this k.history.entries p
        go true eb = let t = f.fault eb in (t.0, t.1, inr t.2)
        go false eb = let t = f.done mem eb in (t.0, t.1, inl t.2)

  -- one entry more
  module _ (s : Step) (c : Claims) (r : Reply) (caller : ℕ) (g : IsSafeStep old k new l r)
      (order : NoOrder old new (MeetsOpen old k) s c r)
      (mem : is_out_of_memory r ≡ false) where
    abbrev e : Entry1
    e = entry caller old new s c r

    pub mount-more : (IsSoundDisk found
        → (st : MountStands found old first k) → Leads new l e k.history.entries st.past × Sounds found.moment new)
        → (h : HistoryState) → h.start ≡ l.history.start → h.entries ≡ l.history.entries ++ e ∷ []
        → IsMount found new first (record l { history = h })
    mount-more leads h start entries = record {
      safe = safe-history l h new g.safe;
      disk = IsSameDisk-trans found old new m.disk g.disk;
      mounted = subst₂ (λ (n : ℕ) (at : SuperBlock). IsMounted found new n at) (sym from) (sym g.at)
          (mounted-on old new k l r g found k.history.start k.at low m.mounted);
      forms = subst₂ (λ (n : ℕ) (H : List Entry1). Forms n false H new.moment l.stopped) (sym from) (sym all)
          (forms-append k.history.entries k.history.start false old.moment k.stopped e new.moment l.stopped
          m.forms (record {
            from = refl;
            later = g.later;
            takes = took old new k l r g;
            cells = (calls-by old new k caller s c r order).cells;
            wrote = (calls-by old new k caller s c r order).wrote;
            took = (calls-by old new k caller s c r order).took;
            stops = λ t. g.cause.stopped t mem;
            stopped_only = g.cause.not_stopped;
            memory = mem;
          }) refl (stopped-is old new k l r g));
      counted = subst (λ (n : ℕ). min (found.faults + n) (2 ^ 64 - 1) ≤ new.faults)
          (sym (ap faults_in all ∙ faults-more k.history.entries e))
          (rose old new k l r g found.faults (faults_in k.history.entries) m.counted);
      stands = λ q.
          let st = m.stands q in
          let a = leads q st in
          record {
            past = a.0.0;
            base = a.0.1.base ∙ st.base ∙ sym (g.past.was k.history.start low) ∙ ap new.was (sym from);
            serial = a.0.1.first ∙ st.serial;
            raised = g.at ∙ st.raised;
            now = subst (λ (H : List Entry1). IsOpen new (record l { history = h }) H a.0.0
                ⊎ IsStopped new (record l { history = h }) H a.0.0) (sym all)
                (go a.0.0 a.0.2);
            sound = a.1;
            along = subst (λ (H : List Entry1). ImagesAlong [] (world_of a.0.0.base a.0.0.first) a.0.0.base H
                a.0.0.world new.now) (sym all)
                (subst₂ (λ (B : Image) (n : ℕ). ImagesAlong [] (world_of B n) B (k.history.entries ++ e ∷ [])
                a.0.0.world new.now) (sym a.0.1.base) (sym a.0.1.first)
                (images-append k.history.entries [] (world_of st.past.base st.past.first) st.past.world a.0.0.world
                st.past.base old.now new.now e st.along (record {
                  unowned = claims-unowned old k k.history.entries st.past a.0.0.world e st.now a.0.1.next;
                  machine = st.machine;
                }) a.0.1.next (reads-after old new k caller s c r order)));
            machine = λ only. of-more old new k l k.history.entries st.past a.0.0 s c r caller g order mem a.0.1.next
                st.now a.0.2 st.machine (subst (λ (H : List Entry1). OnlyFlushesFailed H) all only);
            calls = subst₂ (λ (n : ℕ) (H : List Entry1). ExactCalls (agreed_files a.0.0.base) n new.moment H)
                (sym from) (sym all)
                (subst (λ (B : Image). ExactCalls (agreed_files B) k.history.start new.moment
                (k.history.entries ++ e ∷ [])) (sym a.0.1.base)
                (calls-more (agreed_files st.past.base) k.history.entries k.history.start old.moment e
                new.moment st.calls
                (entry-calls old new k caller s c r (files_along (agreed_files st.past.base) k.history.entries) order
                (meets q st.past st.now))));
            rests = subst (λ (H : List Entry1). (X : Image) → Picks new.may new.blocks X
                → IsAllowed a.0.0.base H new.moment X) (sym all)
                (rests-more old new k l r g caller s c k.history.entries st.past a.0.0 a.0.1.base st.now
                a.0.2 st.rests);
          };
    }
      where
        from : h.start ≡ k.history.start
        from = start ∙ ap (λ (x : HistoryState). x.start) g.history

        all : h.entries ≡ k.history.entries ++ e ∷ []
        all = entries ∙ ap (λ (x : HistoryState). x.entries ++ e ∷ []) g.history

        meets : IsSoundDisk found → (p : Past) → IsOpen old k k.history.entries p ⊎ IsStopped old k k.history.entries p
            → MeetsOpen old k (files_along (agreed_files p.base) k.history.entries)
            ⊎ (r ≡ reply.Refused refusal.Stopped)
        meets q p (inl o) = inl (k.history.entries, p, told q, o, o.files)
        meets q p (inr o) = inr (g.cause.stopped o.stopped mem)

        go : (p : Past) → IsOpen new l (k.history.entries ++ e ∷ []) p ⊎ IsStopped new l (k.history.entries ++ e ∷ []) p
            → IsOpen new (record l { history = h }) (k.history.entries ++ e ∷ []) p
            ⊎ IsStopped new (record l { history = h }) (k.history.entries ++ e ∷ []) p
        go p (inl o) = inl (open-with new l h start (k.history.entries ++ e ∷ []) p o)
        go p (inr o) = inr (stopped-with new l h start (k.history.entries ++ e ∷ []) p o)

  -- so after a step of the mount
  pub mount-goes : (s : Step) (c : Claims) (r : Reply) (caller : ℕ) (g : Goes old k new l s c r)
      (mem : is_out_of_memory r ≡ false)
      → (h : HistoryState)
      → h.start ≡ l.history.start → h.entries ≡ l.history.entries ++ entry caller old new s c r ∷ []
      → IsMount found new first (record l { history = h })
  mount-goes s c r caller g mem = mount-more s c r caller (goes-safely g) g.order mem
      (λ q st. (
        goes-leads s c r caller g mem q st.past st.now,
        g.sound (told q) k.history.entries st.past st.now found.moment st.sound,
      ))
