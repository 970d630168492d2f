-- A step that writes, and is done: the mount stands.
use Rattle.std.proofs.Common.{◌≡◌, ℕ, ◌+◌, ◌%◌, ◌<◌, ◌≤◌, ◌⊎◌, inl, inr, Bool, true, false, List, [], ◌∷◌, ◌++◌, Option}
use Rattle.std.proofs.Common.{Some, None, length, leb, ltb}
use Rattle.std.proofs.Common.{ltb-true, ◌/◌, IsTrue, refl, sym, ap, ◌∙◌, subst, subst₂, arith}
use Rattle.nofs_disk.specs.Disk.{DiskState, IsDisk, IsSameDisk, KeepsPast, cell_at}
use Rattle.nofs_disk.specs.Adds.{Adds, WasOr}
use Rattle.nofs_super.specs.Geometry.{IsGeometry}
use Rattle.nofs_disk.specs.declared.tag.Cell.{Cell}
use Rattle.nofs_super.specs.declared.superblock.SuperBlock.{SuperBlock}
use Rattle.nofs_model.specs.Geometry.{super_at, is_mountable}
use Rattle.nofs_super.specs.Super.{is_super}
use Rattle.nofs_model.specs.Files.{Files}
use Rattle.nofs_model.specs.Owners.{Home}
use Rattle.nofs_model.proofs.OnSound.Writes.{supers, mountable-law}
use Rattle.nofs_model.proofs.OnSlots.Find.{and-both, find-held}
use Rattle.nofs_crashlaw.specs.Images.Proper.{Proper}
use Rattle.nofs_crashlaw.specs.Images.Moments.{during}
use Rattle.nofs_history.specs.Search.{first_of}
use Rattle.nofs_history.specs.Machine.{gives, given_by, files_by, files_after, is_refused}
use Rattle.nofs_history.specs.World.{World, inodes_needed, blocks_needed}
use Rattle.nofs_history.specs.Claims.{IsClaim, claimed_home, homes_after, next_stamp}
use Rattle.nofs_history.specs.Refusals.{rows}
use Rattle.nofs_history.specs.Answers.{reply_of}
use Rattle.nofs_history.specs.Good.{IsFresh}
use Rattle.nofs_history.specs.History.{FilesMatch}
use Rattle.nofs_history.specs.Since.{agreed_files, files_along, is_flushed}
use Rattle.nofs_history.specs.Marks.{mark_at}
use Rattle.nofs_history.specs.Steady.{SteadyRest}
use Rattle.nofs_history.specs.Next.{Next, Done, Learns}
use Rattle.nofs_history.specs.declared.machine.history.Claims.{Claims}
use Rattle.nofs_history.specs.declared.machine.history.Entry1.{Entry1}
use Rattle.nofs_history.specs.declared.machine.steps.Step.{Step}
use Rattle.nofs_history.specs.declared.machine.replies.Reply.{Reply}
use Rattle.nofs_crashlaw.proofs.OnLives.Images.{along-append}
use Rattle.nofs_crashlaw.specs.Maps.Fresh.{Numbered, CellNumbers}
use Rattle.nofs_crashlaw.specs.Maps.Homes.{HomesMove, HomesMatch}
use Rattle.nofs_crashlaw.proofs.OnMaps.Fresh.{law-fresh}
use Rattle.nofs_crashlaw.proofs.OnMaps.Homes.{law-homes}
use Rattle.nofs_crashlaw.specs.Histories.Stage.{AddsProper, Stage}
use Rattle.nofs_crashlaw.proofs.OnHistories.Stages.{law-stage}
use Rattle.nofs_state.specs.Books.Maps.{IsSafe, Says, knows_inode, knows_block}
use Rattle.nofs_state.specs.Cores.Invariant.{IsOpen, IsStopped, Past, Sounds}
use Rattle.nofs_state.specs.Cores.Steps.{Goes, MeetsOpen, NoOrder, entry}
use Rattle.nofs_disk.specs.Order.{OneOf}
use Rattle.nofs_state.specs.declared.books.maps.Books.{Books}
use Rattle.nofs_state.proofs.OnCores.NoWrites.{run-more, takes-none}
use Rattle.nofs_state.proofs.OnCores.Replies.{open-files}
use Rattle.nofs_state.proofs.OnCores.Runs.{faults-append}
use Rattle.nofs_state.proofs.OnCores.SafeSteps.{accepted-fault, accepted-memory, safely-done, safely-goes}
use Rattle.nofs_state.proofs.OnCores.SafeSteps.{accepted-given}
use Rattle.nofs_state.proofs.OnWrites.Numbered.{sounds-adds}

-- weaker cells
pub Adds-map : (P Q : ℕ → Cell → Type 0) (old new : DiskState) → ((b : ℕ) (c : Cell) → P b c → Q b c) → Adds P old new
    → Adds Q old new
Adds-map P Q old new h a = record {
  disk = a.disk;
  past = a.past;
  later = a.later;
  cells = λ b c has. weak b c (a.cells b c has);
  left = λ m X low high l. let q = a.left m X low high l in (q.0, λ b lt. weak b (cell_at X b) (q.1 b lt));
}
  where
    weak : (b : ℕ) (c : Cell) → WasOr P old b c → WasOr Q old b c
    weak b c (inl was) = inl was
    weak b c (inr ok) = inr (h b c ok)

-- the machine's world after a step that is done, in which what the books know is known
abbrev pub after_world : World → Step → Claims → Books → World
after_world W s c l =
    let files : Files = files_after W.files (gives W.files s c) in
    record W {
      serial = W.serial + inodes_needed s + blocks_needed W.files s;
      files = files;
      homes = homes_after W s c files;
      known_inodes =
          λ i. knows_inode l i;
      known_blocks = λ q. knows_block l q;
    }

-- what a step that writes owes where it is done
pub record IsDone (old new : DiskState) (k l : Books) (H : List Entry1) (p : Past) (s : Step) (c : Claims) (r : Reply)
    (ws : List (ℕ × Cell)) : Type 0 where
  pub adds : Adds (OneOf ws) old new
  pub later : old.moment < new.moment
  pub proper : (e : Entry1) → e.step ≡ s → e.claims ≡ c
      → given_by (files_along (agreed_files p.base) H) e ≡ gives (files_along (agreed_files p.base) H) s c
      → (b : ℕ) (cell : Cell) → OneOf ws b cell → Proper (during (mark_at p.base H (old.moment + 1) p.mark p.stamps)
      (given_by (files_along (agreed_files p.base) H) e)) old.now b cell
  pub numbers : (b : ℕ) (cell : Cell) → OneOf ws b cell → CellNumbers (Numbered p.world c) old.now b cell
  pub super : cell_at new.now 0 ≡ cell_at old.now 0
  pub size : new.blocks ≡ old.blocks
  pub none : first_of (rows p.world (after_world p.world s c l) s) ≡ None
  pub answer : r ≡ reply_of p.world s c
  pub accepted : is_refused r ≡ false
  pub no_flush : is_flushed r ≡ false
  pub claim : IsClaim p.world s c
  pub learns : Learns p.world s true (after_world p.world s c l)
  pub files : FilesMatch (files_after p.world.files (gives p.world.files s c)) new.now
  pub move : HomesMove p.world.files s c old.now new.now
  pub rest : (e : Entry1) → e.step ≡ s → e.claims ≡ c
      → given_by (files_along (agreed_files p.base) H) e ≡ gives (files_along (agreed_files p.base) H) s c
      → SteadyRest p.base (H ++ e ∷ []) new.now
  pub says : Says l (after_world p.world s c l)
  pub books_at : l.at ≡ k.at
  pub history : l.history ≡ k.history
  pub going : l.stopped ≡ false

module _ (old new : DiskState) (k l : Books) (H : List Entry1) (p : Past) (caller : ℕ) (s : Step) (c : Claims)
    (r : Reply) (ws : List (ℕ × Cell))
    (is_old : IsDisk old) (is_new : IsDisk new) (tells : IsTrue old.tells)
    (o : IsOpen old k H p) (d : IsDone old new k l H p s c r ws) where
  abbrev W : World
  W = p.world

  abbrev V : World
  V = after_world p.world s c l

  abbrev e : Entry1
  e = entry caller old new s c r

  F : Files
  F = files_along (agreed_files p.base) H

  open_world : W.stopped ≡ false
  open_world = o.says.stopped ∙ o.going

  next : Next W e V
  next = Done open_world d.none d.answer d.claim refl refl refl (refl, refl, refl, refl, open_world) d.learns

  given : given_by (files_along (agreed_files p.base) H) e ≡ gives (files_along (agreed_files p.base) H) s c
  given = let a = d.accepted in rw a refl

  by : files_by (files_along (agreed_files p.base) H) e ≡ files_after W.files (gives W.files s c)
  by = (let a = d.accepted in
      let q : files_by (files_along (agreed_files p.base) H) e ≡ files_after (files_along (agreed_files p.base) H)
      (gives (files_along (agreed_files p.base) H) s c) = rw a refl in q)
      ∙ ap (λ (G : Files). files_after G (gives G s c)) (sym o.files)

  same-super : super_at new.now ≡ super_at old.now
  same-super = supers old.now new.now d.super

  blocks-are : W.blocks ≡ (super_at old.now).blocks
  blocks-are = o.says.blocks ∙ ap (λ (q : SuperBlock). q.blocks) (sym o.at)

  old-fresh : IsFresh W old.now old.may
  old-fresh b lt cell has = o.stage.ready.fresh b cell (subst (λ (n : ℕ). b < n) blocks-are lt) has

  quarters : (super_at old.now).inodes % 4 ≡ 0
  quarters = let m = (mountable-law old.now).1 o.mountable in m.fits.multiple

  new-fresh : IsFresh V new.now new.may
  new-fresh = (law-fresh W V e old.now new.now old.may new.may next quarters d.super old-fresh
      (λ b lt cell has. elim (d.adds.cells b cell has) [ inl was ↦ inl was | inr one ↦ inr (d.numbers b cell one) ])).0
      (accepted-fault r d.accepted)

  homes : HomesMatch V new.now
  homes = law-homes W V s c old.now new.now o.homes (open-files old k H p o) d.move refl refl d.files

  -- no block behind the last gets a home
  homes-past : (b : ℕ) → V.blocks ≤ b → V.homes b ≡ None
  homes-past b past = go (claimed_home W.files s c b) refl
    where
      beyond : (h : Home) → claimed_home W.files s c b ≡ Some h → ⊥
      beyond h eh =
          let house = d.move.claimed b h eh in
          let area = and-both (leb (1 + (super_at new.now).inodes / 4) house.pointer.block)
          (ltb house.pointer.block (super_at new.now).blocks)
          (find-held new.now h.inode house.path house.pointer house.holds).agrees.area in
          let low : house.pointer.block < (super_at new.now).blocks =
          ltb-true house.pointer.block (super_at new.now).blocks area.1 in
          let same = house.block in
          let blocks : (super_at new.now).blocks ≡ W.blocks = ap (λ (q : SuperBlock). q.blocks) same-super
          ∙ sym blocks-are in
          omega (arith, low, same, blocks, past)

      go : (q : Option Home) → claimed_home W.files s c b ≡ q → V.homes b ≡ None
      go None eq = rw (eq, homes_after) (rw (o.homes_past b past) refl)
      go (Some h) eq = absurd (beyond h eq)

  proper : AddsProper p.base H e p.mark p.stamps old new
  proper = Adds-map (OneOf ws) (Proper
      (during (mark_at p.base H (old.moment + 1) p.mark p.stamps) (given_by (files_along (agreed_files p.base) H) e))
      old.now) old new (d.proper e refl refl given) d.adds

  stage : Stage p.base (H ++ e ∷ []) p.mark p.stamps k.history.start (next_stamp V) new
  stage = law-stage old new p.base H e p.mark p.stamps k.history.start (next_stamp W) (next_stamp V)
      (record { stage = o.stage; disk = is_old; tells = tells; from = refl; to = refl; no_flush = d.no_flush }) proper
      (record {
        files = subst (λ (G : Files). FilesMatch G new.now) (sym by) d.files;
        positive = (let q = o.stage.ready.positive in omega (arith, q));
        fresh = λ b cell lt has. new-fresh b
            (subst (λ (n : ℕ). b < n) (ap (λ (q : SuperBlock). q.blocks) same-super ∙ sym blocks-are) lt) cell has;
      })

  whole : length new.now ≡ length old.now
  whole = is_new.whole (subst (λ (b : Bool). IsTrue b) (sym d.adds.disk.tells) tells)
      ∙ d.size ∙ sym (is_old.whole tells)

  mountable : is_mountable new.now ≡ true
  mountable =
      let m = (mountable-law old.now).1 o.mountable in
      (mountable-law new.now).0 (record {
        spelled = subst (λ (q : Cell). is_super q.payload ≡ true) (sym d.super) m.spelled;
        fits = subst₂ (λ (n : ℕ) (q : SuperBlock). IsGeometry n q.blocks q.inodes) (sym whole) (sym same-super) m.fits;
      })

  pub open-done : IsOpen new l (H ++ e ∷ []) (record p { world = V })
  open-done = record {
    run = run-more old new k l H p e V o.run (ap (λ h. h.start) d.history) refl refl
        (let q = d.later in omega (arith, q))
        (λ t. absurd (let z = takes-none r d.no_flush (accepted-fault r d.accepted) in cc (t, z))) next;
    going = d.going;
    says = d.says;
    at = same-super ∙ o.at ∙ sym d.books_at;
    mountable = mountable;
    files = sym (along-append (agreed_files p.base) H (e ∷ []) ∙ by);
    homes = homes;
    homes_past = homes-past;
    stage = subst (λ (n : ℕ). Stage p.base (H ++ e ∷ []) p.mark p.stamps n (next_stamp V) new)
        (sym (ap (λ h. h.start) d.history)) stage;
    older = (let a = o.older in omega (arith, a));
    rest = d.rest e refl refl given;
    no_fault = faults-append H e o.no_fault (accepted-fault r d.accepted);
  }

  -- all that it may leave stays sound
  pub done-sounds : IsSafe old k → (from : ℕ) → Sounds from old → Sounds from new
  done-sounds safe = sounds-adds old new k H p e V (during (mark_at p.base H (old.moment + 1) p.mark p.stamps)
      (given_by (files_along (agreed_files p.base) H) e)) is_old tells safe o next proper
      (Adds-map (OneOf ws) (λ b cell. CellNumbers (Numbered W c) old.now b cell) old new d.numbers d.adds)

-- the contract of a step that is done
pub goes-done : (old new : DiskState) (k l : Books) (s : Step) (c : Claims) (r : Reply) (ws : List (ℕ × Cell))
    → IsDisk old → IsDisk new → k.stopped ≡ false
    → l.at ≡ k.at → l.history ≡ k.history → l.stopped ≡ false → IsSafe new l → is_refused r ≡ false
    → IsSameDisk old new → KeepsPast old new
    → old.moment < new.moment → new.faults ≡ old.faults → NoOrder old new (MeetsOpen old k) s c r → IsSafe old k
    → (IsTrue old.tells → (H : List Entry1) (p : Past) → IsOpen old k H p → IsDone old new k l H p s c r ws)
    → Goes old k new l s c r
goes-done old new k l s c r ws is_old is_new going at history runs safe accepted disk past later same order safe_old
    done =
    safely-goes old new k l s c r
    (safely-done old new k l r going at history runs safe accepted disk past later same)
    (accepted-given k.at s r accepted) order sounds
    (λ tells caller H p o. record {
      none = λ t. absurd (let z = accepted-memory r accepted in cc (t, z));
      done = λ n f. (
        record p { world = after_world p.world s c l },
        record {
          base = refl;
          first = refl;
          next = next old new k l H p caller s c r ws is_old is_new tells o (done tells H p o);
        },
        open-done old new k l H p caller s c r ws is_old is_new tells o (done tells H p o),
      );
      fault = λ t. absurd (let z = accepted-fault r accepted in cc (t, z));
    })
    (λ tells caller H p o. absurd (let t = o.stopped in cc (t, going)))
  where
    sounds : IsTrue old.tells → (H : List Entry1) (p : Past) → IsOpen old k H p ⊎ IsStopped old k H p
        → (from : ℕ) → Sounds from old → Sounds from new
    sounds tells H p (inl o) from q =
        done-sounds old new k l H p 0 s c r ws is_old is_new tells o (done tells H p o) safe_old from q
    sounds tells H p (inr o) from q = absurd (let t = o.stopped in cc (t, going))
