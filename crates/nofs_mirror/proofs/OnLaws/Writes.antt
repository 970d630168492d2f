-- A write of a mirror meets the promises of a disk.
use Rattle.std.proofs.Common.{◌≡◌, ◌⊎◌, ℕ, ◌+◌, ◌^◌, ◌<◌, Bool, true, false, List, ◌∷◌, set, arith, inl, inr, refl, sym}
use Rattle.std.proofs.Common.{subst, ◌∙◌, Result}
use Rattle.std.specs.Prelude.{Contains, IsFalse, IsTrue, is_ok}
use Rattle.std.proofs.Math.Logic.{∥∥₁_elim, ∥∥₁_prop}
use Rattle.std.proofs.lemmas.Bool.{false≢true}
use Rattle.std.specs.declared.snapshot.Snapshot.{Snapshot}
use Rattle.nofs_disk.specs.declared.disk.Disk.{Ghosts}
use Rattle.nofs_disk.specs.declared.Failed.{Failed}
use Rattle.nofs_disk.specs.declared.tag.Cell.{Cell}
use Rattle.nofs_disk.specs.Cells.{Picks-known}
use Rattle.nofs_disk.specs.Disk.{DiskState, IsDisk, IsSizedCell, Writes}
use Rattle.nofs_mirror.specs.declared.sides.calls.SideCall.{SideCall}
use Rattle.nofs_mirror.specs.declared.mirror.Mirror.{Mirror}
use Rattle.nofs_mirror.specs.declared.sides.choices.MirrorStart.{MirrorStart}
use Rattle.nofs_mirror.specs.declared.sides.past.MirrorCall.{MirrorCall}
use Rattle.nofs_mirror.specs.declared.sides.past.Effect.TheVariants.{Write}
use Rattle.nofs_mirror.specs.Sides.Calls.{SideWrites, any_done, answered_call, counted_if, is_asked, lead_stays}
use Rattle.nofs_mirror.specs.Laws.{MirrorKeeps, told-Picks, told-has}
use Rattle.nofs_mirror.specs.Mirror.{both_tell, flushed_cells, if_told, mirror_state, now_of}
use Rattle.nofs_mirror.specs.Sides.Past.{mirror_calls}
use Rattle.nofs_mirror.proofs.OnMirror.Calls.{Called, asked_kept, asked_now, called_disk, called_during}
use Rattle.nofs_mirror.proofs.OnMirror.Calls.{called_may, called_past, called_tells, calls_sides}
use Rattle.nofs_mirror.proofs.OnMirror.Calls.{mirror_cause, mirror_no_fault, told_either, told_goes, told_set}
use Rattle.nofs_mirror.proofs.OnMirror.Cells.{cells_of, may_of, on_err, on_ok, told_put, write_goes}
use Rattle.nofs_mirror.proofs.OnMirror.Past.{told_same}
use Rattle.nofs_mirror.proofs.OnMirror.Writes.{side_leaves, write_err, write_mirrored, write_ok, written}
use Rattle.nofs_mirror.proofs.OnMirror.Writes.{written_cases, written_grows, written_other}

-- a write asks the sides
pub record CalledWrite (lead lead_new other other_new first : DiskState) (opening : MirrorStart)
    (past : List MirrorCall) (spare : ℕ) (a o : SideCall) (b : ℕ)
    (snap : Snapshot Cell) : Type 0 where
  pub called : Called lead lead_new other other_new first opening past spare a o
  pub inside : b < opening.blocks
  pub sized : IsSizedCell snap.value
  pub lead_writes : SideWrites lead lead_new b snap.value a.answer
  pub other_writes : SideWrites other other_new b snap.value o.answer

module _ {lead lead_new other other_new first : DiskState} {opening : MirrorStart} {past : List MirrorCall} {s : ℕ}
    {a o : SideCall} {b : ℕ}
    {snap : Snapshot Cell} (w : CalledWrite lead lead_new other other_new first opening past s a o b snap) where
  -- the call, the cells of a side at its end, and those that may be held before it and after it, as the sides tell of
  -- them then
  abbrev call : MirrorCall
  call = answered_call (Write b snap) a o

  abbrev seen : List Cell
  seen = flushed_cells lead_new.was other_new.was call

  abbrev may_now : ℕ → List Cell
  may_now = may_of lead_new other_new first opening past

  abbrev may_new : ℕ → List Cell
  may_new = written opening.blocks seen may_now b snap

  pub write_kept : ∥ MirrorKeeps lead_new other_new first opening (call ∷ past) ∥₁
  write_kept = ∥∥₁_elim (asked_kept w.called) ∥∥₁_prop (λ k. ∣ (λ t.
      write_mirrored a.answer o.answer opening.blocks seen may_now b snap lead lead_new other other_new
      w.inside w.sized w.lead_writes w.other_writes (k t)) ∣₁)

  pub mirror_writes : (t e f : ℕ) (result : Result (Unit {0}) Failed)
      → t + 1 ≡ s → e < 2 ^ 64 → is_ok result ≡ any_done a.answer o.answer
      → f ≡ counted_if (any_done a.answer o.answer) e
      → Writes (mirror_state lead other first opening past s e)
      (mirror_state lead_new other_new first opening (call ∷ past) t f) b snap.value result
  mirror_writes t e f result room low is count = record {
    disk = called_disk w.called call t e f _ low count;
    past = called_past w.called call t e f refl refl;
    moment = omega arith;
    spare = room;
    ok = on_ok result _ (λ done. told_set _ _ now now_new b snap.value tells (λ if_told. ok if_told (sym is ∙ done)));
    err = on_err result _ (λ done. told_either _ _ now now_new b snap.value tells (err (sym is ∙ done)));
    may = λ c has. told_goes (both_tell lead other) (both_tell lead_new other_new) (may b) (may_new b) c
        (c ≡ snap.value) tells (may_goes c) has;
    stays = λ c has. may_stays c (told-has (both_tell lead other) (may b) c has);
    others = λ k apart. told_same _ _ (may k) (may_new k) tells
        (written_other opening.blocks seen may_now b k snap apart ∙ called_may w.called k);
    during = λ image left. told-Picks (both_tell lead_new other_new) may_new opening.blocks image left.0
        (Picks-known may_new opening.blocks image
        (∥∥₁_elim (asked_kept w.called) ∥∥₁_prop (λ k. ∣ called_during w.called (Write b snap) may_new
        (λ asked. side_leaves a.answer opening.blocks seen may_now lead lead_new b snap asked w.called.on_lead.is
        w.called.on_lead.new_is
        w.called.on_lead.held.fits w.lead_writes ((k left.0).lead asked).covers)
        (λ asked. side_leaves o.answer opening.blocks seen may_now other other_new b snap asked w.called.on_other.is
        w.called.on_other.new_is
        w.called.on_other.held.fits w.other_writes ((k left.0).other asked).covers)
        image left.1 ∣₁)));
    cause = mirror_cause result (any_done a.answer o.answer) e f is count;
    no_fault = mirror_no_fault result (any_done a.answer o.answer) e f is count;
    dirty = λ k apart. (λ has. has, λ has. has);
    held = λ holds. absurd (false≢true holds);
  }
    where
      tells : both_tell lead_new other_new ≡ both_tell lead other
      tells = called_tells w.called

      may : ℕ → List Cell
      may = may_of lead other first opening past

      now : List Cell
      now = cells_of lead other opening past

      now_new : List Cell
      now_new = now_of (lead_stays a.answer o.answer) opening.blocks lead_new.now other_new.now

      ok : IsTrue (both_tell lead_new other_new) → any_done a.answer o.answer ≡ true → now_new ≡ set now b snap.value
      ok if_told done =
          let F : Bool → Type 0 = λ y. now_new ≡ set (now_of y opening.blocks lead.now other.now) b snap.value in
          subst F w.called.on_lead.asked
          (write_ok a.answer o.answer opening.blocks b snap.value lead lead_new other other_new w.inside
          w.lead_writes w.other_writes
          (asked_now w.called if_told) done)

      err : any_done a.answer o.answer ≡ false → (now_new ≡ now) ⊎ (now_new ≡ set now b snap.value)
      err done =
          let G : Bool → List Cell = λ y. now_of y opening.blocks lead.now other.now in
          let F : Bool → Type 0 = λ y. (now_new ≡ G y) ⊎ (now_new ≡ set (G y) b snap.value) in
          subst F w.called.on_lead.asked
          (write_err a.answer o.answer opening.blocks b snap.value lead lead_new other other_new w.inside w.lead_writes
          w.other_writes done)

      may_stays : (c : Cell) → IsTrue (both_tell lead other) × Contains (may b) c
          → Contains (if_told (both_tell lead_new other_new) (may_new b)) c
      may_stays c has =
          let F : List Cell → Type 0 = λ l. Contains l c in
          told_put (both_tell lead_new other_new) (may_new b) c (tells ∙ has.0)
          (written_grows opening.blocks seen may_now b b snap c (subst F (sym (called_may w.called b)) has.1))

      may_goes : (c : Cell) → Contains (may_new b) c → Contains (may b) c ⊎ (c ≡ snap.value)
      may_goes c has = elim (written_cases opening.blocks seen may_now b b snap c has) [
        | inl before ↦ let F : List Cell → Type 0 = λ l. Contains l c in inl (subst F (called_may w.called b) before)
        | inr (same, put) ↦ inr put
      ]

-- what the contract of a write of a side says
abbrev pub WritesSide : {D : Type 0} → Ghosts D → Bool → ℕ → Cell → D → D → SideCall → Type 0
WritesSide δ is_in b cell old new call = record {
  writes : SideWrites (δ.state old) (δ.state new) b cell call.answer;
  asked : is_asked call.answer ≡ is_in;
  began : call.began ≡ (δ.state old).moment;
  ended : call.ended ≡ (δ.state new).moment;
  untouched : IsFalse is_in → new ≡ old;
}

pub writes_sides : {A B : Type 0} {α : Ghosts A} {β : Ghosts B}
    (old : Mirror A B α β) {lead : A} {other : B} {a o : SideCall} {b : ℕ}
    (snap : Snapshot Cell) {cell : Cell}
    → ((d : A) → IsDisk (α.state d)) → ((d : B) → IsDisk (β.state d)) → b < old.opening.blocks → IsSizedCell cell
    → snap.value ≡ cell
    → WritesSide α old.log.sides.lead_in b cell old.lead lead a
    → WritesSide β old.log.sides.other_in b cell old.other other o
    → CalledWrite (α.state old.lead) (α.state lead) (β.state old.other) (β.state other)
    (α.state old.first.value) old.opening
    (mirror_calls old.log.past.value) old.log.spare a o b snap
writes_sides old {lead} {other} {a} {o} {b} snap lead_is other_is inside sized same f h = record {
  called = calls_sides old lead_is other_is (write_goes a.answer _ _ b _ f.writes)
      (write_goes o.answer _ _ b _ h.writes) f.asked h.asked f.began f.ended h.began h.ended;
  inside = inside;
  sized = rw same sized;
  lead_writes = rw same f.writes;
  other_writes = rw same h.writes;
}
