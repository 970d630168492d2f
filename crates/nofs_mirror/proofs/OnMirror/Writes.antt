-- Writes of a mirror.
use Rattle.std.proofs.Common.{◌≡◌, ◌≢◌, ◌⊎◌, ℕ, ◌<◌, ◌≤◌, Bool, true, false, List, [], ◌∷◌, ◌++◌, take, set, arith, inl}
use Rattle.std.proofs.Common.{inr, refl, sym, ap, subst, ◌∙◌}
use Rattle.std.proofs.Common.{Result, Ok, Err}
use Rattle.std.specs.Prelude.{Contains, IsTrue}
use Rattle.std.proofs.Math.Seq.{take-set-lt}
use Rattle.std.proofs.lemmas.Bool.{cases_eq, eq-eqb, ne_eqb}
use Rattle.std.proofs.lemmas.List.Elements.{Contains-append_left, Contains-push, Contains-push_cases}
use Rattle.std.specs.declared.snapshot.Snapshot.{Snapshot}
use Rattle.nofs_disk.specs.declared.Failed.{Failed}
use Rattle.nofs_disk.specs.declared.tag.Cell.{Cell}
use Rattle.nofs_disk.specs.Disk.{DiskState, IsDisk, IsSizedCell, Writes}
use Rattle.nofs_disk.specs.Held.{IsWithin}
use Rattle.nofs_mirror.specs.declared.sides.calls.SideAnswer.{SideAnswer}
use Rattle.nofs_mirror.specs.declared.sides.calls.SideAnswer.TheVariants.{Out, Done, Fault}
use Rattle.nofs_mirror.specs.declared.sides.past.Effect.TheVariants.{Write}
use Rattle.nofs_mirror.specs.Sides.Calls.{SideWrites, any_done, is_asked, lead_stays, other_stays}
use Rattle.nofs_mirror.specs.Mirror.{IsMirrored, may_step, now_of}
use Rattle.nofs_mirror.proofs.OnMirror.Cells.{Covers, LeavesFirst, lead_stays-asked, other_stays-asked, write_leaves}

-- the cells that may be held after a write
abbrev pub written : ℕ → List Cell → (ℕ → List Cell) → ℕ → Snapshot Cell → ℕ → List Cell
written n flushed may b snap = may_step n flushed may (Write b snap)

-- the cells of the block that was written, and of another
pub written_here : (n : ℕ) (x : List Cell) (may : ℕ → List Cell) (b : ℕ) (snap : Snapshot Cell)
    → written n x may b snap b ≡ may b ++ snap.value ∷ []
written_here n x may b snap = rw (eq-eqb b b refl)

pub written_other : (n : ℕ) (x : List Cell) (may : ℕ → List Cell) (b k : ℕ) (snap : Snapshot Cell)
    → k ≢ b → written n x may b snap k ≡ may k
written_other n x may b k snap other = rw (ne_eqb k b other)

-- a cell that may be there after a write
pub written_cases : (n : ℕ) (x : List Cell) (may : ℕ → List Cell) (b k : ℕ) (snap : Snapshot Cell) (c : Cell)
    → Contains (written n x may b snap k) c
    → Contains (may k) c ⊎ ((k ≡ b) × (c ≡ snap.value))
written_cases n x may b k snap c has =
    let F : List Cell → Type 0 = λ l. Contains l c in
    elim (cases_eq k b) [
      | inl same ↦
          let G : ℕ → Type 0 = λ j. Contains (written n x may b snap j) c in
          let H : ℕ → Type 0 = λ j. Contains (may j) c in
          elim (Contains-push_cases (may b) snap.value c (subst F (written_here n x may b snap) (subst G same has))) [
            | inl before ↦ inl (subst H (sym same) before)
            | inr is ↦ inr (same, sym is)
          ]
      | inr other ↦ inl (subst F (written_other n x may b k snap other) has)
    ]

-- a write takes no cell away that may be there
pub written_grows : (n : ℕ) (x : List Cell) (may : ℕ → List Cell) (b k : ℕ) (snap : Snapshot Cell) (c : Cell)
    → Contains (may k) c
    → Contains (written n x may b snap k) c
written_grows n x may b k snap c has =
    let F : List Cell → Type 0 = λ l. Contains l c in
    elim (cases_eq k b) [
      | inl same ↦
          let G : ℕ → Type 0 = λ j. Contains (may j) c → Contains (written n x may b snap j) c in
          subst G (sym same) (λ here. subst F (sym (written_here n x may b snap))
          (Contains-append_left (may b) (snap.value ∷ []) c here)) has
      | inr other ↦ subst F (sym (written_other n x may b k snap other)) has
    ]

written_has : (n : ℕ) (x : List Cell) (may : ℕ → List Cell) (b : ℕ) (snap : Snapshot Cell)
    → Contains (written n x may b snap b) snap.value
written_has n x may b snap = let F : List Cell → Type 0 = λ l. Contains l snap.value in
    subst F (sym (written_here n x may b snap))
    (Contains-push (may b) snap.value)

before_covers : (n : ℕ) (x : List Cell) (may under : ℕ → List Cell) (b : ℕ) (snap : Snapshot Cell) → Covers n may under
    → Covers n (written n x may b snap) under
before_covers n x may under b snap covers k c low has = written_grows n x may b k snap c (covers k c low has)

writes_covers : (n : ℕ) (x : List Cell) (may : ℕ → List Cell) (old new : DiskState) (b : ℕ)
    (snap : Snapshot Cell) {result : Result (Unit {0}) Failed}
    → Writes old new b snap.value result → Covers n may old.may → Covers n (written n x may b snap) new.may
writes_covers n x may old new b snap w covers k c low has = elim (cases_eq k b) [
  | inl same ↦
      let F : ℕ → Type 0 = λ j. Contains (new.may j) c in
      let G : ℕ → Type 0 = λ j. Contains (written n x may b snap j) c in
      let H : ℕ → Type 0 = λ j. Contains (old.may j) c in
      let J : Cell → Type 0 = λ y. Contains (written n x may b snap b) y in
      elim (w.may c (subst F same has)) [
        | inl before ↦ written_grows n x may b k snap c (covers k c low (subst H (sym same) before))
        | inr is ↦ subst G (sym same) (subst J (sym is) (written_has n x may b snap))
      ]
  | inr other ↦ let F : List Cell → Type 0 = λ l. Contains l c in
      written_grows n x may b k snap c (covers k c low (subst F (w.others k other) has))
]

side_covers : (a : SideAnswer) (n : ℕ) (x : List Cell) (may : ℕ → List Cell) (old new : DiskState) (b : ℕ)
    (snap : Snapshot Cell) → IsTrue (is_asked a)
    → SideWrites old new b snap.value a → Covers n may old.may → Covers n (written n x may b snap) new.may
side_covers Out n x may old new b snap e w covers = cc
side_covers Done n x may old new b snap e w covers = writes_covers n x may old new b snap w covers
side_covers Fault n x may old new b snap e w covers = writes_covers n x may old new b snap w.1 covers

pub side_leaves : (a : SideAnswer) (n : ℕ) (x : List Cell) (may : ℕ → List Cell) (old new : DiskState) (b : ℕ)
    (snap : Snapshot Cell) → IsTrue (is_asked a)
    → IsDisk old → IsDisk new → n ≤ old.blocks → SideWrites old new b snap.value a → Covers n may old.may
    → LeavesFirst n (written n x may b snap) old new
side_leaves Out n x may old new b snap e is_old is_new fits w covers = cc
side_leaves Done n x may old new b snap e is_old is_new fits w covers =
    write_leaves n (written n x may b snap) old new b snap.value is_old is_new fits w
    (before_covers n x may old.may b snap covers)
    (writes_covers n x may old new b snap w covers)
side_leaves Fault n x may old new b snap e is_old is_new fits w covers =
    write_leaves n (written n x may b snap) old new b snap.value is_old is_new fits w.1
    (before_covers n x may old.may b snap covers)
    (writes_covers n x may old new b snap w.1 covers)

-- the cells of a side that was written
set_now : (n b : ℕ) (c : Cell) (old new : DiskState) → b < n → Writes old new b c (Ok tt)
    → take n new.now ≡ set (take n old.now) b c
set_now n b c old new low w = ap (take n) w.ok ∙ take-set-lt n old.now b c low

-- those of a mirror, where a side succeeded
pub write_ok : (a o : SideAnswer) (n b : ℕ) (c : Cell) (lead lead_new other other_new : DiskState)
    → b < n → SideWrites lead lead_new b c a
    → SideWrites other other_new b c o
    → (IsTrue (is_asked a) → IsTrue (is_asked o) → take n other.now ≡ take n lead.now)
    → any_done a o ≡ true
    → now_of (lead_stays a o) n lead_new.now other_new.now ≡ set (now_of (is_asked a) n lead.now other.now) b c
write_ok Done o n b c lead lead_new other other_new low w v same done = set_now n b c lead lead_new low w
write_ok Fault Done n b c lead lead_new other other_new low w v same done = set_now n b c other other_new low v
    ∙ ap (λ l. set l b c) (same refl refl)
write_ok Fault Out n b c lead lead_new other other_new low w v same done = cc
write_ok Fault Fault n b c lead lead_new other other_new low w v same done = cc
write_ok Out Done n b c lead lead_new other other_new low w v same done = set_now n b c other other_new low v
write_ok Out Out n b c lead lead_new other other_new low w v same done = cc
write_ok Out Fault n b c lead lead_new other other_new low w v same done = cc

-- the cells of a side where its write failed
either_now : (n b : ℕ) (c : Cell) (old new : DiskState) {f : Failed} → b < n → Writes old new b c (Err f)
    → (take n new.now ≡ take n old.now) ⊎ (take n new.now ≡ set (take n old.now) b c)
either_now n b c old new low w =
    elim w.err [ inl stays ↦ inl (ap (take n) stays) | inr put ↦ inr (ap (take n) put ∙ take-set-lt n old.now b c low) ]

-- those of a mirror, where no side succeeded
pub write_err : (a o : SideAnswer) (n b : ℕ) (c : Cell) (lead lead_new other other_new : DiskState)
    → b < n → SideWrites lead lead_new b c a
    → SideWrites other other_new b c o → any_done a o ≡ false
    → (now_of (lead_stays a o) n lead_new.now other_new.now ≡ now_of (is_asked a) n lead.now other.now) ⊎
    (now_of (lead_stays a o) n lead_new.now other_new.now ≡ set (now_of (is_asked a) n lead.now other.now) b c)
write_err Done o n b c lead lead_new other other_new low w v done = cc
write_err Fault Done n b c lead lead_new other other_new low w v done = cc
write_err Fault Out n b c lead lead_new other other_new low w v done = either_now n b c lead lead_new low w.1
write_err Fault Fault n b c lead lead_new other other_new low w v done = either_now n b c lead lead_new low w.1
write_err Out Done n b c lead lead_new other other_new low w v done = cc
write_err Out Out n b c lead lead_new other other_new low w v done = inl (ap (take n) v.cells.now)
write_err Out Fault n b c lead lead_new other other_new low w v done = either_now n b c other other_new low v.1

-- a lead that stays in has the mirror's cells
pub lead_now : (stays : Bool) (n : ℕ) (x y : List Cell) → IsTrue stays → take n x ≡ now_of stays n x y
lead_now true n x y e = refl
lead_now false n x y e = cc

-- and so has the other
other_now : (a o : SideAnswer) (n b : ℕ) (c : Cell) (lead lead_new other other_new : DiskState)
    → b < n → SideWrites lead lead_new b c a
    → SideWrites other other_new b c o
    → (IsTrue (is_asked a) → IsTrue (is_asked o) → take n other.now ≡ take n lead.now)
    → IsTrue (other_stays a o) → take n other_new.now ≡ now_of (lead_stays a o) n lead_new.now other_new.now
other_now Out o n b c lead lead_new other other_new low w v same stays = refl
other_now Done Out n b c lead lead_new other other_new low w v same stays = cc
other_now Done Done n b c lead lead_new other other_new low w v same stays =
    set_now n b c other other_new low v ∙ ap (λ l. set l b c) (same refl refl) ∙ sym (set_now n b c lead lead_new low w)
other_now Done Fault n b c lead lead_new other other_new low w v same stays = cc
other_now Fault Out n b c lead lead_new other other_new low w v same stays = cc
other_now Fault Done n b c lead lead_new other other_new low w v same stays = refl
other_now Fault Fault n b c lead lead_new other other_new low w v same stays = cc

write_within : (n : ℕ) (x : List Cell) (may : ℕ → List Cell) (b : ℕ) (snap : Snapshot Cell)
    → b < n → IsSizedCell snap.value → IsWithin may n
    → IsWithin (written n x may b snap) n
write_within n x may b snap low size w = record {
  beyond = λ k c past has. elim (written_cases n x may b k snap c has)
      [ inl before ↦ w.beyond k c past before | inr (same, is) ↦ omega arith ];
  sized = λ k c has. elim (written_cases n x may b k snap c has) [
    | inl before ↦ w.sized k c before
    | inr (same, is) ↦ let F : Cell → Type 0 = λ y. IsSizedCell y in subst F (sym is) size
  ];
}

-- what holds of the cells after a write
pub write_mirrored : (a o : SideAnswer) (n : ℕ) (x : List Cell) (may : ℕ → List Cell) (b : ℕ) (snap : Snapshot Cell)
    (lead lead_new other other_new : DiskState) → b < n → IsSizedCell snap.value
    → SideWrites lead lead_new b snap.value a → SideWrites other other_new b snap.value o
    → IsMirrored n may (now_of (is_asked a) n lead.now other.now) (is_asked a) (is_asked o) lead other
    → IsMirrored n (written n x may b snap) (now_of (lead_stays a o) n lead_new.now other_new.now) (lead_stays a o)
    (other_stays a o) lead_new other_new
write_mirrored a o n x may b snap lead lead_new other other_new low size w v k = record {
  lead = λ stays. record {
    now = lead_now (lead_stays a o) n lead_new.now other_new.now stays;
    covers = side_covers a n x may lead lead_new b snap (lead_stays-asked a o stays) w
        (k.lead (lead_stays-asked a o stays)).covers;
  };
  other = λ stays. record {
    now = other_now a o n b snap.value lead lead_new other other_new low w v
        (λ e f. (k.other f).now ∙ sym (k.lead e).now) stays;
    covers = side_covers o n x may other other_new b snap (other_stays-asked a o stays) v
        (k.other (other_stays-asked a o stays)).covers;
  };
  within = write_within n x may b snap low size k.within;
}
