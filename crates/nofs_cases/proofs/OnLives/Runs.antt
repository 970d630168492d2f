-- The instances.
use Rattle.std.proofs.Common.{◌≡◌, ℕ, zero, suc, ◌<◌, ◌≤◌, inl, inr, Bool, true, false, cond, leb, ◌&&◌, [], ◌∷◌, refl}
use Rattle.std.proofs.Common.{sym, ap, ◌∙◌, subst, arith}
use Rattle.std.proofs.lemmas.Bool.{cases_lt}
use Rattle.nofs_inode.specs.declared.inode.Record.{Record}
use Rattle.nofs_inode.specs.InodeRecords.{free_record, record_of, record_at, fields_in, link_in}
use Rattle.nofs_disk.specs.Pointer.{null, is_null, pointer_in}
use Rattle.nofs_disk.specs.Number.{number_at}
use Rattle.nofs_model.specs.Geometry.{Image, is_mountable, super_at, inode, is_inode}
use Rattle.nofs_super.specs.Super.{super_in, is_super}
use Rattle.nofs_super.specs.Geometry.{is_geometry, format_fault}
use Rattle.nofs_model.specs.Slots.{record_pointer}
use Rattle.nofs_history.specs.Since.{mark, is_flushed}
use Rattle.nofs_history.specs.World.{World, world_of}
use Rattle.nofs_history.specs.Next.{Next, AfterFault, ByRow, Done, ByRead, ByWrite}
use Rattle.nofs_history.specs.declared.machine.history.Entry1.{Entry1}
use Rattle.nofs_crashlaw.specs.Machine.Laws.{LawTotal}
use Rattle.nofs_crashlaw.proofs.OnHistories.Unflushed.{law-unflushed}
use Rattle.nofs_cases.specs.Lives.Runs.{disk, NewDisk, TwoLives, EarlyLife}

-- a step at other moments
at-moments : (W : World) (e : Entry1) (V : World) (from to : ℕ) → Next W e V
    → Next W (record e { from = from; to = to }) V
at-moments W e V from to (AfterFault s r c same) = AfterFault s r c same
at-moments W e V from to (ByRow why s rows r c k st l) = ByRow why s rows r c k st l
at-moments W e V from to (Done s rows r claim fs hs serial vs l) = Done s rows r claim fs hs serial vs l
at-moments W e V from to (ByRead s rows r c k st l) = ByRead s rows r c k st l
at-moments W e V from to (ByWrite s rows m r claim k st l) = ByWrite s rows m r claim k st l

no-flush : (e : Entry1) → mark (record e { from = 4; to = 6 } ∷ []) 5 ≡ 0
no-flush e = go (is_flushed e.reply)
  where
    go : (b : Bool) → cond {A = ℕ} (b && leb 6 5) 1 0 ≡ 0
    go true = refl
    go false = refl

pub two-lives : LawTotal → TwoLives
two-lives total B found Y s new up raised =
    let t = total (world_of B 0) s in
    let e : Entry1 = record t.0 { from = 4; to = 6 } in (
      e,
      t.1,
      t.2,
      (
        record {
          moment = 5;
          left = B;
          found = found;
          allowed = law-unflushed B (e ∷ []) 5 (no-flush t.0);
          between = inr up;
          raised = raised;
        },
        refl,
        (new, (t.1, refl, omega arith, (λ f. omega arith), at-moments (world_of B 0) t.0 t.1 4 6 t.4, refl)),
      ),
    )

pub early-life : EarlyLife
early-life B Y new raised = (
  record { moment = 0; left = B; found = B; allowed = law-unflushed B [] 0 refl; between = inl refl; raised = raised },
  refl,
  (new, refl),
)

-- The disk

pub mountable : is_mountable disk ≡ true
unfolding super_at super_in is_super is_geometry format_fault number_at
mountable = refl

pub mount-is : (super_at disk).mount ≡ 1
unfolding super_at super_in number_at
mount-is = refl

-- the pointers of a record that has none
all-null : (r : Record) → r.direct ≡ free_record.direct → r.leaf ≡ null → r.top ≡ null → (n : ℕ)
    → n < 10 → is_null (record_pointer r n) ≡ true
all-null r d l t zero lt = rw d refl
all-null r d l t (suc zero) lt = rw d refl
all-null r d l t (suc (suc zero)) lt = rw d refl
all-null r d l t (suc (suc (suc zero))) lt = rw d refl
all-null r d l t (suc (suc (suc (suc zero)))) lt = rw d refl
all-null r d l t (suc (suc (suc (suc (suc zero))))) lt = rw d refl
all-null r d l t (suc (suc (suc (suc (suc (suc zero)))))) lt = rw d refl
all-null r d l t (suc (suc (suc (suc (suc (suc (suc zero))))))) lt = rw d refl
all-null r d l t (suc (suc (suc (suc (suc (suc (suc (suc zero)))))))) lt = rw l refl
all-null r d l t (suc (suc (suc (suc (suc (suc (suc (suc (suc zero))))))))) lt = rw t refl
all-null r d l t (suc (suc (suc (suc (suc (suc (suc (suc (suc (suc n)))))))))) lt = absurd (omega (arith, lt))

abbrev HasNone : Record → Type 0
HasNone r = (r.direct ≡ free_record.direct) × (r.leaf ≡ null) × (r.top ≡ null)

past-inodes : (X : Image) (i : ℕ) → is_inode X i ≡ false → inode X i ≡ free_record
unfolding inode
past-inodes X i e = rw e refl

and-false : (b : Bool) → (b && false) ≡ false
and-false true = refl
and-false false = refl

inodes-are : (super_at disk).inodes ≡ 4
unfolding super_at super_in number_at
inodes-are = refl

-- there are four inodes
only-four : (i : ℕ) → 4 < i → is_inode disk i ≡ false
only-four i lt =
    let n = inodes-are in
    let f : leb i (super_at disk).inodes ≡ false = ap (λ (m : ℕ). leb i m) n ∙ above i lt in
    ap (λ (b : Bool). leb 1 i && b) f ∙ and-false (leb 1 i)
  where
    above : (i : ℕ) → 4 < i → leb i 4 ≡ false
    above i lt = grind arith

first-records : (i : ℕ) → i ≤ 4 → HasNone (inode disk i)
unfolding inode super_at super_in record_at record_of fields_in link_in pointer_in number_at
first-records zero le = (refl, refl, refl)
first-records (suc zero) le = (refl, refl, refl)
first-records (suc (suc zero)) le = (refl, refl, refl)
first-records (suc (suc (suc zero))) le = (refl, refl, refl)
first-records (suc (suc (suc (suc zero)))) le = (refl, refl, refl)
first-records (suc (suc (suc (suc (suc i))))) le = absurd (omega (arith, le))

records : (i : ℕ) → HasNone (inode disk i)
records i = elim (cases_lt 4 i) [
  | inl lt ↦ subst HasNone (sym (past-inodes disk i (only-four i lt))) (refl, refl, refl)
  | inr le ↦ first-records i le
]

pub new-disk : NewDisk
new-disk = (
  mountable,
  record { mount = mount-is; empty = λ i n lt. let r = records i in all-null (inode disk i) r.0 r.1 r.2 n lt },
)
