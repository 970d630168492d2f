-- The slots of a run, one after the other.
use Rattle.std.proofs.Common.{◌≡◌, ℕ, ◌+◌, ◌-◌, ◌*◌, ◌/◌, ◌<◌, ◌≤◌, List, ◌++◌, length, take, drop, arith}
use Rattle.std.proofs.Common.{refl, sym, ap, ◌∙◌, subst, inl, inr, min, true, false, not, ◌||◌}
use Rattle.std.specs.Prelude.{slice_range}
use Rattle.std.proofs.lemmas.Bool.{cases_lt}
use Rattle.std.proofs.lemmas.List.{drop-drop, drop_at, length-take-le, take-take, take_at}
use Rattle.std.proofs.lemmas.Slice.{between_is}
use Rattle.nofs_disk.specs.declared.tag.Cell.{Cell}
use Rattle.nofs_disk.specs.declared.tag.Pointer.{Pointer}
use Rattle.nofs_disk.specs.Disk.{IsSizedCell, cell_at}
use Rattle.nofs_disk.specs.Number.{put_bytes}
use Rattle.nofs_ptrs.specs.Paths.{Path, path_of, slot_limit}
use Rattle.nofs_model.specs.Geometry.{Image}
use Rattle.nofs_model.specs.Slots.{find, value, value_in}
use Rattle.nofs_model.specs.declared.image.path.PathAnswer.TheVariants.{Holds}
use Rattle.nofs_model.specs.declared.image.value.Value.TheVariants.{Bytes}
use Rattle.nofs_agree.specs.Reads.{IsLast}
use Rattle.nofs_agree.specs.declared.reads.LastRead.{LastRead}
use Rattle.nofs_reader.specs.Gets.{IsRun, RestKept, is_bytes, value_as}
use Rattle.nofs_reader.specs.Image.{disk_of, image_of}
use Rattle.nofs_reader.specs.declared.gets.RunKind.{RunKind}
use Rattle.nofs_reader.specs.declared.gets.RunKind.TheVariants as run

-- what was put, and what stands before it
pub put-before : (at : ℕ) (part bytes : List ℕ) → at ≤ length bytes → take at (put_bytes at part bytes) ≡ take at bytes
unfolding put_bytes
put-before at part bytes low =
    take_at (take at bytes) (part ++ drop (at + length part) bytes) at (length-take-le at bytes low)

put-part : (at n : ℕ) (part bytes : List ℕ) → at ≤ length bytes → length part ≡ n
    → slice_range (put_bytes at part bytes) at (at + n) ≡ part
unfolding put_bytes
put-part at n part bytes low len =
    ap (take (at + n - at))
    (drop_at (take at bytes) (part ++ drop (at + length part) bytes) at (length-take-le at bytes low))
    ∙ take_at part (drop (at + length part) bytes) (at + n - at) (omega (arith, len))

-- and behind it
pub put-behind : (at n : ℕ) (part bytes : List ℕ) → at ≤ length bytes → length part ≡ n
    → drop (at + n) (put_bytes at part bytes) ≡ drop (at + n) bytes
unfolding put_bytes
put-behind at n part bytes low len =
    ap (λ (m : ℕ). drop (at + m) (take at bytes ++ (part ++ drop (at + length part) bytes))) (sym len)
    ∙ sym (drop-drop (length part) at (take at bytes ++ (part ++ drop (at + length part) bytes)))
    ∙ ap (drop (length part)) (drop_at (take at bytes) (part ++ drop (at + length part) bytes) at
    (length-take-le at bytes low))
    ∙ drop_at part (drop (at + length part) bytes) (length part) refl
    ∙ ap (λ (m : ℕ). drop (at + m) bytes) len

-- a slot that holds, and whose bytes were put
pub slot-value : (X : Image) (i k : ℕ) (path : Path) (x : Pointer) (cell : Cell) (old new : List ℕ) (place : ℕ)
    → Holds x ≡ find X i path → path ≡ path_of k → cell ≡ cell_at X x.block → IsSizedCell cell
    → place + 1024 ≤ length old → new ≡ put_bytes place cell.payload old
    → value X i k ≡ Bytes (slice_range new place (place + 1024))
slot-value X i k path x cell old new place found same is sized room put =
    ap (value_in X) (ap (find X i) (sym same) ∙ sym found)
    ∙ ap (λ (c : Cell). Bytes c.payload) (sym is)
    ∙ ap Bytes (sym (ap (λ l. slice_range l place (place + 1024)) put
    ∙ put-part place 1024 cell.payload old (omega arith) sized.payload.len))

-- the bytes of a slot stay where those behind it are written
part-kept : (k n : ℕ) (old new : List ℕ) → k < n → take (1024 * n) new ≡ take (1024 * n) old
    → slice_range new (1024 * k) (1024 * k + 1024) ≡ slice_range old (1024 * k) (1024 * k + 1024)
part-kept k n old new low same =
    between_is new (1024 * k) (1024 * k + 1024)
    ∙ ap (drop (1024 * k)) (sym (take-take (1024 * k + 1024) (1024 * n) new (omega arith))
    ∙ ap (take (1024 * k + 1024)) same ∙ take-take (1024 * k + 1024) (1024 * n) old (omega arith))
    ∙ sym (between_is old (1024 * k) (1024 * k + 1024))

-- slot k of a run
abbrev pub IsAt : List ℕ → ℕ → ℕ → RunKind → List ℕ → ℕ → Type 0
IsAt bytes i from kind into k =
    value (image_of bytes) i (from + k) ≡ value_as kind (slice_range into (1024 * k) (1024 * k + 1024))

at-from : (bytes : List ℕ) (i from : ℕ) (kind : RunKind) (into : List ℕ) (k number place : ℕ) → number ≡ from + k
    → place ≡ 1024 * k → value (image_of bytes) i number ≡ value_as kind (slice_range into place (place + 1024))
    → IsAt bytes i from kind into k
at-from bytes i from kind into k number place n p h =
    ap (value (image_of bytes) i) (sym n) ∙ h ∙ ap (λ (q : ℕ). value_as kind (slice_range into q (q + 1024))) p

-- what stands behind a place stands behind a later one
further : (n : ℕ) (xs ys : List ℕ) → drop n xs ≡ drop n ys → drop (n + 1024) xs ≡ drop (n + 1024) ys
further n xs ys e = sym (drop-drop 1024 n xs) ∙ ap (drop 1024) e ∙ drop-drop 1024 n ys

-- the first slots were read
pub record Running (bytes : List ℕ) (i from most room : ℕ) (kind : RunKind) (into : List ℕ) (last : LastRead)
    (slots : ℕ) (first : List ℕ) : Type 0 where
  pub behind : drop (1024 * slots) into ≡ drop (1024 * slots) first
  pub bare : is_bytes kind ≡ false → into ≡ first
  pub kept : IsLast (disk_of bytes) last
  pub len : length into ≡ room
  pub fits : 1024 * most ≤ room
  pub range : from + most ≤ slot_limit
  pub some : 1 ≤ slots
  pub low : slots ≤ most
  pub each : (k : ℕ) → k < slots → IsAt bytes i from kind into k

pub run-begins : (bytes : List ℕ) (i from most room : ℕ) (kind : RunKind) (into first : List ℕ) (last : LastRead)
    → drop (0 + 1024) into ≡ drop (0 + 1024) first → (is_bytes kind ≡ false → into ≡ first)
    → IsLast (disk_of bytes) last → length into ≡ room → 1024 ≤ room → from < slot_limit
    → most ≡ min (room / 1024) (slot_limit - from)
    → value (image_of bytes) i from ≡ value_as kind (slice_range into 0 (0 + 1024))
    → Running bytes i from most room kind into last 1 first
run-begins bytes i from most room kind into first last behind bare kept len some low is here = record {
  behind = behind;
  bare = bare;
  kept = kept;
  len = len;
  fits = omega (arith, is);
  range = omega (arith, is);
  some = omega arith;
  low = omega (arith, is, some, low);
  each = λ k small. at-from bytes i from kind into k from 0 (omega (arith, small)) (omega (arith, small)) here;
}

pub run-goes : (bytes : List ℕ) (i from most room : ℕ) (kind : RunKind) (old new first : List ℕ) (last next : LastRead)
    (slots : ℕ) → Running bytes i from most room kind old last slots first → slots < most
    → drop (1024 * slots + 1024) new ≡ drop (1024 * slots + 1024) old → (is_bytes kind ≡ false → new ≡ old)
    → IsLast (disk_of bytes) next
    → length new ≡ length old → take (1024 * slots) new ≡ take (1024 * slots) old
    → value (image_of bytes) i (from + slots)
    ≡ value_as kind (slice_range new (1024 * slots) (1024 * slots + 1024))
    → Running bytes i from most room kind new next (slots + 1) first
run-goes bytes i from most room kind old new first last next slots run low behind bare kept len before here = record {
  behind = ap (λ (n : ℕ). drop n new) {x = 1024 * (slots + 1)} {y = 1024 * slots + 1024} (omega arith) ∙ behind
      ∙ further (1024 * slots) old first run.behind
      ∙ ap (λ (n : ℕ). drop n first) {x = 1024 * slots + 1024} {y = 1024 * (slots + 1)} (omega arith);
  bare = λ e. bare e ∙ run.bare e;
  kept = kept;
  len = len ∙ run.len;
  fits = run.fits;
  range = run.range;
  some = omega arith;
  low = omega (arith, low);
  each = λ k small. elim (cases_lt k slots) [
    | inl earlier ↦ run.each k earlier ∙ ap (value_as kind) (sym (part-kept k slots old new earlier before))
    | inr late ↦ at-from bytes i from kind new k (from + slots) (1024 * slots) (omega (arith, small, late))
        (omega (arith, small, late)) here
  ];
}

-- a run ends before a slot of another kind, of which nothing was put
pub run-other : (bytes : List ℕ) (i from most room : ℕ) (kind : RunKind) (old new first : List ℕ) (last : LastRead)
    (slots : ℕ) → Running bytes i from most room kind old last slots first
    → length new ≡ length old → take (1024 * slots) new ≡ take (1024 * slots) old
    → IsRun (image_of bytes) i from new (record { kind = kind; slots = slots })
run-other bytes i from most room kind old new first last slots run len before =
    let r = run.range in
    let l = run.low in
    let f = run.fits in
    let e = run.len in
    record {
      some = run.some;
      range = omega (arith, r, l);
      fits = omega (arith, f, l, e, len);
      each = λ k small. run.each k small ∙ ap (value_as kind) (sym (part-kept k slots old new small before));
    }

pub rest-other : (bytes : List ℕ) (i from most room : ℕ) (kind next : RunKind) (old new first : List ℕ)
    (last : LastRead) (slots : ℕ) → Running bytes i from most room kind old last slots first
    → (next ≡ kind → ⊥) → (is_bytes kind ≡ false → new ≡ old) → (is_bytes next ≡ false → new ≡ old)
    → RestKept first new (record { kind = kind; slots = slots })
rest-other bytes i from most room kind next old new first last slots running other unwanted kept =
    let same = nothing kind next other unwanted kept in
    record {
      behind = ap (drop (1024 * slots)) same ∙ running.behind;
      bare = λ e. same ∙ running.bare e;
    }
  where
    nothing : (a b : RunKind) → (b ≡ a → ⊥) → (is_bytes a ≡ false → new ≡ old) → (is_bytes b ≡ false → new ≡ old)
        → new ≡ old
    nothing run.Bytes run.Bytes o u k = absurd (o refl)
    nothing run.Bytes run.Holes o u k = k refl
    nothing run.Bytes run.Lost o u k = k refl
    nothing run.Holes b o u k = u refl
    nothing run.Lost b o u k = u refl

-- or where there is room for no more
pub run-ends : (bytes : List ℕ) (i from most room : ℕ) (kind : RunKind) (into : List ℕ) (last : LastRead) (slots : ℕ)
    (first : List ℕ) → Running bytes i from most room kind into last slots first → most ≤ slots
    → IsRun (image_of bytes) i from into (record { kind = kind; slots = most })
run-ends bytes i from most room kind into last slots first run whole =
    let l = run.low in
    let f = run.fits in
    let e = run.len in
    let s = run.some in
    record {
      some = omega (arith, s, l);
      range = run.range;
      fits = omega (arith, f, e);
      each = λ k small. run.each k (omega (arith, small, whole));
    }

pub rest-ends : (bytes : List ℕ) (i from most room : ℕ) (kind : RunKind) (into : List ℕ) (last : LastRead) (slots : ℕ)
    (first : List ℕ) → Running bytes i from most room kind into last slots first → most ≤ slots
    → RestKept first into (record { kind = kind; slots = most })
rest-ends bytes i from most room kind into last slots first running whole =
    let l = running.low in
    record {
      behind = subst (λ (n : ℕ). drop (1024 * n) into ≡ drop (1024 * n) first) {x = slots} {y = most}
          (omega (arith, l, whole)) running.behind;
      bare = running.bare;
    }

-- a slot's value is given where its bytes were put, or it has none
pub wanted-or-bare : (kind next : RunKind) → kind ≡ next → (is_bytes kind || not (is_bytes next)) ≡ true
wanted-or-bare run.Bytes next e = refl
wanted-or-bare run.Holes next e = ap (λ (k : RunKind). not (is_bytes k)) (sym e)
wanted-or-bare run.Lost next e = ap (λ (k : RunKind). not (is_bytes k)) (sym e)
