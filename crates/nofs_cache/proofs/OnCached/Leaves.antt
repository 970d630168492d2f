-- What a crash may leave of the disk below, it may leave of the cached disk.
use Rattle.std.proofs.Common.{◌≡◌, ℕ, ◌+◌, ◌*◌, ◌≤◌, List, [], ◌∷◌, length, arith, inl, inr, refl}
use Rattle.nofs_disk.specs.Disk.{DiskState}
use Rattle.nofs_cache.specs.declared.dirty.cells.DirtyEntry.{DirtyEntry}
use Rattle.nofs_cache.specs.declared.dirty.past.CacheCall.{CacheCall}
use Rattle.nofs_cache.specs.Cached.{IsMarked, LeavesAll, began, cache_state, ended_at, last_end}

-- the last call ended up to the present moment of the disk below
pub marked_last : (first : ℕ) (past : List CacheCall) (moment : ℕ) → IsMarked first past moment
    → last_end first past ≤ moment
marked_last first [] moment marked = marked.start
marked_last first (call ∷ past) moment marked = marked.ends 0 (omega arith)

-- at the present moment, all that the disk below may leave since the last call
pub leaves_now : (under first : DiskState) (past : List CacheCall) (entries : List DirtyEntry) (spare from : ℕ)
    → last_end first.moment past ≤ from
    → LeavesAll from under (cache_state under first past entries spare) (2 * length past)
leaves_now under first [] entries spare from low = record {
  each =
      λ at image begun high left. (refl, record { at = at; low = omega arith; high = high; left = left });
}
leaves_now under first (call ∷ past) entries spare from low =
    record {
      each = λ at image begun high left. inl (refl, record { at = at; low = omega arith; high = high; left = left });
    }

-- at the moment during the last call, all that the disk below may leave since it began
pub leaves_during : (under new first : DiskState) (past : List CacheCall) (call : CacheCall)
    (entries : List DirtyEntry) (spare : ℕ)
    → began call ≡ under.moment → ended_at call ≡ new.moment
    → LeavesAll under.moment new (cache_state new first (call ∷ past) entries spare) (2 * length past + 1)
leaves_during under new first past call entries spare begins ends =
    record {
      each = λ at image begun high left.
          inr (inl (refl, record { at = at; low = omega arith; high = omega arith; left = left }));
    }
