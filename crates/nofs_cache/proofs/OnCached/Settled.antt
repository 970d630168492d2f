-- The disk below is flushed when no block is dirty.
use Rattle.std.proofs.Common.{◌≡◌, ℕ, List, [], ◌∷◌, length, map, arith, refl, sym, ap, subst, ◌∙◌, Result, Ok, Err}
use Rattle.std.proofs.lemmas.List.{ext_get_or}
use Rattle.nofs_disk.specs.declared.Failed.{Failed}
use Rattle.nofs_disk.specs.declared.tag.Cell.{Cell}
use Rattle.nofs_disk.specs.Disk.{DiskState, Flushes, IsDisk, Picks, no_cell}
use Rattle.nofs_disk.specs.Moments.{AtEach-flushes}
use Rattle.nofs_cache.specs.declared.dirty.cells.DirtyEntry.{DirtyEntry}
use Rattle.nofs_cache.specs.Cached.{Agrees, Covers, WrittenBack, SettlesDirty}
use Rattle.nofs_cache.proofs.OnCached.WritesBelow.{Covers-picks, WrittenBack-trans}

-- where no block is dirty, the cells below are the cells
pub agrees_clean : (now below : List Cell) (entries : List DirtyEntry)
    → entries ≡ [] → Agrees now below entries → below ≡ now
agrees_clean now below entries none ag =
    let len : length entries ≡ 0 = ap length none in
    ext_get_or no_cell below now ag.len (λ b low. ag.clean b (record { none = λ i in_range e. absurd (omega arith) }))

-- where no block is dirty there is no entry
pub no_entries : (entries : List DirtyEntry) → map (λ e. e.block) entries ≡ [] → entries ≡ []
no_entries [] none = refl
no_entries (e ∷ entries) none = cc

flush_covers : (may : ℕ → List Cell) (n : ℕ) (old new : DiskState)
    (entries : List DirtyEntry) {result : Result (Unit {0}) Failed} → Flushes old new result
    → n ≡ old.blocks → Covers may n old.may entries → Covers may n new.may entries
flush_covers may n old new entries f same cov =
    record { below = λ b c low has. cov.below b c low (f.may b c (omega arith) has); kept = cov.kept }

pub flush_writes_back : (old new : DiskState) (entries : List DirtyEntry) {result : Result (Unit {0}) Failed}
    → Flushes old new result → IsDisk new
    → WrittenBack old new entries entries
flush_writes_back old new entries f is = record {
  disk = f.disk;
  past = f.past;
  later = let e = f.moment in omega arith;
  covers = λ may n same cov. flush_covers may n old new entries f same cov;
  picks = λ may n from same cov at.
      let F : ℕ → Type 0 = λ k. (image : List Cell) → Picks old.may k image → Picks may n image in
      let G : ℕ → Type 0 = λ k. (image : List Cell) → Picks new.may k image → Picks may n image in
      AtEach-flushes (λ m image. Picks may n image) from old new is f
      (subst F same (λ image picks. Covers-picks may n old.may entries image cov picks))
      (subst G (same ∙ sym f.disk.blocks)
      (λ image picks. Covers-picks may n new.may entries image (flush_covers may n old new entries f same cov) picks))
      at;
  agrees = λ now ag. let F : List Cell → Type 0 = λ l. Agrees now l entries in subst F (sym f.now) ag;
  fewer = λ b has. has;
}

pub settles_flush : (old mid new : DiskState) (before after : List DirtyEntry) (result : Result (Unit {0}) Failed)
    → WrittenBack old mid before after
    → after ≡ [] → mid.faults ≡ old.faults → IsDisk new → Flushes mid new result
    → SettlesDirty old new before after result
settles_flush old mid new before after (Ok u) writes_back none no_fault is f = record {
  writes_back = WrittenBack-trans old mid new before after after writes_back (flush_writes_back mid new after f is);
  clean = none;
  settled = f.settled;
  was = λ now ag. f.was ∙ agrees_clean now mid.now after none (writes_back.agrees now ag);
  cause = tt;
  no_fault = f.no_fault ∙ no_fault;
}
settles_flush old mid new before after (Err failed) writes_back none no_fault is f = record {
  writes_back = WrittenBack-trans old mid new before after after writes_back (flush_writes_back mid new after f is);
  clean = tt;
  settled = tt;
  was = λ now ag. tt;
  cause = let a = writes_back.disk.faults in let b = f.cause in omega arith;
  no_fault = tt;
}
