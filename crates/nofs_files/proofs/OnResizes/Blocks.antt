-- The blocks of what is cut, and the writes that may come.
use Rattle.std.proofs.Common.{◌≡◌, ℕ, ◌+◌, ◌^◌, inl, inr, Bool, true, false, List, replicate, Option, Some, Result, Ok}
use Rattle.std.proofs.Common.{Err, refl, sym, ◌∙◌, subst, subst₂}
use Rattle.std.proofs.lemmas.List.{length-replicate}
use Rattle.nofs_ptrs.specs.Paths.{slot_limit}
use Rattle.nofs_bits.specs.Bits.{is_set}
use Rattle.nofs_disk.specs.Chains.{StaysButFaults-trans}
use Rattle.nofs_disk.specs.Disk.{DiskState, IsDisk, Writes}
use Rattle.nofs_disk.specs.declared.Failed.{Failed}
use Rattle.nofs_disk.specs.declared.tag.Cell.{Cell}
use Rattle.nofs_super.specs.declared.superblock.SuperBlock.{SuperBlock}
use Rattle.nofs_model.specs.Geometry.{Image}
use Rattle.nofs_agree.specs.declared.reads.LastRead.{LastRead}
use Rattle.nofs_state.specs.Inodes.Blocks.{Marked, MarksAll}
use Rattle.nofs_state.specs.Writes.Cells.{WritesAll}
use Rattle.nofs_state.proofs.OnBooks.Bits.{set-none}
use Rattle.nofs_state.proofs.OnWrites.TwoWrites.{first-fails, then-others}
use Rattle.nofs_files.specs.Resizes.{MarksCut, first_cut, maybe}
use Rattle.nofs_files.specs.declared.resizes.cuts.NewCell.{NewCell}

pub cut-map-ends : (old mid new : DiskState) (at : SuperBlock) (i m : ℕ) (z b c : List Bool) (last next : LastRead)
    → z ≡ replicate at.blocks false
    → MarksAll old mid at i m slot_limit z b last (Ok tt)
    → MarksAll mid new at i (first_cut m) (2 ^ 32 + 66) b c next (Ok tt)
    → MarksCut old new at i m next (Ok c)
cut-map-ends old mid new at i m z b c last next ez first second = record {
  stays = StaysButFaults-trans old mid new first.stays second.stays;
  no_fault = λ e. second.no_fault refl ∙ first.no_fault refl;
  map = record {
    size = two.size ∙ one.size ∙ length-replicate at.blocks false;
    in_area = λ q t. elim (two.area q t) [
      | inr high ↦ high
      | inl was ↦ elim (one.area q was) [ inr high ↦ high | inl no_bit ↦ absurd (none q no_bit) ]
    ];
    sound = λ tells q t. elim (two.sound tells q t) [
      | inr among ↦ inr among
      | inl was ↦ elim (one.sound tells q was) [ inr among ↦ inl among | inl no_bit ↦ absurd (none q no_bit) ]
    ];
    contents = λ tells q x from low held. two.keeps x.block (one.whole tells q x from low held);
    pointers = λ tells q x from high held. two.whole tells q x from high held;
  };
  kept_last = second.kept;
  refused = tt;
}
  where
    none : (q : ℕ) → is_set (replicate at.blocks false) q ≡ true → ⊥
    none q t = let e = set-none at.blocks q in cc (t, e)

    now-one : new.now ≡ old.now
    now-one = second.stays.cells.now ∙ first.stays.cells.now

    tells-one : new.tells ≡ old.tells
    tells-one = second.stays.disk.tells ∙ first.stays.disk.tells

    one : Marked new.now new.tells at i m slot_limit (replicate at.blocks false) b
    one = subst (λ (l : List Bool). Marked new.now new.tells at i m slot_limit l b) ez
        (subst₂ (λ (X : Image) (told : Bool). Marked X told at i m slot_limit z b) (sym now-one)
        (sym tells-one) first.marked_as)

    two : Marked new.now new.tells at i (first_cut m) (2 ^ 32 + 66) b c
    two = subst₂ (λ (X : Image) (told : Bool). Marked X told at i (first_cut m) (2 ^ 32 + 66) b c)
        (sym second.stays.cells.now) (sym second.stays.disk.tells)
        second.marked_as

-- a write that comes is done, and then the others
pub maybe-then : (old mid new : DiskState) (w : Option NewCell) (it : NewCell) (ws : List (ℕ × Cell))
    (r : Result (Unit {0}) Failed) → IsDisk mid
    → w ≡ Some it → Writes old mid it.block it.cell (Ok tt) → WritesAll mid new ws r → WritesAll old new (maybe w ws) r
maybe-then old mid new w it ws r is e one others =
    subst (λ (q : Option NewCell). WritesAll old new (maybe q ws) r) (sym e)
    (then-others old mid new it.block it.cell ws r is one others)

-- or it failed
pub maybe-fails : (old new : DiskState) (w : Option NewCell) (it : NewCell) (ws : List (ℕ × Cell)) (x : Failed)
    → IsDisk new → w ≡ Some it
    → Writes old new it.block it.cell (Err x) → WritesAll old new (maybe w ws) (Err x)
maybe-fails old new w it ws x is e one = subst (λ (q : Option NewCell). WritesAll old new (maybe q ws) (Err x)) (sym e)
    (first-fails old new it.block it.cell ws x is one)
