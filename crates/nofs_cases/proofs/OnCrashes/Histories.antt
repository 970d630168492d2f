-- The laws of histories, over the formatted disk and a Put of one byte.
use Rattle.std.proofs.Common.{◌≡◌, ℕ, zero, suc, ◌^◌, true, false, eqb, []}
use Rattle.std.proofs.Common.{Option, Some, None, is_some, refl, sym, ap, subst, arith, eqb-true}
use Rattle.nofs_inode.specs.declared.inode.Record.{Record}
use Rattle.nofs_model.specs.Geometry.{inode}
use Rattle.nofs_model.specs.Slots.{value}
use Rattle.nofs_model.specs.Files.{FileState}
use Rattle.nofs_history.specs.Machine.{gives}
use Rattle.nofs_history.specs.Since.{agreed_files}
use Rattle.nofs_history.specs.History.{SameFile}
use Rattle.nofs_crashlaw.proofs.OnHistories.Unflushed.{self-match, law-unflushed}
use Rattle.nofs_cases.specs.Disks.Images.{first_image}
use Rattle.nofs_cases.specs.Disks.Worlds.{put_files}
use Rattle.nofs_cases.proofs.OnDisks.Matches.{same-none}
use Rattle.nofs_cases.proofs.OnSteps.Files.{first-inode, first-old, put-touches, put-match}
use Rattle.nofs_cases.specs.Crashes.Put.{put_gives, StepCase, LaterCase, NamesCase, UnflushedCase, RestCase}
use Rattle.nofs_cases.proofs.OnCrashes.Put.{first-rest, mark-is, explained, own-pick}
use Rattle.nofs_cases.proofs.OnCrashes.Writes.{only-proper}

-- The laws of histories

pub step-case : StepCase
step-case = record {
  under_way = record { all_begun = refl; begun_now = refl; same_mark = refl; mark_within = omega arith };
  mark = mark-is;
  size = refl;
  super = refl;
  explained = explained;
  pick = own-pick;
  files = self-match first_image;
  proper = only-proper;
}

pub later-case : LaterCase
later-case = ((omega arith, (λ f. omega arith), tt), law-unflushed first_image [] 0 refl)

pub names-case : NamesCase
names-case = (law-unflushed first_image [] 0 refl).versions

pub unflushed-case : UnflushedCase
unflushed-case = refl

no-file : (o : Option FileState) → SameFile None o → is_some o ≡ true → ⊥
no-file None s e = cc e
no-file (Some f) s e = s

absent : (i : ℕ) → (inode first_image i).kind ≡ None → is_some (agreed_files first_image i) ≡ true → ⊥
absent i k e = no-file (agreed_files first_image i) (same-none first_image i k) e

two-apart : (n : ℕ) → eqb 2 (suc (suc (suc n))) ≡ false
two-apart n = grind arith

no-value-given : (i g k : ℕ)
    → eqb i 2 ≡ false → is_some (agreed_files first_image i) ≡ false → put_gives.slots i g k ≡ None
unfolding gives
no-value-given zero g k t e = refl
no-value-given (suc zero) g k t e = refl
no-value-given (suc (suc zero)) g k t e = cc t
no-value-given (suc (suc (suc n))) g k t e = rw (two-apart n) refl

no-meta-given : (i g : ℕ) → eqb i 2 ≡ false → is_some (agreed_files first_image i) ≡ false → put_gives.metas i g ≡ None
unfolding gives
no-meta-given zero g t e = refl
no-meta-given (suc zero) g t e = refl
no-meta-given (suc (suc zero)) g t e = cc t
no-meta-given (suc (suc (suc n))) g t e = rw (two-apart n) refl

pub rest-case : RestCase
rest-case = (
  first-rest,
  record {
    before = self-match first_image;
    after = put-match;
    touches = put-touches;
    old = λ i live. first-old (2 ^ 40) (omega arith) i;
    owned = λ i t live. subst (λ (j : ℕ). is_some (put_files j) ≡ true) (sym (eqb-true i 2 t)) refl;
    stays = stays;
    no_value = no-value-given;
    no_meta = no-meta-given;
  },
)
  where
    stays : (i : ℕ) → eqb i 2 ≡ false → is_some (agreed_files first_image i) ≡ true → is_some (put_files i) ≡ true
    stays zero t e = absurd (absent 0 (ap (λ (r : Record). r.kind) (first-inode 0)) e)
    stays (suc zero) t e = refl
    stays (suc (suc zero)) t e = refl
    stays (suc (suc (suc zero))) t e = absurd (absent 3 (ap (λ (r : Record). r.kind) (first-inode 3)) e)
    stays (suc (suc (suc (suc n)))) t e = absurd
        (absent (suc (suc (suc (suc n)))) (ap (λ (r : Record). r.kind) (first-inode (suc (suc (suc (suc n)))))) e)
