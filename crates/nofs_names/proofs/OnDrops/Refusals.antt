-- Whether what Drop finds may go.
use Rattle.std.proofs.Common.{◌≡◌, ◌≢◌, zero, suc, cond, ℕ, ◌+◌, ◌<◌, ◌≤◌, Bool, true, false, Option, Some, None}
use Rattle.std.proofs.Common.{is_some, inl, inr, Ok, Err, refl, ap, ◌∙◌, arith}
use Rattle.std.proofs.lemmas.Bool.{cases_lt}
use Rattle.nofs_dirent.specs.Entries.{entry_limit}
use Rattle.nofs_disk.specs.Disk.{DiskState}
use Rattle.nofs_disk.specs.Chains.{StaysButFaults-refl}
use Rattle.nofs_inode.specs.declared.inode.FileKind.TheVariants.{File, Directory}
use Rattle.nofs_super.specs.declared.superblock.SuperBlock.{SuperBlock}
use Rattle.nofs_model.specs.Geometry.{Image}
use Rattle.nofs_model.specs.Files.{files_in, agreed, is_folder, FileState, Files}
use Rattle.nofs_history.specs.Search.{least_from}
use Rattle.nofs_history.specs.Machine.{is_folder_at, is_paired}
use Rattle.nofs_history.specs.History.{FilesMatch}
use Rattle.nofs_history.specs.declared.machine.replies.Refusal.TheVariants as refusal
use Rattle.nofs_crashlaw.proofs.OnUntouched.Matches.{matched-file}
use Rattle.nofs_agree.specs.declared.reads.LastRead.{LastRead}
use Rattle.nofs_names.specs.Searches.Slots.{KnowsPaired}
use Rattle.nofs_names.specs.Searches.Refusals.{ByRow}
use Rattle.nofs_names.specs.declared.searches.slots.Paired.{Paired}
use Rattle.nofs_names.specs.Drops.Emptiness.{NamesOn}
use Rattle.nofs_names.specs.Drops.Answers.{FindsEmpty}
use Rattle.nofs_names.proofs.OnSteps.Refusals.{folder-at}

-- what passes is found
least-some : (test : ℕ → Bool) (at n e : ℕ)
    → test e ≡ true → at ≤ e → e < at + n → is_some (least_from test at n) ≡ true
unfolding least_from
least-some test at zero e h low high = absurd (omega (arith, low, high))
least-some test at (suc n) e h low high =
    go (test at) refl (λ less. least-some test (suc at) n e h less (omega (arith, high)))
  where
    go : (b : Bool) → test at ≡ b → (suc at ≤ e → is_some (least_from test (suc at) n) ≡ true)
        → is_some (cond b (Some at) (least_from test (suc at) n)) ≡ true
    go true eb rest = refl
    go false eb rest = rest (let ne : at ≢ e = λ s. let z = ap test s in cc (z, h, eb) in by-order ne)
      where
        by-order : at ≢ e → suc at ≤ e
        by-order ne = elim (cases_lt at e)
            [ inl less ↦ omega (arith, less) | inr high2 ↦ absurd (ne (omega (arith, high2, low))) ]

there-of : (F : Files) (X : Image) (i : ℕ) → FilesMatch F X → is_folder_at F i ≡ true → agreed (files_in X) i ≡ true
there-of F X i match f = (matched-file F X i match (some (F i) f)).agreed
  where
    some : (o : Option FileState) → (elim o [ None ↦ false | Some q ↦ is_folder q.kind ]) ≡ true → is_some o ≡ true
    some None e = cc e
    some (Some q) e = refl

module _ (old : DiskState) (at : SuperBlock) (q : Paired) (known : KnowsPaired old at q) where
  pub a-file : q.kind ≡ File → FindsEmpty old old q.inode (Ok tt)
  a-file e = record {
    stays = StaysButFaults-refl old;
    no_fault = refl;
    none = λ t F match f b low. absurd
        (let z = folder-at F old.now q.inode q.record q.kind match (there-of F old.now q.inode match f) (known.0.same t)
        known.1 ∙ ap is_folder e in cc (z, f));
    refused = tt;
  }

  module _ (new : DiskState) (last : LastRead) (folder : q.kind ≡ Directory) where
    pub is-empty : NamesOn old new q.inode 0 entry_limit last (Ok false) → FindsEmpty old new q.inode (Ok tt)
    is-empty s = record {
      stays = s.stays;
      no_fault = s.no_fault;
      none = λ t F match f. s.names t (there-of F old.now q.inode match f) F match
          (λ e low. absurd (omega (arith, low)));
      refused = tt;
    }

    pub is-filled : NamesOn old new q.inode 0 entry_limit last (Ok true)
        → FindsEmpty old new q.inode (Err refusal.NotEmpty)
    is-filled s = record {
      stays = s.stays;
      no_fault = tt;
      none = tt;
      refused = ByRow refl tt s.no_fault (λ t there W match.
          let w = s.names t there W.files match (λ e low. absurd (omega (arith, low))) in
          let f = folder-at W.files old.now q.inode q.record q.kind match there (known.0.same t) known.1
          ∙ ap is_folder folder in
          let l = least-some (λ e. is_paired W.files q.inode e) 0 entry_limit w.0 w.2 (omega arith)
          (let b = w.1 in omega (arith, b)) in
          rw (f, l) refl);
    }
