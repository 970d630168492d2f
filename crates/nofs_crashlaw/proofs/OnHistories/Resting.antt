-- What is live and not agreed stays the base's, as far as it is still there.
use Rattle.nofs_crashlaw.specs.Histories.Laws.{LawRest}
use Rattle.std.proofs.Common.{◌≡◌, ℕ, ◌⊎◌, inl, inr, Bool, true, false, List, [], ◌∷◌, ◌++◌, Option, Some, None}
use Rattle.std.proofs.Common.{is_some, option_to_list, refl, sym, ap, ◌∙◌, subst}
use Rattle.nofs_crashlaw.specs.Untouched.Frames.{OldPointers, Touches}
use Rattle.nofs_crashlaw.proofs.OnLives.Images.{values-append, metas-append}
use Rattle.nofs_crashlaw.proofs.OnUntouched.Matches.{matched-file, matched-agreed}
use Rattle.nofs_crashlaw.proofs.OnHistories.Rest.{value-or-lost}
use Rattle.nofs_history.specs.Meta.{meta_of}
use Rattle.nofs_history.specs.declared.machine.history.Entry1.{Entry1}
use Rattle.nofs_history.specs.Machine.{given_by}
use Rattle.nofs_history.specs.Since.{agreed_files, files_along, values_given, metas_given}
use Rattle.nofs_history.specs.History.{FilesMatch}
use Rattle.nofs_history.specs.Steady.{Untouched, SteadyRest}
use Rattle.nofs_inode.specs.declared.inode.Record.{Record}
use Rattle.nofs_inode.specs.InodeRecords.{is_live}
use Rattle.nofs_model.specs.Geometry.{Image, inode}
use Rattle.nofs_model.specs.Slots.{value}
use Rattle.nofs_model.specs.Files.{FileState, Files, files_in, agreed}
use Rattle.nofs_model.specs.declared.image.value.Value.TheVariants.{Lost}

-- F are the machine's files before the entry, and E after it
pub rest-stays : (B : Image) (H : List Entry1) (e : Entry1) (s : ℕ) (touched : ℕ → Bool) (X Y : Image) (E : Files)
    → SteadyRest B H X → FilesMatch (files_along (agreed_files B) H) X → FilesMatch E Y → Touches s touched X Y
    → ((i : ℕ) → is_live (inode X i) ≡ true → OldPointers s X i)
    → ((i : ℕ) → touched i ≡ true → is_live (inode Y i) ≡ true → is_some (E i) ≡ true)
    → ((i : ℕ) → touched i ≡ false → is_some (files_along (agreed_files B) H i) ≡ true → is_some (E i) ≡ true)
    → ((i g k : ℕ) → touched i ≡ false → is_some (files_along (agreed_files B) H i) ≡ false
    → (given_by (files_along (agreed_files B) H) e).slots i g k ≡ None)
    → ((i g : ℕ) → touched i ≡ false → is_some (files_along (agreed_files B) H i) ≡ false
    → (given_by (files_along (agreed_files B) H) e).metas i g ≡ None)
    → SteadyRest B (H ++ e ∷ []) Y
rest-stays B H e s touched X Y E rest before after w old owned stays quiet quiet_meta i live a =
    by-touch (touched i) refl
  where
    not-in : is_some (E i) ≡ true → ⊥
    not-in h = let m = (matched-file E Y i after h).agreed in cc (m, a)

    untouched : touched i ≡ false → Untouched B (H ++ e ∷ []) Y i
    untouched t =
        let r : inode Y i ≡ inode X i = w.records i t in
        let live_x : is_live (inode X i) ≡ true = subst (λ (q : Record). is_live q ≡ true) r live in
        out r live_x (is_some (files_along (agreed_files B) H i)) refl (agreed (files_in X) i) refl
      where
        out : inode Y i ≡ inode X i
            → is_live (inode X i) ≡ true → (b : Bool) → is_some (files_along (agreed_files B) H i) ≡ b → (c : Bool)
            → agreed (files_in X) i ≡ c → Untouched B (H ++ e ∷ []) Y i
        out r lx true eb c ec = absurd (not-in (stays i t eb))
        out r lx false eb true ec =
            absurd (let m = matched-agreed (files_along (agreed_files B) H) X i before lx ec in some-none
            (files_along (agreed_files B) H i) m.file m.is eb)
          where
            some-none : (o : Option FileState) (f : FileState) → o ≡ Some f → is_some o ≡ false → ⊥
            some-none None f p q = cc
            some-none (Some h) f p q = cc
        out r lx false eb false ec =
            let u = rest i lx ec in
            let g : (inode Y i).generation ≡ (inode X i).generation = ap (λ (q : Record). q.generation) r in
            record {
              live = u.live;
              generation = u.generation ∙ sym g;
              meta = ap meta_of r ∙ u.meta;
              no_value = λ k. subst (λ (q : ℕ). values_given (agreed_files B) (H ++ e ∷ []) i q k ≡ []) (sym g)
                  (values-append (agreed_files B) H (e ∷ []) i (inode X i).generation k
                  ∙ (λ j. u.no_value k j ++ (option_to_list (quiet i (inode X i).generation k t eb j) ++ [])));
              no_meta = subst (λ (q : ℕ). metas_given (agreed_files B) (H ++ e ∷ []) i q ≡ []) (sym g)
                  (metas-append (agreed_files B) H (e ∷ []) i (inode X i).generation
                  ∙ (λ j. u.no_meta j ++ (option_to_list (quiet_meta i (inode X i).generation t eb j) ++ [])));
              values = λ k lt. value-case k (u.values k lt) (value-or-lost s touched X Y w i t (old i lx) k lt);
            }
          where
            value-case : (k : ℕ) → (value X i k ≡ value B i k) ⊎ (value X i k ≡ Lost)
                → (value Y i k ≡ value X i k) ⊎ (value Y i k ≡ Lost)
                → (value Y i k ≡ value B i k) ⊎ (value Y i k ≡ Lost)
            value-case k p (inr lost) = inr lost
            value-case k (inl base) (inl same) = inl (same ∙ base)
            value-case k (inr lost) (inl same) = inr (same ∙ lost)

    by-touch : (t : Bool) → touched i ≡ t → Untouched B (H ++ e ∷ []) Y i
    by-touch true t = absurd (not-in (owned i t live))
    by-touch false t = untouched t

pub law-rest : LawRest
law-rest B H e s touched X Y E rest p =
    rest-stays B H e s touched X Y E rest p.before p.after p.touches p.old p.owned p.stays p.no_value p.no_meta
