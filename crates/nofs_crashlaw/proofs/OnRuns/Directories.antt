-- The directory of a step that no row refuses, and the places of its entries.
use Rattle.std.proofs.Common.{◌≡◌, ℕ, ◌*◌, ◌/◌, ◌<◌, Bool, true, false, eqb, ◌&&◌, not, List, [], ◌∷◌, Option, Some}
use Rattle.std.proofs.Common.{None, is_some, refl, sym, ◌∙◌, arith, eqb-true}
use Rattle.std.specs.Prelude.{option_map}
use Rattle.nofs_dirent.specs.Entries.{entry_limit}
use Rattle.nofs_model.specs.Files.{Files, FileState, entry_at}
use Rattle.nofs_history.specs.Meta.{is_bytes}
use Rattle.nofs_history.specs.Search.{first_of, least_from}
use Rattle.nofs_history.specs.Machine.{first_dead, place_for, entry_has_name, is_paired, is_folder_at, is_hole}
use Rattle.nofs_history.specs.Machine.{generation_of, value_of}
use Rattle.nofs_history.specs.World.{World}
use Rattle.nofs_history.specs.Refusals.{stale, not_directory}
use Rattle.nofs_history.specs.declared.machine.replies.Refusal.TheVariants as refusal
use Rattle.nofs_crashlaw.proofs.OnUntouched.Matches.{gen-of}
use Rattle.nofs_crashlaw.proofs.OnNames.Premises.{least-passes}
use Rattle.nofs_crashlaw.specs.Runs.Pairs.{IsDirectory}
use Rattle.nofs_crashlaw.proofs.OnRuns.Gives.{row-none, folder-at}

-- a file that is not stale
pub record IsLive (F : Files) (i g : ℕ) : Type 0 where
  pub file : FileState
  pub is : F i ≡ Some file
  pub generation : file.generation ≡ g

pub live-row : (W : World) (i g : ℕ) → stale W i g ≡ None → IsLive W.files i g
live-row W i g r =
    go (W.files i) refl (row-none (not (is_some (W.files i) && eqb (generation_of W.files i) g)) refusal.Stale r)
  where
    go : (o : Option FileState)
        → W.files i ≡ o → not (is_some (W.files i) && eqb (generation_of W.files i) g) ≡ false → IsLive W.files i g
    go None eo h = absurd (cc (rw eo at h))
    go (Some f) eo h = record {
      file = f;
      is = eo;
      generation =
          sym (gen-of W.files i f eo) ∙ same (is_some (W.files i)) (eqb (generation_of W.files i) g) refl h;
    }
      where
        same : (a b : Bool) → eqb (generation_of W.files i) g ≡ b → not (a && b) ≡ false → generation_of W.files i ≡ g
        same true true e t = eqb-true (generation_of W.files i) g e
        same true false e t = cc t
        same false b e t = cc t

pub directory-row : (W : World) (d g : ℕ) → stale W d g ≡ None → not_directory W d ≡ None → IsDirectory W.files d g
directory-row W d g r n =
    let l = live-row W d g r in
    let t = row-none (not (is_folder_at W.files d)) refusal.NotDirectory n in
    let k = folder-at W.files d l.file l.is in
    record { file = l.file; is = l.is; generation = l.generation; folder = sym k ∙ truth (is_folder_at W.files d) t }
  where
    truth : (b : Bool) → not b ≡ false → b ≡ true
    truth true e = refl
    truth false e = cc e

-- a place for an entry is one of a directory's
pub place-range : (F : Files) (d : ℕ) (name : List ℕ) (p : ℕ) → place_for F d name ≡ Some p → p < entry_limit
unfolding place_for first_dead
place-range F d name p h = go (first_dead F d name) refl
    (least_from (λ k. is_bytes (value_of F d (k / 16)) && not (is_some (entry_at F d k))) 0 entry_limit)
    refl (least_from (λ k. is_hole (value_of F d k)) 0 72) refl h
  where
    go : (a : Option ℕ) → first_dead F d name ≡ a → (b : Option ℕ)
        → least_from (λ k. is_bytes (value_of F d (k / 16)) && not (is_some (entry_at F d k))) 0 entry_limit ≡ b
        → (c : Option ℕ)
        → least_from (λ k. is_hole (value_of F d k)) 0 72 ≡ c
        → first_of (a ∷ b ∷ option_map (λ k. 16 * k) c ∷ []) ≡ Some p → p < entry_limit
    go (Some n) ea b eb c ec q = let s : n ≡ p = cc q in let lt =
        (least-passes (λ k. entry_has_name F d name k && not (is_paired F d k)) 0 entry_limit n ea).1 in
        omega (arith, lt, s)
    go None ea (Some n) eb c ec q = let s : n ≡ p = cc q in let lt =
        (least-passes (λ k. is_bytes (value_of F d (k / 16)) && not (is_some (entry_at F d k))) 0 entry_limit n eb).1 in
        omega (arith, lt, s)
    go None ea None eb (Some k) ec q = let s : 16 * k ≡ p = cc q in
        let lt = (least-passes (λ l. is_hole (value_of F d l)) 0 72 k ec).1 in omega (arith, lt, s)
    go None ea None eb None ec q = cc q
