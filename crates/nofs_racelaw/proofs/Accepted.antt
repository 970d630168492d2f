-- A step that is done is accepted.
use Rattle.std.proofs.Common.{◌≡◌, ℕ, zero, suc, Bool, true, false, cond, ◌&&◌, ◌-◌, not, eqb, List, [], ◌∷◌, Option}
use Rattle.std.proofs.Common.{Some, None, is_some, refl, ap, ◌∙◌, subst}
use Rattle.std.specs.Prelude.{option_map}
use Rattle.std.specs.List.{list_any}
use Rattle.std.proofs.lemmas.Bool.{and_parts}
use Rattle.nofs_dirent.specs.declared.entry.Entry.{Entry}
use Rattle.nofs_dirent.specs.Entries.{entry_limit}
use Rattle.nofs_model.specs.Files.{FileState, Files, entry_at, links_in_file, is_pair}
use Rattle.nofs_model.specs.declared.image.value.Value.{Value}
use Rattle.nofs_model.specs.declared.image.value.Value.TheVariants.{Hole, Bytes, Lost}
use Rattle.std.specs.Str.{bytes_eq}
use Rattle.nofs_history.specs.Search.{first_of, least_from}
use Rattle.nofs_history.specs.Machine.{first_dead, first_lost_slot, found, generation_of, entry_has_name, is_hole}
use Rattle.nofs_history.specs.Machine.{is_lost, is_paired, is_refused, link_to, same_link, value_of}
use Rattle.nofs_history.specs.World.{World}
use Rattle.nofs_history.specs.Refusals.{bad_name, missing, not_directory, not_empty, rows, stale}
use Rattle.nofs_history.specs.Answers.{dropped_entry, dropped_reply, found_entry, found_file, found_reply, got_reply}
use Rattle.nofs_history.specs.Answers.{listed_reply, lines_in_slot, reply_of, stat_file}
use Rattle.nofs_history.specs.declared.machine.history.Claims.{Claims}
use Rattle.nofs_history.specs.declared.machine.steps.Step.{Step}
use Rattle.nofs_history.specs.declared.machine.steps.Step.TheVariants as step
use Rattle.nofs_history.specs.declared.machine.replies.Reply.TheVariants as reply
use Rattle.nofs_history.specs.declared.machine.replies.Refusal.{Refusal}
use Rattle.nofs_history.specs.declared.machine.replies.Refusal.TheVariants as refusal

fourth-none : (a b c d : Option Refusal) (os : List (Option Refusal)) → first_of (a ∷ b ∷ c ∷ d ∷ os) ≡ None → d ≡ None
fourth-none None None None None os e = refl
fourth-none None None None (Some w) os e = cc
fourth-none None None (Some w) d os e = cc
fourth-none None (Some w) c d os e = cc
fourth-none (Some w) b c d os e = cc

one-none : (o : Option Refusal) → first_of (o ∷ []) ≡ None → o ≡ None
one-none None e = refl
one-none (Some w) e = cc

-- The entry that a name finds

least-passes : (test : ℕ → Bool) (at n e : ℕ) → least_from test at n ≡ Some e → test e ≡ true
unfolding least_from
least-passes test at zero e h = cc
least-passes test at (suc n) e h = go (test at) refl h (λ q. least-passes test (suc at) n e q)
  where
    go : (b : Bool) → test at ≡ b → cond b (Some at) (least_from test (suc at) n) ≡ Some e
        → (least_from test (suc at) n ≡ Some e → test e ≡ true)
        → test e ≡ true
    go true t q later = let same : at ≡ e = cc q in subst (λ (m : ℕ). test m ≡ true) same t
    go false t q later = later q

found-passes : (F : Files) (d : ℕ) (name : List ℕ) (e : ℕ) → found F d name ≡ Some e
    → (entry_has_name F d name e && is_paired F d e) ≡ true
unfolding found
found-passes F d name e h = least-passes (λ n. entry_has_name F d name n && is_paired F d n) 0 entry_limit e h

record IsFound (F : Files) (d : ℕ) (name : List ℕ) : Type 0 where
  place : ℕ
  entry : Entry
  file : FileState
  finds : found F d name ≡ Some place
  stands : entry_at F d place ≡ Some entry
  names : F entry.inode ≡ Some file

-- a name that is not missing finds an entry of a file
not-missing : (W : World) (d : ℕ) (name : List ℕ) → missing W d name ≡ None → IsFound W.files d name
not-missing W d name m = by-place (found W.files d name) (option_map refusal.LostEntry (first_dead W.files d name))
    (option_map refusal.LostSlot (first_lost_slot W.files d)) refl m
  where
    F : Files
    F = W.files

    never : (a b : Option Refusal) → first_of (a ∷ b ∷ Some refusal.Missing ∷ []) ≡ None → ⊥
    never None None e = cc e
    never None (Some w) e = cc e
    never (Some w) b e = cc e

    by-file : (e : ℕ) (x : Entry) (o : Option FileState) → found F d name ≡ Some e
        → entry_at F d e ≡ Some x → F x.inode ≡ o
        → list_any (λ link. same_link link (link_to d e (generation_of F d)) && is_pair F x.inode link)
        (links_in_file o) ≡ true → IsFound F d name
    by-file e x None ee ex eo p = cc p
    by-file e x (Some f) ee ex eo p = record { place = e; entry = x; file = f; finds = ee; stands = ex; names = eo }

    by-entry : (e : ℕ) (o : Option Entry) → found F d name ≡ Some e → entry_at F d e ≡ o
        → (elim o [ None ↦ false | Some entry ↦ bytes_eq entry.name name ]) ≡ true
        → (elim o [
          | None ↦ false
          | Some entry ↦
              list_any (λ link. same_link link (link_to d e (generation_of F d)) && is_pair F entry.inode link)
              (links_in_file (F entry.inode))
        ]) ≡ true → IsFound F d name
    by-entry e None ee eo n p = cc n
    by-entry e (Some x) ee eo n p = by-file e x (F x.inode) ee eo refl p

    by-place : (o : Option ℕ) (a b : Option Refusal)
        → found F d name ≡ o → cond (is_some o) None (first_of (a ∷ b ∷ Some refusal.Missing ∷ [])) ≡ None
        → IsFound F d name
    by-place None a b eo q = absurd (never a b q)
    by-place (Some e) a b eo q =
        let both = and_parts (entry_has_name F d name e) (is_paired F d e) (found-passes F d name e eo) in by-entry e
        (entry_at F d e) eo refl both.0 both.1

pub done-accepts : (W V : World) (s : Step) (c : Claims)
    → first_of (rows W V s) ≡ None → is_refused (reply_of W s c) ≡ false
done-accepts W V (step.Look d g name) c none =
    let f = not-missing W d name
    (fourth-none (bad_name name) (stale W d g) (not_directory W d) (missing W d name) [] none) in
    ap (λ (o : Option ℕ). is_refused (found_reply W.files d o)) f.finds
    ∙ ap (λ (o : Option Entry). is_refused (found_entry W.files o)) f.stands
    ∙ ap (λ (o : Option FileState). is_refused (found_file f.entry.inode o)) f.names
done-accepts W V (step.Drop d g name) c none =
    let f = not-missing W d name
    (fourth-none (bad_name name) (stale W d g) (not_directory W d) (missing W d name) (not_empty W d name ∷ []) none) in
    ap (λ (o : Option ℕ). is_refused (dropped_reply W.files d o)) f.finds
    ∙ ap (λ (o : Option Entry). is_refused (dropped_entry W.files (link_to d f.place (generation_of W.files d)) o))
    f.stands
done-accepts W V (step.Stat i g) c none = go (W.files i) (eqb (generation_of W.files i) g) (one-none (stale W i g) none)
  where
    go : (o : Option FileState) (b : Bool)
        → cond (not (is_some o && b)) (Some refusal.Stale) None ≡ None → is_refused (stat_file W.files i o) ≡ false
    go None b e = cc e
    go (Some f) b e = refl
done-accepts W V (step.List d g k) c none = go (least_from (λ l. not (is_hole (value_of W.files d l))) k (72 - k))
  where
    lost : (b : Bool) (l : ℕ)
        → is_refused (cond b (reply.LostNames l) (reply.Names l (lines_in_slot W.files d l))) ≡ false
    lost true l = refl
    lost false l = refl

    go : (o : Option ℕ) → is_refused (listed_reply W.files d o) ≡ false
    go None = refl
    go (Some l) = lost (is_lost (value_of W.files d l)) l
done-accepts W V (step.Get i g k) c none = go (value_of W.files i k)
  where
    go : (v : Value) → is_refused (got_reply v) ≡ false
    go Hole = refl
    go (Bytes content) = refl
    go Lost = refl
done-accepts W V (step.Make d g name kind) c none = refl
done-accepts W V (step.Link d g name i of) c none = refl
done-accepts W V (step.Rename d g old new) c none = refl
done-accepts W V (step.Put i g k at bytes) c none = refl
done-accepts W V (step.Resize i g size) c none = refl
done-accepts W V (step.Flush i g) c none = refl
done-accepts W V (step.SeeInode i) c none = refl
done-accepts W V (step.SeeBlock p) c none = refl
