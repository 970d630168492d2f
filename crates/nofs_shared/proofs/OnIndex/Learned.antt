-- The name that a Make or a Link made finds its file.
use Rattle.std.proofs.Common.{Bool, List, None, Option, Some, ap, arith, eq-eqb, eqb, eqb-true, false, is_some, not}
use Rattle.std.proofs.Common.{refl, subst, true, ℕ, ◌&&◌, ◌<◌, ◌∙◌, ◌≡◌}
use Rattle.std.specs.Prelude.{bytes_eq}
use Rattle.std.proofs.lemmas.Bool.{not-false}
use Rattle.std.proofs.lemmas.Slice.Eq.{bytes_eq-Decides}
use Rattle.nofs_dirent.specs.Entries.{entry_limit}
use Rattle.nofs_dirent.specs.Names.{is_name}
use Rattle.nofs_dirent.specs.declared.entry.Entry.{Entry}
use Rattle.nofs_inode.specs.declared.inode.FileKind.{FileKind}
use Rattle.nofs_model.specs.Files.{FileState, Files, entry_at}
use Rattle.nofs_history.specs.Machine.{entry_has_name, found, is_paired, link_to}
use Rattle.nofs_history.specs.Refusals.{bad_name}
use Rattle.nofs_history.specs.declared.machine.replies.Found.{Found}
use Rattle.nofs_history.specs.declared.machine.replies.Refusal.TheVariants as refusal
use Rattle.nofs_crashlaw.specs.Runs.Pairs.{IsDirectory}
use Rattle.nofs_crashlaw.proofs.OnNames.Premises.{least-none, least-passes}
use Rattle.nofs_crashlaw.proofs.OnRuns.Gives.{row-none}
use Rattle.nofs_crashlaw.proofs.OnRuns.Links.{Linked, linked-paired, linked-range}
use Rattle.nofs_shared.specs.Index.Names.{Finds}
use Rattle.nofs_shared.proofs.OnIndex.NewNames.{IsNewName, both, folder-of, passes-back, reply-of, stands-of}

module _ (F G : Files) (dir g place : ℕ) (name : List ℕ) (new : IsNewName F G dir place name)
    (at : IsDirectory F dir g) (paired : is_paired G dir place ≡ true) (low : place < entry_limit) where
  passes : (entry_has_name G dir name place && is_paired G dir place) ≡ true
  passes =
      let has : entry_has_name G dir name place ≡ true =
      ap (λ (o : Option Entry). elim o [ None ↦ false | Some x ↦ bytes_eq x.name name ]) new.there
      ∙ (bytes_eq-Decides new.entry.name name).1 new.named in
      both (entry_has_name G dir name place) (is_paired G dir place) has paired

  -- no other entry passes
  one : (e : ℕ) → e < entry_limit → (entry_has_name G dir name e && is_paired G dir e) ≡ true → e ≡ place
  unfolding found
  one e lt q = go (eqb e place) refl
    where
      go : (b : Bool) → eqb e place ≡ b → e ≡ place
      go true eb = eqb-true e place eb
      go false eb =
          let old = passes-back F G dir place name new dir g at name e
          (λ ed ee en. let z = eq-eqb e place ee in cc (z, eb)) q in
          let none = least-none (λ k. entry_has_name F dir name k && is_paired F dir k) 0 entry_limit new.free e
          (omega arith) (omega (arith, lt)) in
          absurd (cc (old, none))

  finds-place : found G dir name ≡ Some place
  unfolding found
  finds-place = go (found G dir name) refl
    where
      go : (o : Option ℕ) → found G dir name ≡ o → found G dir name ≡ Some place
      go None eo =
          let none = least-none (λ k. entry_has_name G dir name k && is_paired G dir k) 0 entry_limit
          (ap (λ (o : Option ℕ). is_some o) eo) place (omega arith) (omega (arith, low)) in
          let here = passes in
          absurd (cc (none, here))
      go (Some e) eo =
          let p = least-passes (λ k. entry_has_name G dir name k && is_paired G dir k) 0 entry_limit e eo in
          let lt = p.1 in
          eo ∙ ap Some (one e (omega (arith, lt)) p.0)

  pub new-finds : is_name name ≡ true → (file : FileState) → G new.entry.inode ≡ Some file
      → Finds G dir g name
      (record { inode = new.entry.inode; generation = file.generation; kind = file.kind })
  new-finds good file is =
      let now = new.directories dir g at in
      record {
        good = good;
        stands = stands-of G dir g now;
        folder = folder-of G dir g now;
        answer = reply-of G dir name place new.entry file finds-place new.there is;
      }

-- the file to which the new entry's back link belongs
pub linked-finds : (E : Entry → Type 0) (F G : Files) (dir g place i of b : ℕ) (name : List ℕ) (kind : FileKind)
    → IsNewName F G dir place name → IsDirectory F dir g → bad_name name ≡ None
    → (l : Linked E G i of b (link_to dir place g)) → l.file.kind ≡ kind
    → Finds G dir g name (record { inode = i; generation = of; kind = kind })
linked-finds E F G dir g place i of b name kind new at good l k =
    let paired = linked-paired E G i of b (link_to dir place g) l in
    let low = linked-range E G i of b (link_to dir place g) l in
    let same : new.entry ≡ l.entry = same-entry (entry_at G dir place) new.entry l.entry new.there l.there in
    let own : new.entry.inode ≡ i = ap (λ (x : Entry). x.inode) same ∙ l.names_inode in
    let finds = new-finds F G dir g place name new at paired low
    (not-false (is_name name) (row-none (not (is_name name)) refusal.BadName good)) l.file (ap G own ∙ l.is) in
    subst (λ (it : Found). Finds G dir g name it)
    (λ t. record { inode = own t; generation = l.generation t; kind = k t }) finds
  where
    same-entry : (o : Option Entry) (a c : Entry) → o ≡ Some a → o ≡ Some c → a ≡ c
    same-entry o a c x y = cc (x, y)
