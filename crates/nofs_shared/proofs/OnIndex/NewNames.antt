-- What is found stays found where one name is new, which found nothing before.
use Rattle.std.proofs.Common.{◌≡◌, ℕ, suc, zero, Bool, true, false, cond, ◌&&◌, ◌||◌, not, eqb, ltb, List, Option, Some}
use Rattle.std.proofs.Common.{None, is_some, refl, sym, ap, ◌∙◌, subst, subst₂, Contains, eqb-true, eq-eqb}
use Rattle.std.specs.Prelude.{bytes_eq}
use Rattle.std.proofs.lemmas.Slice.Eq.{bytes_eq-Decides}
use Rattle.nofs_dirent.specs.declared.entry.Entry.{Entry}
use Rattle.nofs_dirent.specs.Entries.{entry_limit}
use Rattle.nofs_inode.specs.declared.inode.BackLink.{BackLink}
use Rattle.nofs_inode.specs.declared.inode.FileKind.TheVariants.{Directory as Folder}
use Rattle.nofs_model.specs.Files.{FileState, Files, entry_at, entry_in_file, is_a, is_folder, is_pair, names, pairs}
use Rattle.nofs_model.proofs.OnSlots.Find.{and-both}
use Rattle.nofs_model.proofs.OnFiles.Chains.{pair-of}
use Rattle.nofs_history.specs.Search.{least_from}
use Rattle.nofs_history.specs.Machine.{entry_has_name, found, generation_of, is_folder_at, is_paired, is_refused}
use Rattle.nofs_history.specs.Answers.{found_entry, found_file, found_reply}
use Rattle.nofs_history.specs.declared.machine.replies.Found.{Found}
use Rattle.nofs_history.specs.declared.machine.replies.Reply.TheVariants as reply
use Rattle.nofs_history.specs.declared.machine.replies.Refusal.TheVariants as refusal
use Rattle.nofs_crashlaw.proofs.OnNames.Drops.{paired-link}
use Rattle.nofs_crashlaw.proofs.OnNames.Premises.{least-passes, no-entry-unpaired}
use Rattle.nofs_crashlaw.proofs.OnNames.Steps.{pair-paired}
use Rattle.nofs_crashlaw.proofs.OnRuns.Gives.{folder-at}
use Rattle.nofs_crashlaw.proofs.OnRuns.StepLinks.{links-are}
use Rattle.nofs_crashlaw.proofs.OnUntouched.Matches.{gen-of}
use Rattle.nofs_crashlaw.specs.Runs.Pairs.{IsDirectory}
use Rattle.nofs_shared.specs.Index.Names.{Finds}

-- a back link of a file was one before, of the file of the same generation and kind
pub record WasLink (F : Files) (j : ℕ) (h : FileState) (link : BackLink) : Type 0 where
  pub file : FileState
  pub is : F j ≡ Some file
  pub generation : h.generation ≡ file.generation
  pub kind : h.kind ≡ file.kind
  pub has : Contains file.links link

-- From F to G an entry of this name is new at this place, where no pair stood, and the name found nothing. Beside it
-- directories, their entries and pairs stay, and each back link to another place was there
pub record IsNewName (F G : Files) (dir place : ℕ) (name : List ℕ) : Type 0 where
  pub free : is_some (found F dir name) ≡ false
  pub unpaired : is_paired F dir place ≡ false
  pub entry : Entry
  pub there : entry_at G dir place ≡ Some entry
  pub named : entry.name ≡ name
  pub directories : (d g : ℕ) → IsDirectory F d g → IsDirectory G d g
  pub beside : (d g e : ℕ) → IsDirectory F d g → (d ≡ dir → e ≡ place → ⊥) → entry_at G d e ≡ entry_at F d e
  pub pairs_stay : (d e : ℕ) → is_paired F d e ≡ true → is_paired G d e ≡ true
  pub was : (j g : ℕ) (h : FileState) (link : BackLink) → G j ≡ Some h → Contains h.links link
      → IsDirectory F link.directory g → (link.directory ≡ dir → link.entry ≡ place → ⊥) → WasLink F j h link

-- Searches

-- what is found first stays first, where it still passes and no more does
pub least-kept : (old now : ℕ → Bool) (at n p : ℕ) → least_from old at n ≡ Some p → now p ≡ true
    → ((k : ℕ) → now k ≡ true → old k ≡ true) → least_from now at n ≡ Some p
unfolding least_from
least-kept old now at zero p is here back = cc is
least-kept old now at (suc n) p is here back =
    go (λ q. least-kept old now (suc at) n p q here back) (old at) refl (now at) refl is
  where
    go : (least_from old (suc at) n ≡ Some p → least_from now (suc at) n ≡ Some p)
        → (a : Bool) → old at ≡ a → (b : Bool) → now at ≡ b
        → cond a (Some at) (least_from old (suc at) n) ≡ Some p
        → cond b (Some at) (least_from now (suc at) n) ≡ Some p
    go deep true ea true eb q = q
    go deep true ea false eb q =
        absurd (let s : at ≡ p = cc q in let z : now at ≡ true = ap now s ∙ here in cc (eb, z))
    go deep false ea true eb q = absurd (let z = back at eb in cc (ea, z))
    go deep false ea false eb q = deep q

-- A directory by the rows of a Look

pub both : (a b : Bool) → a ≡ true → b ≡ true → (a && b) ≡ true
both true true p q = refl
both true false p q = cc q
both false b p q = cc p

pub directory-of : (F : Files) (d g : ℕ) → (is_some (F d) && eqb (generation_of F d) g) ≡ true
    → is_folder_at F d ≡ true → IsDirectory F d g
directory-of F d g stands folder = go (F d) refl
  where
    go : (o : Option FileState) → F d ≡ o → IsDirectory F d g
    go None eo = absurd (let z : is_folder_at F d ≡ false = rw (eo, is_folder_at) refl in cc (z, folder))
    go (Some f) eo = record {
      file = f;
      is = eo;
      generation = sym (gen-of F d f eo)
          ∙ eqb-true (generation_of F d) g (and-both (is_some (F d)) (eqb (generation_of F d) g) stands).1;
      folder = sym (folder-at F d f eo) ∙ folder;
    }

pub stands-of : (F : Files) (d g : ℕ) → IsDirectory F d g → (is_some (F d) && eqb (generation_of F d) g) ≡ true
stands-of F d g at = both (is_some (F d)) (eqb (generation_of F d) g)
    (ap (λ (o : Option FileState). is_some o) at.is)
    (eq-eqb (generation_of F d) g (gen-of F d at.file at.is ∙ at.generation))

pub folder-of : (F : Files) (d g : ℕ) → IsDirectory F d g → is_folder_at F d ≡ true
folder-of F d g at = folder-at F d at.file at.is ∙ at.folder

is-folder : (F : Files) (d g n : ℕ) → IsDirectory F d g → is_a Folder n (F d) ≡ (true && eqb g n)
is-folder F d g n at = ap (λ (o : Option FileState). is_a Folder n o) at.is
    ∙ (λ t. at.folder t && eqb (at.generation t) n)

-- the file that is found
pub record FoundFile (F : Files) (d : ℕ) (name : List ℕ) (it : Found) : Type 0 where
  pub place : ℕ
  pub finds : found F d name ≡ Some place
  pub entry : Entry
  pub there : entry_at F d place ≡ Some entry
  pub file : FileState
  pub is : F entry.inode ≡ Some file
  pub answer : reply.Found (record { inode = entry.inode; generation = file.generation; kind = file.kind })
      ≡ reply.Found it

refused : (it : Found) → reply.Refused refusal.Missing ≡ reply.Found it → ⊥
refused it e = let z : true ≡ false = ap is_refused e in cc z

pub file-found : (F : Files) (d : ℕ) (name : List ℕ) (it : Found)
    → found_reply F d (found F d name) ≡ reply.Found it → FoundFile F d name it
file-found F d name it a = go (found F d name) refl
  where
    file : (p : ℕ) (x : Entry) → found F d name ≡ Some p → entry_at F d p ≡ Some x → (o : Option FileState)
        → F x.inode ≡ o → found_file x.inode o ≡ reply.Found it → FoundFile F d name it
    file p x ep ex None eo q = absurd (refused it q)
    file p x ep ex (Some f) eo q =
        record { place = p; finds = ep; entry = x; there = ex; file = f; is = eo; answer = q }

    by : (p : ℕ) → found F d name ≡ Some p → (o : Option Entry) → entry_at F d p ≡ o
        → found_entry F o ≡ reply.Found it → FoundFile F d name it
    by p ep None eo q = absurd (refused it q)
    by p ep (Some x) eo q = file p x ep eo (F x.inode) refl q

    go : (o : Option ℕ) → found F d name ≡ o → FoundFile F d name it
    go None ep = absurd (refused it (sym (ap (λ (o : Option ℕ). found_reply F d o) ep) ∙ a))
    go (Some p) ep = by p ep (entry_at F d p) refl (sym (ap (λ (o : Option ℕ). found_reply F d o) ep) ∙ a)

pub reply-of : (F : Files) (d : ℕ) (name : List ℕ) (p : ℕ) (x : Entry) (f : FileState) → found F d name ≡ Some p
    → entry_at F d p ≡ Some x → F x.inode ≡ Some f
    → found_reply F d (found F d name)
    ≡ reply.Found (record { inode = x.inode; generation = f.generation; kind = f.kind })
reply-of F d name p x f ep ex is = ap (λ (o : Option ℕ). found_reply F d o) ep
    ∙ ap (λ (o : Option Entry). found_entry F o) ex
    ∙ ap (λ (o : Option FileState). found_file x.inode o) is

-- the file of a pair's entry
pub record PairFile (F : Files) (x : Entry) (d e : ℕ) : Type 0 where
  pub file : FileState
  pub is : F x.inode ≡ Some file
  pub link : BackLink
  pub has : Contains file.links link
  pub pair : is_pair F x.inode link ≡ true
  pub directory : link.directory ≡ d
  pub entry : link.entry ≡ e

pub pair-file : (F : Files) (d e : ℕ) (x : Entry) → entry_at F d e ≡ Some x → is_paired F d e ≡ true
    → PairFile F x d e
pair-file F d e x at paired =
    let l = paired-link F d e x at paired in
    let p = pair-of F x.inode l.0 l.2 in
    record {
      file = p.own;
      is = p.own_is;
      link = l.0;
      has = subst (λ (ls : List BackLink). Contains ls l.0) (links-are F x.inode p.own p.own_is) l.1;
      pair = l.2;
      directory = l.3;
      entry = l.4;
    }

module _ (F G : Files) (dir place : ℕ) (name : List ℕ) (new : IsNewName F G dir place name) where
  -- Pairs at other places

  module _ (j g : ℕ) (h : FileState) (link : BackLink) (at : IsDirectory F link.directory g)
      (apart : link.directory ≡ dir → link.entry ≡ place → ⊥) where
    same : (f : FileState) → h.generation ≡ f.generation → h.kind ≡ f.kind
        → pairs (Some f) (F link.directory) j link ≡ pairs (Some h) (G link.directory) j link
    same f gen kind =
        let own : is_a Folder link.generation (F link.directory) ≡ is_a Folder link.generation (G link.directory) =
        is-folder F link.directory g link.generation at
        ∙ sym (is-folder G link.directory g link.generation (new.directories link.directory g at)) in
        let e : entry_in_file (F link.directory) link.entry ≡ entry_in_file (G link.directory) link.entry =
        sym (new.beside link.directory g link.entry at apart) in
        λ t. own t && (names (e t) j (sym gen t) && (not (is_folder (sym kind t)) || ltb link.generation (sym gen t)))

    link-back : (w : WasLink F j h link) → G j ≡ Some h → is_pair G j link ≡ true → is_pair F j link ≡ true
    link-back w is pair = ap (λ (o : Option FileState). pairs o (F link.directory) j link) w.is
        ∙ same w.file w.generation w.kind
        ∙ sym (ap (λ (o : Option FileState). pairs o (G link.directory) j link) is) ∙ pair

  pair-back : (d g e : ℕ) → IsDirectory F d g → (d ≡ dir → e ≡ place → ⊥) → is_paired G d e ≡ true
      → is_paired F d e ≡ true
  pair-back d g e at apart paired = go (entry_at G d e) refl
    where
      go : (o : Option Entry) → entry_at G d e ≡ o → is_paired F d e ≡ true
      go None eo = absurd (let z = no-entry-unpaired G d e eo in cc (z, paired))
      go (Some x) eo =
          let p = pair-file G d e x eo paired in
          let there : IsDirectory F p.link.directory g = subst (λ (k : ℕ). IsDirectory F k g) (sym p.directory) at in
          let other : p.link.directory ≡ dir → p.link.entry ≡ place → ⊥ =
          λ u v. apart (sym p.directory ∙ u) (sym p.entry ∙ v) in
          let w = new.was x.inode g p.file p.link p.is p.has there other in
          subst₂ (λ (a b : ℕ). is_paired F a b ≡ true) p.directory p.entry
          (pair-paired F x.inode p.link
          (subst (λ (ls : List BackLink). Contains ls p.link) (sym (links-are F x.inode w.file w.is)) w.has)
          (link-back x.inode g p.file p.link there other w p.is p.pair))

  -- Names

  module _ (d g : ℕ) (at : IsDirectory F d g) (other : List ℕ) where
    name-back : (e : ℕ) → (d ≡ dir → e ≡ place → ⊥) → entry_has_name G d other e ≡ entry_has_name F d other e
    name-back e apart =
        ap (λ (o : Option Entry). elim o [ None ↦ false | Some x ↦ bytes_eq x.name other ]) (new.beside d g e at apart)

    -- what passes at the new place has its name
    here : (e : ℕ) → d ≡ dir → e ≡ place → entry_has_name G d other e ≡ true → name ≡ other
    here e ed ee has =
        let there : entry_at G d e ≡ Some new.entry = (λ t. entry_at G (ed t) (ee t)) ∙ new.there in
        sym new.named ∙ (bytes_eq-Decides new.entry.name other).0
        (sym (ap (λ (o : Option Entry). elim o [ None ↦ false | Some x ↦ bytes_eq x.name other ]) there) ∙ has)

    -- so each entry that passes did, but the new one
    pub passes-back : (e : ℕ) → (d ≡ dir → e ≡ place → name ≡ other → ⊥)
        → (entry_has_name G d other e && is_paired G d e) ≡ true
        → (entry_has_name F d other e && is_paired F d e) ≡ true
    passes-back e apart q =
        let a = and-both (entry_has_name G d other e) (is_paired G d e) q in
        let beside : d ≡ dir → e ≡ place → ⊥ = λ ed ee. apart ed ee (here e ed ee a.0) in
        both (entry_has_name F d other e) (is_paired F d e) (sym (name-back e beside) ∙ a.0)
        (pair-back d g e at beside a.1)

    found-on : (p : ℕ) → found F d other ≡ Some p → (found G d other ≡ Some p) × (entry_at G d p ≡ entry_at F d p)
        × (is_paired G d p ≡ true) × (d ≡ dir → p ≡ place → ⊥)
    unfolding found
    found-on p is = (
      least-kept (λ e. entry_has_name F d other e && is_paired F d e)
          (λ e. entry_has_name G d other e && is_paired G d e) 0 entry_limit p is
          (both (entry_has_name G d other p) (is_paired G d p) (name-back p beside ∙ a.0) paired)
          (λ e q. passes-back e (λ ed ee en. taken ed en) q),
      new.beside d g p at beside,
      paired,
      beside,
    )
      where
        a : (entry_has_name F d other p ≡ true) × (is_paired F d p ≡ true)
        a = and-both (entry_has_name F d other p) (is_paired F d p)
            (least-passes (λ e. entry_has_name F d other e && is_paired F d e) 0 entry_limit p is).0

        paired : is_paired G d p ≡ true
        paired = new.pairs_stay d p a.1

        beside : d ≡ dir → p ≡ place → ⊥
        beside ed ep =
            let z : is_paired F d p ≡ false = (λ t. is_paired F (ed t) (ep t)) ∙ new.unpaired in
            let y = a.1 in
            cc (z, y)

        taken : d ≡ dir → name ≡ other → ⊥
        taken ed en =
            let z : is_some (found F d other) ≡ false = (λ t. is_some (found F (ed t) (sym en t))) ∙ new.free in
            let y : is_some (found F d other) ≡ true = ap (λ (o : Option ℕ). is_some o) is in
            cc (z, y)

  -- what is found stays found
  pub new-keeps : (d g : ℕ) (other : List ℕ) (it : Found) → Finds F d g other it → Finds G d g other it
  new-keeps d g other it f =
      let at = directory-of F d g f.stands f.folder in
      let now = new.directories d g at in
      let old = file-found F d other it f.answer in
      let on = found-on d g at other old.place old.finds in
      let there : entry_at G d old.place ≡ Some old.entry = on.1 ∙ old.there in
      let p = pair-file G d old.place old.entry there on.2 in
      let w = new.was old.entry.inode g p.file p.link p.is p.has
      (subst (λ (k : ℕ). IsDirectory F k g) (sym p.directory) at)
      (λ u v. on.3 (sym p.directory ∙ u) (sym p.entry ∙ v)) in
      let file : w.file ≡ old.file = same-file (F old.entry.inode) w.file old.file w.is old.is in
      let gen : p.file.generation ≡ old.file.generation =
      w.generation ∙ ap (λ (q : FileState). q.generation) file in
      let kind : p.file.kind ≡ old.file.kind = w.kind ∙ ap (λ (q : FileState). q.kind) file in
      record {
        good = f.good;
        stands = stands-of G d g now;
        folder = folder-of G d g now;
        answer = reply-of G d other old.place old.entry p.file on.0 there p.is
            ∙ (λ t. reply.Found (record { inode = old.entry.inode; generation = gen t; kind = kind t })) ∙ old.answer;
      }
    where
      same-file : (o : Option FileState) (a b : FileState) → o ≡ Some a → o ≡ Some b → a ≡ b
      same-file o a b x y = cc (x, y)
