-- What is found stays found over each step that neither makes nor moves a name.
use Rattle.std.proofs.Common.{◌≡◌, ℕ, Bool, true, false, cond, ◌&&◌, not, eqb, eqb-true, List, [], ◌∷◌, Option, Some}
use Rattle.std.proofs.Common.{None}
use Rattle.std.proofs.Common.{◌+◌, ◌*◌, max, length, ◌||◌, ltb, is_some, refl, sym, ap, ◌∙◌, subst}
use Rattle.std.specs.List.{list_any}
use Rattle.std.specs.Prelude.{unwrap_or, bytes_eq}
use Rattle.nofs_dirent.specs.Names.{is_name}
use Rattle.nofs_dirent.specs.declared.entry.Entry.{Entry}
use Rattle.nofs_dirent.specs.Entries.{entry_limit}
use Rattle.nofs_inode.specs.declared.inode.BackLink.{BackLink}
use Rattle.nofs_inode.specs.declared.inode.FileKind.{FileKind}
use Rattle.nofs_inode.specs.declared.inode.FileKind.TheVariants.{File, Directory as Folder}
use Rattle.nofs_model.specs.Files.{FileState, Files, entry_at, entry_in_file, is_folder, links_in_file}
use Rattle.nofs_model.specs.Files.{Absent, names, pairs}
use Rattle.nofs_model.specs.declared.image.value.Value.TheVariants.{Hole}
use Rattle.nofs_history.specs.Meta.{Is, Meta}
use Rattle.nofs_history.specs.Search.{first_of, least_from}
use Rattle.nofs_history.specs.Machine.{Given, after_meta, file_after, files_after, files_by, filled, found}
use Rattle.nofs_history.specs.Machine.{generation_of}
use Rattle.nofs_history.specs.Machine.{gives, is_at, is_folder_at, is_paired, is_refused, link_to, put_given}
use Rattle.nofs_history.specs.Machine.{meta_with, resize_given, same_link, with_meta}
use Rattle.nofs_history.specs.World.{World}
use Rattle.nofs_history.specs.Claims.{no_claims}
use Rattle.nofs_history.specs.Refusals.{bad_name, missing, not_directory, rows, stale}
use Rattle.nofs_history.specs.declared.machine.replies.Refusal.TheVariants as refusal
use Rattle.nofs_model.proofs.OnSlots.Find.{and-both}
use Rattle.nofs_history.specs.Answers.{found_entry, found_file, found_reply, reply_of}
use Rattle.nofs_history.specs.Next.{Next}
use Rattle.nofs_history.specs.declared.machine.history.Claims.{Claims}
use Rattle.nofs_history.specs.declared.machine.history.Entry1.{Entry1}
use Rattle.nofs_history.specs.declared.machine.replies.Found.{Found}
use Rattle.nofs_history.specs.declared.machine.replies.Reply.TheVariants as reply
use Rattle.nofs_history.specs.declared.machine.steps.Step.{Step}
use Rattle.nofs_history.specs.declared.machine.steps.Step.TheVariants as step
use Rattle.nofs_crashlaw.proofs.OnHistories.FlushStage.{files-stay}
use Rattle.nofs_crashlaw.proofs.OnRuns.Acts.{accepted-acts, files-next}
use Rattle.nofs_crashlaw.proofs.OnRuns.Gives.{none-at, put-file, resize-file, row-none}
use Rattle.std.proofs.lemmas.Bool.{not-false}
use Rattle.nofs_shared.specs.Index.Names.{Finds}

-- What is found depends on the named part alone

-- of a directory its cells too, and of no file its size
abbrev named_part : Option FileState → Option FileState
named_part None = None
named_part (Some f) = Some (record {
  generation = f.generation;
  kind = f.kind;
  size = 0;
  links = f.links;
  values = cond (is_folder f.kind) f.values (λ k. Hole);
  nodes = λ path. Absent;
})

-- and of all files
abbrev only_names : Files → Files
only_names F i = named_part (F i)

entry-part : (o : Option FileState) (e : ℕ) → entry_in_file (named_part o) e ≡ entry_in_file o e
entry-part None e = refl
entry-part (Some f) e = go f.kind refl
  where
    go : (kind : FileKind) → f.kind ≡ kind → entry_in_file (named_part (Some f)) e ≡ entry_in_file (Some f) e
    go Folder is = rw is refl
    go File is = rw is refl

pairs-part : (o d : Option FileState) (i : ℕ) (link : BackLink)
    → pairs (named_part o) (named_part d) i link ≡ pairs o d i link
pairs-part None d i link = refl
pairs-part (Some f) None i link = refl
pairs-part (Some f) (Some h) i link =
    let e = entry-part (Some h) link.entry in
    λ j. ((is_folder h.kind && eqb h.generation link.generation)
    && (names (e j) i f.generation && (not (is_folder f.kind) || ltb link.generation f.generation)))

links-part : (o : Option FileState) → links_in_file (named_part o) ≡ links_in_file o
links-part None = refl
links-part (Some f) = refl

some-part : (o : Option FileState) → is_some (named_part o) ≡ is_some o
some-part None = refl
some-part (Some f) = refl

file-part : (i : ℕ) (o : Option FileState) → found_file i (named_part o) ≡ found_file i o
file-part i None = refl
file-part i (Some f) = refl

-- so for all files
module _ (F : Files) where
  generation-part : (d : ℕ) → generation_of (only_names F) d ≡ generation_of F d
  generation-part d = go (F d)
    where
      go : (o : Option FileState) → ◌≡◌ {A = ℕ} (elim (named_part o) [ None ↦ 0 | Some f ↦ f.generation ])
          (elim o [ None ↦ 0 | Some f ↦ f.generation ])
      go None = refl
      go (Some f) = refl

  folder-part : (d : ℕ) → is_folder_at (only_names F) d ≡ is_folder_at F d
  folder-part d = go (F d)
    where
      go : (o : Option FileState) → ◌≡◌ {A = Bool} (elim (named_part o) [ None ↦ false | Some f ↦ is_folder f.kind ])
          (elim o [ None ↦ false | Some f ↦ is_folder f.kind ])
      go None = refl
      go (Some f) = refl

  at-part : (d e : ℕ) → entry_at (only_names F) d e ≡ entry_at F d e
  at-part d e = entry-part (F d) e

  paired-part : (d e : ℕ) → is_paired (only_names F) d e ≡ is_paired F d e
  paired-part d e = λ j. elim (at-part d e j) [
    | None ↦ false
    | Some entry ↦ list_any (λ link. same_link link (link_to d e (generation-part d j))
        && pairs-part (F entry.inode) (F link.directory) entry.inode link j) (links-part (F entry.inode) j)
  ]

  found-part : (d : ℕ) (name : List ℕ) → found (only_names F) d name ≡ found F d name
  unfolding found
  found-part d name =
      λ j. least_from (λ e. (elim (at-part d e j) [ None ↦ false | Some entry ↦ bytes_eq entry.name name ])
      && paired-part d e j) 0 entry_limit

  reply-part : (d : ℕ) (o : Option ℕ) → found_reply (only_names F) d o ≡ found_reply F d o
  reply-part d None = refl
  reply-part d (Some e) = ap (found_entry (only_names F)) (at-part d e) ∙ go (entry_at F d e)
    where
      go : (o : Option Entry) → found_entry (only_names F) o ≡ found_entry F o
      go None = refl
      go (Some entry) = file-part entry.inode (F entry.inode)

  stands-part : (d g : ℕ) → (is_some (only_names F d) && eqb (generation_of (only_names F) d) g)
      ≡ (is_some (F d) && eqb (generation_of F d) g)
  stands-part d g = λ j. some-part (F d) j && eqb (generation-part d j) g

  part-finds : (d g : ℕ) (name : List ℕ) (it : Found) → Finds (only_names F) d g name it → Finds F d g name it
  part-finds d g name it f = record {
    good = f.good;
    stands = sym (stands-part d g) ∙ f.stands;
    folder = sym (folder-part d) ∙ f.folder;
    answer = sym (ap (λ (o : Option ℕ). found_reply (only_names F) d o) (found-part d name)
        ∙ reply-part d (found F d name)) ∙ f.answer;
  }

  finds-part : (d g : ℕ) (name : List ℕ) (it : Found) → Finds F d g name it → Finds (only_names F) d g name it
  finds-part d g name it f = record {
    good = f.good;
    stands = stands-part d g ∙ f.stands;
    folder = folder-part d ∙ f.folder;
    answer = ap (λ (o : Option ℕ). found_reply (only_names F) d o) (found-part d name)
        ∙ reply-part d (found F d name) ∙ f.answer;
  }

-- where the named parts are the same, the same is found
finds-on : (F G : Files) (d g : ℕ) (name : List ℕ) (it : Found) → only_names G ≡ only_names F
    → Finds F d g name it → Finds G d g name it
finds-on F G d g name it same f = part-finds G d g name it
    (subst (λ (E : Files). Finds E d g name it) (sym same) (finds-part F d g name it f))

-- The steps that change no names

-- a file that keeps its kind and its links
not-folder : (F : Files) (i : ℕ) (f : FileState) → is_folder_at F i ≡ false → F i ≡ Some f → is_folder f.kind ≡ false
not-folder F i f e is = rw (is, is_folder_at) at e

-- to which nothing is given
none-part : (given : Given) (j : ℕ) (f : FileState) → given.metas j f.generation ≡ None
    → ((k : ℕ) → given.slots j f.generation k ≡ None)
    → named_part (file_after given j (Some f)) ≡ named_part (Some f)
none-part given j f metas slots =
    ap (λ (m : Option Meta). named_part (after_meta m (filled given j f))) metas ∙ values
  where
    values : named_part (Some (filled given j f)) ≡ named_part (Some f)
    values = λ t. Some (record {
      generation = f.generation;
      kind = f.kind;
      size = 0;
      links = f.links;
      values = cond (is_folder f.kind) (λ k. unwrap_or (slots k t) (f.values k)) (λ k. Hole);
      nodes = λ path. Absent;
    })

-- or other bytes and another size
size-part : (given : Given) (j size : ℕ) (f : FileState) → is_folder f.kind ≡ false
    → given.metas j f.generation ≡ Some (Is f.kind size f.links)
    → named_part (file_after given j (Some f)) ≡ named_part (Some f)
size-part given j size f file metas =
    ap (λ (m : Option Meta). named_part (after_meta m (filled given j f))) metas ∙ values
  where
    values : named_part (with_meta (filled given j f) (Is f.kind size f.links)) ≡ named_part (Some f)
    values = rw file refl

put-part : (F : Files) (i g k at : ℕ) (bytes : List ℕ) → is_folder_at F i ≡ false
    → only_names (files_after F (put_given F i g k at bytes)) ≡ only_names F
put-part F i g k at bytes file = λ t j. by j (F j) refl t
  where
    by : (j : ℕ) (o : Option FileState) → F j ≡ o
        → named_part (file_after (put_given F i g k at bytes) j o) ≡ named_part o
    by j None e = refl
    by j (Some f) e = go (is_at i g j f.generation) refl
      where
        go : (b : Bool) → is_at i g j f.generation ≡ b
            → named_part (file_after (put_given F i g k at bytes) j (Some f)) ≡ named_part (Some f)
        go false q = none-part (put_given F i g k at bytes) j f (rw q refl) (λ l. rw q refl)
        go true q =
            let a = and-both (eqb i j) (eqb g f.generation) q in
            let same : i ≡ j = eqb-true i j a.0 in
            let is : F i ≡ Some f = ap F same ∙ e in
            size-part (put_given F i g k at bytes) j (max f.size (1024 * k + at + length bytes)) f
            (not-folder F i f file is) (rw (q, is, meta_with) refl)

resize-part : (F : Files) (i g size : ℕ) → is_folder_at F i ≡ false
    → only_names (files_after F (resize_given F i g size)) ≡ only_names F
resize-part F i g size file = λ t j. by j (F j) refl t
  where
    by : (j : ℕ) (o : Option FileState) → F j ≡ o
        → named_part (file_after (resize_given F i g size) j o) ≡ named_part o
    by j None e = refl
    by j (Some f) e = go (is_at i g j f.generation) refl
      where
        go : (b : Bool) → is_at i g j f.generation ≡ b
            → named_part (file_after (resize_given F i g size) j (Some f)) ≡ named_part (Some f)
        go false q = none-part (resize_given F i g size) j f (rw q refl) (λ l. rw q refl)
        go true q =
            let a = and-both (eqb i j) (eqb g f.generation) q in
            let same : i ≡ j = eqb-true i j a.0 in
            let is : F i ≡ Some f = ap F same ∙ e in
            size-part (resize_given F i g size) j size f (not-folder F i f file is) (rw (q, is, meta_with) refl)

-- a step that neither makes nor moves a name, whatever it is answered
abbrev pub leaves_names : Step → Bool
leaves_names (step.Make _ _ _ _) = false
leaves_names (step.Link _ _ _ _ _) = false
leaves_names (step.Drop _ _ _) = false
leaves_names (step.Rename _ _ _ _) = false
leaves_names _ = true

given-part : (W V : World) (s : Step) (c : Claims) → first_of (rows W V s) ≡ None → leaves_names s ≡ true
    → only_names (files_after W.files (gives W.files s c)) ≡ only_names W.files
unfolding gives
given-part W V (step.Put i g k at bytes) c r l = put-part W.files i g k at bytes (put-file W V i g k at bytes r)
given-part W V (step.Resize i g size) c r l = resize-part W.files i g size (resize-file W V i g size r)
given-part W V (step.Make d g name kind) c r l = cc l
given-part W V (step.Link d g name i of) c r l = cc l
given-part W V (step.Drop d g name) c r l = cc l
given-part W V (step.Rename d g old new) c r l = cc l
given-part W V _ c r l = ap only_names (files-stay W.files)

next-part : (W V : World) (e : Entry1) → Next W e V → leaves_names e.step ≡ true
    → only_names V.files ≡ only_names W.files
next-part W V e next l = ap only_names (files-next W V e next) ∙ go (is_refused e.reply) refl
  where
    go : (b : Bool) → is_refused e.reply ≡ b → only_names (files_by W.files e) ≡ only_names W.files
    go true q = rw q refl
    go false q = rw q (given-part W V e.step e.claims (accepted-acts W V e next q).0 l)

-- over such a step all that is found stays found
pub leaves-finds : (W V : World) (e : Entry1) → Next W e V → leaves_names e.step ≡ true
    → (d g : ℕ) (name : List ℕ) (it : Found) → Finds W.files d g name it → Finds V.files d g name it
leaves-finds W V e next l d g name it = finds-on W.files V.files d g name it (next-part W V e next l)

-- A Look that was done

passes-finds : (W V : World) (d g : ℕ) (name : List ℕ) (it : Found) → first_of (rows W V (step.Look d g name)) ≡ None
    → found_reply W.files d (found W.files d name) ≡ reply.Found it → Finds W.files d g name it
passes-finds W V d g name it r a = record {
  good = not-false (is_name name) (row-none (not (is_name name)) refusal.BadName
      (none-at (rows W V (step.Look d g name)) r 0 (bad_name name) refl));
  stands = not-false (is_some (W.files d) && eqb (generation_of W.files d) g)
      (row-none (not (is_some (W.files d) && eqb (generation_of W.files d) g)) refusal.Stale
      (none-at (rows W V (step.Look d g name)) r 1 (stale W d g) refl));
  folder = not-false (is_folder_at W.files d) (row-none (not (is_folder_at W.files d)) refusal.NotDirectory
      (none-at (rows W V (step.Look d g name)) r 2 (not_directory W d) refl));
  answer = a;
}

-- what it was answered stands before it and after it
pub look-finds : (W V : World) (e : Entry1) (d g : ℕ) (name : List ℕ) (it : Found) → Next W e V
    → e.step ≡ step.Look d g name → e.reply ≡ reply.Found it → Finds V.files d g name it
look-finds W V e d g name it next es er =
    let a = accepted-acts W V e next (ap is_refused er) in
    let r : first_of (rows W V (step.Look d g name)) ≡ None =
    subst (λ (s : Step). first_of (rows W V s) ≡ None) es a.0 in
    let f : Finds W.files d g name it = passes-finds W V d g name it r
    (ap (λ (s : Step). reply_of W s e.claims) (sym es) ∙ sym a.2 ∙ er) in
    leaves-finds W V e next (ap leaves_names es) d g name it f

-- and no row refuses it again
pub finds-passes : (W : World) (d g : ℕ) (name : List ℕ) (it : Found) → Finds W.files d g name it
    → (first_of (rows W W (step.Look d g name)) ≡ None) × (reply.Found it ≡ reply_of W (step.Look d g name) no_claims)
finds-passes W d g name it f =
    let n = f.good in let s = f.stands in let d' = f.folder in
    (rw (n, s, d') (missing-none (found W.files d name) refl), sym f.answer)
  where
    missing-none : (o : Option ℕ) → found W.files d name ≡ o → first_of (missing W d name ∷ []) ≡ None
    missing-none None e = absurd (let z : reply.Refused refusal.Missing ≡ reply.Found it =
        sym (ap (found_reply W.files d) e) ∙ f.answer in let y : true ≡ false = ap is_refused z in cc y)
    missing-none (Some p) e = rw e refl
