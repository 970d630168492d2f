-- The names of a moved file: what leaves them, and what Look found.
use Rattle.std.proofs.Common.{◌≡◌, ℕ, ◌/◌, ◌<◌, Bool, true, false, eqb, ◌&&◌, not, List, [], length, Option, Some, None}
use Rattle.std.proofs.Common.{is_some, refl, sym, ap, ◌∙◌, subst, arith, Contains, eqb-true, eq-eqb}
use Rattle.std.specs.Prelude.{bytes_eq}
use Rattle.std.proofs.lemmas.Slice.Eq.{bytes_eq-Decides}
use Rattle.std.proofs.lemmas.List.{length-replicate}
use Rattle.nofs_inode.specs.declared.inode.FileKind.{FileKind}
use Rattle.nofs_inode.specs.declared.inode.BackLink.{BackLink}
use Rattle.nofs_dirent.specs.declared.entry.Entry.{Entry}
use Rattle.nofs_dirent.specs.Entries.{entry_limit}
use Rattle.nofs_model.specs.Files.{Files, FileState, entry_at, entry_held, is_pair, links_of}
use Rattle.nofs_model.specs.declared.image.value.Value.{Value}
use Rattle.nofs_model.proofs.OnSlots.Find.{and-both}
use Rattle.nofs_model.proofs.OnFiles.Chains.{pair-of}
use Rattle.nofs_history.specs.Search.{first_of, least_from}
use Rattle.nofs_history.specs.Machine.{Given, gives, found, entry_has_name, is_paired, generation_of, value_of}
use Rattle.nofs_history.specs.Machine.{bytes_in, zero_bytes, with_entry, link_to, given_by, drop_given, is_refused}
use Rattle.nofs_history.specs.World.{World}
use Rattle.nofs_history.specs.Refusals.{row, rows, stale, not_directory}
use Rattle.nofs_history.specs.Answers.{found_file, found_entry, found_reply, reply_of}
use Rattle.nofs_history.specs.Next.{Next}
use Rattle.nofs_history.specs.declared.machine.history.Claims.{Claims}
use Rattle.nofs_history.specs.declared.machine.history.Entry1.{Entry1}
use Rattle.nofs_history.specs.declared.machine.steps.Step.{Step}
use Rattle.nofs_history.specs.declared.machine.steps.Step.TheVariants as step
use Rattle.nofs_history.specs.declared.machine.replies.Reply.{Reply}
use Rattle.nofs_history.specs.declared.machine.replies.Reply.TheVariants as reply
use Rattle.nofs_history.specs.declared.machine.replies.Refusal.TheVariants as refusal
use Rattle.nofs_crashlaw.proofs.OnFiles.Given.{value-of}
use Rattle.nofs_crashlaw.proofs.OnUntouched.Matches.{gen-of}
use Rattle.nofs_crashlaw.proofs.OnNames.EntryCells.{no-entry, entry-here}
use Rattle.nofs_crashlaw.proofs.OnNames.Drops.{paired-link}
use Rattle.nofs_crashlaw.proofs.OnNames.Premises.{least-passes, least-none, found-parts, drop-gives}
use Rattle.nofs_crashlaw.proofs.OnRuns.Places.{contains-at}
use Rattle.nofs_crashlaw.proofs.OnRuns.Acts.{Acts, Idle, Acting, acts, accepted-acts}
use Rattle.nofs_crashlaw.proofs.OnRuns.Gives.{none-at, row-none}
use Rattle.nofs_crashlaw.proofs.OnRuns.PairEntries.{Kept, Same, Renamed, Dropped}
use Rattle.nofs_crashlaw.proofs.OnRuns.Links.{IsSane, Linked, pair-linked}
use Rattle.nofs_crashlaw.proofs.OnRuns.Chains.{Guard, linked-kept, Names}
use Rattle.nofs_crashlaw.proofs.OnRuns.Directories.{directory-row}
use Rattle.nofs_crashlaw.specs.Paths.Moves.{KeepsEntry, named_entry}

-- the one entry that passes
abbrev pub Only : Entry → Entry → Type 0
Only entry x = x ≡ entry

-- Entries that leave a name

abbrev is_rename : Step → Bool
is_rename (step.Rename d g old new) = true
is_rename _ = false

-- a step that is neither a Rename nor a Drop of the entry
pub plain-guard : (entry : Entry) (W V : World) (e : Entry1) (i g b : ℕ) (link : BackLink) → IsSane W → Next W e V
    → Linked (λ x. Only entry x) W.files i g b link
    → ((of : ℕ) (old new : List ℕ) → e.step ≡ step.Rename link.directory of old new
    → found W.files link.directory old ≡ Some link.entry → ⊥)
    → ((of : ℕ) (name : List ℕ) → e.step ≡ step.Drop link.directory of name
    → found W.files link.directory name ≡ Some link.entry → ⊥)
    → Guard (λ x. Only entry x) W e link
plain-guard entry W V e i g b link sane next l unrenamed undropped =
    record { undropped = λ V' same row claim of name es ef. undropped of name es ef; keeps = keeps }
  where
    keeps : (v : Value) → (given_by W.files e).slots link.directory link.generation (link.entry / 16) ≡ Some v
        → (x : Entry) × (entry_held v link.entry ≡ Some x) × Only entry x
    keeps v h = by (acts W V e next)
      where
        kept : Kept W.files e.step link.directory link.entry l.entry v
            → (x : Entry) × (entry_held v link.entry ≡ Some x) × Only entry x
        kept (Same same) = (l.entry, same, l.passes)
        kept (Renamed of old new es ef same) = absurd (unrenamed of old new es ef)
        kept (Dropped of name es ef) = absurd (undropped of name es ef)

        by : Acts W e → (x : Entry) × (entry_held v link.entry ≡ Some x) × Only entry x
        by (Idle same) =
            absurd (let z : (given_by W.files e).slots link.directory link.generation (link.entry / 16) ≡ None =
            ap (λ (x : Given). x.slots link.directory link.generation (link.entry / 16)) same in cc (z, h))
        by (Acting V' same row claim) =
            kept (linked-kept (λ x. Only entry x) W V' e i g b link sane l same row claim l v h)

-- a Drop that is done clears the entry
drop-clears : (W V : World) (c : Claims) (d of g p : ℕ) (name : List ℕ) (f : FileState)
    → first_of (rows W V (step.Drop d of name)) ≡ None
    → W.files d ≡ Some f → f.generation ≡ g → found W.files d name ≡ Some p
    → length (bytes_in (f.values (p / 16))) ≡ 1024
    → (v : Value) × ((gives W.files (step.Drop d of name) c).slots d g (p / 16) ≡ Some v) × (entry_held v p ≡ None)
drop-clears W V c d of g p name f r is gen ef whole =
    let x = found-parts W.files d name p ef in
    let old : Value = value_of W.files d (p / 16) in
    let whole' : length (bytes_in (value_of W.files d (p / 16))) ≡ 1024 =
    ap (λ (v : Value). length (bytes_in v)) (value-of W.files d f is (p / 16)) ∙ whole in
    let gives-it : (gives W.files (step.Drop d of name) c).slots d g (p / 16)
    ≡ Some (with_entry (value_of W.files d (p / 16)) p (zero_bytes 64)) =
    ap (λ (y : Given). y.slots d g (p / 16)) (drop-gives W.files d of name c p ef) ∙ given x.0 x.1 in (
      with_entry (value_of W.files d (p / 16)) p (zero_bytes 64),
      gives-it,
      entry-here (value_of W.files d (p / 16)) p (zero_bytes 64) whole' (length-replicate {A = ℕ} 64 0) ∙ no-entry,
    )
  where
    live : of ≡ g
    live =
        let t = row-none (not (is_some (W.files d) && eqb (generation_of W.files d) of)) refusal.Stale
        (none-at (rows W V (step.Drop d of name)) r 1 (stale W d of) refl) in
        both (is_some (W.files d)) (eqb (generation_of W.files d) of) refl t
      where
        both : (a b : Bool) → eqb (generation_of W.files d) of ≡ b → not (a && b) ≡ false → of ≡ g
        both true true e t = sym (eqb-true (generation_of W.files d) of e) ∙ gen-of W.files d f is ∙ gen
        both true false e t = cc t
        both false b e t = cc t

    given : (x : Entry) → entry_at W.files d p ≡ Some x → (drop_given W.files d of p).slots d g (p / 16) ≡ Some
        (with_entry (value_of W.files d (p / 16)) p (zero_bytes 64))
    given x ex =
        let a = eq-eqb d d refl in
        let b = eq-eqb of g live in
        let k = eq-eqb (p / 16) (p / 16) refl in
        rw (ex, drop_given) (rw (a, b, k) refl)

-- another caller's entry, which keeps the entry in the cells that it gives
pub keeping-guard : (entry : Entry) (W V : World) (e : Entry1) (i g b : ℕ) (link : BackLink) → IsSane W
    → Linked (λ x. Only entry x) W.files i g b link
    → KeepsEntry (given_by W.files e) link.directory link.generation link.entry entry
    → Guard (λ x. Only entry x) W e link
keeping-guard entry W V e i g b link sane l kept = record {
  undropped = λ V' same row claim of name es ef.
      let row' : first_of (rows W V' (step.Drop link.directory of name)) ≡ None =
      subst (λ (s : Step). first_of (rows W V' s) ≡ None) es row in
      let c = drop-clears W V' e.claims link.directory of link.generation link.entry name l.parent.file row' l.parent.is
      l.parent.generation ef
      (sane.whole link.directory l.parent.file l.parent.is l.parent.folder (link.entry / 16)) in
      let h : (given_by W.files e).slots link.directory link.generation (link.entry / 16) ≡ Some c.0 =
      ap (λ (x : Given). x.slots link.directory link.generation (link.entry / 16)) same
      ∙ ap (λ (s : Step). (gives W.files s e.claims).slots link.directory link.generation (link.entry / 16)) es ∙ c.1 in
      let z = kept c.0 h in let n = c.2 in cc (z, n);
  keeps = λ v h. (entry, kept v h, refl);
}

same-file : (o : Option FileState) (a b : FileState) → o ≡ Some a → o ≡ Some b → a ≡ b
same-file o a b x y = cc (x, y)

same-entry : (o : Option Entry) (a b : Entry) → o ≡ Some a → o ≡ Some b → a ≡ b
same-entry o a b x y = cc (x, y)

-- What Look found

pub named-is : (x : Entry) (i g : ℕ) (name : List ℕ)
    → x.inode ≡ i → x.generation ≡ g → x.name ≡ name → x ≡ named_entry i g name
named-is x i g name a b c = λ j. record { inode = a j; generation = b j; name = c j }

-- the name of the entry that a name finds
pub found-name : (F : Files) (d : ℕ) (name : List ℕ) (p : ℕ) (x : Entry) → found F d name ≡ Some p
    → entry_at F d p ≡ Some x → x.name ≡ name
unfolding found
found-name F d name p x ef ex =
    let q = least-passes (λ k. entry_has_name F d name k && is_paired F d k) 0 entry_limit p ef in
    let a = and-both (entry_has_name F d name p) (is_paired F d p) q.0 in
    let h : bytes_eq x.name name ≡ true = rw (ex, entry_has_name) at a.0 in
    (bytes_eq-Decides x.name name).0 h

-- a name that is there finds something
pub name-finds : (F : Files) (d : ℕ) (name : List ℕ) (p : ℕ) (x : Entry) → entry_at F d p ≡ Some x
    → x.name ≡ name → is_paired F d p ≡ true → p < entry_limit
    → is_some (found F d name) ≡ true
unfolding found
name-finds F d name p x ex nx paired lt =
    go (is_some (least_from (λ k. entry_has_name F d name k && is_paired F d k) 0 entry_limit)) refl
  where
    go : (b : Bool) → is_some (least_from (λ k. entry_has_name F d name k && is_paired F d k) 0 entry_limit) ≡ b
        → is_some (least_from (λ k. entry_has_name F d name k && is_paired F d k) 0 entry_limit) ≡ true
    go true q = q
    go false q = absurd (
        let z = least-none (λ k. entry_has_name F d name k && is_paired F d k) 0 entry_limit q p (omega arith)
        (omega (arith, lt)) in
        let e = (bytes_eq-Decides x.name name).1 nx in
        let h : entry_has_name F d name p ≡ true = rw (ex, entry_has_name) e in
        let y : (entry_has_name F d name p && is_paired F d p) ≡ true = rw (h, paired) refl in
        cc (z, y))

-- a link to an entry of this name
only-linked : (F : Files) (d i g b p dg : ℕ) (name : List ℕ) (entry : Entry)
    → Linked (λ x. Names i g x) F i g b (link_to d p dg)
    → entry_at F d p ≡ Some entry → entry.name ≡ name
    → Linked (λ x. Only (named_entry i g name) x) F i g b (link_to d p dg) × (entry ≡ named_entry i g name)
only-linked F d i g b p dg name entry k ex ne =
    let one : k.entry ≡ entry = same-entry (entry_at F d p) k.entry entry k.there ex in
    let inode : entry.inode ≡ i = sym (ap (λ (x : Entry). x.inode) one) ∙ k.names_inode in
    let generation : entry.generation ≡ g = sym (ap (λ (x : Entry). x.generation) one) ∙ k.names_generation in
    let whole : entry ≡ named_entry i g name = named-is entry i g name inode generation ne in (
      record {
        file = k.file;
        is = k.is;
        generation = k.generation;
        at = k.at;
        parent = k.parent;
        passes = one ∙ whole;
        older = k.older;
        entry = k.entry;
        there = k.there;
        names_inode = k.names_inode;
        names_generation = k.names_generation;
      },
      whole,
    )

-- the name that Look found leads to its file
pub look-linked : (W V : World) (e : Entry1) (d dg i g p : ℕ) (name : List ℕ) (kind : FileKind) (entry : Entry)
    → Next W e V → e.step ≡ step.Look d dg name
    → e.reply ≡ reply.Found (record { inode = i; generation = g; kind = kind })
    → found W.files d name ≡ Some p → entry_at W.files d p ≡ Some entry
    → (b : ℕ) × Linked (λ x. Only (named_entry i g name) x) W.files i g b (link_to d p dg)
    × (entry ≡ named_entry i g name)
look-linked W V e d dg i g p name kind entry next es er ef ex =
    let a = accepted-acts W V e next (ap is_refused er) in
    let r : first_of (rows W V (step.Look d dg name)) ≡ None =
    subst (λ (s : Step). first_of (rows W V s) ≡ None) es a.0 in
    let dir = directory-row W d dg (none-at (rows W V (step.Look d dg name)) r 1 (stale W d dg) refl)
    (none-at (rows W V (step.Look d dg name)) r 2 (not_directory W d) refl) in
    let asked : reply_of W e.step e.claims ≡ found_reply W.files d (found W.files d name) =
    ap (λ (s : Step). reply_of W s e.claims) es in
    let at_place : found_reply W.files d (found W.files d name) ≡ found_entry W.files (entry_at W.files d p) =
    ap (found_reply W.files d) ef in
    let of_entry : found_entry W.files (entry_at W.files d p) ≡ found_entry W.files (Some entry) =
    ap (λ (o : Option Entry). found_entry W.files o) ex in
    let answer : found_entry W.files (Some entry) ≡ reply.Found (record { inode = i; generation = g; kind = kind }) =
    sym of_entry ∙ sym at_place ∙ sym asked ∙ sym a.2 ∙ er in
    let file = file-found (W.files entry.inode) refl answer in
    let paired = (found-parts W.files d name p ef).2 in
    let l = paired-link W.files d p entry ex paired in
    let q = pair-of W.files entry.inode l.0 l.2 in
    let qd : q.parent ≡ dir.file =
    same-file (W.files d) q.parent dir.file (ap W.files (sym l.3) ∙ q.parent_is) dir.is in
    let ql : l.0.generation ≡ dg = sym q.parent_generation ∙ ap (λ (f : FileState). f.generation) qd ∙ dir.generation in
    let same : l.0 ≡ link_to d p dg = (λ j. record { directory = l.3 j; entry = l.4 j; generation = ql j }) in
    let links : links_of W.files entry.inode ≡ file.0.links =
    ap (λ (o : Option FileState). elim o [ None ↦ [] | Some y ↦ y.links ]) file.1 in
    let at = contains-at file.0.links (link_to d p dg) (subst (λ (k : BackLink). Contains file.0.links k) same
    (subst (λ (ls : List BackLink). Contains ls l.0) links l.1)) in
    let is : W.files i ≡ Some file.0 = sym (ap W.files file.2) ∙ file.1 in
    let pair : is_pair W.files i (link_to d p dg) ≡ true = subst (λ (k : BackLink). is_pair W.files i k ≡ true) same
    (subst (λ (j : ℕ). is_pair W.files j l.0 ≡ true) file.2 l.2) in
    let k = pair-linked W.files i g at.0 file.0 (link_to d p dg) is file.3 at.1 pair in
    let o = only-linked W.files d i g at.0 p dg name entry k ex (found-name W.files d name p entry ef ex) in
    (at.0, o.0, o.1)
  where
    inode-of : Reply → ℕ
    inode-of (reply.Found x) = x.inode
    inode-of _ = 0

    generation-in : Reply → ℕ
    generation-in (reply.Found x) = x.generation
    generation-in _ = 0

    file-found : (o : Option FileState) → W.files entry.inode ≡ o
        → found_entry W.files (Some entry) ≡ reply.Found (record { inode = i; generation = g; kind = kind })
        → (f : FileState) × (W.files entry.inode ≡ Some f) × (entry.inode ≡ i) × (f.generation ≡ g)
    file-found None eo h =
        absurd (let z : found_file entry.inode None ≡ reply.Found (record { inode = i; generation = g; kind = kind }) =
        sym (ap (found_file entry.inode) eo) ∙ h in let y : true ≡ false = ap is_refused z in cc y)
    file-found (Some f) eo h =
        let z : found_file entry.inode (Some f) ≡ reply.Found (record { inode = i; generation = g; kind = kind }) =
        sym (ap (found_file entry.inode) eo) ∙ h in
        (f, eo, ap inode-of z, ap generation-in z)
