-- The lines of a slot.
use Rattle.std.proofs.Common.{◌≡◌, ℕ, zero, suc, ◌+◌, ◌*◌, ◌/◌, ◌%◌, ◌<◌, true, List, [], ◌∷◌, ◌++◌, append-nil}
use Rattle.std.proofs.Common.{append_assoc, Option, Some, None, is_some}
use Rattle.std.proofs.Common.{option_to_list, IsTrue, Result, Ok, refl, sym, ap, ◌∙◌, subst, arith, length}
use Rattle.std.proofs.Common.{length-append, ◌≤◌}
use Rattle.std.specs.Prelude.{All, IfSome}
use Rattle.std.proofs.lemmas.List.Elements.{All-push}
use Rattle.nofs_dirent.specs.Names.{NameOk, is_name}
use Rattle.nofs_dirent.specs.NameLaws.{is_name-Decides}
use Rattle.nofs_disk.specs.Disk.{DiskState, StaysButFaults}
use Rattle.nofs_disk.specs.Chains.{StaysButFaults-trans}
use Rattle.nofs_inode.specs.declared.inode.FileKind.TheVariants.{File, Directory}
use Rattle.nofs_dirent.specs.declared.entry.Entry.{Entry}
use Rattle.nofs_inode.specs.declared.inode.FileKind.{FileKind}
use Rattle.nofs_inode.specs.declared.inode.Record.{Record}
use Rattle.nofs_super.specs.declared.superblock.SuperBlock.{SuperBlock}
use Rattle.nofs_dirent.specs.Entries.{entry_in}
use Rattle.nofs_model.specs.Geometry.{Image, inode}
use Rattle.nofs_model.specs.Files.{Files, files_in, agreed, is_folder, entry_at}
use Rattle.nofs_model.specs.Slots.{value}
use Rattle.nofs_model.specs.declared.image.value.Value.TheVariants.{Bytes}
use Rattle.nofs_history.specs.Machine.{link_to, is_paired, is_folder_at}
use Rattle.nofs_history.specs.Answers.{line_of, lines_from, lines_in_slot}
use Rattle.nofs_history.specs.History.{FilesMatch}
use Rattle.nofs_history.specs.declared.machine.replies.NameLine.{NameLine}
use Rattle.nofs_history.specs.declared.machine.replies.Refusal.{Refusal}
use Rattle.nofs_agree.specs.Reads.{IsLast, KnowsDirectory}
use Rattle.nofs_agree.specs.declared.reads.LastRead.{LastRead}
use Rattle.nofs_agree.proofs.OnChain.{told-on}
use Rattle.nofs_names.specs.Searches.Slots.{paired_kind}
use Rattle.nofs_names.specs.Searches.Refusals.{IsThere}
use Rattle.nofs_names.specs.Lists.{line_with, name_line_in, ReadsLine, ReadsLines}
use Rattle.nofs_names.proofs.OnSearches.PairTests.{named_by, paired-is, paired-agreed}
use Rattle.nofs_names.proofs.OnSearches.Progress.{entry-is}
use Rattle.nofs_names.proofs.OnSteps.Refusals.{folder-at}

lines-more : (F : Files) (d e n : ℕ) → lines_from F d e (n + 1) ≡ lines_from F d e n
    ++ line_of F d (e + n) (entry_at F d (e + n))
lines-more F d e zero = let z : e ≡ e + 0 = omega arith in
    append-nil (line_of F d e (entry_at F d e)) ∙ (λ j. line_of F d (z j) (entry_at F d (z j)))
lines-more F d e (suc n) =
    let s : suc n + 1 ≡ suc (n + 1) = omega arith in
    let z : suc e + n ≡ e + suc n = omega arith in
    (λ j. lines_from F d e (s j))
    ∙ ap (λ (l : List NameLine). line_of F d e (entry_at F d e) ++ l) (lines-more F d (suc e) n)
    ∙ sym (append_assoc (line_of F d e (entry_at F d e)) (lines_from F d (suc e) n)
    (line_of F d (suc e + n) (entry_at F d (suc e + n))))
    ∙ (λ j. lines_from F d e (suc n) ++ line_of F d (z j) (entry_at F d (z j)))

module _ (F : Files) (X : Image) (d : ℕ) (dr : Record) (match : FilesMatch F X) (a : agreed (files_in X) d ≡ true)
    (same : inode X d ≡ dr)
    (folder : dr.kind ≡ Some Directory)
    (e k place : ℕ) (payload : List ℕ) (low : k < 72) (at : e / 16 ≡ k) (in_cell : e % 16 ≡ place)
    (bytes : value X d k ≡ Bytes payload) where
  pub line-is : line_of F d e (entry_at F d e)
      ≡ option_to_list (name_line_in X (link_to d e dr.generation) (entry_in payload place))
  line-is = ap (line_of F d e) (entry-is F X d dr match a same folder e k place payload [] low at in_cell bytes)
      ∙ go (entry_in payload place) refl
    where
      by-kind : (it : Entry) → (o : Option FileKind)
          → paired_kind (inode X it.inode) (named_by it) (link_to d e dr.generation) ≡ o
          → is_some o ≡ is_paired F d e → ((q : FileKind) → o ≡ Some q → is_folder_at F it.inode ≡ is_folder q)
          → line_of F d e (Some it) ≡ line_with it o ∷ []
      by-kind it None eo paired kind = let p = sym paired in rw p refl
      by-kind it (Some File) eo paired kind = let p = sym paired in let f = kind File refl in rw (p, f) refl
      by-kind it (Some Directory) eo paired kind = let p = sym paired in let f = kind Directory refl in rw (p, f) refl

      go : (o : Option Entry)
          → entry_in payload place ≡ o → line_of F d e o ≡ option_to_list (name_line_in X (link_to d e dr.generation) o)
      go None eo = refl
      go (Some it) eo =
          let there : entry_at F d e ≡ Some it =
          entry-is F X d dr match a same folder e k place payload [] low at in_cell bytes ∙ eo in
          by-kind it (paired_kind (inode X it.inode) (named_by it) (link_to d e dr.generation)) refl
          (paired-is F X d e dr match a same folder it there (inode X it.inode) refl)
          (λ q eq. let ag = paired-agreed F X d e dr match a same folder it there (inode X it.inode) q refl eq in
          folder-at F X it.inode (inode X it.inode)
          q match ag.0 refl ag.1)

-- so far the lines of the first n places

pub record Lining (old now : DiskState) (d slot n : ℕ) (so_far : List NameLine) (last : LastRead) : Type 0 where
  pub stays : StaysButFaults old now
  pub no_fault : now.faults ≡ old.faults
  pub kept : IsLast now last
  pub lines : IsTrue old.tells → IsThere d old.now → (F : Files) → FilesMatch F old.now
      → so_far ≡ lines_from F d (16 * slot) n
  pub few : length so_far ≤ n
  pub named : All (λ line. IsTrue (is_name line.name)) so_far

-- a line more, where there is one
few-more : (so_far : List NameLine) (line : Option NameLine) (n : ℕ)
    → length so_far ≤ n → length (so_far ++ option_to_list line) ≤ n + 1
few-more so_far None n few = omega (arith, few, length-append so_far [])
few-more so_far (Some x) n few = omega (arith, few, length-append so_far (x ∷ []))

named-more : (so_far : List NameLine) (line : Option NameLine) → All (λ x. IsTrue (is_name x.name)) so_far
    → IfSome line (λ x. NameOk x.name)
    → All (λ x. IsTrue (is_name x.name)) (so_far ++ option_to_list line)
named-more so_far None all ok = subst (All (λ (x : NameLine). IsTrue (is_name x.name))) (sym (append-nil so_far)) all
named-more so_far (Some x) all ok =
    All-push (λ (x : NameLine). IsTrue (is_name x.name)) so_far x all ((is_name-Decides x.name).1 ok)

module _ (old now new : DiskState) (at : SuperBlock) (d slot n : ℕ) (dr : Record) (payload : List ℕ)
    (so_far : List NameLine) (last next : LastRead)
    (known : KnowsDirectory old at d dr.generation dr) (low : slot < 72)
    (cell : IsTrue old.tells → value old.now d slot ≡ Bytes payload)
    (s : Lining old now d slot n so_far last) (small : n < 16) (res : Result (Option NameLine) Refusal)
    (reads : ReadsLine now new (link_to d (16 * slot + n) dr.generation) payload n next res) where
  pub lining-on : (line : Option NameLine) (longer : List NameLine) → res ≡ Ok line
      → longer ≡ so_far ++ option_to_list line
      → Lining old new d slot (n + 1) longer next
  lining-on line longer e el =
      let q : ReadsLine now new (link_to d (16 * slot + n) dr.generation) payload n next (Ok line) =
      subst (λ (r : Result (Option NameLine) Refusal). ReadsLine now new
      (link_to d (16 * slot + n) dr.generation) payload n next r) e reads in
      record {
        stays = StaysButFaults-trans old now new s.stays q.stays;
        no_fault = q.no_fault refl ∙ s.no_fault;
        kept = q.kept;
        lines = λ t a F m.
            let here : line ≡ name_line_in old.now (link_to d (16 * slot + n) dr.generation) (entry_in payload n) =
            subst (λ (X : Image). line ≡ name_line_in X (link_to d (16 * slot + n) dr.generation) (entry_in payload n))
            s.stays.cells.now
            (q.line (told-on old now s.stays t)) in
            el ∙ (λ j. s.lines t a F m j ++ option_to_list (here j))
            ∙ sym (lines-more F d (16 * slot) n ∙ ap (λ (l : List NameLine). lines_from F d (16 * slot) n ++ l)
            (line-is F old.now d dr m a (known.known.same t) known.kind (16 * slot + n) slot n payload low
            (omega (arith, small)) (omega (arith, small))
            (cell t)));
        few = subst (λ (ls : List NameLine). length ls ≤ n + 1) (sym el) (few-more so_far line n s.few);
        named = subst (All (λ (x : NameLine). IsTrue (is_name x.name))) (sym el)
            (named-more so_far line s.named q.named);
      }

pub lining-ends : (old now : DiskState) (d slot n : ℕ) (so_far : List NameLine) (last : LastRead)
    → Lining old now d slot n so_far last → n ≡ 16
    → ReadsLines old now d slot (Ok so_far)
unfolding lines_in_slot
lining-ends old now d slot n so_far last s e = record {
  stays = s.stays;
  no_fault = λ e. s.no_fault;
  lines = λ t a F m. s.lines t a F m ∙ ap (lines_from F d (16 * slot)) e;
  few = (let f = s.few in omega (arith, f, e));
  named = s.named;
  refused = tt;
}
