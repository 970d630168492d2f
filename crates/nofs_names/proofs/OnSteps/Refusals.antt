-- The rows of refusals of the parts that steps on names share.
use Rattle.std.proofs.Common.{◌≡◌, ℕ, Bool, true, false, List, [], ◌∷◌, Option, Some, None, option_map, IsTrue, Result}
use Rattle.std.proofs.Common.{Ok}
use Rattle.std.proofs.Common.{Err, IfErr, refl, sym, ap, ◌∙◌, subst}
use Rattle.nofs_dirent.specs.Entries.{entry_limit}
use Rattle.nofs_disk.specs.Disk.{DiskState}
use Rattle.nofs_inode.specs.declared.inode.FileKind.TheVariants.{Directory as Folder}
use Rattle.nofs_inode.specs.declared.inode.FileKind.{FileKind}
use Rattle.nofs_inode.specs.declared.inode.Record.{Record}
use Rattle.nofs_super.specs.declared.superblock.SuperBlock.{SuperBlock}
use Rattle.nofs_model.specs.Geometry.{Image, inode}
use Rattle.nofs_model.specs.Files.{files_in, agreed, Files, is_folder}
use Rattle.nofs_history.specs.Search.{first_of}
use Rattle.nofs_history.specs.Machine.{is_folder_at, found, first_dead, first_lost_slot, place_for}
use Rattle.nofs_history.specs.World.{World}
use Rattle.nofs_history.specs.Refusals.{missing, exists}
use Rattle.nofs_history.specs.History.{FilesMatch}
use Rattle.nofs_history.specs.declared.machine.replies.Refusal.{Refusal}
use Rattle.nofs_history.specs.declared.machine.replies.Refusal.TheVariants as refusal
use Rattle.nofs_crashlaw.proofs.OnUntouched.Matches.{matched-agreed}
use Rattle.nofs_agree.specs.declared.reads.LastRead.{LastRead}
use Rattle.nofs_agree.proofs.OnChain.{record-of}
use Rattle.nofs_state.specs.Cores.Steps.{is_late}
use Rattle.nofs_state.specs.Inodes.Opened.{Opens, OpenFails, met_fault}
use Rattle.nofs_state.specs.declared.books.maps.Books.{Books}
use Rattle.nofs_state.specs.declared.inodes.opened.Opened.{Opened}
use Rattle.nofs_state.proofs.OnBooks.CurrentFiles.{current-agreed}
use Rattle.nofs_state.proofs.OnBooks.Machine.{agreed-live, stale-none, stale-some}
use Rattle.nofs_names.specs.Searches.Slots.{Passed, Searches}
use Rattle.nofs_names.specs.Searches.Refusals.{Fails, ByRow, ByRead, KnownTrue, directory_rows, OpensDirectory}
use Rattle.nofs_names.specs.Searches.Refusals.{FindsPair, IsPairOf, missing_in, unused_in}
use Rattle.nofs_names.specs.Searches.Refusals.{FindsNone, hole_place, place_of_entry}
use Rattle.nofs_names.specs.declared.searches.slots.Paired.{Paired}
use Rattle.nofs_names.specs.declared.searches.slots.Unfound.{Unfound}
use Rattle.nofs_names.specs.declared.searches.slots.Searched.{Searched}
use Rattle.nofs_names.specs.declared.searches.slots.Searched.TheVariants as searched
use Rattle.nofs_names.proofs.OnSearches.PairTests.{kind-of}
use Rattle.nofs_history.specs.Steps.{InRange}

-- whether an agreed inode is a directory
pub folder-at : (F : Files) (X : Image) (i : ℕ) (r : Record) (kind : FileKind) → FilesMatch F X
    → agreed (files_in X) i ≡ true → inode X i ≡ r
    → r.kind ≡ Some kind → is_folder_at F i ≡ is_folder kind
folder-at F X i r kind match a er ek =
    let m = matched-agreed F X i match (agreed-live X i a) a in
    let k : Some m.file.kind ≡ Some kind = sym (kind-of F X i m.file match a m.is)
    ∙ ap (λ (q : Record). q.kind) er ∙ ek in
    let s : m.file.kind ≡ kind = cc k in
    rw (m.is, is_folder_at) (ap is_folder s)

-- The directory

module _ (old new : DiskState) (k : Books) (d g : ℕ) (last : LastRead) (res : Result Opened Refusal)
    (opens : Opens old new k d g last res) where
  no-directory : (why : Refusal) → Fails old new (KnownTrue k) (directory_rows d g) why
      → OpensDirectory old new k d g last (Err why)
  no-directory why f =
      record {
        stays = opens.stays;
        directory = tt;
        generation = tt;
        passes = tt;
        there = tt;
        kept = tt;
        no_fault = tt;
        refused = f;
      }

  pub directory-stale : (why : Refusal) → res ≡ Err why → OpensDirectory old new k d g last (Err why)
  directory-stale why e = no-directory why
      (go why e (subst (λ (q : Result Opened Refusal). IfErr q (OpenFails old new k d g)) e opens.refused))
    where
      go : (w : Refusal) → res ≡ Err w → OpenFails old new k d g w → Fails old new (KnownTrue k) (directory_rows d g) w
      go refusal.Stale e fails = ByRow refl tt (opens.no_fault (ap met_fault e))
          (λ t all W match. rw (stale-some W old.now d g match (fails t all)) refl)
      go refusal.ReadFault e fails = ByRead refl fails
      go _ e fails = absurd fails

  module _ (it : Opened) (is : res ≡ Ok it) where
    opened : Opens old new k d g last (Ok it)
    opened = subst (λ (q : Result Opened Refusal). Opens old new k d g last q) is opens

    folder-of : IsTrue old.tells → KnownTrue k old.now → (W : World) → FilesMatch W.files old.now
        → is_folder_at W.files d ≡ is_folder it.kind
    folder-of t all W match =
        folder-at W.files old.now d it.found it.kind match (current-agreed old.now d g (opened.current t all))
        (record-of old new k.at d it.found opens.stays opened.known.known t) opened.known.kind

    pub directory-file : is_folder it.kind ≡ false → OpensDirectory old new k d g last (Err refusal.NotDirectory)
    directory-file no_folder = no-directory refusal.NotDirectory
        (ByRow refl tt (opened.no_fault refl) (λ t all W match. let f = folder-of t all W match ∙ no_folder in
        rw (stale-none W old.now d g match (opened.current t all), f) refl))

    pub directory-is : is_folder it.kind ≡ true → OpensDirectory old new k d g last (Ok it.found)
    directory-is folder = record {
      stays = opens.stays;
      directory = record {
        known = opened.known.known;
        kind = opened.known.kind ∙ ap Some (folder-kind it.kind folder);
        generation = refl;
      };
      generation = opened.known.generation;
      passes = λ t all W match. let f = folder-of t all W match ∙ folder in
          rw (stale-none W old.now d g match (opened.current t all), f) refl;
      there = λ t all. current-agreed old.now d g (opened.current t all);
      kept = opened.kept;
      no_fault = opened.no_fault refl;
      refused = tt;
    }
      where
        folder-kind : (q : FileKind) → is_folder q ≡ true → q ≡ Folder
        folder-kind Folder e = refl
        folder-kind _ e = cc e

-- The name

missing-is : (F : Files) (W : World) (d : ℕ) (name : List ℕ) (w : Bool) (u : Unfound)
    → W.files ≡ F → Passed F d name w entry_limit 72 u → missing W d name ≡ missing_in u
unfolding found first_dead first_lost_slot
missing-is F W d name w u e p =
    let q : Passed W.files d name w entry_limit 72 u =
    subst (λ (G : Files). Passed G d name w entry_limit 72 u) (sym e) p in
    rw (q.none, q.dead, q.lost) refl

plain-missing : (u : Unfound) (why : Refusal) → Some why ≡ missing_in u → is_late why ≡ true
plain-missing u why e = go u.dead u.lost (e)
  where
    go : (a b : Option ℕ) → Some why
        ≡ first_of (option_map refusal.LostEntry a ∷ option_map refusal.LostSlot b ∷ Some refusal.Missing ∷ [])
        → is_late why ≡ true
    go (Some a) b h = ap is_late (let s : why ≡ refusal.LostEntry a = cc h in s)
    go None (Some b) h = ap is_late (let s : why ≡ refusal.LostSlot b = cc h in s)
    go None None h = ap is_late (let s : why ≡ refusal.Missing = cc h in s)

range-missing : (u : Unfound) (why : Refusal) → Some why ≡ missing_in u → InRange why
range-missing u why e = go u.dead u.lost (e)
  where
    go : (a b : Option ℕ) → Some why ≡ first_of (option_map refusal.LostEntry a ∷ option_map refusal.LostSlot b
        ∷ Some refusal.Missing ∷ []) → InRange why
    go (Some a) b h = let s : why ≡ refusal.LostEntry a = cc h in subst (λ (w : Refusal). InRange w) (sym s) tt
    go None (Some b) h = let s : why ≡ refusal.LostSlot b = cc h in subst (λ (w : Refusal). InRange w) (sym s) tt
    go None None h = let s : why ≡ refusal.Missing = cc h in subst (λ (w : Refusal). InRange w) (sym s) tt

module _ (old new : DiskState) (at : SuperBlock) (d : ℕ) (name : List ℕ) (names records : LastRead) where
  pub pair-found : (s : Searched) (res : Result Paired Refusal) → Searches old new at d name false names records (Ok s)
      → IsPairOf s res
      → FindsPair old new at d name names records res
  pair-found (searched.Found p) res search is =
      subst (λ (r : Result Paired Refusal). FindsPair old new at d name names records r) (sym is) (record {
        stays = search.stays;
        known = search.known;
        found = λ t there F match. search.answer t F match there;
        kept = search.kept;
        no_fault = search.no_fault;
        refused = tt;
      })
  pair-found (searched.Unfound u) res search is =
      let (why, e, ew) = is in
      subst (λ (r : Result Paired Refusal). FindsPair old new at d name names records r) (sym e) (record {
        stays = search.stays;
        known = tt;
        found = tt;
        kept = tt;
        no_fault = tt;
        refused = ByRow (plain-missing u why ew) (range-missing u why ew) search.no_fault (λ t there W match. let m =
            missing-is W.files W d name false u refl (search.answer t W.files match there) ∙ sym ew in rw m refl);
      })

  pub name-unused : (s : Searched) (res : Result Unfound Refusal) → Searches old new at d name true names records (Ok s)
      → res ≡ unused_in s
      → FindsNone old new d name names records res
  name-unused (searched.Found p) res search is =
      subst (λ (r : Result Unfound Refusal). FindsNone old new d name names records r) (sym is) (record {
        stays = search.stays;
        seen = tt;
        kept = tt;
        no_fault = tt;
        refused = ByRow refl tt search.no_fault
            (λ t there W match. let f = (search.answer t W.files match there).found in rw f refl);
      })
  name-unused (searched.Unfound u) res search is =
      subst (λ (r : Result Unfound Refusal). FindsNone old new d name names records r) (sym is) (record {
        stays = search.stays;
        seen = λ t there F match. search.answer t F match there;
        kept = search.kept;
        no_fault = search.no_fault;
        refused = tt;
      })

-- where no pair has the name, no row of an existing name comes, and this is the place of a new entry

pub exists-none : (W : World) (d : ℕ) (name : List ℕ) (u : Unfound) → Passed W.files d name true entry_limit 72 u
    → exists W d name ≡ None
unfolding found
exists-none W d name u p = let n = p.none in rw n refl

pub place-is : (F : Files) (d : ℕ) (name : List ℕ) (u : Unfound) → Passed F d name true entry_limit 72 u
    → place_for F d name ≡ place_of_entry u
unfolding place_for first_dead
place-is F d name u p = λ j. first_of (p.dead j ∷ p.empty refl j ∷ hole_place (p.hole j) ∷ [])
