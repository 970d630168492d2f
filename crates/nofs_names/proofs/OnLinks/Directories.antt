-- The directory and the file of a Link, and the place of its back link.
use Rattle.std.proofs.Common.{◌≡◌, ◌≢◌, ℕ, zero, suc, ◌+◌, ◌<◌, ◌≤◌, inl, inr, Bool, true, false, not, eq-eqb, ne_eqb}
use Rattle.std.proofs.Common.{List, [], ◌∷◌, length, get_or, Option}
use Rattle.std.proofs.Common.{Some, None, IsTrue, Result, Ok, Err, IfErr, refl, sym, ap, ◌∙◌, subst, arith, le_refl}
use Rattle.std.proofs.lemmas.Bool.{cases_lt}
use Rattle.nofs_disk.specs.Disk.{DiskState, StaysButFaults}
use Rattle.nofs_disk.specs.Chains.{StaysButFaults-refl, StaysButFaults-trans, Rose-within}
use Rattle.nofs_disk.specs.declared.Failed.{Failed}
use Rattle.nofs_inode.specs.InodeRecords.{is_empty_link, no_link}
use Rattle.nofs_inode.specs.declared.inode.FileKind.TheVariants.{File, Directory}
use Rattle.nofs_inode.specs.declared.inode.BackLink.{BackLink}
use Rattle.nofs_inode.specs.declared.inode.FileKind.{FileKind}
use Rattle.nofs_inode.specs.declared.inode.Record.{Record}
use Rattle.nofs_super.specs.declared.superblock.SuperBlock.{SuperBlock}
use Rattle.nofs_model.specs.Geometry.{Image, inode}
use Rattle.nofs_model.specs.Files.{Files, files_in, agreed, is_folder, is_pair, links_of, links_in_file}
use Rattle.nofs_history.specs.Search.{first_of}
use Rattle.nofs_history.specs.Machine.{is_folder_at, link_place, place_for_link}
use Rattle.nofs_history.specs.World.{World}
use Rattle.nofs_history.specs.History.{FilesMatch}
use Rattle.nofs_history.specs.declared.machine.replies.Refusal.{Refusal}
use Rattle.nofs_history.specs.declared.machine.replies.Refusal.TheVariants as refusal
use Rattle.nofs_crashlaw.proofs.OnUntouched.Matches.{matched-agreed}
use Rattle.nofs_agree.specs.Reads.{IsLast, KnowsInode}
use Rattle.nofs_agree.specs.Chain.{AreTrue, TellsAgreed, is_agreed_link}
use Rattle.nofs_agree.specs.declared.reads.LastRead.{LastRead}
use Rattle.nofs_agree.proofs.OnPair.{four-links}
use Rattle.nofs_agree.proofs.OnChain.{told-on, record-of, KnowsInode-on}
use Rattle.nofs_state.specs.Inodes.Opened.{Opens, OpenFails, is_current, met_fault}
use Rattle.nofs_state.specs.declared.books.maps.Books.{Books}
use Rattle.nofs_state.specs.declared.inodes.opened.Opened.{Opened}
use Rattle.nofs_names.specs.Searches.Refusals.{Fails, ByRow, ByRead, KnownTrue}
use Rattle.nofs_state.proofs.OnBooks.Machine.{agreed-live, machine-pair, stale-none, stale-some}
use Rattle.nofs_state.proofs.OnBooks.CurrentFiles.{current-agreed}
use Rattle.nofs_names.proofs.OnSteps.Refusals.{folder-at}
use Rattle.nofs_names.specs.Links.{FindsLinkPlace, IsKnown, OpensBoth, TellsDeadPlace, both_as, both_rows, dead_place}
use Rattle.nofs_names.specs.Links.{place_or_many}

-- The directory and the file

both-refused : (old new : DiskState) (k : Books) (d g i of : ℕ) (why : Refusal) → StaysButFaults old new
    → Fails old new (KnownTrue k) (both_rows d g i of) why → OpensBoth old new k d g i of (Err why)
both-refused old new k d g i of why stays fails =
    record { stays = stays; no_fault = tt; known = tt; there = tt; passes = tt; refused = fails }

module _ (old mid : DiskState) (k : Books) (d g i of : ℕ) (last : LastRead) (res : Result Opened Refusal)
    (opens : Opens old mid k d g last res) where
  pub both-no-directory : (why : Refusal) → res ≡ Err why → OpensBoth old mid k d g i of (Err why)
  both-no-directory why e = both-refused old mid k d g i of why opens.stays
      (go why e (subst (λ (q : Result Opened Refusal). IfErr q (OpenFails old mid k d g)) e opens.refused))
    where
      go : (w : Refusal) → res ≡ Err w → OpenFails old mid k d g w
          → Fails old mid (KnownTrue k) (both_rows d g i of) w
      go refusal.Stale e fails = ByRow refl tt (opens.no_fault (ap met_fault e))
          (λ t all W match. rw (stale-some W old.now d g match (fails t all)) refl)
      go refusal.ReadFault e fails = ByRead refl fails
      go _ e fails = absurd fails

  module _ (a : Opened) (is : res ≡ Ok a) (new : DiskState) (next : LastRead) (res2 : Result Opened Refusal)
      (opens2 : Opens mid new k i of next res2) where
    one : Opens old mid k d g last (Ok a)
    one = subst (λ (q : Result Opened Refusal). Opens old mid k d g last q) is opens

    after : StaysButFaults old new
    after = StaysButFaults-trans old mid new one.stays opens2.stays

    pub both-no-file : (why : Refusal) → res2 ≡ Err why → OpensBoth old new k d g i of (Err why)
    both-no-file why e = both-refused old new k d g i of why after
        (go why e (subst (λ (q : Result Opened Refusal). IfErr q (OpenFails mid new k i of)) e opens2.refused))
      where
        go : (w : Refusal) → res2 ≡ Err w → OpenFails mid new k i of w
            → Fails old new (KnownTrue k) (both_rows d g i of) w
        go refusal.Stale e fails =
            ByRow refl tt (opens2.no_fault (ap met_fault e) ∙ one.no_fault refl) (λ t all W match.
            let no : is_current old.now i of ≡ false =
            subst (λ (X : Image). AreTrue X k.agreement → is_current X i of ≡ false) one.stays.cells.now
            (fails (told-on old mid one.stays t)) all in
            rw (stale-none W old.now d g match (one.current t all), stale-some W old.now i of match no) refl)
        go refusal.ReadFault e fails = ByRead refl
            (Rose-within old.faults mid.faults new.faults new.faults one.stays.disk.faults fails (le_refl new.faults))
        go _ e fails = absurd fails

    module _ (b : Opened) (is2 : res2 ≡ Ok b) where
      two : Opens mid new k i of next (Ok b)
      two = subst (λ (q : Result Opened Refusal). Opens mid new k i of next q) is2 opens2

      quiet : new.faults ≡ old.faults
      quiet = two.no_fault refl ∙ one.no_fault refl

      file-current : IsTrue old.tells → KnownTrue k old.now → is_current old.now i of ≡ true
      file-current t = subst (λ (X : Image). AreTrue X k.agreement → is_current X i of ≡ true) one.stays.cells.now
          (two.current (told-on old mid one.stays t))

      directory-kind : IsTrue old.tells → KnownTrue k old.now → (W : World) → FilesMatch W.files old.now
          → is_folder_at W.files d ≡ is_folder a.kind
      directory-kind t all W match =
          folder-at W.files old.now d a.found a.kind match (current-agreed old.now d g (one.current t all))
          (record-of old mid k.at d a.found one.stays one.known.known t) one.known.kind

      file-kind : IsTrue old.tells → KnownTrue k old.now → (W : World) → FilesMatch W.files old.now
          → is_folder_at W.files i ≡ is_folder b.kind
      file-kind t all W match =
          folder-at W.files old.now i b.found b.kind match (current-agreed old.now i of (file-current t all))
          (record-of old new k.at i b.found after two.known.known t) two.known.kind

      pub both-are : (result : Result _ Refusal) → result ≡ both_as a.kind b.kind a.found b.found
          → OpensBoth old new k d g i of result
      both-are result e =
          subst (λ (r : Result _ Refusal). OpensBoth old new k d g i of r) (sym e) (go a.kind b.kind refl refl)
        where
          go : (p q : FileKind) → a.kind ≡ p → b.kind ≡ q → OpensBoth old new k d g i of (both_as p q a.found b.found)
          go File q ep eq = both-refused old new k d g i of refusal.NotDirectory after
              (ByRow refl tt quiet (λ t all W match.
              let f : is_folder_at W.files d ≡ false = directory-kind t all W match ∙ ap is_folder ep in
              rw (
                stale-none W old.now d g match (one.current t all),
                stale-none W old.now i of match (file-current t all),
                f,
              ) refl))
          go Directory Directory ep eq =
              both-refused old new k d g i of refusal.IsDirectory after (ByRow refl tt quiet (λ t all W match.
              let f : is_folder_at W.files d ≡ true = directory-kind t all W match ∙ ap is_folder ep in
              let h : is_folder_at W.files i ≡ true = file-kind t all W match ∙ ap is_folder eq in
              rw (
                stale-none W old.now d g match (one.current t all),
                stale-none W old.now i of match (file-current t all),
                f,
                h,
              ) refl))
          go Directory File ep eq = record {
            stays = after;
            no_fault = quiet;
            known = record {
              directory = record {
                known = KnowsInode-on mid new k.at d a.found two.stays one.known.known;
                kind = one.known.kind ∙ ap Some ep;
                generation =
                    refl;
              };
              file = (two.known.known, two.known.kind ∙ ap Some eq);
              generation = one.known.generation;
              of_is = two.known.generation;
            };
            there = λ t all.
                (current-agreed old.now d g (one.current t all), current-agreed old.now i of (file-current t all));
            passes = λ t all W match.
                let f : is_folder_at W.files d ≡ true = directory-kind t all W match ∙ ap is_folder ep in
                let h : is_folder_at W.files i ≡ false = file-kind t all W match ∙ ap is_folder eq in
                rw (
                  stale-none W old.now d g match (one.current t all),
                  stale-none W old.now i of match (file-current t all),
                  f,
                  h,
                ) refl;
            refused = tt;
          }

-- The place of a link in a list

place-next : (test : BackLink → Bool) (links : List BackLink) (b n : ℕ) → n < length links
    → ((m : ℕ) → m < n → test (get_or links m no_link) ≡ false)
    → test (get_or links n no_link) ≡ true → place_for_link test links b ≡ Some (b + n)
place-next test [] b n low before here = absurd (omega (arith, low))
place-next test (l ∷ links) b zero low before here = rw here (ap Some (let z : b ≡ b + 0 = omega arith in z))
place-next test (l ∷ links) b (suc n) low before here = rw (before 0 (omega arith))
    (place-next test links (suc b) n (omega (arith, low)) (λ m lt. before (suc m) (omega (arith, lt))) here ∙ ap Some
    (let z : suc b + n ≡ b + suc n = omega arith in z))

place-none : (test : BackLink → Bool) (links : List BackLink) (b : ℕ)
    → ((m : ℕ) → m < length links → test (get_or links m no_link) ≡ false)
    → place_for_link test links b ≡ None
place-none test [] b none = refl
place-none test (l ∷ links) b none =
    rw (none 0 (omega arith)) (place-none test links (suc b) (λ m lt. none (suc m) (omega (arith, lt))))

-- each of the first so many back links is a pair with an agreed directory
pub record Lives (old now : DiskState) (known : List (Option Bool)) (i : ℕ) (r : Record) (last : LastRead)
    (place : ℕ) : Type 0 where
  pub all : IsTrue old.tells → AreTrue old.now known
      → (m : ℕ) → m < place → is_agreed_link (files_in old.now) i (get_or r.links m no_link) ≡ true
  pub stays : StaysButFaults old now
  pub no_fault : now.faults ≡ old.faults
  pub kept : IsLast now last

module _ (old now new : DiskState) (known : List (Option Bool)) (i : ℕ) (r : Record) (last next : LastRead) (place : ℕ)
    (res : Result Bool Failed)
    (p : Lives old now known i r last place)
    (reads : TellsAgreed now new known
    (λ X. is_agreed_link (files_in X) i (get_or r.links place no_link)) next res) where
  reads-as : (b : Bool) → res ≡ Ok b
      → TellsAgreed now new known (λ X. is_agreed_link (files_in X) i (get_or r.links place no_link)) next (Ok b)
  reads-as b e = subst (λ (w : Result Bool Failed). TellsAgreed now new known
      (λ X. is_agreed_link (files_in X) i (get_or r.links place no_link)) next w) e
      reads

  here-is : (b : Bool) → res ≡ Ok b → IsTrue old.tells → AreTrue old.now known
      → is_agreed_link (files_in old.now) i (get_or r.links place no_link) ≡ b
  here-is b e t a =
      sym (subst (λ (X : Image). b ≡ is_agreed_link (files_in X) i (get_or r.links place no_link)) p.stays.cells.now
      ((reads-as b e).found (told-on old now p.stays t)
      (subst (λ (X : Image). AreTrue X known) (sym p.stays.cells.now) a)))

  pub lives-goes : res ≡ Ok true → Lives old new known i r next (place + 1)
  lives-goes e = record {
    stays = StaysButFaults-trans old now new p.stays reads.stays;
    no_fault = (reads-as true e).no_fault ∙ p.no_fault;
    kept = (reads-as true e).kept;
    all = λ t a m low. elim (cases_lt m place) [
      | inl before ↦ p.all t a m before
      | inr at ↦ let same : m ≡ place = omega (arith, at, low) in
          ap (λ (n : ℕ). is_agreed_link (files_in old.now) i (get_or r.links n no_link)) same ∙
          here-is true e t a
    ];
  }

  pub lives-ends : res ≡ Ok false → place < 4 → (IsTrue old.tells → length r.links ≡ 4)
      → TellsDeadPlace old new known i r next (Ok (Some place))
  lives-ends e low four = record {
    stays = StaysButFaults-trans old now new p.stays reads.stays;
    no_fault = (reads-as false e).no_fault ∙ p.no_fault;
    range = low;
    found = λ t a. sym (place-next (λ link. not (is_agreed_link (files_in old.now) i link)) r.links 0 place
        (let f = four t in omega (arith, low, f))
        (λ m lt. ap not (p.all t a m lt)) (ap not (here-is false e t a))
        ∙ ap Some (let z : 0 + place ≡ place = omega arith in z));
    kept = (reads-as false e).kept;
    cause = tt;
  }

pub lives-all : (old now : DiskState) (known : List (Option Bool)) (i : ℕ) (r : Record) (last : LastRead) (place : ℕ)
    → Lives old now known i r last place
    → 4 ≤ place
    → (IsTrue old.tells → length r.links ≡ 4) → TellsDeadPlace old now known i r last (Ok None)
lives-all old now known i r last place p all four = record {
  stays = p.stays;
  no_fault = p.no_fault;
  range = tt;
  found = λ t a. sym (place-none (λ link. not (is_agreed_link (files_in old.now) i link)) r.links 0
      (λ m lt. ap not (p.all t a m (let f = four t in omega (arith, lt, all, f)))));
  kept = p.kept;
  cause = tt;
}

-- The place that the machine has

links-are : (F : Files) (X : Image) (i : ℕ) (r : Record) → FilesMatch F X
    → agreed (files_in X) i ≡ true → inode X i ≡ r → links_of F i ≡ r.links
links-are F X i r match a er = let m = matched-agreed F X i match (agreed-live X i a) a in
    ap links_in_file m.is ∙ m.links ∙ ap (λ (q : Record). q.links) er

pub place-second : (F : Files) (i : ℕ) → i ≡ 2 → link_place F i ≡ None
unfolding link_place
place-second F i e = rw (eq-eqb i 2 e) refl

place-as : (F : Files) (X : Image) (i : ℕ) (r : Record) → i ≢ 2 → FilesMatch F X
    → agreed (files_in X) i ≡ true → inode X i ≡ r
    → link_place F i ≡ first_of (place_for_link is_empty_link r.links 0 ∷ dead_place X i r.links ∷ [])
unfolding link_place
place-as F X i r ne match a er =
    let l = links-are F X i r match a er in
    let same : ◌≡◌ {A = BackLink → Bool} (λ link. is_pair F i link) (λ link. is_agreed_link (files_in X) i link) =
    λ j link. machine-pair F X i link match a
    j in
    rw (ne_eqb i 2 ne)
    (λ j. first_of (place_for_link is_empty_link (l j) 0 ∷ place_for_link (λ link. not (same j link)) (l j) 0 ∷ []))

module _ (old : DiskState) (at : SuperBlock) (known : List (Option Bool)) (i : ℕ) (r : Record) (last : LastRead)
    (is : KnowsInode old at i r) where
  pub link-second : i ≡ 2 → FindsLinkPlace old old known i last (Err refusal.TooManyLinks)
  link-second e = record {
    stays = StaysButFaults-refl old;
    no_fault = tt;
    range = tt;
    found = tt;
    kept = tt;
    refused = ByRow refl tt refl
        (λ t given W match. let n = place-second W.files i e in rw n refl);
  }

  pub link-empty : (b : ℕ) → i ≢ 2 → place_for_link is_empty_link r.links 0 ≡ Some b → b < 4 → IsLast old last
      → FindsLinkPlace old old known i last (Ok b)
  link-empty b ne e low kept = record {
    stays = StaysButFaults-refl old;
    no_fault = refl;
    range = low;
    found = λ t given F match. place-as F old.now i r ne match given.1 (is.same t) ∙ rw e refl;
    kept = kept;
    refused = tt;
  }

  module _ (mid : DiskState) (next : LastRead) (ne : i ≢ 2) (none : place_for_link is_empty_link r.links 0 ≡ None) where
    pub link-dead : (o : Option ℕ) (result : Result ℕ Refusal) → TellsDeadPlace old mid known i r next (Ok o)
        → result ≡ place_or_many o
        → FindsLinkPlace old mid known i next result
    link-dead o result tells e =
        subst (λ (q : Result ℕ Refusal). FindsLinkPlace old mid known i next q) (sym e) (go o tells)
      where
        place-is : (q : Option ℕ) → TellsDeadPlace old mid known i r next (Ok q) → IsTrue old.tells
            → IsKnown known i old.now → (F : Files)
            → FilesMatch F old.now → link_place F i ≡ q
        place-is q tells t given F match = place-as F old.now i r ne match given.1 (is.same t)
            ∙ rw none (go2 q (sym (tells.found t given.0)))
          where
            go2 : (q : Option ℕ) → dead_place old.now i r.links ≡ q → first_of (dead_place old.now i r.links ∷ []) ≡ q
            go2 None e = rw e refl
            go2 (Some b) e = rw e refl

        go : (q : Option ℕ) → TellsDeadPlace old mid known i r next (Ok q)
            → FindsLinkPlace old mid known i next (place_or_many q)
        go None tells = record {
          stays = tells.stays;
          no_fault = tt;
          range = tt;
          found = tt;
          kept = tt;
          refused = ByRow refl tt tells.no_fault
              (λ t given W match. let n = place-is None tells t given W.files match in rw n refl);
        }
        go (Some b) tells = record {
          stays = tells.stays;
          no_fault = tells.no_fault;
          range = tells.range;
          found = λ t given F match. place-is (Some b) tells t given F match;
          kept =
              tells.kept;
          refused = tt;
        }

-- there are four places for links
pub four-of : (old : DiskState) (at : SuperBlock) (i : ℕ) (r : Record) → KnowsInode old at i r → IsTrue old.tells
    → length r.links ≡ 4
four-of old at i r is t = subst (λ (q : Record). length q.links ≡ 4) (is.same t) (four-links old.now i)
