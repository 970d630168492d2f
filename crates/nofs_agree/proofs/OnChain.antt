-- The way up from a directory, and the back links of an inode, one after another.
use Rattle.std.proofs.Common.{◌≡◌, ℕ, ◌<◌, ◌+◌, ◌≤◌, inl, inr, Bool, true, false, ◌&&◌, IsTrue, List, get_or}
use Rattle.std.proofs.Common.{Option, Some, None, Result, Ok, Err, IfOk, refl, sym, ap, ◌∙◌, subst, arith}
use Rattle.std.specs.List.{list_any}
use Rattle.std.proofs.lemmas.Bool.{cases_lt}
use Rattle.std.proofs.lemmas.List.{get_or_default}
use Rattle.std.proofs.lemmas.List.Folds.{list_any_at, list_any_none}
use Rattle.nofs_disk.specs.Disk.{DiskState, StaysButFaults}
use Rattle.nofs_disk.specs.Chains.{StaysButFaults-refl, StaysButFaults-trans}
use Rattle.nofs_disk.specs.declared.Failed.{Failed}
use Rattle.nofs_inode.specs.declared.inode.BackLink.{BackLink}
use Rattle.nofs_inode.specs.declared.inode.Record.{Record}
use Rattle.nofs_super.specs.declared.superblock.SuperBlock.{SuperBlock}
use Rattle.nofs_inode.specs.InodeRecords.{no_link}
use Rattle.nofs_model.specs.Files.{agreed, files_in, has_agreed_link, is_pair, is_root, is_special}
use Rattle.nofs_model.specs.Geometry.{Image, inode, super_at}
use Rattle.nofs_super.specs.Geometry.{IsGeometry}
use Rattle.nofs_model.proofs.OnFiles.Parents.{any-links, linked-is, root-is, special-is}
use Rattle.nofs_agree.specs.Chain.{AreTrue, IsDirectoryAbove, IsPartner, ReadsPair, ReadsParent, TellsAgreed}
use Rattle.nofs_agree.specs.Chain.{first_link, is_agreed_link}
use Rattle.nofs_agree.proofs.OnPair.{first-decides, four-of}
use Rattle.nofs_agree.specs.Reads.{IsAt, IsLast, KnowsDirectory, KnowsInode}
use Rattle.nofs_agree.specs.declared.chain.Directory.{Directory}
use Rattle.nofs_agree.specs.declared.reads.LastRead.{LastRead}

-- what is known of a disk stays known while it stays
pub told-on : (old new : DiskState) → StaysButFaults old new → IsTrue old.tells → IsTrue new.tells
told-on old new s t = subst (λ (b : Bool). IsTrue b) (sym s.disk.tells) t

pub IsAt-on : (old new : DiskState) (at : SuperBlock) → StaysButFaults old new → IsAt old at → IsAt new at
IsAt-on old new at s is = record {
  geometry = subst (λ (n : ℕ). IsGeometry n at.blocks at.inodes) (sym s.disk.blocks) is.geometry;
  same = λ t. ap super_at s.cells.now ∙ is.same (subst (λ (b : Bool). IsTrue b) s.disk.tells t);
}

pub KnowsInode-on : (old new : DiskState) (at : SuperBlock) (i : ℕ) (r : Record) → StaysButFaults old new
    → KnowsInode old at i r → KnowsInode new at i r
KnowsInode-on old new at i r s k = record {
  numbers = IsAt-on old new at s k.numbers;
  same = λ t. ap (λ (X : Image). inode X i) s.cells.now ∙ k.same (subst (λ (b : Bool). IsTrue b) s.disk.tells t);
  spelled = k.spelled;
  range = k.range;
}

-- the record of a disk that stayed is that of the image at first
pub record-of : (old now : DiskState) (at : SuperBlock) (i : ℕ) (r : Record) → StaysButFaults old now
    → KnowsInode now at i r → IsTrue old.tells
    → inode old.now i ≡ r
record-of old now at i r s k t = ap (λ (X : Image). inode X i) (sym s.cells.now) ∙ k.same (told-on old now s t)

-- from the first directory the way leads to this one
pub record Climbed (old now : DiskState) (at : SuperBlock) (first here : Directory) (last : LastRead) : Type 0 where
  pub stays : StaysButFaults old now
  pub no_fault : now.faults ≡ old.faults
  pub known : KnowsDirectory now at here.inode here.record.generation here.record
  pub kept : IsLast now last
  pub same : IsTrue old.tells → agreed (files_in old.now) first.inode ≡ agreed (files_in old.now) here.inode

pub climb-begins : (old : DiskState) (at : SuperBlock) (first : Directory) (last : LastRead)
    → KnowsDirectory old at first.inode first.record.generation first.record → IsLast old last
    → Climbed old old at first first last
climb-begins old at first last known kept =
    record { stays = StaysButFaults-refl old; no_fault = refl; known = known; kept = kept; same = λ t. refl }

-- the first back link of a directory leads to the one above it, where it is a pair
decided : (old : DiskState) (at : SuperBlock) (it : Directory) (link : BackLink)
    → KnowsDirectory old at it.inode it.record.generation it.record
    → link ≡ first_link it.record.links → IsTrue old.tells
    → has_agreed_link (files_in old.now) it.inode
    ≡ (is_pair (files_in old.now) it.inode link && agreed (files_in old.now) link.directory)
decided old at it link known e t =
    subst (λ (l : BackLink). has_agreed_link (files_in old.now) it.inode
    ≡ (is_pair (files_in old.now) it.inode l && agreed (files_in old.now) l.directory))
    (sym e)
    (first-decides old.now it.inode it.record (known.known.same t) known.kind known.known.spelled)

pub parent-none : (old new : DiskState) (at : SuperBlock) (it : Directory) (link : BackLink) (last : LastRead)
    (res : Result (Option Record) Failed)
    → KnowsDirectory old at it.inode it.record.generation it.record → link ≡ first_link it.record.links
    → ReadsPair old new at it.inode it.record link last res → res ≡ Ok None → ReadsParent old new at it last (Ok None)
parent-none old new at it link last res known e reads is =
    let p : ReadsPair old new at it.inode it.record link last (Ok None) =
    subst (λ (q : Result (Option Record) Failed). ReadsPair old new at it.inode it.record link last q) is reads in
    record {
      stays = p.stays;
      no_fault = p.no_fault;
      parent = tt;
      none = λ t n. decided old at it link known e t
          ∙ ap (λ (b : Bool). b && agreed (files_in old.now) link.directory) (sym (p.pair t));
      kept = p.kept;
      cause = tt;
    }

pub parent-some : (old new : DiskState) (at : SuperBlock) (it : Directory) (link : BackLink) (last : LastRead)
    (res : Result (Option Record) Failed)
    (r : Record)
    → KnowsDirectory old at it.inode it.record.generation it.record → link ≡ first_link it.record.links
    → ReadsPair old new at it.inode it.record link last res → res ≡ Ok (Some r)
    → ReadsParent old new at it last (Ok (Some (record { inode = link.directory; «record» = r })))
parent-some old new at it link last res r known e reads is =
    let p : ReadsPair old new at it.inode it.record link last (Ok (Some r)) =
    subst (λ (q : Result (Option Record) Failed). ReadsPair old new at it.inode it.record link last q) is reads in
    let partner : IsPartner new at it.record link r = p.directory in
    let older = partner.older known.kind in
    let same = partner.directory.generation in
    record {
      stays = p.stays;
      no_fault = p.no_fault;
      parent = record {
        known = record { known = partner.directory.known; kind = partner.directory.kind; generation = refl };
        older = omega (arith, older, same);
        same = λ t. decided old at it link known e t
            ∙ ap (λ (b : Bool). b && agreed (files_in old.now) link.directory) (sym (p.pair t));
      };
      none = λ t n. cc;
      kept = p.kept;
      cause = tt;
    }

-- a directory that is neither the root nor special is agreed as the one above it is
pub climb-goes : (old now new : DiskState) (at : SuperBlock) (first here parent : Directory) (last next : LastRead)
    (res : Result (Option Directory) Failed)
    → Climbed old now at first here last
    → ((X : Image) → inode X here.inode ≡ here.record → false ≡ is_root (files_in X) here.inode)
    → false ≡ is_special here.inode
    → ReadsParent now new at here next res → res ≡ Ok (Some parent) → Climbed old new at first parent next
climb-goes old now new at first here parent last next res c root special reads is =
    let p : ReadsParent now new at here next (Ok (Some parent)) =
    subst (λ (q : Result (Option Directory) Failed). ReadsParent now new at here next q) is reads in
    let above : IsDirectoryAbove now new at here parent = p.parent in
    record {
      stays = StaysButFaults-trans old now new c.stays p.stays;
      no_fault = p.no_fault ∙ c.no_fault;
      known = above.known;
      kept = p.kept;
      same = λ t.
          let up : has_agreed_link (files_in old.now) here.inode ≡ agreed (files_in old.now) parent.inode =
          subst (λ (X : Image). has_agreed_link (files_in X) here.inode ≡ agreed (files_in X) parent.inode)
          c.stays.cells.now
          (above.same (told-on old now c.stays t)) in
          let r = record-of old now at here.inode here.record c.stays c.known.known t in
          c.same t ∙ linked-is (files_in old.now) here.inode (sym (root old.now r)) (sym special) ∙ up;
    }

-- at the root, or at a special inode that is no root, the way ends
pub climb-root : (old now : DiskState) (at : SuperBlock) (known : List (Option Bool)) (first here : Directory)
    (last : LastRead)
    → Climbed old now at first here last
    → ((X : Image) → inode X here.inode ≡ here.record → true ≡ is_root (files_in X) here.inode)
    → TellsAgreed old now known (λ X. agreed (files_in X) first.inode) last (Ok true)
climb-root old now at known first here last c root = record {
  stays = c.stays;
  no_fault = c.no_fault;
  found = λ t a. sym (c.same t ∙ root-is (files_in old.now) here.inode
      (sym (root old.now (record-of old now at here.inode here.record c.stays c.known.known t))));
  kept = c.kept;
  cause = tt;
}

pub climb-special : (old now : DiskState) (at : SuperBlock) (known : List (Option Bool)) (first here : Directory)
    (last : LastRead)
    → Climbed old now at first here last
    → ((X : Image) → inode X here.inode ≡ here.record → false ≡ is_root (files_in X) here.inode)
    → true ≡ is_special here.inode
    → TellsAgreed old now known (λ X. agreed (files_in X) first.inode) last (Ok false)
climb-special old now at known first here last c root special = record {
  stays = c.stays;
  no_fault = c.no_fault;
  found = λ t a. sym (c.same t ∙ special-is (files_in old.now) here.inode
      (sym (root old.now (record-of old now at here.inode here.record c.stays c.known.known t))) (sym special));
  kept = c.kept;
  cause = tt;
}

-- so it does where no directory is above
pub climb-none : (old now new : DiskState) (at : SuperBlock) (known : List (Option Bool)) (first here : Directory)
    (last next : LastRead)
    (res : Result (Option Directory) Failed) → Climbed old now at first here last
    → ((X : Image) → inode X here.inode ≡ here.record → false ≡ is_root (files_in X) here.inode)
    → false ≡ is_special here.inode
    → ReadsParent now new at here next res → res ≡ Ok None
    → TellsAgreed old new known (λ X. agreed (files_in X) first.inode) next (Ok false)
climb-none old now new at known first here last next res c root special reads is =
    let p : ReadsParent now new at here next (Ok None) =
    subst (λ (q : Result (Option Directory) Failed). ReadsParent now new at here next q) is reads in
    record {
      stays = StaysButFaults-trans old now new c.stays p.stays;
      no_fault = p.no_fault ∙ c.no_fault;
      found = λ t a.
          let up : has_agreed_link (files_in old.now) here.inode ≡ false =
          subst (λ (X : Image). has_agreed_link (files_in X) here.inode ≡ false) c.stays.cells.now
          (p.none (told-on old now c.stays t) refl) in
          let r = record-of old now at here.inode here.record c.stays c.known.known t in
          sym (c.same t ∙ linked-is (files_in old.now) here.inode (sym (root old.now r)) (sym special) ∙ up);
      kept = p.kept;
      cause = tt;
    }

-- an answer that is known
pub tells-is : (now new : DiskState) (known : List (Option Bool)) (says : Image → Bool) (last : LastRead)
    (res : Result Bool Failed) (answer : Bool) → TellsAgreed now new known says last res → res ≡ Ok answer
    → TellsAgreed now new known says last (Ok answer)
tells-is now new known says last res answer tells is = subst (TellsAgreed now new known says last) is tells

-- none of the first so many back links is a pair with an agreed directory
pub record Passed (old now : DiskState) (known : List (Option Bool)) (i : ℕ) (r : Record) (last : LastRead)
    (place : ℕ) : Type 0 where
  pub none : IsTrue old.tells → AreTrue old.now known
      → (k : ℕ) → k < place → is_agreed_link (files_in old.now) i (get_or r.links k no_link) ≡ false
  pub stays : StaysButFaults old now
  pub no_fault : now.faults ≡ old.faults
  pub kept : IsLast now last

pub passed-goes : (old now new : DiskState) (known : List (Option Bool)) (i : ℕ) (r : Record) (last next : LastRead)
    (place : ℕ) (res : Result Bool Failed)
    → Passed old now known i r last place
    → TellsAgreed now new known (λ X. is_agreed_link (files_in X) i (get_or r.links place no_link)) next res
    → res ≡ Ok false
    → Passed old new known i r next (place + 1)
passed-goes old now new known i r last next place res p reads is =
    let q = tells-is now new known (λ X. is_agreed_link (files_in X) i (get_or r.links place no_link)) next res false
    reads is in
    record {
      stays = StaysButFaults-trans old now new p.stays q.stays;
      no_fault = q.no_fault ∙ p.no_fault;
      kept = q.kept;
      none = λ t a k low. elim (cases_lt k place) [
        | inl before ↦ p.none t a k before
        | inr at ↦
            let here : k ≡ place = omega arith in
            let found : false ≡ is_agreed_link (files_in old.now) i (get_or r.links place no_link) =
            subst (λ (X : Image). false ≡ is_agreed_link (files_in X) i (get_or r.links place no_link))
            p.stays.cells.now
            (q.found (told-on old now p.stays t) (subst (λ (X : Image). AreTrue X known) (sym p.stays.cells.now) a)) in
            ap (λ (n : ℕ). is_agreed_link (files_in old.now) i (get_or r.links n no_link)) here ∙ sym found
      ];
    }

-- the next one is
pub passed-found : (old now new : DiskState) (at : SuperBlock) (known : List (Option Bool)) (i : ℕ) (r : Record)
    (last next : LastRead) (place : ℕ)
    (res : Result Bool Failed) → KnowsInode old at i r
    → Passed old now known i r last place → place < 4
    → TellsAgreed now new known (λ X. is_agreed_link (files_in X) i (get_or r.links place no_link)) next res
    → res ≡ Ok true
    → TellsAgreed old new known (λ X. list_any (is_agreed_link (files_in X) i) r.links) next (Ok true)
passed-found old now new at known i r last next place res is p low reads e =
    let q = tells-is now new known (λ X. is_agreed_link (files_in X) i (get_or r.links place no_link)) next res true
    reads e in
    record {
      stays = StaysButFaults-trans old now new p.stays q.stays;
      no_fault = q.no_fault ∙ p.no_fault;
      found = λ t a.
          let four = four-of old at i r is t in
          let here : true ≡ is_agreed_link (files_in old.now) i (get_or r.links place no_link) =
          subst (λ (X : Image). true ≡ is_agreed_link (files_in X) i (get_or r.links place no_link)) p.stays.cells.now
          (q.found (told-on old now p.stays t) (subst (λ (X : Image). AreTrue X known) (sym p.stays.cells.now) a)) in
          sym (list_any_at (is_agreed_link (files_in old.now) i) r.links place no_link
          (omega (arith, low, four)) (sym here));
      kept = q.kept;
      cause = tt;
    }

pub passed-ends : (old now : DiskState) (at : SuperBlock) (known : List (Option Bool)) (i : ℕ) (r : Record)
    (last : LastRead) (place : ℕ)
    → KnowsInode old at i r → Passed old now known i r last place → 4 ≤ place
    → TellsAgreed old now known (λ X. list_any (is_agreed_link (files_in X) i) r.links) last (Ok false)
passed-ends old now at known i r last place is p whole = record {
  stays = p.stays;
  no_fault = p.no_fault;
  found = λ t a. let four = four-of old at i r is t in
      sym (list_any_none (is_agreed_link (files_in old.now) i) r.links (λ k d low.
      ap (is_agreed_link (files_in old.now) i) (get_or_default r.links k d no_link low)
      ∙ p.none t a k (omega (arith, low, four, whole))));
  kept = p.kept;
  cause = tt;
}

-- the whole answer for an inode, from its record
pub whole-root : (old now : DiskState) (at : SuperBlock) (i : ℕ) (r : Record) → StaysButFaults old now
    → KnowsInode now at i r
    → ((X : Image) → inode X i ≡ r → true ≡ is_root (files_in X) i) → IsTrue old.tells
    → true ≡ agreed (files_in old.now) i
whole-root old now at i r s k root t =
    sym (root-is (files_in old.now) i (sym (root old.now (record-of old now at i r s k t))))

pub whole-special : (old now : DiskState) (at : SuperBlock) (i : ℕ) (r : Record) → StaysButFaults old now
    → KnowsInode now at i r
    → ((X : Image) → inode X i ≡ r → false ≡ is_root (files_in X) i) → true ≡ is_special i → IsTrue old.tells
    → false ≡ agreed (files_in old.now) i
whole-special old now at i r s k root special t =
    sym (special-is (files_in old.now) i (sym (root old.now (record-of old now at i r s k t))) (sym special))

pub whole-links : (old now new : DiskState) (at : SuperBlock) (known : List (Option Bool)) (i : ℕ) (r : Record)
    (last : LastRead) (res : Result Bool Failed)
    → StaysButFaults old now → KnowsInode now at i r
    → ((X : Image) → inode X i ≡ r → false ≡ is_root (files_in X) i) → false ≡ is_special i
    → TellsAgreed now new known (λ X. list_any (is_agreed_link (files_in X) i) r.links) last res
    → IfOk res (λ answer. IsTrue old.tells → AreTrue old.now known → answer ≡ agreed (files_in old.now) i)
whole-links old now new at known i r last (Err e) s k root special reads = tt
whole-links old now new at known i r last (Ok answer) s k root special reads = λ t a.
    let same = record-of old now at i r s k t in
    let found : answer ≡ list_any (is_agreed_link (files_in old.now) i) r.links =
    subst (λ (X : Image). answer ≡ list_any (is_agreed_link (files_in X) i) r.links) s.cells.now
    (reads.found (told-on old now s t) (subst (λ (X : Image). AreTrue X known) (sym s.cells.now) a)) in
    found ∙ any-links old.now i r same ∙ sym (linked-is (files_in old.now) i (sym (root old.now same)) (sym special))
