-- What is known of inodes, and how more becomes known on the way up from one.
use Rattle.std.proofs.Common.{◌≡◌, ℕ, ◌-◌, ◌<◌, ◌≤◌, ◌≢◌, inl, inr, Bool, true, false, IsTrue, List, length, get_or}
use Rattle.std.proofs.Common.{Option, Some, None, IfSome, Result, Ok}
use Rattle.std.proofs.Common.{Err, IsErr, OnErr, OnOk, slice_set, replicate, refl, sym, ap, ◌∙◌, subst, arith, leb}
use Rattle.std.proofs.lemmas.Bool.{cases_lt}
use Rattle.std.proofs.lemmas.Bool.Decides.{nat_tests}
use Rattle.std.proofs.lemmas.List.{get_or_past, get_or-replicate, get_or-set_other, get_or-set_same, length-replicate}
use Rattle.std.proofs.lemmas.List.{length-set}
use Rattle.nofs_disk.specs.Disk.{DiskState, StaysButFaults}
use Rattle.nofs_disk.specs.Chains.{Rose-within, StaysButFaults-trans}
use Rattle.nofs_disk.specs.declared.Failed.{Failed}
use Rattle.nofs_inode.specs.declared.inode.Record.{Record}
use Rattle.nofs_super.specs.declared.superblock.SuperBlock.{SuperBlock}
use Rattle.nofs_model.specs.Files.{agreed, files_in, is_root, is_special}
use Rattle.nofs_model.specs.Geometry.{Image, inode}
use Rattle.nofs_agree.specs.Chain.{AreTrue, LearnsAgreement, LearnsAbove, LearnsOne, LearnsChain, ReadsParent}
use Rattle.nofs_agree.specs.Chain.{known_agreement}
use Rattle.nofs_agree.specs.Reads.{IsLast, KnowsInode}
use Rattle.nofs_agree.specs.declared.chain.Directory.{Directory}
use Rattle.nofs_agree.specs.declared.reads.LastRead.{LastRead}
use Rattle.nofs_agree.proofs.OnChain.{Climbed, KnowsInode-on, climb-goes, told-on}

leb-le : (a b : ℕ) → a ≤ b → leb a b ≡ true
leb-le a b h = grind (arith, nat_tests)

leb-not : (a b : ℕ) → b < a → leb a b ≡ false
leb-not a b h = grind (arith, nat_tests)

-- what was set of one inode is told of it, and nothing else of the others
pub told-here : (known : List (Option Bool)) (i : ℕ) (v : Option Bool) → 1 ≤ i → i ≤ length known
    → known_agreement (slice_set known (i - 1) v) i ≡ v
told-here known i v low high = rw (leb-le 1 i low) (get_or-set_same known (i - 1) v None (omega (arith, low, high)))

pub told-other : (known : List (Option Bool)) (i j : ℕ) (v : Option Bool)
    → 1 ≤ i → j ≢ i → known_agreement (slice_set known (i - 1) v) j ≡ known_agreement known j
told-other known i j v low other = elim (cases_lt j 1) [
  | inl none ↦ rw (leb-not 1 j none) refl
  | inr some ↦
      rw (leb-le 1 j some) (get_or-set_other known (i - 1) (j - 1) v None (λ e. other (omega (arith, e, low, some))))
]

abbrev pub empty : ℕ → List (Option Bool)
empty n = replicate n None

none-of : (n m : ℕ) → get_or (empty n) m None ≡ None
none-of n m = elim (cases_lt m n) [
  | inl low ↦ get_or-replicate n m None None low
  | inr past ↦ let len : length (empty n) ≡ n = length-replicate n None in
      get_or_past (empty n) m None (omega (arith, past, len))
]

-- at first nothing is
pub told-nothing : (n i : ℕ) → known_agreement (empty n) i ≡ None
told-nothing n i = elim (cases_lt i 1) [
  | inl none ↦ rw (leb-not 1 i none) refl
  | inr some ↦ rw (leb-le 1 i some) (none-of n (i - 1))
]

pub told-set : (known : List (Option Bool)) (i : ℕ) (v : Option Bool) (a : Bool)
    → 1 ≤ i → known_agreement (slice_set known (i - 1) v) i ≡ Some a → v ≡ Some a
told-set known i v a low t = elim (cases_lt (length known) i) [
  | inl past ↦
      let len = length-set known (i - 1) v in
      let none : known_agreement (slice_set known (i - 1) v) i ≡ None =
      rw (leb-le 1 i low) (get_or_past (slice_set known (i - 1) v) (i - 1) None (omega (arith, past, len, low))) in
      absurd (cc (none, t))
  | inr high ↦ sym (told-here known i v low high) ∙ t
]

-- what is known of an inode is true, told either way
pub if-told : (o : Option Bool) (P : Bool → Type 0) → ((a : Bool) → o ≡ Some a → P a) → IfSome o P
if-told None P h = tt
if-told (Some a) P h = h a refl

pub is-told : (X : Image) (known : List (Option Bool)) (i : ℕ) (a : Bool) → AreTrue X known
    → known_agreement known i ≡ Some a → agreed (files_in X) i ≡ a
is-told X known i a all e = subst (λ (o : Option Bool). IfSome o (λ b. agreed (files_in X) i ≡ b)) e (all i)

-- nothing is learned
pub learns-none : (d : DiskState) (known : List (Option Bool)) → LearnsAgreement d known known
learns-none d known = record { len = refl; still = λ t a. a }

-- more and still more, while the disk stays
pub learns-more : (old now : DiskState) (one two three : List (Option Bool)) → StaysButFaults old now
    → LearnsAgreement old one two → LearnsAgreement now two three
    → LearnsAgreement old one three
learns-more old now one two three s a b = record {
  len = b.len ∙ a.len;
  still = λ t true-first.
      subst (λ (X : Image). AreTrue X three) s.cells.now (b.still (told-on old now s t)
      (subst (λ (X : Image). AreTrue X two) (sym s.cells.now) (a.still t true-first)));
}

-- of an inode what is true of it
pub learns-one : (d : DiskState) (one two three : List (Option Bool)) (i : ℕ) (b : Bool) → LearnsAgreement d one two
    → LearnsOne two three i b
    → (IsTrue d.tells → AreTrue d.now one → b ≡ agreed (files_in d.now) i) → LearnsAgreement d one three
learns-one d one two three i b a more is = record {
  len = more.len ∙ a.len;
  still = λ t first j. if-told (known_agreement three j) (λ c. agreed (files_in d.now) j ≡ c)
      (λ c e. elim (more.each j c e) [
        | inl here ↦ ap (λ (n : ℕ). agreed (files_in d.now) n) here.0 ∙ sym (is t first) ∙ sym here.1
        | inr before ↦ is-told d.now two j c (a.still t first) before
      ]);
}

-- an answer of a check that knows more is one for the disk at first
pub agreed-at-first : (old now : DiskState) (known more : List (Option Bool)) (i : ℕ) (b : Bool)
    → StaysButFaults old now → LearnsAgreement old known more
    → (IsTrue now.tells → AreTrue now.now more → b ≡ agreed (files_in now.now) i) → IsTrue old.tells
    → AreTrue old.now known → b ≡ agreed (files_in old.now) i
agreed-at-first old now known more i b s a is t first =
    subst (λ (X : Image). b ≡ agreed (files_in X) i) s.cells.now
    (is (told-on old now s t) (subst (λ (X : Image). AreTrue X more) (sym s.cells.now) (a.still t first)))

-- On the way up from the first directory to this one all is known to be what the first one is
pub record Keeps (old now : DiskState) (at : SuperBlock) (known more : List (Option Bool)) (first here : Directory)
    (last : LastRead) : Type 0 where
  pub climbed : Climbed old now at first here last
  pub learns : LearnsAgreement old known more

-- this one, too
pub keeps-here : (old now : DiskState) (at : SuperBlock) (known more most : List (Option Bool)) (first here : Directory)
    (last : LastRead) (b : Bool)
    → (IsTrue old.tells → AreTrue old.now known → b ≡ agreed (files_in old.now) first.inode)
    → Keeps old now at known more first here last → LearnsOne more most here.inode b → LearnsAgreement old known most
keeps-here old now at known more most first here last b is k one =
    learns-one old known more most here.inode b k.learns one (λ t a. is t a ∙ k.climbed.same t)

-- and the way goes on to the directory above it, or ends
pub keeps-goes : (old now new : DiskState) (at : SuperBlock) (known more most : List (Option Bool))
    (first here parent : Directory) (last next : LastRead)
    (b : Bool) (res : Result (Option Directory) Failed)
    → (IsTrue old.tells → AreTrue old.now known → b ≡ agreed (files_in old.now) first.inode)
    → Keeps old now at known more first here last → LearnsOne more most here.inode b
    → ((X : Image) → inode X here.inode ≡ here.record → false ≡ is_root (files_in X) here.inode)
    → false ≡ is_special here.inode
    → ReadsParent now new at here next res → res ≡ Ok (Some parent) → Keeps old new at known most first parent next
keeps-goes old now new at known more most first here parent last next b res is k one root special reads e = record {
  climbed = climb-goes old now new at first here parent last next res k.climbed root special reads e;
  learns = keeps-here old now at known more most first here last b is k one;
}

pub keeps-ends : (old now : DiskState) (at : SuperBlock) (known more most : List (Option Bool)) (first here : Directory)
    (last : LastRead) (b : Bool)
    → (IsTrue old.tells → AreTrue old.now known → b ≡ agreed (files_in old.now) first.inode)
    → Keeps old now at known more first here last → LearnsOne more most here.inode b
    → LearnsChain old now known most last (Ok tt)
keeps-ends old now at known more most first here last b is k one = record {
  stays = k.climbed.stays;
  no_fault = k.climbed.no_fault;
  learns = keeps-here old now at known more most first here last b is k one;
  kept = k.climbed.kept;
  cause = tt;
}

-- or no directory is above it
pub keeps-none : (old now new : DiskState) (at : SuperBlock) (known more most : List (Option Bool))
    (first here : Directory) (last next : LastRead)
    (b : Bool) (res : Result (Option Directory) Failed)
    → (IsTrue old.tells → AreTrue old.now known → b ≡ agreed (files_in old.now) first.inode)
    → Keeps old now at known more first here last → LearnsOne more most here.inode b
    → ReadsParent now new at here next res → res ≡ Ok None → LearnsChain old new known most next (Ok tt)
keeps-none old now new at known more most first here last next b res is k one reads e =
    let q : ReadsParent now new at here next (Ok None) =
    subst (λ (w : Result (Option Directory) Failed). ReadsParent now new at here next w) e reads in
    record {
      stays = StaysButFaults-trans old now new k.climbed.stays q.stays;
      no_fault = q.no_fault ∙ k.climbed.no_fault;
      learns = keeps-here old now at known more most first here last b is k one;
      kept = q.kept;
      cause = tt;
    }

-- or it could not be read
pub keeps-fails : (old now new : DiskState) (at : SuperBlock) (known more most : List (Option Bool))
    (first here : Directory) (last next : LastRead)
    (b : Bool) (res : Result (Option Directory) Failed)
    (whole : Result (Unit {0}) Failed) (x : Failed)
    → (IsTrue old.tells → AreTrue old.now known → b ≡ agreed (files_in old.now) first.inode)
    → Keeps old now at known more first here last → LearnsOne more most here.inode b
    → ReadsParent now new at here next res → res ≡ Err x → IsErr whole → LearnsChain old new known most next whole
keeps-fails old now new at known more most first here last next b res (Ok u) x is k one reads e failed =
    absurd (cc failed)
keeps-fails old now new at known more most first here last next b res (Err y) x is k one reads e failed =
    let q : ReadsParent now new at here next (Err x) =
    subst (λ (w : Result (Option Directory) Failed). ReadsParent now new at here next w) e reads in
    record {
      stays = StaysButFaults-trans old now new k.climbed.stays q.stays;
      no_fault = tt;
      learns = keeps-here old now at known more most first here last b is k one;
      kept = tt;
      cause = Rose-within old.faults now.faults new.faults new.faults k.climbed.stays.disk.faults q.cause (omega arith);
    }

-- so far the ways up from an inode with this record are known
pub record Above (old now : DiskState) (at : SuperBlock) (known more : List (Option Bool)) (i : ℕ) (r : Record)
    (last : LastRead) : Type 0 where
  pub stays : StaysButFaults old now
  pub no_fault : now.faults ≡ old.faults
  pub is : KnowsInode now at i r
  pub kept : IsLast now last
  pub learns : LearnsAgreement old known more

pub above-goes : (old now new : DiskState) (at : SuperBlock) (known more most : List (Option Bool)) (i : ℕ) (r : Record)
    (last next : LastRead)
    (res : Result (Unit {0}) Failed)
    → Above old now at known more i r last → LearnsChain now new more most next res → res ≡ Ok tt
    → Above old new at known most i r next
above-goes old now new at known more most i r last next res a reads e =
    let q : LearnsChain now new more most next (Ok tt) =
    subst (λ (w : Result (Unit {0}) Failed). LearnsChain now new more most next w) e reads in
    record {
      stays = StaysButFaults-trans old now new a.stays q.stays;
      no_fault = q.no_fault ∙ a.no_fault;
      is = KnowsInode-on now new at i r q.stays a.is;
      kept = q.kept;
      learns = learns-more old now known more most a.stays a.learns q.learns;
    }

on-err : (r : Result (Unit {0}) Failed) (P : Type 0) → P → OnErr r P
on-err (Ok u) P p = tt
on-err (Err e) P p = p

on-ok : (r : Result (Unit {0}) Failed) (P : Type 0) → IsErr r → OnOk r P
on-ok (Ok u) P failed = absurd (cc failed)
on-ok (Err e) P failed = tt

-- one of them could not be read to its end
pub above-fails : (old now new : DiskState) (at : SuperBlock) (known more most : List (Option Bool)) (i : ℕ)
    (r : Record) (last next : LastRead)
    (res whole : Result (Unit {0}) Failed) (e : Failed)
    → Above old now at known more i r last → LearnsChain now new more most next res → res ≡ Err e → IsErr whole
    → LearnsAbove old new known most whole
above-fails old now new at known more most i r last next res whole x a reads e failed =
    let q : LearnsChain now new more most next (Err x) =
    subst (λ (w : Result (Unit {0}) Failed). LearnsChain now new more most next w) e reads in
    record {
      stays = StaysButFaults-trans old now new a.stays q.stays;
      no_fault = on-ok whole _ failed;
      learns = learns-more old now known more most a.stays a.learns q.learns;
      cause = on-err whole _
          (Rose-within old.faults now.faults new.faults new.faults a.stays.disk.faults q.cause (omega arith));
    }

-- the inode itself, once the ways up from it are known
pub chain-learned : (old now new : DiskState) (known more most : List (Option Bool)) (i : ℕ) (b : Bool)
    → StaysButFaults old now → LearnsAgreement old known more
    → (IsTrue now.tells → AreTrue now.now more → b ≡ agreed (files_in now.now) i) → LearnsOne more most i b
    → LearnsAgreement old known most
chain-learned old now new known more most i b s a is one =
    learns-one old known more most i b a one (agreed-at-first old now known more i b s a is)
