-- The count of back links, and what Stat answers.
use Rattle.std.proofs.Common.{◌≡◌, ℕ, zero, suc, ◌+◌, ◌<◌, ◌≤◌, Bool, true, false, cond, ◌&&◌, not, eqb, is_some}
use Rattle.std.proofs.Common.{IsTrue, List, [], ◌∷◌, length, take}
use Rattle.std.proofs.Common.{get_or, Option, Some, None, Result, Ok, Err, refl, sym, ap, ◌∙◌, subst, arith, le_refl}
use Rattle.std.specs.List.{count_by}
use mir.Val.{bool_byte}
use Rattle.std.proofs.lemmas.List.Sums.{sum_by-cons}
use Rattle.nofs_disk.specs.Disk.{DiskState, IsDisk, StaysButFaults}
use Rattle.nofs_disk.specs.Chains.{StaysButFaults-refl, StaysButFaults-trans, Rose-within}
use Rattle.nofs_disk.specs.declared.Failed.{Failed}
use Rattle.nofs_inode.specs.declared.inode.BackLink.{BackLink}
use Rattle.nofs_inode.specs.declared.inode.FileKind.{FileKind}
use Rattle.nofs_inode.specs.declared.inode.Record.{Record}
use Rattle.nofs_super.specs.declared.superblock.SuperBlock.{SuperBlock}
use Rattle.nofs_inode.specs.InodeRecords.{no_link}
use Rattle.nofs_model.specs.Geometry.{Image, inode}
use Rattle.nofs_model.specs.Files.{files_in, file_from, agreed, FileState, Files, is_pair}
use Rattle.nofs_history.specs.Search.{first_of}
use Rattle.nofs_history.specs.World.{World}
use Rattle.nofs_history.specs.Refusals.{rows, stale}
use Rattle.nofs_history.specs.Answers.{stat_reply, stat_file}
use Rattle.nofs_history.specs.History.{FilesMatch, SameFile}
use Rattle.nofs_history.specs.declared.machine.steps.Step.TheVariants as step
use Rattle.nofs_history.specs.declared.machine.replies.Reply.TheVariants as reply
use Rattle.nofs_history.specs.declared.machine.replies.Refusal.TheVariants as refusal
use Rattle.nofs_agree.specs.Reads.{IsLast, KnowsInode}
use Rattle.nofs_agree.specs.Chain.{AreTrue, TellsAgreed, is_agreed_link}
use Rattle.nofs_agree.specs.declared.reads.LastRead.{LastRead}
use Rattle.nofs_agree.proofs.OnChain.{told-on, record-of}
use Rattle.nofs_agree.proofs.OnPair.{four-links}
use Rattle.nofs_crashlaw.proofs.OnUntouched.Agreement.{same-of}
use Rattle.nofs_history.specs.Machine.{generation_of}
use Rattle.nofs_history.specs.Claims.{no_claims}
use Rattle.nofs_state.specs.Books.Maps.{IsSafe}
use Rattle.nofs_state.specs.Cores.Steps.{Goes}
use Rattle.nofs_state.specs.Inodes.Opened.{Opens}
use Rattle.nofs_state.specs.declared.books.maps.Books.{Books}
use Rattle.nofs_state.specs.declared.inodes.opened.Opened.{Opened}
use Rattle.nofs_state.proofs.OnCores.Readings.{stat-reads}
use Rattle.nofs_state.proofs.OnCores.Replies.{goes-read, goes-answer, open-files}
use Rattle.nofs_state.proofs.OnCores.Refusals.{IsLate, first-late, late-row}
use Rattle.nofs_state.proofs.OnBooks.Machine.{machine-pair, are-agreed, stale-none}
use Rattle.nofs_files.specs.Reads.{CountsLinks}

abbrev pub one : Bool → ℕ
one b = cond b 1 0

pub byte-one : (b : Bool) (n : ℕ) → n ≡ bool_byte b → one b ≡ n
byte-one true n e = sym e
byte-one false n e = sym e

-- the count of the first places, and of one more
count-more : (p : BackLink → Bool) (xs : List BackLink) (k : ℕ) (d : BackLink) → k < length xs
    → count_by p (take (k + 1) xs) ≡ count_by p (take k xs) + one (p (get_or xs k d))
count-more p [] k d low = absurd (omega (arith, low))
count-more p (x ∷ xs) zero d low = sum_by-cons (λ l. one (p l)) x []
    ∙ (let n : one (p x) + 0 ≡ 0 + one (p x) = omega arith in n)
count-more p (x ∷ xs) (suc k) d low =
    let deep = count-more p xs k d (omega (arith, low)) in
    let more : suc k + 1 ≡ suc (k + 1) = omega arith in
    let a = sum_by-cons (λ l. one (p l)) x (take (k + 1) xs) in
    let b = sum_by-cons (λ l. one (p l)) x (take k xs) in
    let c : one (p x) + (count_by p (take k xs) + one (p (get_or xs k d)))
    ≡ (one (p x) + count_by p (take k xs)) + one (p (get_or xs k d)) = omega arith in
    ap (λ (n : ℕ). count_by p (take n (x ∷ xs))) more ∙ a ∙ ap (λ (n : ℕ). one (p x) + n) deep
    ∙ c ∙ ap (λ (n : ℕ). n + one (p (get_or xs k d))) (sym b)

pub record Counted (old now : DiskState) (known : List (Option Bool)) (i : ℕ) (r : Record) (last : LastRead)
    (place links : ℕ) : Type 0 where
  pub stays : StaysButFaults old now
  pub no_fault : now.faults ≡ old.faults
  pub kept : IsLast now last
  pub small : links ≤ place
  pub count : IsTrue old.tells → AreTrue old.now known
      → links ≡ count_by (is_agreed_link (files_in old.now) i) (take place r.links)

pub counted-begins : (old : DiskState) (known : List (Option Bool)) (i : ℕ) (r : Record) (last : LastRead)
    → IsLast old last
    → Counted old old known i r last 0 0
counted-begins old known i r last kept =
    record { stays = StaysButFaults-refl old; no_fault = refl; kept = kept; small = omega arith; count = λ t a. refl }

four-known : {old : DiskState} {at : SuperBlock} {i : ℕ} {r : Record} → KnowsInode old at i r → IsTrue old.tells
    → length r.links ≡ 4
four-known {old} {at} {i} {r} is t = subst (λ (q : Record). length q.links ≡ 4) (is.same t) (four-links old.now i)

pub counted-goes : (old now new : DiskState) (at : SuperBlock) (known : List (Option Bool)) (i : ℕ) (r : Record)
    (last next : LastRead) (place links : ℕ)
    (res : Result Bool Failed) (pair : Bool) → KnowsInode old at i r
    → Counted old now known i r last place links → place < 4
    → TellsAgreed now new known (λ X. is_agreed_link (files_in X) i (get_or r.links place no_link)) next res
    → res ≡ Ok pair
    → Counted old new known i r next (place + 1) (links + one pair)
counted-goes old now new at known i r last next place links res pair is c low reads e =
    let q : TellsAgreed now new known
    (λ X. is_agreed_link (files_in X) i (get_or r.links place no_link)) next (Ok pair) =
    subst (λ (w : Result Bool Failed). TellsAgreed now new known
    (λ X. is_agreed_link (files_in X) i (get_or r.links place no_link)) next w) e reads in
    record {
      stays = StaysButFaults-trans old now new c.stays q.stays;
      no_fault = q.no_fault ∙ c.no_fault;
      kept = q.kept;
      small = (let s = c.small in let b = one-small pair in omega (arith, s, b));
      count = λ t a.
          let four = four-known is t in
          let found : pair ≡ is_agreed_link (files_in old.now) i (get_or r.links place no_link) =
          subst (λ (X : Image). pair ≡ is_agreed_link (files_in X) i (get_or r.links place no_link)) c.stays.cells.now
          (q.found (told-on old now c.stays t) (subst (λ (X : Image). AreTrue X known) (sym c.stays.cells.now) a)) in
          (λ j. c.count t a j + one (found j))
          ∙ sym (count-more (is_agreed_link (files_in old.now) i) r.links place no_link (omega (arith, low, four)));
    }
  where
    one-small : (b : Bool) → one b ≤ 1
    one-small true = omega arith
    one-small false = omega arith

pub counted-ends : (old now : DiskState) (at : SuperBlock) (known : List (Option Bool)) (i : ℕ) (r : Record)
    (last : LastRead) (place links : ℕ)
    → KnowsInode old at i r → Counted old now known i r last place links
    → 4 ≤ place → CountsLinks old now known i r (Ok links)
counted-ends old now at known i r last place links is c all = record {
  stays = c.stays;
  no_fault = c.no_fault;
  count = λ t a.
      let four = four-known is t in
      c.count t a ∙ ap (λ (xs : List BackLink). count_by (is_agreed_link (files_in old.now) i) xs)
      (take-whole r.links place (omega (arith, four, all)));
  cause = tt;
}
  where
    take-whole : (xs : List BackLink) (n : ℕ) → length xs ≤ n → take n xs ≡ xs
    take-whole [] zero low = refl
    take-whole [] (suc n) low = refl
    take-whole (x ∷ xs) zero low = absurd (omega (arith, low))
    take-whole (x ∷ xs) (suc n) low = ap (λ (ys : List BackLink). x ∷ ys) (take-whole xs n (omega (arith, low)))

-- What Stat answers

pub stat-late : (W : World) (i g : ℕ) → IsLate (first_of (rows W W (step.Stat i g)))
stat-late W i g = first-late (rows W W (step.Stat i g))
    (late-row (not (is_some (W.files i) && eqb (generation_of W.files i) g)) refusal.Stale refl, tt)

pub stat-stale : (W : World) (i g : ℕ) → stale W i g ≡ Some refusal.Stale
    → first_of (rows W W (step.Stat i g)) ≡ Some refusal.Stale
stat-stale W i g e = rw e refl

pub stat-is : (F : Files) (X : Image) (i n : ℕ) (kind : FileKind) → FilesMatch F X
    → agreed (files_in X) i ≡ true → (inode X i).kind ≡ Some kind
    → n ≡ count_by (is_agreed_link (files_in X) i) (inode X i).links
    → reply.Stat (record { kind = kind; size = (inode X i).size; links = n }) ≡ stat_reply F i
stat-is F X i n kind match a ek count =
    go (F i) refl (subst (λ (o : Option FileKind). SameFile (F i) (file_from X i o)) ek (same-of F X i match a))
  where
    ours : BackLink → Bool
    ours l = is_pair F i l

    theirs : BackLink → Bool
    theirs l = is_agreed_link (files_in X) i l

    same-test : theirs ≡ ours
    same-test = λ j l. sym (machine-pair F X i l match a) j

    go : (o : Option FileState) → F i ≡ o → SameFile o (file_from X i (Some kind))
        → reply.Stat (record { kind = kind; size = (inode X i).size; links = n }) ≡ stat_file F i o
    go None e s = absurd s
    go (Some f) e s =
        let c : n ≡ count_by (λ (l : BackLink). is_pair F i l) f.links =
        count ∙ (λ j. count_by (same-test j) (sym s.links j)) in
        λ j. reply.Stat (record { kind = sym s.kind j; size = sym s.size j; links = c j })

module _ (old mid new : DiskState) (k : Books) (i g : ℕ) (last : LastRead) (it : Opened) (is : IsDisk old)
    (safe : IsSafe old k) (going : k.stopped ≡ false)
    (opens : Opens old mid k i g last (Ok it)) where
  -- the links were counted
  pub goes-counted : (links : ℕ) → CountsLinks mid new k.agreement i it.found (Ok links)
      → Goes old k new k (step.Stat i g) no_claims
      (reply.Stat (record { kind = it.kind; size = it.found.size; links = links }))
  goes-counted links counts =
      goes-answer old new k (step.Stat i g) is safe (StaysButFaults-trans old mid new opens.stays counts.stays)
      (counts.no_fault ∙ opens.no_fault refl)
      (reply.Stat (record { kind = it.kind; size = it.found.size; links = links })) refl refl (stat-reads i g) going
      (λ tells H p o.
      let match = open-files old k H p o in
      let known = are-agreed old k H p safe o in
      let current = opens.current tells known in
      let r : inode old.now i ≡ it.found = record-of old mid k.at i it.found opens.stays opens.known.known tells in
      let count : links ≡ count_by (is_agreed_link (files_in old.now) i) it.found.links =
      subst (λ (X : Image). links ≡ count_by (is_agreed_link (files_in X) i) it.found.links) opens.stays.cells.now
      (counts.count (told-on old mid opens.stays tells)
      (subst (λ (X : Image). AreTrue X k.agreement) (sym opens.stays.cells.now) known)) in (
        rw (stale-none p.world old.now i g match current) refl,
        subst (λ (q : Record). reply.Stat (record { kind = it.kind; size = q.size; links = links })
            ≡ stat_reply p.world.files i) r
            (stat-is p.world.files old.now i links it.kind match
            (and-first (agreed (files_in old.now) i) (eqb (inode old.now i).generation g) current)
            (ap (λ (q : Record). q.kind) r ∙ opens.known.kind)
            (subst (λ (q : Record). links ≡ count_by (is_agreed_link (files_in old.now) i) q.links) (sym r) count)),
      ))
    where
      and-first : (a b : Bool) → (a && b) ≡ true → a ≡ true
      and-first true b e = refl
      and-first false b e = e

  -- a read failed
  pub goes-uncounted : (e : Failed) → CountsLinks mid new k.agreement i it.found (Err e)
      → Goes old k new k (step.Stat i g) no_claims (reply.Refused refusal.ReadFault)
  goes-uncounted e counts =
      goes-read old new k (step.Stat i g) is safe (StaysButFaults-trans old mid new opens.stays counts.stays) going
      (Rose-within old.faults mid.faults new.faults new.faults opens.stays.disk.faults counts.cause
      (le_refl new.faults)) (λ tells H p o. stat-late p.world i g)
