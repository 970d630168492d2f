-- The loops of a search: over the places of a cell, and over the slots of a directory.
use Rattle.std.proofs.Common.{◌≡◌, ℕ, ◌+◌, ◌*◌, ◌/◌, ◌%◌, ◌<◌, Bool, true, false, List, Option, Some, None, IsTrue}
use Rattle.std.proofs.Common.{Result, Ok, Err, refl, sym, ap, ◌∙◌, subst, arith, le_refl}
use Rattle.std.specs.Prelude.{IfOk, OnErr, OnOk}
use Rattle.nofs_disk.specs.Disk.{DiskState, StaysButFaults, Rose}
use Rattle.nofs_disk.specs.Chains.{StaysButFaults-trans, Rose-within}
use Rattle.nofs_disk.specs.declared.Failed.{Failed}
use Rattle.nofs_inode.specs.declared.inode.Record.{Record}
use Rattle.nofs_super.specs.declared.superblock.SuperBlock.{SuperBlock}
use Rattle.nofs_model.specs.Geometry.{Image, inode}
use Rattle.nofs_model.specs.Files.{files_in, agreed, Files}
use Rattle.nofs_model.specs.Slots.{value, value_in, find}
use Rattle.nofs_ptrs.specs.Paths.{path_of, Path}
use Rattle.nofs_model.specs.declared.image.path.PathAnswer.{PathAnswer}
use Rattle.nofs_model.specs.declared.image.path.PathAnswer.TheVariants as answer
use Rattle.nofs_model.specs.declared.image.value.Value.TheVariants.{Bytes}
use Rattle.nofs_history.specs.Machine.{link_to}
use Rattle.nofs_history.specs.History.{FilesMatch}
use Rattle.nofs_agree.specs.Reads.{IsLast, KnowsDirectory}
use Rattle.nofs_agree.specs.Path.{FindsSlot}
use Rattle.nofs_agree.specs.declared.reads.LastRead.{LastRead}
use Rattle.nofs_agree.proofs.OnChain.{told-on}
use Rattle.nofs_state.proofs.OnInodes.Opened.{IsLast-on}
use Rattle.nofs_dirent.specs.Entries.{entry_in, entry_limit, has_name}
use Rattle.nofs_names.specs.Searches.Inodes.{slot_end}
use Rattle.nofs_names.specs.Searches.Slots.{first_or, named_in, other_seen, with_holes, IsNamed, SeesNamed, Passed}
use Rattle.nofs_names.specs.Searches.Slots.{IsPast, SearchesOn, Searches}
use Rattle.nofs_names.specs.declared.searches.slots.Paired.{Paired}
use Rattle.nofs_names.specs.declared.searches.slots.Unfound.{Unfound}
use Rattle.nofs_names.specs.declared.searches.entries.Named.{Named}
use Rattle.nofs_names.specs.declared.searches.slots.Searched.TheVariants as searched
use Rattle.nofs_history.specs.Search.{least_from}
use Rattle.nofs_names.proofs.OnSearches.Holes.{ends-all}
use Rattle.nofs_names.proofs.OnSearches.Progress.{passes-other, passes-dead, found-here, ends-bytes, ends-hole}
use Rattle.nofs_names.proofs.OnSearches.Progress.{ends-lost}

-- a search after other reads
pub searches-after : (old mid new : DiskState) (at : SuperBlock) (d : ℕ) (name : List ℕ) (w : Bool) (n k m l : ℕ)
    (u v : Unfound) (last : LastRead)
    (res : Result (Option Paired) Failed) → StaysButFaults old mid → mid.faults ≡ old.faults
    → SearchesOn mid new at d name w n k m l u v last res
    → SearchesOn old new at d name w n k m l u v last res
searches-after old mid new at d name w n k m l u v last res stays quiet s = record {
  stays = StaysButFaults-trans old mid new stays s.stays;
  known = s.known;
  past = on-ok res s.past;
  kept = s.kept;
  cause = on-err res s.cause;
  no_fault = on-quiet res s.no_fault;
}
  where
    on-quiet : (r : Result (Option Paired) Failed) → OnOk r (new.faults ≡ mid.faults) → OnOk r (new.faults ≡ old.faults)
    on-quiet (Err e) h = tt
    on-quiet (Ok it) h = h ∙ quiet

    on-ok : (r : Result (Option Paired) Failed)
        → IfOk r (λ it. IsTrue mid.tells → (F : Files) → FilesMatch F mid.now → agreed (files_in mid.now) d ≡ true
        → Passed F d name w n k u → IsPast F mid.now d name w m l v it)
        → IfOk r (λ it. IsTrue old.tells → (F : Files) → FilesMatch F old.now
        → agreed (files_in old.now) d ≡ true → Passed F d name w n k u
        → IsPast F old.now d name w m l v it)
    on-ok (Err e) h = tt
    on-ok (Ok it) h =
        λ t. subst (λ (X : Image). (F : Files) → FilesMatch F X → agreed (files_in X) d ≡ true → Passed F d name w n k u
        → IsPast F X d name w m l v it) stays.cells.now (h (told-on old mid stays t))

    on-err : (r : Result (Option Paired) Failed) → OnErr r (Rose mid.faults new.faults)
        → OnErr r (Rose old.faults new.faults)
    on-err (Err e) h = Rose-within old.faults mid.faults new.faults new.faults stays.disk.faults h (le_refl new.faults)
    on-err (Ok it) h = tt

-- so far entries up to m and slots up to l were passed
pub record Going (old now : DiskState) (d : ℕ) (name : List ℕ) (w : Bool) (n k m l : ℕ) (u v : Unfound)
    (last : LastRead) : Type 0 where
  pub stays : StaysButFaults old now
  pub no_fault : now.faults ≡ old.faults
  pub kept : IsLast now last
  pub passed : IsTrue old.tells → (F : Files) → FilesMatch F old.now
      → agreed (files_in old.now) d ≡ true → Passed F d name w n k u → Passed F d name w m l v

module _ (old : DiskState) (at : SuperBlock) (d : ℕ) (dr : Record) (slot : ℕ) (payload name : List ℕ) (w : Bool)
    (known : KnowsDirectory old at d dr.generation dr)
    (low : slot < 72) (cell : IsTrue old.tells → value old.now d slot ≡ Bytes payload) where
  module _ (now new : DiskState) (place m : ℕ) (u v : Unfound) (last next : LastRead)
      (g : Going old now d name w (16 * slot) slot m slot u v last)
      (small : place < 16) (here : m ≡ 16 * slot + place) where
    slot-of : m / 16 ≡ slot
    slot-of = omega (arith, here, small)

    place-of : m % 16 ≡ place
    place-of = omega (arith, here, small)

    -- the entry at the place has another name
    pub going-other : (x : Unfound) → has_name payload name place ≡ false
        → x ≡ other_seen w (entry_in payload place) m v
        → Going old now d name w (16 * slot) slot (m + 1) slot u x last
    going-other x other ex = record {
      stays = g.stays;
      no_fault = g.no_fault;
      kept = g.kept;
      passed = λ t F match a p. subst (Passed F d name w (m + 1) slot) (sym ex)
          (passes-other F old.now d dr match a (known.known.same t) known.kind m slot place payload name low
          slot-of place-of (cell t) w v other (g.passed t F match a p));
    }

    -- it has the name
    module _ (named : Named) (has : has_name payload name place ≡ true)
        (en : named_in (entry_in payload place) ≡ Some named) (res : Result (Option Paired) Failed)
        (sees : SeesNamed now new at (link_to d m dr.generation) named next res) where
      seen-as : (s : Option Paired) → SeesNamed now new at (link_to d m dr.generation) named next (Ok s)
          → IsTrue old.tells → IsNamed old.now (link_to d m dr.generation) named s
      seen-as s q t = subst (λ (X : Image). IsNamed X (link_to d m dr.generation) named s) g.stays.cells.now
          (q.seen (told-on old now g.stays t))

      sees-as : (s : Option Paired) → res ≡ Ok s → SeesNamed now new at (link_to d m dr.generation) named next (Ok s)
      sees-as s er = subst (λ (r : Result (Option Paired) Failed). SeesNamed now new at (link_to d m dr.generation)
          named next r) er sees

      pub going-dead : (x : Unfound) → res ≡ Ok None → x ≡ record v { dead = first_or v.dead (Some m) }
          → Going old new d name w (16 * slot) slot (m + 1) slot u x next
      going-dead x er ex =
          let q = sees-as None er in
          record {
            stays = StaysButFaults-trans old now new g.stays q.stays;
            no_fault = q.no_fault ∙ g.no_fault;
            kept = q.kept;
            passed = λ t F match a p. subst (Passed F d name w (m + 1) slot) (sym ex)
                (passes-dead F old.now d dr match a (known.known.same t) known.kind m slot place payload name low
                slot-of place-of (cell t) w v named has en (seen-as None q t) (g.passed t F match a p));
          }

      pub going-found : (x : Paired) (k l : ℕ) (y : Unfound) → res ≡ Ok (Some x)
          → SearchesOn old new at d name w (16 * slot) slot k l u y next (Ok (Some x))
      going-found x k l y er =
          let q = sees-as (Some x) er in
          record {
            stays = StaysButFaults-trans old now new g.stays q.stays;
            no_fault = q.no_fault ∙ g.no_fault;
            known = q.known;
            past = λ t F match a p. found-here F old.now d dr match a
                (known.known.same t) known.kind m slot place payload name low slot-of place-of (cell t)
                w v x named has en (seen-as (Some x) q t) (g.passed t F match a p);
            kept = q.kept;
            cause = tt;
          }

  pub going-ends : (now : DiskState) (m : ℕ) (u v : Unfound) (last : LastRead)
      → Going old now d name w (16 * slot) slot m slot u v last → m ≡ 16 * (slot + 1)
      → SearchesOn old now at d name w (16 * slot) slot (16 * (slot + 1)) (slot + 1) u v last (Ok None)
  going-ends now m u v last g e = record {
    stays = g.stays;
    no_fault = g.no_fault;
    known = tt;
    past = λ t F match a p. ends-bytes F old.now d dr match a (known.known.same t) known.kind
        (16 * (slot + 1)) slot payload name w v low (cell t)
        (subst (λ (n : ℕ). Passed F d name w n slot v) e (g.passed t F match a p));
    kept = g.kept;
    cause = tt;
  }

-- A slot of the directory

module _ (old mid : DiskState) (at : SuperBlock) (d : ℕ) (dr : Record) (slot : ℕ) (name : List ℕ) (w : Bool)
    (known : KnowsDirectory old at d dr.generation dr)
    (low : slot < 72) (path : Path) (path-is : path ≡ path_of slot) (names last : LastRead) (u : Unfound)
    (kept : IsLast old last) where
  found-value : (a : PathAnswer) → FindsSlot old mid at (λ X. find X d path) names (Ok a) → IsTrue old.tells
      → value old.now d slot ≡ value_in old.now a
  found-value a f t = sym (λ j. value_in old.now (find old.now d (path-is j))) ∙ ap (value_in old.now) (sym (f.found t))

  finds-as : (res : Result PathAnswer Failed) (a b : PathAnswer) → FindsSlot old mid at (λ X. find X d path) names res
      → res ≡ Ok a → a ≡ b
      → FindsSlot old mid at (λ X. find X d path) names (Ok b)
  finds-as res a b f e h =
      subst (λ (r : Result PathAnswer Failed). FindsSlot old mid at (λ X. find X d path) names r) (e ∙ ap Ok h) f

  -- the search goes on after a slot of which this was answered
  abbrev GoesOn : Unfound → PathAnswer → Type 0
  GoesOn v c = (res : Result PathAnswer Failed) (b : PathAnswer)
      → FindsSlot old mid at (λ X. find X d path) names res → res ≡ Ok b → b ≡ c
      → SearchesOn old mid at d name w (16 * slot) slot (16 * (slot + 1)) (slot + 1) u v last (Ok None)

  -- a slot that holds no cell is passed
  slot-passed : (v : Unfound) (c : PathAnswer)
      → ((F : Files) → FilesMatch F old.now
      → agreed (files_in old.now) d ≡ true → inode old.now d ≡ dr → value old.now d slot ≡ value_in old.now c
      → Passed F d name w (16 * slot) slot u → Passed F d name w (16 * (slot + 1)) (slot + 1) v)
      → GoesOn v c
  slot-passed v c past res b fs e h = let f = finds-as res b c fs e h in record {
    stays = f.stays;
    no_fault = f.no_fault;
    known = tt;
    past = λ t F match a p. past F match a (known.known.same t) (found-value c f t) p;
    kept = IsLast-on old mid last f.stays kept;
    cause = tt;
  }

  pub slot-hole : (v : Unfound) → v ≡ record u { hole = first_or u.hole (Some slot) } → GoesOn v answer.Hole
  slot-hole v ev = slot-passed v answer.Hole
      (λ F match a is was p. subst (Passed F d name w (16 * (slot + 1)) (slot + 1)) (sym ev)
      (ends-hole F old.now d dr match a is known.kind slot name w u low was p))

  pub slot-lost : (v : Unfound) → v ≡ record u { lost = first_or u.lost (Some slot) } → GoesOn v answer.Lost
  slot-lost v ev = slot-passed v answer.Lost
      (λ F match a is was p. subst (Passed F d name w (16 * (slot + 1)) (slot + 1)) (sym ev)
      (ends-lost F old.now d dr match a is known.kind slot name w u low was p))

-- The whole directory

pub nothing-passed : (F : Files) (d : ℕ) (name : List ℕ) (w : Bool)
    → Passed F d name w 0 0 (record { dead = None; empty = None; lost = None; hole = None })
unfolding least_from
nothing-passed F d name w = record { none = refl; dead = refl; empty = λ t. refl; lost = refl; hole = refl }

module _ (old now : DiskState) (at : SuperBlock) (d : ℕ) (name : List ℕ) (w : Bool) (slot : ℕ) (v : Unfound)
    (last : LastRead)
    (g : Going old now d name w 0 0 (16 * slot) slot
    (record { dead = None; empty = None; lost = None; hole = None }) v last) where
  module _ (new : DiskState) (names next : LastRead) (x : Unfound) (res : Result (Option Paired) Failed)
      (s : SearchesOn now new at d name w (16 * slot) slot (16 * (slot + 1)) (slot + 1) v x next res) where
    on-as : (it : Option Paired) → res ≡ Ok it
        → SearchesOn old new at d name w (16 * slot) slot (16 * (slot + 1)) (slot + 1) v x next (Ok it)
    on-as it e =
        searches-after old now new at d name w (16 * slot) slot (16 * (slot + 1)) (slot + 1) v x next (Ok it) g.stays
        g.no_fault
        (subst (λ (r : Result (Option Paired) Failed). SearchesOn now new at d name w (16 * slot) slot (16 * (slot + 1))
        (slot + 1) v x next r) e s)

    pub search-found : (it : Option Paired) (p : Paired) → res ≡ Ok it → it ≡ Some p → IsLast new names
        → Searches old new at d name w names next (Ok (searched.Found p))
    search-found it p e n kept =
        let q = on-as (Some p) (e ∙ ap Ok n) in
        record {
          stays = q.stays;
          no_fault = q.no_fault;
          known = q.known;
          answer =
              λ t F match a. q.past t F match a (g.passed t F match a (nothing-passed F d name w));
          kept = (kept, q.kept);
          cause = tt;
        }

  pub search-ends : (dr : Record) (names : LastRead) (x : Unfound) → KnowsDirectory old at d dr.generation dr
      → slot ≡ slot_end dr → x ≡ with_holes (slot_end dr) v → IsLast now names
      → Searches old now at d name w names last (Ok (searched.Unfound x))
  search-ends dr names x known e ex kept = record {
    stays = g.stays;
    no_fault = g.no_fault;
    known = tt;
    answer = λ t F match a. subst (Passed F d name w entry_limit 72) (sym ex)
        (ends-all F old.now d dr match a (known.known.same t) known.kind name w v
        (subst (λ (k : ℕ). Passed F d name w (16 * k) k v) e (g.passed t F match a (nothing-passed F d name w))));
    kept = (kept, g.kept);
    cause = tt;
  }
