-- Whether a directory has a name of a file, place by place and slot by slot.
use Rattle.std.proofs.Common.{◌≡◌, ℕ, ◌+◌, ◌*◌, ◌<◌, inl, inr, Bool, true, false, List, [], Option, Some, None, IsTrue}
use Rattle.std.proofs.Common.{Result, Ok, refl, sym, ap, ◌∙◌, subst, arith}
use Rattle.std.proofs.lemmas.Bool.{cases_lt}
use Rattle.std.specs.Prelude.{OnOk}
use Rattle.nofs_disk.specs.Disk.{DiskState, StaysButFaults}
use Rattle.nofs_disk.specs.Chains.{StaysButFaults-trans}
use Rattle.nofs_disk.specs.declared.Failed.{Failed}
use Rattle.nofs_dirent.specs.declared.entry.Entry.{Entry}
use Rattle.nofs_inode.specs.declared.inode.Record.{Record}
use Rattle.nofs_super.specs.declared.superblock.SuperBlock.{SuperBlock}
use Rattle.nofs_dirent.specs.Entries.{entry_in}
use Rattle.nofs_model.specs.Geometry.{Image, inode}
use Rattle.nofs_ptrs.specs.Paths.{Path, path_of}
use Rattle.nofs_model.specs.Slots.{find, value, value_in}
use Rattle.nofs_model.specs.Files.{Files, entry_at, entry_held}
use Rattle.nofs_model.specs.declared.image.path.PathAnswer.{PathAnswer}
use Rattle.nofs_model.specs.declared.image.value.Value.TheVariants.{Bytes}
use Rattle.nofs_history.specs.Machine.{link_to, is_paired}
use Rattle.nofs_history.specs.History.{FilesMatch}
use Rattle.nofs_agree.specs.Path.{FindsSlot}
use Rattle.nofs_agree.specs.Reads.{IsLast, KnowsDirectory}
use Rattle.nofs_agree.specs.declared.reads.LastRead.{LastRead}
use Rattle.nofs_agree.proofs.OnChain.{told-on}
use Rattle.nofs_state.proofs.OnInodes.Opened.{IsLast-on}
use Rattle.nofs_names.proofs.OnSearches.PairTests.{paired-is}
use Rattle.nofs_names.proofs.OnSearches.Progress.{entry-is, held-at}
use Rattle.nofs_names.specs.Searches.Slots.{named_in}
use Rattle.nofs_names.specs.Searches.Refusals.{IsThere}
use Rattle.nofs_names.specs.Drops.Emptiness.{pair_in, TellsPair, NoPairs, NamesOn}

pub record Emptying (old now : DiskState) (d n m : ℕ) (last : LastRead) : Type 0 where
  pub stays : StaysButFaults old now
  pub no_fault : now.faults ≡ old.faults
  pub kept : IsLast now last
  pub none : IsTrue old.tells → IsThere d old.now → (F : Files) → FilesMatch F old.now → NoPairs F d n → NoPairs F d m

-- one place

module _ (old : DiskState) (at : SuperBlock) (d : ℕ) (dr : Record) (slot : ℕ) (payload : List ℕ)
    (known : KnowsDirectory old at d dr.generation dr)
    (low : slot < 72) (cell : IsTrue old.tells → value old.now d slot ≡ Bytes payload) where
  -- what the test says of an entry is what the machine says
  pair-as : IsTrue old.tells → IsThere d old.now → (F : Files) → FilesMatch F old.now → (place : ℕ) → place < 16
      → pair_in old.now (link_to d (16 * slot + place) dr.generation) (named_in (entry_in payload place))
      ≡ is_paired F d (16 * slot + place)
  pair-as t a F match place small = go (entry_in payload place) refl
    where
      there : entry_at F d (16 * slot + place) ≡ entry_in payload place
      there = entry-is F old.now d dr match a (known.known.same t) known.kind
          (16 * slot + place) slot place payload [] low (omega (arith, small))
          (omega (arith, small)) (cell t)

      go : (o : Option Entry) → entry_in payload place ≡ o
          → pair_in old.now (link_to d (16 * slot + place) dr.generation) (named_in o) ≡ is_paired F d
          (16 * slot + place)
      go None e = let n = there ∙ e in sym (rw (n, is_paired) refl)
      go (Some it) e = paired-is F old.now d (16 * slot + place) dr match a (known.known.same t) known.kind it
          (there ∙ e) (inode old.now it.inode) refl

  module _ (now new : DiskState) (place : ℕ) (last next : LastRead)
      (g : Emptying old now d (16 * slot) (16 * slot + place) last) (small : place < 16) where
    told : IsTrue old.tells → IsTrue now.tells
    told t = told-on old now g.stays t

    pair-is : (b : Bool) → TellsPair now new (link_to d (16 * slot + place) dr.generation) payload place next (Ok b)
        → IsTrue old.tells → IsThere d old.now
        → (F : Files) → FilesMatch F old.now → b ≡ is_paired F d (16 * slot + place)
    pair-is b s t a F match = subst
        (λ (X : Image). b ≡ pair_in X (link_to d (16 * slot + place) dr.generation) (named_in (entry_in payload place)))
        g.stays.cells.now (s.found (told t)) ∙ pair-as t a F match place small

    pub place-on : (res : Result Bool Failed)
        → TellsPair now new (link_to d (16 * slot + place) dr.generation) payload place next res → res ≡ Ok false
        → Emptying old new d (16 * slot) (16 * slot + (place + 1)) next
    place-on res tells e =
        let s : TellsPair now new (link_to d (16 * slot + place) dr.generation) payload place next (Ok false) =
        subst (λ (r : Result Bool Failed). TellsPair now new
        (link_to d (16 * slot + place) dr.generation) payload place next r) e tells in
        record {
          stays = StaysButFaults-trans old now new g.stays s.stays;
          no_fault = s.no_fault ∙ g.no_fault;
          kept = s.kept;
          none = λ t a F match p n high. elim (cases_lt n (16 * slot + place)) [
            | inl before ↦ g.none t a F match p n before
            | inr here ↦ let same : n ≡ 16 * slot + place = omega (arith, here, high) in
                ap (is_paired F d) same ∙ sym (pair-is false s t a F match)
          ];
        }

    pub place-found : (z : ℕ) (res : Result Bool Failed)
        → TellsPair now new (link_to d (16 * slot + place) dr.generation) payload place next res
        → res ≡ Ok true → NamesOn old new d (16 * slot) z next (Ok true)
    place-found z res tells e =
        let s : TellsPair now new (link_to d (16 * slot + place) dr.generation) payload place next (Ok true) =
        subst (λ (r : Result Bool Failed). TellsPair now new
        (link_to d (16 * slot + place) dr.generation) payload place next r) e tells in
        record {
          stays = StaysButFaults-trans old now new g.stays s.stays;
          no_fault = s.no_fault ∙ g.no_fault;
          names = λ t a F match p. (16 * slot + place, omega (arith, small, low), sym (pair-is true s t a F match));
          kept = s.kept;
          cause = tt;
        }

-- a slot without bytes
pub slot-empty : (old mid : DiskState) (at : SuperBlock) (d : ℕ) (dr : Record) (slot : ℕ) (path : Path)
    (names last : LastRead)
    (res : Result PathAnswer Failed) (b c : PathAnswer) → KnowsDirectory old at d dr.generation dr
    → slot < 72 → path ≡ path_of slot → IsLast old last
    → FindsSlot old mid at (λ X. find X d path) names res → res ≡ Ok b
    → b ≡ c → ((e : ℕ) (X : Image) → entry_held (value_in X c) e ≡ None)
    → NamesOn old mid d (16 * slot) (16 * (slot + 1)) last (Ok false)
slot-empty old mid at d dr slot path names last res b c known low path-is kept finds eb ec none = record {
  stays = finds.stays;
  no_fault = subst (λ (r : Result PathAnswer Failed). OnOk r (mid.faults ≡ old.faults)) eb finds.no_fault;
  names = λ t a F match p n high. elim (cases_lt n (16 * slot)) [
    | inl before ↦ p n before
    | inr here ↦
        let f : FindsSlot old mid at (λ X. find X d path) names (Ok c) =
        subst (λ (r : Result PathAnswer Failed). FindsSlot old mid at (λ X. find X d path) names r)
        (eb ∙ ap Ok ec) finds in
        let v : value old.now d slot ≡ value_in old.now c =
        sym (λ j. value_in old.now (find old.now d (path-is j))) ∙ ap (value_in old.now) (sym (f.found t)) in
        let h : entry_at F d n ≡ None =
        held-at F old.now d dr match a (known.known.same t) known.kind n slot (value_in old.now c) low
        (omega (arith, here, high)) v ∙ none n old.now in
        rw (h, is_paired) refl
  ];
  kept = IsLast-on old mid last finds.stays kept;
  cause = tt;
}
