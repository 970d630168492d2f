-- What a look at a mount leaves of it.
use Rattle.std.proofs.Common.{◌≡◌, ℕ, ◌<◌, Bool, false, IsTrue, inl, inr, Option, List, get_or, length, arith, sym, ap}
use Rattle.std.proofs.Common.{subst}
use Rattle.std.proofs.lemmas.List.{get_or-map, length-map}
use Rattle.std.specs.Prelude.{Result, Ok, Err, IfOk}
use mathlib.Core.List.{IsPrefix}
use Rattle.nofs_disk.specs.Disk.{DiskState, StaysButFaults}
use Rattle.nofs_agree.specs.Chain.{LearnsAgreement}
use Rattle.nofs_state.specs.Books.Maps.{IsSafe}
use Rattle.nofs_state.specs.Books.Agreement.{with_agreement}
use Rattle.nofs_state.specs.declared.books.maps.Books.{Books}
use Rattle.nofs_scan.specs.Steps.Elements.{items_of, verdict_at}
use Rattle.nofs_scan.specs.declared.sights.evidence.Verdict.{Verdict}
use Rattle.nofs_state.proofs.OnCores.Unchanged.{reads-keep, safe-keeps}
use Rattle.nofs_state.proofs.OnBooks.Agreement.{open-knows, safe-knows, stopped-knows}
use Rattle.nofs_turn.proofs.OnLists.Words.{prefix_self}
use Rattle.nofs_shared.specs.Mount.Earlier.{IsEarlier}
use Rattle.nofs_shared.specs.Mount.Invariant.{IsMount, IsSoundDisk, MountStands}
use Rattle.nofs_shared.proofs.OnMount.Steps.{mount-still}

pub safe-looked : (old new : DiskState) (k l : Books) → StaysButFaults old new → l ≡ with_agreement k l.agreement
    → LearnsAgreement old k.agreement l.agreement
    → IsSafe old k → IsSafe new l
safe-looked old new k l stays same learns safe =
    subst (λ (b : Books). IsSafe new b) (sym same)
    (safe-keeps old new (reads-keep old new stays) (with_agreement k l.agreement)
    (safe-knows old k l.agreement learns safe))

-- a mount whose books know more of inodes
mount-knows : (found d : DiskState) (first : ℕ) (k : Books) (known : List (Option Bool))
    → LearnsAgreement d k.agreement known → IsMount found d first k
    → IsMount found d first (with_agreement k known)
mount-knows found d first k known learns m = record {
  safe = safe-knows d k known learns m.safe;
  disk = m.disk;
  mounted = m.mounted;
  forms = m.forms;
  counted = m.counted;
  stands = λ sound. stood sound (m.stands sound);
}
  where
    stood : IsSoundDisk found → MountStands found d first k → MountStands found d first (with_agreement k known)
    stood sound s = record {
      past = s.past;
      base = s.base;
      serial = s.serial;
      raised = s.raised;
      now = elim s.now [
        | inl o ↦ inl (open-knows d k known k.history.entries s.past
            (subst (λ (b : Bool). IsTrue b) (sym m.disk.tells) sound.tells) learns m.safe o)
        | inr e ↦ inr (stopped-knows d k known k.history.entries s.past e)
      ];
      sound = s.sound;
      along = s.along;
      machine = s.machine;
      calls = s.calls;
      rests = s.rests;
    }

pub mount-looked : (found old new : DiskState) (first : ℕ) (k l : Books) → StaysButFaults old new
    → l ≡ with_agreement k l.agreement
    → LearnsAgreement old k.agreement l.agreement → IsMount found old first k
    → IsMount found new first l
mount-looked found old new first k l stays same learns m =
    let more = mount-knows found old first k l.agreement learns m in
    let b = with_agreement k l.agreement in
    subst (λ (q : Books). IsMount found new first q) (sym same)
    (mount-still found old new first b b more stays.disk stays.past stays.cells
    (safe-keeps old new (reads-keep old new stays) b more.safe))

-- the evidence is of the state before the look
pub looked-own : {E B K : Type 0} (core_of : E → K) (disk_of : K → DiskState) (books_of : K → Books) (now : K)
    (r : Result E B)
    → IfOk r (λ e. core_of e ≡ now) → IfOk r (λ e. (books_of now).stopped ≡ false)
    → (found : DiskState) (first : ℕ) → ∥ IsMount found (disk_of now) first (books_of now) ∥₁
    → (l : Books) → l ≡ with_agreement (books_of now) l.agreement
    → IfOk r
    (λ e. IsEarlier found (disk_of (core_of e)) (books_of (core_of e)) first l.history.start l.at l.history.entries)
looked-own core_of disk_of books_of now (Err x) core going found first m l same = tt
looked-own core_of disk_of books_of now (Ok e) core going found first m l same =
    subst (λ k. IsEarlier found (disk_of k) (books_of k) first l.history.start l.at l.history.entries)
    (sym core) (record {
      stood = m;
      going = going;
      begun = ap (λ (b : Books). b.history.start) (sym same);
      numbers = ap (λ (b : Books). b.at) (sym same);
      begins = subst (λ (b : Books). IsPrefix (books_of now).history.entries b.history.entries) (sym same)
          (prefix_self (books_of now).history.entries);
    })

-- the number at a place is that of the verdict there
pub item-at : (vs : List Verdict) (at : ℕ) → at < length vs → get_or (items_of vs) at 0 ≡ (verdict_at vs at).item
item-at vs at low = get_or-map (λ (v : Verdict). v.item) vs at (record { item = 0; used = false }) 0 low

pub items-length : (vs : List Verdict) (at : ℕ) → at < length (items_of vs) → at < length vs
items-length vs at low = let e = length-map vs (λ (v : Verdict). v.item) in omega (arith, e, low)
