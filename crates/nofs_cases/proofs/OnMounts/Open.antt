-- A mount whose last step was stored is open.
use Rattle.std.proofs.Common.{◌≡◌, ℕ, ◌⊎◌, inl, inr, Bool, true, false, List, [], ◌∷◌, ◌++◌, refl, ap, ◌∙◌, subst}
use Rattle.nofs_disk.specs.Disk.{DiskState}
use Rattle.nofs_history.specs.Machine.{is_write_fault}
use Rattle.nofs_history.specs.Steps.{is_out_of_memory}
use Rattle.nofs_history.specs.declared.machine.history.Entry1.{Entry1}
use Rattle.nofs_history.specs.declared.machine.steps.Step.{Step}
use Rattle.nofs_history.specs.declared.machine.steps.Step.TheVariants as step
use Rattle.nofs_history.specs.declared.machine.replies.Reply.{Reply}
use Rattle.nofs_history.specs.declared.machine.replies.Reply.TheVariants as reply
use Rattle.nofs_crashlaw.specs.Maps.Homes.{LawGood}
use Rattle.nofs_state.specs.Cores.Invariant.{IsOpen, IsStopped}
use Rattle.nofs_state.specs.declared.books.maps.Books.{Books}
use Rattle.nofs_shared.specs.Mount.Entries.{AddsStep}
use Rattle.nofs_shared.specs.Mount.Forms.{Forms}
use Rattle.nofs_shared.specs.Mount.Invariant.{IsMount, IsSoundDisk, MountStands}
use Rattle.nofs_cases.specs.Mounts.Open.{StandsOpen}
use Rattle.nofs_cases.specs.Mounts.Replies.{AddsOne, SeesAndPuts, tells_free, is_stored}
use Rattle.nofs_cases.proofs.OnMounts.Maps.{maps-good}

-- both steps were done, so that no write has failed
pub going-on : (m n : ℕ) (c : Bool) (seen put : Entry1) → Forms m false (seen ∷ put ∷ []) n c
    → seen.reply ≡ reply.Seen false → put.reply ≡ reply.Stored
    → c ≡ false
going-on m n c seen put f es ep =
    let a : is_write_fault seen.reply ≡ false = ap is_write_fault es in
    let b : is_write_fault put.reply ≡ false = ap is_write_fault ep in
    f.1.1.1 ∙ (rw (a, b) refl)

pub stands-open : LawGood → (found d : DiskState) (first : ℕ) (k : Books) → IsMount found d first k → IsSoundDisk found
    → k.stopped ≡ false
    → StandsOpen found d first k
stands-open law found d first k m q going = go (m.stands q).now
  where
    st : MountStands found d first k
    st = m.stands q

    go : IsOpen d k k.history.entries st.past ⊎ IsStopped d k k.history.entries st.past → StandsOpen found d first k
    go (inl o) = record {
      past = st.past;
      base = st.base;
      serial = st.serial;
      raised = st.raised;
      now = o;
      good = maps-good d k k.history.entries st.past o law;
      sound = st.sound;
    }
    go (inr s) = absurd (let e = s.stopped in cc (e, going))

-- before the first step
pub begun-open : LawGood → (found d : DiskState) (first : ℕ) (k : Books) → IsMount found d first k → IsSoundDisk found
    → k.history.entries ≡ []
    → StandsOpen found d first k
begun-open law found d first k m q none =
    stands-open law found d first k m q
    ((subst (λ (H : List Entry1). Forms k.history.start false H d.moment k.stopped) none m.forms).1)

-- and after both steps
pub put-open : LawGood → (found d : DiskState) (first : ℕ) (k : Books) (block : ℕ) (bytes : List ℕ)
    → IsMount found d first k → IsSoundDisk found
    → SeesAndPuts block bytes k.history.entries → StandsOpen found d first k
put-open law found d first k block bytes m q h =
    stands-open law found d first k m q
    (going-on k.history.start d.moment k.stopped h.seen h.put
    (subst (λ (H : List Entry1). Forms k.history.start false H d.moment k.stopped) h.is m.forms)
    h.seen_free h.put_stored)

-- Entries

free-is : (r : Reply) → tells_free r ≡ true → r ≡ reply.Seen false
free-is (reply.Seen false) e = refl
free-is (reply.Seen true) e = cc
free-is _ e = cc

stored-is : (r : Reply) → is_stored r ≡ true → r ≡ reply.Stored
stored-is reply.Stored e = refl
stored-is _ e = cc

adds-one : (caller : ℕ) (s : Step) (r t : Reply) (H K : List Entry1) → AddsStep caller s r H K
    → r ≡ t → is_out_of_memory t ≡ false → AddsOne s t H K
adds-one caller s r t H K a is mem =
    let one = a.one (ap is_out_of_memory is ∙ mem) in
    record { e = one.0; added = one.1; made = one.3; replied = one.4 ∙ is }

pub adds-seen : (caller : ℕ) (s : Step) (r : Reply) (H K : List Entry1) → AddsStep caller s r H K
    → tells_free r ≡ true → AddsOne s (reply.Seen false) H K
adds-seen caller s r H K a e = adds-one caller s r (reply.Seen false) H K a (free-is r e) refl

pub adds-stored : (caller : ℕ) (s : Step) (r : Reply) (H K : List Entry1) → AddsStep caller s r H K
    → is_stored r ≡ true → AddsOne s reply.Stored H K
adds-stored caller s r H K a e = adds-one caller s r reply.Stored H K a (stored-is r e) refl

pub both-steps : (block : ℕ) (bytes : List ℕ) (H K L : List Entry1)
    → H ≡ [] → AddsOne (step.SeeBlock block) (reply.Seen false) H K
    → AddsOne (step.Put 2 2 0 0 bytes) reply.Stored K L → SeesAndPuts block bytes L
both-steps block bytes H K L none a b = record {
  seen = a.e;
  put = b.e;
  is = b.added ∙ ap (λ (xs : List Entry1). xs ++ b.e ∷ []) (a.added ∙ ap (λ (xs : List Entry1). xs ++ a.e ∷ []) none);
  seen_step = a.made;
  seen_free = a.replied;
  put_step = b.made;
  put_stored = b.replied;
}
