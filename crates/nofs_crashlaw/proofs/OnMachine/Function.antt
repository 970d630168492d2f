-- The world and the step decide all but claims, faults and what becomes known.
use Rattle.std.proofs.Common.{◌≡◌, ◌+◌, Bool, true, false, Option, Some, None, refl, sym, ap, ◌∙◌, ◌⊎◌, inl, inr}
use Rattle.nofs_history.specs.Search.{first_of}
use Rattle.nofs_history.specs.Machine.{gives, files_after}
use Rattle.nofs_history.specs.Faults.{is_fault}
use Rattle.nofs_history.specs.World.{World, inodes_needed, blocks_needed}
use Rattle.nofs_history.specs.Refusals.{rows, reads_nothing}
use Rattle.nofs_history.specs.Answers.{reply_of}
use Rattle.nofs_history.specs.Claims.{homes_after}
use Rattle.nofs_history.specs.Next.{Keeps, Next, AfterFault, ByRow, Done, ByRead, ByWrite}
use Rattle.nofs_history.specs.declared.machine.history.Entry1.{Entry1}
use Rattle.nofs_history.specs.declared.machine.steps.Step.{Step}
use Rattle.nofs_history.specs.declared.machine.replies.Reply.{Reply}
use Rattle.nofs_history.specs.declared.machine.replies.Reply.TheVariants as reply
use Rattle.nofs_history.specs.declared.machine.replies.Refusal.{Refusal}
use Rattle.nofs_history.specs.declared.machine.replies.Refusal.TheVariants as refusal
use Rattle.nofs_crashlaw.specs.Machine.Laws.{LawFunction}
use Rattle.nofs_crashlaw.proofs.OnMachine.Claims.{none-later}

-- worlds of the same parts
pub record SameParts (V U : World) : Type 0 where
  pub keeps : Keeps U V
  pub stopped : V.stopped ≡ U.stopped
  pub known_inodes : V.known_inodes ≡ U.known_inodes
  pub known_blocks : V.known_blocks ≡ U.known_blocks

same-world : (V U : World) → SameParts V U → V ≡ U
same-world V U s = let k = s.keeps in λ j. record {
  version = k.version j;
  blocks = k.blocks j;
  inodes = k.inodes j;
  mount = k.mount j;
  serial = k.serial j;
  stopped = s.stopped j;
  files = k.files j;
  homes = k.homes j;
  known_inodes = s.known_inodes j;
  known_blocks = s.known_blocks j;
}

some-none : {A : Type 0} → (o : Option A) (x : A) → o ≡ Some x → o ≡ None → ⊥
some-none o x a b = cc (a, b)

clash : (b : Bool) → b ≡ true → b ≡ false → ⊥
clash b t f = cc (t, f)

one-answer : (o : Option Refusal) (x y : Refusal) → o ≡ Some x → o ≡ Some y → x ≡ y
one-answer o x y a b = cc (a, b)

module _ (W : World) (e f : Entry1) (V U : World) (step : e.step ≡ f.step) (claims : e.claims ≡ f.claims)
    (sound_e : is_fault e.reply ≡ false) (sound_f : is_fault f.reply ≡ false)
    (inodes : V.known_inodes ≡ U.known_inodes) (blocks : V.known_blocks ≡ U.known_blocks) where
  Same : Type 0
  Same = (e.reply ≡ f.reply) × (V ≡ U)

  -- a reply that a failed read gives is a fault
  no-fault : (r : Reply) (why : Refusal)
      → is_fault r ≡ false → is_fault (reply.Refused why) ≡ true → r ≡ reply.Refused why → ⊥
  no-fault r why sound fault is = clash (is_fault r) (ap is_fault is ∙ fault) sound

  by-row : (r : Reply) (why : Refusal) → is_fault r ≡ false
      → (r ≡ reply.Refused why) ⊎ ((r ≡ reply.Refused refusal.ReadFault) × (reads_nothing why ≡ false))
      → r ≡ reply.Refused why
  by-row r why sound (inl is) = is
  by-row r why sound (inr read) = absurd (no-fault r refusal.ReadFault sound refl read.0)

  kept : Keeps W V → Keeps W U → V.stopped ≡ false → U.stopped ≡ false → V ≡ U
  kept k l s t = same-world V U (record {
    keeps = record {
      version = k.version ∙ sym l.version;
      blocks = k.blocks ∙ sym l.blocks;
      inodes = k.inodes ∙ sym l.inodes;
      mount = k.mount ∙ sym l.mount;
      serial = k.serial ∙ sym l.serial;
      files = k.files ∙ sym l.files;
      homes = k.homes ∙ sym l.homes;
    };
    stopped = s ∙ sym t;
    known_inodes = inodes;
    known_blocks = blocks;
  })

  rows-at : first_of (rows W U e.step) ≡ first_of (rows W U f.step)
  rows-at = ap (λ (s : Step). first_of (rows W U s)) step

  mixed : (why : Refusal) → first_of (rows W V e.step) ≡ Some why → first_of (rows W U f.step) ≡ None → ⊥
  mixed why row none = some-none (first_of (rows W V e.step)) why row (none-later W U V e.step (rows-at ∙ none))

  mixed-too : (why : Refusal) → first_of (rows W U f.step) ≡ Some why → first_of (rows W V e.step) ≡ None → ⊥
  mixed-too why row none = some-none (first_of (rows W U f.step)) why row (sym rows-at ∙ none-later W V U e.step none)

  pub settled : Next W e V → Next W f U → (e.reply ≡ f.reply) × (V ≡ U)
  settled (AfterFault s r c v) (AfterFault s' r' c' v') = (r ∙ sym r', v ∙ sym v')
  settled (AfterFault s r c v) (ByRow why' s' row' r' c' k' t' l') = absurd (clash W.stopped s s')
  settled (AfterFault s r c v) (Done s' row' r' c' fs' hs' se' vs' l') = absurd (clash W.stopped s s')
  settled (AfterFault s r c v) (ByRead s' row' r' c' k' t' l') = absurd (clash W.stopped s s')
  settled (AfterFault s r c v) (ByWrite s' row' m' r' c' k' t' l') = absurd (clash W.stopped s s')
  settled (ByRow why s row r c k t l) (AfterFault s' r' c' v') = absurd (clash W.stopped s' s)
  settled (ByRow why s row r c k t l) (ByRow why' s' row' r' c' k' t' l') =
      let world : V ≡ U = kept k k' t t' in
      let same : why ≡ why' =
      one-answer (first_of (rows W V e.step)) why why' row ((λ j. first_of (rows W (world j) (step j))) ∙ row') in
      (by-row e.reply why sound_e r ∙ ap reply.Refused same ∙ sym (by-row f.reply why' sound_f r'), world)
  settled (ByRow why s row r c k t l) (Done s' row' r' c' fs' hs' se' vs' l') = absurd (mixed why row row')
  settled (ByRow why s row r c k t l) (ByRead s' row' r' c' k' t' l') = absurd (mixed why row row')
  settled (ByRow why s row r c k t l) (ByWrite s' row' m' r' c' k' t' l') = absurd (mixed why row row')
  settled (Done s row r c fs hs se vs l) (AfterFault s' r' c' v') = absurd (clash W.stopped s' s)
  settled (Done s row r c fs hs se vs l) (ByRow why' s' row' r' c' k' t' l') = absurd (mixed-too why' row' row)
  settled (Done s row r c fs hs se vs l) (Done s' row' r' c' fs' hs' se' vs' l') =
      let files : V.files ≡ U.files =
      fs ∙ ((λ j. files_after W.files (gives W.files (step j) (claims j))) ∙ sym fs') in (
        r ∙ ((λ j. reply_of W (step j) (claims j)) ∙ sym r'),
        same-world V U (record {
          keeps = record {
            version = vs.0 ∙ sym vs'.0;
            blocks = vs.1 ∙ sym vs'.1;
            inodes = vs.2 ∙ sym vs'.2;
            mount = vs.3 ∙ sym vs'.3;
            serial = se ∙ ((λ j. W.serial + inodes_needed (step j) + blocks_needed W.files (step j)) ∙ sym se');
            files = files;
            homes = hs ∙ ((λ j. homes_after W (step j) (claims j) (files j)) ∙ sym hs');
          };
          stopped = vs.4 ∙ sym vs'.4;
          known_inodes = inodes;
          known_blocks = blocks;
        }),
      )
  settled (Done s row r c fs hs se vs l) (ByRead s' row' r' c' k' t' l') =
      absurd (no-fault f.reply refusal.ReadFault sound_f refl r')
  settled (Done s row r c fs hs se vs l) (ByWrite s' row' m' r' c' k' t' l') =
      absurd (no-fault f.reply refusal.WriteFault sound_f refl r')
  settled (ByRead s row r c k t l) n = absurd (no-fault e.reply refusal.ReadFault sound_e refl r)
  settled (ByWrite s row m r c k t l) n = absurd (no-fault e.reply refusal.WriteFault sound_e refl r)

pub law-function : LawFunction
law-function W e f V U a b step claims sound_e sound_f inodes blocks =
    settled W e f V U step claims sound_e sound_f inodes blocks a b
