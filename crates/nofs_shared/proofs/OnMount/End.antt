-- What the invariant of a mount gives at its end.
use Rattle.std.proofs.Common.{◌≡◌, ◌≢◌, ℕ, ◌≤◌, Bool, true, false, ltb, List, [], ◌∷◌, ◌++◌, Contains, set, ◌⊎◌, inl}
use Rattle.std.proofs.Common.{inr, refl, ap, ◌∙◌, subst, arith}
use Rattle.nofs_disk.specs.Disk.{DiskState}
use Rattle.nofs_disk.specs.Moments.{AtEach}
use Rattle.nofs_super.specs.Format.{super_cell}
use Rattle.nofs_disk.specs.declared.tag.Pointer.{Pointer}
use Rattle.nofs_super.specs.declared.superblock.SuperBlock.{SuperBlock}
use Rattle.nofs_model.specs.Geometry.{Image}
use Rattle.nofs_history.specs.World.{World, world_of, is_free_inode, inodes_needed}
use Rattle.nofs_history.specs.Claims.{claimed_blocks, no_claims, next_stamp, IsClaim, IsInodeClaim, ClaimedInode}
use Rattle.nofs_history.specs.Claims.{NoInode}
use Rattle.nofs_history.specs.Next.{Next, Run, AfterFault, ByRow, Done, ByRead, ByWrite}
use Rattle.nofs_history.specs.Allowed.{IsAllowed}
use Rattle.nofs_history.specs.declared.machine.history.Claims.{Claims}
use Rattle.nofs_history.specs.declared.machine.history.Entry1.{Entry1}
use Rattle.nofs_history.specs.declared.machine.steps.Step.{Step}
use Rattle.nofs_crashlaw.proofs.OnMaps.ClaimParts.{claim-free}
use Rattle.nofs_state.specs.Cores.Invariant.{IsOpen, IsStopped, Past}
use Rattle.nofs_state.specs.declared.books.maps.Books.{Books}
use Rattle.nofs_shared.specs.Mount.Images.{ImagesAlong}
use Rattle.nofs_shared.specs.Mount.Invariant.{IsFound, IsMount}
use Rattle.nofs_shared.proofs.OnMount.Histories.{only-calls}
use Rattle.nofs_shared.specs.Mount.End.{EntryClaimsFree, Ends}

inode-free : (W : World) (n : ℕ) (c : Claims) (b : Bool) → IsInodeClaim W n c b
    → c.inode ≢ 0 → is_free_inode W c.inode ≡ true
inode-free W n c true (ClaimedInode free low high stamp) some = free
inode-free W n c false (NoInode none gen) some = absurd (some none)

claim-is-free : (W : World) (s : Step) (e : Entry1) → e.step ≡ s → IsClaim W s e.claims → EntryClaimsFree W e
claim-is-free W s e same c = record {
  blocks = λ x has. (claim-free W s e.claims c x has).0;
  inode = λ some. inode-free W (next_stamp W) e.claims (ltb 0 (inodes_needed s)) c.inode some;
}

none-free : (W : World) (e : Entry1) → e.claims ≡ no_claims → EntryClaimsFree W e
none-free W e none = record {
  blocks = λ x has. absurd (empty x (subst (λ (c : Claims). Contains (claimed_blocks c) x) none has));
  inode = λ some. absurd (some (ap (λ (c : Claims). c.inode) none));
}
  where
    empty : (x : Pointer) → Contains (claimed_blocks no_claims) x → ⊥
    empty x has = let low = has.1 in omega (arith, low)

pub next-free : (W V : World) (e : Entry1) → Next W e V → EntryClaimsFree W e
next-free W V e (AfterFault a b c d) = none-free W e c
next-free W V e (ByRow why a b c d f g h) = none-free W e d
next-free W V e (Done a b c d f g h i j) = claim-is-free W e.step e refl d
next-free W V e (ByRead a b c d f g h) = none-free W e d
next-free W V e (ByWrite a b c d f g h i) = claim-is-free W e.step e refl f

pub run-claims : (before : List Entry1) (start : ℕ) (W V : World) (e : Entry1) (after : List Entry1)
    → Run start W (before ++ e ∷ after) V
    → (U : World) × Run start W before U × EntryClaimsFree U e
run-claims [] start W V e after r = (W, refl, next-free W r.0 e r.4)
run-claims (x ∷ before) start W V e after r =
    let q = run-claims before x.to r.0 V e after r.5 in
    (q.0, (r.0, r.1, r.2, r.3, r.4, q.1), q.2)

pub mount-ends : (found d : DiskState) (first : ℕ) (k : Books) → IsMount found d first k → Ends found d first k.history
mount-ends found d first k m = record {
  disk = m.disk;
  began = m.mounted.begun;
  stopped = k.stopped;
  forms = m.forms;
  calls = only-calls k.history.entries k.history.start false d.moment k.stopped m.forms;
  faults = m.counted;
  contents = λ q.
      let s = m.stands q in
      let r = run s.past s.now in
      let w : Run k.history.start (world_of s.past.base first) k.history.entries s.past.world =
      subst (λ (n : ℕ). Run k.history.start (world_of s.past.base n) k.history.entries s.past.world) s.serial r in
      record {
        base = s.past.base;
        base_was = s.base;
        base_is = s.base ∙ m.mounted.base ∙ ap (λ (q : SuperBlock). set found.now 0 (super_cell q)) s.raised;
        world = s.past.world;
        run = w;
        allowed = λ n X from to left. (images s.past s.now).each n X from to left;
        before = subst (λ (q : SuperBlock). (n : ℕ) (X : Image) → found.moment ≤ n → n ≤ k.history.start → d.left n X
            → IsFound q found X)
            s.raised m.mounted.before;
        calls = s.calls;
        claims = λ before after e is. run-claims before k.history.start
            (world_of s.past.base first) s.past.world e after
            (subst (λ (H : List Entry1). Run k.history.start (world_of s.past.base first) H s.past.world) is w);
        along = subst (λ (n : ℕ). ImagesAlong [] (world_of s.past.base n) s.past.base k.history.entries s.past.world
            d.now) s.serial s.along;
        machine = s.machine;
        sound = s.sound.images.each;
        next = s.sound.picks;
      };
}
  where
    run : (p : Past) → IsOpen d k k.history.entries p ⊎ IsStopped d k k.history.entries p
        → Run k.history.start (world_of p.base p.first) k.history.entries p.world
    run p (inl o) = o.run.run
    run p (inr o) = o.run.run

    images : (p : Past) → IsOpen d k k.history.entries p ⊎ IsStopped d k k.history.entries p
        → AtEach (λ n X. IsAllowed p.base k.history.entries n X) k.history.start d
    images p (inl o) = o.stage.lasts.images
    images p (inr o) = o.lasts.images
