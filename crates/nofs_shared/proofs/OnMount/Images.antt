-- What a read gives goes on from entry to entry, and the machine has its files and owners.
use Rattle.std.proofs.Common.{◌≡◌, ℕ, true, false, List, [], ◌∷◌, ◌++◌, ◌⊎◌, inl, inr, refl, sym, ap, ◌∙◌, subst}
use Rattle.std.proofs.Common.{subst₂, arith, Contains, append-nil, append_assoc}
use Rattle.nofs_disk.specs.Disk.{DiskState}
use Rattle.nofs_super.specs.declared.superblock.SuperBlock.{SuperBlock}
use Rattle.nofs_model.specs.Geometry.{Image, super_at}
use Rattle.nofs_model.specs.Files.{Files}
use Rattle.nofs_model.specs.Owners.{owner}
use Rattle.nofs_history.specs.Claims.{claimed_blocks}
use Rattle.nofs_history.specs.History.{FilesMatch}
use Rattle.nofs_history.specs.Machine.{is_refused, is_write_fault}
use Rattle.nofs_history.specs.Next.{AfterFault, ByRead, ByRow, ByWrite, Done, Keeps, Next}
use Rattle.nofs_history.specs.Steps.{is_out_of_memory}
use Rattle.nofs_history.specs.World.{World}
use Rattle.nofs_history.specs.Writes.{is_flush}
use Rattle.nofs_history.specs.declared.machine.history.Claims.{Claims}
use Rattle.nofs_history.specs.declared.machine.history.Entry1.{Entry1}
use Rattle.nofs_history.specs.declared.machine.steps.Step.{Step}
use Rattle.nofs_history.specs.declared.machine.steps.Step.TheVariants as step
use Rattle.nofs_history.specs.declared.machine.replies.Reply.{Reply}
use Rattle.nofs_state.specs.Cores.Invariant.{IsOpen, IsStopped, Past}
use Rattle.nofs_state.specs.Cores.Steps.{FlushesAlone, IsSafeStep, LeavesDisk, MeetsOpen, NoOrder, WritesAlone, entry}
use Rattle.nofs_state.specs.declared.books.maps.Books.{Books}
use Rattle.nofs_state.proofs.OnCores.Replies.{open-files}
use Rattle.nofs_shared.specs.Mount.Images.{CellsWritten, ClaimsUnowned, ImagesAlong, IsBefore, IsOfImage}
use Rattle.nofs_shared.specs.Mount.Images.{NothingWritten, OnlyFlushed, OnlyFlushesFailed, ReadsAfter}
use Rattle.nofs_shared.proofs.OnMount.Claims.{none-claimed, open-unowned, stopped-none}
use Rattle.nofs_shared.proofs.OnMount.End.{next-free}

-- From entry to entry

flush-is : (s : Step) → is_flush s ≡ true → (i : ℕ) × (g : ℕ) × (s ≡ step.Flush i g)
flush-is (step.Flush i g) e = (i, g, refl)
flush-is _ e = absurd (cc e)

pub reads-after : (old new : DiskState) (k : Books) (caller : ℕ) (s : Step) (c : Claims) (r : Reply)
    → NoOrder old new (MeetsOpen old k) s c r → ReadsAfter old.now (entry caller old new s c r) new.now
reads-after old new k caller s c r (LeavesDisk none cells dirty) = NothingWritten cells.moment cells.now
reads-after old new k caller s c r (FlushesAlone is late f) = let q = flush-is s is in OnlyFlushed q.0 q.1 q.2 f.now
reads-after old new k caller s c r (WritesAlone made w) =
    CellsWritten w.calls w.only.moment w.only.done w.only.tried

pub images-append : (H done : List Entry1) (W V U : World) (B X Y : Image) (e : Entry1) → ImagesAlong done W B H V X
    → IsBefore (done ++ H) V X e → Next V e U → ReadsAfter X e Y → ImagesAlong done W B (H ++ e ∷ []) U Y
images-append [] done W V U B X Y e same before next after =
    subst₂ (λ (Q : World) (Z : Image). ImagesAlong done Q Z (e ∷ []) U Y) same.0 same.1 (
      subst (λ (L : List Entry1). IsBefore L V X e) (append-nil done) before,
      (U, Y, next, after, (refl, refl)),
    )
images-append (x ∷ H) done W V U B X Y e along before next after =
    let (first, more) = along in
    let (Q, Z, goes, reads, rest) = more in (
      first,
      (
        Q,
        Z,
        goes,
        reads,
        images-append H (done ++ x ∷ []) Q V U Z X Y e rest
            (subst (λ (L : List Entry1). IsBefore L V X e) (sym (append_assoc done (x ∷ []) H)) before) next after,
      ),
    )

-- what the machine claims has no owner
pub claims-unowned : (d : DiskState) (k : Books) (H : List Entry1) (p : Past) (V : World) (e : Entry1)
    → IsOpen d k H p ⊎ IsStopped d k H p → Next p.world e V → ClaimsUnowned d.now e
claims-unowned d k H p V e (inl o) next x has =
    open-unowned d k H p x.block o ((next-free p.world V e next).blocks x has)
claims-unowned d k H p V e (inr s) next x has =
    absurd (none-claimed x (subst (λ (c : Claims). Contains (claimed_blocks c) x)
    (stopped-none p.world V e s.world_stopped next) has))

-- The machine's files and owners

pub of-open : (d : DiskState) (k : Books) (H : List Entry1) (p : Past) → IsOpen d k H p → IsOfImage p.world d.now
of-open d k H p o = record {
  numbers = record {
    version = o.says.version ∙ ap (λ (q : SuperBlock). q.version) (sym o.at);
    blocks = o.says.blocks ∙ ap (λ (q : SuperBlock). q.blocks) (sym o.at);
    inodes = o.says.inodes ∙ ap (λ (q : SuperBlock). q.inodes) (sym o.at);
    mount = o.says.mount ∙ ap (λ (q : SuperBlock). q.mount) (sym o.at);
  };
  files = open-files d k H p o;
  homes = o.homes;
}

of-same : (W V : World) (X Y : Image) → Keeps W V → Y ≡ X → IsOfImage W X → IsOfImage V Y
of-same W V X Y keeps same i = record {
  numbers = record {
    version = keeps.version ∙ i.numbers.version ∙ ap (λ (Z : Image). (super_at Z).version) (sym same);
    blocks = keeps.blocks ∙ i.numbers.blocks ∙ ap (λ (Z : Image). (super_at Z).blocks) (sym same);
    inodes = keeps.inodes ∙ i.numbers.inodes ∙ ap (λ (Z : Image). (super_at Z).inodes) (sym same);
    mount = keeps.mount ∙ i.numbers.mount ∙ ap (λ (Z : Image). (super_at Z).mount) (sym same);
  };
  files = subst₂ (λ (F : Files) (Z : Image). FilesMatch F Z) (sym keeps.files) (sym same) i.files;
  homes = λ b low. (λ j. keeps.homes j b) ∙ i.homes b (let q = keeps.blocks in omega (arith, low, q))
      ∙ ap (λ (Z : Image). owner Z b) (sym same);
}

-- a fault of writing keeps files and homes
keeps-fault : (W V : World) (e : Entry1) → W.stopped ≡ false → V.stopped ≡ true → Next W e V → Keeps W V
keeps-fault W V e going stopped (AfterFault a b c d) = absurd (cc (a, going))
keeps-fault W V e going stopped (ByRow why a b c d f g h) = f
keeps-fault W V e going stopped (Done a b c d f g h i j) = absurd (let z = i.4 in cc (z, stopped))
keeps-fault W V e going stopped (ByRead a b c d f g h) = f
keeps-fault W V e going stopped (ByWrite a b c d f g h i) = g

-- and nothing follows it
stays-stopped : (W V : World) (e : Entry1) → W.stopped ≡ true → Next W e V → V ≡ W
stays-stopped W V e t (AfterFault a b c d) = d
stays-stopped W V e t (ByRow why a b c d f g h) = absurd (cc (t, a))
stays-stopped W V e t (Done a b c d f g h i j) = absurd (cc (t, a))
stays-stopped W V e t (ByRead a b c d f g h) = absurd (cc (t, a))
stays-stopped W V e t (ByWrite a b c d f g h i) = absurd (cc (t, a))

-- a Flush writes no cell
flush-now : (old new : DiskState) (k : Books) (i g : ℕ) (c : Claims) (r : Reply)
    → NoOrder old new (MeetsOpen old k) (step.Flush i g) c r → new.now ≡ old.now
flush-now old new k i g c r (LeavesDisk none cells dirty) = cells.now
flush-now old new k i g c r (FlushesAlone is late f) = f.now
flush-now old new k i g c r (WritesAlone made w) = absurd w.count

only-first : (H : List Entry1) (e : Entry1) → OnlyFlushesFailed (H ++ e ∷ []) → OnlyFlushesFailed H
only-first [] e only = tt
only-first (x ∷ H) e only = (only.0, only-first H e only.1)

only-last : (H : List Entry1) (e : Entry1) → OnlyFlushesFailed (H ++ e ∷ []) → is_write_fault e.reply ≡ true
    → (i : ℕ) × (g : ℕ) × (e.step ≡ step.Flush i g)
only-last [] e only = only.0
only-last (x ∷ H) e only = only-last H e only.1

-- with one entry more
module _ (old new : DiskState) (k l : Books) (H : List Entry1) (p q : Past) (s : Step) (c : Claims) (r : Reply)
    (caller : ℕ) (g : IsSafeStep old k new l r) (order : NoOrder old new (MeetsOpen old k) s c r)
    (mem : is_out_of_memory r ≡ false) where
  abbrev e : Entry1
  e = entry caller old new s c r

  pub of-more : Next p.world e q.world → IsOpen old k H p ⊎ IsStopped old k H p
      → IsOpen new l (H ++ e ∷ []) q ⊎ IsStopped new l (H ++ e ∷ []) q
      → (OnlyFlushesFailed H → IsOfImage p.world old.now)
      → OnlyFlushesFailed (H ++ e ∷ []) → IsOfImage q.world new.now
  of-more next was (inl o) before only = of-open new l (H ++ e ∷ []) q o
  of-more next (inl o) (inr t) before only =
      let fault = g.cause.stops o.going t.stopped in
      let flush = only-last H e only (ap is_write_fault fault) in
      let now = flush-now old new k flush.0 flush.1 c r
      (subst (λ (x : Step). NoOrder old new (MeetsOpen old k) x c r) flush.2 order) in
      of-same p.world q.world old.now new.now
      (keeps-fault p.world q.world e (o.says.stopped ∙ o.going) t.world_stopped next) now (of-open old k H p o)
  of-more next (inr u) (inr t) before only =
      let stopped = g.cause.stopped u.stopped mem in
      let cells = g.cause.refused (ap is_refused stopped) (ap is_write_fault stopped) in
      subst₂ (λ (W : World) (X : Image). IsOfImage W X) (sym (stays-stopped p.world q.world e u.world_stopped next))
      (sym cells.now) (before (only-first H e only))
