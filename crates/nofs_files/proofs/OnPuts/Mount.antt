-- A Put at any depth that is done, or that failed at a write: the mount stands.
use Rattle.std.proofs.Common.{◌≡◌, ℕ, ◌+◌, ◌-◌, ◌<◌, ◌≤◌, inl, inr, Bool, true, false, cond}
use Rattle.std.proofs.Common.{◌&&◌, ◌||◌, not, [], ◌∷◌, ◌++◌, Option, Some, None, is_some}
use Rattle.std.proofs.Common.{Ok, refl, sym, ap, ◌∙◌, subst, arith}
use Rattle.nofs_agree.specs.Chain.{known_agreement}
use Rattle.nofs_disk.specs.Disk.{cell_at}
use Rattle.nofs_disk.specs.Adds.{Adds}
use Rattle.nofs_bits.specs.Bits.{is_set}
use Rattle.nofs_disk.specs.declared.tag.Pointer.{Pointer}
use Rattle.nofs_super.specs.declared.superblock.SuperBlock.{SuperBlock}
use Rattle.nofs_model.specs.Geometry.{Image}
use Rattle.nofs_model.specs.Files.{is_special}
use Rattle.nofs_model.specs.Owners.{Home}
use Rattle.nofs_crashlaw.specs.Images.Proper.{Proper}
use Rattle.nofs_crashlaw.specs.Images.Moments.{during}
use Rattle.nofs_history.specs.Steady.{SteadyRest}
use Rattle.nofs_history.specs.Search.{first_of}
use Rattle.nofs_history.specs.Machine.{Given, gives, given_by, put_given, files_after}
use Rattle.nofs_history.specs.World.{World, is_fixed, uses_inode, uses_block}
use Rattle.nofs_history.specs.Claims.{claimed_home, next_stamp, has_block, homes_after}
use Rattle.nofs_history.specs.Refusals.{rows}
use Rattle.nofs_history.specs.History.{FilesMatch}
use Rattle.nofs_history.specs.Since.{agreed_files, files_along}
use Rattle.nofs_history.specs.Next.{Learns}
use Rattle.nofs_history.specs.declared.machine.history.Entry1.{Entry1}
use Rattle.nofs_history.specs.declared.machine.steps.Step.TheVariants as step
use Rattle.nofs_history.specs.declared.machine.replies.Reply.TheVariants as reply
use Rattle.nofs_crashlaw.specs.Maps.Homes.{HomesMove}
use Rattle.nofs_crashlaw.specs.Maps.Moves.{IsClaimed}
use Rattle.nofs_crashlaw.specs.Maps.Fresh.{Numbered, CellNumbers}
use Rattle.nofs_crashlaw.proofs.OnMaps.Homes.{uses-inode}
use Rattle.nofs_crashlaw.proofs.OnFiles.Puts.{law-put-homes, as-before}
use Rattle.nofs_crashlaw.proofs.OnNumbers.Files.{listed}
use Rattle.nofs_crashlaw.specs.Histories.Stage.{AddsProper}
use Rattle.nofs_state.specs.Books.Maps.{Says, knows_block, knows_inode}
use Rattle.nofs_state.specs.declared.books.maps.Books.{Books}
use Rattle.nofs_disk.specs.Order.{OneOf}
use Rattle.nofs_state.specs.Writes.Cells.{WritesAll}
use Rattle.nofs_state.proofs.OnCores.Done.{IsDone, Adds-map, after_world}
use Rattle.nofs_state.proofs.OnWrites.Numbered.{AddsNumbered}
use Rattle.nofs_state.proofs.OnCores.Replies.{home-has}
use Rattle.nofs_state.proofs.OnWrites.Tables.{table_block}
use Rattle.nofs_files.proofs.OnPuts.Unchanged.{put-keeps-block}
use Rattle.nofs_files.proofs.OnPuts.ClaimParts.{put-home}
use Rattle.nofs_files.proofs.OnPuts.Ways.{way_writes}
use Rattle.nofs_files.proofs.OnPuts.Image.{after, mark_of}
use Rattle.nofs_files.proofs.OnPuts.Proper.{ProperShown}

module _ (shown : ProperShown) where
  open shown use {climb, old, new, k, l, H, p, i, g, slot, at, bytes, m, way, places, cells, c, c2, o, needs, claim}
  open shown use {takes, match, own, file, generation, size, claims_free, super_stays, lies, placed, files, numbers}
  open shown use {same_given, proper, rest}

  abbrev X : Image
  X = old.now

  abbrev Y : Image
  Y = after climb

  -- The maps

  abbrev V : World
  V = after_world p.world (step.Put i g slot at bytes) c l

  uses-inode-same : (j : ℕ)
      → is_some (files_after p.world.files (put_given p.world.files i g slot at bytes) j) ≡ is_some (p.world.files j)
  uses-inode-same j = uses-inode (files_after p.world.files (put_given p.world.files i g slot at bytes)) Y files j
      ∙ as-before p.world.files X Y i g slot at bytes own.file (next_stamp p.world) places lies j
      ∙ sym (uses-inode p.world.files X match j)

  V-inode : (j : ℕ) → uses_inode V j ≡ uses_inode p.world j
  unfolding gives
  V-inode j = ap (λ (t : Bool). is_special j || t) (uses-inode-same j)

  homes-other : (n : ℕ) → claimed_home p.world.files (step.Put i g slot at bytes) c n ≡ None
      → homes_after p.world (step.Put i g slot at bytes) c
      (files_after p.world.files (put_given p.world.files i g slot at bytes)) n ≡ p.world.homes n
  homes-other n none = rw (none, homes_after) (go (p.world.homes n) refl)
    where
      go : (q : Option Home) → p.world.homes n ≡ q → (elim q as (λ (_ : Option Home). Option Home) [
        | None ↦ None
        | Some home ↦ cond (has_block (files_after p.world.files (put_given p.world.files i g slot at bytes)) home)
            (Some home) None
      ]) ≡ q
      go None e = refl
      go (Some home) e = rw (put-keeps-block p.world.files i g slot at bytes own.file own.is generation file home
          (home-has p.world X match o.homes o.homes_past n home e)) refl

  V-other : (n : ℕ)
      → claimed_home p.world.files (step.Put i g slot at bytes) c n ≡ None → uses_block V n ≡ uses_block p.world n
  unfolding gives
  V-other n none = ap (λ (q : Option Home). is_fixed p.world n || is_some q) (homes-other n none)

  homes-here : (n : ℕ) → is_some (claimed_home p.world.files (step.Put i g slot at bytes) c n) ≡ true
      → is_some (homes_after p.world (step.Put i g slot at bytes) c
      (files_after p.world.files (put_given p.world.files i g slot at bytes)) n) ≡ true
  homes-here n some = go (claimed_home p.world.files (step.Put i g slot at bytes) c n) refl some
    where
      go : (q : Option Home) → claimed_home p.world.files (step.Put i g slot at bytes) c n ≡ q → is_some q ≡ true
          → is_some (homes_after p.world (step.Put i g slot at bytes) c
          (files_after p.world.files (put_given p.world.files i g slot at bytes)) n) ≡ true
      go None e t = cc t
      go (Some home) e t = rw (e, homes_after) refl

  V-here : (n : ℕ)
      → is_some (claimed_home p.world.files (step.Put i g slot at bytes) c n) ≡ true → uses_block V n ≡ true
  unfolding gives
  V-here n some = ap (λ (t : Bool). is_fixed p.world n || t) (homes-here n some) ∙ or-true (is_fixed p.world n)
    where
      or-true : (t : Bool) → (t || true) ≡ true
      or-true true = refl
      or-true false = refl

  known-here : (x : Pointer) → IsClaimed c x → knows_block k x.block ≡ true
  known-here x q = sym (o.says.known_blocks x.block) ∙ claims_free.block_known x (listed c x q)

  -- the books know what they knew
  l-inode : (j : ℕ) → knows_inode l j ≡ knows_inode k j
  l-inode j = ap (λ (b : Books). knows_inode b j) takes.same

  l-block : (n : ℕ) → knows_block l n ≡ knows_block k n
  l-block n = ap (λ (b : Books). knows_block b n) takes.same

  learns : Learns p.world (step.Put i g slot at bytes) true V
  learns = record {
    inodes_stay = λ j kn. l-inode j ∙ sym (o.says.known_inodes j) ∙ kn;
    blocks_stay = λ n kn. l-block n ∙ sym (o.says.known_blocks n) ∙ kn;
    inodes_change = λ j ne. absurd (ne (V-inode j));
    blocks_change = λ n ne. elim (put-home p.world.files i g slot at bytes c n) [
      | inl (x, q, e, some) ↦ l-block n ∙ subst (λ (b : ℕ). knows_block k b ≡ true) (sym e) (known-here x q)
      | inr (none, home) ↦ absurd (ne (V-other n home))
    ];
    inode_seen = λ t j e. absurd (no e);
    block_seen = λ t q e. absurd (no e);
    inodes_why = λ j kn. inl (o.says.known_inodes j ∙ sym (l-inode j) ∙ kn);
    blocks_why = λ n kn. inl (o.says.known_blocks n ∙ sym (l-block n) ∙ kn);
  }
    where
      no : false ≡ true → ⊥
      no e = cc

  l-at : l.at ≡ k.at
  l-at = ap (λ (b : Books). b.at) takes.same

  says : Says l V
  unfolding gives
  says = record {
    version = o.says.version ∙ ap (λ (q : SuperBlock). q.version) (sym l-at);
    blocks = o.says.blocks ∙ ap (λ (q : SuperBlock). q.blocks) (sym l-at);
    inodes = o.says.inodes ∙ ap (λ (q : SuperBlock). q.inodes) (sym l-at);
    mount = o.says.mount ∙ ap (λ (q : SuperBlock). q.mount) (sym l-at);
    serial = (let n = needs in let q = o.says.serial in let e = ap (λ (b : Books). b.serial) takes.same in
        omega (arith, n, q, e));
    stopped = o.says.stopped ∙ ap (λ (b : Books). b.stopped) (sym takes.same);
    known_inodes = λ j. refl;
    known_blocks = λ n. refl;
    free_inodes = λ j a d. ap (λ (b : Books). is_set b.free_inodes (j - 1)) takes.same
        ∙ o.says.free_inodes j a (subst (λ (q : SuperBlock). j ≤ q.inodes) l-at d)
        ∙ (λ q. (o.says.known_inodes j ∙ sym (l-inode j)) q && not (sym (V-inode j) q));
    free_blocks = λ n lt. elim (put-home p.world.files i g slot at bytes c n) [
      | inl (x, q, e, some) ↦ subst (λ (b : ℕ). is_set l.free_blocks b ≡ false) (sym e) (takes.here x q)
          ∙ sym (ap (λ (t : Bool). knows_block l n && not t) (V-here n some) ∙ and-false (knows_block l n))
      | inr (none, home) ↦ takes.other n none ∙ o.says.free_blocks n (subst (λ (q : SuperBlock). n < q.blocks) l-at lt)
          ∙ (λ q. (o.says.known_blocks n ∙ sym (l-block n)) q && not (sym (V-other n home) q))
    ];
    agreement = λ j a t. uses-inode-same j
        ∙ o.says.agreement j a (ap (λ (b : Books). known_agreement b.agreement j) (sym takes.same) ∙ t);
  }
    where
      and-false : (t : Bool) → (t && false) ≡ false
      and-false true = refl
      and-false false = refl

  pub climb-done : WritesAll old new (way_writes places cells (table_block i, c2) m way) (Ok tt)
      → ((U : World) → first_of (rows p.world U (step.Put i g slot at bytes)) ≡ None)
      → IsDone old new k l H p (step.Put i g slot at bytes) c reply.Stored
      (way_writes places cells (table_block i, c2) m way)
  unfolding gives
  climb-done writes none = record {
    adds = writes.adds;
    later = writes.later;
    proper = λ e es ec ge n cell one. subst (λ (G : Given). Proper (during (mark_of climb) G) X n cell)
        (same_given ∙ sym ge)
        (proper n cell one);
    numbers = numbers;
    super = ap (λ (Z : Image). cell_at Z 0) writes.now ∙ super_stays;
    size = writes.adds.disk.blocks;
    none = none V;
    answer = refl;
    accepted = refl;
    no_flush = refl;
    claim = claim;
    learns = learns;
    files = subst (λ (Z : Image). FilesMatch (files_after p.world.files (put_given p.world.files i g slot at bytes)) Z)
        (sym writes.now) files;
    move = subst (λ (Z : Image). HomesMove p.world.files (step.Put i g slot at bytes) c X Z) (sym writes.now)
        (law-put-homes p.world X Y i g slot at bytes own.file (next_stamp p.world) places c lies claim placed);
    rest = λ e es ec ge. subst (λ (Z : Image). SteadyRest p.base (H ++ e ∷ []) Z) (sym writes.now) (rest e ge);
    says = says;
    books_at = l-at;
    history = ap (λ (b : Books). b.history) takes.same;
    going = ap (λ (b : Books). b.stopped) takes.same ∙ o.going;
  }

  -- whichever write failed
  pub climb-numbered : Adds (OneOf (way_writes places cells (table_block i, c2) m way)) old new
      → AddsNumbered p.world c old new
  climb-numbered = Adds-map (OneOf (way_writes places cells (table_block i, c2) m way))
      (λ n cell. CellNumbers (Numbered p.world c) X n cell) old new numbers

  pub climb-proper : (e : Entry1) → given_by (files_along (agreed_files p.base) H) e
      ≡ put_given (files_along (agreed_files p.base) H) i g slot at bytes
      → Adds (OneOf (way_writes places cells (table_block i, c2) m way)) old new
      → AddsProper p.base H e p.mark p.stamps old new
  climb-proper e ge adds = Adds-map (OneOf (way_writes places cells (table_block i, c2) m way))
      (Proper (during (mark_of climb) (given_by (files_along (agreed_files p.base) H) e)) old.now) old new
      (λ n cell one. subst (λ (G : Given). Proper (during (mark_of climb) G) X n cell) (same_given ∙ sym ge)
      (proper n cell one)) adds
