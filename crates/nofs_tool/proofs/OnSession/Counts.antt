-- Where all is known, the counts of the machine are those of the full scan of the disk.
use Rattle.std.proofs.Common.{◌≡◌, ◌≢◌, ◌⊎◌, Option, Some, None, Result, Ok, Err, ℕ, zero, suc, ◌+◌, ◌<◌, Bool, true}
use Rattle.std.proofs.Common.{false}
use Rattle.std.proofs.Common.{◌&&◌, ◌||◌, cond, not, List, [], ◌∷◌, length, drop, slice_get, map, refl, inl, inr}
use Rattle.std.proofs.Common.{sym, ap, ◌∙◌, subst, subst₂, arith}
use Rattle.std.specs.Prelude.{IfOk, IfSome, slice_set}
use Rattle.std.specs.Result.{result_ok}
use Rattle.std.proofs.Math.Logic.{∥∥₁_elim, ∥∥₁_prop}
use Rattle.nofs_disk.specs.Disk.{DiskState}
use Rattle.nofs_super.specs.Format.{super_cell}
use Rattle.nofs_super.specs.Raise.{raised}
use Rattle.nofs_super.specs.declared.superblock.SuperBlock.{SuperBlock}
use Rattle.nofs_model.specs.Geometry.{Image, super_at}
use Rattle.nofs_model.specs.Owners.{is_used_block, is_used_inode}
use Rattle.nofs_history.specs.Search.{count_below}
use Rattle.nofs_history.specs.HistoryState.{HistoryState}
use Rattle.nofs_history.specs.History.{NoWriteFault}
use Rattle.nofs_history.specs.Machine.{is_write_fault}
use Rattle.nofs_history.specs.Next.{Run}
use Rattle.nofs_history.specs.World.{World, uses_block, uses_inode, world_of}
use Rattle.nofs_io.specs.Calls.{SinkState}
use Rattle.nofs_io.specs.Texts.{AppendsAll}
use Rattle.nofs_history.specs.declared.machine.history.Entry1.{Entry1}
use Rattle.nofs_client.specs.declared.task.commands.Command.{Command}
use Rattle.nofs_client.specs.declared.task.lines.Line.{Line}
use Rattle.nofs_state.specs.Books.Maps.{Says}
use Rattle.nofs_state.specs.Books.Counts.{CountsBlocks, CountsInodes}
use Rattle.nofs_state.specs.declared.books.maps.Books.{Books}
use Rattle.nofs_state.specs.declared.books.maps.Counts.{Counts}
use Rattle.nofs_shared.specs.Mount.Invariant.{IsMount}
use Rattle.nofs_state.proofs.OnBooks.Counts.{count-same}
use Rattle.nofs_tool.specs.Session.Counts.{CountsDisk, CountsMachine, IsCounted, IsScanText, IsScanned, SaysCounts}
use Rattle.nofs_tool.specs.Session.Counts.{counts_line, has_write_fault}
use Rattle.nofs_tool.specs.Runs.Says.{Prints}
use Rattle.nofs_history.specs.Faults.{has_fault, is_fault}
use Rattle.nofs_tool.specs.Session.Serve.{IsSessionRun}
use Rattle.nofs_tool.specs.Session.Whole.{IsMet, IsWholeScan, ShowsDisk, found_world}
use Rattle.nofs_tool.proofs.OnRuns.Said.{told-text}
use Rattle.nofs_tool.proofs.OnSession.Known.{no-fault}
use Rattle.nofs_tool.proofs.OnSession.Whole.{not-write, open-still, open-unwritten, shows-past, whole-scan}

count-none : (P : ℕ → Bool) (n : ℕ) → ((m : ℕ) → m < n → P m ≡ false) → count_below P n ≡ 0
unfolding count_below
count-none P zero none = refl
count-none P (suc n) none = (λ j. cond (none n (omega arith) j) (1 + count_below P n) (count_below P n))
    ∙ count-none P n (λ m lt. none m (omega (arith, lt)))

known-is : (a b c : Bool) → a ≡ true → b ≡ c → (a && b) ≡ c
known-is true b c e f = f
known-is false b c e f = absurd (cc e)

pub world-counted : (at : SuperBlock) (W : World) (X : Image) (c : Counts) → CountsInodes W c → CountsBlocks W c
    → ShowsDisk at W X → IsWholeScan W X
    → CountsDisk X c
world-counted at W X c i b shows whole =
    let inodes : W.inodes ≡ (super_at X).inodes =
    shows.inodes ∙ sym (ap (λ (s : SuperBlock). s.inodes) shows.numbers) in
    let blocks : W.blocks ≡ (super_at X).blocks =
    shows.blocks ∙ sym (ap (λ (s : SuperBlock). s.blocks) shows.numbers) in
    let used : (n : ℕ) → uses_inode W (suc n) ≡ is_used_inode X (suc n) = λ n. shows.used_inodes (suc n) in
    let known : (n : ℕ) → n < W.inodes → W.known_inodes (suc n) ≡ true =
    λ n low. whole.known_inodes (suc n) (omega arith) (omega (arith, low, inodes)) in
    let block_used : (p : ℕ) → p < W.blocks → uses_block W p ≡ is_used_block X p =
    λ p low. whole.used_blocks p (omega (arith, low, blocks)) in
    let block_known : (p : ℕ) → p < W.blocks → W.known_blocks p ≡ true =
    λ p low. whole.known_blocks p (omega (arith, low, blocks)) in
    record {
      inodes_used = i.used
          ∙ (count-same (λ n. W.known_inodes (suc n) && uses_inode W (suc n)) (λ n. is_used_inode X (suc n)) W.inodes
          (λ n low. known-is _ _ _ (known n low) (used n)) ∙ ap (count_below (λ n. is_used_inode X (suc n))) inodes);
      inodes_free = i.free ∙ (count-same (λ n. W.known_inodes (suc n) && not (uses_inode W (suc n)))
          (λ n. not (is_used_inode X (suc n))) W.inodes
          (λ n low. known-is _ _ _ (known n low) (ap not (used n)))
          ∙ ap (count_below (λ n. not (is_used_inode X (suc n)))) inodes);
      inodes_unchecked =
          i.unchecked ∙ count-none (λ n. not (W.known_inodes (suc n))) W.inodes (λ n low. ap not (known n low));
      blocks_used = b.used ∙ (count-same (λ p. W.known_blocks p && uses_block W p) (λ p. is_used_block X p) W.blocks
          (λ p low. known-is _ _ _ (block_known p low) (block_used p low))
          ∙ ap (count_below (λ p. is_used_block X p)) blocks);
      blocks_free =
          b.free ∙ (count-same (λ p. W.known_blocks p && not (uses_block W p)) (λ p. not (is_used_block X p)) W.blocks
          (λ p low. known-is _ _ _ (block_known p low) (ap not (block_used p low)))
          ∙ ap (count_below (λ p. not (is_used_block X p))) blocks);
      blocks_unchecked =
          b.unchecked ∙ count-none (λ p. not (W.known_blocks p)) W.blocks (λ p low. ap not (block_known p low));
    }

-- the counts of a mount at its end
pub scan-counted : (found before d : DiskState) (first first_before : ℕ) (k_before k : Books)
    (lines : List (List Line)) (c : Counts)
    → ∥ IsMount found before first_before k_before ∥₁ → ∥ IsMount found d first k ∥₁
    → IsSessionRun [] k_before.at.inodes k_before.at.blocks false lines k.history.entries
    → ((W : World) → Says k W → CountsInodes W c × CountsBlocks W c)
    → ∥ (IsMet found → has_fault k.history.entries ≡ false → CountsDisk d.now c) ∥₁
scan-counted found before d first first_before k_before k lines c stood stands run counts =
    ∥∥₁_elim stood ∥∥₁_prop (λ b. ∥∥₁_elim stands ∥∥₁_prop (λ m. ∣ (λ q ok.
    let s = m.stands q in
    let o = open-still found d first k m s.past ok s.now in
    let shows = shows-past found d first k m q ok in
    let same : k_before.at ≡ raised (super_at found.now) = (b.stands q).raised in
    let run_at = subst (λ (a : SuperBlock). IsSessionRun [] a.inodes a.blocks false lines k.history.entries) same run in
    let whole = whole-scan [] (raised (super_at found.now))
    lines k.history.entries k.history.start s.past.first s.past.base s.past.world d.now run_at o.run.run ok shows in
    let n = counts s.past.world o.says in
    world-counted (raised (super_at found.now)) s.past.world d.now c n.0 n.1 shows whole) ∣₁))

-- the counts of a mount are those of the machine's world, where no write failed
pub machine-counted : (found d : DiskState) (first : ℕ) (k : Books) (c : Counts) → first ≡ 0
    → ∥ IsMount found d first k ∥₁ → ((W : World) → Says k W → CountsInodes W c × CountsBlocks W c)
    → ∥ (IsMet found → NoWriteFault k.history.entries → CountsMachine found k.history c) ∥₁
machine-counted found d first k c none_before stands counts = ∥∥₁_elim stands ∥∥₁_prop (λ m. ∣ (λ q none.
    let s = m.stands q in
    let o = open-unwritten found d first k m s.past none s.now in
    let n = counts s.past.world o.says in
    let base : s.past.base ≡ slice_set found.now 0 (super_cell (raised (super_at found.now))) =
    s.base ∙ (m.mounted.base ∙ ap (λ (a : SuperBlock). slice_set found.now 0 (super_cell a)) s.raised) in
    let begins : world_of s.past.base s.past.first ≡ found_world found =
    λ j. world_of (base j) ((s.serial ∙ none_before) j) in
    record {
      world = s.past.world;
      run = subst (λ (W : World). Run k.history.start W k.history.entries s.past.world) begins o.run.run;
      inodes = n.0;
      blocks = n.1;
    }) ∣₁)

-- whether a write failed in an entry or in those behind it, by the first
pub write-fault-at : (es : List Entry1) (at : ℕ) (e : Entry1) → slice_get es at ≡ Some e
    → has_write_fault (drop at es) ≡ (is_write_fault e.reply || has_write_fault (drop (at + 1) es))
write-fault-at [] at e is = absurd (cc is)
write-fault-at (x ∷ es) zero e is =
    let same : x ≡ e = cc is in ap (λ (y : Entry1). is_write_fault y.reply || has_write_fault es) same
write-fault-at (x ∷ es) (suc at) e is =
    let s : suc at + 1 ≡ suc (at + 1) = omega arith in rw s (write-fault-at es at e is)

-- there is an entry below their number
pub is-there : (es : List Entry1) (at : ℕ) → at < length es → slice_get es at ≡ None → ⊥
is-there [] at lt is = omega (arith, lt)
is-there (x ∷ es) zero lt is = cc is
is-there (x ∷ es) (suc at) lt is = is-there es at (omega (arith, lt)) is

-- one entry more was looked at
pub found-more : (all rest found this : Bool) (after : Bool) → all ≡ (found || rest) → rest ≡ (this || after)
    → all ≡ ((found || this) || after)
found-more all rest true this after is next = is
found-more all rest false this after is next = is ∙ next

-- where no call of the device failed, no write did
pub none-unwritten : (es : List Entry1) → has_fault es ≡ false → has_write_fault es ≡ false
none-unwritten [] ok = refl
none-unwritten (e ∷ es) ok =
    let none = no-fault (is_fault e.reply) (has_fault es) ok in
    rw (not-write e.reply none.0) (none-unwritten es none.1)

-- no write failed, entry by entry
pub all-written : (es : List Entry1) → has_write_fault es ≡ false → NoWriteFault es
all-written [] none = tt
all-written (e ∷ es) none = let parts = neither (is_write_fault e.reply) (has_write_fault es) none in
    (parts.0, all-written es parts.1)
  where
    neither : (a b : Bool) → (a || b) ≡ false → (a ≡ false) × (b ≡ false)
    neither true b is = absurd (cc is)
    neither false b is = (refl, is)

-- the line of counts is the text of a scan in which no write failed
pub counts-text : {E : Type 0} (entries : List Entry1) (c : Counts) (made : Result (List ℕ) E)
    → has_write_fault entries ≡ false → IfOk made (λ t. t ≡ counts_line c)
    → IfOk made (IsScanText entries (λ x. x ≡ c))
counts-text entries c (Ok t) none is = inl (all-written entries none, (c, is, refl))
counts-text entries c (Err e) none is = tt

-- what is known of the counts of a scan's text
pub scan-text-known : (entries : List Entry1) (P T : Counts → Type 0) (text : List ℕ) → ((c : Counts) → P c → T c)
    → IsScanText entries P text → IsScanText entries T text
scan-text-known entries P T text more (inl (none, counted)) =
    inl (none, (counted.0, counted.1, more counted.0 counted.2))
scan-text-known entries P T text more (inr silent) = inr silent

-- the text of the counts that were taken, and what is known of them
pub counts-told : {E : Type 0} (T : Counts → Type 0) (entries last : List Entry1) (made : Result (List ℕ) E)
    (text : Option (List ℕ)) (c : Counts)
    → text ≡ result_ok made → last ≡ entries
    → IfOk made (IsScanText entries (λ x. x ≡ c)) → T c → IfSome text (IsScanText last T)
counts-told T entries last (Ok t) text c is same line known =
    subst₂ (λ (o : Option (List ℕ)) (es : List Entry1). IfSome o (IsScanText es T)) (sym is) (sym same)
    (scan-text-known entries (λ x. x ≡ c) T t (λ x e. subst T (sym e) known) line)
counts-told T entries last (Err e) text c is same line known =
    subst (λ (o : Option (List ℕ)). IfSome o (IsScanText last T)) (sym is) tt

-- a scan that was told
pub scan-done : (found last : DiskState) (text : Option (List ℕ)) (ran : HistoryState) (h : Option HistoryState)
    (old new : SinkState) → h ≡ Some ran
    → has_fault ran.entries ≡ false → text ≢ None → IfSome text (AppendsAll old new)
    → IfSome text (IsScanText ran.entries (IsCounted found last ran))
    → IsScanned found last h old new
scan-done found last None ran h old new some ok is a b = absurd (is refl)
scan-done found last (Some t) ran h old new some ok is a (inl (none, told)) =
    let (c, line, counts) = told in
    subst (λ (o : Option HistoryState). IsScanned found last o old new) (sym some)
    (ok, (c, subst (AppendsAll old new) line a, ∥∥₁_elim counts.disk ∥∥₁_prop (λ f. ∣ (λ q. f q ok) ∣₁)))
scan-done found last (Some t) ran h old new some ok is a (inr silent) =
    absurd (let none = none-unwritten ran.entries ok in let failed = silent.0 in cc (none, failed))

-- its line was told, in part where the run did not end well
pub scan-said : (found last : DiskState) (text : Option (List ℕ)) (ran : HistoryState) (h : Option HistoryState)
    (status : ℕ) (old new : SinkState)
    → h ≡ Some ran → (text ≡ None → status ≡ 7) → IfSome text (Prints old new)
    → IfSome text (IsScanText ran.entries (IsCounted found last ran))
    → (status ≡ 3) ⊎ (status ≡ 5) → SaysCounts found last h old new
scan-said found last text ran h status old new some unsaid says told =
    told-text old new (IsScanText ran.entries (IsCounted found last ran))
    (λ x. (t : List ℕ) × IsScanText x.entries (IsCounted found last x) t × Prints old new t) text ran h status some
    unsaid says told (λ t has said. (t, has, said))

-- a run of no users
pub none-run : {W : Type 0} (ws : List W) (f : W → List Command) (inodes blocks : ℕ) (out : Bool)
    (lines : List (List Line)) (H : List Entry1) → ws ≡ []
    → IsSessionRun (map f ws) inodes blocks out lines H → IsSessionRun [] inodes blocks out lines H
none-run {W} ws f inodes blocks out lines H none run =
    subst (λ (l : List W). IsSessionRun (map f l) inodes blocks out lines H) none run
