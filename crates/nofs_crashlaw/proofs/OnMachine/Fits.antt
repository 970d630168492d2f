-- What the machine answers fits the step.
use Rattle.std.proofs.Common.{◌≡◌, ℕ, zero, suc, ◌+◌, ◌-◌, ◌*◌, ◌/◌, ◌<◌, ◌≤◌, ◌⊎◌, inl, inr, Bool, true, false, cond}
use Rattle.std.proofs.Common.{ltb, leb, ◌&&◌, not, List, []}
use Rattle.std.proofs.Common.{length, Option, Some, None, unwrap_or, refl, sym, subst, arith, All, IsTrue}
use Rattle.std.proofs.Common.{length-append}
use Rattle.std.proofs.lemmas.List.Elements.{All-nil, All-cons, All-append}
use Rattle.nofs_disk.specs.Number.{number_at}
use Rattle.nofs_dirent.specs.Entries.{entry_of, entry_fields, has_zeros_after, entry_limit}
use Rattle.nofs_dirent.specs.Names.{is_name}
use Rattle.nofs_inode.specs.declared.inode.BackLink.{BackLink}
use Rattle.nofs_dirent.specs.declared.entry.Entry.{Entry}
use Rattle.nofs_model.specs.Files.{Files, FileState, entry_at, entry_in_file, entry_held, is_folder}
use Rattle.nofs_model.specs.declared.image.value.Value.{Value}
use Rattle.nofs_model.specs.declared.image.value.Value.TheVariants.{Hole, Bytes, Lost}
use Rattle.nofs_history.specs.Search.{count_below, least_from, first_of}
use Rattle.nofs_history.specs.Machine.{link_to, generation_of, value_of, is_lost, is_hole, found}
use Rattle.nofs_history.specs.Steps.{InRange, Fits}
use Rattle.nofs_history.specs.World.{World, next_inode}
use Rattle.nofs_history.specs.Refusals.{row, rows}
use Rattle.nofs_history.specs.Answers.{line_of, lines_from, lines_in_slot, listed_reply, got_reply, found_file}
use Rattle.nofs_history.specs.Answers.{found_entry, found_reply, dropped_entry, dropped_reply, stat_file, reply_of}
use Rattle.nofs_history.specs.Next.{Next, AfterFault, ByRow, Done, ByRead, ByWrite}
use Rattle.nofs_history.specs.declared.machine.history.Entry1.{Entry1}
use Rattle.nofs_history.specs.declared.machine.history.Claims.{Claims}
use Rattle.nofs_history.specs.declared.machine.steps.Step.{Step}
use Rattle.nofs_history.specs.declared.machine.steps.Step.TheVariants as step
use Rattle.nofs_history.specs.declared.machine.replies.NameLine.{NameLine}
use Rattle.nofs_history.specs.declared.machine.replies.Reply.{Reply}
use Rattle.nofs_history.specs.declared.machine.replies.Reply.TheVariants as reply
use Rattle.nofs_history.specs.declared.machine.replies.Refusal.{Refusal}
use Rattle.nofs_history.specs.declared.machine.replies.Refusal.TheVariants as refusal
use Rattle.nofs_crashlaw.specs.Machine.Laws.{IsSizedWorld, LawFits}
use Rattle.nofs_history.proofs.Rows.{Such, IsNamed, first-such, rows-named}

-- Numbers below a bound

count-most : (test : ℕ → Bool) (n : ℕ) → count_below test n ≤ n
unfolding count_below
count-most test zero = omega arith
count-most test (suc n) = go (test n) (count-most test n)
  where
    go : (b : Bool) → count_below test n ≤ n → cond b (1 + count_below test n) (count_below test n) ≤ suc n
    go true le = omega (arith, le)
    go false le = omega (arith, le)

least-below : (test : ℕ → Bool) (at n k : ℕ) → least_from test at n ≡ Some k → k < at + n
unfolding least_from
least-below test at zero k e = absurd (cc e)
least-below test at (suc n) k e = go (test at) (least-below test (suc at) n k) e
  where
    go : (b : Bool) → (least_from test (suc at) n ≡ Some k → k < suc at + n)
        → cond b (Some at) (least_from test (suc at) n) ≡ Some k → k < at + suc n
    go true ih e = let same : at ≡ k = cc e in omega (arith, same)
    go false ih e = let lt = ih e in omega (arith, lt)

next-most : (W : World) → next_inode W ≤ W.inodes
next-most W = go (least_from (λ i. not (W.known_inodes i)) 1 W.inodes) refl
  where
    go : (o : Option ℕ) → least_from (λ i. not (W.known_inodes i)) 1 W.inodes ≡ o → unwrap_or o 0 ≤ W.inodes
    go None e = omega arith
    go (Some k) e = let lt = least-below (λ i. not (W.known_inodes i)) 1 W.inodes k e in omega (arith, lt)

-- The numbers of a refusal

module _ (V : World) (blocks : V.blocks ≤ 1048576) (inodes : V.inodes ≤ 65536) where
  ranged : (why : Refusal) → IsNamed V why → InRange why
  ranged (refusal.Full needed free unverified next) n = let c = count-most (λ p. not (V.known_blocks p)) V.blocks in
      omega (arith, c, blocks, n)
  ranged (refusal.InodesFull unverified next) n =
      let c = count-most (λ i. not (V.known_inodes (suc i))) V.inodes in
      let m = next-most V in
      let a = n.0 in
      let b = n.1 in
      (omega (arith, c, inodes, a), omega (arith, m, inodes, b))
  ranged _ n = tt

-- The lines of a directory's slot

at-least : (test : ℕ → Bool) (at n k : ℕ) → least_from test at n ≡ Some k → at ≤ k
unfolding least_from
at-least test at zero k e = absurd (cc e)
at-least test at (suc n) k e = go (test at) (at-least test (suc at) n k) e
  where
    go : (b : Bool) → (least_from test (suc at) n ≡ Some k → suc at ≤ k)
        → cond b (Some at) (least_from test (suc at) n) ≡ Some k → at ≤ k
    go true ih e = let same : at ≡ k = cc e in omega (arith, same)
    go false ih e = let le = ih e in omega (arith, le)

-- an entry that bytes spell has a good name
spelled-name : (bytes : List ℕ) (entry : Entry) → entry_of bytes ≡ Some entry → is_name entry.name ≡ true
unfolding entry_of
spelled-name bytes entry e = go (has_zeros_after bytes (number_at 4 4 bytes)) (leb 1 (entry_fields bytes).inode)
    (leb 1 (entry_fields bytes).generation)
    (is_name (entry_fields bytes).name) refl e
  where
    go : (a b c d : Bool) → is_name (entry_fields bytes).name ≡ d
        → cond (a && (b && (c && d))) (Some (entry_fields bytes)) None ≡ Some entry
        → is_name entry.name ≡ true
    go true true true true is e = let same : entry_fields bytes ≡ entry = cc e in
        subst (λ (x : Entry). is_name x.name ≡ true) same is
    go true true true false is e = absurd (cc e)
    go true true false d is e = absurd (cc e)
    go true false c d is e = absurd (cc e)
    go false b c d is e = absurd (cc e)

held-name : (v : Value) (e : ℕ) (entry : Entry) → entry_held v e ≡ Some entry → is_name entry.name ≡ true
held-name Hole e entry h = absurd (cc h)
held-name (Bytes content) e entry h = spelled-name _ entry h
held-name Lost e entry h = absurd (cc h)

file-name : (o : Option FileState) (e : ℕ) (entry : Entry) → entry_in_file o e ≡ Some entry → is_name entry.name ≡ true
file-name None e entry h = absurd (cc h)
file-name (Some f) e entry h = go (is_folder f.kind && ltb e entry_limit) h
  where
    go : (b : Bool) → cond b (entry_held (f.values (e / 16)) e) None ≡ Some entry → is_name entry.name ≡ true
    go true h = held-name (f.values (e / 16)) e entry h
    go false h = absurd (cc h)

abbrev Named : NameLine → Type 0
Named line = IsTrue (is_name line.name)

line-named : (F : Files) (d e : ℕ) (o : Option Entry) → entry_at F d e ≡ o → All Named (line_of F d e o)
    × (length (line_of F d e o) ≤ 1)
line-named F d e None h = (All-nil Named, omega arith)
line-named F d e (Some entry) h = (All-cons Named _ [] (file-name (F d) e entry h) (All-nil Named), omega arith)

lines-named : (F : Files) (d e n : ℕ) → All Named (lines_from F d e n) × (length (lines_from F d e n) ≤ n)
lines-named F d e zero = (All-nil Named, omega arith)
lines-named F d e (suc n) =
    let one = line-named F d e (entry_at F d e) refl in
    let rest = lines-named F d (suc e) n in
    let l = one.1 in
    let m = rest.1 in
    let both = length-append (line_of F d e (entry_at F d e)) (lines_from F d (suc e) n) in (
      All-append Named (line_of F d e (entry_at F d e)) (lines_from F d (suc e) n) one.0 rest.0,
      omega (arith, l, m, both),
    )

listed-fits : (F : Files) (d g k : ℕ) (o : Option ℕ) → ((l : ℕ) → o ≡ Some l → l < 72)
    → Fits (step.List d g k) (listed_reply F d o)
unfolding lines_in_slot
listed-fits F d g k None range = tt
listed-fits F d g k (Some l) range = go (is_lost (value_of F d l))
  where
    go : (b : Bool) → Fits (step.List d g k) (cond b (reply.LostNames l) (reply.Names l (lines_from F d (16 * l) 16)))
    go true = range l refl
    go false = let n = lines-named F d (16 * l) 16 in (range l refl, (n.1, n.0))

-- The answers

module _ (W : World) (sized : IsSizedWorld W) where
  found-fits : (d g : ℕ) (name : List ℕ) (o : Option ℕ) → Fits (step.Look d g name) (found_reply W.files d o)
  found-fits d g name None = tt
  found-fits d g name (Some e) = entry (entry_at W.files d e)
    where
      file : (i : ℕ) (o : Option FileState) → Fits (step.Look d g name) (found_file i o)
      file i None = tt
      file i (Some f) = tt

      entry : (o : Option Entry) → Fits (step.Look d g name) (found_entry W.files o)
      entry None = tt
      entry (Some x) = file x.inode (W.files x.inode)

  dropped-fits : (d g : ℕ) (name : List ℕ) (o : Option ℕ) → Fits (step.Drop d g name) (dropped_reply W.files d o)
  dropped-fits d g name None = tt
  dropped-fits d g name (Some e) = entry (link_to d e (generation_of W.files d)) (entry_at W.files d e)
    where
      entry : (link : BackLink) (o : Option Entry) → Fits (step.Drop d g name) (dropped_entry W.files link o)
      entry link None = tt
      entry link (Some x) = tt

  got-fits : (i g k : ℕ) (v : Value) → value_of W.files i k ≡ v → Fits (step.Get i g k) (got_reply v)
  got-fits i g k Hole e = tt
  got-fits i g k (Bytes content) e = sized.values i k content e
  got-fits i g k Lost e = tt

  stat-fits : (i g : ℕ) (o : Option FileState) → Fits (step.Stat i g) (stat_file W.files i o)
  stat-fits i g None = tt
  stat-fits i g (Some f) = tt

  answer-fits : (s : Step) (c : Claims) → Fits s (reply_of W s c)
  answer-fits (step.Look d g name) c = found-fits d g name (found W.files d name)
  answer-fits (step.Make d g name kind) c = tt
  answer-fits (step.Link d g name i of) c = tt
  answer-fits (step.Drop d g name) c = dropped-fits d g name (found W.files d name)
  answer-fits (step.Rename d g old new) c = tt
  answer-fits (step.List d g k) c =
      let test : ℕ → Bool = λ l. not (is_hole (value_of W.files d l)) in
      listed-fits W.files d g k (least_from test k (72 - k))
      (λ l e. let lt = least-below test k (72 - k) l e in let le = at-least test k (72 - k) l e in
      omega (arith, lt, le))
  answer-fits (step.Get i g k) c = got-fits i g k (value_of W.files i k) refl
  answer-fits (step.Put i g k at bytes) c = tt
  answer-fits (step.Resize i g size) c = tt
  answer-fits (step.Stat i g) c = stat-fits i g (W.files i)
  answer-fits (step.Flush i g) c = tt
  answer-fits (step.SeeInode i) c = tt
  answer-fits (step.SeeBlock p) c = tt

  refused-fits : (s : Step) (why : Refusal) → InRange why → Fits s (reply.Refused why)
  refused-fits s why r = r

  by-row : (V : World) (s : Step) (r : Reply) (why : Refusal)
      → V.blocks ≡ W.blocks → V.inodes ≡ W.inodes → first_of (rows W V s) ≡ Some why
      → (r ≡ reply.Refused why) ⊎ (r ≡ reply.Refused refusal.ReadFault) → Fits s r
  by-row V s r why eb ei comes (inr e) = subst (λ (q : Reply). Fits s q) (sym e) (refused-fits s refusal.ReadFault tt)
  by-row V s r why eb ei comes (inl e) =
      let b = sized.blocks in
      let i = sized.inodes in
      let in_range : InRange why =
      ranged V (omega (arith, b, eb)) (omega (arith, i, ei)) why (subst (Such (IsNamed V)) comes
      (first-such (IsNamed V) (rows W V s) (rows-named W V s))) in
      subst (λ (q : Reply). Fits s q) (sym e) (refused-fits s why in_range)

  next-fits : (e : Entry1) (V : World) → Next W e V → Fits e.step e.reply
  next-fits e V (AfterFault s r c v) =
      subst (λ (q : Reply). Fits e.step q) (sym r) (refused-fits e.step refusal.Stopped tt)
  next-fits e V (ByRow why s row (inl r) c k t l) = by-row V e.step e.reply why k.blocks k.inodes row (inl r)
  next-fits e V (ByRow why s row (inr r) c k t l) = by-row V e.step e.reply why k.blocks k.inodes row (inr r.0)
  next-fits e V (Done s row r c fs hs se vs l) =
      subst (λ (q : Reply). Fits e.step q) (sym r) (answer-fits e.step e.claims)
  next-fits e V (ByRead s row r c k t l) =
      subst (λ (q : Reply). Fits e.step q) (sym r) (refused-fits e.step refusal.ReadFault tt)
  next-fits e V (ByWrite s row m r c k t l) =
      subst (λ (q : Reply). Fits e.step q) (sym r) (refused-fits e.step refusal.WriteFault tt)

pub law-fits : LawFits
law-fits W e V sized next = next-fits W sized e V next
