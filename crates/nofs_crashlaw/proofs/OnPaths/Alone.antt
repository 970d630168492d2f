-- A move without another entry between its own is one of which the laws speak.
use Rattle.std.proofs.Common.{◌≡◌, ◌≢◌, ℕ, suc, ◌+◌, ◌/◌, ◌<◌, ◌≤◌, Bool, true, false, eqb, not, List, [], ◌∷◌, ◌++◌}
use Rattle.std.proofs.Common.{length, Option, Some, None, is_some, refl, sym, ap, ◌∙◌, subst, arith, eqb-true, eq-eqb}
use Rattle.std.specs.Prelude.{slice_get}
use Rattle.nofs_inode.specs.declared.inode.FileKind.{FileKind}
use Rattle.nofs_dirent.specs.declared.entry.Entry.{Entry}
use Rattle.nofs_model.specs.Geometry.{Image}
use Rattle.nofs_model.specs.Files.{Files, entry_at}
use Rattle.nofs_history.specs.Search.{first_of}
use Rattle.nofs_history.specs.Machine.{Given, nothing, found, place_for, given_by, is_refused}
use Rattle.nofs_history.specs.World.{World}
use Rattle.nofs_history.specs.Refusals.{rows, directory_full}
use Rattle.nofs_history.specs.Answers.{found_entry, found_reply, reply_of}
use Rattle.nofs_history.specs.Next.{Next}
use Rattle.nofs_history.specs.declared.machine.history.Entry1.{Entry1}
use Rattle.nofs_history.specs.declared.machine.steps.Step.{Step}
use Rattle.nofs_history.specs.declared.machine.steps.Step.TheVariants as step
use Rattle.nofs_history.specs.declared.machine.replies.Reply.{Reply}
use Rattle.nofs_history.specs.declared.machine.replies.Reply.TheVariants as reply
use Rattle.nofs_history.specs.declared.machine.replies.Refusal.TheVariants as refusal
use Rattle.nofs_crashlaw.specs.Runs.Laws.{files_before}
use Rattle.nofs_crashlaw.proofs.OnRuns.Acts.{accepted-acts, flush-gives}
use Rattle.nofs_crashlaw.proofs.OnRuns.Gives.{none-at, row-none}
use Rattle.nofs_crashlaw.proofs.OnRuns.Chains.{SaneRun, moment-at}
use Rattle.nofs_crashlaw.proofs.OnRuns.Base.{sane-run}
use Rattle.nofs_crashlaw.specs.Paths.Moves.{KeepsEntry, IsMove, HasDrop, IsAlone, LawAlone}

-- An entry behind a front

behind : (xs ys : List Entry1) (k : ℕ) → slice_get (xs ++ ys) (length xs + k) ≡ slice_get ys k
behind [] ys k = let e : 0 + k ≡ k = omega arith in ap (slice_get ys) e
behind (x ∷ xs) ys k = let e : length (x ∷ xs) + k ≡ suc (length xs + k) = omega arith in
    ap (slice_get (x ∷ xs ++ ys)) e ∙ behind xs ys k

-- A flush gives nothing

flush-keeps : (W V : World) (e : Entry1) → Next W e V
    → e.reply ≡ reply.Flushed → (d g p : ℕ) (entry : Entry) → KeepsEntry (given_by W.files e) d g p entry
flush-keeps W V e next er d g p entry v h =
    let a = accepted-acts W V e next (ap is_refused er) in
    let none : given_by W.files e ≡ nothing = a.3 ∙ flush-gives W e.step e.claims (sym a.2 ∙ er) in
    let z : (given_by W.files e).slots d g (p / 16) ≡ None = ap (λ (x : Given). x.slots d g (p / 16)) none in
    absurd (cc (z, h))

-- The places of both names

pub record Places (F : Files) (d : ℕ) (name : List ℕ) : Type 0 where
  pub place : ℕ
  pub entry : Entry
  pub finds : found F d name ≡ Some place
  pub there : entry_at F d place ≡ Some entry

pub look-places : (W V : World) (e : Entry1) (d dg i g : ℕ) (name : List ℕ) (kind : FileKind) → Next W e V
    → e.step ≡ step.Look d dg name
    → e.reply ≡ reply.Found (record { inode = i; generation = g; kind = kind }) → Places W.files d name
look-places W V e d dg i g name kind next es er =
    let a = accepted-acts W V e next (ap is_refused er) in
    let answer : found_reply W.files d (found W.files d name)
    ≡ reply.Found (record { inode = i; generation = g; kind = kind }) =
    sym (ap (λ (s : Step). reply_of W s e.claims) es) ∙ sym a.2 ∙ er in
    go (found W.files d name) refl answer
  where
    refused : (r : Reply)
        → is_refused r ≡ true → r ≡ reply.Found (record { inode = i; generation = g; kind = kind }) → ⊥
    refused r t h = let z : is_refused r ≡ false = ap is_refused h in cc (t, z)

    by : (p : ℕ) → found W.files d name ≡ Some p → (o : Option Entry) → entry_at W.files d p ≡ o
        → found_entry W.files o ≡ reply.Found (record { inode = i; generation = g; kind = kind })
        → Places W.files d name
    by p ep None eo h = absurd (refused (found_entry W.files None) refl h)
    by p ep (Some x) eo h = record { place = p; entry = x; finds = ep; there = eo }

    go : (o : Option ℕ) → found W.files d name ≡ o
        → found_reply W.files d o ≡ reply.Found (record { inode = i; generation = g; kind = kind })
        → Places W.files d name
    go None ep h = absurd (refused (found_reply W.files d None) refl h)
    go (Some p) ep h = by p ep (entry_at W.files d p) refl h

pub link-place-is : (W V : World) (e : Entry1) (d dg i g : ℕ) (name : List ℕ) → Next W e V
    → e.step ≡ step.Link d dg name i g → e.reply ≡ reply.Linked
    → (p : ℕ) × (place_for W.files d name ≡ Some p)
link-place-is W V e d dg i g name next es er =
    let a = accepted-acts W V e next (ap is_refused er) in
    let r : first_of (rows W V (step.Link d dg name i g)) ≡ None =
    subst (λ (s : Step). first_of (rows W V s) ≡ None) es a.0 in
    go (place_for W.files d name) refl (row-none (not (is_some (place_for W.files d name))) refusal.DirectoryFull
    (none-at (rows W V (step.Link d dg name i g)) r 7 (directory_full W d name) refl))
  where
    go : (o : Option ℕ) → place_for W.files d name ≡ o → not (is_some (place_for W.files d name)) ≡ false → (p : ℕ)
        × (place_for W.files d name ≡ Some p)
    go None eo h = absurd (cc (rw eo at h))
    go (Some p) eo h = (p, eo)

module _ (B : Image) (H : List Entry1) (r : SaneRun B H) (d dg : ℕ) (name : List ℕ) (d2 dg2 : ℕ) (new : List ℕ)
    (i g : ℕ) (kind : FileKind)
    (a : IsAlone H d dg name d2 dg2 new i g kind) where
  at : (k : ℕ) → slice_get H (length a.before + k) ≡ slice_get (a.look ∷ a.first ∷ a.link ∷ a.second ∷ a.drop ∷ []) k
  at k = ap (λ (es : List Entry1). slice_get es (length a.before + k)) a.parts
      ∙ behind a.before (a.look ∷ a.first ∷ a.link ∷ a.second ∷ a.drop ∷ []) k

  old : Places (files_before B H (length a.before + 0)) d name
  old =
      let m = moment-at B H r (length a.before + 0) a.look (at 0) in
      subst (λ (F : Files). Places F d name) m.files
      (look-places m.before m.after a.look d dg i g name kind m.next a.looks a.finds)

  fresh : (p : ℕ) × (place_for (files_before B H (length a.before + 2)) d2 new ≡ Some p)
  fresh =
      let m = moment-at B H r (length a.before + 2) a.link (at 2) in
      let k = link-place-is m.before m.after a.link d2 dg2 i g new m.next a.links a.linked in
      (k.0, subst (λ (F : Files). place_for F d2 new ≡ Some k.0) m.files k.1)

  -- the other entries are the two flushes
  flush-at : (p : ℕ) (e : Entry1) → slice_get H p ≡ Some e → e.reply ≡ reply.Flushed → (x y z : ℕ) (entry : Entry)
      → KeepsEntry (given_by (files_before B H p) e) x y z entry
  flush-at p e there er x y z entry =
      let m = moment-at B H r p e there in
      subst (λ (F : Files). KeepsEntry (given_by F e) x y z entry) m.files
      (flush-keeps m.before m.after e m.next er x y z entry)

  others : (p : ℕ) (e : Entry1)
      → length a.before + 0 < p → p ≤ length a.before + 4 → p ≢ length a.before + 2 → p ≢ length a.before + 4
      → slice_get H p ≡ Some e → e.reply ≡ reply.Flushed
  others p e low high ne nd there = go (eqb p (length a.before + 1)) refl
    where
      same : (k : ℕ) (h : Entry1)
          → p ≡ length a.before + k → slice_get (a.look ∷ a.first ∷ a.link ∷ a.second ∷ a.drop ∷ []) k ≡ Some h → e ≡ h
      same k h q s = let z : slice_get H p ≡ Some h = ap (slice_get H) q ∙ at k ∙ s in cc (there, z)

      go : (b : Bool) → eqb p (length a.before + 1) ≡ b → e.reply ≡ reply.Flushed
      go true q = ap (λ (h : Entry1). h.reply) (same 1 a.first (eqb-true p (length a.before + 1) q) refl) ∙ a.flushes
      go false q =
          let no_first : p ≢ length a.before + 1 = λ h. let z = eq-eqb p (length a.before + 1) h in cc (q, z) in
          let third : p ≡ length a.before + 3 = omega (arith, low, high, ne, nd, no_first) in
          ap (λ (h : Entry1). h.reply) (same 3 a.second third refl) ∙ a.flushes_again

  pub alone-move : (move : IsMove B H d dg name d2 dg2 new i g) × HasDrop H move.link move.drop d dg name
      × (slice_get H move.last ≡ Some a.drop)
  alone-move = (
    record {
      look = length a.before + 0;
      flush = length a.before + 1;
      link = length a.before + 2;
      drop = length a.before + 4;
      last = length a.before + 4;
      flush_after = omega arith;
      link_after = omega arith;
      link_by_last = omega arith;
      looked = record { entry = a.look; there = at 0; is = a.looks };
      kind = kind;
      finds = a.finds;
      flushed = record { entry = a.first; there = at 1; flushed = a.flushes };
      linking = record { entry = a.link; there = at 2; is = a.links };
      linked = a.linked;
      old_place = old.place;
      old_entry = old.entry;
      is_old = old.finds;
      is_entry = old.there;
      new_place = fresh.0;
      is_new = fresh.1;
      old_stays = λ p e low high ne before there. flush-at p e there
          (others p e low high ne (λ h. omega (arith, h, before)) there) d dg old.place old.entry;
      new_stays = λ p e low high nd there. flush-at p e there
          (others p e (omega (arith, low)) high (λ h. omega (arith, h, low)) nd there) d2 dg2 fresh.0
          (record { inode = i; generation = g; name = new });
    },
    record {
      second = length a.before + 3;
      after_link = omega arith;
      before_drop = omega arith;
      flushed =
          record { entry = a.second; there = at 3; flushed = a.flushes_again };
      dropping = record { entry = a.drop; there = at 4; is = a.drops };
    },
    at 4,
  )

pub law-alone : LawAlone
law-alone B H d dg name d2 dg2 new i g kind history alone =
    alone-move B H.entries (sane-run B H history) d dg name d2 dg2 new i g kind alone
