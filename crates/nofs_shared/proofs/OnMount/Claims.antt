-- What a step claims has no owner on the disk before it.
use Rattle.std.proofs.Common.{◌≡◌, ℕ, Bool, true, false, ◌&&◌, ◌||◌, not, List, [], ◌∷◌, ◌++◌, length, length-append}
use Rattle.std.proofs.Common.{Contains, Option, Some, None, is_some}
use Rattle.std.proofs.Common.{IsTrue, ◌⊎◌, inl, inr, refl, sym, ap, ◌∙◌, subst, arith}
use Rattle.std.proofs.lemmas.Bool.{cases_lt}
use Rattle.nofs_disk.specs.Disk.{DiskState}
use Rattle.nofs_disk.specs.declared.tag.Pointer.{Pointer}
use Rattle.nofs_super.specs.declared.superblock.SuperBlock.{SuperBlock}
use Rattle.nofs_model.specs.Geometry.{Image}
use Rattle.nofs_model.specs.Owners.{Home, owner}
use Rattle.nofs_history.specs.Machine.{is_write_fault}
use Rattle.nofs_history.specs.World.{World, is_free_block, is_fixed}
use Rattle.nofs_history.specs.Claims.{claimed_blocks, no_claims}
use Rattle.nofs_history.specs.Next.{Next, AfterFault, ByRow, Done, ByRead, ByWrite}
use Rattle.nofs_history.specs.Steps.{is_out_of_memory}
use Rattle.nofs_history.specs.declared.machine.history.Claims.{Claims}
use Rattle.nofs_history.specs.declared.machine.history.Entry1.{Entry1}
use Rattle.nofs_history.specs.declared.machine.steps.Step.{Step}
use Rattle.nofs_history.specs.declared.machine.replies.Reply.{Reply}
use Rattle.nofs_state.specs.Cores.Invariant.{IsOpen, IsStopped, Past}
use Rattle.nofs_state.specs.Cores.Steps.{Follows, Goes, entry}
use Rattle.nofs_state.specs.declared.books.maps.Books.{Books}
use Rattle.nofs_state.proofs.OnCores.Beginning.{owner-beyond}
use Rattle.nofs_shared.specs.Mount.Entries.{Unowned}
use Rattle.nofs_shared.specs.Mount.Invariant.{IsMount, IsSoundDisk, MountStands}
use Rattle.nofs_shared.proofs.OnMount.End.{next-free}

no-home : (W : World) (p : ℕ) → is_free_block W p ≡ true → W.homes p ≡ None
no-home W p free = go (W.known_blocks p) (is_fixed W p) (W.homes p) free
  where
    go : (a b : Bool) (o : Option Home) → (a && not (b || is_some o)) ≡ true → o ≡ None
    go a b None e = refl
    go true true (Some h) e = cc
    go true false (Some h) e = cc
    go false b (Some h) e = cc

pub open-unowned : (d : DiskState) (k : Books) (H : List Entry1) (p : Past) (b : ℕ) → IsOpen d k H p
    → is_free_block p.world b ≡ true → owner d.now b ≡ None
open-unowned d k H p b o free = elim (cases_lt b p.world.blocks) [
  | inl low ↦ sym (o.homes b low) ∙ no-home p.world b free
  | inr past ↦ owner-beyond d.now b
      (let e = ap (λ (q : SuperBlock). q.blocks) o.at in let s = o.says.blocks in omega (arith, past, e, s))
]

pub stopped-none : (W V : World) (e : Entry1) → W.stopped ≡ true → Next W e V → e.claims ≡ no_claims
stopped-none W V e t (AfterFault a b c d) = c
stopped-none W V e t (ByRow why a b c d f g h) = d
stopped-none W V e t (Done a b c d f g h i j) = absurd (cc (t, a))
stopped-none W V e t (ByRead a b c d f g h) = d
stopped-none W V e t (ByWrite a b c d f g h i) = absurd (cc (t, a))

pub none-claimed : (x : Pointer) → Contains (claimed_blocks no_claims) x → ⊥
none-claimed x has = let low = has.1 in omega (arith, low)

last-is : (H : List Entry1) (e f : Entry1) → H ++ e ∷ [] ≡ H ++ f ∷ [] → e ≡ f
last-is [] e f q = cc q
last-is (h ∷ H) e f q = last-is H e f (cc q)

-- where nothing was added
pub unowned-none : (X : Image) (H K : List Entry1) → K ≡ H → Unowned X H K
unowned-none X H K same e is x has =
    absurd (let a = ap length same in let b = ap length is in omega (arith, a, b, length-append H (e ∷ [])))

pub unowned-kept : (X : Image) (k l : Books) → l.history ≡ k.history → Unowned X k.history.entries l.history.entries
unowned-kept X k l same = unowned-none X k.history.entries l.history.entries (ap (λ h. h.entries) same)

-- what claims nothing claims no block that has an owner
pub unowned-unclaimed : (X : Image) (H K : List Entry1) (f : Entry1) → f.claims ≡ no_claims → K ≡ H ++ f ∷ []
    → Unowned X H K
unowned-unclaimed X H K f none all e is x has = absurd (none-claimed x
    (subst (λ (c : Claims). Contains (claimed_blocks c) x)
    (ap (λ (g : Entry1). g.claims) (last-is H e f (sym is ∙ all)) ∙ none)
    has))

pub unowned-more : (found old new : DiskState) (first : ℕ) (k l : Books) (s : Step) (c : Claims) (r : Reply)
    (caller : ℕ) → Goes old k new l s c r
    → IsMount found old first k → is_out_of_memory r ≡ false → IsSoundDisk found
    → (K : List Entry1) → K ≡ k.history.entries ++ entry caller old new s c r ∷ [] → Unowned old.now k.history.entries K
unowned-more found old new first k l s c r caller g m mem q K all e is x has = go st.past st.now
  where
    this : Entry1
    this = entry caller old new s c r

    st : MountStands found old first k
    st = m.stands q

    here : Contains (claimed_blocks c) x
    here = subst (λ (f : Entry1). Contains (claimed_blocks f.claims) x)
        (last-is k.history.entries e this (sym is ∙ all)) has

    go : (p : Past) → IsOpen old k k.history.entries p ⊎ IsStopped old k k.history.entries p
        → owner old.now x.block ≡ None
    go p (inl o) = by (is_write_fault r) refl
      where
        f : Follows old new l k.history.entries p this
        f = g.from_open (subst (λ (b : Bool). IsTrue b) (sym m.disk.tells) q.tells) caller k.history.entries p o

        by : (b : Bool) → is_write_fault r ≡ b → owner old.now x.block ≡ None
        by true eb = let t = f.fault eb in
            open-unowned old k k.history.entries p x.block o ((next-free p.world t.0.world this t.1.next).blocks x here)
        by false eb = let t = f.done mem eb in
            open-unowned old k k.history.entries p x.block o ((next-free p.world t.0.world this t.1.next).blocks x here)
    go p (inr o) = absurd (none-claimed x (subst (λ (d : Claims). Contains (claimed_blocks d) x)
        (stopped-none p.world p.world this o.world_stopped
        ((g.from_stopped (subst (λ (b : Bool). IsTrue b) (sym m.disk.tells) q.tells)
        caller k.history.entries p o).next mem)) here))
