-- Every step that the machine accepts keeps the bounds without which what it gives is no cell or no file.
use Rattle.std.proofs.Common.{◌≡◌, ℕ, ◌+◌, ◌<◌, ◌≤◌, inl, inr, Bool, true, false, ◌&&◌, ◌||◌, not, cond, eqb, ltb, leb}
use Rattle.std.proofs.Common.{List, [], ◌∷◌, length, Option, Some}
use Rattle.std.proofs.Common.{None, refl, sym, ap, ◌∙◌, subst, arith}
use Rattle.nofs_ptrs.specs.Paths.{slot_limit}
use Rattle.nofs_dirent.specs.Names.{is_name}
use Rattle.nofs_history.specs.Search.{first_of}
use Rattle.nofs_history.specs.Machine.{is_write_fault, may_give}
use Rattle.nofs_history.specs.World.{World}
use Rattle.nofs_history.specs.Refusals.{row, rows, slots}
use Rattle.nofs_history.specs.Claims.{IsClaim, IsInodeClaim, ClaimedInode, next_stamp}
use Rattle.nofs_history.specs.Next.{Next, AfterFault, ByRow, Done, ByRead, ByWrite, Run}
use Rattle.nofs_history.proofs.Faultless.{FaultFree, NoFault, first-free, rows-free}
use Rattle.nofs_history.specs.Accepted.Fit.{is_fit, AreFit}
use Rattle.nofs_history.specs.declared.machine.history.Claims.{Claims}
use Rattle.nofs_history.specs.declared.machine.history.Entry1.{Entry1}
use Rattle.nofs_history.specs.declared.machine.steps.Step.{Step}
use Rattle.nofs_history.specs.declared.machine.steps.Step.TheVariants as step
use Rattle.nofs_history.specs.declared.machine.replies.Reply.{Reply}
use Rattle.nofs_history.specs.declared.machine.replies.Reply.TheVariants as reply
use Rattle.nofs_history.specs.declared.machine.replies.Refusal.{Refusal}
use Rattle.nofs_history.specs.declared.machine.replies.Refusal.TheVariants as refusal

-- No row is a fault of writing

row-faultless : (W V : World) (s : Step) (why : Refusal) → first_of (rows W V s) ≡ Some why
    → is_write_fault (reply.Refused why) ≡ false
row-faultless W V s why row = sound why (subst FaultFree row (first-free (rows W V s) (rows-free W V s)))
  where
    sound : (by : Refusal) → NoFault by → is_write_fault (reply.Refused by) ≡ false
    sound refusal.WriteFault free = absurd (cc free)
    sound _ free = refl

-- Where no row comes

none-first : (o : Option Refusal) (os : List (Option Refusal)) → first_of (o ∷ os) ≡ None → (o ≡ None)
    × (first_of os ≡ None)
none-first None os e = (refl, e)
none-first (Some why) os e = absurd (cc e)

untested : (t : Bool) (why : Refusal) → row t why ≡ None → t ≡ false
untested true why e = absurd (cc e)
untested false why e = refl

or-first : (a b : Bool) → (a || b) ≡ false → a ≡ false
or-first false b e = refl
or-first true b e = absurd (cc e)

and-both : (a b : Bool) → (a && b) ≡ true → (a ≡ true) × (b ≡ true)
and-both true b e = (refl, e)
and-both false b e = absurd (cc e)

not-false : (b : Bool) → not b ≡ false → b ≡ true
not-false true e = refl
not-false false e = absurd (cc e)

name-short : (name : List ℕ) → is_name name ≡ true → leb (length name) 48 ≡ true
unfolding is_name
name-short name e = (and-both _ _ (and-both _ _ e).1).0

good-name : (name : List ℕ) (os : List (Option Refusal))
    → first_of (row (not (is_name name)) refusal.BadName ∷ os) ≡ None → leb (length name) 48 ≡ true
good-name name os e = name-short name (not-false (is_name name) (untested (not (is_name name)) refusal.BadName
    (none-first (row (not (is_name name)) refusal.BadName) os e).0))

claimed-inode : (W : World) (g : ℕ) (c : Claims) (b : Bool) → b ≡ true → IsInodeClaim W g c b → ltb 0 c.inode ≡ true
claimed-inode W g c true e (ClaimedInode free some most generation) = grind (arith, some)
claimed-inode W g c false e n = absurd (cc e)

slots-most : (W : World) → slots W ≤ slot_limit
slots-most W = go (eqb W.version 1)
  where
    go : (b : Bool) → cond b 72 slot_limit ≤ slot_limit
    go true = omega arith
    go false = omega arith

above-most : (k m : ℕ) → leb m k ≡ false → m ≤ slot_limit → ltb k slot_limit ≡ true
above-most k m e le = let lt : k < m = grind (arith, e) in let less : k < slot_limit = omega (arith, lt, le) in
    grind (arith, less)

at-most : (a n : ℕ) → ltb a n ≡ false → leb n a ≡ true
at-most a n e = grind (arith, e)

pub rows-fit : (W V : World) (s : Step) (c : Claims) → first_of (rows W V s) ≡ None → IsClaim W s c → is_fit s c ≡ true
rows-fit W V (step.Put i g k at bytes) c none claim =
    let first = none-first (row (ltb 1024 (at + length bytes) || eqb (length bytes) 0) refusal.BadRange) _ none in
    let second = none-first (row (leb (slots W) k) refusal.TooLarge) _ first.1 in
    let range = or-first (ltb 1024 (at + length bytes)) (eqb (length bytes) 0) (untested _ refusal.BadRange first.0) in
    let slot = untested (leb (slots W) k) refusal.TooLarge second.0 in
    let most = slots-most W in
    let a : ltb k slot_limit ≡ true = above-most k (slots W) slot most in
    let b : leb (at + length bytes) 1024 ≡ true = at-most 1024 (at + length bytes) range in
    rw (a, b) refl
rows-fit W V (step.Make d g name kind) c none claim =
    let a = good-name name _ none in
    let b = claimed-inode W (next_stamp W) c (ltb 0 1) refl claim.inode in
    rw (a, b) refl
rows-fit W V (step.Link d g name i of) c none claim = good-name name _ none
rows-fit W V (step.Rename d g old new) c none claim =
    good-name new _ (none-first (row (not (is_name old)) refusal.BadName) _ none).1
rows-fit W V (step.Look d g name) c none claim = refl
rows-fit W V (step.Drop d g name) c none claim = refl
rows-fit W V (step.List d g k) c none claim = refl
rows-fit W V (step.Get i g k) c none claim = refl
rows-fit W V (step.Resize i g size) c none claim = refl
rows-fit W V (step.Stat i g) c none claim = refl
rows-fit W V (step.Flush i g) c none claim = refl
rows-fit W V (step.SeeInode i) c none claim = refl
rows-fit W V (step.SeeBlock p) c none claim = refl

-- a refusal that gives nothing
silent : (r : Reply) (why : Refusal) → r ≡ reply.Refused why
    → is_write_fault (reply.Refused why) ≡ false → may_give r ≡ true → ⊥
silent r why is sound gives = let e : may_give (reply.Refused why) ≡ true = sym (ap may_give is) ∙ gives in
    absurd (cc (sound, e))

next-fit : (W : World) (e : Entry1) (V : World) → Next W e V → may_give e.reply ≡ true → is_fit e.step e.claims ≡ true
next-fit W e V (AfterFault s r c v) gives = absurd (silent e.reply refusal.Stopped r refl gives)
next-fit W e V (ByRow why s row (inl r) c k t l) gives =
    absurd (silent e.reply why r (row-faultless W V e.step why row) gives)
next-fit W e V (ByRow why s row (inr r) c k t l) gives = absurd (silent e.reply refusal.ReadFault r.0 refl gives)
next-fit W e V (Done s row r c fs hs se vs l) gives = rows-fit W V e.step e.claims row c
next-fit W e V (ByRead s row r c k t l) gives = absurd (silent e.reply refusal.ReadFault r refl gives)
next-fit W e V (ByWrite s row m r c k t l) gives = rows-fit W V e.step e.claims row c

-- the entries of a run
pub run-fit : (es : List Entry1) (start : ℕ) (W V : World) → Run start W es V → AreFit es
run-fit [] start W V run = tt
run-fit (e ∷ es) start W V (U, from, le, time, next, rest) = (next-fit W e U next, run-fit es e.to U V rest)
