-- What an entry of a run was answered, and what it gives.
use Rattle.std.proofs.Common.{◌≡◌, ℕ, ◌/◌, ◌-◌, Bool, true, false, cond, not, ◌||◌, List, Option, Some, None, refl, sym}
use Rattle.std.proofs.Common.{ap, ◌∙◌, subst}
use Rattle.nofs_inode.specs.declared.inode.BackLink.{BackLink}
use Rattle.nofs_dirent.specs.declared.entry.Entry.{Entry}
use Rattle.nofs_model.specs.Files.{Files, FileState, entry_at}
use Rattle.nofs_model.specs.declared.image.value.Value.{Value}
use Rattle.nofs_model.specs.declared.image.value.Value.TheVariants.{Hole, Bytes, Lost}
use Rattle.nofs_history.specs.Search.{least_from}
use Rattle.nofs_history.specs.Machine.{Given, nothing, gives, found, given_by, is_refused, is_write_fault, may_give}
use Rattle.nofs_history.specs.Machine.{generation_of, link_to, value_of, is_hole, is_lost}
use Rattle.nofs_history.specs.Answers.{found_file, found_entry, found_reply, dropped_entry, dropped_reply}
use Rattle.nofs_history.specs.Answers.{lines_in_slot, listed_reply, got_reply, stat_file, reply_of}
use Rattle.nofs_history.specs.World.{World}
use Rattle.nofs_history.specs.Next.{Next}
use Rattle.nofs_history.specs.declared.machine.history.Claims.{Claims}
use Rattle.nofs_history.specs.declared.machine.history.Entry1.{Entry1}
use Rattle.nofs_history.specs.declared.machine.steps.Step.{Step}
use Rattle.nofs_history.specs.declared.machine.steps.Step.TheVariants as step
use Rattle.nofs_history.specs.declared.machine.replies.Reply.{Reply}
use Rattle.nofs_history.specs.declared.machine.replies.Reply.TheVariants as reply
use Rattle.nofs_history.specs.Callers.{done_of}
use Rattle.nofs_crashlaw.proofs.OnRuns.Acts.{accepted-acts}
use Rattle.nofs_crashlaw.specs.Paths.Moves.{KeepsEntry}
use Rattle.nofs_move.specs.Linked.{only_looks, is_idle}
use Rattle.nofs_move.proofs.Stages.{Told}

-- The machine's replies fit their steps

told-found : (d g : ℕ) (name : List ℕ) (F : Files) (o : Option ℕ) → Told (step.Look d g name) (found_reply F d o)
told-found d g name F None = tt
told-found d g name F (Some p) = entry (entry_at F d p)
  where
    file : (i : ℕ) (o : Option FileState) → Told (step.Look d g name) (found_file i o)
    file i None = tt
    file i (Some f) = tt

    entry : (o : Option Entry) → Told (step.Look d g name) (found_entry F o)
    entry None = tt
    entry (Some x) = file x.inode (F x.inode)

told-dropped : (d g : ℕ) (name : List ℕ) (F : Files) (o : Option ℕ) → Told (step.Drop d g name) (dropped_reply F d o)
told-dropped d g name F None = tt
told-dropped d g name F (Some p) = entry (link_to d p (generation_of F d)) (entry_at F d p)
  where
    entry : (link : BackLink) (o : Option Entry) → Told (step.Drop d g name) (dropped_entry F link o)
    entry link None = tt
    entry link (Some x) = tt

told-listed : (d g k : ℕ) (F : Files) (o : Option ℕ) → Told (step.List d g k) (listed_reply F d o)
told-listed d g k F None = tt
told-listed d g k F (Some l) = go (is_lost (value_of F d l))
  where
    go : (b : Bool) → Told (step.List d g k) (cond b (reply.LostNames l) (reply.Names l (lines_in_slot F d l)))
    go true = tt
    go false = tt

told-got : (i g k : ℕ) (v : Value) → Told (step.Get i g k) (got_reply v)
told-got i g k Hole = tt
told-got i g k (Bytes content) = tt
told-got i g k Lost = tt

told-stat : (i g : ℕ) (F : Files) (o : Option FileState) → Told (step.Stat i g) (stat_file F i o)
told-stat i g F None = tt
told-stat i g F (Some f) = tt

told-reply : (W : World) (s : Step) (c : Claims) → Told s (reply_of W s c)
told-reply W (step.Look d g name) c = told-found d g name W.files (found W.files d name)
told-reply W (step.Drop d g name) c = told-dropped d g name W.files (found W.files d name)
told-reply W (step.List d g k) c =
    told-listed d g k W.files (least_from (λ l. not (is_hole (value_of W.files d l))) k (72 - k))
told-reply W (step.Get i g k) c = told-got i g k (value_of W.files i k)
told-reply W (step.Stat i g) c = told-stat i g W.files (W.files i)
told-reply W _ c = tt

told-refused : (s : Step) (r : Reply) → is_refused r ≡ true → Told s r
told-refused s (reply.Refused why) e = tt
told-refused s _ e = cc e

pub told-entry : (W V : World) (e : Entry1) → Next W e V → Told e.step e.reply
told-entry W V e next = go (is_refused e.reply) refl
  where
    go : (b : Bool) → is_refused e.reply ≡ b → Told e.step e.reply
    go true q = told-refused e.step e.reply q
    go false q = subst (λ r. Told e.step r) (sym (accepted-acts W V e next q).2) (told-reply W e.step e.claims)

-- An idle step gives nothing

looks-give : (F : Files) (s : Step) (c : Claims) → only_looks s ≡ true → gives F s c ≡ nothing
unfolding gives
looks-give F (step.Look d g name) c e = refl
looks-give F (step.Flush i g) c e = refl
looks-give F (step.SeeInode i) c e = refl
looks-give F (step.SeeBlock p) c e = refl
looks-give F _ c e = cc e

idle-gives : (F : Files) (e : Entry1) → is_idle (done_of e) ≡ true → given_by F e ≡ nothing
idle-gives F e idle = go (only_looks e.step) refl (is_refused e.reply) refl (is_write_fault e.reply) refl
  where
    same : (b : Bool) → cond b nothing nothing ≡ nothing
    same true = refl
    same false = refl

    go : (a : Bool) → only_looks e.step ≡ a → (b : Bool) → is_refused e.reply ≡ b → (c : Bool)
        → is_write_fault e.reply ≡ c → given_by F e ≡ nothing
    go true qa b qb c qc = ap (λ (x : Given). cond (may_give e.reply) x nothing) (looks-give F e.step e.claims qa)
        ∙ same (may_give e.reply)
    go false qa true qb false qc = ap (λ b. cond b (gives F e.step e.claims) nothing)
        (let z : not (is_refused e.reply) || is_write_fault e.reply ≡ false =
        rw (qb, qc) refl in z)
    go false qa true qb true qc = absurd (let z : is_idle (done_of e) ≡ false = rw (qa, qb, qc) refl in cc (z, idle))
    go false qa false qb c qc = absurd (let z : is_idle (done_of e) ≡ false = rw (qa, qb) refl in cc (z, idle))

pub idle-keeps : (F : Files) (e : Entry1) → is_idle (done_of e) ≡ true → (d g place : ℕ) (entry : Entry)
    → KeepsEntry (given_by F e) d g place entry
idle-keeps F e idle d g place entry v h =
    let z : (given_by F e).slots d g (place / 16) ≡ None =
    ap (λ (x : Given). x.slots d g (place / 16)) (idle-gives F e idle) in
    absurd (cc (z, h))
