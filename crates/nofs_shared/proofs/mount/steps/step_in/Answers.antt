use Rattle.std.proofs.Common.{ℕ, List, ◌++◌, ◌∷◌, [], refl, sym, ap, ◌∙◌, subst, subst₂, rules}
use Rattle.nofs_disk.specs.Disk.{DiskState}
use Rattle.nofs_history.specs.Claims.{no_claims}
use Rattle.nofs_history.specs.declared.machine.history.Entry1.{Entry1}
use Rattle.nofs_history.specs.declared.machine.replies.Reply.{Reply}
use Rattle.nofs_history.specs.declared.machine.replies.Reply.TheVariants as reply
use Rattle.nofs_history.specs.declared.machine.replies.Refusal.TheVariants as refusal
use Rattle.nofs_state.specs.Books.Maps.{IsSafe}
use Rattle.nofs_state.specs.Cores.Steps.{MeetsOpen, goes-safely}
use Rattle.nofs_state.specs.declared.books.maps.Books.{Books}
use Rattle.nofs_shared.specs.Mount.Invariant.{IsMount}
use Rattle.nofs_shared.specs.Mount.Flushes.{Settles, names_whole}
use Rattle.nofs_shared.specs.Mount.Causes.{StepCauses, StepOrder}
use Rattle.nofs_shared.proofs.OnMount.Claims.{unowned-kept, unowned-more}
use Rattle.nofs_shared.proofs.OnMount.Causes.{causes-kept, causes-none}
use Rattle.nofs_shared.proofs.OnActs.Contents.{goes-unmade, see-has-memory}
use Rattle.nofs_shared.proofs.OnIndex.Hits.{told-fits, told-keeps, told-order, told-unmoved}
use Rattle.nofs_shared.proofs.OnIndex.Mounts.{index-noted, index-same, index-unmoved}
use Rattle.nofs_shared.proofs.OnMount.Steps.{mount-none, mount-goes}
use Rattle.nofs_shared.proofs.OnMount.Given.{given-none, given-told}
use Rattle.nofs_shared.proofs.OnMount.Histories.{entry_at, safe-history}
use Rattle.nofs_shared.proofs.OnActs.Room.{adds-none, settles-memory}
use Rattle.nofs_shared.proofs.mount.steps.step_in.Goals as goal

-- the index told it

pub returns-in-Some-clause-keeps : goal.returns-in-Some-clause-keeps
returns-in-Some-clause-keeps g c = λ found first m t.
    subst₂ (λ (d : DiskState) (l : Books). IsMount (g.D.Disk.state found) d first l)
    (ap g.D.Disk.state (sym c.keep_found.ensures.disk)) (sym c.keep_found.ensures.books)
    (told-keeps c.args.index.now c.args.step c.in-Some.it c.in-Some.ensures.told (g.D.Disk.state c.args.core.now.disk)
    c.args.core.now.books c.in-Some.ensures.going (g.D.Disk.state found) first
    (g.met.D.Disk.is_disk c.args.core.now.disk) m c.args.caller t _ refl refl)

pub returns-in-Some-clause-notes : goal.returns-in-Some-clause-notes
returns-in-Some-clause-notes g c = λ found first m t.
    index-unmoved (g.D.Disk.state found) (g.D.Disk.state c.args.core.now.disk)
    (g.D.Disk.state c.keep_found.new.core.disk) first c.args.core.now.books c.keep_found.new.core.books m
    (returns-in-Some-clause-keeps g c found first m t) c.args.index.now c.args.caller c.args.step
    (reply.Found c.in-Some.it) (g.met.D.Disk.is_disk found)
    (record {
      none = λ e. cc e;
      one = λ e. (_, ap (λ (l : Books). l.history.entries) c.keep_found.ensures.books, refl, refl, refl);
    })
    (told-unmoved c.args.index.now c.args.step c.in-Some.it c.in-Some.ensures.told) t

pub returns-in-Some-clause-order : goal.returns-in-Some-clause-order
returns-in-Some-clause-order g c = subst (λ (d : DiskState). StepOrder (g.D.Disk.state c.args.core.now.disk) d
    (MeetsOpen (g.D.Disk.state c.args.core.now.disk) c.args.core.now.books) c.args.step (reply.Found c.in-Some.it)
    c.keep_found.new.core.books.history.entries)
    (ap g.D.Disk.state (sym c.keep_found.ensures.disk))
    (record {
      claims = no_claims;
      entry = λ e. (_, _, ap (λ (l : Books). l.history.entries) c.keep_found.ensures.books, refl);
      order = told-order c.args.index.now c.args.step c.in-Some.it c.in-Some.ensures.told
          (g.D.Disk.state c.args.core.now.disk) c.args.core.now.books c.in-Some.ensures.going;
    })

pub returns-in-Some-clause-given : goal.returns-in-Some-clause-given
returns-in-Some-clause-given g c =
    given-told c.args.core.now.books c.args.index.now c.args.step c.in-Some.it c.in-Some.ensures.told

-- no memory

pub returns-in-Err-clause-keeps : goal.returns-in-Err-clause-keeps
returns-in-Err-clause-keeps g c = λ found first m t.
    mount-none (g.D.Disk.state found) (g.D.Disk.state c.args.core.now.disk) (g.D.Disk.state c.act-reply.new.core.disk)
    first c.args.core.now.books c.act-reply.new.core.books m (reply.Refused refusal.OutOfMemory)
    (goes-safely (goes-unmade (g.D.Disk.state c.args.core.now.disk) (g.D.Disk.state c.act-reply.new.core.disk)
    c.args.core.now.books c.act-reply.new.core.books c.args.step c.act-reply.result.claims c.act-reply.result.reply
    c.act-reply.ensures.goes c.act-reply.ensures.memory
    (c.in-Err.ensures.memory c.args.step c.act-reply.ensures.fits)).1) refl

pub returns-in-Err-clause-given : goal.returns-in-Err-clause-given
returns-in-Err-clause-given g c = given-none c.args.core.now.books c.args.step

pub returns-in-Err-clause-notes : goal.returns-in-Err-clause-notes
returns-in-Err-clause-notes g c = λ found first m t.
    index-same (g.D.Disk.state found) (g.D.Disk.state c.args.core.now.disk) (g.D.Disk.state c.act-reply.new.core.disk)
    first c.args.core.now.books c.act-reply.new.core.books m (returns-in-Err-clause-keeps g c found first m t)
    c.args.index.now (ap (λ h. h.entries) c.act-reply.ensures.goes.history) t

pub returns-in-Err-clause-claims : goal.returns-in-Err-clause-claims
returns-in-Err-clause-claims g c = λ found first m q.
    unowned-kept (g.D.Disk.state c.args.core.now.disk).now c.args.core.now.books c.act-reply.new.core.books
    c.act-reply.ensures.goes.history

pub returns-in-Err-clause-tells : goal.returns-in-Err-clause-tells
returns-in-Err-clause-tells g c = record {
  adds = adds-none c.args.caller c.args.step c.args.core.now.books.history.entries
      c.act-reply.new.core.books.history.entries
      (ap (λ h. h.entries) c.act-reply.ensures.goes.history);
  fits = tt;
  whole = λ e. refl;
}

pub returns-in-Err-clause-sees : goal.returns-in-Err-clause-sees
returns-in-Err-clause-sees g c = λ see. absurd (see-has-memory c.args.step c.act-reply.result.reply see
    c.act-reply.ensures.sees (c.in-Err.ensures.memory c.args.step c.act-reply.ensures.fits))

pub returns-in-Err-clause-settled : goal.returns-in-Err-clause-settled
returns-in-Err-clause-settled g c = settles-memory c.args.step (g.D.Disk.state c.act-reply.new.core.disk)

pub returns-in-Err-clause-causes : goal.returns-in-Err-clause-causes
returns-in-Err-clause-causes g c = causes-none (g.D.Disk.state c.args.core.now.disk)
    (g.D.Disk.state c.act-reply.new.core.disk)
    c.args.core.now.books c.act-reply.new.core.books (reply.Refused refusal.OutOfMemory)
    (goes-safely (goes-unmade (g.D.Disk.state c.args.core.now.disk) (g.D.Disk.state c.act-reply.new.core.disk)
    c.args.core.now.books c.act-reply.new.core.books c.args.step c.act-reply.result.claims c.act-reply.result.reply
    c.act-reply.ensures.goes c.act-reply.ensures.memory
    (c.in-Err.ensures.memory c.args.step c.act-reply.ensures.fits)).1)

pub returns-in-Err-clause-order : goal.returns-in-Err-clause-order
returns-in-Err-clause-order g c =
    let (of, goes) = goes-unmade (g.D.Disk.state c.args.core.now.disk) (g.D.Disk.state c.act-reply.new.core.disk)
    c.args.core.now.books c.act-reply.new.core.books c.args.step c.act-reply.result.claims c.act-reply.result.reply
    c.act-reply.ensures.goes c.act-reply.ensures.memory
    (c.in-Err.ensures.memory c.args.step c.act-reply.ensures.fits) in
    record { claims = of; entry = λ e. cc; order = goes.order }

-- with its entry

pub returns-in-Ok-clause-keeps : goal.returns-in-Ok-clause-keeps
returns-in-Ok-clause-keeps g c = λ found first m t.
    subst₂ (λ (d : DiskState) (l : Books). IsMount (g.D.Disk.state found) d first l)
    (ap g.D.Disk.state (sym c.keep_step.ensures.disk)) (sym c.keep_step.ensures.books)
    (mount-goes (g.D.Disk.state found) (g.D.Disk.state c.args.core.now.disk) (g.D.Disk.state c.act-reply.new.core.disk)
    first c.args.core.now.books c.act-reply.new.core.books m
    c.args.step c.act-reply.result.claims c.act-reply.result.reply c.args.caller c.act-reply.ensures.goes
    (c.in-Ok.ensures.made) _ refl
    (ap (λ (x : ℕ × Reply). c.act-reply.new.core.books.history.entries
    ++ entry_at c.args.caller x.0 (g.D.Disk.state c.act-reply.new.core.disk).moment c.args.step
    c.act-reply.result.claims x.1 ∷ [])
    (λ i. (c.moment-from.ensures i, c.in-Ok.ensures.same i))))

pub returns-in-Ok-clause-given : goal.returns-in-Ok-clause-given
returns-in-Ok-clause-given g c = record { only = c.act-reply.ensures.goes.early; early = c.act-reply.ensures.early }

pub returns-in-Ok-clause-notes : goal.returns-in-Ok-clause-notes
returns-in-Ok-clause-notes g c = λ found first m t.
    index-noted (g.D.Disk.state found) (g.D.Disk.state c.args.core.now.disk)
    (g.D.Disk.state c.keep_step.new.self.disk) first c.args.core.now.books c.keep_step.new.self.books m
    (returns-in-Ok-clause-keeps g c found first m t) c.args.index.now c.note.new.self
    (entry_at c.args.caller (g.D.Disk.state c.args.core.now.disk).moment
    (g.D.Disk.state c.act-reply.new.core.disk).moment c.args.step c.act-reply.result.claims c.act-reply.result.reply)
    (g.met.D.Disk.is_disk found)
    (ap (λ (l : Books). l.history.entries) c.keep_step.ensures.books
    ∙ ap (λ (x : List Entry1 × ℕ × Reply). x.0
    ++ entry_at c.args.caller x.1 (g.D.Disk.state c.act-reply.new.core.disk).moment c.args.step
    c.act-reply.result.claims x.2 ∷ [])
    (λ i. ((c.act-reply.ensures.goes.history i).entries, c.moment-from.ensures i, c.in-Ok.ensures.same i)))
    c.note.ensures t

pub returns-in-Ok-clause-claims : goal.returns-in-Ok-clause-claims
returns-in-Ok-clause-claims g c = λ found first m q.
    unowned-more (g.D.Disk.state found) (g.D.Disk.state c.args.core.now.disk) (g.D.Disk.state c.act-reply.new.core.disk)
    first c.args.core.now.books c.act-reply.new.core.books
    c.args.step c.act-reply.result.claims c.act-reply.result.reply c.args.caller c.act-reply.ensures.goes m
    (c.in-Ok.ensures.made) q c.keep_step.new.self.books.history.entries
    (ap (λ (l : Books). l.history.entries) c.keep_step.ensures.books
    ∙ ap (λ (x : List Entry1 × ℕ × Reply). x.0
    ++ entry_at c.args.caller x.1 (g.D.Disk.state c.act-reply.new.core.disk).moment c.args.step
    c.act-reply.result.claims x.2 ∷ [])
    (λ i. ((c.act-reply.ensures.goes.history i).entries, c.moment-from.ensures i, c.in-Ok.ensures.same i)))

pub returns-in-Ok-clause-goes_on : goal.returns-in-Ok-clause-goes_on
returns-in-Ok-clause-goes_on g c = record {
  safe = subst₂ (λ (d : DiskState) (l : Books). IsSafe d l) (ap g.D.Disk.state (sym c.keep_step.ensures.disk))
      (sym c.keep_step.ensures.books)
      (safe-history c.act-reply.new.core.books _ (g.D.Disk.state c.act-reply.new.core.disk)
      c.act-reply.ensures.goes.safe);
  same = search rules;
  room = search rules;
}

pub returns-in-Ok-clause-settled : goal.returns-in-Ok-clause-settled
returns-in-Ok-clause-settled g c = subst (λ (d : DiskState). Settles c.args.step c.act-reply.result.reply d)
    (ap g.D.Disk.state (sym c.keep_step.ensures.disk)) c.act-reply.ensures.settled

pub returns-in-Ok-clause-causes : goal.returns-in-Ok-clause-causes
returns-in-Ok-clause-causes g c = subst₂ (λ (d : DiskState) (l : Books). StepCauses
    (g.D.Disk.state c.args.core.now.disk) d c.args.core.now.books l c.act-reply.result.reply)
    (ap g.D.Disk.state (sym c.keep_step.ensures.disk)) (sym c.keep_step.ensures.books)
    (causes-kept (g.D.Disk.state c.args.core.now.disk) (g.D.Disk.state c.act-reply.new.core.disk) c.args.core.now.books
    c.act-reply.new.core.books
    c.act-reply.result.reply _ (goes-safely c.act-reply.ensures.goes))

pub returns-in-Ok-clause-order : goal.returns-in-Ok-clause-order
returns-in-Ok-clause-order g c = subst (λ (d : DiskState). StepOrder (g.D.Disk.state c.args.core.now.disk) d (MeetsOpen
    (g.D.Disk.state c.args.core.now.disk) c.args.core.now.books) c.args.step c.act-reply.result.reply
    c.keep_step.new.self.books.history.entries)
    (ap g.D.Disk.state (sym c.keep_step.ensures.disk))
    (record {
      claims = c.act-reply.result.claims;
      entry = λ e. (_, _, ap (λ (l : Books). l.history.entries) c.keep_step.ensures.books, refl);
      order = c.act-reply.ensures.goes.order;
    })

pub returns-in-Some-clause-tells : goal.returns-in-Some-clause-tells
returns-in-Some-clause-tells g c = record {
  adds = search rules;
  fits = told-fits c.args.index.now c.args.step c.in-Some.it c.in-Some.ensures.told;
  whole = λ e. absurd (let f = ap names_whole c.in-Some.ensures.told.is in cc (e, f));
}

pub returns-in-Ok-clause-tells : goal.returns-in-Ok-clause-tells
returns-in-Ok-clause-tells g c = record {
  adds = search rules;
  fits = c.act-reply.ensures.fits;
  whole = c.act-reply.ensures.whole;
}
