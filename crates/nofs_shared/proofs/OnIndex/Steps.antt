-- What is found stays found over each step that moves no name, and what a step was answered stands after it.
use Rattle.std.proofs.Common.{◌≡◌, ℕ, Bool, true, false, not, List, refl, sym, ap, ◌∙◌, subst}
use Rattle.nofs_model.specs.Files.{Files}
use Rattle.nofs_inode.specs.declared.inode.FileKind.{FileKind}
use Rattle.nofs_history.specs.Answers.{reply_of}
use Rattle.nofs_history.specs.Machine.{is_refused}
use Rattle.nofs_history.specs.Next.{Next}
use Rattle.nofs_history.specs.World.{World}
use Rattle.nofs_history.specs.declared.machine.history.Entry1.{Entry1}
use Rattle.nofs_history.specs.declared.machine.replies.Found.{Found}
use Rattle.nofs_history.specs.declared.machine.replies.Reply.{Reply}
use Rattle.nofs_history.specs.declared.machine.replies.Reply.TheVariants as reply
use Rattle.nofs_history.specs.declared.machine.steps.Step.{Step}
use Rattle.nofs_history.specs.declared.machine.steps.Step.TheVariants as step
use Rattle.nofs_crashlaw.proofs.OnRuns.Acts.{accepted-acts}
use Rattle.nofs_crashlaw.proofs.OnRuns.Links.{IsSane}
use Rattle.nofs_crashlaw.proofs.OnRuns.StepLinks.{refused}
use Rattle.nofs_shared.specs.Index.Names.{Answered, Finds, moves_names}
use Rattle.nofs_shared.proofs.OnIndex.Names.{leaves-finds, leaves_names, look-finds}
use Rattle.nofs_shared.proofs.OnIndex.Makes.{make-new-name}
use Rattle.nofs_shared.proofs.OnIndex.NewEntries.{link-new}
use Rattle.nofs_shared.proofs.OnIndex.NewNames.{new-keeps}

pub names-stay : (W V : World) (e : Entry1) → IsSane W → Next W e V → moves_names e.step e.reply ≡ false
    → (d g : ℕ) (name : List ℕ) (it : Found) → Finds W.files d g name it → Finds V.files d g name it
names-stay W V e sane next still d g name it f = go (is_refused e.reply) refl
  where
    moving : is_refused e.reply ≡ false → (s : Step) → e.step ≡ s
        → moves_names s e.reply ≡ not (is_refused e.reply) → Finds V.files d g name it
    moving ok s es m =
        let z : moves_names e.step e.reply ≡ true =
        ap (λ (x : Step). moves_names x e.reply) es ∙ m ∙ ap not ok in
        absurd (cc (z, still))

    by : is_refused e.reply ≡ false → (s : Step) → e.step ≡ s → Finds V.files d g name it
    by ok (step.Make dir of new kind) es =
        let at = make-new-name W V e dir of new kind sane next ok es in
        new-keeps W.files V.files dir at.0 new at.1 d g name it f
    by ok (step.Link dir of new i h) es =
        let at = link-new W V e dir of i h new sane next ok es in
        new-keeps W.files V.files dir at.0 new at.1 d g name it f
    by ok (step.Drop dir of gone) es = moving ok (step.Drop dir of gone) es refl
    by ok (step.Rename dir of old new) es = moving ok (step.Rename dir of old new) es refl
    by ok _ es = leaves-finds W V e next (ap leaves_names es) d g name it f

    go : (b : Bool) → is_refused e.reply ≡ b → Finds V.files d g name it
    go true failed = subst (λ (F : Files). Finds F d g name it) (sym (refused W V e sane next failed)) f
    go false ok = by ok e.step refl

-- what was made has the numbers of the claims
made-numbers : (W V : World) (e : Entry1) (dir g i of : ℕ) (name : List ℕ) (kind : FileKind) → Next W e V
    → e.step ≡ step.Make dir g name kind → e.reply ≡ reply.Made i of
    → (e.claims.inode ≡ i) × (e.claims.generation ≡ of)
made-numbers W V e dir g i of name kind next es er =
    let a = accepted-acts W V e next (ap is_refused er) in
    let same : reply.Made e.claims.inode e.claims.generation ≡ reply.Made i of =
    sym (ap (λ (s : Step). reply_of W s e.claims) es) ∙ sym a.2 ∙ er in
    (ap inode same, ap generation same)
  where
    inode : Reply → ℕ
    inode (reply.Made n m) = n
    inode _ = 0

    generation : Reply → ℕ
    generation (reply.Made n m) = m
    generation _ = 0

pub answered-next : (W V : World) (e : Entry1) → IsSane W → Next W e V → Answered e.step e.reply V.files
answered-next W V e sane next = go e.step e.reply refl refl
  where
    go : (s : Step) (r : Reply) → e.step ≡ s → e.reply ≡ r → Answered s r V.files
    go (step.Look d g name) (reply.Found it) es er = look-finds W V e d g name it next es er
    go (step.Make d g name kind) (reply.Made i of) es er =
        let n = made-numbers W V e d g i of name kind next es er in
        subst (λ (it : Found). Finds V.files d g name it)
        (λ t. record { inode = n.0 t; generation = n.1 t; kind = kind })
        (make-new-name W V e d g name kind sane next (ap is_refused er) es).2
    go (step.Link d g name i of) reply.Linked es er = (link-new W V e d g i of name sane next (ap is_refused er) es).2
    go _ _ es er = tt
