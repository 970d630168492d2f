-- Steps that change no file: each caller's are answered as in the world that the run began with.
use Rattle.std.proofs.Common.{◌≡◌, inl, inr, ℕ, Bool, true, false, List, [], ◌∷◌, ◌++◌}
use Rattle.std.proofs.Common.{map, cond, Option, Some, None, refl, sym, ap, ◌∙◌, subst, eq-eqb}
use Rattle.std.specs.Prelude.{All, filter}
use Rattle.std.specs.List.{AllByRecursion}
use Rattle.std.proofs.lemmas.Bool.{cases_eq}
use Rattle.std.proofs.lemmas.List.Elements.{All-nil, All-cons, All-head, All-tail}
use Rattle.nofs_model.specs.Files.{FileState, Files}
use Rattle.nofs_history.specs.declared.machine.callers.TheConstants.{BLOCK_SWEEPER, INODE_SWEEPER}
use Rattle.nofs_history.specs.Machine.{file_after, files_after, gives, nothing}
use Rattle.nofs_history.specs.Next.{Next, AfterFault, ByRow, Done, ByRead, ByWrite, Run}
use Rattle.nofs_history.specs.Steps.{Made, is_out_of_memory}
use Rattle.nofs_history.specs.World.{World}
use Rattle.nofs_history.specs.declared.machine.history.Claims.{Claims}
use Rattle.nofs_history.specs.declared.machine.history.Entry1.{Entry1}
use Rattle.nofs_history.specs.declared.machine.steps.ElementKind.{ElementKind}
use Rattle.nofs_history.specs.declared.machine.steps.ElementKind.TheVariants.{Inode, Block}
use Rattle.nofs_history.specs.declared.machine.steps.Step.{Step}
use Rattle.nofs_history.specs.declared.machine.steps.Step.TheVariants as step
use Rattle.nofs_history.specs.declared.machine.replies.Reply.{Reply}
use Rattle.nofs_history.specs.Callers.{done_of, is_by, steps_by, made_step}
use Rattle.nofs_shared.specs.Mount.Entries.{AddsStep}
use Rattle.nofs_workers.specs.Sweep.{Sweeps, see_of}
use Rattle.nofs_salvage.specs.Walk.Answers.{AreAnswered, IsAnswered}
use Rattle.nofs_salvage.specs.Walk.Steps.{IsReadingStep}
use Rattle.nofs_tool.specs.Visits.Salvage.{AreReads}
use Rattle.nofs_tool.specs.Visits.Visit.{IsVisitRun}

-- Steps that change no file

-- the step looks, lists, reads, examines or flushes
abbrev pub IsQuiet : Step → Type 0
IsQuiet (step.Look d g name) = Unit {0}
IsQuiet (step.List d g slot) = Unit {0}
IsQuiet (step.Stat i g) = Unit {0}
IsQuiet (step.Get i g slot) = Unit {0}
IsQuiet (step.Flush i g) = Unit {0}
IsQuiet (step.SeeInode i) = Unit {0}
IsQuiet (step.SeeBlock p) = Unit {0}
IsQuiet _ = ⊥

abbrev AreQuiet : List Made → Type 0
AreQuiet made = All (λ m. IsQuiet m.0) made

none-quiet : AreQuiet []
none-quiet = All-nil (λ (m : Made). IsQuiet m.0)

quiet-read : (s : Step) → IsReadingStep s → IsQuiet s
quiet-read (step.Look d g name) r = tt
quiet-read (step.List d g slot) r = tt
quiet-read (step.Stat i g) r = tt
quiet-read (step.Get i g slot) r = tt
quiet-read _ r = absurd r

quiet-see : (kind : ElementKind) (x : ℕ) → IsQuiet (see_of kind x)
quiet-see Inode x = tt
quiet-see Block x = tt

gives-none : (F : Files) (s : Step) (claims : Claims) → IsQuiet s → gives F s claims ≡ nothing
unfolding gives
gives-none F (step.Look d g name) claims q = refl
gives-none F (step.List d g slot) claims q = refl
gives-none F (step.Stat i g) claims q = refl
gives-none F (step.Get i g slot) claims q = refl
gives-none F (step.Flush i g) claims q = refl
gives-none F (step.SeeInode i) claims q = refl
gives-none F (step.SeeBlock p) claims q = refl
gives-none F _ claims q = absurd q

files-kept : (F : Files) → files_after F nothing ≡ F
files-kept F = λ j i. same i (F i) j
  where
    same : (i : ℕ) (o : Option FileState) → file_after nothing i o ≡ o
    same i None = refl
    same i (Some f) = refl

-- V has the files of W, and its version
record IsAs (W V : World) : Type 0 where
  pub files : V.files ≡ W.files
  pub version : V.version ≡ W.version

next-as : (W : World) (e : Entry1) (V : World) → IsQuiet e.step → Next W e V → IsAs W V
next-as W e V q (AfterFault s r c same) =
    record { files = ap (λ (w : World). w.files) same; version = ap (λ (w : World). w.version) same }
next-as W e V q (ByRow why s f r c k st l) = record { files = k.files; version = k.version }
next-as W e V q (Done s f r c fs hs se vs l) = record {
  files = fs ∙ (ap (λ given. files_after W.files given) (gives-none W.files e.step e.claims q) ∙ files-kept W.files);
  version = vs.0;
}
next-as W e V q (ByRead s f r c k st l) = record { files = k.files; version = k.version }
next-as W e V q (ByWrite s f m r c k st l) = record { files = k.files; version = k.version }

-- The steps of one caller

one-more : (P : Made → Type 0) (c : ℕ) (e : Entry1) (es : List Entry1) → P (done_of e) → All P (steps_by c es)
    → All P (steps_by c (e ∷ es))
one-more P c e es here more = go (is_by c e)
  where
    go : (b : Bool) → All P (map done_of (cond b (e ∷ filter (is_by c) es) (filter (is_by c) es)))
    go true = All-cons P (done_of e) (steps_by c es) here more
    go false = more

-- are answered as in a world with the files of the first one
answered-by : (c : ℕ) (W : World) (es : List Entry1) (start : ℕ) (U V : World) → IsAs W U → Run start U es V
    → AllByRecursion (λ e. IsQuiet e.step) es
    → All (IsAnswered W) (steps_by c es)
answered-by c W [] start U V s r q = All-nil (IsAnswered W)
answered-by c W (e ∷ es) start U V s r q =
    let one = next-as U e r.0 q.0 r.4 in
    one-more (IsAnswered W) c e es
    (record {
      before = U;
      after = r.0;
      entry = e;
      version = s.version;
      files = s.files;
      asked = refl;
      replied = refl;
      next = r.4;
    })
    (answered-by c W es e.to r.0 V (record { files = one.files ∙ s.files; version = one.version ∙ s.version }) r.5 q.1)

-- what is known of the steps of each caller is known of all
all-callers : (P : Step → Type 0) (es : List Entry1) → ((c : ℕ) → All (λ m. P m.0) (steps_by c es))
    → AllByRecursion (λ e. P e.step) es
all-callers P [] own = tt
all-callers P (e ∷ es) own = (
  first (is_by e.caller e) (eq-eqb e.caller e.caller refl) (own e.caller),
  all-callers P es (λ c. rest c (is_by c e) (own c)),
)
  where
    first : (b : Bool) → b ≡ true → All (λ m. P m.0)
        (map done_of (cond b (e ∷ filter (is_by e.caller) es) (filter (is_by e.caller) es))) → P e.step
    first true t a = All-head (λ (m : Made). P m.0) (done_of e) (steps_by e.caller es) a
    first false t a = absurd (cc t)

    rest : (c : ℕ) (b : Bool) → All (λ m. P m.0) (map done_of (cond b (e ∷ filter (is_by c) es) (filter (is_by c) es)))
        → All (λ m. P m.0) (steps_by c es)
    rest c true a = All-tail (λ (m : Made). P m.0) (done_of e) (steps_by c es) a
    rest c false a = a

-- The entries of a visit that reads

cons-parts : {A : Type 0} (x y : A) (xs ys : List A) → x ∷ xs ≡ y ∷ ys → (x ≡ y) × (xs ≡ ys)
cons-parts x y xs ys e = (cc e, cc e)

quiet-sees : (kind : ElementKind) (made : List Made) (elements : List ℕ)
    → map made_step made ≡ map (see_of kind) elements → AreQuiet made
quiet-sees kind [] elements e = none-quiet
quiet-sees kind (m ∷ made) [] e = absurd (cc e)
quiet-sees kind (m ∷ made) (x ∷ xs) e =
    let parts = cons-parts (made_step m) (see_of kind x) (map made_step made) (map (see_of kind) xs) e in
    All-cons (λ (n : Made). IsQuiet n.0) m made (subst IsQuiet (sym parts.0) (quiet-see kind x))
    (quiet-sees kind made xs parts.1)

quiet-sweep : (Item : ℕ → ℕ → Type 0) (kind : ElementKind) (count : ℕ) (short : Bool) (made : List Made)
    → Sweeps Item kind 0 count short [] made
    → AreQuiet made
quiet-sweep Item kind count short made s =
    quiet-sees kind made s.elements (ap (map made_step) s.makes.more ∙ s.makes.steps)

quiet-reads : (made : List Made) → AreReads made → AreQuiet made
quiet-reads [] a = none-quiet
quiet-reads (m ∷ made) a =
    All-cons (λ (n : Made). IsQuiet n.0) m made (quiet-read m.0 (All-head (λ (n : Made). IsReadingStep n.0) m made a))
    (quiet-reads made (All-tail (λ (n : Made). IsReadingStep n.0) m made a))

quiet-added : (served H : List Entry1) (flush : Reply) → AddsStep 0 (step.Flush 0 0) flush served H
    → AllByRecursion (λ e. IsQuiet e.step) served
    → AllByRecursion (λ e. IsQuiet e.step) H
quiet-added served H flush a q = go (is_out_of_memory flush) refl
  where
    ends : (es : List Entry1) (e : Entry1) → IsQuiet e.step → AllByRecursion (λ e. IsQuiet e.step) es
        → AllByRecursion (λ e. IsQuiet e.step) (es ++ e ∷ [])
    ends [] e here more = (here, tt)
    ends (x ∷ es) e here more = (more.0, ends es e here more.1)

    go : (b : Bool) → is_out_of_memory flush ≡ b → AllByRecursion (λ e. IsQuiet e.step) H
    go true e = subst (λ (l : List Entry1). AllByRecursion (λ e. IsQuiet e.step) l) (sym (a.none e)) q
    go false e =
        let (x, whole, caller_is, step_is, reply_is) = a.one e in
        subst (λ (l : List Entry1). AllByRecursion (λ e. IsQuiet e.step) l) (sym whole)
        (ends served x (subst IsQuiet (sym step_is) tt) q)

-- each of them changes no file
pub visit-quiet : (inodes blocks : ℕ) (short : Bool) (H : List Entry1) → IsVisitRun AreReads inodes blocks short H
    → AllByRecursion (λ e. IsQuiet e.step) H
visit-quiet inodes blocks short H run =
    quiet-added run.served H run.flush run.closes.adds (all-callers IsQuiet run.served own)
  where
    own : (c : ℕ) → AreQuiet (steps_by c run.served)
    own c = elim (cases_eq c 1) [
      | inl visitor ↦ subst (λ (n : ℕ). AreQuiet (steps_by n run.served)) (sym visitor)
          (quiet-reads (steps_by 1 run.served) run.made.visited)
      | inr not_visitor ↦ elim (cases_eq c INODE_SWEEPER) [
        | inl nine ↦ subst (λ (n : ℕ). AreQuiet (steps_by n run.served)) (sym nine)
            (quiet-sweep (λ place item. item ≡ place) Inode inodes short (steps_by INODE_SWEEPER run.served)
            run.made.inodes_seen)
        | inr not_nine ↦ elim (cases_eq c BLOCK_SWEEPER) [
          | inl ten ↦ subst (λ (n : ℕ). AreQuiet (steps_by n run.served)) (sym ten)
              (quiet-sweep _ Block blocks short (steps_by BLOCK_SWEEPER run.served) run.made.blocks_seen)
          | inr not_ten ↦ subst AreQuiet (sym (run.made.others c not_visitor not_nine not_ten)) none-quiet
        ]
      ]
    ]

-- FIRST_USER's steps are answered as in the world that a run began with
pub visit-answered : (H : List Entry1) (start : ℕ) (W V : World) → Run start W H V
    → AllByRecursion (λ e. IsQuiet e.step) H → AreAnswered W [] (steps_by 1 H)
visit-answered H start W V r q = record {
  made = steps_by 1 H;
  more = refl;
  each = answered-by 1 W H start W V (record { files = refl; version = refl }) r q;
}
