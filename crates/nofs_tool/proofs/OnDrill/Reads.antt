-- The steps of PROGRAM, and the files that it reads.
use Rattle.std.proofs.Common.{◌≡◌, ℕ, ◌+◌, ◌≤◌, ◌==◌, Bool, true, false, List, [], ◌∷◌, ◌++◌, length, map, cond, codes}
use Rattle.std.proofs.Common.{Result, Ok, Err, Some, None, refl, sym}
use Rattle.std.proofs.Common.{ap, ◌∙◌, subst, arith, append_assoc, append-nil, length-append}
use Rattle.std.specs.Prelude.{filter, IsErrAnd}
use Rattle.std.specs.declared.option.Option.{Option}
use Rattle.nofs_history.specs.Machine.{slots_in}
use Rattle.nofs_history.specs.Steps.{Made, is_out_of_memory}
use Rattle.nofs_history.specs.declared.machine.history.Entry1.{Entry1}
use Rattle.nofs_history.specs.declared.machine.steps.Step.{Step}
use Rattle.nofs_history.specs.declared.machine.steps.Step.TheVariants as step
use Rattle.nofs_history.specs.declared.machine.replies.Found.{Found}
use Rattle.nofs_history.specs.declared.machine.replies.Reply.{Reply}
use Rattle.nofs_history.specs.declared.machine.replies.Stat.{Stat}
use Rattle.nofs_history.specs.Callers.{done_of, is_by, steps_by}
use Rattle.nofs_gen.specs.Script.{digit}
use Rattle.nofs_shared.specs.Mount.Entries.{AddsStep}
use Rattle.nofs_gen.specs.declared.tally.FileRead.{FileRead}
use Rattle.nofs_tool.specs.Drill.{AddsOwn, AreFourBegun, AreRead, AreReadings, AreSlotsBegun, AreStepsOf, FollowsAnswer}
use Rattle.nofs_tool.specs.Drill.{IsAnswerBegun, IsFileBegun, IsFileRead, IsLookedUp, IsNotBegun, IsOneStep, IsReadAt}
use Rattle.nofs_tool.specs.Drill.{IsReadAtBegun, IsReadIn, IsReadInBegun, IsStepBegun, IsWholeRead, ReadsBy, found_in}
use Rattle.nofs_tool.specs.Drill.{gets_from, is_reading, stat_in}
use Rattle.nofs_tool.proofs.OnSession.Serve.{adds-others}

-- an entry of PROGRAM is its last step
own-more : (es : List Entry1) (e : Entry1) → is_by 0 e ≡ true → steps_by 0 (es ++ e ∷ []) ≡ steps_by 0 es
    ++ done_of e ∷ []
own-more [] e own = go (is_by 0 e) own
  where
    go : (b : Bool) → b ≡ true → map done_of (cond b (e ∷ []) []) ≡ done_of e ∷ []
    go true h = refl
    go false h = cc
own-more (x ∷ es) e own = go (is_by 0 x) (own-more es e own)
  where
    go : (b : Bool) → steps_by 0 (es ++ e ∷ []) ≡ steps_by 0 es ++ done_of e ∷ []
        → map done_of (cond b (x ∷ filter (is_by 0) (es ++ e ∷ [])) (filter (is_by 0) (es ++ e ∷ [])))
        ≡ map done_of (cond b (x ∷ filter (is_by 0) es) (filter (is_by 0) es)) ++ done_of e ∷ []
    go true same = λ i. done_of x ∷ same i
    go false same = same

pub adds-own : (s : Step) (r : Reply) (H K : List Entry1) → AddsStep 0 s r H K
    → is_out_of_memory r ≡ false → AddsOwn ((s, r) ∷ []) H K
adds-own s r H K a given =
    let (x, whole, caller_is, step_is, reply_is) = a.one given in
    let own : is_by 0 x ≡ true = ap (λ (c : ℕ). c == 0) caller_is in
    let pair : done_of x ≡ (s, r) = λ i. (step_is i, reply_is i) in
    record {
      behind = (x ∷ [], sym whole);
      own = ap (steps_by 0) whole ∙ (own-more H x own ∙ ap (λ (m : Made). steps_by 0 H ++ m ∷ []) pair);
      others = λ c low. adds-others 0 c s r H K a (λ e. absurd (omega (arith, low, e)));
    }

pub adds-none : (H : List Entry1) → AddsOwn [] H H
adds-none H =
    record { behind = ([], append-nil H); own = sym (append-nil (steps_by 0 H)); others = λ c low. refl }

pub adds-both : (a b : List Made) (H K L : List Entry1) → AddsOwn a H K → AddsOwn b K L → AddsOwn (a ++ b) H L
adds-both a b H K L first next = record {
  behind = (
    first.behind.0 ++ next.behind.0,
    sym (append_assoc H first.behind.0 next.behind.0)
        ∙ (ap (λ l. l ++ next.behind.0) first.behind.1 ∙ next.behind.1),
  );
  own = next.own ∙ (ap (λ m. m ++ b) first.own ∙ append_assoc (steps_by 0 H) a b);
  others = λ c low. next.others c low ∙ first.others c low;
}

readings-both : (a b : List Made) → AreReadings a → AreReadings b → AreReadings (a ++ b)
readings-both [] b first next = next
readings-both (m ∷ a) b first next = (first.0, readings-both a b first.1 next)

-- PROGRAM added steps that read, which are a beginning of a reading, and no other caller anything
abbrev pub BeginsBy : (List Made → Type 0) → List Entry1 → List Entry1 → Type 0
BeginsBy Begun H K = (made : List Made) × AddsOwn made H K × AreReadings made × Begun made

pub none-begun : (Begun : List Made → Type 0) (H K : List Entry1) → K ≡ H → Begun [] → BeginsBy Begun H K
none-begun Begun H K is begun = ([], subst (λ (l : List Entry1). AddsOwn [] H l) (sym is) (adds-none H), tt, begun)

-- a reading that failed
pub begun : {T E : Type 0} (Is : T → List Made → Type 0) (Begun : List Made → Type 0) (e : E) (H K : List Entry1)
    → ReadsBy {T = T} {E = E} Is Begun (Err e) H K → BeginsBy Begun H K
begun Is Begun e H K r = (r.made, r.adds, r.readings, r.read)

pub failed : {T E : Type 0} (Is : T → List Made → Type 0) (Begun : List Made → Type 0) (result : Result T E)
    (P : E → Type 0) (H K : List Entry1) → IsErrAnd result P → BeginsBy Begun H K → ReadsBy Is Begun result H K
failed Is Begun (Ok t) P H K wrong r = absurd wrong
failed Is Begun (Err e) P H K wrong r = let (made, adds, readings, begun) = r in
    record { made = made; adds = adds; readings = readings; read = begun }

-- it is a beginning of another one too
pub begun-as : (A B : List Made → Type 0) (H K : List Entry1) → BeginsBy A H K → ((made : List Made) → A made → B made)
    → BeginsBy B H K
begun-as A B H K r says = let (made, adds, readings, begun) = r in (made, adds, readings, says made begun)

pub step-unbegun : {A : Type 0} (f : Reply → Option A) (Then : A → List Made → Type 0) (s : Step) (H K : List Entry1)
    → BeginsBy IsNotBegun H K → BeginsBy (IsStepBegun f Then s) H K
step-unbegun f Then s H K r = begun-as IsNotBegun (IsStepBegun f Then s) H K r
    (λ made none. subst (λ (m : List Made). IsStepBegun f Then s m) (sym none) tt)

-- one step of PROGRAM
pub one-asked : {E : Type 0} (s : Step) (r : Reply) (H K : List Entry1) → is_reading s ≡ true → AddsStep 0 s r H K
    → is_out_of_memory r ≡ false
    → ReadsBy {T = Reply} {E = E} (IsOneStep s) IsNotBegun (Ok r) H K
one-asked s r H K reading a given =
    record { made = (s, r) ∷ []; adds = adds-own s r H K a given; readings = (reading, tt); read = refl }

pub none-asked : {E : Type 0} (s : Step) (r : Reply) (e : E) (H K : List Entry1) → AddsStep 0 s r H K
    → is_out_of_memory r ≡ true
    → ReadsBy {T = Reply} {E = E} (IsOneStep s) IsNotBegun (Err e) H K
none-asked s r e H K a wanting = let (made, adds, readings, none) =
    none-begun IsNotBegun H K (a.none wanting) refl in
    record { made = made; adds = adds; readings = readings; read = none }

one-added : {E : Type 0} (s : Step) (r : Reply) (H K : List Entry1)
    → ReadsBy {T = Reply} {E = E} (IsOneStep s) IsNotBegun (Ok r) H K → AddsOwn ((s, r) ∷ []) H K
one-added s r H K one = subst (λ (m : List Made). AddsOwn m H K) one.read one.adds

one-reading : {E : Type 0} (s : Step) (r : Reply) (H K : List Entry1)
    → ReadsBy {T = Reply} {E = E} (IsOneStep s) IsNotBegun (Ok r) H K → is_reading s ≡ true
one-reading s r H K one =
    let all : AreReadings ((s, r) ∷ []) = subst (λ (m : List Made). AreReadings m) one.read one.readings in all.0

-- one more slot was read
gets-snoc : (f : Found) (k : ℕ) (rs : List Reply) (r : Reply)
    → gets_from f k (rs ++ r ∷ []) ≡ gets_from f k rs ++ (step.Get f.inode f.generation (k + length rs), r) ∷ []
gets-snoc f k [] r = let e : k ≡ k + 0 = omega arith in ap (λ (n : ℕ). (step.Get f.inode f.generation n, r) ∷ []) e
gets-snoc f k (x ∷ rs) r =
    let e : k + 1 + length rs ≡ k + length (x ∷ rs) = omega arith in
    ap (λ t. (step.Get f.inode f.generation k, x) ∷ t) (gets-snoc f (k + 1) rs r
    ∙ ap (λ (n : ℕ). gets_from f (k + 1) rs ++ (step.Get f.inode f.generation n, r) ∷ []) e)

-- they all are steps that read
pub gets-readings : (f : Found) (k : ℕ) (rs : List Reply) → AreReadings (gets_from f k rs)
gets-readings f k [] = tt
gets-readings f k (r ∷ rs) = (refl, gets-readings f (k + 1) rs)

-- the first slots, of which there are so many at most
abbrev pub FirstSlots : Found → ℕ → List Made → Type 0
FirstSlots f count made = (rs : List Reply) × (made ≡ gets_from f 0 rs) × (length rs ≤ count)

pub first-slots : (f : Found) (count : ℕ) (rs : List Reply) (H K : List Entry1) → length rs ≤ count
    → AddsOwn (gets_from f 0 rs) H K → BeginsBy (FirstSlots f count) H K
first-slots f count rs H K low adds = (gets_from f 0 rs, adds, gets-readings f 0 rs, (rs, refl, low))

pub adds-nothing : (made : List Made) (H K L : List Entry1) → AddsOwn made H K → BeginsBy IsNotBegun K L
    → AddsOwn made H L
adds-nothing made H K L adds r =
    let (m, more, readings, none) = r in
    subst (λ (l : List Made). AddsOwn l H L) (ap (λ (l : List Made). made ++ l) none ∙ append-nil made)
    (adds-both made m H K L adds more)

pub adds-get : {E : Type 0} (f : Found) (k : ℕ) (rs new : List Reply) (r : Reply) (H K L : List Entry1)
    → new ≡ rs ++ r ∷ [] → length rs ≡ k
    → AddsOwn (gets_from f 0 rs) H K
    → ReadsBy {T = Reply} {E = E} (IsOneStep (step.Get f.inode f.generation k)) IsNotBegun (Ok r) K L
    → AddsOwn (gets_from f 0 new) H L
adds-get f k rs new r H K L is long so_far one =
    let at : k ≡ 0 + length rs = omega (arith, long) in
    let last : (step.Get f.inode f.generation k, r) ≡ (step.Get f.inode f.generation (0 + length rs), r) = ap
    (λ (n : ℕ). (step.Get f.inode f.generation n, r)) at in
    let whole : gets_from f 0 rs ++ (step.Get f.inode f.generation k, r) ∷ [] ≡ gets_from f 0 new =
    ap (λ (m : Made). gets_from f 0 rs ++ m ∷ []) last
    ∙ (sym (gets-snoc f 0 rs r) ∙ ap (gets_from f 0) (sym is)) in
    subst (λ (m : List Made). AddsOwn m H L) whole
    (adds-both (gets_from f 0 rs) ((step.Get f.inode f.generation k, r) ∷ []) H K L so_far
    (one-added (step.Get f.inode f.generation k) r K L one))

pub adds-init : (f : Found) (rs : List Reply) (H : List Entry1) → rs ≡ [] → AddsOwn (gets_from f 0 rs) H H
adds-init f rs H is = subst (λ (l : List Reply). AddsOwn (gets_from f 0 l) H H) (sym is) (adds-none H)

-- the name that was looked up
pub look-named : {E : Type 0} (d g : ℕ) (n m : List ℕ) (r : Reply) (H K : List Entry1) → n ≡ m
    → ReadsBy {T = Reply} {E = E} (IsOneStep (step.Look d g n)) IsNotBegun (Ok r) H K
    → ReadsBy {T = Reply} {E = E} (IsOneStep (step.Look d g m)) IsNotBegun (Ok r) H K
look-named {E} d g n m r H K is one =
    subst (λ (l : List ℕ). ReadsBy {T = Reply} {E = E} (IsOneStep (step.Look d g l)) IsNotBegun (Ok r) H K) is one

pub long-more : (rs new : List Reply) (r : Reply) (k : ℕ) → new ≡ rs ++ r ∷ [] → length rs ≡ k → length new ≡ k + 1
long-more rs new r k is long = let n = ap length is in let m = length-append rs (r ∷ []) in omega (arith, n, m, long)

-- this step was made, and then what follows from its reply
abbrev pub Leads : {A : Type 0} → (Reply → Option A) → (A → Option FileRead → List Made → Type 0)
    → Step → Option FileRead → List Made → Type 0
Leads f Next s read made = (q : Reply) × (rest : List Made) × (made ≡ (s, q) ∷ rest)
    × FollowsAnswer Next (f q) read rest

-- of a whole reading the beginning that is the whole of it
leads-begun : {A : Type 0} (f : Reply → Option A) (Next : A → Option FileRead → List Made → Type 0)
    (Then : A → List Made → Type 0) (s : Step) (read : Option FileRead) (made : List Made)
    → ((it : A) (rest : List Made) → Next it read rest → Then it rest)
    → Leads f Next s read made → IsStepBegun f Then s made
leads-begun {A} f Next Then s read made each (q, rest, is, follows) =
    subst (λ (m : List Made). IsStepBegun f Then s m) (sym is) (refl, go (f q) follows)
  where
    go : (o : Option A) → FollowsAnswer Next o read rest → IsAnswerBegun Then o rest
    go None x = x.1
    go (Some it) x = each it rest x

at-most : (a b : ℕ) → a ≡ b → a ≤ b
at-most a b e = omega (arith, e)

whole-begun : (f : Found) (s : Stat) (read : Option FileRead) (rest : List Made) → IsWholeRead f s read rest
    → AreSlotsBegun f s rest
whole-begun f s None rest x = absurd x
whole-begun f s (Some file) rest (found, size, long, is) =
    (file.slots.items, is, at-most (length file.slots.items) (slots_in s.size) long)

pub file-begun : (user : ℕ) (read : Option FileRead) (made : List Made) → IsFileRead user read made
    → IsFileBegun user made
file-begun user read made =
    leads-begun found_in IsReadIn IsReadInBegun (step.Look 1 1 (digit user)) read made
    (λ d rest. leads-begun found_in IsReadAt IsReadAtBegun (step.Look d.inode d.generation (codes "f")) read rest
    (λ f rest. leads-begun stat_in (IsWholeRead f) (AreSlotsBegun f) (step.Stat f.inode f.generation) read rest
    (λ s rest. whole-begun f s read rest)))

-- a step of PROGRAM after which nothing is asked for
pub reads-end : {A E : Type 0} (f : Reply → Option A) (Next : A → Option FileRead → List Made → Type 0)
    (Begun : List Made → Type 0) (s : Step) (r : Reply) (H K : List Entry1)
    → ReadsBy {T = Reply} {E = E} (IsOneStep s) IsNotBegun (Ok r) H K
    → f r ≡ None → ReadsBy {T = Option FileRead} {E = E} (Leads f Next s) Begun (Ok None) H K
reads-end f Next Begun s r H K one none = record {
  made = (s, r) ∷ [];
  adds = one-added s r H K one;
  readings = (one-reading s r H K one, tt);
  read = (r, [], refl, subst (λ o. FollowsAnswer Next o None []) (sym none) (refl, refl));
}

-- and one after which it goes on
pub reads-more : {A E : Type 0} (f : Reply → Option A) (Next : A → Option FileRead → List Made → Type 0)
    (Then : A → List Made → Type 0) (s : Step) (r : Reply) (H K L : List Entry1)
    (it : A) (made : Result (Option FileRead) E)
    → ReadsBy {T = Reply} {E = E} (IsOneStep s) IsNotBegun (Ok r) H K → f r ≡ Some it
    → ReadsBy (Next it) (Then it) made K L
    → ReadsBy (Leads f Next s) (IsStepBegun f Then s) made H L
reads-more {A} {E} f Next Then s r H K L it made one some more = record {
  made = (s, r) ∷ more.made;
  adds = adds-both ((s, r) ∷ []) more.made H K L (one-added s r H K one) more.adds;
  readings = (one-reading s r H K one, more.readings);
  read = go made more.read;
}
  where
    go : (m : Result (Option FileRead) E) → AreStepsOf (Next it) (Then it) m more.made
        → AreStepsOf (Leads f Next s) (IsStepBegun f Then s) m ((s, r) ∷ more.made)
    go (Ok read) next = (r, more.made, refl, subst (λ o. FollowsAnswer Next o read more.made) (sym some) next)
    go (Err e) next = (refl, subst (λ o. IsAnswerBegun Then o more.made) (sym some) next)

-- the step of a name that was looked up
looked : {E : Type 0} (d g : ℕ) (name : List ℕ) (o : Option Found) (H K : List Entry1)
    → ReadsBy {T = Option Found} {E = E} (IsLookedUp d g name) IsNotBegun (Ok o) H K
    → (r : Reply) × ReadsBy {T = Reply} {E = E} (IsOneStep (step.Look d g name)) IsNotBegun (Ok r) H K
    × (o ≡ found_in r)
looked d g name o H K x = let (r, is, found) = x.read in
    (r, record { made = x.made; adds = x.adds; readings = x.readings; read = is }, found)

module _ {E : Type 0} (Next : Found → Option FileRead → List Made → Type 0) (Then : Found → List Made → Type 0)
    (d g : ℕ) (name : List ℕ) (o : Option Found) (H K : List Entry1)
    (x : ReadsBy {T = Option Found} {E = E} (IsLookedUp d g name) IsNotBegun (Ok o) H K) where
  pub look-end : o ≡ None
      → ReadsBy {T = Option FileRead} {E = E} (Leads found_in Next (step.Look d g name))
      (IsStepBegun found_in Then (step.Look d g name)) (Ok None) H K
  look-end none =
      let one = looked {E = E} d g name o H K x in
      reads-end found_in Next (IsStepBegun found_in Then (step.Look d g name)) (step.Look d g name) one.0 H K one.1
      (sym one.2 ∙ none)

  pub look-more : (it : Found) (made : Result (Option FileRead) E) (L : List Entry1) → o ≡ Some it
      → ReadsBy (Next it) (Then it) made K L
      → ReadsBy (Leads found_in Next (step.Look d g name)) (IsStepBegun found_in Then (step.Look d g name)) made H L
  look-more it made L some more =
      let one = looked {E = E} d g name o H K x in
      reads-more found_in Next Then (step.Look d g name) one.0 H K L it made one.1 (sym one.2 ∙ some) more

-- less is said of the same steps
pub reads-as : {T U E : Type 0} (Is : T → List Made → Type 0) (Says : U → List Made → Type 0)
    (Begun Other : List Made → Type 0) (t : T) (u : U) (H K : List Entry1)
    → ReadsBy {T = T} {E = E} Is Begun (Ok t) H K → ((made : List Made) → Is t made → Says u made)
    → ReadsBy {T = U} {E = E} Says Other (Ok u) H K
reads-as Is Says Begun Other t u H K r says =
    record { made = r.made; adds = r.adds; readings = r.readings; read = says r.made r.read }

-- what was read before a failure
pub as-begun : {T E : Type 0} (Is : T → List Made → Type 0) (Begun Other : List Made → Type 0) (t : T)
    (H K : List Entry1)
    → ReadsBy {T = T} {E = E} Is Begun (Ok t) H K → ((made : List Made) → Is t made → Other made)
    → BeginsBy Other H K
as-begun Is Begun Other t H K r says = (r.made, r.adds, r.readings, says r.made r.read)

-- the file of a user was read, and kept at the end of these
abbrev pub Pushed : {T E : Type 0} → ℕ → Result T E → List Entry1 → List Entry1 → List (Option FileRead)
    → List (Option FileRead) → Type 0
Pushed user result H K old new =
    ReadsBy (λ _ made. (read : Option FileRead) × (new ≡ old ++ read ∷ []) × IsFileRead user read made)
    (IsFileBegun user) result H K

-- the files of the first users were read
abbrev pub FilesTo : ℕ → List (Option FileRead) → List Entry1 → List Entry1 → Type 0
FilesTo n l H K = (length l ≡ n) × ((made : List Made) × AddsOwn made H K × AreReadings made × AreRead 1 l made)

pub files-none : (l : List (Option FileRead)) (H : List Entry1) → l ≡ [] → FilesTo 0 l H H
files-none l H is = subst (λ (x : List (Option FileRead)). FilesTo 0 x H H) (sym is) (refl, ([], adds-none H, tt, refl))

one-more : (user : ℕ) (l : List (Option FileRead)) (x : Option FileRead) (made m : List Made) → AreRead user l made
    → IsFileRead (user + length l) x m → AreRead user (l ++ x ∷ []) (made ++ m)
one-more user [] x made m none one =
    let e : user + 0 ≡ user = omega arith in (
      m,
      [],
      ap (λ (l : List Made). l ++ m) none ∙ sym (append-nil m),
      subst (λ (k : ℕ). IsFileRead k x m) e one,
      refl,
    )
one-more user (y ∷ l) x made m (front, back, is, first, rest) one =
    let e : user + length (y ∷ l) ≡ user + 1 + length l = omega arith in (
      front,
      back ++ m,
      ap (λ (l : List Made). l ++ m) is ∙ append_assoc front back m,
      first,
      one-more (user + 1) l x back m rest (subst (λ (k : ℕ). IsFileRead k x m) e one),
    )

-- and the next one's
pub files-more : {T E : Type 0} (t : T) (n : ℕ) (l new : List (Option FileRead)) (H K L : List Entry1) → FilesTo n l H K
    → Pushed {T = T} {E = E} (n + 1) (Ok t) K L l new → FilesTo (n + 1) new H L
files-more t n l new H K L (long, (made, adds, readings, read)) p =
    let (x, is, one) = p.read in
    let e : n + 1 ≡ 1 + length l = omega (arith, long) in
    let more = length-append l (x ∷ []) in
    let whole = ap length is in (
      omega (arith, long, more, whole),
      (
        made ++ p.made,
        adds-both made p.made H K L adds p.adds,
        readings-both made p.made readings p.readings,
        subst (λ (r : List (Option FileRead)). AreRead 1 r (made ++ p.made)) (sym is)
            (one-more 1 l x made p.made read (subst (λ (k : ℕ). IsFileRead k x p.made) e one)),
      ),
    )

-- or memory was wanting to that
pub files-cut : {T E : Type 0} (e : E) (n : ℕ) (l new : List (Option FileRead)) (H K L : List Entry1) → n ≤ 3
    → FilesTo n l H K → Pushed {T = T} {E = E} (n + 1) (Err e) K L l new → BeginsBy AreFourBegun H L
files-cut e n l new H K L low (long, (made, adds, readings, read)) p = (
  made ++ p.made,
  adds-both made p.made H K L adds p.adds,
  readings-both made p.made readings p.readings,
  (
    l,
    made,
    p.made,
    refl,
    (omega (arith, long, low)),
    read,
    subst (λ (k : ℕ). IsFileBegun (k + 1) p.made) (sym long) p.read,
  ),
)
