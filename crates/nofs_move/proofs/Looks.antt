-- The steps of a move from its first Look on.
use Rattle.std.proofs.Common.{◌≡◌, ◌≢◌, ℕ, zero, suc, ◌+◌, ◌-◌, ◌<◌, ◌≤◌, ◌⊎◌, inl, inr, ⊎_elim, Bool, true, false}
use Rattle.std.proofs.Common.{List, [], ◌∷◌, length, Some, refl, ap, ◌∙◌, subst, arith}
use Rattle.std.specs.Prelude.{slice_get, nat_lt, if◌then◌else◌}
use Rattle.std.proofs.lemmas.Bool.Decides.{nat_tests}
use Rattle.nofs_inode.specs.declared.inode.FileKind.{FileKind}
use Rattle.nofs_history.specs.Machine.{is_refused}
use Rattle.nofs_history.specs.Steps.{Made}
use Rattle.nofs_history.specs.declared.machine.replies.Found.{Found}
use Rattle.nofs_history.specs.declared.machine.steps.Step.TheVariants as step
use Rattle.nofs_history.specs.declared.machine.replies.Reply.{Reply}
use Rattle.nofs_history.specs.declared.machine.replies.Reply.TheVariants as reply
use Rattle.nofs_client.specs.declared.task.commands.Command.TheVariants as command
use Rattle.nofs_client.specs.declared.task.commands.Path.{Path}
use Rattle.nofs_client.specs.declared.task.lines.Line.TheVariants as line
use Rattle.nofs_client.specs.declared.task.places.Handle.{Handle}
use Rattle.nofs_client.specs.declared.task.places.Location.{Location}
use Rattle.nofs_client.specs.declared.progress.Progress.{Progress}
use Rattle.nofs_client.specs.declared.task.state.Stage.TheVariants as stage
use Rattle.nofs_client.specs.declared.task.state.Task.{Task}
use Rattle.nofs_client.specs.declared.task.state.Task.TheVariants as task
use Rattle.nofs_client.specs.Task.Commands.{names_of, HasName}
use Rattle.nofs_client.specs.Task.Places.{first_handle, name_at, last_name, new_looks}
use Rattle.nofs_client.specs.Task.State.{arrived, arrived_new}
use Rattle.nofs_client.specs.Task.Steps.{task_asks, look_in}
use Rattle.nofs_client.specs.Task.Answers.{task_after, handle_of}
use Rattle.nofs_client.specs.Progress.{start_of, progress_after}
use Rattle.nofs_client.specs.Driver.{Asked}
use Rattle.nofs_move.specs.Linked.{is_idle, LinkedSteps}
use Rattle.nofs_move.proofs.Driver.{looks-idle, Again, Stops, Answered, leads, Says, unsaid, none-in}
use Rattle.nofs_move.proofs.Stages.{Told, AllTold, Moves, more-moves, Moving, more-moving}
use Rattle.nofs_move.proofs.Walk.{after-told, first-told, Goes, passes, passes-other, refused-ends, not-linked, moving}

tested : (a b : ℕ) (P : Bool → Type 0) → (a < b → P true) → (b ≤ a → P false) → P (nat_lt a b)
tested a b P below above =
    let Q : Bool → Type 0 = λ v. nat_lt a b ≡ v → P v in
    let k : Q (nat_lt a b) = elim (nat_lt a b) as Q
    [ true ↦ λ e. below (grind (arith, nat_tests)) | false ↦ λ e. above (grind (arith, nat_tests)) ] in
    k refl

told-look : (d g : ℕ) (name : List ℕ) (r : Reply) → Told (step.Look d g name) r
    → is_refused r ≡ false → (f : Found) × (r ≡ reply.Found f)
told-look d g name (reply.Refused why) told ok = cc ok
told-look d g name (reply.Found f) told ok = (f, refl)
told-look d g name _ told ok = absurd told

module _ (from to : Path) where
  -- where a move stands after so many names
  arrives-new : (place : Location) (into : Handle) (depth : ℕ)
      → (arrived_new (command.Move from to) place into depth ≡ task.LookingNew place into depth) ⊎
      (arrived_new (command.Move from to) place into depth ≡ task.Linking place into stage.Flush)
  arrives-new place into depth =
      let P : Bool → Type 0 = λ b. let t : Task = if b then task.LookingNew place into depth
      else task.Linking place into stage.Flush in
      (t ≡ task.LookingNew place into depth) ⊎ (t ≡ task.Linking place into stage.Flush) in
      tested depth (new_looks (command.Move from to)) P (λ lt. inl refl) (λ le. inr refl)

  arrives : (place : Location) (depth : ℕ)
      → ((arrived (command.Move from to) place depth ≡ task.Looking place depth) × (depth < length (names_of from)))
      ⊎ ((arrived (command.Move from to) place depth ≡ arrived_new (command.Move from to) place (first_handle to) 0)
      × (length (names_of from) ≤ depth))
  arrives place depth =
      let P : Bool → Type 0 = λ b.
      let t : Task = if b then task.Looking place depth
      else arrived_new (command.Move from to) place (first_handle to) 0 in
      ((t ≡ task.Looking place depth) × (depth < length (names_of from))) ⊎
      ((t ≡ arrived_new (command.Move from to) place (first_handle to) 0) × (length (names_of from) ≤ depth)) in
      tested depth (length (names_of from)) P (λ lt. inl (refl, lt)) (λ le. inr (refl, le))

  -- the steps of a move from its first flush on
  abbrev MovesOf : Type 0 → Location → Handle → List Made → Type 0
  MovesOf S place into ms = Moves S (step.Drop place.directory.inode place.directory.generation (last_name from))
      (step.Flush place.found.inode place.found.generation)
      (step.Link into.inode into.generation (last_name to) place.found.inode place.found.generation) ms

  -- from the Look of the new path on
  record Reaching (S : Type 0) (place : Location) (ms : List Made) : Type 0 where
    into : Handle
    moves : Moving S (step.Drop place.directory.inode place.directory.generation (last_name from))
        (step.Flush place.found.inode place.found.generation)
        (step.Link into.inode into.generation (last_name to) place.found.inode place.found.generation) ms

  more-reaching : (S : Type 0) (place : Location) (x : Made) (ms : List Made) → is_idle x ≡ true → Reaching S place ms
      → Reaching S place (x ∷ ms)
  more-reaching S place x ms idle t = record { into = t.into; moves = more-moving S _ _ _ x ms idle t.moves }

  reaching : (place : Location) (ms : List Made) (p : Progress) (into : Handle) (depth : ℕ)
      → p.task ≡ task.LookingNew place into depth → AllTold ms
      → Asked (command.Move from to) p ms → Goes from to p ms → Reaching (Says from to p ms) place ms
  reaching place [] p into depth t told asked (inl (k, s, h)) = absurd (none-in [] k (s, reply.Linked) refl h)
  reaching place [] p into depth t told asked (inr says) = absurd
      (unsaid from to p (look_in into (name_at to depth)) line.Moved (ap (task_asks (command.Move from to)) t) says)
  reaching place (x ∷ ms) p into depth t told asked goes =
      elim (leads from to p (look_in into (name_at to depth)) x (ap (task_asks (command.Move from to)) t)
      (λ why. ap (λ t. task_after (command.Move from to) t (reply.Refused why)) t) asked.0) [
        | Again idle same ↦
            more-reaching (Says from to p (x ∷ ms)) place x ms idle
            (reaching place ms (progress_after (command.Move from to) p x.1) into depth (same ∙ t)
            (after-told x ms told) asked.1
            (passes from to x ms p told idle goes))
        | Stops by why r e ↦ absurd (refused-ends from to (progress_after (command.Move from to) p x.1) why e ms asked.1
            (passes-other from to x ms p (not-linked from to x.1 why r) goes))
        | Answered is ok e ↦
            let answer = told-look into.inode into.generation (name_at to depth) x.1
            (subst (λ s. Told s x.1) is (first-told x ms told)) ok in
            let idle = looks-idle x (look_in into (name_at to depth)) is refl in
            let next : (progress_after (command.Move from to) p x.1).task ≡ arrived_new (command.Move from to) place
            (handle_of answer.0) (depth + 1) =
            ap (λ (q : Progress). q.task) e ∙ ap (λ t. task_after (command.Move from to) t x.1) t
            ∙ ap (λ r. task_after (command.Move from to) (task.LookingNew place into depth) r) answer.1 in
            let goes' = passes from to x ms p told idle goes in
            elim (arrives-new place (handle_of answer.0) (depth + 1)) [
              | inl on ↦
                  more-reaching (Says from to p (x ∷ ms)) place x ms idle
                  (reaching place ms (progress_after (command.Move from to) p x.1) (handle_of answer.0) (depth + 1)
                  (next ∙ on) (after-told x ms told)
                  asked.1 goes')
              | inr on ↦
                  more-reaching (Says from to p (x ∷ ms)) place x ms idle
                  (record {
                    into = handle_of answer.0;
                    moves =
                        moving from to place (handle_of answer.0) ms (progress_after (command.Move from to) p x.1)
                        (next ∙ on) (after-told x ms told)
                        asked.1 goes';
                  })
            ]
      ]

  -- from the first Look on
  pub record Located (S : Type 0) (ms : List Made) : Type 0 where
    pub place : Location
    pub into : Handle
    pub kind : FileKind
    pub look : ℕ
    pub looked : slice_get ms look ≡ Some (
      step.Look place.directory.inode place.directory.generation (last_name from),
      reply.Found (record { inode = place.found.inode; generation = place.found.generation; kind = kind }),
    )
    pub moves : MovesOf S place into ms
    pub open moves use *
    pub flush_after : look < flush
    pub others : (k : ℕ) (m : Made) → look < k → slice_get ms k ≡ Some m → k ≢ link → k ≢ drop → is_idle m ≡ true

  more-located : (S : Type 0) (x : Made) (ms : List Made) → Located S ms → Located S (x ∷ ms)
  more-located S x ms t = record {
    place = t.place;
    into = t.into;
    kind = t.kind;
    look = suc t.look;
    looked = t.looked;
    moves = more-moves S _ _ _ x ms t.moves;
    flush_after = let a = t.flush_after in omega (arith, a);
    others = at;
  }
    where
      at : (k : ℕ) (m : Made) → suc t.look < k → slice_get (x ∷ ms) k ≡ Some m → k ≢ suc t.link → k ≢ suc t.drop
          → is_idle m ≡ true
      at zero m lt h nl nd = absurd (omega (arith, lt))
      at (suc k) m lt h nl nd = t.others k m (omega (arith, lt)) h (λ e. nl (ap suc e)) (λ e. nd (ap suc e))

  looked-reaching : (S : Type 0) (place : Location) (kind : FileKind) (x : Made) (ms : List Made)
      → x ≡ (
        step.Look place.directory.inode place.directory.generation (last_name from),
        reply.Found (record { inode = place.found.inode; generation = place.found.generation; kind = kind }),
      )
      → Reaching S place ms → Located S (x ∷ ms)
  looked-reaching S place kind x ms is t = record {
    place = place;
    into = t.into;
    kind = kind;
    look = 0;
    looked = ap Some is;
    moves = more-moves S _ _ _ x ms t.moves.moves;
    flush_after = omega arith;
    others = at;
  }
    where
      at : (k : ℕ) (m : Made) → 0 < k → slice_get (x ∷ ms) k ≡ Some m → k ≢ suc t.moves.link → k ≢ suc t.moves.drop
          → is_idle m ≡ true
      at zero m lt h nl nd = absurd (omega (arith, lt))
      at (suc k) m lt h nl nd = t.moves.idle k m h (λ e. nl (ap suc e), λ e. nd (ap suc e))

  locating : (ms : List Made) (p : Progress) (place : Location) (depth : ℕ) → p.task ≡ task.Looking place depth
      → depth < length (names_of from) → AllTold ms
      → Asked (command.Move from to) p ms → Goes from to p ms → Located (Says from to p ms) ms
  locating [] p place depth t lt told asked (inl (k, s, h)) = absurd (none-in [] k (s, reply.Linked) refl h)
  locating [] p place depth t lt told asked (inr says) = absurd
      (unsaid from to p (look_in place.found (name_at from depth)) line.Moved
      (ap (task_asks (command.Move from to)) t) says)
  locating (x ∷ ms) p place depth t lt told asked goes =
      elim (leads from to p (look_in place.found (name_at from depth)) x (ap (task_asks (command.Move from to)) t)
      (λ why. ap (λ t. task_after (command.Move from to) t (reply.Refused why)) t) asked.0) [
        | Again idle same ↦
            more-located (Says from to p (x ∷ ms)) x ms
            (locating ms (progress_after (command.Move from to) p x.1) place depth (same ∙ t) lt
            (after-told x ms told) asked.1
            (passes from to x ms p told idle goes))
        | Stops by why r e ↦ absurd (refused-ends from to (progress_after (command.Move from to) p x.1) why e ms asked.1
            (passes-other from to x ms p (not-linked from to x.1 why r) goes))
        | Answered is ok e ↦
            let answer = told-look place.found.inode place.found.generation (name_at from depth) x.1
            (subst (λ s. Told s x.1) is (first-told x ms told)) ok in
            let idle = looks-idle x (look_in place.found (name_at from depth)) is refl in
            let here : Location = record { directory = place.found; found = handle_of answer.0 } in
            let next : (progress_after (command.Move from to) p x.1).task ≡ arrived (command.Move from to)
            here (depth + 1) =
            ap (λ (q : Progress). q.task) e ∙ ap (λ t. task_after (command.Move from to) t x.1) t
            ∙ ap (λ r. task_after (command.Move from to) (task.Looking place depth) r) answer.1 in
            let goes' = passes from to x ms p told idle goes in
            elim (arrives here (depth + 1)) [
              | inl on ↦ more-located (Says from to p (x ∷ ms)) x ms
                  (locating ms (progress_after (command.Move from to) p x.1) here (depth + 1) (next ∙ on.0) on.1
                  (after-told x ms told) asked.1 goes')
              | inr on ↦
                  let last : depth ≡ length (names_of from) - 1 = omega (arith, lt, on.1) in
                  let is_look : x.0 ≡ step.Look place.found.inode place.found.generation (last_name from) =
                  is ∙ ap (λ n. look_in place.found (name_at from n)) last in
                  looked-reaching (Says from to p (x ∷ ms)) here answer.0.kind x ms (λ j. (is_look j, answer.1 j))
                  (elim (arrives-new here (first_handle to) 0) [
                    | inl new ↦ reaching here ms (progress_after (command.Move from to) p x.1) (first_handle to) 0
                        (next ∙ on.0 ∙ new) (after-told x ms told)
                        asked.1 goes'
                    | inr new ↦ record {
                      into = first_handle to;
                      moves =
                          moving from to here (first_handle to) ms (progress_after (command.Move from to) p x.1)
                          (next ∙ on.0 ∙ new) (after-told x ms told)
                          asked.1 goes';
                    }
                  ])
            ]
      ]

  pub located : (made : List Made) → HasName from → AllTold made
      → Asked (command.Move from to) (start_of (command.Move from to)) made
      → Goes from to (start_of (command.Move from to)) made
      → Located (Says from to (start_of (command.Move from to)) made) made
  located made name told asked goes =
      let here : Location = record { directory = first_handle from; found = first_handle from } in
      elim (arrives here 0) [
        | inl on ↦ locating made (start_of (command.Move from to)) here 0 on.0 on.1 told asked goes
        | inr on ↦ absurd (omega (arith, on.1, name))
      ]

  -- the steps of a move that linked its file
  abbrev pub linked-steps : (S : Type 0) (made : List Made) → Located S made → LinkedSteps from to made
  linked-steps S made t = record {
    d = t.place.directory.inode;
    dg = t.place.directory.generation;
    d2 = t.into.inode;
    dg2 = t.into.generation;
    i = t.place.found.inode;
    g = t.place.found.generation;
    kind = t.kind;
    look = t.look;
    flush = t.flush;
    link = t.link;
    second = t.second;
    drop = t.drop;
    flush_after = t.flush_after;
    link_after = t.link_after;
    looked = t.looked;
    flushed = t.flushed;
    linked = t.linked;
    ends = ⊎_elim (λ e. inl e.0)
        (λ r. inr (record { after_link = r.0; before_drop = r.1; flushed = r.2; answer = r.3; dropped = r.4 })) t.ends;
    others = t.others;
  }
