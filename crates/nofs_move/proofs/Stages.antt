-- The steps of a move from each of its stages on.
use Rattle.std.proofs.Common.{◌≡◌, ◌≢◌, ℕ, zero, suc, ◌<◌, ◌⊎◌, inl, inr, ⊎_elim, true, false, List, [], ◌∷◌, length}
use Rattle.std.proofs.Common.{Some, refl, sym, ap, ◌∙◌, subst, arith}
use Rattle.std.specs.Prelude.{slice_get}
use Rattle.nofs_history.specs.Machine.{is_refused}
use Rattle.nofs_history.specs.Steps.{Made}
use Rattle.nofs_history.specs.declared.machine.steps.Step.{Step}
use Rattle.nofs_history.specs.declared.machine.steps.Step.TheVariants as step
use Rattle.nofs_history.specs.declared.machine.replies.Reply.{Reply}
use Rattle.nofs_history.specs.declared.machine.replies.Reply.TheVariants as reply
use Rattle.nofs_move.specs.Linked.{is_idle}
use Rattle.nofs_move.proofs.Driver.{none-in}

-- The reply is one that the machine gives to the step
abbrev pub Told : Step → Reply → Type 0
Told s (reply.Refused why) = Unit {0}
Told (step.Look d g name) (reply.Found found) = Unit {0}
Told (step.Flush i g) reply.Flushed = Unit {0}
Told (step.Link d g name i of) reply.Linked = Unit {0}
Told (step.Look d g name) _ = ⊥
Told (step.Flush i g) _ = ⊥
Told (step.Link d g name i of) _ = ⊥
Told s reply.Linked = ⊥
Told s _ = Unit {0}

abbrev pub AllTold : List Made → Type 0
AllTold ms = (k : ℕ) (m : Made) → slice_get ms k ≡ Some m → Told m.0 m.1

-- some step was answered Linked
abbrev pub AnsweredLinked : List Made → Type 0
AnsweredLinked ms = (k : ℕ) × (s : Step) × (slice_get ms k ≡ Some (s, reply.Linked))

pub idle-unlinked : (s : Step) (r : Reply) → Told s r → is_idle (s, r) ≡ true → r ≡ reply.Linked → ⊥
idle-unlinked (step.Look d g name) r told idle e = subst (λ q. Told (step.Look d g name) q) e told
idle-unlinked (step.Flush i g) r told idle e = subst (λ q. Told (step.Flush i g) q) e told
idle-unlinked (step.SeeInode i) r told idle e = subst (λ q. Told (step.SeeInode i) q) e told
idle-unlinked (step.SeeBlock p) r told idle e = subst (λ q. Told (step.SeeBlock p) q) e told
idle-unlinked s r told idle e = go s (subst (λ q. Told s q) e told) (sym (ap (λ q. is_idle (s, q)) e) ∙ idle)
  where
    go : (s : Step) → Told s reply.Linked → is_idle (s, reply.Linked) ≡ true → ⊥
    go (step.Link d g name i of) told idle = cc idle
    go (step.Look d g name) told idle = told
    go (step.Flush i g) told idle = told
    go (step.SeeInode i) told idle = told
    go (step.SeeBlock p) told idle = told
    go _ told idle = absurd told

-- What the machine accepts

pub told-flush : (i g : ℕ) (r : Reply) → Told (step.Flush i g) r → is_refused r ≡ false → r ≡ reply.Flushed
told-flush i g (reply.Refused why) told ok = cc ok
told-flush i g reply.Flushed told ok = refl
told-flush i g _ told ok = absurd told

pub told-link : (d dg : ℕ) (name : List ℕ) (i g : ℕ) (r : Reply) → Told (step.Link d dg name i g) r
    → is_refused r ≡ false → r ≡ reply.Linked
told-link d dg name i g (reply.Refused why) told ok = cc ok
told-link d dg name i g reply.Linked told ok = refl
told-link d dg name i g _ told ok = absurd told

-- One more step before

pub same-head : (x m : Made) (ms : List Made) → slice_get (x ∷ ms) zero ≡ Some m → x ≡ m
same-head x m ms h = cc h

unlike : (j : ℕ) {k : ℕ} → suc k ≢ suc j → k ≢ j
unlike j n e = n (ap suc e)

later : (x : Made) (ms : List Made) → is_idle x ≡ true → (P : ℕ → Made → Type 0)
    → ((k : ℕ) (m : Made) → slice_get ms k ≡ Some m → P (suc k) m → is_idle m ≡ true)
    → (k : ℕ) (m : Made) → slice_get (x ∷ ms) k ≡ Some m → P k m
    → is_idle m ≡ true
later x ms idle P rest zero m h p = ap is_idle (sym (same-head x m ms h)) ∙ idle
later x ms idle P rest (suc k) m h p = rest k m h p

module _ (S : Type 0) (D : Step) where
  -- from the last stage on: Drop, where it came
  pub record Dropping (ms : List Made) : Type 0 where
    pub drop : ℕ
    pub ends : ((drop ≡ length ms) × (S → ⊥)) ⊎ ((r : Reply) × (slice_get ms drop ≡ Some (D, r)))
    pub idle : (k : ℕ) (m : Made) → slice_get ms k ≡ Some m → k ≢ drop → is_idle m ≡ true

  pub no-drop : (S → ⊥) → Dropping []
  no-drop n = record { drop = 0; ends = inl (refl, n); idle = λ k m h nd. absurd (none-in [] k m refl h) }

  pub more-dropping : (x : Made) (ms : List Made) → is_idle x ≡ true → Dropping ms → Dropping (x ∷ ms)
  more-dropping x ms idle t = record {
    drop = suc t.drop;
    ends = ⊎_elim (λ e. inl (omega (arith, e.0), e.1)) (λ r. inr r) t.ends;
    idle = later x ms idle (λ k m. k ≢ suc t.drop) (λ k m h nd. t.idle k m h (unlike t.drop nd));
  }

  -- from the second flush on
  pub record Flushing (F : Step) (ms : List Made) : Type 0 where
    pub second : ℕ
    pub drop : ℕ
    pub ends : ((drop ≡ length ms) × (S → ⊥))
        ⊎ ((second < drop) × (slice_get ms second ≡ Some (F, reply.Flushed)) × (r : Reply) ×
        (slice_get ms drop ≡ Some (D, r)))
    pub idle : (k : ℕ) (m : Made) → slice_get ms k ≡ Some m → k ≢ drop → is_idle m ≡ true

  pub no-flush : (F : Step) → (S → ⊥) → Flushing F []
  no-flush F n =
      record { second = 0; drop = 0; ends = inl (refl, n); idle = λ k m h nd. absurd (none-in [] k m refl h) }

  pub more-flushing : (F : Step) (x : Made) (ms : List Made) → is_idle x ≡ true → Flushing F ms → Flushing F (x ∷ ms)
  more-flushing F x ms idle t = record {
    second = suc t.second;
    drop = suc t.drop;
    ends = ⊎_elim (λ e. inl (omega (arith, e.0), e.1)) (λ r. inr (omega (arith, r.0), r.1, r.2, r.3)) t.ends;
    idle = later x ms idle (λ k m. k ≢ suc t.drop) (λ k m h nd. t.idle k m h (unlike t.drop nd));
  }

  pub flushed-dropping : (F : Step) (x : Made) (ms : List Made) → is_idle x ≡ true → x ≡ (F, reply.Flushed)
      → Dropping ms → Flushing F (x ∷ ms)
  flushed-dropping F x ms idle is t = record {
    second = 0;
    drop = suc t.drop;
    ends = ⊎_elim (λ e. inl (omega (arith, e.0), e.1)) (λ r. inr (omega arith, ap Some is, r.0, r.1)) t.ends;
    idle = later x ms idle (λ k m. k ≢ suc t.drop) (λ k m h nd. t.idle k m h (unlike t.drop nd));
  }

  -- the steps from Link on
  pub record Links (F L : Step) (ms : List Made) : Type 0 where
    pub link : ℕ
    pub second : ℕ
    pub drop : ℕ
    pub linked : slice_get ms link ≡ Some (L, reply.Linked)
    pub ends : ((drop ≡ length ms) × (S → ⊥))
        ⊎ ((link < second) × (second < drop) × (slice_get ms second ≡ Some (F, reply.Flushed)) × (r : Reply) ×
        (slice_get ms drop ≡ Some (D, r)))

  abbrev pub more-links : (F L : Step) (x : Made) (ms : List Made) → Links F L ms → Links F L (x ∷ ms)
  more-links F L x ms t = record {
    link = suc t.link;
    second = suc t.second;
    drop = suc t.drop;
    linked = t.linked;
    ends = ⊎_elim (λ e. inl (omega (arith, e.0), e.1))
        (λ r. inr (omega (arith, r.0), omega (arith, r.1), r.2, r.3, r.4)) t.ends;
  }

  -- each step beside Link and Drop changed nothing
  abbrev pub AllIdle : List Made → ℕ → ℕ → Type 0
  AllIdle ms link drop = (k : ℕ) (m : Made) → slice_get ms k ≡ Some m → (k ≢ link) × (k ≢ drop) → is_idle m ≡ true

  more-idle : (x : Made) (ms : List Made) (link drop : ℕ) → is_idle x ≡ true → AllIdle ms link drop
      → AllIdle (x ∷ ms) (suc link) (suc drop)
  more-idle x ms link drop idle rest =
      later x ms idle (λ k m. (k ≢ suc link) × (k ≢ suc drop))
      (λ k m h nd. rest k m h (unlike link nd.0, unlike drop nd.1))

  -- from Link on
  pub record Linking (F L : Step) (ms : List Made) : Type 0 where
    pub links : Links F L ms
    pub open links use *
    pub idle : AllIdle ms link drop

  pub more-linking : (F L : Step) (x : Made) (ms : List Made) → is_idle x ≡ true → Linking F L ms → Linking F L (x ∷ ms)
  more-linking F L x ms idle t =
      record { links = more-links F L x ms t.links; idle = more-idle x ms t.link t.drop idle t.idle }

  pub linked-flushing : (F L : Step) (x : Made) (ms : List Made) → x ≡ (L, reply.Linked) → Flushing F ms
      → Linking F L (x ∷ ms)
  linked-flushing F L x ms is t = record {
    links = record {
      link = 0;
      second = suc t.second;
      drop = suc t.drop;
      linked = ap Some is;
      ends = ⊎_elim (λ e. inl (omega (arith, e.0), e.1))
          (λ r. inr (omega arith, omega (arith, r.0), r.1, r.2, r.3)) t.ends;
    };
    idle = at;
  }
    where
      at : (k : ℕ) (m : Made) → slice_get (x ∷ ms) k ≡ Some m → (k ≢ 0) × (k ≢ suc t.drop) → is_idle m ≡ true
      at zero m h nd = absurd (nd.0 refl)
      at (suc k) m h nd = t.idle k m h (unlike t.drop nd.1)

  -- the steps from the first flush on
  pub record Moves (F L : Step) (ms : List Made) : Type 0 where
    pub links : Links F L ms
    pub open links use *
    pub flush : ℕ
    pub flushed : slice_get ms flush ≡ Some (F, reply.Flushed)
    pub link_after : flush < link

  abbrev pub more-moves : (F L : Step) (x : Made) (ms : List Made) → Moves F L ms → Moves F L (x ∷ ms)
  more-moves F L x ms t = record {
    links = more-links F L x ms t.links;
    flush = suc t.flush;
    flushed = t.flushed;
    link_after = let a = t.link_after in omega (arith, a);
  }

  -- from the first flush on
  pub record Moving (F L : Step) (ms : List Made) : Type 0 where
    pub moves : Moves F L ms
    pub open moves use *
    pub idle : AllIdle ms link drop

  pub flushed-linking : (F L : Step) (x : Made) (ms : List Made) → is_idle x ≡ true → x ≡ (F, reply.Flushed)
      → Linking F L ms → Moving F L (x ∷ ms)
  flushed-linking F L x ms idle is t = record {
    moves = record { links = more-links F L x ms t.links; flush = 0; flushed = ap Some is; link_after = omega arith };
    idle = more-idle x ms t.link t.drop idle t.idle;
  }

  pub more-moving : (F L : Step) (x : Made) (ms : List Made) → is_idle x ≡ true → Moving F L ms → Moving F L (x ∷ ms)
  more-moving F L x ms idle t =
      record { moves = more-moves F L x ms t.moves; idle = more-idle x ms t.link t.drop idle t.idle }
