-- A frame in front depends on its own bytes alone, so frames are split from the front one by one.
use Rattle.std.proofs.Common.{◌≡◌, ℕ, zero, suc, ◌+◌, ◌≤◌, List, [], ◌∷◌, ◌++◌, length, take, drop, map, append_assoc}
use Rattle.std.proofs.Common.{length-append, length-drop, nat_lt}
use Rattle.std.proofs.Common.{nat_le, ◌&&◌, Bool, true, false, Option, Some, None, if◌then◌else◌, refl, sym, ap, ◌∙◌}
use Rattle.std.proofs.Common.{arith}
use Rattle.std.specs.Prelude.{option_to_list}
use Rattle.std.proofs.lemmas.Bool.{and_parts, leb-true, le-leb, le-ltb, ltb-false}
use Rattle.std.proofs.lemmas.List.{drop_at, drop-append-le, drop-take, length-take-le, map-append, take-append-drop}
use Rattle.std.proofs.lemmas.List.{take_at}
use Rattle.byteorder.specs.Endian.{little_number}
use Rattle.byteorder.specs.Numbers.{little_from-append}
use Rattle.nofs_disk.specs.Number.{number_at}
use Rattle.nofs_history.specs.Steps.{Made}
use Rattle.nofs_history.specs.declared.machine.steps.Step.{Step}
use Rattle.nofs_wire.specs.declared.frames.split.Front.{Front}
use Rattle.nofs_wire.specs.declared.frames.split.Front.TheVariants as front
use Rattle.nofs_wire.specs.Frames.Split.{length_of, sized_front, front_of, body_of, behind, behind_in, step_in}
use Rattle.nofs_wire.specs.Frames.Split.{joined, split_in, split_of}
use Rattle.nofs_wire.specs.Frames.Requests.{step_of}
use Rattle.nofs_history.specs.Callers.{made_step}
use Rattle.nofs_wire.specs.Server.Turns.{IsFramed, HasNone}

-- a whole frame in front, by its length
pub record IsWhole (w : List ℕ) (size : ℕ) : Type 0 where
  pub low : 1 ≤ size
  pub high : size ≤ 1100
  pub spelled : length_of w ≡ size
  pub fits : 4 + size ≤ length w

record IsSized (s here size : ℕ) : Type 0 where
  low : 1 ≤ size
  high : size ≤ 1100
  same : s ≡ size
  fits : 4 + size ≤ here

sized-from : (s here size : ℕ) → sized_front s here ≡ front.Whole size → IsSized s here size
unfolding sized_front
sized-from s here size is = go (nat_le 1 s && nat_le s 1100) refl is
  where
    last : (b : Bool) → (1 ≤ s) → (s ≤ 1100)
        → nat_lt here (4 + s) ≡ b → (if b then front.Short (4 + s) else front.Whole s) ≡ front.Whole size
        → IsSized s here size
    last true low high e h = absurd (cc)
    last false low high e h =
        let same : s ≡ size = cc in
        let fits = ltb-false here (4 + s) e in
        record { low = omega arith; high = omega arith; same = same; fits = omega arith }

    go : (b : Bool) → (nat_le 1 s && nat_le s 1100) ≡ b → (if b then
        (if nat_lt here (4 + s) then front.Short (4 + s) else front.Whole s) else front.Bad) ≡ front.Whole size
        → IsSized s here size
    go false e h = absurd (cc)
    go true e h =
        let parts = and_parts (nat_le 1 s) (nat_le s 1100) e in
        last (nat_lt here (4 + s)) (leb-true 1 s parts.0) (leb-true s 1100 parts.1) refl h

sized-to : (s here : ℕ) → 1 ≤ s → s ≤ 1100 → 4 + s ≤ here → sized_front s here ≡ front.Whole s
unfolding sized_front
sized-to s here low high fits = rw (le-leb 1 s low, le-leb s 1100 high, le-ltb here (4 + s) fits) refl

pub whole-from : (w : List ℕ) (size : ℕ) → front_of w ≡ front.Whole size → IsWhole w size
unfolding front_of
whole-from w size is = go (nat_lt (length w) 4) refl is
  where
    go : (b : Bool) → nat_lt (length w) 4 ≡ b
        → (if b then front.Short 4 else sized_front (length_of w) (length w)) ≡ front.Whole size → IsWhole w size
    go true e h = absurd (cc)
    go false e h = let s = sized-from (length_of w) (length w) size h in
        record { low = s.low; high = s.high; spelled = s.same; fits = s.fits }

pub whole-to : (w : List ℕ) (size : ℕ) → IsWhole w size → front_of w ≡ front.Whole size
unfolding front_of
whole-to w size is =
    let fits = is.fits in
    let here : nat_lt (length w) 4 ≡ false = le-ltb (length w) 4 (omega arith) in
    ap (λ b. if b then front.Short 4 else sized_front (length_of w) (length w)) here
    ∙ ap (λ s. sized_front s (length w)) is.spelled
    ∙ sized-to size (length w) is.low is.high is.fits

module _ (w : List ℕ) (size : ℕ) (rest : List ℕ) (is : IsWhole w size) where
  long : length (take (4 + size) w) ≡ 4 + size
  long = length-take-le (4 + size) w is.fits

  number-local : number_at 4 0 (take (4 + size) w ++ rest) ≡ number_at 4 0 w
  unfolding number_at
  number-local =
      let l = long in
      little_from-append 4 (take (4 + size) w) rest (omega arith)
      ∙ sym (little_from-append 4 (take (4 + size) w) (drop (4 + size) w) (omega arith))
      ∙ ap (λ l. little_number 4 l) (take-append-drop (4 + size) w)

  -- it stays in front whatever follows
  pub front-local : front_of (take (4 + size) w ++ rest) ≡ front.Whole size
  front-local =
      whole-to (take (4 + size) w ++ rest) size (record {
        low = is.low;
        high = is.high;
        spelled = number-local ∙ is.spelled;
        fits = omega (arith, long, length-append (take (4 + size) w) rest);
      })

  pub body-local : body_of size (take (4 + size) w ++ rest) ≡ body_of size w
  body-local =
      let l = long in
      let f = is.fits in
      let body : length (take size (drop 4 w)) ≡ size =
      length-take-le size (drop 4 w) (omega (arith, length-drop 4 w)) in
      ap (take size)
      (drop-append-le 4 (take (4 + size) w) rest (omega arith) ∙ ap (λ l. l ++ rest) (drop-take 4 size w))
      ∙ take_at (take size (drop 4 w)) rest size body

  pub behind-local : behind size (take (4 + size) w ++ rest) ≡ rest
  behind-local = drop_at (take (4 + size) w) rest (4 + size) long

-- more than the number of bytes makes no difference
pub fuel : (n m : ℕ) (w : List ℕ) → length w ≤ n → length w ≤ m → split_in n w ≡ split_in m w
unfolding front_of
fuel zero zero w low high = refl
fuel zero (suc m) [] low high = refl
fuel zero (suc m) (x ∷ w) low high = absurd (omega arith)
fuel (suc n) zero [] low high = refl
fuel (suc n) zero (x ∷ w) low high = absurd (omega arith)
fuel (suc n) (suc m) w low high = go (fuel n m) (front_of w) refl
  where
    go : ((l : List ℕ) → length l ≤ n → length l ≤ m → split_in n l ≡ split_in m l) → (f : Front) → front_of w ≡ f
        → joined (step_in f w) w (split_in n (behind_in f w)) ≡ joined (step_in f w) w (split_in m (behind_in f w))
    go fewer front.Bad e = refl
    go fewer (front.Short k) e = refl
    go fewer (front.Whole size) e =
        let is = whole-from w size e in
        let fits = is.fits in
        ap (joined (step_of (body_of size w)) w)
        (fewer (behind size w) (omega (arith, length-drop (4 + size) w)) (omega (arith, length-drop (4 + size) w)))

-- where none is in front, all the bytes are the rest
pub none-split : (w : List ℕ) → HasNone w → split_of w ≡ ([], w)
unfolding split_of
none-split [] none = refl
none-split (x ∷ w) none = ap (λ o. joined o (x ∷ w) (split_in (length w) (behind_in (front_of (x ∷ w)) (x ∷ w)))) none

-- the frames begin with the one in front
pub first-split : (w : List ℕ) → (more : List Step) × ((split_of w).0 ≡ option_to_list (step_in (front_of w) w) ++ more)
unfolding split_of front_of
first-split [] = ([], refl)
first-split (x ∷ w) =
    go (step_in (front_of (x ∷ w)) (x ∷ w)) (split_in (length w) (behind_in (front_of (x ∷ w)) (x ∷ w)))
  where
    go : (o : Option Step) (p : List Step × List ℕ)
        → (more : List Step) × ((joined o (x ∷ w) p).0 ≡ option_to_list o ++ more)
    go None p = ([], refl)
    go (Some s) p = (p.0, refl)

-- a whole frame is split from whatever follows
pub one-split : (w : List ℕ) (size : ℕ) (s : Step) (rest : List ℕ) → front_of w ≡ front.Whole size
    → step_of (body_of size w) ≡ Some s
    → split_of (take (4 + size) w ++ rest) ≡ (s ∷ (split_of rest).0, (split_of rest).1)
unfolding split_of
one-split w size s rest whole step =
    let is = whole-from w size whole in
    let L = take (4 + size) w ++ rest in
    let long : length L ≡ suc (3 + size + length rest) =
    omega (arith, length-append (take (4 + size) w) rest, length-take-le (4 + size) w is.fits) in
    let front_is = front-local w size rest is in
    let step_is : step_of (body_of size L) ≡ Some s = ap step_of (body-local w size rest is) ∙ step in
    ap (λ n. split_in n L) long
    ∙ ap (λ f. joined (step_in f L) L (split_in (3 + size + length rest) (behind_in f L))) front_is
    ∙ ap (λ o. joined o L (split_in (3 + size + length rest) (behind size L))) step_is
    ∙ ap (λ l. joined (Some s) L (split_in (3 + size + length rest) l)) (behind-local w size rest is)
    ∙ ap (joined (Some s) L) (fuel (3 + size + length rest) (length rest) rest (omega arith) (omega arith))

pub framed-none : IsFramed [] []
framed-none rest = refl

pub framed-one : (w : List ℕ) (size : ℕ) (m : Made) → front_of w ≡ front.Whole size
    → step_of (body_of size w) ≡ Some m.0
    → IsFramed (m ∷ []) (take (4 + size) w)
framed-one w size m whole step rest = one-split w size m.0 rest whole step

-- frames behind frames
pub framed-more : (a b : List Made) (x y : List ℕ) → IsFramed a x → IsFramed b y → IsFramed (a ++ b) (x ++ y)
framed-more a b x y first second rest =
    let both : map made_step (a ++ b) ++ (split_of rest).0 ≡ map made_step a ++ (map made_step b ++ (split_of rest).0) =
    ap (λ l. l ++ (split_of rest).0) (map-append made_step a b)
    ∙ append_assoc (map made_step a) (map made_step b) (split_of rest).0 in
    ap split_of (append_assoc x y rest)
    ∙ first (y ++ rest)
    ∙ ap (λ p. (map made_step a ++ p.0, p.1)) (second rest)
    ∙ ap (λ l. (l, (split_of rest).1)) (sym both)
