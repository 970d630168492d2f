-- A body that is read as a step is the one body that spells it.
use Rattle.std.proofs.Common.{◌≡◌, ℕ, zero, suc, ◌+◌, ◌<◌, ◌≤◌, ◌==◌, nat_lt, nat_le, List, [], ◌∷◌, ◌++◌, length, take}
use Rattle.std.proofs.Common.{drop, append-nil, length-drop}
use Rattle.std.proofs.Common.{take-append-drop, drop_of_length-le, drop-cons, Bool, true, false, Option, Some, None}
use Rattle.std.proofs.Common.{Result, Ok, Err, IfOk, IfSome, ◌⊎◌, inl}
use Rattle.std.proofs.Common.{inr, if◌then◌else◌, refl, sym, ap, ap₂, ◌∙◌, arith, eqb-true, leb-true}
use Rattle.std.specs.Prelude.{slice_index, option_and_then}
use Rattle.std.specs.Int.{byte_at, bytes_low_first}
use Rattle.std.proofs.lemmas.Bool.{and_parts, ltb-true, ltb-false}
use Rattle.std.proofs.lemmas.List.{drop-drop, ext_get_or, length-take-le}
use Rattle.byteorder.specs.Endian.{little_number}
use Rattle.byteorder.specs.Numbers.{length-bytes_low_first, little_from-take, little_number-reads_back}
use Rattle.nofs_disk.specs.Number.{drop-byte, number_at, number_at-lt, take-byte}
use Rattle.nofs_disk.specs.OneSpelling.{number_at-same}
use Rattle.nofs_inode.specs.declared.inode.FileKind.{FileKind}
use Rattle.nofs_inode.specs.declared.inode.FileKind.TheVariants.{File, Directory}
use Rattle.nofs_history.specs.declared.machine.steps.Step.{Step}
use Rattle.nofs_history.specs.declared.machine.steps.Step.TheVariants as step
use Rattle.nofs_wire.specs.Frames.Fields.{number_bytes, kind_byte, name_bytes}
use Rattle.nofs_wire.specs.Frames.Requests.{where_ends, name_length, has_name_field, name_field, kind_numbered}
use Rattle.nofs_wire.specs.Frames.Requests.{inode_field, generation_field, look_request, make_of, link_of}
use Rattle.nofs_wire.specs.Frames.Requests.{drop_of, rename_of, list_of, get_of, put_of, resize_of, stat_of, flush_of}
use Rattle.nofs_wire.specs.Frames.Requests.{see_inode_of, see_block_of, named_of}
use Rattle.nofs_wire.specs.Frames.Requests.{handled_of, step_by, step_of}
use Rattle.nofs_wire.specs.Frames.Spellings.{head_bytes, request_bytes}

byte_at-lt : (j x : ℕ) → byte_at j x < 256
byte_at-lt zero x = omega arith
byte_at-lt (suc j) x = omega arith

low-byte : (i n x k : ℕ) → slice_index (bytes_low_first i n x) k < 256
low-byte i zero x k = omega arith
low-byte i (suc n) x zero = byte_at-lt i x
low-byte i (suc n) x (suc k) = low-byte (suc i) n x k

-- bytes are those of the number that they spell
number-spelled : (n : ℕ) (xs : List ℕ) → ((k : ℕ) → slice_index xs k < 256)
    → length xs ≡ n → xs ≡ bytes_low_first 0 n (little_number n xs)
unfolding number_at
number-spelled n xs small long =
    let x = little_number n xs in
    let ys = bytes_low_first 0 n x in
    let back : little_number n ys ≡ x = ap (little_number n) (sym (append-nil ys))
    ∙ little_number-reads_back n x [] (number_at-lt n 0 xs small) in
    ext_get_or 0 xs ys (long ∙ sym (length-bytes_low_first 0 n x))
    (λ k low. number_at-same n 0 xs ys small (low-byte 0 n x) (sym back) k (omega arith) (omega arith))

-- Parts of a reading

where-parts : (b : Bool) (x s : Step) → where_ends b x ≡ Some s → (b ≡ true) × (x ≡ s)
where-parts true x s e = (refl, cc)
where-parts false x s e = absurd (cc)

bind-parts : {A : Type 0} (o : Option A) (f : A → Option Step) (s : Step) → option_and_then f o ≡ Some s
    → (x : A) × (o ≡ Some x) × (f x ≡ Some s)
bind-parts None f s e = absurd (cc)
bind-parts (Some x) f s e = (x, refl, e)

pick : (b : Bool) (x y : Option Step) (s : Step) → (if b then x else y) ≡ Some s
    → ((b ≡ true) × (x ≡ Some s)) ⊎ ((b ≡ false) × (y ≡ Some s))
pick true x y s e = inl (refl, e)
pick false x y s e = inr (refl, e)

none-of : (s : Step) {P : Type 0} → None ≡ Some s → P
none-of s e = absurd (cc)

kind-byte : (n : ℕ) (k : FileKind) → kind_numbered n ≡ Some k → n ≡ kind_byte k
unfolding kind_numbered
kind-byte n k e = go (n == 1) (n == 2) refl refl e
  where
    go : (a b : Bool) → (n == 1) ≡ a → (n == 2) ≡ b
        → (if a then Some File else if b then Some Directory else None) ≡ Some k → n ≡ kind_byte k
    go true b p q e = let same : File ≡ k = cc in eqb-true n 1 p ∙ ap kind_byte same
    go false true p q e = let same : Directory ≡ k = cc in eqb-true n 2 q ∙ ap kind_byte same
    go false false p q e = absurd (cc)

-- Parts of a body

module _ (body : List ℕ) (each : (k : ℕ) → slice_index body k < 256) where
  byte-cut : (at : ℕ) → at < length body → drop at body ≡ slice_index body at ∷ drop (at + 1) body
  byte-cut at low = let next : suc at ≡ at + 1 = omega arith in
      drop-cons body at 0 low ∙ ap (λ k. slice_index body at ∷ drop k body) next

  number-cut : (n at : ℕ) → at + n ≤ length body
      → drop at body ≡ number_bytes n (number_at n at body) ++ drop (at + n) body
  unfolding number_bytes number_at
  number-cut n at low =
      let part = take n (drop at body) in
      let long : length part ≡ n = length-take-le n (drop at body) (omega (arith, length-drop at body)) in
      let same : little_number n part ≡ little_number n (drop at body) =
      little_from-take 0 n n (drop at body) (omega arith) in
      sym (take-append-drop n (drop at body))
      ∙ ap₂ (λ a b. a ++ b) (number-spelled n part (take-byte n (drop at body) (drop-byte at body each)) long
      ∙ ap (bytes_low_first 0 n) same) (drop-drop n at body)

  end-cut : (at : ℕ) → length body ≡ at → drop at body ≡ []
  end-cut at is = drop_of_length-le body (omega arith)

  name-cut : (at : ℕ) (name : List ℕ) → name_field at body ≡ Some name
      → drop at body ≡ name_bytes name ++ drop (at + 1 + length name) body
  unfolding name_field
  name-cut at name e = go (has_name_field at body) refl e
    where
      size : ℕ
      size = name_length at body

      found : List ℕ
      found = take size (drop (at + 1) body)

      go : (b : Bool) → has_name_field at body ≡ b → (if b then Some found else None) ≡ Some name
          → drop at body ≡ name_bytes name ++ drop (at + 1 + length name) body
      go false t e = absurd (cc)
      go true t e =
          let parts = and_parts (nat_lt at (length body)) (nat_le (at + 1 + size) (length body)) t in
          let low = ltb-true at (length body) parts.0 in
          let fits = leb-true (at + 1 + size) (length body) parts.1 in
          let same : found ≡ name = cc in
          let long : length found ≡ size =
          length-take-le size (drop (at + 1) body) (omega (arith, length-drop (at + 1) body)) in
          let whole : drop at body ≡ name_bytes found ++ drop (at + 1 + length found) body =
          byte-cut at low
          ∙ ap₂ (λ n l. n ∷ l) (sym long) (sym (take-append-drop size (drop (at + 1) body))
          ∙ ap (λ l. found ++ l) (drop-drop size (at + 1) body ∙ ap (λ n. drop (at + 1 + n) body) (sym long))) in
          whole ∙ ap (λ n. name_bytes n ++ drop (at + 1 + length n) body) same

  head : (first : ℕ) → slice_index body 0 ≡ first → 13 ≤ length body
      → body ≡ head_bytes first (inode_field body) (generation_field body) (drop 13 body)
  head first is long =
      byte-cut 0 (omega arith)
      ∙ ap₂ (λ n l. n ∷ l) is
      (number-cut 4 1 (omega arith) ∙ ap (λ l. number_bytes 4 (inode_field body) ++ l) (number-cut 8 5 (omega arith)))

  -- a name that ends the body
  last-name : (at : ℕ) (name : List ℕ) → name_field at body ≡ Some name → length body ≡ at + 1 + length name
      → drop at body ≡ name_bytes name
  last-name at name is long = name-cut at name is ∙ ap (λ l. name_bytes name ++ l) (end-cut (at + 1 + length name) long)
      ∙ append-nil (name_bytes name)

  -- a number that ends the body
  last-number : (n at : ℕ) → length body ≡ at + n → drop at body ≡ number_bytes n (number_at n at body)
  last-number n at long =
      number-cut n at (omega arith) ∙ ap (λ l. number_bytes n (number_at n at body) ++ l) (end-cut (at + n) long)
      ∙ append-nil (number_bytes n (number_at n at body))

  module _ (long : 13 ≤ length body) (s : Step) where
    -- what was read is the step, and the head and the rest spell it
    spelled : (first : ℕ) (rest : List ℕ) (read : Step) → slice_index body 0 ≡ first → drop 13 body ≡ rest
        → head_bytes first (inode_field body) (generation_field body) rest ≡ request_bytes read
        → read ≡ s → body ≡ request_bytes s
    spelled first rest read is cut same e =
        head first is long ∙ ap (head_bytes first (inode_field body) (generation_field body)) cut
        ∙ same ∙ ap request_bytes e

    -- a step of a number
    spelled-number : (first : ℕ) (read : Step)
        → slice_index body 0 ≡ first → where_ends (length body == 21) read ≡ Some s
        → head_bytes first (inode_field body) (generation_field body) (number_bytes 8 (number_at 8 13 body))
        ≡ request_bytes read → body ≡ request_bytes s
    spelled-number first read is e same =
        let p = where-parts _ _ s e in
        spelled first (number_bytes 8 (number_at 8 13 body)) read is
        (last-number 8 13 (eqb-true (length body) 21 p.0)) same p.1

    -- one of the handle alone
    spelled-handle : (first : ℕ) (read : Step)
        → slice_index body 0 ≡ first → where_ends (length body == 13) read ≡ Some s
        → head_bytes first (inode_field body) (generation_field body) [] ≡ request_bytes read → body ≡ request_bytes s
    spelled-handle first read is e same =
        let p = where-parts _ _ s e in
        spelled first [] read is (end-cut 13 (eqb-true (length body) 13 p.0)) same p.1

    spelled-put : slice_index body 0 ≡ 8 → put_of body ≡ Some s → body ≡ request_bytes s
    unfolding put_of request_bytes
    spelled-put is e =
        let p = where-parts _ _ s e in
        let fits = leb-true 25 (length body) p.0 in
        head 8 is long
        ∙ ap (head_bytes 8 (inode_field body) (generation_field body)) (number-cut 8 13 (omega arith)
        ∙ ap (λ l. number_bytes 8 (number_at 8 13 body) ++ l) (number-cut 4 21 (omega arith)))
        ∙ ap request_bytes p.1

    module _ (name : List ℕ) (named : name_field 13 body ≡ Some name) where
      -- a step of the name alone
      spelled-name : (first : ℕ) (read : Step)
          → slice_index body 0 ≡ first → where_ends (length body == 14 + length name) read ≡ Some s
          → head_bytes first (inode_field body) (generation_field body) (name_bytes name) ≡ request_bytes read
          → body ≡ request_bytes s
      spelled-name first read is e same =
          let p = where-parts _ _ s e in
          spelled first (name_bytes name) read is
          (last-name 13 name named (eqb-true (length body) (14 + length name) p.0)) same p.1

      -- a head, the name, and what stands behind it
      behind-name : (first : ℕ) → slice_index body 0 ≡ first → (rest : List ℕ) → drop (14 + length name) body ≡ rest
          → body ≡ head_bytes first (inode_field body) (generation_field body) (name_bytes name ++ rest)
      behind-name first is rest last =
          head first is long ∙ ap (head_bytes first (inode_field body) (generation_field body))
          (name-cut 13 name named ∙ ap (λ l. name_bytes name ++ l) last)

      spelled-make : slice_index body 0 ≡ 2 → make_of name body ≡ Some s → body ≡ request_bytes s
      unfolding make_of request_bytes
      spelled-make is e =
          let (kind, kind_is, rest) = bind-parts (kind_numbered (slice_index body (14 + length name))) _ s e in
          let p = where-parts _ _ s rest in
          let size = eqb-true (length body) (15 + length name) p.0 in
          let last : drop (14 + length name) body ≡ kind_byte kind ∷ [] =
          byte-cut (14 + length name) (omega arith)
          ∙ ap₂ (λ n l. n ∷ l) (kind-byte (slice_index body (14 + length name)) kind kind_is)
          (end-cut (14 + length name + 1) (omega arith)) in
          behind-name 2 is (kind_byte kind ∷ []) last ∙ ap request_bytes p.1

      spelled-link : slice_index body 0 ≡ 3 → link_of name body ≡ Some s → body ≡ request_bytes s
      unfolding link_of request_bytes
      spelled-link is e =
          let p = where-parts _ _ s e in
          let size = eqb-true (length body) (26 + length name) p.0 in
          let at : 14 + length name + 4 ≡ 18 + length name = omega arith in
          let last : drop (14 + length name) body ≡ number_bytes 4 (number_at 4 (14 + length name) body)
          ++ number_bytes 8
          (number_at 8 (18 + length name) body) =
          number-cut 4 (14 + length name) (omega arith)
          ∙ ap (λ l. number_bytes 4 (number_at 4 (14 + length name) body) ++ l)
          (ap (λ k. drop k body) at ∙ last-number 8 (18 + length name) (omega arith)) in
          behind-name 3 is _ last ∙ ap request_bytes p.1

      spelled-rename : slice_index body 0 ≡ 5 → rename_of name body ≡ Some s → body ≡ request_bytes s
      unfolding rename_of request_bytes
      spelled-rename is e =
          let (new, new_is, rest) = bind-parts (name_field (14 + length name) body) _ s e in
          let p = where-parts _ _ s rest in
          let size = eqb-true (length body) (15 + length name + length new) p.0 in
          let last : drop (14 + length name) body ≡ name_bytes new =
          last-name (14 + length name) new new_is (omega arith) in
          behind-name 5 is (name_bytes new) last ∙ ap request_bytes p.1

      spelled-named : (first : ℕ) → slice_index body 0 ≡ first → named_of first name body ≡ Some s
          → body ≡ request_bytes s
      unfolding named_of look_request drop_of request_bytes
      spelled-named first is e = elim (pick (first == 1) _ _ s e) [
        | inl p ↦ spelled-name 1 (step.Look (inode_field body) (generation_field body) name)
            (is ∙ eqb-true first 1 p.0) p.1 refl
        | inr p ↦ elim (pick (first == 2) _ _ s p.1) [
          | inl p ↦ spelled-make (is ∙ eqb-true first 2 p.0) p.1
          | inr p ↦ elim (pick (first == 3) _ _ s p.1) [
            | inl p ↦ spelled-link (is ∙ eqb-true first 3 p.0) p.1
            | inr p ↦ elim (pick (first == 4) _ _ s p.1) [
              | inl p ↦ spelled-name 4 (step.Drop (inode_field body) (generation_field body) name)
                  (is ∙ eqb-true first 4 p.0) p.1 refl
              | inr p ↦ elim (pick (first == 5) _ _ s p.1) [
                | inl p ↦ spelled-rename (is ∙ eqb-true first 5 p.0) p.1
                | inr p ↦ none-of s p.1
              ]
            ]
          ]
        ]
      ]

    spelled-handled : (first : ℕ) → slice_index body 0 ≡ first → handled_of first body ≡ Some s → body ≡ request_bytes s
    unfolding handled_of list_of get_of resize_of stat_of flush_of request_bytes
    spelled-handled first is e = elim (pick (first == 6) _ _ s e) [
      | inl p ↦ spelled-number 6 (step.List (inode_field body) (generation_field body) (number_at 8 13 body))
          (is ∙ eqb-true first 6 p.0) p.1 refl
      | inr p ↦ elim (pick (first == 7) _ _ s p.1) [
        | inl p ↦ spelled-number 7 (step.Get (inode_field body) (generation_field body) (number_at 8 13 body))
            (is ∙ eqb-true first 7 p.0) p.1 refl
        | inr p ↦ elim (pick (first == 8) _ _ s p.1) [
          | inl p ↦ spelled-put (is ∙ eqb-true first 8 p.0) p.1
          | inr p ↦ elim (pick (first == 9) _ _ s p.1) [
            | inl p ↦ spelled-number 9 (step.Resize (inode_field body) (generation_field body) (number_at 8 13 body))
                (is ∙ eqb-true first 9 p.0) p.1 refl
            | inr p ↦ elim (pick (first == 10) _ _ s p.1) [
              | inl p ↦ spelled-handle 10 (step.Stat (inode_field body) (generation_field body))
                  (is ∙ eqb-true first 10 p.0) p.1 refl
              | inr p ↦ elim (pick (first == 11) _ _ s p.1) [
                | inl p ↦ spelled-handle 11 (step.Flush (inode_field body) (generation_field body))
                    (is ∙ eqb-true first 11 p.0) p.1 refl
                | inr p ↦ let (name, named, rest) = bind-parts (name_field 13 body) _ s p.1 in
                    spelled-named name named first is rest
              ]
            ]
          ]
        ]
      ]
    ]

  -- a step of a number alone
  spelled-alone : (first n : ℕ) (read s : Step)
      → slice_index body 0 ≡ first → where_ends (length body == n + 1) read ≡ Some s
      → first ∷ number_bytes n (number_at n 1 body) ≡ request_bytes read → body ≡ request_bytes s
  spelled-alone first n read s is e same =
      let p = where-parts _ _ s e in
      let size = eqb-true (length body) (n + 1) p.0 in
      byte-cut 0 (omega arith) ∙ ap₂ (λ m l. m ∷ l) is (last-number n 1 (omega arith)) ∙ same ∙ ap request_bytes p.1

  spelled-by : (first : ℕ) (s : Step) → slice_index body 0 ≡ first → step_by first body ≡ Some s
      → body ≡ request_bytes s
  unfolding step_by see_inode_of see_block_of request_bytes
  spelled-by first s is e = elim (pick (first == 12) _ _ s e) [
    | inl p ↦ spelled-alone 12 4 (step.SeeInode (number_at 4 1 body)) s (is ∙ eqb-true first 12 p.0) p.1 refl
    | inr p ↦ elim (pick (first == 13) _ _ s p.1) [
      | inl p ↦ spelled-alone 13 8 (step.SeeBlock (number_at 8 1 body)) s (is ∙ eqb-true first 13 p.0) p.1 refl
      | inr p ↦ elim (pick (nat_lt (length body) 13) _ _ s p.1) [
        | inl p ↦ none-of s p.1
        | inr p ↦ spelled-handled (ltb-false (length body) 13 p.0) s first is p.1
      ]
    ]
  ]

  -- a body that is read as a step is its spelling
  pub one-spelling : (s : Step) → step_of body ≡ Some s → body ≡ request_bytes s
  unfolding step_of
  one-spelling s e = spelled-by (slice_index body 0) s refl e

-- the same of what a reader answers
pub one-spelling-read : {E : Type 0} (r : Result (Option Step) E) (body : List ℕ) → ((k : ℕ) → slice_index body k < 256)
    → IfOk r (λ o. o ≡ step_of body)
    → IfOk r (λ o. IfSome o (λ s. body ≡ request_bytes s))
one-spelling-read (Err x) body each is = tt
one-spelling-read (Ok None) body each is = tt
one-spelling-read (Ok (Some s)) body each is = one-spelling body each s (sym is)
