-- The body that spells a step is read as that step.
use Rattle.std.proofs.Common.{◌≡◌, ℕ, ◌+◌, ◌^◌, ◌<◌, ◌≤◌, ◌==◌, ◌&&◌, nat_lt, nat_le, List, [], ◌∷◌, ◌++◌, length, take}
use Rattle.std.proofs.Common.{drop, append-nil, length-append}
use Rattle.std.proofs.Common.{Bool, true, false, Option, Some, None, Result, Ok, Err, IfOk, if◌then◌else◌, refl, sym}
use Rattle.std.proofs.Common.{ap, ap₂, ◌∙◌, arith}
use Rattle.std.specs.Prelude.{slice_index, option_and_then}
use Rattle.std.proofs.lemmas.Bool.{eq-eqb, le-leb, le-ltb, lt-ltb}
use Rattle.std.proofs.lemmas.List.{drop_at, drop-drop, get_or-drop, take_at}
use Rattle.byteorder.specs.Endian.{little_number}
use Rattle.byteorder.specs.Numbers.{little_number-reads_back}
use Rattle.nofs_disk.specs.Number.{number_at}
use Rattle.nofs_inode.specs.declared.inode.FileKind.{FileKind}
use Rattle.nofs_inode.specs.declared.inode.FileKind.TheVariants.{File, Directory}
use Rattle.nofs_history.specs.declared.machine.steps.Step.{Step}
use Rattle.nofs_history.specs.declared.machine.steps.Step.TheVariants as step
use Rattle.nofs_wire.specs.Frames.Fields.{number_bytes, kind_byte, name_bytes}
use Rattle.nofs_wire.specs.Frames.Requests.{where_ends, name_length, name_field, kind_numbered, inode_field}
use Rattle.nofs_wire.specs.Frames.Requests.{generation_field, look_request, make_of, link_of, drop_of}
use Rattle.nofs_wire.specs.Frames.Requests.{rename_of, list_of, get_of, put_of, resize_of, stat_of, flush_of}
use Rattle.nofs_wire.specs.Frames.Requests.{see_inode_of, see_block_of, named_of}
use Rattle.nofs_wire.specs.Frames.Requests.{handled_of, step_by, step_of}
use Rattle.nofs_wire.specs.Frames.Spellings.{head_bytes, request_bytes, IsHandle, FitsBody}
use Rattle.nofs_wire.proofs.OnFrames.Fields.{length-number_bytes}

where-true : (b : Bool) (x s : Step) → b ≡ true → x ≡ s → where_ends b x ≡ Some s
where-true b x s e same = ap (λ c. where_ends c x) e ∙ ap Some same

-- a number that was spelled is read
number-back : (n x : ℕ) (rest : List ℕ) → x < 256 ^ n → number_at n 0 (number_bytes n x ++ rest) ≡ x
unfolding number_at number_bytes
number-back n x rest small = little_number-reads_back n x rest small

number-last : (n x : ℕ) → x < 256 ^ n → number_at n 0 (number_bytes n x) ≡ x
number-last n x small = ap (number_at n 0) (sym (append-nil (number_bytes n x))) ∙ number-back n x [] small

-- a number behind others
number-behind : (n at : ℕ) (l m : List ℕ) → drop at l ≡ m → number_at n at l ≡ number_at n 0 m
unfolding number_at
number-behind n at l m e = ap (little_number n) e

module _ (first d g : ℕ) (rest : List ℕ) where
  abbrev B : List ℕ
  B = head_bytes first d g rest

  inode-back : d < 2 ^ 32 → inode_field B ≡ d
  unfolding number_bytes
  inode-back small = number-behind 4 1 B (number_bytes 4 d ++ (number_bytes 8 g ++ rest)) refl
      ∙ number-back 4 d (number_bytes 8 g ++ rest) small

  generation-back : g < 2 ^ 64 → generation_field B ≡ g
  unfolding number_bytes
  generation-back small = number-behind 8 5 B (number_bytes 8 g ++ rest) refl ∙ number-back 8 g rest small

  rest-back : drop 13 B ≡ rest
  unfolding number_bytes
  rest-back = refl

  length-head : length B ≡ 13 + length rest
  length-head =
      omega (
        arith,
        length-append (number_bytes 4 d) (number_bytes 8 g ++ rest),
        length-append (number_bytes 8 g) rest,
        length-number_bytes 4 d,
        length-number_bytes 8 g,
      )

  -- it isn't one of the two steps without an inode number and a generation
  handled : (first == 12) ≡ false → (first == 13) ≡ false → step_of B ≡ handled_of first B
  unfolding step_of step_by handled_of
  handled a b =
      let long : nat_lt (length B) 13 ≡ false = le-ltb (length B) 13 (omega (arith, length-head)) in
      ap (λ c. if c then see_inode_of B else if first == 13 then see_block_of B else if nat_lt (length B) 13 then None
      else handled_of first B) a
      ∙ ap (λ c. if c then see_block_of B else if nat_lt (length B) 13 then None else handled_of first B) b
      ∙ ap (λ c. if c then None else handled_of first B) long

-- Names

-- a name that stands at a place is found there
name-back : (at : ℕ) (name rest l : List ℕ) → drop at l ≡ name_bytes name
    ++ rest → length l ≡ at + 1 + length name + length rest → name_field at l ≡ Some name
unfolding name_field
name-back at name rest l is long =
    let here : at ≡ at + 0 = omega arith in
    let size : name_length at l ≡ length name = ap (slice_index l) here ∙ sym (get_or-drop at l 0 0)
    ∙ ap (λ m. slice_index m 0) is in
    let low : nat_lt at (length l) ≡ true = lt-ltb at (length l) (omega arith) in
    let fits : nat_le (at + 1 + length name) (length l) ≡ true =
    le-leb (at + 1 + length name) (length l) (omega arith) in
    let next : drop (at + 1) l ≡ name ++ rest = sym (drop-drop 1 at l) ∙ ap (drop 1) is in
    ap (λ n. if nat_lt at (length l) && nat_le (at + 1 + n) (length l)
    then Some (take n (drop (at + 1) l)) else None) size
    ∙ ap₂ (λ b c. if b && c then Some (take (length name) (drop (at + 1) l)) else None) low fits
    ∙ ap (λ m. Some (take (length name) m)) next
    ∙ ap Some (take_at name rest (length name) refl)

kind-back : (k : FileKind) → kind_numbered (kind_byte k) ≡ Some k
unfolding kind_numbered
kind-back File = refl
kind-back Directory = refl

-- The steps that end in a number, or have none

number-read : (first d g slot : ℕ) → slot < 2 ^ 64 → number_at 8 13 (head_bytes first d g (number_bytes 8 slot)) ≡ slot
number-read first d g slot small =
    number-behind 8 13 (head_bytes first d g (number_bytes 8 slot)) (number_bytes 8 slot)
    (rest-back first d g (number_bytes 8 slot)) ∙ number-last 8 slot small

number-size : (first d g slot : ℕ) → length (head_bytes first d g (number_bytes 8 slot)) ≡ 21
number-size first d g slot = length-head first d g (number_bytes 8 slot) ∙ ap (λ n. 13 + n) (length-number_bytes 8 slot)

-- `make` is the step of what was read
read-number : (first d g slot : ℕ) (make : ℕ → ℕ → ℕ → Step)
    → (first == 12) ≡ false → (first == 13) ≡ false → IsHandle d g → slot < 2 ^ 64
    → ((L : List ℕ)
    → handled_of first L ≡ where_ends (length L == 21) (make (inode_field L) (generation_field L) (number_at 8 13 L)))
    → step_of (head_bytes first d g (number_bytes 8 slot)) ≡ Some (make d g slot)
read-number first d g slot make no_inode no_block h small is =
    let R = number_bytes 8 slot in
    let L = head_bytes first d g R in
    let a = inode-back first d g R h.0 in
    let b = generation-back first d g R h.1 in
    let c = number-read first d g slot small in
    handled first d g R no_inode no_block ∙ is L
    ∙ where-true _ _ _ (eq-eqb (length L) 21 (number-size first d g slot)) (λ k. make (a k) (b k) (c k))

read-list : (d g slot : ℕ) → IsHandle d g
    → slot < 2 ^ 64 → step_of (head_bytes 6 d g (number_bytes 8 slot)) ≡ Some (step.List d g slot)
unfolding handled_of list_of
read-list d g slot h small = read-number 6 d g slot step.List refl refl h small (λ L. refl)

read-get : (d g slot : ℕ) → IsHandle d g
    → slot < 2 ^ 64 → step_of (head_bytes 7 d g (number_bytes 8 slot)) ≡ Some (step.Get d g slot)
unfolding handled_of get_of
read-get d g slot h small = read-number 7 d g slot step.Get refl refl h small (λ L. refl)

read-resize : (d g slot : ℕ) → IsHandle d g
    → slot < 2 ^ 64 → step_of (head_bytes 9 d g (number_bytes 8 slot)) ≡ Some (step.Resize d g slot)
unfolding handled_of resize_of
read-resize d g slot h small = read-number 9 d g slot step.Resize refl refl h small (λ L. refl)

read-handle : (first d g : ℕ) (make : ℕ → ℕ → Step) → (first == 12) ≡ false → (first == 13) ≡ false → IsHandle d g
    → ((L : List ℕ) → handled_of first L ≡ where_ends (length L == 13) (make (inode_field L) (generation_field L)))
    → step_of (head_bytes first d g []) ≡ Some (make d g)
read-handle first d g make no_inode no_block h is =
    let L = head_bytes first d g [] in
    let a = inode-back first d g [] h.0 in
    let b = generation-back first d g [] h.1 in
    handled first d g [] no_inode no_block ∙ is L
    ∙ where-true _ _ _ (eq-eqb (length L) 13 (length-head first d g [])) (λ k. make (a k) (b k))

read-stat : (d g : ℕ) → IsHandle d g → step_of (head_bytes 10 d g []) ≡ Some (step.Stat d g)
unfolding handled_of stat_of
read-stat d g h = read-handle 10 d g step.Stat refl refl h (λ L. refl)

read-flush : (d g : ℕ) → IsHandle d g → step_of (head_bytes 11 d g []) ≡ Some (step.Flush d g)
unfolding handled_of flush_of
read-flush d g h = read-handle 11 d g step.Flush refl refl h (λ L. refl)

read-put : (d g slot at : ℕ) (bytes : List ℕ) → IsHandle d g → slot < 2 ^ 64 → at < 2 ^ 32
    → step_of (head_bytes 8 d g (number_bytes 8 slot ++ (number_bytes 4 at ++ bytes)))
    ≡ Some (step.Put d g slot at bytes)
unfolding handled_of put_of number_bytes number_at
read-put d g slot at bytes h small low =
    let R = number_bytes 8 slot ++ (number_bytes 4 at ++ bytes) in
    let L = head_bytes 8 d g R in
    let a = inode-back 8 d g R h.0 in
    let b = generation-back 8 d g R h.1 in
    let c : number_at 8 13 L ≡ slot = number-behind 8 13 L R refl
    ∙ number-back 8 slot (number_bytes 4 at ++ bytes) small in
    let e : number_at 4 21 L ≡ at = number-behind 4 21 L (number_bytes 4 at ++ bytes) refl
    ∙ number-back 4 at bytes low in
    let long : 25 ≤ length L = omega (arith, length-head 8 d g R) in
    handled 8 d g R refl refl
    ∙ where-true _ _ _ (le-leb 25 (length L) long) (λ k. step.Put (a k) (b k) (c k) (e k) bytes)

-- The steps with a name

module _ (first d g : ℕ) (name rest : List ℕ) (no_inode : (first == 12) ≡ false)
    (no_block : (first == 13) ≡ false) where
  abbrev N : List ℕ
  N = head_bytes first d g (name_bytes name ++ rest)

  length-named : length N ≡ 14 + length name + length rest
  length-named = omega (arith, length-head first d g (name_bytes name ++ rest), length-append (name_bytes name) rest)

  found : name_field 13 N ≡ Some name
  found = name-back 13 name rest N (rest-back first d g (name_bytes name ++ rest)) (omega (arith, length-named))

  behind-name : drop (14 + length name) N ≡ rest
  behind-name =
      let place : 14 + length name ≡ 13 + (1 + length name) = omega arith in
      ap (λ n. drop n N) place ∙ sym (drop-drop (1 + length name) 13 N)
      ∙ ap (drop (1 + length name)) (rest-back first d g (name_bytes name ++ rest))
      ∙ drop_at (name_bytes name) rest (1 + length name) (omega arith)

-- the name alone
read-name : (first d g : ℕ) (name : List ℕ) (make : ℕ → ℕ → List ℕ → Step)
    → (first == 12) ≡ false → (first == 13) ≡ false → IsHandle d g
    → ((L : List ℕ) → handled_of first L
    ≡ option_and_then (λ m. where_ends (length L == 14 + length m) (make (inode_field L) (generation_field L) m))
    (name_field 13 L))
    → step_of (head_bytes first d g (name_bytes name)) ≡ Some (make d g name)
read-name first d g name make no_inode no_block h is =
    let R = name_bytes name in
    let L = head_bytes first d g R in
    let same : head_bytes first d g (R ++ []) ≡ L = ap (head_bytes first d g) (append-nil R) in
    let a = inode-back first d g R h.0 in
    let b = generation-back first d g R h.1 in
    let n : name_field 13 L ≡ Some name = ap (name_field 13) (sym same) ∙ found first d g name [] no_inode no_block in
    let size : length L ≡ 14 + length name = length-head first d g R ∙ omega arith in
    handled first d g R no_inode no_block
    ∙ is L
    ∙ ap (option_and_then (λ m. where_ends (length L == 14 + length m) (make (inode_field L) (generation_field L) m))) n
    ∙ where-true _ _ _ (eq-eqb (length L) (14 + length name) size) (λ k. make (a k) (b k) name)

read-look : (d g : ℕ) (name : List ℕ) → IsHandle d g
    → step_of (head_bytes 1 d g (name_bytes name)) ≡ Some (step.Look d g name)
unfolding handled_of named_of look_request
read-look d g name h = read-name 1 d g name step.Look refl refl h (λ L. refl)

read-drop : (d g : ℕ) (name : List ℕ) → IsHandle d g
    → step_of (head_bytes 4 d g (name_bytes name)) ≡ Some (step.Drop d g name)
unfolding handled_of named_of drop_of
read-drop d g name h = read-name 4 d g name step.Drop refl refl h (λ L. refl)

read-make : (d g : ℕ) (name : List ℕ) (kind : FileKind) → IsHandle d g
    → step_of (head_bytes 2 d g (name_bytes name ++ kind_byte kind ∷ [])) ≡ Some (step.Make d g name kind)
unfolding handled_of named_of make_of
read-make d g name kind h =
    let last = kind_byte kind ∷ [] in
    let R = name_bytes name ++ last in
    let L = head_bytes 2 d g R in
    let a = inode-back 2 d g R h.0 in
    let b = generation-back 2 d g R h.1 in
    let size : length L ≡ 15 + length name = length-named 2 d g name last refl refl ∙ omega arith in
    let here : 14 + length name ≡ 14 + length name + 0 = omega arith in
    let byte : slice_index L (14 + length name) ≡ kind_byte kind =
    ap (slice_index L) here ∙ sym (get_or-drop (14 + length name) L 0 0)
    ∙ ap (λ m. slice_index m 0) (behind-name 2 d g name last refl refl) in
    handled 2 d g R refl refl
    ∙ ap (option_and_then (λ m. named_of 2 m L)) (found 2 d g name last refl refl)
    ∙ ap (option_and_then (λ k. where_ends (length L == 15 + length name)
    (step.Make (inode_field L) (generation_field L) name k))) (ap kind_numbered byte ∙ kind-back kind)
    ∙ where-true _ _ _ (eq-eqb (length L) (15 + length name) size) (λ k. step.Make (a k) (b k) name kind)

read-link : (d g i of : ℕ) (name : List ℕ) → IsHandle d g → IsHandle i of
    → step_of (head_bytes 3 d g (name_bytes name ++ (number_bytes 4 i ++ number_bytes 8 of)))
    ≡ Some (step.Link d g name i of)
unfolding handled_of named_of link_of
read-link d g i of name h file =
    let last = number_bytes 4 i ++ number_bytes 8 of in
    let R = name_bytes name ++ last in
    let L = head_bytes 3 d g R in
    let at = 14 + length name in
    let a = inode-back 3 d g R h.0 in
    let b = generation-back 3 d g R h.1 in
    let behind = behind-name 3 d g name last refl refl in
    let place : 18 + length name ≡ at + 4 = omega arith in
    let more : drop (18 + length name) L ≡ number_bytes 8 of =
    ap (λ n. drop n L) place ∙ sym (drop-drop 4 at L) ∙ ap (drop 4) behind
    ∙ drop_at (number_bytes 4 i) (number_bytes 8 of) 4 (length-number_bytes 4 i) in
    let c : number_at 4 at L ≡ i = number-behind 4 at L last behind ∙ number-back 4 i (number_bytes 8 of) file.0 in
    let e : number_at 8 (18 + length name) L ≡ of = number-behind 8 (18 + length name) L (number_bytes 8 of) more
    ∙ number-last 8 of file.1 in
    let size : length L ≡ 26 + length name =
    length-named 3 d g name last refl refl
    ∙ omega
    (arith, length-append (number_bytes 4 i) (number_bytes 8 of), length-number_bytes 4 i, length-number_bytes 8 of) in
    handled 3 d g R refl refl
    ∙ ap (option_and_then (λ m. named_of 3 m L)) (found 3 d g name last refl refl)
    ∙ where-true _ _ _ (eq-eqb (length L) (26 + length name) size) (λ k. step.Link (a k) (b k) name (c k) (e k))

read-rename : (d g : ℕ) (old new : List ℕ) → IsHandle d g
    → step_of (head_bytes 5 d g (name_bytes old ++ name_bytes new)) ≡ Some (step.Rename d g old new)
unfolding handled_of named_of rename_of
read-rename d g old new h =
    let last = name_bytes new in
    let R = name_bytes old ++ last in
    let L = head_bytes 5 d g R in
    let a = inode-back 5 d g R h.0 in
    let b = generation-back 5 d g R h.1 in
    let long = length-named 5 d g old last refl refl in
    let second : name_field (14 + length old) L ≡ Some new =
    name-back (14 + length old) new [] L (behind-name 5 d g old last refl refl ∙ sym (append-nil last))
    (long ∙ omega arith) in
    let size : length L ≡ 15 + length old + length new = long ∙ omega arith in
    handled 5 d g R refl refl
    ∙ ap (option_and_then (λ m. named_of 5 m L)) (found 5 d g old last refl refl)
    ∙ ap (option_and_then (λ m. where_ends (length L == 15 + length old + length m)
    (step.Rename (inode_field L) (generation_field L) old m))) second
    ∙ where-true _ _ _ (eq-eqb (length L) (15 + length old + length new) size) (λ k. step.Rename (a k) (b k) old new)

-- a number alone
read-alone : (first n x : ℕ) (make : ℕ → Step) → x < 256 ^ n
    → step_of (first ∷ number_bytes n x) ≡ where_ends (length (first ∷ number_bytes n x) == n + 1)
    (make (number_at n 1 (first ∷ number_bytes n x)))
    → step_of (first ∷ number_bytes n x) ≡ Some (make x)
read-alone first n x make small is =
    let L = first ∷ number_bytes n x in
    let a : number_at n 1 L ≡ x = number-behind n 1 L (number_bytes n x) refl ∙ number-last n x small in
    is ∙ where-true _ _ _ (eq-eqb (length L) (n + 1) (omega (arith, length-number_bytes n x))) (λ k. make (a k))

read-see-inode : (i : ℕ) → i < 2 ^ 32 → step_of (12 ∷ number_bytes 4 i) ≡ Some (step.SeeInode i)
unfolding step_of step_by see_inode_of
read-see-inode i small = read-alone 12 4 i step.SeeInode small refl

read-see-block : (p : ℕ) → p < 2 ^ 64 → step_of (13 ∷ number_bytes 8 p) ≡ Some (step.SeeBlock p)
unfolding step_of step_by see_block_of
read-see-block p small = read-alone 13 8 p step.SeeBlock small refl

-- each step whose numbers fit is read from its body
pub read-back : (s : Step) → FitsBody s → step_of (request_bytes s) ≡ Some s
unfolding request_bytes
read-back (step.Look d g name) h = read-look d g name h
read-back (step.Make d g name kind) h = read-make d g name kind h
read-back (step.Link d g name i of) h = read-link d g i of name h.0 h.1
read-back (step.Drop d g name) h = read-drop d g name h
read-back (step.Rename d g old new) h = read-rename d g old new h
read-back (step.List d g slot) h = read-list d g slot h.0 h.1
read-back (step.Get i g slot) h = read-get i g slot h.0 h.1
read-back (step.Put i g slot at bytes) h = read-put i g slot at bytes h.0 h.1 h.2
read-back (step.Resize i g size) h = read-resize i g size h.0 h.1
read-back (step.Stat i g) h = read-stat i g h
read-back (step.Flush i g) h = read-flush i g h
read-back (step.SeeInode i) h = read-see-inode i h
read-back (step.SeeBlock p) h = read-see-block p h

-- what a reader answers to that body
pub reads-back : {E : Type 0} (r : Result (Option Step) E) (body : List ℕ) → IfOk r (λ o. o ≡ step_of body)
    → (s : Step) → FitsBody s → body ≡ request_bytes s → IfOk r (λ o. o ≡ Some s)
reads-back (Err x) body is s fits same = tt
reads-back (Ok o) body is s fits same = is ∙ ap step_of same ∙ read-back s fits
