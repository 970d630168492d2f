-- What spells a superblock: what is written is read, and nothing else spells it.
use Rattle.std.proofs.Common.{◌≡◌, ℕ, zero, suc, ◌+◌, ◌-◌, ◌^◌, ◌<◌, ◌≤◌, ◌==◌, Bool, true, false, cond, not, ◌&&◌}
use Rattle.std.proofs.Common.{List, [], ◌∷◌, length, take, drop, get_or}
use Rattle.std.proofs.Common.{replicate, Option, Some, None, Result, Ok, Err, lit≤, arith, refl, subst, sym, ap, ◌∙◌}
use Rattle.std.proofs.Common.{inl, inr, eqb, ltb, leb}
use Rattle.std.specs.Prelude.{position, slice_index, slice_range, nat_eq, is_none, IfOk, if◌then◌else◌}
use Rattle.std.specs.Option.{option_map, option_or}
use Rattle.std.specs.List.{list_all, prefix_len}
use Rattle.std.proofs.lemmas.Bool.{and_parts, cases_lt, eqb-true, leb-false, le-ltb, lt-leb, ltb-false, ltb-true}
use Rattle.std.proofs.lemmas.List.{ext_get_or, get_or-drop, get_or-take, length-drop, length-replicate, length-take-le}
use Rattle.std.proofs.lemmas.List.Sums.{prefix_len_passes}
use lib.Pointwise.{bytes_decides, pointwise}
use Rattle.nofs_disk.specs.Number.{IsBytes, IsBytes-put_number, IsBytes-zeros, length-put_number, length-zeros}
use Rattle.nofs_disk.specs.Number.{number_at, number_at-put_after}
use Rattle.nofs_disk.specs.Number.{number_at-put_same, put_bytes, put_bytes-byte, put_number, zeros}
use Rattle.nofs_disk.specs.OneSpelling.{number_at-same}
use Rattle.nofs_disk.specs.Parts.{drop-put_bytes, range-put_behind, range-put_front, length-put_bytes, range-zeros}
use Rattle.nofs_disk.specs.Parts.{take-put_bytes_first, take-put_number}
use Rattle.nofs_super.specs.declared.superblock.SuperBlock.{SuperBlock}
use Rattle.nofs_super.specs.declared.superblock.MountFault.{MountFault}
use Rattle.nofs_super.specs.declared.superblock.MountFault.TheVariants.{BadGeometry, BadMagic, BadVersion}
use Rattle.nofs_super.specs.declared.superblock.MountFault.TheVariants.{DeviceTooSmall, MountsSpent}
use Rattle.nofs_super.specs.Format.{super_payload}
use Rattle.nofs_super.specs.Geometry.{on_device, is_geometry, is_geometry-from, is_geometry-parts}
use Rattle.nofs_super.specs.Super.{CanMount, check_numbers, check_rest, check_super, has_magic, is_super, is_version}
use Rattle.nofs_super.specs.Super.{magic, rest_fault, super_in, super_of}

-- What is written is read

-- no byte of zeros isn't zero
prefix_all : (k : ℕ) → prefix_len (λ x. not (not (x == 0))) (replicate k 0) ≡ k
prefix_all zero = refl
prefix_all (suc k) = let e = prefix_all k in omega arith

no_fault : (k : ℕ) → position (λ byte. not (byte == 0)) (zeros k) ≡ None
unfolding zeros
no_fault k = rw (le-ltb (prefix_len (λ x. not (not (x == 0))) (replicate k 0)) (length {A = ℕ} (replicate k 0)) (let e =
    prefix_all k in let f : length {A = ℕ} (replicate k 0) ≡ k = length-replicate k 0 in omega arith))

module _ (it : SuperBlock) (version : it.version < 2 ^ 32) (blocks : it.blocks < 2 ^ 64) (inodes : it.inodes < 2 ^ 64)
    (mount : it.mount < 2 ^ 64) where
  p1 : List ℕ
  p1 = put_bytes 0 magic (zeros 1024)

  abbrev p2 : List ℕ
  p2 = put_number 4 8 it.version p1

  abbrev p3 : List ℕ
  p3 = put_number 8 16 it.blocks p2

  abbrev p4 : List ℕ
  p4 = put_number 8 24 it.inodes p3

  abbrev p5 : List ℕ
  p5 = put_number 8 32 it.mount p4

  len1 : length p1 ≡ 1024
  unfolding p1
  len1 = let z = length-zeros 1024 in
      length-put_bytes 0 magic (zeros 1024) (let small : 0 + length magic ≤ 1024 = lit≤ tt in omega arith) ∙ z

  len2 : length p2 ≡ 1024
  len2 = let a = len1 in length-put_number 4 8 it.version p1 (omega arith) ∙ a

  len3 : length p3 ≡ 1024
  len3 = let a = len2 in length-put_number 8 16 it.blocks p2 (omega arith) ∙ a

  len4 : length p4 ≡ 1024
  len4 = let a = len3 in length-put_number 8 24 it.inodes p3 (omega arith) ∙ a

  -- the numbers before those that are put last
  before_mount : (n at : ℕ) → at + n ≤ 32 → number_at n at p5 ≡ number_at n at p4
  before_mount n at low = let d = len4 in number_at-put_after 8 32 n at it.mount p4 (omega arith) low

  before_inodes : (n at : ℕ) → at + n ≤ 24 → number_at n at p5 ≡ number_at n at p3
  before_inodes n at low = let c = len3 in
      before_mount n at (omega arith) ∙ number_at-put_after 8 24 n at it.inodes p3 (omega arith) low

  version_is : number_at 4 8 p5 ≡ it.version
  version_is =
      let a = len1 in let b = len2 in
      before_inodes 4 8 (omega arith)
      ∙ number_at-put_after 8 16 4 8 it.blocks p2 (omega arith) (omega arith)
      ∙ number_at-put_same 4 8 it.version p1 (omega arith) (omega arith)

  blocks_is : number_at 8 16 p5 ≡ it.blocks
  blocks_is = let b = len2 in
      before_inodes 8 16 (omega arith) ∙ number_at-put_same 8 16 it.blocks p2 (omega arith) (omega arith)

  inodes_is : number_at 8 24 p5 ≡ it.inodes
  inodes_is = let c = len3 in
      before_mount 8 24 (omega arith) ∙ number_at-put_same 8 24 it.inodes p3 (omega arith) (omega arith)

  mount_is : number_at 8 32 p5 ≡ it.mount
  mount_is = let d = len4 in number_at-put_same 8 32 it.mount p4 (omega arith) (omega arith)

  magic_is : take 8 p5 ≡ magic
  unfolding p1
  magic_is =
      let a = len1 in let b = len2 in let c = len3 in let d = len4 in
      take-put_number 8 32 it.mount 8 p4 (omega arith) (omega arith)
      ∙ take-put_number 8 24 it.inodes 8 p3 (omega arith) (omega arith)
      ∙ take-put_number 8 16 it.blocks 8 p2 (omega arith) (omega arith)
      ∙ take-put_number 4 8 it.version 8 p1 (omega arith) (omega arith)
      ∙ take-put_bytes_first 8 magic (zeros 1024) refl

  rests : (slice_range p5 12 16 ≡ zeros 4) × (slice_range p5 40 1024 ≡ zeros 984)
  unfolding p1
  rests =
      let a = len1 in let b = len2 in let c = len3 in let d = len4 in let z = length-zeros 1024 in (
        range-put_front 8 32 it.mount 12 16 p4 (omega arith) (omega arith)
            ∙ range-put_front 8 24 it.inodes 12 16 p3 (omega arith) (omega arith)
            ∙ range-put_front 8 16 it.blocks 12 16 p2 (omega arith) (omega arith)
            ∙ range-put_behind 4 8 it.version 12 16 p1 (omega arith) (omega arith)
            ∙ ap (take 4) (drop-put_bytes 0 12 magic (zeros 1024) (omega arith) (lit≤ tt))
            ∙ range-zeros 1024 12 16 (omega arith),
        range-put_behind 8 32 it.mount 40 1024 p4 (omega arith) (omega arith)
            ∙ range-put_behind 8 24 it.inodes 40 1024 p3 (omega arith) (omega arith)
            ∙ range-put_behind 8 16 it.blocks 40 1024 p2 (omega arith) (omega arith)
            ∙ range-put_behind 4 8 it.version 40 1024 p1 (omega arith) (omega arith)
            ∙ ap (take 984) (drop-put_bytes 0 40 magic (zeros 1024) (omega arith) (lit≤ tt))
            ∙ range-zeros 1024 40 1024 (omega arith),
      )

  has_it : has_magic p5 ≡ true
  has_it = ap (λ l. pointwise nat_eq l magic) magic_is

  no_rest : rest_fault p5 ≡ None
  no_rest = rw (rests.0, rests.1, no_fault 4, no_fault 984)

  whole_is : p5 ≡ super_payload it
  unfolding p1 super_payload
  whole_is = refl

  numbers_are : super_in p5 ≡ it
  unfolding super_in
  numbers_are = rw (version_is, blocks_is, inodes_is, mount_is)

  spelled_is : is_version it.version ≡ true → is_super p5 ≡ true
  unfolding is_super
  spelled_is ok = rw (has_it, numbers_are, ok, no_rest)

  pub super_of-payload : is_version it.version ≡ true → super_of (super_payload it) ≡ Some it
  unfolding super_of
  super_of-payload ok = rw (← whole_is, spelled_is ok, numbers_are)

  pub check_super-payload : (device : ℕ) → CanMount device it → check_super device (super_payload it) ≡ Ok it
  unfolding check_super
  check_super-payload device can =
      let g = can.geometry in
      let fits = g.fits in
      let most = g.most_blocks in
      let bound = on_device device (2 ^ 64 - 1) g (omega arith) in
      rw (
        ← whole_is,
        has_it,
        numbers_are,
        can.version,
        no_rest,
        is_geometry-from (2 ^ 64 - 1) it.blocks it.inodes bound,
        le-ltb device it.blocks fits,
        lt-leb (2 ^ 24 - 1) it.mount can.mount,
      )

-- What is read, spelled it

-- what a check found that ended well
pub record IsFine (device : ℕ) (payload : List ℕ) (it : SuperBlock) : Type 0 where
  pub spelled : super_of payload ≡ Some it
  pub can : CanMount device it

-- the rows from the geometry on
numbers-fine : (device : ℕ) (payload : List ℕ) (it got : SuperBlock)
    → super_in payload ≡ it → is_super payload ≡ true → is_version it.version ≡ true
    → check_numbers device it ≡ Ok got → IsFine device payload got
unfolding super_of
numbers-fine device payload it got numbers spelled version e =
    go (is_geometry (2 ^ 64 - 1) it.blocks it.inodes) refl (ltb device it.blocks) refl
    (leb (2 ^ 24 - 1) it.mount) refl e
  where
    go : (a : Bool) → is_geometry (2 ^ 64 - 1) it.blocks it.inodes ≡ a → (b : Bool)
        → ltb device it.blocks ≡ b → (c : Bool) → leb (2 ^ 24 - 1) it.mount ≡ c
        → (if not a then Err (BadGeometry it.blocks it.inodes) else if b then Err (DeviceTooSmall device) else if c
        then Err (MountsSpent it.mount)
        else Ok it) ≡ Ok got → IsFine device payload got
    go false ea b eb c ec e = cc
    go true ea true eb c ec e = cc
    go true ea false eb true ec e = cc
    go true ea false eb false ec e =
        let g = is_geometry-parts (2 ^ 64 - 1) it.blocks it.inodes ea in
        let geometry = on_device (2 ^ 64 - 1) device g (ltb-false device it.blocks eb) in
        let same : it ≡ got = cc in
        let fine : IsFine device payload it = record {
          spelled = rw (spelled, numbers);
          can = record { version = version; geometry = geometry; mount = leb-false (2 ^ 24 - 1) it.mount ec };
        } in
        subst (λ (s : SuperBlock). IsFine device payload s) same fine

-- the rows from the rest on
rest-fine : (device : ℕ) (payload : List ℕ) (it got : SuperBlock)
    → super_in payload ≡ it → has_magic payload ≡ true → is_version it.version ≡ true
    → (o : Option ℕ) → rest_fault payload ≡ o → check_rest device it o ≡ Ok got → IsFine device payload got
unfolding is_super
rest-fine device payload it got numbers first version (Some at) rest e = cc
rest-fine device payload it got numbers first version None rest e =
    numbers-fine device payload it got numbers (rw (first, numbers, version, rest)) version e

pub check_super-fine : (device : ℕ) (payload : List ℕ) (got : SuperBlock) → check_super device payload ≡ Ok got
    → IsFine device payload got
unfolding check_super
check_super-fine device payload got e = go (has_magic payload) refl (is_version (super_in payload).version) refl e
  where
    go : (a : Bool) → has_magic payload ≡ a → (b : Bool) → is_version (super_in payload).version ≡ b
        → (if not a then Err (BadMagic (take 8 payload)) else if not b then Err (BadVersion (super_in payload).version)
        else check_rest device
        (super_in payload) (rest_fault payload)) ≡ Ok got
        → IsFine device payload got
    go false ea b eb e = cc
    go true ea false eb e = cc
    go true ea true eb e = rest-fine device payload (super_in payload) got refl ea eb (rest_fault payload) refl e

-- what a check answers where it ends well
pub if-spelled : (device : ℕ) (payload other : List ℕ) (T : Type 0) (result : Result SuperBlock MountFault)
    → result ≡ check_super device payload
    → (T → payload ≡ other)
    → IfOk result (λ it. T → super_of other ≡ Some it)
if-spelled device payload other T (Ok it) e same = λ t. let fine =
    check_super-fine device payload it (sym e) in subst (λ (l : List ℕ). super_of l ≡ Some it) (same t) fine.spelled
if-spelled device payload other T (Err fault) e same = tt

pub if-mountable : (device : ℕ) (payload : List ℕ) (result : Result SuperBlock MountFault)
    → result ≡ check_super device payload → IfOk result (CanMount device)
if-mountable device payload (Ok it) e = let fine = check_super-fine device payload it (sym e) in fine.can
if-mountable device payload (Err fault) e = tt

-- A superblock has one spelling

-- what the bytes of a payload are where it spells a superblock
record HasParts (payload : List ℕ) (it : SuperBlock) : Type 0 where
  version : is_version it.version ≡ true
  first : take 8 payload ≡ magic
  numbers : super_in payload ≡ it
  low : (k : ℕ) → 12 ≤ k → k < 16 → slice_index payload k ≡ 0
  high : (k : ℕ) → 40 ≤ k → k < 1024 → slice_index payload k ≡ 0

not-not : (b : Bool) → not (not b) ≡ true → b ≡ true
not-not true e = refl
not-not false e = cc

-- where no byte isn't zero, each is
all_zero : (xs : List ℕ) → position (λ byte. not (byte == 0)) xs ≡ None → (k : ℕ) → k < length xs → get_or xs k 0 ≡ 0
all_zero xs e k low = go (ltb (prefix_len (λ x. not (not (x == 0))) xs) (length xs)) refl e
  where
    go : (b : Bool) → ltb (prefix_len (λ x. not (not (x == 0))) xs) (length xs) ≡ b
        → cond b (Some (prefix_len (λ x. not (not (x == 0))) xs)) None ≡ None
        → get_or xs k 0 ≡ 0
    go true eb e = cc
    go false eb e =
        let whole : length xs ≤ prefix_len (λ x. not (not (x == 0))) xs =
        ltb-false (prefix_len (λ x. not (not (x == 0))) xs) (length xs) eb in
        eqb-true (get_or xs k 0) 0
        (not-not (eqb (get_or xs k 0) 0) (prefix_len_passes (λ x. not (not (x == 0))) xs k 0 (omega arith)))

range_zero : (xs : List ℕ) (a b : ℕ) → b ≤ length xs
    → position (λ byte. not (byte == 0)) (slice_range xs a b) ≡ None → (k : ℕ) → a ≤ k → k < b
    → get_or xs k 0 ≡ 0
range_zero xs a b fits e k from to =
    let len = length-take-le (b - a) (drop a xs) (let d = length-drop a xs in omega arith) in
    let at : a + (k - a) ≡ k = omega arith in
    sym (get_or-take (b - a) (drop a xs) (k - a) 0 (omega arith) ∙ get_or-drop a xs (k - a) 0
    ∙ ap (λ i. get_or xs i 0) at)
    ∙ all_zero (slice_range xs a b) e (k - a) (omega arith)

-- both parts of the rest
record NoRest (payload : List ℕ) : Type 0 where
  low : position (λ byte. not (byte == 0)) (slice_range payload 12 16) ≡ None
  high : position (λ byte. not (byte == 0)) (slice_range payload 40 1024) ≡ None

no_rest-parts : (payload : List ℕ) → rest_fault payload ≡ None → NoRest payload
no_rest-parts payload e = go (position (λ byte. not (byte == 0)) (slice_range payload 12 16)) refl
    (position (λ byte. not (byte == 0)) (slice_range payload 40 1024)) refl e
  where
    go : (a : Option ℕ) → position (λ byte. not (byte == 0)) (slice_range payload 12 16) ≡ a → (b : Option ℕ)
        → position (λ byte. not (byte == 0)) (slice_range payload 40 1024) ≡ b
        → option_or (option_map (λ at. 12 + at) a) (option_map (λ at. 40 + at) b) ≡ None → NoRest payload
    go (Some x) ea b eb e = cc
    go None ea (Some y) eb e = cc
    go None ea None eb e = record { low = ea; high = eb }

is-none : (o : Option ℕ) → is_none o ≡ true → o ≡ None
is-none None e = refl
is-none (Some x) e = cc

super-parts : (payload : List ℕ) (it : SuperBlock) → length payload ≡ 1024 → super_of payload ≡ Some it
    → HasParts payload it
unfolding super_of is_super
super-parts payload it len e = go (is_super payload) refl e
  where
    go : (b : Bool) → is_super payload ≡ b → (if b then Some (super_in payload) else None) ≡ Some it
        → HasParts payload it
    go false eb e = cc
    go true eb e =
        let one = and_parts (has_magic payload)
        (is_version (super_in payload).version && is_none (rest_fault payload)) eb in
        let two = and_parts (is_version (super_in payload).version) (is_none (rest_fault payload)) one.1 in
        let rest = no_rest-parts payload (is-none (rest_fault payload) two.1) in
        let numbers : super_in payload ≡ it = cc in
        record {
          version = subst (λ (s : SuperBlock). is_version s.version ≡ true) numbers two.0;
          first = (bytes_decides (take 8 payload) magic).0 one.0;
          numbers = numbers;
          low = range_zero payload 12 16 (omega arith) rest.low;
          high = range_zero payload 40 1024 (omega arith) rest.high;
        }

parts-same : (xs ys : List ℕ) (it : SuperBlock) → IsBytes 1024 xs → IsBytes 1024 ys → HasParts xs it
    → HasParts ys it → xs ≡ ys
unfolding super_in
parts-same xs ys it is_x is_y x y =
    ext_get_or 0 xs ys (is_x.len ∙ sym is_y.len) (λ k low.
    let l = is_x.len in
    let same : super_in xs ≡ super_in ys = x.numbers ∙ sym y.numbers in
    let part : (n at : ℕ) → number_at n at xs ≡ number_at n at ys
    → at ≤ k → k < at + n → slice_index xs k ≡ slice_index ys k =
    λ n at e a b. number_at-same n at xs ys is_x.each is_y.each e k a b in
    elim (cases_lt k 8) [
      | inl a ↦ sym (get_or-take 8 xs k 0 a) ∙ ap (λ p. get_or p k 0) (x.first ∙ sym y.first) ∙ get_or-take 8 ys k 0 a
      | inr b ↦ elim (cases_lt k 12) [
        | inl c ↦ part 4 8 (ap (λ (s : SuperBlock). s.version) same) b (omega arith)
        | inr d ↦ elim (cases_lt k 16) [
          | inl e ↦ x.low k d e ∙ sym (y.low k d e)
          | inr f ↦ elim (cases_lt k 24) [
            | inl g ↦ part 8 16 (ap (λ (s : SuperBlock). s.blocks) same) f (omega arith)
            | inr h ↦ elim (cases_lt k 32) [
              | inl i ↦ part 8 24 (ap (λ (s : SuperBlock). s.inodes) same) h (omega arith)
              | inr j ↦ elim (cases_lt k 40) [
                | inl m ↦ part 8 32 (ap (λ (s : SuperBlock). s.mount) same) j (omega arith)
                | inr n ↦ x.high k n (omega arith) ∙ sym (y.high k n (omega arith))
              ]
            ]
          ]
        ]
      ]
    ])

-- where two payloads spell one superblock they are one
pub super_of-same : (xs ys : List ℕ) (it : SuperBlock) → IsBytes 1024 xs → IsBytes 1024 ys → super_of xs ≡ Some it
    → super_of ys ≡ Some it → xs ≡ ys
super_of-same xs ys it is_x is_y spells_x spells_y =
    parts-same xs ys it is_x is_y (super-parts xs it is_x.len spells_x) (super-parts ys it is_y.len spells_y)

each-byte : (xs : List ℕ) → list_all (λ x. ltb x 256) xs ≡ true → (k : ℕ) → slice_index xs k < 256
each-byte [] e k = omega arith
each-byte (x ∷ xs) e zero = ltb-true x 256 (and_parts (ltb x 256) (list_all (λ x. ltb x 256) xs) e).0
each-byte (x ∷ xs) e (suc k) = each-byte xs (and_parts (ltb x 256) (list_all (λ x. ltb x 256) xs) e).1 k

pub IsBytes-super_payload : (it : SuperBlock) → IsBytes 1024 (super_payload it)
unfolding super_payload
IsBytes-super_payload it =
    let z = IsBytes-zeros 1024 in
    let l = z.len in
    let first : IsBytes 1024 (put_bytes 0 magic (zeros 1024)) = record {
      len = length-put_bytes 0 magic (zeros 1024)
          (let small : 0 + length magic ≤ 1024 = lit≤ tt in omega arith) ∙ z.len;
      each = put_bytes-byte 0 magic (zeros 1024) (each-byte magic refl) z.each;
    } in
    let one = IsBytes-put_number 1024 4 8 it.version (put_bytes 0 magic (zeros 1024)) (omega arith) first in
    let two = IsBytes-put_number 1024 8 16 it.blocks _ (omega arith) one in
    let three = IsBytes-put_number 1024 8 24 it.inodes _ (omega arith) two in
    IsBytes-put_number 1024 8 32 it.mount _ (omega arith) three

-- a superblock has no other spelling than the one that is written
pub super_of-only : (it : SuperBlock)
    → it.version < 2 ^ 32 → it.blocks < 2 ^ 64 → it.inodes < 2 ^ 64 → it.mount < 2 ^ 64
    → (payload : List ℕ) → IsBytes 1024 payload → super_of payload ≡ Some it → payload ≡ super_payload it
super_of-only it version blocks inodes mount payload is spells =
    let parts = super-parts payload it is.len spells in
    super_of-same payload (super_payload it) it is (IsBytes-super_payload it) spells
    (super_of-payload it version blocks inodes mount parts.version)
