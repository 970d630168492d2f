-- The copy of the lead, and the mirror that begins with it.
use Rattle.std.proofs.Common.{◌≡◌, ℕ, ◌+◌, ◌<◌, ◌≤◌, Bool, List, [], length, take, cond, arith, inl, inr, refl, sym, ap}
use Rattle.std.proofs.Common.{subst, ◌∙◌, Result}
use Rattle.std.specs.Prelude.{Contains, IsTrue, nat_lt}
use Rattle.std.proofs.lemmas.Bool.{and_parts, cases_lt, le-ltb, lt-ltb}
use Rattle.std.proofs.lemmas.List.{ext_get_or, get_or-take, length-take-le}
use Rattle.nofs_disk.specs.declared.Failed.{Failed}
use Rattle.nofs_disk.specs.declared.tag.Cell.{Cell}
use Rattle.nofs_disk.specs.Chains.{IsSameDisk-trans, KeepsPast-trans, Rose-within, StaysButFaults-refl}
use Rattle.nofs_disk.specs.Chains.{StaysButFaults-trans}
use Rattle.nofs_disk.specs.Disk.{DiskState, Flushes, IsDisk, IsSettled, StaysButFaults, cell_at, no_cell}
use Rattle.nofs_mirror.specs.declared.copying.CopyFault.{CopyFault}
use Rattle.nofs_mirror.specs.declared.copying.CopyFault.TheVariants.{Read, Write}
use Rattle.nofs_mirror.specs.declared.sides.choices.MirrorStart.{MirrorStart}
use Rattle.nofs_mirror.specs.declared.sides.past.MirrorCall.{MirrorCall}
use Rattle.nofs_mirror.specs.declared.sides.past.Span.{Span}
use Rattle.nofs_mirror.specs.Copying.{CopyCause, Copies, HasCopied}
use Rattle.nofs_mirror.specs.Laws.{MirrorKeeps}
use Rattle.nofs_mirror.specs.Mirror.{IsSide}

pub Copies-trans : (a b c x y z : DiskState) → Copies a b x y → Copies b c y z → Copies a c x z
Copies-trans a b c x y z p q = record {
  lead = StaysButFaults-trans a b c p.lead q.lead;
  disk = IsSameDisk-trans x y z p.disk q.disk;
  past = KeepsPast-trans x y z p.later p.past q.past;
  later = let e = p.later in let f = q.later in omega arith;
}

pub copies_flush : (a b x y z : DiskState) {result : Result (Unit {0}) Failed} → Copies a b x y → Flushes y z result
    → Copies a b x z
copies_flush a b x y z p f = Copies-trans a b b x y z p (record {
  lead = StaysButFaults-refl b;
  disk = f.disk;
  past =
      f.past;
  later = (let e = f.moment in omega arith);
})

pub copied_flush : (n : ℕ) (lead y z : DiskState) {result : Result (Unit {0}) Failed} → Flushes y z result
    → HasCopied lead y n → HasCopied lead z n
copied_flush n lead y z f has b lead_tells other_tells low =
    ap (λ l. cell_at l b) f.now ∙ has b lead_tells (sym f.disk.tells ∙ other_tells) low

-- a fault of the last call is one of the copy
pub cause_within : (fault : CopyFault) (a b c x y z : DiskState) → Copies a b x y → CopyCause fault b c y z
    → CopyCause fault a c x z
cause_within Read a b c x y z p rose =
    Rose-within a.faults b.faults c.faults c.faults p.lead.disk.faults rose (omega arith)
cause_within Write a b c x y z p rose =
    Rose-within x.faults y.faults z.faults z.faults p.disk.faults rose (omega arith)

-- one cell more
pub copied_more : (a b y z : DiskState) (k : ℕ) → StaysButFaults a b
    → ((j : ℕ) → HasCopied b y j → k ≡ j → HasCopied b z (j + 1)) → HasCopied a y k
    → HasCopied a z (k + 1)
copied_more a b y z k stays step has c lead_tells other_tells low =
    let now : (d : ℕ) → cell_at b.now d ≡ cell_at a.now d = λ d. ap (λ l. cell_at l d) stays.cells.now in
    let tells = stays.disk.tells in
    step k (λ d lead_t other_t inside. has d (sym tells ∙ lead_t) other_t inside ∙ sym (now d)) refl c
    (tells ∙ lead_tells) other_tells low ∙ now c

-- a side at the opening
pub side_begins : (n s : ℕ) (side : MirrorCall → Span) (opened : Span) (past : List MirrorCall) (disk : DiskState)
    → n ≤ disk.blocks → s ≡ 0 → past ≡ []
    → opened.ended ≡ disk.moment → IsSide n s side opened past disk
side_begins n s side opened past disk fits none begins ends =
    let F : List MirrorCall → Type 0 = λ l. IsSide n s side opened l disk in
    subst F (sym begins) (record {
      fits = fits;
      room = omega arith;
      marked =
          record { start = omega arith; begins = λ k low. absurd (omega arith); ends = λ k low. absurd (omega arith) };
      last = ends;
    })

first_has : (n b : ℕ) (may : ℕ → List Cell) (c : Cell) → b < n → Contains (may b) c
    → Contains (cond (nat_lt b n) (may b) []) c
first_has n b may c low has = let F : List Cell → Type 0 = λ l. Contains l c in subst F (sym (is n b may low)) has
  where
    is : (n b : ℕ) (may : ℕ → List Cell) → b < n → cond (nat_lt b n) (may b) [] ≡ may b
    is n b may low = rw (lt-ltb b n low) refl

first_in : (n b : ℕ) (may : ℕ → List Cell) (c : Cell) → Contains (cond (nat_lt b n) (may b) []) c
    → (b < n) × Contains (may b) c
first_in n b may c has = elim (cases_lt b n) [
  | inl low ↦ let F : List Cell → Type 0 = λ l. Contains l c in (low, subst F (at_true n b may low) has)
  | inr past ↦ let F : List Cell → Type 0 = λ l. Contains l c in absurd (none c (subst F (at_false n b may past) has))
]
  where
    at_true : (n b : ℕ) (may : ℕ → List Cell) → b < n → cond (nat_lt b n) (may b) [] ≡ may b
    at_true n b may low = rw (lt-ltb b n low) refl

    at_false : (n b : ℕ) (may : ℕ → List Cell) → n ≤ b → cond (nat_lt b n) (may b) [] ≡ []
    at_false n b may past = rw (le-ltb b n past) refl

    none : (x : Cell) → Contains [] x → ⊥
    none x (k, low, is) = omega arith

-- the first cells of a copy
copy_now : (n : ℕ) (lead other : DiskState) → IsDisk lead → IsDisk other
    → n ≤ lead.blocks → n ≤ other.blocks → IsTrue lead.tells → IsTrue other.tells
    → HasCopied lead other n → take n other.now ≡ take n lead.now
copy_now n lead other is_lead is_other lead_fits other_fits lead_tells other_tells has =
    let lead_whole = is_lead.whole lead_tells in
    let other_whole = is_other.whole other_tells in
    let lead_len : length (take n lead.now) ≡ n = length-take-le n lead.now (omega arith) in
    let other_len : length (take n other.now) ≡ n = length-take-le n other.now (omega arith) in
    ext_get_or no_cell (take n other.now) (take n lead.now) (other_len ∙ sym lead_len)
    (λ b low. let inside : b < n = omega arith in
    get_or-take n other.now b no_cell inside ∙ has b lead_tells other_tells inside
    ∙ sym (get_or-take n lead.now b no_cell inside))

-- what a flushed copy may hold
copy_covers : (n : ℕ) (lead other : DiskState) (may : ℕ → List Cell) → IsDisk lead
    → n ≤ lead.blocks → n ≤ other.blocks → IsTrue lead.tells
    → IsTrue other.tells → HasCopied lead other n → IsSettled other → may ≡ lead.may
    → (b : ℕ) (c : Cell) → b < n → Contains (other.may b) c → Contains (may b) c
copy_covers n lead other may is_lead lead_fits other_fits lead_tells other_tells has settled same b c low in_other =
    let is : c ≡ cell_at lead.now b = settled b c (omega arith) in_other ∙ has b lead_tells other_tells low in
    let F : Cell → Type 0 = λ x. Contains (may b) x in
    let G : (ℕ → List Cell) → Type 0 = λ m. Contains (m b) (cell_at lead.now b) in
    subst F (sym is) (subst G (sym same) (is_lead.has_now b lead_tells (omega arith)))

-- what is kept of a mirror that begins
pub kept_begins : (lead other first : DiskState) (opening : MirrorStart) (past : List MirrorCall) → IsDisk lead
    → IsDisk other → opening.blocks ≤ lead.blocks
    → opening.blocks ≤ other.blocks → StaysButFaults first lead → past ≡ []
    → IsTrue opening.lead.is_in → (IsTrue opening.other.is_in → HasCopied lead other opening.blocks × IsSettled other)
    → ∥ MirrorKeeps lead other first opening past ∥₁
kept_begins lead other first opening past is_lead is_other lead_fits other_fits stays begins lead_in copied =
    let F : List MirrorCall → Type 0 = λ l. ∥ MirrorKeeps lead other first opening l ∥₁ in
    subst F (sym begins) (∣ kept ∣₁)
  where
    n : ℕ
    n = opening.blocks

    same : (b : ℕ) → first.may b ≡ lead.may b
    same b = let p = stays.cells.may in λ i. sym p i b

    now_is : take n lead.now ≡ take n (cond opening.lead.is_in lead.now other.now)
    now_is = let F : Bool → Type 0 = λ x. take n lead.now ≡ take n (cond x lead.now other.now) in
        subst F (sym lead_in) refl

    kept : MirrorKeeps lead other first opening []
    kept t =
        let parts = and_parts lead.tells other.tells t in
        record {
          lead = λ e. record {
            now = now_is;
            covers = λ b c low has. first_has n b first.may c low (let F : List Cell → Type 0 =
                λ l. Contains l c in subst F (sym (same b)) has);
          };
          other = λ e. record {
            now = copy_now n lead other is_lead is_other lead_fits other_fits parts.0 parts.1 (copied e).0 ∙ now_is;
            covers = λ b c low has. first_has n b first.may c low
                (copy_covers n lead other first.may is_lead lead_fits other_fits parts.0 parts.1
                (copied e).0 (copied e).1 (sym stays.cells.may) b c low has);
          };
          within = record {
            beyond = λ b c past_end has. let two = (first_in n b first.may c has).0 in omega arith;
            sized = λ b c has. let F : List Cell → Type 0 = λ l. Contains l c in
                is_lead.sized b c (subst F (same b) (first_in n b first.may c has).1);
          };
        }
