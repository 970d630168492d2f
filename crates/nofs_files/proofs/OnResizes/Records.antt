-- The pointers of a record from which some are cut off.
use Rattle.std.proofs.Common.{◌≡◌, ℕ, ◌-◌, ◌<◌, ◌≤◌, min, inl, inr, Bool, true, false, leb, ltb, leb-true, List, ◌++◌}
use Rattle.std.proofs.Common.{length, take, replicate, refl, sym, ap, ◌∙◌, subst, arith, ne_eqb, get_or}
use Rattle.std.proofs.lemmas.Bool.{cases_lt, cases_eq}
use Rattle.std.proofs.lemmas.Bool.Decides.{nat_tests}
use Rattle.std.proofs.lemmas.List.{get_or_append_left, get_or-append_right, get_or-take, get_or-replicate, get_or_past}
use Rattle.std.proofs.lemmas.List.{length-take-le, length-append, length-replicate}
use Rattle.nofs_disk.specs.Pointer.{null, is_null}
use Rattle.nofs_disk.specs.declared.tag.Pointer.{Pointer}
use Rattle.nofs_inode.specs.declared.inode.Record.{Record}
use Rattle.nofs_ptrs.specs.Paths.{InRecord}
use Rattle.nofs_model.specs.Slots.{record_pointer}
use Rattle.nofs_crashlaw.specs.Files.Resizes.{is_cut}
use Rattle.nofs_files.specs.Resizes.{cut_record, kept_pointer}
use Rattle.nofs_files.proofs.OnResizes.Slots.{leb-lt}

lt-true : (a m : ℕ) → a < m → ltb a m ≡ true
lt-true a m h = grind (arith, nat_tests)

lt-false : (a m : ℕ) → m ≤ a → ltb a m ≡ false
lt-false a m h = grind (arith, nat_tests)

abbrev cut_direct : ℕ → List Pointer → List Pointer
cut_direct m d = take (min m 8) d ++ replicate (8 - min m 8) null

module _ (m : ℕ) (d : List Pointer) (eight : length d ≡ 8) where
  front : length (take (min m 8) d) ≡ min m 8
  front = length-take-le (min m 8) d (omega (arith, eight))

  all : length (cut_direct m d) ≡ 8
  all = length-append (take (min m 8) d) (replicate (8 - min m 8) null) ∙
      (let f = front in let r = length-replicate (8 - min m 8) null in omega (arith, f, r))

  direct-past : (n : ℕ) → 8 ≤ n → get_or (cut_direct m d) n null ≡ null
  direct-past n high = get_or_past (cut_direct m d) n null (let a = all in omega (arith, a, high))

  direct-cut : (n : ℕ) → n < 8 → m ≤ n → get_or (cut_direct m d) n null ≡ null
  direct-cut n low high =
      get_or-append_right (take (min m 8) d) (replicate (8 - min m 8) null) (min m 8) n null front
      (omega (arith, low, high))
      ∙ get_or-replicate (8 - min m 8) (n - min m 8) null null (omega (arith, low, high))

  direct-stays : (n : ℕ) → n < 8 → n < m → get_or (cut_direct m d) n null ≡ get_or d n null
  direct-stays n low before =
      get_or_append_left (take (min m 8) d) (replicate (8 - min m 8) null) null n
      (let f = front in omega (arith, f, low, before)) ∙ get_or-take (min m 8) d n
      null (omega (arith, low, before))

  direct-none : (n : ℕ) → 8 ≤ n → get_or d n null ≡ null
  direct-none n high = get_or_past d n null (omega (arith, eight, high))

module _ (r : Record) (size m : ℕ) (eight : length r.direct ≡ 8) where
  -- which place of the record it is
  by-place : (P : ℕ → Type 0) → (n : ℕ) → (n ≡ 8 → P n) → (n ≡ 9 → P n) → (n < 8 → P n) → (10 ≤ n → P n) → P n
  by-place P n at-leaf at-top low high = elim (cases_lt n 8) [
    | inl lt ↦ low lt
    | inr le ↦ elim (cases_eq n 8) [
      | inl e ↦ at-leaf e
      | inr ne ↦ elim (cases_eq n 9) [
        | inl e ↦ at-top e
        | inr nf ↦ high (omega (arith, le, ne, nf))
      ]
    ]
  ]

  plain-cut : (n : ℕ) → (n ≡ 8 → ⊥) → (n ≡ 9 → ⊥) → is_cut m (InRecord n) ≡ leb m n
  plain-cut n a b = let x = ne_eqb n 8 a in let y = ne_eqb n 9 b in rw (x, y) refl

  plain-pointer : (q : Record) (n : ℕ) → (n ≡ 8 → ⊥) → (n ≡ 9 → ⊥) → record_pointer q n ≡ get_or q.direct n null
  plain-pointer q n a b = let x = ne_eqb n 8 a in let y = ne_eqb n 9 b in rw (x, y) refl

  pub record-cut : (n : ℕ) → is_cut m (InRecord n) ≡ true → is_null (record_pointer (cut_record r size m) n) ≡ true
  record-cut n t =
      by-place (λ (q : ℕ). is_cut m (InRecord q) ≡ true → is_null (record_pointer (cut_record r size m) q) ≡ true) n
      (λ e. subst (λ (q : ℕ). is_cut m (InRecord q) ≡ true → is_null (record_pointer (cut_record r size m) q) ≡ true)
      (sym e)
      (λ s. let z = lt-false 8 m (leb-true m 8 s) in ap (λ (b : Bool). is_null (kept_pointer r.leaf b)) z))
      (λ e. subst (λ (q : ℕ). is_cut m (InRecord q) ≡ true → is_null (record_pointer (cut_record r size m) q) ≡ true)
      (sym e)
      (λ s. let z = lt-false 72 m (leb-true m 72 s) in ap (λ (b : Bool). is_null (kept_pointer r.top b)) z))
      (λ low s. ap is_null (plain-pointer (cut_record r size m) n (λ e. omega (arith, e, low))
      (λ e. omega (arith, e, low)) ∙ direct-cut m r.direct eight n
      low (leb-true m n (sym (plain-cut n (λ e. omega (arith, e, low)) (λ e. omega (arith, e, low))) ∙ s))))
      (λ high s. ap is_null (plain-pointer (cut_record r size m) n (λ e. omega (arith, e, high))
      (λ e. omega (arith, e, high)) ∙ direct-past m r.direct eight
      n (omega (arith, high))))
      t

  pub record-stays : (n : ℕ)
      → is_cut m (InRecord n) ≡ false → record_pointer (cut_record r size m) n ≡ record_pointer r n
  record-stays n t = by-place
      (λ (q : ℕ). is_cut m (InRecord q) ≡ false → record_pointer (cut_record r size m) q ≡ record_pointer r q) n
      (λ e. subst (λ (q : ℕ). is_cut m (InRecord q) ≡ false
      → record_pointer (cut_record r size m) q ≡ record_pointer r q) (sym e)
      (λ s. let z = lt-true 8 m (leb-lt m 8 s) in ap (λ (b : Bool). kept_pointer r.leaf b) z))
      (λ e. subst (λ (q : ℕ). is_cut m (InRecord q) ≡ false
      → record_pointer (cut_record r size m) q ≡ record_pointer r q) (sym e)
      (λ s. let z = lt-true 72 m (leb-lt m 72 s) in ap (λ (b : Bool). kept_pointer r.top b) z))
      (λ low s. plain-pointer (cut_record r size m) n (λ e. omega (arith, e, low)) (λ e. omega (arith, e, low))
      ∙ direct-stays m r.direct eight n low
      (leb-lt m n (sym (plain-cut n (λ e. omega (arith, e, low)) (λ e. omega (arith, e, low))) ∙ s))
      ∙ sym (plain-pointer r n (λ e. omega (arith, e, low)) (λ e. omega (arith, e, low))))
      (λ high s. plain-pointer (cut_record r size m) n (λ e. omega (arith, e, high)) (λ e. omega (arith, e, high))
      ∙ direct-past m r.direct eight n
      (omega (arith, high)) ∙ sym (direct-none m r.direct eight n (omega (arith, high)))
      ∙ sym (plain-pointer r n (λ e. omega (arith, e, high)) (λ e. omega (arith, e, high))))
      t
