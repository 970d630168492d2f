-- A directory cell with one entry rewritten: that entry is the new one, and every other stays.
use Rattle.std.proofs.Common.{◌≡◌, ◌≢◌, ℕ, ◌+◌, ◌-◌, ◌*◌, ◌%◌, ◌≤◌, inl, inr, List, ◌++◌, length, take, drop, replicate}
use Rattle.std.proofs.Common.{None, refl, sym, ap, ◌∙◌, arith}
use Rattle.std.proofs.lemmas.List.{length-take-le, length-append, take_at, drop_at, take-append-le, drop-append-le}
use Rattle.std.proofs.lemmas.List.{take-append-drop, append_assoc}
use Rattle.std.proofs.lemmas.List.{length-drop, length-replicate, replicate-append-replicate}
use Rattle.std.proofs.lemmas.Bool.{cases_lt}
use Rattle.std.proofs.lemmas.Slice.{drop-append-drop}
use Rattle.nofs_history.specs.Machine.{bytes_in, zero_bytes, with_entry}
use Rattle.nofs_disk.specs.Number.{number_at}
use Rattle.nofs_dirent.specs.Entries.{entry_fields, entry_of, entry_in}
use Rattle.nofs_model.specs.declared.image.value.Value.{Value}
use Rattle.nofs_model.specs.declared.image.value.Value.TheVariants.{Hole, Bytes, Lost}
use Rattle.nofs_model.specs.Files.{entry_held}

window-here : (xs ys : List ℕ) (a : ℕ) → a ≤ length xs
    → length ys ≡ 64 → take 64 (drop a (take a xs ++ ys ++ drop (a + 64) xs)) ≡ ys
window-here xs ys a le len =
    let la : length (take a xs) ≡ a = length-take-le a xs le in
    let d : drop a (take a xs ++ ys ++ drop (a + 64) xs) ≡ ys ++ drop (a + 64) xs =
    ap (λ (l : List ℕ). drop a l) (append_assoc (take a xs) ys (drop (a + 64) xs))
    ∙ drop_at (take a xs) (ys ++ drop (a + 64) xs) a la in
    ap (λ (l : List ℕ). take 64 l) d ∙ take_at ys (drop (a + 64) xs) 64 len

below-cut : (us ws : List ℕ) (b : ℕ) → b + 64 ≤ length us → take 64 (drop b (us ++ ws)) ≡ take 64 (drop b us)
below-cut us ws b lt =
    let ld : length (drop b us) ≡ length us - b = length-drop b us in
    ap (λ (l : List ℕ). take 64 l) (drop-append-le b us ws (omega (arith, lt)))
    ∙ take-append-le 64 (drop b us) ws (omega (arith, ld, lt))

window-below : (xs ys : List ℕ) (a b : ℕ) → a ≤ length xs
    → b + 64 ≤ a → take 64 (drop b (take a xs ++ ys ++ drop (a + 64) xs)) ≡ take 64 (drop b xs)
window-below xs ys a b le lt =
    let la : length (take a xs) ≡ a = length-take-le a xs le in
    let lb : b + 64 ≤ length (take a xs) = omega (arith, la, lt) in
    ap (λ (l : List ℕ). take 64 (drop b l)) (append_assoc (take a xs) ys (drop (a + 64) xs))
    ∙ below-cut (take a xs) (ys ++ drop (a + 64) xs) b lb
    ∙ sym (below-cut (take a xs) (drop a xs) b lb) ∙ ap (λ (l : List ℕ). take 64 (drop b l)) (take-append-drop a xs)

window-above : (xs ys : List ℕ) (a b : ℕ) → a ≤ length xs → length ys ≡ 64 → a + 64 ≤ b
    → take 64 (drop b (take a xs ++ ys ++ drop (a + 64) xs)) ≡ take 64 (drop b xs)
window-above xs ys a b le len lt =
    let la : length (take a xs) ≡ a = length-take-le a xs le in
    let lp : length (take a xs ++ ys) ≡ a + 64 = length-append (take a xs) ys ∙ omega (arith, la, len) in
    ap (λ (l : List ℕ). take 64 l) (drop-append-drop (a + 64) xs (take a xs ++ ys) b lt lp)

zeros-split : (n k m : ℕ) → n ≡ k + m → zero_bytes n ≡ zero_bytes k ++ zero_bytes m
zeros-split n k m e = ap (λ (q : ℕ). replicate q 0) e ∙ sym (replicate-append-replicate k m 0)

window-zeros : (n b m : ℕ) → n ≡ b + (64 + m) → take 64 (drop b (zero_bytes n)) ≡ zero_bytes 64
window-zeros n b m e =
    ap (λ (l : List ℕ). take 64 (drop b l)) (zeros-split n b (64 + m) e)
    ∙ ap (λ (l : List ℕ). take 64 l) (drop_at (zero_bytes b) (zero_bytes (64 + m)) b (length-replicate {A = ℕ} b 0))
    ∙ ap (λ (l : List ℕ). take 64 l) (zeros-split (64 + m) 64 m refl)
    ∙ take_at (zero_bytes 64) (zero_bytes m) 64 (length-replicate {A = ℕ} 64 0)

pub no-entry : entry_of (zero_bytes 64) ≡ None
unfolding entry_of entry_fields number_at
no-entry = refl

no-entry-at : (n j : ℕ) → 64 * j + 64 ≤ n → entry_of (take 64 (drop (64 * j) (zero_bytes n))) ≡ None
no-entry-at n j lt =
    ap (λ (l : List ℕ). entry_of l) (window-zeros n (64 * j) (n - (64 * j + 64)) (omega (arith, lt))) ∙ no-entry

module _ (old : Value) (e : ℕ) (bytes : List ℕ) (whole : length (bytes_in old) ≡ 1024) (short : length bytes ≡ 64) where
  -- the entry itself
  pub entry-here : entry_held (with_entry old e bytes) e ≡ entry_of bytes
  unfolding with_entry
  entry-here =
      ap (λ (l : List ℕ). entry_of l) (window-here (bytes_in old) bytes (64 * (e % 16)) (omega (arith, whole)) short)

  -- the others are those of the bytes before
  pub others : (l : ℕ) → l % 16 ≢ e % 16 → entry_held (with_entry old e bytes) l ≡ entry_in (bytes_in old) (l % 16)
  unfolding with_entry
  others l ne = elim (cases_lt (l % 16) (e % 16)) [
    | inl lt ↦ ap (λ (q : List ℕ). entry_of q)
        (window-below (bytes_in old) bytes (64 * (e % 16)) (64 * (l % 16)) (omega (arith, whole)) (omega (arith, lt)))
    | inr le ↦ ap (λ (q : List ℕ). entry_of q)
        (window-above (bytes_in old) bytes (64 * (e % 16)) (64 * (l % 16)) (omega (arith, whole)) short
        (omega (arith, le, ne)))
  ]

pub entry-there : (old : Value) (e l : ℕ) (bytes : List ℕ) (whole : length (bytes_in old) ≡ 1024)
    (short : length bytes ≡ 64) → old ≢ Lost → l % 16 ≢ e % 16
    → entry_held (with_entry old e bytes) l ≡ entry_held old l
entry-there (Bytes c) e l bytes whole short ok ne = others (Bytes c) e bytes whole short l ne
entry-there Lost e l bytes whole short ok ne = absurd (ok refl)
entry-there Hole e l bytes whole short ok ne = others Hole e bytes whole short l ne
    ∙ no-entry-at 1024 (l % 16) (omega arith)
