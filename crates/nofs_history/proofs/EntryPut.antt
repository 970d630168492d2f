-- A cell with an entry in it, as a writer of entries puts it.
use Rattle.std.proofs.Common.{◌≡◌, ℕ, ◌+◌, ◌*◌, ◌%◌, List, ◌++◌, length, take, drop, refl, sym, ap, ◌∙◌, append_assoc}
use Rattle.nofs_disk.specs.Number.{put_bytes}
use Rattle.nofs_disk.specs.Number as number
use Rattle.nofs_model.specs.declared.image.value.Value.{Value}
use Rattle.nofs_model.specs.declared.image.value.Value.TheVariants.{Bytes}
use Rattle.nofs_history.specs.Machine.{bytes_in, with_entry, zero_bytes}

-- the 64 bytes of an entry stand at its place
pub with-entry-put : (old : Value) (e : ℕ) (bytes : List ℕ) → length bytes ≡ 64
    → with_entry old e bytes ≡ Bytes (put_bytes (64 * (e % 16)) bytes (bytes_in old))
unfolding with_entry put_bytes
with-entry-put old e bytes short =
    let at : ℕ = 64 * (e % 16) in
    ap (λ (l : List ℕ). Bytes l) (append_assoc (take at (bytes_in old)) bytes (drop (at + 64) (bytes_in old)))
    ∙ ap (λ (n : ℕ). Bytes (take at (bytes_in old) ++ (bytes ++ drop (at + n) (bytes_in old)))) (sym short)

-- zeros are those that a device's cell begins with
pub zeros-are : (n : ℕ) → zero_bytes n ≡ number.zeros n
unfolding number.zeros
zeros-are n = refl
