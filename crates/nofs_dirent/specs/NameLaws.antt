-- The test of a name decides what it says.
use Rattle.std.specs.Prelude.{ℕ, ◌≤◌, ◌&&◌, ◌||◌, not, List, [], ◌∷◌, length, All, Decides, nat_le, ◌==◌, bytes_eq}
use Rattle.std.specs.Prelude.{refl}
use Rattle.std.specs.List.{list_all}
use Rattle.std.proofs.Common.{leb-true, le-leb, ⊎_elim, inl, inr}
use Rattle.std.proofs.lemmas.Bool.Decides.{Decides-and, Decides-by_and, Decides-eqb, Decides-like, Decides-not}
use Rattle.std.proofs.lemmas.Bool.Decides.{Decides-or}
use Rattle.std.proofs.lemmas.Slice.Eq.{bytes_eq-Decides}
use Rattle.nofs_dirent.specs.Names.{IsNameByte, NameOk, is_name, is_name_byte, longest_name}

decides-le : (a b : ℕ) → Decides (nat_le a b) (a ≤ b)
decides-le a b = (leb-true a b, le-leb a b)

decides-byte : (b : ℕ) → Decides (is_name_byte b) (IsNameByte b)
decides-byte b =
    let lower = Decides-or (b == 13) ((b == 32) || (b == 47)) (Decides-eqb b 13)
    (Decides-or (b == 32) (b == 47) (Decides-eqb b 32) (Decides-eqb b 47)) in
    let upper = Decides-or (b == 10) ((b == 13) || ((b == 32) || (b == 47))) (Decides-eqb b 10) lower in
    let each = Decides-or (b == 0) ((b == 10) || ((b == 13) || ((b == 32) || (b == 47)))) (Decides-eqb b 0) upper in
    Decides-like (is_name_byte b)
    (λ h. (
      λ e. h (inl e),
      λ e. h (inr (inl e)),
      λ e. h (inr (inr (inl e))),
      λ e. h (inr (inr (inr (inl e)))),
      λ e. h (inr (inr (inr (inr e)))),
    ))
    (λ h o. ⊎_elim h.0 (λ p. ⊎_elim h.1 (λ q. ⊎_elim h.2 (λ r. ⊎_elim h.3 h.4 r) q) p) o)
    (Decides-not ((b == 0) || ((b == 10) || ((b == 13) || ((b == 32) || (b == 47))))) each)

decides-bytes : (name : List ℕ) → Decides (list_all is_name_byte name) (All IsNameByte name)
decides-bytes = Decides-by_and is_name_byte IsNameByte (list_all is_name_byte) decides-byte refl (λ _ _. refl)

-- the test decides whether a name is one
pub is_name-Decides : (name : List ℕ) → Decides (is_name name) (NameOk name)
unfolding is_name
is_name-Decides name =
    let dots = Decides-not (bytes_eq name (46 ∷ []) || bytes_eq name (46 ∷ 46 ∷ []))
    (Decides-or (bytes_eq name (46 ∷ [])) (bytes_eq name (46 ∷ 46 ∷ [])) (bytes_eq-Decides name (46 ∷ []))
    (bytes_eq-Decides name (46 ∷ 46 ∷ []))) in
    let tail = Decides-and (list_all is_name_byte name) (not (bytes_eq name (46 ∷ []) || bytes_eq name (46 ∷ 46 ∷ [])))
    (decides-bytes name) dots in
    let short = Decides-and (nat_le (length name) longest_name)
    (list_all is_name_byte name && not (bytes_eq name (46 ∷ []) || bytes_eq name (46 ∷ 46 ∷ [])))
    (decides-le (length name) longest_name) tail in
    let all = Decides-and (nat_le 1 (length name)) (nat_le (length name) longest_name
    && (list_all is_name_byte name && not (bytes_eq name (46 ∷ []) || bytes_eq name (46 ∷ 46 ∷ []))))
    (decides-le 1 (length name)) short in
    Decides-like (is_name name)
    (λ h. record {
      some = h.0;
      short = h.1.0;
      bytes = h.1.1.0;
      not_dot = λ e. h.1.1.1 (inl e);
      not_dots = λ e. h.1.1.1 (inr e);
    })
    (λ n. (n.some, (n.short, (n.bytes, λ o. ⊎_elim n.not_dot n.not_dots o))))
    all
