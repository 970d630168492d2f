-- After a step on names each block has its home.
use Rattle.std.proofs.Common.{◌≡◌, ◌≢◌, ℕ, Bool, true, false, eqb, ◌||◌, Option, Some, None, is_some, refl, sym, ap}
use Rattle.std.proofs.Common.{◌∙◌, subst, eqb-true, eq-eqb}
use Rattle.nofs_model.specs.Files.{files_in, agreed, FileState, Files}
use Rattle.nofs_history.specs.Machine.{Given, born_file, file_after, files_after}
use Rattle.nofs_crashlaw.specs.Maps.Moves.{HeldMove}
use Rattle.nofs_crashlaw.proofs.OnMaps.Homes.{uses-inode}
use Rattle.nofs_crashlaw.proofs.OnMaps.Moves.{law-move}
use Rattle.nofs_crashlaw.proofs.OnNames.Files.{touches-of}
use Rattle.nofs_crashlaw.specs.Homes.Names.{LawNameHomes}

-- what is not born was there
was-there : (F : Files) (given : Given) (j : ℕ)
    → given.born j ≡ None → is_some (files_after F given j) ≡ true → is_some (F j) ≡ true
was-there F given j born some =
    go (F j) (subst (λ (o : Option ℕ). is_some (file_after given j (born_file o (F j))) ≡ true) born some)
  where
    go : (o : Option FileState) → is_some (file_after given j o) ≡ true → is_some o ≡ true
    go None e = cc e
    go (Some f) e = refl

neither : (a b : Bool) → (a || b) ≡ false → (a ≡ false) × (b ≡ false)
neither true b e = cc e
neither false b e = (refl, e)

pub law-name-homes : LawNameHomes
law-name-homes W step c given s d i X Y p =
    law-move W step c s (λ j. eqb j d || eqb j i) X Y p.claim (touches-of s d i X Y p.writes)
    (λ j a. p.old j (uses-inode W.files X p.before j ∙ a))
    p.stand
    (λ j t a. untouched j (neither (eqb j d) (eqb j i) t) a)
    (λ j t. touched j (eqb j d) refl t)
  where
    untouched : (j : ℕ) → (eqb j d ≡ false) × (eqb j i ≡ false)
        → agreed (files_in Y) j ≡ true → agreed (files_in X) j ≡ true
    untouched j n a =
        let nd : j ≢ d = λ e. let t = eq-eqb j d e in let f = n.0 in cc (t, f) in
        let ni : j ≢ i = λ e. let t = eq-eqb j i e in let f = n.1 in cc (t, f) in
        sym (uses-inode W.files X p.before j)
        ∙ was-there W.files given j (p.born j nd ni) (uses-inode (files_after W.files given) Y p.after j ∙ a)

    touched : (j : ℕ) (b : Bool) → eqb j d ≡ b → (eqb j d || eqb j i) ≡ true → HeldMove c X Y j
    touched j true e t = subst (λ (q : ℕ). HeldMove c X Y q) (sym (eqb-true j d e)) p.directory
    touched j false e t =
        subst (λ (q : ℕ). HeldMove c X Y q) (sym (eqb-true j i (ap (λ (b : Bool). b || eqb j i) (sym e) ∙ t))) p.inode
