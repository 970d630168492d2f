-- Whom an entry names, by its first bytes.
use Rattle.std.proofs.Common.{◌≡◌, ℕ, Bool, true, false, eqb, ◌&&◌, List, Option, Some, None, is_some, refl, sym, ◌∙◌}
use Rattle.std.proofs.Common.{arith, eqb-true}
use Rattle.std.proofs.lemmas.Bool.Decides.{nat_tests}
use Rattle.nofs_disk.specs.Number.{number_at}
use Rattle.nofs_dirent.specs.Entries.{entry_of}
use Rattle.nofs_dirent.specs.declared.entry.Entry.{Entry}
use Rattle.nofs_model.specs.Files.{names}
use Rattle.nofs_model.proofs.OnFiles.Entries.{names-fields}
use Rattle.nofs_model.proofs.OnSlots.Find.{and-both}
use Rattle.nofs_scan.specs.Sights.Verdicts.{named_inode}

pub named-some : (o : Option Entry) (i g : ℕ)
    → names o i g ≡ true → Some (record { inode = i; generation = g }) ≡ named_inode o
named-some None i g e = cc
named-some (Some x) i g e =
    let both = and-both (eqb x.inode i) (eqb x.generation g) e in
    let inode : x.inode ≡ i = eqb-true x.inode i both.0 in
    let generation : x.generation ≡ g = eqb-true x.generation g both.1 in
    λ j. Some (record { inode = sym inode j; generation = sym generation j })

eqb-same : (m n : ℕ) → m ≡ n → eqb m n ≡ true
eqb-same m n e = grind (arith, nat_tests)

none-named : (o : Option Entry) → is_some o ≡ false → None ≡ named_inode o
none-named None e = refl
none-named (Some x) e = cc

pub named-none : (bytes : List ℕ) (i g : ℕ) → i ≡ number_at 4 0 bytes → g ≡ number_at 8 8 bytes
    → names (entry_of bytes) i g ≡ false
    → None ≡ named_inode (entry_of bytes)
named-none bytes i g ei eg e = go (is_some (entry_of bytes)) refl
  where
    go : (b : Bool) → is_some (entry_of bytes) ≡ b → None ≡ named_inode (entry_of bytes)
    go false f = none-named (entry_of bytes) f
    go true f =
        let same : names (entry_of bytes) i g ≡ true = names-fields bytes i g f
        ∙ (λ j. eqb-same (number_at 4 0 bytes) i (sym ei) j && eqb-same (number_at 8 8 bytes) g (sym eg) j) in
        absurd (let z = sym same ∙ e in cc z)
