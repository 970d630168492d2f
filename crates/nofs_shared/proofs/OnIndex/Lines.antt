-- What an index tells is true where its lines are.
use Rattle.std.proofs.Common.{◌≡◌, ℕ, Bool, true, false, cond, List, Option, Some, None, Result, Ok, Err, IfSome, OnOk}
use Rattle.std.proofs.Common.{OnErr, refl, sym, ap, ◌∙◌, subst}
use Rattle.std.specs.Prelude.{nat_eq}
use Rattle.std.specs.HashMap.{HashMap, IsUnchanged, Updates, get}
use Rattle.std.specs.declared.hash.FoldHasher.{FoldHasher}
use Rattle.std.specs.declared.hash.BuildHasherDefault.{BuildHasherDefault}
use Rattle.nofs_dirent.specs.Names.{is_name}
use Rattle.nofs_model.specs.Files.{Files}
use Rattle.nofs_history.specs.declared.machine.replies.Found.{Found}
use Rattle.nofs_shared.specs.declared.index.Index.{Index}
use Rattle.nofs_shared.specs.declared.index.line.Line.{Line}
use Rattle.nofs_shared.specs.Index.Lines.{AllTrue, IsTrueLine}
use Rattle.nofs_shared.specs.Index.Names.{Finds}

abbrev Lines : Type 0
Lines = HashMap ℕ Line (BuildHasherDefault FoldHasher)

finds-is : (F : Files) (d g e h : ℕ) (name other : List ℕ) (it file : Found) → d ≡ e → g ≡ h → name ≡ other → it ≡ file
    → Finds F d g name it → Finds F e h other file
finds-is F d g e h name other it file p q r s f =
    subst (λ (x : ℕ × ℕ × List ℕ × Found). Finds F x.0 x.1 x.2 x.3) (λ j. (p j, q j, r j, s j)) f

-- the file of a line that is of the name
pub found-line : (index : Index) (code : ℕ) (line : Line) (d g : ℕ) (name : List ℕ) (res : Option Found)
    → get nat_eq index.lines code ≡ Some line
    → IfSome res (λ it. (line.directory ≡ d) × (line.generation ≡ g) × (line.name ≡ name))
    → IfSome res (λ it. line.found ≡ it)
    → IfSome res (λ it. (F : Files) → AllTrue F index → Finds F d g name it)
found-line index code line d g name None at of is = tt
found-line index code line d g name (Some it) at of is = λ F all.
    finds-is F line.directory line.generation d g line.name name line.found it of.0 of.1 of.2 is (all code line at)

-- such a name is one that a file can have, as that of the line
pub found-good : (line : Line) (d g : ℕ) (name : List ℕ) (res : Option Found)
    → IfSome res (λ it. (line.directory ≡ d) × (line.generation ≡ g) × (line.name ≡ name))
    → IfSome res (λ it. is_name name ≡ true)
found-good line d g name None of = tt
found-good line d g name (Some it) of = sym (ap is_name of.2) ∙ line.good

-- one more line, or none
pub put-line : {E : Type 0} (m n : Lines) (code : ℕ) (line : Line) (res : Result (Option Line) E)
    → OnOk res (Updates nat_eq m n code (Some line)) → OnErr res (IsUnchanged m n) → (F : Files)
    → ((c : ℕ) (l : Line) → get nat_eq m c ≡ Some l → IsTrueLine F l) → IsTrueLine F line
    → (c : ℕ) (l : Line) → get nat_eq n c ≡ Some l → IsTrueLine F l
put-line m n code line (Ok old) up err F all new c l at = go (nat_eq code c) refl
  where
    go : (b : Bool) → nat_eq code c ≡ b → IsTrueLine F l
    go true e =
        let is : Some line ≡ Some l = sym (up.0 c ∙ ap (λ (b : Bool). cond b (Some line) (get nat_eq m c)) e) ∙ at in
        let same : line ≡ l = cc is in
        subst (λ (x : Line). IsTrueLine F x) same new
    go false e = all c l (sym (up.0 c ∙ ap (λ (b : Bool). cond b (Some line) (get nat_eq m c)) e) ∙ at)
put-line m n code line (Err e) up err F all new c l at =
    all c l (let same : n.entries ≡ m.entries = err in cc (same, at))

-- the lines stay true where what is found stays found
pub all-true-on : (F G : Files) (index : Index)
    → ((d g : ℕ) (name : List ℕ) (it : Found) → Finds F d g name it → Finds G d g name it) → AllTrue F index
    → AllTrue G index
all-true-on F G index stays all code line at =
    stays line.directory line.generation line.name line.found (all code line at)
