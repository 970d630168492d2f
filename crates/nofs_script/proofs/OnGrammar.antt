-- No command has five words: of a longer line the first five tell all.
use Rattle.std.proofs.Common.{◌≡◌, ℕ, List, [], ◌∷◌, take, Option, Some, None, Err, refl, ap, if◌then◌else◌, codes}
use Rattle.std.specs.Str.{bytes_eq}
use Rattle.nofs_script.specs.declared.commands.Verb.{Verb}
use Rattle.nofs_script.specs.declared.faults.ScriptKind.TheVariants.{WordCount}
use Rattle.nofs_script.specs.declared.session.Reading.{Reading}
use Rattle.nofs_script.specs.Grammar.{verb_in}
use Rattle.nofs_script.specs.Session.{read_verb, read_words}

-- a verb with more than three words after it has a wrong number of words, whatever they are
many : (r : Reading) (v : Option Verb) (a b c d : List ℕ) (rest : List (List ℕ))
    → read_verb r v (a ∷ b ∷ c ∷ d ∷ []) ≡ read_verb r v (a ∷ b ∷ c ∷ d ∷ rest)
many r None a b c d rest = refl
many r (Some v) a b c d rest = refl

pub read_five : (r : Reading) (words : List (List ℕ)) → read_words r (take 5 words) ≡ read_words r words
read_five r [] = refl
read_five r (w ∷ []) = refl
read_five r (w ∷ a ∷ []) = refl
read_five r (w ∷ a ∷ b ∷ []) = refl
read_five r (w ∷ a ∷ b ∷ c ∷ []) = refl
read_five r (w ∷ a ∷ b ∷ c ∷ d ∷ rest) =
    ap (λ x. if bytes_eq w (codes "user") then Err WordCount else x) (many r (verb_in w) a b c d rest)
