-- What is read is a session: its commands are well formed, and its scripts are 1 to 8.
use Rattle.std.proofs.Common.{◌≡◌, ℕ, zero, suc, ◌+◌, ◌<◌, ◌==◌, nat_lt, Bool, true, false, if◌then◌else◌, List, []}
use Rattle.std.proofs.Common.{◌∷◌, ◌++◌, length}
use Rattle.std.proofs.Common.{length-append, Option, None, Some, Result, Ok, Err, IfOk, arith, codes, refl, subst}
use Rattle.std.specs.List.{AllByRecursion}
use Rattle.std.specs.Str.{bytes_eq}
use Rattle.std.proofs.lemmas.Bool.{ltb-true, eqb-false}
use Rattle.hex.specs.Hex.{decode_of}
use Rattle.hex.proofs.HexLemmas.{decode_of-ok}
use Rattle.nofs_history.specs.declared.machine.callers.TheConstants.{MOST_USERS}
use Rattle.nofs_client.specs.declared.task.commands.Path.{Path}
use Rattle.nofs_client.specs.declared.task.commands.Path.TheVariants.{Label, Names}
use Rattle.nofs_client.specs.declared.task.commands.Command.{Command}
use Rattle.nofs_client.specs.Task.Commands.{HasName, IsWellFormed, has_last_name}
use Rattle.nofs_script.specs.declared.commands.Verb.{Verb}
use Rattle.nofs_script.specs.declared.commands.Verb.TheVariants as verb
use Rattle.nofs_script.specs.declared.faults.ScriptKind.{ScriptKind}
use Rattle.nofs_script.specs.declared.faults.ScriptKind.TheVariants.{BadPath, BadHex, TooManyUsers, TooMuchAsked}
use Rattle.nofs_script.specs.declared.faults.ScriptKind.TheVariants.{TooManyCommands}
use Rattle.nofs_script.specs.declared.session.Reading.{Reading}
use Rattle.nofs_script.specs.Grammar.{◌>>=◌, path_word, new_path_word, number_word, hex_word, hex_digits, one_word}
use Rattle.nofs_script.specs.Grammar.{two_words, three_words}
use Rattle.nofs_script.specs.Grammar.{command_of, verb_in}
use Rattle.nofs_script.specs.Session.{with_command, asked_by, user_of, read_verb, read_words, read_line}
use Rattle.nofs_script.specs.Session.{line_to_break, at_line, read_from, empty_reading}
use Rattle.nofs_script.specs.Session.{is_skipped, IsSession}
use Rattle.nofs_script.specs.Words.{words_of, text_lines}

-- what holds of a reading holds of the next one
bind : {A B E : Type 0} (P : A → Type 0) (Q : B → Type 0) (r : Result A E) (f : A → Result B E) → IfOk r P
    → ((x : A) → P x → IfOk (f x) Q) → IfOk (r >>= f) Q
bind P Q (Ok x) f p next = next x p
bind P Q (Err e) f p next = tt

-- nothing is asked of a reading
any : {A E : Type 0} (r : Result A E) → IfOk r (λ _. Unit {0})
any (Ok x) = tt
any (Err e) = tt

named : (path : Path) → has_last_name path ≡ true → HasName path
named Label e = cc
named (Names []) e = cc
named (Names (name ∷ names)) e = omega arith

new_path : (word : List ℕ) → IfOk (new_path_word word) HasName
unfolding new_path_word
new_path word = bind (λ _. Unit {0}) HasName (path_word word) _ (any (path_word word))
    (λ path _. go path (has_last_name path) refl) where
      go : (path : Path) (b : Bool)
          → has_last_name path ≡ b → IfOk {E = ScriptKind} (if b then Ok path else Err BadPath) HasName
      go path true e = named path e
      go path false e = tt

-- what is not zero is above it
positive : (n : ℕ) → (n ≡ 0 → ⊥) → 0 < n
positive zero ne = absurd (ne refl)
positive (suc n) ne = omega arith

-- digits that decode are as many bytes as there are pairs of them
some_bytes : (word : List ℕ) → 0 < length word → IfOk (hex_digits (decode_of word)) (λ bytes. 0 < length bytes)
some_bytes word some = go (decode_of word) refl where
  go : (r : _) → decode_of word ≡ r → IfOk (hex_digits r) (λ bytes. 0 < length bytes)
  go (Ok bytes) e = omega (arith, (decode_of-ok word bytes e).2)
  go (Err x) e = tt

some_hex : (word : List ℕ) → IfOk (hex_word word) (λ bytes. 0 < length bytes)
unfolding hex_word
some_hex word = go (length word == 0) refl where
  go : (b : Bool) → (length word == 0) ≡ b
      → IfOk (if b then Err BadHex else hex_digits (decode_of word)) (λ bytes. 0 < length bytes)
  go true e = tt
  go false e = some_bytes word (positive (length word) (eqb-false (length word) 0 e))

-- a command that asks nothing of its words
module _ {A : Type 0} (r : Result A ScriptKind) (f : A → Result Command ScriptKind) where
  free : ((x : A) → IfOk (f x) IsWellFormed) → IfOk (r >>= f) IsWellFormed
  free formed = bind (λ _. Unit {0}) IsWellFormed r f (any r) (λ x _. formed x)

-- a command on a path that has a name
on_new : (word : List ℕ) (f : Path → Result Command ScriptKind)
    → ((path : Path) → HasName path → IfOk (f path) IsWellFormed)
    → IfOk (new_path_word word >>= f) IsWellFormed
on_new word f formed = bind HasName IsWellFormed (new_path_word word) f (new_path word) formed

one : (v : Verb) (a : List ℕ) → IfOk (one_word v a) IsWellFormed
unfolding one_word
one verb.Make a = on_new a _ (λ path has. has)
one verb.MakeDirectory a = on_new a _ (λ path has. has)
one verb.Drop a = on_new a _ (λ path has. has)
one verb.Stat a = free (path_word a) _ (λ path. tt)
one verb.List a = free (path_word a) _ (λ path. tt)
one verb.Fsync a = free (path_word a) _ (λ path. tt)
one _ a = tt

two : (v : Verb) (a b : List ℕ) → IfOk (two_words v a b) IsWellFormed
unfolding two_words
two verb.Size a b = free (path_word a) _ (λ path. free (number_word b) _ (λ size. tt))
two verb.Link a b = free (path_word a) _ (λ path. on_new b _ (λ to has. has))
two verb.Rename a b = on_new a _ (λ path has. has)
two verb.Move a b = on_new a _ (λ from has. on_new b _ (λ to has_too. (has, has_too)))
two _ a b = tt

three : (v : Verb) (a b c : List ℕ) → IfOk (three_words v a b c) IsWellFormed
unfolding three_words
three verb.Put a b c = free (path_word a) _ (λ path. free (number_word b) _ (λ offset.
    bind (λ bytes. 0 < length bytes) IsWellFormed (hex_word c) _ (some_hex c) (λ bytes some. some)))
three verb.Get a b c =
    free (path_word a) _ (λ path. free (number_word b) _ (λ offset. free (number_word c) _ (λ len. tt)))
three _ a b c = tt

formed : (v : Verb) (args : List (List ℕ)) → IfOk (command_of v args) IsWellFormed
formed v [] = tt
formed v (a ∷ []) = one v a
formed v (a ∷ b ∷ []) = two v a b
formed v (a ∷ b ∷ c ∷ []) = three v a b c
formed v (a ∷ b ∷ c ∷ d ∷ rest) = tt

-- one more at the end
more : {A : Type 0} (P : A → Type 0) (xs : List A) (x : A) → AllByRecursion P xs → P x → AllByRecursion P (xs ++ x ∷ [])
more P [] x all p = (p, tt)
more P (y ∷ ys) x all p = (all.0, more P ys x all.1 p)

-- what was read so far is well formed, and a script may still end
record Reads (r : Reading) : Type 0 where
  done : AllByRecursion (AllByRecursion IsWellFormed) r.done
  current : AllByRecursion IsWellFormed r.current
  few : length r.done < MOST_USERS

with_one : (r : Reading) (c : Command) → Reads r → IsWellFormed c → IfOk (with_command r c) Reads
with_one r c reads well = go (nat_lt 67108864 (r.asked + asked_by c)) (nat_lt r.count 65536) where
  go : (a b : Bool) → IfOk {E = ScriptKind} (if a then Err TooMuchAsked else if b then Ok
      (record { done = r.done; current = r.current ++ c ∷ []; count = r.count + 1; asked = r.asked + asked_by c })
      else Err TooManyCommands) Reads
  go true b = tt
  go false true =
      record { done = reads.done; current = more IsWellFormed r.current c reads.current well; few = reads.few }
  go false false = tt

next_script : (r : Reading) (args : List (List ℕ)) → Reads r → IfOk (user_of r args) Reads
next_script r [] reads = go (nat_lt (length r.done + 1) MOST_USERS) refl where
  go : (b : Bool) → nat_lt (length r.done + 1) MOST_USERS ≡ b → IfOk {E = ScriptKind}
      (if b then Ok (record { done = r.done ++ r.current ∷ []; current = []; count = r.count; asked = r.asked })
      else Err TooManyUsers) Reads
  go true e = record {
    done = more (AllByRecursion IsWellFormed) r.done r.current reads.done reads.current;
    current = tt;
    few = omega (arith, length-append r.done (r.current ∷ []), ltb-true (length r.done + 1) MOST_USERS e);
  }
  go false e = tt
next_script r (a ∷ args) reads = tt

one_verb : (r : Reading) (v : Option Verb) (args : List (List ℕ)) → Reads r → IfOk (read_verb r v args) Reads
one_verb r None args reads = tt
one_verb r (Some v) args reads =
    bind IsWellFormed Reads (command_of v args) _ (formed v args) (λ c well. with_one r c reads well)

some_words : (r : Reading) (words : List (List ℕ)) → Reads r → IfOk (read_words r words) Reads
some_words r [] reads = reads
some_words r (word ∷ args) reads = go (bytes_eq word (codes "user")) where
  go : (b : Bool) → IfOk (if b then user_of r args else read_verb r (verb_in word) args) Reads
  go true = next_script r args reads
  go false = one_verb r (verb_in word) args reads

one_line : (r : Reading) (line : List ℕ) → Reads r → IfOk (read_line r line) Reads
unfolding read_line
one_line r line reads = go (is_skipped line) where
  go : (b : Bool) → IfOk (if b then Ok r else read_words r (words_of line)) Reads
  go true = reads
  go false = some_words r (words_of line) reads

placed : (n : ℕ) (r : Result Reading ScriptKind) → IfOk r Reads → IfOk (at_line n r) Reads
placed n (Ok r) reads = reads
placed n (Err kind) reads = tt

all_lines : (n : ℕ) (r : Reading) (lines : List (List ℕ)) → Reads r → IfOk (read_from n r lines) Reads
unfolding read_from
all_lines n r [] reads = reads
all_lines n r (line ∷ rest) reads =
    bind Reads Reads (at_line n (read_line r (line_to_break line rest))) (λ next. read_from (n + 1) next rest)
    (placed n (read_line r (line_to_break line rest)) (one_line r (line_to_break line rest) reads))
    (λ next reads_on. all_lines (n + 1) next rest reads_on)

pub is_session : (text : List ℕ) (r : Reading) → read_from 1 empty_reading (text_lines text) ≡ Ok r
    → IsSession (r.done ++ r.current ∷ [])
is_session text r read =
    let first : Reads empty_reading = record { done = tt; current = tt; few = omega arith } in
    let reads : Reads r = subst (λ x. IfOk x Reads) read (all_lines 1 empty_reading (text_lines text) first) in
    record {
      some = omega (arith, length-append r.done (r.current ∷ []));
      few = omega (arith, length-append r.done (r.current ∷ []), reads.few);
      formed = more (AllByRecursion IsWellFormed) r.done r.current reads.done reads.current;
    }
