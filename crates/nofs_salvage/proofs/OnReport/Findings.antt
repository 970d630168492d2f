-- What is found adds up, line by line.
use Rattle.std.proofs.Common.{◌≡◌, ℕ, ◌+◌, ◌<◌, Bool, true, false, ◌&&◌, ◌||◌, not, ◌++◌, List, [], ◌∷◌, length, take}
use Rattle.std.proofs.Common.{get_or, refl, sym, ap, ◌∙◌, subst, append_assoc, bytes_eq}
use Rattle.std.proofs.lemmas.List.{append-nil, take_more}
use Rattle.std.proofs.lemmas.List.Folds.{list_any-append}
use Rattle.nofs_inode.specs.declared.inode.FileKind.TheVariants as kind
use Rattle.nofs_model.specs.Files.{Files}
use Rattle.nofs_history.specs.World.{World}
use Rattle.nofs_history.specs.declared.machine.replies.NameLine.{NameLine}
use Rattle.nofs_salvage.specs.declared.report.report.Loss.{Loss}
use Rattle.nofs_salvage.specs.declared.report.report.Loss.TheVariants as loss
use Rattle.nofs_salvage.specs.declared.report.findings.Findings.{Findings}
use Rattle.nofs_salvage.specs.declared.report.seen.SeenNames.{SeenNames}
use Rattle.nofs_salvage.specs.Report.Losses.{if_so, inode_found, file_losses, is_doubled, pair_losses, pair_folders}
use Rattle.nofs_salvage.specs.Report.Losses.{line_losses, line_folders, lines_losses}
use Rattle.nofs_salvage.specs.Report.Losses.{lines_folders, with_one, with_directories}
use Rattle.nofs_salvage.specs.Report.Trees.{inodes_in, is_seen, AreSeen, AddsFindings}

with-append : (ds f h : List ℕ) → with_directories ds (f ++ h) ≡ with_directories (with_directories ds f) h
with-append ds [] h = refl
with-append ds (d ∷ f) h = with-append (with_one ds d) f h

-- nothing is added
pub adds-none : (now : Findings) → AddsFindings [] [] now now
adds-none now = record { report = sym (append-nil now.report); tree = refl }

-- more is added
pub adds-on : (l m : List Loss) (f h : List ℕ) (old mid new : Findings) → AddsFindings l f old mid
    → AddsFindings m h mid new → AddsFindings (l ++ m) (f ++ h) old new
adds-on l m f h old mid new a b = record {
  report = b.report ∙ ap (λ x. x ++ m) a.report ∙ append_assoc old.report l m;
  tree = b.tree ∙ ap (λ t. with_directories t h) a.tree ∙ sym (with-append (inodes_in old.tree) f h);
}

-- What a pair leads to

pub found-losses : (W : World) (d i : ℕ) (name : List ℕ) (old new : List Loss)
    → inode_found W.files d name ≡ i → new ≡ old ++ file_losses W i
    → new ≡ old ++ file_losses W (inode_found W.files d name)
found-losses W d i name old new e h = h ∙ ap (λ j. old ++ file_losses W j) (sym e)

pub pair-directory : (W : World) (wanted : Bool) (d : ℕ) (line : NameLine) (old new : Findings)
    → line.kind ≡ kind.Directory
    → AddsFindings [] (inode_found W.files d line.name ∷ []) old new
    → AddsFindings (pair_losses W wanted d line) (pair_folders W.files d line) old new
pair-directory W wanted d line old new is h = rw is h

pub pair-file : (W : World) (wanted : Bool) (d : ℕ) (line : NameLine) (old new : Findings)
    → line.kind ≡ kind.File → wanted ≡ true
    → AddsFindings (file_losses W (inode_found W.files d line.name)) [] old new
    → AddsFindings (pair_losses W wanted d line) (pair_folders W.files d line) old new
pair-file W wanted d line old new is want h = rw (is, want) h

pub pair-unwanted : (W : World) (wanted : Bool) (d : ℕ) (line : NameLine) (now : Findings)
    → line.kind ≡ kind.File → wanted ≡ false
    → AddsFindings (pair_losses W wanted d line) (pair_folders W.files d line) now now
pair-unwanted W wanted d line now is want = rw (is, want) (adds-none now)

-- Names

or-false : (b : Bool) → (b || false) ≡ b
or-false true = refl
or-false false = refl

or-swap : (a b : Bool) → (a || b) ≡ (b || (a || false))
or-swap true true = refl
or-swap true false = refl
or-swap false true = refl
or-swap false false = refl

doubled-more : (earlier : List NameLine) (line : NameLine) (name : List ℕ)
    → is_doubled (earlier ++ line ∷ []) name
    ≡ (is_doubled earlier name || ((not line.dead && bytes_eq name line.name) || false))
doubled-more earlier line name =
    list_any-append (λ (l : NameLine). not l.dead && bytes_eq name l.name) earlier (line ∷ [])

dead-or : (b c x : Bool) → b ≡ true → (x || ((not b && c) || false)) ≡ x
dead-or b c x e = rw e (or-false x)

-- a dead line isn't met
pub seen-dead : (seen : SeenNames) (earlier : List NameLine) (line : NameLine) → line.dead ≡ true → AreSeen seen earlier
    → AreSeen seen (earlier ++ line ∷ [])
seen-dead seen earlier line dead h = λ name.
    h name
    ∙ sym (doubled-more earlier line name ∙ dead-or line.dead (bytes_eq name line.name) (is_doubled earlier name) dead)

live-or : (b c x y : Bool) → b ≡ false → x ≡ y → (c || x) ≡ (y || ((not b && c) || false))
live-or b c x y e same = rw (e, same) (or-swap c y)

-- any other line is
pub seen-live : (old new : SeenNames) (earlier : List NameLine) (line : NameLine) → line.dead ≡ false
    → ((other : List ℕ) → is_seen new other ≡ (bytes_eq other line.name || is_seen old other))
    → AreSeen old earlier → AreSeen new (earlier ++ line ∷ [])
seen-live old new earlier line live more h = λ name.
    more name ∙ live-or line.dead (bytes_eq name line.name) (is_seen old name) (is_doubled earlier name) live (h name)
    ∙ sym (doubled-more earlier line name)

-- One line

pub line-dead : (W : World) (picks : List ℕ → Bool) (d : ℕ) (earlier : List NameLine) (line : NameLine)
    (old new : Findings) → line.dead ≡ true
    → new.report ≡ old.report ++ if_so (picks line.name) (loss.Dead d line.name)
    → inodes_in new.tree ≡ inodes_in old.tree
    → AddsFindings (line_losses W picks d earlier line) (line_folders W.files d earlier line) old new
line-dead W picks d earlier line old new dead report tree = record { report = rw dead report; tree = rw dead tree }

pub line-twice : (W : World) (picks : List ℕ → Bool) (d : ℕ) (earlier : List NameLine) (line : NameLine)
    (old new : Findings) → line.dead ≡ false
    → is_doubled earlier line.name ≡ true
    → new.report ≡ old.report ++ if_so (picks line.name) (loss.Twice d line.name)
    → inodes_in new.tree ≡ inodes_in old.tree
    → AddsFindings (line_losses W picks d earlier line) (line_folders W.files d earlier line) old new
line-twice W picks d earlier line old new live twice report tree =
    record { report = rw (live, twice) report; tree = rw (live, twice) tree }

pub line-pair : (W : World) (picks : List ℕ → Bool) (d : ℕ) (earlier : List NameLine) (line : NameLine)
    (old new : Findings) → line.dead ≡ false
    → is_doubled earlier line.name ≡ false
    → AddsFindings (pair_losses W (picks line.name) d line) (pair_folders W.files d line) old new
    → AddsFindings (line_losses W picks d earlier line) (line_folders W.files d earlier line) old new
line-pair W picks d earlier line old new live fresh h = rw (live, fresh) h

-- Several lines

-- the line at place i
pub record IsAt (lines : List NameLine) (i : ℕ) (line : NameLine) : Type 0 where
  pub below : i < length lines
  pub is : line ≡ get_or lines i line
  pub front : take (i + 1) lines ≡ take i lines ++ line ∷ []

pub is-at : (lines : List NameLine) (i : ℕ) (line : NameLine) → i < length lines → line ≡ get_or lines i line
    → IsAt lines i line
is-at lines i line below is =
    record { below = below; is = is; front = take_more lines i line below ∙ ap (λ l. take i lines ++ l ∷ []) (sym is) }

losses-more : (W : World) (picks : List ℕ → Bool) (d : ℕ) (earlier lines : List NameLine) (line : NameLine)
    → lines_losses W picks d earlier (lines ++ line ∷ []) ≡ lines_losses W picks d earlier lines
    ++ line_losses W picks d (earlier ++ lines) line
unfolding lines_losses
losses-more W picks d earlier [] line = append-nil (line_losses W picks d earlier line)
    ∙ ap (λ e. line_losses W picks d e line) (sym (append-nil earlier))
losses-more W picks d earlier (l ∷ lines) line =
    let first = line_losses W picks d earlier l in
    let rest = lines_losses W picks d (earlier ++ l ∷ []) lines in
    ap (λ x. first ++ x) (losses-more W picks d (earlier ++ l ∷ []) lines line)
    ∙ sym (append_assoc first rest (line_losses W picks d ((earlier ++ l ∷ []) ++ lines) line))
    ∙ ap (λ e. (first ++ rest) ++ line_losses W picks d e line) (append_assoc earlier (l ∷ []) lines)

folders-more : (F : Files) (d : ℕ) (earlier lines : List NameLine) (line : NameLine)
    → lines_folders F d earlier (lines ++ line ∷ []) ≡ lines_folders F d earlier lines
    ++ line_folders F d (earlier ++ lines) line
unfolding lines_folders
folders-more F d earlier [] line = append-nil (line_folders F d earlier line)
    ∙ ap (λ e. line_folders F d e line) (sym (append-nil earlier))
folders-more F d earlier (l ∷ lines) line =
    let first = line_folders F d earlier l in
    let rest = lines_folders F d (earlier ++ l ∷ []) lines in
    ap (λ x. first ++ x) (folders-more F d (earlier ++ l ∷ []) lines line)
    ∙ sym (append_assoc first rest (line_folders F d ((earlier ++ l ∷ []) ++ lines) line))
    ∙ ap (λ e. (first ++ rest) ++ line_folders F d e line) (append_assoc earlier (l ∷ []) lines)

-- no line
pub lines-none : (W : World) (picks : List ℕ → Bool) (d : ℕ) (earlier : List NameLine) (now : Findings)
    → AddsFindings (lines_losses W picks d earlier []) (lines_folders W.files d earlier []) now now
unfolding lines_losses lines_folders
lines-none W picks d earlier now = adds-none now

-- one line more
pub lines-on : (W : World) (picks : List ℕ → Bool) (d : ℕ) (earlier lines all : List NameLine) (line : NameLine)
    (old mid new : Findings)
    → all ≡ lines ++ line ∷ []
    → AddsFindings (lines_losses W picks d earlier lines) (lines_folders W.files d earlier lines) old mid
    → AddsFindings (line_losses W picks d (earlier ++ lines) line)
    (line_folders W.files d (earlier ++ lines) line) mid new
    → AddsFindings (lines_losses W picks d earlier all) (lines_folders W.files d earlier all) old new
lines-on W picks d earlier lines all line old mid new is a b =
    let both = adds-on _ _ _ _ old mid new a b in
    let losses = ap (lines_losses W picks d earlier) is ∙ losses-more W picks d earlier lines line in
    let folders = ap (lines_folders W.files d earlier) is ∙ folders-more W.files d earlier lines line in record {
      report = both.report ∙ ap (λ x. old.report ++ x) (sym losses);
      tree = both.tree ∙ ap (λ x. with_directories (inodes_in old.tree) x) (sym folders);
    }

-- the names of one line more
pub seen-on : (seen : SeenNames) (earlier lines all : List NameLine) (line : NameLine) → all ≡ lines ++ line ∷ []
    → AreSeen seen ((earlier ++ lines) ++ line ∷ []) → AreSeen seen (earlier ++ all)
seen-on seen earlier lines all line is h =
    subst (AreSeen seen) (append_assoc earlier lines (line ∷ []) ∙ ap (λ x. earlier ++ x) (sym is)) h

-- no line
pub seen-none : (seen : SeenNames) (earlier : List NameLine) → AreSeen seen earlier → AreSeen seen (earlier ++ [])
seen-none seen earlier h = subst (AreSeen seen) (sym (append-nil earlier)) h
