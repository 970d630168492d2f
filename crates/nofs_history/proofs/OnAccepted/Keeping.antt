-- Words on names and places say the same of files and of what is kept of them.
use Rattle.std.proofs.Common.{◌≡◌, ℕ, zero, suc, ◌+◌, ◌*◌, ◌/◌, ◌<◌, Bool, true, false, ◌&&◌, ◌||◌, not, cond, eqb, ltb}
use Rattle.std.proofs.Common.{List, [], ◌∷◌, Option, Some, None, is_some, option_map, refl, ap, ◌∙◌, arith, bytes_eq}
use Rattle.std.specs.List.{list_any}
use Rattle.nofs_dirent.specs.Entries.{entry_limit}
use Rattle.nofs_ptrs.specs.Paths.{slot_limit}
use Rattle.nofs_inode.specs.declared.inode.BackLink.{BackLink}
use Rattle.nofs_dirent.specs.declared.entry.Entry.{Entry}
use Rattle.nofs_inode.specs.InodeRecords.{is_empty_link}
use Rattle.nofs_model.specs.Files.{FileState, Files, is_folder, entry_held, entry_in_file, entry_at, names, is_a, pairs}
use Rattle.nofs_model.specs.Files.{is_pair, links_in_file, links_of}
use Rattle.nofs_inode.specs.declared.inode.FileKind.TheVariants.{Directory as Folder}
use Rattle.nofs_model.specs.declared.image.value.Value.{Value}
use Rattle.nofs_model.specs.declared.image.value.Value.TheVariants.{Hole}
use Rattle.nofs_history.specs.Meta.{is_bytes}
use Rattle.nofs_history.specs.Search.{least_from, first_of}
use Rattle.nofs_history.specs.Machine.{generation_of, value_of, size_of, same_link, link_to, is_paired, entry_has_name}
use Rattle.nofs_history.specs.Machine.{found, first_dead, place_for, link_place, place_for_link, is_hole}
use Rattle.nofs_history.specs.Accepted.Files.{kept_file, kept_files}

-- Searches

least-same : (p q : ℕ → Bool) (at n : ℕ) → ((e : ℕ) → e < at + n → p e ≡ q e) → least_from p at n ≡ least_from q at n
unfolding least_from
least-same p q at zero same = refl
least-same p q at (suc n) same =
    λ j. cond (same at (omega arith) j) (Some at) (least-same p q (suc at) n (λ e lt. same e (omega (arith, lt))) j)

first-same : {A : Type 0} → (a b c x y z : Option A)
    → a ≡ x → b ≡ y → c ≡ z → first_of (a ∷ b ∷ c ∷ []) ≡ first_of (x ∷ y ∷ z ∷ [])
first-same a b c x y z p q r = λ j. first_of (p j ∷ q j ∷ r j ∷ [])

-- One file

below : (k : ℕ) → k < slot_limit → ltb k slot_limit ≡ true
below k lt = grind (arith, lt)

entry-kept : (o : Option FileState) (e : ℕ) → entry_in_file (kept_file o) e ≡ entry_in_file o e
entry-kept None e = refl
entry-kept (Some f) e = go (is_folder f.kind) (ltb e entry_limit) refl
  where
    go : (folder b : Bool) → ltb e entry_limit ≡ b
        → cond (folder && b) (entry_held (cond (ltb (e / 16) slot_limit) (f.values (e / 16)) Hole) e) None
        ≡ cond (folder && b) (entry_held (f.values (e / 16)) e) None
    go false b eb = refl
    go true false eb = refl
    go true true eb = let lt : e < entry_limit = grind (arith, eb) in
        let s = below (e / 16) (omega (arith, lt)) in rw s refl

is_a-kept : (o : Option FileState) (g : ℕ) → is_a Folder g (kept_file o) ≡ is_a Folder g o
is_a-kept None g = refl
is_a-kept (Some f) g = refl

links-kept : (o : Option FileState) → links_in_file (kept_file o) ≡ links_in_file o
links-kept None = refl
links-kept (Some f) = refl

pairs-kept : (o d : Option FileState) (i : ℕ) (link : BackLink)
    → pairs (kept_file o) (kept_file d) i link ≡ pairs o d i link
pairs-kept None d i link = refl
pairs-kept (Some f) d i link = λ j. is_a-kept d link.generation j && (names (entry-kept d link.entry j) i f.generation
    && (not (is_folder f.kind) || ltb link.generation f.generation))

-- Files

pub entry_at-kept : (F : Files) (d e : ℕ) → entry_at (kept_files F) d e ≡ entry_at F d e
entry_at-kept F d e = entry-kept (F d) e

pub links_of-kept : (F : Files) (i : ℕ) → links_of (kept_files F) i ≡ links_of F i
links_of-kept F i = links-kept (F i)

pub is_pair-kept : (F : Files) (i : ℕ) (link : BackLink) → is_pair (kept_files F) i link ≡ is_pair F i link
is_pair-kept F i link = pairs-kept (F i) (F link.directory) i link

-- a number of a file, 0 where there is none
abbrev number_of : (FileState → ℕ) → Option FileState → ℕ
number_of part o = elim o [ None ↦ 0 | Some f ↦ part f ]

number-kept : (part : FileState → ℕ) → ((f : FileState) → number_of part (kept_file (Some f)) ≡ part f)
    → (o : Option FileState) → number_of part (kept_file o) ≡ number_of part o
number-kept part same None = refl
number-kept part same (Some f) = same f

pub generation-kept : (F : Files) (i : ℕ) → generation_of (kept_files F) i ≡ generation_of F i
generation-kept F i = number-kept (λ f. f.generation) (λ f. refl) (F i)

pub size-kept : (F : Files) (i : ℕ) → size_of (kept_files F) i ≡ size_of F i
size-kept F i = number-kept (λ f. f.size) (λ f. refl) (F i)

pub value-kept : (F : Files) (i k : ℕ) → k < slot_limit → value_of (kept_files F) i k ≡ value_of F i k
value-kept F i k lt = go (F i)
  where
    word : Option FileState → Value
    word o = elim o [ None ↦ Hole | Some f ↦ f.values k ]

    go : (o : Option FileState) → word (kept_file o) ≡ word o
    go None = refl
    go (Some f) = let s = below k lt in rw s refl

-- Names

-- a pair, by what its words say
pairs_by : (BackLink → Bool) → List BackLink → ℕ → ℕ → ℕ → Bool
pairs_by pair links d e g = list_any (λ link. same_link link (link_to d e g) && pair link) links

pub is_paired-kept : (F : Files) (d e : ℕ) → is_paired (kept_files F) d e ≡ is_paired F d e
is_paired-kept F d e = ap (paired (kept_files F)) (entry_at-kept F d e) ∙ go (entry_at F d e)
  where
    paired : Files → Option Entry → Bool
    paired G o = elim o [
      | None ↦ false
      | Some entry ↦ list_any (λ link. same_link link (link_to d e (generation_of G d)) && is_pair G entry.inode link)
          (links_of G entry.inode)
    ]

    go : (o : Option Entry) → paired (kept_files F) o ≡ paired F o
    go None = refl
    go (Some entry) = λ j.
        list_any (λ link. same_link link (link_to d e (generation-kept F d j)) && is_pair-kept F entry.inode link j)
        (links_of-kept F entry.inode j)

pub has_name-kept : (F : Files) (d : ℕ) (name : List ℕ) (e : ℕ)
    → entry_has_name (kept_files F) d name e ≡ entry_has_name F d name e
has_name-kept F d name e =
    ap (λ (o : Option Entry). elim o [ None ↦ false | Some entry ↦ bytes_eq entry.name name ]) (entry_at-kept F d e)

pub found-kept : (F : Files) (d : ℕ) (name : List ℕ) → found (kept_files F) d name ≡ found F d name
unfolding found
found-kept F d name = λ j. least_from (λ e. has_name-kept F d name e j && is_paired-kept F d e j) 0 entry_limit

pub dead-kept : (F : Files) (d : ℕ) (name : List ℕ) → first_dead (kept_files F) d name ≡ first_dead F d name
unfolding first_dead
dead-kept F d name = λ j. least_from (λ e. has_name-kept F d name e j && not (is_paired-kept F d e j)) 0 entry_limit

empty-kept : (F : Files) (d e : ℕ)
    → e < entry_limit → (is_bytes (value_of (kept_files F) d (e / 16)) && not (is_some (entry_at (kept_files F) d e)))
    ≡ (is_bytes (value_of F d (e / 16)) && not (is_some (entry_at F d e)))
empty-kept F d e lt =
    λ j. is_bytes (value-kept F d (e / 16) (omega (arith, lt)) j) && not (is_some (entry_at-kept F d e j))

hole-kept : (F : Files) (d k : ℕ) → k < 72 → is_hole (value_of (kept_files F) d k) ≡ is_hole (value_of F d k)
hole-kept F d k lt = ap is_hole (value-kept F d k (omega (arith, lt)))

pub place-kept : (F : Files) (d : ℕ) (name : List ℕ) → place_for (kept_files F) d name ≡ place_for F d name
unfolding place_for
place-kept F d name = first-same
    (first_dead (kept_files F) d name)
    (least_from (λ e. is_bytes (value_of (kept_files F) d (e / 16))
    && not (is_some (entry_at (kept_files F) d e))) 0 entry_limit)
    (option_map (λ k. 16 * k) (least_from (λ k. is_hole (value_of (kept_files F) d k)) 0 72))
    (first_dead F d name)
    (least_from (λ e. is_bytes (value_of F d (e / 16)) && not (is_some (entry_at F d e))) 0 entry_limit)
    (option_map (λ k. 16 * k) (least_from (λ k. is_hole (value_of F d k)) 0 72))
    (dead-kept F d name)
    (least-same (λ e. is_bytes (value_of (kept_files F) d (e / 16)) && not (is_some (entry_at (kept_files F) d e)))
    (λ e. is_bytes (value_of F d (e / 16)) && not (is_some (entry_at F d e))) 0 entry_limit
    (λ e lt. empty-kept F d e (omega (arith, lt))))
    (ap (option_map (λ k. 16 * k))
    (least-same (λ k. is_hole (value_of (kept_files F) d k)) (λ k. is_hole (value_of F d k)) 0 72
    (λ k lt. hole-kept F d k (omega (arith, lt)))))

pub link_place-kept : (F : Files) (i : ℕ) → link_place (kept_files F) i ≡ link_place F i
unfolding link_place
link_place-kept F i = λ j. cond (eqb i 2) None (first_of (place_for_link is_empty_link (links_of-kept F i j) 0
    ∷ place_for_link (λ link. not (is_pair-kept F i link j)) (links_of-kept F i j) 0 ∷ []))
