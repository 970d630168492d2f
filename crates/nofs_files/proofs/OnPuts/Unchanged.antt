-- What stays over a Put.
use Rattle.std.proofs.Common.{◌≡◌, ℕ, ◌<◌, inl, inr, Bool, true, false, cond, eqb, leb, ltb, ◌&&◌, List, Option, Some}
use Rattle.std.proofs.Common.{None, unwrap_or, refl, sym, ap, ◌∙◌, subst, arith, zero, suc, ◌-◌, ◌++◌, ◌∷◌, take}
use Rattle.std.proofs.lemmas.Bool.{cases_eq}
use Rattle.std.proofs.lemmas.Bool.Decides.{nat_tests}
use Rattle.nofs_ptrs.specs.Paths.{slot_limit, path_of}
use Rattle.nofs_model.specs.Files.{FileState, Files, is_folder, NodeState, Present, Absent}
use Rattle.nofs_model.specs.Owners.{Home}
use Rattle.nofs_model.specs.declared.image.value.Value.{Value}
use Rattle.nofs_model.specs.declared.image.value.Value.TheVariants.{Hole, Bytes, Lost}
use Rattle.nofs_history.specs.Meta.{is_bytes}
use Rattle.nofs_history.specs.Machine.{Given, put_given, put_content, files_after, value_of, size_of, filled}
use Rattle.nofs_history.specs.Machine.{file_after, after_meta, born_file, is_at, lies_above, bytes_in, trimmed, cut_of}
use Rattle.nofs_history.specs.Claims.{has_block, is_present}
use Rattle.nofs_history.specs.Gives.{GivesNothing}
use Rattle.nofs_crashlaw.proofs.OnFiles.PutFile.{put-made, put-new, put-gives}
use Rattle.nofs_disk.specs.Number.{put_bytes}
use Rattle.nofs_history.proofs.EntryPut.{zeros-are}
use Rattle.nofs_disk.specs.Number as number

-- The machine's files, where something is given to one file

-- a file to which nothing is given stays
pub file-stays : (F : Files) (given : Given) (j : ℕ) → GivesNothing given j → files_after F given j ≡ F j
file-stays F given j n = ap (λ (b : Option ℕ). file_after given j (born_file b (F j))) n.born ∙ go (F j)
  where
    go : (o : Option FileState) → file_after given j o ≡ o
    go None = refl
    go (Some f) = ap (λ m. after_meta m (filled given j f)) (n.metas f.generation)
        ∙ (λ q. Some (record {
          generation = f.generation;
          kind = f.kind;
          size = f.size;
          links = f.links;
          values = λ k. unwrap_or (n.slots f.generation k q)
              (f.values k);
          nodes = λ path. unwrap_or (n.nodes f.generation path q) (f.nodes path);
        }))

kept-bytes : (b : Bool) (content : List ℕ) (v : Value)
    → is_bytes v ≡ true → is_bytes (unwrap_or (cond b (Some (Bytes content)) None) v) ≡ true
kept-bytes true content v e = refl
kept-bytes false content v e = e

kept-node : (b : Bool) (v : NodeState)
    → is_present v ≡ true → is_present (unwrap_or (cond b (Some Present) None) v) ≡ true
kept-node true v e = refl
kept-node false v e = e

-- whether a slot has its block, by the file
abbrev block_in : Option FileState → ℕ → Bool
block_in o k = cond (ltb k slot_limit) (is_bytes (elim o [ None ↦ Hole | Some f ↦ f.values k ]))
    (is_present (elim o [ None ↦ Absent | Some f ↦ f.nodes (path_of k) ]))

-- a slot that has its block keeps it over a Put
pub put-keeps-block : (F : Files) (i g k at : ℕ) (bytes : List ℕ) (f : FileState) (is : F i ≡ Some f)
    (gen : f.generation ≡ g)
    (file : is_folder f.kind ≡ false) (home : Home)
    → has_block F home ≡ true → has_block (files_after F (put_given F i g k at bytes)) home ≡ true
put-keeps-block F i g k at bytes f is gen file home h = elim (cases_eq home.inode i) [
  | inr other ↦ subst (λ (o : Option FileState). block_in o home.slot ≡ true)
      (sym (file-stays F (put_given F i g k at bytes) home.inode
      ((put-gives F i g k at bytes f is gen file).elsewhere home.inode other))) h
  | inl here ↦
      let made : files_after F (put_given F i g k at bytes) home.inode
      ≡ Some (put-made F i g k at bytes f is gen file) = ap
      (files_after F (put_given F i g k at bytes)) here ∙ put-new F i g k at bytes f is gen file in
      subst (λ (o : Option FileState). block_in o home.slot ≡ true) (sym made)
      (go (ltb home.slot slot_limit) (subst (λ (o : Option FileState). block_in o home.slot ≡ true) (ap F here ∙ is) h))
]
  where
    go : (b : Bool) → cond b (is_bytes (f.values home.slot)) (is_present (f.nodes (path_of home.slot))) ≡ true
        → cond b (is_bytes ((filled (put_given F i g k at bytes) i f).values home.slot))
        (is_present ((filled (put_given F i g k at bytes) i f).nodes (path_of home.slot))) ≡ true
    go true e = kept-bytes (is_at i g i f.generation && eqb k home.slot)
        (put_content (value_of F i k) (size_of F i) k at bytes) (f.values home.slot) e
    go false e = kept-node (is_at i g i f.generation && lies_above (path_of home.slot) (path_of k))
        (f.nodes (path_of home.slot)) e

pub not-leb : (a b : ℕ) → b < a → leb a b ≡ false
not-leb a b h = grind (arith, nat_tests)

-- Content and claims

bytes-none : (v : Value) → is_bytes v ≡ false → bytes_in v ≡ number.zeros 1024
bytes-none Hole e = zeros-are 1024
bytes-none Lost e = zeros-are 1024
bytes-none (Bytes content) e = cc

pub same-content : (v : Value) (size slot at : ℕ) (bytes : List ℕ) → is_bytes v ≡ false
    → put_content (Bytes (number.zeros 1024)) size slot at bytes ≡ put_content v size slot at bytes
unfolding put_content
same-content v size slot at bytes e =
    ap (λ (old : List ℕ). put_bytes at bytes (trimmed (cut_of size slot) old)) (sym (bytes-none v e))

-- zeros from a place on leave zeros as they are
pub trimmed-zeros : (cut n : ℕ) → take cut (number.zeros n) ++ number.zeros (n - cut) ≡ number.zeros n
unfolding number.zeros
trimmed-zeros zero n =
    let all : n - 0 ≡ n = omega arith in
    ap number.zeros all
trimmed-zeros (suc cut) zero =
    let none : zero - suc cut ≡ zero = omega arith in
    ap number.zeros none
trimmed-zeros (suc cut) (suc n) =
    let less : suc n - suc cut ≡ n - cut = omega arith in
    let first : ℕ = 0 in
    rw less (ap (λ (rest : List ℕ). first ∷ rest) (trimmed-zeros cut n))

-- the content of a slot that had no bytes: these, and zeros around them
pub fresh-content : (size slot at : ℕ) (bytes : List ℕ)
    → put_content (Bytes (number.zeros 1024)) size slot at bytes ≡ put_bytes at bytes (number.zeros 1024)
unfolding put_content trimmed number.zeros
fresh-content size slot at bytes = ap (put_bytes at bytes) (trimmed-zeros (cut_of size slot) 1024)
