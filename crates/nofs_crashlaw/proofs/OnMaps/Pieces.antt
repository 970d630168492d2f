-- Where the numbers in a written cell come from.
use Rattle.nofs_crashlaw.proofs.OnNames.EntryCells.{entry-here, others}
use Rattle.nofs_model.specs.Files.{entry_held}
use Rattle.nofs_disk.specs.Disk.{cell_at}
use Rattle.nofs_model.specs.declared.image.value.Value.{Value}
use Rattle.nofs_history.specs.Claims.{next_stamp}
use Rattle.std.proofs.Common.{◌≡◌, ◌≢◌, ℕ, ◌%◌, ◌<◌, Bool, true, false, eqb, Option, IfSome, refl, sym, ◌∙◌, subst}
use Rattle.std.proofs.Common.{arith, eqb-true, eq-eqb}
use Rattle.nofs_crashlaw.specs.Maps.Fresh.{Numbered, Old, Stamp}
use Rattle.nofs_crashlaw.specs.Maps.Pieces.{Before, Empty, Claimed, LawPick, LawPointers, LawEntries, LawEntryNumbers}
use Rattle.nofs_model.proofs.OnSlots.Find.{and-both}
use Rattle.nofs_crashlaw.proofs.OnMaps.Fresh.{law-old}
use Rattle.nofs_history.specs.Machine.{bytes_in}
use Rattle.nofs_dirent.specs.declared.entry.Entry.{Entry}
use Rattle.nofs_disk.specs.declared.tag.Pointer.{Pointer}
use Rattle.nofs_dirent.specs.Entries.{entry_of, entry_in}

pub law-pick : LawPick
law-pick W X may eb fresh pick b lt =
    let lt' : b < W.blocks = subst (λ (n : ℕ). b < n) (sym eb) lt in
    fresh b lt' (cell_at X b) (pick b lt')

pub law-pointers : LawPointers
law-pointers W c X i a x positive mountable below live slot (Before e) =
    Old (subst (λ (p : Pointer). p.stamp < next_stamp W) e
    (law-old (next_stamp W) X i positive mountable below live a slot))
law-pointers W c X i a x positive mountable below live slot (Empty z) =
    let e = eqb-true x.stamp 0 (and-both (eqb x.block 0) (eqb x.stamp 0) z).1 in
    Old (omega (arith, e, positive))
law-pointers W c X i a x positive mountable below live slot (Claimed h) = Stamp x h refl

-- Entries

pub law-entries : LawEntries
law-entries old e bytes content len size h = (
  subst (λ (v : Value). entry_held v e ≡ entry_of bytes) h (entry-here old e bytes len size),
  λ j lt ne.
      let small : j % 16 ≡ j = omega (arith, lt) in
      let apart : j % 16 ≢ e % 16 = λ q. ne (sym small ∙ q) in
      let r : entry_in content (j % 16) ≡ entry_in (bytes_in old) (j % 16) =
      subst (λ (v : Value). entry_held v j ≡ entry_in (bytes_in old) (j % 16)) h
      (others old e bytes len size j apart) in
      subst (λ (q : ℕ). entry_in content q ≡ entry_in (bytes_in old) q) small r,
)

pub law-entry-numbers : LawEntryNumbers
law-entry-numbers W cl old e bytes content len size h new before j lt = go (eqb j (e % 16)) refl
  where
    l : (entry_in content (e % 16) ≡ entry_of bytes)
        × ((k : ℕ) → k < 16 → k ≢ e % 16 → entry_in content k ≡ entry_in (bytes_in old) k)
    l = law-entries old e bytes content len size h

    go : (t : Bool) → eqb j (e % 16) ≡ t → IfSome (entry_in content j) (λ (n : Entry). Numbered W cl n.generation)
    go true t = subst (λ (k : ℕ). IfSome (entry_in content k) (λ (n : Entry). Numbered W cl n.generation))
        (sym (eqb-true j (e % 16) t))
        (subst (λ (o : Option Entry). IfSome o (λ (n : Entry). Numbered W cl n.generation)) (sym l.0) new)
    go false t =
        let ne : j ≢ e % 16 = λ q. let s = eq-eqb j (e % 16) q in cc (s, t) in
        subst (λ (o : Option Entry). IfSome o (λ (n : Entry). Numbered W cl n.generation))
        (sym (l.1 j lt ne)) (before j lt)
