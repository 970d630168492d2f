-- Entries that come later change nothing of what is allowed at a moment.
use Rattle.nofs_history.specs.Allowed.{HasVersions}
use Rattle.nofs_history.proofs.Names.{names-stay}
use Rattle.std.proofs.Common.{if◌then◌else◌, ◌≡◌, ℕ, suc, ◌+◌, ◌<◌, ◌≤◌, Bool, true, false, cond, ltb, leb, ◌&&◌, List}
use Rattle.std.proofs.Common.{[], ◌∷◌, ◌++◌, length, take, drop}
use Rattle.std.proofs.Common.{refl, sym, ap, ◌∙◌, subst, arith, Contains, le-ltb, is_some, eqb, not}
use Rattle.std.specs.List.{list_any}
use Rattle.std.proofs.lemmas.List.{take-append-le}
use Rattle.std.proofs.lemmas.Bool.Decides.{nat_tests}
use Rattle.nofs_crashlaw.specs.Histories.Laws.{AllLater, LawLater}
use Rattle.nofs_history.specs.Meta.{Meta, meta_of, MayRead, is_gone}
use Rattle.nofs_history.specs.declared.machine.history.Entry1.{Entry1}
use Rattle.nofs_history.specs.Machine.{generation_of}
use Rattle.nofs_history.specs.Since.{agreed_files, files_along, values_given, metas_given, accepted_of}
use Rattle.nofs_history.specs.Since.{accepted_meta_of, last_in, begun, mark_from}
use Rattle.nofs_history.specs.Since.{mark, before_mark, since_mark, since, since_meta, stands, is_flushed}
use Rattle.nofs_model.specs.Geometry.{Image, inode}
use Rattle.nofs_model.specs.Slots.{value}
use Rattle.nofs_model.specs.declared.image.value.Value.{Value}

later-leb : (a m : ℕ) → m < a → leb a m ≡ false
later-leb a m h = grind (arith, nat_tests)

begun-later : (H es : List Entry1) (m : ℕ) → AllLater es m → begun (H ++ es) m ≡ begun H m
begun-later [] [] m l = refl
begun-later [] (e ∷ es) m l = rw (le-ltb e.from m l.0) refl
begun-later (h ∷ H) es m l =
    ap (λ (rest : List Entry1). if (ltb h.from m) then (h ∷ rest) else []) (begun-later H es m l)

mark-past : (es : List Entry1) (m at best : ℕ) → AllLater es m → mark_from es m at best ≡ best
mark-past [] m at best l = refl
mark-past (e ∷ es) m at best l = go (is_flushed e.reply) refl (mark-past es m (suc at) best l.2)
  where
    late : is_flushed e.reply ≡ true → leb e.to m ≡ false
    late f = let h = l.1 f in later-leb e.to m h

    go : (b : Bool) → is_flushed e.reply ≡ b → mark_from es m (suc at) best ≡ best
        → mark_from es m (suc at) (cond (is_flushed e.reply && leb e.to m) (suc at) best) ≡ best
    go true f ih = rw (late f, f) ih
    go false f ih = rw f ih

mark-append : (H es : List Entry1) (m at best : ℕ) → AllLater es m
    → mark_from (H ++ es) m at best ≡ mark_from H m at best
mark-append [] es m at best l = mark-past es m at best l
mark-append (h ∷ H) es m at best l =
    mark-append H es m (suc at) (if is_flushed h.reply && leb h.to m then suc at else best) l

pub mark-within : (H : List Entry1) (m at best : ℕ) → best ≤ at → mark_from H m at best ≤ at + length H
mark-within [] m at best h = omega arith
mark-within (e ∷ H) m at best h =
    let r = mark-within H m (suc at) (if is_flushed e.reply && leb e.to m then suc at else best)
    (both (is_flushed e.reply && leb e.to m)) in
    omega (arith, r)
  where
    both : (b : Bool) → cond b (suc at) best ≤ suc at
    both true = omega arith
    both false = omega arith

versions-later : (B : Image) (H es : List Entry1) (m : ℕ) (X : Image) → AllLater es m → HasVersions B H m X
    → HasVersions B (H ++ es) m X
versions-later B H es m X l a = record {
  super = a.super;
  metas = λ i live. subst (λ (vs : List Meta). Contains vs (meta_of (inode X i)))
      (sym (metas-same i (inode X i).generation)) (a.metas i live);
  values = λ i k live lt. subst (λ (vs : List Value). MayRead vs (value X i k))
      (sym (since-same i (inode X i).generation k)) (a.values i k live lt);
  records = λ i g s. a.records i g (sym (stands-same i g) ∙ s);
  sure = λ i g k s lt sure. a.sure i g k (sym (stands-same i g) ∙ s) lt
      (λ v c. sure v (subst (λ (vs : List Value). Contains vs v) (sym (since-same i g k)) c));
}
  where
    same_mark : mark (H ++ es) m ≡ mark H m
    same_mark = mark-append H es m 0 0 l

    within : mark H m ≤ length H
    within = let w = mark-within H m 0 0 (omega arith) in omega (arith, w)

    before-same : before_mark (H ++ es) m ≡ before_mark H m
    before-same = ap (λ (n : ℕ). take n (H ++ es)) same_mark ∙ take-append-le (mark H m) H es within

    after-same : since_mark (H ++ es) m ≡ since_mark H m
    after-same = ap (λ (n : ℕ). drop n (begun (H ++ es) m)) same_mark
        ∙ ap (λ (bs : List Entry1). drop (mark H m) bs) (begun-later H es m l)

    since-same : (i g k : ℕ) → since B (H ++ es) m i g k ≡ since B H m i g k
    since-same i g k = λ j. last_in (accepted_of B (before-same j) i g k)
        ++ values_given (files_along (agreed_files B) (before-same j)) (after-same j) i g k

    metas-same : (i g : ℕ) → since_meta B (H ++ es) m i g ≡ since_meta B H m i g
    metas-same i g = λ j. last_in (accepted_meta_of B (before-same j) i g)
        ++ metas_given (files_along (agreed_files B) (before-same j)) (after-same j) i g

    stands-same : (i g : ℕ) → stands B (H ++ es) m i g ≡ stands B H m i g
    stands-same i g = λ j. is_some (files_along (agreed_files B) (before-same j) i)
        && (eqb (generation_of (files_along (agreed_files B) (before-same j)) i) g
        && not (list_any is_gone (metas_given (files_along (agreed_files B) (before-same j)) (after-same j) i g)))

pub law-later : LawLater
law-later B H es m X l a =
    let v = versions-later B H es m X l a.versions in
    record { len = a.len; versions = v; names = names-stay B (H ++ es) m X v }
