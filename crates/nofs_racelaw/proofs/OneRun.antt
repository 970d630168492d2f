-- The history decides the files and the homes.
use Rattle.std.proofs.Common.{◌≡◌, ◌/◌, ◌⊎◌, inl, inr, true, false, leb, ◌||◌, [], ◌∷◌, is_some, refl, sym, ap, ◌∙◌}
use Rattle.nofs_model.specs.Files.{Files, is_special}
use Rattle.nofs_history.specs.Machine.{gives, files_after, is_refused}
use Rattle.nofs_history.specs.World.{World}
use Rattle.nofs_history.specs.Claims.{homes_after}
use Rattle.nofs_history.specs.Next.{Keeps, Next, AfterFault, ByRow, Done, ByRead, ByWrite}
use Rattle.nofs_history.specs.declared.machine.history.Entry1.{Entry1}
use Rattle.nofs_racelaw.specs.Laws.{LawLate, LawOneRun, SameState}
use Rattle.nofs_racelaw.proofs.Accepted.{done-accepts}
use Rattle.nofs_racelaw.proofs.Stale.{law-passes}
use Rattle.nofs_racelaw.proofs.Verdicts.{run-unchanged}

-- what a step that is done makes of files and homes
record IsDone (W : World) (e : Entry1) (V : World) : Type 0 where
  accepted : is_refused e.reply ≡ false
  files : V.files ≡ files_after W.files (gives W.files e.step e.claims)
  homes : V.homes ≡ homes_after W e.step e.claims V.files
  blocks : V.blocks ≡ W.blocks
  inodes : V.inodes ≡ W.inodes

kept : (W V : World) → Keeps W V → SameState W V
kept W V k = record { blocks = k.blocks; inodes = k.inodes; files = k.files; homes = k.homes }

-- a refused step keeps all, and an accepted one is done
cases-of : (W : World) (e : Entry1) (V : World) → Next W e V
    → ((is_refused e.reply ≡ true) × SameState W V) ⊎ IsDone W e V
cases-of W e V (AfterFault s r c same) = inl (
  ap is_refused r,
  record {
    blocks = ap (λ (q : World). q.blocks) same;
    inodes = ap (λ (q : World). q.inodes) same;
    files = ap (λ (q : World). q.files) same;
    homes =
        ap (λ (q : World). q.homes) same;
  },
)
cases-of W e V (ByRow why s f (inl r) c k st l) = inl (ap is_refused r, kept W V k)
cases-of W e V (ByRow why s f (inr r) c k st l) = inl (ap is_refused r.0, kept W V k)
cases-of W e V (Done s f r c fs hs se vs l) = inr (record {
  accepted = ap is_refused r ∙ done-accepts W V e.step e.claims f;
  files = fs;
  homes = hs;
  blocks =
      vs.1;
  inodes = vs.2;
})
cases-of W e V (ByRead s f r c k st l) = inl (ap is_refused r, kept W V k)
cases-of W e V (ByWrite s f m r c k st l) = inl (ap is_refused r, kept W V k)

same-next : (U W V X : World) (e : Entry1) → SameState U W → Next U e V → Next W e X → SameState V X
same-next U W V X e s n m = go (cases-of U e V n) (cases-of W e X m)
  where
    go : ((is_refused e.reply ≡ true) × SameState U V) ⊎ IsDone U e V
        → ((is_refused e.reply ≡ true) × SameState W X) ⊎ IsDone W e X → SameState V X
    go (inl a) (inl b) = record {
      blocks = b.1.blocks ∙ s.blocks ∙ sym a.1.blocks;
      inodes = b.1.inodes ∙ s.inodes ∙ sym a.1.inodes;
      files =
          b.1.files ∙ s.files ∙ sym a.1.files;
      homes = b.1.homes ∙ s.homes ∙ sym a.1.homes;
    }
    go (inl a) (inr b) = absurd (let x = a.0 in let y = b.accepted in cc (x, y))
    go (inr a) (inl b) = absurd (let x = b.0 in let y = a.accepted in cc (x, y))
    go (inr a) (inr b) =
        let files : X.files ≡ V.files = b.files ∙ ap (λ (F : Files). files_after F (gives F e.step e.claims)) s.files
        ∙ sym a.files in
        let homes : homes_after W e.step e.claims X.files ≡ homes_after U e.step e.claims V.files =
        λ j. homes_after (record W { files = s.files j; homes = s.homes j }) e.step e.claims (files j) in
        record {
          blocks = b.blocks ∙ s.blocks ∙ sym a.blocks;
          inodes = b.inodes ∙ s.inodes ∙ sym a.inodes;
          files = files;
          homes =
              b.homes ∙ homes ∙ sym a.homes;
        }

same-world : (W V : World) → V ≡ W → SameState W V
same-world W V e = record {
  blocks = ap (λ (q : World). q.blocks) e;
  inodes = ap (λ (q : World). q.inodes) e;
  files = ap (λ (q : World). q.files) e;
  homes =
      ap (λ (q : World). q.homes) e;
}

pub law-one-run : LawOneRun
law-one-run [] start moment U W V X s r q =
    let a = same-world U V r in
    let b = same-world W X q in
    record {
      blocks = b.blocks ∙ s.blocks ∙ sym a.blocks;
      inodes = b.inodes ∙ s.inodes ∙ sym a.inodes;
      files = b.files ∙ s.files ∙ sym a.files;
      homes =
          b.homes ∙ s.homes ∙ sym a.homes;
    }
law-one-run (e ∷ es) start moment U W V X s r q =
    law-one-run es e.to e.to r.0 q.0 V X (same-next U W r.0 q.0 e s r.4 q.4) r.5 q.5

pub law-late : LawLate
law-late before after start W U V part whole =
    let p = law-passes before after start W V whole in
    let s : SameState U p.world = law-one-run before start start W W U p.world (same-world W W refl) part p.run in
    let u = (run-unchanged after p.moment p.world V p.rest).0 in (
      λ i unknown. u.0 i unknown ∙ (λ j. is_special i || is_some (s.files j i)),
      λ b unknown. u.1 b unknown ∙ (λ j. leb b (s.inodes j / 4) || is_some (s.homes j b)),
    )
