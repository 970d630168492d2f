-- The machine's worlds are sane along a run over a base that a mount leaves.
use Rattle.std.proofs.Common.{◌≡◌, ℕ, ◌+◌, ◌*◌, ◌^◌, ◌<◌, ◌≤◌, true, length, Option, Some, None, unwrap_or, refl, sym}
use Rattle.std.proofs.Common.{ap, ◌∙◌, subst, subst₂, arith}
use Rattle.std.proofs.lemmas.List.{length-replicate}
use Rattle.nofs_model.specs.Geometry.{Image}
use Rattle.nofs_model.specs.Files.{Files, FileState, is_folder}
use Rattle.nofs_model.specs.declared.image.value.Value.{Value}
use Rattle.nofs_history.specs.Machine.{gives, bytes_in, files_after}
use Rattle.nofs_history.specs.HistoryState.{HistoryState}
use Rattle.nofs_history.specs.World.{World, world_of, inodes_needed, blocks_needed}
use Rattle.nofs_history.specs.Claims.{IsClaim, next_stamp}
use Rattle.nofs_history.specs.Search.{first_of}
use Rattle.nofs_history.specs.Refusals.{rows}
use Rattle.nofs_history.specs.Next.{Keeps, Next, AfterFault, ByRow, Done, ByRead, ByWrite}
use Rattle.nofs_history.specs.declared.machine.history.Entry1.{Entry1}
use Rattle.nofs_history.specs.declared.machine.steps.Step.{Step}
use Rattle.nofs_history.specs.declared.machine.steps.Step.TheVariants as step
use Rattle.nofs_crashlaw.proofs.OnLives.Era.{gives-birth}
use Rattle.nofs_crashlaw.specs.Runs.Bases.{IsHistory}
use Rattle.nofs_crashlaw.proofs.OnRuns.Gives.{given-kind}
use Rattle.nofs_crashlaw.proofs.OnRuns.PairEntries.{Spelled}
use Rattle.nofs_crashlaw.proofs.OnRuns.Links.{IsSane}
use Rattle.nofs_crashlaw.proofs.OnRuns.Chains.{SaneRun}
use Rattle.nofs_crashlaw.proofs.OnRuns.Start.{sane-start, files-start}
use Rattle.nofs_crashlaw.proofs.OnRuns.Sane.{After, Old, New, after, slot-whole, Made, made, make-new, new-spelled}
use Rattle.nofs_crashlaw.proofs.OnRuns.Rooted.{rooted-next}

-- a world with the same files and numbers
keeps-sane : (W V : World) → Keeps W V → IsSane W → IsSane V
keeps-sane W V k s = record {
  inodes = subst (λ (n : ℕ). n < 2 ^ 32) (sym k.inodes) s.inodes;
  mount = subst (λ (n : ℕ). n < 2 ^ 24) (sym k.mount) s.mount;
  positive = subst (λ (n : ℕ). 0 < n) (sym stamp) s.positive;
  bottom = ap (λ (F : Files). F 0) k.files ∙ s.bottom;
  numbers = λ i f is. s.numbers i f (sym (ap (λ (F : Files). F i) k.files) ∙ is);
  young = λ i f is. subst (λ (n : ℕ). f.generation < n) (sym stamp)
      (s.young i f (sym (ap (λ (F : Files). F i) k.files) ∙ is));
  whole = λ i f is. s.whole i f (sym (ap (λ (F : Files). F i) k.files) ∙ is);
  rooted = λ i f is dir. subst (λ (F : Files). Rattle.nofs_model.specs.Files.Agreed F i) (sym k.files)
      (s.rooted i f (sym (ap (λ (F : Files). F i) k.files) ∙ is) dir);
}
  where
    stamp : next_stamp V ≡ next_stamp W
    stamp = λ j. k.mount j * 2 ^ 40 + k.serial j

module _ (W V : World) (e : Entry1) (sane : IsSane W) (next : Next W e V) (row : first_of (rows W V e.step) ≡ None)
    (claim : IsClaim W e.step e.claims)
    (files : V.files ≡ files_after W.files (gives W.files e.step e.claims))
    (serial : V.serial ≡ W.serial + inodes_needed e.step + blocks_needed W.files e.step) (inodes : V.inodes ≡ W.inodes)
    (mount : V.mount ≡ W.mount) where
  now : (i : ℕ) (h : FileState) → V.files i ≡ Some h → After W.files (gives W.files e.step e.claims) i h
  now i h is = after W.files (gives W.files e.step e.claims) i h (gives-birth W.files e.step e.claims)
      (λ f at. given-kind W e.claims e.step claim i f at)
      (sym (ap (λ (F : Files). F i) files) ∙ is)

  later : next_stamp W ≤ next_stamp V
  later = let m : W.mount * 2 ^ 40 ≡ V.mount * 2 ^ 40 = ap (λ (n : ℕ). n * 2 ^ 40) (sym mount) in
      omega (arith, serial, m)

  -- the numbers of what is made
  new : (i g : ℕ) → Made W e.step e.claims i g → Spelled i g × (g < next_stamp V)
  new i g m =
      let row' : first_of (rows W V (step.Make m.directory m.generation m.name m.kind)) ≡ None =
      subst (λ (s : Step). first_of (rows W V s) ≡ None) m.is row in
      let claim' : IsClaim W (step.Make m.directory m.generation m.name m.kind) e.claims =
      subst (λ (s : Step). IsClaim W s e.claims) m.is claim in
      let n = make-new W V e.claims m.directory m.generation m.name m.kind row' claim' in
      let one : inodes_needed e.step ≡ 1 = ap inodes_needed m.is in
      let same : W.mount * 2 ^ 40 ≡ V.mount * 2 ^ 40 = ap (λ (k : ℕ). k * 2 ^ 40) (sym mount) in
      let ei = m.inode in
      let eg = m.own in
      let gen = n.generation in
      (subst₂ Spelled (sym ei) (sym eg) (new-spelled W e.claims sane n), omega (arith, serial, one, same, gen, eg))

  done-sane : IsSane V
  done-sane = record {
    inodes = subst (λ (n : ℕ). n < 2 ^ 32) (sym inodes) sane.inodes;
    mount = subst (λ (n : ℕ). n < 2 ^ 24) (sym mount) sane.mount;
    positive = let p = sane.positive in let l = later in omega (arith, p, l);
    bottom = none (V.files 0) refl;
    numbers = λ i h is. (numbers i h is (now i h is)).0;
    young = λ i h is. (numbers i h is (now i h is)).1;
    whole = λ i h is dir k. whole i h dir k (now i h is);
    rooted = λ i h is dir. rooted-next W V e sane next i h is dir;
  }
    where
      numbers : (i : ℕ) (h : FileState) → V.files i ≡ Some h → After W.files (gives W.files e.step e.claims) i h
          → Spelled i h.generation × (h.generation < next_stamp V)
      numbers i h is (Old f at gen kind values alive) =
          let y = sane.young i f at in
          let l = later in
          (subst (λ (q : ℕ). Spelled i q) (sym gen) (sane.numbers i f at), omega (arith, y, l, gen))
      numbers i h is (New g born gen values metas) =
          let n = new i g (made W e.step e.claims i g born) in
          let y = n.1 in
          (subst (λ (q : ℕ). Spelled i q) (sym gen) n.0, omega (arith, y, gen))

      none : (o : Option FileState) → V.files 0 ≡ o → V.files 0 ≡ None
      none None eo = eo
      none (Some h) eo = absurd (by (now 0 h eo))
        where
          by : After W.files (gives W.files e.step e.claims) 0 h → ⊥
          by (Old f at gen kind values alive) = let b = sane.bottom in cc (at, b)
          by (New g born gen values metas) = let n = (new 0 g (made W e.step e.claims 0 g born)).0 in let z = n.some in
              omega (arith, z)

      whole : (i : ℕ) (h : FileState) → is_folder h.kind ≡ true → (k : ℕ)
          → After W.files (gives W.files e.step e.claims) i h
          → length (bytes_in (h.values k)) ≡ 1024
      whole i h dir k (New g born gen values metas) = ap (λ (v : Value). length (bytes_in v)) (values k)
          ∙ length-replicate {A = ℕ} 1024 0
      whole i h dir k (Old f at gen kind values alive) = ap (λ (v : Value). length (bytes_in v)) (values k)
          ∙ by ((gives W.files e.step e.claims).slots i f.generation k) refl
        where
          folder : is_folder f.kind ≡ true
          folder = sym (ap is_folder kind) ∙ dir

          by : (o : Option Value) → (gives W.files e.step e.claims).slots i f.generation k ≡ o
              → length (bytes_in (unwrap_or o (f.values k))) ≡ 1024
          by None eo = sane.whole i f at folder k
          by (Some v) eo = slot-whole W V e.claims sane i f at folder k e.step row claim v eo

next-sane : (W V : World) (e : Entry1) → Next W e V → IsSane W → IsSane V
next-sane W V e next s = by next
  where
    by : Next W e V → IsSane V
    by (AfterFault t r c same) = subst IsSane (sym same) s
    by (ByRow why t row r c k st l) = keeps-sane W V k s
    by (ByRead t row r c k st l) = keeps-sane W V k s
    by (ByWrite t row m r claim k st l) = keeps-sane W V k s
    by (Done t row r claim fs hs se vs l) = done-sane W V e s next row claim fs se vs.2 vs.3

pub sane-run : (B : Image) (H : HistoryState) → IsHistory B H → SaneRun B H.entries
sane-run B H h = record {
  start = H.start;
  first = world_of B h.first;
  last = h.world;
  run = h.run;
  files = files-start B h.first h.base;
  sane =
      sane-start B h.first h.base;
  keeps = λ W V e next s. next-sane W V e next s;
}
