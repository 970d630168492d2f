-- The index of a mount stays true over each step, and where no step was made.
use Rattle.std.proofs.Common.{◌≡◌, ℕ, ◌-◌, ◌⊎◌, inl, inr, Bool, true, false, ◌||◌, List, [], ◌∷◌, ◌++◌, length}
use Rattle.std.proofs.Common.{length-append, Some, refl, sym, ap, ◌∙◌, subst, arith}
use Rattle.std.specs.Prelude.{slice_get, slice_set}
use Rattle.nofs_disk.specs.Disk.{DiskState, IsDisk}
use Rattle.nofs_super.specs.Format.{super_cell}
use Rattle.nofs_super.specs.declared.superblock.SuperBlock.{SuperBlock}
use Rattle.nofs_model.specs.Geometry.{Image}
use Rattle.nofs_model.specs.Files.{Files}
use Rattle.nofs_history.specs.Machine.{is_write_fault}
use Rattle.nofs_history.specs.Next.{Next, Run}
use Rattle.nofs_history.specs.Since.{agreed_files, files_along}
use Rattle.nofs_history.specs.Steps.{is_out_of_memory}
use Rattle.nofs_history.specs.World.{World, world_of}
use Rattle.nofs_history.specs.HistoryState.{HistoryState}
use Rattle.nofs_history.specs.declared.machine.history.Entry1.{Entry1}
use Rattle.nofs_history.specs.declared.machine.replies.Reply.{Reply}
use Rattle.nofs_history.specs.declared.machine.steps.ElementKind.{ElementKind}
use Rattle.nofs_history.specs.declared.machine.steps.ElementKind.TheVariants as element
use Rattle.nofs_history.specs.declared.machine.steps.Step.{Step}
use Rattle.nofs_crashlaw.proofs.OnRuns.Acts.{files-next}
use Rattle.nofs_scan.specs.Steps.Elements.{see_step}
use Rattle.nofs_state.specs.Cores.Invariant.{IsOpen, IsStopped, Past}
use Rattle.nofs_state.specs.declared.books.maps.Books.{Books}
use Rattle.nofs_shared.specs.declared.index.Index.{Index}
use Rattle.nofs_shared.specs.Index.Lines.{AllTrue}
use Rattle.nofs_shared.specs.Index.Names.{NamesGoOn, moves_names}
use Rattle.nofs_shared.specs.Index.Truths.{IsTrueIndex, files_of}
use Rattle.nofs_shared.specs.Mount.Entries.{AddsStep}
use Rattle.nofs_shared.specs.Mount.Forms.{Forms}
use Rattle.nofs_shared.specs.Mount.Invariant.{IsMount, IsSoundDisk}
use Rattle.nofs_shared.proofs.OnIndex.Lines.{all-true-on}
use Rattle.nofs_shared.proofs.OnIndex.Bases.{world-sane}
use Rattle.nofs_shared.proofs.OnIndex.Steps.{answered-next, names-stay}
use Rattle.nofs_shared.proofs.OnMount.Histories.{mount-history}

-- The last entry of a run

at-end : (H : List Entry1) (e : Entry1) → slice_get (H ++ e ∷ []) (length H) ≡ Some e
at-end [] e = refl
at-end (x ∷ H) e = at-end H e

last-get : (H : List Entry1) (e : Entry1) → slice_get (H ++ e ∷ []) (length (H ++ e ∷ []) - 1) ≡ Some e
last-get H e =
    let n : length (H ++ e ∷ []) - 1 ≡ length H = omega (arith, length-append H (e ∷ [])) in
    subst (λ (k : ℕ). slice_get (H ++ e ∷ []) k ≡ Some e) (sym n) (at-end H e)

pub last-entry : (es H : List Entry1) (e : Entry1) (n : ℕ) → n ≡ length es → es ≡ H ++ e ∷ []
    → slice_get es (n - 1) ≡ Some e
last-entry es H e n len is = (λ j. slice_get (is j) ((len ∙ ap length is) j - 1)) ∙ last-get H e

run-last : (H : List Entry1) (start : ℕ) (W V : World) (e : Entry1) → Run start W (H ++ e ∷ []) V
    → (U : World) × Run start W H U × Next U e V
run-last [] start W V e r = (W, refl, subst (λ (X : World). Next W e X) (sym r.5) r.4)
run-last (x ∷ H) start W V e r =
    let more = run-last H x.to r.0 V e r.5 in
    (more.0, (r.0, r.1, r.2, r.3, r.4, more.1), more.2)

run-files : (H : List Entry1) (start : ℕ) (W V : World) → Run start W H V → V.files ≡ files_along W.files H
run-files [] start W V r = ap (λ (X : World). X.files) r
run-files (x ∷ H) start W V r = run-files H x.to r.0 V r.5
    ∙ ap (λ (F : Files). files_along F H) (files-next W r.0 x r.4)

world-files : (B : Image) (first : ℕ) → (world_of B first).files ≡ agreed_files B
unfolding world_of
world-files B first = refl

-- A mount stops where a write fails

forms-same : (H : List Entry1) (m n p q : ℕ) (b c d : Bool) → Forms m b H n c → Forms p b H q d → c ≡ d
forms-same [] m n p q b c d f g = f.1 ∙ sym g.1
forms-same (x ∷ H) m n p q b c d f g = forms-same H x.to n x.to q (b || is_write_fault x.reply) c d f.1 g.1

forms-before : (H : List Entry1) (x : Entry1) (m n p q : ℕ) (b c d : Bool) → Forms m b (H ++ x ∷ []) n c
    → Forms p b H q d → c ≡ false → d ≡ false
forms-before [] x m n p q b c d f g going = g.1 ∙ left b (is_write_fault x.reply) (sym f.1.1 ∙ going)
  where
    left : (a t : Bool) → (a || t) ≡ false → a ≡ false
    left true t e = cc e
    left false t e = refl
forms-before (y ∷ H) x m n p q b c d f g going =
    forms-before H x y.to n y.to q (b || is_write_fault y.reply) c d f.1 g.1 going

-- Two states of one mount

module _ (found d e : DiskState) (first : ℕ) (k l : Books) (m : IsMount found d first k) (n : IsMount found e first l)
  where
    was-same : IsSoundDisk found → e.was l.history.start ≡ d.was k.history.start
    was-same q = n.mounted.base
        ∙ ap (λ (at : SuperBlock). slice_set found.now 0 (super_cell at))
        ((n.stands q).raised ∙ sym (m.stands q).raised)
        ∙ sym m.mounted.base

    -- no step was made
    pub index-same : (index : Index) → l.history.entries ≡ k.history.entries → IsTrueIndex found d k index
        → IsTrueIndex found e l index
    index-same index same t q going = subst (λ (F : Files). AllTrue F index) files (t q before)
      where
        files : files_of d k ≡ files_of e l
        files = λ j. files_along (agreed_files (sym (was-same q) j)) (sym same j)

        before : k.stopped ≡ false
        before = forms-same k.history.entries k.history.start d.moment l.history.start e.moment false
            k.stopped l.stopped
            m.forms (subst (λ (H : List Entry1). Forms l.history.start false H e.moment l.stopped) same n.forms) ∙ going

    -- a step was made, and the index noted it
    pub index-noted : (index after : Index) (x : Entry1) → IsDisk found
        → l.history.entries ≡ k.history.entries ++ x ∷ []
        → ((F G : Files) → AllTrue F index → NamesGoOn F G x.step x.reply → AllTrue G after)
        → IsTrueIndex found d k index → IsTrueIndex found e l after
    index-noted index after x is all notes t q going = go (n.stands q).past (n.stands q).base (n.stands q).now
      where
        before : k.stopped ≡ false
        before = forms-before k.history.entries x l.history.start e.moment k.history.start d.moment false l.stopped
            k.stopped (subst (λ (H : List Entry1). Forms l.history.start false H e.moment l.stopped) all n.forms)
            m.forms going

        go : (p : Past) → p.base ≡ e.was l.history.start
            → IsOpen e l l.history.entries p ⊎ IsStopped e l l.history.entries p → AllTrue (files_of e l) after
        go p base (inr o) = absurd (let s = o.stopped in cc (s, going))
        go p base (inl o) =
            let r = run-last k.history.entries l.history.start (world_of p.base p.first) p.world x
            (subst (λ (H : List Entry1). Run l.history.start (world_of p.base p.first) H p.world) all o.run.run) in
            let old : r.0.files ≡ files_of d k =
            run-files k.history.entries l.history.start (world_of p.base p.first) r.0 r.1
            ∙ ap (λ (F : Files). files_along F k.history.entries) (world-files p.base p.first)
            ∙ ap (λ (B : Image). files_along (agreed_files B) k.history.entries) (base ∙ was-same q) in
            let new : p.world.files ≡ files_of e l =
            o.files ∙ ap (λ (B : Image). files_along (agreed_files B) l.history.entries) base in
            let sane = world-sane found e first l is n q p base o k.history.entries r.0 r.1 in
            subst (λ (F : Files). AllTrue F after) new
            (notes r.0.files p.world.files (subst (λ (F : Files). AllTrue F index) (sym old) (t q before)) (record {
              stays = names-stay r.0 p.world x sane r.2;
              answered = answered-next r.0 p.world x sane r.2;
            }))

    -- the step moves no names
    pub index-unmoved : (index : Index) (caller : ℕ) (s : Step) (r : Reply) → IsDisk found
        → AddsStep caller s r k.history.entries l.history.entries → moves_names s r ≡ false
        → IsTrueIndex found d k index → IsTrueIndex found e l index
    index-unmoved index caller s r is adds still t = go (is_out_of_memory r) refl
      where
        go : (b : Bool) → is_out_of_memory r ≡ b → IsTrueIndex found e l index
        go true mem = index-same index (adds.none mem) t
        go false mem =
            let a = adds.one mem in
            index-noted index index a.0 is a.1 (λ F G true_now on. all-true-on F G index
            (on.stays ((λ j. moves_names (a.3 j) (a.4 j)) ∙ still)) true_now) t

-- other room in the history
pub index-history : (found d : DiskState) (first : ℕ) (k : Books) (h : HistoryState) (index : Index)
    → h.start ≡ k.history.start → h.entries ≡ k.history.entries → IsMount found d first k
    → IsTrueIndex found d k index → IsTrueIndex found d (record k { history = h }) index
index-history found d first k h index start entries m t = index-same found d d first k (record k { history = h }) m
    (mount-history found d first k h start entries m) index entries t

-- a step that examines an element
pub see-unmoved : (kind : ElementKind) (item : ℕ) (r : Reply) → moves_names (see_step kind item) r ≡ false
see-unmoved element.Inode item r = refl
see-unmoved element.Block item r = refl
