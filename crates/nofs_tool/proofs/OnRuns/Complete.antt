-- A run on a ready device, in which no count of faults rose, ends with status 0 or for want of memory.
use Rattle.std.proofs.Common.{◌≡◌, ◌≢◌, ◌⊎◌, inl, inr, ℕ, ◌+◌, ◌-◌, ◌^◌, ◌<◌, ◌≤◌, Bool, true, false, not, ◌&&◌}
use Rattle.std.proofs.Common.{if◌then◌else◌, List, [], ◌++◌, length}
use Rattle.std.proofs.Common.{length-append, append-nil, take, Option, Some, None, Ok, Err, IsTrue, refl, sym, ap, ◌∙◌}
use Rattle.std.proofs.Common.{subst, arith}
use Rattle.std.specs.Prelude.{◌==◌, is_none, unwrap_or}
use Rattle.std.specs.Io.KnownBytes.{Consumes, IsAtEnd}
use Rattle.std.proofs.lemmas.Bool.{and_parts, le-ltb, lt-leb}
use Rattle.nofs_disk.specs.Disk.{DiskState, cell_at}
use Rattle.nofs_super.specs.Geometry.{IsGeometry, on_device, is_geometry, is_geometry-from, is_geometry-parts}
use Rattle.nofs_super.specs.Super.{check_rest, check_super, has_magic, is_super, is_version, rest_fault, super_in}
use Rattle.nofs_super.specs.declared.superblock.SuperBlock.{SuperBlock}
use Rattle.nofs_super.specs.declared.superblock.MountFault.{MountFault}
use Rattle.nofs_super.specs.declared.superblock.MountFault.TheVariants as fault
use Rattle.nofs_model.specs.Geometry.{super_at}
use Rattle.nofs_io.specs.Calls.{SourceState, SinkState}
use Rattle.nofs_io.specs.Texts.{TakesJust}
use Rattle.nofs_script.specs.Session.{session_of}
use Rattle.nofs_history.specs.HistoryState.{HistoryState}
use Rattle.nofs_tool.specs.declared.begin.mounts.Numbers.{Numbers}
use Rattle.nofs_tool.specs.declared.begin.words.Request.{Request}
use Rattle.nofs_tool.specs.declared.begin.words.Request.TheVariants.{Run}
use Rattle.nofs_upgrade.specs.Upgrades.{check_upgrade, check_version}
use Rattle.nofs_upgrade.specs.declared.fault.UpgradeFault.TheVariants.{Already}
use Rattle.nofs_tool.specs.Upgrade.{UpgradeEnds}
use Rattle.nofs_tool.specs.Runs.Complete.{CanBeFormatted, CanBeMounted, HoldsSession, IsReady, NoneRose}
use Rattle.nofs_tool.specs.Runs.Statuses.{IsExplained}
use Rattle.nofs_tool.specs.Runs.Tool.{IsNoSession, IsRefusedBy, IsStatus, SessionEnds, WithText}

-- all that was left was taken
pub consumed : (old new : Option (List ℕ)) (text bytes : List ℕ) → old ≡ Some text → Consumes old new bytes
    → IsAtEnd new → bytes ≡ text
consumed None new text bytes is c e = absurd (cc is)
consumed (Some xs) None text bytes is c e = absurd c
consumed (Some xs) (Some ys) text bytes is c e =
    sym (append-nil bytes) ∙ (ap (λ l. bytes ++ l) (sym e) ∙ (sym c ∙ ap (λ (o : Option (List ℕ)). unwrap_or o []) is))

pub consumed-most : (old new : Option (List ℕ)) (text bytes : List ℕ) → old ≡ Some text → Consumes old new bytes
    → length bytes ≤ length text
consumed-most None new text bytes is c = absurd (cc is)
consumed-most (Some xs) None text bytes is c = absurd c
consumed-most (Some xs) (Some ys) text bytes is c =
    let whole : bytes ++ ys ≡ text = sym c ∙ ap (λ (o : Option (List ℕ)). unwrap_or o []) is in
    let n = ap length whole in
    omega (arith, n, length-append bytes ys)

-- what was taken is a front of it
pub consumed-front : (old new : Option (List ℕ)) (text bytes : List ℕ) → old ≡ Some text → Consumes old new bytes
    → (back : List ℕ) × (text ≡ bytes ++ back)
consumed-front None new text bytes is c = absurd (cc is)
consumed-front (Some xs) None text bytes is c = absurd c
consumed-front (Some xs) (Some ys) text bytes is c = (ys, ap (λ (o : Option (List ℕ)). unwrap_or o []) (sym is) ∙ c)

-- a text that holds a session is none of the others
pub held-not-bad : (old new : SourceState) (limit : ℕ) → HoldsSession old limit → WithText old new limit IsNoSession → ⊥
held-not-bad old new limit h given =
    let (text, whole, spelled) = given in
    let (why, bad) = spelled in
    let same : text ≡ h.text = consumed old.left new.left h.text text h.told whole.taken whole.ended in
    let clash : Err why ≡ Ok h.session = sym bad ∙ (ap session_of same ∙ h.spelled) in
    cc clash

pub held-not-long : (old new : SourceState) (limit : ℕ) → HoldsSession old limit → TakesJust old new (limit + 1) → ⊥
held-not-long old new limit h given =
    let (bytes, taken, len) = given in
    let most = consumed-most old.left new.left h.text bytes h.told taken in
    let short = h.short in
    omega (arith, most, short, len)

check-fine : (device : ℕ) (payload : List ℕ)
    → is_super payload ≡ true → IsGeometry device (super_in payload).blocks (super_in payload).inodes
    → (super_in payload).mount < 2 ^ 24 - 1 → check_super device payload ≡ Ok (super_in payload)
unfolding check_super is_super
check-fine device payload spelled g low =
    go (has_magic payload) refl (is_version it.version) refl (rest_fault payload) refl spelled
  where
    it : SuperBlock
    it = super_in payload

    wide : is_geometry (2 ^ 64 - 1) it.blocks it.inodes ≡ true
    wide = let m = g.most_blocks in
        is_geometry-from (2 ^ 64 - 1) it.blocks it.inodes (on_device device (2 ^ 64 - 1) g (omega arith))

    numbers : check_rest device it None ≡ Ok it
    numbers = rw (wide, le-ltb device it.blocks g.fits, lt-leb (2 ^ 24 - 1) it.mount low)

    go : (a : Bool) → has_magic payload ≡ a → (b : Bool) → is_version it.version ≡ b → (r : Option ℕ)
        → rest_fault payload ≡ r → (a && (b && is_none r)) ≡ true
        → (if not a then Err (fault.BadMagic (take 8 payload)) else if not b then Err (fault.BadVersion it.version)
        else check_rest device it r) ≡ Ok it
    go true ea true eb None er h = numbers
    go true ea true eb (Some x) er h = absurd (cc h)
    go true ea false eb r er h = absurd (cc h)
    go false ea b eb r er h = absurd (cc h)

-- a disk that can be mounted has no fault of the table
pub can-check : (d : DiskState) → CanBeMounted d
    → (0 < d.blocks) × (check_super d.blocks (cell_at d.now 0).payload ≡ Ok (super_at d.now))
unfolding super_at
can-check d c =
    let parts = and_parts (is_super (cell_at d.now 0).payload)
    (is_geometry (length d.now) (super_at d.now).blocks (super_at d.now).inodes) c.mountable in
    let g : IsGeometry (length d.now) (super_at d.now).blocks (super_at d.now).inodes =
    is_geometry-parts (length d.now) (super_at d.now).blocks (super_at d.now).inodes parts.1 in
    let size = c.size in
    let some = g.some_blocks in
    let fits = g.fits in (
      omega (arith, size, some, fits),
      check-fine d.blocks (cell_at d.now 0).payload parts.0
          (subst (λ (n : ℕ). IsGeometry n (super_at d.now).blocks (super_at d.now).inodes) size g) c.mount,
    )

pub can-not-refuse : (d : DiskState) (why : MountFault) → CanBeMounted d
    → (0 < d.blocks → IsTrue d.tells → check_super d.blocks (cell_at d.now 0).payload ≡ Err why) → ⊥
can-not-refuse d why c table =
    let fine = can-check d c in
    let clash : Ok (super_at d.now) ≡ Err why = sym fine.1 ∙ table fine.0 c.tells in
    cc clash

-- a status that none of these causes explains
pub completes : (s : ℕ) → IsStatus s → s ≢ 1 → s ≢ 2 → s ≢ 3 → s ≢ 4 → s ≢ 5 → s ≢ 6 → s ≢ 8 → (s ≡ 0) ⊎ (s ≡ 7)
completes s (inl e) a b c d f g h = inl e
completes s (inr (inl e)) a b c d f g h = absurd (a e)
completes s (inr (inr (inl e))) a b c d f g h = absurd (b e)
completes s (inr (inr (inr (inl e)))) a b c d f g h = absurd (c e)
completes s (inr (inr (inr (inr (inl e))))) a b c d f g h = absurd (d e)
completes s (inr (inr (inr (inr (inr (inl e)))))) a b c d f g h = absurd (f e)
completes s (inr (inr (inr (inr (inr (inr (inl e))))))) a b c d f g h = absurd (g e)
completes s (inr (inr (inr (inr (inr (inr (inr (inl e)))))))) a b c d f g h = inr e
completes s (inr (inr (inr (inr (inr (inr (inr (inr e)))))))) a b c d f g h = absurd (h e)

-- what the words ask for is this task, which is ready then
pub ready-as : (asked found task : Option Request) (source : SourceState) (limit : ℕ) (d : DiskState)
    → found ≡ asked → found ≡ task → IsReady asked source limit d → IsReady task source limit d
ready-as asked found task source limit d is named ready =
    subst (λ (t : Option Request). IsReady t source limit d) (sym is ∙ named) ready

-- the device is ready for a session
abbrev pub IsReadyFor : Option Numbers → DiskState → Type 0
IsReadyFor None d = CanBeMounted d
IsReadyFor (Some numbers) d = CanBeFormatted d numbers.blocks numbers.inodes

pub ready-not-refused : (numbers : Option Numbers) (old new : DiskState) → IsReadyFor numbers old
    → IsRefusedBy numbers old new → ⊥
ready-not-refused None old new ready given =
    let (kept, found) = given in
    let (why, table) = found in
    can-not-refuse old why ready table
ready-not-refused (Some numbers) old new ready given =
    let (kept, table) = given in
    let (why, bad) = table ready.tells in
    let clash : None ≡ Some why = sym ready.accepted ∙ bad in
    cc clash

module _ (numbers : Option Numbers) (source_old source_new : SourceState) (limit : ℕ) (old new : DiskState)
    (sink_old sink_new : SinkState) (s : ℕ)
    (h : Option HistoryState) (none : NoneRose source_old source_new old new sink_old sink_new)
    (ready : IsReadyFor numbers old) where
  -- where the source holds a session
  pub session-completes : HoldsSession source_old limit
      → s ≢ 1 → IsExplained (Some Run) source_old source_new limit sink_old sink_new old new s h
      → (s ≡ 4 → (h ≡ None) × IsRefusedBy numbers old new) → (s ≡ 0) ⊎ (s ≡ 7)
  session-completes held command x refused =
      completes s x.named command (λ e. held-not-bad source_old source_new limit held (x.script e))
      (λ e. none.disk (x.device e).1) (λ e. ready-not-refused numbers old new ready (refused e).1)
      (λ e. none.sink (x.sink e).0)
      (λ e. none.source (x.source e)) (λ e. held-not-long source_old source_new limit held (x.too_long e))

  -- where nothing is read of it
  pub scan-completes : SessionEnds (IsRefusedBy numbers old new) old new sink_old sink_new s h → (s ≡ 0) ⊎ (s ≡ 7)
  scan-completes ends = go ends.named
    where
      go : (s ≡ 0) ⊎ (s ≡ 3) ⊎ (s ≡ 4) ⊎ (s ≡ 5) ⊎ (s ≡ 7) → (s ≡ 0) ⊎ (s ≡ 7)
      go (inl e) = inl e
      go (inr (inl e)) = absurd (none.disk (ends.device e).1)
      go (inr (inr (inl e))) = absurd (ready-not-refused numbers old new ready (ends.refused e).1)
      go (inr (inr (inr (inl e)))) = absurd (none.sink (ends.sink e).0)
      go (inr (inr (inr (inr e)))) = inr e

-- an image of version 1 is upgraded
pub upgrade-completes : (old new : DiskState) (sink_old sink_new : SinkState) (s : ℕ)
    (source_old source_new : SourceState)
    → NoneRose source_old source_new old new sink_old sink_new → CanBeMounted old × ((super_at old.now).version ≡ 1)
    → UpgradeEnds old new sink_old sink_new s → (s ≡ 0) ⊎ (s ≡ 7)
upgrade-completes old new sink_old sink_new s source_old source_new none ready ends = go ends.named
  where
    possible : s ≡ 4 → ⊥
    possible e =
        let fine = can-check old ready.0 in
        let (why, bad) = (ends.refused e).1 fine.0 ready.0.tells in
        let first : check_upgrade old.blocks (cell_at old.now 0).payload ≡ Ok (super_at old.now) =
        ap check_version fine.1
        ∙ (λ j. if (ready.1 j) == 2 then Err Already else Ok (super_at old.now)) in
        let clash : Ok (super_at old.now) ≡ Err why = sym first ∙ bad in
        cc clash

    go : (s ≡ 0) ⊎ (s ≡ 3) ⊎ (s ≡ 4) ⊎ (s ≡ 5) ⊎ (s ≡ 7) → (s ≡ 0) ⊎ (s ≡ 7)
    go (inl e) = inl e
    go (inr (inl e)) = absurd (none.disk (ends.device e))
    go (inr (inr (inl e))) = absurd (possible e)
    go (inr (inr (inr (inl e)))) = absurd (none.sink (ends.sink e).1)
    go (inr (inr (inr (inr e)))) = inr e
