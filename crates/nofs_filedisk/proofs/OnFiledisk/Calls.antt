-- What a disk in a file knows after each of its calls, and what the call did.
use Rattle.std.proofs.Common.{◌≡◌, ℕ, ◌+◌, ◌-◌, ◌*◌, ◌^◌, ◌<◌, ◌≤◌, Bool, true, false, List, [], ◌∷◌, ◌++◌, length}
use Rattle.std.proofs.Common.{arith, refl, sym, ap, subst, ◌∙◌, Result, Ok, Err}
use Rattle.std.specs.Prelude.{Contains, IsTrue, OnErr, OnOk, is_ok}
use Rattle.std.proofs.lemmas.List.{get_or_append_left, length_push}
use Rattle.std.proofs.Math.Logic.{∥∥₁_elim, ∥∥₁_prop}
use Rattle.nofs_disk.specs.declared.Failed.{Failed}
use Rattle.nofs_disk.specs.declared.tag.Cell.{Cell}
use Rattle.nofs_disk.specs.Disk.{DiskState, Flushes, IsSameDisk, IsSettled, IsSizedCell, KeepsPast, Picks, Rose, Writes}
use Rattle.nofs_disk.specs.Disk.{cell_at}
use Rattle.nofs_versions.specs.declared.call.Call.{Call}
use Rattle.nofs_versions.specs.declared.call.Call.TheVariants.{Write, Flush}
use Rattle.nofs_versions.specs.Memory.{after_write, state_of}
use Rattle.nofs_versions.specs.Laws.{held_after-held}
use Rattle.nofs_versions.proofs.OnMemory.Calls.{flushes, writes}
use Rattle.nofs_versions.proofs.OnMemory.Cells.{flush_of, flush_present, may_of, now_of}
use Rattle.nofs_versions.proofs.OnMemory.Images.{leaves_flush, leaves_rest, leaves_write}
use Rattle.nofs_versions.proofs.OnMemory.Sizes.{sized_flush, sized_write}
use Rattle.nofs_filedisk.specs.Bytes.{HostFileState}
use Rattle.nofs_filedisk.specs.Files.{FileSized, LastsWithin, file_held, file_state}
use Rattle.nofs_filedisk.specs.Present.{IsPresent, LastsOrPresent, StaysPresent, TakesCell}
use Rattle.nofs_filedisk.specs.Told.{telling_disk}
use Rattle.nofs_filedisk.specs.declared.run.Run.{Run}
use Rattle.std.proofs.lemmas.Bool.{cases_eq}
use Rattle.std.proofs.Common.{inl, inr}
use Rattle.nofs_disk.specs.Held.{Held, written_here, written_other}
use Rattle.nofs_disk.specs.CellsOfBytes.{cell_in, cells_in, length-cells_in}
use Rattle.nofs_filedisk.proofs.OnFiledisk.Present.{present-all}

-- A disk that tells or not

picks_as : (m n : ℕ) (may : ℕ → List Cell) (image : List Cell) → n ≡ m → Picks may m image → Picks may n image
picks_as m n may image same picks =
    let F : ℕ → Type 0 = λ k. Picks may k image in
    subst F (sym same) picks

told_same : (t u : Bool) (n : ℕ) (d e : DiskState) → u ≡ t → IsSameDisk d e
    → IsSameDisk (telling_disk t n d) (telling_disk u n e)
told_same t u n d e same s = record { blocks = refl; tells = same; holds_back = s.holds_back; faults = s.faults }

told_past : (t u : Bool) (n : ℕ) (d e : DiskState) → KeepsPast d e → KeepsPast (telling_disk t n d) (telling_disk u n e)
told_past t u n d e p = record { was = p.was; no_more = p.no_more; no_less = p.no_less }

told_writes : (t u : Bool) (n : ℕ) (d e : DiskState) (block : ℕ) (cell : Cell) (result : Result (Unit {0}) Failed)
    → u ≡ t → e.blocks ≡ n
    → Writes d e block cell result → Writes (telling_disk t n d) (telling_disk u n e) block cell result
told_writes t u n d e block cell result same blocks w = record {
  moment = w.moment;
  disk = told_same t u n d e same w.disk;
  past = told_past t u n d e w.past;
  spare = w.spare;
  ok = w.ok;
  no_fault = w.no_fault;
  err = w.err;
  cause = w.cause;
  during = λ image left. picks_as e.blocks n e.may image (sym blocks) (w.during image left);
  may = w.may;
  stays = w.stays;
  others = w.others;
  dirty = w.dirty;
  held = w.held;
}

-- what follows where a call succeeded, and where it failed
on_ok : (result : Result (Unit {0}) Failed) {P Q : Type 0} → (P → Q) → OnOk result P → OnOk result Q
on_ok (Ok u) goes p = goes p
on_ok (Err failed) goes p = tt

told_flushes : (t u : Bool) (n : ℕ) (d e : DiskState) (result : Result (Unit {0}) Failed)
    → u ≡ t → d.blocks ≡ n → e.blocks ≡ n
    → Flushes d e result → Flushes (telling_disk t n d) (telling_disk u n e) result
told_flushes t u n d e result same blocks blocks_now f = record {
  disk = told_same t u n d e same f.disk;
  past = told_past t u n d e f.past;
  moment = f.moment;
  spare = f.spare;
  now = f.now;
  may = λ b c low has. f.may b c (omega arith) has;
  dirty = f.dirty;
  during = λ image left. picks_as d.blocks n d.may image (sym blocks) (f.during image left);
  settled = on_ok result (λ (s : IsSettled e) b c low has. s b c (omega arith) has) f.settled;
  was = f.was;
  clean = f.clean;
  no_fault = f.no_fault;
  err = f.err;
  cause = f.cause;
}

-- What the calls do

went : (taken : Bool) (result : Result (Unit {0}) Failed) → taken ≡ is_ok result → OnOk result (taken ≡ true)
went taken (Ok u) is = is
went taken (Err failed) is = tt

went_not : (taken : Bool) (result : Result (Unit {0}) Failed) (f g : ℕ) → taken ≡ is_ok result → OnErr result (Rose f g)
    → OnErr result ((taken ≡ false) × Rose f g)
went_not taken (Ok u) f g is rose = tt
went_not taken (Err failed) f g is rose = (is, rose)

module _ (file new first : HostFileState) (calls : List Call) (s t : ℕ) (room : t + 1 ≡ s)
    (tells : new.tells ≡ file.tells)
    (later : file.faults ≤ new.faults) (result : Result (Unit {0}) Failed) (taken : Bool) (is : taken ≡ is_ok result)
    (cause : OnErr result (Rose file.faults new.faults)) (no_fault : OnOk result (new.faults ≡ file.faults))
  where
    pub write_does : (block : ℕ) (cell : Cell) → block < 1048576
        → Writes (file_state file first calls s)
        (file_state new first (calls ++ Write block cell taken ∷ []) t) block cell result
    write_does block cell there =
        let base = cells_in first.bytes in
        let len = length-cells_in first.bytes in
        told_writes file.tells new.tells 1048576 (state_of 0 (cells_in first.bytes) calls s file.faults)
        (state_of 0 (cells_in first.bytes) (calls ++ Write block cell taken ∷ []) t new.faults) block cell
        result tells len
        (writes 0 (cells_in first.bytes) calls s t file.faults new.faults block cell taken result
        (omega arith) room later (went taken result is) cause
        no_fault)

    pub flush_does : Flushes (file_state file first calls s) (file_state new first (calls ++ Flush taken ∷ []) t) result
    flush_does =
        let len = length-cells_in first.bytes in
        told_flushes file.tells new.tells 1048576 (state_of 0 (cells_in first.bytes) calls s file.faults)
        (state_of 0 (cells_in first.bytes) (calls ++ Flush taken ∷ []) t new.faults) result tells len len
        (flushes 0 (cells_in first.bytes) calls s t file.faults new.faults taken result room later
        (went taken result is)
        (went_not taken result file.faults new.faults is cause) no_fault)

-- What a crash may leave: each image that picks

module _ (file first : HostFileState) (calls : List Call) (spare : ℕ) (image : List Cell) where
  pub rest_leaves : Picks (file_state file first calls spare).may 1048576 image
      → (file_state file first calls spare).left (file_state file first calls spare).moment image
  rest_leaves picks =
      leaves_rest 0 (cells_in first.bytes) calls image
      (picks_as 1048576 (length (cells_in first.bytes)) (file_state file first calls spare).may image
      (length-cells_in first.bytes) picks)

  pub write_leaves : (block : ℕ) (cell : Cell) (taken : Bool)
      → Picks (file_state file first (calls ++ Write block cell taken ∷ []) spare).may 1048576 image
      → (file_state file first (calls ++ Write block cell taken ∷ []) spare).left
      ((file_state file first calls spare).moment + 1) image
  write_leaves block cell taken picks =
      leaves_write 0 (cells_in first.bytes) calls block cell taken image
      (picks_as 1048576 (length (cells_in first.bytes))
      (file_state file first (calls ++ Write block cell taken ∷ []) spare).may image
      (length-cells_in first.bytes) picks)

  pub flush_leaves : (settles : Bool) → Picks (file_state file first calls spare).may 1048576 image
      → (file_state file first (calls ++ Flush settles ∷ []) spare).left
      ((file_state file first calls spare).moment + 1) image
  flush_leaves settles picks =
      leaves_flush 0 (cells_in first.bytes) calls settles image
      (picks_as 1048576 (length (cells_in first.bytes)) (file_state file first calls spare).may image
      (length-cells_in first.bytes) picks)

-- What it knows

-- what the ghost fields of a disk in a file say
abbrev pub Holds : HostFileState → Run → HostFileState → List Call → ℕ → ℕ → Type 0
Holds file run first calls moment spare = record {
  made : moment ≡ 2 * length calls;
  room : 2 * spare + moment < 2 ^ 64;
  sized : FileSized first calls;
  present : IsTrue file.tells → IsPresent file.bytes run (file_held first calls).now;
  lasting : LastsWithin file first calls;
}

length-now : (first : HostFileState) (calls : List Call) → length (file_held first calls).now ≡ 1048576
length-now first calls = (held_after-held (cells_in first.bytes) calls).len ∙ length-cells_in first.bytes

-- what reads give after a write
write_present : (file new first : HostFileState) (run next : Run) (calls : List Call) (block : ℕ)
    (cell : Cell) (taken : Bool)
    (result : Result (Unit {0}) Failed) → taken ≡ is_ok result
    → OnOk result (TakesCell file run new next block cell) → OnErr result (StaysPresent file run new next)
    → IsTrue file.tells
    → IsPresent file.bytes run (file_held first calls).now
    → IsPresent new.bytes next (file_held first (calls ++ Write block cell taken ∷ [])).now
write_present file new first run next calls block cell taken (Ok u) is takes stays tells p =
    let base = cells_in first.bytes in
    let F : List Cell → Type 0 = λ l. IsPresent new.bytes next l in
    let G : Bool → Type 0 = λ t. IsPresent new.bytes next (file_held first (calls ++ Write block cell t ∷ [])).now in
    subst G (sym is) (subst F (sym (now_of base calls block cell true))
    (takes tells (file_held first calls).now (length-now first calls) p))
write_present file new first run next calls block cell taken (Err failed) is takes stays tells p =
    let base = cells_in first.bytes in
    let F : List Cell → Type 0 = λ l. IsPresent new.bytes next l in
    let G : Bool → Type 0 = λ t. IsPresent new.bytes next (file_held first (calls ++ Write block cell t ∷ [])).now in
    subst G (sym is) (subst F (sym (now_of base calls block cell false)) (stays tells (file_held first calls).now p))

pub flush_now_is : (first : HostFileState) (calls : List Call) (settles : Bool)
    → (file_held first calls).now ≡ (file_held first (calls ++ Flush settles ∷ [])).now
flush_now_is first calls settles = flush_present (cells_in first.bytes) (file_held first calls).now calls settles refl

-- a write takes no cell away that a crash may leave
more_may : (taken : Bool) (held : Held) (block b : ℕ) (cell c : Cell) → Contains (held.may b) c
    → Contains ((after_write taken held block cell).may b) c
more_may false held block b cell c has = has
more_may true held block b cell c has = elim (cases_eq b block) [
  | inl same ↦
      let F : List Cell → Type 0 = λ l. Contains l c in
      let G : ℕ → Type 0 = λ k. Contains ((after_write true held block cell).may k) c in
      let H : ℕ → Type 0 = λ k. Contains (held.may k) c in
      subst G (sym same)
      (subst F (sym (written_here held block cell)) (Contains-more (held.may block) cell c (subst H same has)))
  | inr other ↦
      let F : List Cell → Type 0 = λ l. Contains l c in
      subst F (sym (written_other held block b cell other)) has
]
  where
    Contains-more : (l : List Cell) (x c : Cell) → Contains l c → Contains (l ++ x ∷ []) c
    Contains-more l x c (k, low, is) =
        let len = length_push l x in
        (k, omega arith, get_or_append_left l (x ∷ []) _ k low ∙ is)

write_lasting : (file new first : HostFileState) (calls : List Call) (block : ℕ) (cell : Cell) (taken : Bool)
    → new.tells ≡ file.tells
    → new.durable ≡ file.durable → LastsWithin file first calls
    → LastsWithin new first (calls ++ Write block cell taken ∷ [])
write_lasting file new first calls block cell taken tells durable lasting t b there =
    ∥∥₁_elim (lasting (sym tells ∙ t) b there) ∥∥₁_prop (λ has. ∣ step has ∣₁)
  where
    step : Contains ((file_held first calls).may b) (cell_in file.durable b)
        → Contains ((file_held first (calls ++ Write block cell taken ∷ [])).may b) (cell_in new.durable b)
    step has =
        let F : List ℕ → Type 0 =
        λ l. Contains ((file_held first (calls ++ Write block cell taken ∷ [])).may b) (cell_in l b) in
        let G : List Cell → Type 0 = λ l. Contains l (cell_in file.durable b) in
        subst F (sym durable)
        (subst G (sym (may_of (cells_in first.bytes) calls block b cell taken))
        (more_may taken (file_held first calls) block b cell _ has))

pub has_present : (first : HostFileState) (calls : List Call) (b : ℕ) (c : Cell)
    → b < 1048576 → c ≡ cell_at (file_held first calls).now b
    → Contains ((file_held first calls).may b) c
has_present first calls b c there is =
    let len = length-cells_in first.bytes in
    let F : Cell → Type 0 = λ x. Contains ((file_held first calls).may b) x in
    subst F (sym is) ((held_after-held (cells_in first.bytes) calls).has_now b (omega arith))

-- a flush that succeeded makes what reads give durable, and one that failed perhaps some of it
flush_lasting : (file new first : HostFileState) (run next : Run) (calls : List Call) (settles : Bool)
    (result : Result (Unit {0}) Failed)
    → settles ≡ is_ok result
    → new.tells ≡ file.tells → (IsTrue file.tells → IsPresent file.bytes run (file_held first calls).now)
    → OnOk result (IsTrue file.tells
    → (b : ℕ) → b < 1048576 → cell_in new.durable b ≡ cell_at (file_held first (calls ++ Flush settles ∷ [])).now b)
    → OnErr result (LastsOrPresent file run new) → LastsWithin file first calls
    → LastsWithin new first (calls ++ Flush settles ∷ [])
flush_lasting file new first run next calls settles (Ok u) is tells present lasts undone lasting t b there =
    ∣ has_present first (calls ++ Flush settles ∷ []) b _ there (lasts (sym tells ∙ t) b there) ∣₁
flush_lasting file new first run next calls settles (Err failed) is tells present lasts undone lasting t b there =
    let F : Bool → Type 0 =
    λ s. ∥ Contains ((file_held first (calls ++ Flush s ∷ [])).may b) (cell_in new.durable b) ∥₁ in
    let G : Held → Type 0 = λ h. ∥ Contains (h.may b) (cell_in new.durable b) ∥₁ in
    let told = sym tells ∙ t in
    subst F (sym is) (subst G (sym (flush_of (cells_in first.bytes) calls false))
    (elim (undone told (file_held first calls).now (present told) b there) [
      | inl same ↦
          let H : Cell → Type 0 = λ c. ∥ Contains ((file_held first calls).may b) c ∥₁ in
          subst H (sym same) (lasting told b there)
      | inr now ↦ ∣ has_present first calls b _ there now ∣₁
    ]))

module _ (file new first : HostFileState) (run next : Run) (calls : List Call) (moment spare : ℕ)
    (made : moment ≡ 2 * length calls)
    (room : 2 * spare + moment < 2 ^ 64) (sized : FileSized first calls)
    (present : IsTrue file.tells → IsPresent file.bytes run (file_held first calls).now)
    (lasting : LastsWithin file first calls)
    (tells : new.tells ≡ file.tells)
  where
    told_too : IsTrue new.tells → IsTrue file.tells
    told_too t = sym tells ∙ t

    pub read_holds : new.bytes ≡ file.bytes → new.durable ≡ file.durable → next ≡ run
        → Holds new next first calls moment spare
    read_holds bytes durable same = record {
      made = made;
      room = room;
      sized = sized;
      present = λ t.
          let F : List ℕ → Type 0 = λ l. IsPresent l next (file_held first calls).now in
          let G : Run → Type 0 = λ r. IsPresent file.bytes r (file_held first calls).now in
          subst F (sym bytes) (subst G (sym same) (present (told_too t)));
      lasting = λ t b there.
          let F : List ℕ → Type 0 = λ l. ∥ Contains ((file_held first calls).may b) (cell_in l b) ∥₁ in
          subst F (sym durable) (lasting (told_too t) b there);
    }

    pub write_holds : {after : List Call} → 1 ≤ spare → (block : ℕ) (cell : Cell) (taken : Bool)
        (result : Result (Unit {0}) Failed) → taken ≡ is_ok result
        → IsSizedCell cell → OnOk result (TakesCell file run new next block cell)
        → OnErr result (StaysPresent file run new next)
        → new.durable ≡ file.durable → after ≡ calls ++ Write block cell taken
        ∷ [] → Holds new next first after (moment + 2) (spare - 1)
    write_holds some block cell taken result is size takes stays durable noted =
        let len = length_push calls (Write block cell taken) in
        rw noted (record {
          made = omega arith;
          room = omega arith;
          sized = sized_write (cells_in first.bytes) calls block cell taken size sized;
          present = λ t. write_present file new first run next calls block cell taken result is takes stays (told_too t)
              (present (told_too t));
          lasting = write_lasting file new first calls block cell taken tells durable lasting;
        })

    -- after a flush that succeeded the durable bytes show what reads give
    pub flush_lasts : {after : List Call} (settles : Bool) (result : Result (Unit {0}) Failed)
        → StaysPresent file run new next
        → after ≡ calls ++ Flush settles ∷ [] → OnOk result (next.count ≡ 0) → OnOk result (new.durable ≡ new.bytes)
        → OnOk result
        (IsTrue file.tells → (b : ℕ) → b < 1048576 → cell_in new.durable b ≡ cell_at (file_held first after).now b)
    flush_lasts settles (Err failed) stays noted none durable = tt
    flush_lasts settles (Ok u) stays noted none durable = λ t b there.
        let now_is : (file_held first calls).now ≡ (file_held first _).now = flush_now_is first calls settles in
        let G : List Call → Type 0 = λ l. cell_in new.durable b ≡ cell_at (file_held first l).now b in
        subst G (sym noted)
        (ap (λ l. cell_in l b) durable
        ∙ sym (present-all new.bytes next (file_held first calls).now none
        (stays t (file_held first calls).now (present t)) b there)
        ∙ ap (λ l. cell_at l b) now_is)

    pub flush_holds : {after : List Call} → 1 ≤ spare → (settles : Bool) (result : Result (Unit {0}) Failed)
        → settles ≡ is_ok result
        → StaysPresent file run new next
        → OnOk result (next.count ≡ 0) → OnOk result (new.durable ≡ new.bytes)
        → OnErr result (LastsOrPresent file run new)
        → after ≡ calls ++ Flush settles ∷ [] → Holds new next first after (moment + 2) (spare - 1)
    flush_holds some settles result is stays none durable undone noted =
        let len = length_push calls (Flush settles) in
        rw noted (record {
          made = omega arith;
          room = omega arith;
          sized = sized_flush (cells_in first.bytes) calls settles sized;
          present = λ t.
              let F : List Cell → Type 0 = λ l. IsPresent new.bytes next l in
              subst F (flush_now_is first calls settles)
              (stays (told_too t) (file_held first calls).now (present (told_too t)));
          lasting = flush_lasting file new first run next calls settles result is tells present
              (flush_lasts settles result stays refl none durable) undone lasting;
        })
