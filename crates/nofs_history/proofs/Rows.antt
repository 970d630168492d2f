-- What the rows of refusals name: no fault of the device, and numbers of the world after the step.
use Rattle.std.proofs.Common.{◌≡◌, ℕ, ◌+◌, ◌-◌, ◌*◌, ◌/◌, Bool, true, false, cond, ltb, ◌&&◌, List, [], ◌∷◌, Option}
use Rattle.std.proofs.Common.{Some, None, is_some, option_map, refl, min}
use Rattle.nofs_ptrs.specs.Paths.{InRecord, Under}
use Rattle.nofs_history.specs.Search.{first_of}
use Rattle.nofs_history.specs.Machine.{found, first_dead, first_lost_slot, size_of, slots_in, node_of}
use Rattle.nofs_history.specs.World.{World, unverified_inodes, unverified_blocks, next_inode}
use Rattle.nofs_history.specs.Refusals.{row, missing, exists, not_empty_at, too_many_links, directory_full, inodes_full}
use Rattle.nofs_history.specs.Refusals.{full, serials_spent, is_damaged, lost_resize, rows}
use Rattle.nofs_history.specs.declared.machine.steps.Step.{Step}
use Rattle.nofs_history.specs.declared.machine.steps.Step.TheVariants as step
use Rattle.nofs_history.specs.declared.machine.replies.Refusal.{Refusal}
use Rattle.nofs_history.specs.declared.machine.replies.Refusal.TheVariants as refusal

-- what is said of a refusal, where one is
abbrev pub Such : (Refusal → Type 0) → Option Refusal → Type 0
Such P None = Unit {0}
Such P (Some why) = P why

abbrev pub AllSuch : (Refusal → Type 0) → List (Option Refusal) → Type 0
AllSuch P [] = Unit {0}
AllSuch P (o ∷ os) = Such P o × AllSuch P os

pub first-such : (P : Refusal → Type 0) (os : List (Option Refusal)) → AllSuch P os → Such P (first_of os)
first-such P [] a = tt
first-such P (None ∷ os) a = first-such P os a.1
first-such P (Some why ∷ os) a = a.0

pub all-such : (P Q : Refusal → Type 0) → ((why : Refusal) → P why → Q why)
    → (os : List (Option Refusal)) → AllSuch P os → AllSuch Q os
all-such P Q then [] a = tt
all-such P Q then (None ∷ os) a = (tt, all-such P Q then os a.1)
all-such P Q then (Some why ∷ os) a = (then why a.0, all-such P Q then os a.1)

-- a refusal that a row names
abbrev pub IsNamed : World → Refusal → Type 0
IsNamed V (refusal.Full needed free unverified next) = unverified ≡ unverified_blocks V
IsNamed V (refusal.InodesFull unverified next) = (unverified ≡ unverified_inodes V) × (next ≡ next_inode V)
IsNamed V refusal.ReadFault = ⊥
IsNamed V refusal.WriteFault = ⊥
IsNamed V _ = Unit {0}

module _ (W V : World) where
  tested : (t : Bool) (why : Refusal) → IsNamed V why → Such (IsNamed V) (row t why)
  tested true why r = r
  tested false why r = tt

  stale-named : (b t : Bool) → Such (IsNamed V) (cond b None (row t refusal.Stale))
  stale-named true t = tt
  stale-named false t = tested t refusal.Stale tt

  missing-named : (d : ℕ) (name : List ℕ) → Such (IsNamed V) (missing W d name)
  missing-named d name = go (is_some (found W.files d name)) (first_dead W.files d name) (first_lost_slot W.files d)
    where
      go : (b : Bool) (o p : Option ℕ)
          → Such (IsNamed V) (cond b None
          (first_of (option_map refusal.LostEntry o ∷ option_map refusal.LostSlot p ∷ Some refusal.Missing ∷ [])))
      go true o p = tt
      go false (Some e) p = tt
      go false None (Some k) = tt
      go false None None = tt

  empty-named : (d : ℕ) (o : Option ℕ) → Such (IsNamed V) (not_empty_at W d o)
  empty-named d None = tt
  empty-named d (Some e) = tested _ refusal.NotEmpty tt

  lost-named : (a b c : Bool) (x y z : ℕ)
      → Such (IsNamed V)
      (first_of (row a (refusal.LostSlot x) ∷ row b (refusal.LostSlot y) ∷ row c (refusal.LostSlot z) ∷ []))
  lost-named true b c x y z = tt
  lost-named false true c x y z = tt
  lost-named false false true x y z = tt
  lost-named false false false x y z = tt

  resize-named : (i size : ℕ) → Such (IsNamed V) (lost_resize W i size)
  resize-named i size =
      let m : ℕ = min (slots_in (size_of W.files i)) (slots_in size) in
      let j : ℕ = (m - 73) / 64 in
      lost-named (ltb 8 m && is_damaged (node_of W.files i (InRecord 8)))
      (ltb 72 m && is_damaged (node_of W.files i (InRecord 9)))
      (ltb 72 m && is_damaged (node_of W.files i (Under (InRecord 9) j))) 8 72 (72 + 64 * j)

  -- whether there is room, by which the rows of a step that writes end
  room-named : (s : Step) → AllSuch (IsNamed V) (full W V s ∷ serials_spent W s ∷ [])
  room-named s = (tested _ _ refl, (tested _ _ tt, tt))

  made-named : (d : ℕ) (name : List ℕ) (s : Step)
      → AllSuch (IsNamed V)
      (exists W d name ∷ directory_full W d name ∷ inodes_full W V ∷ full W V s ∷ serials_spent W s ∷ [])
  made-named d name s = (tested _ _ tt, (tested _ _ tt, (tested _ _ (refl, refl), room-named s)))

  linked-named : (d : ℕ) (name : List ℕ) (i : ℕ) (s : Step)
      → AllSuch (IsNamed V)
      (exists W d name ∷ too_many_links W i ∷ directory_full W d name ∷ full W V s ∷ serials_spent W s ∷ [])
  linked-named d name i s = (tested _ _ tt, (tested _ _ tt, (tested _ _ tt, room-named s)))

  pub rows-named : (s : Step) → AllSuch (IsNamed V) (rows W V s)
  rows-named (step.Look d g name) = (tested _ _ tt, (tested _ _ tt, (tested _ _ tt, (missing-named d name, tt))))
  rows-named (step.Make d g name kind) =
      (tested _ _ tt, (tested _ _ tt, (tested _ _ tt, made-named d name (step.Make d g name kind))))
  rows-named (step.Link d g name i of) = (
    tested _ _ tt,
    (tested _ _ tt, (tested _ _ tt, (tested _ _ tt, (tested _ _ tt, linked-named d name i (step.Link d g name i of))))),
  )
  rows-named (step.Drop d g name) = (
    tested _ _ tt,
    (tested _ _ tt, (tested _ _ tt, (missing-named d name, (empty-named d (found W.files d name), tt)))),
  )
  rows-named (step.Rename d g old new) =
      (tested _ _ tt, (tested _ _ tt, (tested _ _ tt, (tested _ _ tt, (missing-named d old, (tested _ _ tt, tt))))))
  rows-named (step.List d g k) = (tested _ _ tt, (tested _ _ tt, tt))
  rows-named (step.Get i g k) = (tested _ _ tt, (tested _ _ tt, (tested _ _ tt, tt)))
  rows-named (step.Put i g k at bytes) = (
    tested _ _ tt,
    (
      tested _ _ tt,
      (tested _ _ tt, (tested _ _ tt, (tested _ _ tt, (tested _ _ tt, room-named (step.Put i g k at bytes))))),
    ),
  )
  rows-named (step.Resize i g size) = (tested _ _ tt, (tested _ _ tt, (tested _ _ tt, (resize-named i size, tt))))
  rows-named (step.Stat i g) = (tested _ _ tt, tt)
  rows-named (step.Flush i g) = (stale-named _ _, tt)
  rows-named (step.SeeInode i) = (tested _ _ tt, tt)
  rows-named (step.SeeBlock p) = (tested _ _ tt, tt)
