-- The verdict of what an image has is that of its scan.
use Rattle.std.proofs.Common.{◌≡◌, ℕ, ◌+◌, ◌/◌, ◌<◌, Bool, true, false, cond, eqb, ltb, leb, ◌&&◌, ◌||◌, not, List, []}
use Rattle.std.proofs.Common.{◌∷◌, length, get_or, Option, Some, None, is_some, refl, sym, ap, ◌∙◌, arith, eqb-true}
use Rattle.std.specs.List.{list_any}
use Rattle.std.proofs.lemmas.Bool.{false≢true}
use Rattle.std.proofs.lemmas.Bool.Decides.{nat_tests}
use Rattle.nofs_inode.specs.declared.inode.BackLink.{BackLink}
use Rattle.nofs_dirent.specs.declared.entry.Entry.{Entry}
use Rattle.nofs_inode.specs.declared.inode.FileKind.{FileKind}
use Rattle.nofs_disk.specs.declared.tag.Pointer.{Pointer}
use Rattle.nofs_disk.specs.declared.tag.Tag.{Tag}
use Rattle.nofs_inode.specs.InodeRecords.{is_live, no_link}
use Rattle.nofs_disk.specs.Pointer.{is_null}
use Rattle.nofs_ptrs.specs.Cells.{pointer_at}
use Rattle.nofs_disk.specs.Number.{number_at, zeros}
use Rattle.nofs_disk.specs.Tag.{tag_of}
use Rattle.nofs_disk.specs.declared.tag.Kind.TheVariants.{Leaf}
use Rattle.nofs_inode.specs.declared.inode.FileKind.TheVariants.{Directory, File}
use Rattle.nofs_model.specs.Geometry.{Image, super_at, inode, is_data_block}
use Rattle.nofs_disk.specs.Disk.{cell_at}
use Rattle.nofs_model.specs.Owners.{is_fixed_block, is_used_block, is_used_inode, Home, home_at, owner}
use Rattle.nofs_ptrs.specs.Paths.{Path, InRecord, Under, path_of, slot_of, IsSlot, is_pointer_slot, is_slot}
use Rattle.nofs_model.specs.Slots.{record_pointer, content_kind, is_tag, tag_for, agrees, judged as judged_slot, find}
use Rattle.nofs_model.specs.Files.{files_in, file_from, entry_at, is_a, names, pairs, is_pair, is_special, agreed}
use Rattle.nofs_model.specs.Owners.{owner_by, owner_found}
use Rattle.nofs_model.specs.declared.image.path.PathAnswer.{PathAnswer}
use Rattle.nofs_model.specs.declared.image.path.PathAnswer.TheVariants as answer
use Rattle.nofs_model.proofs.OnFiles.Parents.{any-links, linked-is}
use Rattle.nofs_agree.proofs.OnPair.{four-links}
use Rattle.nofs_model.proofs.OnSlots.Paths.{path_of-number}
use Rattle.nofs_history.specs.declared.machine.steps.ElementKind.{ElementKind}
use Rattle.nofs_history.specs.declared.machine.steps.ElementKind.TheVariants as element
use Rattle.nofs_state.specs.Books.Verdicts.{names_block}
use Rattle.nofs_scan.specs.Steps.Elements.{HasElement, is_used}
use Rattle.nofs_scan.specs.Sights.Verdicts.{above_in, block_sight, holds_above, holds_down, inode_sight}
use Rattle.nofs_scan.specs.Sights.Verdicts.{first_pointer, judged_inode, judged_tag, leads_up, may_hold, owner_sight}
use Rattle.nofs_scan.specs.Sights.Verdicts.{sight_verdict}
use Rattle.nofs_scan.specs.Sights.Verdicts.{entry_linked, link_sight, may_have, named_inode, names_it, no_above}
use Rattle.nofs_scan.specs.Sights.Verdicts.{sight_in, tag_sight, tag_wanted, tagged_in, way_in}
use Rattle.nofs_scan.proofs.OnSights.Reads.{none-agreed}
use Rattle.nofs_scan.specs.declared.sights.sights.Above.{Above}
use Rattle.nofs_scan.specs.declared.sights.sights.LinkSight.{LinkSight}
use Rattle.nofs_scan.specs.declared.sights.sights.Sight.TheVariants as sight
use Rattle.nofs_scan.specs.declared.sights.sights.TagSight.{TagSight}

-- Inodes

named-if : (a : Bool) (o : Option Entry) (i g : ℕ) → names_it (cond a (named_inode o) None) i g ≡ (a && names o i g)
named-if true None i g = refl
named-if true (Some e) i g = refl
named-if false o i g = refl

of-file : (a n up : Bool) → ((a && n) && up) ≡ ((a && (n && true)) && up)
of-file true true up = refl
of-file true false up = refl
of-file false n up = refl

of-directory : (lt a n up : Bool) → (lt && ((a && n) && up)) ≡ ((a && (n && lt)) && up)
of-directory true a n up = of-file a n up
of-directory false true true up = refl
of-directory false true false up = refl
of-directory false false n up = refl

-- a back link that leads up is a pair with an agreed directory
up-is : (X : Image) (i : ℕ) (l : BackLink)
    → leads_up i (inode X i).generation (inode X i).kind (link_sight X l)
    ≡ (is_pair (files_in X) i l && agreed (files_in X) l.directory)
up-is X i l = go (inode X i).kind
    (named-if (is_a Directory l.generation (files_in X l.directory)) (entry_at (files_in X) l.directory l.entry) i
    (inode X i).generation)
  where
    go : (k : Option FileKind) → names_it (entry_linked (files_in X) l) i (inode X i).generation ≡
        (is_a Directory l.generation (files_in X l.directory)
        && names (entry_at (files_in X) l.directory l.entry) i (inode X i).generation)
        → (may_have k l.generation (inode X i).generation &&
        (names_it (entry_linked (files_in X) l) i (inode X i).generation && agreed (files_in X) l.directory)) ≡
        (pairs (file_from X i k) (files_in X l.directory) i l && agreed (files_in X) l.directory)
    go None entry = refl
    go (Some File) entry = ap (λ (b : Bool). b && agreed (files_in X) l.directory) entry
        ∙ of-file (is_a Directory l.generation (files_in X l.directory))
        (names (entry_at (files_in X) l.directory l.entry) i (inode X i).generation)
        (agreed (files_in X) l.directory)
    go (Some Directory) entry =
        ap (λ (b : Bool). ltb l.generation (inode X i).generation && (b && agreed (files_in X) l.directory)) entry
        ∙ of-directory (ltb l.generation (inode X i).generation) (is_a Directory l.generation (files_in X l.directory))
        (names (entry_at (files_in X) l.directory l.entry) i (inode X i).generation) (agreed (files_in X) l.directory)

or-false : (b : Bool) → b ≡ (b || false)
or-false true = refl
or-false false = refl

-- some of four is the same as one of them
four-any : (f : BackLink → LinkSight) (P : BackLink → Bool) (R : LinkSight → Bool)
    → ((l : BackLink) → R (f l) ≡ P l) → (ls : List BackLink)
    → length ls ≡ 4
    → (R (f (get_or ls 0 no_link)) || (R (f (get_or ls 1 no_link)) || (R (f (get_or ls 2 no_link)) ||
    R (f (get_or ls 3 no_link))))) ≡ list_any P ls
four-any f P R is (a ∷ b ∷ c ∷ d ∷ []) e = λ j. is a j || (is b j || (is c j || (is d ∙ or-false (P d)) j))
four-any f P R is [] e = absurd (omega (arith, e))
four-any f P R is (a ∷ []) e = absurd (omega (arith, e))
four-any f P R is (a ∷ b ∷ []) e = absurd (omega (arith, e))
four-any f P R is (a ∷ b ∷ c ∷ []) e = absurd (omega (arith, e))
four-any f P R is (a ∷ b ∷ c ∷ d ∷ x ∷ xs) e = absurd (omega (arith, e))

root-special : (one two a b : Bool) → (one || two) ≡ false → ((one && a) || (two && b)) ≡ false
root-special false false a b e = refl
root-special false true a b e = cc
root-special true two a b e = cc

abbrev is_linked : Image → ℕ → Bool
is_linked X i = list_any (λ l. is_pair (files_in X) i l && agreed (files_in X) l.directory) (inode X i).links

inode-found : (X : Image) (i : ℕ) → judged_inode (inode_sight X i) ≡ (is_special i || is_linked X i)
inode-found X i = ap (λ (b : Bool). is_special i || b)
    (four-any (link_sight X) (λ l. is_pair (files_in X) i l && agreed (files_in X) l.directory)
    (leads_up i (inode X i).generation (inode X i).kind) (up-is X i) (inode X i).links (four-links X i))

inode-judged : (X : Image) (i : ℕ) → judged_inode (inode_sight X i) ≡ is_used_inode X i
inode-judged X i = inode-found X i ∙ go (is_special i) refl
  where
    go : (b : Bool) → is_special i ≡ b → (b || is_linked X i) ≡ (b || agreed (files_in X) i)
    go true e = refl
    go false e = any-links X i (inode X i) refl ∙ sym (linked-is (files_in X) i
        (root-special (eqb i 1) (eqb i 2) (is_a Directory 1 (files_in X 1)) (is_a File 2 (files_in X 2)) e) e)

-- Blocks

-- what stands in a slot, by what stands above it
abbrev after : Image → ℕ → Path → ℕ → PathAnswer → PathAnswer
after X i a n above = elim above [
  | answer.Hole ↦ answer.Hole
  | answer.Holds x ↦ judged_slot X i (Under a n) (pointer_at (cell_at X x.block).payload n)
  | answer.Lost ↦ answer.Lost
]

-- the tag of an unused block is that of no block of pointers
unused-tag : (i g k s : ℕ)
    → is_tag (tag_of (zeros 32)) (record { kind = Leaf; inode = i; generation = g; slot = k; stamp = s }) ≡ false
unfolding tag_of number_at zeros
unused-tag i g k s = refl

module _ (X : Image) (i : ℕ) (path a : Path) (y : Pointer) (n : ℕ) (q : PathAnswer → Bool)
    (leaf : is_pointer_slot a ≡ true) (hole : q answer.Hole ≡ false) (lost : q answer.Lost ≡ false) where
  abbrev wanted : Tag
  wanted = tag_wanted (owner_sight (inode X i) path) i Leaf a y.stamp

  abbrev full : Above
  full = record { tag = (cell_at X y.block).tag; pointer = pointer_at (cell_at X y.block).payload n }

  abbrev below : Bool
  below = q (judged_slot X i (Under a n) (pointer_at (cell_at X y.block).payload n))

  with-tag : (b : Bool) → (b && below) ≡ q (after X i a n (cond b (answer.Holds y) answer.Lost))
  with-tag true = refl
  with-tag false = sym lost

  by-case : (d none live : Bool) → (((not none && live) && is_tag (tag_of (cond d full no_above).tag) wanted)
      && q (judged_slot X i (Under a n) (cond d full no_above).pointer))
      ≡ q (after X i a n (cond none answer.Hole
      (cond (live && (d && is_tag (tag_of (cell_at X y.block).tag) wanted)) (answer.Holds y) answer.Lost)))
  by-case d true live = sym hole
  by-case true false true = with-tag (is_tag (tag_of (cell_at X y.block).tag) wanted)
  by-case true false false = sym lost
  by-case false false true =
      ap (λ (b : Bool). b && q (judged_slot X i (Under a n) no_above.pointer))
      (unused-tag i (inode X i).generation (slot_of a) y.stamp)
      ∙ sym lost
  by-case false false false = sym lost

  -- a block of pointers is a leaf
  wanted-is : wanted ≡ tag_for X i a y.stamp
  wanted-is = λ j. record {
    kind = cond (sym leaf j) Leaf (content_kind (inode X i).kind);
    inode = i;
    generation = (inode X i).generation;
    slot = slot_of a;
    stamp = y.stamp;
  }

  -- a block above a slot holds where its tag is that of its own slot
  under : ((may_hold (owner_sight (inode X i) path) y && is_tag (tag_of (above_in X y.block n).tag) wanted)
      && q (judged_slot X i (Under a n) (above_in X y.block n).pointer)) ≡ q (after X i a n (judged_slot X i a y))
  under = by-case (is_data_block X y.block) (is_null y) (is_live (inode X i))
      ∙ ap (λ (t : Tag). q (after X i a n (cond (is_null y) answer.Hole
      (cond (is_live (inode X i) && (is_data_block X y.block && is_tag (tag_of (cell_at X y.block).tag) t))
      (answer.Holds y) answer.Lost)))) wanted-is

module _ (X : Image) (p : ℕ) (t : Tag) (data_block : is_data_block X p ≡ true)
    (own : tag_of (cell_at X p).tag ≡ Some t) where
  -- the slot's own block has the tag that was read of it
  last : (path : Path) (x : Pointer) → ((eqb x.block p) && (may_hold (owner_sight (inode X t.inode) path) x
      && is_tag (Some t) (tag_for X t.inode path x.stamp)))
      ≡ names_block (judged_slot X t.inode path x) p
  last path x = go (eqb x.block p) refl (is_null x) (agrees X t.inode path x) refl
    where
      live-tag : x.block ≡ p → (is_live (inode X t.inode)
          && is_tag (Some t) (tag_for X t.inode path x.stamp)) ≡ agrees X t.inode path x
      live-tag at = sym (ap (λ (b : ℕ). is_live (inode X t.inode)
          && (is_data_block X b
          && is_tag (tag_of (cell_at X b).tag) (tag_for X t.inode path x.stamp))) at
          ∙ ap (λ (d : Bool). is_live (inode X t.inode)
          && (d && is_tag (tag_of (cell_at X p).tag) (tag_for X t.inode path x.stamp)))
          data_block
          ∙ ap (λ (o : Option Tag). is_live (inode X t.inode)
          && is_tag o (tag_for X t.inode path x.stamp)) own)

      here : eqb x.block p ≡ true → (b : Bool) → agrees X t.inode path x ≡ b
          → (is_live (inode X t.inode)
          && is_tag (Some t) (tag_for X t.inode path x.stamp)) ≡ names_block
          (cond b (answer.Holds x) answer.Lost) p
      here e true f = live-tag (eqb-true x.block p e) ∙ f ∙ sym e
      here e false f = live-tag (eqb-true x.block p e) ∙ f

      go : (b : Bool) → eqb x.block p ≡ b → (null ag : Bool) → agrees X t.inode path x ≡ ag
          → (b && ((not null && is_live (inode X t.inode))
          && is_tag (Some t) (tag_for X t.inode path x.stamp))) ≡ names_block
          (cond null answer.Hole (cond ag (answer.Holds x) answer.Lost)) p
      go true e true ag h = refl
      go true e false ag h = here e ag h
      go false e true ag h = refl
      go false e false true h = sym e
      go false e false false h = refl

  abbrev of-slot : Path → TagSight
  of-slot path = record {
    tag = t;
    owner = owner_sight (inode X t.inode) path;
    way = way_in X (first_pointer (inode X t.inode) path).block path;
    agreed = agreed (files_in X) t.inode;
  }

  -- the slot that the tag names holds the block just where what was read says so
  slot-held : (path : Path) → IsSlot path → holds_down p (of-slot path) path ≡ names_block (find X t.inode path) p
  slot-held (InRecord n) is = last (InRecord n) (record_pointer (inode X t.inode) n)
  slot-held (Under (InRecord a) n) is =
      let path : Path = Under (InRecord a) n in
      let y : Pointer = record_pointer (inode X t.inode) a in
      let up : Above = above_in X y.block n in
      ap (λ (b : Bool). holds_above (of-slot path) (InRecord a) y up && b) (last path up.pointer)
      ∙ under X t.inode path (InRecord a) y n (λ f. names_block f p) is.0 refl refl
  slot-held (Under (Under (InRecord a) m) n) is =
      let path : Path = Under (Under (InRecord a) m) n in
      let y : Pointer = record_pointer (inode X t.inode) a in
      let up : Above = above_in X y.block m in
      let low : Above = above_in X up.pointer.block n in
      ap (λ (b : Bool). holds_above (of-slot path) (InRecord a) y up && b)
      (ap (λ (b : Bool). holds_above (of-slot path) (Under (InRecord a) m) up.pointer low && b)
      (last path low.pointer)
      ∙ under X t.inode path (Under (InRecord a) m) up.pointer n (λ f. names_block f p) is.0 refl refl)
      ∙ under X t.inode path (InRecord a) y m (λ f. names_block (after X t.inode (Under (InRecord a) m) n f) p)
      is.2.0 refl refl
  slot-held (Under (Under (Under a k) m) n) is = absurd (false≢true is.0)

owner-some : (X : Image) (p : ℕ) (t : Tag) (f : PathAnswer)
    → (names_block f p && agreed (files_in X) t.inode) ≡ is_some (owner_found X p t f)
owner-some X p t answer.Hole = refl
owner-some X p t (answer.Holds x) = go (eqb x.block p && agreed (files_in X) t.inode)
  where
    go : (b : Bool) → b ≡ is_some {T = Home} (cond b (Some (home_at t.inode t.slot)) None)
    go true = refl
    go false = refl
owner-some X p t answer.Lost = refl

and-false : (a b : Bool) → b ≡ false → (a && b) ≡ false
and-false true b e = e
and-false false b e = refl

tag-judged : (X : Image) (p : ℕ) → is_data_block X p ≡ true → (o : Option Tag) → tag_of (cell_at X p).tag ≡ o
    → judged_tag p (tagged_in X o) ≡ is_some (owner_by X p o)
tag-judged X p in_data None own = refl
tag-judged X p in_data (Some t) own = go (eqb t.inode 0) refl (is_slot t.slot) refl
  where
    go : (none : Bool) → eqb t.inode 0 ≡ none → (b : Bool) → is_slot t.slot ≡ b
        → judged_tag p (cond (not none && b) (Some (tag_sight X t)) None) ≡ is_some
        (cond b (owner_found X p t (find X t.inode (path_of t.slot))) None)
    go true none true e = sym (and-false (names_block (find X t.inode (path_of t.slot)) p)
        (agreed (files_in X) t.inode)
        (ap (agreed (files_in X)) (eqb-true t.inode 0 none) ∙ sym (none-agreed X)))
        ∙ owner-some X p t (find X t.inode (path_of t.slot))
    go true none false e = refl
    go false none true e =
        ap (λ (b : Bool). b && (holds_down p (tag_sight X t) (path_of t.slot) && agreed (files_in X) t.inode)) e
        ∙ (ap (λ (b : Bool). b && agreed (files_in X) t.inode)
        (slot-held X p t in_data own (path_of t.slot) (path_of-number t.slot e).0)
        ∙ owner-some X p t (find X t.inode (path_of t.slot)))
    go false none false e = refl

data-block : (at p blocks : ℕ) → leb p at ≡ false → p < blocks → (leb (1 + at) p && ltb p blocks) ≡ true
data-block at p blocks e low = grind (arith, nat_tests)

owner-is : (X : Image) (p : ℕ) → owner X p ≡ owner_by X p (tag_of (cell_at X p).tag)
unfolding owner
owner-is X p = refl

block-judged : (X : Image) (p : ℕ)
    → p < (super_at X).blocks → sight_verdict (sight_in element.Block X p) ≡ is_used_block X p
block-judged X p low = go (is_fixed_block X p) refl
  where
    go : (b : Bool) → is_fixed_block X p ≡ b
        → sight_verdict (cond b (sight.Fixed p) (sight.Block (block_sight X p))) ≡ (b || is_some (owner X p))
    go true e = refl
    go false e = tag-judged X p (data-block ((super_at X).inodes / 4) p (super_at X).blocks e low)
        (tag_of (cell_at X p).tag) refl
        ∙ sym (ap is_some (owner-is X p))

-- of an element of the disk
pub judged-is : (X : Image) (kind : ElementKind) (item : ℕ) → HasElement kind (super_at X) item
    → sight_verdict (sight_in kind X item) ≡ is_used kind X item
judged-is X element.Inode i range = inode-judged X i
judged-is X element.Block p range = block-judged X p range.1
