-- What is read of an element of an image, and the verdict that follows from it alone.
use Rattle.std.specs.Prelude.{ℕ, Bool, true, false, ◌&&◌, ◌||◌, not, List, [], ◌∷◌, get_or, Option, Some, None}
use Rattle.std.specs.Prelude.{if◌then◌else◌, ◌==◌, nat_lt}
use Rattle.nofs_disk.specs.Number.{zeros}
use Rattle.nofs_disk.specs.declared.tag.Kind.{Kind}
use Rattle.nofs_disk.specs.declared.tag.Kind.TheVariants.{Leaf}
use Rattle.nofs_disk.specs.declared.tag.Tag.{Tag}
use Rattle.nofs_disk.specs.declared.tag.Pointer.{Pointer}
use Rattle.nofs_inode.specs.declared.inode.BackLink.{BackLink}
use Rattle.nofs_inode.specs.declared.inode.FileKind.{FileKind}
use Rattle.nofs_inode.specs.declared.inode.Record.{Record}
use Rattle.nofs_dirent.specs.declared.entry.Entry.{Entry}
use Rattle.nofs_disk.specs.Tag.{tag_of}
use Rattle.nofs_ptrs.specs.Cells.{pointer_at}
use Rattle.nofs_disk.specs.Pointer.{null, is_null}
use Rattle.nofs_inode.specs.InodeRecords.{is_live, no_link}
use Rattle.nofs_inode.specs.declared.inode.FileKind.TheVariants as file
use Rattle.nofs_model.specs.Geometry.{Image, inode, is_data_block}
use Rattle.nofs_disk.specs.Disk.{cell_at}
use Rattle.nofs_model.specs.Owners.{is_fixed_block}
use Rattle.nofs_ptrs.specs.Paths.{Path, InRecord, Under, path_of, slot_of, is_slot}
use Rattle.nofs_model.specs.Slots.{record_pointer, kind_in, is_tag}
use Rattle.nofs_model.specs.Files.{Files, files_in, entry_at, is_a, is_special, agreed}
use Rattle.nofs_history.specs.declared.machine.steps.ElementKind.{ElementKind}
use Rattle.nofs_history.specs.declared.machine.steps.ElementKind.TheVariants as element
use Rattle.nofs_scan.specs.declared.sights.sights.EntryTarget.{EntryTarget}
use Rattle.nofs_scan.specs.declared.sights.sights.LinkSight.{LinkSight}
use Rattle.nofs_scan.specs.declared.sights.sights.InodeSight.{InodeSight}
use Rattle.nofs_scan.specs.declared.sights.sights.Above.{Above}
use Rattle.nofs_scan.specs.declared.sights.sights.BlocksAbove.{BlocksAbove}
use Rattle.nofs_scan.specs.declared.sights.sights.OwnerSight.{OwnerSight}
use Rattle.nofs_scan.specs.declared.sights.sights.TagSight.{TagSight}
use Rattle.nofs_scan.specs.declared.sights.sights.BlockSight.{BlockSight}
use Rattle.nofs_scan.specs.declared.sights.sights.Sight.{Sight}
use Rattle.nofs_scan.specs.declared.sights.sights.Sight.TheVariants as sight
use Rattle.nofs_scan.specs.declared.sights.evidence.Verdict.{Verdict}

-- What is read of an image

-- whom an entry names
abbrev pub named_inode : Option Entry → Option EntryTarget
named_inode None = None
named_inode (Some e) = Some (record { inode = e.inode; generation = e.generation })

-- the entry that a back link names, in a directory of its generation
abbrev pub entry_linked : Files → BackLink → Option EntryTarget
entry_linked F l = if is_a file.Directory l.generation (F l.directory)
    then named_inode (entry_at F l.directory l.entry) else None

abbrev pub link_sight : Image → BackLink → LinkSight
link_sight X l = record {
  generation = l.generation;
  entry = entry_linked (files_in X) l;
  agreed = agreed (files_in X) l.directory;
}

-- the sights of four back links
abbrev pub link_sights : Image → List BackLink → List LinkSight
link_sights X ls = link_sight X (get_or ls 0 no_link) ∷ link_sight X (get_or ls 1 no_link)
    ∷ link_sight X (get_or ls 2 no_link) ∷ link_sight X
    (get_or ls 3 no_link) ∷ []

abbrev pub inode_sight : Image → ℕ → InodeSight
inode_sight X i = record {
  inode = i;
  generation = (inode X i).generation;
  kind = (inode X i).kind;
  links = link_sights X (inode X i).links;
}

abbrev pub no_above : Above
no_above = record { tag = zeros 32; pointer = null }

-- the tag of a block and the pointer at a place in it, where it is a block of the data area
abbrev pub above_in : Image → ℕ → ℕ → Above
above_in X b n = if is_data_block X b
    then record { tag = (cell_at X b).tag; pointer = pointer_at (cell_at X b).payload n } else no_above

-- a block above a slot alone
abbrev pub under_record : Image → ℕ → ℕ → BlocksAbove
under_record X b n = record { upper = above_in X b n; lower = no_above }

-- a block above a slot, and one of its children
abbrev pub under_top : Image → ℕ → ℕ → ℕ → BlocksAbove
under_top X b m n = record { upper = above_in X b m; lower = above_in X (above_in X b m).pointer.block n }

-- the first pointer on the way to a slot: its own where that is in the record, or that of the upper block
abbrev pub first_pointer : Record → Path → Pointer
first_pointer r (InRecord n) = record_pointer r n
first_pointer r (Under (InRecord a) n) = record_pointer r a
first_pointer r (Under (Under (InRecord a) m) n) = record_pointer r a
first_pointer r (Under (Under (Under a k) m) n) = null

-- what a record says of a slot
abbrev pub owner_sight : Record → Path → OwnerSight
owner_sight r path = record {
  live = is_live r;
  generation = r.generation;
  kind = kind_in r path;
  pointer = first_pointer r path;
}

-- the block above a slot whose pointer is in the record: it is b
abbrev pub upper_in : Image → ℕ → Path → Above
upper_in X b (InRecord n) = no_above
upper_in X b (Under (InRecord a) n) = above_in X b n
upper_in X b (Under (Under (InRecord a) m) n) = above_in X b m
upper_in X b (Under (Under (Under a k) m) n) = no_above

-- the block above a slot whose pointer is in the upper one
abbrev pub lower_in : Image → ℕ → Path → Above
lower_in X b (InRecord n) = no_above
lower_in X b (Under (InRecord a) n) = no_above
lower_in X b (Under (Under (InRecord a) m) n) = above_in X (above_in X b m).pointer.block n
lower_in X b (Under (Under (Under a k) m) n) = no_above

abbrev pub way_in : Image → ℕ → Path → BlocksAbove
way_in X b path = record { upper = upper_in X b path; lower = lower_in X b path }

-- what a record says of a slot, and the blocks above it
abbrev pub slot_way : Image → Record → Path → OwnerSight × BlocksAbove
slot_way X r path = (owner_sight r path, way_in X (first_pointer r path).block path)

abbrev pub tag_sight : Image → Tag → TagSight
tag_sight X t = record {
  tag = t;
  owner = owner_sight (inode X t.inode) (path_of t.slot);
  way = way_in X (first_pointer (inode X t.inode) (path_of t.slot)).block (path_of t.slot);
  agreed = agreed (files_in X) t.inode;
}

-- a tag names a slot of an inode: none has the number 0
abbrev pub names_slot : Tag → Bool
names_slot t = not (t.inode == 0) && is_slot t.slot

abbrev pub tagged_in : Image → Option Tag → Option TagSight
tagged_in X None = None
tagged_in X (Some t) = if names_slot t then Some (tag_sight X t) else None

abbrev pub block_sight : Image → ℕ → BlockSight
block_sight X p = record { block = p; tagged = tagged_in X (tag_of (cell_at X p).tag) }

-- what is read of an element
abbrev pub sight_in : ElementKind → Image → ℕ → Sight
sight_in element.Inode X i = sight.Inode (inode_sight X i)
sight_in element.Block X p = if is_fixed_block X p then sight.Fixed p else sight.Block (block_sight X p)

-- The verdict of what was read

-- the entry names this generation of the inode
abbrev pub names_it : Option EntryTarget → ℕ → ℕ → Bool
names_it None i g = false
names_it (Some n) i g = (n.inode == i) && (n.generation == g)

-- an inode of this kind may have a back link to a directory of the generation d: a directory is younger
abbrev pub may_have : Option FileKind → ℕ → ℕ → Bool
may_have None d g = false
may_have (Some file.File) d g = true
may_have (Some file.Directory) d g = nat_lt d g

-- a back link of an inode is a pair with an agreed directory
abbrev pub leads_up : ℕ → ℕ → Option FileKind → LinkSight → Bool
leads_up i g kind s = may_have kind s.generation g && (names_it s.entry i g && s.agreed)

abbrev pub no_link_sight : LinkSight
no_link_sight = record { generation = 0; entry = None; agreed = false }

-- so is the one at a place
abbrev pub leads_up_at : InodeSight → ℕ → Bool
leads_up_at s k = leads_up s.inode s.generation s.kind (get_or s.links k no_link_sight)

abbrev pub judged_inode : InodeSight → Bool
judged_inode s = is_special s.inode || (leads_up_at s 0 || (leads_up_at s 1 || (leads_up_at s 2 || leads_up_at s 3)))

-- the tag that a block of this kind must have in a slot
abbrev pub tag_wanted : OwnerSight → ℕ → Kind → Path → ℕ → Tag
tag_wanted o i kind path stamp =
    record { kind = kind; inode = i; generation = o.generation; slot = slot_of path; stamp = stamp }

-- a slot with this pointer holds, if its block has the wanted tag
abbrev pub may_hold : OwnerSight → Pointer → Bool
may_hold o x = not (is_null x) && o.live

-- the tag's slot with this pointer holds this block
abbrev pub holds_it : ℕ → TagSight → Path → Pointer → Bool
holds_it p s path x = (x.block == p)
    && (may_hold s.owner x && is_tag (Some s.tag) (tag_wanted s.owner s.tag.inode s.owner.kind path x.stamp))

-- a slot above it with this pointer holds this block of pointers
abbrev pub holds_above : TagSight → Path → Pointer → Above → Bool
holds_above s path x above =
    may_hold s.owner x && is_tag (tag_of above.tag) (tag_wanted s.owner s.tag.inode Leaf path x.stamp)

-- the tag's slot holds this block, and each slot above it holds
abbrev pub holds_down : ℕ → TagSight → Path → Bool
holds_down p s (InRecord n) = holds_it p s (InRecord n) s.owner.pointer
holds_down p s (Under (InRecord a) n) =
    holds_above s (InRecord a) s.owner.pointer s.way.upper && holds_it p s (Under (InRecord a) n) s.way.upper.pointer
holds_down p s (Under (Under (InRecord a) m) n) = holds_above s (InRecord a) s.owner.pointer s.way.upper
    && (holds_above s (Under (InRecord a) m) s.way.upper.pointer s.way.lower
    && holds_it p s (Under (Under (InRecord a) m) n) s.way.lower.pointer)
holds_down p s (Under (Under (Under a k) m) n) = false

abbrev pub judged_tag : ℕ → Option TagSight → Bool
judged_tag p None = false
judged_tag p (Some s) = is_slot s.tag.slot && (holds_down p s (path_of s.tag.slot) && s.agreed)

-- whether an element is used, by what was read of it
abbrev pub sight_verdict : Sight → Bool
sight_verdict (sight.Inode s) = judged_inode s
sight_verdict (sight.Block s) = judged_tag s.block s.tagged
sight_verdict (sight.Fixed p) = true

-- the number of the element
abbrev pub item_of : Sight → ℕ
item_of (sight.Inode s) = s.inode
item_of (sight.Block s) = s.block
item_of (sight.Fixed p) = p

-- the element with its verdict
abbrev pub verdict_by : Sight → Verdict
verdict_by s = record { item = item_of s; used = sight_verdict s }
