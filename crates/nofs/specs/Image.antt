-- Which image the first word of a command line names.
use Rattle.std.specs.Prelude.{ℕ, ◌==◌, Bool, not, ◌&&◌, List, length, codes, nat_le, nat_eq, if◌then◌else◌, Some, None}
use Rattle.std.specs.Str.{bytes_eq}
use Rattle.std.specs.List.{before_first, after_first, position_or_len}
use Rattle.std.specs.declared.option.Option.{Option}
use Rattle.nofs_pages.specs.declared.layout.Layout.{Layout}
use Rattle.nofs_pages.specs.declared.layout.Layout.TheVariants.{Packed, Paged, Twin}
use Rattle.nofs_script.specs.Words.{number_of}
use Rattle.nofs.specs.declared.image.ImageChoice.{ImageChoice}
use Rattle.nofs.specs.declared.image.ImageChoice.TheVariants.{Memory, File, Mirror}

-- the disk in memory, a file by its path, or so many blocks in two files, the lead first; a file has the layout in
-- which it is made
pub data Image : Type 0 where
  InMemory : Image
  InFile : Layout → List ℕ → Image
  InMirror : Layout → ℕ → List ℕ → List ℕ → Image

abbrev pub meant : ImageChoice → Image
meant Memory = InMemory
meant (File layout path) = InFile layout path.now
meant (Mirror layout blocks lead other) = InMirror layout blocks lead.now other.now

abbrev pub is_colon : ℕ → Bool
is_colon byte = byte == 58

-- what stands before the first colon of a text, and what behind it; none where it has no colon
abbrev pub halves : List ℕ → Option (List ℕ × List ℕ)
halves text = if nat_le (length text) (position_or_len is_colon text) then None
    else Some (before_first is_colon text, after_first is_colon text)

-- a path: not empty, and not the word of the disk in memory
abbrev pub is_path : List ℕ → Bool
is_path word = not (nat_eq (length word) 0) && not (bytes_eq word (codes "-"))

abbrev pub mirror_of : Layout → Option ℕ → List ℕ → List ℕ → Option Image
mirror_of layout (Some blocks) lead other =
    if nat_le 16 blocks && (nat_le blocks 1048576 && (is_path lead && is_path other))
    then Some (InMirror layout blocks lead other) else None
mirror_of layout None lead other = None

-- two paths are two files; a third is none
abbrev pub of_paths : Layout → List ℕ → List ℕ → List ℕ → Option (List ℕ × List ℕ) → Option Image
of_paths layout blocks lead other None = mirror_of layout (number_of blocks) lead other
of_paths layout blocks lead other (Some more) = None

abbrev pub of_files : Layout → List ℕ → Option (List ℕ × List ℕ) → Option Image
of_files layout blocks (Some (lead, other)) = of_paths layout blocks lead other (halves other)
of_files layout blocks None = None

-- BLOCKS:LEAD:OTHER
abbrev pub mirror_in : Layout → Option (List ℕ × List ℕ) → Option Image
mirror_in layout (Some (blocks, files)) = of_files layout blocks (halves files)
mirror_in layout None = None

-- the layout that a word names
abbrev pub layout_in : List ℕ → Option Layout
layout_in word = if bytes_eq word (codes "paged") then Some Paged
    else (if bytes_eq word (codes "twin") then Some Twin else None)

-- FILE, or mirror:BLOCKS:LEAD:OTHER, behind the word of a layout
abbrev pub laid_in : Layout → List ℕ → Option (List ℕ × List ℕ) → Option Image
laid_in layout text (Some (first, rest)) =
    if bytes_eq first (codes "mirror") then mirror_in layout (halves rest)
    else (if is_path text then Some (InFile layout text) else None)
laid_in layout text None = if is_path text then Some (InFile layout text) else None

abbrev pub named_in : List ℕ → List ℕ → List ℕ → Option Layout → Option Image
named_in word first rest (Some layout) = laid_in layout rest (halves rest)
named_in word first rest None =
    if bytes_eq first (codes "mirror") then mirror_in Packed (halves rest) else Some (InFile Packed word)

abbrev pub split_in : List ℕ → Option (List ℕ × List ℕ) → Option Image
split_in word (Some (first, rest)) = named_in word first rest (layout_in first)
split_in word None = Some (InFile Packed word)

-- the image that a word names
abbrev pub image_in : List ℕ → Option Image
image_in word = if bytes_eq word (codes "-") then Some InMemory else split_in word (halves word)
