-- Whether two kinds of blocks are one, and two tags.
use Rattle.std.specs.Prelude.{Bool, true, false, ◌&&◌, ◌==◌}
use Rattle.nofs_disk.specs.declared.tag.Kind.{Kind}
use Rattle.nofs_disk.specs.declared.tag.Kind.TheVariants.{Nothing, Content, Directory, Leaf, Table, Super}
use Rattle.nofs_disk.specs.declared.tag.Tag.{Tag}

-- whether two kinds are one
abbrev pub same_kind : Kind → Kind → Bool
same_kind Nothing Nothing = true
same_kind Content Content = true
same_kind Directory Directory = true
same_kind Leaf Leaf = true
same_kind Table Table = true
same_kind Super Super = true
same_kind _ _ = false

-- whether two tags are one
abbrev pub same_tag : Tag → Tag → Bool
same_tag a b = same_kind a.kind b.kind
    && ((a.inode == b.inode) && ((a.generation == b.generation) && ((a.slot == b.slot) && (a.stamp == b.stamp))))
