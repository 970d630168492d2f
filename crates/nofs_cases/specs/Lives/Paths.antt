-- Instances of the law of paths.
use Rattle.std.specs.Prelude.{◌^◌, []}
use Rattle.nofs_history.specs.Allowed.{IsAllowed}
use Rattle.nofs_history.specs.Machine.{link_to}
use Rattle.nofs_crashlaw.specs.Paths.Names.{SureChain, SureName}
use Rattle.nofs_crashlaw.specs.Machine.Examples.{a}
use Rattle.nofs_cases.specs.Disks.Images.{first_image}
use Rattle.nofs_cases.specs.Names.Disks.{name_image}

-- The root leads to itself.
abbrev pub RootCase : Type 0
RootCase = IsAllowed first_image [] 0 first_image × SureChain first_image [] 0 1

-- The name a leads to inode 3.
abbrev pub NamePathCase : Type 0
NamePathCase = IsAllowed name_image [] 0 name_image × SureChain name_image [] 0 1
    × SureName name_image [] 0 3 (2 ^ 40) 0 (link_to 1 0 1)
    a × SureChain name_image [] 0 3
