-- An instance of the law of lives with contents: a Put, a crash, and the next mount.
use Rattle.std.specs.Prelude.{◌≡◌, true, ◌||◌, [], ◌∷◌, replicate, nat_le, ◌==◌}
use Rattle.nofs_model.specs.Geometry.{Image}
use Rattle.nofs_model.specs.Files.{is_special}
use Rattle.nofs_model.specs.Slots.{value}
use Rattle.nofs_model.specs.declared.image.value.Value.TheVariants.{Bytes}
use Rattle.nofs_history.specs.Since.{is_generation}
use Rattle.nofs_history.specs.World.{World, world_of}
use Rattle.nofs_crashlaw.specs.Lives.{Lives}
use Rattle.nofs_crashlaw.specs.Machine.Worlds.{world_after}
use Rattle.nofs_cases.specs.Disks.Images.{z, blank, first_image, put_table, put_block}
use Rattle.nofs_cases.specs.Steps.Files.{put_step, put_claims}
use Rattle.nofs_cases.specs.Steps.Maps.{put_entry}
use Rattle.nofs_cases.specs.Lives.Begin.{super_with}
use Rattle.nofs_cases.specs.Crashes.Put.{see_block_entry}
use Rattle.nofs_cases.specs.Numbers.Verdicts.{mounted}

-- after a mount and a look at block 2, which is free
abbrev pub seen_block : World
seen_block = record mounted { known_blocks = λ p. nat_le p 1 || (p == 2) }

-- after the Put, which claims it
abbrev pub put_seen : World
put_seen = record (world_after seen_block put_step put_claims)
    { known_inodes = λ i. is_special i; known_blocks = λ p. nat_le p 1 || (p == 2) }

-- the disk with both writes of the Put, as the next mount raises it
abbrev pub next_base : Image
next_base = super_with 1 2 ∷ put_table ∷ put_block 7 ∷ replicate 13 blank

-- The second life begins with the byte that the first one put.
abbrev pub BytesCase : Type 0
BytesCase = Lives (record { base = next_base; first = 0; start = 5; history = []; end = world_of next_base 0 }
    ∷ record { base = first_image; first = 0; start = 0; history = see_block_entry ∷ put_entry ∷ []; end = put_seen }
    ∷ [])
    × (is_generation next_base 2 2 ≡ true) × (value next_base 2 0 ≡ Bytes (7 ∷ z 1023))
