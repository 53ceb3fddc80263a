-- How long the launches of a schedule that an encoding asks for keep their registers, and what hangs on that.
-- Source: this project.
use Rattle.std.specs.Prelude.{Bool, true, false}
use Rattle.schedule_meaning.specs.declared.schedules.Allocation.{Allocation}
use Rattle.schedule_meaning.specs.declared.schedules.Allocation.TheVariants.{Block, Live}
use Rattle.cycle_encoding.specs.declared.encodings.Encoding.{Encoding}
use Rattle.cycle_encoding.specs.declared.encodings.Encoding.TheVariants as encodings

abbrev pub allocation_of : Encoding → Allocation
allocation_of encodings.Wide = Block
allocation_of encodings.Narrow = Block
allocation_of encodings.Pinned = Block
allocation_of encodings.Live = Live

-- a load may overwrite an input's register by live ranges alone
abbrev pub loads_overwrite : Allocation → Bool
loads_overwrite Block = false
loads_overwrite Live = true
