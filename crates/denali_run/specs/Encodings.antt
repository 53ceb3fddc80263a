-- By which encoding settings ask for schedules. Source: this project.
use Rattle.cycle_encoding.specs.declared.encodings.Encoding.{Encoding}
use Rattle.cycle_encoding.specs.declared.encodings.Encoding.TheVariants as encodings
use Rattle.schedule_meaning.specs.declared.schedules.Allocation.{Allocation}
use Rattle.schedule_meaning.specs.declared.schedules.Allocation.TheVariants.{Block, Live}
use Rattle.denali_run.specs.declared.settings.Settings.{Settings}

-- the one whose schedules keep their registers so long, and may have pins
abbrev pub encoding_for : Allocation → Encoding
encoding_for Block = encodings.Pinned
encoding_for Live = encodings.Live

abbrev pub encoding_in : Settings → Encoding
encoding_in s = encoding_for s.allocation
