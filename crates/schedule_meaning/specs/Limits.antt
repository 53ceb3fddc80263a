-- How long a schedule may be. Source: this project.

use Rattle.std.specs.Prelude.{ℕ}

-- cycles of a schedule that is asked for
abbrev pub most_cycles : ℕ
most_cycles = 24

-- launches of such a schedule, and words of its listing: one in each of at most eight slots in each cycle
abbrev pub most_launches : ℕ
most_launches = 192
