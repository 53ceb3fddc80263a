-- What the steps that find deadlines look up. No public clause rests on this. Source: this project.
use Rattle.std.specs.Prelude.{ℕ, ◌-◌, ◌==◌, min, max, List, [], ◌∷◌, Option, fold, if◌then◌else◌}
use Rattle.std.specs.List.{flat_map}
use Rattle.machine_table.specs.declared.tables.Table.{Table}
use Rattle.graph_meaning.specs.declared.graphs.LaunchGraph.{LaunchGraph}
use Rattle.cycle_encoding.specs.Steps.{put_at}
use Rattle.slot_capacity.specs.Deadlines.{least_delay}
use Rattle.slot_capacity.specs.MakersSteps.{always_of}
use Rattle.slot_capacity.specs.declared.spans.Span.{Span}
use Rattle.slot_capacity.specs.declared.deadlines.Deadline.{Deadline}

-- the lists with this deadline in that of a class
abbrev pub with_last : ℕ → List (List ℕ) → ℕ → List (List ℕ)
with_last last lists class = put_at lists class last

-- the deadline of a reader, where it is one of the class: once for each time that the class stands among what is read
abbrev pub last_if : ℕ → ℕ → ℕ → List ℕ
last_if class last other = if other == class then last ∷ [] else []

abbrev pub last_for : List ℕ → ℕ → ℕ → List ℕ
last_for read last class = flat_map (last_if class last) read

-- the deadlines of those that always read the class
abbrev pub lasts_for : LaunchGraph → List (Option Span) → List Deadline → ℕ → List ℕ
lasts_for g spans xs class = flat_map (λ r. last_for (always_of g spans r.class) r.last class) xs

-- a deadline, made sooner by that of a reader, and by those of some
abbrev pub before_reader : Deadline → ℕ → ℕ → ℕ → ℕ
before_reader x delay last reader = max x.first (min last (reader - delay))

abbrev pub lowered_by : LaunchGraph → Table → ℕ → List (Option Span) → List ℕ → Deadline → Deadline
lowered_by g table k spans lasts x =
    record x { last = fold (before_reader x (least_delay g table k spans x.class)) x.last lasts }
