-- What is known behind some words, as contracts see it: the terms of its lets are trees. Source: this project.
use Rattle.std.specs.Prelude.{map}
use Rattle.goal_meaning.specs.Views.{let_view}
use Rattle.code_lift.specs.Lifted.{Lifting}
use Rattle.code_lift.specs.declared.lifting.Lifting.{Lifting as LiftingOf}

abbrev pub lifting_view : LiftingOf → Lifting
lifting_view l = record {
  latest = l.latest;
  memory = l.memory;
  is_read = l.is_read;
  lets = map let_view l.lets.items;
  addresses = l.addresses.items;
}
