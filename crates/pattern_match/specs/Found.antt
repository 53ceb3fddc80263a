-- A match as specifications see it. From this project.
use Rattle.std.specs.Prelude.{ℕ, List}
use Rattle.pattern_match.specs.declared.found.Match.{Match}

abbrev pub classes_in : Match → List ℕ
classes_in m = m.classes
