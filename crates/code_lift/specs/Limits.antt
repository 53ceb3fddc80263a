-- How many of everything a text of lifts may have. Source: this project.
use Rattle.std.specs.Prelude.{ℕ}

abbrev pub most_lifts : ℕ
most_lifts = 64

abbrev pub most_lift_words : ℕ
most_lift_words = 256

-- operators in the terms of a lift's goal: each word has one let, of which that of a store at a displaced address has
-- most
abbrev pub most_goal_operators : ℕ
most_goal_operators = 2048
