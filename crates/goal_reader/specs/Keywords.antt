-- The places of keywords in the order of the lists that begin with them. Source: this project.
use Rattle.std.specs.Prelude.{ℕ}
use Rattle.goal_reader.specs.declared.keywords.ItemKeyword.{ItemKeyword}
use Rattle.goal_reader.specs.declared.keywords.ItemKeyword.TheVariants.{In, Pool, Let, Assume, When, Set}
use Rattle.goal_reader.specs.declared.keywords.FormKeyword.{FormKeyword}
use Rattle.goal_reader.specs.declared.keywords.FormKeyword.TheVariants.{Machine, Op, Axiom, Goal}

-- the place of an item's keyword among those of a goal
abbrev pub item_rank : ItemKeyword → ℕ
item_rank In = 0
item_rank Pool = 1
item_rank Let = 2
item_rank Assume = 3
item_rank When = 4
item_rank Set = 5

-- the place of a form's keyword among those of a text
abbrev pub form_rank : FormKeyword → ℕ
form_rank Machine = 0
form_rank Op = 1
form_rank Axiom = 2
form_rank Goal = 3
