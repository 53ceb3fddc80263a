use Rattle.std.proofs.Common.{◌≡◌, map}
use Rattle.goal_meaning.specs.Views.{target_view}
use Rattle.code_check.specs.CodeRoles.{is_word_named, word_named}
use Rattle.code_check.proofs.Searches.{found_of}
use Rattle.code_check.proofs.places.word_target.Given as goal

abbrev pub invariant-loop-number : goal.invariant-loop-number
invariant-loop-number l = word_named (map target_view l.sets) l.name ≡ found_of (is_word_named l.name) target_view l.sets l.number
