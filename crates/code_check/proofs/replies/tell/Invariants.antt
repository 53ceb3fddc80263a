use Rattle.std.proofs.Common.{take}
use Rattle.goal_meaning.specs.Views.{input_view}
use Rattle.code_check.specs.Replies.{AreSaid}
use Rattle.code_check.proofs.replies.tell.Given as goal

abbrev pub invariant-loop-index : goal.invariant-loop-index
invariant-loop-index l = AreSaid (input_view l.input) l.rounds l.nodes l.fn.library (take l.index l.codes) l.bytes.items l.unknown l.noworld
