use Rattle.std.proofs.Common.{◌≡◌, ◌+◌, ◌<◌, ◌||◌, ◌++◌, [], ◌∷◌, Bool, false, true, length, take, refl, sym, ap, subst, ◌∙◌}
use Rattle.std.proofs.lemmas.List.{take_all, take_more}
use Rattle.std.proofs.lemmas.Option.{same_Some}
use Rattle.goal_meaning.specs.Views.{GoalTree, goal_view, input_view}
use Rattle.code_check.specs.Codes.{IsCodeOf}
use Rattle.code_check.specs.Replies.{AreSaid, CanBeSaid, is_no_world, is_unknown}
use Rattle.code_check.specs.declared.codes.Code.{Code}
use Rattle.code_check.proofs.Answering.{goal_low, goal_there}
use Rattle.code_check.proofs.CodeWords.{or_false}
use Rattle.code_check.proofs.Replying.{can_be_said, nothing_said, reply_is, said_more}
use Rattle.code_check.proofs.replies.tell.Goals as goal
use Rattle.code_check.proofs.replies.tell.Goals.{After-index-codes-index, In_ok-put_reply, in-NoWorld, in-Unknown, in-Yes}

pub loop-index-init : goal.loop-index-init
loop-index-init c =
    subst (λ bs. AreSaid (input_view c.args.input.now) c.args.rounds c.args.nodes c.args.library [] bs false false) (sym c.new-bytes.ensures.items)
    (nothing_said (input_view c.args.input.now) c.args.rounds c.args.nodes c.args.library)

-- the code that is checked
code_is : (c : After-index-codes-index) → IsCodeOf (input_view c.args.input.now) c.index-codes-index.result
code_is c =
    subst (λ (x : Code). IsCodeOf (input_view c.args.input.now) x) (sym c.index-codes-index.is)
    (c.requires.codes c.loop-index.index c.index-codes-index.result c.loop-index-test.true)

pub verify_by_rules-requires : goal.verify_by_rules-requires
verify_by_rules-requires c = record {
  input = c.requires.input;
  code = code_is (goal.at.verify_by_rules-requires c).After-index-codes-index;
  rounds = c.requires.rounds;
  nodes = c.requires.nodes;
}

pub bounds-as_slice-at : goal.bounds-as_slice-at
bounds-as_slice-at c =
    let of = code_is (goal.at.bounds-as_slice-at c).After-index-codes-index in
    subst (λ gs. c.index-codes-index.result.goal < length gs) (sym c.as_slice.ensures)
    (goal_low c.args.input.now.goals c.index-codes-index.result.goal of.goal of.of_goal)

pub put_reply-requires : goal.put_reply-requires
put_reply-requires c =
    let of = code_is (goal.at.put_reply-requires c).After-index-codes-index in
    let input = input_view c.args.input.now in
    let code = c.index-codes-index.result in
    let answer = c.in_ok-answer.answer in
    let g = c.index-as_slice-at.result in
    let there = goal_there c.args.input.now.goals c.as_slice.result.now code.goal g c.as_slice.ensures (goal_low c.args.input.now.goals code.goal of.goal of.of_goal) c.index-as_slice-at.is in
    let reply = reply_is input c.args.rounds c.args.nodes c.args.library code answer of (c.in_ok-answer.ensures.right c.args.library c.in_ok-rules.ensures.rules) in
    let same = same_Some reply.goal (goal_view g) (sym reply.of_goal ∙ there) in
    record { said = subst (λ (x : GoalTree). CanBeSaid x answer) same (can_be_said input reply.goal reply.instrs code c.args.rounds c.args.nodes c.args.library answer reply.right) }

-- what is said with the line of the code that is checked
one_more : (c : In_ok-put_reply) → IsCodeOf (input_view c.args.input.now) c.index-codes-index.result →
    AreSaid (input_view c.args.input.now) c.args.rounds c.args.nodes c.args.library (take (c.loop-index.index + 1) c.args.codes.now) c.put_reply.new.text.items
    (c.loop-index.unknown || is_unknown c.in_ok-answer.answer) (c.loop-index.noworld || is_no_world c.in_ok-answer.answer)
one_more c of =
    let input = input_view c.args.input.now in
    let code = c.index-codes-index.result in
    let answer = c.in_ok-answer.answer in
    let g = c.index-as_slice-at.result in
    let i = c.loop-index.index in
    let codes = c.args.codes.now in
    let unknown = c.loop-index.unknown || is_unknown answer in
    let no_world = c.loop-index.noworld || is_no_world answer in
    let there = goal_there c.args.input.now.goals c.as_slice.result.now code.goal g c.as_slice.ensures (goal_low c.args.input.now.goals code.goal of.goal of.of_goal) c.index-as_slice-at.is in
    let reply = reply_is input c.args.rounds c.args.nodes c.args.library code answer of (c.in_ok-answer.ensures.right c.args.library c.in_ok-rules.ensures.rules) in
    let said = said_more input c.args.rounds c.args.nodes c.args.library (take i codes) c.loop-index.bytes.items c.loop-index.unknown c.loop-index.noworld code answer (goal_view g) c.loop-index.invariant reply there in
    let more : take i codes ++ code ∷ [] ≡ take (i + 1) codes = sym (take_more codes i code c.loop-index-test.true ∙ ap (λ (x : Code). take i codes ++ x ∷ []) (sym c.index-codes-index.is)) in
    let with_bytes = subst (λ bs. AreSaid input c.args.rounds c.args.nodes c.args.library (take i codes ++ code ∷ []) bs unknown no_world) (sym c.in_ok-put_reply.ensures) said in
    subst (λ cs. AreSaid input c.args.rounds c.args.nodes c.args.library cs c.put_reply.new.text.items unknown no_world) more with_bytes

or_true : (b : Bool) → b || true ≡ true
or_true true = refl
or_true false = refl

pub loop-index-preserved : goal.loop-index-preserved
loop-index-preserved c =
    let of = code_is (goal.at.loop-index-preserved c).After-index-codes-index in
    let answer = c.in_ok-answer.answer in
    let unknown = c.loop-index.unknown in
    let no_world = c.loop-index.noworld in
    let unknown_is : c.match-answer.unknown ≡ unknown || is_unknown answer = elim c.match-answer.branch [
      | in-Yes w ↦ w.unknown-is ∙ sym (ap (λ a. unknown || is_unknown a) w.in-Yes.is ∙ or_false unknown)
      | in-Unknown w ↦ w.unknown-is ∙ sym (ap (λ a. unknown || is_unknown a) w.in-Unknown.is ∙ or_true unknown)
      | in-NoWorld w ↦ w.unknown-is ∙ sym (ap (λ a. unknown || is_unknown a) w.in-NoWorld.is ∙ or_false unknown)
    ] in
    let no_world_is : c.match-answer.noworld ≡ no_world || is_no_world answer = elim c.match-answer.branch [
      | in-Yes w ↦ w.noworld-is ∙ sym (ap (λ a. no_world || is_no_world a) w.in-Yes.is ∙ or_false no_world)
      | in-Unknown w ↦ w.noworld-is ∙ sym (ap (λ a. no_world || is_no_world a) w.in-Unknown.is ∙ or_false no_world)
      | in-NoWorld w ↦ w.noworld-is ∙ sym (ap (λ a. no_world || is_no_world a) w.in-NoWorld.is ∙ or_true no_world)
    ] in
    let said = one_more (goal.at.loop-index-preserved c).In_ok-put_reply of in
    let codes = take (c.loop-index.index + 1) c.args.codes.now in
    let bytes = c.put_reply.new.text.items in
    subst (λ b. AreSaid (input_view c.args.input.now) c.args.rounds c.args.nodes c.args.library codes bytes b c.match-answer.noworld) (sym unknown_is)
    (subst (λ b. AreSaid (input_view c.args.input.now) c.args.rounds c.args.nodes c.args.library codes bytes (unknown || is_unknown answer) b) (sym no_world_is) said)

pub returns : goal.returns
returns c =
    let input = input_view c.args.input.now in
    record {
      said = subst (λ bs. AreSaid input c.args.rounds c.args.nodes c.args.library c.args.codes.now bs c.loop-index.unknown c.loop-index.noworld) (sym c.from.ensures)
          (subst (λ cs. AreSaid input c.args.rounds c.args.nodes c.args.library cs c.loop-index.bytes.items c.loop-index.unknown c.loop-index.noworld)
          (take_all c.loop-index.index c.args.codes.now c.loop-index-test.false) c.loop-index.invariant);
    }
