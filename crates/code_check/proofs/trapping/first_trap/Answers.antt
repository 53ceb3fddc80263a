use Rattle.std.proofs.Common.{◌≡◌, ◌<◌, ◌^◌, ◌∙◌, Some, true, false, length, rules, subst, sym, ap, arith}
use Rattle.std.specs.Prelude.{All}
use Rattle.std.proofs.lemmas.List.{length-map}
use Rattle.alpha_encode.specs.Decoded.{decoded}
use Rattle.graph_meaning.specs.declared.graphs.LaunchRow.{LaunchRow}
use Rattle.code_check.specs.Terms.{terms_after, terms_at_entry}
use Rattle.code_check.proofs.Aligning.{address_there, as_many_addresses, one_more_aligned, rows_made, shown_row, tells_aligned, tells_trap}
use Rattle.code_check.proofs.Stages.{read_code}
use Rattle.code_check.proofs.trapping.first_trap.Goals as goal

pub multiples-requires-clause-few_rows : goal.multiples-requires-clause-few_rows
multiples-requires-clause-few_rows c =
    let same = ap length (c.as_slice.ensures.value ∙ c.in_ok-rows.ensures) ∙ length-map c.args.graph.now.rows shown_row in
    subst (λ n. n < 2 ^ 30) (sym same) c.requires.few_rows

pub multiples-requires-clause-below : goal.multiples-requires-clause-below
multiples-requires-clause-below c =
    let g = c.args.graph.now in
    let graph = c.made.ensures.graph in
    let below = rows_made g graph.classes (λ r there. c.rows_name_present_classes.ensures.operands g r graph there) (λ k has. c.rows_name_present_classes.ensures.present g k graph has) in
    subst (λ n. All (λ (r : LaunchRow). (r.class < n) × All (λ k. k < n) r.operands) c.as_slice.result.now) (sym c.made.ensures.value)
    (subst (All (λ (r : LaunchRow). (r.class < length g.current) × All (λ k. k < length g.current) r.operands)) (sym (c.as_slice.ensures.value ∙ c.in_ok-rows.ensures)) below)

pub bounds-addresses-at : goal.bounds-addresses-at
bounds-addresses-at c =
    let instrs = c.requires.addresses.0 in
    let decode = c.requires.addresses.1 in
    let many = as_many_addresses c.args.graph.now instrs terms_at_entry c.args.addresses.now c.requires.addresses.2 in
    let count = sym (length-map c.args.words.now decoded) ∙ ap length decode ∙ length-map instrs Some in
    omega (arith, c.loop-at-test.true, many, count)

pub may_trap-requires-clause-address : goal.may_trap-requires-clause-address
may_trap-requires-clause-address c =
    let instrs = c.requires.addresses.0 in
    let at = c.loop-at.at in
    let there = read_code c.args.words.now instrs c.requires.addresses.1 at c.loop-at-test.true in (
      there.0,
      terms_after at instrs,
      there.2,
      address_there c.args.graph.now instrs terms_at_entry c.args.addresses.now c.requires.addresses.2 at there.0 there.1,
    )

pub returns-then-may_trap : goal.returns-then-may_trap
returns-then-may_trap c = λ instrs decode addresses.
    let g = c.args.graph.now in
    let at = c.loop-at.at in
    let there = read_code c.args.words.now instrs decode at c.loop-at-test.true in
    let tells = c.may_trap.ensures there.0 (terms_after at instrs) there.2 (address_there g instrs terms_at_entry c.args.addresses.now addresses at there.0 there.1) in
    let count = sym (length-map c.args.words.now decoded) ∙ ap length decode ∙ length-map instrs Some in
    let traps : c.may_trap.result ≡ true = search rules in (
      tells_trap g instrs at there.0 there.1 c.may_trap.result traps tells,
      omega (arith, c.loop-at-test.true, count),
      c.loop-at.invariant instrs decode addresses,
    )

pub loop-at-preserved : goal.loop-at-preserved
loop-at-preserved c = λ instrs decode addresses.
    let g = c.args.graph.now in
    let at = c.loop-at.at in
    let there = read_code c.args.words.now instrs decode at c.loop-at-test.true in
    let tells = c.may_trap.ensures there.0 (terms_after at instrs) there.2 (address_there g instrs terms_at_entry c.args.addresses.now addresses at there.0 there.1) in
    let aligned : c.may_trap.result ≡ false = search rules in
    one_more_aligned g instrs at (c.loop-at.invariant instrs decode addresses) (tells_aligned g instrs at there.0 there.1 c.may_trap.result aligned tells)
