use Rattle.std.proofs.Common.{◌<◌, ◌^◌, arith, subst, sym}
use Rattle.std.specs.Prelude.{All}
use Rattle.register_assign.specs.Outcomes.{AreWordsOf}
use Rattle.denali_run.specs.Trials.{IsTrial}
use Rattle.denali_run.proofs.RisingCycles.{found_right, large_right, least_after, missing_right, spent_right}
use Rattle.denali_run.proofs.searching.search.Goals as goal

pub assign-requires-clause-fits : goal.assign-requires-clause-fits
assign-requires-clause-fits c =
    let by = c.in_ok-reached.ensures.reached in
    (subst (IsTrial by.clauses_for c.args.matched.graph c.args.table.now c.args.settings.now.allocation c.in_ok-reached.reached.k
    c.args.settings.now.conflicts)
    c.in-Fitting.is by.holds.trial).1

pub assign-requires-clause-few : goal.assign-requires-clause-few
assign-requires-clause-few c =
    (let low = c.in_ok-reached.ensures.reached.holds.low in
    let most = c.requires.settings.cycles in
    omega (arith, low, most))

pub returns-in_ok-words-in-Fitting : goal.returns-in_ok-words-in-Fitting
returns-in_ok-words-in-Fitting c = λ input goal is matched.
    let by = c.in_ok-reached.ensures.reached in
    found_right input goal c.args.settings.now c.args.table.now
    (record {
      matched = c.args.matched;
      k = c.in_ok-reached.reached.k;
      schedule = c.in-Fitting.schedule;
      listing = c.in_ok-listing-in-Fitting.listing;
      words = c.from.result;
      refutation = c.in_ok-reached.reached.below;
    })
    by.clauses_for is matched by.holds.low by.formulas
    (subst (IsTrial by.clauses_for c.args.matched.graph c.args.table.now c.args.settings.now.allocation c.in_ok-reached.reached.k
    c.args.settings.now.conflicts)
    c.in-Fitting.is by.holds.trial)
    c.in_ok-listing-in-Fitting.ensures.listing
    (subst (AreWordsOf c.in_ok-listing-in-Fitting.listing.items) (sym c.from.ensures)
    (subst (λ items. AreWordsOf items c.in_ok-words-in-Fitting.words.items) c.as_slice.ensures c.in_ok-words-in-Fitting.ensures.decode))
    (subst (All (λ word. word < 2 ^ 32)) (sym c.from.ensures) c.in_ok-words-in-Fitting.ensures.low)
    c.in_ok-listing-in-Fitting.ensures.keeps by.holds.least

pub returns-in-Refuted : goal.returns-in-Refuted
returns-in-Refuted c = λ input goal is matched.
    let by = c.in_ok-reached.ensures.reached in
    let k = c.in_ok-reached.reached.k in
    let lines = c.in-Refuted.refutation in
    missing_right input goal c.args.settings.now c.args.table.now
    (record { matched = c.args.matched; k = k; refutation = lines }) by.clauses_for is matched
    (by.holds.last lines c.in-Refuted.is) by.formulas
    (least_after by.clauses_for c.args.matched.graph c.args.table.now c.args.settings.now.allocation
    c.args.settings.now.conflicts k
    c.in_ok-reached.reached.below lines by.holds.least
    (subst (IsTrial by.clauses_for c.args.matched.graph c.args.table.now c.args.settings.now.allocation k c.args.settings.now.conflicts) c.in-Refuted.is
    by.holds.trial))

pub returns-in-Spent : goal.returns-in-Spent
returns-in-Spent c = λ input goal is matched.
    let by = c.in_ok-reached.ensures.reached in
    spent_right input goal c.args.settings.now c.args.table.now
    (record {
      matched = c.args.matched;
      k = c.in_ok-reached.reached.k;
      refutation = c.in_ok-reached.reached.below;
      lemmas = c.in-Spent.lemmas;
    })
    by.clauses_for is matched by.holds.low by.formulas
    (subst (IsTrial by.clauses_for c.args.matched.graph c.args.table.now c.args.settings.now.allocation c.in_ok-reached.reached.k
    c.args.settings.now.conflicts)
    c.in-Spent.is by.holds.trial)
    by.holds.least

pub returns-in-Large : goal.returns-in-Large
returns-in-Large c = λ input goal is matched.
    let by = c.in_ok-reached.ensures.reached in
    large_right input goal c.args.settings.now c.args.table.now
    (record {
      matched = c.args.matched;
      k = c.in_ok-reached.reached.k;
      refutation = c.in_ok-reached.reached.below;
      vars = c.in-Large.vars;
      clauses = c.in-Large.clauses;
    })
    by.clauses_for is matched by.holds.low by.formulas
    (subst (IsTrial by.clauses_for c.args.matched.graph c.args.table.now c.args.settings.now.allocation c.in_ok-reached.reached.k
    c.args.settings.now.conflicts)
    c.in-Large.is by.holds.trial)
    by.holds.least
