use Rattle.std.proofs.Common.{◌≡◌, rules}
use Rattle.schedule_meaning.specs.Launches.{IsInWordOrder}
use Rattle.register_assign.specs.Listings.{items_of, wheres_of}
use Rattle.register_assign.proofs.OfListings.{few_items, the_listing, have_words, may_run, keeps_word}
use Rattle.register_assign.proofs.assigning.assign.Goals as goal

pub items_of-requires : goal.items_of-requires
items_of-requires c =
    let order : IsInWordOrder c.args.graph.now c.args.schedule.now.launches c.deref-2.result.now = search rules in
    few_items c.args.graph.now c.args.table.now c.args.allocation c.args.k c.args.schedule.now.launches
    c.deref-2.result.now c.requires.graph c.requires.table c.requires.fits c.requires.few order

pub returns-clause-listing : goal.returns-clause-listing
returns-clause-listing c =
    let order : IsInWordOrder c.args.graph.now c.args.schedule.now.launches c.deref-2.result.now = search rules in
    the_listing c.args.graph.now c.args.table.now c.args.allocation c.args.k c.args.schedule.now.launches
    c.deref-2.result.now c.requires.graph c.requires.table c.requires.fits c.requires.few order _ _ (search rules)
    (search rules)

pub returns-clause-words : goal.returns-clause-words
returns-clause-words c =
    let order : IsInWordOrder c.args.graph.now c.args.schedule.now.launches c.deref-2.result.now = search rules in
    let items : c.in_ok-items_of.field-0 ≡ items_of c.args.graph.now c.args.table.now c.args.allocation
    c.deref-2.result.now = search rules in
    let places : c.in_ok-wheres_of.field-0 ≡ wheres_of c.args.graph.now c.args.table.now c.args.allocation
    c.deref-2.result.now = search rules in
    have_words c.args.graph.now c.args.table.now c.args.allocation c.args.k c.args.schedule.now.launches
    c.deref-2.result.now c.requires.graph c.requires.table c.requires.fits c.requires.few order _ _ items places

pub returns-clause-keeps : goal.returns-clause-keeps
returns-clause-keeps c =
    let order : IsInWordOrder c.args.graph.now c.args.schedule.now.launches c.deref-2.result.now = search rules in
    let items : c.in_ok-items_of.field-0 ≡ items_of c.args.graph.now c.args.table.now c.args.allocation
    c.deref-2.result.now = search rules in
    let places : c.in_ok-wheres_of.field-0 ≡ wheres_of c.args.graph.now c.args.table.now c.args.allocation
    c.deref-2.result.now = search rules in
    let known = c.known_multiples_are_true.ensures in
    keeps_word c.args.graph.now c.args.table.now c.args.allocation c.args.k c.args.schedule.now.launches
    c.deref-2.result.now c.requires.graph c.requires.table c.requires.fits c.requires.few order _ _ items places
    (λ w value is. record {
      class = λ class n l. known.class c.args.graph.now w value class n c.requires.graph is l;
      sum = λ n x k e. known.sum c.args.graph.now w value n x k c.requires.graph is e;
    })

pub returns-clause-run : goal.returns-clause-run
returns-clause-run c =
    let order : IsInWordOrder c.args.graph.now c.args.schedule.now.launches c.deref-2.result.now = search rules in
    let items : c.in_ok-items_of.field-0 ≡ items_of c.args.graph.now c.args.table.now c.args.allocation
    c.deref-2.result.now = search rules in
    let places : c.in_ok-wheres_of.field-0 ≡ wheres_of c.args.graph.now c.args.table.now c.args.allocation
    c.deref-2.result.now = search rules in
    may_run c.args.graph.now c.args.table.now c.args.allocation c.args.k c.args.schedule.now.launches
    c.deref-2.result.now c.requires.graph c.requires.table c.requires.fits c.requires.few order _ _ items places
