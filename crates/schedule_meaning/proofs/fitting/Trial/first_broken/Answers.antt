use Rattle.std.proofs.Common.{rules, ◌≡◌, ◌≤◌, length, false, ◌∙◌, sym, arith}
use Rattle.std.proofs.lemmas.Bool.{false≢true}
use Rattle.schedule_meaning.specs.Broken.{whole}
use Rattle.schedule_meaning.specs.declared.schedules.To.TheVariants.{Pool}
use Rattle.schedule_meaning.proofs.Places.{breaks_at, kept_more}
use Rattle.schedule_meaning.proofs.fitting.Trial.first_broken.Goals as goal

pub returns-then-not-asks : goal.returns-then-not-asks
returns-then-not-asks c =
    let fails : c.asks.result ≡ false = search rules in
    breaks_at c.args.self.now.graph.now c.args.self.now.table.now c.args.self.now.allocation c.args.self.now.k
    c.args.self.now.list.now c.args.rule c.loop-at.at (record { cycle = 0; slot = 0; row = 0; to = Pool })
    c.loop-at-test.true c.loop-at.invariant (λ a. false≢true (sym fails ∙ c.asks.ensures.1 a))

pub loop-at-preserved : goal.loop-at-preserved
loop-at-preserved c =
    kept_more c.args.self.now.graph.now c.args.self.now.table.now c.args.self.now.allocation c.args.self.now.k
    c.args.self.now.list.now c.args.rule c.loop-at.at (record { cycle = 0; slot = 0; row = 0; to = Pool })
    c.loop-at-test.true c.loop-at.invariant (c.asks.ensures.0 (search rules))

pub returns-then-not-asks_of_all : goal.returns-then-not-asks_of_all
returns-then-not-asks_of_all c =
    let fails : c.asks_of_all.result ≡ false = search rules in
    let end : length c.args.self.now.list.now ≤ c.loop-at.at = search rules in
    whole (λ j m lt e. c.loop-at.invariant j m (omega (arith, lt, end)) e) (λ a. false≢true (sym fails ∙ c.asks_of_all.ensures.1 a))
