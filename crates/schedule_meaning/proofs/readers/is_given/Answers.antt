use Rattle.std.proofs.Common.{rules, ◌∙◌, sym}
use Rattle.std.specs.Prelude.{IsTrue, ◌&&◌}
use Rattle.std.proofs.lemmas.Bool.{false≢true}
use Rattle.schedule_meaning.specs.Launches.{gives}
use Rattle.schedule_meaning.specs.Readers.{passes}
use Rattle.schedule_meaning.specs.declared.schedules.Launch.{Launch}
use Rattle.schedule_meaning.specs.declared.schedules.To.TheVariants.{Pool}
use Rattle.schedule_meaning.proofs.Loops.{all_more, none_passes}
use Rattle.schedule_meaning.proofs.readers.is_given.Goals as goal

pub loop-launch-preserved : goal.loop-launch-preserved
loop-launch-preserved c k d =
    let P : Launch → Type 0 = λ m. ¬ IsTrue (gives c.args.graph.now c.args.class m && passes c.args.graph.now c.args.table.now c.args.reader m) in
    all_more P c.args.list.now c.loop-launch.launch-index (record { cycle = 0; slot = 0; row = 0; to = Pool }) c.loop-launch-test.true c.loop-launch.invariant (λ t. false≢true (sym c.if-may_take.false ∙ c.may_take.ensures ∙ t)) k d

pub returns : goal.returns
returns c = none_passes (λ m. IsTrue (gives c.args.graph.now c.args.class m && passes c.args.graph.now c.args.table.now c.args.reader m)) c.args.list.now c.loop-launch.launch-index (search rules) c.loop-launch.invariant
