use Rattle.std.proofs.Common.{rules, ◌≡◌, ◌∙◌, sym}
use Rattle.std.specs.Prelude.{IsTrue}
use Rattle.std.proofs.lemmas.Bool.{false≢true}
use Rattle.schedule_meaning.specs.Launches.{launches, is_store}
use Rattle.schedule_meaning.specs.declared.schedules.Launch.{Launch}
use Rattle.schedule_meaning.specs.declared.schedules.To.TheVariants.{Pool}
use Rattle.schedule_meaning.proofs.Loops.{all_more, all_pass}
use Rattle.schedule_meaning.proofs.destinations.has_no_store_beside.Goals as goal

pub loop-other-preserved : goal.loop-other-preserved
loop-other-preserved c k d =
    let P : Launch → Type 0 = λ m. IsTrue (launches c.args.graph.now is_store m) → ¬ (m.cycle ≡ c.args.launch.cycle) in
    all_more P c.args.list.now c.loop-other.other-index
    (record { cycle = 0; slot = 0; row = 0; to = Pool }) c.loop-other-test.true c.loop-other.invariant
    (λ store same. false≢true (sym c.if-stores_in.false ∙ c.stores_in.ensures.1 (store, same))) k d

pub returns : goal.returns
returns c =
    all_pass (λ m. IsTrue (launches c.args.graph.now is_store m) → ¬ (m.cycle ≡ c.args.launch.cycle)) c.args.list.now
    c.loop-other.other-index (search rules) c.loop-other.invariant
