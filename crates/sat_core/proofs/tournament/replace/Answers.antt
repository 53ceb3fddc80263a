use Rattle.std.proofs.Common.{◌+◌, ◌<◌, ◌≤◌, ◌/◌, refl, ◌∙◌, arith}
use Rattle.std.proofs.lemmas.List.{length-set, drop-set-lt, drop-set-add}
use Rattle.sat_core.proofs.Playing.{play-leaf, play-on, play-stop}
use Rattle.sat_core.proofs.tournament.replace.Goals as goal

pub loop-node-init : goal.loop-node-init
loop-node-init c =
    let leaves = c.args.leaves in
    let place = c.args.place in
    let xs = c.args.nodes.now in
    let player = c.args.player in
    let size = c.requires.size in
    let few = c.requires.place in
    record {
      size = length-set xs (leaves + place) player ∙ size;
      above = omega arith;
      within = omega arith;
      played = play-leaf leaves (leaves + place) ((leaves + place) / 2) xs player (omega arith) refl c.requires.played;
      leaves = drop-set-add leaves xs place player;
    }

pub returns-then-is-clause-played : goal.returns-then-is-clause-played
returns-then-is-clause-played c =
    let xs = c.loop-node.nodes in
    play-stop c.args.leaves (c.loop-node.node / 2) xs c.better-winner.result (c.is.ensures.0 c.if-is.true) c.better-winner.ensures c.loop-node.invariant.played

pub loop-node-preserved : goal.loop-node-preserved
loop-node-preserved c =
    let xs = c.loop-node.nodes in
    let n = c.loop-node.node / 2 in
    let h = c.loop-node.invariant in
    let more = c.loop-node-test.true in
    let size = h.size in
    let within = h.within in
    let w = c.better-winner.result in
    let below : n < c.args.leaves = omega arith in
    let low : 1 ≤ n = omega arith in
    record {
      size = length-set xs n w ∙ size;
      above = low;
      within = omega arith;
      played = play-on c.args.leaves n (n / 2) xs w low below size refl c.better-winner.ensures h.played;
      leaves = drop-set-lt c.args.leaves xs n w below ∙ h.leaves;
    }
