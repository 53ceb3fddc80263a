use Rattle.std.proofs.Common.{◌≡◌, ◌<◌, ◌≤◌, List, length, sym, ◌∙◌, subst, arith}
use Rattle.std.proofs.lemmas.Bool.{false≢true}
use Rattle.std.proofs.lemmas.List.{get_or_read}
use Rattle.sat_core.specs.declared.tournament.Player.{Player}
use Rattle.sat_core.specs.Tournament.{no_player, player_at, IsBest, IsOver}
use Rattle.sat_core.proofs.Playing.{over-top, best-top}
use Rattle.sat_core.proofs.tournament.Tournament.best.Goals as goal

pub returns-then-is : goal.returns-then-is
returns-then-is c =
    let leaves = c.self.inside.leaves in
    let nodes = c.self.inside.nodes.items in
    let h = c.self.invariant in
    let few : 1 < length nodes = (let size = h.size in let some = c.if-self-eq0.false in omega arith) in
    let read : c.index-best.result.now ≡ player_at nodes 1 = get_or_read nodes 1 c.index-best.result.now few c.index-best.ensures no_player in
    subst IsOver c.self.view_is (over-top leaves nodes h (sym read ∙ c.is.ensures.0 c.if-is.true))

pub returns-else-is : goal.returns-else-is
returns-else-is c =
    let leaves = c.self.inside.leaves in
    let nodes = c.self.inside.nodes.items in
    let h = c.self.invariant in
    let some : 1 ≤ leaves = (let some = c.if-self-eq0.false in omega arith) in
    let few : 1 < length nodes = (let size = h.size in omega arith) in
    let read : c.index-best.result.now ≡ player_at nodes 1 = get_or_read nodes 1 c.index-best.result.now few c.index-best.ensures no_player in
    subst (λ (p : Player). IsBest c.args.self.now p.var) (sym read)
    (subst (λ (players : List Player). IsBest players (player_at nodes 1).var) c.self.view_is
    (best-top leaves nodes h some (λ none. false≢true (sym c.if-is.false ∙ c.is.ensures.1 (read ∙ none)))))
