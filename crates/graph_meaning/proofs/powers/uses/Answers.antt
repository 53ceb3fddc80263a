use Rattle.std.proofs.Common.{List, ℕ, sym, subst}
use Rattle.std.specs.Prelude.{Contains}
use Rattle.graph_meaning.proofs.Gathered.{more_uses}
use Rattle.graph_meaning.proofs.powers.uses.Goals as goal

pub loop-at-preserved : goal.loop-at-preserved
loop-at-preserved c =
    let e = c.in_ok-note_uses.ensures in
    more_uses c.args.rows.now c.args.classes c.loop-at.at c.loop-at.uses.items c.note_uses.new.uses.items
    c.index-rows-at.result
    c.loop-at-test.true e.size e.within e.still (λ class m. e.has class
    (subst (λ (xs : List ℕ). Contains xs class) (sym c.as_slice.ensures) m))
    c.loop-at.invariant
