use Rattle.std.proofs.Common.{ℕ, ◌<◌, List, length, ap, sym, subst}
use Rattle.std.proofs.lemmas.List.{length-map}
use Rattle.sat_core.specs.Copies.{Copied, Copies, copied_of}
use Rattle.sat_core.proofs.Copying.{copied-exchanged}
use Rattle.sat_core.proofs.watches.Table.exchange.Goals as goal

pub returns : goal.returns
returns c =
    let lits = c.self.inside.literals.items in
    let entries = c.self.inside.entries.items in
    let is = ap (λ (x : Copies). x.items) c.self.view_is in
    let few = subst (λ (ys : List Copied). c.args.place < length ys) (sym is) c.requires in
    copied-exchanged lits entries c.args.self.now.items c.args.place c.index_mut.result.now c.args.pair is
    (subst (λ (n : ℕ). c.args.place < n) (length-map entries (copied_of lits)) few) c.index_mut.ensures.value
