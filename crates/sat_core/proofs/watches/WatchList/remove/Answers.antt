use Rattle.std.proofs.Common.{ℕ, ◌-◌, ◌<◌, List, length, get_or, ap, sym, ◌∙◌, subst, arith}
use Rattle.sat_core.specs.declared.watches.Watcher.{Watcher}
use Rattle.sat_core.specs.Watches.{IsRemoved}
use Rattle.sat_core.proofs.Watching.{removed}
use Rattle.sat_core.proofs.watches.WatchList.remove.Goals as goal

pub returns : goal.returns
returns c =
    let xs = c.self.inside.watchers.items in
    let ys = c.swap_remove-watcher.new.self.items in
    let p = c.args.place in
    let e = c.swap_remove-watcher.ensures in
    let old = c.self.inside.watchers.ok.0 in
    let new = c.swap_remove-watcher.new.self.ok.0 in
    let fewer = e.len in
    let few : p < length xs = subst (λ (zs : List Watcher). p < length zs) (sym c.self.view_is) c.requires in
    subst (λ (zs : List Watcher). IsRemoved zs p ys) c.self.view_is
    (removed xs ys p few (omega arith)
    (λ d lt. e.by_index.0 d (omega arith) ∙ ap (λ (n : ℕ). get_or xs (n - 1) d) old)
    (λ k d ne lt. e.by_index.1 k d ne (omega arith)))
