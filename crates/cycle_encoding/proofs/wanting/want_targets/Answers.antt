use Rattle.std.proofs.Common.{◌<◌, ◌≤◌, ◌∙◌, ap, subst, sym, List, length, get_or, ◌∷◌, []}
use Rattle.std.specs.Prelude.{Contains, IsTrue}
use Rattle.std.proofs.lemmas.List.{take_all}
use Rattle.graph_meaning.specs.declared.graphs.LaunchGraph.{LaunchGraph}
use Rattle.graph_meaning.specs.declared.graphs.SetClass.{SetClass}
use Rattle.cycle_encoding.specs.Wanting.{is_wanted_target, AreAllMarked}
use Rattle.cycle_encoding.proofs.WantSteps.{more-targets}
use Rattle.cycle_encoding.proofs.wanting.want_targets.Goals as goal

pub want_target-requires-clause-set : goal.want_target-requires-clause-set
want_target-requires-clause-set c =
    let i = c.loop-set.set-index in
    let e = c.as_slice-set-items.ensures ∙ ap (λ (g : LaunchGraph). g.sets) c.graph.ensures in
    (i, subst (λ (xs : List SetClass). i < length xs) e c.loop-set-test.true, sym (c.set-item.is ∙ ap (λ (xs : List SetClass). get_or xs i c.set-item.result) e))

pub loop-set-preserved : goal.loop-set-preserved
loop-set-preserved c =
    let k = c.loop-set.set-index in
    let i = c.loop-set.invariant in
    let n = c.in_ok-want_target.ensures in
    let e = c.as_slice-set-items.ensures ∙ ap (λ (g : LaunchGraph). g.sets) c.graph.ensures in
    record {
      size = n.size ∙ i.size;
      marks = n.marks;
      has = more-targets c.args.facts.now c.loop-set.wants.marks.items c.want_target.new.wants.marks.items k c.set-item.result c.set-item.result (subst (λ (xs : List SetClass). k < length xs) e c.loop-set-test.true) (c.set-item.is ∙ ap (λ (xs : List SetClass). get_or xs k c.set-item.result) e) n.still n.size i.has n.has;
    }

pub returns-clause-has : goal.returns-clause-has
returns-clause-has c =
    let k = c.loop-set.set-index in
    let e = c.as_slice-set-items.ensures ∙ ap (λ (g : LaunchGraph). g.sets) c.graph.ensures in
    subst (λ (sets : List SetClass). (s : SetClass) → Contains sets s → IsTrue (is_wanted_target c.args.facts.now s) → AreAllMarked c.loop-set.wants.marks.items (s.class ∷ []))
    (take_all k c.args.facts.now.sets (subst (λ (xs : List SetClass). length xs ≤ k) e c.loop-set-test.false)) c.loop-set.invariant.has
