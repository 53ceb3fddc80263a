use Rattle.std.proofs.Common.{◌≡◌, ◌<◌, ◌+◌, ◌++◌, length, map, sym, ap, ◌∙◌, subst, arith}
use Rattle.word_terms.specs.View.{tree_of}
use Rattle.pattern_match.specs.Bindings.{AreMatches, IsSubstitutionByClass, Extended, CanExtend, substitution_match}
use Rattle.pattern_match.proofs.Substitutions.{walk_can, classes_none, classes_skip, classes_more, classes_all}
use Rattle.pattern_match.proofs.searching.among_classes.Goals as goal
use Rattle.pattern_match.proofs.searching.among_classes.Goals.{then-now-class+in_ok-found+in_ok-add_matches, else-now-class}

pub loop-class-init : goal.loop-class-init
loop-class-init c =
    let g = c.args.graph.now in
    let p = tree_of c.args.pattern.now in
    subst (λ xs. AreMatches g p (IsSubstitutionByClass g p c.args.count 0) xs) (sym c.new-out.ensures.items) (classes_none g c.requires.graph p c.args.count)

pub extend-requires-clause-can : goal.extend-requires-clause-can
extend-requires-clause-can c =
    let p = tree_of c.args.pattern.now in
    let s = c.in_ok-start.ensures in
    subst (CanExtend p) (sym (c.deref.ensures.value ∙ s.2)) (walk_can p c.args.count s.0 c.requires.below s.1)

pub loop-class-preserved : goal.loop-class-preserved
loop-class-preserved c =
    let g = c.args.graph.now in
    let p = tree_of c.args.pattern.now in
    let n = c.args.count in
    let class = c.loop-class.class in
    let out = c.loop-class.out.items in
    let is = c.requires.graph in
    let made : class < length g.current = omega (arith, c.loop-class-test.true, c.made-class-end.ensures.value) in
    elim c.if-now-class.branch [
      | then-now-class+in_ok-found+in_ok-add_matches w ↦
          (let s = c.in_ok-start.ensures in
          let found = subst (λ bs. Extended g p class bs w.in_ok-found.found.items) (w.deref.ensures.value ∙ s.2) w.in_ok-found.ensures in
          let more = classes_more g is p n class out c.loop-class.invariant s.0 w.in_ok-found.found.items made (sym c.now.ensures.present ∙ w.if-now-class.true) s.1 c.requires.all found in
          subst (λ o. AreMatches g p (IsSubstitutionByClass g p n (class + 1)) o.items) (sym w.out-is)
          (subst (AreMatches g p (IsSubstitutionByClass g p n (class + 1))) (sym (w.in_ok-add_matches.ensures ∙ ap (λ bs. out ++ map (substitution_match class) bs) w.deref-then-now-class.ensures.value)) more))
      | else-now-class w ↦
          (let skip = classes_skip g is p n class out c.loop-class.invariant (λ e. w.if-now-class.false (c.now.ensures.present ∙ e)) in
          subst (λ o. AreMatches g p (IsSubstitutionByClass g p n (class + 1)) o.items) (sym w.out-is) skip)
    ]

pub returns : goal.returns
returns c =
    let g = c.args.graph.now in
    let p = tree_of c.args.pattern.now in
    let n = c.args.count in
    let out = c.loop-class.out.items in
    let end : c.loop-class.class ≡ length g.current = omega (arith, c.loop-class-test.false, c.loop-class.auto.class-end, c.made-class-end.ensures.value) in
    record { exact = classes_all g c.requires.graph p n out (subst (λ k. AreMatches g p (IsSubstitutionByClass g p n k) out) end c.loop-class.invariant) }
