use Rattle.std.proofs.Common.{ℕ, List, ◌≤◌, ◌<◌, ◌∙◌, sym, ap, subst, arith}
use Rattle.std.specs.Prelude.{length, slice_index}
use Rattle.cycle_encoding.specs.CycleFormula.{wants_in}
use Rattle.cycle_encoding.proofs.Before.{none-class, none-late-class, none-late-cluster, none-cluster, none-cycle, var-within, var-is}
use Rattle.cycle_encoding.proofs.seen.seen_var.Goals as goal

pub returns-then-not-is_shown : goal.returns-then-not-is_shown
returns-then-not-is_shown c = none-class c.args.frame.now.facts.now (wants_in c.args.frame.now.scope.now) c.args.frame.now.table.now c.args.vars.now.cycles c.args.vars.now.first c.args.vars.now.seen.items c.args.vars.now.starts.items c.requires.vars c.args.class c.args.cluster c.args.cycle (sym c.is_shown.ensures ∙ c.if-not-is_shown.true)

pub returns-then-class-starts : goal.returns-then-class-starts
returns-then-class-starts c = none-late-class c.args.frame.now.facts.now (wants_in c.args.frame.now.scope.now) c.args.frame.now.table.now c.args.vars.now.cycles c.args.vars.now.first c.args.vars.now.seen.items c.args.vars.now.starts.items c.requires.vars c.args.class c.args.cluster c.args.cycle (subst (λ (xs : List ℕ). length xs ≤ c.args.class) c.as_slice-starts.ensures.value c.if-class-starts.true)

pub returns-then-cluster-ge4 : goal.returns-then-cluster-ge4
returns-then-cluster-ge4 c = none-late-cluster c.args.frame.now.facts.now (wants_in c.args.frame.now.scope.now) c.args.frame.now.table.now c.args.vars.now.cycles c.args.vars.now.first c.args.vars.now.seen.items c.args.vars.now.starts.items c.requires.vars c.args.class c.args.cluster c.args.cycle c.if-cluster-ge4.true

pub returns-then-not-has_cluster : goal.returns-then-not-has_cluster
returns-then-not-has_cluster c = none-cluster c.args.frame.now.facts.now (wants_in c.args.frame.now.scope.now) c.args.frame.now.table.now c.args.vars.now.cycles c.args.vars.now.first c.args.vars.now.seen.items c.args.vars.now.starts.items c.requires.vars c.args.class c.args.cluster c.args.cycle (sym c.has_cluster.ensures ∙ c.if-not-has_cluster.true)

pub returns-then-cycle-vars : goal.returns-then-cycle-vars
returns-then-cycle-vars c = none-cycle c.args.frame.now.facts.now (wants_in c.args.frame.now.scope.now) c.args.frame.now.table.now c.args.vars.now.cycles c.args.vars.now.first c.args.vars.now.seen.items c.args.vars.now.starts.items c.requires.vars c.args.class c.args.cluster c.args.cycle c.if-cycle-vars.true

pub overflow_add-place : goal.overflow_add-place
overflow_add-place c = (let within = var-within c.args.frame.now.facts.now (wants_in c.args.frame.now.scope.now) c.args.frame.now.table.now c.args.vars.now.cycles c.args.vars.now.first c.args.vars.now.seen.items c.args.vars.now.starts.items c.requires.vars c.args.class c.args.cluster c.args.cycle (subst (λ (xs : List ℕ). c.args.class < length xs) c.as_slice-starts.ensures.value (omega (arith, c.if-class-starts.false))) (sym c.is_shown.ensures ∙ c.if-not-is_shown.false) (omega (arith, c.if-cluster-ge4.false)) (sym c.has_cluster.ensures ∙ c.if-not-has_cluster.false) (omega (arith, c.if-cycle-vars.false)) (slice_index c.as_slice-starts.result.now c.args.class) c.seen_in_clusters.result 0 (ap (λ (xs : List ℕ). slice_index xs c.args.class) c.as_slice-starts.ensures.value) c.seen_in_clusters.ensures in let few = c.requires.few in omega arith)

pub overflow_add-place-2 : goal.overflow_add-place-2
overflow_add-place-2 c = (let within = var-within c.args.frame.now.facts.now (wants_in c.args.frame.now.scope.now) c.args.frame.now.table.now c.args.vars.now.cycles c.args.vars.now.first c.args.vars.now.seen.items c.args.vars.now.starts.items c.requires.vars c.args.class c.args.cluster c.args.cycle (subst (λ (xs : List ℕ). c.args.class < length xs) c.as_slice-starts.ensures.value (omega (arith, c.if-class-starts.false))) (sym c.is_shown.ensures ∙ c.if-not-is_shown.false) (omega (arith, c.if-cluster-ge4.false)) (sym c.has_cluster.ensures ∙ c.if-not-has_cluster.false) (omega (arith, c.if-cycle-vars.false)) (slice_index c.as_slice-starts.result.now c.args.class) c.seen_in_clusters.result 0 (ap (λ (xs : List ℕ). slice_index xs c.args.class) c.as_slice-starts.ensures.value) c.seen_in_clusters.ensures in let few = c.requires.few in omega arith)

pub overflow_cast-result : goal.overflow_cast-result
overflow_cast-result c = (let within = var-within c.args.frame.now.facts.now (wants_in c.args.frame.now.scope.now) c.args.frame.now.table.now c.args.vars.now.cycles c.args.vars.now.first c.args.vars.now.seen.items c.args.vars.now.starts.items c.requires.vars c.args.class c.args.cluster c.args.cycle (subst (λ (xs : List ℕ). c.args.class < length xs) c.as_slice-starts.ensures.value (omega (arith, c.if-class-starts.false))) (sym c.is_shown.ensures ∙ c.if-not-is_shown.false) (omega (arith, c.if-cluster-ge4.false)) (sym c.has_cluster.ensures ∙ c.if-not-has_cluster.false) (omega (arith, c.if-cycle-vars.false)) (slice_index c.as_slice-starts.result.now c.args.class) c.seen_in_clusters.result 0 (ap (λ (xs : List ℕ). slice_index xs c.args.class) c.as_slice-starts.ensures.value) c.seen_in_clusters.ensures in let few = c.requires.few in omega arith)

pub overflow_add-result : goal.overflow_add-result
overflow_add-result c = (let within = var-within c.args.frame.now.facts.now (wants_in c.args.frame.now.scope.now) c.args.frame.now.table.now c.args.vars.now.cycles c.args.vars.now.first c.args.vars.now.seen.items c.args.vars.now.starts.items c.requires.vars c.args.class c.args.cluster c.args.cycle (subst (λ (xs : List ℕ). c.args.class < length xs) c.as_slice-starts.ensures.value (omega (arith, c.if-class-starts.false))) (sym c.is_shown.ensures ∙ c.if-not-is_shown.false) (omega (arith, c.if-cluster-ge4.false)) (sym c.has_cluster.ensures ∙ c.if-not-has_cluster.false) (omega (arith, c.if-cycle-vars.false)) (slice_index c.as_slice-starts.result.now c.args.class) c.seen_in_clusters.result 0 (ap (λ (xs : List ℕ). slice_index xs c.args.class) c.as_slice-starts.ensures.value) c.seen_in_clusters.ensures in let few = c.requires.few in omega arith)

pub overflow_add-result-2 : goal.overflow_add-result-2
overflow_add-result-2 c = (let within = var-within c.args.frame.now.facts.now (wants_in c.args.frame.now.scope.now) c.args.frame.now.table.now c.args.vars.now.cycles c.args.vars.now.first c.args.vars.now.seen.items c.args.vars.now.starts.items c.requires.vars c.args.class c.args.cluster c.args.cycle (subst (λ (xs : List ℕ). c.args.class < length xs) c.as_slice-starts.ensures.value (omega (arith, c.if-class-starts.false))) (sym c.is_shown.ensures ∙ c.if-not-is_shown.false) (omega (arith, c.if-cluster-ge4.false)) (sym c.has_cluster.ensures ∙ c.if-not-has_cluster.false) (omega (arith, c.if-cycle-vars.false)) (slice_index c.as_slice-starts.result.now c.args.class) c.seen_in_clusters.result 0 (ap (λ (xs : List ℕ). slice_index xs c.args.class) c.as_slice-starts.ensures.value) c.seen_in_clusters.ensures in let few = c.requires.few in omega arith)

pub returns : goal.returns
returns c = var-is c.args.frame.now.facts.now (wants_in c.args.frame.now.scope.now) c.args.frame.now.table.now c.args.vars.now.cycles c.args.vars.now.first c.args.vars.now.seen.items c.args.vars.now.starts.items c.requires.vars c.args.class c.args.cluster c.args.cycle (subst (λ (xs : List ℕ). c.args.class < length xs) c.as_slice-starts.ensures.value (omega (arith, c.if-class-starts.false))) (sym c.is_shown.ensures ∙ c.if-not-is_shown.false) (omega (arith, c.if-cluster-ge4.false)) (sym c.has_cluster.ensures ∙ c.if-not-has_cluster.false) (omega (arith, c.if-cycle-vars.false)) (slice_index c.as_slice-starts.result.now c.args.class) c.seen_in_clusters.result 0 (ap (λ (xs : List ℕ). slice_index xs c.args.class) c.as_slice-starts.ensures.value) c.seen_in_clusters.ensures
