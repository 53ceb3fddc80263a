use Rattle.std.proofs.Common.{◌+◌, ◌≤◌, ◌<◌, ◌≡◌, List, Option, None, ℕ, ◌∙◌, get_or, length, subst, ap, sym, arith}
use Rattle.order_encoding.proofs.HeldPlaces.{no_held_cycle, no_late_class, starts-size, start-at, held-is, held-within, not-held}
use Rattle.graph_meaning.specs.WellFormed.{next_class}
use Rattle.order_encoding.specs.OrderSteps.{held_before}
use Rattle.order_encoding.proofs.held_memory.held_var.Goals as goal

pub returns-then-cycle-held : goal.returns-then-cycle-held
returns-then-cycle-held c = no_held_cycle c.args.facts.now c.args.held.now.cycles c.args.held.now.first c.args.class c.args.cycle c.if-cycle-held.true

pub returns-then-class-starts : goal.returns-then-class-starts
returns-then-class-starts c =
    let size = starts-size c.args.facts.now c.args.held.now.cycles c.args.held.now.classes.items c.args.held.now.starts.items c.requires.held in
    let same = ap (λ (xs : List (Option ℕ)). length xs) c.as_slice-starts.ensures.value in
    no_late_class c.args.facts.now c.args.held.now.cycles c.args.held.now.first c.args.class c.args.cycle (omega (arith, c.if-class-starts.true))

pub overflow_cast-result : goal.overflow_cast-result
overflow_cast-result c =
    let g = c.args.facts.now in
    let held = c.args.held.now in
    let class = c.args.class in
    let size = starts-size g held.cycles held.classes.items held.starts.items c.requires.held in
    let same = ap (λ (xs : List (Option ℕ)). length xs) c.as_slice-starts.ensures.value in
    let within : class < next_class g.rows = omega (arith, c.if-class-starts.false) in
    let at : get_or c.as_slice-starts.result.now class None ≡ held_before g (held.cycles + 1) class = ap (λ (xs : List (Option ℕ)). get_or xs class None) c.as_slice-starts.ensures.value ∙ start-at g held.cycles held.classes.items held.starts.items c.requires.held class None (subst (λ (xs : List (Option ℕ)). class < length xs) c.as_slice-starts.ensures.value c.if-class-starts.false) in
    let early : c.args.cycle ≤ held.cycles = c.if-cycle-held.false in
    let w = held-within g held.cycles held.first class c.args.cycle c.in-Some.start (sym c.in-Some.is ∙ at) within early in
    let few = c.requires.few in
    omega arith

pub overflow_add-result : goal.overflow_add-result
overflow_add-result c =
    let g = c.args.facts.now in
    let held = c.args.held.now in
    let class = c.args.class in
    let size = starts-size g held.cycles held.classes.items held.starts.items c.requires.held in
    let same = ap (λ (xs : List (Option ℕ)). length xs) c.as_slice-starts.ensures.value in
    let within : class < next_class g.rows = omega (arith, c.if-class-starts.false) in
    let at : get_or c.as_slice-starts.result.now class None ≡ held_before g (held.cycles + 1) class = ap (λ (xs : List (Option ℕ)). get_or xs class None) c.as_slice-starts.ensures.value ∙ start-at g held.cycles held.classes.items held.starts.items c.requires.held class None (subst (λ (xs : List (Option ℕ)). class < length xs) c.as_slice-starts.ensures.value c.if-class-starts.false) in
    let early : c.args.cycle ≤ held.cycles = c.if-cycle-held.false in
    let w = held-within g held.cycles held.first class c.args.cycle c.in-Some.start (sym c.in-Some.is ∙ at) within early in
    let few = c.requires.few in
    omega arith

pub overflow_add-result-in-Some : goal.overflow_add-result-in-Some
overflow_add-result-in-Some c =
    let g = c.args.facts.now in
    let held = c.args.held.now in
    let class = c.args.class in
    let size = starts-size g held.cycles held.classes.items held.starts.items c.requires.held in
    let same = ap (λ (xs : List (Option ℕ)). length xs) c.as_slice-starts.ensures.value in
    let within : class < next_class g.rows = omega (arith, c.if-class-starts.false) in
    let at : get_or c.as_slice-starts.result.now class None ≡ held_before g (held.cycles + 1) class = ap (λ (xs : List (Option ℕ)). get_or xs class None) c.as_slice-starts.ensures.value ∙ start-at g held.cycles held.classes.items held.starts.items c.requires.held class None (subst (λ (xs : List (Option ℕ)). class < length xs) c.as_slice-starts.ensures.value c.if-class-starts.false) in
    let early : c.args.cycle ≤ held.cycles = c.if-cycle-held.false in
    let w = held-within g held.cycles held.first class c.args.cycle c.in-Some.start (sym c.in-Some.is ∙ at) within early in
    let few = c.requires.few in
    omega arith

pub overflow_add-result-in-Some-2 : goal.overflow_add-result-in-Some-2
overflow_add-result-in-Some-2 c =
    let g = c.args.facts.now in
    let held = c.args.held.now in
    let class = c.args.class in
    let size = starts-size g held.cycles held.classes.items held.starts.items c.requires.held in
    let same = ap (λ (xs : List (Option ℕ)). length xs) c.as_slice-starts.ensures.value in
    let within : class < next_class g.rows = omega (arith, c.if-class-starts.false) in
    let at : get_or c.as_slice-starts.result.now class None ≡ held_before g (held.cycles + 1) class = ap (λ (xs : List (Option ℕ)). get_or xs class None) c.as_slice-starts.ensures.value ∙ start-at g held.cycles held.classes.items held.starts.items c.requires.held class None (subst (λ (xs : List (Option ℕ)). class < length xs) c.as_slice-starts.ensures.value c.if-class-starts.false) in
    let early : c.args.cycle ≤ held.cycles = c.if-cycle-held.false in
    let w = held-within g held.cycles held.first class c.args.cycle c.in-Some.start (sym c.in-Some.is ∙ at) within early in
    let few = c.requires.few in
    omega arith

pub returns-in-Some : goal.returns-in-Some
returns-in-Some c =
    let g = c.args.facts.now in
    let held = c.args.held.now in
    let class = c.args.class in
    let size = starts-size g held.cycles held.classes.items held.starts.items c.requires.held in
    let same = ap (λ (xs : List (Option ℕ)). length xs) c.as_slice-starts.ensures.value in
    let within : class < next_class g.rows = omega (arith, c.if-class-starts.false) in
    let at : get_or c.as_slice-starts.result.now class None ≡ held_before g (held.cycles + 1) class = ap (λ (xs : List (Option ℕ)). get_or xs class None) c.as_slice-starts.ensures.value ∙ start-at g held.cycles held.classes.items held.starts.items c.requires.held class None (subst (λ (xs : List (Option ℕ)). class < length xs) c.as_slice-starts.ensures.value c.if-class-starts.false) in
    let early : c.args.cycle ≤ held.cycles = c.if-cycle-held.false in
    held-is g held.cycles held.first class c.args.cycle c.in-Some.start (sym c.in-Some.is ∙ at) within early

pub returns-in-None : goal.returns-in-None
returns-in-None c =
    let g = c.args.facts.now in
    let held = c.args.held.now in
    let class = c.args.class in
    let size = starts-size g held.cycles held.classes.items held.starts.items c.requires.held in
    let same = ap (λ (xs : List (Option ℕ)). length xs) c.as_slice-starts.ensures.value in
    let within : class < next_class g.rows = omega (arith, c.if-class-starts.false) in
    let at : get_or c.as_slice-starts.result.now class None ≡ held_before g (held.cycles + 1) class = ap (λ (xs : List (Option ℕ)). get_or xs class None) c.as_slice-starts.ensures.value ∙ start-at g held.cycles held.classes.items held.starts.items c.requires.held class None (subst (λ (xs : List (Option ℕ)). class < length xs) c.as_slice-starts.ensures.value c.if-class-starts.false) in
    let early : c.args.cycle ≤ held.cycles = c.if-cycle-held.false in
    not-held g held.cycles held.first class c.args.cycle (sym c.in-None.is ∙ at)
