use Rattle.std.proofs.Common.{◌<◌, ◌≡◌, List, Option, None, ℕ, ◌∙◌, get_or, length, subst, ap, sym, arith}
use Rattle.graph_meaning.specs.WellFormed.{next_class}
use Rattle.cycle_encoding.specs.Shapes.{numbered}
use Rattle.order_encoding.specs.LiveVariables.{is_pooled}
use Rattle.order_encoding.proofs.NeedPlaces.{no_need_cycle, no_late_need, need-is, need-within, not-needed, start_of}
use Rattle.order_encoding.proofs.NeedTables.{table-at, table-size}
use Rattle.order_encoding.proofs.needs.need_var.Goals as goal

pub returns-then-cycle-live : goal.returns-then-cycle-live
returns-then-cycle-live c = no_need_cycle (is_pooled c.args.live.now.facts.now (numbered 0 c.args.live.now.launches.now)) c.args.live.now.needs.cycles (next_class c.args.live.now.facts.now.rows) c.args.live.now.needs.first c.args.class c.args.cycle c.if-cycle-live.true

pub returns-then-class-starts : goal.returns-then-class-starts
returns-then-class-starts c =
    let g = c.args.live.now.facts.now in
    let needs = c.args.live.now.needs in
    let ls = c.args.live.now.launches.now in
    let size = table-size g needs.cycles ls needs.classes.items needs.starts.items c.requires.needs in
    let same = ap (λ (xs : List (Option ℕ)). length xs) c.as_slice-starts.ensures.value in
    no_late_need (is_pooled g (numbered 0 ls)) needs.cycles (next_class g.rows) needs.first c.args.class c.args.cycle (omega (arith, c.if-class-starts.true))

pub overflow_cast-result : goal.overflow_cast-result
overflow_cast-result c =
    let g = c.args.live.now.facts.now in
    let needs = c.args.live.now.needs in
    let ls = c.args.live.now.launches.now in
    let P = is_pooled g (numbered 0 ls) in
    let n = next_class g.rows in
    let class = c.args.class in
    let size = table-size g needs.cycles ls needs.classes.items needs.starts.items c.requires.needs in
    let same = ap (λ (xs : List (Option ℕ)). length xs) c.as_slice-starts.ensures.value in
    let within : class < n = omega (arith, c.if-class-starts.false) in
    let at : get_or c.as_slice-starts.result.now class None ≡ start_of P needs.cycles class = ap (λ (xs : List (Option ℕ)). get_or xs class None) c.as_slice-starts.ensures.value ∙ table-at g needs.cycles ls needs.classes.items needs.starts.items c.requires.needs class None (subst (λ (xs : List (Option ℕ)). class < length xs) c.as_slice-starts.ensures.value c.if-class-starts.false) in
    let early : c.args.cycle < needs.cycles = c.if-cycle-live.false in
    let w = need-within P needs.cycles n needs.first class c.args.cycle c.in-Some.start (sym c.in-Some.is ∙ at) within early in
    let few = c.requires.few in
    omega arith

pub overflow_add-result : goal.overflow_add-result
overflow_add-result c =
    let g = c.args.live.now.facts.now in
    let needs = c.args.live.now.needs in
    let ls = c.args.live.now.launches.now in
    let P = is_pooled g (numbered 0 ls) in
    let n = next_class g.rows in
    let class = c.args.class in
    let size = table-size g needs.cycles ls needs.classes.items needs.starts.items c.requires.needs in
    let same = ap (λ (xs : List (Option ℕ)). length xs) c.as_slice-starts.ensures.value in
    let within : class < n = omega (arith, c.if-class-starts.false) in
    let at : get_or c.as_slice-starts.result.now class None ≡ start_of P needs.cycles class = ap (λ (xs : List (Option ℕ)). get_or xs class None) c.as_slice-starts.ensures.value ∙ table-at g needs.cycles ls needs.classes.items needs.starts.items c.requires.needs class None (subst (λ (xs : List (Option ℕ)). class < length xs) c.as_slice-starts.ensures.value c.if-class-starts.false) in
    let early : c.args.cycle < needs.cycles = c.if-cycle-live.false in
    let w = need-within P needs.cycles n needs.first class c.args.cycle c.in-Some.start (sym c.in-Some.is ∙ at) within early in
    let few = c.requires.few in
    omega arith

pub overflow_add-result-in-Some : goal.overflow_add-result-in-Some
overflow_add-result-in-Some c =
    let g = c.args.live.now.facts.now in
    let needs = c.args.live.now.needs in
    let ls = c.args.live.now.launches.now in
    let P = is_pooled g (numbered 0 ls) in
    let n = next_class g.rows in
    let class = c.args.class in
    let size = table-size g needs.cycles ls needs.classes.items needs.starts.items c.requires.needs in
    let same = ap (λ (xs : List (Option ℕ)). length xs) c.as_slice-starts.ensures.value in
    let within : class < n = omega (arith, c.if-class-starts.false) in
    let at : get_or c.as_slice-starts.result.now class None ≡ start_of P needs.cycles class = ap (λ (xs : List (Option ℕ)). get_or xs class None) c.as_slice-starts.ensures.value ∙ table-at g needs.cycles ls needs.classes.items needs.starts.items c.requires.needs class None (subst (λ (xs : List (Option ℕ)). class < length xs) c.as_slice-starts.ensures.value c.if-class-starts.false) in
    let early : c.args.cycle < needs.cycles = c.if-cycle-live.false in
    let w = need-within P needs.cycles n needs.first class c.args.cycle c.in-Some.start (sym c.in-Some.is ∙ at) within early in
    let few = c.requires.few in
    omega arith

pub overflow_add-result-in-Some-2 : goal.overflow_add-result-in-Some-2
overflow_add-result-in-Some-2 c =
    let g = c.args.live.now.facts.now in
    let needs = c.args.live.now.needs in
    let ls = c.args.live.now.launches.now in
    let P = is_pooled g (numbered 0 ls) in
    let n = next_class g.rows in
    let class = c.args.class in
    let size = table-size g needs.cycles ls needs.classes.items needs.starts.items c.requires.needs in
    let same = ap (λ (xs : List (Option ℕ)). length xs) c.as_slice-starts.ensures.value in
    let within : class < n = omega (arith, c.if-class-starts.false) in
    let at : get_or c.as_slice-starts.result.now class None ≡ start_of P needs.cycles class = ap (λ (xs : List (Option ℕ)). get_or xs class None) c.as_slice-starts.ensures.value ∙ table-at g needs.cycles ls needs.classes.items needs.starts.items c.requires.needs class None (subst (λ (xs : List (Option ℕ)). class < length xs) c.as_slice-starts.ensures.value c.if-class-starts.false) in
    let early : c.args.cycle < needs.cycles = c.if-cycle-live.false in
    let w = need-within P needs.cycles n needs.first class c.args.cycle c.in-Some.start (sym c.in-Some.is ∙ at) within early in
    let few = c.requires.few in
    omega arith

pub returns-in-Some : goal.returns-in-Some
returns-in-Some c =
    let g = c.args.live.now.facts.now in
    let needs = c.args.live.now.needs in
    let ls = c.args.live.now.launches.now in
    let P = is_pooled g (numbered 0 ls) in
    let n = next_class g.rows in
    let class = c.args.class in
    let size = table-size g needs.cycles ls needs.classes.items needs.starts.items c.requires.needs in
    let same = ap (λ (xs : List (Option ℕ)). length xs) c.as_slice-starts.ensures.value in
    let within : class < n = omega (arith, c.if-class-starts.false) in
    let at : get_or c.as_slice-starts.result.now class None ≡ start_of P needs.cycles class = ap (λ (xs : List (Option ℕ)). get_or xs class None) c.as_slice-starts.ensures.value ∙ table-at g needs.cycles ls needs.classes.items needs.starts.items c.requires.needs class None (subst (λ (xs : List (Option ℕ)). class < length xs) c.as_slice-starts.ensures.value c.if-class-starts.false) in
    let early : c.args.cycle < needs.cycles = c.if-cycle-live.false in
    need-is P needs.cycles n needs.first class c.args.cycle c.in-Some.start (sym c.in-Some.is ∙ at) within early

pub returns-in-None : goal.returns-in-None
returns-in-None c =
    let g = c.args.live.now.facts.now in
    let needs = c.args.live.now.needs in
    let ls = c.args.live.now.launches.now in
    let P = is_pooled g (numbered 0 ls) in
    let n = next_class g.rows in
    let class = c.args.class in
    let size = table-size g needs.cycles ls needs.classes.items needs.starts.items c.requires.needs in
    let same = ap (λ (xs : List (Option ℕ)). length xs) c.as_slice-starts.ensures.value in
    let within : class < n = omega (arith, c.if-class-starts.false) in
    let at : get_or c.as_slice-starts.result.now class None ≡ start_of P needs.cycles class = ap (λ (xs : List (Option ℕ)). get_or xs class None) c.as_slice-starts.ensures.value ∙ table-at g needs.cycles ls needs.classes.items needs.starts.items c.requires.needs class None (subst (λ (xs : List (Option ℕ)). class < length xs) c.as_slice-starts.ensures.value c.if-class-starts.false) in
    let early : c.args.cycle < needs.cycles = c.if-cycle-live.false in
    not-needed P needs.cycles n needs.first class c.args.cycle (sym c.in-None.is ∙ at)
