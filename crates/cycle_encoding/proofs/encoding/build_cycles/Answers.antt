use Rattle.std.proofs.Common.{◌≡◌, ◌+◌, ◌*◌, ◌∙◌, ℕ, List, length, sym, ap, arith}
use Rattle.schedule_meaning.specs.declared.schedules.Launch.{Launch}
use Rattle.cycle_encoding.specs.Variables.{Seen}
use Rattle.cycle_encoding.specs.Variables.{all_overwritten, overwriting_sets}
use Rattle.cycle_encoding.proofs.Built.{begun}
use Rattle.cycle_encoding.proofs.Lost.{overwritten-size}
use Rattle.cycle_encoding.proofs.encoding.build_cycles.Goals as goal

pub add_families-requires-clause-empty : goal.add_families-requires-clause-empty
add_families-requires-clause-empty c =
    let g = c.args.frame.now.facts.now in
    let k = c.args.frame.now.k in
    let launches = c.deref.result.now in
    let seen = c.in_ok-seen.seen.seen.items in
    let one : length c.as_slice.result.now ≡ length launches = ap (λ (ls : List Launch). length ls) (c.as_slice.ensures.value ∙ sym c.deref.ensures.value) in
    let two : length c.as_slice-2.result.now ≡ length seen = ap (λ (ds : List Seen). length ds) c.as_slice-2.ensures.value in
    let over : c.count.result ≡ length (all_overwritten g k) =
    c.count.ensures.value ∙ ap (λ (js : List ℕ). length js * (c.in_ok-over.over.cycles + 1)) c.in_ok-over.ensures.sets
    ∙ ap (λ n. length (overwriting_sets g) * (n + 1)) c.in_ok-over.ensures.cycles ∙ sym (overwritten-size k (overwriting_sets g)) in
    begun c.new-cnf.result c.add_vars.new.cnf (length c.as_slice.result.now + length c.as_slice-2.result.now) c.count.result (length launches + length seen) (length (all_overwritten g k)) c.new-cnf.ensures c.add_vars.ensures (omega arith) over
