use Rattle.std.proofs.Common.{◌<◌, ◌^◌, ℕ, sym, subst, ◌∙◌}
use Rattle.std.specs.Prelude.{All}
use Rattle.run_texts.proofs.Printed.{places_low}
use Rattle.run_texts.proofs.reporting.print.Goals as goal

pub put_places-requires : goal.put_places-requires
put_places-requires c =
    subst (λ es. All (λ (e : ℕ × ℕ). e.0 < 2 ^ 61) es) (sym (c.as_slice.ensures.value ∙ c.in_ok-entries.ensures.listed))
    (places_low c.memory.result.now c.in_ok-entries.ensures.is_memory)
