-- What is seen and overwritten, by the counts of classes, clusters and sets.
use Rattle.std.proofs.Common.{◌≡◌, ℕ, ◌+◌, ◌*◌, true, false, length, Option, Some, None, refl, sym, ap, ◌∙◌}
use Rattle.std.specs.Prelude.{is_some}
use Rattle.std.specs.Option.{option_map_or}
use Rattle.std.specs.List.{count_by, filter, range_with_len}
use Rattle.std.proofs.lemmas.List.Sums.{length-filter}
use Rattle.machine_table.specs.declared.tables.Table.{Table}
use Rattle.graph_meaning.specs.Graphs.{is_input_register}
use Rattle.graph_meaning.specs.WellFormed.{next_class}
use Rattle.graph_meaning.specs.declared.graphs.LaunchGraph.{LaunchGraph}
use Rattle.schedule_meaning.specs.Launches.{pin_of}
use Rattle.schedule_meaning.specs.declared.schedules.To.TheVariants.{Set}
use Rattle.cycle_encoding.specs.Variables.{clusters_of}
use Rattle.cycle_encoding.specs.Steps.{has_cluster}
use Rattle.cycle_encoding.specs.CycleFormula.{Scope, wants_in}
use Rattle.cycle_encoding.specs.Variables.{shown_classes, pinned_sets, set_numbers, overwriting_sets, is_overwriting}
use Rattle.cycle_encoding.specs.Facts.{is_unsafe_shown}
use Rattle.cycle_encoding.specs.Counts.{seen_count, overwritten_count}
use Rattle.cycle_encoding.proofs.RowPlaces.{filter_less}

pub seen_is : (g : LaunchGraph) (table : Table) (k : ℕ) (s : Scope) (m n j : ℕ) → m ≡ count_by (is_unsafe_shown g (wants_in s)) (range_with_len 0 (next_class g.rows)) → n ≡ count_by (has_cluster table) (range_with_len 0 4) → j ≡ k → m * (n * j) ≡ seen_count g table k s
seen_is g table k s m n j em en ej =
    ap (λ x. x * (n * j)) (em ∙ sym (length-filter (is_unsafe_shown g (wants_in s)) (range_with_len 0 (next_class g.rows))))
    ∙ ap (λ x. length (shown_classes g (wants_in s)) * (x * j)) (en ∙ sym (length-filter (has_cluster table) (range_with_len 0 4)))
    ∙ ap (λ x. length (shown_classes g (wants_in s)) * (length (clusters_of table) * x)) ej

module _ (g : LaunchGraph) where
  of_pin : (o : Option ℕ) → option_map_or (is_input_register g) o false ≡ true → is_some o ≡ true
  of_pin None h = absurd (let f : false ≡ true = h in cc)
  of_pin (Some r) h = refl

  -- what overwrites has a pin
  pub overwriting_pins : filter (is_overwriting g) (pinned_sets g) ≡ overwriting_sets g
  overwriting_pins = filter_less (is_overwriting g) (λ j. is_some (pin_of g (Set j))) (set_numbers g) (λ j h. of_pin (pin_of g (Set j)) h)

  pub overwritten_is : (table : Table) (k : ℕ) (s : Scope) (m j : ℕ) → m ≡ count_by (is_overwriting g) (pinned_sets g) → j ≡ k → m * (j + 1) ≡ overwritten_count g table k s
  overwritten_is table k s m j em ej =
      ap (λ x. x * (j + 1)) (em ∙ sym (length-filter (is_overwriting g) (pinned_sets g)) ∙ ap length overwriting_pins)
      ∙ ap (λ x. length (overwriting_sets g) * (x + 1)) ej
