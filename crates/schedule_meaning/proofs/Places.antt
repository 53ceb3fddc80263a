-- The steps of a loop that looks for the first launch that breaks a rule.
use Rattle.std.proofs.Common.{◌≡◌, ℕ, ◌+◌, ◌<◌, List, length, sym, ◌∙◌, ap, subst, inl, inr, ◌⊎◌, arith, get_or}
use Rattle.std.specs.Prelude.{slice_get}
use Rattle.std.proofs.lemmas.Option.{slice_get-get_or, same_Some}
use Rattle.schedule_meaning.specs.Broken.{Asks, KeptBelow, Breaks, at}
use Rattle.schedule_meaning.specs.declared.fitting.Rule.{Rule}
use Rattle.machine_table.specs.declared.tables.Table.{Table}
use Rattle.graph_meaning.specs.declared.graphs.LaunchGraph.{LaunchGraph}
use Rattle.schedule_meaning.specs.declared.schedules.Allocation.{Allocation}
use Rattle.schedule_meaning.specs.declared.schedules.Launch.{Launch}

less_or_same : (a b : ℕ) → a < b + 1 → (a < b) ⊎ (a ≡ b)
less_or_same a b h = grind arith

pub breaks_at : (g : LaunchGraph) (table : Table) (allocation : Allocation) (k : ℕ) (ls : List Launch) (rule : Rule)
    (i : ℕ) (d : Launch) → i < length ls → KeptBelow g table allocation k ls rule i → ¬ Asks g table allocation k ls
    rule i (get_or ls i d) → Breaks g table allocation k ls rule i
breaks_at g table allocation k ls rule i d lt below n = at i (get_or ls i d) (slice_get-get_or ls i d lt) below n

pub kept_more : (g : LaunchGraph) (table : Table) (allocation : Allocation) (k : ℕ) (ls : List Launch) (rule : Rule)
    (i : ℕ) (d : Launch) → i < length ls → KeptBelow g table allocation k ls rule i → Asks g table allocation k ls rule
    i (get_or ls i d) → KeptBelow g table allocation k ls rule (i + 1)
kept_more g table allocation k ls rule i d lt below asks j m l e =
    elim (less_or_same j i l) [
      | inl less ↦ below j m less e
      | inr same ↦ (
          let x : get_or ls i d ≡ m = same_Some (get_or ls i d) m (sym (slice_get-get_or ls i d lt) ∙ ap (slice_get ls) (sym same) ∙ e) in
          subst (λ n. Asks g table allocation k ls rule n m) (sym same) (subst (λ y. Asks g table allocation k ls rule i y) x asks))
    ]
