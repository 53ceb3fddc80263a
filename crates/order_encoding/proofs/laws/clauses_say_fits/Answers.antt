use Rattle.std.proofs.Common.{ℕ, Bool, List, refl, sym, subst}
use Rattle.std.specs.Prelude.{Contains, ◌↔◌}
use Rattle.std.specs.List.{filter}
use Rattle.cnf_core.specs.Formula.{Satisfies}
use Rattle.schedule_meaning.specs.Fits.{Fits}
use Rattle.schedule_meaning.specs.declared.schedules.Allocation.{Allocation}
use Rattle.schedule_meaning.specs.declared.schedules.Allocation.TheVariants.{Block}
use Rattle.schedule_meaning.specs.declared.schedules.Launch.{Launch}
use Rattle.cycle_encoding.specs.CycleFormula.{launch_vars, wide}
use Rattle.cycle_encoding.specs.CycleRules.{KeepsCycleRules}
use Rattle.cycle_encoding.specs.Shapes.{shown}
use Rattle.cycle_encoding.proofs.Blocks.{AreExact}
use Rattle.cycle_encoding.proofs.Shown.{left}
use Rattle.order_encoding.specs.WholeFormula.{pins_formula, whole_formula}
use Rattle.order_encoding.proofs.Composed.{launches_within}
use Rattle.order_encoding.proofs.Parts.{capacity_part}
use Rattle.order_encoding.proofs.OrderReading.{SayPinnedRules, HavePinnedPlaces, fits}
use Rattle.order_encoding.proofs.OrderNarrowed.{finds_memory, pinned_rules_of}
use Rattle.order_encoding.proofs.OrderMaking.{SayApart, SayPinsFit, SlotsSuffice, complete_with_slots}
use Rattle.order_encoding.proofs.laws.clauses_say_fits.Goals as goal

pub returns : goal.returns
returns c =
    let counters = c.counters_count.ensures in
    let memories = c.memories_are_left.ensures in
    let cycles = c.cycle_clauses_say_rules.ensures in
    let parts = c.parts_keep_rules.ensures in
    let exact : AreExact = λ old p lits h. (counters.say old p lits h, counters.over old p lits h, counters.size old p lits) in
    record {
      shown = λ g table a k e v t w n h.
          let says : SayPinnedRules g table k e = λ v s pins. subst (λ (a : Allocation). KeepsCycleRules g table a k (shown v (launch_vars e))) (sym n.allocation_is) (cycles.shown g table a k e v t w n s pins) in
          let places : HavePinnedPlaces g table e.allocation k = λ ls r. cycles.places g table e.allocation k ls t r in
          subst (λ (a : Allocation). Fits g table a k (shown v (launch_vars e))) n.allocation_is (fits g table k e exact w says places v (left v (pins_formula g table k e).clauses (capacity_part g table k e) h));
      some = λ g table a k e ls t w n f.
          let rules = pinned_rules_of g table a k ls f in
          let found = finds_memory g table a k ls f in
          let ms : List Launch = filter n.keep ls in
          let kept = parts.rules g table a k e ls t w n rules found in
          let fit : Fits g table a k ms = c.launches_without_variables_may_go.ensures.fits g table a k e ls t w n f in
          let apart : SayApart g table k e = λ v s. cycles.apart g table a k e v t w n s in
          let says : SayPinnedRules g table k e = λ v s pins. subst (λ (a : Allocation). KeepsCycleRules g table a k (shown v (launch_vars e))) (sym n.allocation_is) (cycles.shown g table a k e v t w n s pins) in
          let places : HavePinnedPlaces g table e.allocation k = λ ls r. cycles.places g table e.allocation k ls t r in
          let reads : SayPinsFit g table k e = λ v s. fits g table k e exact w says places v s in
          let suffice : SlotsSuffice g table k e = λ v own. c.slots_suffice.ensures g table e.allocation k e.launches (pins_formula g table k e) v t w (launches_within g table k e) own in
          let own : Fits g table e.allocation k ms = subst (λ (a : Allocation). Fits g table a k ms) (sym n.allocation_is) fit in
          let given : (v : ℕ → Bool) × Satisfies v (whole_formula g table k e).clauses × ((l : Launch) → Contains (shown v (launch_vars e)) l ↔ Contains ms l) =
          complete_with_slots exact g table k e w ms own (λ i. memories.left g ms i) (λ i a b p q. memories.once g ms i a b fit.memory.single p q) apart (cycles.places g table a k ms t kept) (parts.shown g table a k e ls t w n rules found) reads suffice in
          (ms, fit, (n.keep, refl), given);
      all = λ g table k v t w h.
          let says : SayPinnedRules g table k (wide g table k) = λ v s pins. cycles.all g table k v t w s pins in
          let places : HavePinnedPlaces g table Block k = λ ls r. cycles.places g table Block k ls t r in
          fits g table k (wide g table k) exact w says places v (left v (pins_formula g table k (wide g table k)).clauses (capacity_part g table k (wide g table k)) h);
      each = λ g table k ls t w f.
          let e = wide g table k in
          let rules = pinned_rules_of g table Block k ls f in
          let apart : SayApart g table k e = λ v s. cycles.all_apart g table k v t w s in
          let says : SayPinnedRules g table k e = λ v s pins. cycles.all g table k v t w s pins in
          let places : HavePinnedPlaces g table Block k = λ ls r. cycles.places g table Block k ls t r in
          let reads : SayPinsFit g table k e = λ v s. fits g table k e exact w says places v s in
          let suffice : SlotsSuffice g table k e = λ v own. c.slots_suffice.ensures g table e.allocation k e.launches (pins_formula g table k e) v t w (launches_within g table k e) own in
          complete_with_slots exact g table k e w ls f (λ i. memories.left g ls i) (λ i a b p q. memories.once g ls i a b f.memory.single p q) apart (cycles.places g table Block k ls t rules) (cycles.each g table k ls t w rules) reads suffice;
    }
