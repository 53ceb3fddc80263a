-- Where a launch may go: as far as that hangs on it alone, and beside others.
use Rattle.std.proofs.Common.{◌≡◌, ℕ, false, List, refl, sym, ap, ◌∙◌, Option, Some, None}
use Rattle.std.specs.Prelude.{IsTrue, IsSomeAnd, slice_get, option_and_then}
use Rattle.std.specs.Option.{option_map_or}
use Rattle.graph_meaning.specs.Graphs.{is_input_register}
use Rattle.schedule_meaning.specs.Launches.{launches, is_load, overwrites, pin_of}
use Rattle.schedule_meaning.specs.Fits.{CanGo, CanGoTo, CanGoToPin, MayLoadOver}
use Rattle.graph_meaning.specs.declared.graphs.LaunchGraph.{LaunchGraph}
use Rattle.graph_meaning.specs.declared.graphs.SetClass.{SetClass}
use Rattle.schedule_meaning.specs.declared.schedules.Allocation.{Allocation}
use Rattle.schedule_meaning.specs.declared.schedules.Allocation.TheVariants.{Block, Live}
use Rattle.schedule_meaning.specs.declared.schedules.To.{To}
use Rattle.schedule_meaning.specs.declared.schedules.To.TheVariants.{Pool, Set}
use Rattle.schedule_meaning.specs.declared.schedules.Launch.{Launch}
use Rattle.cycle_encoding.specs.CycleRules.{MayGo, MayGoTo, MayGoToPin}

live_of : (g : LaunchGraph) (a : Allocation) (ls : List Launch) (l : Launch) → MayLoadOver g a ls l → a ≡ Live
live_of g Block ls l h = absurd h
live_of g Live ls l h = refl

module _ (g : LaunchGraph) (a : Allocation) (ls : List Launch) (l : Launch) where
  may_pin : (s : SetClass) (o : Option ℕ) → IsSomeAnd o (CanGoToPin g a ls l s) → IsSomeAnd o (MayGoToPin g a l s)
  may_pin s None h = absurd h
  may_pin s (Some r) h =
      record { gives = h.gives; loads_over = λ load input. live_of g a ls l (h.loads_over load input) }

  may_set : (o : Option SetClass) → IsSomeAnd o (λ s. IsSomeAnd s.pin (CanGoToPin g a ls l s))
      → IsSomeAnd o (λ s. IsSomeAnd s.pin (MayGoToPin g a l s))
  may_set None h = absurd h
  may_set (Some s) h = may_pin s s.pin h

  may_go_to : (to : To) → CanGoTo g a ls l to → MayGoTo g a l to
  may_go_to Pool h = tt
  may_go_to (Set j) h = may_set (slice_get g.sets j) h

  pub may_go : CanGo g a ls l → MayGo g a l
  may_go h = may_go_to l.to h

  -- a load that overwrites an input's register does so as the others allow
  module _ (over : IsTrue (launches g is_load l) → IsTrue (overwrites g l) → a ≡ Live → MayLoadOver g a ls l) where
    can_pin : (s : SetClass) (o : Option ℕ) → (option_map_or (is_input_register g) o false ≡ overwrites g l)
        → IsSomeAnd o (MayGoToPin g a l s) → IsSomeAnd o (CanGoToPin g a ls l s)
    can_pin s None e h = absurd h
    can_pin s (Some r) e h = record {
      gives = h.gives;
      loads_over = λ load input. over load (sym e ∙ input) (h.loads_over load input);
    }

    can_set : (o : Option SetClass)
        → (option_map_or (is_input_register g) (option_and_then (λ s. s.pin) o) false ≡ overwrites g l)
        → IsSomeAnd o (λ s. IsSomeAnd s.pin (MayGoToPin g a l s))
        → IsSomeAnd o (λ s. IsSomeAnd s.pin (CanGoToPin g a ls l s))
    can_set None e h = absurd h
    can_set (Some s) e h = can_pin s s.pin e h

    can_go_to : (to : To) → l.to ≡ to → MayGoTo g a l to → CanGoTo g a ls l to
    can_go_to Pool e h = tt
    can_go_to (Set j) e h =
        can_set (slice_get g.sets j) (ap (λ to. option_map_or (is_input_register g) (pin_of g to) false) (sym e)) h

    pub can_go : MayGo g a l → CanGo g a ls l
    can_go h = can_go_to l.to refl h
