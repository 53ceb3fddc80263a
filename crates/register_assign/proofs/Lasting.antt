-- How long a launch's register holds its word: as long as some launch has yet to read it, or to the end where a target
-- is to be there.
use Rattle.std.proofs.Common.{◌≡◌, ℕ, ◌<◌, ◌≤◌, List, length, sym, ◌∙◌, ap, subst, inl, inr, ◌⊎◌, arith, Bool, true, ◌&&◌, Some}
use Rattle.std.specs.Prelude.{AllPairs, IsTrue, slice_get, nat_le}
use Rattle.std.proofs.lemmas.Bool.{false≢true}
use Rattle.graph_meaning.specs.Graphs.{IsProper}
use Rattle.graph_meaning.specs.WellFormed.{IsLaunchGraph}
use Rattle.machine_table.specs.Tables.{IsTable}
use Rattle.schedule_meaning.specs.Launches.{launches, gives_word, class_at, is_pool, takes_pool, StandsBefore}
use Rattle.schedule_meaning.specs.Lifetimes.{holds, is_needed, is_read_from, is_wanted, reads_class}
use Rattle.schedule_meaning.specs.Fits.{Fits}
use Rattle.graph_meaning.specs.declared.graphs.LaunchGraph.{LaunchGraph}
use Rattle.machine_table.specs.declared.tables.Table.{Table}
use Rattle.schedule_meaning.specs.declared.schedules.Allocation.{Allocation}
use Rattle.schedule_meaning.specs.declared.schedules.Allocation.TheVariants.{Block, Live}
use Rattle.schedule_meaning.specs.declared.schedules.To.{To}
use Rattle.schedule_meaning.specs.declared.schedules.To.TheVariants.{Set}
use Rattle.schedule_meaning.specs.declared.schedules.Launch.{Launch}
use Rattle.schedule_meaning.proofs.Comparisons.{and_both, or_left, or_right, le_true}
use Rattle.schedule_meaning.proofs.LiveRanges.{holds_own, holds_later}
use Rattle.schedule_meaning.proofs.Pins.{any_at}
use Rattle.register_assign.proofs.Destinations.{own_register}
use Rattle.register_assign.proofs.Groups.{not_after}
use Rattle.register_assign.proofs.Reached.{Lasts}

either : (a b : ℕ) → a ≤ b → (a ≡ b) ⊎ (a < b)
either a b h = grind arith

module _ (g : LaunchGraph) (ordered : List Launch) where
  -- a class is needed up to the cycle of a launch that reads it
  needed_by : (class n t : ℕ) (l : Launch) → slice_get ordered n ≡ Some l → reads_class g class l ≡ true → t ≤ l.cycle
      → is_needed g ordered t class ≡ true
  needed_by class n t l here reads le =
      or_left (is_read_from g ordered t class) (is_wanted g ordered class)
      (any_at (λ (m : Launch). nat_le t m.cycle && reads_class g class m) ordered n l here
      (and_both (nat_le t l.cycle) (reads_class g class l) (le_true t l.cycle le) reads))

  -- a launch holds its register while its class is needed
  held_while : (allocation : Allocation) (t : ℕ) (m : Launch) → m.cycle ≤ t
      → is_needed g ordered t (class_at g m.row) ≡ true → takes_pool g m ≡ true → holds g allocation ordered t m ≡ true
  held_while Block t m le needed takes = takes
  held_while Live t m le needed takes =
      elim (either m.cycle t le) [
        | inl same ↦ holds_own g ordered m t takes same
        | inr less ↦ holds_later g ordered m t takes less needed
      ]

module _ (g : LaunchGraph) (table : Table) (allocation : Allocation) (k : ℕ) (ordered : List Launch)
    (graph : IsLaunchGraph g) (proper : IsProper g)
    (fits : Fits g table allocation k ordered) (is_table : IsTable table) (order : AllPairs (StandsBefore g) ordered)
  where
    lasts_by : (j n : ℕ) (m : Launch) → slice_get ordered j ≡ Some m → IsTrue (launches g gives_word m)
        → ((i : ℕ) (q : Launch) → i < n → slice_get ordered i ≡ Some q
        → is_needed g ordered q.cycle (class_at g m.row) ≡ true) → Lasts g allocation ordered j n
    lasts_by j n m em gm needed i q lt below eq gq same =
        own_register g table allocation k ordered graph proper fits is_table j i m q lt em eq gm gq
        (held_while g ordered allocation q.cycle m (not_after g ordered order j i m q lt em eq) (needed i q below eq))
        (sym same)

    no_pool : (to : To) (j : ℕ) (b : Bool) → to ≡ Set j → (is_pool to && b) ≡ true → ⊥
    no_pool to j b e takes = false≢true (sym (ap (λ to. is_pool to && b) e) ∙ takes)

    -- a pin is written once
    pub lasts_in_pin : (j n s : ℕ) (m : Launch) → slice_get ordered j ≡ Some m → IsTrue (launches g gives_word m)
        → m.to ≡ Set s → Lasts g allocation ordered j n
    lasts_in_pin j n s m em gm to i q lt below eq gq same =
        own_register g table allocation k ordered graph proper fits is_table j i m q lt em eq gm gq
        (λ takes. absurd (no_pool m.to s (launches g gives_word m) to takes)) (sym same)

    -- a launch that reads the class finds it in the register of each launch before it that gave it
    pub lasts_to_reader : (n : ℕ) (l : Launch) → slice_get ordered n ≡ Some l → (class : ℕ) → reads_class g class l ≡ true
        → (j : ℕ) (m : Launch) → slice_get ordered j ≡ Some m → IsTrue (launches g gives_word m)
        → class_at g m.row ≡ class → Lasts g allocation ordered j n
    lasts_to_reader n l here class reads j m em gm is =
        lasts_by j n m em gm (λ i q below eq.
        needed_by g ordered (class_at g m.row) n q.cycle l here (subst (λ c. reads_class g c l ≡ true) (sym is) reads)
        (not_after g ordered order i n q l below eq here))

    -- and so does a target at the end
    pub lasts_to_end : (class : ℕ) → is_wanted g ordered class ≡ true → (j : ℕ) (m : Launch)
        → slice_get ordered j ≡ Some m → IsTrue (launches g gives_word m) → class_at g m.row ≡ class
        → Lasts g allocation ordered j (length ordered)
    lasts_to_end class wanted j m em gm is =
        lasts_by j (length ordered) m em gm (λ i q below eq.
        or_right (is_read_from g ordered q.cycle (class_at g m.row)) (is_wanted g ordered (class_at g m.row))
        (subst (λ c. is_wanted g ordered c ≡ true) (sym is) wanted))
