-- What a launch needs of an operand, and where a target is at the end, by the answers of what was called.
use Rattle.std.proofs.Common.{◌≡◌, ◌↔◌, ℕ, ◌≤◌, List, refl, sym, ◌∙◌, ap, subst, inl, inr, ◌⊎◌, Bool, true, false, ◌&&◌, Option, Some, None}
use Rattle.std.specs.Prelude.{Any, IsTrue, nat_le, ◌==◌}
use Rattle.std.specs.Option.{option_map_or}
use Rattle.std.proofs.lemmas.Bool.{false≢true}
use Rattle.machine_table.specs.Tables.{cluster_of}
use Rattle.machine_table.specs.declared.tables.Table.{Table}
use Rattle.graph_meaning.specs.Graphs.{constant_of, is_memory_name, is_zero_class}
use Rattle.graph_meaning.specs.declared.graphs.SetClass.{SetClass}
use Rattle.graph_meaning.specs.declared.graphs.LaunchGraph.{LaunchGraph}
use Rattle.schedule_meaning.specs.Launches.{launches, gives_word, class_at, ready_in, gives, is_byte_constant, is_free, Gives, HasInput, IsFree, IsUnspoilt, IsUnwritten, IsZero}
use Rattle.schedule_meaning.specs.Fits.{IsWhereWanted, IsInSomeRegister, IsReached}
use Rattle.schedule_meaning.specs.Readers.{passes, CanUse}
use Rattle.schedule_meaning.specs.declared.schedules.Launch.{Launch}
use Rattle.schedule_meaning.specs.declared.schedules.Operand.{Operand}
use Rattle.schedule_meaning.proofs.Comparisons.{and_left, and_right, and_both, or_cases, or_left, or_right, le_true, true_le}
use Rattle.schedule_meaning.proofs.Pins.{same_number, number_same}

-- the test and the fact that a launch gives a class
module _ (g : LaunchGraph) (class : ℕ) (m : Launch) where
  pub gives_from : gives g class m ≡ true → Gives g class m
  gives_from t = (
    and_left (launches g gives_word m) (class_at g m.row == class) t,
    same_number (class_at g m.row) class (and_right (launches g gives_word m) (class_at g m.row == class) t),
  )

  pub gives_back : Gives g class m → gives g class m ≡ true
  gives_back h =
      and_both (launches g gives_word m) (class_at g m.row == class) h.0 (number_same (class_at g m.row) class h.1)

-- ---- an operand

-- the test and the fact that a class has the constant 0
module _ (g : LaunchGraph) (class : ℕ) where
  zero_from : (o : Option ℕ) → option_map_or (λ n. n == 0) o false ≡ true → o ≡ Some 0
  zero_from None t = absurd (false≢true t)
  zero_from (Some n) t = ap Some (same_number n 0 t)

  pub zero_is : (b : Bool) → b ≡ is_zero_class g class → IsTrue b ↔ IsZero g class
  zero_is b e = (
    (λ t. zero_from (constant_of g class) (sym e ∙ t)),
    λ z. e ∙ ap (λ o. option_map_or (λ n. n == 0) o false) z,
  )

-- the test and the fact that an operand needs no register
module _ (g : LaunchGraph) (o : Operand) where
  small_from : (q : Option ℕ) → option_map_or (λ n. nat_le n 255) q false ≡ true → (n : ℕ) × (q ≡ Some n) × (n ≤ 255)
  small_from None t = absurd (false≢true t)
  small_from (Some n) t = (n, refl, true_le n 255 t)

  free_from : (is_zero_class g o.class ≡ true) ⊎ ((o.second && is_byte_constant g o.class) ≡ true) → IsFree g o
  free_from (inl zero) = inl ((zero_is g o.class true (sym zero)).0 refl)
  free_from (inr literal) =
      inr (
        and_left o.second (is_byte_constant g o.class) literal,
        small_from (constant_of g o.class)
            (and_right o.second (is_byte_constant g o.class) literal),
      )

  free_back : IsFree g o → is_free g o ≡ true
  free_back (inl zero) =
      or_left (is_zero_class g o.class) (o.second && is_byte_constant g o.class)
      ((zero_is g o.class (is_zero_class g o.class) refl).1 zero)
  free_back (inr (second, (n, is, small))) =
      or_right (is_zero_class g o.class) (o.second && is_byte_constant g o.class)
      (and_both o.second (is_byte_constant g o.class) second
      (ap (λ q. option_map_or (λ n. nat_le n 255) q false) is ∙ le_true n 255 small))

  pub free_is : (b : Bool) → b ≡ is_free g o → IsTrue b ↔ IsFree g o
  free_is b e = (
    (λ t. free_from (or_cases (is_zero_class g o.class) (o.second && is_byte_constant g o.class) (sym e ∙ t))),
    λ f. e ∙ free_back f,
  )

module _ (g : LaunchGraph) (table : Table) (ls : List Launch) (l : Launch) (o : Operand) where
  abbrev IsReady : Launch → Type 0
  IsReady m = Gives g o.class m × (ready_in g table (cluster_of table l.slot) m ≤ l.cycle)

  ready_from : (m : Launch) → IsTrue (gives g o.class m && passes g table (Some l) m) → IsReady m
  ready_from m h = (
    gives_from g o.class m (and_left (gives g o.class m) (passes g table (Some l) m) h),
    true_le (ready_in g table (cluster_of table l.slot) m) l.cycle (and_right (gives g o.class m) (passes g table (Some l) m) h),
  )

  ready_back : (m : Launch) → IsReady m → IsTrue (gives g o.class m && passes g table (Some l) m)
  ready_back m h =
      and_both (gives g o.class m) (passes g table (Some l) m) (gives_back g o.class m h.0)
      (le_true (ready_in g table (cluster_of table l.slot) m) l.cycle h.1)

  pub use_input : HasInput g o.class (IsUnspoilt g ls l) → IsTrue true ↔ CanUse g table ls l o
  use_input h = ((λ _. inr (inl h)), λ _. refl)

  pub use_given : (b : Bool) → ¬ IsFree g o → ¬ HasInput g o.class (IsUnspoilt g ls l) → IsTrue b ↔ Any (λ m. IsTrue (gives g o.class m && passes g table (Some l) m)) ls → IsTrue b ↔ CanUse g table ls l o
  use_given b no_free no_input h =
      ((λ t. let a = h.0 t in inr (inr (a.0, a.1, a.2, a.3, ready_from a.1 a.4))), back)
    where
      back : CanUse g table ls l o → IsTrue b
      back (inl f) = absurd (no_free f)
      back (inr (inl i)) = absurd (no_input i)
      back (inr (inr a)) = h.1 (a.0, a.1, a.2, a.3, ready_back a.1 a.4)

-- ---- a target without a pin

module _ (g : LaunchGraph) (table : Table) (ls : List Launch) (class : ℕ) where
  pub place_by_input : HasInput g class (IsUnwritten g ls) → IsTrue true ↔ IsInSomeRegister g ls class
  place_by_input h = ((λ _. inl h), λ _. refl)

  pub place_of_zero : IsZero g class → IsTrue true ↔ IsInSomeRegister g ls class
  place_of_zero h = ((λ _. inr (inl h)), λ _. refl)

  given_from : (m : Launch) → IsTrue (gives g class m && passes g table None m) → Gives g class m
  given_from m t = gives_from g class m (and_left (gives g class m) (passes g table None m) t)

  given_back : (m : Launch) → Gives g class m → IsTrue (gives g class m && passes g table None m)
  given_back m h = and_both (gives g class m) (passes g table None m) (gives_back g class m h) refl

  pub place_given : (b : Bool) → ¬ HasInput g class (IsUnwritten g ls) → ¬ IsZero g class → IsTrue b ↔ Any (λ m. IsTrue (gives g class m && passes g table None m)) ls → IsTrue b ↔ IsInSomeRegister g ls class
  place_given b no_input no_zero h =
      ((λ t. let a = h.0 t in inr (inr (a.0, a.1, a.2, a.3, given_from a.1 a.4))), back)
    where
      back : IsInSomeRegister g ls class → IsTrue b
      back (inl i) = absurd (no_input i)
      back (inr (inl z)) = absurd (no_zero z)
      back (inr (inr a)) = h.1 (a.0, a.1, a.2, a.3, given_back a.1 a.4)

-- ---- any target

module _ (g : LaunchGraph) (ls : List Launch) (j : ℕ) (s : SetClass) where
  pub reached_by : (o : Option ℕ) (b : Bool) → s.pin ≡ o → is_memory_name s.name ≡ false → IsTrue b ↔ IsWhereWanted g ls j s o → IsTrue b ↔ IsReached g ls j s
  reached_by o b pin no_memory h = ((λ t. inr (subst (IsWhereWanted g ls j s) (sym pin) (h.0 t))), back)
    where
      back : IsReached g ls j s → IsTrue b
      back (inl m) = absurd (false≢true (sym no_memory ∙ m))
      back (inr p) = h.1 (subst (IsWhereWanted g ls j s) pin p)
