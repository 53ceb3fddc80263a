-- The launches of a generated goal's chain fit a graph that stands for it.
use Rattle.std.proofs.Common.{◌≡◌, ℕ, ◌≤◌, List, [], ◌∷◌, length, Option, Some, None, false, refl, sym, ap, ◌∙◌, subst, inl, inr, ◌⊎◌, arith}
use Rattle.std.specs.Prelude.{All, Any, IsTrue, IfSome, codes}
use Rattle.std.specs.List.{AllZip}
use Rattle.std.proofs.lemmas.Bool.{false≢true}
use Rattle.std.proofs.lemmas.List.Elements.{All-nil, All-cons, All-weaker}
use Rattle.std.proofs.lemmas.List.Sums.{count_by-le-length}
use Rattle.graph_meaning.proofs.Lists.{any_here, any_there}
use Rattle.machine_table.specs.Tables.{ev6}
use Rattle.word_ops.specs.declared.sorts.Op.TheVariants.{Input}
use Rattle.graph_meaning.specs.Graphs.{HasNoPins, is_memory_name, memory_target}
use Rattle.graph_meaning.specs.WellFormed.{IsLaunchGraph}
use Rattle.graph_meaning.specs.declared.graphs.Guard.{Guard}
use Rattle.graph_meaning.specs.declared.graphs.LaunchGraph.{LaunchGraph}
use Rattle.graph_meaning.specs.declared.graphs.SetClass.{SetClass}
use Rattle.goal_meaning.specs.Expanded.{expanded}
use Rattle.goal_meaning.specs.Views.{GoalTree}
use Rattle.goal_meaning.specs.declared.goals.InputReg.{InputReg}
use Rattle.saturation.specs.GoalTerms.{input_term}
use Rattle.saturation.specs.StandsFor.{HasClassIn, IsGuardOf, IsInputClass, IsSetClass, StandsFor, graph_view}
use Rattle.schedule_meaning.specs.declared.schedules.Allocation.TheVariants.{Block}
use Rattle.schedule_meaning.specs.Fits.{CanLaunch, EndsBy, Fits, IsLeft, KeepsMemory, UsesMemory}
use Rattle.schedule_meaning.specs.Launches.{Gives, IsClassOfInput, gives_word, is_load, is_store, launches, memory_class_at, ready_in}
use Rattle.schedule_meaning.specs.Plain.{FitsWithoutPins, IsPlainReached, WaitsPlain}
use Rattle.schedule_meaning.specs.declared.schedules.To.TheVariants.{Pool}
use Rattle.schedule_meaning.specs.declared.schedules.Launch.{Launch}
use Rattle.machine_table.specs.declared.tables.InstrKind.TheVariants.{Operate}
use Rattle.generated_goals.specs.Generated.{generated_goal, generated_input, named_input}
use Rattle.schedule_meaning.proofs.Unpinned.{fits_where_plain}
use Rattle.generated_goals.proofs.GraphRows.{leaf_row, one_class, row_of}
use Rattle.generated_goals.proofs.Schedules.{IsChain, IsStep, launched, launches_by}

-- ---- lists of one or two

first_zip : {A B : Type 0} (R : A → B → Type 0) (xs : List A) (y : B) (ys : List B) → AllZip R xs (y ∷ ys) → Any (λ x. R x y) xs
first_zip R [] y ys h = absurd h
first_zip R (x ∷ xs) y ys h = any_here (λ x. R x y) x xs h.0

second_zip : {A B : Type 0} (R : A → B → Type 0) (xs : List A) (y z : B) (zs : List B) → AllZip R xs (y ∷ z ∷ zs) → Any (λ x. R x z) xs
second_zip R [] y z zs h = absurd h
second_zip R (x ∷ xs) y z zs h = any_there (λ x. R x z) x xs (first_zip R xs z zs h.1)

only_zip : {A B : Type 0} (R : A → B → Type 0) (xs : List A) (y : B) → AllZip R xs (y ∷ []) → (x : A) × (xs ≡ x ∷ []) × R x y
only_zip R [] y h = absurd h
only_zip R (x ∷ []) y h = (x, refl, h.0)
only_zip R (x ∷ z ∷ xs) y h = absurd h.1

-- ---- the inputs

module _ (g : LaunchGraph) (graph : IsLaunchGraph g) where
  input_is : (i : InputReg) → Any (λ c. IsInputClass [] g c i) g.inputs → (c : ℕ) → HasClassIn [] g (input_term i.reg) c → IsClassOfInput g c
  input_is i there c h =
      let mine = row_of g [] (Input i.reg) [] c refl (leaf_row (graph_view [] g) (Input i.reg) c h) in
      let its = row_of g [] (Input i.reg) [] there.1.class refl (leaf_row (graph_view [] g) (Input i.reg) there.1.class there.4.class) in
      (there.0, there.1, there.2, there.3, one_class g graph (Input i.reg) [] there.1.class c its mine)

-- ---- what launches of a chain don't do

module _ (g : LaunchGraph) (n : ℕ) where
  no_load : (l : Launch) → IsStep g n l → ¬ IsTrue (launches g is_load l)
  no_load l s h = false≢true (sym (launches_by g is_load l (Operate s.kind) false s.is refl) ∙ h)

  no_store : (l : Launch) → IsStep g n l → ¬ IsTrue (launches g is_store l)
  no_store l s h = false≢true (sym (launches_by g is_store l (Operate s.kind) false s.is refl) ∙ h)

  no_memory : (l : Launch) → IsStep g n l → ¬ UsesMemory g l
  no_memory l s (inl h) = no_load l s h
  no_memory l s (inr h) = no_store l s h

  can_launch : (l : Launch) → IsStep g n l → CanLaunch g ev6 l
  can_launch l s = rw (s.is, s.slot) s.plain.may

  ends_by : (l : Launch) → IsStep g n l → EndsBy g ev6 n l
  ends_by l s = let e = s.early in rw (s.is, s.plain.latency) (omega arith)

  waits : (ls : List Launch) (l : Launch) → IsStep g n l → WaitsPlain g ls l
  waits ls l s (inl h) = absurd (no_store l s h)
  waits ls l s (inr h) = absurd (no_load l s h.0)

-- ---- the schedule

no_guard : (o : Option Guard) (g : LaunchGraph) → IsGuardOf [] g o None → (P : Guard → Type 0) → IfSome o P
no_guard None g h P = tt
no_guard (Some x) g h P = absurd h

entry_stays : (g : LaunchGraph) (s : SetClass) → g.sets ≡ s ∷ [] → is_memory_name s.name ≡ false → memory_target g ≡ g.entry
entry_stays g s e m = rw (e, m) refl

given_words : (g : LaunchGraph) (class n : ℕ) (ls : List Launch) → IsClassOfInput g class ⊎ Any (λ l. Gives g class l × (ready_in g ev6 0 l ≤ n)) ls → (s : SetClass) → s.class ≡ class → IsPlainReached g ls s
given_words g class n ls (inl i) s e = inr (inl (rw e i))
given_words g class n ls (inr h) s e = inr (inr (inr (h.0, h.1, h.2, h.3, rw e h.4.0)))

module _ (g : LaunchGraph) (n : ℕ) (ls : List Launch) (class : ℕ) (made : IsChain g n class ls) (s : SetClass)
    (sets : g.sets ≡ s ∷ []) (is : s.class ≡ class) (name : is_memory_name s.name ≡ false)
    (guard : (P : Guard → Type 0) → IfSome g.guard P) (pool : n ≤ length g.pool) where
  abbrev Stepped : (Launch → Type 0) → Type 0
  Stepped P = (l : Launch) → IsStep g n l → P l

  each : (P : Launch → Type 0) → Stepped P → All P ls
  each P f = All-weaker (IsStep g n) P f ls made.steps

  memory : KeepsMemory g ls
  memory = record {
    each = each (λ l. UsesMemory g l → IsLeft g ls l.cycle (memory_class_at g l.row)) (λ l s h. absurd (no_memory g n l s h));
    single = λ i j d lt len a b c. no_store g n _ (made.steps j d len) b;
    last = λ t h. inl (entry_stays g s sets name, each (λ m. IsTrue (launches g is_store m) → t ≤ m.cycle) (λ m s h. absurd (no_store g n m s h)));
  }

  chain_fits_plain : FitsWithoutPins g ev6 Block n ls
  chain_fits_plain = record {
    rows = each (CanLaunch g ev6) (can_launch g n);
    apart = made.apart;
    operands = made.operands;
    in_time = each (EndsBy g ev6 n) (ends_by g n);
    targets = subst (All (IsPlainReached g ls)) (sym sets) (All-cons (IsPlainReached g ls) s [] (given_words g class n ls made.readable s is) (All-nil (IsPlainReached g ls)));
    memory = memory;
    one_branch = guard _;
    after_branch = each (WaitsPlain g ls) (waits g n ls);
    pool = (let f = count_by-le-length (launches g gives_word) ls in let c = made.count in omega arith);
  }

  pub chain_fits : s.pin ≡ None → Fits g ev6 Block n ls
  chain_fits plain =
      let no_pins : HasNoPins g = subst (All (λ s. s.pin ≡ None)) (sym sets) (All-cons (λ s. s.pin ≡ None) s [] plain (All-nil (λ s. s.pin ≡ None))) in
      fits_where_plain g no_pins ev6 Block n ls chain_fits_plain (each (λ l. l.to ≡ Pool) (λ l s. s.to))

-- the goal has no lets, so it is the goal without them
pub scheduled : ((size : ℕ) → size ≤ 20 → expanded (generated_goal size) ≡ generated_goal size) → (size : ℕ) (g : LaunchGraph) → size ≤ 20 → IsLaunchGraph g → StandsFor (generated_input size) (generated_goal size) g → (ls : List Launch) × Fits g ev6 Block size ls
scheduled same size g few graph stands =
    let of = stands.of in
    let a = input_is g graph (named_input (codes "a") 9) (first_zip (IsInputClass [] g) g.inputs _ _ of.inputs) in
    let b = input_is g graph (named_input (codes "b") 10) (second_zip (IsInputClass [] g) g.inputs _ _ _ of.inputs) in
    let sets : AllZip (IsSetClass [] g) g.sets (generated_goal size).sets = subst (λ (goal : GoalTree). AllZip (IsSetClass [] g) g.sets goal.sets) (same size few) of.sets in
    let one = only_zip (IsSetClass [] g) g.sets _ sets in
    let made = launched g a b size size one.0.class one.2.class in
    let pool : length g.pool ≡ 21 = ap length of.pool in
    (made.list, chain_fits g size made.list one.0.class made.fits one.0 one.1 refl (ap is_memory_name one.2.name) (no_guard g.guard g of.guard) (omega arith) one.2.pin)
