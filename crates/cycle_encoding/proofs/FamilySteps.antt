-- The families of clauses, one thing at a time.
use Rattle.std.proofs.Common.{◌≡◌, ℕ, suc, ◌+◌, ◌<◌, ◌≤◌, ◌^◌, Bool, true, false, cond, List, ◌∷◌, ◌++◌, [], length, map, take, drop, get_or, refl, sym, ap, ◌∙◌, subst, arith, length-append}
use Rattle.std.specs.Prelude.{◌&&◌, Result, Ok, Err, OnOk}
use Rattle.std.specs.List.{All, filter}
use Rattle.std.proofs.lemmas.List.{take_more, length-take, map-append, take-append-drop}
use Rattle.std.proofs.lemmas.List.Elements.{filter-append, All-cons, All-append}
use Rattle.cnf_core.specs.declared.literal.Lit.{Lit}
use Rattle.cnf_core.specs.Formula.{Formula, IsLitOf}
use Rattle.machine_table.specs.Tables.{cluster_of}
use Rattle.machine_table.specs.declared.tables.Table.{Table}
use Rattle.graph_meaning.specs.declared.graphs.LaunchGraph.{LaunchGraph}
use Rattle.graph_meaning.specs.declared.graphs.SetClass.{SetClass}
use Rattle.schedule_meaning.specs.Launches.{gives, operands_at, reads_until}
use Rattle.schedule_meaning.specs.declared.schedules.Operand.{Operand}
use Rattle.schedule_meaning.specs.declared.schedules.Launch.{Launch}
use Rattle.cycle_encoding.specs.Shapes.{numbered, positive, negative, implied, vars_of, negated}
use Rattle.cycle_encoding.specs.Variables.{Seen}
use Rattle.cycle_encoding.specs.Families.{makes}
use Rattle.cycle_encoding.specs.Families.{is_made_target, is_needed, is_lost, operand_clause}
use Rattle.cycle_encoding.specs.Variables.{Overwritten, all_overwritten}
use Rattle.cycle_encoding.specs.Steps.{given_in, target_clause, target_groups, is_ready, needed_among, of_thing, sight, sights, with_clauses}
use Rattle.cycle_encoding.proofs.Adding.{added, size-with, implied_step}
use Rattle.cycle_encoding.proofs.Blocks.{vars-over}
use Rattle.cycle_encoding.proofs.Walk.{numbered-append}
use Rattle.cycle_encoding.proofs.Lost.{negated-over}

-- numbered things that pass, one more at a time
module _ {X : Type 0} (test : X → Bool) where
  one_kept : (n : ℕ) (x : X) → filter (λ p. test p.1) (numbered n (x ∷ [])) ≡ cond (test x) ((n + 1, x) ∷ []) []
  one_kept n x = refl

  pub given-more : (xs : List X) (i : ℕ) (d : X) → i < length xs → filter (λ p. test p.1) (numbered 0 (take (i + 1) xs)) ≡ filter (λ p. test p.1) (numbered 0 (take i xs)) ++ cond (test (get_or xs i d)) ((i + 1, get_or xs i d) ∷ []) []
  given-more xs i d lt =
      let size : 0 + length (take i xs) ≡ i = omega (arith, length-take i xs) in
      ap (λ ys. filter {X = ℕ × X} (λ p. test p.1) (numbered 0 ys)) (take_more xs i d lt)
      ∙ ap (filter {X = ℕ × X} (λ p. test p.1)) (numbered-append 0 (take i xs) (get_or xs i d ∷ []))
      ∙ filter-append {X = ℕ × X} (λ p. test p.1) (numbered 0 (take i xs)) (numbered (0 + length (take i xs)) (get_or xs i d ∷ []))
      ∙ ap (λ m. filter {X = ℕ × X} (λ p. test p.1) (numbered 0 (take i xs)) ++ filter {X = ℕ × X} (λ p. test p.1) (numbered m (get_or xs i d ∷ []))) size

pub given_more : (g : LaunchGraph) (class : ℕ) (xs : List Launch) (i : ℕ) (d : Launch) → i < length xs → given_in g class (take (i + 1) xs) ≡ given_in g class (take i xs) ++ cond (gives g class (get_or xs i d)) ((i + 1, get_or xs i d) ∷ []) []
unfolding given_in
given_more g class xs i d lt = given-more (gives g class) xs i d lt

pub given_none : (g : LaunchGraph) (class : ℕ) → given_in g class [] ≡ []
unfolding given_in
given_none g class = refl

pub given_step : (g : LaunchGraph) (class : ℕ) (ls : List Launch) (i : ℕ) (d : Launch) (mid new : List (ℕ × Launch)) → i < length ls → mid ≡ given_in g class (take i ls) → new ≡ mid ++ cond (gives g class (get_or ls i d)) ((i + 1, get_or ls i d) ∷ []) [] → new ≡ given_in g class (take (i + 1) ls)
given_step g class ls i d mid new lt m n = n ∙ ap (λ ys. ys ++ cond (gives g class (get_or ls i d)) ((i + 1, get_or ls i d) ∷ []) []) m ∙ sym (given_more g class ls i d lt)

-- the clause of a target
pub given_vars : (g : LaunchGraph) (class : ℕ) (ls : List Launch) → map (λ (p : ℕ × Launch). positive p.0) (given_in g class ls) ≡ vars_of (gives g class) (numbered 0 ls)
unfolding given_in
given_vars g class ls = refl

pub given_exist : (g : LaunchGraph) (class n : ℕ) (ls : List Launch) (clause : List Lit) → clause ≡ map (λ (p : ℕ × Launch). positive p.0) (given_in g class ls) → length ls ≤ n → All (IsLitOf n) clause
given_exist g class n ls clause e le = subst (λ (ys : List Lit). All (IsLitOf n) ys) (sym (e ∙ given_vars g class ls)) (vars-over (gives g class) 0 n ls (omega arith))

-- those of a list that are ready, one more at a time
module _ (test : Launch → Bool) where
  abbrev pub ready_vars : List (ℕ × Launch) → List Lit
  ready_vars ps = map (λ p. positive p.0) (filter (λ p. test p.1) ps)

-- what passes two tests
module _ {X : Type 0} (a b : X → Bool) where
  both_step : (x : X) (xs : List X) (p q : Bool) → filter b xs ≡ filter b xs → a x ≡ p → b x ≡ q → filter b (cond p (x ∷ filter a xs) (filter a xs)) ≡ cond (p && q) (x ∷ filter b (filter a xs)) (filter b (filter a xs))
  both_step x xs true true h e f = ap (λ c. cond c (x ∷ filter b (filter a xs)) (filter b (filter a xs))) f
  both_step x xs true false h e f = ap (λ c. cond c (x ∷ filter b (filter a xs)) (filter b (filter a xs))) f
  both_step x xs false q h e f = refl

  pub filter-both : (xs : List X) → filter b (filter a xs) ≡ filter (λ x. a x && b x) xs
  filter-both [] = refl
  filter-both (x ∷ xs) = both_step x xs (a x) (b x) refl refl refl ∙ ap (λ ys. cond (a x && b x) (x ∷ ys) ys) (filter-both xs)

-- a clause that a launch of some list made what is seen
module _ (g : LaunchGraph) (table : Table) (d : Seen) (ls : List Launch) (given : List (ℕ × Launch)) (is : given ≡ given_in g d.class ls) where
  pub makers-are : ready_vars (is_ready g table d) given ≡ vars_of (makes g table d) (numbered 0 ls)
  unfolding given_in
  makers-are =
      ap (ready_vars (is_ready g table d)) is
      ∙ ap (map (λ (p : ℕ × Launch). positive p.0)) (filter-both (λ (p : ℕ × Launch). gives g d.class p.1) (λ (p : ℕ × Launch). is_ready g table d p.1) (numbered 0 ls))

  pub clause-is : (var : ℕ) (clause : List Lit) → clause ≡ negative var ∷ ready_vars (is_ready g table d) given → clause ≡ negative var ∷ vars_of (makes g table d) (numbered 0 ls)
  clause-is var clause e = e ∙ ap (λ ys. negative var ∷ ys) makers-are

  pub clause-exists : (n var : ℕ) (clause : List Lit) → clause ≡ negative var ∷ ready_vars (is_ready g table d) given → IsLitOf n (negative var) → length ls ≤ n → All (IsLitOf n) clause
  clause-exists n var clause e lit le =
      subst (λ (ys : List Lit). All (IsLitOf n) ys) (sym (clause-is var clause e)) (All-cons (IsLitOf n) (negative var) (vars_of (makes g table d) (numbered 0 ls)) lit (vars-over (makes g table d) 0 n ls (omega arith)))

-- the clause of a target, and what is lost of it
pub target_exist : (g : LaunchGraph) (class n : ℕ) (ls : List Launch) (first k cycle : ℕ) (given : List Lit) (clause : List Lit) → given ≡ map (λ (p : ℕ × Launch). positive p.0) (given_in g class ls) → clause ≡ given ++ negated (is_lost g class cycle) (numbered first (all_overwritten g k)) → length ls ≤ n → first + length (all_overwritten g k) ≤ n → All (IsLitOf n) clause
target_exist g class n ls first k cycle given clause eg ec le over =
    subst (λ (ys : List Lit). All (IsLitOf n) ys) (sym ec)
    (All-append (IsLitOf n) given (negated (is_lost g class cycle) (numbered first (all_overwritten g k))) (given_exist g class n ls given eg le) (negated-over (is_lost g class cycle) first n (all_overwritten g k) over))

-- targets
module _ (g : LaunchGraph) (k : ℕ) (xs : List (ℕ × Launch)) (vs : List (ℕ × Overwritten)) where
  pub goals-append : (some bs : List SetClass) → target_groups g k xs vs (some ++ bs) ≡ target_groups g k xs vs some ++ target_groups g k xs vs bs
  goals-append some bs = ap (map (target_clause g k xs vs)) (filter-append (is_made_target g) some bs) ∙ map-append (target_clause g k xs vs) (filter (is_made_target g) some) (filter (is_made_target g) bs)

  pub goals-more : (sets : List SetClass) (i : ℕ) (d : SetClass) → i < length sets → target_groups g k xs vs (take (i + 1) sets) ≡ target_groups g k xs vs (take i sets) ++ target_groups g k xs vs (get_or sets i d ∷ [])
  goals-more sets i d lt = ap (target_groups g k xs vs) (take_more sets i d lt) ∙ goals-append (take i sets) (get_or sets i d ∷ [])

  pub goals-part : (sets : List SetClass) (i : ℕ) → length (target_groups g k xs vs (take i sets)) ≤ length (target_groups g k xs vs sets)
  goals-part sets i =
      let e = ap (λ (s : List SetClass). length (target_groups g k xs vs s)) (sym (take-append-drop i sets)) ∙ ap (λ (c : List (List Lit)). length c) (goals-append (take i sets) (drop i sets)) ∙ length-append (target_groups g k xs vs (take i sets)) (target_groups g k xs vs (drop i sets)) in
      omega arith

  pub goal-one : (s : SetClass) → is_made_target g s ≡ true → target_groups g k xs vs (s ∷ []) ≡ target_clause g k xs vs s ∷ []
  goal-one s e = ap (λ b. map (target_clause g k xs vs) (cond b (s ∷ []) [])) e

  pub added-target : {A E : Type 0} (r : Result A E) (f h : Formula) (s : SetClass) (clause : List Lit) → is_made_target g s ≡ true → clause ≡ target_clause g k xs vs s → OnOk r (h ≡ record f { clauses = f.clauses ++ clause ∷ [] }) → OnOk r (h ≡ with_clauses f (target_groups g k xs vs (s ∷ [])))
  added-target (Ok a) f h s clause t e w = w ∙ ap (λ (c : List Lit). with_clauses f (c ∷ [])) e ∙ ap (λ (cs : List (List Lit)). with_clauses f cs) (sym (goal-one s t))
  added-target (Err x) f h s clause t e w = tt

-- one more target, and the room that it takes
module _ (g : LaunchGraph) (k : ℕ) (xs : List (ℕ × Launch)) (vs : List (ℕ × Overwritten)) (sets : List SetClass) (i : ℕ) (d : SetClass) (f mid : Formula) (lt : i < length sets) (is : mid ≡ with_clauses f (target_groups g k xs vs (take i sets))) where
  pub goals_step : (new : Formula) → new ≡ with_clauses mid (target_groups g k xs vs (get_or sets i d ∷ [])) → new ≡ with_clauses f (target_groups g k xs vs (take (i + 1) sets))
  goals_step new n = added f mid new (target_groups g k xs vs (get_or sets i d ∷ [])) (target_groups g k xs vs (take i sets)) (target_groups g k xs vs (take (i + 1) sets)) is n (goals-more g k xs vs sets i d lt)

  pub goals_room : length f.clauses + length (target_groups g k xs vs sets) < 2 ^ 30 → length mid.clauses + length (target_groups g k xs vs (get_or sets i d ∷ [])) < 2 ^ 30
  goals_room room =
      let a = size-with f mid (target_groups g k xs vs (take i sets)) is in
      let b = goals-part g k xs vs sets (i + 1) in
      let c = ap (λ (c : List (List Lit)). length c) (goals-more g k xs vs sets i d lt) ∙ length-append (target_groups g k xs vs (take i sets)) (target_groups g k xs vs (get_or sets i d ∷ [])) in
      omega arith

-- the same of an item of a slice of the targets
module _ (g : LaunchGraph) (k : ℕ) (xs : List (ℕ × Launch)) (vs : List (ℕ × Overwritten)) (items sets : List SetClass) (i : ℕ) (item : SetClass) (f mid : Formula) (same : items ≡ sets) (lt : i < length items) (at : item ≡ get_or items i item) (is : mid ≡ with_clauses f (target_groups g k xs vs (take i sets))) where
  below : i < length sets
  below = subst (λ (ys : List SetClass). i < length ys) same lt

  item_is : get_or sets i item ≡ item
  item_is = sym (at ∙ ap (λ (ys : List SetClass). get_or ys i item) same)

  pub target_step : (new : Formula) → new ≡ with_clauses mid (target_groups g k xs vs (item ∷ [])) → new ≡ with_clauses f (target_groups g k xs vs (take (i + 1) sets))
  target_step new n = goals_step g k xs vs sets i item f mid below is new (n ∙ ap (λ (s : SetClass). with_clauses mid (target_groups g k xs vs (s ∷ []))) (sym item_is))

  pub target_room : length f.clauses + length (target_groups g k xs vs sets) < 2 ^ 30 → length mid.clauses + length (target_groups g k xs vs (item ∷ [])) < 2 ^ 30
  target_room room = subst (λ (s : SetClass). length mid.clauses + length (target_groups g k xs vs (s ∷ [])) < 2 ^ 30) item_is (goals_room g k xs vs sets i item f mid below is room)

-- operands
size-map : {X A : Type 0} (f : X → A) (xs : List X) → length (map f xs) ≡ length xs
size-map f [] = refl
size-map f (x ∷ xs) = ap suc (size-map f xs)

map-map : {X Y Z : Type 0} (f : Y → Z) (h : X → Y) (xs : List X) → map f (map h xs) ≡ map (λ x. f (h x)) xs
map-map f h [] = refl
map-map f h (x ∷ xs) = ap (λ ys. f (h x) ∷ ys) (map-map f h xs)

module _ (g : LaunchGraph) (cluster cycle until : ℕ) (ds : List (ℕ × Seen)) (vs : List (ℕ × Overwritten)) where
  pub sights-more : (var : ℕ) (needed : List ℕ) (i d : ℕ) → i < length needed → of_thing var (sights g cluster cycle until ds vs (take (i + 1) needed)) ≡ of_thing var (sights g cluster cycle until ds vs (take i needed)) ++ (negative var ∷ sight g cluster cycle until ds vs (get_or needed i d)) ∷ []
  sights-more var needed i d lt =
      ap (λ cs. of_thing var (sights g cluster cycle until ds vs cs)) (take_more needed i d lt)
      ∙ ap (of_thing var) (map-append (sight g cluster cycle until ds vs) (take i needed) (get_or needed i d ∷ []))
      ∙ map-append (λ (c : List Lit). negative var ∷ c) (sights g cluster cycle until ds vs (take i needed)) (sight g cluster cycle until ds vs (get_or needed i d) ∷ [])

  -- one more class that a launch needs
  pub sight_step : (var : ℕ) (needed : List ℕ) (i d : ℕ) (f mid new : Formula) (clause : List Lit) → i < length needed → clause ≡ negative var ∷ sight g cluster cycle until ds vs (get_or needed i d) → mid ≡ with_clauses f (of_thing var (sights g cluster cycle until ds vs (take i needed))) → new ≡ with_clauses mid (clause ∷ []) → new ≡ with_clauses f (of_thing var (sights g cluster cycle until ds vs (take (i + 1) needed)))
  sight_step var needed i d f mid new clause lt el m k =
      added f mid new (clause ∷ []) (of_thing var (sights g cluster cycle until ds vs (take i needed))) (of_thing var (sights g cluster cycle until ds vs (take (i + 1) needed))) m k
      (sights-more var needed i d lt ∙ ap (λ (c : List Lit). of_thing var (sights g cluster cycle until ds vs (take i needed)) ++ c ∷ []) (sym el))

-- a launch's
module _ (g : LaunchGraph) (table : Table) (ds : List (ℕ × Seen)) (vs : List (ℕ × Overwritten)) where
  abbrev pub clauses_of : Launch → List (List Lit)
  clauses_of l = map (operand_clause g table ds vs l) (filter (is_needed g l) (operands_at g l.row))

  pub sights-are : (l : Launch) (needed : List ℕ) → needed ≡ needed_among g l (operands_at g l.row) → sights g (cluster_of table l.slot) l.cycle (reads_until g l) ds vs needed ≡ clauses_of l
  sights-are l needed e =
      ap (sights g (cluster_of table l.slot) l.cycle (reads_until g l) ds vs) e ∙ map-map (sight g (cluster_of table l.slot) l.cycle (reads_until g l) ds vs) (λ (o : Operand). o.class) (filter (is_needed g l) (operands_at g l.row))

  pub needed-size : (l : Launch) (needed : List ℕ) → needed ≡ needed_among g l (operands_at g l.row) → length needed ≡ length (clauses_of l)
  needed-size l needed e =
      sym (size-map (sight g (cluster_of table l.slot) l.cycle (reads_until g l) ds vs) needed) ∙ ap (λ (c : List (List Lit)). length c) (sights-are l needed e)

  pub room_of : (l : Launch) (needed : List ℕ) → needed ≡ needed_among g l (operands_at g l.row) → (mid : Formula) → length mid.clauses + length (clauses_of l) < 2 ^ 30 → length mid.clauses + length needed < 2 ^ 30
  room_of l needed e mid room = (let size = needed-size l needed e in omega arith)

-- the clause that a variable implies what is seen or lost
pub sight_exist : (g : LaunchGraph) (n var class until : ℕ) (sight clause : List Lit) (test : Seen → Bool) (seen : List Seen) (old first k : ℕ) → IsLitOf n (negative var) → sight ≡ vars_of test (numbered old seen) → clause ≡ negative var ∷ (sight ++ negated (is_lost g class until) (numbered first (all_overwritten g k))) → old + length seen ≤ n → first + length (all_overwritten g k) ≤ n → All (IsLitOf n) clause
sight_exist g n var class until sight clause test seen old first k lit es ec le over =
    let lost = negated (is_lost g class until) (numbered first (all_overwritten g k)) in
    subst (λ (ys : List Lit). All (IsLitOf n) ys) (sym ec)
    (All-cons (IsLitOf n) (negative var) (sight ++ lost) lit
    (All-append (IsLitOf n) sight lost (subst (λ (ys : List Lit). All (IsLitOf n) ys) (sym es) (vars-over test old n seen le)) (negated-over (is_lost g class until) first n (all_overwritten g k) over)))

-- one more thing that is seen
pub seen_step : (g : LaunchGraph) (table : Table) (ls : List Launch) (first : ℕ) (items seen : List Seen) (i : ℕ) (d : Seen) (f mid new : Formula) (var : ℕ) → items ≡ seen → i < length items → mid ≡ with_clauses f (implied (numbered first (take i seen)) (λ d. vars_of (makes g table d) (numbered 0 ls) ∷ [])) → var ≡ first + i + 1 → new ≡ with_clauses mid ((negative var ∷ vars_of (makes g table (get_or items i d)) (numbered 0 ls)) ∷ []) → new ≡ with_clauses f (implied (numbered first (take (i + 1) seen)) (λ d. vars_of (makes g table d) (numbered 0 ls) ∷ []))
seen_step g table ls first items seen i d f mid new var same lt is ev n =
    implied_step (λ d. vars_of (makes g table d) (numbered 0 ls) ∷ []) first seen i d f mid (subst (λ (xs : List Seen). i < length xs) same lt) is var new (vars_of (makes g table (get_or items i d)) (numbered 0 ls) ∷ []) ev
    (ap (λ (xs : List Seen). vars_of (makes g table (get_or xs i d)) (numbered 0 ls) ∷ []) same) n
