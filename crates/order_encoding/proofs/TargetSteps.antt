-- Clauses of the targets that are needed at the end, one target more at a time.
use Rattle.std.proofs.Common.{◌≡◌, ℕ, ◌+◌, ◌-◌, ◌<◌, ◌≤◌, ◌^◌, true, false, List, ◌∷◌, ◌++◌, [], length, take, get_or, sym, ap, ◌∙◌, subst}
use Rattle.std.specs.Prelude.{Result, OnOk}
use Rattle.std.specs.List.{All}
use Rattle.std.proofs.lemmas.List.Elements.{All-append}
use Rattle.std.proofs.lemmas.Bool.{and_from, and_left, and_right}
use Rattle.cnf_core.specs.declared.literal.Lit.{Lit}
use Rattle.cnf_core.specs.Formula.{Formula, IsLitOf}
use Rattle.graph_meaning.specs.declared.graphs.LaunchGraph.{LaunchGraph}
use Rattle.graph_meaning.specs.declared.graphs.SetClass.{SetClass}
use Rattle.schedule_meaning.specs.declared.schedules.Launch.{Launch}
use Rattle.cycle_encoding.specs.Families.{is_lost, is_made_target}
use Rattle.cycle_encoding.specs.Shapes.{negated, numbered, vars_of}
use Rattle.cycle_encoding.proofs.Blocks.{vars-over}
use Rattle.cycle_encoding.proofs.Lost.{negated-over}
use Rattle.cycle_encoding.specs.Steps.{with_clauses}
use Rattle.cycle_encoding.specs.Variables.{Overwritten}
use Rattle.cycle_encoding.proofs.Adding.{then_added, with-none}
use Rattle.order_encoding.specs.LiveVariables.{Need, is_pooled}
use Rattle.order_encoding.specs.LiveFamilies.{is_need_at, is_pooled_target, target_groups, target_needs}
use Rattle.order_encoding.proofs.AddSteps.{then_is}
use Rattle.order_encoding.proofs.NeedSteps.{those-none, those-one, those_room, those_step}

module _ (g : LaunchGraph) (k : ℕ) (xs : List (ℕ × Launch)) (ns : List (ℕ × Need)) (vs : List (ℕ × Overwritten)) where
  module _ (items sets : List SetClass) (i : ℕ) (item : SetClass) (f mid : Formula) (same : items ≡ sets) (lt : i < length items) (at : item ≡ get_or items i item) (is : mid ≡ with_clauses f (target_groups g k xs ns vs (take i sets))) where
    inside : i < length sets
    inside = subst (λ (ys : List SetClass). i < length ys) same lt

    here : get_or sets i item ≡ item
    here = ap (λ (ys : List SetClass). get_or ys i item) (sym same) ∙ sym at

    pub last_step : (new : Formula) → new ≡ with_clauses mid (target_groups g k xs ns vs (item ∷ [])) → new ≡ with_clauses f (target_groups g k xs ns vs (take (i + 1) sets))
    last_step new e =
        those_step (target_needs g k ns vs) (is_pooled_target g xs) sets i item f mid inside is new
        (e ∙ ap (λ (s : SetClass). with_clauses mid (target_groups g k xs ns vs (s ∷ []))) (sym here))

    pub last_room : length f.clauses + length (target_groups g k xs ns vs sets) < 2 ^ 30 → length mid.clauses + length (target_groups g k xs ns vs (item ∷ [])) < 2 ^ 30
    last_room room =
        subst (λ (s : SetClass). length mid.clauses + length (target_groups g k xs ns vs (s ∷ [])) < 2 ^ 30) here
        (those_room (target_needs g k ns vs) (is_pooled_target g xs) sets i item f mid inside is room)

  -- one target
  pub not_made : (s : SetClass) (f : Formula) → is_made_target g s ≡ false → f ≡ with_clauses f (target_groups g k xs ns vs (s ∷ []))
  not_made s f e = with-none f ∙ ap (with_clauses f) (sym (those-none (target_needs g k ns vs) (is_pooled_target g xs) s (and_left (is_made_target g s) (is_pooled g xs s.class) e)))

  pub not_pooled : (s : SetClass) (f : Formula) → is_pooled g xs s.class ≡ false → f ≡ with_clauses f (target_groups g k xs ns vs (s ∷ []))
  not_pooled s f e = with-none f ∙ ap (with_clauses f) (sym (those-none (target_needs g k ns vs) (is_pooled_target g xs) s (and_right (is_made_target g s) (is_pooled g xs s.class) e)))

  pub target_is : (s : SetClass) → is_made_target g s ≡ true → is_pooled g xs s.class ≡ true → target_groups g k xs ns vs (s ∷ []) ≡ target_needs g k ns vs s ∷ []
  target_is s m p = those-one (target_needs g k ns vs) (is_pooled_target g xs) s (and_from (is_made_target g s) (is_pooled g xs s.class) m p)

  pub target_room : (s : SetClass) (n : ℕ) → is_made_target g s ≡ true → is_pooled g xs s.class ≡ true → n + length (target_groups g k xs ns vs (s ∷ [])) < 2 ^ 30 → n + 1 < 2 ^ 30
  target_room s n m p room = subst (λ (cs : List (List Lit)). n + length cs < 2 ^ 30) (target_is s m p) room

  pub target_added : {A E : Type 0} (r : Result A E) (f h : Formula) (s : SetClass) (clause : List Lit) → is_made_target g s ≡ true → is_pooled g xs s.class ≡ true → clause ≡ target_needs g k ns vs s → OnOk r (h ≡ record f { clauses = f.clauses ++ clause ∷ [] }) → OnOk r (h ≡ with_clauses f (target_groups g k xs ns vs (s ∷ [])))
  target_added r f h s clause m p e ok = then_is r f h (target_needs g k ns vs s ∷ []) (target_groups g k xs ns vs (s ∷ [])) (sym (target_is s m p)) (then_added r f h clause (target_needs g k ns vs s) ok e)

-- the literals of its clause exist
pub clause_exist : (g : LaunchGraph) (class n k first second : ℕ) (needs : List Need) (over : List Overwritten) (clause : List Lit) → clause ≡ vars_of (is_need_at class (k - 1)) (numbered first needs) ++ negated (is_lost g class k) (numbered second over) → first + length needs ≤ n → second + length over ≤ n → All (IsLitOf n) clause
clause_exist g class n k first second needs over clause e p q =
    subst (λ (ls : List Lit). All (IsLitOf n) ls) (sym e)
    (All-append (IsLitOf n) (vars_of (is_need_at class (k - 1)) (numbered first needs)) (negated (is_lost g class k) (numbered second over))
    (vars-over (is_need_at class (k - 1)) first n needs p) (negated-over (is_lost g class k) second n over q))
