-- The launches of a kind, one more at a time.
use Rattle.std.proofs.Common.{◌≡◌, ℕ, ◌+◌, ◌<◌, ◌≤◌, Bool, true, false, cond, List, ◌∷◌, ◌++◌, [], length, map, take, get_or, refl, sym, ap, ◌∙◌, subst, arith}
use Rattle.std.specs.Prelude.{◌==◌, ◌&&◌, nat_le}
use Rattle.std.specs.List.{All, filter}
use Rattle.std.proofs.lemmas.List.{take_more, map-append}
use Rattle.std.proofs.lemmas.List.Elements.{filter-append, All-cons}
use Rattle.cnf_core.specs.declared.literal.Lit.{Lit}
use Rattle.cnf_core.specs.Formula.{IsLitOf}
use Rattle.machine_table.specs.declared.tables.InstrKind.{InstrKind}
use Rattle.graph_meaning.specs.declared.graphs.LaunchGraph.{LaunchGraph}
use Rattle.schedule_meaning.specs.Launches.{launches, is_store, is_branch}
use Rattle.schedule_meaning.specs.declared.schedules.Launch.{Launch}
use Rattle.cycle_encoding.specs.Shapes.{numbered, positive, negative, vars_of}
use Rattle.cycle_encoding.proofs.FamilySteps.{given-more, filter-both}
use Rattle.cycle_encoding.proofs.Blocks.{vars-over}
use Rattle.order_encoding.specs.OrderFamilies.{stores_at, branches_by}
use Rattle.order_encoding.specs.OrderSteps.{launched_in}

module _ (g : LaunchGraph) (test : InstrKind → Bool) where
  found_more : (ls : List Launch) (i : ℕ) (d : Launch) → i < length ls → launched_in g test (take (i + 1) ls) ≡ launched_in g test (take i ls) ++ cond (launches g test (get_or ls i d)) ((i + 1, get_or ls i d) ∷ []) []
  unfolding launched_in
  found_more ls i d lt = given-more (launches g test) ls i d lt

  pub found_none : launched_in g test [] ≡ []
  unfolding launched_in
  found_none = refl

  pub found_step : (ls : List Launch) (i : ℕ) (d : Launch) (b : Bool) (mid new : List (ℕ × Launch)) → i < length ls → b ≡ launches g test (get_or ls i d) → mid ≡ launched_in g test (take i ls) → new ≡ mid ++ cond b ((i + 1, get_or ls i d) ∷ []) [] → new ≡ launched_in g test (take (i + 1) ls)
  found_step ls i d b mid new lt e m n =
      n ∙ ap (λ ys. ys ++ cond b ((i + 1, get_or ls i d) ∷ []) []) m ∙ ap (λ c. launched_in g test (take i ls) ++ cond c ((i + 1, get_or ls i d) ∷ []) []) e ∙ sym (found_more ls i d lt)

  pub found_vars : (ls : List Launch) → map (λ (p : ℕ × Launch). positive p.0) (launched_in g test ls) ≡ vars_of (launches g test) (numbered 0 ls)
  unfolding launched_in
  found_vars ls = refl

  pub some_found : (also : Launch → Bool) (ls : List Launch) → map (λ (p : ℕ × Launch). positive p.0) (filter (λ (p : ℕ × Launch). also p.1) (launched_in g test ls)) ≡ vars_of (λ l. launches g test l && also l) (numbered 0 ls)
  unfolding launched_in
  some_found also ls = ap (map (λ (p : ℕ × Launch). positive p.0)) (filter-both (λ (p : ℕ × Launch). launches g test p.1) (λ (p : ℕ × Launch). also p.1) (numbered 0 ls))

-- variables of those that pass, one more at a time
module _ (test : Launch → Bool) where
  abbrev pub passing : List (ℕ × Launch) → List Lit
  passing ps = map (λ p. positive p.0) (filter (λ p. test p.1) ps)

  one_passes : (p : ℕ × Launch) (b : Bool) → map (λ (p : ℕ × Launch). positive p.0) (cond b (p ∷ []) []) ≡ cond b (positive p.0 ∷ []) []
  one_passes p true = refl
  one_passes p false = refl

  pub passing-more : (ps : List (ℕ × Launch)) (i : ℕ) (d : ℕ × Launch) → i < length ps → passing (take (i + 1) ps) ≡ passing (take i ps) ++ cond (test (get_or ps i d).1) (positive (get_or ps i d).0 ∷ []) []
  passing-more ps i d lt =
      ap passing (take_more ps i d lt)
      ∙ ap (map (λ (p : ℕ × Launch). positive p.0)) (filter-append (λ (p : ℕ × Launch). test p.1) (take i ps) (get_or ps i d ∷ []))
      ∙ map-append (λ (p : ℕ × Launch). positive p.0) (filter (λ (p : ℕ × Launch). test p.1) (take i ps)) (filter (λ (p : ℕ × Launch). test p.1) (get_or ps i d ∷ []))
      ∙ ap (λ ys. passing (take i ps) ++ ys) (one_passes (get_or ps i d) (test (get_or ps i d).1))

-- a clause that a variable implies some of those launches
module _ (g : LaunchGraph) (ls : List Launch) (found : List (ℕ × Launch)) where
  pub stores_are : (t : ℕ) → found ≡ launched_in g is_store ls → map (λ (p : ℕ × Launch). positive p.0) (filter (λ (p : ℕ × Launch). (p.1).cycle == t) found) ≡ vars_of (stores_at g t) (numbered 0 ls)
  stores_are t e = ap (passing (λ (l : Launch). l.cycle == t)) e ∙ some_found g is_store (λ (l : Launch). l.cycle == t) ls

  pub branches_are : (t : ℕ) → found ≡ launched_in g is_branch ls → map (λ (p : ℕ × Launch). positive p.0) (filter (λ (p : ℕ × Launch). nat_le (p.1).cycle t) found) ≡ vars_of (branches_by g t) (numbered 0 ls)
  branches_are t e = ap (passing (λ (l : Launch). nat_le l.cycle t)) e ∙ some_found g is_branch (λ (l : Launch). nat_le l.cycle t) ls

pub implies_exist : (test : Launch → Bool) (n var : ℕ) (ls : List Launch) (clause : List Lit) → clause ≡ negative var ∷ vars_of test (numbered 0 ls) → 1 ≤ var → var ≤ n → length ls ≤ n → All (IsLitOf n) clause
implies_exist test n var ls clause e a w le =
    subst (λ (ys : List Lit). All (IsLitOf n) ys) (sym e) (All-cons (IsLitOf n) (negative var) (vars_of test (numbered 0 ls)) (record { above = a; within = w }) (vars-over test 0 n ls (omega arith)))
