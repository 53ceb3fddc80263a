use Rattle.std.proofs.Common.{◌≡◌, ◌∙◌, ◌++◌, ℕ, List, [], None, map, refl, sym, ap, ap₂, subst}
use Rattle.goal_reader.specs.declared.scopes.Scope.{Scope}
use Rattle.goal_meaning.specs.declared.goals.InputReg.{InputReg}
use Rattle.goal_meaning.specs.declared.goals.Assume.{Assume}
use Rattle.goal_meaning.specs.declared.goals.Let.{Let}
use Rattle.goal_meaning.specs.declared.goals.Set.{Set}
use Rattle.goal_meaning.specs.Views.{let_view}
use Rattle.goal_reader.specs.declared.scopes.Leaf.{Leaf}
use Rattle.goal_reader.specs.declared.scopes.Named.TheVariants.{Memory}
use Rattle.goal_reader.specs.Roles.{let_scope}
use Rattle.goal_reader.specs.Grammar.{unguarded, WritesInput, WritesLets, no_lets, sorted_from}
use Rattle.machine_table.specs.Grammar.{Each}
use Rattle.machine_table.specs.Grammar as grammar
use Rattle.goal_reader.specs.Drafts.{IsAssumed, IsTargeted, IsWritten, no_pool, KeepsSoFar}
use Rattle.std.proofs.Common.{arith, ◌∷◌, ◌≢◌}
use Rattle.goal_meaning.specs.declared.goals.DeclaredOp.{DeclaredOp}
use Rattle.goal_reader.proofs.Different.{pairs_nil}
use Rattle.goal_reader.proofs.whole.start.Goals as goal

abbrev memory_leaf : List ℕ → Leaf
memory_leaf n = record { name = n; named = Memory }

abbrev scope_with : List DeclaredOp → List Leaf → Scope
scope_with ds ls = record { declared = ds; leaves = ls }

empty_written : (s : Scope) (is : List InputReg) (ls : List Let) (qs : List Assume) (ts : List Set) → is ≡ [] → ls ≡ [] → qs ≡ [] → ts ≡ []
    → s ≡ let_scope s.declared [] [] → IsWritten [] (record { scope = s; inputs = is; pool = None; lets = ls; assumes = qs; guard = None; sets = ts })
empty_written s is ls qs ts e n f g plain = record {
  sorted = refl;
  inputs = subst (λ xs. Each WritesInput [] xs) (sym e) grammar.none;
  pool = no_pool;
  lets = subst (λ (xs : List Let). WritesLets s.declared is [] [] (map let_view xs)) (sym n) no_lets;
  scope = plain ∙ ap₂ (λ xs (ys : List Let). let_scope s.declared xs (sorted_from [] (map let_view ys))) (sym e) (sym n);
  assumptions = subst (λ xs. Each (IsAssumed s) [] xs) (sym f) grammar.none;
  guard = unguarded;
  targets = subst (λ xs. Each (IsTargeted s) [] xs) (sym g) grammar.none;
}

pub returns-clause-written : goal.returns-clause-written
returns-clause-written c = empty_written _ c.new-2.result c.new-3.result c.new-4.result c.new-5.result c.new-2.ensures c.new-3.ensures c.new-4.ensures c.new-5.ensures
    (ap (scope_with c.args.declared) (c.in_ok-push.ensures.ok ∙ ap (λ (ls : List Leaf). ls ++ memory_leaf c.in_ok-name.name ∷ []) c.new-leaves.ensures ∙ ap (λ n. memory_leaf n ∷ []) c.in_ok-name.ensures))

none_kept : (declared : List DeclaredOp) (s : Scope) (is : List InputReg) (ls : List Let) (qs : List Assume) (ts : List Set) → is ≡ [] → ls ≡ [] → qs ≡ [] → ts ≡ []
    → KeepsSoFar declared (record { scope = s; inputs = is; pool = None; lets = ls; assumes = qs; guard = None; sets = ts })
none_kept declared s [] [] [] [] e n f g = record {
  input_names = pairs_nil (λ (a b : InputReg). a.name ≢ b.name);
  own_names = λ k d l. absurd (omega (arith, l));
  not_declared = λ k d l. absurd (omega (arith, l));
  leaf_names = pairs_nil (λ (a b : List ℕ). a ≢ b);
  own_lets = λ k d l. absurd (omega (arith, l));
  few_lets = omega arith;
  registers = record { pairs = pairs_nil (λ a b. a ≢ b); low = λ k d l. absurd (omega (arith, l)) };
  pins = record { pairs = pairs_nil (λ a b. a ≢ b); low = λ k d l. absurd (omega (arith, l)) };
  unpinned = λ k d l. absurd (omega (arith, l));
  targets = pairs_nil (λ (a b : Set). a.name ≢ b.name);
  few = (omega arith, omega arith, omega arith);
}
none_kept declared s (i ∷ is) ls qs ts e n f g = cc
none_kept declared s [] (l ∷ ls) qs ts e n f g = cc
none_kept declared s [] [] (q ∷ qs) ts e n f g = cc
none_kept declared s [] [] [] (t ∷ ts) e n f g = cc

pub returns-clause-keeps : goal.returns-clause-keeps
returns-clause-keeps c = none_kept _ _ c.new-2.result c.new-3.result c.new-4.result c.new-5.result c.new-2.ensures c.new-3.ensures c.new-4.ensures c.new-5.ensures
