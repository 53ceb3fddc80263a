use Rattle.std.proofs.Common.{◌≡◌, ℕ, Option, Some, None, true, false, List, length, map, option_map, rules, subst, sym}
use Rattle.std.specs.Prelude.{IfSome, IsTrue, ◌↔◌}
use Rattle.word_ops.specs.declared.sorts.Op.{Op}
use Rattle.word_terms.specs.Tree.{AreBelow}
use Rattle.word_terms.specs.View.{tree_of}
use Rattle.egraph.specs.Graph.{Graph}
use Rattle.alpha_encode.specs.Decoded.{decoded}
use Rattle.alpha_encode.specs.declared.instructions.Instr.{Instr}
use Rattle.goal_meaning.specs.Expanded.{expanded, expanded_target, let_terms}
use Rattle.goal_meaning.specs.Views.{goal_view, target_view}
use Rattle.goal_meaning.specs.declared.goals.InputReg.{InputReg}
use Rattle.goal_meaning.specs.declared.goals.Set.{Set}
use Rattle.code_check.specs.Answers.{AreTargetsBelow}
use Rattle.code_check.specs.Compared.{ArePresentAddresses, IsFirstDifferentTarget, IsFirstTrap, IsSameLeaving, terms_at_branch}
use Rattle.code_check.specs.Same.{HaveSameClass, memory_target_term, terms_at_end}
use Rattle.code_check.specs.Terms.{terms_at_entry}
use Rattle.code_check.proofs.Answering.{as_many}
use Rattle.code_check.proofs.Parts.{no_other, other_exit, other_guard, other_memory, other_set, trap_differs}
use Rattle.code_check.proofs.verifying.first_different.Goals as goal

pub is_same_guard-requires-clause-below : goal.is_same_guard-requires-clause-below
is_same_guard-requires-clause-below c =
    subst (λ n. IfSome (option_map tree_of c.args.goal.now.guard) (AreBelow n))
    (sym (as_many (goal_view c.args.goal.now) c.args.graph.now c.args.lets.now c.requires.lets)) c.requires.below.guard

pub first_different_target-requires-clause-below : goal.first_different_target-requires-clause-below
first_different_target-requires-clause-below c =
    subst (λ (ss : List Set). AreTargetsBelow (length c.args.lets.now) (map target_view ss)) (sym c.as_slice-sets.ensures)
    (subst (λ n. AreTargetsBelow n (map target_view c.args.goal.now.sets))
    (sym (as_many (goal_view c.args.goal.now) c.args.graph.now c.args.lets.now c.requires.lets)) c.requires.below.sets)

pub is_same_memory-requires-clause-below : goal.is_same_memory-requires-clause-below
is_same_memory-requires-clause-below c =
    subst (λ (ss : List Set). AreTargetsBelow (length c.args.lets.now) (map target_view ss)) (sym c.as_slice-sets.ensures)
    (subst (λ n. AreTargetsBelow n (map target_view c.args.goal.now.sets))
    (sym (as_many (goal_view c.args.goal.now) c.args.graph.now c.args.lets.now c.requires.lets)) c.requires.below.sets)

-- no word may trap, where none was found
no_trap : (g : Graph Op) (instrs : List Instr) {shown items : List (Option ℕ)} → shown ≡ items → {found : Option ℕ} → found ≡ None → (words : List ℕ)
    → ((is : List Instr) → map decoded words ≡ map Some is → ArePresentAddresses g is terms_at_entry shown → IsFirstTrap g is found) → map decoded words ≡ map Some instrs → ArePresentAddresses g instrs terms_at_entry items
    → IsFirstTrap g instrs None
no_trap g instrs same none words each decode addresses = subst (IsFirstTrap g instrs) none (each instrs decode (subst (ArePresentAddresses g instrs terms_at_entry) (sym same) addresses))

pub returns-in-Some : goal.returns-in-Some
returns-in-Some c = λ instrs decode of one addresses at_branch at_end.
    let g = c.args.graph.now in
    let shown = subst (ArePresentAddresses g instrs terms_at_entry) (sym c.as_slice.ensures) addresses in
    trap_differs g (expanded (goal_view c.args.goal.now)) instrs c.args.places.now c.in-Some.at (subst (IsFirstTrap g instrs) c.in-Some.is (c.in_ok-trap.ensures instrs decode shown))

pub returns-then-not-guard : goal.returns-then-not-guard
returns-then-not-guard c = λ instrs decode of one addresses at_branch at_end.
    let ts = terms_at_branch c.args.branch instrs in
    let fails : c.in_ok-guard.guard ≡ false = search rules in
    other_guard c.args.graph.now (expanded (goal_view c.args.goal.now)) instrs c.args.places.now (no_trap c.args.graph.now instrs c.as_slice.ensures c.in_default.is c.args.words.now c.in_ok-trap.ensures decode addresses) c.args.branch of one c.in_ok-guard.guard
    (c.in_ok-guard.ensures (let_terms (goal_view c.args.goal.now)) ts c.args.inserted.now.memory_at_branch c.requires.lets at_branch) fails

pub returns-then-not-exit : goal.returns-then-not-exit
returns-then-not-exit c = λ instrs decode of one addresses at_branch at_end.
    let ts = terms_at_branch c.args.branch instrs in
    let leaving : IsTrue c.is_same_leaving-exit.result ↔ IsSameLeaving c.args.graph.now c.args.goal.now.inputs c.args.branch ts =
    subst (λ (is : List InputReg). IsTrue c.is_same_leaving-exit.result ↔ IsSameLeaving c.args.graph.now is c.args.branch ts) c.as_slice-inputs.ensures (c.is_same_leaving-exit.ensures ts at_branch) in
    let holds : c.in_ok-guard.guard ≡ true = search rules in
    let fails : c.is_same_leaving-exit.result ≡ false = search rules in
    other_exit c.args.graph.now (expanded (goal_view c.args.goal.now)) instrs c.args.places.now (no_trap c.args.graph.now instrs c.as_slice.ensures c.in_default.is c.args.words.now c.in_ok-trap.ensures decode addresses) c.args.branch of one c.in_ok-guard.guard
    (c.in_ok-guard.ensures (let_terms (goal_view c.args.goal.now)) ts c.args.inserted.now.memory_at_branch c.requires.lets at_branch) holds c.is_same_leaving-exit.result
    leaving fails

pub returns-in-Some-different : goal.returns-in-Some-different
returns-in-Some-different c = λ instrs decode of one addresses at_branch at_end.
    let ts = terms_at_branch c.args.branch instrs in
    let leaving : IsTrue c.is_same_leaving-exit.result ↔ IsSameLeaving c.args.graph.now c.args.goal.now.inputs c.args.branch ts =
    subst (λ (is : List InputReg). IsTrue c.is_same_leaving-exit.result ↔ IsSameLeaving c.args.graph.now is c.args.branch ts) c.as_slice-inputs.ensures (c.is_same_leaving-exit.ensures ts at_branch) in
    let holds : c.in_ok-guard.guard ≡ true = search rules in
    let leaves : c.is_same_leaving-exit.result ≡ true = search rules in
    let g = c.args.graph.now in
    let goal = expanded (goal_view c.args.goal.now) in
    let es = let_terms (goal_view c.args.goal.now) in
    let different = subst (λ (ss : List Set). IsFirstDifferentTarget g c.args.places.now (map (expanded_target es) (map target_view ss)) (terms_at_end instrs) c.in_ok-different.different) c.as_slice-sets.ensures
    (c.in_ok-different.ensures es (terms_at_end instrs) c.args.inserted.now.memory_at_end c.requires.lets at_end) in
    let found = subst (IsFirstDifferentTarget g c.args.places.now goal.sets (terms_at_end instrs)) c.in-Some-different.is different in
    other_set g goal instrs c.args.places.now (no_trap c.args.graph.now instrs c.as_slice.ensures c.in_default.is c.args.words.now c.in_ok-trap.ensures decode addresses) c.args.branch of one c.in_ok-guard.guard
    (c.in_ok-guard.ensures (let_terms (goal_view c.args.goal.now)) ts c.args.inserted.now.memory_at_branch c.requires.lets at_branch) holds c.is_same_leaving-exit.result
    leaving leaves c.in-Some-different.set found

pub returns-then-not-same : goal.returns-then-not-same
returns-then-not-same c = λ instrs decode of one addresses at_branch at_end.
    let ts = terms_at_branch c.args.branch instrs in
    let leaving : IsTrue c.is_same_leaving-exit.result ↔ IsSameLeaving c.args.graph.now c.args.goal.now.inputs c.args.branch ts =
    subst (λ (is : List InputReg). IsTrue c.is_same_leaving-exit.result ↔ IsSameLeaving c.args.graph.now is c.args.branch ts) c.as_slice-inputs.ensures (c.is_same_leaving-exit.ensures ts at_branch) in
    let holds : c.in_ok-guard.guard ≡ true = search rules in
    let leaves : c.is_same_leaving-exit.result ≡ true = search rules in
    let fails : c.in_ok-same.same ≡ false = search rules in
    let g = c.args.graph.now in
    let goal = expanded (goal_view c.args.goal.now) in
    let es = let_terms (goal_view c.args.goal.now) in
    let different = subst (λ (ss : List Set). IsFirstDifferentTarget g c.args.places.now (map (expanded_target es) (map target_view ss)) (terms_at_end instrs) c.in_ok-different.different) c.as_slice-sets.ensures
    (c.in_ok-different.ensures es (terms_at_end instrs) c.args.inserted.now.memory_at_end c.requires.lets at_end) in
    let found : IsFirstDifferentTarget g c.args.places.now goal.sets (terms_at_end instrs) None =
    subst (IsFirstDifferentTarget g c.args.places.now goal.sets (terms_at_end instrs)) c.in_default-different.is different in
    let tells : IsTrue c.in_ok-same.same ↔ HaveSameClass g (terms_at_end instrs).memory (memory_target_term (map (expanded_target es) (map target_view c.args.goal.now.sets))) =
    subst (λ (ss : List Set). IsTrue c.in_ok-same.same ↔ HaveSameClass g (terms_at_end instrs).memory (memory_target_term (map (expanded_target es) (map target_view ss)))) c.as_slice-sets.ensures
    (c.in_ok-same.ensures es (terms_at_end instrs) c.requires.lets at_end) in
    other_memory g goal instrs c.args.places.now (no_trap c.args.graph.now instrs c.as_slice.ensures c.in_default.is c.args.words.now c.in_ok-trap.ensures decode addresses) c.args.branch of one c.in_ok-guard.guard
    (c.in_ok-guard.ensures (let_terms (goal_view c.args.goal.now)) ts c.args.inserted.now.memory_at_branch c.requires.lets at_branch) holds c.is_same_leaving-exit.result
    leaving leaves found c.in_ok-same.same tells fails

pub returns : goal.returns
returns c = λ instrs decode of one addresses at_branch at_end.
    let ts = terms_at_branch c.args.branch instrs in
    let leaving : IsTrue c.is_same_leaving-exit.result ↔ IsSameLeaving c.args.graph.now c.args.goal.now.inputs c.args.branch ts =
    subst (λ (is : List InputReg). IsTrue c.is_same_leaving-exit.result ↔ IsSameLeaving c.args.graph.now is c.args.branch ts) c.as_slice-inputs.ensures (c.is_same_leaving-exit.ensures ts at_branch) in
    let holds : c.in_ok-guard.guard ≡ true = search rules in
    let leaves : c.is_same_leaving-exit.result ≡ true = search rules in
    let same : c.in_ok-same.same ≡ true = search rules in
    let g = c.args.graph.now in
    let goal = expanded (goal_view c.args.goal.now) in
    let es = let_terms (goal_view c.args.goal.now) in
    let different = subst (λ (ss : List Set). IsFirstDifferentTarget g c.args.places.now (map (expanded_target es) (map target_view ss)) (terms_at_end instrs) c.in_ok-different.different) c.as_slice-sets.ensures
    (c.in_ok-different.ensures es (terms_at_end instrs) c.args.inserted.now.memory_at_end c.requires.lets at_end) in
    let found : IsFirstDifferentTarget g c.args.places.now goal.sets (terms_at_end instrs) None =
    subst (IsFirstDifferentTarget g c.args.places.now goal.sets (terms_at_end instrs)) c.in_default-different.is different in
    let tells : IsTrue c.in_ok-same.same ↔ HaveSameClass g (terms_at_end instrs).memory (memory_target_term (map (expanded_target es) (map target_view c.args.goal.now.sets))) =
    subst (λ (ss : List Set). IsTrue c.in_ok-same.same ↔ HaveSameClass g (terms_at_end instrs).memory (memory_target_term (map (expanded_target es) (map target_view ss)))) c.as_slice-sets.ensures
    (c.in_ok-same.ensures es (terms_at_end instrs) c.requires.lets at_end) in
    no_other g goal instrs c.args.places.now (no_trap c.args.graph.now instrs c.as_slice.ensures c.in_default.is c.args.words.now c.in_ok-trap.ensures decode addresses) c.args.branch of one c.in_ok-guard.guard
    (c.in_ok-guard.ensures (let_terms (goal_view c.args.goal.now)) ts c.args.inserted.now.memory_at_branch c.requires.lets at_branch) holds c.is_same_leaving-exit.result
    leaving leaves found c.in_ok-same.same tells same
