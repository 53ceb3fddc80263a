-- The items of a goal that were read make the goal.
use Rattle.std.proofs.Common.{◌≡◌, ◌≢◌, ℕ, ◌<◌, ◌++◌, if◌then◌else◌, ◌||◌, All, Ok, Err, Result, IfOk, Bool, true, false, Option, None, Some, List, [], ◌∷◌, map, option_map, length, refl, sym, ap, ap₂, ◌∙◌, subst, arith, bytes_eq, codes}
use Rattle.std.specs.Prelude.{AllPairs}
use Rattle.std.specs.List.{cons_option, list_any}
use Rattle.std.proofs.lemmas.List.{length-map, append-nil}
use Rattle.std.proofs.lemmas.List.Elements.{All-map}
use Rattle.text_core.specs.declared.faults.Kind.TheVariants.{BadForm}
use Rattle.word_terms.specs.View.{tree_of}
use Rattle.text_core.specs.Names.{is_among}
use Rattle.forms.specs.Forms.{Form, Forms, atom, list, none, more, name, place_of, forms_from, forms_list, name_in}
use Rattle.forms.specs.Faults.{own}
use Rattle.machine_table.specs.Grammar.{Each, more_of, IsListOf, IsNameOf}
use Rattle.machine_table.specs.Grammar as grammar
use Rattle.goal_meaning.specs.declared.goals.DeclaredOp.{DeclaredOp}
use Rattle.goal_reader.specs.declared.scopes.Scope.{Scope}
use Rattle.goal_meaning.specs.declared.goals.InputReg.{InputReg}
use Rattle.goal_meaning.specs.declared.goals.Let.{Let}
use Rattle.goal_meaning.specs.declared.goals.Set.{Set}
use Rattle.goal_meaning.specs.Expanded.{let_names}
use Rattle.goal_meaning.specs.declared.goals.Goal.{Goal}
use Rattle.goal_reader.specs.declared.drafts.Draft.{Draft}
use Rattle.goal_meaning.specs.Views.{TargetTree, goal_view, let_view, assume_view, target_view}
use Rattle.goal_reader.specs.Drafts.{AreDifferent, KeepsSoFar, IsAssumed, IsTargeted, pool_read, IsDraft, IsWritten, IsPoolWritten, one_pool, pool_kept}
use Rattle.goal_reader.specs.Grammar.{WritesInput, WritesLets, WritesAssume, WritesTarget, WritesGuard, WritesPool, WritesGoal, absent, given, scope_of_goal, sorted_from}
use Rattle.goal_meaning.specs.Rules.{has_register, pins_of, KeepsRules}
use Rattle.goal_reader.specs.Reading.{IsClear, names_of_inputs, names_of_lets, pins_of_targets}
use Rattle.goal_meaning.specs.WellFormed.{input_registers}
use Rattle.goal_reader.specs.Roles as roles
use Rattle.goal_meaning.specs.Names as goal_names
use Rattle.goal_reader.specs.Roles.{a_list, no_set, rank, is_of_rank, of_rank, goal_keywords, text_keywords, items_of_goal, second_name, let_scope, Role}
use Rattle.goal_reader.proofs.Different.{back_different, or_left, or_right, pairs_map, pool_before, pool_behind}
use Rattle.goal_reader.proofs.ItemForms.{keyworded_by, is_name, list_from_list}
use Rattle.goal_reader.proofs.Keeping.{each_length}
use Rattle.goal_reader.proofs.PoolSteps.{register_both}

pub each_map : {X Y : Type 0} (W : Form → Y → Type 0) (v : X → Y) (fs : List Form) (xs : List X) → Each (λ f x. W f (v x)) fs xs → Each W fs (map v xs)
each_map W v [] [] e = grammar.none
each_map W v [] (x ∷ xs) e = elim e [ ]
each_map W v (f ∷ fs) [] e = elim e [ ]
each_map W v (f ∷ fs) (x ∷ xs) (more_of one others) = more_of one (each_map W v fs xs others)

second_part : (p : ℕ) (h : Form) (rest : Forms) (bytes : List ℕ) → second_name (list p (more h rest)) ≡ Some bytes → (first : Form) × (others : Forms) × (rest ≡ more first others) × (name_in first ≡ Some bytes)
second_part p h none bytes e = cc
second_part p h (more first others) bytes e = (first, others, refl, e)

set_there : (b : Bool) → (b ≡ false → ⊥) → b ≡ true
set_there true h = refl
set_there false h = absurd (h refl)

pub has_set : (declared : List DeclaredOp) (names : List (List ℕ)) (form : Form) → IsClear (a_list (roles.goal declared names)) form → list_any (is_of_rank goal_keywords 5) (items_of_goal form) ≡ true
has_set declared names form clear = set_there (list_any (is_of_rank goal_keywords 5) (items_of_goal form)) (λ e. clear (place_of form) BadForm (own (no_set e) refl))

kept_some : (b : Bool) (f : Form) (rest : List Form) (other : Bool) → b || other ≡ true → (other ≡ true → 0 < length rest) → 0 < length (if b then f ∷ rest else rest)
kept_some true f rest other e later = omega arith
kept_some false f rest other e later = later e

some_of_rank : (keywords : List (List ℕ)) (at : ℕ) (fs : List Form) → list_any (is_of_rank keywords at) fs ≡ true → 0 < length (of_rank keywords at fs)
some_of_rank keywords at [] e = cc
some_of_rank keywords at (f ∷ fs) e = kept_some (is_of_rank keywords at f) f (of_rank keywords at fs) (list_any (is_of_rank keywords at) fs) e (some_of_rank keywords at fs)

pool_written : (taken : List ℕ) (fs : List Form) (p : Option (List ℕ)) → IsPoolWritten fs p → WritesPool taken fs (pool_kept taken p)
pool_written taken [] None w = absent
pool_written taken fs (Some rs) (one_pool forms is each) = given forms is each
pool_written taken (f ∷ fs) None w = elim w [ ]

registers_kept : (inputs pins : List ℕ) (p : Option (List ℕ)) → AreDifferent (inputs ++ pool_read p) → AreDifferent (inputs ++ pool_kept (inputs ++ pins) p)
registers_kept inputs pins None d =
    pool_behind (inputs ++ pins) inputs (λ r f. or_left (has_register inputs r) (has_register pins r) (sym (register_both inputs pins r) ∙ f)) (subst AreDifferent (append-nil inputs) d)
registers_kept inputs pins (Some rs) d = d

pins_kept : (inputs pins : List ℕ) (p : Option (List ℕ)) → AreDifferent (pool_read p ++ pins) → AreDifferent (pool_kept (inputs ++ pins) p ++ pins)
pins_kept inputs pins None d = pool_before (inputs ++ pins) pins (λ r f. or_right (has_register inputs r) (has_register pins r) (sym (register_both inputs pins r) ∙ f)) d
pins_kept inputs pins (Some rs) d = d

viewed_names : (ls : List Let) → let_names (map let_view ls) ≡ names_of_lets ls
viewed_names [] = refl
viewed_names (l ∷ ls) = ap (λ ns. l.name ∷ ns) (viewed_names ls)

pins_viewed : (ts : List Set) → pins_of (map target_view ts) ≡ pins_of_targets ts
pins_viewed [] = refl
pins_viewed (t ∷ ts) = ap (cons_option t.pin) (pins_viewed ts)

module _ (declared : List DeclaredOp) (form : Form) (g : Goal) (d : Draft) (draft : IsDraft declared (items_of_goal form) d) (w : IsWritten (items_of_goal form) d) (k : KeepsSoFar declared d)
    (inputs : g.inputs ≡ d.inputs) (pool : g.pool ≡ pool_kept (input_registers d.inputs ++ pins_of_targets d.sets) d.pool) (lets : g.lets ≡ d.lets) (assumes : g.assumes ≡ d.assumes) (guard : g.guard ≡ d.guard) (sets : g.sets ≡ d.sets)
    (some : list_any (is_of_rank goal_keywords 5) (items_of_goal form) ≡ true) where
  lets_are : names_of_lets d.lets ≡ let_names (map let_view g.lets)
  lets_are = sym (viewed_names d.lets) ∙ ap (λ (ls : List Let). let_names (map let_view ls)) (sym lets)

  names_are : names_of_inputs d.inputs ++ names_of_lets d.lets ≡ names_of_inputs g.inputs ++ let_names (map let_view g.lets)
  names_are = ap₂ (λ is ns. names_of_inputs is ++ ns) (sym inputs) lets_are

  rules_kept : KeepsRules declared (goal_view g)
  rules_kept =
      let pins = pins_of_targets d.sets in
      let kept = pool_kept (input_registers d.inputs ++ pins) d.pool in
      let registers : AreDifferent (input_registers g.inputs ++ g.pool) =
      subst (λ rs. AreDifferent (input_registers g.inputs ++ rs)) (sym pool) (subst (λ is. AreDifferent (input_registers is ++ kept)) (sym inputs) (registers_kept (input_registers d.inputs) pins d.pool k.registers)) in
      let pins_are : pins_of (map target_view g.sets) ≡ pins = pins_viewed g.sets ∙ ap pins_of_targets sets in
      let pinned : AreDifferent (g.pool ++ pins_of (map target_view g.sets)) =
      subst (λ rs. AreDifferent (rs ++ pins_of (map target_view g.sets))) (sym pool) (subst (λ ps. AreDifferent (kept ++ ps)) (sym pins_are) (pins_kept (input_registers d.inputs) pins d.pool k.pins)) in
      let count = some_of_rank goal_keywords 5 (items_of_goal form) some in
      let same = each_length (IsTargeted d.scope) (of_rank goal_keywords 5 (items_of_goal form)) d.sets w.targets in
      let sets_length = length-map g.sets target_view in
      let assumes_length = length-map g.assumes assume_view in
      let s = ap length sets in
      let a = ap length assumes in
      let i = ap length inputs in
      let few = k.few in
      record {
        input_names = subst (λ is. AllPairs (λ (a b : InputReg). a.name ≢ b.name) is) (sym inputs) k.input_names;
        own_names = subst (λ is. All (λ (a : InputReg). goal_names.is_reserved a.name ≡ false) is) (sym inputs) k.own_names;
        not_declared = subst (λ is. All (λ (a : InputReg). is_among (goal_names.names_of_declared declared) a.name ≡ false) is) (sym inputs) k.not_declared;
        leaf_names = subst (λ ns. AllPairs (λ m n. m ≢ n) ns) names_are k.leaf_names;
        own_lets = subst (λ ns. All (λ n. (goal_names.is_reserved n ≡ false) × (is_among (goal_names.names_of_declared declared) n ≡ false)) ns) lets_are k.own_lets;
        few_lets = (let c = length-map g.lets let_view in let m = ap length lets in omega (arith, c, m, k.few_lets));
        registers = registers.pairs;
        low = registers.low;
        targets = pairs_map (λ (a b : TargetTree). a.name ≢ b.name) target_view g.sets (subst (λ ts. AllPairs (λ (a b : Set). a.name ≢ b.name) ts) (sym sets) k.targets);
        pins = pinned.pairs;
        low_pins = (back_different g.pool (pins_of (map target_view g.sets)) pinned).low;
        memory_unpinned = All-map (λ (t : TargetTree). bytes_eq t.name (codes "M") ≡ true → t.pin ≡ None) target_view g.sets
            (subst (λ ts. All (λ (t : Set). bytes_eq t.name (codes "M") ≡ true → t.pin ≡ None) ts) (sym sets) k.unpinned);
        some_target = omega (arith, count, same, sets_length, s);
        few = (omega (arith, i, few.0), omega (arith, assumes_length, a, few.1), omega (arith, sets_length, s, few.2));
      }

  abbrev scope : Scope
  scope = scope_of_goal declared (goal_view g)

  same_ops : d.scope.declared ≡ declared
  same_ops = ap (λ (s : Scope). s.declared) draft.scope

  scope_is : d.scope ≡ scope
  scope_is =
      w.scope ∙ ap (λ ds. let_scope ds d.inputs (sorted_from [] (map let_view d.lets))) same_ops ∙ ap (λ is. let_scope declared is (sorted_from [] (map let_view d.lets))) (sym inputs)
      ∙ ap (λ (ls : List Let). let_scope declared g.inputs (sorted_from [] (map let_view ls))) (sym lets)

  lets_written : WritesLets declared g.inputs [] (of_rank goal_keywords 2 (items_of_goal form)) (map let_view g.lets)
  lets_written =
      subst (λ (ls : List Let). WritesLets declared g.inputs [] (of_rank goal_keywords 2 (items_of_goal form)) (map let_view ls)) (sym lets)
      (subst (λ is. WritesLets declared is [] (of_rank goal_keywords 2 (items_of_goal form)) (map let_view d.lets)) (sym inputs)
      (subst (λ ds. WritesLets ds d.inputs [] (of_rank goal_keywords 2 (items_of_goal form)) (map let_view d.lets)) same_ops w.lets))

  pub goal_written : rank text_keywords form ≡ Some 3 → second_name form ≡ Some g.name → WritesGoal declared form (goal_view g)
  goal_written e named =
      let q = keyworded_by text_keywords 3 form e in
      let second = second_part q.place (atom q.head (name (codes "goal"))) q.rest g.name (sym (ap second_name q.is) ∙ named) in
      let first = second.0 in
      let others = second.1 in
      let whole : form ≡ list q.place (more (atom q.head (name (codes "goal"))) (more first others)) = q.is ∙ ap (λ r. list q.place (more (atom q.head (name (codes "goal"))) r)) second.2 in
      let items : items_of_goal form ≡ forms_list others = ap items_of_goal whole in
      let r : ℕ → List Form = λ n. of_rank goal_keywords n (items_of_goal form) in
      let sorted : forms_list others ≡ r 0 ++ (r 1 ++ (r 2 ++ (r 3 ++ (r 4 ++ r 5)))) = sym items ∙ w.sorted in
      let taken = input_registers g.inputs ++ pins_of (map target_view g.sets) in
      let taken_is : input_registers d.inputs ++ pins_of_targets d.sets ≡ taken =
      ap₂ (λ is ts. input_registers is ++ pins_of_targets ts) (sym inputs) (sym sets) ∙ ap (λ ps. input_registers g.inputs ++ ps) (sym (pins_viewed g.sets)) in
      let spread : more first others ≡ forms_from (first ∷ (r 0 ++ (r 1 ++ (r 2 ++ (r 3 ++ (r 4 ++ r 5)))))) = ap (more first) (list_from_list others ∙ ap forms_from sorted) in
      record {
        name_form = first;
        ins = r 0;
        pools = r 1;
        bindings = r 2;
        assumes = r 3;
        whens = r 4;
        sets = r 5;
        is = record { place = q.place; head_place = q.head; is = whole ∙ ap (λ fs. list q.place (more (atom q.head (name (codes "goal"))) fs)) spread };
        named = is_name first g.name second.3;
        inputs = subst (λ is. Each WritesInput (r 0) is) (sym inputs) w.inputs;
        pool = subst (λ rs. WritesPool taken (r 1) rs) (sym pool) (subst (λ ts. WritesPool taken (r 1) (pool_kept ts d.pool)) (sym taken_is) (pool_written taken (r 1) d.pool w.pool));
        lets = lets_written;
        assumptions = each_map (WritesAssume scope) assume_view (r 3) g.assumes
            (subst (λ xs. Each (IsAssumed scope) (r 3) xs) (sym assumes) (subst (λ (s : Scope). Each (IsAssumed s) (r 3) d.assumes) scope_is w.assumptions));
        guard = subst (λ x. WritesGuard scope (r 4) (option_map tree_of x)) (sym guard) (subst (λ (s : Scope). WritesGuard s (r 4) (option_map tree_of d.guard)) scope_is w.guard);
        targets = each_map (WritesTarget scope) target_view (r 5) g.sets
            (subst (λ xs. Each (IsTargeted scope) (r 5) xs) (sym sets) (subst (λ (s : Scope). Each (IsTargeted s) (r 5) d.sets) scope_is w.targets));
        rules = rules_kept;
      }

-- two things that hold of an answer
pub both_ok : {X E : Type 0} (P Q : X → Type 0) (r : Result X E) → IfOk r P → IfOk r Q → IfOk r (λ x. P x × Q x)
both_ok P Q (Ok x) p q = (p, q)
both_ok P Q (Err e) p q = tt
