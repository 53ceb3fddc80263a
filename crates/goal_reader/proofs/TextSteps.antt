-- The forms of a text, one behind the other: what they give, that they stand in order, and that they keep the rules.
use Rattle.std.proofs.Common.{◌≡◌, ◌≢◌, ℕ, ◌+◌, ◌<◌, ◌++◌, ◌==◌, if◌then◌else◌, Bool, true, false, Option, None, Some, inl, inr, ◌⊎◌, List, [], ◌∷◌, filter_map, length, get_or, refl, sym, ap, ◌∙◌, subst, arith, slice_get, codes}
use Rattle.std.specs.Option.{option_map_or}
use Rattle.std.specs.List.{list_any}
use Rattle.std.proofs.lemmas.Bool.{cases_order}
use Rattle.std.proofs.lemmas.Bool.Decides.{Decides-eqb}
use Rattle.std.proofs.lemmas.List.Elements.{All-push}
use Rattle.std.proofs.lemmas.List.Quantifiers.{all_pairs_push}
use Rattle.word_ops.specs.Meanings.{count_of}
use Rattle.word_ops.specs.declared.sorts.Arity.{Arity}
use Rattle.word_ops.specs.declared.sorts.Arity.TheVariants.{One, Two, Three, Four}
use Rattle.forms.specs.Forms.{Form, atom, list, none, more, name, number, parts_of, name_in, number_in}
use Rattle.forms.specs.Forms as forms
use Rattle.machine_table.specs.Grammar.{Each, IsNameOf, IsNumberOf}
use Rattle.goal_meaning.specs.declared.goals.Goal.{Goal}
use Rattle.goal_reader.specs.declared.order.Admission.TheVariants.{Admitted}
use Rattle.goal_meaning.specs.declared.goals.DeclaredOp.{DeclaredOp}
use Rattle.goal_reader.specs.declared.texts.TextDraft.{TextDraft}
use Rattle.goal_reader.specs.Drafts.{names_of_goals}
use Rattle.goal_reader.specs.Grammar.{WritesDeclaration}
use Rattle.goal_reader.specs.Order.{IsAdmission}
use Rattle.goal_reader.specs.Reading.{IsClear}
use Rattle.goal_reader.specs.Roles as roles
use Rattle.text_core.specs.Names.{is_among}
use Rattle.goal_reader.specs.Roles.{Role, Shape, a_list, a_machine, wrong, own_name, fresh_name, arity_named, declaration_in, declared_in, second_name, names_given, rank, of_rank, is_later_than, text_keywords, text_bounds, bound_at, role_in, top_role, ◌>>=◌}
use Rattle.goal_meaning.specs.Names.{is_reserved, names_of_declared}
use Rattle.goal_reader.specs.TextDrafts.{IsClearForm, IsNextForm, IsTextDraft, IsTextWritten, KeepsText, IsAxiomOf, IsGoalOf, IsTableWritten, one_table, text_role}
use Rattle.goal_reader.specs.TextDrafts as drafts
use Rattle.goal_reader.specs.TextFaults.{IsFormFault, as_role, role_at, AreClear}
use Rattle.goal_reader.proofs.Admitting.{role_told}
use Rattle.goal_reader.proofs.Different.{or_left, or_right, among_apart}
use Rattle.goal_reader.proofs.GoalSteps.{map_more, mapped_more}
use Rattle.goal_reader.proofs.ItemForms.{keyworded_by, bind_some, three, is_name}
use Rattle.goal_reader.proofs.Keeping.{part_clear, name_free, name_fresh, each_length, longer_by}
use Rattle.goal_reader.proofs.Ranks.{of_rank_more, none_of}
use Rattle.goal_reader.proofs.WrittenItems.{nothing_more, each_more, each_none, more_at, last_at}

-- ---- a declaration
pick : (b : Bool) (x a : Arity) (o : Option Arity) → (if b then Some x else o) ≡ Some a → ((b ≡ true) × (x ≡ a)) ⊎ (o ≡ Some a)
pick true x a o e = let same : x ≡ a = cc in inl (refl, same)
pick false x a o e = inr e

counted : (n k : ℕ) (x a : Arity) → (n == k) ≡ true → count_of x ≡ k → x ≡ a → n ≡ count_of a
counted n k x a t c e = (Decides-eqb n k).0 t ∙ sym c ∙ ap count_of e

nothing : (a : Arity) → None ≡ Some a → ⊥
nothing a e = cc

arity_count : (n : ℕ) (a : Arity) → arity_named n ≡ Some a → n ≡ count_of a
arity_count n a e = elim (pick (n == 1) One a _ e) [
  | inl h ↦ counted n 1 One a h.0 refl h.1
  | inr e2 ↦ elim (pick (n == 2) Two a _ e2) [
    | inl h ↦ counted n 2 Two a h.0 refl h.1
    | inr e3 ↦ elim (pick (n == 3) Three a _ e3) [
      | inl h ↦ counted n 3 Three a h.0 refl h.1
      | inr e4 ↦ elim (pick (n == 4) Four a None e4) [
        | inl h ↦ counted n 4 Four a h.0 refl h.1
        | inr e5 ↦ absurd (nothing a e5)
      ]
    ]
  ]
]

number_is : (form : Form) (n : ℕ) → number_in form ≡ Some n → IsNumberOf n form
number_is (atom p (number k)) n e = let same : k ≡ n = cc in record { place = p; is = ap (λ x. atom p (number x)) same }
number_is (atom p (name v)) n e = cc
number_is (atom p (forms.register v)) n e = cc
number_is (atom p forms.parenthesis) n e = cc
number_is (list p ps) n e = cc

declaration_writes : (declared : List DeclaredOp) (form : Form) (o : DeclaredOp) → rank text_keywords form ≡ Some 1 → declaration_in form ≡ Some o → IsClear (a_list (roles.declaration declared)) form → WritesDeclaration form o
declaration_writes declared form o e is clear =
    let k = keyworded_by text_keywords 1 form e in
    let shape : Shape = roles.declaration declared in
    let h : Form = atom k.head (name (codes "op")) in
    let all = three shape k.place h k.rest (λ rest. refl) (λ rest. refl) (subst (λ (f : Form). IsClear (a_list shape) f) k.is clear) in
    let whole : form ≡ list k.place (more h (more all.0 (more all.1 none))) = k.is ∙ ap (λ r. list k.place (more h r)) all.2 in
    let read : declaration_in (list k.place (more h (more all.0 (more all.1 none)))) ≡ Some o = sym (ap declaration_in whole) ∙ is in
    let b = bind_some (name_in all.0) (λ nm. number_in all.1 >>= (λ n. arity_named n >>= (λ ar. Some (record { name = nm; arity = ar })))) o read in
    let b2 = bind_some (number_in all.1) (λ n. arity_named n >>= (λ ar. Some (record { name = b.0; arity = ar }))) o b.2 in
    let b3 = bind_some (arity_named b2.0) (λ ar. Some (record { name = b.0; arity = ar })) o b2.2 in
    let one : record { name = b.0; arity = b3.0 } ≡ o = cc in
    record {
      first = all.0;
      second = all.1;
      is = record { place = k.place; head_place = k.head; is = whole };
      named = subst (λ n. IsNameOf n all.0) (ap (λ (x : DeclaredOp). x.name) one) (is_name all.0 b.0 b.1);
      counted = subst (λ n. IsNumberOf n all.1) (arity_count b2.0 b3.0 b3.1 ∙ ap (λ (x : DeclaredOp). count_of x.arity) one) (number_is all.1 b2.0 b2.1);
    }

-- ---- what a form adds to what the forms before give
pub same_rank : (at k : ℕ) (form : Form) (before : List Form) (b : Bool) → rank text_keywords form ≡ Some at → (at == k) ≡ b
    → of_rank text_keywords k (before ++ form ∷ []) ≡ of_rank text_keywords k before ++ (if b then form ∷ [] else [])
same_rank at k form before b e t =
    of_rank_more text_keywords k before form
    ∙ ap (λ o. of_rank text_keywords k before ++ (if option_map_or (λ r. r == k) o false then form ∷ [] else [])) e
    ∙ ap (λ x. of_rank text_keywords k before ++ (if x then form ∷ [] else [])) t

pub other_declared : (at : ℕ) (form : Form) (before : List Form) → rank text_keywords form ≡ Some at → (at == 1) ≡ false → declared_in (before ++ form ∷ []) ≡ declared_in before
other_declared at form before e t = ap (filter_map declaration_in) (same_rank at 1 form before false e t ∙ nothing_more (of_rank text_keywords 1 before))

pub other_goals : (at : ℕ) (form : Form) (before : List Form) → rank text_keywords form ≡ Some at → (at == 3) ≡ false → names_given (of_rank text_keywords 3 (before ++ form ∷ [])) ≡ names_given (of_rank text_keywords 3 before)
other_goals at form before e t = ap names_given (same_rank at 3 form before false e t ∙ nothing_more (of_rank text_keywords 3 before))

goal_named : (declared : List DeclaredOp) (form : Form) (g : Goal) → IsGoalOf declared form g → second_name form ≡ Some g.name
goal_named declared form g w = ap second_name w.is.is ∙ ap name_in w.named.is

module _ (before : List Form) (form : Form) (d : TextDraft) (h : IsTextDraft before d) where
  pub next_draft : (at : ℕ) (next : TextDraft) → rank text_keywords form ≡ Some at → IsNextForm form d at next → IsTextDraft (before ++ form ∷ []) next
  next_draft at next e (drafts.machine t is same) = record {
    declared = ap (λ (x : TextDraft). x.declared) same ∙ h.declared ∙ sym (other_declared 0 form before e refl);
    goals = ap (λ (x : TextDraft). names_of_goals x.goals) same ∙ h.goals ∙ sym (other_goals 0 form before e refl);
  }
  next_draft at next e (drafts.declaration o is same) = record {
    declared = ap (λ (x : TextDraft). x.declared) same ∙ ap (λ ds. ds ++ o ∷ []) h.declared
        ∙ sym (ap (filter_map declaration_in) (same_rank 1 1 form before true e refl) ∙ map_more declaration_in (of_rank text_keywords 1 before) form o is);
    goals = ap (λ (x : TextDraft). names_of_goals x.goals) same ∙ h.goals ∙ sym (other_goals 1 form before e refl);
  }
  next_draft at next e (drafts.equation a is same) = record {
    declared = ap (λ (x : TextDraft). x.declared) same ∙ h.declared ∙ sym (other_declared 2 form before e refl);
    goals = ap (λ (x : TextDraft). names_of_goals x.goals) same ∙ h.goals ∙ sym (other_goals 2 form before e refl);
  }
  next_draft at next e (drafts.goal g is same) = record {
    declared = ap (λ (x : TextDraft). x.declared) same ∙ h.declared ∙ sym (other_declared 3 form before e refl);
    goals = ap (λ (x : TextDraft). names_of_goals x.goals) same ∙ mapped_more (λ (x : Goal). x.name) d.goals g ∙ ap (λ ns. ns ++ g.name ∷ []) h.goals
        ∙ sym (ap names_given (same_rank 3 3 form before true e refl) ∙ map_more second_name (of_rank text_keywords 3 before) form g.name (goal_named d.declared form g is));
  }

  abbrev roles_of : List DeclaredOp → List (List ℕ) → ℕ → Role
  roles_of ds names at = get_or (a_machine ∷ a_list (roles.declaration ds) ∷ a_list (roles.equation ds) ∷ a_list (roles.goal ds names) ∷ []) at wrong

  role_same : (at : ℕ) → text_role d at ≡ top_role before at
  role_same at = ap (λ ds. roles_of ds (names_of_goals d.goals) at) h.declared ∙ ap (λ ns. roles_of (declared_in before) ns at) h.goals

  pub admitted_role : (at : ℕ) → rank text_keywords form ≡ Some at → IsAdmission text_keywords before at (bound_at text_bounds at).most Admitted → role_in text_keywords text_bounds before (top_role before) form ≡ text_role d at
  admitted_role at e admitted = role_told text_keywords text_bounds before (top_role before) form at Admitted e admitted ∙ sym (role_same at)

-- ---- the forms before have no fault
pub none_before : (all : List Form) → AreClear all 0
none_before all j form place kind l g f = absurd (omega (arith, l))

pub clear_next : (all : List Form) (i : ℕ) (form : Form) → slice_get all i ≡ Some form → IsClearForm (role_at all i form) form → AreClear all i → AreClear all (i + 1)
clear_next all i form g is clear j other place kind below got fault =
    elim (cases_order j i) [
      | inl same ↦
          let parts : Some form ≡ Some other = sym g ∙ ap (slice_get all) (sym same) ∙ got in
          let form_is : other ≡ form = cc in
          is place kind (subst (λ n. IsFormFault (role_at all n form) form place kind) same (subst (λ (f : Form). IsFormFault (role_at all j f) f place kind) form_is fault))
      | inr (inl before) ↦ clear j other place kind before got fault
      | inr (inr after) ↦ absurd (omega (arith, below, after))
    ]

-- ---- one form more
abbrev groups : List Form → List Form → List Form → List Form → List Form
groups a b c d = a ++ (b ++ (c ++ d))

module _ (before : List Form) (form : Form) (d : TextDraft) (w : IsTextWritten before d) where
  abbrev r : ℕ → List Form
  r k = of_rank text_keywords k before

  abbrev n : ℕ → List Form
  n k = of_rank text_keywords k (before ++ form ∷ [])

  module _ (at : ℕ) (e : rank text_keywords form ≡ Some at) (none_later : list_any (is_later_than text_keywords at) before ≡ false) where
    here : (k : ℕ) → (at == k) ≡ true → n k ≡ r k ++ form ∷ []
    here k t = same_rank at k form before true e t

    there : (k : ℕ) → (at == k) ≡ false → n k ≡ r k
    there k t = same_rank at k form before false e t ∙ nothing_more (r k)

    empty : (k : ℕ) → at < k → r k ≡ []
    empty k l = none_of text_keywords at k before l none_later

    behind : (k : ℕ) → at < k → (at == k) ≡ false → n k ≡ []
    behind k l t = there k t ∙ empty k l

  sorted_0 : rank text_keywords form ≡ Some 0 → list_any (is_later_than text_keywords 0) before ≡ false → before ++ form ∷ [] ≡ groups (n 0) (n 1) (n 2) (n 3)
  sorted_0 e none_later =
      ap (λ fs. fs ++ form ∷ []) (w.sorted ∙ ap (λ (x : List Form). groups (r 0) x (r 2) (r 3)) (empty 0 e none_later 1 (omega arith)) ∙ ap (λ (x : List Form). groups (r 0) [] x (r 3)) (empty 0 e none_later 2 (omega arith)) ∙ ap (λ (x : List Form). groups (r 0) [] [] x) (empty 0 e none_later 3 (omega arith)))
      ∙ sym (last_at (r 0) form)
      ∙ sym (ap (λ (x : List Form). groups x (n 1) (n 2) (n 3)) (here 0 e none_later 0 refl)
      ∙ ap (λ (x : List Form). groups (r 0 ++ form ∷ []) x (n 2) (n 3)) (behind 0 e none_later 1 (omega arith) refl)
      ∙ ap (λ (x : List Form). groups (r 0 ++ form ∷ []) [] x (n 3)) (behind 0 e none_later 2 (omega arith) refl)
      ∙ ap (λ (x : List Form). groups (r 0 ++ form ∷ []) [] [] x) (behind 0 e none_later 3 (omega arith) refl))

  sorted_1 : rank text_keywords form ≡ Some 1 → list_any (is_later_than text_keywords 1) before ≡ false → before ++ form ∷ [] ≡ groups (n 0) (n 1) (n 2) (n 3)
  sorted_1 e none_later =
      ap (λ fs. fs ++ form ∷ []) (w.sorted ∙ ap (λ (x : List Form). groups (r 0) (r 1) x (r 3)) (empty 1 e none_later 2 (omega arith)) ∙ ap (λ (x : List Form). groups (r 0) (r 1) [] x) (empty 1 e none_later 3 (omega arith)))
      ∙ sym (more_at (r 0) _ _ form (last_at (r 1) form))
      ∙ sym (ap (λ (x : List Form). groups x (n 1) (n 2) (n 3)) (there 1 e none_later 0 refl)
      ∙ ap (λ (x : List Form). groups (r 0) x (n 2) (n 3)) (here 1 e none_later 1 refl)
      ∙ ap (λ (x : List Form). groups (r 0) (r 1 ++ form ∷ []) x (n 3)) (behind 1 e none_later 2 (omega arith) refl)
      ∙ ap (λ (x : List Form). groups (r 0) (r 1 ++ form ∷ []) [] x) (behind 1 e none_later 3 (omega arith) refl))

  sorted_2 : rank text_keywords form ≡ Some 2 → list_any (is_later_than text_keywords 2) before ≡ false → before ++ form ∷ [] ≡ groups (n 0) (n 1) (n 2) (n 3)
  sorted_2 e none_later =
      ap (λ fs. fs ++ form ∷ []) (w.sorted ∙ ap (λ (x : List Form). groups (r 0) (r 1) (r 2) x) (empty 2 e none_later 3 (omega arith)))
      ∙ sym (more_at (r 0) _ _ form (more_at (r 1) _ _ form (last_at (r 2) form)))
      ∙ sym (ap (λ (x : List Form). groups x (n 1) (n 2) (n 3)) (there 2 e none_later 0 refl)
      ∙ ap (λ (x : List Form). groups (r 0) x (n 2) (n 3)) (there 2 e none_later 1 refl)
      ∙ ap (λ (x : List Form). groups (r 0) (r 1) x (n 3)) (here 2 e none_later 2 refl)
      ∙ ap (λ (x : List Form). groups (r 0) (r 1) (r 2 ++ form ∷ []) x) (behind 2 e none_later 3 (omega arith) refl))

  sorted_3 : rank text_keywords form ≡ Some 3 → list_any (is_later_than text_keywords 3) before ≡ false → before ++ form ∷ [] ≡ groups (n 0) (n 1) (n 2) (n 3)
  sorted_3 e none_later =
      ap (λ fs. fs ++ form ∷ []) (w.sorted)
      ∙ sym (more_at (r 0) _ _ form (more_at (r 1) _ _ form (more_at (r 2) _ _ form (refl))))
      ∙ sym (ap (λ (x : List Form). groups x (n 1) (n 2) (n 3)) (there 3 e none_later 0 refl)
      ∙ ap (λ (x : List Form). groups (r 0) x (n 2) (n 3)) (there 3 e none_later 1 refl)
      ∙ ap (λ (x : List Form). groups (r 0) (r 1) x (n 3)) (there 3 e none_later 2 refl)
      ∙ ap (λ (x : List Form). groups (r 0) (r 1) (r 2) x) (here 3 e none_later 3 refl))

  pub next_written : (at : ℕ) (next : TextDraft) → rank text_keywords form ≡ Some at → list_any (is_later_than text_keywords at) before ≡ false → IsNextForm form d at next → IsClearForm (text_role d at) form → (at ≡ 0 → r 0 ≡ []) → IsTextWritten (before ++ form ∷ []) next
  next_written at next e none_later (drafts.machine t is same) clear no_table_yet =
      let new = drafts.with_table d t in
      subst (IsTextWritten (before ++ form ∷ [])) (sym same) (record {
        sorted = sorted_0 e none_later;
        machine = subst (λ fs. IsTableWritten fs new.table) (sym (here 0 e none_later 0 refl)) (subst (λ fs. IsTableWritten (fs ++ form ∷ []) (Some t)) (sym (no_table_yet refl)) (one_table is));
        declared = subst (λ fs. Each WritesDeclaration fs new.declared) (sym (there 0 e none_later 1 refl)) w.declared;
        equations = subst (λ fs. Each (IsAxiomOf new.declared) fs new.axioms) (sym (there 0 e none_later 2 refl)) w.equations;
        goals = subst (λ fs. Each (IsGoalOf new.declared) fs new.goals) (sym (there 0 e none_later 3 refl)) w.goals;
      })
  next_written at next e none_later (drafts.declaration o is same) clear no_table_yet =
      let new = drafts.with_declaration d o in
      subst (IsTextWritten (before ++ form ∷ [])) (sym same) (record {
        sorted = sorted_1 e none_later;
        machine = subst (λ fs. IsTableWritten fs new.table) (sym (there 1 e none_later 0 refl)) w.machine;
        declared = subst (λ fs. Each WritesDeclaration fs new.declared) (sym (here 1 e none_later 1 refl)) (each_more WritesDeclaration (r 1) d.declared form o w.declared (declaration_writes d.declared form o e is (λ p k f. clear p k (as_role f))));
        equations = subst (λ fs. Each (IsAxiomOf new.declared) fs new.axioms) (sym (behind 1 e none_later 2 (omega arith) refl)) (each_none (IsAxiomOf d.declared) (IsAxiomOf new.declared) d.axioms (subst (λ fs. Each (IsAxiomOf d.declared) fs d.axioms) (empty 1 e none_later 2 (omega arith)) w.equations));
        goals = subst (λ fs. Each (IsGoalOf new.declared) fs new.goals) (sym (behind 1 e none_later 3 (omega arith) refl)) (each_none (IsGoalOf d.declared) (IsGoalOf new.declared) d.goals (subst (λ fs. Each (IsGoalOf d.declared) fs d.goals) (empty 1 e none_later 3 (omega arith)) w.goals));
      })
  next_written at next e none_later (drafts.equation a is same) clear no_table_yet =
      let new = drafts.with_axiom d a in
      subst (IsTextWritten (before ++ form ∷ [])) (sym same) (record {
        sorted = sorted_2 e none_later;
        machine = subst (λ fs. IsTableWritten fs new.table) (sym (there 2 e none_later 0 refl)) w.machine;
        declared = subst (λ fs. Each WritesDeclaration fs new.declared) (sym (there 2 e none_later 1 refl)) w.declared;
        equations = subst (λ fs. Each (IsAxiomOf new.declared) fs new.axioms) (sym (here 2 e none_later 2 refl)) (each_more (IsAxiomOf d.declared) (r 2) d.axioms form a w.equations is);
        goals = subst (λ fs. Each (IsGoalOf new.declared) fs new.goals) (sym (there 2 e none_later 3 refl)) w.goals;
      })
  next_written at next e none_later (drafts.goal g is same) clear no_table_yet =
      let new = drafts.with_goal d g in
      subst (IsTextWritten (before ++ form ∷ [])) (sym same) (record {
        sorted = sorted_3 e none_later;
        machine = subst (λ fs. IsTableWritten fs new.table) (sym (there 3 e none_later 0 refl)) w.machine;
        declared = subst (λ fs. Each WritesDeclaration fs new.declared) (sym (there 3 e none_later 1 refl)) w.declared;
        equations = subst (λ fs. Each (IsAxiomOf new.declared) fs new.axioms) (sym (there 3 e none_later 2 refl)) w.equations;
        goals = subst (λ fs. Each (IsGoalOf new.declared) fs new.goals) (sym (here 3 e none_later 3 refl)) (each_more (IsGoalOf d.declared) (r 3) d.goals form g w.goals is);
      })

  pub next_keeps : (at : ℕ) (next : TextDraft) → rank text_keywords form ≡ Some at → length (of_rank text_keywords at before) < (bound_at text_bounds at).most → KeepsText d → IsNextForm form d at next → IsClearForm (text_role d at) form → KeepsText next
  next_keeps at next e few k (drafts.machine t is same) clear =
      subst KeepsText (sym same) (record { op_names = k.op_names; own_names = k.own_names; goal_names = k.goal_names; few = k.few })
  next_keeps at next e few k (drafts.declaration o is same) clear =
      let role : Role = a_list (roles.declaration d.declared) in
      let is_clear : IsClear role form = λ p x f. clear p x (as_role f) in
      let wd = declaration_writes d.declared form o e is is_clear in
      let free = name_free (names_of_declared d.declared) wd.first o.name wd.named (part_clear role (own_name (names_of_declared d.declared)) form wd.first 1 is_clear (ap (λ (f : Form). slice_get (parts_of f) 1) wd.is.is) refl) in
      subst KeepsText (sym same) (record {
        op_names = all_pairs_push (λ (a b : DeclaredOp). a.name ≢ b.name) d.declared o k.op_names (among_apart (λ (x : DeclaredOp). x.name) d.declared o.name (or_right (is_reserved o.name) (is_among (names_of_declared d.declared) o.name) free));
        own_names = All-push (λ (x : DeclaredOp). is_reserved x.name ≡ false) d.declared o k.own_names (or_left (is_reserved o.name) (is_among (names_of_declared d.declared) o.name) free);
        goal_names = k.goal_names;
        few = (longer_by 16 d.declared o _ (each_length WritesDeclaration (r 1) d.declared w.declared) few, k.few.1, k.few.2);
      })
  next_keeps at next e few k (drafts.equation a is same) clear =
      subst KeepsText (sym same) (record {
        op_names = k.op_names;
        own_names = k.own_names;
        goal_names = k.goal_names;
        few = (k.few.0, longer_by 64 d.axioms a _ (each_length (IsAxiomOf d.declared) (r 2) d.axioms w.equations) few, k.few.2);
      })
  next_keeps at next e few k (drafts.goal g is same) clear =
      let names = names_of_goals d.goals in
      let role : Role = a_list (roles.goal d.declared names) in
      let is_clear : IsClear role form = λ p x f. clear p x (as_role f) in
      let fresh = name_fresh names is.name_form g.name is.named (part_clear role (fresh_name names) form is.name_form 1 is_clear (ap (λ (f : Form). slice_get (parts_of f) 1) is.is.is) refl) in
      subst KeepsText (sym same) (record {
        op_names = k.op_names;
        own_names = k.own_names;
        goal_names = all_pairs_push (λ (a b : Goal). a.name ≢ b.name) d.goals g k.goal_names (among_apart (λ (x : Goal). x.name) d.goals g.name fresh);
        few = (k.few.0, k.few.1, longer_by 64 d.goals g _ (each_length (IsGoalOf d.declared) (r 3) d.goals w.goals) few);
      })
