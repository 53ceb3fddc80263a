-- Whether the classes of a row are right.
use Rattle.std.proofs.Common.{◌≡◌, ◌≢◌, ℕ, ◌<◌, ◌≤◌, Option, Some, None, ◌+◌, ◌⊎◌, inl, inr, List, [], ◌∷◌, ◌++◌, get_or, set, max, refl, sym, ap, ◌∙◌, arith}
use Rattle.std.proofs.lemmas.Bool.{cases_eq}
use Rattle.std.proofs.lemmas.List.{get_or-set_same, get_or-set_other, length-set}
use Rattle.std.proofs.lemmas.List.Sums.{fold_push}
use Rattle.std.proofs.lemmas.List.Elements.{Contains-push, Contains-push_cases, Contains-append_left}
use Rattle.std.specs.Option.{option_or}
use Rattle.launch_graph.proofs.Marks.{has_left, has_last, has_back}
use Rattle.std.specs.Prelude.{Contains}
use Rattle.launch_graph.specs.declared.row_lines.RowLine.{RowLine}
use Rattle.launch_graph.specs.RowFaults.{IsWrongClass, IsBadClass, operand, own, second_constant, not_next, sort_given, line_constant}
use Rattle.launch_graph.specs.ClassMarks.{HasWrongOperand}
use Rattle.launch_graph.specs.SeenRows.{IsSeen}

abbrev pub Differ : Option ℕ → Option ℕ → Type 0
Differ one two = (m : ℕ) × (n : ℕ) × (one ≡ Some m) × (two ≡ Some n) × (m ≢ n)

module _ (count : ℕ) (all before : List RowLine) (next : ℕ) (constants : List (Option ℕ)) (row : RowLine) (seen : IsSeen count before next constants) where
  pub bad_number : next < row.class → IsBadClass count all before row
  bad_number high = not_next (λ has. (let low = seen.below row.class has in absurd (omega (arith, low, high)))) (λ e. (let is = seen.next_is in absurd (omega (arith, e, is, high))))

  pub bad_constant : row.class < count → Differ (get_or constants row.class None) (line_constant row.op) → IsBadClass count all before row
  bad_constant low d =
      let t = seen.told row.class d.0 low d.2 in
      second_constant t.1 t.2 t.3 d.3 d.4

  pub no_other : (IsWrongClass count all (sort_given row.op) row.class → ⊥) → row.class < count → row.class ≤ next → (Differ (get_or constants row.class None) (line_constant row.op) → ⊥)
      → IsBadClass count all before row → HasWrongOperand count all row
  no_other right low near same (operand at class is wrong) = (at, class, is, wrong)
  no_other right low near same (own wrong) = absurd (right wrong)
  no_other right low near same (second_constant {other = other} {m = m} {n = n} has class_is one two differs) =
      let below : other.class < count = omega (arith, low, class_is) in
      let known = seen.only other m has below one in
      absurd (same (m, n, ap (λ c. get_or constants c None) (sym class_is) ∙ known, two, differs))
  no_other right low near same (not_next never differs) =
      let is = seen.next_is in
      absurd (never (seen.has row.class (omega (arith, near, is, differs))))

-- ---- one more row

either_in : (one two : Option ℕ) (m : ℕ) → option_or one two ≡ Some m → (one ≡ Some m) ⊎ (two ≡ Some m)
either_in (Some n) two m e = inl e
either_in None two m e = inr e

either_first : (one two : Option ℕ) (m : ℕ) → one ≡ Some m → option_or one two ≡ Some m
either_first one two m e = ap (λ (o : Option ℕ). option_or o two) e

either_second : (one two : Option ℕ) (m : ℕ) → ((a b : ℕ) → two ≡ Some a → one ≡ Some b → a ≡ b) → two ≡ Some m → option_or one two ≡ Some m
either_second (Some n) two m agree e = ap Some (sym (agree m n e refl))
either_second None two m agree e = e

Contains-left : (xs : List RowLine) (y x : RowLine) → Contains xs x → Contains (xs ++ y ∷ []) x
Contains-left xs y x h = Contains-append_left xs (y ∷ []) x h

pub seen_more : (count : ℕ) (before : List RowLine) (next : ℕ) (constants : List (Option ℕ)) (row : RowLine) (v : Option ℕ) → row.class < count → row.class ≤ next
    → ((m n : ℕ) → get_or constants row.class None ≡ Some m → line_constant row.op ≡ Some n → m ≡ n)
    → v ≡ option_or (line_constant row.op) (get_or constants row.class None) → IsSeen count before next constants → IsSeen count (before ++ row ∷ []) (max next (row.class + 1)) (set constants row.class v)
seen_more count before next constants row v low near agree is seen =
    let size = seen.size in
    let here : get_or (set constants row.class v) row.class None ≡ v = get_or-set_same constants row.class v None (omega arith) in
    record {
      size = length-set constants row.class v ∙ size;
      next_is = ap (λ n. max n (row.class + 1)) seen.next_is ∙ sym (fold_push (λ n (r : RowLine). max n (r.class + 1)) 0 before row);
      has = λ class less. elim (cases_eq row.class class) [
        | inl same ↦ has_last before row class same
        | inr apart ↦ has_left before row class (seen.has class (omega arith))
      ];
      below = λ class has. elim (cases_eq row.class class) [
        | inl same ↦ omega (arith, same)
        | inr apart ↦ (let old = seen.below class (has_back before row class apart has) in omega (arith, old))
      ];
      told = λ class m less e. elim (cases_eq class row.class) [
        | inl same ↦
            (let value : v ≡ Some m = sym here ∙ ap (λ c. get_or (set constants row.class v) c None) (sym same) ∙ e in
            elim (either_in (line_constant row.op) (get_or constants row.class None) m (sym is ∙ value)) [
              | inl own_one ↦ (row, Contains-push before row, sym same, own_one)
              | inr old_one ↦ (let t = seen.told row.class m low old_one in (t.0, Contains-left before row t.0 t.1, t.2 ∙ sym same, t.3))
            ])
        | inr apart ↦ (let t = seen.told class m less (sym (get_or-set_other constants row.class class v None apart) ∙ e) in (t.0, Contains-left before row t.0 t.1, t.2, t.3))
      ];
      only = λ other m has less e. elim (Contains-push_cases before row other has) [
        | inl old ↦ elim (cases_eq other.class row.class) [
          | inl same ↦
              (let known : get_or constants row.class None ≡ Some m = ap (λ c. get_or constants c None) (sym same) ∙ seen.only other m old less e in
              ap (λ c. get_or (set constants row.class v) c None) same ∙ here ∙ is ∙ either_second (line_constant row.op) (get_or constants row.class None) m agree known)
          | inr apart ↦ get_or-set_other constants row.class other.class v None apart ∙ seen.only other m old less e
        ]
        | inr same ↦
            (let own_one : line_constant row.op ≡ Some m = ap (λ (r : RowLine). line_constant r.op) same ∙ e in
            ap (λ (r : RowLine). get_or (set constants row.class v) r.class None) (sym same) ∙ here ∙ is ∙ either_first (line_constant row.op) (get_or constants row.class None) m own_one)
      ];
    }
