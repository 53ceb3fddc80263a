-- The variables of an axiom, one behind the other, and whether a term mentions one.
use Rattle.std.proofs.Common.{◌≡◌, ◌≢◌, ℕ, zero, suc, ◌+◌, ◌<◌, ◌≤◌, ◌==◌, ◌||◌, ◌++◌, if◌then◌else◌, Bool, true, false, nat_lt, Option, None, Some, inl, inr, List, [], ◌∷◌, map, length, take, drop, get_or, refl, sym, ap, ◌∙◌, subst, arith, slice_get, All}
use Rattle.std.specs.Prelude.{AllPairs}
use Rattle.std.specs.List.{cons_option}
use Rattle.std.proofs.lemmas.Bool.{cases_order}
use Rattle.std.proofs.lemmas.Bool.Decides.{Decides-eqb, nat_tests}
use Rattle.std.proofs.lemmas.List.{append-nil, append_assoc}
use Rattle.std.proofs.lemmas.List.Elements.{All-push}
use Rattle.std.proofs.lemmas.List.Quantifiers.{all_pairs_push}
use Rattle.text_core.specs.declared.faults.Kind.{Kind}
use Rattle.text_core.specs.declared.faults.Kind.TheVariants.{BadForm, LimitPassed}
use Rattle.text_core.specs.declared.sexps.Sexp.{Sexp}
use Rattle.text_core.specs.Faults.{IsFirst, fault_number}
use Rattle.forms.specs.Forms.{Form, atom, list, place_of, parts_of, name_in, is_list, forms_from, sexp_form, sexp_forms, Stands, names_in}
use Rattle.forms.specs.Faults.{own}
use Rattle.forms.proofs.First.{ClearTo, first_own}
use Rattle.machine_table.specs.Grammar.{Each, more_of, IsNameOf}
use Rattle.machine_table.specs.Grammar as grammar
use Rattle.goal_meaning.specs.declared.goals.DeclaredOp.{DeclaredOp}
use Rattle.goal_reader.specs.Roles as roles
use Rattle.text_core.specs.Names.{is_among}
use Rattle.goal_reader.specs.Roles.{Role, a_list, own_name, past, past_limit, too_few, no_own_name, IsOwn, part_role, IsFaultAs, mentions, mentions_any}
use Rattle.goal_meaning.specs.Names.{names_of_declared, is_reserved}
use Rattle.goal_reader.specs.Reading.{IsClear, IsOwnName}
use Rattle.goal_reader.proofs.Different.{or_left, or_right, among_apart, pairs_nil}
use Rattle.goal_reader.proofs.Growing.{clear_next, part_first}
use Rattle.goal_reader.proofs.GoalSteps.{got_more, map_more}
use Rattle.goal_reader.proofs.ItemForms.{is_name}
use Rattle.goal_reader.proofs.Keeping.{part_clear, name_free}
use Rattle.goal_reader.proofs.NewNames.{own_name_clear, among_both}
use Rattle.goal_reader.proofs.Owns as owns

-- ---- mentions
pub mentioned_list : (text wanted : List ℕ) (p : ℕ) (parts operands : List Sexp) → operands ≡ drop 1 parts → mentions wanted (list p (forms_from (sexp_forms text parts))) ≡ mentions_any wanted (forms_from (sexp_forms text operands))
mentioned_list text wanted p [] operands e = ap (λ xs. mentions_any wanted (forms_from (sexp_forms text xs))) (sym e)
mentioned_list text wanted p (x ∷ xs) operands e = ap (λ ys. mentions_any wanted (forms_from (sexp_forms text ys))) (sym e)

pub any_here : (text wanted : List ℕ) (xs : List Sexp) (i : ℕ) (x : Sexp) → i < length xs → x ≡ get_or xs i x → mentions wanted (sexp_form text x) ≡ true → mentions_any wanted (forms_from (sexp_forms text (drop i xs))) ≡ true
any_here text wanted [] i x l e m = absurd (omega (arith, l))
any_here text wanted (y ∷ ys) zero x l e m = ap (λ b. b || mentions_any wanted (forms_from (sexp_forms text ys))) (ap (λ (z : Sexp). mentions wanted (sexp_form text z)) (sym e) ∙ m)
any_here text wanted (y ∷ ys) (suc i) x l e m = any_here text wanted ys i x (omega (arith, l)) e m

pub any_none : (text wanted : List ℕ) (xs : List Sexp) (i : ℕ) → length xs ≤ i → mentions_any wanted (forms_from (sexp_forms text (drop i xs))) ≡ false
any_none text wanted [] zero l = refl
any_none text wanted [] (suc i) l = refl
any_none text wanted (y ∷ ys) zero l = absurd (omega (arith, l))
any_none text wanted (y ∷ ys) (suc i) l = any_none text wanted ys i (omega (arith, l))

-- ---- the list of variables
pub no_part : (form : Form) → is_list form ≡ false → length (parts_of form) < 1
no_part (atom p a) e = omega arith
no_part (list p parts) e = cc

pub none_left : (n : ℕ) (b : Bool) → b ≡ (n == 0) → b ≡ true → n < 1
none_left n b e t = let z = (Decides-eqb n 0).0 (sym e ∙ t) in omega (arith, z)

pub some_left : (n : ℕ) (b : Bool) → b ≡ (n == 0) → b ≡ false → 1 ≤ n
some_left zero b e f = let x : true ≡ false = sym e ∙ f in cc
some_left (suc n) b e f = omega arith

name_seen : (names : List (List ℕ)) (part : Form) (o : Option (List ℕ)) → name_in part ≡ o → IsClear (own_name names) part → (bytes : List ℕ) × (name_in part ≡ Some bytes)
name_seen names part None e clear = absurd (clear (place_of part) BadForm (own (no_own_name e) refl))
name_seen names part (Some bytes) e clear = (bytes, e)

module _ (declared : List DeclaredOp) (form : Form) where
  abbrev pub as_variables : Role
  as_variables = a_list (roles.variables declared)

  abbrev behind : List (List ℕ) → Role
  behind names = own_name (names_of_declared declared ++ names)

  pub variables_own : 1 ≤ length (parts_of form) → (k : Kind) → IsOwn as_variables form k → ⊥
  variables_own some k (too_few l) = absurd (omega (arith, some, l))

  pub role_at : (i : ℕ) (names : List (List ℕ)) → i < 8 → names ≡ names_in (take i (parts_of form)) → part_role as_variables form i ≡ Some (behind names)
  role_at i names l e =
      let t : nat_lt i 8 ≡ true = grind (arith, nat_tests, l) in
      ap (λ b. Some (if b then behind (names_in (take i (parts_of form))) else past)) t ∙ ap (λ ns. Some (behind ns)) (sym e)

  role_past : (i : ℕ) → 8 ≤ i → part_role as_variables form i ≡ Some past
  role_past i l =
      let t : nat_lt i 8 ≡ false = grind (arith, nat_tests, l) in
      ap (λ b. Some (if b then behind (names_in (take i (parts_of form))) else past)) t

  pub names_next : (i : ℕ) (part : Form) (names : List (List ℕ)) (bytes : List ℕ) → slice_get (parts_of form) i ≡ Some part → names ≡ names_in (take i (parts_of form)) → name_in part ≡ Some bytes
      → names ++ bytes ∷ [] ≡ names_in (take (i + 1) (parts_of form))
  names_next i part names bytes g e is =
      ap (λ ns. ns ++ bytes ∷ []) e ∙ sym (map_more name_in (take i (parts_of form)) part bytes is) ∙ ap names_in (sym (got_more (parts_of form) i part g))

  pub variable_clear : (i : ℕ) (part : Form) (names : List (List ℕ)) (bytes : List ℕ) → i < 8 → slice_get (parts_of form) i ≡ Some part → names ≡ names_in (take i (parts_of form))
      → IsOwnName (names_of_declared declared ++ names) part bytes → ClearTo IsOwn part_role as_variables form i → ClearTo IsOwn part_role as_variables form (i + 1)
  variable_clear i part names bytes l g e own_is clear =
      clear_next as_variables form i part (behind names) g (role_at i names l e) (own_name_clear (names_of_declared declared ++ names) part bytes own_is) clear

  module _ (low high : ℕ) (h : Stands low high form) where
    pub short_first : length (parts_of form) < 1 → IsFirst (IsFaultAs as_variables form) (place_of form) BadForm
    short_first l = first_own IsOwn part_role as_variables form low high BadForm h (too_few l) (λ k is. owns.own_at_least is)

    pub name_first : (i : ℕ) (part : Form) (names : List (List ℕ)) (place : ℕ) (kind : Kind) → 1 ≤ length (parts_of form) → i < 8 → slice_get (parts_of form) i ≡ Some part → names ≡ names_in (take i (parts_of form))
        → ClearTo IsOwn part_role as_variables form i → IsFirst (IsFaultAs (behind names) part) place kind → IsFirst (IsFaultAs as_variables form) place kind
    name_first i part names place kind some l g e clear first =
        part_first as_variables form low high i part (behind names) place kind h (variables_own some) g (role_at i names l e) clear first

    past_only : (part : Form) (k : Kind) → IsOwn past part k → 13 ≤ fault_number k
    past_only part k past_limit = omega arith

    pub ninth_first : (i : ℕ) (part : Form) (from to : ℕ) → Stands from to part → 1 ≤ length (parts_of form) → 8 ≤ i → slice_get (parts_of form) i ≡ Some part
        → ClearTo IsOwn part_role as_variables form i → IsFirst (IsFaultAs as_variables form) (place_of part) LimitPassed
    ninth_first i part from to s some l g clear =
        part_first as_variables form low high i part past (place_of part) LimitPassed h (variables_own some) g (role_past i l) clear
        (first_own IsOwn part_role past part from to LimitPassed s past_limit (past_only part))

  -- ---- what the list gives
  module _ (clear : IsClear as_variables form) where
    not_past : (i : ℕ) (part : Form) → slice_get (parts_of form) i ≡ Some part → 8 ≤ i → ⊥
    not_past i part g l = part_clear as_variables past form part i clear g (role_past i l) (place_of part) LimitPassed (own past_limit refl)

    seen_below : (i : ℕ) (part : Form) → slice_get (parts_of form) i ≡ Some part → i < 8
    seen_below i part g = elim (cases_order i 8) [
      | inl same ↦ absurd (not_past i part g (omega (arith, same)))
      | inr (inl before) ↦ before
      | inr (inr after) ↦ absurd (not_past i part g (omega (arith, after)))
    ]

    pub is_seen : (i : ℕ) (part : Form) → slice_get (parts_of form) i ≡ Some part
        → (bytes : List ℕ) × (name_in part ≡ Some bytes) × (is_reserved bytes || is_among (names_of_declared declared ++ names_in (take i (parts_of form))) bytes ≡ false)
    is_seen i part g =
        let names = names_in (take i (parts_of form)) in
        let one = part_clear as_variables (behind names) form part i clear g (role_at i names (seen_below i part g) refl) in
        let known = name_seen (names_of_declared declared ++ names) part (name_in part) refl one in
        (known.0, known.1, name_free (names_of_declared declared ++ names) part known.0 (is_name part known.0 known.1) one)

    pub some_seen : 0 < length (parts_of form)
    some_seen = elim (cases_order 0 (length (parts_of form))) [
      | inl same ↦ absurd (clear (place_of form) BadForm (own (too_few (omega (arith, same))) refl))
      | inr (inl before) ↦ before
      | inr (inr after) ↦ absurd (omega (arith, after))
    ]

-- names that differ, and that neither an operator nor the memory has
pub record AreFree (declared : List DeclaredOp) (names : List (List ℕ)) : Type 0 where
  pub pairs : AllPairs (λ m n. m ≢ n) names
  pub own : All (λ n. (is_reserved n ≡ false) × (is_among (names_of_declared declared) n ≡ false)) names

map_same : (xs : List (List ℕ)) → map (λ n. n) xs ≡ xs
map_same [] = refl
map_same (x ∷ xs) = ap (λ ys. x ∷ ys) (map_same xs)

one_free : (declared : List DeclaredOp) (names : List (List ℕ)) (bytes : List ℕ) → is_reserved bytes || is_among (names_of_declared declared ++ names) bytes ≡ false → AreFree declared names → AreFree declared (names ++ bytes ∷ [])
one_free declared names bytes f free =
    let among = or_right (is_reserved bytes) (is_among (names_of_declared declared ++ names) bytes) f in
    let split = sym (among_both (names_of_declared declared) names bytes) ∙ among in
    record {
      pairs = all_pairs_push (λ m n. m ≢ n) names bytes free.pairs
          (among_apart (λ n. n) names bytes (ap (λ ns. is_among ns bytes) (map_same names) ∙ or_right (is_among (names_of_declared declared) bytes) (is_among names bytes) split));
      own = All-push (λ n. (is_reserved n ≡ false) × (is_among (names_of_declared declared) n ≡ false)) names bytes free.own
          (or_left (is_reserved bytes) (is_among (names_of_declared declared ++ names) bytes) f, or_left (is_among (names_of_declared declared) bytes) (is_among names bytes) split);
    }

pub all_free : (declared : List DeclaredOp) (given : List (List ℕ)) (fs : List Form) → ((j : ℕ) (part : Form) → slice_get fs j ≡ Some part
    → (bytes : List ℕ) × (name_in part ≡ Some bytes) × (is_reserved bytes || is_among (names_of_declared declared ++ (given ++ names_in (take j fs))) bytes ≡ false))
    → AreFree declared given → AreFree declared (given ++ names_in fs)
all_free declared given [] h d = subst (AreFree declared) (sym (append-nil given)) d
all_free declared given (f ∷ fs) h d =
    let one = h 0 f refl in
    let n = one.0 in
    let next = one_free declared given n (subst (λ ns. is_reserved n || is_among (names_of_declared declared ++ ns) n ≡ false) (append-nil given) one.2) d in
    let here : (xs : List (List ℕ)) → given ++ cons_option (name_in f) xs ≡ (given ++ n ∷ []) ++ xs =
    λ xs. ap (λ o. given ++ cons_option o xs) one.1 ∙ sym (append_assoc given (n ∷ []) xs) in
    let rest = all_free declared (given ++ n ∷ []) fs (λ j part g. let m = h (suc j) part g in
    (m.0, m.1, subst (λ ns. is_reserved m.0 || is_among (names_of_declared declared ++ ns) m.0 ≡ false) (here (names_in (take j fs))) m.2)) next in
    subst (AreFree declared) (sym (here (names_in fs))) rest

pub none_free : (declared : List DeclaredOp) → AreFree declared []
none_free declared = record { pairs = pairs_nil (λ m n. m ≢ n); own = λ k d l. absurd (omega (arith, l)) }

pub each_named : (fs : List Form) → ((j : ℕ) (part : Form) → slice_get fs j ≡ Some part → (bytes : List ℕ) × (name_in part ≡ Some bytes)) → Each (λ f n. IsNameOf n f) fs (names_in fs)
each_named [] h = grammar.none
each_named (f ∷ fs) h =
    let one = h 0 f refl in
    subst (λ ns. Each (λ x n. IsNameOf n x) (f ∷ fs) ns) (sym (ap (λ o. cons_option o (names_in fs)) one.1)) (more_of (is_name f one.0 one.1) (each_named fs (λ j part g. h (suc j) part g)))
