-- Forms of lifts that have no parts which are examined: their first fault, and when they have none.
use Rattle.std.proofs.Common.{◌≡◌, ℕ, ◌≤◌, ◌^◌, ◌&&◌, ◌||◌, ◌++◌, ◌⊎◌, Bool, true, false, Option, None, Some, List, [], ◌∷◌, length, refl, sym, ap, ◌∙◌, arith, inl, inr}
use Rattle.std.specs.Prelude.{is_some, not, nat_lt}
use Rattle.std.proofs.lemmas.Bool.{and_parts}
use Rattle.std.proofs.lemmas.Bool.Decides.{nat_tests}
use Rattle.std.proofs.lemmas.Option.{none-some, same_Some}
use Rattle.text_core.specs.Names.{is_among}
use Rattle.text_core.specs.declared.faults.Kind.{Kind}
use Rattle.text_core.specs.declared.faults.Kind.TheVariants.{BadForm, LimitPassed, BadWord}
use Rattle.text_core.specs.Faults.{fault_number, IsFirst}
use Rattle.forms.specs.Faults.{own, inside}
use Rattle.forms.specs.Forms.{Form, place_of, name_in, number_in, Stands}
use Rattle.forms.proofs.First.{first_own, no_fault}
use Rattle.alpha_encode.specs.Decoded.{decoded}
use Rattle.code_check.specs.Compared.{branch_of}
use Rattle.goal_meaning.specs.Rules.{has_register}
use Rattle.goal_reader.specs.Roles.{Role, IsOwn, IsFaultAs, part_role, fresh_name, fresh_register, no_register, bad_register, register_given, register_of, registers_in}
use Rattle.goal_reader.proofs.NewNames.{fresh_name_clear, fresh_register_clear}
use Rattle.goal_reader.proofs.Owns as owns
use Rattle.code_lift.specs.Lifted.{Lifting, inputs_read}
use Rattle.code_lift.specs.LiftReading.{IsClearInLift, IsFirstInLift, KeepsGoalLimits}
use Rattle.code_lift.specs.LiftRoles.{LiftRole, a_word, has_many_assumes, has_many_inputs, has_many_sets, is_plain_word, lift_name, lift_part_role, lifted_in, out_register, past, pool_register, wrong, IsLiftFaultAs, IsOwnLiftFault, many_assumes, many_inputs, many_sets, name_fault, no_number, no_words, out_fault, past_limit, pool_fault, short_lift, stray_word, wrong_part}
use Rattle.code_lift.specs.WellFormed.{IsPlainWord}

-- no fault of a form has a lower number than BadForm
pub own_at_least : {role : LiftRole} {form : Form} {kind : Kind} → IsOwnLiftFault role form kind → 6 ≤ fault_number kind
own_at_least (short_lift h) = omega arith
own_at_least (name_fault is) = owns.own_at_least is
own_at_least (no_words h) = omega arith
own_at_least (no_number h) = omega arith
own_at_least (stray_word h i) = omega arith
own_at_least (many_inputs h i j) = omega arith
own_at_least (many_assumes h i j) = omega arith
own_at_least (out_fault is) = owns.own_at_least is
own_at_least (many_sets h i) = omega arith
own_at_least (pool_fault is) = owns.own_at_least is
own_at_least wrong_part = omega arith
own_at_least past_limit = omega arith

abbrev pub HasNone : LiftRole → Form → Type 0
HasNone role form = (kind : Kind) → IsOwnLiftFault role form kind → ⊥

-- a role whose forms have no parts that are examined
pub leaf_clear : (role : LiftRole) (form : Form) → ((at : ℕ) → lift_part_role role form at ≡ None) → HasNone role form → IsClearInLift role form
leaf_clear role form nothing clear = no_fault IsOwnLiftFault lift_part_role role form clear (λ j part other place kind g e fault. let f : None ≡ Some other = sym (nothing j) ∙ e in absurd (none-some other f))

own_first : (role : LiftRole) (form : Form) (low high : ℕ) (kind : Kind) → Stands low high form → IsOwnLiftFault role form kind → ((k : Kind) → IsOwnLiftFault role form k → fault_number kind ≤ fault_number k) → IsFirstInLift role form (place_of form) kind
own_first role form low high kind h is least = first_own IsOwnLiftFault lift_part_role role form low high kind h is least

-- BadForm comes before all others
pub form_first : (role : LiftRole) (form : Form) (low high : ℕ) → Stands low high form → IsOwnLiftFault role form BadForm → IsFirstInLift role form (place_of form) BadForm
form_first role form low high h is = own_first role form low high BadForm h is (λ k o. own_at_least o)

pub wrong_first : (form : Form) (low high : ℕ) → Stands low high form → IsFirstInLift wrong form (place_of form) BadForm
wrong_first form low high h = form_first wrong form low high h wrong_part

pub past_first : (form : Form) (low high : ℕ) → Stands low high form → IsFirstInLift past form (place_of form) LimitPassed
past_first form low high h = own_first past form low high LimitPassed h past_limit least
  where
    least : (k : Kind) → IsOwnLiftFault past form k → 13 ≤ fault_number k
    least k past_limit = omega arith

pub true_false : {b : Bool} → b ≡ true → b ≡ false → ⊥
true_false {b} t f = apart (sym t ∙ f)
  where
    apart : true ≡ false → ⊥
    apart e = cc

same : {X : Type 0} (o : Option X) (x y : X) → o ≡ Some x → o ≡ Some y → x ≡ y
same o x y e f = same_Some x y (sym e ∙ f)

-- ---- names and registers, whose faults are those of goals

-- a form without parts that are examined has faults of its own alone
goal_own : {r : Role} {f : Form} {p : ℕ} {k : Kind} → IsFaultAs r f p k → ((at : ℕ) → part_role r f at ≡ None) → IsOwn r f k × (p ≡ place_of f)
goal_own (own is placed) none = (is, placed)
goal_own (inside at part other a b g e fault) none = absurd (none-some other (sym (none at) ∙ e))

lift_own : {r : LiftRole} {f : Form} {p : ℕ} {k : Kind} → IsLiftFaultAs r f p k → ((at : ℕ) → lift_part_role r f at ≡ None) → IsOwnLiftFault r f k × (p ≡ place_of f)
lift_own (own is placed) none = (is, placed)
lift_own (inside at part other a b g e fault) none = absurd (none-some other (sym (none at) ∙ e))

-- a role of goals whose faults a role of lifts has, too, beside others of higher numbers
module _ (of : Role) (role : LiftRole) (form : Form) (leaf : (at : ℕ) → part_role of form at ≡ None) (here : (at : ℕ) → lift_part_role role form at ≡ None)
    (to : (k : Kind) → IsOwn of form k → IsOwnLiftFault role form k) (from : (j k : Kind) → IsOwn of form j → IsOwnLiftFault role form k → IsOwn of form k ⊎ (fault_number j ≤ fault_number k)) where
  embedded_first : (place : ℕ) (kind : Kind) → IsFirst (IsFaultAs of form) place kind → IsFirstInLift role form place kind
  embedded_first place kind first =
      let found = goal_own first.found leaf in
      record {
        found = own (to kind found.0) found.1;
        earliest = λ p k fault.
            let other = lift_own fault here in
            elim (from kind k found.0 other.0) [
              | inl is ↦ first.earliest p k (own is other.1)
              | inr less ↦ inr (found.1 ∙ sym other.1, less)
            ];
      }

only_name : (names : List (List ℕ)) (form : Form) (k : Kind) → IsOwnLiftFault (lift_name names) form k → IsOwn (fresh_name names) form k
only_name names form k (name_fault is) = is

only_pool : (given : List ℕ) (form : Form) (k : Kind) → IsOwnLiftFault (pool_register given) form k → IsOwn (fresh_register given) form k
only_pool given form k (pool_fault is) = is

pub name_first : (names : List (List ℕ)) (form : Form) (place : ℕ) (kind : Kind) → IsFirst (IsFaultAs (fresh_name names) form) place kind → IsFirstInLift (lift_name names) form place kind
name_first names form = embedded_first (fresh_name names) (lift_name names) form (λ at. refl) (λ at. refl) (λ k is. name_fault is) (λ j k is fault. inl (only_name names form k fault))

pub name_clear : (names : List (List ℕ)) (form : Form) (bytes : List ℕ) → name_in form ≡ Some bytes → is_among names bytes ≡ false → IsClearInLift (lift_name names) form
name_clear names form bytes n fresh = leaf_clear (lift_name names) form (λ at. refl) (λ k fault. fresh_name_clear names form bytes n fresh (place_of form) k (own (only_name names form k fault) refl))

pub pool_register_first : (given : List ℕ) (form : Form) (place : ℕ) (kind : Kind) → IsFirst (IsFaultAs (fresh_register given) form) place kind → IsFirstInLift (pool_register given) form place kind
pool_register_first given form = embedded_first (fresh_register given) (pool_register given) form (λ at. refl) (λ at. refl) (λ k is. pool_fault is) (λ j k is fault. inl (only_pool given form k fault))

pub pool_register_clear : (given : List ℕ) (form : Form) (r : ℕ) → register_of form ≡ Some r → has_register given r ≡ false → IsClearInLift (pool_register given) form
pool_register_clear given form r e fresh = leaf_clear (pool_register given) form (λ at. refl) (λ k fault. fresh_register_clear given form r e fresh (place_of form) k (own (only_pool given form k fault) refl))

-- ---- registers of `out`
module _ (words before : List Form) (form : Form) where
  abbrev given : List ℕ
  given = registers_in before

  below_limit : (j : Kind) → IsOwn (fresh_register given) form j → fault_number j ≤ 13
  below_limit j (no_register h) = omega arith
  below_limit j (bad_register h i) = omega arith
  below_limit j (register_given h i) = omega arith

  from_out : (j k : Kind) → IsOwn (fresh_register given) form j → IsOwnLiftFault (out_register words before) form k → IsOwn (fresh_register given) form k ⊎ (fault_number j ≤ fault_number k)
  from_out j k is (out_fault other) = inl other
  from_out j k is (many_sets e many) = inr (below_limit j is)

  pub out_register_first : (place : ℕ) (kind : Kind) → IsFirst (IsFaultAs (fresh_register given) form) place kind → IsFirstInLift (out_register words before) form place kind
  out_register_first = embedded_first (fresh_register given) (out_register words before) form (λ at. refl) (λ at. refl) (λ k is. out_fault is) from_out

  module _ (r : ℕ) (e : register_of form ≡ Some r) (fresh : has_register given r ≡ false) where
    no_register_fault : (k : Kind) → IsOwn (fresh_register given) form k → ⊥
    no_register_fault k is = fresh_register_clear given form r e fresh (place_of form) k (own is refl)

    pub out_register_clear : has_many_sets (lifted_in words) (registers_in (before ++ form ∷ [])) ≡ false → IsClearInLift (out_register words before) form
    out_register_clear few = leaf_clear (out_register words before) form (λ at. refl) none
      where
        none : HasNone (out_register words before) form
        none k (out_fault is) = no_register_fault k is
        none k (many_sets h many) = true_false many few

    pub many_sets_first : (low high : ℕ) → Stands low high form → has_many_sets (lifted_in words) (registers_in (before ++ form ∷ [])) ≡ true → IsFirstInLift (out_register words before) form (place_of form) LimitPassed
    many_sets_first low high h many = own_first (out_register words before) form low high LimitPassed h (many_sets e many) least
      where
        least : (k : Kind) → IsOwnLiftFault (out_register words before) form k → 13 ≤ fault_number k
        least k (out_fault is) = absurd (no_register_fault k is)
        least k (many_sets i j) = omega arith

-- ---- words

pub plain_true : (n : ℕ) → IsPlainWord n → is_plain_word n ≡ true
plain_true n h =
    let low = h.low in
    let less : nat_lt n (2 ^ 32) ≡ true = grind (arith, nat_tests, low) in
    ap (λ b. b && (is_some (decoded n) && not (is_some (branch_of (decoded n))))) less
    ∙ ap (λ o. is_some o && not (is_some (branch_of (decoded n)))) h.is ∙ ap (λ o. not (is_some o)) h.plain

some_of : {X : Type 0} (o : Option X) → is_some o ≡ true → (x : X) × (o ≡ Some x)
some_of None e = cc
some_of (Some x) e = (x, refl)

none_of : {X : Type 0} (o : Option X) → not (is_some o) ≡ true → o ≡ None
none_of None e = refl
none_of (Some x) e = cc

pub plain_from : (n : ℕ) → is_plain_word n ≡ true → IsPlainWord n
plain_from n e =
    let first = and_parts (nat_lt n (2 ^ 32)) (is_some (decoded n) && not (is_some (branch_of (decoded n)))) e in
    let second = and_parts (is_some (decoded n)) (not (is_some (branch_of (decoded n)))) first.1 in
    let less = first.0 in
    let instr = some_of (decoded n) second.0 in
    record {
      low = grind (arith, nat_tests, less);
      instr = instr.0;
      is = instr.1;
      plain = none_of (branch_of (decoded n)) second.1;
    }

pub not_plain : (n : ℕ) → 2 ^ 32 ≤ n → is_plain_word n ≡ false
not_plain n above =
    let less : nat_lt n (2 ^ 32) ≡ false = grind (arith, nat_tests, above) in
    ap (λ b. b && (is_some (decoded n) && not (is_some (branch_of (decoded n))))) less

pub few_within : (s : Lifting) → (has_many_inputs s || has_many_assumes s) ≡ false → KeepsGoalLimits s
few_within s e =
    let p = both (has_many_inputs s) (has_many_assumes s) e in
    record { inputs = most 16 (length (inputs_read s)) p.0; assumes = most 16 (length s.addresses) p.1 }
  where
    most : (n m : ℕ) → nat_lt n m ≡ false → m ≤ n
    most n m less = grind (arith, nat_tests, less)

    both : (a b : Bool) → (a || b) ≡ false → (a ≡ false) × (b ≡ false)
    both false b f = (refl, f)
    both true b f = absurd (true_false refl f)

module _ (before : List Form) (form : Form) where
  abbrev behind : List Form
  behind = before ++ form ∷ []

  pub word_clear : (n : ℕ) → number_in form ≡ Some n → is_plain_word n ≡ true → has_many_inputs (lifted_in behind) ≡ false → has_many_assumes (lifted_in behind) ≡ false → IsClearInLift (a_word before) form
  word_clear n e plain inputs assumes = leaf_clear (a_word before) form (λ at. refl) none
    where
      none : HasNone (a_word before) form
      none k (no_number h) = none-some n (sym h ∙ e)
      none k (stray_word {n = m} h i) = true_false plain (ap is_plain_word (same (number_in form) n m e h) ∙ i)
      none k (many_inputs h i j) = true_false j inputs
      none k (many_assumes h i j) = true_false j assumes

  pub no_number_first : (low high : ℕ) → Stands low high form → number_in form ≡ None → IsFirstInLift (a_word before) form (place_of form) BadForm
  no_number_first low high h e = form_first (a_word before) form low high h (no_number e)

  pub stray_first : (low high n : ℕ) → Stands low high form → number_in form ≡ Some n → is_plain_word n ≡ false → IsFirstInLift (a_word before) form (place_of form) BadWord
  stray_first low high n h e stray = own_first (a_word before) form low high BadWord h (stray_word e stray) least
    where
      least : (k : Kind) → IsOwnLiftFault (a_word before) form k → 20 ≤ fault_number k
      least k (no_number i) = absurd (none-some n (sym i ∙ e))
      least k (stray_word i j) = omega arith
      least k (many_inputs {n = m} i j l) = absurd (true_false j (ap is_plain_word (same (number_in form) m n i e) ∙ stray))
      least k (many_assumes {n = m} i j l) = absurd (true_false j (ap is_plain_word (same (number_in form) m n i e) ∙ stray))

  pub limit_first : (low high n : ℕ) → Stands low high form → number_in form ≡ Some n → is_plain_word n ≡ true → (has_many_inputs (lifted_in behind) || has_many_assumes (lifted_in behind)) ≡ true → IsFirstInLift (a_word before) form (place_of form) LimitPassed
  limit_first low high n h e plain many = own_first (a_word before) form low high LimitPassed h (which (has_many_inputs (lifted_in behind)) refl many) least
    where
      which : (b : Bool) → has_many_inputs (lifted_in behind) ≡ b → (b || has_many_assumes (lifted_in behind)) ≡ true → IsOwnLiftFault (a_word before) form LimitPassed
      which true is f = many_inputs e plain is
      which false is f = many_assumes e plain f

      least : (k : Kind) → IsOwnLiftFault (a_word before) form k → 13 ≤ fault_number k
      least k (no_number i) = absurd (none-some n (sym i ∙ e))
      least k (stray_word {n = m} i j) = omega arith
      least k (many_inputs i j l) = omega arith
      least k (many_assumes i j l) = omega arith
