-- Lists of forms, each of which is read behind those before it: when the first so many have no fault, and which fault is
-- the first of a form that has such a list behind its keyword and its name.
use Rattle.std.proofs.Common.{◌≡◌, ℕ, zero, suc, ◌+◌, ◌<◌, ◌≤◌, ◌++◌, Option, None, Some, List, [], ◌∷◌, length, take, drop, refl, sym, ap, ◌∙◌, subst, arith, slice_get, option_map, inl, inr, length-append}
use Rattle.std.proofs.lemmas.Bool.{cases_order}
use Rattle.std.proofs.lemmas.Option.{same_Some}
use Rattle.text_core.specs.declared.faults.Kind.{Kind}
use Rattle.forms.specs.Forms.{Form, parts_of, Stands}
use Rattle.goal_reader.specs.Roles.{items_of_goal}
use Rattle.goal_reader.proofs.GoalSteps.{got_dropped}
use Rattle.proc_goal.specs.ProcReading.{IsClearProc, IsFirstAs, AreClearTo, IsFirstAmong}
use Rattle.proc_goal.specs.ProcRoles.{ProcRole, IsProcFaultAs, proc_part_role}
use Rattle.proc_goal.proofs.Leaves.{HasNone, ClearParts, part_first, all_clear}

abbrev pub Behind : Type 0
Behind = List Form → Form → ProcRole

-- behind other forms
abbrev pub after : List Form → Behind → Behind
after front R = λ before form. R (front ++ before) form

got_front : (xs ys : List Form) (k : ℕ) → k < length xs → slice_get (xs ++ ys) k ≡ slice_get xs k
got_front [] ys k l = absurd (omega (arith, l))
got_front (x ∷ xs) ys zero l = refl
got_front (x ∷ xs) ys (suc k) l = got_front xs ys k (omega (arith, l))

got_back : (xs ys : List Form) (k : ℕ) → slice_get (xs ++ ys) (length xs + k) ≡ slice_get ys k
got_back [] ys k = ap (slice_get ys) (let e : 0 + k ≡ k = omega arith in e)
got_back (x ∷ xs) ys k = ap (slice_get (x ∷ (xs ++ ys))) (let e : suc (length xs) + k ≡ suc (length xs + k) = omega arith in e) ∙ got_back xs ys k

took_back : (xs ys : List Form) (k : ℕ) → take (length xs + k) (xs ++ ys) ≡ xs ++ take k ys
took_back [] ys k = ap (λ n. take n ys) (let e : 0 + k ≡ k = omega arith in e)
took_back (x ∷ xs) ys k = ap (λ n. take n (x ∷ (xs ++ ys))) (let e : suc (length xs) + k ≡ suc (length xs + k) = omega arith in e) ∙ ap (λ fs. x ∷ fs) (took_back xs ys k)

took_front : (xs ys : List Form) (k : ℕ) → k ≤ length xs → take k (xs ++ ys) ≡ take k xs
took_front xs ys zero l = refl
took_front [] ys (suc k) l = absurd (omega (arith, l))
took_front (x ∷ xs) ys (suc k) l = ap (λ fs. x ∷ fs) (took_front xs ys k (omega (arith, l)))

module _ (R : Behind) (forms : List Form) where
  pub none_clear : AreClearTo R forms 0
  none_clear k form l g = absurd (omega (arith, l))

  pub one_more_clear : (i : ℕ) (form : Form) → slice_get forms i ≡ Some form → IsClearProc (R (take i forms) form) form → AreClearTo R forms i → AreClearTo R forms (i + 1)
  one_more_clear i form g is clear k other l h = elim (cases_order k i) [
    | inl same ↦
        (let form_is : form ≡ other = same_Some form other (sym g ∙ ap (slice_get forms) (sym same) ∙ h) in
        subst (λ n. IsClearProc (R (take n forms) other) other) (sym same) (subst (λ (f : Form). IsClearProc (R (take i forms) f) f) form_is is))
    | inr (inl before) ↦ clear k other before h
    | inr (inr later) ↦ absurd (omega (arith, l, later))
  ]

  pub fewer_clear : (m n : ℕ) → m ≤ n → AreClearTo R forms n → AreClearTo R forms m
  fewer_clear m n le clear k form l g = clear k form (omega (arith, l, le)) g

split : (a k : ℕ) → a ≤ k → (j : ℕ) × (k ≡ a + j)
split zero k l = (k, omega arith)
split (suc a) zero l = absurd (omega (arith, l))
split (suc a) (suc k) l = let r = split a k (omega (arith, l)) in let e = r.1 in (r.0, omega (arith, e))

module _ (R : Behind) (xs ys : List Form) where
  at_back : (n k : ℕ) (form : Form) → AreClearTo (after xs R) ys n → length xs ≤ k → k < length xs + n → slice_get (xs ++ ys) k ≡ Some form → IsClearProc (R (take k (xs ++ ys)) form) form
  at_back n k form clear le l g =
      let s = split (length xs) k le in
      let e = s.1 in
      subst (λ m. IsClearProc (R (take m (xs ++ ys)) form) form) (sym e)
      (subst (λ (fs : List Form). IsClearProc (R fs form) form) (sym (took_back xs ys s.0))
      (clear s.0 form (omega (arith, l, e)) (sym (got_back xs ys s.0) ∙ ap (slice_get (xs ++ ys)) (sym e) ∙ g)))

  -- the forms of the front, and then those behind it
  pub both_clear : (n : ℕ) → AreClearTo R (xs ++ ys) (length xs) → AreClearTo (after xs R) ys n → AreClearTo R (xs ++ ys) (length xs + n)
  both_clear n front back k form l g = elim (cases_order k (length xs)) [
    | inl same ↦ at_back n k form back (omega (arith, same)) l g
    | inr (inl before) ↦ front k form before g
    | inr (inr later) ↦ at_back n k form back (omega (arith, later)) l g
  ]

  pub front_clear : (n : ℕ) → n ≤ length xs → AreClearTo R xs n → AreClearTo R (xs ++ ys) n
  front_clear n le clear k form l g =
      subst (λ (fs : List Form). IsClearProc (R fs form) form) (sym (took_front xs ys k (omega (arith, l, le))))
      (clear k form l (sym (got_front xs ys k (omega (arith, l, le))) ∙ g))

  -- the first fault behind a front without faults
  pub first_behind : (place : ℕ) (kind : Kind) → AreClearTo R (xs ++ ys) (length xs) → IsFirstAmong (after xs R) ys place kind → IsFirstAmong R (xs ++ ys) place kind
  first_behind place kind front one = record {
    at = length xs + one.at;
    form = one.form;
    there = got_back xs ys one.at ∙ one.there;
    clear = both_clear one.at front one.clear;
    first = subst (λ (fs : List Form). IsFirstAs (R fs one.form) one.form place kind) (sym (took_back xs ys one.at)) one.first;
  }

-- ---- the items of a list behind its keyword and its name
module _ (role : ProcRole) (form : Form) (R : Behind)
    (parts : (at : ℕ) → proc_part_role role form (suc (suc at)) ≡ option_map (R (take at (items_of_goal form))) (slice_get (items_of_goal form) at))
    (none : HasNone role form) (front : ClearParts role form 2) where
  items_clear : (n : ℕ) → AreClearTo R (items_of_goal form) n → ClearParts role form (suc (suc n))
  items_clear n clear zero part other place kind l got e fault = front zero part other place kind (omega arith) got e fault
  items_clear n clear (suc zero) part other place kind l got e fault = front (suc zero) part other place kind (omega arith) got e fault
  items_clear n clear (suc (suc k)) part other place kind l got e fault =
      let there : slice_get (items_of_goal form) k ≡ Some part = got_dropped (parts_of form) k ∙ got in
      let is : R (take k (items_of_goal form)) part ≡ other = same_Some _ other (ap (option_map (R (take k (items_of_goal form)))) (sym there) ∙ sym (parts k) ∙ e) in
      clear k part (omega (arith, l)) there place kind (subst (λ (r : ProcRole). IsProcFaultAs r part place kind) (sym is) fault)

  pub item_first : (low high place : ℕ) (kind : Kind) → Stands low high form → IsFirstAmong R (items_of_goal form) place kind → IsFirstAs role form place kind
  item_first low high place kind h one =
      let k = one.at in
      part_first role form low high (suc (suc k)) one.form (R (take k (items_of_goal form)) one.form) place kind h none
      (sym (got_dropped (parts_of form) k) ∙ one.there) (parts k ∙ ap (option_map (R (take k (items_of_goal form)))) one.there) (items_clear k one.clear) one.first

  pub whole_clear : length (parts_of form) ≤ suc (suc (length (items_of_goal form))) → AreClearTo R (items_of_goal form) (length (items_of_goal form)) → IsClearProc role form
  whole_clear most clear = all_clear role form (suc (suc (length (items_of_goal form)))) none most (items_clear (length (items_of_goal form)) clear)
