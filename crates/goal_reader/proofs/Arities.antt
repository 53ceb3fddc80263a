-- The number of operands of a declared operator.
use Rattle.std.proofs.lemmas.Bool.Decides.{nat_tests}
use Rattle.word_ops.specs.declared.sorts.Arity.TheVariants.{One, Two, Three, Four}
use Rattle.std.proofs.Common.{◌≡◌, ◌==◌, if◌then◌else◌, false, ◌≢◌, ℕ, zero, suc, ◌<◌, ◌≤◌, Option, None, Some, List, length, slice_get, refl, sym, ap, ◌∙◌, subst, arith}
use Rattle.word_ops.specs.declared.sorts.Arity.{Arity}
use Rattle.text_core.specs.declared.faults.Kind.{Kind}
use Rattle.text_core.specs.declared.faults.Kind.TheVariants.{BadForm, LimitPassed}
use Rattle.text_core.specs.Faults.{fault_number, IsFirst}
use Rattle.forms.specs.Forms.{Form, place_of, parts_of, name_in, number_in, part}
use Rattle.forms.specs.Forms.{Stands}
use Rattle.forms.proofs.First.{first_own, no_fault}
use Rattle.goal_meaning.specs.declared.goals.DeclaredOp.{DeclaredOp}
use Rattle.goal_reader.specs.Roles.{a_list, declaration, an_arity, no_arity, arity_0, arity_above, too_few, IsOwn, part_role, IsFaultAs, arity_named, declaration_in, ◌>>=◌}
use Rattle.goal_reader.specs.Reading.{IsClear, IsArityOf}
use Rattle.goal_reader.proofs.Owns as owns

pub above_four : (n : ℕ) → n ≢ 0 → None ≡ arity_named n → 4 < n
above_four zero h e = absurd (h refl)
above_four (suc zero) h e = cc
above_four (suc (suc zero)) h e = cc
above_four (suc (suc (suc zero))) h e = cc
above_four (suc (suc (suc (suc zero)))) h e = cc
above_four (suc (suc (suc (suc (suc n))))) h e = omega arith

none_named : (n : ℕ) → 4 < n → arity_named n ≡ None
none_named n l =
    let e1 : (n == 1) ≡ false = grind (arith, nat_tests, l) in
    let e2 : (n == 2) ≡ false = grind (arith, nat_tests, l) in
    let e3 : (n == 3) ≡ false = grind (arith, nat_tests, l) in
    let e4 : (n == 4) ≡ false = grind (arith, nat_tests, l) in
    ap (λ b. if b then Some One else if n == 2 then Some Two else if n == 3 then Some Three else if n == 4 then Some Four else None) e1
    ∙ ap (λ b. if b then Some Two else if n == 3 then Some Three else if n == 4 then Some Four else None) e2
    ∙ ap (λ b. if b then Some Three else if n == 4 then Some Four else None) e3 ∙ ap (λ b. if b then Some Four else None) e4

not_above : (n : ℕ) (a : Arity) → arity_named n ≡ Some a → (n ≢ 0) × (4 < n → ⊥)
not_above n a e =
    (λ z. let x : None ≡ Some a = sym (ap arity_named z) ∙ e in cc, λ l. let x : None ≡ Some a = sym (none_named n l) ∙ e in cc)

module _ (form : Form) where
  own_clear : (n : ℕ) (a : Arity) → number_in form ≡ Some n → arity_named n ≡ Some a → (k : Kind) → IsOwn an_arity form k → ⊥
  own_clear n a e f k (no_arity h) = let x : Some n ≡ None = sym e ∙ h in cc
  own_clear n a e f k (arity_0 h) = let x : Some n ≡ Some 0 = sym e ∙ h in let y : n ≡ 0 = cc in (not_above n a f).0 y
  own_clear n a e f k (arity_above {n = m} h l) = let x : Some n ≡ Some m = sym e ∙ h in let y : m ≡ n = cc in (not_above n a f).1 (subst (λ z. 4 < z) y l)

  pub arity_clear : (n : ℕ) (a : Arity) → number_in form ≡ Some n → arity_named n ≡ Some a → IsClear an_arity form
  arity_clear n a e f = no_fault IsOwn part_role an_arity form (own_clear n a e f) (λ j p other place kind g r fault. let x : None ≡ Some other = r in absurd cc)

  above_least : (n : ℕ) → number_in form ≡ Some n → n ≢ 0 → (k : Kind) → IsOwn an_arity form k → 13 ≤ fault_number k
  above_least n e z k (no_arity h) = let x : Some n ≡ None = sym e ∙ h in cc
  above_least n e z k (arity_0 h) = let x : Some n ≡ Some 0 = sym e ∙ h in let y : n ≡ 0 = cc in absurd (z y)
  above_least n e z k (arity_above h l) = omega arith

  module _ (low high : ℕ) (h : Stands low high form) where
    pub no_arity_first : number_in form ≡ None → IsFirst (IsFaultAs an_arity form) (place_of form) BadForm
    no_arity_first e = first_own IsOwn part_role an_arity form low high BadForm h (no_arity e) (λ k is. owns.own_at_least is)

    pub arity_0_first : number_in form ≡ Some 0 → IsFirst (IsFaultAs an_arity form) (place_of form) BadForm
    arity_0_first e = first_own IsOwn part_role an_arity form low high BadForm h (arity_0 e) (λ k is. owns.own_at_least is)

    pub above_first : (n : ℕ) → number_in form ≡ Some n → n ≢ 0 → 4 < n → IsFirst (IsFaultAs an_arity form) (place_of form) LimitPassed
    above_first n e z l = first_own IsOwn part_role an_arity form low high LimitPassed h (arity_above e l) (above_least n e z)

pub declaration_only : (declared : List DeclaredOp) (form : Form) (k : Kind) → IsOwn (a_list (declaration declared)) form k → length (parts_of form) < 3
declaration_only declared form k (too_few l) = l

abbrev one_op : List ℕ → Arity → Option DeclaredOp
one_op bytes x = Some (record { name = bytes; arity = x })

again : (bytes : List ℕ) (o : Option ℕ) → (o >>= (λ c. arity_named c >>= one_op bytes)) ≡ ((o >>= arity_named) >>= one_op bytes)
again bytes None = refl
again bytes (Some c) = refl

pub declaration_found : (form first second : Form) (bytes : List ℕ) (a : Arity) → slice_get (parts_of form) 1 ≡ Some first → name_in first ≡ Some bytes → slice_get (parts_of form) 2 ≡ Some second → IsArityOf second a
    → declaration_in form ≡ Some (record { name = bytes; arity = a })
declaration_found form first second bytes a g n g2 h =
    let e : (number_in second >>= arity_named) ≡ Some a = ap (λ o. o >>= arity_named) h.is ∙ h.named in
    let last : Option Arity → Option DeclaredOp = λ o. o >>= (one_op bytes) in
    let third : List ℕ → Option DeclaredOp = λ nm. part 2 form >>= (λ f. number_in f >>= (λ c. arity_named c >>= (one_op nm))) in
    ap (λ o. (o >>= name_in) >>= third) g ∙ ap (λ o. o >>= third) n ∙ ap (λ o. o >>= (λ f. number_in f >>= (λ c. arity_named c >>= (one_op bytes)))) g2
    ∙ again bytes (number_in second) ∙ ap last e
