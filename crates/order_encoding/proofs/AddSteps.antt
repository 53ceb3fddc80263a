-- Clauses that are added where they are due, and formulas to which one part after another is added.
use Rattle.std.proofs.Common.{◌≡◌, ℕ, zero, suc, ◌+◌, ◌<◌, ◌≤◌, ◌^◌, Bool, true, false, List, ◌∷◌, ◌++◌, [], length, sym, ap, ◌∙◌, subst, arith, inl, inr, length-append}
use Rattle.std.specs.Prelude.{◌==◌, Result, Ok, Err, OnOk}
use Rattle.std.specs.List.{All, flat_map, range_with_len}
use Rattle.std.proofs.lemmas.Bool.{cases_eq}
use Rattle.std.proofs.lemmas.List.{map-append}
use Rattle.std.proofs.lemmas.List.FromFn.{length-range_with_len}
use Rattle.cnf_core.specs.declared.literal.Lit.{Lit}
use Rattle.cnf_core.specs.Formula.{Formula, IsLitOf}
use Rattle.cycle_encoding.specs.Shapes.{numbered, negative, vars_of, when}
use Rattle.cycle_encoding.specs.Steps.{of_thing, with_clauses}
use Rattle.cycle_encoding.proofs.Adding.{added, with-none}
use Rattle.cycle_encoding.proofs.Blocks.{vars-over}
use Rattle.cycle_encoding.proofs.Listed.{flat_more}
use Rattle.cycle_encoding.proofs.Rows.{formula}

pub of-append : (var : ℕ) (a b : List (List Lit)) → of_thing var (a ++ b) ≡ of_thing var a ++ of_thing var b
of-append var a b = map-append (λ (c : List Lit). negative var ∷ c) a b

pub then_is : {A E : Type 0} (r : Result A E) (f h : Formula) (xs ys : List (List Lit)) → xs ≡ ys → OnOk r (h ≡ with_clauses f xs) → OnOk r (h ≡ with_clauses f ys)
then_is (Ok a) f h xs ys e s = s ∙ ap (λ (c : List (List Lit)). with_clauses f c) e
then_is (Err x) f h xs ys e s = tt

pub then_more : {A E : Type 0} (r : Result A E) (f m h : Formula) (xs ys zs : List (List Lit)) → m ≡ with_clauses f xs → zs ≡ xs ++ ys → OnOk r (h ≡ with_clauses m ys) → OnOk r (h ≡ with_clauses f zs)
then_more (Ok a) f m h xs ys zs e z s = added f m h ys xs zs e s z
then_more (Err x) f m h xs ys zs e z s = tt

-- ---- clauses of one thing

-- where the test holds
pub due : (var : ℕ) (b : Bool) (lits vs : List Lit) → b ≡ true → lits ≡ vs → (negative var ∷ lits) ∷ [] ≡ of_thing var (when b (vs ∷ []))
due var b lits vs t e = ap (λ (ls : List Lit). (negative var ∷ ls) ∷ []) e ∙ ap (λ c. of_thing var (when c (vs ∷ []))) (sym t)

-- where it doesn't
pub not_due : (f : Formula) (var : ℕ) (b : Bool) (cs : List (List Lit)) → b ≡ false → f ≡ with_clauses f (of_thing var (when b cs))
not_due f var b cs e = with-none f ∙ ap (λ (c : Bool). with_clauses f (of_thing var (when c cs))) (sym e)

pub room_due : (n : ℕ) (b : Bool) (cs : List (List Lit)) → b ≡ true → n + length (when b cs) < 2 ^ 30 → n + length cs < 2 ^ 30
room_due n b cs e h = subst (λ c. n + length (when c cs) < 2 ^ 30) e h

pub lits_exist : {X : Type 0} (test : X → Bool) (first n : ℕ) (xs : List X) (lits : List Lit) → lits ≡ vars_of test (numbered first xs) → first + length xs ≤ n → All (IsLitOf n) lits
lits_exist test first n xs lits e le = subst (λ (ls : List Lit). All (IsLitOf n) ls) (sym e) (vars-over test first n xs le)

-- ---- clauses of each number of a range

module _ {X : Type 0} (f : ℕ → List X) where
  pub flat-part : (t k : ℕ) → t < k → length (flat_map f (range_with_len 0 t)) + length (f t) ≤ length (flat_map f (range_with_len 0 k))
  flat-part t zero lt = absurd (omega arith)
  flat-part t (suc k) lt =
      let s : suc k ≡ k + 1 = omega arith in
      let e = ap (λ m. length (flat_map f (range_with_len 0 m))) s ∙ ap (λ (c : List X). length c) (flat_more f k) ∙ length-append (flat_map f (range_with_len 0 k)) (f k) in
      elim (cases_eq t k) [
        | inl h ↦ (let a : length (flat_map f (range_with_len 0 t)) ≡ length (flat_map f (range_with_len 0 k)) = ap (λ m. length (flat_map f (range_with_len 0 m))) h in let b : length (f t) ≡ length (f k) = ap (λ m. length (f m)) h in omega (arith, e, a, b))
        | inr ne ↦ (let r = flat-part t k (omega arith) in omega (arith, e, r))
      ]

-- ---- a clause that is put together

pub put_together : (start one all more vs : List Lit) (l : Lit) → start ≡ [] → one ≡ start ++ l ∷ [] → all ≡ one ++ more → more ≡ vs → all ≡ l ∷ vs
put_together start one all more vs l s o a e =
    a ∙ ap (λ ys. ys ++ more) (o ∙ ap (λ ys. ys ++ l ∷ []) s) ∙ ap (λ ys. l ∷ ys) e

pub put_all : (start all more vs : List Lit) → start ≡ [] → all ≡ start ++ more → more ≡ vs → all ≡ vs
put_all start all more vs s a e = a ∙ ap (λ ys. ys ++ more) s ∙ e

pub cycle_exists : (first k n cycle : ℕ) (lits : List Lit) → lits ≡ vars_of (λ t. t == cycle) (numbered first (range_with_len 0 k)) → first + k ≤ n → All (IsLitOf n) lits
cycle_exists first k n cycle lits e le = (let size = length-range_with_len 0 k in lits_exist (λ t. t == cycle) first n (range_with_len 0 k) lits e (omega arith))

-- ---- variables

-- n more variables, and then m more
pub more_vars : (f mid new : Formula) (n m k : ℕ) → mid ≡ record f { vars = f.vars + n } → new ≡ record mid { vars = mid.vars + m } → k ≡ n + m → new ≡ record f { vars = f.vars + k }
more_vars f mid new n m k a b e =
    b ∙ formula (mid.vars + m) (f.vars + k) mid.clauses f.clauses (let v = ap (λ (f : Formula). f.vars) a in omega arith) (ap (λ (f : Formula). f.clauses) a)

pub vars_and_vars : (f mid new : Formula) (n l m : ℕ) → mid ≡ record f { vars = f.vars + n } → new ≡ record mid { vars = mid.vars + m } → n ≡ l → new ≡ record f { vars = f.vars + l + m }
vars_and_vars f mid new n l m a b e =
    b ∙ formula (mid.vars + m) (f.vars + l + m) mid.clauses f.clauses (let v = ap (λ (f : Formula). f.vars) a in omega arith) (ap (λ (f : Formula). f.clauses) a)

pub then_same : {A E : Type 0} (r : Result A E) (h x y : Formula) → x ≡ y → OnOk r (h ≡ x) → OnOk r (h ≡ y)
then_same (Ok a) h x y e s = s ∙ e
then_same (Err z) h x y e s = tt
