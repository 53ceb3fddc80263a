-- Formulas to which clauses are added, thing by thing.
use Rattle.std.proofs.Common.{◌≡◌, ℕ, ◌+◌, ◌<◌, ◌≤◌, ◌^◌, List, ◌∷◌, ◌++◌, [], length, map, take, get_or, refl, sym, ap, ◌∙◌, arith, append_assoc, length-append}
use Rattle.std.specs.Prelude.{Result, Ok, Err, OnOk}
use Rattle.std.proofs.lemmas.List.{append-nil, take_more, length-take}
use Rattle.std.proofs.lemmas.List.Sums.{sum_by_more_le}
use Rattle.std.proofs.lemmas.List.Concat.{flat_map-append}
use Rattle.cnf_core.specs.declared.literal.Lit.{Lit}
use Rattle.cnf_core.specs.Formula.{Formula}
use Rattle.cycle_encoding.specs.Shapes.{numbered, negative, implied}
use Rattle.cycle_encoding.specs.Steps.{with_clauses, of_thing}
use Rattle.cycle_encoding.proofs.Rows.{formula}
use Rattle.cycle_encoding.proofs.Walk.{numbered-append}
use Rattle.cycle_encoding.proofs.Totals.{size-implied}

pub with-both : (f : Formula) (xs ys : List (List Lit)) → with_clauses (with_clauses f xs) ys ≡ with_clauses f (xs ++ ys)
with-both f xs ys = formula f.vars f.vars ((f.clauses ++ xs) ++ ys) (f.clauses ++ (xs ++ ys)) refl (append_assoc f.clauses xs ys)

pub with-none : (f : Formula) → f ≡ with_clauses f []
with-none f = formula f.vars f.vars f.clauses (f.clauses ++ []) refl (sym (append-nil f.clauses))

-- one more step: from f with ps to f with qs
pub added : (f mid new : Formula) (more ps qs : List (List Lit)) → mid ≡ with_clauses f ps → new ≡ with_clauses mid more → qs ≡ ps ++ more → new ≡ with_clauses f qs
added f mid new more ps qs a b e = b ∙ ap (λ (h : Formula). with_clauses h more) a ∙ with-both f ps more ∙ ap (with_clauses f) (sym e)

pub stayed : (f mid : Formula) (ps qs : List (List Lit)) → mid ≡ with_clauses f ps → qs ≡ ps → mid ≡ with_clauses f qs
stayed f mid ps qs a e = a ∙ ap (with_clauses f) (sym e)

pub size-with : (f h : Formula) (ps : List (List Lit)) → h ≡ with_clauses f ps → length h.clauses ≡ length f.clauses + length ps
size-with f h ps e = ap (λ (h : Formula). length h.clauses) e ∙ length-append f.clauses ps

pub vars-with : (f h : Formula) (ps : List (List Lit)) → h ≡ with_clauses f ps → h.vars ≡ f.vars
vars-with f h ps e = ap (λ (h : Formula). h.vars) e

-- clauses that each thing implies
module _ {X : Type 0} (f : X → List (List Lit)) (old : ℕ) (xs : List X) (i : ℕ) (d : X) (lt : i < length xs) where
  pub implied-more : implied (numbered old (take (i + 1) xs)) f ≡ implied (numbered old (take i xs)) f ++ of_thing (old + i + 1) (f (get_or xs i d))
  implied-more =
      let size : old + length (take i xs) ≡ old + i = omega (arith, length-take i xs) in
      ap (λ ys. implied (numbered old ys) f) (take_more xs i d lt)
      ∙ ap (λ ps. implied ps f) (numbered-append old (take i xs) (get_or xs i d ∷ []))
      ∙ flat_map-append (λ (p : ℕ × X). map (λ c. negative p.0 ∷ c) (f p.1)) (numbered old (take i xs)) (numbered (old + length (take i xs)) (get_or xs i d ∷ []))
      ∙ ap (λ m. implied (numbered old (take i xs)) f ++ implied (numbered m (get_or xs i d ∷ [])) f) size
      ∙ ap (λ ys. implied (numbered old (take i xs)) f ++ ys) (append-nil (of_thing (old + i + 1) (f (get_or xs i d))))

  pub implied-part : length (implied (numbered old (take i xs)) f) + length (f (get_or xs i d)) ≤ length (implied (numbered old xs) f)
  implied-part =
      let a = size-implied f old (take i xs) in
      let b = size-implied f old xs in
      let c = sum_by_more_le (λ x. length (f x)) xs i d lt in
      omega arith

-- a clause that was added, by what it is
pub then_added : {A E : Type 0} (r : Result A E) (f h : Formula) (clause is : List Lit) → OnOk r (h ≡ record f { clauses = f.clauses ++ clause ∷ [] }) → clause ≡ is → OnOk r (h ≡ with_clauses f (is ∷ []))
then_added (Ok a) f h clause is e s = e ∙ ap (λ (c : List Lit). with_clauses f (c ∷ [])) s
then_added (Err x) f h clause is e s = tt

-- one more thing of a family whose clauses each thing implies, and the room that it takes
module _ {X : Type 0} (f : X → List (List Lit)) (old : ℕ) (xs : List X) (i : ℕ) (d : X) (start mid : Formula) (lt : i < length xs) (is : mid ≡ with_clauses start (implied (numbered old (take i xs)) f)) where
  pub implied_step : (var : ℕ) (new : Formula) (cs : List (List Lit)) → var ≡ old + i + 1 → cs ≡ f (get_or xs i d) → new ≡ with_clauses mid (of_thing var cs) → new ≡ with_clauses start (implied (numbered old (take (i + 1) xs)) f)
  implied_step var new cs ev ec n =
      added start mid new (of_thing var cs) (implied (numbered old (take i xs)) f) (implied (numbered old (take (i + 1) xs)) f) is n
      (implied-more f old xs i d lt ∙ ap (λ m. implied (numbered old (take i xs)) f ++ of_thing m (f (get_or xs i d))) (sym ev) ∙ ap (λ (c : List (List Lit)). implied (numbered old (take i xs)) f ++ of_thing var c) (sym ec))

  pub implied_room : length start.clauses + length (implied (numbered old xs) f) < 2 ^ 30 → length mid.clauses + length (f (get_or xs i d)) < 2 ^ 30
  implied_room room =
      let a = implied-part f old xs i d lt in
      let b = size-with start mid (implied (numbered old (take i xs)) f) is in
      omega arith
