-- Marks show a list of true literals: one more literal, and a new line.
use Rattle.std.proofs.Common.{◌≡◌, ◌≢◌, ℕ, ◌+◌, ◌-◌, ◌<◌, ◌≤◌, Bool, false, not, cond, eqb, List, [], ◌∷◌, ◌++◌, length, get_or, refl, sym, ap, ◌∙◌, subst, arith, inl, inr, Option, Some, None}
use Rattle.std.specs.List.{All}
use Rattle.std.proofs.lemmas.Bool.{cases_Bool, cases_eq, cond-true, cond-false, eq-eqb, ne_eqb}
use Rattle.std.proofs.lemmas.List.{get_or-set_same, get_or-set_other, length-set}
use Rattle.std.proofs.lemmas.List.Elements.{All-nil, All-cons, All-head, All-tail, All-get_or}
use Rattle.cnf_core.specs.declared.literal.Lit.{Lit}
use Rattle.cnf_core.specs.Values.{partial_of}
use Rattle.cnf_core.specs.Refutation.{negations}
use Rattle.refutation_check.specs.declared.values.Mark.{Mark}
use Rattle.refutation_check.specs.Marked.{value_of_mark, marked, Shows, with_true, NoneIsLater}

none≢some : {b : Bool} → None ≡ Some b → ⊥
none≢some e = cc

-- a fresh line shows no literal
pub Shows-none : (line : ℕ) (marks : List Mark) → NoneIsLater line marks → Shows (line + 1) marks []
unfolding marked
Shows-none line marks h x low high =
    let m = get_or marks (x - 1) (record { line = 0; positive = false }) in
    let le : m.line ≤ line = All-get_or (λ (k : Mark). k.line ≤ line) marks (x - 1) (record { line = 0; positive = false }) (omega arith) h in
    sym (cond-false (eqb m.line (line + 1)) (Some m.positive) None (ne_eqb m.line (line + 1) (λ e. omega arith)))

-- the values after a literal was made true
pub marked-same : (line : ℕ) (marks : List Mark) (l : Lit) → 1 ≤ l.var → l.var ≤ length marks → marked line (with_true line marks l) l.var ≡ Some l.positive
unfolding marked
marked-same line marks l low high =
    let few : l.var - 1 < length marks = omega arith in
    ap (value_of_mark line) (get_or-set_same marks (l.var - 1) (record { line = line; positive = l.positive }) (record { line = 0; positive = false }) few)
    ∙ cond-true (eqb line line) (Some l.positive) None (eq-eqb line line refl)

pub marked-other : (line : ℕ) (marks : List Mark) (l : Lit) (x : ℕ) → 1 ≤ l.var → 1 ≤ x → (l.var ≡ x → ⊥) → marked line (with_true line marks l) x ≡ marked line marks x
unfolding marked
marked-other line marks l x low low' other =
    let ne : x - 1 ≢ l.var - 1 = omega arith in
    ap (value_of_mark line) (get_or-set_other marks (l.var - 1) (x - 1) (record { line = line; positive = l.positive }) (record { line = 0; positive = false }) ne)

-- a literal made true comes before the others
pub Shows-cons : (line : ℕ) (marks : List Mark) (s : List Lit) (l : Lit) → Shows line marks s → 1 ≤ l.var → l.var ≤ length marks → Shows line (with_true line marks l) (l ∷ s)
Shows-cons line marks s l h low high x low' high' =
    let n = length-set marks (l.var - 1) (record { line = line; positive = l.positive }) in
    elim (cases_eq l.var x) [
      | inl same ↦ cond-true (eqb l.var x) (Some l.positive) (partial_of s x) (eq-eqb l.var x same) ∙ sym (marked-same line marks l low high) ∙ ap (marked line (with_true line marks l)) same
      | inr other ↦ cond-false (eqb l.var x) (Some l.positive) (partial_of s x) (ne_eqb l.var x other) ∙ h x low' (omega arith) ∙ sym (marked-other line marks l x low low' other)
    ]

partial_of-push-other : (s : List Lit) (l : Lit) (x : ℕ) → (l.var ≡ x → ⊥) → partial_of (s ++ l ∷ []) x ≡ partial_of s x
partial_of-push-other [] l x other = cond-false (eqb l.var x) (Some l.positive) None (ne_eqb l.var x other)
partial_of-push-other (m ∷ ms) l x other = ap (λ (o : Option Bool). cond (eqb m.var x) (Some m.positive) o) (partial_of-push-other ms l x other)

partial_of-push-same : (s : List Lit) (l : Lit) → partial_of s l.var ≡ None → partial_of (s ++ l ∷ []) l.var ≡ Some l.positive
partial_of-push-same [] l free = cond-true (eqb l.var l.var) (Some l.positive) None (eq-eqb l.var l.var refl)
partial_of-push-same (m ∷ ms) l free =
    elim (cases_Bool (eqb m.var l.var)) [
      | inl same ↦ absurd (none≢some (sym free ∙ cond-true (eqb m.var l.var) (Some m.positive) (partial_of ms l.var) same))
      | inr other ↦ cond-false (eqb m.var l.var) (Some m.positive) (partial_of (ms ++ l ∷ []) l.var) other ∙ partial_of-push-same ms l (sym (cond-false (eqb m.var l.var) (Some m.positive) (partial_of ms l.var) other) ∙ free)
    ]

-- or after them, where its variable was free
pub Shows-push : (line : ℕ) (marks : List Mark) (s : List Lit) (l : Lit) → Shows line marks s → 1 ≤ l.var → l.var ≤ length marks → marked line marks l.var ≡ None → Shows line (with_true line marks l) (s ++ l ∷ [])
Shows-push line marks s l h low high free x low' high' =
    let n = length-set marks (l.var - 1) (record { line = line; positive = l.positive }) in
    elim (cases_eq l.var x) [
      | inl same ↦ subst (λ (y : ℕ). partial_of (s ++ l ∷ []) y ≡ marked line (with_true line marks l) y) same
          (partial_of-push-same s l (h l.var low high ∙ free) ∙ sym (marked-same line marks l low high))
      | inr other ↦ partial_of-push-other s l x other ∙ h x low' (omega arith) ∙ sym (marked-other line marks l x low low' other)
    ]

-- a variable has no value exactly where no literal is of it
pub free-differ : (xs : List Lit) (x : ℕ) → partial_of (negations xs) x ≡ None → All (λ (m : Lit). m.var ≢ x) xs
free-differ [] x free = All-nil (λ (m : Lit). m.var ≢ x)
free-differ (m ∷ ms) x free =
    All-cons (λ (k : Lit). k.var ≢ x) m ms
    (λ e. none≢some (sym free ∙ cond-true (eqb m.var x) (Some (not m.positive)) (partial_of (negations ms) x) (eq-eqb m.var x e)))
    (free-differ ms x (elim (cases_Bool (eqb m.var x)) [
      | inl same ↦ absurd (none≢some (sym free ∙ cond-true (eqb m.var x) (Some (not m.positive)) (partial_of (negations ms) x) same))
      | inr other ↦ sym (cond-false (eqb m.var x) (Some (not m.positive)) (partial_of (negations ms) x) other) ∙ free
    ]))

pub differ-free : (xs : List Lit) (x : ℕ) → All (λ (m : Lit). m.var ≢ x) xs → partial_of (negations xs) x ≡ None
differ-free [] x h = refl
differ-free (m ∷ ms) x h =
    let P : Lit → Type 0 = λ k. k.var ≢ x in
    cond-false (eqb m.var x) (Some (not m.positive)) (partial_of (negations ms) x) (ne_eqb m.var x (All-head P m ms h)) ∙ differ-free ms x (All-tail P m ms h)
