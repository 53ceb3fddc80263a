-- The score of a variable, with one lemma more.
use Rattle.std.proofs.Common.{◌≡◌, ◌≢◌, ℕ, ◌+◌, ◌-◌, ◌^◌, ◌<◌, ◌≤◌, ◌||◌, Bool, true, false, cond, eqb, List, [], ◌∷◌, ◌++◌, length, take, set, get_or, min, refl, sym, ap, ◌∙◌, subst, arith, inl, inr}
use Rattle.std.proofs.lemmas.Bool.{cases_eq, eq-eqb, ne_eqb}
use Rattle.std.proofs.lemmas.List.{get_or-take, get_or_default, get_or-set_same, get_or-set_other, length-take}
use Rattle.std.proofs.lemmas.List.Folds.{list_any_more, list_any_none}
use Rattle.std.proofs.lemmas.List.Sums.{sum_by-append}
use Rattle.cnf_core.specs.declared.literal.Lit.{Lit}
use Rattle.cnf_core.specs.declared.line.Line.{Line}
use Rattle.cnf_core.specs.Refutation.{HaveDifferentVars}
use Rattle.sat_core.specs.Picks.{has_var, lemma_count, next_score, AreScores}

-- a lemma has a variable once
pub front-free : (lemma : List Lit) (i : ℕ) (d : Lit) → HaveDifferentVars lemma → i < length lemma → has_var (take i lemma) (get_or lemma i d).var ≡ false
front-free lemma i d differ few =
    list_any_none (λ (l : Lit). eqb l.var (get_or lemma i d).var) (take i lemma) (λ k e few'.
    (let size = length-take i lemma in
    let below : k < i = omega arith in
    let at = get_or-take i lemma k e below in
    let ne = differ k i e below few in
    ne_eqb (get_or (take i lemma) k e).var (get_or lemma i d).var (λ same. ne (ap (λ (l : Lit). l.var) (sym at) ∙ same ∙ ap (λ (l : Lit). l.var) (get_or_default lemma i d e few)))))

or-false : (b : Bool) → (b || false) ≡ b
or-false true = refl
or-false false = refl

-- one literal counted
pub counted-more : (old now : List ℕ) (lemma : List Lit) (i n : ℕ) (d : Lit) → HaveDifferentVars lemma → i < length lemma → length now ≡ n → 1 ≤ (get_or lemma i d).var → (get_or lemma i d).var ≤ n
    → ((x : ℕ) → 1 ≤ x → x ≤ n → get_or now (x - 1) 0 ≡ next_score (has_var (take i lemma) x) (get_or old (x - 1) 0))
    → (x : ℕ) → 1 ≤ x → x ≤ n
    → get_or (set now ((get_or lemma i d).var - 1) (min (get_or now ((get_or lemma i d).var - 1) 0 + 1) (2 ^ 64 - 1))) (x - 1) 0 ≡ next_score (has_var (take (i + 1) lemma) x) (get_or old (x - 1) 0)
counted-more old now lemma i n d differ few size low high h x low' high' =
    let v = (get_or lemma i d).var in
    let before : ℕ = get_or old (x - 1) 0 in
    let more = list_any_more (λ (l : Lit). eqb l.var x) lemma i d few in
    elim (cases_eq v x) [
      | inl same ↦
          (let front : has_var (take i lemma) x ≡ false = subst (λ (y : ℕ). has_var (take i lemma) y ≡ false) same (front-free lemma i d differ few) in
          let all : has_var (take (i + 1) lemma) x ≡ true = more ∙ ap (λ (b : Bool). b || eqb v x) front ∙ eq-eqb v x same in
          let there : get_or now (v - 1) 0 ≡ before = ap (λ (y : ℕ). get_or now (y - 1) 0) same ∙ h x low' high' ∙ ap (λ (b : Bool). next_score b before) front in
          ap (λ (y : ℕ). get_or (set now (v - 1) (min (get_or now (v - 1) 0 + 1) (2 ^ 64 - 1))) (y - 1) 0) (sym same)
          ∙ get_or-set_same now (v - 1) (min (get_or now (v - 1) 0 + 1) (2 ^ 64 - 1)) 0 (omega arith)
          ∙ ap (λ (m : ℕ). min (m + 1) (2 ^ 64 - 1)) there
          ∙ sym (ap (λ (b : Bool). next_score b before) all))
      | inr other ↦
          (let ne : x - 1 ≢ v - 1 = omega arith in
          let same : has_var (take (i + 1) lemma) x ≡ has_var (take i lemma) x = more ∙ ap (λ (b : Bool). has_var (take i lemma) x || b) (ne_eqb v x other) ∙ or-false (has_var (take i lemma) x) in
          get_or-set_other now (v - 1) (x - 1) (min (get_or now (v - 1) 0 + 1) (2 ^ 64 - 1)) 0 ne ∙ h x low' high' ∙ ap (λ (b : Bool). next_score b before) (sym same))
    ]

-- before the first lemma
pub scores-none : (n : ℕ) (given counts : List ℕ) → counts ≡ given → length given ≡ n → ((k : ℕ) → k < length given → get_or given k 0 < 2 ^ 64) → AreScores n given [] counts
scores-none n given counts is size words =
    record {
      size = ap length is ∙ size;
      each = λ x low high.
          (let word = words (x - 1) (omega arith) in
          let none : get_or given (x - 1) 0 ≡ min (get_or given (x - 1) 0 + 0) (2 ^ 64 - 1) = omega arith in
          ap (λ (xs : List ℕ). get_or xs (x - 1) 0) is ∙ none);
    }

-- the next score of a sum that ends at the last word
next-sum : (b : Bool) (given count : ℕ) → next_score b (min (given + count) (2 ^ 64 - 1)) ≡ min (given + (count + (0 + cond {A = ℕ} b 1 0))) (2 ^ 64 - 1)
next-sum true given count = omega arith
next-sum false given count = omega arith

pub scores-add : (n : ℕ) (given : List ℕ) (lines : List Line) (line : Line) (counts new : List ℕ) → AreScores n given lines counts → length new ≡ length counts
    → ((x : ℕ) → 1 ≤ x → x ≤ length counts → get_or new (x - 1) 0 ≡ next_score (has_var line.lits x) (get_or counts (x - 1) 0)) → AreScores n given (lines ++ line ∷ []) new
scores-add n given lines line counts new h size each =
    record {
      size = size ∙ h.size;
      each = λ x low high.
          (let s = h.size in
          let has : Bool = has_var line.lits x in
          let more : lemma_count (lines ++ line ∷ []) x ≡ lemma_count lines x + (0 + cond {A = ℕ} has 1 0) = sum_by-append (λ (l : Line). cond {A = ℕ} (has_var l.lits x) 1 0) lines (line ∷ []) in
          each x low (omega arith)
          ∙ ap (next_score has) (h.each x low high)
          ∙ next-sum has (get_or given (x - 1) 0) (lemma_count lines x)
          ∙ sym (ap (λ (k : ℕ). min (get_or given (x - 1) 0 + k) (2 ^ 64 - 1)) more));
    }
