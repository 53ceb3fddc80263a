-- Addresses that are known to be multiples, one word after the other.
use Rattle.std.proofs.Common.{◌≡◌, ℕ, zero, suc, ◌+◌, ◌<◌, ◌≤◌, List, [], ◌∷◌, Bool, true, false, Option, Some, None, length, take, refl, sym, ◌∙◌, ap, subst, inl, inr, arith}
use Rattle.std.specs.Prelude.{All, Contains, nat_lt, slice_get, slice_index_or}
use Rattle.std.proofs.lemmas.List.Elements.{All-contains, All-contains_itself, All-map, All-weaker}
use Rattle.std.proofs.lemmas.Bool.{cases_lt}
use Rattle.std.proofs.lemmas.Bool.Decides.{nat_tests}
use Rattle.std.proofs.lemmas.Option.{none-some, same_Some}
use Rattle.word_ops.specs.declared.sorts.Op.{Op}
use Rattle.egraph.specs.Graph.{Graph, HasClass, IsPresent}
use Rattle.egraph.specs.declared.rows.Row.{Row}
use Rattle.graph_meaning.specs.Graphs.{plain_row}
use Rattle.graph_meaning.specs.Multiples.{IsMultiple, IsShown}
use Rattle.graph_meaning.specs.declared.graphs.LaunchRow.{LaunchRow}
use Rattle.pattern_match.specs.Classes.{IsClass}
use Rattle.alpha_encode.specs.declared.instructions.Instr.{Instr}
use Rattle.code_check.specs.Compared.{AreAlignedBelow, ArePresentAddresses, IsPresentAddress, TellsTrap}
use Rattle.code_check.specs.Same.{HasMultiple, IsAligned, IsMultipleTerm, rows_of}
use Rattle.code_check.specs.Terms.{TermState, alignment, place_term, term_step, terms_after, terms_from}

abbrev pub shown_row : Row Op → LaunchRow
shown_row r = plain_row r.class r.op r.operands

-- the classes that rows name were made
abbrev IsMade : Graph Op → LaunchRow → Type 0
IsMade g r = (r.class < length g.current) × All (λ c. c < length g.current) r.operands

pub rows_made : (g : Graph Op) → All (λ (r : Row Op). IsPresent g r.class) g.rows → ((r : Row Op) → Contains g.rows r → All (HasClass g) r.operands) → ((c : ℕ) → HasClass g c → IsPresent g c) → All (IsMade g) (rows_of g)
rows_made g classes operands present =
    All-map (IsMade g) shown_row g.rows
    (All-weaker (Contains g.rows) (λ r. IsMade g (shown_row r))
    (λ r there. (
      (All-contains (λ (x : Row Op). IsPresent g x.class) g.rows r classes there).made,
      All-weaker (HasClass g) (λ c. c < length g.current) (λ c has. (present c has).made) r.operands (operands r there),
    ))
    g.rows (All-contains_itself g.rows))

-- ---- one word

module _ (g : Graph Op) (i : Instr) (ts : TermState) where
  pub never_traps : alignment i ≡ None → TellsTrap g i ts false
  never_traps e n f = absurd (none-some n (sym e ∙ f))

  module _ (once : (c d : ℕ) → IsClass g [] (place_term i ts) c → IsClass g [] (place_term i ts) d → c ≡ d) where
    -- the class is known to be a multiple of so much, and no more
    pub tells : (n c power : ℕ) → alignment i ≡ Some n → IsClass g [] (place_term i ts) c → IsMultiple (rows_of g) c power → TellsTrap g i ts (nat_lt power n)
    tells n c power e is multiple = by (nat_lt power n) refl
      where
        by : (b : Bool) → nat_lt power n ≡ b → TellsTrap g i ts b
        by true lt = λ has.
            let m = has n e in
            let same : m.class ≡ c = once m.class c m.is is in
            let most = multiple.most m.power (subst (λ k. IsShown (rows_of g) k m.power) same m.shown) in
            let less : power < n = grind (arith, nat_tests, lt) in
            let enough = m.enough in
            omega (arith, most, less, enough)
        by false le = λ k f.
            let same : n ≡ k = same_Some n k (sym e ∙ f) in
            let not_less : n ≤ power = grind (arith, nat_tests, le) in
            subst (IsMultipleTerm g (place_term i ts)) same (record { class = c; is = is; power = power; enough = not_less; shown = multiple.shown })

-- ---- words in order

-- the address of the instruction at a place
pub address_there : (g : Graph Op) (is : List Instr) (ts : TermState) (addresses : List (Option ℕ)) → ArePresentAddresses g is ts addresses → (k : ℕ) (i : Instr) → slice_get is k ≡ Some i
    → IsPresentAddress g i (terms_from (take k is) ts) (slice_index_or addresses k None)
address_there g [] ts addresses h k i there = absurd (none-some i there)
address_there g (j ∷ is) ts [] h k i there = absurd h
address_there g (j ∷ is) ts (a ∷ addresses) h zero i there = subst (λ x. IsPresentAddress g x ts a) (same_Some j i there) h.0
address_there g (j ∷ is) ts (a ∷ addresses) h (suc k) i there = address_there g is (term_step j ts) addresses h.1 k i there

pub as_many_addresses : (g : Graph Op) (is : List Instr) (ts : TermState) (addresses : List (Option ℕ)) → ArePresentAddresses g is ts addresses → length addresses ≡ length is
as_many_addresses g [] ts [] h = refl
as_many_addresses g [] ts (a ∷ addresses) h = absurd h
as_many_addresses g (i ∷ is) ts [] h = absurd h
as_many_addresses g (i ∷ is) ts (a ∷ addresses) h = ap suc (as_many_addresses g is (term_step i ts) addresses h.1)

pub one_more_aligned : (g : Graph Op) (is : List Instr) (k : ℕ) → AreAlignedBelow g is k → IsAligned g is k → AreAlignedBelow g is (k + 1)
one_more_aligned g is k below here at lt = elim (cases_lt at k) [
  | inl l ↦ below at l
  | inr le ↦ (let same : k ≡ at = omega (arith, lt, le) in subst (IsAligned g is) same here)
]

pub tells_trap : (g : Graph Op) (is : List Instr) (k : ℕ) (i : Instr) → slice_get is k ≡ Some i → (b : Bool) → b ≡ true → TellsTrap g i (terms_after k is) b → ¬ IsAligned g is k
tells_trap g is k i there true e h = λ aligned. h (aligned i there)
tells_trap g is k i there false e h = absurd (true_false e)
  where
    true_false : false ≡ true → ⊥
    true_false e = cc

pub tells_aligned : (g : Graph Op) (is : List Instr) (k : ℕ) (i : Instr) → slice_get is k ≡ Some i → (b : Bool) → b ≡ false → TellsTrap g i (terms_after k is) b → IsAligned g is k
tells_aligned g is k i there true e h = absurd (true_false e)
  where
    true_false : true ≡ false → ⊥
    true_false e = cc
tells_aligned g is k i there false e h = λ j f. subst (λ x. HasMultiple g x (terms_after k is)) (same_Some i j (sym there ∙ f)) h
