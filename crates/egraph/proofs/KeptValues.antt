-- Values under which all rows are true, after a merge and after an insert.
use Rattle.std.proofs.Common.{◌≡◌, ◌<◌, ℕ, List, map, length, get_or, slice_index, All, refl, sym, ap, ◌∙◌, subst, inl, inr, arith, eqb, if◌then◌else◌}
use Rattle.std.proofs.lemmas.List.Elements.{All-contains, All-push, All-map, Contains-get_or}
use Rattle.std.proofs.lemmas.Bool.Decides.{eqb_tells}
use Rattle.word_terms.specs.Signature.{Signature}
use Rattle.egraph.specs.Graph.{Graph, HasClass, IsGraph, AreMade, IsInserted, read_through, with_row}
use Rattle.egraph.specs.Joined.{Joined, kept, pair, symmetric, transitive, congruent, IsMerged}
use Rattle.egraph.specs.Values.{AllTrue, KeepsValues, ExtendsValues, JoinedHaveOneValue}
use Rattle.egraph.proofs.Lists.{map_agree, map-map, map_at_each}
use Rattle.egraph.proofs.Merging.{at, row_present, has_made, has_present, operands_have, current_has}

module _ {O V : Type 0} (s : Signature O) (old : Graph O) (is : IsGraph s old) (a b : ℕ) (meaning : O → List V → V) (value : ℕ → V) (true : AllTrue meaning value old.rows) (one : value (at old a) ≡ value (at old b)) where
  -- joined classes have one value
  one_value : {x y : ℕ} → Joined old a b x y → value (at old x) ≡ value (at old y)
  one_value (kept x y lx ly e) = ap value e
  one_value pair = one
  one_value (symmetric j) = sym (one_value j)
  one_value (transitive j k) = one_value j ∙ one_value k
  one_value (congruent r t h k op l each) =
      let at_r : map value r.operands ≡ map (λ x. value (at old x)) r.operands = map_agree value (λ x. value (at old x)) r.operands (λ n d b. ap value (sym (has_present s old is (get_or r.operands n d) (operands_have s old is r h n d b)))) in
      let at_t : map value t.operands ≡ map (λ x. value (at old x)) t.operands = map_agree value (λ x. value (at old x)) t.operands (λ n d b. ap value (sym (has_present s old is (get_or t.operands n d) (operands_have s old is t k n d b)))) in
      let ops = map_at_each (λ x. value (at old x)) r.operands t.operands l (λ n b. one_value (each n b)) in
      let true_r = All-contains (λ q. value q.class ≡ meaning q.op (map value q.operands)) old.rows r true h in
      let true_t = All-contains (λ q. value q.class ≡ meaning q.op (map value q.operands)) old.rows t true k in
      ap value (row_present s old is r h) ∙ true_r ∙ ap (meaning r.op) (at_r ∙ ops ∙ sym at_t) ∙ ap (λ o. meaning o (map value t.operands)) op ∙ sym true_t ∙ ap value (sym (row_present s old is t k))

  module _ (new : Graph O) (m : IsMerged old a b new) where
    value_now : (x : ℕ) → x < length old.current → value (at new x) ≡ value (at old x)
    value_now x l =
        let j = (m.joined (at new x) x (m.below x l) l).0 (m.settled x l) in
        ap value (sym (m.was_present x l)) ∙ one_value j

    value_has : (c : ℕ) → HasClass old c → value (at new c) ≡ value c
    value_has c h = value_now c (has_made s old is c h) ∙ ap value (has_present s old is c h)

    stays_true : AllTrue meaning value new.rows
    stays_true = λ k d l.
        let u = m.from_old (get_or new.rows k d) (Contains-get_or new.rows k d l) in
        let old_true = All-contains (λ q. value q.class ≡ meaning q.op (map value q.operands)) old.rows u.0 true u.1 in
        subst (λ q. value q.class ≡ meaning q.op (map value q.operands)) (sym u.2)
        (value_has u.0.class (record { row = u.0; there = u.1; is = refl }) ∙ old_true
        ∙ sym (ap (meaning u.0.op) (map-map value (at new) u.0.operands ∙ map_agree (λ x. value (at new x)) value u.0.operands (λ n e b. value_has (get_or u.0.operands n e) (operands_have s old is u.0 u.1 n e b)))))

pub keeps_values : {O : Type 0} (V : Type 0) (s : Signature O) (old : Graph O) (is : IsGraph s old) (a b : ℕ) (new : Graph O) → IsMerged old a b new → KeepsValues V old a b new
keeps_values V s old is a b new m = λ meaning value true one.
    (stays_true s old is a b meaning value true one new m, λ c l. value_now s old is a b meaning value true one new m c l)

pub joined_have_one_value : {O : Type 0} (V : Type 0) (s : Signature O) (old : Graph O) (is : IsGraph s old) (a b : ℕ) → JoinedHaveOneValue V old a b
joined_have_one_value V s old is a b = λ meaning value true one x y j. one_value s old is a b meaning value true one j

module _ {O V : Type 0} (s : Signature O) (g : Graph O) (is : IsGraph s g) (meaning : O → List V → V) (value : ℕ → V) (true : AllTrue meaning value g.rows)
    (op : O) (here : List ℕ) (have : All (HasClass g) here) where
  -- the old values, and the operator's value at the new class
  abbrev value_then : ℕ → V
  value_then c = if eqb c (length g.current) then meaning op (map value here) else value c

  value_before : (c : ℕ) → c < length g.current → value_then c ≡ value c
  value_before c l =
      elim (eqb_tells c (length g.current)) [ inl e ↦ absurd (omega (arith, e.1)) | inr e ↦ ap (λ b. if b then meaning op (map value here) else value c) e.0 ]

  value_has_before : (c : ℕ) → HasClass g c → value_then c ≡ value c
  value_has_before c h = value_before c (has_made s g is c h)

  value_added : value_then (length g.current) ≡ meaning op (map value here)
  value_added =
      let n = length g.current in
      elim (eqb_tells n n) [ inl e ↦ ap (λ b. if b then meaning op (map value here) else value n) e.0 | inr e ↦ absurd (e.1 refl) ]

  inserted_true : AllTrue meaning value_then (with_row g op here).rows
  inserted_true =
      All-push (λ r. value_then r.class ≡ meaning r.op (map value_then r.operands)) g.rows (record { op = op; operands = here; class = length g.current })
      (λ k d l.
      let r = get_or g.rows k d in
      let h = Contains-get_or g.rows k d l in
      let ops : map value_then r.operands ≡ map value r.operands = map_agree value_then value r.operands (λ n e b. value_has_before (get_or r.operands n e) (operands_have s g is r h n e b)) in
      value_has_before r.class (record { row = r; there = h; is = refl }) ∙ true k d l ∙ sym (ap (meaning r.op) ops))
      (value_added ∙ sym (ap (meaning op) (map_agree value_then value here (λ n e b. value_has_before (get_or here n e) (have n e b)))))

pub extends_values : {O : Type 0} (V : Type 0) (s : Signature O) (old : Graph O) (is : IsGraph s old) (op : O) (operands : List ℕ) (made : AreMade old.current operands) (class : ℕ) (new : Graph O) →
    IsInserted old op operands class new → ExtendsValues V old new
extends_values {O} V s old is op operands made class new i = λ meaning value true.
    let here = read_through old operands in
    let have : All (HasClass old) here = All-map (HasClass old) (slice_index old.current) operands (λ k d l. current_has s old is (get_or operands k d) (made k d l)) in
    elim i [
      | inl h ↦ (value, subst (λ g. AllTrue meaning value g.rows) (sym h.1) true, λ c l. refl)
      | inr h ↦ (
        value_then s old is meaning value true op here have,
        subst (λ g. AllTrue meaning (value_then s old is meaning value true op here have) g.rows) (sym h.2) (inserted_true s old is meaning value true op here have),
        λ c l. value_before s old is meaning value true op here have c l,
      )
    ]
