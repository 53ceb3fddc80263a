-- The lines that are left refute.
use Rattle.std.proofs.Common.{◌≡◌, ◌≢◌, ℕ, zero, suc, ◌+◌, ◌-◌, ◌<◌, ◌≤◌, ◌⊎◌, List, [], ◌∷◌, ◌++◌, map, take, length, get_or, refl, sym, ◌∙◌, ap, subst, inl, inr, arith, Some}
use Rattle.std.specs.Prelude.{All, AllPairs, Contains, slice_get, slice_index}
use Rattle.std.proofs.lemmas.Bool.{cases_lt}
use Rattle.std.proofs.lemmas.List.{length-take, get_or-map, length-map}
use Rattle.std.proofs.lemmas.List.Elements.{All-head, All-tail, All-nil, All-cons, All-contains, Contains-get_or}
use Rattle.std.proofs.lemmas.Option.{slice_get_within, get_or_from_slice_get, slice_get-get_or, same_Some, none-some}
use Rattle.cnf_core.specs.Formula.{Formula, IsLitOf}
use Rattle.cnf_core.specs.Refutation.{AreAccepted, IsAccepted, IsNumbered, EndsFalse, Reaches, Refutes, IsEmptyOnlyLast, clause_at, known_clauses, negations}
use Rattle.cnf_core.specs.Values.{partial_of, IsUnit, IsFalseClause}
use Rattle.cnf_core.specs.declared.line.Line.{Line}
use Rattle.cnf_core.specs.declared.literal.Lit.{Lit}
use Rattle.refute_trim.specs.Needed.{IsNeeded, IsHintOf, last, hint}
use Rattle.refute_trim.specs.Trimmed.{AreTrimmed, IsLineFrom, new_number}
use Rattle.refute_trim.proofs.Accepted.{accepted_at, earlier}
use Rattle.refute_trim.proofs.Hints.{zip_left, zip_right, zip_long, needed_within, place_needed, rises, later_place}
use Rattle.refute_trim.proofs.Places.{of_clause, of_lemma}

-- ---- reads

abbrev lits_of : List Line → List (List Lit)
lits_of ls = map (λ (l : Line). l.lits) ls

lits_at : (ls : List Line) (k m : ℕ) (l : Line) → m < k → slice_get ls m ≡ Some l → get_or (lits_of (take k ls)) m [] ≡ l.lits
lits_at [] k m l lt e = absurd (none-some l e)
lits_at (x ∷ ls) zero m l lt e = absurd (omega (arith, lt))
lits_at (x ∷ ls) (suc k) zero l lt e = ap (λ (y : Line). y.lits) (same_Some x l e)
lits_at (x ∷ ls) (suc k) (suc m) l lt e = lits_at ls k m l (omega (arith, lt)) e

read_behind : (xs ys : List (List Lit)) (i m : ℕ) → i ≡ length xs + m → get_or (xs ++ ys) i [] ≡ get_or ys m []
read_behind [] ys i m e = let same : i ≡ m = omega (arith, e) in ap (λ k. get_or ys k []) same
read_behind (x ∷ xs) ys zero m e = absurd (omega (arith, e))
read_behind (x ∷ xs) ys (suc i) m e = read_behind xs ys i m (omega (arith, e))

read_front : (xs ys : List (List Lit)) (i : ℕ) → i < length xs → get_or (xs ++ ys) i [] ≡ get_or xs i []
read_front [] ys i l = absurd (omega (arith, l))
read_front (x ∷ xs) ys zero l = refl
read_front (x ∷ xs) ys (suc i) l = read_front xs ys i (omega (arith, l))

take_map : (g : ℕ → ℕ) (i : ℕ) (xs : List ℕ) → take i (map g xs) ≡ map g (take i xs)
take_map g zero xs = refl
take_map g (suc i) [] = refl
take_map g (suc i) (x ∷ xs) = ap (λ ys. g x ∷ ys) (take_map g i xs)

taken_all : (P : ℕ → Type 0) (i : ℕ) (xs : List ℕ) → All P xs → All P (take i xs)
taken_all P zero xs h = All-nil P
taken_all P (suc i) [] h = All-nil P
taken_all P (suc i) (x ∷ xs) h = All-cons P x (take i xs) (All-head P x xs h) (taken_all P i xs (All-tail P x xs h))

-- hints that name the same clauses reach the same
reaches : (cs ds : List (List Lit)) (g : ℕ → ℕ) (hs : List ℕ) (s t : List Lit) → All (λ h. clause_at ds (g h) ≡ clause_at cs h) hs → Reaches cs s hs t → Reaches ds s (map g hs) t
reaches cs ds g [] s t same r = r
reaches cs ds g (h ∷ hs) s t same (l, unit, r) =
    let e = All-head (λ h. clause_at ds (g h) ≡ clause_at cs h) h hs same in
    (l, subst (λ c. IsUnit (partial_of s) c l) (sym e) unit, reaches cs ds g hs (l ∷ s) t (All-tail (λ h. clause_at ds (g h) ≡ clause_at cs h) h hs same) r)

module _ (f : Formula) (lines new : List Line) (accepted : AreAccepted f lines) (trimmed : AreTrimmed (length f.clauses) lines new) where
  abbrev n : ℕ
  n = length f.clauses

  abbrev N : ℕ → ℕ
  N = new_number n trimmed.places

  length_new : length trimmed.places ≡ length new
  length_new = zip_long n trimmed.places trimmed.places lines new trimmed.from

  module _ (k p : ℕ) (line : Line) (at : slice_get trimmed.places k ≡ Some p) (there : slice_get new k ≡ Some line) (from : IsLineFrom n trimmed.places lines p line) where
    abbrev old : Line
    old = from.old

    is : IsAccepted f (take p lines) old
    is = accepted_at f lines accepted p old from.there

    before : length (take p lines) ≡ p
    before = earlier f lines accepted p old from.there

    before_new : length (take k new) ≡ k
    before_new = let t = length-take k new in let l = slice_get_within new k line there in omega (arith, t, l)

    -- a hint is a clause's, or that of a line that is left, earlier
    record Lemma (h : ℕ) : Type 0 where
      pub j : ℕ
      pub m : ℕ
      pub earlier_place : m < k
      pub place : slice_get trimmed.places m ≡ Some j
      pub is_lemma : h ≡ n + j + 1
      pub less : j < p

    hint_case : (h : ℕ) → Contains old.hints h → (h ≤ n) ⊎ Lemma h
    hint_case h has = elim (cases_lt n h) [
      | inr le ↦ inl le
      | inl gt ↦ (
          let named = All-contains (λ x. (1 ≤ x) × (x ≤ n + length (take p lines))) old.hints h is.named.hints has in
          let j = h - n - 1 in
          let low : j < p = omega (arith, gt, named.1, before) in
          let inside : j < length lines = (let l = slice_get_within lines p old from.there in omega (arith, low, l)) in
          let l = get_or lines j old in
          let got : slice_get lines j ≡ Some l = slice_get-get_or lines j old inside in
          let id : l.id ≡ n + length (take j lines) + 1 = (accepted_at f lines accepted j l got).numbered in
          let count = earlier f lines accepted j l got in
          let same : h ≡ l.id = omega (arith, id, count, gt) in
          let h_of : IsHintOf lines j p = record { hinted = l; hinting = old; hinted_there = got; hinting_there = from.there; among = subst (Contains old.hints) same has } in
          let c = (trimmed.exactly j).1 (hint (place_needed f lines new accepted trimmed k p at) h_of) in
          let place : slice_get trimmed.places c.0 ≡ Some j = slice_get-get_or trimmed.places c.0 j c.1 ∙ ap Some c.2 in
          inr (record { j = j; m = c.0; earlier_place = later_place f lines new accepted trimmed c.0 k j p place at low; place = place; is_lemma = omega (arith, gt); less = low }))
    ]

    same_clause : (h : ℕ) → 1 ≤ h → Contains old.hints h → clause_at (known_clauses f.clauses (take k new)) (N h) ≡ clause_at (known_clauses f.clauses (take p lines)) h
    same_clause h some has = elim (hint_case h has) [
      | inl le ↦ (
          ap (λ i. clause_at (known_clauses f.clauses (take k new)) i) (of_clause n trimmed.places h le)
          ∙ read_front f.clauses (lits_of (take k new)) (h - 1) (omega (arith, le, some))
          ∙ sym (read_front f.clauses (lits_of (take p lines)) (h - 1) (omega (arith, le, some))))
      | inr x ↦ (
          let e = x.is_lemma in
          let z = zip_left n trimmed.places trimmed.places lines new trimmed.from x.m x.j x.place in
          let num : N h ≡ n + x.m + 1 = of_lemma n trimmed.places trimmed.rising h x.j x.m e x.place in
          let here : N h - 1 ≡ n + x.m = omega (arith, num) in
          let there_then : h - 1 ≡ n + x.j = omega (arith, e) in
          read_behind f.clauses (lits_of (take k new)) (N h - 1) x.m here
          ∙ lits_at new k x.m z.0 x.earlier_place z.1 ∙ z.2.renumbered.lemma
          ∙ sym (read_behind f.clauses (lits_of (take p lines)) (h - 1) x.j there_then ∙ lits_at lines p x.j z.2.old x.less z.2.there))
    ]

    numbers : IsNumbered f (take k new) line
    numbers =
        let e : old.id ≡ n + p + 1 = is.numbered ∙ ap (λ i. n + i + 1) before in
        from.renumbered.id ∙ of_lemma n trimmed.places trimmed.rising old.id p k e at ∙ ap (λ i. n + i + 1) (sym before_new)

    hint_low : (h : ℕ) → Contains old.hints h → (1 ≤ N h) × (N h ≤ n + length (take k new))
    hint_low h has = elim (hint_case h has) [
      | inl le ↦ (
          let one = (All-contains (λ x. (1 ≤ x) × (x ≤ n + length (take p lines))) old.hints h is.named.hints has).0 in
          let e = of_clause n trimmed.places h le in
          (omega (arith, e, one), omega (arith, e, le)))
      | inr x ↦ (
          let e = of_lemma n trimmed.places trimmed.rising h x.j x.m x.is_lemma x.place in
          let l = x.earlier_place in
          (omega (arith, e), omega (arith, e, l, before_new)))
    ]

    count_hints : length line.hints ≡ length old.hints
    count_hints = ap length from.renumbered.hints ∙ length-map old.hints N

    each_same : All (λ h. clause_at (known_clauses f.clauses (take k new)) (N h) ≡ clause_at (known_clauses f.clauses (take p lines)) h) old.hints
    each_same = λ i d l.
        let has = Contains-get_or old.hints i d l in
        same_clause (get_or old.hints i d) (is.named.hints i d l).0 has

    pub left_accepted : IsAccepted f (take k new) line
    left_accepted = record {
      numbered = numbers;
      named = record {
        exist = subst (All (IsLitOf f.vars)) (sym from.renumbered.lemma) is.named.exist;
        differ = subst (λ ls. AllPairs (λ (a b : Lit). a.var ≢ b.var) ls) (sym from.renumbered.lemma) is.named.differ;
        hints = subst (All (λ h. (1 ≤ h) × (h ≤ n + length (take k new)))) (sym from.renumbered.hints) (λ i d l.
            let inside : i < length old.hints = omega (arith, l, length-map old.hints N) in
            let x = get_or old.hints i 0 in
            let e : get_or (map N old.hints) i d ≡ N x = get_or-map N old.hints i 0 d inside in
            subst (λ h. (1 ≤ h) × (h ≤ n + length (take k new))) (sym e) (hint_low x (Contains-get_or old.hints i 0 inside)));
      };
      ends = ends;
    }
      where
        ends : EndsFalse f (take k new) line
        ends =
            let o = is.ends in
            let t = o.0 in
            let cs = known_clauses f.clauses (take p lines) in
            let ds = known_clauses f.clauses (take k new) in
            let i = length old.hints - 1 in
            let some = o.2 in
            let r : Reaches ds (negations old.lits) (map N (take i old.hints)) t = reaches cs ds N (take i old.hints) (negations old.lits) t (taken_all (λ h. clause_at ds (N h) ≡ clause_at cs h) i old.hints each_same) o.1 in
            let places : take (length line.hints - 1) line.hints ≡ map N (take i old.hints) = ap (λ c. take (c - 1) line.hints) count_hints ∙ ap (take i) from.renumbered.hints ∙ take_map N i old.hints in
            let final : slice_index line.hints (length line.hints - 1) ≡ N (slice_index old.hints i) =
            ap (λ c. slice_index line.hints (c - 1)) count_hints ∙ ap (λ hs. slice_index hs i) from.renumbered.hints ∙ get_or-map N old.hints i 0 0 (omega (arith, some)) in
            let same : clause_at ds (N (slice_index old.hints i)) ≡ clause_at cs (slice_index old.hints i) = each_same i 0 (omega (arith, some)) in (
              t,
              subst (λ hs. Reaches ds (negations line.lits) hs t) (sym places) (subst (λ ls. Reaches ds (negations ls) (map N (take i old.hints)) t) (sym from.renumbered.lemma) r),
              omega (arith, some, count_hints),
              subst (IsFalseClause (partial_of t)) (sym (ap (clause_at ds) final ∙ same)) o.3,
            )

  pub all_accepted : AreAccepted f new
  all_accepted k d l =
      let line = get_or new k d in
      let there : slice_get new k ≡ Some line = slice_get-get_or new k d l in
      let z = zip_right n trimmed.places trimmed.places lines new trimmed.from k line there in
      left_accepted k z.0 line z.1 there z.2

  -- ---- the last line

  module _ (right : Refutes f lines) where
    last_needed : IsNeeded lines (length lines - 1)
    last_needed = let s = right.some in last (omega (arith, s))

    record LastPlace : Type 0 where
      pub m : ℕ
      pub inside : m < length new
      pub place : slice_get trimmed.places m ≡ Some (length lines - 1)

    last_place : LastPlace
    last_place =
        let c = (trimmed.exactly (length lines - 1)).1 last_needed in
        let long = length_new in
        let inside = c.1 in
        record { m = c.0; inside = omega (arith, inside, long); place = slice_get-get_or trimmed.places c.0 (length lines - 1) c.1 ∙ ap Some c.2 }

    module _ (k p : ℕ) (at : slice_get trimmed.places k ≡ Some p) where
      old_within : p < length lines
      old_within = needed_within lines p (place_needed f lines new accepted trimmed k p at)

      place_within : k < length new
      place_within = let l = slice_get_within trimmed.places k p at in let long = length_new in omega (arith, l, long)

      to_last : p + 1 ≡ length lines → k + 1 ≡ length new
      to_last e = elim (cases_lt (k + 1) (length new)) [
        | inr le ↦ (let l = place_within in omega (arith, le, l))
        | inl lt ↦ absurd (
            let long = length_new in
            let q = get_or trimmed.places (k + 1) 0 in
            let there : slice_get trimmed.places (k + 1) ≡ Some q = slice_get-get_or trimmed.places (k + 1) 0 (omega (arith, lt, long)) in
            let r = rises f lines new accepted trimmed k (k + 1) p q at there (omega arith) in
            let w = needed_within lines q (place_needed f lines new accepted trimmed (k + 1) q there) in
            omega (arith, e, r, w))
      ]

      from_last : k + 1 ≡ length new → p + 1 ≡ length lines
      from_last e =
          let end = last_place in
          let inside = end.inside in
          let w = old_within in
          elim (cases_lt end.m k) [
            | inl lt ↦ absurd (let r = rises f lines new accepted trimmed end.m k (length lines - 1) p end.place at lt in omega (arith, r, w))
            | inr le ↦ (
                let same : end.m ≡ k = omega (arith, le, inside, e) in
                let one : length lines - 1 ≡ p = same_Some (length lines - 1) p (sym end.place ∙ ap (slice_get trimmed.places) same ∙ at) in
                omega (arith, one, w))
          ]

    placed : (k : ℕ) (d : Line) → k < length new → IsEmptyOnlyLast new k (get_or new k d)
    placed k d l =
        let line = get_or new k d in
        let there : slice_get new k ≡ Some line = slice_get-get_or new k d l in
        let z = zip_right n trimmed.places trimmed.places lines new trimmed.from k line there in
        let p = z.0 in
        let from = z.2 in
        let o : IsEmptyOnlyLast lines p from.old = subst (IsEmptyOnlyLast lines p) (get_or_from_slice_get lines p from.old from.old from.there) (right.placed p from.old (slice_get_within lines p from.old from.there)) in (
          λ e. to_last k p z.1 (o.0 (sym from.renumbered.lemma ∙ e)),
          λ e. from.renumbered.lemma ∙ o.1 (from_last k p z.1 e),
        )

    pub refutes : Refutes f new
    refutes = record { some = let end = last_place in let inside = end.inside in omega (arith, inside); accepted = all_accepted; placed = placed }
