-- What the search keeps, one more line, and what its three answers rest on.
use Rattle.std.proofs.Common.{◌≡◌, ℕ, ◌+◌, ◌-◌, ◌<◌, ◌≤◌, Bool, true, false, not, cond, List, [], ◌∷◌, ◌++◌, length, map, take, get_or, refl, sym, ap, ◌∙◌, subst, arith, inl, inr, suc, zero, Option, Some, None, append-nil, append_assoc}
use Rattle.std.specs.Prelude.{unwrap_or, slice_index}
use Rattle.std.specs.List.{All, Contains}
use Rattle.std.proofs.lemmas.Bool.{cases_lt}
use Rattle.std.proofs.lemmas.List.{get_or-map, map_push, take_at, take-append-le, get_or_append_left, get_or_push, length_push, length-append, length-map}
use Rattle.std.proofs.lemmas.List.Folds.{list_any_at}
use Rattle.std.proofs.lemmas.List.Elements.{All-contains, All-push}
use Rattle.cnf_core.specs.declared.literal.Lit.{Lit}
use Rattle.cnf_core.specs.declared.line.Line.{Line}
use Rattle.cnf_core.specs.Formula.{Formula, IsLitOf, AreOver, assigned, lit_true, clause_true}
use Rattle.cnf_core.specs.Values.{partial_of, IsFalseClause, IsClosed}
use Rattle.cnf_core.specs.Refutation.{known_clauses, clause_at, Reaches, negations, AreNames, IsAccepted, AreAccepted, Refutes, HaveNoSolution, IsFresh}
use Rattle.cnf_core.specs.Outcome.{IsSolved, IsRefuted, IsSpent}
use Rattle.sat_core.specs.declared.trail.Trail.{Trail}
use Rattle.sat_core.specs.declared.trail.Value.{Value}
use Rattle.sat_core.specs.declared.trail.Value.TheVariants.{Unassigned}
use Rattle.sat_core.specs.Steps.{truth_value, assignment_of, var_count, IsTrailState, AreClosedBefore}
use Rattle.sat_core.specs.Picks.{free_list}
use Rattle.sat_core.specs.Conflicts.{GoesOnWith}
use Rattle.sat_core.proofs.Holding.{some-same}
use Rattle.sat_core.proofs.Picking.{none-free}
use Rattle.sat_core.proofs.Bound.{AreFresh, fresh-few}

-- each lemma is fresh after the formula and the lemmas before it
abbrev pub AreFreshLines : Formula → List Line → Type 0
AreFreshLines f lines = (k : ℕ) (d : Line) → k < length lines → IsFresh (known_clauses f.clauses (take k lines)) (get_or lines k d).lits

-- what the search keeps between two conflicts
pub record IsSearch (f : Formula) (lines : List Line) (clauses : List (List Lit)) (trail : Trail) : Type 0 where
  pub known' : clauses ≡ known_clauses f.clauses lines
  pub exist : AreOver f.vars clauses
  pub vars : var_count trail ≡ f.vars
  pub state : IsTrailState clauses (var_count trail) trail
  pub before : AreClosedBefore clauses trail.steps.items
  pub accepted : AreAccepted f lines
  pub fresh : AreFreshLines f lines

pub length-known : (clauses : List (List Lit)) (lines : List Line) → length (known_clauses clauses lines) ≡ length clauses + length lines
length-known clauses lines = simp (length-append, length-map)

pub known-push : (clauses : List (List Lit)) (lines : List Line) (line : Line) → known_clauses clauses (lines ++ line ∷ []) ≡ known_clauses clauses lines ++ line.lits ∷ []
known-push clauses lines line =
    ap (λ (xs : List (List Lit)). clauses ++ xs) (map_push (λ (l : Line). l.lits) lines line)
    ∙ sym (append_assoc clauses (map (λ (l : Line). l.lits) lines) (line.lits ∷ []))

-- at the start
pub search-none : (f : Formula) (clauses : List (List Lit)) (trail : Trail) → clauses ≡ f.clauses → AreOver f.vars f.clauses → ((cs : List (List Lit)) → IsTrailState cs f.vars trail) → trail.steps.items ≡ [] → IsSearch f [] clauses trail
search-none f clauses trail is over state none =
    let size = (state clauses).size in
    record {
      known' = is ∙ sym (append-nil f.clauses);
      exist = subst (AreOver f.vars) (sym is) over;
      vars = size;
      state = subst (λ (n : ℕ). IsTrailState clauses n trail) (sym size) (state clauses);
      before = subst (AreClosedBefore clauses) (sym none) (λ k d few. absurd (omega (arith, few)));
      accepted = λ k d few. absurd (omega (arith, few));
      fresh = λ k d few. absurd (omega (arith, few));
    }

-- what holds of each line after those before it, with one line more
each-push : (P : List Line → Line → Type 0) → (lines : List Line) (line : Line) → ((k : ℕ) (d : Line) → k < length lines → P (take k lines) (get_or lines k d)) → P lines line → (k : ℕ) (d : Line) → k < length (lines ++ line ∷ []) → P (take k (lines ++ line ∷ [])) (get_or (lines ++ line ∷ []) k d)
each-push P lines line each last k d few =
    let long = length_push lines line in
    elim (cases_lt k (length lines)) [
      | inl before ↦
          subst (λ (front : List Line). P front (get_or (lines ++ line ∷ []) k d)) (sym (take-append-le k lines (line ∷ []) (omega arith)))
          (subst (P (take k lines)) (sym (get_or_append_left lines (line ∷ []) d k before)) (each k d before))
      | inr at ↦
          (let here : length lines ≡ k = omega arith in
          subst (λ (front : List Line). P front (get_or (lines ++ line ∷ []) k d)) (sym (take_at lines (line ∷ []) k here))
          (subst (P lines) (sym (get_or_push lines line d k here)) last))
    ]

-- there is a last hint, and it is false once those before it made their literals true
abbrev EndIn : List (List Lit) → Line → Type 0
EndIn cs line =
    (t : List Lit)
    × Reaches cs (negations line.lits) (take (length line.hints - 1) line.hints) t
    × (1 ≤ length line.hints)
    × IsFalseClause (partial_of t) (clause_at cs (slice_index line.hints (length line.hints - 1)))

-- a line that is accepted after the clauses so far is accepted after the formula and the lines
shown-accepted : (f : Formula) (lines : List Line) (clauses : List (List Lit)) (line : Line) → clauses ≡ known_clauses f.clauses lines → IsAccepted (record { vars = f.vars; clauses = clauses }) [] line → IsAccepted f lines line
shown-accepted f lines clauses line is shown =
    let size : length clauses + 0 ≡ length f.clauses + length lines = omega (arith, ap length is ∙ length-known f.clauses lines) in
    record {
      numbered = shown.numbered ∙ ap (λ (n : ℕ). n + 1) size;
      named = record {
        exist = shown.named.exist;
        differ = shown.named.differ;
        hints = subst (λ (n : ℕ). AreNames n line.hints) size shown.named.hints;
      };
      ends = subst (λ (cs : List (List Lit)). EndIn cs line) (append-nil clauses ∙ is) shown.ends;
    }

-- **the search goes on with one line more**
pub search-more : (f : Formula) (lines lines' : List Line) (clauses clauses' : List (List Lit)) (old new : Trail) (line : Line)
    → IsSearch f lines clauses old → var_count new ≡ var_count old → IsAccepted (record { vars = var_count old; clauses = clauses }) [] line → GoesOnWith clauses (var_count old) line.lits new
    → clauses' ≡ clauses ++ line.lits ∷ [] → lines' ≡ lines ++ line ∷ [] → IsSearch f lines' clauses' new
search-more f lines lines' clauses clauses' old new line h same-vars shown' on is-clauses is-lines =
    let shown = subst (λ (n : ℕ). IsAccepted (record { vars = n; clauses = clauses }) [] line) h.vars shown' in
    subst (λ (ls : List Line). IsSearch f ls clauses' new) (sym is-lines)
    (subst (λ (cs : List (List Lit)). IsSearch f (lines ++ line ∷ []) cs new) (sym is-clauses)
    (record {
      known' = ap (λ (cs : List (List Lit)). cs ++ line.lits ∷ []) h.known' ∙ sym (known-push f.clauses lines line);
      exist = All-push (All (IsLitOf f.vars)) clauses line.lits h.exist shown.named.exist;
      vars = same-vars ∙ h.vars;
      state = subst (λ (n : ℕ). IsTrailState (clauses ++ line.lits ∷ []) n new) (sym same-vars) on.state;
      before = on.before;
      accepted = each-push (IsAccepted f) lines line h.accepted (shown-accepted f lines clauses line h.known' shown);
      fresh = each-push (λ (front : List Line) (l : Line). IsFresh (known_clauses f.clauses front) l.lits) lines line h.fresh (subst (λ (cs : List (List Lit)). IsFresh cs line.lits) h.known' on.fresh);
    }))

-- **an empty lemma ends a refutation**
pub search-refuted : (f : Formula) (lines lines' : List Line) (clauses : List (List Lit)) (trail : Trail) (line : Line) (made conflicts : ℕ)
    → ((g : Formula) (ls : List Line) → Refutes g ls → HaveNoSolution g.clauses)
    → IsSearch f lines clauses trail → IsAccepted (record { vars = var_count trail; clauses = clauses }) [] line → line.lits ≡ [] → lines' ≡ lines ++ line ∷ [] → length lines ≡ made → made < conflicts
    → IsRefuted f conflicts lines'
search-refuted f lines lines' clauses trail line made conflicts law h shown' empty is-lines count below =
    let shown = subst (λ (n : ℕ). IsAccepted (record { vars = n; clauses = clauses }) [] line) h.vars shown' in
    let long = length_push lines line in
    let all = lines ++ line ∷ [] in
    let refutes : Refutes f all = record {
      some = omega arith;
      accepted = each-push (IsAccepted f) lines line h.accepted (shown-accepted f lines clauses line h.known' shown);
      placed = λ k d few. elim (cases_lt k (length lines)) [
        | inl before ↦
            (let at = get_or_append_left lines (line ∷ []) d k before in
            let fresh = h.fresh k d before in (
              (λ none. (let some = fresh.some in let n = ap length (sym (ap (λ (l : Line). l.lits) at) ∙ none) in absurd (omega arith))),
              (λ last. absurd (omega arith)),
            ))
        | inr at ↦
            (let here : length lines ≡ k = omega arith in (
              (λ none. omega arith),
              (λ last. ap (λ (l : Line). l.lits) (get_or_push lines line d k here) ∙ empty),
            ))
      ];
    } in
    subst (λ (ls : List Line). IsRefuted f conflicts ls) (sym is-lines)
    (record {
      few = omega arith;
      refutes = refutes;
      none = law f all refutes;
    })

lits-few : (f : Formula) (lines : List Line) → AreFreshLines f lines → AreAccepted f lines → AreFresh f.vars f.clauses (map (λ (l : Line). l.lits) lines)
lits-few f lines fresh accepted k d few =
    let few' : k < length lines = omega (arith, length-map lines (λ (l : Line). l.lits)) in
    let e : Line = get_or lines k (record { id = 0; lits = []; hints = [] }) in
    let at : get_or (map (λ (l : Line). l.lits) lines) k d ≡ e.lits = get_or-map (λ (l : Line). l.lits) lines k (record { id = 0; lits = []; hints = [] }) d few' in
    let front : known_clauses f.clauses (take k lines) ≡ f.clauses ++ take k (map (λ (l : Line). l.lits) lines) = ap (λ (xs : List (List Lit)). f.clauses ++ xs) (map-front lines k) in (
      subst (λ (c : List Lit). IsFresh (f.clauses ++ take k (map (λ (l : Line). l.lits) lines)) c) (sym at)
          (subst (λ (cs : List (List Lit)). IsFresh cs e.lits) front (fresh k (record { id = 0; lits = []; hints = [] }) few')),
      subst (All (IsLitOf f.vars)) (sym at) (accepted k (record { id = 0; lits = []; hints = [] }) few').named.exist,
    )
  where
    map-front : (ls : List Line) (n : ℕ) → map (λ (l : Line). l.lits) (take n ls) ≡ take n (map (λ (l : Line). l.lits) ls)
    map-front ls zero = refl
    map-front [] (suc n) = refl
    map-front (l ∷ ls) (suc n) = ap (λ (xs : List (List Lit)). l.lits ∷ xs) (map-front ls n)

-- **a spent budget**: fewer than 3 to the number of variables, and the first lemma shows a closed set
pub search-spent : (f : Formula) (lines : List Line) (clauses : List (List Lit)) (trail : Trail) (conflicts : ℕ) → IsSearch f lines clauses trail → length lines ≡ conflicts → 1 ≤ conflicts → IsSpent f conflicts lines
search-spent f lines clauses trail conflicts h count some =
    let d : Line = record { id = 0; lits = []; hints = [] } in
    let first = h.fresh 0 d (omega arith) in
    let bound = fresh-few f.vars f.clauses (map (λ (l : Line). l.lits) lines) (lits-few f lines h.fresh h.accepted) in
    record {
      count = count;
      accepted = h.accepted;
      fresh = h.fresh;
      few = omega (arith, length-map lines (λ (l : Line). l.lits));
      closed = (first.values, subst (IsClosed first.values) (append-nil f.clauses) first.closed);
    }

value-true : (p b : Bool) → b ≡ p → cond p b (not b) ≡ true
value-true true b e = e
value-true false b e = ap not e

some-of : (o : Option Bool) → (o ≡ None → ⊥) → o ≡ Some (unwrap_or o false)
some-of None some = absurd (some refl)
some-of (Some b) some = refl

all_of : List Value → List Bool
all_of values = map (λ v. unwrap_or (truth_value v) false) values

-- each variable's value is the assigned one
total : (values : List Value) (x : ℕ) → free_list values ≡ [] → 1 ≤ x → x ≤ length values → assignment_of values x ≡ Some (assigned (all_of values) x)
unfolding assignment_of all_of
total values x empty low high =
    some-of (truth_value (get_or values (x - 1) Unassigned)) (none-free values x empty low high)
    ∙ ap (λ (b : Bool). Some b) (sym (get_or-map (λ v. unwrap_or (truth_value v) false) values (x - 1) Unassigned false (omega arith)))

-- **where every variable has a value and the clauses are closed, the values satisfy the formula**
pub search-solved : (f : Formula) (lines : List Line) (clauses : List (List Lit)) (n : ℕ) (values : List Value) (all : List Bool) → clauses ≡ known_clauses f.clauses lines → AreOver f.vars clauses → length values ≡ f.vars → IsClosed (assignment_of values) clauses → free_list values ≡ [] → all ≡ map (λ v. unwrap_or (truth_value v) false) values → IsSolved f all
unfolding all_of
search-solved f lines clauses n values all is over size closed empty is-all =
    subst (IsSolved f) (sym is-all)
    (record {
      size = length-map values (λ v. unwrap_or (truth_value v) false) ∙ size;
      satisfied = λ k d few.
          (let long = length-known f.clauses lines in
          let e : get_or clauses k d ≡ get_or f.clauses k d = ap (λ (cs : List (List Lit)). get_or cs k d) is ∙ get_or_append_left f.clauses (map (λ (l : Line). l.lits) lines) d k few in
          let within : k < length clauses = (let same = ap length is in omega arith) in
          let c = get_or clauses k d in
          let v = assigned (all_of values) in
          let at = λ (l : Lit) (there : Contains c l). All-contains (IsLitOf f.vars) c l (over k d within) there in
          subst (λ (x : List Lit). clause_true v x ≡ true) e
          (elim (closed k d within) [
            | inl one ↦
                (let (l, there, h) = one in
                let is-true : v l.var ≡ l.positive = some-same (v l.var) l.positive (sym (total values l.var empty (at l there).above (let b = (at l there).within in omega arith)) ∙ h) in
                let holds : lit_true v l ≡ true = value-true l.positive (v l.var) is-true in
                list_any_at (lit_true v) c there.0 l there.1 (ap (lit_true v) there.2 ∙ holds))
            | inr two ↦
                (let (l, m, in-l, in-m, differ, free-l, free-m) = two in
                absurd (none-free values l.var empty (at l in-l).above (let b = (at l in-l).within in omega arith) free-l))
          ]));
    })

-- the trail moved on between two conflicts
pub search-moved : (f : Formula) (lines : List Line) (clauses : List (List Lit)) (old new : Trail) → IsSearch f lines clauses old → IsTrailState clauses (var_count old) new → AreClosedBefore clauses new.steps.items → IsSearch f lines clauses new
search-moved f lines clauses old new h state before =
    record {
      known' = h.known';
      exist = h.exist;
      vars = state.size ∙ h.vars;
      state = subst (λ (n : ℕ). IsTrailState clauses n new) (sym state.size) state;
      before = before;
      accepted = h.accepted;
      fresh = h.fresh;
    }
