-- Values that say by which cycle a schedule has launched each counted class satisfy the clauses of capacity.
use Rattle.std.proofs.Common.{◌≡◌, ℕ, ◌+◌, ◌-◌, ◌≤◌, min, Bool, true, false, not, cond, List, [], ◌∷◌, ◌++◌, length, map, refl, sym, ap, ◌∙◌, subst, arith, Option, Some, None}
use Rattle.std.specs.Prelude.{◌&&◌, ◌||◌, ◌==◌, Contains, nat_le, find, option_map}
use Rattle.std.specs.Option.{option_map_or}
use Rattle.std.specs.List.{All, count_by, filter, flat_map, list_any, range_with_len}
use Rattle.std.proofs.lemmas.Bool.{and_from, and_parts, eq-eqb, eqb-true, false≢true, le-leb, leb-true, not_from_false, or_left, or_right}
use Rattle.std.proofs.lemmas.List.Elements.{All-append, All-nil}
use Rattle.std.proofs.lemmas.List.Folds.{list_any-append}
use Rattle.std.proofs.lemmas.List.Sums.{sum_by-append, sum_by-cons}
use Rattle.cnf_core.specs.Counter.{Extends, HasExtension, at_most_clauses, at_most_vars, count_true}
use Rattle.cnf_core.specs.Formula.{Formula, IsLitOf, Satisfies, clause_true, lit_true}
use Rattle.graph_meaning.specs.declared.graphs.LaunchGraph.{LaunchGraph}
use Rattle.schedule_meaning.specs.Launches.{class_at}
use Rattle.schedule_meaning.specs.declared.schedules.Launch.{Launch}
use Rattle.cycle_encoding.specs.Shapes.{negated, numbered, shown, vars_of}
use Rattle.cycle_encoding.proofs.Blocks.{AreExact, chosen, chosen-extends, chosen-hidden, chosen-shown, extends-refl, extends-trans, shown-extends, stays, vars-over}
use Rattle.cycle_encoding.proofs.Members.{All-from_members, NoTwice, filter-in, filter-once, filter-out, find-out, here, later, range-out}
use Rattle.cycle_encoding.proofs.Shown.{both, count_of, flat-in, implied-in, map-in, none, one, when-in}
use Rattle.cycle_encoding.proofs.ShownTests.{some-in}
use Rattle.cycle_encoding.proofs.Tests.{some_in, some_of}
use Rattle.cycle_encoding.proofs.Unshown.{flip, hidden, negated-of}
use Rattle.slot_capacity.specs.CapacityClauses.{Launched, added_capacity, all_launched, before_limits, end_clauses, is_launched_at, last_counted, limit_counters, limit_lits, made_clauses, makes_by, makes_counted, stay_clauses, stays_launched}
use Rattle.slot_capacity.specs.Makers.{makes_own}
use Rattle.slot_capacity.specs.declared.deadlines.Deadline.{Deadline}
use Rattle.slot_capacity.specs.declared.limits.Capacity.{Capacity}
use Rattle.slot_capacity.specs.declared.limits.Limit.{Limit}
use Rattle.slot_capacity.proofs.Coming.{Makes}
use Rattle.slot_capacity.proofs.Things.{classes, no-thing, one-thing, thing, thing-in, thing-itself, things-once}

-- a launch makes the thing's class by its cycle
abbrev pub makes_thing : LaunchGraph → Launched → Launch → Bool
makes_thing g p l = makes_own g l.row && ((class_at g l.row == p.class) && nat_le l.cycle p.cycle)

abbrev pub was_launched : LaunchGraph → List Launch → Launched → Bool
was_launched g ls p = list_any (makes_thing g p) ls

pub launched-by : (g : LaunchGraph) (ls : List Launch) (c t : ℕ) (l : Launch) → Makes g ls c l → l.cycle ≤ t
    → was_launched g ls (thing c t) ≡ true
launched-by g ls c t l m le =
    some_in (makes_thing g (thing c t)) ls l m.there
    (and_from (makes_own g l.row) ((class_at g l.row == c) && nat_le l.cycle t) m.own
    (and_from (class_at g l.row == c) (nat_le l.cycle t) (eq-eqb (class_at g l.row) c m.class) (le-leb l.cycle t le)))

pub by-launched : (g : LaunchGraph) (ls : List Launch) (c t : ℕ) → was_launched g ls (thing c t) ≡ true
    → (l : Launch) × Makes g ls c l × (l.cycle ≤ t)
by-launched g ls c t h =
    let l = some_of (makes_thing g (thing c t)) ls h in
    let p = and_parts (makes_own g (l.0).row) ((class_at g (l.0).row == c) && nat_le (l.0).cycle t) l.2 in
    let q = and_parts (class_at g (l.0).row == c) (nat_le (l.0).cycle t) p.1 in (
      l.0,
      record { there = l.1; class = eqb-true (class_at g (l.0).row) c q.0; own = p.0 },
      leb-true (l.0).cycle t q.1,
    )

-- a schedule launches each counted class from its first cycle on and by its last, and no more of a limit than it allows
pub record Keeps (g : LaunchGraph) (ls : List Launch) (c : Capacity) : Type 0 where
  pub once : NoTwice (classes c.counted)
  pub from : (x : Deadline) → Contains c.counted x → (l : Launch) → Makes g ls x.class l → x.first ≤ l.cycle
  pub by : (x : Deadline) → Contains c.counted x → (l : Launch) × Makes g ls x.class l × (l.cycle ≤ x.last)
  pub few : (m : Limit) → Contains c.limits m
      → count_by (λ x. was_launched g ls (thing x.class (min m.cycle x.last))) m.due ≤ m.most

module _ (g : LaunchGraph) (ls : List Launch) (c : Capacity) (keeps : Keeps g ls c) where
  abbrev counted : List Deadline
  counted = c.counted

  abbrev things : List Launched
  things = all_launched counted

  abbrev val : Launched → Bool
  val = was_launched g ls

  -- values that show the schedule, and what it has launched
  module _ (w : ℕ → Bool) (xs : List (ℕ × Launch)) (ps : List (ℕ × Launched)) (shows : shown w xs ≡ ls)
      (says : shown w ps ≡ filter val things) (hides : hidden w ps ≡ filter (λ p. not (val p)) things) where
    abbrev at : ℕ → ℕ → Launched → Bool
    at class cycle = is_launched_at class cycle

    -- a thing that has a variable
    true_in : (x : Deadline) → Contains counted x → (t : ℕ) → x.first ≤ t → t ≤ x.last → val (thing x.class t) ≡ true
        → clause_true w (vars_of (at x.class t) ps) ≡ true
    true_in x h t le lt v =
        some-in w (at x.class t) ps
        (ap (list_any (at x.class t)) says
        ∙ some_in (at x.class t) (filter val things) (thing x.class t)
        (filter-in val things (thing x.class t) (thing-in counted x h t le lt) v) (thing-itself x.class t))

    false_in : (x : Deadline) → Contains counted x → (t : ℕ) → x.first ≤ t → t ≤ x.last → val (thing x.class t) ≡ false
        → clause_true w (negated (at x.class t) ps) ≡ true
    false_in x h t le lt f =
        negated-of w (at x.class t) ps
        ∙ ap (list_any (at x.class t)) hides
        ∙ some_in (at x.class t) (filter (λ p. not (val p)) things) (thing x.class t)
        (filter-in (λ p. not (val p)) things (thing x.class t) (thing-in counted x h t le lt)
        (not_from_false (val (thing x.class t)) f))
        (thing-itself x.class t)

    -- ---- what is made

    made_one : (l : Launch) → Contains ls l → Satisfies w (makes_counted g counted ps l)
    made_one l h =
        when-in w (makes_by g counted l.row l.cycle) (vars_of (at (class_at g l.row) l.cycle) ps ∷ [])
        (λ t.
        let p = and_parts (makes_own g l.row) (option_map_or (λ last. nat_le l.cycle last)
        (last_counted counted (class_at g l.row)) false) t in
        let x = found_last (find (λ (x : Deadline). x.class == class_at g l.row) counted) p.1 in
        let f = find-out (λ (x : Deadline). x.class == class_at g l.row) counted x.0 x.1 in
        let same : (x.0).class ≡ class_at g l.row = eqb-true (x.0).class (class_at g l.row) f.1 in
        let makes : Makes g ls (x.0).class l = record { there = h; class = sym same; own = p.0 } in
        one w (vars_of (at (class_at g l.row) l.cycle) ps)
        (subst (λ c. clause_true w (vars_of (at c l.cycle) ps) ≡ true) same
        (true_in x.0 f.0 l.cycle (keeps.from x.0 f.0 l makes) x.2
        (launched-by g ls (x.0).class l.cycle l makes (let z : l.cycle ≤ l.cycle = omega arith in z)))))
      where
        found_last : (o : Option Deadline)
            → option_map_or (λ last. nat_le l.cycle last) (option_map (λ (x : Deadline). x.last) o) false ≡ true
            → (x : Deadline) × (o ≡ Some x) × (l.cycle ≤ x.last)
        found_last None e = absurd (false≢true e)
        found_last (Some x) e = (x, refl, leb-true l.cycle x.last e)

    made : Satisfies w (made_clauses g counted xs ps)
    made =
        implied-in w (makes_counted g counted ps) xs
        (subst (λ S. All (λ l. Satisfies w (makes_counted g counted ps l)) S) (sym shows)
        (All-from_members (λ l. Satisfies w (makes_counted g counted ps l)) ls made_one))

    -- ---- what stays

    stays_one : (x : Deadline) → Contains counted x → (t : ℕ)
        → Contains (range_with_len (x.first + 1) (x.last - x.first)) t → clause_true w (stays_launched ps x t) ≡ true
    stays_one x h t c =
        list_any-append (lit_true w) (negated (at x.class (t - 1)) ps) (vars_of (at x.class t) ps)
        ∙ by_case (val (thing x.class (t - 1))) refl
      where
        by_case : (b : Bool) → val (thing x.class (t - 1)) ≡ b
            → (clause_true w (negated (at x.class (t - 1)) ps) || clause_true w (vars_of (at x.class t) ps)) ≡ true
        by_case false e =
            let r = range-out (x.first + 1) (x.last - x.first) t c in
            let low = r.0 in
            let high = r.1 in
            or_left (clause_true w (negated (at x.class (t - 1)) ps)) (clause_true w (vars_of (at x.class t) ps))
            (false_in x h (t - 1) (omega arith) (omega arith) e)
        by_case true e =
            let r = range-out (x.first + 1) (x.last - x.first) t c in
            let low = r.0 in
            let high = r.1 in
            let l = by-launched g ls x.class (t - 1) e in
            let le = l.2 in
            or_right (clause_true w (negated (at x.class (t - 1)) ps)) (clause_true w (vars_of (at x.class t) ps))
            (true_in x h t (omega arith) (omega arith) (launched-by g ls x.class t l.0 l.1 (omega arith)))

    stay : Satisfies w (stay_clauses counted ps)
    stay =
        flat-in w (λ x. map (stays_launched ps x) (range_with_len (x.first + 1) (x.last - x.first))) counted
        (All-from_members (λ x. Satisfies w (map (stays_launched ps x)
        (range_with_len (x.first + 1) (x.last - x.first))))
        counted (λ x h.
        map-in w (stays_launched ps x) (range_with_len (x.first + 1) (x.last - x.first))
        (All-from_members (λ t. clause_true w (stays_launched ps x t) ≡ true)
        (range_with_len (x.first + 1) (x.last - x.first)) (stays_one x h))))

    -- ---- what ends

    ends_one : (x : Deadline) → Contains counted x → clause_true w (vars_of (at x.class x.last) ps) ≡ true
    ends_one x h =
        let l = keeps.by x h in
        let from = keeps.from x h l.0 l.1 in
        let until = l.2 in
        true_in x h x.last (omega arith) (omega arith) (launched-by g ls x.class x.last l.0 l.1 until)

    ended : Satisfies w (end_clauses counted ps)
    ended =
        map-in w (λ x. vars_of (at x.class x.last) ps) counted
        (All-from_members (λ x. clause_true w (vars_of (at x.class x.last) ps) ≡ true) counted ends_one)

    -- ---- limits

    few_at : (class cycle : ℕ) → count_true w (vars_of (at class cycle) ps) ≤ cond (val (thing class cycle)) 1 0
    few_at class cycle =
        let is = count_of w (at class cycle) ps ∙ ap (count_by (at class cycle)) says in
        by_case is (val (thing class cycle)) refl
      where
        by_case : count_true w (vars_of (at class cycle) ps) ≡ count_by (at class cycle) (filter val things)
            → (b : Bool) → val (thing class cycle) ≡ b → count_true w (vars_of (at class cycle) ps) ≤ cond b 1 0
        by_case is true e =
            let few = one-thing class cycle (filter val things)
            (filter-once val things (things-once counted keeps.once)) in
            omega arith
        by_case is false e =
            let z = no-thing class cycle (filter val things)
            (λ h. false≢true (sym e ∙ (filter-out val things (thing class cycle) h).1)) in
            omega arith

    few_of : (cycle : ℕ) (due : List Deadline)
        → count_true w (flat_map (λ x. vars_of (at x.class (min cycle x.last)) ps) due)
        ≤ count_by (λ x. val (thing x.class (min cycle x.last))) due
    few_of cycle [] = (let z : 0 ≤ 0 = omega arith in z)
    few_of cycle (x ∷ due) =
        let lits = vars_of (at x.class (min cycle x.last)) ps in
        let more = flat_map (λ x. vars_of (at x.class (min cycle x.last)) ps) due in
        let a = sum_by-append (λ l. cond (lit_true w l) 1 0) lits more in
        let b = sum_by-cons (λ x. cond (val (thing x.class (min cycle x.last))) 1 0) x due in
        let now = few_at x.class (min cycle x.last) in
        let ih = few_of cycle due in
        omega arith

    limit_few : (m : Limit) → Contains c.limits m → count_true w (limit_lits ps m) ≤ m.most
    limit_few m h = (let a = few_of m.cycle m.due in let b = keeps.few m h in omega arith)

  -- ---- variables, one block after another

  over_of : (n m cycle : ℕ) (due : List Deadline) → n + length things ≤ m
      → All (IsLitOf m)
      (flat_map (λ x. vars_of (is_launched_at x.class (min cycle x.last)) (numbered n things)) due)
  over_of n m cycle [] le = All-nil (IsLitOf m)
  over_of n m cycle (x ∷ due) le =
      All-append (IsLitOf m) (vars_of (is_launched_at x.class (min cycle x.last)) (numbered n things))
      (flat_map (λ x. vars_of (is_launched_at x.class (min cycle x.last)) (numbered n things)) due)
      (vars-over (is_launched_at x.class (min cycle x.last)) n m things le) (over_of n m cycle due le)

  limits_in : AreExact → (n old : ℕ) → n + length things ≤ old → (w : ℕ → Bool)
      → shown w (numbered n things) ≡ filter val things
      → hidden w (numbered n things) ≡ filter (λ p. not (val p)) things
      → (xs : List (ℕ × Launch)) → shown w xs ≡ ls
      → ((old : ℕ) (w u : ℕ → Bool) → n + length things ≤ old → Extends old w u → shown w xs ≡ ls → shown u xs ≡ ls)
      → (ms : List Limit) → ((m : Limit) → Contains ms m → Contains c.limits m)
      → HasExtension old w (limit_counters old (numbered n things) ms)
  limits_in exact n old le w says hides xs shows keep [] sub = (w, extends-refl old w, none w)
  limits_in exact n old le w says hides xs shows keep (m ∷ ms) sub =
      let ps = numbered n things in
      let lits = limit_lits ps m in
      let next = old + at_most_vars m.most (length lits) in
      let is = exact old m.most lits (over_of n old m.cycle m.due le) in
      let a : HasExtension old w (at_most_clauses old m.most lits) =
      (is.0 w).1 (limit_few w xs ps shows says hides m (sub m (here m ms))) in
      let sa : shown a.0 ps ≡ filter val things = shown-extends w a.0 n old things le a.1 ∙ says in
      let ha : hidden a.0 ps ≡ filter (λ p. not (val p)) things =
      shown-extends (flip w) (flip a.0) n old things le (λ e l. ap not (a.1 e l)) ∙ hides in
      let b : HasExtension next a.0 (limit_counters next ps ms) =
      limits_in exact n next (omega arith) a.0 sa ha xs (keep old w a.0 le a.1 shows) keep ms
      (λ o h. sub o (later m o ms h)) in (
        b.0,
        extends-trans old next w a.0 b.0 (omega arith) a.1 b.1,
        both b.0 (at_most_clauses old m.most lits) (limit_counters next ps ms)
            (stays next a.0 b.0 (at_most_clauses old m.most lits) b.1 is.1 a.2) b.2,
      )

  -- values that show the schedule can be extended
  pub capacity-extends : AreExact → (launches : List Launch) (f : Formula) (v : ℕ → Bool) → length launches ≤ f.vars
      → shown v (numbered 0 launches) ≡ ls → HasExtension f.vars v (added_capacity g c (numbered 0 launches) f)
  capacity-extends exact launches f v le shows =
      let n = f.vars in
      let old = before_limits g c (numbered 0 launches) f in
      let xs = numbered 0 launches in
      let ps = numbered n things in
      let w1 : ℕ → Bool = chosen val n things v in
      let x1 : Extends n v w1 = chosen-extends val n things v in
      let s1 : shown w1 xs ≡ ls = shown-extends v w1 0 n launches (omega arith) x1 ∙ shows in
      let keep : (old : ℕ) (w u : ℕ → Bool) → n + length things ≤ old → Extends old w u → shown w xs ≡ ls
      → shown u xs ≡ ls =
      λ old w u lo x s. shown-extends w u 0 old launches (omega arith) x ∙ s in
      let h = limits_in exact n old (omega arith) w1 (chosen-shown val n things v) (chosen-hidden val n things v) xs
      s1 keep
      c.limits (λ m h. h) in
      let w2 : ℕ → Bool = h.0 in
      let x2 : Extends old w1 w2 = h.1 in
      let shows2 : shown w2 xs ≡ ls = keep old w1 w2 (omega arith) x2 s1 in
      let says2 : shown w2 ps ≡ filter val things =
      shown-extends w1 w2 n old things (omega arith) x2 ∙ chosen-shown val n things v in
      let hides2 : hidden w2 ps ≡ filter (λ p. not (val p)) things =
      shown-extends (flip w1) (flip w2) n old things (omega arith) (λ e l. ap not (x2 e l))
      ∙ chosen-hidden val n things v in
      let m1 = made_clauses g counted xs ps in
      let m2 = stay_clauses counted ps in
      let m3 = end_clauses counted ps in
      let m4 = limit_counters old ps c.limits in (
        w2,
        extends-trans n old v w1 w2 (omega arith) x1 x2,
        both w2 (m1 ++ m2 ++ m3) m4
            (both w2 (m1 ++ m2) m3
            (both w2 m1 m2 (made w2 xs ps shows2 says2 hides2) (stay w2 xs ps shows2 says2 hides2))
            (ended w2 xs ps shows2 says2 hides2))
            h.2,
      )
