-- The counts of clauses, and what the tests of lines for one launch fewer come to.
use Rattle.std.proofs.Common.{◌≡◌, ◌≢◌, ℕ, ◌+◌, ◌-◌, ◌≤◌, Bool, true, false, not, length, refl, sym, subst, ◌∙◌, arith, Option, Some, None}
use Rattle.std.specs.Prelude.{◌||◌, ◌↔◌, IfNone, IsTrue, MatchOption, nat_lt}
use Rattle.std.proofs.lemmas.Bool.{false≢true}
use Rattle.cycle_encoding.specs.Limits.{most_vars, most_clauses}
use Rattle.schedule_meaning.specs.Limits.{most_cycles}
use Rattle.cnf_core.specs.Formula.{Formula}
use Rattle.cycle_encoding.specs.CycleFormula.{Scope}
use Rattle.cycle_encoding.specs.Encodings.{IsScope}
use Rattle.cycle_encoding.specs.CycleFormula.{listed_in}
use Rattle.cycle_encoding.specs.Plans.{IsTooLarge, PassesLimit}
use Rattle.cycle_encoding.specs.declared.counts.Sizes.{Sizes}
use Rattle.cycle_encoding.proofs.TooLarge.{few_clauses, few_vars, keeps_within, limit_passed}
use Rattle.denali_run.specs.Encodings.{encoding_for}
use Rattle.graph_meaning.specs.declared.graphs.LaunchGraph.{LaunchGraph}
use Rattle.machine_table.specs.declared.tables.Table.{Table}
use Rattle.schedule_meaning.specs.declared.schedules.Allocation.{Allocation}
use Rattle.least_launch.specs.FewerLaunches.{fewer_in}
use Rattle.least_launch.specs.TailVerdicts.{HasTrueSize, HoldsOf, IsByClauses, SaysTrue, IsTailOutcome, TellsNoneFewer, HasTrueLines, by_clauses, launches_of}
use Rattle.least_launch.specs.declared.tails.Tail.{Tail}
use Rattle.least_launch.specs.declared.tails.Tail.TheVariants as tails
use Rattle.least_launch.specs.declared.verdicts.TailVerdict.{TailVerdict}

-- ---- counts

abbrev passes : Sizes → Bool
passes s = nat_lt most_vars s.vars || nat_lt most_clauses s.clauses

module _ (s : Sizes) (f : Formula) (ev : s.vars ≡ f.vars) (ec : s.clauses ≡ length f.clauses) where
  not_large : passes s ≡ false → ¬ IsTooLarge f
  not_large is = keeps_within s.vars s.clauses f ev ec (few_vars s.vars s.clauses is) (few_clauses s.vars s.clauses is)

  within_by : (b c : Bool) → passes s ≡ b → c ≡ not b → IsTrue c ↔ (¬ IsTooLarge f)
  within_by true c is e = (
    (λ t. absurd (false≢true (sym e ∙ t))),
    (λ n. absurd (n (limit_passed s.vars s.clauses f ev ec is).0)),
  )
  within_by false c is e = ((λ t. not_large is), (λ n. e))

  pub within_is : (b c : Bool) → b ≡ passes s → c ≡ not b → IsTrue c ↔ (¬ IsTooLarge f)
  within_is b c is e = within_by b c (sym is) e

  -- where no count passes, or a count is another one, the printed ones aren't right
  pub none_passes : (b : Bool) (vars clauses : ℕ) → b ≡ passes s → b ≡ false → IsTrue false ↔ PassesLimit f vars clauses
  none_passes b vars clauses is low = ((λ t. absurd (false≢true t)), (λ p. absurd (not_large (sym is ∙ low) p.0)))

  pub other_vars : (vars clauses : ℕ) → s.vars ≢ vars → IsTrue false ↔ PassesLimit f vars clauses
  other_vars vars clauses ne = ((λ t. absurd (false≢true t)), (λ p. absurd (ne (ev ∙ sym p.1))))

  pub other_clauses : (vars clauses : ℕ) → s.clauses ≢ clauses → IsTrue false ↔ PassesLimit f vars clauses
  other_clauses vars clauses ne = ((λ t. absurd (false≢true t)), (λ p. absurd (ne (ec ∙ sym p.2))))

  pub same_counts : (b : Bool) (vars clauses : ℕ) → b ≡ passes s → b ≡ true → s.vars ≡ vars → s.clauses ≡ clauses
      → IsTrue true ↔ PassesLimit f vars clauses
  same_counts b vars clauses is high same alike = (
    (λ t. ((limit_passed s.vars s.clauses f ev ec (sym is ∙ high)).0, sym same ∙ ev, sym alike ∙ ec)),
    (λ p. refl),
  )

-- the counts that were found are told where they are wrong
abbrev pub WrongSize : Formula → Tail → Option Sizes → Type 0
WrongSize f tail found =
    MatchOption found (HasTrueSize f tail)
    (λ (s : Sizes). (¬ HasTrueSize f tail) × (s.vars ≡ f.vars) × (s.clauses ≡ length f.clauses))

pub right_size : (f : Formula) (tail : Tail) (b : Bool) → (IsTrue b ↔ HasTrueSize f tail) → b ≡ true
    → WrongSize f tail None
right_size f tail b told so = told.0 so

pub wrong_counts : (f : Formula) (tail : Tail) (s : Sizes) (b : Bool) → (IsTrue b ↔ HasTrueSize f tail) → b ≡ false
    → s.vars ≡ f.vars → s.clauses ≡ length f.clauses → WrongSize f tail (Some s)
wrong_counts f tail s b told other ev ec = ((λ t. false≢true (sym other ∙ told.1 t)), ev, ec)

-- ---- verdicts

-- where all tests hold
pub all_hold : (f : Formula) (tail : Tail) (v : TailVerdict) → HasTrueSize f tail → HasTrueLines f tail → HoldsOf tail v
    → IsByClauses tail v f
all_hold f (tails.Least n lines) v size true_lines is =
    subst (λ x. IsByClauses (tails.Least n lines) x f) (sym is) (size, true_lines, refl)
all_hold f (tails.Spent n lines) v size true_lines is =
    subst (λ x. IsByClauses (tails.Spent n lines) x f) (sym is) (size, true_lines, refl)
all_hold f (tails.Size n vars clauses) v size true_lines is =
    subst (λ x. IsByClauses (tails.Size n vars clauses) x f) (sym is) (size, true_lines, refl)

module _ (g : LaunchGraph) (table : Table) (a : Allocation) (k : ℕ) where
  -- where a verdict says that no schedule has fewer launches, this holds
  pub says_true : (n : ℕ) (tail : Tail) (v : TailVerdict) → launches_of tail ≡ n + 1
      → TellsNoneFewer g table a k n tail → HoldsOf tail v → SaysTrue g table a k v
  says_true n (tails.Least m lines) v size none is =
      subst (SaysTrue g table a k) (sym is) (λ ls fits. (let more = none ls fits in omega (arith, size, more)))
  says_true n (tails.Spent m lines) v size none is = subst (SaysTrue g table a k) (sym is) tt
  says_true n (tails.Size m vars clauses) v size none is = subst (SaysTrue g table a k) (sym is) tt

  -- no schedule has fewer launches than none
  pub none_says_true : (tail : Tail) (v : TailVerdict) → launches_of tail ≡ 0 → HoldsOf tail v → SaysTrue g table a k v
  none_says_true (tails.Least m lines) v size is =
      subst (SaysTrue g table a k) (sym is) (λ ls fits. omega (arith, size))
  none_says_true (tails.Spent m lines) v size is = subst (SaysTrue g table a k) (sym is) tt
  none_says_true (tails.Size m vars clauses) v size is = subst (SaysTrue g table a k) (sym is) tt

pub where_none : {A P : Type 0} (Q : A → Type 0) (o : Option A) → o ≡ None → MatchOption o P Q → P
where_none Q None is h = h
where_none Q (Some x) is h = absurd (cc)

-- so it is where no variant with a value is
pub left_none : {A P : Type 0} (Q : A → Type 0) (o : Option A) → ((x : A) → o ≡ Some x → ⊥) → MatchOption o P Q → P
left_none Q None not h = h
left_none Q (Some x) not h = absurd (not x refl)

pub where_some : {A : Type 0} (P : Type 0) (Q : A → Type 0) (o : Option A) (x : A) → o ≡ Some x → MatchOption o P Q
    → Q x
where_some P Q None x is h = absurd (cc)
where_some P Q (Some y) x is h = subst Q (let e : y ≡ x = cc in e) h

pub if_none : {A P : Type 0} (o : Option A) → ((x : A) → o ≡ Some x → ⊥) → IfNone o P → P
if_none None not h = h
if_none (Some x) not h = absurd (not x refl)

-- what is said of so many launches is decided by the clauses for one fewer, over what a scope of the graph gives
-- variables, for the encoding that the allocation gives
pub by_clauses_for : (g facts : LaunchGraph) (table : Table) (a : Allocation) (k count : ℕ) (s : Scope)
    → IsScope (encoding_for a) g table s → k ≤ most_cycles
    → (tail : Tail) (v : TailVerdict) → count ≡ launches_of tail → 1 ≤ count → facts ≡ g
    → IsByClauses tail v (fewer_in s facts table k (count - 1)) → IsTailOutcome g table a k count tail v
by_clauses_for g facts table a k count s scope few tail v same some is by =
    by_clauses same
    (record {
      some = some;
      formula = fewer_in s g table k (count - 1);
      fewer = record { lists = listed_in g table k s; listed = scope.lists k few; is = refl };
      holds = subst (λ (x : LaunchGraph). IsByClauses tail v (fewer_in s x table k (count - 1))) is by;
    })
