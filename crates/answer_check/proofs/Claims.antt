-- What holds of a claim whose tests all hold.
use Rattle.std.proofs.Common.{◌≡◌, ◌≢◌, ℕ, ◌-◌, ◌<◌, ◌≤◌, ◌^◌, List, length, Option, Some, None, Result, Ok, Err, refl, sym, subst, ◌∙◌, arith}
use Rattle.std.specs.Prelude.{IfOk, IfSome, IfNone, MatchOption}
use Rattle.cnf_core.specs.Formula.{Formula}
use Rattle.cnf_core.specs.declared.line.Lines.{Lines}
use Rattle.cycle_encoding.specs.Allocations.{allocation_of}
use Rattle.cycle_encoding.specs.CycleFormula.{Scope, allocation_in, listed_in}
use Rattle.cycle_encoding.specs.Encodings.{IsScope}
use Rattle.cycle_encoding.specs.declared.encodings.Encoding.{Encoding}
use Rattle.graph_meaning.specs.declared.graphs.LaunchGraph.{LaunchGraph}
use Rattle.machine_table.specs.declared.tables.Table.{Table}
use Rattle.order_encoding.specs.WholeFormula.{AreFormulas, formula_in}
use Rattle.schedule_meaning.specs.Fits.{Fits}
use Rattle.schedule_meaning.specs.declared.schedules.Allocation.{Allocation}
use Rattle.schedule_meaning.specs.declared.schedules.Launch.{Launch}
use Rattle.answer_texts.specs.AnswerLines.{refuted_below}
use Rattle.answer_texts.specs.WellFormed.{HasRefutation, nothing_less, refuted, IsClaimed, no_world, worked}
use Rattle.answer_texts.specs.declared.answers.Claim.{Claim}
use Rattle.answer_texts.specs.declared.answers.Claim.TheVariants.{NoWorld, Scheduled, Missing, SpentConflicts, SpentSize}
use Rattle.answer_texts.specs.declared.answers.Claimed.{Claimed}
use Rattle.answer_check.specs.Soundness.{DoesAsClaimed, NoneFitsBelow, IsSound, IsTrueClaim}
use Rattle.answer_check.specs.Verdicts.{IsFitting, HasRightSize, HasLemmas, IsOutcome, IsVerdict, seen, tested}
use Rattle.answer_check.specs.declared.verdicts.Verdict.{Verdict}
use Rattle.answer_check.specs.declared.verdicts.Verdict.TheVariants.{Holds, Seen}

pub few_lines : (below : ℕ) (refute : Option Lines) → HasRefutation below refute
    → IfSome refute (λ (l : Lines). length l.lines < 2 ^ 29)
few_lines _ _ nothing_less = tt
few_lines _ _ (refuted few some) = few

-- of what is found, or else holds, nothing was found
pub where_none : {A P : Type 0} (Q : A → Type 0) (o : Option A) → o ≡ None → MatchOption o P Q → P
where_none Q None is h = h
where_none Q (Some x) is h = absurd (cc)

-- and where something was found, that holds of it
pub where_some : {A : Type 0} (P : Type 0) (Q : A → Type 0) (o : Option A) (x : A) → o ≡ Some x → MatchOption o P Q → Q x
where_some P Q None x is h = absurd (cc)
where_some P Q (Some y) x is h = (let same : y ≡ x = cc in subst Q same h)

pub if_none : {A P : Type 0} (o : Option A) → o ≡ None → IfNone o P → P
if_none None is h = h
if_none (Some x) is h = absurd (cc)

module _ (table : Table) (a : Allocation) (g : LaunchGraph) where
  -- what fits in fewer cycles fits in one less than so many
  pub none_below : ((k m : ℕ) (ls : List Launch) → k ≤ m → Fits g table a k ls → Fits g table a m ls)
      → (below : ℕ) (refute : Option Lines) → HasRefutation below refute
      → IfSome refute (λ (l : Lines). (ls : List Launch) → Fits g table a (below - 1) ls → ⊥)
      → NoneFitsBelow table a g below
  none_below longer _ _ nothing_less none = λ j ls less fit. absurd (omega (arith, less))
  none_below longer _ _ (refuted {k} few some) none =
      λ j ls less fit. none ls (longer j (k - 1) ls (omega (arith, less)) fit)

  pub true_claim : (clauses_for : ℕ → Formula) (claim : Claim) → ((class a b : ℕ) → claim ≢ NoWorld class a b)
      → IsFitting table a g claim → DoesAsClaimed table a g claim → HasRightSize clauses_for claim
      → HasLemmas clauses_for claim → NoneFitsBelow table a g (refuted_below claim)
      → IsTrueClaim table a g clauses_for claim
  true_claim f (NoWorld class x y) world fits does size lemmas none = world class x y refl
  true_claim f (Scheduled k schedule words places) world fits does size lemmas none = (fits, does, none)
  true_claim f (Missing k) world fits does size lemmas none = none
  true_claim f (SpentConflicts k lines) world fits does size lemmas none = (none, lemmas)
  true_claim f (SpentSize k vars clauses) world fits does size lemmas none = (none, size)

-- a goal without a graph has no world
pub seen_where : (e : Encoding) (table : Table) (version : ℕ) (c : Claimed) → IsClaimed version c → c.graph ≡ None → IsVerdict e table c Seen
seen_where e table version c (no_world is graph refute) none = seen is refl
seen_where e table version c (worked world graph formed unpinned fits refute) none = absurd (let e = sym graph ∙ none in cc)

-- the clauses over what a scope gives variables are those of its encoding
pub formulas_in : (e : Encoding) (g : LaunchGraph) (table : Table) (s : Scope) → IsScope e g table s
    → AreFormulas e g table (formula_in s g table)
formulas_in e g table s is = λ k few. record { lists = listed_in g table k s; listed = is.lists k few; is = refl }

-- the same of a graph that is the one over which the scope is
pub formulas_at : (e : Encoding) (g h : LaunchGraph) (table : Table) (s : Scope) → h ≡ g → IsScope e h table s
    → AreFormulas e g table (formula_in s h table)
formulas_at e g h table s same is =
    subst (λ (x : LaunchGraph). AreFormulas e x table (formula_in s h table)) same (formulas_in e h table s is)

pub tested_where : {E : Type 0} (e : Encoding) (table : Table) (c : Claimed) (g h : LaunchGraph) (s : Scope)
    → c.graph ≡ Some g → h ≡ g → IsScope e h table s → (r : Result Verdict E)
    → IfOk r (IsOutcome table (allocation_in s) g (formula_in s h table) c) → IfOk r (IsVerdict e table c)
tested_where e table c g h s is same of (Ok v) o =
    tested is (formulas_at e g h table s same of)
    (subst (λ (x : Encoding). IsOutcome table (allocation_of x) g (formula_in s h table) c v) of.encoding o)
tested_where e table c g h s is same of (Err x) o = tt

pub sound_where : {E : Type 0} (e : Encoding) (table : Table) (c : Claimed) (g h : LaunchGraph) (s : Scope)
    → c.graph ≡ Some g → h ≡ g → IsScope e h table s → (r : Result Verdict E)
    → IfOk r (λ v. v ≡ Holds → IsTrueClaim table (allocation_in s) g (formula_in s h table) c.claim)
    → IfOk r (λ v. v ≡ Holds → IsSound e table c)
sound_where e table c g h s is same of (Ok v) o =
    λ holds. record {
      graph = g;
      printed = is;
      clauses_for = formula_in s h table;
      formulas = formulas_at e g h table s same of;
      claim = subst (λ (x : Encoding). IsTrueClaim table (allocation_of x) g (formula_in s h table) c.claim)
          of.encoding (o holds);
    }
sound_where e table c g h s is same of (Err x) o = tt

-- the scope's own encoding is the one that was asked for
pub own_scope : (e : Encoding) (g : LaunchGraph) (table : Table) (s : Scope) → IsScope e g table s
    → IsScope s.encoding g table s
own_scope e g table s is = subst (λ (x : Encoding). IsScope x g table s) (sym is.encoding) is
