-- The verdict on a goal, with what is said of its schedule.
use Rattle.std.proofs.Common.{◌≡◌, ℕ, ◌≤◌, List, length, sym, subst, ◌∙◌, Option, Some, None, Result, Ok, Err}
use Rattle.std.specs.Prelude.{IfOk, IsTrue, is_some}
use Rattle.std.proofs.lemmas.Bool.{false≢true}
use Rattle.schedule_meaning.specs.Limits.{most_cycles}
use Rattle.answer_check.specs.Soundness.{IsSound, IsTrueClaim}
use Rattle.answer_check.specs.Verdicts.{IsVerdict}
use Rattle.answer_check.specs.declared.verdicts.Verdict.{Verdict}
use Rattle.answer_check.specs.declared.verdicts.Verdict.TheVariants.{Holds}
use Rattle.answer_texts.specs.WellFormed.{FitsClaim, IsClaimed, no_world, worked}
use Rattle.answer_texts.specs.declared.answers.Claim.{Claim}
use Rattle.answer_texts.specs.declared.answers.Claim.TheVariants as claims
use Rattle.answer_texts.specs.declared.answers.Claimed.{Claimed}
use Rattle.cnf_core.specs.Formula.{Formula}
use Rattle.cycle_encoding.specs.Allocations.{allocation_of}
use Rattle.cycle_encoding.specs.declared.encodings.Encoding.{Encoding}
use Rattle.graph_meaning.specs.WellFormed.{IsLaunchGraph}
use Rattle.graph_meaning.specs.declared.graphs.LaunchGraph.{LaunchGraph}
use Rattle.machine_table.specs.declared.tables.Table.{Table}
use Rattle.register_assign.specs.declared.listings.Where.{Where}
use Rattle.schedule_meaning.specs.Fits.{Fits}
use Rattle.schedule_meaning.specs.declared.schedules.Allocation.{Allocation}
use Rattle.schedule_meaning.specs.declared.schedules.Schedule.{Schedule}
use Rattle.least_launch.specs.LeastChecks.{IsTailJudged}
use Rattle.least_launch.specs.TailVerdicts.{FitsAsClaimed, HoldsOf, ClaimsSchedule, IsTailOutcome, IsTrueVerdict, SaysTrue, by_clauses, launches_of, miscounted, no_launches, plain, tailed}
use Rattle.least_launch.specs.declared.tails.Tail.{Tail}
use Rattle.least_launch.specs.declared.tails.Tail.TheVariants as tails
use Rattle.least_launch.specs.declared.verdicts.TailVerdict.{TailVerdict}
use Rattle.least_launch.specs.declared.verdicts.TailVerdict.TheVariants as verdicts

module _ (e : Encoding) (table : Table) (c : Claimed) where
  pub plain_judged : (said : Option Tail) (v : Verdict) → IsVerdict e table c v → (v ≡ Holds → IsSound e table c)
      → (v ≡ Holds → ¬ ClaimsSchedule c.claim) → IsTailJudged e table c said (verdicts.Plain v)
  plain_judged said v verdict sound not = record { verdict = plain verdict not; sound = sound }

  module _ (g : LaunchGraph) (k : ℕ) (schedule : Schedule) (words : List ℕ) (places : List Where)
      (is : c.graph ≡ Some g)
      (claim : c.claim ≡ claims.Scheduled k schedule words places) (tail : Tail) where
    abbrev count : ℕ
    count = length schedule.launches

    -- the number that a verdict names is that of the schedule
    told_count : (launches : ℕ) (t : Tail) → HoldsOf t (verdicts.Least launches) → launches ≡ launches_of t
    told_count launches (tails.Least n lines) h = (let e : verdicts.Least launches ≡ verdicts.Least n = h in cc)
    told_count launches (tails.Spent n lines) h = absurd (let e : verdicts.Least launches ≡ verdicts.Most n = h in cc)
    told_count launches (tails.Size n vars clauses) h =
        absurd (let e : verdicts.Least launches ≡ verdicts.Most n = h in cc)

    counted_is : (launches : ℕ)
        → IsTailOutcome g table (allocation_of e) k (length schedule.launches) tail (verdicts.Least launches)
        → length schedule.launches ≡ launches
    counted_is launches (miscounted ne v) =
        absurd (let e : verdicts.Least launches ≡ verdicts.Count (launches_of tail) = v in cc)
    counted_is launches (no_launches same none h) = same ∙ sym (told_count launches tail h)
    counted_is launches (by_clauses same of) = same ∙ sym (told_count launches tail of.holds.2)

    true_verdict : (v : TailVerdict) → IsSound e table c
        → IsTailOutcome g table (allocation_of e) k (length schedule.launches) tail v
        → SaysTrue g table (allocation_of e) k v → IsTrueVerdict e table c v
    true_verdict (verdicts.Plain v) sound o says = λ holds. sound
    true_verdict (verdicts.Count n) sound o says = tt
    true_verdict (verdicts.Size vars clauses) sound o says = tt
    true_verdict (verdicts.Fewer line why) sound o says = tt
    true_verdict (verdicts.Least n) sound o says = (
      sound,
      record {
        graph = g;
        printed = is;
        cycles = k;
        schedule = schedule;
        words = words;
        places = places;
        claims = claim;
        count = counted_is n o;
        none_fewer = says;
      },
    )
    true_verdict (verdicts.Most n) sound o says = sound

    -- what was tested by an allocation, which is that of the encoding
    pub tail_judged : (a : Allocation) → allocation_of e ≡ a → (v : TailVerdict) → IsVerdict e table c Holds
        → IsSound e table c → IsTailOutcome g table a k (length schedule.launches) tail v → SaysTrue g table a k v
        → IsTailJudged e table c (Some tail) v
    tail_judged a kept v verdict sound o says =
        let outcome : IsTailOutcome g table (allocation_of e) k (length schedule.launches) tail v =
        subst (λ (x : Allocation). IsTailOutcome g table x k (length schedule.launches) tail v) (sym kept) o in
        let says_so : SaysTrue g table (allocation_of e) k v =
        subst (λ (x : Allocation). SaysTrue g table x k v) (sym kept) says in
        record { verdict = tailed verdict is claim outcome; sound = true_verdict v sound outcome says_so }

    pub fits_as_claimed : IsSound e table c → Fits g table (allocation_of e) k schedule.launches
    fits_as_claimed sound =
        let same : sound.graph ≡ g = (let e : Some sound.graph ≡ Some g = sym sound.printed ∙ is in cc) in
        let h = subst (IsTrueClaim table (allocation_of e) sound.graph sound.clauses_for) claim sound.claim in
        subst (λ (x : LaunchGraph). Fits x table (allocation_of e) k schedule.launches) same h.0

-- of a goal with a graph: it is well formed, and its claim is within bounds
pub graph_formed : (version : ℕ) (c : Claimed) (g : LaunchGraph) → IsClaimed version c → c.graph ≡ Some g
    → IsLaunchGraph g
graph_formed version c g (no_world is graph refute) there = absurd (let e = sym graph ∙ there in cc)
graph_formed version c g (worked {g = h} world graph formed unpinned fits refute) there =
    subst IsLaunchGraph (let e : Some h ≡ Some g = sym graph ∙ there in cc) formed

pub few_cycles : (version : ℕ) (c : Claimed) (k : ℕ) (schedule : Schedule) (words : List ℕ) (places : List Where)
    → IsClaimed version c → c.claim ≡ claims.Scheduled k schedule words places → k ≤ most_cycles
few_cycles version c k schedule words places (no_world is graph refute) there = absurd (let e = sym is ∙ there in cc)
few_cycles version c k schedule words places (worked world graph formed unpinned fits refute) there =
    (subst FitsClaim there fits).0

-- a goal without a graph isn't scheduled, nor is one of which nothing is said
pub not_scheduled : (version : ℕ) (c : Claimed) → IsClaimed version c → c.graph ≡ None → ¬ ClaimsSchedule c.claim
not_scheduled version c (no_world is graph refute) none = λ s. subst ClaimsSchedule is s
not_scheduled version c (worked world graph formed unpinned fits refute) none = absurd (let e = sym graph ∙ none in cc)

pub unsaid : (claim : Claim) (said : Option Tail) → said ≡ None → (ClaimsSchedule claim → IsTrue (is_some said))
    → ¬ ClaimsSchedule claim
unsaid claim said none some s = false≢true (subst (λ (o : Option Tail). IsTrue (is_some o)) none (some s))

-- ---- claims

fits_where : (table : Table) (al : Allocation) (g : LaunchGraph) (clauses_for : ℕ → Formula) (claim : Claim)
    → IsTrueClaim table al g clauses_for claim
    → FitsAsClaimed g table al claim
fits_where table al g clauses_for (claims.Scheduled k schedule words places) h = h.0
fits_where table al g clauses_for (claims.NoWorld class a b) h = tt
fits_where table al g clauses_for (claims.Missing k) h = tt
fits_where table al g clauses_for (claims.SpentConflicts k lemmas) h = tt
fits_where table al g clauses_for (claims.SpentSize k vars clauses) h = tt

-- the schedule that is claimed fits where the claim is true
pub claimed_fits : (e : Encoding) (table : Table) (c : Claimed) (g : LaunchGraph) → c.graph ≡ Some g → IsSound e table c
    → FitsAsClaimed g table (allocation_of e) c.claim
claimed_fits e table c g is sound =
    let same : sound.graph ≡ g = (let e : Some sound.graph ≡ Some g = sym sound.printed ∙ is in cc) in
    subst (λ (x : LaunchGraph). FitsAsClaimed x table (allocation_of e) c.claim) same
    (fits_where table (allocation_of e) sound.graph sound.clauses_for c.claim sound.claim)

-- the claim of a goal with a graph is within bounds
pub claim_small : (version : ℕ) (c : Claimed) (g : LaunchGraph) → IsClaimed version c → c.graph ≡ Some g
    → FitsClaim c.claim
claim_small version c g (no_world is graph refute) there = absurd (let e = sym graph ∙ there in cc)
claim_small version c g (worked world graph formed unpinned fits refute) there = fits

-- a claim without a schedule has the verdict on it alone
pub plain_claim : (e : Encoding) (table : Table) (c : Claimed) (claim : Claim) (said : Option Tail) → c.claim ≡ claim
    → ¬ ClaimsSchedule claim → IsVerdict e table c Holds → IsSound e table c
    → IsTailJudged e table c said (verdicts.Plain Holds)
plain_claim e table c claim said is not verdict sound =
    plain_judged e table c said Holds verdict (λ h. sound) (λ h s. not (subst ClaimsSchedule is s))

-- of a result whose promises are told apart
pub if_both : {A E : Type 0} (P R Q : A → Type 0) (r : Result A E) → ((a : A) → P a → R a → Q a) → IfOk r P → IfOk r R
    → IfOk r Q
if_both P R Q (Ok a) f p h = f a p h
if_both P R Q (Err x) f p h = tt
