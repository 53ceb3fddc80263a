-- A claimed goal has one verdict at most.
use Rattle.std.proofs.Common.{◌≡◌, ℕ, ◌<◌, ◌≤◌, List, Option, Some, None, length, refl, sym, ap, subst, ◌∙◌, arith}
use Rattle.std.specs.Prelude.{IfSome, IsSomeAnd}
use Rattle.schedule_meaning.specs.Limits.{most_cycles}
use Rattle.cnf_core.specs.Formula.{Formula}
use Rattle.cnf_core.specs.Refutation.{Refutes, AreLemmas, IsFirstRefusal, IsEmptyOnlyLast, IsFilled}
use Rattle.cnf_core.specs.declared.line.Lines.{Lines}
use Rattle.cycle_encoding.specs.CycleFormula.{Listed}
use Rattle.cycle_encoding.specs.Encodings.{AreListed}
use Rattle.cycle_encoding.specs.Plans.{IsTooLarge, PassesLimit}
use Rattle.cycle_encoding.specs.Allocations.{allocation_of}
use Rattle.cycle_encoding.specs.declared.encodings.Encoding.{Encoding}
use Rattle.graph_meaning.specs.declared.graphs.LaunchGraph.{LaunchGraph}
use Rattle.machine_table.specs.declared.tables.Table.{Table}
use Rattle.order_encoding.specs.WholeFormula.{AreFormulas, whole_formula}
use Rattle.schedule_meaning.specs.Broken.{IsFirstBroken}
use Rattle.schedule_meaning.specs.Fits.{Fits}
use Rattle.schedule_meaning.specs.declared.schedules.Allocation.{Allocation}
use Rattle.schedule_meaning.specs.declared.schedules.Launch.{Launch}
use Rattle.answer_texts.specs.AnswerLines.{refuted_below, refuted_cycles}
use Rattle.answer_texts.specs.WellFormed.{FitsClaim, IsClaimed, no_world, worked}
use Rattle.answer_texts.specs.declared.answers.Claim.{Claim}
use Rattle.answer_texts.specs.declared.answers.Claim.TheVariants.{NoWorld, Scheduled, Missing, SpentConflicts, SpentSize}
use Rattle.answer_texts.specs.declared.answers.Claimed.{Claimed}
use Rattle.answer_check.specs.Verdicts.{IsFitting, IsWithinBelow, HasRightSize, HasRefutingLines, HasLemmas, IsBroken, HasWrongSize, below, own, IsRefusedBelow, HasRefusedLemma, IsOutcome, IsVerdict, seen, tested}
use Rattle.answer_check.specs.declared.verdicts.Verdict.{Verdict}
use Rattle.answer_check.specs.declared.verdicts.Verdict.TheVariants.{Holds, Seen, Broken, Listing, Size, Refutation, Lemmas}
use Rattle.answer_check.proofs.Refusals.{first_refusal_once, right_not_refused}

-- an encoding gives a graph and a table one list in so many cycles
abbrev OneList : Type 0
OneList =
    (e : Encoding) (g : LaunchGraph) (table : Table) (k : ℕ) (l m : Listed) → AreListed e g table k l
    → AreListed e g table k m → l ≡ m

-- ---- refutations

module _ (f : Formula) where
  abbrev RefusedFirst : Option Lines → ℕ → ℕ → Type 0
  RefusedFirst o line why =
      IsSomeAnd o (λ (l : Lines). IsFirstRefusal (IsEmptyOnlyLast l.lines) f l.lines line why)

  refused_once : (o : Option Lines) (line other a b : ℕ) → RefusedFirst o line a → RefusedFirst o other b
      → (line ≡ other) × (a ≡ b)
  refused_once None line other a b r s = absurd r
  refused_once (Some l) line other a b r s = first_refusal_once (IsEmptyOnlyLast l.lines) f l.lines line other a b r s

  refuted_apart : (o : Option Lines) (line why : ℕ) → IfSome o (λ (l : Lines). Refutes f l.lines)
      → RefusedFirst o line why → ⊥
  refuted_apart None line why right r = r
  refuted_apart (Some l) line why right r =
      right_not_refused (IsEmptyOnlyLast l.lines) f l.lines line why right r

module _ (table : Table) (al : Allocation) (g : LaunchGraph)
    (once : (k : ℕ) (ls : List Launch) (i j r s : ℕ) → IsFirstBroken g table al k ls i r → IsFirstBroken g table al k ls j s
    → (i ≡ j) × (r ≡ s))
    (fit_apart : (k : ℕ) (ls : List Launch) (i r : ℕ) → Fits g table al k ls → IsFirstBroken g table al k ls i r → ⊥)
    (clauses_for : ℕ → Formula) where
  -- ---- the tests of claims

  broken_once : (claim : Claim) (i j r s : ℕ) → IsBroken table al g claim i r → IsBroken table al g claim j s
      → (i ≡ j) × (r ≡ s)
  broken_once (Scheduled k schedule words places) i j r s h e = once k schedule.launches i j r s h e
  broken_once (NoWorld class a b) i j r s h e = absurd h
  broken_once (Missing k) i j r s h e = absurd h
  broken_once (SpentConflicts k lemmas) i j r s h e = absurd h
  broken_once (SpentSize k vars clauses) i j r s h e = absurd h

  broken_apart : (claim : Claim) (i r : ℕ) → IsBroken table al g claim i r → IsFitting table al g claim → ⊥
  broken_apart (Scheduled k schedule words places) i r h fits = fit_apart k schedule.launches i r fits h
  broken_apart (NoWorld class a b) i r h fits = h
  broken_apart (Missing k) i r h fits = h
  broken_apart (SpentConflicts k lemmas) i r h fits = h
  broken_apart (SpentSize k vars clauses) i r h fits = h

  lemma_once : (claim : Claim) (k j line other a b : ℕ) → HasRefusedLemma clauses_for claim k line a
      → HasRefusedLemma clauses_for claim j other b → (k ≡ j) × (line ≡ other) × (a ≡ b)
  lemma_once (SpentConflicts n lemmas) k j line other a b h e =
      let one = first_refusal_once IsFilled (clauses_for n) lemmas.lines line other a b h.1 e.1 in
      (h.0 ∙ sym e.0, one.0, one.1)
  lemma_once (NoWorld class x y) k j line other a b h e = absurd h
  lemma_once (Scheduled n schedule words places) k j line other a b h e = absurd h
  lemma_once (Missing n) k j line other a b h e = absurd h
  lemma_once (SpentSize n vars clauses) k j line other a b h e = absurd h

  lemma_apart : (claim : Claim) (k line why : ℕ) → HasRefusedLemma clauses_for claim k line why
      → HasLemmas clauses_for claim → ⊥
  lemma_apart (SpentConflicts n lemmas) k line why h right =
      right_not_refused IsFilled (clauses_for n) lemmas.lines line why right h.1
  lemma_apart (NoWorld class x y) k line why h right = h
  lemma_apart (Scheduled n schedule words places) k line why h right = h
  lemma_apart (Missing n) k line why h right = h
  lemma_apart (SpentSize n vars clauses) k line why h right = h

  module _ (c : Claimed) where
    size_once : (v w x y : ℕ) → HasWrongSize clauses_for c v x → HasWrongSize clauses_for c w y → (v ≡ w) × (x ≡ y)
    size_once v w x y (below there p) (below too q) = (p.1 ∙ sym q.1, p.2 ∙ sym q.2)
    size_once v w x y (below there p) (own within wrong ev ec) = absurd (within there p.0)
    size_once v w x y (own within wrong ev ec) (below there p) = absurd (within there p.0)
    size_once v w x y (own within wrong ev ec) (own too also ew ed) = (ev ∙ sym ew, ec ∙ sym ed)

    size_apart : (v x : ℕ) → HasWrongSize clauses_for c v x → IsWithinBelow clauses_for c → HasRightSize clauses_for c.claim → ⊥
    size_apart v x (below there p) within right = within there p.0
    size_apart v x (own less wrong ev ec) within right = wrong right

    refusal_apart : (k line why : ℕ) → IsRefusedBelow clauses_for c k line why → HasRefutingLines clauses_for c → ⊥
    refusal_apart k line why h right =
        refuted_apart (clauses_for (refuted_cycles c.claim)) c.refute line why right h.1

    -- ---- verdicts in the order of the tests

    abbrev stage : Verdict → ℕ
    stage Seen = 0
    stage (Broken launch rule) = 1
    stage Listing = 2
    stage (Size vars clauses) = 3
    stage (Refutation k line why) = 4
    stage (Lemmas k line why) = 5
    stage Holds = 6

    last_stage : (v : Verdict) → stage v < 7
    last_stage Seen = omega arith
    last_stage (Broken launch rule) = omega arith
    last_stage Listing = omega arith
    last_stage (Size vars clauses) = omega arith
    last_stage (Refutation k line why) = omega arith
    last_stage (Lemmas k line why) = omega arith
    last_stage Holds = omega arith

    earlier : (v w : Verdict) → stage v < stage w → IsOutcome table al g clauses_for c v → IsOutcome table al g clauses_for c w → ⊥
    earlier Seen w lt h e = h
    earlier (Broken i r) Listing lt h e = broken_apart c.claim i r h e.0
    earlier (Broken i r) (Size v x) lt h e = broken_apart c.claim i r h e.0
    earlier (Broken i r) (Refutation k l y) lt h e = broken_apart c.claim i r h e.0
    earlier (Broken i r) (Lemmas k l y) lt h e = broken_apart c.claim i r h e.0
    earlier (Broken i r) Holds lt h e = broken_apart c.claim i r h e.0
    earlier Listing (Size v x) lt h e = h.1 e.1
    earlier Listing (Refutation k l y) lt h e = h.1 e.1
    earlier Listing (Lemmas k l y) lt h e = h.1 e.1
    earlier Listing Holds lt h e = h.1 e.1
    earlier (Size v x) (Refutation k l y) lt h e = size_apart v x h.2 e.2 e.3
    earlier (Size v x) (Lemmas k l y) lt h e = size_apart v x h.2 e.2 e.3
    earlier (Size v x) Holds lt h e = size_apart v x h.2 e.2 e.3
    earlier (Refutation k l y) (Lemmas j m z) lt h e = refusal_apart k l y h.4 e.4
    earlier (Refutation k l y) Holds lt h e = refusal_apart k l y h.4 e.4
    earlier (Lemmas k l y) Holds lt h e = lemma_apart c.claim k l y h.5 e.5
    earlier v w lt h e = absurd (omega (arith, lt, last_stage w))

    same_stage : (v w : Verdict) → stage v ≡ stage w → IsOutcome table al g clauses_for c v → IsOutcome table al g clauses_for c w → v ≡ w
    same_stage Seen Seen is h e = refl
    same_stage (Broken i r) (Broken j s) is h e =
        let o = broken_once c.claim i j r s h e in
        let a : i ≡ j = o.0 in
        let b : r ≡ s = o.1 in
        cc
    same_stage Listing Listing is h e = refl
    same_stage (Size v x) (Size w y) is h e =
        let o = size_once v w x y h.2 e.2 in
        let a : v ≡ w = o.0 in
        let b : x ≡ y = o.1 in
        cc
    same_stage (Refutation k l y) (Refutation j m z) is h e =
        let o = refused_once (clauses_for (refuted_cycles c.claim)) c.refute l m y z h.4.1 e.4.1 in
        let a : k ≡ j = h.4.0 ∙ sym e.4.0 in
        let b : l ≡ m = o.0 in
        let d : y ≡ z = o.1 in
        cc
    same_stage (Lemmas k l y) (Lemmas j m z) is h e =
        let o = lemma_once c.claim k j l m y z h.5 e.5 in
        let a : k ≡ j = o.0 in
        let b : l ≡ m = o.1 in
        let d : y ≡ z = o.2 in
        cc
    same_stage Holds Holds is h e = refl
    same_stage v w is h e = absurd (omega (arith, is))

    pub one_outcome : (v w : Verdict) → IsOutcome table al g clauses_for c v → IsOutcome table al g clauses_for c w → v ≡ w
    one_outcome v w h e =
        let a : ¬ (stage v < stage w) = λ lt. earlier v w lt h e in
        let b : ¬ (stage w < stage v) = λ lt. earlier w v lt e h in
        same_stage v w (omega (arith, a, b)) h e

-- ---- verdicts

-- what has a graph has a world
worldless : (version : ℕ) (c : Claimed) (g : LaunchGraph) (class a b : ℕ) → IsClaimed version c → c.claim ≡ NoWorld class a b
    → c.graph ≡ Some g → ⊥
worldless version c g class a b (no_world is graph refute) claim some = absurd (let e = sym graph ∙ some in cc)
worldless version c g class a b (worked world graph formed unpinned fits refute) claim some = world class a b claim

-- ---- two functions that give the same clauses for as many cycles as may be asked for

few_cycles : (claim : Claim) → FitsClaim claim → refuted_cycles claim ≤ most_cycles
few_cycles (NoWorld class x y) fits = omega arith
few_cycles (Scheduled k schedule words places) fits = let few = fits.0 in omega (arith, few)
few_cycles (Missing k) fits = omega (arith, fits)
few_cycles (SpentConflicts k lemmas) fits = let few = fits.0 in omega (arith, few)
few_cycles (SpentSize k vars clauses) fits = omega (arith, fits)

module _ (a b : ℕ → Formula) (same : (k : ℕ) → k ≤ most_cycles → a k ≡ b k) where
  within_as : (c : Claimed) → FitsClaim c.claim → IsWithinBelow a c → IsWithinBelow b c
  within_as c fits h =
      λ there. subst (λ (f : Formula). ¬ IsTooLarge f) (same (refuted_cycles c.claim) (few_cycles c.claim fits)) (h there)

  size_as : (claim : Claim) → FitsClaim claim → HasRightSize a claim → HasRightSize b claim
  size_as (SpentConflicts k lemmas) fits h = subst (λ (f : Formula). ¬ IsTooLarge f) (same k fits.0) h
  size_as (SpentSize k vars clauses) fits h = subst (λ (f : Formula). PassesLimit f vars clauses) (same k fits) h
  size_as (NoWorld class x y) fits h = h
  size_as (Scheduled k schedule words places) fits h = h
  size_as (Missing k) fits h = h

  own_as : (claim : Claim) → FitsClaim claim → ¬ HasRightSize a claim → a (refuted_below claim) ≡ b (refuted_below claim)
  own_as (SpentConflicts k lemmas) fits wrong = same k fits.0
  own_as (SpentSize k vars clauses) fits wrong = same k fits
  own_as (NoWorld class x y) fits wrong = absurd (wrong tt)
  own_as (Scheduled k schedule words places) fits wrong = absurd (wrong tt)
  own_as (Missing k) fits wrong = absurd (wrong tt)

  lines_as : (k : ℕ) → k ≤ most_cycles → (o : Option Lines) → IfSome o (λ (l : Lines). Refutes (a k) l.lines)
      → IfSome o (λ (l : Lines). Refutes (b k) l.lines)
  lines_as k few None h = tt
  lines_as k few (Some l) h = subst (λ (f : Formula). Refutes f l.lines) (same k few) h

  lemmas_as : (claim : Claim) → FitsClaim claim → HasLemmas a claim → HasLemmas b claim
  lemmas_as (SpentConflicts k lemmas) fits h = subst (λ (f : Formula). AreLemmas f lemmas.lines) (same k fits.0) h
  lemmas_as (SpentSize k vars clauses) fits h = h
  lemmas_as (NoWorld class x y) fits h = h
  lemmas_as (Scheduled k schedule words places) fits h = h
  lemmas_as (Missing k) fits h = h

  refused_as : (c : Claimed) (k line why : ℕ) → FitsClaim c.claim → IsRefusedBelow a c k line why
      → IsRefusedBelow b c k line why
  refused_as c k line why fits h = (
    h.0,
    subst (λ (f : Formula). RefusedFirst f c.refute line why) (same (refuted_cycles c.claim) (few_cycles c.claim fits)) h.1,
  )

  lemma_as : (claim : Claim) (k line why : ℕ) → FitsClaim claim → HasRefusedLemma a claim k line why
      → HasRefusedLemma b claim k line why
  lemma_as (SpentConflicts n lemmas) k line why fits h =
      (h.0, subst (λ (f : Formula). IsFirstRefusal IsFilled f lemmas.lines line why) (same n fits.0) h.1)
  lemma_as (SpentSize n vars clauses) k line why fits h = h
  lemma_as (NoWorld class x y) k line why fits h = h
  lemma_as (Scheduled n schedule words places) k line why fits h = h
  lemma_as (Missing n) k line why fits h = h

wrong_as : (a b : ℕ → Formula) → ((k : ℕ) → k ≤ most_cycles → a k ≡ b k) → (c : Claimed) (v x : ℕ) → FitsClaim c.claim
    → HasWrongSize a c v x → HasWrongSize b c v x
wrong_as a b same c v x fits (below there p) =
    below there (subst (λ (f : Formula). PassesLimit f v x) (same (refuted_cycles c.claim) (few_cycles c.claim fits)) p)
wrong_as a b same c v x fits (own within wrong ev ec) =
    let e = own_as a b same c.claim fits wrong in
    own (within_as a b same c fits within)
    (λ right. wrong (size_as b a (λ k few. sym (same k few)) c.claim fits right))
    (ev ∙ ap (λ (f : Formula). f.vars) e) (ec ∙ ap (λ (f : Formula). length f.clauses) e)

outcome_as : (table : Table) (al : Allocation) (g : LaunchGraph) (a b : ℕ → Formula) → ((k : ℕ) → k ≤ most_cycles → a k ≡ b k) → (c : Claimed)
    (v : Verdict) → FitsClaim c.claim → IsOutcome table al g a c v → IsOutcome table al g b c v
outcome_as table al g a b same c Seen fits h = h
outcome_as table al g a b same c (Broken i r) fits h = h
outcome_as table al g a b same c Listing fits h = h
outcome_as table al g a b same c (Size v x) fits h = (h.0, h.1, wrong_as a b same c v x fits h.2)
outcome_as table al g a b same c (Refutation k l y) fits h = (
  h.0,
  h.1,
  within_as a b same c fits h.2,
  size_as a b same c.claim fits h.3,
  refused_as a b same c k l y fits h.4,
)
outcome_as table al g a b same c (Lemmas k l y) fits h = (
  h.0,
  h.1,
  within_as a b same c fits h.2,
  size_as a b same c.claim fits h.3,
  lines_as a b same (refuted_cycles c.claim) (few_cycles c.claim fits) c.refute h.4,
  lemma_as a b same c.claim k l y fits h.5,
)
outcome_as table al g a b same c Holds fits h = (
  h.0,
  h.1,
  within_as a b same c fits h.2,
  size_as a b same c.claim fits h.3,
  lines_as a b same (refuted_cycles c.claim) (few_cycles c.claim fits) c.refute h.4,
  lemmas_as a b same c.claim fits h.5,
)

-- the clauses of an encoding are one formula for each number of cycles
one_formula : OneList → (e : Encoding) (g : LaunchGraph) (table : Table) (a b : ℕ → Formula) → AreFormulas e g table a
    → AreFormulas e g table b → (k : ℕ) → k ≤ most_cycles → a k ≡ b k
one_formula one e g table a b of too k few =
    let p = of k few in
    let q = too k few in
    p.is ∙ ap (whole_formula g table k) (one e g table k p.lists q.lists p.listed q.listed) ∙ sym q.is

-- a goal with a graph has a claim that fits
fits_where : (version : ℕ) (c : Claimed) (g : LaunchGraph) → IsClaimed version c → c.graph ≡ Some g → FitsClaim c.claim
fits_where version c g (no_world is none refute) some = absurd (let e = sym none ∙ some in cc)
fits_where version c g (worked world graph formed unpinned fits refute) some = fits

pub one_verdict_only : OneList → (e : Encoding) (table : Table) (version : ℕ) (c : Claimed)
    → ((g : LaunchGraph) (al : Allocation) (k : ℕ) (ls : List Launch) (i j r s : ℕ) → IsFirstBroken g table al k ls i r
    → IsFirstBroken g table al k ls j s → (i ≡ j) × (r ≡ s))
    → ((g : LaunchGraph) (al : Allocation) (k : ℕ) (ls : List Launch) (i r : ℕ) → Fits g table al k ls → IsFirstBroken g table al k ls i r → ⊥)
    → IsClaimed version c → (v w : Verdict) → IsVerdict e table c v → IsVerdict e table c w → v ≡ w
one_verdict_only one e table version c once apart is v w (seen claim p) (seen also d) = p ∙ sym d
one_verdict_only one e table version c once apart is v w (seen {class} {a} {b} claim p) (tested {g} {clauses_for = f} graph of h) =
    absurd (worldless version c g class a b is claim graph)
one_verdict_only one e table version c once apart is v w (tested {g} {clauses_for = f} graph of h) (seen {class} {a} {b} claim p) =
    absurd (worldless version c g class a b is claim graph)
one_verdict_only one e table version c once apart is v w (tested {g} {clauses_for = f} graph of h) (tested {g = k} {clauses_for = m} too with_other o) =
    let s : Some k ≡ Some g = sym too ∙ graph in
    let same : k ≡ g = cc in
    let there = subst (λ (x : LaunchGraph). AreFormulas e x table m) same with_other in
    let al = allocation_of e in
    one_outcome table al g (once g al) (apart g al) f c v w h
    (outcome_as table al g m f (one_formula one e g table m f there of) c w (fits_where version c g is graph)
    (subst (λ (x : LaunchGraph). IsOutcome table al x m c w) same o))
