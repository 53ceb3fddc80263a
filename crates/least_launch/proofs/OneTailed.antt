-- An answer with lines behind it is read in one way.
use Rattle.std.proofs.Common.{◌≡◌, ◌⊎◌, ℕ, ◌+◌, ◌<◌, List, [], ◌∷◌, ◌++◌, length, Option, refl, sym, ap, subst, ◌∙◌, inl, inr, arith}
use Rattle.std.proofs.lemmas.List.{append-nil}
use Rattle.answer_texts.proofs.PartsCounted.{WordsAreOneLine}
use Rattle.answer_texts.proofs.PartsOnce.{one_bad_line}
use Rattle.answer_texts.specs.LineParts.{IsBadOrMissingLine}
use Rattle.answer_texts.specs.ReadAnswers.{IsAnswerFault, ReadsAnswer}
use Rattle.answer_texts.specs.declared.answers.AnswerText.{AnswerText}
use Rattle.answer_texts.specs.declared.answers.Claimed.{Claimed}
use Rattle.text_core.specs.Lines.{HasLines, IsFirstLineFault, Line}
use Rattle.text_core.specs.declared.faults.Kind.{Kind}
use Rattle.least_launch.specs.TailParts.{AreTails, GoalTailFault, GoalTailPart, TailsFault, behind_all, in_goal, more, no_goals}
use Rattle.least_launch.specs.TailedAnswers.{HasNoTail, IsTailAt, IsTailedFault, ReadsTailed, bytes_in_front, missing, of_answer, of_lines, of_tail, of_whole}
use Rattle.least_launch.specs.declared.tails.Tail.{Tail}
use Rattle.least_launch.proofs.OneTail.{goal_tail_once}

-- ---- the goals one behind another, from the first on

module _ (lines : List Line) where
  abbrev pub Chained : ℕ → ℕ → List Claimed → List (Option Tail) → Type 0
  Chained from next [] said = (next ≡ from) × (said ≡ [])
  Chained from next (g ∷ gs) said =
      (middle : ℕ) × (tail : Option Tail) × (rest : List (Option Tail)) × GoalTailPart lines g.claim from middle tail
      × Chained middle next gs rest × (said ≡ tail ∷ rest)

  abbrev pub ChainFault : ℕ → List Claimed → ℕ → Kind → Type 0
  ChainFault from [] place kind = (from < length lines) × IsBadOrMissingLine lines from place kind
  ChainFault from (g ∷ gs) place kind =
      GoalTailFault lines g.claim from place kind
      ⊎ ((middle : ℕ) × (tail : Option Tail) × GoalTailPart lines g.claim from middle tail × ChainFault middle gs place
      kind)

  one_more : (from middle next : ℕ) (gs : List Claimed) (said : List (Option Tail)) (g : Claimed) (tail : Option Tail)
      → Chained from middle gs said → GoalTailPart lines g.claim middle next tail
      → Chained from next (gs ++ g ∷ []) (said ++ tail ∷ [])
  one_more from middle next [] said g tail c part = (
    next,
    tail,
    [],
    subst (λ n. GoalTailPart lines g.claim n next tail) c.0 part,
    (refl, refl),
    ap (λ s. s ++ tail ∷ []) c.1,
  )
  one_more from middle next (h ∷ gs) said g tail c part =
      (c.0, c.1, c.2 ++ tail ∷ [], c.3, one_more c.0 middle next gs c.2 g tail c.4 part, ap (λ s. s ++ tail ∷ []) c.5)

  pub chained : {from next : ℕ} {gs : List Claimed} {said : List (Option Tail)} → AreTails lines from next gs said
      → Chained from next gs said
  chained no_goals = (refl, refl)
  chained (more {middle = m} {next = n} {goals = gs} {said = s} g tail before part) =
      one_more _ m n gs s g tail (chained before) part

  fault_behind : (before behind : List Claimed) (from at : ℕ) (said : List (Option Tail)) (place : ℕ) (kind : Kind)
      → Chained from at before said → ChainFault at behind place kind → ChainFault from (before ++ behind) place kind
  fault_behind [] behind from at said place kind c f = subst (λ n. ChainFault n behind place kind) c.0 f
  fault_behind (g ∷ before) behind from at said place kind c f =
      inr (c.0, c.1, c.3, fault_behind before behind c.0 at c.2 place kind c.4 f)

  pub chain_fault : (goals : List Claimed) (from place : ℕ) (kind : Kind) → TailsFault lines goals from place kind
      → ChainFault from goals place kind
  chain_fault goals from place kind (in_goal {at = at} {said = said} before behind g same are f) =
      subst (λ gs. ChainFault from gs place kind) (sym same)
      (fault_behind before (g ∷ behind) from at said place kind (chained are) (inl f))
  chain_fault goals from place kind (behind_all {at = at} {said = said} are lt f) =
      subst (λ gs. ChainFault from gs place kind) (append-nil goals)
      (fault_behind goals [] from at said place kind (chained are) (lt, f))

  module _ (one : WordsAreOneLine) where
    pub chain_once : (goals : List Claimed) (from next other : ℕ) (said others : List (Option Tail))
        → Chained from next goals said → Chained from other goals others → said ≡ others
    chain_once [] from next other said others a b = a.1 ∙ sym b.1
    chain_once (g ∷ gs) from next other said others a b =
        let same = (goal_tail_once lines one g.claim).once from b.0 a.0 b.1 a.1 b.3 a.3 in
        let rest = chain_once gs a.0 next other a.2 b.2 a.4 (subst (λ n. Chained n other gs b.2) same.0 b.4) in
        a.5 ∙ ap (λ r. a.1 ∷ r) rest ∙ ap (λ t. t ∷ b.2) (sym same.1) ∙ sym b.5

    pub chain_apart : (goals : List Claimed) (from : ℕ) (said : List (Option Tail)) (place : ℕ) (kind : Kind)
        → Chained from (length lines) goals said → ChainFault from goals place kind → ⊥
    chain_apart [] from said place kind c f = (let low = f.0 in let end = c.0 in absurd (omega (arith, low, end)))
    chain_apart (g ∷ gs) from said place kind c (inl f) =
        (goal_tail_once lines one g.claim).apart from c.0 place c.1 kind c.3 f
    chain_apart (g ∷ gs) from said place kind c (inr f) =
        let same = (goal_tail_once lines one g.claim).once from f.0 c.0 f.1 c.1 f.2 c.3 in
        chain_apart gs c.0 c.2 place kind c.4 (subst (λ n. ChainFault n gs place kind) same.0 f.3)

    pub chain_first : (goals : List Claimed) (from place other : ℕ) (kind another : Kind)
        → ChainFault from goals place kind → ChainFault from goals other another → (place ≡ other) × (kind ≡ another)
    chain_first [] from place other kind another f g = one_bad_line lines from place other kind another f.1 g.1
    chain_first (c ∷ gs) from place other kind another (inl f) (inl g) =
        (goal_tail_once lines one c.claim).first from place other kind another f g
    chain_first (c ∷ gs) from place other kind another (inl f) (inr g) =
        absurd ((goal_tail_once lines one c.claim).apart from g.0 place g.1 kind g.2 f)
    chain_first (c ∷ gs) from place other kind another (inr f) (inl g) =
        absurd ((goal_tail_once lines one c.claim).apart from f.0 other f.1 another f.2 g)
    chain_first (c ∷ gs) from place other kind another (inr f) (inr g) =
        let same = (goal_tail_once lines one c.claim).once from g.0 f.0 g.1 f.1 g.2 f.2 in
        chain_first gs f.0 place other kind another f.3 (subst (λ n. ChainFault n gs other another) same.0 g.3)

-- ---- whole texts

-- what the crates below say of lines and of answers
pub record Laws : Type 0 where
  pub one_text : (text : List ℕ) (lines others : List Line) → HasLines text lines → HasLines text others
      → lines ≡ others
  pub text_apart : (text : List ℕ) (lines : List Line) (place : ℕ) (kind : Kind) → HasLines text lines
      → IsFirstLineFault text place kind → ⊥
  pub text_first : (text : List ℕ) (place other : ℕ) (kind another : Kind) → IsFirstLineFault text place kind
      → IsFirstLineFault text other another → (place ≡ other) × (kind ≡ another)
  pub one_line : WordsAreOneLine
  pub one_answer : (text : List ℕ) (answer other : AnswerText) → ReadsAnswer text answer → ReadsAnswer text other
      → answer ≡ other
  pub answer_apart : (text : List ℕ) (answer : AnswerText) (place : ℕ) (kind : Kind) → ReadsAnswer text answer
      → IsAnswerFault text place kind → ⊥
  pub answer_first : (text : List ℕ) (place other : ℕ) (kind another : Kind) → IsAnswerFault text place kind
      → IsAnswerFault text other another → (place ≡ other) × (kind ≡ another)

no_sooner : (lines : List Line) (at other : ℕ) → IsTailAt lines at → IsTailAt lines other → at < other → ⊥
no_sooner lines at other a b lt = b.first at lt a.is

one_tail : (lines : List Line) (at other : ℕ) → IsTailAt lines at → IsTailAt lines other → at ≡ other
one_tail lines at other a b =
    let before : ¬ (at < other) = no_sooner lines at other a b in
    let behind : ¬ (other < at) = no_sooner lines other at b a in
    omega (arith, before, behind)

no_tail_there : (lines : List Line) (at : ℕ) → HasNoTail lines → IsTailAt lines at → ⊥
no_tail_there lines at none a = none at a.within a.is

module _ (laws : Laws) (text : List ℕ) where
  -- the fault of a text of which this line is the first `tail`
  abbrev Around : List Line → ℕ → ℕ → Kind → Type 0
  Around lines at place kind =
      IsAnswerFault (bytes_in_front text lines at) place kind
      ⊎ ((answer : AnswerText) × ReadsAnswer (bytes_in_front text lines at) answer
      × ChainFault lines (at + 1) answer.goals place kind)

  -- the fault of a text without `tail`
  abbrev Whole : List Line → ℕ → Kind → Type 0
  Whole lines place kind =
      IsAnswerFault text place kind
      ⊎ ((answer : AnswerText) × ReadsAnswer text answer × IsBadOrMissingLine lines (length lines) place kind)

  abbrev InLines : List Line → ℕ → Kind → Type 0
  InLines lines place kind =
      ((at : ℕ) × IsTailAt lines at × Around lines at place kind) ⊎ (HasNoTail lines × Whole lines place kind)

  abbrev Fault : ℕ → Kind → Type 0
  Fault place kind =
      IsFirstLineFault text place kind ⊎ ((lines : List Line) × HasLines text lines × InLines lines place kind)

  told : (place : ℕ) (kind : Kind) → IsTailedFault text place kind → Fault place kind
  told place kind (of_lines f) = inl f
  told place kind (of_answer {lines = ls} {at = at} has tail f) = inr (ls, has, inl (at, tail, inl f))
  told place kind (of_tail {lines = ls} {at = at} {answer = a} has tail reads f) =
      inr (ls, has, inl (at, tail, inr (a, reads, chain_fault ls a.goals (at + 1) place kind f)))
  told place kind (of_whole {lines = ls} has none f) = inr (ls, has, inr (none, inl f))
  told place kind (missing {lines = ls} {answer = a} has none reads f) = inr (ls, has, inr (none, inr (a, reads, f)))

  around_first : (lines : List Line) (at place other : ℕ) (kind another : Kind) → Around lines at place kind
      → Around lines at other another → (place ≡ other) × (kind ≡ another)
  around_first lines at place other kind another (inl f) (inl g) =
      laws.answer_first (bytes_in_front text lines at) place other kind another f g
  around_first lines at place other kind another (inl f) (inr g) =
      absurd (laws.answer_apart (bytes_in_front text lines at) g.0 place kind g.1 f)
  around_first lines at place other kind another (inr f) (inl g) =
      absurd (laws.answer_apart (bytes_in_front text lines at) f.0 other another f.1 g)
  around_first lines at place other kind another (inr f) (inr g) =
      let same = laws.one_answer (bytes_in_front text lines at) g.0 f.0 g.1 f.1 in
      chain_first lines laws.one_line f.0.goals (at + 1) place other kind another f.2
      (subst (λ (a : AnswerText). ChainFault lines (at + 1) a.goals other another) same g.2)

  whole_first : (lines : List Line) (place other : ℕ) (kind another : Kind) → Whole lines place kind
      → Whole lines other another → (place ≡ other) × (kind ≡ another)
  whole_first lines place other kind another (inl f) (inl g) = laws.answer_first text place other kind another f g
  whole_first lines place other kind another (inl f) (inr g) = absurd (laws.answer_apart text g.0 place kind g.1 f)
  whole_first lines place other kind another (inr f) (inl g) = absurd (laws.answer_apart text f.0 other another f.1 g)
  whole_first lines place other kind another (inr f) (inr g) =
      one_bad_line lines (length lines) place other kind another f.2 g.2

  lines_first : (lines : List Line) (place other : ℕ) (kind another : Kind) → InLines lines place kind
      → InLines lines other another → (place ≡ other) × (kind ≡ another)
  lines_first lines place other kind another (inl f) (inl g) =
      around_first lines f.0 place other kind another f.2
      (subst (λ n. Around lines n other another) (one_tail lines g.0 f.0 g.1 f.1) g.2)
  lines_first lines place other kind another (inl f) (inr g) = absurd (no_tail_there lines f.0 g.0 f.1)
  lines_first lines place other kind another (inr f) (inl g) = absurd (no_tail_there lines g.0 f.0 g.1)
  lines_first lines place other kind another (inr f) (inr g) = whole_first lines place other kind another f.1 g.1

  first_of_two : (place other : ℕ) (kind another : Kind) → Fault place kind → Fault other another
      → (place ≡ other) × (kind ≡ another)
  first_of_two place other kind another (inl f) (inl g) = laws.text_first text place other kind another f g
  first_of_two place other kind another (inl f) (inr g) = absurd (laws.text_apart text g.0 place kind g.1 f)
  first_of_two place other kind another (inr f) (inl g) = absurd (laws.text_apart text f.0 other another f.1 g)
  first_of_two place other kind another (inr f) (inr g) =
      let same = laws.one_text text g.0 f.0 g.1 f.1 in
      lines_first f.0 place other kind another f.2 (subst (λ ls. InLines ls other another) same g.2)

  pub one_fault : (place other : ℕ) (kind another : Kind) → IsTailedFault text place kind
      → IsTailedFault text other another → (place ≡ other) × (kind ≡ another)
  one_fault place other kind another f g =
      first_of_two place other kind another (told place kind f) (told other another g)

  -- ---- a text that is read has no fault

  module _ (answer : AnswerText) (said : List (Option Tail)) (r : ReadsTailed text answer said) where
    not_around : (place : ℕ) (kind : Kind) → Around r.lines r.at place kind → ⊥
    not_around place kind (inl f) = laws.answer_apart (bytes_in_front text r.lines r.at) answer place kind r.front f
    not_around place kind (inr f) =
        let same = laws.one_answer (bytes_in_front text r.lines r.at) f.0 answer f.1 r.front in
        chain_apart r.lines laws.one_line answer.goals (r.at + 1) said place kind (chained r.lines r.says)
        (subst (λ (a : AnswerText). ChainFault r.lines (r.at + 1) a.goals place kind) same f.2)

    not_in_lines : (place : ℕ) (kind : Kind) → InLines r.lines place kind → ⊥
    not_in_lines place kind (inl f) =
        not_around place kind
        (subst (λ n. Around r.lines n place kind) (one_tail r.lines f.0 r.at f.1 r.begins) f.2)
    not_in_lines place kind (inr f) = no_tail_there r.lines r.at f.0 r.begins

    not_at_all : (place : ℕ) (kind : Kind) → Fault place kind → ⊥
    not_at_all place kind (inl f) = laws.text_apart text r.lines place kind r.split f
    not_at_all place kind (inr f) =
        let same = laws.one_text text f.0 r.lines f.1 r.split in
        not_in_lines place kind (subst (λ ls. InLines ls place kind) same f.2)

    pub no_fault : (place : ℕ) (kind : Kind) → IsTailedFault text place kind → ⊥
    no_fault place kind f = not_at_all place kind (told place kind f)

    -- and it says one thing
    pub one_reading : (other : AnswerText) (others : List (Option Tail)) → ReadsTailed text other others
        → (answer ≡ other) × (said ≡ others)
    one_reading other others q =
        let lines_are = laws.one_text text q.lines r.lines q.split r.split in
        let begins = subst (λ ls. IsTailAt ls q.at) lines_are q.begins in
        let at_is = one_tail r.lines q.at r.at begins r.begins in
        let front = subst (λ n. ReadsAnswer (bytes_in_front text r.lines n) other) at_is
        (subst (λ ls. ReadsAnswer (bytes_in_front text ls q.at) other) lines_are q.front) in
        let same = laws.one_answer (bytes_in_front text r.lines r.at) answer other r.front front in
        let says = subst (λ n. AreTails r.lines (n + 1) (length r.lines) other.goals others) at_is
        (subst (λ ls. AreTails ls (q.at + 1) (length ls) other.goals others) lines_are q.says) in
        let also = subst (λ (a : AnswerText). AreTails r.lines (r.at + 1) (length r.lines) a.goals others) (sym same)
        says in (
          same,
          chain_once r.lines laws.one_line answer.goals (r.at + 1) (length r.lines) (length r.lines) said others
              (chained r.lines r.says) (chained r.lines also),
        )
