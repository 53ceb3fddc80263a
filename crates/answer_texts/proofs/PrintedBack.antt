-- An answer that lines say can be printed.
use Rattle.std.proofs.Common.{◌≡◌, ◌≢◌, ℕ, zero, suc, ◌≤◌, Bool, List, [], ◌∷◌, length, map, refl, sym, subst, arith, add-one, Option, Some}
use Rattle.std.specs.Prelude.{All, IsTrue, codes}
use Rattle.std.proofs.lemmas.Bool.{false≢true}
use Rattle.std.proofs.lemmas.List.{length-map, length_push}
use Rattle.std.proofs.lemmas.List.Elements.{All-nil, All-cons, All-append}
use Rattle.cnf_core.specs.declared.line.Lines.{Lines}
use Rattle.launch_graph.specs.GraphLines.{said_row}
use Rattle.graph_meaning.specs.declared.graphs.LaunchGraph.{LaunchGraph}
use Rattle.machine_table.specs.Tables.{IsTable, ev6, slot_of}
use Rattle.machine_table.specs.declared.tables.Slot.{Slot}
use Rattle.machine_table.specs.declared.tables.Table.{Table}
use Rattle.text_core.specs.Lines.{Line}
use Rattle.text_core.specs.Names.{IsName}
use Rattle.answer_texts.proofs.UnpinnedGraphs.{unpinned_at}
use Rattle.answer_texts.specs.AnswerLines.{refuted_below}
use Rattle.answer_texts.specs.AnswerParts.{CountedPart, BelowPart, GraphPart, IsClaimLine, ClaimRest, ClaimPart, IsBodyLine, BodyRest, claimed_of, GoalPart, AreGoals, no_goals, more, OwnPart, TableRest, AnswerPart}
use Rattle.answer_texts.specs.LineParts.{IsOneLine}
use Rattle.answer_texts.specs.Printable.{AreReadable, IsGraphClaim, AreLinesBelow, IsPrintableGoal, no_world, worked, IsPrintable}
use Rattle.answer_texts.specs.declared.answers.AnswerText.{AnswerText}
use Rattle.answer_texts.specs.declared.answers.Claim.{Claim}
use Rattle.answer_texts.specs.declared.answers.Claimed.{Claimed}
use Rattle.answer_texts.specs.declared.parts.Body.{Body}
use Rattle.answer_texts.specs.declared.parts.BodyLine.{BodyLine}
use Rattle.answer_texts.specs.declared.parts.BodyLine.TheVariants as bodies
use Rattle.answer_texts.specs.declared.parts.ClaimLine.{ClaimLine}
use Rattle.answer_texts.specs.declared.parts.ClaimLine.TheVariants as lines_of
use Rattle.answer_texts.specs.declared.parts.TableLine.{TableLine}
use Rattle.answer_texts.specs.declared.parts.TableLine.TheVariants as tables
use Rattle.answer_texts.proofs.PartsTables.{part_is_table}

-- ---- the slots of the built-in table have names

abbrev HasName : Slot → Type 0
HasName s = IsName s.name

ev6_named : All HasName ev6.slots
unfolding ev6
ev6_named =
    let fourth : List Slot = slot_of (codes "L1") 1 ∷ [] in
    let third : List Slot = slot_of (codes "L0") 0 ∷ fourth in
    let second : List Slot = slot_of (codes "U1") 1 ∷ third in
    All-cons HasName (slot_of (codes "U0") 0) second (record { begins = refl; each = refl })
    (All-cons HasName (slot_of (codes "U1") 1) third (record { begins = refl; each = refl })
    (All-cons HasName (slot_of (codes "L0") 0) fourth (record { begins = refl; each = refl })
    (All-cons HasName (slot_of (codes "L1") 1) [] (record { begins = refl; each = refl }) (All-nil HasName))))

module _ (lines : List Line) where
  -- ---- refutations

  counted_back : (first : List ℕ) (cycles from next : ℕ) (read : Lines) → CountedPart lines first cycles from next read
      → AreReadable read
  counted_back first cycles from next read h =
      let size : length read.lines ≡ h.said = h.second.are.size in
      record {
        few = (let small = h.first.is.small in omega (arith, size, small));
        each = λ k d lt. (h.second.are.each k d (omega (arith, size, lt))).1.readable;
      }

  below_back : (k from next : ℕ) (refute : Option Lines) → BelowPart lines k from next refute → AreLinesBelow k refute
  below_back zero from next refute h = h.is
  below_back (suc j) from next refute h =
      subst (AreLinesBelow (suc j)) (sym h.second.is) (counted_back (codes "refute") j from h.middle h.said h.first)

  -- ---- claims

  module _ (version : ℕ) (table : Table) where
    -- a claim fits the graph, and the lines beside it are there where it needs them
    abbrev pub IsFine : LaunchGraph → Claim × Option Lines → Type 0
    IsFine g c = IsGraphClaim table g c.0 × AreLinesBelow (refuted_below c.0) c.1

    rest_back : (g : LaunchGraph) (first : ClaimLine) (from middle next : ℕ) (c : Claim × Option Lines)
        → IsOneLine IsClaimLine lines from middle first → ClaimRest lines table g first middle next c → IsFine g c
    rest_back g (lines_of.Scheduled k) from middle next c a h =
        subst (IsFine g) (sym h.second.second.second.second.is) (
          (a.is.low, h.first.so_far.fit, h.second.first.so_far.fit, h.second.second.first.so_far.fit),
          below_back k h.second.second.middle h.second.second.second.middle h.second.second.second.said
              h.second.second.second.first,
        )
    rest_back g (lines_of.Missing k) from middle next c a h =
        subst (IsFine g) (sym h.second.is) (
          a.is.low,
          subst (λ n. AreLinesBelow n (Some h.said)) (sym (add-one k))
              (counted_back (codes "refute") k middle h.middle h.said h.first),
        )
    rest_back g (lines_of.Conflicts k) from middle next c a h =
        subst (IsFine g) (sym h.second.second.is) (
          (a.is.low, counted_back (codes "lemmas") k h.middle h.second.middle h.second.said h.second.first),
          below_back k middle h.middle h.said h.first,
        )
    rest_back g (lines_of.Size k vars clauses) from middle next c a h =
        subst (IsFine g) (sym h.second.is)
        ((a.is.0.low, a.is.1, a.is.2), below_back k middle h.middle h.said h.first)

    claim_back : (g : LaunchGraph) (from next : ℕ) (c : Claim × Option Lines) → ClaimPart lines table g from next c → IsFine g c
    claim_back g from next c h = rest_back g h.said from h.middle next c h.first h.second

    -- ---- goals

    few_rows : (from next : ℕ) (g : LaunchGraph) → GraphPart lines version from next g → length g.rows ≤ 1000000
    few_rows from next g h =
        let few = h.are.few in
        let same : length (map said_row g.rows) ≡ length g.rows = length-map g.rows said_row in
        omega (arith, few, same)

    body_back : (name : List ℕ) → IsName name → (first : BodyLine) (from middle next : ℕ) (body : Body)
        → IsOneLine IsBodyLine lines from middle first → BodyRest lines version table first middle next body
        → IsPrintableGoal version table (claimed_of name body)
    body_back name named (bodies.NoWorld class m n) from middle next body a h =
        subst (λ b. IsPrintableGoal version table (claimed_of name b)) (sym h.is) (no_world named a.is.0 a.is.1 a.is.2)
    body_back name named (bodies.Rounds rounds stop) from middle next body a h =
        let fine = claim_back h.said h.middle h.second.middle h.second.said h.second.first in
        subst (λ b. IsPrintableGoal version table (claimed_of name b)) (sym h.second.second.is)
        (worked named h.first.well_formed (unpinned_at lines version middle h.middle h.said h.first)
        (few_rows middle h.middle h.said h.first) a.is.0 fine.0 fine.1)

    goal_back : (from next : ℕ) (c : Claimed) → GoalPart lines version table from next c → IsPrintableGoal version table c
    goal_back from next c h =
        subst (IsPrintableGoal version table) (sym h.second.second.second.is)
        (body_back h.said h.first.is.named h.second.first.said h.middle h.second.first.middle h.second.middle h.second.said
        h.second.first.first h.second.first.second)

    goals_back : (from : ℕ) {next : ℕ} {goals : List Claimed} → AreGoals lines version table from next goals
        → (length goals ≤ 64) × All (IsPrintableGoal version table) goals
    goals_back from no_goals = (omega arith, All-nil (IsPrintableGoal version table))
    goals_back from (more {middle = m} {next = n} {goals = gs} {goal = g} are few is) =
        let count = length_push gs g in (
          omega (arith, count, few),
          All-append (IsPrintableGoal version table) gs (g ∷ []) (goals_back from are).1
              (All-cons (IsPrintableGoal version table) g [] (goal_back m n g is) (All-nil (IsPrintableGoal version table))),
        )

    some_goals : (goals : List Claimed) → goals ≢ [] → 1 ≤ length goals
    some_goals [] some = absurd (some refl)
    some_goals (g ∷ goals) some = omega arith

  -- ---- the table

  -- the slots have names, and the table is the built-in one where it says so
  abbrev pub IsNamedTable : Table × Bool → Type 0
  IsNamedTable t = All (λ (s : Slot). IsName s.name) t.0.slots × (IsTrue t.1 → t.0 ≡ ev6)

  own_named : (from next : ℕ) (table : Table) → OwnPart lines from next table → All (λ (s : Slot). IsName s.name) table.slots
  own_named from next table h =
      subst (λ (t : Table). All (λ (s : Slot). IsName s.name) t.slots) (sym h.second.second.second.is) h.first.so_far.fit.names

  table_rest_back : (first : TableLine) (from next : ℕ) (t : Table × Bool) → TableRest lines first from next t → IsNamedTable t
  table_rest_back tables.BuiltIn from next t h = subst IsNamedTable (sym h.is) (ev6_named, λ is. refl)
  table_rest_back tables.Own from next t h =
      subst IsNamedTable (sym h.second.is) (own_named from h.middle h.said h.first, λ is. absurd (false≢true is))

  -- ---- answers

  pub answer_back : IsTable ev6 → (next : ℕ) (a : AnswerText) → AnswerPart lines 0 next a → IsPrintable a
  answer_back built next a h =
      let table = h.second.second.said in
      let part = h.second.second.first in
      let named = table_rest_back part.said part.middle h.second.second.middle table part.second in
      let goals = h.second.second.second.second.first in
      let said = h.second.second.second.second.said in
      let fine = goals_back h.said table.0 h.second.second.second.middle goals.are in
      subst IsPrintable (sym h.second.second.second.second.second.is)
      (record {
        encoding = h.second.first.is.known;
        table = part_is_table lines built h.second.middle h.second.second.middle table part;
        names = named.0;
        built_in = named.1;
        few = (some_goals h.said table.0 said goals.some, fine.0);
        goals = fine.1;
      })
