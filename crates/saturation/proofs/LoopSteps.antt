-- Steps of the loop over rounds.
use Rattle.std.proofs.Common.{◌≡◌, ◌≢◌, ℕ, ◌+◌, ◌-◌, ◌*◌, ◌<◌, ◌≤◌, ◌^◌, min, max, Bool, true, false, eqb, List, [], length, get_or, All, sym, ◌∙◌, subst, inl, inr, arith}
use Rattle.std.proofs.lemmas.Bool.{cases_lt}
use Rattle.std.proofs.lemmas.Bool.Decides.{eqb_tells}
use Rattle.word_ops.specs.Worlds.{World, IsWorld}
use Rattle.word_ops.specs.declared.sorts.Op.{Op}
use Rattle.word_terms.specs.Tree.{Tree}
use Rattle.word_terms.specs.Keys.{op_signature}
use Rattle.axiom_base.specs.Rewrites.{Rewrite, IsRule, IsUsable, IsTrueIn}
use Rattle.axiom_base.specs.Schemes.{AddedRules, IsRuleOf, schemes}
use Rattle.egraph.specs.Graph.{Graph, IsGraph}
use Rattle.egraph.specs.declared.faults.MergeFault.{MergeFault}
use Rattle.egraph.specs.declared.faults.MergeFault.TheVariants.{NoWorld, Memory}
use Rattle.saturation.specs.Trace.{Asked, AreAllApplied, IsRefused, CanApplyAll, operators_asked}
use Rattle.saturation.specs.Instances.{RefusalOfAll, saturate_fault}
use Rattle.saturation.specs.Derives.{Pair}
use Rattle.saturation.specs.Grown.{IsGrown, GoesOnGrowing, NotBefore, IsQuiet}
use Rattle.saturation.specs.GraphStands.{GraphStands, RulesHold}
use Rattle.saturation.specs.Asking.{AreAsked, StopFits}
use Rattle.saturation.specs.Steps.{CallsForRound, StepFits}
use Rattle.saturation.specs.declared.stepping.Step.TheVariants.{End}
use Rattle.saturation.specs.Rounds.{IsAfter, IsImpossible, SaturateFaultIs, IsHopeless, KeepsClasses, KeepsStanding, StopIs}
use Rattle.graph_meaning.specs.declared.stops.Stop.{Stop}
use Rattle.graph_meaning.specs.declared.stops.Stop.TheVariants.{Quiet, Rounds, Full}
use Rattle.pattern_match.specs.Classes.{IsClass}
use Rattle.saturation.proofs.Asks.{Asks}
use Rattle.saturation.proofs.Classes.{class_has}
use Rattle.saturation.proofs.Follows.{Follows, follows_itself, follows_through, closed_follows}
use Rattle.saturation.proofs.Graphs.{has_made, has_present}
use Rattle.saturation.proofs.Made.{all_made_follow}
use Rattle.saturation.proofs.Round.{round_is_grown, round_clashes}
use Rattle.saturation.proofs.FewRows.{all_made_rows}
use Rattle.saturation.proofs.RoundSteps.{all_made_few}
use Rattle.saturation.proofs.RoundStands.{all_may, all_true, round_stands}
use Rattle.saturation.proofs.Standing.{Law}
use Rattle.saturation.proofs.NoWorld.{refused_never}

-- what the loop keeps
pub record Running (added : AddedRules) (start : Graph Op) (rounds nodes : ℕ) (g : Graph Op) (j : ℕ) : Type 0 where
  pub after : IsAfter added start rounds nodes g j
  pub stands : KeepsStanding added start g
  pub follows : IsGraph op_signature start → Follows start g
  pub few : length g.current ≤ 2 ^ 30 + j * 4096
  pub few_rows : length g.rows ≤ max (length start.rows) nodes
  pub asked : j ≤ rounds

pub running_none : (added : AddedRules) (start : Graph Op) (rounds nodes : ℕ) → length start.current < 2 ^ 30 → Running added start rounds nodes start 0
running_none added start rounds nodes l = record {
  after = record { grown = λ present equal h. (h, λ i b. absurd (omega (arith, b))) };
  stands = λ names equal terms h. h;
  follows = λ is. follows_itself op_signature start is;
  few = omega (arith, l);
  few_rows = omega arith;
  asked = omega arith;
}

-- what is known of a graph and of what is asked of it
pub record Ready (added : AddedRules) (g : Graph Op) (asked : List Asked) (need : ℕ) : Type 0 where
  pub graph : IsGraph op_signature g
  pub usable : (r : Rewrite) → IsRuleOf added r → IsUsable r
  pub are : AreAsked g (schemes added) asked
  pub asks : Asks added g asked
  pub need_is : need ≡ min (operators_asked asked) (2 ^ 64 - 1)

abbrev pub AreTrue : Type 0
AreTrue = (world : World) (names : ℕ → List ℕ) (added : AddedRules) (r : Rewrite) → All (IsTrueIn world names) added.axioms → IsRuleOf added r → IsTrueIn world names r

module _ (added : AddedRules) (g : Graph Op) (asked : List Asked) (are : AreAsked g (schemes added) asked) where
  pub unmet : length asked ≢ 0 → ¬ IsQuiet added g
  unmet some quiet =
      let a : Asked = record { right = Tree.variable 0; places = []; class = 0 } in
      let h = are.each 0 a (omega (arith, some)) in
      let o = h.2.1 in
      quiet h.0 h.1 h.2.0 (record { rule = o.rule; of = o.of; class = (get_or asked 0 a).class; unmet = o.unmet })

  pub quiet : length asked ≡ 0 → IsQuiet added g
  quiet none s there places u = let k = are.all s places there u in let b = k.1 in omega (arith, none, b.1)

  -- why what is asked ends the rounds
  pub end_fits : (need rows nodes : ℕ) (last : Bool) (stop : Stop) → need ≡ min (operators_asked asked) (2 ^ 64 - 1) → rows ≡ length g.rows → last ≡ false → StopFits (length asked) need rows nodes stop → StepFits added g last nodes (End stop)
  end_fits need rows nodes last Quiet n r more h = quiet h
  end_fits need rows nodes last Rounds n r more h = absurd h
  end_fits need rows nodes last Full n r more h = (unmet h.0, more, record { need = operators_asked asked; is = are.needs; passed = let p = h.1 in omega (arith, n, r, p) })

-- rounds go on with what is asked
pub goes_on_with : (added : AddedRules) (g : Graph Op) (last : Bool) (asked : List Asked) (need rows nodes count : ℕ) → AreAsked g (schemes added) asked → count ≡ length asked → need ≡ min (operators_asked asked) (2 ^ 64 - 1) → rows ≡ length g.rows → nodes ≤ 4096 → All IsRule added.axioms → last ≡ false → (count ≢ 0) × (rows + need ≤ nodes) → CallsForRound added g last nodes asked
goes_on_with added g last asked need rows nodes count are c n r few rules more h = record {
  are = are;
  some = λ e. h.0 (c ∙ e);
  more = more;
  within = let w = h.1 in omega (arith, n, r, few, w);
  rules = rules;
}

module _ (added : AddedRules) (start : Graph Op) (rounds nodes : ℕ) (g : Graph Op) (j : ℕ) (running : Running added start rounds nodes g j) (asked : List Asked) (need : ℕ) (ready : Ready added g asked need)
    (few_rounds : rounds ≤ 16) (few_nodes : nodes ≤ 4096) where
  module _ (some : length asked ≢ 0) (more : j ≢ rounds) (within : length g.rows + need ≤ nodes) where
    total_within : length g.rows + operators_asked asked ≤ nodes
    total_within = omega (arith, ready.need_is, within, few_nodes)

    pub round_can : CanApplyAll g asked
    round_can = record {
      graph = ready.graph;
      may = all_may added ready.usable g ready.graph asked ready.asks;
      few = omega (arith, total_within, running.few, running.asked, few_rounds, few_nodes);
    }

    goes_on : (present : List (Tree Op)) (equal : List Pair) → IsGrown added present equal start 0 → NotBefore added present equal rounds nodes (j + 1)
    goes_on present equal h = λ i l.
        let a = running.after.grown present equal h in
        elim (cases_lt i j) [
          | inl b ↦ a.1 i b
          | inr b ↦
              (let e : j ≡ i = omega (arith, b, l) in
              subst (GoesOnGrowing added present equal rounds nodes) e (record {
                graph = g;
                is_graph = ready.graph;
                grown = a.0;
                unmet = unmet added g asked ready.are some;
                asked = more;
                within = record { need = operators_asked asked; is = ready.are.needs; within = total_within };
              }))
        ]

    module _ (law : Law) (true_rules : AreTrue) where
      pub running_more : (new : Graph Op) → AreAllApplied asked g new → Running added start rounds nodes new (j + 1)
      running_more new made = record {
        after = record {
          grown = λ present equal h.
              (round_is_grown added present equal j ready.usable g ready.graph (running.after.grown present equal h).0 asked ready.asks new made, goes_on present equal h);
        };
        stands = λ names equal terms h.
            round_stands added ready.usable g ready.graph asked ready.asks law names equal terms (λ world is holds r rule. true_rules world names added r holds.axioms_hold rule) new made (running.stands names equal terms h);
        follows = λ is. follows_through op_signature start g new is (running.follows is) (all_made_follow made ready.graph);
        few = let f = all_made_few made in omega (arith, f, total_within, running.few, few_nodes);
        few_rows = let f = all_made_rows made in omega (arith, f, total_within);
        asked = omega (arith, running.asked, more);
      }

      hopeless : (x y : ℕ) → IsRefused asked g x y → (names : ℕ → List ℕ) (equal : List Pair) (terms : List (Tree Op)) → GraphStands names added equal terms start → (world : World) → IsWorld world → RulesHold world names added equal → ⊥
      hopeless x y refused names equal terms stands world is_world holds =
          let k = (running.stands names equal terms stands).values world is_world holds in
          let asks = all_true added ready.usable g ready.graph asked ready.asks law world is_world names (λ r rule. true_rules world names added r holds.axioms_hold rule) k.0 k.1 in
          refused_never law world is_world names k.0 refused ready.graph (all_may added ready.usable g ready.graph asked ready.asks) k.1 asks

      pub fault_hopeless : (fault : MergeFault) → RefusalOfAll asked g fault → IsHopeless added start (saturate_fault fault)
      fault_hopeless (NoWorld class x y) h = hopeless x y h
      fault_hopeless Memory h = tt

    impossible : (x y : ℕ) → IsRefused asked g x y → IsImpossible added start rounds nodes x y
    impossible x y refused = record {
      round = j + 1;
      asked = omega (arith, running.asked, more);
      clash = λ present equal h.
          let c = round_clashes added present equal j ready.usable g ready.graph (running.after.grown present equal h).0 asked ready.asks x y refused in
          (record { derived = c.0; differ = c.1 }, goes_on present equal h);
    }

    pub fault_is : (fault : MergeFault) → RefusalOfAll asked g fault → SaturateFaultIs added start rounds nodes (saturate_fault fault)
    fault_is (NoWorld class x y) h = impossible x y h
    fault_is Memory h = tt

-- terms keep their classes
pub classes_are_kept : (start g : Graph Op) → (IsGraph op_signature start → Follows start g) → KeepsClasses start g
classes_are_kept start g follows is =
    let f = follows is in (
      f.longer,
      λ t c h.
          let has = class_has start h in
          closed_follows start g f (has_made op_signature start is c has) (subst (IsClass start [] t) (sym (has_present op_signature start is c has)) h),
    )

pub not_last : (a b : ℕ) → eqb a b ≡ false → a ≢ b
not_last a b e = elim (eqb_tells a b) [ inl h ↦ absurd (let k : true ≡ false = sym h.0 ∙ e in cc) | inr h ↦ h.1 ]

pub is_last : (a b : ℕ) → eqb a b ≡ true → a ≡ b
is_last a b e = elim (eqb_tells a b) [ inl h ↦ h.1 | inr h ↦ absurd (let k : false ≡ true = sym h.0 ∙ e in cc) ]

-- the step with which the rounds end
pub end_is : (added : AddedRules) (g : Graph Op) (rounds nodes j : ℕ) (last : Bool) (stop : Stop) → (last ≡ true → j ≡ rounds) → (last ≡ false → j ≢ rounds) → StepFits added g last nodes (End stop) → StopIs added g rounds nodes j stop
end_is added g rounds nodes j last Quiet is isnt h = h
end_is added g rounds nodes j last Rounds is isnt h = (h.0, is h.1)
end_is added g rounds nodes j last Full is isnt h = (h.0, isnt h.1, h.2)
