use Rattle.std.proofs.Common.{◌≡◌, ◌≤◌, ◌++◌, ℕ, All, List, [], get_or, Ok, Some, map, length, sym, subst}
use Rattle.std.specs.Prelude.{MatchOption}
use Rattle.std.specs.List.{AllZip}
use Rattle.word_ops.specs.declared.sorts.Op.{Op}
use Rattle.word_terms.specs.Tree.{Tree}
use Rattle.pattern_match.specs.Classes.{IsClass}
use Rattle.alpha_encode.specs.Decoded.{decoded}
use Rattle.axiom_library.specs.declared.libraries.Library.{Library}
use Rattle.goal_meaning.specs.Expanded.{expanded, expanded_terms, let_terms, let_values}
use Rattle.goal_meaning.specs.Views.{InputTree, goal_view, let_view}
use Rattle.goal_meaning.specs.declared.goals.Let.{Let}
use Rattle.goal_meaning.specs.WellFormed.{IsGoal, IsInput}
use Rattle.saturation.specs.GoalTerms.{assumed_pairs, kept_terms, rules_of}
use Rattle.saturation.specs.OverLets.{AreLetsBelow}
use Rattle.saturation.specs.Rounds.{IsHopeless, IsSaturated, KeepsStanding, RoundsNameLowClass, SaturateFaultIs}
use Rattle.saturation.specs.declared.faults.SaturateFault.TheVariants as faults
use Rattle.code_check.specs.Codes.{ArePlaces}
use Rattle.code_check.specs.Compared.{ArePresentAddresses, ArePresentClasses, terms_at_branch}
use Rattle.code_check.specs.Same.{IsFirstDifferent, Same, terms_at_end}
use Rattle.code_check.specs.Terms.{terms_at_entry, written_terms}
use Rattle.code_check.specs.Verified.{IsRightFor}
use Rattle.code_check.specs.declared.codes.Verified.TheVariants.{NoWorld}
use Rattle.code_check.proofs.CodeTerms.{present_addresses, present_both}
use Rattle.code_check.proofs.Comparisons.{have_class}
use Rattle.code_check.proofs.Answering.{answered, let_there, few_code, few_of_words, few_rows, few_words, for_the_code, renamed, room_for}
use Rattle.code_check.proofs.verifying.verify_from.Goals as goal
use Rattle.code_check.proofs.verifying.verify_from.Goals.{After-as_slice-places, After-as_slice-lets}

-- ---- the code's terms

pub insert_code-requires : goal.insert_code-requires
insert_code-requires c =
    let fits = c.requires.fits in
    record {
      graph = c.requires.graph;
      goal = (goal_view c.args.goal.now, c.requires.stands);
      code = (fits.instrs, subst (λ ws. map decoded ws ≡ map Some fits.instrs) (sym c.as_slice-words.ensures) fits.is_code.decode);
      within = subst (λ n. n ≤ length c.as_slice-words.result.now) (sym c.words_before-before.ensures) c.find_branch-branch.ensures.within;
      few = room_for (length c.args.first.current) (length c.as_slice-words.result.now) c.requires.few
          (subst (λ (ws : List ℕ). length ws ≤ 4096) (sym c.as_slice-words.ensures) fits.few);
    }

pub saturate-requires : goal.saturate-requires
saturate-requires c = record {
  rounds = c.requires.rounds;
  nodes = c.requires.nodes;
  few = few_words (length c.args.first.current) (length c.insert_code.new.graph.current) (length c.as_slice-words.result.now) c.requires.few
      (subst (λ (ws : List ℕ). length ws ≤ 4096) (sym c.as_slice-words.ensures) c.requires.fits.few) c.in_ok-inserted.ensures.few;
}

-- ---- after the rounds

pub returns-in-Err-NoWorld : goal.returns-in-Err-NoWorld
returns-in-Err-NoWorld c =
    let code = c.args.code.now in
    let tree = goal_view c.args.goal.now in
    let fits = c.requires.fits in
    let g = c.insert_code.new.graph in
    let is = c.in_ok-inserted.ensures.inserted fits.instrs (subst (λ ws. map decoded ws ≡ map Some fits.instrs) (sym c.as_slice-words.ensures) fits.is_code.decode) in
    let fault = c.in-Err-NoWorld in
    let answer = NoWorld fault.class fault.a fault.b in
    record {
      right = renamed (λ answer.
          (library : Library) (input : InputTree) → IsInput input → c.args.rules.now ≡ rules_of library input → IsGoal input.ops tree → IsRightFor input tree code c.args.rounds c.args.nodes library answer)
          _ _ _ _ _ _ fault.class-is fault.a-is fault.b-is
          (λ library input is_input rules is_goal.
          let impossible = subst (λ rs. SaturateFaultIs rs g c.args.rounds c.args.nodes (faults.NoWorld fault.class fault.a fault.b)) rules
          (subst (SaturateFaultIs c.args.rules.now g c.args.rounds c.args.nodes) fault.field-0-is fault.ensures.fault) in
          let hopeless = subst (λ rs. IsHopeless rs g (faults.NoWorld fault.class fault.a fault.b)) rules
          (subst (IsHopeless c.args.rules.now g) fault.field-0-is fault.ensures.hopeless) in
          for_the_code input code c.args.rounds c.args.nodes library tree fits.instrs fits.is_code.decode {E = ℕ} (Ok answer) (
            c.compared_graphs_decide.ensures.round input tree fits.instrs c.args.rounds c.args.nodes library fault.a fault.b fault.class c.args.first g is_input
                c.requires.graph c.requires.grown c.requires.stands fits.is_code.well_formed is.inserted impossible hopeless,
            subst RoundsNameLowClass fault.field-0-is fault.ensures.low,
          ));
    }

present_is : (c : After-as_slice-places) →
    ArePresentClasses c.in-Ok.saturated.graph c.in_ok-inserted.inserted.at_branch c.in_ok-inserted.inserted.memory_at_branch (terms_at_branch c.find_branch-branch.result c.requires.fits.instrs)
    × ArePresentClasses c.in-Ok.saturated.graph c.in_ok-inserted.inserted.at_end c.in_ok-inserted.inserted.memory_at_end (terms_at_end c.requires.fits.instrs)
present_is c =
    let fits = c.requires.fits in
    let words = c.as_slice-words.result.now in
    present_both c.more_terms_may_be_inserted.ensures.others c.terms_have_one_class.ensures.has c.rows_name_present_classes.ensures.present
    c.args.first c.insert_code.new.graph c.in-Ok.saturated.graph words fits.instrs c.find_branch-branch.result c.words_before-before.result
    c.in_ok-inserted.inserted
    (c.in_ok-inserted.ensures.inserted fits.instrs (subst (λ ws. map decoded ws ≡ map Some fits.instrs) (sym c.as_slice-words.ensures) fits.is_code.decode))
    c.words_before-before.ensures (subst (λ ws. map decoded ws ≡ map Some fits.instrs) (sym c.as_slice-words.ensures) fits.is_code.decode)
    c.in-Ok.ensures.classes c.in-Ok.ensures.saturated.graph

-- so are the classes of addresses
addresses_are : (c : After-as_slice-places) → ArePresentAddresses c.in-Ok.saturated.graph c.requires.fits.instrs terms_at_entry c.in_ok-inserted.inserted.addresses
addresses_are c =
    let instrs = c.requires.fits.instrs in
    let is = c.in_ok-inserted.ensures.inserted instrs (subst (λ ws. map decoded ws ≡ map Some instrs) (sym c.as_slice-words.ensures) c.requires.fits.is_code.decode) in
    present_addresses c.more_terms_may_be_inserted.ensures.others c.terms_have_one_class.ensures.has c.rows_name_present_classes.ensures.present
    c.insert_code.new.graph c.in-Ok.saturated.graph c.in-Ok.ensures.classes is.graph instrs terms_at_entry c.in_ok-inserted.inserted.addresses is.addresses

pub let_classes-requires : goal.let_classes-requires
let_classes-requires c =
    let tree = goal_view c.args.goal.now in
    let fits = c.requires.fits in
    let names : ℕ → List ℕ = λ n. [] in
    let added = c.args.rules.now in
    let is = c.in_ok-inserted.ensures.inserted fits.instrs (subst (λ ws. map decoded ws ≡ map Some fits.instrs) (sym c.as_slice-words.ensures) fits.is_code.decode) in
    let stands = c.more_terms_may_be_inserted.ensures.stand names added (assumed_pairs tree) (kept_terms tree) (written_terms fits.instrs)
    c.args.first c.insert_code.new.graph c.requires.graph (c.written_terms_are_sorted.ensures.sorted fits.instrs fits.is_code.well_formed) is.inserted
    (c.requires.stands names added) in
    let keeps = c.in-Ok.ensures.stands names (assumed_pairs tree) (kept_terms tree ++ written_terms fits.instrs) stands in
    record {
      graph = c.in-Ok.ensures.saturated.graph;
      below = subst (λ (ls : List Let). AreLetsBelow (let_values (map let_view ls))) (sym c.as_slice-named.ensures) c.requires.below.lets;
      there = subst (λ (ls : List Let). All (λ (t : Tree Op). (n : ℕ) × IsClass c.in-Ok.saturated.graph [] t n) (expanded_terms [] (let_values (map let_view ls))))
          (sym c.as_slice-named.ensures) (λ k d l. keeps.classes (get_or (let_terms tree) k d) (let_there tree (written_terms fits.instrs) k d l));
    }

-- the lets have the classes of their terms
lets_are : (c : After-as_slice-lets) → AllZip (IsClass c.in-Ok.saturated.graph []) (let_terms (goal_view c.args.goal.now)) c.as_slice-lets.result.now
lets_are c =
    subst (AllZip (IsClass c.in-Ok.saturated.graph []) (let_terms (goal_view c.args.goal.now))) (sym c.as_slice-lets.ensures.value)
    (subst (λ (ls : List Let). AllZip (IsClass c.in-Ok.saturated.graph []) (expanded_terms [] (let_values (map let_view ls))) c.in_ok-found.found.items)
    c.as_slice-named.ensures c.in_ok-found.ensures)

pub first_different-requires : goal.first_different-requires
first_different-requires c =
    let present = present_is (goal.at.first_different-requires c).After-as_slice-places in
    let instrs = c.requires.fits.instrs in
    let lets = lets_are (goal.at.first_different-requires c).After-as_slice-lets in
    let code_small = subst (λ (ws : List ℕ). length ws ≤ 4096) (sym c.as_slice-words.ensures) c.requires.fits.few in
    let small = few_words (length c.args.first.current) (length c.insert_code.new.graph.current) (length c.as_slice-words.result.now) c.requires.few code_small c.in_ok-inserted.ensures.few in
    let is = c.in_ok-inserted.ensures.inserted instrs (subst (λ ws. map decoded ws ≡ map Some instrs) (sym c.as_slice-words.ensures) c.requires.fits.is_code.decode) in
    record {
      lets = lets;
      present = have_class c.in-Ok.saturated.graph (let_terms (goal_view c.args.goal.now)) c.as_slice-lets.result.now lets;
      below = c.requires.below;
      inputs = c.requires.inputs;
      few = c.requires.sets;
      places = subst (ArePlaces (goal_view c.args.goal.now).sets) (sym c.as_slice-places.ensures) c.requires.fits.places;
      register = c.find_branch-branch.ensures.low;
      branch = (terms_at_branch c.find_branch-branch.result instrs, present.0);
      end = (terms_at_end instrs, present.1);
      addresses = (
        instrs,
        subst (λ ws. map decoded ws ≡ map Some instrs) (sym c.as_slice-words.ensures) c.requires.fits.is_code.decode,
        addresses_are (goal.at.first_different-requires c).After-as_slice-places,
      );
      few_words = few_of_words (length c.as_slice-words.result.now) code_small;
      few_rows = few_rows (length c.insert_code.new.graph.rows) (length c.insert_code.new.graph.current) (length c.in-Ok.saturated.graph.rows) c.args.nodes small is.graph.few_rows c.in-Ok.ensures.few c.requires.nodes;
    }

pub returns : goal.returns
returns c =
    let code = c.args.code.now in
    let tree = goal_view c.args.goal.now in
    let fits = c.requires.fits in
    let instrs = fits.instrs in
    let g = c.insert_code.new.graph in
    let sat = c.in-Ok.saturated in
    let is = c.in_ok-inserted.ensures.inserted fits.instrs (subst (λ ws. map decoded ws ≡ map Some fits.instrs) (sym c.as_slice-words.ensures) fits.is_code.decode) in
    let present = present_is (goal.at.returns c).After-as_slice-places in
    let addresses = addresses_are (goal.at.returns c).After-as_slice-places in
    let decode = subst (λ ws. map decoded ws ≡ map Some instrs) (sym c.as_slice-words.ensures) fits.is_code.decode in
    let found = subst (λ ps. MatchOption c.in_ok-different.different (Same sat.graph (expanded tree) instrs ps) (IsFirstDifferent sat.graph (expanded tree) instrs ps)) c.as_slice-places.ensures
    (c.in_ok-different.ensures instrs decode (c.find_branch-branch.ensures.of_code instrs decode) fits.is_code.one_branch addresses present.0 present.1) in
    record {
      right = λ library input is_input rules is_goal.
          let saturated = subst (λ rs. IsSaturated rs g c.args.rounds c.args.nodes sat.graph sat.rounds sat.stop) rules c.in-Ok.ensures.saturated in
          let keeps = subst (λ rs. KeepsStanding rs g sat.graph) rules c.in-Ok.ensures.stands in
          let compared = c.compared_graphs_decide.ensures.compared input tree instrs c.args.rounds c.args.nodes library sat.rounds sat.stop c.args.first g sat.graph
          c.requires.graph c.requires.grown is.inserted saturated c.in-Ok.ensures.rounds in
          let stand = c.compared_graphs_decide.ensures.stand input tree instrs library c.args.first g sat.graph c.requires.graph c.requires.stands
          fits.is_code.well_formed is.inserted keeps in
          for_the_code input code c.args.rounds c.args.nodes library tree instrs fits.is_code.decode {E = ℕ} (Ok c.verified.result)
          (answered input code c.args.rounds c.args.nodes library tree instrs fits.is_code.decode sat.graph sat.rounds sat.stop compared
          (λ same.
          c.same_code_does_the_goal.ensures.does_goal input tree code.words instrs code.places (kept_terms tree ++ written_terms instrs) sat.graph library
          is_input is_goal fits.is_code (few_code code.words fits.few) fits.places.low stand same)
          c.in_ok-different.different c.verified.result found c.verified.ensures);
    }
