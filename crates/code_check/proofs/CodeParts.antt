-- The parts of a code: its goal, its words, and its places.
use Rattle.std.proofs.Common.{◌≡◌, ◌≢◌, ℕ, zero, suc, ◌<◌, ◌≤◌, ◌^◌, All, Option, None, Some, List, [], ◌∷◌, ◌-◌, length, map, drop, take, get_or, codes, true, false, bytes_eq, refl, sym, ap, ◌∙◌, subst, arith, slice_get, option_map}
use Rattle.std.specs.Prelude.{AllPairs}
use Rattle.std.specs.Option.{option_map_or}
use Rattle.std.proofs.lemmas.List.{drop-map, length-drop, length-map, take_rest}
use Rattle.std.proofs.lemmas.List.Elements.{All-drop, All-get_or}
use Rattle.std.proofs.lemmas.Option.{get_or_from_slice_get, none-some, same_Some, slice_get-get_or, slice_get-map, slice_get_within}
use Rattle.std.proofs.lemmas.Slice.Eq.{bytes_eq-Decides}
use Rattle.text_core.specs.declared.faults.Kind.{Kind}
use Rattle.text_core.specs.declared.faults.Kind.TheVariants.{BadForm}
use Rattle.forms.specs.Faults.{own, inside}
use Rattle.text_core.specs.declared.sexps.Sexp.{Sexp}
use Rattle.forms.specs.Forms.{Form, list, place_of, parts_of, forms_from, name_in, sexp_form, sexp_forms, Stands}
use Rattle.forms.specs.Reading.{IsSexpOf}
use Rattle.machine_table.specs.Grammar.{Each, IsListOf}
use Rattle.goal_meaning.specs.Views.{GoalTree, TargetTree, goal_view, target_view}
use Rattle.goal_meaning.specs.declared.goals.Goal.{Goal}
use Rattle.goal_meaning.specs.declared.goals.Set.{Set}
use Rattle.goal_reader.specs.Roles.{◌>>=◌}
use Rattle.code_check.specs.CodeGrammar.{WritesCode, WritesPlace}
use Rattle.code_check.specs.CodeReading.{AreGoals, ArePlacesClear, IsClearCode, IsFirstCodeFault, IsFirstPlaceFault, IsGoalNamed, WritesWords}
use Rattle.code_check.specs.CodeRoles.{CodeRole, a_code, goal_name, word_list, IsCodeFaultAs, short_code, no_place, no_goal_name, unknown_goal, code_part_role, goal_named, has_head, lacks_place, place_role, places_in, sets_in}
use Rattle.code_check.specs.declared.codes.Code.{Code}
use Rattle.code_check.proofs.FormLists.{is_name, parts_form}
use Rattle.code_check.proofs.CodePlaces.{all_fresh, are_places, second_told}
use Rattle.code_check.proofs.Growing.{ClearParts, HasNone, all_clear, clear_next, clear_silent, clear_zero, part_first}
use Rattle.code_check.proofs.Leaves.{form_first}
use Rattle.code_check.proofs.Searches.{find_some, listed_of, two_behind}

got_behind : {X : Type 0} (xs : List X) (k : ℕ) → slice_get (drop 3 xs) k ≡ slice_get xs (suc (suc (suc k)))
got_behind [] k = refl
got_behind (x ∷ []) k = refl
got_behind (x ∷ y ∷ []) k = refl
got_behind (x ∷ y ∷ z ∷ zs) k = refl

-- ---- the targets of the goal that is named

module _ (goals : List GoalTree) (form first : Form) (g : slice_get (parts_of form) 1 ≡ Some first) where
  pub sets_told : (bytes : List ℕ) (goal : GoalTree) → name_in first ≡ Some bytes → goal_named goals bytes ≡ Some goal → sets_in goals form ≡ goal.sets
  sets_told bytes goal n e =
      ap (λ o. option_map_or (λ (x : GoalTree). x.sets) (option_map_or (goal_named goals) o None) []) (second_told form first bytes g n)
      ∙ ap (λ o. option_map_or (λ (x : GoalTree). x.sets) o []) e

  no_sets : (o : Option (List ℕ)) → name_in first ≡ o → option_map_or (goal_named goals) o None ≡ None → sets_in goals form ≡ []
  no_sets o n e =
      ap (λ x. option_map_or (λ (y : GoalTree). y.sets) (option_map_or (goal_named goals) x None) []) (ap (λ x. x >>= name_in) g ∙ n)
      ∙ ap (λ x. option_map_or (λ (y : GoalTree). y.sets) x []) e

  -- where the name has a fault, no goal is known
  faulty_goal : (place : ℕ) (kind : Kind) → IsCodeFaultAs (goal_name goals) first place kind → sets_in goals form ≡ []
  faulty_goal place kind (own (no_goal_name n) p) = no_sets None n refl
  faulty_goal place kind (own (unknown_goal {name = bytes} n e) p) = no_sets (Some bytes) n e
  faulty_goal place kind (inside at part other a b h e fault) = absurd (none-some other e)

-- ---- the parts one after the other

module _ (goals : List GoalTree) (form : Form) where
  abbrev one_code : CodeRole
  one_code = a_code goals

  pub code_own : 3 ≤ length (parts_of form) → lacks_place (sets_in goals form) (places_in form) ≡ false → HasNone one_code form
  code_own enough lacks k (short_code l) = absurd (omega (arith, enough, l))
  code_own enough lacks k (no_place h) = (let e : true ≡ false = sym h ∙ lacks in cc)

  pub short_first : (low high : ℕ) → Stands low high form → length (parts_of form) < 3 → IsFirstCodeFault one_code form (place_of form) BadForm
  short_first low high h l = form_first one_code form low high h (short_code l)

  pub lacking_first : (low high : ℕ) → Stands low high form → lacks_place (sets_in goals form) (places_in form) ≡ true → IsFirstCodeFault one_code form (place_of form) BadForm
  lacking_first low high h e = form_first one_code form low high h (no_place e)

  keyword_clear : ClearParts one_code form 1
  keyword_clear = clear_silent one_code form 0 refl (clear_zero one_code form)

  module _ (enough : 3 ≤ length (parts_of form)) (first : Form) (g : slice_get (parts_of form) 1 ≡ Some first) where
    pub goal_first : (low high place : ℕ) (kind : Kind) → Stands low high form → IsFirstCodeFault (goal_name goals) first place kind → IsFirstCodeFault one_code form place kind
    goal_first low high place kind h one =
        let none : lacks_place (sets_in goals form) (places_in form) ≡ false = ap (λ (s : List TargetTree). lacks_place s (places_in form)) (faulty_goal goals form first g place kind one.found) in
        part_first one_code form low high 1 first (goal_name goals) place kind h (code_own enough none) g refl keyword_clear one

    module _ (lacks : lacks_place (sets_in goals form) (places_in form) ≡ false) (clear : IsClearCode (goal_name goals) first) (second : Form) (g2 : slice_get (parts_of form) 2 ≡ Some second) where
      name_clear : ClearParts one_code form 2
      name_clear = clear_next one_code form 1 first (goal_name goals) g refl clear keyword_clear

      pub words_first : (low high place : ℕ) (kind : Kind) → Stands low high form → IsFirstCodeFault word_list second place kind → IsFirstCodeFault one_code form place kind
      words_first low high place kind h one = part_first one_code form low high 2 second word_list place kind h (code_own enough lacks) g2 refl name_clear one

      module _ (words : IsClearCode word_list second) where
        words_clear : ClearParts one_code form 3
        words_clear = clear_next one_code form 2 second word_list g2 refl words name_clear

        clear_places : (n : ℕ) → ArePlacesClear (sets_in goals form) (places_in form) n → ClearParts one_code form (suc (suc (suc n)))
        clear_places n each zero part other place kind l got e fault = words_clear zero part other place kind (omega arith) got e fault
        clear_places n each (suc zero) part other place kind l got e fault = words_clear (suc zero) part other place kind (omega arith) got e fault
        clear_places n each (suc (suc zero)) part other place kind l got e fault = words_clear (suc (suc zero)) part other place kind (omega arith) got e fault
        clear_places n each (suc (suc (suc k))) part other place kind l got e fault =
            let there : slice_get (places_in form) k ≡ Some part = got_behind (parts_of form) k ∙ got in
            let role : place_role (sets_in goals form) (take k (places_in form)) part ≡ other =
            same_Some _ other (ap (option_map (place_role (sets_in goals form) (take k (places_in form)))) (sym there) ∙ e) in
            each k part (omega (arith, l)) there place kind (subst (λ (r : CodeRole). IsCodeFaultAs r part place kind) (sym role) fault)

        pub places_first : (low high place : ℕ) (kind : Kind) → Stands low high form → IsFirstPlaceFault (sets_in goals form) (places_in form) place kind → IsFirstCodeFault one_code form place kind
        places_first low high place kind h one =
            let k = one.at in
            let role : code_part_role one_code form (suc (suc (suc k))) ≡ Some (place_role (sets_in goals form) (take k (places_in form)) one.form) =
            ap (option_map (place_role (sets_in goals form) (take k (places_in form)))) one.there in
            part_first one_code form low high (suc (suc (suc k))) one.form (place_role (sets_in goals form) (take k (places_in form)) one.form) place kind h (code_own enough lacks)
            (sym (got_behind (parts_of form) k) ∙ one.there) role (clear_places k one.clear) one.first

        pub code_clear : ArePlacesClear (sets_in goals form) (places_in form) (length (places_in form)) → IsClearCode one_code form
        code_clear each =
            let count = length-drop 3 (parts_of form) in
            all_clear one_code form (suc (suc (suc (length (places_in form))))) (code_own enough lacks) (omega (arith, count, enough)) (clear_places (length (places_in form)) each)

-- ---- the code that is written

goal_has_name : (goals : List GoalTree) (bytes : List ℕ) (g : GoalTree) → goal_named goals bytes ≡ Some g → g.name ≡ bytes
goal_has_name goals bytes g e = (bytes_eq-Decides g.name bytes).0 (find_some (λ (x : GoalTree). bytes_eq x.name bytes) goals g e).0

module _ (goals : List GoalTree) (form first second : Form) (code : Code) where
  pub code_written :
      has_head (codes "code") form ≡ true →
      slice_get (parts_of form) 1 ≡ Some first →
      slice_get (parts_of form) 2 ≡ Some second →
      (named : IsGoalNamed goals first code.goal) →
      WritesWords second code.words →
      AllPairs (λ (s t : TargetTree). s.name ≢ t.name) named.found.item.sets →
      lacks_place named.found.item.sets (places_in form) ≡ false →
      Each (WritesPlace named.found.item.sets) (places_in form) code.places →
      ArePlacesClear named.found.item.sets (places_in form) (length (places_in form)) →
      WritesCode goals form code
  code_written head g g2 named words pairs lacks each clear =
      let goal = named.found.item in
      let listed : IsListOf (codes "code") (drop 1 (parts_of form)) form = listed_of (codes "code") form head in
      let parts : drop 1 (parts_of form) ≡ first ∷ list words.place (forms_from words.parts) ∷ places_in form =
      two_behind (parts_of form) first second g g2 ∙ ap (λ (f : Form). first ∷ f ∷ places_in form) words.is in
      record {
        goal = goal;
        of_goal = named.found.there;
        name_form = first;
        words_place = words.place;
        words = words.parts;
        places = places_in form;
        is = subst (λ fs. IsListOf (codes "code") fs form) parts listed;
        named = is_name first goal.name (named.named ∙ ap Some (sym (goal_has_name goals named.bytes goal named.found.is)));
        each_word = words.each;
        low = words.low;
        each_place = each;
        fits = record {
          instrs = words.instrs;
          is_code = words.is_code;
          few = words.few;
          places = are_places goal.sets pairs (places_in form) code.places each lacks (all_fresh goal.sets (places_in form) code.places each clear);
        };
      }

-- ---- the code's views

pub low_goal : (goals : List Goal) (i : ℕ) (g : GoalTree) → slice_get (map goal_view goals) i ≡ Some g → i < length goals
low_goal goals i g e = (let l = slice_get_within (map goal_view goals) i g e in let n = length-map goals goal_view in omega (arith, l, n))

pub goal_at : (goals : List Goal) (i : ℕ) (goal : Goal) (g : GoalTree) → slice_get (map goal_view goals) i ≡ Some g → goal ≡ get_or goals i goal → goal_view goal ≡ g
goal_at goals i goal g e is =
    same_Some (goal_view goal) g
    (sym (slice_get-map goal_view goals i ∙ ap (option_map goal_view) (slice_get-get_or goals i goal (low_goal goals i g e) ∙ ap Some (sym is))) ∙ e)

-- the forms behind the first three parts
pub places_are : (text : List ℕ) (form : Form) (p : ℕ) (parts rest : List Sexp) → form ≡ list p (forms_from (sexp_forms text parts)) → rest ≡ take (length parts - 3) (drop 3 parts) → sexp_forms text rest ≡ places_in form
places_are text form p parts rest e r =
    ap (sexp_forms text) (r ∙ take_rest parts 3) ∙ sym (drop-map (sexp_form text) 3 parts) ∙ sym (ap (drop 3) (parts_form form p (sexp_forms text parts) e))

pub rest_of : (text : List ℕ) (parts rest : List Sexp) → rest ≡ take (length parts - 3) (drop 3 parts) → All (IsSexpOf text) parts → All (IsSexpOf text) rest
rest_of text parts rest r all = subst (All (IsSexpOf text)) (sym (r ∙ take_rest parts 3)) (All-drop (IsSexpOf text) 3 parts all)

pub few_targets : (goals : List GoalTree) → AreGoals goals → (i : ℕ) (g : GoalTree) → slice_get goals i ≡ Some g → (sets : List Set) → map target_view sets ≡ g.sets → length sets < 2 ^ 32
few_targets goals are i g e sets s =
    let few : length g.sets ≤ 16 = subst (λ (x : GoalTree). length x.sets ≤ 16) (get_or_from_slice_get goals i g g e) (All-get_or (λ (x : GoalTree). length x.sets ≤ 16) goals i g (slice_get_within goals i g e) are.few_sets) in
    let n = sym (length-map sets target_view) ∙ ap length s in
    omega (arith, few, n)

pub clear_behind : (sets others : List TargetTree) (forms read : List Form) (n : ℕ) → length read ≡ n → others ≡ sets → read ≡ forms → ArePlacesClear others read n → ArePlacesClear sets forms (length forms)
clear_behind sets others forms read n e s r clear =
    subst (λ m. ArePlacesClear sets forms m) (sym e ∙ ap length r) (subst (λ (fs : List Form). ArePlacesClear sets fs n) r (subst (λ (ts : List TargetTree). ArePlacesClear ts read n) s clear))
