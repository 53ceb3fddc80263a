-- Texts of goals and codes: which fault is first, and that a text that is read has none. What goal_reader and forms say
-- of all texts is handed in.
use Rattle.std.proofs.Common.{◌≡◌, ◌≢◌, ℕ, ◌<◌, ◌≤◌, ◌^◌, All, Some, List, ◌∷◌, length, take, get_or, codes, refl, sym, ap, ap₂, ◌∙◌, subst, arith, slice_get, Ok, Err, Result, IfOk}
use Rattle.std.specs.Prelude.{AllPairs}
use Rattle.std.proofs.lemmas.List.Elements.{All-get_or, All-weaker}
use Rattle.std.proofs.lemmas.Option.{get_or_from_slice_get, slice_get-get_or, slice_get_within}
use Rattle.text_core.proofs.Outcomes.{first_once}
use Rattle.text_core.specs.Faults.{IsFirst}
use Rattle.text_core.specs.Trees.{SexpTrees}
use Rattle.text_core.specs.declared.faults.Kind.{Kind}
use Rattle.text_core.specs.Sexps.{sexp_trees}
use Rattle.text_core.specs.declared.sexps.Sexp.{Sexp}
use Rattle.forms.specs.Forms.{Form, list, forms_from, sexp_forms}
use Rattle.forms.specs.Reading.{IsFirstReadFault, TextHasTrees}
use Rattle.machine_table.specs.Grammar.{Each}
use Rattle.goal_meaning.specs.Views.{GoalTree, InputTree, TargetTree, input_view}
use Rattle.goal_meaning.specs.WellFormed.{IsGoal, IsInput}
use Rattle.goal_reader.specs.Grammar.{IsFirstTextFault, Reads}
use Rattle.code_check.specs.CodeGrammar.{CheckedTree, IsFirstCodesFault, ReadsCodes, WritesCode, code_forms, goal_bytes, checked_view, in_codes, in_goals, in_passes}
use Rattle.code_check.specs.CodeReading.{AreGoals, IsClearCode, IsFormsFault, WritesForms, bytes_before, of_codes, of_goals}
use Rattle.code_check.specs.CodeRoles.{CodeRole, IsCodesFault, first_place, from_codes}
use Rattle.code_check.specs.Codes.{IsCodeOf}
use Rattle.code_check.specs.declared.codes.Checked.{Checked}
use Rattle.code_check.specs.declared.codes.Code.{Code}
use Rattle.code_check.proofs.FormLists.{each_length, each_once, forms_are}
use Rattle.code_check.proofs.CodeTexts.{codes_clear, one_code}
use Rattle.code_check.proofs.Searches.{each_form, each_item, keyword_told, take_short}
use Rattle.code_check.proofs.WrittenCodes.{code_once, written_code_clear}

-- ---- goals of an input

pub are_goals : (input : InputTree) → IsInput input → AreGoals input.goals
are_goals input is = record {
  few = is.few.2;
  few_sets = All-weaker (IsGoal input.ops) (λ (g : GoalTree). length g.sets ≤ 16) (λ g h. h.rules.few.2) input.goals is.goals;
  targets = All-weaker (IsGoal input.ops) (λ (g : GoalTree). AllPairs (λ (s t : TargetTree). s.name ≢ t.name) g.sets) (λ g h. h.rules.targets) input.goals is.goals;
}

-- the names of a goal's targets differ
pub targets_differ : (goals : List GoalTree) → AreGoals goals → (i : ℕ) (g : GoalTree) → slice_get goals i ≡ Some g → AllPairs (λ (s t : TargetTree). s.name ≢ t.name) g.sets
targets_differ goals are i g e =
    subst (λ (x : GoalTree). AllPairs (λ (s t : TargetTree). s.name ≢ t.name) x.sets) (get_or_from_slice_get goals i g g e)
    (All-get_or (λ (x : GoalTree). AllPairs (λ (s t : TargetTree). s.name ≢ t.name) x.sets) goals i g (slice_get_within goals i g e) are.targets)

-- codes that are written are codes of the input
pub are_codes : (input : InputTree) (forms : List Form) (codes : List Code) → Each (WritesCode input.goals) forms codes → All (IsCodeOf input) codes
are_codes input forms codes each = λ k d l. (let w = (each_form (WritesCode input.goals) forms codes each k (get_or codes k d) (slice_get-get_or codes k d l)).2 in record { goal = w.goal; of_goal = w.of_goal; fits = w.fits })

-- ---- a text

module _ (text : List ℕ) (one_forest : (trees others : SexpTrees) → TextHasTrees text trees → TextHasTrees text others → trees ≡ others)
    (apart : (trees : SexpTrees) (place : ℕ) (kind : Kind) → TextHasTrees text trees → IsFirstReadFault text place kind → ⊥)
    (once : (t : List ℕ) (input other : InputTree) → Reads t input → Reads t other → input ≡ other)
    (no_fault : (t : List ℕ) (input : InputTree) (place : ℕ) (kind : Kind) → Reads t input → IsFirstTextFault t place kind → ⊥) where
  same_bytes : (trees others : SexpTrees) → TextHasTrees text trees → TextHasTrees text others → goal_bytes text trees ≡ goal_bytes text others
  same_bytes trees others has had = ap (goal_bytes text) (one_forest trees others has had)

  -- where the goals are read and the codes have no fault, the text has none
  pub text_clear :
      (trees : SexpTrees) (input : InputTree) → TextHasTrees text trees → Reads (goal_bytes text trees) input →
      ((place : ℕ) (kind : Kind) → IsCodesFault input.goals (length text) (code_forms text trees) place kind → ⊥) →
      (place : ℕ) (kind : Kind) → IsFirstCodesFault text place kind → ⊥
  text_clear trees input has reads clear place kind (in_passes f) = apart trees place kind has f
  text_clear trees input has reads clear place kind (in_goals others had f) =
      no_fault (goal_bytes text trees) input place kind reads (subst (λ t. IsFirstTextFault t place kind) (same_bytes others trees had has) f)
  text_clear trees input has reads clear place kind (in_codes others other had read f) =
      let forest : others ≡ trees = one_forest others trees had has in
      let here : IsFirst (IsCodesFault other.goals (length text) (code_forms text trees)) place kind =
      subst (λ (ts : SexpTrees). IsFirst (IsCodesFault other.goals (length text) (code_forms text ts)) place kind) forest f in
      let inputs : other ≡ input = once (goal_bytes text trees) other input (subst (λ (ts : SexpTrees). Reads (goal_bytes text ts) other) forest read) reads in
      clear place kind (subst (λ (i : InputTree). IsCodesFault i.goals (length text) (code_forms text trees) place kind) inputs here.found)

  module _ (first : (place other : ℕ) (kind another : Kind) → IsFirstReadFault text place kind → IsFirstReadFault text other another → (place ≡ other) × (kind ≡ another))
      (first_of_goals : (t : List ℕ) (place other : ℕ) (kind another : Kind) → IsFirstTextFault t place kind → IsFirstTextFault t other another → (place ≡ other) × (kind ≡ another)) where
    pub one_fault : (place other : ℕ) (kind another : Kind) → IsFirstCodesFault text place kind → IsFirstCodesFault text other another → (place ≡ other) × (kind ≡ another)
    one_fault place other kind another (in_passes f) (in_passes g) = first place other kind another f g
    one_fault place other kind another (in_passes f) (in_goals trees has g) = absurd (apart trees place kind has f)
    one_fault place other kind another (in_passes f) (in_codes trees input has reads g) = absurd (apart trees place kind has f)
    one_fault place other kind another (in_goals trees has f) (in_passes g) = absurd (apart trees other another has g)
    one_fault place other kind another (in_goals trees has f) (in_goals others had g) =
        first_of_goals (goal_bytes text trees) place other kind another f (subst (λ t. IsFirstTextFault t other another) (same_bytes others trees had has) g)
    one_fault place other kind another (in_goals trees has f) (in_codes others input had reads g) =
        absurd (no_fault (goal_bytes text trees) input place kind (subst (λ t. Reads t input) (same_bytes others trees had has) reads) f)
    one_fault place other kind another (in_codes trees input has reads f) (in_passes g) = absurd (apart trees other another has g)
    one_fault place other kind another (in_codes trees input has reads f) (in_goals others had g) =
        absurd (no_fault (goal_bytes text trees) input other another reads (subst (λ t. IsFirstTextFault t other another) (same_bytes others trees had has) g))
    one_fault place other kind another (in_codes trees input has reads f) (in_codes others i had read g) =
        let forest : others ≡ trees = one_forest others trees had has in
        let inputs : i ≡ input = once (goal_bytes text trees) i input (subst (λ (ts : SexpTrees). Reads (goal_bytes text ts) i) forest read) reads in
        let here : IsFirst (IsCodesFault input.goals (length text) (code_forms text trees)) other another =
        subst (λ (x : InputTree). IsFirst (IsCodesFault x.goals (length text) (code_forms text trees)) other another) inputs
        (subst (λ (ts : SexpTrees). IsFirst (IsCodesFault i.goals (length text) (code_forms text ts)) other another) forest g) in
        first_once (IsCodesFault input.goals (length text) (code_forms text trees)) place other kind another f here

  -- ---- a text that is in the grammar

  checked_of_parts : InputTree → List Code → CheckedTree
  checked_of_parts i cs = record { input = i; codes = cs }

  checked_back : (c : CheckedTree) → checked_of_parts c.input c.codes ≡ c
  unfolding checked_of_parts
  checked_back c = refl

  module _ (well_formed : (t : List ℕ) (input : InputTree) → length t < 2 ^ 29 → Reads t input → IsInput input) (small : length text < 2 ^ 29) where
    is_input : (trees : SexpTrees) (input : InputTree) → Reads (goal_bytes text trees) input → IsInput input
    is_input trees input reads = well_formed (goal_bytes text trees) input (shorter (first_place (length text) (code_forms text trees))) reads
      where
        shorter : (n : ℕ) → length (take n text) < 2 ^ 29
        shorter n = (let l = take_short n text in omega (arith, l, small))

    pub reads_once : (a b : CheckedTree) → ReadsCodes text a → ReadsCodes text b → a ≡ b
    reads_once a b v w =
        let forest : v.trees ≡ w.trees = one_forest v.trees w.trees v.has w.has in
        let reads : Reads (goal_bytes text w.trees) a.input = subst (λ (ts : SexpTrees). Reads (goal_bytes text ts) a.input) forest v.goals in
        let inputs : a.input ≡ b.input = once (goal_bytes text w.trees) a.input b.input reads w.goals in
        let is = is_input w.trees b.input w.goals in
        let each : Each (WritesCode b.input.goals) (code_forms text w.trees) a.codes =
        subst (λ (i : InputTree). Each (WritesCode i.goals) (code_forms text w.trees) a.codes) inputs (subst (λ (ts : SexpTrees). Each (WritesCode a.input.goals) (code_forms text ts) a.codes) forest v.each) in
        let codes : a.codes ≡ b.codes =
        each_once (WritesCode b.input.goals) (code_once b.input.goals is.goals_differ (are_goals b.input is).targets) (code_forms text w.trees) a.codes b.codes each w.each in
        sym (checked_back a) ∙ ap₂ checked_of_parts inputs codes ∙ checked_back b

    pub reads_apart : (c : CheckedTree) (place : ℕ) (kind : Kind) → ReadsCodes text c → IsFirstCodesFault text place kind → ⊥
    reads_apart c place kind v =
        let is = is_input v.trees c.input v.goals in
        let forms = code_forms text v.trees in
        let counted = each_length (WritesCode c.input.goals) forms c.codes v.each in
        text_clear v.trees c.input v.has v.goals
        (codes_clear c.input.goals forms (length text) (λ j form l g.
        let item = each_item (WritesCode c.input.goals) forms c.codes v.each j form g in
        let w = item.2 in
        let few = v.few in
        let head = keyword_told (codes "code") (w.name_form ∷ list w.words_place (forms_from w.words) ∷ w.places) form w.is in
        subst (λ (r : CodeRole). IsClearCode r form) (sym (one_code c.input.goals j form head (omega (arith, l, counted, few))))
        (written_code_clear c.input.goals is.goals_differ form item.0 w (targets_differ c.input.goals (are_goals c.input is) item.0.goal w.goal w.of_goal)))
        (let s = v.some in omega (arith, s, counted))) place kind

pub both_ok : {E : Type 0} (r : Result Checked E) (text : List ℕ) → IfOk r (λ checked. ReadsCodes text (checked_view checked)) → IfOk r (λ checked. IsInput (input_view checked.input))
    → IfOk r (λ checked. IsInput (input_view checked.input) × All (IsCodeOf (input_view checked.input)) checked.codes)
both_ok (Ok x) text h i = (i, are_codes (input_view x.input) (code_forms text h.trees) x.codes h.each)
both_ok (Err e) text h i = tt

-- ---- from the forms of a text to the text

module _ (text : List ℕ) (sexps : List Sexp) (has : TextHasTrees text (sexp_trees sexps)) where
  forms_same : code_forms text (sexp_trees sexps) ≡ from_codes (sexp_forms text sexps)
  forms_same = ap from_codes (forms_are text sexps)

  bytes_same : goal_bytes text (sexp_trees sexps) ≡ bytes_before text (sexp_forms text sexps)
  bytes_same = ap (λ fs. take (first_place (length text) fs) text) forms_same

  pub goals_read : (checked : CheckedTree) → WritesForms text (sexp_forms text sexps) checked → Reads (goal_bytes text (sexp_trees sexps)) checked.input
  goals_read checked w = subst (λ t. Reads t checked.input) (sym bytes_same) w.goals

  pub written_reads : (checked : CheckedTree) → WritesForms text (sexp_forms text sexps) checked → ReadsCodes text checked
  written_reads checked w = record {
    trees = sexp_trees sexps;
    has = has;
    goals = goals_read checked w;
    each = subst (λ (fs : List Form). Each (WritesCode checked.input.goals) fs checked.codes) (sym forms_same) w.each;
    some = w.some;
    few = w.few;
  }

  pub forms_fault : (place : ℕ) (kind : Kind) → IsFormsFault text (sexp_forms text sexps) place kind → IsFirstCodesFault text place kind
  forms_fault place kind (of_goals f) = in_goals (sexp_trees sexps) has (subst (λ t. IsFirstTextFault t place kind) (sym bytes_same) f)
  forms_fault place kind (of_codes input reads f) =
      in_codes (sexp_trees sexps) input has (subst (λ t. Reads t input) (sym bytes_same) reads)
      (subst (λ (fs : List Form). IsFirst (IsCodesFault input.goals (length text) fs) place kind) (sym forms_same) f)

pub all_read : {E : Type 0} (r : Result Checked E) (text : List ℕ) (sexps : List Sexp) → TextHasTrees text (sexp_trees sexps)
    → IfOk r (λ checked. WritesForms text (sexp_forms text sexps) (checked_view checked)) → IfOk r (λ checked. ReadsCodes text (checked_view checked))
all_read (Ok x) text sexps has h = written_reads text sexps has (checked_view x) h
all_read (Err e) text sexps has h = tt

pub well_formed_is : ((t : List ℕ) (input : InputTree) → length t < 2 ^ 29 → Reads t input → IsInput input) → (text : List ℕ) (n : ℕ) → length text < 2 ^ 29 → (input : InputTree) → Reads (take n text) input → IsInput input
well_formed_is well_formed text n small input reads = well_formed (take n text) input (let l = take_short n text in omega (arith, l, small)) reads
