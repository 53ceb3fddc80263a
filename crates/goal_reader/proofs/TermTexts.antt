-- The canonical text of a term by itself.
use Rattle.std.proofs.Common.{◌≡◌, ◌≢◌, ℕ, zero, suc, ◌+◌, ◌*◌, ◌≤◌, Some, List, [], ◌∷◌, map, sym, ap, ◌∙◌, subst, arith, slice_get}
use Rattle.std.specs.Prelude.{AllPairs}
use Rattle.forms.specs.Forms.{Form, Stands, atom, list, more, parts_of, forms_list, forms_of}
use Rattle.forms.specs.Printing.{CanPrintAll, most_levels, plain_of, plains_of, plains_from}
use Rattle.forms.specs.Printing as printing
use Rattle.forms.specs.Reading.{TextHasTrees}
use Rattle.goal_meaning.specs.InputForms.{naming, term_plain}
use Rattle.goal_meaning.specs.WellFormed.{IsTermOver, input_registers}
use Rattle.goal_meaning.specs.declared.goals.InputReg.{InputReg}
use Rattle.goal_reader.specs.GoalTerms.{AreInputs, IsReadTerm, IsTextOfTerm, IsWithin, one, part, term_scope, term_text}
use Rattle.goal_reader.specs.Terms.{Writes}
use Rattle.goal_reader.proofs.Fitting.{Fits, FitAll, fit_head, fit_more, fit_none, fit_tail}
use Rattle.goal_reader.proofs.Moved.{more_form, none_form, plains_map, term_told, writes_moved}
use Rattle.goal_reader.proofs.InputKeeps.{term_keeps}
use Rattle.goal_reader.proofs.PrintedNames.{goal_named}
use Rattle.goal_reader.proofs.WrittenSizes.{few_operators, signs_within}
use Rattle.text_core.specs.Trees.{SexpTrees}
use Rattle.word_ops.specs.declared.sorts.Op.{Op}
use Rattle.word_ops.specs.declared.sorts.Sort.{Sort}
use Rattle.word_terms.specs.OperatorsIn.{operators_in}
use Rattle.word_terms.specs.Tree.{Tree}

-- what stands in printable forms is printable, and no deeper
fit_at : (n : ℕ) (fs : List Form) (at : ℕ) (f : Form) → slice_get fs at ≡ Some f → FitAll n (map plain_of fs) → Fits n (plain_of f)
fit_at n [] at f g all = cc
fit_at n (x ∷ xs) zero f g all = (let same : x ≡ f = cc in subst (λ (y : Form). Fits n (plain_of y)) same (fit_head n (plain_of x) (map plain_of xs) all))
fit_at n (x ∷ xs) (suc at) f g all = fit_at n xs at f g (fit_tail n (plain_of x) (map plain_of xs) all)

parts_of_fit : (n : ℕ) (f : Form) → Fits n (plain_of f) → FitAll n (map plain_of (parts_of f))
parts_of_fit n (atom p a) h = fit_none n
parts_of_fit n (list p ps) h =
    let low = h.1 in
    let same = plains_map ps in
    subst (λ qs. CanPrintAll qs × (most_levels qs ≤ n)) same (h.0, omega (arith, low))

pub within_fits : (n : ℕ) (form : Form) (fs : List Form) → IsWithin form fs → FitAll n (map plain_of fs) → Fits n (plain_of form)
within_fits n form fs (one at g) all = fit_at n fs at form g all
within_fits n form fs (part at other g inner) all = within_fits n form (parts_of other) inner (parts_of_fit n other (fit_at n fs at other g all))

pub term_is_told : (inputs : List InputReg) → AllPairs (λ a b. a ≢ b) (input_registers inputs) → {sort : Sort} {form : Form} {t : Tree Op} → Writes (term_scope inputs) sort form t → plain_of form ≡ term_plain (naming [] inputs []) t
term_is_told inputs apart w = term_told (term_scope inputs) (naming [] inputs []) (goal_named [] inputs apart) w

pub term_few : (inputs : List InputReg) (form : Form) (t : Tree Op) (low high : ℕ) → {sort : Sort} → Writes (term_scope inputs) sort form t → Stands low high form → 4 * low + 5 * operators_in t ≤ 4 * high + 1
term_few inputs form t low high w stands =
    let a = few_operators (term_scope inputs) w in
    let b = signs_within low high form stands in
    omega (arith, a, b)

module _ (prints : (text : List ℕ) (all : SexpTrees) → TextHasTrees text all → CanPrintAll (plains_of (forms_of text all)) × (most_levels (plains_of (forms_of text all)) ≤ 64)) where
  read_fits : {inputs : List InputReg} {sort : Sort} {t : Tree Op} (r : IsReadTerm inputs sort t) → Fits 64 (plain_of r.form)
  read_fits r =
      let all : FitAll 64 (map plain_of (forms_list (forms_of r.text r.trees))) = subst (λ ps. CanPrintAll ps × (most_levels ps ≤ 64)) (plains_map (forms_of r.text r.trees)) (prints r.text r.trees r.has) in
      within_fits 64 r.form (forms_list (forms_of r.text r.trees)) r.within all

  pub term_well_sorted : (inputs : List InputReg) (sort : Sort) (t : Tree Op) → IsReadTerm inputs sort t → IsTermOver [] inputs [] sort t
  term_well_sorted inputs sort t r = term_keeps [] inputs r.writes (read_fits r).0

  module _ (inputs : List InputReg) (sort : Sort) (t : Tree Op) (are : AreInputs inputs) (r : IsReadTerm inputs sort t) where
    told : plain_of r.form ≡ term_plain (naming [] inputs []) t
    told = term_is_told inputs are.registers r.writes

    pub term_fits : FitAll 64 (term_plain (naming [] inputs []) t ∷ [])
    term_fits = fit_more 64 (term_plain (naming [] inputs []) t) [] (subst (Fits 64) told (read_fits r)) (fit_none 64)

    pub term_is_read : (trees : SexpTrees) → TextHasTrees (term_text inputs t) trees → plains_of (forms_of (term_text inputs t) trees) ≡ plains_from (term_plain (naming [] inputs []) t ∷ []) → IsTextOfTerm (term_text inputs t) inputs sort t
    term_is_read trees has e =
        let m = more_form (forms_of (term_text inputs t) trees) (term_plain (naming [] inputs []) t) printing.none e in
        record {
          trees = trees;
          has = has;
          form = m.0;
          alone = ap forms_list (m.2 ∙ ap (more m.0) (none_form m.1 m.4));
          writes = writes_moved (term_scope inputs) r.writes m.0 (m.3 ∙ sym told);
        }
