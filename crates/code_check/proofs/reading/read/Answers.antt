use Rattle.std.proofs.Common.{◌≡◌, ℕ, All, IfErr, IfOk, List, Result, Err, length, sym, subst}
use Rattle.std.proofs.lemmas.Result.{IfErr-weaker, err_from_is_err_and}
use Rattle.text_core.specs.Faults.{GivesUnlessMemory, IsFaultBy, RefusesUnlessMemory}
use Rattle.text_core.specs.declared.faults.Kind.{Kind}
use Rattle.text_core.specs.declared.faults.TextFault.{TextFault}
use Rattle.text_core.specs.Sexps.{sexp_trees}
use Rattle.text_core.specs.declared.sexps.Sexp.{Sexp}
use Rattle.forms.specs.Forms.{Forms, Stand, forms_from, sexp_forms}
use Rattle.forms.specs.Reading.{IsFirstReadFault, IsSexpOf}
use Rattle.forms.proofs.Told.{gives, refuses, told_as}
use Rattle.code_check.specs.CodeGrammar.{CheckedTree, IsFirstCodesFault, ReadsCodes, checked_view, in_passes}
use Rattle.code_check.specs.CodeReading.{IsFormsFault, WritesForms}
use Rattle.code_check.specs.declared.codes.Checked.{Checked}
use Rattle.code_check.proofs.FormLists.{forms_map}
use Rattle.code_check.proofs.ReadTexts.{all_read, both_ok, forms_fault, one_fault, reads_apart, reads_once}
use Rattle.code_check.proofs.reading.read.Goals as goal
use Rattle.code_check.proofs.reading.read.Goals.{After-trees, After-read_forms}

-- a result that reads the text, or has its first fault, gives what the text says and refuses where it has a fault
read_gives : (c : After-trees) (r : Result Checked TextFault) → IfOk r (λ checked. ReadsCodes c.args.bytes.now (checked_view checked)) → IfErr r (IsFaultBy (IsFirstCodesFault c.args.bytes.now))
    → (checked : CheckedTree) → ReadsCodes c.args.bytes.now checked → GivesUnlessMemory (λ read. checked_view read ≡ checked) r
read_gives c =
    let text = c.args.bytes.now in
    let forest = c.one_reading.ensures.trees text in
    let apart = c.one_reading.ensures.apart text in
    let once = c.texts_have_one_reading.ensures.once in
    let no_fault = c.texts_have_one_reading.ensures.apart in
    gives checked_view (ReadsCodes text) (IsFirstCodesFault text)
    (reads_once text forest apart once no_fault c.read_inputs_are_well_formed.ensures c.requires)
    (reads_apart text forest apart once no_fault c.read_inputs_are_well_formed.ensures c.requires)
    (one_fault text forest apart once no_fault (c.one_reading.ensures.first text) c.texts_have_one_first_fault.ensures)

read_refuses : (c : After-trees) (r : Result Checked TextFault) → IfOk r (λ checked. ReadsCodes c.args.bytes.now (checked_view checked)) → IfErr r (IsFaultBy (IsFirstCodesFault c.args.bytes.now))
    → (place : ℕ) (kind : Kind) → IsFirstCodesFault c.args.bytes.now place kind → RefusesUnlessMemory place kind r
read_refuses c =
    let text = c.args.bytes.now in
    let forest = c.one_reading.ensures.trees text in
    let apart = c.one_reading.ensures.apart text in
    let once = c.texts_have_one_reading.ensures.once in
    let no_fault = c.texts_have_one_reading.ensures.apart in
    refuses checked_view (ReadsCodes text) (IsFirstCodesFault text)
    (reads_once text forest apart once no_fault c.read_inputs_are_well_formed.ensures c.requires)
    (reads_apart text forest apart once no_fault c.read_inputs_are_well_formed.ensures c.requires)
    (one_fault text forest apart once no_fault (c.one_reading.ensures.first text) c.texts_have_one_first_fault.ensures)

-- ---- a fault of bytes and parentheses

pub returns-in_err-forms-clause-fault : goal.returns-in_err-forms-clause-fault
returns-in_err-forms-clause-fault c =
    let p = err_from_is_err_and c.from_residual.result c.from_residual.ensures.1 in
    rw (p.1, p.2)
    (told_as (IsFirstReadFault c.args.bytes.now) (IsFirstCodesFault c.args.bytes.now) (λ p k f. in_passes f) c.in_err-forms.field-0.0 c.in_err-forms.ensures.fault)

pub returns-in_err-forms-clause-read : goal.returns-in_err-forms-clause-read
returns-in_err-forms-clause-read c =
    let p = err_from_is_err_and c.from_residual.result c.from_residual.ensures.1 in
    rw (p.1, p.2)
    (read_gives (goal.at.returns-in_err-forms-clause-read c).After-trees (Err c.in_err-forms.field-0.0) tt
    (told_as (IsFirstReadFault c.args.bytes.now) (IsFirstCodesFault c.args.bytes.now) (λ p k f. in_passes f) c.in_err-forms.field-0.0 c.in_err-forms.ensures.fault))

pub returns-in_err-forms-clause-refused : goal.returns-in_err-forms-clause-refused
returns-in_err-forms-clause-refused c =
    let p = err_from_is_err_and c.from_residual.result c.from_residual.ensures.1 in
    rw (p.1, p.2)
    (read_refuses (goal.at.returns-in_err-forms-clause-refused c).After-trees (Err c.in_err-forms.field-0.0) tt
    (told_as (IsFirstReadFault c.args.bytes.now) (IsFirstCodesFault c.args.bytes.now) (λ p k f. in_passes f) c.in_err-forms.field-0.0 c.in_err-forms.ensures.fault))

-- ---- the forms

pub read_forms-requires : goal.read_forms-requires
read_forms-requires c =
    let text = c.args.bytes.now in
    let sexps = c.in_ok-forms.forms.items in
    let same = sym c.deref.ensures.value in
    record {
      of = subst (λ (xs : List Sexp). All (IsSexpOf text) xs) same c.in_ok-forms.ensures.each;
      stand = subst (λ (xs : List Sexp). Stand 0 (length text) (forms_from (sexp_forms text xs))) same
          (subst (λ (fs : Forms). Stand 0 (length text) fs) (forms_map text sexps) (c.one_reading.ensures.stand text (sexp_trees sexps) c.in_ok-forms.ensures.trees));
      small = c.requires;
    }

codes_read : (c : After-read_forms) → IfOk c.read_forms.result (λ checked. ReadsCodes c.args.bytes.now (checked_view checked))
codes_read c =
    let text = c.args.bytes.now in
    let sexps = c.in_ok-forms.forms.items in
    all_read c.read_forms.result text sexps c.in_ok-forms.ensures.trees
    (subst (λ (xs : List Sexp). IfOk c.read_forms.result (λ checked. WritesForms text (sexp_forms text xs) (checked_view checked))) c.deref.ensures.value c.read_forms.ensures.written)

fault_is : (c : After-read_forms) → IfErr c.read_forms.result (IsFaultBy (IsFirstCodesFault c.args.bytes.now))
fault_is c =
    let text = c.args.bytes.now in
    let sexps = c.in_ok-forms.forms.items in
    IfErr-weaker c.read_forms.result (IsFaultBy (IsFormsFault text (sexp_forms text sexps))) (IsFaultBy (IsFirstCodesFault text))
    (λ fault h. told_as (IsFormsFault text (sexp_forms text sexps)) (IsFirstCodesFault text) (forms_fault text sexps c.in_ok-forms.ensures.trees) fault h)
    (subst (λ (xs : List Sexp). IfErr c.read_forms.result (IsFaultBy (IsFormsFault text (sexp_forms text xs)))) c.deref.ensures.value c.read_forms.ensures.fault)

pub returns-clause-fault : goal.returns-clause-fault
returns-clause-fault c = fault_is (goal.at.returns-clause-fault c).After-read_forms

pub returns-clause-codes : goal.returns-clause-codes
returns-clause-codes c = codes_read (goal.at.returns-clause-codes c).After-read_forms

pub returns-clause-read : goal.returns-clause-read
returns-clause-read c =
    let after = (goal.at.returns-clause-read c).After-read_forms in
    read_gives (goal.at.returns-clause-read c).After-trees c.read_forms.result (codes_read after) (fault_is after)

pub returns-clause-refused : goal.returns-clause-refused
returns-clause-refused c =
    let after = (goal.at.returns-clause-refused c).After-read_forms in
    read_refuses (goal.at.returns-clause-refused c).After-trees c.read_forms.result (codes_read after) (fault_is after)

pub returns-clause-well_formed : goal.returns-clause-well_formed
returns-clause-well_formed c =
    both_ok c.read_forms.result c.args.bytes.now (codes_read (goal.at.returns-clause-well_formed c).After-read_forms) c.read_forms.ensures.well_formed
