use Rattle.std.proofs.Common.{◌++◌, ◌<◌, ◌≤◌, List, [], ◌∷◌, Some, codes, length, sym, ◌∙◌, ap, refl, arith}
use Rattle.std.proofs.lemmas.Result.{err_from_is_err_and}
use Rattle.text_core.specs.declared.faults.Kind.TheVariants.{BadForm}
use Rattle.forms.specs.Forms.{place_of, sexp_form, parts_of}
use Rattle.forms.proofs.Told.{told, told_of_part}
use Rattle.goal_meaning.specs.WellFormed.{input_registers}
use Rattle.goal_reader.specs.Reading.{names_of_inputs}
use Rattle.goal_reader.specs.Roles as roles
use Rattle.goal_reader.specs.Roles.{Role, Shape, IsFaultAs}
use Rattle.goal_reader.proofs.Fixed.{short_first, clear_none, clear_more, part_first, whole_clear, wrong_first}
use Rattle.goal_reader.proofs.NewNames.{own_name_clear, fresh_register_clear, input_only, nth_part, part_of, count_form}
use Rattle.proc_goal.proofs.Items.{head_is_list}
use Rattle.proc_goal.proofs.VariableSteps.{variable_writes}
use Rattle.proc_goal.proofs.variables.variable.Goals as goal

pub unreachable-requires : goal.unreachable-requires
unreachable-requires c =
    head_is_list (codes "var") (sexp_form c.args.text.now c.args.form.now) c.requires.head (c.in_default.ensures.parts c.args.text.now)

pub returns-then-parts-lt3-clause-fault : goal.returns-then-parts-lt3-clause-fault
returns-then-parts-lt3-clause-fault c =
    let text = c.args.text.now in
    let form = sexp_form text c.args.form.now in
    let s = c.sexps_are_forms.ensures.stands text c.args.form.now c.requires.of in
    let parts = c.in-Some.parts.now in
    let is = c.in-Some.ensures.parts text in
    let shape : Shape = roles.input [] c.args.vars.now in
    let each : List Role = roles.own_name (names_of_inputs c.args.vars.now) ∷ roles.fresh_register (input_registers c.args.vars.now) ∷ [] in
    let only = input_only [] c.args.vars.now form in
    let count = count_form text form (place_of form) parts is in
    told (IsFaultAs (roles.a_list shape) form) c.at.result c.place.result (place_of form) _ c.at.ensures (c.place.ensures text)
    (short_first shape form each s.0 s.1 s.2 only (λ at. refl) (let f = c.if-parts-lt3.true in omega (arith, count, f)))

pub returns-in_err-bytes-clause-fault : goal.returns-in_err-bytes-clause-fault
returns-in_err-bytes-clause-fault c =
    let p = err_from_is_err_and c.from_residual.result c.from_residual.ensures.1 in
    let text = c.args.text.now in
    let form = sexp_form text c.args.form.now in
    let s = c.sexps_are_forms.ensures.stands text c.args.form.now c.requires.of in
    let parts = c.in-Some.parts.now in
    let is = c.in-Some.ensures.parts text in
    let shape : Shape = roles.input [] c.args.vars.now in
    let each : List Role = roles.own_name (names_of_inputs c.args.vars.now) ∷ roles.fresh_register (input_registers c.args.vars.now) ∷ [] in
    let only = input_only [] c.args.vars.now form in
    let count = count_form text form (place_of form) parts is in
    let enough : length (parts_of form) < 3 → ⊥ = λ l. (let f = c.if-parts-lt3.false in omega (arith, count, l, f)) in
    let none = clear_none shape form each s.0 s.1 s.2 only (λ at. refl) in
    let g1 = nth_part text form (place_of form) parts 1 c.index-parts-1.result is (let f = c.if-parts-lt3.false in omega (arith, f)) c.index-parts-1.is in
    rw (p.1, p.2)
    (told_of_part (IsFaultAs _ (sexp_form text c.index-parts-1.result)) (IsFaultAs (roles.a_list shape) form)
    (λ p k first. part_first shape form each s.0 s.1 s.2 only (λ at. refl) 0 (sexp_form text c.index-parts-1.result) p k enough none g1 first) c.in_err-bytes.field-0.0 c.in_err-bytes.ensures.fault)

pub returns-in_err-reg-clause-fault : goal.returns-in_err-reg-clause-fault
returns-in_err-reg-clause-fault c =
    let p = err_from_is_err_and c.from_residual-in_err-reg.result c.from_residual-in_err-reg.ensures.1 in
    let text = c.args.text.now in
    let form = sexp_form text c.args.form.now in
    let s = c.sexps_are_forms.ensures.stands text c.args.form.now c.requires.of in
    let parts = c.in-Some.parts.now in
    let is = c.in-Some.ensures.parts text in
    let shape : Shape = roles.input [] c.args.vars.now in
    let each : List Role = roles.own_name (names_of_inputs c.args.vars.now) ∷ roles.fresh_register (input_registers c.args.vars.now) ∷ [] in
    let only = input_only [] c.args.vars.now form in
    let count = count_form text form (place_of form) parts is in
    let enough : length (parts_of form) < 3 → ⊥ = λ l. (let f = c.if-parts-lt3.false in omega (arith, count, l, f)) in
    let none = clear_none shape form each s.0 s.1 s.2 only (λ at. refl) in
    let g1 = nth_part text form (place_of form) parts 1 c.index-parts-1.result is (let f = c.if-parts-lt3.false in omega (arith, f)) c.index-parts-1.is in
    let clear1 = clear_more shape form each s.0 s.1 s.2 only (λ at. refl) 0 (sexp_form text c.index-parts-1.result) none g1 (own_name_clear _ _ c.in_ok-bytes.bytes.now c.in_ok-bytes.ensures.ok) in
    let g2 = nth_part text form (place_of form) parts 2 c.index-parts-2.result is (let f = c.if-parts-lt3.false in omega (arith, f)) c.index-parts-2.is in
    rw (p.1, p.2)
    (told_of_part (IsFaultAs _ (sexp_form text c.index-parts-2.result)) (IsFaultAs (roles.a_list shape) form)
    (λ p k first. part_first shape form each s.0 s.1 s.2 only (λ at. refl) 1 (sexp_form text c.index-parts-2.result) p k enough clear1 g2 first) c.in_err-reg.field-0.0 c.in_err-reg.ensures.fault)

pub returns-then-parts-gt3-clause-fault : goal.returns-then-parts-gt3-clause-fault
returns-then-parts-gt3-clause-fault c =
    let text = c.args.text.now in
    let form = sexp_form text c.args.form.now in
    let s = c.sexps_are_forms.ensures.stands text c.args.form.now c.requires.of in
    let parts = c.in-Some.parts.now in
    let is = c.in-Some.ensures.parts text in
    let shape : Shape = roles.input [] c.args.vars.now in
    let each : List Role = roles.own_name (names_of_inputs c.args.vars.now) ∷ roles.fresh_register (input_registers c.args.vars.now) ∷ [] in
    let only = input_only [] c.args.vars.now form in
    let count = count_form text form (place_of form) parts is in
    let enough : length (parts_of form) < 3 → ⊥ = λ l. (let f = c.if-parts-lt3.false in omega (arith, count, l, f)) in
    let none = clear_none shape form each s.0 s.1 s.2 only (λ at. refl) in
    let g1 = nth_part text form (place_of form) parts 1 c.index-parts-1.result is (let f = c.if-parts-lt3.false in omega (arith, f)) c.index-parts-1.is in
    let clear1 = clear_more shape form each s.0 s.1 s.2 only (λ at. refl) 0 (sexp_form text c.index-parts-1.result) none g1 (own_name_clear _ _ c.in_ok-bytes.bytes.now c.in_ok-bytes.ensures.ok) in
    let g2 = nth_part text form (place_of form) parts 2 c.index-parts-2.result is (let f = c.if-parts-lt3.false in omega (arith, f)) c.index-parts-2.is in
    let clear2 = clear_more shape form each s.0 s.1 s.2 only (λ at. refl) 1 (sexp_form text c.index-parts-2.result) clear1 g2 (fresh_register_clear _ _ c.in_ok-reg.reg c.in_ok-reg.ensures.register c.in_ok-reg.ensures.fresh) in
    let g3 = nth_part text form (place_of form) parts 3 c.index-parts-3.result is c.if-parts-gt3.true c.index-parts-3.is in
    let of = c.sexps_are_forms.ensures.stands text c.index-parts-3.result (part_of text parts 3 c.index-parts-3.result (c.in-Some.ensures.of text c.requires.of) c.if-parts-gt3.true c.index-parts-3.is) in
    told (IsFaultAs (roles.a_list shape) form) c.at-then-parts-gt3.result c.place-then-parts-gt3.result (place_of (sexp_form text c.index-parts-3.result)) _ c.at-then-parts-gt3.ensures (c.place-then-parts-gt3.ensures text)
    (part_first shape form each s.0 s.1 s.2 only (λ at. refl) 2 (sexp_form text c.index-parts-3.result) _ BadForm enough clear2 g3 (wrong_first (sexp_form text c.index-parts-3.result) of.0 of.1 of.2))

pub returns-clause-variable : goal.returns-clause-variable
returns-clause-variable c =
    let text = c.args.text.now in
    let form = sexp_form text c.args.form.now in
    let s = c.sexps_are_forms.ensures.stands text c.args.form.now c.requires.of in
    let parts = c.in-Some.parts.now in
    let is = c.in-Some.ensures.parts text in
    let shape : Shape = roles.input [] c.args.vars.now in
    let each : List Role = roles.own_name (names_of_inputs c.args.vars.now) ∷ roles.fresh_register (input_registers c.args.vars.now) ∷ [] in
    let only = input_only [] c.args.vars.now form in
    let count = count_form text form (place_of form) parts is in
    let enough : length (parts_of form) < 3 → ⊥ = λ l. (let f = c.if-parts-lt3.false in omega (arith, count, l, f)) in
    let none = clear_none shape form each s.0 s.1 s.2 only (λ at. refl) in
    let g1 = nth_part text form (place_of form) parts 1 c.index-parts-1.result is (let f = c.if-parts-lt3.false in omega (arith, f)) c.index-parts-1.is in
    let g2 = nth_part text form (place_of form) parts 2 c.index-parts-2.result is (let f = c.if-parts-lt3.false in omega (arith, f)) c.index-parts-2.is in
    variable_writes form (sexp_form text c.index-parts-1.result) (sexp_form text c.index-parts-2.result) (record { name = c.in_ok-name.name; reg = c.in_ok-reg.reg }) c.requires.head g1 g2
    (let f = c.if-parts-gt3.false in omega (arith, count, f)) (c.in_ok-bytes.ensures.ok.named ∙ ap Some (sym c.in_ok-name.ensures)) c.in_ok-reg.ensures.register

pub returns-clause-clear : goal.returns-clause-clear
returns-clause-clear c =
    let text = c.args.text.now in
    let form = sexp_form text c.args.form.now in
    let s = c.sexps_are_forms.ensures.stands text c.args.form.now c.requires.of in
    let parts = c.in-Some.parts.now in
    let is = c.in-Some.ensures.parts text in
    let shape : Shape = roles.input [] c.args.vars.now in
    let each : List Role = roles.own_name (names_of_inputs c.args.vars.now) ∷ roles.fresh_register (input_registers c.args.vars.now) ∷ [] in
    let only = input_only [] c.args.vars.now form in
    let count = count_form text form (place_of form) parts is in
    let enough : length (parts_of form) < 3 → ⊥ = λ l. (let f = c.if-parts-lt3.false in omega (arith, count, l, f)) in
    let none = clear_none shape form each s.0 s.1 s.2 only (λ at. refl) in
    let g1 = nth_part text form (place_of form) parts 1 c.index-parts-1.result is (let f = c.if-parts-lt3.false in omega (arith, f)) c.index-parts-1.is in
    let clear1 = clear_more shape form each s.0 s.1 s.2 only (λ at. refl) 0 (sexp_form text c.index-parts-1.result) none g1 (own_name_clear _ _ c.in_ok-bytes.bytes.now c.in_ok-bytes.ensures.ok) in
    let g2 = nth_part text form (place_of form) parts 2 c.index-parts-2.result is (let f = c.if-parts-lt3.false in omega (arith, f)) c.index-parts-2.is in
    let clear2 = clear_more shape form each s.0 s.1 s.2 only (λ at. refl) 1 (sexp_form text c.index-parts-2.result) clear1 g2 (fresh_register_clear _ _ c.in_ok-reg.reg c.in_ok-reg.ensures.register c.in_ok-reg.ensures.fresh) in
    whole_clear shape form each s.0 s.1 s.2 only (λ at. refl) 2 enough (let f = c.if-parts-gt3.false in omega (arith, count, f)) clear2
