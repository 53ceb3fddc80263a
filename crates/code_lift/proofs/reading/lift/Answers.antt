use Rattle.std.proofs.Common.{◌≡◌, ◌-◌, ◌≤◌, ◌++◌, ◌∙◌, length, map, sym, ap, ap₂, subst, arith, drop, take, Some}
use Rattle.std.specs.Prelude.{IfSome}
use Rattle.std.proofs.lemmas.Result.{err_from_is_err_and}
use Rattle.text_core.specs.Faults.{IsFaultBy}
use Rattle.text_core.specs.declared.faults.Kind.TheVariants.{BadForm}
use Rattle.forms.specs.Forms.{parts_of, place_of, sexp_form, sexp_forms}
use Rattle.forms.proofs.Told.{told, told_as, told_of_part}
use Rattle.goal_reader.specs.Roles as goal_roles
use Rattle.goal_reader.specs.Roles.{IsFaultAs}
use Rattle.goal_reader.proofs.NewNames.{count_form, nth_part}
use Rattle.code_lift.specs.LiftGrammar.{WritesLiftPool}
use Rattle.code_lift.specs.LiftReading.{AreOutRegisters, ArePoolRegisters, IsFirstBehindOut, IsFirstInLift}
use Rattle.code_lift.specs.LiftRoles as roles
use Rattle.code_lift.specs.LiftRoles.{IsLiftFaultAs}
use Rattle.code_lift.specs.Lifted.{inputs_read, lifted}
use Rattle.code_lift.specs.LiftingView.{lifting_view}
use Rattle.code_lift.specs.Views.{lift_view, names_of_lifts}
use Rattle.code_lift.proofs.LiftForms.{last_part_first, lift_writes, lifted_is, name_part_first, out_part_first, short_first, words_part_first}
use Rattle.code_lift.proofs.SliceForms.{parts_left, sexps_left}
use Rattle.code_lift.proofs.reading.lift.Goals as goal

pub returns-then-parts-lt4-clause-fault : goal.returns-then-parts-lt4-clause-fault
returns-then-parts-lt4-clause-fault c =
    let text = c.args.text.now in
    let form = sexp_form text c.args.form.now in
    let names = names_of_lifts (map lift_view c.args.before.now) in
    let parts = c.in-Some.parts.now in
    let is = c.in-Some.ensures.parts text in
    let count = count_form text form (place_of form) parts is in
    let s = c.sexps_are_forms.ensures.stands text c.args.form.now c.requires.of in
    let few = c.if-parts-lt4.true in
    told (IsLiftFaultAs (roles.a_lift names) form) c.at.result c.place.result (place_of form) BadForm c.at.ensures (c.place.ensures text)
    (short_first names form s.0 s.1 s.2 (omega (arith, few, count)))

pub returns-in_err-bytes-clause-fault : goal.returns-in_err-bytes-clause-fault
returns-in_err-bytes-clause-fault c =
    let p = err_from_is_err_and c.from_residual.result c.from_residual.ensures.1 in
    let text = c.args.text.now in
    let form = sexp_form text c.args.form.now in
    let names = names_of_lifts (map lift_view c.args.before.now) in
    let parts = c.in-Some.parts.now in
    let is = c.in-Some.ensures.parts text in
    let count = count_form text form (place_of form) parts is in
    let s = c.sexps_are_forms.ensures.stands text c.args.form.now c.requires.of in
    let many = c.if-parts-lt4.false in
    let enough : 4 ≤ length (parts_of form) = omega (arith, count, many) in
    let first = sexp_form text c.index-parts-1.result in
    let g1 = nth_part text form (place_of form) parts 1 c.index-parts-1.result is (omega (arith, many)) c.index-parts-1.is in
    rw (p.1, p.2)
    (told_of_part (IsFaultAs (goal_roles.fresh_name names) first) (IsLiftFaultAs (roles.a_lift names) form)
    (λ k kind one. name_part_first names form enough first g1 s.0 s.1 k kind s.2 one)
    c.in_err-bytes.field-0.0 c.in_err-bytes.ensures.fault)

pub returns-in_err-words-clause-fault : goal.returns-in_err-words-clause-fault
returns-in_err-words-clause-fault c =
    let p = err_from_is_err_and c.from_residual-in_err-words.result c.from_residual-in_err-words.ensures.1 in
    let text = c.args.text.now in
    let form = sexp_form text c.args.form.now in
    let names = names_of_lifts (map lift_view c.args.before.now) in
    let parts = c.in-Some.parts.now in
    let is = c.in-Some.ensures.parts text in
    let count = count_form text form (place_of form) parts is in
    let s = c.sexps_are_forms.ensures.stands text c.args.form.now c.requires.of in
    let many = c.if-parts-lt4.false in
    let enough : 4 ≤ length (parts_of form) = omega (arith, count, many) in
    let first = sexp_form text c.index-parts-1.result in
    let g1 = nth_part text form (place_of form) parts 1 c.index-parts-1.result is (omega (arith, many)) c.index-parts-1.is in
    let named = c.in_ok-bytes.ensures.named in
    let fresh = c.in_ok-bytes.ensures.fresh in
    let second = sexp_form text c.index-parts-2.result in
    let g2 = nth_part text form (place_of form) parts 2 c.index-parts-2.result is (omega (arith, many)) c.index-parts-2.is in
    rw (p.1, p.2)
    (told_of_part (IsLiftFaultAs roles.word_list second) (IsLiftFaultAs (roles.a_lift names) form)
    (λ k kind one. words_part_first names form enough first g1 c.in_ok-bytes.bytes.now named fresh second g2 s.0 s.1 k kind s.2 one)
    c.in_err-words.field-0.0 c.in_err-words.ensures.fault)

pub returns-in_err-out-clause-fault : goal.returns-in_err-out-clause-fault
returns-in_err-out-clause-fault c =
    let p = err_from_is_err_and c.from_residual-in_err-out.result c.from_residual-in_err-out.ensures.1 in
    let text = c.args.text.now in
    let form = sexp_form text c.args.form.now in
    let names = names_of_lifts (map lift_view c.args.before.now) in
    let parts = c.in-Some.parts.now in
    let is = c.in-Some.ensures.parts text in
    let count = count_form text form (place_of form) parts is in
    let s = c.sexps_are_forms.ensures.stands text c.args.form.now c.requires.of in
    let many = c.if-parts-lt4.false in
    let enough : 4 ≤ length (parts_of form) = omega (arith, count, many) in
    let first = sexp_form text c.index-parts-1.result in
    let g1 = nth_part text form (place_of form) parts 1 c.index-parts-1.result is (omega (arith, many)) c.index-parts-1.is in
    let named = c.in_ok-bytes.ensures.named in
    let fresh = c.in_ok-bytes.ensures.fresh in
    let second = sexp_form text c.index-parts-2.result in
    let g2 = nth_part text form (place_of form) parts 2 c.index-parts-2.result is (omega (arith, many)) c.index-parts-2.is in
    let words = c.in_ok-words.words in
    let are = c.in_ok-words.ensures.words in
    let known = c.in_ok-words.ensures.behind in
    let third = sexp_form text c.index-parts-3.result in
    let g3 = nth_part text form (place_of form) parts 3 c.index-parts-3.result is (omega (arith, many)) c.index-parts-3.is in
    rw (p.1, p.2)
    (told_of_part (IsLiftFaultAs (roles.out_role (parts_of second) third) third) (IsLiftFaultAs (roles.a_lift names) form)
    (λ k kind one. out_part_first names form enough first g1 c.in_ok-bytes.bytes.now named fresh second g2 words are third g3 s.0 s.1 k kind s.2 one)
    c.in_err-out.field-0.0 (c.in_err-out.ensures.fault (parts_of second) (known ∙ sym (lifted_is second words are.writes))))

pub last_parts-requires : goal.last_parts-requires
last_parts-requires c = record { of = sexps_left c.args.text.now 4 c.in-Some.parts.now (c.in-Some.ensures.of c.args.text.now c.requires.of) }

pub returns-in_err-pool-clause-fault : goal.returns-in_err-pool-clause-fault
returns-in_err-pool-clause-fault c =
    let p = err_from_is_err_and c.from_residual-in_err-pool.result c.from_residual-in_err-pool.ensures.1 in
    let text = c.args.text.now in
    let form = sexp_form text c.args.form.now in
    let names = names_of_lifts (map lift_view c.args.before.now) in
    let parts = c.in-Some.parts.now in
    let is = c.in-Some.ensures.parts text in
    let count = count_form text form (place_of form) parts is in
    let s = c.sexps_are_forms.ensures.stands text c.args.form.now c.requires.of in
    let many = c.if-parts-lt4.false in
    let enough : 4 ≤ length (parts_of form) = omega (arith, count, many) in
    let first = sexp_form text c.index-parts-1.result in
    let g1 = nth_part text form (place_of form) parts 1 c.index-parts-1.result is (omega (arith, many)) c.index-parts-1.is in
    let named = c.in_ok-bytes.ensures.named in
    let fresh = c.in_ok-bytes.ensures.fresh in
    let second = sexp_form text c.index-parts-2.result in
    let g2 = nth_part text form (place_of form) parts 2 c.index-parts-2.result is (omega (arith, many)) c.index-parts-2.is in
    let words = c.in_ok-words.words in
    let are = c.in_ok-words.ensures.words in
    let known = c.in_ok-words.ensures.behind in
    let third = sexp_form text c.index-parts-3.result in
    let g3 = nth_part text form (place_of form) parts 3 c.index-parts-3.result is (omega (arith, many)) c.index-parts-3.is in
    let out = c.in_ok-out.out in
    let outs = subst (λ s. AreOutRegisters s third out) known c.in_ok-out.ensures.out in
    let taken : inputs_read (lifting_view c.in_ok-words.lifting) ++ c.as_slice.result.now ≡ inputs_read (lifted words) ++ out = ap₂ (λ s rs. inputs_read s ++ rs) known c.as_slice.ensures in
    let rest = parts_left text 4 form (place_of form) parts is in
    rw (p.1, p.2)
    (told_as (IsFirstBehindOut (inputs_read (lifted words) ++ out) (drop 4 (parts_of form))) (IsFirstInLift (roles.a_lift names) form)
    (λ k kind one. last_part_first names form enough first g1 c.in_ok-bytes.bytes.now named fresh second g2 words are third g3 out outs s.0 s.1 k kind s.2 one)
    c.in_err-pool.field-0.0
    (subst (λ fs. IsFaultBy (IsFirstBehindOut (inputs_read (lifted words) ++ out) fs) c.in_err-pool.field-0.0) rest
    (subst (λ rs. IsFaultBy (IsFirstBehindOut rs (sexp_forms text (take (length parts - 4) (drop 4 parts)))) c.in_err-pool.field-0.0) taken c.in_err-pool.ensures.fault)))

pub returns-clause-lift : goal.returns-clause-lift
returns-clause-lift c =
    let text = c.args.text.now in
    let form = sexp_form text c.args.form.now in
    let names = names_of_lifts (map lift_view c.args.before.now) in
    let parts = c.in-Some.parts.now in
    let is = c.in-Some.ensures.parts text in
    let count = count_form text form (place_of form) parts is in
    let many = c.if-parts-lt4.false in
    let enough : 4 ≤ length (parts_of form) = omega (arith, count, many) in
    let first = sexp_form text c.index-parts-1.result in
    let g1 = nth_part text form (place_of form) parts 1 c.index-parts-1.result is (omega (arith, many)) c.index-parts-1.is in
    let named = c.in_ok-bytes.ensures.named in
    let fresh = c.in_ok-bytes.ensures.fresh in
    let second = sexp_form text c.index-parts-2.result in
    let g2 = nth_part text form (place_of form) parts 2 c.index-parts-2.result is (omega (arith, many)) c.index-parts-2.is in
    let words = c.in_ok-words.words in
    let are = c.in_ok-words.ensures.words in
    let known = c.in_ok-words.ensures.behind in
    let third = sexp_form text c.index-parts-3.result in
    let g3 = nth_part text form (place_of form) parts 3 c.index-parts-3.result is (omega (arith, many)) c.index-parts-3.is in
    let out = c.in_ok-out.out in
    let outs = subst (λ s. AreOutRegisters s third out) known c.in_ok-out.ensures.out in
    let taken : inputs_read (lifting_view c.in_ok-words.lifting) ++ c.as_slice.result.now ≡ inputs_read (lifted words) ++ out = ap₂ (λ s rs. inputs_read s ++ rs) known c.as_slice.ensures in
    let rest = parts_left text 4 form (place_of form) parts is in
    lift_writes form (lift_view (record { name = c.in_ok-name.name; words = words; out = out; pool = c.in_ok-pool.pool })) c.requires.head (record {
      first = first;
      second = second;
      third = third;
      first_there = g1;
      second_there = g2;
      third_there = g3;
      named = named ∙ ap Some (sym c.in_ok-name.ensures);
      words = are;
      out = outs;
      pool = subst (λ fs. WritesLiftPool fs c.in_ok-pool.pool) rest c.in_ok-pool.ensures.pool;
      apart = subst (λ rs. IfSome c.in_ok-pool.pool (ArePoolRegisters rs)) taken c.in_ok-pool.ensures.apart;
    })
