use Rattle.std.proofs.Common.{◌≡◌, ◌≢◌, ◌∙◌, ◌∷◌, [], ap, refl, sym, subst, inl, inr, true, false}
use Rattle.std.specs.Prelude.{if◌then◌else◌}
use Rattle.std.proofs.lemmas.Bool.Decides.{eqb_tells}
use Rattle.std.proofs.lemmas.Result.{IfOk-weaker}
use Rattle.word_ops.specs.Operates.{row_of}
use Rattle.word_ops.specs.declared.operators.WordOp.TheVariants.{Operate}
use Rattle.word_ops.specs.declared.sorts.Op.TheVariants.{Word}
use Rattle.word_ops.specs.declared.sorts.Sort.TheVariants as sorts
use Rattle.word_terms.specs.Building.{o1, o2}
use Rattle.alpha_encode.specs.Codes.{is_unary}
use Rattle.code_check.specs.Terms.{second_term}
use Rattle.code_check.specs.Classes.{IsTermInserted, IsRowInserted}
use Rattle.code_check.proofs.Built.{are_later, over_one, over_two, two_sorted}
use Rattle.code_check.proofs.inserting.operate_class.Goals as goal

pub returns-then-arity-eq1-clause-built : goal.returns-then-arity-eq1-clause-built
returns-then-arity-eq1-clause-built c =
    let old = c.args.graph.now in
    let mid = c.second_class.new.graph in
    let new = c.insert_row.new.graph in
    let op = c.args.op in
    let one : (row_of op).arity ≡ 1 = sym c.arity.ensures ∙ c.if-arity-eq1.true in
    IfOk-weaker c.insert_row.result (λ k. IsRowInserted mid (Word (Operate op)) (c.in_ok-operand.operand ∷ []) k new) _
    (λ k h ts memory are.
    let t = ts.registers c.args.ra in
    let u = second_term c.args.second ts.registers in
    let unary : is_unary op ≡ true = elim (eqb_tells (row_of op).arity 1) [ inl e ↦ e.0 | inr e ↦ absurd (e.1 one) ] in
    subst (λ t. IsTermInserted old sorts.Word t k new) (sym (ap (λ b. if b then o1 op u else o2 op t u) unary))
    (over_one old mid new (Word (Operate op)) sorts.Word sorts.Word u c.in_ok-operand.operand k refl (c.in_ok-operand.ensures.built ts memory are) h)) c.insert_row.ensures.row

pub insert_row-requires-2-clause-sorts : goal.insert_row-requires-2-clause-sorts
insert_row-requires-2-clause-sorts c =
    let old = c.args.graph.now in
    let mid = c.register_class.new.graph in
    let memory = c.requires.terms.0 in
    let ts = c.requires.terms.1.0 in
    let are = c.requires.terms.1.1 in
    let first = c.in_ok-first.ensures.built ts memory are in
    let second = c.in_ok-operand-2.ensures.built ts memory (are_later c.more_terms_may_be_inserted.ensures.others old mid c.args.classes.now memory ts sorts.Word (ts.registers c.args.ra) c.in_ok-first.first first are) in
    two_sorted c.second_class-2.new.graph (λ n. sorts.Word) c.in_ok-first.first c.in_ok-operand-2.operand
    (second.keeps c.in_ok-first.first sorts.Word first.of_sort) second.of_sort

pub returns-clause-built : goal.returns-clause-built
returns-clause-built c =
    let old = c.args.graph.now in
    let mid = c.register_class.new.graph in
    let late = c.second_class-2.new.graph in
    let new = c.insert_row-2.new.graph in
    let op = c.args.op in
    let not_one : (row_of op).arity ≢ 1 = λ e. c.if-arity-eq1.false (c.arity.ensures ∙ e) in
    IfOk-weaker c.insert_row-2.result (λ k. IsRowInserted late (Word (Operate op)) (c.in_ok-first.first ∷ c.in_ok-operand-2.operand ∷ []) k new) _
    (λ k h ts memory are.
    let t = ts.registers c.args.ra in
    let u = second_term c.args.second ts.registers in
    let binary : is_unary op ≡ false = elim (eqb_tells (row_of op).arity 1) [ inl e ↦ absurd (not_one e.1) | inr e ↦ e.0 ] in
    let first = c.in_ok-first.ensures.built ts memory are in
    let second = c.in_ok-operand-2.ensures.built ts memory (are_later c.more_terms_may_be_inserted.ensures.others old mid c.args.classes.now memory ts sorts.Word t c.in_ok-first.first first are) in
    subst (λ t. IsTermInserted old sorts.Word t k new) (sym (ap (λ b. if b then o1 op u else o2 op t u) binary))
    (over_two old mid late new (Word (Operate op)) sorts.Word sorts.Word sorts.Word t u c.in_ok-first.first c.in_ok-operand-2.operand k refl first second h)) c.insert_row-2.ensures.row
