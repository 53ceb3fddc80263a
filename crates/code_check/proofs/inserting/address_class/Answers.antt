use Rattle.std.proofs.Common.{ℕ, ap, sym, subst, inl, inr}
use Rattle.std.specs.Prelude.{if◌then◌else◌}
use Rattle.std.proofs.lemmas.Bool.Decides.{eqb_tells}
use Rattle.std.proofs.lemmas.Result.{IfOk-weaker}
use Rattle.word_ops.specs.declared.operators.WordOp.TheVariants as ops
use Rattle.word_ops.specs.declared.sorts.Sort.TheVariants as sorts
use Rattle.word_terms.specs.Building.{constant, w2}
use Rattle.code_check.specs.Terms.{TermState}
use Rattle.code_check.specs.Classes.{IsTermInserted, AreClassesOf}
use Rattle.code_check.proofs.inserting.address_class.Goals as goal

pub returns-then-n-eq0-clause-built : goal.returns-then-n-eq0-clause-built
returns-then-n-eq0-clause-built c =
    let old = c.args.graph.now in
    let new = c.register_class.new.graph in
    IfOk-weaker c.register_class.result (λ k. (ts : TermState) (memory : ℕ) → AreClassesOf old c.args.classes.now memory ts → IsTermInserted old sorts.Word (ts.registers c.args.rb) k new) _
    (λ k h ts memory are.
    elim (eqb_tells c.args.n 0) [
      | inl e ↦ subst (λ t. IsTermInserted old sorts.Word t k new) (sym (ap (λ b. if b then ts.registers c.args.rb else w2 ops.Lda (ts.registers c.args.rb) (constant c.args.n)) e.0)) (h ts memory are)
      | inr e ↦ absurd (e.1 c.if-n-eq0.true)
    ]) c.register_class.ensures.built

pub returns-clause-built : goal.returns-clause-built
returns-clause-built c =
    let old = c.args.graph.now in
    let new = c.displaced_class.new.graph in
    IfOk-weaker c.displaced_class.result (λ k. (ts : TermState) (memory : ℕ) → AreClassesOf old c.args.classes.now memory ts → IsTermInserted old sorts.Word (w2 ops.Lda (ts.registers c.args.rb) (constant c.args.n)) k new) _
    (λ k h ts memory are.
    elim (eqb_tells c.args.n 0) [
      | inl e ↦ absurd (c.if-n-eq0.false e.1)
      | inr e ↦ subst (λ t. IsTermInserted old sorts.Word t k new) (sym (ap (λ b. if b then ts.registers c.args.rb else w2 ops.Lda (ts.registers c.args.rb) (constant c.args.n)) e.0)) (h ts memory are)
    ]) c.displaced_class.ensures.built
