use Rattle.std.proofs.Common.{◌≡◌, ℕ, ◌-◌, List, length, take, rules, refl, sym, subst, false, ◌∙◌, inr}
use Rattle.std.specs.Prelude.{slice_index}
use Rattle.std.proofs.lemmas.Bool.{false≢true}
use Rattle.cnf_core.specs.Refutation.{known_clauses, clause_at, negations, Reaches}
use Rattle.refutation_check.proofs.Following.{no-hints, not-ends}
use Rattle.refutation_check.proofs.hints.conflict.Goals as goal

pub returns-then-count-eq0-clause-err : goal.returns-then-count-eq0-clause-err
returns-then-count-eq0-clause-err c =
    let h = no-hints c.args.cnf.now c.args.earlier.now c.args.line.now (search rules) in
    inr (refl, h.0, h.1)

pub returns-then-not-is_false_clause-clause-err : goal.returns-then-not-is_false_clause-clause-err
returns-then-not-is_false_clause-clause-err c =
    let clauses = known_clauses c.args.cnf.now.clauses c.args.earlier.now in
    let s = negations c.args.line.now.lits in
    let hints = c.args.line.now.hints in
    let (t, way, shows) = c.if-not-follow.ensures.led s c.requires.shows in
    let same = c.as_slice-hints.ensures in
    let way' : Reaches clauses s (take (length hints - 1) hints) t = subst (λ (xs : List ℕ). Reaches clauses s (take (length xs - 1) xs) t) same way in
    let is = subst (λ (xs : List ℕ). c.named.result.now ≡ clause_at clauses (slice_index xs (length xs - 1))) same c.named.ensures.value in
    let fails : c.is_false_clause.result ≡ false = search rules in
    let h = not-ends c.args.cnf.now c.args.earlier.now c.args.line.now c.args.number c.follow.new.marks c.named.result.now t way' shows (search rules) is c.named.ensures.exist
    (λ f. false≢true (sym fails ∙ c.is_false_clause.ensures.1 f)) in
    inr (refl, h.0, h.1)
