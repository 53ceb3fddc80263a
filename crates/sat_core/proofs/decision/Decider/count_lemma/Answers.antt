use Rattle.std.proofs.Common.{◌≡◌, ℕ, ◌+◌, ◌-◌, ◌^◌, ◌<◌, length, min, set, get_or, take, sym, ap, ◌∙◌, subst, arith}
use Rattle.std.proofs.lemmas.List.{get_or_read, length-set}
use Rattle.pick_rule.specs.declared.pick.Pick.TheVariants.{First, Last, Busy}
use Rattle.sat_core.specs.Picks.{has_var, next_score, IsCounting}
use Rattle.sat_core.specs.Watches.{no_literal}
use Rattle.sat_core.proofs.Scoring.{counted-more}
use Rattle.sat_core.proofs.decision.Decider.count_lemma.Goals as goal

pub loop-lit-preserved : goal.loop-lit-preserved
loop-lit-preserved c =
    let lemma = c.args.lemma.now in
    let i = c.loop-lit.lit-index in
    let h = c.loop-lit.invariant in
    let now = c.loop-lit.self.scores.items in
    let old = c.args.self.now.scores.items in
    let few = c.loop-lit-test.true in
    let v = (get_or lemma i no_literal).var in
    let at = c.requires.exist i no_literal few in
    let low = at.above in
    let high = at.within in
    let size = h.size in
    let within' : v - 1 < length now = omega arith in
    let read = get_or_read now (v - 1) c.index-score.result.now within' c.index-score.ensures 0 in
    let next : c.saturating_add.result ≡ min (get_or now (v - 1) 0 + 1) (2 ^ 64 - 1) = c.saturating_add.ensures ∙ ap (λ (m : ℕ). min (m + 1) (2 ^ 64 - 1)) read in
    let is-new : c.rescore.new.self.scores.items ≡ set now (v - 1) (min (get_or now (v - 1) 0 + 1) (2 ^ 64 - 1)) = c.rescore.ensures.scores ∙ ap (λ (m : ℕ). set now (v - 1) m) next in
    let busy : c.loop-lit.self.pick ≡ Busy = h.pick ∙ c.requires.pick in
    let counting : IsCounting c.loop-lit.self.pick = ((λ first. first≢busy (sym first ∙ busy)), (λ last. last≢busy (sym last ∙ busy))) in
    record {
      pick = c.rescore.ensures.pick ∙ h.pick;
      size = ap length c.rescore.ensures.scores ∙ length-set now (v - 1) c.saturating_add.result ∙ size;
      players = c.rescore.ensures.players ∙ h.players;
      offers = λ values before. c.rescore.ensures.offers counting values (h.offers values before);
      counts = λ x low' high'.
          subst (λ xs. get_or xs (x - 1) 0 ≡ next_score (has_var (take (i + 1) lemma) x) (get_or old (x - 1) 0)) (sym is-new)
          (counted-more old now lemma i (length old) no_literal c.requires.differ few size low high h.counts x low' high');
    }
  where
    first≢busy : First ≡ Busy → ⊥
    first≢busy e = cc

    last≢busy : Last ≡ Busy → ⊥
    last≢busy e = cc
