use Rattle.std.proofs.Common.{rules, ◌≡◌, ◌∷◌, ◌++◌, ◌+◌, ◌<◌, ◌^◌, ◌∙◌, [], All, length, take, sym, subst}
use Rattle.std.proofs.lemmas.List.Elements.{All-push}
use Rattle.register_assign.specs.Outcomes.{AreWordsOf}
use Rattle.register_assign.proofs.WordByWord.{words_more, encoded_more}
use Rattle.register_assign.proofs.worded.words_of.Goals as goal

-- src/worded.rt:21:5
pub loop-item-preserved : goal.loop-item-preserved
loop-item-preserved c =
    let items = c.args.items.now in
    let words = c.loop-item.words.items in
    let i = c.loop-item.item-index in
    let w = c.encode.result in
    let inside : i < length items = search rules in
    let low : w < 2 ^ 32 = search rules in
    let kept = c.loop-item.invariant in
    let pushed : c.push.new.self.items ≡ words ++ w ∷ [] = c.in_ok-push.ensures.items in
    let more = words_more items words i w _ inside kept.0 c.encode.ensures.back in (
      subst (AreWordsOf (take (i + 1) items)) (sym pushed) more,
      pushed ∙ encoded_more items words i w _ inside kept.1 c.encode.ensures.word,
      subst (All (λ v. v < 2 ^ 32)) (sym pushed) (All-push (λ v. v < 2 ^ 32) words w kept.2 low),
    )
