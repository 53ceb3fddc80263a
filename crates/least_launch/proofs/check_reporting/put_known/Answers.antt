use Rattle.std.proofs.Common.{◌≡◌, ℕ, [], ◌∷◌, ◌++◌, List, codes, decimal, subst}
use Rattle.answer_check.specs.Reports.{claim_words}
use Rattle.least_launch.proofs.Pieced.{ok_weaker, one_behind, then_words, whole_line}
use Rattle.least_launch.proofs.check_reporting.put_known.Goals as goal

pub returns : goal.returns
returns c =
    let begun = c.put.new.text.items in
    let name = c.args.goal.now.name in
    let claim = claim_words c.args.goal.now.claim in
    let known = c.args.word.now ∷ decimal c.args.launches ∷ [] in
    let named = subst (λ (n : List ℕ). c.put_word.new.text.items ≡ c.put.new.text.items ++ (codes " " ++ n))
    c.bytes.ensures
    c.in_ok-put_word.ensures in
    ok_weaker c.put-2.result
    (whole_line c.args.text.now.items (codes "ok") (name ∷ (claim ++ known)) begun c.put_counted.new.text.items
    c.put-2.new.text.items c.in_ok-put.ensures
    (then_words begun (name ∷ claim) known c.put_claim.new.text.items c.put_counted.new.text.items
    (then_words begun (name ∷ []) claim c.put_word.new.text.items c.put_claim.new.text.items
    (one_behind begun name c.put_word.new.text.items named) c.in_ok-put_claim.ensures)
    c.in_ok-put_counted.ensures))
    c.put-2.ensures
