use Rattle.std.proofs.Common.{◌∙◌, ◌<◌, ◌^◌, List, ℕ, ap, refl, subst, sym, arith}
use Rattle.std.specs.Prelude.{All}
use Rattle.register_assign.specs.Assigned.{HaveWords}
use Rattle.register_assign.specs.Outcomes.{AreWordsOf}
use Rattle.register_assign.specs.declared.listings.Item.{Item}
use Rattle.least_launch.specs.LeastAnswers.{said_by}
use Rattle.least_launch.proofs.solving.lessened.Goals as goal

pub words_of-requires : goal.words_of-requires
words_of-requires c = subst (λ (xs : List Item). HaveWords xs) (sym c.as_slice.ensures) c.in_ok-fewest.ensures.words

pub overflow_cast-launches : goal.overflow_cast-launches
overflow_cast-launches c =
    let f = c.args.found in
    let few = c.fitting_schedules_are_small.ensures.few f.matched.graph c.args.table.now c.args.allocation f.k
    c.in_ok-fewest.fewest.schedule.launches c.requires.table c.in_ok-fewest.ensures.fewest.fits in
    let cycles = c.requires.can.few in
    let size = c.len-launches.ensures in
    omega (arith, few, cycles, size)

pub returns : goal.returns
returns c =
    let fewest = c.in_ok-fewest.fewest in
    let promised = c.in_ok-fewest.ensures.fewest in
    let decode = subst (λ (xs : List Item). AreWordsOf xs c.in_ok-words.words.items) c.as_slice.ensures
    c.in_ok-words.ensures.decode in
    record {
      is = refl;
      fits = promised.fits;
      listing = promised.listing;
      words = subst (λ (ws : List ℕ). AreWordsOf c.in_ok-fewest.fewest.listing.items ws) (sym c.from.ensures) decode;
      low = subst (λ (ws : List ℕ). All (λ word. word < 2 ^ 32) ws) (sym c.from.ensures) c.in_ok-words.ensures.low;
      keeps = c.in_ok-fewest.ensures.keeps;
      said = record {
        proof = fewest.proof;
        is_proof = promised.proof;
        said = c.said_by.ensures ∙ ap (λ n. said_by n c.in_ok-fewest.fewest.proof) c.len-launches.ensures;
      };
    }
