use Rattle.std.proofs.Common.{◌∙◌, ◌<◌, ap, refl, arith, List, Option, ℕ, length}
use Rattle.std.specs.Option.{option_or}
use Rattle.std.proofs.lemmas.List.{drop_all, length-set}
use Rattle.graph_meaning.specs.Graphs.{constant_among}
use Rattle.graph_meaning.proofs.Gathered.{all_constants, more_constants}
use Rattle.graph_meaning.proofs.Raises.{below_at}
use Rattle.graph_meaning.proofs.powers.constants.Goals as goal

pub loop-row-init : goal.loop-row-init
loop-row-init c =
    record {
      size = c.in_ok-constants.ensures.size;
      each = λ class l. ap (λ o. option_or o (constant_among c.args.rows.now class))
          (c.in_ok-constants.ensures.each class);
    }

pub loop-row-preserved : goal.loop-row-preserved
loop-row-preserved c =
    let v = c.loop-row.invariant in
    let ks = c.loop-row.constants.items in
    let new = c.note_constant.new.constants.items in
    let row = c.row-item.result in
    let i = c.loop-row.row-index in
    let e = c.note_constant.ensures in
    let below = below_at c.args.rows.now c.args.classes c.args.classes i row refl c.row-item.is c.loop-row-test.true
    c.requires.below in
    let low : row.class < length ks = (let a = below.0 in let b = v.size in omega arith) in
    record {
      size = ap (λ (xs : List (Option ℕ)). length xs) e ∙ length-set ks row.class _ ∙ v.size;
      each = λ class l.
          more_constants c.args.rows.now ks new i class row c.loop-row-test.true c.row-item.is low e (v.each class l);
    }

pub returns : goal.returns
returns c =
    let v = c.loop-row.invariant in
    let i = c.loop-row.row-index in
    record {
      size = v.size;
      each = λ class l.
          all_constants c.args.rows.now c.loop-row.constants.items i class
          (drop_all i c.args.rows.now c.loop-row-test.false)
          (v.each class l);
    }
