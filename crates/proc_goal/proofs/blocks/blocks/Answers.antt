use Rattle.std.proofs.Common.{◌≡◌, ◌≢◌, ◌≤◌, ◌<◌, ◌+◌, ◌++◌, ℕ, List, [], ◌∷◌, Some, codes, length, map, take, true, false, sym, ◌∙◌, ap, refl, subst, arith, slice_get, length-append}
use Rattle.std.specs.Prelude.{AllPairs}
use Rattle.std.proofs.lemmas.List.{length-map, length-take-le, map-append, take_all}
use Rattle.std.proofs.lemmas.List.Quantifiers.{all_pairs_push}
use Rattle.std.proofs.lemmas.Option.{same_Some}
use Rattle.std.proofs.lemmas.Result.{err_from_is_err_and}
use Rattle.text_core.specs.Faults.{IsFaultBy, IsFirst}
use Rattle.text_core.specs.declared.faults.Kind.TheVariants.{BadForm, LimitPassed}
use Rattle.forms.specs.Forms.{Form, place_of, sexp_form, sexp_forms}
use Rattle.forms.proofs.Told.{told, told_as}
use Rattle.goal_reader.proofs.Different.{among_apart, pairs_nil}
use Rattle.goal_reader.proofs.Fixed.{got_within}
use Rattle.goal_reader.proofs.GoalSteps.{mapped_more}
use Rattle.goal_reader.proofs.NewNames.{part_of}
use Rattle.goal_reader.proofs.TextEnd.{nth_form}
use Rattle.machine_table.specs.Grammar as grammar
use Rattle.machine_table.specs.Grammar.{Each}
use Rattle.machine_table.specs.Roles.{has_head}
use Rattle.goal_meaning.specs.Views.{TargetTree, target_view}
use Rattle.proc_goal.specs.ProcGrammar.{WritesBlock}
use Rattle.proc_goal.specs.ProcReading.{AreClearTo, HaveOwnNames, IsClearProc, IsFirstAmong, IsFirstAs}
use Rattle.proc_goal.specs.ProcRoles as roles
use Rattle.proc_goal.specs.ProcRoles.{IsProcFaultAs, proc_item_role}
use Rattle.proc_goal.specs.Views.{BlockTree, block_view, names_of_blocks}
use Rattle.proc_goal.specs.declared.procs.Block.{Block}
use Rattle.text_core.specs.Names.{is_among}
use Rattle.proc_goal.proofs.BlockSteps.{beyond_first, block_first, block_item_clear, block_item_more, more_blocks, no_blocks, other_first}
use Rattle.proc_goal.proofs.Sequences.{after, none_clear}
use Rattle.proc_goal.proofs.blocks.blocks.Goals as goal

pub loop-index-init : goal.loop-index-init
loop-index-init c =
    let vars = c.args.vars.now in
    let names = c.args.names.now in
    let items = sexp_forms c.args.text.now c.args.items.now in
    let empty = c.new-blocks.ensures in
    record {
      count = ap length empty;
      within = omega arith;
      each = subst (λ bs. Each (WritesBlock vars names) [] (map block_view bs)) (sym empty) grammar.none;
      clear = λ front is. none_clear (after front (proc_item_role names)) items;
      own = subst (λ bs. HaveOwnNames (map block_view bs)) (sym empty) no_blocks;
    }

pub block-requires-clause-head : goal.block-requires-clause-head
block-requires-clause-head c = sym c.has_head.ensures ∙ c.if-not-has_head.false

pub returns-then-not-has_head-clause-fault : goal.returns-then-not-has_head-clause-fault
returns-then-not-has_head-clause-fault c = λ front is.
    let text = c.args.text.now in
    let items = sexp_forms text c.args.items.now in
    let i = c.loop-index.index in
    let inv = c.loop-index.invariant in
    let form = sexp_form text c.index-items-index.result in
    let g = nth_form text c.args.items.now i c.index-items-index.result c.loop-index-test.true c.index-items-index.is in
    let total = length-map c.args.items.now (sexp_form text) in
    let below = c.loop-index-test.true in
    let counted : length (take i items) ≡ i = length-take-le i items (omega (arith, total, below)) in
    let of = c.sexps_are_forms.ensures.stands text c.index-items-index.result (part_of text c.args.items.now i c.index-items-index.result c.requires.of c.loop-index-test.true c.index-items-index.is) in
    let vars = c.args.vars.now in
    let names = c.args.names.now in
    let R = after front (proc_item_role names) in
    let one = other_first vars names items i form g (map block_view c.loop-index.blocks) inv.each counted front is (inv.clear front is) of.0 of.1 of.2 (sym c.has_head.ensures ∙ c.if-not-has_head.true) in
    subst (λ f. IsFaultBy (IsFirstAmong R items) f) (sym c.at.ensures) (subst (λ p. IsFirstAmong R items p BadForm) (sym (c.place.ensures text)) one)

pub returns-then-index-ge-MOST_BLOCKS-clause-fault : goal.returns-then-index-ge-MOST_BLOCKS-clause-fault
returns-then-index-ge-MOST_BLOCKS-clause-fault c = λ front is.
    let text = c.args.text.now in
    let items = sexp_forms text c.args.items.now in
    let i = c.loop-index.index in
    let inv = c.loop-index.invariant in
    let form = sexp_form text c.index-items-index.result in
    let g = nth_form text c.args.items.now i c.index-items-index.result c.loop-index-test.true c.index-items-index.is in
    let total = length-map c.args.items.now (sexp_form text) in
    let below = c.loop-index-test.true in
    let counted : length (take i items) ≡ i = length-take-le i items (omega (arith, total, below)) in
    let of = c.sexps_are_forms.ensures.stands text c.index-items-index.result (part_of text c.args.items.now i c.index-items-index.result c.requires.of c.loop-index-test.true c.index-items-index.is) in
    let vars = c.args.vars.now in
    let names = c.args.names.now in
    let R = after front (proc_item_role names) in
    let one = beyond_first vars names items i form g (map block_view c.loop-index.blocks) inv.each counted front is (inv.clear front is) (sym c.has_head.ensures ∙ c.if-not-has_head.false) of.0 of.1 of.2 c.if-index-ge-MOST_BLOCKS.true in
    subst (λ f. IsFaultBy (IsFirstAmong R items) f) (sym c.at-then-index-ge-MOST_BLOCKS.ensures) (subst (λ p. IsFirstAmong R items p LimitPassed) (sym (c.place-then-index-ge-MOST_BLOCKS.ensures text)) one)

pub returns-in_err-one-clause-fault : goal.returns-in_err-one-clause-fault
returns-in_err-one-clause-fault c =
    let p = err_from_is_err_and c.from_residual.result c.from_residual.ensures.1 in
    let text = c.args.text.now in
    let items = sexp_forms text c.args.items.now in
    let i = c.loop-index.index in
    let inv = c.loop-index.invariant in
    let form = sexp_form text c.index-items-index.result in
    let g = nth_form text c.args.items.now i c.index-items-index.result c.loop-index-test.true c.index-items-index.is in
    let total = length-map c.args.items.now (sexp_form text) in
    let below = c.loop-index-test.true in
    let counted : length (take i items) ≡ i = length-take-le i items (omega (arith, total, below)) in
    let vars = c.args.vars.now in
    let names = c.args.names.now in
    let l = c.if-index-ge-MOST_BLOCKS.false in
    let bs = map block_view c.loop-index.blocks in
    rw (p.1, p.2)
    (λ front is. (told_as (IsFirst (IsProcFaultAs (roles.a_block vars names (names_of_blocks bs)) form)) (IsFirstAmong (after front (proc_item_role names)) items)
    (λ place kind one. block_first vars names items i form g bs inv.each counted front is (inv.clear front is) (sym c.has_head.ensures ∙ c.if-not-has_head.false) place kind (omega (arith, l)) one)
    c.in_err-one.field-0.0 (subst (λ xs. IsFaultBy (IsFirst (IsProcFaultAs (roles.a_block vars names (names_of_blocks (map block_view xs))) form)) c.in_err-one.field-0.0) c.as_slice.ensures c.in_err-one.ensures.fault)))

pub loop-index-preserved : goal.loop-index-preserved
loop-index-preserved c =
    let text = c.args.text.now in
    let items = sexp_forms text c.args.items.now in
    let i = c.loop-index.index in
    let inv = c.loop-index.invariant in
    let form = sexp_form text c.index-items-index.result in
    let g = nth_form text c.args.items.now i c.index-items-index.result c.loop-index-test.true c.index-items-index.is in
    let total = length-map c.args.items.now (sexp_form text) in
    let below = c.loop-index-test.true in
    let counted : length (take i items) ≡ i = length-take-le i items (omega (arith, total, below)) in
    let vars = c.args.vars.now in
    let names = c.args.names.now in
    let blocks = c.loop-index.blocks in
    let bs = map block_view blocks in
    let l = c.if-index-ge-MOST_BLOCKS.false in
    let one = c.in_ok-one.one in
    let clear = subst (λ xs. IsClearProc (roles.a_block vars names (names_of_blocks (map block_view xs))) form) c.as_slice.ensures c.in_ok-one.ensures.clear in
    let fresh = subst (λ xs. is_among (codes "done" ∷ names_of_blocks (map block_view xs)) one.name ≡ false) c.as_slice.ensures c.in_ok-one.ensures.fresh in
    let sets = c.in_ok-one.ensures.sets in
    let few_sets = sets.1 in
    let size = length-map one.sets target_view in
    let new = c.in_ok-push.ensures.ok in
    let view : map block_view c.push.new.self ≡ bs ++ block_view one ∷ [] = ap (map block_view) new ∙ mapped_more block_view blocks one in
    let count = inv.count in
    let longer = length-append blocks (one ∷ []) in
    let next : length (blocks ++ one ∷ []) ≡ i + 1 = omega (arith, longer, count) in
    let so_many = length-map blocks block_view in
    record {
      count = ap length new ∙ next;
      within = omega (arith, below);
      each = subst (λ xs. Each (WritesBlock vars names) (take (i + 1) items) xs) (sym view) (block_item_more vars names items i form g bs inv.each counted (block_view one) c.in_ok-one.ensures.block);
      clear = λ front is. block_item_clear vars names items i form g bs inv.each counted front is (inv.clear front is) (sym c.has_head.ensures ∙ c.if-not-has_head.false) (omega (arith, l)) clear;
      own = subst HaveOwnNames (sym view) (more_blocks bs (block_view one) inv.own fresh sets.0 (omega (arith, size, few_sets)) (omega (arith, so_many, count, l)));
    }

pub returns-clause-blocks : goal.returns-clause-blocks
returns-clause-blocks c =
    let text = c.args.text.now in
    let items = sexp_forms text c.args.items.now in
    let i = c.loop-index.index in
    let inv = c.loop-index.invariant in
    let vars = c.args.vars.now in
    let names = c.args.names.now in
    let blocks = c.loop-index.blocks in
    let total = length-map c.args.items.now (sexp_form text) in
    let above = c.loop-index-test.false in
    let in_all = inv.within in
    let same : i ≡ length items = omega (arith, total, above, in_all) in
    record {
      each = subst (λ fs. Each (WritesBlock vars names) fs (map block_view blocks)) (take_all i items (omega (arith, same))) inv.each;
      clear = λ front is. subst (λ m. AreClearTo (after front (proc_item_role names)) items m) same (inv.clear front is);
      own = inv.own;
    }
