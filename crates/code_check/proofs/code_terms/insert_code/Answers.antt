use Rattle.std.proofs.Common.{◌≡◌, ◌∙◌, ◌++◌, ap, None, Some, map, replicate, take, drop, refl, sym, subst}
use Rattle.alpha_encode.specs.Decoded.{decoded}
use Rattle.code_check.specs.Terms.{terms_after, terms_at_entry}
use Rattle.code_check.proofs.CodeTerms.{InsertsWords, classes_at_entry, code_inserted, entry_there, few_both, few_first, few_rest, first_code, rest_code, rest_of}
use Rattle.code_check.proofs.code_terms.insert_code.Goals as goal

pub unreachable-requires : goal.unreachable-requires
unreachable-requires c = let k = entry_there c.requires.goal.0 c.args.graph.now c.requires.goal.1 in c.in_default.ensures k.0 k.1

-- no register was written before the first word
pub insert_words-requires-clause-code : goal.insert_words-requires-clause-code
insert_words-requires-clause-code c =
    (take c.args.before c.requires.code.0, first_code c.args.words.now c.requires.code.0 c.requires.code.1 c.args.before)

pub insert_words-requires-clause-terms : goal.insert_words-requires-clause-terms
insert_words-requires-clause-terms c = (
  terms_at_entry,
  classes_at_entry c.args.graph.now c.requires.graph
      (λ r there. c.classes_have_one_sort.ensures.rows c.args.graph.now r c.requires.graph there) (replicate 32 None) c.in-Some.entry
      refl c.in-Some.ensures,
)

pub insert_words-requires-clause-few : goal.insert_words-requires-clause-few
insert_words-requires-clause-few c = few_first c.args.words.now c.args.before _ c.requires.within c.requires.few

pub insert_words-requires-2-clause-code : goal.insert_words-requires-2-clause-code
insert_words-requires-2-clause-code c =
    let words = c.args.words.now in
    let instrs = c.requires.code.0 in
    let n = c.args.before in (
      drop n instrs,
      subst (λ ws. map decoded ws ≡ map Some (drop n instrs)) (sym (rest_of words n)) (rest_code words instrs c.requires.code.1 n),
    )

pub insert_words-requires-2-clause-terms : goal.insert_words-requires-2-clause-terms
insert_words-requires-2-clause-terms c =
    let words = c.args.words.now in
    let instrs = c.requires.code.0 in
    let n = c.args.before in
    let first = classes_at_entry c.args.graph.now c.requires.graph
    (λ r there. c.classes_have_one_sort.ensures.rows c.args.graph.now r c.requires.graph there) (replicate 32 None) c.in-Some.entry
    refl c.in-Some.ensures in
    (terms_after n instrs, (c.in_ok-addresses.ensures.written (take n instrs) terms_at_entry (first_code words instrs c.requires.code.1 n) first).1)

pub insert_words-requires-2-clause-few : goal.insert_words-requires-2-clause-few
insert_words-requires-2-clause-few c =
    few_rest c.args.words.now c.args.before _ _ c.requires.within c.requires.few c.in_ok-addresses.ensures.few

pub returns-clause-inserted : goal.returns-clause-inserted
returns-clause-inserted c =
    let words = c.args.words.now in
    let n = c.args.before in
    let mid = c.insert_words.new.graph in
    let new = c.insert_words-2.new.graph in
    let first = classes_at_entry c.args.graph.now c.requires.graph
    (λ r there. c.classes_have_one_sort.ensures.rows c.args.graph.now r c.requires.graph there) (replicate 32 None) c.in-Some.entry
    refl c.in-Some.ensures in
    code_inserted c.more_terms_may_be_inserted.ensures.both c.more_terms_may_be_inserted.ensures.others c.args.graph.now mid new words n (replicate 32 None) c.in-Some.entry
    (record {
      at_branch = c.insert_words.new.classes;
      memory_at_branch = c.insert_words.new.memory;
      at_end = c.insert_words-2.new.classes;
      memory_at_end = c.insert_words-2.new.memory;
      addresses = c.from.result;
    }) c.in_ok-addresses.addresses.items c.in_ok-behind.behind.items (c.from.ensures ∙ c.in_ok-extend_from_slice.ensures.items ∙ ap (λ more. c.in_ok-addresses.addresses.items ++ more) c.deref.ensures.value) first c.in_ok-addresses.ensures.written
    (subst (λ ws. InsertsWords ws mid c.insert_words.new.classes c.insert_words.new.memory new c.insert_words-2.new.classes c.insert_words-2.new.memory c.in_ok-behind.behind.items) (rest_of words n)
    c.in_ok-behind.ensures.written)

pub returns-clause-few : goal.returns-clause-few
returns-clause-few c =
    few_both c.args.words.now c.args.before _ _ _ c.requires.within c.in_ok-addresses.ensures.few c.in_ok-behind.ensures.few
