use Rattle.std.proofs.Common.{◌++◌, List, [], ◌∷◌, ap, ◌∙◌, map, codes, option_map}
use Rattle.forms.specs.Printing.{others_of, plain_text, plains_from}
use Rattle.goal_meaning.specs.Views.{target_view}
use Rattle.goal_meaning.specs.declared.goals.Set.{Set}
use Rattle.proc_goal.specs.ProcForms.{go_plain, set_plain, when_plains}
use Rattle.proc_goal.specs.Views.{block_view, names_of_blocks, when_view}
use Rattle.proc_goal.proofs.PrintedProcs.{behind, block_items, list_printed}
use Rattle.proc_goal.proofs.printing.put_block.Goals as goal

pub returns : goal.returns
returns c =
    let b = c.args.block.now in
    let vars = c.args.vars.now in
    let names = names_of_blocks (map block_view c.args.blocks.now) in
    let sets : List Set → List _ = λ xs. others_of (plains_from (map (λ (s : Set). set_plain vars (target_view s)) xs)) in
    let go = plain_text (go_plain names b.go) in
    list_printed c.args.text.now.items c.extend_from_slice.new.self.items c.extend_from_slice-2.new.self.items c.put_when.new.text.items c.put_sets.new.text.items c.put_go.new.text.items c.extend_from_slice-4.new.self.items
    (codes "(block ") b.name (others_of (plains_from (when_plains vars names (option_map when_view b.when)))) (sets b.sets) (32 ∷ go) _ (block_items vars names b)
    c.in_ok-extend_from_slice.ensures.items
    (c.in_ok-extend_from_slice-2.ensures.items ∙ ap (λ l. c.extend_from_slice.new.self.items ++ l) c.bytes.ensures)
    c.in_ok-put_when.ensures
    (c.in_ok-put_sets.ensures ∙ ap (λ xs. c.put_when.new.text.items ++ sets xs) c.as_slice.ensures)
    (behind c.put_sets.new.text.items c.extend_from_slice-3.new.self.items c.put_go.new.text.items (32 ∷ []) go c.in_ok-extend_from_slice-3.ensures.items c.in_ok-put_go.ensures)
    c.in_ok-extend_from_slice-4.ensures.items
