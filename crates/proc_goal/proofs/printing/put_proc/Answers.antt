use Rattle.std.proofs.Common.{◌++◌, List, [], ◌∷◌, ap, ◌∙◌, map, codes}
use Rattle.forms.specs.Printing.{others_of, plain_text, plains_from}
use Rattle.goal_meaning.specs.InputForms.{pool_plain}
use Rattle.goal_meaning.specs.declared.goals.InputReg.{InputReg}
use Rattle.proc_goal.specs.ProcForms.{block_plain, var_plain}
use Rattle.proc_goal.specs.Views.{block_view, names_of_blocks}
use Rattle.proc_goal.specs.declared.procs.Block.{Block}
use Rattle.proc_goal.proofs.PrintedProcs.{behind, list_printed, proc_items}
use Rattle.proc_goal.proofs.printing.put_proc.Goals as goal

pub returns : goal.returns
returns c =
    let p = c.args.proc.now in
    let vars : List InputReg → List _ = λ vs. others_of (plains_from (map var_plain vs)) in
    let blocks : List InputReg → List Block → List _ = λ vs bs. others_of (plains_from (map (λ (b : Block). block_plain vs (names_of_blocks (map block_view bs)) (block_view b)) bs)) in
    let pool = plain_text (pool_plain p.pool) in
    list_printed c.args.text.now.items c.extend_from_slice.new.self.items c.extend_from_slice-2.new.self.items c.put_variables.new.text.items c.put_pool.new.text.items c.put_blocks.new.text.items c.extend_from_slice-4.new.self.items
    (codes "(proc ") p.name (vars p.vars) (32 ∷ pool) (blocks p.vars p.blocks) _ (proc_items p.vars (names_of_blocks (map block_view p.blocks)) p.pool p.blocks)
    c.in_ok-extend_from_slice.ensures.items
    (c.in_ok-extend_from_slice-2.ensures.items ∙ ap (λ l. c.extend_from_slice.new.self.items ++ l) c.bytes.ensures)
    (c.in_ok-put_variables.ensures ∙ ap (λ vs. c.extend_from_slice-2.new.self.items ++ vars vs) c.as_slice-vars.ensures)
    (behind c.put_variables.new.text.items c.extend_from_slice-3.new.self.items c.put_pool.new.text.items (32 ∷ []) pool c.in_ok-extend_from_slice-3.ensures.items
    (c.in_ok-put_pool.ensures ∙ ap (λ rs. c.extend_from_slice-3.new.self.items ++ plain_text (pool_plain rs)) c.as_slice.ensures))
    (c.in_ok-put_blocks.ensures ∙ ap (λ vs. c.put_pool.new.text.items ++ blocks vs c.as_slice-blocks.result.now) c.as_slice-vars.ensures ∙ ap (λ bs. c.put_pool.new.text.items ++ blocks p.vars bs) c.as_slice-blocks.ensures)
    c.in_ok-extend_from_slice-4.ensures.items
