use Rattle.std.proofs.Common.{◌++◌, [], ◌∷◌, ap, ◌∙◌, sym}
use Rattle.forms.specs.Printing.{plain_text}
use Rattle.proc_goal.specs.ProcForms.{proc_plain}
use Rattle.proc_goal.specs.Views.{proc_view}
use Rattle.proc_goal.proofs.PrintedProcs.{behind, proc_lines}
use Rattle.proc_goal.proofs.printing.print.Goals as goal

pub returns : goal.returns
returns c =
    let p = c.args.proc.now in
    let text = plain_text (proc_plain (proc_view p)) in
    behind c.in_ok-text.text.items c.put_proc.new.text.items c.extend_from_slice.new.self.items text (10 ∷ []) c.in_ok-put_proc.ensures c.in_ok-extend_from_slice.ensures.items
    ∙ ap (λ l. l ++ (text ++ 10 ∷ [])) c.in_ok-text.ensures ∙ sym (proc_lines p)
