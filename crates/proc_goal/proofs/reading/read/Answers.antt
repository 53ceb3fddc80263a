use Rattle.std.proofs.Common.{Ok, Err}
use Rattle.forms.proofs.Told.{gives}
use Rattle.goal_reader.proofs.TextEnd.{refuses_by}
use Rattle.proc_goal.specs.ProcGrammar.{IsFirstProcFault, ReadsProc}
use Rattle.proc_goal.specs.Views.{proc_view}
use Rattle.proc_goal.specs.WellFormed.{IsProc}
use Rattle.proc_goal.specs.declared.procs.Proc.{Proc}
use Rattle.proc_goal.proofs.ProcLaws.{ok_as}
use Rattle.proc_goal.proofs.reading.read.Goals as goal

pub returns-clause-read : goal.returns-clause-read
returns-clause-read c =
    let text = c.args.bytes.now in
    let law = c.procs_have_one_reading.ensures in
    gives proc_view (ReadsProc text) (IsFirstProcFault text) (law.once text) (law.apart text) (law.first text) c.read_text.result c.read_text.ensures.proc c.read_text.ensures.fault

pub returns-clause-refused : goal.returns-clause-refused
returns-clause-refused c =
    let text = c.args.bytes.now in
    refuses_by (IsFirstProcFault text) (c.procs_have_one_reading.ensures.first text) c.read_text.result c.read_text.ensures.clear c.read_text.ensures.fault

pub returns-clause-well_formed : goal.returns-clause-well_formed
returns-clause-well_formed c =
    let text = c.args.bytes.now in
    ok_as (λ (p : Proc). ReadsProc text (proc_view p)) (λ (p : Proc). IsProc (proc_view p)) (λ p read. c.read_procs_are_well_formed.ensures text (proc_view p) c.requires read) c.read_text.result c.read_text.ensures.proc
