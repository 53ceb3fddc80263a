-- What a run whose status reports has done.
use Rattle.std.proofs.Common.{◌≡◌, ℕ, List, None, Some, subst}
use Rattle.std.specs.declared.option.Option.{Option}
use Rattle.std.specs.Io.KnownBytes.{Appends}
use Rattle.reports.specs.declared.statuses.Status.{Status}
use Rattle.reports.specs.declared.statuses.Status.TheVariants.{ReadFault}
use Rattle.denali_cli.specs.Commands.{Command}
use Rattle.denali_cli.specs.Replies.{limit_of, Reply, too_long, faulty, answered}
use Rattle.denali_cli.specs.Outcomes.{Decides, IsReported, ReadsWithin, Works}

no_fault : (status : Status) → status ≡ ReadFault → IsReported status → ⊥
no_fault status is reported = subst IsReported is reported

reply_done : (command : Command) (l l' w w' : Option (List ℕ)) (text out : List ℕ) (status : Status)
    → ReadsWithin (limit_of command) l l' text → Appends w w' out → IsReported status
    → Reply command text out status → Works command l l' w w' status
reply_done command l l' w w' text out status read wrote reported (too_long limit has long line is) =
    absurd (no_fault status is reported)
reply_done command l l' w w' text out status read wrote reported (faulty place kind within first line is) =
    absurd (no_fault status is reported)
reply_done command l l' w w' text out status read wrote reported (answered within a) = record {
  text = text;
  bytes = out;
  read = read;
  within = within;
  reports = a;
  appended = wrote;
}

none_some : (command : Command) → None ≡ Some command → ⊥
none_some command e = cc

one_command : {c d : Command} → Some c ≡ Some d → c ≡ d
one_command e = cc

pub work_done : (said : Option Command) (l l' w w' : Option (List ℕ)) (out : List ℕ) (status : Status)
    → Decides said l l' out status → Appends w w' out → (command : Command) → said ≡ Some command → IsReported status
    → Works command l l' w w' status
work_done None l l' w w' out status decided wrote command asked reported = absurd (none_some command asked)
work_done (Some other) l l' w w' out status decided wrote command asked reported =
    subst (λ c. Works c l l' w w' status) (one_command asked)
    (reply_done other l l' w w' decided.0 out status decided.1 wrote reported decided.2)
