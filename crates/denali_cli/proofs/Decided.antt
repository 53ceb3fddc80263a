-- What the words and the input decide, from what the calls gave.
use Rattle.std.proofs.Common.{◌≡◌, ℕ, ◌<◌, ◌≤◌, List, length, sym, subst, ◌∙◌, arith, Some}
use Rattle.std.specs.Prelude.{IfOk}
use Rattle.std.specs.declared.option.Option.{Option}
use Rattle.std.specs.declared.result.Result.{Result}
use Rattle.std.specs.declared.result.Result.TheVariants.{Ok, Err}
use Rattle.outside_io.specs.Taking.{IsRead, TakesUpTo}
use Rattle.outside_io.specs.declared.reading.ReadAllFault.TheVariants.{TooLong}
use Rattle.text_core.specs.declared.faults.Fault.{Fault}
use Rattle.reports.specs.declared.reports.Report.{Report}
use Rattle.reports.specs.declared.statuses.Status.{Status}
use Rattle.reports.specs.declared.statuses.Status.TheVariants.{Done, Missing, Usage, ReadFault, Spent, Memory, SourceFault, SinkFault, NoWorld}
use Rattle.denali_cli.specs.declared.decide.Stop.{Stop}
use Rattle.denali_cli.specs.Commands.{Command}
use Rattle.denali_cli.specs.Replies.{IsFaultFor, IsWithinLimit, Reply, Reports, fault_line, faulty, limit_of, too_long, too_long_line}
use Rattle.denali_cli.specs.Outcomes.{Decides, IsReported, IsWhole, ReadsWithin}
use Rattle.denali_cli.proofs.Exact.{reports_report}

-- the report is what the words and the input decide
abbrev pub IsDecided : Option Command → Option (List ℕ) → Option (List ℕ) → Report → Type 0
IsDecided said l l' r = Decides said l l' r.bytes.items r.status

abbrev pub IsTooLong : ℕ → Report → Type 0
IsTooLong limit r = (r.bytes.items ≡ too_long_line limit) × (r.status ≡ ReadFault)

abbrev pub IsFaultLine : Fault → Report → Type 0
IsFaultLine fault r = (r.bytes.items ≡ fault_line fault.place fault.kind) × (r.status ≡ ReadFault)

-- the report is the command's reply to the text
abbrev pub IsReply : Command → List ℕ → Report → Type 0
IsReply command text r = Reply command text r.bytes.items r.status

pub reply_of_fault : (command : Command) (text : List ℕ) (result : Result Report Stop) (fault : Fault)
    → IsWithinLimit command text → IfOk result (IsFaultLine fault) → IsFaultFor command text fault.place fault.kind
    → IfOk result (IsReply command text)
reply_of_fault command text (Ok r) fault within is first = faulty fault.place fault.kind within first is.0 is.1
reply_of_fault command text (Err e) fault within is first = tt

one_limit : {m n : ℕ} → Some m ≡ Some n → m ≡ n
one_limit e = cc

module _ (command : Command) (limit : ℕ) (has : limit_of command ≡ Some limit) where
  at_limit : (text : List ℕ) → length text ≤ limit → IsWithinLimit command text
  at_limit text le other e = subst (λ n. length text ≤ n) (one_limit (sym has ∙ e)) le

  within_limit : (l l' : Option (List ℕ)) (text : List ℕ) → IsRead limit l l' text
      → ReadsWithin (limit_of command) l l' text
  within_limit l l' text read = subst (λ o. ReadsWithin o l l' text) (sym has) read

  pub decided_past : (result : Result Report Stop) (l l' : Option (List ℕ)) → IfOk result (IsTooLong limit)
      → TakesUpTo limit l l' TooLong → IfOk result (IsDecided (Some command) l l')
  decided_past (Ok r) l l' is took =
      let past = took.1.past in
      let long : limit < length took.0 = omega (arith, past) in
      (took.0, within_limit l l' took.0 took.1.read, too_long limit has long is.0 is.1)
  decided_past (Err e) l l' is took = tt

pub decided_as : (said other : Option Command) → said ≡ other → (result : Result Report Stop) (l l' : Option (List ℕ))
    → IfOk result (IsDecided said l l') → IfOk result (IsDecided other l l')
decided_as said other same result l l' decided = subst (λ o. IfOk result (IsDecided o l l')) same decided

whole_if_reported : (status : Status) → IsReported status → IsWhole status
whole_if_reported Done h = tt
whole_if_reported Missing h = tt
whole_if_reported Usage h = absurd h
whole_if_reported ReadFault h = absurd h
whole_if_reported Spent h = tt
whole_if_reported Memory h = absurd h
whole_if_reported SourceFault h = absurd h
whole_if_reported SinkFault h = absurd h
whole_if_reported NoWorld h = tt

pub reports_whole : (command : Command) (text written : List ℕ) (status : Status)
    → Reports command text written status → IsWhole status
reports_whole command text written status a =
    whole_if_reported status (reports_report command text written status a)

pub reports_other : (command : Command) (text written : List ℕ) (status : Status)
    → Reports command text written status → status ≡ Usage → ⊥
reports_other command text written status a is = subst IsReported is (reports_report command text written status a)
