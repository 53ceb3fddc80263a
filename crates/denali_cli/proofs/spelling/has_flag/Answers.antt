use Rattle.std.proofs.Common.{◌∙◌}
use Rattle.clap.specs.Words.{found_of}
use Rattle.denali_cli.proofs.Spelled.{flag_absent, flag_present}
use Rattle.denali_cli.proofs.spelling.has_flag.Goals as goal

pub returns-in-Some : goal.returns-in-Some
returns-in-Some c =
    c.eq.ensures ∙ flag_present (found_of c.args.matches.now) c.args.name.now c.get_str.result c.get_str.ensures c.in-Some.word c.in-Some.is

pub returns-in-None : goal.returns-in-None
returns-in-None c = flag_absent (found_of c.args.matches.now) c.args.name.now c.get_str.result c.get_str.ensures c.in-None.is
