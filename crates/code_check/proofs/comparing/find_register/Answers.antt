use Rattle.code_check.proofs.Comparisons.{input_found, written_found, written_made, zero_found}
use Rattle.code_check.proofs.comparing.find_register.Goals as goal

pub now-requires : goal.now-requires
now-requires c = record {
  made = written_made c.args.graph.now c.args.classes.now c.args.register c.requires.low c.in-Some.class c.in-Some.is
      c.requires.classes.1.0 c.requires.classes.0 c.requires.classes.1.1;
}

pub returns-in-Some : goal.returns-in-Some
returns-in-Some c =
    written_found c.args.graph.now c.args.classes.now c.args.register c.requires.low c.in-Some.class c.now.result c.in-Some.is
    c.now.ensures.present

pub returns-in-None : goal.returns-in-None
returns-in-None c =
    zero_found c.args.graph.now c.args.classes.now c.args.register c.requires.low c.find_leaf.result c.in-None.is
    c.if-register-eq31.true c.find_leaf.ensures

pub returns-in-None-2 : goal.returns-in-None-2
returns-in-None-2 c =
    input_found c.args.graph.now c.args.classes.now c.args.register c.requires.low c.find_leaf-in-None-2.result c.in-None-2.is
    c.if-register-eq31.false c.find_leaf-in-None-2.ensures
