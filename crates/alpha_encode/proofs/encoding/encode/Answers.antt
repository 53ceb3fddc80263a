use Rattle.std.proofs.Common.{rules, ap, ◌∙◌}
use Rattle.alpha_encode.specs.Decoded.{decoded}
use Rattle.alpha_encode.proofs.RoundTrips.{decoded_encoded}
use Rattle.alpha_encode.proofs.encoding.encode.Goals as goal

pub returns-in-Operate-clause-word : goal.returns-in-Operate-clause-word
returns-in-Operate-clause-word c = search rules

pub returns-in-Operate-clause-back : goal.returns-in-Operate-clause-back
returns-in-Operate-clause-back c = ap decoded (returns-in-Operate-clause-word c) ∙ decoded_encoded c.args.instr c.requires

pub returns-in-Lda-clause-word : goal.returns-in-Lda-clause-word
returns-in-Lda-clause-word c = search rules

pub returns-in-Lda-clause-back : goal.returns-in-Lda-clause-back
returns-in-Lda-clause-back c = ap decoded (returns-in-Lda-clause-word c) ∙ decoded_encoded c.args.instr c.requires

pub returns-in-Ldah-clause-word : goal.returns-in-Ldah-clause-word
returns-in-Ldah-clause-word c = search rules

pub returns-in-Ldah-clause-back : goal.returns-in-Ldah-clause-back
returns-in-Ldah-clause-back c = ap decoded (returns-in-Ldah-clause-word c) ∙ decoded_encoded c.args.instr c.requires

pub returns-in-Load-clause-word : goal.returns-in-Load-clause-word
returns-in-Load-clause-word c = search rules

pub returns-in-Load-clause-back : goal.returns-in-Load-clause-back
returns-in-Load-clause-back c = ap decoded (returns-in-Load-clause-word c) ∙ decoded_encoded c.args.instr c.requires

pub returns-in-Store-clause-word : goal.returns-in-Store-clause-word
returns-in-Store-clause-word c = search rules

pub returns-in-Store-clause-back : goal.returns-in-Store-clause-back
returns-in-Store-clause-back c = ap decoded (returns-in-Store-clause-word c) ∙ decoded_encoded c.args.instr c.requires

pub returns-in-Ldq-clause-word : goal.returns-in-Ldq-clause-word
returns-in-Ldq-clause-word c = search rules

pub returns-in-Ldq-clause-back : goal.returns-in-Ldq-clause-back
returns-in-Ldq-clause-back c = ap decoded (returns-in-Ldq-clause-word c) ∙ decoded_encoded c.args.instr c.requires

pub returns-in-Stq-clause-word : goal.returns-in-Stq-clause-word
returns-in-Stq-clause-word c = search rules

pub returns-in-Stq-clause-back : goal.returns-in-Stq-clause-back
returns-in-Stq-clause-back c = ap decoded (returns-in-Stq-clause-word c) ∙ decoded_encoded c.args.instr c.requires

pub returns-in-Beq-clause-word : goal.returns-in-Beq-clause-word
returns-in-Beq-clause-word c = search rules

pub returns-in-Beq-clause-back : goal.returns-in-Beq-clause-back
returns-in-Beq-clause-back c = ap decoded (returns-in-Beq-clause-word c) ∙ decoded_encoded c.args.instr c.requires
