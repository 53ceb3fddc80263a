use Rattle.std.proofs.Common.{◌∙◌, arith}
use Rattle.std.specs.FinMap.{empty}
use Rattle.word_ops.specs.Memory.{Memory, loaded, put_word, select, store, stored, word_at}
use Rattle.word_ops.specs.Operators.{operate_value, value_at}
use Rattle.word_ops.specs.Values.{addq, cmpult}
use Rattle.proc_link.specs.Worked.{copy_memory}
use Rattle.proc_link.proofs.worked.worked_steps.Goals as goal

abbrev one_copied : Memory
one_copied = put_word copy_memory 16 (word_at copy_memory 8)

pub returns-clause-first : goal.returns-clause-first
unfolding loaded stored select store value_at operate_value addq cmpult
returns-clause-first c =
    let laws = c.memories_hold_words.ensures in
    laws.others one_copied 17 (word_at one_copied 9) 16 (λ e. absurd (omega (arith, e)))
    ∙ laws.put copy_memory 16 (word_at copy_memory 8)
    ∙ laws.others (put_word empty 8 9) 9 5 8 (λ e. absurd (omega (arith, e))) ∙ laws.put empty 8 9

pub returns-clause-second : goal.returns-clause-second
unfolding loaded stored select store value_at operate_value addq cmpult
returns-clause-second c =
    let laws = c.memories_hold_words.ensures in
    laws.put one_copied 17 (word_at one_copied 9)
    ∙ laws.others copy_memory 16 (word_at copy_memory 8) 9 (λ e. absurd (omega (arith, e))) ∙ laws.put (put_word empty 8 9) 9 5
