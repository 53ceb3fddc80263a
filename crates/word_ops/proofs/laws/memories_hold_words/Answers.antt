use Rattle.word_ops.proofs.Stored.{word_at-put_word_same, word_at-put_word_other, put_word-put_word, IsMemory-put_word, same_memory}
use Rattle.word_ops.proofs.MeaningRanges.{loaded-lt, stored-is}
use Rattle.word_ops.proofs.laws.memories_hold_words.Goals as goal

pub returns : goal.returns
returns c = record {
  put = word_at-put_word_same;
  others = word_at-put_word_other;
  again = put_word-put_word;
  is_memory = IsMemory-put_word;
  loaded = loaded-lt;
  stored = stored-is;
  equal = same_memory;
}
