use Rattle.word_ops.proofs.OperatorBits.{bit_at_sll_high, bit_at_sra, bit_at_sign_extended, bit_at_byte_mask}
use Rattle.word_ops.proofs.StoredByte.{storeb_by_masks}
use Rattle.word_ops.proofs.laws.words_have_bits.Goals as goal

pub returns : goal.returns
returns c = record {
  shifted_left = bit_at_sll_high;
  shifted_right = bit_at_sra;
  sign_extended = bit_at_sign_extended;
  byte_mask = bit_at_byte_mask;
  stored_byte = storeb_by_masks;
}
