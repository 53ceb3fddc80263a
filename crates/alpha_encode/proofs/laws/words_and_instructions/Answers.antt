use Rattle.alpha_encode.proofs.RoundTrips.{decoded_encoded, some_sound, same_instruction}
use Rattle.alpha_encode.proofs.laws.words_and_instructions.Goals as goal

pub returns : goal.returns
returns c = record {
  back = decoded_encoded;
  forth = λ word instr h. some_sound word instr h;
  own_word = same_instruction;
}
