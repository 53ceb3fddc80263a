-- The world in which all registers, the memory and the declared operators are 0.
use Rattle.std.proofs.Common.{ℕ, [], refl, sym, ◌∙◌, arith, replicate}
use Rattle.std.specs.FinMap.{empty, get-empty}
use Rattle.std.specs.Ordering.{nat_cmp}
use Rattle.std.proofs.lemmas.List.Elements.{All-nil, All-replicate}
use Rattle.std.proofs.lemmas.Option.{none-some}
use Rattle.word_ops.specs.Memory.{IsMemory}
use Rattle.word_ops.specs.Words.{IsWord}
use Rattle.word_ops.specs.Worlds.{IsWorld, World}
use Rattle.goal_meaning.specs.Holds.{HoldsFor, HoldsOfAll, IsMet}
use Rattle.generated_goals.specs.Generated.{generated_goal, generated_input}

abbrev zeros : World
zeros = record { registers = replicate 32 0; memory_at_entry = empty; declared = λ name words. 0 }

empty_is_memory : IsMemory empty
empty_is_memory = record { words = λ place v e. absurd (none-some v (sym (get-empty nat_cmp place) ∙ e)) }

zeros_are_world : IsWorld zeros
zeros_are_world = record {
  registers = refl;
  each = All-replicate IsWord 32 0 (omega arith);
  zero_register = refl;
  memory_is = empty_is_memory;
  declared = λ name words. omega arith;
}

pub some_world : (size : ℕ) → (world : World) × IsWorld world × HoldsFor (generated_input size) (generated_goal size) world
some_world size = (zeros, zeros_are_world, record { axioms = All-nil (HoldsOfAll [] zeros); assumes = All-nil (IsMet [] zeros) })
