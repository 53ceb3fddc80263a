use Rattle.graph_meaning.proofs.Registers.{pool_differs, pool_low, inputs_apart, inputs_differ, inputs_low}
use Rattle.graph_meaning.proofs.laws.registers_are_apart.Goals as goal

pub returns : goal.returns
returns c =
    record {
      differ = pool_differs;
      low = pool_low;
      inputs = inputs_apart;
      inputs_differ = inputs_differ;
      inputs_low = inputs_low;
      own_pins = λ g proper. proper.own_pins;
      low_pins = λ g proper. proper.low_pins;
      pins_apart = λ g proper. proper.pins_apart;
    }
