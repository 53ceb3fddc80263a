use Rattle.saturation.proofs.Alike.{no_clash, alike}
use Rattle.saturation.proofs.laws.grown_graphs_are_one.Goals as goal

pub returns : goal.returns
returns c = record { no_clash = no_clash; alike = alike }
