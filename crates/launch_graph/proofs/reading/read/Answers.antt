use Rattle.launch_graph.proofs.OneReading.{read_by, refused_by}
use Rattle.launch_graph.proofs.reading.read.Goals as goal

pub returns-clause-read : goal.returns-clause-read
returns-clause-read c =
    read_by c.args.text.now c.args.from
    (λ next other g h. c.one_graph.ensures.graph c.args.text.now c.args.from next other g h)
    (λ next place g kind. c.one_graph.ensures.apart c.args.text.now c.args.from next place g kind)
    c.graph_at.result c.graph_at.ensures.graph c.graph_at.ensures.fault

pub returns-clause-refused : goal.returns-clause-refused
returns-clause-refused c =
    refused_by c.args.text.now c.args.from
    (λ next place g kind. c.one_graph.ensures.apart c.args.text.now c.args.from next place g kind)
    (λ place other kind another. c.one_graph.ensures.first c.args.text.now c.args.from place other kind another)
    c.graph_at.result c.graph_at.ensures.graph c.graph_at.ensures.fault
