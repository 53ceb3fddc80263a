use Rattle.std.proofs.Common.{◌≡◌, ◌↔◌, ◌∙◌, ℕ, sym, subst, false, Some, None}
use Rattle.std.specs.Prelude.{IsTrue}
use Rattle.graph_meaning.specs.Graphs.{is_memory_name}
use Rattle.schedule_meaning.specs.Fits.{IsInItsPin}
use Rattle.schedule_meaning.proofs.Uses.{reached_by}
use Rattle.schedule_meaning.proofs.targets.is_reached.Goals as goal

pub returns-in-Some : goal.returns-in-Some
returns-in-Some c =
    let word : is_memory_name c.args.set.now.name ≡ false = sym c.is_memory.ensures ∙ c.if-is_memory.false in
    reached_by c.args.graph.now c.args.list.now c.args.number c.args.set.now (Some c.in-Some.pin) c.is_in_its_pin.result c.in-Some.is word
    (subst (λ (n : ℕ). IsTrue c.is_in_its_pin.result ↔ IsInItsPin c.args.graph.now n c.args.set.now.class c.in-Some.pin) c.launches_to.ensures c.is_in_its_pin.ensures)

pub returns-in-None : goal.returns-in-None
returns-in-None c =
    let word : is_memory_name c.args.set.now.name ≡ false = sym c.is_memory.ensures ∙ c.if-is_memory.false in
    reached_by c.args.graph.now c.args.list.now c.args.number c.args.set.now None c.is_in_some_register.result c.in-None.is word c.is_in_some_register.ensures
