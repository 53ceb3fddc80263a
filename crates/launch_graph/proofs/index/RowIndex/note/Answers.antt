use Rattle.std.proofs.Common.{◌≡◌, Bool, true, false, IsTrue, Contains, not, sym, ◌∙◌, refl, subst}
use Rattle.std.specs.Bool.{Decides}
use Rattle.std.specs.List.{list_any}
use Rattle.std.proofs.lemmas.Map.Made.{is_member-Decides}
use Rattle.launch_graph.proofs.Keys.{keys_same, same_key}
use Rattle.launch_graph.proofs.index.RowIndex.note.Goals as goal

-- what is new isn't there
told : (fresh there : Bool) (P : Type 0) → fresh ≡ not there → Decides there P → (IsTrue fresh → P → ⊥) × ((P → ⊥) → IsTrue fresh)
told fresh true P e d = (λ h p. let f : false ≡ true = sym e ∙ h in cc, λ n. absurd (n (d.0 refl)))
told fresh false P e d = (λ h p. let f : false ≡ true = d.1 p in cc, λ n. e)

pub returns-clause-fresh : goal.returns-clause-fresh
returns-clause-fresh c =
    let keys : c.self.inside.seen.keys ≡ c.args.self.now = c.self.view_is in
    told c.in_ok-fresh.fresh _ (Contains c.args.self.now c.args.key) c.in_ok-fresh.ensures.added
    (subst (λ ks. Decides (list_any (same_key c.args.key) c.self.inside.seen.keys) (Contains ks c.args.key)) keys (is_member-Decides keys_same c.self.inside.seen.keys c.args.key))

there_by : (fresh there : Bool) (P : Type 0) → fresh ≡ not there → Decides there P → fresh ≡ false → P
there_by fresh true P e d f = d.0 refl
there_by fresh false P e d f = (let g : true ≡ false = sym e ∙ f in cc)

pub returns-clause-there : goal.returns-clause-there
returns-clause-there c =
    let keys : c.self.inside.seen.keys ≡ c.args.self.now = c.self.view_is in
    there_by c.in_ok-fresh.fresh _ (Contains c.args.self.now c.args.key) c.in_ok-fresh.ensures.added
    (subst (λ ks. Decides (list_any (same_key c.args.key) c.self.inside.seen.keys) (Contains ks c.args.key)) keys (is_member-Decides keys_same c.self.inside.seen.keys c.args.key))
