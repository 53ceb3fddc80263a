-- What holds of a formula over what a scope gives variables holds over each list of its encoding.
use Rattle.std.proofs.Common.{◌≡◌, ◌≤◌, ℕ, sym, subst}
use Rattle.schedule_meaning.specs.Limits.{most_cycles}
use Rattle.graph_meaning.specs.declared.graphs.LaunchGraph.{LaunchGraph}
use Rattle.machine_table.specs.declared.tables.Table.{Table}
use Rattle.cycle_encoding.specs.CycleFormula.{Listed, Scope}
use Rattle.cycle_encoding.specs.Encodings.{AreListed, IsScope}
use Rattle.cycle_encoding.specs.declared.encodings.Encoding.{Encoding}
use Rattle.cycle_encoding.specs.CycleFormula.{listed_in}

-- an encoding gives a graph and a table one list in so many cycles
abbrev pub OneList : Type 0
OneList =
    (e : Encoding) (g : LaunchGraph) (table : Table) (k : ℕ) (l m : Listed) → AreListed e g table k l
    → AreListed e g table k m → l ≡ m

-- a scope of an encoding is one of that by another name
pub named : (e f : Encoding) (g : LaunchGraph) (table : Table) (s : Scope) → f ≡ e → IsScope f g table s → IsScope e g table s
named e f g table s same is = subst (λ (x : Encoding). IsScope x g table s) same is

module _ (one : OneList) (e : Encoding) (g h : LaunchGraph) (table : Table) (k : ℕ) (s : Scope) (eh : h ≡ g)
    (is : IsScope e h table s) (few : k ≤ most_cycles) where
  -- the scope's list is one of the encoding's
  pub own_list : AreListed e g table k (listed_in g table k s)
  own_list = subst (λ (x : LaunchGraph). AreListed e x table k (listed_in x table k s)) eh (is.lists k few)

  pub scoped_list : (l : Listed) → AreListed e g table k l → listed_in g table k s ≡ l
  scoped_list l a = one e g table k (listed_in g table k s) l own_list a

  pub as_listed : (P : LaunchGraph → Listed → Type 0) → P h (listed_in h table k s) → (l : Listed) → AreListed e g table k l → P g l
  as_listed P p l a = subst (P g) (scoped_list l a) (subst (λ (x : LaunchGraph). P x (listed_in x table k s)) eh p)

  pub of_listed : (P : LaunchGraph → Listed → Type 0) → ((l : Listed) → AreListed e g table k l → P g l) → P h (listed_in h table k s)
  of_listed P p = subst (λ (x : LaunchGraph). P x (listed_in x table k s)) (sym eh) (p (listed_in g table k s) own_list)
