-- What a proper graph says of its registers, and the items' law whole.
use Rattle.std.proofs.Common.{◌≡◌, ◌≢◌, ℕ, zero, suc, ◌+◌, ◌<◌, List, [], ◌∷◌, ◌++◌, length, refl, sym, ◌∙◌, ap, subst, arith, get_or, map, length-append}
use Rattle.std.specs.Prelude.{All, AllPairs, Contains}
use Rattle.std.proofs.lemmas.List.{get_or_append_left, get_or-append-add}
use Rattle.graph_meaning.specs.Graphs.{IsProper}
use Rattle.graph_meaning.specs.declared.graphs.LaunchGraph.{LaunchGraph}

map_at : {X : Type 0} (f : X → ℕ) (xs : List X) (k : ℕ) (d : X) (e : ℕ) → k < length xs → get_or (map f xs) k e ≡ f (get_or xs k d)
map_at f [] k d e l = absurd (omega arith)
map_at f (x ∷ xs) zero d e l = refl
map_at f (x ∷ xs) (suc k) d e l = map_at f xs k d e (omega arith)

map_length : {X : Type 0} (f : X → ℕ) (xs : List X) → length (map f xs) ≡ length xs
map_length f [] = refl
map_length f (x ∷ xs) = ap suc (map_length f xs)

module _ (g : LaunchGraph) (proper : IsProper g) where
  abbrev regs : List ℕ
  regs = map (λ i. i.reg) g.inputs

  total : length (regs ++ g.pool) ≡ length regs + length g.pool
  total = length-append regs g.pool

  pub pool_differs : AllPairs (λ a b. a ≢ b) g.pool
  pool_differs i j d lt len e =
      let t : length (regs ++ g.pool) ≡ length regs + length g.pool = total in
      proper.differ (length regs + i) (length regs + j) d (omega arith) (omega arith)
      (get_or-append-add regs g.pool i d ∙ e ∙ sym (get_or-append-add regs g.pool j d))

  pub pool_low : All (λ r. r < 31) g.pool
  pool_low k d lt =
      let t : length (regs ++ g.pool) ≡ length regs + length g.pool = total in
      subst (λ r. r < 31) (get_or-append-add regs g.pool k d) (proper.low (length regs + k) d (omega arith))

  pub inputs_apart : All (λ i. ¬ Contains g.pool i.reg) g.inputs
  inputs_apart k d lt h =
      let r : ℕ = (get_or g.inputs k d).reg in
      let n : length regs ≡ length g.inputs = map_length (λ i. i.reg) g.inputs in
      let t : length (regs ++ g.pool) ≡ length regs + length g.pool = total in
      let q : h.0 < length g.pool = h.1 in
      proper.differ k (length regs + h.0) r (omega arith) (omega arith)
      (get_or_append_left regs g.pool r k (omega arith) ∙ map_at (λ i. i.reg) g.inputs k d r lt ∙ sym h.2 ∙ sym (get_or-append-add regs g.pool h.0 r))
