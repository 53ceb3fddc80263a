-- What a proper graph says of its registers.
use Rattle.std.proofs.Common.{◌≡◌, ◌≢◌, ℕ, ◌+◌, ◌<◌, List, ◌++◌, length, sym, ◌∙◌, subst, arith, get_or, map, length-append}
use Rattle.std.specs.Prelude.{All, AllPairs, Contains}
use Rattle.std.proofs.lemmas.List.{get_or_append_left, get_or-append-add}
use Rattle.graph_meaning.specs.Graphs.{IsProper}
use Rattle.graph_meaning.specs.declared.graphs.LaunchGraph.{LaunchGraph}
use Rattle.graph_meaning.proofs.Lists.{map_length, map_at}

module _ (g : LaunchGraph) (proper : IsProper g) where
  abbrev regs : List ℕ
  regs = map (λ i. i.reg) g.inputs

  total : length (regs ++ g.pool) ≡ length regs + length g.pool
  total = length-append regs g.pool

  count : length regs ≡ length g.inputs
  count = map_length (λ i. i.reg) g.inputs

  pub pool_differs : AllPairs (λ a b. a ≢ b) g.pool
  pool_differs i j d lt len e =
      let t : length (regs ++ g.pool) ≡ length regs + length g.pool = total in
      proper.differ (length regs + i) (length regs + j) d (omega arith) (omega arith)
      (get_or-append-add regs g.pool i d ∙ e ∙ sym (get_or-append-add regs g.pool j d))

  pub pool_low : All (λ r. r < 31) g.pool
  pool_low k d lt =
      let t : length (regs ++ g.pool) ≡ length regs + length g.pool = total in
      subst (λ r. r < 31) (get_or-append-add regs g.pool k d) (proper.low (length regs + k) d (omega arith))

  pub inputs_apart : All (λ i. ¬ Contains g.pool i.reg) g.inputs
  inputs_apart k d lt h =
      let r : ℕ = (get_or g.inputs k d).reg in
      let n : length regs ≡ length g.inputs = count in
      let t : length (regs ++ g.pool) ≡ length regs + length g.pool = total in
      let q : h.0 < length g.pool = h.1 in
      proper.differ k (length regs + h.0) r (omega arith) (omega arith)
      (get_or_append_left regs g.pool r k (omega arith) ∙ map_at (λ i. i.reg) g.inputs k d r lt ∙ sym h.2
      ∙ sym (get_or-append-add regs g.pool h.0 r))

  pub inputs_differ : AllPairs (λ i j. i.reg ≢ j.reg) g.inputs
  inputs_differ i j d lt len e =
      let n : length regs ≡ length g.inputs = count in
      let t : length (regs ++ g.pool) ≡ length regs + length g.pool = total in
      proper.differ i j 0 lt (omega arith)
      (get_or_append_left regs g.pool 0 i (omega arith) ∙ map_at (λ i. i.reg) g.inputs i d 0 (omega arith) ∙ e
      ∙ sym (map_at (λ i. i.reg) g.inputs j d 0 len) ∙ sym (get_or_append_left regs g.pool 0 j (omega arith)))

  pub inputs_low : All (λ i. i.reg < 31) g.inputs
  inputs_low k d lt =
      let n : length regs ≡ length g.inputs = count in
      let t : length (regs ++ g.pool) ≡ length regs + length g.pool = total in
      subst (λ r. r < 31) (get_or_append_left regs g.pool 0 k (omega arith) ∙ map_at (λ i. i.reg) g.inputs k d 0 lt)
      (proper.low k 0 (omega arith))
