-- A round adds no more rows than it needs.
use Rattle.std.proofs.Common.{ℕ, ◌+◌, ◌≤◌, List, length, ap, inl, inr, arith}
use Rattle.std.proofs.lemmas.List.{length_push}
use Rattle.word_ops.specs.declared.sorts.Op.{Op}
use Rattle.word_terms.specs.OperatorsIn.{operators_in, operators_in_all}
use Rattle.word_terms.specs.Tree.{Tree, Trees}
use Rattle.egraph.specs.Graph.{Graph, IsInserted, read_through}
use Rattle.egraph.specs.declared.rows.Row.{Row}
use Rattle.saturation.specs.Trace.{Asked, IsBuilt, AreBuilt, placed, put, none_built, one_built, IsApplied, AreAllApplied, finished, work, operators_asked}

inserted_rows : (old : Graph Op) (op : Op) (operands : List ℕ) (class : ℕ) (new : Graph Op) → IsInserted old op operands class new → length new.rows ≤ length old.rows + 1
inserted_rows old op operands class new i = elim i [
  | inl k ↦ (let e = ap (λ (g : Graph Op). length g.rows) k.1 in omega (arith, e))
  | inr k ↦ (
      let row : Row Op = record { op = op; operands = read_through old operands; class = length old.current } in
      let e = ap (λ (g : Graph Op). length g.rows) k.2 in
      let l = length_push old.rows row in
      omega (arith, e, l))
]

module _ (places : List ℕ) where
  mutual
    built_rows : {t : Tree Op} {g new : Graph Op} {c : ℕ} → IsBuilt places t g c new → length new.rows ≤ length g.rows + operators_in t
    built_rows (placed l) = omega arith
    built_rows (put {op} {ts} {g} {h} {new} {cs} {c} a p) = let k = are_built_rows a in omega (arith, k, inserted_rows h op cs c new p.inserted)

    are_built_rows : {ts : Trees Op} {g new : Graph Op} {cs : List ℕ} → AreBuilt places ts g cs new → length new.rows ≤ length g.rows + operators_in_all ts
    are_built_rows none_built = omega arith
    are_built_rows (one_built b a) = let k = built_rows b in let m = are_built_rows a in omega (arith, k, m)

made_rows : (a : Asked) (g new : Graph Op) → IsApplied a g new → length new.rows ≤ length g.rows + operators_in a.right
made_rows a g new h = let f = built_rows a.places h.built in omega (arith, f, h.joined.merged.no_more)

pub all_made_rows : {asks : List Asked} {g new : Graph Op} → AreAllApplied asks g new → length new.rows ≤ length g.rows + operators_asked asks
all_made_rows finished = omega arith
all_made_rows (work {a} {asks} {g} {h} m w) = let f = made_rows a g h m in let k = all_made_rows w in omega (arith, f, k)
