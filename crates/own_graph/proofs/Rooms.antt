-- How many rows there are, and that there is room for more.
use Rattle.std.proofs.Common.{ℕ, suc, ◌+◌, ◌^◌, ◌<◌, ◌≤◌, Bool, true, false, List, [], ◌∷◌, ◌++◌, length, arith, fold, is_some, if◌then◌else◌}
use Rattle.std.proofs.lemmas.List.{length_push}
use Rattle.std.proofs.lemmas.List.Elements.{All-cons, All-nil, All-push, All-weaker}
use Rattle.word_ops.specs.declared.sorts.Op.{Op}
use Rattle.word_ops.specs.declared.sorts.Op.TheVariants.{Entry, Input}
use Rattle.graph_meaning.specs.Graphs.{plain_row}
use Rattle.graph_meaning.specs.WellFormed.{next_class}
use Rattle.graph_meaning.specs.declared.graphs.LaunchRow.{LaunchRow}
use Rattle.own_graph.specs.Rows.{HasRoom, class_in, classes_of, with_applied, with_leaves, with_row}
use Rattle.own_graph.specs.declared.operands.Part.{Part}
use Rattle.own_graph.specs.declared.operands.Part.TheVariants.{Class, Leaf}
use Rattle.own_graph.proofs.OwnRows.{next_few}

pub less_room : (m n : ℕ) (rows : List LaunchRow) → m ≤ n → HasRoom n rows → HasRoom m rows
less_room m n rows l h = record { low = h.low; few = (let few = h.few in omega (arith, few)) }

pub room_behind : (n : ℕ) (rows : List LaunchRow) (r : LaunchRow) → r.class ≤ length rows → HasRoom (n + 1) rows → HasRoom n (rows ++ r ∷ [])
room_behind n rows r l h =
    let count = length_push rows r in
    let few = h.few in
    record {
      low = All-push (λ (s : LaunchRow). s.class < length (rows ++ r ∷ [])) rows r
          (All-weaker (λ (s : LaunchRow). s.class < length rows) (λ (s : LaunchRow). s.class < length (rows ++ r ∷ [])) (λ s m. omega (arith, m, count)) rows h.low)
          (omega (arith, l, count));
      few = omega (arith, few, count);
    }

pub row_room : (n : ℕ) (rows : List LaunchRow) (op : Op) (operands : List ℕ) → HasRoom (n + 1) rows → HasRoom n (with_row rows op operands)
row_room n rows op operands h = by (is_some (class_in rows op operands))
  where
    by : (b : Bool) → HasRoom n (if b then rows else rows ++ plain_row (next_class rows) op operands ∷ [])
    by true = less_room n (n + 1) rows (omega arith) h
    by false = room_behind n rows (plain_row (next_class rows) op operands) (next_few rows h.low) h

pub leaves_room : (n : ℕ) (rows : List LaunchRow) (parts : List Part) → HasRoom (n + length parts) rows → HasRoom n (with_leaves rows parts)
leaves_room n rows [] h = less_room n (n + 0) rows (omega arith) h
leaves_room n rows (Class c ∷ parts) h = leaves_room n rows parts (less_room (n + length parts) (n + suc (length parts)) rows (omega arith) h)
leaves_room n rows (Leaf op ∷ parts) h =
    leaves_room n (with_row rows op []) parts
    (row_room (n + length parts) rows op [] (less_room (n + length parts + 1) (n + suc (length parts)) rows (omega arith) h))

pub applied_room : (n : ℕ) (rows : List LaunchRow) (op : Op) (parts : List Part) → HasRoom (n + 1 + length parts) rows → HasRoom n (with_applied rows op parts)
applied_room n rows op parts h =
    let all = with_leaves rows parts in
    row_room n all op (classes_of all parts) (leaves_room (n + 1) rows parts h)

pub inputs_room : (n : ℕ) (rows : List LaunchRow) (inputs : List ℕ) → HasRoom (n + length inputs) rows → HasRoom n (fold (λ rows r. with_row rows (Input r) []) rows inputs)
inputs_room n rows [] h = less_room n (n + 0) rows (omega arith) h
inputs_room n rows (r ∷ inputs) h =
    inputs_room n (with_row rows (Input r) []) inputs
    (row_room (n + length inputs) rows (Input r) [] (less_room (n + length inputs + 1) (n + suc (length inputs)) rows (omega arith) h))

pub entry_room : (n : ℕ) → n < 2 ^ 32 → HasRoom n (plain_row 0 Entry [] ∷ [])
entry_room n l = record {
  low = All-cons (λ (r : LaunchRow). r.class < 1) (plain_row 0 Entry []) [] (omega arith) (All-nil (λ (r : LaunchRow). r.class < 1));
  few = omega (arith, l);
}
