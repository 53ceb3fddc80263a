use Rattle.std.proofs.Common.{◌≡◌, ◌≤◌, length, slice_index, Contains, refl, sym, subst, inl, inr, arith}
use Rattle.egraph.specs.Graph.{read_through}
use Rattle.egraph.proofs.Sorts.{longer, same_before, rows_before, inserted_row}
use Rattle.egraph.proofs.laws.inserts_keep_rows.Goals as goal

pub returns : goal.returns
returns g c = record {
  longer = λ old op operands class new i. elim i [
    | inl h ↦ subst (λ x. length old.current ≤ length x.current) (sym h.1) (omega arith)
    | inr h ↦ subst (λ x. length old.current ≤ length x.current) (sym h.2) (omega (arith, longer old op (read_through old operands)))
  ];
  current = λ old op operands class new i c l. elim i [
    | inl h ↦ subst (λ x. slice_index x.current c ≡ slice_index old.current c) (sym h.1) refl
    | inr h ↦ subst (λ x. slice_index x.current c ≡ slice_index old.current c) (sym h.2) (same_before old op (read_through old operands) c l)
  ];
  rows = λ old op operands class new i r k. elim i [
    | inl h ↦ subst (λ x. Contains x.rows r) (sym h.1) k
    | inr h ↦ subst (λ x. Contains x.rows r) (sym h.2) (rows_before old op (read_through old operands) r k)
  ];
  row = λ old op operands class new i. inserted_row old op operands class new i;
}
