-- What a class has as its value where a graph is true.
use Rattle.std.proofs.Common.{◌≡◌, ℕ, List, sym, ◌∙◌, ap, subst, map, Some}
use Rattle.std.specs.Prelude.{slice_index}
use Rattle.std.proofs.lemmas.Option.{same_Some}
use Rattle.word_ops.specs.Worlds.{World, Value, word, IsValue}
use Rattle.word_ops.specs.Meanings.{meaning, constant_in, sort_of}
use Rattle.word_ops.specs.declared.sorts.Sort.{Sort}
use Rattle.word_ops.specs.declared.sorts.Op.{Op}
use Rattle.word_ops.specs.declared.sorts.Op.TheVariants.{Entry, Input, Constant, Word, Select, Store, Load, Put, Declared}
use Rattle.graph_meaning.specs.Graphs.{constant_of, row_meaning, IsTrueUnder, input_register}
use Rattle.graph_meaning.specs.WellFormed.{ClassHasSort}
use Rattle.graph_meaning.specs.declared.graphs.LaunchRow.{LaunchRow}
use Rattle.graph_meaning.specs.declared.graphs.InputClass.{InputClass}
use Rattle.graph_meaning.specs.declared.graphs.LaunchGraph.{LaunchGraph}
use Rattle.graph_meaning.proofs.Classes.{constant_row, input_is}

pub constant_means : (w : World) (names : ℕ → List ℕ) (o : Op) (vs : List Value) (n : ℕ) → constant_in o ≡ Some n
    → meaning w names o vs ≡ word n
constant_means w names (Constant m) vs n e = ap word (same_Some m n e)
constant_means w names Entry vs n e = cc
constant_means w names (Input r) vs n e = cc
constant_means w names (Word o) vs n e = cc
constant_means w names (Select access) vs n e = cc
constant_means w names (Store access) vs n e = cc
constant_means w names (Load access) vs n e = cc
constant_means w names (Put access) vs n e = cc
constant_means w names (Declared i a) vs n e = cc

module _ (g : LaunchGraph) (w : World) (value : ℕ → Value) (true_here : IsTrueUnder g w value) where
  pub constant_is : (class n : ℕ) → constant_of g class ≡ Some n → value class ≡ word n
  constant_is class n e =
      let h = constant_row g.rows class n e in
      let P : LaunchRow → Type 0 = λ r. value r.class ≡ row_meaning w r (map value r.operands) in
      let at : value h.1.class ≡ row_meaning w h.1 (map value h.1.operands) = subst P h.3 (true_here.rows h.0 h.1 h.2) in
      sym (ap value h.4.0) ∙ at ∙ constant_means w (λ _. h.1.name) h.1.op (map value h.1.operands) n h.4.1

  pub input_value : (class register : ℕ) → input_register g class ≡ Some register
      → value class ≡ word (slice_index w.registers register)
  input_value class register e =
      let h = input_is g class register e in
      let P : InputClass → Type 0 = λ i. value i.class ≡ word (slice_index w.registers i.reg) in
      let at : P h.1 = subst P h.3 (true_here.inputs h.0 h.1 h.2) in
      sym (ap value h.4.0) ∙ at ∙ ap (λ k. word (slice_index w.registers k)) h.4.1

  pub sort_value : (sort : Sort) (class : ℕ) → ClassHasSort g sort class → IsValue sort (value class)
  sort_value sort class h =
      let P : LaunchRow → Type 0 = λ r. IsValue (sort_of r.op) (value r.class) in
      let at : P h.1 = subst P h.3 (true_here.sorts h.0 h.1 h.2) in
      subst (λ s. IsValue s (value class)) h.4.1 (subst (λ k. IsValue (sort_of h.1.op) (value k)) h.4.0 at)
