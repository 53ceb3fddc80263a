-- Each line of a well-formed graph is words of a line.
use Rattle.std.proofs.Common.{◌≡◌, ℕ, zero, suc, ◌<◌, ◌≤◌, ◌^◌, List, [], ◌∷◌, ◌++◌, length, map, get_or, refl, sym, subst, arith, inl, inr, ◌⊎◌, codes, decimal, Option, Some, None, true, false, Bool}
use Rattle.std.specs.Prelude.{All, IfSome, IsTrue, is_some, slice_get}
use Rattle.std.proofs.lemmas.List.Elements.{All-nil, All-cons, All-append, All-map, All-weaker}
use Rattle.std.proofs.lemmas.Option.{slice_get-get_or}
use Rattle.word_ops.specs.Names.{name_of, select_name, store_name, load_name, put_name}
use Rattle.word_ops.specs.Meanings.{constant_in}
use Rattle.word_ops.specs.declared.operators.WordOp.{WordOp}
use Rattle.word_ops.specs.declared.operates.Operate.TheVariants.{Addl}
use Rattle.word_ops.specs.declared.operators.WordOp.TheVariants.{Operate}
use Rattle.word_ops.specs.declared.sorts.Access.{Access}
use Rattle.word_ops.specs.declared.sorts.Access.TheVariants as accesses
use Rattle.word_ops.specs.declared.sorts.Op.{Op}
use Rattle.word_ops.specs.declared.sorts.Op.TheVariants as op
use Rattle.word_ops.specs.declared.sorts.Sort.{Sort}
use Rattle.word_ops.specs.declared.sorts.Sort.TheVariants as sorts
use Rattle.text_core.specs.Lines.{IsLineWord}
use Rattle.text_core.specs.LineTexts.{Words, CanBeLine}
use Rattle.text_core.specs.Names.{IsName}
use Rattle.graph_meaning.specs.Graphs.{HasNoPins}
use Rattle.graph_meaning.specs.declared.graphs.LaunchRow.{LaunchRow}
use Rattle.graph_meaning.specs.declared.graphs.InputClass.{InputClass}
use Rattle.graph_meaning.specs.declared.graphs.Guard.{Guard}
use Rattle.graph_meaning.specs.declared.graphs.SetClass.{SetClass}
use Rattle.graph_meaning.specs.declared.graphs.LaunchGraph.{LaunchGraph}
use Rattle.launch_graph.specs.declared.row_lines.RowLine.{RowLine}
use Rattle.launch_graph.specs.GraphLines.{graph_lines, said, said_row, said_op, AreGraphLines, PinFits, SetFits, rows_words, entry_words, in_words, pool_words, guard_words, guard_lines, held_word, pin_words, set_words}
use Rattle.launch_graph.specs.RowLines.{row_words, line_op_words, IsRowLine, IsLineOp}
use Rattle.graph_meaning.specs.WellFormed.{IsLaunchGraph, ClassHasSort, TakesItsSorts, declared_index, register_of_input, set_sort}
use Rattle.graph_meaning.proofs.Classes.{class_below, rows_low}
use Rattle.launch_graph.proofs.Printed.{map_count}

pub operator_word : (op : WordOp) → IsLineWord (name_of op)
operator_word (Operate Addl) = record { some = λ e. cc; printed = refl }
operator_word (Operate _) = record { some = λ e. cc; printed = refl }
operator_word _ = record { some = λ e. cc; printed = refl }

select_word : (access : Access) → IsLineWord (select_name access)
select_word accesses.Quad = record { some = λ e. cc; printed = refl }
select_word accesses.Byte = record { some = λ e. cc; printed = refl }
select_word accesses.Word = record { some = λ e. cc; printed = refl }
select_word accesses.Long = record { some = λ e. cc; printed = refl }

store_word : (access : Access) → IsLineWord (store_name access)
store_word accesses.Quad = record { some = λ e. cc; printed = refl }
store_word accesses.Byte = record { some = λ e. cc; printed = refl }
store_word accesses.Word = record { some = λ e. cc; printed = refl }
store_word accesses.Long = record { some = λ e. cc; printed = refl }

load_word : (access : Access) → IsLineWord (load_name access)
load_word accesses.Quad = record { some = λ e. cc; printed = refl }
load_word accesses.Byte = record { some = λ e. cc; printed = refl }
load_word accesses.Word = record { some = λ e. cc; printed = refl }
load_word accesses.Long = record { some = λ e. cc; printed = refl }

put_word : (access : Access) → IsLineWord (put_name access)
put_word accesses.Quad = record { some = λ e. cc; printed = refl }
put_word accesses.Byte = record { some = λ e. cc; printed = refl }
put_word accesses.Word = record { some = λ e. cc; printed = refl }
put_word accesses.Long = record { some = λ e. cc; printed = refl }

op_row : (o : Op) (name : List ℕ) → ((n : ℕ) → register_of_input o ≡ Some n → n < 31) → ((n : ℕ) → constant_in o ≡ Some n → n < 2 ^ 64)
    → (IsTrue (is_some (declared_index o)) → IsName name) → IsLineOp (said_op o name)
op_row op.Entry name low small named = tt
op_row (op.Input r) name low small named = low r refl
op_row (op.Constant n) name low small named = small n refl
op_row (op.Word o) name low small named = tt
op_row (op.Select access) name low small named = tt
op_row (op.Store access) name low small named = tt
op_row (op.Load access) name low small named = tt
op_row (op.Put access) name low small named = tt
op_row (op.Declared i a) name low small named = named refl

-- in version 1 no set has a pin
pub unpinned_lines : (sets : List SetClass) → All (SetFits 1) sets → All (λ (s : SetClass). s.pin ≡ None) sets
unpinned_lines sets h k d lt = by_pin (get_or sets k d).pin (h k d lt).2
  where
    by_pin : (o : Option ℕ) → PinFits 1 o → o ≡ None
    by_pin None fits = refl
    by_pin (Some r) fits = (let two = fits.0 in absurd (omega (arith, two)))

pub few_rows : (g : LaunchGraph) → length (map said_row g.rows) ≤ 1000000 → length g.rows ≤ 1000000
few_rows g few = (let n = map_count said_row g.rows in omega (arith, n, few))

module _ (g : LaunchGraph) (is : IsLaunchGraph g) where
  count : length (map said_row g.rows) ≡ length g.rows
  count = map_count said_row g.rows

  abbrev SaysRow : LaunchRow → Type 0
  SaysRow r = IsRowLine (row_words (said_row r)) (said_row r)

  -- an operand is a class of some row
  operands_low : (r : LaunchRow) → TakesItsSorts g r → All (λ n. n < length g.rows) r.operands
  operands_low r takes k d lt =
      subst (λ n. n < length g.rows) (at_default r.operands k d lt)
      (class_below g is _ (get_or r.operands k 0) (takes k lt))
    where
      at_default : (xs : List ℕ) (k d : ℕ) → k < length xs → get_or xs k 0 ≡ get_or xs k d
      at_default [] k d lt = absurd (omega arith)
      at_default (x ∷ xs) zero d lt = refl
      at_default (x ∷ xs) (suc k) d lt = at_default xs k d (omega arith)

  says_rows : All SaysRow g.rows
  says_rows k d lt =
      let r : LaunchRow = get_or g.rows k d in
      let at : slice_get g.rows k ≡ Some r = slice_get-get_or g.rows k d lt in
      let few : length g.rows < 2 ^ 30 = is.few in
      let low : r.class < length g.rows = rows_low g is k d lt in
      record {
        is = refl;
        class = omega arith;
        op = op_row r.op r.name (λ n e. is.registers r k n at e) (λ n e. is.words r k n at e) (is.named k d lt);
        operands = All-weaker (λ n. n < length g.rows) (λ n. n < 2 ^ 31) (λ n h. omega arith) r.operands (operands_low r (is.operands k d lt));
      }

  class_fits : (sort : Sort) (class : ℕ) → ClassHasSort g sort class → class < 2 ^ 31
  class_fits sort class h =
      let few : length g.rows < 2 ^ 30 = is.few in
      let low : class < length g.rows = class_below g is sort class h in
      omega arith

  pub entry_fits : g.entry < 2 ^ 31
  entry_fits = class_fits sorts.Memory g.entry is.entry

  abbrev InputFits : InputClass → Type 0
  InputFits i = IsName i.name × (i.reg < 31) × (i.class < 2 ^ 31)

  pub inputs_fit : All InputFits g.inputs
  inputs_fit k d lt =
      (is.names.0 k d lt, (is.inputs k d lt).1, class_fits sorts.Word (get_or g.inputs k d).class (is.inputs k d lt).0)

  pub guard_fits : (guard : Option Guard) → IfSome guard (λ (o : Guard). ClassHasSort g sorts.Word o.class) → IfSome guard (λ (o : Guard). o.class < 2 ^ 31)
  guard_fits None h = tt
  guard_fits (Some o) h = class_fits sorts.Word o.class h

  abbrev SetIsLow : SetClass → Type 0
  SetIsLow s = IsName s.name × (s.class < 2 ^ 31) × IfSome s.pin (λ r. r < 31)

  pub sets_low : All SetIsLow g.sets
  sets_low k d lt =
      (is.names.1 k d lt, class_fits (set_sort (get_or g.sets k d).name) (get_or g.sets k d).class (is.sets k d lt), is.pins k d lt)

  -- the words of a row say it
  pub rows_fit : All (λ (r : RowLine). IsRowLine (row_words r) r) (map said_row g.rows)
  rows_fit = All-map (λ (r : RowLine). IsRowLine (row_words r) r) said_row g.rows says_rows

  -- from version 2 on there is each pin, and each version a set without one
  pin_fits : (version : ℕ) → (2 ≤ version) ⊎ HasNoPins g → (k : ℕ) (d : SetClass) → k < length g.sets → PinFits version (get_or g.sets k d).pin
  pin_fits version (inl two) k d lt = by_pin (get_or g.sets k d).pin (is.pins k d lt)
    where
      by_pin : (o : Option ℕ) → IfSome o (λ r. r < 31) → PinFits version o
      by_pin None low = tt
      by_pin (Some r) low = (two, low)
  pin_fits version (inr unpinned) k d lt = subst (PinFits version) (sym (unpinned k d lt)) tt

  pub are_graph_lines : (version : ℕ) → (2 ≤ version) ⊎ HasNoPins g → length g.rows ≤ 1000000 → AreGraphLines version (said g)
  are_graph_lines version tells few =
      record {
        few = (let n : length (map said_row g.rows) ≡ length g.rows = count in omega arith);
        rows = rows_fit;
        entry = entry_fits;
        inputs = inputs_fit;
        pool = is.pool;
        guard = guard_fits g.guard is.guard;
        sets = λ k d lt. (let low = sets_low k d lt in (low.0, low.1, pin_fits version tells k d lt, is.memory_unpinned k d lt));
        own_pins = is.own_pins;
      }

  module _ (number : (n : ℕ) → n < 2 ^ 64 → IsLineWord (decimal n)) (name : (bytes : List ℕ) → IsName bytes → IsLineWord bytes) where
    fixed : (word : List ℕ) → IsLineWord word → (ws : Words) → All IsLineWord ws → CanBeLine (word ∷ ws)
    fixed word one ws rest = record { some = λ e. cc; each = All-cons IsLineWord word ws one rest }

    small_number : (n : ℕ) → n < 2 ^ 31 → IsLineWord (decimal n)
    small_number n low = number n (omega arith)

    numbers : (ns : List ℕ) → All (λ n. n < 2 ^ 31) ns → All IsLineWord (map decimal ns)
    numbers ns low = All-map IsLineWord decimal ns (All-weaker (λ n. n < 2 ^ 31) (λ n. IsLineWord (decimal n)) small_number ns low)

    one_word : (w : List ℕ) → IsLineWord w → All IsLineWord (w ∷ [])
    one_word w h = All-cons IsLineWord w [] h (All-nil IsLineWord)

    two_words : (v w : List ℕ) → IsLineWord v → IsLineWord w → All IsLineWord (v ∷ w ∷ [])
    two_words v w h j = All-cons IsLineWord v (w ∷ []) h (one_word w j)

    op_line : (o : Op) (bytes : List ℕ) → IsLineOp (said_op o bytes) → All IsLineWord (line_op_words (said_op o bytes))
    op_line op.Entry bytes h = one_word (codes "memory") (record { some = λ e. cc; printed = refl })
    op_line (op.Input r) bytes h = two_words (codes "input") (decimal r) (record { some = λ e. cc; printed = refl }) (number r (omega arith))
    op_line (op.Constant n) bytes h = two_words (codes "const") (decimal n) (record { some = λ e. cc; printed = refl }) (number n h)
    op_line (op.Word o) bytes h = one_word (name_of o) (operator_word o)
    op_line (op.Select access) bytes h = one_word (select_name access) (select_word access)
    op_line (op.Store access) bytes h = one_word (store_name access) (store_word access)
    op_line (op.Load access) bytes h = one_word (load_name access) (load_word access)
    op_line (op.Put access) bytes h = one_word (put_name access) (put_word access)
    op_line (op.Declared i a) bytes h = two_words (codes "use") bytes (record { some = λ e. cc; printed = refl }) (name bytes h)

    row_line : (r : LaunchRow) → SaysRow r → CanBeLine (row_words (said_row r))
    row_line r h =
        fixed (decimal r.class) (small_number r.class h.class) (line_op_words (said_op r.op r.name) ++ map decimal r.operands)
        (All-append IsLineWord (line_op_words (said_op r.op r.name)) (map decimal r.operands) (op_line r.op r.name h.op) (numbers r.operands h.operands))

    in_line : (i : InputClass) → InputFits i → CanBeLine (in_words i)
    in_line i h =
        fixed (codes "in") (record { some = λ e. cc; printed = refl }) (i.name ∷ decimal i.reg ∷ decimal i.class ∷ [])
        (All-cons IsLineWord i.name (decimal i.reg ∷ decimal i.class ∷ []) (name i.name h.0)
        (two_words (decimal i.reg) (decimal i.class) (number i.reg (let low : i.reg < 31 = h.1 in omega arith)) (small_number i.class h.2)))

    held_printed : (held : Bool) → IsLineWord (held_word held)
    held_printed true = record { some = λ e. cc; printed = refl }
    held_printed false = record { some = λ e. cc; printed = refl }

    guard_line : (guard : Option Guard) → IfSome guard (λ (o : Guard). o.class < 2 ^ 31) → All CanBeLine (guard_lines guard)
    guard_line None h = All-nil CanBeLine
    guard_line (Some o) h =
        All-cons CanBeLine (guard_words o) []
        (fixed (codes "guard") (record { some = λ e. cc; printed = refl }) (decimal o.class ∷ held_word o.held ∷ [])
        (two_words (decimal o.class) (held_word o.held) (small_number o.class h) (held_printed o.held)))
        (All-nil CanBeLine)

    pin_word : (pin : Option ℕ) → IfSome pin (λ r. r < 31) → All IsLineWord (pin_words pin)
    pin_word None h = All-nil IsLineWord
    pin_word (Some r) h = (let low : r < 31 = h in one_word (decimal r) (number r (omega arith)))

    set_line : (s : SetClass) → SetIsLow s → CanBeLine (set_words s)
    set_line s h =
        fixed (codes "set") (record { some = λ e. cc; printed = refl }) (s.name ∷ decimal s.class ∷ pin_words s.pin)
        (All-cons IsLineWord s.name (decimal s.class ∷ pin_words s.pin) (name s.name h.0)
        (All-cons IsLineWord (decimal s.class) (pin_words s.pin) (small_number s.class h.1) (pin_word s.pin h.2)))

    pub lines_have_words : All CanBeLine (graph_lines (said g))
    lines_have_words =
        let few : length g.rows < 2 ^ 30 = is.few in
        let n : length (map said_row g.rows) ≡ length g.rows = count in
        let sets : List Words = map set_words g.sets in
        let last : List Words = guard_lines g.guard ++ sets in
        let tail : List Words = pool_words g.pool ∷ last in
        let inputs : List Words = map in_words g.inputs ++ tail in
        let behind : List Words = entry_words g.entry ∷ inputs in
        let rows : List Words = map row_words (map said_row g.rows) in
        let sets_are : All CanBeLine sets = All-map CanBeLine set_words g.sets (All-weaker SetIsLow (λ s. CanBeLine (set_words s)) set_line g.sets sets_low) in
        let last_are : All CanBeLine last = All-append CanBeLine (guard_lines g.guard) sets (guard_line g.guard (guard_fits g.guard is.guard)) sets_are in
        let pool_is : CanBeLine (pool_words g.pool) =
        fixed (codes "pool") (record { some = λ e. cc; printed = refl }) (map decimal g.pool)
        (numbers g.pool (All-weaker (λ n. n < 31) (λ n. n < 2 ^ 31) (λ n h. omega arith) g.pool is.pool)) in
        let inputs_are : All CanBeLine (map in_words g.inputs) =
        All-map CanBeLine in_words g.inputs (All-weaker InputFits (λ i. CanBeLine (in_words i)) in_line g.inputs inputs_fit) in
        let rows_are : All CanBeLine rows =
        All-map CanBeLine row_words (map said_row g.rows)
        (All-map (λ (r : RowLine). CanBeLine (row_words r)) said_row g.rows
        (All-weaker SaysRow (λ r. CanBeLine (row_words (said_row r))) row_line g.rows says_rows)) in
        All-cons CanBeLine (rows_words (length (map said_row g.rows))) (rows ++ behind)
        (fixed (codes "rows") (record { some = λ e. cc; printed = refl }) (decimal (length (map said_row g.rows)) ∷ [])
        (one_word (decimal (length (map said_row g.rows))) (number (length (map said_row g.rows)) (omega arith))))
        (All-append CanBeLine rows behind rows_are
        (All-cons CanBeLine (entry_words g.entry) inputs
        (fixed (codes "entry") (record { some = λ e. cc; printed = refl }) (decimal g.entry ∷ []) (one_word (decimal g.entry) (small_number g.entry entry_fits)))
        (All-append CanBeLine (map in_words g.inputs) tail inputs_are (All-cons CanBeLine (pool_words g.pool) last pool_is last_are))))
