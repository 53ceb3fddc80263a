-- What an item reads is the value of its operand's class.
use Rattle.std.proofs.Common.{◌≡◌, ℕ, zero, suc, ◌+◌, ◌<◌, ◌≤◌, List, [], ◌∷◌, length, refl, sym, ◌∙◌, ap, subst, inl, inr, ◌⊎◌, arith, Bool, true, false, cond, ◌&&◌, get_or, map, Option, Some, None}
use Rattle.std.specs.Prelude.{All, AllPairs, Any, Contains, Decides, IsTrue, slice_get, slice_index, ◌==◌, nat_lt, not, if◌then◌else◌, position, find, option_map}
use Rattle.std.specs.Option.{option_map_or, option_or}
use Rattle.std.specs.List.{prefix_len}
use Rattle.std.proofs.lemmas.Bool.{false≢true}
use Rattle.std.proofs.lemmas.Bool.Decides.{eqb_tells, Decides-ltb}
use Rattle.std.proofs.lemmas.List.Elements.{All-head, All-tail, All-contains}
use Rattle.std.proofs.lemmas.List.Quantifiers.{position-Some}
use Rattle.std.proofs.lemmas.Option.{slice_get-get_or, same_Some, none-some}
use Rattle.word_ops.specs.Worlds.{World, Value, word}
use Rattle.graph_meaning.specs.Graphs.{constant_among, constant_of, row_meaning, IsTrueUnder, is_zero_class}
use Rattle.word_ops.specs.Meanings.{constant_in}
use Rattle.word_ops.specs.Meanings.{meaning}
use Rattle.machine_table.specs.Tables.{cluster_of}
use Rattle.schedule_meaning.specs.Launches.{launches, gives_word, class_at, ready_in, writes_pin, StandsBefore, IsZero, HasInput, IsUnwritten, IsReadable, Gives}
use Rattle.schedule_meaning.specs.Readers.{is_intact, passes as passes_by, input_where}
use Rattle.schedule_meaning.specs.Fits.{Collide}
use Rattle.alpha_machine.specs.States.{MachineState}
use Rattle.register_assign.specs.Listings.{register_at, register_by, register_for, target_register, or_register}
use Rattle.graph_meaning.specs.Graphs.{is_input_register}
use Rattle.schedule_meaning.specs.Launches.{gives}
use Rattle.register_assign.proofs.Reached.{HasReached, IsUntouched, Lasts}
use Rattle.schedule_meaning.proofs.Pins.{any_at}
use Rattle.register_assign.proofs.Intact.{intact_before, intact_at_end, unspoilt_is_intact, unwritten_is_intact}
use Rattle.word_ops.specs.declared.sorts.Op.{Op}
use Rattle.word_ops.specs.declared.sorts.Op.TheVariants.{Entry, Input, Constant, Word, Select, Store, Load, Put, Declared}
use Rattle.graph_meaning.specs.declared.graphs.LaunchRow.{LaunchRow}
use Rattle.graph_meaning.specs.declared.graphs.InputClass.{InputClass}
use Rattle.graph_meaning.specs.declared.graphs.LaunchGraph.{LaunchGraph}
use Rattle.machine_table.specs.declared.tables.Table.{Table}
use Rattle.schedule_meaning.specs.declared.schedules.Allocation.{Allocation}
use Rattle.schedule_meaning.specs.declared.schedules.Launch.{Launch}
use Rattle.schedule_meaning.specs.declared.schedules.To.TheVariants.{Pool}
use Rattle.schedule_meaning.proofs.Comparisons.{and_left, and_right, and_both, le_true, true_le}
use Rattle.schedule_meaning.proofs.Rules.{in_list, at_pair}
use Rattle.graph_meaning.proofs.Lists.{any_cases, any_nil}

-- ---- constants

module _ (w : World) (value : ℕ → Value) where
  abbrev RowIsTrue : LaunchRow → Type 0
  RowIsTrue r = value r.class ≡ row_meaning w r (map value r.operands)

  constant_row : (name : List ℕ) (o : Op) (vs : List Value) (n : ℕ) → constant_in o ≡ Some n → meaning w (λ _. name) o vs ≡ word n
  constant_row name (Constant m) vs n e = ap word (same_Some m n e)
  constant_row name Entry vs n e = cc
  constant_row name (Input r) vs n e = cc
  constant_row name (Word o) vs n e = cc
  constant_row name (Select access) vs n e = cc
  constant_row name (Store access) vs n e = cc
  constant_row name (Load access) vs n e = cc
  constant_row name (Put access) vs n e = cc
  constant_row name (Declared i a) vs n e = cc

  constant_step : (r : LaunchRow) (rs : List LaunchRow) (class n : ℕ) → RowIsTrue r → (constant_among rs class ≡ Some n → value class ≡ word n) → (b : Bool) → (b ≡ true → r.class ≡ class) → (o : Option ℕ) → constant_in r.op ≡ o → cond b (option_or o (constant_among rs class)) (constant_among rs class) ≡ Some n → value class ≡ word n
  constant_step r rs class n h rest true t (Some m) is e = sym (ap value (t refl)) ∙ h ∙ constant_row r.name r.op (map value r.operands) n (is ∙ e)
  constant_step r rs class n h rest true t None is e = rest e
  constant_step r rs class n h rest false t o is e = rest e

  same_class : (a b : ℕ) → (a == b) ≡ true → a ≡ b
  same_class a b h = elim (eqb_tells a b) [ inl t ↦ t.1 | inr t ↦ absurd (false≢true (sym t.0 ∙ h)) ]

  pub constant_is : (rs : List LaunchRow) (class n : ℕ) → All RowIsTrue rs → constant_among rs class ≡ Some n → value class ≡ word n
  constant_is [] class n h e = absurd (none-some n e)
  constant_is (r ∷ rs) class n h e =
      constant_step r rs class n (All-head RowIsTrue r rs h) (constant_is rs class n (All-tail RowIsTrue r rs h)) (r.class == class) (same_class r.class class) (constant_in r.op) refl e

-- ---- the first that passes

found_step : {X : Type 0} (p : X → Bool) (P : X → Type 0) (y : X) (ys : List X) (x : X) → P y → (find p ys ≡ Some x → P x × (p x ≡ true)) → (b : Bool) → p y ≡ b → cond b (Some y) (find p ys) ≡ Some x → P x × (p x ≡ true)
found_step p P y ys x h rest true t e = (subst P (same_Some y x e) h, ap p (sym (same_Some y x e)) ∙ t)
found_step p P y ys x h rest false t e = rest e

pub found_passes : {X : Type 0} (p : X → Bool) (P : X → Type 0) (xs : List X) (x : X) → All P xs → find p xs ≡ Some x → P x × (p x ≡ true)
found_passes p P [] x h e = absurd (none-some x e)
found_passes p P (y ∷ ys) x h e = found_step p P y ys x (All-head P y ys h) (found_passes p P ys x (All-tail P y ys h)) (p y) refl e

not_lost_step : {X : Type 0} (p : X → Bool) (y : X) (ys : List X) → ((find p ys ≡ None) → ¬ Any (λ x. p x ≡ true) ys) → (b : Bool) → p y ≡ b → cond b (Some y) (find p ys) ≡ None → ¬ Any (λ x. p x ≡ true) (y ∷ ys)
not_lost_step p y ys rest true t e h = absurd (none-some y (sym e))
not_lost_step p y ys rest false t e h = elim (any_cases (λ x. p x ≡ true) y ys h) [ inl n ↦ false≢true (sym t ∙ n) | inr n ↦ rest e n ]

find_none : {X : Type 0} (p : X → Bool) (xs : List X) → find p xs ≡ None → ¬ Any (λ x. p x ≡ true) xs
find_none p [] e h = any_nil (λ x. p x ≡ true) h
find_none p (y ∷ ys) e h = not_lost_step p y ys (find_none p ys) (p y) refl e h

prefix_step : {X : Type 0} (p : X → Bool) (ys : List X) (k : ℕ) → (b : Bool) → (b ≡ true) ⊎ ((j : ℕ) × (k ≡ suc j) × (prefix_len (λ z. not (p z)) ys ≤ j)) → cond (not b) (1 + prefix_len (λ z. not (p z)) ys) 0 ≤ k
prefix_step p ys k true h = omega arith
prefix_step p ys k false (inl e) = absurd (false≢true e)
prefix_step p ys k false (inr (j, e, l)) = omega arith

prefix_le : {X : Type 0} (p : X → Bool) (xs : List X) (k : ℕ) (x : X) → slice_get xs k ≡ Some x → p x ≡ true → prefix_len (λ z. not (p z)) xs ≤ k
prefix_le p [] k x e t = absurd (none-some x e)
prefix_le p (y ∷ ys) zero x e t = prefix_step p ys 0 (p y) (inl (ap p (same_Some y x e) ∙ t))
prefix_le p (y ∷ ys) (suc k) x e t = prefix_step p ys (suc k) (p y) (inr (k, refl, prefix_le p ys k x e t))

position_step : (n m : ℕ) (b : Bool) → Decides b (n < m) → n < m → cond b (Some n) None ≡ None → ⊥
position_step n m true d l e = none-some n (sym e)
position_step n m false d l e = false≢true (d.1 l)

position_none : {X : Type 0} (p : X → Bool) (xs : List X) → position p xs ≡ None → (k : ℕ) (x : X) → slice_get xs k ≡ Some x → p x ≡ true → ⊥
position_none p xs e k x at t =
    let le : prefix_len (λ z. not (p z)) xs ≤ k = prefix_le p xs k x at t in
    let lt : k < length xs = in_list xs k x at in
    position_step (prefix_len (λ z. not (p z)) xs) (length xs) (nat_lt (prefix_len (λ z. not (p z)) xs) (length xs)) (Decides-ltb (prefix_len (λ z. not (p z)) xs) (length xs)) (omega arith) e

equal_true : (a b : ℕ) → a ≡ b → (a == b) ≡ true
equal_true a b h = elim (eqb_tells a b) [ inl t ↦ t.0 | inr t ↦ absurd (t.1 h) ]

zero_constant : (o : Option ℕ) → option_map_or (λ n. n == 0) o false ≡ true → o ≡ Some 0
zero_constant None e = absurd (false≢true e)
zero_constant (Some n) e = elim (eqb_tells n 0) [ inl t ↦ ap Some t.1 | inr t ↦ absurd (false≢true (sym t.0 ∙ e)) ]

constant_zero : (o : Option ℕ) → o ≡ Some 0 → option_map_or (λ n. n == 0) o false ≡ true
constant_zero o e = ap (λ p. option_map_or (λ n. n == 0) p false) e

module _ (g : LaunchGraph) (table : Table) (allocation : Allocation) (ordered : List Launch) (w : World)
    (value : ℕ → Value)
    (true_in : IsTrueUnder g w value)
    (zero_register : slice_index w.registers 31 ≡ 0)
    (low : All (λ r. r < 31) g.pool)
    (inputs_apart : All (λ i. ¬ Contains g.pool i.reg) g.inputs)
    (none_31 : (j : ℕ) (m : Launch) → slice_get ordered j ≡ Some m → ¬ IsTrue (writes_pin g 31 m))
    (apart : AllPairs (λ l m. ¬ Collide l m) ordered)
    (order : AllPairs (StandsBefore g) ordered)
    (positive : (j : ℕ) (m : Launch) (c : ℕ) → slice_get ordered j ≡ Some m → m.cycle < ready_in g table c m) where
  not_31 : ¬ Contains g.pool 31
  not_31 h = let l : 31 < 31 = All-contains (λ r. r < 31) g.pool 31 low h in absurd (omega arith)

  stands : (n j : ℕ) (l m : Launch) → n < j → slice_get ordered n ≡ Some l → slice_get ordered j ≡ Some m → l.cycle ≤ m.cycle
  stands n j l m lt el em =
      elim (at_pair (StandsBefore g) ordered order n j l m lt el em) [ inl h ↦ (let k : l.cycle < m.cycle = h in omega arith) | inr h ↦ (let k : l.cycle ≡ m.cycle = h.0 in omega arith) ]

  one_of_three : (a b : ℕ) → (a < b) ⊎ (b < a) ⊎ (a ≡ b)
  one_of_three a b = grind arith

  -- a launch that is ready for a reader stands before it
  pub ready_stands_before : (n j : ℕ) (l m : Launch) (c : ℕ) → slice_get ordered n ≡ Some l → slice_get ordered j ≡ Some m → ready_in g table c m ≤ l.cycle → j < n
  ready_stands_before n j l m c el em ready =
      let p : m.cycle < ready_in g table c m = positive j m c em in
      elim (one_of_three j n) [
        | inl h ↦ h
        | inr h ↦ elim h [
          | inl h ↦ (let k : l.cycle ≤ m.cycle = stands n j l m h el em in absurd (omega arith))
          | inr h ↦ (let k : m.cycle ≡ l.cycle = ap (λ x. x.cycle) (same_Some m l (sym em ∙ ap (slice_get ordered) h ∙ el)) in absurd (omega arith))
        ]
      ]

  -- the register chosen among inputs whose registers were not written before place n, and launches that stand before it
  -- and whose registers last
  module _ (n : ℕ) (s : MachineState) (reached : HasReached g allocation w value ordered n s) (holds : ℕ → Bool) (test : Launch → Bool)
      (untouched : (r : ℕ) → is_input_register g r ≡ true → holds r ≡ true → IsUntouched g ordered n r)
      (before : (j : ℕ) (m : Launch) → slice_get ordered j ≡ Some m → test m ≡ true → j < n)
      (class : ℕ)
      (lasts : is_zero_class g class ≡ false → input_where g holds class ≡ None → (j : ℕ) (m : Launch) → slice_get
      ordered j ≡ Some m → IsTrue (launches g gives_word m) → class_at g m.row ≡ class → Lasts g allocation ordered j n)
    where
      abbrev passes : Launch → Bool
      passes m = gives g class m && test m

      abbrev IsChosenFrom : Type 0
      IsChosenFrom =
          IsZero g class ⊎ (HasInput g class (λ r. holds r ≡ true) ⊎ Any (λ m. Gives g class m × (test m ≡ true)) ordered)

      abbrev of_class : InputClass → Bool
      of_class i = (i.class == class) && holds i.reg

      input_value : (o : Option InputClass) → find of_class g.inputs ≡ o → (r : ℕ) → option_map (λ i. i.reg) o ≡ Some r
          → word (slice_index s.registers r) ≡ value class
      input_value None e r f = absurd (none-some r f)
      input_value (Some i) e r f =
          let P : InputClass → Type 0 = λ x. (value x.class ≡ word (slice_index w.registers x.reg)) × (¬ Contains g.pool x.reg) × (is_input_register g x.reg ≡ true) in
          let both : All P g.inputs = λ k d lt. (true_in.inputs k d lt, inputs_apart k d lt, any_at (λ x. x.reg == (get_or g.inputs k d).reg) g.inputs k (get_or g.inputs k d) (slice_get-get_or g.inputs k d lt) (equal_true (get_or g.inputs k d).reg (get_or g.inputs k d).reg refl)) in
          let found : P i × (of_class i ≡ true) = found_passes of_class P g.inputs i both e in
          let same : i.class ≡ class = same_class w value i.class class (and_left (i.class == class) (holds i.reg) found.1) in
          let reg : i.reg ≡ r = same_Some i.reg r f in
          ap (λ x. word (slice_index s.registers x)) (sym reg) ∙ ap word (reached.kept i.reg found.0.1 (untouched i.reg found.0.2 (and_right (i.class == class) (holds i.reg) found.1))) ∙ sym found.0.0 ∙ ap value same

      launch_value : is_zero_class g class ≡ false → input_where g holds class ≡ None → (j : ℕ)
          → position passes ordered ≡ Some j
          → word (slice_index s.registers (register_at g allocation ordered j)) ≡ value class
      launch_value z i j e =
          let there = position-Some passes ordered j (record { cycle = 0; slot = 0; row = 0; to = Pool }) e in
          let m : Launch = get_or ordered j (record { cycle = 0; slot = 0; row = 0; to = Pool }) in
          let at_j : slice_get ordered j ≡ Some m = slice_get-get_or ordered j (record { cycle = 0; slot = 0; row = 0; to = Pool }) there.0 in
          let given : gives g class m ≡ true = and_left (gives g class m) (test m) there.1 in
          let word_is = and_left (launches g gives_word m) (class_at g m.row == class) given in
          let class_is = same_class w value (class_at g m.row) class
          (and_right (launches g gives_word m) (class_at g m.row == class) given) in
          reached.given j m (before j m at_j (and_right (gives g class m) (test m) there.1)) at_j word_is
          (lasts z i j m at_j word_is class_is)
          ∙ ap value class_is

      input_is_there : (o : Option InputClass) → find of_class g.inputs ≡ o → option_map (λ i. i.reg) o ≡ None
          → ¬ HasInput g class (λ r. holds r ≡ true)
      input_is_there None e f h =
          find_none of_class g.inputs e
          (h.0, h.1, h.2, h.3, and_both (h.1.class == class) (holds h.1.reg) (equal_true h.1.class class h.4.0) h.4.1)
      input_is_there (Some i) e f h = none-some i.reg (sym f)

      by_cases : IsChosenFrom → (z : Bool) → is_zero_class g class ≡ z → (o : Option ℕ) → input_where g holds class ≡ o
          → (p : Option ℕ) → position passes ordered ≡ p
          → word (slice_index s.registers
          (if z then 31 else or_register o (option_map_or (register_at g allocation ordered) p 31))) ≡ value class
      by_cases h true z o i p e =
          ap word (reached.kept 31 not_31 (λ j m lt em. none_31 j m em) ∙ zero_register)
          ∙ sym (constant_is w value g.rows class 0 true_in.rows (zero_constant (constant_of g class) z))
      by_cases h false z (Some r) i p e = input_value (find of_class g.inputs) refl r i
      by_cases h false z None i (Some j) e = launch_value z i j e
      by_cases (inl h) false z None i None e = absurd (false≢true (sym z ∙ constant_zero (constant_of g class) h))
      by_cases (inr (inl h)) false z None i None e = absurd (input_is_there (find of_class g.inputs) refl i h)
      by_cases (inr (inr h)) false z None i None e =
          absurd (position_none passes ordered e h.0 h.1 (slice_get-get_or ordered h.0 h.1 h.2 ∙ ap Some h.3)
          (and_both (gives g class h.1) (test h.1) (and_both (launches g gives_word h.1) (class_at g h.1.row == class)
          h.4.0.0 (equal_true (class_at g h.1.row) class h.4.0.1)) h.4.1))

      pub chosen_reads : IsChosenFrom
          → word (slice_index s.registers (register_by g allocation ordered holds test class)) ≡ value class
      chosen_reads h =
          by_cases h (is_zero_class g class) refl (input_where g holds class) refl (position passes ordered) refl

  -- at the end every launch stands before: the place of a target
  pub place_reads : (s : MachineState) → HasReached g allocation w value ordered (length ordered) s → (class : ℕ)
      → (is_zero_class g class ≡ false → input_where g (is_intact g ordered None) class ≡ None → (j : ℕ) (m : Launch)
      → slice_get ordered j ≡ Some m → IsTrue (launches g gives_word m) → class_at g m.row ≡ class
      → Lasts g allocation ordered j (length ordered))
      → HasInput g class (IsUnwritten g ordered) ⊎ (IsZero g class ⊎ Any (Gives g class) ordered)
      → word (slice_index s.registers (target_register g table allocation ordered class)) ≡ value class
  place_reads s reached class lasts h =
      chosen_reads (length ordered) s reached (is_intact g ordered None) (passes_by g table None)
      (λ r input holds. intact_at_end g ordered apart order r holds)
      (λ j m e t. in_list ordered j m e) class lasts (any_passes class h)
    where
      any_passes : (class : ℕ) → HasInput g class (IsUnwritten g ordered) ⊎ (IsZero g class ⊎ Any (Gives g class) ordered) → IsZero g class ⊎ (HasInput g class (λ r. is_intact g ordered None r ≡ true) ⊎ Any (λ m. Gives g class m × (passes_by g table None m ≡ true)) ordered)
      any_passes class (inl h) = inr (inl (h.0, h.1, h.2, h.3, (h.4.0, unwritten_is_intact g ordered apart order h.1.reg h.4.1)))
      any_passes class (inr (inl h)) = inl h
      any_passes class (inr (inr h)) = inr (inr (h.0, h.1, h.2, h.3, (h.4, refl)))

  module _ (n : ℕ) (l : Launch) (s : MachineState) (reached : HasReached g allocation w value ordered n s) (here : slice_get ordered n ≡ Some l) where
    readable_passes : (class : ℕ) → IsZero g class ⊎ IsReadable g table ordered l class → IsZero g class ⊎ (HasInput g class (λ r. is_intact g ordered (Some l) r ≡ true) ⊎ Any (λ m. Gives g class m × (passes_by g table (Some l) m ≡ true)) ordered)
    readable_passes class (inl h) = inl h
    readable_passes class (inr (inl h)) = inr (inl (h.0, h.1, h.2, h.3, (h.4.0, unspoilt_is_intact g ordered apart order l h.1.reg h.4.1)))
    readable_passes class (inr (inr h)) = inr (inr (h.0, h.1, h.2, h.3, (h.4.0, le_true (ready_in g table (cluster_of table l.slot) h.1) l.cycle h.4.1)))

    -- the register that an operand is read from holds the value of its class
    pub register_reads : (class : ℕ) → (is_zero_class g class ≡ false → (j : ℕ) (m : Launch)
        → slice_get ordered j ≡ Some m → IsTrue (launches g gives_word m) → class_at g m.row ≡ class
        → Lasts g allocation ordered j n) → IsZero g class ⊎ IsReadable g table ordered l class
        → word (slice_index s.registers (register_for g table allocation ordered l class)) ≡ value class
    register_reads class lasts h =
        chosen_reads n s reached (is_intact g ordered (Some l)) (passes_by g table (Some l))
        (λ r input holds. intact_before g ordered apart order n l r here input holds)
        (λ j m e t. ready_stands_before n j l m (cluster_of table l.slot) here e
        (true_le (ready_in g table (cluster_of table l.slot) m) l.cycle t)) class (λ z i. lasts z)
        (readable_passes class h)
