-- What the words of a schedule read: registers, literals and addresses.
use Rattle.std.proofs.Common.{◌≡◌, ℕ, ◌%◌, ◌^◌, ◌<◌, ◌≤◌, List, refl, sym, ◌∙◌, ap, subst, inl, inr, ◌⊎◌, arith, Bool, true, false, Option, Some, None, pos}
use Rattle.std.specs.Prelude.{IsTrue, slice_get, slice_index, nat_le, if◌then◌else◌, IsSomeAnd, is_some, unwrap_or}
use Rattle.std.specs.Int.{cast_signed, w16}
use Rattle.std.proofs.lemmas.Bool.{false≢true}
use Rattle.std.proofs.lemmas.Bool.Decides.{leb_tells}
use Rattle.std.proofs.lemmas.Option.{same_Some, none-some}
use Rattle.word_ops.specs.Words.{IsWord}
use Rattle.word_ops.specs.Values.{lda, ldah}
use Rattle.word_ops.specs.Worlds.{World, Value, word, memory, IsValue}
use Rattle.word_ops.specs.Meanings.{as_word}
use Rattle.word_ops.specs.declared.sorts.Sort.TheVariants as sorts
use Rattle.alpha_machine.specs.States.{MachineState}
use Rattle.alpha_machine.specs.Steps.{second_value, address}
use Rattle.graph_meaning.specs.Graphs.{constant_of, is_zero_class}
use Rattle.schedule_meaning.specs.Launches.{launches, gives_word, class_at, IsZero, IsReadable, plain}
use Rattle.schedule_meaning.specs.Lifetimes.{reads_class}
use Rattle.schedule_meaning.specs.declared.schedules.Operand.{Operand}
use Rattle.register_assign.specs.Listings.{register_for, literal_or, second_for, displacement_of}
use Rattle.alpha_encode.specs.declared.instructions.Second.TheVariants.{Reg, Literal}
use Rattle.graph_meaning.specs.declared.graphs.LaunchGraph.{LaunchGraph}
use Rattle.machine_table.specs.declared.tables.Table.{Table}
use Rattle.machine_table.specs.declared.tables.InstrKind.{InstrKind}
use Rattle.schedule_meaning.specs.declared.schedules.Allocation.{Allocation}
use Rattle.schedule_meaning.specs.declared.schedules.Launch.{Launch}
use Rattle.schedule_meaning.proofs.Uses.{zero_is}
use Rattle.register_assign.proofs.Lasting.{lasts_to_reader}
use Rattle.register_assign.proofs.Reached.{HasReached, Lasts}
use Rattle.register_assign.proofs.Scene.{IsScene, CanUse, positive}
use Rattle.register_assign.proofs.Proper.{pool_low, inputs_apart}
use Rattle.register_assign.proofs.Reading.{register_reads, constant_is}
use Rattle.register_assign.proofs.Destinations.{none_31}
use Rattle.register_assign.proofs.Displacements.{lda_is, ldah_is}

-- ---- displacements

displaced_step : (o : Option ℕ) (i : InstrKind) (P : InstrKind → Type 0) → IsSomeAnd (if is_some o then Some i else None) P → (c : ℕ) × (o ≡ Some c)
displaced_step None i P h = absurd h
displaced_step (Some c) i P h = (c, refl)

-- a class that is launched as a displacement_of has a constant
pub displaced_constant : (g : LaunchGraph) (class : ℕ) (i : InstrKind) (P : InstrKind → Type 0) → IsSomeAnd (if is_some (constant_of g class) then Some i else None) P → (c : ℕ) × (constant_of g class ≡ Some c)
displaced_constant g class i P h = displaced_step (constant_of g class) i P h

-- what is launched where a test passes
pub where_passed : {X : Type 0} (b : Bool) (o : Option X) (P : X → Type 0) → IsSomeAnd (if b then o else None) P → (b ≡ true) × IsSomeAnd o P
where_passed true o P h = (refl, h)
where_passed false o P h = absurd h

plain_address : (b : ℕ) → b < 2 ^ 64 → address b 1 (pos 0) ≡ b
plain_address b h = omega arith

in_range : (v : Value) → IsValue sorts.Word v → IsWord (as_word v)
in_range (word n) h = h
in_range (memory m) h = absurd h

module _ (g : LaunchGraph) (table : Table) (allocation : Allocation) (k : ℕ) (ordered : List Launch) (w : World)
    (value : ℕ → Value)
    (scene : IsScene g table allocation k ordered w value)
    (n : ℕ) (l : Launch) (s : MachineState) (reached : HasReached g allocation w value ordered n s) (here : slice_get ordered n ≡ Some l) where
  abbrev Usable : Operand → Type 0
  Usable o = CanUse g table ordered l o

  -- a class that is read in a register
  abbrev IsRead : ℕ → Type 0
  IsRead class = IsZero g class ⊎ (IsReadable g table ordered l class × (reads_class g class l ≡ true))

  abbrev pub as_second : ℕ → Operand
  as_second y = record { class = y; second = true }

  reads_plain : (x : ℕ) → Usable (plain x) → IsRead x
  reads_plain x (inl (inl z)) = inl z
  reads_plain x (inl (inr h)) = absurd (false≢true h.0)
  reads_plain x (inr r) = inr r

  reads_far : (y m : ℕ) → constant_of g y ≡ Some m → ¬ (m ≤ 255) → Usable (as_second y) → IsRead y
  reads_far y m e far (inl (inl z)) = inl z
  reads_far y m e far (inl (inr h)) = absurd (far (subst (λ k. k ≤ 255) (same_Some h.1.0 m (sym h.1.1 ∙ e)) h.1.2))
  reads_far y m e far (inr r) = inr r

  reads_none : (y : ℕ) → constant_of g y ≡ None → Usable (as_second y) → IsRead y
  reads_none y e (inl (inl z)) = inl z
  reads_none y e (inl (inr h)) = absurd (none-some h.1.0 (sym e ∙ h.1.1))
  reads_none y e (inr r) = inr r

  lasts : (class : ℕ) → IsRead class → is_zero_class g class ≡ false → (j : ℕ) (m : Launch)
      → slice_get ordered j ≡ Some m → IsTrue (launches g gives_word m) → class_at g m.row ≡ class
      → Lasts g allocation ordered j n
  lasts class (inl zero) no_zero j m em gm is =
      absurd (false≢true (sym no_zero ∙ (zero_is g class (is_zero_class g class) refl).1 zero))
  lasts class (inr (readable, reads)) no_zero j m em gm is =
      lasts_to_reader g table allocation k ordered scene.graph scene.proper scene.fits scene.is_table scene.order n l
      here class reads j m em gm is

  readable : (class : ℕ) → IsRead class → IsZero g class ⊎ IsReadable g table ordered l class
  readable class (inl zero) = inl zero
  readable class (inr both) = inr both.0

  by_register : (class : ℕ) → IsRead class
      → word (slice_index s.registers (register_for g table allocation ordered l class)) ≡ value class
  by_register class h =
      register_reads g table allocation ordered w value scene.true_in scene.world.zero_register
      (pool_low g scene.proper) (inputs_apart g scene.proper)
      (none_31 g table allocation k ordered scene.graph scene.proper scene.fits) scene.fits.apart scene.order
      (positive g table allocation k ordered w value scene) n l s reached here class (lasts class h) (readable class h)

  -- a word operand that isn't the second of an operate_instr
  pub plain_reads : (x : ℕ) → Usable (plain x)
      → word (slice_index s.registers (register_for g table allocation ordered l x)) ≡ value x
  plain_reads x h = by_register x (reads_plain x h)

  literal_step : (y m : ℕ) → constant_of g y ≡ Some m → Usable (as_second y) → (b : Bool) → (b ≡ false → ¬ (m ≤ 255))
      → word
      (second_value (if b then Literal m else Reg (register_for g table allocation ordered l y)) s.registers) ≡ value y
  literal_step y m e h true f = sym (constant_is w value g.rows y m scene.true_in.rows e)
  literal_step y m e h false f = by_register y (reads_far y m e (f refl) h)

  far_from : (m : ℕ) → nat_le m 255 ≡ false → ¬ (m ≤ 255)
  far_from m f le = elim (leb_tells m 255) [ inl t ↦ false≢true (sym f ∙ t.0) | inr t ↦ (let lt : 255 < m = t.1 in absurd (omega arith)) ]

  second_step : (y : ℕ) → Usable (as_second y) → (o : Option ℕ) → constant_of g y ≡ o
      → word (second_value (literal_or o (Reg (register_for g table allocation ordered l y))) s.registers) ≡ value y
  second_step y h None e = by_register y (reads_none y e h)
  second_step y h (Some m) e = literal_step y m e h (nat_le m 255) (far_from m)

  -- the second operand of an operate_instr
  pub second_reads : (y : ℕ) → Usable (as_second y)
      → word (second_value (second_for g table allocation ordered l y) s.registers) ≡ value y
  second_reads y h = second_step y h (constant_of g y) refl

  -- ---- addresses

  -- without a displacement_of it is the address class's word
  pub address_reads : (x : ℕ) → Usable (plain x) → IsValue sorts.Word (value x)
      → address (slice_index s.registers (register_for g table allocation ordered l x)) 1 (pos 0) ≡ as_word (value x)
  address_reads x h sort =
      let e : word (slice_index s.registers (register_for g table allocation ordered l x)) ≡ value x = plain_reads x h in
      plain_address (slice_index s.registers (register_for g table allocation ordered l x)) (subst (λ v. IsWord (as_word v)) (sym e) (in_range (value x) sort))
      ∙ ap as_word e

  constant_word : (class c : ℕ) → constant_of g class ≡ Some c → as_word (value class) ≡ c
  constant_word class c e = ap as_word (constant_is w value g.rows class c scene.true_in.rows e)

  -- with one it is what lda gives of the base's word and the displacement_of's
  pub base_reads : (x d c : ℕ) → Usable (plain x) → constant_of g d ≡ Some c
      → address (slice_index s.registers (register_for g table allocation ordered l x)) 1 (displacement_of g d)
      ≡ lda (as_word (value x)) (as_word (value d))
  base_reads x d c h e =
      ap (λ o. address (slice_index s.registers (register_for g table allocation ordered l x)) 1 (cast_signed w16 (unwrap_or o 0 % 2 ^ 16))) e
      ∙ lda_is (slice_index s.registers (register_for g table allocation ordered l x)) c
      ∙ ap (λ v. lda (as_word v) c) (plain_reads x h)
      ∙ ap (λ n. lda (as_word (value x)) n) (sym (constant_word d c e))

  pub high_base_reads : (x d c : ℕ) → Usable (plain x) → constant_of g d ≡ Some c → address
      (slice_index s.registers (register_for g table allocation ordered l x)) 65536 (displacement_of g d)
      ≡ ldah (as_word (value x)) (as_word (value d))
  high_base_reads x d c h e =
      ap (λ o. address (slice_index s.registers (register_for g table allocation ordered l x)) 65536 (cast_signed w16 (unwrap_or o 0 % 2 ^ 16))) e
      ∙ ldah_is (slice_index s.registers (register_for g table allocation ordered l x)) c
      ∙ ap (λ v. ldah (as_word v) c) (plain_reads x h)
      ∙ ap (λ n. ldah (as_word (value x)) n) (sym (constant_word d c e))
