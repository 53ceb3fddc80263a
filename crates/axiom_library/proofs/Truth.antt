-- Each axiom of the library is true, row by row: the law of its operators, read at the variables' values.
use Rattle.std.proofs.Common.{List, refl, ap}
use Rattle.std.specs.Prelude.{All}
use Rattle.word_ops.specs.Operators.{operate_value, value_at}
use Rattle.word_ops.specs.declared.operates.Operate.TheVariants.{Addq, Cmpeq, Cmple, Cmplt, Cmpule, Cmpult, Extbl, Extll, Extwl, Insbl, Insll, Inswl, S4addq, S4subq, S8addq, Sextb, Sextw, Srl, Subq, Xor, Zapnot}
use Rattle.word_ops.specs.Worlds.{word, World}
use Rattle.goal_meaning.specs.Holds.{HoldsOfAll}
use Rattle.goal_meaning.specs.declared.goals.DeclaredOp.{DeclaredOp}
use Rattle.axiom_base.proofs.Rows.{Each, done, ◌▸◌, All-Each, joined}
use Rattle.axiom_library.specs.Families.{byte_moves, small_products, large_products, sums, halves, extensions, rounding, negated_comparisons, equalities, minima, carries, fields, axioms_of}
use Rattle.axiom_library.specs.Families.{packing, swapping_4, swapping_8, spreading}
use Rattle.axiom_library.specs.Families.{in_steps, in_steps_to_0, by_100, by_four_ones, by_eight_ones, by_eighth, by_halves}
use Rattle.axiom_library.specs.Families.{zero_extension, long_extension, by_sign, round_down, less_remainder, round_up}
use Rattle.axiom_library.specs.Families.{opposite, changed, no_difference, with_0}
use Rattle.axiom_library.specs.Families.{negative_mask, negative_mask_less_1, mask_of, chosen, not_below_0}
use Rattle.axiom_library.specs.Families.{carry_by_other, carry_by_not, carry_of_bits, borrow_of_bits}
use Rattle.axiom_library.specs.Families.{field_at_0, byte_at_0, stored_in_0}
use Rattle.axiom_library.specs.declared.families.Family.{Family}
use Rattle.axiom_library.specs.declared.families.Family.TheVariants as families
use Rattle.axiom_library.proofs.Readings.{of_x, of_xy, of_xym, of_abcd}
use Rattle.axiom_library.proofs.Multiples as sum
use Rattle.axiom_library.proofs.Extended as extended
use Rattle.axiom_library.proofs.Rounded as rounded
use Rattle.axiom_library.proofs.Compared as compared
use Rattle.axiom_library.proofs.ByteRows as byte_rows
use Rattle.axiom_library.proofs.Masks as masks
use Rattle.axiom_library.proofs.Carried as carried
use Rattle.axiom_library.proofs.FieldRows as field

module _ (declared : List DeclaredOp) (world : World) where
  bytes_are_true : Each (HoldsOfAll declared world) byte_moves
  unfolding value_at operate_value
  bytes_are_true =
      of_abcd declared world packing refl (λ a b c d h i j k. ap word (byte_rows.packing a b c d h i j k))
      ▸ of_x declared world swapping_4 refl (λ x h. ap word (byte_rows.swapping_4 x h))
      ▸ of_x declared world swapping_8 refl (λ x h. ap word (byte_rows.swapping_8 x h))
      ▸ of_x declared world spreading refl (λ x h. ap word (byte_rows.spreading x h))
      ▸ done

  small_products_are_true : Each (HoldsOfAll declared world) small_products
  unfolding value_at operate_value
  small_products_are_true =
      of_x declared world (in_steps 6 Addq S4addq) refl (λ x h. ap word (sum.by_6 x))
      ▸ of_x declared world (in_steps 10 Addq S8addq) refl (λ x h. ap word (sum.by_10 x))
      ▸ of_x declared world (in_steps 11 S4subq S4subq) refl (λ x h. ap word (sum.by_11 x h))
      ▸ of_x declared world (in_steps 25 S8addq S4subq) refl (λ x h. ap word (sum.by_25 x h))
      ▸ of_x declared world (in_steps_to_0 12 S4addq S4subq) refl (λ x h. ap word (sum.by_12 x h))
      ▸ of_x declared world (in_steps_to_0 20 S4addq S4addq) refl (λ x h. ap word (sum.by_20 x))
      ▸ of_x declared world (in_steps_to_0 24 S8addq S4subq) refl (λ x h. ap word (sum.by_24 x h))
      ▸ of_x declared world (in_steps_to_0 36 S4addq S8addq) refl (λ x h. ap word (sum.by_36 x))
      ▸ of_x declared world (in_steps_to_0 40 S8addq S4addq) refl (λ x h. ap word (sum.by_40 x))
      ▸ done

  large_products_are_true : Each (HoldsOfAll declared world) large_products
  unfolding value_at operate_value
  large_products_are_true =
      of_x declared world by_100 refl (λ x h. ap word (sum.by_100 x h))
      ▸ of_x declared world by_four_ones refl (λ x h. ap word (sum.by_four_ones x))
      ▸ of_x declared world by_eight_ones refl (λ x h. ap word (sum.by_eight_ones x))
      ▸ done

  sums_are_true : Each (HoldsOfAll declared world) sums
  unfolding value_at operate_value
  sums_are_true = of_xy declared world by_eighth refl (λ x y h k. ap word (sum.by_eighth x y)) ▸ done

  halves_are_true : Each (HoldsOfAll declared world) halves
  unfolding value_at operate_value
  halves_are_true = of_xy declared world by_halves refl (λ x y h k. ap word (sum.by_halves x y k)) ▸ done

  extensions_are_true : Each (HoldsOfAll declared world) extensions
  unfolding value_at operate_value
  extensions_are_true =
      of_xy declared world zero_extension refl (λ x y h k. ap word (extended.srl_of_sll x y h))
      ▸ of_x declared world long_extension refl (λ x h. ap word (extended.sra_of_sll_is_addl x h))
      ▸ of_x declared world (by_sign 255 128 Sextb) refl (λ x h. ap word (extended.by_sign_of_byte x))
      ▸ of_x declared world (by_sign 65535 32768 Sextw) refl (λ x h. ap word (extended.by_sign_of_word x))
      ▸ done

  rounding_is_true : Each (HoldsOfAll declared world) rounding
  unfolding value_at operate_value
  rounding_is_true =
      of_xy declared world round_down refl (λ x y h k. ap word (rounded.sll_of_srl x y h))
      ▸ of_xy declared world less_remainder refl (λ x y h k. ap word (rounded.less_its_bits x y h k))
      ▸ of_x declared world (round_up 3) refl (λ x h. ap word (rounded.up_to_4 x h))
      ▸ of_x declared world (round_up 7) refl (λ x h. ap word (rounded.up_to_8 x h))
      ▸ of_x declared world (round_up 15) refl (λ x h. ap word (rounded.up_to_16 x h))
      ▸ done

  negations_are_true : Each (HoldsOfAll declared world) negated_comparisons
  unfolding value_at operate_value
  negations_are_true =
      of_xy declared world (opposite Cmpult Cmpule) refl (λ x y h k. ap word (compared.cmpult_opposite x y))
      ▸ of_xy declared world (opposite Cmpule Cmpult) refl (λ x y h k. ap word (compared.cmpule_opposite x y))
      ▸ of_xy declared world (opposite Cmplt Cmple) refl (λ x y h k. ap word (compared.cmplt_opposite x y))
      ▸ of_xy declared world (opposite Cmple Cmplt) refl (λ x y h k. ap word (compared.cmple_opposite x y))
      ▸ of_xy declared world (changed Cmpult Cmpule) refl (λ x y h k. ap word (compared.cmpult_changed x y))
      ▸ of_xy declared world (changed Cmpule Cmpult) refl (λ x y h k. ap word (compared.cmpule_changed x y))
      ▸ of_xy declared world (changed Cmplt Cmple) refl (λ x y h k. ap word (compared.cmplt_changed x y))
      ▸ of_xy declared world (changed Cmple Cmplt) refl (λ x y h k. ap word (compared.cmple_changed x y))
      ▸ done

  equalities_are_true : Each (HoldsOfAll declared world) equalities
  unfolding value_at operate_value
  equalities_are_true =
      of_xy declared world (no_difference Subq) refl (λ x y h k. ap word (compared.no_subq x y h k))
      ▸ of_xy declared world (no_difference Xor) refl (λ x y h k. ap word (compared.no_xor x y))
      ▸ of_x declared world (with_0 Srl 63 Cmplt) refl (λ x h. ap word (compared.srl_63 x h))
      ▸ of_x declared world (with_0 Cmpult 1 Cmpeq) refl (λ x h. ap word (compared.cmpult_1 x))
      ▸ done

  minima_are_true : Each (HoldsOfAll declared world) minima
  unfolding value_at operate_value
  minima_are_true =
      of_x declared world negative_mask refl (λ x h. ap word (masks.negative_mask x h))
      ▸ of_x declared world negative_mask_less_1 refl (λ x h. ap word (masks.negative_mask_less_1 x h))
      ▸ of_xy declared world (mask_of Cmpult Cmpule) refl (λ x y h k. ap word (masks.neg_cmpult x y))
      ▸ of_xy declared world (mask_of Cmplt Cmple) refl (λ x y h k. ap word (masks.neg_cmplt x y))
      ▸ of_xym declared world chosen refl (λ x y m h k l. ap word (masks.chosen x y m h k l))
      ▸ of_x declared world not_below_0 refl (λ x h. ap word (masks.not_below_0 x h))
      ▸ done

  carries_are_true : Each (HoldsOfAll declared world) carries
  unfolding value_at operate_value
  carries_are_true =
      of_xy declared world carry_by_other refl (λ x y h k. ap word (carried.by_other x y h k))
      ▸ of_xy declared world carry_by_not refl (λ x y h k. ap word (carried.by_not x y h k))
      ▸ of_xy declared world carry_of_bits refl (λ x y h k. ap word (carried.by_sum_bits x y h k))
      ▸ of_xy declared world borrow_of_bits refl (λ x y h k. ap word (carried.by_difference_bits x y h k))
      ▸ done

  fields_are_true : Each (HoldsOfAll declared world) fields
  unfolding value_at operate_value
  fields_are_true =
      of_x declared world (byte_at_0 Insbl 0) refl (λ x h. ap word (field.insbl x h))
      ▸ of_x declared world (byte_at_0 Extbl 0) refl (λ x h. ap word (field.extbl x h))
      ▸ of_x declared world (byte_at_0 Zapnot 1) refl (λ x h. ap word (field.zapnot_1 x h))
      ▸ of_x declared world (field_at_0 Insll 15) refl (λ x h. ap word (field.insll x h))
      ▸ of_x declared world (field_at_0 Extll 15) refl (λ x h. ap word (field.extll x h))
      ▸ of_x declared world (field_at_0 Inswl 3) refl (λ x h. ap word (field.inswl x h))
      ▸ of_x declared world (field_at_0 Extwl 3) refl (λ x h. ap word (field.extwl x h))
      ▸ of_x declared world stored_in_0 refl (λ x h. ap word (field.stored_in_0 x h))
      ▸ done

  pub family_is_true : (family : Family) → All (HoldsOfAll declared world) (axioms_of family)
  family_is_true families.Bytes = All-Each _ _ bytes_are_true
  family_is_true families.Products = All-Each _ _ (joined small_products_are_true large_products_are_true)
  family_is_true families.Sums = All-Each _ _ sums_are_true
  family_is_true families.Halves = All-Each _ _ halves_are_true
  family_is_true families.Extensions = All-Each _ _ extensions_are_true
  family_is_true families.Rounding = All-Each _ _ rounding_is_true
  family_is_true families.Comparisons = All-Each _ _ (joined negations_are_true equalities_are_true)
  family_is_true families.Minima = All-Each _ _ minima_are_true
  family_is_true families.Carries = All-Each _ _ carries_are_true
  family_is_true families.Masks = All-Each _ _ done
  family_is_true families.Fields = All-Each _ _ fields_are_true
  family_is_true families.Constants = All-Each _ _ done
  family_is_true families.Unaligned = All-Each _ _ done
