-- The operands of a row, one more at a time.
use Rattle.std.proofs.Common.{◌≡◌, ℕ, suc, ◌+◌, ◌<◌, ◌≤◌, Bool, List, ◌∷◌, ◌++◌, [], length, map, take, get_or, refl, sym, ap}
use Rattle.std.proofs.Common.{◌∙◌}
use Rattle.std.specs.Prelude.{slice_get}
use Rattle.std.specs.List.{filter}
use Rattle.std.proofs.lemmas.List.{take_more, take_all, map-append}
use Rattle.std.proofs.lemmas.List.Elements.{filter-append}
use Rattle.std.proofs.lemmas.Option.{slice_get-get_or}
use Rattle.schedule_meaning.specs.Launches.{operate_operands, plain}
use Rattle.schedule_meaning.specs.declared.schedules.Operand.{Operand}
use Rattle.cycle_encoding.specs.Facts.{classes_among, one_or_none}

size_step : (x y : ℕ) (ys : List ℕ) → length (operate_operands (y ∷ ys)) ≡ length (y ∷ ys) → length (operate_operands (x ∷ y ∷ ys)) ≡ length (x ∷ y ∷ ys)
size_step x y ys h = ap suc h

pub operate_size : (xs : List ℕ) → length (operate_operands xs) ≡ length xs
operate_size [] = refl
operate_size (x ∷ []) = refl
operate_size (x ∷ y ∷ ys) = size_step x y ys (operate_size (y ∷ ys))

-- those that pass a test
module _ (test : Operand → Bool) where
  among-append : (xs ys : List Operand) → classes_among test (xs ++ ys) ≡ classes_among test xs ++ classes_among test ys
  among-append xs ys = ap (map (λ (o : Operand). o.class)) (filter-append test xs ys) ∙ map-append (λ (o : Operand). o.class) (filter test xs) (filter test ys)

  -- the operand at a place
  pub among-more : (os : List Operand) (i : ℕ) → i < length os → classes_among test (take (i + 1) os) ≡ classes_among test (take i os) ++ classes_among test (one_or_none (slice_get os i))
  among-more os i lt =
      ap (classes_among test) (take_more os i (plain 0) lt)
      ∙ among-append (take i os) (get_or os i (plain 0) ∷ [])
      ∙ ap (λ o. classes_among test (take i os) ++ classes_among test (one_or_none o)) (sym (slice_get-get_or os i (plain 0) lt))

  pub among-done : (os : List Operand) (i : ℕ) → length os ≤ i → classes_among test (take i os) ≡ classes_among test os
  among-done os i le = ap (classes_among test) (take_all i os le)
