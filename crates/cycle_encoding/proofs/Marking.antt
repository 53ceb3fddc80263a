-- Tables of classes, one row more at a time.
use Rattle.std.proofs.Common.{◌≡◌, ℕ, ◌+◌, ◌<◌, Bool, true, false, cond, List, ◌∷◌, ◌++◌, [], length, map, take, get_or, set, Option, Some, None, refl, ap, ◌∙◌, arith, inl, inr}
use Rattle.std.specs.Prelude.{◌==◌, ◌&&◌, ◌||◌, nat_lt}
use Rattle.std.specs.List.{list_any, range_with_len}
use Rattle.std.proofs.lemmas.Bool.{cases_lt, eq-eqb, ne_eqb, lt-ltb, le-ltb}
use Rattle.std.proofs.lemmas.List.{take_more}
use Rattle.std.proofs.lemmas.List.FromFn.{length-map-range_with_len, get_or-map-range_with_len}
use Rattle.word_ops.specs.Meanings.{constant_in}
use Rattle.std.specs.Option.{option_or}
use Rattle.graph_meaning.specs.Graphs.{constant_among}
use Rattle.graph_meaning.specs.declared.graphs.LaunchRow.{LaunchRow}
use Rattle.cycle_encoding.specs.Facts.{class_marked, with_constant}
use Rattle.cycle_encoding.proofs.Sorted.{map_same, set_map}

or_none : (a : Bool) → (a || false) ≡ a
or_none true = refl
or_none false = refl

or_some : (a : Bool) → (a || true) ≡ true
or_some true = refl
or_some false = refl

or_assoc : (a b c : Bool) → (a || (b || c)) ≡ ((a || b) || c)
or_assoc true b c = refl
or_assoc false b c = refl

and_false : (a : Bool) → (a && false) ≡ false
and_false true = refl
and_false false = refl

pub and_true : (a : Bool) → (a && true) ≡ a
and_true true = refl
and_true false = refl

-- marks: which classes have a row that passes
module _ {R : Type 0} (test : ℕ → R → Bool) where
  abbrev pub has : ℕ → List R → Bool
  has c rs = list_any (test c) rs

  any_append : (c : ℕ) (rs : List R) (r : R) → has c (rs ++ r ∷ []) ≡ (has c rs || test c r)
  any_append c [] r = or_none (test c r)
  any_append c (x ∷ rs) r = ap (λ b. test c x || b) (any_append c rs r) ∙ or_assoc (test c x) (has c rs) (test c r)

  module _ (rs : List R) (i : ℕ) (d : R) (n class : ℕ) (passes : Bool) (mid new : List Bool) (lt : i < length rs) (tests : (c : ℕ) → test c (get_or rs i d) ≡ ((class == c) && passes)) (is : mid ≡ map (λ c. has c (take i rs)) (range_with_len 0 n)) where
    before : ℕ → Bool
    before c = has c (take i rs)

    after : ℕ → Bool
    after c = has c (take (i + 1) rs)

    one_more : (c : ℕ) → has c (take (i + 1) rs) ≡ (has c (take i rs) || ((class == c) && passes))
    one_more c = ap (has c) (take_more rs i d lt) ∙ any_append c (take i rs) (get_or rs i d) ∙ ap (λ b. has c (take i rs) || b) (tests c)

    other : (c : ℕ) → (class ≡ c → ⊥) → has c (take (i + 1) rs) ≡ has c (take i rs)
    other c ne = one_more c ∙ ap (λ b. has c (take i rs) || (b && passes)) (ne_eqb class c ne) ∙ or_none (has c (take i rs))

    marking : (p : Bool) → passes ≡ p → class_marked (map (λ c. has c (take i rs)) (range_with_len 0 n)) class p ≡ map (λ c. has c (take (i + 1) rs)) (range_with_len 0 n)
    marking false e = map_same (λ c. has c (take i rs)) (λ c. has c (take (i + 1) rs)) 0 n (λ c a b. one_more c ∙ ap (λ p. has c (take i rs) || ((class == c) && p)) e ∙ ap (λ b. has c (take i rs) || b) (and_false (class == c)) ∙ or_none (has c (take i rs)))
    marking true e =
        let xs = map (λ c. has c (take i rs)) (range_with_len 0 n) in
        let size : length xs ≡ n = length-map-range_with_len (λ c. has c (take i rs)) 0 n in
        elim (cases_lt class n) [
          | inl lt ↦
              (let in_range : nat_lt class (length xs) ≡ true = lt-ltb class (length xs) (omega arith) in
              let z : 0 + class ≡ class = omega arith in
              ap (λ b. cond b (set xs class true) xs) in_range
              ∙ set_map (λ c. has c (take i rs)) (λ c. has c (take (i + 1) rs)) true 0 n class lt
              (ap (λ c. has c (take (i + 1) rs)) z ∙ one_more class ∙ ap (λ p. has class (take i rs) || ((class == class) && p)) e ∙ ap (λ b. has class (take i rs) || (b && true)) (eq-eqb class class refl) ∙ or_some (has class (take i rs)))
              (λ c a b ne. other c (λ q. ne (omega arith))))
          | inr le ↦
              (let out : nat_lt class (length xs) ≡ false = le-ltb class (length xs) (omega arith) in
              ap (λ b. cond b (set xs class true) xs) out
              ∙ map_same (λ c. has c (take i rs)) (λ c. has c (take (i + 1) rs)) 0 n (λ c a b. other c (λ q. absurd (omega arith))))
        ]

    pub mark_step : new ≡ class_marked mid class passes → new ≡ map (λ c. has c (take (i + 1) rs)) (range_with_len 0 n)
    mark_step p = p ∙ ap (λ xs. class_marked xs class passes) is ∙ marking passes refl

or_else_none : (o : Option ℕ) → option_or o None ≡ o
or_else_none None = refl
or_else_none (Some n) = refl

only : (b : Bool) (o : Option ℕ) → cond b (option_or o None) None ≡ cond b o None
only true o = or_else_none o
only false o = refl

or_else_assoc : (a b c : Option ℕ) → option_or a (option_or b c) ≡ option_or (option_or a b) c
or_else_assoc None b c = refl
or_else_assoc (Some n) b c = refl

in_row : (b : Bool) (o all some last : Option ℕ) → all ≡ option_or some last → cond b (option_or o all) all ≡ option_or (cond b (option_or o some) some) last
in_row true o all some last e = ap (option_or o) e ∙ or_else_assoc o some last
in_row false o all some last e = e

-- constants: that of the first row of a class that is one
first_append : (c : ℕ) (rs : List LaunchRow) (r : LaunchRow) → constant_among (rs ++ r ∷ []) c ≡ option_or (constant_among rs c) (cond (r.class == c) (constant_in r.op) None)
first_append c [] r = only (r.class == c) (constant_in r.op)
first_append c (x ∷ rs) r = in_row (x.class == c) (constant_in x.op) (constant_among (rs ++ r ∷ []) c) (constant_among rs c) (cond (r.class == c) (constant_in r.op) None) (first_append c rs r)

module _ (rs : List LaunchRow) (i : ℕ) (d : LaunchRow) (n : ℕ) (mid new : List (Option ℕ)) (lt : i < length rs) (is : mid ≡ map (constant_among (take i rs)) (range_with_len 0 n)) where
  abbrev this : LaunchRow
  this = get_or rs i d

  one_row : (c : ℕ) → constant_among (take (i + 1) rs) c ≡ option_or (constant_among (take i rs) c) (cond (this.class == c) (constant_in this.op) None)
  one_row c = ap (λ (ys : List LaunchRow). constant_among ys c) (take_more rs i d lt) ∙ first_append c (take i rs) this

  other_class : (c : ℕ) → (this.class ≡ c → ⊥) → constant_among (take (i + 1) rs) c ≡ constant_among (take i rs) c
  other_class c ne = one_row c ∙ ap (λ b. option_or (constant_among (take i rs) c) (cond b (constant_in this.op) None)) (ne_eqb this.class c ne) ∙ or_else_none (constant_among (take i rs) c)

  pub constant_step : (class : ℕ) (constant : Option ℕ) → class ≡ this.class → constant ≡ constant_in this.op → new ≡ with_constant mid class constant → new ≡ map (constant_among (take (i + 1) rs)) (range_with_len 0 n)
  constant_step class constant ec ek p =
      let xs = map (constant_among (take i rs)) (range_with_len 0 n) in
      let size : length xs ≡ n = length-map-range_with_len (constant_among (take i rs)) 0 n in
      p ∙ ap (λ (xs : List (Option ℕ)). with_constant xs class constant) is ∙ ap (λ c. with_constant xs c constant) ec ∙ ap (with_constant xs this.class) ek
      ∙ elim (cases_lt this.class n) [
        | inl lt ↦
            (let in_range : nat_lt this.class (length xs) ≡ true = lt-ltb this.class (length xs) (omega arith) in
            let got : get_or xs this.class None ≡ constant_among (take i rs) this.class = get_or-map-range_with_len (constant_among (take i rs)) 0 n this.class this.class None lt (omega arith) in
            let z : 0 + this.class ≡ this.class = omega arith in
            let y = option_or (constant_among (take i rs) this.class) (constant_in this.op) in
            ap (λ b. cond b (set xs this.class (option_or (get_or xs this.class None) (constant_in this.op))) xs) in_range
            ∙ ap (λ o. set xs this.class (option_or o (constant_in this.op))) got
            ∙ set_map (constant_among (take i rs)) (constant_among (take (i + 1) rs)) y 0 n this.class lt
            (ap (constant_among (take (i + 1) rs)) z ∙ one_row this.class ∙ ap (λ b. option_or (constant_among (take i rs) this.class) (cond b (constant_in this.op) None)) (eq-eqb this.class this.class refl))
            (λ c a b ne. other_class c (λ q. ne (omega arith))))
        | inr le ↦
            (let out : nat_lt this.class (length xs) ≡ false = le-ltb this.class (length xs) (omega arith) in
            ap (λ b. cond b (set xs this.class (option_or (get_or xs this.class None) (constant_in this.op))) xs) out
            ∙ map_same (constant_among (take i rs)) (constant_among (take (i + 1) rs)) 0 n (λ c a b. other_class c (λ q. absurd (omega arith))))
      ]
