-- Names and registers that differ, one more at a time.
use Rattle.std.proofs.Common.{◌≡◌, ◌≢◌, ℕ, zero, suc, ◌+◌, ◌-◌, ◌*◌, ◌<◌, ◌==◌, ◌||◌, ◌&&◌, ◌++◌, if◌then◌else◌, not, Bool, true, false, nat_le, nat_lt, Option, None, Some, List, [], ◌∷◌, map, length, take, get_or, refl, sym, ap, ◌∙◌, subst, arith, slice_get, bytes_eq, All}
use Rattle.std.specs.Prelude.{AllPairs}
use Rattle.std.specs.List.{cons_option}
use Rattle.std.proofs.lemmas.Bool.Decides.{Decides-eqb, nat_tests}
use Rattle.std.proofs.lemmas.List.{append-nil, append_assoc}
use Rattle.std.proofs.lemmas.List.Elements.{All-append, All-filter, All-map, All-push, filter_passes}
use Rattle.std.proofs.lemmas.List.Kept.{AllPairs-cons, AllPairs-filter}
use Rattle.std.proofs.lemmas.List.Quantifiers.{all_pairs_push}
use Rattle.std.proofs.lemmas.Slice.Eq.{bytes_eq-Decides}
use Rattle.forms.specs.Forms.{Form}
use Rattle.goal_reader.specs.Drafts.{AreDifferent}
use Rattle.goal_meaning.specs.Rules.{free_registers, default_pool, has_register}
use Rattle.text_core.specs.Names.{is_among}
use Rattle.goal_reader.specs.Roles.{is_digit, number_of_register, register_number, register_of, registers_in}

pub or_left : (a b : Bool) → a || b ≡ false → a ≡ false
or_left true b h = cc
or_left false b h = refl

pub or_right : (a b : Bool) → a || b ≡ false → b ≡ false
or_right true b h = cc
or_right false b h = h

no_both : (b : Bool) → b ≡ true → b ≡ false → ⊥
no_both b t f = let e : true ≡ false = sym t ∙ f in cc

-- ---- names
bytes_apart : (xs ys : List ℕ) → bytes_eq xs ys ≡ false → xs ≢ ys
bytes_apart xs ys f e = no_both (bytes_eq xs ys) ((bytes_eq-Decides xs ys).1 e) f

pub among_apart : {X : Type 0} (f : X → List ℕ) (xs : List X) (n : List ℕ) → is_among (map f xs) n ≡ false → (k : ℕ) (d : X) → k < length xs → f (get_or xs k d) ≢ n
among_apart f [] n h k d l = absurd (omega (arith, l))
among_apart f (x ∷ xs) n h zero d l = bytes_apart (f x) n (or_left (bytes_eq (f x) n) (is_among (map f xs) n) h)
among_apart f (x ∷ xs) n h (suc k) d l = among_apart f xs n (or_right (bytes_eq (f x) n) (is_among (map f xs) n) h) k d (omega (arith, l))

-- ---- registers
register_apart : (given : List ℕ) (r : ℕ) → has_register given r ≡ false → (k d : ℕ) → k < length given → get_or given k d ≢ r
register_apart [] r h k d l = absurd (omega (arith, l))
register_apart (g ∷ gs) r h zero d l = λ e. no_both (g == r) ((Decides-eqb g r).1 e) (or_left (g == r) (has_register gs r) h)
register_apart (g ∷ gs) r h (suc k) d l = register_apart gs r (or_right (g == r) (has_register gs r) h) k d (omega (arith, l))

pub one_more : (rs : List ℕ) (r : ℕ) → AreDifferent rs → has_register rs r ≡ false → r < 31 → AreDifferent (rs ++ r ∷ [])
one_more rs r d f l = record {
  pairs = all_pairs_push (λ a b. a ≢ b) rs r d.pairs (register_apart rs r f);
  low = All-push (λ n. n < 31) rs r d.low l;
}

-- registers that each differ from those before
pub all_more : (given : List ℕ) (fs : List Form) → ((j : ℕ) (part : Form) → slice_get fs j ≡ Some part → (r : ℕ) × (register_of part ≡ Some r) × (has_register (given ++ registers_in (take j fs)) r ≡ false) × (r < 31))
    → AreDifferent given → AreDifferent (given ++ registers_in fs)
all_more given [] h d = subst AreDifferent (sym (append-nil given)) d
all_more given (f ∷ fs) h d =
    let one = h 0 f refl in
    let r = one.0 in
    let next = one_more given r d (subst (λ rs. has_register rs r ≡ false) (append-nil given) one.2) one.3 in
    let here : (xs : List ℕ) → given ++ cons_option (register_of f) xs ≡ (given ++ r ∷ []) ++ xs =
    λ xs. ap (λ o. given ++ cons_option o xs) one.1 ∙ sym (append_assoc given (r ∷ []) xs) in
    let rest = all_more (given ++ r ∷ []) fs (λ j part g. let m = h (suc j) part g in (m.0, m.1, subst (λ rs. has_register rs m.0 ≡ false) (here (registers_in (take j fs))) m.2, m.3)) next in
    subst AreDifferent (sym (here (registers_in fs))) rest

if_some : (b : Bool) (x r : ℕ) → (if b then Some x else None) ≡ Some r → (b ≡ true) × (x ≡ r)
if_some true x r e = let same : x ≡ r = cc in (refl, same)
if_some false x r e = cc

if_there : (b : Bool) (o : Option ℕ) (r : ℕ) → (if b then o else None) ≡ Some r → o ≡ Some r
if_there true o r e = e
if_there false o r e = cc

below_31 : (digits : List ℕ) (r : ℕ) → number_of_register digits ≡ Some r → r < 31
unfolding number_of_register
below_31 [] r e = cc
below_31 (a ∷ []) r e = let h = if_some (is_digit a) (a - 48) r e in grind (arith, nat_tests, h.0, h.1)
below_31 (a ∷ b ∷ []) r e =
    let h = if_some (is_digit a && nat_le 49 a && is_digit b && nat_lt (10 * (a - 48) + (b - 48)) 31) (10 * (a - 48) + (b - 48)) r e in grind (arith, nat_tests, h.0, h.1)
below_31 (a ∷ b ∷ c ∷ rest) r e = cc

pub register_low : (bytes : List ℕ) (r : ℕ) → register_number bytes ≡ Some r → r < 31
register_low [] r e = cc
register_low (b ∷ digits) r e = below_31 digits r (if_there (b == 36) (number_of_register digits) r e)

-- ---- pairs
module _ {X : Type 0} (R : X → X → Type 0) where
  head_of : (x : X) (xs : List X) → AllPairs R (x ∷ xs) → All (R x) xs
  head_of x xs h k d l = h 0 (suc k) d (omega arith) (omega (arith, l))

  tail_of : (x : X) (xs : List X) → AllPairs R (x ∷ xs) → AllPairs R xs
  tail_of x xs h i j d l m = h (suc i) (suc j) d (omega (arith, l)) (omega (arith, m))

  pub pairs_nil : AllPairs R []
  pairs_nil i j d l m = absurd (omega (arith, m))

  pairs_append : (xs ys : List X) → AllPairs R xs → AllPairs R ys → ((i : ℕ) (d : X) → i < length xs → All (R (get_or xs i d)) ys) → AllPairs R (xs ++ ys)
  pairs_append [] ys a b across = b
  pairs_append (x ∷ xs) ys a b across =
      AllPairs-cons R x (xs ++ ys) (All-append (R x) xs ys (head_of x xs a) (across 0 x (omega arith)))
      (pairs_append xs ys (tail_of x xs a) b (λ i d l. across (suc i) d (omega (arith, l))))

  pub pairs_map : {Y : Type 0} (f : Y → X) (ys : List Y) → AllPairs (λ a b. R (f a) (f b)) ys → AllPairs R (map f ys)
  pairs_map f [] h = pairs_nil
  pairs_map f (y ∷ ys) h =
      AllPairs-cons R (f y) (map f ys) (All-map (R (f y)) f ys (λ k d l. h 0 (suc k) d (omega arith) (omega (arith, l))))
      (pairs_map f ys (λ i j d l m. h (suc i) (suc j) d (omega (arith, l)) (omega (arith, m))))

  pub pairs_back : (xs ys : List X) → AllPairs R (xs ++ ys) → AllPairs R ys
  pairs_back [] ys h = h
  pairs_back (x ∷ xs) ys h = pairs_back xs ys (tail_of x (xs ++ ys) h)

all_back : (P : ℕ → Type 0) (xs ys : List ℕ) → All P (xs ++ ys) → All P ys
all_back P [] ys h = h
all_back P (x ∷ xs) ys h = all_back P xs ys (λ k d l. h (suc k) d (omega (arith, l)))

-- registers behind others
pub back_different : (xs ys : List ℕ) → AreDifferent (xs ++ ys) → AreDifferent ys
back_different xs ys d = record { pairs = pairs_back (λ a b. a ≢ b) xs ys d.pairs; low = all_back (λ r. r < 31) xs ys d.low }

-- one more, if there is one
pub some_more : (rs pins : List ℕ) (o : Option ℕ) → AreDifferent (rs ++ pins) → ((r : ℕ) → o ≡ Some r → (has_register (rs ++ pins) r ≡ false) × (r < 31)) → AreDifferent (rs ++ (pins ++ cons_option o []))
some_more rs pins None d h = subst (λ ps. AreDifferent (rs ++ ps)) (sym (append-nil pins)) d
some_more rs pins (Some r) d h = let f = h r refl in subst AreDifferent (append_assoc rs pins (r ∷ [])) (one_more (rs ++ pins) r d f.0 f.1)

-- ---- the pool that isn't given
differ : List ℕ → Bool
differ [] = true
differ (r ∷ rs) = not (has_register rs r) && (nat_lt r 31 && differ rs)

both_left : (a b : Bool) → a && b ≡ true → a ≡ true
both_left true b h = refl
both_left false b h = cc

both_right : (a b : Bool) → a && b ≡ true → b ≡ true
both_right true b h = h
both_right false b h = cc

is_false : (b : Bool) → not b ≡ true → b ≡ false
is_false true h = cc
is_false false h = refl

differ_pairs : (rs : List ℕ) → differ rs ≡ true → AllPairs (λ a b. a ≢ b) rs
unfolding differ
differ_pairs [] h = pairs_nil (λ a b. a ≢ b)
differ_pairs (r ∷ rs) h =
    AllPairs-cons (λ a b. a ≢ b) r rs (λ k d l e. register_apart rs r (is_false (has_register rs r) (both_left (not (has_register rs r)) (nat_lt r 31 && differ rs) h)) k d l (sym e))
    (differ_pairs rs (both_right (nat_lt r 31) (differ rs) (both_right (not (has_register rs r)) (nat_lt r 31 && differ rs) h)))

differ_low : (rs : List ℕ) → differ rs ≡ true → All (λ r. r < 31) rs
unfolding differ
differ_low [] h k d l = absurd (omega (arith, l))
differ_low (r ∷ rs) h zero d l = let low = both_left (nat_lt r 31) (differ rs) (both_right (not (has_register rs r)) (nat_lt r 31 && differ rs) h) in grind (arith, nat_tests, low)
differ_low (r ∷ rs) h (suc k) d l = differ_low rs (both_right (nat_lt r 31) (differ rs) (both_right (not (has_register rs r)) (nat_lt r 31 && differ rs) h)) k d (omega (arith, l))

free_differ : differ free_registers ≡ true
unfolding differ
free_differ = refl

-- the pool that isn't given, behind registers that are taken and before such
module _ (taken given : List ℕ) (free : (r : ℕ) → has_register taken r ≡ false → has_register given r ≡ false) (d : AreDifferent given) where
  pass : ℕ → Bool
  pass r = not (has_register taken r)

  pool_pairs : AllPairs (λ a b. a ≢ b) (default_pool taken)
  unfolding pass
  pool_pairs = AllPairs-filter (λ a b. a ≢ b) pass free_registers (differ_pairs free_registers free_differ)

  pool_low : All (λ r. r < 31) (default_pool taken)
  unfolding pass
  pool_low = All-filter pass (λ r. r < 31) free_registers (differ_low free_registers free_differ)

  pool_free : (k e : ℕ) → k < length (default_pool taken) → has_register given (get_or (default_pool taken) k e) ≡ false
  unfolding pass
  pool_free k e l = free _ (is_false _ (filter_passes pass free_registers k e l))

  pub pool_behind : AreDifferent (given ++ default_pool taken)
  pool_behind = record {
    pairs = pairs_append (λ a b. a ≢ b) given (default_pool taken) d.pairs pool_pairs (λ i e l k f m. register_apart given _ (pool_free k f m) i e l);
    low = All-append (λ r. r < 31) given (default_pool taken) d.low pool_low;
  }

  pub pool_before : AreDifferent (default_pool taken ++ given)
  pool_before = record {
    pairs = pairs_append (λ a b. a ≢ b) (default_pool taken) given pool_pairs d.pairs (λ i e l k f m same. register_apart given _ (pool_free i e l) k f m (sym same));
    low = All-append (λ r. r < 31) (default_pool taken) given pool_low d.low;
  }
