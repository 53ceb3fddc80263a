-- Which families a library has.
use Rattle.std.proofs.Common.{◌≡◌, ◌≢◌, ◌||◌, ◌⊎◌, zero, suc, Bool, true, false, cond, List, [], ◌∷◌, filter, bytes_eq, inl, inr, refl, sym, ap, subst, ◌∙◌, arith, rules}
use Rattle.std.specs.Prelude.{◌↔◌, AllPairs, Contains, IsTrue}
use Rattle.std.specs.Bool.{Decides}
use Rattle.std.specs.List.{IsDistinct}
use Rattle.std.proofs.lemmas.List.Elements.{All-contains, filter_passes}
use Rattle.std.proofs.lemmas.List.Kept.{AllPairs-filter}
use Rattle.std.proofs.lemmas.Map.Made.{AllPairs-from_IsDistinct}
use Rattle.std.proofs.lemmas.Slice.Eq.{bytes_eq-Decides}
use Rattle.axiom_library.specs.Families.{all_families}
use Rattle.axiom_library.specs.Libraries.{has_family, families_of, with_family, with_families, no_library, library_of, all_but_halves}
use Rattle.axiom_library.specs.Names.{family_name}
use Rattle.axiom_library.specs.declared.families.Family.{Family}
use Rattle.axiom_library.specs.declared.families.Family.TheVariants as families
use Rattle.axiom_library.specs.declared.libraries.Library.{Library}
use Rattle.axiom_library.proofs.Naming as naming
use Rattle.axiom_library.proofs.WellFormed.{among_all}

-- ---- a library as a test

abbrev library_by : (Family → Bool) → Library
library_by test = record {
  bytes = test families.Bytes;
  products = test families.Products;
  sums = test families.Sums;
  halves = test families.Halves;
  extensions = test families.Extensions;
  rounding = test families.Rounding;
  comparisons = test families.Comparisons;
  minima = test families.Minima;
  carries = test families.Carries;
  masks = test families.Masks;
  fields = test families.Fields;
  constants = test families.Constants;
  unaligned = test families.Unaligned;
}

has_by : (test : Family → Bool) (family : Family) → has_family (library_by test) family ≡ test family
has_by test families.Bytes = refl
has_by test _ = refl

-- ---- one more family

abbrev is : Family → Family → Bool
is family other = bytes_eq (family_name family) (family_name other)

is_decides : (family other : Family) → Decides (is family other) (family ≡ other)
is_decides family other = (
  λ e. naming.differ family other ((bytes_eq-Decides (family_name family) (family_name other)).0 e),
  λ e. (bytes_eq-Decides (family_name family) (family_name other)).1 (ap family_name e),
)

with_by :
    (library : Library) (family : Family) →
    with_family library family ≡ library_by (λ other. is family other || has_family library other)
with_by library families.Bytes = refl
with_by library _ = refl

has_with :
    (library : Library) (family other : Family) →
    has_family (with_family library family) other ≡ (is family other || has_family library other)
has_with library family other =
    ap (λ l. has_family l other) (with_by library family)
    ∙ has_by (λ other. is family other || has_family library other) other

either : (a b : Bool) → (a || b) ≡ true → (a ≡ true) ⊎ (b ≡ true)
either true b e = inl refl
either false b e = inr e

or_true : (a : Bool) → (a || true) ≡ true
or_true true = refl
or_true false = refl

told :
    (library : Library) (family other : Family) →
    IsTrue (has_family (with_family library family) other) →
    (other ≡ family) ⊎ IsTrue (has_family library other)
told library family other h =
    elim (either (is family other) (has_family library other) (sym (has_with library family other) ∙ h)) [
      | inl e ↦ inl (sym ((is_decides family other).0 e))
      | inr e ↦ inr e
    ]

kept_old :
    (library : Library) (family other : Family) →
    IsTrue (has_family library other) →
    IsTrue (has_family (with_family library family) other)
kept_old library family other h =
    has_with library family other ∙ ap (λ b. is family other || b) h ∙ or_true (is family other)

put_in :
    (library : Library) (family other : Family) →
    other ≡ family →
    IsTrue (has_family (with_family library family) other)
put_in library family other e =
    has_with library family other ∙ ap (λ b. b || has_family library other) ((is_decides family other).1 (sym e))

pub with_one :
    (library : Library) (family other : Family) →
    IsTrue (has_family (with_family library family) other) ↔ ((other ≡ family) ⊎ IsTrue (has_family library other))
with_one library family other = (
  told library family other,
  λ h. elim h [ inl e ↦ put_in library family other e | inr old ↦ kept_old library family other old ],
)

-- ---- several

behind : {X : Type 0} (y x : X) (xs : List X) → Contains xs x → Contains (y ∷ xs) x
behind y x xs h = (suc h.0, omega (arith, h.1), h.2)

in_rest : {X : Type 0} (y x : X) (xs : List X) → Contains (y ∷ xs) x → (y ≡ x) ⊎ Contains xs x
in_rest y x xs (zero, l, e) = inl e
in_rest y x xs (suc k, l, e) = inr (k, omega (arith, l), e)

told_all :
    (asked : List Family) (library : Library) (family : Family) →
    IsTrue (has_family (with_families library asked) family) →
    Contains asked family ⊎ IsTrue (has_family library family)
told_all [] library family h = inr h
told_all (one ∷ others) library family h = elim (told_all others (with_family library one) family h) [
  | inl there ↦ inl (behind one family others there)
  | inr has ↦ elim (told library one family has) [
    | inl e ↦ inl (0, omega arith, sym e)
    | inr old ↦ inr old
  ]
]

kept_all :
    (asked : List Family) (library : Library) (family : Family) →
    IsTrue (has_family library family) →
    IsTrue (has_family (with_families library asked) family)
kept_all [] library family h = h
kept_all (one ∷ others) library family h =
    kept_all others (with_family library one) family (kept_old library one family h)

put_all :
    (asked : List Family) (library : Library) (family : Family) →
    Contains asked family →
    IsTrue (has_family (with_families library asked) family)
put_all [] library family h = absurd (omega (arith, h.1))
put_all (one ∷ others) library family h = elim (in_rest one family others h) [
  | inl e ↦ kept_all others (with_family library one) family (put_in library one family (sym e))
  | inr there ↦ put_all others (with_family library one) family there
]

pub has_none : (family : Family) → has_family no_library family ≡ false
has_none families.Bytes = refl
has_none _ = refl

not_both : (b : Bool) → b ≡ true → b ≡ false → ⊥
not_both b t f = let e : true ≡ false = sym t ∙ f in cc

pub of_list :
    (asked : List Family) (family : Family) →
    IsTrue (has_family (library_of asked) family) ↔ Contains asked family
of_list asked family = (
  λ h. elim (told_all asked no_library family h) [
    | inl there ↦ there
    | inr has ↦ absurd (not_both (has_family no_library family) has (has_none family))
  ],
  put_all asked no_library family,
)

-- ---- the list of a library

kept_by : {X : Type 0} (p : X → Bool) (x : X) → p x ≡ true → (xs : List X) → Contains xs x → Contains (filter p xs) x
kept_by p x passes [] h = absurd (omega (arith, h.1))
kept_by p x passes (y ∷ ys) h = elim (in_rest y x ys h) [
  | inl e ↦ first (sym e)
  | inr there ↦ later (p y) (kept_by p x passes ys there)
]
  where
    first : x ≡ y → Contains (cond (p y) (y ∷ filter p ys) (filter p ys)) x
    first e =
        subst (λ z. Contains (cond (p z) (z ∷ filter p ys) (filter p ys)) x) e
        (subst (λ b. Contains (cond b (x ∷ filter p ys) (filter p ys)) x) (sym passes) (0, omega arith, refl))

    later : (b : Bool) → Contains (filter p ys) x → Contains (cond b (y ∷ filter p ys) (filter p ys)) x
    later true there = behind y x (filter p ys) there
    later false there = there

pub listed :
    (library : Library) (family : Family) →
    Contains (families_of library) family ↔ IsTrue (has_family library family)
listed library family = (
  All-contains (λ f. has_family library f ≡ true) (families_of library) family
      (filter_passes (has_family library) all_families),
  λ h. kept_by (has_family library) family h all_families (among_all family),
)

all_differ : AllPairs (λ one other. one ≢ other) all_families
unfolding IsDistinct
all_differ = AllPairs-from_IsDistinct {eq = is} is_decides all_families (search rules)

pub once : (library : Library) → AllPairs (λ one other. one ≢ other) (families_of library)
once library = AllPairs-filter (λ one other. one ≢ other) (has_family library) all_families all_differ

-- ---- libraries that are the same

same_by :
    (test other : Family → Bool) →
    ((family : Family) → test family ≡ other family) →
    library_by test ≡ library_by other
same_by test other e =
    let bytes = e families.Bytes in
    let products = e families.Products in
    let sums = e families.Sums in
    let halves = e families.Halves in
    let extensions = e families.Extensions in
    let rounding = e families.Rounding in
    let comparisons = e families.Comparisons in
    let minima = e families.Minima in
    let carries = e families.Carries in
    let masks = e families.Masks in
    let fields = e families.Fields in
    let constants = e families.Constants in
    let unaligned = e families.Unaligned in
    cc

pub same :
    (library other : Library) →
    ((family : Family) → has_family library family ≡ has_family other family) →
    library ≡ other
same library other e = same_by (has_family library) (has_family other) e

one_truth : (a b : Bool) → (a ≡ true → b ≡ true) → (b ≡ true → a ≡ true) → a ≡ b
one_truth true b f g = sym (f refl)
one_truth false true f g = g refl
one_truth false false f g = refl

pub back : (library : Library) → library_of (families_of library) ≡ library
back library = same (library_of (families_of library)) library (λ family.
    one_truth (has_family (library_of (families_of library)) family) (has_family library family)
    (λ h. (listed library family).0 ((of_list (families_of library) family).0 h))
    (λ h. (of_list (families_of library) family).1 ((listed library family).1 h)))

-- ---- all but one

pub all : (family : Family) → IsTrue (has_family all_but_halves family) ↔ (family ≢ families.Halves)
all families.Halves = (λ e. cc, λ d. absurd (d refl))
all _ = (λ t. λ e. cc, λ d. refl)
