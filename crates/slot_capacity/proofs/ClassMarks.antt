-- Which classes stand in lists, by marks.
use Rattle.std.proofs.Common.{◌≡◌, ℕ, zero, suc, ◌+◌, ◌<◌, Bool, true, false, cond, List, [], ◌∷◌, ◌++◌, map, get_or, refl, sym, ap, ◌∙◌, arith}
use Rattle.std.specs.Prelude.{◌==◌, ◌&&◌, ◌||◌, Option}
use Rattle.std.specs.List.{filter, flat_map, list_any, range_with_len}
use Rattle.std.proofs.lemmas.List.Elements.{filter-append}
use Rattle.std.proofs.lemmas.List.FromFn.{get_or-map-range_with_len}
use Rattle.graph_meaning.specs.declared.graphs.LaunchGraph.{LaunchGraph}
use Rattle.graph_meaning.specs.WellFormed.{next_class}
use Rattle.cycle_encoding.specs.Variables.{classes_of}
use Rattle.cycle_encoding.proofs.Rows.{range_more}
use Rattle.slot_capacity.specs.Due.{can_be_due, more_due}
use Rattle.slot_capacity.specs.Makers.{always_reads, has, makers_of}
use Rattle.slot_capacity.specs.MakersSteps.{AreMakers, always_of}
use Rattle.slot_capacity.specs.Limits.{is_limited}
use Rattle.slot_capacity.specs.LimitsSteps.{classes_in}
use Rattle.slot_capacity.specs.declared.deadlines.Deadline.{Deadline}
use Rattle.slot_capacity.specs.declared.limits.Limit.{Limit}
use Rattle.slot_capacity.specs.declared.spans.Span.{Span}
use Rattle.slot_capacity.proofs.MakerLists.{among-all}

or_assoc : (a b c : Bool) → (a || (b || c)) ≡ ((a || b) || c)
or_assoc true b c = refl
or_assoc false b c = refl

-- ---- lists that are put together

pub has-append : (xs ys : List ℕ) (c : ℕ) → has (xs ++ ys) c ≡ (has xs c || has ys c)
has-append [] ys c = refl
has-append (x ∷ xs) ys c =
    ap (λ b. (x == c) || b) (has-append xs ys c) ∙ or_assoc (x == c) (has xs c) (has ys c)

pub has-flat : {X : Type 0} (f : X → List ℕ) (test : X → Bool) (c : ℕ) → ((x : X) → has (f x) c ≡ test x)
    → (xs : List X) → has (flat_map f xs) c ≡ list_any test xs
has-flat f test c is [] = refl
has-flat f test c is (x ∷ xs) =
    has-append (f x) (flat_map f xs) c ∙ ap (λ b. b || has (flat_map f xs) c) (is x)
    ∙ ap (λ b. test x || b) (has-flat f test c is xs)

-- ---- marks

pub marked-at : (xs : List ℕ) (n : ℕ) (marks : List Bool) → marks ≡ map (has xs) (range_with_len 0 n) → (c : ℕ)
    → c < n → get_or marks c false ≡ has xs c
marked-at xs n marks is c lt =
    ap (λ ms. get_or ms c false) is ∙ get_or-map-range_with_len (has xs) 0 n c c false lt (omega arith)

-- ---- numbers below a bound

pub filter-below : (p q : ℕ → Bool) (n : ℕ) → ((c : ℕ) → c < n → p c ≡ q c)
    → filter p (range_with_len 0 n) ≡ filter q (range_with_len 0 n)
filter-below p q zero is = refl
filter-below p q (suc n) is =
    let one : suc n ≡ n + 1 = omega arith in
    ap (λ m. filter p (range_with_len 0 m)) one
    ∙ ap (filter p) (range_more n) ∙ filter-append p (range_with_len 0 n) (n ∷ [])
    ∙ ap (λ xs. xs ++ filter p (n ∷ [])) (filter-below p q n (λ c lt. is c (omega arith)))
    ∙ ap (λ b. filter q (range_with_len 0 n) ++ cond b (n ∷ []) []) (is n (omega arith))
    ∙ sym (filter-append q (range_with_len 0 n) (n ∷ []))
    ∙ ap (filter q) (sym (range_more n))
    ∙ ap (λ m. filter q (range_with_len 0 m)) (sym one)

-- ---- what is due

module _ (g : LaunchGraph) (spans : List (Option Span)) (rows always : List (List ℕ))
    (are : AreMakers g spans rows always) (due : List ℕ) (marks read : List Bool)
    (marks_are : marks ≡ map (has due) (classes_of g))
    (read_are : read ≡ map (has (flat_map (always_of g spans) due)) (classes_of g))
  where
    -- the classes that pass by marks are those that are due by one step more
    pub more-by-marks : filter (λ c. get_or marks c false || (can_be_due g c && get_or read c false)) (classes_of g)
        ≡ more_due g spans due
    more-by-marks =
        filter-below (λ c. get_or marks c false || (can_be_due g c && get_or read c false))
        (λ c. has due c || (can_be_due g c && list_any (λ d. always_reads g spans d c) due)) (next_class g.rows)
        (λ c lt.
        ap (λ b. b || (can_be_due g c && get_or read c false)) (marked-at due (next_class g.rows) marks marks_are c lt)
        ∙ ap (λ b. has due c || (can_be_due g c && b))
        (marked-at (flat_map (always_of g spans) due) (next_class g.rows) read read_are c lt
        ∙ has-flat (always_of g spans) (λ d. always_reads g spans d c) c
        (λ d. among-all g spans rows always are (makers_of g spans d) c) due))

-- ---- what limits speak of

has-map : (due : List Deadline) (c : ℕ) → has (map (λ x. x.class) due) c ≡ list_any (λ y. y.class == c) due
has-map [] c = refl
has-map (y ∷ due) c = ap (λ b. (y.class == c) || b) (has-map due c)

-- a class below the bound is marked where some limit speaks of it
pub limited-by-marks : (limits : List Limit) (n : ℕ) (marks : List Bool)
    → marks ≡ map (has (flat_map classes_in limits)) (range_with_len 0 n) → (x : Deadline) → x.class < n
    → get_or marks x.class false ≡ is_limited limits x
limited-by-marks limits n marks is x lt =
    marked-at (flat_map classes_in limits) n marks is x.class lt
    ∙ has-flat classes_in (λ m. list_any (λ y. y.class == x.class) m.due) x.class (λ m. has-map m.due x.class) limits
