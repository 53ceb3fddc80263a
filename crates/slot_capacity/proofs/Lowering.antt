-- Deadlines that readers make sooner: by lists of the readers' deadlines, one for each class.
use Rattle.std.proofs.Common.{◌≡◌, ℕ, suc, ◌+◌, ◌<◌, Bool, true, false, cond, List, [], ◌∷◌, ◌++◌, length, map, take, get_or, refl, sym, ap, ◌∙◌, arith}
use Rattle.std.specs.Prelude.{◌==◌, ◌||◌, All, Option, fold}
use Rattle.std.specs.List.{filter, range_with_len}
use Rattle.std.proofs.lemmas.List.{append-nil, append_assoc}
use Rattle.std.proofs.lemmas.List.Sums.{fold-append}
use Rattle.std.proofs.lemmas.List.FromFn.{get_or-map-range_with_len}
use Rattle.machine_table.specs.declared.tables.Table.{Table}
use Rattle.graph_meaning.specs.declared.graphs.LaunchGraph.{LaunchGraph}
use Rattle.graph_meaning.specs.WellFormed.{next_class}
use Rattle.cycle_encoding.specs.Variables.{classes_of}
use Rattle.cycle_encoding.proofs.Sorted.{map_same, put_more}
use Rattle.slot_capacity.specs.Deadlines.{least_delay, lowered, sooner}
use Rattle.slot_capacity.specs.DeadlinesSteps.{before_reader, last_for, last_if, lasts_for, lowered_by, with_last}
use Rattle.slot_capacity.specs.Makers.{has, makers_of}
use Rattle.slot_capacity.specs.MakersSteps.{AreMakers, always_of}
use Rattle.slot_capacity.specs.declared.spans.Span.{Span}
use Rattle.slot_capacity.specs.declared.deadlines.Deadline.{Deadline}
use Rattle.slot_capacity.proofs.ClauseSteps.{flat-more}
use Rattle.slot_capacity.proofs.MakerLists.{among-all}

-- ---- a reader that stands more than once makes the deadline no sooner

module _ (x : Deadline) (delay last : ℕ) where
  abbrev step : ℕ → ℕ → ℕ
  step = before_reader x delay

  twice : (l : ℕ) → step (step l last) last ≡ step l last
  twice l = omega arith

  by_first : (class y : ℕ) (read : List ℕ) (l : ℕ) (b : Bool)
      → ((l : ℕ) → fold step l (last_for read last class) ≡ cond (has read class) (step l last) l)
      → fold step l (cond b (last ∷ []) [] ++ last_for read last class) ≡ cond (b || has read class) (step l last) l
  by_first class y read l true ih = ih (step l last) ∙ by_more (has read class)
    where
      by_more : (b : Bool) → cond b (step (step l last) last) (step l last) ≡ step l last
      by_more true = twice l
      by_more false = refl
  by_first class y read l false ih = ih l

  pub last-once : (class : ℕ) (read : List ℕ) (l : ℕ)
      → fold step l (last_for read last class) ≡ cond (has read class) (step l last) l
  last-once class [] l = refl
  last-once class (y ∷ read) l = by_first class y read l (y == class) (last-once class read)

-- ---- readers of a class

module _ (g : LaunchGraph) (table : Table) (k : ℕ) (spans : List (Option Span)) (rows always : List (List ℕ))
    (are : AreMakers g spans rows always) (x : Deadline)
  where
    abbrev delay_of : ℕ
    delay_of = least_delay g table k spans x.class

    pub sooner-by-lasts : (readers : List Deadline) (l : ℕ)
        → fold (before_reader x delay_of) l (lasts_for g spans readers x.class)
        ≡ fold (sooner g table k spans x) l readers
    sooner-by-lasts [] l = refl
    sooner-by-lasts (r ∷ readers) l =
        let f = before_reader x delay_of in
        let one = last_for (always_of g spans r.class) r.last x.class in
        fold-append f l one (lasts_for g spans readers x.class)
        ∙ ap (λ m. fold f m (lasts_for g spans readers x.class))
        (last-once x delay_of r.last x.class (always_of g spans r.class) l
        ∙ ap (λ b. cond b (f l r.last) l) (among-all g spans rows always are (makers_of g spans r.class) x.class))
        ∙ sooner-by-lasts readers (sooner g table k spans x l r)

    -- the list of the class, where it stands among all
    pub lowered-by-list : (readers : List Deadline) (lists : List (List ℕ))
        → lists ≡ map (lasts_for g spans readers) (classes_of g) → x.class < next_class g.rows
        → lowered_by g table k spans (get_or lists x.class []) x ≡ lowered g table k spans readers x
    lowered-by-list readers lists is lt =
        ap (λ (ls : List ℕ). lowered_by g table k spans ls x)
        (ap (λ (xs : List (List ℕ)). get_or xs x.class []) is
        ∙ get_or-map-range_with_len (lasts_for g spans readers) 0 (next_class g.rows) x.class x.class [] lt (omega arith))
        ∙ ap (λ (n : ℕ). record x { last = n }) (sooner-by-lasts readers x.last)

-- ---- deadlines of classes below a bound

pub map-low : (n : ℕ) (f h : Deadline → Deadline) (xs : List Deadline) → All (λ x. x.class < n) xs
    → ((x : Deadline) → x.class < n → f x ≡ h x) → map f xs ≡ map h xs
map-low n f h [] low same = refl
map-low n f h (x ∷ xs) low same =
    let s : length (x ∷ xs) ≡ suc (length xs) = refl in
    ap (λ y. y ∷ map f xs) (same x (low 0 x (omega arith)))
    ∙ ap (λ ys. h x ∷ ys) (map-low n f h xs (λ i d lt. low (suc i) d (omega arith)) same)

pub filter-low : (n : ℕ) (p q : Deadline → Bool) (xs : List Deadline) → All (λ x. x.class < n) xs
    → ((x : Deadline) → x.class < n → p x ≡ q x) → filter p xs ≡ filter q xs
filter-low n p q [] low same = refl
filter-low n p q (x ∷ xs) low same =
    let s : length (x ∷ xs) ≡ suc (length xs) = refl in
    ap (λ b. cond b (x ∷ filter p xs) (filter p xs)) (same x (low 0 x (omega arith)))
    ∙ ap (λ ys. cond (q x) (x ∷ ys) ys) (filter-low n p q xs (λ i d lt. low (suc i) d (omega arith)) same)

-- ---- lists of classes

-- a deadline put into the lists of some classes
pub lasts-put : (last n : ℕ) (read : List ℕ) (f : ℕ → List ℕ)
    → fold (with_last last) (map f (range_with_len 0 n)) read
    ≡ map (λ c. f c ++ last_for read last c) (range_with_len 0 n)
lasts-put last n [] f = map_same f (λ c. f c ++ []) 0 n (λ c a b. append-nil (f c))
lasts-put last n (y ∷ read) f =
    let h = λ (c : ℕ). f c ++ last_if c last y in
    ap (λ (ls : List (List ℕ)). fold (with_last last) ls read) (put_more f h n y last (λ b. refl))
    ∙ lasts-put last n read h
    ∙ map_same (λ c. h c ++ last_for read last c) (λ c. f c ++ last_for (y ∷ read) last c) 0 n
    (λ c a b. sym (append_assoc (f c) (last_if c last y) (last_for read last c)))

module _ (g : LaunchGraph) (spans : List (Option Span)) (xs : List Deadline) (i : ℕ) (d : Deadline)
    (lt : i < length xs)
  where
    -- those of one reader more
    pub lasts-more : (mid new : List (List ℕ)) → mid ≡ map (lasts_for g spans (take i xs)) (classes_of g)
        → new ≡ fold (with_last (get_or xs i d).last) mid (always_of g spans (get_or xs i d).class)
        → new ≡ map (lasts_for g spans (take (i + 1) xs)) (classes_of g)
    lasts-more mid new is e =
        let r = get_or xs i d in
        let read = always_of g spans r.class in
        e ∙ ap (λ (ls : List (List ℕ)). fold (with_last r.last) ls read) is
        ∙ lasts-put r.last (next_class g.rows) read (lasts_for g spans (take i xs))
        ∙ map_same (λ c. lasts_for g spans (take i xs) c ++ last_for read r.last c)
        (lasts_for g spans (take (i + 1) xs)) 0 (next_class g.rows)
        (λ c a b. flat-more (λ (r : Deadline). last_for (always_of g spans r.class) r.last c) xs i d lt)
