-- A table of clauses: another pair at a place, and a clause more.
use Rattle.std.proofs.Common.{◌≡◌, ℕ, ◌-◌, ◌<◌, ◌≤◌, List, [], ◌∷◌, ◌++◌, length, take, drop, map, set, get_or, refl, sym, ap, ◌∙◌, subst, arith}
use Rattle.std.specs.Prelude.{slice_range}
use Rattle.std.specs.List.{All}
use Rattle.std.proofs.lemmas.List.{map-set, map-append, get_or-map, take-append-le, drop-append-le, drop_at, take_all, length-append, length-drop}
use Rattle.std.proofs.lemmas.List.Elements.{All-head, All-tail}
use Rattle.cnf_core.specs.declared.literal.Lit.{Lit}
use Rattle.sat_core.specs.declared.watches.Pair.{Pair}
use Rattle.sat_core.specs.declared.watches.Entry.{Entry}
use Rattle.sat_core.specs.Copies.{Copied, copied_of, HasLiterals}
use Rattle.sat_core.specs.Watches.{no_copied, exchanged}

-- **another pair at a place**
pub copied-exchanged : (lits : List Lit) (es : List Entry) (items : List Copied) (k : ℕ) (e : Entry) (p : Pair) → map (copied_of lits) es ≡ items → k < length es → e ≡ get_or es k e
    → map (copied_of lits) (set es k (record { pair = p; start = e.start; end = e.end })) ≡ exchanged items k p
copied-exchanged lits es items k e p is few at =
    subst (λ (ys : List Copied). map (copied_of lits) (set es k (record { pair = p; start = e.start; end = e.end })) ≡ exchanged ys k p) is
    (map-set (copied_of lits) es k (record { pair = p; start = e.start; end = e.end })
    ∙ ap (λ (x : Copied). set (map (copied_of lits) es) k (record { pair = p; lits = x.lits }))
    (ap (copied_of lits) at ∙ sym (get_or-map (copied_of lits) es k e no_copied few)))

range-append : (xs ys : List Lit) (from end : ℕ) → from ≤ end → end ≤ length xs → slice_range (xs ++ ys) from end ≡ slice_range xs from end
range-append xs ys from end low high =
    ap (take (end - from)) (drop-append-le from xs ys (omega arith)) ∙ take-append-le (end - from) (drop from xs) ys (let e = length-drop from xs in omega arith)

copied-stay : (lits more : List Lit) (es : List Entry) → All (HasLiterals lits) es → map (copied_of (lits ++ more)) es ≡ map (copied_of lits) es
copied-stay lits more [] all = refl
copied-stay lits more (e ∷ es) all =
    let (low, high) = All-head (HasLiterals lits) e es all in
    ap (λ (x : List Lit). record { pair = e.pair; lits = x } ∷ map (copied_of (lits ++ more)) es) (range-append lits more e.start e.end low high)
    ∙ ap (λ (rest : List Copied). copied_of lits e ∷ rest) (copied-stay lits more es (All-tail (HasLiterals lits) e es all))

-- **a clause more**
pub copied-pushed : (lits more new : List Lit) (es es' : List Entry) (items : List Copied) (p : Pair) (start end : ℕ) → map (copied_of lits) es ≡ items → All (HasLiterals lits) es
    → new ≡ lits ++ more → start ≡ length lits → end ≡ length new → es' ≡ es ++ record { pair = p; start = start; end = end } ∷ []
    → map (copied_of new) es' ≡ items ++ record { pair = p; lits = more } ∷ []
copied-pushed lits more new es es' items p start end is all is-new is-start is-end is-es =
    let long = length-append lits more in
    let last : slice_range (lits ++ more) (length lits) (length (lits ++ more)) ≡ more =
    ap (take (length (lits ++ more) - length lits)) (drop_at lits more (length lits) refl) ∙ take_all (length (lits ++ more) - length lits) more (omega arith) in
    let end' : end ≡ length (lits ++ more) = is-end ∙ ap length is-new in
    ap (λ (xs : List Entry). map (copied_of new) xs) is-es ∙ ap (λ (x : List Lit). map (copied_of x) (es ++ record { pair = p; start = start; end = end } ∷ [])) is-new
    ∙ map-append (copied_of (lits ++ more)) es (record { pair = p; start = start; end = end } ∷ [])
    ∙ ap (λ (xs : List Copied). xs ++ copied_of (lits ++ more) (record { pair = p; start = start; end = end }) ∷ []) (copied-stay lits more es all ∙ is)
    ∙ ap (λ (k : ℕ). items ++ record { pair = p; lits = slice_range (lits ++ more) k end } ∷ []) is-start
    ∙ ap (λ (k : ℕ). items ++ record { pair = p; lits = slice_range (lits ++ more) (length lits) k } ∷ []) end'
    ∙ ap (λ (x : List Lit). items ++ record { pair = p; lits = x } ∷ []) last
