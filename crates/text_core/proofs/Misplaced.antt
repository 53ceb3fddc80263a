-- The first fault among the parentheses of some tokens.
use Rattle.std.proofs.Common.{◌≡◌, ℕ, ◌<◌, ◌≤◌, inl, inr, List, [], ◌∷◌, ◌++◌, length, refl, sym, ap, ◌∙◌, subst, arith, append-nil, length-append}
use Rattle.std.proofs.lemmas.Bool.{cases_lt}
use Rattle.text_core.specs.declared.faults.Kind.{Kind}
use Rattle.text_core.specs.declared.faults.Kind.TheVariants.{Unclosed, Unopened, TooDeep}
use Rattle.text_core.specs.declared.tokens.Token.{Token}
use Rattle.text_core.specs.declared.tokens.TokenKind.TheVariants as kinds
use Rattle.text_core.specs.Building.{peak}
use Rattle.text_core.specs.Faults.{IsNotBehind, fault_number}
use Rattle.text_core.specs.Nesting.{HasClosing, IsInside, IsMisplaced, unclosed, unopened, too_deep, IsTreeFault, IsFirstTreeFault}
use Rattle.text_core.specs.Trees.{SexpTrees, SpellAll, HasTrees}
use Rattle.text_core.proofs.Cuts.{cut_inside, cut_same}
use Rattle.text_core.proofs.Depths.{need, need-append, peak-append, peak-opening, inside_extra, not_opened, not_closed, spelled_levels}
use Rattle.text_core.proofs.Partners.{closed_before, closed_in_trees, opened_in_trees}

-- a token within trees can only be too deep
only_deep : (trees : SexpTrees) (w m b r : List Token) (t : Token) (kind : Kind) → SpellAll trees w → w ++ m ≡ b ++ t ∷ r → length b < length w → IsMisplaced b t r kind → (kind ≡ TooDeep) × (t.kind ≡ kinds.Opening) × IsInside 64 b
only_deep trees w m b r t kind spelled same less (unclosed opens never) =
    let found = cut_inside w m b r t same less in
    absurd (never (subst HasClosing (sym found.2) (closed_before found.0 m (closed_in_trees trees w b found.0 t spelled found.1 opens))))
only_deep trees w m b r t kind spelled same less (unopened closes never) =
    let found = cut_inside w m b r t same less in
    absurd (never (opened_in_trees trees w b found.0 t spelled found.1 closes))
only_deep trees w m b r t kind spelled same less (too_deep opens enclosed) = (refl, opens, enclosed)

-- an opening parenthesis within tokens of a low peak isn't too deep
not_deep : (w m b r : List Token) (t : Token) → need w ≡ 0 → peak w ≤ 64 → w ++ m ≡ b ++ t ∷ r → length b < length w → t.kind ≡ kinds.Opening → IsInside 64 b → ⊥
not_deep w m b r t needs low same less opens enclosed =
    let found = cut_inside w m b r t same less in
    omega (arith, inside_extra 64 b enclosed, ap need found.1, need-append b (t ∷ found.0), ap peak found.1, peak-append b (t ∷ found.0), peak-opening t found.0 opens)

-- no fault stands within trees of a low peak
pub none_within : (trees : SexpTrees) (tokens w m : List Token) (index : ℕ) (kind : Kind) → SpellAll trees w → peak w ≤ 64 → tokens ≡ w ++ m → IsTreeFault tokens index kind → index < length w → ⊥
none_within trees tokens w m index kind spelled low same fault less =
    let cut = sym same ∙ fault.whole in
    let deep = only_deep trees w m fault.before fault.behind fault.token kind spelled cut (omega (arith, fault.indexed)) fault.misplaced in
    not_deep w m fault.before fault.behind fault.token (spelled_levels trees w spelled).needs low cut (omega (arith, fault.indexed)) deep.1 deep.2

same_place : (tokens b r : List Token) (t : Token) (index : ℕ) (kind : Kind) → tokens ≡ b ++ t ∷ r → (fault : IsTreeFault tokens index kind) → index ≡ length b → IsMisplaced b t r kind
same_place tokens b r t index kind whole fault same =
    let cut = cut_same fault.before fault.behind b r fault.token t (sym fault.whole ∙ whole) (omega (arith, fault.indexed)) in
    subst (λ ys. IsMisplaced b t ys kind) cut.2 (subst (λ (u : Token). IsMisplaced b u fault.behind kind) cut.1 (subst (λ ys. IsMisplaced ys fault.token fault.behind kind) cut.0 fault.misplaced))

apart : (t : Token) → t.kind ≡ kinds.Opening → t.kind ≡ kinds.Closing → ⊥
apart t opens closes = cc

closing_is_unopened : (b r : List Token) (t : Token) (kind : Kind) → t.kind ≡ kinds.Closing → IsMisplaced b t r kind → fault_number Unopened ≤ fault_number kind
closing_is_unopened b r t kind closes (unclosed opens _) = absurd (apart t opens closes)
closing_is_unopened b r t kind closes (unopened _ _) = omega arith
closing_is_unopened b r t kind closes (too_deep opens _) = absurd (apart t opens closes)

unclosed_is_least : (b r : List Token) (t : Token) (kind : Kind) → IsMisplaced b t r kind → fault_number Unclosed ≤ fault_number kind
unclosed_is_least b r t kind (unclosed _ _) = omega arith
unclosed_is_least b r t kind (unopened _ _) = omega arith
unclosed_is_least b r t kind (too_deep _ _) = omega arith

-- a fault at or behind a place
later : (place index : ℕ) (kind other : Kind) → (index < place → ⊥) → (index ≡ place → fault_number kind ≤ fault_number other) → IsNotBehind place kind index other
later place index kind other never here =
    elim (cases_lt index place) [
      | inl less ↦ absurd (never less)
      | inr more ↦ elim (cases_lt place index) [
        | inl less ↦ inl less
        | inr more' ↦ inr (omega arith, here (omega arith))
      ]
    ]

-- a closing parenthesis behind trees is unopened
pub unopened_first : (trees : SexpTrees) (tokens w r : List Token) (c : Token) → tokens ≡ w ++ c ∷ r → SpellAll trees w → peak w ≤ 64 → c.kind ≡ kinds.Closing → IsFirstTreeFault tokens c.place Unopened
unopened_first trees tokens w r c whole spelled low closes = record {
  index = length w;
  first = record {
    found = record { before = w; token = c; behind = r; whole = whole; indexed = refl; misplaced = unopened closes (not_opened w (spelled_levels trees w spelled).extras) };
    earliest = λ index kind fault. later (length w) index Unopened kind (none_within trees tokens w (c ∷ r) index kind spelled low whole fault) (λ same. closing_is_unopened w r c kind closes (same_place tokens w r c index kind whole fault same));
  };
  placed = refl;
}

-- an opening parenthesis behind trees is unclosed where each closing one behind it has its partner behind it
pub unclosed_first : (trees : SexpTrees) (tokens w r : List Token) (o : Token) → tokens ≡ w ++ o ∷ r → SpellAll trees w → peak w ≤ 64 → o.kind ≡ kinds.Opening → need r ≡ 0 → IsFirstTreeFault tokens o.place Unclosed
unclosed_first trees tokens w r o whole spelled low opens needs = record {
  index = length w;
  first = record {
    found = record { before = w; token = o; behind = r; whole = whole; indexed = refl; misplaced = unclosed opens (not_closed r needs) };
    earliest = λ index kind fault. later (length w) index Unclosed kind (none_within trees tokens w (o ∷ r) index kind spelled low whole fault) (λ same. unclosed_is_least w r o kind (same_place tokens w r o index kind whole fault same));
  };
  placed = refl;
}

deep_number : (kind : Kind) → kind ≡ TooDeep → fault_number TooDeep ≤ fault_number kind
deep_number kind same = omega (arith, ap fault_number same)

-- an opening parenthesis inside 64 others is the first that is too deep, and is so where trees go on behind it
pub too_deep_first : (trees : SexpTrees) (tokens w m b r : List Token) (o : Token) → tokens ≡ b ++ o ∷ r → tokens ≡ w ++ m → SpellAll trees w → length b < length w → need b ≡ 0 → peak b ≤ 64 → o.kind ≡ kinds.Opening → IsInside 64 b → IsFirstTreeFault tokens o.place TooDeep
too_deep_first trees tokens w m b r o whole same spelled less needs low opens deep = record {
  index = length b;
  first = record {
    found = record { before = b; token = o; behind = r; whole = whole; indexed = refl; misplaced = too_deep opens deep };
    earliest = λ index kind fault.
        let cut = sym same ∙ fault.whole in
        later (length b) index TooDeep kind
        (λ early.
        let only = only_deep trees w m fault.before fault.behind fault.token kind spelled cut (omega (arith, fault.indexed)) fault.misplaced in
        not_deep b (o ∷ r) fault.before fault.behind fault.token needs low (sym whole ∙ fault.whole) (omega (arith, fault.indexed)) only.1 only.2)
        (λ here. deep_number kind (only_deep trees w m fault.before fault.behind fault.token kind spelled cut (omega (arith, fault.indexed)) fault.misplaced).0);
  };
  placed = refl;
}

-- tokens with trees have no fault
pub no_tree_fault : (tokens : List Token) (trees : SexpTrees) (index : ℕ) (kind : Kind) → HasTrees tokens trees → IsTreeFault tokens index kind → ⊥
no_tree_fault tokens trees index kind has fault =
    let levels = spelled_levels trees tokens has.spelled in
    none_within trees tokens tokens [] index kind has.spelled (omega (arith, levels.peaks, has.nested)) (sym (append-nil tokens)) fault (omega (arith, fault.indexed, ap length fault.whole, length-append fault.before (fault.token ∷ fault.behind)))
