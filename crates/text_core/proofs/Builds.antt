-- What tokens have built, one token after another, and the fault where they stop.
use Rattle.std.proofs.Common.{◌≡◌, ℕ, suc, ◌+◌, List, [], ◌∷◌, ◌++◌, length, refl, sym, ap, ◌∙◌, subst, arith, append_assoc, append-nil, add-zero}
use Rattle.text_core.specs.declared.tokens.Token.{Token}
use Rattle.text_core.specs.declared.tokens.TokenKind.TheVariants as kinds
use Rattle.text_core.specs.Building.{Frame, AreOpen, closed, within, AreOpenLists}
use Rattle.text_core.specs.Nesting.{IsBalanced, IsInside, outside, inside}
use Rattle.text_core.specs.Sexps.{all_of}
use Rattle.text_core.specs.Trees.{SexpTree, list, Spells, SpellAll, as_list, no_more}
use Rattle.text_core.proofs.Forests.{spelled_more}

pub built_none : AreOpenLists [] [] []
built_none = record { front = []; back = []; whole = refl; lists = closed; spelled = no_more }

-- one tree more inside the innermost open list
pub built_tree : (frames : List Frame) (parts : List SexpTree) (xs ys : List Token) (tree : SexpTree) → AreOpenLists frames parts xs → Spells tree ys → AreOpenLists frames (parts ++ tree ∷ []) (xs ++ ys)
built_tree frames parts xs ys tree built one = record {
  front = built.front;
  back = built.back ++ ys;
  whole = ap (λ zs. zs ++ ys) built.whole ∙ append_assoc built.front built.back ys;
  lists = built.lists;
  spelled = spelled_more parts tree built.back ys built.spelled one;
}

open_more : (frames : List Frame) (frame : Frame) (front back : List Token) (o : Token) → AreOpen frames front → SpellAll (all_of frame.before) back → o.kind ≡ kinds.Opening → o.place ≡ frame.place → AreOpen (frames ++ frame ∷ []) (front ++ back ++ o ∷ [])
open_more frames frame front back o closed spelled opens place =
    within back o [] spelled opens place closed refl
open_more frames frame front back o (within {frame = f} {frames = more} first p behind each opens' place' others same) spelled opens place =
    within first p (behind ++ back ++ o ∷ []) each opens' place' (open_more more frame behind back o others spelled opens place)
    (ap (λ zs. (zs ++ back) ++ o ∷ []) same ∙ ap (λ zs. zs ++ o ∷ []) (append_assoc first (p ∷ behind) back) ∙ append_assoc first (p ∷ behind ++ back) (o ∷ []))

-- one list more is open
pub built_enter : (frames : List Frame) (parts : List SexpTree) (xs : List Token) (o : Token) → AreOpenLists frames parts xs → o.kind ≡ kinds.Opening → AreOpenLists (frames ++ (record { place = o.place; before = parts }) ∷ []) [] (xs ++ o ∷ [])
built_enter frames parts xs o built opens = record {
  front = built.front ++ built.back ++ o ∷ [];
  back = [];
  whole = ap (λ zs. zs ++ o ∷ []) built.whole ∙ sym (append-nil (built.front ++ built.back ++ o ∷ []));
  lists = open_more frames (record { place = o.place; before = parts }) built.front built.back o built.lists built.spelled opens refl;
  spelled = no_more;
}

nothing_open : (frames : List Frame) (xs : List Token) → frames ≡ [] → AreOpen frames xs → xs ≡ []
nothing_open frames xs none closed = refl
nothing_open frames xs none (within _ _ _ _ _ _ _ _) = cc

regroup : (a b d : List Token) (o c : Token) → ((a ++ b ++ o ∷ []) ++ d) ++ c ∷ [] ≡ a ++ (b ++ (o ∷ d ++ c ∷ []))
regroup a b d o c = simp append_assoc

deeper : (a b d : List Token) (p o : Token) → a ++ p ∷ (b ++ d ++ o ∷ []) ≡ (a ++ p ∷ b) ++ d ++ o ∷ []
deeper a b d p o = simp append_assoc

-- what stands before the innermost open list, and its parenthesis
record IsInnermost (frames : List Frame) (frame : Frame) (tokens : List Token) : Type 0 where
  front : List Token
  back : List Token
  opening : Token
  whole : tokens ≡ front ++ back ++ opening ∷ []
  lists : AreOpen frames front
  spelled : SpellAll (all_of frame.before) back
  opens : opening.kind ≡ kinds.Opening
  placed : opening.place ≡ frame.place

deepen : (g frame : Frame) (frames : List Frame) (first behind xs : List Token) (p : Token) → SpellAll (all_of g.before) first → p.kind ≡ kinds.Opening → p.place ≡ g.place → xs ≡ first ++ p ∷ behind → IsInnermost frames frame behind → IsInnermost (g ∷ frames) frame xs
deepen g frame frames first behind xs p each opens place same rest = record {
  front = first ++ p ∷ rest.front;
  back = rest.back;
  opening = rest.opening;
  whole = same ∙ (ap (λ zs. first ++ p ∷ zs) rest.whole ∙ deeper first rest.front rest.back p rest.opening);
  lists = within first p rest.front each opens place rest.lists refl;
  spelled = rest.spelled;
  opens = rest.opens;
  placed = rest.placed;
}

innermost : (f : Frame) (first xs : List Token) (p : Token) → SpellAll (all_of f.before) first → p.kind ≡ kinds.Opening → p.place ≡ f.place → xs ≡ first ++ p ∷ [] → IsInnermost [] f xs
innermost f first xs p each opens place same = record { front = []; back = first; opening = p; whole = same; lists = closed; spelled = each; opens = opens; placed = place }

open_less : (frames : List Frame) (frame : Frame) (xs : List Token) (all : List Frame) → all ≡ frames ++ frame ∷ [] → AreOpen all xs → IsInnermost frames frame xs
open_less [] frame xs all split closed = cc
open_less [] frame xs all split (within {frame = f} {frames = more} first p behind each opens place others same) =
    let head : f ≡ frame = cc in
    let tail : more ≡ [] = cc in
    subst (λ (g : Frame). IsInnermost [] g xs) head (innermost f first xs p each opens place (same ∙ ap (λ zs. first ++ p ∷ zs) (nothing_open more behind tail others)))
open_less (g ∷ frames) frame xs all split closed = cc
open_less (g ∷ frames) frame xs all split (within {frame = f} {frames = more} first p behind each opens place others same) =
    let head : f ≡ g = cc in
    let tail : more ≡ frames ++ frame ∷ [] = cc in
    subst (λ (h : Frame). IsInnermost (h ∷ frames) frame xs) head (deepen f frame frames first behind xs p each opens place same (open_less frames frame behind more tail others))

-- the innermost list is closed
pub built_leave : (frames : List Frame) (frame : Frame) (parts : List SexpTree) (xs : List Token) (c : Token) → AreOpenLists (frames ++ frame ∷ []) parts xs → c.kind ≡ kinds.Closing → AreOpenLists frames (frame.before ++ list frame.place (all_of parts) ∷ []) (xs ++ c ∷ [])
built_leave frames frame parts xs c built closes =
    let last = open_less frames frame built.front (frames ++ frame ∷ []) refl built.lists in
    let one = as_list {tokens = last.opening ∷ built.back ++ c ∷ []} last.opening c built.back last.opens last.placed built.spelled closes refl in
    record {
      front = last.front;
      back = last.back ++ (last.opening ∷ built.back ++ c ∷ []);
      whole = ap (λ zs. zs ++ c ∷ []) (built.whole ∙ ap (λ zs. zs ++ built.back) last.whole) ∙ regroup last.front last.back built.back last.opening c;
      lists = last.lists;
      spelled = spelled_more frame.before (list frame.place (all_of parts)) last.back (last.opening ∷ built.back ++ c ∷ []) last.spelled one;
    }

-- nothing is open, so the tokens spell trees
pub built_whole : (parts : List SexpTree) (xs : List Token) → AreOpenLists [] parts xs → SpellAll (all_of parts) xs
built_whole parts xs built =
    let none = nothing_open [] built.front refl built.lists in
    subst (SpellAll (all_of parts)) (sym (built.whole ∙ ap (λ zs. zs ++ built.back) none)) built.spelled

-- trees that leave a parenthesis open may go on with balanced tokens
IsInsideBefore : ℕ → List Token → Type 0
IsInsideBefore n xs = (ys : List Token) → IsBalanced ys → IsInside n (xs ++ ys)

open_inside : (frames : List Frame) (n : ℕ) (zs xs : List Token) → IsInsideBefore n zs → AreOpen frames xs → IsInsideBefore (n + length frames) (zs ++ xs)
unfolding IsInsideBefore
open_inside frames n zs xs h closed = λ ys balanced. rw (append-nil, add-zero) (h ys balanced)
open_inside frames n zs xs h (within {frame = f} {frames = more} first p behind each opens place others same) =
    let next : IsInsideBefore (suc n) (zs ++ first ++ p ∷ []) = λ ys balanced.
    inside (record { front = zs ++ first; opening = p; inner = ys; whole = append_assoc (zs ++ first) (p ∷ []) ys; opens = opens; balanced = balanced }) (h first (record { trees = all_of f.before; spelled = each })) in
    let rest = open_inside more (suc n) (zs ++ first ++ p ∷ []) behind next others in
    let counted : suc n + length more ≡ n + length (f ∷ more) = omega arith in
    let joined : (zs ++ first ++ p ∷ []) ++ behind ≡ zs ++ xs = append_assoc (zs ++ first) (p ∷ []) behind ∙ (append_assoc zs first (p ∷ behind) ∙ ap (λ ws. zs ++ ws) (sym same)) in
    subst (λ (m : ℕ). IsInsideBefore m (zs ++ xs)) counted (subst (IsInsideBefore (suc n + length more)) joined rest)

pub built_inside : (frames : List Frame) (parts : List SexpTree) (xs : List Token) → AreOpenLists frames parts xs → IsInside (length frames) xs
unfolding IsInsideBefore
built_inside frames parts xs built =
    let start : IsInsideBefore 0 [] = λ ys balanced. outside in
    let found = open_inside frames 0 [] built.front start built.lists built.back (record { trees = all_of parts; spelled = built.spelled }) in
    let counted : 0 + length frames ≡ length frames = omega arith in
    subst (λ (m : ℕ). IsInside m xs) counted (subst (IsInside (0 + length frames)) (sym built.whole) found)

-- the levels that stand open behind tokens
pub last_of : {A : Type 0} (x : A) (xs : List A) → (ys : List A) × (y : A) × (x ∷ xs ≡ ys ++ y ∷ [])
last_of x [] = ([], x, refl)
last_of x (z ∷ xs) = let rest = last_of z xs in (x ∷ rest.0, rest.1, ap (λ zs. x ∷ zs) rest.2)
