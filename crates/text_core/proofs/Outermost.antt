-- An outermost list that is still open, and its end.
use Rattle.std.proofs.Common.{◌≡◌, ℕ, ◌+◌, ◌-◌, ◌<◌, ◌≤◌, List, [], ◌∷◌, ◌++◌, length, take, drop, get_or, refl, sym, ap, ◌∙◌, subst, arith, append_assoc, length-append, length-take, take-append-drop, drop-cons, add-one}
use Rattle.std.proofs.lemmas.List.{take_all, take_more}
use Rattle.text_core.specs.declared.faults.Kind.TheVariants.{Unclosed, TooDeep}
use Rattle.text_core.specs.declared.tokens.Token.{Token}
use Rattle.text_core.specs.declared.tokens.TokenKind.{TokenKind}
use Rattle.text_core.specs.declared.tokens.TokenKind.TheVariants as kinds
use Rattle.text_core.specs.Building.{Frame, within, AreOpenLists, IsStillOpen, peak, depth_behind}
use Rattle.text_core.specs.Nesting.{IsInside, IsFirstTreeFault}
use Rattle.text_core.specs.Sexps.{all_of}
use Rattle.text_core.specs.Trees.{SexpTree, SexpTrees, atom, list, IsAtom, name, register, number, SpellAll, as_atom, as_list}
use Rattle.text_core.proofs.Builds.{built_tree, built_enter, built_leave, built_whole, built_inside, last_of}
use Rattle.text_core.proofs.Cuts.{cut_inside}
use Rattle.text_core.proofs.Depths.{built_levels, peak-append}
use Rattle.text_core.proofs.Forests.{spelled_more}
use Rattle.text_core.proofs.Misplaced.{too_deep_first, unclosed_first}

-- all that is open, the outermost list with it
record IsAllBuilt (count : ℕ) (tokens : List Token) : Type 0 where
  frames : List Frame
  parts : List SexpTree
  built : AreOpenLists frames parts tokens
  counted : length frames ≡ count

all_built : (tokens : List Token) (at place index count : ℕ) → IsStillOpen tokens at place index count → IsAllBuilt count (take index tokens)
all_built tokens at place index count still =
    let frame : Frame = record { place = place; before = still.before } in
    record {
      frames = frame ∷ still.frames;
      parts = still.parts;
      built = record {
        front = still.front ++ still.opening ∷ still.built.front;
        back = still.built.back;
        whole = still.whole ∙ (ap (λ zs. still.front ++ still.opening ∷ zs) still.built.whole ∙ sym (append_assoc still.front (still.opening ∷ still.built.front) still.built.back));
        lists = within {frame = frame} still.front still.opening still.built.front still.spelled still.opens still.placed still.built.lists refl;
        spelled = still.built.spelled;
      };
      counted = omega (arith, still.counted);
    }

-- with one token more, where the outermost list is still open
still_with : (tokens : List Token) (at place index next count new : ℕ) (t : Token) (frames : List Frame) (parts : List SexpTree) (still : IsStillOpen tokens at place index count) → take next tokens ≡ take index tokens ++ t ∷ [] → AreOpenLists frames parts (still.behind ++ t ∷ []) → new ≡ 1 + length frames → IsStillOpen tokens at place next new
still_with tokens at place index next count new t frames parts still more built counted = record {
  before = still.before;
  frames = frames;
  parts = parts;
  front = still.front;
  opening = still.opening;
  behind = still.behind ++ t ∷ [];
  whole = more ∙ (ap (λ zs. zs ++ t ∷ []) still.whole ∙ append_assoc still.front (still.opening ∷ still.behind) (t ∷ []));
  early = still.early;
  spelled = still.spelled;
  opens = still.opens;
  placed = still.placed;
  built = built;
  counted = counted;
}

still_left : (tokens : List Token) (at place index next count : ℕ) (t : Token) (frames : List Frame) (still : IsStillOpen tokens at place index count) → frames ≡ still.frames → take next tokens ≡ take index tokens ++ t ∷ [] → t.kind ≡ kinds.Closing → 0 < count - 1 → IsStillOpen tokens at place next (count - 1)
still_left tokens at place index next count t [] still is more closes some =
    absurd (omega (arith, still.counted, ap length is))
still_left tokens at place index next count t (f ∷ frames) still is more closes some =
    let last = last_of f frames in
    let built : AreOpenLists (last.0 ++ last.1 ∷ []) still.parts still.behind = subst (λ fs. AreOpenLists fs still.parts still.behind) (sym is ∙ last.2) still.built in
    still_with tokens at place index next count (count - 1) t last.0 (last.1.before ++ list last.1.place (all_of still.parts) ∷ []) still more (built_leave last.0 last.1 still.parts still.behind t built closes)
    (omega (arith, still.counted, ap length (sym is ∙ last.2), length-append last.0 (last.1 ∷ [])))

still_kind : (k : TokenKind) (tokens : List Token) (at place index next count : ℕ) (t : Token) → t.kind ≡ k → IsStillOpen tokens at place index count → take next tokens ≡ take index tokens ++ t ∷ [] → 0 < depth_behind k count → IsStillOpen tokens at place next (depth_behind k count)
still_kind kinds.Opening tokens at place index next count t is still more some =
    still_with tokens at place index next count (count + 1) t (still.frames ++ (record { place = t.place; before = still.parts }) ∷ []) [] still more (built_enter still.frames still.parts still.behind t still.built is)
    (omega (arith, still.counted, length-append still.frames ((record { place = t.place; before = still.parts }) ∷ [])))
still_kind kinds.Closing tokens at place index next count t is still more some =
    still_left tokens at place index next count t still.frames still refl more is some
still_kind kinds.Name tokens at place index next count t is still more some =
    still_with tokens at place index next count count t still.frames (still.parts ++ atom t ∷ []) still more (built_tree still.frames still.parts still.behind (t ∷ []) (atom t) still.built (as_atom (subst IsAtom (sym is) name) refl)) still.counted
still_kind kinds.Register tokens at place index next count t is still more some =
    still_with tokens at place index next count count t still.frames (still.parts ++ atom t ∷ []) still more (built_tree still.frames still.parts still.behind (t ∷ []) (atom t) still.built (as_atom (subst IsAtom (sym is) register) refl)) still.counted
still_kind (kinds.Number v) tokens at place index next count t is still more some =
    still_with tokens at place index next count count t still.frames (still.parts ++ atom t ∷ []) still more (built_tree still.frames still.parts still.behind (t ∷ []) (atom t) still.built (as_atom (subst IsAtom (sym is) number) refl)) still.counted

pub take_next : (tokens : List Token) (index : ℕ) (d : Token) → index < length tokens → take (index + 1) tokens ≡ take index tokens ++ get_or tokens index d ∷ []
take_next tokens index d bound = take_more tokens index d bound

-- the outermost list is open behind one token more
pub still_more : (tokens : List Token) (at place index count : ℕ) (d : Token) → IsStillOpen tokens at place index count → index < length tokens → 0 < depth_behind (get_or tokens index d).kind count → IsStillOpen tokens at place (index + 1) (depth_behind (get_or tokens index d).kind count)
still_more tokens at place index count d still bound some =
    still_kind (get_or tokens index d).kind tokens at place index (index + 1) count (get_or tokens index d) refl still (take_next tokens index d bound) some

closes_last : (k : TokenKind) (count : ℕ) → 0 < count → depth_behind k count ≡ 0 → (k ≡ kinds.Closing) × (count ≡ 1)
closes_last kinds.Opening count some none = absurd (omega arith)
closes_last kinds.Closing count some none = (refl, omega arith)
closes_last kinds.Name count some none = absurd (omega arith)
closes_last kinds.Register count some none = absurd (omega arith)
closes_last (kinds.Number v) count some none = absurd (omega arith)

nothing_else : (frames : List Frame) → 1 ≡ 1 + length frames → frames ≡ []
nothing_else [] one = refl
nothing_else (f ∷ frames) one = absurd (omega arith)

-- the token that closes the outermost list ends trees
ended : (tokens : List Token) (at place index : ℕ) (c : Token) → IsStillOpen tokens at place index 1 → c.kind ≡ kinds.Closing → take (index + 1) tokens ≡ take index tokens ++ c ∷ [] → (trees : SexpTrees) × SpellAll trees (take (index + 1) tokens)
ended tokens at place index c still closes more =
    let none = nothing_else still.frames still.counted in
    let inner = built_whole still.parts still.behind (subst (λ fs. AreOpenLists fs still.parts still.behind) none still.built) in
    let one = as_list {tokens = still.opening ∷ still.behind ++ c ∷ []} still.opening c still.behind still.opens still.placed inner closes refl in
    let all = spelled_more still.before (list place (all_of still.parts)) still.front (still.opening ∷ still.behind ++ c ∷ []) still.spelled one in
    let whole : take (index + 1) tokens ≡ still.front ++ (still.opening ∷ still.behind ++ c ∷ []) = more ∙ (ap (λ zs. zs ++ c ∷ []) still.whole ∙ append_assoc still.front (still.opening ∷ still.behind) (c ∷ [])) in
    (all_of (still.before ++ list place (all_of still.parts) ∷ []), subst (SpellAll (all_of (still.before ++ list place (all_of still.parts) ∷ []))) (sym whole) all)

pub split_at : (tokens : List Token) (at : ℕ) (d : Token) → at < length tokens → tokens ≡ take at tokens ++ get_or tokens at d ∷ drop (at + 1) tokens
split_at tokens at d bound =
    sym (take-append-drop at tokens) ∙ ap (λ zs. take at tokens ++ zs) (rw add-one (drop-cons tokens at d bound))

-- the parenthesis inside 64 others, where the outermost of them is closed in the end
pub deep_fault : (tokens : List Token) (at place index count : ℕ) (d : Token) → at < length tokens → (get_or tokens at d).kind ≡ kinds.Opening → peak (take at tokens) ≤ 64 → IsStillOpen tokens at place at 64
    → at ≤ index → index < length tokens → IsStillOpen tokens at place index count → 0 < count → depth_behind (get_or tokens index d).kind count ≡ 0 → IsFirstTreeFault tokens (get_or tokens at d).place TooDeep
deep_fault tokens at place index count d bound opens low start later inside still some none =
    let last = closes_last (get_or tokens index d).kind count some none in
    let trees = ended tokens at place index (get_or tokens index d) (subst (IsStillOpen tokens at place index) last.1 still) last.0 (take_next tokens index d inside) in
    let first = all_built tokens at place at 64 start in
    let levels = built_levels first.frames first.parts (take at tokens) first.built in
    let deep = subst (λ (m : ℕ). IsInside m (take at tokens)) first.counted (built_inside first.frames first.parts (take at tokens) first.built) in
    let shorter : length (take at tokens) < length (take (index + 1) tokens) = omega (arith, length-take at tokens, length-take (index + 1) tokens) in
    too_deep_first trees.0 tokens (take (index + 1) tokens) (drop (index + 1) tokens) (take at tokens) (drop (at + 1) tokens) (get_or tokens at d) (split_at tokens at d bound) (sym (take-append-drop (index + 1) tokens)) trees.1 shorter levels.0 low opens deep

-- the peak of a front of a front
low_front : (at : ℕ) (tokens front behind : List Token) (o : Token) → tokens ≡ front ++ o ∷ behind → length front < at → peak (take at tokens) ≤ 64 → peak front ≤ 64
low_front at tokens front behind o whole early low =
    let long : length tokens ≡ length front + length (o ∷ behind) = ap length whole ∙ length-append front (o ∷ behind) in
    let found = cut_inside (take at tokens) (drop at tokens) front behind o (take-append-drop at tokens ∙ whole) (omega (arith, length-take at tokens)) in
    omega (arith, ap peak found.1, peak-append front (o ∷ found.0))

-- the outermost of the lists that are open in the end is unclosed
pub outermost_fault : (tokens : List Token) (at place index count : ℕ) → peak (take at tokens) ≤ 64 → length tokens ≤ index → IsStillOpen tokens at place index count → IsFirstTreeFault tokens place Unclosed
outermost_fault tokens at place index count low end still =
    let whole : tokens ≡ still.front ++ still.opening ∷ still.behind = sym (take_all index tokens end) ∙ still.whole in
    let levels = built_levels still.frames still.parts still.behind still.built in
    let lower = low_front at tokens still.front still.behind still.opening whole still.early low in
    subst (λ (p : ℕ). IsFirstTreeFault tokens p Unclosed) still.placed (unclosed_first (all_of still.before) tokens still.front still.behind still.opening whole still.spelled lower still.opens levels.0)

pub depth_behind-le : (k : TokenKind) (count : ℕ) → depth_behind k count ≤ count + 1
depth_behind-le kinds.Opening count = omega arith
depth_behind-le kinds.Closing count = omega arith
depth_behind-le kinds.Name count = omega arith
depth_behind-le kinds.Register count = omega arith
depth_behind-le (kinds.Number v) count = omega arith

pub at_zero : (n : ℕ) → (n ≡ 0 → ⊥) → 0 < n
at_zero n some = omega arith
