-- One token more, as a parser takes it.
use Rattle.std.proofs.Common.{◌≡◌, ℕ, ◌+◌, ◌<◌, ◌≤◌, List, [], ◌∷◌, ◌++◌, length, take, drop, get_or, map, refl, sym, ap, ◌∙◌, subst, arith, append_assoc, length-append, length-take}
use Rattle.std.proofs.lemmas.List.{take_all}
use Rattle.text_core.specs.declared.faults.Kind.TheVariants.{Unclosed, Unopened}
use Rattle.text_core.specs.declared.parser.OpenList.{OpenList}
use Rattle.text_core.specs.declared.tokens.Token.{Token}
use Rattle.text_core.specs.declared.tokens.TokenKind.{TokenKind}
use Rattle.text_core.specs.declared.tokens.TokenKind.TheVariants as kinds
use Rattle.text_core.specs.Building.{Frame, frame_of, AreOpen, closed, within, AreOpenLists, IsStillOpen, peak, peak_before}
use Rattle.text_core.specs.Nesting.{IsFirstTreeFault}
use Rattle.text_core.specs.Sexps.{all_of}
use Rattle.text_core.specs.Trees.{SexpTree, atom, list, IsAtom, name, register, number, SpellAll, as_atom, HasTrees}
use Rattle.text_core.proofs.Builds.{built_none, built_tree, built_enter, built_leave, built_whole}
use Rattle.text_core.proofs.Depths.{need, extra, spelled_levels, built_levels, extra_peak, peak_more}
use Rattle.text_core.proofs.Misplaced.{unopened_first}
use Rattle.text_core.proofs.Outermost.{take_next, split_at, outermost_fault}

-- what a parser has read, apart from how it is kept
pub record IsRead (frames : List Frame) (parts : List SexpTree) (tokens : List Token) (at : ℕ) : Type 0 where
  pub built : AreOpenLists frames parts (take at tokens)
  pub nested : peak (take at tokens) ≤ 64

module _ (frames : List Frame) (parts : List SexpTree) (tokens : List Token) (at : ℕ) (d : Token) (read : IsRead frames parts tokens at) (bound : at < length tokens) where
  levels : (need (take at tokens) ≡ 0) × (extra (take at tokens) ≡ length frames)
  levels = built_levels frames parts (take at tokens) read.built

  few_open : length frames ≤ 64
  few_open = omega (arith, levels, extra_peak (take at tokens), read.nested)

  low : peak_before (get_or tokens at d).kind 0 + length frames ≤ 64 → peak (take (at + 1) tokens) ≤ 64
  low fits = rw (take_next tokens at d bound) (peak_more (take at tokens) (get_or tokens at d) levels.0 read.nested (omega (arith, levels, fits)))

  built_next : (frames' : List Frame) (parts' : List SexpTree) → AreOpenLists frames' parts' (take at tokens ++ get_or tokens at d ∷ []) → AreOpenLists frames' parts' (take (at + 1) tokens)
  built_next frames' parts' built = subst (AreOpenLists frames' parts') (sym (take_next tokens at d bound)) built

  pub read_opening : (frames' : List Frame) (parts' : List SexpTree) → (get_or tokens at d).kind ≡ kinds.Opening → (length frames ≡ 64 → ⊥) → frames' ≡ frames ++ (record { place = (get_or tokens at d).place; before = parts }) ∷ [] → parts' ≡ [] → IsRead frames' parts' tokens (at + 1)
  read_opening frames' parts' opens room is_frames is_parts = record {
    built = subst (λ fs. AreOpenLists fs parts' (take (at + 1) tokens)) (sym is_frames)
        (subst (λ ps. AreOpenLists (frames ++ (record { place = (get_or tokens at d).place; before = parts }) ∷ []) ps (take (at + 1) tokens)) (sym is_parts)
        (built_next (frames ++ (record { place = (get_or tokens at d).place; before = parts }) ∷ []) [] (built_enter frames parts (take at tokens) (get_or tokens at d) read.built opens)));
    nested = low (omega (arith, ap (λ k. peak_before k 0) opens, few_open, room));
  }

  pub read_closing : (rest : List Frame) (frame : Frame) (frames' : List Frame) (parts' : List SexpTree) → (get_or tokens at d).kind ≡ kinds.Closing → frames ≡ rest ++ frame ∷ [] → frames' ≡ rest → parts' ≡ frame.before ++ list frame.place (all_of parts) ∷ [] → IsRead frames' parts' tokens (at + 1)
  read_closing rest frame frames' parts' closes split is_frames is_parts = record {
    built = subst (λ fs. AreOpenLists fs parts' (take (at + 1) tokens)) (sym is_frames)
        (subst (λ ps. AreOpenLists rest ps (take (at + 1) tokens)) (sym is_parts)
        (built_next rest (frame.before ++ list frame.place (all_of parts) ∷ []) (built_leave rest frame parts (take at tokens) (get_or tokens at d) (subst (λ fs. AreOpenLists fs parts (take at tokens)) split read.built) closes)));
    nested = low (omega (arith, ap (λ k. peak_before k 0) closes, few_open));
  }

  no_peak : (k : TokenKind) → IsAtom k → peak_before k 0 ≡ 0
  no_peak k name = refl
  no_peak k register = refl
  no_peak k number = refl

  pub read_atom : (frames' : List Frame) (parts' : List SexpTree) → IsAtom (get_or tokens at d).kind → frames' ≡ frames → parts' ≡ parts ++ atom (get_or tokens at d) ∷ [] → IsRead frames' parts' tokens (at + 1)
  read_atom frames' parts' is is_frames is_parts = record {
    built = subst (λ fs. AreOpenLists fs parts' (take (at + 1) tokens)) (sym is_frames)
        (subst (λ ps. AreOpenLists frames ps (take (at + 1) tokens)) (sym is_parts)
        (built_next frames (parts ++ atom (get_or tokens at d) ∷ []) (built_tree frames parts (take at tokens) (get_or tokens at d ∷ []) (atom (get_or tokens at d)) read.built (as_atom is refl))));
    nested = low (omega (arith, no_peak (get_or tokens at d).kind is, few_open));
  }

  pub unopened_fault : frames ≡ [] → (get_or tokens at d).kind ≡ kinds.Closing → IsFirstTreeFault tokens (get_or tokens at d).place Unopened
  unopened_fault none closes =
      unopened_first (all_of parts) tokens (take at tokens) (drop (at + 1) tokens) (get_or tokens at d) (split_at tokens at d bound) (built_whole parts (take at tokens) (subst (λ fs. AreOpenLists fs parts (take at tokens)) none read.built)) read.nested closes

-- the outermost of some open lists
still : (frames : List Frame) (frame : Frame) (more : List Frame) (parts : List SexpTree) (tokens xs back : List Token) (at : ℕ) → frames ≡ frame ∷ more → AreOpen frames xs → take at tokens ≡ xs ++ back → SpellAll (all_of parts) back → IsStillOpen tokens at frame.place at (1 + length more)
still frames frame more parts tokens xs back at is closed whole spelled = cc
still frames frame more parts tokens xs back at is (within {frame = f} {frames = fs} first p behind each opens place others same) whole spelled =
    let head : f ≡ frame = cc in
    let tail : fs ≡ more = cc in
    let cut : take at tokens ≡ first ++ p ∷ (behind ++ back) = whole ∙ (ap (λ zs. zs ++ back) same ∙ append_assoc first (p ∷ behind) back) in
    record {
      before = frame.before;
      frames = more;
      parts = parts;
      front = first;
      opening = p;
      behind = behind ++ back;
      whole = cut;
      early = omega (arith, length-take at tokens, ap length cut, length-append first (p ∷ (behind ++ back)));
      spelled = subst (λ (g : Frame). SpellAll (all_of g.before) first) head each;
      opens = opens;
      placed = place ∙ ap (λ (g : Frame). g.place) head;
      built = record { front = behind; back = back; whole = refl; lists = subst (λ gs. AreOpen gs behind) tail others; spelled = spelled };
      counted = refl;
    }

pub read_still : (frame : Frame) (more frames : List Frame) (parts : List SexpTree) (tokens : List Token) (at place count : ℕ) → frames ≡ frame ∷ more → place ≡ frame.place → count ≡ length frames → IsRead frames parts tokens at → IsStillOpen tokens at place at count
read_still frame more frames parts tokens at place count is here counted read =
    let all = still frames frame more parts tokens read.built.front read.built.back at is read.built.lists read.built.whole read.built.spelled in
    let same : 1 + length more ≡ count = omega (arith, counted, ap length is) in
    subst (λ (p : ℕ). IsStillOpen tokens at p at count) (sym here) (subst (IsStillOpen tokens at frame.place at) same all)

-- a list that is open in the end
pub unclosed_fault : (frame : Frame) (more frames : List Frame) (parts : List SexpTree) (tokens : List Token) (at place : ℕ) → frames ≡ frame ∷ more → place ≡ frame.place → length tokens ≤ at → IsRead frames parts tokens at → IsFirstTreeFault tokens place Unclosed
unclosed_fault frame more frames parts tokens at place is here end read =
    outermost_fault tokens at place at (length frames) read.nested end (read_still frame more frames parts tokens at place (length frames) is here refl read)

pub first_of : {A : Type 0} (xs : List A) (x : A) → 0 < length xs → x ≡ get_or xs 0 x → (ys : List A) × (xs ≡ x ∷ ys)
first_of [] x some is = absurd (omega arith)
first_of (y ∷ ys) x some is = (ys, ap (λ z. z ∷ ys) (sym is))

pub empty_of : {A : Type 0} (xs : List A) → length xs ≡ 0 → xs ≡ []
empty_of [] none = refl
empty_of (x ∷ xs) none = absurd (omega arith)

pub other_kind : (k : TokenKind) → (k ≡ kinds.Opening → ⊥) → (k ≡ kinds.Closing → ⊥) → IsAtom k
other_kind kinds.Opening opening closing = absurd (opening refl)
other_kind kinds.Closing opening closing = absurd (closing refl)
other_kind kinds.Name opening closing = name
other_kind kinds.Register opening closing = register
other_kind (kinds.Number v) opening closing = number

-- nothing is read at first
pub read_none : (frames : List Frame) (parts : List SexpTree) (tokens : List Token) → frames ≡ [] → parts ≡ [] → IsRead frames parts tokens 0
read_none frames parts tokens no_frames no_parts = record {
  built = subst (λ fs. AreOpenLists fs parts []) (sym no_frames) (subst (λ ps. AreOpenLists [] ps []) (sym no_parts) built_none);
  nested = omega arith;
}

-- all is read in the end
pub read_all : (frames : List Frame) (parts : List SexpTree) (tokens : List Token) (at : ℕ) → frames ≡ [] → length tokens ≤ at → IsRead frames parts tokens at → HasTrees tokens (all_of parts)
read_all frames parts tokens at none end read =
    let spelled = subst (SpellAll (all_of parts)) (take_all at tokens end) (built_whole parts (take at tokens) (subst (λ fs. AreOpenLists fs parts (take at tokens)) none read.built)) in
    record { spelled = spelled; nested = omega (arith, (spelled_levels (all_of parts) tokens spelled).peaks, ap peak (take_all at tokens end), read.nested) }

-- the outermost of the parser's open lists is unclosed in the end
pub unclosed_list : (items : List OpenList) (outermost : OpenList) (parts : List SexpTree) (tokens : List Token) (at : ℕ) → 0 < length items → outermost ≡ get_or items 0 outermost → length tokens ≤ at → IsRead (map frame_of items) parts tokens at → IsFirstTreeFault tokens outermost.place Unclosed
unclosed_list [] outermost parts tokens at some first end read = absurd (omega arith)
unclosed_list (x ∷ items) outermost parts tokens at some first end read =
    subst (λ (o : OpenList). IsFirstTreeFault tokens o.place Unclosed) (sym first) (unclosed_fault (frame_of x) (map frame_of items) (frame_of x ∷ map frame_of items) parts tokens at x.place refl refl end read)
