-- Tokens have one reading as trees, and their first fault is one.
use Rattle.std.proofs.Common.{◌≡◌, ℕ, ◌+◌, ◌<◌, ◌≤◌, inl, inr, List, [], ◌∷◌, ◌++◌, length, refl, sym, ap, ◌∙◌, subst, arith, append_assoc, length-append}
use Rattle.std.specs.Prelude.{⊤}
use Rattle.text_core.specs.declared.faults.Kind.{Kind}
use Rattle.text_core.specs.declared.tokens.Token.{Token}
use Rattle.text_core.specs.declared.tokens.TokenKind.{TokenKind}
use Rattle.text_core.specs.declared.tokens.TokenKind.TheVariants as kinds
use Rattle.text_core.specs.Faults.{IsFirst, IsNotBehind}
use Rattle.text_core.specs.Lexing.{IsToken, AreTokens, HasTokens, opening, closing, register, number, name, skipped, token}
use Rattle.text_core.specs.Lexing as lexing
use Rattle.text_core.specs.Nesting.{IsTreeFault, IsTreeFaultAt, IsFirstTreeFault}
use Rattle.text_core.specs.Trees as trees
use Rattle.text_core.specs.Trees.{SexpTree, SexpTrees, list, IsAtom, Spells, SpellAll, as_atom, as_list, no_more, one_more, HasTrees}
use Rattle.text_core.proofs.Cuts.{cut_same, cut_outside}
use Rattle.text_core.proofs.Misplaced.{no_tree_fault}
use Rattle.text_core.proofs.Outcomes.{first_once}
use Rattle.text_core.proofs.Partners.{no_atom_opens, no_atom_closes}

-- no tree begins here
IsEnd : List Token → Type 0
IsEnd [] = ⊤
IsEnd (t ∷ ts) = t.kind ≡ kinds.Closing

apart : (t u : Token) → t ≡ u → t.kind ≡ kinds.Opening → u.kind ≡ kinds.Closing → ⊥
apart t u same opens closes = let kind : t.kind ≡ u.kind = ap (λ (v : Token). v.kind) same in cc

atom_no_list : (t o : Token) → t ≡ o → IsAtom t.kind → o.kind ≡ kinds.Opening → ⊥
atom_no_list t o same is opens = no_atom_opens t.kind is (ap (λ (v : Token). v.kind) same ∙ opens)

-- a tree doesn't begin with a closing parenthesis
no_end : (tree : SexpTree) (xs rest : List Token) → Spells tree xs → IsEnd (xs ++ rest) → ⊥
unfolding IsEnd
no_end tree xs rest (as_atom {token = t} is same) closes =
    no_atom_closes t.kind is (subst (λ ys. IsEnd (ys ++ rest)) same closes)
no_end tree xs rest (as_list o c inner opens _ _ _ same) closes =
    apart o o refl opens (subst (λ ys. IsEnd (ys ++ rest)) same closes)

mutual
  unfolding IsEnd

  tree_once : (t u : SexpTree) (xs ys r s : List Token) → Spells t xs → Spells u ys → xs ++ r ≡ ys ++ s → (t ≡ u) × (r ≡ s)
  tree_once t u xs ys r s (as_atom {token = a} is same) (as_atom {token = b} is' same') cut =
      let joined : a ∷ r ≡ b ∷ s = ap (λ zs. zs ++ r) (sym same) ∙ (cut ∙ ap (λ zs. zs ++ s) same') in
      let head : a ≡ b = cc in
      (ap trees.atom head, cc)
  tree_once t u xs ys r s (as_atom {token = a} is same) (as_list o c inner opens place each closes same') cut =
      let joined : a ∷ r ≡ (o ∷ inner ++ c ∷ []) ++ s = ap (λ zs. zs ++ r) (sym same) ∙ (cut ∙ ap (λ zs. zs ++ s) same') in
      let head : a ≡ o = cc in
      absurd (atom_no_list a o head is opens)
  tree_once t u xs ys r s (as_list o c inner opens place each closes same) (as_atom {token = b} is same') cut =
      let joined : (o ∷ inner ++ c ∷ []) ++ r ≡ b ∷ s = ap (λ zs. zs ++ r) (sym same) ∙ (cut ∙ ap (λ zs. zs ++ s) same') in
      let head : b ≡ o = cc in
      absurd (atom_no_list b o head is opens)
  tree_once t u xs ys r s (as_list {place = p} {parts = ps} o c inner opens place each closes same) (as_list {place = q} {parts = qs} o' c' inner' opens' place' each' closes' same') cut =
      let joined : (o ∷ inner ++ c ∷ []) ++ r ≡ (o' ∷ inner' ++ c' ∷ []) ++ s = ap (λ zs. zs ++ r) (sym same) ∙ (cut ∙ ap (λ zs. zs ++ s) same') in
      let head : o ≡ o' = cc in
      let tail : (inner ++ c ∷ []) ++ r ≡ (inner' ++ c' ∷ []) ++ s = cc in
      let parts = trees_once ps qs inner inner' (c ∷ r) (c' ∷ s) each each' (sym (append_assoc inner (c ∷ []) r) ∙ (tail ∙ append_assoc inner' (c' ∷ []) s)) closes closes' in
      let here : p ≡ q = sym place ∙ (ap (λ (v : Token). v.place) head ∙ place') in
      let behind : c ∷ r ≡ c' ∷ s = parts.1 in
      (cc (here, parts.0), cc)

  trees_once : (ts us : SexpTrees) (xs ys r s : List Token) → SpellAll ts xs → SpellAll us ys → xs ++ r ≡ ys ++ s → IsEnd r → IsEnd s → (ts ≡ us) × (r ≡ s)
  trees_once ts us xs ys r s no_more no_more cut _ _ = (refl, cut)
  trees_once ts us xs ys r s no_more (one_more {tree = u} front back one each same) cut end _ =
      absurd (no_end u front (back ++ s) one (subst IsEnd (cut ∙ (ap (λ zs. zs ++ s) same ∙ append_assoc front back s)) end))
  trees_once ts us xs ys r s (one_more {tree = t} front back one each same) no_more cut _ end =
      absurd (no_end t front (back ++ r) one (subst IsEnd (sym cut ∙ (ap (λ zs. zs ++ r) same ∙ append_assoc front back r)) end))
  trees_once ts us xs ys r s (one_more {tree = t} {trees = ts'} front back one each same) (one_more {tree = u} {trees = us'} front' back' one' each' same') cut end end' =
      let joined : front ++ (back ++ r) ≡ front' ++ (back' ++ s) = sym (ap (λ zs. zs ++ r) same ∙ append_assoc front back r) ∙ (cut ∙ (ap (λ zs. zs ++ s) same' ∙ append_assoc front' back' s)) in
      let first = tree_once t u front front' (back ++ r) (back' ++ s) one one' joined in
      let more = trees_once ts' us' back back' r s each each' first.1 end end' in
      (cc (first.0, more.0), more.1)

-- tokens spell one list of trees at most
pub one_forest : (tokens : List Token) (ts us : SexpTrees) → HasTrees tokens ts → HasTrees tokens us → ts ≡ us
unfolding IsEnd
one_forest tokens ts us one two = (trees_once ts us tokens tokens [] [] one.spelled two.spelled refl tt tt).0

pub no_first_tree_fault : (tokens : List Token) (ts : SexpTrees) (place : ℕ) (kind : Kind) → HasTrees tokens ts → IsFirstTreeFault tokens place kind → ⊥
no_first_tree_fault tokens ts place kind has fault = no_tree_fault tokens ts fault.index kind has fault.first.found

pub first_tree_fault_once : (tokens : List Token) (p q : ℕ) (k l : Kind) → IsFirstTreeFault tokens p k → IsFirstTreeFault tokens q l → (p ≡ q) × (k ≡ l)
first_tree_fault_once tokens p q k l one two =
    let same = first_once (IsTreeFault tokens) one.index two.index k l one.first two.first in
    let a = one.first.found in
    let b = two.first.found in
    let cut = cut_same a.before a.behind b.before b.behind a.token b.token (sym a.whole ∙ b.whole) (sym a.indexed ∙ (same.0 ∙ b.indexed)) in
    (one.placed ∙ (ap (λ (t : Token). t.place) cut.1 ∙ sym two.placed), same.1)

-- the tokens of a text stand one behind another
token_some : (piece : List ℕ) (kind : TokenKind) → IsToken piece kind → 0 < length piece
token_some [] kind is = elim is [ ]
token_some (x ∷ xs) kind is = omega arith

all_behind : (place : ℕ) (pieces : List (List ℕ)) (ts b r : List Token) (t : Token) → AreTokens place pieces ts → ts ≡ b ++ t ∷ r → place ≤ t.place
all_behind place pieces ts b r t lexing.nothing same = absurd (omega (arith, ap length same, length-append b (t ∷ r)))
all_behind place pieces ts b r t (skipped {piece = p} {pieces = more} _ rest) same =
    omega (arith, all_behind (place + length p) more ts b r t rest same)
all_behind place pieces ts [] r t (token {piece = p} {kind = k} {tokens = us} _ rest) same =
    let head : lexing.token_at place p k ≡ t = cc in
    omega (arith, ap (λ (v : Token). v.place) head)
all_behind place pieces ts (x ∷ b) r t (token {piece = p} {pieces = more} {tokens = us} _ rest) same =
    let tail : us ≡ b ++ t ∷ r = cc in
    omega (arith, all_behind (place + length p) more us b r t rest tail)

places_rise : (place : ℕ) (pieces : List (List ℕ)) (ts b r m n : List Token) (t u : Token) → AreTokens place pieces ts → ts ≡ b ++ t ∷ r → r ≡ m ++ u ∷ n → t.place < u.place
places_rise place pieces ts b r m n t u lexing.nothing same _ = absurd (omega (arith, ap length same, length-append b (t ∷ r)))
places_rise place pieces ts b r m n t u (skipped {piece = p} {pieces = more} _ rest) same is =
    places_rise (place + length p) more ts b r m n t u rest same is
places_rise place pieces ts [] r m n t u (token {piece = p} {pieces = more} {kind = k} {tokens = us} one rest) same is =
    let head : lexing.token_at place p k ≡ t = cc in
    let tail : us ≡ r = cc in
    omega (arith, ap (λ (v : Token). v.place) head, token_some p k one, all_behind (place + length p) more us m n u rest (tail ∙ is))
places_rise place pieces ts (x ∷ b) r m n t u (token {piece = p} {pieces = more} {tokens = us} _ rest) same is =
    let tail : us ≡ b ++ t ∷ r = cc in
    places_rise (place + length p) more us b r m n t u rest tail is

behind_by_place : (place : ℕ) (pieces : List (List ℕ)) (ts : List Token) (kind other : Kind) (b r b' r' : List Token) (t u : Token) → AreTokens place pieces ts → ts ≡ b ++ t ∷ r → ts ≡ b' ++ u ∷ r' → IsNotBehind (length b) kind (length b') other → IsNotBehind t.place kind u.place other
behind_by_place place pieces ts kind other b r b' r' t u read one two (inl less) =
    let cut = cut_outside (b ++ t ∷ []) r b' r' u (append_assoc b (t ∷ []) r ∙ (sym one ∙ two)) (omega (arith, length-append b (t ∷ []))) in
    inl (places_rise place pieces ts b r cut.0 r' t u read one cut.2)
behind_by_place place pieces ts kind other b r b' r' t u read one two (inr same) =
    let cut = cut_same b r b' r' t u (sym one ∙ two) same.0 in
    inr (ap (λ (v : Token). v.place) cut.1, same.1)

reindexed : (k l : Kind) (p p' q q' : ℕ) → p ≡ p' → q ≡ q' → IsNotBehind p k q l → IsNotBehind p' k q' l
reindexed k l p p' q q' one two (inl less) = inl (omega arith)
reindexed k l p p' q q' one two (inr same) = inr (omega (arith, same.0), same.1)

-- the first fault of a text's tokens is its earliest by place
pub earliest_by_place : (text : List ℕ) (tokens : List Token) (place : ℕ) (kind : Kind) → HasTokens text tokens → IsFirstTreeFault tokens place kind → IsFirst (IsTreeFaultAt tokens) place kind
earliest_by_place text tokens place kind has first =
    let one = first.first.found in
    record {
      found = record { index = first.index; fault = one; placed = first.placed };
      earliest = λ other_place other_kind other.
          let two = other.fault in
          let before = first.first.earliest other.index other_kind two in
          let placed = behind_by_place 0 has.pieces tokens kind other_kind one.before one.behind two.before two.behind one.token two.token has.read one.whole two.whole (reindexed kind other_kind first.index (length one.before) other.index (length two.before) one.indexed two.indexed before) in
          reindexed kind other_kind one.token.place place two.token.place other_place (sym first.placed) (sym other.placed) placed;
    }
