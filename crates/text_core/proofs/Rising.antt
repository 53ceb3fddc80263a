-- The tokens of a text stand one behind the other, and so do its trees; their atoms are tokens of the text.
use Rattle.std.proofs.Common.{◌≡◌, ℕ, ◌+◌, ◌<◌, ◌≤◌, List, [], ◌∷◌, ◌++◌, length, All, AllPairs, inl, inr, Contains, length-append, sym, ap, ◌∙◌, subst, arith}
use Rattle.std.proofs.lemmas.List.Elements.{All-nil, All-cons, Contains-append_left, Contains-append_right, Contains-append_cases}
use Rattle.std.proofs.lemmas.List.Kept.{AllPairs-cons}
use Rattle.text_core.specs.declared.tokens.Token.{Token}
use Rattle.text_core.specs.declared.tokens.TokenKind.{TokenKind}
use Rattle.text_core.specs.Pieces.{Consists, front as a_piece}
use Rattle.text_core.specs.Lexing.{HasTokens, AreTokens, IsToken, nothing, skipped, token, opening, closing, register, number, name}
use Rattle.text_core.specs.Trees as trees
use Rattle.text_core.specs.Trees.{SexpTree, SexpTrees, HasTrees, Spells, SpellAll, as_atom, as_list, no_more, one_more}
use Rattle.text_core.specs.Places.{IsPlaced, ArePlaced, atoms_in, atoms_in_all}

-- tokens that stand one behind the other, between two places
abbrev Rise : ℕ → ℕ → List Token → Type 0
Rise low high [] = low ≤ high
Rise low high (t ∷ ts) = (low ≤ t.place) × (0 < t.len) × Rise (t.place + t.len) high ts

rise_le : (ts : List Token) (low high : ℕ) → Rise low high ts → low ≤ high
rise_le [] low high h = h
rise_le (t ∷ ts) low high h = let e = rise_le ts (t.place + t.len) high h.2 in omega (arith, h.0, e)

rise_lower : (ts : List Token) (low lower high : ℕ) → lower ≤ low → Rise low high ts → Rise lower high ts
rise_lower [] low lower high l h = omega (arith, l, h)
rise_lower (t ∷ ts) low lower high l h = (omega (arith, l, h.0), h.1, h.2)

rise_split : (xs ys : List Token) (low high : ℕ) → Rise low high (xs ++ ys) → (middle : ℕ) × (Rise low middle xs × Rise middle high ys)
rise_split [] ys low high h = (low, (omega arith, h))
rise_split (x ∷ xs) ys low high h =
    let rest = rise_split xs ys (x.place + x.len) high h.2 in
    (rest.0, ((h.0, h.1, rest.1.0), rest.1.1))

abbrev Begins : ℕ → Token → Type 0
Begins low t = low ≤ t.place

rise_from : (ts : List Token) (low base high : ℕ) → base ≤ low → Rise low high ts → All (Begins base) ts
rise_from [] low base high l h = All-nil (Begins base)
rise_from (t ∷ ts) low base high l h =
    All-cons (Begins base) t ts (omega (arith, l, h.0)) (rise_from ts (t.place + t.len) base high (omega (arith, l, h.0)) h.2)

abbrev pub EndsBefore : Token → Token → Type 0
EndsBefore s t = s.place + s.len ≤ t.place

rise_apart : (ts : List Token) (low high : ℕ) → Rise low high ts → AllPairs EndsBefore ts
rise_apart [] low high h = λ i j d lt len. absurd (omega (arith, len))
rise_apart (t ∷ ts) low high h =
    AllPairs-cons EndsBefore t ts (rise_from ts (t.place + t.len) (t.place + t.len) high (omega arith) h.2) (rise_apart ts (t.place + t.len) high h.2)

mutual
  wider : (tree : SexpTree) (low high lower higher : ℕ) → lower ≤ low → high ≤ higher → IsPlaced low high tree → IsPlaced lower higher tree
  wider (trees.atom t) low high lower higher l g h = (omega (arith, l, h.0), h.1, omega (arith, g, h.2))
  wider (trees.list place parts) low high lower higher l g h =
      (omega (arith, l, h.0), all_wider parts (place + 1) high (place + 1) higher (omega arith) g h.1)

  all_wider : (ts : SexpTrees) (low high lower higher : ℕ) → lower ≤ low → high ≤ higher → ArePlaced low high ts → ArePlaced lower higher ts
  all_wider trees.none low high lower higher l g h = omega (arith, l, g, h)
  all_wider (trees.more tree ts) low high lower higher l g h =
      (h.0, (wider tree low h.0 lower h.0 l (omega arith) h.1.0, all_wider ts h.0 high h.0 higher (omega arith) g h.1.1))

mutual
  placed : {tree : SexpTree} {tokens : List Token} → Spells tree tokens → (low high : ℕ) → Rise low high tokens → IsPlaced low high tree
  placed (as_atom {token = t} kind is) low high h =
      let r : Rise low high (t ∷ []) = subst (Rise low high) is h in (r.0, r.1, r.2)
  placed (as_list {place = place} {parts = parts} o c inner opens at each closes is) low high h =
      let r : Rise low high (o ∷ inner ++ c ∷ []) = subst (Rise low high) is h in
      let s = rise_split inner (c ∷ []) (o.place + o.len) high r.2 in
      let inside = all_placed each (o.place + o.len) s.0 s.1.0 in
      let end = rise_le (c ∷ []) s.0 high s.1.1 in
      (omega (arith, r.0, at), all_wider parts (o.place + o.len) s.0 (place + 1) high (omega (arith, at, r.1)) end inside)

  all_placed : {ts : SexpTrees} {tokens : List Token} → SpellAll ts tokens → (low high : ℕ) → Rise low high tokens → ArePlaced low high ts
  all_placed no_more low high h = h
  all_placed (one_more front back one others is) low high h =
      let s = rise_split front back low high (subst (Rise low high) is h) in
      (s.0, (placed one low s.0 s.1.0, all_placed others s.0 high s.1.1))

some_bytes : {piece : List ℕ} {kind : TokenKind} → IsToken piece kind → 0 < length piece
some_bytes (opening k) = omega arith
some_bytes (closing k) = omega arith
some_bytes register = omega arith
some_bytes (number k d n) = omega arith
some_bytes (name k d n) = omega arith

rising : {place : ℕ} {pieces : List (List ℕ)} {tokens : List Token} → AreTokens place pieces tokens → (text rest : List ℕ) → Consists text pieces rest → Rise place (place + length text) tokens
rising nothing text rest consists = omega arith
rising {place} (skipped {piece = piece} {tokens = tokens} skip more) text rest (a_piece {after = after} is one others) =
    let e = ap length is ∙ length-append piece after in
    let r = rising more after rest others in
    let same : place + length piece + length after ≡ place + length text = omega (arith, e) in
    rise_lower tokens (place + length piece) place (place + length text) (omega arith) (subst (λ h. Rise (place + length piece) h tokens) same r)
rising {place} (token {piece = piece} {tokens = tokens} one more) text rest (a_piece {after = after} is two others) =
    let e = ap length is ∙ length-append piece after in
    let r = rising more after rest others in
    let same : place + length piece + length after ≡ place + length text = omega (arith, e) in
    (omega arith, some_bytes one, subst (λ h. Rise (place + length piece) h tokens) same r)

text_rises : (text : List ℕ) (tokens : List Token) → HasTokens text tokens → Rise 0 (length text) tokens
text_rises text tokens has =
    let e : 0 + length text ≡ length text = omega arith in
    subst (λ h. Rise 0 h tokens) e (rising has.read text [] has.consists)

pub tokens_rise : (text : List ℕ) (tokens : List Token) → HasTokens text tokens → AllPairs EndsBefore tokens
tokens_rise text tokens has = rise_apart tokens 0 (length text) (text_rises text tokens has)

pub trees_placed : (text : List ℕ) (tokens : List Token) (ts : SexpTrees) → HasTokens text tokens → HasTrees tokens ts → ArePlaced 0 (length text) ts
trees_placed text tokens ts has read = all_placed read.spelled 0 (length text) (text_rises text tokens has)

mutual
  atoms_within : {tree : SexpTree} {tokens : List Token} → Spells tree tokens → (t : Token) → Contains (atoms_in tree) t → Contains tokens t
  atoms_within (as_atom {token = u} kind is) t has = subst (λ ts. Contains ts t) (sym is) has
  atoms_within (as_list {parts = parts} o c inner opens at each closes is) t has =
      subst (λ ts. Contains ts t) (sym is)
      (Contains-append_right (o ∷ []) (inner ++ c ∷ []) t (Contains-append_left inner (c ∷ []) t (all_atoms_within each t has)))

  all_atoms_within : {ts : SexpTrees} {tokens : List Token} → SpellAll ts tokens → (t : Token) → Contains (atoms_in_all ts) t → Contains tokens t
  all_atoms_within no_more t has = has
  all_atoms_within (one_more {tree = tree} {trees = others} front back one each is) t has =
      subst (λ ts. Contains ts t) (sym is) (elim (Contains-append_cases (atoms_in tree) (atoms_in_all others) t has) [
        | inl h ↦ Contains-append_left front back t (atoms_within one t h)
        | inr h ↦ Contains-append_right front back t (all_atoms_within each t h)
      ])

pub atoms_are_tokens : (tokens : List Token) (ts : SexpTrees) (t : Token) → HasTrees tokens ts → Contains (atoms_in_all ts) t → Contains tokens t
atoms_are_tokens tokens ts t has at = all_atoms_within has.spelled t at
