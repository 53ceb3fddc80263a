-- Each parenthesis among tokens that spell trees has its partner among them.
use Rattle.std.proofs.Common.{◌≡◌, inl, inr, List, [], ◌∷◌, ◌++◌, length, sym, ap, ◌∙◌, subst, append_assoc, append-nil}
use Rattle.std.proofs.lemmas.Bool.{cases_lt}
use Rattle.text_core.specs.declared.tokens.Token.{Token}
use Rattle.text_core.specs.declared.tokens.TokenKind.{TokenKind}
use Rattle.text_core.specs.declared.tokens.TokenKind.TheVariants as kinds
use Rattle.text_core.specs.Nesting.{HasClosing, HasOpening}
use Rattle.text_core.specs.Trees.{SexpTree, SexpTrees, IsAtom, Spells, SpellAll, as_atom, as_list, no_more, one_more}
use Rattle.text_core.proofs.Cuts.{cut_inside, cut_outside, cut_one, cut_none}

pub closed_before : (xs ys : List Token) → HasClosing xs → HasClosing (xs ++ ys)
closed_before xs ys found = record {
  inner = found.inner;
  closing = found.closing;
  rest = found.rest ++ ys;
  whole = ap (λ zs. zs ++ ys) found.whole ∙ append_assoc found.inner (found.closing ∷ found.rest) ys;
  closes = found.closes;
  balanced = found.balanced;
}

pub opened_behind : (xs ys : List Token) → HasOpening ys → HasOpening (xs ++ ys)
opened_behind xs ys found = record {
  front = xs ++ found.front;
  opening = found.opening;
  inner = found.inner;
  whole = ap (λ zs. xs ++ zs) found.whole ∙ sym (append_assoc xs found.front (found.opening ∷ found.inner));
  opens = found.opens;
  balanced = found.balanced;
}

pub no_atom_opens : (k : TokenKind) → IsAtom k → k ≡ kinds.Opening → ⊥
no_atom_opens kinds.Opening is _ = elim is [ ]
no_atom_opens kinds.Closing is _ = elim is [ ]
no_atom_opens kinds.Name is same = cc
no_atom_opens kinds.Register is same = cc
no_atom_opens (kinds.Number v) is same = cc

pub no_atom_closes : (k : TokenKind) → IsAtom k → k ≡ kinds.Closing → ⊥
no_atom_closes kinds.Opening is _ = elim is [ ]
no_atom_closes kinds.Closing is _ = elim is [ ]
no_atom_closes kinds.Name is same = cc
no_atom_closes kinds.Register is same = cc
no_atom_closes (kinds.Number v) is same = cc

apart : (t u : Token) → t ≡ u → t.kind ≡ kinds.Opening → u.kind ≡ kinds.Closing → ⊥
apart t u same opens closes = let kind : t.kind ≡ u.kind = ap (λ (v : Token). v.kind) same in cc

mutual
  closed_in_tree : (tree : SexpTree) (w b n : List Token) (t : Token) → Spells tree w → w ≡ b ++ t ∷ n → t.kind ≡ kinds.Opening → HasClosing n
  closed_in_tree tree w b n t (as_atom {token = token} is same) cut opens =
      let one = cut_one token t b n (sym same ∙ cut) in
      absurd (no_atom_opens token.kind is (ap (λ (v : Token). v.kind) one.1 ∙ opens))
  closed_in_tree tree w [] n t (as_list {parts = parts} o c inner _ _ each closes same) cut opens =
      let tail : inner ++ c ∷ [] ≡ n = cc in
      record { inner = inner; closing = c; rest = []; whole = sym tail; closes = closes; balanced = record { trees = parts; spelled = each } }
  closed_in_tree tree w (x ∷ b) n t (as_list {parts = parts} o c inner _ _ each closes same) cut opens =
      let tail : inner ++ c ∷ [] ≡ b ++ t ∷ n = cc in
      elim (cases_lt (length b) (length inner)) [
        | inl less ↦
            let found = cut_inside inner (c ∷ []) b n t tail less in
            subst HasClosing (sym found.2) (closed_before found.0 (c ∷ []) (closed_in_trees parts inner b found.0 t each found.1 opens))
        | inr more ↦
            let found = cut_outside inner (c ∷ []) b n t tail more in
            let one = cut_one c t found.0 n found.2 in
            absurd (apart t c (sym one.1) opens closes)
      ]

  -- an opening parenthesis has its closing one behind it
  pub closed_in_trees : (trees : SexpTrees) (w b n : List Token) (t : Token) → SpellAll trees w → w ≡ b ++ t ∷ n → t.kind ≡ kinds.Opening → HasClosing n
  closed_in_trees trees w b n t no_more cut opens = absurd (cut_none t b n cut)
  closed_in_trees trees w b n t (one_more {tree = tree} {trees = others} front back one each same) cut opens =
      elim (cases_lt (length b) (length front)) [
        | inl less ↦
            let found = cut_inside front back b n t (sym same ∙ cut) less in
            subst HasClosing (sym found.2) (closed_before found.0 back (closed_in_tree tree front b found.0 t one found.1 opens))
        | inr more ↦
            let found = cut_outside front back b n t (sym same ∙ cut) more in
            closed_in_trees others back found.0 n t each found.2 opens
      ]

mutual
  opened_in_tree : (tree : SexpTree) (w b n : List Token) (t : Token) → Spells tree w → w ≡ b ++ t ∷ n → t.kind ≡ kinds.Closing → HasOpening b
  opened_in_tree tree w b n t (as_atom {token = token} is same) cut closes =
      let one = cut_one token t b n (sym same ∙ cut) in
      absurd (no_atom_closes token.kind is (ap (λ (v : Token). v.kind) one.1 ∙ closes))
  opened_in_tree tree w [] n t (as_list {parts = parts} o c inner opens _ each _ same) cut closes =
      let head : o ≡ t = cc in
      absurd (apart o t head opens closes)
  opened_in_tree tree w (x ∷ b) n t (as_list {parts = parts} o c inner opens _ each _ same) cut closes =
      let tail : inner ++ c ∷ [] ≡ b ++ t ∷ n = cc in
      let head : o ≡ x = cc in
      elim (cases_lt (length b) (length inner)) [
        | inl less ↦
            let found = cut_inside inner (c ∷ []) b n t tail less in
            opened_behind (x ∷ []) b (opened_in_trees parts inner b found.0 t each found.1 closes)
        | inr more ↦
            let found = cut_outside inner (c ∷ []) b n t tail more in
            let one = cut_one c t found.0 n found.2 in
            let same : b ≡ inner = found.1 ∙ (ap (λ zs. inner ++ zs) one.0 ∙ append-nil inner) in
            record { front = []; opening = o; inner = inner; whole = cc (head, same); opens = opens; balanced = record { trees = parts; spelled = each } }
      ]

  -- a closing parenthesis has its opening one before it
  pub opened_in_trees : (trees : SexpTrees) (w b n : List Token) (t : Token) → SpellAll trees w → w ≡ b ++ t ∷ n → t.kind ≡ kinds.Closing → HasOpening b
  opened_in_trees trees w b n t no_more cut closes = absurd (cut_none t b n cut)
  opened_in_trees trees w b n t (one_more {tree = tree} {trees = others} front back one each same) cut closes =
      elim (cases_lt (length b) (length front)) [
        | inl less ↦
            let found = cut_inside front back b n t (sym same ∙ cut) less in
            opened_in_tree tree front b found.0 t one found.1 closes
        | inr more ↦
            let found = cut_outside front back b n t (sym same ∙ cut) more in
            subst HasOpening (sym found.1) (opened_behind front found.0 (opened_in_trees others back found.0 n t each found.2 closes))
      ]
