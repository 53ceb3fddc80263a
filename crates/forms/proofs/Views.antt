-- The forms of the code's trees, and where they stand. What text_core says of all trees is handed in.
use Rattle.std.proofs.Common.{◌≡◌, ℕ, ◌+◌, ◌≤◌, ◌<◌, Some, None, All, Contains, zero, suc, get_or, List, [], ◌∷◌, length, map, sym, refl, ap, ◌∙◌, subst, arith}
use Rattle.std.proofs.lemmas.List.Elements.{Contains-append_left, Contains-append_right, Contains-push}
use Rattle.std.specs.declared.alloc.Global.{Global}
use Rattle.std.specs.declared.vec.Vec.{Vec}
use Rattle.forms.proofs.First.{stands_of}
use Rattle.forms.specs.Forms.{Forms, Stands, atom, list, atom_of, token_bytes, forms_from, form_of, forms_of, sexp_form, sexp_forms, name_in, register_in, number_in}
use Rattle.forms.specs.Reading.{IsNamedToken, IsSexpOf}
use Rattle.text_core.specs.Places.{IsPlaced, ArePlaced, atoms_in, atoms_in_all}
use Rattle.text_core.specs.Sexps.{all_of, sexp_tree, sexp_trees}
use Rattle.text_core.specs.Trees as trees
use Rattle.text_core.specs.Trees.{SexpTree, SexpTrees}
use Rattle.text_core.specs.declared.sexps.Sexp.{Sexp}
use Rattle.text_core.specs.declared.sexps.Sexp.TheVariants
use Rattle.text_core.specs.declared.tokens.Token.{Token}
use Rattle.text_core.specs.declared.tokens.TokenKind.{TokenKind}
use Rattle.text_core.specs.declared.tokens.TokenKind.TheVariants as kinds

-- ---- atoms by the kinds of their tokens
pub no_name : (kind : TokenKind) (place : ℕ) (bytes : List ℕ) → (kind ≡ kinds.Name → ⊥) → name_in (atom place (atom_of kind bytes)) ≡ None
no_name kinds.Name place bytes h = absurd (h refl)
no_name kinds.Opening place bytes h = refl
no_name kinds.Closing place bytes h = refl
no_name kinds.Register place bytes h = refl
no_name (kinds.Number n) place bytes h = refl

pub no_register : (kind : TokenKind) (place : ℕ) (bytes : List ℕ) → (kind ≡ kinds.Register → ⊥) → register_in (atom place (atom_of kind bytes)) ≡ None
no_register kinds.Register place bytes h = absurd (h refl)
no_register kinds.Opening place bytes h = refl
no_register kinds.Closing place bytes h = refl
no_register kinds.Name place bytes h = refl
no_register (kinds.Number n) place bytes h = refl

pub no_number : (kind : TokenKind) (place : ℕ) (bytes : List ℕ) → ((n : ℕ) → kind ≡ kinds.Number n → ⊥) → number_in (atom place (atom_of kind bytes)) ≡ None
no_number kinds.Register place bytes h = refl
no_number kinds.Opening place bytes h = refl
no_number kinds.Closing place bytes h = refl
no_number kinds.Name place bytes h = refl
no_number (kinds.Number n) place bytes h = absurd (h n refl)

-- ---- what the code learns from its match, where the forms of atoms and lists are handed in
module _ (text : List ℕ) (atoms : (token : Token) → sexp_form text (TheVariants.Atom token) ≡ atom token.place (atom_of token.kind (token_bytes text token))) where
  pub atom_form : (sexp : Sexp) (token : Token) → sexp ≡ TheVariants.Atom token → sexp_form text sexp ≡ atom token.place (atom_of token.kind (token_bytes text token))
  atom_form sexp token e = ap (sexp_form text) e ∙ atoms token

  pub atom_name : (sexp : Sexp) (token : Token) → sexp ≡ TheVariants.Atom token → token.kind ≡ kinds.Name → name_in (sexp_form text sexp) ≡ Some (token_bytes text token)
  atom_name sexp token e k = ap name_in (atom_form sexp token e) ∙ ap (λ kind. name_in (atom token.place (atom_of kind (token_bytes text token)))) k

  pub atom_register : (sexp : Sexp) (token : Token) → sexp ≡ TheVariants.Atom token → token.kind ≡ kinds.Register → register_in (sexp_form text sexp) ≡ Some (token_bytes text token)
  atom_register sexp token e k = ap register_in (atom_form sexp token e) ∙ ap (λ kind. register_in (atom token.place (atom_of kind (token_bytes text token)))) k

  pub atom_number : (sexp : Sexp) (token : Token) (n : ℕ) → sexp ≡ TheVariants.Atom token → token.kind ≡ kinds.Number n → number_in (sexp_form text sexp) ≡ Some n
  atom_number sexp token n e k = ap number_in (atom_form sexp token e) ∙ ap (λ kind. number_in (atom token.place (atom_of kind (token_bytes text token)))) k

  pub atom_no_name : (sexp : Sexp) (token : Token) → sexp ≡ TheVariants.Atom token → (token.kind ≡ kinds.Name → ⊥) → name_in (sexp_form text sexp) ≡ None
  atom_no_name sexp token e k = ap name_in (atom_form sexp token e) ∙ no_name token.kind token.place _ k

  pub atom_no_register : (sexp : Sexp) (token : Token) → sexp ≡ TheVariants.Atom token → (token.kind ≡ kinds.Register → ⊥) → register_in (sexp_form text sexp) ≡ None
  atom_no_register sexp token e k = ap register_in (atom_form sexp token e) ∙ no_register token.kind token.place _ k

  pub atom_no_number : (sexp : Sexp) (token : Token) → sexp ≡ TheVariants.Atom token → ((n : ℕ) → token.kind ≡ kinds.Number n → ⊥) → number_in (sexp_form text sexp) ≡ None
  atom_no_number sexp token e k = ap number_in (atom_form sexp token e) ∙ no_number token.kind token.place _ k

module _ (text : List ℕ) (lists : (place : ℕ) (parts : Vec Sexp Global) → sexp_form text (TheVariants.List place parts) ≡ list place (forms_from (sexp_forms text parts.items))) where
  pub list_form : (sexp : Sexp) (place : ℕ) (parts : Vec Sexp Global) → sexp ≡ TheVariants.List place parts → sexp_form text sexp ≡ list place (forms_from (sexp_forms text parts.items))
  list_form sexp place parts e = ap (sexp_form text) e ∙ lists place parts

-- ---- several trees of a text
forms_map : (text : List ℕ) (sexps : List Sexp) → forms_of text (all_of (map sexp_tree sexps)) ≡ forms_from (sexp_forms text sexps)
unfolding sexp_form
forms_map text [] = refl
forms_map text (sexp ∷ sexps) = ap (Forms.more (form_of text (sexp_tree sexp))) (forms_map text sexps)

mutual
  is_le : (tree : SexpTree) (low high : ℕ) → IsPlaced low high tree → low < high
  is_le (trees.atom token) low high h = omega (arith, h.0, h.1, h.2)
  is_le (trees.list place parts) low high h = let e = are_le parts (place + 1) high h.1 in omega (arith, h.0, e)

  are_le : (ts : SexpTrees) (low high : ℕ) → ArePlaced low high ts → low ≤ high
  are_le trees.none low high h = h
  are_le (trees.more tree ts) low high h =
      let one = is_le tree low h.0 h.1.0 in
      let others = are_le ts h.0 high h.1.1 in
      omega (arith, one, others)

abbrev AllNamed : List ℕ → SexpTrees → Type 0
AllNamed text ts = (token : Token) → Contains (atoms_in_all ts) token → IsNamedToken text token

each_of : (text : List ℕ) (sexps : List Sexp) (low high : ℕ) → high ≤ length text → ArePlaced low high (sexp_trees sexps) → AllNamed text (sexp_trees sexps) → (i : ℕ) (d : Sexp) → i < length sexps → IsSexpOf text (get_or sexps i d)
unfolding IsSexpOf
each_of text [] low high w h named i d l = absurd (omega arith)
each_of text (sexp ∷ sexps) low high w h named zero d l =
    let e = are_le (sexp_trees sexps) h.0 high h.1.1 in
    record { low = low; high = h.0; within = omega (arith, e, w); placed = h.1.0; named = λ token has. named token (Contains-append_left (atoms_in (sexp_tree sexp)) (atoms_in_all (sexp_trees sexps)) token has) }
each_of text (sexp ∷ sexps) low high w h named (suc i) d l =
    each_of text sexps h.0 high w h.1.1 (λ token has. named token (Contains-append_right (atoms_in (sexp_tree sexp)) (atoms_in_all (sexp_trees sexps)) token has)) i d (omega arith)

pub trees_are_of : (text : List ℕ) (sexps : List Sexp) → ArePlaced 0 (length text) (sexp_trees sexps) → AllNamed text (sexp_trees sexps) → All (IsSexpOf text) sexps
trees_are_of text sexps h named = each_of text sexps 0 (length text) (omega arith) h named

-- ---- the laws on the trees of the code
module _ (tree_atom : (token : Token) → sexp_tree (TheVariants.Atom token) ≡ trees.atom token) (tree_list : (place : ℕ) (parts : Vec Sexp Global) → sexp_tree (TheVariants.List place parts) ≡ trees.list place (sexp_trees parts.items)) where
  pub form_atom : (text : List ℕ) (token : Token) → sexp_form text (TheVariants.Atom token) ≡ atom token.place (atom_of token.kind (token_bytes text token))
  unfolding sexp_form
  form_atom text token = ap (form_of text) (tree_atom token)

  pub form_list : (text : List ℕ) (place : ℕ) (parts : Vec Sexp Global) → sexp_form text (TheVariants.List place parts) ≡ list place (forms_from (sexp_forms text parts.items))
  unfolding sexp_form
  form_list text place parts = ap (form_of text) (tree_list place parts) ∙ ap (list place) (forms_map text parts.items)

  pub atom_within : (text : List ℕ) (token : Token) → IsSexpOf text (TheVariants.Atom token) → token.place + token.len ≤ length text
  unfolding IsSexpOf
  atom_within text token of =
      let placed : IsPlaced of.low of.high (trees.atom token) = subst (λ (t : SexpTree). IsPlaced of.low of.high t) (tree_atom token) of.placed in
      let last = placed.2 in
      let within = of.within in
      omega (arith, last, within)

  pub atom_named : (text : List ℕ) (token : Token) → IsSexpOf text (TheVariants.Atom token) → IsNamedToken text token
  unfolding IsSexpOf
  atom_named text token of = of.named token (subst (λ (t : SexpTree). Contains (atoms_in t) token) (sym (tree_atom token)) (Contains-push [] token))

  pub parts_are_of : (text : List ℕ) (place : ℕ) (parts : Vec Sexp Global) → IsSexpOf text (TheVariants.List place parts) → All (IsSexpOf text) parts.items
  unfolding IsSexpOf
  parts_are_of text place parts of =
      let same : sexp_tree (TheVariants.List place parts) ≡ trees.list place (sexp_trees parts.items) = tree_list place parts in
      let placed : IsPlaced of.low of.high (trees.list place (sexp_trees parts.items)) = subst (λ (t : SexpTree). IsPlaced of.low of.high t) same of.placed in
      each_of text parts.items (place + 1) of.high of.within placed.1 (λ token has. of.named token (subst (λ (t : SexpTree). Contains (atoms_in t) token) (sym same) has))

-- the form of a tree of the text stands somewhere
pub stands : (text : List ℕ) (sexp : Sexp) → IsSexpOf text sexp → (low : ℕ) × (high : ℕ) × Stands low high (sexp_form text sexp)
unfolding IsSexpOf sexp_form
stands text sexp of = (of.low, of.high, stands_of text (sexp_tree sexp) of.low of.high of.placed)
