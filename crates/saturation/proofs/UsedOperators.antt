-- The declared operators of one more row.
use Rattle.std.proofs.Common.{◌≡◌, ℕ, ◌+◌, ◌<◌, Some, None, List, [], ◌∷◌, ◌++◌, length, get_or, take, fold, refl, sym, ap, ◌∙◌, inl, inr, arith}
use Rattle.std.specs.List.{cons_option}
use Rattle.std.proofs.lemmas.List.Sums.{fold-append}
use Rattle.word_ops.specs.declared.sorts.Arity.{Arity}
use Rattle.word_ops.specs.declared.sorts.Op.{Op}
use Rattle.word_ops.specs.declared.sorts.Op.TheVariants.{Entry, Input, Constant, Word, Select, Store, Load, Put, Declared}
use Rattle.egraph.specs.declared.rows.Row.{Row}
use Rattle.graph_meaning.specs.WellFormed.{declared_index}
use Rattle.saturation.specs.Numbered.{firsts, indexes_of, place_in, with_new}
use Rattle.saturation.proofs.Firsts.{cases}
use Rattle.saturation.proofs.Mapped.{filter_map_more}

no_index : (op : Op) → ((i : ℕ) (a : Arity) → op ≡ Declared i a → ⊥) → declared_index op ≡ None
no_index Entry h = refl
no_index (Input r) h = refl
no_index (Constant c) h = refl
no_index (Word op) h = refl
no_index (Select access) h = refl
no_index (Store access) h = refl
no_index (Load access) h = refl
no_index (Put access) h = refl
no_index (Declared i a) h = absurd (h i a refl)

module _ (rows : List (Row Op)) (i : ℕ) (r : Row Op) (lt : i < length rows) (is : get_or rows i r ≡ r) where
  next : firsts (indexes_of (take (i + 1) rows)) ≡ fold with_new (firsts (indexes_of (take i rows))) (cons_option (declared_index r.op) [])
  next =
      ap firsts (filter_map_more (λ (r : Row Op). declared_index r.op) rows i r lt)
      ∙ fold-append with_new [] (indexes_of (take i rows)) (cons_option (declared_index (get_or rows i r).op) [])
      ∙ ap (λ (t : Row Op). fold with_new (firsts (indexes_of (take i rows))) (cons_option (declared_index t.op) [])) is

  abbrev Used : List ℕ → Type 0
  Used used = used ≡ firsts (indexes_of (take i rows))

  abbrev UsedNext : List ℕ → Type 0
  UsedNext used = used ≡ firsts (indexes_of (take (i + 1) rows))

  by_index : (used : List ℕ) (n : ℕ) → Used used → declared_index r.op ≡ Some n → with_new used n ≡ firsts (indexes_of (take (i + 1) rows))
  by_index used n h e = ap (λ ns. with_new ns n) h ∙ sym (next ∙ ap (λ o. fold with_new (firsts (indexes_of (take i rows))) (cons_option o [])) e)

  -- a declared operator that no earlier row has
  pub used_anew : (used : List ℕ) (n : ℕ) (a : Arity) → Used used → r.op ≡ Declared n a → place_in used n ≡ length used → UsedNext (used ++ n ∷ [])
  used_anew used n a h e new =
      elim (cases used n) [ inl k ↦ absurd (omega (arith, k.0, new)) | inr k ↦ sym k.1 ]
      ∙ by_index used n h (ap declared_index e)

  pub used_again : (used : List ℕ) (n : ℕ) (a : Arity) → Used used → r.op ≡ Declared n a → (place_in used n ≡ length used → ⊥) → UsedNext used
  used_again used n a h e old =
      elim (cases used n) [ inl k ↦ sym k.1 | inr k ↦ absurd (old k.0) ]
      ∙ by_index used n h (ap declared_index e)

  pub used_none : (used : List ℕ) → Used used → ((n : ℕ) (a : Arity) → r.op ≡ Declared n a → ⊥) → UsedNext used
  used_none used h other = h ∙ sym (next ∙ ap (λ o. fold with_new (firsts (indexes_of (take i rows))) (cons_option o [])) (no_index r.op other))
