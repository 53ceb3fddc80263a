-- Words that are items up to a zero: the loop that reads them, and that there is one way to read them.
use Rattle.std.proofs.Common.{◌≡◌, ℕ, suc, ◌+◌, ◌<◌, ◌≤◌, List, [], ◌∷◌, ◌++◌, length, map, drop, get_or, refl, sym, ap, ◌∙◌, arith, append_assoc, add-one}
use Rattle.std.specs.Prelude.{codes}
use Rattle.std.specs.List.{All}
use Rattle.std.proofs.lemmas.List.{map_push}
use Rattle.std.proofs.lemmas.List.Elements.{All-nil, All-head, All-tail, All-push}
use Rattle.std.proofs.Math.Seq.{drop-cons}
use Rattle.std.proofs.Math.ListN.{drop_of_length-le}
use Rattle.refutation_check.specs.LineWords.{IsRun, IsNoRun}

-- the first word of a list that isn't empty
pub head-same : {X : Type 0} (x y : X) (xs ys : List X) → x ∷ xs ≡ y ∷ ys → x ≡ y
head-same x y xs ys e = cc

pub tail-same : {X : Type 0} (x y : X) (xs ys : List X) → x ∷ xs ≡ y ∷ ys → xs ≡ ys
tail-same x y xs ys e = cc

cons-not_nil : {X : Type 0} (x : X) (xs : List X) → [] ≡ x ∷ xs → ⊥
cons-not_nil x xs e = cc

module _ {X : Type 0} (word_of : X → List ℕ) (IsFine : X → Type 0) (apart : (x : X) → IsFine x → word_of x ≡ codes "0" → ⊥) where
  -- the items so far, from a place on
  pub record SoFar (row : List (List ℕ)) (from : ℕ) (items : List X) (at : ℕ) : Type 0 where
    pub fine : All IsFine items
    pub words : drop from row ≡ map word_of items ++ drop at row

  pub so_far-none : (row : List (List ℕ)) (from : ℕ) → SoFar row from [] from
  so_far-none row from = record { fine = All-nil IsFine; words = refl }

  -- one more item
  pub so_far-more : (row : List (List ℕ)) (from : ℕ) (items : List X) (at : ℕ) (word d : List ℕ) (x : X) → at < length row → word ≡ get_or row at d → word ≡ word_of x → IsFine x → SoFar row from items at → SoFar row from (items ++ x ∷ []) (at + 1)
  so_far-more row from items at word d x few read is fine h =
      let next : drop at row ≡ word_of x ∷ drop (at + 1) row =
      drop-cons row at d few ∙ ap (λ (w : List ℕ). w ∷ drop (suc at) row) (sym read ∙ is) ∙ ap (λ (n : ℕ). word_of x ∷ drop n row) (sym (add-one at)) in
      record {
        fine = All-push IsFine items x h.fine fine;
        words = h.words ∙ ap (λ (ws : List (List ℕ)). map word_of items ++ ws) next
            ∙ sym (append_assoc (map word_of items) (word_of x ∷ []) (drop (at + 1) row))
            ∙ ap (λ (ws : List (List ℕ)). ws ++ drop (at + 1) row) (sym (map_push word_of items x));
      }

  -- the zero after the items
  pub ends-at_zero : (row : List (List ℕ)) (from : ℕ) (items : List X) (at : ℕ) (word d : List ℕ) → at < length row → word ≡ get_or row at d → word ≡ codes "0" → SoFar row from items at → IsRun word_of IsFine row from items (at + 1)
  ends-at_zero row from items at word d few read is h =
      let next : drop at row ≡ codes "0" ∷ drop (at + 1) row =
      drop-cons row at d few ∙ ap (λ (w : List ℕ). w ∷ drop (suc at) row) (sym read ∙ is) ∙ ap (λ (n : ℕ). codes "0" ∷ drop n row) (sym (add-one at)) in
      record {
        fine = h.fine;
        words = h.words ∙ ap (λ (ws : List (List ℕ)). map word_of items ++ ws) next;
        within = omega arith;
      }

  -- what follows the items is neither an item nor a zero
  clash : (items others : List X) (tail rest : List (List ℕ)) → All IsFine items → All IsFine others
      → ((more : List (List ℕ)) → tail ≡ codes "0" ∷ more → ⊥) → ((x : X) (more : List (List ℕ)) → IsFine x → tail ≡ word_of x ∷ more → ⊥)
      → map word_of items ++ tail ≡ map word_of others ++ codes "0" ∷ rest → ⊥
  clash [] [] tail rest a b no_zero no_item e = no_zero rest e
  clash [] (y ∷ ys) tail rest a b no_zero no_item e = no_item y (map word_of ys ++ codes "0" ∷ rest) (All-head IsFine y ys b) e
  clash (x ∷ xs) [] tail rest a b no_zero no_item e = apart x (All-head IsFine x xs a) (head-same (word_of x) (codes "0") (map word_of xs ++ tail) rest e)
  clash (x ∷ xs) (y ∷ ys) tail rest a b no_zero no_item e =
      clash xs ys tail rest (All-tail IsFine x xs a) (All-tail IsFine y ys b) no_zero no_item (tail-same (word_of x) (word_of y) (map word_of xs ++ tail) (map word_of ys ++ codes "0" ∷ rest) e)

  -- a word that is neither an item nor a zero
  pub none-at : (row : List (List ℕ)) (from : ℕ) (items : List X) (at : ℕ) (word d : List ℕ) → at < length row → word ≡ get_or row at d → (word ≡ codes "0" → ⊥) → ((x : X) → IsFine x → word ≡ word_of x → ⊥) → SoFar row from items at → IsNoRun word_of IsFine row from
  none-at row from items at word d few read not_zero not_item h others rest fine is =
      let next : drop at row ≡ word ∷ drop (suc at) row = drop-cons row at d few ∙ ap (λ (w : List ℕ). w ∷ drop (suc at) row) (sym read) in
      clash items others (drop at row) rest h.fine fine
      (λ more e. not_zero (head-same word (codes "0") (drop (suc at) row) more (sym next ∙ e)))
      (λ x more f e. not_item x f (head-same word (word_of x) (drop (suc at) row) more (sym next ∙ e)))
      (sym h.words ∙ is)

  -- no zero at all
  pub none-past : (row : List (List ℕ)) (from : ℕ) (items : List X) (at : ℕ) → length row ≤ at → SoFar row from items at → IsNoRun word_of IsFine row from
  none-past row from items at all h others rest fine is =
      let next : drop at row ≡ [] = drop_of_length-le row all in
      clash items others (drop at row) rest h.fine fine
      (λ more e. cons-not_nil (codes "0") more (sym next ∙ e))
      (λ x more f e. cons-not_nil (word_of x) more (sym next ∙ e))
      (sym h.words ∙ is)

  -- there is one way to read the words
  pub rest-same : (items others : List X) (rest more : List (List ℕ)) → All IsFine items → All IsFine others → map word_of items ++ codes "0" ∷ rest ≡ map word_of others ++ codes "0" ∷ more → rest ≡ more
  rest-same [] [] rest more a b e = tail-same (codes "0") (codes "0") rest more e
  rest-same [] (y ∷ ys) rest more a b e = absurd (apart y (All-head IsFine y ys b) (sym (head-same (codes "0") (word_of y) rest (map word_of ys ++ codes "0" ∷ more) e)))
  rest-same (x ∷ xs) [] rest more a b e = absurd (apart x (All-head IsFine x xs a) (head-same (word_of x) (codes "0") (map word_of xs ++ codes "0" ∷ rest) more e))
  rest-same (x ∷ xs) (y ∷ ys) rest more a b e =
      rest-same xs ys rest more (All-tail IsFine x xs a) (All-tail IsFine y ys b) (tail-same (word_of x) (word_of y) (map word_of xs ++ codes "0" ∷ rest) (map word_of ys ++ codes "0" ∷ more) e)
