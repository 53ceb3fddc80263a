-- One word more.
use Rattle.std.proofs.Common.{◌≡◌, ℕ, ◌+◌, ◌<◌, ◌≤◌, List, [], ◌∷◌, ◌++◌, length, map, take, get_or, refl, sym, ◌∙◌, ap, subst, Some, Option}
use Rattle.std.proofs.lemmas.List.{take_more, take_all}
use Rattle.alpha_encode.specs.Decoded.{decoded}
use Rattle.alpha_encode.specs.Formats.{encoded}
use Rattle.register_assign.specs.Outcomes.{AreWordsOf, instrs_of}
use Rattle.alpha_encode.specs.declared.instructions.Instr.{Instr}
use Rattle.register_assign.specs.declared.listings.Item.{Item}

map_append : {X Y : Type 0} (f : X → Y) (xs ys : List X) → map f (xs ++ ys) ≡ map f xs ++ map f ys
map_append f [] ys = refl
map_append f (x ∷ xs) ys = ap (λ zs. f x ∷ zs) (map_append f xs ys)

pub words_more : (items : List Item) (words : List ℕ) (i w : ℕ) (d : Item) → i < length items → AreWordsOf (take i items) words → decoded w ≡ Some (get_or items i d).instr → AreWordsOf (take (i + 1) items) (words ++ w ∷ [])
words_more items words i w d lt h e =
    let x : Item = get_or items i d in
    map_append decoded words (w ∷ [])
    ∙ ap (λ (os : List (Option Instr)). os ++ map decoded (w ∷ [])) h
    ∙ ap (λ o. map Some (instrs_of (take i items)) ++ o ∷ []) e
    ∙ sym (ap (λ xs. map Some (instrs_of xs)) (take_more items i d lt) ∙ ap (map Some) (map_append (λ a. a.instr) (take i items) (x ∷ [])) ∙ map_append Some (instrs_of (take i items)) (x.instr ∷ []))

pub words_all : (items : List Item) (words : List ℕ) (i : ℕ) → length items ≤ i → AreWordsOf (take i items) words → AreWordsOf items words
words_all items words i le h = subst (λ (xs : List Item). AreWordsOf xs words) (take_all i items le) h

abbrev word_of : Item → ℕ
word_of a = encoded a.instr

pub encoded_more : (items : List Item) (words : List ℕ) (i w : ℕ) (d : Item) → i < length items → words ≡ map (λ (a : Item). encoded a.instr) (take i items) → w ≡ encoded (get_or items i d).instr → words ++ w ∷ [] ≡ map (λ (a : Item). encoded a.instr) (take (i + 1) items)
encoded_more items words i w d lt h e =
    ap (λ ws. ws ++ w ∷ []) h
    ∙ ap (λ n. map word_of (take i items) ++ n ∷ []) e
    ∙ sym (ap (map word_of) (take_more items i d lt) ∙ map_append word_of (take i items) (get_or items i d ∷ []))

pub encoded_all : (items : List Item) (words : List ℕ) (i : ℕ) → length items ≤ i → words ≡ map (λ (a : Item). encoded a.instr) (take i items) → words ≡ map (λ (a : Item). encoded a.instr) items
encoded_all items words i le h = subst (λ (xs : List Item). words ≡ map word_of xs) (take_all i items le) h
