-- Words that are numbers: the loop that reads them.
use Rattle.std.proofs.Common.{◌≡◌, ℕ, suc, ◌+◌, ◌<◌, ◌≤◌, List, [], ◌∷◌, ◌++◌, length, map, drop, get_or, refl, sym, ap, ◌∙◌, append_assoc, append-nil, add-one, decimal}
use Rattle.std.specs.List.{All}
use Rattle.std.proofs.lemmas.List.{map_push}
use Rattle.std.proofs.lemmas.List.Elements.{All-nil, All-head, All-tail, All-push}
use Rattle.std.proofs.Math.Seq.{drop-cons}
use Rattle.std.proofs.Math.ListN.{drop_of_length-le}
use Rattle.text_core.specs.LineTexts.{Words}
use Rattle.launch_graph.specs.RowReading.{AreNumbers}

abbrev pub IsBelow : ℕ → ℕ → Type 0
IsBelow limit n = n < limit

-- the numbers so far, from a place on
pub record SoFar (limit : ℕ) (row : Words) (from : ℕ) (ns : List ℕ) (at : ℕ) : Type 0 where
  pub small : All (IsBelow limit) ns
  pub words : drop from row ≡ map decimal ns ++ drop at row

pub so_far_none : (limit : ℕ) (row : Words) (from : ℕ) → SoFar limit row from [] from
so_far_none limit row from = record { small = All-nil (IsBelow limit); words = refl }

pub so_far_more : (limit : ℕ) (row : Words) (from : ℕ) (ns : List ℕ) (at : ℕ) (word d : List ℕ) (n : ℕ) → at < length row → word ≡ get_or row at d → word ≡ decimal n → IsBelow limit n → SoFar limit row from ns at → SoFar limit row from (ns ++ n ∷ []) (at + 1)
so_far_more limit row from ns at word d n few read is small h =
    let next : drop at row ≡ decimal n ∷ drop (at + 1) row =
    drop-cons row at d few ∙ ap (λ (w : List ℕ). w ∷ drop (suc at) row) (sym read ∙ is) ∙ ap (λ (m : ℕ). decimal n ∷ drop m row) (sym (add-one at)) in
    record {
      small = All-push (IsBelow limit) ns n h.small small;
      words = h.words ∙ ap (λ (ws : Words). map decimal ns ++ ws) next
          ∙ sym (append_assoc (map decimal ns) (decimal n ∷ []) (drop (at + 1) row))
          ∙ ap (λ (ws : Words). ws ++ drop (at + 1) row) (sym (map_push decimal ns n));
    }

-- the words are the numbers so far, and a word that is none
stops : (limit : ℕ) (ns others : List ℕ) (word : List ℕ) (tail : Words) → All (IsBelow limit) others → ((n : ℕ) → IsBelow limit n → word ≡ decimal n → ⊥) → map decimal ns ++ word ∷ tail ≡ map decimal others → ⊥
stops limit [] [] word tail small never e = cc
stops limit [] (m ∷ others) word tail small never e = never m (All-head (IsBelow limit) m others small) (let same : word ≡ decimal m = cc in same)
stops limit (n ∷ ns) [] word tail small never e = cc
stops limit (n ∷ ns) (m ∷ others) word tail small never e =
    stops limit ns others word tail (All-tail (IsBelow limit) m others small) never (let same : map decimal ns ++ word ∷ tail ≡ map decimal others = cc in same)

pub no_numbers : (limit : ℕ) (row : Words) (from : ℕ) (ns : List ℕ) (at : ℕ) (word d : List ℕ) → at < length row → word ≡ get_or row at d → ((n : ℕ) → IsBelow limit n → word ≡ decimal n → ⊥) → SoFar limit row from ns at
    → (others : List ℕ) → AreNumbers limit (drop from row) others → ⊥
no_numbers limit row from ns at word d few read never h others are =
    let next : drop at row ≡ word ∷ drop (suc at) row = drop-cons row at d few ∙ ap (λ (w : List ℕ). w ∷ drop (suc at) row) (sym read) in
    stops limit ns others word (drop (suc at) row) are.small never (sym (ap (λ (ws : Words). map decimal ns ++ ws) next) ∙ sym h.words ∙ are.are)

pub all_read : (limit : ℕ) (row : Words) (from : ℕ) (ns : List ℕ) (at : ℕ) → length row ≤ at → SoFar limit row from ns at → AreNumbers limit (drop from row) ns
all_read limit row from ns at all h =
    record { small = h.small; are = h.words ∙ ap (λ (ws : Words). map decimal ns ++ ws) (drop_of_length-le row all) ∙ append-nil (map decimal ns) }
