-- Where the words of the listings so far stand.
use Rattle.std.proofs.Common.{◌≡◌, ℕ, ◌+◌, ◌*◌, ◌<◌, ◌≤◌, List, [], ◌∷◌, ◌++◌, length, take, get_or, refl, ◌∙◌, ap, arith}
use Rattle.std.specs.Prelude.{All}
use Rattle.std.proofs.lemmas.List.{take_all}
use Rattle.schedule_meaning.specs.Limits.{most_launches}
use Rattle.register_assign.specs.declared.listings.Listing.{Listing}
use Rattle.proc_link.specs.Linked.{all_instrs, starts_from, starts_of, words_before}
use Rattle.proc_link.proofs.Appending.{end_more, starts_more}

-- the starts of the listings so far, and their words, with a word more for each
pub record AreLaidOut (ls : List Listing) (at : ℕ) (starts : List ℕ) (end : ℕ) : Type 0 where
  pub starts_are : starts ≡ starts_from 0 (all_instrs (take at ls))
  pub end_is : end ≡ words_before (all_instrs (take at ls)) (length (all_instrs (take at ls)))
  pub few : end ≤ 193 * at

pub laid_none : (ls : List Listing) → AreLaidOut ls 0 [] 0
laid_none ls = record { starts_are = refl; end_is = refl; few = omega arith }

pub laid_more : (ls : List Listing) (at : ℕ) (d : Listing) (starts : List ℕ) (end start next : ℕ) → at < length ls
    → All (λ (l : Listing). length l.items ≤ most_launches) ls → AreLaidOut ls at starts end → start ≡ 4 * end
    → next ≡ end + (length (get_or ls at d).items + 1) → AreLaidOut ls (at + 1) (starts ++ start ∷ []) next
laid_more ls at d starts end start next inside short h is after =
    let few = h.few in
    let low = short at d inside in
    record {
      starts_are = starts_more ls at d inside starts end start h.starts_are h.end_is is;
      end_is = after ∙ end_more ls at d inside end h.end_is;
      few = omega (arith, few, low, after);
    }

pub laid_all : (ls : List Listing) (at : ℕ) (starts : List ℕ) (end : ℕ) → length ls ≤ at → AreLaidOut ls at starts end
    → (starts ≡ starts_of (all_instrs ls)) × (end ≡ words_before (all_instrs ls) (length (all_instrs ls)))
laid_all ls at starts end past h =
    let all = take_all at ls past in (
      h.starts_are ∙ ap (λ xs. starts_from 0 (all_instrs xs)) all,
      h.end_is ∙ ap (λ xs. words_before (all_instrs xs) (length (all_instrs xs))) all,
    )
