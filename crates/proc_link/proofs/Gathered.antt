-- The listings of results, one result more.
use Rattle.std.proofs.Common.{◌≡◌, ℕ, zero, suc, ◌+◌, ◌<◌, ◌≤◌, List, [], ◌∷◌, ◌++◌, length, take, get_or, refl, sym, ◌∙◌, ap, arith, Option, Some, None}
use Rattle.std.proofs.lemmas.List.{take_all, take_more}
use Rattle.std.proofs.lemmas.Option.{same_Some, none-some}
use Rattle.denali_run.specs.declared.results.Answered.{Answered}
use Rattle.register_assign.specs.declared.listings.Listing.{Listing}
use Rattle.proc_link.specs.ProcAnswers.{listing_of, listings_of, with_listing}

none_behind : (o : Option Listing) → with_listing o None ≡ None
none_behind None = refl
none_behind (Some l) = refl

-- a result without a listing
pub none_at : (rs : List Answered) (i : ℕ) (d : Answered) → i < length rs → listing_of (get_or rs i d) ≡ None → listings_of rs ≡ None
none_at [] i d inside e = absurd (omega (arith, inside))
none_at (r ∷ rs) zero d inside e = ap (λ o. with_listing o (listings_of rs)) e
none_at (r ∷ rs) (suc i) d inside e = ap (with_listing (listing_of r)) (none_at rs i d (omega (arith, inside)) e) ∙ none_behind (listing_of r)

behind_one : (q r : Answered) (rs : List Answered) (l : Listing) (ls : List Listing) (o : Option Listing) (m : Option (List Listing)) → listing_of q ≡ o → listings_of rs ≡ m
    → with_listing o m ≡ Some ls → ((ms : List Listing) → listings_of rs ≡ Some ms → listings_of (rs ++ r ∷ []) ≡ Some (ms ++ l ∷ []))
    → with_listing (listing_of q) (listings_of (rs ++ r ∷ [])) ≡ Some (ls ++ l ∷ [])
behind_one q r rs l ls None m eo em same rest = absurd (none-some ls same)
behind_one q r rs l ls (Some k) None eo em same rest = absurd (none-some ls same)
behind_one q r rs l ls (Some k) (Some ms) eo em same rest =
    (λ j. with_listing (eo j) (rest ms em j)) ∙ ap (λ xs. Some (xs ++ l ∷ [])) (same_Some (k ∷ ms) ls same)

one_more : (rs : List Answered) (ls : List Listing) (r : Answered) (l : Listing) → listings_of rs ≡ Some ls → listing_of r ≡ Some l → listings_of (rs ++ r ∷ []) ≡ Some (ls ++ l ∷ [])
one_more [] ls r l h e = ap (λ o. with_listing o (Some [])) e ∙ ap (λ xs. Some (xs ++ l ∷ [])) (same_Some [] ls h)
one_more (q ∷ rs) ls r l h e = behind_one q r rs l ls (listing_of q) (listings_of rs) refl refl h (λ ms k. one_more rs ms r l k e)

pub gathered_more : (rs : List Answered) (i : ℕ) (d : Answered) (ls : List Listing) (l : Listing) → i < length rs → listings_of (take i rs) ≡ Some ls
    → listing_of (get_or rs i d) ≡ Some l → listings_of (take (i + 1) rs) ≡ Some (ls ++ l ∷ [])
gathered_more rs i d ls l inside h e = ap listings_of (take_more rs i d inside) ∙ one_more (take i rs) ls (get_or rs i d) l h e

pub gathered_all : (rs : List Answered) (i : ℕ) (ls : List Listing) → length rs ≤ i → listings_of (take i rs) ≡ Some ls → listings_of rs ≡ Some ls
gathered_all rs i ls past h = sym (ap listings_of (take_all i rs past)) ∙ h
