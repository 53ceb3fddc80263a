-- Slots by their names, and by their numbers.
use Rattle.std.proofs.Common.{◌≡◌, ◌≢◌, ℕ, zero, suc, ◌+◌, ◌<◌, List, [], ◌∷◌, ◌++◌, length, drop, get_or, map, refl, sym, ap, ◌∙◌, subst, arith, append_assoc, true, false}
use Rattle.std.specs.Prelude.{◌==◌, AllPairs}
use Rattle.std.specs.List.{list_any}
use Rattle.std.proofs.lemmas.Bool.{false≢true}
use Rattle.std.proofs.lemmas.Bool.Decides.{Decides-eqb}
use Rattle.std.proofs.lemmas.List.Folds.{Any-from_list_any, list_any_at}
use Rattle.std.proofs.lemmas.List.{get_or-map, get_or_append_left, length_push, length-append, length-map, map_push, at_drop_more}
use Rattle.std.proofs.lemmas.List.Elements.{All-push}
use Rattle.std.proofs.lemmas.List.Quantifiers.{all_pairs_push}
use Rattle.std.proofs.Math.Seq.{get_or-append_seam}
use Rattle.machine_table.specs.Reading.{AreSlotNumbers}
use Rattle.machine_table.specs.declared.tables.Slot.{Slot}
use Rattle.text_core.specs.LineTexts.{Words}
use Rattle.answer_texts.specs.AnswerLines.{name_among}
use Rattle.answer_texts.proofs.TableSlots.{IsNoName, IsSlotAt, name_at}

-- these numbers have the names of the words from the fourth up to one
pub record AreNamed (slots : List Slot) (words : Words) (at : ℕ) (used : List ℕ) : Type 0 where
  pub is : drop 3 words ≡ map (name_among slots) used ++ drop at words
  pub count : length used + 3 ≡ at
  pub numbers : AreSlotNumbers slots used

other_default : (xs : List ℕ) (k d e : ℕ) → k < length xs → get_or xs k d ≡ get_or xs k e
other_default [] k d e low = absurd (omega (arith, low))
other_default (x ∷ xs) zero d e low = refl
other_default (x ∷ xs) (suc k) d e low = other_default xs k d e (omega (arith, low))

-- whether a number is among those so far
pub place_among : (used : List ℕ) (slot : ℕ) → list_any (λ y. y == slot) used ≡ true
    → (k : ℕ) × (k < length used) × (get_or used k 0 ≡ slot)
place_among used slot h =
    let a = Any-from_list_any (λ y. y == slot) used h in
    (a.0, a.2, other_default used a.0 0 a.1 a.2 ∙ a.3 ∙ (Decides-eqb a.1 slot).0 a.4)

pub not_among : (used : List ℕ) (slot : ℕ) → list_any (λ y. y == slot) used ≡ false → (k : ℕ) → k < length used
    → get_or used k 0 ≢ slot
not_among used slot h k low e =
    false≢true (sym h ∙ list_any_at (λ y. y == slot) used k 0 low ((Decides-eqb (get_or used k 0) slot).1 e))

any_slot : Slot
any_slot = record { name = []; cluster = 0 }

-- the names of slots differ
one_slot : (slots : List Slot) → AllPairs (λ (s r : Slot). s.name ≢ r.name) slots → (i j : ℕ) → i < length slots
    → j < length slots → name_among slots i ≡ name_among slots j → i ≡ j
one_slot slots differ i j lt less e =
    let names : (get_or slots i any_slot).name ≡ (get_or slots j any_slot).name =
    sym (name_at slots i any_slot lt) ∙ e ∙ name_at slots j any_slot less in
    let before : ¬ (i < j) = λ b. differ i j any_slot b less names in
    let behind : ¬ (j < i) = λ b. differ j i any_slot b lt (sym names) in
    omega (arith, before, behind)

-- no other numbers are those of the words behind the third
abbrev pub IsNoUsed : List Slot → Words → Type 0
IsNoUsed slots words = (used : List ℕ) → drop 3 words ≡ map (name_among slots) used → AreSlotNumbers slots used → ⊥

module _ (slots : List Slot) (words : Words) (at : ℕ) (used : List ℕ) (h : AreNamed slots words at used) (lt : at < length words) where
  split : drop 3 words ≡ map (name_among slots) used ++ get_or words at [] ∷ drop (at + 1) words
  split = h.is ∙ at_drop_more (λ l. map (name_among slots) used ++ l) words at [] lt

  module _ (others : List ℕ) (is : drop 3 words ≡ map (name_among slots) others) where
    longer : length used < length others
    longer =
        let n = ap length (sym is ∙ split) in
        let a = length-map others (name_among slots) in
        let b = length-append (map (name_among slots) used) (get_or words at [] ∷ drop (at + 1) words) in
        let d = length-map used (name_among slots) in
        omega (arith, n, a, b, d)

    here : name_among slots (get_or others (length used) 0) ≡ get_or words at []
    here =
        sym (get_or-map (name_among slots) others (length used) 0 [] longer)
        ∙ ap (λ l. get_or l (length used) []) (sym is ∙ split)
        ∙ ap (λ n. get_or (map (name_among slots) used ++ get_or words at [] ∷ drop (at + 1) words) n []) (sym (length-map used (name_among slots)))
        ∙ get_or-append_seam (map (name_among slots) used) (get_or words at []) (drop (at + 1) words) []

    earlier : (k : ℕ) → k < length used → name_among slots (get_or others k 0) ≡ name_among slots (get_or used k 0)
    earlier k low =
        let m = longer in
        sym (get_or-map (name_among slots) others k 0 [] (omega (arith, low, m)))
        ∙ ap (λ l. get_or l k []) (sym is ∙ split)
        ∙ get_or_append_left (map (name_among slots) used) (get_or words at [] ∷ drop (at + 1) words) [] k
        (let d = length-map used (name_among slots) in omega (arith, low, d))
        ∙ get_or-map (name_among slots) used k 0 [] low

  pub not_named : (bytes : List ℕ) → bytes ≡ get_or words at [] → IsNoName slots bytes → IsNoUsed slots words
  not_named bytes same none others is are =
      let there : get_or others (length used) 0 < length slots = are.exist (length used) 0 (longer others is) in
      none (get_or others (length used) 0) any_slot there
      (sym (name_at slots (get_or others (length used) 0) any_slot there) ∙ here others is ∙ sym same)

  module _ (bytes : List ℕ) (same : bytes ≡ get_or words at []) (slot : ℕ) (named : IsSlotAt slots bytes slot) where
    pub named_twice : AllPairs (λ (s r : Slot). s.name ≢ r.name) slots → (k : ℕ) → k < length used → get_or used k 0 ≡ slot
        → IsNoUsed slots words
    named_twice differ k low again others is are =
        let n = longer others is in
        let last : get_or others (length used) 0 ≡ slot =
        one_slot slots differ (get_or others (length used) 0) slot (are.exist (length used) 0 n) named.0
        (here others is ∙ sym same ∙ sym named.1) in
        let first : get_or others k 0 ≡ slot =
        one_slot slots differ (get_or others k 0) slot (are.exist k 0 (omega (arith, low, n))) named.0
        (earlier others is k low ∙ ap (name_among slots) again) in
        are.once k (length used) 0 low n (first ∙ sym last)

    pub one_named : ((k : ℕ) → k < length used → get_or used k 0 ≢ slot) → AreNamed slots words (at + 1) (used ++ slot ∷ [])
    one_named fresh = record {
      is =
          split
          ∙ ap (λ w. map (name_among slots) used ++ w ∷ drop (at + 1) words) (sym (named.1 ∙ same))
          ∙ sym (append_assoc (map (name_among slots) used) (name_among slots slot ∷ []) (drop (at + 1) words))
          ∙ ap (λ l. l ++ drop (at + 1) words) (sym (map_push (name_among slots) used slot));
      count = (let n = length_push used slot in let m = h.count in omega (arith, n, m));
      numbers = record {
        exist = All-push (λ s. s < length slots) used slot h.numbers.exist named.0;
        once = all_pairs_push (λ s r. s ≢ r) used slot h.numbers.once
            (λ k d low. subst (λ n. n ≢ slot) (other_default used k 0 d low) (fresh k low));
      };
    }
