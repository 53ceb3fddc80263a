-- The line of a slot, behind other slots.
use Rattle.std.proofs.Common.{◌≡◌, ◌≢◌, ℕ, ◌<◌, ◌≤◌, Option, List, [], ◌∷◌, ◌++◌, length, get_or, refl, sym, ap, ap₂, ◌∙◌, codes, decimal, arith}
use Rattle.std.specs.Prelude.{All, IfSome, is_some, true}
use Rattle.std.specs.Option.{option_map_or}
use Rattle.std.proofs.lemmas.List.{length_push}
use Rattle.std.proofs.lemmas.List.Elements.{All-push}
use Rattle.std.proofs.lemmas.List.Quantifiers.{all_pairs_push}
use Rattle.std.proofs.lemmas.Option.{slice_get-get_or}
use Rattle.machine_table.specs.declared.tables.Slot.{Slot}
use Rattle.text_core.specs.LineTexts.{Words}
use Rattle.text_core.specs.Names.{IsName}
use Rattle.answer_texts.specs.AnswerLines.{name_among, slot_words}
use Rattle.answer_texts.specs.AnswerParts.{AreNamedSlots}
use Rattle.answer_texts.proofs.TableLists.{all_last, pairs_last, some_value}

-- no slot that may stand behind these has these words
abbrev pub IsNoSlot : List Slot → Words → Type 0
IsNoSlot before words = (s : Slot) → words ≡ slot_words s → AreNamedSlots (before ++ s ∷ []) → ⊥

three_words : (words : Words) → length words ≡ 3 → words ≡ get_or words 0 [] ∷ get_or words 1 [] ∷ get_or words 2 [] ∷ []
three_words [] e = absurd (omega (arith, e))
three_words (a ∷ []) e = absurd (omega (arith, e))
three_words (a ∷ b ∷ []) e = absurd (omega (arith, e))
three_words (a ∷ b ∷ c ∷ []) e = refl
three_words (a ∷ b ∷ c ∷ d ∷ words) e = absurd (omega (arith, e))

-- the name of a slot that is there
pub name_at : (slots : List Slot) (k : ℕ) (d : Slot) → k < length slots → name_among slots k ≡ (get_or slots k d).name
name_at slots k d lt = ap (λ (o : Option Slot). option_map_or (λ (s : Slot). s.name) o []) (slice_get-get_or slots k d lt)

abbrev pub IsSlotAt : List Slot → List ℕ → ℕ → Type 0
IsSlotAt slots bytes at = (at < length slots) × (name_among slots at ≡ bytes)

abbrev pub IsNoName : List Slot → List ℕ → Type 0
IsNoName slots bytes = All (λ (s : Slot). s.name ≡ bytes → ⊥) slots

module _ (before : List Slot) (words : Words) where
  pub no_name : (IsName (get_or words 1 []) → ⊥) → IsNoSlot before words
  no_name never s is are =
      let name : get_or words 1 [] ≡ s.name = ap (λ (l : Words). get_or l 1 []) is in
      never (rw name (all_last (λ (t : Slot). IsName t.name) before s are.names))

  pub same_name : (bytes : List ℕ) → bytes ≡ get_or words 1 [] → (o : Option ℕ) → IfSome o (IsSlotAt before bytes) → is_some o ≡ true
      → IsNoSlot before words
  same_name bytes at o some is s e are =
      let found = some_value (IsSlotAt before bytes) o some is in
      pairs_last (λ (t r : Slot). t.name ≢ r.name) before s are.once found.0 s found.1.0
      (sym (name_at before found.0 s found.1.0) ∙ found.1.1 ∙ at ∙ ap (λ (l : Words). get_or l 1 []) e)

  pub no_cluster : ((n : ℕ) → n < 4 → get_or words 2 [] ≡ decimal n → ⊥) → IsNoSlot before words
  no_cluster never s is are =
      never s.cluster (let low = all_last (λ (t : Slot). t.cluster ≤ 3) before s are.clusters in omega (arith, low))
      (ap (λ (l : Words). get_or l 2 []) is)

  pub the_slot : (s : Slot) → length words ≡ 3 → get_or words 0 [] ≡ codes "slot" → get_or words 1 [] ≡ s.name
      → get_or words 2 [] ≡ decimal s.cluster → AreNamedSlots before → length before ≢ 8 → IsName s.name → s.cluster < 4
      → IsNoName before s.name → (words ≡ slot_words s) × AreNamedSlots (before ++ s ∷ [])
  the_slot s count begins name number are few is low apart = (
    three_words words count ∙ ap₂ (λ a b. a ∷ b ∷ get_or words 2 [] ∷ []) begins name
        ∙ ap (λ b. codes "slot" ∷ s.name ∷ b ∷ []) number,
    record {
      few = (let n = length_push before s in let most : length before ≤ 8 = are.few in omega (arith, n, most, few));
      names = All-push (λ (t : Slot). IsName t.name) before s are.names is;
      clusters = All-push (λ (t : Slot). t.cluster ≤ 3) before s are.clusters (omega (arith, low));
      once = all_pairs_push (λ (t r : Slot). t.name ≢ r.name) before s are.once (λ k d lt. apart k d lt);
    },
  )
