-- The line of an instruction, behind others of a table.
use Rattle.std.proofs.Common.{◌≡◌, ◌≢◌, ℕ, ◌-◌, ◌<◌, ◌≤◌, Some, List, [], ◌∷◌, ◌++◌, length, drop, get_or, map, refl, sym, ap, ap₂, ◌∙◌, subst, codes, decimal, arith, Bool, true, false}
use Rattle.std.specs.Prelude.{◌==◌, All, AllPairs, Decides, slice_get}
use Rattle.std.proofs.lemmas.Bool.{false≢true}
use Rattle.std.proofs.lemmas.Bool.Decides.{Decides-eqb}
use Rattle.std.proofs.lemmas.Fmt.{decimal_injective}
use Rattle.std.proofs.lemmas.List.{length-drop, length-map}
use Rattle.std.proofs.lemmas.List.Elements.{All-push, All-weaker}
use Rattle.std.proofs.lemmas.List.Quantifiers.{all_pairs_push}
use Rattle.std.proofs.lemmas.Option.{get_or_from_slice_get}
use Rattle.machine_table.specs.InstrOrder.{kind_number, instr_name}
use Rattle.machine_table.specs.Reading.{AreSlotNumbers}
use Rattle.machine_table.specs.Tables.{IsUse}
use Rattle.machine_table.specs.declared.tables.InstrKind.{InstrKind}
use Rattle.machine_table.specs.declared.tables.Slot.{Slot}
use Rattle.machine_table.specs.declared.tables.Table.{Table}
use Rattle.machine_table.specs.declared.tables.Use.{Use}
use Rattle.text_core.specs.LineTexts.{Words}
use Rattle.answer_texts.specs.AnswerLines.{inst_words, name_among}
use Rattle.answer_texts.specs.AnswerParts.{AreTableUses, table_of}
use Rattle.answer_texts.proofs.TableLists.{all_last, pairs_last}
use Rattle.answer_texts.proofs.TableNumbers.{IsNoUsed}

-- ---- the order of instructions

abbrev pub AreOrdered : List Use → Type 0
AreOrdered uses = AllPairs (λ (u v : Use). kind_number u.instr < kind_number v.instr) uses

-- each of these comes before the instruction
abbrev pub AreBefore : List Use → InstrKind → Type 0
AreBefore uses instr = All (λ (u : Use). kind_number u.instr < kind_number instr) uses

some_uses : (uses : List Use) (last : Use) → slice_get uses (length uses - 1) ≡ Some last → 0 < length uses
some_uses [] last e = cc
some_uses (u ∷ uses) last e = omega arith

module _ (uses : List Use) (last : Use) (is : slice_get uses (length uses - 1) ≡ Some last) (instr : InstrKind) where
  last_at : (d : Use) → get_or uses (length uses - 1) d ≡ last
  last_at d = get_or_from_slice_get uses (length uses - 1) last d is

  pub behind_last : AreOrdered uses → kind_number last.instr < kind_number instr → AreBefore uses instr
  behind_last order less k d lt = by_place (k == length uses - 1) (Decides-eqb k (length uses - 1))
    where
      by_place : (b : Bool) → Decides b (k ≡ length uses - 1) → kind_number (get_or uses k d).instr < kind_number instr
      by_place true e =
          subst (λ (u : Use). kind_number u.instr < kind_number instr)
          (sym (ap (λ n. get_or uses n d) (e.0 refl) ∙ last_at d)) less
      by_place false e =
          let apart : ¬ (k ≡ length uses - 1) = λ same. false≢true (e.1 same) in
          let there : k < length uses - 1 = omega (arith, lt, apart) in
          let first = subst (λ (u : Use). kind_number (get_or uses k d).instr < kind_number u.instr) (last_at d)
          (order k (length uses - 1) d there (omega (arith, lt))) in
          omega (arith, first, less)

  pub last_before : AreBefore uses instr → kind_number last.instr < kind_number instr
  last_before h =
      let some = some_uses uses last is in
      subst (λ (u : Use). kind_number u.instr < kind_number instr) (last_at last)
      (h (length uses - 1) last (omega (arith, some)))

-- ---- a line

-- no use that may stand behind these has these words
abbrev pub IsNoUse : List Slot → ℕ → List Use → Words → Type 0
IsNoUse slots cross before words = (u : Use) → words ≡ inst_words slots u → AreTableUses slots cross (before ++ u ∷ []) → ⊥

four_words : (words : Words) → 4 ≤ length words
    → words ≡ get_or words 0 [] ∷ get_or words 1 [] ∷ get_or words 2 [] ∷ drop 3 words
four_words [] e = absurd (omega (arith, e))
four_words (a ∷ []) e = absurd (omega (arith, e))
four_words (a ∷ b ∷ []) e = absurd (omega (arith, e))
four_words (a ∷ b ∷ c ∷ words) e = refl

module _ (slots : List Slot) (cross : ℕ) (before : List Use) (words : Words) where
  is_use : (u : Use) → AreTableUses slots cross (before ++ u ∷ []) → IsUse (table_of slots cross (before ++ u ∷ [])) u
  is_use u are = all_last (IsUse (table_of slots cross (before ++ u ∷ []))) before u are.uses

  pub not_behind : (instr : InstrKind) → ((other : InstrKind) → instr_name other ≡ get_or words 1 [] → instr ≡ other)
      → (AreBefore before instr → ⊥) → IsNoUse slots cross before words
  not_behind instr found never u is are =
      let same : instr ≡ u.instr = found u.instr (sym (ap (λ (l : Words). get_or l 1 []) is)) in
      never (subst (AreBefore before) (sym same)
      (λ k d lt. pairs_last (λ (v w : Use). kind_number v.instr < kind_number w.instr) before u are.order k d lt))

  pub no_latency : ((n : ℕ) → n < 17 → get_or words 2 [] ≡ decimal n → ⊥) → IsNoUse slots cross before words
  no_latency never u is are =
      never u.latency (let high = (is_use u are).latency.1 in omega (arith, high)) (ap (λ (l : Words). get_or l 2 []) is)

  pub zero_latency : (n : ℕ) → get_or words 2 [] ≡ decimal n → n ≡ 0 → IsNoUse slots cross before words
  zero_latency n number zero u is are =
      let low = (is_use u are).latency.0 in
      let high = (is_use u are).latency.1 in
      let same : n ≡ u.latency =
      decimal_injective n u.latency (omega (arith, zero)) (omega (arith, high)) (sym number ∙ ap (λ (l : Words). get_or l 2 []) is) in
      omega (arith, same, zero, low)

  pub not_used : IsNoUsed slots words → IsNoUse slots cross before words
  not_used never u is are =
      let one = is_use u are in
      never u.slots (ap (λ (l : Words). drop 3 l) is) (record { exist = one.exist; once = one.once })

  pub the_use : (u : Use) → 4 ≤ length words → get_or words 0 [] ≡ codes "inst" → get_or words 1 [] ≡ instr_name u.instr
      → get_or words 2 [] ≡ decimal u.latency → drop 3 words ≡ map (name_among slots) u.slots → AreSlotNumbers slots u.slots
      → u.latency < 17 → u.latency ≢ 0 → AreBefore before u.instr → AreTableUses slots cross before
      → (words ≡ inst_words slots u) × AreTableUses slots cross (before ++ u ∷ [])
  the_use u long begins name number used numbers low some behind are =
      let old : Table = table_of slots cross before in
      let new : Table = table_of slots cross (before ++ u ∷ []) in
      let count = ap (λ (l : Words). length l) used in
      let behind_count = length-drop 3 words in
      let names = length-map u.slots (name_among slots) in (
        four_words words long ∙ ap₂ (λ a b. a ∷ b ∷ get_or words 2 [] ∷ drop 3 words) begins name
            ∙ ap₂ (λ a l. codes "inst" ∷ instr_name u.instr ∷ a ∷ l) number used,
        record {
          slots = are.slots;
          clusters = are.clusters;
          names = are.names;
          cross = are.cross;
          uses =
              All-push (IsUse new) before u
              (All-weaker (IsUse old) (IsUse new)
              (λ (v : Use) (h : IsUse old v). record { latency = h.latency; some = h.some; exist = h.exist; once = h.once }) before are.uses)
              (record {
                latency = (omega (arith, some), omega (arith, low));
                some = omega (arith, long, count, behind_count, names);
                exist = numbers.exist;
                once = numbers.once;
              });
          order = all_pairs_push (λ (v w : Use). kind_number v.instr < kind_number w.instr) before u are.order (λ k d lt. behind k d lt);
        },
      )
