-- The line of a launch: up to its row, and behind it where the launch goes.
use Rattle.std.proofs.Common.{◌≡◌, ◌≢◌, ℕ, ◌-◌, ◌<◌, ◌≤◌, ◌^◌, List, [], ◌∷◌, length, drop, get_or, refl, sym, ap, subst, ◌∙◌, arith, codes, decimal, Option, None, Some}
use Rattle.std.specs.Prelude.{IsSomeAnd}
use Rattle.std.proofs.lemmas.Fmt.{decimal_injective}
use Rattle.std.proofs.lemmas.List.{length-drop}
use Rattle.std.proofs.lemmas.List.Elements.{All-head}
use Rattle.graph_meaning.specs.declared.graphs.LaunchGraph.{LaunchGraph}
use Rattle.launch_graph.specs.GraphLines.{pin_words}
use Rattle.machine_table.specs.declared.tables.Table.{Table}
use Rattle.schedule_meaning.specs.Launches.{pin_of}
use Rattle.schedule_meaning.specs.declared.schedules.Launch.{Launch}
use Rattle.schedule_meaning.specs.declared.schedules.To.{To}
use Rattle.schedule_meaning.specs.declared.schedules.To.TheVariants.{Pool, Set}
use Rattle.text_core.specs.LineTexts.{Words}
use Rattle.answer_texts.specs.AnswerLines.{launch_words}
use Rattle.answer_texts.specs.AnswerParts.{AreLaunches, IsDestination, IsLaunch}
use Rattle.answer_texts.proofs.PartsSame.{head_same}

-- ---- behind the row

-- the words behind the row tell no destination
abbrev pub IsNoDestination : LaunchGraph → Words → Type 0
IsNoDestination g words = (to : To) → drop 4 words ≡ pin_words (pin_of g to) → IsDestination g to → ⊥

-- they tell this one
abbrev pub TellsDestination : LaunchGraph → Words → To → Type 0
TellsDestination g words to = (drop 4 words ≡ pin_words (pin_of g to)) × IsDestination g to

no_more : (words : Words) → length words ≡ 4 → drop 4 words ≡ []
no_more [] e = absurd (omega (arith, e))
no_more (a ∷ []) e = absurd (omega (arith, e))
no_more (a ∷ b ∷ []) e = absurd (omega (arith, e))
no_more (a ∷ b ∷ c ∷ []) e = absurd (omega (arith, e))
no_more (a ∷ b ∷ c ∷ d ∷ []) e = refl
no_more (a ∷ b ∷ c ∷ d ∷ f ∷ words) e = absurd (omega (arith, e))

one_more : (words : Words) → length words ≡ 5 → drop 4 words ≡ get_or words 4 [] ∷ []
one_more [] e = absurd (omega (arith, e))
one_more (a ∷ []) e = absurd (omega (arith, e))
one_more (a ∷ b ∷ []) e = absurd (omega (arith, e))
one_more (a ∷ b ∷ c ∷ []) e = absurd (omega (arith, e))
one_more (a ∷ b ∷ c ∷ d ∷ []) e = absurd (omega (arith, e))
one_more (a ∷ b ∷ c ∷ d ∷ f ∷ []) e = refl
one_more (a ∷ b ∷ c ∷ d ∷ f ∷ h ∷ words) e = absurd (omega (arith, e))

at_most_one : (o : Option ℕ) → length (pin_words o) ≤ 1
at_most_one None = omega arith
at_most_one (Some r) = omega arith

module _ (g : LaunchGraph) (words : Words) where
  pub to_pool : length words ≡ 4 → TellsDestination g words Pool
  to_pool four = (no_more words four, tt)

  pub too_long : 4 ≤ length words → length words ≢ 4 → length words ≢ 5 → IsNoDestination g words
  too_long long four five to is at =
      let most = at_most_one (pin_of g to) in
      let count : length words - 4 ≡ length (pin_words (pin_of g to)) = sym (length-drop 4 words) ∙ ap length is in
      omega (arith, long, four, five, most, count)

  module _ (five : length words ≡ 5) where
    none_by : (j : ℕ) (o : Option ℕ) → pin_of g (Set j) ≡ o → IsSomeAnd o (λ r. r < 31) → drop 4 words ≡ pin_words o
        → ((r : ℕ) → r < 31 → get_or words 4 [] ≡ decimal r → pin_of g (Set j) ≡ Some r → ⊥) → ⊥
    none_by j None e low is never = low
    none_by j (Some r) e low is never =
        never r low (head_same (get_or words 4 []) (decimal r) [] [] (sym (one_more words five) ∙ is)) e

    -- no pin of a set is the register that the last word writes
    pub no_destination : ((j r : ℕ) → j < 2 ^ 31 → r < 31 → get_or words 4 [] ≡ decimal r → pin_of g (Set j) ≡ Some r → ⊥)
        → IsNoDestination g words
    no_destination never Pool is at = (let both : get_or words 4 [] ∷ [] ≡ [] = sym (one_more words five) ∙ is in cc)
    no_destination never (Set j) is at =
        none_by j (pin_of g (Set j)) refl at.1 is (λ r low number pin. never j r at.0 low number pin)

    pub no_register : ((r : ℕ) → r < 31 → get_or words 4 [] ≡ decimal r → ⊥) → IsNoDestination g words
    no_register never = no_destination (λ j r low less number pin. never r less number)

    module _ (register : ℕ) (number : get_or words 4 [] ≡ decimal register) (low : register < 31) where
      pub no_set : ((j : ℕ) → j < 2 ^ 31 → pin_of g (Set j) ≡ Some register → ⊥) → IsNoDestination g words
      no_set never =
          no_destination
          (λ j r there less other pin.
          (let same : r ≡ register =
          decimal_injective r register (omega (arith, less)) (omega (arith, low)) (sym other ∙ number) in
          never j there (pin ∙ ap Some same)))

      pub to_set : (j : ℕ) → j < 2 ^ 31 → pin_of g (Set j) ≡ Some register → TellsDestination g words (Set j)
      to_set j there pin = (
        one_more words five ∙ ap (λ (w : List ℕ). w ∷ []) number ∙ ap pin_words (sym pin),
        (there, subst (λ (o : Option ℕ). IsSomeAnd o (λ r. r < 31)) (sym pin) low),
      )

-- ---- the whole line, where it is that of no launch

-- no launch of the graph has these words
abbrev pub IsNoLaunch : Table → LaunchGraph → Words → Type 0
IsNoLaunch table g words = (l : Launch) → words ≡ launch_words table g l → AreLaunches table g (l ∷ []) → ⊥

module _ (table : Table) (g : LaunchGraph) (words : Words) where
  the_one : (l : Launch) → AreLaunches table g (l ∷ []) → IsLaunch table g l
  the_one l are = All-head (IsLaunch table g) l [] are

  pub few_words : length words < 4 → IsNoLaunch table g words
  few_words few l is are = (let count = ap (λ (ws : Words). length ws) is in omega (arith, few, count))

  pub other_word : (get_or words 0 [] ≡ codes "launch" → ⊥) → IsNoLaunch table g words
  other_word never l is are = never (ap (λ (ws : Words). get_or ws 0 []) is)

  pub no_cycle : ((n : ℕ) → n < 2 ^ 31 → get_or words 1 [] ≡ decimal n → ⊥) → IsNoLaunch table g words
  no_cycle never l is are = never l.cycle (the_one l are).0 (ap (λ (ws : Words). get_or ws 1 []) is)

  pub nowhere : IsNoDestination g words → IsNoLaunch table g words
  nowhere never l is are = never l.to (ap (λ (ws : Words). drop 4 ws) is) (the_one l are).4
