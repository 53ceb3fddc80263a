-- Where launches go: the pins that tell it, each of which is that of one set.
use Rattle.std.proofs.Common.{◌≡◌, ◌⊎◌, ℕ, ◌<◌, ◌≤◌, List, [], length, get_or, inl, inr, refl, sym, ap, ◌∙◌, arith, decimal, Option, None, Some}
use Rattle.std.specs.Prelude.{IsSomeAnd, slice_get, option_and_then}
use Rattle.std.proofs.lemmas.Bool.{cases_lt}
use Rattle.std.proofs.lemmas.Fmt.{decimal_injective}
use Rattle.std.proofs.lemmas.Option.{none-some, slice_get-get_or, slice_get_past}
use Rattle.graph_meaning.specs.Graphs.{HaveOwnPins}
use Rattle.graph_meaning.specs.declared.graphs.LaunchGraph.{LaunchGraph}
use Rattle.graph_meaning.specs.declared.graphs.SetClass.{SetClass}
use Rattle.launch_graph.specs.GraphLines.{pin_words}
use Rattle.schedule_meaning.specs.Launches.{pin_of}
use Rattle.schedule_meaning.specs.declared.schedules.To.{To}
use Rattle.schedule_meaning.specs.declared.schedules.To.TheVariants.{Pool, Set}
use Rattle.answer_texts.specs.AnswerParts.{IsDestination}
use Rattle.answer_texts.proofs.PartsSame.{head_same}

-- the pin of a set by its number, where there is such a set
abbrev pub pin_at : List SetClass → ℕ → Option ℕ
pin_at sets j = option_and_then (λ (s : SetClass). s.pin) (slice_get sets j)

there_by : (sets : List SetClass) (j r : ℕ) (d : SetClass) → (j < length sets) ⊎ (length sets ≤ j) → pin_at sets j ≡ Some r
    → (j < length sets) × ((get_or sets j d).pin ≡ Some r)
there_by sets j r d (inl lt) e =
    (lt, sym (ap (λ (o : Option SetClass). option_and_then (λ (s : SetClass). s.pin) o) (slice_get-get_or sets j d lt)) ∙ e)
there_by sets j r d (inr past) e =
    absurd (none-some r
    (sym (ap (λ (o : Option SetClass). option_and_then (λ (s : SetClass). s.pin) o) (slice_get_past sets j past)) ∙ e))

-- a pin is that of a set that is there
pub set_there : (sets : List SetClass) (j r : ℕ) (d : SetClass) → pin_at sets j ≡ Some r
    → (j < length sets) × ((get_or sets j d).pin ≡ Some r)
set_there sets j r d e = there_by sets j r d (cases_lt j (length sets)) e

-- a pin has a word
some_word : (o : Option ℕ) → IsSomeAnd o (λ r. r < 31) → [] ≡ pin_words o → ⊥
some_word None low e = low
some_word (Some r) low e = cc

module _ (g : LaunchGraph) (own : HaveOwnPins g.sets) where
  one_set : (i j r : ℕ) → pin_of g (Set i) ≡ Some r → pin_of g (Set j) ≡ Some r → i ≡ j
  one_set i j r p q =
      let d : SetClass = record { name = []; class = 0; pin = None } in
      let a = set_there g.sets i r d p in
      let b = set_there g.sets j r d q in
      let before : ¬ (i < j) = λ lt. own i j d lt b.0 r a.1 b.1 in
      let behind : ¬ (j < i) = λ lt. own j i d lt a.0 r b.1 a.1 in
      omega (arith, before, behind)

  by_pins : (i j : ℕ) (o q : Option ℕ) → pin_of g (Set i) ≡ o → pin_of g (Set j) ≡ q → IsSomeAnd o (λ r. r < 31)
      → IsSomeAnd q (λ r. r < 31) → pin_words o ≡ pin_words q → i ≡ j
  by_pins i j None q e f low less same = absurd low
  by_pins i j (Some r) None e f low less same = absurd less
  by_pins i j (Some r) (Some t) e f low less same =
      let number : r ≡ t =
      decimal_injective r t (omega (arith, low)) (omega (arith, less)) (head_same (decimal r) (decimal t) [] [] same) in
      one_set i j t (e ∙ ap Some number) f

  -- the words of a pin are those of no other destination
  pub one_destination : (a b : To) → IsDestination g a → IsDestination g b
      → pin_words (pin_of g a) ≡ pin_words (pin_of g b) → a ≡ b
  one_destination Pool Pool p q e = refl
  one_destination Pool (Set j) p q e = absurd (some_word (pin_of g (Set j)) q.1 e)
  one_destination (Set i) Pool p q e = absurd (some_word (pin_of g (Set i)) p.1 (sym e))
  one_destination (Set i) (Set j) p q e =
      ap Set (by_pins i j (pin_of g (Set i)) (pin_of g (Set j)) refl refl p.1 q.1 e)
