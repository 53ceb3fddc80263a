-- Parts of lines that begin with what they print, one behind another.
use Rattle.std.proofs.Common.{ℕ, ◌+◌, List, ◌∷◌, ◌++◌, length, map, refl, sym, subst, arith}
use Rattle.text_core.specs.Lines.{Line}
use Rattle.text_core.specs.LineTexts.{Words}
use Rattle.answer_texts.specs.LineParts.{IsOneLine, AreLinesOf, Leads, Says}
use Rattle.answer_texts.proofs.PrintedRest.{IsRest, BeginsNot, ahead, all_ahead, not_begins}

-- the part stands from a line on, and behind it are these lines
pub record StandsBefore {X : Type 0} (lines : List Line) (behind : List Words) (Is : ℕ → ℕ → X → Type 0) (from : ℕ) (x : X)
    : Type 0 where
  pub next : ℕ
  pub is : Is from next x
  pub rest : IsRest lines next behind

module _ (lines : List Line) where
  pub says_stands : {X : Type 0} (behind : List Words) (from : ℕ) (value : X) → IsRest lines from behind
      → StandsBefore lines behind (Says value) from value
  says_stands behind from value a = record { next = from; is = record { stays = refl; is = refl }; rest = a }

  pub line_stands : {X : Type 0} (Is : Words → X → Type 0) (behind : List Words) (from : ℕ) (words : Words) (x : X) → Is words x
      → IsRest lines from (words ∷ behind) → StandsBefore lines behind (IsOneLine Is lines) from x
  line_stands Is behind from words x is a =
      let h = ahead lines from words behind a in
      record {
        next = from + 1;
        is = record { within = h.low; is = subst (λ ws. Is ws x) (sym h.here) is; behind = refl };
        rest = h.rest;
      }

  pub lines_stand : {X : Type 0} (first : List ℕ) (words_of : X → Words) (Fit : List X → Type 0) (behind : List Words)
      (from : ℕ) (xs : List X) → Fit xs → BeginsNot first behind → IsRest lines from (map words_of xs ++ behind)
      → StandsBefore lines behind (AreLinesOf first words_of Fit lines) from xs
  lines_stand first words_of Fit behind from xs fit never a =
      let h = all_ahead lines from (map words_of xs) behind a in
      let next : ℕ = from + length (map words_of xs) in
      record {
        next = next;
        is = record {
          so_far = record { order = omega arith; within = h.low; words = h.here; fit = fit };
          ends = not_begins lines first next behind h.rest never;
        };
        rest = h.rest;
      }

  pub leads_stands : {X Y : Type 0} (First : ℕ → ℕ → X → Type 0) (Second : X → ℕ → ℕ → Y → Type 0)
      (between behind : List Words) (from : ℕ) (x : X) (y : Y) → StandsBefore lines between First from x
      → ((middle : ℕ) → IsRest lines middle between → StandsBefore lines behind (Second x) middle y)
      → StandsBefore lines behind (Leads First Second) from y
  leads_stands First Second between behind from x y a then =
      let b = then a.next a.rest in
      record {
        next = b.next;
        is = record { middle = a.next; said = x; first = a.is; second = b.is };
        rest = b.rest;
      }
