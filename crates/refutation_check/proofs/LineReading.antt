-- The words of a line: an id, literals, a zero, hints, a zero, and nothing more.
use Rattle.std.proofs.Common.{◌≡◌, ℕ, ◌+◌, ◌<◌, ◌≤◌, List, [], ◌∷◌, ◌++◌, length, map, drop, get_or, sym, ap, ◌∙◌, subst, refl, inl, inr, ◌⊎◌, arith, decimal}
use Rattle.std.proofs.lemmas.Bool.{cases_eq}
use Rattle.text_core.specs.Lines.{line_at}
use Rattle.text_core.specs.Lines.{Line as TextLine}
use Rattle.text_core.specs.declared.faults.TextFault.{TextFault}
use Rattle.text_core.specs.declared.faults.TextFault.TheVariants.{Fault, Memory}
use Rattle.std.specs.Prelude.{codes}
use Rattle.std.proofs.lemmas.List.{length-drop, length_push, get_or_push, get_or_append_left}
use Rattle.std.proofs.Math.Seq.{drop-cons}
use Rattle.std.proofs.Math.ListN.{drop_of_length-le}
use Rattle.cnf_core.specs.declared.line.Line.{Line}
use Rattle.cnf_core.specs.declared.literal.Lit.{Lit}
use Rattle.refutation_check.specs.LineWords.{IsSmall, IsId, IsIdLiteral, literal_word, IsLineOf, AreLinesAt, IsFirstBadLine, IsReadFault, IsBadLineAt, IsRun, IsNoRun}
use Rattle.refutation_check.proofs.Runs.{rest-same}
use Rattle.refutation_check.proofs.Wording.{id-not_zero, literal-not_zero}

pub line-read : (row : List (List ℕ)) (word d : List ℕ) (line : Line) (after end : ℕ) → 0 < length row → word ≡ get_or row 0 d → word ≡ decimal line.id → IsSmall line.id
    → IsRun literal_word IsIdLiteral row 1 line.lits after → IsRun decimal IsId row after line.hints end → length row ≤ end → IsLineOf row line
line-read row word d line after end few read is small lits hints all =
    record {
      words = drop-cons row 0 d few
          ∙ ap (λ (w : List ℕ). w ∷ drop 1 row) (sym read ∙ is)
          ∙ ap (λ (ws : List (List ℕ)). decimal line.id ∷ ws) lits.words
          ∙ ap (λ (ws : List (List ℕ)). decimal line.id ∷ (map literal_word line.lits ++ codes "0" ∷ ws)) (hints.words ∙ ap (λ (ws : List (List ℕ)). map decimal line.hints ++ codes "0" ∷ ws) (drop_of_length-le row all));
      readable = record { id = small; lits = lits.fine; hints = hints.fine };
    }

pub line-empty : (row : List (List ℕ)) (l : Line) → length row ≡ 0 → IsLineOf row l → ⊥
line-empty row l none h = (let size = ap length h.words in absurd (omega arith))

pub line-no_id : (row : List (List ℕ)) (word d : List ℕ) (l : Line) → word ≡ get_or row 0 d → ((n : ℕ) → IsSmall n → word ≡ decimal n → ⊥) → IsLineOf row l → ⊥
line-no_id row word d l read none h = none l.id h.readable.id (read ∙ ap (λ (ws : List (List ℕ)). get_or ws 0 d) h.words)

pub line-no_literals : (row : List (List ℕ)) (l : Line) → IsNoRun literal_word IsIdLiteral row 1 → IsLineOf row l → ⊥
line-no_literals row l none h = none l.lits (map decimal l.hints ++ codes "0" ∷ []) h.readable.lits (ap (λ (ws : List (List ℕ)). drop 1 ws) h.words)

-- what follows the literals
after-literals : (row : List (List ℕ)) (lits : List Lit) (l : Line) (after : ℕ) → IsRun literal_word IsIdLiteral row 1 lits after → IsLineOf row l → drop after row ≡ map decimal l.hints ++ codes "0" ∷ []
after-literals row lits l after a h =
    rest-same literal_word IsIdLiteral literal-not_zero lits l.lits (drop after row) (map decimal l.hints ++ codes "0" ∷ []) a.fine h.readable.lits (sym a.words ∙ ap (λ (ws : List (List ℕ)). drop 1 ws) h.words)

pub line-no_hints : (row : List (List ℕ)) (lits : List Lit) (l : Line) (after : ℕ) → IsRun literal_word IsIdLiteral row 1 lits after → IsNoRun decimal IsId row after → IsLineOf row l → ⊥
line-no_hints row lits l after a none h = none l.hints [] h.readable.hints (after-literals row lits l after a h)

pub line-more : (row : List (List ℕ)) (lits : List Lit) (hints : List ℕ) (l : Line) (after end : ℕ) → IsRun literal_word IsIdLiteral row 1 lits after → IsRun decimal IsId row after hints end → end < length row → IsLineOf row l → ⊥
line-more row lits hints l after end a b more h =
    let rest : drop end row ≡ [] = rest-same decimal IsId id-not_zero hints l.hints (drop end row) [] b.fine h.readable.hints (sym b.words ∙ after-literals row lits l after a h) in
    let size : length (drop end row) ≡ 0 = ap length rest in
    let left = length-drop end row in
    absurd (omega arith)

-- the first lines are read, and the next one is missing or bad
pub first-bad : (text : List TextLine) (from count done : ℕ) (lines : List Line) → done < count → AreLinesAt text from done lines
    → ((from + done ≡ length text) ⊎ ((from + done < length text) × ((line : Line) → IsLineOf (line_at text (from + done)).words line → ⊥))) → IsFirstBadLine text from count done
first-bad text from count done lines few h bad =
    let none : Line = record { id = 0; lits = []; hints = [] } in
    record {
      among = few;
      before = λ k less. (get_or lines k none, (h.each k none less).1);
      bad = bad;
    }

pub lines-none : (text : List TextLine) (from : ℕ) → AreLinesAt text from 0 []
lines-none text from = record { size = refl; each = λ k d less. absurd (omega arith) }

-- one more line
pub lines-more : (text : List TextLine) (from done : ℕ) (lines : List Line) (line : Line) → from + done < length text → IsLineOf (line_at text (from + done)).words line → AreLinesAt text from done lines → AreLinesAt text from (done + 1) (lines ++ line ∷ [])
lines-more text from done lines line few is h =
    let size = h.size in
    record {
      size = length_push lines line ∙ ap (λ (n : ℕ). n + 1) size;
      each = λ k d less. elim (cases_eq k done) [
        | inl same ↦
            (let at : get_or (lines ++ line ∷ []) k d ≡ line = get_or_push lines line d k (size ∙ sym same) in
            (omega arith, subst (λ (l : Line). IsLineOf (line_at text (from + k)).words l) (sym at) (subst (λ (n : ℕ). IsLineOf (line_at text (from + n)).words line) (sym same) is)))
        | inr other ↦
            (let before = h.each k d (omega arith) in
            (before.0, subst (λ (l : Line). IsLineOf (line_at text (from + k)).words l) (sym (get_or_append_left lines (line ∷ []) d k (omega arith))) before.1))
      ];
    }

-- so the fault is right
pub fault-from : (text : List TextLine) (from count done : ℕ) (lines : List Line) (e : TextFault) → IsBadLineAt text (from + done) e → done < count → AreLinesAt text from done lines
    → ((from + done ≡ length text) ⊎ ((from + done < length text) × ((line : Line) → IsLineOf (line_at text (from + done)).words line → ⊥))) → IsReadFault text from count e
fault-from text from count done lines (Fault fault) is few h bad = (done, first-bad text from count done lines few h bad, is)
fault-from text from count done lines Memory is few h bad = absurd is
