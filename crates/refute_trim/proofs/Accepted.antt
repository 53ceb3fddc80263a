-- Accepted lines: their ids, and which lines their hints are of.
use Rattle.std.proofs.Common.{◌≡◌, ℕ, ◌+◌, ◌<◌, ◌≤◌, List, take, length, get_or, subst, arith, Some}
use Rattle.std.specs.Prelude.{All, slice_get}
use Rattle.std.proofs.lemmas.List.{length-take}
use Rattle.std.proofs.lemmas.List.Elements.{All-contains}
use Rattle.std.proofs.lemmas.Option.{slice_get_within, get_or_from_slice_get, slice_get-get_or}
use Rattle.cnf_core.specs.Formula.{Formula}
use Rattle.cnf_core.specs.Refutation.{AreAccepted, IsAccepted}
use Rattle.cnf_core.specs.declared.line.Line.{Line}
use Rattle.refute_trim.specs.Marks.{HaveIdsBehind, IsWithinNumbers}
use Rattle.refute_trim.specs.Needed.{IsHintOf}

module _ (f : Formula) (lines : List Line) (accepted : AreAccepted f lines) where
  pub accepted_at : (k : ℕ) (line : Line) → slice_get lines k ≡ Some line → IsAccepted f (take k lines) line
  accepted_at k line e = subst (IsAccepted f (take k lines)) (get_or_from_slice_get lines k line line e) (accepted k line (slice_get_within lines k line e))

  pub earlier : (k : ℕ) (line : Line) → slice_get lines k ≡ Some line → length (take k lines) ≡ k
  earlier k line e = let l = slice_get_within lines k line e in let t = length-take k lines in omega (arith, l, t)

  pub id_at : (k : ℕ) (line : Line) → slice_get lines k ≡ Some line → line.id ≡ length f.clauses + k + 1
  id_at k line e =
      let num : line.id ≡ length f.clauses + length (take k lines) + 1 = (accepted_at k line e).numbered in
      let t = earlier k line e in
      omega (arith, num, t)

  pub hints_at : (k : ℕ) (line : Line) → slice_get lines k ≡ Some line → All (λ h. (1 ≤ h) × (h ≤ length f.clauses + k)) line.hints
  hints_at k line e = subst (λ m. All (λ h. (1 ≤ h) × (h ≤ length f.clauses + m)) line.hints) (earlier k line e) (accepted_at k line e).named.hints

  -- a hint is of an earlier line
  pub hint_earlier : (p q : ℕ) → IsHintOf lines p q → p < q
  hint_earlier p q h =
      let id = id_at p h.hinted h.hinted_there in
      let low = (All-contains (λ x. (1 ≤ x) × (x ≤ length f.clauses + q)) h.hinting.hints h.hinted.id (hints_at q h.hinting h.hinting_there) h.among).1 in
      omega (arith, id, low)

  pub ids : HaveIdsBehind (length f.clauses) lines
  ids k d l = id_at k (get_or lines k d) (slice_get-get_or lines k d l)

  pub within : All (IsWithinNumbers (length f.clauses + length lines)) lines
  within k d l =
      let line = get_or lines k d in
      let e = slice_get-get_or lines k d l in
      let id = id_at k line e in
      let hs = hints_at k line e in
      record {
        id = omega (arith, id, l);
        hints = λ i x m. (let high = (hs i x m).1 in omega (arith, high, l));
      }
