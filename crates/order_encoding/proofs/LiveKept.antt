-- Without some launches the others hold no more registers.
use Rattle.std.proofs.Common.{◌≡◌, ℕ, ◌≤◌, Bool, true, false, not, List, refl, sym, ◌∙◌, arith, inl, inr, None}
use Rattle.std.specs.Prelude.{◌&&◌, nat_le, is_some}
use Rattle.std.specs.List.{count_by, filter, list_any}
use Rattle.std.proofs.lemmas.Bool.{false≢true, cases_Bool, and_parts, and_from, or_cases, or_left, or_right, not-true, not_from_false}
use Rattle.std.proofs.lemmas.List.Elements.{All-filter}
use Rattle.graph_meaning.specs.Graphs.{is_zero_class}
use Rattle.graph_meaning.specs.declared.graphs.LaunchGraph.{LaunchGraph}
use Rattle.schedule_meaning.specs.Launches.{class_at, writes_pin, HasInput, IsUnwritten}
use Rattle.schedule_meaning.specs.Lifetimes.{holds, is_needed, is_read_from, is_unpinned_of, is_wanted, reads_class}
use Rattle.schedule_meaning.specs.Readers.{input_where, is_intact}
use Rattle.schedule_meaning.specs.declared.schedules.Allocation.TheVariants.{Live}
use Rattle.schedule_meaning.specs.declared.schedules.Launch.{Launch}
use Rattle.schedule_meaning.proofs.Inputs.{has_input_is}
use Rattle.schedule_meaning.proofs.LiveRanges.{count_le, holds_takes, holds_cases, holds_own, holds_later}
use Rattle.cycle_encoding.proofs.MadeLists.{count_less}
use Rattle.cycle_encoding.proofs.Members.{filter-out, All-from_members}
use Rattle.cycle_encoding.proofs.Tests.{some_of, some_in}

module _ (g : LaunchGraph) (keep : Launch → Bool) (ls : List Launch) where
  abbrev kept : List Launch
  kept = filter keep ls

  read_less : (t c : ℕ) → is_read_from g kept t c ≡ true → is_read_from g ls t c ≡ true
  read_less t c h =
      let m = some_of (λ l. nat_le t l.cycle && reads_class g c l) kept h in
      some_in (λ l. nat_le t l.cycle && reads_class g c l) ls m.0 (filter-out keep ls m.0 m.1).0 m.2

  unwritten_less : (c : ℕ) → HasInput g c (IsUnwritten g ls) → HasInput g c (IsUnwritten g kept)
  unwritten_less c (n, i, lt, e, (same, all)) = (n, i, lt, e, (same, All-filter keep (λ m. ¬ (writes_pin g i.reg m ≡ true)) ls all))

  wanted_less : (c : ℕ) → is_wanted g kept c ≡ true → is_wanted g ls c ≡ true
  wanted_less c h =
      let found = is_some (input_where g (is_intact g kept None) c) in
      let was = is_some (input_where g (is_intact g ls None) c) in
      let p = and_parts (list_any (is_unpinned_of c) g.sets) (not (is_zero_class g c) && not found) h in
      let q = and_parts (not (is_zero_class g c)) (not found) p.1 in
      let none : was ≡ false = elim (cases_Bool was) [
        | inl y ↦ absurd (false≢true (sym (not-true found q.1) ∙ (has_input_is g kept None c found refl).1 (unwritten_less c ((has_input_is g ls None c was refl).0 y))))
        | inr n ↦ n
      ] in
      and_from (list_any (is_unpinned_of c) g.sets) (not (is_zero_class g c) && not was) p.0 (and_from (not (is_zero_class g c)) (not was) q.0 (not_from_false was none))

  needed_less : (t c : ℕ) → is_needed g kept t c ≡ true → is_needed g ls t c ≡ true
  needed_less t c h =
      elim (or_cases (is_read_from g kept t c) (is_wanted g kept c) h) [
        | inl r ↦ or_left (is_read_from g ls t c) (is_wanted g ls c) (read_less t c r)
        | inr w ↦ or_right (is_read_from g ls t c) (is_wanted g ls c) (wanted_less c w)
      ]

  pub held_less : (t : ℕ) (l : Launch) → holds g Live kept t l ≡ true → holds g Live ls t l ≡ true
  held_less t l h =
      let takes = holds_takes g kept Live t l h in
      elim (holds_cases g kept t l h) [
        | inl same ↦ holds_own g ls l t takes same
        | inr more ↦ holds_later g ls l t takes more.0 (needed_less t (class_at g l.row) more.1)
      ]

  pub holds_less : (t : ℕ) → count_by (holds g Live kept t) kept ≤ count_by (holds g Live ls t) ls
  holds_less t =
      let a = count_le (holds g Live kept t) (holds g Live ls t) kept (All-from_members (λ l. holds g Live kept t l ≡ true → holds g Live ls t l ≡ true) kept (λ l h. held_less t l)) in
      let b = count_less keep (holds g Live ls t) ls in
      omega arith
