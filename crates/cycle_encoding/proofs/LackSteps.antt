-- What the launches of a row need from other launches, as tests and as lists.
use Rattle.std.proofs.Common.{◌≡◌, ℕ, Bool, true, false, cond, [], ◌∷◌, refl, sym, ap, subst, ◌∙◌, inl, inr}
use Rattle.std.specs.Prelude.{◌==◌, ◌&&◌, not, Contains}
use Rattle.std.specs.Option.{option_map_or}
use Rattle.std.proofs.lemmas.List.Elements.{Contains-append_left, Contains-append_right, Contains-append_cases}
use Rattle.std.specs.List.{filter}
use Rattle.std.proofs.lemmas.Bool.{false≢true, cases_Bool, and_parts, and_from, not-true, not_from_false, ne_eqb, eq-eqb}
use Rattle.schedule_meaning.specs.Launches.{instr_at, memory_class_at, operands_at}
use Rattle.schedule_meaning.specs.declared.schedules.Allocation.{Allocation}
use Rattle.schedule_meaning.specs.declared.schedules.Allocation.TheVariants.{Block, Live}
use Rattle.schedule_meaning.specs.declared.schedules.Operand.{Operand}
use Rattle.graph_meaning.specs.declared.graphs.LaunchGraph.{LaunchGraph}
use Rattle.cycle_encoding.specs.Families.{is_free}
use Rattle.cycle_encoding.specs.Coming.{memory_needs, start_needs}
use Rattle.cycle_encoding.specs.Counts.{row_is}
use Rattle.cycle_encoding.specs.Narrow.{Awaits, Lacks, accesses}
use Rattle.cycle_encoding.specs.Narrow.Awaits.{word, memory}
use Rattle.cycle_encoding.specs.Lacking.{IsThere, is_there, is_lacked, needs_of}
use Rattle.cycle_encoding.specs.declared.operands.There.{There}
use Rattle.cycle_encoding.specs.declared.operands.There.TheVariants.{AtEntry, Always}
use Rattle.cycle_encoding.proofs.Members.{here, either, nothing, filter-in, filter-out, map-in, map-out}
use Rattle.cycle_encoding.proofs.RowFacts.{test-some}
use Rattle.cycle_encoding.proofs.Tests.{free-is, free-from, input-is, input-from}
use Rattle.cycle_encoding.proofs.PinnedTests.{safe-is, safe-from}

there-is : (there : There) (g : LaunchGraph) (c : ℕ) → is_there there g c ≡ true → IsThere there g c
there-is AtEntry g c h = input-is g c h
there-is Always g c h = safe-is g c h

there-from : (there : There) (g : LaunchGraph) (c : ℕ) → IsThere there g c → is_there there g c ≡ true
there-from AtEntry g c h = input-from g c h
there-from Always g c h = safe-from g c h

module _ (there : There) (g : LaunchGraph) where
  -- an operand that is lacked is of one of the classes, and the other way round
  pub need-in : (row : ℕ) (o : Operand) → Lacks g (IsThere there g) row o → Contains (needs_of there g row) o.class
  need-in row o need =
      let free : is_free g o ≡ false = elim (cases_Bool (is_free g o)) [ inl t ↦ absurd (need.free (free-is g o t)) | inr f ↦ f ] in
      let is : is_there there g o.class ≡ false = elim (cases_Bool (is_there there g o.class)) [ inl t ↦ absurd (need.there (there-is there g o.class t)) | inr f ↦ f ] in
      let lacked : is_lacked there g o ≡ true = and_from (not (is_free g o)) (not (is_there there g o.class)) (not_from_false (is_free g o) free) (not_from_false (is_there there g o.class) is) in
      map-in (λ (o : Operand). o.class) (filter (is_lacked there g) (operands_at g row)) o (filter-in (is_lacked there g) (operands_at g row) o need.operand lacked)

  pub need-out : (row c : ℕ) → Contains (needs_of there g row) c → (o : Operand) × Lacks g (IsThere there g) row o × (o.class ≡ c)
  need-out row c h =
      let o = map-out (λ (o : Operand). o.class) (filter (is_lacked there g) (operands_at g row)) c h in
      let f = filter-out (is_lacked there g) (operands_at g row) o.0 o.1 in
      let p = and_parts (not (is_free g o.0)) (not (is_there there g o.0.class)) f.1 in
      (o.0, record { operand = f.0; free = λ x. false≢true (sym (not-true (is_free g o.0) p.0) ∙ free-from g o.0 x); there = λ x. false≢true (sym (not-true (is_there there g o.0.class) p.1) ∙ there-from there g o.0.class x) }, o.2)

-- ---- the classes that have to come before a launch can start

module _ (g : LaunchGraph) where
  memory-in : (a : Allocation) (row : ℕ) → a ≡ Live → row_is g accesses row ≡ true
      → ¬ (memory_class_at g row ≡ g.entry) → Contains (memory_needs g a row) (memory_class_at g row)
  memory-in Block row e h ne = absurd (different e)
    where
      different : Block ≡ Live → ⊥
      different e = cc
  memory-in Live row e h ne =
      let c = memory_class_at g row in
      let t : (row_is g accesses row && not (c == g.entry)) ≡ true =
      and_from (row_is g accesses row) (not (c == g.entry)) h (not_from_false (c == g.entry) (ne_eqb c g.entry ne)) in
      subst (λ b. Contains (cond b (c ∷ []) []) c) (sym t) (here c [])

  when_one : (b : Bool) (c d : ℕ) → Contains (cond b (c ∷ []) []) d → (b ≡ true) × (c ≡ d)
  when_one true c d h = elim (either c d [] h) [ inl e ↦ (refl, e) | inr n ↦ absurd (nothing d n) ]
  when_one false c d h = absurd (nothing d h)

  memory-out : (a : Allocation) (row class : ℕ) → Contains (memory_needs g a row) class → Awaits g a row class
  memory-out Block row class h = absurd (nothing class h)
  memory-out Live row class h =
      let c = memory_class_at g row in
      let w = when_one (row_is g accesses row && not (c == g.entry)) c class h in
      let p = and_parts (row_is g accesses row) (not (c == g.entry)) w.0 in
      let i = test-some (instr_at g row) accesses p.0 in
      subst (Awaits g Live row) w.1
      (memory i.0 refl i.1 i.2 (λ e. false≢true (sym (not-true (c == g.entry) p.1) ∙ eq-eqb c g.entry e)))

  pub await-in : (a : Allocation) (row class : ℕ) → Awaits g a row class → Contains (start_needs g a row) class
  await-in a row _ (word o need) =
      Contains-append_left (needs_of AtEntry g row) (memory_needs g a row) o.class (need-in AtEntry g row o need)
  await-in a row _ (memory i e at access ne) =
      Contains-append_right (needs_of AtEntry g row) (memory_needs g a row) (memory_class_at g row)
      (memory-in a row e (ap (λ o. option_map_or accesses o false) at ∙ access) ne)

  pub await-out : (a : Allocation) (row class : ℕ) → Contains (start_needs g a row) class → Awaits g a row class
  await-out a row class h =
      elim (Contains-append_cases (needs_of AtEntry g row) (memory_needs g a row) class h) [
        | inl w ↦ (let o = need-out AtEntry g row class w in subst (Awaits g a row) o.2 (word o.0 o.1))
        | inr m ↦ memory-out a row class m
      ]
