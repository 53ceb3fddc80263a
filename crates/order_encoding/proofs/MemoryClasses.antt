-- In a well-formed graph a class below the next number is a memory's where it is no word's.
use Rattle.std.proofs.Common.{◌≡◌, ℕ, zero, suc, ◌+◌, ◌<◌, ◌≤◌, Bool, true, false, not, List, ◌∷◌, [], length, take, get_or, Some, refl, sym, ap, ◌∙◌, subst, arith, inl, inr}
use Rattle.std.specs.Prelude.{◌&&◌, ◌==◌, slice_get, Contains}
use Rattle.std.proofs.lemmas.Bool.{cases_Bool, cases_lt, eq-eqb, eqb-true, and_from, false≢true, false_from_ne_true}
use Rattle.std.proofs.lemmas.List.{take_all}
use Rattle.std.proofs.lemmas.List.Elements.{Contains-get_or}
use Rattle.word_ops.specs.Meanings.{sort_of}
use Rattle.word_ops.specs.declared.sorts.Sort.{Sort}
use Rattle.word_ops.specs.declared.sorts.Sort.TheVariants as sort
use Rattle.graph_meaning.specs.WellFormed.{IsLaunchGraph, next_class}
use Rattle.graph_meaning.specs.declared.graphs.LaunchRow.{LaunchRow}
use Rattle.graph_meaning.specs.declared.graphs.LaunchGraph.{LaunchGraph}
use Rattle.cycle_encoding.specs.Variables.{is_word, is_word_class}
use Rattle.cycle_encoding.proofs.Tables.{next_more, get_some}
use Rattle.cycle_encoding.proofs.Tests.{some_of, some_in}
use Rattle.order_encoding.specs.OrderVariables.{is_memory_class}

word_is : (s : Sort) → is_word s ≡ true → s ≡ sort.Word
word_is sort.Word e = refl
word_is sort.Memory e = absurd (false≢true e)

memory_is : (s : Sort) → not (is_word s) ≡ true → s ≡ sort.Memory
memory_is sort.Word e = absurd (false≢true e)
memory_is sort.Memory e = refl

apart : sort.Word ≡ sort.Memory → ⊥
apart e = cc

and_parts : (a b : Bool) → (a && b) ≡ true → (a ≡ true) × (b ≡ true)
and_parts true b h = (refl, h)
and_parts false b h = absurd (false≢true h)

-- each class below the next number is that of a row
module _ (rows : List LaunchRow) (d : LaunchRow) (follow : (i : ℕ) (r : LaunchRow) → slice_get rows i ≡ Some r → r.class ≤ next_class (take i rows)) (c : ℕ) where
  present : (n : ℕ) → n ≤ length rows → c < next_class (take n rows) → (j : ℕ) × (j < length rows) × ((get_or rows j d).class ≡ c)
  present zero le lt = absurd (omega arith)
  present (suc n) le lt =
      let s : suc n ≡ n + 1 = omega arith in
      let more = ap (λ m. next_class (take m rows)) s ∙ next_more rows n d (omega arith) in
      let small = follow n (get_or rows n d) (get_some rows n d (omega arith)) in
      elim (cases_lt c (next_class (take n rows))) [
        | inl l ↦ present n (omega arith) l
        | inr l ↦ (n, omega arith, omega arith)
      ]

module _ (g : LaunchGraph) (well : IsLaunchGraph g) (c : ℕ) where
  not_both : is_word_class g c ≡ true → is_memory_class g c ≡ true → ⊥
  not_both w m =
      let a = some_of (λ (r : LaunchRow). r.class == c && is_word (sort_of r.op)) g.rows w in
      let b = some_of (λ (r : LaunchRow). r.class == c && not (is_word (sort_of r.op))) g.rows m in
      let p = and_parts ((a.0).class == c) (is_word (sort_of (a.0).op)) a.2 in
      let q = and_parts ((b.0).class == c) (not (is_word (sort_of (b.0).op))) b.2 in
      let at : slice_get g.rows (a.1.0) ≡ Some a.0 = get_some g.rows a.1.0 a.0 a.1.1 ∙ ap Some a.1.2 in
      let be : slice_get g.rows (b.1.0) ≡ Some b.0 = get_some g.rows b.1.0 b.0 b.1.1 ∙ ap Some b.1.2 in
      let same = well.sorts a.0 b.0 a.1.0 b.1.0 (at, be) (eqb-true (a.0).class c p.0 ∙ sym (eqb-true (b.0).class c q.0)) in
      apart (sym (word_is (sort_of (a.0).op) p.1) ∙ same ∙ memory_is (sort_of (b.0).op) q.1)

  one_of : (r : LaunchRow) → Contains g.rows r → r.class ≡ c → (b : Bool) → is_word (sort_of r.op) ≡ b → is_word_class g c ≡ false → is_memory_class g c ≡ true
  one_of r here e true w never = absurd (false≢true (sym never ∙ some_in (λ (r : LaunchRow). r.class == c && is_word (sort_of r.op)) g.rows r here (and_from (r.class == c) (is_word (sort_of r.op)) (eq-eqb r.class c e) w)))
  one_of r here e false w never = some_in (λ (r : LaunchRow). r.class == c && not (is_word (sort_of r.op))) g.rows r here (and_from (r.class == c) (not (is_word (sort_of r.op))) (eq-eqb r.class c e) (ap not w))

  some_row : (rows : List LaunchRow) → g.rows ≡ rows → c < next_class rows → LaunchRow
  some_row [] e lt = absurd (omega arith)
  some_row (r ∷ rows) e lt = r

  pub not_word : (b : Bool) → c < next_class g.rows → b ≡ not (is_word_class g c) → b ≡ is_memory_class g c
  not_word b lt e =
      let d = some_row g.rows refl lt in
      let all : take (length g.rows) g.rows ≡ g.rows = take_all (length g.rows) g.rows (omega arith) in
      let j = present g.rows d well.classes c (length g.rows) (omega arith) (subst (λ (rs : List LaunchRow). c < next_class rs) (sym all) lt) in
      e ∙ elim (cases_Bool (is_word_class g c)) [
        | inl w ↦ ap not w ∙ sym (false_from_ne_true (is_memory_class g c) (λ m. not_both w m))
        | inr n ↦ ap not n ∙ sym (one_of (get_or g.rows j.0 d) (Contains-get_or g.rows j.0 d j.1) j.2 (is_word (sort_of (get_or g.rows j.0 d).op)) refl n)
      ]
