-- Steps of the loop that numbers the classes of rows.
use Rattle.std.proofs.Common.{◌≡◌, ℕ, ◌+◌, ◌<◌, ◌≤◌, List, [], ◌∷◌, ◌++◌, length, get_or, set, take, refl, sym, ap, ◌∙◌, subst, inl, inr, arith, Contains}
use Rattle.std.proofs.lemmas.Bool.{cases_lt, cases_eq}
use Rattle.std.proofs.lemmas.List.{length_push, length-set, get_or-set_same, get_or-set_other, map_more, take_all}
use Rattle.word_ops.specs.declared.sorts.Op.{Op}
use Rattle.egraph.specs.Graph.{Graph}
use Rattle.egraph.specs.declared.rows.Row.{Row}
use Rattle.saturation.specs.Numbered.{AreClassNumbers, classes_of_rows, firsts, place_in, with_new}
use Rattle.saturation.proofs.Mapped.{contains_map}
use Rattle.saturation.proofs.Firsts.{IsIn, at_place, is_in, place_within, place_pushed, place_new, place_other, cases, firsts_push, all_there}

-- the classes of so many rows have numbers
pub record SoFar (g : Graph Op) (i : ℕ) (numbers seen : List ℕ) : Type 0 where
  pub seen_are : seen ≡ firsts (classes_of_rows (take i g.rows))
  pub size : length numbers ≡ length g.current
  pub each : (c : ℕ) → IsIn seen c → get_or numbers c 0 ≡ place_in seen c
  pub few : length seen ≤ i

pub none_yet : (g : Graph Op) (numbers : List ℕ) → length numbers ≡ length g.current → SoFar g 0 numbers []
none_yet g numbers size = record { seen_are = refl; size = size; each = λ c h. absurd (omega (arith, h)); few = omega arith }

module _ (g : Graph Op) (i : ℕ) (numbers seen : List ℕ) (so : SoFar g i numbers seen) (r : Row Op) (lt : i < length g.rows) (is : get_or g.rows i r ≡ r) where
  next : firsts (classes_of_rows (take (i + 1) g.rows)) ≡ with_new seen r.class
  next =
      ap firsts (map_more (λ (t : Row Op). t.class) g.rows i r lt)
      ∙ firsts_push (classes_of_rows (take i g.rows)) (get_or g.rows i r).class
      ∙ ap (λ (t : Row Op). with_new (firsts (classes_of_rows (take i g.rows))) t.class) is
      ∙ ap (λ ns. with_new ns r.class) (sym so.seen_are)

  -- the class had its number
  pub kept : (n : ℕ) → n < length seen → get_or seen n 0 ≡ r.class → SoFar g (i + 1) numbers seen
  kept n l e = record {
    seen_are = elim (cases seen r.class) [
      | inl k ↦ sym (next ∙ k.1)
      | inr k ↦ absurd (let m = is_in seen r.class n l e in omega (arith, m, k.0))
    ];
    size = so.size;
    each = so.each;
    few = omega (arith, so.few);
  }

  -- it had none, and has the next one now
  pub added : r.class < length g.current → ((get_or numbers r.class 0 < length seen) → (get_or seen (get_or numbers r.class 0) 0 ≡ r.class) → ⊥) → SoFar g (i + 1) (set numbers r.class (length seen)) (seen ++ r.class ∷ [])
  added made new =
      let none : IsIn seen r.class → ⊥ = λ h. new (let e = so.each r.class h in omega (arith, e, h)) (ap (λ n. get_or seen n 0) (so.each r.class h) ∙ at_place seen r.class h) in
      let w = place_within seen r.class in
      let at : place_in seen r.class ≡ length seen = elim (cases_lt (place_in seen r.class) (length seen)) [ inl b ↦ absurd (none b) | inr b ↦ omega arith ] in
      record {
        seen_are = elim (cases seen r.class) [ inl k ↦ absurd (none k.0) | inr k ↦ sym (next ∙ k.1) ];
        size = length-set numbers r.class (length seen) ∙ so.size;
        each = λ c h. elim (cases_eq c r.class) [
          | inl e ↦ rw (e, place_new seen r.class at) (get_or-set_same numbers r.class (length seen) 0 (omega (arith, so.size, made)))
          | inr d ↦
              (let p = place_within seen c in
              let there : IsIn seen c = elim (cases_lt (place_in seen c) (length seen)) [ inl b ↦ b | inr b ↦ absurd (let q = place_other seen r.class c (λ e. d (sym e)) (omega arith) in let l = length_push seen r.class in omega (arith, q, l, h)) ] in
              get_or-set_other numbers r.class c (length seen) 0 d ∙ so.each c there ∙ sym (place_pushed seen r.class c there))
        ];
        few = let l = length_push seen r.class in omega (arith, l, so.few);
      }

pub all_numbered : (g : Graph Op) (i : ℕ) (numbers seen : List ℕ) → SoFar g i numbers seen → length g.rows ≤ i → AreClassNumbers g numbers
all_numbered g i numbers seen so past =
    let are : seen ≡ firsts (classes_of_rows g.rows) = so.seen_are ∙ ap (λ rows. firsts (classes_of_rows rows)) (take_all i g.rows past) in
    record {
      size = so.size;
      each = λ c h.
          let there : IsIn (firsts (classes_of_rows g.rows)) c = all_there (classes_of_rows g.rows) c (subst (Contains (classes_of_rows g.rows)) h.is (contains_map (λ (t : Row Op). t.class) g.rows h.row h.there)) in
          so.each c (subst (λ ns. IsIn ns c) (sym are) there) ∙ ap (λ ns. place_in ns c) are;
    }
