-- Marks on needed lines, hint by hint and line by line.
use Rattle.std.proofs.Common.{◌≡◌, ◌≢◌, ℕ, ◌+◌, ◌-◌, ◌<◌, ◌≤◌, ◌⊎◌, true, false, Bool, List, [], ◌∷◌, ◌++◌, take, set, length, get_or, replicate, refl, sym, ◌∙◌, subst, inl, inr, arith, Some}
use Rattle.std.specs.Prelude.{Contains, slice_get}
use Rattle.std.proofs.lemmas.Bool.{cases_eq, cases_lt, false≢true}
use Rattle.std.proofs.lemmas.List.{length-set, length-replicate, get_or-replicate, get_or_past, get_or-set_same, get_or-set_other, take_more}
use Rattle.std.proofs.lemmas.List.Elements.{All-contains, Contains-append_left, Contains-push, Contains-push_cases}
use Rattle.std.proofs.lemmas.Option.{slice_get-get_or, same_Some, slice_get_within}
use Rattle.cnf_core.specs.Formula.{Formula}
use Rattle.cnf_core.specs.Refutation.{AreAccepted, AreNames}
use Rattle.cnf_core.specs.declared.line.Line.{Line}
use Rattle.refute_trim.specs.Marks.{AreMarked, AreNeededMarks, IsMarkedAt}
use Rattle.refute_trim.specs.Needed.{IsNeeded, IsHintOf, last, hint}
use Rattle.refute_trim.proofs.Accepted.{hints_at, id_at}

-- ---- the hints of one line

pub marked_none : (n : ℕ) (old : List Bool) → AreMarked n [] old old
marked_none n old = record {
  size = refl;
  each = λ j l. ((λ is. inl is), (λ says. elim says [ inl is ↦ is | inr c ↦ absurd (let m = c.1 in omega (arith, m)) ]));
}

marked_push : (n : ℕ) (hints : List ℕ) (h p : ℕ) (old now : List Bool) → AreMarked n hints old now → h ≡ n + p + 1 → p < length old → AreMarked n (hints ++ h ∷ []) old (set now p true)
marked_push n hints h p old now m e l = record { size = length-set now p true ∙ m.size; each = λ j k. (forth j k, back j k) }
  where
    inside : p < length now
    inside = let s = m.size in omega (arith, s, l)

    forth : (j : ℕ) → j < length old → IsMarkedAt (set now p true) j → IsMarkedAt old j ⊎ Contains (hints ++ h ∷ []) (n + j + 1)
    forth j k is = elim (cases_eq j p) [
      | inl same ↦ (let this : h ≡ n + j + 1 = omega (arith, e, same) in inr (subst (Contains (hints ++ h ∷ [])) this (Contains-push hints h)))
      | inr other ↦ elim ((m.each j k).0 (sym (get_or-set_other now p j true false other) ∙ is)) [
        | inl was ↦ inl was
        | inr c ↦ inr (Contains-append_left hints (h ∷ []) (n + j + 1) c)
      ]
    ]

    before : (j : ℕ) → j < length old → j ≢ p → IsMarkedAt old j ⊎ Contains (hints ++ h ∷ []) (n + j + 1) → IsMarkedAt now j
    before j k other (inl was) = (m.each j k).1 (inl was)
    before j k other (inr c) = elim (Contains-push_cases hints h (n + j + 1) c) [
      | inl among ↦ (m.each j k).1 (inr among)
      | inr this ↦ absurd (other (omega (arith, e, this)))
    ]

    back : (j : ℕ) → j < length old → IsMarkedAt old j ⊎ Contains (hints ++ h ∷ []) (n + j + 1) → IsMarkedAt (set now p true) j
    back j k says = elim (cases_eq j p) [
      | inl same ↦ subst (λ i. IsMarkedAt (set now p true) i) (sym same) (get_or-set_same now p true false inside)
      | inr other ↦ get_or-set_other now p j true false other ∙ before j k other says
    ]

clause_push : (n : ℕ) (hints : List ℕ) (h : ℕ) (old now : List Bool) → AreMarked n hints old now → h ≤ n → AreMarked n (hints ++ h ∷ []) old now
clause_push n hints h old now m low = record {
  size = m.size;
  each = λ j k. (
    (λ is. elim ((m.each j k).0 is) [ inl was ↦ inl was | inr c ↦ inr (Contains-append_left hints (h ∷ []) (n + j + 1) c) ]),
    (λ says. (m.each j k).1 (elim says [
      | inl was ↦ inl was
      | inr c ↦ elim (Contains-push_cases hints h (n + j + 1) c) [ inl among ↦ inr among | inr this ↦ absurd (omega (arith, low, this)) ]
    ])),
  );
}

pub marked_more : (n : ℕ) (hints : List ℕ) (i d : ℕ) (old now : List Bool) → i < length hints → AreNames (n + length old) hints → AreMarked n (take i hints) old now → n < get_or hints i d → AreMarked n (take (i + 1) hints) old (set now (get_or hints i d - n - 1) true)
marked_more n hints i d old now l names m high =
    let h = get_or hints i d in
    let most = (names i d l).1 in
    subst (λ xs. AreMarked n xs old (set now (h - n - 1) true)) (sym (take_more hints i d l))
    (marked_push n (take i hints) h (h - n - 1) old now m (omega (arith, high)) (omega (arith, high, most)))

pub clause_more : (n : ℕ) (hints : List ℕ) (i d : ℕ) (old now : List Bool) → i < length hints → AreMarked n (take i hints) old now → get_or hints i d ≤ n → AreMarked n (take (i + 1) hints) old now
clause_more n hints i d old now l m low =
    subst (λ xs. AreMarked n xs old now) (sym (take_more hints i d l)) (clause_push n (take i hints) (get_or hints i d) old now m low)

-- ---- all lines

-- the lines from the last back have been visited, so many of them
pub record AreVisitedBack (lines : List Line) (done : ℕ) (marks : List Bool) : Type 0 where
  pub size : length marks ≡ length lines
  pub sound : (j : ℕ) → IsMarkedAt marks j → IsNeeded lines j
  pub final : IsMarkedAt marks (length lines - 1)
  pub closed : (j k : ℕ) → length lines ≤ k + done → IsMarkedAt marks k → IsHintOf lines j k → IsMarkedAt marks j

marked_within : (marks : List Bool) (k : ℕ) → IsMarkedAt marks k → k < length marks
marked_within marks k is = elim (cases_lt k (length marks)) [
  | inl l ↦ l
  | inr past ↦ absurd (false≢true (sym (get_or_past marks k false past) ∙ is))
]

pub visited_none : (lines : List Line) → 1 ≤ length lines → AreVisitedBack lines 0 (set (replicate (length lines) false) (length lines - 1) true)
visited_none lines some =
    let none = replicate (length lines) false in
    let end = length lines - 1 in
    let count : length none ≡ length lines = length-replicate (length lines) false in
    record {
      size = length-set none end true ∙ count;
      sound = λ j is. elim (cases_eq j end) [
        | inl same ↦ last (omega (arith, same, some))
        | inr other ↦ absurd (
            let was : IsMarkedAt none j = sym (get_or-set_other none end j true false other) ∙ is in
            let l = marked_within none j was in
            false≢true (sym (get_or-replicate (length lines) j false false (omega (arith, l, count))) ∙ was))
      ];
      final = get_or-set_same none end true false (omega (arith, count, some));
      closed = λ j k past is h. absurd (let l = slice_get_within lines k h.hinting h.hinting_there in omega (arith, past, l));
    }

module _ (f : Formula) (lines : List Line) (accepted : AreAccepted f lines) where
  -- a hint that has the number of line j is that line
  to_hint : (j at : ℕ) (line : Line) → j < length lines → slice_get lines at ≡ Some line → Contains line.hints (length f.clauses + j + 1) → IsHintOf lines j at
  to_hint j at line l there c =
      let other = get_or lines j line in
      let e = slice_get-get_or lines j line l in
      record { hinted = other; hinting = line; hinted_there = e; hinting_there = there; among = subst (Contains line.hints) (sym (id_at f lines accepted j other e)) c }

  from_hint : (j at : ℕ) (line : Line) → slice_get lines at ≡ Some line → IsHintOf lines j at → Contains line.hints (length f.clauses + j + 1)
  from_hint j at line there h =
      let same : h.hinting ≡ line = same_Some h.hinting line (sym h.hinting_there ∙ there) in
      subst (λ (l : Line). Contains l.hints (length f.clauses + j + 1)) same (subst (Contains h.hinting.hints) (id_at f lines accepted j h.hinted h.hinted_there) h.among)

  -- a marked line is visited
  pub visited_more : (done at : ℕ) (line : Line) (marks new : List Bool) → slice_get lines at ≡ Some line → at + done + 1 ≡ length lines → AreVisitedBack lines done marks → IsMarkedAt marks at → AreMarked (length f.clauses) line.hints marks new → AreVisitedBack lines (done + 1) new
  visited_more done at line marks new there place v is m = record {
    size = m.size ∙ v.size;
    sound = λ j marked. (
        let l : j < length marks = (let w = marked_within new j marked in let s = m.size in omega (arith, w, s)) in
        elim ((m.each j l).0 marked) [
          | inl was ↦ v.sound j was
          | inr c ↦ hint (v.sound at is) (to_hint j at line (let s = v.size in omega (arith, l, s)) there c)
        ]);
    final = kept (length lines - 1) v.final;
    closed = λ j k past marked h. elim (cases_lt at k) [
      | inl later ↦ kept j (v.closed j k (omega (arith, past, place, later)) (earlier k later marked) h)
      | inr le ↦ (
          let same : k ≡ at = omega (arith, le, past, place) in
          let h' : IsHintOf lines j at = subst (IsHintOf lines j) same h in
          let l = slice_get_within lines j h'.hinted h'.hinted_there in
          let s = v.size in
          (m.each j (omega (arith, l, s))).1 (inr (from_hint j at line there h')))
    ];
  }
    where
      kept : (j : ℕ) → IsMarkedAt marks j → IsMarkedAt new j
      kept j was = (m.each j (marked_within marks j was)).1 (inl was)

      -- later lines are no hints of this one
      earlier : (k : ℕ) → at < k → IsMarkedAt new k → IsMarkedAt marks k
      earlier k later marked =
          let l : k < length marks = (let w = marked_within new k marked in let s = m.size in omega (arith, w, s)) in
          elim ((m.each k l).0 marked) [
            | inl was ↦ was
            | inr c ↦ absurd (let low = (All-contains (λ h. (1 ≤ h) × (h ≤ length f.clauses + at)) line.hints (length f.clauses + k + 1) (hints_at f lines accepted at line there) c).1 in omega (arith, low, later))
          ]

  pub unmarked_more : (done at : ℕ) (marks : List Bool) → at + done + 1 ≡ length lines → AreVisitedBack lines done marks → get_or marks at false ≡ false → AreVisitedBack lines (done + 1) marks
  unmarked_more done at marks place v unmarked = record {
    size = v.size;
    sound = v.sound;
    final = v.final;
    closed = λ j k past marked h. elim (cases_lt at k) [
      | inl later ↦ v.closed j k (omega (arith, past, place, later)) marked h
      | inr le ↦ absurd (let same : k ≡ at = omega (arith, le, past, place) in false≢true (sym unmarked ∙ subst (IsMarkedAt marks) same marked))
    ];
  }

all_marked : (lines : List Line) (marks : List Bool) → AreVisitedBack lines (length lines) marks → (k : ℕ) → IsNeeded lines k → IsMarkedAt marks k
all_marked lines marks v k (last e) = let same : length lines - 1 ≡ k = omega (arith, e) in subst (IsMarkedAt marks) same v.final
all_marked lines marks v k (hint {j} {k = q} needed h) = v.closed k q (omega arith) (all_marked lines marks v q needed) h

pub visited_all : (lines : List Line) (marks : List Bool) → AreVisitedBack lines (length lines) marks → AreNeededMarks lines marks
visited_all lines marks v = (v.size, λ k. (v.sound k, all_marked lines marks v k))
