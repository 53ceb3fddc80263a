-- The variable that a strategy picks: the best one that plays stands at the picked place of the list of free variables.
use Rattle.std.proofs.Common.{◌≡◌, ℕ, ◌+◌, ◌-◌, ◌^◌, ◌<◌, ◌≤◌, Bool, true, false, cond, ltb, List, [], ◌∷◌, ◌++◌, length, set, get_or, refl, sym, ap, ◌∙◌, subst, arith, inl, inr, zero, suc, None}
use Rattle.std.specs.Prelude.{is_none}
use Rattle.std.specs.List.{count_by}
use Rattle.std.proofs.lemmas.Bool.{cases_Bool, cases_eq, cases_lt, false≢true, lt-ltb}
use Rattle.std.proofs.lemmas.List.{get_or-map, length-map, get_or_append_left, get_or_push, length_push}
use Rattle.std.proofs.lemmas.List.Sums.{sum_by-set}
use Rattle.pick_rule.specs.declared.pick.Pick.TheVariants.{First, Last, Busy, Activity}
use Rattle.pick_rule.specs.Picks.{PicksPlace}
use Rattle.sat_core.specs.declared.decision.Decider.{Decider}
use Rattle.sat_core.specs.declared.tournament.Player.{Player}
use Rattle.sat_core.specs.declared.trail.Value.{Value}
use Rattle.sat_core.specs.declared.trail.Value.TheVariants.{Unassigned}
use Rattle.sat_core.specs.Steps.{is_unassigned, assignment_of}
use Rattle.sat_core.specs.Picks.{free_list, scores_of, own_player, AreFixed, Offers}
use Rattle.sat_core.specs.Tournament.{nobody, no_player, player_at, IsNoBetter, IsBest, IsOver}
use Rattle.sat_core.proofs.Picking.{free_to, free-more, free-keep, free-at}

-- whether it stands for a variable
abbrev pub is_player : Player → Bool
is_player p = ltb p.var (2 ^ 32 - 1)

abbrev pub player_count : List Player → ℕ
player_count players = count_by is_player players

-- a list that rises
abbrev pub AreRising : List ℕ → Type 0
AreRising xs = (i j d : ℕ) → i < j → j < length xs → get_or xs i d < get_or xs j d

-- the list of the free variables up to n rises, and ends at n
record IsListed (values : List Value) (n : ℕ) (xs : List ℕ) : Type 0 where
  rising : AreRising xs
  most : (i d : ℕ) → i < length xs → get_or xs i d ≤ n
  each : (x : ℕ) → 1 ≤ x → x ≤ n → assignment_of values x ≡ None → (i : ℕ) × (i < length xs) × ((d : ℕ) → get_or xs i d ≡ x)

listed-more : (values : List Value) (n : ℕ) (xs : List ℕ) → IsListed values n xs → IsListed values (n + 1) (xs ++ (n + 1) ∷ [])
listed-more values n xs h =
    let long = length_push xs (n + 1) in
    record {
      rising = λ i j d less few. elim (cases_lt j (length xs)) [
        | inl before ↦
            (let a = get_or_append_left xs ((n + 1) ∷ []) d i (omega arith) in
            let b = get_or_append_left xs ((n + 1) ∷ []) d j before in
            let r = h.rising i j d less before in omega arith)
        | inr last ↦
            (let here : length xs ≡ j = omega arith in
            let a = get_or_append_left xs ((n + 1) ∷ []) d i (omega arith) in
            let b = get_or_push xs (n + 1) d j here in
            let r = h.most i d (omega arith) in omega arith)
      ];
      most = λ i d few. elim (cases_lt i (length xs)) [
        | inl before ↦ (let a = get_or_append_left xs ((n + 1) ∷ []) d i before in let r = h.most i d before in omega arith)
        | inr last ↦ (let here : length xs ≡ i = omega arith in let a = get_or_push xs (n + 1) d i here in omega arith)
      ];
      each = λ x low high free. elim (cases_eq x (n + 1)) [
        | inl same ↦ (length xs, omega arith, λ d. get_or_push xs (n + 1) d (length xs) refl ∙ sym same)
        | inr other ↦
            (let (i, few, is) = h.each x low (omega arith) free in
            (i, omega arith, λ d. get_or_append_left xs ((n + 1) ∷ []) d i few ∙ is d))
      ];
    }

listed-keep : (values : List Value) (n : ℕ) (xs : List ℕ) → (assignment_of values (n + 1) ≡ None → ⊥) → IsListed values n xs → IsListed values (n + 1) xs
listed-keep values n xs taken h =
    record {
      rising = h.rising;
      most = λ i d few. (let r = h.most i d few in omega arith);
      each = λ x low high free. elim (cases_eq x (n + 1)) [
        | inl same ↦ absurd (taken (subst (λ (y : ℕ). assignment_of values y ≡ None) same free))
        | inr other ↦ h.each x low (omega arith) free
      ];
    }

taken-some : (values : List Value) (n : ℕ) → is_unassigned (get_or values n Unassigned) ≡ false → assignment_of values (n + 1) ≡ None → ⊥
unfolding assignment_of
taken-some values n taken free =
    let at : n + 1 - 1 ≡ n = omega arith in
    let yes : is_unassigned (get_or values (n + 1 - 1) Unassigned) ≡ true = ap is_none free in
    false≢true (sym taken ∙ sym (ap (λ (i : ℕ). is_unassigned (get_or values i Unassigned)) at) ∙ yes)

listed : (values : List Value) (n : ℕ) → IsListed values n (free_to values n)
listed values zero = record {
  rising = λ i j d less few. absurd (omega (arith, few));
  most = λ i d few. absurd (omega (arith, few));
  each = λ x low high free. absurd (omega arith);
}
listed values (suc n) =
    subst (λ (m : ℕ). IsListed values m (free_to values m)) (omega arith)
    (elim (cases_Bool (is_unassigned (get_or values n Unassigned))) as (λ w. IsListed values (n + 1) (free_to values (n + 1))) [
      | inl free ↦ subst (IsListed values (n + 1)) (free-more values n free) (listed-more values n (free_to values n) (listed values n))
      | inr taken ↦ subst (IsListed values (n + 1)) (free-keep values n taken) (listed-keep values n (free_to values n) (taken-some values n taken) (listed values n))
    ])

-- **one player fewer**
pub fewer-players : (players : List Player) (x : ℕ) → length players < 2 ^ 29 → IsBest players x → player_count (set players (x - 1) nobody) < player_count players
fewer-players players x few best =
    let low = best.above in
    let high = best.within in
    let e : player_count (set players (x - 1) nobody) + cond {A = ℕ} (is_player (player_at players (x - 1))) 1 0 ≡ player_count players + 0 =
    sum_by-set (λ (p : Player). cond {A = ℕ} (is_player p) 1 0) players (x - 1) nobody no_player (omega arith) in
    let one : cond {A = ℕ} (is_player (player_at players (x - 1))) 1 0 ≡ 1 =
    ap (λ (b : Bool). cond {A = ℕ} b 1 0) (ap (λ (v : ℕ). ltb v (2 ^ 32 - 1)) best.plays ∙ lt-ltb x (2 ^ 32 - 1) (omega arith)) in
    omega arith

-- a free variable of the list, against the best one
none-better : (values : List Value) (d : Decider) (x place e : ℕ) → Offers values d → IsBest d.tournament x → assignment_of values x ≡ None → place < length (free_list values)
    → IsNoBetter (own_player d.scores.items (get_or (free_list values) place e)) (own_player d.scores.items x)
none-better values d x place e h best free few =
    let (low, high, free') = free-at values place e few in
    let y = get_or (free_list values) place e in
    let size = h.players in
    let at = best.above in
    let within = best.within in
    subst (λ (p : Player). IsNoBetter p (own_player d.scores.items x)) (h.free y low high free')
    (subst (λ (p : Player). IsNoBetter (player_at d.tournament (y - 1)) p) (h.free x at (omega arith) free)
    (best.best (y - 1) (omega arith)))

-- **what a decider picks is the strategy's place**
pub record IsChoice (values : List Value) (d : Decider) (x : ℕ) : Type 0 where
  pub place : ℕ
  pub within : place < length (free_list values)
  pub is : get_or (free_list values) place 0 ≡ x
  pub picked : PicksPlace d.pick (scores_of d.scores.items values) place

pub best-choice : (values : List Value) (d : Decider) (x : ℕ) → Offers values d → IsBest d.tournament x → assignment_of values x ≡ None → IsChoice values d x
best-choice values d x h best free =
    let n = length values in
    let xs = free_list values in
    let l : IsListed values n xs = listed values n in
    let low = best.above in
    let players = h.players in
    let within = best.within in
    let (place, few, is) = l.each x low (omega arith) free in
    let here : get_or xs place 0 ≡ x = is 0 in
    let scores = scores_of d.scores.items values in
    let long : length scores ≡ length xs = length-map xs (λ y. get_or d.scores.items (y - 1) 0) in
    let score : (k : ℕ) → k < length xs → get_or scores k 0 ≡ get_or d.scores.items (get_or xs k 0 - 1) 0 =
    λ k few'. get_or-map (λ y. get_or d.scores.items (y - 1) 0) xs k 0 0 few' in
    let mine : get_or scores place 0 ≡ get_or d.scores.items (x - 1) 0 = score place few ∙ ap (λ (y : ℕ). get_or d.scores.items (y - 1) 0) here in
    let worse : (k : ℕ) → k < length xs → IsNoBetter (own_player d.scores.items (get_or xs k 0)) (own_player d.scores.items x) =
    λ k few'. none-better values d x k 0 h best free few' in
    record {
      place = place;
      within = few;
      is = here;
      picked = elim d.pick as (λ p. AreFixed p d.scores.items → PicksPlace p scores place) [
        | First ↦ λ fixed. elim (cases_eq place 0) [
          | inl first ↦ first
          | inr later ↦
              (let rise = l.rising 0 place 0 (omega arith) few in
              let (low', high', free') = free-at values 0 0 (omega arith) in
              let size = h.scores in
              let a = fixed.first refl (get_or xs 0 0 - 1) (omega arith) in
              let b = fixed.first refl (x - 1) (omega arith) in
              elim (worse 0 (omega arith)) [ inl less ↦ absurd (omega arith) | inr (same, lower) ↦ absurd (omega arith) ])
        ]
        | Last ↦ λ fixed. elim (cases_lt (place + 1) (length xs)) [
          | inl more ↦
              (let rise = l.rising place (place + 1) 0 (omega arith) more in
              let (low', high', free') = free-at values (place + 1) 0 more in
              let size = h.scores in
              let a = fixed.last refl (get_or xs (place + 1) 0 - 1) (omega arith) in
              let b = fixed.last refl (x - 1) (omega arith) in
              elim (worse (place + 1) more) [ inl less ↦ absurd (omega arith) | inr (same, lower) ↦ absurd (omega arith) ])
          | inr end ↦ omega arith
        ]
        | Busy ↦ λ fixed. record {
          within = omega arith;
          most = λ k few'.
              (let at = score k (omega arith) in
              elim (worse k (omega arith)) [ inl less ↦ omega arith | inr (same, lower) ↦ omega arith ]);
          first = λ k before.
              (let at = score k (omega arith) in
              let rise = l.rising k place 0 before few in
              elim (worse k (omega arith)) [ inl less ↦ omega arith | inr (same, lower) ↦ absurd (omega arith) ]);
        }
        | Activity ↦ λ fixed. omega arith
      ] h.fixed;
    }

none-listed : (xs : List ℕ) → (0 < length xs → ⊥) → xs ≡ []
none-listed [] none = refl
none-listed (y ∷ ys) none = absurd (none (omega arith))

-- **where nobody plays, no variable is free**
pub over-none : (values : List Value) (d : Decider) → Offers values d → IsOver d.tournament → free_list values ≡ []
over-none values d h over =
    none-listed (free_list values) (λ some.
    (let (low, high, free) = free-at values 0 0 some in
    let y = get_or (free_list values) 0 0 in
    let players = h.players in
    let few = h.few in
    let none : nobody ≡ own_player d.scores.items y = sym (over (y - 1) (omega arith)) ∙ h.free y low high free in
    let var : 2 ^ 32 - 1 ≡ y = ap (λ (p : Player). p.var) none in
    omega arith))
