-- A tournament with one player replaced, with all nodes played, and who stands at its top.
use Rattle.std.proofs.Common.{◌≡◌, ◌≢◌, ℕ, ◌+◌, ◌-◌, ◌*◌, ◌/◌, ◌<◌, ◌≤◌, List, length, drop, set, refl, sym, ap, ◌∙◌, subst, arith, inl, inr, zero, suc}
use Rattle.std.proofs.lemmas.Bool.{cases_eq, cases_lt}
use Rattle.std.proofs.lemmas.List.{get_or-set_same, get_or-set_other, get_or-drop, length-drop}
use Rattle.sat_core.specs.declared.tournament.Player.{Player}
use Rattle.sat_core.specs.Tournament.{nobody, no_player, player_at, IsNoBetter, IsWinner, ArePlayed, IsTournament, IsBest, IsOver}

-- one node replaced: the winner of a node that is neither it nor above it
pub kept-winner : (xs : List Player) (n k : ℕ) (w : Player) → k ≢ n → 2 * k ≢ n → 2 * k + 1 ≢ n
    → IsWinner (player_at xs (2 * k)) (player_at xs (2 * k + 1)) (player_at xs k)
    → IsWinner (player_at (set xs n w) (2 * k)) (player_at (set xs n w) (2 * k + 1)) (player_at (set xs n w) k)
kept-winner xs n k w here left right h =
    let a : player_at (set xs n w) (2 * k) ≡ player_at xs (2 * k) = get_or-set_other xs n (2 * k) w no_player left in
    let b : player_at (set xs n w) (2 * k + 1) ≡ player_at xs (2 * k + 1) = get_or-set_other xs n (2 * k + 1) w no_player right in
    let c : player_at (set xs n w) k ≡ player_at xs k = get_or-set_other xs n k w no_player here in
    subst (λ (p : Player). IsWinner p (player_at (set xs n w) (2 * k + 1)) (player_at (set xs n w) k)) (sym a)
    (subst (λ (p : Player). IsWinner (player_at xs (2 * k)) p (player_at (set xs n w) k)) (sym b)
    (subst (λ (p : Player). IsWinner (player_at xs (2 * k)) (player_at xs (2 * k + 1)) p) (sym c) h))

-- the node's own winner, put there
pub put-winner : (xs : List Player) (n : ℕ) (w : Player) → 1 ≤ n → n < length xs
    → IsWinner (player_at xs (2 * n)) (player_at xs (2 * n + 1)) w
    → IsWinner (player_at (set xs n w) (2 * n)) (player_at (set xs n w) (2 * n + 1)) (player_at (set xs n w) n)
put-winner xs n w low few h =
    let left : 2 * n ≢ n = omega arith in
    let right : 2 * n + 1 ≢ n = omega arith in
    let a : player_at (set xs n w) (2 * n) ≡ player_at xs (2 * n) = get_or-set_other xs n (2 * n) w no_player left in
    let b : player_at (set xs n w) (2 * n + 1) ≡ player_at xs (2 * n + 1) = get_or-set_other xs n (2 * n + 1) w no_player right in
    let c : player_at (set xs n w) n ≡ w = get_or-set_same xs n w no_player few in
    subst (λ (p : Player). IsWinner p (player_at (set xs n w) (2 * n + 1)) (player_at (set xs n w) n)) (sym a)
    (subst (λ (p : Player). IsWinner (player_at xs (2 * n)) p (player_at (set xs n w) n)) (sym b)
    (subst (λ (p : Player). IsWinner (player_at xs (2 * n)) (player_at xs (2 * n + 1)) p) (sym c) h))

-- a leaf replaced: the node above it is to be played
pub play-leaf : (leaves n q : ℕ) (xs : List Player) (w : Player) → leaves ≤ n → q ≡ n / 2 → ArePlayed 1 0 leaves xs → ArePlayed 1 q leaves (set xs n w)
play-leaf leaves n q xs w leaf half h k low few but =
    kept-winner xs n k w (omega arith) (omega arith) (omega arith) (h k low few (omega arith))

-- a node played: the one above it is to be played
pub play-on : (leaves n q : ℕ) (xs : List Player) (w : Player) → 1 ≤ n → n < leaves → length xs ≡ 2 * leaves → q ≡ n / 2
    → IsWinner (player_at xs (2 * n)) (player_at xs (2 * n + 1)) w → ArePlayed 1 n leaves xs → ArePlayed 1 q leaves (set xs n w)
play-on leaves n q xs w low below size half win h k low' few but =
    elim (cases_eq k n) [
      | inl same ↦
          subst (λ (j : ℕ). IsWinner (player_at (set xs n w) (2 * j)) (player_at (set xs n w) (2 * j + 1)) (player_at (set xs n w) j)) (sym same)
          (put-winner xs n w low (omega arith) win)
      | inr other ↦ kept-winner xs n k w other (omega arith) (omega arith) (h k low' few other)
    ]

-- a node that stays: nothing more is to be played
pub play-stop : (leaves n : ℕ) (xs : List Player) (w : Player) → w ≡ player_at xs n
    → IsWinner (player_at xs (2 * n)) (player_at xs (2 * n + 1)) w → ArePlayed 1 n leaves xs → ArePlayed 1 0 leaves xs
play-stop leaves n xs w is win h k low few but =
    elim (cases_eq k n) [
      | inl same ↦
          subst (λ (j : ℕ). IsWinner (player_at xs (2 * j)) (player_at xs (2 * j + 1)) (player_at xs j)) (sym same)
          (subst (λ (p : Player). IsWinner (player_at xs (2 * n)) (player_at xs (2 * n + 1)) p) is win)
      | inr other ↦ h k low few other
    ]

-- the top was played
pub play-top : (leaves n : ℕ) (xs : List Player) → n ≤ 1 → ArePlayed 1 (n / 2) leaves xs → ArePlayed 1 0 leaves xs
play-top leaves n xs top h k low few but = h k low few (omega arith)

-- one node more, where all nodes are played in turn
pub play-more : (leaves n : ℕ) (xs : List Player) (w : Player) → 1 ≤ n → n < leaves → length xs ≡ 2 * leaves
    → IsWinner (player_at xs (2 * n)) (player_at xs (2 * n + 1)) w → ArePlayed (n + 1) 0 leaves xs → ArePlayed n 0 leaves (set xs n w)
play-more leaves n xs w low below size win h k from few but =
    elim (cases_eq k n) [
      | inl same ↦
          subst (λ (j : ℕ). IsWinner (player_at (set xs n w) (2 * j)) (player_at (set xs n w) (2 * j + 1)) (player_at (set xs n w) j)) (sym same)
          (put-winner xs n w low (omega arith) win)
      | inr other ↦ kept-winner xs n k w other (omega arith) (omega arith) (h k (omega arith) few but)
    ]

pub nobetter-trans : (a b c : Player) → IsNoBetter a b → IsNoBetter b c → IsNoBetter a c
nobetter-trans a b c h i = elim h [
  | inl less ↦ elim i [ inl less' ↦ inl (omega arith) | inr (same, low) ↦ inl (omega arith) ]
  | inr (same, low) ↦ elim i [ inl less' ↦ inl (omega arith) | inr (same', low') ↦ inr ((omega arith), (omega arith)) ]
]

pub nobetter-self : (a : Player) → IsNoBetter a a
nobetter-self a = inr (refl, omega arith)

-- no node is better than the top
top-best : (fuel leaves : ℕ) (xs : List Player) → ArePlayed 1 0 leaves xs → (k : ℕ) → 1 ≤ k → k < 2 * leaves → k ≤ fuel → IsNoBetter (player_at xs k) (player_at xs 1)
top-best zero leaves xs h k low few fuel = absurd (omega arith)
top-best (suc n) leaves xs h k low few fuel =
    elim (cases_eq k 1) [
      | inl same ↦ subst (λ (j : ℕ). IsNoBetter (player_at xs j) (player_at xs 1)) (sym same) (nobetter-self (player_at xs 1))
      | inr more ↦
          (let p = k / 2 in
          let w = h p (omega arith) (omega arith) (omega arith) in
          let above = top-best n leaves xs h p (omega arith) (omega arith) (omega arith) in
          elim (cases_eq k (2 * p)) [
            | inl even ↦ subst (λ (j : ℕ). IsNoBetter (player_at xs j) (player_at xs 1)) (sym even) (nobetter-trans (player_at xs (2 * p)) (player_at xs p) (player_at xs 1) w.first above)
            | inr odd ↦
                (let is : k ≡ 2 * p + 1 = omega arith in
                subst (λ (j : ℕ). IsNoBetter (player_at xs j) (player_at xs 1)) (sym is) (nobetter-trans (player_at xs (2 * p + 1)) (player_at xs p) (player_at xs 1) w.second above))
          ])
    ]

-- each node has the player of a leaf
node-leaf : (fuel leaves : ℕ) (xs : List Player) → ArePlayed 1 0 leaves xs → (k : ℕ) → 1 ≤ k → k < 2 * leaves → 2 * leaves ≤ fuel + k → (j : ℕ) × (j < leaves) × (player_at xs k ≡ player_at xs (leaves + j))
node-leaf zero leaves xs h k low few fuel = absurd (omega arith)
node-leaf (suc n) leaves xs h k low few fuel =
    elim (cases_lt k leaves) [
      | inl below ↦
          (let w = h k low below (omega arith) in
          elim w.among [
            | inl left ↦ (let (j, few', is) = node-leaf n leaves xs h (2 * k) (omega arith) (omega arith) (omega arith) in (j, few', left ∙ is))
            | inr right ↦ (let (j, few', is) = node-leaf n leaves xs h (2 * k + 1) (omega arith) (omega arith) (omega arith) in (j, few', right ∙ is))
          ])
      | inr leaf ↦ (k - leaves, omega arith, ap (player_at xs) (omega arith))
    ]

-- the player of a variable is that of its leaf
pub leaf-player : (leaves : ℕ) (xs : List Player) (k : ℕ) → player_at (drop leaves xs) k ≡ player_at xs (leaves + k)
leaf-player leaves xs k = get_or-drop leaves xs k no_player

pub players-size : (leaves : ℕ) (xs : List Player) → length xs ≡ 2 * leaves → length (drop leaves xs) ≡ leaves
players-size leaves xs size = omega (arith, length-drop leaves xs)

-- **where nobody stands at the top, nobody plays**
pub over-top : (leaves : ℕ) (xs : List Player) → IsTournament leaves xs → player_at xs 1 ≡ nobody → IsOver (drop leaves xs)
over-top leaves xs h top k few =
    let size = players-size leaves xs h.size in
    let best = top-best (leaves + k) leaves xs h.played (leaves + k) (omega arith) (omega arith) (omega arith) in
    let worst : IsNoBetter (player_at (drop leaves xs) k) nobody =
    subst (λ (p : Player). IsNoBetter (player_at (drop leaves xs) k) p) top
    (subst (λ (p : Player). IsNoBetter p (player_at xs 1)) (sym (leaf-player leaves xs k)) best) in
    elim (h.own k few) [
      | inl none ↦ none
      | inr var ↦ (let limit = h.few in elim worst [ inl less ↦ absurd (omega arith) | inr (same, low) ↦ absurd (omega arith) ])
    ]

-- **the player at the top is the best**
pub best-top : (leaves : ℕ) (xs : List Player) → IsTournament leaves xs → 1 ≤ leaves → (player_at xs 1 ≡ nobody → ⊥) → IsBest (drop leaves xs) (player_at xs 1).var
best-top leaves xs h some top =
    let size = players-size leaves xs h.size in
    let (j, few, is) = node-leaf (2 * leaves) leaves xs h.played 1 (omega arith) (omega arith) (omega arith) in
    let here : player_at xs 1 ≡ player_at (drop leaves xs) j = is ∙ sym (leaf-player leaves xs j) in
    elim (h.own j (omega arith)) [
      | inl none ↦ absurd (top (here ∙ none))
      | inr var ↦
          (let x : (player_at xs 1).var ≡ j + 1 = ap (λ (p : Player). p.var) here ∙ var in
          let at : (player_at xs 1).var - 1 ≡ j = omega arith in
          let own : player_at (drop leaves xs) ((player_at xs 1).var - 1) ≡ player_at xs 1 = ap (player_at (drop leaves xs)) at ∙ sym here in
          record {
            above = omega arith;
            within = omega arith;
            plays = ap (λ (p : Player). p.var) own;
            best = λ k few'.
                subst (λ (p : Player). IsNoBetter (player_at (drop leaves xs) k) p) (sym own)
                (subst (λ (p : Player). IsNoBetter p (player_at xs 1)) (sym (leaf-player leaves xs k))
                (top-best (leaves + k) leaves xs h.played (leaves + k) (omega arith) (omega arith) (omega arith)));
          })
    ]
