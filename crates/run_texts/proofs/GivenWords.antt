-- What registers and places hold where a program starts.
use Rattle.std.proofs.Common.{◌≡◌, ◌≢◌, ℕ, suc, ◌<◌, ◌/◌, List, [], ◌∷◌, length, get_or, refl, sym, ap, ◌∙◌, arith}
use Rattle.std.specs.Prelude.{All, AllPairs, fold, set, replicate}
use Rattle.std.specs.FinMap.{empty, get-empty}
use Rattle.std.specs.Option.{unwrap_or}
use Rattle.std.specs.Ordering.{nat_cmp}
use Rattle.std.proofs.lemmas.List.{get_or-set_same, get_or-set_other, length-set, get_or-replicate}
use Rattle.std.proofs.lemmas.List.Elements.{All-nil, All-cons, All-head, All-tail}
use Rattle.word_ops.specs.Memory.{Memory, word_at, put_word}
use Rattle.run_texts.specs.declared.texts.RegisterWord.{RegisterWord}
use Rattle.run_texts.specs.declared.texts.PlaceWord.{PlaceWord}
use Rattle.run_texts.specs.Reports.{start_registers, start_memory}

pairs_head : {X : Type 0} (R : X → X → Type 0) (x : X) (xs : List X) → AllPairs R (x ∷ xs) → All (R x) xs
pairs_head R x xs h k d lt = h 0 (suc k) d (omega arith) (omega arith)

pairs_tail : {X : Type 0} (R : X → X → Type 0) (x : X) (xs : List X) → AllPairs R (x ∷ xs) → AllPairs R xs
pairs_tail R x xs h i j d less lt = h (suc i) (suc j) d (omega arith) (omega arith)

-- ---- registers

abbrev Registers : List ℕ → List RegisterWord → List ℕ
Registers start given = fold (λ registers r. set registers r.register r.word) start given

other_register : (given : List RegisterWord) (start : List ℕ) (n : ℕ) → All (λ r. r.register ≢ n) given → get_or (Registers start given) n 0 ≡ get_or start n 0
other_register [] start n h = refl
other_register (r ∷ given) start n h =
    let apart : n ≢ r.register = λ e. All-head (λ (q : RegisterWord). q.register ≢ n) r given h (sym e) in
    other_register given (set start r.register r.word) n (All-tail (λ (q : RegisterWord). q.register ≢ n) r given h)
    ∙ get_or-set_other start r.register n r.word 0 apart

given_registers : (given : List RegisterWord) (start : List ℕ) → length start ≡ 32 → All (λ r. r.register < 31) given → AllPairs (λ r s. r.register ≢ s.register) given
    → All (λ r. get_or (Registers start given) r.register 0 ≡ r.word) given
given_registers [] start size low once = All-nil (λ (r : RegisterWord). get_or (Registers start []) r.register 0 ≡ r.word)
given_registers (r ∷ given) start size low once =
    let next : List ℕ = set start r.register r.word in
    let small : r.register < 31 = All-head (λ (q : RegisterWord). q.register < 31) r given low in
    let within : r.register < length start = omega arith in
    let differ : All (λ (s : RegisterWord). r.register ≢ s.register) given = pairs_head (λ (q s : RegisterWord). q.register ≢ s.register) r given once in
    let here : get_or (Registers next given) r.register 0 ≡ r.word =
    other_register given next r.register (λ k d lt e. differ k d lt (sym e)) ∙ get_or-set_same start r.register r.word 0 within in
    All-cons (λ (q : RegisterWord). get_or (Registers next given) q.register 0 ≡ q.word) r given here
    (given_registers given next (length-set start r.register r.word ∙ size) (All-tail (λ (q : RegisterWord). q.register < 31) r given low)
    (pairs_tail (λ (q s : RegisterWord). q.register ≢ s.register) r given once))

pub register_given : (given : List RegisterWord) → All (λ r. r.register < 31) given → AllPairs (λ r s. r.register ≢ s.register) given
    → All (λ r. get_or (start_registers given) r.register 0 ≡ r.word) given
register_given given low once = given_registers given (replicate 32 0) refl low once

pub register_not_given : (given : List RegisterWord) (n : ℕ) → n < 32 → All (λ r. r.register ≢ n) given → get_or (start_registers given) n 0 ≡ 0
register_not_given given n low h = other_register given (replicate 32 0) n h ∙ get_or-replicate 32 n 0 0 low

-- ---- places

abbrev Places : Memory → List PlaceWord → Memory
Places start given = fold (λ memory p. put_word memory (p.address / 8) p.word) start given

module _ (put : (m : Memory) (place v : ℕ) → word_at (put_word m place v) place ≡ v)
    (others : (m : Memory) (place v other : ℕ) → other ≢ place → word_at (put_word m place v) other ≡ word_at m other) where
  other_place : (given : List PlaceWord) (start : Memory) (place : ℕ) → All (λ p. p.address / 8 ≢ place) given → word_at (Places start given) place ≡ word_at start place
  other_place [] start place h = refl
  other_place (p ∷ given) start place h =
      let apart : place ≢ p.address / 8 = λ e. All-head (λ (q : PlaceWord). q.address / 8 ≢ place) p given h (sym e) in
      other_place given (put_word start (p.address / 8) p.word) place (All-tail (λ (q : PlaceWord). q.address / 8 ≢ place) p given h)
      ∙ others start (p.address / 8) p.word place apart

  given_places : (given : List PlaceWord) (start : Memory) → AllPairs (λ p q. p.address / 8 ≢ q.address / 8) given
      → All (λ p. word_at (Places start given) (p.address / 8) ≡ p.word) given
  given_places [] start once = All-nil (λ (p : PlaceWord). word_at (Places start []) (p.address / 8) ≡ p.word)
  given_places (p ∷ given) start once =
      let next : Memory = put_word start (p.address / 8) p.word in
      let differ : All (λ (q : PlaceWord). p.address / 8 ≢ q.address / 8) given = pairs_head (λ (a b : PlaceWord). a.address / 8 ≢ b.address / 8) p given once in
      let here : word_at (Places next given) (p.address / 8) ≡ p.word =
      other_place given next (p.address / 8) (λ k d lt e. differ k d lt (sym e)) ∙ put start (p.address / 8) p.word in
      All-cons (λ (q : PlaceWord). word_at (Places next given) (q.address / 8) ≡ q.word) p given here
      (given_places given next (pairs_tail (λ (a b : PlaceWord). a.address / 8 ≢ b.address / 8) p given once))

  pub place_given : (given : List PlaceWord) → AllPairs (λ p q. p.address / 8 ≢ q.address / 8) given → All (λ p. word_at (start_memory given) (p.address / 8) ≡ p.word) given
  place_given given once = given_places given empty once

  pub place_not_given : (given : List PlaceWord) (place : ℕ) → All (λ p. p.address / 8 ≢ place) given → word_at (start_memory given) place ≡ 0
  unfolding word_at
  place_not_given given place h = other_place given empty place h ∙ ap (λ o. unwrap_or o 0) (get-empty nat_cmp place)
