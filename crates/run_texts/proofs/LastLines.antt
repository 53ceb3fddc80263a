-- What the last line of a program adds, and that lines are one program.
use Rattle.std.proofs.Common.{◌≡◌, ◌≢◌, ℕ, zero, suc, ◌<◌, ◌/◌, List, [], ◌∷◌, ◌++◌, length, map, get_or, refl, sym, ap, subst, ◌∙◌, append_assoc, append-nil, arith, inl, inr, ◌⊎◌, Some}
use Rattle.std.specs.Prelude.{All, slice_get}
use Rattle.std.specs.Str.Parse.{digits_value}
use Rattle.std.proofs.lemmas.List.{same_from_push, map_push, length_push, length-append, length-map, nil_from_length}
use Rattle.std.proofs.lemmas.Fmt.{decimal_injective}
use Rattle.word_ops.specs.Words.{IsWord}
use Rattle.text_core.specs.LineTexts.{Words}
use Rattle.alpha_machine.specs.Runs.{MayStandAt}
use Rattle.run_texts.specs.declared.texts.RegisterWord.{RegisterWord}
use Rattle.run_texts.specs.declared.texts.PlaceWord.{PlaceWord}
use Rattle.run_texts.specs.declared.texts.RunText.{RunText}
use Rattle.run_texts.specs.RunTexts.{IsRunText, IsHexWord, program_word_words, register_words, place_words}
use Rattle.run_texts.specs.LineReading.{IsWordLine, IsRegisterLine, IsPlaceLine}
use Rattle.run_texts.proofs.Lists.{snoc_view, never_empty, push_third, all_front, all_last, pairs_front, pairs_last, get_front, get_last}

abbrev pub made : List ℕ → List RegisterWord → List PlaceWord → RunText
made ws rs ps = record { words = ws; registers = rs; places = ps }

-- a program with one line behind it
pub data LastLine (count : ℕ) (lines : List Words) (line : Words) (ws : List ℕ) (rs : List RegisterWord) (ps : List PlaceWord) : Type 0 where
  word : (vs : List ℕ) (w : ℕ) → ws ≡ vs ++ w ∷ [] → rs ≡ [] → ps ≡ [] → IsWordLine line w → MayStandAt count (length vs) w
      → IsRunText count lines (made vs [] []) → LastLine count lines line ws rs ps
  register : (qs : List RegisterWord) (r : RegisterWord) → rs ≡ qs ++ r ∷ [] → ps ≡ [] → IsRegisterLine line r
      → All (λ q. q.register ≢ r.register) qs → IsRunText count lines (made ws qs []) → LastLine count lines line ws rs ps
  place : (qs : List PlaceWord) (p : PlaceWord) → ps ≡ qs ++ p ∷ [] → IsPlaceLine line p
      → All (λ q. q.address / 8 ≢ p.address / 8) qs → IsRunText count lines (made ws rs qs) → LastLine count lines line ws rs ps

module _ (count : ℕ) (lines : List Words) (line : Words) where
  last_place : (ws : List ℕ) (rs : List RegisterWord) (qs : List PlaceWord) (p : PlaceWord)
      → IsRunText count (lines ++ line ∷ []) (made ws rs (qs ++ p ∷ [])) → LastLine count lines line ws rs (qs ++ p ∷ [])
  last_place ws rs qs p h =
      let a : List Words = map program_word_words h.digits in
      let b : List Words = map register_words rs in
      let c : List Words = map place_words qs in
      let split : lines ++ line ∷ [] ≡ (a ++ (b ++ c)) ++ place_words p ∷ [] =
      h.is ∙ ap (λ l. a ++ (b ++ l)) (map_push place_words qs p) ∙ push_third a b c (place_words p) in
      let same : (lines ≡ a ++ (b ++ c)) × (line ≡ place_words p) = same_from_push lines (a ++ (b ++ c)) line (place_words p) split in
      let fits : IsWord p.address × IsWord p.word = all_last (λ (q : PlaceWord). IsWord q.address × IsWord q.word) qs p h.places.each in
      place qs p refl (record { address = fits.0; word = fits.1; is = same.1 })
      (pairs_last (λ (q r : PlaceWord). q.address / 8 ≢ r.address / 8) qs p h.places.once)
      (record {
        digits = h.digits;
        is = same.0;
        hex = h.hex;
        words = h.words;
        stand = h.stand;
        registers = h.registers;
        places = record {
          each = all_front (λ (q : PlaceWord). IsWord q.address × IsWord q.word) qs p h.places.each;
          once = pairs_front (λ (q r : PlaceWord). q.address / 8 ≢ r.address / 8) qs p h.places.once;
        };
      })

  last_register : (ws : List ℕ) (qs : List RegisterWord) (r : RegisterWord)
      → IsRunText count (lines ++ line ∷ []) (made ws (qs ++ r ∷ []) []) → LastLine count lines line ws (qs ++ r ∷ []) []
  last_register ws qs r h =
      let a : List Words = map program_word_words h.digits in
      let b : List Words = map register_words qs in
      let split : lines ++ line ∷ [] ≡ (a ++ b) ++ register_words r ∷ [] =
      h.is ∙ ap (λ l. a ++ l) (append-nil (map register_words (qs ++ r ∷ [])) ∙ map_push register_words qs r)
      ∙ sym (append_assoc a b (register_words r ∷ [])) in
      let same : (lines ≡ a ++ b) × (line ≡ register_words r) = same_from_push lines (a ++ b) line (register_words r) split in
      let fits : (r.register < 31) × IsWord r.word = all_last (λ (q : RegisterWord). (q.register < 31) × IsWord q.word) qs r h.registers.each in
      register qs r refl refl (record { low = fits.0; small = fits.1; is = same.1 })
      (pairs_last (λ (q s : RegisterWord). q.register ≢ s.register) qs r h.registers.once)
      (record {
        digits = h.digits;
        is = same.0 ∙ ap (λ l. a ++ l) (sym (append-nil b));
        hex = h.hex;
        words = h.words;
        stand = h.stand;
        registers = record {
          each = all_front (λ (q : RegisterWord). (q.register < 31) × IsWord q.word) qs r h.registers.each;
          once = pairs_front (λ (q s : RegisterWord). q.register ≢ s.register) qs r h.registers.once;
        };
        places = h.places;
      })

  last_word : (ws : List ℕ) → IsRunText count (lines ++ line ∷ []) (made ws [] []) → LastLine count lines line ws [] []
  last_word ws h = by_digits (snoc_view h.digits)
    where
      by_digits : (h.digits ≡ []) ⊎ ((ds : List (List ℕ)) × (d : List ℕ) × (h.digits ≡ ds ++ d ∷ [])) → LastLine count lines line ws [] []
      by_digits (inl e) = absurd (never_empty lines line (h.is ∙ append-nil (map program_word_words h.digits) ∙ ap (map program_word_words) e))
      by_digits (inr v) =
          let ds : List (List ℕ) = v.0 in
          let d : List ℕ = v.1 in
          let a : List Words = map program_word_words ds in
          let vs : List ℕ = map (digits_value 16) ds in
          let w : ℕ = digits_value 16 d in
          let split : lines ++ line ∷ [] ≡ a ++ program_word_words d ∷ [] =
          h.is ∙ append-nil (map program_word_words h.digits) ∙ ap (map program_word_words) v.2 ∙ map_push program_word_words ds d in
          let same : (lines ≡ a) × (line ≡ program_word_words d) = same_from_push lines a line (program_word_words d) split in
          let hex : All IsHexWord (ds ++ d ∷ []) = subst (All IsHexWord) v.2 h.hex in
          let values : ws ≡ vs ++ w ∷ [] = h.words ∙ ap (map (digits_value 16)) v.2 ∙ map_push (digits_value 16) ds d in
          word vs w values refl refl (record { digits = d; is = same.1; hex = all_last IsHexWord ds d hex; value = refl })
          (h.stand (length vs) w (subst (λ l. slice_get l (length vs) ≡ Some w) (sym values) (get_last vs w)))
          (record {
            digits = ds;
            is = same.0 ∙ sym (append-nil a);
            hex = all_front IsHexWord ds d hex;
            words = refl;
            stand = λ at v' there. h.stand at v' (subst (λ l. slice_get l at ≡ Some v') (sym values) (get_front vs w at v' there));
            registers = h.registers;
            places = h.places;
          })

  pub last_line : (ws : List ℕ) (rs : List RegisterWord) (ps : List PlaceWord) → IsRunText count (lines ++ line ∷ []) (made ws rs ps) → LastLine count lines line ws rs ps
  last_line ws rs ps h = by_places (snoc_view ps)
    where
      by_registers : (ps ≡ []) → (rs ≡ []) ⊎ ((qs : List RegisterWord) × (r : RegisterWord) × (rs ≡ qs ++ r ∷ [])) → LastLine count lines line ws rs ps
      by_registers none (inl e) =
          let P : List RegisterWord → List PlaceWord → Type 0 = λ xs ys. LastLine count lines line ws xs ys in
          subst (λ xs. P xs ps) (sym e) (subst (λ ys. P [] ys) (sym none)
          (last_word ws (subst (λ xs. IsRunText count (lines ++ line ∷ []) (made ws xs [])) e (subst (λ ys. IsRunText count (lines ++ line ∷ []) (made ws rs ys)) none h))))
      by_registers none (inr v) =
          let P : List RegisterWord → List PlaceWord → Type 0 = λ xs ys. LastLine count lines line ws xs ys in
          subst (λ xs. P xs ps) (sym v.2) (subst (λ ys. P (v.0 ++ v.1 ∷ []) ys) (sym none)
          (last_register ws v.0 v.1 (subst (λ xs. IsRunText count (lines ++ line ∷ []) (made ws xs [])) v.2 (subst (λ ys. IsRunText count (lines ++ line ∷ []) (made ws rs ys)) none h))))

      by_places : (ps ≡ []) ⊎ ((qs : List PlaceWord) × (p : PlaceWord) × (ps ≡ qs ++ p ∷ [])) → LastLine count lines line ws rs ps
      by_places (inl e) = by_registers e (snoc_view rs)
      by_places (inr v) =
          subst (λ ys. LastLine count lines line ws rs ys) (sym v.2)
          (last_place ws rs v.0 v.1 (subst (λ ys. IsRunText count (lines ++ line ∷ []) (made ws rs ys)) v.2 h))

-- ---- lines are one program

first_byte : Words → ℕ
first_byte l = get_or (get_or l 0 []) 0 0

pub no_word_register : (line : Words) (w : ℕ) (r : RegisterWord) → IsWordLine line w → IsRegisterLine line r → ⊥
unfolding first_byte
no_word_register line w r h g = (let e : 119 ≡ 114 = ap first_byte (sym h.is ∙ g.is) in absurd (omega (arith, e)))

pub no_word_place : (line : Words) (w : ℕ) (p : PlaceWord) → IsWordLine line w → IsPlaceLine line p → ⊥
unfolding first_byte
no_word_place line w p h g = (let e : 119 ≡ 109 = ap first_byte (sym h.is ∙ g.is) in absurd (omega (arith, e)))

pub no_register_place : (line : Words) (r : RegisterWord) (p : PlaceWord) → IsRegisterLine line r → IsPlaceLine line p → ⊥
unfolding first_byte
no_register_place line r p h g = (let e : 114 ≡ 109 = ap first_byte (sym h.is ∙ g.is) in absurd (omega (arith, e)))

pub one_word : (line : Words) (v w : ℕ) → IsWordLine line v → IsWordLine line w → v ≡ w
one_word line v w h g =
    let same : h.digits ≡ g.digits = ap (λ (l : Words). get_or l 1 []) (sym h.is ∙ g.is) in
    h.value ∙ ap (digits_value 16) same ∙ sym g.value

register_of : ℕ → ℕ → RegisterWord
register_of n w = record { register = n; word = w }

pub one_register : (line : Words) (r s : RegisterWord) → IsRegisterLine line r → IsRegisterLine line s → r ≡ s
unfolding register_of
one_register line r s h g =
    let same : register_words r ≡ register_words s = sym h.is ∙ g.is in
    let low : r.register < 31 = h.low in
    let less : s.register < 31 = g.low in
    ap (λ n. register_of n r.word) (decimal_injective r.register s.register (omega arith) (omega arith) (ap (λ (l : Words). get_or l 1 []) same))
    ∙ ap (λ n. register_of s.register n) (decimal_injective r.word s.word h.small g.small (ap (λ (l : Words). get_or l 2 []) same))

place_of : ℕ → ℕ → PlaceWord
place_of a w = record { address = a; word = w }

pub one_place : (line : Words) (p q : PlaceWord) → IsPlaceLine line p → IsPlaceLine line q → p ≡ q
unfolding place_of
one_place line p q h g =
    let same : place_words p ≡ place_words q = sym h.is ∙ g.is in
    ap (λ n. place_of n p.word) (decimal_injective p.address q.address h.address g.address (ap (λ (l : Words). get_or l 1 []) same))
    ∙ ap (λ n. place_of q.address n) (decimal_injective p.word q.word h.word g.word (ap (λ (l : Words). get_or l 2 []) same))

pub record SameRun (ws vs : List ℕ) (rs ss : List RegisterWord) (ps qs : List PlaceWord) : Type 0 where
  pub words : ws ≡ vs
  pub registers : rs ≡ ss
  pub places : ps ≡ qs

more_same : {X : Type 0} (xs ys us vs : List X) (a b : X) → xs ≡ us ++ a ∷ [] → ys ≡ vs ++ b ∷ [] → us ≡ vs → a ≡ b → xs ≡ ys
more_same xs ys us vs a b e f g h = e ∙ ap (λ l. l ++ a ∷ []) g ∙ ap (λ x. vs ++ x ∷ []) h ∙ sym f

empty_run : (count : ℕ) (ws : List ℕ) (rs : List RegisterWord) (ps : List PlaceWord) → IsRunText count [] (made ws rs ps) → SameRun ws [] rs [] ps []
empty_run count ws rs ps h =
    let a : List Words = map program_word_words h.digits in
    let b : List Words = map register_words rs in
    let c : List Words = map place_words ps in
    let none : 0 ≡ length (a ++ (b ++ c)) = ap length h.is in
    let ab = length-append a (b ++ c) in
    let bc = length-append b c in
    let la = length-map h.digits program_word_words in
    let lb = length-map rs register_words in
    let lc = length-map ps place_words in
    let lw = length-map h.digits (digits_value 16) in
    let ew = ap length h.words in
    record {
      words = nil_from_length ws (omega arith);
      registers = nil_from_length rs (omega arith);
      places = nil_from_length ps (omega arith);
    }

-- one program, where fewer lines by one are
abbrev pub Once : ℕ → ℕ → Type 0
Once count n = (lines : List Words) → length lines ≡ n → (ws vs : List ℕ) (rs ss : List RegisterWord) (ps qs : List PlaceWord)
    → IsRunText count lines (made ws rs ps) → IsRunText count lines (made vs ss qs) → SameRun ws vs rs ss ps qs

lasts_same : (count n : ℕ) → Once count n → (front : List Words) (line : Words) → length front ≡ n → (ws vs : List ℕ) (rs ss : List RegisterWord) (ps qs : List PlaceWord)
    → LastLine count front line ws rs ps → LastLine count front line vs ss qs → SameRun ws vs rs ss ps qs
lasts_same count n again front line k ws vs rs ss ps qs (word xs x e1 e2 e3 is st r) (word ys y f1 f2 f3 is' st' r') =
    let s = again front k xs ys [] [] [] [] r r' in
    record { words = more_same ws vs xs ys x y e1 f1 s.words (one_word line x y is is'); registers = e2 ∙ sym f2; places = e3 ∙ sym f3 }
lasts_same count n again front line k ws vs rs ss ps qs (word xs x e1 e2 e3 is st r) (register ys y f1 f2 is' al r') = absurd (no_word_register line x y is is')
lasts_same count n again front line k ws vs rs ss ps qs (word xs x e1 e2 e3 is st r) (place ys y f1 is' al r') = absurd (no_word_place line x y is is')
lasts_same count n again front line k ws vs rs ss ps qs (register xs x e1 e2 is al r) (word ys y f1 f2 f3 is' st' r') = absurd (no_word_register line y x is' is)
lasts_same count n again front line k ws vs rs ss ps qs (register xs x e1 e2 is al r) (register ys y f1 f2 is' al' r') =
    let s = again front k ws vs xs ys [] [] r r' in
    record { words = s.words; registers = more_same rs ss xs ys x y e1 f1 s.registers (one_register line x y is is'); places = e2 ∙ sym f2 }
lasts_same count n again front line k ws vs rs ss ps qs (register xs x e1 e2 is al r) (place ys y f1 is' al' r') = absurd (no_register_place line x y is is')
lasts_same count n again front line k ws vs rs ss ps qs (place xs x e1 is al r) (word ys y f1 f2 f3 is' st' r') = absurd (no_word_place line y x is' is)
lasts_same count n again front line k ws vs rs ss ps qs (place xs x e1 is al r) (register ys y f1 f2 is' al' r') = absurd (no_register_place line y x is' is)
lasts_same count n again front line k ws vs rs ss ps qs (place xs x e1 is al r) (place ys y f1 is' al' r') =
    let s = again front k ws vs rs ss xs ys r r' in
    record { words = s.words; registers = s.registers; places = more_same ps qs xs ys x y e1 f1 s.places (one_place line x y is is') }

same_by_last : (count n : ℕ) → Once count n → (lines : List Words) → length lines ≡ suc n → (ws vs : List ℕ) (rs ss : List RegisterWord) (ps qs : List PlaceWord)
    → IsRunText count lines (made ws rs ps) → IsRunText count lines (made vs ss qs)
    → (lines ≡ []) ⊎ ((front : List Words) × (line : Words) × (lines ≡ front ++ line ∷ [])) → SameRun ws vs rs ss ps qs
same_by_last count n again lines size ws vs rs ss ps qs h g (inl e) = (let z = ap length e in absurd (omega arith))
same_by_last count n again lines size ws vs rs ss ps qs h g (inr v) =
    let k : length v.0 ≡ n = (let more = length_push v.0 v.1 in let e = ap length v.2 in omega arith) in
    lasts_same count n again v.0 v.1 k ws vs rs ss ps qs
    (last_line count v.0 v.1 ws rs ps (subst (λ l. IsRunText count l (made ws rs ps)) v.2 h))
    (last_line count v.0 v.1 vs ss qs (subst (λ l. IsRunText count l (made vs ss qs)) v.2 g))

pub one_run : (count n : ℕ) → Once count n
one_run count zero lines size ws vs rs ss ps qs h g =
    let none : lines ≡ [] = nil_from_length lines size in
    let a = empty_run count ws rs ps (subst (λ l. IsRunText count l (made ws rs ps)) none h) in
    let b = empty_run count vs ss qs (subst (λ l. IsRunText count l (made vs ss qs)) none g) in
    record { words = a.words ∙ sym b.words; registers = a.registers ∙ sym b.registers; places = a.places ∙ sym b.places }
one_run count (suc n) lines size ws vs rs ss ps qs h g =
    same_by_last count n (one_run count n) lines size ws vs rs ss ps qs h g (snoc_view lines)
