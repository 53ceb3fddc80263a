-- The line of a target tells it, and each of several targets with pins of their own has one that none before it has.
use Rattle.std.proofs.Common.{◌≡◌, ◌≢◌, ℕ, zero, suc, ◌<◌, ◌^◌, ◌==◌, ◌||◌, List, [], ◌∷◌, ◌++◌, length, get_or, refl, sym, ap, subst, ◌∙◌, append-nil, arith, codes, decimal, Option, Some, None, Bool, true, false}
use Rattle.std.specs.Prelude.{⊤, All, IfSome}
use Rattle.std.specs.List.{cons_option}
use Rattle.std.specs.Option.{option_map_or}
use Rattle.std.proofs.lemmas.Bool.Decides.{Decides-eqb}
use Rattle.std.proofs.lemmas.Fmt.{decimal_injective}
use Rattle.std.proofs.lemmas.List.Elements.{All-nil, All-cons, All-head, All-tail, All-weaker}
use Rattle.std.proofs.lemmas.List.Folds.{list_any-append}
use Rattle.std.proofs.lemmas.List.Kept.{AllPairs-cons}
use Rattle.std.proofs.lemmas.List.Quantifiers.{all_pairs_push}
use Rattle.text_core.specs.LineTexts.{Words}
use Rattle.text_core.specs.Names.{IsName}
use Rattle.graph_meaning.specs.Graphs.{HaveOwnPins}
use Rattle.graph_meaning.specs.declared.graphs.SetClass.{SetClass}
use Rattle.launch_graph.specs.GraphLines.{PinFits, SetFits, pin_words, set_words}
use Rattle.launch_graph.specs.GraphStages.{IsNewPin, Low, has_pin, pins_among}
use Rattle.launch_graph.proofs.ClassLines.{head_same, rest_same}

-- ---- one target

set_of : List ℕ → ℕ → Option ℕ → SetClass
set_of name class pin = record { name = name; class = class; pin = pin }

-- what its words tell a set by
abbrev pub SetIsLow : SetClass → Type 0
SetIsLow s = IsName s.name × (s.class < 2 ^ 31) × IfSome s.pin Low

pin_low : (version : ℕ) (o : Option ℕ) → PinFits version o → IfSome o Low
pin_low version None h = tt
pin_low version (Some r) h = h.1

pub set_low : (version : ℕ) (s : SetClass) → SetFits version s → SetIsLow s
set_low version s f = (f.0, f.1, pin_low version s.pin f.2)

one_pin : (o p : Option ℕ) → IfSome o Low → IfSome p Low → pin_words o ≡ pin_words p → o ≡ p
one_pin None None a b e = refl
one_pin None (Some r) a b e = cc
one_pin (Some r) None a b e = cc
one_pin (Some r) (Some q) a b e =
    let low : r < 31 = a in
    let less : q < 31 = b in
    ap Some (decimal_injective r q (omega arith) (omega arith) (head_same (decimal r) (decimal q) [] [] e))

pub one_set : (s t : SetClass) → SetIsLow s → SetIsLow t → set_words s ≡ set_words t → s ≡ t
unfolding set_of
one_set s t f g e =
    let small : s.class < 2 ^ 31 = f.1 in
    let fits : t.class < 2 ^ 31 = g.1 in
    let pin : Words = pin_words s.pin in
    let other : Words = pin_words t.pin in
    let behind = rest_same (codes "set") (codes "set") (s.name ∷ decimal s.class ∷ pin) (t.name ∷ decimal t.class ∷ other) e in
    let classes = rest_same s.name t.name (decimal s.class ∷ pin) (decimal t.class ∷ other) behind in
    let pins = rest_same (decimal s.class) (decimal t.class) pin other classes in
    ap (λ n. set_of n s.class s.pin) (head_same s.name t.name (decimal s.class ∷ pin) (decimal t.class ∷ other) behind)
    ∙ ap (λ c. set_of t.name c s.pin) (decimal_injective s.class t.class (omega arith) (omega arith) (head_same (decimal s.class) (decimal t.class) pin other classes))
    ∙ ap (set_of t.name t.class) (one_pin s.pin t.pin f.2 g.2 pins)

-- two targets that the same words tell have one pin
pub same_pin : (version : ℕ) (s t : SetClass) (words : Words) → SetFits version s → SetFits version t → words ≡ set_words s → words ≡ set_words t → s.pin ≡ t.pin
same_pin version s t words f g e h = ap (λ (x : SetClass). x.pin) (one_set s t (set_low version s f) (set_low version t g) (sym e ∙ h))

-- ---- pins that differ

-- each pin is none of these, and none of those before it
abbrev pub HaveNewPins : List ℕ → List SetClass → Type 0
HaveNewPins pins [] = ⊤
HaveNewPins pins (s ∷ sets) = IsNewPin pins s.pin × HaveNewPins (pins ++ cons_option s.pin []) sets

pin_both : (ps qs : List ℕ) (r : ℕ) → has_pin (ps ++ qs) r ≡ (has_pin ps r || has_pin qs r)
pin_both ps qs r = list_any-append (λ pin. pin == r) ps qs

or_left : (a b : Bool) → a || b ≡ false → a ≡ false
or_left true b h = cc
or_left false b h = refl

or_right : (a b : Bool) → a || b ≡ false → b ≡ false
or_right true b h = cc
or_right false b h = h

itself : (r : ℕ) → has_pin (r ∷ []) r ≡ true
itself r = ap (λ b. b || false) ((Decides-eqb r r).1 refl)

other_one : (r q : ℕ) → r ≢ q → has_pin (r ∷ []) q ≡ false
other_one r q n = by_test (r == q) refl
  where
    by_test : (b : Bool) → (r == q) ≡ b → b || false ≡ false
    by_test true e = absurd (n ((Decides-eqb r q).0 e))
    by_test false e = refl

front_new : (ps qs : List ℕ) (o : Option ℕ) → IsNewPin (ps ++ qs) o → IsNewPin ps o
front_new ps qs None h = tt
front_new ps qs (Some r) h = or_left (has_pin ps r) (has_pin qs r) (sym (pin_both ps qs r) ∙ h)

-- two sets that aren't pinned to one register
abbrev Apart : SetClass → SetClass → Type 0
Apart s t = (r : ℕ) → s.pin ≡ Some r → t.pin ≢ Some r

apart_from : (ps : List ℕ) (o p : Option ℕ) → IsNewPin (ps ++ cons_option o []) p → (r : ℕ) → o ≡ Some r → p ≢ Some r
apart_from ps o p h r e f =
    let new : has_pin (ps ++ r ∷ []) r ≡ false = subst (λ x. IsNewPin (ps ++ cons_option x []) (Some r)) e (subst (λ x. IsNewPin (ps ++ cons_option o []) x) f h) in
    let none = or_right (has_pin ps r) (has_pin (r ∷ []) r) (sym (pin_both ps (r ∷ []) r) ∙ new) in
    let both : true ≡ false = sym (itself r) ∙ none in
    cc

pub new_own : (ps : List ℕ) (sets : List SetClass) → HaveNewPins ps sets → All (λ (s : SetClass). IsNewPin ps s.pin) sets × HaveOwnPins sets
new_own ps [] h = (All-nil (λ (s : SetClass). IsNewPin ps s.pin), λ i j d low lt. absurd (omega (arith, lt)))
new_own ps (s ∷ sets) h =
    let later = new_own (ps ++ cons_option s.pin []) sets h.1 in
    let Later : SetClass → Type 0 = λ t. IsNewPin (ps ++ cons_option s.pin []) t.pin in (
      All-cons (λ (t : SetClass). IsNewPin ps t.pin) s sets h.0 (All-weaker Later (λ (t : SetClass). IsNewPin ps t.pin) (λ t n. front_new ps (cons_option s.pin []) t.pin n) sets later.0),
      AllPairs-cons Apart s sets (All-weaker Later (Apart s) (λ t n. apart_from ps s.pin t.pin n) sets later.0) later.1,
    )

more_new : (ps : List ℕ) (o p : Option ℕ) → IsNewPin ps p → ((r : ℕ) → o ≡ Some r → p ≢ Some r) → IsNewPin (ps ++ cons_option o []) p
more_new ps o None h apart = tt
more_new ps None (Some q) h apart = subst (λ xs. has_pin xs q ≡ false) (sym (append-nil ps)) h
more_new ps (Some r) (Some q) h apart =
    pin_both ps (r ∷ []) q ∙ ap (λ b. b || has_pin (r ∷ []) q) h ∙ other_one r q (λ e. apart r refl (ap Some (sym e)))

first_apart : (s : SetClass) (sets : List SetClass) → HaveOwnPins (s ∷ sets) → All (Apart s) sets
first_apart s sets own k d l = own 0 (suc k) d (omega arith) (omega (arith, l))

pub own_new : (ps : List ℕ) (sets : List SetClass) → All (λ (s : SetClass). IsNewPin ps s.pin) sets → HaveOwnPins sets → HaveNewPins ps sets
own_new ps [] all own = tt
own_new ps (s ∷ sets) all own =
    let New : SetClass → Type 0 = λ t. IsNewPin ps t.pin in
    let apart = first_apart s sets own in
    let behind = All-tail New s sets all in (
      All-head New s sets all,
      own_new (ps ++ cons_option s.pin []) sets (λ k d l. more_new ps s.pin (get_or sets k d).pin (behind k d l) (apart k d l))
          (λ i j d low lt. own (suc i) (suc j) d (omega (arith, low)) (omega (arith, lt))),
    )

pub none_before : (sets : List SetClass) → All (λ (s : SetClass). IsNewPin [] s.pin) sets
none_before sets k d l = new_in_none (get_or sets k d).pin
  where
    new_in_none : (o : Option ℕ) → IsNewPin [] o
    new_in_none None = tt
    new_in_none (Some r) = refl

pub new_pin : (pins : List ℕ) (o : Option ℕ) → option_map_or (has_pin pins) o false ≡ false → IsNewPin pins o
new_pin pins None h = tt
new_pin pins (Some r) h = h

-- one target more
still_pin : (o : Option ℕ) (qs : List ℕ) (r : ℕ) → has_pin qs r ≡ true → has_pin (cons_option o qs) r ≡ true
still_pin None qs r h = h
still_pin (Some q) qs r h = ap (λ b. (q == r) || b) h ∙ or_true (q == r)
  where
    or_true : (b : Bool) → b || true ≡ true
    or_true true = refl
    or_true false = refl

among_pins : (sets : List SetClass) (k : ℕ) (d : SetClass) (r : ℕ) → k < length sets → (get_or sets k d).pin ≡ Some r → has_pin (pins_among sets) r ≡ true
among_pins [] k d r l e = absurd (omega (arith, l))
among_pins (s ∷ sets) zero d r l e =
    ap (λ o. has_pin (cons_option o (pins_among sets)) r) e ∙ ap (λ b. b || has_pin (pins_among sets) r) ((Decides-eqb r r).1 refl)
among_pins (s ∷ sets) (suc k) d r l e = still_pin s.pin (pins_among sets) r (among_pins sets k d r (omega (arith, l)) e)

pub pins_more : (sets : List SetClass) (s : SetClass) → pins_among (sets ++ s ∷ []) ≡ pins_among sets ++ cons_option s.pin []
pins_more [] s = refl
pins_more (t ∷ sets) s = ap (cons_option t.pin) (pins_more sets s) ∙ cons_behind t.pin (pins_among sets) (cons_option s.pin [])
  where
    cons_behind : (o : Option ℕ) (xs ys : List ℕ) → cons_option o (xs ++ ys) ≡ cons_option o xs ++ ys
    cons_behind None xs ys = refl
    cons_behind (Some x) xs ys = refl

pub own_more : (sets : List SetClass) (s : SetClass) → HaveOwnPins sets → IsNewPin (pins_among sets) s.pin → HaveOwnPins (sets ++ s ∷ [])
own_more sets s own new =
    all_pairs_push Apart sets s own
    (λ k d l r e f. (let none : has_pin (pins_among sets) r ≡ false = subst (IsNewPin (pins_among sets)) f new in
    let both : true ≡ false = sym (among_pins sets k d r l e) ∙ none in cc))
