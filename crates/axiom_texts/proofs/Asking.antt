-- Which words name families, and that no two of them are the same.
use Rattle.std.proofs.Common.{◌≡◌, ◌≢◌, ℕ, zero, suc, ◌||◌, Bool, true, false, cond, if◌then◌else◌, List, [], ◌∷◌, map, Option, None, Some, option_map, find, bytes_eq, refl, sym, ap, ap₂, subst, ◌∙◌, arith, All}
use Rattle.std.specs.Prelude.{AllPairs, Contains}
use Rattle.std.specs.Option.{option_and_then}
use Rattle.std.proofs.lemmas.Bool.{false_from_ne_true}
use Rattle.std.proofs.lemmas.List.Elements.{All-nil, All-cons, All-head, All-tail, All-contains, All-weaker}
use Rattle.std.proofs.lemmas.List.Folds.{list_any_none}
use Rattle.std.proofs.lemmas.List.Kept.{AllPairs-cons}
use Rattle.std.proofs.lemmas.Option.{none-some, same_Some}
use Rattle.std.proofs.lemmas.Slice.Eq.{bytes_eq-Decides}
use Rattle.text_core.specs.Names.{is_among}
use Rattle.axiom_library.specs.Names.{family_name}
use Rattle.axiom_library.specs.declared.families.Family.{Family}
use Rattle.axiom_library.proofs.Naming.{own_in}
use Rattle.axiom_texts.specs.Asked.{IsAsked, asked_families, differ, families_named}
use Rattle.axiom_texts.specs.Written.{written_families, written_named}

-- ---- one name
abbrev IsFound : Family → Type 0
IsFound family = written_named (family_name family) ≡ Some family

each_found : All IsFound written_families
unfolding written_named
each_found zero d l = refl
each_found (suc zero) d l = refl
each_found (suc (suc zero)) d l = refl
each_found (suc (suc (suc zero))) d l = refl
each_found (suc (suc (suc (suc zero)))) d l = refl
each_found (suc (suc (suc (suc (suc zero))))) d l = refl
each_found (suc (suc (suc (suc (suc (suc zero)))))) d l = refl
each_found (suc (suc (suc (suc (suc (suc (suc zero))))))) d l = refl
each_found (suc (suc (suc (suc (suc (suc (suc (suc zero)))))))) d l = refl
each_found (suc (suc (suc (suc (suc (suc (suc (suc (suc k))))))))) d l = absurd (omega (arith, l))

found : (family : Family) → Contains written_families family → written_named (family_name family) ≡ Some family
found family there = All-contains IsFound written_families family each_found there

own : (name : List ℕ) (family : Family) → written_named name ≡ Some family → family_name family ≡ name
unfolding written_named
own name family e = own_in name written_families family e

among : {X : Type 0} (p : X → Bool) (xs : List X) (x : X) → find p xs ≡ Some x → Contains xs x
among p [] x e = absurd (none-some x e)
among p (y ∷ ys) x e = step (p y) e (among p ys x)
  where
    step : (b : Bool) → cond b (Some y) (find p ys) ≡ Some x → (find p ys ≡ Some x → Contains ys x) → Contains (y ∷ ys) x
    step true same rest = (0, omega arith, same_Some y x same)
    step false other rest = let k = rest other in (suc k.0, omega (arith, k.1), k.2)

written : (name : List ℕ) (family : Family) → written_named name ≡ Some family → Contains written_families family
unfolding written_named
written name family e = among (λ f. bytes_eq (family_name f) name) written_families family e

-- ---- the names of several
abbrev AreWritten : List Family → Type 0
AreWritten fs = All (Contains written_families) fs

back : (fs : List Family) → AreWritten fs → families_named (map family_name fs) ≡ Some fs
back [] h = refl
back (f ∷ fs) h =
    ap (option_and_then (λ one. option_map (λ others. one ∷ others) (families_named (map family_name fs))))
    (found f (All-head (Contains written_families) f fs h))
    ∙ ap (option_map (λ others. f ∷ others)) (back fs (All-tail (Contains written_families) f fs h))

abbrev Names : List (List ℕ) → List Family → Type 0
Names ws fs = (ws ≡ map family_name fs) × AreWritten fs

first_of : (w : List ℕ) (ws : List (List ℕ)) (fs : List Family)
    → ((gs : List Family) → families_named ws ≡ Some gs → Names ws gs)
    → (one : Option Family) → written_named w ≡ one → (others : Option (List Family)) → families_named ws ≡ others
    → option_and_then (λ f. option_map (λ gs. f ∷ gs) others) one ≡ Some fs → Names (w ∷ ws) fs
first_of w ws fs rest None is others are e = absurd (none-some fs e)
first_of w ws fs rest (Some f) is None are e = absurd (none-some fs e)
first_of w ws fs rest (Some f) is (Some gs) are e =
    let named = rest gs are in
    subst (Names (w ∷ ws)) (same_Some (f ∷ gs) fs e) (
      ap₂ (λ n ns. n ∷ ns) (sym (own w f is)) named.0,
      All-cons (Contains written_families) f gs (written w f is) named.1,
    )

names : (ws : List (List ℕ)) (fs : List Family) → families_named ws ≡ Some fs → Names ws fs
names [] fs e = subst (Names []) (same_Some [] fs e) (refl, All-nil (Contains written_families))
names (w ∷ ws) fs e =
    first_of w ws fs (λ gs. names ws gs) (written_named w) refl (families_named ws) refl e

-- ---- no two the same
or_left : (a b : Bool) → a || b ≡ false → a ≡ false
or_left true b h = cc
or_left false b h = refl

or_right : (a b : Bool) → a || b ≡ false → b ≡ false
or_right true b h = cc
or_right false b h = h

no_both : (b : Bool) → b ≡ true → b ≡ false → ⊥
no_both b t f = let e : true ≡ false = sym t ∙ f in cc

not_among : (ns : List (List ℕ)) (n : List ℕ) → is_among ns n ≡ false → All (λ m. n ≢ m) ns
not_among [] n h = All-nil (λ m. n ≢ m)
not_among (m ∷ ms) n h =
    All-cons (λ m. n ≢ m) m ms
    (λ e. no_both (bytes_eq m n) ((bytes_eq-Decides m n).1 (sym e)) (or_left (bytes_eq m n) (is_among ms n) h))
    (not_among ms n (or_right (bytes_eq m n) (is_among ms n) h))

none_among : (ns : List (List ℕ)) (n : List ℕ) → All (λ m. n ≢ m) ns → is_among ns n ≡ false
none_among ns n h =
    list_any_none (λ m. bytes_eq m n) ns
    (All-weaker (λ m. n ≢ m) (λ m. bytes_eq m n ≡ false)
    (λ m apart. false_from_ne_true (bytes_eq m n) (λ t. apart (sym ((bytes_eq-Decides m n).0 t)))) ns h)

abbrev Apart : List (List ℕ) → Type 0
Apart ws = AllPairs (λ m n. m ≢ n) ws

apart_more : (w : List ℕ) (ws : List (List ℕ)) (b : Bool) → is_among ws w ≡ b → (differ ws ≡ true → Apart ws)
    → (if b then false else differ ws) ≡ true → Apart (w ∷ ws)
apart_more w ws true is rest h = cc
apart_more w ws false is rest h = AllPairs-cons (λ m n. m ≢ n) w ws (not_among ws w is) (rest h)

apart : (ws : List (List ℕ)) → differ ws ≡ true → Apart ws
apart [] h = λ i j d lt within. absurd (omega arith)
apart (w ∷ ws) h = apart_more w ws (is_among ws w) refl (apart ws) h

differing : (ws : List (List ℕ)) → Apart ws → differ ws ≡ true
differing [] h = refl
differing (w ∷ ws) h =
    ap (λ b. if b then false else differ ws)
    (none_among ws w (λ k d within. h zero (suc k) d (omega arith) (omega arith)))
    ∙ differing ws (λ i j d lt within. h (suc i) (suc j) d (omega arith) (omega arith))

-- ---- words that ask
told : (w : List ℕ) (ws : List (List ℕ)) (fs : List Family) (b : Bool) → differ (w ∷ ws) ≡ b
    → (if b then families_named (w ∷ ws) else None) ≡ Some fs → IsAsked (w ∷ ws) fs
told w ws fs true is e = record {
  some = omega arith;
  named = (names (w ∷ ws) fs e).0;
  written = (names (w ∷ ws) fs e).1;
  each_once = apart (w ∷ ws) is;
}
told w ws fs false is e = absurd (none-some fs e)

pub asked_told : (words : List (List ℕ)) (fs : List Family) → asked_families words ≡ Some fs → IsAsked words fs
asked_told [] fs e = absurd (none-some fs e)
asked_told (w ∷ ws) fs e = told w ws fs (differ (w ∷ ws)) refl e

pub told_asked : (words : List (List ℕ)) (fs : List Family) → IsAsked words fs → asked_families words ≡ Some fs
told_asked [] fs a = let some = a.some in absurd (omega arith)
told_asked (w ∷ ws) fs a =
    ap (λ b. if b then families_named (w ∷ ws) else None) (differing (w ∷ ws) a.each_once)
    ∙ ap families_named a.named ∙ back fs a.written
