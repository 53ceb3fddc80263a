-- The options of words, pair by pair.
use Rattle.std.proofs.Common.{◌≡◌, ℕ, suc, ◌+◌, ◌<◌, ◌≤◌, true, false, List, [], ◌∷◌, length, drop, get_or, map, Option, Some, None, cond, refl, sym, ap, subst, ◌∙◌, arith}
use Rattle.std.specs.Borrow.{Bor}
use Rattle.std.proofs.Math.Seq.{drop-cons}
use Rattle.std.proofs.lemmas.List.{drop_all, get_or-map, length-map}
use Rattle.denali_cli.specs.PlainForms.{and_then, is_flag, set_flag, set_option, set_options}
use Rattle.denali_cli.specs.declared.options.Options.{Options}

abbrev pub texts : List (Bor (List ℕ)) → List (List ℕ)
texts words = map (λ word. word.now) words

next : (i : ℕ) → suc i ≡ i + 1
next i = omega arith

two : (i : ℕ) → i + 1 + 1 ≡ i + 2
two i = omega arith

-- the rest from a place on begins with the word there
begins : (words : List (Bor (List ℕ))) (i : ℕ) (d : Bor (List ℕ)) → i < length words
    → drop i (texts words) ≡ (get_or words i d).now ∷ drop (i + 1) (texts words)
begins words i d lt =
    drop-cons (texts words) i d.now (subst (λ n. i < n) (sym (length-map words (λ (w : Bor (List ℕ)). w.now))) lt)
    ∙ ap (λ w. w ∷ drop (suc i) (texts words)) (get_or-map (λ (w : Bor (List ℕ)). w.now) words i d d.now lt)
    ∙ ap (λ n. (get_or words i d).now ∷ drop n (texts words)) (next i)

ends : (words : List (Bor (List ℕ))) (i : ℕ) → length words ≤ i → drop i (texts words) ≡ []
ends words i le =
    drop_all i (texts words) (subst (λ n. n ≤ i) (sym (length-map words (λ (w : Bor (List ℕ)). w.now))) le)

pub at_end : (target : Option Options) (o : Options) (words : List (Bor (List ℕ))) (i : ℕ)
    → set_options o (drop i (texts words)) ≡ target → ¬ (i < length words) → Some o ≡ target
at_end target o words i so_far past =
    sym (ap (set_options o) (ends words i (omega (arith, past)))) ∙ so_far

-- ---- flags

same_options : (x : Option Options) → x ≡ and_then x (λ p. Some p)
same_options None = refl
same_options (Some p) = refl

flag_first : (o : Options) (name : List ℕ) (rest : List (List ℕ)) → is_flag name ≡ true
    → set_options o (name ∷ rest) ≡ and_then (set_flag o name) (λ p. set_options p rest)
flag_first o name [] is = ap (λ b. cond b (set_flag o name) None) is ∙ same_options (set_flag o name)
flag_first o name (value ∷ rest) is =
    ap (λ b. cond b (and_then (set_flag o name) (λ p. set_options p (value ∷ rest)))
    (and_then (set_option o name value) (λ p. set_options p rest))) is

flagged : (target : Option Options) (o : Options) (words : List (Bor (List ℕ))) (i : ℕ) (d : Bor (List ℕ))
    → set_options o (drop i (texts words)) ≡ target → i < length words → is_flag (get_or words i d).now ≡ true
    → and_then (set_flag o (get_or words i d).now) (λ p. set_options p (drop (i + 1) (texts words))) ≡ target
flagged target o words i d so_far lt is =
    sym (ap (set_options o) (begins words i d lt)
    ∙ flag_first o (get_or words i d).now (drop (i + 1) (texts words)) is) ∙ so_far

pub flag_set : (target : Option Options) (o p : Options) (words : List (Bor (List ℕ))) (i : ℕ) (d : Bor (List ℕ))
    → set_options o (drop i (texts words)) ≡ target → i < length words → is_flag (get_or words i d).now ≡ true
    → Some p ≡ set_flag o (get_or words i d).now → set_options p (drop (i + 1) (texts words)) ≡ target
flag_set target o p words i d so_far lt is set =
    subst (λ r. and_then r (λ q. set_options q (drop (i + 1) (texts words))) ≡ target) (sym set)
    (flagged target o words i d so_far lt is)

pub flag_refused : (target : Option Options) (o : Options) (words : List (Bor (List ℕ))) (i : ℕ) (d : Bor (List ℕ))
    → set_options o (drop i (texts words)) ≡ target → i < length words → is_flag (get_or words i d).now ≡ true
    → None ≡ set_flag o (get_or words i d).now → None ≡ target
flag_refused target o words i d so_far lt is set =
    subst (λ r. and_then r (λ q. set_options q (drop (i + 1) (texts words))) ≡ target) (sym set)
    (flagged target o words i d so_far lt is)

-- ---- pairs

pub odd : (target : Option Options) (o : Options) (words : List (Bor (List ℕ))) (i : ℕ) (d : Bor (List ℕ))
    → set_options o (drop i (texts words)) ≡ target → i < length words → is_flag (get_or words i d).now ≡ false
    → i + 1 ≡ length words → None ≡ target
odd target o words i d so_far lt is_pair last =
    sym (ap (set_options o) (begins words i d lt
    ∙ ap (λ rest. (get_or words i d).now ∷ rest) (ends words (i + 1) (omega (arith, last))))
    ∙ ap (λ b. cond b (set_flag o (get_or words i d).now) None) is_pair) ∙ so_far

pair : (target : Option Options) (o : Options) (words : List (Bor (List ℕ))) (i : ℕ) (d e : Bor (List ℕ))
    → set_options o (drop i (texts words)) ≡ target → i < length words → is_flag (get_or words i d).now ≡ false
    → ¬ (i + 1 ≡ length words)
    → and_then (set_option o (get_or words i d).now (get_or words (i + 1) e).now)
    (λ p. set_options p (drop (i + 2) (texts words))) ≡ target
pair target o words i d e so_far lt is_pair more =
    let few : i + 1 < length words = omega (arith, lt, more) in
    let name = (get_or words i d).now in
    let value = (get_or words (i + 1) e).now in
    let rest = drop (i + 2) (texts words) in
    sym (ap (set_options o) (begins words i d lt
    ∙ ap (λ ws. name ∷ ws) (begins words (i + 1) e few
    ∙ ap (λ n. value ∷ drop n (texts words)) (two i)))
    ∙ ap (λ b. cond b (and_then (set_flag o name) (λ p. set_options p (value ∷ rest)))
    (and_then (set_option o name value) (λ p. set_options p rest))) is_pair) ∙ so_far

-- the same where the option may be set, and where it may not
pub pair_set : (target : Option Options) (o p : Options) (words : List (Bor (List ℕ))) (i : ℕ) (d e : Bor (List ℕ))
    → set_options o (drop i (texts words)) ≡ target → i < length words → is_flag (get_or words i d).now ≡ false
    → ¬ (i + 1 ≡ length words) → Some p ≡ set_option o (get_or words i d).now (get_or words (i + 1) e).now
    → set_options p (drop (i + 2) (texts words)) ≡ target
pair_set target o p words i d e so_far lt is_pair more set =
    subst (λ r. and_then r (λ q. set_options q (drop (i + 2) (texts words))) ≡ target) (sym set)
    (pair target o words i d e so_far lt is_pair more)

pub pair_refused : (target : Option Options) (o : Options) (words : List (Bor (List ℕ))) (i : ℕ)
    (d e : Bor (List ℕ)) → set_options o (drop i (texts words)) ≡ target → i < length words
    → is_flag (get_or words i d).now ≡ false → ¬ (i + 1 ≡ length words)
    → None ≡ set_option o (get_or words i d).now (get_or words (i + 1) e).now → None ≡ target
pair_refused target o words i d e so_far lt is_pair more set =
    subst (λ r. and_then r (λ q. set_options q (drop (i + 2) (texts words))) ≡ target) (sym set)
    (pair target o words i d e so_far lt is_pair more)
