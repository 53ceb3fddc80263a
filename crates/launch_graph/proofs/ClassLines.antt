-- The class on a line behind the rows.
use Rattle.std.proofs.Common.{◌≡◌, ℕ, ◌<◌, ◌^◌, List, [], ◌∷◌, get_or, sym, ap, ◌∙◌, arith, decimal}
use Rattle.std.proofs.lemmas.Fmt.{decimal_injective}
use Rattle.word_ops.specs.declared.sorts.Sort.{Sort}
use Rattle.word_ops.specs.declared.sorts.Sort.TheVariants as sorts
use Rattle.text_core.specs.LineTexts.{Words}
use Rattle.graph_meaning.specs.declared.graphs.InputClass.{InputClass}
use Rattle.graph_meaning.specs.declared.graphs.Guard.{Guard}
use Rattle.graph_meaning.specs.declared.graphs.SetClass.{SetClass}
use Rattle.launch_graph.specs.GraphLines.{entry_words, in_words, pool_words, guard_words, held_word, pin_words, set_words}
use Rattle.launch_graph.specs.GraphTexts.{IsClassLine, entry, input, guard, set}
use Rattle.graph_meaning.specs.WellFormed.{set_sort}

pub head_same : (x y : List ℕ) (xs ys : Words) → x ∷ xs ≡ y ∷ ys → x ≡ y
head_same x y xs ys e = cc

pub rest_same : (x y : List ℕ) (xs ys : Words) → x ∷ xs ≡ y ∷ ys → xs ≡ ys
rest_same x y xs ys e = cc

-- lines that begin with different bytes
pub begin_same : (x y : List ℕ) (xs ys : Words) → x ∷ xs ≡ y ∷ ys → get_or x 0 0 ≡ get_or y 0 0
begin_same x y xs ys e = ap (λ w. get_or w 0 0) (head_same x y xs ys e)

one_class : (m n : ℕ) (xs ys : Words) → m < 2 ^ 31 → n < 2 ^ 31 → decimal m ∷ xs ≡ decimal n ∷ ys → n ≡ m
one_class m n xs ys a b e = sym (decimal_injective m n (omega arith) (omega arith) (head_same (decimal m) (decimal n) xs ys e))

pub entry_class : (c class : ℕ) (sort : Sort) → c < 2 ^ 31 → IsClassLine (entry_words c) class sort → (class ≡ c) × (sort ≡ sorts.Memory)
entry_class c class sort low (entry {words = ws} small e is) = (one_class c class [] ws low small (rest_same _ _ _ _ e), is)
entry_class c class sort low (input small e is) = absurd (let h : ◌≡◌ {A = ℕ} 101 105 = begin_same _ _ _ _ e in omega (arith, h))
entry_class c class sort low (guard small e is) = absurd (let h : ◌≡◌ {A = ℕ} 101 103 = begin_same _ _ _ _ e in omega (arith, h))
entry_class c class sort low (set small e is) = absurd (let h : ◌≡◌ {A = ℕ} 101 115 = begin_same _ _ _ _ e in omega (arith, h))

pub input_class : (i : InputClass) (class : ℕ) (sort : Sort) → i.class < 2 ^ 31 → IsClassLine (in_words i) class sort → (class ≡ i.class) × (sort ≡ sorts.Word)
input_class i class sort low (entry small e is) = absurd (let h : ◌≡◌ {A = ℕ} 105 101 = begin_same _ _ _ _ e in omega (arith, h))
input_class i class sort low (input {words = ws} small e is) =
    (one_class i.class class [] ws low small (rest_same _ _ _ _ (rest_same _ _ _ _ (rest_same _ _ _ _ e))), is)
input_class i class sort low (guard small e is) = absurd (let h : ◌≡◌ {A = ℕ} 105 103 = begin_same _ _ _ _ e in omega (arith, h))
input_class i class sort low (set small e is) = absurd (let h : ◌≡◌ {A = ℕ} 105 115 = begin_same _ _ _ _ e in omega (arith, h))

pub pool_class : (pool : List ℕ) (class : ℕ) (sort : Sort) → IsClassLine (pool_words pool) class sort → ⊥
pool_class pool class sort (entry small e is) = (let h : ◌≡◌ {A = ℕ} 112 101 = begin_same _ _ _ _ e in omega (arith, h))
pool_class pool class sort (input small e is) = (let h : ◌≡◌ {A = ℕ} 112 105 = begin_same _ _ _ _ e in omega (arith, h))
pool_class pool class sort (guard small e is) = (let h : ◌≡◌ {A = ℕ} 112 103 = begin_same _ _ _ _ e in omega (arith, h))
pool_class pool class sort (set small e is) = (let h : ◌≡◌ {A = ℕ} 112 115 = begin_same _ _ _ _ e in omega (arith, h))

pub guard_class : (o : Guard) (class : ℕ) (sort : Sort) → o.class < 2 ^ 31 → IsClassLine (guard_words o) class sort → (class ≡ o.class) × (sort ≡ sorts.Word)
guard_class o class sort low (entry small e is) = absurd (let h : ◌≡◌ {A = ℕ} 103 101 = begin_same _ _ _ _ e in omega (arith, h))
guard_class o class sort low (input small e is) = absurd (let h : ◌≡◌ {A = ℕ} 103 105 = begin_same _ _ _ _ e in omega (arith, h))
guard_class o class sort low (guard {words = ws} small e is) = (one_class o.class class (held_word o.held ∷ []) ws low small (rest_same _ _ _ _ e), is)
guard_class o class sort low (set small e is) = absurd (let h : ◌≡◌ {A = ℕ} 103 115 = begin_same _ _ _ _ e in omega (arith, h))

pub set_class : (s : SetClass) (class : ℕ) (sort : Sort) → s.class < 2 ^ 31 → IsClassLine (set_words s) class sort → (class ≡ s.class) × (sort ≡ set_sort s.name)
set_class s class sort low (entry small e is) = absurd (let h : ◌≡◌ {A = ℕ} 115 101 = begin_same _ _ _ _ e in omega (arith, h))
set_class s class sort low (input small e is) = absurd (let h : ◌≡◌ {A = ℕ} 115 105 = begin_same _ _ _ _ e in omega (arith, h))
set_class s class sort low (guard small e is) = absurd (let h : ◌≡◌ {A = ℕ} 115 103 = begin_same _ _ _ _ e in omega (arith, h))
set_class s class sort low (set {name = name} {words = ws} small e is) =
    let behind = rest_same _ _ _ _ e in
    (one_class s.class class (pin_words s.pin) ws low small (rest_same _ _ _ _ behind), is ∙ ap set_sort (sym (head_same s.name name (decimal s.class ∷ pin_words s.pin) (decimal class ∷ ws) behind)))
