-- The tree of a term, variable by variable and application by application, and what substitution does to values.
use Rattle.std.proofs.Common.{◌≡◌, ◌↔◌, ℕ, ◌<◌, List, [], ◌∷◌, length, map, get_or, refl, ap, ap₂, sym, ◌∙◌, arith, subst, zero, suc, All}
use Rattle.std.proofs.lemmas.List.{get_or-map, length-map}
use Rattle.std.specs.declared.vec.Vec.{Vec}
use Rattle.std.specs.declared.alloc.Global.{Global}
use Rattle.word_terms.specs.Tree.{Tree, Trees, variable, application, none, more, operands_of, value, each_value, put_in, substituted, each_substituted, AreBelow, EachBelow}
use Rattle.word_terms.specs.View.{tree_step, tree_of, trees_of}
use Rattle.word_terms.specs.declared.term.Term.{Term, Term-F, fold-roll-Term}
use Rattle.word_terms.specs.declared.term.Term.TheVariants.{Var, App, rolls-Var, rolls-App}

pub tree_of_variable : {O : Type 0} (n : ℕ) → tree_of {O = O} (Var n) ≡ variable n
unfolding tree_of
tree_of_variable {O} n = ap (tree_of {O = O}) (sym (rolls-Var n)) ∙ fold-roll-Term O (Tree O) tree_step (Term-F.Var n)

pub tree_of_application : {O : Type 0} (op : O) (v : Vec (Term O) Global) → tree_of (App op v) ≡ application op (operands_of (trees_of v.items))
unfolding tree_of
tree_of_application {O} op v = ap (tree_of {O = O}) (sym (rolls-App op v)) ∙ fold-roll-Term O (Tree O) tree_step (Term-F.App op v)

operands_of-injective : {O : Type 0} (xs ys : List (Tree O)) → operands_of xs ≡ operands_of ys → xs ≡ ys
operands_of-injective [] [] e = refl
operands_of-injective [] (y ∷ ys) e = cc
operands_of-injective (x ∷ xs) [] e = cc
operands_of-injective (x ∷ xs) (y ∷ ys) e =
    let head : x ≡ y = cc in
    let tail : operands_of xs ≡ operands_of ys = cc in
    ap₂ (λ z zs. z ∷ zs) head (operands_of-injective xs ys tail)

pub each_substituted-operands_of : {O : Type 0} (trees xs : List (Tree O)) → each_substituted trees (operands_of xs) ≡ operands_of (map (substituted trees) xs)
each_substituted-operands_of trees [] = refl
each_substituted-operands_of trees (x ∷ xs) = ap (more (substituted trees x)) (each_substituted-operands_of trees xs)

below_at : {O : Type 0} (n : ℕ) (xs : List (Tree O)) (i : ℕ) (d : Tree O) → EachBelow n (operands_of xs) → i < length xs → AreBelow n (get_or xs i d)
below_at n [] i d h l = absurd (omega arith)
below_at n (x ∷ xs) zero d h l = h.0
below_at n (x ∷ xs) (suc i) d h l = below_at n xs i d h.1 (omega arith)

-- the value of a tree after a substitution is its value where each variable has the value of what was put in
module _ {O V : Type 0} (meaning : O → List V → V) (values : ℕ → V) (trees : List (Tree O)) where
  abbrev value_put_in : ℕ → V
  value_put_in n = value meaning values (put_in trees n)

  mutual
    pub value-substituted : (t : Tree O) → value meaning values (substituted trees t) ≡ value meaning value_put_in t
    value-substituted (variable n) = refl
    value-substituted (application op ts) = ap (meaning op) (each_value-substituted ts)

    pub each_value-substituted : (ts : Trees O) → each_value meaning values (each_substituted trees ts) ≡ each_value meaning value_put_in ts
    each_value-substituted none = refl
    each_value-substituted (more t ts) = ap₂ (λ v vs. v ∷ vs) (value-substituted t) (each_value-substituted ts)

pub operand_below : {O : Type 0} (n : ℕ) (op : O) (v : Vec (Term O) Global) (i : ℕ) (d : Term O) → AreBelow n (tree_of (App op v)) → i < length v.items → AreBelow n (tree_of (get_or v.items i d))
operand_below {O} n op v i d h l =
    let below : AreBelow n (application op (operands_of (trees_of v.items))) = subst (λ (t : Tree O). AreBelow n t) (tree_of_application op v) h in
    let at = below_at n (trees_of v.items) i (tree_of d) below (omega (arith, length-map v.items tree_of)) in
    subst (λ (t : Tree O). AreBelow n t) (get_or-map tree_of v.items i d (tree_of d) l) at

pub variable_below : {O : Type 0} (n k : ℕ) (t : Term O) → AreBelow n (tree_of t) → t ≡ Var k → k < n
variable_below {O} n k t h e = subst (λ (x : Tree O). AreBelow n x) (ap tree_of e ∙ tree_of_variable k) h

pub all_below : {O : Type 0} (n : ℕ) (t : Term O) (op : O) (v : Vec (Term O) Global) → AreBelow n (tree_of t) → t ≡ App op v → All (λ x. AreBelow n (tree_of x)) v.items
all_below {O} n t op v h e i d l = operand_below n op v i d (subst (λ y. AreBelow n (tree_of y)) e h) l

-- what stands in a variable's place is the tree that is put in
pub put_at_variable : {O : Type 0} (values : List (Term O)) (t : Term O) (n : ℕ) (x : Term O) → t ≡ Var n → AreBelow (length values) (tree_of t) → x ≡ get_or values n x → tree_of x ≡ substituted (trees_of values) (tree_of t)
put_at_variable {O} values t n x e b is =
    let below : n < length values = variable_below (length values) n t b e in
    ap tree_of is ∙ sym (get_or-map tree_of values n x (variable n) below) ∙ ap (substituted (trees_of values)) (sym (ap tree_of e ∙ tree_of_variable n))

-- an application of what the operands became
pub put_at_application : {O : Type 0} (trees : List (Tree O)) (t : Term O) (op : O) (v w : Vec (Term O) Global) → t ≡ App op v → trees_of w.items ≡ map (substituted trees) (trees_of v.items) → tree_of (App op w) ≡ substituted trees (tree_of t)
put_at_application {O} trees t op v w e f =
    tree_of_application op w ∙ ap (application op) (ap operands_of f ∙ sym (each_substituted-operands_of trees (trees_of v.items))) ∙ ap (substituted trees) (sym (ap tree_of e ∙ tree_of_application op v))

-- applications with one tree have one operator and operands with the same trees
apart : {O : Type 0} (p q : O) (v w : Vec (Term O) Global) → tree_of (App p v) ≡ tree_of (App q w) → (p ≡ q) × (trees_of v.items ≡ trees_of w.items)
apart {O} p q v w h =
    let e : application p (operands_of (trees_of v.items)) ≡ application q (operands_of (trees_of w.items)) = sym (tree_of_application p v) ∙ h ∙ tree_of_application q w in
    let ts : operands_of (trees_of v.items) ≡ operands_of (trees_of w.items) = cc in
    (cc, operands_of-injective _ _ ts)

together : {O : Type 0} (p q : O) (v w : Vec (Term O) Global) → p ≡ q → trees_of v.items ≡ trees_of w.items → tree_of (App p v) ≡ tree_of (App q w)
together p q v w e f = tree_of_application p v ∙ ap₂ (λ x ts. application x (operands_of ts)) e f ∙ sym (tree_of_application q w)

-- two variables
pub same_variables : {O : Type 0} (m n : ℕ) (a b : Term O) → a ≡ Var m → b ≡ Var n → (m ≡ n) ↔ (tree_of a ≡ tree_of b)
same_variables {O} m n a b p q =
    let s : tree_of a ≡ variable m = ap tree_of p ∙ tree_of_variable m in
    let t : tree_of b ≡ variable n = ap tree_of q ∙ tree_of_variable n in
    (λ e. s ∙ ap variable e ∙ sym t, λ h. let e = sym s ∙ h ∙ t in cc)

pub variable_not_application : {O : Type 0} (n : ℕ) (op : O) (v : Vec (Term O) Global) (a b : Term O) → a ≡ Var n → b ≡ App op v → tree_of a ≡ tree_of b → ⊥
variable_not_application {O} n op v a b p q h =
    let s : tree_of a ≡ variable n = ap tree_of p ∙ tree_of_variable n in
    let t : tree_of b ≡ application op (operands_of (trees_of v.items)) = ap tree_of q ∙ tree_of_application op v in
    cc

-- two applications with one tree have one operator, as many operands, and the same operands
pub operators_same : {O : Type 0} (p q : O) (v w : Vec (Term O) Global) (a b : Term O) → a ≡ App p v → b ≡ App q w → tree_of a ≡ tree_of b → p ≡ q
operators_same p q v w a b e f h = (apart p q v w (sym (ap tree_of e) ∙ h ∙ ap tree_of f)).0

pub lengths_same : {O : Type 0} (p q : O) (v w : Vec (Term O) Global) (a b : Term O) → a ≡ App p v → b ≡ App q w → tree_of a ≡ tree_of b → length v.items ≡ length w.items
lengths_same p q v w a b e f h =
    sym (length-map v.items tree_of) ∙ ap length (apart p q v w (sym (ap tree_of e) ∙ h ∙ ap tree_of f)).1 ∙ length-map w.items tree_of

pub operands_same : {O : Type 0} (p q : O) (v w : Vec (Term O) Global) (a b : Term O) (i : ℕ) (x y : Term O) → a ≡ App p v → b ≡ App q w → i < length v.items → i < length w.items → x ≡ get_or v.items i x → y ≡ get_or w.items i y → tree_of a ≡ tree_of b → tree_of x ≡ tree_of y
operands_same p q v w a b i x y e f l m xe ye h =
    ap tree_of xe ∙ sym (get_or-map tree_of v.items i x (tree_of x) l)
    ∙ ap (λ ts. get_or ts i (tree_of x)) (apart p q v w (sym (ap tree_of e) ∙ h ∙ ap tree_of f)).1
    ∙ get_or-map tree_of w.items i y (tree_of x) m ∙ sym (ap tree_of ye)

pub applications_same : {O : Type 0} (p q : O) (v w : Vec (Term O) Global) (a b : Term O) → a ≡ App p v → b ≡ App q w → p ≡ q → trees_of v.items ≡ trees_of w.items → tree_of a ≡ tree_of b
applications_same p q v w a b e f o h = ap tree_of e ∙ together p q v w o h ∙ sym (ap tree_of f)

-- an application of copies of the operands
pub copied : {O : Type 0} (op : O) (v w : Vec (Term O) Global) (t : Term O) → t ≡ App op v → trees_of w.items ≡ trees_of v.items → tree_of (App op w) ≡ tree_of t
copied op v w t is e = together op op w v refl e ∙ ap tree_of (sym is)

-- a term with that tree keeps each value
pub keeps_value : {O : Type 0} (trees : List (Tree O)) (t u : Tree O) → u ≡ substituted trees t →
    {W N V : Type 0} (meaning : W → N → O → List V → V) (world : W) (names : N) (words : ℕ → V) →
    value (meaning world names) words u ≡ value (meaning world names) (λ n. value (meaning world names) words (put_in trees n)) t
keeps_value trees t u e meaning world names words = ap (value (meaning world names) words) e ∙ value-substituted (meaning world names) words trees t
