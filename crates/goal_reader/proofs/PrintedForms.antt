-- Forms that print as the canonical text of a goal, an axiom or a declaration, which some form writes, write it too.
use Rattle.std.proofs.Common.{◌≡◌, ◌≢◌, ℕ, zero, suc, ◌+◌, ◌-◌, ◌*◌, ◌/◌, ◌%◌, ◌<◌, ◌≤◌, ◌&&◌, ◌++◌, if◌then◌else◌, nat_le, nat_lt, true, All, Option, None, Some, inl, inr, ◌⊎◌, List, [], ◌∷◌, length, map, decimal, get_or, refl, sym, ap, ap₂, ◌∙◌, subst, arith, codes}
use Rattle.std.specs.Prelude.{AllPairs}
use Rattle.std.proofs.lemmas.Bool.Decides.{nat_tests}
use Rattle.word_ops.specs.Meanings.{count_of}
use Rattle.forms.specs.Forms as forms
use Rattle.forms.specs.Forms.{Form, name, register, number, forms_from}
use Rattle.forms.specs.Printing.{atom, list, plain_of, plains_from}
use Rattle.machine_table.specs.Grammar.{Each, more_of, IsListOf, IsNameOf}
use Rattle.machine_table.specs.Grammar as grammar
use Rattle.goal_meaning.specs.declared.goals.InputReg.{InputReg}
use Rattle.goal_meaning.specs.declared.goals.DeclaredOp.{DeclaredOp}
use Rattle.goal_reader.specs.Grammar.{IsRegister, WritesInput, WritesGoal, WritesDeclaration, WritesAxiom, WritesAssume, WritesPin, WritesTarget, axiom_scope, scope_of_goal, given, pinned, unpinned}
use Rattle.goal_reader.specs.declared.scopes.Scope.{Scope}
use Rattle.goal_meaning.specs.InputForms.{Naming, naming, goal_naming, register_plain, input_plain, pool_plain, let_plain, assume_plain, guard_plains, pin_plains, target_plain, goal_plain, declaration_plain, variable_plain, axiom_plain, term_plain}
use Rattle.goal_meaning.specs.Expanded.{let_names}
use Rattle.goal_meaning.specs.WellFormed.{input_registers}
use Rattle.goal_reader.specs.Roles.{number_of_register, is_digit}
use Rattle.goal_meaning.specs.Views.{TargetTree, GoalTree, AxiomTree}
use Rattle.goal_reader.proofs.Different.{register_low}
use Rattle.goal_reader.proofs.Moved.{name_form, number_form, list_form, listed_form, one_more_form, no_more_form, split_forms, each_from, plains_map, plains_once, term_again, assume_again, guard_again, AreNamed}
use Rattle.goal_reader.proofs.PrintedLets.{lets_again, whole_named}
use Rattle.goal_reader.proofs.PrintedNames.{axiom_named}
use Rattle.std.proofs.lemmas.Fmt.{decimal_digit, decimal_step}
use Rattle.goal_reader.proofs.ItemForms.{list_from_list}

-- ---- registers in decimal
is_below : (a b : ℕ) → a < b → nat_lt a b ≡ true
is_below a b l = grind (arith, nat_tests, l)

is_at_least : (a b : ℕ) → a ≤ b → nat_le a b ≡ true
is_at_least a b l = grind (arith, nat_tests, l)

digit_is : (a : ℕ) → 48 ≤ a → a ≤ 57 → is_digit a ≡ true
digit_is a low high = ap₂ (λ x y. x && y) (is_at_least 48 a low) (is_at_least a 57 high)

number_of_one : (r : ℕ) → r < 10 → number_of_register ((48 + r) ∷ []) ≡ Some r
unfolding number_of_register
number_of_one r low =
    let back : (48 + r) - 48 ≡ r = omega arith in
    ap (λ b. if b then Some ((48 + r) - 48) else None) (digit_is (48 + r) (omega arith) (omega (arith, low))) ∙ ap Some back

number_of_two : (q d : ℕ) → 1 ≤ q → q ≤ 3 → d < 10 → 10 * q + d < 31 → number_of_register ((48 + q) ∷ (48 + d) ∷ []) ≡ Some (10 * q + d)
unfolding number_of_register
number_of_two q d some few low small =
    let same : 10 * ((48 + q) - 48) + ((48 + d) - 48) ≡ 10 * q + d = omega arith in
    let whole : 10 * ((48 + q) - 48) + ((48 + d) - 48) < 31 = omega (arith, same, small) in
    let test : (is_digit (48 + q) && nat_le 49 (48 + q) && is_digit (48 + d) && nat_lt (10 * ((48 + q) - 48) + ((48 + d) - 48)) 31) ≡ true =
    ap₂ (λ x y. x && y) (ap₂ (λ x y. x && y) (ap₂ (λ x y. x && y) (digit_is (48 + q) (omega arith) (omega (arith, few))) (is_at_least 49 (48 + q) (omega (arith, some)))) (digit_is (48 + d) (omega arith) (omega (arith, low)))) (is_below _ 31 whole) in
    ap (λ b. if b then Some (10 * ((48 + q) - 48) + ((48 + d) - 48)) else None) test ∙ ap Some same

low_or_high : (n : ℕ) → (n < 10) ⊎ (10 ≤ n)
low_or_high n = grind arith

number_again : (r : ℕ) → r < 31 → number_of_register (decimal r) ≡ Some r
number_again r small =
    elim (low_or_high r) [
      | inl low ↦ ap number_of_register (decimal_digit r low) ∙ number_of_one r low
      | inr high ↦ (
          let q : r / 10 < 10 = omega arith in
          let shown : decimal r ≡ (48 + r / 10) ∷ (48 + r % 10) ∷ [] = decimal_step r high (omega arith) ∙ ap (λ l. l ++ (48 + r % 10) ∷ []) (decimal_digit (r / 10) q) in
          let whole : 10 * (r / 10) + r % 10 ≡ r = omega arith in
          ap number_of_register shown ∙ number_of_two (r / 10) (r % 10) (omega arith) (omega arith) (omega arith) (omega (arith, whole, small)) ∙ ap Some whole)
    ]

pub register_form : (g : Form) (r : ℕ) → r < 31 → plain_of g ≡ register_plain r → IsRegister r g
register_form (forms.atom p a) r l e = let same : a ≡ register (36 ∷ decimal r) = cc in record { place = p; bytes = 36 ∷ decimal r; is = ap (forms.atom p) same; number = number_again r l }
register_form (forms.list p ps) r l e = cc

-- ---- names and registers of a goal
input_again : (g : Form) (i : InputReg) → i.reg < 31 → plain_of g ≡ input_plain i → WritesInput g i
input_again g i low e =
    let l = listed_form (codes "in") (atom (name i.name) ∷ register_plain i.reg ∷ []) g e in
    let m = one_more_form l.0 (atom (name i.name)) (register_plain i.reg ∷ []) l.2 in
    let n = one_more_form m.1 (register_plain i.reg) [] m.4 in
    let parts = m.2 ∙ ap (λ x. m.0 ∷ x) (n.2 ∙ ap (λ x. n.0 ∷ x) (no_more_form n.1 n.4)) in
    let h = name_form m.0 i.name m.3 in
    record {
      first = m.0;
      second = n.0;
      is = subst (λ ps. IsListOf (codes "in") ps g) parts l.1;
      named = record { place = h.0; is = h.1 };
      placed = register_form n.0 i.reg low n.3;
    }

pub all_head : {X : Type 0} (P : X → Type 0) (x : X) (xs : List X) → All P (x ∷ xs) → P x
all_head P x xs h = h 0 x (omega arith)

pub all_tail : {X : Type 0} (P : X → Type 0) (x : X) (xs : List X) → All P (x ∷ xs) → All P xs
all_tail P x xs h k d l = h (suc k) d (omega (arith, l))

inputs_again : (gs : List Form) (is : List InputReg) (rest : List ℕ) → All (λ r. r < 31) (input_registers is ++ rest) → map plain_of gs ≡ map input_plain is → Each WritesInput gs is
inputs_again gs [] rest low e = subst (λ fs. Each WritesInput fs []) (sym (no_more_form gs e)) grammar.none
inputs_again gs (i ∷ is) rest low e =
    let m = one_more_form gs (input_plain i) (map input_plain is) e in
    subst (λ fs. Each WritesInput fs (i ∷ is)) (sym m.2)
    (more_of (input_again m.0 i (all_head (λ r. r < 31) i.reg (input_registers is ++ rest) low) m.3) (inputs_again m.1 is rest (all_tail (λ r. r < 31) i.reg (input_registers is ++ rest) low) m.4))

pub registers_again : (gs : List Form) (rs : List ℕ) → All (λ r. r < 31) rs → map plain_of gs ≡ map register_plain rs → Each (λ f r. IsRegister r f) gs rs
registers_again gs [] low e = subst (λ fs. Each (λ f r. IsRegister r f) fs []) (sym (no_more_form gs e)) grammar.none
registers_again gs (r ∷ rs) low e =
    let m = one_more_form gs (register_plain r) (map register_plain rs) e in
    subst (λ fs. Each (λ f r. IsRegister r f) fs (r ∷ rs)) (sym m.2)
    (more_of (register_form m.0 r (all_head (λ r. r < 31) r rs low) m.3) (registers_again m.1 rs (all_tail (λ r. r < 31) r rs low) m.4))

pub all_behind : (xs ys : List ℕ) → All (λ r. r < 31) (xs ++ ys) → All (λ r. r < 31) ys
all_behind [] ys h = h
all_behind (x ∷ xs) ys h = all_behind xs ys (all_tail (λ r. r < 31) x (xs ++ ys) h)

pub pairs_front : (xs ys : List ℕ) → AllPairs (λ a b. a ≢ b) (xs ++ ys) → AllPairs (λ a b. a ≢ b) xs
pairs_front [] ys h i j d l m = absurd (omega (arith, m))
pairs_front (x ∷ xs) ys h i j d l m = pairs_in i j l m
  where
    longer : (zs ws : List ℕ) (k : ℕ) → k < length zs → (k < length (zs ++ ws)) × (get_or (zs ++ ws) k d ≡ get_or zs k d)
    longer [] ws k l = absurd (omega (arith, l))
    longer (z ∷ zs) ws zero l = (omega arith, refl)
    longer (z ∷ zs) ws (suc k) l = let r = longer zs ws k (omega (arith, l)) in let b = r.0 in (omega (arith, b), r.1)

    pairs_in : (i j : ℕ) → i < j → j < length (x ∷ xs) → get_or (x ∷ xs) i d ≢ get_or (x ∷ xs) j d
    pairs_in i j l m =
        let a = longer (x ∷ xs) ys i (omega (arith, l, m)) in
        let b = longer (x ∷ xs) ys j m in
        λ e. h i j d l b.0 (a.1 ∙ e ∙ sym b.1)

-- ---- a target
pin_again : (ps gs : List Form) (o : Option ℕ) → WritesPin ps o → map plain_of gs ≡ pin_plains o → WritesPin gs o
pin_again _ gs _ unpinned e = subst (λ xs. WritesPin xs None) (sym (no_more_form gs e)) unpinned
pin_again _ gs _ (pinned {register = r} is) e =
    let m = one_more_form gs (register_plain r) [] e in
    subst (λ xs. WritesPin xs (Some r)) (sym (m.2 ∙ ap (λ x. m.0 ∷ x) (no_more_form m.1 m.4))) (pinned (register_form m.0 r (register_low is.bytes r is.number) m.3))

target_again : (scope : Scope) (names : Naming) (named : AreNamed scope names) (f g : Form) (t : TargetTree) → WritesTarget scope f t → plain_of g ≡ target_plain names t → WritesTarget scope g t
target_again scope names named f g t w e =
    let l = listed_form (codes "set") (atom (name t.name) ∷ (pin_plains t.pin ++ term_plain names t.value ∷ [])) g e in
    let m = one_more_form l.0 (atom (name t.name)) (pin_plains t.pin ++ term_plain names t.value ∷ []) l.2 in
    let s = split_forms m.1 (pin_plains t.pin) (term_plain names t.value ∷ []) m.4 in
    let n = one_more_form s.1 (term_plain names t.value) [] s.4 in
    let parts = m.2 ∙ ap (λ x. m.0 ∷ x) (s.2 ∙ ap (λ x. s.0 ++ x) (n.2 ∙ ap (λ x. n.0 ∷ x) (no_more_form n.1 n.4))) in
    let h = name_form m.0 t.name m.3 in
    record {
      first = m.0;
      pins = s.0;
      last = n.0;
      is = subst (λ ps. IsListOf (codes "set") ps g) parts l.1;
      named = record { place = h.0; is = h.1 };
      pin = pin_again w.pins s.0 t.pin w.pin s.3;
      value = term_again scope names named w.value n.0 n.3;
    }

-- ---- a goal
pub goal_again : (declared : List DeclaredOp) (f g : Form) (x : GoalTree) → WritesGoal declared f x → plain_of g ≡ goal_plain declared x → WritesGoal declared g x
goal_again declared f g x w e =
    let names : Naming = goal_naming declared x in
    let scope = scope_of_goal declared x in
    let low = w.rules.low in
    let apart = pairs_front (input_registers x.inputs) x.pool w.rules.registers in
    let named = whole_named declared x apart in
    let l = listed_form (codes "goal") _ g e in
    let m = one_more_form l.0 (atom (name x.name)) _ l.2 in
    let h = name_form m.0 x.name m.3 in
    let a = split_forms m.1 (map input_plain x.inputs) _ m.4 in
    let p = one_more_form a.1 (pool_plain x.pool) _ a.4 in
    let q = listed_form (codes "pool") (map register_plain x.pool) p.0 p.3 in
    let t = split_forms p.1 (map (let_plain names) x.lets) _ p.4 in
    let b = split_forms t.1 (map (assume_plain names) x.assumes) _ t.4 in
    let c = split_forms b.1 (guard_plains names x.guard) (map (target_plain names) x.sets) b.4 in
    let parts : l.0 ≡ m.0 ∷ (a.0 ++ ((p.0 ∷ []) ++ (t.0 ++ (b.0 ++ (c.0 ++ c.1))))) =
    m.2 ∙ ap (λ y. m.0 ∷ y) (a.2 ∙ ap (λ y. a.0 ++ y) (p.2 ∙ ap (λ y. p.0 ∷ y) (t.2 ∙ ap (λ y. t.0 ++ y) (b.2 ∙ ap (λ y. b.0 ++ y) c.2)))) in
    record {
      name_form = m.0;
      ins = a.0;
      pools = p.0 ∷ [];
      bindings = t.0;
      assumes = b.0;
      whens = c.0;
      sets = c.1;
      is = subst (λ ps. IsListOf (codes "goal") ps g) parts l.1;
      named = record { place = h.0; is = h.1 };
      inputs = inputs_again a.0 x.inputs x.pool low a.3;
      pool = given q.0 q.1 (registers_again q.0 x.pool (all_behind (input_registers x.inputs) x.pool low) q.2);
      lets = lets_again declared x.inputs apart (let_names x.lets) w.lets refl t.0 t.3;
      assumptions = each_from (WritesAssume scope) (assume_plain names) (assume_again scope names named) w.assumes b.0 x.assumes w.assumptions b.3;
      guard = guard_again scope names named w.whens c.0 x.guard w.guard c.3;
      targets = each_from (WritesTarget scope) (target_plain names) (target_again scope names named) w.sets c.1 x.sets w.targets c.4;
      rules = w.rules;
    }

-- ---- a declaration
pub declaration_again : (f g : Form) (o : DeclaredOp) → WritesDeclaration f o → plain_of g ≡ declaration_plain o → WritesDeclaration g o
declaration_again f g o w e =
    let l = listed_form (codes "op") (atom (name o.name) ∷ atom (number (count_of o.arity)) ∷ []) g e in
    let m = one_more_form l.0 (atom (name o.name)) _ l.2 in
    let n = one_more_form m.1 (atom (number (count_of o.arity))) [] m.4 in
    let parts = m.2 ∙ ap (λ x. m.0 ∷ x) (n.2 ∙ ap (λ x. n.0 ∷ x) (no_more_form n.1 n.4)) in
    let h = name_form m.0 o.name m.3 in
    let k = number_form n.0 (count_of o.arity) n.3 in
    record {
      first = m.0;
      second = n.0;
      is = subst (λ ps. IsListOf (codes "op") ps g) parts l.1;
      named = record { place = h.0; is = h.1 };
      counted = record { place = k.0; is = k.1 };
    }

-- ---- an axiom
names_again : (gs : List Form) (ns : List (List ℕ)) → map plain_of gs ≡ map variable_plain ns → Each (λ f n. IsNameOf n f) gs ns
names_again gs [] e = subst (λ fs. Each (λ f n. IsNameOf n f) fs []) (sym (no_more_form gs e)) grammar.none
names_again gs (n ∷ ns) e =
    let m = one_more_form gs (variable_plain n) (map variable_plain ns) e in
    let h = name_form m.0 n m.3 in
    subst (λ fs. Each (λ f n. IsNameOf n f) fs (n ∷ ns)) (sym m.2) (more_of (record { place = h.0; is = h.1 }) (names_again m.1 ns m.4))

is_list_again : (f g : Form) → forms.is_list f ≡ true → plain_of g ≡ plain_of f → forms.is_list g ≡ true
is_list_again (forms.atom p a) g l e = cc
is_list_again (forms.list p ps) (forms.atom q a) l e = cc
is_list_again (forms.list p ps) (forms.list q qs) l e = refl

pub axiom_again : (declared : List DeclaredOp) (f g : Form) (a : AxiomTree) → WritesAxiom declared f a → plain_of g ≡ axiom_plain declared a → WritesAxiom declared g a
axiom_again declared f g a w e =
    let names : Naming = naming declared [] a.variables in
    let scope = axiom_scope declared a.variables in
    let named = axiom_named declared a.variables in
    let l = listed_form (codes "axiom") _ g e in
    let m = one_more_form l.0 (list (plains_from (map variable_plain a.variables))) _ l.2 in
    let n = one_more_form m.1 (term_plain names a.left) _ m.4 in
    let o = one_more_form n.1 (term_plain names a.right) [] n.4 in
    let vs = list_form m.0 (plains_from (map variable_plain a.variables)) m.3 in
    let variables = plains_once (map plain_of (forms.forms_list vs.1)) (map variable_plain a.variables) (sym (plains_map vs.1) ∙ vs.3) in
    let first : m.0 ≡ forms.list vs.0 (forms_from (forms.forms_list vs.1)) = vs.2 ∙ ap (forms.list vs.0) (list_from_list vs.1) in
    let parts = m.2 ∙ ap (λ x. m.0 ∷ x) (n.2 ∙ ap (λ x. n.0 ∷ x) (o.2 ∙ ap (λ x. o.0 ∷ x) (no_more_form o.1 o.4))) ∙ ap (λ x. x ∷ n.0 ∷ o.0 ∷ []) first in
    record {
      place = vs.0;
      names = forms.forms_list vs.1;
      left_form = n.0;
      right_form = o.0;
      is = subst (λ ps. IsListOf (codes "axiom") ps g) parts l.1;
      variables = names_again (forms.forms_list vs.1) a.variables variables;
      some = w.some;
      differ = w.differ;
      own = w.own;
      application = is_list_again w.left_form n.0 w.application (n.3 ∙ sym (Rattle.goal_reader.proofs.Moved.term_told scope names named w.left));
      left = term_again scope names named w.left n.0 n.3;
      right = term_again scope names named w.right o.0 o.3;
      bound = w.bound;
    }
