-- Goals, axioms and declarations that a printable form writes are printable again, no deeper, and have names.
use Rattle.std.proofs.Common.{◌≡◌, ℕ, ◌+◌, ◌<◌, ◌≤◌, ◌&&◌, ◌++◌, ◌≢◌, sym, true, All, Option, List, [], ◌∷◌, map, decimal, refl, ap, ap₂, ◌∙◌, subst, arith, codes}
use Rattle.std.specs.Bool.{⊤}
use Rattle.std.specs.Prelude.{AllPairs}
use Rattle.std.proofs.lemmas.List.Elements.{All-nil, All-cons, All-head, All-tail}
use Rattle.std.proofs.lemmas.Bool.Decides.{nat_tests}
use Rattle.std.proofs.lemmas.Fmt.{decimal_is_IsNumeral}
use Rattle.std.proofs.lemmas.Str.Parse.{digit_from_value}
use Rattle.std.specs.Char.{digit_value}
use Rattle.std.specs.List.{list_all}
use Rattle.std.specs.Str.Parse.{AllDigits}
use Rattle.forms.specs.Forms as forms
use Rattle.forms.specs.Forms.{Form, name, number, forms_from}
use Rattle.forms.specs.Printing.{Plain, atom, list, more, CanPrint, CanPrintAll, keyword_list, levels, most_levels, plain_of, plains_of, plains_from, register_text}
use Rattle.machine_table.specs.Grammar.{Each, more_of, IsListOf, IsNameOf, IsNumberOf}
use Rattle.machine_table.specs.Grammar as grammar
use Rattle.text_core.specs.Names.{IsName}
use Rattle.text_core.specs.Pieces.{is_word_byte}
use Rattle.word_ops.specs.Meanings.{count_of}
use Rattle.word_ops.specs.declared.sorts.Op.{Op}
use Rattle.word_terms.specs.Tree.{Tree}
use Rattle.goal_meaning.specs.declared.goals.InputReg.{InputReg}
use Rattle.goal_meaning.specs.declared.goals.DeclaredOp.{DeclaredOp}
use Rattle.goal_reader.specs.declared.scopes.Scope.{Scope}
use Rattle.goal_reader.specs.Grammar.{WritesInput, WritesLet, WritesLets, no_lets, one_let, scope_of_goal, WritesAssume, WritesGuard, WritesPin, WritesTarget, WritesGoal, WritesDeclaration, WritesAxiom, axiom_scope, pinned, unpinned, unguarded, guarded}
use Rattle.goal_meaning.specs.Names.{IsNamedGoal}
use Rattle.goal_meaning.specs.InputForms.{Naming, naming, goal_naming, term_plain, register_plain, input_plain, pool_plain, let_plain, assume_plain, guard_plains, pin_plains, target_plain, goal_plain, declaration_plain, variable_plain, axiom_plain}
use Rattle.goal_meaning.specs.WellFormed.{input_registers}
use Rattle.goal_meaning.specs.Expanded.{let_names}
use Rattle.goal_reader.specs.Roles.{let_scope}
use Rattle.goal_reader.specs.Scopes.{SortedName, sorted_names}
use Rattle.goal_meaning.specs.Views.{LetTree, TwoTrees, TargetTree, GoalTree, AxiomTree}
use Rattle.goal_reader.proofs.Different.{register_low}
use Rattle.goal_reader.proofs.FormsPrint.{all_back}
use Rattle.goal_reader.proofs.Moved.{AreNamed, term_told}
use Rattle.goal_reader.proofs.PrintedForms.{pairs_front}
use Rattle.goal_reader.proofs.LetScopes.{names_more}
use Rattle.goal_reader.proofs.PrintedLets.{let_named, whole_named}
use Rattle.goal_reader.proofs.PrintedNames.{axiom_named}

-- printable, with no more lists inside one another than these
abbrev pub Fits : ℕ → Plain → Type 0
Fits n p = CanPrint p × (levels p ≤ n)

abbrev pub FitAll : ℕ → List Plain → Type 0
FitAll n ps = CanPrintAll (plains_from ps) × (most_levels (plains_from ps) ≤ n)

pub fit_none : (n : ℕ) → FitAll n []
fit_none n = (tt, omega arith)

pub fit_more : (n : ℕ) (p : Plain) (ps : List Plain) → Fits n p → FitAll n ps → FitAll n (p ∷ ps)
fit_more n p ps one others = let a = one.1 in let b = others.1 in ((one.0, others.0), omega (arith, a, b))

pub fit_head : (n : ℕ) (p : Plain) (ps : List Plain) → FitAll n (p ∷ ps) → Fits n p
fit_head n p ps all = let a = all.1 in (all.0.0, omega (arith, a))

pub fit_tail : (n : ℕ) (p : Plain) (ps : List Plain) → FitAll n (p ∷ ps) → FitAll n ps
fit_tail n p ps all = let a = all.1 in (all.0.1, omega (arith, a))

pub fit_both : (n : ℕ) (ps qs : List Plain) → FitAll n ps → FitAll n qs → FitAll n (ps ++ qs)
fit_both n [] qs a b = b
fit_both n (p ∷ ps) qs a b = fit_more n p (ps ++ qs) (fit_head n p ps a) (fit_both n ps qs (fit_tail n p ps a) b)

-- forms one behind the other
pub front_fits : (n : ℕ) (fs gs : List Form) → FitAll n (map plain_of (fs ++ gs)) → FitAll n (map plain_of fs)
front_fits n [] gs all = fit_none n
front_fits n (f ∷ fs) gs all = fit_more n (plain_of f) (map plain_of fs) (fit_head n (plain_of f) (map plain_of (fs ++ gs)) all) (front_fits n fs gs (fit_tail n (plain_of f) (map plain_of (fs ++ gs)) all))

pub back_fits : (n : ℕ) (fs gs : List Form) → FitAll n (map plain_of (fs ++ gs)) → FitAll n (map plain_of gs)
back_fits n [] gs all = all
back_fits n (f ∷ fs) gs all = back_fits n fs gs (fit_tail n (plain_of f) (map plain_of (fs ++ gs)) all)

-- what each form writes is printable if the form is
pub each_fits : {Y : Type 0} (n : ℕ) (W : Form → Y → Type 0) (p : Y → Plain) (P : Y → Type 0) → ((f : Form) (y : Y) → W f y → Fits n (plain_of f) → Fits n (p y) × P y) → (fs : List Form) (ys : List Y) → Each W fs ys → FitAll n (map plain_of fs) → FitAll n (map p ys) × All P ys
each_fits n W p P step _ _ grammar.none all = (fit_none n, All-nil P)
each_fits n W p P step _ _ (more_of {form = f} {forms = fs} {y = y} {ys = ys} one others) all =
    let here = step f y one (fit_head n (plain_of f) (map plain_of fs) all) in
    let rest = each_fits n W p P step fs ys others (fit_tail n (plain_of f) (map plain_of fs) all) in
    (fit_more n (p y) (map p ys) here.0 rest.0, All-cons P y ys here.1 rest.1)

-- ---- lists behind keywords
from_list : (fs : List Form) → plains_of (forms_from fs) ≡ plains_from (map plain_of fs)
from_list [] = refl
from_list (f ∷ fs) = ap (more (plain_of f)) (from_list fs)

pub list_told : (place : ℕ) (fs : List Form) (g : Form) → g ≡ forms.list place (forms_from fs) → plain_of g ≡ list (plains_from (map plain_of fs))
list_told place fs g e = ap plain_of e ∙ ap list (from_list fs)

pub listed_told : (word : List ℕ) (parts : List Form) (g : Form) → IsListOf word parts g → plain_of g ≡ keyword_list word (map plain_of parts)
listed_told word parts g is = ap plain_of is.is ∙ ap (λ ps. list (more (atom (name word)) ps)) (from_list parts)

pub parts_fit : (n : ℕ) (word : List ℕ) (parts : List Form) (g : Form) → IsListOf word parts g → Fits (1 + n) (plain_of g) → FitAll n (map plain_of parts)
parts_fit n word parts g is fits =
    let h = subst (Fits (1 + n)) (listed_told word parts g is) fits in
    let a = h.1 in
    (h.0.1, omega (arith, a))

pub listed_fits : (n : ℕ) (word : List ℕ) (ps : List Plain) → IsName word → FitAll n ps → Fits (1 + n) (keyword_list word ps)
listed_fits n word ps named all = let a = all.1 in ((named, all.0), omega (arith, a))

pub name_told : (bytes : List ℕ) (g : Form) → IsNameOf bytes g → plain_of g ≡ atom (name bytes)
name_told bytes g is = ap plain_of is.is

pub number_told : (k : ℕ) (g : Form) → IsNumberOf k g → plain_of g ≡ atom (number k)
number_told k g is = ap plain_of is.is

-- ---- registers
digit_word : (b : ℕ) → digit_value b < 10 → is_word_byte b ≡ true
digit_word b h = let r = digit_from_value b h in grind (arith, nat_tests, r.0, r.1)

digits_words : (bs : List ℕ) → AllDigits 10 bs → list_all is_word_byte bs ≡ true
digits_words [] h = refl
digits_words (b ∷ bs) h = ap₂ (λ x y. x && y) (digit_word b h.0) (digits_words bs h.1)

pub register_fits : (n r : ℕ) → r < 31 → Fits n (register_plain r)
register_fits n r low = (register_text (digits_words (decimal r) (decimal_is_IsNumeral r (omega (arith, low))).0.1), omega arith)

registers_fit : (n : ℕ) (rs : List ℕ) → All (λ r. r < 31) rs → FitAll n (map register_plain rs)
registers_fit n [] low = fit_none n
registers_fit n (r ∷ rs) low = fit_more n (register_plain r) (map register_plain rs) (register_fits n r (All-head (λ x. x < 31) r rs low)) (registers_fit n rs (All-tail (λ x. x < 31) r rs low))

pub pool_fits : (n : ℕ) (rs : List ℕ) → All (λ r. r < 31) rs → Fits (1 + n) (pool_plain rs)
pool_fits n rs low = listed_fits n (codes "pool") (map register_plain rs) (record { begins = refl; each = refl }) (registers_fit n rs low)

pin_fits : (n : ℕ) (ps : List Form) (o : Option ℕ) → WritesPin ps o → FitAll n (pin_plains o)
pin_fits n _ _ unpinned = fit_none n
pin_fits n _ _ (pinned {register = r} is) = fit_more n (register_plain r) [] (register_fits n r (register_low is.bytes r is.number)) (fit_none n)

-- ---- the items of a goal
abbrev HasLetName : LetTree → Type 0
HasLetName l = IsName l.name

abbrev HasName : InputReg → Type 0
HasName i = IsName i.name

input_fits : (n : ℕ) (f : Form) (i : InputReg) → WritesInput f i → Fits (1 + n) (plain_of f) → Fits (1 + n) (input_plain i) × HasName i
input_fits n f i w fits =
    let parts = parts_fit n (codes "in") (w.first ∷ w.second ∷ []) f w.is fits in
    let named = subst (Fits n) (name_told i.name w.first w.named) (fit_head n (plain_of w.first) (plain_of w.second ∷ []) parts) in
    let low = register_low w.placed.bytes i.reg w.placed.number in (
      listed_fits n (codes "in") (atom (name i.name) ∷ register_plain i.reg ∷ []) (record { begins = refl; each = refl })
          (fit_more n (atom (name i.name)) (register_plain i.reg ∷ []) named (fit_more n (register_plain i.reg) [] (register_fits n i.reg low) (fit_none n))),
      named.0,
    )

module _ (scope : Scope) (names : Naming) (named : AreNamed scope names) where
  assume_told : (f : Form) (a : TwoTrees) → WritesAssume scope f a → plain_of f ≡ assume_plain names a
  assume_told f a w =
      listed_told (codes "assume") (w.first ∷ w.second ∷ []) f w.is
      ∙ ap₂ (λ x y. keyword_list (codes "assume") (x ∷ y ∷ [])) (term_told scope names named w.left) (term_told scope names named w.right)

  guard_told : (fs : List Form) (t : Option (Tree Op)) → WritesGuard scope fs t → map plain_of fs ≡ guard_plains names t
  guard_told _ _ unguarded = refl
  guard_told _ _ (guarded {form = f} one is w) = ap (λ p. p ∷ []) (listed_told (codes "when") (one ∷ []) f is ∙ ap (λ x. keyword_list (codes "when") (x ∷ [])) (term_told scope names named w))

  let_told : (f : Form) (l : LetTree) → WritesLet scope f l → plain_of f ≡ let_plain names l
  let_told f l w =
      listed_told (codes "let") (w.first ∷ w.second ∷ []) f w.is
      ∙ ap₂ (λ x y. keyword_list (codes "let") (x ∷ y ∷ [])) (name_told l.name w.first w.named) (term_told scope names named w.value)

  assume_fits : (n : ℕ) (f : Form) (a : TwoTrees) → WritesAssume scope f a → Fits n (plain_of f) → Fits n (assume_plain names a) × ⊤
  assume_fits n f a w fits = (subst (Fits n) (assume_told f a w) fits, tt)

  target_fits : (n : ℕ) (f : Form) (t : TargetTree) → WritesTarget scope f t → Fits (1 + n) (plain_of f) → Fits (1 + n) (target_plain names t) × IsName t.name
  target_fits n f t w fits =
      let value = term_plain names t.value in
      let parts = parts_fit n (codes "set") (w.first ∷ (w.pins ++ w.last ∷ [])) f w.is fits in
      let behind = fit_tail n (plain_of w.first) (map plain_of (w.pins ++ w.last ∷ [])) parts in
      let own = subst (Fits n) (name_told t.name w.first w.named) (fit_head n (plain_of w.first) (map plain_of (w.pins ++ w.last ∷ [])) parts) in
      let last = subst (Fits n) (term_told scope names named w.value) (fit_head n (plain_of w.last) [] (back_fits n w.pins (w.last ∷ []) behind)) in (
        listed_fits n (codes "set") (atom (name t.name) ∷ (pin_plains t.pin ++ value ∷ [])) (record { begins = refl; each = refl })
            (fit_more n (atom (name t.name)) (pin_plains t.pin ++ value ∷ []) own (fit_both n (pin_plains t.pin) (value ∷ []) (pin_fits n w.pins t.pin w.pin) (fit_more n value [] last (fit_none n)))),
        own.0,
      )

-- lets, whose terms are written over those before them
lets_fit : (n : ℕ) (declared : List DeclaredOp) (inputs : List InputReg) → AllPairs (λ a b. a ≢ b) (input_registers inputs) → (all : List (List ℕ)) {before : List SortedName} {fs : List Form} {ls : List LetTree}
    → WritesLets declared inputs before fs ls → all ≡ sorted_names before ++ let_names ls → FitAll n (map plain_of fs) → FitAll n (map (let_plain (naming declared inputs all)) ls) × All HasLetName ls
lets_fit n declared inputs apart all no_lets is fits = (fit_none n, All-nil HasLetName)
lets_fit n declared inputs apart all (one_let {before = before} {form = f} {forms = fs} {one = l} {others = ls} one others) is fits =
    let names : Naming = naming declared inputs all in
    let scope = let_scope declared inputs before in
    let named = subst (λ ns. AreNamed scope (naming declared inputs ns)) (sym is) (let_named declared inputs before (let_names (l ∷ ls)) apart) in
    let here : Fits n (let_plain names l) = subst (Fits n) (let_told scope names named f l one) (fit_head n (plain_of f) (map plain_of fs) fits) in
    let rest = lets_fit n declared inputs apart all others (is ∙ sym (names_more before l (let_names ls))) (fit_tail n (plain_of f) (map plain_of fs) fits) in
    (fit_more n (let_plain names l) (map (let_plain names) ls) here rest.0, All-cons HasLetName l ls here.0.1.0 rest.1)

-- ---- a goal
pub goal_fits : (n : ℕ) (declared : List DeclaredOp) (f : Form) (g : GoalTree) → WritesGoal declared f g → Fits (1 + (1 + n)) (plain_of f) → Fits (1 + (1 + n)) (goal_plain declared g) × IsNamedGoal g
goal_fits n declared f g w fits =
    let names : Naming = goal_naming declared g in
    let scope = scope_of_goal declared g in
    let apart = pairs_front (input_registers g.inputs) g.pool w.rules.registers in
    let named = whole_named declared g apart in
    let after_lets = w.assumes ++ (w.whens ++ w.sets) in
    let after_pools = w.bindings ++ after_lets in
    let items = w.ins ++ (w.pools ++ after_pools) in
    let parts = parts_fit (1 + n) (codes "goal") (w.name_form ∷ items) f w.is fits in
    let own = subst (Fits (1 + n)) (name_told g.name w.name_form w.named) (fit_head (1 + n) (plain_of w.name_form) (map plain_of items) parts) in
    let all = fit_tail (1 + n) (plain_of w.name_form) (map plain_of items) parts in
    let from_lets = back_fits (1 + n) w.pools after_pools (back_fits (1 + n) w.ins (w.pools ++ after_pools) all) in
    let behind = back_fits (1 + n) w.bindings after_lets from_lets in
    let last = back_fits (1 + n) w.assumes (w.whens ++ w.sets) behind in
    let ins = each_fits (1 + n) WritesInput input_plain HasName (input_fits n) w.ins g.inputs w.inputs (front_fits (1 + n) w.ins (w.pools ++ after_pools) all) in
    let lets = lets_fit (1 + n) declared g.inputs apart (let_names g.lets) w.lets refl (front_fits (1 + n) w.bindings after_lets from_lets) in
    let assumes = each_fits (1 + n) (WritesAssume scope) (assume_plain names) (λ a. ⊤) (assume_fits scope names named (1 + n)) w.assumes g.assumes w.assumptions (front_fits (1 + n) w.assumes (w.whens ++ w.sets) behind) in
    let guard = subst (FitAll (1 + n)) (guard_told scope names named w.whens g.guard w.guard) (front_fits (1 + n) w.whens w.sets last) in
    let sets = each_fits (1 + n) (WritesTarget scope) (target_plain names) (λ t. IsName t.name) (target_fits scope names named n) w.sets g.sets w.targets (back_fits (1 + n) w.whens w.sets last) in
    let pool = pool_fits n g.pool (all_back (λ r. r < 31) (input_registers g.inputs) g.pool w.rules.low) in
    let last_plains = guard_plains names g.guard ++ map (target_plain names) g.sets in
    let assume_plains = map (assume_plain names) g.assumes ++ last_plains in
    let plains_behind = map (let_plain names) g.lets ++ assume_plains in
    let item_plains = map input_plain g.inputs ++ pool_plain g.pool ∷ plains_behind in (
      listed_fits (1 + n) (codes "goal") (atom (name g.name) ∷ item_plains) (record { begins = refl; each = refl })
          (fit_more (1 + n) (atom (name g.name)) item_plains own
          (fit_both (1 + n) (map input_plain g.inputs) (pool_plain g.pool ∷ plains_behind) ins.0
          (fit_more (1 + n) (pool_plain g.pool) plains_behind pool
          (fit_both (1 + n) (map (let_plain names) g.lets) assume_plains lets.0
          (fit_both (1 + n) (map (assume_plain names) g.assumes) last_plains assumes.0 (fit_both (1 + n) (guard_plains names g.guard) (map (target_plain names) g.sets) guard sets.0)))))),
      record { own = own.0; inputs = ins.1; lets = lets.1; targets = sets.1 },
    )

-- ---- a declaration and an axiom
declaration_told : (f : Form) (o : DeclaredOp) → WritesDeclaration f o → plain_of f ≡ declaration_plain o
declaration_told f o w =
    listed_told (codes "op") (w.first ∷ w.second ∷ []) f w.is
    ∙ ap₂ (λ x y. keyword_list (codes "op") (x ∷ y ∷ [])) (name_told o.name w.first w.named) (number_told (count_of o.arity) w.second w.counted)

pub declaration_fits : (n : ℕ) (f : Form) (o : DeclaredOp) → WritesDeclaration f o → Fits n (plain_of f) → Fits n (declaration_plain o) × IsName o.name
declaration_fits n f o w fits = let h = subst (Fits n) (declaration_told f o w) fits in (h, h.0.1.0)

variables_told : (fs : List Form) (ns : List (List ℕ)) → Each (λ f n. IsNameOf n f) fs ns → map plain_of fs ≡ map variable_plain ns
variables_told _ _ grammar.none = refl
variables_told _ _ (more_of {form = f} {forms = fs} {y = n} {ys = ns} one others) = ap₂ (λ p ps. p ∷ ps) (name_told n f one) (variables_told fs ns others)

axiom_told : (declared : List DeclaredOp) (f : Form) (a : AxiomTree) → WritesAxiom declared f a → plain_of f ≡ axiom_plain declared a
axiom_told declared f a w =
    let names : Naming = naming declared [] a.variables in
    let scope = axiom_scope declared a.variables in
    let named = axiom_named declared a.variables in
    listed_told (codes "axiom") (forms.list w.place (forms_from w.names) ∷ w.left_form ∷ w.right_form ∷ []) f w.is
    ∙ ap₂ (λ x y. keyword_list (codes "axiom") (x ∷ y ∷ plain_of w.right_form ∷ [])) (list_told w.place w.names (forms.list w.place (forms_from w.names)) refl ∙ ap (λ ps. list (plains_from ps)) (variables_told w.names a.variables w.variables)) (term_told scope names named w.left)
    ∙ ap (λ y. keyword_list (codes "axiom") (list (plains_from (map variable_plain a.variables)) ∷ term_plain names a.left ∷ y ∷ [])) (term_told scope names named w.right)

variables_named : (ns : List (List ℕ)) → CanPrintAll (plains_from (map variable_plain ns)) → All IsName ns
variables_named [] all = All-nil IsName
variables_named (n ∷ ns) all = All-cons IsName n ns all.0 (variables_named ns all.1)

pub axiom_fits : (n : ℕ) (declared : List DeclaredOp) (f : Form) (a : AxiomTree) → WritesAxiom declared f a → Fits n (plain_of f) → Fits n (axiom_plain declared a) × All IsName a.variables
axiom_fits n declared f a w fits = let h = subst (Fits n) (axiom_told declared f a w) fits in (h, variables_named a.variables h.0.1.0)
