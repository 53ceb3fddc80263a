-- Rewrite rules, kinds of computed rules and both together as ghost values, one for each of them: a type that contracts
-- see as one of them needs such a value. The values say nothing of what the rules mean.
use Rattle.std.specs.Prelude.{◌≡◌, ℕ, ◌-◌, List, ◌++◌, get_or, refl}
use Rattle.std.specs.Coded.{Coded, code_by, coded×, coded_list, coded_ℕ}
use Rattle.word_terms.specs.Codes.{tree_code, op_code, sort_code}
use Rattle.axiom_base.specs.Rewrites.{Rewrite}
use Rattle.axiom_base.specs.Schemes.{AddedRules, calc_kinds, further_kinds}
use Rattle.axiom_base.specs.declared.kinds.Calc.{Calc}
use Rattle.axiom_base.specs.declared.kinds.Calc.TheVariants.{C1, C2, C3, C4, C5, C6, C7, C8, C9, C10, C11, C12, C13, C14, C15, C16, C17, C18, C19, C20, C21, C22, C23, C24, C25, C26, C27, C28, C29, C30, C31, C32, C33, C34, C35, C36, C37}

abbrev pub rewrite_code : Coded Rewrite
rewrite_code =
    code_by _
    (coded×
    (coded_list sort_code)
    (coded× (tree_code op_code) (coded× (tree_code op_code) (coded_list (coded× coded_ℕ coded_ℕ)))))
    (λ r. (r.variables, (r.left, (r.right, r.constants))))
    (λ p. record { variables = p.0; left = p.1.0; right = p.1.1.0; constants = p.1.1.1 })
    (λ _. refl)

abbrev kind_number : Calc → ℕ
kind_number C1 = 1
kind_number C2 = 2
kind_number C3 = 3
kind_number C4 = 4
kind_number C5 = 5
kind_number C6 = 6
kind_number C7 = 7
kind_number C8 = 8
kind_number C9 = 9
kind_number C10 = 10
kind_number C11 = 11
kind_number C12 = 12
kind_number C13 = 13
kind_number C14 = 14
kind_number C15 = 15
kind_number C16 = 16
kind_number C17 = 17
kind_number C18 = 18
kind_number C19 = 19
kind_number C20 = 20
kind_number C21 = 21
kind_number C22 = 22
kind_number C23 = 23
kind_number C24 = 24
kind_number C25 = 25
kind_number C26 = 26
kind_number C27 = 27
kind_number C28 = 28
kind_number C29 = 29
kind_number C30 = 30
kind_number C31 = 31
kind_number C32 = 32
kind_number C33 = 33
kind_number C34 = 34
kind_number C35 = 35
kind_number C36 = 36
kind_number C37 = 37

abbrev kind_of_number : ℕ → Calc
kind_of_number n = get_or (calc_kinds ++ further_kinds) (n - 1) C1

pub kind_back : (kind : Calc) → kind_of_number (kind_number kind) ≡ kind
kind_back C1 = refl
kind_back _ = refl

abbrev pub kind_code : Coded Calc
kind_code = code_by ℕ coded_ℕ kind_number kind_of_number kind_back

-- as the pair of the lists
abbrev pub added_rules_code : Coded AddedRules
added_rules_code =
    code_by (List Rewrite × List Calc) (coded× (coded_list rewrite_code) (coded_list kind_code))
    (λ added. (added.axioms, added.kinds))
    (λ p. record { axioms = p.0; kinds = p.1 })
    (λ _. refl)
