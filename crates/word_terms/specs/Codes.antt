-- Trees, operators and sorts as ghost values, one for each of them: a type that contracts see as one of them needs such
-- a value. The values say nothing of what they mean.
use Rattle.std.specs.Prelude.{◌≡◌, ℕ, ◌==◌, if◌then◌else◌, refl}
use Rattle.std.specs.Coded.{Coded, code_by, coded×, coded_ℕ}
use Rattle.std.proofs.Common.{ap, sym, arith}
use base.Stored.{Gv, gnil, gnum, gcons, num, coded_via}
use Rattle.word_ops.specs.declared.sorts.Op.{Op}
use Rattle.word_ops.specs.declared.sorts.Sort.{Sort}
use Rattle.word_ops.specs.declared.sorts.Sort.TheVariants as sorts
use Rattle.word_terms.specs.Keys.{key_of}
use Rattle.word_terms.specs.Laws.{op_key_is_own}
use Rattle.word_terms.specs.Tree.{Tree, Trees, variable, application, none, more}

abbrev head : Gv → Gv
head gnil = gnil
head (gnum n) = gnil
head (gcons a b) = a

abbrev tail : Gv → Gv
tail gnil = gnil
tail (gnum n) = gnil
tail (gcons a b) = b

abbrev is_pair : Gv → ℕ
is_pair gnil = 0
is_pair (gnum n) = 0
is_pair (gcons a b) = 1

apart : (a b : ℕ) → a ≡ 0 → b ≡ 1 → a ≡ b → ⊥
apart a b zero_is one_is e = absurd (omega arith)

module _ {O : Type 0} (operator : Coded O) where
  abbrev mutual
    pub coded_tree : Tree O → Gv
    coded_tree (variable n) = gcons (gnum 0) (gnum n)
    coded_tree (application op ts) = gcons (gnum 1) (gcons (operator.code op) (coded_trees ts))

    pub coded_trees : Trees O → Gv
    coded_trees none = gnum 0
    coded_trees (more t ts) = gcons (coded_tree t) (coded_trees ts)

  mutual
    pub coded_tree_is_own : (s t : Tree O) → coded_tree s ≡ coded_tree t → s ≡ t
    coded_tree_is_own (variable m) (variable n) e = ap (λ g. variable (num (tail g))) e
    coded_tree_is_own (variable m) (application op ts) e = absurd (apart 0 1 refl refl (ap (λ g. num (head g)) e))
    coded_tree_is_own (application op ts) (variable n) e = absurd (apart 0 1 refl refl (sym (ap (λ g. num (head g)) e)))
    coded_tree_is_own (application op ts) (application other us) e =
        let operators = operator.inj op other (ap (λ g. head (tail g)) e) in
        let operands = coded_trees_is_own ts us (ap (λ g. tail (tail g)) e) in
        λ i. application (operators i) (operands i)

    pub coded_trees_is_own : (ss ts : Trees O) → coded_trees ss ≡ coded_trees ts → ss ≡ ts
    coded_trees_is_own none none e = λ i. none
    coded_trees_is_own none (more t ts) e = absurd (apart 0 1 refl refl (ap is_pair e))
    coded_trees_is_own (more s ss) none e = absurd (apart 0 1 refl refl (sym (ap is_pair e)))
    coded_trees_is_own (more s ss) (more t ts) e =
        λ i. more (coded_tree_is_own s t (ap head e) i) (coded_trees_is_own ss ts (ap tail e) i)

  abbrev pub tree_code : Coded (Tree O)
  tree_code = record { code = coded_tree; inj = coded_tree_is_own }

abbrev sort_number : Sort → ℕ
sort_number sorts.Word = 0
sort_number sorts.Memory = 1

abbrev sort_of_number : ℕ → Sort
sort_of_number n = if n == 0 then sorts.Word else sorts.Memory

pub sort_back : (sort : Sort) → sort_of_number (sort_number sort) ≡ sort
sort_back sorts.Word = refl
sort_back sorts.Memory = refl

abbrev pub sort_code : Coded Sort
sort_code = code_by ℕ coded_ℕ sort_number sort_of_number sort_back

abbrev pub op_code : Coded Op
op_code = coded_via (coded× coded_ℕ coded_ℕ) key_of op_key_is_own
