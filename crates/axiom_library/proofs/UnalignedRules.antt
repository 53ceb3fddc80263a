-- The equations of two bytes at any address are rules, and true. What memories hold is what `word_ops` promises, given
-- here as arguments.
use Rattle.std.proofs.Common.{◌≡◌, ◌≢◌, ℕ, ◌^◌, ◌<◌, List, length, refl, ap, subst, arith, rules}
use Rattle.std.specs.Prelude.{All}
use Rattle.word_ops.specs.Memory.{Memory, IsMemory, word_at, put_word, loaded, stored}
use Rattle.word_ops.specs.declared.sorts.Access.{Access}
use Rattle.word_ops.specs.Words.{IsWord}
use Rattle.word_ops.specs.Meanings.{as_memory}
use Rattle.word_ops.specs.Operators.{operate_value, value_at}
use Rattle.word_ops.specs.Worlds.{Value, word, memory, World, IsValue}
use Rattle.word_ops.specs.declared.sorts.Sort.TheVariants as sorts
use Rattle.word_terms.specs.Sorting.{sort_at}
use Rattle.axiom_base.specs.Rewrites.{Rewrite, AreValuesFor, IsRule, IsTrueIn}
use Rattle.axiom_base.proofs.Rows.{Each, done, ◌▸◌, All-Each}
use Rattle.axiom_base.proofs.Variables.{value_at_number, has_its_sort, in_range}
use Rattle.axiom_library.specs.Asked.{equations_of}
use Rattle.axiom_library.specs.Unaligned.{unaligned_load, unaligned_store, unaligned_equations}
use Rattle.axiom_library.specs.declared.families.Family.{Family}
use Rattle.axiom_library.specs.declared.families.Family.TheVariants as families
use Rattle.axiom_library.proofs.TwoStores.{load_of_words, put_of_words}

-- ---- rules

are_rules : Each IsRule unaligned_equations
are_rules = search rules ▸ search rules ▸ done

pub equations_are_rules : (family : Family) → All IsRule (equations_of family)
equations_are_rules families.Unaligned = All-Each _ _ are_rules
equations_are_rules _ = All-Each _ _ done

-- ---- the memory, which is variable 0

memory_in_range : (v : Value) → IsValue sorts.Memory v → IsMemory (as_memory v)
memory_in_range (word n) h = absurd h
memory_in_range (memory m) h = h

m_in_range :
    (r : Rewrite) (values : List Value) →
    AreValuesFor r values →
    0 < length r.variables →
    sort_at r.variables 0 ≡ sorts.Memory →
    IsMemory (as_memory (value_at_number values 0))
m_in_range r values fits l e =
    memory_in_range (value_at_number values 0)
    (subst (λ s. IsValue s (value_at_number values 0)) e (has_its_sort r values fits 0 l))

-- ---- true

module _
    (world : World) (names : ℕ → List ℕ)
    (loaded-lt : (access : Access) (m : Memory) (a : ℕ) → IsMemory m → IsWord (loaded access m a))
    (reads : (m : Memory) (place v : ℕ) → word_at (put_word m place v) place ≡ v)
    (others : (m : Memory) (place v other : ℕ) → other ≢ place → word_at (put_word m place v) other ≡ word_at m other)
    (again : (m : Memory) (place v w : ℕ) → put_word (put_word m place v) place w ≡ put_word m place w)
    (is_memory : (m : Memory) (place v : ℕ) → IsMemory m → place < 2 ^ 61 → IsWord v → IsMemory (put_word m place v))
    (equal : (m n : Memory) → IsMemory m → IsMemory n → ((place : ℕ) → word_at m place ≡ word_at n place) → m ≡ n)
  where
    are_true : Each (IsTrueIn world names) unaligned_equations
    unfolding value_at operate_value loaded stored
    are_true =
        (λ vs f. ap word (load_of_words loaded-lt _ _
        (m_in_range unaligned_load vs f (omega arith) refl)
        (in_range unaligned_load vs f 1 (omega arith) refl)))
        ▸ (λ vs f. ap memory (put_of_words loaded-lt reads others again is_memory equal _ _ _
        (m_in_range unaligned_store vs f (omega arith) refl)
        (in_range unaligned_store vs f 1 (omega arith) refl)
        (in_range unaligned_store vs f 2 (omega arith) refl)))
        ▸ done

    pub equations_are_true : (family : Family) → All (IsTrueIn world names) (equations_of family)
    equations_are_true families.Unaligned = All-Each _ _ are_true
    equations_are_true _ = All-Each _ _ done
