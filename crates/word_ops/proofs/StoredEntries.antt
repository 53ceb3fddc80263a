-- A `BTreeMap` of words seen as a finite map.
use Rattle.std.proofs.Common.{map as mapped}
use Rattle.std.proofs.lemmas.Map.Keys.{IsStrictlyIncreasing-from_sorted}
use Rattle.std.proofs.Common.{◌≡◌, ℕ, ◌≢◌, Bool, true, false, cond, ◌==◌, ◌&&◌, T, Option, None, Some, List, [], ◌∷◌, refl, sym, ap, ◌∙◌, subst, arith}
use Rattle.std.specs.Ordering.{nat_cmp, eq_by_cmp}
use Rattle.std.specs.declared.cmp.Ordering.TheVariants.{Less}
use Rattle.std.specs.Cmp.{nat_cmp_total, eq_by_cmp_equiv}
use Rattle.std.specs.FinMap as map
use Rattle.std.specs.FinMap.{find, is_sorted, entries, entries_sorted, from_entries, get-entries, get-from_entries, same_map, nat_cmp-IsAntisymmetric}
use Rattle.std.specs.FinMap.Entries.{same_entries, below_all}
use Rattle.std.specs.BTreeMap as tree
use Rattle.std.specs.Map.{lookup, keys_of}
use Rattle.std.specs.List.{AllByRecursion}
use Rattle.std.specs.List.Sorted.{IsStrictlySortedBy, IsStrictlyIncreasing}
use Rattle.std.specs.Option.{unwrap_or}
use Rattle.word_ops.specs.Memory.{word_at, put_word}
use Rattle.std.proofs.lemmas.Bool.Decides.{nat_tests}
use Rattle.word_ops.proofs.Stored.{get-put_word}

find-lookup : (q : ℕ) (es : List (ℕ × ℕ)) → find nat_cmp q es ≡ lookup (tree.is_at (nat_cmp q)) es
find-lookup q [] = refl
find-lookup q (e ∷ es) = ap (cond (eq_by_cmp nat_cmp q e.0) (Some e.1)) (find-lookup q es)

-- what the memory holds is what the map holds
pub get_seen : (m : tree.BTreeMap ℕ ℕ) (q : ℕ) → map.get (from_entries {R = nat_cmp} m.entries) q ≡ tree.get nat_cmp m q
get_seen m q = get-from_entries nat_cmp_total m.entries q ∙ find-lookup q m.entries

pub word_at_seen : (m : tree.BTreeMap ℕ ℕ) (q : ℕ) → word_at (from_entries m.entries) q ≡ unwrap_or (tree.get nat_cmp m q) 0
unfolding word_at
word_at_seen m q = ap (λ o. unwrap_or o 0) (get_seen m q)

-- the entry at k is now w, and the others are as before
updated : (m n : tree.BTreeMap ℕ ℕ) (k q : ℕ) (w : Option ℕ) → tree.Updates nat_cmp m n k w → map.get (from_entries {R = nat_cmp} n.entries) q ≡ cond (eq_by_cmp nat_cmp q k) w (map.get (from_entries {R = nat_cmp} m.entries) q)
updated m n k q w u =
    get_seen n q ∙ u.0 q ∙ ap (λ b. cond b w (tree.get nat_cmp m q)) ((eq_by_cmp_equiv nat_cmp_total).symm k q)
    ∙ ap (cond (eq_by_cmp nat_cmp q k) w) (sym (get_seen m q))

pub put_seen : (m n : tree.BTreeMap ℕ ℕ) (k v : ℕ) → tree.Updates nat_cmp m n k (cond (v == 0) None (Some v)) → from_entries n.entries ≡ put_word (from_entries m.entries) k v
put_seen m n k v u = same_map nat_cmp_total nat_cmp-IsAntisymmetric _ _ (λ q.
    updated m n k q _ u ∙ sym (get-put_word (from_entries m.entries) k v q))

pub insert_seen : (m n : tree.BTreeMap ℕ ℕ) (k v : ℕ) → tree.Updates nat_cmp m n k (Some v) → v ≢ 0 → from_entries n.entries ≡ put_word (from_entries m.entries) k v
insert_seen m n k v u h =
    let e : cond (v == 0) None (Some v) ≡ Some v = grind (arith, nat_tests) in
    put_seen m n k v (subst (λ (w : Option ℕ). tree.Updates nat_cmp m n k w) (sym e) u)

pub remove_seen : (m n : tree.BTreeMap ℕ ℕ) (k : ℕ) → tree.Updates nat_cmp m n k None → from_entries n.entries ≡ put_word (from_entries m.entries) k 0
remove_seen m n k u = put_seen m n k 0 u

below : (x : ℕ) (es : List (ℕ × ℕ)) → AllByRecursion (λ y. nat_cmp x y ≡ Less) (keys_of es) → T (below_all nat_cmp x es)
below x [] h = tt
below x (e ∷ es) h = rw h.0 (below x es h.1)

ordered : (es : List (ℕ × ℕ)) → IsStrictlySortedBy nat_cmp (keys_of es) → T (is_sorted nat_cmp es)
unfolding IsStrictlySortedBy
ordered [] h = tt
ordered (e ∷ es) h = both _ _ (below e.0 es h.0) (ordered es h.1)
  where
    both : (a b : Bool) → T a → T b → T (a && b)
    both true b p q = q
    both false b p q = absurd p

pub entries_seen : (m : tree.BTreeMap ℕ ℕ) → tree.IsOrdered nat_cmp m → entries (from_entries {R = nat_cmp} m.entries) ≡ m.entries
entries_seen m o = same_entries nat_cmp nat_cmp_total nat_cmp-IsAntisymmetric _ _ (entries_sorted _) (ordered m.entries o)
    (λ q. sym (get-entries _ q) ∙ get-from_entries nat_cmp_total m.entries q)

keys-map : (es : List (ℕ × ℕ)) → keys_of es ≡ mapped (λ e. e.0) es
keys-map [] = refl
keys-map (e ∷ es) = ap (λ ks. e.0 ∷ ks) (keys-map es)

pub entries_rise : (m : tree.BTreeMap ℕ ℕ) → tree.IsOrdered nat_cmp m → (pairs : List (ℕ × ℕ)) → pairs ≡ m.entries → IsStrictlyIncreasing (mapped (λ pair. pair.0) pairs)
entries_rise m o pairs e =
    subst (λ (es : List (ℕ × ℕ)). IsStrictlyIncreasing (mapped (λ pair. pair.0) es)) (sym e)
    (subst IsStrictlyIncreasing (keys-map m.entries) (IsStrictlyIncreasing-from_sorted (keys_of m.entries) o))
