-- Exactly one of two: the schedule fits, or some rule is the least that is broken, by some first launch.
use Rattle.std.proofs.Common.{◌≡◌, ℕ, zero, suc, ◌+◌, ◌<◌, ◌≤◌, List, [], ◌∷◌, length, refl, sym, ◌∙◌, ap, subst, inl, inr, ◌⊎◌, arith, get_or, Some, None}
use Rattle.std.specs.Prelude.{All, AllPairs, IsTrue, slice_get}
use Rattle.std.proofs.lemmas.Option.{get_or_from_slice_get, slice_get-get_or, slice_get_cases}
use Rattle.schedule_meaning.specs.Launches.{launches, is_store, memory_class_at}
use Rattle.schedule_meaning.specs.Fits.{CanLaunch, CanGo, Collide, CanRead, EndsBy, UsesMemory, Waits, KeepsMemory, Fits, IsLeft}
use Rattle.schedule_meaning.specs.Broken.{number, Asks, AsksOfAll, IsKept, Breaks, at, whole, IsFirstBroken}
use Rattle.schedule_meaning.specs.declared.fitting.Rule.{Rule}
use Rattle.schedule_meaning.specs.declared.fitting.Rule.TheVariants.{Rows, Apart, Operands, InTime, Targets, Memory, OneBranch, AfterBranch, Pool}
use Rattle.machine_table.specs.declared.tables.Table.{Table}
use Rattle.graph_meaning.specs.declared.graphs.LaunchGraph.{LaunchGraph}
use Rattle.schedule_meaning.specs.declared.schedules.Allocation.{Allocation}
use Rattle.schedule_meaning.specs.declared.schedules.Launch.{Launch}
use Rattle.schedule_meaning.proofs.Memory as mem
use Rattle.machine_table.proofs.Decide.{Dec}
use Rattle.schedule_meaning.proofs.Decide.{HoldBelow, FailsFirst}

none_some : {X : Type 0} (x : X) → None ≡ Some x → ⊥
none_some x h = cc

pub in_list : {X : Type 0} (xs : List X) (i : ℕ) (x : X) → slice_get xs i ≡ Some x → i < length xs
in_list xs i x e = elim ((slice_get_cases xs i).1) [ inl h ↦ h.1 | inr h ↦ (let n : None ≡ Some x = sym h.1 ∙ e in absurd (none_some x n)) ]

pub at_each : {X : Type 0} (P : X → Type 0) (xs : List X) → All P xs → (j : ℕ) (m : X) → slice_get xs j ≡ Some m → P m
at_each P xs h j m e = subst P (get_or_from_slice_get xs j m m e) (h j m (in_list xs j m e))

pub all_at : {X : Type 0} (P : X → Type 0) (xs : List X) → ((j : ℕ) (m : X) → j < length xs → slice_get xs j ≡ Some m → P m) → All P xs
all_at P xs h k d l = h k (get_or xs k d) l (slice_get-get_or xs k d l)

-- a fact of all pairs, at two places
pub at_pair : {X : Type 0} (R : X → X → Type 0) (xs : List X) → AllPairs R xs → (i j : ℕ) (a b : X) → i < j → slice_get xs i ≡ Some a → slice_get xs j ≡ Some b → R a b
at_pair R xs h i j a b lt ea eb =
    let r : R (get_or xs i a) (get_or xs j a) = h i j a lt (in_list xs j b eb) in
    let s : R a (get_or xs j a) = subst (λ x. R x (get_or xs j a)) (get_or_from_slice_get xs i a a ea) r in
    subst (λ x. R a x) (get_or_from_slice_get xs j b a eb) s

module _ (g : LaunchGraph) (table : Table) (allocation : Allocation) (k : ℕ) (ls : List Launch) where
  kept_memory : KeepsMemory g ls → IsKept g table allocation k ls Memory
  kept_memory f =
      let t = mem.after_all ls in
      record {
        each = λ j m l e. record {
          reads = λ u. mem.left_once g ls f.single m.cycle _ _ (at_each (λ l. UsesMemory g l → IsLeft g ls l.cycle (memory_class_at g l.row)) ls f.each j m e u) (mem.memory_before_is g m.cycle ls);
          single = λ s i n lt ei both. at_pair (λ l m. IsTrue (launches g is_store l) → IsTrue (launches g is_store m) → ¬ (l.cycle ≡ m.cycle)) ls f.single i j n m lt ei e both.0 s both.1;
        };
        whole = mem.after_is_before g ls t.0 t.1 ∙ mem.left_once g ls f.single t.0 _ _ (mem.memory_before_is g t.0 ls) (f.last t.0 t.1);
      }

  pub kept_where_fits : Fits g table allocation k ls → (r : Rule) → IsKept g table allocation k ls r
  kept_where_fits f Rows =
      record {
        each = λ j m l e.
            (at_each (CanLaunch g table) ls f.rows j m e, at_each (CanGo g allocation ls) ls f.destinations j m e);
        whole = tt;
      }
  kept_where_fits f Apart = record { each = λ j m l e i n lt ei c. at_pair (λ l m. ¬ Collide l m) ls f.apart i j n m lt ei e (sym c.0, sym c.1); whole = tt }
  kept_where_fits f Operands = record { each = λ j m l e. at_each (CanRead g table ls) ls f.operands j m e; whole = tt }
  kept_where_fits f InTime = record { each = λ j m l e. at_each (EndsBy g table k) ls f.in_time j m e; whole = tt }
  kept_where_fits f Targets = record { each = λ j m l e. tt; whole = f.targets }
  kept_where_fits f Memory = kept_memory f.memory
  kept_where_fits f OneBranch = record { each = λ j m l e. tt; whole = f.one_branch }
  kept_where_fits f AfterBranch = record { each = λ j m l e. at_each (Waits g ls) ls f.after_branch j m e; whole = tt }
  kept_where_fits f Pool = record { each = λ j m l e. tt; whole = f.pool }

  fits_memory : IsKept g table allocation k ls Memory → KeepsMemory g ls
  fits_memory h = record {
    each = all_at (λ l. UsesMemory g l → IsLeft g ls l.cycle (memory_class_at g l.row)) ls (λ j m l e u. subst (λ c. IsLeft g ls m.cycle c) (sym ((h.each j m l e).reads u)) (mem.memory_before_is g m.cycle ls));
    single = λ i j d lt len si sj same. (h.each j (get_or ls j d) len (slice_get-get_or ls j d len)).single sj i (get_or ls i d) lt (slice_get-get_or ls i d (omega arith)) (si, same);
    last = λ t after. subst (λ c. IsLeft g ls t c) (sym (mem.after_is_before g ls t after) ∙ h.whole) (mem.memory_before_is g t ls);
  }

  pub fits_where_kept : ((r : Rule) → IsKept g table allocation k ls r) → Fits g table allocation k ls
  fits_where_kept h = record {
    rows = all_at (CanLaunch g table) ls (λ j m l e. ((h Rows).each j m l e).0);
    destinations = all_at (CanGo g allocation ls) ls (λ j m l e. ((h Rows).each j m l e).1);
    apart = λ i j d lt len c. (h Apart).each j (get_or ls j d) len (slice_get-get_or ls j d len) i (get_or ls i d) lt (slice_get-get_or ls i d (omega arith)) (sym c.0, sym c.1);
    operands = all_at (CanRead g table ls) ls (h Operands).each;
    in_time = all_at (EndsBy g table k) ls (h InTime).each;
    targets = (h Targets).whole;
    memory = fits_memory (h Memory);
    one_branch = (h OneBranch).whole;
    after_branch = all_at (Waits g ls) ls (h AfterBranch).each;
    pool = (h Pool).whole;
  }

  not_both : (r : Rule) (i : ℕ) → IsKept g table allocation k ls r → Breaks g table allocation k ls r i → ⊥
  not_both r _ h (at i l e below n) = n (h.each i l (in_list ls i l e) e)
  not_both r _ h (whole below n) = n h.whole

  -- never both
  pub broken_does_not_fit : (i r : ℕ) → IsFirstBroken g table allocation k ls i r → ¬ Fits g table allocation k ls
  broken_does_not_fit i r b f = not_both b.which i (kept_where_fits f b.which) b.broken

-- ---- the two cases, found by computing

abbrev rule_from : ℕ → Rule
rule_from zero = Rows
rule_from (suc zero) = Rows
rule_from (suc (suc zero)) = Apart
rule_from (suc (suc (suc zero))) = Operands
rule_from (suc (suc (suc (suc zero)))) = InTime
rule_from (suc (suc (suc (suc (suc zero))))) = Targets
rule_from (suc (suc (suc (suc (suc (suc zero)))))) = Memory
rule_from (suc (suc (suc (suc (suc (suc (suc zero))))))) = OneBranch
rule_from (suc (suc (suc (suc (suc (suc (suc (suc zero)))))))) = AfterBranch
rule_from (suc (suc (suc (suc (suc (suc (suc (suc (suc n))))))))) = Pool

rule_back : (r : Rule) → rule_from (number r) ≡ r
rule_back Rows = refl
rule_back Apart = refl
rule_back Operands = refl
rule_back InTime = refl
rule_back Targets = refl
rule_back Memory = refl
rule_back OneBranch = refl
rule_back AfterBranch = refl
rule_back Pool = refl

pub same_rule : (r s : Rule) → number r ≡ number s → r ≡ s
same_rule r s e = sym (rule_back r) ∙ ap rule_from e ∙ rule_back s

pub number_high : (r : Rule) → number r ≤ 9
number_high Rows = omega arith
number_high Apart = omega arith
number_high Operands = omega arith
number_high InTime = omega arith
number_high Targets = omega arith
number_high Memory = omega arith
number_high OneBranch = omega arith
number_high AfterBranch = omega arith
number_high Pool = omega arith

number_low : (r : Rule) → 1 ≤ number r
number_low Rows = omega arith
number_low Apart = omega arith
number_low Operands = omega arith
number_low InTime = omega arith
number_low Targets = omega arith
number_low Memory = omega arith
number_low OneBranch = omega arith
number_low AfterBranch = omega arith
number_low Pool = omega arith

-- all rules, in the order of their numbers
abbrev pub all_rules : List Rule
all_rules = Rows ∷ Apart ∷ Operands ∷ InTime ∷ Targets ∷ Memory ∷ OneBranch ∷ AfterBranch ∷ Pool ∷ []

pub number_at : (i : ℕ) (d : Rule) → i < 9 → number (get_or all_rules i d) ≡ i + 1
number_at zero d h = refl
number_at (suc zero) d h = refl
number_at (suc (suc zero)) d h = refl
number_at (suc (suc (suc zero))) d h = refl
number_at (suc (suc (suc (suc zero)))) d h = refl
number_at (suc (suc (suc (suc (suc zero))))) d h = refl
number_at (suc (suc (suc (suc (suc (suc zero)))))) d h = refl
number_at (suc (suc (suc (suc (suc (suc (suc zero))))))) d h = refl
number_at (suc (suc (suc (suc (suc (suc (suc (suc zero)))))))) d h = refl
number_at (suc (suc (suc (suc (suc (suc (suc (suc (suc n))))))))) d h = absurd (omega arith)

less_or_same : (a b : ℕ) → a < b + 1 → (a < b) ⊎ (a ≡ b)
less_or_same a b h = grind arith

one_of_three : (a b : ℕ) → (a < b) ⊎ (b < a) ⊎ (a ≡ b)
one_of_three a b = grind arith

module _ (g : LaunchGraph) (table : Table) (allocation : Allocation) (k : ℕ) (ls : List Launch) where
  -- ---- at most one launch and rule

  same_place : (r : Rule) (i j : ℕ) → Breaks g table allocation k ls r i → Breaks g table allocation k ls r j → i ≡ j
  same_place r _ _ (at i l e b n) (at j m f c o) =
      elim (one_of_three i j) [ inl h ↦ absurd (n (c i l h e)) | inr h ↦ elim h [ inl h ↦ absurd (o (b j m h f)) | inr h ↦ h ] ]
  same_place r _ _ (at i l e b n) (whole c o) = absurd (n (c i l (in_list ls i l e) e))
  same_place r _ _ (whole b n) (at j m f c o) = absurd (o (b j m (in_list ls j m f) f))
  same_place r _ _ (whole b n) (whole c o) = refl

  earlier_kept : (i r j s : ℕ) → IsFirstBroken g table allocation k ls i r → IsFirstBroken g table allocation k ls j s → r < s → ⊥
  earlier_kept i r j s b c lt =
      not_both g table allocation k ls b.which i (c.earlier b.which (subst (λ n. n < s) (sym b.is) lt)) b.broken

  same_number : (i r j s : ℕ) → IsFirstBroken g table allocation k ls i r → IsFirstBroken g table allocation k ls j s → r ≡ s
  same_number i r j s b c =
      elim (one_of_three r s) [ inl h ↦ absurd (earlier_kept i r j s b c h) | inr h ↦ elim h [ inl h ↦ absurd (earlier_kept j s i r c b h) | inr h ↦ h ] ]

  -- two answers are the same answer
  pub first_broken_once : (i r j s : ℕ) → IsFirstBroken g table allocation k ls i r → IsFirstBroken g table allocation k ls j s → (i ≡ j) × (r ≡ s)
  first_broken_once i r j s b c =
      let e : r ≡ s = same_number i r j s b c in
      let w : c.which ≡ b.which = same_rule c.which b.which (c.is ∙ sym e ∙ sym b.is) in
      (same_place b.which i j b.broken (subst (λ x. Breaks g table allocation k ls x j) w c.broken), e)

  -- ---- one of the two

  abbrev pub Found : Type 0
  Found = (i : ℕ) × (r : ℕ) × IsFirstBroken g table allocation k ls i r

  abbrev pub Earlier : ℕ → Type 0
  Earlier n = (r : Rule) → number r < n → IsKept g table allocation k ls r

  pub one_more : (which : Rule) → Earlier (number which) → IsKept g table allocation k ls which → Earlier (number which + 1)
  one_more which earlier kept r lt =
      elim (less_or_same (number r) (number which) lt) [ inl l ↦ earlier r l | inr e ↦ subst (λ x. IsKept g table allocation k ls x) (sym (same_rule r which e)) kept ]

  abbrev pub rule_step : (which : Rule) → HoldBelow (Asks g table allocation k ls which) ls (length ls) ⊎ FailsFirst (Asks g table allocation k ls which) ls → Dec (AsksOfAll g table allocation k ls which) → IsKept g table allocation k ls which ⊎ ((i : ℕ) × Breaks g table allocation k ls which i)
  rule_step which (inr f) d = inr (f.0, at f.0 f.1 f.2 f.3 f.4)
  rule_step which (inl h) (inl w) = inl (record { each = h; whole = w })
  rule_step which (inl h) (inr n) = inr (length ls, whole h n)

  abbrev pub next : (which : Rule) → Earlier (number which) → IsKept g table allocation k ls which ⊎ ((i : ℕ) × Breaks g table allocation k ls which i) → Earlier (number which + 1) ⊎ Found
  next which earlier (inl kept) = inl (one_more which earlier kept)
  next which earlier (inr b) = inr (b.0, number which, record { which = which; is = refl; earlier = earlier; broken = b.1 })

  -- the same of a rule by its number
  pub kept_after : (which : Rule) (n : ℕ) → number which ≡ n → Earlier n → IsKept g table allocation k ls which → Earlier (n + 1)
  kept_after which n e earlier kept = subst (λ m. Earlier (m + 1)) e (one_more which (subst Earlier (sym e) earlier) kept)

  pub broken_at : (which : Rule) (n i : ℕ) → number which ≡ n → Earlier n → Breaks g table allocation k ls which i → IsFirstBroken g table allocation k ls i (number which)
  broken_at which n i e earlier b = record { which = which; is = refl; earlier = subst Earlier (sym e) earlier; broken = b }

  pub no_rule_below : Earlier 1
  no_rule_below r lt = let l : 1 ≤ number r = number_low r in absurd (omega arith)
