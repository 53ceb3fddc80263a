-- The registers of `out` and of a pool that have been read so far.
use Rattle.std.proofs.Common.{◌≡◌, ◌≢◌, ℕ, zero, suc, ◌+◌, ◌<◌, ◌≤◌, ◌||◌, ◌++◌, ◌==◌, if◌then◌else◌, Bool, true, false, Option, None, Some, List, [], ◌∷◌, length, take, drop, refl, sym, ap, ◌∙◌, subst, arith, slice_get, codes}
use Rattle.std.specs.Prelude.{filter, is_some}
use mir.Val.{bool_byte}
use Rattle.std.proofs.lemmas.List.{length-append, take_all}
use Rattle.std.proofs.lemmas.List.Elements.{All-append, All-cons, All-nil, filter-append}
use Rattle.std.proofs.lemmas.List.Folds.{list_any-append}
use Rattle.text_core.specs.Faults.{IsFirst}
use Rattle.text_core.specs.declared.faults.Kind.{Kind}
use Rattle.text_core.specs.declared.faults.Kind.TheVariants.{LimitPassed}
use Rattle.forms.specs.Forms.{Form, Stands, parts_of, place_of}
use Rattle.machine_table.specs.Grammar as grammar
use Rattle.machine_table.specs.Grammar.{Each}
use Rattle.machine_table.specs.Roles.{has_head}
use Rattle.machine_table.proofs.Parts.{headed}
use Rattle.goal_meaning.specs.Rules.{has_register}
use Rattle.goal_reader.specs.Grammar.{IsRegister}
use Rattle.goal_reader.specs.Roles.{IsFaultAs, fresh_register, register_of, registers_in}
use Rattle.goal_reader.proofs.Different.{one_more, pairs_nil, register_low}
use Rattle.goal_reader.proofs.GoalSteps.{got_more, map_more}
use Rattle.goal_reader.proofs.ItemForms.{is_register}
use Rattle.goal_reader.proofs.WrittenItems.{each_more}
use Rattle.code_lift.specs.Lifted.{Lifting, has_let, memory_sets, sets_of}
use Rattle.code_lift.specs.LiftGrammar.{WritesRegisters}
use Rattle.code_lift.specs.LiftReading.{AreOutRegisters, ArePoolRegisters, IsFirstInLift}
use Rattle.code_lift.specs.LiftRoles.{LiftRole, a_pool, an_out, has_many_sets, lift_part_role, lifted_in, out_register, out_role, pool_register, wrong}
use Rattle.code_lift.specs.WellFormed.{AreDistinctRegisters}
use Rattle.code_lift.proofs.LiftLeaves.{many_sets_first, out_register_first, pool_register_first}
use Rattle.code_lift.proofs.LiftLists.{many_sets_are, out_clear, out_own, part_first, pool_clear, pool_own, registers_behind}
use Rattle.code_lift.proofs.Prefixes.{count_sets}

-- ---- lists behind a keyword

abbrev pub AreRegistersTo : Form → ℕ → List ℕ → Type 0
AreRegistersTo form n rs = Each (λ f r. IsRegister r f) (drop 1 (take n (parts_of form))) rs

pub none_to : (form : Form) → AreRegistersTo form 1 []
none_to form = subst (λ fs. Each (λ f r. IsRegister r f) fs []) (sym (nothing (parts_of form))) grammar.none
  where
    nothing : (xs : List Form) → drop 1 (take 1 xs) ≡ []
    nothing [] = refl
    nothing (x ∷ xs) = refl

pub one_to : (form : Form) (n : ℕ) (rs : List ℕ) (part : Form) (r : ℕ) → AreRegistersTo form n rs → 1 ≤ n → slice_get (parts_of form) n ≡ Some part → register_of part ≡ Some r → AreRegistersTo form (n + 1) (rs ++ r ∷ [])
one_to form n rs part r each from g e =
    subst (λ fs. Each (λ f q. IsRegister q f) fs (rs ++ r ∷ [])) (sym (dropped (parts_of form) n part from g))
    (each_more (λ f q. IsRegister q f) (drop 1 (take n (parts_of form))) rs part r each (is_register part r e))
  where
    dropped : (xs : List Form) (k : ℕ) (x : Form) → 1 ≤ k → slice_get xs k ≡ Some x → drop 1 (take (k + 1) xs) ≡ drop 1 (take k xs) ++ x ∷ []
    dropped [] k x l h = cc
    dropped (y ∷ ys) zero x l h = absurd (omega (arith, l))
    dropped (y ∷ ys) (suc k) x l h =
        let same : suc k + 1 ≡ suc (k + 1) = omega arith in
        ap (λ j. drop 1 (take j (y ∷ ys))) same ∙ got_more ys k x h

keyword_first : (word : List ℕ) (form : Form) → has_head word form ≡ true → registers_in (take 1 (parts_of form)) ≡ []
keyword_first word form head = ap (λ (f : Form). registers_in (take 1 (parts_of f))) (headed word form head).is

pub given_to : (word : List ℕ) (form : Form) (n : ℕ) (rs : List ℕ) → has_head word form ≡ true → 1 ≤ n → AreRegistersTo form n rs → registers_in (take n (parts_of form)) ≡ rs
given_to word form n rs head from each =
    ap registers_in (split n (parts_of form) from) ∙ registers_behind (take 1 (parts_of form)) (drop 1 (take n (parts_of form))) rs (keyword_first word form head) each
  where
    split : (k : ℕ) (xs : List Form) → 1 ≤ k → take k xs ≡ take 1 xs ++ drop 1 (take k xs)
    split zero xs l = absurd (omega (arith, l))
    split (suc k) [] l = refl
    split (suc k) (x ∷ xs) l = refl

pub registers_written : (word : List ℕ) (form : Form) (n : ℕ) (rs : List ℕ) → has_head word form ≡ true → length (parts_of form) ≤ n → AreRegistersTo form n rs → WritesRegisters word form rs
registers_written word form n rs head most each = record {
  parts = drop 1 (parts_of form);
  is = headed word form head;
  each = subst (λ fs. Each (λ f r. IsRegister r f) (drop 1 fs) rs) (take_all n (parts_of form) most) each;
}

-- ---- registers that differ

none_distinct : AreDistinctRegisters []
none_distinct = record { low = All-nil (λ r. r < 31); differ = pairs_nil (λ a b. a ≢ b) }

distinct_more : (rs : List ℕ) (r : ℕ) → AreDistinctRegisters rs → has_register rs r ≡ false → r < 31 → AreDistinctRegisters (rs ++ r ∷ [])
distinct_more rs r are fresh low =
    let more = one_more rs r (record { pairs = are.differ; low = are.low }) fresh low in
    record { low = more.low; differ = more.pairs }

pub low_register : (form : Form) (r : ℕ) → register_of form ≡ Some r → r < 31
low_register form r e = let is = is_register form r e in register_low is.bytes r is.number

-- ---- `out`

pub record AreOutRead (s : Lifting) (form : Form) (n : ℕ) (out : List ℕ) : Type 0 where
  pub each : AreRegistersTo form n out
  pub are : AreDistinctRegisters out
  pub few : length (sets_of s out) ≤ 16

memory_few : (m : Option ℕ) → length (memory_sets m) ≤ 1
memory_few None = omega arith
memory_few (Some n) = omega arith

pub no_sets : (s : Lifting) → length (sets_of s []) ≡ bool_byte (is_some s.memory)
no_sets s =
    let count = count_sets s [] in
    let memory = is_byte s.memory in
    omega (arith, count, memory)
  where
    is_byte : (m : Option ℕ) → length (memory_sets m) ≡ bool_byte (is_some m)
    is_byte None = refl
    is_byte (Some n) = refl

pub no_out_read : (s : Lifting) (form : Form) → AreOutRead s form 1 []
no_out_read s form =
    let count = count_sets s [] in
    let few = memory_few s.memory in
    record { each = none_to form; are = none_distinct; few = omega (arith, count, few) }

pub out_more : (s : Lifting) (form : Form) (n : ℕ) (out : List ℕ) (part : Form) (r : ℕ) → AreOutRead s form n out → 1 ≤ n → slice_get (parts_of form) n ≡ Some part → register_of part ≡ Some r → has_register out r ≡ false
    → length (sets_of s (out ++ r ∷ [])) ≤ 16 → AreOutRead s form (n + 1) (out ++ r ∷ [])
out_more s form n out part r read from g e fresh few = record {
  each = one_to form n out part r read.each from g e;
  are = distinct_more out r read.are fresh (low_register part r e);
  few = few;
}

pub out_written : (s : Lifting) (form : Form) (n : ℕ) (out : List ℕ) → has_head (codes "out") form ≡ true → length (parts_of form) ≤ n → AreOutRead s form n out → AreOutRegisters s form out
out_written s form n out head most read = record { writes = registers_written (codes "out") form n out head most read.each; are = read.are; few = read.few }

-- one register more is one set more where it has a let
pub sets_more : (s : Lifting) (out : List ℕ) (r : ℕ) → length (sets_of s (out ++ r ∷ [])) ≡ length (sets_of s out) + bool_byte (has_let s r)
sets_more s out r =
    let more = count_sets s (out ++ r ∷ []) in
    let before = count_sets s out in
    let split = ap length (filter-append (has_let s) out (r ∷ [])) ∙ length-append (filter (has_let s) out) (filter (has_let s) (r ∷ [])) in
    let one = last (has_let s r) in
    omega (arith, more, before, split, one)
  where
    last : (b : Bool) → length (if b then r ∷ [] else []) ≡ bool_byte b
    last true = refl
    last false = refl

module _ (s : Lifting) (form : Form) (head : has_head (codes "out") form ≡ true) (low high : ℕ) (stand : Stands low high form) (words : List Form) (known : s ≡ lifted_in words) (n : ℕ) (out : List ℕ) (read : AreOutRead s form n out)
    (from : 1 ≤ n) (part : Form) (g : slice_get (parts_of form) n ≡ Some part) where
  abbrev before : List Form
  before = take n (parts_of form)

  abbrev role : LiftRole
  role = out_register words before

  out_is : out_role words form ≡ an_out words
  out_is = ap (λ b. if b then an_out words else wrong) head

  given_is : registers_in before ≡ out
  given_is = given_to (codes "out") form n out head from read.each

  listed : lift_part_role (an_out words) form n ≡ Some role
  listed = by n from
    where
      by : (k : ℕ) → 1 ≤ k → lift_part_role (an_out words) form k ≡ Some (out_register words (take k (parts_of form)))
      by zero l = absurd (omega (arith, l))
      by (suc k) l = refl

  whole_first : (place : ℕ) (kind : Kind) → IsFirstInLift role part place kind → IsFirstInLift (out_role words form) form place kind
  whole_first place kind one =
      let keyword = keyword_first (codes "out") form head in
      subst (λ (r : LiftRole). IsFirstInLift r form place kind) (sym out_is)
      (part_first (an_out words) form low high n part role place kind stand (out_own form keyword words) g listed
      (out_clear form keyword words n out read.each read.are.differ (subst (λ t. length (sets_of t out) ≤ 16) known read.few)) one)

  pub out_part_first : (place : ℕ) (kind : Kind) → IsFirst (IsFaultAs (fresh_register out) part) place kind → IsFirstInLift (out_role words form) form place kind
  out_part_first place kind one =
      whole_first place kind (out_register_first words before part place kind (subst (λ rs. IsFirst (IsFaultAs (fresh_register rs) part) place kind) (sym given_is) one))

  pub out_sets_first : (start end : ℕ) → Stands start end part → (r : ℕ) → register_of part ≡ Some r → has_register out r ≡ false → 16 < length (sets_of s (out ++ r ∷ [])) → IsFirstInLift (out_role words form) form (place_of part) LimitPassed
  out_sets_first start end stands r e fresh many =
      let are = distinct_more out r read.are fresh (low_register part r e) in
      let next : registers_in (before ++ part ∷ []) ≡ out ++ r ∷ [] = map_more register_of before part r e ∙ ap (λ rs. rs ++ r ∷ []) given_is in
      whole_first (place_of part) LimitPassed
      (many_sets_first words before part r e (subst (λ rs. has_register rs r ≡ false) (sym given_is) fresh) start end stands
      (ap (has_many_sets (lifted_in words)) next ∙ many_sets_are (lifted_in words) (out ++ r ∷ []) are.differ (subst (λ t. 16 < length (sets_of t (out ++ r ∷ []))) known many)))

-- ---- a pool

pub record ArePoolRead (taken : List ℕ) (form : Form) (n : ℕ) (pool : List ℕ) : Type 0 where
  pub each : AreRegistersTo form n pool
  pub are : ArePoolRegisters taken pool

pub no_pool_read : (taken : List ℕ) (form : Form) → ArePoolRead taken form 1 []
no_pool_read taken form = record { each = none_to form; are = record { are = none_distinct; apart = All-nil (λ r. has_register taken r ≡ false) } }

neither : (a b : Bool) → (a || b) ≡ false → (a ≡ false) × (b ≡ false)
neither false b e = (refl, e)
neither true b e = cc

pub pool_more : (taken : List ℕ) (form : Form) (n : ℕ) (pool : List ℕ) (part : Form) (r : ℕ) → ArePoolRead taken form n pool → 1 ≤ n → slice_get (parts_of form) n ≡ Some part → register_of part ≡ Some r
    → has_register (taken ++ pool) r ≡ false → ArePoolRead taken form (n + 1) (pool ++ r ∷ [])
pool_more taken form n pool part r read from g e fresh =
    let both = neither (has_register taken r) (has_register pool r) (sym (list_any-append (λ other. other == r) taken pool) ∙ fresh) in
    record {
      each = one_to form n pool part r read.each from g e;
      are = record {
        are = distinct_more pool r read.are.are both.1 (low_register part r e);
        apart = All-append (λ q. has_register taken q ≡ false) pool (r ∷ []) read.are.apart (All-cons (λ q. has_register taken q ≡ false) r [] both.0 (All-nil (λ q. has_register taken q ≡ false)));
      };
    }

module _ (taken : List ℕ) (form : Form) (head : has_head (codes "pool") form ≡ true) (low high : ℕ) (stand : Stands low high form) (n : ℕ) (pool : List ℕ) (read : ArePoolRead taken form n pool)
    (from : 1 ≤ n) (part : Form) (g : slice_get (parts_of form) n ≡ Some part) where
  pub pool_part_first : (place : ℕ) (kind : Kind) → IsFirst (IsFaultAs (fresh_register (taken ++ pool)) part) place kind → IsFirstInLift (a_pool taken) form place kind
  pool_part_first place kind one =
      let before = take n (parts_of form) in
      let given = given_to (codes "pool") form n pool head from read.each in
      let keyword = keyword_first (codes "pool") form head in
      part_first (a_pool taken) form low high n part (pool_register (taken ++ registers_in before)) place kind stand (pool_own form keyword taken) g (listed n from)
      (pool_clear form keyword taken n pool read.each read.are)
      (pool_register_first (taken ++ registers_in before) part place kind (subst (λ rs. IsFirst (IsFaultAs (fresh_register (taken ++ rs)) part) place kind) (sym given) one))
    where
      listed : (k : ℕ) → 1 ≤ k → lift_part_role (a_pool taken) form k ≡ Some (pool_register (taken ++ registers_in (take k (parts_of form))))
      listed zero l = absurd (omega (arith, l))
      listed (suc k) l = refl
