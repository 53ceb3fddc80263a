-- Lists of words and of registers: when their parts have no fault, and which fault is the first.
use Rattle.std.proofs.Common.{◌≡◌, ◌≢◌, ℕ, zero, suc, ◌+◌, ◌-◌, ◌<◌, ◌≤◌, ◌||◌, ◌++◌, ◌==◌, if◌then◌else◌, true, false, None, Some, List, [], ◌∷◌, length, take, drop, refl, sym, ap, ap₂, ◌∙◌, subst, arith, slice_get, inl, inr}
use Rattle.std.specs.Prelude.{All, AllPairs, filter_map, nat_lt}
use Rattle.std.specs.List.{cons_option}
use Rattle.std.proofs.lemmas.Bool.{cases_lt, cases_order}
use Rattle.std.proofs.lemmas.Bool.Decides.{nat_tests}
use Rattle.std.proofs.lemmas.List.{append_assoc, length-append, take_all}
use Rattle.std.proofs.lemmas.List.Elements.{All-append, All-cons, All-head, All-nil, All-tail, filter_map-append}
use Rattle.std.proofs.lemmas.List.Folds.{list_any-append}
use Rattle.std.proofs.lemmas.Option.{none-some, same_Some, slice_get_within}
use Rattle.text_core.specs.declared.faults.Kind.{Kind}
use Rattle.forms.specs.Forms as forms
use Rattle.forms.specs.Forms.{Form, Forms, atom, list, name, forms_from, is_list, number_in, parts_of, Stands}
use Rattle.forms.proofs.First.{ClearTo, first_inside, no_fault}
use Rattle.machine_table.specs.Grammar as grammar
use Rattle.machine_table.specs.Grammar.{Each, IsNumberOf, more_of}
use Rattle.goal_meaning.specs.Rules.{has_register}
use Rattle.goal_reader.specs.Grammar.{IsRegister}
use Rattle.goal_reader.specs.Roles.{register_of, registers_in}
use Rattle.goal_reader.proofs.GoalSteps.{got_more, map_more}
use Rattle.goal_reader.proofs.Heads.{list_from}
use Rattle.goal_reader.proofs.PrintedForms.{pairs_front}
use Rattle.goal_reader.proofs.ReadParts.{register_told}
use Rattle.goal_reader.proofs.Walks.{Walk, group_walk, register_new, walk_at}
use Rattle.goal_reader.proofs.WrittenItems.{each_more}
use Rattle.code_lift.specs.Lifted.{Lifting, inputs_read, lifted, sets_of}
use Rattle.code_lift.specs.LiftReading.{AreLiftWords, ArePlainWords, ArePoolRegisters, IsClearInLift, IsFirstInLift, KeepsGoalLimits}
use Rattle.code_lift.specs.LiftRoles.{LiftRole, a_pool, a_word, an_out, has_many_assumes, has_many_inputs, has_many_sets, lift_part_role, lifted_in, no_words, out_register, past, pool_register, word_list, IsLiftFaultAs, IsOwnLiftFault}
use Rattle.code_lift.specs.WellFormed.{IsPlainWord}
use Rattle.code_lift.proofs.LiftLeaves.{HasNone, out_register_clear, plain_true, pool_register_clear, word_clear}
use Rattle.code_lift.proofs.Prefixes.{each_once_all, front_assumes, front_inputs, front_sets}

-- ---- the front of a list

pub got_front : {X : Type 0} (m n j : ℕ) (xs : List X) (x : X) → m ≤ j → j < n → slice_get xs j ≡ Some x → slice_get (drop m (take n xs)) (j - m) ≡ Some x
got_front m n j [] x le lt g = cc
got_front m zero j (y ∷ ys) x le lt g = absurd (omega (arith, lt))
got_front zero (suc n) zero (y ∷ ys) x le lt g = g
got_front zero (suc n) (suc j) (y ∷ ys) x le lt g =
    let same : suc j - 0 ≡ suc (j - 0) = omega arith in
    ap (slice_get (y ∷ take n ys)) same ∙ got_front zero n j ys x (omega arith) (omega (arith, lt)) g
got_front (suc m) (suc n) zero (y ∷ ys) x le lt g = absurd (omega (arith, le))
got_front (suc m) (suc n) (suc j) (y ∷ ys) x le lt g =
    let same : suc j - suc m ≡ j - m = omega arith in
    ap (slice_get (drop m (take n ys))) same ∙ got_front m n j ys x (omega (arith, le)) (omega (arith, lt)) g

abbrev pub nil : {X : Type 0} → List X
nil = []

pub took_front : {X : Type 0} (m n j : ℕ) (xs : List X) → m ≤ j → j ≤ n → take m xs ++ take (j - m) (drop m (take n xs)) ≡ take j xs
took_front m n j [] le lt = ap₂ (λ a b. a ++ take (j - m) b) (taken m) (ap (drop m) (taken n) ∙ dropped m) ∙ taken (j - m) ∙ sym (taken j)
  where
    dropped : {X : Type 0} (i : ℕ) → drop i (nil {X = X}) ≡ nil
    dropped zero = refl
    dropped (suc i) = refl

    taken : {X : Type 0} (i : ℕ) → take i (nil {X = X}) ≡ nil
    taken zero = refl
    taken (suc i) = refl
took_front zero n j (y ∷ ys) le lt =
    let same : j - 0 ≡ j = omega arith in
    ap (λ k. take k (take n (y ∷ ys))) same ∙ shorter j n (y ∷ ys) lt
  where
    shorter : {X : Type 0} (k l : ℕ) (zs : List X) → k ≤ l → take k (take l zs) ≡ take k zs
    shorter zero l zs h = refl
    shorter (suc k) zero zs h = absurd (omega (arith, h))
    shorter (suc k) (suc l) [] h = refl
    shorter (suc k) (suc l) (z ∷ zs) h = ap (λ ws. z ∷ ws) (shorter k l zs (omega (arith, h)))
took_front (suc m) n zero (y ∷ ys) le lt = absurd (omega (arith, le))
took_front (suc m) zero (suc j) (y ∷ ys) le lt = absurd (omega (arith, lt))
took_front (suc m) (suc n) (suc j) (y ∷ ys) le lt =
    let same : suc j - suc m ≡ j - m = omega arith in
    ap (λ k. y ∷ (take m ys ++ take k (drop m (take n ys)))) same ∙ ap (λ zs. y ∷ zs) (took_front m n j ys (omega (arith, le)) (omega (arith, lt)))

-- ---- parts that are each read behind those before
module _ (role : LiftRole) (form : Form) where
  abbrev pub ClearParts : ℕ → Type 0
  ClearParts n = ClearTo IsOwnLiftFault lift_part_role role form n

  pub clear_zero : ClearParts 0
  clear_zero j part other place kind l g e fault = absurd (omega (arith, l))

  pub clear_next : (i : ℕ) (part : Form) (other : LiftRole) → slice_get (parts_of form) i ≡ Some part → lift_part_role role form i ≡ Some other → IsClearInLift other part → ClearParts i → ClearParts (i + 1)
  clear_next i part other g e is clear j one as_role place kind below got role_is fault =
      elim (cases_order j i) [
        | inl same_one ↦
            let part_is : part ≡ one = same_Some part one (sym g ∙ ap (slice_get (parts_of form)) (sym same_one) ∙ got) in
            let role_same : other ≡ as_role = same_Some other as_role (sym e ∙ ap (lift_part_role role form) (sym same_one) ∙ role_is) in
            is place kind (subst (λ (x : LiftRole). IsLiftFaultAs x part place kind) (sym role_same) (subst (λ (x : Form). IsLiftFaultAs as_role x place kind) (sym part_is) fault))
        | inr (inl before) ↦ clear j one as_role place kind before got role_is fault
        | inr (inr after) ↦ absurd (omega (arith, below, after))
      ]

  -- a part that isn't examined has no fault
  pub clear_silent : (i : ℕ) → lift_part_role role form i ≡ None → ClearParts i → ClearParts (i + 1)
  clear_silent i e clear j one as_role place kind below got role_is fault =
      elim (cases_order j i) [
        | inl same_one ↦ (let f : None ≡ Some as_role = sym e ∙ ap (lift_part_role role form) (sym same_one) ∙ role_is in absurd (none-some as_role f))
        | inr (inl before) ↦ clear j one as_role place kind before got role_is fault
        | inr (inr after) ↦ absurd (omega (arith, below, after))
      ]

  pub part_first : (low high i : ℕ) (part : Form) (other : LiftRole) (place : ℕ) (kind : Kind) → Stands low high form → HasNone role form → slice_get (parts_of form) i ≡ Some part
      → lift_part_role role form i ≡ Some other → ClearParts i → IsFirstInLift other part place kind → IsFirstInLift role form place kind
  part_first low high i part other place kind h none g e clear first = first_inside IsOwnLiftFault lift_part_role role form low high i part other place kind h none g e clear first

  pub all_clear : (n : ℕ) → HasNone role form → length (parts_of form) ≤ n → ClearParts n → IsClearInLift role form
  all_clear n none most clear =
      no_fault IsOwnLiftFault lift_part_role role form none
      (λ j part other place kind g e fault. clear j part other place kind (let l = slice_get_within (parts_of form) j part g in omega (arith, l, most)) g e fault)

  -- all parts from some number on have a role that what stands before tells, and none before has one
  module _ (R : List Form → LiftRole) (skip most : ℕ) (silent : (at : ℕ) → at < skip → lift_part_role role form at ≡ None)
      (roles : (at : ℕ) → skip ≤ at → at < most → lift_part_role role form at ≡ Some (R (take at (parts_of form)))) where
    pub front_clear : (n : ℕ) → n ≤ most → Walk (λ before f. IsClearInLift (R before) f) (take skip (parts_of form)) (drop skip (take n (parts_of form))) → ClearParts n
    front_clear n le walk j part other place kind l g e fault = elim (cases_lt j skip) [
      | inl before ↦ absurd (none-some other (sym (silent j before) ∙ e))
      | inr from ↦ (
          let parts = parts_of form in
          let there = walk_at (λ before f. IsClearInLift (R before) f) (take skip parts) (drop skip (take n parts)) walk (j - skip) part (got_front skip n j parts part from l g) in
          let clear : IsClearInLift (R (take j parts)) part = subst (λ fs. IsClearInLift (R fs) part) (took_front skip n j parts from (omega (arith, l))) there in
          let is : R (take j parts) ≡ other = same_Some (R (take j parts)) other (sym (roles j from (omega (arith, l, le))) ∙ e) in
          clear place kind (subst (λ (r : LiftRole). IsLiftFaultAs r part place kind) (sym is) fault))
    ]

-- ---- words

pub numbers_told : (fs : List Form) (ns : List ℕ) → Each (λ f n. IsNumberOf n f) fs ns → filter_map number_in fs ≡ ns
numbers_told [] [] e = refl
numbers_told [] (n ∷ ns) e = elim e [ ]
numbers_told (f ∷ fs) [] e = elim e [ ]
numbers_told (f ∷ fs) (n ∷ ns) (more_of one others) = ap (λ o. cons_option o (filter_map number_in fs)) (ap number_in one.is) ∙ ap (λ ms. n ∷ ms) (numbers_told fs ns others)

-- what is known behind forms is what is known behind their words
pub lifted_words : (before : List Form) (words : List ℕ) → Each (λ f n. IsNumberOf n f) before words → lifted_in before ≡ lifted words
lifted_words before words each = ap lifted (numbers_told before words each)

pub lifted_next : (before : List Form) (words : List ℕ) (form : Form) (n : ℕ) → Each (λ f m. IsNumberOf m f) before words → number_in form ≡ Some n → lifted_in (before ++ form ∷ []) ≡ lifted (words ++ n ∷ [])
lifted_next before words form n each e = ap lifted (map_more number_in before form n e ∙ ap (λ ms. ms ++ n ∷ []) (numbers_told before words each))

pub not_less : (m n : ℕ) → n ≤ m → nat_lt m n ≡ false
not_less m n le = grind (arith, nat_tests, le)

pub few_inputs : (s : Lifting) → length (inputs_read s) ≤ 16 → has_many_inputs s ≡ false
few_inputs s l = not_less 16 (length (inputs_read s)) l

pub few_assumes : (s : Lifting) → length s.addresses ≤ 16 → has_many_assumes s ≡ false
few_assumes s l = not_less 16 (length s.addresses) l

module _ (all : List ℕ) (plain : All IsPlainWord all) (within : KeepsGoalLimits (lifted all)) where
  abbrev WordClear : List Form → Form → Type 0
  WordClear before f = IsClearInLift (a_word before) f

  word_step : (before : List Form) (done rest : List ℕ) (f : Form) (n : ℕ) → all ≡ done ++ n ∷ rest → Each (λ g m. IsNumberOf m g) before done → IsNumberOf n f → WordClear before f × Each (λ g m. IsNumberOf m g) (before ++ f ∷ []) (done ++ n ∷ [])
  word_step before done rest f n same each one =
      let front : all ≡ (done ++ n ∷ []) ++ rest = same ∙ sym (append_assoc done (n ∷ []) rest) in
      let behind = lifted_next before done f n each (ap number_in one.is) in
      let inputs = subst (λ ws. length (inputs_read (lifted (done ++ n ∷ []))) ≤ length (inputs_read (lifted ws))) (sym front) (front_inputs (done ++ n ∷ []) rest) in
      let assumes = subst (λ ws. length (lifted (done ++ n ∷ [])).addresses ≤ length (lifted ws).addresses) (sym front) (front_assumes (done ++ n ∷ []) rest) in
      let most_inputs = within.inputs in
      let most_assumes = within.assumes in (
        word_clear before f n (ap number_in one.is) (plain_true n (at_middle done rest n (subst (All IsPlainWord) same plain)))
            (ap has_many_inputs behind ∙ few_inputs (lifted (done ++ n ∷ [])) (omega (arith, inputs, most_inputs)))
            (ap has_many_assumes behind ∙ few_assumes (lifted (done ++ n ∷ [])) (omega (arith, assumes, most_assumes))),
        each_more (λ g m. IsNumberOf m g) before done f n each one,
      )
    where
      at_middle : (xs ys : List ℕ) (x : ℕ) → All IsPlainWord (xs ++ x ∷ ys) → IsPlainWord x
      at_middle [] ys x h = All-head IsPlainWord x ys h
      at_middle (z ∷ xs) ys x h = at_middle xs ys x (All-tail IsPlainWord z (xs ++ x ∷ ys) h)

  words_walk : (fs : List Form) → Each (λ f n. IsNumberOf n f) fs all → Walk WordClear [] fs
  words_walk fs each = (group_walk WordClear (λ f n. IsNumberOf n f) (Each (λ f n. IsNumberOf n f)) all word_step [] [] fs all each refl grammar.none).0

module _ (form : Form) where
  pub words_own : is_list form ≡ true → HasNone word_list form
  words_own e k (no_words h) = let f : true ≡ false = sym e ∙ h in cc

  pub word_role_is : (at : ℕ) → at < 256 → lift_part_role word_list form at ≡ Some (a_word (take at (parts_of form)))
  word_role_is at l = (let t : nat_lt at 256 ≡ true = grind (arith, nat_tests, l) in ap (λ b. Some (if b then a_word (take at (parts_of form)) else past)) t)

  pub past_role_is : (at : ℕ) → 256 ≤ at → lift_part_role word_list form at ≡ Some past
  past_role_is at l = ap (λ b. Some (if b then a_word (take at (parts_of form)) else past)) (not_less at 256 l)

  -- the words of the first so many parts
  pub words_clear : (n : ℕ) (words : List ℕ) → n ≤ 256 → ArePlainWords (take n (parts_of form)) words → KeepsGoalLimits (lifted words) → ClearParts word_list form n
  words_clear n words le are within =
      front_clear word_list form a_word 0 256 (λ at l. absurd (omega (arith, l))) (λ at from l. word_role_is at l) n le
      (words_walk words are.plain within (take n (parts_of form)) are.each)

number_is : (form : Form) (n : ℕ) → number_in form ≡ Some n → IsNumberOf n form
number_is (atom p (name v)) n e = cc
number_is (atom p (forms.register v)) n e = cc
number_is (atom p (forms.number m)) n e = let same : m ≡ n = cc in record { place = p; is = ap (λ x. atom p (forms.number x)) same }
number_is (atom p forms.parenthesis) n e = cc
number_is (list p ps) n e = cc

-- the first so many parts have been read as words
pub record AreWordsRead (form : Form) (n : ℕ) (words : List ℕ) (s : Lifting) : Type 0 where
  pub are : ArePlainWords (take n (parts_of form)) words
  pub count : length words ≡ n
  pub few : n ≤ 256
  pub known : s ≡ lifted words
  pub within : KeepsGoalLimits s

pub no_words_read : (form : Form) (s : Lifting) → s ≡ lifted [] → AreWordsRead form 0 [] s
no_words_read form s known = record {
  are = record { each = grammar.none; plain = All-nil IsPlainWord };
  count = refl;
  few = omega arith;
  known = known;
  within = subst KeepsGoalLimits (sym known) (record { inputs = omega arith; assumes = omega arith });
}

pub word_more : (form : Form) (n : ℕ) (words : List ℕ) (s t : Lifting) (part : Form) (word : ℕ) → AreWordsRead form n words s → n < 256 → slice_get (parts_of form) n ≡ Some part → number_in part ≡ Some word → IsPlainWord word
    → t ≡ lifted (words ++ word ∷ []) → KeepsGoalLimits t → AreWordsRead form (n + 1) (words ++ word ∷ []) t
word_more form n words s t part word read below g e plain known within =
    let counted = read.count in
    let longer = length-append words (word ∷ []) in record {
      are = record {
        each = subst (λ fs. Each (λ f m. IsNumberOf m f) fs (words ++ word ∷ [])) (sym (got_more (parts_of form) n part g))
            (each_more (λ f m. IsNumberOf m f) (take n (parts_of form)) words part word read.are.each (number_is part word e));
        plain = All-append IsPlainWord words (word ∷ []) read.are.plain (All-cons IsPlainWord word [] plain (All-nil IsPlainWord));
      };
      count = omega (arith, longer, counted);
      few = omega (arith, below);
      known = known;
      within = within;
    }

pub words_part_clear : (form : Form) (n : ℕ) (words : List ℕ) (s : Lifting) → AreWordsRead form n words s → ClearParts word_list form n
words_part_clear form n words s read = words_clear form n words read.few read.are (subst KeepsGoalLimits read.known read.within)

pub words_are : (form : Form) (place n : ℕ) (parts : List Form) (words : List ℕ) (s : Lifting) → form ≡ list place (forms_from parts) → length (parts_of form) ≤ n → AreWordsRead form n words s → AreLiftWords form words
words_are form place n parts words s is most read =
    let counted = read.count in
    let few = read.few in
    let whole : take n (parts_of form) ≡ parts = take_all n (parts_of form) most ∙ (ap parts_of is ∙ list_from parts) in record {
      writes = record { place = place; parts = parts; is = is; each = subst (λ fs. Each (λ f m. IsNumberOf m f) fs words) whole read.are.each };
      plain = read.are.plain;
      few = omega (arith, counted, few);
      within = subst KeepsGoalLimits read.known read.within;
    }

-- ---- registers

registers_told : (fs : List Form) (rs : List ℕ) → Each (λ f r. IsRegister r f) fs rs → registers_in fs ≡ rs
registers_told [] [] e = refl
registers_told [] (r ∷ rs) e = elim e [ ]
registers_told (f ∷ fs) [] e = elim e [ ]
registers_told (f ∷ fs) (r ∷ rs) (more_of one others) = ap (λ o. cons_option o (registers_in fs)) (register_told f r one) ∙ ap (λ ss. r ∷ ss) (registers_told fs rs others)

-- a keyword is no register
pub registers_behind : (fs gs : List Form) (rs : List ℕ) → registers_in fs ≡ [] → Each (λ f r. IsRegister r f) gs rs → registers_in (fs ++ gs) ≡ rs
registers_behind fs gs rs none each = filter_map-append register_of fs gs ∙ ap (λ qs. qs ++ registers_in gs) none ∙ registers_told gs rs each

pub few_sets : (s : Lifting) (out : List ℕ) → AllPairs (λ a b. a ≢ b) out → length (sets_of s out) ≤ 16 → has_many_sets s out ≡ false
few_sets s out differ l = ap (λ rs. nat_lt 16 (length (sets_of s rs))) (each_once_all [] out differ) ∙ not_less 16 (length (sets_of s out)) l

pub many_sets_are : (s : Lifting) (out : List ℕ) → AllPairs (λ a b. a ≢ b) out → 16 < length (sets_of s out) → has_many_sets s out ≡ true
many_sets_are s out differ l =
    let t : nat_lt 16 (length (sets_of s out)) ≡ true = grind (arith, nat_tests, l) in
    ap (λ rs. nat_lt 16 (length (sets_of s rs))) (each_once_all [] out differ) ∙ t

module _ (words : List Form) (all : List ℕ) (differ : AllPairs (λ a b. a ≢ b) all) (few : length (sets_of (lifted_in words) all) ≤ 16) where
  abbrev OutClear : List Form → Form → Type 0
  OutClear before f = IsClearInLift (out_register words before) f

  abbrev AreGiven : List Form → List ℕ → Type 0
  AreGiven before done = registers_in before ≡ done

  out_step : (before : List Form) (done rest : List ℕ) (f : Form) (r : ℕ) → all ≡ done ++ r ∷ rest → AreGiven before done → IsRegister r f → OutClear before f × AreGiven (before ++ f ∷ []) (done ++ r ∷ [])
  out_step before done rest f r same given one =
      let e = register_told f r one in
      let next : registers_in (before ++ f ∷ []) ≡ done ++ r ∷ [] = map_more register_of before f r e ∙ ap (λ rs. rs ++ r ∷ []) given in
      let front : all ≡ (done ++ r ∷ []) ++ rest = same ∙ sym (append_assoc done (r ∷ []) rest) in
      let less = subst (λ rs. length (sets_of (lifted_in words) (done ++ r ∷ [])) ≤ length (sets_of (lifted_in words) rs)) (sym front) (front_sets (lifted_in words) (done ++ r ∷ []) rest) in
      let apart = pairs_front (done ++ r ∷ []) rest (subst (AllPairs (λ a b. a ≢ b)) front differ) in (
        out_register_clear words before f r e (ap (λ rs. has_register rs r) given ∙ register_new all done r rest same differ)
            (ap (has_many_sets (lifted_in words)) next ∙ few_sets (lifted_in words) (done ++ r ∷ []) apart (omega (arith, less, few))),
        next,
      )

  out_walk : (before fs : List Form) → registers_in before ≡ [] → Each (λ f r. IsRegister r f) fs all → Walk OutClear before fs
  out_walk before fs none each = (group_walk OutClear (λ f r. IsRegister r f) AreGiven all out_step before [] fs all each refl none).0

module _ (taken all : List ℕ) (are : ArePoolRegisters taken all) where
  abbrev PoolClear : List Form → Form → Type 0
  PoolClear before f = IsClearInLift (pool_register (taken ++ registers_in before)) f

  pool_step : (before : List Form) (done rest : List ℕ) (f : Form) (r : ℕ) → all ≡ done ++ r ∷ rest → registers_in before ≡ done → IsRegister r f → PoolClear before f × (registers_in (before ++ f ∷ []) ≡ done ++ r ∷ [])
  pool_step before done rest f r same given one =
      let e = register_told f r one in
      let free = at_middle done rest r (subst (All (λ q. has_register taken q ≡ false)) same are.apart) in
      let new = ap (λ rs. has_register rs r) given ∙ register_new all done r rest same are.are.differ in (
        pool_register_clear (taken ++ registers_in before) f r e (list_any-append (λ other. other == r) taken (registers_in before) ∙ ap₂ (λ a b. a || b) free new),
        map_more register_of before f r e ∙ ap (λ rs. rs ++ r ∷ []) given,
      )
    where
      at_middle : (xs ys : List ℕ) (x : ℕ) → All (λ q. has_register taken q ≡ false) (xs ++ x ∷ ys) → has_register taken x ≡ false
      at_middle [] ys x h = All-head (λ q. has_register taken q ≡ false) x ys h
      at_middle (z ∷ xs) ys x h = at_middle xs ys x (All-tail (λ q. has_register taken q ≡ false) z (xs ++ x ∷ ys) h)

  pool_walk : (before fs : List Form) → registers_in before ≡ [] → Each (λ f r. IsRegister r f) fs all → Walk PoolClear before fs
  pool_walk before fs none each = (group_walk PoolClear (λ f r. IsRegister r f) (λ gs done. registers_in gs ≡ done) all pool_step before [] fs all each refl none).0

module _ (form : Form) (keyword : registers_in (take 1 (parts_of form)) ≡ []) where
  pub out_own : (words : List Form) → HasNone (an_out words) form
  out_own words k fault = elim fault [ ]

  pub out_clear : (words : List Form) (n : ℕ) (out : List ℕ) → Each (λ f r. IsRegister r f) (drop 1 (take n (parts_of form))) out → AllPairs (λ a b. a ≢ b) out → length (sets_of (lifted_in words) out) ≤ 16 → ClearParts (an_out words) form n
  out_clear words n out each differ few =
      front_clear (an_out words) form (out_register words) 1 n (none_before words) (role_behind words n) n (omega arith)
      (out_walk words out differ few (take 1 (parts_of form)) (drop 1 (take n (parts_of form))) keyword each)
    where
      none_before : (ws : List Form) (at : ℕ) → at < 1 → lift_part_role (an_out ws) form at ≡ None
      none_before ws zero l = refl
      none_before ws (suc at) l = absurd (omega (arith, l))

      role_behind : (ws : List Form) (m at : ℕ) → 1 ≤ at → at < m → lift_part_role (an_out ws) form at ≡ Some (out_register ws (take at (parts_of form)))
      role_behind ws m zero from l = absurd (omega (arith, from))
      role_behind ws m (suc at) from l = refl

  pub pool_own : (taken : List ℕ) → HasNone (a_pool taken) form
  pool_own taken k fault = elim fault [ ]

  pub pool_clear : (taken : List ℕ) (n : ℕ) (pool : List ℕ) → Each (λ f r. IsRegister r f) (drop 1 (take n (parts_of form))) pool → ArePoolRegisters taken pool → ClearParts (a_pool taken) form n
  pool_clear taken n pool each are =
      front_clear (a_pool taken) form (λ before. pool_register (taken ++ registers_in before)) 1 n (none_before taken) (role_behind taken n) n (omega arith)
      (pool_walk taken pool are (take 1 (parts_of form)) (drop 1 (take n (parts_of form))) keyword each)
    where
      none_before : (ts : List ℕ) (at : ℕ) → at < 1 → lift_part_role (a_pool ts) form at ≡ None
      none_before ts zero l = refl
      none_before ts (suc at) l = absurd (omega (arith, l))

      role_behind : (ts : List ℕ) (m at : ℕ) → 1 ≤ at → at < m → lift_part_role (a_pool ts) form at ≡ Some (pool_register (ts ++ registers_in (take at (parts_of form))))
      role_behind ts m zero from l = absurd (omega (arith, from))
      role_behind ts m (suc at) from l = refl
