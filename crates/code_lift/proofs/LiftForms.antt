-- One lift: which fault is the first, when it has none, and what it writes.
use Rattle.std.proofs.Common.{◌≡◌, ℕ, suc, ◌+◌, ◌<◌, ◌≤◌, ◌++◌, if◌then◌else◌, true, false, Option, None, Some, List, [], ◌∷◌, length, take, drop, refl, sym, ap, ap₂, ◌∙◌, subst, arith, slice_get, option_map, codes}
use Rattle.std.specs.Prelude.{IfSome, nat_lt}
use Rattle.std.specs.Option.{option_map_or}
use Rattle.std.proofs.lemmas.Bool.Decides.{nat_tests}
use Rattle.std.proofs.lemmas.List.{length-drop, take_all}
use Rattle.std.proofs.lemmas.Option.{slice_get_past, slice_get_within}
use Rattle.text_core.specs.Faults.{IsFirst}
use Rattle.text_core.specs.Names.{is_among}
use Rattle.text_core.specs.declared.faults.Kind.{Kind}
use Rattle.text_core.specs.declared.faults.Kind.TheVariants.{BadForm, LimitPassed}
use Rattle.text_core.specs.declared.sexps.Sexp.{Sexp}
use Rattle.forms.specs.Forms.{Form, is_list, name_in, parts_of, place_of, forms_from, forms_list, sexp_form, sexp_forms, Stands}
use Rattle.machine_table.specs.Grammar.{Each, IsListOf, IsNumberOf}
use Rattle.machine_table.specs.Roles.{has_head}
use Rattle.machine_table.proofs.Parts.{headed}
use Rattle.goal_reader.specs.Grammar.{IsRegister}
use Rattle.goal_reader.specs.Roles.{IsFaultAs, fresh_name, names_given, registers_in}
use Rattle.goal_reader.proofs.Heads.{list_from}
use Rattle.goal_reader.proofs.ItemForms.{is_name}
use Rattle.goal_reader.proofs.Keeping.{each_length}
use Rattle.goal_reader.proofs.ReadParts.{listed_parts}
use Rattle.proc_goal.proofs.Items.{keyword_told}
use Rattle.code_lift.specs.Lifted.{inputs_read, lifted}
use Rattle.code_lift.specs.LiftGrammar.{WritesLift, WritesLiftPool, WritesNumbers, WritesRegisters, none_given, one_given}
use Rattle.code_lift.specs.LiftReading.{AreLiftWords, AreOutRegisters, ArePoolRegisters, IsClearInLift, IsFirstBehindOut, IsFirstInLift, in_next, in_pool}
use Rattle.code_lift.specs.LiftRoles.{LiftRole, a_lift, a_pool, an_out, is_lift, lift_name, lift_part_role, lift_pool_role, lifted_in, next_lift_role, out_role, past, short_lift, taken_in, word_forms, word_list, wrong}
use Rattle.code_lift.specs.Views.{LiftTree}
use Rattle.code_lift.specs.WellFormed.{HasPool}
use Rattle.code_lift.proofs.LiftLeaves.{HasNone, form_first, name_clear, name_first, past_first, wrong_first}
use Rattle.code_lift.proofs.LiftLists.{ClearParts, all_clear, clear_next, clear_silent, clear_zero, lifted_words, nil, not_less, out_clear, out_own, part_first, pool_clear, pool_own, registers_behind, words_clear, words_own}

-- ---- lists of words and of registers

pub number_parts : (form : Form) (words : List ℕ) (w : WritesNumbers form words) → parts_of form ≡ w.parts
number_parts form words w = ap parts_of w.is ∙ list_from w.parts

pub numbers_count : (form : Form) (words : List ℕ) → WritesNumbers form words → length words ≡ length (parts_of form)
numbers_count form words w = each_length _ w.parts words w.each ∙ ap length (sym (number_parts form words w))

pub lifted_is : (form : Form) (words : List ℕ) → WritesNumbers form words → lifted_in (parts_of form) ≡ lifted words
lifted_is form words w = ap lifted_in (number_parts form words w) ∙ lifted_words w.parts words w.each

pub word_list_clear : (form : Form) (words : List ℕ) → AreLiftWords form words → IsClearInLift word_list form
word_list_clear form words are =
    let w = are.writes in
    let n = length (parts_of form) in
    let few = are.few in
    let count = numbers_count form words w in
    let whole : w.parts ≡ take n (parts_of form) = sym (number_parts form words w) ∙ sym (take_all n (parts_of form) (omega arith)) in
    all_clear word_list form n (words_own form (ap is_list w.is)) (omega arith)
    (words_clear form n words (omega (arith, few, count)) (record { each = subst (λ fs. Each (λ f n. IsNumberOf n f) fs words) whole w.each; plain = are.plain }) are.within)

pub register_parts : (word : List ℕ) (form : Form) (rs : List ℕ) (w : WritesRegisters word form rs) → drop 1 (parts_of form) ≡ w.parts
register_parts word form rs w = listed_parts word w.parts form w.is

keyword_alone : (word : List ℕ) (form : Form) (rs : List ℕ) → WritesRegisters word form rs → registers_in (take 1 (parts_of form)) ≡ []
keyword_alone word form rs w = ap (λ (f : Form). registers_in (take 1 (parts_of f))) w.is.is

pub registers_are : (word : List ℕ) (form : Form) (rs : List ℕ) → WritesRegisters word form rs → registers_in (parts_of form) ≡ rs
registers_are word form rs w =
    ap (λ (f : Form). registers_in (parts_of f)) w.is.is ∙ registers_behind [] (forms_list (forms_from w.parts)) rs refl (subst (λ fs. Each (λ f r. IsRegister r f) fs rs) (sym (list_from w.parts)) w.each)

all_registers : (word : List ℕ) (form : Form) (rs : List ℕ) (w : WritesRegisters word form rs) → Each (λ f r. IsRegister r f) (drop 1 (take (length (parts_of form)) (parts_of form))) rs
all_registers word form rs w =
    let whole : drop 1 (take (length (parts_of form)) (parts_of form)) ≡ w.parts = ap (drop 1) (take_all (length (parts_of form)) (parts_of form) (omega arith)) ∙ register_parts word form rs w in
    subst (λ fs. Each (λ f r. IsRegister r f) fs rs) (sym whole) w.each

pub out_role_clear : (words : List Form) (form : Form) (out : List ℕ) → AreOutRegisters (lifted_in words) form out → IsClearInLift (out_role words form) form
out_role_clear words form out are =
    let w = are.writes in
    let n = length (parts_of form) in
    let keyword = keyword_alone (codes "out") form out w in
    subst (λ (r : LiftRole). IsClearInLift r form) (sym (ap (λ b. if b then an_out words else wrong) (keyword_told (codes "out") w.parts form w.is)))
    (all_clear (an_out words) form n (out_own form keyword words) (omega arith) (out_clear form keyword words n out (all_registers (codes "out") form out w) are.are.differ are.few))

pub pool_role_clear : (taken : List ℕ) (form : Form) (pool : List ℕ) → WritesRegisters (codes "pool") form pool → ArePoolRegisters taken pool → IsClearInLift (lift_pool_role taken form) form
pool_role_clear taken form pool w are =
    let n = length (parts_of form) in
    let keyword = keyword_alone (codes "pool") form pool w in
    subst (λ (r : LiftRole). IsClearInLift r form) (sym (ap (λ b. if b then a_pool taken else wrong) (keyword_told (codes "pool") w.parts form w.is)))
    (all_clear (a_pool taken) form n (pool_own form keyword taken) (omega arith) (pool_clear form keyword taken n pool (all_registers (codes "pool") form pool w) are))

-- ---- what stands behind `out`

pub nothing_behind : (text : List ℕ) (parts : List Sexp) → slice_get parts 0 ≡ None → WritesLiftPool (sexp_forms text parts) None
nothing_behind text [] e = none_given
nothing_behind text (x ∷ xs) e = cc

pub pool_behind : (text : List ℕ) (parts : List Sexp) (a : Sexp) (pool : List ℕ) → slice_get parts 0 ≡ Some a → length parts ≤ 1 → WritesRegisters (codes "pool") (sexp_form text a) pool → WritesLiftPool (sexp_forms text parts) (Some pool)
pool_behind text [] a pool g l w = cc
pool_behind text (x ∷ []) a pool g l w = (let same : x ≡ a = cc in one_given (subst (λ (s : Sexp). WritesRegisters (codes "pool") (sexp_form text s) pool) (sym same) w))
pool_behind text (x ∷ y ∷ ys) a pool g l w = absurd (omega (arith, l))

module _ (taken : List ℕ) (form : Form) where
  pub other_first : (low high : ℕ) → Stands low high form → has_head (codes "pool") form ≡ false → IsFirstInLift (lift_pool_role taken form) form (place_of form) BadForm
  other_first low high h e = subst (λ (r : LiftRole). IsFirstInLift r form (place_of form) BadForm) (sym (ap (λ b. if b then a_pool taken else wrong) e)) (wrong_first form low high h)

  pub pool_first : (place : ℕ) (kind : Kind) → has_head (codes "pool") form ≡ true → IsFirstInLift (a_pool taken) form place kind → IsFirstInLift (lift_pool_role taken form) form place kind
  pool_first place kind e one = subst (λ (r : LiftRole). IsFirstInLift r form place kind) (sym (ap (λ b. if b then a_pool taken else wrong) e)) one

-- ---- the parts of a lift

behind_four : (xs : List Form) (k : ℕ) → slice_get (drop 4 xs) k ≡ slice_get xs (4 + k)
behind_four [] k = sym (slice_get_past (nil {X = Form}) (4 + k) (omega arith))
behind_four (x ∷ []) k = sym (slice_get_past (x ∷ []) (4 + k) (omega arith))
behind_four (x ∷ y ∷ []) k = sym (slice_get_past (x ∷ y ∷ []) (4 + k) (omega arith))
behind_four (x ∷ y ∷ z ∷ []) k = sym (slice_get_past (x ∷ y ∷ z ∷ []) (4 + k) (omega arith))
behind_four (x ∷ y ∷ z ∷ w ∷ ws) k = ap (slice_get (x ∷ y ∷ z ∷ w ∷ ws)) (let e : suc (suc (suc (suc k))) ≡ 4 + k = omega arith in e)

module _ (names : List (List ℕ)) (form : Form) where
  abbrev role : LiftRole
  role = a_lift names

  pub short_first : (low high : ℕ) → Stands low high form → length (parts_of form) < 4 → IsFirstInLift role form (place_of form) BadForm
  short_first low high h l = form_first role form low high h (short_lift l)

  lift_own : 4 ≤ length (parts_of form) → HasNone role form
  lift_own enough k (short_lift l) = absurd (omega (arith, enough, l))

  keyword_read : ClearParts role form 1
  keyword_read = clear_silent role form 0 refl (clear_zero role form)

  module _ (enough : 4 ≤ length (parts_of form)) (first : Form) (g1 : slice_get (parts_of form) 1 ≡ Some first) where
    pub name_part_first : (low high place : ℕ) (kind : Kind) → Stands low high form → IsFirst (IsFaultAs (fresh_name names) first) place kind → IsFirstInLift role form place kind
    name_part_first low high place kind h one =
        part_first role form low high 1 first (lift_name names) place kind h (lift_own enough) g1 refl keyword_read (name_first names first place kind one)

    module _ (bytes : List ℕ) (named : name_in first ≡ Some bytes) (fresh : is_among names bytes ≡ false) (second : Form) (g2 : slice_get (parts_of form) 2 ≡ Some second) where
      name_read : ClearParts role form 2
      name_read = clear_next role form 1 first (lift_name names) g1 refl (name_clear names first bytes named fresh) keyword_read

      pub words_part_first : (low high place : ℕ) (kind : Kind) → Stands low high form → IsFirstInLift word_list second place kind → IsFirstInLift role form place kind
      words_part_first low high place kind h one = part_first role form low high 2 second word_list place kind h (lift_own enough) g2 refl name_read one

      words_here : word_forms form ≡ parts_of second
      words_here = ap (λ o. option_map_or parts_of o []) g2

      module _ (words : List ℕ) (are : AreLiftWords second words) (third : Form) (g3 : slice_get (parts_of form) 3 ≡ Some third) where
        words_read : ClearParts role form 3
        words_read = clear_next role form 2 second word_list g2 refl (word_list_clear second words are) name_read

        out_here : lift_part_role role form 3 ≡ Some (out_role (parts_of second) third)
        out_here = ap (option_map (out_role (word_forms form))) g3 ∙ ap (λ ws. Some (out_role ws third)) words_here

        pub out_part_first : (low high place : ℕ) (kind : Kind) → Stands low high form → IsFirstInLift (out_role (parts_of second) third) third place kind → IsFirstInLift role form place kind
        out_part_first low high place kind h one = part_first role form low high 3 third (out_role (parts_of second) third) place kind h (lift_own enough) g3 out_here words_read one

        module _ (out : List ℕ) (o : AreOutRegisters (lifted words) third out) where
          out_read : ClearParts role form 4
          out_read =
              clear_next role form 3 third (out_role (parts_of second) third) g3 out_here
              (out_role_clear (parts_of second) third out (subst (λ s. AreOutRegisters s third out) (sym (lifted_is second words are.writes)) o)) words_read

          abbrev taken : List ℕ
          taken = inputs_read (lifted words) ++ out

          taken_here : taken_in form ≡ taken
          taken_here =
              ap₂ (λ s rs. inputs_read s ++ rs) (ap lifted_in words_here ∙ lifted_is second words are.writes)
              (ap (λ p. option_map_or (λ (f : Form). registers_in (parts_of f)) p []) g3 ∙ registers_are (codes "out") third out o.writes)

          pool_here : (fourth : Form) → slice_get (parts_of form) 4 ≡ Some fourth → lift_part_role role form 4 ≡ Some (lift_pool_role taken fourth)
          pool_here fourth g4 = ap (option_map (lift_pool_role (taken_in form))) g4 ∙ ap (λ ts. Some (lift_pool_role ts fourth)) taken_here

          pub last_part_first : (low high place : ℕ) (kind : Kind) → Stands low high form → IsFirstBehindOut taken (drop 4 (parts_of form)) place kind → IsFirstInLift role form place kind
          last_part_first low high place kind h (in_pool fourth there one) =
              let g4 : slice_get (parts_of form) 4 ≡ Some fourth = sym (behind_four (parts_of form) 0) ∙ there in
              part_first role form low high 4 fourth (lift_pool_role taken fourth) place kind h (lift_own enough) g4 (pool_here fourth g4) out_read one
          last_part_first low high place kind h (in_next fourth other there clear next one) =
              let g4 : slice_get (parts_of form) 4 ≡ Some fourth = sym (behind_four (parts_of form) 0) ∙ there in
              let g5 : slice_get (parts_of form) 5 ≡ Some other = sym (behind_four (parts_of form) 1) ∙ next in
              part_first role form low high 5 other wrong place kind h (lift_own enough) g5 refl (clear_next role form 4 fourth (lift_pool_role taken fourth) g4 (pool_here fourth g4) clear out_read) one

          pub lift_clear : (pools : List Form) (pool : Option (List ℕ)) → drop 4 (parts_of form) ≡ pools → WritesLiftPool pools pool → IfSome pool (ArePoolRegisters taken) → IsClearInLift role form
          lift_clear _ _ rest none_given apart =
              (let count = ap length rest in
              let less = length-drop 4 (parts_of form) in
              all_clear role form 4 (lift_own enough) (omega (arith, count, less)) out_read)
          lift_clear _ _ rest (one_given {form = fourth} {registers = registers} w) apart =
              (let count = ap length rest in
              let less = length-drop 4 (parts_of form) in
              let g4 : slice_get (parts_of form) 4 ≡ Some fourth = sym (behind_four (parts_of form) 0) ∙ ap (λ fs. slice_get fs 0) rest in
              all_clear role form 5 (lift_own enough) (omega (arith, count, less))
              (clear_next role form 4 fourth (lift_pool_role taken fourth) g4 (pool_here fourth g4) (pool_role_clear taken fourth registers w apart) out_read))

-- ---- what was read

pub record IsLiftRead (form : Form) (lift : LiftTree) : Type 0 where
  pub first : Form
  pub second : Form
  pub third : Form
  pub first_there : slice_get (parts_of form) 1 ≡ Some first
  pub second_there : slice_get (parts_of form) 2 ≡ Some second
  pub third_there : slice_get (parts_of form) 3 ≡ Some third
  pub named : name_in first ≡ Some lift.name
  pub words : AreLiftWords second lift.words
  pub out : AreOutRegisters (lifted lift.words) third lift.out
  pub pool : WritesLiftPool (drop 4 (parts_of form)) lift.pool
  pub apart : IfSome lift.pool (ArePoolRegisters (inputs_read (lifted lift.words) ++ lift.out))

four_parts : (xs : List Form) (a b c : Form) → slice_get xs 1 ≡ Some a → slice_get xs 2 ≡ Some b → slice_get xs 3 ≡ Some c → drop 1 xs ≡ a ∷ b ∷ c ∷ drop 4 xs
four_parts [] a b c g h i = cc
four_parts (x ∷ []) a b c g h i = cc
four_parts (x ∷ y ∷ []) a b c g h i = cc
four_parts (x ∷ y ∷ z ∷ []) a b c g h i = cc
four_parts (x ∷ y ∷ z ∷ w ∷ ws) a b c g h i = (let one : y ≡ a = cc in let two : z ≡ b = cc in let three : w ≡ c = cc in ap₂ (λ u v. u ∷ v) one (ap₂ (λ u v. u ∷ v) two (ap (λ u. u ∷ ws) three)))

has_pool : (lift : LiftTree) (o : Option (List ℕ)) → IfSome o (ArePoolRegisters (inputs_read (lifted lift.words) ++ lift.out)) → HasPool lift o
has_pool lift None h = tt
has_pool lift (Some registers) h = record { are = h.are; apart = h.apart }

pub lift_writes : (form : Form) (lift : LiftTree) → is_lift form ≡ true → IsLiftRead form lift → WritesLift form lift
lift_writes form lift head read = record {
  name_form = read.first;
  words_form = read.second;
  out_form = read.third;
  pools = drop 4 (parts_of form);
  is = subst (λ ps. IsListOf (codes "lift") ps form) (four_parts (parts_of form) read.first read.second read.third read.first_there read.second_there read.third_there) (headed (codes "lift") form head);
  named = is_name read.first lift.name read.named;
  words = read.words.writes;
  out = read.out.writes;
  pool = read.pool;
  rules = record {
    words = read.words.plain;
    few_words = read.words.few;
    out = read.out.are;
    pool = has_pool lift lift.pool read.apart;
    few_inputs = read.words.within.inputs;
    few_assumes = read.words.within.assumes;
    few_sets = read.out.few;
  };
}

-- and back
pub lift_read : (form : Form) (lift : LiftTree) → WritesLift form lift → IsLiftRead form lift
lift_read form lift w = record {
  first = w.name_form;
  second = w.words_form;
  third = w.out_form;
  first_there = ap (λ (f : Form). slice_get (parts_of f) 1) w.is.is;
  second_there = ap (λ (f : Form). slice_get (parts_of f) 2) w.is.is;
  third_there = ap (λ (f : Form). slice_get (parts_of f) 3) w.is.is;
  named = ap name_in w.named.is;
  words = record { writes = w.words; plain = w.rules.words; few = w.rules.few_words; within = record { inputs = w.rules.few_inputs; assumes = w.rules.few_assumes } };
  out = record { writes = w.out; are = w.rules.out; few = w.rules.few_sets };
  pool = subst (λ fs. WritesLiftPool fs lift.pool) (sym (ap (λ (f : Form). drop 4 (parts_of f)) w.is.is ∙ list_from w.pools)) w.pool;
  apart = by lift.pool w.rules.pool;
}
  where
    by : (o : Option (List ℕ)) → HasPool lift o → IfSome o (ArePoolRegisters (inputs_read (lifted lift.words) ++ lift.out))
    by None h = tt
    by (Some registers) h = record { are = h.are; apart = h.apart }

pub written_lift_clear : (names : List (List ℕ)) (form : Form) (lift : LiftTree) → WritesLift form lift → is_among names lift.name ≡ false → IsClearInLift (a_lift names) form
written_lift_clear names form lift w fresh =
    let r = lift_read form lift w in
    let there = slice_get_within (parts_of form) 3 r.third r.third_there in
    lift_clear names form (omega (arith, there)) r.first r.first_there lift.name r.named fresh r.second r.second_there lift.words r.words r.third r.third_there lift.out r.out (drop 4 (parts_of form)) lift.pool refl r.pool r.apart

-- ---- the next form of a text

module _ (front : List Form) (form : Form) where
  pub no_lift_first : (low high : ℕ) → Stands low high form → is_lift form ≡ false → IsFirstInLift (next_lift_role front form) form (place_of form) BadForm
  no_lift_first low high h e =
      subst (λ (r : LiftRole). IsFirstInLift r form (place_of form) BadForm)
      (sym (ap (λ b. if b then (if nat_lt (length front) 64 then a_lift (names_given front) else past) else wrong) e)) (wrong_first form low high h)

  pub many_lifts_first : (low high : ℕ) → Stands low high form → is_lift form ≡ true → 64 ≤ length front → IsFirstInLift (next_lift_role front form) form (place_of form) LimitPassed
  many_lifts_first low high h e many =
      subst (λ (r : LiftRole). IsFirstInLift r form (place_of form) LimitPassed)
      (sym (ap (λ b. if b then (if nat_lt (length front) 64 then a_lift (names_given front) else past) else wrong) e
      ∙ ap (λ b. if b then a_lift (names_given front) else past) (not_less (length front) 64 many))) (past_first form low high h)

  pub next_is : is_lift form ≡ true → length front < 64 → next_lift_role front form ≡ a_lift (names_given front)
  next_is e few =
      ap (λ b. if b then (if nat_lt (length front) 64 then a_lift (names_given front) else past) else wrong) e
      ∙ ap (λ b. if b then a_lift (names_given front) else past) (is_less (length front) 64 few)
    where
      is_less : (m n : ℕ) → m < n → nat_lt m n ≡ true
      is_less m n l = grind (arith, nat_tests, l)
