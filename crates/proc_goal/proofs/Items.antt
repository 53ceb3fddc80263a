-- Lists that begin with one word each, and how what stands behind them is read.
use Rattle.std.proofs.Common.{◌≡◌, ℕ, zero, suc, ◌+◌, ◌<◌, ◌≤◌, ◌||◌, ◌++◌, ◌==◌, nat_lt, if◌then◌else◌, Bool, true, false, Option, None, Some, List, [], ◌∷◌, map, length, filter, filter_map, refl, sym, ap, ap₂, ◌∙◌, subst, arith, bytes_eq, codes}
use Rattle.std.specs.Prelude.{⊤}
use Rattle.std.specs.List.{list_any, cons_option}
use Rattle.std.proofs.lemmas.Bool.Decides.{nat_tests}
use Rattle.std.proofs.lemmas.List.{append-nil}
use Rattle.std.proofs.lemmas.List.Elements.{filter-append, filter_map-append}
use Rattle.std.proofs.lemmas.List.Folds.{list_any-append}
use Rattle.std.proofs.lemmas.Slice.Eq.{bytes_eq-Decides}
use Rattle.forms.specs.Forms.{Form, parts_of, name_in, is_list}
use Rattle.goal_meaning.specs.Views.{TargetTree}
use Rattle.goal_meaning.specs.WellFormed.{input_registers}
use Rattle.goal_meaning.specs.declared.goals.InputReg.{InputReg}
use Rattle.goal_reader.specs.Roles.{a_list, input, pool, past, input_in, second_name, names_given, items_of_goal, register_of, ◌>>=◌}
use Rattle.goal_reader.proofs.ReadParts.{register_told}
use Rattle.machine_table.specs.Grammar.{Each, more_of, IsListOf}
use Rattle.machine_table.specs.Roles.{has_head}
use Rattle.machine_table.proofs.Parts.{headed}
use Rattle.proc_goal.specs.ProcGrammar.{WritesVariable, WritesSet, WritesBlock}
use Rattle.proc_goal.specs.ProcReading.{IsProcFront, IsGuardFront}
use Rattle.proc_goal.specs.ProcRoles.{ProcRole, of_goal, a_block, a_guard, a_set, a_go, not_there, role_up_to, lists_of, has_list, proc_variables_in, ends_variables, variable_role, pool_role, block_role, proc_item_role, set_role, step_role}
use Rattle.proc_goal.specs.Views.{BlockTree, names_of_blocks}

-- ---- first words
pub keyword_told : (word : List ℕ) (parts : List Form) (form : Form) → IsListOf word parts form → has_head word form ≡ true
keyword_told word parts form is = ap (has_head word) is.is ∙ (bytes_eq-Decides word word).1 refl

pub other_told : (word other : List ℕ) (parts : List Form) (form : Form) → IsListOf word parts form → bytes_eq word other ≡ false → has_head other form ≡ false
other_told word other parts form is e = ap (has_head other) is.is ∙ e

-- it is a list
pub head_is_list : (word : List ℕ) (form : Form) → has_head word form ≡ true → is_list form ≡ false → ⊥
head_is_list word form h e = (let f : true ≡ false = sym (ap is_list (headed word form h).is) ∙ e in cc)

-- a list begins with one word
pub other_head : (word other : List ℕ) (form : Form) → has_head word form ≡ true → bytes_eq word other ≡ false → has_head other form ≡ false
other_head word other form h e = other_told word other _ form (headed word form h) e

abbrev pub AllBegin : List ℕ → List Form → Type 0
AllBegin word [] = ⊤
AllBegin word (f ∷ fs) = (has_head word f ≡ true) × AllBegin word fs

pub each_begins : {Y : Type 0} (W : Form → Y → Type 0) (word : List ℕ) → ((f : Form) (y : Y) → W f y → has_head word f ≡ true) → (fs : List Form) (ys : List Y) → Each W fs ys → AllBegin word fs
each_begins W word step [] [] e = tt
each_begins W word step [] (y ∷ ys) e = elim e [ ]
each_begins W word step (f ∷ fs) [] e = elim e [ ]
each_begins W word step (f ∷ fs) (y ∷ ys) (more_of one others) = (step f y one, each_begins W word step fs ys others)

pub lists_all : (word : List ℕ) (fs : List Form) → AllBegin word fs → lists_of word fs ≡ fs
lists_all word [] h = refl
lists_all word (f ∷ fs) h = ap (λ b. if b then f ∷ lists_of word fs else lists_of word fs) h.0 ∙ ap (λ xs. f ∷ xs) (lists_all word fs h.1)

pub lists_none : (word other : List ℕ) (fs : List Form) → AllBegin word fs → bytes_eq word other ≡ false → lists_of other fs ≡ []
lists_none word other [] h e = refl
lists_none word other (f ∷ fs) h e = ap (λ b. if b then f ∷ lists_of other fs else lists_of other fs) (other_head word other f h.0 e) ∙ lists_none word other fs h.1 e

pub has_none : (word other : List ℕ) (fs : List Form) → AllBegin word fs → bytes_eq word other ≡ false → has_list other fs ≡ false
has_none word other [] h e = refl
has_none word other (f ∷ fs) h e = ap₂ (λ a b. a || b) (other_head word other f h.0 e) (has_none word other fs h.1 e)

pub lists_both : (word : List ℕ) (xs ys : List Form) → lists_of word (xs ++ ys) ≡ lists_of word xs ++ lists_of word ys
lists_both word xs ys = filter-append (has_head word) xs ys

pub has_both : (word : List ℕ) (xs ys : List Form) → has_list word (xs ++ ys) ≡ (has_list word xs || has_list word ys)
has_both word xs ys = list_any-append (has_head word) xs ys

-- ---- what the items say
pub told_all : {Y Z : Type 0} (W : Form → Y → Type 0) (tell : Form → Option Z) (shown : Y → Z) → ((f : Form) (y : Y) → W f y → tell f ≡ Some (shown y)) → (fs : List Form) (ys : List Y) → Each W fs ys → filter_map tell fs ≡ map shown ys
told_all W tell shown step [] [] e = refl
told_all W tell shown step [] (y ∷ ys) e = elim e [ ]
told_all W tell shown step (f ∷ fs) [] e = elim e [ ]
told_all W tell shown step (f ∷ fs) (y ∷ ys) (more_of one others) =
    ap (λ o. cons_option o (filter_map tell fs)) (step f y one) ∙ ap (λ zs. shown y ∷ zs) (told_all W tell shown step fs ys others)

map_same : {X : Type 0} (xs : List X) → map (λ x. x) xs ≡ xs
map_same [] = refl
map_same (x ∷ xs) = ap (λ ys. x ∷ ys) (map_same xs)

pub variable_begins : (f : Form) (v : InputReg) → WritesVariable f v → has_head (codes "var") f ≡ true
variable_begins f v w = keyword_told (codes "var") _ f w.is

pub variable_told : (f : Form) (v : InputReg) → WritesVariable f v → input_in f ≡ Some v
variable_told f v w =
    ap input_in w.is.is
    ∙ ap (λ o. o >>= (λ nm. register_of w.second >>= (λ reg. Some (record { name = nm; reg = reg })))) (ap name_in w.named.is)
    ∙ ap (λ o. o >>= (λ reg. Some (record { name = v.name; reg = reg }))) (register_told w.second v.reg w.placed)

pub variables_told : (fs : List Form) (vs : List InputReg) → Each WritesVariable fs vs → proc_variables_in fs ≡ vs
variables_told fs vs e =
    ap (filter_map input_in) (lists_all (codes "var") fs (each_begins WritesVariable (codes "var") variable_begins fs vs e))
    ∙ told_all WritesVariable input_in (λ v. v) variable_told fs vs e ∙ map_same vs

pub set_begins : (vars : List InputReg) (f : Form) (t : TargetTree) → WritesSet vars f t → has_head (codes "set") f ≡ true
set_begins vars f t w = keyword_told (codes "set") _ f w.is

pub set_told : (vars : List InputReg) (f : Form) (t : TargetTree) → WritesSet vars f t → second_name f ≡ Some t.name
set_told vars f t w = ap second_name w.is.is ∙ ap name_in w.named.is

pub block_begins : (vars : List InputReg) (names : List (List ℕ)) (f : Form) (b : BlockTree) → WritesBlock vars names f b → has_head (codes "block") f ≡ true
block_begins vars names f b w = keyword_told (codes "block") _ f w.is

pub block_told : (vars : List InputReg) (names : List (List ℕ)) (f : Form) (b : BlockTree) → WritesBlock vars names f b → second_name f ≡ Some b.name
block_told vars names f b w = ap second_name w.is.is ∙ ap name_in w.named.is

-- ---- how many
few : (n most : ℕ) (one other : ProcRole) → n < most → (if nat_lt n most then one else other) ≡ one
few n most one other l = ap (λ b. if b then one else other) (let t : nat_lt n most ≡ true = grind (arith, nat_tests, l) in t)

many : (n most : ℕ) (one other : ProcRole) → most ≤ n → (if nat_lt n most then one else other) ≡ other
many n most one other l = ap (λ b. if b then one else other) (let t : nat_lt n most ≡ false = grind (arith, nat_tests, l) in t)

pub within_limit : (most : ℕ) (before : List Form) (role : ProcRole) → length before < most → role_up_to most before role ≡ role
within_limit most before role l = few (length before) most role (of_goal past) l

pub past_limit : (most : ℕ) (before : List Form) (role : ProcRole) → most ≤ length before → role_up_to most before role ≡ of_goal past
past_limit most before role l = many (length before) most role (of_goal past) l

-- ---- items of a proc
ends_none : (word : List ℕ) (fs : List Form) → AllBegin word fs → bytes_eq word (codes "pool") ≡ false → bytes_eq word (codes "block") ≡ false → list_any ends_variables fs ≡ false
ends_none word [] h e g = refl
ends_none word (f ∷ fs) h e g =
    ap₂ (λ a b. a || b) (ap₂ (λ a b. a || b) (other_head word (codes "pool") f h.0 e) (other_head word (codes "block") f h.0 g)) (ends_none word fs h.1 e g)

or_true : (a : Bool) → a || true ≡ true
or_true true = refl
or_true false = refl

pub ends_block : (f : Form) → has_head (codes "block") f ≡ true → ends_variables f ≡ true
ends_block f h = ap (λ b. has_head (codes "pool") f || b) h ∙ or_true (has_head (codes "pool") f)

pub ends_pool : (f : Form) → has_head (codes "pool") f ≡ true → ends_variables f ≡ true
ends_pool f h = ap (λ b. b || has_head (codes "block") f) h

module _ (names : List (List ℕ)) (before : List Form) (form : Form) where
  abbrev choose : Bool → Bool → Bool → ProcRole
  choose a b c = if a then variable_role before else if b then pool_role before else if c then block_role names before else not_there

  pub as_variable : has_head (codes "var") form ≡ true → proc_item_role names before form ≡ variable_role before
  as_variable h = ap (λ a. choose a (has_head (codes "pool") form) (has_head (codes "block") form)) h

  pub as_pool : has_head (codes "pool") form ≡ true → proc_item_role names before form ≡ pool_role before
  as_pool h =
      ap (λ a. choose a (has_head (codes "pool") form) (has_head (codes "block") form)) (other_head (codes "pool") (codes "var") form h refl)
      ∙ ap (λ b. choose false b (has_head (codes "block") form)) h

  pub as_block : has_head (codes "block") form ≡ true → proc_item_role names before form ≡ block_role names before
  as_block h =
      ap (λ a. choose a (has_head (codes "pool") form) (has_head (codes "block") form)) (other_head (codes "block") (codes "var") form h refl)
      ∙ ap (λ b. choose false b (has_head (codes "block") form)) (other_head (codes "block") (codes "pool") form h refl)
      ∙ ap (choose false false) h

  -- neither a variable nor a pool nor a block
  pub as_nothing : has_head (codes "var") form ≡ false → has_head (codes "pool") form ≡ false → has_head (codes "block") form ≡ false → proc_item_role names before form ≡ not_there
  as_nothing a b c =
      ap (λ x. choose x (has_head (codes "pool") form) (has_head (codes "block") form)) a ∙ ap (λ x. choose false x (has_head (codes "block") form)) b ∙ ap (choose false false) c

  too_late : list_any ends_variables before ≡ true → (variable_role before ≡ not_there) × (pool_role before ≡ not_there)
  too_late e = (
    ap (λ b. if b then not_there else role_up_to 16 (lists_of (codes "var") before) (of_goal (a_list (input [] (proc_variables_in before))))) e,
    ap (λ b. if b then not_there else of_goal (a_list (pool (input_registers (proc_variables_in before))))) e,
  )

  -- behind a pool or a block nothing but blocks
  pub as_late : list_any ends_variables before ≡ true → has_head (codes "block") form ≡ false → proc_item_role names before form ≡ not_there
  as_late e c =
      let late = too_late e in
      ap (λ x. choose (has_head (codes "var") form) (has_head (codes "pool") form) x) c
      ∙ ap (λ (r : ProcRole). if has_head (codes "var") form then r else if has_head (codes "pool") form then pool_role before else not_there) late.0
      ∙ ap (λ (r : ProcRole). if has_head (codes "var") form then not_there else if has_head (codes "pool") form then r else not_there) late.1
      ∙ all_same (has_head (codes "var") form) (has_head (codes "pool") form)
    where
      all_same : (a b : Bool) → (if a then not_there else if b then not_there else not_there) ≡ not_there
      all_same true b = refl
      all_same false true = refl
      all_same false false = refl

-- behind variables alone
module _ (names : List (List ℕ)) (fs : List Form) (vs : List InputReg) (each : Each WritesVariable fs vs) (form : Form) where
  begin : AllBegin (codes "var") fs
  begin = each_begins WritesVariable (codes "var") variable_begins fs vs each

  no_end : list_any ends_variables fs ≡ false
  no_end = ends_none (codes "var") fs begin refl refl

  variable_open : variable_role fs ≡ role_up_to 16 fs (of_goal (a_list (input [] vs)))
  variable_open =
      ap (λ b. if b then not_there else role_up_to 16 (lists_of (codes "var") fs) (of_goal (a_list (input [] (proc_variables_in fs))))) no_end
      ∙ ap (λ xs. role_up_to 16 xs (of_goal (a_list (input [] (proc_variables_in fs))))) (lists_all (codes "var") fs begin)
      ∙ ap (λ ws. role_up_to 16 fs (of_goal (a_list (input [] ws)))) (variables_told fs vs each)

  pub variable_here : has_head (codes "var") form ≡ true → length fs < 16 → proc_item_role names fs form ≡ of_goal (a_list (input [] vs))
  variable_here h l = as_variable names fs form h ∙ variable_open ∙ within_limit 16 fs (of_goal (a_list (input [] vs))) l

  pub variable_past : has_head (codes "var") form ≡ true → 16 ≤ length fs → proc_item_role names fs form ≡ of_goal past
  variable_past h l = as_variable names fs form h ∙ variable_open ∙ past_limit 16 fs (of_goal (a_list (input [] vs))) l

  pub pool_here : has_head (codes "pool") form ≡ true → proc_item_role names fs form ≡ of_goal (a_list (pool (input_registers vs)))
  pool_here h =
      as_pool names fs form h
      ∙ ap (λ b. if b then not_there else of_goal (a_list (pool (input_registers (proc_variables_in fs))))) no_end
      ∙ ap (λ ws. of_goal (a_list (pool (input_registers ws)))) (variables_told fs vs each)

  pub no_blocks : lists_of (codes "block") fs ≡ []
  no_blocks = lists_none (codes "var") (codes "block") fs begin refl

-- behind the front and blocks
module _ (vars : List InputReg) (names : List (List ℕ)) (front items : List Form) (is : IsProcFront vars front items) (fs : List Form) (bs : List BlockTree) (each : Each (WritesBlock vars names) fs bs) (form : Form) where
  begin_blocks : AllBegin (codes "block") fs
  begin_blocks = each_begins (WritesBlock vars names) (codes "block") (block_begins vars names) fs bs each

  variables_are : proc_variables_in (front ++ fs) ≡ vars
  variables_are =
      ap (filter_map input_in) (lists_both (codes "var") front fs ∙ ap (λ xs. lists_of (codes "var") front ++ xs) (lists_none (codes "block") (codes "var") fs begin_blocks refl) ∙ append-nil (lists_of (codes "var") front))
      ∙ is.variables

  blocks_are : lists_of (codes "block") (front ++ fs) ≡ fs
  blocks_are = lists_both (codes "block") front fs ∙ ap (λ xs. xs ++ lists_of (codes "block") fs) is.no_block ∙ lists_all (codes "block") fs begin_blocks

  block_open : block_role names (front ++ fs) ≡ role_up_to 64 fs (a_block vars names (names_of_blocks bs))
  block_open =
      ap (λ xs. role_up_to 64 xs (a_block (proc_variables_in (front ++ fs)) names (names_given xs))) blocks_are
      ∙ ap (λ vs. role_up_to 64 fs (a_block vs names (names_given fs))) variables_are
      ∙ ap (λ ns. role_up_to 64 fs (a_block vars names ns)) (told_all (WritesBlock vars names) second_name (λ (b : BlockTree). b.name) (block_told vars names) fs bs each)

  pub block_here : has_head (codes "block") form ≡ true → length fs < 64 → proc_item_role names (front ++ fs) form ≡ a_block vars names (names_of_blocks bs)
  block_here h l = as_block names (front ++ fs) form h ∙ block_open ∙ within_limit 64 fs (a_block vars names (names_of_blocks bs)) l

  pub block_past : has_head (codes "block") form ≡ true → 64 ≤ length fs → proc_item_role names (front ++ fs) form ≡ of_goal past
  block_past h l = as_block names (front ++ fs) form h ∙ block_open ∙ past_limit 64 fs (a_block vars names (names_of_blocks bs)) l

-- ---- items of a block
module _ (vars : List InputReg) (names : List (List ℕ)) (before : List Form) (form : Form) where
  abbrev of_step : Bool → Bool → ProcRole
  of_step a b =
      if a then (if length before == 0 then a_guard vars names else not_there) else if b then set_role vars before
      else if has_head (codes "go") form then (if has_list (codes "go") before then not_there else a_go names) else not_there

  pub as_set : has_head (codes "set") form ≡ true → step_role vars names before form ≡ set_role vars before
  as_set h = ap (λ a. of_step a (has_head (codes "set") form)) (other_head (codes "set") (codes "when") form h refl) ∙ ap (of_step false) h

module _ (vars : List InputReg) (front : List Form) (is : IsGuardFront front) (fs : List Form) (ts : List TargetTree) (each : Each (WritesSet vars) fs ts) where
  begin_sets : AllBegin (codes "set") fs
  begin_sets = each_begins (WritesSet vars) (codes "set") (set_begins vars) fs ts each

  no_go_yet : has_list (codes "go") (front ++ fs) ≡ false
  no_go_yet = has_both (codes "go") front fs ∙ ap₂ (λ a b. a || b) is.no_go (has_none (codes "set") (codes "go") fs begin_sets refl)

  sets_are : lists_of (codes "set") (front ++ fs) ≡ fs
  sets_are = lists_both (codes "set") front fs ∙ ap (λ xs. xs ++ lists_of (codes "set") fs) is.no_set ∙ lists_all (codes "set") fs begin_sets

  set_open : set_role vars (front ++ fs) ≡ role_up_to 16 fs (a_set vars (map (λ (t : TargetTree). t.name) ts))
  set_open =
      ap (λ b. if b then not_there else role_up_to 16 (lists_of (codes "set") (front ++ fs)) (a_set vars (names_given (lists_of (codes "set") (front ++ fs))))) no_go_yet
      ∙ ap (λ xs. role_up_to 16 xs (a_set vars (names_given xs))) sets_are
      ∙ ap (λ ns. role_up_to 16 fs (a_set vars ns)) (told_all (WritesSet vars) second_name (λ (t : TargetTree). t.name) (set_told vars) fs ts each)

  module _ (names : List (List ℕ)) (form : Form) (h : has_head (codes "set") form ≡ true) where
    pub set_here : length fs < 16 → step_role vars names (front ++ fs) form ≡ a_set vars (map (λ (t : TargetTree). t.name) ts)
    set_here l = as_set vars names (front ++ fs) form h ∙ set_open ∙ within_limit 16 fs (a_set vars (map (λ (t : TargetTree). t.name) ts)) l

    pub set_past : 16 ≤ length fs → step_role vars names (front ++ fs) form ≡ of_goal past
    set_past l = as_set vars names (front ++ fs) form h ∙ set_open ∙ past_limit 16 fs (a_set vars (map (λ (t : TargetTree). t.name) ts)) l
