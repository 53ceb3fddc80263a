-- Five bytes at least are written for each four operators of a proc. What goal_reader says of all terms is handed in.
use Rattle.std.proofs.Common.{◌≡◌, ℕ, zero, suc, ◌+◌, ◌*◌, ◌<◌, ◌≤◌, ◌++◌, Option, None, Some, List, [], ◌∷◌, length, sym, ap, subst, arith, codes}
use Rattle.std.specs.Option.{option_map_or}
use Rattle.forms.specs.Forms.{Form, Forms, atom, list, none, more, forms_from, Stands, Stand}
use Rattle.machine_table.specs.Grammar.{Each, more_of, IsListOf}
use Rattle.machine_table.specs.Grammar as grammar
use Rattle.word_ops.specs.declared.sorts.Op.{Op}
use Rattle.word_ops.specs.declared.sorts.Sort.{Sort}
use Rattle.word_ops.specs.declared.sorts.Sort.TheVariants as sorts
use Rattle.word_terms.specs.OperatorsIn.{operators_in}
use Rattle.word_terms.specs.Tree.{Tree}
use Rattle.goal_meaning.specs.Views.{TargetTree}
use Rattle.goal_meaning.specs.WellFormed.{operators_of_target, sort_of_target, sum_over}
use Rattle.goal_meaning.specs.declared.goals.InputReg.{InputReg}
use Rattle.goal_reader.specs.GoalTerms.{term_scope}
use Rattle.goal_reader.specs.Terms.{Writes}
use Rattle.proc_goal.specs.ProcGrammar.{WritesBlock, WritesProc, WritesProcText, WritesSet, WritesWhen, guarded, unguarded}
use Rattle.proc_goal.specs.Views.{BlockTree, ProcTree, WhenTree, names_of_blocks}
use Rattle.proc_goal.specs.WellFormed.{operators_of_block, operators_of_proc, operators_of_sets}

-- ---- where forms stand
mutual
  stands_within : (low high : ℕ) (f : Form) → Stands low high f → low + 1 ≤ high
  stands_within low high (atom place a) s = let a = s.0 in let b = s.1 in omega (arith, a, b)
  stands_within low high (list place parts) s = let a = s.0 in let b = stand_within (place + 1) high parts s.1 in omega (arith, a, b)

  stand_within : (low high : ℕ) (fs : Forms) → Stand low high fs → low ≤ high
  stand_within low high none s = s
  stand_within low high (more form forms) s =
      let a = stands_within low s.0 form s.1.0 in
      let b = stand_within s.0 high forms s.1.1 in
      omega (arith, a, b)

stand_both : (low high : ℕ) (xs ys : List Form) → Stand low high (forms_from (xs ++ ys)) → (middle : ℕ) × Stand low middle (forms_from xs) × Stand middle high (forms_from ys)
stand_both low high [] ys s = (low, (let e : low ≤ low = omega arith in e), s)
stand_both low high (x ∷ xs) ys s =
    let rest = stand_both s.0 high xs ys s.1.1 in
    (rest.0, (s.0, (s.1.0, rest.1)), rest.2)

-- the parenthesis and the keyword before the parts
parts_stand : (word : List ℕ) (parts : List Form) (form : Form) (low high : ℕ) → IsListOf word parts form → Stands low high form → (from : ℕ) × (low + 2 ≤ from) × Stand from high (forms_from parts)
parts_stand word parts form low high is s =
    let t = subst (λ (f : Form). Stands low high f) is.is s in
    let a = t.0 in
    let inner = t.1 in
    let b = inner.1.0.0 in
    let c = inner.1.0.1 in
    (inner.0, omega (arith, a, b, c), inner.1.1)

-- ---- what forms write
each_few : {Y : Type 0} (W : Form → Y → Type 0) (size : Y → ℕ) → ((f : Form) (y : Y) (low high : ℕ) → W f y → Stands low high f → 4 * low + 5 * size y ≤ 4 * high) → (fs : List Form) (ys : List Y) (low high : ℕ) → Each W fs ys → Stand low high (forms_from fs)
    → 4 * low + 5 * sum_over size ys ≤ 4 * high
each_few W size step _ _ low high grammar.none s = omega (arith, s)
each_few W size step _ _ low high (more_of {form = f} {forms = fs} {y = y} {ys = ys} one others) s =
    let a = step f y low s.0 one s.1.0 in
    let b = each_few W size step fs ys s.0 high others s.1.1 in
    omega (arith, a, b)

sets_most : (ts : List TargetTree) → operators_of_sets ts ≤ sum_over operators_of_target ts + 1
sets_most [] = omega arith
sets_most (t ∷ ts) = omega arith

module _ (term_few : (inputs : List InputReg) (sort : Sort) (form : Form) (t : Tree Op) (low high : ℕ) → Writes (term_scope inputs) sort form t → Stands low high form → 4 * low + 5 * operators_in t ≤ 4 * high + 1) where
  set_few : (vars : List InputReg) (f : Form) (t : TargetTree) (low high : ℕ) → WritesSet vars f t → Stands low high f → 4 * low + 5 * operators_of_target t ≤ 4 * high
  set_few vars f t low high w s =
      let p = parts_stand (codes "set") (w.first ∷ w.second ∷ []) f low high w.is s in
      let from = p.1 in
      let first = stands_within p.0 p.2.0 w.first p.2.1.0 in
      let last = p.2.1.1 in
      let value = term_few vars (sort_of_target t.name) w.second t.value p.2.0 last.0 w.value last.1.0 in
      let end = last.1.1 in
      omega (arith, from, first, value, end)

  guard_few : (vars : List InputReg) (names : List (List ℕ)) (fs : List Form) (o : Option WhenTree) (low high : ℕ) → WritesWhen vars names fs o → Stand low high (forms_from fs)
      → 4 * low + 5 * option_map_or (λ (w : WhenTree). operators_in w.guard) o 0 ≤ 4 * high
  guard_few vars names _ _ low high unguarded s = omega (arith, s)
  guard_few vars names _ _ low high (guarded {form = f} {w = w} first second is value target) s =
      let p = parts_stand (codes "when") (first ∷ second ∷ []) f low s.0 is s.1.0 in
      let from = p.1 in
      let guard = term_few vars sorts.Word first w.guard p.0 p.2.0 value p.2.1.0 in
      let rest = stand_within p.2.0 s.0 (forms_from (second ∷ [])) p.2.1.1 in
      let end = s.1.1 in
      omega (arith, from, guard, rest, end)

  block_few : (vars : List InputReg) (names : List (List ℕ)) (f : Form) (b : BlockTree) (low high : ℕ) → WritesBlock vars names f b → Stands low high f → 4 * low + 5 * operators_of_block b ≤ 4 * high
  block_few vars names f b low high w s =
      let p = parts_stand (codes "block") (w.name_form ∷ (w.whens ++ (w.sets ++ w.last ∷ []))) f low high w.is s in
      let from = p.1 in
      let name = stands_within p.0 p.2.0 w.name_form p.2.1.0 in
      let whens = stand_both p.2.0 high w.whens (w.sets ++ w.last ∷ []) p.2.1.1 in
      let guard = guard_few vars names w.whens b.when p.2.0 whens.0 w.guard whens.1 in
      let sets = stand_both whens.0 high w.sets (w.last ∷ []) whens.2 in
      let values = each_few (WritesSet vars) operators_of_target (set_few vars) w.sets b.sets whens.0 sets.0 w.each_set sets.1 in
      let end = stand_within sets.0 high (forms_from (w.last ∷ [])) sets.2 in
      let most = sets_most b.sets in
      omega (arith, from, name, guard, values, end, most)

  proc_few : (f : Form) (p : ProcTree) (low high : ℕ) → WritesProc f p → Stands low high f → 4 * low + 5 * operators_of_proc p ≤ 4 * high
  proc_few f p low high w s =
      let names = names_of_blocks p.blocks in
      let q = parts_stand (codes "proc") (w.name_form ∷ (w.vars ++ (w.pools ++ w.blocks))) f low high w.is s in
      let from = q.1 in
      let name = stands_within q.0 q.2.0 w.name_form q.2.1.0 in
      let vars = stand_both q.2.0 high w.vars (w.pools ++ w.blocks) q.2.1.1 in
      let before = stand_within q.2.0 vars.0 (forms_from w.vars) vars.1 in
      let pools = stand_both vars.0 high w.pools w.blocks vars.2 in
      let between = stand_within vars.0 pools.0 (forms_from w.pools) pools.1 in
      let blocks = each_few (WritesBlock p.vars names) operators_of_block (block_few p.vars names) w.blocks p.blocks pools.0 high w.each_block pools.2 in
      omega (arith, from, name, before, between, blocks)

  pub text_few : (fs : List Form) (p : ProcTree) (size : ℕ) → WritesProcText fs p → Stand 0 size (forms_from fs) → 5 * operators_of_proc p ≤ 4 * size
  text_few fs p size w s =
      let both = stand_both 0 size w.machines (w.last ∷ []) (subst (λ gs. Stand 0 size (forms_from gs)) w.are s) in
      let before = stand_within 0 both.0 (forms_from w.machines) both.1 in
      let last = proc_few w.last p both.0 both.2.0 w.proc both.2.1.0 in
      let end = both.2.1.1 in
      omega (arith, before, last, end)
