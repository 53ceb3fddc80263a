-- What the form of a proc that was read writes, and the rules that it keeps.
use Rattle.std.proofs.Common.{◌≡◌, ◌≢◌, ℕ, ◌<◌, ◌≤◌, ◌++◌, Bool, true, Option, None, Some, List, [], ◌∷◌, length, take, drop, refl, sym, ap, ◌∙◌, subst, arith, slice_get, codes}
use Rattle.std.specs.Prelude.{AllPairs, All}
use Rattle.forms.specs.Forms.{Form, parts_of, name_in}
use Rattle.machine_table.specs.Grammar.{Each, IsListOf}
use Rattle.machine_table.specs.Roles.{has_head}
use Rattle.machine_table.specs.declared.tables.Table.{Table}
use Rattle.machine_table.proofs.Parts.{headed}
use Rattle.goal_meaning.specs.Rules.{default_pool}
use Rattle.goal_meaning.specs.WellFormed.{input_registers}
use Rattle.goal_meaning.specs.declared.goals.InputReg.{InputReg}
use Rattle.goal_reader.specs.Drafts.{AreDifferent, pool_kept}
use Rattle.goal_reader.specs.Grammar.{WritesPool, given}
use Rattle.goal_reader.specs.Grammar as goal_grammar
use Rattle.goal_reader.specs.Roles.{goal_keywords, is_of_rank, items_of_goal, rank, registers_in}
use Rattle.goal_reader.proofs.Different.{pool_behind}
use Rattle.goal_reader.proofs.ItemForms.{is_name, pool_writes}
use Rattle.goal_reader.proofs.Keeping.{pool_free}
use Rattle.proc_goal.specs.ProcGrammar.{WritesBlock, WritesProc}
use Rattle.proc_goal.specs.ProcReading.{AreBlocks, AreLeading, IsPoolRead, absent, there}
use Rattle.proc_goal.specs.ProcRoles.{block_names_in, has_leading_variable, has_list}
use Rattle.proc_goal.specs.Views.{BlockTree, ProcTree, names_of_blocks}
use Rattle.proc_goal.specs.WellFormed.{KeepsProcRules}
use Rattle.proc_goal.proofs.BlockForms.{name_and_rest, parted}
use Rattle.proc_goal.proofs.Items.{block_begins, each_begins}
use Rattle.proc_goal.proofs.ProcParts.{IsPoolFront, behind_vars, items_parted, names_are, number_of, pool_front_is, rest, some_block, some_variable, var_forms}

pub pool_rank : (form : Form) → has_head (codes "pool") form ≡ true → rank goal_keywords form ≡ Some 1
pool_rank form h = ap (rank goal_keywords) (headed (codes "pool") form h).is

pub pool_keyword : (form : Form) → has_head (codes "pool") form ≡ true → is_of_rank goal_keywords 1 form ≡ true
pool_keyword form h = ap (is_of_rank goal_keywords 1) (headed (codes "pool") form h).is

first_taken : (xs : List Form) (f : Form) → slice_get xs 0 ≡ Some f → take 1 xs ≡ f ∷ []
first_taken [] f g = cc
first_taken (x ∷ xs) f g = (let same : x ≡ f = cc in ap (λ v. v ∷ []) same)

pool_written : (vars : List InputReg) (fs : List Form) (registers : Option (List ℕ)) → IsPoolRead vars fs registers → WritesPool (input_registers vars) (take (number_of registers) fs) (pool_kept (input_registers vars) registers)
pool_written vars fs None (absent ends) = goal_grammar.absent
pool_written vars fs (Some rs) (there form g h is clear) =
    let p = pool_writes (input_registers vars) form rs (pool_rank form h) is clear in
    subst (λ gs. WritesPool (input_registers vars) gs rs) (sym (first_taken fs form g)) (given p.0 p.1 p.2)

pool_differs : (vars : List InputReg) (fs : List Form) (registers : Option (List ℕ)) → AreDifferent (input_registers vars) → IsPoolRead vars fs registers → AreDifferent (input_registers vars ++ pool_kept (input_registers vars) registers)
pool_differs vars fs None d (absent ends) = pool_behind (input_registers vars) (input_registers vars) (λ r e. e) d
pool_differs vars fs (Some rs) d (there form g h is clear) =
    subst (λ xs. AreDifferent (input_registers vars ++ xs)) (sym is) (pool_free (input_registers vars) form (pool_rank form h) clear d)

module _ (form first : Form) (p : ProcTree) (head : has_head (codes "proc") form ≡ true) (g : slice_get (parts_of form) 1 ≡ Some first) (named : name_in first ≡ Some p.name)
    (variable_there : has_leading_variable (items_of_goal form) ≡ true) (block_there : has_list (codes "block") (items_of_goal form) ≡ true) (v : AreLeading (items_of_goal form) p.vars)
    (registers : Option (List ℕ)) (pool : IsPoolRead p.vars (drop (length p.vars) (items_of_goal form)) registers) (kept : p.pool ≡ pool_kept (input_registers p.vars) registers)
    (b : AreBlocks p.vars (block_names_in (items_of_goal form)) (drop (number_of registers) (drop (length p.vars) (items_of_goal form))) p.blocks) where
  abbrev items : List Form
  items = items_of_goal form

  front : IsPoolFront items p.vars v (number_of registers) registers
  front = pool_front_is items p.vars v registers pool

  differ : AreDifferent (input_registers p.vars ++ p.pool)
  differ = subst (λ rs. AreDifferent (input_registers p.vars ++ rs)) (sym kept) (pool_differs p.vars (behind_vars items p.vars v) registers v.keep.registers pool)

  rules : KeepsProcRules p
  rules = record {
    variable_names = v.keep.names;
    own_names = v.keep.own;
    registers = differ.pairs;
    low = differ.low;
    block_names = b.own.differ;
    not_done = b.own.not_done;
    set_names = b.own.set_names;
    variables = (
      some_variable items p.vars registers variable_there v pool
          (each_begins (WritesBlock p.vars (block_names_in items)) (codes "block") (block_begins p.vars (block_names_in items)) (drop (number_of registers) (behind_vars items p.vars v)) p.blocks b.each),
      v.few,
    );
    blocks = (some_block items p.vars v (number_of registers) registers front (block_names_in items) p.blocks b block_there, b.own.few);
    few_sets = b.own.few_sets;
  }

  pub proc_writes : WritesProc form p
  proc_writes =
      let parts : drop 1 (parts_of form) ≡ first ∷ (var_forms items p.vars v ++ (take (number_of registers) (behind_vars items p.vars v) ++ drop (number_of registers) (behind_vars items p.vars v))) =
      name_and_rest (parts_of form) first g ∙ ap (λ fs. first ∷ fs) (all_parted) in
      record {
        name_form = first;
        vars = var_forms items p.vars v;
        pools = take (number_of registers) (behind_vars items p.vars v);
        blocks = drop (number_of registers) (behind_vars items p.vars v);
        is = subst (λ ps. IsListOf (codes "proc") ps form) parts (headed (codes "proc") form head);
        named = is_name first p.name named;
        variables = v.each;
        pool = subst (λ rs. WritesPool (input_registers p.vars) (take (number_of registers) (behind_vars items p.vars v)) rs) (sym kept) (pool_written p.vars (behind_vars items p.vars v) registers pool);
        each_block = subst (λ ns. Each (WritesBlock p.vars ns) (drop (number_of registers) (behind_vars items p.vars v)) p.blocks) (names_are items p.vars v (number_of registers) registers front (block_names_in items) p.blocks b) b.each;
        rules = rules;
      }
    where
      all_parted : items ≡ var_forms items p.vars v ++ (take (number_of registers) (behind_vars items p.vars v) ++ drop (number_of registers) (behind_vars items p.vars v))
      all_parted = sym (ap (λ fs. var_forms items p.vars v ++ fs) (parted (number_of registers) (behind_vars items p.vars v)) ∙ parted (length p.vars) items)
