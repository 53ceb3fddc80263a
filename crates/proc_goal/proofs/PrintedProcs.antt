-- The texts of blocks and procs, part by part.
use Rattle.std.proofs.Common.{◌≡◌, ℕ, ◌<◌, ◌++◌, List, [], ◌∷◌, map, sym, ap, ◌∙◌, append_assoc, append-nil, get_or, length, option_map}
use Rattle.std.specs.Prelude.{slice_index_or}
use Rattle.std.proofs.lemmas.List.{get_or-map}
use Rattle.forms.specs.Printing.{lines_of, others_of, plain_text, plains_from}
use Rattle.goal_meaning.specs.InputForms.{pool_plain}
use Rattle.goal_meaning.specs.Views.{target_view}
use Rattle.goal_meaning.specs.declared.goals.InputReg.{InputReg}
use Rattle.goal_meaning.specs.declared.goals.Set.{Set}
use Rattle.goal_reader.proofs.Printed.{lines_both, map_twice, others_both}
use Rattle.proc_goal.specs.ProcForms.{block_plain, go_plain, proc_plain, proc_text, set_plain, table_plains, var_plain, when_plains}
use Rattle.proc_goal.specs.Views.{BlockTree, block_view, names_of_blocks, proc_view, when_view}
use Rattle.proc_goal.specs.declared.procs.Block.{Block}
use Rattle.proc_goal.specs.declared.procs.Proc.{Proc}

-- one text behind another
pub behind : (x0 x y u v : List ℕ) → x ≡ x0 ++ u → y ≡ x ++ v → y ≡ x0 ++ (u ++ v)
behind x0 x y u v e f = f ∙ ap (λ l. l ++ v) e ∙ append_assoc x0 u v

-- a list of a word, a name and three more parts
pub list_printed : (old x1 x2 x3 x4 x5 x6 w n a b c o : List ℕ) → o ≡ a ++ (b ++ c) → x1 ≡ old ++ w → x2 ≡ x1 ++ n → x3 ≡ x2 ++ a → x4 ≡ x3 ++ b → x5 ≡ x4 ++ c → x6 ≡ x5 ++ 41 ∷ []
    → x6 ≡ old ++ (w ++ ((n ++ o) ++ 41 ∷ []))
list_printed old x1 x2 x3 x4 x5 x6 w n a b c o is e1 e2 e3 e4 e5 e6 =
    let end : List ℕ = 41 ∷ [] in
    let f5 = behind x4 x5 x6 c end e5 e6 in
    let f4 = behind x3 x4 x6 b (c ++ end) e4 f5 in
    let f3 = behind x2 x3 x6 a (b ++ (c ++ end)) e3 f4 in
    let f2 = behind x1 x2 x6 n (a ++ (b ++ (c ++ end))) e2 f3 in
    let f1 = behind old x1 x6 w (n ++ (a ++ (b ++ (c ++ end)))) e1 f2 in
    let moved : o ++ end ≡ a ++ (b ++ (c ++ end)) = ap (λ l. l ++ end) is ∙ append_assoc a (b ++ c) end ∙ ap (λ l. a ++ l) (append_assoc b c end) in
    f1 ∙ ap (λ l. old ++ (w ++ l)) (ap (λ l. n ++ l) (sym moved) ∙ sym (append_assoc n o end))

-- the name of a block among those of all
pub block_named : (blocks : List Block) (at : ℕ) (b : Block) → at < length blocks → b ≡ get_or blocks at b → slice_index_or (names_of_blocks (map block_view blocks)) at [] ≡ b.name
block_named blocks at b l e =
    ap (λ ns. get_or ns at []) (map_twice (λ (t : BlockTree). t.name) block_view blocks) ∙ get_or-map (λ (x : Block). x.name) blocks at b [] l ∙ ap (λ (x : Block). x.name) (sym e)

-- what stands in a block behind its name
pub block_items : (vars : List InputReg) (names : List (List ℕ)) (b : Block)
    → others_of (plains_from (when_plains vars names (option_map when_view b.when) ++ (map (set_plain vars) (map target_view b.sets) ++ go_plain names b.go ∷ [])))
    ≡ others_of (plains_from (when_plains vars names (option_map when_view b.when))) ++ (others_of (plains_from (map (λ (s : Set). set_plain vars (target_view s)) b.sets)) ++ (32 ∷ plain_text (go_plain names b.go)))
block_items vars names b =
    let whens = when_plains vars names (option_map when_view b.when) in
    let sets = map (set_plain vars) (map target_view b.sets) in
    others_both whens (sets ++ go_plain names b.go ∷ [])
    ∙ ap (λ l. others_of (plains_from whens) ++ l)
    (others_both sets (go_plain names b.go ∷ [])
    ∙ ap (λ l. others_of (plains_from l) ++ (32 ∷ plain_text (go_plain names b.go) ++ [])) (map_twice (set_plain vars) target_view b.sets)
    ∙ ap (λ l. others_of (plains_from (map (λ (s : Set). set_plain vars (target_view s)) b.sets)) ++ (32 ∷ l)) (append-nil (plain_text (go_plain names b.go))))

-- what stands in a proc behind its name
pub proc_items : (vars : List InputReg) (names : List (List ℕ)) (pool : List ℕ) (blocks : List Block)
    → others_of (plains_from (map var_plain vars ++ (pool_plain pool ∷ map (block_plain vars names) (map block_view blocks))))
    ≡ others_of (plains_from (map var_plain vars)) ++ ((32 ∷ plain_text (pool_plain pool)) ++ others_of (plains_from (map (λ (b : Block). block_plain vars names (block_view b)) blocks)))
proc_items vars names pool blocks =
    others_both (map var_plain vars) (pool_plain pool ∷ map (block_plain vars names) (map block_view blocks))
    ∙ ap (λ l. others_of (plains_from (map var_plain vars)) ++ ((32 ∷ plain_text (pool_plain pool)) ++ others_of (plains_from l))) (map_twice (block_plain vars names) block_view blocks)

-- the lines of a proc
pub proc_lines : (p : Proc) → proc_text (proc_view p) ≡ lines_of (plains_from (table_plains (proc_view p))) ++ (plain_text (proc_plain (proc_view p)) ++ 10 ∷ [])
proc_lines p = lines_both (table_plains (proc_view p)) (proc_plain (proc_view p) ∷ [])
