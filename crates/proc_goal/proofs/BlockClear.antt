-- A block that a form writes it writes without a fault.
use Rattle.std.proofs.Common.{◌≡◌, ◌≢◌, ℕ, zero, suc, ◌+◌, ◌<◌, ◌≤◌, ◌||◌, ◌++◌, if◌then◌else◌, Bool, true, false, Option, None, Some, List, [], ◌∷◌, length, map, take, drop, get_or, refl, sym, ap, ap₂, ◌∙◌, subst, arith, slice_get, bytes_eq, codes, length-append}
use Rattle.std.specs.Prelude.{AllPairs, All}
use Rattle.text_core.specs.Names.{is_among}
use Rattle.text_core.specs.declared.faults.Kind.{Kind}
use Rattle.forms.specs.Forms.{Form, parts_of, name_in}
use Rattle.machine_table.specs.Grammar.{Each}
use Rattle.machine_table.specs.Grammar as grammar
use Rattle.machine_table.specs.Roles.{has_head}
use Rattle.word_ops.specs.declared.sorts.Op.{Op}
use Rattle.word_ops.specs.declared.sorts.Sort.{Sort}
use Rattle.word_terms.specs.Tree.{Tree}
use Rattle.goal_meaning.specs.Views.{TargetTree}
use Rattle.goal_meaning.specs.declared.goals.InputReg.{InputReg}
use Rattle.goal_reader.specs.Roles.{IsFaultAs, WritesTerm, items_of_goal, term}
use Rattle.goal_reader.specs.declared.scopes.Scope.{Scope}
use Rattle.goal_reader.proofs.GoalClear.{within}
use Rattle.goal_reader.proofs.Keeping.{each_length}
use Rattle.goal_reader.proofs.Walks.{Walk, group_walk, name_new, walk_at}
use Rattle.goal_reader.proofs.WrittenItems.{each_more}
use Rattle.proc_goal.specs.ProcGrammar.{WritesBlock, WritesSet, WritesWhen, guarded, unguarded}
use Rattle.proc_goal.specs.ProcReading.{AreClearTo, AreSets, EndsBefore, IsClearProc, IsGuardFront, IsGuardRead, IsLastItem, absent, there}
use Rattle.proc_goal.specs.ProcRoles.{ProcRole, a_block, has_list, lists_of, step_role}
use Rattle.proc_goal.specs.Views.{BlockTree, WhenTree}
use Rattle.proc_goal.proofs.BlockForms.{IsFront, block_clear, count_of, front_is, items_clear}
use Rattle.proc_goal.proofs.Items.{AllBegin, each_begins, keyword_told, other_head, set_begins, set_here}
use Rattle.proc_goal.proofs.ProcOnce.{block_items, last_is}
use Rattle.proc_goal.proofs.Sequences.{after, front_clear}
use Rattle.proc_goal.proofs.Written.{dropped_all, took_all, written_go_clear, written_guard_clear, written_set_clear}

-- what stands behind the first so many
pub got_behind : (xs ys : List Form) → slice_get (xs ++ ys) (length xs) ≡ slice_get ys 0
got_behind [] ys = refl
got_behind (x ∷ xs) ys = got_behind xs ys

-- a list of this word is there
pub listed : (word : List ℕ) (fs : List Form) → 0 < length (lists_of word fs) → has_list word fs ≡ true
listed word [] l = absurd (omega (arith, l))
listed word (f ∷ fs) l = by_test (has_head word f) l (listed word fs)
  where
    by_test : (b : Bool) → 0 < length (if b then f ∷ lists_of word fs else lists_of word fs) → (0 < length (lists_of word fs) → has_list word fs ≡ true) → b || has_list word fs ≡ true
    by_test true m later = refl
    by_test false m later = later m

abbrev pub name_of_target : TargetTree → List ℕ
name_of_target t = t.name

-- what goal_reader says of all terms is handed in
module _ (term_clear : (scope : Scope) (wanted : Option Sort) (form : Form) (t : Tree Op) (place : ℕ) (kind : Kind) → WritesTerm scope wanted form t → IsFaultAs (term scope wanted) form place kind → ⊥) where
  -- ---- the sets, behind a guard
  module _ (vars : List InputReg) (names : List (List ℕ)) (front : List Form) (is : IsGuardFront front) (all : List TargetTree) (pairs : AllPairs (λ (s t : TargetTree). s.name ≢ t.name) all) (few : length all ≤ 16) where
    abbrev SetClear : List Form → Form → Type 0
    SetClear before form = IsClearProc (step_role vars names (front ++ before) form) form

    set_step : (before : List Form) (done rest : List TargetTree) (form : Form) (t : TargetTree) → all ≡ done ++ t ∷ rest → Each (WritesSet vars) before done → WritesSet vars form t
        → SetClear before form × Each (WritesSet vars) (before ++ form ∷ []) (done ++ t ∷ [])
    set_step before done rest form t same each w =
        let count = each_length (WritesSet vars) before done each in
        let less = within done rest t all 16 same few in
        let role = set_here vars front is before done each names form (set_begins vars form t w) (omega (arith, count, less)) in (
          subst (λ (r : ProcRole). IsClearProc r form) (sym role) (written_set_clear term_clear vars (map name_of_target done) form t w (name_new name_of_target all done t rest same pairs)),
          each_more (WritesSet vars) before done form t each w,
        )

    pub sets_clear : (fs : List Form) → Each (WritesSet vars) fs all → (n : ℕ) → AreClearTo (after front (step_role vars names)) fs n
    sets_clear fs each n k form l g = walk_at SetClear [] fs (group_walk SetClear (WritesSet vars) (Each (WritesSet vars)) all set_step [] [] fs all each refl grammar.none).0 k form g

  -- ---- the block
  module _ (vars : List InputReg) (names before : List (List ℕ)) (form : Form) (b : BlockTree) (w : WritesBlock vars names form b)
      (pairs : AllPairs (λ (s t : TargetTree). s.name ≢ t.name) b.sets) (few : length b.sets ≤ 16) (fresh : is_among (codes "done" ∷ before) b.name ≡ false) where
    abbrev items : List Form
    items = items_of_goal form

    abbrev behind : List Form
    behind = w.sets ++ w.last ∷ []

    items_are : items ≡ w.whens ++ behind
    items_are = block_items vars names form b w

    go_begins : has_head (codes "go") w.last ≡ true
    go_begins = keyword_told (codes "go") _ w.last w.go.is

    no_when : (fs : List Form) → AllBegin (codes "set") fs → EndsBefore (codes "when") (fs ++ w.last ∷ []) 0
    no_when [] h f g = (let same : w.last ≡ f = cc in other_head (codes "go") (codes "when") f (subst (λ (x : Form). has_head (codes "go") x ≡ true) same go_begins) refl)
    no_when (x ∷ xs) h f g = (let same : x ≡ f = cc in other_head (codes "set") (codes "when") f (subst (λ (y : Form). has_head (codes "set") y ≡ true) same h.0) refl)

    guard_at : (fs : List Form) (o : Option WhenTree) → WritesWhen vars names fs o → IsGuardRead vars names (fs ++ behind) o
    guard_at _ _ unguarded = absent (no_when w.sets (each_begins (WritesSet vars) (codes "set") (set_begins vars) w.sets b.sets w.each_set))
    guard_at _ _ (guarded {form = f} {w = x} first second is value target) =
        there f refl (keyword_told (codes "when") _ f is) (guarded first second is value target) (written_guard_clear term_clear vars names f x (guarded first second is value target))

    guard_read : IsGuardRead vars names items b.when
    guard_read = subst (λ fs. IsGuardRead vars names fs b.when) (sym items_are) (guard_at w.whens b.when w.guard)

    abbrev n : ℕ
    n = count_of vars names items b.when

    counted : (fs : List Form) (o : Option WhenTree) → WritesWhen vars names fs o → count_of vars names items o ≡ length fs
    counted _ _ unguarded = refl
    counted _ _ (guarded first second is value target) = refl

    front : IsFront vars names items n b.when
    front = front_is vars names items b.when guard_read

    drop_is : drop n items ≡ behind
    drop_is = ap (λ m. drop m items) (counted w.whens b.when w.guard) ∙ ap (drop (length w.whens)) items_are ∙ dropped_all w.whens behind

    count : length b.sets ≡ length w.sets
    count = each_length (WritesSet vars) w.sets b.sets w.each_set

    are_sets : AreSets vars behind b.sets
    are_sets = record {
      within = (let total = length-append w.sets (w.last ∷ []) in let c = count in omega (arith, total, c));
      each = subst (λ m. Each (WritesSet vars) (take m behind) b.sets) (sym count) (subst (λ fs. Each (WritesSet vars) fs b.sets) (sym (took_all w.sets (w.last ∷ []))) w.each_set);
      clear = λ ns fs is. front_clear (after fs (step_role vars ns)) w.sets (w.last ∷ []) (length b.sets) (let c = count in omega (arith, c)) (sets_clear vars ns fs is b.sets pairs few w.sets w.each_set (length b.sets));
      differ = pairs;
      few = few;
      ends = λ f g.
          (let same : w.last ≡ f = (let e : Some w.last ≡ Some f = sym (got_behind w.sets (w.last ∷ [])) ∙ ap (slice_get behind) (sym count) ∙ g in cc) in
          other_head (codes "go") (codes "set") f (subst (λ (x : Form). has_head (codes "go") x ≡ true) same go_begins) refl);
    }

    sets_read : AreSets vars (drop n items) b.sets
    sets_read = subst (λ fs. AreSets vars fs b.sets) (sym drop_is) are_sets

    end_read : IsLastItem names (drop (length b.sets) (drop n items)) b.go
    end_read = record {
      form = w.last;
      alone = ap (drop (length b.sets)) drop_is ∙ ap (λ m. drop m behind) count ∙ dropped_all w.sets (w.last ∷ []);
      head = go_begins;
      writes = w.go;
      clear = written_go_clear names w.last b.go w.go;
    }

    has_go : has_list (codes "go") items ≡ true
    has_go = listed (codes "go") items (let e = ap length (last_is vars names form b w) in omega (arith, e))

    pub written_block_clear : IsClearProc (a_block vars names before) form
    written_block_clear =
        block_clear vars names before form has_go w.name_form (ap (λ (f : Form). slice_get (parts_of f) 1) w.is.is) b.name (ap name_in w.named.is) fresh
        (items_clear vars names items n b.when front b.sets sets_read b.go end_read)
