-- What a text writes can be printed again, no more than 64 lists inside one another, and its names are names.
use Rattle.std.proofs.Common.{◌≡◌, ℕ, ◌≤◌, ◌++◌, if◌then◌else◌, Bool, All, List, [], ◌∷◌, map, refl, subst, codes}
use Rattle.std.proofs.lemmas.List.Elements.{All-nil, All-cons}
use Rattle.forms.specs.Forms.{Form, forms_list, forms_of}
use Rattle.forms.specs.Printing.{more, none, CanPrint, CanPrintAll, most_levels, plain_of, plains_of, plains_from}
use Rattle.forms.specs.Reading.{TextHasTrees}
use Rattle.machine_table.specs.Grammar.{Each, more_of, WritesSlot, WritesTable}
use Rattle.machine_table.specs.Grammar as grammar
use Rattle.machine_table.specs.Printing.{table_plain, table_text}
use Rattle.machine_table.specs.Tables.{IsTable, ev6, slot_of}
use Rattle.machine_table.specs.declared.tables.Slot.{Slot}
use Rattle.machine_table.specs.declared.tables.Table.{Table}
use Rattle.text_core.specs.Names.{IsName}
use Rattle.text_core.specs.Trees.{SexpTrees}
use Rattle.goal_reader.specs.Grammar.{WritesDeclaration, WritesAxiom, WritesGoal, WritesMachine, WritesText, Reads, built_in, own}
use Rattle.goal_meaning.specs.Names.{IsNamedGoal, IsNamedInput}
use Rattle.goal_meaning.specs.InputForms.{declaration_plain, axiom_plain, goal_plain, machine_plains, input_plains}
use Rattle.goal_meaning.specs.Views.{InputTree}
use Rattle.goal_reader.proofs.Fitting.{FitAll, fit_none, fit_head, fit_both, front_fits, back_fits, each_fits, list_told, name_told, parts_fit, declaration_fits, axiom_fits, goal_fits}
use Rattle.goal_reader.proofs.Moved.{plains_map}

-- ---- a machine form
abbrev HasName : Slot → Type 0
HasName s = IsName s.name

slots_named : (fs : List Form) (ss : List Slot) → Each WritesSlot fs ss → CanPrintAll (plains_from (map plain_of fs)) → All HasName ss
slots_named _ _ grammar.none all = All-nil HasName
slots_named _ _ (more_of {form = f} {forms = fs} {y = s} {ys = ss} one others) all =
    let parts = subst CanPrint (list_told one.place (one.first ∷ one.second ∷ []) f one.is) all.0 in
    All-cons HasName s ss (subst CanPrint (name_told s.name one.first one.named) parts.0) (slots_named fs ss others all.1)

ev6_named : All HasName ev6.slots
unfolding ev6
ev6_named =
    let first : Slot = slot_of (codes "U0") 0 in
    let second : Slot = slot_of (codes "U1") 1 in
    let third : Slot = slot_of (codes "L0") 0 in
    let fourth : Slot = slot_of (codes "L1") 1 in
    All-cons HasName first (second ∷ third ∷ fourth ∷ []) (record { begins = refl; each = refl })
    (All-cons HasName second (third ∷ fourth ∷ []) (record { begins = refl; each = refl })
    (All-cons HasName third (fourth ∷ []) (record { begins = refl; each = refl })
    (All-cons HasName fourth [] (record { begins = refl; each = refl }) (All-nil HasName))))

module _ (tables : (table : Table) → IsTable table → All HasName table.slots
    → (trees : SexpTrees) × TextHasTrees (table_text table) trees × (plains_of (forms_of (table_text table) trees) ≡ more (table_plain table) none))
    (prints : (text : List ℕ) (all : SexpTrees) → TextHasTrees text all → CanPrintAll (plains_of (forms_of text all)) × (most_levels (plains_of (forms_of text all)) ≤ 64)) where
  pub table_fits : (table : Table) → IsTable table → All HasName table.slots → FitAll 64 (table_plain table ∷ [])
  table_fits table is named =
      let read = tables table is named in
      subst (λ ps. CanPrintAll ps × (most_levels ps ≤ 64)) read.2 (prints (table_text table) read.0 read.1)

  pub machine_fits : (fs : List Form) (t : Table) (b : Bool) → WritesMachine fs t b → FitAll 64 (map plain_of fs) → FitAll 64 (if b then [] else table_plain t ∷ []) × All HasName t.slots
  machine_fits _ _ _ built_in all = (fit_none 64, ev6_named)
  machine_fits _ _ _ (own {form = f} {table = t} w) all =
      let parts = parts_fit 63 (codes "machine") (w.slots_form ∷ w.cross_form ∷ w.ops_forms) f w.is (fit_head 64 (plain_of f) [] all) in
      let slots = parts_fit 62 (codes "slots") w.slot_forms w.slots_form w.slots_is (fit_head 63 (plain_of w.slots_form) (map plain_of (w.cross_form ∷ w.ops_forms)) parts) in
      let named = slots_named w.slot_forms t.slots w.slots slots.0 in
      (table_fits t w.well_formed named, named)

  -- ---- a text
  text_fits : (fs : List Form) (i : InputTree) → WritesText fs i → FitAll 64 (map plain_of fs) → FitAll 64 (input_plains i) × IsNamedInput i
  text_fits fs i w all =
      let whole = subst (λ gs. FitAll 64 (map plain_of gs)) w.are all in
      let behind = back_fits 64 w.machines (w.ops ++ (w.axioms ++ w.goals)) whole in
      let last = back_fits 64 w.ops (w.axioms ++ w.goals) behind in
      let machine = machine_fits w.machines i.table i.builtin w.machine (front_fits 64 w.machines (w.ops ++ (w.axioms ++ w.goals)) whole) in
      let ops = each_fits 64 WritesDeclaration declaration_plain (λ o. IsName o.name) (declaration_fits 64) w.ops i.ops w.declared (front_fits 64 w.ops (w.axioms ++ w.goals) behind) in
      let axioms = each_fits 64 (WritesAxiom i.ops) (axiom_plain i.ops) (λ a. All IsName a.variables) (axiom_fits 64 i.ops) w.axioms i.axioms w.equations (front_fits 64 w.axioms w.goals last) in
      let goals = each_fits 64 (WritesGoal i.ops) (goal_plain i.ops) IsNamedGoal (goal_fits 62 i.ops) w.goals i.goals w.all_goals (back_fits 64 w.axioms w.goals last) in (
        fit_both 64 (machine_plains i) _ machine.0
            (fit_both 64 (map declaration_plain i.ops) _ ops.0 (fit_both 64 (map (axiom_plain i.ops) i.axioms) (map (goal_plain i.ops) i.goals) axioms.0 goals.0)),
        record { slots = machine.1; operators = ops.1; variables = axioms.1; goals = goals.1 },
      )

  pub read_fits : (text : List ℕ) (i : InputTree) → Reads text i → FitAll 64 (input_plains i) × IsNamedInput i
  read_fits text i r =
      text_fits (forms_list (forms_of text r.trees)) i r.written
      (subst (λ ps. CanPrintAll ps × (most_levels ps ≤ 64)) (plains_map (forms_of text r.trees)) (prints text r.trees r.has))
