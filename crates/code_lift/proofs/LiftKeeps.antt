-- The lifts that a text writes are well formed. What is said of all texts and tables is handed in.
use Rattle.std.proofs.Common.{◌≡◌, ℕ, ◌≤◌, Bool, true, All, List, ◌∷◌, map, refl, subst, codes}
use Rattle.std.proofs.lemmas.List.Elements.{All-cons, All-nil}
use Rattle.text_core.specs.Names.{IsName}
use Rattle.text_core.specs.Trees.{SexpTrees}
use Rattle.forms.specs.Forms.{Form, forms_list, forms_of}
use Rattle.forms.specs.Printing as printing
use Rattle.forms.specs.Printing.{CanPrintAll, most_levels, plain_of, plains_of}
use Rattle.forms.specs.Reading.{TextHasTrees}
use Rattle.machine_table.specs.Grammar as grammar
use Rattle.machine_table.specs.Grammar.{Each, more_of}
use Rattle.machine_table.specs.Printing.{table_plain, table_text}
use Rattle.machine_table.specs.Tables.{IsTable, ev6}
use Rattle.machine_table.specs.declared.tables.Slot.{Slot}
use Rattle.machine_table.specs.declared.tables.Table.{Table}
use Rattle.goal_reader.specs.Grammar.{WritesMachine, built_in, own}
use Rattle.goal_reader.proofs.Fitting.{FitAll, Fits, back_fits, fit_head, fit_tail, front_fits, name_told, parts_fit}
use Rattle.goal_reader.proofs.InputPrints.{machine_fits}
use Rattle.goal_reader.proofs.Moved.{plains_map}
use Rattle.code_lift.specs.LiftGrammar.{WritesLift, WritesLifts}
use Rattle.code_lift.specs.Views.{LiftTree, LiftsTree}
use Rattle.code_lift.specs.WellFormed.{AreLifts, IsLift}

lift_keeps : (form : Form) (lift : LiftTree) → WritesLift form lift → Fits 64 (plain_of form) → IsLift lift
lift_keeps form lift w fits =
    let others = w.words_form ∷ w.out_form ∷ w.pools in
    let parts = parts_fit 63 (codes "lift") (w.name_form ∷ others) form w.is fits in
    record {
      named = (subst (Fits 63) (name_told lift.name w.name_form w.named) (fit_head 63 (plain_of w.name_form) (map plain_of others) parts)).0;
      rules = w.rules;
    }

each_keeps : (fs : List Form) (ls : List LiftTree) → Each WritesLift fs ls → FitAll 64 (map plain_of fs) → All IsLift ls
each_keeps _ _ grammar.none fits = All-nil IsLift
each_keeps _ _ (more_of {form = f} {forms = fs} {y = l} {ys = ls} w others) fits =
    All-cons IsLift l ls (lift_keeps f l w (fit_head 64 (plain_of f) (map plain_of fs) fits)) (each_keeps fs ls others (fit_tail 64 (plain_of f) (map plain_of fs) fits))

module _ (tables : (table : Table) → IsTable table → All (λ (s : Slot). IsName s.name) table.slots → (trees : SexpTrees) × TextHasTrees (table_text table) trees × (plains_of (forms_of (table_text table) trees) ≡ printing.more (table_plain table) printing.none))
    (prints : (text : List ℕ) (all : SexpTrees) → TextHasTrees text all → CanPrintAll (plains_of (forms_of text all)) × (most_levels (plains_of (forms_of text all)) ≤ 64)) (ev6_is : IsTable ev6) where
  machine_keeps : (fs : List Form) (t : Table) (b : Bool) → WritesMachine fs t b → IsTable t × (b ≡ true → t ≡ ev6)
  machine_keeps _ _ _ built_in = (ev6_is, λ e. refl)
  machine_keeps _ _ _ (own w) = (w.well_formed, λ e. cc)

  pub text_keeps : (text : List ℕ) (trees : SexpTrees) → TextHasTrees text trees → (lifts : LiftsTree) → WritesLifts (forms_list (forms_of text trees)) lifts → AreLifts lifts
  text_keeps text trees has lifts w =
      let all = forms_list (forms_of text trees) in
      let whole : FitAll 64 (map plain_of all) = subst (λ ps. CanPrintAll ps × (most_levels ps ≤ 64)) (plains_map (forms_of text trees)) (prints text trees has) in
      let forms = subst (λ fs. FitAll 64 (map plain_of fs)) w.are whole in
      let kept = machine_keeps w.machines lifts.table lifts.builtin w.machine in
      record {
        table = kept.0;
        slots = (machine_fits tables prints w.machines lifts.table lifts.builtin w.machine (front_fits 64 w.machines w.others forms)).1;
        builtin = kept.1;
        each = each_keeps w.others lifts.lifts w.each (back_fits 64 w.machines w.others forms);
        differ = w.differ;
        some = w.some;
        few = w.few;
      }
