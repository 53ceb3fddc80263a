-- Forms that print as the canonical text of an input, which some text writes, write it too.
use Rattle.std.proofs.Common.{◌≡◌, ℕ, zero, suc, ◌<◌, ◌++◌, if◌then◌else◌, Bool, true, false, All, Some, List, [], ◌∷◌, length, map, refl, sym, ap, ◌∙◌, subst, arith, codes, slice_get}
use Rattle.std.specs.Prelude.{IsPermutation, slice_index_or}
use Rattle.std.specs.List.{flat_map}
use Rattle.std.proofs.lemmas.List.Sorted.{IsPermutation-refl}
use Rattle.forms.specs.Forms as forms
use Rattle.forms.specs.Forms.{Form, name, number, forms_from}
use Rattle.forms.specs.Printing.{atom, list, plain_of, plains_from}
use Rattle.machine_table.specs.Grammar.{Each, more_of, IsListOf, IsSlotNamed, WritesSlot, WritesOps, WritesTable}
use Rattle.machine_table.specs.Grammar as grammar
use Rattle.machine_table.specs.InstrOrder.{instr_name}
use Rattle.machine_table.specs.Printing.{slot_plain, slot_name_plain, use_plain, table_plain}
use Rattle.machine_table.specs.Tables.{IsTable, IsUse}
use Rattle.machine_table.specs.declared.tables.Slot.{Slot}
use Rattle.machine_table.specs.declared.tables.Table.{Table}
use Rattle.machine_table.specs.declared.tables.Use.{Use}
use Rattle.goal_reader.specs.Grammar.{WritesDeclaration, WritesAxiom, WritesGoal, WritesMachine, WritesText, built_in, own}
use Rattle.goal_meaning.specs.InputForms.{declaration_plain, axiom_plain, goal_plain, machine_plains, input_plains}
use Rattle.goal_meaning.specs.Views.{InputTree}
use Rattle.goal_reader.proofs.ItemForms.{list_from_list}
use Rattle.goal_reader.proofs.Moved.{name_form, number_form, list_form, listed_form, one_more_form, no_more_form, split_forms, each_from, plains_map, plains_once}
use Rattle.goal_reader.proofs.PrintedForms.{all_head, all_tail, declaration_again, axiom_again, goal_again}

-- ---- a machine form
slot_again : (g : Form) (s : Slot) → plain_of g ≡ slot_plain s → WritesSlot g s
slot_again g s e =
    let l = list_form g (plains_from (atom (name s.name) ∷ atom (number s.cluster) ∷ [])) e in
    let ps = plains_once (map plain_of (forms.forms_list l.1)) (atom (name s.name) ∷ atom (number s.cluster) ∷ []) (sym (plains_map l.1) ∙ l.3) in
    let m = one_more_form (forms.forms_list l.1) (atom (name s.name)) (atom (number s.cluster) ∷ []) ps in
    let n = one_more_form m.1 (atom (number s.cluster)) [] m.4 in
    let h = name_form m.0 s.name m.3 in
    let k = number_form n.0 s.cluster n.3 in
    let parts = m.2 ∙ ap (λ x. m.0 ∷ x) (n.2 ∙ ap (λ x. n.0 ∷ x) (no_more_form n.1 n.4)) in
    record {
      place = l.0;
      first = m.0;
      second = n.0;
      is = l.2 ∙ ap (forms.list l.0) (list_from_list l.1 ∙ ap forms_from parts);
      named = record { place = h.0; is = h.1 };
      placed = record { place = k.0; is = k.1 };
    }

slots_again : (gs : List Form) (ss : List Slot) → map plain_of gs ≡ map slot_plain ss → Each WritesSlot gs ss
slots_again gs [] e = subst (λ fs. Each WritesSlot fs []) (sym (no_more_form gs e)) grammar.none
slots_again gs (s ∷ ss) e =
    let m = one_more_form gs (slot_plain s) (map slot_plain ss) e in
    subst (λ fs. Each WritesSlot fs (s ∷ ss)) (sym m.2) (more_of (slot_again m.0 s m.3) (slots_again m.1 ss m.4))

slot_there : (ss : List Slot) (at : ℕ) → at < length ss → (s : Slot) × (slice_get ss at ≡ Some s) × (slice_index_or (map (λ (x : Slot). x.name) ss) at [] ≡ s.name)
slot_there [] at l = absurd (omega (arith, l))
slot_there (s ∷ ss) zero l = (s, refl, refl)
slot_there (s ∷ ss) (suc at) l = slot_there ss at (omega (arith, l))

module _ (table : Table) where
  used_again : (gs : List Form) (used : List ℕ) → All (λ s. s < length table.slots) used → map plain_of gs ≡ map (slot_name_plain table) used → Each (IsSlotNamed table.slots) gs used
  used_again gs [] low e = subst (λ fs. Each (IsSlotNamed table.slots) fs []) (sym (no_more_form gs e)) grammar.none
  used_again gs (s ∷ used) low e =
      let m = one_more_form gs (slot_name_plain table s) (map (slot_name_plain table) used) e in
      let t = slot_there table.slots s (all_head (λ x. x < length table.slots) s used low) in
      let h = name_form m.0 t.0.name (m.3 ∙ ap (λ n. atom (name n)) t.2) in
      subst (λ fs. Each (IsSlotNamed table.slots) fs (s ∷ used)) (sym m.2)
      (more_of (record { slot = t.0; found = t.1; named = record { place = h.0; is = h.1 } }) (used_again m.1 used (all_tail (λ x. x < length table.slots) s used low) m.4))

  use_again : (g : Form) (u : Use) → IsUse table u → plain_of g ≡ use_plain table u → WritesOps table.slots g (u ∷ [])
  use_again g u h e =
      let l = listed_form (codes "ops") (atom (number u.latency) ∷ list (plains_from (map (slot_name_plain table) u.slots)) ∷ atom (name (instr_name u.instr)) ∷ []) g e in
      let m = one_more_form l.0 (atom (number u.latency)) _ l.2 in
      let n = one_more_form m.1 (list (plains_from (map (slot_name_plain table) u.slots))) _ m.4 in
      let o = one_more_form n.1 (atom (name (instr_name u.instr))) [] n.4 in
      let vs = list_form n.0 (plains_from (map (slot_name_plain table) u.slots)) n.3 in
      let used = plains_once (map plain_of (forms.forms_list vs.1)) (map (slot_name_plain table) u.slots) (sym (plains_map vs.1) ∙ vs.3) in
      let second : n.0 ≡ forms.list vs.0 (forms_from (forms.forms_list vs.1)) = vs.2 ∙ ap (forms.list vs.0) (list_from_list vs.1) in
      let parts = m.2 ∙ ap (λ x. m.0 ∷ x) (n.2 ∙ ap (λ x. n.0 ∷ x) (o.2 ∙ ap (λ x. o.0 ∷ x) (no_more_form o.1 o.4))) ∙ ap (λ x. m.0 ∷ x ∷ o.0 ∷ []) second in
      let k = number_form m.0 u.latency m.3 in
      let i = name_form o.0 (instr_name u.instr) o.3 in
      record {
        latency_form = m.0;
        slots_place = vs.0;
        slot_forms = forms.forms_list vs.1;
        first = o.0;
        others = [];
        latency = u.latency;
        slots = u.slots;
        is = subst (λ ps. IsListOf (codes "ops") ps g) parts l.1;
        latency_is = record { place = k.0; is = k.1 };
        slots_are = used_again (forms.forms_list vs.1) u.slots h.exist used;
        written = more_of (record { instr = record { place = i.0; is = i.1 }; takes = refl; may_use = refl }) grammar.none;
      }

  abbrev alone : List Use → List (List Use)
  alone us = map (λ (u : Use). u ∷ []) us

  uses_again : (gs : List Form) (us : List Use) → All (IsUse table) us → map plain_of gs ≡ map (use_plain table) us → Each (WritesOps table.slots) gs (alone us)
  uses_again gs [] h e = subst (λ fs. Each (WritesOps table.slots) fs []) (sym (no_more_form gs e)) grammar.none
  uses_again gs (u ∷ us) h e =
      let m = one_more_form gs (use_plain table u) (map (use_plain table) us) e in
      subst (λ fs. Each (WritesOps table.slots) fs ((u ∷ []) ∷ alone us)) (sym m.2) (more_of (use_again m.0 u (all_head (IsUse table) u us h) m.3) (uses_again m.1 us (all_tail (IsUse table) u us h) m.4))

  joined : (us : List Use) → flat_map (λ (xs : List Use). xs) (alone us) ≡ us
  joined [] = refl
  joined (u ∷ us) = ap (λ xs. u ∷ xs) (joined us)

  pub table_again : (g : Form) → IsTable table → plain_of g ≡ table_plain table → WritesTable g table
  table_again g t e =
      let l = listed_form (codes "machine") _ g e in
      let m = one_more_form l.0 _ _ l.2 in
      let n = one_more_form m.1 _ (map (use_plain table) table.uses) m.4 in
      let s = listed_form (codes "slots") (map slot_plain table.slots) m.0 m.3 in
      let c = listed_form (codes "cross") (atom (number table.cross) ∷ []) n.0 n.3 in
      let d = one_more_form c.0 (atom (number table.cross)) [] c.2 in
      let k = number_form d.0 table.cross d.3 in
      let parts = m.2 ∙ ap (λ x. m.0 ∷ x) n.2 in
      record {
        slots_form = m.0;
        slot_forms = s.0;
        cross_form = n.0;
        delay_form = d.0;
        ops_forms = n.1;
        written = alone table.uses;
        is = subst (λ ps. IsListOf (codes "machine") ps g) parts l.1;
        slots_is = s.1;
        slots = slots_again s.0 table.slots s.2;
        cross_is = subst (λ ps. IsListOf (codes "cross") ps n.0) (d.2 ∙ ap (λ x. d.0 ∷ x) (no_more_form d.1 d.4)) c.1;
        cross = record { place = k.0; is = k.1 };
        ops = uses_again n.1 table.uses t.uses n.4;
        uses = subst (λ us. IsPermutation us table.uses) (sym (joined table.uses)) (IsPermutation-refl table.uses);
        well_formed = t;
      }

machine_again : (fs gs : List Form) (t : Table) (b : Bool) → WritesMachine fs t b → map plain_of gs ≡ (if b then [] else table_plain t ∷ []) → WritesMachine gs t b
machine_again _ gs t _ built_in e = subst (λ xs. WritesMachine xs t true) (sym (no_more_form gs e)) built_in
machine_again _ gs t _ (own w) e =
    let m = one_more_form gs (table_plain t) [] e in
    subst (λ xs. WritesMachine xs t false) (sym (m.2 ∙ ap (λ x. m.0 ∷ x) (no_more_form m.1 m.4))) (own (table_again t m.0 w.well_formed m.3))

-- ---- a text
pub text_again : (fs gs : List Form) (i : InputTree) → WritesText fs i → map plain_of gs ≡ input_plains i → WritesText gs i
text_again fs gs i w e =
    let a = split_forms gs (machine_plains i) _ e in
    let b = split_forms a.1 (map declaration_plain i.ops) _ a.4 in
    let c = split_forms b.1 (map (axiom_plain i.ops) i.axioms) (map (goal_plain i.ops) i.goals) b.4 in
    record {
      machines = a.0;
      ops = b.0;
      axioms = c.0;
      goals = c.1;
      are = a.2 ∙ ap (λ x. a.0 ++ x) (b.2 ∙ ap (λ x. b.0 ++ x) c.2);
      machine = machine_again w.machines a.0 i.table i.builtin w.machine a.3;
      declared = each_from WritesDeclaration declaration_plain declaration_again w.ops b.0 i.ops w.declared b.3;
      equations = each_from (WritesAxiom i.ops) (axiom_plain i.ops) (axiom_again i.ops) w.axioms c.0 i.axioms w.equations c.3;
      all_goals = each_from (WritesGoal i.ops) (goal_plain i.ops) (goal_again i.ops) w.goals c.1 i.goals w.all_goals c.4;
      op_names = w.op_names;
      own_names = w.own_names;
      goal_names = w.goal_names;
      some_goal = w.some_goal;
      few = w.few;
    }
