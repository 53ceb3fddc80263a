-- The forms of a text write one list of lifts at most, and have no fault where they write one.
use Rattle.std.proofs.Common.{◌≡◌, ℕ, ◌++◌, Bool, true, false, Option, None, Some, List, [], ◌∷◌, length, drop, refl, sym, ap, ap₂, ◌∙◌, subst, arith, slice_get, codes}
use Rattle.std.specs.Prelude.{is_none, unwrap_or}
use Rattle.std.proofs.lemmas.List.{take_all}
use Rattle.std.proofs.lemmas.Option.{same_Some}
use Rattle.text_core.specs.declared.faults.Kind.{Kind}
use Rattle.forms.specs.Forms.{Form, number_in}
use Rattle.machine_table.specs.Grammar as grammar
use Rattle.machine_table.specs.Grammar.{Each, IsNameOf, IsNumberOf, WritesTable, more_of}
use Rattle.machine_table.specs.Reading.{IsClearTableForm}
use Rattle.machine_table.specs.Roles.{machine}
use Rattle.machine_table.specs.Tables.{ev6}
use Rattle.machine_table.specs.declared.tables.Table.{Table}
use Rattle.goal_reader.specs.Grammar.{IsRegister, WritesMachine, built_in, own}
use Rattle.goal_reader.proofs.Keeping.{each_length}
use Rattle.goal_reader.proofs.ReadParts.{each_once, listed_parts, name_once, register_told}
use Rattle.proc_goal.proofs.Items.{keyword_told, other_head}
use Rattle.code_lift.specs.LiftGrammar.{WritesLift, WritesLiftPool, WritesLifts, WritesNumbers, WritesRegisters, none_given, one_given}
use Rattle.code_lift.specs.LiftReading.{IsTableHere, no_machine, one_machine}
use Rattle.code_lift.specs.LiftRoles.{IsLiftTextFault, is_machine}
use Rattle.code_lift.specs.Views.{LiftTree, LiftsTree}
use Rattle.code_lift.proofs.LiftForms.{number_parts, register_parts}
use Rattle.code_lift.proofs.LiftTexts.{lifts_clear, lifts_no_fault, number_of_tables, text_no_fault}

-- ---- one lift

number_once : (f : Form) (m n : ℕ) → IsNumberOf m f → IsNumberOf n f → m ≡ n
number_once f m n a b = same_Some m n (sym (ap number_in a.is) ∙ ap number_in b.is)

register_once : (f : Form) (q r : ℕ) → IsRegister q f → IsRegister r f → q ≡ r
register_once f q r a b = same_Some q r (sym (register_told f q a) ∙ register_told f r b)

numbers_once : (form : Form) (ms ns : List ℕ) → WritesNumbers form ms → WritesNumbers form ns → ms ≡ ns
numbers_once form ms ns a b =
    each_once (λ f n. IsNumberOf n f) number_once b.parts ms ns (subst (λ fs. Each (λ f n. IsNumberOf n f) fs ms) (sym (number_parts form ms a) ∙ number_parts form ns b) a.each) b.each

registers_once : (word : List ℕ) (form : Form) (qs rs : List ℕ) → WritesRegisters word form qs → WritesRegisters word form rs → qs ≡ rs
registers_once word form qs rs a b =
    each_once (λ f r. IsRegister r f) register_once b.parts qs rs (subst (λ fs. Each (λ f r. IsRegister r f) fs qs) (sym (register_parts word form qs a) ∙ register_parts word form rs b) a.each) b.each

pool_once : (fs : List Form) (o p : Option (List ℕ)) → WritesLiftPool fs o → WritesLiftPool fs p → o ≡ p
pool_once _ _ p none_given b = nothing p b
  where
    nothing : (x : Option (List ℕ)) → WritesLiftPool [] x → None ≡ x
    nothing _ none_given = refl
pool_once _ _ p (one_given {form = f} {registers = qs} a) b = same p b
  where
    same : (x : Option (List ℕ)) → WritesLiftPool (f ∷ []) x → Some qs ≡ x
    same _ (one_given {registers = rs} c) = ap Some (registers_once (codes "pool") f qs rs a c)

lift_of : List ℕ → List ℕ → List ℕ → Option (List ℕ) → LiftTree
lift_of n ws os p = record { name = n; words = ws; out = os; pool = p }

lift_back : (l : LiftTree) → lift_of l.name l.words l.out l.pool ≡ l
unfolding lift_of
lift_back l = refl

four_same : (a b c p q r : Form) (fs gs : List Form) → a ∷ b ∷ c ∷ fs ≡ p ∷ q ∷ r ∷ gs → (a ≡ p) × (b ≡ q) × (c ≡ r) × (fs ≡ gs)
four_same a b c p q r fs gs e = (let first : a ≡ p = cc in let second : b ≡ q = cc in let third : c ≡ r = cc in let rest : fs ≡ gs = cc in (first, second, third, rest))

lift_once : (form : Form) (a b : LiftTree) → WritesLift form a → WritesLift form b → a ≡ b
lift_once form a b v w =
    let parts = four_same v.name_form v.words_form v.out_form w.name_form w.words_form w.out_form v.pools w.pools
    (sym (listed_parts (codes "lift") (v.name_form ∷ v.words_form ∷ v.out_form ∷ v.pools) form v.is) ∙ listed_parts (codes "lift") (w.name_form ∷ w.words_form ∷ w.out_form ∷ w.pools) form w.is) in
    let name = name_once w.name_form a.name b.name (subst (IsNameOf a.name) parts.0 v.named) w.named in
    let words = numbers_once w.words_form a.words b.words (subst (λ (f : Form). WritesNumbers f a.words) parts.1 v.words) w.words in
    let out = registers_once (codes "out") w.out_form a.out b.out (subst (λ (f : Form). WritesRegisters (codes "out") f a.out) parts.2 v.out) w.out in
    let pool = pool_once w.pools a.pool b.pool (subst (λ fs. WritesLiftPool fs a.pool) parts.3 v.pool) w.pool in
    sym (lift_back a) ∙ ap₂ (λ n ws. lift_of n ws a.out a.pool) name words ∙ ap₂ (lift_of b.name b.words) out pool ∙ lift_back b

-- ---- the table of a text

pub record HasTable (forms : List Form) (lifts : LiftsTree) (others : List Form) : Type 0 where
  pub given : Option Table
  pub here : IsTableHere forms given
  pub rest : drop (number_of_tables given) forms ≡ others
  pub table : lifts.table ≡ unwrap_or given ev6
  pub builtin : lifts.builtin ≡ is_none given

no_machine_first : (others : List Form) (ls : List LiftTree) → Each WritesLift others ls → (form : Form) → slice_get others 0 ≡ Some form → is_machine form ≡ false
no_machine_first _ _ grammar.none form g = cc
no_machine_first _ _ (more_of {form = f} w rest) form g =
    let same : f ≡ form = cc in
    subst (λ (x : Form). is_machine x ≡ false) same (other_head (codes "lift") (codes "machine") f (keyword_told (codes "lift") (w.name_form ∷ w.words_form ∷ w.out_form ∷ w.pools) f w.is) refl)

pub has_table : (forms : List Form) (lifts : LiftsTree) (w : WritesLifts forms lifts) → HasTable forms lifts w.others
has_table forms lifts w = subst (λ fs. HasTable fs lifts w.others) (sym w.are) (by w.machines lifts.table lifts.builtin w.machine refl refl)
  where
    by : (machines : List Form) (t : Table) (b : Bool) → WritesMachine machines t b → lifts.table ≡ t → lifts.builtin ≡ b → HasTable (machines ++ w.others) lifts w.others
    by _ _ _ built_in t b = record { given = None; here = no_machine (no_machine_first w.others lifts.lifts w.each); rest = refl; table = t; builtin = b }
    by _ _ _ (own {form = f} {table = table} m) t b = record {
      given = Some table;
      here = one_machine f refl (keyword_told (codes "machine") (m.slots_form ∷ m.cross_form ∷ m.ops_forms) f m.is) m;
      rest = refl;
      table = t;
      builtin = b;
    }

table_once : ((form : Form) (table other : Table) → WritesTable form table → WritesTable form other → table ≡ other) → (forms : List Form) (a b : Option Table) → IsTableHere forms a → IsTableHere forms b → a ≡ b
table_once once forms _ _ (no_machine none) (no_machine others) = refl
table_once once forms _ _ (no_machine none) (one_machine f g is w) = (let e : true ≡ false = sym is ∙ none f g in cc)
table_once once forms _ _ (one_machine f g is w) (no_machine none) = (let e : true ≡ false = sym is ∙ none f g in cc)
table_once once forms _ _ (one_machine {table = s} f g is v) (one_machine {table = t} h i has w) =
    let same : f ≡ h = same_Some f h (sym g ∙ i) in
    ap Some (once h s t (subst (λ (x : Form). WritesTable x s) same v) w)

-- ---- a text

lifts_of : Table → Bool → List LiftTree → LiftsTree
lifts_of t b ls = record { table = t; builtin = b; lifts = ls }

lifts_back : (l : LiftsTree) → lifts_of l.table l.builtin l.lifts ≡ l
unfolding lifts_of
lifts_back l = refl

pub text_once : ((form : Form) (table other : Table) → WritesTable form table → WritesTable form other → table ≡ other) → (forms : List Form) (a b : LiftsTree) → WritesLifts forms a → WritesLifts forms b → a ≡ b
text_once once forms a b v w =
    let one = has_table forms a v in
    let two = has_table forms b w in
    let given = table_once once forms one.given two.given one.here two.here in
    let others : v.others ≡ w.others = sym one.rest ∙ ap (λ (o : Option Table). drop (number_of_tables o) forms) given ∙ two.rest in
    let table = one.table ∙ ap (λ (o : Option Table). unwrap_or o ev6) given ∙ sym two.table in
    let builtin = one.builtin ∙ ap is_none given ∙ sym two.builtin in
    let lifts = each_once WritesLift lift_once w.others a.lifts b.lifts (subst (λ fs. Each WritesLift fs a.lifts) others v.each) w.each in
    sym (lifts_back a) ∙ ap₂ (λ (t : Table) c. lifts_of t c a.lifts) table builtin ∙ ap (lifts_of b.table b.builtin) lifts ∙ lifts_back b

pub written_text_clear : ((form : Form) (table : Table) → WritesTable form table → IsClearTableForm machine form) → (size : ℕ) (forms : List Form) (lifts : LiftsTree) → WritesLifts forms lifts → (place : ℕ) (kind : Kind) → IsLiftTextFault size forms place kind → ⊥
written_text_clear one size forms lifts w =
    let has = has_table forms lifts w in
    let rest = drop (number_of_tables has.given) forms in
    let each : Each WritesLift rest lifts.lifts = subst (λ fs. Each WritesLift fs lifts.lifts) (sym has.rest) w.each in
    let count = each_length WritesLift rest lifts.lifts each in
    let some = w.some in
    text_no_fault one size forms has.given has.here
    (lifts_no_fault size rest (omega (arith, count, some))
    (lifts_clear lifts.lifts w.differ w.few rest (length rest) (subst (λ fs. Each WritesLift fs lifts.lifts) (sym (take_all (length rest) rest (omega arith))) each)))
