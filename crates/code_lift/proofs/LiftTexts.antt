-- The lifts of a text, one behind the other: when they have no fault, and which fault of a text is the first.
use Rattle.std.proofs.Common.{◌≡◌, ◌≢◌, ℕ, zero, suc, ◌-◌, ◌<◌, ◌≤◌, ◌++◌, if◌then◌else◌, Bool, true, false, Option, Some, List, [], ◌∷◌, length, take, drop, refl, sym, ap, ◌∙◌, subst, arith, slice_get, codes, inl, inr}
use Rattle.std.specs.Prelude.{AllPairs, is_none, is_some, unwrap_or}
use mir.Val.{bool_byte}
use Rattle.std.proofs.lemmas.List.{take-append-drop}
use Rattle.std.proofs.lemmas.Bool.{cases_order}
use Rattle.std.proofs.lemmas.List.{length-append}
use Rattle.std.proofs.lemmas.Option.{same_Some, slice_get_within}
use Rattle.text_core.specs.Faults.{IsFirst, IsNotBehind}
use Rattle.text_core.specs.Names.{is_among}
use Rattle.text_core.specs.declared.faults.Kind.{Kind}
use Rattle.text_core.specs.declared.faults.Kind.TheVariants.{BadForm}
use Rattle.forms.specs.Forms.{Form, forms_from, forms_list, name_in, Stand}
use Rattle.forms.proofs.First.{Span, span_of, within}
use Rattle.machine_table.specs.Grammar.{Each, WritesTable}
use Rattle.machine_table.specs.Reading.{IsClearTableForm}
use Rattle.machine_table.specs.Roles.{IsMachineFault, IsOwnTableFault, machine, table_part_role}
use Rattle.machine_table.specs.Tables.{ev6}
use Rattle.machine_table.specs.declared.tables.Table.{Table}
use Rattle.goal_reader.specs.Grammar.{WritesMachine, built_in, own}
use Rattle.goal_reader.specs.Roles.{names_given, second_name}
use Rattle.goal_reader.proofs.GoalSteps.{map_more, mapped_more}
use Rattle.goal_reader.proofs.Heads.{list_from}
use Rattle.goal_reader.proofs.Walks.{Walk, group_walk, name_new, walk_at}
use Rattle.proc_goal.proofs.Items.{keyword_told}
use Rattle.code_lift.specs.LiftGrammar.{WritesLift, WritesLifts}
use Rattle.code_lift.specs.LiftReading.{IsClearInLift, IsFirstInLift, IsTableHere, IsTableWrong, no_machine, one_machine}
use Rattle.code_lift.specs.LiftRoles.{LiftRole, behind_machine, is_machine, lift_part_role, next_lift_role, in_lift, in_lifts, in_machine, no_lift, IsLiftFaultAs, IsLiftsFault, IsLiftTextFault, IsOwnLiftFault}
use Rattle.code_lift.specs.Views.{LiftTree, LiftsTree, names_of_lifts}
use Rattle.code_lift.proofs.LiftForms.{next_is, written_lift_clear}
use Rattle.code_lift.proofs.LiftLists.{got_front, took_front}

-- ---- lifts that were read

abbrev pub IsClearLift : List Form → Form → Type 0
IsClearLift before form = IsClearInLift (next_lift_role before form) form

-- the first so many forms have no fault
abbrev pub AreClearLifts : List Form → ℕ → Type 0
AreClearLifts forms n = (k : ℕ) (form : Form) → k < n → slice_get forms k ≡ Some form → IsClearLift (take k forms) form

pub record AreLiftsBefore (before : List Form) (done : List LiftTree) : Type 0 where
  pub count : length before ≡ length done
  pub names : names_given before ≡ names_of_lifts done

lift_named : (form : Form) (lift : LiftTree) → WritesLift form lift → second_name form ≡ Some lift.name
lift_named form lift w = ap second_name w.is.is ∙ ap name_in w.named.is

module _ (all : List LiftTree) (differ : AllPairs (λ (a b : LiftTree). a.name ≢ b.name) all) (few : length all ≤ 64) where
  lift_step : (before : List Form) (done rest : List LiftTree) (f : Form) (y : LiftTree) → all ≡ done ++ y ∷ rest → AreLiftsBefore before done → WritesLift f y → IsClearLift before f × AreLiftsBefore (before ++ f ∷ []) (done ++ y ∷ [])
  lift_step before done rest f y same known w =
      let count = known.count in
      let total = ap length same ∙ length-append done (y ∷ rest) in
      let below : length before < 64 = omega (arith, count, total, few) in
      let head = keyword_told (codes "lift") (w.name_form ∷ w.words_form ∷ w.out_form ∷ w.pools) f w.is in
      let fresh = ap (λ ns. is_among ns y.name) known.names ∙ name_new (λ (l : LiftTree). l.name) all done y rest same differ in
      let longer = length-append before (f ∷ []) in
      let more = length-append done (y ∷ []) in (
        subst (λ (r : LiftRole). IsClearInLift r f) (sym (next_is before f head below)) (written_lift_clear (names_given before) f y w fresh),
        record {
          count = omega (arith, count, longer, more);
          names = map_more second_name before f y.name (lift_named f y w) ∙ ap (λ ns. ns ++ y.name ∷ []) known.names ∙ sym (mapped_more (λ (l : LiftTree). l.name) done y);
        },
      )

  lifts_walk : (forms : List Form) → Each WritesLift forms all → Walk IsClearLift [] forms × AreLiftsBefore forms all
  lifts_walk forms each = group_walk IsClearLift WritesLift AreLiftsBefore all lift_step [] [] forms all each refl (record { count = refl; names = refl })

  pub lifts_before : (forms : List Form) → Each WritesLift forms all → AreLiftsBefore forms all
  lifts_before forms each = (lifts_walk forms each).1

  pub lifts_clear : (forms : List Form) (n : ℕ) → Each WritesLift (take n forms) all → AreClearLifts forms n
  lifts_clear forms n each k form l g =
      let there = walk_at IsClearLift [] (take n forms) (lifts_walk (take n forms) each).0 (k - 0) form (got_front 0 n k forms form (omega arith) l g) in
      subst (λ fs. IsClearLift fs form) (took_front 0 n k forms (omega arith) (omega (arith, l))) there

-- ---- which fault of the lifts is the first
module _ (size : ℕ) (forms : List Form) where
  pub lifts_no_fault : 0 < length forms → AreClearLifts forms (length forms) → (place : ℕ) (kind : Kind) → IsLiftsFault size forms place kind → ⊥
  lifts_no_fault some clear place kind (no_lift e p) = (let zero_long = ap length e in omega (arith, some, zero_long))
  lifts_no_fault some clear place kind (in_lift at form g fault) = clear at form (slice_get_within forms at form g) g place kind fault

  pub no_lift_first : forms ≡ [] → IsFirst (IsLiftsFault size forms) size BadForm
  no_lift_first e = record { found = no_lift e refl; earliest = earliest }
    where
      earliest : (place : ℕ) (kind : Kind) → IsLiftsFault size forms place kind → IsNotBehind size BadForm place kind
      earliest place kind (no_lift f p) = inr (sym p, omega arith)
      earliest place kind (in_lift at form g fault) = (let l = slice_get_within forms at form g in let zero_long = ap length e in absurd (omega (arith, l, zero_long)))

  listed : (j : ℕ) (f : Form) → slice_get forms j ≡ Some f → slice_get (forms_list (forms_from forms)) j ≡ Some f
  listed j f e = ap (λ (fs : List Form). slice_get fs j) (list_from forms) ∙ e

  pub lift_form_first : (low : ℕ) → Stand low size (forms_from forms) → (at : ℕ) (form : Form) (place : ℕ) (kind : Kind) → slice_get forms at ≡ Some form → AreClearLifts forms at → IsFirstInLift (next_lift_role (take at forms) form) form place kind → IsFirst (IsLiftsFault size forms) place kind
  lift_form_first low h at form place kind g clear first = record { found = in_lift at form g first.found; earliest = earliest }
    where
      span : Span low size (forms_list (forms_from forms)) at form
      span = span_of (forms_from forms) low size at form h (listed at form g)

      earliest : (other_place : ℕ) (other_kind : Kind) → IsLiftsFault size forms other_place other_kind → IsNotBehind place kind other_place other_kind
      earliest other_place other_kind (no_lift e p) = (let l = slice_get_within forms at form g in let zero_long = ap length e in absurd (omega (arith, l, zero_long)))
      earliest other_place other_kind (in_lift j other got fault) =
          let here = within IsOwnLiftFault lift_part_role first.found span.from span.to span.stands in
          elim (cases_order at j) [
            | inl same ↦
                (let form_is : other ≡ form = same_Some other form (sym got ∙ ap (slice_get forms) (sym same) ∙ g) in
                first.earliest other_place other_kind
                (subst (λ (f : Form). IsLiftFaultAs (next_lift_role (take at forms) f) f other_place other_kind) form_is
                (subst (λ n. IsLiftFaultAs (next_lift_role (take n forms) other) other other_place other_kind) (sym same) fault)))
            | inr (inl before) ↦
                (let later = span.later j other before (listed j other got) in
                let there_is = within IsOwnLiftFault lift_part_role fault later.0 later.1 later.4 in
                inl (omega (arith, here.1, later.2, there_is.0)))
            | inr (inr after) ↦ absurd (clear j other after got other_place other_kind fault)
          ]

-- ---- the machine form

abbrev pub number_of_tables : Option Table → ℕ
number_of_tables table = bool_byte (is_some table)

pub forms_behind : (forms : List Form) (table : Option Table) → IsTableHere forms table → behind_machine forms ≡ drop (number_of_tables table) forms
forms_behind [] _ (no_machine none) = refl
forms_behind (form ∷ forms) _ (no_machine none) = ap (λ b. if b then forms else form ∷ forms) (none form refl)
forms_behind [] _ (one_machine form g is w) = cc
forms_behind (first ∷ forms) _ (one_machine form g is w) =
    let same : first ≡ form = cc in
    ap (λ b. if b then forms else first ∷ forms) (ap is_machine same ∙ is)

pub few_tables : (forms : List Form) (table : Option Table) → IsTableHere forms table → number_of_tables table ≤ length forms
few_tables forms _ (no_machine none) = omega arith
few_tables forms _ (one_machine form g is w) = (let l = slice_get_within forms 0 form g in omega (arith, l))

pub stand_behind : (n : ℕ) (forms : List Form) (low high : ℕ) → Stand low high (forms_from forms) → (start : ℕ) × Stand start high (forms_from (drop n forms))
stand_behind zero forms low high h = (low, h)
stand_behind (suc n) [] low high h = (low, h)
stand_behind (suc n) (form ∷ forms) low high h = stand_behind n forms h.0 high h.1.1

module _ (one : (form : Form) (table : Table) → WritesTable form table → IsClearTableForm machine form) (size : ℕ) (forms : List Form) where
  machine_clear : (table : Option Table) → IsTableHere forms table → (form : Form) → slice_get forms 0 ≡ Some form → is_machine form ≡ true → (place : ℕ) (kind : Kind) → IsMachineFault form place kind → ⊥
  machine_clear _ (no_machine none) form g is place kind fault = (let f : true ≡ false = sym is ∙ none form g in cc)
  machine_clear _ (one_machine {table = t} other g2 is2 w) form g is place kind fault =
      let same : form ≡ other = same_Some form other (sym g ∙ g2) in
      one other t w place kind (subst (λ (f : Form). IsMachineFault f place kind) same fault)

  pub text_lifts_first : (table : Option Table) → IsTableHere forms table → (place : ℕ) (kind : Kind) → IsFirst (IsLiftsFault size (drop (number_of_tables table) forms)) place kind → IsFirst (IsLiftTextFault size forms) place kind
  text_lifts_first table here place kind first = record { found = in_lifts (subst (λ fs. IsLiftsFault size fs place kind) (sym behind) first.found); earliest = earliest }
    where
      behind : behind_machine forms ≡ drop (number_of_tables table) forms
      behind = forms_behind forms table here

      earliest : (other : ℕ) (other_kind : Kind) → IsLiftTextFault size forms other other_kind → IsNotBehind place kind other other_kind
      earliest other other_kind (in_machine form g is fault) = absurd (machine_clear table here form g is other other_kind fault)
      earliest other other_kind (in_lifts fault) = first.earliest other other_kind (subst (λ fs. IsLiftsFault size fs other other_kind) behind fault)

  pub text_no_fault : (table : Option Table) → IsTableHere forms table → ((place : ℕ) (kind : Kind) → IsLiftsFault size (drop (number_of_tables table) forms) place kind → ⊥) → (place : ℕ) (kind : Kind) → IsLiftTextFault size forms place kind → ⊥
  text_no_fault table here clear place kind (in_machine form g is fault) = machine_clear table here form g is place kind fault
  text_no_fault table here clear place kind (in_lifts fault) = clear place kind (subst (λ fs. IsLiftsFault size fs place kind) (forms_behind forms table here) fault)

-- a machine form is before all lifts
module _ (size : ℕ) (forms : List Form) (h : Stand 0 size (forms_from forms)) where
  pub table_wrong_first : (place : ℕ) (kind : Kind) → IsTableWrong forms place kind → IsFirst (IsLiftTextFault size forms) place kind
  table_wrong_first place kind wrong = record { found = in_machine wrong.form wrong.there wrong.is wrong.first.found; earliest = earliest }
    where
      span : Span 0 size (forms_list (forms_from forms)) 0 wrong.form
      span = span_of (forms_from forms) 0 size 0 wrong.form h (listed size forms 0 wrong.form wrong.there)

      here : (span.from ≤ place) × (place < span.to)
      here = within IsOwnTableFault table_part_role wrong.first.found span.from span.to span.stands

      behind_is : (fs : List Form) → slice_get fs 0 ≡ Some wrong.form → behind_machine fs ≡ drop 1 fs
      behind_is [] g = cc
      behind_is (f ∷ fs) g = (let same : f ≡ wrong.form = cc in ap (λ b. if b then fs else f ∷ fs) (ap is_machine same ∙ wrong.is))

      next : (fs : List Form) (at : ℕ) → slice_get (drop 1 fs) at ≡ slice_get fs (suc at)
      next [] at = refl
      next (f ∷ fs) at = refl

      lifts_later : (other : ℕ) (other_kind : Kind) → IsLiftsFault size (drop 1 forms) other other_kind → IsNotBehind place kind other other_kind
      lifts_later other other_kind (no_lift e p) = (let high = span.high_enough in inl (omega (arith, here.1, high, p)))
      lifts_later other other_kind (in_lift at form g fault) =
          let later = span.later (suc at) form (omega arith) (listed size forms (suc at) form (sym (next forms at) ∙ g)) in
          let there_is = within IsOwnLiftFault lift_part_role fault later.0 later.1 later.4 in
          inl (omega (arith, here.1, later.2, there_is.0))

      earliest : (other : ℕ) (other_kind : Kind) → IsLiftTextFault size forms other other_kind → IsNotBehind place kind other other_kind
      earliest other other_kind (in_machine form g is fault) =
          let same : form ≡ wrong.form = same_Some form wrong.form (sym g ∙ wrong.there) in
          wrong.first.earliest other other_kind (subst (λ (f : Form). IsMachineFault f other other_kind) same fault)
      earliest other other_kind (in_lifts fault) = lifts_later other other_kind (subst (λ fs. IsLiftsFault size fs other other_kind) (behind_is forms wrong.there) fault)

-- ---- what the forms of a text write

first_taken : (xs : List Form) (f : Form) → slice_get xs 0 ≡ Some f → take 1 xs ≡ f ∷ []
first_taken [] f g = cc
first_taken (x ∷ xs) f g = (let same : x ≡ f = cc in ap (λ v. v ∷ []) same)

machine_written : (forms : List Form) (given : Option Table) → IsTableHere forms given → (t : Table) (b : Bool) → t ≡ unwrap_or given ev6 → b ≡ is_none given → WritesMachine (take (number_of_tables given) forms) t b
machine_written forms _ (no_machine none) t b e f = subst (λ x. WritesMachine [] x b) (sym e) (subst (λ x. WritesMachine [] ev6 x) (sym f) built_in)
machine_written forms _ (one_machine {table = table} form g is w) t b e f =
    subst (λ fs. WritesMachine fs t b) (sym (first_taken forms form g)) (subst (λ x. WritesMachine (form ∷ []) x b) (sym e) (subst (λ x. WritesMachine (form ∷ []) table x) (sym f) (own w)))

pub lifts_written : (forms : List Form) (given : Option Table) → IsTableHere forms given → (lifts : LiftsTree) → lifts.table ≡ unwrap_or given ev6 → lifts.builtin ≡ is_none given → Each WritesLift (drop (number_of_tables given) forms) lifts.lifts
    → AllPairs (λ (a b : LiftTree). a.name ≢ b.name) lifts.lifts → (0 < length lifts.lifts) × (length lifts.lifts ≤ 64) → WritesLifts forms lifts
lifts_written forms given here lifts table builtin each differ count =
    let n = number_of_tables given in record {
      machines = take n forms;
      others = drop n forms;
      are = sym (take-append-drop n forms);
      machine = machine_written forms given here lifts.table lifts.builtin table builtin;
      each = each;
      differ = differ;
      some = count.0;
      few = count.1;
    }
