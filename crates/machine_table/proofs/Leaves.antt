-- The faults of atoms in machine forms: which is first, and when there is none.
use Rattle.std.proofs.Common.{◌≡◌, ℕ, ◌<◌, ◌≤◌, Bool, true, false, Option, None, Some, List, refl, sym, ap, ◌∙◌, arith}
use Rattle.std.specs.Prelude.{is_some}
use Rattle.forms.proofs.First.{first_own, no_fault}
use Rattle.forms.specs.Forms.{Form, Stands, place_of, name_in, number_in, is_list}
use Rattle.machine_table.specs.InstrOrder.{instr_named}
use Rattle.machine_table.specs.Reading.{IsTableFault, IsClearTableForm}
use Rattle.machine_table.specs.Roles as roles
use Rattle.text_core.specs.Names.{is_among}
use Rattle.machine_table.specs.Roles.{TableRole, IsOwnTableFault, table_part_role, other_keyword, too_few, no_list, ninth_atom, no_slot_name, no_used_name, no_instr_name, no_cluster, no_delay, no_latency, wrong_part, no_slot, ninth, slot_again, cluster_above, none_used, unknown_slot, used_again, latency_0, latency_above, delay_above, unknown_instr, instr_again}
use Rattle.machine_table.specs.declared.tables.InstrKind.{InstrKind}
use Rattle.text_core.specs.Faults.{fault_number, IsFirst}
use Rattle.text_core.specs.declared.faults.Kind.{Kind}
use Rattle.text_core.specs.declared.faults.Kind.TheVariants.{BadForm, UnknownName, BadSlot, BadLatency, OpTwice}

-- no fault of a form has a lower number than BadForm
pub own_at_least : {role : TableRole} {form : Form} {kind : Kind} → IsOwnTableFault role form kind → 6 ≤ fault_number kind
own_at_least (other_keyword h i) = omega arith
own_at_least (too_few h) = omega arith
own_at_least (no_list h) = omega arith
own_at_least (ninth_atom h) = omega arith
own_at_least (no_slot_name h) = omega arith
own_at_least (no_used_name h) = omega arith
own_at_least (no_instr_name h) = omega arith
own_at_least (no_cluster h) = omega arith
own_at_least (no_delay h) = omega arith
own_at_least (no_latency h) = omega arith
own_at_least wrong_part = omega arith
own_at_least (no_slot h) = omega arith
own_at_least (ninth h) = omega arith
own_at_least (slot_again h i) = omega arith
own_at_least (cluster_above h i) = omega arith
own_at_least (none_used h i) = omega arith
own_at_least (unknown_slot h i) = omega arith
own_at_least (used_again h i) = omega arith
own_at_least (latency_0 h) = omega arith
own_at_least (latency_above h i) = omega arith
own_at_least (delay_above h i) = omega arith
own_at_least (unknown_instr h i) = omega arith
own_at_least (instr_again h i j) = omega arith

abbrev pub First : TableRole → Form → ℕ → Kind → Type 0
First role form place kind = IsFirst (IsTableFault role form) place kind

pub no_some : {X : Type 0} (o : Option X) (x : X) → o ≡ Some x → o ≡ None → ⊥
no_some o x e f = let g : Some x ≡ None = sym e ∙ f in cc

pub same_some : {X : Type 0} (o : Option X) (x y : X) → o ≡ Some x → o ≡ Some y → x ≡ y
same_some o x y e f = let g : Some x ≡ Some y = sym e ∙ f in cc

pub no_both : (b : Bool) → b ≡ true → b ≡ false → ⊥
no_both b e f = let g : true ≡ false = sym e ∙ f in cc

-- a form whose parts aren't examined
pub leaf_clear : (role : TableRole) (form : Form) → ((at : ℕ) → table_part_role role form at ≡ None) → ((k : Kind) → IsOwnTableFault role form k → ⊥) → IsClearTableForm role form
leaf_clear role form nothing clear =
    no_fault IsOwnTableFault table_part_role role form clear (λ j part other place kind g e fault. no_some (table_part_role role form j) other e (nothing j))

module _ (form : Form) (low high : ℕ) (h : Stands low high form) where
  -- a fault BadForm comes before all others
  pub form_first : (role : TableRole) → IsOwnTableFault role form BadForm → First role form (place_of form) BadForm
  form_first role is = first_own IsOwnTableFault table_part_role role form low high BadForm h is (λ k i. own_at_least i)

  cluster_least : (n : ℕ) → number_in form ≡ Some n → (k : Kind) → IsOwnTableFault roles.cluster form k → 14 ≤ fault_number k
  cluster_least n e k (other_keyword i j) = cc
  cluster_least n e k (too_few l) = absurd (omega (arith, l))
  cluster_least n e k (no_cluster i) = absurd (no_some (number_in form) n e i)
  cluster_least n e k (cluster_above i j) = omega arith

  pub cluster_first : (n : ℕ) → number_in form ≡ Some n → 3 < n → First roles.cluster form (place_of form) BadSlot
  cluster_first n e l = first_own IsOwnTableFault table_part_role roles.cluster form low high BadSlot h (cluster_above e l) (cluster_least n e)

  delay_least : (n : ℕ) → number_in form ≡ Some n → (k : Kind) → IsOwnTableFault roles.delay form k → 15 ≤ fault_number k
  delay_least n e k (other_keyword i j) = cc
  delay_least n e k (too_few l) = absurd (omega (arith, l))
  delay_least n e k (no_delay i) = absurd (no_some (number_in form) n e i)
  delay_least n e k (delay_above i j) = omega arith

  pub delay_first : (n : ℕ) → number_in form ≡ Some n → 4 < n → First roles.delay form (place_of form) BadLatency
  delay_first n e l = first_own IsOwnTableFault table_part_role roles.delay form low high BadLatency h (delay_above e l) (delay_least n e)

  latency_least : (n : ℕ) → number_in form ≡ Some n → (k : Kind) → IsOwnTableFault roles.latency form k → 15 ≤ fault_number k
  latency_least n e k (other_keyword i j) = cc
  latency_least n e k (too_few l) = absurd (omega (arith, l))
  latency_least n e k (no_latency i) = absurd (no_some (number_in form) n e i)
  latency_least n e k (latency_0 i) = omega arith
  latency_least n e k (latency_above i j) = omega arith

  pub latency_0_first : (n : ℕ) → number_in form ≡ Some n → n ≡ 0 → First roles.latency form (place_of form) BadLatency
  latency_0_first n e z = first_own IsOwnTableFault table_part_role roles.latency form low high BadLatency h (latency_0 (e ∙ ap Some z)) (latency_least n e)

  pub latency_above_first : (n : ℕ) → number_in form ≡ Some n → 16 < n → First roles.latency form (place_of form) BadLatency
  latency_above_first n e l = first_own IsOwnTableFault table_part_role roles.latency form low high BadLatency h (latency_above e l) (latency_least n e)

  ninth_least : is_list form ≡ true → (k : Kind) → IsOwnTableFault roles.ninth_slot form k → 14 ≤ fault_number k
  ninth_least e k (other_keyword i j) = cc
  ninth_least e k (too_few l) = absurd (omega (arith, l))
  ninth_least e k (ninth_atom i) = absurd (no_both (is_list form) e i)
  ninth_least e k (ninth i) = omega arith

  pub ninth_first : is_list form ≡ true → First roles.ninth_slot form (place_of form) BadSlot
  ninth_first e = first_own IsOwnTableFault table_part_role roles.ninth_slot form low high BadSlot h (ninth e) (ninth_least e)

  module _ (table before : List (List ℕ)) (bytes : List ℕ) (named : name_in form ≡ Some bytes) where
    used_least : (k : Kind) → IsOwnTableFault (roles.used_slot table before) form k → 14 ≤ fault_number k
    used_least k (other_keyword i j) = cc
    used_least k (too_few l) = absurd (omega (arith, l))
    used_least k (no_used_name i) = absurd (no_some (name_in form) bytes named i)
    used_least k (unknown_slot i j) = omega arith
    used_least k (used_again i j) = omega arith

    pub unknown_slot_first : is_among table bytes ≡ false → First (roles.used_slot table before) form (place_of form) BadSlot
    unknown_slot_first e = first_own IsOwnTableFault table_part_role (roles.used_slot table before) form low high BadSlot h (unknown_slot named e) used_least

    pub used_again_first : is_among before bytes ≡ true → First (roles.used_slot table before) form (place_of form) BadSlot
    used_again_first e = first_own IsOwnTableFault table_part_role (roles.used_slot table before) form low high BadSlot h (used_again named e) used_least

  module _ (before : List (List ℕ)) (bytes : List ℕ) (named : name_in form ≡ Some bytes) where
    unknown_least : (k : Kind) → IsOwnTableFault (roles.instr before) form k → 7 ≤ fault_number k
    unknown_least k (other_keyword i j) = cc
    unknown_least k (too_few l) = absurd (omega (arith, l))
    unknown_least k (no_instr_name i) = absurd (no_some (name_in form) bytes named i)
    unknown_least k (unknown_instr i j) = omega arith
    unknown_least k (instr_again i j l) = omega arith

    pub unknown_instr_first : instr_named bytes ≡ None → First (roles.instr before) form (place_of form) UnknownName
    unknown_instr_first e = first_own IsOwnTableFault table_part_role (roles.instr before) form low high UnknownName h (unknown_instr named e) unknown_least

    again_least : (one : InstrKind) → instr_named bytes ≡ Some one → (k : Kind) → IsOwnTableFault (roles.instr before) form k → 16 ≤ fault_number k
    again_least one e k (other_keyword i j) = cc
    again_least one e k (too_few l) = absurd (omega (arith, l))
    again_least one e k (no_instr_name i) = absurd (no_some (name_in form) bytes named i)
    again_least one e k (unknown_instr {name = other} i j) =
        absurd (no_some (instr_named bytes) one e (ap instr_named (same_some (name_in form) bytes other named i) ∙ j))
    again_least one e k (instr_again i j l) = omega arith

    pub instr_again_first : (one : InstrKind) → instr_named bytes ≡ Some one → is_among before bytes ≡ true → First (roles.instr before) form (place_of form) OpTwice
    instr_again_first one e a =
        first_own IsOwnTableFault table_part_role (roles.instr before) form low high OpTwice h (instr_again named a (ap is_some e)) (again_least one e)

-- ---- no fault
module _ (form : Form) (bytes : List ℕ) (named : name_in form ≡ Some bytes) where
  slot_name_own : (k : Kind) → IsOwnTableFault roles.slot_name form k → ⊥
  slot_name_own k (other_keyword i j) = cc
  slot_name_own k (too_few l) = omega (arith, l)
  slot_name_own k (no_slot_name i) = no_some (name_in form) bytes named i

  pub slot_name_clear : IsClearTableForm roles.slot_name form
  slot_name_clear = leaf_clear roles.slot_name form (λ at. refl) slot_name_own

  used_own : (table before : List (List ℕ)) → is_among table bytes ≡ true → is_among before bytes ≡ false → (k : Kind) → IsOwnTableFault (roles.used_slot table before) form k → ⊥
  used_own table before t b k (other_keyword i j) = cc
  used_own table before t b k (too_few l) = omega (arith, l)
  used_own table before t b k (no_used_name i) = no_some (name_in form) bytes named i
  used_own table before t b k (unknown_slot {name = other} i j) =
      no_both (is_among table bytes) t (ap (is_among table) (same_some (name_in form) bytes other named i) ∙ j)
  used_own table before t b k (used_again {name = other} i j) =
      no_both (is_among before bytes) (ap (is_among before) (same_some (name_in form) bytes other named i) ∙ j) b

  pub used_clear : (table before : List (List ℕ)) → is_among table bytes ≡ true → is_among before bytes ≡ false → IsClearTableForm (roles.used_slot table before) form
  used_clear table before t b = leaf_clear (roles.used_slot table before) form (λ at. refl) (used_own table before t b)

  instr_own : (before : List (List ℕ)) (one : InstrKind) → instr_named bytes ≡ Some one → is_among before bytes ≡ false → (k : Kind) → IsOwnTableFault (roles.instr before) form k → ⊥
  instr_own before one e b k (other_keyword i j) = cc
  instr_own before one e b k (too_few l) = omega (arith, l)
  instr_own before one e b k (no_instr_name i) = no_some (name_in form) bytes named i
  instr_own before one e b k (unknown_instr {name = other} i j) =
      no_some (instr_named bytes) one e (ap instr_named (same_some (name_in form) bytes other named i) ∙ j)
  instr_own before one e b k (instr_again {name = other} i j l) =
      no_both (is_among before bytes) (ap (is_among before) (same_some (name_in form) bytes other named i) ∙ j) b

  pub instr_clear : (before : List (List ℕ)) (one : InstrKind) → instr_named bytes ≡ Some one → is_among before bytes ≡ false → IsClearTableForm (roles.instr before) form
  instr_clear before one e b = leaf_clear (roles.instr before) form (λ at. refl) (instr_own before one e b)

module _ (form : Form) (n : ℕ) (number : number_in form ≡ Some n) where
  cluster_own : n ≤ 3 → (k : Kind) → IsOwnTableFault roles.cluster form k → ⊥
  cluster_own l k (other_keyword i j) = cc
  cluster_own l k (too_few m) = omega (arith, m)
  cluster_own l k (no_cluster i) = no_some (number_in form) n number i
  cluster_own l k (cluster_above {n = m} i j) = let e = same_some (number_in form) n m number i in omega (arith, e, j, l)

  pub cluster_clear : n ≤ 3 → IsClearTableForm roles.cluster form
  cluster_clear l = leaf_clear roles.cluster form (λ at. refl) (cluster_own l)

  delay_own : n ≤ 4 → (k : Kind) → IsOwnTableFault roles.delay form k → ⊥
  delay_own l k (other_keyword i j) = cc
  delay_own l k (too_few m) = omega (arith, m)
  delay_own l k (no_delay i) = no_some (number_in form) n number i
  delay_own l k (delay_above {n = m} i j) = let e = same_some (number_in form) n m number i in omega (arith, e, j, l)

  pub delay_clear : n ≤ 4 → IsClearTableForm roles.delay form
  delay_clear l = leaf_clear roles.delay form (λ at. refl) (delay_own l)

  latency_own : 1 ≤ n → n ≤ 16 → (k : Kind) → IsOwnTableFault roles.latency form k → ⊥
  latency_own o l k (other_keyword i j) = cc
  latency_own o l k (too_few m) = omega (arith, m)
  latency_own o l k (no_latency i) = no_some (number_in form) n number i
  latency_own o l k (latency_0 i) = let e = same_some (number_in form) n 0 number i in omega (arith, e, o)
  latency_own o l k (latency_above {n = m} i j) = let e = same_some (number_in form) n m number i in omega (arith, e, j, l)

  pub latency_clear : 1 ≤ n → n ≤ 16 → IsClearTableForm roles.latency form
  latency_clear o l = leaf_clear roles.latency form (λ at. refl) (latency_own o l)
