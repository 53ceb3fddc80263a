-- A table within the limits is the only one that prints as it does.
use Rattle.std.proofs.Common.{◌≡◌, ℕ, zero, suc, ◌<◌, List, [], ◌∷◌, codes, length, map, refl, sym, ap, ap₂, ◌∙◌, subst, arith, inl, inr}
use Rattle.std.specs.Prelude.{All, AllPairs, slice_index_or, ◌≢◌}
use Rattle.std.proofs.lemmas.Bool.{cases_order}
use Rattle.std.proofs.lemmas.List.Elements.{All-head, All-tail}
use Rattle.std.proofs.lemmas.Option.{same_Some}
use Rattle.forms.specs.Forms.{name, number}
use Rattle.forms.specs.Printing.{Plain, Plains, atom, list, none, more, plains_from}
use Rattle.machine_table.specs.InstrOrder.{instr_name, instr_named}
use Rattle.machine_table.specs.Printing.{slot_plain, slot_name_plain, use_plain, table_plain}
use Rattle.machine_table.specs.Tables.{IsTable, IsUse}
use Rattle.machine_table.specs.declared.tables.InstrKind.{InstrKind}
use Rattle.machine_table.specs.declared.tables.Slot.{Slot}
use Rattle.machine_table.specs.declared.tables.Table.{Table}
use Rattle.machine_table.specs.declared.tables.Use.{Use}
use Rattle.machine_table.proofs.Named.{found}

first_same : (p q : Plain) (ps qs : Plains) → more p ps ≡ more q qs → p ≡ q
first_same p q ps qs e = cc

others_same : (p q : Plain) (ps qs : Plains) → more p ps ≡ more q qs → ps ≡ qs
others_same p q ps qs e = cc

parts_same : (ps qs : Plains) → list ps ≡ list qs → ps ≡ qs
parts_same ps qs e = cc

name_same : (m n : List ℕ) → atom (name m) ≡ atom (name n) → m ≡ n
name_same m n e = cc

number_same : (m n : ℕ) → atom (number m) ≡ atom (number n) → m ≡ n
number_same m n e = cc

module _ {X : Type 0} (f : X → Plain) (P : X → Type 0) (once : (x y : X) → P x → P y → f x ≡ f y → x ≡ y) where
  each_same : (xs ys : List X) → All P xs → All P ys → plains_from (map f xs) ≡ plains_from (map f ys) → xs ≡ ys
  each_same [] [] h i e = refl
  each_same [] (y ∷ ys) h i e = cc
  each_same (x ∷ xs) [] h i e = cc
  each_same (x ∷ xs) (y ∷ ys) h i e =
      ap₂ (λ z zs. z ∷ zs)
      (once x y (All-head P x xs h) (All-head P y ys i) (first_same (f x) (f y) (plains_from (map f xs)) (plains_from (map f ys)) e))
      (each_same xs ys (All-tail P x xs h) (All-tail P y ys i) (others_same (f x) (f y) (plains_from (map f xs)) (plains_from (map f ys)) e))

pub slot_of_parts : List ℕ → ℕ → Slot
slot_of_parts n c = record { name = n; cluster = c }

pub slot_back : (s : Slot) → slot_of_parts s.name s.cluster ≡ s
unfolding slot_of_parts
slot_back s = refl

slot_same : (s t : Slot) → slot_plain s ≡ slot_plain t → s ≡ t
slot_same s t e =
    let parts = parts_same (more (atom (name s.name)) (more (atom (number s.cluster)) none)) (more (atom (name t.name)) (more (atom (number t.cluster)) none)) e in
    let names : s.name ≡ t.name = name_same s.name t.name (first_same (atom (name s.name)) (atom (name t.name)) _ _ parts) in
    let others = others_same (atom (name s.name)) (atom (name t.name)) (more (atom (number s.cluster)) none) (more (atom (number t.cluster)) none) parts in
    let clusters : s.cluster ≡ t.cluster = number_same s.cluster t.cluster (first_same (atom (number s.cluster)) (atom (number t.cluster)) none none others) in
    sym (slot_back s) ∙ ap₂ slot_of_parts names clusters ∙ slot_back t

pub instr_same : (i j : InstrKind) → instr_name i ≡ instr_name j → i ≡ j
instr_same i j e = same_Some i j (sym (found i) ∙ ap instr_named e ∙ found j)

abbrev name_at : List Slot → ℕ → List ℕ
name_at slots at = slice_index_or (map (λ (s : Slot). s.name) slots) at []

named_slot : (slots : List Slot) (at : ℕ) (d : Slot) → at < length slots → name_at slots at ≡ (slice_index_or slots at d).name
named_slot [] at d l = absurd (omega arith)
named_slot (s ∷ ss) zero d l = refl
named_slot (s ∷ ss) (suc at) d l = named_slot ss at d (omega arith)

module _ (slots : List Slot) (differ : AllPairs (λ s r. s.name ≢ r.name) slots) where
  abbrev none_slot : Slot
  none_slot = record { name = []; cluster = 0 }

  apart : (i j : ℕ) → i < j → j < length slots → name_at slots i ≡ name_at slots j → ⊥
  apart i j l m e =
      differ i j none_slot l m (sym (named_slot slots i none_slot (omega arith)) ∙ e ∙ named_slot slots j none_slot m)

  pub number_once : (i j : ℕ) → i < length slots → j < length slots → atom (name (name_at slots i)) ≡ atom (name (name_at slots j)) → i ≡ j
  number_once i j l m e =
      let same = name_same (name_at slots i) (name_at slots j) e in
      elim (cases_order i j) [
        | inl here ↦ here
        | inr (inl before) ↦ absurd (apart i j before m same)
        | inr (inr after) ↦ absurd (apart j i after l (sym same))
      ]

pub use_of_parts : InstrKind → ℕ → List ℕ → Use
use_of_parts i n s = record { instr = i; latency = n; slots = s }

pub use_back : (u : Use) → use_of_parts u.instr u.latency u.slots ≡ u
unfolding use_of_parts
use_back u = refl

module _ (table : Table) (t : IsTable table) where
  abbrev Exists : ℕ → Type 0
  Exists at = at < length table.slots

  use_same : (u v : Use) → IsUse table u → IsUse table v → use_plain table u ≡ use_plain table v → u ≡ v
  use_same u v h i e =
      let us = plains_from (map (slot_name_plain table) u.slots) in
      let vs = plains_from (map (slot_name_plain table) v.slots) in
      let un : Plains = more (atom (name (instr_name u.instr))) none in
      let vn : Plains = more (atom (name (instr_name v.instr))) none in
      let ul : Plains = more (list us) un in
      let vl : Plains = more (list vs) vn in
      let behind = others_same _ _ (more (atom (number u.latency)) ul) (more (atom (number v.latency)) vl) (parts_same _ _ e) in
      let latencies = number_same u.latency v.latency (first_same (atom (number u.latency)) (atom (number v.latency)) ul vl behind) in
      let lists = others_same (atom (number u.latency)) (atom (number v.latency)) ul vl behind in
      let slots = each_same (slot_name_plain table) Exists (number_once table.slots t.names) u.slots v.slots h.exist i.exist (parts_same us vs (first_same (list us) (list vs) un vn lists)) in
      let instrs = instr_same u.instr v.instr (name_same (instr_name u.instr) (instr_name v.instr) (first_same (atom (name (instr_name u.instr))) (atom (name (instr_name v.instr))) none none (others_same (list us) (list vs) un vn lists))) in
      sym (use_back u) ∙ ap₂ (λ (i : InstrKind) (n : ℕ). use_of_parts i n u.slots) instrs latencies ∙ ap (use_of_parts v.instr v.latency) slots ∙ use_back v

pub table_of_parts : List Slot → ℕ → List Use → Table
table_of_parts s c u = record { slots = s; cross = c; uses = u }

pub table_back : (table : Table) → table_of_parts table.slots table.cross table.uses ≡ table
unfolding table_of_parts
table_back table = refl

-- a use prints by the names of the table's slots alone
with_slots : (slots others : List Slot) (cross delay : ℕ) (uses more_uses : List Use) → slots ≡ others → (us : List Use)
    → map (use_plain (table_of_parts slots cross uses)) us ≡ map (use_plain (table_of_parts others delay more_uses)) us
unfolding table_of_parts
with_slots slots others cross delay uses more_uses e us = ap (λ s. map (use_plain (record { slots = s; cross = cross; uses = uses })) us) e

-- what the parts of two tables that print alike are
record PrintAlike (table other : Table) : Type 0 where
  pub slots : table.slots ≡ other.slots
  pub cross : table.cross ≡ other.cross
  pub uses : plains_from (map (use_plain table) table.uses) ≡ plains_from (map (use_plain other) other.uses)

alike : (table other : Table) → table_plain table ≡ table_plain other → PrintAlike table other
alike table other e =
    let ts = plains_from (map slot_plain table.slots) in
    let os = plains_from (map slot_plain other.slots) in
    let tu = plains_from (map (use_plain table) table.uses) in
    let ou = plains_from (map (use_plain other) other.uses) in
    let tc : Plains = more (atom (number table.cross)) none in
    let oc : Plains = more (atom (number other.cross)) none in
    let tl : Plains = more (list (more (atom (name (codes "cross"))) tc)) tu in
    let ol : Plains = more (list (more (atom (name (codes "cross"))) oc)) ou in
    let parts = others_same _ _ (more (list (more (atom (name (codes "slots"))) ts)) tl) (more (list (more (atom (name (codes "slots"))) os)) ol) (parts_same _ _ e) in
    let slots = others_same _ _ ts os (parts_same _ _ (first_same (list (more (atom (name (codes "slots"))) ts)) (list (more (atom (name (codes "slots"))) os)) tl ol parts)) in
    let behind = others_same _ _ tl ol parts in
    let delays = others_same _ _ tc oc (parts_same _ _ (first_same (list (more (atom (name (codes "cross"))) tc)) (list (more (atom (name (codes "cross"))) oc)) tu ou behind)) in
    record {
      slots = each_same slot_plain (λ s. s ≡ s) (λ s t p q e. slot_same s t e) table.slots other.slots (λ k d l. refl) (λ k d l. refl) slots;
      cross = number_same table.cross other.cross (first_same (atom (number table.cross)) (atom (number other.cross)) none none delays);
      uses = others_same _ _ tu ou behind;
    }

moved : (table other : Table) → table.slots ≡ other.slots → (us : List Use) → map (use_plain table) us ≡ map (use_plain other) us
unfolding table_of_parts
moved table other e us = with_slots table.slots other.slots table.cross other.cross table.uses other.uses e us

moved_use : (table other : Table) (u : Use) → table.slots ≡ other.slots → IsUse other u → IsUse table u
moved_use table other u e h = record {
  latency = h.latency;
  some = h.some;
  exist = subst (λ s. All (λ at. at < length s) u.slots) (sym e) h.exist;
  once = h.once;
}

pub one_table : (table other : Table) → IsTable table → IsTable other → table_plain table ≡ table_plain other → table ≡ other
one_table table other t o e =
    let a = alike table other e in
    let uses = each_same (use_plain table) (IsUse table) (use_same table t) table.uses other.uses t.uses (λ k d l. moved_use table other _ a.slots (o.uses k d l)) (a.uses ∙ ap plains_from (sym (moved table other a.slots other.uses))) in
    sym (table_back table) ∙ ap₂ (λ s c. table_of_parts s c table.uses) a.slots a.cross ∙ ap (table_of_parts other.slots other.cross) uses ∙ table_back other
