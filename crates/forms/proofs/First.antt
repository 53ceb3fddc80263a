-- Which fault of a form comes first: its own one, or the first one in the first of its parts that has any.
use Rattle.std.proofs.Common.{◌≡◌, ℕ, zero, suc, ◌+◌, ◌<◌, ◌≤◌, Option, Some, inl, inr, List, refl, sym, ap, ◌∙◌, subst, arith, slice_get}
use Rattle.std.proofs.lemmas.Bool.{cases_order}
use Rattle.text_core.specs.declared.faults.Kind.{Kind}
use Rattle.text_core.specs.declared.faults.Kind.TheVariants.{BadForm, LimitPassed}
use Rattle.text_core.specs.Faults.{fault_number, IsNotBehind, IsFirst}
use Rattle.text_core.specs.Trees as trees
use Rattle.text_core.specs.Trees.{SexpTree, SexpTrees}
use Rattle.forms.specs.Forms.{Form, Forms, atom, list, none, more, place_of, parts_of, forms_list, form_of, forms_of, Stands, Stand}
use Rattle.forms.specs.Faults.{IsFault, own, inside}
use Rattle.text_core.specs.Places.{IsPlaced, ArePlaced}

mutual
  pub stands_of : (text : List ℕ) (tree : SexpTree) (low high : ℕ) → IsPlaced low high tree → Stands low high (form_of text tree)
  stands_of text (trees.atom token) low high h = (h.0, omega (arith, h.1, h.2))
  stands_of text (trees.list place parts) low high h = (h.0, stand_of text parts (place + 1) high h.1)

  pub stand_of : (text : List ℕ) (ts : SexpTrees) (low high : ℕ) → ArePlaced low high ts → Stand low high (forms_of text ts)
  stand_of text trees.none low high h = h
  stand_of text (trees.more tree others) low high h = (h.0, (stands_of text tree low h.0 h.1.0, stand_of text others h.0 high h.1.1))

mutual
  stands_some : (form : Form) (low high : ℕ) → Stands low high form → low < high
  stands_some (atom place a) low high h = omega (arith, h.0, h.1)
  stands_some (list place parts) low high h = let e = stand_le parts (place + 1) high h.1 in omega (arith, h.0, e)

  stand_le : (forms : Forms) (low high : ℕ) → Stand low high forms → low ≤ high
  stand_le none low high h = h
  stand_le (more form forms) low high h =
      let one = stands_some form low h.0 h.1.0 in
      let others = stand_le forms h.0 high h.1.1 in
      omega (arith, one, others)

-- a form of several stands between two places, and those behind it stand behind it
pub record Span (low high : ℕ) (forms : List Form) (at : ℕ) (form : Form) : Type 0 where
  pub from : ℕ
  pub to : ℕ
  pub low_enough : low ≤ from
  pub high_enough : to ≤ high
  pub stands : Stands from to form
  pub later : (j : ℕ) (other : Form) → at < j → slice_get forms j ≡ Some other
      → (other_from : ℕ) × (other_to : ℕ) × (to ≤ other_from) × (other_to ≤ high) × Stands other_from other_to other

each_stands : (forms : Forms) (low high j : ℕ) (other : Form) → Stand low high forms → slice_get (forms_list forms) j ≡ Some other
    → (other_from : ℕ) × (other_to : ℕ) × (low ≤ other_from) × (other_to ≤ high) × Stands other_from other_to other
each_stands none low high j other h g = cc
each_stands (more form forms) low high zero other h g =
    let same : form ≡ other = cc in
    (low, h.0, omega arith, stand_le forms h.0 high h.1.1, subst (λ (f : Form). Stands low h.0 f) same h.1.0)
each_stands (more form forms) low high (suc j) other h g =
    let rest = each_stands forms h.0 high j other h.1.1 g in
    let one = stands_some form low h.0 h.1.0 in
    (rest.0, rest.1, omega (arith, one, rest.2), rest.3, rest.4)

behind_first : (first : Form) (forms : Forms) (middle high : ℕ) → Stand middle high forms → (j : ℕ) (other : Form) → 0 < j → slice_get (forms_list (more first forms)) j ≡ Some other
    → (other_from : ℕ) × (other_to : ℕ) × (middle ≤ other_from) × (other_to ≤ high) × Stands other_from other_to other
behind_first first forms middle high h zero other l g = absurd (omega arith)
behind_first first forms middle high h (suc j) other l g = each_stands forms middle high j other h g

behind_more : (first : Form) (forms : Forms) (low high at to : ℕ) → ((j : ℕ) (other : Form) → at < j → slice_get (forms_list forms) j ≡ Some other → (other_from : ℕ) × (other_to : ℕ) × (to ≤ other_from) × (other_to ≤ high) × Stands other_from other_to other)
    → (j : ℕ) (other : Form) → suc at < j → slice_get (forms_list (more first forms)) j ≡ Some other → (other_from : ℕ) × (other_to : ℕ) × (to ≤ other_from) × (other_to ≤ high) × Stands other_from other_to other
behind_more first forms low high at to later zero other l g = absurd (omega arith)
behind_more first forms low high at to later (suc j) other l g = later j other (omega arith) g

pub span_of : (forms : Forms) (low high at : ℕ) (form : Form) → Stand low high forms → slice_get (forms_list forms) at ≡ Some form → Span low high (forms_list forms) at form
span_of none low high at form h g = cc
span_of (more first forms) low high zero form h g =
    let same : first ≡ form = cc in
    record {
      from = low;
      to = h.0;
      low_enough = omega arith;
      high_enough = stand_le forms h.0 high h.1.1;
      stands = subst (λ (f : Form). Stands low h.0 f) same h.1.0;
      later = behind_first first forms h.0 high h.1.1;
    }
span_of (more first forms) low high (suc at) form h g =
    let rest = span_of forms h.0 high at form h.1.1 g in
    let one = stands_some first low h.0 h.1.0 in
    record {
      from = rest.from;
      to = rest.to;
      low_enough = omega (arith, one, rest.low_enough);
      high_enough = rest.high_enough;
      stands = rest.stands;
      later = behind_more first forms low high at rest.to rest.later;
    }

module _ {Role : Type 0} (IsOwn : Role → Form → Kind → Type 0) (part_role : Role → Form → ℕ → Option Role) where
  -- a fault stands where its form does
  pub within : {role : Role} {form : Form} {place : ℕ} {kind : Kind} → IsFault IsOwn part_role role form place kind → (low high : ℕ) → Stands low high form → (low ≤ place) × (place < high)
  within {form = atom p a} (own is placed) low high h = (omega (arith, placed, h.0), omega (arith, placed, h.1))
  within {form = list p parts} (own is placed) low high h =
      let e = stand_le parts (p + 1) high h.1 in (omega (arith, placed, h.0), omega (arith, placed, e))
  within {form = atom p a} (inside at part other a1 a2 g r fault) low high h = cc
  within {form = list p parts} (inside at part other a1 a2 g r fault) low high h =
      let span = span_of parts (p + 1) high at part h.1 g in
      let e = within fault span.from span.to span.stands in
      (omega (arith, h.0, e.0, span.low_enough), omega (arith, e.1, span.high_enough))

  -- a fault of a form's part stands behind the form's first byte
  behind_place : (role : Role) (form : Form) (low high at : ℕ) (part : Form) (other : Role) (place : ℕ) (kind : Kind) → Stands low high form → slice_get (parts_of form) at ≡ Some part → IsFault IsOwn part_role other part place kind → place_of form < place
  behind_place role (atom p a) low high at part other place kind h g fault = cc
  behind_place role (list p parts) low high at part other place kind h g fault =
      let span = span_of parts (p + 1) high at part h.1 g in
      let e = within fault span.from span.to span.stands in
      omega (arith, e.0, span.low_enough)

  own_not_behind : (role : Role) (form : Form) (low high : ℕ) (kind : Kind) → Stands low high form → ((k : Kind) → IsOwn role form k → fault_number kind ≤ fault_number k)
      → (place : ℕ) (other : Kind) → IsFault IsOwn part_role role form place other → IsNotBehind (place_of form) kind place other
  own_not_behind role form low high kind h least place other (own is placed) = inr (sym placed, least other is)
  own_not_behind role form low high kind h least place other (inside at part as_role a1 a2 g r fault) = inl (behind_place role form low high at part as_role place other h g fault)

  -- The first fault of a form that has faults of its own is the one of these with the lowest number.
  pub first_own : (role : Role) (form : Form) (low high : ℕ) (kind : Kind) → Stands low high form → IsOwn role form kind → ((k : Kind) → IsOwn role form k → fault_number kind ≤ fault_number k)
      → IsFirst (IsFault IsOwn part_role role form) (place_of form) kind
  first_own role form low high kind h is least = record { found = own is refl; earliest = own_not_behind role form low high kind h least }

  -- no fault in a part with a number below this
  abbrev pub ClearTo : Role → Form → ℕ → Type 0
  ClearTo role form at = (j : ℕ) (part : Form) (other : Role) (place : ℕ) (kind : Kind) → j < at → slice_get (parts_of form) j ≡ Some part → part_role role form j ≡ Some other → IsFault IsOwn part_role other part place kind → ⊥

  later_behind : (role : Role) (form : Form) (low high at j : ℕ) (part other : Form) (as_role : Role) (one place : ℕ) (kind one_kind : Kind) → Stands low high form → slice_get (parts_of form) at ≡ Some part → slice_get (parts_of form) j ≡ Some other → at < j
      → (q : Role) → IsFault IsOwn part_role q part one one_kind → IsFault IsOwn part_role as_role other place kind → one < place
  later_behind role (atom p a) low high at j part other as_role one place kind one_kind h g g2 l q f f2 = cc
  later_behind role (list p parts) low high at j part other as_role one place kind one_kind h g g2 l q f f2 =
      let span = span_of parts (p + 1) high at part h.1 g in
      let e = within f span.from span.to span.stands in
      let l2 = span.later j other l g2 in
      let e2 = within f2 l2.0 l2.1 l2.4 in
      omega (arith, e.1, e2.0, l2.2)

  same_part : (role : Role) (form : Form) (at : ℕ) (part other : Form) (q r : Role) (p place : ℕ) (k kind : Kind) → slice_get (parts_of form) at ≡ Some part → part_role role form at ≡ Some q → slice_get (parts_of form) at ≡ Some other → part_role role form at ≡ Some r
      → IsFirst (IsFault IsOwn part_role q part) p k → IsFault IsOwn part_role r other place kind → IsNotBehind p k place kind
  same_part role form at part other q r p place k kind g e g2 e2 first fault =
      let same : other ≡ part = cc in
      let roles : r ≡ q = cc in
      first.earliest place kind (subst (λ (x : Role). IsFault IsOwn part_role x part place kind) roles (subst (λ (f : Form). IsFault IsOwn part_role r f place kind) same fault))

  inside_not_behind : (role : Role) (form : Form) (low high at : ℕ) (part : Form) (q : Role) (p : ℕ) (k : Kind) → Stands low high form → ((x : Kind) → IsOwn role form x → ⊥)
      → slice_get (parts_of form) at ≡ Some part → part_role role form at ≡ Some q → ClearTo role form at → IsFirst (IsFault IsOwn part_role q part) p k
      → (place : ℕ) (kind : Kind) → IsFault IsOwn part_role role form place kind → IsNotBehind p k place kind
  inside_not_behind role form low high at part q p k h clear g e earlier first place kind (own is placed) = absurd (clear kind is)
  inside_not_behind role form low high at part q p k h clear g e earlier first place kind (inside j other r a1 a2 g2 e2 fault) =
      elim (cases_order at j) [
        | inl same ↦ same_part role form at part other q r p place k kind g e (ap (slice_get (parts_of form)) same ∙ g2) (ap (part_role role form) same ∙ e2) first fault
        | inr (inl before) ↦ inl (later_behind role form low high at j part other r p place kind k h g g2 before q first.found fault)
        | inr (inr after) ↦ absurd (earlier j other r place kind after g2 e2 fault)
      ]

  -- The first fault of a form that has none of its own is the first one of the first part that has one.
  pub first_inside : (role : Role) (form : Form) (low high at : ℕ) (part : Form) (q : Role) (p : ℕ) (k : Kind) → Stands low high form → ((x : Kind) → IsOwn role form x → ⊥)
      → slice_get (parts_of form) at ≡ Some part → part_role role form at ≡ Some q → ClearTo role form at → IsFirst (IsFault IsOwn part_role q part) p k
      → IsFirst (IsFault IsOwn part_role role form) p k
  first_inside role form low high at part q p k h clear g e earlier first = record {
    found = inside at part q (clear BadForm) (clear LimitPassed) g e first.found;
    earliest = inside_not_behind role form low high at part q p k h clear g e earlier first;
  }

  -- A form without faults of its own, all of whose parts are without faults, has none.
  pub no_fault : (role : Role) (form : Form) → ((x : Kind) → IsOwn role form x → ⊥)
      → ((j : ℕ) (part : Form) (other : Role) (place : ℕ) (kind : Kind) → slice_get (parts_of form) j ≡ Some part → part_role role form j ≡ Some other → IsFault IsOwn part_role other part place kind → ⊥)
      → (place : ℕ) (kind : Kind) → IsFault IsOwn part_role role form place kind → ⊥
  no_fault role form clear each place kind (own is placed) = clear kind is
  no_fault role form clear each place kind (inside j part other a1 a2 g e fault) = each j part other place kind g e fault
