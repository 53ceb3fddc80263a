-- Lines of one kind behind each other: slots, instructions, launches, words, places.
use Rattle.std.proofs.Common.{◌≡◌, ◌≢◌, ℕ, ◌<◌, ◌≤◌, ◌^◌, List, [], ◌∷◌, ◌++◌, length, drop, map, get_or, refl, sym, ap, ◌∙◌, arith, codes, decimal, Option, Some, length-append}
use Rattle.std.specs.Prelude.{All, AllPairs, IsTrue, is_some}
use Rattle.std.specs.Option.{option_map_or}
use Rattle.std.proofs.lemmas.Option.{slice_get-get_or, same_Some}
use Rattle.alpha_encode.specs.Decoded.{decoded}
use Rattle.graph_meaning.specs.Graphs.{HaveOwnPins}
use Rattle.graph_meaning.specs.declared.graphs.LaunchGraph.{LaunchGraph}
use Rattle.machine_table.specs.InstrOrder.{instr_name, instr_named, kind_number}
use Rattle.machine_table.specs.Tables.{IsTable, IsUse}
use Rattle.machine_table.specs.declared.tables.InstrKind.{InstrKind}
use Rattle.machine_table.specs.declared.tables.Slot.{Slot}
use Rattle.machine_table.specs.declared.tables.Table.{Table}
use Rattle.machine_table.specs.declared.tables.Use.{Use}
use Rattle.register_assign.specs.declared.listings.Where.{Where}
use Rattle.schedule_meaning.specs.declared.schedules.To.{To}
use Rattle.schedule_meaning.specs.declared.schedules.Launch.{Launch}
use Rattle.text_core.specs.LineTexts.{Words}
use Rattle.text_core.specs.Names.{IsName}
use Rattle.answer_texts.specs.AnswerLines.{name_among, slot_words, inst_words, launch_words, word_words, where_words}
use Rattle.answer_texts.specs.AnswerParts.{AreNamedSlots, table_of, AreTableUses, IsLaunch, AreLaunches, AreCodes, AreWherePlaces}
use Rattle.answer_texts.proofs.Destinations.{one_destination}
use Rattle.answer_texts.proofs.PartsLines.{IsKindOfLine}
use Rattle.answer_texts.proofs.PartsKinds.{number_same}
use Rattle.answer_texts.proofs.PartsSame.{rest_same, word_same, all_front, pairs_front, each_once, hex_once}

-- ---- slots

slot_of : List ℕ → ℕ → Slot
slot_of name cluster = record { name = name; cluster = cluster }

one_slot : (s r : Slot) → s.cluster ≤ 3 → r.cluster ≤ 3 → slot_words s ≡ slot_words r → s ≡ r
unfolding slot_of
one_slot s r low less e =
    ap (λ n. slot_of n s.cluster) (word_same 1 (slot_words s) (slot_words r) e)
    ∙ ap (λ n. slot_of r.name n)
    (number_same 2 s.cluster r.cluster (slot_words s) (slot_words r) (omega (arith, low)) (omega (arith, less)) e refl refl)

slots_front : (xs ys : List Slot) → AreNamedSlots (xs ++ ys) → AreNamedSlots xs
slots_front xs ys h = record {
  few = (let n = length-append xs ys in let few = h.few in omega (arith, n, few));
  names = all_front (λ (s : Slot). IsName s.name) xs ys h.names;
  clusters = all_front (λ (s : Slot). s.cluster ≤ 3) xs ys h.clusters;
  once = pairs_front (λ (s r : Slot). s.name ≢ r.name) xs ys h.once;
}

pub slots_kind : IsKindOfLine (codes "slot") slot_words AreNamedSlots
slots_kind = record {
  begins = λ s. refl;
  front = slots_front;
  one = λ xs ys a b e. each_once slot_words (λ (s : Slot). s.cluster ≤ 3) one_slot xs ys a.clusters b.clusters e;
}

-- ---- names of slots

-- the name of a slot that is there
name_at : (slots : List Slot) (k : ℕ) (d : Slot) → k < length slots → name_among slots k ≡ (get_or slots k d).name
name_at slots k d lt = ap (λ (o : Option Slot). option_map_or (λ (s : Slot). s.name) o []) (slice_get-get_or slots k d lt)

-- slots with different names are told by them
pub one_name : (slots : List Slot) (s r : ℕ) → AllPairs (λ a b. a.name ≢ b.name) slots → s < length slots
    → r < length slots → name_among slots s ≡ name_among slots r → s ≡ r
one_name slots s r names lt less e =
    let d : Slot = slot_of [] 0 in
    let same : (get_or slots s d).name ≡ (get_or slots r d).name =
    sym (name_at slots s d lt) ∙ e ∙ name_at slots r d less in
    let before : ¬ (s < r) = λ b. names s r d b less same in
    let behind : ¬ (r < s) = λ b. names r s d b lt (sym same) in
    omega (arith, before, behind)

-- ---- instructions

abbrev pub NamesAreOne : Type 0
NamesAreOne = (instr : InstrKind) → instr_named (instr_name instr) ≡ Some instr

one_instr : NamesAreOne → (i j : InstrKind) → instr_name i ≡ instr_name j → i ≡ j
one_instr found i j e = same_Some i j (sym (found i) ∙ ap instr_named e ∙ found j)

use_of : InstrKind → ℕ → List ℕ → Use
use_of instr latency slots = record { instr = instr; latency = latency; slots = slots }

abbrev FitsSlots : List Slot → Use → Type 0
FitsSlots slots u = (u.latency ≤ 16) × All (λ s. s < length slots) u.slots

one_use : NamesAreOne → (slots : List Slot) → AllPairs (λ a b. a.name ≢ b.name) slots → (u v : Use) → FitsSlots slots u
    → FitsSlots slots v → inst_words slots u ≡ inst_words slots v → u ≡ v
unfolding use_of
one_use found slots names u v a b e =
    let low = a.0 in
    let less = b.0 in
    let behind = rest_same (decimal u.latency) (decimal v.latency) (map (name_among slots) u.slots)
    (map (name_among slots) v.slots)
    (rest_same (instr_name u.instr) (instr_name v.instr) (decimal u.latency ∷ map (name_among slots) u.slots)
    (decimal v.latency ∷ map (name_among slots) v.slots)
    (rest_same (codes "inst") (codes "inst") (instr_name u.instr ∷ decimal u.latency ∷ map (name_among slots) u.slots)
    (instr_name v.instr ∷ decimal v.latency ∷ map (name_among slots) v.slots) e)) in
    ap (λ i. use_of i u.latency u.slots)
    (one_instr found u.instr v.instr (word_same 1 (inst_words slots u) (inst_words slots v) e))
    ∙ ap (λ n. use_of v.instr n u.slots)
    (number_same 2 u.latency v.latency (inst_words slots u) (inst_words slots v) (omega (arith, low)) (omega (arith, less)) e
    refl refl)
    ∙ ap (λ l. use_of v.instr v.latency l)
    (each_once (name_among slots) (λ s. s < length slots) (λ s r lt lower same. one_name slots s r names lt lower same)
    u.slots v.slots a.1 b.1 behind)

uses_front : (slots : List Slot) (cross : ℕ) (xs ys : List Use) → AreTableUses slots cross (xs ++ ys) → AreTableUses slots cross xs
uses_front slots cross xs ys h = record {
  slots = h.slots;
  clusters = h.clusters;
  names = h.names;
  cross = h.cross;
  uses = λ k d lt.
      (let u = all_front (IsUse (table_of slots cross (xs ++ ys))) xs ys h.uses k d lt in
      record { latency = u.latency; some = u.some; exist = u.exist; once = u.once });
  order = pairs_front (λ (u v : Use). kind_number u.instr < kind_number v.instr) xs ys h.order;
}

fit_slots : (slots : List Slot) (cross : ℕ) (us : List Use) → AreTableUses slots cross us → All (FitsSlots slots) us
fit_slots slots cross us h k d lt = (let u = h.uses k d lt in (u.latency.1, u.exist))

pub uses_kind : NamesAreOne → (slots : List Slot) (cross : ℕ)
    → IsKindOfLine (codes "inst") (inst_words slots) (AreTableUses slots cross)
uses_kind found slots cross = record {
  begins = λ u. refl;
  front = uses_front slots cross;
  one = λ xs ys a b e. each_once (inst_words slots) (FitsSlots slots) (one_use found slots a.names) xs ys
      (fit_slots slots cross xs a) (fit_slots slots cross ys b) e;
}

-- ---- launches

launch_of : ℕ → ℕ → ℕ → To → Launch
launch_of cycle slot row to = record { cycle = cycle; slot = slot; row = row; to = to }

pub one_launch : (table : Table) (g : LaunchGraph) → IsTable table → HaveOwnPins g.sets → (l m : Launch) → IsLaunch table g l
    → IsLaunch table g m → launch_words table g l ≡ launch_words table g m → l ≡ m
unfolding launch_of
one_launch table g is own l m a b e =
    let early = a.0 in
    let soon = b.0 in
    let low = a.2 in
    let less = b.2 in
    ap (λ n. launch_of n l.slot l.row l.to)
    (number_same 1 l.cycle m.cycle (launch_words table g l) (launch_words table g m) (omega (arith, early)) (omega (arith, soon))
    e refl refl)
    ∙ ap (λ n. launch_of m.cycle n l.row l.to)
    (one_name table.slots l.slot m.slot is.names a.1 b.1 (word_same 2 (launch_words table g l) (launch_words table g m) e))
    ∙ ap (λ n. launch_of m.cycle m.slot n l.to)
    (number_same 3 l.row m.row (launch_words table g l) (launch_words table g m) (omega (arith, low)) (omega (arith, less))
    e refl refl)
    ∙ ap (launch_of m.cycle m.slot m.row)
    (one_destination g own l.to m.to a.4 b.4 (ap (λ (ws : Words). drop 4 ws) e))

pub launches_kind : (table : Table) (g : LaunchGraph) → IsTable table → HaveOwnPins g.sets
    → IsKindOfLine (codes "launch") (launch_words table g) (AreLaunches table g)
launches_kind table g is own = record {
  begins = λ l. refl;
  front = all_front (IsLaunch table g);
  one = each_once (launch_words table g) (IsLaunch table g) (one_launch table g is own);
}

-- ---- words

abbrev IsCode : ℕ → Type 0
IsCode word = (word < 2 ^ 32) × IsTrue (is_some (decoded word))

one_code : (word other : ℕ) → IsCode word → IsCode other → word_words word ≡ word_words other → word ≡ other
one_code word other a b e = hex_once word other a.0 b.0 (word_same 1 (word_words word) (word_words other) e)

pub codes_kind : IsKindOfLine (codes "word") word_words AreCodes
codes_kind = record {
  begins = λ word. refl;
  front = all_front IsCode;
  one = each_once word_words IsCode one_code;
}

-- ---- places

where_of : List ℕ → ℕ → Where
where_of name reg = record { name = name; reg = reg }

abbrev IsPlace : Where → Type 0
IsPlace w = IsName w.name × (w.reg < 32)

one_where : (v w : Where) → IsPlace v → IsPlace w → where_words v ≡ where_words w → v ≡ w
unfolding where_of
one_where v w a b e =
    let low = a.1 in
    let less = b.1 in
    ap (λ n. where_of n v.reg) (word_same 1 (where_words v) (where_words w) e)
    ∙ ap (λ n. where_of w.name n)
    (number_same 2 v.reg w.reg (where_words v) (where_words w) (omega (arith, low)) (omega (arith, less)) e refl refl)

pub places_kind : IsKindOfLine (codes "where") where_words AreWherePlaces
places_kind = record {
  begins = λ w. refl;
  front = all_front IsPlace;
  one = each_once where_words IsPlace one_where;
}
