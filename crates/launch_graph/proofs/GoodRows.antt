-- Each row of a well-formed graph is right, and so is each class.
use Rattle.std.proofs.Common.{◌≡◌, ℕ, zero, suc, ◌+◌, ◌<◌, ◌≤◌, List, [], ◌∷◌, ◌++◌, length, map, take, get_or, refl, sym, ap, subst, ◌∙◌, arith, inl, inr, max, Bool, true, false, cond, ◌&&◌, ◌==◌, Some}
use Rattle.std.specs.Prelude.{Any, Contains, slice_get, fold}
use Rattle.std.proofs.lemmas.Bool.{cases_eq}
use Rattle.std.proofs.lemmas.List.Quantifiers.{Any-push}
use Rattle.std.proofs.lemmas.List.{length_push, get_or_append_left, take_more}
use Rattle.std.proofs.lemmas.Option.{slice_get-get_or, same_Some, none-some, get_or_from_slice_get, slice_get_within}
use Rattle.word_ops.specs.Meanings.{arity_of_op, count_of, sort_of, operand_sort}
use Rattle.word_ops.specs.declared.sorts.Arity.{Arity}
use Rattle.word_ops.specs.declared.sorts.Arity.TheVariants as arities
use Rattle.word_ops.specs.declared.sorts.Sort.{Sort}
use Rattle.graph_meaning.specs.declared.graphs.LaunchRow.{LaunchRow}
use Rattle.graph_meaning.specs.declared.graphs.LaunchGraph.{LaunchGraph}
use Rattle.launch_graph.specs.declared.row_lines.RowLine.{RowLine}
use Rattle.launch_graph.specs.GraphLines.{said_row, said_op}
use Rattle.launch_graph.specs.RowFaults.{IsBadRow, unknown_operator, wrong_count, repeated, seventeenth_name, use_of_none, use_of_many, another_count, IsBadClass, operand, own, second_constant, not_next, IsWrongClass, not_below, no_row, other_sort, class_sort, sort_given, sort_taken, tells_sort, next_line_class, line_constant, names_used, ops_of}
use Rattle.launch_graph.specs.CleanLines.{IsGoodRow}
use Rattle.graph_meaning.specs.WellFormed.{IsLaunchGraph, ClassHasSort, next_class}
use Rattle.graph_meaning.proofs.Classes.{class_below, own_sorts, one_sort, next_more}
use Rattle.graph_meaning.proofs.Lists.{same_number, any_here, any_there}
use Rattle.launch_graph.proofs.Printed.{map_count}
use Rattle.launch_graph.proofs.GoodGraphs.{said_plain, said_use, said_unknown, said_given, said_taken, said_constant, SameSaid, same_plain, same_use, same_said, map_take, map_get, Said, any_launch, said_among, names_upto, map_append, few_names}

-- ---- classes of rows that are said

class_said : (rs : List LaunchRow) (class : ℕ) → Any (λ (r : RowLine). r.class ≡ class) (map said_row rs) → Any (λ (r : LaunchRow). r.class ≡ class) rs
class_said rs class h =
    let n : length (map said_row rs) ≡ length rs = map_count said_row rs in
    let lt : h.0 < length (map said_row rs) = h.2 in (
      h.0,
      get_or rs h.0 any_launch,
      omega arith,
      get_or_self rs h.0 (omega arith),
      ap (λ (r : RowLine). r.class) (sym (map_get said_row h.0 rs h.1 any_launch (omega arith)) ∙ h.3) ∙ h.4,
    )
  where
    get_or_self : (xs : List LaunchRow) (k : ℕ) → k < length xs → get_or xs k (get_or xs k any_launch) ≡ get_or xs k any_launch
    get_or_self [] k lt = absurd (omega arith)
    get_or_self (x ∷ xs) zero lt = refl
    get_or_self (x ∷ xs) (suc k) lt = get_or_self xs k (omega arith)

said_class : (rs : List LaunchRow) (class : ℕ) → Any (λ (r : LaunchRow). r.class ≡ class) rs → Any (λ (r : RowLine). r.class ≡ class) (map said_row rs)
said_class rs class h =
    let n : length (map said_row rs) ≡ length rs = map_count said_row rs in
    let lt : h.0 < length rs = h.2 in
    (h.0, said_row h.1, omega arith, map_get said_row h.0 rs (said_row h.1) h.1 lt ∙ ap said_row h.3, h.4)

sort_step : (r : LaunchRow) (rs : List LaunchRow) (class : ℕ) (sort : Sort) (b c : Bool) → (r.class == class) ≡ b
    → (class_sort (map said_row rs) class ≡ Some sort → Any (λ (x : LaunchRow). (x.class ≡ class) × (sort_of x.op ≡ sort)) rs)
    → cond (b && c) (Some (sort_given (said_op r.op r.name))) (class_sort (map said_row rs) class) ≡ Some sort
    → Any (λ (x : LaunchRow). (x.class ≡ class) × (sort_of x.op ≡ sort)) (r ∷ rs)
sort_step r rs class sort true true is rest e =
    any_here (λ (x : LaunchRow). (x.class ≡ class) × (sort_of x.op ≡ sort)) r rs
    (same_number r.class class is, sym (said_given r.op r.name) ∙ same_Some (sort_given (said_op r.op r.name)) sort e)
sort_step r rs class sort true false is rest e = any_there (λ (x : LaunchRow). (x.class ≡ class) × (sort_of x.op ≡ sort)) r rs (rest e)
sort_step r rs class sort false c is rest e = any_there (λ (x : LaunchRow). (x.class ≡ class) × (sort_of x.op ≡ sort)) r rs (rest e)

pub sort_said : (rs : List LaunchRow) (class : ℕ) (sort : Sort) → class_sort (map said_row rs) class ≡ Some sort
    → Any (λ (x : LaunchRow). (x.class ≡ class) × (sort_of x.op ≡ sort)) rs
sort_said [] class sort e = absurd (none-some sort e)
sort_said (r ∷ rs) class sort e =
    sort_step r rs class sort (r.class == class) (tells_sort (said_op r.op r.name) (length r.operands)) refl (sort_said rs class sort) e

next_from : (n : ℕ) (rs : List LaunchRow) → fold (λ m (r : RowLine). max m (r.class + 1)) n (map said_row rs) ≡ fold (λ m (r : LaunchRow). max m (r.class + 1)) n rs
next_from n [] = refl
next_from n (r ∷ rs) = next_from (max n (r.class + 1)) rs

pub next_said : (rs : List LaunchRow) → next_line_class (map said_row rs) ≡ next_class rs
next_said rs = next_from 0 rs

count_range : (a : Arity) → (1 ≤ count_of a) × (count_of a ≤ 4)
count_range arities.One = (omega arith, omega arith)
count_range arities.Two = (omega arith, omega arith)
count_range arities.Three = (omega arith, omega arith)
count_range arities.Four = (omega arith, omega arith)

-- every number below the next class is a class
module _ (rows : List LaunchRow) (classes : (i : ℕ) (r : LaunchRow) → slice_get rows i ≡ Some r → r.class ≤ next_class (take i rows)) where
  UsedUpto : ℕ → Type 0
  UsedUpto k = (m : ℕ) → m < next_class (take k rows) → Any (λ (r : LaunchRow). r.class ≡ m) (take k rows)

  used_next : (k : ℕ) → k < length rows → UsedUpto k → UsedUpto (k + 1)
  unfolding UsedUpto
  used_next k lt h m low =
      let d : LaunchRow = any_launch in
      let bound : (get_or rows k d).class ≤ next_class (take k rows) = classes k (get_or rows k d) (slice_get-get_or rows k d lt) in
      let more : next_class (take (k + 1) rows) ≡ max (next_class (take k rows)) ((get_or rows k d).class + 1) = next_more rows k d lt in
      subst (Any (λ (r : LaunchRow). r.class ≡ m)) (sym (take_more rows k d lt))
      (elim (cases_eq (get_or rows k d).class m) [
        | inl same ↦ Any-push (λ (r : LaunchRow). r.class ≡ m) (take k rows) (get_or rows k d) same
        | inr apart ↦ any_left (take k rows) (get_or rows k d) (h m (omega arith))
      ])
    where
      any_left : (xs : List LaunchRow) (y : LaunchRow) → Any (λ (r : LaunchRow). r.class ≡ m) xs → Any (λ (r : LaunchRow). r.class ≡ m) (xs ++ y ∷ [])
      any_left xs y a =
          let l : a.0 < length xs = a.2 in
          let n : length (xs ++ y ∷ []) ≡ length xs + 1 = length_push xs y in
          (a.0, a.1, omega arith, get_or_append_left xs (y ∷ []) a.1 a.0 l ∙ a.3, a.4)

  used_upto : (k : ℕ) → k ≤ length rows → UsedUpto k
  unfolding UsedUpto
  used_upto zero le m low = absurd (omega arith)
  used_upto (suc k) le m low =
      let n : k + 1 ≡ suc k = omega arith in
      let next : UsedUpto (k + 1) = used_next k (omega arith) (used_upto k (omega arith)) in
      subst UsedUpto n next m low

  pub used_class : (k : ℕ) → k ≤ length rows → (m : ℕ) → m < next_class (take k rows) → Any (λ (r : LaunchRow). r.class ≡ m) (take k rows)
  unfolding UsedUpto
  used_class k le m low = used_upto k le m low

module _ (g : LaunchGraph) (is : IsLaunchGraph g) where
  abbrev said_rows : List RowLine
  said_rows = map said_row g.rows

  -- a class that has a sort isn't wrong where that one is wanted
  pub no_wrong_class : (wanted : Sort) (class : ℕ) → ClassHasSort g wanted class → IsWrongClass (length g.rows) said_rows wanted class → ⊥
  no_wrong_class wanted class h (not_below high) = (let low : class < length g.rows = class_below g is wanted class h in omega arith)
  no_wrong_class wanted class h (no_row never) = never (said_class g.rows class (h.0, h.1, h.2, h.3, h.4.0))
  no_wrong_class wanted class h (other_sort {sort = sort} e apart) = apart (one_sort g is sort wanted class (sort_said g.rows class sort e) h)

  module _ (k : ℕ) (lt : k < length g.rows) where
    abbrev own_row : LaunchRow
    own_row = get_or g.rows k any_launch

    own_at : slice_get g.rows k ≡ Some own_row
    own_at = slice_get-get_or g.rows k any_launch lt

    abbrev front : List RowLine
    front = map said_row (take k g.rows)

    arity_here : length own_row.operands ≡ arity_of_op own_row.op
    arity_here = is.arities k any_launch lt

    -- an earlier row with the same operator
    earlier : (other : RowLine) → Contains front other → other.op ≡ said_op own_row.op own_row.name → Said g.rows k other × ((s : Said g.rows k other) → s.row_is.op ≡ own_row.op)
    earlier other has same = (
      said_among g.rows k other (omega arith) has,
      λ s. op_of s (same_said s.row_is.op own_row.op s.row_is.name own_row.name (ap (λ (r : RowLine). r.op) s.says ∙ same)),
    )
      where
        op_of : (s : Said g.rows k other) → SameSaid s.row_is.op own_row.op s.row_is.name own_row.name → s.row_is.op ≡ own_row.op
        op_of s (same_plain e) = e
        op_of s (same_use i j d e named) =
            ((is.same_name s.row_is own_row s.place k i j (s.there, own_at) d e).0
            ((is.same_name s.row_is own_row s.place k i j (s.there, own_at) d e).1 named)).1

    no_bad_row : IsBadRow front (said_row own_row) → ⊥
    no_bad_row (unknown_operator {word = word} e) = said_unknown own_row.op own_row.name word e
    no_bad_row (wrong_count {op = o} e apart) = apart (arity_here ∙ ap arity_of_op (said_plain own_row.op o own_row.name e).0)
    no_bad_row (repeated {other = other} has same operands_same) =
        let s = (earlier other has same).0 in
        let low : s.place < k = s.low in
        is.distinct s.place k any_launch low lt (
          ap (λ (r : LaunchRow). r.op) (get_or_from_slice_get g.rows s.place s.row_is any_launch s.there) ∙ (earlier other has same).1 s,
          ap (λ (r : LaunchRow). r.operands) (get_or_from_slice_get g.rows s.place s.row_is any_launch s.there)
              ∙ ap (λ (r : RowLine). r.operands) s.says ∙ operands_same,
        )
    no_bad_row (seventeenth_name {name = name} e many) =
        let few : length (names_upto g.rows (k + 1)) ≤ 16 = few_names g is (k + 1) (omega arith) in
        let same : ops_of (map said_row (take (k + 1) g.rows)) ≡ ops_of (front ++ said_row own_row ∷ []) =
        ap (λ xs. ops_of (map said_row xs)) (take_more g.rows k any_launch lt)
        ∙ ap ops_of (map_append said_row (take k g.rows) (own_row ∷ [])) in
        let n : length (names_upto g.rows (k + 1)) ≡ length (names_used [] (ops_of (front ++ said_row own_row ∷ []))) = ap (λ xs. length (names_used [] xs)) same in
        let more : 16 < length (names_used [] (ops_of (front ++ said_row own_row ∷ []))) = many in
        omega arith
    no_bad_row (use_of_none {name = name} e none) =
        let u = said_use own_row.op own_row.name name e in
        let a : arity_of_op own_row.op ≡ count_of u.arity = ap arity_of_op u.is in
        let r = count_range u.arity in
        let n : length own_row.operands ≡ arity_of_op own_row.op = arity_here in
        let z : length own_row.operands ≡ 0 = none in
        omega arith
    no_bad_row (use_of_many {name = name} e many) =
        let u = said_use own_row.op own_row.name name e in
        let a : arity_of_op own_row.op ≡ count_of u.arity = ap arity_of_op u.is in
        let r = count_range u.arity in
        let n : length own_row.operands ≡ arity_of_op own_row.op = arity_here in
        let z : 4 < length own_row.operands = many in
        omega arith
    no_bad_row (another_count {name = name} {other = other} e has same apart) =
        let both : other.op ≡ said_op own_row.op own_row.name = same ∙ sym e in
        let s = (earlier other has both).0 in
        apart (ap (λ (r : RowLine). length r.operands) (sym s.says)
        ∙ ap (λ (r : LaunchRow). length r.operands) (sym (get_or_from_slice_get g.rows s.place s.row_is any_launch s.there))
        ∙ is.arities s.place any_launch (slice_get_within g.rows s.place s.row_is s.there)
        ∙ ap (λ (r : LaunchRow). arity_of_op r.op) (get_or_from_slice_get g.rows s.place s.row_is any_launch s.there)
        ∙ ap arity_of_op ((earlier other has both).1 s) ∙ sym arity_here)

    no_bad_class : IsBadClass (length g.rows) said_rows front (said_row own_row) → ⊥
    no_bad_class (operand at class e wrong) =
        let within : at < length own_row.operands = slice_get_within own_row.operands at class e in
        no_wrong_class (sort_taken (said_op own_row.op own_row.name) at) class
        (subst (λ s. ClassHasSort g s class) (sym (said_taken own_row.op own_row.name at))
        (subst (ClassHasSort g (operand_sort own_row.op at)) (get_or_from_slice_get own_row.operands at class 0 e) (is.operands k any_launch lt at within)))
        wrong
    no_bad_class (own wrong) =
        no_wrong_class (sort_given (said_op own_row.op own_row.name)) own_row.class
        (subst (λ s. ClassHasSort g s own_row.class) (sym (said_given own_row.op own_row.name)) (own_sorts g is k any_launch lt)) wrong
    no_bad_class (second_constant {other = other} {m = m} {n = n} has same one two apart) =
        let s = said_among g.rows k other (omega arith) has in
        apart (is.constants s.row_is own_row s.place k m n (s.there, own_at)
        (ap (λ (r : RowLine). r.class) s.says ∙ same)
        (sym (said_constant s.row_is.op s.row_is.name) ∙ ap (λ (r : RowLine). line_constant r.op) s.says ∙ one)
        (sym (said_constant own_row.op own_row.name) ∙ two))
    no_bad_class (not_next never apart) =
        let bound : own_row.class ≤ next_class (take k g.rows) = is.classes k own_row own_at in
        let n : next_line_class front ≡ next_class (take k g.rows) = next_said (take k g.rows) in
        elim (cases_eq own_row.class (next_class (take k g.rows))) [
          | inl same ↦ apart (same ∙ sym n)
          | inr less ↦ never (said_class (take k g.rows) own_row.class (used_class g.rows is.classes k (omega arith) own_row.class (omega arith)))
        ]

  -- each row is right behind those before it
  pub good_rows : (i : ℕ) (d : RowLine) → i < length said_rows → IsGoodRow (length g.rows) said_rows (take i said_rows) (get_or said_rows i d)
  good_rows i d lt =
      let n : length said_rows ≡ length g.rows = map_count said_row g.rows in
      let low : i < length g.rows = omega arith in
      subst (λ rs. IsGoodRow (length g.rows) said_rows rs (get_or said_rows i d)) (sym (map_take said_row i g.rows))
      (subst (IsGoodRow (length g.rows) said_rows (map said_row (take i g.rows))) (sym (map_get said_row i g.rows d any_launch low))
      (record { row_is = no_bad_row i low; class_is = no_bad_class i low }))
