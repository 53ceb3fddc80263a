-- Rows that are numbered one by one: when a row is bad, and the graph that they make.
use Rattle.std.proofs.Common.{◌≡◌, ◌≢◌, ℕ, zero, suc, ◌+◌, ◌<◌, ◌≤◌, List, [], ◌∷◌, ◌++◌, length, get_or, refl, sym, ap, ◌∙◌, arith, inl, inr, ◌⊎◌, Some}
use Rattle.std.specs.Prelude.{Contains, slice_get}
use Rattle.std.proofs.lemmas.List.{length_push}
use Rattle.std.proofs.lemmas.List.Elements.{All-get_or, All-head, All-tail}
use Rattle.std.proofs.lemmas.Option.{slice_get-get_or, same_Some, none-some, get_or_from_slice_get, slice_get_within}
use Rattle.word_ops.specs.Meanings.{arity_of_op, count_of}
use Rattle.word_ops.specs.declared.sorts.Arity.{Arity}
use Rattle.word_ops.specs.declared.sorts.Arity.TheVariants as arities
use Rattle.word_ops.specs.declared.sorts.Op.{Op}
use Rattle.word_ops.specs.declared.sorts.Op.TheVariants.{Entry, Input, Constant, Word, Select, Store, Load, Put, Declared}
use Rattle.graph_meaning.specs.declared.graphs.LaunchRow.{LaunchRow}
use Rattle.launch_graph.specs.declared.index.RowKey.{RowKey}
use Rattle.launch_graph.specs.declared.numbering.UsedName.{UsedName}
use Rattle.launch_graph.specs.declared.row_lines.LineOp.{LineOp}
use Rattle.launch_graph.specs.declared.row_lines.LineOp.TheVariants.{Plain, Use, Unknown}
use Rattle.launch_graph.specs.declared.row_lines.RowLine.{RowLine}
use Rattle.launch_graph.specs.GraphLines.{said_row, said_op}
use Rattle.launch_graph.specs.RowFaults.{IsBadRow, unknown_operator, wrong_count, repeated, seventeenth_name, use_of_none, use_of_many, another_count, names_used, ops_of}
use Rattle.launch_graph.specs.Numbering.{names_of, IsUnused, IsNumberedOp, plain, again, anew, HasNoNumber, unknown, wrong_arity, no_arity, other_arity, too_many, row_key, AreNumbered}
use Rattle.graph_meaning.specs.WellFormed.{declared_index}
use Rattle.launch_graph.proofs.GoodGraphs.{name_step, names_push, step_known, step_new, map_append, map_get, any_launch}
use Rattle.launch_graph.proofs.Printed.{map_count}

-- ---- arities

count_low : (a : Arity) → (1 ≤ count_of a) × (count_of a ≤ 4)
count_low arities.One = (omega arith, omega arith)
count_low arities.Two = (omega arith, omega arith)
count_low arities.Three = (omega arith, omega arith)
count_low arities.Four = (omega arith, omega arith)

-- a count that is no arity's is none or above four
no_count : (count : ℕ) → ((a : Arity) → count_of a ≢ count) → (count ≡ 0) ⊎ (4 < count)
no_count zero h = inl refl
no_count (suc zero) h = absurd (h arities.One refl)
no_count (suc (suc zero)) h = absurd (h arities.Two refl)
no_count (suc (suc (suc zero))) h = absurd (h arities.Three refl)
no_count (suc (suc (suc (suc zero)))) h = absurd (h arities.Four refl)
no_count (suc (suc (suc (suc (suc n))))) h = inr (omega arith)

-- ---- lists

get_names : (used : List UsedName) (m : ℕ) (one : UsedName) → slice_get used m ≡ Some one → get_or (names_of used) m [] ≡ one.name
get_names [] m one e = absurd (none-some one e)
get_names (u ∷ used) zero one e = ap (λ (x : UsedName). x.name) (same_Some u one e)
get_names (u ∷ used) (suc m) one e = get_names used m one e

names_count : (used : List UsedName) → length (names_of used) ≡ length used
names_count [] = refl
names_count (u ∷ used) = ap suc (names_count used)

-- no name among those used
unused_apart : (used : List UsedName) (name : List ℕ) → IsUnused used name → (m : ℕ) → m < length (names_of used) → get_or (names_of used) m [] ≢ name
unused_apart [] name h m lt e = absurd (omega arith)
unused_apart (u ∷ used) name h zero lt e = All-head (λ (x : UsedName). x.name ≢ name) u used h e
unused_apart (u ∷ used) name h (suc m) lt e = unused_apart used name (All-tail (λ (x : UsedName). x.name ≢ name) u used h) m (omega arith) e

module _ (before : List RowLine) (used : List UsedName) (keys : List RowKey) (built : List LaunchRow) (h : AreNumbered before used keys built) where
  pub counted : length built ≡ length before
  counted = sym (map_count said_row built) ∙ ap length h.said_are

  -- a row before is one of those built
  pub built_row : (other : RowLine) → Contains before other → (k : ℕ) × (r : LaunchRow) × (slice_get built k ≡ Some r) × (said_row r ≡ other)
  built_row other has =
      let n : length built ≡ length before = counted in
      let lt : has.0 < length before = has.1 in
      let at : slice_get built has.0 ≡ Some (get_or built has.0 any_launch) = slice_get-get_or built has.0 any_launch (omega arith) in (
        has.0,
        get_or built has.0 any_launch,
        at,
        sym (map_get said_row has.0 built other any_launch (omega arith)) ∙ ap (λ rs. get_or rs has.0 other) h.said_are ∙ has.2,
      )

  names_now : names_used [] (ops_of before) ≡ names_of used
  names_now = sym h.names_are

  names_with : (row : RowLine) → names_used [] (ops_of (before ++ row ∷ [])) ≡ name_step (names_of used) row.op
  names_with row =
      ap (names_used []) (map_append (λ (r : RowLine). r.op) before (row ∷ []))
      ∙ names_push [] (ops_of before) row.op ∙ ap (λ ns. name_step ns row.op) names_now

  -- a row built with the name has the number of the name
  use_built : (r : LaunchRow) (k : ℕ) (name : List ℕ) → slice_get built k ≡ Some r → said_op r.op r.name ≡ Use name
      → (n : ℕ) × (one : UsedName) × (slice_get used n ≡ Some one) × (one.name ≡ name) × (r.op ≡ Declared n one.arity)
  use_built r k name at e = by_op r.op refl
    where
      use_same : (a b : List ℕ) → Use a ≡ Use b → a ≡ b
      use_same a b e = cc

      by_op : (o : Op) → r.op ≡ o → (n : ℕ) × (one : UsedName) × (slice_get used n ≡ Some one) × (one.name ≡ name) × (r.op ≡ Declared n one.arity)
      by_op (Declared i a) is =
          let d = h.declared_are k i r at (ap declared_index is) in
          (i, d.one, d.there, sym d.name_is ∙ use_same r.name name (ap (λ o. said_op o r.name) (sym is) ∙ e), d.op_is)
      by_op Entry is = absurd (let f : Plain Entry ≡ Use name = ap (λ o. said_op o r.name) (sym is) ∙ e in cc)
      by_op (Input q) is = absurd (let f : Plain (Input q) ≡ Use name = ap (λ o. said_op o r.name) (sym is) ∙ e in cc)
      by_op (Constant q) is = absurd (let f : Plain (Constant q) ≡ Use name = ap (λ o. said_op o r.name) (sym is) ∙ e in cc)
      by_op (Word q) is = absurd (let f : Plain (Word q) ≡ Use name = ap (λ o. said_op o r.name) (sym is) ∙ e in cc)
      by_op (Select access) is = absurd (let f : Plain (Select access) ≡ Use name = ap (λ o. said_op o r.name) (sym is) ∙ e in cc)
      by_op (Store access) is = absurd (let f : Plain (Store access) ≡ Use name = ap (λ o. said_op o r.name) (sym is) ∙ e in cc)
      by_op (Load access) is = absurd (let f : Plain (Load access) ≡ Use name = ap (λ o. said_op o r.name) (sym is) ∙ e in cc)
      by_op (Put access) is = absurd (let f : Plain (Put access) ≡ Use name = ap (λ o. said_op o r.name) (sym is) ∙ e in cc)

  -- a row that has no number is bad
  pub bad_of : (row : RowLine) → HasNoNumber used row.op (length row.operands) → IsBadRow before row
  bad_of row (unknown e) = unknown_operator e
  bad_of row (wrong_arity e apart) = wrong_count e apart
  bad_of row (no_arity e never) = elim (no_count (length row.operands) never) [ inl none ↦ use_of_none e none | inr many ↦ use_of_many e many ]
  bad_of row (other_arity {name = name} {at = at} {one = one} e lt there named apart) =
      let u = h.used_are at one there in
      let d = h.declared_are u.0 at u.1 u.2 u.3 in
      let same_one : d.one ≡ one = same_Some d.one one (sym d.there ∙ there) in
      let said : said_op u.1.op u.1.name ≡ Use name =
      ap (λ o. said_op o u.1.name) d.op_is ∙ ap Use (d.name_is ∙ ap (λ (x : UsedName). x.name) same_one ∙ named) in
      let counts : length u.1.operands ≡ count_of one.arity =
      ap (λ (r : LaunchRow). length r.operands) (sym (get_or_from_slice_get built u.0 u.1 any_launch u.2))
      ∙ h.arities u.0 any_launch (slice_get_within built u.0 u.1 u.2)
      ∙ ap (λ (r : LaunchRow). arity_of_op r.op) (get_or_from_slice_get built u.0 u.1 any_launch u.2)
      ∙ ap arity_of_op d.op_is ∙ ap (λ (x : UsedName). count_of x.arity) same_one in
      another_count e (contains_said u.0 u.1 u.2) said (λ f. apart (sym counts ∙ f))
    where
      contains_said : (k : ℕ) (r : LaunchRow) → slice_get built k ≡ Some r → Contains before (said_row r)
      contains_said k r at =
          let n : length built ≡ length before = counted in
          let lt : k < length built = slice_get_within built k r at in (
            k,
            omega arith,
            ap (λ rs. get_or rs k (said_row r)) (sym h.said_are) ∙ map_get said_row k built (said_row r) any_launch lt
                ∙ ap said_row (get_or_from_slice_get built k r any_launch at),
          )
  bad_of row (too_many {name = name} e unused many) =
      seventeenth_name e
      (let names : names_used [] (ops_of (before ++ row ∷ [])) ≡ names_of used ++ name ∷ [] =
      names_with row ∙ ap (name_step (names_of used)) e ∙ step_new (names_of used) name (unused_apart used name unused) in
      let n : length (names_used [] (ops_of (before ++ row ∷ []))) ≡ length (names_of used ++ name ∷ []) = ap length names in
      let m : length (names_of used ++ name ∷ []) ≡ length (names_of used) + 1 = length_push (names_of used) name in
      let k : length (names_of used) ≡ length used = names_count used in
      omega arith)

  -- the names with a row that has a number
  pub names_then : (row : RowLine) (more : List UsedName) (op : Op) (count : ℕ) → IsNumberedOp used more row.op count op
      → names_used [] (ops_of (before ++ row ∷ [])) ≡ names_of more
  names_then row more op count (plain e c m) = names_with row ∙ ap (name_step (names_of used)) e ∙ ap names_of (sym m)
  names_then row more op count (again {name = name} {at = at} {one = one} e lt there named c o m) =
      names_with row ∙ ap (name_step (names_of used)) e
      ∙ step_known (names_of used) name at (let k : length (names_of used) ≡ length used = names_count used in omega arith) (get_names used at one there ∙ named)
      ∙ ap names_of (sym m)
  names_then row more op count (anew {name = name} {one = one} e unused few named c o m) =
      names_with row ∙ ap (name_step (names_of used)) e ∙ step_new (names_of used) name (unused_apart used name unused)
      ∙ ap (λ n. names_of used ++ n ∷ []) (sym named) ∙ sym (map_append (λ (u : UsedName). u.name) used (one ∷ [])) ∙ ap names_of (sym m)

  pub few_then : (more : List UsedName) (line : LineOp) (op : Op) (count : ℕ) → IsNumberedOp used more line count op → length more ≤ 16
  few_then more line op count (plain e c m) = (let n : length more ≡ length used = ap length m in let f = h.few in omega arith)
  few_then more line op count (again e lt there named c o m) = (let n : length more ≡ length used = ap length m in let f = h.few in omega arith)
  few_then more line op count (anew {one = one} e unused few named c o m) =
      (let n : length more ≡ length (used ++ one ∷ []) = ap length m in let k : length (used ++ one ∷ []) ≡ length used + 1 = length_push used one in omega arith)

  pub arity_then : (more : List UsedName) (line : LineOp) (op : Op) (count : ℕ) → IsNumberedOp used more line count op → count ≡ arity_of_op op
  arity_then more line op count (plain e c m) = c
  arity_then more line op count (again e lt there named c o m) = sym c ∙ sym (ap arity_of_op o)
  arity_then more line op count (anew e unused few named c o m) = sym c ∙ sym (ap arity_of_op o)

  -- a row built before that says the same operator has it
  same_op : (more : List UsedName) (line : LineOp) (op : Op) (count : ℕ) → IsNumberedOp used more line count op
      → (k : ℕ) (r : LaunchRow) → slice_get built k ≡ Some r → said_op r.op r.name ≡ line → r.op ≡ op
  same_op more line op count (plain e c m) k r at said = plain_of r.op (said ∙ e)
    where
      plain_of : (o : Op) → said_op o r.name ≡ Plain op → o ≡ op
      plain_of (Declared i a) e = cc
      plain_of Entry e = cc
      plain_of (Input q) e = cc
      plain_of (Constant q) e = cc
      plain_of (Word q) e = cc
      plain_of (Select access) e = cc
      plain_of (Store access) e = cc
      plain_of (Load access) e = cc
      plain_of (Put access) e = cc
  same_op more line op count (again {name = name} {at = at} {one = one} e lt there named c o m) k r at_k said =
      let u = use_built r k name at_k (said ∙ e) in
      let number : u.0 ≡ at = h.distinct u.0 at u.1 one u.2 there (u.3 ∙ sym named) in
      let same_one : u.1 ≡ one = same_Some u.1 one (sym u.2 ∙ ap (slice_get used) number ∙ there) in
      u.4 ∙ ap (λ n. Declared n u.1.arity) number ∙ ap (λ (x : UsedName). Declared at x.arity) same_one ∙ sym o
  same_op more line op count (anew {name = name} {one = one} e unused few named c o m) k r at_k said =
      let u = use_built r k name at_k (said ∙ e) in
      absurd (All-get_or (λ (x : UsedName). x.name ≢ name) used u.0 u.1 (slice_get_within used u.0 u.1 u.2) unused
      (ap (λ (x : UsedName). x.name) (get_or_from_slice_get used u.0 u.1 u.1 u.2) ∙ u.3))

  -- a row with a number and a key of its own is right
  pub good_of : (row : RowLine) (more : List UsedName) (op : Op) → IsNumberedOp used more row.op (length row.operands) op
      → (Contains keys (row_key op row.operands) → ⊥) → IsBadRow before row → ⊥
  good_of row more op n fresh (unknown_operator {word = word} e) = never_unknown n e
    where
      never_unknown : IsNumberedOp used more row.op (length row.operands) op → row.op ≡ Unknown word → ⊥
      never_unknown (plain f c m) e = (let k = sym f ∙ e in cc)
      never_unknown (again f lt there named c o m) e = (let k = sym f ∙ e in cc)
      never_unknown (anew f unused few named c o m) e = (let k = sym f ∙ e in cc)
  good_of row more op n fresh (wrong_count {op = p} e apart) = never_wrong n e
    where
      never_wrong : IsNumberedOp used more row.op (length row.operands) op → row.op ≡ Plain p → ⊥
      never_wrong (plain f c m) e = apart (c ∙ ap arity_of_op (let k : op ≡ p = (let i = sym f ∙ e in cc) in k))
      never_wrong (again f lt there named c o m) e = (let k = sym f ∙ e in cc)
      never_wrong (anew f unused few named c o m) e = (let k = sym f ∙ e in cc)
  good_of row more op n fresh (repeated {other = other} has same operands_same) =
      let b = built_row other has in
      let lt : b.0 < length built = slice_get_within built b.0 b.1 b.2 in
      let o : b.1.op ≡ op = same_op more row.op op (length row.operands) n b.0 b.1 b.2 (ap (λ (r : RowLine). r.op) b.3 ∙ same) in
      let key : row_key b.1.op b.1.operands ≡ row_key op row.operands =
      ap (λ x. row_key x b.1.operands) o ∙ ap (row_key op) (ap (λ (r : RowLine). r.operands) b.3 ∙ operands_same) in
      let size : length keys ≡ length built = ap length h.keys_are ∙ map_count (λ (r : LaunchRow). row_key r.op r.operands) built in
      fresh (
        b.0,
        omega arith,
        ap (λ ks. get_or ks b.0 (row_key op row.operands)) h.keys_are
            ∙ map_get (λ (r : LaunchRow). row_key r.op r.operands) b.0 built (row_key op row.operands) any_launch lt
            ∙ ap (λ (r : LaunchRow). row_key r.op r.operands) (get_or_from_slice_get built b.0 b.1 any_launch b.2) ∙ key,
      )
  good_of row more op n fresh (seventeenth_name {name = name} e many) =
      let names : length (names_used [] (ops_of (before ++ row ∷ []))) ≡ length (names_of more) = ap length (names_then row more op (length row.operands) n) in
      let few : length more ≤ 16 = few_then more row.op op (length row.operands) n in
      let k : length (names_of more) ≡ length more = names_count more in
      omega arith
  good_of row more op n fresh (use_of_none {name = name} e none) = never_none n e
    where
      never_none : IsNumberedOp used more row.op (length row.operands) op → row.op ≡ Use name → ⊥
      never_none (plain f c m) e = (let k = sym f ∙ e in cc)
      never_none (again {one = one} f lt there named c o m) e = (let r = count_low one.arity in let z = none in omega (arith, r.0, c, z))
      never_none (anew {one = one} f unused few named c o m) e = (let r = count_low one.arity in let z = none in omega (arith, r.0, c, z))
  good_of row more op n fresh (use_of_many {name = name} e many) = never_many n e
    where
      never_many : IsNumberedOp used more row.op (length row.operands) op → row.op ≡ Use name → ⊥
      never_many (plain f c m) e = (let k = sym f ∙ e in cc)
      never_many (again {one = one} f lt there named c o m) e = (let r = count_low one.arity in let z = many in omega (arith, r.1, c, z))
      never_many (anew {one = one} f unused few named c o m) e = (let r = count_low one.arity in let z = many in omega (arith, r.1, c, z))
  good_of row more op n fresh (another_count {name = name} {other = other} e has same apart) =
      let b = built_row other has in
      let o : b.1.op ≡ op = same_op more row.op op (length row.operands) n b.0 b.1 b.2 (ap (λ (r : RowLine). r.op) b.3 ∙ same ∙ sym e) in
      apart (ap (λ (r : RowLine). length r.operands) (sym b.3)
      ∙ ap (λ (r : LaunchRow). length r.operands) (sym (get_or_from_slice_get built b.0 b.1 any_launch b.2))
      ∙ h.arities b.0 any_launch (slice_get_within built b.0 b.1 b.2)
      ∙ ap (λ (r : LaunchRow). arity_of_op r.op) (get_or_from_slice_get built b.0 b.1 any_launch b.2)
      ∙ ap arity_of_op o ∙ sym (arity_then more row.op op (length row.operands) n))
