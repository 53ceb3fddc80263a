-- One more row is numbered.
use Rattle.std.proofs.Common.{◌≡◌, ◌≢◌, ℕ, zero, suc, ◌+◌, ◌<◌, ◌≤◌, List, [], ◌∷◌, ◌++◌, length, map, take, refl, sym, ap, subst, ◌∙◌, arith, inl, inr, ◌⊎◌, max, Some, None}
use Rattle.std.specs.Prelude.{slice_get, IsTrue, is_some}
use Rattle.std.proofs.lemmas.List.{length_push, take-append-le, take_all}
use Rattle.std.proofs.lemmas.List.Elements.{All-push, All-get_or}
use Rattle.std.proofs.lemmas.List.Sums.{fold-append}
use Rattle.std.proofs.lemmas.Option.{same_Some, none-some, get_or_from_slice_get, slice_get_within}
use Rattle.word_ops.specs.Meanings.{arity_of_op}
use Rattle.word_ops.specs.declared.sorts.Op.{Op}
use Rattle.word_ops.specs.declared.sorts.Op.TheVariants.{Entry, Input, Constant, Word, Select, Store, Load, Put, Declared}
use Rattle.graph_meaning.specs.declared.graphs.LaunchRow.{LaunchRow}
use Rattle.launch_graph.specs.declared.index.RowKey.{RowKey}
use Rattle.launch_graph.specs.declared.numbering.UsedName.{UsedName}
use Rattle.launch_graph.specs.declared.row_lines.LineOp.TheVariants.{Plain, Use}
use Rattle.launch_graph.specs.declared.row_lines.RowLine.{RowLine}
use Rattle.launch_graph.specs.GraphLines.{said_row, said_op}
use Rattle.launch_graph.specs.RowLines.{IsLineOp}
use Rattle.launch_graph.specs.RowsRead.{line_op_name}
use Rattle.launch_graph.specs.Numbering.{IsNumberedOp, plain, again, anew, row_key, IsNumberedRow, AreNumbered}
use Rattle.graph_meaning.specs.WellFormed.{next_index, next_after, declared_index}
use Rattle.launch_graph.proofs.GoodGraphs.{map_append}
use Rattle.launch_graph.proofs.NumberedRows.{names_then, few_then, arity_then}
use Rattle.launch_graph.proofs.Rows.{same_row}

pub get_left : {X : Type 0} (xs ys : List X) (k : ℕ) (x : X) → slice_get xs k ≡ Some x → slice_get (xs ++ ys) k ≡ Some x
get_left [] ys k x e = absurd (none-some x e)
get_left (y ∷ xs) ys zero x e = e
get_left (y ∷ xs) ys (suc k) x e = get_left xs ys k x e

pub get_last : {X : Type 0} (xs : List X) (y : X) (k : ℕ) → k ≡ length xs → slice_get (xs ++ y ∷ []) k ≡ Some y
get_last [] y zero e = refl
get_last [] y (suc k) e = absurd (omega arith)
get_last (x ∷ xs) y zero e = absurd (omega arith)
get_last (x ∷ xs) y (suc k) e = get_last xs y k (omega arith)

get_back : {X : Type 0} (xs : List X) (y x : X) (k : ℕ) → slice_get (xs ++ y ∷ []) k ≡ Some x → (slice_get xs k ≡ Some x) ⊎ ((k ≡ length xs) × (y ≡ x))
get_back [] y x zero e = inr (refl, same_Some y x e)
get_back [] y x (suc k) e = absurd (none-some x e)
get_back (z ∷ xs) y x zero e = inl e
get_back (z ∷ xs) y x (suc k) e = elim (get_back xs y x k e) [ inl a ↦ inl a | inr b ↦ inr (ap suc b.0, b.1) ]

module _ (before : List RowLine) (used : List UsedName) (keys : List RowKey) (built : List LaunchRow) (h : AreNumbered before used keys built)
    (row : RowLine) (fine : IsLineOp row.op) (more : List UsedName) (op : Op) (n : IsNumberedOp used more row.op (length row.operands) op) where
  -- what was used is used
  pub still : (k : ℕ) (one : UsedName) → slice_get used k ≡ Some one → slice_get more k ≡ Some one
  still k one e = by_case n
    where
      by_case : IsNumberedOp used more row.op (length row.operands) op → slice_get more k ≡ Some one
      by_case (plain f c m) = ap (λ us. slice_get us k) m ∙ e
      by_case (again f lt there named c o m) = ap (λ us. slice_get us k) m ∙ e
      by_case (anew {one = last} f unused few named c o m) = ap (λ us. slice_get us k) m ∙ get_left used (last ∷ []) k one e

  pub not_declared : (p : Op) → IsLineOp (Plain p) → declared_index p ≡ None
  not_declared Entry f = refl
  not_declared (Input r) f = refl
  not_declared (Constant c) f = refl
  not_declared (Word v) f = refl
  not_declared (Select access) f = refl
  not_declared (Store access) f = refl
  not_declared (Load access) f = refl
  not_declared (Put access) f = refl
  not_declared (Declared i a) f = absurd f

  pub plain_said : (p : Op) → IsLineOp (Plain p) → said_op p [] ≡ Plain p
  plain_said Entry f = refl
  plain_said (Input r) f = refl
  plain_said (Constant c) f = refl
  plain_said (Word v) f = refl
  plain_said (Select access) f = refl
  plain_said (Store access) f = refl
  plain_said (Load access) f = refl
  plain_said (Put access) f = refl
  plain_said (Declared i a) f = absurd f

  op_said : IsNumberedOp used more row.op (length row.operands) op → said_op op (line_op_name row.op) ≡ row.op
  op_said (plain e c m) = ap (λ l. said_op op (line_op_name l)) e ∙ plain_said op (subst IsLineOp e fine) ∙ sym e
  op_said (again {name = name} e lt there named c o m) = ap (λ p. said_op p (line_op_name row.op)) o ∙ ap Use (ap line_op_name e) ∙ sym e
  op_said (anew {name = name} e unused few named c o m) = ap (λ p. said_op p (line_op_name row.op)) o ∙ ap Use (ap line_op_name e) ∙ sym e

  -- the number of a declared operator of the row, with its name
  own_number : IsNumberedOp used more row.op (length row.operands) op → (k : ℕ) → declared_index op ≡ Some k
      → (one : UsedName) × (slice_get more k ≡ Some one) × (op ≡ Declared k one.arity) × (line_op_name row.op ≡ one.name) × (k ≤ length used)
  own_number (plain e c m) k d = absurd (none-some k (sym (not_declared op (subst IsLineOp e fine)) ∙ d))
  own_number (again {at = at} {one = one} e lt there named c o m) k d =
      let same : at ≡ k = same_Some at k (sym (ap declared_index o) ∙ d) in
      (one, still k one (ap (slice_get used) (sym same) ∙ there), o ∙ ap (λ i. Declared i one.arity) same, ap line_op_name e ∙ sym named, omega arith)
  own_number (anew {one = one} e unused few named c o m) k d =
      let same : length used ≡ k = same_Some (length used) k (sym (ap declared_index o) ∙ d) in
      (one, ap (λ us. slice_get us k) m ∙ get_last used one k (sym same), o ∙ ap (λ i. Declared i one.arity) same, ap line_op_name e ∙ sym named, omega arith)

  unnamed_or : IsNumberedOp used more row.op (length row.operands) op → (line_op_name row.op ≡ []) ⊎ IsTrue (is_some (declared_index op))
  unnamed_or (plain e c m) = inl (ap line_op_name e)
  unnamed_or (again e lt there named c o m) = inr (ap (λ p. is_some (declared_index p)) o)
  unnamed_or (anew e unused few named c o m) = inr (ap (λ p. is_some (declared_index p)) o)

  distinct_then : IsNumberedOp used more row.op (length row.operands) op → (i j : ℕ) (one other : UsedName) → slice_get more i ≡ Some one → slice_get more j ≡ Some other
      → one.name ≡ other.name → i ≡ j
  distinct_then (plain e c m) i j one other a b same = h.distinct i j one other (ap (λ us. slice_get us i) (sym m) ∙ a) (ap (λ us. slice_get us j) (sym m) ∙ b) same
  distinct_then (again e lt there named c o m) i j one other a b same = h.distinct i j one other (ap (λ us. slice_get us i) (sym m) ∙ a) (ap (λ us. slice_get us j) (sym m) ∙ b) same
  distinct_then (anew {name = name} {one = last} e unused few named c o m) i j one other a b same =
      by_case (get_back used last one i (ap (λ us. slice_get us i) (sym m) ∙ a)) (get_back used last other j (ap (λ us. slice_get us j) (sym m) ∙ b))
    where
      is_unused : (k : ℕ) (x : UsedName) → slice_get used k ≡ Some x → x.name ≢ name
      is_unused k x e f =
          All-get_or (λ (u : UsedName). u.name ≢ name) used k x (slice_get_within used k x e) unused
          (ap (λ (u : UsedName). u.name) (get_or_from_slice_get used k x x e) ∙ f)

      by_case : (slice_get used i ≡ Some one) ⊎ ((i ≡ length used) × (last ≡ one)) → (slice_get used j ≡ Some other) ⊎ ((j ≡ length used) × (last ≡ other)) → i ≡ j
      by_case (inl x) (inl y) = h.distinct i j one other x y same
      by_case (inl x) (inr y) = absurd (is_unused i one x (same ∙ ap (λ (u : UsedName). u.name) (sym y.1) ∙ named))
      by_case (inr x) (inl y) = absurd (is_unused j other y (sym same ∙ ap (λ (u : UsedName). u.name) (sym x.1) ∙ named))
      by_case (inr x) (inr y) = x.0 ∙ sym y.0

  next_then : IsNumberedOp used more row.op (length row.operands) op → max (next_index built) (next_after (declared_index op)) ≡ length more
  next_then (plain e c m) =
      let z : next_after (declared_index op) ≡ 0 = ap next_after (not_declared op (subst IsLineOp e fine)) in
      let l : length more ≡ length used = ap length m in
      let k = h.next_is in
      omega arith
  next_then (again {at = at} e lt there named c o m) =
      let z : next_after (declared_index op) ≡ at + 1 = ap (λ p. next_after (declared_index p)) o in
      let l : length more ≡ length used = ap length m in
      let k = h.next_is in
      omega arith
  next_then (anew {one = last} e unused few named c o m) =
      let z : next_after (declared_index op) ≡ length used + 1 = ap (λ p. next_after (declared_index p)) o in
      let l : length more ≡ length (used ++ last ∷ []) = ap length m in
      let q : length (used ++ last ∷ []) ≡ length used + 1 = length_push used last in
      let k = h.next_is in
      omega arith

  module _ (made : LaunchRow) (class_is : made.class ≡ row.class) (op_is : made.op ≡ op) (name_is : made.name ≡ line_op_name row.op) (operands_are : made.operands ≡ row.operands)
      (keys' : List RowKey) (keys_is : keys' ≡ keys ++ row_key op row.operands ∷ []) where
    said_made : said_row made ≡ row
    said_made =
        same_row (said_row made) row class_is
        (ap (λ p. said_op p made.name) op_is ∙ ap (said_op op) name_is ∙ op_said n) operands_are

    numbered_row : (i k : ℕ) (r : LaunchRow) → slice_get (built ++ made ∷ []) i ≡ Some r → declared_index r.op ≡ Some k
        → IsNumberedRow more (take i (built ++ made ∷ [])) r k
    numbered_row i k r at d = elim (get_back built made r i at) [
      | inl old ↦
          (let d' = h.declared_are i k r old d in
          let lt : i < length built = slice_get_within built i r old in
          record {
            one = d'.one;
            there = still k d'.one d'.there;
            op_is = d'.op_is;
            name_is = d'.name_is;
            next_is = subst (λ rs. k ≤ next_index rs) (sym (take-append-le i built (made ∷ []) (omega arith))) d'.next_is;
          })
      | inr last ↦
          (let same : made ≡ r = last.1 in
          let own = own_number n k (sym (ap declared_index op_is) ∙ ap (λ (x : LaunchRow). declared_index x.op) same ∙ d) in
          let room : k ≤ length used = own.4 in
          let bound : k ≤ next_index built = (let q = h.next_is in omega arith) in
          record {
            one = own.0;
            there = own.1;
            op_is = ap (λ (x : LaunchRow). x.op) (sym same) ∙ op_is ∙ own.2;
            name_is = ap (λ (x : LaunchRow). x.name) (sym same) ∙ name_is ∙ own.3;
            next_is =
                subst (λ rs. k ≤ next_index rs)
                (sym (take-append-le i built (made ∷ []) (let e : i ≡ length built = last.0 in omega arith)
                ∙ take_all i built (let e : i ≡ length built = last.0 in omega arith)))
                bound;
          })
    ]

    used_then : IsNumberedOp used more row.op (length row.operands) op → (k : ℕ) (one : UsedName) → slice_get more k ≡ Some one
        → (i : ℕ) × (r : LaunchRow) × (slice_get (built ++ made ∷ []) i ≡ Some r) × (declared_index r.op ≡ Some k)
    used_then (plain e c m) k one at =
        let u = h.used_are k one (ap (λ us. slice_get us k) (sym m) ∙ at) in
        (u.0, u.1, get_left built (made ∷ []) u.0 u.1 u.2, u.3)
    used_then (again e lt there named c o m) k one at =
        let u = h.used_are k one (ap (λ us. slice_get us k) (sym m) ∙ at) in
        (u.0, u.1, get_left built (made ∷ []) u.0 u.1 u.2, u.3)
    used_then (anew {one = last} e unused few named c o m) k one at = elim (get_back used last one k (ap (λ us. slice_get us k) (sym m) ∙ at)) [
      | inl old ↦ (let u = h.used_are k one old in (u.0, u.1, get_left built (made ∷ []) u.0 u.1 u.2, u.3))
      | inr new ↦ (length built, made, get_last built made (length built) refl, ap declared_index (op_is ∙ o) ∙ ap Some (sym new.0))
    ]

    pub numbered_more : AreNumbered (before ++ row ∷ []) more keys' (built ++ made ∷ [])
    numbered_more =
        record {
          said_are = map_append said_row built (made ∷ []) ∙ ap (λ rs. rs ++ said_row made ∷ []) h.said_are ∙ ap (λ (r : RowLine). before ++ r ∷ []) said_made;
          keys_are =
              keys_is ∙ ap (λ ks. ks ++ row_key op row.operands ∷ []) h.keys_are
              ∙ ap (λ (k : RowKey). map (λ (r : LaunchRow). row_key r.op r.operands) built ++ k ∷ []) (sym (ap (λ p. row_key p made.operands) op_is ∙ ap (row_key op) operands_are))
              ∙ sym (map_append (λ (r : LaunchRow). row_key r.op r.operands) built (made ∷ []));
          declared_are = numbered_row;
          unnamed =
              All-push (λ (r : LaunchRow). (r.name ≡ []) ⊎ IsTrue (is_some (declared_index r.op))) built made h.unnamed
              (subst (λ m. (m ≡ []) ⊎ IsTrue (is_some (declared_index made.op))) (sym name_is)
              (subst (λ p. (line_op_name row.op ≡ []) ⊎ IsTrue (is_some (declared_index p))) (sym op_is) (unnamed_or n)));
          arities =
              All-push (λ (r : LaunchRow). length r.operands ≡ arity_of_op r.op) built made h.arities
              (ap length operands_are ∙ arity_then before used keys built h more row.op op (length row.operands) n ∙ ap arity_of_op (sym op_is));
          distinct = distinct_then n;
          next_is =
              fold-append (λ k (r : LaunchRow). max k (next_after (declared_index r.op))) 0 built (made ∷ [])
              ∙ ap (λ p. max (next_index built) (next_after (declared_index p))) op_is ∙ next_then n;
          few = few_then before used keys built h more row.op op (length row.operands) n;
          names_are = sym (names_then before used keys built h row more op (length row.operands) n);
          used_are = used_then n;
        }
