-- The lines of a well-formed graph are right.
use Rattle.std.proofs.Common.{◌≡◌, ◌≢◌, ℕ, zero, suc, ◌+◌, ◌<◌, ◌≤◌, List, [], ◌∷◌, ◌++◌, length, map, take, get_or, refl, sym, ap, subst, ◌∙◌, arith, inl, inr, max, Bool, true, false, cond, Some, None}
use Rattle.std.specs.Prelude.{Contains, slice_get, bytes_eq, if◌then◌else◌}
use Rattle.std.specs.List.{list_any}
use Rattle.std.proofs.lemmas.Bool.{cases_eq, cases_lt}
use Rattle.std.proofs.lemmas.Slice.Eq.{bytes_eq-Decides}
use Rattle.std.proofs.lemmas.List.Elements.{All-from_get_or}
use Rattle.std.proofs.lemmas.List.Folds.{list_any_at, list_any_none}
use Rattle.std.proofs.lemmas.List.Sums.{fold-append}
use Rattle.std.proofs.lemmas.List.{length_push, get_or_append_left, get_or_push, take_more, get_or-take, length-take-le}
use Rattle.std.proofs.lemmas.Option.{slice_get-get_or, same_Some, none-some}
use Rattle.word_ops.specs.Meanings.{sort_of, operand_sort, constant_in}
use Rattle.word_ops.specs.declared.sorts.Arity.{Arity}
use Rattle.word_ops.specs.declared.sorts.Op.{Op}
use Rattle.word_ops.specs.declared.sorts.Op.TheVariants.{Entry, Input, Constant, Word, Select, Store, Load, Put, Declared}
use Rattle.graph_meaning.specs.declared.graphs.LaunchRow.{LaunchRow}
use Rattle.graph_meaning.specs.declared.graphs.LaunchGraph.{LaunchGraph}
use Rattle.launch_graph.specs.declared.row_lines.LineOp.{LineOp}
use Rattle.launch_graph.specs.declared.row_lines.LineOp.TheVariants.{Plain, Use, Unknown}
use Rattle.launch_graph.specs.declared.row_lines.RowLine.{RowLine}
use Rattle.launch_graph.specs.GraphLines.{said_row, said_op}
use Rattle.launch_graph.specs.RowFaults.{sort_given, sort_taken, line_constant, names_used, ops_of}
use Rattle.graph_meaning.specs.WellFormed.{IsLaunchGraph, next_index, next_after, declared_index}
use Rattle.launch_graph.proofs.Printed.{map_count}

-- ---- what is said of an operator

pub said_plain : (o p : Op) (name : List ℕ) → said_op o name ≡ Plain p → (o ≡ p) × (declared_index o ≡ None)
said_plain Entry p name e = (let h : Entry ≡ p = cc in h, refl)
said_plain (Input r) p name e = (let h : Input r ≡ p = cc in h, refl)
said_plain (Constant n) p name e = (let h : Constant n ≡ p = cc in h, refl)
said_plain (Word v) p name e = (let h : Word v ≡ p = cc in h, refl)
said_plain (Select access) p name e = (let h : Select access ≡ p = cc in h, refl)
said_plain (Store access) p name e = (let h : Store access ≡ p = cc in h, refl)
said_plain (Load access) p name e = (let h : Load access ≡ p = cc in h, refl)
said_plain (Put access) p name e = (let h : Put access ≡ p = cc in h, refl)
said_plain (Declared i a) p name e = cc

pub record SaysUse (o : Op) (name other : List ℕ) : Type 0 where
  pub index : ℕ
  pub arity : Arity
  pub is : o ≡ Declared index arity
  pub named : name ≡ other

pub said_use : (o : Op) (name other : List ℕ) → said_op o name ≡ Use other → SaysUse o name other
said_use Entry name other e = cc
said_use (Input r) name other e = cc
said_use (Constant n) name other e = cc
said_use (Word v) name other e = cc
said_use (Select access) name other e = cc
said_use (Store access) name other e = cc
said_use (Load access) name other e = cc
said_use (Put access) name other e = cc
said_use (Declared i a) name other e = record { index = i; arity = a; is = refl; named = (let h : name ≡ other = cc in h) }

pub said_unknown : (o : Op) (name word : List ℕ) → said_op o name ≡ Unknown word → ⊥
said_unknown Entry name word e = cc
said_unknown (Input r) name word e = cc
said_unknown (Constant n) name word e = cc
said_unknown (Word v) name word e = cc
said_unknown (Select access) name word e = cc
said_unknown (Store access) name word e = cc
said_unknown (Load access) name word e = cc
said_unknown (Put access) name word e = cc
said_unknown (Declared i a) name word e = cc

pub said_given : (o : Op) (name : List ℕ) → sort_given (said_op o name) ≡ sort_of o
said_given Entry name = refl
said_given (Input r) name = refl
said_given (Constant n) name = refl
said_given (Word v) name = refl
said_given (Select access) name = refl
said_given (Store access) name = refl
said_given (Load access) name = refl
said_given (Put access) name = refl
said_given (Declared i a) name = refl

pub said_taken : (o : Op) (name : List ℕ) (at : ℕ) → sort_taken (said_op o name) at ≡ operand_sort o at
said_taken Entry name at = refl
said_taken (Input r) name at = refl
said_taken (Constant n) name at = refl
said_taken (Word v) name at = refl
said_taken (Select access) name at = refl
said_taken (Store access) name at = refl
said_taken (Load access) name at = refl
said_taken (Put access) name at = refl
said_taken (Declared i a) name at = refl

pub said_constant : (o : Op) (name : List ℕ) → line_constant (said_op o name) ≡ constant_in o
said_constant Entry name = refl
said_constant (Input r) name = refl
said_constant (Constant n) name = refl
said_constant (Word v) name = refl
said_constant (Select access) name = refl
said_constant (Store access) name = refl
said_constant (Load access) name = refl
said_constant (Put access) name = refl
said_constant (Declared i a) name = refl

-- one operator is said so, or two declared ones of one name
pub data SameSaid (o p : Op) (n m : List ℕ) : Type 0 where
  same_plain : o ≡ p → SameSaid o p n m
  same_use : (i j : ℕ) → declared_index o ≡ Some i → declared_index p ≡ Some j → n ≡ m → SameSaid o p n m

pub same_said : (o p : Op) (n m : List ℕ) → said_op o n ≡ said_op p m → SameSaid o p n m
same_said o (Declared j b) n m e =
    let u = said_use o n m e in
    same_use u.index j (ap declared_index u.is) refl u.named
same_said o Entry n m e = same_plain (said_plain o Entry n e).0
same_said o (Input r) n m e = same_plain (said_plain o (Input r) n e).0
same_said o (Constant k) n m e = same_plain (said_plain o (Constant k) n e).0
same_said o (Word v) n m e = same_plain (said_plain o (Word v) n e).0
same_said o (Select access) n m e = same_plain (said_plain o (Select access) n e).0
same_said o (Store access) n m e = same_plain (said_plain o (Store access) n e).0
same_said o (Load access) n m e = same_plain (said_plain o (Load access) n e).0
same_said o (Put access) n m e = same_plain (said_plain o (Put access) n e).0

-- ---- lists of what is said

pub map_take : {X Y : Type 0} (f : X → Y) (k : ℕ) (xs : List X) → take k (map f xs) ≡ map f (take k xs)
map_take f zero xs = refl
map_take f (suc k) [] = refl
map_take f (suc k) (x ∷ xs) = ap (λ ys. f x ∷ ys) (map_take f k xs)

pub map_get : {X Y : Type 0} (f : X → Y) (k : ℕ) (xs : List X) (d : Y) (e : X) → k < length xs → get_or (map f xs) k d ≡ f (get_or xs k e)
map_get f k [] d e lt = absurd (omega arith)
map_get f zero (x ∷ xs) d e lt = refl
map_get f (suc k) (x ∷ xs) d e lt = map_get f k xs d e (omega arith)

pub record Said (xs : List LaunchRow) (k : ℕ) (one : RowLine) : Type 0 where
  pub place : ℕ
  pub row_is : LaunchRow
  pub low : place < k
  pub there : slice_get xs place ≡ Some row_is
  pub says : said_row row_is ≡ one

pub any_launch : LaunchRow
any_launch = record { class = 0; op = Entry; name = []; operands = [] }

-- a row among those said before
pub said_among : (xs : List LaunchRow) (k : ℕ) (one : RowLine) → k ≤ length xs → Contains (map said_row (take k xs)) one → Said xs k one
said_among xs k one le h =
    let size : length (take k xs) ≡ k = length-take-le k xs le in
    let count : length (map said_row (take k xs)) ≡ length (take k xs) = map_count said_row (take k xs) in
    let lt : h.0 < length (map said_row (take k xs)) = h.1 in
    record {
      place = h.0;
      row_is = get_or xs h.0 any_launch;
      low = omega arith;
      there = slice_get-get_or xs h.0 any_launch (omega arith);
      says =
          ap said_row (sym (get_or-take k xs h.0 any_launch (omega arith)))
          ∙ sym (map_get said_row h.0 (take k xs) one any_launch (omega arith)) ∙ h.2;
    }

-- ---- the names that are used

abbrev pub name_step : List (List ℕ) → LineOp → List (List ℕ)
name_step seen (Use name) = if list_any (λ n. bytes_eq n name) seen then seen else seen ++ name ∷ []
name_step seen (Plain op) = seen
name_step seen (Unknown word) = seen

pub names_push : (seen : List (List ℕ)) (ops : List LineOp) (op : LineOp) → names_used seen (ops ++ op ∷ []) ≡ name_step (names_used seen ops) op
names_push seen [] (Use name) = refl
names_push seen [] (Plain op) = refl
names_push seen [] (Unknown word) = refl
names_push seen (Use name ∷ ops) op = names_push (name_step seen (Use name)) ops op
names_push seen (Plain o ∷ ops) op = names_push seen ops op
names_push seen (Unknown word ∷ ops) op = names_push seen ops op

pub bytes_same : (a b : List ℕ) → a ≡ b → bytes_eq a b ≡ true
bytes_same a b e = (bytes_eq-Decides a b).1 e

pub bytes_apart : (a b : List ℕ) → a ≢ b → bytes_eq a b ≡ false
bytes_apart a b n = by_case (bytes_eq a b) refl
  where
    by_case : (r : Bool) → bytes_eq a b ≡ r → r ≡ false
    by_case true e = absurd (n ((bytes_eq-Decides a b).0 e))
    by_case false e = refl

pub step_known : (seen : List (List ℕ)) (name : List ℕ) (m : ℕ) → m < length seen → get_or seen m [] ≡ name → name_step seen (Use name) ≡ seen
step_known seen name m lt e = ap (λ b. cond b seen (seen ++ name ∷ [])) (list_any_at (λ n. bytes_eq n name) seen m [] lt (bytes_same (get_or seen m []) name e))

pub step_new : (seen : List (List ℕ)) (name : List ℕ) → ((m : ℕ) → m < length seen → get_or seen m [] ≢ name) → name_step seen (Use name) ≡ seen ++ name ∷ []
step_new seen name apart =
    ap (λ b. cond b seen (seen ++ name ∷ []))
    (list_any_none (λ n. bytes_eq n name) seen (All-from_get_or (λ n. bytes_eq n name ≡ false) seen [] (λ m lt. bytes_apart (get_or seen m []) name (apart m lt))))

pub index_more : (rows : List LaunchRow) (i : ℕ) (d : LaunchRow) → i < length rows
    → next_index (take (i + 1) rows) ≡ max (next_index (take i rows)) (next_after (declared_index (get_or rows i d).op))
index_more rows i d lt =
    ap next_index (take_more rows i d lt)
    ∙ fold-append (λ n (r : LaunchRow). max n (next_after (declared_index r.op))) 0 (take i rows) (get_or rows i d ∷ [])

abbrev pub names_upto : List LaunchRow → ℕ → List (List ℕ)
names_upto rows k = names_used [] (ops_of (map said_row (take k rows)))

pub map_append : {X Y : Type 0} (f : X → Y) (xs ys : List X) → map f (xs ++ ys) ≡ map f xs ++ map f ys
map_append f [] ys = refl
map_append f (x ∷ xs) ys = ap (λ zs. f x ∷ zs) (map_append f xs ys)

pub names_more : (rows : List LaunchRow) (k : ℕ) (d : LaunchRow) → k < length rows
    → names_upto rows (k + 1) ≡ name_step (names_upto rows k) (said_op (get_or rows k d).op (get_or rows k d).name)
names_more rows k d lt =
    ap (λ xs. names_used [] (ops_of (map said_row xs))) (take_more rows k d lt)
    ∙ ap (λ xs. names_used [] (ops_of xs)) (map_append said_row (take k rows) (get_or rows k d ∷ []))
    ∙ ap (names_used []) (map_append (λ (r : RowLine). r.op) (map said_row (take k rows)) (said_row (get_or rows k d) ∷ []))
    ∙ names_push [] (ops_of (map said_row (take k rows))) (said_op (get_or rows k d).op (get_or rows k d).name)

-- the names up to a row are those of the declared operators by their numbers
pub record NamesAre (rows : List LaunchRow) (k : ℕ) (ns : List (List ℕ)) : Type 0 where
  pub size : length ns ≡ next_index (take k rows)
  pub named : (j n : ℕ) (r : LaunchRow) → j < k → slice_get rows j ≡ Some r → declared_index r.op ≡ Some n
      → (n < length ns) × (get_or ns n [] ≡ r.name)
  pub used : (n : ℕ) → n < length ns
      → (j : ℕ) × (r : LaunchRow) × (j < k) × (slice_get rows j ≡ Some r) × (declared_index r.op ≡ Some n) × (get_or ns n [] ≡ r.name)

module _ (g : LaunchGraph) (is : IsLaunchGraph g) where
  pub one_name : (r s : LaunchRow) (i j m n : ℕ) → slice_get g.rows i ≡ Some r → slice_get g.rows j ≡ Some s
      → declared_index r.op ≡ Some m → declared_index s.op ≡ Some n → r.name ≡ s.name → m ≡ n
  one_name r s i j m n a b d e same = (is.same_name r s i j m n (a, b) d e).1 same

  one_number : (r s : LaunchRow) (i j m n : ℕ) → slice_get g.rows i ≡ Some r → slice_get g.rows j ≡ Some s
      → declared_index r.op ≡ Some m → declared_index s.op ≡ Some n → m ≡ n → (r.name ≡ s.name) × (r.op ≡ s.op)
  one_number r s i j m n a b d e same = (is.same_name r s i j m n (a, b) d e).0 same

  module _ (k : ℕ) (lt : k < length g.rows) (ns : List (List ℕ)) (h : NamesAre g.rows k ns) where
    abbrev here : LaunchRow
    here = get_or g.rows k any_launch

    at_here : slice_get g.rows k ≡ Some here
    at_here = slice_get-get_or g.rows k any_launch lt

    same_here : (r : LaunchRow) → slice_get g.rows k ≡ Some r → r ≡ here
    same_here r e = same_Some r here (sym e ∙ at_here)

    -- a row that declares nothing leaves the names
    kept : declared_index here.op ≡ None → NamesAre g.rows (k + 1) ns
    kept none =
        record {
          size = (let s : length ns ≡ next_index (take k g.rows) = h.size in
              let m : next_index (take (k + 1) g.rows) ≡ max (next_index (take k g.rows)) (next_after (declared_index here.op)) = index_more g.rows k any_launch lt in
              let z : next_after (declared_index here.op) ≡ 0 = ap next_after none in
              omega arith);
          named = λ j n r low there d. elim (cases_eq j k) [
            | inr apart ↦ h.named j n r (omega arith) there d
            | inl same ↦
                absurd (none-some n (sym none ∙ ap (λ (x : LaunchRow). declared_index x.op) (sym (same_here r (ap (slice_get g.rows) (sym same) ∙ there))) ∙ d))
          ];
          used = λ n low. (let u = h.used n low in (u.0, u.1, (let l = u.2 in omega arith), u.3, u.4, u.5));
        }

    -- one that was named before
    again : (n : ℕ) → declared_index here.op ≡ Some n → n < length ns → NamesAre g.rows (k + 1) ns × (get_or ns n [] ≡ here.name)
    again n d low =
        let u = h.used n low in
        let own_name : get_or ns n [] ≡ here.name = u.5 ∙ (one_number u.1 here u.0 k n n u.3 at_here u.4 d refl).0 in (
          record {
            size = (let s : length ns ≡ next_index (take k g.rows) = h.size in
                let m : next_index (take (k + 1) g.rows) ≡ max (next_index (take k g.rows)) (next_after (declared_index here.op)) = index_more g.rows k any_launch lt in
                let z : next_after (declared_index here.op) ≡ n + 1 = ap next_after d in
                omega arith);
            named = λ j m r less there e. elim (cases_eq j k) [
              | inr apart ↦ h.named j m r (omega arith) there e
              | inl same ↦
                  (let row_is : r ≡ here = same_here r (ap (slice_get g.rows) (sym same) ∙ there) in
                  let number_is : m ≡ n = same_Some m n (sym e ∙ ap (λ (x : LaunchRow). declared_index x.op) row_is ∙ d) in (
                    subst (λ i. i < length ns) (sym number_is) low,
                    ap (λ i. get_or ns i []) number_is ∙ own_name ∙ ap (λ (x : LaunchRow). x.name) (sym row_is),
                  ))
            ];
            used = λ m less. (let v = h.used m less in (v.0, v.1, (let l = v.2 in omega arith), v.3, v.4, v.5));
          },
          own_name,
        )

    -- one that is new
    added : (n : ℕ) → declared_index here.op ≡ Some n → n ≡ length ns → NamesAre g.rows (k + 1) (ns ++ here.name ∷ [])
    added n d last =
        let longer : length (ns ++ here.name ∷ []) ≡ length ns + 1 = length_push ns here.name in
        record {
          size = (let s : length ns ≡ next_index (take k g.rows) = h.size in
              let m : next_index (take (k + 1) g.rows) ≡ max (next_index (take k g.rows)) (next_after (declared_index here.op)) = index_more g.rows k any_launch lt in
              let z : next_after (declared_index here.op) ≡ n + 1 = ap next_after d in
              omega arith);
          named = λ j m r less there e. elim (cases_eq j k) [
            | inr apart ↦
                (let old = h.named j m r (omega arith) there e in
                let low : m < length ns = old.0 in
                (omega arith, get_or_append_left ns (here.name ∷ []) [] m low ∙ old.1))
            | inl same ↦
                (let row_is : r ≡ here = same_here r (ap (slice_get g.rows) (sym same) ∙ there) in
                let number_is : m ≡ n = same_Some m n (sym e ∙ ap (λ (x : LaunchRow). declared_index x.op) row_is ∙ d) in
                (omega arith, get_or_push ns here.name [] m (omega arith) ∙ ap (λ (x : LaunchRow). x.name) (sym row_is)))
          ];
          used = λ m less. elim (cases_lt m (length ns)) [
            | inl low ↦
                (let v = h.used m low in
                (v.0, v.1, (let l = v.2 in omega arith), v.3, v.4, get_or_append_left ns (here.name ∷ []) [] m low ∙ v.5))
            | inr high ↦
                (let same : m ≡ n = omega arith in
                (k, here, omega arith, at_here, d ∙ ap Some (sym same), get_or_push ns here.name [] m (omega arith)))
          ];
        }

    -- a new name is none of the names
    unused : (n : ℕ) → declared_index here.op ≡ Some n → n ≡ length ns → (m : ℕ) → m < length ns → get_or ns m [] ≢ here.name
    unused n d last m low e =
        let u = h.used m low in
        let same : m ≡ n = one_name u.1 here u.0 k m n u.3 at_here u.4 d (sym u.5 ∙ e) in
        omega arith

    names_next : (n : ℕ) → declared_index here.op ≡ Some n → NamesAre g.rows (k + 1) (name_step ns (Use here.name))
    names_next n d =
        let bound : n ≤ next_index (take k g.rows) = (is.indexes k n here at_here d).0 in
        let s : length ns ≡ next_index (take k g.rows) = h.size in
        elim (cases_lt n (length ns)) [
          | inl low ↦ subst (NamesAre g.rows (k + 1)) (sym (step_known ns here.name n low (again n d low).1)) (again n d low).0
          | inr high ↦
              (let last : n ≡ length ns = omega arith in
              subst (NamesAre g.rows (k + 1)) (sym (step_new ns here.name (unused n d last))) (added n d last))
        ]

    names_step : NamesAre g.rows (k + 1) (name_step ns (said_op here.op here.name))
    names_step = by_op here.op refl
      where
        by_op : (o : Op) → here.op ≡ o → NamesAre g.rows (k + 1) (name_step ns (said_op o here.name))
        by_op (Declared i a) e = names_next i (ap declared_index e)
        by_op Entry e = kept (ap declared_index e)
        by_op (Input r) e = kept (ap declared_index e)
        by_op (Constant n) e = kept (ap declared_index e)
        by_op (Word v) e = kept (ap declared_index e)
        by_op (Select access) e = kept (ap declared_index e)
        by_op (Store access) e = kept (ap declared_index e)
        by_op (Load access) e = kept (ap declared_index e)
        by_op (Put access) e = kept (ap declared_index e)

  pub names_are : (k : ℕ) → k ≤ length g.rows → NamesAre g.rows k (names_upto g.rows k)
  names_are zero le =
      record { size = refl; named = λ j n r low there d. absurd (omega arith); used = λ n low. absurd (omega arith) }
  names_are (suc k) le =
      let n : k + 1 ≡ suc k = omega arith in
      subst (λ i. NamesAre g.rows i (names_upto g.rows i)) n
      (subst (NamesAre g.rows (k + 1)) (sym (names_more g.rows k any_launch (omega arith)))
      (names_step k (omega arith) (names_upto g.rows k) (names_are k (omega arith))))

  -- never more than sixteen names
  pub few_names : (k : ℕ) → k ≤ length g.rows → length (names_upto g.rows k) ≤ 16
  few_names k le = few_of (names_upto g.rows k) (names_are k le)
    where
      few_of : (ns : List (List ℕ)) → NamesAre g.rows k ns → length ns ≤ 16
      few_of ns h = elim (cases_lt 16 (length ns)) [
        | inr low ↦ low
        | inl high ↦
            (let u = h.used 16 high in
            let low : 16 < 16 = (is.indexes u.0 16 u.1 u.3 u.4).1 in
            absurd (omega arith))
      ]
