-- The operator of a row's line, read from its words.
use Rattle.std.proofs.Common.{◌≡◌, ◌≢◌, ℕ, ◌<◌, List, [], ◌∷◌, ◌++◌, length, drop, get_or, refl, sym, ap, ◌∙◌, subst, arith, decimal, codes, Bool, true, false, ◌&&◌, cond, Some, find, bytes_eq}
use Rattle.std.proofs.lemmas.Option.{same_Some}
use Rattle.std.proofs.lemmas.Slice.Eq.{bytes_eq-Decides}
use Rattle.std.proofs.lemmas.Fmt.{decimal_injective}
use Rattle.std.proofs.Math.Seq.{drop-cons}
use Rattle.std.proofs.lemmas.List.{length-drop}
use Rattle.word_ops.specs.declared.sorts.Arity.TheVariants.{One}
use Rattle.word_ops.specs.declared.sorts.Op.{Op}
use Rattle.word_ops.specs.declared.sorts.Op.TheVariants.{Entry, Input, Constant, Word, Select, Store, Load, Put, Declared}
use Rattle.launch_graph.specs.declared.row_reading.Head.{Head}
use Rattle.launch_graph.specs.declared.row_reading.Head.TheVariants as heads
use Rattle.launch_graph.specs.declared.row_reading.Argument.{Argument}
use Rattle.launch_graph.specs.declared.row_reading.Argument.TheVariants as arguments
use Rattle.launch_graph.specs.declared.row_lines.LineOp.{LineOp}
use Rattle.launch_graph.specs.declared.row_lines.LineOp.TheVariants.{Plain, Use, Unknown}
use Rattle.text_core.specs.LineTexts.{Words}
use Rattle.launch_graph.specs.RowLines.{op_word, argument_words, line_op_words, IsLineOp}
use Rattle.launch_graph.specs.RowReading.{head_of, IsHead, named, unknown, IsArgument, register, constant, name, IsOpBefore, HasNoOp}

-- what each operator of this word tells
abbrev pub Tells : List ℕ → Head → Type 0
Tells word head = (op : Op) → word ≡ op_word op → head ≡ head_of op

-- ---- an operator that stands alone

pub record Alone (o op : Op) : Type 0 where
  pub same : o ≡ op
  pub no_argument : argument_words op ≡ []
  pub fine : IsLineOp (Plain op)

alone_by : (o op : Op) → op ≡ o → argument_words o ≡ [] → IsLineOp (Plain o) → Alone o op
alone_by o op e none fine = record { same = sym e; no_argument = subst (λ (x : Op). argument_words x ≡ []) (sym e) none; fine = subst (λ (x : Op). IsLineOp (Plain x)) (sym e) fine }

plain_same : (a b : Op) → heads.Plain a ≡ heads.Plain b → a ≡ b
plain_same a b e = cc

alone : (o op : Op) → heads.Plain op ≡ head_of o → Alone o op
alone Entry op e = alone_by Entry op (plain_same op Entry e) refl tt
alone (Input r) op e = cc
alone (Constant n) op e = cc
alone (Word w) op e = alone_by (Word w) op (plain_same op (Word w) e) refl tt
alone (Select access) op e = alone_by (Select access) op (plain_same op (Select access) e) refl tt
alone (Store access) op e = alone_by (Store access) op (plain_same op (Store access) e) refl tt
alone (Load access) op e = alone_by (Load access) op (plain_same op (Load access) e) refl tt
alone (Put access) op e = alone_by (Put access) op (plain_same op (Put access) e) refl tt
alone (Declared i a) op e = cc

first_same : (x y : List ℕ) (xs ys : Words) → x ∷ xs ≡ y ∷ ys → x ≡ y
first_same x y xs ys e = cc

rest_same : (x y : List ℕ) (xs ys : Words) → x ∷ xs ≡ y ∷ ys → xs ≡ ys
rest_same x y xs ys e = cc

plain_not_takes : (op : Op) (a : Argument) → heads.Plain op ≡ heads.Takes a → ⊥
plain_not_takes op a e = cc

alone_only : (w : List ℕ) (ws : Words) (op o : Op) → w ≡ op_word o → Alone o op → Tells w (heads.Plain op) → (other : LineOp) (rest : Words) → IsLineOp other → w ∷ ws ≡ line_op_words other ++ rest → (other ≡ Plain op) × (rest ≡ ws)
alone_only w ws op o is a tells (Plain p) rest fine e =
    let b = alone p op (tells p (first_same w (op_word p) ws (argument_words p ++ rest) e)) in
    let none : argument_words p ≡ [] = ap argument_words b.same ∙ b.no_argument in
    (ap Plain b.same, sym (rest_same w (op_word p) ws (argument_words p ++ rest) e ∙ ap (λ (xs : Words). xs ++ rest) none))
alone_only w ws op o is a tells (Use n) rest fine e = absurd (plain_not_takes op arguments.Name (tells (Declared 0 One) (first_same w (codes "use") ws (n ∷ rest) e)))
alone_only w ws op o is a tells (Unknown u) rest fine e = absurd (fine o (sym (first_same w u ws rest e) ∙ is))

plain_named : (w : List ℕ) (op : Op) → IsHead w (heads.Plain op) → (o : Op) × (w ≡ op_word o) × Alone o op
plain_named w op (named o is h) = (o, is, alone o op h)
plain_named w op (unknown never h) = cc

pub plain_op : (row : Words) (w d : List ℕ) (op : Op) → 1 < length row → w ≡ get_or row 1 d → IsHead w (heads.Plain op) → Tells w (heads.Plain op) → IsOpBefore row (Plain op) 2
plain_op row w d op few read head tells =
    let n = plain_named w op head in
    let a : Alone n.0 op = n.2 in
    let next : drop 1 row ≡ w ∷ drop 2 row = drop-cons row 1 d few ∙ ap (λ (x : List ℕ). x ∷ drop 2 row) (sym read) in
    let word : w ≡ op_word op = n.1 ∙ ap op_word a.same in
    record {
      fine = a.fine;
      is = next ∙ ap (λ (x : List ℕ). x ∷ drop 2 row) word ∙ ap (λ (xs : Words). op_word op ∷ (xs ++ drop 2 row)) (sym a.no_argument);
      within = omega arith;
      only = λ other rest fine e. alone_only w (drop 2 row) op n.0 n.1 a tells other rest fine (sym next ∙ e);
    }

abbrev stands_alone : Op → Bool
stands_alone (Input r) = false
stands_alone (Constant n) = false
stands_alone (Declared i a) = false
stands_alone o = true

plain_head : (o : Op) → stands_alone o ≡ true → heads.Plain o ≡ head_of o
plain_head (Input r) e = cc
plain_head (Constant n) e = cc
plain_head (Declared i a) e = cc
plain_head _ e = refl

-- each operator of a list stands alone
abbrev all_alone : List Op → Bool
all_alone [] = true
all_alone (o ∷ others) = stands_alone o && all_alone others

both : (a b : Bool) → a && b ≡ true → (a ≡ true) × (b ≡ true)
both true b h = (refl, h)
both false b h = cc

pub found_alone : (word : List ℕ) (among : List Op) (op : Op) → all_alone among ≡ true → find (λ o. bytes_eq (op_word o) word) among ≡ Some op → IsHead word (heads.Plain op)
found_alone word [] op are e = cc
found_alone word (one ∷ rest) op are e = at (bytes_eq (op_word one) word) refl e (found_alone word rest op (both _ _ are).1)
  where
    at : (b : Bool) → bytes_eq (op_word one) word ≡ b → cond b (Some one) (find (λ o. bytes_eq (op_word o) word) rest) ≡ Some op → (find (λ o. bytes_eq (op_word o) word) rest ≡ Some op → IsHead word (heads.Plain op)) → IsHead word (heads.Plain op)
    at true same e later = subst (λ o. IsHead word (heads.Plain o)) (same_Some one op e) (named one (sym ((bytes_eq-Decides (op_word one) word).0 same)) (plain_head one (both _ _ are).0))
    at false other e later = later e

-- ---- a word that no operator has

unknown_not_head : (o : Op) → heads.Unknown ≡ head_of o → ⊥
unknown_not_head Entry e = cc
unknown_not_head (Input r) e = cc
unknown_not_head (Constant n) e = cc
unknown_not_head (Word w) e = cc
unknown_not_head (Select access) e = cc
unknown_not_head (Store access) e = cc
unknown_not_head (Load access) e = cc
unknown_not_head (Put access) e = cc
unknown_not_head (Declared i a) e = cc

unknown_only : (w : List ℕ) (ws : Words) → ((o : Op) → w ≢ op_word o) → (other : LineOp) (rest : Words) → IsLineOp other → w ∷ ws ≡ line_op_words other ++ rest → (other ≡ Unknown w) × (rest ≡ ws)
unknown_only w ws never (Plain p) rest fine e = absurd (never p (first_same w (op_word p) ws (argument_words p ++ rest) e))
unknown_only w ws never (Use n) rest fine e = absurd (never (Declared 0 One) (first_same w (codes "use") ws (n ∷ rest) e))
unknown_only w ws never (Unknown u) rest fine e = (ap Unknown (sym (first_same w u ws rest e)), sym (rest_same w u ws rest e))

pub unknown_op : (row : Words) (w d bytes : List ℕ) → 1 < length row → w ≡ get_or row 1 d → bytes ≡ w → Tells w heads.Unknown → IsOpBefore row (Unknown bytes) 2
unknown_op row w d bytes few read same tells =
    let next : drop 1 row ≡ w ∷ drop 2 row = drop-cons row 1 d few ∙ ap (λ (x : List ℕ). x ∷ drop 2 row) (sym read) in
    let never : (o : Op) → w ≢ op_word o = λ o e. unknown_not_head o (tells o e) in
    subst (λ (x : List ℕ). IsOpBefore row (Unknown x) 2) (sym same) (record {
      fine = never;
      is = next;
      within = omega arith;
      only = λ other rest fine e. unknown_only w (drop 2 row) never other rest fine (sym next ∙ e);
    })

-- ---- an operator with an argument

abbrev argument_keyword : Argument → List ℕ
argument_keyword arguments.Register = codes "input"
argument_keyword arguments.Constant = codes "const"
argument_keyword arguments.Name = codes "use"

takes_same : (a b : Argument) → heads.Takes a ≡ heads.Takes b → a ≡ b
takes_same a b e = cc

keyword_of : (o : Op) (a : Argument) → heads.Takes a ≡ head_of o → op_word o ≡ argument_keyword a
keyword_of Entry a e = cc
keyword_of (Input r) a e = ap argument_keyword (sym (takes_same a arguments.Register e))
keyword_of (Constant n) a e = ap argument_keyword (sym (takes_same a arguments.Constant e))
keyword_of (Word w) a e = cc
keyword_of (Select access) a e = cc
keyword_of (Store access) a e = cc
keyword_of (Load access) a e = cc
keyword_of (Put access) a e = cc
keyword_of (Declared i b) a e = ap argument_keyword (sym (takes_same a arguments.Name e))

pub takes_word : (w : List ℕ) (a : Argument) → IsHead w (heads.Takes a) → (o : Op) × (w ≡ op_word o) × (w ≡ argument_keyword a)
takes_word w a (named o is h) = (o, is, is ∙ keyword_of o a h)
takes_word w a (unknown never h) = cc

-- what stands behind the word of an operator that takes an argument
pub record Argued (a : Argument) (other : LineOp) (ws rest : Words) : Type 0 where
  pub word : List ℕ
  pub is : ws ≡ word ∷ rest
  pub says : IsArgument word a other

argued_by : (a b : Argument) (other : LineOp) (word : List ℕ) (ws rest : Words) → a ≡ b → ws ≡ word ∷ rest → IsArgument word b other → Argued a other ws rest
argued_by a b other word ws rest same is says = record { word = word; is = is; says = subst (λ (x : Argument). IsArgument word x other) (sym same) says }

pub argued : (w : List ℕ) (ws : Words) (a : Argument) (o : Op) → w ≡ op_word o → Tells w (heads.Takes a) → (other : LineOp) (rest : Words) → IsLineOp other → w ∷ ws ≡ line_op_words other ++ rest → Argued a other ws rest
argued w ws a o is tells (Plain (Input r)) rest fine e =
    argued_by a arguments.Register _ (decimal r) ws rest (takes_same _ _ (tells (Input r) (first_same w (codes "input") ws (decimal r ∷ rest) e))) (rest_same w (codes "input") ws (decimal r ∷ rest) e) (register fine refl)
argued w ws a o is tells (Plain (Constant n)) rest fine e =
    argued_by a arguments.Constant _ (decimal n) ws rest (takes_same _ _ (tells (Constant n) (first_same w (codes "const") ws (decimal n ∷ rest) e))) (rest_same w (codes "const") ws (decimal n ∷ rest) e) (constant fine refl)
argued w ws a o is tells (Plain (Declared i b)) rest fine e = absurd fine
argued w ws a o is tells (Plain Entry) rest fine e = (let h = tells Entry (first_same w (op_word Entry) ws rest e) in cc)
argued w ws a o is tells (Plain (Word v)) rest fine e = (let h = tells (Word v) (first_same w (op_word (Word v)) ws rest e) in cc)
argued w ws a o is tells (Plain (Select access)) rest fine e = (let h = tells (Select access) (first_same w (op_word (Select access)) ws rest e) in cc)
argued w ws a o is tells (Plain (Store access)) rest fine e = (let h = tells (Store access) (first_same w (op_word (Store access)) ws rest e) in cc)
argued w ws a o is tells (Plain (Load access)) rest fine e = (let h = tells (Load access) (first_same w (op_word (Load access)) ws rest e) in cc)
argued w ws a o is tells (Plain (Put access)) rest fine e = (let h = tells (Put access) (first_same w (op_word (Put access)) ws rest e) in cc)
argued w ws a o is tells (Use n) rest fine e =
    argued_by a arguments.Name _ n ws rest (takes_same _ _ (tells (Declared 0 One) (first_same w (codes "use") ws (n ∷ rest) e))) (rest_same w (codes "use") ws (n ∷ rest) e) (name fine)
argued w ws a o is tells (Unknown u) rest fine e = absurd (fine o (sym (first_same w u ws rest e) ∙ is))

-- a word is one argument
same_register : (m n : ℕ) → m < 31 → n < 31 → decimal m ≡ decimal n → m ≡ n
same_register m n a b e = decimal_injective m n (omega arith) (omega arith) e

pub one_argument : (w : List ℕ) (a : Argument) (x y : LineOp) → IsArgument w a x → IsArgument w a y → x ≡ y
one_argument w a x y (register {n = m} small is) (register {n = n} less also) = ap (λ k. Plain (Input k)) (same_register m n small less (sym is ∙ also))
one_argument w a x y (constant {n = m} small is) (constant {n = n} less also) = ap (λ k. Plain (Constant k)) (decimal_injective m n small less (sym is ∙ also))
one_argument w a x y (name is) (name other) = refl

argument_fine : (w : List ℕ) (a : Argument) (x : LineOp) → IsArgument w a x → IsLineOp x
argument_fine w a x (register small is) = small
argument_fine w a x (constant small is) = small
argument_fine w a x (name is) = is

argument_words_are : (w : List ℕ) (a : Argument) (x : LineOp) → IsArgument w a x → line_op_words x ≡ argument_keyword a ∷ w ∷ []
argument_words_are w a x (register small is) = ap (λ (v : List ℕ). codes "input" ∷ v ∷ []) (sym is)
argument_words_are w a x (constant small is) = ap (λ (v : List ℕ). codes "const" ∷ v ∷ []) (sym is)
argument_words_are w a x (name is) = refl

argument_at : (w : List ℕ) (a : Argument) (x other : LineOp) (ws rest : Words) → IsArgument w a x → Argued a other (w ∷ ws) rest → (other ≡ x) × (rest ≡ ws)
argument_at w a x other ws rest says g =
    let same : w ≡ g.word = first_same w g.word ws rest g.is in
    (one_argument w a other x (subst (λ (v : List ℕ). IsArgument v a other) (sym same) g.says) says, sym (rest_same w g.word ws rest g.is))

pub argument_op : (row : Words) (w v d b : List ℕ) (a : Argument) (op : LineOp) → 2 < length row → w ≡ get_or row 1 d → v ≡ get_or row 2 b → IsHead w (heads.Takes a) → Tells w (heads.Takes a) → IsArgument v a op → IsOpBefore row op 3
argument_op row w v d b a op few read behind head tells says =
    let second : drop 2 row ≡ v ∷ drop 3 row = drop-cons row 2 b few ∙ ap (λ (x : List ℕ). x ∷ drop 3 row) (sym behind) in
    let next : drop 1 row ≡ w ∷ v ∷ drop 3 row = drop-cons row 1 d (omega arith) ∙ ap (λ (x : List ℕ). x ∷ drop 2 row) (sym read) ∙ ap (λ (xs : Words). w ∷ xs) second in
    let t = takes_word w a head in
    record {
      fine = argument_fine v a op says;
      is = next ∙ ap (λ (x : List ℕ). x ∷ v ∷ drop 3 row) t.2 ∙ ap (λ (xs : Words). xs ++ drop 3 row) (sym (argument_words_are v a op says));
      within = omega arith;
      only = λ other rest fine e. argument_at v a op other (drop 3 row) rest says (argued w (v ∷ drop 3 row) a t.0 t.1 tells other rest fine (sym next ∙ e));
    }

-- nothing behind the word
nothing_argued : (a : Argument) (other : LineOp) (ws rest : Words) → length ws ≡ 0 → Argued a other ws rest → ⊥
nothing_argued a other ws rest none g = (let size = ap length g.is in omega (arith, size))

two_dropped : (xs : Words) → length xs ≡ 2 → length (drop 2 xs) ≡ 0
two_dropped xs e = (let left = length-drop 2 xs in omega (arith, left, e))

pub no_argument_word : (row : Words) (w d : List ℕ) (a : Argument) → length row ≡ 2 → w ≡ get_or row 1 d → IsHead w (heads.Takes a) → Tells w (heads.Takes a) → HasNoOp row
no_argument_word row w d a size read head tells op rest fine e =
    let next : drop 1 row ≡ w ∷ drop 2 row = drop-cons row 1 d (omega arith) ∙ ap (λ (x : List ℕ). x ∷ drop 2 row) (sym read) in
    let t = takes_word w a head in
    nothing_argued a op (drop 2 row) rest (two_dropped row size) (argued w (drop 2 row) a t.0 t.1 tells op rest fine (sym next ∙ e))

pub wrong_argument : (row : Words) (w v d b : List ℕ) (a : Argument) → 2 < length row → w ≡ get_or row 1 d → v ≡ get_or row 2 b → IsHead w (heads.Takes a) → Tells w (heads.Takes a) → ((op : LineOp) → IsArgument v a op → ⊥) → HasNoOp row
wrong_argument row w v d b a few read behind head tells never op rest fine e =
    let second : drop 2 row ≡ v ∷ drop 3 row = drop-cons row 2 b few ∙ ap (λ (x : List ℕ). x ∷ drop 3 row) (sym behind) in
    let next : drop 1 row ≡ w ∷ v ∷ drop 3 row = drop-cons row 1 d (omega arith) ∙ ap (λ (x : List ℕ). x ∷ drop 2 row) (sym read) ∙ ap (λ (xs : Words). w ∷ xs) second in
    let t = takes_word w a head in
    let g = argued w (v ∷ drop 3 row) a t.0 t.1 tells op rest fine (sym next ∙ e) in
    let same : v ≡ g.word = first_same v g.word (drop 3 row) rest g.is in
    never op (subst (λ (x : List ℕ). IsArgument x a op) (sym same) g.says)
