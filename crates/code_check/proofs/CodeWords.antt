-- The words of a code, one after the other.
use Rattle.std.proofs.Common.{◌≡◌, ℕ, zero, suc, ◌+◌, ◌<◌, ◌≤◌, ◌^◌, ◌||◌, ◌&&◌, ◌++◌, if◌then◌else◌, Bool, true, false, All, Option, None, Some, List, [], ◌∷◌, map, length, take, nat_lt, refl, sym, ap, ap₂, ◌∙◌, subst, arith, slice_get, inl, inr, ◌⊎◌}
use Rattle.std.specs.Prelude.{IsSomeAnd, is_some}
use Rattle.std.specs.List.{list_any}
use Rattle.std.specs.Option.{option_map_or}
use Rattle.std.proofs.lemmas.Bool.{or_right}
use Rattle.std.proofs.lemmas.Bool.Decides.{nat_tests}
use Rattle.std.proofs.lemmas.List.{length-map, length_push, take_all}
use Rattle.std.proofs.lemmas.List.Elements.{All-cons, All-head, All-nil, All-push, All-tail}
use Rattle.std.proofs.lemmas.List.Folds.{list_any-append}
use Rattle.text_core.specs.Sexps.{sexp_tree}
use Rattle.text_core.specs.declared.sexps.Sexp.{Sexp}
use Rattle.forms.specs.Forms as forms
use Rattle.forms.specs.Faults.{own}
use Rattle.forms.specs.Forms.{Form, Forms, atom, list, none, more, number, parts_of, forms_from, forms_list, number_in, is_list, sexp_form, sexp_forms, Stand, Stands}
use Rattle.forms.specs.Reading.{IsSexpOf}
use Rattle.forms.proofs.First.{stands_of, within}
use Rattle.machine_table.specs.Grammar as grammar
use Rattle.machine_table.specs.Grammar.{Each, more_of, IsNumberOf}
use Rattle.alpha_encode.specs.Decoded.{decoded}
use Rattle.alpha_encode.specs.Formats.{IsWellFormed, encoded}
use Rattle.alpha_encode.specs.declared.instructions.Instr.{Instr}
use Rattle.alpha_encode.specs.declared.instructions.Instr.TheVariants.{Beq}
use Rattle.alpha_machine.specs.Runs.{IsAllowedAt, MayStandAt}
use Rattle.code_check.specs.CodeReading.{IsClearCode, IsNextWord, WritesWords}
use Rattle.code_check.specs.CodeRoles.{word_list, a_word, past, past_limit, IsOwnCodeFault, no_words, code_part_role, is_branch, is_branch_word}
use Rattle.code_check.specs.Compared.{branch_of}
use Rattle.code_check.specs.Outcomes.{IsCode}
use Rattle.code_check.proofs.FormLists.{each_length, each_more, got_more, list_from}
use Rattle.code_check.proofs.Growing.{ClearParts, HasNone, all_clear, clear_next, clear_zero}
use Rattle.code_check.proofs.Leaves.{word_clear}
use Rattle.code_check.proofs.Running.{word_of}

-- ---- items of a list that grew by one

pub got_pushed : {X : Type 0} (xs : List X) (x y : X) (j : ℕ) → slice_get (xs ++ x ∷ []) j ≡ Some y → (slice_get xs j ≡ Some y) ⊎ ((j ≡ length xs) × (x ≡ y))
got_pushed [] x y zero g = (let e : x ≡ y = cc in inr (refl, e))
got_pushed [] x y (suc j) g = cc
got_pushed (z ∷ zs) x y zero g = inl g
got_pushed (z ∷ zs) x y (suc j) g = elim (got_pushed zs x y j g) [
  | inl before ↦ inl before
  | inr last ↦ inr (ap suc last.0, last.1)
]

pub any_there : {X : Type 0} (p : X → Bool) (xs : List X) (j : ℕ) (x : X) → slice_get xs j ≡ Some x → p x ≡ true → list_any p xs ≡ true
any_there p [] j x g e = cc
any_there p (y ∷ ys) zero x g e = (let same : y ≡ x = cc in ap (λ b. b || list_any p ys) (ap p same ∙ e))
any_there p (y ∷ ys) (suc j) x g e = or_right (p y) (list_any p ys) (any_there p ys j x g e)

pub or_false : (b : Bool) → b || false ≡ b
or_false true = refl
or_false false = refl

number_is : (form : Form) (n : ℕ) → number_in form ≡ Some n → IsNumberOf n form
number_is (atom p (number k)) n e = (let same : k ≡ n = cc in record { place = p; is = ap (λ x. atom p (number x)) same })
number_is (atom p (forms.name v)) n e = cc
number_is (atom p (forms.register v)) n e = cc
number_is (atom p forms.parenthesis) n e = cc
number_is (list p ps) n e = cc

-- ---- words that were read

-- one word at most is a branch
abbrev pub HaveOneBranch : List ℕ → Type 0
HaveOneBranch words = (a b v w : ℕ) → slice_get words a ≡ Some v → slice_get words b ≡ Some w → is_branch_word v ≡ true → is_branch_word w ≡ true → a ≡ b

-- so many words were read, and whether one of them is a branch
pub record AreWordsRead (count : ℕ) (before : List Form) (words : List ℕ) (has_branch : Bool) : Type 0 where
  pub each : Each (λ f n. IsNumberOf n f) before words
  pub low : All (λ n. n < 2 ^ 32) words
  pub stand : (j w : ℕ) → slice_get words j ≡ Some w → MayStandAt count j w
  pub branch : has_branch ≡ list_any is_branch_word words
  pub one : HaveOneBranch words

pub none_read : (count : ℕ) → AreWordsRead count [] [] false
none_read count = record {
  each = grammar.none;
  low = All-nil (λ n. n < 2 ^ 32);
  stand = λ j w g. absurd (nothing w g);
  branch = refl;
  one = λ a b v w g h p q. absurd (nothing v g);
}
  where
    nothing : (w : ℕ) → None ≡ Some w → ⊥
    nothing w e = cc

module _ (count : ℕ) (before : List Form) (words : List ℕ) (has_branch : Bool) (read : AreWordsRead count before words has_branch) where
  -- the same is told by the forms
  pub branch_among : has_branch ≡ list_any is_branch before
  branch_among = read.branch ∙ sym (any_same before words read.each)
    where
      any_same : (fs : List Form) (ns : List ℕ) → Each (λ f n. IsNumberOf n f) fs ns → list_any is_branch fs ≡ list_any is_branch_word ns
      any_same [] [] e = refl
      any_same [] (n ∷ ns) e = elim e [ ]
      any_same (f ∷ fs) [] e = elim e [ ]
      any_same (f ∷ fs) (n ∷ ns) (more_of one others) = ap₂ (λ a b. a || b) (ap (λ o. option_map_or is_branch_word o false) (ap number_in one.is)) (any_same fs ns others)

  module _ (form : Form) (n : ℕ) (is : number_in form ≡ Some n) (next : IsNextWord count (length words) has_branch n) where
    not_both : list_any is_branch_word words ≡ true → is_branch_word n ≡ true → ⊥
    not_both some b = (let e : true ≡ false = sym b ∙ next.one_branch (read.branch ∙ some) in cc)

    pub words_more : AreWordsRead count (before ++ form ∷ []) (words ++ n ∷ []) (has_branch || is_branch_word n)
    words_more = record {
      each = each_more (λ f m. IsNumberOf m f) before words form n read.each (number_is form n is);
      low = All-push (λ m. m < 2 ^ 32) words n read.low next.low;
      stand = λ j w g. elim (got_pushed words n w j g) [
        | inl old ↦ read.stand j w old
        | inr new ↦ subst (λ m. MayStandAt count j m) new.1 (subst (λ k. MayStandAt count k n) (sym new.0) next.stands)
      ];
      branch = ap (λ b. b || is_branch_word n) read.branch
          ∙ sym (list_any-append is_branch_word words (n ∷ []) ∙ ap (λ b. list_any is_branch_word words || b) (or_false (is_branch_word n)));
      one = λ a b v w g h p q. elim (got_pushed words n v a g) [
        | inl old ↦ elim (got_pushed words n w b h) [
          | inl other ↦ read.one a b v w old other p q
          | inr new ↦ absurd (not_both (any_there is_branch_word words a v old p) (ap is_branch_word new.1 ∙ q))
        ]
        | inr new ↦ elim (got_pushed words n w b h) [
          | inl other ↦ absurd (not_both (any_there is_branch_word words b w other q) (ap is_branch_word new.1 ∙ p))
          | inr last ↦ new.0 ∙ sym last.0
        ]
      ];
    }

    -- the next word has no fault
    pub next_clear : length before ≡ length words → IsClearCode (a_word count before) form
    next_clear counted = word_clear count before form n is next.low
        (subst (λ k. MayStandAt count k n) (sym counted) next.stands)
        (λ b. sym branch_among ∙ no_branch b)
      where
        no_branch : is_branch_word n ≡ true → has_branch ≡ false
        no_branch b = by_test has_branch (λ h. next.one_branch h)
          where
            by_test : (c : Bool) → (c ≡ true → is_branch_word n ≡ false) → c ≡ false
            by_test false h = refl
            by_test true h = (let e : true ≡ false = sym b ∙ h refl in cc)

  pub read_count : length words ≡ length before
  read_count = each_length (λ f n. IsNumberOf n f) before words read.each

-- ---- the words are a code

module _ (forth : (word : ℕ) (instr : Instr) → word < 2 ^ 32 → decoded word ≡ Some instr → IsWellFormed instr × (encoded instr ≡ word)) where
  record AreDecoded (words : List ℕ) : Type 0 where
    pub instrs : List Instr
    pub decode : map decoded words ≡ map Some instrs
    pub well_formed : All IsWellFormed instrs

  some_and : (P : Instr → Type 0) (o : Option Instr) → IsSomeAnd o P → (i : Instr) × (o ≡ Some i)
  some_and P None h = absurd h
  some_and P (Some i) h = (i, refl)

  decode_all : (words : List ℕ) → All (λ n. n < 2 ^ 32) words → ((j w : ℕ) → slice_get words j ≡ Some w → (i : Instr) × (decoded w ≡ Some i)) → AreDecoded words
  decode_all [] low each = record { instrs = []; decode = refl; well_formed = All-nil IsWellFormed }
  decode_all (w ∷ ws) low each =
      let one = each 0 w refl in
      let rest = decode_all ws (All-tail (λ n. n < 2 ^ 32) w ws low) (λ j v g. each (suc j) v g) in
      record {
        instrs = one.0 ∷ rest.instrs;
        decode = ap₂ (λ (o : Option Instr) (os : List (Option Instr)). o ∷ os) one.1 rest.decode;
        well_formed = All-cons IsWellFormed one.0 rest.instrs (forth w one.0 (All-head (λ n. n < 2 ^ 32) w ws low) one.1).0 rest.well_formed;
      }

  pub are_code : (before : List Form) (words : List ℕ) (has_branch : Bool) → AreWordsRead (length words) before words has_branch → (instrs : List Instr) × IsCode words instrs
  are_code before words has_branch read =
      let all = decode_all words read.low (λ j w g. some_and (IsAllowedAt (length words) j) (decoded w) (read.stand j w g)) in (
        all.instrs,
        record {
          decode = all.decode;
          well_formed = all.well_formed;
          stand = λ at word g. read.stand at word g;
          one_branch = λ a b ra rb at_a at_b.
              let v = word_of words all.instrs all.decode a (Beq ra at_a.disp) at_a.there in
              let w = word_of words all.instrs all.decode b (Beq rb at_b.disp) at_b.there in
              read.one a b v.0 w.0 v.1 w.1 (ap (λ o. is_some (branch_of o)) v.2) (ap (λ o. is_some (branch_of o)) w.2);
        },
      )

-- ---- the list of words

pub words_own : (form : Form) → is_list form ≡ true → HasNone word_list form
words_own form e k (no_words h) = (let f : true ≡ false = sym e ∙ h in cc)

module _ (form : Form) where
  pub word_role : (i : ℕ) → i < 4096 → code_part_role word_list form i ≡ Some (a_word (length (parts_of form)) (take i (parts_of form)))
  word_role i l =
      let t : nat_lt i 4096 ≡ true = grind (arith, nat_tests, l) in
      ap (λ b. Some (if b then a_word (length (parts_of form)) (take i (parts_of form)) else past)) t

  pub past_role : (i : ℕ) → 4096 ≤ i → code_part_role word_list form i ≡ Some past
  past_role i l =
      let t : nat_lt i 4096 ≡ false = grind (arith, nat_tests, l) in
      ap (λ b. Some (if b then a_word (length (parts_of form)) (take i (parts_of form)) else past)) t

  -- the words before part i were read, and none has a fault
  pub record AreReadTo (i : ℕ) (words : List ℕ) (has_branch : Bool) : Type 0 where
    pub read : AreWordsRead (length (parts_of form)) (take i (parts_of form)) words has_branch
    pub clear : ClearParts word_list form i
    pub count : length words ≡ i
    pub few : i ≤ 4096

  pub read_more : (i n : ℕ) (words : List ℕ) (has_branch : Bool) (part : Form) → AreReadTo i words has_branch → i < 4096 → slice_get (parts_of form) i ≡ Some part → number_in part ≡ Some n
      → IsNextWord (length (parts_of form)) i has_branch n → AreReadTo (i + 1) (words ++ n ∷ []) (has_branch || is_branch_word n)
  read_more i n words has_branch part so l g is next =
      let all = length (parts_of form) in
      let before = take i (parts_of form) in
      let here : IsNextWord all (length words) has_branch n = subst (λ k. IsNextWord all k has_branch n) (sym so.count) next in
      let counted : length before ≡ length words = sym (read_count all before words has_branch so.read) in
      record {
        read = subst (λ (fs : List Form). AreWordsRead all fs (words ++ n ∷ []) (has_branch || is_branch_word n)) (sym (got_more (parts_of form) i part g))
            (words_more all before words has_branch so.read part n is here);
        clear = clear_next word_list form i part (a_word all before) g (word_role i l) (next_clear all before words has_branch so.read part n is here counted) so.clear;
        count = (let p = length_push words n in let c = so.count in omega (arith, p, c));
        few = omega (arith, l);
      }

  pub words_clear : (i : ℕ) (words : List ℕ) (has_branch : Bool) → AreReadTo i words has_branch → is_list form ≡ true → length (parts_of form) ≤ i → IsClearCode word_list form
  words_clear i words has_branch so e most = all_clear word_list form i (words_own form e) most so.clear

  pub words_written : ((word : ℕ) (instr : Instr) → word < 2 ^ 32 → decoded word ≡ Some instr → IsWellFormed instr × (encoded instr ≡ word))
      → (p i : ℕ) (fs : List Form) (words : List ℕ) (has_branch : Bool) → form ≡ list p (forms_from fs) → AreReadTo i words has_branch → length (parts_of form) ≤ i → WritesWords form words
  words_written forth p i fs words has_branch e so most =
      let whole : take i (parts_of form) ≡ fs = take_all i (parts_of form) most ∙ ap parts_of e ∙ list_from fs in
      let counted = read_count (length (parts_of form)) (take i (parts_of form)) words has_branch so.read in
      let all : length (parts_of form) ≡ length words = sym (counted ∙ ap length (take_all i (parts_of form) most)) in
      let read = subst (λ k. AreWordsRead k (take i (parts_of form)) words has_branch) all so.read in
      let code = are_code forth (take i (parts_of form)) words has_branch read in
      record {
        place = p;
        parts = fs;
        is = e;
        each = subst (λ (xs : List Form). Each (λ f n. IsNumberOf n f) xs words) whole so.read.each;
        low = so.read.low;
        instrs = code.0;
        is_code = code.1;
        few = (let c = so.count in let f = so.few in omega (arith, c, f));
      }

-- before the first word
pub first_words : (form : Form) → AreReadTo form 0 [] false
first_words form = record {
  read = none_read (length (parts_of form));
  clear = clear_zero word_list form;
  count = refl;
  few = omega arith;
}

-- the parts of a list of a text are fewer than its bytes
few_between : (forms : Forms) (low high : ℕ) → Stand low high forms → low + length (forms_list forms) ≤ high
few_between none low high h = (let l : low ≤ high = h in omega (arith, l))
few_between (more form others) low high h =
    let one = stands_some form low h.0 h.1.0 in
    let rest = few_between others h.0 high h.1.1 in
    omega (arith, one, rest)
  where
    stands_some : (f : Form) (from to : ℕ) → Stands from to f → from < to
    stands_some f from to s = (let w = within IsOwnCodeFault code_part_role (own {role = past} (past_limit {form = f}) refl) from to s in omega (arith, w.0, w.1))

pub few_parts : (text : List ℕ) (sexp : Sexp) (parts : List Sexp) (p : ℕ) → IsSexpOf text sexp → sexp_form text sexp ≡ list p (forms_from (sexp_forms text parts)) → length parts ≤ length text
unfolding IsSexpOf sexp_form
few_parts text sexp parts p of e =
    let s : Stands of.low of.high (list p (forms_from (sexp_forms text parts))) = subst (λ (f : Form). Stands of.low of.high f) e (stands_of text (sexp_tree sexp) of.low of.high of.placed) in
    let l = few_between (forms_from (sexp_forms text parts)) (p + 1) of.high s.1 in
    let n = ap length (list_from (sexp_forms text parts)) ∙ length-map parts (sexp_form text) in
    let w = of.within in
    omega (arith, l, n, w)

pub not_second : (has_branch is : Bool) → has_branch && is ≡ false → has_branch ≡ true → is ≡ false
not_second true is e h = e
not_second false is e h = cc
