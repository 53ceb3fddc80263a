-- The terms of a code are inserted up to its branch, and then the rest.
use Rattle.std.proofs.Common.{◌≡◌, ℕ, zero, suc, ◌+◌, ◌-◌, ◌*◌, ◌≤◌, ◌^◌, List, [], ◌∷◌, ◌++◌, map, take, drop, length, replicate, refl, sym, ◌∙◌, ap, subst, arith, Option, Some, None}
use Rattle.std.specs.Prelude.{All, Contains, slice_index_or}
use Rattle.std.proofs.lemmas.List.{drop-map, length-drop, length-map, length-replicate, length-take-le, take-append-drop, take-map, take_all}
use Rattle.std.proofs.lemmas.List.Elements.{All-nil}
use Rattle.word_ops.specs.Meanings.{sort_of}
use Rattle.word_ops.specs.declared.sorts.Op.{Op}
use Rattle.word_ops.specs.declared.sorts.Op.TheVariants.{Entry}
use Rattle.word_ops.specs.declared.sorts.Sort.{Sort}
use Rattle.word_ops.specs.declared.sorts.Sort.TheVariants as sorts
use Rattle.word_terms.specs.Keys.{op_signature}
use Rattle.word_terms.specs.Tree.{Tree}
use Rattle.egraph.specs.Graph.{Graph, HasClass, IsGraph, IsPresent}
use Rattle.egraph.specs.Sorts.{IsOfSort}
use Rattle.egraph.specs.declared.rows.Row.{Row}
use Rattle.pattern_match.specs.Classes.{IsClass}
use Rattle.alpha_encode.specs.Decoded.{decoded}
use Rattle.alpha_encode.specs.declared.instructions.Instr.{Instr}
use Rattle.goal_meaning.specs.Views.{GoalTree}
use Rattle.saturation.specs.AtStart.{StandsAtStart}
use Rattle.saturation.specs.GoalTerms.{entry_term}
use Rattle.saturation.specs.Rounds.{KeepsClasses}
use Rattle.saturation.specs.Trace.{AreInserted, none_inserted}
use Rattle.code_check.specs.Classes.{AreAddresses, AreClassesOf, HasClassOfSort, IsAddress, IsRegisterClass}
use Rattle.code_check.specs.Compared.{ArePresentAddresses, ArePresentClasses, IsPresentAddress, IsPresentClass, IsPresentRegister, before_branch, terms_at_branch}
use Rattle.code_check.specs.Inserted.{IsCodeInserted}
use Rattle.code_check.specs.Same.{terms_at_end}
use Rattle.code_check.specs.Terms.{TermState, place_term, term_step, terms_after, terms_at_entry, terms_from, terms_written, terms_written_from}
use Rattle.code_check.specs.declared.branches.Branch.{Branch}
use Rattle.code_check.specs.declared.code_terms.Inserted.{Inserted}
use Rattle.code_check.proofs.Built.{KeepsOthers}
use Rattle.code_check.proofs.Comparisons.{leaf_row}
use Rattle.code_check.proofs.Stages.{InsertsBoth, addresses_append, addresses_later, append_twice, inserted_keeps}

-- ---- instructions in two parts

pub terms_append : (xs ys : List Instr) (ts : TermState) → terms_from (xs ++ ys) ts ≡ terms_from ys (terms_from xs ts)
terms_append [] ys ts = refl
terms_append (x ∷ xs) ys ts = terms_append xs ys (term_step x ts)

pub written_append : (xs ys : List Instr) (ts : TermState) → terms_written_from (xs ++ ys) ts ≡ terms_written_from xs ts ++ terms_written_from ys (terms_from xs ts)
written_append [] ys ts = refl
written_append (x ∷ xs) ys ts =
    ap (λ us. terms_written x ts ++ us) (written_append xs ys (term_step x ts))
    ∙ append_twice (terms_written x ts) (terms_written_from xs (term_step x ts)) (terms_written_from ys (terms_from xs (term_step x ts)))

module _ (words : List ℕ) (instrs : List Instr) (code : map decoded words ≡ map Some instrs) (n : ℕ) where
  pub first_code : map decoded (take n words) ≡ map Some (take n instrs)
  first_code = sym (take-map decoded n words) ∙ ap (take n) code ∙ take-map Some n instrs

  pub rest_code : map decoded (drop n words) ≡ map Some (drop n instrs)
  rest_code = sym (drop-map decoded n words) ∙ ap (drop n) code ∙ drop-map Some n instrs

  module _ (ts : TermState) where
    in_two : terms_written_from instrs ts ≡ terms_written_from (take n instrs) ts ++ terms_written_from (drop n instrs) (terms_from (take n instrs) ts)
    in_two = ap (λ is. terms_written_from is ts) (sym (take-append-drop n instrs)) ∙ written_append (take n instrs) (drop n instrs) ts

    after_both : terms_from instrs ts ≡ terms_from (drop n instrs) (terms_from (take n instrs) ts)
    after_both = ap (λ is. terms_from is ts) (sym (take-append-drop n instrs)) ∙ terms_append (take n instrs) (drop n instrs) ts

-- the words behind the first n, as the code takes them
pub rest_of : (words : List ℕ) (n : ℕ) → take (length words - n) (drop n words) ≡ drop n words
rest_of words n = take_all (length words - n) (drop n words) (omega (arith, length-drop n words))

-- room for the rows of both parts
pub few_first : (words : List ℕ) (n old : ℕ) → n ≤ length words → old + 5 * length words ≤ 2 ^ 31 → old + 5 * length (take n words) ≤ 2 ^ 31
few_first words n old within few = let e = length-take-le n words within in omega (arith, e, few)

pub few_rest : (words : List ℕ) (n old new : ℕ) → n ≤ length words → old + 5 * length words ≤ 2 ^ 31 → new ≤ old + 5 * length (take n words) → new + 5 * length (take (length words - n) (drop n words)) ≤ 2 ^ 31
few_rest words n old new within few first =
    let e = length-take-le n words within in
    let f : length (take (length words - n) (drop n words)) ≡ length (drop n words) = ap length (rest_of words n) in
    omega (arith, e, f, length-drop n words, few, first, within)

pub few_both : (words : List ℕ) (n old middle new : ℕ) → n ≤ length words → middle ≤ old + 5 * length (take n words) → new ≤ middle + 5 * length (take (length words - n) (drop n words)) → new ≤ old + 5 * length words
few_both words n old middle new within first rest =
    let e = length-take-le n words within in
    let f : length (take (length words - n) (drop n words)) ≡ length (drop n words) = ap length (rest_of words n) in
    omega (arith, e, f, length-drop n words, first, rest, within)

-- what the insertion of words promises
abbrev pub InsertsWords : List ℕ → Graph Op → List (Option ℕ) → ℕ → Graph Op → List (Option ℕ) → ℕ → List (Option ℕ) → Type 0
InsertsWords words old classes memory new classes_then memory_then addresses =
    (instrs : List Instr) (ts : TermState) →
    map decoded words ≡ map Some instrs →
    AreClassesOf old classes memory ts →
    AreInserted (terms_written_from instrs ts) old new
    × AreClassesOf new classes_then memory_then (terms_from instrs ts)
    × AreAddresses new instrs ts addresses

pub code_inserted :
    InsertsBoth →
    KeepsOthers →
    (old middle new : Graph Op) (words : List ℕ) (before : ℕ) (first : List (Option ℕ)) (entry : ℕ) (i : Inserted) (early late : List (Option ℕ)) →
    i.addresses ≡ early ++ late →
    AreClassesOf old first entry terms_at_entry →
    InsertsWords (take before words) old first entry middle i.at_branch i.memory_at_branch early →
    InsertsWords (drop before words) middle i.at_branch i.memory_at_branch new i.at_end i.memory_at_end late →
    (instrs : List Instr) →
    map decoded words ≡ map Some instrs →
    IsCodeInserted old instrs before i new
code_inserted both others old middle new words before first entry i early late are_both at_entry inserts_first inserts_rest instrs code =
    let a = inserts_first (take before instrs) terms_at_entry (first_code words instrs code before) at_entry in
    let b = inserts_rest (drop before instrs) (terms_after before instrs) (rest_code words instrs code before) a.1 in
    let all : take (length instrs) instrs ≡ instrs = take_all (length instrs) instrs (omega arith) in
    let end : terms_at_end instrs ≡ terms_from (drop before instrs) (terms_after before instrs) =
    ap (λ is. terms_from is terms_at_entry) all ∙ after_both words instrs code before terms_at_entry in
    record {
      inserted = subst (λ us. AreInserted us old new) (sym (in_two words instrs code before terms_at_entry))
          (both (terms_written_from (take before instrs) terms_at_entry) (terms_written_from (drop before instrs) (terms_after before instrs)) old middle new a.0 b.0);
      graph = b.1.graph;
      middle = middle;
      rest = b.0;
      at_branch = a.1;
      at_end = subst (AreClassesOf new i.at_end i.memory_at_end) (sym end) b.1;
      addresses =
          subst (AreAddresses new instrs terms_at_entry) (sym are_both)
          (subst (λ is. AreAddresses new is terms_at_entry (early ++ late)) (take-append-drop before instrs)
          (addresses_append new (take before instrs) (drop before instrs) terms_at_entry early late
          (addresses_later others (terms_written_from (drop before instrs) (terms_after before instrs)) middle new b.0 (take before instrs) terms_at_entry early a.2)
          b.2));
    }

-- ---- the terms at the branch

before_terms :
    (words : List ℕ) (instrs : List Instr) (branch : Option Branch) →
    map decoded words ≡ map Some instrs →
    terms_after (before_branch words branch) instrs ≡ terms_at_branch branch instrs
before_terms words instrs None decode =
    ap (λ n. terms_after n instrs) (sym (length-map words decoded) ∙ ap length decode ∙ length-map instrs Some)
before_terms words instrs (Some b) decode = refl

-- ---- before the first word

-- no register was written
abbrev no_class : Option ℕ
no_class = None

pub none_written : (n r : ℕ) → slice_index_or (replicate n no_class) r no_class ≡ no_class
none_written zero r = refl
none_written (suc n) zero = refl
none_written (suc n) (suc r) = none_written n r

pub classes_at_entry :
    (g : Graph Op) →
    IsGraph op_signature g →
    ((r : Row Op) → Contains g.rows r → IsOfSort op_signature g r.class (sort_of r.op)) →
    (classes : List (Option ℕ)) (memory : ℕ) →
    classes ≡ replicate 32 None →
    IsClass g [] entry_term memory →
    AreClassesOf g classes memory terms_at_entry
classes_at_entry g is sorts_of classes memory e h = record {
  graph = is;
  count = ap length e ∙ length-replicate 32 no_class;
  registers = λ r below.
      subst (λ o. IsRegisterClass g o (terms_at_entry.registers r) (terms_at_entry.registers r))
      (sym (ap (λ xs. slice_index_or xs r None) e ∙ none_written 32 r)) refl;
  memory_is = record { class = h; of_sort = sorts_of (record { op = Entry; operands = []; class = memory }) (leaf_row g h) };
}

-- the memory at entry has a class at the start
pub entry_there : (goal : GoalTree) (g : Graph Op) → StandsAtStart goal g → (c : ℕ) × IsClass g [] entry_term c
entry_there goal g stands = (stands (λ n. []) (record { axioms = []; kinds = [] })).classes entry_term (0, omega arith, refl)

-- ---- after the rounds

module _ (others : KeepsOthers)
    (has : (g : Graph Op) (places : List ℕ) (t : Tree Op) (c : ℕ) → All (HasClass g) places → IsClass g places t c → HasClass g c)
    (present : (g : Graph Op) (c : ℕ) → IsGraph op_signature g → HasClass g c → IsPresent g c) where
  pub present_after :
      (middle new last : Graph Op) (classes : List (Option ℕ)) (memory : ℕ) (ts : TermState) (more : List (Tree Op)) →
      AreClassesOf middle classes memory ts →
      AreInserted more middle new →
      KeepsClasses new last →
      IsGraph op_signature new →
      IsGraph op_signature last →
      ArePresentClasses last classes memory ts
  present_after middle new last classes memory ts more are inserted keeps is_new is_last = record {
    graph = is_last;
    count = are.count;
    registers = λ r below. by (slice_index_or classes r None) (ts.registers r) (terms_at_entry.registers r) (are.registers r below);
    memory_is = one sorts.Memory ts.memory memory are.memory_is;
  }
    where
      one : (sort : Sort) (t : Tree Op) (c : ℕ) → HasClassOfSort middle sort t c → IsPresentClass last c t
      one sort t c h =
          let k = inserted_keeps others inserted h.class in
          let made = (present new c is_new (has new [] t c (All-nil (HasClass new)) k)).made in
          let kept = keeps is_new in
          record { made = omega (arith, made, kept.0); is = kept.1 t c k }

      by : (o : Option ℕ) (t entry : Tree Op) → IsRegisterClass middle o t entry → IsPresentRegister last o t entry
      by None t entry h = h
      by (Some c) t entry h = one sorts.Word t c h

  pub present_both :
      (first new last : Graph Op) (words : List ℕ) (instrs : List Instr) (branch : Option Branch) (before : ℕ) (i : Inserted) →
      IsCodeInserted first instrs before i new →
      before ≡ before_branch words branch →
      map decoded words ≡ map Some instrs →
      KeepsClasses new last →
      IsGraph op_signature last →
      ArePresentClasses last i.at_branch i.memory_at_branch (terms_at_branch branch instrs)
      × ArePresentClasses last i.at_end i.memory_at_end (terms_at_end instrs)
  present_both first new last words instrs branch before i is at decode keeps is_last =
      let ts : terms_after before instrs ≡ terms_at_branch branch instrs = ap (λ n. terms_after n instrs) at ∙ before_terms words instrs branch decode in (
        subst (ArePresentClasses last i.at_branch i.memory_at_branch) ts
            (present_after is.middle new last i.at_branch i.memory_at_branch (terms_after before instrs)
            (terms_written_from (drop before instrs) (terms_after before instrs)) is.at_branch is.rest keeps is.graph is_last),
        present_after new new last i.at_end i.memory_at_end (terms_at_end instrs) [] is.at_end none_inserted keeps is.graph is_last,
      )

  -- so do the classes of addresses
  module _ (new last : Graph Op) (keeps : KeepsClasses new last) (is_new : IsGraph op_signature new) where
    present_address : (i : Instr) (ts : TermState) (a : Option ℕ) → IsAddress new i ts a → IsPresentAddress last i ts a
    present_address i ts None h = h
    present_address i ts (Some c) h =
        let made = (present new c is_new (has new [] (place_term i ts) c (All-nil (HasClass new)) h)).made in
        let kept = keeps is_new in
        record { made = omega (arith, made, kept.0); is = kept.1 (place_term i ts) c h }

    pub present_addresses : (is : List Instr) (ts : TermState) (addresses : List (Option ℕ)) → AreAddresses new is ts addresses → ArePresentAddresses last is ts addresses
    present_addresses [] ts [] h = h
    present_addresses [] ts (a ∷ addresses) h = h
    present_addresses (i ∷ is) ts [] h = h
    present_addresses (i ∷ is) ts (a ∷ addresses) h = (present_address i ts a h.0, present_addresses is (term_step i ts) addresses h.1)
