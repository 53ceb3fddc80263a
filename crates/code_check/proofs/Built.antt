-- What inserts of rows give for the terms of words.
use Rattle.std.proofs.Common.{◌≡◌, ◌≢◌, ℕ, zero, suc, ◌+◌, ◌<◌, ◌≤◌, List, [], ◌∷◌, ◌++◌, length, set, refl, sym, ◌∙◌, ap, subst, inl, inr, arith, Bool, false, ◌==◌, Option, Some, None}
use Rattle.std.specs.Prelude.{ℤ, FitsSigned, IfOk, OnOk, slice_index_or, if◌then◌else◌}
use Rattle.std.specs.Int.{w16, w64}
use Rattle.std.proofs.lemmas.Int.{ints, to_z-of_z}
use mir.Val.{to_z, of_z}
use Rattle.std.specs.declared.result.Result.{Result}
use Rattle.std.specs.declared.result.Result.TheVariants.{Ok, Err}
use Rattle.std.proofs.lemmas.Bool.Decides.{eqb_tells}
use Rattle.std.proofs.lemmas.List.{length-append, length-set, get_or-set_same, get_or-set_other}
use Rattle.word_ops.specs.Worlds.{Value}
use Rattle.word_ops.specs.Meanings.{sort_of}
use Rattle.word_ops.specs.Memory as accesses
use Rattle.word_ops.specs.declared.sorts.Access.{Access}
use Rattle.word_ops.specs.declared.sorts.Access.TheVariants.{Quad}
use Rattle.word_ops.specs.declared.sorts.Op.{Op}
use Rattle.word_ops.specs.declared.sorts.Op.TheVariants.{Constant, Input}
use Rattle.word_ops.specs.declared.sorts.Sort.{Sort}
use Rattle.word_ops.specs.declared.sorts.Sort.TheVariants as sorts
use Rattle.word_terms.specs.Keys.{op_signature}
use Rattle.word_terms.specs.Tree.{Tree, application, none, more}
use Rattle.word_terms.specs.Building.{constant}
use Rattle.egraph.specs.Graph.{Graph, IsGraph, IsInserted}
use Rattle.egraph.specs.Sorts.{AreOfSorts, IsOfSort, KeepsSorts}
use Rattle.egraph.specs.Values.{ExtendsValues}
use Rattle.pattern_match.specs.Classes.{IsClass}
use Rattle.saturation.specs.GoalTerms.{input_term}
use Rattle.saturation.specs.Trace.{IsBuilt, put, none_built, one_built, AreInserted, none_inserted, one_inserted}
use Rattle.alpha_encode.specs.declared.instructions.Instr.{Instr}
use Rattle.alpha_encode.specs.declared.instructions.Instr.TheVariants.{Load, Ldq}
use Rattle.code_check.specs.Terms.{TermState, alignment, needed_alignment, sign_extended, term_step, terms_at_entry, terms_written, unless_zero_register, with_term}
use Rattle.code_check.specs.Classes.{HasClassOfSort, IsLoaded, IsRowInserted, IsTermInserted, IsRegisterClass, IsWritten, AreClassesOf}

-- ---- laws of inserted terms

-- a term that has a class is inserted already
abbrev pub IsThere : Type 0
IsThere = (t : Tree Op) (c : ℕ) (g : Graph Op) → IsGraph op_signature g → IsClass g [] t c → IsBuilt [] t g c g

-- one that was inserted has the class that it was given
abbrev pub HasOwnClass : Type 0
HasOwnClass = (t : Tree Op) (c : ℕ) (g new : Graph Op) → IsGraph op_signature g → IsBuilt [] t g c new → IsClass new [] t c

-- all others keep theirs
abbrev pub KeepsOthers : Type 0
KeepsOthers = (t other : Tree Op) (c d : ℕ) (g new : Graph Op) → IsBuilt [] t g c new → IsClass g [] other d → IsClass new [] other d

-- ---- parts of an answer together

pub all_of : {A E : Type 0} (r : Result A E) (P Q : A → Type 0) (R S : Type 0) → IfOk r P → IfOk r Q → OnOk r R → S → IfOk r (λ x. P x × Q x × R × S)
all_of (Ok x) P Q R S p q a b = (p, q, a, b)
all_of (Err e) P Q R S p q a b = tt

more_made : (old new : Graph Op) (op : Op) (cs : List ℕ) (c : ℕ) → IsInserted old op cs c new → length new.current ≤ length old.current + 1
more_made old new op cs c (inl h) = let e : length new.current ≡ length old.current = ap (λ (g : Graph Op). length g.current) h.1 in omega (arith, e)
more_made old new op cs c (inr h) =
    let e : length new.current ≡ length (old.current ++ length old.current ∷ []) = ap (λ (g : Graph Op). length g.current) h.2 in
    omega (arith, e, length-append old.current (length old.current ∷ []))

pub has_put : (old new : Graph Op) (op : Op) (cs : List ℕ) (c : ℕ) → IsInserted old op cs c new × IsOfSort op_signature new c (sort_of op) × ExtendsValues Value old new × KeepsSorts op_signature old new → IsGraph op_signature new → IsRowInserted old op cs c new
has_put old new op cs c h is = record {
  is_put = record { inserted = h.0; values = h.2; graph = is };
  of_sort = h.1;
  keeps = h.3;
  few = more_made old new op cs c h.0;
}

-- ---- terms

-- a register that was written
pub written_built : IsThere → (g : Graph Op) (classes : List (Option ℕ)) (r c : ℕ) → r < 32 → slice_index_or classes r None ≡ Some c → (ts : TermState) (memory : ℕ) → AreClassesOf g classes memory ts → IsTermInserted g sorts.Word (ts.registers r) c g
written_built there g classes r c below e ts memory are =
    let h : HasClassOfSort g sorts.Word (ts.registers r) c = subst (λ o. IsRegisterClass g o (ts.registers r) (terms_at_entry.registers r)) e (are.registers r below) in
    record { built = there (ts.registers r) c g are.graph h.class; of_sort = h.of_sort; keeps = λ class sort k. k; graph = are.graph }

leaf_built : (g new : Graph Op) (op : Op) (c : ℕ) (sort : Sort) → sort_of op ≡ sort → IsRowInserted g op [] c new → IsTermInserted g sort (application op none) c new
leaf_built g new op c sort e h = record {
  built = put none_built h.is_put;
  of_sort = subst (IsOfSort op_signature new c) e h.of_sort;
  keeps = h.keeps;
  graph = h.is_put.graph;
}

entry_is : (g : Graph Op) (classes : List (Option ℕ)) (r : ℕ) → r < 32 → slice_index_or classes r None ≡ None → (ts : TermState) (memory : ℕ) → AreClassesOf g classes memory ts → ts.registers r ≡ terms_at_entry.registers r
entry_is g classes r below e ts memory are = subst (λ o. IsRegisterClass g o (ts.registers r) (terms_at_entry.registers r)) e (are.registers r below)

pub zero_built : (g new : Graph Op) (classes : List (Option ℕ)) (r c : ℕ) → r < 32 → slice_index_or classes r None ≡ None → r ≡ 31 → IsRowInserted g (Constant 0) [] c new → (ts : TermState) (memory : ℕ) → AreClassesOf g classes memory ts → IsTermInserted g sorts.Word (ts.registers r) c new
zero_built g new classes r c below e is h ts memory are =
    let same : constant 0 ≡ ts.registers r = sym (entry_is g classes r below e ts memory are ∙ ap terms_at_entry.registers is) in
    subst (λ t. IsTermInserted g sorts.Word t c new) same (leaf_built g new (Constant 0) c sorts.Word refl h)

pub input_built : (g new : Graph Op) (classes : List (Option ℕ)) (r c : ℕ) → r < 32 → slice_index_or classes r None ≡ None → r ≢ 31 → IsRowInserted g (Input r) [] c new → (ts : TermState) (memory : ℕ) → AreClassesOf g classes memory ts → IsTermInserted g sorts.Word (ts.registers r) c new
input_built g new classes r c below e isnt h ts memory are = elim (eqb_tells r 31) [
  | inl k ↦ absurd (isnt k.1)
  | inr k ↦ (
      let same : input_term r ≡ ts.registers r = sym (entry_is g classes r below e ts memory are ∙ ap (λ b. if b then constant 0 else input_term r) k.0) in
      subst (λ t. IsTermInserted g sorts.Word t c new) same (leaf_built g new (Input r) c sorts.Word refl h))
]

-- ---- operands in order

pub are_later : KeepsOthers → (g new : Graph Op) (classes : List (Option ℕ)) (memory : ℕ) (ts : TermState) (sort : Sort) (t : Tree Op) (c : ℕ) → IsTermInserted g sort t c new → AreClassesOf g classes memory ts → AreClassesOf new classes memory ts
are_later others g new classes memory ts sort t c b are = record {
  graph = b.graph;
  count = are.count;
  registers = λ r below. register_later (slice_index_or classes r None) (ts.registers r) (terms_at_entry.registers r) (are.registers r below);
  memory_is = term_later sorts.Memory ts.memory memory are.memory_is;
}
  where
    term_later : (s : Sort) (u : Tree Op) (d : ℕ) → HasClassOfSort g s u d → HasClassOfSort new s u d
    term_later s u d h = record { class = others t u c d g new b.built h.class; of_sort = b.keeps d s h.of_sort }

    register_later : (o : Option ℕ) (u entry : Tree Op) → IsRegisterClass g o u entry → IsRegisterClass new o u entry
    register_later None u entry h = h
    register_later (Some d) u entry h = record { class = others t u c d g new b.built h.class; of_sort = b.keeps d sorts.Word h.of_sort }

pub literal_built : (g new : Graph Op) (n c : ℕ) → IsRowInserted g (Constant n) [] c new → IsTermInserted g sorts.Word (constant n) c new
literal_built g new n c h = leaf_built g new (Constant n) c sorts.Word refl h

pub one_sorted : (g : Graph Op) (sort_at : ℕ → Sort) (a : ℕ) → IsOfSort op_signature g a (sort_at 0) → AreOfSorts op_signature g sort_at (a ∷ [])
one_sorted g sort_at a h zero l = h
one_sorted g sort_at a h (suc n) l = absurd (omega (arith, l))

pub two_sorted : (g : Graph Op) (sort_at : ℕ → Sort) (a b : ℕ) → IsOfSort op_signature g a (sort_at 0) → IsOfSort op_signature g b (sort_at 1) → AreOfSorts op_signature g sort_at (a ∷ b ∷ [])
two_sorted g sort_at a b h k zero l = h
two_sorted g sort_at a b h k (suc zero) l = k
two_sorted g sort_at a b h k (suc (suc n)) l = absurd (omega (arith, l))

pub three_sorted : (g : Graph Op) (sort_at : ℕ → Sort) (a b c : ℕ) → IsOfSort op_signature g a (sort_at 0) → IsOfSort op_signature g b (sort_at 1) → IsOfSort op_signature g c (sort_at 2) → AreOfSorts op_signature g sort_at (a ∷ b ∷ c ∷ [])
three_sorted g sort_at a b c h k m zero l = h
three_sorted g sort_at a b c h k m (suc zero) l = k
three_sorted g sort_at a b c h k m (suc (suc zero)) l = m
three_sorted g sort_at a b c h k m (suc (suc (suc n))) l = absurd (omega (arith, l))

-- a row over one, two or three operands that were inserted one after another
pub over_one : (g h new : Graph Op) (op : Op) (s sort : Sort) (t : Tree Op) (a c : ℕ) → sort_of op ≡ sort → IsTermInserted g s t a h → IsRowInserted h op (a ∷ []) c new → IsTermInserted g sort (application op (more t none)) c new
over_one g h new op s sort t a c e x p = record {
  built = put (one_built x.built none_built) p.is_put;
  of_sort = subst (IsOfSort op_signature new c) e p.of_sort;
  keeps = λ d q k. p.keeps d q (x.keeps d q k);
  graph = p.is_put.graph;
}

pub over_two : (g h i new : Graph Op) (op : Op) (s r sort : Sort) (t u : Tree Op) (a b c : ℕ) → sort_of op ≡ sort → IsTermInserted g s t a h → IsTermInserted h r u b i → IsRowInserted i op (a ∷ b ∷ []) c new → IsTermInserted g sort (application op (more t (more u none))) c new
over_two g h i new op s r sort t u a b c e x y p = record {
  built = put (one_built x.built (one_built y.built none_built)) p.is_put;
  of_sort = subst (IsOfSort op_signature new c) e p.of_sort;
  keeps = λ d q k. p.keeps d q (y.keeps d q (x.keeps d q k));
  graph = p.is_put.graph;
}

pub over_three : (g h i j new : Graph Op) (op : Op) (s r q sort : Sort) (t u v : Tree Op) (a b d c : ℕ) → sort_of op ≡ sort → IsTermInserted g s t a h → IsTermInserted h r u b i → IsTermInserted i q v d j → IsRowInserted j op (a ∷ b ∷ d ∷ []) c new → IsTermInserted g sort (application op (more t (more u (more v none)))) c new
over_three g h i j new op s r q sort t u v a b d c e x y z p = record {
  built = put (one_built x.built (one_built y.built (one_built z.built none_built))) p.is_put;
  of_sort = subst (IsOfSort op_signature new c) e p.of_sort;
  keeps = λ f o k. p.keeps f o (z.keeps f o (y.keeps f o (x.keeps f o k)));
  graph = p.is_put.graph;
}

-- a row over classes that are there takes no class from a term
module _ (there : IsThere) (others : KeepsOthers) (late new : Graph Op) (is : IsGraph op_signature late) (op : Op) (t u : Tree Op) (a b c : ℕ) (x : IsClass late [] t a) (y : IsClass late [] u b) where
  pub two_keep : IsRowInserted late op (a ∷ b ∷ []) c new → (v : Tree Op) (d : ℕ) → IsClass late [] v d → IsClass new [] v d
  two_keep p v d k =
      others (application op (more t (more u none))) v c d late new (put (one_built (there t a late is x) (one_built (there u b late is y) none_built)) p.is_put) k

  pub three_keep : (w : Tree Op) (e : ℕ) → IsClass late [] w e → IsRowInserted late op (a ∷ b ∷ e ∷ []) c new → (v : Tree Op) (d : ℕ) → IsClass late [] v d → IsClass new [] v d
  three_keep w e z p v d k =
      others (application op (more t (more u (more w none)))) v c d late new
      (put (one_built (there t a late is x) (one_built (there u b late is y) (one_built (there w e late is z) none_built))) p.is_put) k

-- the memory's term is there
pub memory_built : IsThere → (g : Graph Op) (classes : List (Option ℕ)) (memory : ℕ) (ts : TermState) → AreClassesOf g classes memory ts → IsTermInserted g sorts.Memory ts.memory memory g
memory_built there g classes memory ts are = record { built = there ts.memory memory g are.graph are.memory_is.class; of_sort = are.memory_is.of_sort; keeps = λ class sort k. k; graph = are.graph }

-- ---- what an instruction leaves

module _ (others : KeepsOthers) (own : HasOwnClass) (old new : Graph Op) (classes : List (Option ℕ)) (memory : ℕ) (ts : TermState) (are : AreClassesOf old classes memory ts) where
  module _ (r c : ℕ) (t : Tree Op) (b : IsTermInserted old sorts.Word t c new) where
    abbrev written : Bool → TermState
    written k = record { registers = λ q. if k then ts.registers q else (if q == r then t else ts.registers q); memory = ts.memory }

    later : AreClassesOf new classes memory ts
    later = are_later others old new classes memory ts sorts.Word t c b are

    module _ (below : r < 32) (q : ℕ) (low : q < 32) where
      register_now : IsRegisterClass new (slice_index_or (set classes r (Some c)) q None) (if q == r then t else ts.registers q) (terms_at_entry.registers q)
      register_now = elim (eqb_tells q r) [
        | inl e ↦ (
            let count = are.count in
            let at : slice_index_or (set classes r (Some c)) q None ≡ Some c = ap (λ n. slice_index_or (set classes r (Some c)) n None) e.1 ∙ get_or-set_same classes r (Some c) None (omega (arith, below, count)) in
            subst (λ o. IsRegisterClass new o (if q == r then t else ts.registers q) (terms_at_entry.registers q)) (sym at)
            (subst (λ u. HasClassOfSort new sorts.Word u c) (sym (ap (λ k. if k then t else ts.registers q) e.0)) (record { class = row_class; of_sort = b.of_sort })))
        | inr e ↦ (
            let at : slice_index_or (set classes r (Some c)) q None ≡ slice_index_or classes q None = get_or-set_other classes r q (Some c) None e.1 in
            subst (λ o. IsRegisterClass new o (if q == r then t else ts.registers q) (terms_at_entry.registers q)) (sym at)
            (subst (λ u. IsRegisterClass new (slice_index_or classes q None) u (terms_at_entry.registers q)) (sym (ap (λ k. if k then t else ts.registers q) e.0)) (later.registers q low)))
      ]
        where
          row_class : IsClass new [] t c
          row_class = own t c old new are.graph b.built

    pub wrote : (classes_then : List (Option ℕ)) → r < 32 → r ≢ 31 → classes_then ≡ set classes r (Some c) → AreInserted (unless_zero_register r t) old new × AreClassesOf new classes_then memory (with_term ts r t)
    wrote classes_then below isnt e = elim (eqb_tells r 31) [
      | inl k ↦ absurd (isnt k.1)
      | inr k ↦ (
        subst (λ l. AreInserted (if l then [] else t ∷ []) old new) (sym k.0) (one_inserted b.built none_inserted),
        subst (λ s. AreClassesOf new classes_then memory s) (sym (ap written k.0)) (subst (λ l. AreClassesOf new l memory (written false)) (sym e) (record {
          graph = b.graph;
          count = length-set classes r (Some c) ∙ are.count;
          registers = register_now below;
          memory_is = later.memory_is;
        })),
      )
    ]

  pub stored : (c : ℕ) (t : Tree Op) → IsTermInserted old sorts.Memory t c new → AreInserted (t ∷ []) old new × AreClassesOf new classes c (record { registers = ts.registers; memory = t })
  stored c t b =
      let later = are_later others old new classes memory ts sorts.Memory t c b are in (
        one_inserted b.built none_inserted,
        record { graph = b.graph; count = are.count; registers = later.registers; memory_is = record { class = own t c old new are.graph b.built; of_sort = b.of_sort } },
      )

pub skipped : (g : Graph Op) (classes : List (Option ℕ)) (memory : ℕ) (ts : TermState) → AreClassesOf g classes memory ts → (r : ℕ) (t : Tree Op) → r ≡ 31 → AreInserted (unless_zero_register r t) g g × AreClassesOf g classes memory (with_term ts r t)
skipped g classes memory ts are r t is = elim (eqb_tells r 31) [
  | inr k ↦ absurd (k.1 is)
  | inl k ↦ (
    subst (λ l. AreInserted (if l then [] else t ∷ []) g g) (sym k.0) none_inserted,
    subst (λ s. AreClassesOf g classes memory s) (sym (ap (λ l. record { registers = λ q. if l then ts.registers q else (if q == r then t else ts.registers q); memory = ts.memory }) k.0))
        (record { graph = are.graph; count = are.count; registers = are.registers; memory_is = are.memory_is }),
  )
]

-- an instruction without an address
pub plain_written : (i : Instr) (old new : Graph Op) (ts : TermState) (classes : List (Option ℕ)) (memory : ℕ) → alignment i ≡ None → AreInserted (terms_written i ts) old new × AreClassesOf new classes memory (term_step i ts) → IsWritten i old ts new classes memory None
plain_written i old new ts classes memory e p = record { inserted = p.0; after = p.1; address_is = e }

-- a load, by the class of its address where it has one
module _ (access : Access) (ra rb : ℕ) (disp : ℤ) (old : Graph Op) (ts : TermState) (new : Graph Op) (classes : List (Option ℕ)) (memory : ℕ) where
  prefetch : ra ≡ 31 → alignment (Load access ra rb disp) ≡ None
  prefetch e = elim (eqb_tells ra 31) [
    | inl k ↦ ap (λ b. if b then None else needed_alignment (accesses.alignment access)) k.0
    | inr k ↦ absurd (k.1 e)
  ]

  pub load_written : (address : Option ℕ) → IsLoaded access ra rb (sign_extended disp) old ts new classes memory address → IsWritten (Load access ra rb disp) old ts new classes memory address
  load_written None h = record { inserted = h.inserted; after = h.after; address_is = prefetch h.address_is }
  load_written (Some c) h = record { inserted = h.inserted; after = h.after; address_is = h.address_is }

module _ (ra rb : ℕ) (disp : ℤ) (old : Graph Op) (ts : TermState) (new : Graph Op) (classes : List (Option ℕ)) (memory : ℕ) where
  ldq_prefetch : ra ≡ 31 → alignment (Ldq ra rb disp) ≡ None
  ldq_prefetch e = elim (eqb_tells ra 31) [
    | inl k ↦ ap (λ b. if b then None else Some 3) k.0
    | inr k ↦ absurd (k.1 e)
  ]

  pub ldq_written : (address : Option ℕ) → IsLoaded Quad ra rb (sign_extended disp) old ts new classes memory address → IsWritten (Ldq ra rb disp) old ts new classes memory address
  ldq_written None h = record { inserted = h.inserted; after = h.after; address_is = ldq_prefetch h.address_is }
  ldq_written (Some c) h = record { inserted = h.inserted; after = h.after; address_is = h.address_is }

-- the word of a displacement, as the code computes it
pub word_of_disp : (n : ℕ) (z d : ℤ) → FitsSigned w16 d → z ≡ to_z w16 (of_z w16 d) → n ≡ of_z w64 (to_z w64 (of_z w64 z)) → n ≡ sign_extended d
word_of_disp n z d fits e f = grind (arith, ints, to_z-of_z)
