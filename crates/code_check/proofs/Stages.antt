-- One word more is inserted.
use Rattle.std.proofs.Common.{◌≡◌, ℕ, zero, suc, ◌+◌, ◌*◌, ◌<◌, ◌≤◌, List, [], ◌∷◌, ◌++◌, map, take, length, refl, sym, ◌∙◌, ap, subst, arith, Option, Some, None}
use Rattle.std.specs.Prelude.{slice_get, slice_index}
use Rattle.std.proofs.lemmas.List.{length-map, take_all}
use Rattle.word_ops.specs.declared.sorts.Op.{Op}
use Rattle.word_terms.specs.Tree.{Tree}
use Rattle.egraph.specs.Graph.{Graph}
use Rattle.alpha_encode.specs.Decoded.{decoded}
use Rattle.alpha_encode.specs.declared.instructions.Instr.{Instr}
use Rattle.pattern_match.specs.Classes.{IsClass}
use Rattle.saturation.specs.Trace.{AreInserted, none_inserted, one_inserted}
use Rattle.code_check.specs.Terms.{TermState, terms_written, term_step, terms_from, terms_written_from}
use Rattle.code_check.specs.Classes.{AreAddresses, AreClassesOf, InsertsWritten, IsAddress}
use Rattle.code_check.proofs.Built.{KeepsOthers}
use Rattle.code_check.proofs.Running.{taken, terms_more}

-- terms that are inserted one after another
abbrev pub InsertsBoth : Type 0
InsertsBoth = (terms more : List (Tree Op)) (g h new : Graph Op) → AreInserted terms g h → AreInserted more h new → AreInserted (terms ++ more) g new

append_nil : {X : Type 0} (xs : List X) → xs ++ [] ≡ xs
append_nil [] = refl
append_nil (x ∷ xs) = ap (λ ys. x ∷ ys) (append_nil xs)

pub append_twice : {X : Type 0} (xs ys zs : List X) → xs ++ (ys ++ zs) ≡ (xs ++ ys) ++ zs
append_twice [] ys zs = refl
append_twice (x ∷ xs) ys zs = ap (λ us. x ∷ us) (append_twice xs ys zs)

given_more : (is : List Instr) (i : Instr) (ts : TermState) → terms_written_from (is ++ i ∷ []) ts ≡ terms_written_from is ts ++ terms_written i (terms_from is ts)
given_more [] i ts = append_nil (terms_written i ts)
given_more (j ∷ is) i ts =
    ap (λ us. terms_written j ts ++ us) (given_more is i (term_step j ts))
    ∙ append_twice (terms_written j ts) (terms_written_from is (term_step j ts)) (terms_written i (terms_from is (term_step j ts)))

-- the word at a place is the instruction there
pub read_code : (words : List ℕ) (is : List Instr) → map decoded words ≡ map Some is → (k : ℕ) → k < length words → (i : Instr) × (slice_get is k ≡ Some i) × (decoded (slice_index words k) ≡ Some i)
read_code [] is e k l = absurd (omega (arith, l))
read_code (w ∷ words) [] e k l = absurd (no_cons (decoded w) (map decoded words) e)
  where
    no_cons : (o : Option Instr) (os : List (Option Instr)) → o ∷ os ≡ [] → ⊥
    no_cons o os e = cc
read_code (w ∷ words) (i ∷ is) e zero l = (i, refl, head_same (decoded w) (Some i) (map decoded words) (map Some is) e)
  where
    head_same : (o p : Option Instr) (os ps : List (Option Instr)) → o ∷ os ≡ p ∷ ps → o ≡ p
    head_same o p os ps e = cc
read_code (w ∷ words) (i ∷ is) e (suc k) l = read_code words is (tail_same (decoded w) (Some i) (map decoded words) (map Some is) e) k (omega (arith, l))
  where
    tail_same : (o p : Option Instr) (os ps : List (Option Instr)) → o ∷ os ≡ p ∷ ps → os ≡ ps
    tail_same o p os ps e = cc

-- ---- addresses keep their classes

pub inserted_keeps : KeepsOthers → {ts : List (Tree Op)} {g new : Graph Op} {u : Tree Op} {d : ℕ} → AreInserted ts g new → IsClass g [] u d → IsClass new [] u d
inserted_keeps others none_inserted h = h
inserted_keeps others {u} {d} (one_inserted {t} {ts} {g} {h} {new} {c} b w) k = inserted_keeps others w (others t u c d g h b k)

module _ (others : KeepsOthers) (terms : List (Tree Op)) (g new : Graph Op) (more : AreInserted terms g new) where
  address_later : (i : Instr) (ts : TermState) (a : Option ℕ) → IsAddress g i ts a → IsAddress new i ts a
  address_later i ts None h = h
  address_later i ts (Some c) h = inserted_keeps others more h

  pub addresses_later : (is : List Instr) (ts : TermState) (addresses : List (Option ℕ)) → AreAddresses g is ts addresses → AreAddresses new is ts addresses
  addresses_later [] ts [] h = h
  addresses_later [] ts (a ∷ addresses) h = h
  addresses_later (i ∷ is) ts [] h = h
  addresses_later (i ∷ is) ts (a ∷ addresses) h = (address_later i ts a h.0, addresses_later is (term_step i ts) addresses h.1)

pub addresses_append : (g : Graph Op) (is js : List Instr) (ts : TermState) (first rest : List (Option ℕ)) → AreAddresses g is ts first → AreAddresses g js (terms_from is ts) rest → AreAddresses g (is ++ js) ts (first ++ rest)
addresses_append g [] js ts [] rest h k = k
addresses_append g [] js ts (a ∷ first) rest h k = absurd h
addresses_append g (i ∷ is) js ts [] rest h k = absurd h
addresses_append g (i ∷ is) js ts (a ∷ first) rest h k = (h.0, addresses_append g is js (term_step i ts) first rest h.1 k)

-- the terms of the first k words are inserted
pub record Stage (start : Graph Op) (first : List (Option ℕ)) (entry : ℕ) (words : List ℕ) (g : Graph Op) (classes : List (Option ℕ)) (memory : ℕ) (addresses : List (Option ℕ)) (k : ℕ) : Type 0 where
  pub inserted :
      (is : List Instr) (ts : TermState) →
      map decoded words ≡ map Some is →
      AreClassesOf start first entry ts →
      AreInserted (terms_written_from (take k is) ts) start g
      × AreClassesOf g classes memory (terms_from (take k is) ts)
      × AreAddresses g (take k is) ts addresses
  pub few : length g.current ≤ length start.current + 5 * k

pub stage_none : (start : Graph Op) (words : List ℕ) (classes : List (Option ℕ)) (memory : ℕ) → Stage start classes memory words start classes memory [] 0
stage_none start words classes memory = record { inserted = λ is ts e are. (none_inserted, are, tt); few = omega arith }

module _ (start : Graph Op) (first : List (Option ℕ)) (entry : ℕ) (words : List ℕ) where
  pub stage_more : InsertsBoth → KeepsOthers → (g new : Graph Op) (classes classes_then : List (Option ℕ)) (memory memory_then : ℕ) (addresses : List (Option ℕ)) (address : Option ℕ) (k : ℕ) → Stage start first entry words g classes memory addresses k → k < length words
      → ((i : Instr) → decoded (slice_index words k) ≡ Some i → InsertsWritten i g classes memory new classes_then memory_then address) → length new.current ≤ length g.current + 5 → Stage start first entry words new classes_then memory_then (addresses ++ address ∷ []) (k + 1)
  stage_more both others g new classes classes_then memory memory_then addresses address k stage l each more = record {
    inserted = λ is ts e are.
        let r = read_code words is e k l in
        let i = r.0 in
        let before = stage.inserted is ts e are in
        let now = each i r.2 (terms_from (take k is) ts) before.1 in
        let one : k + 1 ≡ suc k = omega arith in
        let longer : take (k + 1) is ≡ take k is ++ i ∷ [] = ap (λ n. take n is) one ∙ taken is k i r.1 in (
          subst (λ us. AreInserted us start new) (sym (ap (λ js. terms_written_from js ts) longer ∙ given_more (take k is) i ts)) (both (terms_written_from (take k is) ts) (terms_written i (terms_from (take k is) ts)) start g new before.0 now.inserted),
          subst (λ us. AreClassesOf new classes_then memory_then us) (sym (ap (λ js. terms_from js ts) longer ∙ terms_more (take k is) i ts)) now.after,
          subst (λ js. AreAddresses new js ts (addresses ++ address ∷ [])) (sym longer)
              (addresses_append new (take k is) (i ∷ []) ts addresses (address ∷ [])
              (addresses_later others (terms_written i (terms_from (take k is) ts)) g new now.inserted (take k is) ts addresses before.2)
              (now.address_is, tt)),
        );
    few = let f = stage.few in omega (arith, f, more);
  }

  pub stage_all : (g : Graph Op) (classes : List (Option ℕ)) (memory : ℕ) (addresses : List (Option ℕ)) (k : ℕ) → Stage start first entry words g classes memory addresses k → length words ≤ k → (is : List Instr) (ts : TermState) → map decoded words ≡ map Some is
      → AreClassesOf start first entry ts → AreInserted (terms_written_from is ts) start g × AreClassesOf g classes memory (terms_from is ts) × AreAddresses g is ts addresses
  stage_all g classes memory addresses k stage l is ts e are =
      let count : length words ≡ length is = sym (length-map words decoded) ∙ ap length e ∙ length-map is Some in
      let all : take k is ≡ is = take_all k is (omega (arith, l, count)) in
      subst (λ js. AreInserted (terms_written_from js ts) start g × AreClassesOf g classes memory (terms_from js ts) × AreAddresses g js ts addresses) all (stage.inserted is ts e are)
