-- The formula that the steps of the encoder build.
use Rattle.std.proofs.Common.{◌≡◌, ℕ, ◌+◌, ◌<◌, ◌≤◌, ◌^◌, List, ◌++◌, [], length, refl, ap, ◌∙◌, arith, length-append}
use Rattle.cycle_encoding.specs.Limits.{most_clauses}
use Rattle.cnf_core.specs.declared.literal.Lit.{Lit}
use Rattle.cnf_core.specs.Formula.{Formula}
use Rattle.cycle_encoding.specs.Shapes.{counters, counters_vars, counters_size}
use Rattle.std.specs.Prelude.{Result, Ok, Err, IfOk, IfErr, OnOk}
use Rattle.cycle_encoding.specs.Steps.{with_clauses}
use Rattle.cycle_encoding.proofs.Rows.{formula}

-- three parts and then counters: the room that each takes, and what comes of them
module _ (T O S : List (List Lit)) (groups : List (List Lit)) (n : ℕ) (f0 f1 f2 f3 f4 : Formula) (e0 : f0 ≡ record { vars = n; clauses = [] }) (e1 : f1 ≡ with_clauses f0 T) (e2 : f2 ≡ with_clauses f1 O) where
  size2 : length f2.clauses ≡ length T + length O
  size2 =
      let a = ap (λ (f : Formula). length f.clauses) e0 in
      let b = ap (λ (f : Formula). length f.clauses) e1 ∙ length-append f0.clauses T in
      let c = ap (λ (f : Formula). length f.clauses) e2 ∙ length-append f1.clauses O in
      let z : length {A = List Lit} [] ≡ 0 = refl in
      omega arith

  total : (C : List (List Lit)) → length (T ++ O ++ S ++ C) ≡ length T + length O + length S + length C
  total C =
      let a = length-append (T ++ O ++ S) C in
      let b = length-append (T ++ O) S in
      let c = length-append T O in
      omega arith

  pub room_of_sights : length (T ++ O ++ S ++ counters n 1 groups) ≤ most_clauses → length f2.clauses + length S < 2 ^ 30
  room_of_sights le = (let a = size2 in let b = total (counters n 1 groups) in omega arith)

  module _ (e3 : f3 ≡ with_clauses f2 S) where
    vars3 : f3.vars ≡ n
    vars3 = ap (λ (f : Formula). f.vars) e3 ∙ ap (λ (f : Formula). f.vars) e2 ∙ ap (λ (f : Formula). f.vars) e1 ∙ ap (λ (f : Formula). f.vars) e0

    clauses3 : f3.clauses ≡ T ++ O ++ S
    clauses3 =
        ap (λ (f : Formula). f.clauses) e3 ∙ ap (λ (f : Formula). f.clauses ++ S) e2 ∙ ap (λ (f : Formula). f.clauses ++ O ++ S) e1 ∙ ap (λ (f : Formula). f.clauses ++ T ++ O ++ S) e0

    pub room_of_slots : length (counters n 1 groups) ≡ counters_size 1 groups → length (T ++ O ++ S ++ counters n 1 groups) ≤ most_clauses → length f3.clauses + counters_size 1 groups < 2 ^ 30
    room_of_slots size le =
        let a = ap (λ (cs : List (List Lit)). length cs) clauses3 in
        let b = length-append (T ++ O ++ S) (counters n 1 groups) in
        omega arith

    pub built : f4 ≡ record { vars = f3.vars + counters_vars 1 groups; clauses = f3.clauses ++ counters f3.vars 1 groups } → f4 ≡ record { vars = n + counters_vars 1 groups; clauses = T ++ O ++ S ++ counters n 1 groups }
    built e4 =
        e4 ∙ formula (f3.vars + counters_vars 1 groups) (n + counters_vars 1 groups) (f3.clauses ++ counters f3.vars 1 groups) (T ++ O ++ S ++ counters n 1 groups)
        (ap (λ m. m + counters_vars 1 groups) vars3) (ap (λ m. f3.clauses ++ counters m 1 groups) vars3 ∙ ap (λ (cs : List (List Lit)). cs ++ counters n 1 groups) clauses3)

pub begun : (f h : Formula) (a b c d : ℕ) → f ≡ record { vars = 0; clauses = [] } → h ≡ record f { vars = f.vars + (a + b) } → a ≡ c → b ≡ d → h ≡ record { vars = c + d; clauses = [] }
begun f h a b c d ef eh ea eb =
    eh ∙ formula (f.vars + (a + b)) (c + d) f.clauses [] (let v = ap (λ (f : Formula). f.vars) ef in omega arith) (ap (λ (f : Formula). f.clauses) ef)

pub on_ok : {A E : Type 0} (r : Result A E) (P : Type 0) → P → OnOk r P
on_ok (Ok a) P p = p
on_ok (Err x) P p = tt

-- the same of a result whose promise says more
pub if_ok : {A E : Type 0} (P Q : A → Type 0) (r : Result A E) → ((a : A) → P a → Q a) → IfOk r P → IfOk r Q
if_ok P Q (Ok a) f h = f a h
if_ok P Q (Err x) f h = tt

pub if_err : {A E : Type 0} (P Q : E → Type 0) (r : Result A E) → ((x : E) → P x → Q x) → IfErr r P → IfErr r Q
if_err P Q (Ok a) f h = tt
if_err P Q (Err x) f h = f x h

pub on_ok_more : {A E : Type 0} (P Q : Type 0) (r : Result A E) → (P → Q) → OnOk r P → OnOk r Q
on_ok_more P Q (Ok a) f h = f h
on_ok_more P Q (Err x) f h = tt

pub if_ok_both : {A E : Type 0} (P R Q : A → Type 0) (r : Result A E) → ((a : A) → P a → R a → Q a) → IfOk r P → IfOk r R → IfOk r Q
if_ok_both P R Q (Ok a) f h k = f a h k
if_ok_both P R Q (Err x) f h k = tt
