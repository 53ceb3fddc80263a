-- The linked instructions have words: their displacements fit.
use Rattle.std.proofs.Common.{◌≡◌, ℕ, pos, negsuc, ◌+◌, ◌-◌, ◌^◌, ◌<◌, ◌≤◌, List, [], ◌∷◌, length, subst, inl, inr, arith}
use Rattle.std.specs.Prelude.{All}
use Rattle.std.specs.List.{AllZip}
use Rattle.std.proofs.lemmas.Bool.{cases_lt}
use Rattle.std.proofs.lemmas.Int.{ints}
use Rattle.std.proofs.lemmas.List.Elements.{All-nil, All-cons, All-head, All-tail, All-append}
use Rattle.std.proofs.lemmas.Slice.Zip.{AllZip-long}
use Rattle.alpha_encode.specs.Formats.{FitsBits, IsWellFormed}
use Rattle.alpha_encode.specs.declared.instructions.Instr.{Instr}
use Rattle.alpha_encode.specs.declared.instructions.Instr.TheVariants.{Operate, Lda, Ldah, Load, Store, Ldq, Stq, Beq}
use Rattle.proc_goal.specs.Views.{BlockTree, ProcTree}
use Rattle.proc_goal.specs.declared.procs.Target.{Target}
use Rattle.proc_goal.specs.declared.procs.Target.TheVariants.{Block, Done}
use Rattle.proc_link.specs.Blocks.{other_of}
use Rattle.proc_link.specs.Linked.{block_instrs, displacement_between, led, led_from, linked, linked_from, place_of_target, words_before}
use Rattle.proc_link.proofs.Does.{Does}
use Rattle.proc_link.proofs.Placing.{few_before}
use Rattle.proc_link.proofs.Steps.{AreDone, few_of}

pub fits : (p t : ℕ) → p < 2 ^ 20 → t < 2 ^ 20 → FitsBits 21 (displacement_between p t)
fits p t lp lt = elim (cases_lt p t) [
  | inl after ↦ (let e : pos (t - (p + 1)) ≡ displacement_between p t = omega (arith, ints, after) in subst (FitsBits 21) e (omega (arith, lt)))
  | inr before ↦ (let e : negsuc (p - t) ≡ displacement_between p t = omega (arith, ints, before) in subst (FitsBits 21) e (omega (arith, lp)))
]

-- an instruction that is led from one place to another has a word
pub word_fits : (p t : ℕ) → p < 2 ^ 20 → t < 2 ^ 20 → (i : Instr) → IsWellFormed i → IsWellFormed (led (displacement_between p t) i)
word_fits p t lp lt (Operate op ra second rc) wf = wf
word_fits p t lp lt (Lda ra rb disp) wf = wf
word_fits p t lp lt (Ldah ra rb disp) wf = wf
word_fits p t lp lt (Load access ra rb disp) wf = wf
word_fits p t lp lt (Store access ra rb disp) wf = wf
word_fits p t lp lt (Ldq ra rb disp) wf = wf
word_fits p t lp lt (Stq ra rb disp) wf = wf
word_fits p t lp lt (Beq ra disp) wf = (wf.0, fits p t lp lt)

all_fit : (from to : ℕ) (is : List Instr) → from + length is ≤ 12352 → to ≤ 12352 → All IsWellFormed is → All IsWellFormed (led_from from to is)
all_fit from to [] l lt wf = All-nil IsWellFormed
all_fit from to (i ∷ is) l lt wf =
    All-cons IsWellFormed (led (displacement_between from to) i) (led_from (from + 1) to is)
    (word_fits from to (omega (arith, l)) (omega (arith, lt)) i (All-head IsWellFormed i is wf))
    (all_fit (from + 1) to is (omega (arith, l)) lt (All-tail IsWellFormed i is wf))

module _ (p : ProcTree) (place : Target → ℕ) (low : (t : Target) → place t ≤ 12352) where
  words_fit : (from : ℕ) (bs : List BlockTree) (ls : List (List Instr)) → AllZip (Does p) bs ls → from + words_before ls (length ls) ≤ 12352 → All IsWellFormed (linked_from place from bs ls)
  words_fit from [] ls h l = All-nil IsWellFormed
  words_fit from (b ∷ bs) [] h l = absurd h
  words_fit from (b ∷ bs) (is ∷ ls) h l =
      All-append IsWellFormed (block_instrs place from b is) (linked_from place (from + (length is + 1)) bs ls)
      (All-append IsWellFormed (led_from from (place (other_of b)) is) (Beq 31 (displacement_between (from + length is) (place b.go)) ∷ [])
      (all_fit from (place (other_of b)) is (omega (arith, l)) (low (other_of b)) h.0.well_formed)
      (All-cons IsWellFormed (Beq 31 (displacement_between (from + length is) (place b.go))) [] (omega arith, fits (from + length is) (place b.go) (omega (arith, l)) (let lt = low b.go in omega (arith, lt))) (All-nil IsWellFormed)))
      (words_fit (from + (length is + 1)) bs ls h.1 (omega (arith, l)))

module _ (p : ProcTree) (listings : List (List Instr)) (are : AreDone p listings) where
  before_low : (i : ℕ) → words_before listings i ≤ 12352
  before_low i =
      let e = few_before listings i (few_of p p.blocks listings are.listings_are) in
      let long = AllZip-long (Does p) p.blocks listings are.listings_are in
      let few = are.few in
      omega (arith, e, long, few)

  pub place_low : (t : Target) → place_of_target listings t ≤ 12352
  place_low (Block i) = before_low i
  place_low Done = before_low (length listings)

  from_zero : {n : ℕ} → n ≤ 12352 → 0 + n ≤ 12352
  from_zero l = omega (arith, l)

  pub linked_fit : All IsWellFormed (linked p.blocks listings)
  linked_fit = words_fit p (place_of_target listings) place_low 0 p.blocks listings are.listings_are (from_zero (before_low (length listings)))
