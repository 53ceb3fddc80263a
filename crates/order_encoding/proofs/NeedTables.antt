-- The table of what is needed, class by class.
use Rattle.std.proofs.Common.{◌≡◌, ℕ, ◌+◌, ◌-◌, ◌*◌, ◌<◌, ◌≤◌, ◌^◌, ◌++◌, Bool, true, false, cond, List, length, map, take, get_or, Option, Some, None, refl, sym, ap, ◌∙◌, subst, arith, inl, inr}
use Rattle.std.specs.Prelude.{is_some}
use Rattle.std.specs.List.{filter, flat_map, range_with_len}
use Rattle.std.proofs.lemmas.List.{take_all}
use Rattle.cnf_core.specs.declared.literal.Lit.{Lit}
use Rattle.cnf_core.specs.Formula.{Formula}
use Rattle.std.proofs.lemmas.Bool.{cases_Bool}
use Rattle.graph_meaning.specs.WellFormed.{IsLaunchGraph, next_class}
use Rattle.graph_meaning.specs.declared.graphs.LaunchGraph.{LaunchGraph}
use Rattle.schedule_meaning.specs.declared.schedules.Launch.{Launch}
use Rattle.cycle_encoding.specs.Shapes.{implied, numbered}
use Rattle.cycle_encoding.specs.Steps.{with_clauses}
use Rattle.cycle_encoding.proofs.Adding.{added, size-with, vars-with}
use Rattle.cycle_encoding.proofs.Members.{NoTwice}
use Rattle.cycle_encoding.proofs.Counting.{sum-same}
use Rattle.cycle_encoding.proofs.Totals.{size-flat, sum-const}
use Rattle.order_encoding.specs.LiveVariables.{Need, all_needs, is_pooled, pooled_classes}
use Rattle.order_encoding.specs.LiveFamilies.{was_needed}
use Rattle.order_encoding.specs.OrderSteps.{AreNeedVars, class_needs, needed_before}
use Rattle.order_encoding.proofs.LiveListing.{pooled-below, pooled-once}
use Rattle.order_encoding.proofs.Grid.{blocks-size}
use Rattle.order_encoding.proofs.NeedSteps.{earlier-more, earlier-part, needs-part}
use Rattle.order_encoding.proofs.NeedPlaces.{needs_below, needs-size, start-at, start_of, starts-size}

pub needs-count : (k : ℕ) (cs : List ℕ) → length (all_needs k cs) ≡ length cs * k
needs-count k cs = size-flat (class_needs k) cs ∙ sum-same (λ c. length (class_needs k c)) (λ c. k) cs (needs-size k) ∙ sum-const k cs

module _ (g : LaunchGraph) (k : ℕ) (ls : List Launch) (classes : List ℕ) (starts : List (Option ℕ)) where
  abbrev P : ℕ → Bool
  P = is_pooled g (numbered 0 ls)

  pub need_table : IsLaunchGraph g → (n : ℕ) → n ≡ next_class g.rows → classes ≡ filter P (range_with_len 0 n) → starts ≡ map (start_of P k) (range_with_len 0 n) → AreNeedVars g k (numbered 0 ls) classes starts
  need_table well n en ec es = record {
    classes_are = ec ∙ ap (λ m. filter P (range_with_len 0 m)) en;
    starts_are = es ∙ ap (λ m. map (start_of P k) (range_with_len 0 m)) en;
    within = λ c h. pooled-below g well 0 ls c h;
  }

  module _ (is : AreNeedVars g k (numbered 0 ls) classes starts) where
    pub table-size : length starts ≡ next_class g.rows
    table-size = starts-size P k (next_class g.rows) starts is.starts_are

    pub table-at : (class : ℕ) (d : Option ℕ) → class < length starts → get_or starts class d ≡ start_of P k class
    table-at class d lt = start-at P k (next_class g.rows) starts is.starts_are class d lt

    pub table-past : (class : ℕ) → length starts ≤ class → false ≡ P class
    table-past class le =
        elim (cases_Bool (P class)) [
          | inl y ↦ (let lt = is.within class y in let z = table-size in absurd (omega arith))
          | inr f ↦ sym f
        ]

    pub table-tells : (class : ℕ) (o : Option ℕ) → o ≡ start_of P k class → is_some o ≡ P class
    table-tells class o e = ap is_some e ∙ tell (P class)
      where
        tell : (b : Bool) → is_some (cond b (Some (needs_below P k class)) None) ≡ b
        tell true = refl
        tell false = refl

-- ---- one class more in the table

module _ (g : LaunchGraph) (k : ℕ) (ls : List Launch) (classes : List ℕ) (starts : List (Option ℕ)) (is : AreNeedVars g k (numbered 0 ls) classes starts) (first i : ℕ) (lt : i < length classes) where
  abbrev pub needs_all : List Need
  needs_all = all_needs k (pooled_classes g (numbered 0 ls))

  abbrev pub F : Need → List (List Lit)
  F = was_needed (numbered first needs_all)

  abbrev pub so_far : ℕ → List (List Lit)
  so_far n = implied (numbered first (flat_map (class_needs k) (take n classes))) F

  once : NoTwice classes
  once = subst (λ (cs : List ℕ). NoTwice cs) (sym is.classes_are) (pooled-once g (numbered 0 ls))

  all_are : all_needs k classes ≡ needs_all
  all_are = ap (all_needs k) is.classes_are

  more : so_far (i + 1) ≡ so_far i ++ map (needed_before (first + length (flat_map (class_needs k) (take i classes)))) (range_with_len 1 (k - 1))
  more =
      subst (λ (ns : List Need). implied (numbered first (flat_map (class_needs k) (take (i + 1) classes))) (was_needed (numbered first ns)) ≡ implied (numbered first (flat_map (class_needs k) (take i classes))) (was_needed (numbered first ns)) ++ map (needed_before (first + length (flat_map (class_needs k) (take i classes)))) (range_with_len 1 (k - 1)))
      all_are (earlier-more k first classes once i 0 lt)

  part : length (so_far i) + (k - 1) ≤ length (implied (numbered first needs_all) F)
  part =
      subst (λ (ns : List Need). length (implied (numbered first (flat_map (class_needs k) (take i classes))) (was_needed (numbered first ns))) + (k - 1) ≤ length (implied (numbered first ns) (was_needed (numbered first ns))))
      all_are (earlier-part k first classes once i 0 lt)

  pub table-part : length (flat_map (class_needs k) (take i classes)) + k ≤ length needs_all
  table-part = subst (λ (ns : List Need). length (flat_map (class_needs k) (take i classes)) + k ≤ length ns) all_are (needs-part k first classes once i 0 lt)

  pub table-next : length (flat_map (class_needs k) (take (i + 1) classes)) ≡ length (flat_map (class_needs k) (take i classes)) + k
  table-next = blocks-size (class_needs k) k (needs-size k) classes i 0 lt

  module _ (f mid : Formula) (before : ℕ) (at : before ≡ first + length (flat_map (class_needs k) (take i classes))) (has : mid ≡ with_clauses f (so_far i)) where
    pub earlier_step : (new : Formula) → new ≡ with_clauses mid (map (needed_before before) (range_with_len 1 (k - 1))) → new ≡ with_clauses f (so_far (i + 1))
    earlier_step new e =
        added f mid new (map (needed_before before) (range_with_len 1 (k - 1))) (so_far i) (so_far (i + 1)) has e
        (more ∙ ap (λ b. so_far i ++ map (needed_before b) (range_with_len 1 (k - 1))) (sym at))

    pub earlier_room : length f.clauses + length (implied (numbered first needs_all) F) < 2 ^ 30 → length mid.clauses + (k - 1) < 2 ^ 30
    earlier_room room = (let a = size-with f mid (so_far i) has in let b = part in omega (arith, a, b))

    pub earlier_exist : (n : ℕ) → f.vars ≡ n → first + length needs_all ≤ n → before + k ≤ mid.vars
    earlier_exist n e exist = (let a = vars-with f mid (so_far i) has in let b = table-part in omega (arith, a, b))

-- all of them
pub all_earlier : (g : LaunchGraph) (k : ℕ) (ls : List Launch) (classes : List ℕ) (starts : List (Option ℕ)) → AreNeedVars g k (numbered 0 ls) classes starts → (n : ℕ) → length classes ≤ n → flat_map (class_needs k) (take n classes) ≡ all_needs k (pooled_classes g (numbered 0 ls))
all_earlier g k ls classes starts is n le = ap (flat_map (class_needs k)) (take_all n classes le ∙ is.classes_are)
