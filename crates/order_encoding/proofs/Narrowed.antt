-- Launches that keep memory and the branch in order do so without launches that are no stores and no branch.
use Rattle.std.proofs.Common.{◌≡◌, ℕ, ◌<◌, ◌≤◌, Bool, true, List, get_or, refl, sym, ap, ◌∙◌, arith, inl, inr, ◌⊎◌, Option, Some, None}
use Rattle.std.specs.Prelude.{◌==◌, IsTrue, Contains, IfSome}
use Rattle.std.specs.List.{All, AllPairs, filter, list_any, count_by}
use Rattle.std.proofs.lemmas.Bool.{false≢true, cases_Bool, eqb-true, eq-eqb, and_parts, and_from}
use Rattle.std.proofs.lemmas.List.Elements.{All-filter, All-contains, All-weaker, Contains-get_or}
use Rattle.graph_meaning.specs.Graphs.{memory_target}
use Rattle.schedule_meaning.specs.Launches.{launches, is_store, is_branch, memory_class_at}
use Rattle.schedule_meaning.specs.Fits.{IsLeft, UsesMemory}
use Rattle.schedule_meaning.specs.Plain.{WaitsPlain}
use Rattle.machine_table.specs.declared.tables.Table.{Table}
use Rattle.graph_meaning.specs.declared.graphs.LaunchGraph.{LaunchGraph}
use Rattle.graph_meaning.specs.declared.graphs.Guard.{Guard}
use Rattle.schedule_meaning.specs.declared.schedules.Launch.{Launch}
use Rattle.order_encoding.specs.OrderFamilies.{stores_at}
use Rattle.cycle_encoding.proofs.Tests.{two_at, one_at, some_of, some_in}
use Rattle.cycle_encoding.proofs.Counting.{count-one, count-none}
use Rattle.cycle_encoding.proofs.Members.{filter-in, filter-out, All-from_members}
use Rattle.cycle_encoding.proofs.MadeLists.{count_less}
use Rattle.order_encoding.proofs.Complete.{KeepsOrder}

module _ (g : LaunchGraph) (table : Table) (k : ℕ) (ls : List Launch) (fit : KeepsOrder g ls) (below : All (λ l. l.cycle < k) ls) (keep : Launch → Bool)
    (stay : (l : Launch) → Contains ls l → IsTrue (launches g is_store l) ⊎ IsTrue (launches g is_branch l) → IsTrue (keep l)) where
  abbrev kept : List Launch
  kept = filter keep ls

  into : (l : Launch) → Contains ls l → IsTrue (launches g is_store l) ⊎ IsTrue (launches g is_branch l) → Contains kept l
  into l h w = filter-in keep ls l h (stay l h w)

  back : (l : Launch) → Contains kept l → Contains ls l
  back l h = (filter-out keep ls l h).0

  single_kept : AllPairs (λ l m. IsTrue (launches g is_store l) → IsTrue (launches g is_store m) → ¬ (l.cycle ≡ m.cycle)) kept
  single_kept i j d lt len sa sb c =
      let a = get_or kept i d in
      let b = get_or kept j d in
      let test = stores_at g a.cycle in
      let two = two_at test kept i j d lt len (and_from (launches g is_store a) (a.cycle == a.cycle) sa (eq-eqb a.cycle a.cycle refl)) (and_from (launches g is_store b) (b.cycle == a.cycle) sb (eq-eqb b.cycle a.cycle (sym c))) in
      let one = count-one test ls (λ i j d lt len q r.
      let x = get_or ls i d in
      let y = get_or ls j d in
      let qs = and_parts (launches g is_store x) (x.cycle == a.cycle) q in
      let rs = and_parts (launches g is_store y) (y.cycle == a.cycle) r in
      fit.memory.single i j d lt len qs.0 rs.0 (eqb-true x.cycle a.cycle qs.1 ∙ sym (eqb-true y.cycle a.cycle rs.1))) in
      let less = count_less keep test ls in
      absurd (omega arith)

  left_kept : (t c : ℕ) → IsLeft g ls t c → IsLeft g kept t c
  left_kept t c (inl h) = inl (h.0, All-filter keep (λ m. IsTrue (launches g is_store m) → t ≤ m.cycle) ls h.1)
  left_kept t c (inr (j, l, lt, e, (r, q))) =
      let at = into l (j, lt, e) (inl r.store) in
      inr (at.0, l, at.1, at.2, (record { store = r.store; early = r.early; latest = All-filter keep (λ m. IsTrue (launches g is_store m) → m.cycle < t → m.cycle ≤ l.cycle) ls r.latest }, q))

  left_from : (t c : ℕ) → ((l : Launch) → Contains kept l → l.cycle < t) → ((l : Launch) → Contains ls l → l.cycle < k) → IsLeft g ls k c → IsLeft g kept t c
  left_from t c after all (inl h) =
      inl (h.0, All-from_members (λ m. IsTrue (launches g is_store m) → t ≤ m.cycle) kept (λ m hm s. let b = back m hm in let a : k ≤ m.cycle = All-contains (λ m. IsTrue (launches g is_store m) → k ≤ m.cycle) ls m h.1 b s in let z = all m b in absurd (omega arith)))
  left_from t c after all (inr (j, l, lt, e, (r, q))) =
      let at = into l (j, lt, e) (inl r.store) in
      inr (at.0, l, at.1, at.2, (record { store = r.store; early = after l at; latest = All-from_members (λ m. IsTrue (launches g is_store m) → m.cycle < t → m.cycle ≤ l.cycle) kept (λ m hm s b. let w = back m hm in All-contains (λ m. IsTrue (launches g is_store m) → m.cycle < k → m.cycle ≤ l.cycle) ls m r.latest w s (all m w)) }, q))

  ends_early : (l : Launch) → Contains ls l → l.cycle < k
  ends_early l h = All-contains (λ l. l.cycle < k) ls l below h

  one_in : (o : Option Guard) (n m : ℕ) → (n ≡ 1 → m ≡ 1) → IfSome o (λ _. n ≡ 1) → IfSome o (λ _. m ≡ 1)
  one_in None n m f h = tt
  one_in (Some x) n m f h = f h

  count_some : (xs : List Launch) (test : Launch → Bool) → 1 ≤ count_by test xs → list_any test xs ≡ true
  count_some xs test h =
      elim (cases_Bool (list_any test xs)) [
        | inl t ↦ t
        | inr f ↦ (let z = count-none test xs (λ i d lt t. false≢true (sym f ∙ some_in test xs (get_or xs i d) (Contains-get_or xs i d lt) t)) in absurd (omega arith))
      ]

  branch_kept : count_by (launches g is_branch) ls ≡ 1 → count_by (launches g is_branch) kept ≡ 1
  branch_kept one =
      let most = count_less keep (launches g is_branch) ls in
      let b = some_of (launches g is_branch) ls (count_some ls (launches g is_branch) (omega arith)) in
      let at = into b.0 b.1 (inr b.2) in
      let is : get_or kept at.0 b.0 ≡ b.0 = at.2 in
      let least = one_at (launches g is_branch) kept at.0 b.0 at.1 (ap (launches g is_branch) is ∙ b.2) in
      omega arith

  pub order_kept : KeepsOrder g kept
  order_kept = record {
    memory = record {
      each = All-filter keep (λ l. UsesMemory g l → IsLeft g kept l.cycle (memory_class_at g l.row)) ls (All-weaker (λ l. UsesMemory g l → IsLeft g ls l.cycle (memory_class_at g l.row)) (λ l. UsesMemory g l → IsLeft g kept l.cycle (memory_class_at g l.row)) (λ l h u. left_kept l.cycle (memory_class_at g l.row) (h u)) ls fit.memory.each);
      single = single_kept;
      last = λ t after. left_from t (memory_target g) (λ l h. All-contains (λ l. l.cycle < t) kept l after h) ends_early (fit.memory.last k (All-from_members (λ l. l.cycle < k) ls ends_early));
    };
    one_branch = one_in g.guard (count_by (launches g is_branch) ls) (count_by (launches g is_branch) kept) branch_kept fit.one_branch;
    after_branch = All-filter keep (WaitsPlain g kept) ls (All-weaker (WaitsPlain g ls) (WaitsPlain g kept) (λ l h w. All-filter keep (λ b. IsTrue (launches g is_branch b) → b.cycle ≤ l.cycle) ls (h w)) ls fit.after_branch);
  }
