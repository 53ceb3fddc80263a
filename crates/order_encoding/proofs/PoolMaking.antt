-- Values for a schedule that fits go on to some that satisfy the clauses of registers.
use Rattle.std.proofs.Common.{◌≡◌, ℕ, ◌+◌, ◌<◌, ◌≤◌, Bool, not, List, [], ◌++◌, length, get_or, sym, ap, ◌∙◌, subst, arith, inl, inr}
use Rattle.std.specs.Prelude.{◌==◌, Contains, ◌↔◌}
use Rattle.std.specs.List.{All, count_by, range_with_len}
use Rattle.std.proofs.lemmas.List.Elements.{All-nil, All-cons, All-map, All-contains, Contains-get_or}
use Rattle.cnf_core.specs.Formula.{Satisfies}
use Rattle.cnf_core.specs.Counter.{count_true, Extends, HasExtension}
use Rattle.machine_table.specs.declared.tables.Table.{Table}
use Rattle.graph_meaning.specs.WellFormed.{IsLaunchGraph}
use Rattle.graph_meaning.specs.declared.graphs.LaunchGraph.{LaunchGraph}
use Rattle.schedule_meaning.specs.Fits.{Fits}
use Rattle.schedule_meaning.specs.declared.schedules.Allocation.{Allocation}
use Rattle.schedule_meaning.specs.declared.schedules.Allocation.TheVariants.{Block, Live}
use Rattle.schedule_meaning.specs.declared.schedules.Launch.{Launch}
use Rattle.cycle_encoding.specs.Shapes.{counters, numbered, shown, vars_of}
use Rattle.cycle_encoding.specs.Families.{any}
use Rattle.cycle_encoding.specs.CycleFormula.{Listed, before_overwritten, launch_vars, overwritten_vars}
use Rattle.cycle_encoding.specs.CycleRules.{HasPlace, WasOverwritten}
use Rattle.cycle_encoding.specs.Variables.{all_overwritten, Overwritten}
use Rattle.cycle_encoding.proofs.Blocks.{AreExact, chosen, chosen-extends, chosen-shown, chosen-hidden, shown-extends, extends-trans, counters-in, counters-over, stays}
use Rattle.cycle_encoding.proofs.Members.{range-out}
use Rattle.cycle_encoding.proofs.Shown.{both}
use Rattle.cycle_encoding.proofs.ShownTests.{few-in}
use Rattle.cycle_encoding.proofs.Unshown.{flip, hidden}
use Rattle.order_encoding.specs.OrderVariables.{Taken, all_taken}
use Rattle.order_encoding.specs.OrderFamilies.{register_groups}
use Rattle.order_encoding.specs.PinFamilies.{pool_clauses}
use Rattle.order_encoding.specs.LiveVariables.{Hold, Need, all_holds, all_needs, pooled_classes}
use Rattle.order_encoding.specs.LiveFamilies as live
use Rattle.order_encoding.specs.LiveFamilies.{need_clauses, earlier_clauses, hold_clauses, hold_groups}
use Rattle.order_encoding.proofs.Complete.{SameLaunches}
use Rattle.order_encoding.proofs.LiveComplete.{needed_now, holding_now, needed, unneeded, held_on, live_says, live_few}
use Rattle.order_encoding.proofs.LiveListing.{either-side}
use Rattle.order_encoding.proofs.LiveSays.{SaysLive, needs-in, earlier-in, holds-in}
use Rattle.order_encoding.proofs.LiveSays.{last-in as last-needs-in}
use Rattle.order_encoding.proofs.OrderComplete.{pool_taken_now, pool_taken, pool_says, pinned-pool-few}
use Rattle.order_encoding.proofs.OrderReading.{pinned-pool-over, holds-over}
use Rattle.order_encoding.proofs.OrderSays.{SaysPool, pool-in}
use Rattle.order_encoding.proofs.Parts.{after_guard, taken_vars, before_pool, need_vars, before_holds, hold_vars, before_counts, pool_by, pool_part_of}

pub shown-at : {X : Type 0} (v w : ℕ → Bool) (n m : ℕ) (xs ys : List X) → shown v (numbered n xs) ≡ ys → n + length xs ≤ m → Extends m v w → shown w (numbered n xs) ≡ ys
shown-at v w n m xs ys h le e = shown-extends v w n m xs le e ∙ h

flipped : (m : ℕ) (v w : ℕ → Bool) → Extends m v w → Extends m (flip v) (flip w)
flipped m v w e = λ x le. ap not (e x le)

itself : (n : ℕ) → n ≤ n
itself n = omega arith

-- values that go on from v up to n show exactly what the launches overwrite
abbrev pub IsOver : LaunchGraph → Table → ℕ → Listed → List Launch → ℕ → (ℕ → Bool) → Type 0
IsOver g table k e ls n v =
    (u : ℕ → Bool) → Extends n v u → (o : Overwritten)
    → Contains (shown u (overwritten_vars g table k e)) o ↔ (Contains (all_overwritten g k) o × WasOverwritten ls o)

-- values that go on from some, whatever they give variables above those of registers
pub record PoolMade (g : LaunchGraph) (table : Table) (k : ℕ) (e : Listed) (a : Allocation) (v : ℕ → Bool) : Type 0 where
  pub values : ℕ → Bool
  pub extends : Extends (after_guard g table k e) v values
  pub holds : (u : ℕ → Bool) → Extends (pool_by g table k e a).vars values u → Satisfies u (pool_part_of g table k e a)

module _ (exact : AreExact) (g : LaunchGraph) (table : Table) (k : ℕ) (e : Listed) (is_graph : IsLaunchGraph g) (ls S : List Launch) (same : SameLaunches table k ls S)
    (v : ℕ → Bool) (launched : shown v (launch_vars e) ≡ S) (over : IsOver g table k e ls (after_guard g table k e) v) (listed : (l : Launch) → Contains S l → Contains e.launches l) where
  abbrev xs : List (ℕ × Launch)
  xs = launch_vars e

  launches-last : 0 + length e.launches ≤ after_guard g table k e
  launches-last = omega arith

  launched-still : (u : ℕ → Bool) → Extends (after_guard g table k e) v u → shown u xs ≡ S
  launched-still u x = shown-at v u 0 (after_guard g table k e) e.launches S launched launches-last x

  -- ---- to the end of the block

  registers-made : Fits g table Block k ls → PoolMade g table k e Block v
  registers-made fit =
      let n9 = after_guard g table k e in
      let n10 = before_pool g table k e in
      let n11 = (pool_by g table k e Block).vars in
      let us = taken_vars g table k e in
      let v9 : ℕ → Bool = chosen (pool_taken_now g table k ls) n9 (all_taken table k) v in
      let s9 : shown v9 us ≡ pool_taken g table k ls = chosen-shown (pool_taken_now g table k ls) n9 (all_taken table k) v in
      let x9 : Extends n9 v v9 = chosen-extends (pool_taken_now g table k ls) n9 (all_taken table k) v in
      let few : count_by any (pool_taken g table k ls) ≤ length g.pool = pinned-pool-few g table k ls S same is_graph Block fit fit.pool in
      let c16 : All (λ c. count_true v9 c ≤ length g.pool) (register_groups us) =
      All-cons (λ c. count_true v9 c ≤ length g.pool) (vars_of any us) [] (few-in v9 any us (length g.pool) (subst (λ (U : List Taken). count_by any U ≤ length g.pool) (sym s9) few)) (All-nil (λ c. count_true v9 c ≤ length g.pool)) in
      let h10 : HasExtension n10 v9 (counters n10 (length g.pool) (register_groups us)) = counters-in exact (length g.pool) n10 n10 v9 (register_groups us) (itself n10) (pinned-pool-over g table k e) c16 in
      let w : ℕ → Bool = h10.0 in
      let up9 : n9 ≤ n10 = omega arith in
      let up10 : n10 ≤ n11 = omega arith in
      let x9w : Extends n9 v w = extends-trans n9 n10 v v9 w up9 x9 h10.1 in
      record {
        values = w;
        extends = x9w;
        holds = λ u xu.
            let x9u : Extends n10 v9 u = extends-trans n10 n11 v9 w u up10 h10.1 xu in
            let taken_is : shown u us ≡ pool_taken g table k ls = shown-at v9 u n9 n10 (all_taken table k) (pool_taken g table k ls) s9 (itself n10) x9u in
            let launched_is : shown u xs ≡ S = launched-still u (extends-trans n9 n10 v v9 u up9 x9 x9u) in
            let says : SaysPool g table k (shown u xs) (shown u us) = subst (λ S. SaysPool g table k S (shown u us)) (sym launched_is) (subst (λ U. SaysPool g table k S U) (sym taken_is) (pool_says g table k ls S same is_graph Block fit)) in
            both u (pool_clauses g xs us) (counters n10 (length g.pool) (register_groups us)) (pool-in g table k u xs us says)
            (stays n11 w u (counters n10 (length g.pool) (register_groups us)) xu (counters-over exact (length g.pool) n10 n10 (register_groups us) (itself n10) (pinned-pool-over g table k e)) h10.2);
      }

  -- ---- by live ranges

  not_over : (u : ℕ → Bool) → Extends (after_guard g table k e) v u → (o : Overwritten) → Contains (all_overwritten g k) o → (WasOverwritten ls o → ⊥) → Contains (hidden u (overwritten_vars g table k e)) o
  not_over u x o h none =
      elim (either-side u (before_overwritten e) (all_overwritten g k) o h) [
        | inl here ↦ absurd (none ((over u x o).0 here).1)
        | inr away ↦ away
      ]

  counted : Fits g table Live k ls → (u : ℕ → Bool) → Extends (after_guard g table k e) v u → (t : ℕ) → t < k → count_by (λ (h : Hold). h.cycle == t) (held_on g table k ls e.launches) ≤ length g.pool
  counted fit u x t lt =
      live_few g table k ls e.launches S (hidden u (overwritten_vars g table k e)) is_graph (λ l h. (same.members l).0 h) (λ l h. (same.members l).1 h) listed (λ l h. All-contains (HasPlace table k) S l same.places h) fit.targets fit.pool (not_over u x) t lt

  live-made : Fits g table Live k ls → PoolMade g table k e Live v
  live-made fit =
      let n9 = after_guard g table k e in
      let nh = before_holds g table k e in
      let n10 = before_counts g table k e in
      let n11 = (pool_by g table k e Live).vars in
      let ns = need_vars g table k e in
      let hs = hold_vars g table k e in
      let needs : List Need = all_needs k (pooled_classes g xs) in
      let N : List Need = needed g table k ls e.launches in
      let M : List Need = unneeded g table k ls e.launches in
      let H : List Hold = held_on g table k ls e.launches in
      let vn : ℕ → Bool = chosen (needed_now g table k ls e.launches) n9 needs v in
      let sn : shown vn ns ≡ N = chosen-shown (needed_now g table k ls e.launches) n9 needs v in
      let sm : hidden vn ns ≡ M = chosen-hidden (needed_now g table k ls e.launches) n9 needs v in
      let xn : Extends n9 v vn = chosen-extends (needed_now g table k ls e.launches) n9 needs v in
      let vh : ℕ → Bool = chosen (holding_now g table k ls e.launches) nh (all_holds table k) vn in
      let sh : shown vh hs ≡ H = chosen-shown (holding_now g table k ls e.launches) nh (all_holds table k) vn in
      let xh : Extends nh vn vh = chosen-extends (holding_now g table k ls e.launches) nh (all_holds table k) vn in
      let few : (t : ℕ) → t < k → count_by (λ (h : Hold). h.cycle == t) H ≤ length g.pool = λ t lt. counted fit vn xn t lt in
      let c16 : All (λ c. count_true vh c ≤ length g.pool) (hold_groups k hs) =
      All-map (λ c. count_true vh c ≤ length g.pool) (λ t. vars_of (λ (h : Hold). h.cycle == t) hs) (range_with_len 0 k)
      (λ j c len.
      let t : ℕ = get_or (range_with_len 0 k) j c in
      let b = range-out 0 k t (Contains-get_or (range_with_len 0 k) j c len) in
      let lt : t < k = omega arith in
      few-in vh (λ (h : Hold). h.cycle == t) hs (length g.pool) (subst (λ (H : List Hold). count_by (λ (h : Hold). h.cycle == t) H ≤ length g.pool) (sym sh) (few t lt))) in
      let h10 : HasExtension n10 vh (counters n10 (length g.pool) (hold_groups k hs)) = counters-in exact (length g.pool) n10 n10 vh (hold_groups k hs) (itself n10) (holds-over g table k e) c16 in
      let w : ℕ → Bool = h10.0 in
      let upn : n9 ≤ nh = omega arith in
      let uph : nh ≤ n10 = omega arith in
      let up10 : n10 ≤ n11 = omega arith in
      let xhw : Extends nh vn w = extends-trans nh n10 vn vh w uph xh h10.1 in
      record {
        values = w;
        extends = extends-trans n9 nh v vn w upn xn xhw;
        holds = λ u xu.
            let xhu : Extends n10 vh u = extends-trans n10 n11 vh w u up10 h10.1 xu in
            let xnu : Extends nh vn u = extends-trans nh n10 vn vh u uph xh xhu in
            let x9u : Extends n9 v u = extends-trans n9 nh v vn u upn xn xnu in
            let vs = overwritten_vars g table k e in
            let a = need_clauses g xs ns in
            let b = earlier_clauses ns in
            let c = live.last_need_clauses g k xs ns vs in
            let d = hold_clauses g k xs ns hs in
            let f = counters n10 (length g.pool) (hold_groups k hs) in
            let launched_is : shown u xs ≡ S = launched-still u x9u in
            let needed_is : shown u ns ≡ N = shown-at vn u n9 nh needs N sn (itself nh) xnu in
            let unneeded_is : hidden u ns ≡ M = shown-at (flip vn) (flip u) n9 nh needs M sm (itself nh) (flipped nh vn u xnu) in
            let held_is : shown u hs ≡ H = shown-at vh u nh n10 (all_holds table k) H sh (itself n10) xhu in
            let said : SaysLive g k xs S N M H (hidden u vs) = live_says g table k ls e.launches S (hidden u vs) is_graph (λ l h. (same.members l).0 h) (λ l h. (same.members l).1 h) listed (λ l h. All-contains (HasPlace table k) S l same.places h) fit.targets fit.pool (not_over u x9u) in
            let says : SaysLive g k xs (shown u xs) (shown u ns) (hidden u ns) (shown u hs) (hidden u vs) =
            subst (λ S. SaysLive g k xs S (shown u ns) (hidden u ns) (shown u hs) (hidden u vs)) (sym launched_is)
            (subst (λ N. SaysLive g k xs S N (hidden u ns) (shown u hs) (hidden u vs)) (sym needed_is)
            (subst (λ M. SaysLive g k xs S N M (shown u hs) (hidden u vs)) (sym unneeded_is)
            (subst (λ H. SaysLive g k xs S N M H (hidden u vs)) (sym held_is) said))) in
            both u (a ++ b ++ c ++ d) f
            (both u (a ++ b ++ c) d
            (both u (a ++ b) c (both u a b (needs-in g k xs u ns says.needs) (earlier-in g k xs u ns says.earlier)) (last-needs-in g k xs u ns vs says.last))
            (holds-in g k xs u ns hs says.own says.on))
            (stays n11 w u f xu (counters-over exact (length g.pool) n10 n10 (hold_groups k hs) (itself n10) (holds-over g table k e)) h10.2);
      }

  pub pool-made : (a : Allocation) → Fits g table a k ls → PoolMade g table k e a v
  pool-made Block fit = registers-made fit
  pool-made Live fit = live-made fit
