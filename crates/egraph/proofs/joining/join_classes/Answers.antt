use Rattle.std.proofs.Common.{◌≡◌, ℕ, List, Option, Some, None, refl, sym, ◌∙◌, inl, inr}
use Rattle.std.specs.Option.{option_map}
use Rattle.std.specs.Result.{OnOk}
use Rattle.std.specs.declared.result.Result.{Result}
use Rattle.std.specs.declared.result.Result.TheVariants.{Ok, Err}
use Rattle.slab.specs.Slab.{Slab, get}
use Rattle.egraph.specs.declared.rows.Row.{Row}
use Rattle.egraph.specs.Joined.{relabel}
use Rattle.egraph.specs.Steps.{moved}
use Rattle.egraph.specs.Tables.{JoinedUp}
use Rattle.egraph.proofs.Lists.{moved_cases, map_at_same}
use Rattle.egraph.proofs.joining.join_classes.Goals as goal

stays : (x y : ℕ) → x ≡ y → (c : ℕ) → moved x y c ≡ c
stays x y same c = elim (moved_cases x y c) [ inl h ↦ h.1 ∙ sym same ∙ sym h.0 | inr h ↦ h.1 ]

stays_joined : {O : Type 0} (x y : ℕ) → x ≡ y → (rows : Slab (Row O)) (current : List ℕ) → JoinedUp x y rows rows current current
stays_joined {O} x y same rows current = record {
  rows_become = λ place. by (get rows place);
  current_is = sym (map_at_same (moved x y) current (λ k d l. stays x y same _));
}
  where
    by : (o : Option (Row O)) → o ≡ option_map (relabel (moved x y)) o
    by None = refl
    by (Some r) = let ops = map_at_same (moved x y) r.operands (λ k d l. stays x y same _) in let cls = stays x y same r.class in λ i. Some (record { op = r.op; operands = sym ops i; class = sym cls i })

pub returns-then-x-y-clause-joined : goal.returns-then-x-y-clause-joined
returns-then-x-y-clause-joined g c = inl (stays_joined c.args.x c.args.y c.if-x-y.true c.args.tables.now.rows c.args.tables.now.current.items)

on_both : {T E A B C : Type 0} (r : Result T E) → OnOk r A → OnOk r B → (A → B → C) → OnOk r C
on_both (Ok t) a b f = f a b
on_both (Err e) a b f = tt

pub returns-then-of_x-of_y-clause-joined : goal.returns-then-of_x-of_y-clause-joined
returns-then-of_x-of_y-clause-joined g c =
    on_both c.join.result c.join.ensures.rows c.join.ensures.current (λ each current. inl (record { rows_become = each; current_is = current }))

pub returns-else-of_x-of_y-clause-joined : goal.returns-else-of_x-of_y-clause-joined
returns-else-of_x-of_y-clause-joined g c =
    on_both c.join-else-of_x-of_y.result c.join-else-of_x-of_y.ensures.rows c.join-else-of_x-of_y.ensures.current (λ each current. inr (record { rows_become = each; current_is = current }))
