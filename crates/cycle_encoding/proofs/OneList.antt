-- An encoding gives one list.
use Rattle.std.proofs.Common.{◌≡◌, ℕ, Bool, true, false, cond, List, [], ◌∷◌, refl, sym, ap, ◌∙◌}
use Rattle.std.specs.Prelude.{Contains, Decides}
use Rattle.std.specs.List.{filter}
use Rattle.std.proofs.lemmas.Bool.{false_from_ne_true, false≢true}
use Rattle.machine_table.specs.declared.tables.Table.{Table}
use Rattle.graph_meaning.specs.declared.graphs.LaunchGraph.{LaunchGraph}
use Rattle.schedule_meaning.specs.declared.schedules.Allocation.{Allocation}
use Rattle.schedule_meaning.specs.declared.schedules.Allocation.TheVariants.{Block, Live}
use Rattle.schedule_meaning.specs.declared.schedules.Launch.{Launch}
use Rattle.cycle_encoding.specs.Variables.{Seen, all_seen}
use Rattle.cycle_encoding.specs.Variables.{all_launches, made_classes}
use Rattle.cycle_encoding.specs.CycleFormula.{Listed}
use Rattle.cycle_encoding.specs.Narrow.{HasVariable, Wanted, IsPinnedList}
use Rattle.cycle_encoding.specs.Encodings.{AreListed}
use Rattle.cycle_encoding.specs.declared.encodings.Encoding.{Encoding}
use Rattle.cycle_encoding.specs.declared.encodings.Encoding.TheVariants as encodings
use Rattle.cycle_encoding.specs.declared.encodings.Encoding.TheVariants.{Wide, Narrow, Pinned}
use Rattle.cycle_encoding.proofs.Members.{here, later}

decided : (p q : Bool) (P : Type 0) → Decides p P → Decides q P → p ≡ q
decided true q P a b = sym (b.1 (a.0 refl))
decided false q P a b = sym (false_from_ne_true q (λ t. false≢true (a.1 (b.0 t))))

filter_same : {X : Type 0} (p q : X → Bool) (xs : List X) → ((x : X) → Contains xs x → p x ≡ q x) → filter p xs ≡ filter q xs
filter_same p q [] e = refl
filter_same p q (x ∷ xs) e =
    ap (λ b. cond b (x ∷ filter p xs) (filter p xs)) (e x (here x xs))
    ∙ ap (λ ys. cond (q x) (x ∷ ys) ys) (filter_same p q xs (λ y h. e y (later x y xs h)))

listed_by : (s t : Allocation) (a b : List Launch) (c d : List Seen) → s ≡ t → a ≡ b → c ≡ d
    → (let l : Listed = record { allocation = s; launches = a; seen = c } in
    let m : Listed = record { allocation = t; launches = b; seen = d } in l ≡ m)
listed_by s t a b c d r p q =
    let l : Listed = record { allocation = s; launches = a; seen = c } in
    let o : Listed = record { allocation = t; launches = a; seen = c } in
    let n : Listed = record { allocation = t; launches = b; seen = c } in
    let m : Listed = record { allocation = t; launches = b; seen = d } in
    let w : l ≡ o = ap {A = Allocation} {B = Listed} (λ s. record { allocation = s; launches = a; seen = c }) r in
    let x : o ≡ n = ap {A = List Launch} {B = Listed} (λ ls. record { allocation = t; launches = ls; seen = c }) p in
    let y : n ≡ m = ap {A = List Seen} {B = Listed} (λ ds. record { allocation = t; launches = b; seen = ds }) q in
    w ∙ x ∙ y

pinned-one : (g : LaunchGraph) (table : Table) (allocation : Allocation) (k : ℕ) (l m : Listed)
    → IsPinnedList g table allocation k l → IsPinnedList g table allocation k m → l ≡ m
pinned-one g table allocation k l m a b =
    listed_by l.allocation m.allocation l.launches m.launches l.seen m.seen (a.allocation_is ∙ sym b.allocation_is)
    (a.launches_are ∙ filter_same a.keep b.keep (all_launches g table allocation k) (λ x h. decided (a.keep x) (b.keep x) (HasVariable g table allocation x) (a.keeps x h) (b.keeps x h)) ∙ sym b.launches_are)
    (a.seen_are ∙ ap (all_seen table k) (filter_same a.want b.want (made_classes g) (λ c h. decided (a.want c) (b.want c) (Wanted g c) (a.wants c h) (b.wants c h))) ∙ sym b.seen_are)

pub one-list : (e : Encoding) (g : LaunchGraph) (table : Table) (k : ℕ) (l m : Listed) → AreListed e g table k l → AreListed e g table k m → l ≡ m
one-list Wide g table k l m a b = a ∙ sym b
one-list Narrow g table k l m a b = pinned-one g table Block k l m a b
one-list Pinned g table k l m a b = pinned-one g table Block k l m a b
one-list encodings.Live g table k l m a b = pinned-one g table Live k l m a b
