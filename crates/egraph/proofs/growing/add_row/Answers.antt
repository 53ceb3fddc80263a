use Rattle.std.proofs.Common.{ℕ, ◌≡◌, ◌≢◌, ◌∙◌, List, ◌++◌, ◌∷◌, [], Option, Some, length, Contains, sym, ap, subst, inl, inr}
use Rattle.std.proofs.lemmas.Bool.{cases_eq}
use Rattle.slab.specs.Slab.{get}
use Rattle.egraph.specs.declared.rows.Row.{Row}
use Rattle.egraph.specs.Keys.{key_of_row, indexed_place, constant_at}
use Rattle.egraph.proofs.Growth.{grown_listed, added_listed, added_indexed, kept_indexed}
use Rattle.egraph.proofs.growing.add_row.Goals as goal

same_constants : (constants constants' : List (Option ℕ)) (class : ℕ) → constant_at constants' class ≡ constant_at constants class → ((other : ℕ) → other ≢ class → constant_at constants' other ≡ constant_at constants other) → (at : ℕ) → constant_at constants' at ≡ constant_at constants at
same_constants constants constants' class kept others at = elim (cases_eq at class) [
  | inl same ↦ ap (constant_at constants') same ∙ kept ∙ ap (constant_at constants) (sym same)
  | inr differs ↦ others at differs
]

pub returns-in_err-make_room-clause-listed : goal.returns-in_err-make_room-clause-listed
returns-in_err-make_room-clause-listed g c =
    let t = c.args.tables.now in
    let n = c.make_room.new.tables in
    let m = c.in_err-make_room.ensures in
    grown_listed g.O.Operator.signature t.rows n.rows t.own n.own t.uses n.uses t.members n.members t.constants.items n.constants.items t.current.items n.current.items c.requires.listed
    (λ place. ap (λ x. get x place) m.rows) m.own m.uses m.members
    (same_constants t.constants.items n.constants.items c.len-class.result m.kept m.constants) m.current

pub returns-in_err-make_room-clause-indexed : goal.returns-in_err-make_room-clause-indexed
returns-in_err-make_room-clause-indexed g c =
    let s = g.O.Operator.signature in
    let t = c.args.tables.now in
    let n = c.make_room.new.tables in
    let m = c.in_err-make_room.ensures in
    let e = c.deref.ensures.value in
    kept_indexed s g.met.O.Operator.key_is_own g.met.O.Operator.takes_at_most_four t.rows n.rows c.args.op c.deref.result.now t.index n.index c.requires.indexed (ap length e ∙ c.requires.arity)
    c.requires.listed.arities (λ at r h o k. c.requires.absent at r h o (k ∙ e)) (λ place. ap (λ x. get x place) m.rows) m.index

pub returns-clause-listed : goal.returns-clause-listed
returns-clause-listed g c =
    let s = g.O.Operator.signature in
    let t = c.args.tables.now in
    let n = c.make_room.new.tables in
    let m = c.in_ok-make_room.ensures in
    let place = c.vacant_key-place.result in
    let rows = c.insert_reserved.new.self in
    let row : Row g.row.O.Denot = record { op = c.args.op; operands = c.from.result; class = c.len-class.result } in
    let ek : c.insert_reserved.result ≡ place = c.insert_reserved.ensures.key ∙ ap (λ x. x.vacant_key) m.rows ∙ sym c.vacant_key-place.ensures.value in
    let there : get rows place ≡ Some row = subst (λ k. get rows k ≡ Some row) ek c.insert_reserved.ensures.updates.changed in
    let others : (other : ℕ) → other ≢ place → get rows other ≡ get t.rows other = λ o d. c.insert_reserved.ensures.updates.others o (λ e. d (e ∙ ek)) ∙ ap (λ x. get x o) m.rows in
    let operands : c.from.result ≡ c.deref.result.now = c.from.ensures ∙ sym c.deref.ensures.value in
    added_listed s t.rows rows place row there others t.own n.own t.uses n.uses t.members n.members t.constants.items n.constants.items t.current.items c.push.new.self.items c.requires.listed
    (ap length c.from.ensures ∙ c.requires.arity) (c.len-class.ensures ∙ t.current.ok.0) c.requires.made m.own m.uses m.members c.vacant_key-place.ensures.vacant
    m.own_noted (λ used h. m.uses_noted used (subst (λ xs. Contains xs used) operands h)) m.member_noted m.constant
    (λ x h. elim (m.no_other x h) [ inl k ↦ inl k.1 | inr k ↦ inr k ]) m.constants
    (c.in_ok-push.ensures.items ∙ ap (λ xs. xs ++ c.len-class.result ∷ []) m.current)

pub returns-clause-indexed : goal.returns-clause-indexed
returns-clause-indexed g c =
    let s = g.O.Operator.signature in
    let t = c.args.tables.now in
    let n = c.make_room.new.tables in
    let m = c.in_ok-make_room.ensures in
    let place = c.vacant_key-place.result in
    let rows = c.insert_reserved.new.self in
    let row : Row g.row.O.Denot = record { op = c.args.op; operands = c.from.result; class = c.len-class.result } in
    let ek : c.insert_reserved.result ≡ place = c.insert_reserved.ensures.key ∙ ap (λ x. x.vacant_key) m.rows ∙ sym c.vacant_key-place.ensures.value in
    let there : get rows place ≡ Some row = subst (λ k. get rows k ≡ Some row) ek c.insert_reserved.ensures.updates.changed in
    let others : (other : ℕ) → other ≢ place → get rows other ≡ get t.rows other = λ o d. c.insert_reserved.ensures.updates.others o (λ e. d (e ∙ ek)) ∙ ap (λ x. get x o) m.rows in
    let operands : c.from.result ≡ c.deref.result.now = c.from.ensures ∙ sym c.deref.ensures.value in
    let key : key_of_row s c.args.op c.from.result ≡ key_of_row s c.args.op c.deref.result.now = ap (key_of_row s c.args.op) operands in
    added_indexed s t.rows rows place row there others g.met.O.Operator.key_is_own g.met.O.Operator.takes_at_most_four t.index n.index c.requires.indexed
    (ap length c.from.ensures ∙ c.requires.arity) c.requires.listed.arities (λ at r h o k. c.requires.absent at r h o (k ∙ c.from.ensures))
    (ap (indexed_place n.index) key ∙ m.indexed) (λ k d. m.index k (λ e. d (e ∙ sym key)))
