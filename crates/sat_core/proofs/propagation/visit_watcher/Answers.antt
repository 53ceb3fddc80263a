use Rattle.std.proofs.Common.{◌≡◌, ℕ, false, ◌+◌, ◌<◌, ◌≤◌, [], List, length, set, get_or, refl, ap, sym, ◌∙◌, subst}
use Rattle.std.specs.List.{All, Contains}
use Rattle.std.proofs.lemmas.Bool.{false≢true}
use Rattle.std.proofs.lemmas.List.{get_or_read}
use Rattle.std.proofs.lemmas.List.Elements.{All-contains, Contains-get_or}
use Rattle.cnf_core.specs.declared.literal.Lit.{Lit}
use Rattle.cnf_core.specs.Formula.{IsLitOf}
use Rattle.cnf_core.specs.Values.{IsFalse}
use Rattle.sat_core.specs.declared.watches.Pair.{Pair}
use Rattle.sat_core.specs.Copies.{Copied, Copies}
use Rattle.sat_core.specs.Steps.{assignment_of, var_count, Propagates}
use Rattle.sat_core.specs.declared.watches.Watcher.{Watcher}
use Rattle.sat_core.specs.Watches.{no_literal, list_of, watchers, with_watcher, with_blocker, IsRemoved, KeepWatches, ArePassedIn, AreWatched, IsPassedOver, VisitSays, SettleSays}
use Rattle.sat_core.proofs.Exchanging.{exchanged-lists, kept-moved, passed-moved, fewer-moved}
use Rattle.sat_core.proofs.Watching.{list-within}
use Rattle.sat_core.proofs.Renewing.{kept-renewed, passed-renewed, length-renewed}
use Rattle.sat_core.proofs.Visiting.{next-is, visit-start, visit-other, visit-true, visit-binary, visit-settled, settled-ok, settled-if, visit-exchange}
use Rattle.sat_core.proofs.propagation.visit_watcher.Goals as goal

pub returns-then-is_true-clause-says : goal.returns-then-is_true-clause-says
returns-then-is_true-clause-says c =
    let clauses = c.args.clauses.now in
    let t = c.args.trail.now in
    let n = var_count t in
    let w = c.args.watches.now in
    let l = c.args.lit in
    let place = c.args.place in
    let watcher = c.get-watcher.result in
    let steps = t.steps.items in
    let v = visit-start clauses n steps w.lists.items w.pairs.items w.qhead l place c.list_place-list.result c.index.result.now watcher c.requires.watched c.requires.exist c.requires.lit c.requires.place c.list_place-list.ensures c.index.ensures c.get-watcher.ensures in
    (visit-true clauses n steps t.values.items t.indices.items t.decisions.items w.lists.items w.pairs.items w.qhead l place watcher watcher.blocker c.requires.state v v.right.has_blocker (c.is_true.ensures.0 c.if-is_true.true) c.requires.passed, refl)

pub returns-then-is_true-2-clause-says : goal.returns-then-is_true-2-clause-says
returns-then-is_true-2-clause-says c =
    let clauses = c.args.clauses.now in
    let t = c.args.trail.now in
    let n = var_count t in
    let w = c.args.watches.now in
    let l = c.args.lit in
    let place = c.args.place in
    let watcher = c.get-watcher.result in
    let steps = t.steps.items in
    let v = visit-start clauses n steps w.lists.items w.pairs.items w.qhead l place c.list_place-list.result c.index.result.now watcher c.requires.watched c.requires.exist c.requires.lit c.requires.place c.list_place-list.ensures c.index.ensures c.get-watcher.ensures in
    let other = c.other_than-other.result in
    let o = visit-other clauses n steps w.lists.items w.pairs.items w.qhead l place watcher c.pair-old.result other c.requires.watched v c.pair-old.ensures c.other_than-other.ensures in
    let w' = c.renew.new.self in
    let list = c.list_place-list.ensures in
    let lists : w'.lists.items ≡ with_blocker w.lists.items (list_of l) place other = c.renew.ensures.lists ∙ ap (λ (k : ℕ). with_blocker w.lists.items k place other) list in
    let passed = visit-true clauses n steps t.values.items t.indices.items t.decisions.items w.lists.items w.pairs.items w.qhead l place watcher other c.requires.state v o.among (c.is_true-2.ensures.0 c.if-is_true-2.true) c.requires.passed in (
      subst (λ (k : ℕ). ArePassedIn clauses steps w'.lists.items w'.pairs.items k (list_of l) (place + 1)) (sym c.renew.ensures.qhead)
          (subst (λ (ls : List (List Watcher)). ArePassedIn clauses steps ls w'.pairs.items w.qhead (list_of l) (place + 1)) (sym lists)
          (subst (λ (ps : Copies). ArePassedIn clauses steps (with_blocker w.lists.items (list_of l) place other) ps.items w.qhead (list_of l) (place + 1)) (sym c.renew.ensures.pairs)
          (passed-renewed clauses steps w.lists.items w.pairs.items w.qhead (list_of l) place (place + 1) other v.list v.within passed))),
      ap (λ (ls : List (List Watcher)). length (watchers ls (list_of l))) lists ∙ length-renewed w.lists.items (list_of l) place other v.list,
    )

pub returns-then-is_true-2-clause-watched : goal.returns-then-is_true-2-clause-watched
returns-then-is_true-2-clause-watched c =
    let clauses = c.args.clauses.now in
    let t = c.args.trail.now in
    let n = var_count t in
    let w = c.args.watches.now in
    let l = c.args.lit in
    let place = c.args.place in
    let watcher = c.get-watcher.result in
    let steps = t.steps.items in
    let v = visit-start clauses n steps w.lists.items w.pairs.items w.qhead l place c.list_place-list.result c.index.result.now watcher c.requires.watched c.requires.exist c.requires.lit c.requires.place c.list_place-list.ensures c.index.ensures c.get-watcher.ensures in
    let other = c.other_than-other.result in
    let o = visit-other clauses n steps w.lists.items w.pairs.items w.qhead l place watcher c.pair-old.result other c.requires.watched v c.pair-old.ensures c.other_than-other.ensures in
    let w' = c.renew.new.self in
    let lists : w'.lists.items ≡ with_blocker w.lists.items (list_of l) place other = c.renew.ensures.lists ∙ ap (λ (k : ℕ). with_blocker w.lists.items k place other) c.list_place-list.ensures in
    let among = subst (λ (x : Watcher). Contains (get_or clauses x.clause []) other) v.is o.among in
    subst (λ (k : ℕ). KeepWatches clauses n steps w'.lists.items w'.pairs.items k) (sym c.renew.ensures.qhead)
    (subst (λ (ls : List (List Watcher)). KeepWatches clauses n steps ls w'.pairs.items w.qhead) (sym lists)
    (subst (λ (ps : Copies). KeepWatches clauses n steps (with_blocker w.lists.items (list_of l) place other) ps.items w.qhead) (sym c.renew.ensures.pairs)
    (kept-renewed clauses n steps w.lists.items w.pairs.items w.qhead (list_of l) place other v.list v.within among (λ two. false≢true (sym c.if-watcher.false ∙ ap (λ (x : Watcher). x.binary) v.is ∙ two)) c.requires.watched)))

pub settle-requires-clause-others : goal.settle-requires-clause-others
settle-requires-clause-others c =
    let clauses = c.args.clauses.now in
    let t = c.args.trail.now in
    let n = var_count t in
    let w = c.args.watches.now in
    let l = c.args.lit in
    let place = c.args.place in
    let watcher = c.get-watcher.result in
    let steps = t.steps.items in
    let v = visit-start clauses n steps w.lists.items w.pairs.items w.qhead l place c.list_place-list.result c.index.result.now watcher c.requires.watched c.requires.exist c.requires.lit c.requires.place c.list_place-list.ensures c.index.ensures c.get-watcher.ensures in
    visit-binary clauses n steps t.values.items t.indices.items t.decisions.items w.lists.items w.pairs.items w.qhead l place watcher c.requires.state c.requires.qhead c.requires.lit v c.if-watcher.true

pub returns-then-watcher-clause-watched : goal.returns-then-watcher-clause-watched
returns-then-watcher-clause-watched c =
    let clauses = c.args.clauses.now in
    let t = c.args.trail.now in
    let n = var_count t in
    let w = c.args.watches.now in
    let l = c.args.lit in
    let place = c.args.place in
    let watcher = c.get-watcher.result in
    let steps = t.steps.items in
    let v = visit-start clauses n steps w.lists.items w.pairs.items w.qhead l place c.list_place-list.result c.index.result.now watcher c.requires.watched c.requires.exist c.requires.lit c.requires.place c.list_place-list.ensures c.index.ensures c.get-watcher.ensures in
    let new = c.settle.new.trail in
    let s = assignment_of new.values.items in
    settled-ok c.settle.result (SettleSays clauses watcher.clause watcher.blocker s steps new.steps.items) (AreWatched clauses n new.steps.items w) c.settle.ensures.says
    (λ x says. (visit-settled clauses n steps new.steps.items s w l place watcher watcher.blocker x c.requires.qhead.within v v.right.has_blocker says c.requires.watched c.requires.passed).0)

pub returns-then-watcher-clause-adds : goal.returns-then-watcher-clause-adds
returns-then-watcher-clause-adds c =
    let clauses = c.args.clauses.now in
    let t = c.args.trail.now in
    let n = var_count t in
    let w = c.args.watches.now in
    let l = c.args.lit in
    let place = c.args.place in
    let watcher = c.get-watcher.result in
    let steps = t.steps.items in
    let v = visit-start clauses n steps w.lists.items w.pairs.items w.qhead l place c.list_place-list.result c.index.result.now watcher c.requires.watched c.requires.exist c.requires.lit c.requires.place c.list_place-list.ensures c.index.ensures c.get-watcher.ensures in
    let new = c.settle.new.trail in
    let s = assignment_of new.values.items in
    settled-ok c.settle.result (SettleSays clauses watcher.clause watcher.blocker s steps new.steps.items) (Propagates steps new.steps.items) c.settle.ensures.says
    (λ x says. (visit-settled clauses n steps new.steps.items s w l place watcher watcher.blocker x c.requires.qhead.within v v.right.has_blocker says c.requires.watched c.requires.passed).1)

pub returns-then-watcher-clause-says : goal.returns-then-watcher-clause-says
returns-then-watcher-clause-says c =
    let clauses = c.args.clauses.now in
    let t = c.args.trail.now in
    let n = var_count t in
    let w = c.args.watches.now in
    let l = c.args.lit in
    let place = c.args.place in
    let watcher = c.get-watcher.result in
    let steps = t.steps.items in
    let v = visit-start clauses n steps w.lists.items w.pairs.items w.qhead l place c.list_place-list.result c.index.result.now watcher c.requires.watched c.requires.exist c.requires.lit c.requires.place c.list_place-list.ensures c.index.ensures c.get-watcher.ensures in
    let new = c.settle.new.trail in
    let s = assignment_of new.values.items in
    settled-if c.settle.result (SettleSays clauses watcher.clause watcher.blocker s steps new.steps.items)
    (VisitSays clauses new.steps.items s l place (length (watchers w.lists.items (list_of l))) w) c.settle.ensures.says
    (λ x says. (visit-settled clauses n steps new.steps.items s w l place watcher watcher.blocker x c.requires.qhead.within v v.right.has_blocker says c.requires.watched c.requires.passed).2)

pub replacement-requires : goal.replacement-requires
replacement-requires c =
    let clauses = c.args.clauses.now in
    let t = c.args.trail.now in
    let n = var_count t in
    let w = c.args.watches.now in
    let l = c.args.lit in
    let place = c.args.place in
    let watcher = c.get-watcher.result in
    let steps = t.steps.items in
    let v = visit-start clauses n steps w.lists.items w.pairs.items w.qhead l place c.list_place-list.result c.index.result.now watcher c.requires.watched c.requires.exist c.requires.lit c.requires.place c.list_place-list.ensures c.index.ensures c.get-watcher.ensures in
    let is : c.lits-clause.result.now ≡ get_or clauses watcher.clause [] = c.lits-clause.ensures ∙ c.requires.watched.copies watcher.clause v.right.exists in
    record { exist = subst (All (IsLitOf n)) (sym is) v.over }

pub move_watch-requires-clause-above : goal.move_watch-requires-clause-above
move_watch-requires-clause-above c =
    let clauses = c.args.clauses.now in
    let t = c.args.trail.now in
    let n = var_count t in
    let w = c.args.watches.now in
    let l = c.args.lit in
    let place = c.args.place in
    let watcher = c.get-watcher.result in
    let steps = t.steps.items in
    let v = visit-start clauses n steps w.lists.items w.pairs.items w.qhead l place c.list_place-list.result c.index.result.now watcher c.requires.watched c.requires.exist c.requires.lit c.requires.place c.list_place-list.ensures c.index.ensures c.get-watcher.ensures in
    let is : c.lits-clause.result.now ≡ get_or clauses watcher.clause [] = c.lits-clause.ensures ∙ c.requires.watched.copies watcher.clause v.right.exists in
    let among = Contains-get_or c.lits-clause.result.now c.in-Some.at no_literal (next-is c.in-Some.ensures).within in
    let at = All-contains (IsLitOf n) c.lits-clause.result.now (get_or c.lits-clause.result.now c.in-Some.at no_literal) (subst (All (IsLitOf n)) (sym is) v.over) among in
    let found : c.lit-found.result ≡ get_or c.lits-clause.result.now c.in-Some.at no_literal = c.lit-found.ensures ∙ get_or_read c.lits-clause.result.now c.in-Some.at c.index-clause-at.result (next-is c.in-Some.ensures).within c.index-clause-at.is no_literal in
    subst (λ (m : Lit). 1 ≤ m.var) (sym found) at.above

pub move_watch-requires-clause-new_list : goal.move_watch-requires-clause-new_list
move_watch-requires-clause-new_list c =
    let clauses = c.args.clauses.now in
    let t = c.args.trail.now in
    let n = var_count t in
    let w = c.args.watches.now in
    let l = c.args.lit in
    let place = c.args.place in
    let watcher = c.get-watcher.result in
    let steps = t.steps.items in
    let v = visit-start clauses n steps w.lists.items w.pairs.items w.qhead l place c.list_place-list.result c.index.result.now watcher c.requires.watched c.requires.exist c.requires.lit c.requires.place c.list_place-list.ensures c.index.ensures c.get-watcher.ensures in
    let is : c.lits-clause.result.now ≡ get_or clauses watcher.clause [] = c.lits-clause.ensures ∙ c.requires.watched.copies watcher.clause v.right.exists in
    let among = Contains-get_or c.lits-clause.result.now c.in-Some.at no_literal (next-is c.in-Some.ensures).within in
    let at = All-contains (IsLitOf n) c.lits-clause.result.now (get_or c.lits-clause.result.now c.in-Some.at no_literal) (subst (All (IsLitOf n)) (sym is) v.over) among in
    let found : c.lit-found.result ≡ get_or c.lits-clause.result.now c.in-Some.at no_literal = c.lit-found.ensures ∙ get_or_read c.lits-clause.result.now c.in-Some.at c.index-clause-at.result (next-is c.in-Some.ensures).within c.index-clause-at.is no_literal in
    subst (λ (m : Lit). list_of m < length w.lists.items) (sym found) (list-within n (length w.lists.items) (get_or c.lits-clause.result.now c.in-Some.at no_literal) at c.requires.watched.count)

pub returns-in_ok-move_watch-in-Some-clause-watched : goal.returns-in_ok-move_watch-in-Some-clause-watched
returns-in_ok-move_watch-in-Some-clause-watched c =
    let clauses = c.args.clauses.now in
    let t = c.args.trail.now in
    let n = var_count t in
    let w = c.args.watches.now in
    let l = c.args.lit in
    let place = c.args.place in
    let watcher = c.get-watcher.result in
    let steps = t.steps.items in
    let v = visit-start clauses n steps w.lists.items w.pairs.items w.qhead l place c.list_place-list.result c.index.result.now watcher c.requires.watched c.requires.exist c.requires.lit c.requires.place c.list_place-list.ensures c.index.ensures c.get-watcher.ensures in
    let other = c.other_than-other.result in
    let o = visit-other clauses n steps w.lists.items w.pairs.items w.qhead l place watcher c.pair-old.result other c.requires.watched v c.pair-old.ensures c.other_than-other.ensures in
    let is : c.lits-clause.result.now ≡ get_or clauses watcher.clause [] = c.lits-clause.ensures ∙ c.requires.watched.copies watcher.clause v.right.exists in
    let w' = c.move_watch.new.self in
    let pair : Pair = record { a = other; b = c.lit-found.result; saved = c.in-Some.at } in
    let e = c.in_ok-move_watch-in-Some.ensures in
    let removed = subst (λ (k : ℕ). IsRemoved (watchers w.lists.items k) place e.rest) c.list_place-list.ensures e.removed in
    let lists : w'.lists.items ≡ exchanged-lists w.lists.items l e.rest watcher.clause pair = e.lists ∙ ap (λ (k : ℕ). with_watcher (set w.lists.items k e.rest) (list_of pair.b) (record { clause = watcher.clause; blocker = other; binary = false })) c.list_place-list.ensures in
    let found : c.lit-found.result ≡ get_or c.lits-clause.result.now c.in-Some.at no_literal = c.lit-found.ensures ∙ get_or_read c.lits-clause.result.now c.in-Some.at c.index-clause-at.result (next-is c.in-Some.ensures).within c.index-clause-at.is no_literal in
    let x = visit-exchange clauses n steps t.values.items t.indices.items t.decisions.items w.lists.items w.pairs.items w.qhead l place watcher other c.lit-found.result c.in-Some.at c.lits-clause.result.now
    c.requires.state c.requires.watched c.requires.qhead c.requires.lit v o is (subst (Contains c.lits-clause.result.now) (sym found) (Contains-get_or c.lits-clause.result.now c.in-Some.at no_literal (next-is c.in-Some.ensures).within)) (λ e. (next-is c.in-Some.ensures).differ no_literal (sym found ∙ e)) (λ f. (next-is c.in-Some.ensures).free no_literal (subst (IsFalse (assignment_of t.values.items)) found f)) in
    subst (λ (k : ℕ). KeepWatches clauses n steps w'.lists.items w'.pairs.items k) (sym e.qhead)
    (subst (λ (ls : List (List Watcher)). KeepWatches clauses n steps ls w'.pairs.items w.qhead) (sym lists)
    (subst (λ (ps : List Copied). KeepWatches clauses n steps (exchanged-lists w.lists.items l e.rest watcher.clause pair) ps w.qhead) (sym e.pairs)
    (kept-moved clauses n steps w.lists.items w.pairs.items w.qhead l place watcher.clause pair e.rest c.requires.watched x removed)))

pub returns-in_ok-move_watch-in-Some-clause-says : goal.returns-in_ok-move_watch-in-Some-clause-says
returns-in_ok-move_watch-in-Some-clause-says c =
    let clauses = c.args.clauses.now in
    let t = c.args.trail.now in
    let n = var_count t in
    let w = c.args.watches.now in
    let l = c.args.lit in
    let place = c.args.place in
    let watcher = c.get-watcher.result in
    let steps = t.steps.items in
    let v = visit-start clauses n steps w.lists.items w.pairs.items w.qhead l place c.list_place-list.result c.index.result.now watcher c.requires.watched c.requires.exist c.requires.lit c.requires.place c.list_place-list.ensures c.index.ensures c.get-watcher.ensures in
    let other = c.other_than-other.result in
    let o = visit-other clauses n steps w.lists.items w.pairs.items w.qhead l place watcher c.pair-old.result other c.requires.watched v c.pair-old.ensures c.other_than-other.ensures in
    let is : c.lits-clause.result.now ≡ get_or clauses watcher.clause [] = c.lits-clause.ensures ∙ c.requires.watched.copies watcher.clause v.right.exists in
    let w' = c.move_watch.new.self in
    let pair : Pair = record { a = other; b = c.lit-found.result; saved = c.in-Some.at } in
    let e = c.in_ok-move_watch-in-Some.ensures in
    let removed = subst (λ (k : ℕ). IsRemoved (watchers w.lists.items k) place e.rest) c.list_place-list.ensures e.removed in
    let lists : w'.lists.items ≡ exchanged-lists w.lists.items l e.rest watcher.clause pair = e.lists ∙ ap (λ (k : ℕ). with_watcher (set w.lists.items k e.rest) (list_of pair.b) (record { clause = watcher.clause; blocker = other; binary = false })) c.list_place-list.ensures in
    let found : c.lit-found.result ≡ get_or c.lits-clause.result.now c.in-Some.at no_literal = c.lit-found.ensures ∙ get_or_read c.lits-clause.result.now c.in-Some.at c.index-clause-at.result (next-is c.in-Some.ensures).within c.index-clause-at.is no_literal in
    let x = visit-exchange clauses n steps t.values.items t.indices.items t.decisions.items w.lists.items w.pairs.items w.qhead l place watcher other c.lit-found.result c.in-Some.at c.lits-clause.result.now
    c.requires.state c.requires.watched c.requires.qhead c.requires.lit v o is (subst (Contains c.lits-clause.result.now) (sym found) (Contains-get_or c.lits-clause.result.now c.in-Some.at no_literal (next-is c.in-Some.ensures).within)) (λ e. (next-is c.in-Some.ensures).differ no_literal (sym found ∙ e)) (λ f. (next-is c.in-Some.ensures).free no_literal (subst (IsFalse (assignment_of t.values.items)) found f)) in (
      subst (λ (k : ℕ). ArePassedIn clauses steps w'.lists.items w'.pairs.items k (list_of l) place) (sym e.qhead)
          (subst (λ (ls : List (List Watcher)). ArePassedIn clauses steps ls w'.pairs.items w.qhead (list_of l) place) (sym lists)
          (subst (λ (ps : List Copied). ArePassedIn clauses steps (exchanged-lists w.lists.items l e.rest watcher.clause pair) ps w.qhead (list_of l) place) (sym e.pairs)
          (passed-moved clauses n steps w.lists.items w.pairs.items w.qhead l place watcher.clause pair e.rest c.requires.state.trail c.requires.qhead c.requires.watched x removed c.requires.passed))),
      subst (λ (ls : List (List Watcher)). length (watchers ls (list_of l)) + 1 ≡ length (watchers w.lists.items (list_of l))) (sym lists)
          (fewer-moved clauses steps w.lists.items w.pairs.items l place watcher.clause pair e.rest x removed),
    )

pub settle-requires-in-None-clause-others : goal.settle-requires-in-None-clause-others
settle-requires-in-None-clause-others c =
    let clauses = c.args.clauses.now in
    let t = c.args.trail.now in
    let n = var_count t in
    let w = c.args.watches.now in
    let l = c.args.lit in
    let place = c.args.place in
    let watcher = c.get-watcher.result in
    let steps = t.steps.items in
    let v = visit-start clauses n steps w.lists.items w.pairs.items w.qhead l place c.list_place-list.result c.index.result.now watcher c.requires.watched c.requires.exist c.requires.lit c.requires.place c.list_place-list.ensures c.index.ensures c.get-watcher.ensures in
    let is : c.lits-clause.result.now ≡ get_or clauses watcher.clause [] = c.lits-clause.ensures ∙ c.requires.watched.copies watcher.clause v.right.exists in
    subst (All (IsPassedOver (assignment_of t.values.items) c.other_than-other.result)) is c.in-None.ensures

pub returns-in-None-clause-watched : goal.returns-in-None-clause-watched
returns-in-None-clause-watched c =
    let clauses = c.args.clauses.now in
    let t = c.args.trail.now in
    let n = var_count t in
    let w = c.args.watches.now in
    let l = c.args.lit in
    let place = c.args.place in
    let watcher = c.get-watcher.result in
    let steps = t.steps.items in
    let v = visit-start clauses n steps w.lists.items w.pairs.items w.qhead l place c.list_place-list.result c.index.result.now watcher c.requires.watched c.requires.exist c.requires.lit c.requires.place c.list_place-list.ensures c.index.ensures c.get-watcher.ensures in
    let other = c.other_than-other.result in
    let o = visit-other clauses n steps w.lists.items w.pairs.items w.qhead l place watcher c.pair-old.result other c.requires.watched v c.pair-old.ensures c.other_than-other.ensures in
    let new = c.settle-in-None.new.trail in
    let s = assignment_of new.values.items in
    settled-ok c.settle-in-None.result (SettleSays clauses watcher.clause other s steps new.steps.items) (AreWatched clauses n new.steps.items w) c.settle-in-None.ensures.says
    (λ x says. (visit-settled clauses n steps new.steps.items s w l place watcher other x c.requires.qhead.within v o.among says c.requires.watched c.requires.passed).0)

pub returns-in-None-clause-adds : goal.returns-in-None-clause-adds
returns-in-None-clause-adds c =
    let clauses = c.args.clauses.now in
    let t = c.args.trail.now in
    let n = var_count t in
    let w = c.args.watches.now in
    let l = c.args.lit in
    let place = c.args.place in
    let watcher = c.get-watcher.result in
    let steps = t.steps.items in
    let v = visit-start clauses n steps w.lists.items w.pairs.items w.qhead l place c.list_place-list.result c.index.result.now watcher c.requires.watched c.requires.exist c.requires.lit c.requires.place c.list_place-list.ensures c.index.ensures c.get-watcher.ensures in
    let other = c.other_than-other.result in
    let o = visit-other clauses n steps w.lists.items w.pairs.items w.qhead l place watcher c.pair-old.result other c.requires.watched v c.pair-old.ensures c.other_than-other.ensures in
    let new = c.settle-in-None.new.trail in
    let s = assignment_of new.values.items in
    settled-ok c.settle-in-None.result (SettleSays clauses watcher.clause other s steps new.steps.items) (Propagates steps new.steps.items) c.settle-in-None.ensures.says
    (λ x says. (visit-settled clauses n steps new.steps.items s w l place watcher other x c.requires.qhead.within v o.among says c.requires.watched c.requires.passed).1)

pub returns-in-None-clause-says : goal.returns-in-None-clause-says
returns-in-None-clause-says c =
    let clauses = c.args.clauses.now in
    let t = c.args.trail.now in
    let n = var_count t in
    let w = c.args.watches.now in
    let l = c.args.lit in
    let place = c.args.place in
    let watcher = c.get-watcher.result in
    let steps = t.steps.items in
    let v = visit-start clauses n steps w.lists.items w.pairs.items w.qhead l place c.list_place-list.result c.index.result.now watcher c.requires.watched c.requires.exist c.requires.lit c.requires.place c.list_place-list.ensures c.index.ensures c.get-watcher.ensures in
    let other = c.other_than-other.result in
    let o = visit-other clauses n steps w.lists.items w.pairs.items w.qhead l place watcher c.pair-old.result other c.requires.watched v c.pair-old.ensures c.other_than-other.ensures in
    let new = c.settle-in-None.new.trail in
    let s = assignment_of new.values.items in
    settled-if c.settle-in-None.result (SettleSays clauses watcher.clause other s steps new.steps.items)
    (VisitSays clauses new.steps.items s l place (length (watchers w.lists.items (list_of l))) w) c.settle-in-None.ensures.says
    (λ x says. (visit-settled clauses n steps new.steps.items s w l place watcher other x c.requires.qhead.within v o.among says c.requires.watched c.requires.passed).2)
