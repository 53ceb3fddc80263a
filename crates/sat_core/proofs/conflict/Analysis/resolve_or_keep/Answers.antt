use Rattle.std.proofs.Common.{◌≡◌, ◌+◌, ◌<◌, ◌++◌, [], List, true, false, length, inl, sym, ◌∙◌, arith, append-nil}
use Rattle.std.specs.Prelude.{reverse}
use Rattle.cnf_core.specs.declared.literal.Lit.{Lit}
use Rattle.sat_core.specs.Steps.{var_count}
use Rattle.sat_core.specs.Walks.{IsWalked, LeadsToConflict, Resolves, KeepsStep, IsMinimalAt}
use Rattle.sat_core.proofs.Resolving.{on-ok, mark-read, settled-skip, settled-keep, settled-resolve, reason-few, minimal-skip, minimal-resolve, minimal-keep}
use Rattle.sat_core.proofs.conflict.Analysis.resolve_or_keep.Goals as goal

pub returns-then-not-index-clause-walked : goal.returns-then-not-index-clause-walked
returns-then-not-index-clause-walked c =
    let t = c.args.trail.now in
    let a = c.args.self.now in
    let few : c.args.index < length a.seen.items = (let size = c.requires.walked.size in let room = c.requires.walked.room in let within = c.requires.within in omega arith) in
    (settled-skip c.args.clauses.now (var_count t) t.steps.items c.args.index a c.requires.walked (mark-read a.seen.items c.args.index c.index.result.now false few c.index.ensures c.if-not-index.true)).walked

pub returns-then-not-index-clause-leads : goal.returns-then-not-index-clause-leads
returns-then-not-index-clause-leads c =
    let t = c.args.trail.now in
    let a = c.args.self.now in
    let few : c.args.index < length a.seen.items = (let size = c.requires.walked.size in let room = c.requires.walked.room in let within = c.requires.within in omega arith) in
    (settled-skip c.args.clauses.now (var_count t) t.steps.items c.args.index a c.requires.walked (mark-read a.seen.items c.args.index c.index.result.now false few c.index.ensures c.if-not-index.true)).leads

pub resolve-requires-clause-steps : goal.resolve-requires-clause-steps
resolve-requires-clause-steps c =
    let t = c.args.trail.now in
    reason-few c.args.clauses.now (var_count t) t.steps.items t.values.items t.indices.items t.decisions.items c.args.index c.in-Some.id (length c.args.self.now.seen.items) c.index-step.result.now
    c.requires.state c.requires.exist c.requires.within c.index-step.ensures c.in-Some.ensures.0 (let size = c.requires.walked.size in let room = c.requires.walked.room in omega arith)

pub returns-in-Some-clause-grows : goal.returns-in-Some-clause-grows
returns-in-Some-clause-grows c =
    let old = c.args.self.now.lits.items in
    let new = c.resolve.new.self.lits.items in
    on-ok c.resolve.result (Resolves c.args.clauses.now c.args.trail.now.indices.items c.in-Some.id c.args.index c.args.self.now c.resolve.new.self) ((more : List Lit) × (new ≡ old ++ more))
    (λ r. ([], r.lits ∙ sym (append-nil old))) c.resolve.ensures

pub returns-in-Some-clause-walked : goal.returns-in-Some-clause-walked
returns-in-Some-clause-walked c =
    let t = c.args.trail.now in
    let a = c.args.self.now in
    let b = c.resolve.new.self in
    let few : c.args.index < length a.seen.items = (let size = c.requires.walked.size in let room = c.requires.walked.room in let within = c.requires.within in omega arith) in
    let marked = mark-read a.seen.items c.args.index c.index.result.now true few c.index.ensures c.if-not-index.false in
    on-ok c.resolve.result (Resolves c.args.clauses.now t.indices.items c.in-Some.id c.args.index a b) (IsWalked c.args.clauses.now (var_count t) t.steps.items c.args.index b)
    (λ r. (settled-resolve c.args.clauses.now (var_count t) t.steps.items t.values.items t.indices.items t.decisions.items c.args.index c.in-Some.id c.index-step.result.now a b
    c.requires.state c.requires.exist c.requires.within c.requires.walked marked c.index-step.ensures c.in-Some.ensures.0 (λ low one. c.in-Some.ensures.1 (inl (low, one))) r).walked) c.resolve.ensures

pub returns-in-Some-clause-leads : goal.returns-in-Some-clause-leads
returns-in-Some-clause-leads c =
    let t = c.args.trail.now in
    let a = c.args.self.now in
    let b = c.resolve.new.self in
    let few : c.args.index < length a.seen.items = (let size = c.requires.walked.size in let room = c.requires.walked.room in let within = c.requires.within in omega arith) in
    let marked = mark-read a.seen.items c.args.index c.index.result.now true few c.index.ensures c.if-not-index.false in
    on-ok c.resolve.result (Resolves c.args.clauses.now t.indices.items c.in-Some.id c.args.index a b)
    ((conflict : List Lit) → LeadsToConflict c.args.clauses.now t.steps.items (c.args.index + 1) a.seen.items a.lits.items (reverse a.hints.items) conflict → LeadsToConflict c.args.clauses.now t.steps.items c.args.index b.seen.items b.lits.items (reverse b.hints.items) conflict)
    (λ r. (settled-resolve c.args.clauses.now (var_count t) t.steps.items t.values.items t.indices.items t.decisions.items c.args.index c.in-Some.id c.index-step.result.now a b
    c.requires.state c.requires.exist c.requires.within c.requires.walked marked c.index-step.ensures c.in-Some.ensures.0 (λ low one. c.in-Some.ensures.1 (inl (low, one))) r).leads) c.resolve.ensures

pub returns-in-None-clause-walked : goal.returns-in-None-clause-walked
returns-in-None-clause-walked c =
    let t = c.args.trail.now in
    let a = c.args.self.now in
    let b = c.keep.new.self in
    let few : c.args.index < length a.seen.items = (let size = c.requires.walked.size in let room = c.requires.walked.room in let within = c.requires.within in omega arith) in
    let marked = mark-read a.seen.items c.args.index c.index.result.now true few c.index.ensures c.if-not-index.false in
    on-ok c.keep.result (KeepsStep c.args.index c.index-step.result.now.lit a b) (IsWalked c.args.clauses.now (var_count t) t.steps.items c.args.index b)
    (λ k. (settled-keep c.args.clauses.now (var_count t) t.steps.items t.values.items t.indices.items t.decisions.items c.args.index c.args.first c.in_ok-spare.spare c.index-step.result.now a b
    c.requires.state c.requires.first c.requires.last c.requires.within c.requires.walked marked c.index-step.ensures c.in-None.ensures k).walked) c.keep.ensures

pub returns-in-None-clause-leads : goal.returns-in-None-clause-leads
returns-in-None-clause-leads c =
    let t = c.args.trail.now in
    let a = c.args.self.now in
    let b = c.keep.new.self in
    let few : c.args.index < length a.seen.items = (let size = c.requires.walked.size in let room = c.requires.walked.room in let within = c.requires.within in omega arith) in
    let marked = mark-read a.seen.items c.args.index c.index.result.now true few c.index.ensures c.if-not-index.false in
    on-ok c.keep.result (KeepsStep c.args.index c.index-step.result.now.lit a b)
    ((conflict : List Lit) → LeadsToConflict c.args.clauses.now t.steps.items (c.args.index + 1) a.seen.items a.lits.items (reverse a.hints.items) conflict → LeadsToConflict c.args.clauses.now t.steps.items c.args.index b.seen.items b.lits.items (reverse b.hints.items) conflict)
    (λ k. (settled-keep c.args.clauses.now (var_count t) t.steps.items t.values.items t.indices.items t.decisions.items c.args.index c.args.first c.in_ok-spare.spare c.index-step.result.now a b
    c.requires.state c.requires.first c.requires.last c.requires.within c.requires.walked marked c.index-step.ensures c.in-None.ensures k).leads) c.keep.ensures

pub returns-then-not-index-clause-minimal : goal.returns-then-not-index-clause-minimal
returns-then-not-index-clause-minimal c = λ two.
    let a = c.args.self.now in
    let few : c.args.index < length a.seen.items = (let size = c.requires.walked.size in let room = c.requires.walked.room in let within = c.requires.within in omega arith) in
    let unmarked = mark-read a.seen.items c.args.index c.index.result.now false few c.index.ensures c.if-not-index.true in
    minimal-skip c.args.clauses.now c.args.trail.now.steps.items c.args.trail.now.indices.items c.args.first c.args.index a unmarked

pub returns-in-Some-clause-minimal : goal.returns-in-Some-clause-minimal
returns-in-Some-clause-minimal c = λ two.
    let t = c.args.trail.now in
    let a = c.args.self.now in
    let b = c.resolve.new.self in
    on-ok c.resolve.result (Resolves c.args.clauses.now t.indices.items c.in-Some.id c.args.index a b) (IsMinimalAt c.args.clauses.now t.steps.items t.indices.items c.args.first c.args.index a b)
    (λ r. minimal-resolve c.args.clauses.now t.steps.items t.indices.items c.args.first c.args.index c.in_ok-spare.spare a b r.lits (c.in_ok-spare.ensures.spare two) c.in-Some.ensures.1) c.resolve.ensures

pub returns-in-None-clause-minimal : goal.returns-in-None-clause-minimal
returns-in-None-clause-minimal c = λ two.
    let t = c.args.trail.now in
    let a = c.args.self.now in
    let b = c.keep.new.self in
    on-ok c.keep.result (KeepsStep c.args.index c.index-step.result.now.lit a b) (IsMinimalAt c.args.clauses.now t.steps.items t.indices.items c.args.first c.args.index a b)
    (λ k. minimal-keep c.args.clauses.now t.steps.items t.indices.items c.args.first c.args.index c.in_ok-spare.spare c.index-step.result.now a b c.requires.within k.lits c.index-step.ensures (c.in_ok-spare.ensures.spare two) c.in-None.ensures) c.keep.ensures
