use Rattle.std.proofs.Common.{◌≡◌, ◌<◌, length, refl, sym, ap, subst, ◌∙◌, arith, Some, List}
use Rattle.std.specs.Prelude.{slice_get}
use Rattle.std.proofs.lemmas.Option.{none-some, get_or_from_slice_get}
use Rattle.word_ops.specs.Meanings.{count_of}
use Rattle.word_ops.specs.declared.sorts.Op.TheVariants.{Declared}
use Rattle.launch_graph.specs.Numbering.{IsUnused, no_arity, too_many, other_arity, again, anew}
use Rattle.launch_graph.specs.declared.numbering.UsedName.{UsedName}
use Rattle.launch_graph.proofs.numbering.use_op.Goals as goal

pub returns-in_default : goal.returns-in_default
returns-in_default c = no_arity refl (λ arity e. none-some arity ((c.in_default.ensures.exact arity).1 e))

pub returns-then-index-ge-MOST_NAMES : goal.returns-then-index-ge-MOST_NAMES
returns-then-index-ge-MOST_NAMES c =
    let n = c.len-index.ensures in
    let high = c.if-index-ge-MOST_NAMES.true in
    too_many refl (subst (λ xs. IsUnused xs c.args.name.now) c.as_slice.ensures c.in_default-place_of.ensures.none) (omega arith)

pub returns-in_default-place_of : goal.returns-in_default-place_of
returns-in_default-place_of c =
    let n = c.len-index.ensures in
    let low = c.if-index-ge-MOST_NAMES.false in
    anew refl (subst (λ xs. IsUnused xs c.args.name.now) c.as_slice.ensures c.in_default-place_of.ensures.none) (omega arith)
    c.in_ok-copy.ensures ((c.in-Some.ensures.exact c.in-Some.arity).0 refl)
    (ap (λ k. Declared k c.in-Some.arity) c.len-index.ensures) c.in_ok-push.ensures.ok

pub returns-then-count : goal.returns-then-count
returns-then-count c =
    let h = c.in-Some-place_of.ensures.some in
    let at = c.in-Some-place_of.at in
    let there : slice_get c.args.used.now at ≡ Some h.0 = ap (λ (xs : List UsedName). slice_get xs at) (sym c.as_slice.ensures) ∙ h.1 in
    other_arity refl (subst (λ (xs : List UsedName). at < length xs) c.as_slice.ensures c.in-Some-place_of.ensures.none) there h.2
    (λ e. c.if-count.true (c.count.ensures ∙ ap (λ (u : UsedName). count_of u.arity) (get_or_from_slice_get c.as_slice-2.result.now at h.0 c.index-as_slice-at.result (ap (λ (xs : List UsedName). slice_get xs at) c.as_slice-2.ensures ∙ there)) ∙ e))

pub returns : goal.returns
returns c =
    let h = c.in-Some-place_of.ensures.some in
    let at = c.in-Some-place_of.at in
    let there : slice_get c.args.used.now at ≡ Some h.0 = ap (λ (xs : List UsedName). slice_get xs at) (sym c.as_slice.ensures) ∙ h.1 in
    let known = get_or_from_slice_get c.as_slice-2.result.now at h.0 c.index-as_slice-at.result (ap (λ (xs : List UsedName). slice_get xs at) c.as_slice-2.ensures ∙ there) in
    again refl (subst (λ (xs : List UsedName). at < length xs) c.as_slice.ensures c.in-Some-place_of.ensures.none) there h.2
    (sym (ap (λ (u : UsedName). count_of u.arity) known) ∙ sym c.count.ensures ∙ c.if-count.false)
    (ap (λ (u : UsedName). Declared at u.arity) known) refl
