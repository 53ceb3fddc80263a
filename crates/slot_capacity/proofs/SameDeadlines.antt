-- Deadlines are compared by their fields.
use Rattle.std.proofs.Common.{◌≡◌, ℕ, Bool, true, ◌==◌, ◌&&◌, refl, sym, ap, ◌∙◌}
use Rattle.std.specs.Bool.{Decides}
use Rattle.std.proofs.lemmas.Bool.{and_from, and_parts, eq-eqb, eqb-true}
use Rattle.slot_capacity.specs.declared.deadlines.Deadline.{Deadline}
use Rattle.slot_capacity.specs.contracts.deadlines.DeadlinePartialEq.TheImpl.{eq-value}

abbrev pub same_deadline : Deadline → Deadline → Bool
same_deadline = eq-value.it

fields : (a b : Deadline)
    → same_deadline a b ≡ ((a.class == b.class) && ((a.first == b.first) && (a.last == b.last)))
fields a b = refl

abbrev deadline : ℕ → ℕ → ℕ → Deadline
deadline class first last = record { class = class; first = first; last = last }

alike : (a b : Deadline) → same_deadline a b ≡ true → a ≡ b
alike a b h =
    let p = and_parts (a.class == b.class) ((a.first == b.first) && (a.last == b.last)) (sym (fields a b) ∙ h) in
    let q = and_parts (a.first == b.first) (a.last == b.last) p.1 in
    ap (λ x. deadline x a.first a.last) (eqb-true a.class b.class p.0)
    ∙ ap (λ x. deadline b.class x a.last) (eqb-true a.first b.first q.0)
    ∙ ap (λ x. deadline b.class b.first x) (eqb-true a.last b.last q.1)

itself : (a : Deadline) → same_deadline a a ≡ true
itself a =
    fields a a
    ∙ and_from (a.class == a.class) ((a.first == a.first) && (a.last == a.last)) (eq-eqb a.class a.class refl)
    (and_from (a.first == a.first) (a.last == a.last) (eq-eqb a.first a.first refl) (eq-eqb a.last a.last refl))

pub deadlines-same : (a b : Deadline) → Decides (same_deadline a b) (a ≡ b)
deadlines-same a b = (alike a b, λ e. ap (same_deadline a) (sym e) ∙ itself a)
