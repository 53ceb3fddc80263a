-- What is asked in a round, by the matches of which it comes.
use Rattle.std.proofs.Common.{◌≡◌, ℕ, List, [], map, Contains, All, refl, sym, ◌∙◌, subst, inl, inr, ◌⊎◌, arith}
use Rattle.word_ops.specs.declared.sorts.Op.{Op}
use Rattle.word_terms.specs.Keys.{op_signature}
use Rattle.word_terms.specs.Tree.{Tree, substituted}
use Rattle.word_terms.specs.Sorting.{HasSort}
use Rattle.axiom_base.specs.Rewrites.{Rewrite}
use Rattle.word_terms.specs.Building.{constant}
use Rattle.axiom_base.specs.Schemes.{AddedRules, IsRuleOf, schemes}
use Rattle.egraph.specs.Graph.{Graph, IsGraph}
use Rattle.pattern_match.specs.Classes.{IsClass, at_row, no_classes}
use Rattle.pattern_match.specs.Matches.{IsMatch}
use Rattle.saturation.specs.Trace.{Asked, MayJoin}
use Rattle.saturation.specs.Asking.{AsksFor, AreAsked}
use Rattle.saturation.proofs.Deciding.{tell_class}
use Rattle.saturation.proofs.Made.{IsJustified}
use Rattle.saturation.proofs.OneRule.{AreNumbered, GiveOne, one_rule, one_match}

-- what is asked comes of matches, and each match that isn't met is asked for
pub record Asks (added : AddedRules) (g : Graph Op) (asked : List Asked) : Type 0 where
  pub each : All (λ (a : Asked). (r : Rewrite) × IsRuleOf added r × ((places : List ℕ) × IsMatch g r places a.class × AsksFor r places a)) asked
  pub all :
      (r : Rewrite) →
      IsRuleOf added r →
      (places : List ℕ) (c : ℕ) →
      IsMatch g r places c →
      IsClass g places r.right c ⊎ ((a : Asked) × Contains asked a × (a.class ≡ c) × AsksFor r places a)

pub asks_of : (numbers : AreNumbered) (one : GiveOne) (added : AddedRules) (g : Graph Op) → IsGraph op_signature g → (asked : List Asked) → AreAsked g (schemes added) asked → Asks added g asked
asks_of numbers one added g is asked are = record {
  each = λ n d l.
      let h = are.each n d l in
      let o = h.2.1 in
      (o.rule, record { scheme = h.0; there = h.1; of = o.of }, (h.2.0, o.unmet.match, o.asks));
  all = λ r rule places c m.
      elim (tell_class g is.distinct places r.right c) [
        | inl k ↦ inl k
        | inr n ↦
            (let k = are.all rule.scheme places rule.there (record { rule = r; of = rule.of; class = c; unmet = record { match = m; right = n } }) in
            let o = k.2 in
            let same = one_rule numbers one g is places rule.scheme o.rule r k.0.class c o.of rule.of o.unmet.match m in
            let class = one_match numbers one g is places rule.scheme o.rule r k.0.class c o.of rule.of o.unmet.match m in
            inr (k.0, k.1, class, subst (λ q. AsksFor q places k.0) same o.asks))
      ];
}

-- the rule's right side over the match's classes
abbrev pub over_places : Rewrite → List ℕ → Asked → Asked
over_places r places a = record { right = r.right; places = places; class = a.class }

abbrev pub over_none : ℕ → Asked → Asked
over_none v a = record { right = constant v; places = []; class = a.class }

-- what holds of both holds of what is asked
pub as_asked : (P : Asked → Type 0) (r : Rewrite) (places : List ℕ) (a : Asked) → AsksFor r places a → P (over_places r places a) → ((v : ℕ) → r.right ≡ constant v → P (over_none v a)) → P a
as_asked P r places a asks h k =
    elim asks.over [
      | inl e ↦ subst P (λ i. record { right = sym asks.right i; places = sym e i; class = a.class }) h
      | inr e ↦ (let q = sym (asks.right ∙ e.1.1) in subst P (λ i. record { right = q i; places = sym e.0 i; class = a.class }) (k e.1.0 e.1.1))
    ]

constant_has_sort : (g : Graph Op) (r : Rewrite) (places : List ℕ) (a : Asked) (v : ℕ) → r.right ≡ constant v → MayJoin g (over_places r places a) → MayJoin g (over_none v a)
constant_has_sort g r places a v e h =
    let k = subst (HasSort op_signature h.right.variables h.sort) e h.right.has_sort in
    record {
      sort = h.sort;
      right = record { variables = []; count = refl; places_have = λ n l. absurd (omega (arith, l)); has_sort = (k.0, k.1, k.2, tt) };
      class = h.class;
    }

pub asked_may : (g : Graph Op) (r : Rewrite) (places : List ℕ) (a : Asked) → AsksFor r places a → MayJoin g (over_places r places a) → MayJoin g a
asked_may g r places a asks h = as_asked (MayJoin g) r places a asks h (λ v e. constant_has_sort g r places a v e h)

constant_justified : (D : Tree Op → Tree Op → Type 0) (g : Graph Op) (r : Rewrite) (places : List ℕ) (a : Asked) (v : ℕ) → r.right ≡ constant v → IsJustified D g (over_places r places a) → IsJustified D g (over_none v a)
constant_justified D g r places a v e h = record {
  values = [];
  left = h.left;
  stand = record { made = λ n d l. absurd (omega (arith, l)); each = λ n l. absurd (omega (arith, l)) };
  class_made = h.class_made;
  left_class = h.left_class;
  equal = constant_equal D h.left h.values r.right v e h.equal;
}
  where
    constant_equal : (D : Tree Op → Tree Op → Type 0) (left : Tree Op) (values : List (Tree Op)) (right : Tree Op) (v : ℕ) → right ≡ constant v → D left (substituted values right) → D left (constant v)
    constant_equal D left values right v e h = subst (λ t. D left (substituted values t)) e h

pub asked_justified : (D : Tree Op → Tree Op → Type 0) (g : Graph Op) (r : Rewrite) (places : List ℕ) (a : Asked) → AsksFor r places a → IsJustified D g (over_places r places a) → IsJustified D g a
asked_justified D g r places a asks h = as_asked (IsJustified D g) r places a asks h (λ v e. constant_justified D g r places a v e h)

-- the class of what is asked is that of the rule's right side
over_any : (new : Graph Op) (places : List ℕ) (v c : ℕ) → IsClass new [] (constant v) c → IsClass new places (constant v) c
over_any new places v c (at_row no_classes k) = at_row no_classes k

pub asked_class : (new : Graph Op) (f : ℕ → ℕ) (r : Rewrite) (places : List ℕ) (a : Asked) (c : ℕ) → AsksFor r places a → IsClass new (map f a.places) a.right c → IsClass new (map f places) r.right c
asked_class new f r places a c asks h =
    elim asks.over [
      | inl e ↦ subst (λ ps. IsClass new (map f ps) r.right c) e (subst (λ t. IsClass new (map f a.places) t c) asks.right h)
      | inr e ↦
          (let k = subst (λ ps. IsClass new (map f ps) (constant e.1.0) c) e.0 (subst (λ t. IsClass new (map f a.places) t c) (asks.right ∙ e.1.1) h) in
          subst (λ t. IsClass new (map f places) t c) (sym e.1.1) (over_any new (map f places) e.1.0 c k))
    ]
