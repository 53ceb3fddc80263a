-- The loop that makes a lemma's literals false.
use Rattle.std.proofs.Common.{◌≡◌, ◌≢◌, ℕ, ◌+◌, ◌-◌, ◌<◌, ◌≤◌, not, List, [], length, take, get_or, sym, ◌∙◌, subst, arith}
use Rattle.std.specs.List.{All, AllPairs}
use Rattle.std.proofs.lemmas.List.{take_more, get_or_default, length-set, map_push, get_or-take, length-take}
use Rattle.std.proofs.lemmas.List.Elements.{All-nil, All-more, All-weaker, All-set}
use Rattle.std.proofs.lemmas.List.Quantifiers.{all_pairs_push}
use Rattle.cnf_core.specs.declared.literal.Lit.{Lit}
use Rattle.cnf_core.specs.Formula.{IsLitOf}
use Rattle.cnf_core.specs.Formula.{negated}
use Rattle.cnf_core.specs.Values.{IsUnassigned}
use Rattle.cnf_core.specs.Refutation.{negations}
use Rattle.refutation_check.specs.declared.values.Mark.{Mark}
use Rattle.refutation_check.specs.Marked.{marked, Shows, with_true, NoneIsLater, AreDistinctAmong}
use Rattle.refutation_check.proofs.Showing.{Shows-none, Shows-push, free-differ, differ-free}

-- the literals so far are apart, and the marks show that they are false
pub record AssumedSoFar (line : ℕ) (marks : List Mark) (front : List Lit) : Type 0 where
  pub apart : AreDistinctAmong (length marks) front
  pub shows : Shows line marks (negations front)
  pub bound : NoneIsLater line marks

pub assumed-none : (line : ℕ) (marks : List Mark) (lits : List Lit) → 1 ≤ line → NoneIsLater (line - 1) marks → AssumedSoFar line marks (take 0 lits)
assumed-none line marks lits some h =
    let at : line - 1 + 1 ≡ line = omega arith in
    record {
      apart = record { exist = All-nil (IsLitOf (length marks)); differ = λ i j d l k. absurd (omega (arith, k)) };
      shows = subst (λ (n : ℕ). Shows n marks []) at (Shows-none (line - 1) marks h);
      bound = All-weaker (λ (m : Mark). m.line ≤ line - 1) (λ (m : Mark). m.line ≤ line) (λ m p. omega arith) marks h;
    }

pub assumed-more : (line : ℕ) (marks : List Mark) (lits : List Lit) (i : ℕ) (d : Lit) → i < length lits → AssumedSoFar line marks (take i lits) → IsLitOf (length marks) (get_or lits i d) → IsUnassigned (marked line marks) (get_or lits i d) → AssumedSoFar line (with_true line marks (negated (get_or lits i d))) (take (i + 1) lits)
assumed-more line marks lits i d few h at free =
    let l = get_or lits i d in
    let n = length-set marks (l.var - 1) (record { line = line; positive = not l.positive }) in
    let e = take_more lits i d few in
    record {
      apart = record {
        exist = subst (λ (k : ℕ). All (IsLitOf k) (take (i + 1) lits)) (sym n) (All-more (IsLitOf (length marks)) lits i d few h.apart.exist at);
        differ = subst (AllPairs (λ (a b : Lit). a.var ≢ b.var)) (sym e)
            (all_pairs_push (λ (a b : Lit). a.var ≢ b.var) (take i lits) l h.apart.differ (free-differ (take i lits) l.var (h.shows l.var at.above at.within ∙ free)));
      };
      shows = subst (λ (xs : List Lit). Shows line (with_true line marks (negated l)) (negations xs)) (sym e)
          (subst (Shows line (with_true line marks (negated l))) (sym (map_push negated (take i lits) l))
          (Shows-push line marks (negations (take i lits)) (negated l) h.shows at.above at.within free));
      bound = All-set (λ (m : Mark). m.line ≤ line) marks (l.var - 1) (record { line = line; positive = not l.positive }) (omega arith) h.bound;
    }

-- a variable that has a value already: two literals are of it
pub not-apart : (line : ℕ) (marks : List Mark) (lits : List Lit) (i : ℕ) (d : Lit) → i < length lits → AssumedSoFar line marks (take i lits) → IsLitOf (length marks) (get_or lits i d) → (IsUnassigned (marked line marks) (get_or lits i d) → ⊥) → (n : ℕ) → AreDistinctAmong n lits → ⊥
not-apart line marks lits i d few h at busy n apart =
    let l = get_or lits i d in
    busy (sym (h.shows l.var at.above at.within) ∙ differ-free (take i lits) l.var
    (λ k e less.
    let few' : k < i = omega (arith, length-take i lits) in
    subst (λ (m : Lit). m.var ≢ l.var) (sym (get_or-take i lits k e few'))
    (subst (λ (m : Lit). m.var ≢ l.var) (get_or_default lits k d e (omega arith)) (apart.differ k i d few' few))))
