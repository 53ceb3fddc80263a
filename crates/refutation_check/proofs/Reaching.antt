-- Where hints lead is determined, and a line that is refused isn't accepted.
use Rattle.std.proofs.Common.{◌≡◌, ℕ, ◌+◌, ◌-◌, ◌<◌, Bool, List, [], ◌∷◌, ◌++◌, length, take, get_or, refl, sym, ap, ◌∙◌, subst, arith, ◌⊎◌, inl, inr, suc, zero, Some, None}
use Rattle.std.specs.List.{Contains}
use Rattle.std.proofs.lemmas.List.{take_more, get_or_default}
use Rattle.std.proofs.lemmas.List.Elements.{All-contains}
use Rattle.std.proofs.lemmas.Bool.{cases_eq, cases_lt}
use Rattle.cnf_core.specs.declared.literal.Lit.{Lit}
use Rattle.cnf_core.specs.declared.line.Line.{Line}
use Rattle.cnf_core.specs.Formula.{Formula}
use Rattle.cnf_core.specs.Values.{Partial, partial_of, IsUnit, IsFalse, IsFalseClause}
use Rattle.cnf_core.specs.Refutation.{clause_at, Reaches, IsAccepted, AreRight, IsRefusedFor, IsFirstRefusal}

none≢some : {b : Bool} → None ≡ Some b → ⊥
none≢some e = cc

-- a clause is unit for one literal at most
pub unit-unique : (s : Partial) (c : List Lit) (l m : Lit) → IsUnit s c l → IsUnit s c m → l ≡ m
unit-unique s c l m a b =
    elim (All-contains (λ x. (x ≡ m) ⊎ IsFalse s x) c l b.others a.among) [
      | inl same ↦ same
      | inr false' ↦ absurd (none≢some (sym a.free ∙ false'))
    ]

pub reaches-unique : (cs : List (List Lit)) (s : List Lit) (hs : List ℕ) (t u : List Lit) → Reaches cs s hs t → Reaches cs s hs u → t ≡ u
reaches-unique cs s [] t u a b = sym a ∙ b
reaches-unique cs s (h ∷ hs) t u a b =
    let e = unit-unique (partial_of s) (clause_at cs h) b.0 a.0 b.1 a.1 in
    reaches-unique cs (a.0 ∷ s) hs t u a.2 (subst (λ (l : Lit). Reaches cs (l ∷ s) hs u) e b.2)

-- one more unit hint
pub reaches-push : (cs : List (List Lit)) (s : List Lit) (hs : List ℕ) (t : List Lit) (h : ℕ) (l : Lit) → Reaches cs s hs t → IsUnit (partial_of t) (clause_at cs h) l → Reaches cs s (hs ++ h ∷ []) (l ∷ t)
reaches-push cs s [] t h l r u = (l, subst (λ (x : List Lit). IsUnit (partial_of x) (clause_at cs h) l) (sym r) u, ap (λ (x : List Lit). l ∷ x) r)
reaches-push cs s (g ∷ hs) t h l r u = (r.0, r.1, reaches-push cs (r.0 ∷ s) hs t h l r.2 u)

pub reaches-more : (cs : List (List Lit)) (s : List Lit) (hs : List ℕ) (i d : ℕ) (t : List Lit) (l : Lit) → i < length hs → Reaches cs s (take i hs) t → IsUnit (partial_of t) (clause_at cs (get_or hs i d)) l → Reaches cs s (take (i + 1) hs) (l ∷ t)
reaches-more cs s hs i d t l few r u = subst (λ (xs : List ℕ). Reaches cs s xs (l ∷ t)) (sym (take_more hs i d few)) (reaches-push cs s (take i hs) t (get_or hs i d) l r u)

-- where hints lead, each of them is unit after those before it
pub reaches-at : (cs : List (List Lit)) (s : List Lit) (hs : List ℕ) (i d : ℕ) (u : List Lit) → i < length hs → Reaches cs s hs u → (t : List Lit) × (l : Lit) × Reaches cs s (take i hs) t × IsUnit (partial_of t) (clause_at cs (get_or hs i d)) l
reaches-at cs s [] i d u few r = absurd (omega arith)
reaches-at cs s (h ∷ hs) zero d u few r = (s, r.0, refl, r.1)
reaches-at cs s (h ∷ hs) (suc i) d u few r =
    let (t, l, way, unit) = reaches-at cs (r.0 ∷ s) hs i d u (omega arith) r.2 in
    (t, l, (r.0, r.1, way), unit)

-- so hints lead nowhere past one that is not unit
pub reaches-stuck : (cs : List (List Lit)) (s : List Lit) (hs : List ℕ) (i d : ℕ) (t u : List Lit) → i < length hs → Reaches cs s (take i hs) t → ((l : Lit) → IsUnit (partial_of t) (clause_at cs (get_or hs i d)) l → ⊥) → Reaches cs s hs u → ⊥
reaches-stuck cs s hs i d t u few way none r =
    let (t', l, way', unit) = reaches-at cs s hs i d u few r in
    none l (subst (λ (x : List Lit). IsUnit (partial_of x) (clause_at cs (get_or hs i d)) l) (reaches-unique cs s (take i hs) t' t way' way) unit)

-- values that agree on the clause's variables make the same literal unit, and the same clauses false
pub unit-agrees : (p q : Partial) (c : List Lit) (l : Lit) → ((m : Lit) → Contains c m → p m.var ≡ q m.var) → IsUnit p c l → IsUnit q c l
unit-agrees p q c l same u =
    record {
      among = u.among;
      free = sym (same l u.among) ∙ u.free;
      others = λ k d few. elim (u.others k d few) [
        | inl is ↦ inl is
        | inr false' ↦ inr (sym (same (get_or c k d) (k, few, get_or_default c k (get_or c k d) d few)) ∙ false')
      ];
    }

pub false-agrees : (p q : Partial) (c : List Lit) → ((m : Lit) → Contains c m → p m.var ≡ q m.var) → IsFalseClause p c → IsFalseClause q c
false-agrees p q c same f = λ k d few. sym (same (get_or c k d) (k, few, get_or_default c k (get_or c k d) d few)) ∙ f k d few

-- a refused line is not accepted
pub refused-not_accepted : (f : Formula) (earlier : List Line) (line : Line) (why : ℕ) → IsRefusedFor f earlier line why → IsAccepted f earlier line → ⊥
refused-not_accepted f earlier line why r a =
    elim (cases_eq why 1) [
      | inl one ↦ r.number one a.numbered
      | inr n1 ↦ elim (cases_eq why 2) [
        | inl two ↦ r.name two a.named
        | inr n2 ↦ elim (cases_eq why 3) [
          | inl three ↦ r.unit three (a.ends.0, a.ends.1)
          | inr n3 ↦ r.end (let low = r.least in let high = r.most in omega arith) a.ends
        ]
      ]
    ]

-- **where a line is refused, the lines aren't right**
pub refusal-not_right : (P : ℕ → Line → Type 0) (f : Formula) (lines : List Line) (number why : ℕ) → IsFirstRefusal P f lines number why → AreRight P f lines → ⊥
refusal-not_right P f [] number why r ok = absurd (omega (arith, ok.some))
refusal-not_right P f (line ∷ more) number why r ok =
    let lines = line ∷ more in
    elim (cases_lt (length lines) number) [
      | inl past ↦ (let e = (r.none past).0 in absurd (omega arith))
      | inr within ↦
          (let one = r.from_one in let few : number - 1 < length lines = omega arith in
          elim (r.refused line within) [
            | inl early ↦ refused-not_accepted f (take (number - 1) lines) (get_or lines (number - 1) line) why early (ok.accepted (number - 1) line few)
            | inr late ↦ late.2 (ok.placed (number - 1) line few)
          ])
    ]
