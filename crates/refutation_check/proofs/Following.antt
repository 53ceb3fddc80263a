-- The loop over the hints: where marks show the literals reached so far, the next hint is unit under the one as under the other.
use Rattle.std.proofs.Common.{◌≡◌, ℕ, ◌+◌, ◌-◌, ◌<◌, ◌≤◌, true, false, List, [], ◌∷◌, length, map, take, get_or, refl, sym, ap, ◌∙◌, subst, arith, suc, zero}
use Rattle.std.specs.List.{All, Contains}
use Rattle.std.specs.Prelude.{slice_index}
use Rattle.std.proofs.lemmas.List.{get_or-append_right, nil_from_length}
use Rattle.std.proofs.lemmas.List.Elements.{All-set, All-contains}
use Rattle.cnf_core.specs.declared.literal.Lit.{Lit}
use Rattle.cnf_core.specs.declared.line.Line.{Line}
use Rattle.cnf_core.specs.Formula.{Formula, IsLitOf}
use Rattle.cnf_core.specs.Values.{partial_of, IsUnit, IsFalseClause}
use Rattle.cnf_core.specs.Refutation.{known_clauses, clause_at, Reaches, negations, HasUnits, EndsFalse}
use Rattle.refutation_check.proofs.Reaching.{reaches-more, reaches-stuck, reaches-unique, unit-agrees, false-agrees}
use Rattle.refutation_check.specs.declared.values.Mark.{Mark}
use Rattle.refutation_check.specs.Marked.{marked, Shows, with_true, NoneIsLater, Follows}
use Rattle.refutation_check.proofs.Showing.{Shows-cons}

-- a hint past the formula's clauses names a lemma
get_or-lemmas : (earlier : List Line) (i : ℕ) (d : Line) → i < length earlier → get_or (map (λ (l : Line). l.lits) earlier) i [] ≡ (get_or earlier i d).lits
get_or-lemmas [] i d few = absurd (omega arith)
get_or-lemmas (l ∷ ls) zero d few = refl
get_or-lemmas (l ∷ ls) (suc i) d few = get_or-lemmas ls i d (omega arith)

pub clause_at-lemma : (clauses : List (List Lit)) (earlier : List Line) (h : ℕ) (d : Line) → length clauses < h → h ≤ length clauses + length earlier → clause_at (known_clauses clauses earlier) h ≡ (get_or earlier (h - length clauses - 1) d).lits
clause_at-lemma clauses earlier h d low high =
    let e : h - 1 - length clauses ≡ h - length clauses - 1 = omega arith in
    get_or-append_right clauses (map (λ (l : Line). l.lits) earlier) (length clauses) (h - 1) [] refl (omega arith)
    ∙ ap (λ (i : ℕ). get_or (map (λ (l : Line). l.lits) earlier) i []) e
    ∙ get_or-lemmas earlier (h - length clauses - 1) d (omega arith)

-- the marks and the literals which they show agree on a clause's variables
agree : (line : ℕ) (marks : List Mark) (s : List Lit) (c : List Lit) → Shows line marks s → All (IsLitOf (length marks)) c → (m : Lit) → Contains c m → partial_of s m.var ≡ marked line marks m.var
agree line marks s c h exist m there =
    let at = All-contains (IsLitOf (length marks)) c m exist there in
    h m.var at.above at.within

pub unit-shown : (line : ℕ) (marks : List Mark) (s : List Lit) (c : List Lit) (l : Lit) → Shows line marks s → All (IsLitOf (length marks)) c → IsUnit (marked line marks) c l → IsUnit (partial_of s) c l
unit-shown line marks s c l h exist u = unit-agrees (marked line marks) (partial_of s) c l (λ m there. sym (agree line marks s c h exist m there)) u

pub unit-marked : (line : ℕ) (marks : List Mark) (s : List Lit) (c : List Lit) (l : Lit) → Shows line marks s → All (IsLitOf (length marks)) c → IsUnit (partial_of s) c l → IsUnit (marked line marks) c l
unit-marked line marks s c l h exist u = unit-agrees (partial_of s) (marked line marks) c l (agree line marks s c h exist) u

pub false-shown : (line : ℕ) (marks : List Mark) (s : List Lit) (c : List Lit) → Shows line marks s → All (IsLitOf (length marks)) c → IsFalseClause (marked line marks) c → IsFalseClause (partial_of s) c
false-shown line marks s c h exist f = false-agrees (marked line marks) (partial_of s) c (λ m there. sym (agree line marks s c h exist m there)) f

pub false-marked : (line : ℕ) (marks : List Mark) (s : List Lit) (c : List Lit) → Shows line marks s → All (IsLitOf (length marks)) c → IsFalseClause (partial_of s) c → IsFalseClause (marked line marks) c
false-marked line marks s c h exist f = false-agrees (partial_of s) (marked line marks) c (agree line marks s c h exist) f

-- one more hint that is unit
pub follows-more : (cs : List (List Lit)) (hs : List ℕ) (i d line : ℕ) (old marks : List Mark) (c : List Lit) (n : ℕ) (l : Lit) → i < length hs → Follows true cs (take i hs) line old marks → c ≡ clause_at cs (get_or hs i d) → length marks ≡ n → All (IsLitOf n) c → IsUnit (marked line marks) c l → Follows true cs (take (i + 1) hs) line old (with_true line marks l)
follows-more cs hs i d line old marks c n l few before is size exist' unit s shown =
    let (t, way, shows) = before s shown in
    let exist = subst (λ (k : ℕ). All (IsLitOf k) c) (sym size) exist' in
    let at = All-contains (IsLitOf (length marks)) c l exist unit.among in
    (l ∷ t, reaches-more cs s hs i d t l few way (subst (λ (x : List Lit). IsUnit (partial_of t) x l) is (unit-shown line marks t c l shows exist unit)), Shows-cons line marks t l shows at.above at.within)

-- a hint that is not unit
pub follows-stuck : (cs : List (List Lit)) (hs : List ℕ) (i d line : ℕ) (old marks new : List Mark) (c : List Lit) (n : ℕ) → i < length hs → Follows true cs (take i hs) line old marks → c ≡ clause_at cs (get_or hs i d) → length marks ≡ n → All (IsLitOf n) c → ((l : Lit) → IsUnit (marked line marks) c l → ⊥) → Follows false cs hs line old new
follows-stuck cs hs i d line old marks new c n few before is size exist' none s shown u way' =
    let (t, way, shows) = before s shown in
    let exist = subst (λ (k : ℕ). All (IsLitOf k) c) (sym size) exist' in
    reaches-stuck cs s hs i d t u few way (λ l unit. none l (unit-marked line marks t c l shows exist (subst (λ (x : List Lit). IsUnit (partial_of t) x l) (sym is) unit))) way'

-- the mark of a literal that this line makes true
pub bound-set : (line : ℕ) (marks : List Mark) (l : Lit) → NoneIsLater line marks → NoneIsLater line (with_true line marks l)
bound-set line marks l h = All-set (λ (m : Mark). m.line ≤ line) marks (l.var - 1) (record { line = line; positive = l.positive }) (omega arith) h

take-nil : (n : ℕ) → ◌≡◌ {A = List ℕ} (take n []) []
take-nil zero = refl
take-nil (suc n) = refl

-- no hint at all: none before the last is not unit, and there is no last
pub no-hints : (f : Formula) (earlier : List Line) (line : Line) → length line.hints ≡ 0 → HasUnits f earlier line × (EndsFalse f earlier line → ⊥)
no-hints f earlier line none =
    let s = negations line.lits in
    let e : take (length line.hints - 1) line.hints ≡ [] = ap (take (length line.hints - 1)) (nil_from_length line.hints none) ∙ take-nil (length line.hints - 1) in
    ((s, subst (λ (xs : List ℕ). Reaches (known_clauses f.clauses earlier) s xs s) (sym e) refl), (λ ends. let some = ends.2 in omega arith))

-- the last hint is not false
pub not-ends : (f : Formula) (earlier : List Line) (line : Line) (number : ℕ) (marks : List Mark) (c : List Lit) (t : List Lit) → Reaches (known_clauses f.clauses earlier) (negations line.lits) (take (length line.hints - 1) line.hints) t → Shows number marks t → length marks ≡ f.vars → c ≡ clause_at (known_clauses f.clauses earlier) (slice_index line.hints (length line.hints - 1)) → All (IsLitOf f.vars) c → (IsFalseClause (marked number marks) c → ⊥) → HasUnits f earlier line × (EndsFalse f earlier line → ⊥)
not-ends f earlier line number marks c t way shows size is exist' fails =
    let exist = subst (λ (k : ℕ). All (IsLitOf k) c) (sym size) exist' in (
      (t, way),
      (λ ends.
          let same = reaches-unique (known_clauses f.clauses earlier) (negations line.lits) (take (length line.hints - 1) line.hints) ends.0 t ends.1 way in
          fails (false-marked number marks t c shows exist (subst (λ (x : List Lit). IsFalseClause (partial_of x) c) same (subst (λ (x : List Lit). IsFalseClause (partial_of ends.0) x) (sym is) ends.3)))),
    )
