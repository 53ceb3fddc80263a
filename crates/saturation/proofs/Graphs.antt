-- What follows of a graph's own facts.
use Rattle.std.proofs.Common.{◌≡◌, ℕ, ◌<◌, length, slice_index, Contains, All, subst}
use Rattle.std.proofs.lemmas.List.Elements.{All-contains, All-get_or}
use Rattle.word_terms.specs.Signature.{Signature}
use Rattle.egraph.specs.declared.rows.Row.{Row}
use Rattle.egraph.specs.Graph.{Graph, HasClass, IsPresent, IsGraph}
use Rattle.egraph.specs.Joined.{kept, IsMerged}

-- the class that each class is in
abbrev pub cur : {O : Type 0} → Graph O → ℕ → ℕ
cur g x = slice_index g.current x

pub row_made : {O : Type 0} (s : Signature O) (g : Graph O) (is : IsGraph s g) (r : Row O) → Contains g.rows r → r.class < length g.current
row_made s g is r h = (All-contains (λ t. IsPresent g t.class) g.rows r is.classes h).made

pub row_present : {O : Type 0} (s : Signature O) (g : Graph O) (is : IsGraph s g) (r : Row O) → Contains g.rows r → cur g r.class ≡ r.class
row_present s g is r h = (All-contains (λ t. IsPresent g t.class) g.rows r is.classes h).itself

pub has_made : {O : Type 0} (s : Signature O) (g : Graph O) (is : IsGraph s g) (c : ℕ) → HasClass g c → c < length g.current
has_made s g is c h = subst (λ x. x < length g.current) h.is (row_made s g is h.row h.there)

pub has_present : {O : Type 0} (s : Signature O) (g : Graph O) (is : IsGraph s g) (c : ℕ) → HasClass g c → cur g c ≡ c
has_present s g is c h = subst (λ x. cur g x ≡ x) h.is (row_present s g is h.row h.there)

pub operands_have : {O : Type 0} (s : Signature O) (g : Graph O) (is : IsGraph s g) (r : Row O) → Contains g.rows r → All (HasClass g) r.operands
operands_have s g is r h = All-contains (λ t. All (HasClass g) t.operands) g.rows r is.operands h

-- the class that a class ever made is in has a row
pub current_has : {O : Type 0} (s : Signature O) (g : Graph O) (is : IsGraph s g) (x : ℕ) → x < length g.current → HasClass g (cur g x)
current_has s g is x l = All-get_or (HasClass g) g.current x 0 l is.inhabited

-- a merge reads a class and the one that it was in alike
pub now_again : {O : Type 0} (s : Signature O) (old : Graph O) (is : IsGraph s old) (a b : ℕ) (new : Graph O) (m : IsMerged old a b new) (x : ℕ) → x < length old.current → cur new (cur old x) ≡ cur new x
now_again s old is a b new m x l =
    let h = current_has s old is x l in
    let lo = has_made s old is (cur old x) h in
    (m.joined (cur old x) x lo l).1 (kept (cur old x) x lo l (has_present s old is (cur old x) h))
