-- Lists of forms that are read one behind the other, each behind those before it.
use Rattle.std.proofs.Common.{◌≡◌, ◌≢◌, ℕ, zero, suc, ◌+◌, ◌<◌, ◌||◌, ◌++◌, ◌==◌, false, None, Some, List, [], ◌∷◌, map, length, take, get_or, slice_get, refl, sym, ap, ap₂, ◌∙◌, subst, arith, length-append}
use Rattle.std.specs.Prelude.{⊤, AllPairs}
use Rattle.std.specs.List.{list_any}
use Rattle.std.proofs.lemmas.Bool.Decides.{Decides-eqb}
use Rattle.std.proofs.lemmas.List.{append-nil, append_assoc}
use Rattle.forms.specs.Forms.{Form, parts_of}
use Rattle.forms.proofs.First.{no_fault}
use Rattle.machine_table.specs.Grammar.{Each, more_of}
use Rattle.text_core.specs.declared.faults.Kind.{Kind}
use Rattle.goal_reader.specs.Reading.{IsClear}
use Rattle.text_core.specs.Names.{is_among}
use Rattle.goal_reader.specs.Roles.{Role, IsOwn, part_role, rank, of_rank, is_later_than}
use Rattle.goal_meaning.specs.Rules.{has_register}
use Rattle.goal_reader.proofs.Names.{not_true, decides_false}
use Rattle.goal_reader.proofs.Ranks.{is_itself, later_more, of_rank_more, none_later, none_of}

-- ---- the parts of a form, one after the other
module _ (role : Role) (form : Form) where
  abbrev pub EachClear : ℕ → List Form → Type 0
  EachClear at [] = ⊤
  EachClear at (f ∷ fs) = ((other : Role) → part_role role form at ≡ Some other → IsClear other f) × EachClear (suc at) fs

  each_at : (at : ℕ) (fs : List Form) → EachClear at fs → (j : ℕ) (f : Form) (other : Role) → slice_get fs j ≡ Some f → part_role role form (j + at) ≡ Some other → IsClear other f
  each_at at [] h j f other g e = cc
  each_at at (x ∷ fs) h zero f other g e = let same : x ≡ f = cc in subst (λ (y : Form). IsClear other y) same (h.0 other (ap (part_role role form) (let n : at ≡ 0 + at = omega arith in n) ∙ e))
  each_at at (x ∷ fs) h (suc j) f other g e = each_at (suc at) fs h.1 j f other g (ap (part_role role form) (let n : j + suc at ≡ suc j + at = omega arith in n) ∙ e)

  pub parts_clear : (fs : List Form) → parts_of form ≡ fs → ((k : Kind) → IsOwn role form k → ⊥) → EachClear 0 fs → IsClear role form
  parts_clear fs is own h =
      no_fault IsOwn part_role role form own
      (λ j part other place kind g e. each_at 0 fs h j part other (ap (λ xs. slice_get xs j) (sym is) ∙ g) (ap (part_role role form) (let n : j + 0 ≡ j = omega arith in n) ∙ e) place kind)

pub no_role : (other : Role) (form : Form) → None ≡ Some other → IsClear other form
no_role other form e = cc

pub as_role : (one : Role) (form : Form) → IsClear one form → (other : Role) → Some one ≡ Some other → IsClear other form
as_role one form clear other e = let same : one ≡ other = cc in subst (λ (r : Role). IsClear r form) same clear

-- ---- forms behind forms
abbrev pub Walk : (List Form → Form → Type 0) → List Form → List Form → Type 0
Walk P before [] = ⊤
Walk P before (f ∷ fs) = P before f × Walk P (before ++ f ∷ []) fs

module _ (P : List Form → Form → Type 0) where
  pub walk_at : (before fs : List Form) → Walk P before fs → (i : ℕ) (f : Form) → slice_get fs i ≡ Some f → P (before ++ take i fs) f
  walk_at before [] h i f g = cc
  walk_at before (x ∷ fs) h zero f g = let same : x ≡ f = cc in subst (λ b. P b f) (sym (append-nil before)) (subst (λ (y : Form). P before y) same h.0)
  walk_at before (x ∷ fs) h (suc i) f g = subst (λ b. P b f) (append_assoc before (x ∷ []) (take i fs)) (walk_at (before ++ x ∷ []) fs h.1 i f g)

  pub walk_both : (before xs ys : List Form) → Walk P before xs → Walk P (before ++ xs) ys → Walk P before (xs ++ ys)
  walk_both before [] ys h later = subst (λ b. Walk P b ys) (append-nil before) later
  walk_both before (x ∷ xs) ys h later = (h.0, walk_both (before ++ x ∷ []) xs ys h.1 (subst (λ b. Walk P b ys) (sym (append_assoc before (x ∷ []) xs)) later))

  -- a group of forms, each of which writes an item, where what stands before is known
  module _ {Y : Type 0} (W : Form → Y → Type 0) (State : List Form → List Y → Type 0) (all : List Y)
      (step : (before : List Form) (done rest : List Y) (f : Form) (y : Y) → all ≡ done ++ y ∷ rest → State before done → W f y → P before f × State (before ++ f ∷ []) (done ++ y ∷ [])) where
    pub group_walk : (before : List Form) (done : List Y) (fs : List Form) (ys : List Y) → Each W fs ys → all ≡ done ++ ys → State before done → Walk P before fs × State (before ++ fs) (done ++ ys)
    group_walk before done [] [] e is s = (tt, subst (λ b. State b (done ++ [])) (sym (append-nil before)) (subst (λ d. State before d) (sym (append-nil done)) s))
    group_walk before done [] (y ∷ ys) e is s = elim e [ ]
    group_walk before done (f ∷ fs) [] e is s = elim e [ ]
    group_walk before done (f ∷ fs) (y ∷ ys) (more_of one others) is s =
        let here = step before done ys f y is s one in
        let rest = group_walk (before ++ f ∷ []) (done ++ y ∷ []) fs ys others (is ∙ sym (append_assoc done (y ∷ []) ys)) here.1 in
        ((here.0, rest.0), subst (λ b. State b (done ++ y ∷ ys)) (append_assoc before (f ∷ []) fs) (subst (λ d. State ((before ++ f ∷ []) ++ fs) d) (append_assoc done (y ∷ []) ys) rest.1))

-- ---- no list of a later keyword stands before, and so many of this one
pub record Behind (keywords : List (List ℕ)) (before : List Form) (at n : ℕ) : Type 0 where
  pub later : list_any (is_later_than keywords at) before ≡ false
  pub count : length (of_rank keywords at before) ≡ n

module _ (keywords : List (List ℕ)) where
  pub behind_more : (before : List Form) (at n : ℕ) (f : Form) → Behind keywords before at n → rank keywords f ≡ Some at → Behind keywords (before ++ f ∷ []) at (n + 1)
  behind_more before at n f b e =
      let one = is_itself keywords at f e in
      let total = ap length (of_rank_more keywords at before f) ∙ length-append (of_rank keywords at before) (of_rank keywords at (f ∷ [])) in
      let last = one.1 in
      let count = b.count in
      record {
        later = later_more keywords at before f ∙ ap₂ (λ x y. x || y) b.later one.0;
        count = omega (arith, count, total, last);
      }

  pub behind_next : (before : List Form) (at n : ℕ) → Behind keywords before at n → Behind keywords before (at + 1) 0
  behind_next before at n b = record {
    later = none_later keywords at (at + 1) before (omega arith) b.later;
    count = ap length (none_of keywords at (at + 1) before (omega arith) b.later);
  }

-- ---- what differs from what stands before
pub before_apart : {X : Type 0} (R : X → X → Type 0) (xs : List X) (x : X) (rest : List X) → AllPairs R (xs ++ x ∷ rest) → (k : ℕ) (d : X) → k < length xs → R (get_or xs k d) x
before_apart R [] x rest h k d l = absurd (omega (arith, l))
before_apart R (y ∷ ys) x rest h zero d l =
    subst (λ z. R y z) (here ys) (h 0 (suc (length ys)) d (omega arith) (let n = length-append ys (x ∷ rest) in omega (arith, n)))
  where
    here : (zs : List _) → get_or (zs ++ x ∷ rest) (length zs) d ≡ x
    here [] = refl
    here (z ∷ zs) = here zs
before_apart R (y ∷ ys) x rest h (suc k) d l = before_apart R ys x rest (λ i j e m n. h (suc i) (suc j) e (omega (arith, m)) (omega (arith, n))) k d (omega (arith, l))

pub among_false : {X : Type 0} (f : X → List ℕ) (xs : List X) (n : List ℕ) → ((k : ℕ) (d : X) → k < length xs → f (get_or xs k d) ≢ n) → is_among (map f xs) n ≡ false
among_false f [] n h = refl
among_false f (x ∷ xs) n h = ap₂ (λ a b. a || b) (decides_false (f x) n (h 0 x (omega arith))) (among_false f xs n (λ k d l. h (suc k) d (omega (arith, l))))

pub register_false : (xs : List ℕ) (r : ℕ) → ((k d : ℕ) → k < length xs → get_or xs k d ≢ r) → has_register xs r ≡ false
register_false [] r h = refl
register_false (x ∷ xs) r h = ap₂ (λ a b. a || b) (not_true (x == r) (λ e. h 0 x (omega arith) ((Decides-eqb x r).0 e))) (register_false xs r (λ k d l. h (suc k) d (omega (arith, l))))

-- a name that stands behind others differs from them
pub name_new : {X : Type 0} (f : X → List ℕ) (all xs : List X) (x : X) (rest : List X) → all ≡ xs ++ x ∷ rest → AllPairs (λ a b. f a ≢ f b) all → is_among (map f xs) (f x) ≡ false
name_new f all xs x rest is h = among_false f xs (f x) (before_apart (λ a b. f a ≢ f b) xs x rest (subst (λ ys. AllPairs (λ a b. f a ≢ f b) ys) is h))

pub register_new : (all xs : List ℕ) (r : ℕ) (rest : List ℕ) → all ≡ xs ++ r ∷ rest → AllPairs (λ a b. a ≢ b) all → has_register xs r ≡ false
register_new all xs r rest is h = register_false xs r (before_apart (λ a b. a ≢ b) xs r rest (subst (λ ys. AllPairs (λ a b. a ≢ b) ys) is h))
