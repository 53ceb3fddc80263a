-- Lists of what is known of a pattern's variables: nothing, one more, and two lists together.
use Rattle.std.proofs.Common.{◌≡◌, ℕ, zero, suc, ◌<◌, List, [], ◌∷◌, ◌++◌, length, get_or, set, Some, None, AllPairs, Contains, refl, sym, ◌∙◌, subst, inl, inr, ◌⊎◌, arith, ⊎_elim}
use Rattle.std.proofs.lemmas.List.{get_or-set_same, get_or-set_other, length-set}
use Rattle.std.proofs.lemmas.List.Kept.{AllPairs-cons}
use Rattle.std.proofs.lemmas.List.Elements.{All-append, Contains-append_left, Contains-append_right, Contains-append_cases, Contains-get_or}
use Rattle.std.proofs.lemmas.Bool.Decides.{eqb_tells}
use Rattle.pattern_match.specs.Bindings.{Binding, known_class, Agrees, Covered, Apart, Finds, IsBound, AreBound, Keeps}

pub pairs_append : {X : Type 0} (R : X → X → Type 0) (xs ys : List X) → AllPairs R xs → AllPairs R ys → ((x y : X) → Contains xs x → Contains ys y → R x y) → AllPairs R (xs ++ ys)
pairs_append R [] ys p q r = q
pairs_append R (x ∷ xs) ys p q r =
    AllPairs-cons R x (xs ++ ys)
    (All-append (R x) xs ys (λ k d l. p 0 (suc k) d (omega arith) (omega (arith, l))) (λ k d l. r x (get_or ys k d) (0, omega arith, refl) (Contains-get_or ys k d l)))
    (pairs_append R xs ys (λ i j d a b. p (suc i) (suc j) d (omega (arith, a)) (omega (arith, b))) q (λ a b h k. r a b (suc h.0, omega (arith, h.1), h.2) k))

pub covered_left : (xs ys : List Binding) (cs : List ℕ) → Covered xs cs → Covered (xs ++ ys) cs
covered_left xs ys cs h = record { binding = h.binding; there = Contains-append_left xs ys h.binding h.there; agrees = h.agrees }

pub covered_right : (xs ys : List Binding) (cs : List ℕ) → Covered ys cs → Covered (xs ++ ys) cs
covered_right xs ys cs h = record { binding = h.binding; there = Contains-append_right xs ys h.binding h.there; agrees = h.agrees }

pub covered_cases : (xs ys : List Binding) (cs : List ℕ) → Covered (xs ++ ys) cs → Covered xs cs ⊎ Covered ys cs
covered_cases xs ys cs h =
    elim (Contains-append_cases xs ys h.binding h.there) [
      | inl k ↦ inl (record { binding = h.binding; there = k; agrees = h.agrees })
      | inr k ↦ inr (record { binding = h.binding; there = k; agrees = h.agrees })
    ]

pub covered_one : (b : Binding) (cs : List ℕ) → Agrees b cs → Covered (b ∷ []) cs
covered_one b cs h = record { binding = b; there = (0, omega arith, refl); agrees = h }

pub covered_none : (cs : List ℕ) → Covered [] cs → ⊥
covered_none cs h = absurd (let k = h.there in omega (arith, k.1))

only_one : (b d : Binding) → Contains (b ∷ []) d → b ≡ d
only_one b d (zero, l, e) = e
only_one b d (suc k, l, e) = absurd (omega (arith, l))

pub one_covered : (b : Binding) (cs : List ℕ) → Covered (b ∷ []) cs → Agrees b cs
one_covered b cs h = subst (λ x. Agrees x cs) (sym (only_one b h.binding h.there)) h.agrees

pub finds_none : (Q : List ℕ → Type 0) → ((cs : List ℕ) → Q cs → ⊥) → Finds Q []
finds_none Q never = record {
  sound = λ cs h. absurd (covered_none cs h);
  complete = λ cs q. absurd (never cs q);
  apart = λ i j d a b. absurd (omega (arith, a, b));
}

pub finds_one : (b : Binding) → Finds (Agrees b) (b ∷ [])
finds_one b = record {
  sound = one_covered b;
  complete = covered_one b;
  apart = λ i j d a l. absurd (omega (arith, a, l));
}

pub finds_same : (Q R : List ℕ → Type 0) (out : List Binding) → ((cs : List ℕ) → Q cs → R cs) → ((cs : List ℕ) → R cs → Q cs) → Finds Q out → Finds R out
finds_same Q R out there back h = record { sound = λ cs k. there cs (h.sound cs k); complete = λ cs k. h.complete cs (back cs k); apart = h.apart }

pub finds_append : (Q R : List ℕ → Type 0) (xs ys : List Binding) → ((cs : List ℕ) → Q cs → R cs → ⊥) → Finds Q xs → Finds R ys → Finds (λ cs. Q cs ⊎ R cs) (xs ++ ys)
finds_append Q R xs ys never f g = record {
  sound = λ cs h. elim (covered_cases xs ys cs h) [ inl k ↦ inl (f.sound cs k) | inr k ↦ inr (g.sound cs k) ];
  complete = λ cs q. elim q [ inl k ↦ covered_left xs ys cs (f.complete cs k) | inr k ↦ covered_right xs ys cs (g.complete cs k) ];
  apart = pairs_append Apart xs ys f.apart g.apart
      (λ b d h k cs m n. never cs (f.sound cs (record { binding = b; there = h; agrees = m })) (g.sound cs (record { binding = d; there = k; agrees = n })));
}

-- ---- what each item keeps

pub keeps_none : (bs : List Binding) (V : ℕ → Type 0) → Keeps bs V []
keeps_none bs V = record { counts = λ n h k d l. absurd (omega arith); bound = λ k d l. absurd (omega arith) }

pub keeps_append : (bs : List Binding) (V : ℕ → Type 0) (xs ys : List Binding) → Keeps bs V xs → Keeps bs V ys → Keeps bs V (xs ++ ys)
keeps_append bs V xs ys f g = record {
  counts = λ n h. All-append (λ b. length b ≡ n) xs ys (f.counts n h) (g.counts n h);
  bound = All-append (λ b. (v : ℕ) → AreBound bs v ⊎ V v → IsBound b v) xs ys f.bound g.bound;
}

pub keeps_itself : (bs : List Binding) (V : ℕ → Type 0) → ((v : ℕ) → V v → ⊥) → Keeps bs V bs
keeps_itself bs V never = record {
  counts = λ n h. h;
  bound = λ k d l v h. elim h [ inl a ↦ a k d l | inr x ↦ absurd (never v x) ];
}

-- what an item of a later list keeps, where the list before has seen V and this one W
pub keeps_through : (bs ds : List Binding) (V W U : ℕ → Type 0) (out : List Binding) → ((v : ℕ) → U v → V v ⊎ W v) → Keeps bs V ds → Keeps ds W out → Keeps bs U out
keeps_through bs ds V W U out parts f g = record {
  counts = λ n h. g.counts n (f.counts n h);
  bound = λ k d l v h. g.bound k d l v (⊎_elim
      (λ a. inl (λ i e m. f.bound i e m v (inl a)))
      (λ u. ⊎_elim (λ x. inl (λ i e m. f.bound i e m v (inr x))) (λ w. inr w) (parts v u))
      h);
}

-- ---- one more class known

-- nothing else is known of it
abbrev pub IsFree : Binding → ℕ → ℕ → Type 0
IsFree b v c = (known_class b v ≡ None) ⊎ (known_class b v ≡ Some c)

pub set_agrees : (b : Binding) (v c : ℕ) (cs : List ℕ) → v < length b → IsFree b v c → Agrees (set b v (Some c)) cs → Agrees b cs × (get_or cs v 0 ≡ c)
set_agrees b v c cs l free h =
    let at : get_or cs v 0 ≡ c = h.each v c (get_or-set_same b v (Some c) None l) in (
      record {
        count = h.count ∙ length-set b v (Some c);
        each = λ w x k. elim (eqb_tells w v) [
          | inl e ↦ (let kv : known_class b v ≡ Some x = subst (λ u. known_class b u ≡ Some x) e.1 k in
              let xc : c ≡ x = ⊎_elim (λ (n : known_class b v ≡ None). absurd (cc)) (λ (s : known_class b v ≡ Some c). cc) free in
              subst (λ u. get_or cs u 0 ≡ x) (sym e.1) (at ∙ xc))
          | inr e ↦ h.each w x (get_or-set_other b v w (Some c) None e.1 ∙ k)
        ];
      },
      at,
    )

pub agrees_set : (b : Binding) (v c : ℕ) (cs : List ℕ) → v < length b → Agrees b cs → get_or cs v 0 ≡ c → Agrees (set b v (Some c)) cs
agrees_set b v c cs l h at = record {
  count = h.count ∙ sym (length-set b v (Some c));
  each = λ w x k. elim (eqb_tells w v) [
    | inl e ↦ (let s : Some c ≡ Some x = sym (get_or-set_same b v (Some c) None l) ∙ subst (λ u. known_class (set b v (Some c)) u ≡ Some x) e.1 k in
        let xc : c ≡ x = cc in
        subst (λ u. get_or cs u 0 ≡ x) (sym e.1) (at ∙ xc))
    | inr e ↦ h.each w x (sym (get_or-set_other b v w (Some c) None e.1) ∙ k)
  ];
}

pub set_bound : (b : Binding) (v c w : ℕ) → v < length b → (IsBound b w ⊎ (w ≡ v)) → IsBound (set b v (Some c)) w
set_bound b v c w l h =
    elim (eqb_tells w v) [
      | inl e ↦ (c, subst (λ u. known_class (set b v (Some c)) u ≡ Some c) (sym e.1) (get_or-set_same b v (Some c) None l))
      | inr e ↦ elim h [ inl k ↦ (k.0, get_or-set_other b v w (Some c) None e.1 ∙ k.1) | inr k ↦ absurd (e.1 k) ]
    ]
