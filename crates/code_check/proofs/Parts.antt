-- The parts of a code and its goal, in their order, from what the comparisons tell.
use Rattle.std.proofs.Common.{◌≡◌, ℕ, zero, suc, ◌+◌, ◌<◌, ◌≤◌, List, [], ◌∷◌, ◌++◌, map, take, drop, length, refl, sym, ◌∙◌, ap, subst, arith, Bool, true, false, Option, Some, None}
use Rattle.std.specs.Prelude.{IsTrue, ◌↔◌, All, slice_get, if◌then◌else◌}
use Rattle.std.proofs.lemmas.List.{length-take-le, map-append, take_all}
use Rattle.std.proofs.lemmas.List.Elements.{All-nil, All-cons, All-append}
use Rattle.std.proofs.lemmas.Option.{none-some, same_Some, slice_get_within}
use Rattle.word_ops.specs.declared.sorts.Op.{Op}
use Rattle.word_terms.specs.Tree.{Tree}
use Rattle.egraph.specs.Graph.{Graph}
use Rattle.alpha_encode.specs.declared.instructions.Instr.{Instr}
use Rattle.goal_meaning.specs.Outcomes.{is_memory}
use Rattle.goal_meaning.specs.Views.{GoalTree, TargetTree}
use Rattle.code_check.specs.Compared.{AreAlignedBelow, AreSameBelow, IsBranchOf, IsFirstDifferentTarget, IsFirstTrap, IsSameBranch, IsSameLeaving, IsSameTarget, terms_at_branch}
use Rattle.code_check.specs.Outcomes.{HasOneBranch}
use Rattle.code_check.specs.Same.{HaveSameClass, IsAsAtEntry, IsBranchAt, IsFirstDifferent, IsSameExit, IsSameGuard, IsSamePart, Same, goal_parts, memory_target_term, places_from, terms_at_end, word_targets_from}
use Rattle.code_check.specs.Terms.{TermState, terms_after}
use Rattle.code_check.specs.declared.branches.Branch.{Branch}
use Rattle.code_check.specs.declared.codes.At.{At}
use Rattle.code_check.specs.declared.codes.Part.{Part}
use Rattle.code_check.specs.declared.codes.Part.TheVariants as parts
use Rattle.code_check.proofs.Deciding.{same_register}

-- ---- guard and exit

module _ (g : Graph Op) (instrs : List Instr) (one : HasOneBranch instrs) where
  pub guard_is : (guard : Option (Tree Op)) (branch : Option Branch) → IsBranchOf instrs branch → IsSameBranch g guard branch (terms_at_branch branch instrs) → IsSameGuard g instrs guard
  guard_is None None of same = of
  guard_is None (Some b) of same = absurd same
  guard_is (Some guard) None of same = absurd same
  guard_is (Some guard) (Some b) of same = record { at = b.at; register = b.register; branch = of; one = same }

  pub is_guard : (guard : Option (Tree Op)) (branch : Option Branch) → IsBranchOf instrs branch → IsSameGuard g instrs guard → IsSameBranch g guard branch (terms_at_branch branch instrs)
  is_guard None None of same = tt
  is_guard None (Some b) of same = same b.at b.register of
  is_guard (Some guard) None of same = of same.at same.register same.branch
  is_guard (Some guard) (Some b) of same =
      let at : same.at ≡ b.at = one same.at b.at same.register b.register same.branch of in
      let register : same.register ≡ b.register = same_register instrs same.at b.at same.register b.register same.branch of at in
      subst (λ r. HaveSameClass g ((terms_after b.at instrs).registers r) guard) register
      (subst (λ n. HaveSameClass g ((terms_after n instrs).registers same.register) guard) at same.one)

  module _ (goal : GoalTree) where
    pub no_exit : IsBranchOf instrs None → IsSameExit g instrs goal.inputs
    no_exit of at ra branch = absurd (of at ra branch)

    pub exit_is : (b : Branch) → IsBranchAt instrs b.at b.register → IsAsAtEntry g goal.inputs (terms_after b.at instrs) → IsSameExit g instrs goal.inputs
    exit_is b of same at ra branch =
        subst (λ n. IsAsAtEntry g goal.inputs (terms_after n instrs)) (one b.at at b.register ra of branch) same

    pub is_exit : (b : Branch) → IsBranchAt instrs b.at b.register → IsSameExit g instrs goal.inputs → IsAsAtEntry g goal.inputs (terms_after b.at instrs)
    is_exit b of same = same b.at b.register of

-- ---- the numbers of word targets

get_take : {X : Type 0} (xs : List X) (n k : ℕ) (x : X) → slice_get (take n xs) k ≡ Some x → (k < n) × (slice_get xs k ≡ Some x)
get_take [] zero k x e = absurd (none-some x e)
get_take [] (suc n) k x e = absurd (none-some x e)
get_take (y ∷ ys) zero k x e = absurd (none-some x e)
get_take (y ∷ ys) (suc n) zero x e = (omega arith, e)
get_take (y ∷ ys) (suc n) (suc k) x e = let h = get_take ys n k x e in (let l = h.0 in omega (arith, l), h.1)

module _ (P : Part → Type 0) where
  all_targets :
      (start : ℕ) (ts : List TargetTree) →
      ((k m : ℕ) (t : TargetTree) → slice_get ts k ≡ Some t → is_memory t ≡ false → m ≡ start + k → P (parts.Set m)) →
      All P (map parts.Set (word_targets_from start ts))
  all_targets start [] each = All-nil P
  all_targets start (t ∷ ts) each =
      by (is_memory t) refl (all_targets (start + 1) ts (λ k m u there word e. each (suc k) m u there word (omega (arith, e))))
    where
      by :
          (b : Bool) →
          is_memory t ≡ b →
          All P (map parts.Set (word_targets_from (start + 1) ts)) →
          All P (map parts.Set (if b then word_targets_from (start + 1) ts else start ∷ word_targets_from (start + 1) ts))
      by true e later = later
      by false e later = All-cons P (parts.Set start) (map parts.Set (word_targets_from (start + 1) ts)) (each 0 start t refl e (omega arith)) later

-- the numbers up to one of them, and from it on
split_targets :
    (start : ℕ) (ts : List TargetTree) (i m : ℕ) (t : TargetTree) →
    slice_get ts i ≡ Some t →
    is_memory t ≡ false →
    m ≡ start + i →
    word_targets_from start ts ≡ word_targets_from start (take i ts) ++ m ∷ word_targets_from (m + 1) (drop (suc i) ts)
split_targets start [] i m t there word e = absurd (none-some t there)
split_targets start (x ∷ ts) zero m t there word e =
    let same : start ≡ m = omega (arith, e) in
    ap (λ b. if b then word_targets_from (start + 1) ts else start ∷ word_targets_from (start + 1) ts) (ap is_memory (same_Some x t there) ∙ word)
    ∙ ap (λ n. n ∷ word_targets_from (n + 1) ts) same
split_targets start (x ∷ ts) (suc i) m t there word e =
    by (is_memory x) (split_targets (start + 1) ts i m t there word (omega (arith, e)))
  where
    by :
        (b : Bool) →
        word_targets_from (start + 1) ts ≡ word_targets_from (start + 1) (take i ts) ++ m ∷ word_targets_from (m + 1) (drop (suc i) ts) →
        (if b then word_targets_from (start + 1) ts else start ∷ word_targets_from (start + 1) ts)
        ≡ (if b then word_targets_from (start + 1) (take i ts) else start ∷ word_targets_from (start + 1) (take i ts))
        ++ m ∷ word_targets_from (m + 1) (drop (suc i) ts)
    by true later = later
    by false later = ap (λ ns. start ∷ ns) later

append_back : {X : Type 0} (xs ys zs : List X) → (xs ++ ys) ++ zs ≡ xs ++ (ys ++ zs)
append_back [] ys zs = refl
append_back (x ∷ xs) ys zs = ap (λ us. x ∷ us) (append_back xs ys zs)

-- ---- the first part that differs

-- the first of these parts that isn't the same
pub record IsFirstAmong (g : Graph Op) (goal : GoalTree) (instrs : List Instr) (places : List At) (ps : List Part) (part : Part) : Type 0 where
  pub before : List Part
  pub behind : List Part
  pub order : ps ≡ before ++ part ∷ behind
  pub same : All (IsSamePart g goal instrs places) before
  pub differs : ¬ IsSamePart g goal instrs places part

module _ (g : Graph Op) (goal : GoalTree) (instrs : List Instr) (places : List At) where
  abbrev P : Part → Type 0
  P part = IsSamePart g goal instrs places part

  abbrev end : TermState
  end = terms_at_end instrs

  set_is : (i : ℕ) (t : TargetTree) → slice_get goal.sets i ≡ Some t → IsSameTarget g places t end i → P (parts.Set i)
  set_is i t there same u reg at named =
      let one : t ≡ u = same_Some t u (sym there ∙ at) in
      subst (λ (x : TargetTree). HaveSameClass g (end.registers reg) x.value) one (same reg named)

  is_set : (i : ℕ) (t : TargetTree) → slice_get goal.sets i ≡ Some t → P (parts.Set i) → IsSameTarget g places t end i
  is_set i t there same reg named = same t reg there named

  -- the parts before target i
  sets_before : (i : ℕ) → AreSameBelow g places goal.sets end i → All P (map parts.Set (word_targets_from 0 (take i goal.sets)))
  sets_before i below = all_targets P 0 (take i goal.sets) (λ k m t there word e.
      let h = get_take goal.sets i k t there in
      let m_is : k ≡ m = omega (arith, e) in
      subst (λ n. P (parts.Set n)) m_is (set_is k t h.1 (below k t h.0 h.1 word)))

  all_sets : AreSameBelow g places goal.sets end (length goal.sets) → All P (map parts.Set (word_targets_from 0 goal.sets))
  all_sets below = all_targets P 0 goal.sets (λ k m t there word e.
      let m_is : k ≡ m = omega (arith, e) in
      subst (λ n. P (parts.Set n)) m_is (set_is k t there (below k t (slice_get_within goal.sets k t there) there word)))

  abbrev IsFirst : Part → Type 0
  IsFirst part = IsFirstAmong g goal instrs places (goal_parts goal) part

  pub guard_differs : ¬ P parts.Guard → IsFirst parts.Guard
  guard_differs differs = record {
    before = [];
    behind = parts.Exit ∷ (map parts.Set (word_targets_from 0 goal.sets) ++ parts.Memory ∷ []);
    order = refl;
    same = All-nil P;
    differs = differs;
  }

  module _ (guard : P parts.Guard) where
    pub exit_differs : ¬ P parts.Exit → IsFirst parts.Exit
    exit_differs differs = record {
      before = parts.Guard ∷ [];
      behind = map parts.Set (word_targets_from 0 goal.sets) ++ parts.Memory ∷ [];
      order = refl;
      same = All-cons P parts.Guard [] guard (All-nil P);
      differs = differs;
    }

    module _ (exit : P parts.Exit) where
      first_two : (ps : List Part) → All P ps → All P (parts.Guard ∷ parts.Exit ∷ ps)
      first_two ps h = All-cons P parts.Guard (parts.Exit ∷ ps) guard (All-cons P parts.Exit ps exit h)

      pub set_differs : (i : ℕ) → IsFirstDifferentTarget g places goal.sets end (Some i) → IsFirst (parts.Set i)
      set_differs i h =
          let d = h.0 in
          let numbers = split_targets 0 goal.sets i i d.target d.there d.is_word (omega arith) in
          let first = map parts.Set (word_targets_from 0 (take i goal.sets)) in
          let rest = map parts.Set (word_targets_from (i + 1) (drop (suc i) goal.sets)) in
          let sets : map parts.Set (word_targets_from 0 goal.sets) ≡ first ++ parts.Set i ∷ rest =
          ap (map parts.Set) numbers ∙ map-append parts.Set (word_targets_from 0 (take i goal.sets)) (i ∷ word_targets_from (i + 1) (drop (suc i) goal.sets)) in
          record {
            before = parts.Guard ∷ parts.Exit ∷ first;
            behind = rest ++ parts.Memory ∷ [];
            order = ap (λ ps. parts.Guard ∷ parts.Exit ∷ (ps ++ parts.Memory ∷ [])) sets ∙ ap (λ ps. parts.Guard ∷ parts.Exit ∷ ps) (append_back first (parts.Set i ∷ rest) (parts.Memory ∷ []));
            same = first_two first (sets_before i h.1);
            differs = λ same. d.differs (is_set i d.target d.there same);
          }

      module _ (sets : AreSameBelow g places goal.sets end (length goal.sets)) where
        pub memory_differs : ¬ P parts.Memory → IsFirst parts.Memory
        memory_differs differs = record {
          before = parts.Guard ∷ parts.Exit ∷ map parts.Set (word_targets_from 0 goal.sets);
          behind = [];
          order = refl;
          same = first_two (map parts.Set (word_targets_from 0 goal.sets)) (all_sets sets);
          differs = differs;
        }

        pub none_differs : P parts.Memory → All P (goal_parts goal)
        none_differs memory =
            first_two (map parts.Set (word_targets_from 0 goal.sets) ++ parts.Memory ∷ [])
            (All-append P (map parts.Set (word_targets_from 0 goal.sets)) (parts.Memory ∷ []) (all_sets sets) (All-cons P parts.Memory [] memory (All-nil P)))

-- ---- instructions before the parts of the goal

-- all up to one of them, and from it on
split_places : (start : ℕ) (is : List Instr) (k m : ℕ) → k < length is → m ≡ start + k → places_from start is ≡ places_from start (take k is) ++ m ∷ places_from (m + 1) (drop (suc k) is)
split_places start [] k m l e = absurd (omega (arith, l))
split_places start (i ∷ is) zero m l e = (let same : start ≡ m = omega (arith, e) in ap (λ n. n ∷ places_from (n + 1) is) same)
split_places start (i ∷ is) (suc k) m l e = ap (λ ns. start ∷ ns) (split_places (start + 1) is k m (omega (arith, l)) (omega (arith, e)))

all_places : (P : Part → Type 0) (start : ℕ) (is : List Instr) → ((k m : ℕ) → k < length is → m ≡ start + k → P (parts.Trap m)) → All P (map parts.Trap (places_from start is))
all_places P start [] each = All-nil P
all_places P start (i ∷ is) each =
    All-cons P (parts.Trap start) (map parts.Trap (places_from (start + 1) is)) (each 0 start (omega arith) (omega arith))
    (all_places P (start + 1) is (λ k m l e. each (suc k) m (omega (arith, l)) (omega (arith, e))))

module _ (g : Graph Op) (goal : GoalTree) (instrs : List Instr) (places : List At) where
  abbrev Q : Part → Type 0
  Q part = IsSamePart g goal instrs places part

  aligned_places : (n : ℕ) → n ≤ length instrs → AreAlignedBelow g instrs n → All Q (map parts.Trap (places_from 0 (take n instrs)))
  aligned_places n le below = all_places Q 0 (take n instrs) (λ k m l e.
      let m_is : k ≡ m = omega (arith, e) in
      let within = length-take-le n instrs le in
      subst (λ j. Q (parts.Trap j)) m_is (below k (omega (arith, l, within))))

  -- the first instruction that isn't aligned
  pub trap_differs : (at : ℕ) → IsFirstTrap g instrs (Some at) → IsFirstDifferent g goal instrs places (parts.Trap at)
  trap_differs at h =
      let first = map parts.Trap (places_from 0 (take at instrs)) in
      let rest = map parts.Trap (places_from (at + 1) (drop (suc at) instrs)) in
      let split : map parts.Trap (places_from 0 instrs) ≡ first ++ parts.Trap at ∷ rest =
      ap (map parts.Trap) (split_places 0 instrs at at h.1 (omega arith)) ∙ map-append parts.Trap (places_from 0 (take at instrs)) (at ∷ places_from (at + 1) (drop (suc at) instrs)) in
      record {
        before = first;
        behind = rest ++ goal_parts goal;
        order = ap (λ ps. ps ++ goal_parts goal) split ∙ append_back first (parts.Trap at ∷ rest) (goal_parts goal);
        same = aligned_places at (let l = h.1 in omega (arith, l)) h.2;
        differs = h.0;
      }

  module _ (aligned : IsFirstTrap g instrs None) where
    traps_same : All Q (map parts.Trap (places_from 0 instrs))
    traps_same = (let all : take (length instrs) instrs ≡ instrs = take_all (length instrs) instrs (omega arith) in
        subst (λ is. All Q (map parts.Trap (places_from 0 is))) all (aligned_places (length instrs) (omega arith) aligned))

    -- where all are aligned, the first part of the goal that isn't the same
    pub behind_traps : (part : Part) → IsFirstAmong g goal instrs places (goal_parts goal) part → IsFirstDifferent g goal instrs places part
    behind_traps part h = record {
      before = map parts.Trap (places_from 0 instrs) ++ h.before;
      behind = h.behind;
      order = ap (λ ps. map parts.Trap (places_from 0 instrs) ++ ps) h.order ∙ sym (append_back (map parts.Trap (places_from 0 instrs)) h.before (part ∷ h.behind));
      same = All-append Q (map parts.Trap (places_from 0 instrs)) h.before traps_same h.same;
      differs = h.differs;
    }

    pub all_same : All Q (goal_parts goal) → Same g goal instrs places
    all_same h = All-append Q (map parts.Trap (places_from 0 instrs)) (goal_parts goal) traps_same h

-- ---- what comparisons tell of the parts

false_true : false ≡ true → ⊥
false_true e = cc

module _ (g : Graph Op) (goal : GoalTree) (instrs : List Instr) (places : List At) (aligned : IsFirstTrap g instrs None) (branch : Option Branch) (of : IsBranchOf instrs branch) (one : HasOneBranch instrs) where
  abbrev at_branch : TermState
  at_branch = terms_at_branch branch instrs

  abbrev at_end : TermState
  at_end = terms_at_end instrs

  leaving_is : (b : Option Branch) → IsBranchOf instrs b → IsSameLeaving g goal.inputs b (terms_at_branch b instrs) → IsSameExit g instrs goal.inputs
  leaving_is None h same = no_exit g instrs one goal h
  leaving_is (Some b) h same = exit_is g instrs one goal b h same

  is_leaving : (b : Option Branch) → IsBranchOf instrs b → IsSameExit g instrs goal.inputs → IsSameLeaving g goal.inputs b (terms_at_branch b instrs)
  is_leaving None h same = tt
  is_leaving (Some b) h same = is_exit g instrs one goal b h same

  module _ (guard : Bool) (guard_tells : IsTrue guard ↔ IsSameBranch g goal.guard branch at_branch) where
    pub other_guard : guard ≡ false → IsFirstDifferent g goal instrs places parts.Guard
    other_guard e = behind_traps g goal instrs places aligned parts.Guard (guard_differs g goal instrs places (λ same. false_true (sym e ∙ guard_tells.1 (is_guard g instrs one goal.guard branch of same))))

    module _ (guard_same : guard ≡ true) (exit : Bool) (exit_tells : IsTrue exit ↔ IsSameLeaving g goal.inputs branch at_branch) where
      first_part : IsSamePart g goal instrs places parts.Guard
      first_part = guard_is g instrs one goal.guard branch of (guard_tells.0 guard_same)

      pub other_exit : exit ≡ false → IsFirstDifferent g goal instrs places parts.Exit
      other_exit e = behind_traps g goal instrs places aligned parts.Exit (exit_differs g goal instrs places first_part (λ same. false_true (sym e ∙ exit_tells.1 (is_leaving branch of same))))

      module _ (exit_same : exit ≡ true) where
        second_part : IsSamePart g goal instrs places parts.Exit
        second_part = leaving_is branch of (exit_tells.0 exit_same)

        pub other_set : (i : ℕ) → IsFirstDifferentTarget g places goal.sets at_end (Some i) → IsFirstDifferent g goal instrs places (parts.Set i)
        other_set i h = behind_traps g goal instrs places aligned (parts.Set i) (set_differs g goal instrs places first_part second_part i h)

        module _ (sets : IsFirstDifferentTarget g places goal.sets at_end None) (same : Bool) (memory_tells : IsTrue same ↔ HaveSameClass g at_end.memory (memory_target_term goal.sets)) where
          pub other_memory : same ≡ false → IsFirstDifferent g goal instrs places parts.Memory
          other_memory e = behind_traps g goal instrs places aligned parts.Memory (memory_differs g goal instrs places first_part second_part sets (λ h. false_true (sym e ∙ memory_tells.1 h)))

          pub no_other : same ≡ true → Same g goal instrs places
          no_other e = all_same g goal instrs places aligned (none_differs g goal instrs places first_part second_part sets (memory_tells.0 e))
