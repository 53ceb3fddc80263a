-- Two right answers to one code are one.
use Rattle.std.proofs.Common.{◌≡◌, ℕ, suc, ◌<◌, ◌++◌, List, [], ◌∷◌, All, Option, Some, None, get_or, sym, ◌∙◌, subst, inl, inr, arith}
use Rattle.std.proofs.lemmas.Bool.{cases_lt}
use Rattle.axiom_library.specs.declared.libraries.Library.{Library}
use Rattle.word_ops.specs.declared.sorts.Op.{Op}
use Rattle.word_terms.specs.Keys.{op_signature}
use Rattle.word_terms.specs.Tree.{Tree}
use Rattle.egraph.specs.Graph.{Graph, IsGraph}
use Rattle.alpha_encode.specs.declared.instructions.Instr.{Instr}
use Rattle.goal_meaning.specs.Expanded.{expanded}
use Rattle.goal_meaning.specs.Views.{GoalTree, InputTree}
use Rattle.saturation.specs.Alike.{AreAlike}
use Rattle.saturation.specs.Derives.{Derives}
use Rattle.saturation.specs.GoalTerms.{assumed_pairs, entry_term, input_term, rules_of}
use Rattle.saturation.specs.Grown.{Halts, IsGrown, NotBefore}
use Rattle.saturation.specs.Rounds.{StopIs}
use Rattle.graph_meaning.specs.declared.stops.Stop.{Stop}
use Rattle.code_check.specs.Same.{HaveSameClass, IsAsAtEntry, IsFirstDifferent, IsMultipleTerm, IsSameGuard, IsSamePart, Same, compared_parts, memory_target_term, terms_at_end}
use Rattle.code_check.specs.Terms.{TermState, place_term, terms_after}
use Rattle.code_check.specs.Verified.{AreOneAnswer, HasNoWorld, IsCompared, IsVerified, compared_terms}
use Rattle.code_check.specs.declared.codes.At.{At}
use Rattle.code_check.specs.declared.codes.Code.{Code}
use Rattle.code_check.specs.declared.codes.Part.{Part}
use Rattle.code_check.specs.declared.codes.Part.TheVariants as parts
use Rattle.code_check.specs.declared.codes.Verified.{Verified}
use Rattle.code_check.specs.declared.codes.Verified.TheVariants.{Yes, Unknown, NoWorld}
use Rattle.code_check.proofs.AlikeMultiples.{multiple_kept}
use Rattle.code_check.proofs.Replying.{middle}

-- ---- what is the same in one graph is so in another with its equalities

module _ (g h : Graph Op) (keeps : (t u : Tree Op) → HaveSameClass g t u → HaveSameClass h t u)
    (multiple : (t : Tree Op) (n : ℕ) → IsMultipleTerm g t n → IsMultipleTerm h t n) (goal : GoalTree) (instrs : List Instr) (places : List At) where
  same_guard : (guard : Option (Tree Op)) → IsSameGuard g instrs guard → IsSameGuard h instrs guard
  same_guard None same = same
  same_guard (Some t) same = record {
    at = same.at;
    register = same.register;
    branch = same.branch;
    one = keeps ((terms_after same.at instrs).registers same.register) t same.one;
  }

  same_entry : (s : TermState) → IsAsAtEntry g goal.inputs s → IsAsAtEntry h goal.inputs s
  same_entry s same = record {
    memory_is = keeps s.memory entry_term same.memory_is;
    inputs_are = λ k d l.
        let i = get_or goal.inputs k d in
        keeps (s.registers i.reg) (input_term i.reg) (same.inputs_are k d l);
  }

  same_part : (part : Part) → IsSamePart g goal instrs places part → IsSamePart h goal instrs places part
  same_part (parts.Trap at) same = λ i there n e. multiple (place_term i (terms_after at instrs)) n (same i there n e)
  same_part parts.Guard same = same_guard goal.guard same
  same_part parts.Exit same = λ at ra branch. same_entry (terms_after at instrs) (same at ra branch)
  same_part (parts.Set i) same = λ t reg there named. keeps ((terms_at_end instrs).registers reg) t.value (same t reg there named)
  same_part parts.Memory same = keeps (terms_at_end instrs).memory (memory_target_term goal.sets) same

-- ---- the first that fails

same_head : {X : Type 0} (x y : X) (xs ys : List X) → x ∷ xs ≡ y ∷ ys → x ≡ y
same_head x y xs ys e = cc

same_tail : {X : Type 0} (x y : X) (xs ys : List X) → x ∷ xs ≡ y ∷ ys → xs ≡ ys
same_tail x y xs ys e = cc

module _ {X : Type 0} (P Q : X → Type 0) (forth : (x : X) → P x → Q x) (back : (x : X) → Q x → P x) where
  first_fails_once : (before behind : List X) (x : X) (other_before other_behind : List X) (y : X) → before ++ x ∷ behind ≡ other_before ++ y ∷ other_behind → All P before → ¬ P x → All Q other_before → ¬ Q y → x ≡ y
  first_fails_once [] behind x [] other_behind y e holds fails other_holds other_fails = same_head x y behind other_behind e
  first_fails_once [] behind x (z ∷ zs) other_behind y e holds fails other_holds other_fails =
      absurd (fails (subst P (sym (same_head x z behind (zs ++ y ∷ other_behind) e)) (back z (other_holds 0 z (omega arith)))))
  first_fails_once (w ∷ ws) behind x [] other_behind y e holds fails other_holds other_fails =
      absurd (other_fails (subst Q (same_head w y (ws ++ x ∷ behind) other_behind e) (forth w (holds 0 w (omega arith)))))
  first_fails_once (w ∷ ws) behind x (z ∷ zs) other_behind y e holds fails other_holds other_fails =
      first_fails_once ws behind x zs other_behind y (same_tail w z (ws ++ x ∷ behind) (zs ++ y ∷ other_behind) e)
      (λ k d l. holds (suc k) d (omega (arith, l))) fails (λ k d l. other_holds (suc k) d (omega (arith, l))) other_fails

-- ---- answers

module _ (input : InputTree) (goal : GoalTree) (instrs : List Instr) (rounds nodes : ℕ) (library : Library) where
  abbrev HaltsAt : ℕ → Type 0
  HaltsAt j = Halts (rules_of library input) (compared_terms goal instrs) (assumed_pairs goal) rounds nodes j

  abbrev Compared : Graph Op → ℕ → Stop → Type 0
  Compared g j stop = IsCompared input goal instrs rounds nodes library g j stop

  module _ (once : (i j : ℕ) → NotBefore (rules_of library input) (compared_terms goal instrs) (assumed_pairs goal) rounds nodes j → i < j → Halts (rules_of library input) (compared_terms goal instrs) (assumed_pairs goal) rounds nodes i → ⊥)
      (ends : (g : Graph Op) (j : ℕ) (stop : Stop) → IsGraph op_signature g → IsGrown (rules_of library input) (compared_terms goal instrs) (assumed_pairs goal) g j → StopIs (rules_of library input) g rounds nodes j stop
      → Halts (rules_of library input) (compared_terms goal instrs) (assumed_pairs goal) rounds nodes j)
      (alike : (g h : Graph Op) (j : ℕ) → IsGraph op_signature g → IsGraph op_signature h → IsGrown (rules_of library input) (compared_terms goal instrs) (assumed_pairs goal) g j
      → IsGrown (rules_of library input) (compared_terms goal instrs) (assumed_pairs goal) h j → AreAlike g h) where
    halts : (g : Graph Op) (j : ℕ) (stop : Stop) → Compared g j stop → HaltsAt j
    halts g j stop is = ends g j stop is.graph is.grown is.stops

    one_round : (g h : Graph Op) (j k : ℕ) (stop reason : Stop) → Compared g j stop → Compared h k reason → j ≡ k
    one_round g h j k stop reason first second = elim (cases_lt j k) [
      | inl lt ↦ absurd (once j k second.reached.1 lt (halts g j stop first))
      | inr le ↦ (elim (cases_lt k j) [
        | inl lt ↦ absurd (once k j first.reached.1 lt (halts h k reason second))
        | inr most ↦ omega (arith, le, most)
      ])
    ]

    keeps : (g h : Graph Op) (j k : ℕ) (stop reason : Stop) → Compared g j stop → Compared h k reason → (t u : Tree Op) → HaveSameClass g t u → HaveSameClass h t u
    keeps g h j k stop reason first second t u same =
        (second.grown.exact t u).1
        (subst (λ n. Derives (rules_of library input) (compared_terms goal instrs) (assumed_pairs goal) n t u) (one_round g h j k stop reason first second) ((first.grown.exact t u).0 same))

    multiple : (g h : Graph Op) (j k : ℕ) (stop reason : Stop) → Compared g j stop → Compared h k reason → (t : Tree Op) (n : ℕ) → IsMultipleTerm g t n → IsMultipleTerm h t n
    multiple g h j k stop reason first second =
        let one = one_round g h j k stop reason first second in
        multiple_kept g h first.graph second.graph
        (alike g h k first.graph second.graph (subst (λ n. IsGrown (rules_of library input) (compared_terms goal instrs) (assumed_pairs goal) g n) one first.grown) second.grown)
        (λ t same. keeps g h j k stop reason first second t t same)

    no_clash : (g : Graph Op) (j : ℕ) (stop : Stop) → Compared g j stop → (a b : ℕ) → HasNoWorld input goal instrs rounds nodes library a b → ⊥
    no_clash g j stop is a b none = elim (cases_lt j none.round) [
      | inl lt ↦ once j none.round none.reached.1 lt (halts g j stop is)
      | inr le ↦ is.no_clash none.round a b le none.clash
    ]

    module _ (code : Code) where
      none_differs : (g h : Graph Op) (j k : ℕ) (stop reason : Stop) (part : Part) → Compared g j stop → Compared h k reason → Same g (expanded goal) instrs code.places → IsFirstDifferent h (expanded goal) instrs code.places part → ⊥
      none_differs g h j k stop reason part first second same different =
          different.differs (same_part g h (keeps g h j k stop reason first second) (multiple g h j k stop reason first second) (expanded goal) instrs code.places part
          (middle (IsSamePart g (expanded goal) instrs code.places) (compared_parts (expanded goal) instrs) different.before different.behind part different.order same))

      one_part : (g h : Graph Op) (j k : ℕ) (stop reason : Stop) (part other : Part) → Compared g j stop → Compared h k reason → IsFirstDifferent g (expanded goal) instrs code.places part → IsFirstDifferent h (expanded goal) instrs code.places other → part ≡ other
      one_part g h j k stop reason part other first second different also =
          first_fails_once (IsSamePart g (expanded goal) instrs code.places) (IsSamePart h (expanded goal) instrs code.places)
          (same_part g h (keeps g h j k stop reason first second) (multiple g h j k stop reason first second) (expanded goal) instrs code.places) (same_part h g (keeps h g k j reason stop second first) (multiple h g k j reason stop second first) (expanded goal) instrs code.places)
          different.before different.behind part also.before also.behind other (sym different.order ∙ also.order) different.same different.differs also.same also.differs

      pub one_answer : (x y : Verified) → IsVerified input goal instrs code rounds nodes library x → IsVerified input goal instrs code rounds nodes library y → AreOneAnswer x y
      one_answer Yes Yes right other = tt
      one_answer Yes (Unknown j stop part) right other = none_differs right.graph other.0 right.round j right.stop stop part right.compared other.1 right.same other.2
      one_answer Yes (NoWorld class a b) right other = no_clash right.graph right.round right.stop right.compared a b other.0
      one_answer (Unknown j stop part) Yes right other = none_differs other.graph right.0 other.round j other.stop stop part other.compared right.1 other.same right.2
      one_answer (Unknown j stop part) (Unknown k reason part_other) right other = (
        one_round right.0 other.0 j k stop reason right.1 other.1,
        one_part right.0 other.0 j k stop reason part part_other right.1 other.1 right.2 other.2,
      )
      one_answer (Unknown j stop part) (NoWorld class a b) right other = no_clash right.0 j stop right.1 a b other.0
      one_answer (NoWorld class a b) Yes right other = no_clash other.graph other.round other.stop other.compared a b right.0
      one_answer (NoWorld class a b) (Unknown j stop part) right other = no_clash other.0 j stop other.1 a b right.0
      one_answer (NoWorld class a b) (NoWorld class_other x y) right other = tt
