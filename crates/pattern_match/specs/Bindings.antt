-- What the walk over a pattern knows of its variables' classes, and what its steps find. No public clause rests on
-- this. From this project.
use Rattle.std.specs.Prelude.{◌≡◌, ℕ, ◌+◌, ◌<◌, ◌⊎◌, List, length, get_or, map, unwrap_or, Option, Some, None, All, AllPairs, Contains}
use Rattle.word_ops.specs.declared.sorts.Op.{Op}
use Rattle.word_terms.specs.Tree.{Tree, Trees, variable, application, none, more, AreBelow, EachBelow}
use Rattle.word_terms.specs.Sorting.{Occurs, OccursInOne}
use Rattle.egraph.specs.declared.rows.Row.{Row}
use Rattle.axiom_base.specs.Computed.{calc_left, calc_right}
use Rattle.axiom_base.specs.declared.kinds.Calc.{Calc}
use Rattle.axiom_base.specs.declared.kinds.Given.{Given}
use Rattle.egraph.specs.Graph.{Graph, HasClass}
use Rattle.pattern_match.specs.Classes.{IsClass, AreClasses, HaveOneClass}
use Rattle.pattern_match.specs.Found.{classes_in}
use Rattle.pattern_match.specs.Listing.{Lists}
use Rattle.pattern_match.specs.Matches.{AreGiven}
use Rattle.pattern_match.specs.declared.found.Match.{Match}

-- for each variable, by its number, the class that is known of it, if one is
abbrev pub Binding : Type 0
Binding = List (Option ℕ)

-- the class that is known of the variable
abbrev pub known_class : Binding → ℕ → Option ℕ
known_class b v = get_or b v None

-- the classes are as many as the variables, and what is known of them
pub record Agrees (b : Binding) (cs : List ℕ) : Type 0 where
  pub count : length cs ≡ length b
  pub each : (v x : ℕ) → known_class b v ≡ Some x → get_or cs v 0 ≡ x

-- some of the list agrees
pub record Covered (bs : List Binding) (cs : List ℕ) : Type 0 where
  pub binding : Binding
  pub there : Contains bs binding
  pub agrees : Agrees binding cs

-- no classes agree with both
abbrev pub Apart : Binding → Binding → Type 0
Apart b d = (cs : List ℕ) → Agrees b cs → ¬ Agrees d cs

-- the list has all classes with Q, each in one of its items
pub record Finds (Q : List ℕ → Type 0) (out : List Binding) : Type 0 where
  pub sound : (cs : List ℕ) → Covered out cs → Q cs
  pub complete : (cs : List ℕ) → Q cs → Covered out cs
  pub apart : AllPairs Apart out

abbrev pub IsBound : Binding → ℕ → Type 0
IsBound b v = (x : ℕ) × (known_class b v ≡ Some x)

abbrev pub AreBound : List Binding → ℕ → Type 0
AreBound bs v = All (λ b. IsBound b v) bs

-- what each item of a list of extensions keeps and knows more, where V are the variables that the walk has seen
pub record Keeps (bs : List Binding) (V : ℕ → Type 0) (out : List Binding) : Type 0 where
  pub counts : (n : ℕ) → All (λ b. length b ≡ n) bs → All (λ b. length b ≡ n) out
  pub bound : All (λ b. (v : ℕ) → AreBound bs v ⊎ V v → IsBound b v) out

pub record CanExtend (p : Tree Op) (bs : List Binding) : Type 0 where
  pub count : ℕ
  pub counts : All (λ b. length b ≡ count) bs
  pub below : AreBelow count p
  pub apart : AllPairs Apart bs

pub record CanExtendAll (ps : Trees Op) (bs : List Binding) : Type 0 where
  pub count : ℕ
  pub counts : All (λ b. length b ≡ count) bs
  pub below : EachBelow count ps
  pub apart : AllPairs Apart bs

-- `out` has the items of `bs`, each extended by what gives the pattern the class
pub record Extended (g : Graph Op) (p : Tree Op) (c : ℕ) (bs out : List Binding) : Type 0 where
  pub finds : Finds (λ cs. Covered bs cs × IsClass g cs p c) out
  pub keeps : Keeps bs (λ v. Occurs v p) out

pub record ExtendedAll (g : Graph Op) (ps : Trees Op) (ds : List ℕ) (bs out : List Binding) : Type 0 where
  pub finds : Finds (λ cs. Covered bs cs × AreClasses g cs ps ds) out
  pub keeps : Keeps bs (λ v. OccursInOne v ps) out

-- the same for an application by the rows before a place
pub record IsByRow (g : Graph Op) (op : Op) (ps : Trees Op) (c end : ℕ) (cs : List ℕ) : Type 0 where
  pub at : ℕ
  pub before : at < end
  pub row : Row Op
  pub there : (d : Row Op) → get_or g.rows at d ≡ row
  pub op_is : row.op ≡ op
  pub class_is : row.class ≡ c
  pub operands : AreClasses g cs ps row.operands

pub record ExtendedBefore (g : Graph Op) (op : Op) (ps : Trees Op) (c end : ℕ) (bs out : List Binding) : Type 0 where
  pub finds : Finds (λ cs. Covered bs cs × IsByRow g op ps c end cs) out
  pub keeps : Keeps bs (λ v. OccursInOne v ps) out

-- how many nodes a pattern has: its variables and operators
abbrev mutual
  pub node_count : Tree Op → ℕ
  node_count (variable n) = 1
  node_count (application op ts) = 1 + node_count_all ts

  pub node_count_all : Trees Op → ℕ
  node_count_all none = 0
  node_count_all (more t ts) = node_count t + node_count_all ts

-- the classes, as many as `count`, give the pattern a class of the graph, which is below `end`
pub record IsSubstitutionByClass (g : Graph Op) (p : Tree Op) (count end : ℕ) (cs : List ℕ) : Type 0 where
  pub length_is : length cs ≡ count
  pub class : ℕ
  pub before : class < end
  pub has : HasClass g class
  pub left : IsClass g cs p class

-- the classes, as many as `count`, give the operands those of a row of the operator before a place
pub record IsSubstitutionByRow (g : Graph Op) (op : Op) (ps : Trees Op) (count end : ℕ) (cs : List ℕ) : Type 0 where
  pub length_is : length cs ≡ count
  pub at : ℕ
  pub before : at < end
  pub row : Row Op
  pub there : (d : Row Op) → get_or g.rows at d ≡ row
  pub op_is : row.op ≡ op
  pub operands : AreClasses g cs ps row.operands

-- the classes, as many as `count`, give the pattern a class of the graph
pub record IsSubstitution (g : Graph Op) (p : Tree Op) (count : ℕ) (cs : List ℕ) : Type 0 where
  pub length_is : length cs ≡ count
  pub class : ℕ
  pub has : HasClass g class
  pub left : IsClass g cs p class

-- they give these constants, and the right side that is made with them hasn't the match's class
pub record IsUnmetGiven (g : Graph Op) (kind : Calc) (m : Match) (given : Given) : Type 0 where
  pub are : AreGiven g kind m.classes given
  pub unmet : ¬ IsClass g m.classes (calc_right kind given) m.class

-- they give constants under which the rule's right side hasn't the class of its left
pub record AreUnmet (g : Graph Op) (kind : Calc) (classes : List ℕ) : Type 0 where
  pub given : Given
  pub are : AreGiven g kind classes given
  pub unmet : ¬ HaveOneClass g classes (calc_left kind) (calc_right kind given)

-- nothing is known of `count` variables
pub record IsUnknown (count : ℕ) (b : Binding) : Type 0 where
  pub length_is : length b ≡ count
  pub each : (v : ℕ) → known_class b v ≡ None

abbrev pub substitution : Binding → List ℕ
substitution b = map (λ o. unwrap_or o 0) b

-- what is known of the variables, all of them, as a match of this class
abbrev pub substitution_match : ℕ → Binding → Match
substitution_match class b = record { classes = substitution b; class = class; given = None }

-- the matches have the lists of classes with Q, each once, and each has the pattern's class under its own
pub record AreMatches (g : Graph Op) (p : Tree Op) (Q : List ℕ → Type 0) (out : List Match) : Type 0 where
  pub lists : Lists Q (map classes_in out)
  pub classes : All (λ (m : Match). IsClass g m.classes p m.class) out
