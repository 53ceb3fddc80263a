-- A chain's launches: one for each operator, in the first slot, one in each cycle.
use Rattle.std.proofs.Common.{◌≡◌, ℕ, zero, suc, ◌<◌, ◌≤◌, List, [], ◌∷◌, length, Some, Bool, true, refl, sym, ap, ◌∙◌, subst, inl, inr, ◌⊎◌, arith}
use Rattle.std.specs.Prelude.{All, AllPairs}
use Rattle.std.proofs.lemmas.List.Elements.{All-nil, All-cons, All-weaker}
use Rattle.graph_meaning.proofs.Lists.{any_here, any_there}
use Rattle.machine_table.proofs.Decide.{pairs_nil, pairs_cons}
use Rattle.machine_table.specs.Tables.{cluster_of, ev6}
use Rattle.word_ops.specs.declared.operates.Operate.{Operate as OperateOf}
use Rattle.word_ops.specs.declared.operators.WordOp.TheVariants as words
use Rattle.machine_table.specs.declared.tables.InstrKind.{InstrKind}
use Rattle.machine_table.specs.declared.tables.InstrKind.TheVariants.{Operate}
use Rattle.word_ops.specs.declared.sorts.Op.{Op}
use Rattle.word_ops.specs.declared.sorts.Op.TheVariants.{Word}
use Rattle.word_terms.specs.Tree.{Tree}
use Rattle.graph_meaning.specs.declared.graphs.LaunchGraph.{LaunchGraph}
use Rattle.saturation.specs.GoalTerms.{input_term}
use Rattle.saturation.specs.StandsFor.{HasClassIn, graph_view}
use Rattle.schedule_meaning.specs.Fits.{Collide}
use Rattle.schedule_meaning.specs.Plain.{CanReadPlain, IsPlainReadable}
use Rattle.schedule_meaning.specs.Launches.{Gives, IsFree, IsClassOfInput, class_at, gives_word, instr_at, launches, operands_at, plain, ready_in}
use Rattle.schedule_meaning.specs.declared.schedules.Operand.{Operand}
use Rattle.schedule_meaning.specs.declared.schedules.To.TheVariants.{Pool}
use Rattle.schedule_meaning.specs.declared.schedules.Launch.{Launch}
use Rattle.generated_goals.specs.Generated.{chain, number_at, picked}
use Rattle.generated_goals.proofs.GraphRows.{IsApplied, applied_row, row_of, row_class, row_instr, row_reads}
use Rattle.generated_goals.proofs.Plain.{IsPlain, picked_is_plain}

-- a launch in the first slot before a cycle, to the pool
pub record IsStep (g : LaunchGraph) (n : ℕ) (l : Launch) : Type 0 where
  pub kind : OperateOf
  pub is : instr_at g l.row ≡ Some (Operate kind)
  pub plain : IsPlain kind
  pub slot : l.slot ≡ 0
  pub to : l.to ≡ Pool
  pub early : l.cycle < n

-- so many launches, one in each cycle, after which the class's word can be read
pub record IsChain (g : LaunchGraph) (n class : ℕ) (ls : List Launch) : Type 0 where
  pub steps : All (IsStep g n) ls
  pub apart : AllPairs (λ l m. ¬ Collide l m) ls
  pub operands : All (CanReadPlain g ev6 ls) ls
  pub count : length ls ≡ n
  pub readable : IsPlainReadable g ev6 ls class n 0

pub first_cluster : cluster_of ev6 0 ≡ 0
unfolding ev6
first_cluster = refl

-- what a launch does is what its instruction does
pub launches_by : (g : LaunchGraph) (test : InstrKind → Bool) (l : Launch) (kind : InstrKind) (b : Bool) → instr_at g l.row ≡ Some kind → test kind ≡ b → launches g test l ≡ b
launches_by g test l kind b is e = rw is e

-- ---- one launch more

-- what is readable stays so where there are more launches
more_readable : (g : LaunchGraph) (l : Launch) (ls : List Launch) (class cycle cluster : ℕ) → IsPlainReadable g ev6 ls class cycle cluster → IsPlainReadable g ev6 (l ∷ ls) class cycle cluster
more_readable g l ls class cycle cluster (inl i) = inl i
more_readable g l ls class cycle cluster (inr h) = inr (any_there (λ m. Gives g class m × (ready_in g ev6 cluster m ≤ cycle)) l ls h)

more_usable : (g : LaunchGraph) (l : Launch) (ls : List Launch) (o : Operand) (cycle cluster : ℕ) → IsFree g o ⊎ IsPlainReadable g ev6 ls o.class cycle cluster → IsFree g o ⊎ IsPlainReadable g ev6 (l ∷ ls) o.class cycle cluster
more_usable g l ls o cycle cluster (inl f) = inl f
more_usable g l ls o cycle cluster (inr h) = inr (more_readable g l ls o.class cycle cluster h)

more_read : (g : LaunchGraph) (l : Launch) (ls : List Launch) (m : Launch) → CanReadPlain g ev6 ls m → CanReadPlain g ev6 (l ∷ ls) m
more_read g l ls m h = λ k d lt. more_usable g l ls _ _ _ (h k d lt)

later_step : (g : LaunchGraph) (n : ℕ) (l : Launch) → IsStep g n l → IsStep g (suc n) l
later_step g n l s = record { kind = s.kind; is = s.is; plain = s.plain; slot = s.slot; to = s.to; early = (let e = s.early in omega arith) }

readable_at : (g : LaunchGraph) (ls : List Launch) (class cycle cluster m c : ℕ) → m ≡ cycle → c ≡ cluster → IsPlainReadable g ev6 ls class cycle cluster → IsPlainReadable g ev6 ls class m c
readable_at g ls class cycle cluster m c e f h = rw (e, f) h

-- the launch of a row of an operator, whose first operand can be read at its cycle and whose second is an input's
module _ (g : LaunchGraph) (n first second class : ℕ) (ls : List Launch) (l : Launch) (kind : OperateOf)
    (cycle : l.cycle ≡ n) (slot : l.slot ≡ 0) (to : l.to ≡ Pool) (is : instr_at g l.row ≡ Some (Operate kind)) (able : IsPlain kind)
    (reads : operands_at g l.row ≡ plain first ∷ record { class = second; second = true } ∷ [])
    (gives : class_at g l.row ≡ class)
    (input : IsClassOfInput g second) (before : IsChain g n first ls) where
  new_step : IsStep g (suc n) l
  new_step = record { kind = kind; is = is; plain = able; slot = slot; to = to; early = omega arith }

  new_apart : (m : Launch) → IsStep g n m → ¬ Collide l m
  new_apart m s c = let e = s.early in let f = c.0 in absurd (omega arith)

  abbrev Use : Operand → Type 0
  Use o = IsFree g o ⊎ IsPlainReadable g ev6 (l ∷ ls) o.class l.cycle (cluster_of ev6 l.slot)

  at_its_cycle : IsPlainReadable g ev6 (l ∷ ls) first l.cycle (cluster_of ev6 l.slot)
  at_its_cycle =
      readable_at g (l ∷ ls) first n 0 l.cycle (cluster_of ev6 l.slot) cycle (ap (cluster_of ev6) slot ∙ first_cluster)
      (more_readable g l ls first n 0 before.readable)

  new_reads : CanReadPlain g ev6 (l ∷ ls) l
  new_reads = subst (All Use) (sym reads)
      (All-cons Use (plain first) (record { class = second; second = true } ∷ []) (inr at_its_cycle)
      (All-cons Use (record { class = second; second = true }) [] (inr (inl input)) (All-nil Use)))

  is_ready : ready_in g ev6 0 l ≤ suc n
  is_ready = rw (is, able.latency, slot, first_cluster, cycle) (omega arith)

  pub one_more : IsChain g (suc n) class (l ∷ ls)
  one_more = record {
    steps = All-cons (IsStep g (suc n)) l ls new_step (All-weaker (IsStep g n) (IsStep g (suc n)) (later_step g n) ls before.steps);
    apart = pairs_cons (λ l m. ¬ Collide l m) l ls (All-weaker (IsStep g n) (λ m. ¬ Collide l m) new_apart ls before.steps) before.apart;
    operands = All-cons (CanReadPlain g ev6 (l ∷ ls)) l ls new_reads
        (All-weaker (CanReadPlain g ev6 ls) (CanReadPlain g ev6 (l ∷ ls)) (more_read g l ls) ls before.operands);
    count = ap suc before.count;
    readable = inr (any_here (λ m. Gives g class m × (ready_in g ev6 0 m ≤ suc n)) l ls ((launches_by g gives_word l (Operate kind) true is refl, gives), is_ready));
  }

-- ---- all of them

pub record HasChain (g : LaunchGraph) (n class : ℕ) : Type 0 where
  pub list : List Launch
  pub fits : IsChain g n class list

-- in whose graph the inputs' terms are of inputs' classes
module _ (g : LaunchGraph) (a_is : (c : ℕ) → HasClassIn [] g (input_term 9) c → IsClassOfInput g c) (b_is : (c : ℕ) → HasClassIn [] g (input_term 10) c → IsClassOfInput g c) where
  no_launches : (c : ℕ) → IsClassOfInput g c → HasChain g 0 c
  no_launches c i = record {
    list = [];
    fits = record {
      steps = All-nil (IsStep g 0);
      apart = pairs_nil (λ l m. ¬ Collide l m);
      operands = All-nil (CanReadPlain g ev6 []);
      count = refl;
      readable = inl i;
    };
  }

  next_launch : (n number : ℕ) (t : Tree Op) (c : ℕ) (p : IsPlain (picked number)) (r : IsApplied (graph_view [] g) (Word (words.Operate (picked number))) t (input_term 10) c) → HasChain g n r.first → HasChain g (suc n) c
  next_launch n number t c p r before =
      let row = row_of g [] (Word (words.Operate (picked number))) (r.first ∷ r.second ∷ []) c refl r.row in
      let l : Launch = record { cycle = n; slot = 0; row = row.number; to = Pool } in
      let instr : instr_at g row.number ≡ Some (Operate (picked number)) =
      row_instr g row.number row.row row.there ∙ (rw row.op_is refl) in
      let reads : operands_at g row.number ≡ plain r.first ∷ record { class = r.second; second = true } ∷ [] =
      row_reads g row.number row.row row.there ∙ (rw (row.op_is, row.operands_are) refl) in
      let gives : class_at g row.number ≡ c = row_class g row.number row.row row.there ∙ row.class_is in
      record {
        list = l ∷ before.list;
        fits = one_more g n r.first r.second c before.list l (picked number) refl refl refl instr p reads gives (b_is r.second r.of_second) before.fits;
      }

  pub launched : (size n : ℕ) (c : ℕ) → HasClassIn [] g (chain size n) c → HasChain g n c
  launched size zero c h = no_launches c (a_is c h)
  launched size (suc n) c h =
      let number = number_at size (suc n) in
      let r = applied_row (graph_view [] g) (Word (words.Operate (picked number))) (chain size n) (input_term 10) c h in
      next_launch n number (chain size n) c (picked_is_plain number) r (launched size n r.first r.of_first)
