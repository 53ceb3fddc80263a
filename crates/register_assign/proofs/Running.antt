-- One word more: what is reached after n words is reached after n + 1.
use Rattle.std.proofs.Common.{◌≡◌, ℕ, zero, suc, ◌+◌, ◌*◌, ◌^◌, ◌<◌, List, [], ◌∷◌, ◌++◌, length, sym, ◌∙◌, ap, subst, inl, inr, ◌⊎◌, arith, Bool, false, cond, set, take, Some, None}
use Rattle.std.specs.Prelude.{Contains, IsTrue, slice_get, slice_index, if◌then◌else◌}
use Rattle.std.specs.Option.{option_map_or}
use Rattle.std.proofs.lemmas.Bool.Decides.{eqb_tells}
use Rattle.std.proofs.lemmas.List.{get_or-set_same, get_or-set_other, length-set}
use Rattle.std.proofs.lemmas.Option.{same_Some, none-some}
use Rattle.word_ops.specs.Worlds.{World, Value, word}
use Rattle.graph_meaning.specs.Graphs.{IsProper}
use Rattle.graph_meaning.specs.WellFormed.{IsLaunchGraph}
use Rattle.schedule_meaning.specs.Launches.{launches, gives_word, is_store, class_at, latest, later, memory_after, writes_pin}
use Rattle.schedule_meaning.specs.Fits.{Fits}
use Rattle.machine_table.specs.Tables.{IsTable}
use Rattle.machine_table.specs.declared.tables.Table.{Table}
use Rattle.register_assign.proofs.Destinations.{own_low, own_kind}
use Rattle.alpha_machine.specs.States.{MachineState}
use Rattle.alpha_machine.specs.Steps.{written, with_register}
use Rattle.register_assign.specs.Listings.{register_at}
use Rattle.register_assign.proofs.Reached.{HasReached}
use Rattle.graph_meaning.specs.declared.graphs.LaunchGraph.{LaunchGraph}
use Rattle.schedule_meaning.specs.declared.schedules.Allocation.{Allocation}
use Rattle.schedule_meaning.specs.declared.schedules.Launch.{Launch}

-- ---- the memory after one launch more

pub take_more : {X : Type 0} (xs : List X) (n : ℕ) (x : X) → slice_get xs n ≡ Some x → take (suc n) xs ≡ take n xs ++ x ∷ []
take_more [] n x e = absurd (none-some x e)
take_more (y ∷ ys) zero x e = ap (λ z. z ∷ []) (same_Some y x e)
take_more (y ∷ ys) (suc n) x e = ap (λ zs. y ∷ zs) (take_more ys n x e)

pub latest_push : (test : Launch → Bool) (ls : List Launch) (l : Launch) → test l ≡ false → latest test (ls ++ l ∷ []) ≡ latest test ls
latest_push test [] l e = ap (λ b. cond b (Some l) None) e
latest_push test (m ∷ ls) l e = ap (λ o. cond (test m) (later m o) o) (latest_push test ls l e)

-- ---- writes

written_low : (registers : List ℕ) (r v : ℕ) → r < 31 → written registers r v ≡ set registers r v
written_low registers r v h =
    elim (eqb_tells r 31) [ inl t ↦ (let e : r ≡ 31 = t.1 in absurd (omega arith)) | inr t ↦ ap (λ b. if b then registers else set registers r v) t.0 ]

length_set : (xs : List ℕ) (i v : ℕ) → length (set xs i v) ≡ length xs
length_set xs i v = length-set xs i v

pub less_or_last : (j n : ℕ) → j < n + 1 → (j < n) ⊎ (j ≡ n)
less_or_last j n h = grind arith

module _ (g : LaunchGraph) (table : Table) (allocation : Allocation) (k : ℕ) (ordered : List Launch)
    (graph : IsLaunchGraph g) (proper : IsProper g)
    (fits : Fits g table allocation k ordered) (is_table : IsTable table) where
  -- a launch writes the value of its class to its own register
  pub one_word_more : (w : World) (value : ℕ → Value) (n : ℕ) (s : MachineState) (l : Launch) (v : ℕ) → HasReached g allocation w value ordered n s → slice_get ordered n ≡ Some l → IsTrue (launches g gives_word l) → launches g is_store l ≡ false → word v ≡ value (class_at g l.row) → n < 2 ^ 32 → HasReached g allocation w value ordered (n + 1) (with_register s (register_at g allocation ordered n) v)
  one_word_more w value n s l v h e gives no_store is few =
      let own : ℕ = register_at g allocation ordered n in
      let below : own < 31 = own_low g table allocation k ordered graph proper fits is_table n l e gives in
      let is_set : written s.registers own v ≡ set s.registers own v = written_low s.registers own v below in
      let pc : s.pc ≡ 4 * n = h.pc in
      let count : length s.registers ≡ 32 = h.count in
      record {
        pc = omega arith;
        count = ap length is_set ∙ length_set s.registers own v ∙ count;
        memory_is = h.memory_is ∙ sym (ap (λ ls. value (memory_after g ls)) (ap (λ k. take k ordered) (let k : n + 1 ≡ suc n = omega arith in k) ∙ take_more ordered n l e) ∙ ap (λ o. value (option_map_or (λ m. class_at g m.row) o g.entry)) (latest_push (launches g is_store) (take n ordered) l no_store));
        kept = λ r out none.
            ap (λ rs. slice_index rs r) is_set
            ∙ get_or-set_other s.registers own r v 0
            (λ same. elim (own_kind g table allocation k ordered graph proper fits is_table n l e gives) [
              | inl there ↦ out (subst (λ x. Contains g.pool x) (sym same) there)
              | inr wrote ↦ none n l (omega arith) e (subst (λ x. IsTrue (writes_pin g x l)) (sym same) wrote)
            ])
            ∙ h.kept r out (λ j m lt em. none j m (omega arith) em);
        given = λ j m lt em gm lasts. elim (less_or_last j n lt) [
          | inl less ↦
              ap word (ap (λ rs. slice_index rs (register_at g allocation ordered j)) is_set
              ∙ get_or-set_other s.registers own (register_at g allocation ordered j) v 0
              (λ same. lasts n l less (omega arith) e gives (sym same)))
              ∙ h.given j m less em gm (λ i q above below. lasts i q above (omega arith))
          | inr same ↦ ap (λ k. word (slice_index (written s.registers own v) (register_at g allocation ordered k))) same ∙ ap word (ap (λ rs. slice_index rs own) is_set ∙ get_or-set_same s.registers own v 0 (omega arith)) ∙ is ∙ ap (λ x. value (class_at g x.row)) (same_Some l m (sym e ∙ ap (λ k. slice_get ordered k) (sym same) ∙ em))
        ];
      }
