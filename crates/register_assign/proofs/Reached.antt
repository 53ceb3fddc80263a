-- The state after the first n words of a schedule in word order.
use Rattle.std.specs.Prelude.{◌≡◌, ◌≢◌, ℕ, ◌*◌, ◌<◌, List, length, slice_index, slice_get, take, Some, IsTrue, Contains}
use Rattle.word_ops.specs.Worlds.{World, Value, word, memory}
use Rattle.schedule_meaning.specs.Launches.{launches, gives_word, class_at, memory_after, writes_pin}
use Rattle.alpha_machine.specs.States.{MachineState}
use Rattle.register_assign.specs.Listings.{register_at}
use Rattle.graph_meaning.specs.declared.graphs.LaunchGraph.{LaunchGraph}
use Rattle.schedule_meaning.specs.declared.schedules.Allocation.{Allocation}
use Rattle.schedule_meaning.specs.declared.schedules.Launch.{Launch}

-- none of the first n launches goes to a set that is pinned to the register
abbrev pub IsUntouched : LaunchGraph → List Launch → ℕ → ℕ → Type 0
IsUntouched g ordered n r = (j : ℕ) (m : Launch) → j < n → slice_get ordered j ≡ Some m → ¬ IsTrue (writes_pin g r m)

-- the register of the launch at place j isn't written again before place n
abbrev pub Lasts : LaunchGraph → Allocation → List Launch → ℕ → ℕ → Type 0
Lasts g allocation ordered j n =
    (i : ℕ) (m : Launch) → j < i → i < n → slice_get ordered i ≡ Some m → IsTrue (launches g gives_word m) →
    register_at g allocation ordered i ≢ register_at g allocation ordered j

-- the entry state, with the words of the launches so far in their registers, but where they were written again, and the
-- stores so far
pub record HasReached (g : LaunchGraph) (allocation : Allocation) (w : World) (value : ℕ → Value)
    (ordered : List Launch) (n : ℕ) (s : MachineState) : Type 0 where
  pub pc : s.pc ≡ 4 * n
  pub count : length s.registers ≡ 32
  pub memory_is : memory s.memory ≡ value (memory_after g (take n ordered))
  pub kept : (r : ℕ) → ¬ Contains g.pool r → IsUntouched g ordered n r → slice_index s.registers r ≡ slice_index w.registers r
  pub given :
      (j : ℕ) (l : Launch) → j < n → slice_get ordered j ≡ Some l → IsTrue (launches g gives_word l) →
      Lasts g allocation ordered j n →
      word (slice_index s.registers (register_at g allocation ordered j)) ≡ value (class_at g l.row)
