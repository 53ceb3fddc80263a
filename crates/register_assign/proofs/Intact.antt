-- The key lemma of pins: when a word is read, the register of an input that its launch may read still holds what it had
-- at entry, since in word order what overwrites it comes later.
use Rattle.std.proofs.Common.{◌≡◌, ℕ, ◌+◌, ◌<◌, ◌≤◌, List, length, refl, sym, ap, inl, inr, arith, Bool, true, false, ◌&&◌, Some, None}
use Rattle.std.specs.Prelude.{AllPairs, IsTrue, slice_get, nat_lt, ◌==◌, not, if◌then◌else◌}
use Rattle.std.proofs.lemmas.Bool.{cases_Bool, not_from_false, and_parts}
use Rattle.std.proofs.lemmas.Bool.Decides.{Decides-ltb}
use Rattle.graph_meaning.specs.Graphs.{is_input_register}
use Rattle.schedule_meaning.specs.Launches.{writes_pin, overwrites, spoils, collides, reads_until, group_of, StandsBefore, IsUnspoilt, IsUnwritten}
use Rattle.schedule_meaning.specs.Readers.{touches, is_intact}
use Rattle.schedule_meaning.specs.Fits.{Collide}
use Rattle.graph_meaning.specs.declared.graphs.LaunchGraph.{LaunchGraph}
use Rattle.schedule_meaning.specs.declared.schedules.Launch.{Launch}
use Rattle.schedule_meaning.proofs.Comparisons.{and_both}
use Rattle.schedule_meaning.proofs.Rules.{at_pair}
use Rattle.schedule_meaning.proofs.Pins.{none_at, none_from, over_from, same_number}
use Rattle.register_assign.proofs.Groups.{over_group, plain_low}
use Rattle.register_assign.proofs.Reached.{IsUntouched}

false_if : (b : Bool) → ¬ (b ≡ true) → b ≡ false
false_if true n = absurd (n refl)
false_if false n = refl

module _ (g : LaunchGraph) (ordered : List Launch) (apart : AllPairs (λ l m. ¬ Collide l m) ordered)
    (order : AllPairs (StandsBefore g) ordered) where
  two_places : (j n : ℕ) (m l : Launch) → j < n → slice_get ordered j ≡ Some m → slice_get ordered n ≡ Some l → collides l m ≡ false
  two_places j n m l lt em el =
      false_if (collides l m) (λ t.
      let p = and_parts (l.cycle == m.cycle) (l.slot == m.slot) t in
      at_pair (λ a b. ¬ Collide a b) ordered apart j n m l lt em el (sym (same_number l.cycle m.cycle p.0), sym (same_number l.slot m.slot p.1)))

  spoilt : (l m : Launch) (r : ℕ) → IsTrue (writes_pin g r m) → collides l m ≡ false → m.cycle < reads_until g l → spoils g l r m ≡ true
  spoilt l m r wrote two early =
      and_both (writes_pin g r m) (not (collides l m) && nat_lt m.cycle (reads_until g l)) wrote
      (and_both (not (collides l m)) (nat_lt m.cycle (reads_until g l)) (not_from_false (collides l m) two) ((Decides-ltb m.cycle (reads_until g l)).1 early))

  over_reads : (l : Launch) → overwrites g l ≡ true → reads_until g l ≡ l.cycle + 1
  over_reads l t = ap (λ b. if b then l.cycle + 1 else l.cycle) t

  plain_reads : (l : Launch) → overwrites g l ≡ false → reads_until g l ≡ l.cycle
  plain_reads l f = ap (λ b. if b then l.cycle + 1 else l.cycle) f

  at_least : (l : Launch) → l.cycle ≤ reads_until g l
  at_least l = elim (cases_Bool (overwrites g l)) [ inl t ↦ (let e = over_reads l t in omega arith) | inr f ↦ (let e = plain_reads l f in omega arith) ]

  -- what writes an input's register and stands before the launch spoils the register for it
  stands_and_spoils : (j n : ℕ) (m l : Launch) (r : ℕ) → j < n → slice_get ordered j ≡ Some m → slice_get ordered n ≡ Some l → is_input_register g r ≡ true → IsTrue (writes_pin g r m) → spoils g l r m ≡ true
  stands_and_spoils j n m l r lt em el input wrote =
      let two = two_places j n m l lt em el in
      let four : group_of g m ≡ 4 = over_group g m (over_from g r m wrote input) in
      elim (at_pair (StandsBefore g) ordered order j n m l lt em el) [
        | inl early ↦ (let a : m.cycle < l.cycle = early in let b = at_least l in spoilt l m r wrote two (omega arith))
        | inr (same, rest) ↦ elim (cases_Bool (overwrites g l)) [
          | inl over ↦ (let e : m.cycle ≡ l.cycle = same in let u = over_reads l over in spoilt l m r wrote two (omega arith))
          | inr plain ↦ (
              let low : group_of g l ≤ 3 = plain_low g l plain in
              elim rest [
                | inl less ↦ (let a : group_of g m < group_of g l = less in absurd (omega arith))
                | inr (equal, slots) ↦ (let a : group_of g m ≡ group_of g l = equal in absurd (omega arith))
              ])
        ]
      ]

  -- an input's register that is intact for the launch was not written before it
  pub intact_before : (n : ℕ) (l : Launch) (r : ℕ) → slice_get ordered n ≡ Some l → is_input_register g r ≡ true → is_intact g ordered (Some l) r ≡ true → IsUntouched g ordered n r
  intact_before n l r here input h j m lt em wrote =
      none_at (touches g (Some l) r) ordered h j m em (stands_and_spoils j n m l r lt em here input wrote)

  -- nor is one that is intact at the end
  pub intact_at_end : (r : ℕ) → is_intact g ordered None r ≡ true → IsUntouched g ordered (length ordered) r
  intact_at_end r h j m lt em wrote = none_at (touches g None r) ordered h j m em wrote

  pub unspoilt_is_intact : (l : Launch) (r : ℕ) → IsUnspoilt g ordered l r → is_intact g ordered (Some l) r ≡ true
  unspoilt_is_intact l r h = none_from (touches g (Some l) r) ordered h

  pub unwritten_is_intact : (r : ℕ) → IsUnwritten g ordered r → is_intact g ordered None r ≡ true
  unwritten_is_intact r h = none_from (touches g None r) ordered h
