-- What a merge joins: the least congruence that has the old one and the pair, as a relation; the merged graph; when two
-- constants meet. From Denali (PLDI 2002); the congruence closure is the field's.
use Rattle.std.specs.Prelude.{◌≡◌, ℕ, ◌<◌, ◌≤◌, ◌↔◌, map, length, slice_index, Contains, Some}
use Rattle.word_terms.specs.Signature.{Signature}
use Rattle.egraph.specs.declared.rows.Row.{Row}
use Rattle.egraph.specs.Graph.{Graph}

-- the least equivalence on the classes ever made that has the old equalities and the pair, and that joins two rows of
-- one operator whose operands it joins
pub data Joined {O : Type 0} (g : Graph O) (a b : ℕ) : ℕ → ℕ → Type 0 where
  kept :
      (x y : ℕ) →
      x < length g.current →
      y < length g.current →
      slice_index g.current x ≡ slice_index g.current y →
      Joined g a b x y
  pair : Joined g a b a b
  symmetric : {x y : ℕ} → Joined g a b x y → Joined g a b y x
  transitive : {x y z : ℕ} → Joined g a b x y → Joined g a b y z → Joined g a b x z
  congruent :
      (r t : Row O) →
      Contains g.rows r →
      Contains g.rows t →
      r.op ≡ t.op →
      length r.operands ≡ length t.operands →
      ((at : ℕ) → at < length r.operands → Joined g a b (slice_index r.operands at) (slice_index t.operands at)) →
      Joined g a b r.class t.class

-- the row with f of each class in its place
abbrev pub relabel : {O : Type 0} → (ℕ → ℕ) → Row O → Row O
relabel f r = record { op = r.op; operands = map f r.operands; class = f r.class }

-- `new` comes of `old` by joining a and b, and nothing that this doesn't force; which of the joined classes stays,
-- and the order of the rows, is left open
pub record IsMerged {O : Type 0} (old : Graph O) (a b : ℕ) (new : Graph O) : Type 0 where
  pub made : length new.current ≡ length old.current
  -- two classes are one exactly where the closure joins them
  pub joined :
      (x y : ℕ) →
      x < length old.current →
      y < length old.current →
      slice_index new.current x ≡ slice_index new.current y ↔ Joined old a b x y
  -- each class is in one that was present before, and is so now
  pub below : (x : ℕ) → x < length old.current → slice_index new.current x < length old.current
  pub was_present :
      (x : ℕ) → x < length old.current → slice_index old.current (slice_index new.current x) ≡ slice_index new.current x
  pub settled :
      (x : ℕ) → x < length old.current → slice_index new.current (slice_index new.current x) ≡ slice_index new.current x
  -- the rows are the old ones, with the present class of each class that they name
  pub images : (r : Row O) → Contains old.rows r → Contains new.rows (relabel (slice_index new.current) r)
  pub from_old :
      (r : Row O) →
      Contains new.rows r →
      ((t : Row O) × Contains old.rows t × (r ≡ relabel (slice_index new.current) t))
  pub no_more : length new.rows ≤ length old.rows

-- the merge puts the different constants x and y into one class, that of `class`
pub record Clash {O : Type 0} (s : Signature O) (g : Graph O) (a b class x y : ℕ) : Type 0 where
  pub first : Row O
  pub second : Row O
  pub first_there : Contains g.rows first
  pub second_there : Contains g.rows second
  pub first_is : s.constant first.op ≡ Some x
  pub second_is : s.constant second.op ≡ Some y
  pub first_joined : Joined g a b first.class class
  pub second_joined : Joined g a b second.class class
  pub differ : ¬ (x ≡ y)
