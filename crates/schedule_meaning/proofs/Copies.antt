-- Which rows' numbers are copies, and what a copy is.
use Rattle.std.proofs.Common.{◌≡◌, ℕ, ◌+◌, ◌-◌, ◌<◌, length, refl, ◌∙◌, ap, inl, inr, arith, Bool, true, false, cond, Option, Some, None}
use Rattle.std.specs.Prelude.{slice_get, nat_lt, ◌==◌, option_map, unwrap_or, if◌then◌else◌}
use Rattle.std.specs.Option.{option_map_or, option_and_then}
use Rattle.std.proofs.lemmas.Bool.Decides.{eqb_tells, Decides-ltb}
use Rattle.std.proofs.lemmas.Option.{none-some}
use Rattle.schedule_meaning.specs.Launches.{instr_at, op_instr, class_at, operands_at, copied_at, copy_operands, pinned_class, guard_operands, row_operands}
use Rattle.word_ops.specs.declared.operates.Operate.TheVariants.{Bis}
use Rattle.machine_table.specs.declared.tables.InstrKind.TheVariants.{Operate, Beq}
use Rattle.graph_meaning.specs.declared.graphs.LaunchRow.{LaunchRow}
use Rattle.graph_meaning.specs.declared.graphs.LaunchGraph.{LaunchGraph}
use Rattle.schedule_meaning.proofs.Rules.{in_list}

not_equal : (a b : ℕ) → b < a → (a == b) ≡ false
not_equal a b h = elim (eqb_tells a b) [ inl t ↦ (let e : a ≡ b = t.1 in absurd (omega arith)) | inr t ↦ t.0 ]

module _ (g : LaunchGraph) (row : ℕ) where
  abbrev found : Option ℕ
  found = pinned_class (slice_get g.sets (row - (length g.rows + 1)))

  none_by : (b : Bool) → (b ≡ true → length g.rows < row) → row < length g.rows + 1 → cond b found None ≡ None
  none_by true f h = let l : length g.rows < row = f refl in absurd (omega arith)
  none_by false f h = refl

  -- the numbers of rows and of the branch are no copies
  pub low_no_copy : row < length g.rows + 1 → copied_at g row ≡ None
  low_no_copy h = none_by (nat_lt (length g.rows) row) (Decides-ltb (length g.rows) row).0 h

  pub row_no_copy : (r : LaunchRow) → slice_get g.rows row ≡ Some r → copied_at g row ≡ None
  row_no_copy r e = low_no_copy (let lt : row < length g.rows = in_list g.rows row r e in omega arith)

  high_by : (class : ℕ) (b : Bool) → (b ≡ true → length g.rows < row) → cond b found None ≡ Some class → length g.rows < row
  high_by class true f h = f refl
  high_by class false f h = absurd (none-some class h)

  module _ (class : ℕ) (copied : copied_at g row ≡ Some class) where
    high : length g.rows < row
    high = high_by class (nat_lt (length g.rows) row) (Decides-ltb (length g.rows) row).0 copied

    no_branch : (row == length g.rows) ≡ false
    no_branch = not_equal row (length g.rows) high

    pub copy_kind : instr_at g row ≡ Some (Operate Bis)
    copy_kind =
        ap (λ b. if b then option_map (λ _. Beq) g.guard else option_map_or (λ class. Some (Operate Bis)) (copied_at g row) (option_and_then (λ r. op_instr g r.op r.operands) (slice_get g.rows row))) no_branch
        ∙ ap (λ o. option_map_or (λ class. Some (Operate Bis)) o (option_and_then (λ r. op_instr g r.op r.operands) (slice_get g.rows row))) copied

    pub copy_class : class_at g row ≡ class
    copy_class = ap (λ o. unwrap_or o (option_map_or (λ r. r.class) (slice_get g.rows row) 0)) copied

    pub copy_reads : operands_at g row ≡ copy_operands class
    copy_reads =
        ap (λ b. if b then guard_operands g.guard else option_map_or copy_operands (copied_at g row) (row_operands (slice_get g.rows row))) no_branch
        ∙ ap (λ o. option_map_or copy_operands o (row_operands (slice_get g.rows row))) copied

  module _ (copied : copied_at g row ≡ None) where
    pub plain_kind : instr_at g row ≡ (if row == length g.rows then option_map (λ _. Beq) g.guard else option_and_then (λ r. op_instr g r.op r.operands) (slice_get g.rows row))
    plain_kind = ap (λ o. if row == length g.rows then option_map (λ _. Beq) g.guard else option_map_or (λ class. Some (Operate Bis)) o (option_and_then (λ r. op_instr g r.op r.operands) (slice_get g.rows row))) copied

    pub plain_class : class_at g row ≡ option_map_or (λ r. r.class) (slice_get g.rows row) 0
    plain_class = ap (λ o. unwrap_or o (option_map_or (λ r. r.class) (slice_get g.rows row) 0)) copied

    pub plain_operands : operands_at g row ≡ (if row == length g.rows then guard_operands g.guard else row_operands (slice_get g.rows row))
    plain_operands = ap (λ o. if row == length g.rows then guard_operands g.guard else option_map_or copy_operands o (row_operands (slice_get g.rows row))) copied
