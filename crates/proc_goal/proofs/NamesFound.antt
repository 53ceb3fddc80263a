-- The names of the blocks among the items, one item after the other.
use Rattle.std.proofs.Common.{◌≡◌, ℕ, ◌+◌, ◌≤◌, ◌<◌, ◌++◌, if◌then◌else◌, Bool, true, false, None, Some, List, [], ◌∷◌, length, filter_map, take, drop, refl, sym, ap, ◌∙◌, arith, slice_get, codes, length-append}
use Rattle.std.specs.List.{cons_option}
use Rattle.std.proofs.lemmas.List.{append-nil, take_all}
use Rattle.std.proofs.lemmas.List.Elements.{filter_map-append}
use Rattle.forms.specs.Forms.{Form}
use Rattle.machine_table.specs.Roles.{has_head}
use Rattle.goal_reader.specs.Roles.{names_given, second_name}
use Rattle.goal_reader.proofs.GoalSteps.{got_more, map_more}
use Rattle.proc_goal.specs.ProcRoles.{block_names_in, lists_of}
use Rattle.proc_goal.proofs.BlockForms.{parted}
use Rattle.proc_goal.proofs.Items.{lists_both}
use Rattle.proc_goal.proofs.Written.{took_all}

abbrev pub blocks_in : List Form → List Form
blocks_in fs = lists_of (codes "block") fs

module _ (forms : List Form) (i : ℕ) (form : Form) (g : slice_get forms i ≡ Some form) where
  more : blocks_in (take (i + 1) forms) ≡ blocks_in (take i forms) ++ blocks_in (form ∷ [])
  more = ap blocks_in (got_more forms i form g) ∙ lists_both (codes "block") (take i forms) (form ∷ [])

  one_of : (b : Bool) → has_head (codes "block") form ≡ b → blocks_in (form ∷ []) ≡ (if b then form ∷ [] else [])
  one_of b h = ap (λ x. if x then form ∷ [] else []) h

  pub no_block_more : has_head (codes "block") form ≡ false → blocks_in (take (i + 1) forms) ≡ blocks_in (take i forms)
  no_block_more h = more ∙ ap (λ fs. blocks_in (take i forms) ++ fs) (one_of false h) ∙ append-nil (blocks_in (take i forms))

  pub block_more : has_head (codes "block") form ≡ true → blocks_in (take (i + 1) forms) ≡ blocks_in (take i forms) ++ form ∷ []
  block_more h = more ∙ ap (λ fs. blocks_in (take i forms) ++ fs) (one_of true h)

  pub count_more : has_head (codes "block") form ≡ true → length (blocks_in (take (i + 1) forms)) ≡ length (blocks_in (take i forms)) + 1
  count_more h = ap length (block_more h) ∙ length-append (blocks_in (take i forms)) (form ∷ [])

  pub name_more : has_head (codes "block") form ≡ true → (n : List ℕ) → second_name form ≡ Some n → names_given (blocks_in (take (i + 1) forms)) ≡ names_given (blocks_in (take i forms)) ++ n ∷ []
  name_more h n e = ap names_given (block_more h) ∙ map_more second_name (blocks_in (take i forms)) form n e

  pub no_name_more : has_head (codes "block") form ≡ true → second_name form ≡ None → names_given (blocks_in (take (i + 1) forms)) ≡ names_given (blocks_in (take i forms))
  no_name_more h e =
      ap names_given (block_more h) ∙ filter_map-append second_name (blocks_in (take i forms)) (form ∷ [])
      ∙ ap (λ ns. names_given (blocks_in (take i forms)) ++ ns) (none_of e) ∙ append-nil (names_given (blocks_in (take i forms)))
    where
      none_of : second_name form ≡ None → filter_map second_name (form ∷ []) ≡ []
      none_of f = ap (λ o. cons_option o []) f

-- no more than the limit, all of them
pub all_names : (forms : List Form) (i : ℕ) → length forms ≤ i → length (blocks_in (take i forms)) ≤ 64 → block_names_in forms ≡ names_given (blocks_in (take i forms))
all_names forms i l few =
    let all = take_all i forms l in
    let same : length (blocks_in (take i forms)) ≡ length (blocks_in forms) = ap (λ fs. length (blocks_in fs)) all in
    ap names_given (take_all 64 (blocks_in forms) (omega (arith, same, few))) ∙ ap (λ fs. names_given (blocks_in fs)) (sym all)

-- as many as the limit, and no more of them
pub most_names : (forms : List Form) (i : ℕ) → length (blocks_in (take i forms)) ≡ 64 → block_names_in forms ≡ names_given (blocks_in (take i forms))
most_names forms i e =
    let split = sym (ap blocks_in (parted i forms)) ∙ lists_both (codes "block") (take i forms) (drop i forms) in
    ap (λ fs. names_given (take 64 fs)) split ∙ ap (λ n. names_given (take n (blocks_in (take i forms) ++ blocks_in (drop i forms)))) (sym e)
    ∙ ap names_given (took_all (blocks_in (take i forms)) (blocks_in (drop i forms)))
