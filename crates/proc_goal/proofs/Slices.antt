-- What stands behind the first so many of a form's parts, and of several.
use mir.Val.{bool_byte}
use Rattle.std.proofs.Common.{◌≡◌, ℕ, zero, suc, ◌+◌, ◌-◌, ◌≤◌, ◌<◌, All, List, [], ◌∷◌, length, map, option_map, take, drop, get_or, refl, sym, ap, ◌∙◌, subst, arith, slice_get, Option, None, Some, Bool, true, false, if◌then◌else◌}
use Rattle.std.specs.Prelude.{is_some}
use Rattle.std.proofs.lemmas.List.{length-drop, length-map, take_all}
use Rattle.std.proofs.lemmas.List.Elements.{All-nil, All-head, All-tail}
use Rattle.std.proofs.lemmas.Option.{same_Some}
use Rattle.text_core.specs.declared.sexps.Sexp.{Sexp}
use Rattle.forms.specs.Forms.{Form, list, forms_from, parts_of, sexp_form, sexp_forms}
use Rattle.forms.specs.Reading.{IsSexpOf}
use Rattle.machine_table.specs.Roles.{has_head}
use Rattle.goal_reader.specs.Roles.{items_of_goal}
use Rattle.goal_reader.proofs.Heads.{list_from}
use Rattle.goal_meaning.specs.declared.goals.InputReg.{InputReg}
use Rattle.proc_goal.specs.ProcReading.{EndsBefore}
use Rattle.proc_goal.specs.Views.{when_view}
use Rattle.proc_goal.specs.declared.procs.When.{When}
use Rattle.machine_table.specs.declared.tables.Table.{Table}
use Rattle.proc_goal.proofs.BlockForms.{count_of}
use Rattle.proc_goal.proofs.ProcParts.{number_of}
use Rattle.proc_goal.proofs.ProcTexts.{number_of_tables}

pub map_dropped : {X Y : Type 0} (f : X → Y) (n : ℕ) (xs : List X) → map f (drop n xs) ≡ drop n (map f xs)
map_dropped f zero xs = refl
map_dropped f (suc n) [] = refl
map_dropped f (suc n) (x ∷ xs) = map_dropped f n xs

pub all_dropped : {X : Type 0} (P : X → Type 0) (n : ℕ) (xs : List X) → All P xs → All P (drop n xs)
all_dropped P zero xs h = h
all_dropped P (suc n) [] h = h
all_dropped P (suc n) (x ∷ xs) h = all_dropped P n xs (All-tail P x xs h)

-- all that is left
pub rest_taken : {X : Type 0} (n : ℕ) (xs : List X) → take (length xs - n) (drop n xs) ≡ drop n xs
rest_taken n xs = take_all (length xs - n) (drop n xs) (let l = length-drop n xs in omega (arith, l))

pub dropped_at : {X : Type 0} (n k : ℕ) (xs : List X) → slice_get (drop n xs) k ≡ slice_get xs (n + k)
dropped_at zero k xs = ap (slice_get xs) (let e : k ≡ 0 + k = omega arith in e)
dropped_at (suc n) k [] = refl
dropped_at (suc n) k (x ∷ xs) = dropped_at n k xs ∙ ap (slice_get (x ∷ xs)) (let e : suc (n + k) ≡ suc n + k = omega arith in e)

pub none_left : {X : Type 0} (xs : List X) → slice_get xs 0 ≡ None → length xs ≡ 0
none_left [] e = refl
none_left (x ∷ xs) e = cc

pub first_of_all : {X : Type 0} (P : X → Type 0) (xs : List X) (a : X) → slice_get xs 0 ≡ Some a → All P xs → P a
first_of_all P [] a g h = cc
first_of_all P (x ∷ xs) a g h = (let same : x ≡ a = cc in subst P same (All-head P x xs h))

-- one where it is there, and else none
pub guards_counted : (vars : List InputReg) (names : List (List ℕ)) (items : List Form) (when : Option When) (k : ℕ) (b : Bool) → k ≡ bool_byte b → b ≡ is_some when → k ≡ count_of vars names items (option_map when_view when)
guards_counted vars names items None k b e h = e ∙ ap bool_byte h
guards_counted vars names items (Some w) k b e h = e ∙ ap bool_byte h

pub pools_counted : (o : Option (List ℕ)) (k : ℕ) (b : Bool) → k ≡ bool_byte b → b ≡ is_some o → k ≡ number_of o
pools_counted None k b e h = e ∙ ap bool_byte h
pools_counted (Some rs) k b e h = e ∙ ap bool_byte h

pub tables_counted : (o : Option Table) (k : ℕ) (b : Bool) → k ≡ bool_byte b → b ≡ is_some o → k ≡ number_of_tables o
tables_counted None k b e h = e ∙ ap bool_byte h
tables_counted (Some t) k b e h = e ∙ ap bool_byte h

module _ (text : List ℕ) where
  pub forms_dropped : (n : ℕ) (xs ys : List Sexp) → ys ≡ drop n xs → sexp_forms text ys ≡ drop n (sexp_forms text xs)
  forms_dropped n xs ys e = ap (sexp_forms text) e ∙ map_dropped (sexp_form text) n xs

  pub sexps_dropped : (n : ℕ) (xs ys : List Sexp) → ys ≡ drop n xs → All (IsSexpOf text) xs → All (IsSexpOf text) ys
  sexps_dropped n xs ys e h = subst (All (IsSexpOf text)) (sym e) (all_dropped (IsSexpOf text) n xs h)

  pub count_forms : (xs : List Sexp) → length (sexp_forms text xs) ≡ length xs
  count_forms xs = length-map xs (sexp_form text)

  -- the items of a list behind its keyword and its name
  pub items_behind : (form : Form) (p : ℕ) (parts ys : List Sexp) → form ≡ list p (forms_from (sexp_forms text parts)) → ys ≡ drop 2 parts → items_of_goal form ≡ sexp_forms text ys
  items_behind form p parts ys e d = ap (λ (f : Form). drop 2 (parts_of f)) e ∙ ap (drop 2) (list_from (sexp_forms text parts)) ∙ sym (forms_dropped 2 parts ys d)

  -- the first of several, where there is one
  pub first_form : (xs : List Sexp) (a : Sexp) → slice_get xs 0 ≡ Some a → slice_get (sexp_forms text xs) 0 ≡ Some (sexp_form text a)
  first_form [] a g = cc
  first_form (x ∷ xs) a g = (let same : x ≡ a = cc in ap (λ s. Some (sexp_form text s)) same)

  pub nothing_first : (word : List ℕ) (xs : List Sexp) → slice_get xs 0 ≡ None → EndsBefore word (sexp_forms text xs) 0
  nothing_first word [] e f g = cc
  nothing_first word (x ∷ xs) e f g = cc

  pub other_first : (word : List ℕ) (xs : List Sexp) (a : Sexp) → slice_get xs 0 ≡ Some a → has_head word (sexp_form text a) ≡ false → EndsBefore word (sexp_forms text xs) 0
  other_first word xs a g e f h = subst (λ (x : Form). has_head word x ≡ false) (same_Some (sexp_form text a) f (sym (first_form xs a g) ∙ h)) e
