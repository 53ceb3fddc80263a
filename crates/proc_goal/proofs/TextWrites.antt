-- What the forms of a text that was read write.
use Rattle.std.proofs.Common.{◌≡◌, ℕ, zero, suc, ◌+◌, ◌≤◌, ◌++◌, Bool, true, false, Option, None, Some, List, [], ◌∷◌, length, take, drop, refl, sym, ap, ◌∙◌, subst, arith, slice_get}
use Rattle.std.specs.Prelude.{is_none, unwrap_or}
use Rattle.std.proofs.lemmas.List.{length-drop}
use Rattle.forms.specs.Forms.{Form}
use Rattle.machine_table.specs.Tables.{ev6}
use Rattle.machine_table.specs.declared.tables.Table.{Table}
use Rattle.goal_reader.specs.Grammar.{WritesMachine, built_in, own}
use Rattle.proc_goal.specs.ProcGrammar.{WritesProc, WritesProcText}
use Rattle.proc_goal.specs.ProcReading.{IsTableRead, absent, there}
use Rattle.proc_goal.specs.Views.{ProcTree}
use Rattle.proc_goal.proofs.BlockForms.{parted}
use Rattle.proc_goal.proofs.ListForms.{alone}
use Rattle.proc_goal.proofs.ProcTexts.{number_of_tables}

pub first_dropped : (n : ℕ) (xs : List Form) → slice_get (drop n xs) 0 ≡ slice_get xs n
first_dropped zero xs = refl
first_dropped (suc n) [] = refl
first_dropped (suc n) (x ∷ xs) = first_dropped n xs

first_taken : (xs : List Form) (f : Form) → slice_get xs 0 ≡ Some f → take 1 xs ≡ f ∷ []
first_taken [] f g = cc
first_taken (x ∷ xs) f g = (let same : x ≡ f = cc in ap (λ v. v ∷ []) same)

machine_written : (forms : List Form) (given : Option Table) → IsTableRead forms given → (t : Table) (b : Bool) → t ≡ unwrap_or given ev6 → b ≡ is_none given → WritesMachine (take (number_of_tables given) forms) t b
machine_written forms None (absent ends) t b e f = subst (λ x. WritesMachine [] x b) (sym e) (subst (λ x. WritesMachine [] ev6 x) (sym f) built_in)
machine_written forms (Some table) (there form g h writes clear) t b e f =
    subst (λ fs. WritesMachine fs t b) (sym (first_taken forms form g)) (subst (λ x. WritesMachine (form ∷ []) x b) (sym e) (subst (λ x. WritesMachine (form ∷ []) table x) (sym f) (own writes)))

pub text_writes : (forms : List Form) (given : Option Table) → IsTableRead forms given → (form : Form) → slice_get forms (number_of_tables given) ≡ Some form → length forms ≤ number_of_tables given + 1 → (p : ProcTree) → p.table ≡ unwrap_or given ev6 → p.builtin ≡ is_none given
    → WritesProc form p → WritesProcText forms p
text_writes forms given read form g most p table builtin w =
    let n = number_of_tables given in
    let rest : drop n forms ≡ form ∷ [] = alone (drop n forms) form (first_dropped n forms ∙ g) (let l = length-drop n forms in omega (arith, l, most)) in
    record {
      machines = take n forms;
      last = form;
      are = sym (parted n forms) ∙ ap (λ fs. take n forms ++ fs) rest;
      machine = machine_written forms given read p.table p.builtin table builtin;
      proc = w;
    }
