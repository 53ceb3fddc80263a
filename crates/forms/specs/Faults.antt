-- The faults of a form that is read as something, and of its parts. Source: this project.
use Rattle.std.specs.Prelude.{ℕ, ◌≡◌, Option, Some, slice_get}
use Rattle.forms.specs.Forms.{Form, place_of, parts_of}
use Rattle.text_core.specs.declared.faults.Kind.{Kind}
use Rattle.text_core.specs.declared.faults.Kind.TheVariants.{BadForm, LimitPassed}

-- A role says what a form is to be read as. `IsOwn` has for each role the faults of the form itself, and `part_role`
-- the role of each of its parts by number, from 0; a part without a role isn't examined. A fault of a form stands at
-- the form's first byte. A list is examined before its parts; where it has BadForm, or stands past a limit, nothing in
-- it is examined. Which of these faults is first says `IsFirst` of text_core: by place, and at one place by number.
pub data IsFault {Role : Type 0} (IsOwn : Role → Form → Kind → Type 0) (part_role : Role → Form → ℕ → Option Role)
    : Role → Form → ℕ → Kind → Type 0 where
  own : {role : Role} {form : Form} {place : ℕ} {kind : Kind}
      → IsOwn role form kind → place ≡ place_of form → IsFault IsOwn part_role role form place kind
  inside : {role : Role} {form : Form} {place : ℕ} {kind : Kind} (at : ℕ) (part : Form) (other : Role)
      → (IsOwn role form BadForm → ⊥) → (IsOwn role form LimitPassed → ⊥)
      → slice_get (parts_of form) at ≡ Some part → part_role role form at ≡ Some other
      → IsFault IsOwn part_role other part place kind → IsFault IsOwn part_role role form place kind
