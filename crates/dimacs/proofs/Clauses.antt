-- The goals of an answer.
use Rattle.std.proofs.Common.{◌≡◌, ◌<◌, ℕ, List, Some, length, get_or, refl, sym, subst}
use Rattle.std.specs.Prelude.{All, slice_get}
use Rattle.std.proofs.lemmas.Option.{slice_get_read}
use Rattle.answer_texts.specs.WellFormed.{IsClaimed}
use Rattle.answer_texts.specs.declared.answers.Claimed.{Claimed}

pub goal_is_claimed : (version : ℕ) (goals : List Claimed) (at : ℕ) (c : Claimed) → All (IsClaimed version) goals
    → at < length goals → c ≡ get_or goals at c → IsClaimed version c
goal_is_claimed version goals at c all lt is = subst (IsClaimed version) (sym is) (all at c lt)

pub goal_there : (goals : List Claimed) (at : ℕ) (c : Claimed) → at < length goals → c ≡ get_or goals at c
    → slice_get goals at ≡ Some c
goal_there goals at c lt is = slice_get_read goals (length goals) at c refl lt is
