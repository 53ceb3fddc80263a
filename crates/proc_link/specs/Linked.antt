-- Listings of blocks linked into one list: each behind the other, each with one branch more, to where its block goes.
-- Source: this project.
use Rattle.std.specs.Prelude.{ℕ, zero, suc, ℤ, pos, ◌+◌, ◌*◌, ◌-ℤ◌, List, [], ◌∷◌, ◌++◌, length, map}
use Rattle.alpha_encode.specs.declared.instructions.Instr.{Instr}
use Rattle.alpha_encode.specs.declared.instructions.Instr.TheVariants.{Beq}
use Rattle.proc_goal.specs.Views.{BlockTree}
use Rattle.proc_goal.specs.declared.procs.Target.{Target}
use Rattle.proc_goal.specs.declared.procs.Target.TheVariants.{Block, Done}
use Rattle.register_assign.specs.Outcomes.{instrs_of}
use Rattle.register_assign.specs.declared.listings.Listing.{Listing}
use Rattle.proc_link.specs.Blocks.{other_of}

-- so many words are before listing i; each has one word more
abbrev pub words_before : List (List Instr) → ℕ → ℕ
words_before [] i = 0
words_before (l ∷ ls) zero = 0
words_before (l ∷ ls) (suc i) = length l + 1 + words_before ls i

-- the place of a block's first word; the end is behind the last word
abbrev pub place_of_target : List (List Instr) → Target → ℕ
place_of_target listings (Block i) = words_before listings i
place_of_target listings Done = words_before listings (length listings)

-- the displacement of a branch at place `from` to place `to`: it counts from the word after the branch
abbrev pub displacement_between : ℕ → ℕ → ℤ
displacement_between from to = pos to -ℤ pos (from + 1)

-- a branch that leads elsewhere
abbrev pub led : ℤ → Instr → Instr
led disp (Beq ra d) = Beq ra disp
led disp i = i

-- the instructions from a place on, with branches to another place
abbrev pub led_from : ℕ → ℕ → List Instr → List Instr
led_from from to [] = []
led_from from to (i ∷ is) = led (displacement_between from to) i ∷ led_from (from + 1) to is

-- the words of one block, of which the first stands at place `from`: its listing, with its branch to `other`, and a
-- branch to `go` that is always taken
abbrev pub block_instrs : (Target → ℕ) → ℕ → BlockTree → List Instr → List Instr
block_instrs place from b is =
    led_from from (place (other_of b)) is ++ Beq 31 (displacement_between (from + length is) (place b.go)) ∷ []

abbrev pub linked_from : (Target → ℕ) → ℕ → List BlockTree → List (List Instr) → List Instr
linked_from place from (b ∷ bs) (is ∷ ls) =
    block_instrs place from b is ++ linked_from place (from + (length is + 1)) bs ls
linked_from place from _ _ = []

-- all blocks, the first from place 0 on
abbrev pub linked : List BlockTree → List (List Instr) → List Instr
linked blocks listings = linked_from (place_of_target listings) 0 blocks listings

-- the address of each block's first word, in bytes
abbrev pub starts_from : ℕ → List (List Instr) → List ℕ
starts_from from [] = []
starts_from from (is ∷ ls) = 4 * from ∷ starts_from (from + (length is + 1)) ls

abbrev pub starts_of : List (List Instr) → List ℕ
starts_of listings = starts_from 0 listings

abbrev pub all_instrs : List Listing → List (List Instr)
all_instrs listings = map (λ (l : Listing). instrs_of l.items) listings
