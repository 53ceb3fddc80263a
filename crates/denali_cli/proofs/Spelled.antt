-- What clap's clauses say of the program's words.
use Rattle.std.proofs.Common.{◌≡◌, ◌||◌, Bool, true, false, cond, List, [], ◌∷◌, None, Some, codes, refl, sym, ap, subst, ◌∙◌, inl, inr}
use Rattle.std.specs.Borrow.{Bor}
use Rattle.std.specs.Box.{box_value}
use Rattle.std.specs.Option.{option_map, option_map_or, option_and_then}
use Rattle.std.specs.Str.{bytes_eq}
use Rattle.std.specs.declared.option.Option.{Option}
use Rattle.clap.specs.Words.{App, HasKind, HasMatchesOf, IsAmong, Kinds, Row, Text, fault_of, first_of, first_value, found_of, is_simple, is_simple_and_free, kind_of, rows_of, subcommand_name_of, subcommand_of, subcommand_rows_of}
use Rattle.clap.specs.declared.error.Error.{Error}
use Rattle.clap.specs.declared.error.kind.ErrorKind.{ErrorKind}
use Rattle.clap.specs.declared.error.kind.ErrorKind.TheVariants.{OutOfMemory}
use Rattle.clap.specs.declared.parser.matches.ArgMatches.{ArgMatches}
use Rattle.clap.specs.declared.parser.matches.ArgMatches.TheViews.{out-ArgMatches, out-SubCommand}
use Rattle.clap.specs.declared.parser.matches.Found.{Found}
use Rattle.clap.proofs.WalkLemmas.{first_value-rows}
use Rattle.clap.proofs.OnLiterals.{clap_on_literals}
use Rattle.denali_cli.specs.Commands.{Command}
use Rattle.denali_cli.specs.Spellings.{command_in, has_flag, value_given, is_taken, matched, program, spelled_command}

-- ---- the program as clap has it

pub or_false : (b : Bool) → (b || false) ≡ b
or_false true = refl
or_false false = refl

is_free : is_simple_and_free program ≡ true
unfolding clap_on_literals
is_free = refl

has_matches : is_simple program ≡ true
unfolding clap_on_literals
has_matches = refl

-- ---- what the words are answered by

module _ (a : App) (words : List Text) (is : a ≡ program) where
  pub taken : (m : ArgMatches) (c : Option Command) → HasMatchesOf a words m
      → (is_simple_and_free a ≡ true → fault_of a words ≡ [])
      → c ≡ option_and_then command_in (subcommand_rows_of m) → c ≡ spelled_command words
  unfolding matched
  taken m c matches faultless read =
      let none : fault_of program words ≡ [] = ap (λ b. fault_of b words) (sym is) ∙ faultless (ap is_simple_and_free is ∙ is_free) in
      let found : subcommand_rows_of m ≡ subcommand_of program words =
      (matches (ap is_simple is ∙ has_matches)).1 ∙ ap (λ b. subcommand_of b words) is in
      read ∙ ap (option_and_then command_in)
      (found ∙ ap (λ ks. cond (is_taken ks) (subcommand_of program words) None) (sym none))

  without : (ks : Kinds) (k : ErrorKind) → IsAmong k ks → (found : Option (Text × List Row))
      → None ≡ option_and_then command_in (cond (is_taken ks) found None)
  without [] k among found = absurd among
  without (x ∷ ks) k among found = refl

  pub refused : (e : Error) → (is_simple_and_free a ≡ true → HasKind (fault_of a words) e)
      → (kind_of e ≡ OutOfMemory → ⊥) → None ≡ spelled_command words
  unfolding matched
  refused e kinds other = go (subst (λ b. HasKind (fault_of b words) e) is (kinds (ap is_simple_and_free is ∙ is_free)))
    where
      go : HasKind (fault_of program words) e → None ≡ spelled_command words
      go (inl memory) = absurd (other memory)
      go (inr among) = without (fault_of program words) (kind_of e) among (subcommand_of program words)

-- ---- the value of an option

module _ {A : Type 0} (read : Text → Option A) (found : Found) (name : Text) (text : Option (Bor Text))
    (has : option_map (λ s. s.now) text ≡ first_value found name) where
  pub absent : text ≡ None → Some None ≡ value_given read (first_of name (rows_of found))
  absent none = ap (value_given read) (ap (option_map (λ s. s.now)) (sym none) ∙ has ∙ first_value-rows found name)

  pub present : (word : Bor Text) → text ≡ Some word → (value : Option A) → value ≡ read word.now
      → option_map (λ v. Some v) value ≡ value_given read (first_of name (rows_of found))
  present word some value is =
      ap (option_map (λ v. Some v)) is
      ∙ ap (value_given read) (ap (option_map (λ s. s.now)) (sym some) ∙ has ∙ first_value-rows found name)

-- ---- the flag

is_true : Text → Bool
is_true text = bytes_eq text (codes "true")

module _ (found : Found) (name : Text) (text : Option (Bor Text))
    (has : option_map (λ s. s.now) text ≡ first_value found name) where
  read_flag : option_map_or is_true (option_map (λ s. s.now) text) false ≡ has_flag name (rows_of found)
  unfolding is_true
  read_flag = ap (λ o. option_map_or is_true o false) (has ∙ first_value-rows found name)

  pub flag_present : (word : Bor Text) → text ≡ Some word → bytes_eq word.now (codes "true") ≡ has_flag name (rows_of found)
  unfolding is_true
  flag_present word some =
      ap (λ o. option_map_or is_true (option_map (λ s. s.now) o) false) (sym some) ∙ read_flag

  pub flag_absent : text ≡ None → false ≡ has_flag name (rows_of found)
  flag_absent none =
      ap (λ o. option_map_or is_true (option_map (λ (s : Bor Text). s.now) o) false) (sym none) ∙ read_flag

-- ---- the subcommand

-- its name and its rows, where each of both is known
module _ {A : Type 0} (name : A → Text) (rows : A → List Row) where
  abbrev both : A → Text × List Row
  both b = (name b, rows b)

  both_known : (o : Option A) (n : Text) (rs : List Row) → option_map name o ≡ Some n
      → option_map (λ (p : Text × List Row). p.1) (option_map (λ b. both b) o) ≡ Some rs
      → option_map (λ b. both b) o ≡ Some (n, rs)
  both_known None n rs named given = absurd cc
  both_known (Some b) n rs named given =
      let first : name b ≡ n = cc in let second : rows b ≡ rs = cc in λ i. Some (first i, second i)

pub found_subcommand : (m : ArgMatches) (n : Text) (rs : List Row) → subcommand_name_of m ≡ Some n
    → option_map (λ (p : Text × List Row). p.1) (subcommand_rows_of m) ≡ Some rs → subcommand_rows_of m ≡ Some (n, rs)
found_subcommand m n rs named given =
    both_known (λ b. (out-SubCommand (box_value b)).name.now) (λ b. rows_of (found_of (out-SubCommand (box_value b)).matches))
    (out-ArgMatches m).subcommand n rs named given
