use Rattle.std.proofs.Common.{length-drop, ◌≡◌, ℕ, ◌+◌, ◌-◌, ◌<◌, List, Option, None, Some, drop, take, length, refl, sym, ap, subst, ◌∙◌, arith, codes}
use Rattle.std.specs.Option.{option_and_then}
use Rattle.std.proofs.lemmas.List.{take_all}
use Rattle.axiom_library.specs.declared.libraries.Library.{Library}
use Rattle.denali_cli.specs.OptionValues.{library_of_names, parts_of, with_named}
use Rattle.denali_cli.proofs.NamedFamilies.{last_name, next_name}
use Rattle.denali_cli.proofs.options.library_named.Goals as goal

pub returns-in_err-library : goal.returns-in_err-library
returns-in_err-library c =
    let rest = c.loop-at.rest.now in
    let found = c.in-Some.ensures in
    c.from_residual.ensures
    ∙ ap (option_and_then (λ more. library_of_names more (parts_of (drop (c.in-Some.at + 1) rest)))) c.in_err-library.ensures
    ∙ sym (next_name c.loop-at.library rest c.in-Some.at found.some.0 found.some.1 found.first)
    ∙ c.loop-at.invariant.0

pub overflow_add-rest : goal.overflow_add-rest
overflow_add-rest c = let found = c.in-Some.ensures.some.0 in let short = c.loop-at.invariant.1 in omega (arith, short)

pub loop-at-preserved : goal.loop-at-preserved
loop-at-preserved c =
    let rest = c.loop-at.rest.now in
    let behind : List ℕ = drop (c.in-Some.at + 1) rest in
    let found = c.in-Some.ensures in
    let short = c.loop-at.invariant.1 in (
      ap (λ names. library_of_names c.in_ok-library.library (parts_of names))
          (take_all (length rest - (c.in-Some.at + 1)) behind (omega (arith, length-drop (c.in-Some.at + 1) rest)))
          ∙ ap (option_and_then (λ more. library_of_names more (parts_of behind))) c.in_ok-library.ensures
          ∙ sym (next_name c.loop-at.library rest c.in-Some.at found.some.0 found.some.1 found.first)
          ∙ c.loop-at.invariant.0,
      omega (arith, short),
    )

pub returns : goal.returns
returns c =
    c.with_named-2.ensures ∙ sym (last_name c.loop-at.library c.loop-at.rest.now c.in_default.ensures.none) ∙ c.loop-at.invariant.0

pub loop-at-init : goal.loop-at-init
loop-at-init c = (ap (λ l. library_of_names l (parts_of c.args.names.now)) c.none-library.ensures, omega arith)
