-- Each token leaves the parser with what it read so far.
use Rattle.std.proofs.Common.{◌≡◌, ◌∙◌, ◌++◌, ◌∷◌, [], ap, map, length, get_or, refl, arith}
use Rattle.std.proofs.lemmas.List.{map-append, length-map}
use Rattle.text_core.specs.declared.tokens.Token.{Token}
use Rattle.text_core.specs.declared.tokens.TokenKind.TheVariants as kinds
use Rattle.text_core.specs.Building.{frame_of}
use Rattle.text_core.specs.Sexps.{sexp_tree}
use Rattle.text_core.specs.Trees.{SexpTree}
use Rattle.text_core.proofs.Forests.{tree_atom}
use Rattle.text_core.proofs.Steps.{read_opening, read_closing, read_atom, unopened_fault, read_still, first_of, empty_of, other_kind}
use Rattle.text_core.proofs.parser.Parser.step.Goals as goal

any : Token
any = record { kind = kinds.Opening; place = 0; len = 0 }

pub fault_inside-fault-requires-clause-inside : goal.fault_inside-fault-requires-clause-inside
fault_inside-fault-requires-clause-inside c =
    let outer = c.args.self.now.outer in
    let counted : length outer.items ≡ 64 = omega (arith, outer.ok.0, c.len.ensures, c.if-len-eq-MOST_NESTING.true) in
    let first = first_of outer.items c.index.result.now (omega arith) c.index.ensures in
    read_still (frame_of c.index.result.now) (map frame_of first.0) (map frame_of outer.items) (map sexp_tree c.args.self.now.parts.items) c.args.tokens.now c.args.at c.index.result.now.place 64 (ap (map frame_of) first.1) refl (omega (arith, counted, length-map outer.items frame_of)) (record { built = c.requires.parsed.built; nested = c.requires.parsed.nested })

pub returns-in_default-pop-clause-fault : goal.returns-in_default-pop-clause-fault
unfolding any
returns-in_default-pop-clause-fault c =
    let outer = c.args.self.now.outer in
    let none = empty_of outer.items (omega (arith, outer.ok.0, c.in_default-pop.ensures.cases.0)) in
    unopened_fault (map frame_of outer.items) (map sexp_tree c.args.self.now.parts.items) c.args.tokens.now c.args.at any (record { built = c.requires.parsed.built; nested = c.requires.parsed.nested }) c.requires.within (ap (map frame_of) none) c.in-Closing.is

pub returns-in_ok-enter-in-Opening-clause-parsed : goal.returns-in_ok-enter-in-Opening-clause-parsed
unfolding any
returns-in_ok-enter-in-Opening-clause-parsed c =
    let outer = c.args.self.now.outer in
    let room : length (map frame_of outer.items) ≡ 64 → ⊥ = λ full. c.if-len-eq-MOST_NESTING.false (omega (arith, full, length-map outer.items frame_of, outer.ok.0, c.len.ensures)) in
    let read = read_opening (map frame_of outer.items) (map sexp_tree c.args.self.now.parts.items) c.args.tokens.now c.args.at any (record { built = c.requires.parsed.built; nested = c.requires.parsed.nested }) c.requires.within (map frame_of c.enter.new.self.outer.items) (map sexp_tree c.enter.new.self.parts.items) c.in-Opening.is room c.in_ok-enter-in-Opening.ensures.outer c.in_ok-enter-in-Opening.ensures.parts in
    record { built = read.built; nested = read.nested }

pub returns-in_ok-leave-in-Closing-clause-parsed : goal.returns-in_ok-leave-in-Closing-clause-parsed
unfolding any
returns-in_ok-leave-in-Closing-clause-parsed c =
    let outer = c.args.self.now.outer in
    let rest = c.pop.new.self in
    let split : map frame_of outer.items ≡ map frame_of rest.items ++ frame_of c.in-Some.list ∷ [] = ap (map frame_of) c.in-Some.ensures.items ∙ map-append frame_of rest.items (c.in-Some.list ∷ []) in
    let read = read_closing (map frame_of outer.items) (map sexp_tree c.args.self.now.parts.items) c.args.tokens.now c.args.at any (record { built = c.requires.parsed.built; nested = c.requires.parsed.nested }) c.requires.within (map frame_of rest.items) (frame_of c.in-Some.list) (map frame_of c.leave.new.self.outer.items) (map sexp_tree c.leave.new.self.parts.items) c.in-Closing.is split (ap (map frame_of) c.in_ok-leave-in-Closing.ensures.outer) c.in_ok-leave-in-Closing.ensures.parts in
    record { built = read.built; nested = read.nested }

pub returns-in_ok-add-in_default : goal.returns-in_ok-add-in_default
unfolding any
returns-in_ok-add-in_default c =
    let tokens = c.args.tokens.now in
    let outer = c.args.self.now.outer in
    let parts = map sexp_tree c.args.self.now.parts.items in
    let is = other_kind (get_or tokens c.args.at any).kind c.in_default.not-Opening c.in_default.not-Closing in
    let more = c.in_ok-add-in_default.ensures.parts ∙ ap (λ (t : SexpTree). parts ++ t ∷ []) (tree_atom (get_or tokens c.args.at any)) in
    let read = read_atom (map frame_of outer.items) parts tokens c.args.at any (record { built = c.requires.parsed.built; nested = c.requires.parsed.nested }) c.requires.within (map frame_of c.add.new.self.outer.items) (map sexp_tree c.add.new.self.parts.items) is (ap (map frame_of) c.in_ok-add-in_default.ensures.outer) more in
    record { parsed = record { built = read.built; nested = read.nested }; fault = tt }
