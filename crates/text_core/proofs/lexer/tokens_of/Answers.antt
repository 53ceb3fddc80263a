use Rattle.std.proofs.Common.{arith, ℕ, ◌≤◌, List, length, sym, subst}
use Rattle.std.proofs.lemmas.List.{drop_all}
use Rattle.text_core.specs.Pieces.{Consists}
use Rattle.text_core.specs.ReadTo.{IsReadTo}
use Rattle.text_core.specs.Lexing.{HasTokens}
use Rattle.text_core.specs.declared.tokens.Token.{Token}
use Rattle.text_core.proofs.Lexemes.{read_none}
use Rattle.text_core.proofs.Within.{tokens_within}
use Rattle.text_core.proofs.lexer.tokens_of.Goals as goal

pub loop-at-init : goal.loop-at-init
loop-at-init c = record { within = omega arith; read = subst (IsReadTo c.args.text.now 0) (sym c.new-tokens.ensures.items) (read_none c.args.text.now) }

-- at the end of the text nothing is left to read
whole : (text : List ℕ) (at : ℕ) (tokens : List Token) → length text ≤ at → IsReadTo text at tokens → HasTokens text tokens
whole text at tokens past read =
    record { pieces = read.pieces; consists = subst (Consists text read.pieces) (drop_all at text past) read.consists; read = read.read }

pub returns-clause-tokens : goal.returns-clause-tokens
returns-clause-tokens c = whole c.args.text.now c.loop-at.at _ c.loop-at-test.false c.loop-at.invariant.read

pub returns-clause-within : goal.returns-clause-within
returns-clause-within c =
    tokens_within c.args.text.now _ (whole c.args.text.now c.loop-at.at _ c.loop-at-test.false c.loop-at.invariant.read)
