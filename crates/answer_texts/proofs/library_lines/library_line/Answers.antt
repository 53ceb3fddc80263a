use Rattle.std.proofs.Common.{◌≡◌, ◌≢◌, List, [], drop, get_or, map, refl, sym, ap, subst, ◌∙◌, codes}
use Rattle.std.specs.Prelude.{Option, MatchOption, true}
use Rattle.std.proofs.lemmas.Bool.{false≢true}
use Rattle.text_core.specs.LineTexts.{Words}
use Rattle.text_core.specs.Lines.{line_at}
use Rattle.axiom_library.specs.Libraries.{library_of}
use Rattle.axiom_library.specs.Names.{family_name}
use Rattle.axiom_library.specs.declared.families.Family.{Family}
use Rattle.answer_texts.specs.AnswerLines.{listed_families}
use Rattle.answer_texts.proofs.LibraryLines.{family_laws, none_said, other_said, said_by}
use Rattle.answer_texts.proofs.SameFamilies.{lists_same}
use Rattle.answer_texts.proofs.library_lines.library_line.Goals as goal

-- what the words behind the first one name
abbrev Named : Words → Option (List Family) → Type 0
Named words found = MatchOption found
    ((families : List Family) → drop 1 words ≡ map family_name families → ⊥)
    (λ families. drop 1 words ≡ map family_name families)

pub returns-then-not-begins_with : goal.returns-then-not-begins_with
returns-then-not-begins_with c = λ library is.
    false≢true (sym c.if-not-begins_with.true ∙ c.begins_with.ensures.1 (ap (λ (ws : Words). get_or ws 0 []) is.is))

pub returns-then-is_empty : goal.returns-then-is_empty
returns-then-is_empty c =
    let words : Words = (line_at c.args.text.now c.args.line).words in
    none_said (family_laws c.families_have_names.ensures.differ c.libraries_have_families.ensures.back) words c.in-Some.named
    (subst (Named words) c.in-Some.is c.in_ok-named.ensures) (c.if-is_empty.ensures.0 refl)

pub returns-then-eq : goal.returns-then-eq
returns-then-eq c =
    let words : Words = (line_at c.args.text.now c.args.line).words in
    said_by words c.in-Some.named c.library_of-library.result (c.begins_with.ensures.0 c.if-not-begins_with.false)
    (subst (Named words) c.in-Some.is c.in_ok-named.ensures)
    (λ none. false≢true (sym c.if-is_empty.false ∙ c.is_empty.ensures.1 none))
    (sym c.as_slice-2.ensures ∙ (lists_same c.as_slice-2.result.now c.as_slice-3.result.now true c.if-eq.ensures).0 refl
    ∙ c.as_slice-3.ensures ∙ c.in_ok-ordered.ensures)

pub returns : goal.returns
returns c =
    let words : Words = (line_at c.args.text.now c.args.line).words in
    other_said (family_laws c.families_have_names.ensures.differ c.libraries_have_families.ensures.back) words c.in-Some.named
    (subst (Named words) c.in-Some.is c.in_ok-named.ensures)
    (λ same. false≢true (sym c.if-eq.false
    ∙ (lists_same c.as_slice-2.result.now c.as_slice-3.result.now c.eq.result c.eq.ensures).1
    (c.as_slice-2.ensures ∙ same ∙ ap (λ fs. listed_families (library_of fs)) (sym c.as_slice.ensures) ∙ ap listed_families (sym c.library_of-library.ensures) ∙ sym c.in_ok-ordered.ensures ∙ sym c.as_slice-3.ensures)))
