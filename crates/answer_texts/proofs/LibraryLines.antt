-- The line of a library: it is read in one way, printed as it was read, and read as it was printed.
use Rattle.std.proofs.Common.{◌≡◌, ◌≢◌, ℕ, ◌+◌, ◌<◌, ◌≤◌, List, [], ◌∷◌, ◌++◌, length, map, drop, get_or, refl, sym, ap, ap₂, subst, ◌∙◌, arith, codes}
use Rattle.std.specs.Prelude.{All}
use Rattle.text_core.specs.Lines.{Line, line_at, line_word}
use Rattle.text_core.specs.LineTexts.{Words}
use Rattle.text_core.specs.declared.faults.Kind.{Kind}
use Rattle.axiom_library.specs.Libraries.{families_of, library_of, no_library}
use Rattle.axiom_library.specs.Names.{family_name}
use Rattle.axiom_library.specs.declared.families.Family.{Family}
use Rattle.axiom_library.specs.declared.libraries.Library.{Library}
use Rattle.answer_texts.specs.AnswerLines.{families_lines, families_words, library_lines, library_words, listed_families}
use Rattle.answer_texts.specs.AnswerParts.{BeginsLibrary, IsLibrary, LibraryFault, LibraryPart, line, no_line}
use Rattle.answer_texts.specs.LineParts.{IsOneLine}
use Rattle.answer_texts.proofs.PartsOnce.{IsOneReading, one_bad_line}
use Rattle.answer_texts.proofs.PartsPrinted.{HasWords, has_line, has_none, has_same}
use Rattle.answer_texts.proofs.PrintedParts.{StandsBefore, line_stands}
use Rattle.answer_texts.proofs.PrintedRest.{BeginsNot, IsRest, not_begins}

-- what the library says of its families
pub record FamilyLaws : Type 0 where
  pub differ : (family other : Family) → family_name family ≡ family_name other → family ≡ other
  pub back : (library : Library) → library_of (listed_families library) ≡ library

pub family_laws : ((family other : Family) → family_name family ≡ family_name other → family ≡ other)
    → ((library : Library) → library_of (families_of library) ≡ library) → FamilyLaws
unfolding listed_families
family_laws differ back = record { differ = differ; back = back }

-- no families, no line
no_families : listed_families no_library ≡ []
unfolding listed_families
no_families = refl

names_differ : FamilyLaws → (fs gs : List Family) → map family_name fs ≡ map family_name gs → fs ≡ gs
names_differ laws [] [] e = refl
names_differ laws [] (g ∷ gs) e = absurd (let none = ap length e in omega (arith, none))
names_differ laws (f ∷ fs) [] e = absurd (let none = ap length e in omega (arith, none))
names_differ laws (f ∷ fs) (g ∷ gs) e =
    let first : family_name f ≡ family_name g = cc in
    let rest : map family_name fs ≡ map family_name gs = cc in
    ap₂ (λ x xs. x ∷ xs) (laws.differ f g first) (names_differ laws fs gs rest)

-- ---- the words of a line

-- words that begin so, and whose others name families that are a library's list, are the library's line
pub said_by : (words : Words) (named : List Family) (library : Library) → get_or words 0 [] ≡ codes "library"
    → drop 1 words ≡ map family_name named → named ≢ [] → named ≡ listed_families library → IsLibrary words library
said_by [] named library begins are some same = absurd (let none = ap length begins in omega (arith, none))
said_by (w ∷ ws) named library begins are some same = record {
  some = λ none. some (same ∙ none);
  is = ap₂ (λ (x : List ℕ) (xs : Words). x ∷ xs) begins (are ∙ ap (map family_name) same);
}

-- the families that a library's line names are its list
names_listed : FamilyLaws → (words : Words) (named : List Family) (library : Library)
    → drop 1 words ≡ map family_name named → IsLibrary words library → named ≡ listed_families library
names_listed laws words named library are is =
    names_differ laws named (listed_families library) (sym are ∙ ap (drop 1) is.is)

pub none_said : FamilyLaws → (words : Words) (named : List Family) → drop 1 words ≡ map family_name named → named ≡ []
    → (library : Library) → IsLibrary words library → ⊥
none_said laws words named are none library is =
    is.some (sym (names_listed laws words named library are is) ∙ none)

pub other_said : FamilyLaws → (words : Words) (named : List Family) → drop 1 words ≡ map family_name named
    → (named ≢ listed_families (library_of named)) → (library : Library) → IsLibrary words library → ⊥
other_said laws words named are differ library is =
    let same = names_listed laws words named library are is in
    differ (same ∙ ap listed_families (sym (laws.back library) ∙ ap library_of (sym same)))

-- ---- read in one way

library_words_once : FamilyLaws → (words : Words) (x y : Library) → IsLibrary words x → IsLibrary words y → x ≡ y
library_words_once laws words x y a b =
    let same : library_words x ≡ library_words y = sym a.is ∙ b.is in
    let names : map family_name (listed_families x) ≡ map family_name (listed_families y) = cc in
    sym (laws.back x) ∙ ap library_of (names_differ laws (listed_families x) (listed_families y) names) ∙ laws.back y

line_begins : (lines : List Line) (from next : ℕ) (library : Library) → IsOneLine IsLibrary lines from next library
    → BeginsLibrary lines from
line_begins lines from next library a =
    record { within = a.within; begins = ap (λ (ws : Words). get_or ws 0 []) a.is.is }

module _ (laws : FamilyLaws) (lines : List Line) where
  one_part : (from next other : ℕ) (x y : Library) → LibraryPart lines from next x → LibraryPart lines from other y
      → (next ≡ other) × (x ≡ y)
  one_part from next other x y (no_line never) (no_line also) = (refl, refl)
  one_part from next other x y (no_line never) (line b) = absurd (never (line_begins lines from other y b))
  one_part from next other x y (line a) (no_line never) = absurd (never (line_begins lines from next x a))
  one_part from next other x y (line a) (line b) =
      (a.behind ∙ sym b.behind, library_words_once laws (line_at lines from).words x y a.is b.is)

  no_fault : (from next place : ℕ) (x : Library) (kind : Kind) → LibraryPart lines from next x
      → LibraryFault lines from place kind → ⊥
  no_fault from next place x kind (no_line never) f = never f.begins
  no_fault from next place x kind (line a) f = f.fault.none a.within x a.is

  pub library_once : IsOneReading (LibraryPart lines) (LibraryFault lines)
  library_once = record {
    once = one_part;
    apart = no_fault;
    first = λ from place other kind another f g. one_bad_line lines from place other kind another f.fault.fault g.fault.fault;
  }

-- ---- printed as it was read

-- some families have one line
some_line : (fs : List Family) → fs ≢ [] → families_words fs ∷ [] ≡ families_lines fs
some_line [] some = absurd (some refl)
some_line (f ∷ fs) some = refl

module _ (lines : List Line) where
  pub has_library : (from next : ℕ) (library : Library) → from ≤ length lines → LibraryPart lines from next library
      → HasWords lines from next (library_lines library)
  has_library from next library within (no_line never) =
      has_same lines from from [] (library_lines no_library) (sym (ap families_lines no_families))
      (has_none lines from from within refl)
  has_library from next library within (line a) =
      has_same lines from next (library_words library ∷ []) (library_lines library) (some_line (listed_families library) a.is.some)
      (has_line lines IsLibrary from next library (library_words library) (λ is. is.is) a)

  -- ---- read as it was printed

  none_stands : (behind : List Words) (from : ℕ) → BeginsNot (codes "library") behind → IsRest lines from behind
      → StandsBefore lines behind (LibraryPart lines) from no_library
  none_stands behind from never rest = record {
    next = from;
    is = no_line (λ begins. not_begins lines (codes "library") from behind rest never begins.within begins.begins);
    rest = rest;
  }

  one_stands : (library : Library) (behind : List Words) (from : ℕ) → listed_families library ≢ []
      → IsRest lines from (library_words library ∷ behind) → StandsBefore lines behind (LibraryPart lines) from library
  one_stands library behind from some rest =
      let h = line_stands lines IsLibrary behind from (library_words library) library (record { some = some; is = refl }) rest in
      record { next = h.next; is = line h.is; rest = h.rest }

  families_stand : (library : Library) (fs : List Family) (behind : List Words) (from : ℕ) → listed_families library ≡ fs
      → library ≡ library_of fs → BeginsNot (codes "library") behind → IsRest lines from (families_lines fs ++ behind)
      → StandsBefore lines behind (LibraryPart lines) from library
  families_stand library [] behind from e is never rest =
      subst (StandsBefore lines behind (LibraryPart lines) from) (sym is) (none_stands behind from never rest)
  families_stand library (f ∷ fs) behind from e is never rest =
      one_stands library behind from (λ none. absurd (let long = ap length (sym e ∙ none) in omega (arith, long)))
      (subst (λ gs. IsRest lines from (families_words gs ∷ behind)) (sym e) rest)

  pub library_stands : FamilyLaws → (library : Library) (behind : List Words) (from : ℕ) → BeginsNot (codes "library") behind
      → IsRest lines from (library_lines library ++ behind) → StandsBefore lines behind (LibraryPart lines) from library
  library_stands laws library behind from never rest =
      families_stand library (listed_families library) behind from refl (sym (laws.back library)) never rest

-- the line begins with no other word
pub families_begin_not : (first : List ℕ) (fs : List Family) (behind : List Words) → codes "library" ≢ first
    → BeginsNot first behind → BeginsNot first (families_lines fs ++ behind)
families_begin_not first [] behind other never = never
families_begin_not first (f ∷ fs) behind other never = other
