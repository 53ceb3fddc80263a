-- Families that the words of a line name, word by word.
use Rattle.std.proofs.Common.{◌≡◌, ℕ, zero, suc, ◌+◌, ◌<◌, ◌≤◌, List, [], ◌∷◌, ◌++◌, length, map, take, drop, get_or, Option, Some, None, refl, sym, ap, subst, ◌∙◌, arith}
use Rattle.std.proofs.lemmas.List.{take_all, take_more, length-take}
use Rattle.text_core.specs.LineTexts.{Words}
use Rattle.axiom_library.specs.Names.{family_name, family_named}
use Rattle.axiom_library.specs.declared.families.Family.{Family}

-- the family of each name is found
abbrev pub AreFound : Type 0
AreFound = (family : Family) → family_named (family_name family) ≡ Some family

-- ---- words behind the first one

behind_first : (ws : Words) → drop 1 (take 1 ws) ≡ []
behind_first [] = refl
behind_first (w ∷ ws) = refl

behind_both : (ws vs : Words) → 1 ≤ length ws → drop 1 (ws ++ vs) ≡ drop 1 ws ++ vs
behind_both [] vs some = absurd (omega (arith, some))
behind_both (w ∷ ws) vs some = refl

names_pushed : (fs : List Family) (family : Family)
    → map family_name fs ++ family_name family ∷ [] ≡ map family_name (fs ++ family ∷ [])
names_pushed [] family = refl
names_pushed (f ∷ fs) family = ap (λ ws. family_name f ∷ ws) (names_pushed fs family)

-- the families so far are named by the words so far
abbrev pub AreNamedBy : Words → ℕ → List Family → Type 0
AreNamedBy words at fs = drop 1 (take at words) ≡ map family_name fs

pub none_named : (words : Words) → AreNamedBy words 1 []
none_named words = behind_first words

pub one_more_named : (words : Words) (at : ℕ) (fs : List Family) (family : Family) → 1 ≤ at → at < length words
    → AreNamedBy words at fs → get_or words at [] ≡ family_name family → AreNamedBy words (at + 1) (fs ++ family ∷ [])
one_more_named words at fs family some lt so_far is =
    let long = length-take at words in
    ap (drop 1) (take_more words at [] lt)
    ∙ behind_both (take at words) (get_or words at [] ∷ []) (omega (arith, long, some, lt))
    ∙ ap (λ ws. ws ++ get_or words at [] ∷ []) so_far
    ∙ ap (λ w. map family_name fs ++ w ∷ []) is
    ∙ names_pushed fs family

pub all_named : (words : Words) (at : ℕ) (fs : List Family) → length words ≤ at → AreNamedBy words at fs
    → drop 1 words ≡ map family_name fs
all_named words at fs end so_far = sym (ap (drop 1) (take_all at words end)) ∙ so_far

-- ---- a word that names none

nowhere : AreFound → (ws : Words) (j : ℕ) → j < length ws → family_named (get_or ws j []) ≡ None
    → (fs : List Family) → ws ≡ map family_name fs → ⊥
nowhere found [] j lt none fs e = absurd (omega (arith, lt))
nowhere found (w ∷ ws) j lt none [] e = absurd (let long = ap length e in omega (arith, long))
nowhere found (w ∷ ws) zero lt none (f ∷ fs) e =
    let is : w ≡ family_name f = cc in
    let both : None ≡ Some f = sym none ∙ ap family_named is ∙ found f in
    absurd (let differ = both in cc)
nowhere found (w ∷ ws) (suc j) lt none (f ∷ fs) e =
    let rest : ws ≡ map family_name fs = cc in
    nowhere found ws j (omega (arith, lt)) none fs rest

pub not_named : AreFound → (words : Words) (at : ℕ) → 1 ≤ at → at < length words → family_named (get_or words at []) ≡ None
    → (fs : List Family) → drop 1 words ≡ map family_name fs → ⊥
not_named found [] at some lt none fs e = absurd (omega (arith, lt))
not_named found (w ∷ ws) zero some lt none fs e = absurd (omega (arith, some))
not_named found (w ∷ ws) (suc j) some lt none fs e = nowhere found ws j (omega (arith, lt)) none fs e
