-- How far a graph has come with some lines: which lines can stand next, and what the whole text then is.
use Rattle.std.proofs.Common.{◌≡◌, ℕ, ◌≤◌, List, [], ◌∷◌, ◌++◌, refl, ap, subst, arith, codes, decimal}
use Rattle.std.specs.List.{cons_option}
use Rattle.std.proofs.lemmas.Fmt.{decimal_injective}
use Rattle.text_core.specs.LineTexts.{Words}
use Rattle.graph_meaning.specs.declared.graphs.InputClass.{InputClass}
use Rattle.graph_meaning.specs.declared.graphs.Guard.{Guard}
use Rattle.graph_meaning.specs.declared.graphs.SetClass.{SetClass}
use Rattle.launch_graph.specs.GraphLines.{rows_words, in_words, pool_words, guard_words, set_words}
use Rattle.launch_graph.specs.GraphTexts.{IsNoTarget}
use Rattle.launch_graph.specs.GraphStages.{Stage, start, rows, sets, over, Step, header, row, entry, input, pool, guard, first_set, set, leave_pool, leave, further, ReachesStage, stay, go}
use Rattle.launch_graph.proofs.SetLines.{same_pin}

-- ---- one stage

no_pool : (i : InputClass) (ns : List ℕ) (words : Words) → words ≡ in_words i → words ≡ pool_words ns → ⊥
no_pool i ns words e f = (let h : codes "in" ≡ codes "pool" = cc in cc)

no_guard_set : (o : Guard) (s : SetClass) (words : Words) → words ≡ guard_words o → words ≡ set_words s → ⊥
no_guard_set o s words e f = (let h : codes "guard" ≡ codes "set" = cc in cc)

no_target_guard : (o : Guard) (words : Words) → words ≡ guard_words o → IsNoTarget words → ⊥
no_target_guard o words e h = (subst IsNoTarget e h).0 refl

no_target_set : (s : SetClass) (words : Words) → words ≡ set_words s → IsNoTarget words → ⊥
no_target_set s words e h = (subst IsNoTarget e h).1 refl

same_count : (a b : ℕ) (words : Words) → a ≤ 1000000 → b ≤ 1000000 → words ≡ rows_words a → words ≡ rows_words b → a ≡ b
same_count a b words la lb e f = decimal_injective a b (omega arith) (omega arith) (let h : decimal a ≡ decimal b = cc in h)

pub one_step : {version : ℕ} (s t u : Stage) (words : Words) → Step version s words t → Step version s words u → t ≡ u
one_step s t u words (header a la e) (header b lb f) = ap rows (same_count a b words la lb e f)
one_step s t u words (row r h) (row q j) = refl
one_step s t u words (entry a la e) (entry b lb f) = refl
one_step s t u words (input i h e) (input j k f) = refl
one_step s t u words (input i h e) (pool ns k f) = absurd (no_pool i ns words e f)
one_step s t u words (pool ns k f) (input i h e) = absurd (no_pool i ns words e f)
one_step s t u words (pool ns k f) (pool ms h e) = refl
one_step s t u words (guard o h e) (guard p k f) = refl
one_step s t u words (guard o h e) (first_set q k f) = absurd (no_guard_set o q words e f)
one_step s t u words (guard o h e) (leave_pool k) = absurd (no_target_guard o words e k)
one_step s t u words (first_set o h e) (guard p k f) = absurd (no_guard_set p o words f e)
one_step {version} s t u words (first_set o h e) (first_set q k f) = ap (λ x. sets (cons_option x [])) (same_pin version o q words h k e f)
one_step s t u words (first_set o h e) (leave_pool k) = absurd (no_target_set o words e k)
one_step s t u words (leave_pool k) (guard o h e) = absurd (no_target_guard o words e k)
one_step s t u words (leave_pool k) (first_set o h e) = absurd (no_target_set o words e k)
one_step s t u words (leave_pool k) (leave_pool j) = refl
one_step {version} s t u words (set {pins = ps} o h n e) (set p k m f) = ap (λ x. sets (ps ++ cons_option x [])) (same_pin version o p words h k e f)
one_step s t u words (set o h n e) (leave k) = absurd (no_target_set o words e k)
one_step s t u words (leave k) (set o h n e) = absurd (no_target_set o words e k)
one_step s t u words (leave k) (leave j) = refl
one_step s t u words further further = refl

pub one_stage : {version : ℕ} (lines : List Words) (s t u : Stage) → ReachesStage version s lines t → ReachesStage version s lines u → t ≡ u
one_stage [] s t u stay stay = refl
one_stage {version} (words ∷ lines) s t u (go {t = a} h j) (go {t = b} k l) =
    one_stage lines b t u (subst (λ x. ReachesStage version x lines t) (one_step s a b words h k) j) l

pub split : {version : ℕ} (front behind : List Words) (s u : Stage) → ReachesStage version s (front ++ behind) u
    → (t : Stage) × ReachesStage version s front t × ReachesStage version t behind u
split [] behind s u h = (s, stay, h)
split (words ∷ front) behind s u (go {t = a} h j) =
    let rest = split front behind a u j in
    (rest.0, go h rest.1, rest.2)

pub join : {version : ℕ} (front behind : List Words) (s t u : Stage) → ReachesStage version s front t → ReachesStage version t behind u → ReachesStage version s (front ++ behind) u
join [] behind s t u stay k = k
join (words ∷ front) behind s t u (go {t = a} h j) k = go h (join front behind a t u j k)

pub stays_over : {version : ℕ} (lines : List Words) (u : Stage) → ReachesStage version over lines u → u ≡ over
stays_over [] u stay = refl
stays_over (words ∷ lines) u (go further j) = stays_over lines u j

-- no line leads back to the start
never_start : {version : ℕ} (s : Stage) (words : Words) → Step version s words start → ⊥
never_start s words h = elim h [ ]

pub nothing_before : {version : ℕ} (lines : List Words) (s : Stage) → ReachesStage version s lines start → (lines ≡ []) × (s ≡ start)
nothing_before [] s stay = (refl, refl)
nothing_before {version} (words ∷ lines) s (go {t = a} h j) =
    let rest = nothing_before lines a j in
    absurd (never_start s words (subst (λ x. Step version s words x) rest.1 h))
