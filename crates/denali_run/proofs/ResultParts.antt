-- The parts of results and their lines.
use Rattle.std.proofs.Common.{◌≡◌, ℕ, ◌<◌, ◌≤◌, ◌^◌, List, [], ◌∷◌, ◌++◌, map, ap, ◌∙◌, arith, codes, decimal, Option, Some, None}
use Rattle.std.proofs.lemmas.Fmt.{decimal_injective}
use Rattle.schedule_meaning.specs.Limits.{most_cycles}
use Rattle.cnf_core.specs.declared.line.Lines.{Lines}
use Rattle.launch_graph.specs.GraphTexts.{IsNoTarget}
use Rattle.machine_table.specs.declared.tables.Table.{Table}
use Rattle.register_assign.specs.declared.listings.Item.{Item}
use Rattle.register_assign.specs.declared.listings.Where.{Where}
use Rattle.schedule_meaning.specs.declared.schedules.Launch.{Launch}
use Rattle.text_core.specs.LineTexts.{Words}
use Rattle.answer_texts.specs.AnswerLines.{conflicts_words, launch_words, lemmas_lines, none_words, noworld_words, refute_lines, scheduled_words, size_words, where_words, word_words}
use Rattle.denali_run.proofs.ResultLines.{below_lines}
use Rattle.denali_run.specs.declared.results.Answered.{Answered}
use Rattle.denali_run.specs.declared.results.Answered.TheVariants.{Scheduled, Nowhere, SpentConflicts, SpentSize, NoWorld}
use Rattle.denali_run.specs.declared.results.Found.{Found}
use Rattle.denali_run.specs.declared.results.Large.{Large}
use Rattle.denali_run.specs.declared.results.Matched.{Matched}
use Rattle.denali_run.specs.declared.results.Missing.{Missing}
use Rattle.denali_run.specs.declared.results.Tried.{Tried}
use Rattle.denali_run.proofs.SameLaunches.{BeginsNoLaunch}
use Rattle.denali_run.proofs.SameParts.{byte_same, head_same, rest_same}

-- ---- what stands behind a graph

-- the line that tells the kind of a result
abbrev pub kind_of : Answered → Words
kind_of (Scheduled f) = scheduled_words f.k
kind_of (Nowhere m) = none_words m.k
kind_of (SpentConflicts t) = conflicts_words t.k
kind_of (SpentSize l) = size_words l.k l.vars l.clauses
kind_of (NoWorld class a b) = noworld_words class a b

-- what stands behind that line, and lines behind the result
abbrev pub behind : Table → Answered → List Words → List Words
behind table (Scheduled f) end =
    map (launch_words table f.matched.graph) f.schedule.launches
    ++ (map word_words f.words ++ (map where_words f.listing.wheres ++ (below_lines f.k f.refutation ++ end)))
behind table (Nowhere m) end = refute_lines m.k m.refutation.lines ++ end
behind table (SpentConflicts t) end = below_lines t.k t.refutation ++ (lemmas_lines t.k t.lemmas.lines ++ end)
behind table (SpentSize l) end = below_lines l.k l.refutation ++ end
behind table (NoWorld class a b) end = end

pub no_target : (r : Answered) → IsNoTarget (kind_of r)
no_target (Scheduled f) = (
  λ e. (let h : ◌≡◌ {A = ℕ} 115 103 = byte_same 0 (codes "scheduled") (codes "guard") e in omega (arith, h)),
  λ e. (let h : ◌≡◌ {A = ℕ} 99 101 = byte_same 1 (codes "scheduled") (codes "set") e in omega (arith, h)),
)
no_target (Nowhere m) = (
  λ e. (let h : ◌≡◌ {A = ℕ} 110 103 = byte_same 0 (codes "none") (codes "guard") e in omega (arith, h)),
  λ e. (let h : ◌≡◌ {A = ℕ} 110 115 = byte_same 0 (codes "none") (codes "set") e in omega (arith, h)),
)
no_target (SpentConflicts t) = (
  λ e. (let h : ◌≡◌ {A = ℕ} 115 103 = byte_same 0 (codes "spent") (codes "guard") e in omega (arith, h)),
  λ e. (let h : ◌≡◌ {A = ℕ} 112 101 = byte_same 1 (codes "spent") (codes "set") e in omega (arith, h)),
)
no_target (SpentSize l) = (
  λ e. (let h : ◌≡◌ {A = ℕ} 115 103 = byte_same 0 (codes "spent") (codes "guard") e in omega (arith, h)),
  λ e. (let h : ◌≡◌ {A = ℕ} 112 101 = byte_same 1 (codes "spent") (codes "set") e in omega (arith, h)),
)
no_target (NoWorld class a b) = (
  λ e. (let h : ◌≡◌ {A = ℕ} 110 103 = byte_same 0 (codes "noworld") (codes "guard") e in omega (arith, h)),
  λ e. (let h : ◌≡◌ {A = ℕ} 110 115 = byte_same 0 (codes "noworld") (codes "set") e in omega (arith, h)),
)

-- ---- records

matched_found : Matched → ℕ → List Launch → List Item → List Where → List ℕ → Option Lines → Found
matched_found matched k launches items wheres words refutation = record {
  matched = matched;
  k = k;
  schedule = record { launches = launches };
  listing = record { items = items; wheres = wheres };
  words = words;
  refutation = refutation;
}

pub same_found : (f g : Found) → f.matched ≡ g.matched → f.k ≡ g.k → f.schedule.launches ≡ g.schedule.launches
    → f.listing.items ≡ g.listing.items → f.listing.wheres ≡ g.listing.wheres → f.words ≡ g.words
    → f.refutation ≡ g.refutation → f ≡ g
unfolding matched_found
same_found f g a b c d e h i =
    ap (λ x. matched_found x f.k f.schedule.launches f.listing.items f.listing.wheres f.words f.refutation) a
    ∙ ap (λ x. matched_found g.matched x f.schedule.launches f.listing.items f.listing.wheres f.words f.refutation) b
    ∙ ap (λ x. matched_found g.matched g.k x f.listing.items f.listing.wheres f.words f.refutation) c
    ∙ ap (λ x. matched_found g.matched g.k g.schedule.launches x f.listing.wheres f.words f.refutation) d
    ∙ ap (λ x. matched_found g.matched g.k g.schedule.launches g.listing.items x f.words f.refutation) e
    ∙ ap (λ x. matched_found g.matched g.k g.schedule.launches g.listing.items g.listing.wheres x f.refutation) h
    ∙ ap (λ x. matched_found g.matched g.k g.schedule.launches g.listing.items g.listing.wheres g.words x) i

missing_of : Matched → ℕ → Lines → Missing
missing_of matched k refutation = record { matched = matched; k = k; refutation = refutation }

pub same_missing : (m n : Missing) → m.matched ≡ n.matched → m.k ≡ n.k → m.refutation ≡ n.refutation → m ≡ n
unfolding missing_of
same_missing m n a b c =
    ap (λ x. missing_of x m.k m.refutation) a ∙ ap (λ x. missing_of n.matched x m.refutation) b
    ∙ ap (λ x. missing_of n.matched n.k x) c

tried_of : Matched → ℕ → Option Lines → Lines → Tried
tried_of matched k refutation lemmas = record { matched = matched; k = k; refutation = refutation; lemmas = lemmas }

pub same_tried : (t u : Tried) → t.matched ≡ u.matched → t.k ≡ u.k → t.refutation ≡ u.refutation → t.lemmas ≡ u.lemmas → t ≡ u
unfolding tried_of
same_tried t u a b c d =
    ap (λ x. tried_of x t.k t.refutation t.lemmas) a ∙ ap (λ x. tried_of u.matched x t.refutation t.lemmas) b
    ∙ ap (λ x. tried_of u.matched u.k x t.lemmas) c ∙ ap (λ x. tried_of u.matched u.k u.refutation x) d

large_of : Matched → ℕ → Option Lines → ℕ → ℕ → Large
large_of matched k refutation vars clauses =
    record { matched = matched; k = k; refutation = refutation; vars = vars; clauses = clauses }

pub same_large : (l m : Large) → l.matched ≡ m.matched → l.k ≡ m.k → l.refutation ≡ m.refutation → l.vars ≡ m.vars
    → l.clauses ≡ m.clauses → l ≡ m
unfolding large_of
same_large l m a b c d e =
    ap (λ x. large_of x l.k l.refutation l.vars l.clauses) a ∙ ap (λ x. large_of m.matched x l.refutation l.vars l.clauses) b
    ∙ ap (λ x. large_of m.matched m.k x l.vars l.clauses) c ∙ ap (λ x. large_of m.matched m.k m.refutation x l.clauses) d
    ∙ ap (λ x. large_of m.matched m.k m.refutation m.vars x) e

-- ---- numbers on lines

pub number_same : (a b : ℕ) (ws vs : Words) → a < 2 ^ 64 → b < 2 ^ 64 → decimal a ∷ ws ≡ decimal b ∷ vs → a ≡ b
number_same a b ws vs low less e = decimal_injective a b low less (head_same (decimal a) (decimal b) ws vs e)

pub cycles_same : (word : List ℕ) (k j : ℕ) (ws vs : Words) → k ≤ most_cycles → j ≤ most_cycles
    → word ∷ decimal k ∷ ws ≡ word ∷ decimal j ∷ vs → k ≡ j
cycles_same word k j ws vs low less e =
    number_same k j ws vs (omega (arith, low)) (omega (arith, less))
    (rest_same word word (decimal k ∷ ws) (decimal j ∷ vs) e)

-- ---- words that are no launches

below_no_launch : (k : ℕ) (lines : Option Lines) (end : List Words) → BeginsNoLaunch end
    → BeginsNoLaunch (below_lines k lines ++ end)
below_no_launch k None end apart = apart
below_no_launch k (Some lines) end apart =
    λ e. (let h : ◌≡◌ {A = ℕ} 114 108 = byte_same 0 (codes "refute") (codes "launch") e in omega (arith, h))

wheres_no_launch : (wheres : List Where) (end : List Words) → BeginsNoLaunch end
    → BeginsNoLaunch (map where_words wheres ++ end)
wheres_no_launch [] end apart = apart
wheres_no_launch (w ∷ ws) end apart =
    λ e. (let h : ◌≡◌ {A = ℕ} 119 108 = byte_same 0 (codes "where") (codes "launch") e in omega (arith, h))

words_no_launch : (words : List ℕ) (end : List Words) → BeginsNoLaunch end
    → BeginsNoLaunch (map word_words words ++ end)
words_no_launch [] end apart = apart
words_no_launch (w ∷ ws) end apart =
    λ e. (let h : ◌≡◌ {A = ℕ} 119 108 = byte_same 0 (codes "word") (codes "launch") e in omega (arith, h))

pub no_launch : (f : Found) (end : List Words) → BeginsNoLaunch end
    → BeginsNoLaunch
    (map word_words f.words ++ (map where_words f.listing.wheres ++ (below_lines f.k f.refutation ++ end)))
no_launch f end apart =
    words_no_launch f.words (map where_words f.listing.wheres ++ (below_lines f.k f.refutation ++ end))
    (wheres_no_launch f.listing.wheres (below_lines f.k f.refutation ++ end) (below_no_launch f.k f.refutation end apart))
