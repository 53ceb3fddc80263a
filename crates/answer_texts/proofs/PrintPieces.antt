-- Lines that are printed one after another.
use Rattle.std.proofs.Common.{◌≡◌, ℕ, ◌+◌, ◌<◌, false, nat_eq, List, [], ◌∷◌, ◌++◌, length, take, get_or, map, refl, sym, ap, ◌∙◌, append_assoc, append-nil, codes, decimal, Bool, Option, Some}
use Rattle.std.specs.Prelude.{option_copied}
use Rattle.std.specs.List.{flat_map}
use Rattle.std.proofs.lemmas.Bool.{false≢true}
use Rattle.std.proofs.lemmas.List.{take_more}
use Rattle.std.proofs.lemmas.List.Concat.{flat_map-cons}
use Rattle.std.proofs.lemmas.Grind.{flat_map-append}
use Rattle.alpha_encode.specs.Decoded.{decoded}
use Rattle.alpha_encode.specs.Texts.{text_of}
use Rattle.alpha_encode.specs.declared.instructions.Instr.{Instr}
use Rattle.launch_graph.specs.GraphLines.{graph_lines, pin_words, said}
use Rattle.launch_graph.specs.LineParts.{words_behind}
use Rattle.machine_table.specs.InstrOrder.{instr_name}
use Rattle.machine_table.specs.declared.tables.Slot.{Slot}
use Rattle.machine_table.specs.declared.tables.Table.{Table}
use Rattle.machine_table.specs.declared.tables.Use.{Use}
use Rattle.text_core.specs.LineTexts.{Words, line_text, lines_text}
use Rattle.register_assign.specs.declared.listings.Where.{Where}
use Rattle.graph_meaning.specs.declared.stops.Stop.{Stop}
use Rattle.graph_meaning.specs.declared.graphs.LaunchGraph.{LaunchGraph}
use Rattle.schedule_meaning.specs.Launches.{pin_of}
use Rattle.schedule_meaning.specs.declared.schedules.Launch.{Launch}
use Rattle.schedule_meaning.specs.declared.schedules.Schedule.{Schedule}
use Rattle.axiom_library.specs.Names.{family_name}
use Rattle.axiom_library.specs.declared.families.Family.{Family}
use Rattle.axiom_library.specs.declared.libraries.Library.{Library}
use Rattle.answer_texts.specs.declared.answers.Claim.TheVariants.{Scheduled}
use Rattle.answer_texts.specs.declared.answers.Claimed.{Claimed}
use Rattle.answer_texts.specs.declared.lent.ClaimedRef.{ClaimedRef}
use Rattle.answer_texts.specs.Lent.{lent_claim, lent_claimed}
use Rattle.answer_texts.specs.AnswerLines.{name_among, slot_words, cross_words, inst_words, own_words, own_lines, hex_text, text_words, word_words, rounds_words, goal_words, end_words, graph_part, claim_part, refute_part, lemmas_part, refuted_cycles, goal_lines, version_words, encoding_words, head_lines, families_lines, families_words, library_lines, table_lines, scheduled_words, slot_name, launch_words, launches_part, where_words}
use Rattle.answer_texts.proofs.InstrTexts.{instr_text}

-- ---- items in a row

-- the text of the next item, after those of the items so far
each_more : {X : Type 0} (f : X → List ℕ) (xs : List X) (i : ℕ) (d : X) (start text new : List ℕ)
    → i < length xs → text ≡ start ++ flat_map f (take i xs) → new ≡ text ++ f (get_or xs i d)
    → new ≡ start ++ flat_map f (take (i + 1) xs)
each_more f xs i d start text new lt so_far more =
    more ∙ ap (λ l. l ++ f (get_or xs i d)) so_far ∙ append_assoc start (flat_map f (take i xs)) (f (get_or xs i d))
    ∙ ap (λ l. start ++ l)
    (sym (ap (flat_map f) (take_more xs i d lt) ∙ flat_map-append f (take i xs) (get_or xs i d ∷ [])
    ∙ ap (λ l. flat_map f (take i xs) ++ l) (append-nil (f (get_or xs i d)))))

lines_map : {X : Type 0} (f : X → Words) (xs : List X) → lines_text (map f xs) ≡ flat_map (λ x. line_text (f x)) xs
lines_map f [] = refl
lines_map f (x ∷ xs) =
    flat_map-cons line_text (f x) (map f xs) ∙ ap (λ t. line_text (f x) ++ t) (lines_map f xs)
    ∙ sym (flat_map-cons (λ y. line_text (f y)) x xs)

-- the line of the next item, after those of the items so far
pub line_more : {X : Type 0} (f : X → Words) (xs : List X) (i : ℕ) (d : X) (start text new : List ℕ)
    → i < length xs → text ≡ start ++ lines_text (map f (take i xs)) → new ≡ text ++ line_text (f (get_or xs i d))
    → new ≡ start ++ lines_text (map f (take (i + 1) xs))
line_more f xs i d start text new lt so_far more =
    each_more (λ x. line_text (f x)) xs i d start text new lt
    (so_far ∙ ap (λ t. start ++ t) (lines_map f (take i xs))) more
    ∙ ap (λ t. start ++ t) (sym (lines_map f (take (i + 1) xs)))

words_map : {X : Type 0} (f : X → List ℕ) (xs : List X) → words_behind (map f xs) ≡ flat_map (λ x. codes " " ++ f x) xs
words_map f [] = refl
words_map f (x ∷ xs) =
    flat_map-cons (λ (w : List ℕ). codes " " ++ w) (f x) (map f xs) ∙ ap (λ t. (codes " " ++ f x) ++ t) (words_map f xs)
    ∙ sym (flat_map-cons (λ y. codes " " ++ f y) x xs)

-- the word of the next item, after those of the items so far
pub word_more : {X : Type 0} (f : X → List ℕ) (xs : List X) (i : ℕ) (d : X) (start text new : List ℕ)
    → i < length xs → text ≡ start ++ words_behind (map f (take i xs)) → new ≡ text ++ (codes " " ++ f (get_or xs i d))
    → new ≡ start ++ words_behind (map f (take (i + 1) xs))
word_more f xs i d start text new lt so_far more =
    each_more (λ x. codes " " ++ f x) xs i d start text new lt
    (so_far ∙ ap (λ t. start ++ t) (words_map f (take i xs))) more
    ∙ ap (λ t. start ++ t) (sym (words_map f (take (i + 1) xs)))

-- ---- pieces, one after another

two_pieces : (start a b t1 t2 : List ℕ) → t1 ≡ start ++ a → t2 ≡ t1 ++ b → t2 ≡ start ++ (a ++ b)
two_pieces start a b t1 t2 e1 e2 = e2 ∙ ap (λ t. t ++ b) e1 ∙ append_assoc start a b

pub then_lines : (a b : List Words) (start t1 t2 : List ℕ) → t1 ≡ start ++ lines_text a → t2 ≡ t1 ++ lines_text b
    → t2 ≡ start ++ lines_text (a ++ b)
then_lines a b start t1 t2 e1 e2 =
    two_pieces start (lines_text a) (lines_text b) t1 t2 e1 e2
    ∙ ap (λ t. start ++ t) (sym (flat_map-append line_text a b))

pub line_first : (w : Words) (b : List Words) (start t1 t2 : List ℕ) → t1 ≡ start ++ line_text w
    → t2 ≡ t1 ++ lines_text b → t2 ≡ start ++ lines_text (w ∷ b)
line_first w b start t1 t2 e1 e2 =
    two_pieces start (line_text w) (lines_text b) t1 t2 e1 e2 ∙ ap (λ t. start ++ t) (sym (flat_map-cons line_text w b))

-- a line is its first word, and each other one behind a space
line_begins : (w : List ℕ) (ws : Words) → line_text (w ∷ ws) ≡ w ++ (words_behind ws ++ codes "\n")
line_begins w [] = refl
line_begins w (v ∷ vs) =
    ap (λ t. w ++ (codes " " ++ t)) (line_begins v vs)
    ∙ ap (λ t. w ++ t)
    (sym (ap (λ t. t ++ codes "\n") (flat_map-cons (λ (u : List ℕ). codes " " ++ u) v vs)
    ∙ append_assoc (codes " " ++ v) (words_behind vs) (codes "\n")
    ∙ append_assoc (codes " ") v (words_behind vs ++ codes "\n")))

-- ---- the words of an instruction

pub instr_behind : (i : Instr) (start t1 : List ℕ) → t1 ≡ start ++ (codes " " ++ text_of i)
    → t1 ≡ start ++ words_behind (text_words (Some i))
instr_behind i start t1 e = e ∙ ap (λ t. start ++ t) (sym (instr_text i))

-- a first word, words behind it, and the end of the line
line_of : (w : List ℕ) (ws : Words) (start t1 t2 t3 : List ℕ) → t1 ≡ start ++ w → t2 ≡ t1 ++ words_behind ws
    → t3 ≡ t2 ++ codes "\n" → t3 ≡ start ++ line_text (w ∷ ws)
line_of w ws start t1 t2 t3 e1 e2 e3 =
    two_pieces start w (words_behind ws ++ codes "\n") t1 t3 e1
    (two_pieces t1 (words_behind ws) (codes "\n") t2 t3 e2 e3)
    ∙ ap (λ t. start ++ t) (sym (line_begins w ws))

pub word_text : (word : ℕ) (start t1 t2 t3 t4 : List ℕ) → t1 ≡ start ++ codes "word " → t2 ≡ t1 ++ hex_text word
    → t3 ≡ t2 ++ words_behind (text_words (decoded word)) → t4 ≡ t3 ++ codes "\n"
    → t4 ≡ start ++ line_text (word_words word)
word_text word start t1 t2 t3 t4 e1 e2 e3 e4 =
    two_pieces start (codes "word ") (line_text (hex_text word ∷ text_words (decoded word))) t1 t4 e1
    (line_of (hex_text word) (text_words (decoded word)) t1 t2 t3 t4 e2 e3 e4)

pub inst_text : (slots : List Slot) (u : Use) (start t1 t2 t3 t4 t5 : List ℕ) → t1 ≡ start ++ codes "inst"
    → t2 ≡ t1 ++ (codes " " ++ instr_name u.instr) → t3 ≡ t2 ++ (codes " " ++ decimal u.latency)
    → t4 ≡ t3 ++ words_behind (map (name_among slots) u.slots) → t5 ≡ t4 ++ codes "\n"
    → t5 ≡ start ++ line_text (inst_words slots u)
inst_text slots u start t1 t2 t3 t4 t5 e1 e2 e3 e4 e5 =
    let names : Words = map (name_among slots) u.slots in
    let name : List ℕ = instr_name u.instr in
    let one : (a : List ℕ) (ws : Words) → words_behind (a ∷ ws) ≡ (codes " " ++ a) ++ words_behind ws =
    λ a ws. flat_map-cons (λ (v : List ℕ). codes " " ++ v) a ws in
    let s3 : t4 ≡ t2 ++ words_behind (decimal u.latency ∷ names) =
    two_pieces t2 (codes " " ++ decimal u.latency) (words_behind names) t3 t4 e3 e4
    ∙ ap (λ t. t2 ++ t) (sym (one (decimal u.latency) names)) in
    let s2 : t4 ≡ t1 ++ words_behind (name ∷ decimal u.latency ∷ names) =
    two_pieces t1 (codes " " ++ name) (words_behind (decimal u.latency ∷ names)) t2 t4 e2 s3
    ∙ ap (λ t. t1 ++ t) (sym (one name (decimal u.latency ∷ names))) in
    line_of (codes "inst") (name ∷ decimal u.latency ∷ names) start t1 t4 t5 e1 s2 e5

pub launch_text : (table : Table) (g : LaunchGraph) (l : Launch) (start t1 t2 t3 t4 t5 t6 : List ℕ)
    → t1 ≡ start ++ codes "launch" → t2 ≡ t1 ++ (codes " " ++ decimal l.cycle)
    → t3 ≡ t2 ++ (codes " " ++ slot_name table l.slot) → t4 ≡ t3 ++ (codes " " ++ decimal l.row)
    → t5 ≡ t4 ++ words_behind (pin_words (pin_of g l.to)) → t6 ≡ t5 ++ codes "\n"
    → t6 ≡ start ++ line_text (launch_words table g l)
launch_text table g l start t1 t2 t3 t4 t5 t6 e1 e2 e3 e4 e5 e6 =
    let pin : Words = pin_words (pin_of g l.to) in
    let name : List ℕ = slot_name table l.slot in
    let one : (a : List ℕ) (ws : Words) → words_behind (a ∷ ws) ≡ (codes " " ++ a) ++ words_behind ws =
    λ a ws. flat_map-cons (λ (v : List ℕ). codes " " ++ v) a ws in
    let s4 : t5 ≡ t3 ++ words_behind (decimal l.row ∷ pin) =
    two_pieces t3 (codes " " ++ decimal l.row) (words_behind pin) t4 t5 e4 e5
    ∙ ap (λ t. t3 ++ t) (sym (one (decimal l.row) pin)) in
    let s3 : t5 ≡ t2 ++ words_behind (name ∷ decimal l.row ∷ pin) =
    two_pieces t2 (codes " " ++ name) (words_behind (decimal l.row ∷ pin)) t3 t5 e3 s4
    ∙ ap (λ t. t2 ++ t) (sym (one name (decimal l.row ∷ pin))) in
    let s2 : t5 ≡ t1 ++ words_behind (decimal l.cycle ∷ name ∷ decimal l.row ∷ pin) =
    two_pieces t1 (codes " " ++ decimal l.cycle) (words_behind (name ∷ decimal l.row ∷ pin)) t2 t5 e2 s3
    ∙ ap (λ t. t1 ++ t) (sym (one (decimal l.cycle) (name ∷ decimal l.row ∷ pin))) in
    line_of (codes "launch") (decimal l.cycle ∷ name ∷ decimal l.row ∷ pin) start t1 t5 t6 e1 s2 e6

pub own_text : (table : Table) (start t1 t2 t3 t4 : List ℕ)
    → t1 ≡ start ++ line_text own_words → t2 ≡ t1 ++ lines_text (map slot_words table.slots)
    → t3 ≡ t2 ++ line_text (cross_words table.cross) → t4 ≡ t3 ++ lines_text (map (inst_words table.slots) table.uses)
    → t4 ≡ start ++ lines_text (own_lines table)
own_text table start t1 t2 t3 t4 e1 e2 e3 e4 =
    let uses : List Words = map (inst_words table.slots) table.uses in
    line_first own_words (map slot_words table.slots ++ (cross_words table.cross ∷ uses))
    start t1 t4 e1
    (then_lines (map slot_words table.slots) (cross_words table.cross ∷ uses) t1 t2 t4 e2
    (line_first (cross_words table.cross) uses t2 t3 t4 e3 e4))

-- ---- goals

-- a goal is its name, its graph, its claim, the lines for fewer cycles, the lemmas, and its end
goal_pieces : (table : Table) (c : Claimed) (start t1 t2 t3 t4 t5 t6 : List ℕ)
    → t1 ≡ start ++ line_text (goal_words c.name)
    → t2 ≡ t1 ++ lines_text (graph_part c.rounds c.stop c.graph)
    → t3 ≡ t2 ++ lines_text (claim_part table c.graph c.claim)
    → t4 ≡ t3 ++ lines_text (refute_part (refuted_cycles c.claim) c.refute)
    → t5 ≡ t4 ++ lines_text (lemmas_part c.claim) → t6 ≡ t5 ++ codes "end\n"
    → t6 ≡ start ++ lines_text (goal_lines table c)
goal_pieces table c start t1 t2 t3 t4 t5 t6 e1 e2 e3 e4 e5 e6 =
    let last : List Words = lemmas_part c.claim ++ (end_words ∷ []) in
    let refuted : List Words = refute_part (refuted_cycles c.claim) c.refute ++ last in
    let claim : List Words = claim_part table c.graph c.claim ++ refuted in
    line_first (goal_words c.name) (graph_part c.rounds c.stop c.graph ++ claim) start t1 t6 e1
    (then_lines (graph_part c.rounds c.stop c.graph) claim t1 t2 t6 e2
    (then_lines (claim_part table c.graph c.claim) refuted t2 t3 t6 e3
    (then_lines (refute_part (refuted_cycles c.claim) c.refute) last t3 t4 t6 e4
    (then_lines (lemmas_part c.claim) (end_words ∷ []) t4 t5 t6 e5 e6))))

-- the same of a goal that is lent
pub goal_text : (table : Table) (c : ClaimedRef) (start t1 t2 t3 t4 t5 t6 : List ℕ)
    → t1 ≡ start ++ line_text (goal_words c.name.now)
    → t2 ≡ t1 ++ lines_text (graph_part c.rounds c.stop (option_copied c.graph))
    → t3 ≡ t2 ++ lines_text (claim_part table (option_copied c.graph) (lent_claim c.claim))
    → t4 ≡ t3 ++ lines_text (refute_part (refuted_cycles (lent_claim c.claim)) (option_copied c.refute))
    → t5 ≡ t4 ++ lines_text (lemmas_part (lent_claim c.claim)) → t6 ≡ t5 ++ codes "end\n"
    → t6 ≡ start ++ lines_text (goal_lines table (lent_claimed c))
goal_text table c start t1 t2 t3 t4 t5 t6 e1 e2 e3 e4 e5 e6 =
    goal_pieces table (lent_claimed c) start t1 t2 t3 t4 t5 t6 e1 e2 e3 e4 e5 e6

-- the line of some families
pub families_text : (fs : List Family) (start t1 t2 t3 : List ℕ) → nat_eq (length fs) 0 ≡ false → t1 ≡ start ++ codes "library"
    → t2 ≡ t1 ++ words_behind (map family_name fs) → t3 ≡ t2 ++ codes "\n" → t3 ≡ start ++ lines_text (families_lines fs)
families_text [] start t1 t2 t3 some e1 e2 e3 = absurd (false≢true (sym some))
families_text (f ∷ fs) start t1 t2 t3 some e1 e2 e3 =
    line_first (families_words (f ∷ fs)) [] start t3 t3
    (line_of (codes "library") (map family_name (f ∷ fs)) start t1 t2 t3 e1 e2 e3) (sym (append-nil t3))

pub head_text : (version encoding : ℕ) (table : Table) (builtin : Bool) (library : Library) (start t1 t2 t3 t4 : List ℕ)
    → t1 ≡ start ++ line_text (version_words version) → t2 ≡ t1 ++ line_text (encoding_words encoding)
    → t3 ≡ t2 ++ lines_text (table_lines table builtin) → t4 ≡ t3 ++ lines_text (library_lines library)
    → t4 ≡ start ++ lines_text (head_lines version encoding table builtin library)
head_text version encoding table builtin library start t1 t2 t3 t4 e1 e2 e3 e4 =
    let tables = table_lines table builtin in
    line_first (version_words version) (encoding_words encoding ∷ (tables ++ library_lines library)) start t1 t4 e1
    (line_first (encoding_words encoding) (tables ++ library_lines library) t1 t2 t4 e2
    (then_lines tables (library_lines library) t2 t3 t4 e3 e4))

-- the rounds, and the graph behind them
pub graph_text : (rounds : ℕ) (stop : Stop) (g : LaunchGraph) (start t1 t2 : List ℕ)
    → t1 ≡ start ++ line_text (rounds_words rounds stop) → t2 ≡ t1 ++ lines_text (graph_lines (said g))
    → t2 ≡ start ++ lines_text (graph_part rounds stop (Some g))
graph_text rounds stop g start t1 t2 e1 e2 = line_first (rounds_words rounds stop) (graph_lines (said g)) start t1 t2 e1 e2

-- a schedule is its line, its launches, its words and its places
pub schedule_text : (table : Table) (graph : Option LaunchGraph) (k : ℕ) (schedule : Schedule) (words : List ℕ) (places : List Where)
    (start t1 t2 t3 t4 : List ℕ)
    → t1 ≡ start ++ line_text (scheduled_words k)
    → t2 ≡ t1 ++ lines_text (launches_part table graph schedule.launches)
    → t3 ≡ t2 ++ lines_text (map word_words words) → t4 ≡ t3 ++ lines_text (map where_words places)
    → t4 ≡ start ++ lines_text (claim_part table graph (Scheduled k schedule words places))
schedule_text table graph k schedule words places start t1 t2 t3 t4 e1 e2 e3 e4 =
    let last : List Words = map word_words words ++ map where_words places in
    line_first (scheduled_words k) (launches_part table graph schedule.launches ++ last) start t1 t4 e1
    (then_lines (launches_part table graph schedule.launches) last t1 t2 t4 e2
    (then_lines (map word_words words) (map where_words places) t2 t3 t4 e3 e4))

-- the text of the next goal, after those of the goals so far
pub goals_more : (table : Table) (goals : List Claimed) (i : ℕ) (d : Claimed) (start text new : List ℕ)
    → i < length goals → text ≡ start ++ lines_text (flat_map (goal_lines table) (take i goals))
    → new ≡ text ++ lines_text (goal_lines table (get_or goals i d))
    → new ≡ start ++ lines_text (flat_map (goal_lines table) (take (i + 1) goals))
goals_more table goals i d start text new lt so_far more =
    then_lines (flat_map (goal_lines table) (take i goals)) (goal_lines table (get_or goals i d)) start text new so_far more
    ∙ ap (λ l. start ++ lines_text l)
    (ap (λ l. flat_map (goal_lines table) (take i goals) ++ l) (sym (append-nil (goal_lines table (get_or goals i d))))
    ∙ sym (flat_map-append (goal_lines table) (take i goals) (get_or goals i d ∷ []))
    ∙ sym (ap (flat_map (goal_lines table)) (take_more goals i d lt)))
