-- Counts of cycles, one after another: what each says, their lines, and the status.
use Rattle.std.proofs.Common.{◌≡◌, ℕ, zero, suc, ◌+◌, ◌<◌, ◌≤◌, List, [], ◌∷◌, ◌++◌, length, map, take, get_or, fold, refl, sym, ap, subst, ◌∙◌, arith}
use Rattle.std.specs.Prelude.{All}
use Rattle.std.specs.List.{AllZip}
use Rattle.std.proofs.lemmas.Grind.{flat_map-append}
use Rattle.std.proofs.lemmas.List.{append-nil, map-append, take_all, take_more}
use Rattle.std.proofs.lemmas.List.Concat.{flat_map-cons}
use Rattle.std.proofs.lemmas.List.Elements.{All-head, All-tail}
use Rattle.std.proofs.lemmas.Slice.Zip.{AllZip-long}
use Rattle.machine_table.specs.declared.tables.Table.{Table}
use Rattle.code_lift.specs.LiftGrammar.{ReadsLifts}
use Rattle.code_lift.specs.Views.{LiftTree, lift_view, lifts_view}
use Rattle.code_lift.specs.WellFormed.{IsLift}
use Rattle.code_lift.specs.declared.lifts.Lift.{Lift}
use Rattle.code_lift.specs.declared.lifts.Lifts.{Lifts}
use Rattle.reports.specs.Statuses.{greater}
use Rattle.reports.specs.declared.statuses.Status.{Status}
use Rattle.reports.specs.declared.statuses.Status.TheVariants.{Done}
use Rattle.text_core.specs.LineTexts.{line_text, lines_text}
use Rattle.code_improve.specs.CycleCounts.{CountsCycles, IsCountOf, count_lines, count_status, count_words, greatest_count_status}
use Rattle.code_improve.specs.declared.counting.CycleCount.{CycleCount}

-- ---- the status

fold_append : {A B : Type 0} (f : A → B → A) (a : A) (xs : List B) (x : B) → fold f a (xs ++ x ∷ []) ≡ f (fold f a xs) x
fold_append f a [] x = refl
fold_append f a (y ∷ ys) x = fold_append f (f a y) ys x

-- ---- the lines

count_after : (ls : List LiftTree) (cs : List CycleCount) (l : LiftTree) (c : CycleCount) → length ls ≡ length cs
    → count_lines (ls ++ l ∷ []) (cs ++ c ∷ []) ≡ count_lines ls cs ++ count_words l.name c ∷ []
count_after [] [] l c same = refl
count_after [] (d ∷ cs) l c same = absurd (omega (arith, same))
count_after (m ∷ ls) [] l c same = absurd (omega (arith, same))
count_after (m ∷ ls) (d ∷ cs) l c same = ap (λ ws. count_words m.name d ∷ ws) (count_after ls cs l c (omega (arith, same)))

-- ---- what each says

pub lift_at : (lifts : List Lift) (i : ℕ) (l : Lift) → All IsLift (map lift_view lifts) → i < length lifts → l ≡ get_or lifts i l
    → IsLift (lift_view l)
lift_at [] i l each lt is = absurd (omega (arith, lt))
lift_at (x ∷ xs) zero l each lt is =
    subst (λ (y : Lift). IsLift (lift_view y)) (sym is) (All-head IsLift (lift_view x) (map lift_view xs) each)
lift_at (x ∷ xs) (suc i) l each lt is =
    lift_at xs i l (All-tail IsLift (lift_view x) (map lift_view xs) each) (let l = lt in omega arith) is

one_more : (P : LiftTree → CycleCount → Type 0) (ls : List LiftTree) (cs : List CycleCount) (l : LiftTree) (c : CycleCount)
    → AllZip P ls cs → P l c → AllZip P (ls ++ l ∷ []) (cs ++ c ∷ [])
one_more P [] [] l c z p = (p, tt)
one_more P [] (d ∷ cs) l c z p = absurd z
one_more P (m ∷ ls) [] l c z p = absurd z
one_more P (m ∷ ls) (d ∷ cs) l c z p = (z.0, one_more P ls cs l c z.1 p)

-- the first lifts have true counts, whose lines and whose greatest status these are
pub record AreCountedTo (table : Table) (cycles conflicts : ℕ) (lifts : List Lift) (i : ℕ) (bytes : List ℕ) (ending : Status)
    : Type 0 where
  pub counts : List CycleCount
  pub each : AllZip (IsCountOf table cycles conflicts) (map lift_view (take i lifts)) counts
  pub bytes_are : bytes ≡ lines_text (count_lines (map lift_view (take i lifts)) counts)
  pub status_is : ending ≡ greatest_count_status counts

pub counted_none : (table : Table) (cycles conflicts : ℕ) (lifts : List Lift) (bytes : List ℕ) → bytes ≡ []
    → AreCountedTo table cycles conflicts lifts 0 bytes Done
counted_none table cycles conflicts lifts bytes is = record { counts = []; each = tt; bytes_are = is; status_is = refl }

pub counted_more : (table : Table) (cycles conflicts : ℕ) (lifts : List Lift) (i : ℕ) (l : Lift) (c : CycleCount)
    (old new : List ℕ) (before after : Status) → i < length lifts → l ≡ get_or lifts i l
    → AreCountedTo table cycles conflicts lifts i old before → IsCountOf table cycles conflicts (lift_view l) c
    → new ≡ old ++ line_text (count_words l.name c) → after ≡ greater before (count_status c)
    → AreCountedTo table cycles conflicts lifts (i + 1) new after
counted_more table cycles conflicts lifts i l c old new before after lt is so_far one printed greatest =
    let P = IsCountOf table cycles conflicts in
    let front = map lift_view (take i lifts) in
    let counts = so_far.counts in
    let words = count_words l.name c in
    let views : map lift_view (take (i + 1) lifts) ≡ front ++ lift_view l ∷ [] =
    ap (map lift_view) (take_more lifts i l lt) ∙ map-append lift_view (take i lifts) (get_or lifts i l ∷ [])
    ∙ ap (λ (x : Lift). front ++ lift_view x ∷ []) (sym is) in
    let same : length front ≡ length counts = sym (AllZip-long P front counts so_far.each) in
    record {
      counts = counts ++ c ∷ [];
      each = subst (λ (ls : List LiftTree). AllZip P ls (counts ++ c ∷ [])) (sym views)
          (one_more P front counts (lift_view l) c so_far.each one);
      bytes_are = printed ∙ ap (λ (b : List ℕ). b ++ line_text words) so_far.bytes_are
          ∙ ap (λ (b : List ℕ). lines_text (count_lines front counts) ++ b)
          (sym (flat_map-cons line_text words [] ∙ append-nil (line_text words)))
          ∙ sym (flat_map-append line_text (count_lines front counts) (words ∷ []))
          ∙ ap lines_text (sym (count_after front counts (lift_view l) c same))
          ∙ ap (λ (ls : List LiftTree). lines_text (count_lines ls (counts ++ c ∷ []))) (sym views);
      status_is = greatest ∙ ap (λ s. greater s (count_status c)) so_far.status_is
          ∙ sym (fold_append (λ s c. greater s (count_status c)) Done counts c);
    }

pub all_counted : (text : List ℕ) (lifts : Lifts) (cycles conflicts i : ℕ) (bytes : List ℕ) (ending : Status)
    → ReadsLifts text (lifts_view lifts) → length lifts.lifts ≤ i
    → AreCountedTo lifts.table cycles conflicts lifts.lifts i bytes ending → CountsCycles cycles conflicts text bytes ending
all_counted text lifts cycles conflicts i bytes ending reads past all =
    let whole = take_all i lifts.lifts past in
    record {
      lifts = lifts_view lifts;
      reads = reads;
      counts = all.counts;
      each = subst (λ (ls : List Lift). AllZip (IsCountOf lifts.table cycles conflicts) (map lift_view ls) all.counts) whole all.each;
      bytes_are = all.bytes_are ∙ ap (λ (ls : List Lift). lines_text (count_lines (map lift_view ls) all.counts)) whole;
      status_is = all.status_is;
    }
