-- Lemmas on what reads and writes move.
use Rattle.std.proofs.Common.{◌≡◌, ℕ, ◌+◌, ◌≤◌, List, [], ◌++◌, length, take, drop, sym, ap, ◌∙◌, subst, append_assoc, append-nil, arith, refl, None, Some, take-append-drop, slice_range, length-append}
use Rattle.std.proofs.Math.Seq.{take-append_seam, drop-append_seam}
use Rattle.std.proofs.lemmas.List.Folds.{drop_split}
use Rattle.std.proofs.KnownBytes.{Appends-trans, Appends-nil, Consumes-trans}
use Rattle.std.specs.declared.option.Option.{Option}
use Rattle.std.specs.Io.KnownBytes.{Appends, Consumes, IsAtEnd}
use Rattle.outside_io.specs.Taking.{ReadsWhole, ReadsPast, TakesFront}
use Rattle.std.proofs.lemmas.List.{length-take, take_rest, length-drop, take_all, drop_all}
use Rattle.outside_io.specs.Putting.{AppendsBefore}

pub before_none : (a : Option (List ℕ)) (bytes : List ℕ) → AppendsBefore a a bytes bytes
before_none a bytes = record { front = []; whole = refl; appended = Appends-nil a }

-- one more write
pub before_more : (a b c : Option (List ℕ)) (bytes rest : List ℕ) (n : ℕ) → AppendsBefore a b bytes rest → Appends b c (take n rest) → AppendsBefore a c bytes (slice_range rest n (length rest))
before_more a b c bytes rest n so_far more = subst (AppendsBefore a c bytes) (sym (take_rest rest n)) (record {
  front = so_far.front ++ take n rest;
  whole = so_far.whole ∙ ap (λ l. so_far.front ++ l) (sym (take-append-drop n rest)) ∙ sym (append_assoc so_far.front (take n rest) (drop n rest));
  appended = Appends-trans a b c so_far.front (take n rest) so_far.appended more;
})

-- nothing is left
pub before_all : (a b : Option (List ℕ)) (bytes rest : List ℕ) → AppendsBefore a b bytes rest → rest ≡ [] → Appends a b bytes
before_all a b bytes rest so_far none =
    subst (Appends a b) (sym (so_far.whole ∙ ap (λ l. so_far.front ++ l) none ∙ append-nil so_far.front)) so_far.appended

-- a piece of a list, copied into the front of a buffer
pub reads_front : (xs : List ℕ) (at n : ℕ) (front rest : List ℕ) → front ≡ slice_range xs at (at + n) → length front ≡ n → drop at xs ≡ take n (front ++ rest) ++ drop (at + n) xs
reads_front xs at n front rest same len =
    drop_split xs at (at + n) (omega arith) ∙ ap (λ l. l ++ drop (at + n) xs) (sym same ∙ sym (take-append_seam front rest) ∙ ap (λ k. take k (front ++ rest)) len)

-- what was taken, up to the end of the input, is all that was left
pub reads_whole : (limit : ℕ) (old new : Option (List ℕ)) (bytes : List ℕ) → Consumes old new bytes → IsAtEnd new → length bytes ≤ limit → ReadsWhole limit old new bytes
reads_whole limit None new bytes taken end within = record { read = omega (arith, within); within = within }
reads_whole limit (Some xs) None bytes taken end within = record { read = taken; within = within }
reads_whole limit (Some xs) (Some ys) bytes taken end within =
    let same : xs ≡ bytes = taken ∙ ap (λ l. bytes ++ l) end ∙ append-nil bytes in
    let fits : length xs ≤ limit + 1 = omega (arith, ap length same, within) in
    record {
      read = (sym same ∙ sym (take_all (limit + 1) xs fits), end ∙ sym (drop_all (limit + 1) xs fits));
      within = within;
    }

-- what was taken, one byte more than the limit, is the front of what was left
reads_past : (limit : ℕ) (old new : Option (List ℕ)) (bytes : List ℕ) → Consumes old new bytes → length bytes ≡ limit + 1 → ReadsPast limit old new bytes
reads_past limit None new bytes taken past = record { read = omega (arith, past); past = past }
reads_past limit (Some xs) None bytes taken past = record { read = taken; past = past }
reads_past limit (Some xs) (Some ys) bytes taken past = record {
  read = (
    sym (ap (λ n. take n xs) (sym past) ∙ ap (take (length bytes)) taken ∙ take-append_seam bytes ys),
    sym (ap (λ n. drop n xs) (sym past) ∙ ap (drop (length bytes)) taken ∙ drop-append_seam bytes ys),
  );
  past = past;
}

-- one more read, and then the bytes are one too many
pub takes_past : (limit : ℕ) (a b c : Option (List ℕ)) (bytes piece : List ℕ) (n : ℕ) → Consumes a b bytes → Consumes b c (take n piece) → n ≤ length piece → length bytes + n ≡ limit + 1 → (all : List ℕ) × ReadsPast limit a c all
takes_past limit a b c bytes piece n so_far more fits past = (
  bytes ++ take n piece,
  reads_past limit a c (bytes ++ take n piece) (Consumes-trans a b c bytes (take n piece) so_far more) (simp (length-append, length-take) (omega arith)),
)

-- one more read, within the limit and one more
pub takes_front : (limit : ℕ) (a b c : Option (List ℕ)) (bytes piece : List ℕ) (n : ℕ) → Consumes a b bytes → Consumes b c (take n piece) → n ≤ length piece → length bytes + n ≤ limit + 1 → (all : List ℕ) × TakesFront limit a c all
takes_front limit a b c bytes piece n so_far more fits within = (
  bytes ++ take n piece,
  record {
    taken = Consumes-trans a b c bytes (take n piece) so_far more;
    within = simp (length-append, length-take) (omega arith);
  },
)

-- a piece of a list has its length
pub length-slice_range : (xs : List ℕ) (at n : ℕ) → at + n ≤ length xs → length (slice_range xs at (at + n)) ≡ n
length-slice_range xs at n fits = simp (length-take, length-drop) (omega arith)
