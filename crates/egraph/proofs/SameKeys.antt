-- Keys of rows are compared by their fields.
use Rattle.std.proofs.Common.{◌≡◌, ◌≢◌, ℕ, Bool, true, false, ◌==◌, ◌&&◌, refl, sym, ap, ◌∙◌, arith}
use Rattle.std.proofs.lemmas.Bool.Decides.{nat_tests}
use Rattle.egraph.specs.declared.row_index.RowKey.{RowKey}
use Rattle.egraph.specs.Keys.{same_key}

both : (a b : Bool) → a && b ≡ true → (a ≡ true) × (b ≡ true)
both true b h = (refl, h)
both false b h = cc

abbrev key : ℕ → ℕ → ℕ → ℕ → ℕ → ℕ → RowKey
key kind number first second third fourth = record { kind = kind; number = number; first = first; second = second; third = third; fourth = fourth }

together : (a b : RowKey) → a.kind ≡ b.kind → a.number ≡ b.number → a.first ≡ b.first → a.second ≡ b.second → a.third ≡ b.third → a.fourth ≡ b.fourth → a ≡ b
together a b e f g h i j =
    ap (λ x. key (x) (a.number) (a.first) (a.second) (a.third) (a.fourth)) e
    ∙ ap (λ x. key (b.kind) (x) (a.first) (a.second) (a.third) (a.fourth)) f
    ∙ ap (λ x. key (b.kind) (b.number) (x) (a.second) (a.third) (a.fourth)) g
    ∙ ap (λ x. key (b.kind) (b.number) (b.first) (x) (a.third) (a.fourth)) h
    ∙ ap (λ x. key (b.kind) (b.number) (b.first) (b.second) (x) (a.fourth)) i
    ∙ ap (λ x. key (b.kind) (b.number) (b.first) (b.second) (b.third) (x)) j

equal : (m n : ℕ) → (m == n) ≡ true → m ≡ n
equal m n h = grind (arith, nat_tests, h)

pub keys_equal : (a b : RowKey) → same_key a b ≡ true → a ≡ b
keys_equal a b h =
    let h1 = both _ _ h in
    let h2 = both _ _ h1.1 in
    let h3 = both _ _ h2.1 in
    let h4 = both _ _ h3.1 in
    let h5 = both _ _ h4.1 in
    together a b (equal _ _ h1.0) (equal _ _ h2.0) (equal _ _ h3.0) (equal _ _ h4.0) (equal _ _ h5.0) (equal _ _ h5.1)

pub keys_apart : (a b : RowKey) → b ≢ a → same_key a b ≡ false
keys_apart a b h = by (same_key a b) refl
  where
    by : (t : Bool) → same_key a b ≡ t → t ≡ false
    by true e = absurd (h (sym (keys_equal a b e)))
    by false e = refl
