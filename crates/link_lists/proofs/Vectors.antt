-- The links of longer vectors, and of rings without cells.
use Rattle.std.proofs.Common.{◌≡◌, ℕ, zero, suc, ◌+◌, ◌-◌, ◌<◌, ◌≤◌, Bool, true, false, cond, List}
use Rattle.std.proofs.Common.{[], ◌∷◌, ◌++◌, length, slice_index_or, replicate, take, refl, sym, ap}
use Rattle.std.proofs.Common.{◌∙◌, inl, inr, eq-eqb, ne_eqb, arith}
use Rattle.std.proofs.lemmas.Bool.{cases_eq, cases_lt}
use Rattle.std.proofs.lemmas.List.{get_or_past, get_or-replicate, length-replicate}
use Rattle.std.proofs.lemmas.List.{get_or_append_left, get_or-append_right}
use Rattle.link_lists.specs.declared.links.Link.{Link}
use Rattle.link_lists.specs.Links.{with_at, nowhere, next_of, prev_of}

at_nowhere : (k i : ℕ) → slice_index_or (replicate k nowhere) i nowhere ≡ nowhere
at_nowhere k i = elim (cases_lt i k) [
  | inl lt ↦ get_or-replicate k i nowhere nowhere lt
  | inr le ↦ get_or_past (replicate k nowhere) i nowhere
      (let e = length-replicate {A = Link} k nowhere in omega arith)
]

at_longer : (xs : List Link) (k i : ℕ)
    → slice_index_or (xs ++ replicate k nowhere) i nowhere ≡ slice_index_or xs i nowhere
at_longer xs k i = elim (cases_lt i (length xs)) [
  | inl lt ↦ get_or_append_left xs (replicate k nowhere) nowhere i lt
  | inr le ↦ get_or-append_right xs (replicate k nowhere) (length xs) i nowhere refl le
      ∙ (at_nowhere k (i - length xs) ∙ sym (get_or_past xs i nowhere le))
]

take_all : (n : ℕ) (xs : List Link) → length xs ≤ n → take n xs ≡ xs
take_all zero [] h = refl
take_all zero (x ∷ xs) h = absurd (omega arith)
take_all (suc n) [] h = refl
take_all (suc n) (x ∷ xs) h = ap (λ ys. x ∷ ys) (take_all n xs (omega arith))

-- each node has the same links in a vector that was made longer, or was not
module _ (old new : List Link) (n k : ℕ) (h : length old < n) (b : Bool)
    (e : new ≡ cond b (take n old ++ replicate k nowhere) old) where
  at_resized : (i : ℕ) → slice_index_or new i nowhere ≡ slice_index_or old i nowhere
  at_resized i = ap (λ xs. slice_index_or xs i nowhere) e ∙ by b
    where
      by : (b : Bool) → slice_index_or (cond b (take n old ++ replicate k nowhere) old) i nowhere
          ≡ slice_index_or old i nowhere
      by true =
          ap (λ xs. slice_index_or (xs ++ replicate k nowhere) i nowhere)
          (take_all n old (omega arith)) ∙ at_longer old k i
      by false = refl

  pub next_resized : next_of new ≡ next_of old
  next_resized = λ t. λ i. (at_resized i t).next

  pub prev_resized : prev_of new ≡ prev_of old
  prev_resized = λ t. λ i. (at_resized i t).prev

-- one ring more
pub ring_more : (f : ℕ → ℕ) (l : ℕ) → ((i : ℕ) → i < l → f i ≡ i) → (i : ℕ) → i < l + 1
    → with_at f l l i ≡ i
ring_more f l h i lt = elim (cases_eq i l) [
  | inl e ↦ ap (λ b. cond b l (f i)) (eq-eqb i l e) ∙ sym e
  | inr ne ↦ ap (λ b. cond b l (f i)) (ne_eqb i l ne) ∙ h i (omega arith)
]
