-- The rows after an exchange.
use Rattle.std.proofs.Common.{◌≡◌, ◌≢◌, ◌<◌, ◌≤◌, ◌+◌, ◌*◌, arith, refl, sym, ap, ◌∙◌, subst, inl}
use Rattle.std.proofs.Common.{inr, cond, ℕ, ℤ, Bool, true, false, List, length, get_or, set, nat_eq}
use Rattle.std.proofs.lemmas.Bool.Decides.{eqb_tells}
use Rattle.std.proofs.lemmas.List.{get_or-set_same, get_or-set_other, length-set}
use Rattle.flow_program.specs.flow_rules.Columns.{exchanged}
use Rattle.dual_simplex.specs.Rows.{Rows, width, row_at, row_of, basis}
use Rattle.dual_simplex.specs.Exchange.{pivot_row, IsStepped, AreStepped, IsExchanged}

flags_exchanged : (b : List Bool) (l e k : ℕ) → l < length b → e < length b → l ≢ e
    → get_or (set (set b l false) e true) k false ≡ exchanged (λ i. get_or b i false) l e k
flags_exchanged b l e k h g n =
    elim (eqb_tells k l) [
      | inl (q, s)
          ↦ subst (λ x. get_or (set (set b l false) e true) x false ≡ false) (sym s)
          (get_or-set_other (set b l false) e l true false n ∙ get_or-set_same b l false false h)
          ∙ sym (ap (λ t. cond t false (cond (nat_eq k e) true (get_or b k false))) q)
      | inr (q, m) ↦
          elim (eqb_tells k e) [
            | inl (r, s)
                ↦ subst (λ x. get_or (set (set b l false) e true) x false ≡ true) (sym s)
                (get_or-set_same (set b l false) e true false (omega (arith, length-set b l false)))
                ∙ sym (ap (λ t. cond t false (cond (nat_eq k e) true (get_or b k false))) q
                ∙ ap (λ t. cond t true (get_or b k false)) r)
            | inr (r, o) ↦ get_or-set_other (set b l false) e k true false o
                ∙ get_or-set_other b l k false false m
                ∙ sym (ap (λ t. cond t false (cond (nat_eq k e) true (get_or b k false))) q
                ∙ ap (λ t. cond t true (get_or b k false)) r)
          ]
    ]

pub exchanged_is : (old : Rows) (l e : ℕ) (negate : Bool) (w : ℕ) → w ≡ width old
    → (before : List ℤ) → before ≡ old.entries → (flags : List Bool) → flags ≡ old.basic
    → (after : List ℤ)
    → row_at w after e ≡ pivot_row negate (row_at w before l)
    → AreStepped w flags before (pivot_row negate (row_at w before l)) l e after
    → (new : Rows) → width new ≡ width old → new.entries ≡ after
    → new.basic ≡ set (set old.basic l false) e true
    → l < length old.basic → e < length old.basic → l ≢ e
    → IsExchanged old new l e (pivot_row negate (row_of old l))
exchanged_is old l e negate w ew before eb flags ef after row steps new wn en bn lb lf ne =
    let pivot : pivot_row negate (row_at w before l) ≡ pivot_row negate (row_of old l) =
    λ i. pivot_row negate (row_at (ew i) (eb i) l) in
    let after_row : (c : ℕ) → row_at w after c ≡ row_of new c =
    λ c i. row_at ((ew ∙ sym wn) i) (sym en i) c in
    record {
      flags = λ k. ap (λ b. get_or b k false) bn ∙ flags_exchanged old.basic l e k lb lf ne;
      pivot_row = sym (after_row e) ∙ row ∙ pivot;
      rows = λ c lt f o.
          let step =
          steps c (subst (λ x. c < x) (sym ew) lt)
          (subst (λ b. get_or b c false ≡ true) (sym ef) f) o in
          subst (λ r. IsStepped (row_of old c) (pivot_row negate (row_of old l)) e r) (after_row c)
          (subst (λ r. IsStepped (row_of old c) r e (row_at w after c)) pivot
          (subst (λ r. IsStepped r (pivot_row negate (row_at w before l)) e (row_at w after c))
          (λ i. row_at (ew i) (eb i) c) step));
    }
