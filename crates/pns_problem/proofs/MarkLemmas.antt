-- Marks of the terms so far, and the terms that remain.
use Rattle.std.proofs.Common.{◌≡◌, ℕ, ◌+◌, ◌<◌, ◌≤◌, ◌==◌, nat_le, Bool, true, false, ◌||◌, List}
use Rattle.std.proofs.Common.{[], ◌∷◌, ◌++◌, length, take, drop, get_or, set, replicate, refl, sym}
use Rattle.std.proofs.Common.{ap, ◌∙◌, subst, arith}
use Rattle.std.proofs.lemmas.List.{drop_more, get_or-set_same, get_or-set_other, get_or-replicate}
use Rattle.std.proofs.lemmas.List.{length-set, length-replicate}
use Rattle.std.proofs.lemmas.Grind.{take_at_read}
use Rattle.std.proofs.lemmas.Bool.{or_parts, leb-false, eqb-true, eqb-false, eq-eqb, ne_eqb}
use Rattle.std.proofs.Math.Bool.{or-false, or-true, or_assoc}
use Rattle.text_rules.specs.problem_rules.Problem.{Term, terms_have}
use Rattle.text_rules.specs.problem_rules.Validity.{names_no_material, repeats_material}
use Rattle.text_rules.specs.problem_rules.Validity.{shares_material}
use Rattle.pns_problem.specs.Marks.{AreMarks}

-- `k` terms are marked, and the rest are known
pub record AreMarked (materials : ℕ) (terms : List Term) (k : ℕ) (marked : List Bool) : Type 0 where
  pub size : length marked ≡ 256
  pub known : names_no_material materials (drop k terms) ≡ false
  pub marks : AreMarks marked (take k terms)

pub record IsRepeatLeft (materials : ℕ) (terms : List Term) (k : ℕ) (marked : List Bool) : Type
    0 where
  pub so_far : AreMarked materials terms k marked
  pub rest : (shares_material (take k terms) (drop k terms) || repeats_material (drop k terms))
      ≡ repeats_material terms

pub record IsShareLeft (materials : ℕ) (inputs outputs : List Term) (k : ℕ) : Type 0 where
  pub known : names_no_material materials (drop k outputs) ≡ false
  pub rest : shares_material inputs (drop k outputs) ≡ shares_material inputs outputs

eqb-sym : (a b : ℕ) → (a == b) ≡ (b == a)
eqb-sym a b = either (a == b) refl
  where
    either : (t : Bool) → (a == b) ≡ t → (a == b) ≡ (b == a)
    either true is = let same = eqb-true a b is in is ∙ sym (eq-eqb b a (sym same))
    either false is = let apart = eqb-false a b is in is
        ∙ sym (ne_eqb b a (λ same. apart (sym same)))

terms_have-push : (ts : List Term) (t : Term) (x : ℕ)
    → terms_have (ts ++ t ∷ []) x ≡ (terms_have ts x || (t.material == x))
terms_have-push [] t x = or-false (t.material == x)
terms_have-push (s ∷ ts) t x = ap (λ b. (s.material == x) || b) (terms_have-push ts t x)
    ∙ sym (or_assoc (s.material == x) (terms_have ts x) (t.material == x))

middle_swap : (a e s h : Bool) → ((a || e) || (s || h)) ≡ ((a || s) || (e || h))
middle_swap true e s h = refl
middle_swap false true true h = refl
middle_swap false true false h = refl
middle_swap false false s h = refl

shares_material-push : (ts : List Term) (t : Term) (rest : List Term)
    → shares_material (ts ++ t ∷ []) rest ≡ (shares_material ts rest || terms_have rest t.material)
shares_material-push ts t [] = refl
shares_material-push ts t (r ∷ rest) =
    (λ i. terms_have-push ts t r.material i || shares_material-push ts t rest i)
    ∙ (middle_swap (terms_have ts r.material) (t.material == r.material) (shares_material ts rest)
    (terms_have rest t.material)
    ∙ ap
    (λ b. (terms_have ts r.material || shares_material ts rest) ||
    (b || terms_have rest t.material)) (eqb-sym t.material r.material))

pub none_marked : (materials : ℕ) (terms : List Term) → names_no_material materials terms ≡ false
    → AreMarked materials terms 0 (replicate 256 false)
none_marked materials terms known =
    record {
      size = length-replicate 256 false;
      known = known;
      marks =
          λ x less. get_or-replicate 256 x false false less;
    }

pub none_repeated : (materials : ℕ) (terms : List Term) → names_no_material materials terms ≡ false
    → IsRepeatLeft materials terms 0 (replicate 256 false)
none_repeated materials terms known =
    record {
      so_far = none_marked materials terms known;
      rest =
          ap (λ b. b || repeats_material terms) (shares_none terms);
    }
  where
    shares_none : (ts : List Term) → shares_material [] ts ≡ false
    shares_none [] = refl
    shares_none (t ∷ ts) = shares_none ts

module _ (materials : ℕ) (terms : List Term) (k : ℕ) (t : Term) (few : materials ≤ 256)
    (less : k < length terms) (is : t ≡ get_or terms k t) where
  ahead : drop k terms ≡ t ∷ drop (k + 1) terms
  ahead = drop_more terms k t less ∙ ap (λ y. y ∷ drop (k + 1) terms) (sym is)

  behind : take (k + 1) terms ≡ take k terms ++ t ∷ []
  behind = (take_at_read terms k t less).1 ∙ ap (λ y. take k terms ++ y ∷ []) (sym is)

  next_known : names_no_material materials (drop k terms) ≡ false
      → (nat_le materials t.material ≡ false)
      × (names_no_material materials (drop (k + 1) terms) ≡ false)
  next_known known =
      or_parts (nat_le materials t.material) (names_no_material materials (drop (k + 1) terms))
      (ap (λ ts. names_no_material materials ts) (sym ahead) ∙ known)

  pub below : names_no_material materials (drop k terms) ≡ false → t.material < 256
  below known = let h = leb-false materials t.material (next_known known).0 in omega arith

  pub marked_more : (marked : List Bool) (m : ℕ) → m ≡ t.material
      → AreMarked materials terms k marked → AreMarked materials terms (k + 1) (set marked m true)
  marked_more marked m same h = record {
    size = length-set marked m true ∙ h.size;
    known = (next_known h.known).1;
    marks = λ x less. at x less (t.material == x) refl
        ∙ sym (ap (λ ts. terms_have ts x) behind ∙ terms_have-push (take k terms) t x);
  }
    where
      at : (x : ℕ) → x < 256 → (b : Bool) → (t.material == x) ≡ b
          → get_or (set marked m true) x false ≡ (terms_have (take k terms) x || (t.material == x))
      at x less true e =
          let here = eqb-true t.material x e in
          let size = h.size in
          subst (λ y. get_or (set marked m true) y false ≡ true) (same ∙ here)
          (get_or-set_same marked m true false (omega arith))
          ∙ sym (ap (λ b. terms_have (take k terms) x || b) e
          ∙ or-true (terms_have (take k terms) x))
      at x less false e =
          let apart = eqb-false t.material x e in
          get_or-set_other marked m x true false (λ here. apart (sym same ∙ sym here))
          ∙ (h.marks x less
          ∙ sym (ap (λ b. terms_have (take k terms) x || b) e
          ∙ or-false (terms_have (take k terms) x)))

  pub repeat_found : (marked : List Bool) (m : ℕ) → m ≡ t.material
      → IsRepeatLeft materials terms k marked → get_or marked m false ≡ true
      → true ≡ repeats_material terms
  repeat_found marked m same h on =
      let has : terms_have (take k terms) t.material ≡ true =
      sym (h.so_far.marks t.material (below h.so_far.known))
      ∙ (ap (λ y. get_or marked y false) (sym same) ∙ on) in
      sym (ap
      (λ b. (b || shares_material (take k terms) (drop (k + 1) terms)) || repeats_material
      (t ∷ drop (k + 1) terms)) has)
      ∙ (ap (λ ts. shares_material (take k terms) ts || repeats_material ts) (sym ahead) ∙ h.rest)

  pub none_repeats : (marked : List Bool) (m : ℕ) → m ≡ t.material
      → IsRepeatLeft materials terms k marked → get_or marked m false ≡ false
      → IsRepeatLeft materials terms (k + 1) (set marked m true)
  none_repeats marked m same h off =
      let has : terms_have (take k terms) t.material ≡ false =
      sym (h.so_far.marks t.material (below h.so_far.known))
      ∙ (ap (λ y. get_or marked y false) (sym same) ∙ off) in
      let later = drop (k + 1) terms in
      record {
        so_far = marked_more marked m same h.so_far;
        rest =
            ap (λ ts. shares_material ts later || repeats_material later) behind
            ∙ (ap (λ b. b || repeats_material later) (shares_material-push (take k terms) t later)
            ∙ (or_assoc (shares_material (take k terms) later) (terms_have later t.material)
            (repeats_material later)
            ∙ (sym
            (ap (λ b. (b || shares_material (take k terms) later) || repeats_material
            (t ∷ later)) has)
            ∙ (ap (λ ts. shares_material (take k terms) ts || repeats_material ts) (sym ahead)
            ∙ h.rest))));
      }

  pub share_found : (inputs : List Term) (marked : List Bool) (m : ℕ) → m ≡ t.material
      → AreMarks marked inputs → IsShareLeft materials inputs terms k → get_or marked m false ≡ true
      → true ≡ shares_material inputs terms
  share_found inputs marked m same marks h on =
      let has : terms_have inputs t.material ≡ true =
      sym (marks t.material (below h.known))
      ∙ (ap (λ y. get_or marked y false) (sym same) ∙ on) in
      sym (ap (λ b. b || shares_material inputs (drop (k + 1) terms)) has)
      ∙ (ap (λ ts. shares_material inputs ts) (sym ahead) ∙ h.rest)

  pub none_shared : (inputs : List Term) (marked : List Bool) (m : ℕ) → m ≡ t.material
      → AreMarks marked inputs → IsShareLeft materials inputs terms k
      → get_or marked m false ≡ false → IsShareLeft materials inputs terms (k + 1)
  none_shared inputs marked m same marks h off =
      let has : terms_have inputs t.material ≡ false =
      sym (marks t.material (below h.known))
      ∙ (ap (λ y. get_or marked y false) (sym same) ∙ off) in
      record {
        known = (next_known h.known).1;
        rest = sym (ap (λ b. b || shares_material inputs (drop (k + 1) terms)) has)
            ∙ (ap (λ ts. shares_material inputs ts) (sym ahead) ∙ h.rest);
      }
