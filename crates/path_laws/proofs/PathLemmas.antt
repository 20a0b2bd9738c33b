-- Each basis of the path is independent, so each has one tableau, and the path is one list.
use Rattle.std.proofs.Common.{◌≡◌, ◌≢◌, ℕ, zero, suc, ◌<◌, ◌≤◌, inl, inr, Bool, true, false, cond}
use Rattle.std.proofs.Common.{arith, refl, ap, sym, ◌∙◌, subst}
use Rattle.std.specs.Prelude.{nat_eq, nat_lt, nat_le}
use Rattle.std.proofs.Math.Path.{fun_ext}
use Rattle.std.proofs.lemmas.Bool.Decides.{eqb_tells, leb_tells}
use Rattle.path_laws.proofs.OnePathLemmas.{follows_same}
use Rattle.flow_rules.specs.Columns.{Basis, Has, columns, right_at, scale_at, start, exchanged}
use Rattle.flow_rules.specs.LinearProgram.{LinearProgram}
use Rattle.flow_rules.specs.Path.{Follows, Reaches}
use Rattle.flow_rules.specs.Tableau.{IsIndependent}
use Rattle.path_laws.proofs.CombinationLemmas.{exchange_independent}
use Rattle.path_laws.proofs.PivotLemmas.{exchanged-out, exchanged-in, exchanged-other, turn_of}
use Rattle.path_laws.proofs.StartBasisLemmas.{start-has, start_independent}

-- what each basis of the path keeps
pub record IsSound (p : LinearProgram) (b : Basis) : Type 0 where
  pub independent : IsIndependent p b
  pub scale : Has b (scale_at p)
  pub right : b (right_at p) ≡ false
  pub inside : (k : ℕ) → Has b k → k ≤ scale_at p

same_independent : (p : LinearProgram) (b c : Basis) → ((k : ℕ) → b k ≡ c k) → IsIndependent p c
    → IsIndependent p b
same_independent p b c e i r cr z k l = i r cr (λ j h. z j (e j ∙ h)) k l

pub follows_sound : (p : LinearProgram) (b b' : Basis) → IsSound p b → Follows p b b' → IsSound p b'
follows_sound p b b' s f =
    let t = turn_of p b f.tableau f.leaves f.enters f.pivot f.is_tableau f.has_pivot in
    let el : f.enters ≢ f.leaves = λ q. let y : true ≡ false =
    sym t.was ∙ ap b (sym q) ∙ t.outside in cc in
    record {
      independent =
          exchange_independent p b b' f.leaves f.enters f.pivot t.outside
          (f.next f.enters ∙ exchanged-in b f.leaves f.enters el)
          (λ k n m. f.next k ∙ exchanged-other b f.leaves f.enters k n m) t.positive
          (within p f.enters t.column) t.combination t.own t.clear s.independent;
      scale = f.next (scale_at p)
          ∙ exchanged-other b f.leaves f.enters (scale_at p) (λ q. above p f.leaves t.leaving q)
          (λ q. above p f.enters t.column q) ∙ s.scale;
      right = f.next (right_at p)
          ∙ exchanged-other b f.leaves f.enters (right_at p) (λ q. at_end p f.leaves t.leaving q)
          (λ q. at_end p f.enters t.column q) ∙ s.right;
      inside = λ k h. elim (eqb_tells k f.enters) [
        | inl (_, q) ↦ subst (λ z. z ≤ scale_at p) (sym q) (within p f.enters t.column)
        | inr (_, m) ↦ elim (eqb_tells k f.leaves) [
          | inl (_, q)
              ↦ absurd (let y : true ≡ false =
              sym h ∙ f.next k ∙ ap (exchanged b f.leaves f.enters) q
              ∙ exchanged-out b f.leaves f.enters in cc)
          | inr (_, n) ↦ s.inside k (sym (f.next k ∙ exchanged-other b f.leaves f.enters k n m) ∙ h)
        ]
      ];
    }
  where
    within : (p : LinearProgram) (k : ℕ) → k < columns p → k ≤ scale_at p
    within p k h = omega arith

    above : (p : LinearProgram) (k : ℕ) → k < columns p → scale_at p ≡ k → ⊥
    above p k h q = omega arith

    at_end : (p : LinearProgram) (k : ℕ) → k < columns p → right_at p ≡ k → ⊥
    at_end p k h q = omega arith

last_test : (a b c : Bool) → cond a false (cond b false c) ≡ true → c ≡ true
last_test true b c h = absurd (let y : false ≡ true = h in cc)
last_test false true c h = absurd (let y : false ≡ true = h in cc)
last_test false false c h = h

pub reaches_sound : (p : LinearProgram) (n : ℕ) (b : Basis) → Reaches p n b → IsSound p b
reaches_sound p zero b e = record {
  independent = same_independent p b (start p) e (start_independent p);
  scale = e (scale_at p)
      ∙ start-has p (scale_at p) (omega arith) (omega arith) (λ q. absurd (omega arith));
  right = e (right_at p) ∙ right_out p;
  inside = λ k h. elim (leb_tells k (scale_at p)) [
    | inl (_, l) ↦ l
    | inr (g, _)
        ↦ absurd (let y : true ≡ false =
        sym (last_test (nat_lt k p.units) (nat_eq k (right_at p)) (nat_le k (scale_at p))
        (sym (e k) ∙ h)) ∙ g in cc)
  ];
}
  where
    right_out : (p : LinearProgram) → start p (right_at p) ≡ false
    right_out p =
        elim (leb_tells (suc (right_at p)) p.units) [
          | inl (g, q) ↦ absurd (omega arith)
          | inr (g, _)
              ↦ elim (eqb_tells (right_at p) (right_at p))
              [ inl (h, _) ↦ rw (g, h) | inr (_, q) ↦ absurd (q refl) ]
        ]
reaches_sound p (suc n) b (c, r, f) = follows_sound p c b (reaches_sound p n c r) f

-- after each number of pivots the path is at one basis
pub reaches_same : (p : LinearProgram) (n : ℕ) (b c : Basis) → Reaches p n b → Reaches p n c
    → (k : ℕ) → b k ≡ c k
reaches_same p zero b c e f k = e k ∙ sym (f k)
reaches_same p (suc n) b c (b₀, r, f) (c₀, s, g) k =
    let e : b₀ ≡ c₀ = fun_ext (reaches_same p n b₀ c₀ r s) in
    let h : Follows p b₀ c = subst (λ x. Follows p x c) (sym e) g in
    let sound = reaches_sound p n b₀ r in
    follows_same p b₀ b c sound.scale sound.independent f h k
