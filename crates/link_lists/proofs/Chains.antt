-- Chains of links: a cell taken out, put at the end, or put before another.
use Rattle.std.proofs.Common.{◌≡◌, ℕ, zero, suc, ◌+◌, ◌-◌, ◌<◌, ◌≤◌, ◌==◌, nat_lt, Bool, true}
use Rattle.std.proofs.Common.{false, cond, not, List, [], ◌∷◌, ◌++◌, length, Option, Some, None}
use Rattle.std.proofs.Common.{refl, sym, ap, ap₂, ◌∙◌, subst, inl, inr, ◌⊎◌, eqb-true, lt-ltb}
use Rattle.std.proofs.Common.{eq-eqb, ne_eqb, arith}
use Rattle.std.proofs.lemmas.Bool.{or_cases, or_parts, both_ways, cases_eq, le-ltb, eqb-false}
use Rattle.link_lists.specs.Lists.{has, first, following, preceding_from, without, inserted, IsOnce}
use Rattle.link_lists.specs.Links.{Chain, with_at, walked}
use Rattle.link_lists.proofs.Cells.{has-here, has-later, without-none, without-later}

-- ---- writing at a place

pub with_at-same : (f : ℕ → ℕ) (p v : ℕ) → with_at f p v p ≡ v
with_at-same f p v = ap (λ b. cond b v (f p)) (eq-eqb p p refl)

pub with_at-other : (f : ℕ → ℕ) (p v i : ℕ) → (i ≡ p → ⊥) → with_at f p v i ≡ f i
with_at-other f p v i ne = ap (λ b. cond b v (f i)) (ne_eqb i p ne)

-- if a place that held n is set to q and then to n again, nothing has changed
pub with_at-back : (f : ℕ → ℕ) (p q n : ℕ) → f p ≡ n → with_at (with_at f p q) p n ≡ f
with_at-back f p q n e = λ k. λ i. at i (i == p) refl k
  where
    at : (i : ℕ) (b : Bool) → (i == p) ≡ b → cond (i == p) n (cond (i == p) q (f i)) ≡ f i
    at i true h = ap (λ c. cond c n (cond c q (f i))) h ∙ (sym e ∙ ap f (sym (eqb-true i p h)))
    at i false h = ap (λ c. cond c n (cond c q (f i))) h

-- ---- chains

module _ (n : ℕ) where
  -- links that agree at the nodes of a chain
  pub agree : (f g f' g' : ℕ → ℕ) (a : ℕ) (xs : List ℕ) (e : ℕ) → f' a ≡ f a
      → ((c : ℕ) → has xs c ≡ true → f' (n + c) ≡ f (n + c)) → g' e ≡ g e
      → ((c : ℕ) → has xs c ≡ true → g' (n + c) ≡ g (n + c)) → Chain f g n a xs e
      → Chain f' g' n a xs e
  agree f g f' g' a [] e fa fs ge gs h = (fa ∙ h.0, ge ∙ h.1)
  agree f g f' g' a (x ∷ xs) e fa fs ge gs h = (
    fa ∙ h.0,
    gs x (has-here x xs) ∙ h.1,
    agree f g f' g' (n + x) xs e (fs x (has-here x xs)) (λ c q. fs c (has-later x c xs q)) ge
        (λ c q. gs c (has-later x c xs q)) h.2,
  )

  -- the node before a cell is the first node or that of a cell of the chain
  module _ (f g : ℕ → ℕ) where
    pub prev_in : (a : ℕ) (xs : List ℕ) (e c : ℕ) → Chain f g n a xs e → has xs c ≡ true
        → (g (n + c) ≡ a) ⊎ ((d : ℕ) × (has xs d ≡ true) × (g (n + c) ≡ n + d))
    prev_in a [] e c h q = absurd (both_ways false refl q)
    prev_in a (x ∷ xs) e c h q = elim (or_cases (x == c) (has xs c) q) [
      | inl s ↦ inl (ap (λ k. g (n + k)) (sym (eqb-true x c s)) ∙ h.1)
      | inr t ↦ elim (prev_in (n + x) xs e c h.2 t) [
        | inl p ↦ inr (x, has-here x xs, p)
        | inr p ↦ inr (p.0, has-later x p.0 xs p.1, p.2)
      ]
    ]

    pub next_in : (a : ℕ) (xs : List ℕ) (e c : ℕ) → Chain f g n a xs e → has xs c ≡ true
        → (f (n + c) ≡ e) ⊎ ((d : ℕ) × (has xs d ≡ true) × (f (n + c) ≡ n + d))
    next_in a [] e c h q = absurd (both_ways false refl q)
    next_in a (x ∷ xs) e c h q = elim (or_cases (x == c) (has xs c) q) [
      | inl s
          ↦ subst (λ k. (f (n + k) ≡ e) ⊎ ((d : ℕ) × (has (x ∷ xs) d ≡ true) × (f (n + k) ≡ n + d)))
          (eqb-true x c s) (start xs h.2)
      | inr t ↦ elim (next_in (n + x) xs e c h.2 t) [
        | inl p ↦ inl p
        | inr p ↦ inr (p.0, has-later x p.0 xs p.1, p.2)
      ]
    ]
      where
        start : (ys : List ℕ) → Chain f g n (n + x) ys e → (f (n + x) ≡ e)
            ⊎ ((d : ℕ) × (has (x ∷ ys) d ≡ true) × (f (n + x) ≡ n + d))
        start [] h = inl h.0
        start (y ∷ ys) h = inr (y, has-later x y (y ∷ ys) (has-here y ys), h.0)

    -- the cell that follows c comes after it
    pub next_after : (a x : ℕ) (xs : List ℕ) (e c : ℕ) → Chain f g n a xs e → has xs c ≡ true
        → has xs x ≡ false → (e ≡ n + x → ⊥) → f (n + c) ≡ n + x → ⊥
    next_after a x xs e c h q out apart same = elim (next_in a xs e c h q) [
      | inl p ↦ apart (sym p ∙ same)
      | inr p ↦
          let at = sym p.2 ∙ same in
          let d : p.0 ≡ x = omega arith in
          both_ways (has xs x) out (subst (λ k. has xs k ≡ true) d p.1)
    ]

    -- a chain with a cell taken out
    pub cut : (f' g' : ℕ → ℕ) (a : ℕ) (xs : List ℕ) (e c : ℕ)
        → ((i : ℕ) → (i ≡ g (n + c) → ⊥) → f' i ≡ f i) → f' (g (n + c)) ≡ f (n + c)
        → ((i : ℕ) → (i ≡ f (n + c) → ⊥) → g' i ≡ g i) → g' (f (n + c)) ≡ g (n + c)
        → IsOnce xs → ((d : ℕ) → has xs d ≡ true → a ≡ n + d → ⊥) → e < n → has xs c ≡ true
        → Chain f g n a xs e → Chain f' g' n a (without c xs) e
    cut f' g' a [] e c fo fp go gq o apart lt q h = absurd (both_ways false refl q)
    cut f' g' a (x ∷ xs) e c fo fp go gq o apart lt q h = elim (cases_eq c x) [
      | inl same
          ↦ subst (λ ys. Chain f' g' n a ys e)
          (sym (ap (λ b. cond (not b) (x ∷ without c xs) (without c xs)) (eq-eqb c x same)
          ∙ without-none c xs (subst (λ k. has xs k ≡ false) (sym same) o.0))) (here same)
      | inr ne
          ↦ subst (λ ys. Chain f' g' n a ys e) (sym (without-later c x xs ne))
          (later ne (λ away rest. cut f' g' (n + x) xs e c fo fp go gq o.1 away lt rest h.2))
    ]
      where
        here : c ≡ x → Chain f' g' n a xs e
        here same =
            at xs (subst (λ k. Chain f g n (n + k) xs e) (sym same) h.2) o.1
            (λ d hd. apart d (has-later x d xs hd))
          where
            p : g (n + c) ≡ a
            p = ap (λ k. g (n + k)) same ∙ h.1

            at : (ys : List ℕ) → Chain f g n (n + c) ys e → IsOnce ys
                → ((d : ℕ) → has ys d ≡ true → a ≡ n + d → ⊥) → Chain f' g' n a ys e
            at [] k once away = (
              subst (λ i. f' i ≡ e) p (fp ∙ k.0),
              subst (λ i. g' i ≡ a) k.0 (gq ∙ p),
            )
            at (y ∷ ys) k once away = (
              subst (λ i. f' i ≡ n + y) p (fp ∙ k.0),
              subst (λ i. g' i ≡ a) k.0 (gq ∙ p),
              agree f g f' g' (n + y) ys e
                  (fo (n + y) (λ q. away y (has-here y ys) (sym (q ∙ p))))
                  (λ d hd. fo (n + d) (λ q. away d (has-later y d ys hd) (sym (q ∙ p))))
                  (go e (λ q. let r : e ≡ n + y = q ∙ k.0 in omega arith))
                  (λ d hd. go (n + d) (λ q.
                  let r : n + d ≡ n + y = q ∙ k.0 in
                  let s : d ≡ y = omega arith in
                  both_ways (has ys y) once.0 (subst (λ i. has ys i ≡ true) s hd)))
                  k.2,
            )

        later : (c ≡ x → ⊥)
            → (((d : ℕ) → has xs d ≡ true → n + x ≡ n + d → ⊥) → has xs c ≡ true
            → Chain f' g' n (n + x) (without c xs) e) → Chain f' g' n a (x ∷ without c xs) e
        later ne ih =
            let rest : has xs c ≡ true =
            elim (or_cases (x == c) (has xs c) q)
            [ inl s ↦ absurd (ne (sym (eqb-true x c s))) | inr t ↦ t ] in (
              fo a (λ q. elim (prev_in (n + x) xs e c h.2 rest) [
                | inl p ↦ apart x (has-here x xs) (q ∙ p)
                | inr p ↦ apart p.0 (has-later x p.0 xs p.1) (q ∙ p.2)
              ]) ∙ h.0,
              go (n + x) (λ q. next_after (n + x) x xs e c h.2 rest o.0 (λ r. omega arith) (sym q))
                  ∙ h.1,
              ih (λ d hd r.
                  let s : d ≡ x = omega arith in
                  both_ways (has xs x) o.0 (subst (λ i. has xs i ≡ true) s hd)) rest,
            )

    -- a cell is between its neighbours, and is neither of them
    pub forth : (a : ℕ) (xs : List ℕ) (e c : ℕ) → Chain f g n a xs e → has xs c ≡ true
        → f (g (n + c)) ≡ n + c
    forth a [] e c h q = absurd (both_ways false refl q)
    forth a (x ∷ xs) e c h q = elim (or_cases (x == c) (has xs c) q) [
      | inl s ↦ subst (λ k. f (g (n + k)) ≡ n + k) (eqb-true x c s) (ap f h.1 ∙ h.0)
      | inr t ↦ forth (n + x) xs e c h.2 t
    ]

    pub back : (a : ℕ) (xs : List ℕ) (e c : ℕ) → Chain f g n a xs e → has xs c ≡ true
        → g (f (n + c)) ≡ n + c
    back a [] e c h q = absurd (both_ways false refl q)
    back a (x ∷ xs) e c h q = elim (or_cases (x == c) (has xs c) q) [
      | inl s ↦ subst (λ k. g (f (n + k)) ≡ n + k) (eqb-true x c s) (start xs h.2)
      | inr t ↦ back (n + x) xs e c h.2 t
    ]
      where
        start : (ys : List ℕ) → Chain f g n (n + x) ys e → g (f (n + x)) ≡ n + x
        start [] k = ap g k.0 ∙ k.1
        start (y ∷ ys) k = ap g k.0 ∙ k.1

    pub not_prev : (a : ℕ) (xs : List ℕ) (e c : ℕ) → Chain f g n a xs e → IsOnce xs
        → ((d : ℕ) → has xs d ≡ true → a ≡ n + d → ⊥) → has xs c ≡ true → n + c ≡ g (n + c) → ⊥
    not_prev a [] e c h o away q same = both_ways false refl q
    not_prev a (x ∷ xs) e c h o away q same = elim (or_cases (x == c) (has xs c) q) [
      | inl s ↦ away c q (sym (ap (λ k. g (n + k)) (sym (eqb-true x c s)) ∙ h.1) ∙ sym same)
      | inr t ↦ not_prev (n + x) xs e c h.2 o.1 (λ d hd r.
          let s : d ≡ x = omega arith in
          both_ways (has xs x) o.0 (subst (λ i. has xs i ≡ true) s hd)) t same
    ]

    pub not_next : (a : ℕ) (xs : List ℕ) (e c : ℕ) → Chain f g n a xs e → IsOnce xs → e < n
        → has xs c ≡ true → n + c ≡ f (n + c) → ⊥
    not_next a [] e c h o lt q same = both_ways false refl q
    not_next a (x ∷ xs) e c h o lt q same = elim (or_cases (x == c) (has xs c) q) [
      | inl s ↦ start (eqb-true x c s) xs h.2 o.0
      | inr t ↦ not_next (n + x) xs e c h.2 o.1 lt t same
    ]
      where
        start : x ≡ c → (ys : List ℕ) → Chain f g n (n + x) ys e → has ys x ≡ false → ⊥
        start r [] k out = let z = sym (ap (λ i. f (n + i)) r) ∙ k.0 in omega arith
        start r (y ∷ ys) k out =
            let z : f (n + c) ≡ n + y = ap (λ i. f (n + i)) (sym r) ∙ k.0 in
            let w : y ≡ x = omega arith in
            both_ways (has (y ∷ ys) x) out (subst (λ i. has (y ∷ ys) i ≡ true) w (has-here y ys))

    -- the last node
    pub last_in : (a : ℕ) (xs : List ℕ) (e : ℕ) → Chain f g n a xs e → (g e ≡ a)
        ⊎ ((d : ℕ) × (has xs d ≡ true) × (g e ≡ n + d))
    last_in a [] e h = inl h.1
    last_in a (x ∷ xs) e h = elim (last_in (n + x) xs e h.2) [
      | inl p ↦ inr (x, has-here x xs, p)
      | inr p ↦ inr (p.0, has-later x p.0 xs p.1, p.2)
    ]

    -- a cell put at the end
    pub grown : (f' g' : ℕ → ℕ) (a : ℕ) (xs : List ℕ) (e c : ℕ)
        → ((i : ℕ) → (i ≡ g e → ⊥) → (i ≡ n + c → ⊥) → f' i ≡ f i) → f' (g e) ≡ n + c
        → f' (n + c) ≡ e
        → ((i : ℕ) → (i ≡ e → ⊥) → (i ≡ n + c → ⊥) → g' i ≡ g i) → g' e ≡ n + c → g' (n + c) ≡ g e
        → IsOnce xs → ((d : ℕ) → has xs d ≡ true → a ≡ n + d → ⊥) → e < n → (a ≡ n + c → ⊥)
        → has xs c ≡ false
        → Chain f g n a xs e → Chain f' g' n a (xs ++ c ∷ []) e
    grown f' g' a [] e c fo fp fc go ge gc o away lt ac out h =
        (subst (λ i. f' i ≡ n + c) h.1 fp, gc ∙ h.1, (fc, ge))
    grown f' g' a (x ∷ xs) e c fo fp fc go ge gc o away lt ac out h = (
      fo a (λ q. elim (last_in (n + x) xs e h.2) [
        | inl p ↦ away x (has-here x xs) (q ∙ p)
        | inr p ↦ away p.0 (has-later x p.0 xs p.1) (q ∙ p.2)
      ]) ac ∙ h.0,
      go (n + x) (λ q. omega arith) apart ∙ h.1,
      grown f' g' (n + x) xs e c fo fp fc go ge gc o.1 (λ d hd r.
          let s : d ≡ x = omega arith in
          both_ways (has xs x) o.0 (subst (λ i. has xs i ≡ true) s hd)) lt apart
          (or_parts (x == c) (has xs c) out).1 h.2,
    )
      where
        apart : n + x ≡ n + c → ⊥
        apart q = eqb-false x c (or_parts (x == c) (has xs c) out).0 (omega arith)

    -- a cell put before another
    pub placed :
        (f' g' : ℕ → ℕ) (a : ℕ) (xs : List ℕ) (e c b : ℕ)
        → ((i : ℕ) → (i ≡ g (n + b) → ⊥) → (i ≡ n + c → ⊥) → f' i ≡ f i) → f' (g (n + b)) ≡ n + c
        → f' (n + c) ≡ n + b
        → ((i : ℕ) → (i ≡ n + b → ⊥) → (i ≡ n + c → ⊥) → g' i ≡ g i) → g' (n + b) ≡ n + c
        → g' (n + c) ≡ g (n + b)
        → IsOnce xs → ((d : ℕ) → has xs d ≡ true → a ≡ n + d → ⊥) → e < n → (a ≡ n + c → ⊥)
        → has xs c ≡ false → has xs b ≡ true
        → Chain f g n a xs e → Chain f' g' n a (inserted c b xs) e
    placed f' g' a [] e c b fo fp fc go gb gc o away lt ac out q h = absurd (both_ways false refl q)
    placed f' g' a (x ∷ xs) e c b fo fp fc go gb gc o away lt ac out q h = elim (cases_eq x b) [
      | inl same
          ↦ subst (λ ys. Chain f' g' n a ys e)
          (sym (ap (λ t. cond t (c ∷ x ∷ xs) (x ∷ inserted c b xs)) (eq-eqb x b same))) (here same)
      | inr ne
          ↦ subst (λ ys. Chain f' g' n a ys e)
          (sym (ap (λ t. cond t (c ∷ x ∷ xs) (x ∷ inserted c b xs)) (ne_eqb x b ne)))
          (later ne
          (λ far rest. placed f' g' (n + x) xs e c b fo fp fc go gb gc o.1 far lt apart
          (or_parts (x == c) (has xs c) out).1 rest h.2))
    ]
      where
        apart : n + x ≡ n + c → ⊥
        apart r = eqb-false x c (or_parts (x == c) (has xs c) out).0 (omega arith)

        here : x ≡ b → Chain f' g' n a (c ∷ x ∷ xs) e
        here same =
            let p : g (n + b) ≡ a = ap (λ k. g (n + k)) (sym same) ∙ h.1 in (
              subst (λ i. f' i ≡ n + c) p fp,
              gc ∙ p,
              (
                fc ∙ ap (λ k. n + k) (sym same),
                ap (λ k. g' (n + k)) same ∙ gb,
                agree f g f' g' (n + x) xs e
                    (fo (n + x) (λ r. away x (has-here x xs) (sym (r ∙ p))) apart)
                    (λ d hd. fo (n + d) (λ r. away d (has-later x d xs hd) (sym (r ∙ p))) (λ r.
                    let s : d ≡ c = omega arith in
                    both_ways (has xs c) (or_parts (x == c) (has xs c) out).1
                    (subst (λ i. has xs i ≡ true) s hd)))
                    (go e (λ r. omega arith) (λ r. omega arith))
                    (λ d hd. go (n + d) (λ r.
                    let s : d ≡ x = omega arith in
                    both_ways (has xs x) o.0 (subst (λ i. has xs i ≡ true) s hd)) (λ r.
                    let s : d ≡ c = omega arith in
                    both_ways (has xs c) (or_parts (x == c) (has xs c) out).1
                    (subst (λ i. has xs i ≡ true) s hd)))
                    h.2,
              ),
            )

        later : (x ≡ b → ⊥)
            → (((d : ℕ) → has xs d ≡ true → n + x ≡ n + d → ⊥) → has xs b ≡ true
            → Chain f' g' n (n + x) (inserted c b xs) e) → Chain f' g' n a (x ∷ inserted c b xs) e
        later ne ih =
            let rest : has xs b ≡ true =
            elim (or_cases (x == b) (has xs b) q)
            [ inl s ↦ absurd (ne (eqb-true x b s)) | inr t ↦ t ] in (
              fo a (λ r. elim (prev_in (n + x) xs e b h.2 rest) [
                | inl p ↦ away x (has-here x xs) (r ∙ p)
                | inr p ↦ away p.0 (has-later x p.0 xs p.1) (r ∙ p.2)
              ]) ac ∙ h.0,
              go (n + x) (λ r. ne (omega arith)) apart ∙ h.1,
              ih (λ d hd r.
                  let s : d ≡ x = omega arith in
                  both_ways (has xs x) o.0 (subst (λ i. has xs i ≡ true) s hd)) rest,
            )

    -- what the links say of the first cell, and of the one that follows
    pub first_is : (a : ℕ) (xs : List ℕ) (e : ℕ) → Chain f g n a xs e → e < n
        → first xs ≡ cond (nat_lt (f a) n) None (Some (f a - n))
    first_is a [] e h lt =
        sym (ap (λ b. cond b None (Some (f a - n)))
        (lt-ltb (f a) n (subst (λ i. i < n) (sym h.0) lt)))
    first_is a (x ∷ xs) e h lt =
        let v : f a - n ≡ x = let z = h.0 in omega arith in
        sym (ap (λ b. cond b None (Some (f a - n))) (le-ltb (f a) n (let z = h.0 in omega arith))
        ∙ ap Some v)

    pub following_is : (a : ℕ) (xs : List ℕ) (e c : ℕ) → Chain f g n a xs e → IsOnce xs → e < n
        → has xs c ≡ true → following c xs ≡ cond (nat_lt (f (n + c)) n) None (Some (f (n + c) - n))
    following_is a [] e c h o lt q = absurd (both_ways false refl q)
    following_is a (x ∷ xs) e c h o lt q = elim (or_cases (x == c) (has xs c) q) [
      | inl s ↦ ap (λ b. cond b (first xs) (following c xs)) s
          ∙ subst (λ k. first xs ≡ cond (nat_lt (f (n + k)) n) None (Some (f (n + k) - n)))
          (eqb-true x c s) (first_is (n + x) xs e h.2 lt)
      | inr t ↦ ap (λ b. cond b (first xs) (following c xs))
          (ne_eqb x c (λ r. both_ways (has xs x) o.0 (subst (λ k. has xs k ≡ true) (sym r) t)))
          ∙ following_is (n + x) xs e c h.2 o.1 lt t
    ]

    pub first_near : (a : ℕ) (xs : List ℕ) (e : ℕ) → Chain f g n a xs e → (f a ≡ e)
        ⊎ ((d : ℕ) × (has xs d ≡ true) × (f a ≡ n + d))
    first_near a [] e h = inl h.0
    first_near a (x ∷ xs) e h = inr (x, has-here x xs, h.0)

    pub preceding_is : (b : Option ℕ) (a : ℕ) (xs : List ℕ) (e c : ℕ)
        → b ≡ cond (nat_lt a n) None (Some (a - n)) → Chain f g n a xs e → has xs c ≡ true
        → preceding_from b c xs ≡ cond (nat_lt (g (n + c)) n) None (Some (g (n + c) - n))
    preceding_is b a [] e c eb h q = absurd (both_ways false refl q)
    preceding_is b a (x ∷ xs) e c eb h q = elim (cases_eq x c) [
      | inl s ↦ ap (λ t. cond t b (preceding_from (Some x) c xs)) (eq-eqb x c s)
          ∙ (eb ∙ ap (λ i. cond (nat_lt i n) None (Some (i - n))) (sym h.1 ∙ ap (λ i. g (n + i)) s))
      | inr ne ↦ ap (λ t. cond t b (preceding_from (Some x) c xs)) (ne_eqb x c ne)
          ∙ preceding_is (Some x) (n + x) xs e c (some_of x) h.2 (rest ne)
    ]
      where
        some_of : (x : ℕ) → Some x ≡ cond (nat_lt (n + x) n) None (Some (n + x - n))
        some_of x = let v : x ≡ n + x - n =
            omega arith in ap Some v
            ∙ sym (ap (λ t. cond t None (Some (n + x - n))) (le-ltb (n + x) n (omega arith)))

        rest : (x ≡ c → ⊥) → has xs c ≡ true
        rest ne =
            elim (or_cases (x == c) (has xs c) q)
            [ inl s ↦ absurd (ne (eqb-true x c s)) | inr t ↦ t ]

  pub walked_chain : (k : ℕ) (f g : ℕ → ℕ) (a : ℕ) (xs : List ℕ) (e : ℕ) → Chain f g n a xs e
      → e < n → length xs ≤ k → walked k f n (f a) ≡ xs
  unfolding walked
  walked_chain zero f g a [] e h lt le = refl
  walked_chain zero f g a (x ∷ xs) e h lt le = absurd (omega arith)
  walked_chain (suc k) f g a [] e h lt le =
      ap (λ b. cond b [] ((f a - n) ∷ walked k f n (f (f a))))
      (lt-ltb (f a) n (subst (λ i. i < n) (sym h.0) lt))
  walked_chain (suc k) f g a (x ∷ xs) e h lt le =
      let v : f a - n ≡ x = let z = h.0 in omega arith in
      ap (λ b. cond b [] ((f a - n) ∷ walked k f n (f (f a))))
      (le-ltb (f a) n (let z = h.0 in omega arith))
      ∙ ap₂ (λ y ys. y ∷ ys) v
      (ap (λ i. walked k f n (f i)) h.0 ∙ walked_chain k f g (n + x) xs e h.2 lt (omega arith))
