-- Links that represent several lists, and what the writes of each call change.
use Rattle.std.proofs.Common.{◌≡◌, ℕ, ◌+◌, ◌-◌, ◌<◌, ◌==◌, nat_lt, true, false, cond, not, List}
use Rattle.std.proofs.Common.{[]}
use Rattle.std.proofs.Common.{◌∷◌, ◌++◌, length, map, Some, None, replicate, refl, sym, ap, ◌∙◌}
use Rattle.std.proofs.Common.{subst, inl, inr, ◌⊎◌, eqb-true, lt-ltb, arith}
use Rattle.std.proofs.lemmas.Bool.{or_cases, and_parts, both_ways, false_from_ne_true, cases_eq}
use Rattle.std.proofs.lemmas.Bool.{cases_lt}
use Rattle.std.proofs.lemmas.List.{length-map, get_or_past, get_or-replicate, length-replicate}
use Rattle.std.proofs.lemmas.List.FromFn.{fill_by_all}
use Rattle.link_lists.specs.Lists.{row, has, first, following, preceding, without, pushed}
use Rattle.link_lists.specs.Lists.{inserted}
use Rattle.link_lists.specs.Lists.{IsOnce}
use Rattle.link_lists.specs.Links.{Chain, with_at, Rep, next_back, prev_back, walked, rows_of}
use Rattle.link_lists.proofs.Cells.{has-append, has-without, without-none, IsOnce-without}
use Rattle.link_lists.proofs.Cells.{once_length, row-without, row-pushed, row-pushed_other}
use Rattle.link_lists.proofs.Cells.{length-pushed, IsOnce-push, inserted-none, has-inserted}
use Rattle.link_lists.proofs.Cells.{IsOnce-inserted, row-inserted}
use Rattle.link_lists.proofs.Chains.{with_at-same, with_at-other, with_at-back, agree, prev_in}
use Rattle.link_lists.proofs.Chains.{next_in, cut, forth, back, not_prev, not_next, last_in}
use Rattle.link_lists.proofs.Chains.{grown}
use Rattle.link_lists.proofs.Chains.{placed, first_is, following_is, first_near, preceding_is}
use Rattle.link_lists.proofs.Chains.{walked_chain}

-- ---- the lists

pub row_below : (ls : List (List ℕ)) (l c : ℕ) → has (row ls l) c ≡ true → l < length ls
row_below ls l c h = elim (cases_lt l (length ls)) [
  | inl lt ↦ lt
  | inr le
      ↦ absurd (both_ways (has (row ls l) c) (ap (λ xs. has xs c) (get_or_past ls l [] le)) h)
]

module _ (n cells : ℕ) (f g : ℕ → ℕ) (ls : List (List ℕ)) (r : Rep n cells f g ls) where
  -- the view gives the lists
  pub rows_seen : rows_of n cells f ≡ ls
  unfolding rows_of
  rows_seen =
      sym (fill_by_all (λ l. walked cells f n (f l)) ls n [] r.count
      (λ l lt. sym
      (walked_chain n cells f g l (row ls l) l (r.chains l lt) lt
      (once_length cells (row ls l) (r.once l) (r.below l)))))

  near_below : (l i : ℕ) → l < n → (i ≡ l) ⊎ ((d : ℕ) × (has (row ls l) d ≡ true) × (i ≡ n + d))
      → i < n + cells
  near_below l i lt h = elim h [
    | inl e ↦ omega arith
    | inr p ↦ let b = r.below l p.0 p.1 in let e = p.2 in omega arith
  ]

  near_apart : (l m i : ℕ) → l < n → m < n → (m ≡ l → ⊥) → (i ≡ l)
      ⊎ ((d : ℕ) × (has (row ls l) d ≡ true) × (i ≡ n + d)) → m ≡ i → ⊥
  near_apart l m i lt mt ne h q =
      elim h [ inl e ↦ ne (q ∙ e) | inr p ↦ let e = p.2 in omega arith ]

  near_cell_apart : (l m i d : ℕ) → l < n → (m ≡ l → ⊥) → (i ≡ l)
      ⊎ ((d : ℕ) × (has (row ls l) d ≡ true) × (i ≡ n + d)) → has (row ls m) d ≡ true → n + d ≡ i
      → ⊥
  near_cell_apart l m i d lt ne h hd q = elim h [
    | inl e ↦ omega arith
    | inr p ↦
        let e = p.2 in
        let s : p.0 ≡ d = omega arith in
        ne (r.apart m l d hd (subst (λ k. has (row ls l) k ≡ true) s p.1))
  ]

  head_apart : (l : ℕ) → l < n → (d : ℕ) → has (row ls l) d ≡ true → l ≡ n + d → ⊥
  head_apart l lt d h q = omega arith

  pub first_at : (l : ℕ) → l < n → first (row ls l) ≡ cond (nat_lt (f l) n) None (Some (f l - n))
  first_at l lt = first_is n f g l (row ls l) l (r.chains l lt) lt

  pub first_below : (l : ℕ) → l < n → f l < n + cells
  first_below l lt = near_below l (f l) lt (first_near n f g l (row ls l) l (r.chains l lt))

  module _ (c l : ℕ) (h : has (row ls l) c ≡ true) where
    pub lt : l < n
    lt = subst (λ k. l < k) r.count (row_below ls l c h)

    prev_near : (g (n + c) ≡ l) ⊎ ((d : ℕ) × (has (row ls l) d ≡ true) × (g (n + c) ≡ n + d))
    prev_near = prev_in n f g l (row ls l) l c (r.chains l lt) h

    next_near : (f (n + c) ≡ l) ⊎ ((d : ℕ) × (has (row ls l) d ≡ true) × (f (n + c) ≡ n + d))
    next_near = next_in n f g l (row ls l) l c (r.chains l lt) h

    pub prev_below : g (n + c) < n + cells
    prev_below = near_below l (g (n + c)) lt prev_near

    pub next_below : f (n + c) < n + cells
    next_below = near_below l (f (n + c)) lt next_near

    pub cell_below : c < cells
    cell_below = r.below l c h

    pub following_at : following c (row ls l)
        ≡ cond (nat_lt (f (n + c)) n) None (Some (f (n + c) - n))
    following_at = following_is n f g l (row ls l) l c (r.chains l lt) (r.once l) lt h

    pub preceding_at : preceding c (row ls l)
        ≡ cond (nat_lt (g (n + c)) n) None (Some (g (n + c) - n))
    preceding_at =
        preceding_is n f g None l (row ls l) l c
        (sym (ap (λ t. cond t None (Some (l - n))) (lt-ltb l n lt))) (r.chains l lt) h

    pub cut_rows : Rep n cells (with_at f (g (n + c)) (f (n + c)))
        (with_at g (f (n + c)) (g (n + c))) (map (without c) ls)
    cut_rows = record {
      count = length-map ls (without c) ∙ r.count;
      chains =
          λ m mt. subst
          (λ xs. Chain (with_at f (g (n + c)) (f (n + c))) (with_at g (f (n + c)) (g (n + c))) n m
          xs m) (sym (row-without c ls m)) (elim (cases_eq m l) [
            | inl e
                ↦ subst
                (λ k. Chain (with_at f (g (n + c)) (f (n + c)))
                (with_at g (f (n + c)) (g (n + c))) n k
                (without c (row ls k)) k) (sym e) this
            | inr ne
                ↦ subst
                (λ xs. Chain (with_at f (g (n + c)) (f (n + c)))
                (with_at g (f (n + c)) (g (n + c))) n m
                xs m)
                (sym
                (without-none c (row ls m)
                (false_from_ne_true (has (row ls m) c) (λ q. ne (r.apart m l c q h)))))
                (other m mt ne)
          ]);
      once =
          λ m. subst IsOnce (sym (row-without c ls m)) (IsOnce-without c (row ls m) (r.once m));
      apart = λ m k d p q. r.apart m k d (still m d p) (still k d q);
      below = λ m d p. r.below m d (still m d p);
    }
      where
        still : (m d : ℕ) → has (row (map (without c) ls) m) d ≡ true → has (row ls m) d ≡ true
        still m d p =
            (and_parts (has (row ls m) d) (not (c == d))
            (sym (has-without c (row ls m) d)
            ∙ (sym (ap (λ xs. has xs d) (row-without c ls m)) ∙ p))).0

        this : Chain (with_at f (g (n + c)) (f (n + c))) (with_at g (f (n + c)) (g (n + c))) n l
            (without c (row ls l)) l
        this =
            cut n f g (with_at f (g (n + c)) (f (n + c))) (with_at g (f (n + c)) (g (n + c))) l
            (row ls l) l c
            (λ i ne. with_at-other f (g (n + c)) (f (n + c)) i ne)
            (with_at-same f (g (n + c)) (f (n + c)))
            (λ i ne. with_at-other g (f (n + c)) (g (n + c)) i ne)
            (with_at-same g (f (n + c)) (g (n + c)))
            (r.once l) (head_apart l lt) lt h (r.chains l lt)

        other : (m : ℕ) → m < n → (m ≡ l → ⊥)
            → Chain (with_at f (g (n + c)) (f (n + c))) (with_at g (f (n + c)) (g (n + c))) n m
            (row ls m) m
        other m mt ne =
            agree n f g (with_at f (g (n + c)) (f (n + c))) (with_at g (f (n + c)) (g (n + c))) m
            (row ls m) m
            (with_at-other f (g (n + c)) (f (n + c)) m
            (near_apart l m (g (n + c)) lt mt ne prev_near))
            (λ d hd. with_at-other f (g (n + c)) (f (n + c)) (n + d)
            (near_cell_apart l m (g (n + c)) d lt ne prev_near hd))
            (with_at-other g (f (n + c)) (g (n + c)) m
            (near_apart l m (f (n + c)) lt mt ne next_near))
            (λ d hd. with_at-other g (f (n + c)) (g (n + c)) (n + d)
            (near_cell_apart l m (f (n + c)) d lt ne next_near hd))
            (r.chains m mt)

    -- the cell keeps its own links, and from them the earlier links are restored
    pub keeps_next : with_at f (g (n + c)) (f (n + c)) (n + c) ≡ f (n + c)
    keeps_next =
        with_at-other f (g (n + c)) (f (n + c)) (n + c)
        (not_prev n f g l (row ls l) l c (r.chains l lt) (r.once l) (head_apart l lt) h)

    pub keeps_prev : with_at g (f (n + c)) (g (n + c)) (n + c) ≡ g (n + c)
    keeps_prev =
        with_at-other g (f (n + c)) (g (n + c)) (n + c)
        (not_next n f g l (row ls l) l c (r.chains l lt) (r.once l) lt h)

    pub next_again : next_back n (with_at f (g (n + c)) (f (n + c)))
        (with_at g (f (n + c)) (g (n + c))) c ≡ f
    next_again =
        ap (λ p. with_at (with_at f (g (n + c)) (f (n + c))) p (n + c)) keeps_prev
        ∙ with_at-back f (g (n + c)) (f (n + c)) (n + c)
        (forth n f g l (row ls l) l c (r.chains l lt) h)

    pub prev_again : prev_back n (with_at f (g (n + c)) (f (n + c)))
        (with_at g (f (n + c)) (g (n + c))) c ≡ g
    prev_again =
        ap (λ p. with_at (with_at g (f (n + c)) (g (n + c))) p (n + c)) keeps_next
        ∙ with_at-back g (f (n + c)) (g (n + c)) (n + c)
        (back n f g l (row ls l) l c (r.chains l lt) h)

module _ (n cells : ℕ) (f g : ℕ → ℕ) (ls : List (List ℕ)) (r : Rep n cells f g ls) (l c : ℕ)
    (lt : l < n) (few : c < cells) (free : (m : ℕ) → has (row ls m) c ≡ false) where
  pub last_near : (g l ≡ l) ⊎ ((d : ℕ) × (has (row ls l) d ≡ true) × (g l ≡ n + d))
  last_near = last_in n f g l (row ls l) l (r.chains l lt)

  pub last_below : g l < n + cells
  last_below = near_below n cells f g ls r l (g l) lt last_near

  abbrev f' : ℕ → ℕ
  f' = with_at (with_at f (g l) (n + c)) (n + c) l

  abbrev g' : ℕ → ℕ
  g' = with_at (with_at g (n + c) (g l)) l (n + c)

  last_other : g l ≡ n + c → ⊥
  last_other q = elim last_near [
    | inl e ↦ omega arith
    | inr p ↦
        let e = p.2 in
        let s : p.0 ≡ c = omega arith in
        both_ways (has (row ls l) c) (free l) (subst (λ k. has (row ls l) k ≡ true) s p.1)
  ]

  f_at : (i : ℕ) → (i ≡ g l → ⊥) → (i ≡ n + c → ⊥) → f' i ≡ f i
  f_at i a b = with_at-other (with_at f (g l) (n + c)) (n + c) l i b
      ∙ with_at-other f (g l) (n + c) i a

  g_at : (i : ℕ) → (i ≡ l → ⊥) → (i ≡ n + c → ⊥) → g' i ≡ g i
  g_at i a b = with_at-other (with_at g (n + c) (g l)) l (n + c) i a
      ∙ with_at-other g (n + c) (g l) i b

  cell_other : (m d : ℕ) → has (row ls m) d ≡ true → n + d ≡ n + c → ⊥
  cell_other m d h q =
      let s : d ≡ c = omega arith in
      both_ways (has (row ls m) c) (free m) (subst (λ k. has (row ls m) k ≡ true) s h)

  this : Chain f' g' n l (row ls l ++ c ∷ []) l
  this = grown n f g f' g' l (row ls l) l c f_at
      (with_at-other (with_at f (g l) (n + c)) (n + c) l (g l) last_other
      ∙ with_at-same f (g l) (n + c))
      (with_at-same (with_at f (g l) (n + c)) (n + c) l)
      g_at
      (with_at-same (with_at g (n + c) (g l)) l (n + c))
      (with_at-other (with_at g (n + c) (g l)) l (n + c) (n + c) (λ q. omega arith)
      ∙ with_at-same g (n + c) (g l))
      (r.once l) (head_apart n cells f g ls r l lt) lt (λ q. omega arith) (free l) (r.chains l lt)

  other : (m : ℕ) → m < n → (m ≡ l → ⊥) → Chain f' g' n m (row ls m) m
  other m mt ne = agree n f g f' g' m (row ls m) m
      (f_at m (near_apart n cells f g ls r l m (g l) lt mt ne last_near) (λ q. omega arith))
      (λ d hd. f_at (n + d) (near_cell_apart n cells f g ls r l m (g l) d lt ne last_near hd)
      (cell_other m d hd))
      (g_at m ne (λ q. omega arith))
      (λ d hd. g_at (n + d) (λ q. omega arith) (cell_other m d hd))
      (r.chains m mt)

  -- what is in a list after that, other than c
  before_push : (m d : ℕ) → has (row (pushed ls l c) m) d ≡ true → (has (row ls m) d ≡ true)
      ⊎ ((m ≡ l) × (d ≡ c))
  before_push m d h = elim (cases_eq m l) [
    | inl e ↦
        let p : has (row ls l ++ c ∷ []) d ≡ true =
        sym (ap (λ xs. has xs d)
        (ap (row (pushed ls l c)) e ∙ row-pushed ls l c (subst (λ k. l < k) (sym r.count) lt)))
        ∙ h in
        elim
        (or_cases (has (row ls l) d) (has (c ∷ []) d)
        (sym (has-append (row ls l) (c ∷ []) d) ∙ p)) [
          | inl q ↦ inl (ap (λ k. has (row ls k) d) e ∙ q)
          | inr q
              ↦ inr (
                e,
                elim (or_cases (c == d) false q) [
                  | inl s ↦ sym (eqb-true c d s)
                  | inr never
                      ↦ absurd (both_ways false refl never)
                ],
              )
        ]
    | inr ne ↦ inl (sym (ap (λ xs. has xs d) (row-pushed_other ls l m c ne)) ∙ h)
  ]

  pub push_rows : Rep n cells (with_at (with_at f (g l) (n + c)) (n + c) l)
      (with_at (with_at g (n + c) (g l)) l (n + c)) (pushed ls l c)
  push_rows = record {
    count = length-pushed ls l c ∙ r.count;
    chains = λ m mt. elim (cases_eq m l) [
      | inl e ↦ subst (λ k. Chain f' g' n k (row (pushed ls l c) k) k) (sym e)
          (subst (λ xs. Chain f' g' n l xs l)
          (sym (row-pushed ls l c (subst (λ k. l < k) (sym r.count) lt))) this)
      | inr ne
          ↦ subst (λ xs. Chain f' g' n m xs m) (sym (row-pushed_other ls l m c ne))
          (other m mt ne)
    ];
    once = λ m. elim (cases_eq m l) [
      | inl e ↦ subst (λ k. IsOnce (row (pushed ls l c) k)) (sym e)
          (subst IsOnce (sym (row-pushed ls l c (subst (λ k. l < k) (sym r.count) lt)))
          (IsOnce-push (row ls l) c (r.once l) (free l)))
      | inr ne ↦ subst IsOnce (sym (row-pushed_other ls l m c ne)) (r.once m)
    ];
    apart = λ m k d p q. elim (before_push m d p) [
      | inl a ↦ elim (before_push k d q) [
        | inl b ↦ r.apart m k d a b
        | inr b
            ↦ absurd
            (both_ways (has (row ls m) c) (free m) (subst (λ i. has (row ls m) i ≡ true) b.1 a))
      ]
      | inr a ↦ elim (before_push k d q) [
        | inl b
            ↦ absurd
            (both_ways (has (row ls k) c) (free k) (subst (λ i. has (row ls k) i ≡ true) a.1 b))
        | inr b ↦ a.0 ∙ sym b.0
      ]
    ];
    below =
        λ m d p. elim (before_push m d p)
        [ inl a ↦ r.below m d a | inr a ↦ subst (λ k. k < cells) (sym a.1) few ];
  }

-- ---- no cells at all

row-replicate : (n l : ℕ) → row (replicate n []) l ≡ []
row-replicate n l = elim (cases_lt l n) [
  | inl low ↦ get_or-replicate n l [] [] low
  | inr le ↦ get_or_past (replicate n []) l []
      (let e = length-replicate {A = List ℕ} n [] in omega arith)
]

pub open_rows : (n cells : ℕ) (f g : ℕ → ℕ) → ((l : ℕ) → l < n → f l ≡ l)
    → ((l : ℕ) → l < n → g l ≡ l) → Rep n cells f g (replicate n [])
open_rows n cells f g ef eg = record {
  count = length-replicate n [];
  chains = λ l lt. subst (λ xs. Chain f g n l xs l) (sym (row-replicate n l)) (ef l lt, eg l lt);
  once = λ l. subst IsOnce (sym (row-replicate n l)) tt;
  apart = λ l m c p q. absurd (none l c p);
  below = λ l c p. absurd (none l c p);
}
  where
    none : (l c : ℕ) → has (row (replicate n []) l) c ≡ true → ⊥
    none l c p = both_ways false refl (sym (ap (λ xs. has xs c) (row-replicate n l)) ∙ p)

-- ---- a cell put before another

module _ (n cells : ℕ) (f g : ℕ → ℕ) (ls : List (List ℕ)) (r : Rep n cells f g ls) (l c b : ℕ)
    (hb : has (row ls l) b ≡ true) (few : c < cells)
    (free : (m : ℕ) → has (row ls m) c ≡ false) where
  low : l < n
  low = lt n cells f g ls r b l hb

  before_near : (g (n + b) ≡ l) ⊎ ((d : ℕ) × (has (row ls l) d ≡ true) × (g (n + b) ≡ n + d))
  before_near = prev_near n cells f g ls r b l hb

  abbrev f'' : ℕ → ℕ
  f'' = with_at (with_at f (g (n + b)) (n + c)) (n + c) (n + b)

  abbrev g'' : ℕ → ℕ
  g'' = with_at (with_at g (n + c) (g (n + b))) (n + b) (n + c)

  -- no cell is c
  never : (m d : ℕ) → has (row ls m) d ≡ true → n + d ≡ n + c → ⊥
  never m d h q =
      let s : d ≡ c = omega arith in
      both_ways (has (row ls m) c) (free m) (subst (λ k. has (row ls m) k ≡ true) s h)

  before_other : g (n + b) ≡ n + c → ⊥
  before_other q = elim before_near [
    | inl e ↦ let z = low in omega arith
    | inr p ↦ never l p.0 p.1 (sym p.2 ∙ q)
  ]

  f_put : (i : ℕ) → (i ≡ g (n + b) → ⊥) → (i ≡ n + c → ⊥) → f'' i ≡ f i
  f_put i x y = with_at-other (with_at f (g (n + b)) (n + c)) (n + c) (n + b) i y
      ∙ with_at-other f (g (n + b)) (n + c) i x

  g_put : (i : ℕ) → (i ≡ n + b → ⊥) → (i ≡ n + c → ⊥) → g'' i ≡ g i
  g_put i x y = with_at-other (with_at g (n + c) (g (n + b))) (n + b) (n + c) i x
      ∙ with_at-other g (n + c) (g (n + b)) i y

  this_put : Chain f'' g'' n l (inserted c b (row ls l)) l
  this_put = placed n f g f'' g'' l (row ls l) l c b f_put
      (with_at-other (with_at f (g (n + b)) (n + c)) (n + c) (n + b) (g (n + b)) before_other
      ∙ with_at-same f (g (n + b)) (n + c))
      (with_at-same (with_at f (g (n + b)) (n + c)) (n + c) (n + b))
      g_put
      (with_at-same (with_at g (n + c) (g (n + b))) (n + b) (n + c))
      (with_at-other (with_at g (n + c) (g (n + b))) (n + b) (n + c) (n + c)
      (λ q. never l b hb (sym q)) ∙ with_at-same g (n + c) (g (n + b)))
      (r.once l) (head_apart n cells f g ls r l low) low (λ q. let z = low in omega arith)
      (free l)
      hb (r.chains l low)

  other_put : (m : ℕ) → m < n → (m ≡ l → ⊥) → Chain f'' g'' n m (row ls m) m
  other_put m mt ne = agree n f g f'' g'' m (row ls m) m
      (f_put m (near_apart n cells f g ls r l m (g (n + b)) low mt ne before_near)
      (λ q. omega arith))
      (λ d hd. f_put (n + d)
      (near_cell_apart n cells f g ls r l m (g (n + b)) d low ne before_near hd) (never m d hd))
      (g_put m (λ q. omega arith) (λ q. omega arith))
      (λ d hd. g_put (n + d) (λ q. let s : d ≡ b =
      omega arith in ne (r.apart m l b (subst (λ k. has (row ls m) k ≡ true) s hd) hb))
      (never m d hd))
      (r.chains m mt)

  was : (m d : ℕ) → has (row (map (inserted c b) ls) m) d ≡ true → (has (row ls m) d ≡ true)
      ⊎ ((d ≡ c) × (has (row ls m) b ≡ true))
  was m d h =
      has-inserted c b (row ls m) d (sym (ap (λ xs. has xs d) (row-inserted c b ls m)) ∙ h)

  pub insert_rows : Rep n cells (with_at (with_at f (g (n + b)) (n + c)) (n + c) (n + b))
      (with_at (with_at g (n + c) (g (n + b))) (n + b) (n + c)) (map (inserted c b) ls)
  insert_rows = record {
    count = length-map ls (inserted c b) ∙ r.count;
    chains =
        λ m mt. subst (λ xs. Chain f'' g'' n m xs m) (sym (row-inserted c b ls m))
        (elim (cases_eq m l) [
          | inl e ↦ subst (λ k. Chain f'' g'' n k (inserted c b (row ls k)) k) (sym e) this_put
          | inr ne
              ↦ subst (λ xs. Chain f'' g'' n m xs m)
              (sym
              (inserted-none c b (row ls m)
              (false_from_ne_true (has (row ls m) b) (λ q. ne (r.apart m l b q hb)))))
              (other_put m mt ne)
        ]);
    once =
        λ m. subst IsOnce (sym (row-inserted c b ls m))
        (IsOnce-inserted c b (row ls m) (free m) (r.once m));
    apart = λ m k d p q. elim (was m d p) [
      | inl x ↦ elim (was k d q) [
        | inl y ↦ r.apart m k d x y
        | inr y
            ↦ absurd
            (both_ways (has (row ls m) c) (free m) (subst (λ i. has (row ls m) i ≡ true) y.0 x))
      ]
      | inr x ↦ elim (was k d q) [
        | inl y
            ↦ absurd
            (both_ways (has (row ls k) c) (free k) (subst (λ i. has (row ls k) i ≡ true) x.0 y))
        | inr y ↦ r.apart m k b x.1 y.1
      ]
    ];
    below =
        λ m d p. elim (was m d p)
        [ inl x ↦ r.below m d x | inr x ↦ subst (λ k. k < cells) (sym x.0) few ];
  }
