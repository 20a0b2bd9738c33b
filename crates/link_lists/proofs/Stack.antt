-- The stack of the unlinked cells: what memory has after each of them is put back.
use Rattle.std.proofs.Common.{◌≡◌, ℕ, ◌+◌, ◌<◌, ◌==◌, true, false, not, ◌&&◌, List, [], ◌∷◌, length}
use Rattle.std.proofs.Common.{map, refl, sym, ap, ap₂, ◌∙◌, subst, inl, inr, eqb-true}
use Rattle.std.proofs.lemmas.Bool.{or_cases, or_from, and_parts, both_ways, not-true}
use Rattle.link_lists.specs.Lists.{row, has, without, IsOnce}
use Rattle.link_lists.specs.Links.{with_at, Rep, Saved, next_back, prev_back, Holds, cells_of}
use Rattle.link_lists.specs.Links.{saved_of}
use Rattle.link_lists.proofs.Cells.{has-without, once_length, row-without}
use Rattle.link_lists.proofs.Represents.{rows_seen, cut_rows, keeps_next, keeps_prev, next_again}
use Rattle.link_lists.proofs.Represents.{prev_again, prev_below, next_below}

-- ---- the stack

pub holds_rep : (n cells : ℕ) (f g : ℕ → ℕ) (ls : List (List ℕ)) (st : List Saved)
    → Holds n cells f g ls st → Rep n cells f g ls
holds_rep n cells f g ls [] h = h
holds_rep n cells f g ls (s ∷ st) h = h.0

pub unlink_holds : (n cells : ℕ) (f g : ℕ → ℕ) (ls : List (List ℕ)) (st : List Saved) (c l : ℕ)
    → has (row ls l) c ≡ true → Holds n cells f g ls st
    → Holds n cells (with_at f (g (n + c)) (f (n + c))) (with_at g (f (n + c)) (g (n + c)))
    (map (without c) ls) (record { cell = c; before = ls } ∷ st)
unlink_holds n cells f g ls st c l q h =
    let r = holds_rep n cells f g ls st h in
    let f' = with_at f (g (n + c)) (f (n + c)) in
    let g' = with_at g (f (n + c)) (g (n + c)) in (
      cut_rows n cells f g ls r c l q,
      record {
        listed = record { list = l; there = q };
        gone = refl;
        near_prev =
            subst (λ i. i < n + cells) (sym (keeps_prev n cells f g ls r c l q))
            (prev_below n cells f g ls r c l q);
        near_next =
            subst (λ i. i < n + cells) (sym (keeps_next n cells f g ls r c l q))
            (next_below n cells f g ls r c l q);
      },
      subst (λ k. Holds n cells k (prev_back n f' g' c) ls st)
          (sym (next_again n cells f g ls r c l q))
          (subst (λ k. Holds n cells f k ls st) (sym (prev_again n cells f g ls r c l q)) h),
    )

pub saved_seen : (n cells : ℕ) (f g : ℕ → ℕ) (ls : List (List ℕ)) (st : List Saved)
    → Holds n cells f g ls st → saved_of n cells f g (cells_of st) ≡ st
saved_seen n cells f g ls [] h = refl
saved_seen n cells f g ls (s ∷ st) h =
    let r = holds_rep n cells (next_back n f g s.cell) (prev_back n f g s.cell) s.before st h.2 in
    ap₂ (λ b t. record { cell = s.cell; before = b } ∷ t)
    (rows_seen n cells (next_back n f g s.cell) (prev_back n f g s.cell) s.before r)
    (saved_seen n cells (next_back n f g s.cell) (prev_back n f g s.cell) s.before st h.2)

pub cells_saved : (n cells : ℕ) (f g : ℕ → ℕ) (cs : List ℕ)
    → cells_of (saved_of n cells f g cs) ≡ cs
cells_saved n cells f g [] = refl
cells_saved n cells f g (c ∷ cs) =
    ap (λ ds. c ∷ ds) (cells_saved n cells (next_back n f g c) (prev_back n f g c) cs)

-- a listed cell is not on the stack
off_stack : (n cells : ℕ) (f g : ℕ → ℕ) (ls : List (List ℕ)) (st : List Saved) (c l : ℕ)
    → Holds n cells f g ls st → has (row ls l) c ≡ true → has (cells_of st) c ≡ false
off_stack n cells f g ls [] c l h q = refl
off_stack n cells f g ls (s ∷ st) c l h q =
    let e : has (row ls l) c ≡ (has (row s.before l) c && not (s.cell == c)) =
    ap (λ k. has (row k l) c) h.1.gone
    ∙ (ap (λ xs. has xs c) (row-without s.cell s.before l)
    ∙ has-without s.cell (row s.before l) c) in
    let p = and_parts (has (row s.before l) c) (not (s.cell == c)) (sym e ∙ q) in
    or_from (s.cell == c) (has (cells_of st) c) (not-true (s.cell == c) p.1)
    (off_stack n cells (next_back n f g s.cell) (prev_back n f g s.cell) s.before st c l h.2 p.0)

stack_once : (n cells : ℕ) (f g : ℕ → ℕ) (ls : List (List ℕ)) (st : List Saved)
    → Holds n cells f g ls st → IsOnce (cells_of st)
stack_once n cells f g ls [] h = tt
stack_once n cells f g ls (s ∷ st) h = (
  off_stack n cells (next_back n f g s.cell) (prev_back n f g s.cell) s.before st s.cell
      h.1.listed.list h.2 h.1.listed.there,
  stack_once n cells (next_back n f g s.cell) (prev_back n f g s.cell) s.before st h.2,
)

stack_below : (n cells : ℕ) (f g : ℕ → ℕ) (ls : List (List ℕ)) (st : List Saved)
    → Holds n cells f g ls st → (c : ℕ) → has (cells_of st) c ≡ true → c < cells
stack_below n cells f g ls [] h c q = absurd (both_ways false refl q)
stack_below n cells f g ls (s ∷ st) h c q = elim (or_cases (s.cell == c) (has (cells_of st) c) q) [
  | inl e ↦
      let r = holds_rep n cells (next_back n f g s.cell) (prev_back n f g s.cell) s.before st h.2 in
      subst (λ k. k < cells) (eqb-true s.cell c e) (r.below h.1.listed.list s.cell h.1.listed.there)
  | inr t ↦ stack_below n cells (next_back n f g s.cell) (prev_back n f g s.cell) s.before st h.2 c
      t
]

-- there is room on the stack for a listed cell
pub stack_room : (n cells : ℕ) (f g : ℕ → ℕ) (ls : List (List ℕ)) (st : List Saved) (c l : ℕ)
    → Holds n cells f g ls st → has (row ls l) c ≡ true → length (cells_of st) < cells
stack_room n cells f g ls st c l h q =
    once_length cells (c ∷ cells_of st)
    (off_stack n cells f g ls st c l h q, stack_once n cells f g ls st h)
    (λ d e. elim (or_cases (c == d) (has (cells_of st) d) e) [
      | inl s ↦ subst (λ k. k < cells) (eqb-true c d s)
          ((holds_rep n cells f g ls st h).below l c q)
      | inr t ↦ stack_below n cells f g ls st h d t
    ])
