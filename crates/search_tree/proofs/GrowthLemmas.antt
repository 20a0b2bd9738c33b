-- Pools to which leaves are added, and of which leaves are shut.
use Rattle.std.proofs.Common.{◌≡◌, ℕ, ◌+◌, ◌<◌, ◌≤◌, ◌==◌, Bool, true, false, cond, not, List, []}
use Rattle.std.proofs.Common.{◌∷◌, ◌++◌, length, slice_set, refl, sym, ap, ◌∙◌, subst, arith, inl}
use Rattle.std.proofs.Common.{inr, ◌⊎◌, Option, Some, eq-eqb, ne_eqb, length-append, append_assoc}
use Rattle.std.proofs.lemmas.Bool.{and_parts, and_from, both_ways, cases_eq, false_from_ne_true}
use Rattle.std.proofs.lemmas.Bool.{not-true, or_cases, or_left}
use Rattle.std.proofs.lemmas.List.{get_or_append_left, length-set}
use Rattle.node_pool.specs.link_lists.Lists.{has, without}
use Rattle.node_pool.proofs.link_lists.Cited.{has-here, has-later, has-without}
use Rattle.node_pool.specs.exact_numbers.declared.number.Mixed.{Mixed}
use Rattle.node_pool.specs.Order.{is_at_least, placed}
use Rattle.node_pool.specs.Pooled.{Pooled, IsShut, IsWithLeaf, with_shut, with_payload}
use Rattle.node_pool.proofs.Cited.{has-placed}
use Rattle.search_tree.specs.declared.growth.Fresh.{Fresh}
use Rattle.search_tree.specs.Cells.{Cell, no_cell, cell_at}
use Rattle.search_tree.specs.Growth.{is_open, AreOpenAfter, cells_in_turn, values_in_turn}

pub placed_new : (vs : List Mixed) (v : Mixed) (c : ℕ) (xs : List ℕ)
    → has (placed vs v c xs) c ≡ true
placed_new vs v c [] = has-here c []
placed_new vs v c (x ∷ xs) = by (is_at_least vs v x) (placed_new vs v c xs)
  where
    by : (b : Bool) → has (placed vs v c xs) c ≡ true
        → has (cond b (c ∷ x ∷ xs) (x ∷ placed vs v c xs)) c ≡ true
    by true h = has-here c (x ∷ xs)
    by false h = has-later x c (placed vs v c xs) h

without_parts : (c : ℕ) (xs : List ℕ) (j : ℕ) → has (without c xs) j ≡ true → (has xs j ≡ true)
    × (j ≡ c → ⊥)
without_parts c xs j h =
    let p = and_parts (has xs j) (not (c == j)) (sym (has-without c xs j) ∙ h) in
    (p.0, λ e. both_ways (c == j) (not-true (c == j) p.1) (eq-eqb c j (sym e)))

-- a leaf that is taken out is gone
pub without_gone : (c : ℕ) (xs : List ℕ) → has (without c xs) c ≡ false
without_gone c xs = false_from_ne_true (has (without c xs) c) (λ h. (without_parts c xs c h).1 refl)

module _ (old new : Pooled Cell) (leaf : ℕ) (v : Mixed) (x : Cell)
    (added : IsWithLeaf old (Some leaf) v x new) where
  pub new_leaf : has new.leaves (length old.parents) ≡ true
  new_leaf = ap (λ xs. has xs (length old.parents)) added.leaves
      ∙ placed_new old.values v (length old.parents) old.leaves

  leaf_parts : (j : ℕ) → has new.leaves j ≡ true → (j ≡ length old.parents)
      ⊎ (has old.leaves j ≡ true)
  leaf_parts j h =
      has-placed old.values v (length old.parents) old.leaves j
      (sym (ap (λ xs. has xs j) added.leaves) ∙ h)

  pub added_shut : IsShut old leaf → IsShut new leaf
  added_shut s =
      let there = s.there in record {
        there = let e = ap (λ (ps : List (Option ℕ)). length ps) added.parents
            ∙ length-append old.parents (Some leaf ∷ []) in omega (arith, there, e);
        out = false_from_ne_true (has new.leaves leaf) (λ t. elim (leaf_parts leaf t) [
          | inl e ↦ omega (arith, there, e)
          | inr h ↦ both_ways (has old.leaves leaf) s.out h
        ]);
      }

pub shut_stays : (p : Pooled Cell) (id leaf : ℕ) → IsShut p leaf → IsShut (with_shut p id) leaf
shut_stays p id leaf s = record {
  there = s.there;
  out =
      false_from_ne_true (has (without id p.leaves) leaf)
      (λ t. both_ways (has p.leaves leaf) s.out (without_parts id p.leaves leaf t).0);
}

pub shut_now : (p : Pooled Cell) (leaf : ℕ) (x : Cell) → leaf < length p.parents
    → IsShut (with_payload (with_shut p leaf) leaf x) leaf
shut_now p leaf x lt = record {
  there = lt;
  out = without_gone leaf p.leaves;
}

-- ---- which leaves are open
placed_keeps : (vs : List Mixed) (v : Mixed) (c : ℕ) (xs : List ℕ) (d : ℕ) → has xs d ≡ true
    → has (placed vs v c xs) d ≡ true
placed_keeps vs v c [] d h = absurd (both_ways false refl h)
placed_keeps vs v c (x ∷ xs) d h = by (is_at_least vs v x) (λ t. placed_keeps vs v c xs d t)
  where
    by : (b : Bool) → (has xs d ≡ true → has (placed vs v c xs) d ≡ true)
        → has (cond b (c ∷ x ∷ xs) (x ∷ placed vs v c xs)) d ≡ true
    by true ih = has-later c d (x ∷ xs) h
    by false ih =
        elim (or_cases (x == d) (has xs d) h) [
          | inl e ↦ or_left (x == d) (has (placed vs v c xs) d) e
          | inr t
              ↦ has-later x d (placed vs v c xs) (ih t)
        ]

-- two tests that say yes together
together : (a b : Bool) → (a ≡ true → b ≡ true) → (b ≡ true → a ≡ true) → a ≡ b
together true true f g = refl
together true false f g = sym (f refl)
together false true f g = g refl
together false false f g = refl

cell-old : (cells : List Cell) (x : Cell) (j : ℕ) → j < length cells
    → cell_at (cells ++ x ∷ []) j ≡ cell_at cells j
cell-old cells x j lt = get_or_append_left cells (x ∷ []) no_cell j lt

cell-new : (cells : List Cell) (x : Cell) → cell_at (cells ++ x ∷ []) (length cells) ≡ x
cell-new [] x = refl
cell-new (c ∷ cs) x = cell-new cs x

-- the other leaves stay if one is taken out
pub others_stay : (leaf : ℕ) (xs : List ℕ) (j : ℕ) → (j ≡ leaf → ⊥)
    → has (without leaf xs) j ≡ has xs j
others_stay leaf xs j ne =
    together (has (without leaf xs) j) (has xs j) (λ h. (without_parts leaf xs j h).0)
    (λ h. has-without leaf xs j
    ∙ and_from (has xs j) (not (leaf == j)) h (ap not (ne_eqb leaf j (λ e. ne (sym e)))))

-- they stay if one is put in
pub placed_stays : (vs : List Mixed) (v : Mixed) (c : ℕ) (xs : List ℕ) (j : ℕ) → (j ≡ c → ⊥)
    → has (placed vs v c xs) j ≡ has xs j
placed_stays vs v c xs j ne =
    together (has (placed vs v c xs) j) (has xs j)
    (λ h. elim (has-placed vs v c xs j h) [ inl e ↦ absurd (ne e) | inr o ↦ o ])
    (λ h. placed_keeps vs v c xs j h)

module _ (old new : Pooled Cell) (leaf : ℕ) (v : Mixed) (x : Cell)
    (added : IsWithLeaf old (Some leaf) v x new)
    (same : length old.payloads ≡ length old.parents) where
  pub keeps_old : (j : ℕ) → j < length old.payloads → has new.leaves j ≡ has old.leaves j
  keeps_old j lt = ap (λ xs. has xs j) added.leaves
      ∙ placed_stays old.values v (length old.parents) old.leaves j
      (λ e. omega (arith, lt, e, same))

  pub open_added : is_open x.end ≡ true → has new.leaves (length old.payloads) ≡ is_open x.end
  open_added is = subst (λ i. has new.leaves i ≡ true) (sym same) (new_leaf old new leaf v x added)
      ∙ sym is

  module _ (id : ℕ) (is : id ≡ length old.parents) where
    pub shut_keeps : (j : ℕ) → j < length old.payloads
        → has (without id new.leaves) j ≡ has old.leaves j
    shut_keeps j lt = others_stay id new.leaves j (λ e. omega (arith, lt, e, is, same))
        ∙ keeps_old j lt

    pub shut_added : is_open x.end ≡ false
        → has (without id new.leaves) (length old.payloads) ≡ is_open x.end
    shut_added closed =
        false_from_ne_true (has (without id new.leaves) (length old.payloads))
        (λ h. (without_parts id new.leaves (length old.payloads) h).1 (same ∙ sym is)) ∙ sym closed

-- ---- children in turn
pub cells-push : (children : List Fresh) (f : Fresh)
    → cells_in_turn (children ++ f ∷ []) ≡ f.cell ∷ cells_in_turn children
cells-push [] f = refl
cells-push (k ∷ ks) f = ap (λ (cs : List Cell). cs ++ k.cell ∷ []) (cells-push ks f)

pub values-push : (children : List Fresh) (f : Fresh)
    → values_in_turn (children ++ f ∷ []) ≡ f.value ∷ values_in_turn children
values-push [] f = refl
values-push (k ∷ ks) f = ap (λ (vs : List Mixed). vs ++ k.value ∷ []) (values-push ks f)

-- what is to come finishes the pool, which grew out of the old one
pub record IsGrowing (old : Pooled Cell) (cells : List Cell) (values : List Mixed) (leaf : ℕ)
    (p : Pooled Cell) (children : List Fresh) : Type 0 where
  pub cells_are : p.payloads ++ cells_in_turn children ≡ cells
  pub values_are : p.values ++ values_in_turn children ≡ values
  pub parent : IsShut p leaf
  pub more : length old.payloads ≤ length p.payloads
  pub opens : AreOpenAfter old p leaf
  pub room : length children ≤ p.spare

-- it begins when the leaf is shut
pub grows_first : (old p : Pooled Cell) (leaf : ℕ) (d : Cell) (children : List Fresh)
    → p.payloads ≡ slice_set old.payloads leaf d → p.values ≡ old.values → IsShut p leaf
    → ((j : ℕ) → (j ≡ leaf → ⊥) → has p.leaves j ≡ has old.leaves j) → p.spare ≡ old.spare
    → length children ≤ old.spare
    → IsGrowing old (slice_set old.payloads leaf d ++ cells_in_turn children)
    (old.values ++ values_in_turn children) leaf p children
grows_first old p leaf d children pc pv s stay es room = record {
  cells_are = ap (λ (cs : List Cell). cs ++ cells_in_turn children) pc;
  values_are = ap (λ (vs : List Mixed). vs ++ values_in_turn children) pv;
  parent = s;
  more = omega (arith, many);
  opens = record {
    shut = s.out;
    others = λ j lt ne. stay j ne;
    fresh = λ j le lt. absurd (omega (arith, le, lt, many));
  };
  room = omega (arith, es, room);
}
  where
    many : length p.payloads ≡ length old.payloads
    many = ap (λ (cs : List Cell). length cs) pc ∙ length-set old.payloads leaf d

pub grows : (old : Pooled Cell) (cells : List Cell) (values : List Mixed) (leaf : ℕ)
    (p q : Pooled Cell) (children : List Fresh) (f : Fresh)
    → IsGrowing old cells values leaf p (children ++ f ∷ [])
    → q.payloads ≡ p.payloads ++ f.cell ∷ [] → q.values ≡ p.values ++ f.value ∷ [] → IsShut q leaf
    → has q.leaves (length p.payloads) ≡ is_open f.cell.end
    → ((j : ℕ) → j < length p.payloads → has q.leaves j ≡ has p.leaves j) → p.spare ≤ q.spare + 1
    → IsGrowing old cells values leaf q children
grows old cells values leaf p q children f g pc pv s new stay room = record {
  cells_are =
      ap (λ (cs : List Cell). cs ++ cells_in_turn children) pc
      ∙ (append_assoc p.payloads (f.cell ∷ []) (cells_in_turn children)
      ∙ (sym (ap (λ (cs : List Cell). p.payloads ++ cs) (cells-push children f))
      ∙ g.cells_are));
  values_are =
      ap (λ (vs : List Mixed). vs ++ values_in_turn children) pv
      ∙ (append_assoc p.values (f.value ∷ []) (values_in_turn children)
      ∙ (sym (ap (λ (vs : List Mixed). p.values ++ vs) (values-push children f))
      ∙ g.values_are));
  parent = s;
  more = let m = g.more in omega (arith, m, many);
  opens = record {
    shut = s.out;
    others = λ j lt ne. stay j (let m = g.more in omega (arith, lt, m)) ∙ g.opens.others j lt ne;
    fresh = λ j le lt. elim (cases_eq j (length p.payloads)) [
      | inl e ↦ subst (λ i. has q.leaves i ≡ is_open (cell_at q.payloads i).end) (sym e)
          (new ∙ sym (ap (λ (c : Cell). is_open c.end) here))
      | inr ne ↦
          let less : j < length p.payloads = omega (arith, lt, ne, many) in
          stay j less
          ∙ (g.opens.fresh j le less
          ∙ sym
          (ap (λ (c : Cell). is_open c.end)
          (ap (λ cs. cell_at cs j) pc ∙ cell-old p.payloads f.cell j less)))
    ];
  };
  room = let l = length-append children (f ∷ []) in let r = g.room in omega (arith, l, r, room);
}
  where
    many : length q.payloads ≡ length p.payloads + 1
    many = ap (λ (cs : List Cell). length cs) pc ∙ length-append p.payloads (f.cell ∷ [])

    here : cell_at q.payloads (length p.payloads) ≡ f.cell
    here = ap (λ cs. cell_at cs (length p.payloads)) pc ∙ cell-new p.payloads f.cell
