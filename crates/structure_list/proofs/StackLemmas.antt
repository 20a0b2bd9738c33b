-- A stack with a position more on top, and what becomes of it at a turn there.
use Rattle.std.proofs.Common.{◌≡◌, ℕ, suc, zero, ◌+◌, ◌*◌, ◌^◌, ◌<◌, ◌≤◌, Bool, true, false, List}
use Rattle.std.proofs.Common.{[], ◌∷◌, ◌++◌, length, sym, ap, ◌∙◌, subst, add-one, inl, inr, ◌⊎◌}
use Rattle.std.proofs.Common.{arith, Option, Some, None}
use Rattle.std.proofs.lemmas.Bool.{cases_Bool}
use Rattle.std.proofs.lemmas.List.{length_push}
use Rattle.std.proofs.lemmas.List.Sums.{sum_by_push}
use Rattle.std.proofs.Math.Pow.{pow_mono}
use Rattle.std.proofs.lemmas.Nat.{pow-add}
use Rattle.pgraph.specs.number_sets.Sets.{has, IsRising}
use Rattle.pgraph.specs.pns_rules.Shape.{Shape, IsProper}
use Rattle.pgraph.specs.pns_rules.Structure.{IsAllowed, IsUnion}
use Rattle.pgraph.specs.pns_rules.Trace.{IsBefore}
use Rattle.pgraph.specs.unit_sets.declared.node.Node.{Node}
use Rattle.structure_list.specs.declared.position.Position.{Position}
use Rattle.structure_list.specs.declared.turn.Turn.{Turn}
use Rattle.structure_list.specs.Position.{IsPosition, IsTurn, IsSettled, IsWithinNode, free_count}
use Rattle.structure_list.proofs.TurnLemmas.{turn_apart}
use Rattle.structure_list.specs.Family.{IsOf}
use Rattle.structure_list.specs.Tight.{IsTight, IsSide, IsForced}
use Rattle.structure_list.specs.Stack.{InStack, ArePlaced, IsStack, IsCut, HaveSame, Finds, weight}
use Rattle.structure_list.proofs.TightLemmas.{settled_is}

-- ---- one position more

-- what a position on top of the others keeps
pub record IsTop (g : Shape) (most k : ℕ) (ps : List Position) (q : Position) : Type 0 where
  pub position : IsPosition g q
  pub tight : IsTight g q.decided.node
  pub room : k + length ps + free_count g q.decided.node ≤ most
  pub before : (s t : ℕ → Bool) → IsOf g q.decided.node s → InStack g ps t → IsBefore g s t

module _ (g : Shape) where
  pub in_push : (ps : List Position) (q : Position) (s : ℕ → Bool) → InStack g (ps ++ q ∷ []) s
      → InStack g ps s ⊎ IsOf g q.decided.node s
  in_push [] q s h = elim h [ inl f ↦ inr f | inr none ↦ absurd none ]
  in_push (p ∷ ps) q s h = elim h [
    | inl f ↦ inl (inl f)
    | inr k ↦ elim (in_push ps q s k) [ inl a ↦ inl (inr a) | inr b ↦ inr b ]
  ]

  pub in_front : (ps : List Position) (q : Position) (s : ℕ → Bool) → InStack g ps s
      → InStack g (ps ++ q ∷ []) s
  in_front [] q s h = absurd h
  in_front (p ∷ ps) q s h = elim h [ inl f ↦ inl f | inr k ↦ inr (in_front ps q s k) ]

  pub in_last : (ps : List Position) (q : Position) (s : ℕ → Bool) → IsOf g q.decided.node s
      → InStack g (ps ++ q ∷ []) s
  in_last [] q s f = inl f
  in_last (p ∷ ps) q s f = inr (in_last ps q s f)

  pub placed_push : (most k : ℕ) (ps : List Position) (q : Position) → ArePlaced g most k ps
      → IsTop g most k ps q → ArePlaced g most k (ps ++ q ∷ [])
  placed_push most k [] q a t = let room =
      t.room in (
        record {
          position = t.position;
          tight = t.tight;
          room = omega (arith, room);
          before =
              λ s o h f. absurd h;
        },
        tt,
      )
  placed_push most k (p ∷ ps) q a t =
      let room = t.room in (
        record {
          position = a.0.position;
          tight = a.0.tight;
          room = a.0.room;
          before =
              λ s o h f. elim (in_push ps q s h)
              [ inl there ↦ a.0.before s o there f | inr top ↦ t.before s o top (inl f) ];
        },
        placed_push most (suc k) ps q a.1
            (record {
              position = t.position;
              tight = t.tight;
              room = omega (arith, room);
              before =
                  λ s o f h. t.before s o f (inr h);
            }),
      )

  pub placed_front : (most k : ℕ) (ps : List Position) (q : Position)
      → ArePlaced g most k (ps ++ q ∷ []) → ArePlaced g most k ps
  placed_front most k [] q a = tt
  placed_front most k (p ∷ ps) q a = (
    record {
      position = a.0.position;
      tight = a.0.tight;
      room = a.0.room;
      before =
          λ s o h f. a.0.before s o (in_front ps q s h) f;
    },
    placed_front most (suc k) ps q a.1,
  )

  pub placed_top : (most k : ℕ) (ps : List Position) (q : Position)
      → ArePlaced g most k (ps ++ q ∷ []) → IsTop g most k ps q
  placed_top most k [] q a = let room =
      a.0.room in
      record {
        position = a.0.position;
        tight = a.0.tight;
        room = omega (arith, room);
        before =
            λ s o f h. absurd h;
      }
  placed_top most k (p ∷ ps) q a =
      let t = placed_top most (suc k) ps q a.1 in
      let room = t.room in
      record {
        position = t.position;
        tight = t.tight;
        room = omega (arith, room);
        before =
            λ s o f h. elim h [
              | inl low ↦ a.0.before s o (in_last ps q s f) low
              | inr there
                  ↦ t.before s o f there
            ];
      }

-- ---- how much is below

pub weight_push : (g : Shape) (ps : List Position) (q : Position)
    → weight g (ps ++ q ∷ []) ≡ weight g ps + 2 ^ free_count g q.decided.node
unfolding weight
weight_push g ps q = sum_by_push (λ p. 2 ^ free_count g p.decided.node) ps q

two_below : (f a b : ℕ) → a < f → b < f → 2 ^ a + 2 ^ b ≤ 2 ^ f
two_below zero a b p q = absurd (omega (arith, p))
two_below (suc f) a b p q =
    let l : 2 ^ a ≤ 2 ^ f = pow_mono (let le : a ≤ f = omega (arith, p) in le) in
    let r : 2 ^ b ≤ 2 ^ f = pow_mono (let le : b ≤ f = omega (arith, q) in le) in
    let e : 2 ^ suc f ≡ 2 ^ f * 2 = sym (ap (λ k. 2 ^ k) (add-one f)) ∙ pow-add 2 f 1 in
    omega (arith, l, r, e)

-- ---- at a turn of the position on top

module _ (g : Shape) (ps : List Position) (q : Position) (t : Turn) (turn : IsTurn g t)
    (here : t.position.decided.node ≡ q.decided.node) (taken : Position)
    (a : IsSide g t true taken) where
  abbrev n : Node
  n = q.decided.node

  pub taken_of : (s : ℕ → Bool) → IsOf g taken.decided.node s → IsOf g n s × (s t.unit ≡ true)
  taken_of s f = let k = (a.same s).0 f.between in
      (record { between = subst (λ m. IsWithinNode g m s) here k.0; allowed = f.allowed }, k.1)

  pub of_taken : (s : ℕ → Bool) → IsOf g n s → s t.unit ≡ true → IsOf g taken.decided.node s
  of_taken s f e =
      record {
        between = (a.same s).1 (subst (λ m. IsWithinNode g m s) (sym here) f.between, e);
        allowed = f.allowed;
      }

  pub fewer_taken : free_count g taken.decided.node < free_count g n
  fewer_taken = subst (λ m. free_count g taken.decided.node < free_count g m) here a.fewer

  pub is_room : IsStack g (ps ++ q ∷ []) → length ps < 128
  is_room st =
      let room = (placed_top g st.most 0 ps q st.placed).room in
      let few = fewer_taken in
      let small = st.small in
      omega (arith, room, few, small)

  taken_top : (most : ℕ) → IsTop g most 0 ps q → IsTop g most 0 ps taken
  taken_top most top = record {
    position = a.position;
    tight = a.tight;
    room = let room = top.room in let few = fewer_taken in omega (arith, room, few);
    before = λ s o f h. top.before s o (taken_of s f).0 h;
  }

  pub taken_stack : IsStack g (ps ++ q ∷ []) → IsStack g (ps ++ taken ∷ [])
  taken_stack st = record {
    most = st.most;
    small = st.small;
    few = st.few;
    placed =
        placed_push g st.most 0 ps taken (placed_front g st.most 0 ps q st.placed)
        (taken_top st.most (placed_top g st.most 0 ps q st.placed));
  }

  -- every structure has the unit
  module _ (none : IsForced g t) where
    pub forced_same : HaveSame g (ps ++ q ∷ []) (ps ++ taken ∷ [])
    forced_same s = (
      λ h. elim (in_push g ps q s h) [
        | inl there ↦ in_front g ps taken s there
        | inr f ↦ in_last g ps taken s (elim (cases_Bool (s t.unit)) [
          | inl e ↦ of_taken s f e
          | inr e ↦ absurd (none s (subst (λ m. IsWithinNode g m s) (sym here) f.between) e)
        ])
      ],
      λ h. elim (in_push g ps taken s h) [
        | inl there ↦ in_front g ps q s there
        | inr f ↦ in_last g ps q s (taken_of s f).0
      ],
    )

    pub forced_weight : weight g (ps ++ taken ∷ []) ≤ weight g (ps ++ q ∷ [])
    forced_weight =
        let l = weight_push g ps taken in
        let r = weight_push g ps q in
        let few = fewer_taken in
        let less : 2 ^ free_count g taken.decided.node ≤ 2 ^ free_count g n =
        pow_mono (let le : free_count g taken.decided.node ≤ free_count g n =
        omega (arith, few) in le) in
        omega (arith, l, r, less)

  -- some do not have it
  module _ (left : Position) (b : IsSide g t false left) where
    left_of : (s : ℕ → Bool) → IsOf g left.decided.node s → IsOf g n s × (s t.unit ≡ false)
    left_of s f = let k = (b.same s).0 f.between in
        (record { between = subst (λ m. IsWithinNode g m s) here k.0; allowed = f.allowed }, k.1)

    of_left : (s : ℕ → Bool) → IsOf g n s → s t.unit ≡ false → IsOf g left.decided.node s
    of_left s f e =
        record {
          between = (b.same s).1 (subst (λ m. IsWithinNode g m s) (sym here) f.between, e);
          allowed = f.allowed;
        }

    pub fewer_left : free_count g left.decided.node < free_count g n
    fewer_left = subst (λ m. free_count g left.decided.node < free_count g m) here b.fewer

    left_top : (most : ℕ) → IsTop g most 0 ps q → IsTop g most 0 (ps ++ taken ∷ []) left
    left_top most top = record {
      position = b.position;
      tight = b.tight;
      room = let room = top.room in let few = fewer_left in let long =
          length_push ps taken in omega (arith, room, few, long);
      before = λ s o f h.
          let k = left_of s f in
          elim (in_push g ps taken o h) [
            | inl there ↦ top.before s o k.0 there
            | inr e ↦ let j = taken_of o e in
                turn_apart g t turn n here s o k.0.between j.0.between k.1 j.1
          ];
    }

    pub split_stack : IsStack g (ps ++ q ∷ []) → IsStack g ((ps ++ taken ∷ []) ++ left ∷ [])
    split_stack st =
        let top = placed_top g st.most 0 ps q st.placed in
        record {
          most = st.most;
          small = st.small;
          few = st.few;
          placed =
              placed_push g st.most 0 (ps ++ taken ∷ []) left
              (placed_push g st.most 0 ps taken (placed_front g st.most 0 ps q st.placed)
              (taken_top st.most top)) (left_top st.most top);
        }

    pub split_same : HaveSame g (ps ++ q ∷ []) ((ps ++ taken ∷ []) ++ left ∷ [])
    split_same s = (
      λ h. elim (in_push g ps q s h) [
        | inl there ↦ in_front g (ps ++ taken ∷ []) left s (in_front g ps taken s there)
        | inr f ↦ elim (cases_Bool (s t.unit)) [
          | inl e ↦ in_front g (ps ++ taken ∷ []) left s (in_last g ps taken s (of_taken s f e))
          | inr e ↦ in_last g (ps ++ taken ∷ []) left s (of_left s f e)
        ]
      ],
      λ h. elim (in_push g (ps ++ taken ∷ []) left s h) [
        | inl k ↦ elim (in_push g ps taken s k) [
          | inl there ↦ in_front g ps q s there
          | inr f ↦ in_last g ps q s (taken_of s f).0
        ]
        | inr f ↦ in_last g ps q s (left_of s f).0
      ],
    )

    pub split_weight : weight g ((ps ++ taken ∷ []) ++ left ∷ []) ≤ weight g (ps ++ q ∷ [])
    split_weight =
        let l = weight_push g (ps ++ taken ∷ []) left in
        let m = weight_push g ps taken in
        let r = weight_push g ps q in
        let two =
        two_below (free_count g n) (free_count g taken.decided.node)
        (free_count g left.decided.node) fewer_taken fewer_left in
        omega (arith, l, m, r, two)

-- ---- the position on top goes

module _ (g : Shape) (ps : List Position) (q : Position) where
  pub front_stack : IsStack g (ps ++ q ∷ []) → IsStack g ps
  front_stack st =
      record {
        most = st.most;
        small = st.small;
        few = st.few;
        placed =
            placed_front g st.most 0 ps q st.placed;
      }

  pub front_less : weight g ps < weight g (ps ++ q ∷ [])
  front_less =
      let e = weight_push g ps q in
      let one : 2 ^ 0 ≤ 2 ^ free_count g q.decided.node =
      pow_mono (let le : 0 ≤ free_count g q.decided.node = omega arith in le) in
      omega (arith, e, one)

  -- if it has no clash-free structure
  pub dropped_same : (IsAllowed g (has q.decided.node.inside) → ⊥) → HaveSame g (ps ++ q ∷ []) ps
  dropped_same not_allowed s = (
    λ h. elim (in_push g ps q s h) [
      | inl there ↦ there
      | inr f ↦ absurd (not_allowed (λ k c. f.allowed k (record {
        known = c.known;
        one = c.one;
        other = c.other;
        apart = c.apart;
        has_one = (f.between.contains c.one c.has_one.0, c.has_one.1);
        has_other = (f.between.contains c.other c.has_other.0, c.has_other.1);
      })))
    ],
    in_front g ps q s,
  )

  -- if all is decided
  pub cut_top : IsProper g → IsSettled g q.decided.node → IsAllowed g (has q.decided.node.inside)
      → IsStack g (ps ++ q ∷ []) → IsCut g (ps ++ q ∷ []) q.decided.node.inside ps
  cut_top proper settled allowed st =
      let top = placed_top g st.most 0 ps q st.placed in
      let is : IsOf g q.decided.node (has q.decided.node.inside) =
      record {
        between = settled_is g proper q.decided.node top.tight settled;
        allowed =
            allowed;
      } in
      record {
        there = in_last g ps q (has q.decided.node.inside) is;
        first = λ s h. top.before (has q.decided.node.inside) s is h;
        rest =
            λ s h. elim (in_push g ps q s h)
            [ inl there ↦ inr there | inr f ↦ inl (λ u. sym (settled s f.between u)) ];
        kept = λ s h. in_front g ps q s h;
      }

  -- no more turns than units of the maximal structure
  pub few_at : IsStack g (ps ++ q ∷ []) → (m : List ℕ) → IsRising m → IsUnion g (λ u. false) (has m)
      → free_count g q.decided.node ≤ length m
  few_at st m up is =
      let room = (placed_top g st.most 0 ps q st.placed).room in
      let few = st.few m up is in
      omega (arith, room, few)

-- ---- one search after another

pub same_then : (g : Shape) (ps qs rs : List Position) → HaveSame g ps qs → HaveSame g qs rs
    → HaveSame g ps rs
same_then g ps qs rs a b s = (λ h. (b s).0 ((a s).0 h), λ h. (a s).1 ((b s).1 h))

pub finds_then : (g : Shape) (ps qs : List Position) (r : Option (List ℕ)) (rs : List Position)
    → HaveSame g ps qs → Finds g qs r rs → Finds g ps r rs
finds_then g ps qs None rs a f = same_then g ps qs rs a f
finds_then g ps qs (Some r) rs a f = record {
  there = (a (has r)).1 f.there;
  first = f.first;
  rest = λ s h. f.rest s ((a s).0 h);
  kept = λ s h. (a s).1 (f.kept s h);
}

pub top_tight : (g : Shape) (ps : List Position) (q : Position) → IsStack g (ps ++ q ∷ [])
    → IsTight g q.decided.node
top_tight g ps q st = (placed_top g st.most 0 ps q st.placed).tight

pub top_position : (g : Shape) (ps : List Position) (q : Position) → IsStack g (ps ++ q ∷ [])
    → IsPosition g q
top_position g ps q st = (placed_top g st.most 0 ps q st.placed).position

-- without exclusions all is clash-free
pub all_allowed : (g : Shape) (o : ℕ → Bool) → g.exclusions ≡ 0 → IsAllowed g o
all_allowed g o none k c = absurd (omega (arith, c.known, none))
