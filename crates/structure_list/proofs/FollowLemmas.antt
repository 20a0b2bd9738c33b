-- The turns of a structure are followed, and the turns not taken have what comes after it.
use Rattle.std.proofs.Common.{◌≡◌, ℕ, Bool, true, false, List, [], ◌∷◌, ◌++◌, sym, ◌∙◌, subst, inl}
use Rattle.std.proofs.Common.{inr, Some}
use Rattle.std.proofs.lemmas.Bool.{cases_Bool}
use Rattle.pgraph.specs.number_sets.Sets.{has}
use Rattle.pgraph.specs.pns_rules.Shape.{Shape}
use Rattle.pgraph.specs.pns_rules.Structure.{IsStructure, IsAllowed}
use Rattle.pgraph.specs.pns_rules.Trace.{IsBefore}
use Rattle.pgraph.proofs.pns_rules.Cited.{before_apart, before_not_after}
use Rattle.structure_list.specs.declared.position.Position.{Position}
use Rattle.structure_list.specs.declared.turn.Turn.{Turn}
use Rattle.structure_list.specs.Position.{IsTurn, IsSettled, IsWithinNode}
use Rattle.structure_list.proofs.TurnLemmas.{turn_apart}
use Rattle.structure_list.specs.Rest.{IsUnderWay}
use Rattle.structure_list.specs.Tight.{IsSide}
use Rattle.structure_list.specs.Start.{IsStart}
use Rattle.structure_list.specs.Stack.{InStack, IsStack}
use Rattle.structure_list.proofs.StackLemmas.{in_push, in_front, in_last, taken_of, of_taken}
use Rattle.structure_list.proofs.StackLemmas.{taken_stack, split_stack, split_same, front_stack}
use Rattle.structure_list.proofs.StartLemmas.{start_stack, start_has}

-- the structure is at `here`, and what comes after it is there or in the stack
pub record IsFollowing (g : Shape) (set : ℕ → Bool) (ps : List Position) (here : Position) : Type
    0 where
  pub stack : IsStack g (ps ++ here ∷ [])
  pub within : IsWithinNode g here.decided.node set
  pub later : (s : ℕ → Bool) → InStack g ps s → IsBefore g set s
  pub all : (s : ℕ → Bool) → IsStructure g s → IsAllowed g s → IsBefore g set s
      → InStack g (ps ++ here ∷ []) s

module _ (g : Shape) (set : ℕ → Bool) where
  pub follow_start : (p : Position) (ps : List Position) → ps ≡ [] → IsStart g p → IsStructure g set
      → IsFollowing g set ps p
  follow_start p ps none is h = subst (λ qs. IsFollowing g set qs p) (sym none) (record {
    stack = start_stack g p is;
    within = is.has_all set h;
    later = λ s k. absurd k;
    all = λ s k a b. start_has g p is s k a;
  })

  module _ (ps : List Position) (q : Position) (t : Turn) (turn : IsTurn g t)
      (here : t.position.decided.node ≡ q.decided.node) (taken : Position)
      (a : IsSide g t true taken) (is : IsFollowing g set ps q) where
    at_turn : IsWithinNode g t.position.decided.node set
    at_turn = subst (λ m. IsWithinNode g m set) (sym here) is.within

    -- the structure has the unit
    pub follow_in : set t.unit ≡ true → IsFollowing g set ps taken
    follow_in e = record {
      stack = taken_stack g ps q t turn here taken a is.stack;
      within = (a.same set).1 (at_turn, e);
      later = is.later;
      all = λ s k al b. elim (in_push g ps q s (is.all s k al b)) [
        | inl there ↦ in_front g ps taken s there
        | inr f ↦ in_last g ps taken s (elim (cases_Bool (s t.unit)) [
          | inl y ↦ of_taken g ps q t turn here taken a s f y
          | inr n
              ↦ absurd
              (before_not_after g set s b
              (turn_apart g t turn q.decided.node here s set f.between is.within n e))
        ])
      ];
    }

    -- it does not have it
    pub follow_out : (left : Position) → IsSide g t false left → set t.unit ≡ false
        → IsFollowing g set (ps ++ taken ∷ []) left
    follow_out left b e = record {
      stack = split_stack g ps q t turn here taken a left b is.stack;
      within = (b.same set).1 (at_turn, e);
      later = λ s h. elim (in_push g ps taken s h) [
        | inl there ↦ is.later s there
        | inr f ↦ let k = taken_of g ps q t turn here taken a s f in
            turn_apart g t turn q.decided.node here set s is.within k.0.between e k.1
      ];
      all =
          λ s k al before. (split_same g ps q t turn here taken a left b s).0
          (is.all s k al before);
    }

  pub follow_end : (list : List ℕ) (ps : List Position) (q : Position) → has list ≡ set
      → IsSettled g q.decided.node → IsFollowing g set ps q → IsUnderWay g ps (Some list)
  follow_end list ps q same settled is = record {
    stack = front_stack g ps q is.stack;
    has_all = λ s h.
        let before : IsBefore g set (has s) = subst (λ k. IsBefore g k (has s)) same h.later in
        elim (in_push g ps q (has s) (is.all (has s) h.meets h.allowed before)) [
          | inl there ↦ there
          | inr f
              ↦ absurd
              (before_apart g set (has s)
              (λ u. settled set is.within u ∙ sym (settled (has s) f.between u)) before)
        ];
    no_more = λ s h. subst (λ k. IsBefore g k (has s)) (sym same) (is.later (has s) h);
  }
