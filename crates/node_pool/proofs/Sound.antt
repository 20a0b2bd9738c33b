-- The parts of a pool fit together after each call.
use Rattle.std.proofs.Common.{◌≡◌, ℕ, ◌+◌, ◌<◌, ◌≤◌, Bool, true, false, List, [], ◌∷◌, ◌++◌, length}
use Rattle.std.proofs.Common.{Option, slice_set, refl, sym, ap, ◌∙◌, subst, inl, inr, ◌^◌}
use Rattle.std.proofs.Common.{length-append, arith}
use Rattle.std.proofs.lemmas.List.{length-set}
use Rattle.std.specs.List.{find}
use Rattle.exact_numbers.specs.declared.number.Mixed.{Mixed}
use Rattle.link_lists.specs.Lists.{has, without}
use Rattle.node_pool.specs.Tree.{Branches, with_node}
use Rattle.node_pool.specs.Order.{OpenLeaves, is_at_least, placed, put_before, IsRising}
use Rattle.node_pool.specs.Sound.{IsSound}
use Rattle.node_pool.proofs.Order.{placed_by, slice_get_set, has-placed, rising_with, rising_placed}
use Rattle.node_pool.proofs.Order.{rising_set, rising_without, without_out, has-less}

pub sound_shut : (t : Branches) (vs : List Mixed) (vr pl pr : ℕ) (o : OpenLeaves) (id : ℕ)
    → IsSound t vs vr pl pr o
    → IsSound t vs vr pl pr (record { leaves = without id o.leaves; room = o.room })
sound_shut t vs vr pl pr o id h = record {
  some_values = h.some_values;
  some_payloads = h.some_payloads;
  few = h.few;
  numbered = h.numbered;
  tree_room = h.tree_room;
  value_rooms = h.value_rooms;
  payload_rooms = h.payload_rooms;
  known = λ c q. h.known c (has-less id o.leaves c q);
  rising = rising_without vs id o.leaves h.rising;
}

-- more room in the vectors alone
pub sound_roomy : (t t' : Branches) (vs vs' : List Mixed) (vr vr' pl pl' pr pr' : ℕ)
    (o : OpenLeaves) → IsSound t vs vr pl pr o → t'.parents ≡ t.parents → t.room ≤ t'.room
    → vs' ≡ vs → vr ≤ vr' → pl' ≡ pl → pr ≤ pr' → IsSound t' vs' vr' pl' pr' o
sound_roomy t t' vs vs' vr vr' pl pl' pr pr' o h et lt ev lv ep lp =
    let n : length t'.parents ≡ length t.parents = ap length et in record {
      some_values = ap length ev ∙ (h.some_values ∙ sym n);
      some_payloads = ep ∙ (h.some_payloads ∙ sym n);
      few = let x = h.few in omega arith;
      numbered = h.numbered;
      tree_room = let x = h.tree_room in omega arith;
      value_rooms = let x = h.value_rooms in omega arith;
      payload_rooms = let x = h.payload_rooms in omega arith;
      known = λ c q. let x = h.known c q in omega arith;
      rising = subst (λ ws. IsRising ws o.leaves) (sym ev) h.rising;
    }

-- and more cells for leaves
pub sound_grown : (t : Branches) (vs : List Mixed) (vr pl pr : ℕ) (o : OpenLeaves) (more : ℕ)
    → IsSound t vs vr pl pr o → o.room + more < 2 ^ 32 → o.room + more ≤ t.room → o.room + more ≤ vr
    → o.room + more ≤ pr
    → IsSound t vs vr pl pr (record { leaves = o.leaves; room = o.room + more })
sound_grown t vs vr pl pr o more h small a b d = record {
  some_values = h.some_values;
  some_payloads = h.some_payloads;
  few = let x = h.few in omega arith;
  numbered = small;
  tree_room = a;
  value_rooms = b;
  payload_rooms = d;
  known = h.known;
  rising = h.rising;
}

-- one node more
module _ (t : Branches) (vs : List Mixed) (vr pl pr : ℕ) (o : OpenLeaves) (p : Option ℕ) (v : Mixed)
    (before : Option ℕ) (h : IsSound t vs vr pl pr o) (room : length t.parents < o.room)
    (e : before ≡ find (is_at_least vs v) o.leaves) where
  pub leaves_added : put_before (length t.parents) before o.leaves
      ≡ placed vs v (length t.parents) o.leaves
  leaves_added = placed_by vs v (length t.parents) o.leaves before e

  pub sound_added : (vr' pl' pr' : ℕ) → vr' ≡ vr → pl' ≡ pl + 1 → pr' ≡ pr
      → IsSound (with_node t p) (vs ++ v ∷ []) vr' pl' pr'
      (record { leaves = put_before (length t.parents) before o.leaves; room = o.room })
  sound_added vr' pl' pr' ev ep er =
      let one = length-append t.parents (p ∷ []) in
      let two = length-append vs (v ∷ []) in
      let x = h.some_values in
      let y = h.some_payloads in record {
        some_values = omega arith;
        some_payloads = omega arith;
        few = omega arith;
        numbered = h.numbered;
        tree_room = h.tree_room;
        value_rooms = let z = h.value_rooms in omega arith;
        payload_rooms = let z = h.payload_rooms in omega arith;
        known =
            λ c q. elim
            (has-placed vs v (length t.parents) o.leaves c
            (sym (ap (λ xs. has xs c) leaves_added) ∙ q)) [
              | inl s ↦ omega arith
              | inr u ↦ let z = h.known c u in omega arith
            ];
        rising =
            subst (IsRising (vs ++ v ∷ [])) (sym leaves_added)
            (subst (λ n. IsRising (vs ++ v ∷ []) (placed vs v n o.leaves)) h.some_values
            (rising_placed vs v o.leaves known' h.rising));
      }
    where
      known' : (c : ℕ) → has o.leaves c ≡ true → c < length vs
      known' c q = let z = h.known c q in let x = h.some_values in omega arith

  -- the new number is free
  pub new_free : has o.leaves (length t.parents) ≡ false
  new_free = false_by (has o.leaves (length t.parents)) refl
    where
      false_by : (b : Bool) → has o.leaves (length t.parents) ≡ b → b ≡ false
      false_by true q = let z = h.known (length t.parents) q in absurd (omega arith)
      false_by false q = refl

-- an open leaf of another value
module _ (t : Branches) (vs : List Mixed) (vr pl pr : ℕ) (o : OpenLeaves) (id : ℕ) (v : Mixed)
    (h : IsSound t vs vr pl pr o) where
  abbrev rest : List ℕ
  rest = without id o.leaves

  pub known_set : (c : ℕ) → has rest c ≡ true → c < length (slice_set vs id v)
  known_set c q = let n = length-set vs id v in let x = h.some_values in let z =
      h.known c (has-less id o.leaves c q) in omega arith

  pub rising_rest : IsRising (slice_set vs id v) rest
  rising_rest =
      rising_set vs id v rest (without_out id o.leaves) (rising_without vs id o.leaves h.rising)

  module _ (before : Option ℕ) (there : has o.leaves id ≡ true)
      (e : before ≡ find (is_at_least (slice_set vs id v) v) rest) where
    pub leaves_set : put_before id before rest ≡ placed (slice_set vs id v) v id rest
    leaves_set = placed_by (slice_set vs id v) v id rest before e

    pub sound_set : IsSound t (slice_set vs id v) vr pl pr
        (record { leaves = put_before id before rest; room = o.room })
    sound_set =
        let n = length-set vs id v in
        let x = h.some_values in record {
          some_values = omega arith;
          some_payloads = h.some_payloads;
          few = h.few;
          numbered = h.numbered;
          tree_room = h.tree_room;
          value_rooms = h.value_rooms;
          payload_rooms = h.payload_rooms;
          known =
              λ c q. elim
              (has-placed (slice_set vs id v) v id rest c
              (sym (ap (λ xs. has xs c) leaves_set) ∙ q)) [
                | inl s ↦ let z = h.known id there in omega arith
                | inr u ↦ h.known c (has-less id o.leaves c u)
              ];
          rising =
              subst (IsRising (slice_set vs id v)) (sym leaves_set)
              (rising_with (slice_set vs id v) v id rest
              (slice_get_set vs id v (let z = h.known id there in omega arith)) known_set
              rising_rest);
        }
