-- What is judged of a leaf that names a network.
use Rattle.std.proofs.Common.{◌≡◌, ◌⊎◌, ◌↔◌, ℕ, zero, suc, ◌-◌, ℤ, pos, ◌≤ℤ◌, ◌<◌, ◌≤◌, Bool, true}
use Rattle.std.proofs.Common.{false, not, ◌&&◌, ◌||◌, nat_lt, List, [], ◌∷◌, length, get_or, Option}
use Rattle.std.proofs.Common.{Some, None, Result, Ok, Err, IfErr, IsTrue, refl, sym, ap, ◌∙◌, subst}
use Rattle.std.proofs.Common.{inl, inr, arith}
use Rattle.rank_laws.specs.number_sets.Sets.{has, union, IsWithin}
use Rattle.rank_laws.proofs.number_sets.Cited.{has-union}
use Rattle.rank_laws.specs.problem_rules.Problem.{Problem}
use Rattle.rank_laws.specs.pns_rules.Nodes.{Node}
use Rattle.rank_laws.specs.tree_rules.declared.why.Why.{Why}
use Rattle.rank_laws.specs.tree_rules.declared.why.Why.TheVariants as causes
use Rattle.rank_laws.specs.tree_rules.Fault.{Fails}
use Rattle.rank_laws.specs.tree_rules.Claim.{Network, CostOver}
use Rattle.rank_laws.specs.tree_rules.Leaf as leaves
use Rattle.rank_laws.specs.tree_rules.Leaf.{IsOneEach, IsFormed, Reaches}
use Rattle.rank_laws.specs.rank_rules.declared.why.RankWhy.{RankWhy}
use Rattle.rank_laws.specs.rank_rules.declared.why.RankWhy.TheVariants.{Plain}
use Rattle.rank_laws.specs.rank_rules.Networks.{cost_of, network_at, numbered}
use Rattle.rank_laws.specs.rank_rules.declared.naming.Naming.{Naming}
use Rattle.rank_laws.specs.rank_rules.declared.naming.Naming.TheVariants.{Only, Within}
use Rattle.rank_laws.specs.rank_rules.Leaf.{IsOnly, IsTakenIn, MayName, IsNamed, way_why}
use Rattle.rank_laws.specs.rank_rules.Marked.{Name}
use Rattle.rank_check.specs.Marks.{NamedFails}

-- ---- a node that is the network alone

decided : (i o : Bool) → (i || o) ≡ true → (not i && not o) ≡ false
decided true o h = refl
decided false true h = refl
decided false false h = sym h

taken_or_left : (i o : Bool) → (not i && not o) ≡ false → (i || o) ≡ true
taken_or_left true o h = refl
taken_or_left false true h = refl
taken_or_left false false h = sym h

both_true : (c d : Bool) → IsTrue (c && d) → IsTrue c × IsTrue d
both_true true true h = (h, h)
both_true true false h = absurd cc
both_true false d h = absurd cc

true_both : (c d : Bool) → IsTrue c → IsTrue d → IsTrue (c && d)
true_both true true h k = h
true_both true false h k = k
true_both false d h k = h

module _ (p : Problem) (w : Network) (count : ℕ) (all inside outside joint us : List ℕ)
    (is : count ≡ length p.units) (all_is : (u : ℕ) → has all u ≡ nat_lt u count)
    (joint_is : joint ≡ union inside outside) (us_is : us ≡ w.units) where
  below : (u : ℕ) → u < length p.units → nat_lt u count ≡ true
  below u lt = grind (arith, is)

  known : (u : ℕ) → nat_lt u count ≡ true → u < length p.units
  known u e = grind (arith, is)

  -- each unit is taken in or left out
  pub all_decided : IsWithin (has all) (has joint) → (b : Bool)
      → (IsTrue b ↔ ((u : ℕ) → has inside u ≡ has us u)) → IsTrue b
      ↔ IsOnly p (Some w) (record { inside = has inside; outside = has outside })
  all_decided within b f = (
    (λ h. (
      (λ u lt. decided (has inside u) (has outside u)
          (sym (has-union inside outside u)
          ∙ (ap (λ (xs : List ℕ). has xs u) (sym joint_is)
          ∙ within u (all_is u ∙ below u lt)))),
      (λ u. f.0 h u ∙ ap (λ (xs : List ℕ). has xs u) us_is),
    )),
    (λ h. f.1 (λ u. h.1 u ∙ ap (λ (xs : List ℕ). has xs u) (sym us_is))),
  )

  pub not_decided : (IsWithin (has all) (has joint) → ⊥)
      → IsOnly p (Some w) (record { inside = has inside; outside = has outside }) → ⊥
  not_decided other h = other (λ u e.
      ap (λ (xs : List ℕ). has xs u) joint_is
      ∙ (has-union inside outside u
      ∙ taken_or_left (has inside u) (has outside u) (h.0 u (known u (sym (all_is u) ∙ e)))))

-- ---- a node whose structures contain the network

pub may_only : (b distinct : Bool) (way : Naming) (p : Problem) (w : Network) (n : Node)
    → way ≡ Only → (IsTrue b ↔ IsOnly p (Some w) n) → IsTrue b ↔ MayName distinct way p (Some w) n
may_only b distinct way p w n e f =
    subst (λ (x : Naming). IsTrue b ↔ MayName distinct x p (Some w) n) (sym e) f

pub may_within : (b distinct : Bool) (way : Naming) (p : Problem) (w : Network) (n : Node)
    → way ≡ Within → distinct ≡ true → (IsTrue b ↔ IsTakenIn (Some w) n)
    → IsTrue b ↔ MayName distinct way p (Some w) n
may_within b distinct way p w n e d f =
    subst (λ (x : Naming). IsTrue b ↔ MayName distinct x p (Some w) n) (sym e)
    ((λ h. (d, f.0 h)), (λ h. f.1 h.1))

pub may_not : (distinct : Bool) (way : Naming) (p : Problem) (w : Network) (n : Node)
    → way ≡ Within → distinct ≡ false → IsTrue distinct ↔ MayName distinct way p (Some w) n
may_not distinct way p w n e d =
    subst (λ (x : Naming). IsTrue distinct ↔ MayName distinct x p (Some w) n) (sym e)
    ((λ h. absurd (let no : false ≡ true = sym d ∙ h in cc)), (λ h. h.0))

-- ---- what fails

-- the node is another
pub other_node : (distinct : Bool) (p : Problem) (w : Network) (n : Node) (m : Name)
    (why : RankWhy) → why ≡ way_why m.way → (MayName distinct m.way p (Some w) n → ⊥)
    → NamedFails distinct p (Some w) n m why
other_node distinct p w n m why is other =
    (causes.Bound, inl (refl, (λ h. other h.0)), inl (refl, is))

-- there is no such network
none_may : (distinct : Bool) (way : Naming) (p : Problem) (n : Node) → MayName distinct way p None n
    → ⊥
none_may distinct Only p n h = h
none_may distinct Within p n h = h.1

pub no_network : (distinct : Bool) (p : Problem) (found : Option Network) (n : Node) (m : Name)
    (why : RankWhy) → found ≡ None → why ≡ way_why m.way → NamedFails distinct p found n m why
no_network distinct p found n m why none is =
    subst (λ (f : Option Network). NamedFails distinct p f n m why) (sym none)
    (causes.Bound, inl (refl, (λ h. none_may distinct m.way p n h.0)), inl (refl, is))

-- the node may name the network, and the bound fails
bound_fails : (distinct : Bool) (p : Problem) (w : Network) (n : Node) (m : Name) (cause : Why)
    → MayName distinct m.way p (Some w) n
    → leaves.LeafFails false p (Some (cost_of w)) n (leaves.bounded m.d m.ys) cause
    → Fails (MayName distinct m.way p (Some w) n × (pos 1 ≤ℤ m.d) × IsOneEach p n m.ys) causes.Bound
    (Fails (IsFormed p n m.d m.ys) causes.Sum
    (Fails (Reaches p (Some (cost_of w)) n m.d m.ys) causes.Bound ⊥ cause) cause) cause
bound_fails distinct p w n m cause may (inl h) = inl (h.0, (λ k. h.1 (tt, k.1, k.2)))
bound_fails distinct p w n m cause may (inr h) = inr ((may, h.0.1, h.0.2), h.1)

-- the parts as they were asked for
module _ (distinct : Bool) (p : Problem) (w : Network) (n : Node) (claimed : Option CostOver)
    (d : ℤ) (ys : List ℤ) (m : Name) (cost_is : claimed ≡ Some (cost_of w)) (d_is : d ≡ m.d)
    (ys_is : ys ≡ m.ys) (may : MayName distinct m.way p (Some w) n) where
  pub named_passes : ((partial : Bool)
      → leaves.LeafPasses partial p claimed n (leaves.bounded d ys))
      → IsNamed distinct m.way p (Some w) n m.d m.ys
  named_passes h = record {
    may = may;
    bounded =
        subst (λ (c : Option CostOver). leaves.IsBounded p c n m.d m.ys) cost_is
        (subst (λ (f : ℤ). leaves.IsBounded p claimed n f m.ys) d_is
        (subst (λ (xs : List ℤ). leaves.IsBounded p claimed n d xs) ys_is (h false)));
  }

  pub named_told : (cause : Why) (why : RankWhy)
      → ((partial : Bool) → leaves.LeafFails partial p claimed n (leaves.bounded d ys) cause)
      → ((cause ≡ causes.Bound) × (why ≡ way_why m.way))
      ⊎ ((cause ≡ causes.Bound → ⊥) × (why ≡ Plain cause))
      → NamedFails distinct p (Some w) n m why
  named_told cause why h told = (
    cause,
    bound_fails distinct p w n m cause may
        (subst
        (λ (c : Option CostOver). leaves.LeafFails false p c n (leaves.bounded m.d m.ys) cause)
        cost_is
        (subst (λ (f : ℤ). leaves.LeafFails false p claimed n (leaves.bounded f m.ys) cause) d_is
        (subst (λ (xs : List ℤ). leaves.LeafFails false p claimed n (leaves.bounded d xs) cause)
        ys_is (h false)))),
    told,
  )

pub weaker : {A : Type 0} (P Q : RankWhy → Type 0) (r : Result A RankWhy)
    → ((why : RankWhy) → P why → Q why) → IfErr r P → IfErr r Q
weaker P Q (Ok x) f h = tt
weaker P Q (Err why) f h = f why h

-- ---- networks by their numbers

pub at_place : (ws : List Network) (i : ℕ) (w : Network) → i < length ws → w ≡ get_or ws i w
    → network_at i ws ≡ Some w
at_place [] i w lt e = absurd (omega arith)
at_place (x ∷ xs) zero w lt e = ap (λ (y : Network). Some y) (sym e)
at_place (x ∷ xs) (suc i) w lt e = at_place xs i w (omega arith) e

pub past_end : (ws : List Network) (i : ℕ) → length ws ≤ i → network_at i ws ≡ None
past_end [] i le = refl
past_end (x ∷ xs) zero le = absurd (omega arith)
past_end (x ∷ xs) (suc i) le = past_end xs i (omega arith)

pub found_at : (ws : List Network) (k j : ℕ) (w : Network) → (k ≡ 0 → ⊥) → k ≤ length ws → j ≡ k - 1
    → w ≡ get_or ws j w → numbered k ws ≡ Some w
found_at ws zero j w some le is e = absurd (some refl)
found_at ws (suc i) j w some le is e =
    at_place ws i w (omega arith)
    (subst (λ (m : ℕ). w ≡ get_or ws m w) (let q : j ≡ i = grind (arith, is) in q) e)

pub not_found : (ws : List Network) (k : ℕ) → (k ≡ 0) ⊎ (length ws < k) → numbered k ws ≡ None
not_found ws zero h = refl
not_found ws (suc i) (inl e) = absurd cc
not_found ws (suc i) (inr lt) = past_end ws i (omega arith)
