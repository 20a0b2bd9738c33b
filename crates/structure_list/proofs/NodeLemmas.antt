-- Nodes with one unit more, taken in or left out.
use Rattle.std.proofs.Common.{◌≡◌, ℕ, ◌<◌, ◌==◌, nat_lt, Bool, true, false, not, ◌&&◌, ◌||◌, List}
use Rattle.std.proofs.Common.{length, refl, sym, ap, ap₂, ◌∙◌, subst, inl, inr, ◌⊎◌, eq-eqb}
use Rattle.std.proofs.Common.{eqb-true, lt-ltb}
use Rattle.std.proofs.lemmas.Bool.{both_ways, or_cases, or_left, or_right, and_parts, and_from}
use Rattle.std.proofs.lemmas.Bool.{false_from_ne_true}
use Rattle.pgraph.specs.number_sets.Sets.{has, listed, with_number, IsWithin}
use Rattle.pgraph.proofs.number_sets.Cited.{has-with_number, has-listed, IsRising-listed}
use Rattle.pgraph.proofs.number_sets.Cited.{length-less}
use Rattle.pgraph.specs.pns_rules.Shape.{Shape}
use Rattle.pgraph.specs.unit_sets.declared.node.Node.{Node}
use Rattle.structure_list.specs.Position.{IsWithinNode, with_unit, without_unit, free_count}

pub has_added : (u : ℕ) (xs : List ℕ) → has (with_number u xs) u ≡ true
has_added u xs = has-with_number u xs u ∙ or_left (u == u) (has xs u) (eq-eqb u u refl)

pub has_more : (u : ℕ) (xs : List ℕ) (v : ℕ) → has xs v ≡ true → has (with_number u xs) v ≡ true
has_more u xs v e = has-with_number u xs v ∙ or_right (u == v) (has xs v) e

pub has_either : (u : ℕ) (xs : List ℕ) (v : ℕ) → has (with_number u xs) v ≡ true → (u ≡ v)
    ⊎ (has xs v ≡ true)
has_either u xs v e = elim (or_cases (u == v) (has xs v) (sym (has-with_number u xs v) ∙ e)) [
  | inl q ↦ inl (eqb-true u v q)
  | inr q ↦ inr q
]

-- the structures of a node are those of the two together
module _ (g : Shape) (n : Node) (u : ℕ) (o : ℕ → Bool) where
  pub wider_in : IsWithinNode g (with_unit u n) o → IsWithinNode g n o
  wider_in f =
      record {
        meets = f.meets;
        contains = λ v h. f.contains v (has_more u n.inside v h);
        avoids =
            f.avoids;
      }

  pub wider_out : IsWithinNode g (without_unit u n) o → IsWithinNode g n o
  wider_out f =
      record {
        meets = f.meets;
        contains = f.contains;
        avoids =
            λ v h q. f.avoids v h (has_more u n.outside v q);
      }

  pub taken_in : IsWithinNode g (with_unit u n) o → o u ≡ true
  taken_in f = f.contains u (has_added u n.inside)

  pub left_out : IsWithinNode g (without_unit u n) o → o u ≡ false
  left_out f = false_from_ne_true (o u) (λ q. f.avoids u q (has_added u n.outside))

  pub narrow_in : IsWithinNode g n o → o u ≡ true → IsWithinNode g (with_unit u n) o
  narrow_in f q = record {
    meets = f.meets;
    contains =
        λ v h. elim (has_either u n.inside v h)
        [ inl same ↦ subst (λ k. o k ≡ true) same q | inr there ↦ f.contains v there ];
    avoids = f.avoids;
  }

  pub narrow_out : IsWithinNode g n o → o u ≡ false → IsWithinNode g (without_unit u n) o
  narrow_out f q = record {
    meets = f.meets;
    contains = f.contains;
    avoids =
        λ v h k. elim (has_either u n.outside v k) [
          | inl same ↦ both_ways (o v) (subst (λ w. o w ≡ false) same q) h
          | inr there
              ↦ f.avoids v h there
        ];
  }

-- ---- how many are left

-- one number less is in the smaller set
pub fewer : (n : ℕ) (s t : ℕ → Bool) (u : ℕ) → u < n → IsWithin s t → t u ≡ true → s u ≡ false
    → length (listed n s) < length (listed n t)
fewer n s t u lt w there_t gone =
    length-less (listed n s) (listed n t) u (IsRising-listed n s) (IsRising-listed n t)
    (λ v h. let q = and_parts (nat_lt v n) (s v) (sym (has-listed n s v) ∙ h) in has-listed n t v
    ∙ and_from (nat_lt v n) (t v) q.0 (w v q.1))
    (has-listed n t u ∙ and_from (nat_lt u n) (t u) (lt-ltb u n lt) there_t)
    (has-listed n s u ∙ ap₂ (λ a b. a && b) (lt-ltb u n lt) gone)

not_both : (a b c d : Bool) → (a ≡ true → c ≡ true) → (b ≡ true → d ≡ true) → not (c || d) ≡ true
    → not (a || b) ≡ true
not_both a b true d f h q = absurd (both_ways false refl q)
not_both a b false true f h q = absurd (both_ways false refl q)
not_both true b false false f h q = absurd (both_ways false refl (f refl))
not_both false true false false f h q = absurd (both_ways false refl (h refl))
not_both false false false false f h q = refl

module _ (g : Shape) (n : Node) (u : ℕ) (lt : u < g.units)
    (free : (has n.inside u || has n.outside u) ≡ false) where
  pub fewer_in : free_count g (with_unit u n) < free_count g n
  unfolding free_count
  fewer_in =
      fewer g.units (λ v. not (has (with_number u n.inside) v || has n.outside v))
      (λ v. not (has n.inside v || has n.outside v)) u lt
      (λ v h. not_both (has n.inside v) (has n.outside v) (has (with_number u n.inside) v)
      (has n.outside v) (has_more u n.inside v) (λ q. q) h)
      (ap not free)
      (ap not (or_left (has (with_number u n.inside) u) (has n.outside u) (has_added u n.inside)))

  pub fewer_out : free_count g (without_unit u n) < free_count g n
  unfolding free_count
  fewer_out =
      fewer g.units (λ v. not (has n.inside v || has (with_number u n.outside) v))
      (λ v. not (has n.inside v || has n.outside v)) u lt
      (λ v h. not_both (has n.inside v) (has n.outside v) (has n.inside v)
      (has (with_number u n.outside) v) (λ q. q) (has_more u n.outside v) h)
      (ap not free)
      (ap not (or_right (has n.inside u) (has (with_number u n.outside) u) (has_added u n.outside)))
