-- The two words by which `split` lists an open leaf name the leaf's node.
use Rattle.std.proofs.Common.{◌≡◌, ◌≤◌, ◌<◌, ◌+◌, ◌&&◌, ◌++◌, ◌∷◌, [], ℕ, Bool, true, false}
use Rattle.std.proofs.Common.{List, codes, decimal, nat_lt, cond, suc, length, get_or}
use Rattle.std.proofs.Common.{refl, sym, ap, subst, ◌∙◌, arith, inl, inr, lt-ltb}
use Rattle.std.proofs.lemmas.Bool.{and_from}
use Rattle.studio.specs.number_sets.Sets.{has, listed, IsSet}
use Rattle.studio.proofs.number_sets.Cited.{has-listed, IsSet-listed, AreBelow-higher}
use Rattle.studio.specs.problem_rules.Each.{Each}
use Rattle.studio.specs.problem_rules.Problem.{Problem}
use Rattle.studio.specs.pns_rules.Shape.{IsProper, shape_of}
use Rattle.studio.specs.pns_rules.Nodes.{Node}
use Rattle.studio.specs.pns_rules.Tokens.{digit, AreDigits, token_of}
use Rattle.studio.specs.tree_rules.Tree.{leaf}
use Rattle.studio.specs.tree_rules.Leaf.{untried, LeafPasses}
use Rattle.studio.specs.tree_rules.Claim.{Claim, claimed_cost}
use Rattle.studio.specs.tree_rules.Accepted.{Tree, first_node, IsPartial}
use Rattle.studio.specs.tree_rules.Known as trees
use Rattle.studio.specs.tree_text_rules.OpenLeaves.{OpenAt, open_leaves, IsAmong, StandsOpen}
use Rattle.studio.specs.tree_parts.Laws.{OpenLeavesStand}
use Rattle.studio.specs.studio_rules.Lines.{text_of}
use Rattle.studio.specs.studio_rules.Split.{token_in, split_lines}
use Rattle.studio.specs.studio_rules.Start.{IsStart}
use Rattle.studio.proofs.Cited.{same_cut}
use Rattle.call_laws.specs.Parts.{leaf_line}
use Rattle.studio.proofs.structure_list.Cited.{token_one, token_has_form}
use Rattle.call_laws.proofs.Nodes.{AreUnits, stands_small}
use Rattle.call_laws.proofs.Lines.{IsOneLine, IsLineOf, one_line-append, decimal_one_line}
use Rattle.call_laws.proofs.Lines.{line_among}

-- ---- the words of a line

digits_one_line : (bs : List ℕ) → AreDigits bs → IsOneLine bs
digits_one_line [] are = tt
digits_one_line (b ∷ bs) are =
    ((λ feed. not_feed are.0.digit_is (sym are.0.same ∙ feed)), digits_one_line bs are.1)
  where
    not_feed : (d : ℕ) → digit d ≡ 10 → ⊥
    not_feed d = at (nat_lt d 10)
      where
        at : (c : Bool) → cond c (48 + d) (87 + d) ≡ 10 → ⊥
        at true e = absurd (omega (arith, e))
        at false e = absurd (omega (arith, e))

token_one_line : (units : List ℕ) → IsOneLine (token_of units)
token_one_line units = digits_one_line (token_of units)
    (token_has_form (token_of units) units refl).digits

leaf_one_line : (number : ℕ) (inside outside : List ℕ) → IsOneLine inside → IsOneLine outside
    → IsOneLine (leaf_line number inside outside)
leaf_one_line number inside outside one other =
    one_line-append (codes "part " ++ decimal number ++ 32 ∷ inside) (32 ∷ outside)
    (one_line-append (codes "part " ++ decimal number) (32 ∷ inside)
    (one_line-append (codes "part ") (decimal number) word (decimal_one_line number))
    (space, one)) (space, other)
  where
    space : ◌≡◌ {A = ℕ} 32 10 → ⊥
    space e = omega (arith, e)

    word : IsOneLine (codes "part ")
    word = (
      (λ e. omega (arith, e)),
      (
        (λ e. omega (arith, e)),
        (
          (λ e. omega (arith, e)),
          ((λ e. omega (arith, e)), (space, tt)),
        ),
      ),
    )

-- the words of one line are one
same_words : (m n : ℕ) (a b c d : List ℕ) → length a ≡ length c → length b ≡ length d
    → leaf_line m a b ≡ leaf_line n c d → (a ≡ c) × (b ≡ d)
same_words m n a b c d one other e =
    let last = same_cut (codes "part " ++ decimal m ++ 32 ∷ a)
    (codes "part " ++ decimal n ++ 32 ∷ c) (32 ∷ b) (32 ∷ d) e (ap suc other) in
    let first = same_cut (codes "part " ++ decimal m) (codes "part " ++ decimal n) (32 ∷ a)
    (32 ∷ c) last.0 (ap suc one) in
    (behind a c first.1, behind b d last.1)
  where
    behind : (xs ys : List ℕ) → 32 ∷ xs ≡ 32 ∷ ys → xs ≡ ys
    behind xs ys same = cc

-- ---- the open leaf of a line

end_one_line : IsOneLine (codes "end")
end_one_line = ((λ e. omega (arith, e)), ((λ e. omega (arith, e)), ((λ e. omega (arith, e)), tt)))

all_one_line : (leaves : List OpenAt) → Each IsOneLine (split_lines leaves)
all_one_line [] = (end_one_line, tt)
all_one_line (l ∷ ls) = (
  leaf_one_line l.number (token_in l.node.inside) (token_in l.node.outside)
      (token_one_line (listed 128 l.node.inside))
      (token_one_line (listed 128 l.node.outside)),
  all_one_line ls,
)

-- the open leaf whose line it is
pub record IsTold (leaves : List OpenAt) (inside outside : List ℕ) : Type 0 where
  pub told : OpenAt
  pub among : IsAmong told leaves
  pub first_is : inside ≡ token_in told.node.inside
  pub second_is : outside ≡ token_in told.node.outside

token_long : (units : List ℕ) → length (token_of units) ≡ 32
token_long units = (token_has_form (token_of units) units refl).long

find : (leaves : List OpenAt) (number : ℕ) (ins outs : List ℕ)
    → IsLineOf (leaf_line number (token_of ins) (token_of outs)) (split_lines leaves)
    → IsTold leaves (token_of ins) (token_of outs)
find [] number ins outs (inl e) =
    absurd (let first = ap (λ (t : List ℕ). get_or t 0 0) e in omega (arith, first))
find [] number ins outs (inr none) = absurd none
find (l ∷ ls) number ins outs (inl e) =
    let a = listed 128 l.node.inside in
    let b = listed 128 l.node.outside in
    let same = same_words number l.number (token_of ins) (token_of outs) (token_of a) (token_of b)
    (token_long ins ∙ sym (token_long a)) (token_long outs ∙ sym (token_long b)) e in
    record { told = l; among = inl refl; first_is = same.0; second_is = same.1 }
find (l ∷ ls) number ins outs (inr h) =
    let rest = find ls number ins outs h in
    record {
      told = rest.told;
      among = inr rest.among;
      first_is = rest.first_is;
      second_is = rest.second_is;
    }

pub told_leaf : (leaves : List OpenAt) (before behind : List (List ℕ)) (number : ℕ)
    (ins outs : List ℕ) → text_of (before ++ leaf_line number (token_of ins)
    (token_of outs) ∷ behind) ≡ text_of (split_lines leaves)
    → IsTold leaves (token_of ins) (token_of outs)
told_leaf leaves before behind number ins outs e =
    find leaves number ins outs
    (line_among (split_lines leaves) before behind (leaf_line number (token_of ins) (token_of outs))
    (all_one_line leaves) (leaf_one_line number (token_of ins) (token_of outs)
    (token_one_line ins) (token_one_line outs)) e)

-- ---- the node of the leaf

module _ (p : Problem) (proper : IsProper (shape_of p)) (few : length p.units ≤ 128) where
  wider : (xs : List ℕ) → trees.AreUnits p xs → IsSet 128 xs
  wider xs is = record {
    rising = is.rising;
    below = AreBelow-higher (length p.units) 128 xs few is.below;
  }

  -- units of the problem are those of their token
  same_set : (s : ℕ → Bool) (xs : List ℕ) → ((u : ℕ) → s u ≡ true → u < length p.units)
      → trees.AreUnits p xs → token_of xs ≡ token_in s → s ≡ has xs
  same_set s xs small is e =
      let one : xs ≡ listed 128 s = token_one xs (listed 128 s) (wider xs is)
      (IsSet-listed 128 s) e in
      λ i u. (kept u ∙ sym (has-listed 128 s u) ∙ ap (λ (ys : List ℕ). has ys u) (sym one)) i
    where
      kept : (u : ℕ) → s u ≡ (nat_lt u 128 && s u)
      kept u = at (s u) refl
        where
          neither : (a b : Bool) → b ≡ false → (a && b) ≡ false
          neither true b e = e
          neither false b e = refl

          at : (b : Bool) → s u ≡ b → s u ≡ (nat_lt u 128 && s u)
          at true h = h ∙ sym (and_from (nat_lt u 128) (s u) (lt-ltb u 128 (let lt = small u h in
              omega (arith, lt, few))) h)
          at false h = h ∙ sym (neither (nat_lt u 128) (s u) h)

  pub leaf_is_start : OpenLeavesStand → (claim : Claim) (tree : Tree) (word other ins outs : List ℕ)
      → IsPartial p first_node claim tree → IsStart p word other ins outs
      → (told : IsTold (open_leaves (shape_of p) (first_node ∷ []) tree 0) (token_of ins)
      (token_of outs))
      → StandsOpen (shape_of p) (first_node ∷ []) tree told.told.number
      (record { inside = has ins; outside = has outs })
  leaf_is_start stand claim tree word other ins outs partial start told =
      let g = shape_of p in
      let l : OpenAt = told.told in
      let stands : StandsOpen g (first_node ∷ []) tree l.number l.node =
      (stand g first_node tree l).0 told.among in
      let small : AreUnits g proper l.node =
      stands_small g proper (LeafPasses true p (claimed_cost claim))
      (first_node ∷ []) tree l.number l.node (leaf (untried stands.0)) partial.passes (first, tt)
      stands.1 in
      let inside = same_set l.node.inside ins small.inside start.inside_known told.first_is in
      let outside = same_set l.node.outside outs small.outside start.outside_known told.second_is in
      let same : l.node ≡ record { inside = has ins; outside = has outs } =
      λ i. record { inside = inside i; outside = outside i } in
      subst (λ (n : Node). StandsOpen g (first_node ∷ []) tree l.number n) same stands
    where
      first : AreUnits (shape_of p) proper first_node
      first = record { inside = λ u e. absurd cc; outside = λ u e. absurd cc }
