-- Subtrees one after the other: a list of them is put after another.
use Rattle.std.proofs.Common.{◌≡◌, ℕ, zero, suc, ◌+◌, List, [], ◌∷◌, ◌++◌, length, refl, sym, ap}
use Rattle.std.proofs.Common.{◌∙◌, subst, arith, append_assoc, length-append}
use Rattle.std.proofs.lemmas.List.{length-map}
use Rattle.tree_text_laws.specs.pns_rules.Shape.{Shape}
use Rattle.tree_text_laws.specs.pns_rules.Nodes.{Node, Step, after}
use Rattle.tree_text_laws.specs.tree_rules.Ways.{width, options_at, child_at}
use Rattle.tree_text_laws.specs.tree_rules.Tree.{End, branch, leaf, TreeNode, children, IsForest}
use Rattle.tree_text_laws.specs.tree_rules.Tree.{skip, roots}
use Rattle.tree_text_laws.specs.tree_rules.Tree.{StepsPass, after_all, EndPasses, below, Pass}

-- ---- steps

pub after_all-append : (g : Shape) (n : Node) (ss ts : List Step)
    → after_all g n (ss ++ ts) ≡ after_all g (after_all g n ss) ts
after_all-append g n [] ts = refl
after_all-append g n (s ∷ ss) ts = after_all-append g (after g n s) ss ts

pub steps-append : (g : Shape) (n : Node) (ss ts : List Step) → StepsPass g n ss
    → StepsPass g (after_all g n ss) ts → StepsPass g n (ss ++ ts)
steps-append g n [] ts h k = k
steps-append g n (s ∷ ss) ts h k = (h.0, steps-append g (after g n s) ss ts h.1 k)

module _ {L : Type 0} where
  -- ---- forests; n is a + c

  pub forest-append : (a c n : ℕ) (xs ys : List (TreeNode L)) → n ≡ a + c → IsForest a xs
      → IsForest c ys → IsForest n (xs ++ ys)
  forest-append zero c n [] ys e h k =
      subst (λ (j : ℕ). IsForest j ys) (let q : c ≡ n = omega arith in q) k
  forest-append zero c n (x ∷ xs) ys e h k = absurd h
  forest-append (suc a) c n [] ys e h k = absurd h
  forest-append (suc a) c n (x ∷ xs) ys e h k =
      subst (λ (j : ℕ). IsForest j (x ∷ (xs ++ ys))) (let q : suc (a + c) ≡ n = omega arith in q) (
        h.0,
        forest-append (children x.end + a) c (children x.end + (a + c)) xs ys (omega arith) h.1
            k,
      )

  pub forest-skip : (k m c : ℕ) (ts : List (TreeNode L)) → c ≡ k + m → IsForest c ts
      → IsForest m (skip k ts)
  forest-skip zero m c ts e h =
      subst (λ (j : ℕ). IsForest j ts) (let q : c ≡ m = omega arith in q) h
  forest-skip (suc k) m c [] e h =
      absurd
      (subst (λ (j : ℕ). IsForest {L = L} j []) (let q : c ≡ suc (k + m) = omega arith in q) h)
  forest-skip (suc k) m c (t ∷ ts) e h =
      forest-skip (children t.end + k) m (children t.end + (k + m)) ts (omega arith)
      (subst (λ (j : ℕ). IsForest j (t ∷ ts)) (let q : c ≡ suc (k + m) = omega arith in q) h).1

  pub skip-append : (k m c : ℕ) (xs ys : List (TreeNode L)) → c ≡ k + m → IsForest c xs
      → skip k (xs ++ ys) ≡ skip k xs ++ ys
  skip-append zero m c xs ys e h = refl
  skip-append (suc k) m c [] ys e h =
      absurd
      (subst (λ (j : ℕ). IsForest {L = L} j []) (let q : c ≡ suc (k + m) = omega arith in q) h)
  skip-append (suc k) m c (x ∷ xs) ys e h =
      skip-append (children x.end + k) m (children x.end + (k + m)) xs ys (omega arith)
      (subst (λ (j : ℕ). IsForest j (x ∷ xs)) (let q : c ≡ suc (k + m) = omega arith in q) h).1

  -- a whole forest is skipped
  pub skip-whole : (a b c : ℕ) (xs ys : List (TreeNode L)) → c ≡ a + b → IsForest a xs
      → skip c (xs ++ ys) ≡ skip b ys
  skip-whole zero b c [] ys e h = ap (λ (j : ℕ). skip j ys) (let q : c ≡ b = omega arith in q)
  skip-whole zero b c (x ∷ xs) ys e h = absurd h
  skip-whole (suc a) b c [] ys e h = absurd h
  skip-whole (suc a) b c (x ∷ xs) ys e h =
      ap (λ (j : ℕ). skip j (x ∷ (xs ++ ys))) (let q : c ≡ suc (a + b) = omega arith in q)
      ∙ skip-whole (children x.end + a) b (children x.end + (a + b)) xs ys (omega arith) h.1

  pub roots-append : (k m c : ℕ) (xs ys : List (TreeNode L)) → c ≡ k + m → IsForest c xs
      → roots k (xs ++ ys) ≡ roots k xs
  roots-append zero m c xs ys e h = refl
  roots-append (suc k) m c [] ys e h =
      absurd
      (subst (λ (j : ℕ). IsForest {L = L} j []) (let q : c ≡ suc (k + m) = omega arith in q) h)
  roots-append (suc k) m c (x ∷ xs) ys e h =
      ap (λ (us : List (TreeNode L)). x.option ∷ roots k us)
      (skip-append 1 (k + m) c (x ∷ xs) ys (omega arith) h)
      ∙ ap (λ (os : List (List ℕ)). x.option ∷ os)
      (roots-append k m (k + m) (skip 1 (x ∷ xs)) ys refl
      (forest-skip 1 (k + m) c (x ∷ xs) (omega arith) h))

  pub length-roots : (k m c : ℕ) (ts : List (TreeNode L)) → c ≡ k + m → IsForest c ts
      → length (roots k ts) ≡ k
  length-roots zero m c ts e h = refl
  length-roots (suc k) m c [] e h =
      absurd
      (subst (λ (j : ℕ). IsForest {L = L} j []) (let q : c ≡ suc (k + m) = omega arith in q) h)
  length-roots (suc k) m c (t ∷ ts) e h =
      ap suc
      (length-roots k m (k + m) (skip 1 (t ∷ ts)) refl
      (forest-skip 1 (k + m) c (t ∷ ts) (omega arith) h))

  -- ---- trees that pass, one after the other

  module _ (g : Shape) (P : Node → L → Type 0) where
    pub length-below : (n : Node) (end : End L) (m : ℕ) (us : List (TreeNode L))
        → EndPasses g P n end us → IsForest (children end + m) us
        → length (below g n end) ≡ children end
    length-below n (branch w) m us e f =
        length-map (options_at g n w) (child_at g n w)
        ∙ (ap (λ (ts : List (List ℕ)). length ts) (sym e.1)
        ∙ length-roots (width w) m (width w + m) us refl f)
    length-below n (leaf l) m us e f = refl

    pub end-append : (n : Node) (end : End L) (m : ℕ) (xs ys : List (TreeNode L))
        → IsForest (children end + m) xs → EndPasses g P n end xs → EndPasses g P n end (xs ++ ys)
    end-append n (branch w) m xs ys f h =
        (h.0, roots-append (width w) m (width w + m) xs ys refl f ∙ h.1)
    end-append n (leaf l) m xs ys f h = h

    -- the children of a node before others, as many as there are subtrees
    pub forest_below : (n : Node) (end : End L) (ms : List Node) (us : List (TreeNode L))
        → EndPasses g P n end us → IsForest (children end + length ms) us
        → IsForest (length (below g n end ++ ms)) us
    forest_below n end ms us e f =
        let count = length-below n end (length ms) us e f in
        subst (λ (k : ℕ). IsForest k us)
        (sym (length-append (below g n end) ms ∙ ap (λ (k : ℕ). k + length ms) count)) f

    pub pass-append : (ls ms : List Node) (xs ys : List (TreeNode L)) → IsForest (length ls) xs
        → Pass g P ls xs → Pass g P ms ys → Pass g P (ls ++ ms) (xs ++ ys)
    pass-append [] ms [] ys f h k = k
    pass-append [] ms (x ∷ xs) ys f h k = absurd h
    pass-append (l ∷ ls) ms [] ys f h k = absurd h
    pass-append (l ∷ ls) ms (x ∷ xs) ys f h k =
        let n : Node = after_all g l x.steps in (
          h.0,
          end-append n x.end (length ls) xs ys f.1 h.1,
          subst (λ (ns : List Node). Pass g P ns (xs ++ ys)) (append_assoc (below g n x.end) ls ms)
              (pass-append (below g n x.end ++ ls) ms xs ys (forest_below n x.end ls xs h.1 f.1) h.2
              k),
        )
