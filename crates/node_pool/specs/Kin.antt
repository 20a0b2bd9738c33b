-- How memory represents a tree: each node has its parent, its first and its last child, and its
-- next sibling.
use Rattle.std.specs.Prelude.{◌≡◌, ℕ, ◌==◌, cond, List, map, slice_index_or, Option, Some, None}
use Rattle.std.specs.List.{last_or}
use Rattle.link_lists.specs.Lists.{first}
use Rattle.node_pool.specs.declared.tree.Kin.{Kin}
use Rattle.node_pool.specs.Tree.{children, sibling_after, AreAfterParents}

abbrev pub alone : Kin
alone = record { parent = None; first_child = None; last_child = None; next_sibling = None }

abbrev pub kin_at : List Kin → ℕ → Kin
kin_at kin i = slice_index_or kin i alone

abbrev pub parents_of : List Kin → List (Option ℕ)
parents_of kin = map (λ k. k.parent) kin

abbrev pub first_at : List Kin → ℕ → Option ℕ
first_at kin i = (kin_at kin i).first_child

abbrev pub last_at : List Kin → ℕ → Option ℕ
last_at kin i = (kin_at kin i).last_child

abbrev pub next_at : List Kin → ℕ → Option ℕ
next_at kin i = (kin_at kin i).next_sibling

-- the field, written at one node
abbrev pub with_at : (ℕ → Option ℕ) → ℕ → Option ℕ → ℕ → Option ℕ
with_at f p v i = cond (i == p) v (f i)

-- a first child is written only if there was no child, and a next sibling only if there was one, l
abbrev pub first_with : Option ℕ → (ℕ → Option ℕ) → ℕ → ℕ → ℕ → Option ℕ
first_with None f p id = with_at f p (Some id)
first_with (Some l) f p id = f

abbrev pub next_with : Option ℕ → (ℕ → Option ℕ) → ℕ → ℕ → Option ℕ
next_with None f id = f
next_with (Some l) f id = with_at f l (Some id)

-- node p has the child id after its other children
pub record IsAdopted (old new : List Kin) (p id : ℕ) : Type 0 where
  pub parents : parents_of new ≡ parents_of old
  pub first : first_at new ≡ first_with (last_at old p) (first_at old) p id
  pub last : last_at new ≡ with_at (last_at old) p (Some id)
  pub next : next_at new ≡ next_with (last_at old p) (next_at old) id

abbrev pub IsAdoptedBy : List Kin → List Kin → Option ℕ → ℕ → Type 0
IsAdoptedBy old new None id = new ≡ old
IsAdoptedBy old new (Some p) id = IsAdopted old new p id

-- the last of a list
abbrev pub last : List ℕ → Option ℕ
last xs = last_or None xs

-- the nodes are linked as the tree has it
pub record IsLinked (ps : List (Option ℕ)) (kin : List Kin) : Type 0 where
  pub first : (i : ℕ) → first_at kin i ≡ first (children ps i)
  pub last : (i : ℕ) → last_at kin i ≡ last (children ps i)
  pub next : (i : ℕ) → next_at kin i ≡ sibling_after ps i
  pub after : AreAfterParents ps
