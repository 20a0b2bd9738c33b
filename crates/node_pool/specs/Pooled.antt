-- A pool of nodes: what contracts see.
use Rattle.std.specs.Prelude.{◌≡◌, ℕ, ◌<◌, false, List, [], ◌∷◌, ◌++◌, length, slice_set, Option}
use Rattle.std.specs.Prelude.{Some, None}
use Rattle.exact_numbers.specs.declared.number.Mixed.{Mixed}
use Rattle.link_lists.specs.Lists.{has, without}
use Rattle.node_pool.specs.Order.{placed}

-- the parents, values and payloads of the nodes by their numbers, the open leaves by rising value,
-- and how many adds cannot fail
pub record Pooled (T : Type 0) : Type 0 where
  pub parents : List (Option ℕ)
  pub values : List Mixed
  pub payloads : List T
  pub leaves : List ℕ
  pub spare : ℕ

module _ {T : Type 0} where
  -- node i is shut: it is there, and is not an open leaf
  pub record IsShut (p : Pooled T) (i : ℕ) : Type 0 where
    pub there : i < length p.parents
    pub out : has p.leaves i ≡ false

  -- the first node has no parent, and each other has one that is shut
  abbrev pub IsParent : Pooled T → Option ℕ → Type 0
  IsParent p None = p.parents ≡ []
  IsParent p (Some i) = IsShut p i

  -- the nodes and the open leaves of the one pool are those of the other
  pub record AreSameNodes (old new : Pooled T) : Type 0 where
    pub parents : new.parents ≡ old.parents
    pub values : new.values ≡ old.values
    pub payloads : new.payloads ≡ old.payloads
    pub leaves : new.leaves ≡ old.leaves

  -- one node more, an open leaf
  pub record IsWithLeaf (old : Pooled T) (parent : Option ℕ) (value : Mixed) (payload : T)
      (new : Pooled T) : Type 0 where
    pub parents : new.parents ≡ old.parents ++ parent ∷ []
    pub values : new.values ≡ old.values ++ value ∷ []
    pub payloads : new.payloads ≡ old.payloads ++ payload ∷ []
    pub leaves : new.leaves ≡ placed old.values value (length old.parents) old.leaves

  -- leaf i is shut, and nothing else changed
  abbrev pub with_shut : Pooled T → ℕ → Pooled T
  with_shut p i =
      record {
        parents = p.parents;
        values = p.values;
        payloads = p.payloads;
        leaves =
            without i p.leaves;
        spare = p.spare;
      }

  -- node i has another payload
  abbrev pub with_payload : Pooled T → ℕ → T → Pooled T
  with_payload p i x =
      record {
        parents = p.parents;
        values = p.values;
        payloads = slice_set p.payloads i x;
        leaves =
            p.leaves;
        spare = p.spare;
      }

  -- open leaf i has another value, and comes before the open leaves of at least this value
  abbrev pub with_value : Pooled T → ℕ → Mixed → Pooled T
  with_value p i v =
      record {
        parents = p.parents;
        values = slice_set p.values i v;
        payloads = p.payloads;
        leaves =
            placed (slice_set p.values i v) v i (without i p.leaves);
        spare = p.spare;
      }
