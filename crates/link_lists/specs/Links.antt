-- How memory represents the lists. With n lists, list l has the node l, which closes it to a ring,
-- and cell c has the node n + c. Each node has a link to the next one and a link to the one before,
-- here as functions from node to node.
use Rattle.std.specs.Prelude.{◌≡◌, ℕ, zero, suc, ◌+◌, ◌-◌, ◌<◌, ◌≤◌, ◌==◌, nat_lt, true, cond, List}
use Rattle.std.specs.Prelude.{[], ◌∷◌, length, map, take, reverse, slice_index_or, ◌^◌}
use Rattle.std.specs.List.{range_with_len}
use Rattle.link_lists.specs.declared.links.Link.{Link}
use Rattle.link_lists.specs.Lists.{Vacancy, Rows, row, has, without, vacancy, IsListed, IsOnce}

-- f and g lead from node a through the cells to node e, and back
abbrev pub Chain : (ℕ → ℕ) → (ℕ → ℕ) → ℕ → ℕ → List ℕ → ℕ → Type 0
Chain f g n a [] e = (f a ≡ e) × (g e ≡ a)
Chain f g n a (c ∷ cs) e = (f a ≡ n + c) × (g (n + c) ≡ a) × Chain f g n (n + c) cs e

-- the links, written at one node
abbrev pub with_at : (ℕ → ℕ) → ℕ → ℕ → ℕ → ℕ
with_at f p v i = cond (i == p) v (f i)

-- the links f to the next node and g to the one before represent the lists
pub record Rep (n cells : ℕ) (f g : ℕ → ℕ) (ls : List (List ℕ)) : Type 0 where
  pub count : length ls ≡ n
  pub chains : (l : ℕ) → l < n → Chain f g n l (row ls l) l
  pub once : (l : ℕ) → IsOnce (row ls l)
  pub apart : (l m c : ℕ) → has (row ls l) c ≡ true → has (row ls m) c ≡ true → l ≡ m
  pub below : (l c : ℕ) → has (row ls l) c ≡ true → c < cells

-- an unlinked cell, and the lists as they were before it was unlinked
pub record Saved : Type 0 where
  pub cell : ℕ
  pub before : List (List ℕ)

pub record IsSaved (n cells : ℕ) (f g : ℕ → ℕ) (ls : List (List ℕ)) (s : Saved) : Type 0 where
  pub listed : IsListed s.before s.cell
  pub gone : ls ≡ map (without s.cell) s.before
  pub near_prev : g (n + s.cell) < n + cells
  pub near_next : f (n + s.cell) < n + cells

-- the links after the cell is put back between the neighbours in its own links
abbrev pub next_back : ℕ → (ℕ → ℕ) → (ℕ → ℕ) → ℕ → ℕ → ℕ
next_back n f g c = with_at f (g (n + c)) (n + c)

abbrev pub prev_back : ℕ → (ℕ → ℕ) → (ℕ → ℕ) → ℕ → ℕ → ℕ
prev_back n f g c = with_at g (f (n + c)) (n + c)

-- the links represent the lists, and again after each cell of the stack is put back
abbrev pub Holds : ℕ → ℕ → (ℕ → ℕ) → (ℕ → ℕ) → List (List ℕ) → List Saved → Type 0
Holds n cells f g ls [] = Rep n cells f g ls
Holds n cells f g ls (s ∷ st) =
    Rep n cells f g ls × IsSaved n cells f g ls s
    × Holds n cells (next_back n f g s.cell) (prev_back n f g s.cell) s.before st

abbrev pub cells_of : List Saved → List ℕ
cells_of [] = []
cells_of (s ∷ st) = s.cell ∷ cells_of st

-- ---- the view: the lists along the links

-- the cells from node i on, at most k
unfoldable pub walked : ℕ → (ℕ → ℕ) → ℕ → ℕ → List ℕ
walked zero f n i = []
walked (suc k) f n i = cond (nat_lt i n) [] ((i - n) ∷ walked k f n (f i))

unfoldable pub rows_of : ℕ → ℕ → (ℕ → ℕ) → List (List ℕ)
rows_of n cells f = map (λ l. walked cells f n (f l)) (range_with_len 0 n)

abbrev pub saved_of : ℕ → ℕ → (ℕ → ℕ) → (ℕ → ℕ) → List ℕ → List Saved
saved_of n cells f g [] = []
saved_of n cells f g (c ∷ cs) =
    record { cell = c; before = rows_of n cells (next_back n f g c) }
    ∷ saved_of n cells (next_back n f g c) (prev_back n f g c) cs

abbrev pub vacancies : List Saved → List Vacancy
vacancies st = map (λ s. vacancy s.before s.cell) st

abbrev pub nowhere : Link
nowhere = record { next = 0; prev = 0 }

abbrev pub next_of : List Link → ℕ → ℕ
next_of links i = (slice_index_or links i nowhere).next

abbrev pub prev_of : List Link → ℕ → ℕ
prev_of links i = (slice_index_or links i nowhere).prev

-- the cells on the stack, the last one first
abbrev pub stacked : List ℕ → ℕ → List ℕ
stacked stack depth = reverse (take depth stack)

abbrev pub state_of : ℕ → ℕ → List Link → List ℕ → ℕ → Rows
state_of n cells links stack depth = record {
  cells = cells;
  lists = rows_of n cells (next_of links);
  stack = vacancies (saved_of n cells (next_of links) (prev_of links) (stacked stack depth));
}

pub record IsHeld (n cells : ℕ) (links : List Link) (stack : List ℕ) (depth : ℕ) : Type 0 where
  pub holds : Holds n cells (next_of links) (prev_of links) (rows_of n cells (next_of links))
      (saved_of n cells (next_of links) (prev_of links) (stacked stack depth))
  pub room_links : n + cells ≤ length links
  pub room_stack : cells ≤ length stack
  pub few : (n < 2 ^ 32) × (cells < 2 ^ 32)
  pub deep : depth ≤ cells
