-- The claim, tree and tail that a text stands for, or its first fault: the least line that has one,
-- with its kind. A line that is missing is a bad one, with the number after the last. Each reading
-- of a part gives what it read, and the number and the lines that are still to come.
use Rattle.std.specs.Prelude.{◌+◌, ℕ, zero, suc, List, [], ◌∷◌, ◌++◌, length, Option, Some, None}
use Rattle.std.specs.Prelude.{Result, Ok, Err}
use Rattle.edit_rules.specs.problem_rules.Problem.{Problem}
use Rattle.tree_rules.specs.pns_rules.Nodes as nodes
use Rattle.tree_rules.specs.flow_rules.Cover.{Cover}
use Rattle.tree_rules.specs.flow_rules.ChargeLeaf.{Handed}
use Rattle.tree_rules.specs.Tree as trees
use Rattle.tree_rules.specs.Leaf as leaves
use Rattle.tree_rules.specs.Claim as claims
use Rattle.tree_rules.specs.Accepted.{Tree}
use Rattle.tree_rules.specs.Tail as tails
use Rattle.tree_rules.specs.Head as heads
use Rattle.tree_rules.specs.Head.{HeadLine}
use Rattle.tree_text_rules.specs.Line.{Line, lines_of}
use Rattle.tree_text_rules.specs.LineRead as reads
use Rattle.tree_text_rules.specs.declared.TreeKind.{TreeKind}
use Rattle.tree_text_rules.specs.declared.TreeKind.TheVariants.{FileType, BadLine, AfterEnd}

-- a line's number and a kind
abbrev pub Fault : Type 0
Fault = ℕ × TreeKind

-- what was read, the number of the line after it, and the lines from there on
pub record Taken (A : Type 0) : Type 0 where
  pub what : A
  pub number : ℕ
  pub behind : List Line

-- a line, and what is read of the lines after it
abbrev pub on_line : {A B : Type 0} → ℕ → Result A TreeKind → (A → Result B Fault)
    → Result B Fault
on_line number (Ok a) read = read a
on_line number (Err kind) read = Err (number, kind)

-- the first line, and what is read of the lines after it
abbrev pub first_line : {A B : Type 0} → (Line → Result A TreeKind) → ℕ → List Line
    → (A → List Line → Result B Fault) → Result B Fault
first_line judge number [] read = Err (number, BadLine)
first_line judge number (line ∷ lines) read = on_line number (judge line) (λ a. read a lines)

abbrev pub then_read : {A B : Type 0} → Result (Taken A) Fault
    → (A → ℕ → List Line → Result B Fault) → Result B Fault
then_read (Ok taken) read = read taken.what taken.number taken.behind
then_read (Err fault) read = Err fault

-- ---- claims

-- sizes and cost of a network with these units
abbrev pub sizes_taken : List ℕ → ℕ → List Line → Result (Taken claims.Network) Fault
sizes_taken units number lines =
    first_line (reads.sizes_read (length units)) number lines (λ found lines.
    first_line reads.cost_read (suc number) lines (λ cost lines.
    Ok (record {
      what = record { units = units; sizes = found.1; d = found.0; cost = cost };
      number = suc (suc number);
      behind = lines;
    })))

-- the three lines of a network
abbrev pub network_taken : Problem → ℕ → List Line → Result (Taken claims.Network) Fault
network_taken p number lines =
    first_line (reads.network_line_read p) number lines
    (λ units lines. sizes_taken units (suc number) lines)

abbrev pub claim_behind : reads.Opening → ℕ → List Line → Result (Taken claims.Claim) Fault
claim_behind (reads.network units) number lines =
    then_read (sizes_taken units number lines)
    (λ w number lines. Ok (record { what = claims.network w; number = number; behind = lines }))
claim_behind reads.infeasible number lines =
    Ok (record { what = claims.infeasible; number = number; behind = lines })
claim_behind reads.unknown number lines =
    Ok (record { what = claims.unknown; number = number; behind = lines })

abbrev pub claim_taken : Problem → ℕ → List Line → Result (Taken claims.Claim) Fault
claim_taken p number lines =
    first_line (reads.opening_read p) number lines
    (λ opening lines. claim_behind opening (suc number) lines)

-- ---- nodes

-- a node without its end
pub record Head : Type 0 where
  pub option : List ℕ
  pub steps : List nodes.Step

abbrev pub with_step : Head → nodes.Step → Head
with_step head step = record { option = head.option; steps = head.steps ++ step ∷ [] }

abbrev pub with_end : Head → trees.End leaves.Leaf → trees.TreeNode leaves.Leaf
with_end head end = record { option = head.option; steps = head.steps; end = end }

-- the steps that come next, after those of the head; they end before the first line that is no step
abbrev pub steps_taken : Problem → Head → ℕ → List Line → Result (Taken Head) Fault
steps_taken p head number [] = Ok (record { what = head; number = number; behind = [] })
steps_taken p head number (line ∷ lines) = elim (reads.step_read p line) [
  | None ↦ Ok (record { what = head; number = number; behind = line ∷ lines })
  | Some read
      ↦ on_line number read (λ step. steps_taken p (with_step head step) (suc number) lines)
]

-- a node's line and its steps
abbrev pub head_taken : Problem → ℕ → List Line → Result (Taken Head) Fault
head_taken p number lines =
    first_line (reads.option_read p) number lines
    (λ option lines. steps_taken p (record { option = option; steps = [] }) (suc number) lines)

-- ---- ends

-- the sets that come next, after those of the charge; they end before the first line that is none
abbrev pub covers_taken : Problem → List Cover → ℕ → List Line → Result (Taken (List Cover)) Fault
covers_taken p covers number [] = Ok (record { what = covers; number = number; behind = [] })
covers_taken p covers number (line ∷ lines) = elim (reads.next_cover p covers line) [
  | None ↦ Ok (record { what = covers; number = number; behind = line ∷ lines })
  | Some read
      ↦ on_line number read (λ cover. covers_taken p (covers ++ cover ∷ []) (suc number) lines)
]

abbrev pub with_covers : Handed → List Cover → Handed
with_covers h covers = record { d = h.d; ys = h.ys; covers = covers }

abbrev pub charge_end : Handed → trees.End leaves.Leaf
charge_end h = trees.leaf (leaves.charged h)

-- the charge of an end whose line was read, if it is one
abbrev pub charge_of : trees.End leaves.Leaf → Option Handed
charge_of (trees.branch w) = None
charge_of (trees.leaf (leaves.dead x)) = None
charge_of (trees.leaf (leaves.clash k)) = None
charge_of (trees.leaf (leaves.refuted ys)) = None
charge_of (trees.leaf (leaves.bounded d ys)) = None
charge_of (trees.leaf (leaves.charged h)) = Some h
charge_of (trees.leaf (leaves.untried low)) = None

-- what follows the line of an end: the sets of a charge
abbrev pub end_behind : Problem → trees.End leaves.Leaf → Option Handed → ℕ → List Line
    → Result (Taken (trees.End leaves.Leaf)) Fault
end_behind p end None number lines = Ok (record { what = end; number = number; behind = lines })
end_behind p end (Some h) number lines =
    then_read (covers_taken p h.covers number lines) (λ covers number lines.
    Ok (record { what = charge_end (with_covers h covers); number = number; behind = lines }))

-- the lines of an end
abbrev pub end_taken : Problem → ℕ → List Line → Result (Taken (trees.End leaves.Leaf)) Fault
end_taken p number lines =
    first_line (reads.end_line_read p) number lines
    (λ end lines. end_behind p end (charge_of end) (suc number) lines)

-- ---- heads of trees

abbrev pub with_set : HeadLine → Cover → HeadLine
with_set (heads.step s) cover = heads.step s
with_set (heads.cap u v d ys covers) cover = heads.cap u v d ys (covers ++ cover ∷ [])
with_set (heads.out u d ys covers) cover = heads.out u d ys (covers ++ cover ∷ [])
with_set (heads.trim u) cover = heads.trim u
with_set (heads.uses q d ys covers) cover = heads.uses q d ys (covers ++ cover ∷ [])

abbrev pub with_line : HeadLine → Result (Taken (List HeadLine)) Fault
    → Result (Taken (List HeadLine)) Fault
with_line line (Ok taken) =
    Ok (record { what = line ∷ taken.what; number = taken.number; behind = taken.behind })
with_line line (Err fault) = Err fault

-- the lines of a head, after one that was begun if there is one, whose sets may come first; they
-- end before the first line that is none
unfoldable pub front_taken : Problem → Option HeadLine → ℕ → List Line
    → Result (Taken (List HeadLine)) Fault
front_taken p None number [] = Ok (record { what = []; number = number; behind = [] })
front_taken p None number (line ∷ lines) = elim (reads.head_read p line) [
  | Some read
      ↦ on_line number read (λ next. front_taken p (Some next) (suc number) lines)
  | None ↦ Ok (record { what = []; number = number; behind = line ∷ lines })
]
front_taken p (Some begun) number [] =
    with_line begun (Ok (record { what = []; number = number; behind = [] }))
front_taken p (Some begun) number (line ∷ lines) =
    elim (reads.next_among p (reads.sets_of begun) line) [
      | Some read
          ↦ on_line number read
          (λ cover. front_taken p (Some (with_set begun cover)) (suc number) lines)
      | None ↦ with_line begun (elim (reads.head_read p line) [
        | Some read
            ↦ on_line number read (λ next. front_taken p (Some next) (suc number) lines)
        | None ↦ Ok (record { what = []; number = number; behind = line ∷ lines })
      ])
    ]

-- ---- trees

abbrev pub with_node : trees.TreeNode leaves.Leaf → Result (Taken Tree) Fault
    → Result (Taken Tree) Fault
with_node t (Ok taken) =
    Ok (record { what = t ∷ taken.what; number = taken.number; behind = taken.behind })
with_node t (Err fault) = Err fault

-- where the reading of nodes is: between two of them; after the option and the steps of one; or
-- after the line of its charge and the sets that were read of it
pub data Begun : Type 0 where
  between : Begun
  at_steps : Head → Begun
  at_covers : Head → Handed → Begun

abbrev pub at_option : List ℕ → Begun
at_option option = at_steps (record { option = option; steps = [] })

-- so many subtrees, after what was begun
unfoldable pub nodes_taken : Problem → Begun → ℕ → ℕ → List Line → Result (Taken Tree) Fault
nodes_taken p between zero number lines =
    Ok (record { what = []; number = number; behind = lines })
nodes_taken p between (suc count) number [] = Err (number, BadLine)
nodes_taken p between (suc count) number (line ∷ lines) =
    on_line number (reads.option_read p line)
    (λ option. nodes_taken p (at_option option) count (suc number) lines)
nodes_taken p (at_steps head) count number [] = Err (number, BadLine)
nodes_taken p (at_steps head) count number (line ∷ lines) = elim (reads.step_read p line) [
  | Some read
      ↦ on_line number read
      (λ step. nodes_taken p (at_steps (with_step head step)) count (suc number) lines)
  | None ↦ on_line number (reads.end_line_read p line) (λ end. elim (charge_of end) [
    | Some h ↦ nodes_taken p (at_covers head h) count (suc number) lines
    | None ↦ with_node (with_end head end)
        (nodes_taken p between (trees.children end + count) (suc number) lines)
  ])
]
nodes_taken p (at_covers head h) zero number [] =
    with_node (with_end head (charge_end h))
    (Ok (record { what = []; number = number; behind = [] }))
nodes_taken p (at_covers head h) (suc count) number [] = Err (number, BadLine)
nodes_taken p (at_covers head h) zero number (line ∷ lines) =
    elim (reads.next_cover p h.covers line) [
      | Some read
          ↦ on_line number read
          (λ cover. nodes_taken p (at_covers head (with_covers h (h.covers ++ cover ∷ []))) zero
          (suc number) lines)
      | None ↦ with_node (with_end head (charge_end h))
          (Ok (record { what = []; number = number; behind = line ∷ lines }))
    ]
nodes_taken p (at_covers head h) (suc count) number (line ∷ lines) =
    elim (reads.next_cover p h.covers line) [
      | Some read
          ↦ on_line number read
          (λ cover. nodes_taken p (at_covers head (with_covers h (h.covers ++ cover ∷ [])))
          (suc count)
          (suc number) lines)
      | None ↦ with_node (with_end head (charge_end h))
          (on_line number (reads.option_read p line)
          (λ option. nodes_taken p (at_option option) count (suc number) lines))
    ]

-- one whole tree
abbrev pub tree_taken : Problem → ℕ → List Line → Result (Taken Tree) Fault
tree_taken p number lines =
    first_line reads.root_read number lines
    (λ option lines. nodes_taken p (at_option option) 0 (suc number) lines)

-- ---- tails

-- nothing comes after the last line
abbrev pub nothing_behind : {A : Type 0} → A → ℕ → List Line → Result A Fault
nothing_behind a number [] = Ok a
nothing_behind a number (line ∷ lines) = Err (number, AfterEnd)

abbrev pub close_taken : tails.Tail → ℕ → List Line → Result tails.Tail Fault
close_taken tail number lines =
    first_line reads.close_read number lines
    (λ closed lines. nothing_behind tail (suc number) lines)

abbrev pub past_taken : Problem → ℕ → ℕ → List Line → Result tails.Tail Fault
past_taken p node number lines =
    first_line (reads.nonbasic_read p) number lines (λ nonbasic lines.
    first_line (reads.place_read p) (suc number) lines (λ place lines.
    close_taken (tails.past node nonbasic place) (suc (suc number)) lines))

abbrev pub tail_behind : Problem → reads.TailOpening → ℕ → List Line → Result tails.Tail Fault
tail_behind p reads.whole number lines = nothing_behind tails.whole number lines
tail_behind p (reads.spent next options) number lines =
    close_taken (tails.spent next options) number lines
tail_behind p (reads.past node) number lines = past_taken p node number lines

-- a tail and the last line, to the end of the text
abbrev pub tail_taken : Problem → ℕ → List Line → Result tails.Tail Fault
tail_taken p number lines =
    first_line reads.tail_opening_read number lines
    (λ opening lines. tail_behind p opening (suc number) lines)

-- ---- the text

pub record Certificate : Type 0 where
  pub claim : claims.Claim
  pub tree : Tree
  pub tail : tails.Tail

abbrev pub with_tail : claims.Claim → Tree → Result tails.Tail Fault → Result Certificate Fault
with_tail claim tree (Ok tail) = Ok (record { claim = claim; tree = tree; tail = tail })
with_tail claim tree (Err fault) = Err fault

-- all lines but the first
abbrev pub rest_taken : Problem → ℕ → List Line → Result Certificate Fault
rest_taken p number lines =
    then_read (claim_taken p number lines) (λ claim number lines.
    then_read (tree_taken p number lines) (λ tree number lines.
    with_tail claim tree (tail_taken p number lines)))

abbrev pub lines_taken : Problem → List Line → Result Certificate Fault
lines_taken p [] = Err (1, FileType)
lines_taken p (line ∷ lines) =
    on_line 1 (reads.file_type_read line) (λ read. rest_taken p 2 lines)

-- the claim, tree and tail that a text stands for, or its first fault: the answer of a reader of
-- tree texts
abbrev pub read_text : Problem → List ℕ → Result Certificate Fault
read_text p bytes = lines_taken p (lines_of bytes)

-- ---- the text of a tree with a head, which may have no lines

pub record HeadedCertificate : Type 0 where
  pub claim : claims.Claim
  pub head : List HeadLine
  pub tree : Tree
  pub tail : tails.Tail

abbrev pub with_parts : claims.Claim → List HeadLine → Tree → Result tails.Tail Fault
    → Result HeadedCertificate Fault
with_parts claim head tree (Ok tail) =
    Ok (record { claim = claim; head = head; tree = tree; tail = tail })
with_parts claim head tree (Err fault) = Err fault

-- all lines but the first
abbrev pub headed_rest_taken : Problem → ℕ → List Line → Result HeadedCertificate Fault
headed_rest_taken p number lines =
    then_read (claim_taken p number lines) (λ claim number lines.
    then_read (front_taken p None number lines) (λ head number lines.
    then_read (tree_taken p number lines) (λ tree number lines.
    with_parts claim head tree (tail_taken p number lines))))

abbrev pub headed_lines_taken : Problem → List Line → Result HeadedCertificate Fault
headed_lines_taken p [] = Err (1, FileType)
headed_lines_taken p (line ∷ lines) =
    on_line 1 (reads.file_type_read line) (λ read. headed_rest_taken p 2 lines)

-- the claim, head, tree and tail that a text stands for, or its first fault
abbrev pub read_headed_text : Problem → List ℕ → Result HeadedCertificate Fault
read_headed_text p bytes = headed_lines_taken p (lines_of bytes)
