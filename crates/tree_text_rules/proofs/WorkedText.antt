-- Texts of a plant of five units: each is spelled just so, and reads back.
use Rattle.std.proofs.Common.{◌≡◌, ◌++◌, ℕ, pos, negsuc, List, [], ◌∷◌, map, codes, refl, Ok, Some}
use Rattle.std.proofs.Common.{None}
use Rattle.std.specs.Fmt.{digits}
use Rattle.tree_rules.specs.pns_rules.Nodes.{raw, rival, starve, loose, sole}
use Rattle.tree_rules.specs.integer_laws.declared.which.Which.TheVariants as whiches
use Rattle.tree_rules.specs.flow_rules.declared.place.Column.TheVariants as columns
use Rattle.tree_rules.specs.flow_rules.declared.place.FlowStep.TheVariants as flows
use Rattle.tree_rules.specs.flow_rules.declared.place.Place.{Place}
use Rattle.tree_rules.specs.flow_rules.declared.place.Place.TheVariants as places
use Rattle.tree_rules.specs.flow_rules.Cover.{Cover}
use Rattle.tree_rules.specs.flow_rules.ChargeLeaf.{Handed}
use Rattle.tree_rules.specs.Ways.{at_material, either}
use Rattle.tree_rules.specs.Tree.{TreeNode, branch, leaf}
use Rattle.tree_rules.specs.Leaf.{Leaf, dead, clash, refuted, bounded, charged, untried}
use Rattle.tree_rules.specs.Claim.{Claim, network, infeasible, unknown}
use Rattle.tree_rules.specs.Accepted.{Tree}
use Rattle.tree_rules.specs.Tail.{whole, spent, past}
use Rattle.tree_rules.specs.Head.{HeadLine, step, cap, out, trim, uses}
use Rattle.tree_text_rules.specs.Spelling.{tree_text, headed_text}
use Rattle.tree_text_rules.specs.Line.{word_named}
use Rattle.tree_text_rules.specs.Read.{Certificate, read_text, nodes_taken, front_taken}
use Rattle.tree_text_rules.specs.Read.{HeadedCertificate, read_headed_text}
use Rattle.tree_text_rules.proofs.Plant.{plant, body}

-- a text stands for this, and this has that text
abbrev IsTextOf : List ℕ → Certificate → Type 0
IsTextOf text c = (read_text plant text ≡ Ok c) × (tree_text plant c.claim c.tree c.tail ≡ text)

abbrev claimed : Claim
claimed =
    network
    (record {
      units = 0 ∷ 2 ∷ [];
      sizes = pos 20000000 ∷ pos 20000000 ∷ [];
      d = pos 1;
      cost =
          pos 75000000000000000000;
    })

abbrev bound_leaf : List ℕ → ℕ → ℕ → TreeNode Leaf
bound_leaf option y z =
    record {
      option = option;
      steps = [];
      end =
          leaf (bounded (pos 1) (pos 0 ∷ pos y ∷ pos z ∷ []));
    }

abbrev solved : Tree
solved =
    record {
      option = [];
      steps = starve 3 ∷ loose (4 ∷ []) ∷ sole 5 2 ∷ [];
      end =
          branch (at_material 2 3);
    }
    ∷ bound_leaf (0 ∷ []) 3000000 3000000
    ∷ bound_leaf (1 ∷ []) 4000000 4000000
    ∷ record {
      option = 0 ∷ 1 ∷ [];
      steps = [];
      end =
          leaf (bounded (pos 1) (pos 0 ∷ pos 0 ∷ pos 3000000 ∷ pos 3000000 ∷ []));
    }
    ∷ []

abbrev solved_text : List ℕ
solved_text = body (
    codes "network U1 U3"
    ∷ codes "sizes 1 20000000 20000000"
    ∷ codes "cost 75000000000000000000"
    ∷ codes "node"
    ∷ codes "starve E"
    ∷ codes "loose U5"
    ∷ codes "sole P U3"
    ∷ codes "branch C 3"
    ∷ codes "node U1"
    ∷ codes "bound 1 0 3000000 3000000"
    ∷ codes "node U2"
    ∷ codes "bound 1 0 4000000 4000000"
    ∷ codes "node U1 U2"
    ∷ codes "bound 1 0 0 3000000 3000000"
    ∷ codes "end"
    ∷ []
    )

solved_is : IsTextOf solved_text (record { claim = claimed; tree = solved; tail = whole })
unfolding digits nodes_taken word_named
solved_is = (refl, refl)

-- a tree that branches in two at U3, at U1 and at U2
abbrev halves_claim : Claim
halves_claim =
    network
    (record {
      units = 2 ∷ 3 ∷ [];
      sizes = pos 20000000 ∷ pos 20000000 ∷ [];
      d = pos 1;
      cost =
          pos 65000000000000000000;
    })

abbrev halved : List ℕ → ℕ → TreeNode Leaf
halved option u = record { option = option; steps = []; end = branch (either u) }

abbrev shut_leaf : List ℕ → List ℕ → TreeNode Leaf
shut_leaf option ys =
    record { option = option; steps = []; end = leaf (bounded (pos 1) (map pos ys)) }

abbrev halves : Tree
halves =
    record { option = []; steps = sole 5 3 ∷ []; end = branch (either 2) }
    ∷ halved (2 ∷ []) 0
    ∷ shut_leaf (0 ∷ []) (0 ∷ 0 ∷ 2000000 ∷ 2000000 ∷ [])
    ∷ halved [] 1
    ∷ shut_leaf (1 ∷ []) (0 ∷ 0 ∷ 2000000 ∷ 2000000 ∷ [])
    ∷ shut_leaf [] (0 ∷ 2000000 ∷ 2000000 ∷ [])
    ∷ shut_leaf [] (0 ∷ 0 ∷ 3100000 ∷ 3100000 ∷ [])
    ∷ []

abbrev halves_text : List ℕ
halves_text = body (
    codes "network U3 U4"
    ∷ codes "sizes 1 20000000 20000000"
    ∷ codes "cost 65000000000000000000"
    ∷ codes "node"
    ∷ codes "sole P U4"
    ∷ codes "either U3"
    ∷ codes "node U3"
    ∷ codes "either U1"
    ∷ codes "node U1"
    ∷ codes "bound 1 0 0 2000000 2000000"
    ∷ codes "node"
    ∷ codes "either U2"
    ∷ codes "node U2"
    ∷ codes "bound 1 0 0 2000000 2000000"
    ∷ codes "node"
    ∷ codes "bound 1 0 2000000 2000000"
    ∷ codes "node"
    ∷ codes "bound 1 0 0 3100000 3100000"
    ∷ codes "end"
    ∷ []
    )

halves_are : IsTextOf halves_text (record { claim = halves_claim; tree = halves; tail = whole })
unfolding digits nodes_taken word_named
halves_are = (refl, refl)

-- the same, if each leaf charges its node: with one set, and with two, the second of which is
-- beside U4
abbrev one_set : Cover
one_set = record { weight = pos 1000000000000000000; beside = None; units = 0 ∷ 1 ∷ [] }

abbrev set_beside : Cover
set_beside = record { weight = pos 0; beside = Some 3; units = 2 ∷ [] }

abbrev charge_leaf : List ℕ → Handed → TreeNode Leaf
charge_leaf option h = record { option = option; steps = []; end = leaf (charged h) }

abbrev charges : Tree
charges =
    record { option = []; steps = sole 5 3 ∷ []; end = branch (either 2) }
    ∷ charge_leaf (2 ∷ [])
    (record {
      d = pos 1;
      ys = pos 0 ∷ pos 0 ∷ pos 2000000 ∷ pos 2000000 ∷ [];
      covers =
          one_set ∷ [];
    })
    ∷ charge_leaf [] (record { d = pos 0; ys = negsuc 0 ∷ []; covers = one_set ∷ set_beside ∷ [] })
    ∷ []

abbrev charges_text : List ℕ
charges_text = body (
    codes "network U3 U4"
    ∷ codes "sizes 1 20000000 20000000"
    ∷ codes "cost 65000000000000000000"
    ∷ codes "node"
    ∷ codes "sole P U4"
    ∷ codes "either U3"
    ∷ codes "node U3"
    ∷ codes "charge 1 0 0 2000000 2000000"
    ∷ codes "some 1000000000000000000 U1 U2"
    ∷ codes "node"
    ∷ codes "charge 0 -1"
    ∷ codes "some 1000000000000000000 U1 U2"
    ∷ codes "with 0 U4 U3"
    ∷ codes "end"
    ∷ []
    )

charges_are : IsTextOf charges_text (record { claim = halves_claim; tree = charges; tail = whole })
unfolding digits nodes_taken word_named
charges_are = (refl, refl)

-- a text with a head stands for this, and this has that text
abbrev IsHeadedTextOf : List ℕ → HeadedCertificate → Type 0
IsHeadedTextOf text c =
    (read_headed_text plant text ≡ Ok c)
    × (headed_text plant c.claim c.head c.tree c.tail ≡ text)

-- the trees above have no head
no_head : IsHeadedTextOf charges_text
    (record { claim = halves_claim; head = []; tree = charges; tail = whole })
unfolding digits front_taken nodes_taken word_named
no_head = (refl, refl)

-- the same tree as one node after a head: with trims alone, as `tree_rules` has it worked out,
-- and with each form of a line
abbrev trims : List HeadLine
trims = step (sole 5 3) ∷ trim 3 ∷ trim 0 ∷ trim 1 ∷ trim 2 ∷ []

abbrev charged_root : Tree
charged_root = charge_leaf []
    (record {
      d = pos 1;
      ys = pos 0 ∷ pos 0 ∷ pos 3000000 ∷ pos 3000000 ∷ [];
      covers = [];
    })
    ∷ []

abbrev one_node : List (List ℕ) → List ℕ
one_node head = body (
    codes "network U3 U4"
    ∷ codes "sizes 1 20000000 20000000"
    ∷ codes "cost 65000000000000000000"
    ∷ (head ++ codes "node" ∷ codes "charge 1 0 0 3000000 3000000" ∷ codes "end" ∷ [])
    )

abbrev headed : List HeadLine → HeadedCertificate
headed head = record { claim = halves_claim; head = head; tree = charged_root; tail = whole }

trims_are : IsHeadedTextOf
    (one_node (codes "sole P U4" ∷ codes "trim U4" ∷ codes "trim U1" ∷ codes "trim U2"
    ∷ codes "trim U3" ∷ []))
    (headed trims)
unfolding digits front_taken nodes_taken word_named
trims_are = (refl, refl)

lines_are : IsHeadedTextOf
    (one_node (codes "cap U2 1000000 1 0 -1"
    ∷ codes "some 1000000000000000000 U1 U2"
    ∷ codes "with 0 U4 U3"
    ∷ codes "cap U1 0 0"
    ∷ codes "out U1 1 0 2"
    ∷ codes "some 1000000000000000000 U1 U2"
    ∷ codes "loose U1"
    ∷ codes "out U5 -1"
    ∷ codes "trim U4"
    ∷ codes "use C 4000000 3 1 0 -1"
    ∷ codes "some 1000000000000000000 U1 U2"
    ∷ codes "with 0 U4 U3"
    ∷ codes "use A 0 0 -1"
    ∷ codes "starve E"
    ∷ []))
    (headed (cap 1 (pos 1000000) (pos 1) (pos 0 ∷ negsuc 0 ∷ []) (one_set ∷ set_beside ∷ [])
    ∷ cap 0 (pos 0) (pos 0) [] []
    ∷ out 0 (pos 1) (pos 0 ∷ pos 2 ∷ []) (one_set ∷ [])
    ∷ step (loose (0 ∷ []))
    ∷ out 4 (negsuc 0) [] []
    ∷ trim 3
    ∷ uses (record { of = 2; amount = pos 4000000; worth = pos 3 }) (pos 1)
    (pos 0 ∷ negsuc 0 ∷ []) (one_set ∷ set_beside ∷ [])
    ∷ uses (record { of = 0; amount = pos 0; worth = pos 0 }) (negsuc 0) [] []
    ∷ step (starve 3)
    ∷ []))
unfolding digits front_taken nodes_taken word_named
lines_are = (refl, refl)

-- each form of a step, an end and a claim
abbrev forms : Tree
forms =
    record {
      option = [];
      steps = raw 0 ∷ rival 1 ∷ starve 0 ∷ loose [] ∷ loose (0 ∷ 4 ∷ []) ∷ [];
      end = branch (at_material 5 7);
    }
    ∷ record { option = 0 ∷ []; steps = []; end = leaf (dead 1) }
    ∷ record { option = []; steps = []; end = leaf (clash 0) }
    ∷ record { option = []; steps = []; end = leaf (refuted []) }
    ∷ record { option = []; steps = []; end = leaf (bounded (negsuc 0) []) }
    ∷ record {
      option = [];
      steps = [];
      end =
          leaf (charged (record { d = negsuc 0; ys = []; covers = [] }));
    }
    ∷ record { option = []; steps = []; end = leaf (untried None) }
    ∷ record {
      option = [];
      steps = [];
      end =
          leaf (untried (Some (record { d = pos 2; ys = negsuc 0 ∷ pos 3 ∷ [] })));
    }
    ∷ []

abbrev forms_text : List (List ℕ) → List (List ℕ) → List ℕ
forms_text claim tail = body (claim ++
    codes "node"
    ∷ codes "raw U1"
    ∷ codes "rival U2"
    ∷ codes "starve A"
    ∷ codes "loose"
    ∷ codes "loose U1 U5"
    ∷ codes "branch P 7"
    ∷ codes "node U1"
    ∷ codes "dead B"
    ∷ codes "node"
    ∷ codes "clash X"
    ∷ codes "node"
    ∷ codes "refuted"
    ∷ codes "node"
    ∷ codes "bound -1"
    ∷ codes "node"
    ∷ codes "charge -1"
    ∷ codes "node"
    ∷ codes "open"
    ∷ codes "node"
    ∷ codes "open 2 -1 3"
    ∷ tail
    )

forms_are : IsTextOf (forms_text (codes "infeasible" ∷ []) (codes "end" ∷ []))
    (record { claim = infeasible; tree = forms; tail = whole })
unfolding digits nodes_taken word_named
forms_are = (refl, refl)

spent_is : IsTextOf
    (forms_text (codes "unknown" ∷ [])
    (codes "spent 4294967295 340282366920938463463374607431768211455" ∷ codes "end" ∷ []))
    (record {
      claim = unknown;
      tree = forms;
      tail =
          spent 4294967295 340282366920938463463374607431768211455;
    })
unfolding digits nodes_taken word_named
spent_is = (refl, refl)

empty_network : IsTextOf
    (forms_text
    (codes "network" ∷ codes "sizes 7" ∷ codes "cost -170141183460469231731687303715884105727" ∷ [])
    (codes "end" ∷ []))
    (record {
      claim =
          network
          (record {
            units = [];
            sizes = [];
            d = pos 7;
            cost =
                negsuc 170141183460469231731687303715884105726;
          });
      tree = forms;
      tail = whole;
    })
unfolding digits nodes_taken word_named
empty_network = (refl, refl)

-- a tail with this place
abbrev past_text : List ℕ → List ℕ
past_text place =
    body (codes "unknown" ∷ codes "node" ∷ codes "open" ∷ codes "past 0"
    ∷ codes "nonbasic x:U1 s:U2 t:A w:P right scale" ∷ place ∷ codes "end" ∷ [])

abbrev past_at : Place → Certificate
past_at place = record {
  claim = unknown;
  tree = record { option = []; steps = []; end = leaf (untried None) } ∷ [];
  tail =
      past 0 (columns.X 0 ∷ columns.S 1 ∷ columns.T 0 ∷ columns.W 5 ∷ columns.Right ∷ columns.Scale
      ∷ []) place;
}

-- each form of a place
abbrev places_of : List (List ℕ × Place)
places_of = (
  codes "place entry s:U1 x:U1 cost right left",
  places.Entry (columns.S 0) (columns.X 0) None columns.Right whiches.Left,
)
    ∷ (
      codes "place entry right scale t:B w:B right",
      places.Entry columns.Right columns.Scale (Some (columns.T 1)) (columns.W 1) whiches.Right,
    )
    ∷ (
      codes "place entry x:U3 x:U3 x:U3 scale difference",
      places.Entry (columns.X 2) (columns.X 2) (Some (columns.X 2)) columns.Scale
          whiches.Difference,
    )
    ∷ (codes "place flow U5 lcm", places.Flow 4 flows.Lcm)
    ∷ (codes "place flow U5 shift", places.Flow 4 flows.Shift)
    ∷ (codes "place flow U5 scaled", places.Flow 4 flows.Scaled)
    ∷ (codes "place flow U5 total", places.Flow 4 flows.Total)
    ∷ (codes "place cost 0", places.Cost 0)
    ∷ (codes "place flowsum 10", places.FlowSum 10)
    ∷ (codes "place bound 4294967295", places.Bound 4294967295)
    ∷ (codes "place refute w:F 3", places.Refute (columns.W 4) 3)
    ∷ []

places_read : map (λ row. read_text plant (past_text (row.0))) places_of
    ≡ map (λ row. Ok (past_at (row.1))) places_of
unfolding nodes_taken word_named
places_read = refl

abbrev text_for : Certificate → List ℕ
text_for c = tree_text plant c.claim c.tree c.tail

places_spelled : map (λ row. text_for (past_at (row.1))) places_of
    ≡ map (λ row. past_text (row.0)) places_of
unfolding digits
places_spelled = refl
