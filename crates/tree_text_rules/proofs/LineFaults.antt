-- Each kind of fault next to its neighbours in the order: lines that have several faults give the
-- least number.
use Rattle.std.proofs.Common.{List, [], ◌∷◌, codes, refl, ℕ}
use Rattle.tree_text_rules.specs.Line.{word_named}
use Rattle.tree_text_rules.specs.Read.{front_taken, nodes_taken}
use Rattle.tree_text_rules.specs.declared.TreeKind.{TreeKind}
use Rattle.tree_text_rules.specs.declared.TreeKind.TheVariants.{BadLine, UnknownName, BadNumber}
use Rattle.tree_text_rules.specs.declared.TreeKind.TheVariants.{Order, WrongCount, MoreNodes}
use Rattle.tree_text_rules.specs.declared.TreeKind.TheVariants.{FewerNodes}
use Rattle.tree_text_rules.proofs.Plant.{Told, ToldHeaded}

-- at the place of a step or an end
parts : List (List ℕ × TreeKind)
parts =
    (codes "x", BadLine) ∷
    (codes "", BadLine) ∷
    (codes "open ", BadLine) ∷
    (codes " open", BadLine) ∷
    (codes "open now", BadNumber) ∷
    (codes "open 1 2.5", BadNumber) ∷
    (codes "Open", BadLine) ∷
    (codes "node", BadLine) ∷
    (codes "end", BadLine) ∷
    (codes "spent 0 1", BadLine) ∷
    (codes "dead", BadLine) ∷
    (codes "dead  A", BadLine) ∷
    (codes "dead A B", BadLine) ∷
    (codes "dead Q", UnknownName) ∷
    (codes "dead U1", UnknownName) ∷
    (codes "clash A", UnknownName) ∷
    (codes "raw A", UnknownName) ∷
    (codes "rival U9", UnknownName) ∷
    (codes "starve U1", UnknownName) ∷
    (codes "loose U2 U1 Q", UnknownName) ∷
    (codes "loose U2 U1", Order) ∷
    (codes "loose U1 U1", Order) ∷
    (codes "loose U1  U1", BadLine) ∷
    (codes "sole P", BadLine) ∷
    (codes "sole P Q", UnknownName) ∷
    (codes "sole Q U1", UnknownName) ∷
    (codes "branch C", BadLine) ∷
    (codes "branch C 0", BadNumber) ∷
    (codes "branch C 01", BadNumber) ∷
    (codes "branch C -1", BadNumber) ∷
    (codes "branch C 4294967296", BadNumber) ∷
    (codes "branch Q 0", UnknownName) ∷
    (codes "either", BadLine) ∷
    (codes "either U3 2", BadLine) ∷
    (codes "either  U3", BadLine) ∷
    (codes "Either U3", BadLine) ∷
    (codes "either U9", UnknownName) ∷
    (codes "either C", UnknownName) ∷
    (codes "bound", BadLine) ∷
    (codes "bound A", BadNumber) ∷
    (codes "bound 1 -0", BadNumber) ∷
    (codes "bound 1 +1", BadNumber) ∷
    (codes "bound 1 170141183460469231731687303715884105728", BadNumber) ∷
    (codes "bound 1 -170141183460469231731687303715884105728", BadNumber) ∷
    (codes "charge", BadLine) ∷
    (codes "charge A", BadNumber) ∷
    (codes "charge 1 -0", BadNumber) ∷
    (codes "some 1 U1", BadLine) ∷
    (codes "with 1 U1 U2", BadLine) ∷
    (codes "cap U1 1 0", BadLine) ∷
    (codes "out U1 0", BadLine) ∷
    (codes "trim U1", BadLine) ∷
    (codes "use A 1 0 1", BadLine) ∷
    (codes "refuted 1.5", BadNumber) ∷
    (codes "refuted -", BadNumber) ∷
    []

parts_told : Told (codes "unknown" ∷ codes "node" ∷ []) (codes "end" ∷ []) 4 parts
unfolding parts word_named nodes_taken
parts_told = refl

-- after a charge at the last node a set or the tail may come
sets : List (List ℕ × TreeKind)
sets =
    (codes "some", BadLine) ∷
    (codes "some x", BadLine) ∷
    (codes "some 1  U1", BadLine) ∷
    (codes "some 1 Q", UnknownName) ∷
    (codes "some -1 Q", UnknownName) ∷
    (codes "some 1 A", UnknownName) ∷
    (codes "some -1 U1", BadNumber) ∷
    (codes "some 01 U1", BadNumber) ∷
    (codes "some -1 U2 U1", BadNumber) ∷
    (codes "some 1 U2 U1", Order) ∷
    (codes "some 1 U1 U1", Order) ∷
    (codes "with 1 U1", BadLine) ∷
    (codes "with 1 Q U1", UnknownName) ∷
    (codes "with 1 U1 Q", UnknownName) ∷
    (codes "with x U1 U2", BadNumber) ∷
    (codes "with 1 U1 U3 U2", Order) ∷
    (codes "node", MoreNodes) ∷
    (codes "open", BadLine) ∷
    (codes "spent 01 1", BadNumber) ∷
    []

sets_told : Told (codes "unknown" ∷ codes "node" ∷ codes "charge 1 0" ∷ codes "some 0 U1" ∷ [])
    (codes "end" ∷ []) 6 sets
unfolding sets word_named nodes_taken
sets_told = refl

-- and if a node is still to come
before_nodes : List (List ℕ × TreeKind)
before_nodes =
    (codes "some 1 Q", UnknownName) ∷
    (codes "end", FewerNodes) ∷
    (codes "open", BadLine) ∷
    (codes "node Q", UnknownName) ∷
    []

before_nodes_told : Told
    (codes "unknown" ∷ codes "node" ∷ codes "either U3" ∷ codes "node U3" ∷ codes "charge 1" ∷ [])
    (codes "open" ∷ codes "end" ∷ []) 7 before_nodes
unfolding before_nodes word_named nodes_taken
before_nodes_told = refl

-- where a child's line must come
children : List (List ℕ × TreeKind)
children =
    (codes "end", FewerNodes) ∷
    (codes "end now", FewerNodes) ∷
    (codes "spent", FewerNodes) ∷
    (codes "past  1", FewerNodes) ∷
    (codes "nonbasic", BadLine) ∷
    (codes "open", BadLine) ∷
    (codes "node ", BadLine) ∷
    (codes "node Q U1", UnknownName) ∷
    (codes "node U2 U1", Order) ∷
    []

children_told : Told (codes "unknown" ∷ codes "node" ∷ codes "branch A 1" ∷ [])
    (codes "open" ∷ codes "end" ∷ []) 5 children
unfolding children word_named nodes_taken
children_told = refl

-- at the place of the line of the second child
seconds : List (List ℕ × TreeKind)
seconds =
    (codes "end", FewerNodes) ∷
    (codes "spent 0 2", FewerNodes) ∷
    (codes "past 0", FewerNodes) ∷
    (codes "open", BadLine) ∷
    (codes "node U9", UnknownName) ∷
    []

seconds_told : Told
    (codes "unknown" ∷ codes "node" ∷ codes "either U3" ∷ codes "node U3" ∷ codes "open" ∷ [])
    (codes "open" ∷ codes "end" ∷ []) 7 seconds
unfolding seconds word_named nodes_taken
seconds_told = refl

-- after the second child
thirds : List (List ℕ × TreeKind)
thirds =
    (codes "node", MoreNodes) ∷
    (codes "node U9", MoreNodes) ∷
    (codes "either U1", BadLine) ∷
    []

thirds_told : Told
    (codes "unknown" ∷ codes "node" ∷ codes "either U3" ∷ codes "node U3" ∷ codes "open"
    ∷ codes "node" ∷ codes "open" ∷ []) (codes "open" ∷ codes "end" ∷ []) 9 thirds
unfolding thirds word_named nodes_taken
thirds_told = refl

-- at the place of the root's line
roots : List (List ℕ × TreeKind)
roots = (codes "node U1", BadLine) ∷ (codes "node Q", BadLine) ∷ (codes "end", FewerNodes)
    ∷ (codes "open", BadLine) ∷ (codes "trim U1", BadLine) ∷ (codes "raw U1", BadLine) ∷ []

roots_told : Told (codes "unknown" ∷ []) (codes "open" ∷ codes "end" ∷ []) 3 roots
unfolding roots word_named nodes_taken
roots_told = refl

-- before the root's line in a text with a head: a line of the head, or the root's line
fronts : List (List ℕ × TreeKind)
fronts =
    (codes "cap", BadLine) ∷
    (codes "cap U1 5", BadLine) ∷
    (codes "cap Q 1", BadLine) ∷
    (codes "cap  U1 1 1", BadLine) ∷
    (codes "cap Q -1 1", UnknownName) ∷
    (codes "cap A 1 1", UnknownName) ∷
    (codes "cap U1 -1 1", BadNumber) ∷
    (codes "cap U1 01 1", BadNumber) ∷
    (codes "cap U1 1 x", BadNumber) ∷
    (codes "cap U1 1 1 -0", BadNumber) ∷
    (codes "out", BadLine) ∷
    (codes "out U1", BadLine) ∷
    (codes "out Q 1", UnknownName) ∷
    (codes "out U1 x", BadNumber) ∷
    (codes "trim", BadLine) ∷
    (codes "trim U1 U2", BadLine) ∷
    (codes "trim Q", UnknownName) ∷
    (codes "use", BadLine) ∷
    (codes "use A", BadLine) ∷
    (codes "use A 1", BadLine) ∷
    (codes "use A 1 0", BadLine) ∷
    (codes "use Q 1 0", BadLine) ∷
    (codes "use  A 1 0 1", BadLine) ∷
    (codes "use Q -1 -1 x", UnknownName) ∷
    (codes "use U1 1 0 1", UnknownName) ∷
    (codes "use A -1 0 1", BadNumber) ∷
    (codes "use A 01 0 1", BadNumber) ∷
    (codes "use A 1 -1 1", BadNumber) ∷
    (codes "use A 1 0.5 1", BadNumber) ∷
    (codes "use A 1 0 x", BadNumber) ∷
    (codes "use A 1 0 1 -0", BadNumber) ∷
    (codes "raw Q", UnknownName) ∷
    (codes "loose U2 U1", Order) ∷
    (codes "some 1 U1", BadLine) ∷
    (codes "with 1 U1 U2", BadLine) ∷
    (codes "node U1", BadLine) ∷
    (codes "open", BadLine) ∷
    (codes "spent 0 1", FewerNodes) ∷
    []

fronts_told : ToldHeaded (codes "unknown" ∷ []) (codes "node" ∷ codes "open" ∷ codes "end" ∷ []) 3
    fronts
unfolding fronts word_named front_taken nodes_taken
fronts_told = refl

-- after a cap a set may come too
front_sets : List (List ℕ × TreeKind)
front_sets =
    (codes "some", BadLine) ∷
    (codes "some 1 Q", UnknownName) ∷
    (codes "some -1 U1", BadNumber) ∷
    (codes "some 1 U2 U1", Order) ∷
    (codes "with 1 U1", BadLine) ∷
    (codes "cap Q 1 1", UnknownName) ∷
    (codes "rival Q", UnknownName) ∷
    (codes "open", BadLine) ∷
    (codes "node U1", BadLine) ∷
    (codes "end", FewerNodes) ∷
    []

front_sets_told : ToldHeaded (codes "unknown" ∷ codes "cap U1 1 0" ∷ codes "some 1 U1" ∷ [])
    (codes "node" ∷ codes "open" ∷ codes "end" ∷ []) 5 front_sets
unfolding front_sets word_named front_taken nodes_taken
front_sets_told = refl

-- and after a use
use_sets : List (List ℕ × TreeKind)
use_sets =
    (codes "some", BadLine) ∷
    (codes "some -1 U1", BadNumber) ∷
    (codes "with 1 U1 Q", UnknownName) ∷
    (codes "use Q 1 0 1", UnknownName) ∷
    (codes "node U1", BadLine) ∷
    (codes "end", FewerNodes) ∷
    []

use_sets_told : ToldHeaded (codes "unknown" ∷ codes "use A 1 0 1" ∷ codes "with 1 U1 U2" ∷ [])
    (codes "node" ∷ codes "open" ∷ codes "end" ∷ []) 5 use_sets
unfolding use_sets word_named front_taken nodes_taken
use_sets_told = refl

-- but not after a trim
no_sets : List (List ℕ × TreeKind)
no_sets =
    (codes "some 1 U1", BadLine) ∷
    (codes "with 1 U1 U2", BadLine) ∷
    []

no_sets_told : ToldHeaded (codes "unknown" ∷ codes "trim U1" ∷ [])
    (codes "node" ∷ codes "open" ∷ codes "end" ∷ []) 4 no_sets
unfolding no_sets word_named front_taken nodes_taken
no_sets_told = refl

-- at the place of the sizes
sizes : List (List ℕ × TreeKind)
sizes =
    (codes "cost 1", BadLine) ∷
    (codes "sizes", BadLine) ∷
    (codes "sizes 1", WrongCount) ∷
    (codes "sizes 1 2 3", WrongCount) ∷
    (codes "sizes 0 1 2", BadNumber) ∷
    (codes "sizes -1 1", BadNumber) ∷
    (codes "sizes 1 x", BadNumber) ∷
    []

sizes_told : Told (codes "network U1" ∷ [])
    (codes "cost 1" ∷ codes "node" ∷ codes "open" ∷ codes "end" ∷ []) 3 sizes
unfolding sizes word_named nodes_taken
sizes_told = refl

-- at the place of the tail
tails : List (List ℕ × TreeKind)
tails =
    (codes "node", MoreNodes) ∷
    (codes "node  Q", MoreNodes) ∷
    (codes "open", BadLine) ∷
    (codes "end now", BadLine) ∷
    (codes "spent 1", BadLine) ∷
    (codes "spent 01 1", BadNumber) ∷
    (codes "spent 4294967296 1", BadNumber) ∷
    (codes "spent 1 340282366920938463463374607431768211456", BadNumber) ∷
    (codes "past A", BadNumber) ∷
    []

tails_told : Told (codes "unknown" ∷ codes "node" ∷ codes "open" ∷ []) (codes "end" ∷ []) 5 tails
unfolding tails word_named nodes_taken
tails_told = refl

-- at the place of the nonbasic columns
columns : List (List ℕ × TreeKind)
columns =
    (codes "node", MoreNodes) ∷
    (codes "place cost 1", BadLine) ∷
    (codes "nonbasic U1", BadLine) ∷
    (codes "nonbasic x:Q y:U1", BadLine) ∷
    (codes "nonbasic x:", UnknownName) ∷
    (codes "nonbasic x:A", UnknownName) ∷
    (codes "nonbasic t:U1", UnknownName) ∷
    []

columns_told : Told (codes "unknown" ∷ codes "node" ∷ codes "open" ∷ codes "past 0" ∷ [])
    (codes "place cost 1" ∷ codes "end" ∷ []) 6 columns
unfolding columns word_named nodes_taken
columns_told = refl

-- at the line of the place
places : List (List ℕ × TreeKind)
places =
    (codes "node", MoreNodes) ∷
    (codes "end", BadLine) ∷
    (codes "place", BadLine) ∷
    (codes "place here 1", BadLine) ∷
    (codes "place cost", BadLine) ∷
    (codes "place cost 00", BadNumber) ∷
    (codes "place flow U1 left", BadLine) ∷
    (codes "place flow Q lcm", UnknownName) ∷
    (codes "place flow Q left", BadLine) ∷
    (codes "place refute x:Q x", UnknownName) ∷
    (codes "place refute cost 1", BadLine) ∷
    (codes "place entry x:Q x:U1 cost right lcm", BadLine) ∷
    (codes "place entry x:Q x:U1 cost right left", UnknownName) ∷
    (codes "place entry x:U1 x:U1 cost cost left", BadLine) ∷
    []

places_told : Told
    (codes "unknown" ∷ codes "node" ∷ codes "open" ∷ codes "past 0" ∷ codes "nonbasic" ∷ [])
    (codes "end" ∷ []) 7 places
unfolding places word_named nodes_taken
places_told = refl
