-- Leaves that are judged with the problem's own numbers are judged as in a tree without a head.
use Rattle.std.proofs.Common.{◌≡◌, Bool, List, [], ◌∷◌, Option, Result, Ok, Err, OnOk, IfErr, subst}
use Rattle.tree_text_rules.specs.problem_rules.Problem.{Problem}
use Rattle.tree_text_rules.specs.pns_rules.Shape.{shape_of}
use Rattle.tree_text_rules.specs.pns_rules.Nodes.{Node}
use Rattle.tree_text_rules.specs.flow_rules.Net.{net_of}
use Rattle.tree_text_rules.specs.flow_rules.ChargeFacts.{Facts, own_facts}
use Rattle.tree_text_rules.specs.tree_rules.declared.why.Why.{Why}
use Rattle.tree_text_rules.specs.tree_rules.declared.refusal.Refusal.{Refusal}
use Rattle.tree_text_rules.specs.tree_rules.declared.refusal.Refusal.TheVariants.{Memory, Claim}
use Rattle.tree_text_rules.specs.tree_rules.declared.refusal.Refusal.TheVariants as refusals
use Rattle.tree_text_rules.specs.tree_rules.Tree.{Pass}
use Rattle.tree_text_rules.specs.tree_rules.Claim.{CostOver}
use Rattle.tree_text_rules.specs.tree_rules.Leaf.{Leaf, LeafPasses, LeafFails}
use Rattle.tree_text_rules.specs.tree_rules.Accepted.{Tree}
use Rattle.tree_laws.proofs.Cited.{passes_too, by_passes, by_fails, fault_too}
use Rattle.tree_text_rules.specs.tree_rules.Headed.{LeafPassesBy, LeafFailsBy}
use Rattle.cert_check.specs.Refusals.{NamesFault}
use Rattle.cert_check.specs.declared.walk.Stop.{Stop}

module _ (p : Problem) (f : Facts) (own : f ≡ own_facts (net_of p)) (partial : Bool)
    (claimed : Option CostOver) (judged : Leaf → Leaf) where
  abbrev By : Node → Leaf → Type 0
  By n l = LeafPassesBy f partial p claimed n (judged l)

  abbrev As : Node → Leaf → Type 0
  As n l = LeafPasses partial p claimed n (judged l)

  abbrev FailsBy : Node → Leaf → Why → Type 0
  FailsBy n l why = LeafFailsBy f partial p claimed n (judged l) why

  abbrev FailsAs : Node → Leaf → Why → Type 0
  FailsAs n l why = LeafFails partial p claimed n (judged l) why

  one_passes : (n : Node) (l : Leaf) → By n l → As n l
  one_passes n l h =
      by_passes partial p claimed n (judged l)
      (subst (λ (e : Facts). LeafPassesBy e partial p claimed n (judged l)) own h)

  one_fails : (n : Node) (l : Leaf) (why : Why) → FailsBy n l why → FailsAs n l why
  one_fails n l why h =
      by_fails partial p claimed n (judged l) why
      (subst (λ (e : Facts). LeafFailsBy e partial p claimed n (judged l) why) own h)

  module _ (ns : List Node) (ts : Tree) where
    passes : Pass (shape_of p) By ns ts → Pass (shape_of p) As ns ts
    passes h = passes_too (shape_of p) By As ns ts (λ k n l w q. one_passes n l q) h

    names : (refusal : Refusal) → NamesFault (shape_of p) By FailsBy ns ts refusal
        → NamesFault (shape_of p) As FailsAs ns ts refusal
    names Memory h = tt
    names (Claim why) h = h
    names (refusals.Node k why) h =
        fault_too (shape_of p) By As FailsBy FailsAs one_passes one_fails ns ts k why h

    pub own_passes : {A E : Type 0} (r : Result A E) → OnOk r (Pass (shape_of p) By ns ts)
        → OnOk r (Pass (shape_of p) As ns ts)
    own_passes (Ok a) h = passes h
    own_passes (Err e) h = tt

    pub own_fails : {A : Type 0} (r : Result A Refusal)
        → IfErr r (NamesFault (shape_of p) By FailsBy ns ts)
        → IfErr r (NamesFault (shape_of p) As FailsAs ns ts)
    own_fails (Ok a) h = tt
    own_fails (Err refusal) h = names refusal h

    pub own_stops : {A : Type 0} (r : Result A Stop)
        → IfErr r (λ stop. NamesFault (shape_of p) By FailsBy ns ts stop.refusal)
        → IfErr r (λ stop. NamesFault (shape_of p) As FailsAs ns ts stop.refusal)
    own_stops (Ok a) h = tt
    own_stops (Err stop) h = names stop.refusal h
