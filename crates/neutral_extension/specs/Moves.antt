-- What one turn of an extension answers, and what the whole of it does (neutral extension of
-- Friedler, Tarjan, Huang and Fan 1996).
use Rattle.std.specs.Prelude.{ℕ, List, ◌↔◌, Bool}
use Rattle.pgraph.specs.number_sets.Sets.{IsSet}
use Rattle.pgraph.specs.problem_rules.Each.{Each}
use Rattle.pgraph.specs.pns_rules.Shape.{Shape}
use Rattle.pgraph.specs.pns_rules.Structure.{InFamily}
use Rattle.pgraph.specs.pns_rules.Nodes as rules
use Rattle.pgraph.specs.pns_rules.Ends.{IsSound, IsNextStep, Leads, EndsAt}
use Rattle.pgraph.specs.pns_rules.Ends as ends
use Rattle.pgraph.specs.View.{step_of}
use Rattle.neutral_extension.specs.declared.end.Stop.{Stop}
use Rattle.neutral_extension.specs.declared.end.Stop.TheVariants.{Decided, Dead, Clash, Branch}
use Rattle.neutral_extension.specs.declared.turn.Move.{Move}
use Rattle.neutral_extension.specs.declared.turn.Move.TheVariants.{Take, End}

abbrev pub stop_of : Stop → ends.Stop
stop_of Decided = ends.decided
stop_of (Dead x) = ends.dead x
stop_of (Clash k) = ends.clash k
stop_of (Branch x) = ends.branch x

-- the step that is next, or the end that is reached
abbrev pub IsMove : Shape → rules.Node → Move → Type 0
IsMove g d (Take s) = IsNextStep g d (step_of s)
IsMove g d (End e) = EndsAt g d (stop_of e)

-- the units of a step are a set of the graph's
abbrev pub HasSet : Shape → rules.Step → Type 0
HasSet g (rules.raw u) = Unit {0}
HasSet g (rules.rival u) = Unit {0}
HasSet g (rules.starve x) = Unit {0}
HasSet g (rules.loose us) = IsSet g.units us
HasSet g (rules.sole x u) = Unit {0}

abbrev pub IsListedMove : Shape → Move → Type 0
IsListedMove g (Take s) = HasSet g (step_of s)
IsListedMove g (End e) = Unit {0}

-- The steps lead from d to e, each being the next step at its node. The node e is sound, has the
-- same family, and is one at which the extension ends so.
pub record Extends (g : Shape) (d : rules.Node) (steps : List rules.Step) (e : rules.Node)
    (stop : ends.Stop) : Type 0 where
  pub leads : Leads g d steps e
  pub sound : IsSound g e
  pub same_family : (o : ℕ → Bool) → InFamily g d.inside d.outside o
      ↔ InFamily g e.inside e.outside o
  pub ends : EndsAt g e stop
  pub sets : Each (HasSet g) steps
