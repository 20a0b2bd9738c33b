-- The numbers that are formed for a unit, by the names that `flow_rules` has for them.
use Rattle.flow_program.specs.flow_rules.declared.place.FlowStep.{FlowStep}
use Rattle.flow_program.specs.flow_rules.declared.place.FlowStep.TheVariants.{Lcm, Shift, Scaled}
use Rattle.flow_program.specs.flow_rules.declared.place.FlowStep.TheVariants.{Total}
use Rattle.flow_program.specs.flow_rules.ReadFlows as rules

abbrev pub step_of : FlowStep → rules.FlowStep
step_of Lcm = rules.Lcm
step_of Shift = rules.Shift
step_of Scaled = rules.Scaled
step_of Total = rules.Total
