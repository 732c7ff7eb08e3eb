-- What is said of the statements of a program.
use Rattle.adj_tree.specs.declared.marks.Head.{Head}
use Rattle.adj_tree.specs.declared.marks.Marks as flags
use Rattle.adj_reach.specs.Edges.{flag}
use Rattle.adj_flow.specs.Asked.{IsFlow, problem_of}
use Rattle.adj_flow.specs.declared.units.Flow.{Flow}
use Rattle.adj_plan.specs.Asked.{IsPlan}
use Rattle.adj_plan.specs.Lines.{TellsPlan}
use Rattle.adj_plan.specs.View.{said_in}

-- by the marks of a plan, it is what exact analyses say
abbrev pub PlansAreTold : Type 0
PlansAreTold = (f : Flow) (h : Head) → IsFlow f h.unit → (t : flags.Marks) → IsPlan f (problem_of f h) t → TellsPlan (problem_of f h) (said_in f t) (flag f.taking)
