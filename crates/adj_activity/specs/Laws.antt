-- What the numbers reach is what activity is to be, and what carries a tangent.
use Rattle.std.specs.Prelude.{List, ℕ, map, ◌↔◌, Bool, IsTrue}
use Rattle.adj_tree.specs.Code.{Procedure}
use Rattle.def_text.specs.Written.{IsWritten}
use Rattle.def_names.specs.Variables.{variables}
use Rattle.def_names.specs.Numbers.{everything}
use Rattle.def_flow.specs.Problem.{Problem}
use Rattle.def_flow.specs.Activity.{IsActivity}
use Rattle.def_flow.specs.Rules.{Scope, Covers}
use Rattle.def_flow.specs.Carried.{IsCarrying}
use Rattle.adj_reach.specs.Edges.{ReachedFrom, ReachedBack, flag}
use Rattle.adj_flow.specs.Nodes.{IsWide}
use Rattle.adj_activity.specs.Edges.{flow_edges, entry_nodes, end_nodes, shadow_edges, shadow_nodes, adjoint_edges, adjoint_nodes}
use Rattle.adj_flow.specs.Told.{told, told_of}
use Rattle.adj_activity.specs.Searched.{activity_searched}
use Rattle.adj_flow.specs.Scoped.{HoldVariables}

-- the flags are those of what the edges of each rule reach from where it begins
pub record AreFlags (k : Problem) (o : Scope) (w : ℕ) (varied useful shadowed adjointed : List Bool) : Type 0 where
  pub varied_by : (m : ℕ) → IsTrue (flag varied m) ↔ ReachedFrom (flow_edges k o w) (entry_nodes k o w) m
  pub useful_by : (m : ℕ) → IsTrue (flag useful m) ↔ ReachedBack (flow_edges k o w) (end_nodes k o w) m
  pub shadowed_by : (m : ℕ) → IsTrue (flag shadowed m) ↔ ReachedFrom (shadow_edges k o w (told varied o w)) (shadow_nodes k o w (told varied o w) (told useful o w)) m
  pub adjointed_by : (m : ℕ) → IsTrue (flag adjointed m) ↔ ReachedFrom (adjoint_edges k o) (adjoint_nodes (activity_searched varied useful shadowed adjointed o w) o) m

-- then what they tell is the activity
abbrev pub ActivityIsTold : Type 0
ActivityIsTold = (k : Problem) (o : Scope) (w : ℕ) (varied useful shadowed adjointed : List Bool) → Covers k o → IsWide k o w → AreFlags k o w varied useful shadowed adjointed →
    IsActivity k (activity_searched varied useful shadowed adjointed o w)

-- the flags are those of what is varied, and of what has a shadow where everything is useful
pub record AreCarriedFlags (k : Problem) (o : Scope) (w : ℕ) (varied carried : List Bool) : Type 0 where
  pub varied_by : (m : ℕ) → IsTrue (flag varied m) ↔ ReachedFrom (flow_edges k o w) (entry_nodes k o w) m
  pub carried_by : (m : ℕ) → IsTrue (flag carried m) ↔ ReachedFrom (shadow_edges k o w (told varied o w)) (shadow_nodes k o w (told varied o w) (λ p. everything)) m

-- then what they tell is what carries a tangent
abbrev pub CarriedIsTold : Type 0
CarriedIsTold = (k : Problem) (o : Scope) (w : ℕ) (varied carried : List Bool) → Covers k o → IsWide k o w → AreCarriedFlags k o w varied carried → IsCarrying k (told varied o w) (told_of carried o w)

-- the variables of each unit of a written program hold its dummies and what stands in its statements
abbrev pub VariablesHold : Type 0
VariablesHold = (ps : List Procedure) → IsWritten ps → HoldVariables (map variables ps) ps
