-- What is known of units in their order.
use Rattle.std.specs.Prelude.{ℕ, suc, ◌==◌, List, [], ◌∷◌, Bool, true, false, if◌then◌else◌}
use Rattle.adj_tree.specs.Code.{Procedure}
use Rattle.def_sweep.specs.MarkedAdjoint.{shadow_flags}
use Rattle.def_names.specs.Numbers.{Vars}
use Rattle.adj_reach.specs.Edges.{Edges, flag}
use Rattle.adj_tangent.specs.declared.plan.Callee.{Callee}

-- a name, and which dummies carry a tangent
abbrev pub said : Callee → List ℕ × List Bool
said k = (k.tangent, k.carried)

-- that of units of which the first is the k-th, by the names of their tangents
abbrev pub said_of : (ℕ → Vars) → ℕ → List Procedure → List (List ℕ) → List (List ℕ × List Bool)
said_of on k [] xs = []
said_of on k (u ∷ us) [] = []
said_of on k (u ∷ us) (x ∷ xs) = (x, shadow_flags (on k) u.dummies) ∷ said_of on (suc k) us xs

-- whether two flags are the same
abbrev pub same_flag : Bool → Bool → Bool
same_flag true b = b
same_flag false true = false
same_flag false false = true

-- the edges to nodes with this flag
abbrev pub leading : List Bool → Bool → Edges → Edges
leading flags b [] = []
leading flags b (e ∷ es) = if same_flag (flag flags e.1) b then e ∷ leading flags b es else leading flags b es
