-- Runs that are known by what they come to.
use Rattle.std.specs.Prelude.{◌≡◌, ℕ, ◌+◌}
use Rattle.adj_tree.specs.Code.{Act, Code}
use Rattle.def_meaning.specs.Value.{Setting}
use Rattle.def_meaning.specs.Scene.{Scene, Done}
use Rattle.def_meaning.specs.Run.{Calls, act, run}

-- the list comes from one scene to another; it costs so many statements, and leaves all others
pub record Leads {C : Type 0} (q : Calls C) (n : Setting C) (c : Code) (s s' : Scene C) : Type 0 where
  pub cost : ℕ
  pub by : (k : ℕ) → run q n c s (cost + k) ≡ Done s' k

-- the same of one statement that was counted
pub record ActLeads {C : Type 0} (q : Calls C) (n : Setting C) (a : Act) (line : ℕ) (s s' : Scene C) : Type 0 where
  pub cost : ℕ
  pub by : (k : ℕ) → act q n a line s (cost + k) ≡ Done s' k
