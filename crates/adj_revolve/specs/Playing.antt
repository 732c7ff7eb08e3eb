-- What a machine of the code stands for.
use Rattle.adj_revolve.specs.Machine.{State}
use Rattle.adj_revolve.specs.declared.machine.Machine.{Machine}

-- its state
abbrev pub state_of : Machine → State
state_of m = record { working = m.working; stored = m.stored.items; left = m.left }
