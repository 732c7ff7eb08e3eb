-- Ready: what is known before the runs of `check`, and what the clauses of the code see.
use Rattle.std.specs.Prelude.{◌≡◌, List, map, Bool, true, length}
use Rattle.adj_tree.specs.Code.{Procedure}
use Rattle.def_meaning.specs.Numbers.{words}
use Rattle.def_meaning.specs.Units.{fits}
use Rattle.def_sweep.specs.Tangents.{AreAlike, IsDirection, cells_of}
use Rattle.adj_data.specs.Given.{slot_seen}
use Rattle.adj_tree.specs.View.{procedures_of}
use Rattle.adj_tree.specs.declared.marks.Head.{Head}
use Rattle.adj_tool_check.specs.Checking.{Sides, Given}
use Rattle.adj_tool_check.specs.Emitted.{read_back}
use Rattle.adj_tool_check.specs.declared.emitted.Emitted.{Emitted}
use Rattle.adj_tool_check.specs.declared.checking.Data.{Data}

abbrev pub given_in : Data → Given
given_in d = record { inputs = map slot_seen d.inputs; tangents = map slot_seen d.tangents; adjoints = map slot_seen d.adjoints }

-- the head u of a program, and its adjoint a in what is run as the emitted program
abbrev pub sides_of : List Procedure → Procedure → Head → Emitted → Procedure → Sides
sides_of ps u h e a = record { source = ps; head = u; vars = h.vars; outvars = h.outvars; emitted = read_back (procedures_of e.program); adjoint = a; shadowed = e.shadowed }

-- the data suit the head: the inputs fit it, each adjoint has the shape of its input, and the tangents are a direction over the independents
pub record SuitsHead (p : Sides) (d : Given) : Type 0 where
  pub fits : fits words p.head d.inputs ≡ true
  pub adjoints : AreAlike d.inputs d.adjoints
  pub tangents : AreAlike d.inputs d.tangents
  pub along : IsDirection p.vars d.inputs (cells_of d.tangents)
