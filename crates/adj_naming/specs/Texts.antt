-- The two texts that are made from a source, as the emission speaks of them.
use Rattle.def_sweep.specs.Naming as naming
use Rattle.def_sweep.specs.Naming.{adjoint_text, tangent_text}
use Rattle.adj_naming.specs.declared.derived.Derived.{Derived}
use Rattle.adj_naming.specs.declared.derived.Derived.TheVariants.{Adjoint, Tangent}

-- which of them
abbrev pub derived_of : Derived → naming.Derived
derived_of Adjoint = adjoint_text
derived_of Tangent = tangent_text
