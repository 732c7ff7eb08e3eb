-- Views: what clauses see of lists of names.
use Rattle.std.specs.Prelude.{ℕ, ℤ, pos, List, map, flat_map, Bool, Option, Some, None}
use Rattle.adj_tree.specs.Code as code
use Rattle.adj_tree.specs.View.{terms_of}
use Rattle.def_names.specs.Statements.{At}
use Rattle.def_names.specs.Standing.{Standing, count_of}
use Rattle.def_names.specs.NameFaults.{taken_in}
use Rattle.def_names.specs.Variables.{Name}
use Rattle.adj_symbols.specs.declared.places.Placed.{Placed}
use Rattle.adj_symbols.specs.declared.standing.Stands.{Stands}
use Rattle.adj_symbols.specs.declared.standing.Stands.TheVariants.{Scalar, Element, Whole}
use Rattle.adj_symbols.specs.declared.standing.Use.{Use}

-- how a name stands
abbrev pub stands_of : Stands → Option ℕ
stands_of Scalar = Some 0
stands_of (Element subs) = Some (count_of (terms_of subs.now))
stands_of Whole = None

-- the names with their lines
abbrev pub use_of : Use → At Standing
use_of u = (u.line, record { name = u.name.now; subscripts = stands_of u.stands })

abbrev pub uses_of : List Use → List (At Standing)
uses_of us = map use_of us

-- names at a line
abbrev pub at_line : ℕ → List Standing → List (At Standing)
at_line line ns = map (λ n. (line, n)) ns

-- the names that stand in statements, in order
abbrev pub taken_at : Bool → List (At code.Act) → List (At Standing)
taken_at takes_runtime ss = flat_map (λ s. at_line s.0 (taken_in takes_runtime s.1)) ss

-- names with their lines
abbrev pub place_of : Placed → At Name
place_of p = (p.line, p.name.now)

abbrev pub places_of : List Placed → List (At Name)
places_of ps = map place_of ps

-- the names at some places
abbrev pub names_at : List (At Name) → List Name
names_at ps = map (λ p. p.1) ps

-- where a name stands that is used
abbrev pub used_place : At Standing → At Name
used_place u = (u.0, u.1.name)

-- a literal extent, and 1 for a name
abbrev pub literal_of : code.Extent → ℤ
literal_of (code.fixed z) = z
literal_of (code.given x) = pos 1
