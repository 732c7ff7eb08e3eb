-- What bounds the lines and names of a text.
use Rattle.std.specs.Prelude.{ℕ, Option, Some, None}
use Rattle.def_text.specs.declared.mode.Mode.{Mode}
use Rattle.def_text.specs.declared.mode.Mode.TheVariants.{Source, Run}

-- continuation lines of a statement, and characters of a name; none where there is no limit
pub record Limits : Type 0 where
  pub continuations : Option ℕ
  pub name : Option ℕ

-- a text as such has no limits
abbrev pub no_limits : Limits
no_limits = record { continuations = None; name = None }

abbrev pub limits_of : Mode → Limits
limits_of Source = record { continuations = Some 19; name = Some 31 }
limits_of Run = record { continuations = None; name = Some 63 }
