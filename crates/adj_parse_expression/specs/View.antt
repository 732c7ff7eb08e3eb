-- View: what clauses see of what was found.
use Rattle.std.specs.Prelude.{Result, Ok, Err}
use Rattle.adj_parse_expression.specs.declared.flaw.Flaw.{Flaw}

-- a tree through its view, or the flaw
abbrev pub seen : {A B : Type 0} → (A → B) → Result A Flaw → Result B Flaw
seen view (Ok x) = Ok (view x)
seen view (Err f) = Err f
