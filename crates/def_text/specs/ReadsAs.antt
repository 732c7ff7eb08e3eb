-- ReadsAs: a text reads as a program, up to line numbers.
use Rattle.std.specs.Prelude.{◌≡◌, ℕ, List}
use Rattle.adj_tree.specs.Code.{Procedure}
use Rattle.adj_tree.specs.Lines.{unlined}
use Rattle.def_text.specs.Reads.{Reads}

abbrev pub ReadsAs : List ℕ → List Procedure → Type 0
ReadsAs bytes program = (found : List Procedure) × Reads bytes found × (unlined found ≡ unlined program)
