-- What a statement uses where it is kept.
use Rattle.std.specs.Prelude.{List, false, ◌||◌}
use Rattle.adj_tree.specs.Code.{Act, assign, choose, loop, during, call, runtime, Procedure}
use Rattle.def_meaning.specs.Read.{reads_term, reads_terms, reads_test, reads_mark, reads_actuals, looked_at}
use Rattle.def_names.specs.Numbers.{Vars}

-- what a statement uses where it is kept: an assignment its right side and subscripts, an IF and a DO WHILE its condition, a DO its bounds and the name of its number of snapshots,
-- a call the actuals of the dummies that its unit reads
abbrev pub uses : List Procedure → Act → Vars
uses units (assign x subs e) v = reads_term v e || reads_terms v subs
uses units (choose c a b) v = reads_test v c
uses units (loop x first last by body m) v = reads_term v first || (reads_term v last || (reads_term v by || reads_mark v m))
uses units (during c body) v = reads_test v c
uses units (call name args) v = reads_actuals v (looked_at units name) args
uses units (runtime r) v = false
