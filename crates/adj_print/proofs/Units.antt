-- Units: the text of a program, unit by unit.
use Rattle.std.proofs.Common.{◌≡◌, ℕ, ◌+◌, ◌<◌, List, ◌++◌, map, length, get_or, drop, sym, ap, ◌∙◌, append_assoc}
use Rattle.std.specs.List.{flat_map}
use Rattle.std.proofs.lemmas.List.{at_drop_more}
use Rattle.adj_tree.specs.declared.unit.Unit.{Unit}
use Rattle.adj_tree.specs.View.{procedure_of}
use Rattle.def_text.specs.Text.{procedure_text}

-- the lines of some units
abbrev pub lines_of : List Unit → List ℕ
lines_of us = flat_map procedure_text (map procedure_of us)

-- the next unit is taken off those that are left
pub unit_more : (out new total : List ℕ) (us : List Unit) (i : ℕ) (u : Unit) → i < length us → u ≡ get_or us i u → new ≡ out ++ procedure_text (procedure_of u) → out ++ lines_of (drop i us) ≡ total → new ++ lines_of (drop (i + 1) us) ≡ total
unit_more out new total us i u lt same h e =
    ap (λ xs. xs ++ lines_of (drop (i + 1) us)) h
    ∙ append_assoc out (procedure_text (procedure_of u)) (lines_of (drop (i + 1) us))
    ∙ ap (λ v. out ++ (procedure_text (procedure_of v) ++ lines_of (drop (i + 1) us))) same
    ∙ sym (at_drop_more (λ vs. out ++ lines_of vs) us i u lt)
    ∙ e
