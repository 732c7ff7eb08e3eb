-- Declarations behind those of one more item.
use Rattle.std.proofs.Common.{◌≡◌, ℕ, List, [], ◌∷◌, ◌++◌, map, sym, ap, ◌∙◌}
use Rattle.std.proofs.lemmas.List.{map_push, append_assoc}
use Rattle.adj_tree.specs.View.{declaration_of}
use Rattle.adj_tree.specs.declared.unit.Decl.{Decl}
use Rattle.def_text.specs.Unit as unit
use Rattle.adj_parse_statement.specs.View.{item_of}
use Rattle.adj_parse_statement.specs.declared.content.Item.{Item}

pub one_declared : (old now : List Decl) (done : List Item) (line : ℕ) (i : Item) (d : Decl) → map declaration_of now ≡ map declaration_of old ++ map (unit.declaration_of line) (map item_of done) → declaration_of d ≡ unit.declaration_of line (item_of i) →
    map declaration_of (now ++ d ∷ []) ≡ map declaration_of old ++ map (unit.declaration_of line) (map item_of (done ++ i ∷ []))
one_declared old now done line i d so_far same =
    map_push declaration_of now d
    ∙ ap (λ ds. ds ++ declaration_of d ∷ []) so_far
    ∙ append_assoc (map declaration_of old) (map (unit.declaration_of line) (map item_of done)) (declaration_of d ∷ [])
    ∙ ap (λ e. map declaration_of old ++ (map (unit.declaration_of line) (map item_of done) ++ e ∷ [])) same
    ∙ ap (λ ds. map declaration_of old ++ ds) (sym (ap (map (unit.declaration_of line)) (map_push item_of done i) ∙ map_push (unit.declaration_of line) (map item_of done) (item_of i)))
