-- Which members get declarations, by what is tested.
use Rattle.std.proofs.Common.{◌≡◌, ℕ, Bool, true, false, List, [], ◌∷◌, map, length, refl, sym, ap, ◌∙◌, if◌then◌else◌}
use Rattle.std.specs.Prelude.{◌==◌, ◌&&◌, ◌||◌, not}
use Rattle.adj_tree.specs.declared.unit.Decl.{Decl}
use Rattle.adj_tree.specs.View.{declaration_of}
use Rattle.adj_tree.specs.Code.{Declaration}
use Rattle.def_meaning.specs.Apart.{has_name}
use Rattle.def_names.specs.Variables.{is_integer_name}
use Rattle.def_sweep.specs.Declared.{declaration}
use Rattle.adj_naming.specs.declared.declared.Declared.{Declared}
use Rattle.adj_common.specs.Entries.{Entry}
use Rattle.adj_common.specs.Members.{has_names, gets_declared}
use Rattle.adj_common.specs.Views.{firsts_of}

names_firsts : (ds : List Decl) → map (λ (d : Declaration). d.name) (map declaration_of ds) ≡ map (λ (d : Decl). d.name) ds
names_firsts [] = refl
names_firsts (d ∷ ds) = ap (λ l. d.name ∷ l) (names_firsts ds)

-- whether a name is declared
pub declared_there : (t : Declared) (x z : List ℕ) (b : Bool) → z ≡ x → b ≡ has_name z t.names → has_names (firsts_of t) x ≡ b
declared_there t x z b e h = ap (has_name x) (names_firsts t.firsts.items ∙ sym t.alike) ∙ ap (λ y. has_name y t.names) (sym e) ∙ sym h

pub gains_again : (ds : List Declaration) (none : Bool) (e : Entry) → has_names ds e.name ≡ true → gets_declared ds none e ≡ (not (length e.item == 0) && not (length (declaration 0 ds e.name).extents == 0))
gains_again ds none e h = ap (λ b. if b then not (length e.item == 0) && not (length (declaration 0 ds e.name).extents == 0) else not e.own || (not (length e.item == 0) && (is_integer_name e.name && not none))) h

pub gains_first : (ds : List Declaration) (none : Bool) (e : Entry) → has_names ds e.name ≡ false → gets_declared ds none e ≡ (not e.own || (not (length e.item == 0) && (is_integer_name e.name && not none)))
gains_first ds none e h = ap (λ b. if b then not (length e.item == 0) && not (length (declaration 0 ds e.name).extents == 0) else not e.own || (not (length e.item == 0) && (is_integer_name e.name && not none))) h

-- ---- tests one after the other

pub both : (a b : Bool) → a ≡ true → b ≡ (a && b)
both a b h = ap (λ c. c && b) (sym h)

pub first_fails : (a b : Bool) → a ≡ false → a ≡ (a && b)
first_fails a b h = h ∙ ap (λ c. c && b) (sym h)

pub first_holds : (a b : Bool) → a ≡ true → a ≡ (a || b)
first_holds a b h = h ∙ ap (λ c. c || b) (sym h)

pub last_counts : (o i n z : Bool) → o ≡ false → i ≡ true → n ≡ true → z ≡ (o || (i && (n && z)))
last_counts o i n z a b c = λ j. sym a j || (sym b j && (sym c j && z))

pub third_fails : (o i n z : Bool) → o ≡ false → i ≡ true → n ≡ false → n ≡ (o || (i && (n && z)))
third_fails o i n z a b c = c ∙ (λ j. sym a j || (sym b j && (sym c j && z)))

pub second_fails : (o i b : Bool) → o ≡ false → i ≡ false → i ≡ (o || (i && b))
second_fails o i b a c = c ∙ (λ j. sym a j || (sym c j && b))
