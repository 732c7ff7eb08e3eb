-- The faults of the names in a unit, put together.
use Rattle.std.proofs.Common.{◌≡◌, ℕ, ◌+◌, ◌<◌, nat_lt, arith, Bool, true, List, [], ◌∷◌, ◌++◌, map, length, get_or, drop, refl, sym, ap, ap₂, ◌∙◌, append_assoc}
use Rattle.std.specs.Prelude.{not}
use Rattle.std.proofs.lemmas.Bool.Decides.{nat_tests}
use Rattle.std.specs.List.{flat_map}
use Rattle.std.proofs.lemmas.Grind.{flat_map-append}
use Rattle.std.proofs.lemmas.List.Folds.{flat_map-map}
use Rattle.std.proofs.lemmas.List.{drop-map, map-append, drop_more}
use Rattle.adj_tree.specs.Code.{Act, assign, choose, loop, during, call, runtime, Procedure}
use Rattle.def_names.specs.Statements.{At}
use Rattle.def_names.specs.Standing.{Standing, in_act}
use Rattle.def_names.specs.NameFaults.{has_rank, taken_in, passed_by}
use Rattle.def_names.specs.Fault.{fault, passed, faults_if}
use Rattle.adj_symbols.specs.View.{place_of, places_of, used_place, at_line, taken_at}
use Rattle.adj_symbols.specs.declared.places.Placed.{Placed}
use Rattle.adj_symbols.proofs.Repeats.{left}

taken_act : (a : Act) → taken_in true a ≡ in_act a
taken_act (assign x subs e) = refl
taken_act (choose c a b) = refl
taken_act (loop x first last by body m) = refl
taken_act (during c body) = refl
taken_act (call name args) = refl
taken_act (runtime r) = refl

-- the places of the names that stand in statements
pub used_listed : (ss : List (At Act)) → map used_place (taken_at true ss) ≡ flat_map (λ s. map (λ n. (s.0, n.name)) (in_act s.1)) ss
used_listed [] = refl
used_listed (s ∷ ss) =
    map-append used_place (at_line s.0 (taken_in true s.1)) (taken_at true ss)
    ∙ ap₂ (λ a b. a ++ b) (ap (λ z. map used_place (at_line s.0 z)) (taken_act s.1) ∙ twice (in_act s.1)) (used_listed ss)
  where
    twice : (ns : List Standing) → map used_place (at_line s.0 ns) ≡ map (λ n. (s.0, n.name)) ns
    twice [] = refl
    twice (n ∷ ns) = ap (λ z. (s.0, n.name) ∷ z) (twice ns)

-- the names that are misused in statements
pub misused_listed : (u : Procedure) (b : Bool) (ss : List (At Act)) → flat_map (λ n. faults_if (not (has_rank u n.1)) (fault 9 n.0)) (taken_at b ss) ≡ flat_map (λ s. flat_map (λ n. faults_if (not (has_rank u n)) (fault 9 s.0)) (taken_in b s.1)) ss
misused_listed u b [] = refl
misused_listed u b (s ∷ ss) =
    flat_map-append (λ n. faults_if (not (has_rank u n.1)) (fault 9 n.0)) (at_line s.0 (taken_in b s.1)) (taken_at b ss)
    ∙ ap₂ (λ x y. x ++ y) (flat_map-map (λ n. faults_if (not (has_rank u n.1)) (fault 9 n.0)) (λ n. (s.0, n)) (taken_in b s.1)) (misused_listed u b ss)

-- a limit is passed at the place behind it
pub passed_place : (limit : ℕ) (ps : List Placed) (p : Placed) → limit < length ps → p ≡ get_or ps limit p → passed_by limit (drop limit (places_of ps)) ≡ passed limit p.line ∷ []
passed_place limit ps p lt is = ap (passed_by limit) (drop-map place_of limit ps ∙ ap places_of (sym (left ps limit p lt is)))

-- members of a list, each looked at
pub map_more : {X Y Z : Type 0} (view : X → Y) (f : Y → Z) (xs : List X) (i : ℕ) (x : X) (made after : List Z) → i < length xs → x ≡ get_or xs i x → after ≡ made ++ f (view x) ∷ [] → after ++ map f (map view (drop (i + 1) xs)) ≡ made ++ map f (map view (drop i xs))
map_more view f xs i x made after lt is e =
    ap (λ z. z ++ map f (map view (drop (i + 1) xs))) e
    ∙ append_assoc made (f (view x) ∷ []) (map f (map view (drop (i + 1) xs)))
    ∙ ap (λ z. made ++ map f (map view z)) (sym (drop_more xs i x lt ∙ ap (λ z. z ∷ drop (i + 1) xs) (sym is)))

-- a test of an order that comes out true
pub within : (a b : ℕ) → true ≡ nat_lt a b → a < b
within a b e = grind (arith, nat_tests)
