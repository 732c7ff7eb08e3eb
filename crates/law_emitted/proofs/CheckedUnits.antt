-- The names of a unit without faults: of its dummies, of its extents, and where they stand.
use Rattle.std.proofs.Common.{◌≡◌, ℕ, true, false, List, [], ◌∷◌, ◌++◌, map, refl, ap, ◌∙◌}
use Rattle.std.specs.Prelude.{◌&&◌}
use Rattle.std.specs.List.{list_any}
use Rattle.adj_tree.specs.Code.{name_eq, Act, Extent, fixed, given, Declaration, Procedure}
use Rattle.adj_tree.proofs.Names.{name_refl, name_same}
use Rattle.def_meaning.specs.Read.{names_extent, is_extent}
use Rattle.def_names.specs.Statements.{At, statements}
use Rattle.def_names.specs.Standing.{in_act}
use Rattle.def_names.specs.Variables as named
use Rattle.def_names.specs.Variables.{variables}
use Rattle.def_names.specs.NameFaults.{is_bad_extent, has_bad_extents}
use Rattle.def_meaning.specs.Apart.{has_name}
use Rattle.def_sweep.specs.Declared.{unit_name}
use Rattle.def_names.proofs.Variables.{and_true, or_false, or_left, or_right}
use Rattle.law_sweep.proofs.Variables.{variables_stand}
use Rattle.law_sweep.proofs.Rounds.{either}
use Rattle.law_emitted.proofs.Lists.{Each, each_behind, each_more}
use Rattle.law_emitted.proofs.Texts.{Known}
use Rattle.law_emitted.proofs.Statements.{not_false}
use Rattle.law_emitted.proofs.Callings.{each_flat, each_map}

-- ---- names at places

pub dummy_names : (line : ℕ) (ds : List (List ℕ)) → map (λ (p : At (List ℕ)). p.1) (map (λ d. (line, d)) ds) ≡ ds
dummy_names line [] = refl
dummy_names line (d ∷ ds) = ap (λ l. d ∷ l) (dummy_names line ds)

pub unit_names : (us : List Procedure) → map (λ (p : At (List ℕ)). p.1) (map (λ u. (u.line, u.name)) us) ≡ map unit_name us
unit_names [] = refl
unit_names (u ∷ us) = ap (λ l. u.name ∷ l) (unit_names us)

-- ---- extents are dummies

extent_dummy : (u : Procedure) (x : List ℕ) (es : List Extent) → list_any (is_bad_extent u) es ≡ false → names_extent x es ≡ true → has_name x u.dummies ≡ true
extent_dummy u x [] h k = absurd cc
extent_dummy u x (fixed z ∷ es) h k = extent_dummy u x es (or_false (is_bad_extent u (fixed z)) (list_any (is_bad_extent u) es) h).1 k
extent_dummy u x (given y ∷ es) h k =
    let p = or_false (is_bad_extent u (given y)) (list_any (is_bad_extent u) es) h in
    either (name_eq x y) (names_extent x es) (has_name x u.dummies) k
    (λ e. ap (λ z. has_name z u.dummies) (name_same x y e) ∙ (and_true (named.is_dummy u y) (named.is_scalar u y) (not_false (named.is_dummy u y && named.is_scalar u y) p.0)).0)
    (λ e. extent_dummy u x es p.1 e)

pub extents_dummies : (u : Procedure) (x : List ℕ) (ds : List Declaration) → Each (λ d. has_bad_extents u d ≡ false) ds → is_extent x ds ≡ true → has_name x u.dummies ≡ true
extents_dummies u x [] h k = absurd cc
extents_dummies u x (d ∷ ds) h k =
    either (names_extent x d.extents) (is_extent x ds) (has_name x u.dummies) k
    (extent_dummy u x d.extents (or_false (list_any (is_bad_extent u) d.extents) _ h.0).0) (extents_dummies u x ds h.1)

-- ---- names in statements are variables

-- what holds of each name at some places holds at each place
each_named : (Q : List ℕ → Type 0) (ps : List (At (List ℕ))) → ((x : List ℕ) → has_name x (map (λ (p : At (List ℕ)). p.1) ps) ≡ true → Q x) → Each (λ (p : At (List ℕ)). Q p.1) ps
each_named Q [] f = tt
each_named Q (p ∷ ps) f = (
  f p.1 (or_left (name_eq p.1 p.1) (has_name p.1 (map (λ (p : At (List ℕ)). p.1) ps)) (name_refl p.1)),
  each_named Q ps (λ x h. f x (or_right (name_eq x p.1) (has_name x (map (λ (p : At (List ℕ)). p.1) ps)) h)),
)

pub names_known : (u : Procedure) → Each (λ (s : At Act). Each (Known (variables u)) (in_act s.1)) (statements u.body)
names_known u =
    each_more (λ (s : At Act). Each P (map (λ n. (s.0, n.name)) (in_act s.1))) (λ s. Each (Known (variables u)) (in_act s.1)) (λ s e. each_map P (λ n. (s.0, n.name)) (in_act s.1) e) (statements u.body)
    (each_flat P (λ (s : At Act). map (λ n. (s.0, n.name)) (in_act s.1)) (statements u.body)
    (each_behind P (named.declared_places u) (named.statement_places u) (each_behind P (named.dummy_places u) (named.declared_places u ++ named.statement_places u) everywhere)))
  where
    P : At (List ℕ) → Type 0
    P p = has_name p.1 (variables u) ≡ true

    everywhere : Each P (named.places u)
    everywhere = each_named (λ x. has_name x (variables u) ≡ true) (named.places u) (λ x h. variables_stand u x ∙ h)
