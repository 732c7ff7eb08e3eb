-- Declarations by the names of their variables.
use Rattle.std.proofs.Common.{◌≡◌, ℕ, zero, suc, Bool, true, false, List, [], ◌∷◌, ◌++◌, ◌+◌, ◌<◌, map, length, drop, get_or, Some, refl, sym, ap, ◌∙◌, arith, append_assoc, if◌then◌else◌}
use Rattle.std.specs.Prelude.{◌||◌, position}
use Rattle.std.proofs.lemmas.List.{map_push, length-map}
use Rattle.std.proofs.lemmas.List.Quantifiers.{position-Some}
use Rattle.adj_tree.specs.Code.{name_eq, Declaration}
use Rattle.adj_tree.specs.View.{declaration_of}
use Rattle.adj_tree.specs.declared.unit.Decl.{Decl}
use Rattle.adj_tree.proofs.Names.{name_same}
use Rattle.def_meaning.specs.Apart.{has_name}
use Rattle.def_sweep.specs.Declared.{scalar, declaration}
use Rattle.def_names.proofs.Variables.{or_false}
use Rattle.def_meaning.proofs.Variables.{name_comm}
use Rattle.adj_naming.proofs.Places.{from_here}

-- ---- one declaration for each variable

-- a declaration of another variable is passed
declaration_other : (line : ℕ) (fs : List Declaration) (d : Declaration) (rest : List Declaration) (x : List ℕ) → name_eq d.name x ≡ false → declaration line (fs ++ (d ∷ rest)) x ≡ declaration line (fs ++ rest) x
declaration_other line [] d rest x h = ap (λ b. if b then d else declaration line rest x) h
declaration_other line (f ∷ fs) d rest x h = ap (λ z. if name_eq f.name x then f else z) (declaration_other line fs d rest x h)

-- and so is one more declaration of a variable
declaration_again : (line : ℕ) (fs : List Decl) (d : Declaration) (rest : List Declaration) (x : List ℕ) → has_name d.name (map (λ e. e.name) fs) ≡ true → declaration line (map declaration_of fs ++ (d ∷ rest)) x ≡ declaration line (map declaration_of fs ++ rest) x
declaration_again line [] d rest x h = cc
declaration_again line (f ∷ fs) d rest x h = go (name_eq f.name x) refl (name_eq d.name f.name) refl h (declaration_again line fs d rest x)
  where
    go : (b : Bool) → name_eq f.name x ≡ b → (t : Bool) → name_eq d.name f.name ≡ t → (t || has_name d.name (map (λ e. e.name) fs)) ≡ true → (has_name d.name (map (λ e. e.name) fs) ≡ true → declaration line (map declaration_of fs ++ (d ∷ rest)) x ≡ declaration line (map declaration_of fs ++ rest) x) → (if b then declaration_of f else declaration line (map declaration_of fs ++ (d ∷ rest)) x) ≡ (if b then declaration_of f else declaration line (map declaration_of fs ++ rest) x)
    go true e t g h ih = refl
    go false e true g h ih = declaration_other line (map declaration_of fs) d rest x (ap (λ z. name_eq z x) (name_same d.name f.name g) ∙ e)
    go false e false g h ih = ih h

-- the first declaration of a variable is kept
pub first_kept : (items firsts longer : List Decl) (d e : Decl) (i line : ℕ) (x : List ℕ) → i < length items → d ≡ get_or items i d → longer ≡ firsts ++ (e ∷ []) → declaration_of e ≡ declaration_of d → declaration line (map declaration_of longer ++ map declaration_of (drop (i + 1) items)) x ≡ declaration line (map declaration_of firsts ++ map declaration_of (drop i items)) x
first_kept items firsts longer d e i line x lt at h same =
    let rest = map declaration_of (drop (i + 1) items) in
    ap (λ ds. declaration line ds x)
    (ap (λ ds. map declaration_of ds ++ rest) h ∙ ap (λ ds. ds ++ rest) (map_push declaration_of firsts e ∙ ap (λ z. map declaration_of firsts ++ (z ∷ [])) same)
    ∙ append_assoc (map declaration_of firsts) (declaration_of d ∷ []) rest ∙ ap (λ ds. map declaration_of firsts ++ map declaration_of ds) (sym (from_here items i d lt at)))

-- another one is passed
pub first_passed : (items firsts : List Decl) (d : Decl) (i line : ℕ) (x : List ℕ) → i < length items → d ≡ get_or items i d → has_name d.name (map (λ e. e.name) firsts) ≡ true → declaration line (map declaration_of firsts ++ map declaration_of (drop (i + 1) items)) x ≡ declaration line (map declaration_of firsts ++ map declaration_of (drop i items)) x
first_passed items firsts d i line x lt at h =
    sym (ap (λ ds. declaration line (map declaration_of firsts ++ map declaration_of ds) x) (from_here items i d lt at) ∙ declaration_again line firsts (declaration_of d) (map declaration_of (drop (i + 1) items)) x h)

-- ---- look-ups

placed : (line : ℕ) (ds : List Decl) (x : List ℕ) (i : ℕ) (d : Decl) → i < length ds → name_eq x (get_or (map (λ e. e.name) ds) i []) ≡ true → ((k : ℕ) → k < i → name_eq x (get_or (map (λ e. e.name) ds) k []) ≡ false) → d ≡ get_or ds i d → declaration_of d ≡ declaration line (map declaration_of ds) x
placed line [] x i d lt here before at = absurd (omega arith)
placed line (e ∷ ds) x zero d lt here before at = ap declaration_of at ∙ sym (ap (λ b. if b then declaration_of e else declaration line (map declaration_of ds) x) (ap (λ z. name_eq z x) (sym (name_same x e.name here)) ∙ ap (name_eq x) (name_same x e.name here) ∙ here))
placed line (e ∷ ds) x (suc i) d lt here before at =
    placed line ds x i d (omega arith) here (λ k h. before (suc k) (omega arith)) at
    ∙ sym (ap (λ b. if b then declaration_of e else declaration line (map declaration_of ds) x) (name_comm x e.name (before 0 (omega arith))))

-- the declaration at the place of its variable
pub declaration_placed : (line : ℕ) (ds : List Decl) (names : List (List ℕ)) (x : List ℕ) (i : ℕ) (d : Decl) → names ≡ map (λ e. e.name) ds → position (name_eq x) names ≡ Some i → d ≡ get_or ds i d → declaration_of d ≡ declaration line (map declaration_of ds) x
declaration_placed line ds names x i d h p at =
    let found = position-Some (name_eq x) (map (λ e. e.name) ds) i [] (ap (position (name_eq x)) (sym h) ∙ p) in
    let many : length (map (λ (e : Decl). e.name) ds) ≡ length ds = length-map ds (λ e. e.name) in
    let within = found.0 in
    placed line ds x i d (omega arith) found.1 found.2 at

undeclared : (line : ℕ) (ds : List Decl) (x : List ℕ) → has_name x (map (λ e. e.name) ds) ≡ false → declaration line (map declaration_of ds) x ≡ scalar line x
undeclared line [] x h = refl
undeclared line (d ∷ ds) x h =
    let apart = or_false (name_eq x d.name) (has_name x (map (λ e. e.name) ds)) h in
    ap (λ b. if b then declaration_of d else declaration line (map declaration_of ds) x) (name_comm x d.name apart.0) ∙ undeclared line ds x apart.1

-- what isn't declared is a scalar
pub declaration_absent : (line : ℕ) (ds : List Decl) (names : List (List ℕ)) (x : List ℕ) → names ≡ map (λ e. e.name) ds → has_name x names ≡ false → scalar line x ≡ declaration line (map declaration_of ds) x
declaration_absent line ds names x h absent = sym (undeclared line ds x (ap (has_name x) (sym h) ∙ absent))
