-- Names that a statement may write and that are among some others.
use Rattle.std.proofs.Common.{◌≡◌, ◌⊎◌, inl, inr, ℕ, Bool, true, false, List, [], ◌∷◌, map, refl, sym, ap, ap₂, ◌∙◌, if◌then◌else◌}
use Rattle.std.specs.Prelude.{◌||◌, ◌&&◌}
use Rattle.std.specs.List.{flat_map, list_any}
use Rattle.std.proofs.lemmas.Bool.{or_cases}
use Rattle.std.proofs.lemmas.List.{map-append}
use Rattle.adj_tree.specs.Code.{plain, name_eq, Act, Extent, fixed, given, Declaration, Procedure}
use Rattle.adj_tree.proofs.Names.{name_refl, name_same}
use Rattle.def_meaning.specs.LeastSet.{Dummies}
use Rattle.def_meaning.specs.Read.{names_extent, is_extent}
use Rattle.def_meaning.proofs.Booleans.{and_true, or_first, or_second}
use Rattle.def_meaning.specs.Apart.{has_name}
use Rattle.def_names.specs.NameFaults.{extent_names}
use Rattle.def_names.specs.Variables.{Name, is_dummy}
use Rattle.def_names.specs.WriteFaults.{may_write}
use Rattle.adj_sets.specs.Sets.{with_name}
use Rattle.adj_sets.proofs.NameSets.{has-behind}
use Rattle.adj_symbols.specs.View.{names_at}
use Rattle.adj_symbols.specs.Writes.{written_names, writes_one}
use Rattle.adj_symbols.proofs.Repeats.{with_name-has}
use Rattle.adj_symbols_writes.proofs.Rows.{name_comm}
use Rattle.adj_symbols.proofs.Clashing.{both_ways}
use Rattle.adj_symbols.proofs.Writing.{may_write_name}

any_in : (f : Name → Bool) (xs : List Name) (x : Name) → has_name x xs ≡ true → f x ≡ true → list_any f xs ≡ true
any_in f [] x h e = h
any_in f (y ∷ ys) x h e = go (or_cases (name_eq x y) (has_name x ys) h) (λ b. any_in f ys x b e)
  where
    go : (name_eq x y ≡ true) ⊎ (has_name x ys ≡ true) → (has_name x ys ≡ true → list_any f ys ≡ true) → (f y || list_any f ys) ≡ true
    go (inl a) later = or_first (f y) (list_any f ys) (ap f (sym (name_same x y a)) ∙ e)
    go (inr b) later = or_second (f y) (list_any f ys) (later b)

any_out : (f : Name → Bool) (xs : List Name) → list_any f xs ≡ true → (x : Name) × (has_name x xs ≡ true) × (f x ≡ true)
any_out f [] h = absurd cc
any_out f (y ∷ ys) h = go (or_cases (f y) (list_any f ys) h) (any_out f ys)
  where
    go : (f y ≡ true) ⊎ (list_any f ys ≡ true) → (list_any f ys ≡ true → (x : Name) × (has_name x ys ≡ true) × (f x ≡ true)) → (x : Name) × (has_name x (y ∷ ys) ≡ true) × (f x ≡ true)
    go (inl a) later = (y, or_first (name_eq y y) (has_name y ys) (name_refl y), a)
    go (inr b) later = let r = later b in (r.0, or_second (name_eq r.0 y) (has_name r.0 ys) r.1, r.2)

both : (a b : Bool) → a ≡ true → b ≡ true → (a && b) ≡ true
both a b h e = ap (λ z. z && b) h ∙ e

-- a statement writes an extent where it writes a dummy that is one
pub met_extents : (handed : Dummies) (u : Procedure) (chosen : List Name) (a : Act) → ((x : Name) → has_name x chosen ≡ (is_extent x u.declarations && is_dummy u x)) → writes_one handed chosen a ≡ list_any (λ d. is_extent d u.declarations && may_write handed (plain d) a) u.dummies
met_extents handed u chosen a known = both_ways (writes_one handed chosen a) (list_any (λ d. is_extent d u.declarations && may_write handed (plain d) a) u.dummies) forth back
  where
    forth : writes_one handed chosen a ≡ true → list_any (λ d. is_extent d u.declarations && may_write handed (plain d) a) u.dummies ≡ true
    forth h =
        let r = any_out (λ x. has_name x chosen) (written_names handed a) h in
        let k = and_true (is_extent r.0 u.declarations) (is_dummy u r.0) (sym (known r.0) ∙ r.2) in
        any_in (λ d. is_extent d u.declarations && may_write handed (plain d) a) u.dummies r.0 k.1 (both (is_extent r.0 u.declarations) (may_write handed (plain r.0) a) k.0 (may_write_name handed r.0 a ∙ r.1))

    back : list_any (λ d. is_extent d u.declarations && may_write handed (plain d) a) u.dummies ≡ true → writes_one handed chosen a ≡ true
    back h =
        let r = any_out (λ d. is_extent d u.declarations && may_write handed (plain d) a) u.dummies h in
        let k = and_true (is_extent r.0 u.declarations) (may_write handed (plain r.0) a) r.2 in
        any_in (λ x. has_name x chosen) (written_names handed a) r.0 (sym (may_write_name handed r.0 a) ∙ k.1) (known r.0 ∙ both (is_extent r.0 u.declarations) (is_dummy u r.0) k.0 r.1)

-- ---- extents by names

among_names : (x : Name) (es : List Extent) → names_extent x es ≡ has_name x (extent_names es)
among_names x [] = refl
among_names x (fixed z ∷ es) = among_names x es
among_names x (given y ∷ es) = ap (λ b. name_eq x y || b) (among_names x es)

at_line : (line : ℕ) (xs : List Name) → names_at (map (λ x. (line, x)) xs) ≡ xs
at_line line [] = refl
at_line line (x ∷ xs) = ap (λ z. x ∷ z) (at_line line xs)

-- the names at places of a list are those at no line
pub listed_names : (xs : List Name) → names_at (map (λ x. (0, x)) xs) ≡ xs
listed_names xs = at_line 0 xs

pub extent_listed : (x : Name) (ds : List Declaration) → is_extent x ds ≡ has_name x (names_at (flat_map (λ d. map (λ y. (d.line, y)) (extent_names d.extents)) ds))
extent_listed x [] = refl
extent_listed x (d ∷ ds) =
    ap₂ (λ a b. a || b) (among_names x d.extents ∙ ap (has_name x) (sym (at_line d.line (extent_names d.extents)))) (extent_listed x ds)
    ∙ sym (has-behind x (names_at (map (λ y. (d.line, y)) (extent_names d.extents))) (names_at (flat_map (λ e. map (λ y. (e.line, y)) (extent_names e.extents)) ds)))
    ∙ ap (has_name x) (sym (map-append (λ p. p.1) (map (λ y. (d.line, y)) (extent_names d.extents)) (flat_map (λ e. map (λ y. (e.line, y)) (extent_names e.extents)) ds)))

-- one more place, whose name is added where it is a dummy
pub extent_more : (test : Name → Bool) (x y : Name) (made after left : List Name) (b : Bool) → test y ≡ b → after ≡ (if b then with_name made y else made) → (has_name x after || (has_name x left && test x)) ≡ (has_name x made || (has_name x (y ∷ left) && test x))
extent_more test x y made after left b h e = ap (λ z. has_name x z || (has_name x left && test x)) e ∙ go b h (name_eq x y) refl
  where
    with_true : (m : Bool) → true ≡ (m || true)
    with_true true = refl
    with_true false = refl

    and_false : (r : Bool) → (r && false) ≡ false
    and_false true = refl
    and_false false = refl

    go : (b : Bool) → test y ≡ b → (same : Bool) → name_eq x y ≡ same → (has_name x (if b then with_name made y else made) || (has_name x left && test x)) ≡ (has_name x made || ((same || has_name x left) && test x))
    go true k true d =
        let t : test x ≡ true = ap test (name_same x y d) ∙ k in
        ap (λ z. z || (has_name x left && test x)) (with_name-has x y made ∙ ap (λ z. z || has_name x made) d)
        ∙ with_true (has_name x made) ∙ ap (λ z. has_name x made || z) (sym t)
    go true k false d = ap (λ z. z || (has_name x left && test x)) (with_name-has x y made ∙ ap (λ z. z || has_name x made) d)
    go false k true d =
        let t : test x ≡ false = ap test (name_same x y d) ∙ k in
        ap (λ z. has_name x made || z) (ap (λ z. has_name x left && z) t ∙ and_false (has_name x left) ∙ sym t)
    go false k false d = refl

-- ---- one more variable that is open

mixed : (a b c d : Bool) → ((a || b) || (c || d)) ≡ ((a || c) || (b || d))
mixed true b c d = refl
mixed false true true d = refl
mixed false true false d = refl
mixed false false c d = refl

one_more : (handed : Dummies) (x : Name) (xs : List Name) (a : Act) → writes_one handed (with_name xs x) a ≡ (may_write handed (plain x) a || writes_one handed xs a)
one_more handed x xs a = go (written_names handed a) ∙ ap (λ b. b || writes_one handed xs a) (sym (may_write_name handed x a))
  where
    go : (ws : List Name) → list_any (λ y. has_name y (with_name xs x)) ws ≡ (has_name x ws || list_any (λ y. has_name y xs) ws)
    go [] = refl
    go (w ∷ ws) =
        ap₂ (λ p q. p || q) (with_name-has w x xs ∙ ap (λ b. b || has_name w xs) (name_comm w x)) (go ws)
        ∙ mixed (name_eq x w) (has_name w xs) (has_name x ws) (list_any (λ y. has_name y xs) ws)

pub more_open : (handed : Dummies) (x : Name) (xs : List Name) → writes_one handed (with_name xs x) ≡ (λ s. may_write handed (plain x) s || writes_one handed xs s)
more_open handed x xs i s = one_more handed x xs s i

pub none_open : (handed : Dummies) (a : Act) → writes_one handed [] a ≡ false
none_open handed a = go (written_names handed a)
  where
    go : (ws : List Name) → list_any (λ y. has_name y []) ws ≡ false
    go [] = refl
    go (w ∷ ws) = go ws
