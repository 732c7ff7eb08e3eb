-- The names among extents, told by a table.
use Rattle.std.proofs.Common.{◌≡◌, ℕ, ◌+◌, ◌<◌, ◌≤◌, Bool, true, false, List, [], ◌∷◌, map, length, get_or, drop, refl, sym, ap, ◌∙◌}
use Rattle.std.specs.Prelude.{◌||◌}
use Rattle.std.proofs.lemmas.List.{drop_more, drop_all}
use Rattle.adj_tree.specs.Code.{Extent, fixed, given, Declaration}
use Rattle.def_meaning.specs.Read.{names_extent, is_extent}
use Rattle.adj_live.specs.Extents.{is_named}

pub or_none : (b : Bool) → b ≡ (b || false)
or_none true = refl
or_none false = refl

or_assoc : (a b c : Bool) → ((a || b) || c) ≡ (a || (b || c))
or_assoc true b c = refl
or_assoc false b c = refl

-- the first extent, and the others
among_first : (x : List ℕ) (e : Extent) (es : List Extent) → (is_named x e || names_extent x es) ≡ names_extent x (e ∷ es)
among_first x (fixed z) es = refl
among_first x (given y) es = refl

-- one member more, where a test of all is that of the first one, or that of the others
some_more : {X Y : Type 0} (view : X → Y) (first : Y → Bool) (all : List Y → Bool) → ((q : Y) (qs : List Y) → (first q || all qs) ≡ all (q ∷ qs)) → (xs : List X) (i : ℕ) (x : X) (had has : Bool) → i < length xs → x ≡ get_or xs i x → has ≡ (had || first (view x)) →
    (has || all (map view (drop (i + 1) xs))) ≡ (had || all (map view (drop i xs)))
some_more view first all step xs i x had has lt is e =
    ap (λ b. b || all (map view (drop (i + 1) xs))) e
    ∙ or_assoc had (first (view x)) (all (map view (drop (i + 1) xs)))
    ∙ ap (λ b. had || b) (step (view x) (map view (drop (i + 1) xs)) ∙ ap (λ z. all (map view z)) (sym (drop_more xs i x lt ∙ ap (λ z. z ∷ drop (i + 1) xs) (sym is))))

-- all members
some_end : {X Y : Type 0} (view : X → Y) (all : List Y → Bool) → all [] ≡ false → (xs : List X) (i : ℕ) (has whole : Bool) → length xs ≤ i → (has || all (map view (drop i xs))) ≡ whole → has ≡ whole
some_end view all none xs i has whole past e = or_none has ∙ ap (λ b. has || b) (sym none ∙ ap (λ z. all (map view z)) (sym (drop_all i xs past))) ∙ e

pub extents_more : {X : Type 0} (view : X → Extent) (n : List ℕ) (xs : List X) (i : ℕ) (x : X) (had has : Bool) → i < length xs → x ≡ get_or xs i x → has ≡ (had || is_named n (view x)) → (has || names_extent n (map view (drop (i + 1) xs))) ≡ (had || names_extent n (map view (drop i xs)))
extents_more view n xs i x had has lt is e = some_more view (is_named n) (names_extent n) (among_first n) xs i x had has lt is e

pub extents_end : {X : Type 0} (view : X → Extent) (n : List ℕ) (xs : List X) (i : ℕ) (has whole : Bool) → length xs ≤ i → (has || names_extent n (map view (drop i xs))) ≡ whole → has ≡ whole
extents_end view n xs i has whole past e = some_end view (names_extent n) refl xs i has whole past e

pub declared_more : {X : Type 0} (view : X → Declaration) (n : List ℕ) (xs : List X) (i : ℕ) (x : X) (had has : Bool) → i < length xs → x ≡ get_or xs i x → has ≡ (had || names_extent n (view x).extents) → (has || is_extent n (map view (drop (i + 1) xs))) ≡ (had || is_extent n (map view (drop i xs)))
declared_more view n xs i x had has lt is e = some_more view (λ d. names_extent n d.extents) (is_extent n) (λ q qs. refl) xs i x had has lt is e

pub declared_end : {X : Type 0} (view : X → Declaration) (n : List ℕ) (xs : List X) (i : ℕ) (has whole : Bool) → length xs ≤ i → (has || is_extent n (map view (drop i xs))) ≡ whole → has ≡ whole
declared_end view n xs i has whole past e = some_end view (is_extent n) refl xs i has whole past e
