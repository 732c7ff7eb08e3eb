-- Entries of the code, as the definitions see them.
use Rattle.std.proofs.Common.{◌≡◌, ℕ, zero, suc, ◌<◌, Bool, true, false, List, [], ◌∷◌, ◌++◌, map, length, get_or, refl, ap, sym, ◌∙◌, Some, None, arith, if◌then◌else◌}
use Rattle.std.specs.Prelude.{ℤ, position, not}
use Rattle.std.proofs.Math.ListN.{set, get_or-map}
use Rattle.std.proofs.lemmas.List.{length-map}
use Rattle.std.proofs.lemmas.List.Quantifiers.{position-Some}
use Rattle.adj_tree.specs.Code.{name_eq}
use Rattle.def_meaning.proofs.Booleans.{or_false}
use Rattle.adj_data.specs.declared.entries.Entry.{Entry as CodeEntry}
use Rattle.adj_data.specs.Entries.{Entry, entry_named, with_number}
use Rattle.def_meaning.specs.Apart.{has_name}
use Rattle.adj_data.specs.Faults.{name_code}
use Rattle.adj_data.specs.Given.{entry_seen}

pub names_seen : (es : List CodeEntry) → map (λ e. e.name) (map entry_seen es) ≡ map (λ e. e.name.items) es
names_seen [] = refl
names_seen (e ∷ es) = ap (λ xs. e.name.items ∷ xs) (names_seen es)

-- the first entry with a name, where the ones before it have others
pub found_at : (x : List ℕ) (es : List CodeEntry) (i : ℕ) (d : CodeEntry) → i < length es → name_eq x (get_or es i d).name.items ≡ true → ((k : ℕ) → k < i → name_eq x (get_or es k d).name.items ≡ false) → entry_named x (map entry_seen es) ≡ Some (entry_seen (get_or es i d))
found_at x [] i d lt e h = absurd (omega arith)
found_at x (f ∷ es) zero d lt e h = ap (λ b. if b then Some (entry_seen f) else entry_named x (map entry_seen es)) e
found_at x (f ∷ es) (suc i) d lt e h =
    ap (λ b. if b then Some (entry_seen f) else entry_named x (map entry_seen es)) (h 0 (omega arith)) ∙ found_at x es i d (omega arith) e (λ k l. h (suc k) (omega arith))

-- a number behind the last entry's others
pub with_last : (z : ℤ) (es : List CodeEntry) (i : ℕ) (d e : CodeEntry) → length es ≡ suc i → entry_seen e ≡ record (entry_seen (get_or es i d)) { numbers = (get_or es i d).numbers.items ++ (z ∷ []) } → map entry_seen (set es i e) ≡ with_number z (map entry_seen es)
with_last z [] i d e len h = absurd (omega arith)
with_last z (f ∷ []) zero d e len h = ap (λ v. v ∷ []) h
with_last z (f ∷ []) (suc i) d e len h = absurd (omega arith)
with_last z (f ∷ g ∷ es) zero d e len h = absurd (omega arith)
with_last z (f ∷ g ∷ es) (suc i) d e len h = ap (λ vs. entry_seen f ∷ vs) (with_last z (g ∷ es) i d e (omega arith) h)

-- ---- names of entries

-- whether a name stands among those of some entries
pub stands_seen : (x : List ℕ) (es : List CodeEntry) (names : List (List ℕ)) (seen : List Entry) → names ≡ map (λ e. e.name.items) es → map entry_seen es ≡ seen → has_name x (map (λ e. e.name) seen) ≡ has_name x names
stands_seen x es names seen h v = ap (λ s. has_name x (map (λ e. e.name) s)) (sym v) ∙ ap (has_name x) (names_seen es ∙ sym h)

pub absent : (x : List ℕ) (es : List Entry) → has_name x (map (λ e. e.name) es) ≡ false → entry_named x es ≡ None
absent x [] h = refl
absent x (e ∷ es) h =
    let t = or_false (name_eq x e.name) (has_name x (map (λ e. e.name) es)) h in
    ap (λ b. if b then Some e else entry_named x es) t.0 ∙ absent x es t.1

-- the entry at the place of its name
pub placed : (x : List ℕ) (es : List CodeEntry) (names : List (List ℕ)) (i : ℕ) (d : CodeEntry) → names ≡ map (λ e. e.name.items) es → position (name_eq x) names ≡ Some i → entry_named x (map entry_seen es) ≡ Some (entry_seen (get_or es i d))
placed x es names i d h p =
    let f : CodeEntry → List ℕ = λ e. e.name.items in
    let at = position-Some (name_eq x) (map f es) i (f d) (ap (position (name_eq x)) (sym h) ∙ p) in
    let many : length (map f es) ≡ length es = length-map es f in
    let within = at.0 in
    found_at x es i d (omega (arith, many, within)) (ap (name_eq x) (sym (get_or-map f es i d)) ∙ at.1) (λ k l. ap (name_eq x) (sym (get_or-map f es k d)) ∙ other k l)
  where
    other : (k : ℕ) → k < i → name_eq x (get_or (map (λ e. e.name.items) es) k ((λ (e : CodeEntry). e.name.items) d)) ≡ false
    other k l = (position-Some (name_eq x) (map (λ e. e.name.items) es) i ((λ (e : CodeEntry). e.name.items) d) (ap (position (name_eq x)) (sym h) ∙ p)).2 k l

-- what is wrong with a name that isn't new, or is
pub name_twice : (dummies : List (List ℕ)) (before : List Entry) (x : List ℕ) → has_name x dummies ≡ true → has_name x (map (λ e. e.name) before) ≡ true → name_code dummies before x ≡ Some 3
name_twice dummies before x e f = ap (λ t. if not t then Some 2 else (if has_name x (map (λ e. e.name) before) then Some 3 else None)) e ∙ ap (λ t. if t then Some 3 else None) f

pub name_new : (dummies : List (List ℕ)) (before : List Entry) (x : List ℕ) → has_name x dummies ≡ true → has_name x (map (λ e. e.name) before) ≡ false → name_code dummies before x ≡ None
name_new dummies before x e f = ap (λ t. if not t then Some 2 else (if has_name x (map (λ e. e.name) before) then Some 3 else None)) e ∙ ap (λ t. if t then Some 3 else None) f

-- a number that was found in range is the item's
pub number_kept : (z n : ℤ) (b : Bool) → Some n ≡ (if b then Some z else None) → n ≡ z
number_kept z n true h = cc
number_kept z n false h = absurd cc
