-- What was made of rows, names, extents and units so far.
use Rattle.std.proofs.Common.{◌≡◌, ℕ, zero, suc, ◌<◌, ◌≤◌, Bool, true, false, List, [], ◌∷◌, ◌++◌, length, map, get_or, set, Some, None, refl, sym, ap, ◌∙◌, append_assoc, arith}
use Rattle.std.specs.Prelude.{◌≢◌, ◌&&◌, position}
use Rattle.std.specs.List.{slice_get}
use Rattle.std.proofs.lemmas.Option.{slice_get_past}
use Rattle.adj_tree.specs.Code.{name_eq, Extent, Declaration}
use Rattle.adj_tree.specs.Common.{Shared}
use Rattle.def_common.specs.Refused.{is_same_extent, are_same_extents, is_same_layout}
use Rattle.adj_common.specs.Tables.{Table, add_at, tabled, beside}
use Rattle.adj_common.specs.Entries.{Entry, OwnBlocks, block_names, entries_of_row, line_of_row, Declares, IsOwn, AreOwn}
use Rattle.adj_common.specs.Texts.{at_place}
use Rattle.adj_common.proofs.Finding.{beside_at}

-- ---- rows of places

-- the row at a place has one more
pub added_at : {X : Type 0} (items : X → List ℕ) (rs : List X) (at k : ℕ) (v r : X) → at < length rs → v ≡ get_or rs at v → items r ≡ items v ++ k ∷ [] → map items (set rs at r) ≡ add_at at k (map items rs)
added_at items [] at k v r lt is e = absurd (omega arith)
added_at items (x ∷ rs) zero k v r lt is e = ap (λ z. z ∷ map items rs) (e ∙ ap (λ z. items z ++ k ∷ []) is)
added_at items (x ∷ rs) (suc at) k v r lt is e = ap (λ z. items x ∷ z) (added_at items rs at k v r (omega arith) is e)

-- where there is none, nothing is added
pub added_past : (rs : List (List ℕ)) (at k : ℕ) → length rs ≤ at → add_at at k rs ≡ rs
added_past [] at k le = refl
added_past (r ∷ rs) zero k le = absurd (omega arith)
added_past (r ∷ rs) (suc at) k le = ap (λ z. r ∷ z) (added_past rs at k (omega arith))

-- what stands beside a name, by its place
pub beside_placed : {A : Type 0} (ns : List (List ℕ)) (l : List A) (x : List ℕ) (at : ℕ) (a : A) → Some at ≡ position (name_eq x) ns → slice_get l at ≡ Some a → beside ns l x ≡ Some a
beside_placed ns l x at a p is = sym (beside_at ns l x) ∙ ap (at_place l) (sym p) ∙ is

pub beside_past : {A : Type 0} (ns : List (List ℕ)) (l : List A) (x : List ℕ) (at : ℕ) → Some at ≡ position (name_eq x) ns → length l ≤ at → beside ns l x ≡ None
beside_past ns l x at p le = sym (beside_at ns l x) ∙ ap (at_place l) (sym p) ∙ slice_get_past l at le

pub beside_nothing : {A : Type 0} (ns : List (List ℕ)) (l : List A) (x : List ℕ) → None ≡ position (name_eq x) ns → beside ns l x ≡ None
beside_nothing ns l x p = sym (beside_at ns l x) ∙ ap (at_place l) (sym p)

-- ---- names

-- what was added to nothing in five steps
pub joined_five : {A : Type 0} (none one two three four five a b c d e : List A) → none ≡ [] → one ≡ none ++ a → two ≡ one ++ b → three ≡ two ++ c → four ≡ three ++ d → five ≡ four ++ e → five ≡ a ++ (b ++ (c ++ (d ++ e)))
joined_five none one two three four five a b c d e h p q r s t =
    t
    ∙ ap (λ z. z ++ e) (s ∙ ap (λ z. z ++ d) (r ∙ ap (λ z. z ++ c) (q ∙ ap (λ z. z ++ b) (p ∙ ap (λ z. z ++ a) h))))
    ∙ append_assoc ((a ++ b) ++ c) d e
    ∙ append_assoc (a ++ b) c (d ++ e)
    ∙ append_assoc a b (c ++ (d ++ e))

-- ---- extents

no_both : (b : Bool) → (b && false) ≡ false
no_both true = refl
no_both false = refl

-- lists of other lengths are not the same
pub length_differs : (ds es : List Extent) → length ds ≢ length es → are_same_extents ds es ≡ false
length_differs [] [] n = absurd (n refl)
length_differs [] (e ∷ es) n = refl
length_differs (d ∷ ds) [] n = refl
length_differs (d ∷ ds) (e ∷ es) n = ap (λ b. is_same_extent d e && b) (length_differs ds es (λ q. n (ap suc q))) ∙ no_both (is_same_extent d e)

-- the same of layouts
pub layout_differs : (ds es : List (List Extent)) → length ds ≢ length es → is_same_layout ds es ≡ false
layout_differs [] [] n = absurd (n refl)
layout_differs [] (e ∷ es) n = refl
layout_differs (d ∷ ds) [] n = refl
layout_differs (d ∷ ds) (e ∷ es) n = ap (λ b. are_same_extents d e && b) (layout_differs ds es (λ q. n (ap suc q))) ∙ no_both (are_same_extents d e)

-- ---- the blocks of units

-- the table of a unit
pub own_made : (ds : List Declaration) (s : Shared) (t : Table) (gs : List (List Entry)) (ls : List ℕ) → t ≡ tabled (block_names s.commons) → gs ≡ map (entries_of_row ds s.commons) t.rows → ls ≡ map (line_of_row s.unit.line s.commons) t.rows → Declares ds s → IsOwn s (record { declarations = ds; names = t.names; groups = gs; lines = ls })
own_made ds s t gs ls e g l d =
    let groups = g ∙ ap (λ z. map (entries_of_row ds s.commons) z.rows) e in
    let lines = l ∙ ap (λ z. map (line_of_row s.unit.line s.commons) z.rows) e in
    ((λ i. record { declarations = ds; names = (e i).names; groups = groups i; lines = lines i }), d)

-- one unit more
pub own_push : (ss : List Shared) (os : List OwnBlocks) (s : Shared) (o : OwnBlocks) → AreOwn ss os → IsOwn s o → AreOwn (ss ++ s ∷ []) (os ++ o ∷ [])
own_push [] [] s o h is = (is, tt)
own_push [] (p ∷ os) s o h is = absurd h
own_push (r ∷ ss) [] s o h is = absurd h
own_push (r ∷ ss) (p ∷ os) s o h is = (h.0, own_push ss os s o h.1 is)
