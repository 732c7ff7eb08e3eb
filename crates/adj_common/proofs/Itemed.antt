-- Items of members, found by the numbers of their names.
use Rattle.std.proofs.Common.{◌≡◌, ℕ, suc, ◌+◌, Bool, true, false, List, [], ◌∷◌, ◌++◌, length, Some, None, refl, sym, ap, ◌∙◌, arith, append_assoc, if◌then◌else◌}
use Rattle.std.specs.Prelude.{◌==◌}
use Rattle.std.specs.Option.{option_or}
use Rattle.adj_tree.specs.Code.{name_eq, Extent, Declaration}
use Rattle.adj_symbols_writes.specs.Table.{value_of, with_value}
use Rattle.adj_common.specs.Texts.{at_place}
use Rattle.adj_common.specs.Entries.{Entry}
use Rattle.adj_common.specs.Members.{item_of, item_at, item_by, with_item}
use Rattle.adj_common.proofs.Owned.{name_turned, at_end, longer}
use Rattle.adj_common.proofs.Passed.{value_more}

-- the numbers of members from one on, the first of a name counting
abbrev pub numbered : List (List ℕ × ℕ) → ℕ → List Entry → List (List ℕ × ℕ)
numbered ns k [] = ns
numbered ns k (e ∷ es) = numbered (with_value ns e.name k) (k + 1) es

-- a name keeps its number
kept : (ns : List (List ℕ × ℕ)) (k : ℕ) (es : List Entry) (x : List ℕ) (n : ℕ) → value_of x ns ≡ Some n → value_of x (numbered ns k es) ≡ Some n
kept ns k [] x n h = h
kept ns k (e ∷ es) x n h = kept (with_value ns e.name k) (k + 1) es x n (value_more ns e.name k x ∙ ap (λ o. option_or o (if name_eq x e.name then Some k else None)) h)

item_found : (front es : List Entry) (ns : List (List ℕ × ℕ)) (x : List ℕ) → value_of x ns ≡ None → item_at (at_place (front ++ es) (value_of x (numbered ns (length front) es))) ≡ item_of es x
item_found front [] ns x h = ap (λ o. item_at (at_place (front ++ []) o)) h
item_found front (e ∷ es) ns x h = go (name_eq x e.name) refl (item_found (front ++ e ∷ []) es (with_value ns e.name (length front)) x)
  where
    known : value_of x (with_value ns e.name (length front)) ≡ (if name_eq x e.name then Some (length front) else None)
    known = value_more ns e.name (length front) x ∙ ap (λ o. option_or o (if name_eq x e.name then Some (length front) else None)) h

    one_more : length front + 1 ≡ length (front ++ e ∷ [])
    one_more = let q : length front + 1 ≡ suc (length front) = omega arith in q ∙ sym (longer front e)

    Later : Type 0
    Later = value_of x (with_value ns e.name (length front)) ≡ None → item_at (at_place ((front ++ e ∷ []) ++ es) (value_of x (numbered (with_value ns e.name (length front)) (length (front ++ e ∷ [])) es))) ≡ item_of es x

    go : (p : Bool) → name_eq x e.name ≡ p → Later → item_at (at_place (front ++ e ∷ es) (value_of x (numbered (with_value ns e.name (length front)) (length front + 1) es))) ≡ (if name_eq e.name x then e.item else item_of es x)
    go true q later =
        ap (λ o. item_at (at_place (front ++ e ∷ es) o)) (kept (with_value ns e.name (length front)) (length front + 1) es x (length front) (known ∙ ap (λ b. if b then Some (length front) else None) q))
        ∙ ap item_at (at_end front e es)
        ∙ ap (λ b. if b then e.item else item_of es x) (sym (name_turned e.name x ∙ q))
    go false q later =
        (λ i. item_at (at_place (sym (append_assoc front (e ∷ []) es) i) (value_of x (numbered (with_value ns e.name (length front)) (one_more i) es))))
        ∙ later (known ∙ ap (λ b. if b then Some (length front) else None) q)
        ∙ ap (λ b. if b then e.item else item_of es x) (sym (name_turned e.name x ∙ q))

-- by the numbers of all members each name has the item of the first that has it
pub items_numbered : (es : List Entry) → item_by (numbered [] 0 es) es ≡ item_of es
items_numbered es = λ i x. item_found [] es [] x refl i

-- ---- declarations that take items

pub item_taken : (es : List Entry) (d : Declaration) (l : List Extent) → (length d.extents == 0) ≡ true → l ≡ item_of es d.name → record d { extents = l } ≡ with_item es d
item_taken es d l none is = ap (λ l. record d { extents = l }) is ∙ ap (λ b. if b then record d { extents = item_of es d.name } else d) (sym none)

pub item_left : (es : List Entry) (d e : Declaration) → (length d.extents == 0) ≡ false → e ≡ d → e ≡ with_item es d
item_left es d e some is = is ∙ ap (λ b. if b then record d { extents = item_of es d.name } else d) (sym some)
