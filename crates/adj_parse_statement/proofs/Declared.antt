-- Declared: the items of a declaration are judged part by part.
use Rattle.std.proofs.Common.{◌≡◌, ℕ, Bool, true, false, ◌||◌, List, [], ◌∷◌, ◌++◌, map, length, Option, Some, None, option_map, Result, Ok, refl, sym, ap, ◌∙◌}
use Rattle.std.specs.List.{list_any}
use Rattle.std.proofs.lemmas.List.{map_push}
use Rattle.adj_tree.specs.Code.{Extent}
use Rattle.def_text.specs.Machine.{chosen}
use Rattle.def_text.specs.Statement.{Item}
use Rattle.def_text.specs.Lexeme.{Lexeme}
use Rattle.adj_parse_expression.specs.Judged.{judged_by}
use Rattle.adj_parse_expression.specs.View.{seen}
use Rattle.adj_parse_expression.specs.declared.flaw.Flaw.{Flaw}
use Rattle.adj_parse_statement.specs.Flaws.{with_part}
use Rattle.adj_parse_statement.specs.Phrase.{Size, Declared}
use Rattle.adj_parse_statement.specs.Phrases.{Read, read_as, ◌>>=◌, name_at, behind_left, behind_right, behind_comma, members, members_behind, with_last, ended, size_at, second_size, read_sizes, item_behind, read_item, read_items}
use Rattle.adj_parse_statement.specs.Said.{size_large, item_large, extent, item}
use Rattle.adj_parse_statement.specs.Fronts.{front_list, judged_size, judged_sizes, judged_item, judged_items, front_size, front_sizes, front_extents, front_item}
use Rattle.adj_parse_statement.proofs.Judging.{with_part-judged, seen-judged}
use Rattle.adj_parse_statement.proofs.Members.{members-seen}

-- a test of a list with one more
list_any-push : {A : Type 0} (p : A → Bool) (xs : List A) (x : A) → list_any p (xs ++ x ∷ []) ≡ (list_any p xs || p x)
list_any-push p [] x = or_false (p x)
  where
    or_false : (b : Bool) → (b || false) ≡ b
    or_false true = refl
    or_false false = refl
list_any-push p (y ∷ xs) x = go (p y) (list_any-push p xs x)
  where
    go : (b : Bool) → list_any p (xs ++ x ∷ []) ≡ (list_any p xs || p x) → (b || list_any p (xs ++ x ∷ [])) ≡ ((b || list_any p xs) || p x)
    go true h = refl
    go false h = h

-- members that are judged by their literals alone
judged-push : {A B : Type 0} (large : A → Bool) (made : A → B) (xs : List A) (x : A) → with_part (judged_by (list_any large xs) false (Some (map made xs))) (judged_by (large x) false (Some (made x))) ≡ judged_by (list_any large (xs ++ x ∷ [])) false (Some (map made (xs ++ x ∷ [])))
judged-push {A} {B} large made xs x =
    with_part-judged (list_any large xs) false (Some (map made xs)) (large x) false (Some (made x)) ∙ sym (ap (λ (b : Bool). judged_by b false (Some (map made xs ++ made x ∷ []))) (list_any-push large xs x)) ∙ sym (ap (λ (ys : List B). judged_by (list_any large (xs ++ x ∷ [])) false (Some ys)) (map_push made xs x))

pub judged_sizes-push : (ss : List Size) (s : Size) → with_part (judged_sizes ss) (judged_size s) ≡ judged_sizes (with_last ss s)
judged_sizes-push ss s = judged-push size_large extent ss s

pub judged_items-push : (is : List Declared) (i : Declared) → with_part (judged_items is) (judged_item i) ≡ judged_items (with_last is i)
judged_items-push is i = judged-push item_large item is i

-- the extents of an item are one, or one and another
pub front_sizes_on : (ws : List Lexeme) → front_sizes ws ≡ (front_size ws >>= λ a. chosen (behind_comma a.1) (λ us. read_as (with_part (with_part (Ok []) a.0)) (front_size us)) (Some (with_part (Ok []) a.0, a.1)))
unfolding front_sizes front_size read_sizes
front_sizes_on ws = first (size_at ws)
  where
    second : (a : Size) (rest : List Lexeme) (o : Read Size) → read_as judged_sizes (option_map (λ b. (a ∷ b.0 ∷ [], b.1)) o) ≡ read_as (with_part (with_part (Ok []) (judged_size a))) (read_as judged_size o)
    second a rest None = refl
    second a rest (Some b) = ap (λ (r : Result (List Extent) Flaw). Some (r, b.1)) (sym (ap (λ (r : Result (List Extent) Flaw). with_part r (judged_size b.0)) (judged_sizes-push [] a) ∙ judged_sizes-push (a ∷ []) b.0))

    behind : (a : Size) (rest : List Lexeme) (o : Option (List Lexeme)) → read_as judged_sizes (second_size a rest o) ≡ chosen o (λ us. read_as (with_part (with_part (Ok []) (judged_size a))) (read_as judged_size (size_at us))) (Some (with_part (Ok []) (judged_size a), rest))
    behind a rest None = ap (λ (r : Result (List Extent) Flaw). Some (r, rest)) (sym (judged_sizes-push [] a))
    behind a rest (Some us) = second a rest (size_at us)

    first : (o : Read Size) → read_as judged_sizes (o >>= λ a. second_size a.0 a.1 (behind_comma a.1)) ≡ (read_as judged_size o >>= λ a. chosen (behind_comma a.1) (λ us. read_as (with_part (with_part (Ok []) a.0)) (read_as judged_size (size_at us))) (Some (with_part (Ok []) a.0, a.1)))
    first None = refl
    first (Some a) = behind a.0 a.1 (behind_comma a.1)

-- a declared name has the extents behind it
pub front_item_on : (ws : List Lexeme) → front_item ws ≡ (name_at ws >>= λ x. read_as (seen (λ extents. record { name = x.0; extents = extents })) (front_extents x.1))
unfolding front_item front_extents front_sizes read_item
front_item_on ws = first (name_at ws)
  where
    closed : (x : List ℕ) (s : List Size) (o : Option (List Lexeme)) → read_as judged_item (o >>= λ us. Some (record { name = x; sizes = s }, us)) ≡ read_as (seen (λ extents. record { name = x; extents = extents })) (option_map (λ rest. (judged_sizes s, rest)) o)
    closed x s None = refl
    closed x s (Some rest) = ap (λ (r : Result Item Flaw). Some (r, rest)) (sym (seen-judged (λ extents. record { name = x; extents = extents }) (list_any size_large s) false (Some (map extent s))))

    inner : (x : List ℕ) (o : Read (List Size)) → read_as judged_item (o >>= λ s. behind_right s.1 >>= λ us. Some (record { name = x; sizes = s.0 }, us)) ≡ read_as (seen (λ extents. record { name = x; extents = extents })) (read_as judged_sizes o >>= λ s. option_map (λ rest. (s.0, rest)) (behind_right s.1))
    inner x None = refl
    inner x (Some s) = closed x s.0 (behind_right s.1)

    behind : (x : List ℕ) (rest : List Lexeme) (o : Option (List Lexeme)) → read_as judged_item (item_behind x rest o) ≡ read_as (seen (λ extents. record { name = x; extents = extents })) (chosen o (λ us. read_as judged_sizes (read_sizes us) >>= λ s. option_map (λ rest. (s.0, rest)) (behind_right s.1)) (Some (Ok [], rest)))
    behind x rest None = refl
    behind x rest (Some us) = inner x (read_sizes us)

    first : (o : Read (List ℕ)) → read_as judged_item (o >>= λ x. item_behind x.0 x.1 (behind_left x.1)) ≡ (o >>= λ x. read_as (seen (λ extents. record { name = x.0; extents = extents })) (chosen (behind_left x.1) (λ us. read_as judged_sizes (read_sizes us) >>= λ s. option_map (λ rest. (s.0, rest)) (behind_right s.1)) (Some (Ok [], x.1))))
    first None = refl
    first (Some x) = behind x.0 x.1 (behind_left x.1)

-- the items of a declaration are those of its list, where that ends the lexemes
pub judged_items_on : (ws : List Lexeme) → option_map judged_items (read_items ws) ≡ (front_list front_item ws >>= λ r. ended r.0 r.1)
unfolding read_items front_list front_item members_behind
judged_items_on ws = first (read_item ws)
  where
    whole : (is : List Declared) (rest : List Lexeme) → option_map judged_items (ended is rest) ≡ ended (judged_items is) rest
    whole is [] = refl
    whole is (w ∷ rest) = refl

    last : (o : Read (List Declared)) → option_map judged_items (o >>= λ r. ended r.0 r.1) ≡ (read_as judged_items o >>= λ r. ended r.0 r.1)
    last None = refl
    last (Some r) = whole r.0 r.1

    first : (o : Read Declared) → option_map judged_items (o >>= λ i. members with_last read_item (length i.1) (i.0 ∷ []) i.1 >>= λ r. ended r.0 r.1) ≡ ((read_as judged_item o >>= λ m. members with_part (λ us. read_as judged_item (read_item us)) (length m.1) (with_part (Ok []) m.0) m.1) >>= λ r. ended r.0 r.1)
    first None = refl
    first (Some i) =
        last (members with_last read_item (length i.1) (i.0 ∷ []) i.1)
        ∙ ap (λ (r : Read (Result (List Item) Flaw)). r >>= λ r. ended r.0 r.1) (sym (ap (λ (b : Result (List Item) Flaw). members with_part (λ us. read_as judged_item (read_item us)) (length i.1) b i.1) (judged_items-push [] i.0) ∙ members-seen with_last with_part read_item judged_item judged_items judged_items-push (length i.1) (i.0 ∷ []) i.1))
