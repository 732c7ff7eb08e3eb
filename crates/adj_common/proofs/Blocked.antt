-- The blocks of a text by their numbers: their names, and the first units that declare them.
use Rattle.std.proofs.Common.{◌≡◌, ℕ, zero, suc, ◌+◌, Bool, true, false, List, [], ◌∷◌, ◌++◌, length, map, Option, Some, None, refl, sym, ap, ◌∙◌, subst, arith, append_assoc, if◌then◌else◌}
use Rattle.std.specs.Prelude.{◌||◌}
use Rattle.std.specs.List.{slice_get}
use Rattle.adj_tree.specs.Code.{name_eq}
use Rattle.adj_tree.proofs.Names.{name_refl, name_same}
use Rattle.def_meaning.specs.Apart.{has_name}
use Rattle.adj_tree.specs.Common.{Common, Shared}
use Rattle.def_common.specs.Blocks.{all_blocks, blocks, without_repeats, declares, first_declaring}
use Rattle.def_common.specs.Members.{Member, own_members, found_members}
use Rattle.adj_common.specs.Entries.{Entry, OwnBlocks, block_names, AreOwn}
use Rattle.adj_common.specs.Texts.{TextBlocks, names_of_text, owners_from, text_blocks, first_of_row, at_place, first_place, name_of_block, first_unit}
use Rattle.adj_common.specs.Members.{group_in}
use Rattle.adj_common.proofs.Tabled.{places_from, once_has, tabled_is}
use Rattle.adj_common.proofs.Owned.{name_turned, own_entries, at_end, longer, when, group_own, bare, bare_own}

pub names_all : (ps : List Shared) → names_of_text ps ≡ all_blocks ps
names_all [] = refl
names_all (s ∷ ps) = ap (λ l. block_names s.commons ++ l) (names_all ps)

-- ---- the name of a block

-- where the name first stands, it is that name
first_named : (b : List ℕ) (front xs : List (List ℕ)) → has_name b xs ≡ true → at_place (front ++ xs) (first_of_row (Some (places_from (length front) xs b))) ≡ Some b
first_named b front [] h = cc
first_named b front (x ∷ xs) h =
    go (name_eq x b) refl (λ k. (λ i. at_place (sym (append_assoc front (x ∷ []) xs) i) (first_of_row (Some (places_from (sym (longer front x) i) xs b)))) ∙ first_named b (front ++ x ∷ []) xs k)
  where
    left : name_eq x b ≡ false → has_name b xs ≡ true
    left e = ap (λ c. c || has_name b xs) (sym (name_turned b x ∙ e)) ∙ h

    go : (p : Bool) → name_eq x b ≡ p → (has_name b xs ≡ true → at_place (front ++ x ∷ xs) (first_of_row (Some (places_from (suc (length front)) xs b))) ≡ Some b) → at_place (front ++ x ∷ xs) (first_of_row (Some (if p then length front ∷ places_from (suc (length front)) xs b else places_from (suc (length front)) xs b))) ≡ Some b
    go true e r = at_end front x xs ∙ ap Some (name_same x b e)
    go false e r = r (left e)

abbrev pub image : {A B : Type 0} → (A → B) → Option A → Option B
image f None = None
image f (Some a) = Some (f a)

pub get_image : {A B : Type 0} (f : A → B) (l : List A) (k : ℕ) → slice_get (map f l) k ≡ image f (slice_get l k)
get_image f [] k = refl
get_image f (a ∷ l) zero = refl
get_image f (a ∷ l) (suc k) = get_image f l k

has_got : (l : List (List ℕ)) (k : ℕ) (b : List ℕ) → slice_get l k ≡ Some b → has_name b l ≡ true
has_got [] k b e = cc
has_got (x ∷ l) zero b e = let same : x ≡ b = cc in ap (λ c. c || has_name b l) (ap (λ z. name_eq b z) same ∙ name_refl b)
has_got (x ∷ l) (suc k) b e = go (name_eq b x) (has_got l k b e)
  where
    go : (c : Bool) → has_name b l ≡ true → (c || has_name b l) ≡ true
    go true h = refl
    go false h = h

module _ (ps : List Shared) where
  abbrev t : TextBlocks
  t = text_blocks ps

  pub table_blocks : t.table.names ≡ blocks ps
  table_blocks = (tabled_is (names_of_text ps)).names ∙ ap (without_repeats []) (names_all ps)

  place_first : (k : ℕ) → first_place t k ≡ first_of_row (image (places_from 0 (names_of_text ps)) (slice_get t.table.names k))
  place_first k = ap (λ l. first_of_row (slice_get l k)) (tabled_is (names_of_text ps)).rows ∙ ap first_of_row (get_image (places_from 0 (names_of_text ps)) t.table.names k)

  has_text : (b : List ℕ) → has_name b t.table.names ≡ has_name b (names_of_text ps)
  has_text b = ap (has_name b) (tabled_is (names_of_text ps)).names ∙ once_has [] (names_of_text ps) b refl

  -- the k-th block is that of the number k
  pub block_named : (k : ℕ) → name_of_block t k ≡ slice_get (blocks ps) k
  block_named k = ap (at_place (names_of_text ps)) (place_first k) ∙ go (slice_get t.table.names k) refl ∙ ap (λ l. slice_get l k) table_blocks
    where
      go : (o : Option (List ℕ)) → slice_get t.table.names k ≡ o → at_place (names_of_text ps) (first_of_row (image (places_from 0 (names_of_text ps)) o)) ≡ slice_get t.table.names k
      go None e = sym e
      go (Some b) e = first_named b [] (names_of_text ps) (sym (has_text b) ∙ has_got t.table.names k b e) ∙ sym e

-- ---- the first unit that declares a block

abbrev pub first_owner : ℕ → List ℕ → List Shared → Option ℕ
first_owner i b [] = None
first_owner i b (s ∷ ss) = if declares b s then Some i else first_owner (suc i) b ss

-- over the statements of one unit
own_first : (i : ℕ) (b : List ℕ) (front : List ℕ) (cs : List Common) (more : List ℕ) (rest : List (List ℕ)) →
    at_place (front ++ (map (λ c. i) cs ++ more)) (first_of_row (Some (places_from (length front) (block_names cs ++ rest) b)))
    ≡ (if has_name b (block_names cs) then Some i else at_place (front ++ (map (λ c. i) cs ++ more)) (first_of_row (Some (places_from (length cs + length front) rest b))))
own_first i b front [] more rest = let e : length front ≡ 0 + length front = omega arith in ap (λ n. at_place (front ++ more) (first_of_row (Some (places_from n rest b)))) e
own_first i b front (c ∷ cs) more rest =
    go (name_eq c.block b) (name_turned b c.block)
    ((λ j. at_place (sym (append_assoc front (i ∷ []) (map (λ c. i) cs ++ more)) j) (first_of_row (Some (places_from (sym (longer front i) j) (block_names cs ++ rest) b))))
    ∙ own_first i b (front ++ i ∷ []) cs more rest
    ∙ (λ j. if has_name b (block_names cs) then Some i else at_place (append_assoc front (i ∷ []) (map (λ c. i) cs ++ more) j) (first_of_row (Some (places_from (count j) rest b)))))
  where
    count : length cs + length (front ++ i ∷ []) ≡ suc (length cs) + length front
    count = let l : length (front ++ i ∷ []) ≡ suc (length front) = longer front i in omega (arith, l)

    go : (p : Bool) → name_eq b c.block ≡ p →
        at_place (front ++ (i ∷ (map (λ c. i) cs ++ more))) (first_of_row (Some (places_from (suc (length front)) (block_names cs ++ rest) b))) ≡ (if has_name b (block_names cs) then Some i else at_place (front ++ (i ∷ (map (λ c. i) cs ++ more))) (first_of_row (Some (places_from (suc (length cs) + length front) rest b)))) →
        at_place (front ++ (i ∷ (map (λ c. i) cs ++ more))) (first_of_row (Some (if p then length front ∷ places_from (suc (length front)) (block_names cs ++ rest) b else places_from (suc (length front)) (block_names cs ++ rest) b)))
        ≡ (if name_eq b c.block || has_name b (block_names cs) then Some i else at_place (front ++ (i ∷ (map (λ c. i) cs ++ more))) (first_of_row (Some (places_from (suc (length cs) + length front) rest b))))
    go true e r = at_end front i (map (λ c. i) cs ++ more) ∙ ap (λ p. if p || has_name b (block_names cs) then Some i else at_place (front ++ (i ∷ (map (λ c. i) cs ++ more))) (first_of_row (Some (places_from (suc (length cs) + length front) rest b)))) (sym e)
    go false e r = r ∙ ap (λ p. if p || has_name b (block_names cs) then Some i else at_place (front ++ (i ∷ (map (λ c. i) cs ++ more))) (first_of_row (Some (places_from (suc (length cs) + length front) rest b)))) (sym e)

counted : (i : ℕ) (front : List ℕ) (cs : List Common) → length cs + length front ≡ length (front ++ map (λ c. i) cs)
counted i [] [] = refl
counted i [] (c ∷ cs) = let r = counted i [] cs in let e : suc (length cs) + 0 ≡ suc (length cs + 0) = omega arith in e ∙ ap suc r
counted i (x ∷ front) cs = let r = counted i front cs in let e : length cs + suc (length front) ≡ suc (length cs + length front) = omega arith in e ∙ ap suc r

owner_first : (b : List ℕ) (i : ℕ) (front : List ℕ) (ps : List Shared) → at_place (front ++ owners_from i ps) (first_of_row (Some (places_from (length front) (names_of_text ps) b))) ≡ first_owner i b ps
owner_first b i front [] = refl
owner_first b i front (s ∷ ps) =
    own_first i b front s.commons (owners_from (suc i) ps) (names_of_text ps)
    ∙ ap (λ o. if has_name b (block_names s.commons) then Some i else o)
    ((λ j. at_place (sym (append_assoc front (map (λ c. i) s.commons) (owners_from (suc i) ps)) j) (first_of_row (Some (places_from (counted i front s.commons j) (names_of_text ps) b))))
    ∙ owner_first b (suc i) (front ++ map (λ c. i) s.commons) ps)

-- ---- what it declares of it

-- the members that the first unit declares
abbrev pub entries_found : Option (List Entry) → List Member → Type 0
entries_found None ms = ms ≡ []
entries_found (Some es) ms = es ≡ map bare ms

first_found : (b : List ℕ) (front os : List OwnBlocks) (ps : List Shared) → AreOwn ps os → entries_found (group_in (at_place (front ++ os) (first_owner (length front) b ps)) b) (found_members b (first_declaring b ps))
first_found b front [] [] a = refl
first_found b front (o ∷ os) [] a = absurd a
first_found b front [] (s ∷ ps) a = absurd a
first_found b front (o ∷ os) (s ∷ ps) a =
    go (declares b s) refl
    (subst (λ l. entries_found (group_in (at_place l (first_owner (suc (length front)) b ps)) b) (found_members b (first_declaring b ps))) (append_assoc front (o ∷ []) os)
    (subst (λ n. entries_found (group_in (at_place ((front ++ o ∷ []) ++ os) (first_owner n b ps)) b) (found_members b (first_declaring b ps))) (longer front o) (first_found b (front ++ o ∷ []) os ps a.1)))
  where
    go : (p : Bool) → declares b s ≡ p → entries_found (group_in (at_place (front ++ o ∷ os) (first_owner (suc (length front)) b ps)) b) (found_members b (first_declaring b ps)) →
        entries_found (group_in (at_place (front ++ o ∷ os) (if p then Some (length front) else first_owner (suc (length front)) b ps)) b) (found_members b (if p then Some s else first_declaring b ps))
    go true e r =
        subst (λ z. entries_found z (own_members s.unit b 1 s.commons)) (sym (ap (λ z. group_in z b) (at_end front o os) ∙ group_own s o a.0 b ∙ ap (λ c. when c (own_entries o.declarations b s.commons)) e))
        (sym (bare_own o.declarations s.unit a.0.1 b 1 s.commons))
    go false e r = r

module _ (ps : List Shared) (os : List OwnBlocks) (a : AreOwn ps os) where
  -- of the block of a number, the first unit that declares it has the members of the definition
  pub first_members : (k : ℕ) (b : List ℕ) → slice_get (blocks ps) k ≡ Some b → entries_found (group_in (at_place os (first_unit (text_blocks ps) k)) b) (found_members b (first_declaring b ps))
  first_members k b e =
      subst (λ o. entries_found (group_in (at_place os o) b) (found_members b (first_declaring b ps)))
      (sym (ap (at_place (owners_from 0 ps)) (place_first ps k ∙ ap (λ o. first_of_row (image (places_from 0 (names_of_text ps)) o)) (ap (λ l. slice_get l k) (table_blocks ps) ∙ e)) ∙ owner_first b 0 [] ps))
      (first_found b [] os ps a)
