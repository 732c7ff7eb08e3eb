-- Where all layouts of a block are equal, each unit has a member for each slot of the blocks that it uses.
use Rattle.std.proofs.Common.{◌≡◌, ℕ, zero, suc, ◌+◌, Bool, true, false, List, [], ◌∷◌, ◌++◌, refl, sym, ap, ◌∙◌, arith, if◌then◌else◌}
use Rattle.std.proofs.lemmas.List.{length-map, length-append}
use Rattle.std.specs.Prelude.{length, ◌||◌, Option, Some, None}
use Rattle.adj_tree.specs.Code.{name_eq, Declaration, Procedure}
use Rattle.adj_tree.proofs.Names.{name_refl}
use Rattle.def_meaning.specs.Apart.{has_name}
use Rattle.def_names.specs.Fresh.{fresh}
use Rattle.adj_tree.specs.Common.{Common, Shared}
use Rattle.def_common.specs.Blocks.{items_of, extents_in, declares, layout, blocks, first_declaring, uses, chosen, used_blocks}
use Rattle.def_common.specs.Members.{slot_name, Member, member_names, member_slots, own_items, own_members, found_members, block_members, slots_for, passed_members, members_from, members, taken_in}
use Rattle.law_common.specs.Lowers.{Each}
use Rattle.def_common.specs.Refused.{is_same_extent, found_layout, first_layout, layout_refusal}
use Rattle.law_common.specs.Refused.{AMemberForEach}
use Rattle.law_common.proofs.Refused.{laid_alike}
use Rattle.law_common.proofs.Keeping.{each_found}

-- some slots of a block in order
abbrev pub numbered : List ℕ → ℕ → ℕ → List (List ℕ)
numbered b i zero = []
numbered b i (suc n) = slot_name b i ∷ numbered b (suc i) n

numbered_append : (b : List ℕ) (i m n : ℕ) → numbered b i (m + n) ≡ numbered b i m ++ numbered b (i + m) n
numbered_append b i zero n =
    let e : i ≡ i + 0 = omega arith in
    let f : 0 + n ≡ n = omega arith in
    ap (numbered b i) f ∙ ap (λ z. numbered b z n) e
numbered_append b i (suc m) n =
    let e : suc i + m ≡ i + suc m = omega arith in
    let f : suc m + n ≡ suc (m + n) = omega arith in
    ap (numbered b i) f ∙ ap (λ l. slot_name b i ∷ l) (numbered_append b (suc i) m n ∙ ap (λ z. numbered b (suc i) m ++ numbered b z n) e)

pub slots_append : (l k : List Member) → member_slots (l ++ k) ≡ member_slots l ++ member_slots k
slots_append [] k = refl
slots_append (m ∷ l) k = ap (λ z. m.slot ∷ z) (slots_append l k)

item_slots : (u : Procedure) (b : List ℕ) (line i : ℕ) (ds : List Declaration) → member_slots (own_items u b line i ds) ≡ numbered b i (length ds)
item_slots u b line i [] = refl
item_slots u b line i (d ∷ ds) = ap (λ l. slot_name b i ∷ l) (item_slots u b line (suc i) ds)

own_slots : (u : Procedure) (b : List ℕ) (i : ℕ) (cs : List Common) → member_slots (own_members u b i cs) ≡ numbered b i (length (items_of b cs))
own_slots u b i [] = refl
own_slots u b i (c ∷ cs) = go (name_eq c.block b) (own_slots u b (i + length c.items) cs) (own_slots u b i cs)
  where
    go : (p : Bool) → member_slots (own_members u b (i + length c.items) cs) ≡ numbered b (i + length c.items) (length (items_of b cs)) → member_slots (own_members u b i cs) ≡ numbered b i (length (items_of b cs)) → member_slots (if p then own_items u b c.line i c.items ++ own_members u b (i + length c.items) cs else own_members u b i cs) ≡ numbered b i (length (if p then c.items ++ items_of b cs else items_of b cs))
    go true e f =
        slots_append (own_items u b c.line i c.items) (own_members u b (i + length c.items) cs)
        ∙ (λ z. item_slots u b c.line i c.items z ++ e z)
        ∙ sym (numbered_append b i (length c.items) (length (items_of b cs)))
        ∙ ap (numbered b i) (sym (length-append c.items (items_of b cs)))
    go false e f = f

pub first_slots : (b : List ℕ) (o : Option Shared) → member_slots (found_members b o) ≡ numbered b 1 (length (found_layout b o))
first_slots b None = refl
first_slots b (Some s) = own_slots s.unit b 1 s.commons ∙ ap (numbered b 1) (sym (length-map (items_of b s.commons) (extents_in s.unit)))

pub passed_slots : (line : ℕ) (taken : List (List ℕ)) (ms : List Member) → member_slots (passed_members line taken ms) ≡ member_slots ms
passed_slots line taken [] = refl
passed_slots line taken (m ∷ ms) = ap (λ l. m.slot ∷ l) (passed_slots line (fresh m.name taken ∷ taken) ms)

-- chosen blocks are some of them
has_more : (x y : List ℕ) (l : List (List ℕ)) → has_name x l ≡ true → has_name x (y ∷ l) ≡ true
has_more x y l h = go (name_eq x y)
  where
    go : (b : Bool) → (b || has_name x l) ≡ true
    go true = refl
    go false = h

each_more : (y : List ℕ) (l k : List (List ℕ)) → Each (λ b. has_name b l ≡ true) k → Each (λ b. has_name b (y ∷ l) ≡ true) k
each_more y l [] h = tt
each_more y l (x ∷ k) h = (has_more x y l h.0, each_more y l k h.1)

pub chosen_among : (f : List ℕ → Bool) (bs : List (List ℕ)) → Each (λ b. has_name b bs ≡ true) (chosen f bs)
chosen_among f [] = tt
chosen_among f (b ∷ bs) = go (f b) (each_more b bs (chosen f bs) (chosen_among f bs))
  where
    go : (p : Bool) → Each (λ c. has_name c (b ∷ bs) ≡ true) (chosen f bs) → Each (λ c. has_name c (b ∷ bs) ≡ true) (if p then b ∷ chosen f bs else chosen f bs)
    go true h = (ap (λ c. c || has_name b bs) (name_refl b), h)
    go false h = h

module _ (ps : List Shared) (s : Shared) (alike : (b : List ℕ) → has_name b (blocks ps) ≡ true → declares b s ≡ true → layout b s ≡ first_layout ps b) where
  pub own_slots_same : (b : List ℕ) → has_name b (blocks ps) ≡ true → declares b s ≡ true → member_slots (own_members s.unit b 1 s.commons) ≡ member_slots (found_members b (first_declaring b ps))
  own_slots_same b h d =
      own_slots s.unit b 1 s.commons ∙ ap (numbered b 1) (sym (length-map (items_of b s.commons) (extents_in s.unit)) ∙ ap length (alike b h d)) ∙ sym (first_slots b (first_declaring b ps))

  pub from_slots : (bs : List (List ℕ)) → Each (λ b. has_name b (blocks ps) ≡ true) bs → (taken : List (List ℕ)) → member_slots (members_from ps s taken bs) ≡ member_slots (block_members ps bs)
  from_slots [] h taken = refl
  from_slots (b ∷ bs) h taken = go (declares b s) refl (λ t. from_slots bs h.1 t)
    where
      join : (l : List Member) (t : List (List ℕ)) → member_slots l ≡ member_slots (found_members b (first_declaring b ps)) → member_slots (members_from ps s t bs) ≡ member_slots (block_members ps bs) → member_slots (l ++ members_from ps s t bs) ≡ member_slots (found_members b (first_declaring b ps) ++ block_members ps bs)
      join l t e f = slots_append l (members_from ps s t bs) ∙ (λ i. e i ++ f i) ∙ sym (slots_append (found_members b (first_declaring b ps)) (block_members ps bs))

      go : (p : Bool) → declares b s ≡ p → ((t : List (List ℕ)) → member_slots (members_from ps s t bs) ≡ member_slots (block_members ps bs)) →
          (let ms = if p then own_members s.unit b 1 s.commons else passed_members s.unit.line taken (found_members b (first_declaring b ps)) in
          member_slots (ms ++ members_from ps s (member_names ms ++ taken) bs)) ≡ member_slots (found_members b (first_declaring b ps) ++ block_members ps bs)
      go true d r = let ms = own_members s.unit b 1 s.commons in join ms (member_names ms ++ taken) (own_slots_same b h.0 d) (r (member_names ms ++ taken))
      go false d r = let ms = passed_members s.unit.line taken (found_members b (first_declaring b ps)) in join ms (member_names ms ++ taken) (passed_slots s.unit.line taken (found_members b (first_declaring b ps))) (r (member_names ms ++ taken))

pub a_member_for_each : AMemberForEach
a_member_for_each ps h name s e =
    from_slots ps s (λ b k d. ((each_found _ ps (laid_alike ps h b k) name s e).is d).0) (used_blocks ps s.unit.name) (chosen_among (uses ps s.unit.name) (blocks ps)) (taken_in ps s)

-- the same of all units
pub member_for : (ps : List Shared) → layout_refusal ps ≡ None → Each (λ s. member_slots (members ps s) ≡ slots_for ps s.unit.name) ps
member_for ps h = go ps (λ b k. laid_alike ps h b k)
  where
    go : (l : List Shared) → ((b : List ℕ) → has_name b (blocks ps) ≡ true → Each (λ s. declares b s ≡ true → (layout b s ≡ first_layout ps b) × Each (Each (λ e. is_same_extent e e ≡ true)) (layout b s)) l) → Each (λ s. member_slots (members ps s) ≡ slots_for ps s.unit.name) l
    go [] f = tt
    go (s ∷ l) f = (from_slots ps s (λ b k d. ((f b k).0 d).0) (used_blocks ps s.unit.name) (chosen_among (uses ps s.unit.name) (blocks ps)) (taken_in ps s), go l (λ b k. (f b k).1))
