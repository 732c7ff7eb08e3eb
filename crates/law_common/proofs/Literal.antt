-- Where all layouts of a block are equal, they are literal.
use Rattle.std.proofs.Common.{◌≡◌, ℕ, suc, ◌+◌, Bool, true, false, List, [], ◌∷◌, ◌++◌, map, refl, ap, subst, if◌then◌else◌}
use Rattle.std.proofs.lemmas.List.{map-append}
use Rattle.std.specs.Prelude.{◌||◌, ◌==◌, length, Some, None}
use Rattle.adj_tree.specs.Code.{name_eq, Extent, fixed, given, Declaration, Procedure}
use Rattle.def_meaning.specs.Apart.{has_name}
use Rattle.def_meaning.specs.Units.{shape_of, shape_fits}
use Rattle.adj_tree.specs.Common.{Common, Shared}
use Rattle.def_common.specs.Blocks.{items_of, extents_in, declares, layout, blocks, first_declaring, uses, used_blocks}
use Rattle.def_common.specs.Members.{Member, own_items, own_members, found_members, block_members}
use Rattle.law_common.specs.Lowers.{Each, literals, IsLaidOut}
use Rattle.def_common.specs.Refused.{is_same_extent, first_layout, layout_refusal}
use Rattle.law_common.proofs.Laying.{each_append, each_front, each_behind}
use Rattle.law_common.proofs.Refused.{laid_alike}
use Rattle.law_common.proofs.Slotted.{chosen_among}

abbrev pub IsLiteral : List Extent → Type 0
IsLiteral es = Each (λ e. is_same_extent e e ≡ true) es

literal : (es : List Extent) → IsLiteral es → es ≡ map fixed (literals es)
literal [] h = refl
literal (fixed z ∷ es) h = ap (λ l. fixed z ∷ l) (literal es h.1)
literal (given x ∷ es) h = absurd (let z : false ≡ true = h.0 in cc)

items_literal : (u : Procedure) (b : List ℕ) (line i : ℕ) (ds : List Declaration) → Each IsLiteral (map (extents_in u) ds) → Each (λ m. IsLiteral m.extents) (own_items u b line i ds)
items_literal u b line i [] h = tt
items_literal u b line i (d ∷ ds) h = (h.0, items_literal u b line (suc i) ds h.1)

own_literal : (u : Procedure) (b : List ℕ) (i : ℕ) (cs : List Common) → Each IsLiteral (map (extents_in u) (items_of b cs)) → Each (λ m. IsLiteral m.extents) (own_members u b i cs)
own_literal u b i [] h = tt
own_literal u b i (c ∷ cs) h = go (name_eq c.block b) h (own_literal u b (i + length c.items) cs) (own_literal u b i cs)
  where
    go : (p : Bool) → Each IsLiteral (map (extents_in u) (if p then c.items ++ items_of b cs else items_of b cs)) → (Each IsLiteral (map (extents_in u) (items_of b cs)) → Each (λ m. IsLiteral m.extents) (own_members u b (i + length c.items) cs)) → (Each IsLiteral (map (extents_in u) (items_of b cs)) → Each (λ m. IsLiteral m.extents) (own_members u b i cs)) →
        Each (λ m. IsLiteral m.extents) (if p then own_items u b c.line i c.items ++ own_members u b (i + length c.items) cs else own_members u b i cs)
    go true h f g =
        let k = subst (Each IsLiteral) (map-append (extents_in u) c.items (items_of b cs)) h in
        each_append (λ m. IsLiteral m.extents) (own_items u b c.line i c.items) (own_members u b (i + length c.items) cs)
        (items_literal u b c.line i c.items (each_front IsLiteral (map (extents_in u) c.items) (map (extents_in u) (items_of b cs)) k)) (f (each_behind IsLiteral (map (extents_in u) c.items) (map (extents_in u) (items_of b cs)) k))
    go false h f g = g h

first_literal : (ps : List Shared) (b : List ℕ) (l : List Shared) → Each (λ s. declares b s ≡ true → (layout b s ≡ first_layout ps b) × Each IsLiteral (layout b s)) l → Each (λ m. IsLiteral m.extents) (found_members b (first_declaring b l))
first_literal ps b [] h = tt
first_literal ps b (s ∷ l) h = go (declares b s) refl (first_literal ps b l h.1)
  where
    go : (p : Bool) → declares b s ≡ p → Each (λ m. IsLiteral m.extents) (found_members b (first_declaring b l)) → Each (λ m. IsLiteral m.extents) (found_members b (if p then Some s else first_declaring b l))
    go true e r = own_literal s.unit b 1 s.commons (h.0 e).1
    go false e r = r

pub blocks_literal : (ps : List Shared) → layout_refusal ps ≡ None → (bs : List (List ℕ)) → Each (λ b. has_name b (blocks ps) ≡ true) bs → Each (λ m. IsLiteral m.extents) (block_members ps bs)
blocks_literal ps h [] k = tt
blocks_literal ps h (b ∷ bs) k = each_append (λ m. IsLiteral m.extents) (found_members b (first_declaring b ps)) (block_members ps bs) (first_literal ps b ps (laid_alike ps h b k.0)) (blocks_literal ps h bs k.1)

both : (ms : List Member) → Each (λ m. IsLiteral m.extents) ms → Each (λ m. (length (literals m.extents) == 0 || shape_fits (literals m.extents) (shape_of (literals m.extents))) ≡ true) ms → Each (λ m. IsLaidOut m.extents) ms
both [] h k = tt
both (m ∷ ms) h k = ((literal m.extents h.0, k.0), both ms h.1 k.1)

-- so extents that fit are laid out
pub laid_out : (ps : List Shared) → layout_refusal ps ≡ None → (name : List ℕ) → Each (λ m. (length (literals m.extents) == 0 || shape_fits (literals m.extents) (shape_of (literals m.extents))) ≡ true) (block_members ps (used_blocks ps name)) → Each (λ m. IsLaidOut m.extents) (block_members ps (used_blocks ps name))
laid_out ps h name k = both (block_members ps (used_blocks ps name)) (blocks_literal ps h (used_blocks ps name) (chosen_among (uses ps name) (blocks ps))) k
