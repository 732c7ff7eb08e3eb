-- What a lowered call passes: names of members, and none where the unit isn't there that is called.
use Rattle.std.proofs.Common.{◌≡◌, ℕ, zero, suc, Bool, true, false, List, [], ◌∷◌, refl, sym, ap, ◌∙◌, if◌then◌else◌}
use Rattle.std.specs.Prelude.{◌||◌, length, Some, None}
use Rattle.adj_tree.specs.Code.{name_eq, Terms, none, more}
use Rattle.adj_tree.proofs.Names.{name_refl, name_same}
use Rattle.def_meaning.specs.Apart.{has_name}
use Rattle.def_meaning.proofs.Booleans.{or_false}
use Rattle.adj_tree.specs.Common.{Shared}
use Rattle.def_common.specs.Blocks.{declares, find_shared, blocks, calls_some, found_uses, uses_after, uses, chosen, used_blocks}
use Rattle.def_common.specs.Lowering.{behind}
use Rattle.def_common.specs.Members.{Member, names_of_block, names_of_blocks, unit_names}
use Rattle.law_common.specs.Lowers.{Each}
use Rattle.law_common.proofs.Laying.{each_append}

-- ---- names of members

module _ (P : List ℕ → Type 0) (ms : List Member) (each : Each (λ m. P m.name) ms) where
  of_block : (b : List ℕ) → Each P (names_of_block b ms)
  of_block b = go ms each
    where
      go : (l : List Member) → Each (λ m. P m.name) l → Each P (names_of_block b l)
      go [] h = tt
      go (m ∷ l) h = one (name_eq m.block b) (go l h.1)
        where
          one : (p : Bool) → Each P (names_of_block b l) → Each P (if p then m.name ∷ names_of_block b l else names_of_block b l)
          one true r = (h.0, r)
          one false r = r

  pub of_blocks : (bs : List (List ℕ)) → Each P (names_of_blocks ms bs)
  of_blocks [] = tt
  of_blocks (b ∷ bs) = each_append P (names_of_block b ms) (names_of_blocks ms bs) (of_block b) (of_blocks bs)

-- ---- a unit that isn't there uses no block

module _ (ps : List Shared) (name : List ℕ) (absent : find_shared ps name ≡ None) where
  none_used : (b : List ℕ) (k : ℕ) → uses_after ps b k name ≡ false
  none_used b zero = refl
  none_used b (suc k) = ap (found_uses (λ s. declares b s || calls_some (uses_after ps b k) s.unit.body)) absent

  none_chosen : (bs : List (List ℕ)) → chosen (uses ps name) bs ≡ []
  none_chosen [] = refl
  none_chosen (b ∷ bs) = ap (λ u. if u then b ∷ chosen (uses ps name) bs else chosen (uses ps name) bs) (none_used b (length ps)) ∙ none_chosen bs

  pub uses_none : used_blocks ps name ≡ []
  uses_none = none_chosen (blocks ps)

pub not_there : (ps : List Shared) (name : List ℕ) → has_name name (unit_names ps) ≡ false → find_shared ps name ≡ None
not_there [] name h = refl
not_there (p ∷ ps) name h =
    let o = or_false (name_eq name p.unit.name) (has_name name (unit_names ps)) h in
    ap (λ b. if b then Some p else find_shared ps name) (turned (name_eq p.unit.name name) refl o.0) ∙ not_there ps name o.1
  where
    turned : (b : Bool) → name_eq p.unit.name name ≡ b → name_eq name p.unit.name ≡ false → b ≡ false
    turned true e f = sym (ap (λ y. name_eq y p.unit.name) (sym (name_same p.unit.name name e)) ∙ name_refl p.unit.name) ∙ f
    turned false e f = refl

pub nothing_behind : (args : Terms) → behind args [] ≡ args
nothing_behind none = refl
nothing_behind (more e es) = ap (more e) (nothing_behind es)
