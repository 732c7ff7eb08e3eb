-- Inputs over words with columns fit where the input does.
use Rattle.std.proofs.Common.{◌≡◌, ℕ, suc, ◌+◌, Bool, true, false, List, [], ◌∷◌, map, length, refl, ap, ◌∙◌}
use Rattle.std.specs.Prelude.{ℤ}
use Rattle.adj_tree.specs.Code.{Procedure}
use Rattle.def_meaning.specs.Numbers.{words}
use Rattle.def_meaning.specs.Seen.{Projects}
use Rattle.def_meaning.specs.Units.{Slot, fits}
use Rattle.def_jacobian.specs.Inputs.{as_columns, by_columns}
use Rattle.law_jacobian.proofs.Runs.{input_seen}
use Rattle.adj_interp.proofs.Tangents.{fits_seen}
use Rattle.adj_jacobian_block.specs.declared.block.Block.{Block}
use Rattle.adj_jacobian_block.specs.Blocks.{blocks, own_in}
use Rattle.adj_jacobian_few.specs.declared.few.Few.{Few}
use Rattle.adj_jacobian_few.specs.Few.{few, own_few}

same_cells : (zs : List ℤ) → map (λ z. z) zs ≡ zs
same_cells [] = refl
same_cells (z ∷ zs) = ap (λ rest. z ∷ rest) (same_cells zs)

same_columns : (zs : List ℤ) (j : ℕ) → as_columns (λ z i. z) zs j ≡ zs
same_columns [] j = refl
same_columns (z ∷ zs) j = ap (λ rest. z ∷ rest) (same_columns zs (suc j))

-- an input whose columns are forgotten
same_input : (vars : List Bool) (vs : List (Slot ℤ)) (j : ℕ) → by_columns (λ z. z) (λ z i. z) vars vs j ≡ vs
same_input vars [] j = refl
same_input [] (v ∷ vs) j = λ i. record { shape = v.shape; cells = same_cells v.cells i } ∷ same_input [] vs j i
same_input (true ∷ vars) (v ∷ vs) j = λ i. record { shape = v.shape; cells = same_columns v.cells j i } ∷ same_input vars vs (j + length v.cells) i
same_input (false ∷ vars) (v ∷ vs) j = λ i. record { shape = v.shape; cells = same_cells v.cells i } ∷ same_input vars vs j i

-- words with masks, and with few columns, do as words
without_masks : Projects (λ (b : Block). b.value) blocks words
without_masks = record { of_word = λ z. refl; shown = λ a. refl; negation = λ a. refl; sum = λ a b. refl; difference = λ a b. refl; product = λ a b. refl; raised_to = λ a k. refl }

without_lists : Projects (λ (b : Few). b.value) few words
without_lists = record { of_word = λ z. refl; shown = λ a. refl; negation = λ a. refl; sum = λ a b. refl; difference = λ a b. refl; product = λ a b. refl; raised_to = λ a k. refl }

pub block_fits : (k : ℕ) (u : Procedure) (vars : List Bool) (vs : List (Slot ℤ)) → fits words u vs ≡ true → fits blocks u (by_columns blocks.of_word (own_in k) vars vs 0) ≡ true
block_fits k u vars vs h =
    fits_seen (λ (b : Block). b.value) blocks words without_masks u (by_columns blocks.of_word (own_in k) vars vs 0)
    ∙ ap (fits words u) (input_seen (λ (b : Block). b.value) blocks.of_word (own_in k) vars vs 0 ∙ same_input vars vs 0)
    ∙ h

pub few_fits : (u : Procedure) (vars : List Bool) (vs : List (Slot ℤ)) → fits words u vs ≡ true → fits few u (by_columns few.of_word own_few vars vs 0) ≡ true
few_fits u vars vs h =
    fits_seen (λ (b : Few). b.value) few words without_lists u (by_columns few.of_word own_few vars vs 0)
    ∙ ap (fits words u) (input_seen (λ (b : Few). b.value) few.of_word own_few vars vs 0 ∙ same_input vars vs 0)
    ∙ h
