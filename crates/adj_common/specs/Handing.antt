-- What calls pass for blocks, by tables.
use Rattle.std.specs.Prelude.{ℕ, List, [], ◌∷◌, ◌++◌, Option, Some, None}
use Rattle.adj_tree.specs.Code.{plain, var, Terms, more, Act, assign, choose, loop, during, call, runtime, Code, stop, step}
use Rattle.def_common.specs.Lowering.{behind}
use Rattle.adj_symbols_writes.specs.Table.{value_of}
use Rattle.adj_common.specs.Texts.{TextBlocks, at_place, name_of_block}

pub record Tables : Type 0 where
  pub groups : List (List ℕ × ℕ)
  pub names : List (List (List ℕ))
  pub text : TextBlocks
  pub units : List (List ℕ × ℕ)
  pub used : List (List ℕ)

abbrev pub row_or : {A : Type 0} → Option (List A) → List A
row_or None = []
row_or (Some l) = l

-- the unit's names for the members of a block
abbrev pub group_names : Tables → List ℕ → List (List ℕ)
group_names t b = row_or (at_place t.names (value_of b t.groups))

abbrev pub names_for : Tables → Option (List ℕ) → List (List ℕ)
names_for t None = []
names_for t (Some b) = group_names t b

-- the numbers of the blocks that the unit of a name uses
abbrev pub used_row : Tables → List ℕ → List ℕ
used_row t name = row_or (at_place t.used (value_of name t.units))

abbrev pub names_of_row : Tables → List ℕ → List (List ℕ)
names_of_row t [] = []
names_of_row t (b ∷ bs) = names_for t (name_of_block t.text b) ++ names_of_row t bs

-- what a call of a unit passes
abbrev pub passed_names : Tables → List ℕ → List (List ℕ)
passed_names t name = names_of_row t (used_row t name)

-- ---- actuals in the other order

abbrev pub turned_before : List (List ℕ) → Terms → Terms
turned_before [] es = es
turned_before (x ∷ xs) es = turned_before xs (more (var (plain x)) es)

abbrev pub turned_rows : Tables → List ℕ → Terms → Terms
turned_rows t [] es = es
turned_rows t (b ∷ bs) es = turned_rows t bs (turned_before (names_for t (name_of_block t.text b)) es)

-- ---- statements

abbrev mutual
  pub handed_act : (List ℕ → List (List ℕ)) → Act → Act
  handed_act f (assign x subs e) = assign x subs e
  handed_act f (choose c a b) = choose c (handed_code f a) (handed_code f b)
  handed_act f (loop x first last by body m) = loop x first last by (handed_code f body) m
  handed_act f (during c body) = during c (handed_code f body)
  handed_act f (call name args) = call name (behind args (f name))
  handed_act f (runtime r) = runtime r

  -- each call passes what stands for its name
  pub handed_code : (List ℕ → List (List ℕ)) → Code → Code
  handed_code f stop = stop
  handed_code f (step line a rest) = step line (handed_act f a) (handed_code f rest)
