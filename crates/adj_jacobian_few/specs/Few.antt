-- Words with few columns.
use Rattle.std.specs.Prelude.{◌≡◌, ℕ, zero, suc, ◌^◌, nat_lt, nat_le, ℤ, List, [], ◌∷◌, length, take, Option, Some, None, if◌then◌else◌}
use Rattle.adj_word.specs.Word.{add, sub, mul, negated, power}
use Rattle.def_meaning.specs.Numbers.{Numbers}
use Rattle.def_meaning.specs.Scene.{Outcome, Done, Trapped, More, Full}
use Rattle.def_meaning.specs.Units.{Output, run_unit}
use Rattle.def_jacobian.specs.Columns.{Columns}
use Rattle.def_jacobian.specs.Groups.{has}
use Rattle.def_jacobian.specs.Inputs.{by_columns}
use Rattle.def_jacobian.specs.Patterns.{Task, Place, held, pattern_run, columns_at}
use Rattle.adj_jacobian_few.specs.declared.few.Few.{Few}
use Rattle.adj_jacobian_few.specs.declared.few.Kept.{Kept}
use Rattle.adj_jacobian_few.specs.declared.few.Kept.TheVariants.{Listed, Many}
use Rattle.adj_jacobian_few.specs.Merged.{merged, IncreasesFrom}

-- some numbers in so many places, with 0 in those that are left
abbrev pub padded : ℕ → List ℕ → List ℕ
padded zero zs = []
padded (suc n) [] = 0 ∷ padded n []
padded (suc n) (z ∷ zs) = z ∷ padded n zs

-- numbers that are kept where they are few
abbrev pub sized : List ℕ → Kept
sized zs = if nat_le (length zs) 6 then Listed (length zs) (padded 6 zs) else Many

abbrev pub one_of : ℕ → Kept
one_of j = if nat_lt j (2 ^ 32) then sized (j ∷ []) else Many

-- the columns that are kept, or nothing where they are many
abbrev pub list_of : Kept → Option (List ℕ)
list_of (Listed n xs) = Some (take n xs)
list_of Many = None

abbrev pub of_lists : Option (List ℕ) → Option (List ℕ) → Kept
of_lists (Some xs) (Some ys) = sized (merged xs ys)
of_lists (Some xs) None = Many
of_lists None found = Many

-- the columns of either
abbrev pub either_of : Kept → Kept → Kept
either_of first second = of_lists (list_of first) (list_of second)

abbrev pub kept_of_power : Kept → ℕ → Kept
kept_of_power kept zero = sized []
kept_of_power kept (suc k) = kept

abbrev pub few : Numbers Few
few = record {
  of_word = λ z. record { value = z; columns = sized [] };
  shown = λ a. a.value;
  negation = λ a. record { value = negated a.value; columns = a.columns };
  sum = λ a b. record { value = add a.value b.value; columns = either_of a.columns b.columns };
  difference = λ a b. record { value = sub a.value b.value; columns = either_of a.columns b.columns };
  product = λ a b. record { value = mul a.value b.value; columns = either_of a.columns b.columns };
  raised_to = λ a k. record { value = power a.value k; columns = kept_of_power a.columns k };
}

-- the word of a column
abbrev pub own_few : ℤ → ℕ → Few
own_few z j = record { value = z; columns = one_of j }

-- a list is that of the columns of a set, in increasing order
pub record Lists (zs : List ℕ) (s : Columns) : Type 0 where
  pub increasing : IncreasesFrom 0 zs
  pub same : (c : ℕ) → has zs c ≡ s c

-- what a list says of a set, or nothing
abbrev pub Tells : Option (List ℕ) → Columns → Type 0
Tells (Some zs) s = Lists zs s
Tells None s = Unit {0}

-- what a run over few columns says of the pattern run: it ends as it does, and where a cell has a list, that is the list of its columns
abbrev pub FewTells : Outcome (Output Few) → Outcome (Output (ℤ × Columns)) → Type 0
FewTells (Done out used) (Done res more) = (used ≡ more) × ((a : Place) → Tells (list_of (held few out.slots a.dummy a.cell).columns) (columns_at res a))
FewTells (Trapped t line w) (Trapped d at v) = (t ≡ d) × (line ≡ at)
FewTells (More w) (More v) = Unit {0}
FewTells (Full w) (Full v) = Unit {0}
FewTells (Done out used) (Trapped d at v) = ⊥
FewTells (Done out used) (More v) = ⊥
FewTells (Done out used) (Full v) = ⊥
FewTells (Trapped t line w) (Done res more) = ⊥
FewTells (Trapped t line w) (More v) = ⊥
FewTells (Trapped t line w) (Full v) = ⊥
FewTells (More w) (Done res more) = ⊥
FewTells (More w) (Trapped d at v) = ⊥
FewTells (More w) (Full v) = ⊥
FewTells (Full w) (Done res more) = ⊥
FewTells (Full w) (Trapped d at v) = ⊥
FewTells (Full w) (More v) = ⊥

-- a run over words with few columns tells of the pattern run
abbrev pub FewRunIsPattern : Type 0
FewRunIsPattern = (p : Task) → FewTells (run_unit few p.units p.unit (by_columns few.of_word own_few p.vars p.input 0) [] p.room p.budget) (pattern_run p)
