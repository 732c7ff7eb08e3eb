-- What the arguments ask for, from what `clap` says of a parse.
use Rattle.std.proofs.Common.{◌≡◌, ◌≢◌, ◌⊎◌, inl, inr, List, [], ◌∷◌, true, map, refl, sym, ap, ◌∙◌, None}
use Rattle.clap.specs.Walk.{Row, Text}
use Rattle.clap.specs.Simple.{App, is_simple, matches_of}
use Rattle.clap.specs.Faults.{fault_of, is_simple_and_free}
use Rattle.clap.specs.Kinds.{Kinds, IsAmong}
use Rattle.clap.specs.declared.error.kind.ErrorKind.{ErrorKind}
use Rattle.clap.proofs.OnLiterals.{clap_on_literals}
use Rattle.adj_tool.specs.Arguments.{program, asked, taken, taken_by}

-- the command line is one of which clap says all
pub program_is_simple : is_simple program ≡ true
unfolding clap_on_literals
program_is_simple = refl

pub program_is_free : is_simple_and_free program ≡ true
unfolding clap_on_literals
program_is_free = refl

-- arguments that are seen as themselves
pub map_same : (ws : List Text) → map (λ w. w) ws ≡ ws
map_same [] = refl
map_same (w ∷ ws) = ap (λ vs. w ∷ vs) (map_same ws)

-- what a parse says of the command line and the arguments, it says of what is taken
taken_from : (app : App) → app ≡ program → (ws vs : List Text) → ws ≡ vs → taken vs ≡ taken_by (fault_of app ws) (matches_of app ws)
unfolding taken
taken_from app e ws vs w = λ i. taken_by (fault_of (sym e i) (sym w i)) (matches_of (sym e i) (sym w i))

-- where the parse has no fault, they ask for what its rows say
pub taken_ok : (app : App) → app ≡ program → (ws vs : List Text) → ws ≡ vs → fault_of app ws ≡ [] → (rows : List Row) → rows ≡ matches_of app ws → taken vs ≡ asked rows
taken_ok app e ws vs w none rows r = taken_from app e ws vs w ∙ ap (λ kinds. taken_by kinds (matches_of app ws)) none ∙ ap asked (sym r)

-- where the parse has a fault, they ask for nothing
pub taken_none : (app : App) → app ≡ program → (ws vs : List Text) → ws ≡ vs → (k other : ErrorKind) → (k ≡ other) ⊎ IsAmong k (fault_of app ws) → k ≢ other → taken vs ≡ None
taken_none app e ws vs w k other (inl same) differs = absurd (differs same)
taken_none app e ws vs w k other (inr among) differs = taken_from app e ws vs w ∙ go (fault_of app ws) among
  where
    go : (kinds : Kinds) → IsAmong k kinds → taken_by kinds (matches_of app ws) ≡ None
    go [] h = absurd h
    go (x ∷ xs) h = refl
