-- What the emitted units call: units that stay call units that stay, and a tangent calls tangents, and units that stay.
use Rattle.std.proofs.Common.{◌≡◌, ℕ, zero, suc, Bool, true, false, List, refl, sym, ap, ◌∙◌}
use Rattle.std.specs.Prelude.{◌&&◌, not, length, Some, if◌then◌else◌}
use Rattle.adj_tree.specs.Code.{name_eq, Procedure}
use Rattle.adj_tree.proofs.Names.{name_same}
use Rattle.def_meaning.specs.Written.{find_unit}
use Rattle.def_names.proofs.Variables.{and_true}
use Rattle.def_sweep.specs.Program.{calls_some, reached_after}
use Rattle.def_tangent.specs.Program.{Carried, takes, made_after, has_tangent, stays, emitted_units}
use Rattle.law_meaning.specs.Common.{CallsInside, HaveInCommon}
use Rattle.law_sweep.specs.Source.{is_unit, CallUnits}
use Rattle.law_sweep.proofs.Rounds.{either}
use Rattle.law_sweep.proofs.EmittedUnits.{inside_in, counts, some_there}
use Rattle.law_tangent.proofs.FoundUnits.{still_found}
use Rattle.law_tangent.proofs.Taking.{taking_has, other_stays, staying_calls}

module _ (c : Carried) (ps : List Procedure) (head : Procedure) (vars : List Bool) (known : CallUnits ps ps) where
  abbrev every : ℕ → Bool
  every i = true

  abbrev has : List ℕ → Bool
  has = has_tangent c ps head.name

  abbrev still : List ℕ → Bool
  still = stays c ps head.name

  -- ---- units that stay

  abbrev roots : List ℕ → Bool
  roots n = not (takes c ps n) && calls_some has every n 0 ps

  there_after : (k : ℕ) (n : List ℕ) → reached_after roots every ps k n ≡ true → is_unit ps n ≡ true
  there_after zero n h = absurd cc
  there_after (suc k) n h =
      either (roots n) (calls_some (reached_after roots every ps k) every n 0 ps) (is_unit ps n) h (λ e. some_there ps ps known has every n 0 (and_true (not (takes c ps n)) (calls_some has every n 0 ps) e).1)
      (some_there ps ps known (reached_after roots every ps k) every n 0)

  -- they are in the emitted program as in the source, and call no others
  pub still_common : HaveInCommon (stays c ps head.name) ps (emitted_units c ps head vars ps)
  still_common = record {
    same = λ name h. sym (still_found c ps head vars name h (there_after (length ps) name h));
    closed = λ name u h f.
        let k = counts still every 0 ps name u f h in
        inside_in still k.at u.body (λ n g. staying_calls c ps head.name n (some_there ps ps known still every n 0 (k.by n g)) (k.by n g));
  }

  -- ---- tangents

  -- they are of units that there are, where the head is one
  made_there : is_unit ps head.name ≡ true → (k : ℕ) (n : List ℕ) → made_after c ps head.name k n ≡ true → is_unit ps n ≡ true
  made_there top zero n h = absurd cc
  made_there top (suc k) n h =
      either (name_eq head.name n) (takes c ps n && calls_some (made_after c ps head.name k) every n 0 ps) (is_unit ps n) h (λ e. ap (is_unit ps) (sym (name_same head.name n e)) ∙ top)
      (λ e. some_there ps ps known (made_after c ps head.name k) every n 0 (and_true (takes c ps n) (calls_some (made_after c ps head.name k) every n 0 ps) e).1)

  pub tangent_there : is_unit ps head.name ≡ true → (n : List ℕ) → has_tangent c ps head.name n ≡ true → is_unit ps n ≡ true
  tangent_there top n h = made_there top (length ps) n h

  -- units that a tangent may call, as they are or by their tangents
  abbrev pub goes : List ℕ → Bool
  goes n = if takes c ps n then has_tangent c ps head.name n else stays c ps head.name n

  goes_there : (n : List ℕ) (b : Bool) → takes c ps n ≡ b → is_unit ps n ≡ true → calls_some has every n 0 ps ≡ true → (if b then has n else still n) ≡ true
  goes_there n true e t h = taking_has c ps head.name n t e h
  goes_there n false e t h = other_stays c ps head.name n t e h

  -- the units that are called in a unit whose tangent is emitted
  pub tangent_calls : (name : List ℕ) (u : Procedure) → find_unit ps name ≡ Some u → has_tangent c ps head.name name ≡ true → CallsInside goes u.body
  tangent_calls name u f h = let k = counts has every 0 ps name u f h in inside_in goes k.at u.body (λ n g. goes_there n (takes c ps n) refl (some_there ps ps known has every n 0 (k.by n g)) (k.by n g))
