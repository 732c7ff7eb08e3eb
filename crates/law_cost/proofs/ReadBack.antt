-- A program that differs from the emitted one in line numbers alone, as a text that is printed and read back does: what its runs say of those of the
-- emitted program.
use Rattle.std.proofs.Common.{◌≡◌, ℕ, List, [], refl, sym, ap, ◌∙◌}
use Rattle.std.specs.Prelude.{ℤ, Option, Some, None}
use Rattle.adj_tree.specs.Code.{Procedure}
use Rattle.adj_tree.specs.Lines.{unlined, unlined_procedure}
use Rattle.def_meaning.specs.Numbers.{words}
use Rattle.def_meaning.specs.Scene.{Outcome, Done, Trapped, More, Full}
use Rattle.def_meaning.specs.Written.{find_unit}
use Rattle.def_meaning.specs.Units.{Slot, Output, run_unit}
use Rattle.law_meaning.specs.Unlined.{unlined_output, unlined_ending}
use Rattle.law_meaning.proofs.Unlined.{runs_alike}
use Rattle.law_meaning.proofs.UnlinedUnits.{unlined_found, find_unlined}

-- a run that is done is done with as many statements up to line numbers
record DoneAs (o : Outcome (Output ℤ)) (used : ℕ) : Type 0 where
  output : Output ℤ
  is : o ≡ Done output used

done_as : (o : Outcome (Output ℤ)) (out : Output ℤ) (used : ℕ) → unlined_ending o ≡ Done out used → DoneAs o used
done_as (Done a k) out used h = let same : k ≡ used = cc in record { output = a; is = ap (Done a) same }
done_as (Trapped t line w) out used h = absurd cc
done_as (More w) out used h = absurd cc
done_as (Full w) out used h = absurd cc

-- the same unit up to line numbers is there
record IsThere (others : List Procedure) (name : List ℕ) (a : Procedure) : Type 0 where
  unit : Procedure
  is : find_unit others name ≡ Some unit
  like : unlined_procedure unit ≡ unlined_procedure a

abbrev found_or : Procedure → Option Procedure → Procedure
found_or u None = u
found_or u (Some v) = v

there : (others : List Procedure) (name : List ℕ) (a : Procedure) (o : Option Procedure) → find_unit others name ≡ o → unlined_found o ≡ Some (unlined_procedure a) → IsThere others name a
there others name a None is e = absurd cc
there others name a (Some b) is e = record { unit = b; is = is; like = ap (found_or (unlined_procedure a)) e }

-- the run of the emitted unit that the unit read back stands for
pub record ReadBack (emitted : List Procedure) (name : List ℕ) (input : List (Slot ℤ)) (j spent : ℕ) : Type 0 where
  pub unit : Procedure
  pub found : find_unit emitted name ≡ Some unit
  pub output : Output ℤ
  pub done : run_unit words emitted unit input [] None j ≡ Done output spent

pub read_back : (emitted qs : List Procedure) → unlined emitted ≡ unlined qs → (name : List ℕ) (a : Procedure) → find_unit qs name ≡ Some a → (input : List (Slot ℤ)) (j spent : ℕ) (end : Output ℤ) → run_unit words qs a input [] None j ≡ Done end spent → ReadBack emitted name input j spent
read_back emitted qs same name a is input j spent end h =
    let u = there emitted name a (find_unit emitted name) refl (sym (find_unlined emitted name) ∙ ap (λ z. find_unit z name) same ∙ find_unlined qs name ∙ ap unlined_found is) in
    let ran = done_as (run_unit words emitted u.unit input [] None j) (unlined_output end) spent (runs_alike emitted qs same u.unit a u.like words input [] None j ∙ ap unlined_ending h) in
    record { unit = u.unit; found = u.is; output = ran.output; done = ran.is }
