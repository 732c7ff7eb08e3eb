-- What holds of every run. Most laws hold over any numbers; the contracts name them for words and for words with tangents.
use Rattle.std.specs.Prelude.{◌≡◌, ℕ, ℤ, ◌+◌, ◌<◌, ◌≤◌, List, map, Bool, true, false, IsTrue, Option, Some}
use Rattle.adj_tree.specs.Code.{Var, plain, Act, Code, step, Procedure}
use Rattle.adj_tree.specs.Lines.{unlined_procedure, unlined}
use Rattle.def_meaning.specs.Append.{◌+++◌}
use Rattle.def_meaning.specs.Numbers.{Numbers, words, duals}
use Rattle.def_meaning.specs.Value.{Setting}
use Rattle.def_meaning.specs.Scene.{Scene, stand, Done, IsMore, then_do, counted}
use Rattle.def_meaning.specs.Run.{Calls, act, run}
use Rattle.def_meaning.specs.Units.{Slot, Output, unit_run, calls_of, fits, run_unit}
use Rattle.def_meaning.specs.Read.{reads, read_rule, looked_at}
use Rattle.law_meaning.specs.Agree.{AgreeOn, EndAlike}
use Rattle.def_meaning.specs.Apart.{AreApart}
use Rattle.def_meaning.specs.Store.{size_of}
use Rattle.law_meaning.specs.Leads.{Leads}
use Rattle.law_meaning.specs.Follows.{Follows}
use Rattle.def_meaning.specs.Padded.{padded_act, padded, padded_program}
use Rattle.law_meaning.specs.Common.{CallsInside, HaveInCommon}
use Rattle.def_meaning.specs.LeastSet.{least_rows, IsLeast}
use Rattle.def_meaning.specs.Written.{find_unit, writes, write_rule, is_written, handed_back}
use Rattle.def_meaning.specs.Rename.{rename}
use Rattle.law_meaning.specs.Unlined.{unlined_ending}
use Rattle.def_meaning.specs.Seen.{Separates, pulled_setting, pulled_scene, pulled_outcome, Projects, slot_seen, ending_seen}

-- a list is run part by part
abbrev pub RunsPartByPart : Type 0 → Type 0
RunsPartByPart C = (q : Calls C) (n : Setting C) (c d : Code) (s : Scene C) (k : ℕ) → run q n (c +++ d) s k ≡ then_do (run q n c s k) (run q n d)

-- a list that is done is done alike with more statements and with deeper calls
abbrev pub DoneWithMore : Type 0 → Type 0
DoneWithMore C = (units : List Procedure) (depth deeper : ℕ) → depth ≤ deeper → (n : Setting C) (c : Code) (s s' : Scene C) (k k' m : ℕ) → run (calls_of units depth) n c s k ≡ Done s' k' → run (calls_of units deeper) n c s (k + m) ≡ Done s' (k' + m)

-- a list that has k statements runs alike with calls to any depth of at least k, whatever it ends in: each call costs a statement
abbrev pub DeepEnough : Type 0 → Type 0
DeepEnough C = (units : List Procedure) (depth deeper : ℕ) → depth ≤ deeper → (n : Setting C) (c : Code) (s : Scene C) (k : ℕ) → k ≤ depth → run (calls_of units depth) n c s k ≡ run (calls_of units deeper) n c s k

-- a list that is done with some number of statements costs the same with every other, and leads from the one scene to the other
abbrev pub LeadsWhereDone : Type 0 → Type 0
LeadsWhereDone C = (units : List Procedure) (depth : ℕ) (n : Setting C) (c : Code) (s s' : Scene C) (k k' : ℕ) → run (calls_of units depth) n c s k ≡ Done s' k' → Leads (calls_of units depth) n c s s'

-- a run that doesn't end out of statements ends alike with more of them
abbrev pub EndsAlike : Type 0 → Type 0
EndsAlike C = (n : Numbers C) (units : List Procedure) (u : Procedure) (input : List (Slot C)) (tape : List C) (room : Option ℕ) (k m : ℕ) →
    (IsMore (run_unit n units u input tape room k) → ⊥) → run_unit n units u input tape room (k + m) ≡ run_unit n units u input tape room k

-- so two such runs end alike, whatever statements they had
abbrev pub OneEnd : Type 0 → Type 0
OneEnd C = (n : Numbers C) (units : List Procedure) (u : Procedure) (input : List (Slot C)) (tape : List C) (room : Option ℕ) (k m : ℕ) →
    (IsMore (run_unit n units u input tape room k) → ⊥) → (IsMore (run_unit n units u input tape room m) → ⊥) → run_unit n units u input tape room k ≡ run_unit n units u input tape room m

-- a run that is done had enough statements, and with fewer than it used there is more to do
abbrev pub MoreBefore : Type 0 → Type 0
MoreBefore C = (n : Numbers C) (units : List Procedure) (u : Procedure) (input : List (Slot C)) (tape : List C) (room : Option ℕ) (k : ℕ) (out : Output C) (used : ℕ) →
    run_unit n units u input tape room k ≡ Done out used → (used ≤ k) × ((j : ℕ) → j < used → IsMore (run_unit n units u input tape room j))

-- a run under new names that keep the variables apart is the run under the old ones
abbrev pub RunRenamed : Type 0 → Type 0
RunRenamed C = (r : Var → Var) → Separates r → (units : List Procedure) (depth : ℕ) (n : Setting C) (c : Code) (s : Scene C) (k : ℕ) →
    pulled_outcome r (run (calls_of units depth) n (rename r c) s k) ≡ run (calls_of units depth) (pulled_setting r n) c (pulled_scene r s) k

-- a run over some numbers, seen over others that do alike, is the run over those
abbrev pub RunProjected : Type 0 → Type 0 → Type 0
RunProjected C D = (h : C → D) (n : Numbers C) (m : Numbers D) → Projects h n m → (units : List Procedure) (u : Procedure) (input : List (Slot C)) (tape : List C) (room : Option ℕ) (k : ℕ) →
    ending_seen h (run_unit n units u input tape room k) ≡ run_unit m units u (map (slot_seen h) input) (map h tape) room k

-- a dual run without its tangents is the run of its words: it ends alike, with as many statements, and tells the same
abbrev pub TangentsForgotten : Type 0
TangentsForgotten = (units : List Procedure) (u : Procedure) (input : List (Slot (ℤ × ℤ))) (tape : List (ℤ × ℤ)) (room : Option ℕ) (k : ℕ) →
    ending_seen (λ a. a.0) (run_unit duals units u input tape room k) ≡ run_unit words units u (map (slot_seen (λ a. a.0)) input) (map (λ a. a.0) tape) room k

-- the dummies that units write are those that their statements may write, and no smaller set holds all of these
abbrev pub LeastWritten : Type 0
LeastWritten = (units : List Procedure) → IsLeast write_rule units (least_rows write_rule units)

-- what a unit hands back are the dummies that its statements may write
abbrev pub HandsBackWritten : Type 0
HandsBackWritten = (units : List Procedure) (name : List ℕ) (u : Procedure) → find_unit units name ≡ Some u → handed_back units name ≡ map (is_written units u) u.dummies

-- a list that is done changed no variable that it may not write
abbrev pub KeepsOthers : Type 0 → Type 0
KeepsOthers C = (units : List Procedure) (depth : ℕ) (n : Setting C) (c : Code) (s s' : Scene C) (k k' : ℕ) → run (calls_of units depth) n c s k ≡ Done s' k' →
    (x : Var) → writes (handed_back units) x c ≡ false → (i : ℕ) → s'.store x i ≡ s.store x i

-- the dummies that units read are those that their statements read, and their extents, and no smaller set holds all of these
abbrev pub LeastRead : Type 0
LeastRead = (units : List Procedure) → IsLeast read_rule units (least_rows read_rule units)

-- where units have dummies with names of their own, a list ends alike from scenes that agree on the cells of what it reads:
-- in the same way, with as many statements, telling the same; and whatever else they agree on, they agree on it at the end
abbrev pub DependsOnReads : Type 0 → Type 0
DependsOnReads C = (units : List Procedure) → ((name : List ℕ) (u : Procedure) → find_unit units name ≡ Some u → AreApart u.dummies) →
    (depth : ℕ) (n : Setting C) (c : Code) (inside : Var → ℕ → Bool) → ((x : Var) → reads (looked_at units) x c ≡ true → (i : ℕ) → i < size_of (n.shape x) → IsTrue (inside x i)) →
    (s t : Scene C) → AgreeOn (λ x i. IsTrue (inside x i)) s t → (k : ℕ) → EndAlike (λ x i. IsTrue (inside x i)) (run (calls_of units depth) n c s k) (run (calls_of units depth) n c t k)

-- the run of a unit depends on no units of the program but those that it calls, or that these call
abbrev pub ExtendsPrograms : Type 0 → Type 0
ExtendsPrograms C = (inside : List ℕ → Bool) (units others : List Procedure) → HaveInCommon inside units others → (u : Procedure) → CallsInside inside u.body →
    (n : Numbers C) (input : List (Slot C)) (tape : List C) (room : Option ℕ) (k : ℕ) → run_unit n units u input tape room k ≡ run_unit n others u input tape room k

-- nor do the dummies that a unit writes
abbrev pub ExtendsWritten : Type 0
ExtendsWritten = (inside : List ℕ → Bool) (units others : List Procedure) → HaveInCommon inside units others → (name : List ℕ) → IsTrue (inside name) → handed_back units name ≡ handed_back others name

-- nor do those that it reads
abbrev pub ExtendsRead : Type 0
ExtendsRead = (inside : List ℕ → Bool) (units others : List Procedure) → HaveInCommon inside units others → (name : List ℕ) → IsTrue (inside name) → looked_at units name ≡ looked_at others name

-- a unit that is done changed no dummy that it doesn't write
abbrev pub KeepsDummies : Type 0 → Type 0
KeepsDummies C = (units : List Procedure) (u : Procedure) (d : List ℕ) → is_written units u d ≡ false →
    (depth : ℕ) (n : Setting C) (line : ℕ) (s s' : Scene C) (k k' : ℕ) → unit_run (calls_of units depth) n u line s k ≡ Done s' k' → (i : ℕ) → s'.store (plain d) i ≡ s.store (plain d) i

-- the run of a unit is that of the unit and the program without line numbers, but for the lines of its trap and of the marked loops that it tells of
abbrev pub RunUnlined : Type 0 → Type 0
RunUnlined C = (n : Numbers C) (units : List Procedure) (u : Procedure) (input : List (Slot C)) (tape : List C) (room : Option ℕ) (k : ℕ) →
    unlined_ending (run_unit n units u input tape room k) ≡ unlined_ending (run_unit n (unlined units) (unlined_procedure u) input tape room k)

-- so units and programs that are the same up to line numbers run alike up to these lines
abbrev pub RunsAlike : Type 0 → Type 0
RunsAlike C = (units others : List Procedure) → unlined units ≡ unlined others → (u v : Procedure) → unlined_procedure u ≡ unlined_procedure v →
    (n : Numbers C) (input : List (Slot C)) (tape : List C) (room : Option ℕ) (k : ℕ) → unlined_ending (run_unit n units u input tape room k) ≡ unlined_ending (run_unit n others v input tape room k)

-- and the same inputs fit them
abbrev pub FitsAlike : Type 0 → Type 0
FitsAlike C = (u v : Procedure) → unlined_procedure u ≡ unlined_procedure v → (n : Numbers C) (input : List (Slot C)) → fits n u input ≡ fits n v input

-- ---- prices

-- where each statement costs so many statements more, at most w in all, the program runs as before: it ends in the same scene, or
-- traps or finds the tape full at the same line, after at least as many statements and at most w times as many
abbrev pub RunsPadded : Type 0 → Type 0
RunsPadded C = (units : List Procedure) (extra : Act → ℕ) (w : ℕ) → ((a : Act) → extra a + 1 ≤ w) → (depth : ℕ) (n : Setting C) (c : Code) (s : Scene C) (k : ℕ) →
    Follows (λ (t v : Scene C). t ≡ v) w 0 (run (calls_of units depth) n c s) (run (calls_of (padded_program extra units) depth) n (padded extra c) s) k

-- a statement is paid for before it is counted
abbrev pub PadsPay : Type 0 → Type 0
PadsPay C = (extra : Act → ℕ) (q : Calls C) (n : Setting C) (line : ℕ) (a : Act) (c : Code) (s : Scene C) (k : ℕ) →
    run q n (padded extra (step line a c)) s (extra a + k) ≡ counted (stand n s) k (λ j. then_do (act q n (padded_act extra a) line s j) (run q n (padded extra c)))

-- without extra statements the program is as it was
abbrev pub PadsNothing : Type 0
PadsNothing = (c : Code) → padded (λ a. 0) c ≡ c

-- a law for words, and for words with tangents
abbrev pub ForBoth : (Type 0 → Type 0) → Type 0
ForBoth Law = Law ℤ × Law (ℤ × ℤ)
