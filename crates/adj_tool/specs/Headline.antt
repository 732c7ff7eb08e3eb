-- Headline: what the written text is.
use Rattle.std.specs.Prelude.{◌≡◌, ℕ, List, [], ◌∷◌, ◌++◌, map, Bool, true, Some}
use Rattle.adj_tree.specs.Code.{Procedure}
use Rattle.adj_tree.specs.Lines.{unlined}
use Rattle.def_text.specs.Reads.{Reads, ReadsSplits}
use Rattle.def_common.specs.Source.{ReadsLowered, KeepsRuns}
use Rattle.def_text.specs.Text.{text_of}
use Rattle.def_text.specs.declared.mode.Mode.TheVariants.{Run}
use Rattle.def_meaning.specs.Written.{find_unit}
use Rattle.def_meaning.specs.Apart.{has_name}
use Rattle.def_names.specs.Fault.{run_rules}
use Rattle.def_names.specs.Check.{IsSound}
use Rattle.def_names.specs.HeadFaults.{head_of}
use Rattle.def_names.specs.Numbers.{Vars}
use Rattle.def_sweep.specs.Marking.{ProgramMarks}
use Rattle.def_sweep.specs.MarkedLines.{Tale, tales_of}
use Rattle.def_kernel.specs.Kernel.{EachUnit}
use Rattle.def_kernel.specs.Weights.{WeighsAtMost}
use Rattle.def_adjoint.specs.CallsAtMost.{CallsAtMost}
use Rattle.def_adjoint.specs.Calls.{CallsWithin}
use Rattle.def_adjoint.specs.Spends.{SpendsAtMost}
use Rattle.def_adjoint.specs.KernelSpends.{HaveVariables, KernelSpendsAtMost, KernelSpendsWithin}
use Rattle.def_adjoint.specs.Adjoint.{HaveOwnNames, IsAdjointOf}
use Rattle.def_planned.specs.Planned.{HasNoMarks, kernel_problem, facts_by, lines_by}
use Rattle.def_flow.specs.Carried.{IsCarrying, carried_by}
use Rattle.def_tangent.specs.IsTangent.{IsTangentOfSource}
use Rattle.def_adjoint.specs.KernelShape.{HasKernelShape}
use Rattle.def_kernel.specs.Stepped.{kernel_of}
use Rattle.adj_tool.specs.Planned.{AreExact}
use Rattle.adj_tool.specs.Arguments.{Request}
use Rattle.adj_tool.specs.declared.task.Wanted.{Wanted}
use Rattle.adj_tool.specs.declared.task.Wanted.TheVariants as wanted
use Rattle.def_text.specs.OrTooMany.{OrTooMany}
use Rattle.adj_tool_answer.specs.Answer.{Answer}
use Rattle.adj_tool_answer.specs.Programs.{TextIs}

-- a unit of the name is there
pub record IsUnit (ps : List Procedure) (name : List ℕ) : Type 0 where
  pub unit : Procedure
  pub found : find_unit ps name ≡ Some unit

-- which of these names are listed
abbrev pub flags_of : List (List ℕ) → List (List ℕ) → List Bool
flags_of listed names = map (λ x. has_name x listed) names

-- A program is an adjoint of a program for the unit of a name as its head, in which marked loops are reversed by schedules, by these marks, which split the calls at these
-- lines; and its run takes so many statements.
pub record RunsAdjoint (splits : List ℕ) (m : ProgramMarks) (ps : List Procedure) (name : List ℕ) (vars outvars : List Bool) (qs : List Procedure) : Type 0 where
  -- the marked loops that it reverses by schedules are those whose step call is adjointed, and their step units have other names than their adjoints
  pub adjoins : IsAdjointOf (lines_by ps m) m ps name vars outvars qs
  pub own_names : HaveOwnNames (lines_by ps m)
  -- so the lines tell them apart: no two marked loops of the kernel stand at one
  pub lines_apart : (a b c : List Tale) (s t : Tale) → tales_of (facts_by m) (kernel_of ps) ≡ a ++ (s ∷ (b ++ (t ∷ c))) → s.0 ≡ t.0 → ⊥
  -- Where no loop of the source is marked, and no call split: by what a statement of the source weighs at most, and by how many calls a chain from the head has at most,
  -- its run takes so many statements for each one of the source's own run: within 40 * weight * (calls + 2), and two for each dummy of the head.
  pub spends : HasNoMarks ps → splits ≡ [] → (weight calls : ℕ) → EachUnit (λ u. WeighsAtMost weight u.body) ps → CallsAtMost ps name calls → SpendsAtMost m ps name weight calls qs
  -- Whether loops are marked or not, where no call is split: by what a statement of the kernel weighs at most, by how many calls a chain from the head has in it at most, and by a
  -- number of repetitions that serves each run of a reversed loop that the kernel's run of the head told of, its run takes so many statements for
  -- each one of the kernel's run: (30 + 2 * (calls + 1) * (repetitions + 1)) * weight, and two for each dummy of the head.
  pub spends_reversed : splits ≡ [] → (weight calls : ℕ) → EachUnit (λ u. WeighsAtMost weight u.body) (kernel_of ps) → CallsWithin (kernel_of ps) name calls → KernelSpendsAtMost (lines_by ps m) m ps name weight calls qs
  -- Whether calls are split or not, with the number of variables that a unit of the kernel has at most: within 100 * (weight + variables) * (calls + 2) * (repetitions + 2)
  pub spends_within : (weight count calls : ℕ) → EachUnit (λ u. WeighsAtMost weight u.body) (kernel_of ps) → HaveVariables count (kernel_of ps) → CallsWithin (kernel_of ps) name calls → KernelSpendsWithin (lines_by ps m) m ps name weight count calls qs

-- the bytes that were read are a program, in which members of blocks are dummies, and whose unit of the name asked for is the head; and the bytes that were written are a program
pub record Rewrites (r : Request) (bytes written : List ℕ) : Type 0 where
  pub source : List Procedure
  pub reads : ReadsLowered bytes source
  -- each unit's run in it is its run with blocks, on words and on words with tangents: so what is said of the program's runs is said of the text's
  pub keeps : KeepsRuns reads.shared
  pub unit : Procedure
  pub is_head : find_unit source r.head ≡ Some unit
  -- what the written bytes are, with the lines at which its units and statements stand there
  pub emitted : List Procedure
  pub reads_back : Reads written emitted

-- the program that was written is an adjoint of the one that was read, for the head with its independents and dependents
pub record WritesAdjoint (r : Request) (bytes written : List ℕ) : Type 0 where
  pub programs : Rewrites r bytes written
  -- the lines of the calls that directives split
  pub splits : List ℕ
  pub reads_splits : ReadsSplits bytes splits
  -- by the marks that exact analyses of the kernel give, where these are split
  pub marks : ProgramMarks
  pub exact : AreExact splits programs.source r.head (head_of programs.source r.head r.vars r.outvars) marks
  pub adjoins : RunsAdjoint splits marks programs.source r.head (flags_of r.vars programs.unit.dummies) (flags_of r.outvars programs.unit.dummies) programs.emitted

-- the program that was written is the tangent of the one that was read, for the head with its independents
pub record WritesTangent (r : Request) (bytes written : List ℕ) : Type 0 where
  pub programs : Rewrites r bytes written
  -- what is varied in the kernel and what carries a tangent there
  pub varied : ℕ → Vars
  pub carried : ℕ → Vars
  pub exact : IsCarrying (kernel_problem programs.source r.head (flags_of r.vars programs.unit.dummies) (flags_of r.outvars programs.unit.dummies)) varied carried
  -- its run on values and tangents is the dual run of the head, and takes at most twice as many statements for each one of the kernel's dual run as a
  -- statement of the kernel weighs, and one for each dummy of the head
  pub is_tangent : IsTangentOfSource (carried_by (kernel_of programs.source) carried) programs.source r.head (flags_of r.vars programs.unit.dummies) programs.emitted

-- ---- how what was written looks

-- the bytes that were written are the canonical text of their program, which can be run
pub record IsCanonical (r : Request) (bytes written : List ℕ) (p : Rewrites r bytes written) : Type 0 where
  pub text : written ≡ text_of p.emitted
  -- as a text that is run they read as it, up to line numbers, unless they have more statements than a run takes
  pub runs : TextIs Run (OrTooMany (λ found. unlined found ≡ unlined p.emitted)) written
  -- and it has no fault of units, names, calls, chains and writes there
  pub sound : IsSound run_rules p.emitted

-- an adjoint that has the units, each of which keeps, saves, pushes and sets what the marks say
pub record EmitsAdjoint (r : Request) (bytes written : List ℕ) : Type 0 where
  pub adjoint : WritesAdjoint r bytes written
  pub canonical : IsCanonical r bytes written adjoint.programs
  pub shape : HasKernelShape true adjoint.marks adjoint.programs.source r.head (flags_of r.vars adjoint.programs.unit.dummies) (flags_of r.outvars adjoint.programs.unit.dummies) adjoint.programs.emitted

pub record EmitsTangent (r : Request) (bytes written : List ℕ) : Type 0 where
  pub tangent : WritesTangent r bytes written
  pub canonical : IsCanonical r bytes written tangent.programs

-- ---- what is asked of the text

-- where the answer to these bytes is done, its text is that of an adjoint, or of a tangent
abbrev pub Writes : Wanted → Request → List ℕ → List ℕ → Type 0
Writes wanted.Adjoint r = EmitsAdjoint r
Writes wanted.Tangent r = EmitsTangent r
Writes wanted.Plan r = λ bytes text. Unit {0}

abbrev pub IsTransformed : Wanted → Request → List ℕ → Answer → Type 0
IsTransformed w r bytes a = a.status ≡ 0 → Writes w r bytes a.text
