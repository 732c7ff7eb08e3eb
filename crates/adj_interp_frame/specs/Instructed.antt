-- Instructed: the statements that prepared ones stand for.
use Rattle.std.specs.Prelude.{ℕ, ◌<◌, List}
use Rattle.adj_tree.specs.Code as code
use Rattle.adj_tree.specs.Code.{Code, stop, step, assign, choose, loop, during, call, runtime, push_word, pop_word, push_array, pop_array, push_control, pop_control, zero_array, begin_reversal, count_actions, give_action, end_reversal, unmarked, with_count, count_from}
use Rattle.adj_interp_frame.specs.Prepared.{var_at, term_in, terms_in, test_in, IsTermBelow, AreTermsBelow, IsTestBelow}
use Rattle.adj_interp_frame.specs.declared.step.Cell.{Cell}
use Rattle.adj_interp_frame.specs.declared.step.Service.{Service}
use Rattle.adj_interp_frame.specs.declared.step.Service.TheVariants as service
use Rattle.adj_interp_frame.specs.declared.step.Bounds.{Bounds}
use Rattle.adj_interp_frame.specs.declared.step.Marking.{Marking}
use Rattle.adj_interp_frame.specs.declared.step.Marking.TheVariants as marking
use Rattle.adj_interp_frame.specs.declared.step.Task.{Task}
use Rattle.adj_interp_frame.specs.declared.step.Task.TheVariants as task
use Rattle.adj_interp_frame.specs.declared.step.Steps.{Steps}
use Rattle.adj_interp_frame.specs.declared.step.Steps.TheVariants as steps

abbrev pub service_in : List (List ℕ) → Service → code.Runtime
service_in names (service.PushWord c) = push_word (var_at names c.variable) (terms_in names c.subs)
service_in names (service.PopWord c) = pop_word (var_at names c.variable) (terms_in names c.subs)
service_in names (service.PushArray i) = push_array (var_at names i)
service_in names (service.PopArray i) = pop_array (var_at names i)
service_in names (service.PushControl e) = push_control (term_in names e)
service_in names (service.PopControl i) = pop_control (var_at names i)
service_in names (service.Zero i) = zero_array (var_at names i)
service_in names (service.Begin l s) = begin_reversal (term_in names l) (term_in names s)
service_in names (service.Actions l s i) = count_actions (term_in names l) (term_in names s) (var_at names i)
service_in names (service.Action l s k i f t) = give_action (term_in names l) (term_in names s) (term_in names k) (var_at names i) (var_at names f) (var_at names t)
service_in names service.End = end_reversal

abbrev pub marking_in : List (List ℕ) → Marking → code.Mark
marking_in names marking.Plain = unmarked
marking_in names (marking.Count m) = with_count m
marking_in names (marking.From i) = count_from (var_at names i)

abbrev mutual
  pub task_in : List (List ℕ) → Task → code.Act
  task_in names (task.Assign c e) = assign (var_at names c.variable) (terms_in names c.subs) (term_in names e)
  task_in names (task.If t a b) = choose (test_in names t) (steps_in names a) (steps_in names b)
  task_in names (task.Loop i b body m) = loop (var_at names i) (term_in names b.first) (term_in names b.last) (term_in names b.by) (steps_in names body) (marking_in names m)
  task_in names (task.While t body) = during (test_in names t) (steps_in names body)
  task_in names (task.Call i x args) = call x (terms_in names args)
  task_in names (task.Run r) = runtime (service_in names r)

  pub steps_in : List (List ℕ) → Steps → Code
  steps_in names steps.Empty = stop
  steps_in names (steps.More' p line t q rest) = step line (task_in names t) (steps_in names rest)

-- ---- numbers below a count

abbrev pub IsNumberBelow : ℕ → ℕ → Type 0
IsNumberBelow count i = i < count

abbrev pub IsCellBelow : ℕ → Cell → Type 0
IsCellBelow count c = (c.variable < count) × AreTermsBelow count c.subs

abbrev pub IsServiceBelow : ℕ → Service → Type 0
IsServiceBelow count (service.PushWord c) = IsCellBelow count c
IsServiceBelow count (service.PopWord c) = IsCellBelow count c
IsServiceBelow count (service.PushArray i) = i < count
IsServiceBelow count (service.PopArray i) = i < count
IsServiceBelow count (service.PushControl e) = IsTermBelow count e
IsServiceBelow count (service.PopControl i) = i < count
IsServiceBelow count (service.Zero i) = i < count
IsServiceBelow count (service.Begin l s) = IsTermBelow count l × IsTermBelow count s
IsServiceBelow count (service.Actions l s i) = IsTermBelow count l × IsTermBelow count s × (i < count)
IsServiceBelow count (service.Action l s k i f t) = IsTermBelow count l × IsTermBelow count s × IsTermBelow count k × (i < count) × (f < count) × (t < count)
IsServiceBelow count service.End = Unit {0}

abbrev pub AreBoundsBelow : ℕ → Bounds → Type 0
AreBoundsBelow count b = IsTermBelow count b.first × IsTermBelow count b.last × IsTermBelow count b.by

abbrev pub IsMarkingBelow : ℕ → Marking → Type 0
IsMarkingBelow count marking.Plain = Unit {0}
IsMarkingBelow count (marking.Count m) = Unit {0}
IsMarkingBelow count (marking.From i) = i < count

abbrev mutual
  pub IsTaskBelow : ℕ → Task → Type 0
  IsTaskBelow count (task.Assign c e) = IsCellBelow count c × IsTermBelow count e
  IsTaskBelow count (task.If t a b) = IsTestBelow count t × AreStepsBelow count a × AreStepsBelow count b
  IsTaskBelow count (task.Loop i b body m) = (i < count) × AreBoundsBelow count b × AreStepsBelow count body × IsMarkingBelow count m
  IsTaskBelow count (task.While t body) = IsTestBelow count t × AreStepsBelow count body
  IsTaskBelow count (task.Call i x args) = AreTermsBelow count args
  IsTaskBelow count (task.Run r) = IsServiceBelow count r

  pub AreStepsBelow : ℕ → Steps → Type 0
  AreStepsBelow count steps.Empty = Unit {0}
  AreStepsBelow count (steps.More' p line t q rest) = IsTaskBelow count t × AreStepsBelow count rest
