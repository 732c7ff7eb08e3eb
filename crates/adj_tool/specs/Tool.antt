-- Tool: what a call of the program comes to.
use Rattle.std.specs.Prelude.{◌≡◌, ◌⊎◌, ◌+◌, ◌<◌, ◌≤◌, ℕ, List, length, take, Option, Some, None}
use Rattle.adj_io.specs.Bytes.{HasRead, IsAtEnd, extended_by, followed_by}
use Rattle.adj_tool_answer.specs.Answer.{Answer, usage}
use Rattle.adj_tool_run.specs.Running as running
use Rattle.adj_tool_run.specs.Running.{AnswersRun}
use Rattle.adj_tool_jacobian.specs.Jacobian as jacobian
use Rattle.adj_tool_jacobian.specs.Jacobian.{AnswersJacobian}
use Rattle.adj_tool.specs.Arguments.{Command, Adjoint, Tangent, Plan, Run, Check, Jacobian, Schedule, Sample}
use Rattle.adj_tool.specs.Headline.{WritesAdjoint, WritesTangent, EmitsAdjoint, EmitsTangent}
use Rattle.adj_tool.specs.Check.{AnswersCheck, ChecksAdjoint}
use Rattle.adj_tool.specs.Sample.{AnswersSample, SamplesAdjoint}
use Rattle.adj_tool.specs.Answer.{schedule_answer, AnswersWanted, most_bytes}
use Rattle.adj_tool.specs.declared.task.Wanted.TheVariants as wanted

-- what was read of an input: all its bytes, where these are at most so many, or one byte more than that
abbrev pub IsInput : ℕ → Option (List ℕ) → Option (List ℕ) → Option (List ℕ) → Type 0
IsInput most before after (Some bytes) = (before ≡ followed_by bytes after) × (IsAtEnd after × (length bytes ≤ most))
IsInput most before after None = HasRead (most + 1) before after

-- the answer to an input of at most so many bytes, of which some were read: it was read to its end, or one byte more than the limit was
pub record AnswersInput (most : ℕ) (Answers : List ℕ → Answer → Type 0) (before after : Option (List ℕ)) (a : Answer) : Type 0 where
  pub bytes : List ℕ
  pub were_left : before ≡ followed_by bytes after
  pub enough : IsAtEnd after ⊎ (length bytes ≡ most + 1)
  pub answers : Answers bytes a

-- the answer to what the arguments ask for, where `before` and `after` are the bytes that the source had left before the call and has left after it
abbrev pub IsAnswer : Option Command → Option (List ℕ) → Option (List ℕ) → Answer → Type 0
IsAnswer None before after a = (a ≡ usage) × (after ≡ before)
IsAnswer (Some (Schedule l s)) before after a = (a ≡ schedule_answer l s) × (after ≡ before)
IsAnswer (Some (Sample n)) before after a = AnswersSample n a × (after ≡ before)
IsAnswer (Some (Adjoint r)) before after a = AnswersInput most_bytes (AnswersWanted wanted.Adjoint r) before after a
IsAnswer (Some (Tangent r)) before after a = AnswersInput most_bytes (AnswersWanted wanted.Tangent r) before after a
IsAnswer (Some (Plan r)) before after a = AnswersInput most_bytes (AnswersWanted wanted.Plan r) before after a
IsAnswer (Some (Run r)) before after a = AnswersInput running.most_bytes (AnswersRun r) before after a
IsAnswer (Some (Check r vars outvars)) before after a = AnswersInput most_bytes (AnswersCheck r vars outvars) before after a
IsAnswer (Some (Jacobian r vars outvars)) before after a = AnswersInput jacobian.most_bytes (AnswersJacobian r vars outvars) before after a

-- the arguments ask for a command that reads
abbrev pub ReadsInput : Option Command → Type 0
ReadsInput (Some (Schedule l s)) = ⊥
ReadsInput (Some (Sample n)) = ⊥
ReadsInput None = ⊥
ReadsInput _ = Unit {0}

-- the answer was written whole, and the status is its own
pub record WritesAll (asked : Option Command) (before after written_before written_after : Option (List ℕ)) (status : ℕ) : Type 0 where
  pub answer : Answer
  pub answers : IsAnswer asked before after answer
  pub is_status : status ≡ answer.status
  pub whole : written_after ≡ extended_by written_before answer.text

-- a front of the answer was written, and not all
pub record WritesFront (asked : Option Command) (before after written_before written_after : Option (List ℕ)) : Type 0 where
  pub answer : Answer
  pub answers : IsAnswer asked before after answer
  pub count : ℕ
  pub less : count < length answer.text
  pub front : written_after ≡ extended_by written_before (take count answer.text)

-- the bytes that were read, all that were left, and those that were written, of which this holds
pub record Transforms (Is : List ℕ → List ℕ → Type 0) (before after written_before written_after : Option (List ℕ)) : Type 0 where
  pub bytes : List ℕ
  pub were_left : before ≡ followed_by bytes after
  pub to_end : IsAtEnd after
  pub text : List ℕ
  pub whole : written_after ≡ extended_by written_before text
  pub is : Is bytes text

-- the bytes that were read, all that were left, of which and of a text this holds
pub record TransformsInput (Is : List ℕ → List ℕ → Type 0) (before after : Option (List ℕ)) (text : List ℕ) : Type 0 where
  pub bytes : List ℕ
  pub were_left : before ≡ followed_by bytes after
  pub to_end : IsAtEnd after
  pub is : Is bytes text

-- the answer's text is that of an adjoint or of a tangent, where one was asked for
abbrev pub IsWrittenTo : Option Command → Option (List ℕ) → Option (List ℕ) → List ℕ → Type 0
IsWrittenTo (Some (Adjoint r)) before after text = TransformsInput (EmitsAdjoint r) before after text
IsWrittenTo (Some (Tangent r)) before after text = TransformsInput (EmitsTangent r) before after text
IsWrittenTo _ before after text = Unit {0}

-- the theorem of `adjoint`
abbrev pub IsHeadline : Option Command → Option (List ℕ) → Option (List ℕ) → Option (List ℕ) → Option (List ℕ) → Type 0
IsHeadline (Some (Adjoint r)) before after written_before written_after = Transforms (WritesAdjoint r) before after written_before written_after
IsHeadline _ before after written_before written_after = Unit {0}

-- the theorem of `tangent`
abbrev pub IsTangent : Option Command → Option (List ℕ) → Option (List ℕ) → Option (List ℕ) → Option (List ℕ) → Type 0
IsTangent (Some (Tangent r)) before after written_before written_after = Transforms (WritesTangent r) before after written_before written_after
IsTangent _ before after written_before written_after = Unit {0}

-- and how what both write looks
abbrev pub IsEmitted : Option Command → Option (List ℕ) → Option (List ℕ) → Option (List ℕ) → Option (List ℕ) → Type 0
IsEmitted (Some (Adjoint r)) before after written_before written_after = Transforms (EmitsAdjoint r) before after written_before written_after
IsEmitted (Some (Tangent r)) before after written_before written_after = Transforms (EmitsTangent r) before after written_before written_after
IsEmitted _ before after written_before written_after = Unit {0}

-- what was written is the short answer of a check of the sample, of which the text tells equal products
pub record Samples (n : ℕ) (written_before written_after : Option (List ℕ)) : Type 0 where
  pub text : List ℕ
  pub whole : written_after ≡ extended_by written_before text
  pub samples : SamplesAdjoint n text

-- the answer's text tells equal products of the dual run and of the adjoint, where they were asked for
abbrev pub IsComparedTo : Option Command → Option (List ℕ) → Option (List ℕ) → List ℕ → Type 0
IsComparedTo (Some (Check r vars outvars)) before after text = TransformsInput (ChecksAdjoint r vars outvars) before after text
IsComparedTo (Some (Sample n)) before after text = SamplesAdjoint n text
IsComparedTo _ before after text = Unit {0}

-- the theorem of `check`, and of `sample`
abbrev pub IsComparison : Option Command → Option (List ℕ) → Option (List ℕ) → Option (List ℕ) → Option (List ℕ) → Type 0
IsComparison (Some (Check r vars outvars)) before after written_before written_after = Transforms (ChecksAdjoint r vars outvars) before after written_before written_after
IsComparison (Some (Sample n)) before after written_before written_after = Samples n written_before written_after
IsComparison _ before after written_before written_after = Unit {0}
