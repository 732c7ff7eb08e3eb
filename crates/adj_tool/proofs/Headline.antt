-- A call whose answer is the text of an adjoint or of a tangent has the property of the headline, and one whose answer tells equal products that of a comparison.
use Rattle.std.proofs.Common.{◌≡◌, ℕ, List, Option, Some, None}
use Rattle.adj_io.specs.Bytes.{extended_by}
use Rattle.adj_tool.specs.Arguments.{Command, Adjoint, Tangent, Plan, Run, Check, Jacobian, Schedule, Sample}
use Rattle.adj_tool.specs.Headline.{WritesAdjoint, WritesTangent, EmitsAdjoint, EmitsTangent}
use Rattle.adj_tool.specs.Check.{ChecksAdjoint}
use Rattle.adj_tool.specs.Tool.{IsComparedTo, IsComparison, IsEmitted, IsHeadline, IsTangent, IsWrittenTo, Transforms, TransformsInput}

transforms : (Is Other : List ℕ → List ℕ → Type 0) → ((bytes text : List ℕ) → Is bytes text → Other bytes text) → (before after written_before written_after : Option (List ℕ)) (text : List ℕ) → TransformsInput Is before after text → written_after ≡ extended_by written_before text → Transforms Other before after written_before written_after
transforms Is Other so before after wb wa text h w = record {
  bytes = h.bytes;
  were_left = h.were_left;
  to_end = h.to_end;
  text = text;
  whole = w;
  is = so h.bytes text h.is;
}

pub headline : (asked : Option Command) (before after written_before written_after : Option (List ℕ)) (text : List ℕ) → IsWrittenTo asked before after text → written_after ≡ extended_by written_before text → IsHeadline asked before after written_before written_after
headline None before after wb wa text h w = tt
headline (Some (Plan r)) before after wb wa text h w = tt
headline (Some (Run r)) before after wb wa text h w = tt
headline (Some (Check r vars outvars)) before after wb wa text h w = tt
headline (Some (Jacobian r vars outvars)) before after wb wa text h w = tt
headline (Some (Schedule l m)) before after wb wa text h w = tt
headline (Some (Sample n)) before after wb wa text h w = tt
headline (Some (Tangent r)) before after wb wa text h w = tt
headline (Some (Adjoint r)) before after wb wa text h w = transforms (EmitsAdjoint r) (WritesAdjoint r) (λ b t x. x.adjoint) before after wb wa text h w

pub tangent : (asked : Option Command) (before after written_before written_after : Option (List ℕ)) (text : List ℕ) → IsWrittenTo asked before after text → written_after ≡ extended_by written_before text → IsTangent asked before after written_before written_after
tangent None before after wb wa text h w = tt
tangent (Some (Plan r)) before after wb wa text h w = tt
tangent (Some (Run r)) before after wb wa text h w = tt
tangent (Some (Check r vars outvars)) before after wb wa text h w = tt
tangent (Some (Jacobian r vars outvars)) before after wb wa text h w = tt
tangent (Some (Schedule l m)) before after wb wa text h w = tt
tangent (Some (Sample n)) before after wb wa text h w = tt
tangent (Some (Adjoint r)) before after wb wa text h w = tt
tangent (Some (Tangent r)) before after wb wa text h w = transforms (EmitsTangent r) (WritesTangent r) (λ b t x. x.tangent) before after wb wa text h w

pub emitted : (asked : Option Command) (before after written_before written_after : Option (List ℕ)) (text : List ℕ) → IsWrittenTo asked before after text → written_after ≡ extended_by written_before text → IsEmitted asked before after written_before written_after
emitted None before after wb wa text h w = tt
emitted (Some (Plan r)) before after wb wa text h w = tt
emitted (Some (Run r)) before after wb wa text h w = tt
emitted (Some (Check r vars outvars)) before after wb wa text h w = tt
emitted (Some (Jacobian r vars outvars)) before after wb wa text h w = tt
emitted (Some (Schedule l m)) before after wb wa text h w = tt
emitted (Some (Sample n)) before after wb wa text h w = tt
emitted (Some (Adjoint r)) before after wb wa text h w = transforms (EmitsAdjoint r) (EmitsAdjoint r) (λ b t x. x) before after wb wa text h w
emitted (Some (Tangent r)) before after wb wa text h w = transforms (EmitsTangent r) (EmitsTangent r) (λ b t x. x) before after wb wa text h w

pub comparison : (asked : Option Command) (before after written_before written_after : Option (List ℕ)) (text : List ℕ) → IsComparedTo asked before after text → written_after ≡ extended_by written_before text → IsComparison asked before after written_before written_after
comparison None before after wb wa text h w = tt
comparison (Some (Adjoint r)) before after wb wa text h w = tt
comparison (Some (Tangent r)) before after wb wa text h w = tt
comparison (Some (Plan r)) before after wb wa text h w = tt
comparison (Some (Run r)) before after wb wa text h w = tt
comparison (Some (Jacobian r vars outvars)) before after wb wa text h w = tt
comparison (Some (Schedule l m)) before after wb wa text h w = tt
comparison (Some (Sample n)) before after wb wa text h w = record { text = text; whole = w; samples = h }
comparison (Some (Check r vars outvars)) before after wb wa text h w = transforms (ChecksAdjoint r vars outvars) (ChecksAdjoint r vars outvars) (λ b t x. x) before after wb wa text h w
