-- StatementFaults: what is wrong with a statement before its grammar is looked at.
use Rattle.std.specs.Prelude.{◌≡◌, ◌≢◌, true, false, List, length, Some, None}
use Rattle.std.specs.List.{list_any}
use Rattle.adj_tree.specs.declared.fault.Refusal.{Refusal}
use Rattle.def_text.specs.Class.{class_of, is_matched}
use Rattle.def_text.specs.Limits.{Limits}
use Rattle.def_text.specs.Lined.{Lines}
use Rattle.def_text.specs.Stated.{tokens_of, is_too_long, is_marked_long}
use Rattle.def_text.specs.declared.stated.Kind.{Kind}
use Rattle.def_text.specs.declared.token.Token.{Token}
use Rattle.def_refused.specs.First.{code_at}

-- a statement as its lines give it, within limits; those round it don't matter
pub data StatementFault (limits : Limits) (before : List Lines) (s : Lines) (after : List Lines) : Refusal → Type 0 where
  -- it is of no class, or what stands behind the condition of a logical IF is of none
  unknown : length s.text ≢ 0 → class_of s.text ≡ None → StatementFault limits before s after (code_at 3 s.line)
  -- it is empty
  empty : length s.text ≡ 0 → StatementFault limits before s after (code_at 4 s.line)
  -- a parenthesis hasn't its other one
  unmatched : is_matched 0 s.text ≡ false → StatementFault limits before s after (code_at 4 s.line)
  -- behind the keyword something begins with no token
  untold : (kind : Kind) → class_of s.text ≡ Some kind → tokens_of kind s.text ≡ None → StatementFault limits before s after (code_at 4 s.line)
  -- a name has too many characters, or that in the directive before a DO
  long_name : (kind : Kind) (tokens : List Token) → class_of s.text ≡ Some kind → tokens_of kind s.text ≡ Some tokens → list_any (is_too_long limits.name) tokens ≡ true → StatementFault limits before s after (code_at 6 s.line)
  long_mark : (kind : Kind) → class_of s.text ≡ Some kind → is_marked_long limits.name kind s.advice.mark ≡ true → StatementFault limits before s after (code_at 6 s.line)
