-- TreeFaults: what is wrong with a statement and its place behind those before it.
use Rattle.std.specs.Prelude.{◌≡◌, ℕ, suc, nat_le, true, false, ◌&&◌, List, [], ◌∷◌, length, reverse, Option, Some, None, if◌then◌else◌}
use Rattle.adj_tree.specs.View.{mark_of}
use Rattle.adj_tree.specs.declared.fault.Refusal.{Refusal}
use Rattle.def_text.specs.Form.{Statement}
use Rattle.def_text.specs.Reads.{ReadsAll}
use Rattle.def_text.specs.Lexeme.{Lexeme, lexemes_of}
use Rattle.def_text.specs.declared.mode.Mode.{Mode}
use Rattle.def_text.specs.declared.stated.Kind.{Kind}
use Rattle.def_text.specs.declared.stated.Stated.{Stated}
use Rattle.adj_parse_statement.specs.Phrase.{Phrase, Says}
use Rattle.adj_parse_statement.specs.Said.{phrase_large, phrase_deep, form}
use Rattle.adj_parse.specs.Order.{is_end, is_heading, opens_block}
use Rattle.adj_parse.specs.Trees.{bounds_of, has_stray_mark, is_full}
use Rattle.def_refused.specs.First.{code_at, limit_at}
use Rattle.def_refused.specs.Opened.{opened, leaves_loop, misses_loop}
use Rattle.def_refused.specs.Following.{Continues, CanFollow}

-- the lexemes behind the keyword of a statement
abbrev pub lexemes : Stated → List Lexeme
lexemes t = lexemes_of t.text t.tokens

-- how many of these statements are END, so how many units are before
abbrev pub ends_in : List Stated → ℕ
ends_in [] = 0
ends_in (t ∷ ts) = if is_end t.kind then suc (ends_in ts) else ends_in ts

-- the first limit that a statement of the class passes, with so many units and statements before it and so many open blocks round it: that on units, on statements,
-- on the depth of its expressions and conditions, on nesting
abbrev pub passed : Mode → ℕ → ℕ → ℕ → Kind → Phrase → Option ℕ
passed mode units statements blocks kind p =
    if is_heading kind && is_full (bounds_of mode).units units then (bounds_of mode).units
    else (if nat_le (bounds_of mode).statements statements then Some (bounds_of mode).statements
    else (if phrase_deep (bounds_of mode).depth p then Some (bounds_of mode).depth
    else (if opens_block kind && nat_le (bounds_of mode).nesting blocks then Some (bounds_of mode).nesting
    else None)))

-- a statement in a mode, with those before it, the nearest first, and those behind it; what the ones before say reads
pub data TreeFault (mode : Mode) (before : List Stated) (t : Stated) (after : List Stated) : Refusal → Type 0 where
  -- a directive that gives snapshots stands before another statement than a DO, or one that splits a call before another than a CALL
  stray : has_stray_mark t ≡ true → TreeFault mode before t after (code_at 20 t.mark_line)
  -- what stands behind the keyword hasn't the form of the class
  formless : ((p : Phrase) → Says t.kind (lexemes t) p → ⊥) → TreeFault mode before t after (code_at 4 t.line)
  -- the text ends with another statement than END
  cut_off : after ≡ [] → is_end t.kind ≡ false → TreeFault mode before t after (code_at 4 t.line)
  -- the statements before have a continuation that reads, and those up to this one have none, its label aside; other than by closing a block round a DO with a label
  misplaced : (statements : List Statement) → ReadsAll (reverse before) statements → Continues statements → (CanFollow t.kind statements → ⊥) → leaves_loop t.kind (opened [] statements) ≡ false → TreeFault mode before t after (code_at 4 t.line)
  -- a number is above the greatest word
  large : (p : Phrase) → Says t.kind (lexemes t) p → phrase_large p ≡ true → TreeFault mode before t after (code_at 5 t.line)
  -- it closes a block round a DO with a label, which is the innermost open one
  leaves : (statements : List Statement) → ReadsAll (reverse before) statements → leaves_loop t.kind (opened [] statements) ≡ true → TreeFault mode before t after (code_at 10 t.line)
  -- it has the label of an open DO, and is no CONTINUE or that DO isn't the innermost open block
  misses : (statements : List Statement) → ReadsAll (reverse before) statements → misses_loop t.kind t.label (opened [] statements) ≡ true → TreeFault mode before t after (code_at 10 t.line)
  -- a limit of the mode is passed
  beyond : (statements : List Statement) (p : Phrase) (limit : ℕ) → ReadsAll (reverse before) statements → Says t.kind (lexemes t) p → passed mode (ends_in before) (length before) (length (opened [] statements)) t.kind p ≡ Some limit → TreeFault mode before t after (limit_at limit t.line)
  -- a literal exponent is none
  exponent : (p : Phrase) → Says t.kind (lexemes t) p → form (mark_of t.mark) p ≡ None → TreeFault mode before t after (code_at 25 t.line)
