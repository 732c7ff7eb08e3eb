-- ConditionUnique: a condition at the front of some lexemes has one reading, whatever stands for conditions.
use Rattle.std.proofs.Common.{◌≡◌, List, [], Option, Some, None, option_map, refl, sym, ap, subst, ◌∙◌}
use Rattle.std.specs.Prelude.{IfSome}
use Rattle.def_text.specs.Grammar.{Syntax, Sum, Derives}
use Rattle.def_text.specs.Condition.{Condition, denied, both, either, compared, Part, Whole, DerivesCondition, comparison, group, plain, not, item, and, whole, or}
use Rattle.def_text.specs.Machine.{value, Stops, syntaxes}
use Rattle.def_text.specs.Lexeme.{Lexeme}
use Rattle.def_text.proofs.Complete.{reads}
use Rattle.def_text.proofs.Unique.{reads_itself}
use Rattle.adj_parse_expression.specs.ConditionMachine.{TestAlgebra, test_value, conditions, beginning, Ends, read_test}
use Rattle.adj_parse_expression.specs.Reading.{read_condition}
use Rattle.adj_parse_expression.proofs.ConditionComplete.{some_same, none_some, relation_stops, stops-end, reads_test}
use Rattle.adj_parse_expression.proofs.ConditionSound.{is_read_test}

-- an expression that is derived stands for itself
term_itself : {ts rest : List Lexeme} {s : Syntax} → Derives Sum ts rest s → Stops rest → value syntaxes s ≡ s
term_itself {ts = ts} {rest = rest} {s = s} p stop =
    ap (λ f. f.0) (some_same (value syntaxes s, rest) (s, rest) (sym (reads Syntax syntaxes ts rest s p stop) ∙ reads_itself ts rest s p stop))

-- so does a condition
test_itself : {part : Part} {ts rest : List Lexeme} {c : Condition} → DerivesCondition part ts rest c → Stops rest → test_value conditions c ≡ c
test_itself (comparison {a = a} {b = b} {r = r} rel p q) stop = ap (λ s. compared r s (value syntaxes b)) (term_itself p (relation_stops rel)) ∙ ap (compared r a) (term_itself q stop)
test_itself (group p) stop = test_itself p refl
test_itself (plain p) stop = test_itself p stop
test_itself (not p) stop = ap denied (test_itself p stop)
test_itself (item p) stop = test_itself p stop
test_itself (and {c = c} {d = d} p q) stop = ap (λ e. both e (test_value conditions d)) (test_itself p refl) ∙ ap (both c) (test_itself q stop)
test_itself (whole p) stop = test_itself p stop
test_itself (or {c = c} {d = d} p q) stop = ap (λ e. either e (test_value conditions d)) (test_itself p refl) ∙ ap (either c) (test_itself q stop)

-- what is derived is read as itself
pub test_reads_itself : (lexemes rest : List Lexeme) (c : Condition) → DerivesCondition Whole lexemes rest c → Ends rest → read_condition lexemes ≡ Some (c, rest)
test_reads_itself lexemes rest c p end = reads_test conditions lexemes rest c p end ∙ ap (λ d. Some (d, rest)) (test_itself p (stops-end rest end))

-- and what is read is derived, up to what ends a condition
pub test_derived : (lexemes : List Lexeme) → IfSome (read_condition lexemes) (λ r. DerivesCondition Whole lexemes r.1 r.0 × Ends r.1)
test_derived lexemes = derived (read_condition lexemes) (is_read_test conditions lexemes)
  where
    derived : (o : Option (Condition × List Lexeme)) → IfSome o (λ r. (c : Condition) × DerivesCondition Whole lexemes r.1 c × (r.0 ≡ test_value conditions c) × Ends r.1) → IfSome o (λ r. DerivesCondition Whole lexemes r.1 r.0 × Ends r.1)
    derived None h = tt
    derived (Some r) h =
        let P : Condition → Type 0 = λ c. DerivesCondition Whole lexemes r.1 c in
        (subst P (sym (h.2 ∙ test_itself h.1 (stops-end r.1 h.3))) h.1, h.3)

pub test_itself_derived : (lexemes : List Lexeme) → IfSome (read_condition lexemes) (λ r. DerivesCondition Whole lexemes r.1 r.0)
test_itself_derived lexemes = first (read_condition lexemes) (test_derived lexemes)
  where
    first : (o : Option (Condition × List Lexeme)) → IfSome o (λ r. DerivesCondition Whole lexemes r.1 r.0 × Ends r.1) → IfSome o (λ r. DerivesCondition Whole lexemes r.1 r.0)
    first None h = tt
    first (Some r) h = h.0

-- what is derived at the front of some lexemes, up to what ends a condition, is one condition with one rest
pub one_condition : (lexemes rest others : List Lexeme) (c d : Condition) → DerivesCondition Whole lexemes rest c → DerivesCondition Whole lexemes others d → Ends rest → Ends others → (c ≡ d) × (rest ≡ others)
one_condition lexemes rest others c d p q e f =
    let pair = some_same (c, rest) (d, others) (sym (test_reads_itself lexemes rest c p e) ∙ test_reads_itself lexemes others d q f) in
    (ap (λ p. p.0) pair, ap (λ p. p.1) pair)

-- whatever stands for conditions, it is that of the condition read
pub same_reading : {X C : Type 0} (alg : TestAlgebra X C) (lexemes : List Lexeme) → read_test alg (beginning []) lexemes ≡ option_map (λ f. (test_value alg f.0, f.1)) (read_condition lexemes)
same_reading {C = C} alg lexemes = same (read_condition lexemes) (read_test alg (beginning []) lexemes) refl refl (test_derived lexemes) (is_read_test alg lexemes)
  where
    same : (o : Option (Condition × List Lexeme)) (p : Option (C × List Lexeme)) → read_condition lexemes ≡ o → read_test alg (beginning []) lexemes ≡ p
        → IfSome o (λ r. DerivesCondition Whole lexemes r.1 r.0 × Ends r.1) → IfSome p (λ r. (c : Condition) × DerivesCondition Whole lexemes r.1 c × (r.0 ≡ test_value alg c) × Ends r.1)
        → p ≡ option_map (λ f. (test_value alg f.0, f.1)) o
    same (Some f) p e h g k = sym h ∙ reads_test alg lexemes f.1 f.0 g.0 g.1
    same None (Some r) e h g k = absurd (none_some (k.0, r.1) (sym e ∙ test_reads_itself lexemes r.1 k.0 k.1 k.3))
    same None None e h g k = refl
