-- WrittenSays: the characters of each written statement say it.
use Rattle.std.proofs.Common.{◌≡◌, ℕ, ◌≤◌, pos, negsuc, Bool, true, false, List, [], ◌∷◌, ◌++◌, map, None, length, refl, sym, ap, subst, ◌∙◌, arith, append_assoc, append-nil}
use Rattle.std.specs.Prelude.{codes}
use Rattle.std.specs.List.{flat_map}
use Rattle.std.specs.Fmt.{decimal}
use Rattle.std.proofs.lemmas.Bool.Decides.{Decides-int_eq}
use Rattle.adj_tree.specs.Code.{Var, plain, shadow, helper, Term, Terms, lit, var, elem, neg, bin, pow, power_of, abs, none, more, Runtime, push_word, pop_word, push_array, pop_array, push_control, pop_control, zero_array, begin_reversal, count_actions, give_action, end_reversal, unmarked, Act, assign, call, runtime, Extent, fixed, given, Declaration}
use Rattle.adj_tree.specs.Code as trees
use Rattle.def_text.specs.Char.{comma, equals}
use Rattle.def_text.specs.Form as forms
use Rattle.def_text.specs.Form.{subroutine, integers, simple, opens_do}
use Rattle.def_text.specs.Statement as statements
use Rattle.def_text.specs.Statement.{ReadsPlace, ReadsCall, ReadsExtent, ReadsItems, ReadsRange, Range, called, called_as, runtime_call}
use Rattle.def_text.specs.Text.{var_text, behind_commas, bracketed, term_text, term_texts, place_text, runtime_name, runtime_actuals, is_one, step_text, extent_text}
use Rattle.def_text.specs.Lexeme.{Lexeme, Named, Digits, Mark}
use Rattle.def_text.specs.Written.{IsName, IsVariable, IsPlace, IsActualPlace, IsWrittenTerm, AreWrittenTerms, IsWrittenRuntime, IsWrittenExtent}
use Rattle.def_text.specs.declared.stated.Kind.TheVariants as classes
use Rattle.def_text.specs.declared.token.TokenKind.TheVariants.{Right, Comma, Equals}
use Rattle.def_text.proofs.Spelled.{spelling, is_name}
use Rattle.def_text.proofs.Plain.{AreNames, name_lexemes, head_lexemes, is_subroutine}
use Rattle.def_text.proofs.Derived.{head_derived}
use Rattle.def_text.proofs.Printed.{SaysChars}
use Rattle.def_text.proofs.Placed.{item_of}
use Rattle.def_text.proofs.Sayings.{says_lexemes, says_named}
use Rattle.def_text.proofs.TermLexemes.{term_lexemes, bracketed_lexemes}
use Rattle.def_text.proofs.TermDerived.{number_of-decimal, reads_term, reads_terms, reads_one, reads_two}
use Rattle.def_text.proofs.TermSpaced.{is_name-name}
use Rattle.def_text.proofs.Assigned.{assignment_spelled, is_assigned}
use Rattle.def_text.proofs.Opened.{do_lexemes, step_lexemes, step_chars, do_spelled, is_do_statement}
use Rattle.def_text.proofs.Called.{call_lexemes, call_spelled, is_called, AreExtents, extent_lexeme, declared_lexemes, declared_spelled, is_declared}

-- the lexemes of a place
place_reads : (x : List ℕ) (s : Terms) (us : List Lexeme) → IsPlace (plain x) s → ReadsPlace (Named x ∷ bracketed_lexemes s us) us (plain x) s
place_reads x none us h = statements.ReadsPlace.scalar
place_reads x (more a none) us h = statements.ReadsPlace.element (reads_one a us h.2.0) (omega arith)
place_reads x (more a (more b none)) us h = statements.ReadsPlace.element (reads_two a b us h.2.0 h.2.1.0) (omega arith)
place_reads x (more a (more b (more c s))) us h = absurd h.1

place_terms : (x : List ℕ) (s : Terms) → IsPlace (plain x) s → AreWrittenTerms s
place_terms x none h = tt
place_terms x (more a s) h = h.2

-- an assignment
pub says_assign : (x : Var) (s : Terms) (e : Term) → IsPlace x s → IsWrittenTerm e → SaysChars unmarked (place_text x s ++ equals ∷ term_text e) (simple (assign x s e))
says_assign (plain x) s e h g =
    let are = append_assoc x (bracketed (term_texts s)) (61 ∷ term_text e) ∙ sym (assignment_spelled (plain x) s e (place_terms x s h) g) in
    says_named unmarked classes.Assign x (bracketed_lexemes s (Mark Equals ∷ term_lexemes e [])) (place_text (plain x) s ++ equals ∷ term_text e) (simple (assign (plain x) s e)) are (is_assigned (plain x) s e h g) (forms.ReadsForm.assigned (statements.ReadsAssignment.assignment (place_reads x s (Mark Equals ∷ term_lexemes e []) h) (reads_term e [] g)))
says_assign (shadow x) none e h g = absurd h
says_assign (shadow x) (more a s) e h g = absurd h.0
says_assign (helper r k) none e h g = absurd h
says_assign (helper r k) (more a s) e h g = absurd h.0

call_reads : (x : List ℕ) (es : Terms) → AreWrittenTerms es → ReadsCall (call_lexemes x es) (called x es)
call_reads x none h = statements.ReadsCall.alone
call_reads x (more a others) h = statements.ReadsCall.actuals (reads_terms a others [] h).1

says_called : (x : List ℕ) (es : Terms) → is_name x ≡ true → AreWrittenTerms es → SaysChars unmarked (codes "CALL " ++ x ++ bracketed (term_texts es)) (simple (called x es))
says_called x es n h =
    says_lexemes unmarked classes.Call 67 (codes "ALL ") (codes "CALL") (call_lexemes x es) (codes "CALL " ++ x ++ bracketed (term_texts es)) (simple (called x es)) (ap (λ xs. codes "CALL " ++ xs) (sym (call_spelled x es h))) refl refl refl (is_called x es n h) (forms.ReadsForm.calls (call_reads x es h))

-- a CALL of a unit
pub says_call : (x : List ℕ) (es : Terms) → IsName x → AreWrittenTerms es → runtime_call x es ≡ None → SaysChars unmarked (codes "CALL " ++ x ++ bracketed (term_texts es)) (simple (call x es))
says_call x es n h e =
    let P : Act → Type 0 = λ a. SaysChars unmarked (codes "CALL " ++ x ++ bracketed (term_texts es)) (simple a) in
    subst P (ap (called_as x es) e) (says_called x es (is_name-name x n) h)

-- the actuals of a call of the runtime
abbrev place_term : Var → Terms → Term
place_term x none = var x
place_term x (more a s) = elem x (more a s)

abbrev runtime_terms : Runtime → Terms
runtime_terms (push_word x s) = more (place_term x s) none
runtime_terms (pop_word x s) = more (place_term x s) none
runtime_terms (push_array x) = more (var x) none
runtime_terms (pop_array x) = more (var x) none
runtime_terms (push_control e) = more e none
runtime_terms (pop_control x) = more (var x) none
runtime_terms (zero_array x) = more (var x) none
runtime_terms (begin_reversal l s) = more l (more s none)
runtime_terms (count_actions l s n) = more l (more s (more (var n) none))
runtime_terms (give_action l s k a f t) = more l (more s (more k (more (var a) (more (var f) (more (var t) none)))))
runtime_terms end_reversal = none

place_term_text : (x : Var) (s : Terms) → term_text (place_term x s) ≡ place_text x s
place_term_text x none = sym (append-nil (var_text x))
place_term_text x (more a s) = refl

place_term_written : (x : Var) (s : Terms) → IsActualPlace x s → IsWrittenTerm (place_term x s)
place_term_written x none h = h
place_term_written x (more a s) h = h

runtime_texts : (r : Runtime) → term_texts (runtime_terms r) ≡ runtime_actuals r
runtime_texts (push_word x s) = ap (λ t. t ∷ []) (place_term_text x s)
runtime_texts (pop_word x s) = ap (λ t. t ∷ []) (place_term_text x s)
runtime_texts (push_array x) = refl
runtime_texts (pop_array x) = refl
runtime_texts (push_control e) = refl
runtime_texts (pop_control x) = refl
runtime_texts (zero_array x) = refl
runtime_texts (begin_reversal l s) = refl
runtime_texts (count_actions l s n) = refl
runtime_texts (give_action l s k a f t) = refl
runtime_texts end_reversal = refl

runtime_written : (r : Runtime) → IsWrittenRuntime r → AreWrittenTerms (runtime_terms r)
runtime_written (push_word x s) h = (place_term_written x s h, tt)
runtime_written (pop_word x s) h = (place_term_written x s h, tt)
runtime_written (push_array x) h = (h, tt)
runtime_written (pop_array x) h = (h, tt)
runtime_written (push_control e) h = (h, tt)
runtime_written (pop_control x) h = (h, tt)
runtime_written (zero_array x) h = (h, tt)
runtime_written (begin_reversal l s) h = (h.0, (h.1, tt))
runtime_written (count_actions l s n) h = (h.0, (h.1, (h.2, tt)))
runtime_written (give_action l s k a f t) h = (h.0, (h.1, (h.2, (h.3, (h.4, (h.5, tt))))))
runtime_written end_reversal h = tt

-- they read as the call
runtime_reads : (r : Runtime) → called (runtime_name r) (runtime_terms r) ≡ runtime r
runtime_reads (push_word x none) = refl
runtime_reads (push_word x (more a s)) = refl
runtime_reads (pop_word x none) = refl
runtime_reads (pop_word x (more a s)) = refl
runtime_reads (push_array x) = refl
runtime_reads (pop_array x) = refl
runtime_reads (push_control e) = refl
runtime_reads (pop_control x) = refl
runtime_reads (zero_array x) = refl
runtime_reads (begin_reversal l s) = refl
runtime_reads (count_actions l s n) = refl
runtime_reads (give_action l s k a f t) = refl
runtime_reads end_reversal = refl

runtime_named : (r : Runtime) → is_name (runtime_name r) ≡ true
runtime_named (push_word x s) = refl
runtime_named (pop_word x s) = refl
runtime_named (push_array x) = refl
runtime_named (pop_array x) = refl
runtime_named (push_control e) = refl
runtime_named (pop_control x) = refl
runtime_named (zero_array x) = refl
runtime_named (begin_reversal l s) = refl
runtime_named (count_actions l s n) = refl
runtime_named (give_action l s k a f t) = refl
runtime_named end_reversal = refl

-- a call of the runtime
pub says_runtime : (r : Runtime) → IsWrittenRuntime r → SaysChars unmarked (codes "CALL " ++ runtime_name r ++ bracketed (runtime_actuals r)) (simple (runtime r))
says_runtime r h =
    let P : Act → Type 0 = λ a. SaysChars unmarked (codes "CALL " ++ runtime_name r ++ bracketed (term_texts (runtime_terms r))) (simple a) in
    let Q : List (List ℕ) → Type 0 = λ ts. SaysChars unmarked (codes "CALL " ++ runtime_name r ++ bracketed ts) (simple (runtime r)) in
    subst Q (runtime_texts r) (subst P (runtime_reads r) (says_called (runtime_name r) (runtime_terms r) (runtime_named r) (runtime_written r h)))

-- an extent
extent_reads : (a : Extent) (rest : List Lexeme) → IsWrittenExtent a → ReadsExtent (extent_lexeme a ∷ rest) rest a
extent_reads (fixed (pos n)) rest h =
    let P : ℕ → Type 0 = λ k. ReadsExtent (Digits (decimal n) ∷ rest) rest (fixed (pos k)) in
    subst P (number_of-decimal n (omega arith)) statements.ReadsExtent.literal
extent_reads (fixed (negsuc n)) rest h = absurd h
extent_reads (given x) rest h = statements.ReadsExtent.name

items_reads : (x : List ℕ) (es : List Extent) → length es ≤ 2 → AreExtents es → ReadsItems (declared_lexemes x es) (record { name = x; extents = es } ∷ [])
items_reads x [] l h = statements.ReadsItems.last statements.ReadsItem.scalar
items_reads x (a ∷ []) l h = statements.ReadsItems.last (statements.ReadsItem.row (extent_reads a (Mark Right ∷ []) h.0))
items_reads x (a ∷ b ∷ []) l h = statements.ReadsItems.last (statements.ReadsItem.table (extent_reads a (Mark Comma ∷ extent_lexeme b ∷ Mark Right ∷ []) h.0) (extent_reads b (Mark Right ∷ []) h.1.0))
items_reads x (a ∷ b ∷ c ∷ es) l h = absurd (omega arith)

-- a declaration
pub says_declaration : (d : Declaration) → IsName d.name → length d.extents ≤ 2 → AreExtents d.extents → SaysChars unmarked (codes "INTEGER*8 " ++ d.name ++ bracketed (map extent_text d.extents)) (integers (item_of d ∷ []))
says_declaration d n l h =
    says_lexemes unmarked classes.Integer 73 (codes "NTEGER*8 ") (codes "INTEGER*8") (declared_lexemes d.name d.extents) (codes "INTEGER*8 " ++ d.name ++ bracketed (map extent_text d.extents)) (integers (item_of d ∷ [])) (ap (λ xs. codes "INTEGER*8 " ++ xs) (sym (declared_spelled d.name d.extents l h))) refl refl refl (is_declared d.name d.extents (is_name-name d.name n) l h) (forms.ReadsForm.declaration (items_reads d.name d.extents l h))

-- a SUBROUTINE
names_spelled : (x : List ℕ) (xs : List (List ℕ)) → flat_map spelling (name_lexemes (x ∷ xs) (Mark Right ∷ [])) ≡ x ++ behind_commas xs
names_spelled x [] = refl
names_spelled x (y ∷ ys) = ap (λ zs. x ++ 44 ∷ zs) (names_spelled y ys)

head_spelled : (x : List ℕ) (ds : List (List ℕ)) → flat_map spelling (head_lexemes x ds) ≡ x ++ bracketed ds
head_spelled x [] = refl
head_spelled x (d ∷ ds) = ap (λ zs. x ++ 40 ∷ zs) (names_spelled d ds)

pub says_heading : (x : List ℕ) (ds : List (List ℕ)) → IsName x → AreNames ds → SaysChars unmarked (codes "SUBROUTINE " ++ x ++ bracketed ds) (subroutine x ds)
says_heading x ds n h =
    says_lexemes unmarked classes.Subroutine 83 (codes "UBROUTINE ") (codes "SUBROUTINE") (head_lexemes x ds) (codes "SUBROUTINE " ++ x ++ bracketed ds) (subroutine x ds) (ap (λ xs. codes "SUBROUTINE " ++ xs) (sym (head_spelled x ds))) refl refl refl (is_subroutine x ds (is_name-name x n) h) (forms.ReadsForm.heading (head_derived x ds))

-- a step that is left out is the literal 1
one_is : (c : Term) → is_one c ≡ true → c ≡ lit (pos 1)
one_is (lit n) e = ap lit ((Decides-int_eq n (pos 1)).0 e)
one_is (var x) e = absurd cc
one_is (elem x s) e = absurd cc
one_is (neg a) e = absurd cc
one_is (bin op a b) e = absurd cc
one_is (pow a k) e = absurd cc
one_is (power_of a b) e = absurd cc
one_is (abs a) e = absurd cc

abbrev range : Var → Term → Term → Term → Range
range x a b c = record { counter = x; from = a; to = b; by = c }

range_reads : (x : List ℕ) (a b c : Term) (l : Bool) → is_one c ≡ l → IsWrittenTerm a → IsWrittenTerm b → IsWrittenTerm c → ReadsRange (Named x ∷ Mark Equals ∷ term_lexemes a (Mark Comma ∷ term_lexemes b (step_lexemes l c []))) (range (plain x) a b c)
range_reads x a b c true e h g k =
    let P : Term → Type 0 = λ d. ReadsRange (Named x ∷ Mark Equals ∷ term_lexemes a (Mark Comma ∷ term_lexemes b [])) (range (plain x) a b d) in
    subst P (sym (one_is c e)) (statements.ReadsRange.by_one (reads_term a (Mark Comma ∷ term_lexemes b []) h) (reads_term b [] g))
range_reads x a b c false e h g k = statements.ReadsRange.by_step (reads_term a (Mark Comma ∷ term_lexemes b (Mark Comma ∷ term_lexemes c [])) h) (reads_term b (Mark Comma ∷ term_lexemes c []) g) (reads_term c [] k)

step_chars-text : (l : Bool) (c : Term) → is_one c ≡ l → step_text c ≡ step_chars l c
step_chars-text true c e = rw e refl
step_chars-text false c e = rw e refl

-- a DO behind a directive with this mark, or without one
pub says_do : (m : trees.Mark) (x : Var) (a b c : Term) → IsVariable x → IsWrittenTerm a → IsWrittenTerm b → IsWrittenTerm c → SaysChars m (codes "DO " ++ var_text x ++ equals ∷ term_text a ++ comma ∷ term_text b ++ step_text c) (opens_do None (range x a b c) m)
says_do m (plain x) a b c v h g k =
    let spelled = do_spelled (plain x) a b c h g k in
    let regroup : codes "DO " ++ x ++ equals ∷ term_text a ++ comma ∷ term_text b ++ step_text c ≡ codes "DO " ++ (x ++ 61 ∷ (term_text a ++ 44 ∷ (term_text b ++ step_text c))) = simp append_assoc in
    let are = regroup ∙ ap (λ zs. codes "DO " ++ (x ++ 61 ∷ (term_text a ++ 44 ∷ (term_text b ++ zs)))) (step_chars-text (is_one c) c refl) ∙ ap (λ zs. codes "DO " ++ zs) (sym spelled) in
    says_lexemes m classes.Do 68 (codes "O ") (codes "DO") (do_lexemes (plain x) a b c) (codes "DO " ++ x ++ equals ∷ term_text a ++ comma ∷ term_text b ++ step_text c) (opens_do None (range (plain x) a b c) m) are refl refl refl (is_do_statement (plain x) a b c v h g k) (forms.ReadsForm.begins (statements.ReadsDo.unlabelled (range_reads x a b c (is_one c) refl h g k)))
says_do m (shadow x) a b c v h g k = absurd v
says_do m (helper r i) a b c v h g k = absurd v
