-- Worked programs and what exact analyses say of them, as worked out by hand. The head is P(X,N,Y), with X independent and Y dependent.
use Rattle.std.specs.Prelude.{[], ◌∷◌}
use Rattle.adj_tree.specs.Code.{plain, plus, times, quot, bin, pow, power_of, elem, none, more, assign, unmarked, with_count, count_from}
use Rattle.def_flow.specs.Problem.{Problem}
use Rattle.law_flow.specs.Computed.{Table, HasTable}
use Rattle.law_flow.specs.Writing.{name_a, name_b, name_i, name_j, name_k, name_m, name_n, name_q, name_r, name_t, name_x, name_y, num, the, set, count_to, if_less, while_less, call_of, subroutine, with_array, of_head, dropped, adjoint_only, kept_saving, both_saving, marks}

-- Y=X*X: its adjoint reads X
abbrev pub square_program : Problem
square_program = of_head (set name_y (bin times (the name_x) (the name_x)) ∷ []) []

abbrev pub square_marks : Table
square_marks = marks (adjoint_only ∷ []) ((name_x ∷ name_y ∷ []) ∷ []) ((name_x ∷ []) ∷ [])

abbrev pub Square : Type 0
Square = HasTable square_program square_marks

-- Y=2: nothing varies, so nothing is adjointed
abbrev pub constant_program : Problem
constant_program = of_head (set name_y (num 2) ∷ []) []

abbrev pub constant_marks : Table
constant_marks = marks (dropped ∷ []) ((name_x ∷ name_y ∷ []) ∷ []) ([] ∷ [])

abbrev pub Constant : Type 0
Constant = HasTable constant_program constant_marks

-- IF (N.LT.1) Y=X*X ELSE Y=2: the constant has nothing to set to 0
abbrev pub one_branch_program : Problem
one_branch_program = of_head (if_less (the name_n) (num 1) (set name_y (bin times (the name_x) (the name_x)) ∷ []) (set name_y (num 2) ∷ []) ∷ []) []

abbrev pub one_branch_marks : Table
one_branch_marks = marks (both_saving [] ∷ adjoint_only ∷ dropped ∷ []) ((name_x ∷ name_y ∷ []) ∷ []) ((name_x ∷ name_n ∷ []) ∷ [])

abbrev pub OneBranch : Type 0
OneBranch = HasTable one_branch_program one_branch_marks

-- Y=X; Y=1: the second sets the derivative to 0, and the first serves nothing
abbrev pub reset_by_constant_program : Problem
reset_by_constant_program = of_head (set name_y (the name_x) ∷ set name_y (num 1) ∷ []) []

abbrev pub reset_by_constant_marks : Table
reset_by_constant_marks = marks (dropped ∷ adjoint_only ∷ []) ((name_x ∷ name_y ∷ []) ∷ []) ([] ∷ [])

abbrev pub ResetByConstant : Type 0
ResetByConstant = HasTable reset_by_constant_program reset_by_constant_marks

-- Y=X*N: the adjoint reads the other factor alone
abbrev pub factor_program : Problem
factor_program = of_head (set name_y (bin times (the name_x) (the name_n)) ∷ []) []

abbrev pub factor_marks : Table
factor_marks = marks (adjoint_only ∷ []) ((name_x ∷ name_y ∷ []) ∷ []) ((name_n ∷ []) ∷ [])

abbrev pub Factor : Type 0
Factor = HasTable factor_program factor_marks

-- T=X+1; Y=X*X: T serves nothing
abbrev pub unused_program : Problem
unused_program = of_head (set name_t (bin plus (the name_x) (num 1)) ∷ set name_y (bin times (the name_x) (the name_x)) ∷ []) []

abbrev pub unused_marks : Table
unused_marks = marks (dropped ∷ adjoint_only ∷ []) ((name_x ∷ name_y ∷ []) ∷ []) ((name_x ∷ []) ∷ [])

abbrev pub Unused : Type 0
Unused = HasTable unused_program unused_marks

-- T=N+1; Y=X*T: T is read by the adjoint, so it is kept
abbrev pub kept_for_a_read_program : Problem
kept_for_a_read_program = of_head (set name_t (bin plus (the name_n) (num 1)) ∷ set name_y (bin times (the name_x) (the name_t)) ∷ []) []

abbrev pub kept_for_a_read_marks : Table
kept_for_a_read_marks = marks (kept_saving [] ∷ adjoint_only ∷ []) ((name_x ∷ name_y ∷ []) ∷ []) ((name_n ∷ []) ∷ [])

abbrev pub KeptForARead : Type 0
KeptForARead = HasTable kept_for_a_read_program kept_for_a_read_marks

-- T=X*X; T=T*T; Y=T*T: T is saved where it is overwritten by what reads it
abbrev pub saved_for_itself_program : Problem
saved_for_itself_program = of_head (set name_t (bin times (the name_x) (the name_x)) ∷ set name_t (bin times (the name_t) (the name_t)) ∷ set name_y (bin times (the name_t) (the name_t)) ∷ []) []

abbrev pub saved_for_itself_marks : Table
saved_for_itself_marks = marks (both_saving [] ∷ both_saving (name_t ∷ []) ∷ adjoint_only ∷ []) ((name_x ∷ name_y ∷ name_t ∷ []) ∷ []) ((name_x ∷ []) ∷ [])

abbrev pub SavedForItself : Type 0
SavedForItself = HasTable saved_for_itself_program saved_for_itself_marks

-- Y=X*N; N=N+1; Y=Y*N: N is held from its first read on
abbrev pub held_program : Problem
held_program = of_head (set name_y (bin times (the name_x) (the name_n)) ∷ set name_n (bin plus (the name_n) (num 1)) ∷ set name_y (bin times (the name_y) (the name_n)) ∷ []) []

abbrev pub held_marks : Table
held_marks = marks (adjoint_only ∷ kept_saving (name_n ∷ []) ∷ adjoint_only ∷ []) ((name_x ∷ name_y ∷ []) ∷ []) ((name_n ∷ []) ∷ [])

abbrev pub Held : Type 0
Held = HasTable held_program held_marks

-- Y=X*N; N=N+1; N=N*2; Y=Y*N: saved once, where it is first overwritten
abbrev pub held_no_further_program : Problem
held_no_further_program = of_head (set name_y (bin times (the name_x) (the name_n)) ∷ set name_n (bin plus (the name_n) (num 1)) ∷ set name_n (bin times (the name_n) (num 2)) ∷ set name_y (bin times (the name_y) (the name_n)) ∷ []) []

abbrev pub held_no_further_marks : Table
held_no_further_marks = marks (adjoint_only ∷ kept_saving (name_n ∷ []) ∷ kept_saving [] ∷ adjoint_only ∷ []) ((name_x ∷ name_y ∷ []) ∷ []) ((name_n ∷ []) ∷ [])

abbrev pub HeldNoFurther : Type 0
HeldNoFurther = HasTable held_no_further_program held_no_further_marks

-- Y=X*N; N=2; N=3; Y=Y*N: what is dropped overwrites nothing
abbrev pub held_past_dropped_program : Problem
held_past_dropped_program = of_head (set name_y (bin times (the name_x) (the name_n)) ∷ set name_n (num 2) ∷ set name_n (num 3) ∷ set name_y (bin times (the name_y) (the name_n)) ∷ []) []

abbrev pub held_past_dropped_marks : Table
held_past_dropped_marks = marks (adjoint_only ∷ dropped ∷ kept_saving (name_n ∷ []) ∷ adjoint_only ∷ []) ((name_x ∷ name_y ∷ []) ∷ []) ((name_n ∷ []) ∷ [])

abbrev pub HeldPastDropped : Type 0
HeldPastDropped = HasTable held_past_dropped_program held_past_dropped_marks

-- DO I=1,N; Y=Y+T; T=X: Y varies by the turn before
abbrev pub back_edge_program : Problem
back_edge_program = of_head (count_to name_i (the name_n) (set name_y (bin plus (the name_y) (the name_t)) ∷ set name_t (the name_x) ∷ []) unmarked ∷ []) []

abbrev pub back_edge_marks : Table
back_edge_marks = marks (both_saving [] ∷ adjoint_only ∷ adjoint_only ∷ []) ((name_x ∷ name_y ∷ name_t ∷ []) ∷ []) ((name_n ∷ []) ∷ [])

abbrev pub BackEdge : Type 0
BackEdge = HasTable back_edge_program back_edge_marks

-- Y=1; DO I=1,N; Y=Y*X: Y is read and overwritten in each turn
abbrev pub power_program : Problem
power_program = of_head (set name_y (num 1) ∷ count_to name_i (the name_n) (set name_y (bin times (the name_y) (the name_x)) ∷ []) unmarked ∷ []) []

abbrev pub power_marks : Table
power_marks = marks (kept_saving [] ∷ both_saving [] ∷ both_saving (name_y ∷ []) ∷ []) ((name_x ∷ name_y ∷ []) ∷ []) ((name_x ∷ name_n ∷ []) ∷ [])

abbrev pub Power : Type 0
Power = HasTable power_program power_marks

-- DO I=1,N; Y=Y+A(I)*X: the element and its subscript are read
abbrev pub index_program : Problem
index_program = of_head (count_to name_i (the name_n) (set name_y (bin plus (the name_y) (bin times (elem (plain name_a) (more (the name_i) none)) (the name_x))) ∷ []) unmarked ∷ []) []

abbrev pub index_marks : Table
index_marks = marks (both_saving [] ∷ adjoint_only ∷ []) ((name_x ∷ name_y ∷ []) ∷ []) ((name_n ∷ []) ∷ [])

abbrev pub Index : Type 0
Index = HasTable index_program index_marks

-- Y=X*I; DO I=1,N; Y=Y*2: the entry overwrites an I that is held
abbrev pub counter_saved_program : Problem
counter_saved_program = of_head (set name_y (bin times (the name_x) (the name_i)) ∷ count_to name_i (the name_n) (set name_y (bin times (the name_y) (num 2)) ∷ []) unmarked ∷ []) []

abbrev pub counter_saved_marks : Table
counter_saved_marks = marks (adjoint_only ∷ both_saving (name_i ∷ []) ∷ adjoint_only ∷ []) ((name_x ∷ name_y ∷ []) ∷ []) ((name_n ∷ []) ∷ [])

abbrev pub CounterSaved : Type 0
CounterSaved = HasTable counter_saved_program counter_saved_marks

-- I=X; Y=I; DO I=1,N; K=K+1: the DO sets the derivative of I to 0
abbrev pub counter_reset_program : Problem
counter_reset_program = of_head (set name_i (the name_x) ∷ set name_y (the name_i) ∷ count_to name_i (the name_n) (set name_k (bin plus (the name_k) (num 1)) ∷ []) unmarked ∷ []) []

abbrev pub counter_reset_marks : Table
counter_reset_marks = marks (adjoint_only ∷ adjoint_only ∷ both_saving [] ∷ dropped ∷ []) ((name_x ∷ name_y ∷ name_i ∷ []) ∷ []) ((name_n ∷ []) ∷ [])

abbrev pub CounterReset : Type 0
CounterReset = HasTable counter_reset_program counter_reset_marks

-- T=1; IF (N.LT.1) T=2; Y=X*T: the IF is kept for what it holds
abbrev pub dropped_in_a_branch_program : Problem
dropped_in_a_branch_program = of_head (set name_t (num 1) ∷ if_less (the name_n) (num 1) (set name_t (num 2) ∷ []) [] ∷ set name_y (bin times (the name_x) (the name_t)) ∷ []) []

abbrev pub dropped_in_a_branch_marks : Table
dropped_in_a_branch_marks = marks (kept_saving [] ∷ kept_saving [] ∷ kept_saving [] ∷ adjoint_only ∷ []) ((name_x ∷ name_y ∷ []) ∷ []) ((name_n ∷ []) ∷ [])

abbrev pub DroppedInABranch : Type 0
DroppedInABranch = HasTable dropped_in_a_branch_program dropped_in_a_branch_marks

-- Y=X/N: no derivative goes through a quotient
abbrev pub quotient_program : Problem
quotient_program = of_head (set name_y (bin quot (the name_x) (the name_n)) ∷ []) []

abbrev pub quotient_marks : Table
quotient_marks = marks (dropped ∷ []) ((name_x ∷ name_y ∷ []) ∷ []) ([] ∷ [])

abbrev pub Quotient : Type 0
Quotient = HasTable quotient_program quotient_marks

-- Y=X**1: the adjoint reads nothing
abbrev pub first_power_program : Problem
first_power_program = of_head (set name_y (pow (the name_x) 1) ∷ []) []

abbrev pub first_power_marks : Table
first_power_marks = marks (adjoint_only ∷ []) ((name_x ∷ name_y ∷ []) ∷ []) ([] ∷ [])

abbrev pub FirstPower : Type 0
FirstPower = HasTable first_power_program first_power_marks

-- Y=X**3: the adjoint reads the base
abbrev pub cube_program : Problem
cube_program = of_head (set name_y (pow (the name_x) 3) ∷ []) []

abbrev pub cube_marks : Table
cube_marks = marks (adjoint_only ∷ []) ((name_x ∷ name_y ∷ []) ∷ []) ((name_x ∷ []) ∷ [])

abbrev pub Cube : Type 0
Cube = HasTable cube_program cube_marks

-- Y=X**0: a constant
abbrev pub no_power_program : Problem
no_power_program = of_head (set name_y (pow (the name_x) 0) ∷ []) []

abbrev pub no_power_marks : Table
no_power_marks = marks (dropped ∷ []) ((name_x ∷ name_y ∷ []) ∷ []) ([] ∷ [])

abbrev pub NoPower : Type 0
NoPower = HasTable no_power_program no_power_marks

-- Y=X**N: the adjoint reads base and exponent
abbrev pub power_by_variable_program : Problem
power_by_variable_program = of_head (set name_y (power_of (the name_x) (the name_n)) ∷ []) []

abbrev pub power_by_variable_marks : Table
power_by_variable_marks = marks (adjoint_only ∷ []) ((name_x ∷ name_y ∷ []) ∷ []) ((name_x ∷ name_n ∷ []) ∷ [])

abbrev pub PowerByVariable : Type 0
PowerByVariable = HasTable power_by_variable_program power_by_variable_marks

-- Y=N**X: the exponent carries no derivative
abbrev pub varied_exponent_program : Problem
varied_exponent_program = of_head (set name_y (power_of (the name_n) (the name_x)) ∷ []) []

abbrev pub varied_exponent_marks : Table
varied_exponent_marks = marks (dropped ∷ []) ((name_x ∷ name_y ∷ []) ∷ []) ([] ∷ [])

abbrev pub VariedExponent : Type 0
VariedExponent = HasTable varied_exponent_program varied_exponent_marks

-- Y=1; K=0; DO WHILE (K.LT.N); Y=Y*X; K=K+1: the condition is used at each test
abbrev pub while_program : Problem
while_program = of_head (set name_y (num 1) ∷ set name_k (num 0) ∷ while_less (the name_k) (the name_n) (set name_y (bin times (the name_y) (the name_x)) ∷ set name_k (bin plus (the name_k) (num 1)) ∷ []) ∷ []) []

abbrev pub while_marks : Table
while_marks = marks (kept_saving [] ∷ kept_saving [] ∷ both_saving [] ∷ both_saving (name_y ∷ []) ∷ kept_saving [] ∷ []) ((name_x ∷ name_y ∷ []) ∷ []) ((name_x ∷ name_n ∷ []) ∷ [])

abbrev pub While : Type 0
While = HasTable while_program while_marks

-- Y=X; CALL Q(Y), which squares: the unit wants its dummy as it was
abbrev pub square_by_call_program : Problem
square_by_call_program = of_head (set name_y (the name_x) ∷ call_of name_q (name_y ∷ []) ∷ []) (subroutine name_q (name_a ∷ []) (set name_a (bin times (the name_a) (the name_a)) ∷ []) ∷ [])

abbrev pub square_by_call_marks : Table
square_by_call_marks = marks (both_saving [] ∷ adjoint_only ∷ adjoint_only ∷ []) ((name_x ∷ name_y ∷ []) ∷ (name_a ∷ []) ∷ []) ((name_x ∷ []) ∷ (name_a ∷ []) ∷ [])

abbrev pub SquareByCall : Type 0
SquareByCall = HasTable square_by_call_program square_by_call_marks

-- Y=X; CALL Q(Y), which sets it to 1: the unit overwrites a dummy that varies
abbrev pub reset_by_call_program : Problem
reset_by_call_program = of_head (set name_y (the name_x) ∷ call_of name_q (name_y ∷ []) ∷ []) (subroutine name_q (name_a ∷ []) (set name_a (num 1) ∷ []) ∷ [])

abbrev pub reset_by_call_marks : Table
reset_by_call_marks = marks (dropped ∷ adjoint_only ∷ adjoint_only ∷ []) ((name_x ∷ name_y ∷ []) ∷ (name_a ∷ []) ∷ []) ([] ∷ [] ∷ [])

abbrev pub ResetByCall : Type 0
ResetByCall = HasTable reset_by_call_program reset_by_call_marks

-- CALL Q(N), which adds 1; Y=X*N: the call is kept and has no adjoint
abbrev pub plain_call_program : Problem
plain_call_program = of_head (call_of name_q (name_n ∷ []) ∷ set name_y (bin times (the name_x) (the name_n)) ∷ []) (subroutine name_q (name_a ∷ []) (set name_a (bin plus (the name_a) (num 1)) ∷ []) ∷ [])

abbrev pub plain_call_marks : Table
plain_call_marks = marks (kept_saving [] ∷ adjoint_only ∷ dropped ∷ []) ((name_x ∷ name_y ∷ []) ∷ [] ∷ []) ((name_n ∷ []) ∷ [] ∷ [])

abbrev pub PlainCall : Type 0
PlainCall = HasTable plain_call_program plain_call_marks

-- Y=X*N; CALL Q(N), which adds 1; Y=Y*N: the call overwrites an N that is held
abbrev pub call_that_saves_program : Problem
call_that_saves_program = of_head (set name_y (bin times (the name_x) (the name_n)) ∷ call_of name_q (name_n ∷ []) ∷ set name_y (bin times (the name_y) (the name_n)) ∷ []) (subroutine name_q (name_a ∷ []) (set name_a (bin plus (the name_a) (num 1)) ∷ []) ∷ [])

abbrev pub call_that_saves_marks : Table
call_that_saves_marks = marks (adjoint_only ∷ kept_saving (name_n ∷ []) ∷ adjoint_only ∷ dropped ∷ []) ((name_x ∷ name_y ∷ []) ∷ [] ∷ []) ((name_n ∷ []) ∷ [] ∷ [])

abbrev pub CallThatSaves : Type 0
CallThatSaves = HasTable call_that_saves_program call_that_saves_marks

-- Y=X and a unit that is not called
abbrev pub not_called_program : Problem
not_called_program = of_head (set name_y (the name_x) ∷ []) (subroutine name_r (name_a ∷ []) (set name_a (bin times (the name_a) (the name_a)) ∷ []) ∷ [])

abbrev pub not_called_marks : Table
not_called_marks = marks (adjoint_only ∷ dropped ∷ []) ((name_x ∷ name_y ∷ []) ∷ [] ∷ []) ([] ∷ [] ∷ [])

abbrev pub NotCalled : Type 0
NotCalled = HasTable not_called_program not_called_marks

-- CALL Q(X,N), which doubles A(1) of A(M); Y=X(1): extents are wanted
abbrev pub extent_program : Problem
extent_program = of_head (call_of name_q (name_x ∷ name_n ∷ []) ∷ set name_y (elem (plain name_x) (more (num 1) none)) ∷ []) (with_array name_a name_m (subroutine name_q (name_a ∷ name_m ∷ []) (assign (plain name_a) (more (num 1) none) (bin times (elem (plain name_a) (more (num 1) none)) (num 2)) ∷ [])) ∷ [])

abbrev pub extent_marks : Table
extent_marks = marks (adjoint_only ∷ adjoint_only ∷ adjoint_only ∷ []) ((name_x ∷ name_y ∷ []) ∷ (name_a ∷ []) ∷ []) ((name_n ∷ []) ∷ (name_m ∷ []) ∷ [])

abbrev pub Extent : Type 0
Extent = HasTable extent_program extent_marks

-- DO I=1,N, marked with 2; CALL Q(I,X,Y), where B=B*A: the loop is reversed, and its members are needed before it
abbrev pub marked_loop_program : Problem
marked_loop_program = of_head (count_to name_i (the name_n) (call_of name_q (name_i ∷ name_x ∷ name_y ∷ []) ∷ []) (with_count 2) ∷ []) (subroutine name_q (name_j ∷ name_a ∷ name_b ∷ []) (set name_b (bin times (the name_b) (the name_a)) ∷ []) ∷ [])

abbrev pub marked_loop_marks : Table
marked_loop_marks = marks (both_saving [] ∷ adjoint_only ∷ adjoint_only ∷ []) ((name_x ∷ name_y ∷ []) ∷ (name_a ∷ name_b ∷ []) ∷ []) ((name_x ∷ name_n ∷ name_y ∷ []) ∷ (name_a ∷ name_b ∷ []) ∷ [])

abbrev pub MarkedLoop : Type 0
MarkedLoop = HasTable marked_loop_program marked_loop_marks

-- K=2; DO I=1,N, marked with K; CALL Q(I,X,Y), where B=B*A: a kept DO uses the name of its number of snapshots
abbrev pub named_count_program : Problem
named_count_program = of_head (set name_k (num 2) ∷ count_to name_i (the name_n) (call_of name_q (name_i ∷ name_x ∷ name_y ∷ []) ∷ []) (count_from (plain name_k)) ∷ []) (subroutine name_q (name_j ∷ name_a ∷ name_b ∷ []) (set name_b (bin times (the name_b) (the name_a)) ∷ []) ∷ [])

abbrev pub named_count_marks : Table
named_count_marks = marks (kept_saving [] ∷ both_saving [] ∷ adjoint_only ∷ adjoint_only ∷ []) ((name_x ∷ name_y ∷ []) ∷ (name_a ∷ name_b ∷ []) ∷ []) ((name_x ∷ name_n ∷ name_y ∷ []) ∷ (name_a ∷ name_b ∷ []) ∷ [])

abbrev pub NamedCount : Type 0
NamedCount = HasTable named_count_program named_count_marks
