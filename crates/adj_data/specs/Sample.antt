-- The sample: a program with a marked time loop over a field, and data for it, made from a number. (docs/COMMANDS.md, "`sample`")
use Rattle.std.specs.Prelude.{ℕ, zero, suc, ◌+◌, ◌*◌, ◌/◌, ◌%◌, ◌^◌, List, [], ◌∷◌, ◌++◌, codes, decimal}
use Rattle.def_text.specs.Char.{blank}

-- ---- sizes

-- the length of the field, the number of time steps, and the number of snapshots
abbrev pub field_of : ℕ → ℕ
field_of n = 16 + n % 241

abbrev pub steps_of : ℕ → ℕ
steps_of n = 32 + (n / 241) % 481

abbrev pub snapshots_of : ℕ → ℕ
snapshots_of n = 3 + n % 6

-- ---- numbers that are drawn

-- the state after a draw, and the number that is drawn
abbrev pub drawn : ℕ → ℕ
drawn z = (z * 6364136223846793005 + 1442695040888963407) % 2 ^ 64

abbrev pub number_drawn : ℕ → ℕ
number_drawn z = drawn z / 2 ^ 33

-- the state after some draws
abbrev pub state_after : ℕ → ℕ → ℕ
state_after z zero = z
state_after z (suc k) = drawn (state_after z k)

-- the numbers of some draws, each after a blank
abbrev pub draws_text : ℕ → ℕ → List ℕ
draws_text z zero = []
draws_text z (suc k) = draws_text z k ++ (blank ∷ decimal (number_drawn (state_after z k)))

-- ---- the text and its data

-- some bytes, and then a number
abbrev pub with_number : List ℕ → ℕ → List ℕ
with_number front n = front ++ decimal n

-- the program as far as its directive, and its rest with the line before the data
abbrev pub sample_front : ℕ → List ℕ
sample_front n = with_number (codes "      SUBROUTINE SAMPLE(N,U,S)\n      INTEGER*8 N,U(N),S,V(") (field_of n) ++ with_number (codes "),K,I\nC$AD BINOMIAL-CKP ") (snapshots_of n)

abbrev pub sample_end : List ℕ
sample_end = codes "\n      DO I=2,N\n      V(I)=U(I-1)*U(I)+K\n      END DO\n      DO I=2,N\n      U(I)=V(I)\n      END DO\n      END DO\n      S=0\n      DO I=1,N\n      S=S+U(I)*U(I)\n      END DO\n      END\n$DATA\n"

abbrev pub sample_body : ℕ → List ℕ
sample_body n = with_number (codes "\n      DO K=1,") (steps_of n) ++ sample_end

abbrev pub sample_program : ℕ → List ℕ
sample_program n = sample_front n ++ sample_body n

-- a title, and then the numbers of some draws
abbrev pub item_drawn : List ℕ → ℕ → ℕ → List ℕ
item_drawn title z k = title ++ draws_text z k

-- the field, its tangents and the adjoint of the result are drawn one after the other
abbrev pub sample_data : ℕ → List ℕ
sample_data n =
    let f = field_of n in
    let z = state_after n f in
    with_number (codes "N ") f ++ (item_drawn (codes "\nU") n f ++ (item_drawn (codes "\nS 0\nU.D") z f ++ (item_drawn (codes "\nS.B") (state_after z f) 1 ++ codes "\n")))

abbrev pub sample_bytes : ℕ → List ℕ
sample_bytes n = sample_program n ++ sample_data n
