-- What two words of a reading name: "all but eod write two words in the reading: construct number, first bit". `ws` are the table's words,
-- `fs` the frame's bytes, `rs` the reading's words. Any of them are answered.
-- Assumes nothing.
use Rattle.std.specs.Prelude.{ℕ, suc, ◌+◌, ◌*◌, ◌-◌, ◌^◌, List, [], ◌∷◌, Bool, cond, leb, ltb, eqb, ℤ, pos, negsuc, length, take, drop}
use Rattle.basis.specs.Limits.{max_width, max_frame_bytes, table_words}
use Rattle.basis.specs.Bits.{frame_bits}
use Rattle.basis.specs.Patterns.{pattern_value}
use Rattle.table_layout.specs.Places.{word}
use Rattle.table_layout.specs.Constructs.{construct_at}
use Rattle.table_layout.specs.Attributes.{attributes_of}
use Rattle.table_layout.specs.declared.Construct.{Construct}
use Rattle.run_fields.specs.declared.Answer.{Answer}

-- how many bits a field has: a literal "8 bits a character", "a range of one-character literals" 8, `uint(width, set)` and `sint(width, set)` their width; what
-- is no field has none
abbrev pub field_width : Construct → ℕ
field_width Construct.Missing = 0
field_width (Construct.Alternative size) = 0
field_width (Construct.Concatenation size) = 0
field_width (Construct.Repetition size passes) = 0
field_width (Construct.Switch size) = 0
field_width (Construct.Use rule) = 0
field_width (Construct.Literal n) = 8 * n
field_width (Construct.Range low high) = 8
field_width (Construct.Uint signed width start end binder) = width
field_width Construct.Eod = 0

-- it is a sint
abbrev pub field_signed : Construct → Bool
field_signed c = (attributes_of c).signed

-- a whole number in 64 bits: "a signed value in two's complement of 64 bits" (Req 10, of a list of values)
abbrev pub in_64_bits : ℤ → ℕ
in_64_bits (pos n) = n
in_64_bits (negsuc n) = 2 ^ 64 - suc n

-- the number that the w bits from bit p on are, "most significant bit first"; 0 for more than 64 bits, which only a literal has
abbrev pub field_value : List ℕ → Bool → (p w : ℕ) → ℕ
field_value fs signed p w = cond (leb w max_width) (in_64_bits (pattern_value signed (take w (drop p (frame_bits fs))))) 0

-- a field of construct i with w bits from bit p on
abbrev pub field_in : List ℕ → Bool → (i p w : ℕ) → Answer
field_in fs signed i p w =
    cond (eqb w 0) Answer.NoField (cond (leb (p + w) (8 * length fs)) (Answer.Found i p w (field_value fs signed p w)) Answer.Outside)

-- construct i of the table at bit p
abbrev pub field_at : (ws fs : List ℕ) → (i p : ℕ) → Answer
field_at ws fs i p = cond (ltb (length ws) table_words) Answer.NoField (field_in fs (field_signed (construct_at ws i)) i p (field_width (construct_at ws i)))

-- field k: the words 2k and 2k + 1 of the reading
abbrev pub field_of : (ws fs rs : List ℕ) → (k : ℕ) → Answer
field_of ws fs rs k =
    cond (ltb max_frame_bytes (length fs)) Answer.LongFrame
    (cond (leb (2 * k + 2) (length rs)) (field_at ws fs (word rs (2 * k)) (word rs (2 * k + 1))) Answer.NoWords)

-- document 01's numbers, those that are closest where it has none for a reading: 21 for the frame, 22 for a reading that ends before the two
-- words, 23 for a table without such a field, 24 for bits outside of the frame
abbrev pub number_of : Answer → ℕ
number_of Answer.LongFrame = 21
number_of Answer.NoWords = 22
number_of Answer.NoField = 23
number_of Answer.Outside = 24
number_of (Answer.Found i p w v) = 0

-- what is told of it: construct, first bit, width and value; of a refusal nothing
abbrev pub told : Answer → List ℕ
told Answer.LongFrame = []
told Answer.NoWords = []
told Answer.NoField = []
told Answer.Outside = []
told (Answer.Found i p w v) = i ∷ p ∷ w ∷ v ∷ []
