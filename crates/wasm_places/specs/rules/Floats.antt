-- The opcodes and the types of floats (Core Specification 1.0, sections 5.3.1 and 5.4). A name is a
-- type, and what is behind it.
use Rattle.std.specs.Prelude.{ℕ, ◌-◌, ◌==◌, ◌&&◌, nat_le, Bool, if◌then◌else◌, List, [], Option}
use Rattle.std.specs.Prelude.{Some, None, codes}

-- a comparison, by its place among those of its type
abbrev pub comparison_word : ℕ → List ℕ
comparison_word place =
    if place == 0 then codes ".eq"
    else if place == 1 then codes ".ne"
    else if place == 2 then codes ".lt"
    else if place == 3 then codes ".gt"
    else if place == 4 then codes ".le"
    else codes ".ge"

-- an operator from one type to the same, by its place among those of its type
abbrev pub arithmetic_word : ℕ → List ℕ
arithmetic_word place =
    if place == 0 then codes ".abs"
    else if place == 1 then codes ".neg"
    else if place == 2 then codes ".ceil"
    else if place == 3 then codes ".floor"
    else if place == 4 then codes ".trunc"
    else if place == 5 then codes ".nearest"
    else if place == 6 then codes ".sqrt"
    else if place == 7 then codes ".add"
    else if place == 8 then codes ".sub"
    else if place == 9 then codes ".mul"
    else if place == 10 then codes ".div"
    else if place == 11 then codes ".min"
    else if place == 12 then codes ".max"
    else codes ".copysign"

-- a conversion to an integer, by its place among those of its type
abbrev pub trunc_word : ℕ → List ℕ
trunc_word place =
    if place == 0 then codes ".trunc_f32_s"
    else if place == 1 then codes ".trunc_f32_u"
    else if place == 2 then codes ".trunc_f64_s"
    else codes ".trunc_f64_u"

-- a conversion of an integer, by its place among those of its type
abbrev pub convert_word : ℕ → List ℕ
convert_word place =
    if place == 0 then codes ".convert_i32_s"
    else if place == 1 then codes ".convert_i32_u"
    else if place == 2 then codes ".convert_i64_s"
    else codes ".convert_i64_u"

-- from the first number to the last one
abbrev pub is_from : ℕ → ℕ → ℕ → Bool
is_from first last byte = nat_le first byte && nat_le byte last

-- a name of these two parts
abbrev pub words_are : List ℕ → List ℕ → Option (List ℕ × List ℕ)
words_are value_type operation = Some (value_type, operation)

-- The name of an opcode of floats, or of one of their types. Opcodes with the two numbers of types
-- are of integers.
abbrev pub float_words : ℕ → Option (List ℕ × List ℕ)
float_words b =
    if b == 0x2a then words_are (codes "f32") (codes ".load")
    else if b == 0x2b then words_are (codes "f64") (codes ".load")
    else if b == 0x38 then words_are (codes "f32") (codes ".store")
    else if b == 0x39 then words_are (codes "f64") (codes ".store")
    else if b == 0x43 then words_are (codes "f32") (codes ".const")
    else if b == 0x44 then words_are (codes "f64") (codes ".const")
    else if is_from 0x5b 0x60 b then words_are (codes "f32") (comparison_word (b - 0x5b))
    else if is_from 0x61 0x66 b then words_are (codes "f64") (comparison_word (b - 0x61))
    else if b == 0x7c then words_are (codes "f64") []
    else if b == 0x7d then words_are (codes "f32") []
    else if is_from 0x8b 0x98 b then words_are (codes "f32") (arithmetic_word (b - 0x8b))
    else if is_from 0x99 0xa6 b then words_are (codes "f64") (arithmetic_word (b - 0x99))
    else if is_from 0xa8 0xab b then words_are (codes "i32") (trunc_word (b - 0xa8))
    else if is_from 0xae 0xb1 b then words_are (codes "i64") (trunc_word (b - 0xae))
    else if is_from 0xb2 0xb5 b then words_are (codes "f32") (convert_word (b - 0xb2))
    else if b == 0xb6 then words_are (codes "f32") (codes ".demote_f64")
    else if is_from 0xb7 0xba b then words_are (codes "f64") (convert_word (b - 0xb7))
    else if b == 0xbb then words_are (codes "f64") (codes ".promote_f32")
    else if b == 0xbc then words_are (codes "i32") (codes ".reinterpret_f32")
    else if b == 0xbd then words_are (codes "i64") (codes ".reinterpret_f64")
    else if b == 0xbe then words_are (codes "f32") (codes ".reinterpret_i32")
    else if b == 0xbf then words_are (codes "f64") (codes ".reinterpret_i64")
    else None
