-- Facts, and how a list of them is printed: as text, and as JSON (this project's own).
use Rattle.std.specs.Prelude.{ℕ, Bool, List, [], ◌∷◌, ◌++◌, map, codes, if◌then◌else◌}
use Rattle.std.specs.List.{flat_map}
use Rattle.std.specs.Fmt.{decimal}
use Rattle.std.specs.Str.{is_utf8}
use Rattle.serde_json.specs.Data.{Data, Members, number, unsigned, string, array, object}
use Rattle.serde_json.specs.Data.{no_members, put}
use Rattle.serde_json.specs.View.{items_of}
use Rattle.serde_json.specs.Written.{compact_text}

-- a number, a word of this program's, or a text from outside, which may be no UTF-8
pub data Scalar : Type 0 where
  Number : ℕ → Scalar
  Word : List ℕ → Scalar
  Text : List ℕ → Scalar

-- a named part of a value
abbrev pub Field : Type 0
Field = List ℕ × Scalar

-- A scalar; or one whose name is told, too, in either form; or several, with names in JSON alone.
pub data FactValue : Type 0 where
  Plain : Scalar → FactValue
  Tagged : Field → FactValue
  Fields : List Field → FactValue

-- A name with its value. Or any number of values: the name that each has, and the one for all.
pub data Fact : Type 0 where
  Single : List ℕ → FactValue → Fact
  Listed : List ℕ → List ℕ → List FactValue → Fact

-- ---- as text

-- a scalar: digits, or its bytes as they are
abbrev pub scalar_text : Scalar → List ℕ
scalar_text (Number n) = decimal n
scalar_text (Word word) = word
scalar_text (Text text) = text

-- after a space
abbrev pub spaced : Scalar → List ℕ
spaced scalar = codes " " ++ scalar_text scalar

-- a value: its scalars in order, each after a space, behind its name where it is tagged
abbrev pub value_text : FactValue → List ℕ
value_text (Plain scalar) = spaced scalar
value_text (Tagged field) = codes " " ++ field.0 ++ spaced field.1
value_text (Fields fields) = flat_map (λ (field : Field). spaced field.1) fields

-- a line: a name and a value
abbrev pub fact_line : List ℕ → FactValue → List ℕ
fact_line name value = name ++ value_text value ++ codes "\n"

-- a line; or one for each value
abbrev pub fact_text : Fact → List ℕ
fact_text (Single name value) = fact_line name value
fact_text (Listed each all values) = flat_map (fact_line each) values

-- all facts, in their order
abbrev pub facts_text : List Fact → List ℕ
facts_text facts = flat_map fact_text facts

-- ---- as JSON

-- a member of an object: its name, and its value
abbrev pub Member : Type 0
Member = List ℕ × Data

-- members, put in one after another
abbrev pub put_all : List Member → Members → Members
put_all [] ms = ms
put_all (m ∷ more) ms = put_all more (put m.0 m.1 ms)

-- an object of these, in the order of their names
abbrev pub object_of : List Member → Data
object_of members = object (put_all members no_members)

-- a list of values
abbrev pub list_data : {T : Type 0} → (T → Data) → List T → Data
list_data value items = array (items_of (map value items))

-- a number
abbrev pub number_data : ℕ → Data
number_data n = number (unsigned n)

-- A text of UTF-8 is a string, and another one the list of its bytes.
abbrev pub text_data : List ℕ → Data
text_data text = if is_utf8 text then string text else list_data number_data text

-- a scalar: a number, or a string
abbrev pub scalar_data : Scalar → Data
scalar_data (Number n) = number_data n
scalar_data (Word word) = string word
scalar_data (Text text) = text_data text

-- a named part, as a member
abbrev pub field_member : Field → Member
field_member field = (field.0, scalar_data field.1)

-- a value: its scalar, or an object
abbrev pub value_data : FactValue → Data
value_data (Plain scalar) = scalar_data scalar
value_data (Tagged field) = object_of (field_member field ∷ [])
value_data (Fields fields) = object_of (map field_member fields)

-- a fact, as a member
abbrev pub fact_member : Fact → Member
fact_member (Single name value) = (name, value_data value)
fact_member (Listed each all values) = (all, list_data value_data values)

-- one object of all facts
abbrev pub facts_data : List Fact → Data
facts_data facts = object_of (map fact_member facts)

-- ---- what is printed of a list of facts

-- the text of that object on a line, or one fact a line
abbrev pub facts_words : Bool → List Fact → List ℕ
facts_words as_json facts =
    if as_json then compact_text (facts_data facts) ++ codes "\n" else facts_text facts
